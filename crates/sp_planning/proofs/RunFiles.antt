-- What one thread plans is the plan file of a run.
use Rattle.std.proofs.Common.{refl, []}
use Rattle.std.proofs.lemmas.List.Elements.{All-nil}
use Rattle.sp_theory.specs.Book.{opening, editions}
use Rattle.sp_theory.specs.Runs.{replay}
use Rattle.sp_theory.specs.Logs.{Log, IsLegalLog}
use Rattle.sp_value.specs.Events.{events_of}
use Rattle.sp_value.specs.Tasks.{task_of}
use Rattle.sp_script.specs.Served.{commands_of, IsWholeReply}
use Rattle.sp_planning.specs.Laws.{ScriptFilesAreRunFiles, PlanFilesAreRunFiles}

pub script_files_are_run_files : ScriptFilesAreRunFiles
script_files_are_run_files p o chooser cs text f = record {
  task = f.task;
  events = f.events;
  transcript = f.transcript;
  sampled = f.planned.task;
  trusted = f.planned.trusted;
  legal = f.sessions.legal;
  served = f.sessions.served;
  form = f.form;
  is = f.is;
}

pub plan_files_are_run_files : PlanFilesAreRunFiles
plan_files_are_run_files p o chooser text f = record {
  task = f.task;
  events = f.events;
  transcript = [];
  sampled = f.planned.task;
  trusted = f.planned.trusted;
  legal = All-nil (λ (log : Log). IsLegalLog (task_of f.task).model (editions (replay (task_of f.task) (opening (task_of f.task)) (events_of f.events))) log.entries);
  served = record { sessions = refl; replies = All-nil (λ (log : Log). IsWholeReply (commands_of log.name []) log.entries) };
  form = f.form;
  is = f.is;
}
