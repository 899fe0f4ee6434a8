-- Logs, as the theory has them.
use Rattle.std.specs.Prelude.{List, map}
use Rattle.sp_theory.specs.Logs as theory
use Rattle.sp_session.specs.declared.logs.Entry.{Entry}
use Rattle.sp_session.specs.declared.logs.Entry.TheVariants.{Told, Act, Observe, Unseen, Closing}
use Rattle.sp_session.specs.declared.logs.SessionLog.{SessionLog}

abbrev pub entry_of : Entry → theory.Entry
entry_of (Told edition) = theory.told edition
entry_of (Act edition member action) = theory.act edition member action
entry_of (Observe observation) = theory.observe observation
entry_of (Unseen observation) = theory.unseen observation
entry_of (Closing edition member action) = theory.closing edition member action

abbrev pub entries_of : List Entry → List theory.Entry
entries_of entries = map entry_of entries

abbrev pub log_of : SessionLog → theory.Log
log_of log = record { name = log.name; entries = entries_of log.entries }

abbrev pub logs_of : List SessionLog → List theory.Log
logs_of logs = map log_of logs
