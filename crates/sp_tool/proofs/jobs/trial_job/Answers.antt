use Rattle.std.proofs.Common.{ℕ, List, ◌∙◌, subst, codes}
use Rattle.sp_reader.specs.Sources.{Reads}
use Rattle.sp_tool.proofs.TableLemmas.{generated_fault}
use Rattle.sp_tool.proofs.jobs.trial_job.Goals as goal

pub returns-clause-text : goal.returns-clause-text
returns-clause-text g c =
    let P : List ℕ → Type 0 = λ source. Reads source c.in-Ok.model in
    (c.in-Ok.model, subst P c.in_ok-source.ensures (subst P c.as_bytes.ensures.value c.in-Ok.ensures.model), c.in_ok-text.ensures)

pub returns-in-Err-clause-fault : goal.returns-in-Err-clause-fault
returns-in-Err-clause-fault g c = generated_fault c.args.number (codes "generated") _ c.in-Err.fault c.requires.number (c.as_bytes.ensures.value ∙ c.in_ok-source.ensures) c.in-Err.ensures.fault
