use Rattle.sp_model.specs.declared.parts.Parts.{Parts}
use Rattle.std.specs.Arc.{arc_value}
use Rattle.sp_filed.specs.Files.{IsModelText}
use Rattle.sp_filed.proofs.Stopped.{match_some}
use Rattle.sp_filed.proofs.PlanFiles.{fault_told, file_told}
use Rattle.sp_filed.proofs.read.read_whole.Goals as goal

pub returns-in-Ok-read_rest-clause-ok : goal.returns-in-Ok-read_rest-clause-ok
returns-in-Ok-read_rest-clause-ok c =
    let text = match_some ((p : Parts) → ¬ (IsModelText c.in-Some.body.now p)) (λ (p : Parts). IsModelText c.in-Some.body.now p) c.in-Ok-model_of.found c.in-Some-found.model c.in-Some-found.is c.in-Ok-model_of.ensures in
    let f = c.in-Ok-read_rest.filed in
    file_told c.args.source.now c.in-Ok.found.1.now c.in-Some.body.now c.in-Some.rest.now c.in-Ok.found.0 c.in-Some-found.model c.in-Ok.ensures.ok c.in-Some.ensures.0 c.in-Some.ensures.1 text (arc_value f.run.task) f.run.events f.values f.transcript c.in-Ok-read_rest.ensures.ok

pub returns-in-Err-read_rest-clause-err : goal.returns-in-Err-read_rest-clause-err
returns-in-Err-read_rest-clause-err c = λ left kind e.
    let text = match_some ((p : Parts) → ¬ (IsModelText c.in-Some.body.now p)) (λ (p : Parts). IsModelText c.in-Some.body.now p) c.in-Ok-model_of.found c.in-Some-found.model c.in-Some-found.is c.in-Ok-model_of.ensures in
    fault_told c.args.source.now c.in-Ok.found.1.now c.in-Some.body.now c.in-Some.rest.now c.in-Ok.found.0 c.in-Some-found.model c.in-Ok.ensures.ok c.in-Some.ensures.0 c.in-Some.ensures.1 text left kind (c.in-Err-read_rest.ensures.err left kind e)
