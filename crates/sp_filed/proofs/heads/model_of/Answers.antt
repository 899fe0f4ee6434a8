use Rattle.std.proofs.Common.{◌≡◌, ◌≢◌, ℕ, List, ap, sym, ◌∙◌, Ok, Err, Option, Some, None, Result, subst}
use Rattle.std.specs.Prelude.{IfOk, MatchOption}
use Rattle.sp_dd.specs.declared.NoMemory.{NoMemory}
use Rattle.sp_model.specs.declared.parts.Parts.{Parts}
use Rattle.sp_reader.specs.Sources.{Reads}
use Rattle.sp_reader.proofs.SourceLemmas.{not_refused, one_meaning}
use Rattle.sp_planfile.specs.ModelText.{model_bytes}
use Rattle.sp_filed.specs.Files.{IsModelText}
use Rattle.sp_filed.proofs.heads.model_of.Goals as goal

told : (r : Result (Option Parts) NoMemory) (body : List ℕ) (model : Parts) → Reads body model
    → IfOk r (λ found. MatchOption found (body ≢ model_bytes model) (λ p. (p ≡ model) × (body ≡ model_bytes model)))
    → IfOk r (λ found. MatchOption found ((p : Parts) → ¬ (IsModelText body p)) (λ p. IsModelText body p))
told (Ok None) body model reads none = λ p text. none (text.1 ∙ ap model_bytes (one_meaning body p model text.0 reads))
told (Ok (Some p)) body model reads found = (subst (Reads body) (sym found.0) reads, found.1 ∙ ap model_bytes (sym found.0))
told (Err e) body model reads h = tt

pub returns-in-Ok : goal.returns-in-Ok
returns-in-Ok c = told c.canonical.result c.args.body.now c.in-Ok.model c.in-Ok.ensures.model c.canonical.ensures

pub returns-in-Err-Refused : goal.returns-in-Err-Refused
returns-in-Err-Refused c = λ p text. not_refused c.args.body.now p c.in-Err-Refused.field-0-0 c.in-Err-Refused.field-0-1 text.0 (c.in-Err-Refused.ensures.refused c.in-Err-Refused.field-0-0 c.in-Err-Refused.field-0-1 (ap Err c.in-Err-Refused.field-0-is))
