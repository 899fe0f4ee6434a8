-- The sampled beliefs of a task as lists.
use Rattle.std.specs.Prelude.{◌≡◌, ℕ, ◌<◌, List, length, slice_index_or, Option, IfSome}
use Rattle.sp_states.specs.declared.support.SupportList.{SupportList}
use Rattle.sp_value.specs.Tasks.{TaskParts, sampled_func}

-- for each sampled belief its list, or none
pub record AreLists (t : TaskParts) (lists : List (Option SupportList)) : Type 0 where
  pub count : length lists ≡ t.options.beliefs
  pub each : (k : ℕ) (d : Option SupportList) → k < length lists → IfSome (slice_index_or lists k d) (λ l. l ≡ sampled_func t k)
