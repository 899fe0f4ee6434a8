-- Sums and products of judged trees.
use Rattle.std.specs.Prelude.{◌≡◌, ℕ, ◌≤◌, ◌^◌, unsigned_abs, ℤ, pos, List, [], ◌∷◌, Option, Some, None, Result, Ok, Err, if◌then◌else◌}
use Rattle.sp_dd.specs.Func.{Shape, Func, Everywhere}
use Rattle.sp_dd.specs.Operations.{everywhere, plus, product_floor}
use Rattle.sp_trees.specs.declared.refusal.ModelKind.{ModelKind}
use Rattle.sp_trees.specs.declared.refusal.ModelKind.TheVariants as kind
use Rattle.sp_trees.specs.declared.refusal.Refusal.{Refusal}
use Rattle.sp_trees.specs.declared.judged.Judged.{Judged}
use Rattle.sp_trees.specs.declared.lists.Op.{Op}
use Rattle.sp_trees.specs.declared.lists.Op.TheVariants as op
use Rattle.sp_trees.specs.Conditions.{one, is_within, is_product_whole}
use Rattle.sp_trees.specs.Judged.{inside, mentions_of_trees}

-- the greatest magnitude of a partial result, in ticks
abbrev pub greatest_partial : ℕ
greatest_partial = 10 ^ 18

-- a partial result, unless it is too large
abbrev pub partial_within_limit : Func → Result Func ModelKind
partial_within_limit f = if is_within greatest_partial f then Ok f else Err kind.TooLarge

-- a sum, or a product that is a whole number of ticks everywhere
abbrev pub result_of_operation : Op → Func → Func → Result Func ModelKind
result_of_operation op.Sum f g = partial_within_limit (plus f g)
result_of_operation op.Product f g = if is_product_whole f g then partial_within_limit (product_floor f g) else Err kind.TooFine

-- a refused partial result is refused at the list's bracket
abbrev pub at_bracket : ℕ → Result Func ModelKind → Result Func Refusal
at_bracket at (Ok f) = Ok f
at_bracket at (Err k) = Err (record { at = at; kind = k })

abbrev pub result_of_step : Op → ℕ → Func → Func → Result Func Refusal
result_of_step o at f g = at_bracket at (result_of_operation o f g)

-- two functions of one scope that are small enough
pub record CanJoin (f g : Func) : Type 0 where
  pub scopes : f.shape ≡ g.shape
  pub small_left : Everywhere f (λ v. unsigned_abs v ≤ greatest_partial)
  pub small_right : Everywhere g (λ v. unsigned_abs v ≤ greatest_partial)

abbrev pub CanStep : Option Func → Result Func Refusal → Type 0
CanStep None r = Unit {0}
CanStep (Some f) (Ok g) = CanJoin f g
CanStep (Some f) (Err r) = Unit {0}

-- what stands before a tree, and that tree
abbrev pub step : Op → ℕ → Option Func → Result Func Refusal → Result Func Refusal
step o at so_far (Err r) = Err r
step o at None (Ok g) = Ok g
step o at (Some f) (Ok g) = result_of_step o at f g

abbrev pub then_more : Result Func Refusal → (Func → Result (Option Func) Refusal) → Result (Option Func) Refusal
then_more (Ok f) more = more f
then_more (Err r) more = Err r

-- the trees of a list from left to right; where a partial result is refused no later one is formed
unfoldable pub steps : Op → ℕ → Option Func → List Judged → Result (Option Func) Refusal
steps o at so_far [] = Ok so_far
steps o at so_far (j ∷ js) = then_more (step o at so_far j.outcome) (λ f. steps o at (Some f) js)

-- the empty sum, and the empty product
abbrev pub neutral : Op → ℤ
neutral op.Sum = pos 0
neutral op.Product = one

abbrev pub or_neutral : Shape → Op → Result (Option Func) Refusal → Result Func Refusal
or_neutral s o (Err r) = Err r
or_neutral s o (Ok None) = Ok (everywhere s (neutral o))
or_neutral s o (Ok (Some f)) = Ok f

-- partial results are formed only where nothing inside the list is refused
abbrev pub list_by : Shape → Op → ℕ → Option Refusal → List Judged → Result Func Refusal
list_by s o at (Some r) js = Err r
list_by s o at None js = or_neutral s o (steps o at None js)

abbrev pub list_of : Shape → Op → ℕ → List Judged → Judged
list_of s o at js = record { mentions = mentions_of_trees js; outcome = list_by s o at (inside js) js }
