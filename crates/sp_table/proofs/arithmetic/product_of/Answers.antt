use Rattle.std.proofs.Common.{◌≡◌, ap, arith, lit<, ◌∙◌, to_z, of_z}
use Rattle.std.specs.Prelude.{unsigned_abs, FitsSigned, ◌*ℤ◌}
use Rattle.std.specs.Int.{w128}
use Rattle.sp_table.proofs.FrameLemmas.{op_same}
use Rattle.std.proofs.lemmas.Int.{unsigned_abs-mul, fits_signed_mul, to_z-of_z}
use Rattle.sp_table.proofs.arithmetic.product_of.Goals as goal

-- the product as the code has it
value : (c : goal.Start) → to_z w128 (of_z w128 (to_z w128 (of_z w128 c.args.a) *ℤ to_z w128 (of_z w128 c.args.b))) ≡ c.args.a *ℤ c.args.b
value c =
    let inner = op_same (λ a b. a *ℤ b) _ _ _ _ (to_z-of_z w128 c.args.a c.ranges.a) (to_z-of_z w128 c.args.b c.ranges.b) in
    let fits : FitsSigned w128 (c.args.a *ℤ c.args.b) = fits_signed_mul w128 c.args.a c.args.b _ _ c.requires.small_a c.requires.small_b (lit< tt) in
    ap (λ z. to_z w128 (of_z w128 z)) inner ∙ to_z-of_z w128 _ fits

pub returns-clause-value : goal.returns-clause-value
returns-clause-value c = value c

pub returns-clause-bound : goal.returns-clause-bound
returns-clause-bound c =
    let same = ap unsigned_abs (value c) in
    let whole = unsigned_abs-mul c.args.a c.args.b in
    omega (arith, same, whole)
