use Rattle.std.proofs.Common.{◌≡◌, ◌≢◌, ◌∷◌, ◌++◌, ℕ, List, codes, Bool, true, false}
use Rattle.sp_planfile.specs.PlanText.{version_line}
use Rattle.sp_filed.proofs.heads.version_first.Goals as goal

no_version : (b : Bool) (source rest : List ℕ) → ((r : List ℕ) → source ≢ codes "perseus-plan 2\n" ++ r) → ((r : List ℕ) → source ≢ codes "perseus-plan 1\n" ++ r) → source ≡ version_line b ++ (10 ∷ rest) → ⊥
no_version true source rest two one is = two rest is
no_version false source rest two one is = one rest is

pub returns-in-None : goal.returns-in-None
returns-in-None c = λ b rest is. no_version b c.args.source.now rest c.in_default.ensures c.in-None.ensures is
