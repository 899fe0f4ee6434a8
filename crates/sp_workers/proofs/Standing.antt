-- Work that stands after some steps.
use Rattle.std.proofs.Common.{◌≡◌, ℕ, ◌+◌, refl, ◌∙◌, arith}
use Rattle.std.specs.Prelude.{Result, Ok, Err, OnOk, OnErr}
use Rattle.sp_publish.specs.Published.{PublishedList, ListGoesOn}
use Rattle.sp_publish.proofs.PublishedLemmas.{goes_on_self, goes_on_trans}
use Rattle.sp_workers.specs.Later.{StandsLater}

module _ {S W : Type 0} (task : S → W) (seen : S → PublishedList) (ahead : S → ℕ) where
  pub stands_self : (x : S) → StandsLater task seen ahead x x
  stands_self x = record { work = refl; known = goes_on_self (seen x); steps = omega arith }

  pub stands_then : (x y z : S) → StandsLater task seen ahead x y → StandsLater task seen ahead y z → StandsLater task seen ahead x z
  stands_then x y z first next = record {
    work = next.work ∙ first.work;
    known = goes_on_trans (seen x) (seen y) (seen z) first.known next.known;
    steps = let some = first.steps in let more = next.steps in omega (arith, some, more);
  }

  -- after a step that is made, or that finds no memory
  pub stands_step : {T E : Type 0} (x y : S) (r : Result T E) → task y ≡ task x → ListGoesOn (seen x) (seen y) → OnOk r (ahead y + 1 ≡ ahead x) → OnErr r (ahead y ≡ ahead x) → StandsLater task seen ahead x y
  stands_step x y (Ok v) work known ok err = record { work = work; known = known; steps = omega (arith, ok) }
  stands_step x y (Err e) work known ok err = record { work = work; known = known; steps = omega (arith, err) }
