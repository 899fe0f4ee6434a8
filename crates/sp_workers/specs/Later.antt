-- Work that is done beside the planners, after some of its steps.
use Rattle.std.specs.Prelude.{◌≡◌, ℕ, ◌≤◌}
use Rattle.sp_publish.specs.Published.{PublishedList, ListGoesOn}

-- the second stands after some steps of the first: what there is to do in all is the same, what it knows of its list
-- goes on, and no more steps are left
pub record StandsLater {S W : Type 0} (task : S → W) (seen : S → PublishedList) (ahead : S → ℕ) (x y : S) : Type 0 where
  pub work : task y ≡ task x
  pub known : ListGoesOn (seen x) (seen y)
  pub steps : ahead y ≤ ahead x
