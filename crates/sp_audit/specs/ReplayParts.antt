-- What contracts see of a replay.
use Rattle.std.specs.Prelude.{◌≡◌, ◌<◌, ℤ, List, length}
use Rattle.sp_value.specs.Tasks.{TaskParts}
use Rattle.sp_value.specs.Editions.{EditionParts}

-- what contracts see of a replay: its task, the editions in order, and a value for each
pub record ReplayParts : Type 0 where
  pub task : TaskParts
  pub editions : List EditionParts
  pub values : List ℤ

-- what its type keeps: there is an edition, and each has its value
pub record IsReplay (r : ReplayParts) : Type 0 where
  pub some : 0 < length r.editions
  pub count : length r.values ≡ length r.editions
