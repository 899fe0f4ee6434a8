-- The edition 0 of a list that nobody has named.
use Rattle.std.specs.Prelude.{[], false}
use Rattle.sp_value.specs.declared.tasks.Explore.TheVariants.{Uniform}
use Rattle.sp_value.specs.Tasks.{TaskParts}
use Rattle.sp_value.specs.Editions.{EditionParts}

abbrev pub no_task : TaskParts
no_task = record {
  model = record { variables = []; sights = []; scope = record { sizes = []; variables = 0 }; discount = 0; init = []; actions = [] };
  samples = record { list = []; depth = 0 };
  options = record { beliefs = 0; depth = 0; stages = 0; seed = 0; explore = Uniform; prune = false };
}

abbrev pub no_edition : EditionParts
no_edition = record { number = 0; task = no_task; members = [] }
