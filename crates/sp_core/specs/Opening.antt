-- A book before any event.
use Rattle.std.specs.Prelude.{[], ◌∷◌, replicate, false}
use Rattle.sp_value.specs.Tasks.{TaskParts}
use Rattle.sp_ledger.specs.Opening.{first_edition}
use Rattle.sp_core.specs.Books.{BookParts}

-- no event, edition 0, and no mark
abbrev pub first_parts : TaskParts → BookParts
first_parts t = record { task = t; history = []; editions = first_edition t ∷ []; taken = replicate t.options.beliefs false }
