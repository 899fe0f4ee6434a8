-- What judging gives.
use Rattle.std.specs.Prelude.{List, fold, Option, Some, None, Result, Ok, Err}
use Rattle.sp_dd.specs.Func.{Func}
use Rattle.sp_trees.specs.declared.refusal.Refusal.{Refusal}
use Rattle.sp_trees.specs.declared.slots.Slots.{Slots}
use Rattle.sp_trees.specs.declared.judged.Judged.{Judged}
use Rattle.sp_trees.specs.declared.judged.Listed.{Listed}
use Rattle.sp_trees.specs.Refusals.{lesser}
use Rattle.sp_trees.specs.Slots.{none, union}

-- the refusal of an outcome
abbrev pub refusal : Result Func Refusal → Option Refusal
refusal (Ok f) = None
refusal (Err r) = Some r

-- the first refusal inside trees
abbrev pub inside : List Judged → Option Refusal
inside js = fold (λ first j. lesser first (refusal j.outcome)) None js

-- the first refusal inside branches
abbrev pub inside_branches : List Listed → Option Refusal
inside_branches ls = fold (λ first l. lesser first (refusal l.judged.outcome)) None ls

-- what trees mention
abbrev pub mentions_of_trees : List Judged → Slots
mentions_of_trees js = fold (λ all j. union all j.mentions) none js

-- what branches mention, and some slots more
abbrev pub mentioned_in_branches : Slots → List Listed → Slots
mentioned_in_branches more ls = fold (λ all l. union all l.judged.mentions) more ls
