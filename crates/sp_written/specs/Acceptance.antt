-- Trees that aren't refused.
use Rattle.std.specs.Prelude.{◌≡◌, ℕ, ◌+◌, Bool, true, List, [], ◌∷◌, map, length, fold, Some, Ok}
use Rattle.sp_lex.specs.declared.lexeme.Span.{Span}
use Rattle.sp_dd.specs.Func.{Func}
use Rattle.sp_dd.specs.Operations.{part_chosen}
use Rattle.sp_trees.specs.declared.slots.Slots.{Slots}
use Rattle.sp_trees.specs.declared.env.Dd.{Dd}
use Rattle.sp_trees.specs.declared.env.Env.{Env}
use Rattle.sp_trees.specs.declared.judged.Judged.{Judged}
use Rattle.sp_trees.specs.declared.nodes.Place.{Place}
use Rattle.sp_trees.specs.Words.{text, name_span, number_of}
use Rattle.sp_trees.specs.Slots.{one, union, has}
use Rattle.sp_trees.specs.Nodes.{place_of, values_of, slot_of, is_sayable}
use Rattle.sp_trees.specs.Judge.{Branched, node}

-- judging that isn't refused: what is mentioned, and the function
abbrev pub acceptance_of : Dd → Judged
acceptance_of d = record { mentions = d.mentions; outcome = Ok d.func }

-- branches of the values from k on, whose trees mean these
abbrev pub AreBranched : List ℕ → List (List ℕ) → ℕ → List Branched → List Dd → Type 0
AreBranched source names k [] [] = Unit {0}
AreBranched source names k [] (d ∷ ds) = ⊥
AreBranched source names k (b ∷ bs) [] = ⊥
AreBranched source names k (b ∷ bs) (d ∷ ds) = (number_of names (text source b.word) ≡ Some k) × (b.judged ≡ acceptance_of d) × AreBranched source names (k + 1) bs ds

abbrev pub mentions_of : Slots → List Dd → Slots
mentions_of more ds = fold (λ all d. union all d.mentions) more ds

abbrev pub funcs_of : List Dd → List Func
funcs_of ds = map (λ d. d.func) ds

-- what a node means whose parts mean these
abbrev pub branched_dd : Env → ℕ → List Dd → Dd
branched_dd env slot ds = record { mentions = mentions_of (one slot) ds; func = part_chosen env.scope slot (funcs_of ds) }

-- the word names a variable that may be mentioned
pub record IsSaid (env : Env) (allowed : Slots) (is_primed : Bool) (name : List ℕ) (p : Place) (slot : ℕ) : Type 0 where
  pub place : place_of env name ≡ Some p
  pub slot_is : slot_of env is_primed p ≡ slot
  pub sayable : is_sayable is_primed p ≡ true
  pub mention : has allowed slot ≡ true

abbrev pub NodesAreAccepted : Type 0
NodesAreAccepted = (env : Env) (source : List ℕ) (allowed : Slots) (is_primed : Bool) (left word : Span) (bs : List Branched) (p : Place) (slot : ℕ) (ds : List Dd)
    → IsSaid env allowed is_primed (text source (name_span is_primed word)) p slot → AreBranched source (values_of env p) 0 bs ds → length (values_of env p) ≡ length ds
    → node env source allowed is_primed left word bs ≡ acceptance_of (branched_dd env slot ds)
