-- Trees as the canonical text spells them.
use Rattle.std.specs.Prelude.{◌≡◌, ℕ, ◌+◌, ℤ, pos, List, [], ◌∷◌, ◌++◌, map, slice_index_or, Some}
use Rattle.sp_syntax.specs.declared.text.Tree.{Tree}
use Rattle.sp_syntax.specs.Grammar.{IsTree}
use Rattle.sp_spelled.specs.Signs.{Gap, tight, space, Spelled, IsWordText}
use Rattle.sp_spelled.specs.Shapes.{group}
use Rattle.sp_spelled.specs.Written.{Written}
use Rattle.sp_dd.specs.declared.part.Part.{Part}
use Rattle.sp_dd.specs.declared.part.Part.TheVariants.{Leaf, At}
use Rattle.sp_dd.specs.NodeLists.{Node}
use Rattle.sp_dd.specs.Operations.{everywhere}
use Rattle.sp_trees.specs.declared.slots.Slots.{Slots}
use Rattle.sp_trees.specs.declared.env.Dd.{Dd}
use Rattle.sp_trees.specs.declared.env.Env.{Env}
use Rattle.sp_trees.specs.Words.{number_of}
use Rattle.sp_trees.specs.Slots.{none}
use Rattle.sp_trees.specs.Judge.{judgement}
use Rattle.sp_written.specs.Acceptance.{acceptance_of, branched_dd}

-- in any source that spells it, the tree means this
abbrev pub Means : Env → Slots → Dd → List ℕ → Tree → Type 0
Means env allowed d source t = judgement env source allowed t ≡ acceptance_of d

-- the signs are a tree that means this
abbrev pub WritesTree : Env → Slots → Dd → ℕ → List Spelled → Type 0
WritesTree env allowed d depth us = Written IsTree (Means env allowed d) depth us

-- the same value everywhere
abbrev pub constant_dd : Env → ℤ → Dd
constant_dd env z = record { mentions = none; func = everywhere env.scope z }

-- each tree means its own
abbrev pub AreWritten : Env → Slots → ℕ → List (List Spelled) → List Dd → Type 0
AreWritten env allowed depth [] [] = Unit {0}
AreWritten env allowed depth [] (d ∷ ds) = ⊥
AreWritten env allowed depth (u ∷ us) [] = ⊥
AreWritten env allowed depth (u ∷ us) (d ∷ ds) = WritesTree env allowed d depth u × AreWritten env allowed depth us ds

-- the words are the names from k on
abbrev pub AreNamesFrom : List (List ℕ) → ℕ → List (List ℕ) → Type 0
AreNamesFrom names k [] = Unit {0}
AreNamesFrom names k (x ∷ xs) = IsWordText x × (number_of names x ≡ Some k) × AreNamesFrom names (k + 1) xs

abbrev pub gap_before : {X : Type 0} → List X → Gap
gap_before [] = tight
gap_before (x ∷ xs) = space

-- the branches of a node, with a space behind each but the last
abbrev pub branch_signs : List (List ℕ) → List (List Spelled) → List Spelled
branch_signs [] us = []
branch_signs (x ∷ xs) [] = []
branch_signs (x ∷ xs) (u ∷ us) = group x u (gap_before us) ++ branch_signs xs us

-- the trees of a list
abbrev pub list_signs : List (List Spelled) → List Spelled
list_signs [] = []
list_signs (u ∷ us) = u ++ list_signs us

-- ---- the dds of a function's nodes
abbrev pub no_dd : Dd
no_dd = record { mentions = none; func = record { shape = record { sizes = []; variables = 0 }; leaves = [] } }

-- what a part means, where the nodes before it mean those
abbrev pub part_dd : Env → List Dd → Part → Dd
part_dd env made (Leaf z) = constant_dd env z
part_dd env made (At i) = slice_index_or made i (constant_dd env (pos 0))

abbrev pub node_dd : Env → List Dd → Node → Dd
node_dd env made n = branched_dd env n.slot (map (part_dd env made) n.parts)

-- what the nodes mean, one after another
abbrev pub dds_of : Env → List Dd → List Node → List Dd
dds_of env made [] = made
dds_of env made (n ∷ ns) = dds_of env (made ++ node_dd env made n ∷ []) ns
