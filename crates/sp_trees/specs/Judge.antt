-- What a tree means, and the refusal inside it that comes first.
use Rattle.std.specs.Prelude.{ℕ, Bool, true, false, List, [], map, Option, Some, None}
use Rattle.sp_lex.specs.declared.lexeme.Span.{Span}
use Rattle.sp_syntax.specs.declared.text.Tree.{Tree}
use Rattle.sp_syntax.specs.declared.text.Tree.TheOpen.{Tree-F, Branch-F}
use Rattle.sp_syntax.specs.declared.text.Tree.TheFolds.{fold-Tree, fold-Branch}
use Rattle.sp_syntax.specs.declared.text.Branch.{Branch}
use Rattle.sp_trees.specs.declared.slots.Slots.{Slots}
use Rattle.sp_trees.specs.declared.env.Env.{Env}
use Rattle.sp_trees.specs.declared.judged.Judged.{Judged}
use Rattle.sp_trees.specs.declared.judged.Listed.{Listed}
use Rattle.sp_trees.specs.declared.lists.Op.TheVariants as op
use Rattle.sp_trees.specs.declared.nodes.Place.{Place}
use Rattle.sp_trees.specs.Words.{text, number_of, name_span}
use Rattle.sp_trees.specs.Single.{number, reference}
use Rattle.sp_trees.specs.Lists.{list_of}
use Rattle.sp_trees.specs.Nodes.{place_of, values_of, branching_on, known_node, unknown_node}

-- a branch: the word of its value, and what judging its tree gave
pub record Branched : Type 0 where
  pub word : Span
  pub judged : Judged

-- a branch where a variable's values have these names
abbrev pub listed_branch : List ℕ → List (List ℕ) → Branched → Listed
listed_branch source values b = record { at = b.word.start; value = number_of values (text source b.word); judged = b.judged }

abbrev pub node_by : Env → List ℕ → Slots → Bool → Span → Span → List Branched → Option Place → Judged
node_by env source allowed is_primed left word bs None = unknown_node word.start (map (listed_branch source []) bs)
node_by env source allowed is_primed left word bs (Some p) =
    known_node env.scope allowed (branching_on env is_primed p left.start word.start) (map (listed_branch source (values_of env p)) bs)

-- a node
abbrev pub node : Env → List ℕ → Slots → Bool → Span → Span → List Branched → Judged
node env source allowed is_primed left word bs = node_by env source allowed is_primed left word bs (place_of env (text source (name_span is_primed word)))

-- a tree, from what its parts give
abbrev pub tree_step : Env → List ℕ → Slots → Tree-F Judged Branched → Judged
tree_step env source allowed (Tree-F.Number left word right) = number env.scope source word
tree_step env source allowed (Tree-F.Reference left word right) = reference env.dds allowed source word
tree_step env source allowed (Tree-F.Node left word bs right) = node env source allowed false left word bs
tree_step env source allowed (Tree-F.PrimedNode left word bs right) = node env source allowed true left word bs
tree_step env source allowed (Tree-F.Sum left plus js right) = list_of env.scope op.Sum left.start js
tree_step env source allowed (Tree-F.Product left star js right) = list_of env.scope op.Product left.start js

abbrev pub branch_step : Branch-F Judged Branched → Branched
branch_step b = record { word = b.value; judged = b.tree }

-- what judging a tree gives
abbrev pub judgement : Env → List ℕ → Slots → Tree → Judged
judgement env source allowed = fold-Tree Judged Branched (tree_step env source allowed) branch_step

abbrev pub judgement_of_branch : Env → List ℕ → Slots → Branch → Branched
judgement_of_branch env source allowed = fold-Branch Judged Branched (tree_step env source allowed) branch_step
