-- Judging, step by step, and what holds of each judged tree.
use Rattle.std.proofs.Common.{◌≡◌, ℕ, ◌+◌, ◌<◌, ◌≤◌, Bool, true, false, List, [], ◌∷◌, ◌++◌, length, map, take, get_or, take_all, Option, Some, refl, sym, ap, ◌∙◌}
use Rattle.std.proofs.lemmas.List.{take_more, map-append}
use Rattle.sp_lex.specs.declared.lexeme.Span.{Span}
use Rattle.sp_syntax.specs.declared.text.Tree.{Tree}
use Rattle.sp_syntax.specs.declared.text.Tree.TheVariants as tree
use Rattle.sp_syntax.specs.declared.text.Tree.TheOpen.{Tree-F}
use Rattle.sp_syntax.specs.declared.text.Tree.TheFolds.{fold-roll-Tree}
use Rattle.sp_syntax.specs.declared.text.Branch.{Branch}
use Rattle.sp_trees.specs.declared.slots.Slots.{Slots}
use Rattle.sp_trees.specs.declared.env.Env.{Env}
use Rattle.sp_trees.specs.declared.judged.Judged.{Judged}
use Rattle.sp_trees.specs.declared.judged.Listed.{Listed}
use Rattle.sp_trees.specs.declared.lists.Op.TheVariants as op
use Rattle.sp_trees.specs.Words.{text, name_span}
use Rattle.sp_trees.specs.Single.{number, reference}
use Rattle.sp_trees.specs.Lists.{list_of}
use Rattle.sp_trees.specs.declared.nodes.Branching.{Branching}
use Rattle.sp_trees.specs.declared.nodes.Place.{Place}
use Rattle.sp_trees.specs.Nodes.{place_of, values_of, branching_on, known_node}
use Rattle.sp_trees.specs.Judge.{Branched, listed_branch, node_by, node, tree_step, branch_step, judgement, judgement_of_branch}

module _ (env : Env) (source : List ℕ) (allowed : Slots) where
  pub number_is : (left word right : Span) → judgement env source allowed (tree.Number left word right) ≡ number env.scope source word
  number_is left word right = ap (judgement env source allowed) (sym (tree.rolls-Number left word right)) ∙ fold-roll-Tree Judged Branched (tree_step env source allowed) branch_step (Tree-F.Number left word right)

  pub reference_is : (left word right : Span) → judgement env source allowed (tree.Reference left word right) ≡ reference env.dds allowed source word
  reference_is left word right = ap (judgement env source allowed) (sym (tree.rolls-Reference left word right)) ∙ fold-roll-Tree Judged Branched (tree_step env source allowed) branch_step (Tree-F.Reference left word right)

  pub node_is : (left word : Span) (bs : List Branch) (right : Span) → judgement env source allowed (tree.Node left word bs right) ≡ node env source allowed false left word (map (judgement_of_branch env source allowed) bs)
  node_is left word bs right = ap (judgement env source allowed) (sym (tree.rolls-Node left word bs right)) ∙ fold-roll-Tree Judged Branched (tree_step env source allowed) branch_step (Tree-F.Node left word bs right)

  pub primed_is : (left word : Span) (bs : List Branch) (right : Span) → judgement env source allowed (tree.PrimedNode left word bs right) ≡ node env source allowed true left word (map (judgement_of_branch env source allowed) bs)
  primed_is left word bs right = ap (judgement env source allowed) (sym (tree.rolls-PrimedNode left word bs right)) ∙ fold-roll-Tree Judged Branched (tree_step env source allowed) branch_step (Tree-F.PrimedNode left word bs right)

  pub sum_is : (left plus : Span) (ts : List Tree) (right : Span) → judgement env source allowed (tree.Sum left plus ts right) ≡ list_of env.scope op.Sum left.start (map (judgement env source allowed) ts)
  sum_is left plus ts right = ap (judgement env source allowed) (sym (tree.rolls-Sum left plus ts right)) ∙ fold-roll-Tree Judged Branched (tree_step env source allowed) branch_step (Tree-F.Sum left plus ts right)

  pub product_is : (left star : Span) (ts : List Tree) (right : Span) → judgement env source allowed (tree.Product left star ts right) ≡ list_of env.scope op.Product left.start (map (judgement env source allowed) ts)
  product_is left star ts right = ap (judgement env source allowed) (sym (tree.rolls-Product left star ts right)) ∙ fold-roll-Tree Judged Branched (tree_step env source allowed) branch_step (Tree-F.Product left star ts right)

-- ---- the loops

pub map_step : {A B : Type 0} (f : A → B) (xs : List A) (i : ℕ) (d : A) → i < length xs → map f (take i xs) ++ f (get_or xs i d) ∷ [] ≡ map f (take (i + 1) xs)
map_step f xs i d h = sym (ap (map f) (take_more xs i d h) ∙ map-append f (take i xs) (get_or xs i d ∷ []))

pub map_over : {A B : Type 0} (f : A → B) (xs : List A) (i : ℕ) → length xs ≤ i → map f (take i xs) ≡ map f xs
map_over f xs i h = ap (map f) (take_all i xs h)

map_map : {A B C : Type 0} (f : B → C) (g : A → B) (xs : List A) → map f (map g xs) ≡ map (λ x. f (g x)) xs
map_map f g [] = refl
map_map f g (x ∷ xs) = ap (λ ys. f (g x) ∷ ys) (map_map f g xs)

-- ---- a node of a known variable

pub node_known : (env : Env) (source : List ℕ) (allowed : Slots) (is_primed : Bool) (left word : Span) (bs : List Branch) (name : List ℕ) (answer : Option Place) (p : Place) (n : Branching) (values : List (List ℕ)) (ls : List Listed)
    → name ≡ text source (name_span is_primed word) → answer ≡ place_of env name → answer ≡ Some p → n ≡ branching_on env is_primed p left.start word.start → values ≡ values_of env p
    → ls ≡ map (λ b. listed_branch source values (judgement_of_branch env source allowed b)) bs
    → known_node env.scope allowed n ls ≡ node env source allowed is_primed left word (map (judgement_of_branch env source allowed) bs)
node_known env source allowed is_primed left word bs name answer p n values ls t a q e v l =
    let place : place_of env (text source (name_span is_primed word)) ≡ Some p = ap (place_of env) (sym t) ∙ sym a ∙ q in
    let branches : ls ≡ map (listed_branch source (values_of env p)) (map (judgement_of_branch env source allowed) bs) =
    l ∙ ap (λ vs. map (λ b. listed_branch source vs (judgement_of_branch env source allowed b)) bs) v ∙ sym (map_map (listed_branch source (values_of env p)) (judgement_of_branch env source allowed) bs) in
    ap (λ m. known_node env.scope allowed m ls) e ∙ ap (known_node env.scope allowed (branching_on env is_primed p left.start word.start)) branches
    ∙ sym (ap (node_by env source allowed is_primed left word (map (judgement_of_branch env source allowed) bs)) place)
