-- Reading a tree takes what the machine takes, and gives a tree of the grammar.
use Rattle.std.proofs.Common.{◌≡◌, ℕ, zero, suc, ◌-◌, List, [], ◌∷◌, ◌++◌, Bool, true, false, Some, Ok, Err, refl, sym, ap, subst, arith}
use Rattle.std.proofs.Math.Dec.{eqb-suc-zero}
use Rattle.std.specs.Prelude.{if◌then◌else◌}
use Rattle.sp_lex.specs.declared.lexeme.Span.{Span}
use Rattle.sp_syntax.specs.declared.class.WordClass.TheVariants as word
use Rattle.sp_syntax.specs.declared.class.TokenClass.{TokenClass}
use Rattle.sp_syntax.specs.declared.class.TokenClass.TheVariants as class
use Rattle.sp_syntax.specs.declared.class.Classed.{Classed}
use Rattle.sp_syntax.specs.declared.error.SyntaxKind.TheVariants as kind
use Rattle.sp_syntax.specs.declared.text.Tree.{Tree}
use Rattle.sp_syntax.specs.declared.text.Tree.TheVariants as tree
use Rattle.sp_syntax.specs.declared.text.Branch.{Branch, roll-Branch}
use Rattle.sp_syntax.specs.Grammar.{IsA, IsWord, IsNumber, IsTree, number, reference, node, primed_node, sum, product, IsBranch, branch, AreBranches, no_branches, more_branches, AreTrees, no_trees, more_trees, AreAll}
use Rattle.sp_syntax.specs.Reading as spec
use Rattle.sp_syntax.specs.Reading.{Read, head_class, ◌>>=◌, is_open, is_close, is_right_square, is_word, one_of, several}
use Rattle.sp_syntax.proofs.Machine.{Sym, AClose, AWord, ATree, AfterOpen, AfterSquare, MoreTrees, ABranch, MoreBranches, run}
use Rattle.sp_syntax.proofs.Good.{Good, on, same, done, entered, under, taken, behind, token_good, Lists, lists, several_good, then_one, then_several}
use Rattle.sp_syntax.proofs.Tokens.{close_means, right_square_means, closed, closed_square, kept_word, close_reads, word_reads}

abbrev pub tok : TokenClass → Span → Classed
tok c s = record { class = c; span = s }

-- lists of branches and of trees as the mutual relations have them
pub to_branches : (rs : List Branch) (ts : List Classed) → AreAll IsBranch rs ts → AreBranches rs ts
to_branches [] ts e = no_branches e
to_branches (r ∷ rs) ts (us, vs, h, k, e) = more_branches us vs h (to_branches rs vs k) e

pub from_branches : (rs : List Branch) (ts : List Classed) → AreBranches rs ts → AreAll IsBranch rs ts
from_branches [] ts (no_branches e) = e
from_branches (r ∷ rs) ts (more_branches us vs h k e) = (us, vs, h, from_branches rs vs k, e)

pub to_trees : (rs : List Tree) (ts : List Classed) → AreAll IsTree rs ts → AreTrees rs ts
to_trees [] ts e = no_trees e
to_trees (r ∷ rs) ts (us, vs, h, k, e) = more_trees us vs h (to_trees rs vs k) e

pub from_trees : (rs : List Tree) (ts : List Classed) → AreTrees rs ts → AreAll IsTree rs ts
from_trees [] ts (no_trees e) = e
from_trees (r ∷ rs) ts (more_trees us vs h k e) = (us, vs, h, from_trees rs vs k, e)

-- no tree and no branch is empty
pub tree_some : (t : Tree) → IsTree t [] → ⊥
tree_some t (number a w b ea ew eb et e) = cc
tree_some t (reference a w b ea ew eb et e) = cc
tree_some t (node a w b first more us ea ew hm eb et e) = cc
tree_some t (primed_node a w b first more us ea ew hm eb et e) = cc
tree_some t (sum a w b first more us ea ew hm eb et e) = cc
tree_some t (product a w b first more us ea ew hm eb et e) = cc

pub branch_some : (r : Branch) → IsBranch r [] → ⊥
branch_some r (branch a w b t us ea ew ht eb er e) = cc

-- ---- a branch, where inner reads a tree

branch_at : (inner : Read Tree) (end left : ℕ) (c : TokenClass) (s : Span) (ts : List Classed)
    → ((l : ℕ) → left ≡ suc l → (us : List Classed) → Good IsTree end l (on ATree) l same (inner us) us)
    → Good IsBranch end left (on ABranch) left same (spec.branch_on inner end left (Some c) (tok c s ∷ ts)) (tok c s ∷ ts)
branch_at inner end zero class.Open s ts h = λ ss. refl
branch_at inner end (suc l) class.Open s ts h =
    let a : Classed = tok class.Open s in
    subst (λ b. Good IsBranch end (suc l) (on ABranch) (suc l) same (if b then Err (spec.here_as (a ∷ ts) kind.TooDeep) else (one_of is_word end ts >>= λ value. inner value.1 >>= λ t. one_of is_close end t.1 >>= λ right. Ok (roll-Branch (record { left = s; value = value.0; tree = t.0; right = right.0 }), right.1))) (a ∷ ts)) (sym (eqb-suc-zero l))
    (taken IsBranch end (suc l) (on ABranch) l (λ ss. AWord ∷ ATree ∷ AClose ∷ ss) (suc l) same a _ ts (λ ss. refl)
    (then_one (λ r v. IsBranch r (a ∷ v)) end l (λ ss. AWord ∷ ATree ∷ AClose ∷ ss) l (λ ss. ATree ∷ AClose ∷ ss) (suc l) same ts IsWord (one_of is_word end ts) _
    (under _ end l (on AWord) l same (λ ss. ATree ∷ AClose ∷ ss) _ ts (token_good AWord is_word IsWord word_reads end l l (kept_word l) ts)) (λ w us1 hw.
    behind IsTree (λ r v. IsBranch r (a ∷ w ∷ v)) end l (λ ss. ATree ∷ AClose ∷ ss) l (on AClose) (suc l) same us1 (inner us1) _
    (under _ end l (on ATree) l same (on AClose) _ us1 (h l refl us1)) (λ t us2 used ht e2.
    then_one (λ r v. IsBranch r (a ∷ w ∷ (used ++ v))) end l (on AClose) (suc l) same (suc l) same us2 (IsA class.Close) (one_of is_close end us2) _
    (token_good AClose is_close (IsA class.Close) close_reads end l (suc l) (closed l) us2) (λ b us3 hb.
    done (λ r v. IsBranch r (a ∷ w ∷ (used ++ (b ∷ v)))) end (suc l) same _ us3 (branch a w b t used refl hw ht hb refl refl))))))
branch_at inner end zero _ s ts h = λ ss. refl
branch_at inner end (suc l) _ s ts h = λ ss. refl

pub branch_good : (inner : Read Tree) (end left : ℕ) (ts : List Classed)
    → ((l : ℕ) → left ≡ suc l → (us : List Classed) → Good IsTree end l (on ATree) l same (inner us) us)
    → Good IsBranch end left (on ABranch) left same (spec.branch inner end left ts) ts
unfolding spec.branch
branch_good inner end left [] h = λ ss. refl
branch_good inner end left (t ∷ ts) h = branch_at inner end left t.class t.span ts h

branches_list : (one : Read Branch) (end left : ℕ) → ((us : List Classed) → Good IsBranch end left (on ABranch) left same (one us) us) → Lists IsBranch (IsA class.Close) is_close one ABranch MoreBranches end left (suc left)
branches_list one end left h = lists IsBranch (IsA class.Close) is_close one ABranch MoreBranches end left (suc left) (λ c. refl) (λ ss c. refl) (λ ss c. refl) (closed left) refl (λ t e. close_means t.class e) h branch_some

trees_list : (one : Read Tree) (end left : ℕ) → ((us : List Classed) → Good IsTree end left (on ATree) left same (one us) us) → Lists IsTree (IsA class.RightSquare) is_right_square one ATree MoreTrees end left (suc left)
trees_list one end left h = lists IsTree (IsA class.RightSquare) is_right_square one ATree MoreTrees end left (suc left) (λ c. refl) (λ ss c. refl) (λ ss c. refl) (closed_square left) refl (λ t e. right_square_means t.class e) h tree_some

-- ---- behind a bracket

-- a tree, without its bracket
abbrev pub IsRound : Span → Tree → List Classed → Type 0
IsRound a t ts = IsTree t (tok class.Open a ∷ ts)

abbrev pub IsSquare : Span → Tree → List Classed → Type 0
IsSquare a t ts = IsTree t (tok class.LeftSquare a ∷ ts)

-- a tree, without its bracket and its name
abbrev pub IsNamed : Span → Span → Tree → List Classed → Type 0
IsNamed a n t ts = IsTree t (tok class.Open a ∷ tok (class.Word word.Name) n ∷ ts)

module _ (one : Read Branch) (end left : ℕ) (a : Span) (h : (us : List Classed) → Good IsBranch end left (on ABranch) left same (one us) us) where
  node_good : (n : Span) (ts : List Classed) → ((ss : List Sym) → run end left (MoreBranches ∷ ss) ts ≡ run end left (ABranch ∷ MoreBranches ∷ ss) ts)
      → Good (IsNamed a n) end left (on MoreBranches) (suc left) same (spec.after_name_on one end a n false ts) ts
  node_good n ts goes =
      entered (IsNamed a n) end left (on MoreBranches) (λ ss. ABranch ∷ MoreBranches ∷ ss) (suc left) same _ ts goes
      (then_several (IsNamed a n) end left (λ ss. ABranch ∷ MoreBranches ∷ ss) (suc left) same (suc left) same ts IsBranch (IsA class.Close) (several is_close one end ts) _
      (several_good IsBranch (IsA class.Close) is_close one ABranch MoreBranches end left (suc left) (branches_list one end left h) ts) (λ first more vs us b hx hb.
      done (λ t v. IsNamed a n t (vs ++ (b ∷ v))) end (suc left) same _ us
      (node (tok class.Open a) (tok (class.Word word.Name) n) b first more vs refl refl (to_branches (first ∷ more) vs hx) hb refl refl)))

  after_name_good : (n : Span) (ts : List Classed) → Good (IsNamed a n) end left (on MoreBranches) (suc left) same (spec.after_name one end a n ts) ts
  unfolding spec.after_name
  after_name_good n [] = node_good n [] (λ ss. refl)
  after_name_good n (t ∷ ts) = by (is_close (Some t.class)) refl
    where
      by : (o : Bool) → is_close (Some t.class) ≡ o → Good (IsNamed a n) end left (on MoreBranches) (suc left) same (spec.after_name_on one end a n o (t ∷ ts)) (t ∷ ts)
      by true e = (t ∷ [], reference (tok class.Open a) (tok (class.Word word.Name) n) t refl refl (close_means t.class e) refl refl, refl, λ ss. (branches_list one end left h).stops ss t ts e)
      by false e = node_good n (t ∷ ts) (λ ss. (branches_list one end left h).goes ss t ts e)

  number_good : (c : TokenClass) (s : Span) (ts : List Classed) → IsNumber (tok c s) → ((ss : List Sym) → run end left (AfterOpen ∷ ss) (tok c s ∷ ts) ≡ run end left (AClose ∷ ss) ts)
      → Good (IsRound a) end left (on AfterOpen) (suc left) same (one_of is_close end ts >>= λ b. Ok (tree.Number a s b.0, b.1)) (tok c s ∷ ts)
  number_good c s ts hw runs =
      taken (IsRound a) end left (on AfterOpen) left (on AClose) (suc left) same (tok c s) _ ts runs
      (then_one (λ t v. IsRound a t (tok c s ∷ v)) end left (on AClose) (suc left) same (suc left) same ts (IsA class.Close) (one_of is_close end ts) _
      (token_good AClose is_close (IsA class.Close) close_reads end left (suc left) (closed left) ts) (λ b us hb.
      done (λ t v. IsRound a t (tok c s ∷ b ∷ v)) end (suc left) same _ us (number (tok class.Open a) (tok c s) b refl hw hb refl refl)))

  round_at : (c : TokenClass) (s : Span) (ts : List Classed) → Good (IsRound a) end left (on AfterOpen) (suc left) same (spec.round_on one end a (Some c) (tok c s ∷ ts)) (tok c s ∷ ts)
  round_at (class.Word word.Number) s ts = number_good (class.Word word.Number) s ts refl (λ ss. refl)
  round_at (class.Word word.Minus) s ts = number_good (class.Word word.Minus) s ts refl (λ ss. refl)
  round_at (class.Word word.Name) s ts =
      taken (IsRound a) end left (on AfterOpen) left (on MoreBranches) (suc left) same (tok (class.Word word.Name) s) _ ts (λ ss. refl) (after_name_good s ts)
  round_at class.Primed s ts =
      taken (IsRound a) end left (on AfterOpen) left (λ ss. ABranch ∷ MoreBranches ∷ ss) (suc left) same (tok class.Primed s) _ ts (λ ss. refl)
      (then_several (λ t v. IsRound a t (tok class.Primed s ∷ v)) end left (λ ss. ABranch ∷ MoreBranches ∷ ss) (suc left) same (suc left) same ts IsBranch (IsA class.Close) (several is_close one end ts) _
      (several_good IsBranch (IsA class.Close) is_close one ABranch MoreBranches end left (suc left) (branches_list one end left h) ts) (λ first more vs us b hx hb.
      done (λ t v. IsRound a t (tok class.Primed s ∷ (vs ++ (b ∷ v)))) end (suc left) same _ us
      (primed_node (tok class.Open a) (tok class.Primed s) b first more vs refl refl (to_branches (first ∷ more) vs hx) hb refl refl)))
  round_at _ s ts = λ ss. refl

  pub round_good : (ts : List Classed) → Good (IsRound a) end left (on AfterOpen) (suc left) same (spec.round one end a ts) ts
  unfolding spec.round
  round_good [] = λ ss. refl
  round_good (t ∷ ts) = round_at t.class t.span ts

module _ (one : Read Tree) (end left : ℕ) (a : Span) (h : (us : List Classed) → Good IsTree end left (on ATree) left same (one us) us) where
  square_at : (c : TokenClass) (s : Span) (ts : List Classed) → Good (IsSquare a) end left (on AfterSquare) (suc left) same (spec.square_on one end a (Some c) (tok c s ∷ ts)) (tok c s ∷ ts)
  square_at class.Plus s ts =
      taken (IsSquare a) end left (on AfterSquare) left (λ ss. ATree ∷ MoreTrees ∷ ss) (suc left) same (tok class.Plus s) _ ts (λ ss. refl)
      (then_several (λ t v. IsSquare a t (tok class.Plus s ∷ v)) end left (λ ss. ATree ∷ MoreTrees ∷ ss) (suc left) same (suc left) same ts IsTree (IsA class.RightSquare) (several is_right_square one end ts) _
      (several_good IsTree (IsA class.RightSquare) is_right_square one ATree MoreTrees end left (suc left) (trees_list one end left h) ts) (λ first more vs us b hx hb.
      done (λ t v. IsSquare a t (tok class.Plus s ∷ (vs ++ (b ∷ v)))) end (suc left) same _ us
      (sum (tok class.LeftSquare a) (tok class.Plus s) b first more vs refl refl (to_trees (first ∷ more) vs hx) hb refl refl)))
  square_at class.Star s ts =
      taken (IsSquare a) end left (on AfterSquare) left (λ ss. ATree ∷ MoreTrees ∷ ss) (suc left) same (tok class.Star s) _ ts (λ ss. refl)
      (then_several (λ t v. IsSquare a t (tok class.Star s ∷ v)) end left (λ ss. ATree ∷ MoreTrees ∷ ss) (suc left) same (suc left) same ts IsTree (IsA class.RightSquare) (several is_right_square one end ts) _
      (several_good IsTree (IsA class.RightSquare) is_right_square one ATree MoreTrees end left (suc left) (trees_list one end left h) ts) (λ first more vs us b hx hb.
      done (λ t v. IsSquare a t (tok class.Star s ∷ (vs ++ (b ∷ v)))) end (suc left) same _ us
      (product (tok class.LeftSquare a) (tok class.Star s) b first more vs refl refl (to_trees (first ∷ more) vs hx) hb refl refl)))
  square_at class.Hash s ts = λ ss. refl
  square_at class.Slash s ts = λ ss. refl
  square_at (class.Word word.Minus) s ts = λ ss. refl
  square_at _ s ts = λ ss. refl

  pub square_good : (ts : List Classed) → Good (IsSquare a) end left (on AfterSquare) (suc left) same (spec.square one end a ts) ts
  unfolding spec.square
  square_good [] = λ ss. refl
  square_good (t ∷ ts) = square_at t.class t.span ts

-- ---- a tree

tree_on_at : (inner next : Read Tree) (end left : ℕ) → ((l : ℕ) → left ≡ suc (suc l) → (us : List Classed) → Good IsTree end l (on ATree) l same (inner us) us)
    → ((l : ℕ) → left ≡ suc l → (us : List Classed) → Good IsTree end l (on ATree) l same (next us) us)
    → (c : TokenClass) (s : Span) (ts : List Classed) → Good IsTree end left (on ATree) left same (spec.tree_on inner next end left (Some c) (tok c s ∷ ts)) (tok c s ∷ ts)
tree_on_at inner next end zero h k class.Open s ts = λ ss. refl
tree_on_at inner next end (suc l) h k class.Open s ts =
    subst (λ b. Good IsTree end (suc l) (on ATree) (suc l) same (if b then Err (spec.here_as (tok class.Open s ∷ ts) kind.TooDeep) else (spec.round (spec.branch inner end (suc l - 1)) end s ts)) (tok class.Open s ∷ ts)) (sym (eqb-suc-zero l))
    (let e : l ≡ suc l - 1 = omega arith in subst (λ m. Good IsTree end (suc l) (on ATree) (suc l) same (spec.round (spec.branch inner end m) end s ts) (tok class.Open s ∷ ts)) e
    (taken IsTree end (suc l) (on ATree) l (on AfterOpen) (suc l) same (tok class.Open s) _ ts (λ ss. refl)
    (round_good (spec.branch inner end l) end l s (λ us. branch_good inner end l us (λ m e. h m (ap suc e))) ts)))
tree_on_at inner next end zero h k class.LeftSquare s ts = λ ss. refl
tree_on_at inner next end (suc l) h k class.LeftSquare s ts =
    subst (λ b. Good IsTree end (suc l) (on ATree) (suc l) same (if b then Err (spec.here_as (tok class.LeftSquare s ∷ ts) kind.TooDeep) else (spec.square next end s ts)) (tok class.LeftSquare s ∷ ts)) (sym (eqb-suc-zero l))
    (taken IsTree end (suc l) (on ATree) l (on AfterSquare) (suc l) same (tok class.LeftSquare s) _ ts (λ ss. refl) (square_good next end l s (k l refl) ts))
tree_on_at inner next end zero h k _ s ts = λ ss. refl
tree_on_at inner next end (suc l) h k _ s ts = λ ss. refl

tree_on_good : (inner next : Read Tree) (end left : ℕ) → ((l : ℕ) → left ≡ suc (suc l) → (us : List Classed) → Good IsTree end l (on ATree) l same (inner us) us)
    → ((l : ℕ) → left ≡ suc l → (us : List Classed) → Good IsTree end l (on ATree) l same (next us) us)
    → (ts : List Classed) → Good IsTree end left (on ATree) left same (spec.tree_on inner next end left (head_class ts) ts) ts
tree_on_good inner next end left h k [] = λ ss. refl
tree_on_good inner next end left h k (t ∷ ts) = tree_on_at inner next end left h k t.class t.span ts

at_same : (p : Read Tree) (end l m : ℕ) → m ≡ l → ((us : List Classed) → Good IsTree end m (on ATree) m same (p us) us) → (us : List Classed) → Good IsTree end l (on ATree) l same (p us) us
at_same p end l m e h us = subst (λ m. Good IsTree end m (on ATree) m same (p us) us) e (h us)

tree_to_good : (n end left : ℕ) → n ≡ suc left → (ts : List Classed) → Good IsTree end left (on ATree) left same (spec.tree_to n end left ts) ts
unfolding spec.tree_to
tree_to_good zero end left e ts = absurd (omega arith)
tree_to_good (suc zero) end left e ts = tree_on_good (spec.tree_to zero end (left - 1 - 1)) (spec.tree_to zero end (left - 1)) end left (λ l f. absurd (omega arith)) (λ l f. absurd (omega arith)) ts
tree_to_good (suc (suc n)) end left e ts = tree_on_good (spec.tree_to n end (left - 1 - 1)) (spec.tree_to (suc n) end (left - 1)) end left
    (λ l f us. at_same (spec.tree_to n end (left - 1 - 1)) end l (left - 1 - 1) (omega arith) (tree_to_good n end (left - 1 - 1) (omega arith)) us)
    (λ l f us. at_same (spec.tree_to (suc n) end (left - 1)) end l (left - 1) (omega arith) (tree_to_good (suc n) end (left - 1) (omega arith)) us) ts

pub tree_good : (end left : ℕ) (ts : List Classed) → Good IsTree end left (on ATree) left same (spec.tree_at end left ts) ts
tree_good end left ts = tree_to_good (suc left) end left refl ts
