-- Trees as they are spelled.
use Rattle.std.proofs.Common.{◌≡◌, ℕ, zero, suc, ◌≤◌, ◌<◌, List, [], ◌∷◌, ◌++◌, Some, refl, sym, ap, ◌∙◌, subst, length, arith}
use Rattle.std.specs.Prelude.{IsTrue}
use Rattle.sp_lex.specs.declared.lexeme.Span.{Span}
use Rattle.sp_syntax.specs.declared.class.Classed.{Classed}
use Rattle.sp_syntax.specs.declared.class.WordClass.TheVariants as the_word
use Rattle.sp_syntax.specs.declared.class.TokenClass.TheVariants as class
use Rattle.sp_syntax.specs.declared.text.Tree.{Tree}
use Rattle.sp_syntax.specs.declared.text.Tree.TheVariants as tree
use Rattle.sp_syntax.specs.declared.text.Branch.{Branch, roll-Branch}
use Rattle.sp_syntax.specs.Classes.{text_of, word_class, primed_class, primed_by}
use Rattle.sp_syntax.specs.Grammar.{IsTree, IsBranch, AreBranches, AreTrees, is_number, number, reference, node, primed_node, sum, product, branch, no_branches, more_branches, no_trees, more_trees}
use Rattle.sp_syntax.specs.Refusal.{leave, room_then}
use Rattle.sp_spelled.specs.Signs.{Sign, opens, closes, left_square, right_square, plus, star, word, primed, Gap, tight, space, Spelled, IsWordText, IsSpaced, sign_class, span_without_last, IsSpelled, AreSpelled}
use Rattle.sp_spelled.specs.Shapes.{sign, leaf, group, primed_group, sum_group, product_group}
use Rattle.sp_spelled.specs.Written.{sign_room, IsBalanced, Written}
use Rattle.sp_spelled.proofs.Written.{spaced_both, room_both, balanced_nothing, no_tokens, enclosed, written_enclosed, written_both}

pub spaced_leaf : (w : List ℕ) (g : Gap) → IsWordText w → IsSpaced (leaf w g)
spaced_leaf w g h = (tt, tt, (h, tt, (tt, tt, tt)))

pub balanced_leaf : (w : List ℕ) (g : Gap) → IsBalanced 1 (leaf w g)
balanced_leaf w g zero l = absurd (omega arith)
balanced_leaf w g (suc n) l = refl

pub spaced_group : (w : List ℕ) (us : List Spelled) (g : Gap) → IsWordText w → IsSpaced us → IsSpaced (group w us g)
spaced_group w us g h k = (tt, tt, (h, tt, spaced_both us (sign closes g ∷ []) k (tt, tt, tt)))

-- brackets round a part
balanced_inside : (depth n : ℕ) (us : List Spelled) (b : Spelled) → IsBalanced depth us → depth ≤ n → leave n (sign_class b.sign) ≡ Some (suc n) → sign_room n (us ++ b ∷ []) ≡ Some (suc n)
balanced_inside depth n us b h l e = room_both n us (b ∷ []) ∙ ap (room_then (λ m. sign_room m (b ∷ []))) (h n l) ∙ ap (room_then (λ m. Some m)) e

pub balanced_group : (depth : ℕ) (w : List ℕ) (us : List Spelled) (g : Gap) → IsBalanced depth us → IsBalanced (suc depth) (group w us g)
balanced_group depth w us g h zero l = absurd (omega arith)
balanced_group depth w us g h (suc n) l = balanced_inside depth n us (sign closes g) h (omega arith) refl

pub spaced_primed : (w : List ℕ) (us : List Spelled) (g : Gap) → IsWordText w → IsSpaced us → IsSpaced (primed_group w us g)
spaced_primed w us g h k = (tt, tt, (h, tt, spaced_both us (sign closes g ∷ []) k (tt, tt, tt)))

-- a name is primed
pub primed_name : (w : List ℕ) → word_class w ≡ the_word.Name → primed_class w ≡ class.Primed
unfolding primed_class
primed_name w e = ap primed_by e

pub balanced_primed : (depth : ℕ) (w : List ℕ) (us : List Spelled) (g : Gap) → word_class w ≡ the_word.Name → IsBalanced depth us → IsBalanced (suc depth) (primed_group w us g)
balanced_primed depth w us g e h zero l = absurd (omega arith)
balanced_primed depth w us g e h (suc n) l =
    ap (λ c. room_then (λ m. sign_room m (us ++ sign closes g ∷ [])) (leave n c)) (primed_name w e) ∙ balanced_inside depth n us (sign closes g) h (omega arith) refl

pub balanced_square : (depth : ℕ) (s : Sign) (us : List Spelled) (g : Gap) → ((n : ℕ) → leave n (sign_class s) ≡ Some n) → IsBalanced depth us → IsBalanced (suc depth) (sign left_square tight ∷ sign s space ∷ (us ++ sign right_square g ∷ []))
balanced_square depth s us g calm h zero l = absurd (omega arith)
balanced_square depth s us g calm h (suc n) l = ap (room_then (λ m. sign_room m (us ++ sign right_square g ∷ []))) (calm n) ∙ balanced_inside depth n us (sign right_square g) h (omega arith) refl

-- ---- the productions
-- three tokens
record Leaf (source : List ℕ) (ts : List Classed) (w : List ℕ) : Type 0 where
  pub left : Classed
  pub at : Classed
  pub right : Classed
  pub whole : ts ≡ left ∷ at ∷ right ∷ []
  pub left_is : IsSpelled source left opens
  pub at_is : IsSpelled source at (word w)
  pub right_is : IsSpelled source right closes

leaf_tokens : (source : List ℕ) (ts : List Classed) (w : List ℕ) (g : Gap) → AreSpelled source ts (leaf w g) → Leaf source ts w
leaf_tokens source ts w g s =
    let e = enclosed source ts (sign opens tight) (sign (word w) tight) [] (sign closes g) s in
    record { left = e.left; at = e.head; right = e.right; whole = e.whole ∙ ap (λ l. e.left ∷ e.head ∷ (l ++ e.right ∷ [])) (no_tokens source e.inner e.inner_is); left_is = e.left_is; at_is = e.head_is; right_is = e.right_is }

pub written_number : (w : List ℕ) (g : Gap) (P : List ℕ → Tree → Type 0) → IsWordText w → IsTrue (is_number (class.Word (word_class w)))
    → ((source : List ℕ) (left at right : Span) → text_of source at ≡ w → P source (tree.Number left at right)) → Written IsTree P 1 (leaf w g)
written_number w g P h c p = record {
  spaced = spaced_leaf w g h;
  balanced = balanced_leaf w g;
  reads = λ source ts s.
      let l = leaf_tokens source ts w g s in (
        tree.Number l.left.span l.at.span l.right.span,
        number l.left l.at l.right l.left_is.class (subst (λ k. IsTrue (is_number k)) (sym l.at_is.class) c) l.right_is.class refl l.whole,
        p source l.left.span l.at.span l.right.span l.at_is.says,
      );
}

pub written_reference : (w : List ℕ) (g : Gap) (P : List ℕ → Tree → Type 0) → IsWordText w → word_class w ≡ the_word.Name
    → ((source : List ℕ) (left at right : Span) → text_of source at ≡ w → P source (tree.Reference left at right)) → Written IsTree P 1 (leaf w g)
written_reference w g P h c p = record {
  spaced = spaced_leaf w g h;
  balanced = balanced_leaf w g;
  reads = λ source ts s.
      let l = leaf_tokens source ts w g s in (
        tree.Reference l.left.span l.at.span l.right.span,
        reference l.left l.at l.right l.left_is.class (l.at_is.class ∙ ap class.Word c) l.right_is.class refl l.whole,
        p source l.left.span l.at.span l.right.span l.at_is.says,
      );
}

module _ (w : List ℕ) (us : List Spelled) (g : Gap) (depth : ℕ) (Q : List ℕ → List Branch → Type 0) (P : List ℕ → Tree → Type 0) (h : IsWordText w) (name : word_class w ≡ the_word.Name)
    (part : Written AreBranches Q depth us) (some : (source : List ℕ) (bs : List Branch) → Q source bs → 0 < length bs) where
  pub written_node : ((source : List ℕ) (left at : Span) (bs : List Branch) (right : Span) → text_of source at ≡ w → Q source bs → P source (tree.Node left at bs right)) → Written IsTree P (suc depth) (group w us g)
  written_node p = written_enclosed AreBranches IsTree Q P (sign opens tight) (sign (word w) space) us (sign closes g) depth (suc depth) part (spaced_group w us g h part.spaced) (balanced_group depth w us g part.balanced)
      (λ source left head right bs ts l a r is q. make source left head right bs ts l a r is q)
    where
      make : (source : List ℕ) (left head right : Classed) (bs : List Branch) (ts : List Classed) → IsSpelled source left opens → IsSpelled source head (word w) → IsSpelled source right closes → AreBranches bs ts → Q source bs
          → (t : Tree) × IsTree t (left ∷ head ∷ (ts ++ right ∷ [])) × P source t
      make source left head right [] ts l a r is q = let none = some source [] q in absurd (omega arith)
      make source left head right (b ∷ bs) ts l a r is q =
          (tree.Node left.span head.span (b ∷ bs) right.span, node left head right b bs ts l.class (a.class ∙ ap class.Word name) is r.class refl refl, p source left.span head.span (b ∷ bs) right.span a.says q)

  pub written_primed : ((source : List ℕ) (left at : Span) (bs : List Branch) (right : Span) → text_of source (span_without_last at) ≡ w → Q source bs → P source (tree.PrimedNode left at bs right)) → Written IsTree P (suc depth) (primed_group w us g)
  written_primed p = written_enclosed AreBranches IsTree Q P (sign opens tight) (sign (primed w) space) us (sign closes g) depth (suc depth) part (spaced_primed w us g h part.spaced) (balanced_primed depth w us g name part.balanced)
      (λ source left head right bs ts l a r is q. make source left head right bs ts l a r is q)
    where
      make : (source : List ℕ) (left head right : Classed) (bs : List Branch) (ts : List Classed) → IsSpelled source left opens → IsSpelled source head (primed w) → IsSpelled source right closes → AreBranches bs ts → Q source bs
          → (t : Tree) × IsTree t (left ∷ head ∷ (ts ++ right ∷ [])) × P source t
      make source left head right [] ts l a r is q = let none = some source [] q in absurd (omega arith)
      make source left head right (b ∷ bs) ts l a r is q =
          (tree.PrimedNode left.span head.span (b ∷ bs) right.span, primed_node left head right b bs ts l.class (a.class ∙ primed_name w name) is r.class refl refl, p source left.span head.span (b ∷ bs) right.span a.says q)

module _ (us : List Spelled) (g : Gap) (depth : ℕ) (Q : List ℕ → List Tree → Type 0) (P : List ℕ → Tree → Type 0) (part : Written AreTrees Q depth us) (some : (source : List ℕ) (list : List Tree) → Q source list → 0 < length list) where
  pub written_sum : ((source : List ℕ) (left at : Span) (list : List Tree) (right : Span) → Q source list → P source (tree.Sum left at list right)) → Written IsTree P (suc depth) (sum_group us g)
  written_sum p = written_enclosed AreTrees IsTree Q P (sign left_square tight) (sign plus space) us (sign right_square g) depth (suc depth) part
      (tt, tt, (tt, tt, spaced_both us (sign right_square g ∷ []) part.spaced (tt, tt, tt))) (balanced_square depth plus us g (λ n. refl) part.balanced)
      (λ source left head right list ts l a r is q. make source left head right list ts l a r is q)
    where
      make : (source : List ℕ) (left head right : Classed) (list : List Tree) (ts : List Classed) → IsSpelled source left left_square → IsSpelled source head plus → IsSpelled source right right_square → AreTrees list ts → Q source list
          → (t : Tree) × IsTree t (left ∷ head ∷ (ts ++ right ∷ [])) × P source t
      make source left head right [] ts l a r is q = let none = some source [] q in absurd (omega arith)
      make source left head right (t ∷ list) ts l a r is q =
          (tree.Sum left.span head.span (t ∷ list) right.span, sum left head right t list ts l.class a.class is r.class refl refl, p source left.span head.span (t ∷ list) right.span q)

  pub written_product : ((source : List ℕ) (left at : Span) (list : List Tree) (right : Span) → Q source list → P source (tree.Product left at list right)) → Written IsTree P (suc depth) (product_group us g)
  written_product p = written_enclosed AreTrees IsTree Q P (sign left_square tight) (sign star space) us (sign right_square g) depth (suc depth) part
      (tt, tt, (tt, tt, spaced_both us (sign right_square g ∷ []) part.spaced (tt, tt, tt))) (balanced_square depth star us g (λ n. refl) part.balanced)
      (λ source left head right list ts l a r is q. make source left head right list ts l a r is q)
    where
      make : (source : List ℕ) (left head right : Classed) (list : List Tree) (ts : List Classed) → IsSpelled source left left_square → IsSpelled source head star → IsSpelled source right right_square → AreTrees list ts → Q source list
          → (t : Tree) × IsTree t (left ∷ head ∷ (ts ++ right ∷ [])) × P source t
      make source left head right [] ts l a r is q = let none = some source [] q in absurd (omega arith)
      make source left head right (t ∷ list) ts l a r is q =
          (tree.Product left.span head.span (t ∷ list) right.span, product left head right t list ts l.class a.class is r.class refl refl, p source left.span head.span (t ∷ list) right.span q)

-- a branch
pub written_branch : (w : List ℕ) (us : List Spelled) (g : Gap) (depth : ℕ) (Q : List ℕ → Tree → Type 0) (P : List ℕ → Branch → Type 0) → IsWordText w → Written IsTree Q depth us
    → ((source : List ℕ) (left at : Span) (t : Tree) (right : Span) → text_of source at ≡ w → Q source t → P source (roll-Branch (record { left = left; value = at; tree = t; right = right }))) → Written IsBranch P (suc depth) (group w us g)
written_branch w us g depth Q P h part p = written_enclosed IsTree IsBranch Q P (sign opens tight) (sign (word w) space) us (sign closes g) depth (suc depth) part (spaced_group w us g h part.spaced) (balanced_group depth w us g part.balanced)
    (λ source left head right t ts l a r is q. (
      roll-Branch (record { left = left.span; value = head.span; tree = t; right = right.span }),
      branch left head right t ts l.class (word_class w, a.class) is r.class refl refl,
      p source left.span head.span t right.span a.says q,
    ))

-- ---- lists of branches and of trees
pub written_no_branches : (P : List ℕ → List Branch → Type 0) → ((source : List ℕ) → P source []) → Written AreBranches P 0 []
written_no_branches P p = record { spaced = tt; balanced = balanced_nothing 0; reads = λ source ts s. ([], no_branches (no_tokens source ts s), p source) }

pub written_more_branches : (us vs : List Spelled) (depth : ℕ) (P : List ℕ → Branch → Type 0) (Q R : List ℕ → List Branch → Type 0) → Written IsBranch P depth us → Written AreBranches Q depth vs
    → ((source : List ℕ) (b : Branch) (bs : List Branch) → P source b → Q source bs → R source (b ∷ bs)) → Written AreBranches R depth (us ++ vs)
written_more_branches us vs depth P Q R first then p = written_both IsBranch AreBranches AreBranches P Q R us vs depth first then
    (λ source b bs ts more is are p1 q1. (b ∷ bs, more_branches ts more is are refl, p source b bs p1 q1))

pub written_no_trees : (P : List ℕ → List Tree → Type 0) → ((source : List ℕ) → P source []) → Written AreTrees P 0 []
written_no_trees P p = record { spaced = tt; balanced = balanced_nothing 0; reads = λ source ts s. ([], no_trees (no_tokens source ts s), p source) }

pub written_more_trees : (us vs : List Spelled) (depth : ℕ) (P : List ℕ → Tree → Type 0) (Q R : List ℕ → List Tree → Type 0) → Written IsTree P depth us → Written AreTrees Q depth vs
    → ((source : List ℕ) (t : Tree) (list : List Tree) → P source t → Q source list → R source (t ∷ list)) → Written AreTrees R depth (us ++ vs)
written_more_trees us vs depth P Q R first then p = written_both IsTree AreTrees AreTrees P Q R us vs depth first then
    (λ source t list ts more is are p1 q1. (t ∷ list, more_trees ts more is are refl, p source t list p1 q1))
