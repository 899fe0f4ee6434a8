-- Some tokens are one text at most.
use Rattle.std.proofs.Common.{◌≡◌, ℕ, zero, suc, ◌≤◌, List, [], ◌∷◌, ◌++◌, length, length-append, ◌⊎◌, inl, inr, refl, sym, ap, ◌∙◌, subst, append_assoc, arith}
use Rattle.std.specs.Prelude.{IsTrue}
use Rattle.sp_lex.specs.declared.lexeme.Span.{Span}
use Rattle.sp_syntax.specs.declared.class.WordClass.{WordClass}
use Rattle.sp_syntax.specs.declared.class.WordClass.TheVariants as word
use Rattle.sp_syntax.specs.declared.class.TokenClass.{TokenClass}
use Rattle.sp_syntax.specs.declared.class.TokenClass.TheVariants as class
use Rattle.sp_syntax.specs.declared.class.Classed.{Classed}
use Rattle.sp_syntax.specs.declared.text.Tree.{Tree}
use Rattle.sp_syntax.specs.declared.text.Tree.TheVariants as tree
use Rattle.sp_syntax.specs.declared.text.Branch.{Branch, roll-Branch}
use Rattle.sp_syntax.specs.declared.text.Declaration.{Declaration}
use Rattle.sp_syntax.specs.declared.text.Declarations.{Declarations}
use Rattle.sp_syntax.specs.declared.text.Observed.{Observed}
use Rattle.sp_syntax.specs.declared.text.Item.{Item}
use Rattle.sp_syntax.specs.declared.text.Item.TheVariants as item
use Rattle.sp_syntax.specs.declared.text.Section.{Section}
use Rattle.sp_syntax.specs.declared.text.Section.TheVariants as section
use Rattle.sp_syntax.specs.declared.text.Text.{Text}
use Rattle.sp_syntax.specs.Grammar.{IsA, IsKeyword, is_number, IsTree, number, reference, node, primed_node, sum, product, IsBranch, branch, AreAll, IsValue, IsDeclaration, declaration, AreDeclarations, declarations, IsObserved, observed, IsItem, variable, observe, cost, IsSection, init, dd, action, reward, discount, horizon, tolerance, IsText, text}
use Rattle.sp_syntax.proofs.TreesRead.{from_branches, from_trees, tree_some, branch_some}
use Rattle.sp_syntax.proofs.TextRead.{value_some, declaration_some, observed_some, item_some, section_some}
use Rattle.sp_syntax.proofs.Forward.{head_is, tail_is}

-- parts of at most so many tokens that stand at the front of the same tokens are one, and so is what stands behind them
abbrev Determined : {X : Type 0} → ℕ → (X → List Classed → Type 0) → Type 0
Determined {X = X} n IsX = (x y : X) (us vs ps qs : List Classed) → length us ≤ n → IsX x us → IsX y vs → us ++ ps ≡ vs ++ qs → (x ≡ y) × (ps ≡ qs)

-- no part begins with such a token
abbrev Apart : {X : Type 0} → (X → List Classed → Type 0) → (Classed → Type 0) → Type 0
Apart {X = X} IsX Ends = (x : X) (t : Classed) (us : List Classed) → IsX x (t ∷ us) → Ends t → ⊥

first_length : (us vs : List Classed) (n : ℕ) → length (us ++ vs) ≤ n → (length us ≤ n) × (length vs ≤ n)
first_length us vs n h = let e = length-append us vs in (omega (arith, e, h), omega (arith, e, h))

module _ {X : Type 0} (IsX : X → List Classed → Type 0) (Ends : Classed → Type 0) (some : (x : X) → IsX x [] → ⊥) (apart : Apart IsX Ends) where
  clashes : (x : X) (us vs ps : List Classed) (b : Classed) (qs : List Classed) → IsX x us → Ends b → us ++ ps ≡ b ∷ qs → ⊥
  clashes x [] vs ps b qs h hb e = some x h
  clashes x (u ∷ us) vs ps b qs h hb e = apart x u us h (subst Ends (sym (head_is e)) hb)

  -- lists up to a token
  list_determined : (n : ℕ) → Determined n IsX → (xs ys : List X) (us vs ps qs : List Classed) (b c : Classed) → length us ≤ n → AreAll IsX xs us → AreAll IsX ys vs → Ends b → Ends c
      → us ++ (b ∷ ps) ≡ vs ++ (c ∷ qs) → (xs ≡ ys) × (b ≡ c) × (ps ≡ qs)
  list_determined n d [] [] us vs ps qs b c le hs ks hb hc e =
      let all : b ∷ ps ≡ c ∷ qs = ap (λ z. z ++ (b ∷ ps)) (sym hs) ∙ e ∙ ap (λ z. z ++ (c ∷ qs)) ks in (refl, head_is all, tail_is all)
  list_determined n d [] (y ∷ ys) us vs ps qs b c le hs (v1, v2, hy, ks, ev) hb hc e =
      absurd (clashes y v1 v2 (v2 ++ (c ∷ qs)) b ps hy hb (sym (append_assoc v1 v2 (c ∷ qs)) ∙ ap (λ z. z ++ (c ∷ qs)) (sym ev) ∙ sym e ∙ ap (λ z. z ++ (b ∷ ps)) hs))
  list_determined n d (x ∷ xs) [] us vs ps qs b c le (u1, u2, hx, hs, eu) ks hb hc e =
      absurd (clashes x u1 u2 (u2 ++ (b ∷ ps)) c qs hx hc (sym (append_assoc u1 u2 (b ∷ ps)) ∙ ap (λ z. z ++ (b ∷ ps)) (sym eu) ∙ e ∙ ap (λ z. z ++ (c ∷ qs)) ks))
  list_determined n d (x ∷ xs) (y ∷ ys) us vs ps qs b c le (u1, u2, hx, hs, eu) (v1, v2, hy, ks, ev) hb hc e =
      let le2 : length (u1 ++ u2) ≤ n = subst (λ z. length z ≤ n) eu le in
      let parts = first_length u1 u2 n le2 in
      let one = d x y u1 v1 (u2 ++ (b ∷ ps)) (v2 ++ (c ∷ qs)) parts.0 hx hy
      (sym (append_assoc u1 u2 (b ∷ ps)) ∙ ap (λ z. z ++ (b ∷ ps)) (sym eu) ∙ e ∙ ap (λ z. z ++ (c ∷ qs)) ev ∙ append_assoc v1 v2 (c ∷ qs)) in
      let more = list_determined n d xs ys u2 v2 ps qs b c parts.1 hs ks hb hc one.1 in
      (ap (λ z. z ∷ xs) one.0 ∙ ap (λ z. y ∷ z) more.0, more.1, more.2)

  -- lists up to the end
  all_determined : (n : ℕ) → Determined n IsX → (xs ys : List X) (us vs : List Classed) → length us ≤ n → AreAll IsX xs us → AreAll IsX ys vs → us ≡ vs → xs ≡ ys
  all_determined n d [] [] us vs le hs ks e = refl
  all_determined n d [] (y ∷ ys) us vs le hs ([], v2, hy, ks, ev) e = absurd (some y hy)
  all_determined n d [] (y ∷ ys) us vs le hs (v ∷ v1, v2, hy, ks, ev) e = let f : [] ≡ v ∷ (v1 ++ v2) = sym hs ∙ e ∙ ev in cc
  all_determined n d (x ∷ xs) [] us vs le ([], u2, hx, hs, eu) ks e = absurd (some x hx)
  all_determined n d (x ∷ xs) [] us vs le (u ∷ u1, u2, hx, hs, eu) ks e = let f : [] ≡ u ∷ (u1 ++ u2) = sym ks ∙ sym e ∙ eu in cc
  all_determined n d (x ∷ xs) (y ∷ ys) us vs le (u1, u2, hx, hs, eu) (v1, v2, hy, ks, ev) e =
      let le2 : length (u1 ++ u2) ≤ n = subst (λ z. length z ≤ n) eu le in
      let parts = first_length u1 u2 n le2 in
      let one = d x y u1 v1 u2 v2 parts.0 hx hy (sym eu ∙ e ∙ ev) in
      ap (λ z. z ∷ xs) one.0 ∙ ap (λ z. y ∷ z) (all_determined n d xs ys u2 v2 parts.1 hs ks one.1)

-- ---- trees: round ones and square ones

abbrev named : Span → Span → List Branch → Span → Tree
named a w [] b = tree.Reference a w b
named a w (r ∷ rs) b = tree.Node a w (r ∷ rs) b

abbrev round_tree : TokenClass → Span → Span → List Branch → Span → Tree
round_tree (class.Word word.Name) a w rs b = named a w rs b
round_tree class.Primed a w rs b = tree.PrimedNode a w rs b
round_tree _ a w rs b = tree.Number a w b

abbrev square_tree : TokenClass → Span → Span → List Tree → Span → Tree
square_tree class.Plus a w ts b = tree.Sum a w ts b
square_tree _ a w ts b = tree.Product a w ts b

number_round : (c : TokenClass) (a w b : Span) → IsTrue (is_number c) → tree.Number a w b ≡ round_tree c a w [] b
number_round (class.Word word.Number) a w b h = refl
number_round (class.Word word.Minus) a w b h = refl
number_round _ a w b h = cc

pub record IsRound (t : Tree) (ts : List Classed) : Type 0 where
  a : Classed
  w : Classed
  b : Classed
  rs : List Branch
  us : List Classed
  opens : IsA class.Open a
  parts : AreAll IsBranch rs us
  closes : IsA class.Close b
  is : t ≡ round_tree w.class a.span w.span rs b.span
  whole : ts ≡ a ∷ w ∷ (us ++ (b ∷ []))

pub record IsSquare (t : Tree) (ts : List Classed) : Type 0 where
  a : Classed
  w : Classed
  b : Classed
  rs : List Tree
  us : List Classed
  opens : IsA class.LeftSquare a
  parts : AreAll IsTree rs us
  closes : IsA class.RightSquare b
  is : t ≡ square_tree w.class a.span w.span rs b.span
  whole : ts ≡ a ∷ w ∷ (us ++ (b ∷ []))

either : (t : Tree) (ts : List Classed) → IsTree t ts → IsRound t ts ⊎ IsSquare t ts
either t ts (number a w b ea ew eb et e) = inl (record { a = a; w = w; b = b; rs = []; us = []; opens = ea; parts = refl; closes = eb; is = et ∙ number_round w.class a.span w.span b.span ew; whole = e })
either t ts (reference a w b ea ew eb et e) = inl (record { a = a; w = w; b = b; rs = []; us = []; opens = ea; parts = refl; closes = eb; is = et ∙ ap (λ c. round_tree c a.span w.span [] b.span) (sym ew); whole = e })
either t ts (node a w b first more us ea ew hm eb et e) = inl (record { a = a; w = w; b = b; rs = first ∷ more; us = us; opens = ea; parts = from_branches (first ∷ more) us hm; closes = eb; is = et ∙ ap (λ c. round_tree c a.span w.span (first ∷ more) b.span) (sym ew); whole = e })
either t ts (primed_node a w b first more us ea ew hm eb et e) = inl (record { a = a; w = w; b = b; rs = first ∷ more; us = us; opens = ea; parts = from_branches (first ∷ more) us hm; closes = eb; is = et ∙ ap (λ c. round_tree c a.span w.span (first ∷ more) b.span) (sym ew); whole = e })
either t ts (sum a w b first more us ea ew hm eb et e) = inr (record { a = a; w = w; b = b; rs = first ∷ more; us = us; opens = ea; parts = from_trees (first ∷ more) us hm; closes = eb; is = et ∙ ap (λ c. square_tree c a.span w.span (first ∷ more) b.span) (sym ew); whole = e })
either t ts (product a w b first more us ea ew hm eb et e) = inr (record { a = a; w = w; b = b; rs = first ∷ more; us = us; opens = ea; parts = from_trees (first ∷ more) us hm; closes = eb; is = et ∙ ap (λ c. square_tree c a.span w.span (first ∷ more) b.span) (sym ew); whole = e })

class_clash : {P : Type 0} (c d : TokenClass) (t u : Classed) → t.class ≡ c → u.class ≡ d → t ≡ u → (c ≡ d → ⊥) → P
class_clash c d t u ht hu e ne = absurd (ne (sym ht ∙ ap (λ t. t.class) e ∙ hu))

branch_apart : Apart IsBranch (IsA class.Close)
branch_apart r t us (branch a w b tr vs ea hw ht eb er e) close = class_clash class.Close class.Open t a close ea (head_is e) (λ f. cc)

tree_apart : Apart IsTree (IsA class.RightSquare)
tree_apart r t us h close = by (either r (t ∷ us) h)
  where
    by : IsRound r (t ∷ us) ⊎ IsSquare r (t ∷ us) → ⊥
    by (inl k) = class_clash class.RightSquare class.Open t k.a close k.opens (head_is k.whole) (λ f. cc)
    by (inr k) = class_clash class.RightSquare class.LeftSquare t k.a close k.opens (head_is k.whole) (λ f. cc)

-- what stands between the second token and the last, and what is behind
inner : (a w b : Classed) (us ts ps : List Classed) → ts ≡ a ∷ w ∷ (us ++ (b ∷ [])) → ts ++ ps ≡ a ∷ w ∷ (us ++ (b ∷ ps))
inner a w b us ts ps e = ap (λ z. z ++ ps) e ∙ ap (λ z. a ∷ w ∷ z) (append_assoc us (b ∷ []) ps)

inner_length : (a w b : Classed) (us ts : List Classed) (n : ℕ) → ts ≡ a ∷ w ∷ (us ++ (b ∷ [])) → length ts ≤ suc n → length us ≤ n
inner_length a w b us ts n e le =
    let le2 : length (a ∷ w ∷ (us ++ (b ∷ []))) ≤ suc n = subst (λ z. length z ≤ suc n) e le in
    let f = length-append us (b ∷ []) in omega (arith, f, le2)

branch_determined : (n : ℕ) → Determined n IsTree → Determined (suc n) IsBranch
branch_determined n d r s us vs ps qs le (branch a w b t ts ea hw ht eb er e) (branch a2 w2 b2 t2 ts2 ea2 hw2 ht2 eb2 er2 e2) whole =
    let all = sym (inner a w b ts us ps e) ∙ whole ∙ inner a2 w2 b2 ts2 vs qs e2 in
    let one = d t t2 ts ts2 (b ∷ ps) (b2 ∷ qs) (inner_length a w b ts us n e le) ht ht2 (tail_is (tail_is all)) in (
      er ∙ ap (λ z. roll-Branch (record { left = z.span; value = w.span; tree = t; right = b.span })) (head_is all)
          ∙ ap (λ z. roll-Branch (record { left = a2.span; value = z.span; tree = t; right = b.span })) (head_is (tail_is all))
          ∙ ap (λ z. roll-Branch (record { left = a2.span; value = w2.span; tree = z; right = b.span })) one.0
          ∙ ap (λ z. roll-Branch (record { left = a2.span; value = w2.span; tree = t2; right = z.span })) (head_is one.1) ∙ sym er2,
      tail_is one.1,
    )

lower : {X : Type 0} (n : ℕ) (IsX : X → List Classed → Type 0) → Determined (suc n) IsX → Determined n IsX
lower n IsX d x y us vs ps qs le = d x y us vs ps qs (omega (arith, le))

tree_step : (n : ℕ) → Determined n IsTree → Determined (suc n) IsTree
tree_step n d r s us vs ps qs le h k whole = by (either r us h) (either s vs k)
  where
    by : IsRound r us ⊎ IsSquare r us → IsRound s vs ⊎ IsSquare s vs → (r ≡ s) × (ps ≡ qs)
    by (inl x) (inl y) =
        let all = sym (inner x.a x.w x.b x.us us ps x.whole) ∙ whole ∙ inner y.a y.w y.b y.us vs qs y.whole in
        let more = list_determined IsBranch (IsA class.Close) branch_some branch_apart n (lower n IsBranch (branch_determined n d)) x.rs y.rs x.us y.us ps qs x.b y.b (inner_length x.a x.w x.b x.us us n x.whole le) x.parts y.parts x.closes y.closes (tail_is (tail_is all)) in (
          x.is ∙ ap (λ z. round_tree x.w.class z.span x.w.span x.rs x.b.span) (head_is all) ∙ ap (λ z. round_tree z.class y.a.span z.span x.rs x.b.span) (head_is (tail_is all))
              ∙ ap (λ z. round_tree y.w.class y.a.span y.w.span z x.b.span) more.0 ∙ ap (λ z. round_tree y.w.class y.a.span y.w.span y.rs z.span) more.1 ∙ sym y.is,
          more.2,
        )
    by (inl x) (inr y) =
        let all = sym (inner x.a x.w x.b x.us us ps x.whole) ∙ whole ∙ inner y.a y.w y.b y.us vs qs y.whole in
        class_clash class.Open class.LeftSquare x.a y.a x.opens y.opens (head_is all) (λ f. cc)
    by (inr x) (inl y) =
        let all = sym (inner x.a x.w x.b x.us us ps x.whole) ∙ whole ∙ inner y.a y.w y.b y.us vs qs y.whole in
        class_clash class.LeftSquare class.Open x.a y.a x.opens y.opens (head_is all) (λ f. cc)
    by (inr x) (inr y) =
        let all = sym (inner x.a x.w x.b x.us us ps x.whole) ∙ whole ∙ inner y.a y.w y.b y.us vs qs y.whole in
        let more = list_determined IsTree (IsA class.RightSquare) tree_some tree_apart n d x.rs y.rs x.us y.us ps qs x.b y.b (inner_length x.a x.w x.b x.us us n x.whole le) x.parts y.parts x.closes y.closes (tail_is (tail_is all)) in (
          x.is ∙ ap (λ z. square_tree x.w.class z.span x.w.span x.rs x.b.span) (head_is all) ∙ ap (λ z. square_tree z.class y.a.span z.span x.rs x.b.span) (head_is (tail_is all))
              ∙ ap (λ z. square_tree y.w.class y.a.span y.w.span z x.b.span) more.0 ∙ ap (λ z. square_tree y.w.class y.a.span y.w.span y.rs z.span) more.1 ∙ sym y.is,
          more.2,
        )

tree_determined : (n : ℕ) → Determined n IsTree
tree_determined zero r s [] vs ps qs le h k whole = absurd (tree_some r h)
tree_determined zero r s (u ∷ us) vs ps qs le h k whole = absurd (omega (arith, le))
tree_determined (suc n) r s us vs ps qs le h k whole = tree_step n (tree_determined n) r s us vs ps qs le h k whole

-- ---- the parts of a text

value_determined : (n : ℕ) → Determined n IsValue
value_determined n x y us vs ps qs le (w, hw, es, e) (w2, hw2, es2, e2) whole =
    let all : w ∷ ps ≡ w2 ∷ qs = ap (λ z. z ++ ps) (sym e) ∙ whole ∙ ap (λ z. z ++ qs) e2 in
    (es ∙ ap (λ z. z.span) (head_is all) ∙ sym es2, tail_is all)

value_apart : Apart IsValue (IsA class.Close)
value_apart s t us (w, hw, es, e) close = class_clash class.Close (class.Word hw.0) t w close hw.1 (head_is e) (λ f. cc)

declaration_apart : Apart IsDeclaration (IsA class.Close)
declaration_apart d t us (declaration a n b first more vs ea hn hx eb ed e) close = class_clash class.Close class.Open t a close ea (head_is e) (λ f. cc)

declaration_determined : (n : ℕ) → Determined (suc n) IsDeclaration
declaration_determined n x y us vs ps qs le (declaration a w b first more ts ea hw hx eb ed e) (declaration a2 w2 b2 first2 more2 ts2 ea2 hw2 hx2 eb2 ed2 e2) whole =
    let all = sym (inner a w b ts us ps e) ∙ whole ∙ inner a2 w2 b2 ts2 vs qs e2 in
    let list = list_determined IsValue (IsA class.Close) value_some value_apart n (value_determined n) (first ∷ more) (first2 ∷ more2) ts ts2 ps qs b b2 (inner_length a w b ts us n e le) hx hx2 eb eb2 (tail_is (tail_is all)) in
    let made : Span → Span → List Span → Span → Declaration = λ l n v r. record { left = l; name = n; values = v; right = r } in (
      ed ∙ ap (λ z. made z.span w.span (first ∷ more) b.span) (head_is all) ∙ ap (λ z. made a2.span z.span (first ∷ more) b.span) (head_is (tail_is all))
          ∙ ap (λ z. made a2.span w2.span z b.span) list.0 ∙ ap (λ z. made a2.span w2.span (first2 ∷ more2) z.span) list.1 ∙ sym ed2,
      list.2,
    )

declarations_determined : (n : ℕ) (k : WordClass) → Determined (suc n) (AreDeclarations k)
declarations_determined n k x y us vs ps qs le (declarations a w b first more ts ea hw hx eb ed e) (declarations a2 w2 b2 first2 more2 ts2 ea2 hw2 hx2 eb2 ed2 e2) whole =
    let all = sym (inner a w b ts us ps e) ∙ whole ∙ inner a2 w2 b2 ts2 vs qs e2 in
    let list = list_determined IsDeclaration (IsA class.Close) declaration_some declaration_apart n (lower n IsDeclaration (declaration_determined n)) (first ∷ more) (first2 ∷ more2) ts ts2 ps qs b b2 (inner_length a w b ts us n e le) hx hx2 eb eb2 (tail_is (tail_is all)) in
    let made : Span → Span → List Declaration → Span → Declarations = λ l n v r. record { left = l; keyword = n; declarations = v; right = r } in (
      ed ∙ ap (λ z. made z.span w.span (first ∷ more) b.span) (head_is all) ∙ ap (λ z. made a2.span z.span (first ∷ more) b.span) (head_is (tail_is all))
          ∙ ap (λ z. made a2.span w2.span z b.span) list.0 ∙ ap (λ z. made a2.span w2.span (first2 ∷ more2) z.span) list.1 ∙ sym ed2,
      list.2,
    )

observed_apart : Apart IsObserved (IsKeyword word.EndObserve)
observed_apart o t us (observed n tr vs hn ht eo e) close = class_clash (class.Word word.EndObserve) (class.Word word.Name) t n close hn (head_is e) (λ f. cc)

observed_determined : (n : ℕ) → Determined (suc n) IsObserved
observed_determined n x y us vs ps qs le (observed w t ts hn ht eo e) (observed w2 t2 ts2 hn2 ht2 eo2 e2) whole =
    let all : w ∷ (ts ++ ps) ≡ w2 ∷ (ts2 ++ qs) = ap (λ z. z ++ ps) (sym e) ∙ whole ∙ ap (λ z. z ++ qs) e2 in
    let le2 : length (w ∷ ts) ≤ suc n = subst (λ z. length z ≤ suc n) e le in
    let one = tree_determined n t t2 ts ts2 ps qs (omega (arith, le2)) ht ht2 (tail_is all) in
    let made : Span → Tree → Observed = λ n t. record { name = n; tree = t } in
    (eo ∙ ap (λ z. made z.span t) (head_is all) ∙ ap (λ z. made w2.span z) one.0 ∙ sym eo2, one.1)

-- an item behind its first token, whose class is given
abbrev ItemAt : TokenClass → Span → Item → List Classed → Type 0
ItemAt (class.Word word.Name) k i ts = (t : Tree) × IsTree t ts × (i ≡ item.Variable k t)
ItemAt (class.Word word.Observe) k i ts = (e : Classed) × (list : List Observed) × (us : List Classed) × AreAll IsObserved list us × IsKeyword word.EndObserve e × (i ≡ item.Observe k list e.span) × (ts ≡ us ++ (e ∷ []))
ItemAt (class.Word word.Cost) k i ts = (t : Tree) × IsTree t ts × (i ≡ item.Cost k t)
ItemAt _ k i ts = ⊥

item_at : (i : Item) (ts : List Classed) → IsItem i ts → (k : Classed) × (us : List Classed) × ItemAt k.class k.span i us × (ts ≡ k ∷ us)
item_at i ts (variable n t us hn ht ei e) = (n, us, subst (λ c. ItemAt c n.span i us) (sym hn) (t, ht, ei), e)
item_at i ts (observe k b list us hk hx hb ei e) = (k, us ++ (b ∷ []), subst (λ c. ItemAt c k.span i (us ++ (b ∷ []))) (sym hk) (b, list, us, hx, hb, ei, refl), e)
item_at i ts (cost k t us hk ht ei e) = (k, us, subst (λ c. ItemAt c k.span i us) (sym hk) (t, ht, ei), e)

-- the list behind a token, up to the token that ends it
ended : (us vs ps : List Classed) (e : Classed) → vs ≡ us ++ (e ∷ []) → vs ++ ps ≡ us ++ (e ∷ ps)
ended us vs ps e h = ap (λ z. z ++ ps) h ∙ append_assoc us (e ∷ []) ps

front_length : (us vs : List Classed) (e : Classed) (n : ℕ) → vs ≡ us ++ (e ∷ []) → length vs ≤ n → length us ≤ n
front_length us vs e n h le = (first_length us (e ∷ []) n (subst (λ z. length z ≤ n) h le)).0

item_same : (n : ℕ) (c : TokenClass) (k : Span) (i j : Item) (us vs ps qs : List Classed) → length us ≤ n → ItemAt c k i us → ItemAt c k j vs → us ++ ps ≡ vs ++ qs → (i ≡ j) × (ps ≡ qs)
item_same n (class.Word word.Name) k i j us vs ps qs le (t, ht, ei) (u, hu, ej) e =
    let one = tree_determined n t u us vs ps qs le ht hu e in (ei ∙ ap (item.Variable k) one.0 ∙ sym ej, one.1)
item_same n (class.Word word.Observe) k i j us vs ps qs le (b, xs, u1, hx, hb, ei, eu) (c, ys, v1, hy, hc, ej, ev) e =
    let list = list_determined IsObserved (IsKeyword word.EndObserve) observed_some observed_apart n (lower n IsObserved (observed_determined n)) xs ys u1 v1 ps qs b c (front_length u1 us b n eu le) hx hy hb hc (sym (ended u1 us ps b eu) ∙ e ∙ ended v1 vs qs c ev) in
    (ei ∙ ap (λ z. item.Observe k z b.span) list.0 ∙ ap (λ z. item.Observe k ys z.span) list.1 ∙ sym ej, list.2)
item_same n (class.Word word.Cost) k i j us vs ps qs le (t, ht, ei) (u, hu, ej) e =
    let one = tree_determined n t u us vs ps qs le ht hu e in (ei ∙ ap (item.Cost k) one.0 ∙ sym ej, one.1)
item_same n _ k i j us vs ps qs le h m e = absurd h

tail_length : (t : Classed) (us vs : List Classed) (n : ℕ) → vs ≡ t ∷ us → length vs ≤ suc n → length us ≤ n
tail_length t us vs n e le = let le2 : length (t ∷ us) ≤ suc n = subst (λ z. length z ≤ suc n) e le in omega (arith, le2)

item_determined : (n : ℕ) → Determined (suc n) IsItem
item_determined n i j us vs ps qs le h m whole =
    let x = item_at i us h in
    let y = item_at j vs m in
    let all : x.0 ∷ (x.1 ++ ps) ≡ y.0 ∷ (y.1 ++ qs) = ap (λ z. z ++ ps) (sym x.3) ∙ whole ∙ ap (λ z. z ++ qs) y.3 in
    item_same n x.0.class x.0.span i j x.1 y.1 ps qs (tail_length x.0 x.1 us n x.3 le) x.2 (subst (λ k. ItemAt k.class k.span j y.1) (sym (head_is all)) y.2) (tail_is all)

item_apart : Apart IsItem (IsKeyword word.EndAction)
item_apart i t us (variable n tr vs hn ht ei e) close = class_clash (class.Word word.EndAction) (class.Word word.Name) t n close hn (head_is e) (λ f. cc)
item_apart i t us (observe k b list vs hk hx hb ei e) close = class_clash (class.Word word.EndAction) (class.Word word.Observe) t k close hk (head_is e) (λ f. cc)
item_apart i t us (cost k tr vs hk ht ei e) close = class_clash (class.Word word.EndAction) (class.Word word.Cost) t k close hk (head_is e) (λ f. cc)

-- a section behind its first token, whose class is given
abbrev SectionAt : TokenClass → Span → Section → List Classed → Type 0
SectionAt (class.Word word.Init) k s ts = (t : Tree) × IsTree t ts × (s ≡ section.Init k t)
SectionAt (class.Word word.Dd) k s ts = (n e : Classed) × (t : Tree) × (us : List Classed) × IsTree t us × (s ≡ section.Dd k n.span t e.span) × (ts ≡ n ∷ (us ++ (e ∷ [])))
SectionAt (class.Word word.Action) k s ts = (n e : Classed) × (list : List Item) × (us : List Classed) × AreAll IsItem list us × IsKeyword word.EndAction e × (s ≡ section.Action k n.span list e.span) × (ts ≡ n ∷ (us ++ (e ∷ [])))
SectionAt (class.Word word.Reward) k s ts = (t : Tree) × IsTree t ts × (s ≡ section.Reward k t)
SectionAt (class.Word word.Discount) k s ts = (w : Classed) × (s ≡ section.Discount k w.span) × (ts ≡ w ∷ [])
SectionAt (class.Word word.Horizon) k s ts = (w : Classed) × (s ≡ section.Horizon k w.span) × (ts ≡ w ∷ [])
SectionAt (class.Word word.Tolerance) k s ts = (w : Classed) × (s ≡ section.Tolerance k w.span) × (ts ≡ w ∷ [])
SectionAt _ k s ts = ⊥

section_at : (s : Section) (ts : List Classed) → IsSection s ts → (k : Classed) × (us : List Classed) × SectionAt k.class k.span s us × (ts ≡ k ∷ us)
section_at s ts (init k t us hk ht es e) = (k, us, subst (λ c. SectionAt c k.span s us) (sym hk) (t, ht, es), e)
section_at s ts (dd k n b t us hk hn ht hb es e) = (k, n ∷ (us ++ (b ∷ [])), subst (λ c. SectionAt c k.span s (n ∷ (us ++ (b ∷ [])))) (sym hk) (n, b, t, us, ht, es, refl), e)
section_at s ts (action k n b items us hk hn hx hb es e) = (k, n ∷ (us ++ (b ∷ [])), subst (λ c. SectionAt c k.span s (n ∷ (us ++ (b ∷ [])))) (sym hk) (n, b, items, us, hx, hb, es, refl), e)
section_at s ts (reward k t us hk ht es e) = (k, us, subst (λ c. SectionAt c k.span s us) (sym hk) (t, ht, es), e)
section_at s ts (discount k w hk hw es e) = (k, w ∷ [], subst (λ c. SectionAt c k.span s (w ∷ [])) (sym hk) (w, es, refl), e)
section_at s ts (horizon k w hk hw es e) = (k, w ∷ [], subst (λ c. SectionAt c k.span s (w ∷ [])) (sym hk) (w, es, refl), e)
section_at s ts (tolerance k w hk hw es e) = (k, w ∷ [], subst (λ c. SectionAt c k.span s (w ∷ [])) (sym hk) (w, es, refl), e)

-- the same with one token more in front
ended_behind : (n : Classed) (us vs ps : List Classed) (e : Classed) → vs ≡ n ∷ (us ++ (e ∷ [])) → vs ++ ps ≡ n ∷ (us ++ (e ∷ ps))
ended_behind n us vs ps e h = ap (λ z. z ++ ps) h ∙ ap (λ z. n ∷ z) (append_assoc us (e ∷ []) ps)

behind_length : (t e : Classed) (us vs : List Classed) (n : ℕ) → vs ≡ t ∷ (us ++ (e ∷ [])) → length vs ≤ n → length us ≤ n
behind_length t e us vs n h le =
    let le2 : length (t ∷ (us ++ (e ∷ []))) ≤ n = subst (λ z. length z ≤ n) h le in
    let f = length-append us (e ∷ []) in omega (arith, f, le2)

word_same : (make : Span → Section) (s r : Section) (w v : Classed) (us vs ps qs : List Classed) → s ≡ make w.span → r ≡ make v.span → us ≡ w ∷ [] → vs ≡ v ∷ [] → us ++ ps ≡ vs ++ qs → (s ≡ r) × (ps ≡ qs)
word_same make s r w v us vs ps qs es er eu ev e =
    let all : w ∷ ps ≡ v ∷ qs = ap (λ z. z ++ ps) (sym eu) ∙ e ∙ ap (λ z. z ++ qs) ev in
    (es ∙ ap (λ z. make z.span) (head_is all) ∙ sym er, tail_is all)

tree_same : (n : ℕ) (make : Tree → Section) (s r : Section) (t u : Tree) (us vs ps qs : List Classed) → length us ≤ n → IsTree t us → IsTree u vs → s ≡ make t → r ≡ make u → us ++ ps ≡ vs ++ qs → (s ≡ r) × (ps ≡ qs)
tree_same n make s r t u us vs ps qs le ht hu es er e = let one = tree_determined n t u us vs ps qs le ht hu e in (es ∙ ap make one.0 ∙ sym er, one.1)

section_same : (n : ℕ) (c : TokenClass) (k : Span) (s r : Section) (us vs ps qs : List Classed) → length us ≤ n → SectionAt c k s us → SectionAt c k r vs → us ++ ps ≡ vs ++ qs → (s ≡ r) × (ps ≡ qs)
section_same n (class.Word word.Init) k s r us vs ps qs le (t, ht, es) (u, hu, er) e = tree_same n (section.Init k) s r t u us vs ps qs le ht hu es er e
section_same n (class.Word word.Dd) k s r us vs ps qs le (a, b, t, u1, ht, es, eu) (a2, b2, t2, v1, ht2, er, ev) e =
    let all = sym (ended_behind a u1 us ps b eu) ∙ e ∙ ended_behind a2 v1 vs qs b2 ev in
    let one = tree_determined n t t2 u1 v1 (b ∷ ps) (b2 ∷ qs) (behind_length a b u1 us n eu le) ht ht2 (tail_is all) in
    (es ∙ ap (λ z. section.Dd k z.span t b.span) (head_is all) ∙ ap (λ z. section.Dd k a2.span z b.span) one.0 ∙ ap (λ z. section.Dd k a2.span t2 z.span) (head_is one.1) ∙ sym er, tail_is one.1)
section_same n (class.Word word.Action) k s r us vs ps qs le (a, b, xs, u1, hx, hb, es, eu) (a2, b2, ys, v1, hy, hb2, er, ev) e =
    let all = sym (ended_behind a u1 us ps b eu) ∙ e ∙ ended_behind a2 v1 vs qs b2 ev in
    let list = list_determined IsItem (IsKeyword word.EndAction) item_some item_apart n (lower n IsItem (item_determined n)) xs ys u1 v1 ps qs b b2 (behind_length a b u1 us n eu le) hx hy hb hb2 (tail_is all) in
    (es ∙ ap (λ z. section.Action k z.span xs b.span) (head_is all) ∙ ap (λ z. section.Action k a2.span z b.span) list.0 ∙ ap (λ z. section.Action k a2.span ys z.span) list.1 ∙ sym er, list.2)
section_same n (class.Word word.Reward) k s r us vs ps qs le (t, ht, es) (u, hu, er) e = tree_same n (section.Reward k) s r t u us vs ps qs le ht hu es er e
section_same n (class.Word word.Discount) k s r us vs ps qs le (w, es, eu) (v, er, ev) e = word_same (section.Discount k) s r w v us vs ps qs es er eu ev e
section_same n (class.Word word.Horizon) k s r us vs ps qs le (w, es, eu) (v, er, ev) e = word_same (section.Horizon k) s r w v us vs ps qs es er eu ev e
section_same n (class.Word word.Tolerance) k s r us vs ps qs le (w, es, eu) (v, er, ev) e = word_same (section.Tolerance k) s r w v us vs ps qs es er eu ev e
section_same n _ k s r us vs ps qs le h m e = absurd h

section_determined : (n : ℕ) → Determined (suc n) IsSection
section_determined n s r us vs ps qs le h m whole =
    let x = section_at s us h in
    let y = section_at r vs m in
    let all : x.0 ∷ (x.1 ++ ps) ≡ y.0 ∷ (y.1 ++ qs) = ap (λ z. z ++ ps) (sym x.3) ∙ whole ∙ ap (λ z. z ++ qs) y.3 in
    section_same n x.0.class x.0.span s r x.1 y.1 ps qs (tail_length x.0 x.1 us n x.3 le) x.2 (subst (λ k. SectionAt k.class k.span r y.1) (sym (head_is all)) y.2) (tail_is all)

pub one_text : (f g : Text) (ts : List Classed) → IsText f ts → IsText g ts → f ≡ g
one_text f g ts (text v o ss us vs ws hv ho hs ef e) (text v2 o2 ss2 us2 vs2 ws2 hv2 ho2 hs2 eg e2) =
    let n = length ts in
    let le1 = first_length us (vs ++ ws) n (subst (λ z. length z ≤ n) e (omega arith)) in
    let le2 = first_length vs ws n le1.1 in
    let first = declarations_determined n word.Variables v v2 us us2 (vs ++ ws) (vs2 ++ ws2) (let le = le1.0 in omega (arith, le)) hv hv2 (sym e ∙ e2) in
    let second = declarations_determined n word.Observations o o2 vs vs2 ws ws2 (let le = le2.0 in omega (arith, le)) ho ho2 first.1 in
    let third = all_determined IsSection (λ t. ⊥) (section_some 0 0) (λ s t us h k. k) n (lower n IsSection (section_determined n)) ss ss2 ws ws2 le2.1 hs hs2 second.1 in
    let made : Declarations → Declarations → List Section → Text = λ v o s. record { variables = v; observations = o; sections = s } in
    ef ∙ ap (λ z. made z o ss) first.0 ∙ ap (λ z. made v2 z ss) second.0 ∙ ap (λ z. made v2 o2 z) third ∙ sym eg
