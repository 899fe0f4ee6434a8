-- A step of the machine takes the first token off a text of its symbol.
use Rattle.std.proofs.Common.{◌≡◌, List, [], ◌∷◌, ◌++◌, Option, Some, None, Bool, true, false, refl, sym, ap, ◌∙◌, subst, append_assoc}
use Rattle.std.specs.Prelude.{IsTrue}
use Rattle.sp_lex.specs.declared.lexeme.Span.{Span}
use Rattle.sp_syntax.specs.declared.class.WordClass.TheVariants as word
use Rattle.sp_syntax.specs.declared.class.TokenClass.{TokenClass}
use Rattle.sp_syntax.specs.declared.class.TokenClass.TheVariants as class
use Rattle.sp_syntax.specs.declared.class.Classed.{Classed}
use Rattle.sp_syntax.specs.declared.text.Tree.{Tree}
use Rattle.sp_syntax.specs.declared.text.Branch.{Branch}
use Rattle.sp_syntax.specs.declared.text.Declaration.{Declaration}
use Rattle.sp_syntax.specs.declared.text.Observed.{Observed}
use Rattle.sp_syntax.specs.declared.text.Item.{Item}
use Rattle.sp_syntax.specs.Grammar.{IsA, IsKeyword, IsName, IsWord, is_number, IsTree, number, reference, node, primed_node, sum, product, IsBranch, branch, IsValue, IsDeclaration, declaration, IsObserved, observed, IsItem, variable, observe, cost}
use Rattle.sp_syntax.specs.Reading.{is_open, is_right_square, is_close, is_word, is_name, is_variables, is_observations, is_end_dd, is_end_observe, is_end_action}
use Rattle.sp_syntax.proofs.Machine.{Sym, AnOpen, AClose, AName, AWord, AVariables, AnObservations, AnEndDd, ATree, AfterOpen, AfterSquare, MoreTrees, ABranch, MoreBranches, ADeclaration, MoreDeclarations, MoreValues, AnObserved, MoreObserved, AnItem, MoreItems, only_where, or_more, in_tree, in_round, in_square, in_branch, in_declaration, in_observed, in_item, expand}
use Rattle.sp_syntax.proofs.Tokens.{close_means, right_square_means, end_action_means, end_observe_means}
use Rattle.sp_syntax.proofs.TreesRead.{from_branches, from_trees, tree_some, branch_some}
use Rattle.sp_syntax.proofs.TextRead.{declaration_some, observed_some, item_some, value_some}
use Rattle.sp_syntax.proofs.Language.{One, ListOf, Sem, Seq, seq_append, alone, Goes}

pub head_is : {t u : Classed} {x y : List Classed} → t ∷ x ≡ u ∷ y → t ≡ u
head_is e = cc

pub tail_is : {t u : Classed} {x y : List Classed} → t ∷ x ≡ u ∷ y → x ≡ y
tail_is e = cc

pub class_is : {t u : Classed} {c : TokenClass} {x y : List Classed} → t ∷ x ≡ u ∷ y → u.class ≡ c → t.class ≡ c
class_is e h = ap (λ t. t.class) (head_is e) ∙ h

-- the step at a token of that class
at_class : (f : TokenClass → Option (List Sym)) (t : Classed) (c : TokenClass) (x : List Classed) → t.class ≡ c → Goes (f c) x → Goes (f t.class) x
at_class f t c x e h = subst (λ c. Goes (f c) x) (sym e) h

clash : {c d : TokenClass} {P : Type 0} (t : Classed) → t.class ≡ c → t.class ≡ d → (c ≡ d → ⊥) → P
clash t e f ne = absurd (ne (sym e ∙ f))

number_on : (c : TokenClass) → IsTrue (is_number c) → in_round c ≡ Some (AClose ∷ [])
number_on (class.Word word.Number) h = refl
number_on (class.Word word.Minus) h = refl
number_on _ h = cc

module _ (t : Classed) (x : List Classed) where
  one_forward : (fits : Option TokenClass → Bool) (P : Classed → Type 0) → (P t → fits (Some t.class) ≡ true) → One P (t ∷ x) → Goes (only_where (fits (Some t.class))) x
  one_forward fits P means (u, hu, e) = subst (λ o. Goes (only_where o) x) (sym (means (subst P (sym (head_is e)) hu))) (tail_is e)

  word_forward : (s : Span) → IsValue s (t ∷ x) → Goes (only_where (is_word (Some t.class))) x
  word_forward s (w, hw, es, e) = one_forward is_word IsWord (λ h. ap (λ c. is_word (Some c)) h.1) (w, hw, e)

  tree_forward : (r : Tree) → IsTree r (t ∷ x) → Goes (in_tree t.class) x
  tree_forward r (number a w b ea ew eb er e) =
      at_class in_tree t class.Open x (class_is e ea) (alone AfterOpen x (λ a' ea'. (_, number a' w b ea' ew eb refl (ap (λ z. a' ∷ z) (tail_is e)))))
  tree_forward r (reference a w b ea ew eb er e) =
      at_class in_tree t class.Open x (class_is e ea) (alone AfterOpen x (λ a' ea'. (_, reference a' w b ea' ew eb refl (ap (λ z. a' ∷ z) (tail_is e)))))
  tree_forward r (node a w b first more us ea ew hm eb er e) =
      at_class in_tree t class.Open x (class_is e ea) (alone AfterOpen x (λ a' ea'. (_, node a' w b first more us ea' ew hm eb refl (ap (λ z. a' ∷ z) (tail_is e)))))
  tree_forward r (primed_node a w b first more us ea ew hm eb er e) =
      at_class in_tree t class.Open x (class_is e ea) (alone AfterOpen x (λ a' ea'. (_, primed_node a' w b first more us ea' ew hm eb refl (ap (λ z. a' ∷ z) (tail_is e)))))
  tree_forward r (sum a w b first more us ea ew hm eb er e) =
      at_class in_tree t class.LeftSquare x (class_is e ea) (alone AfterSquare x (λ a' ea'. (_, sum a' w b first more us ea' ew hm eb refl (ap (λ z. a' ∷ z) (tail_is e)))))
  tree_forward r (product a w b first more us ea ew hm eb er e) =
      at_class in_tree t class.LeftSquare x (class_is e ea) (alone AfterSquare x (λ a' ea'. (_, product a' w b first more us ea' ew hm eb refl (ap (λ z. a' ∷ z) (tail_is e)))))

  round_forward : (a : Classed) → IsA class.Open a → (r : Tree) → IsTree r (a ∷ t ∷ x) → Goes (in_round t.class) x
  round_forward a ha r (number a1 w b ea ew eb er e) =
      let here : IsTrue (is_number t.class) = subst (λ t. IsTrue (is_number t.class)) (sym (head_is (tail_is e))) ew in
      subst (λ o. Goes o x) (sym (number_on t.class here)) (alone AClose x (b, eb, tail_is (tail_is e)))
  round_forward a ha r (reference a1 w b ea ew eb er e) =
      at_class in_round t (class.Word word.Name) x (class_is (tail_is e) ew) (alone MoreBranches x ([], [], b, refl, eb, tail_is (tail_is e)))
  round_forward a ha r (node a1 w b first more us ea ew hm eb er e) =
      at_class in_round t (class.Word word.Name) x (class_is (tail_is e) ew) (alone MoreBranches x (first ∷ more, us, b, from_branches (first ∷ more) us hm, eb, tail_is (tail_is e)))
  round_forward a ha r (primed_node a1 w b first more us ea ew hm eb er e) =
      let p = from_branches (first ∷ more) us hm in
      at_class in_round t class.Primed x (class_is (tail_is e) ew)
      (p.0, p.1 ++ (b ∷ []), (first, p.2), alone MoreBranches (p.1 ++ (b ∷ [])) (more, p.1, b, p.3, eb, refl), tail_is (tail_is e) ∙ ap (λ z. z ++ (b ∷ [])) p.4 ∙ append_assoc p.0 p.1 (b ∷ []))
  round_forward a ha r (sum a1 w b first more us ea ew hm eb er e) = clash a ha (class_is e ea) (λ f. cc)
  round_forward a ha r (product a1 w b first more us ea ew hm eb er e) = clash a ha (class_is e ea) (λ f. cc)

  square_forward : (a : Classed) → IsA class.LeftSquare a → (r : Tree) → IsTree r (a ∷ t ∷ x) → Goes (in_square t.class) x
  square_forward a ha r (number a1 w b ea ew eb er e) = clash a ha (class_is e ea) (λ f. cc)
  square_forward a ha r (reference a1 w b ea ew eb er e) = clash a ha (class_is e ea) (λ f. cc)
  square_forward a ha r (node a1 w b first more us ea ew hm eb er e) = clash a ha (class_is e ea) (λ f. cc)
  square_forward a ha r (primed_node a1 w b first more us ea ew hm eb er e) = clash a ha (class_is e ea) (λ f. cc)
  square_forward a ha r (sum a1 w b first more us ea ew hm eb er e) =
      let p = from_trees (first ∷ more) us hm in
      at_class in_square t class.Plus x (class_is (tail_is e) ew)
      (p.0, p.1 ++ (b ∷ []), (first, p.2), alone MoreTrees (p.1 ++ (b ∷ [])) (more, p.1, b, p.3, eb, refl), tail_is (tail_is e) ∙ ap (λ z. z ++ (b ∷ [])) p.4 ∙ append_assoc p.0 p.1 (b ∷ []))
  square_forward a ha r (product a1 w b first more us ea ew hm eb er e) =
      let p = from_trees (first ∷ more) us hm in
      at_class in_square t class.Star x (class_is (tail_is e) ew)
      (p.0, p.1 ++ (b ∷ []), (first, p.2), alone MoreTrees (p.1 ++ (b ∷ [])) (more, p.1, b, p.3, eb, refl), tail_is (tail_is e) ∙ ap (λ z. z ++ (b ∷ [])) p.4 ∙ append_assoc p.0 p.1 (b ∷ []))

  branch_forward : (r : Branch) → IsBranch r (t ∷ x) → Goes (in_branch t.class) x
  branch_forward r (branch a w b tr us ea hw ht eb er e) =
      at_class in_branch t class.Open x (class_is e ea)
      (w ∷ [], us ++ (b ∷ []), (w.span, (w, hw, refl, refl)), (us, b ∷ [], (tr, ht), alone AClose (b ∷ []) (b, eb, refl), refl), tail_is e)

  declaration_forward : (d : Declaration) → IsDeclaration d (t ∷ x) → Goes (in_declaration t.class) x
  declaration_forward d (declaration a n b first more us ea en hx eb ed e) =
      at_class in_declaration t class.Open x (class_is e ea)
      (n ∷ [], us ++ (b ∷ []), (n, en, refl), (hx.0, hx.1 ++ (b ∷ []), (first, hx.2), alone MoreValues (hx.1 ++ (b ∷ [])) (more, hx.1, b, hx.3, eb, refl), ap (λ z. z ++ (b ∷ [])) hx.4 ∙ append_assoc hx.0 hx.1 (b ∷ [])), tail_is e)

  observed_forward : (o : Observed) → IsObserved o (t ∷ x) → Goes (in_observed t.class) x
  observed_forward o (observed n tr us hn ht eo e) =
      at_class in_observed t (class.Word word.Name) x (class_is e hn) (alone ATree x (tr, subst (IsTree tr) (sym (tail_is e)) ht))

  item_forward : (i : Item) → IsItem i (t ∷ x) → Goes (in_item t.class) x
  item_forward i (variable n tr us hn ht ei e) =
      at_class in_item t (class.Word word.Name) x (class_is e hn) (alone ATree x (tr, subst (IsTree tr) (sym (tail_is e)) ht))
  item_forward i (observe k b list us hk hx hb ei e) =
      at_class in_item t (class.Word word.Observe) x (class_is e hk) (alone MoreObserved x (list, us, b, hx, hb, tail_is e))
  item_forward i (cost k tr us hk ht ei e) =
      at_class in_item t (class.Word word.Cost) x (class_is e hk) (alone ATree x (tr, subst (IsTree tr) (sym (tail_is e)) ht))

  -- a part, and the list again
  part_forward : (l : Sym) (ends : Bool) (o : Option (List Sym)) (u v : List Classed) → (ends ≡ true → o ≡ None) → Goes o u → Sem l v → x ≡ u ++ v → Goes (or_more ends l o) x
  part_forward l true o u v apart g k e = absurd (subst (λ o. Goes o u) (apart refl) g)
  part_forward l false None u v apart g k e = absurd g
  part_forward l false (Some new) u v apart g k e = subst (Seq (new ++ (l ∷ []))) (sym e) (seq_append new (l ∷ []) u v g (alone l v k))

  many_forward : {X : Type 0} (IsX : X → List Classed → Type 0) (Ends : Classed → Type 0) (l : Sym) (ends : Bool) (o : Option (List Sym))
      → ((y : List Classed) → ListOf IsX Ends y → Sem l y) → (Ends t → ends ≡ true) → (ends ≡ true → o ≡ None) → ((p : X) → IsX p [] → ⊥)
      → ((y : List Classed) (p : X) → IsX p (t ∷ y) → Goes o y) → ListOf IsX Ends (t ∷ x) → Goes (or_more ends l o) x
  many_forward IsX Ends l ends o list means apart some part ([], us, b, hs, hb, e) =
      let all : t ∷ x ≡ b ∷ [] = e ∙ ap (λ z. z ++ (b ∷ [])) hs in
      subst (λ ends. Goes (or_more ends l o) x) (sym (means (subst Ends (sym (head_is all)) hb))) (tail_is all)
  many_forward IsX Ends l ends o list means apart some part (p ∷ ps, us, b, ([], v, hp, hs, eu), hb, e) = absurd (some p hp)
  many_forward IsX Ends l ends o list means apart some part (p ∷ ps, us, b, (h ∷ u, v, hp, hs, eu), hb, e) =
      let all : t ∷ x ≡ h ∷ ((u ++ v) ++ (b ∷ [])) = e ∙ ap (λ z. z ++ (b ∷ [])) eu in
      part_forward l ends o u (v ++ (b ∷ [])) apart (part u p (subst (λ h. IsX p (h ∷ u)) (sym (head_is all)) hp)) (list (v ++ (b ∷ [])) (ps, v, b, hs, hb, refl)) (tail_is all ∙ append_assoc u v (b ∷ []))

pub forward : (s : Sym) (t : Classed) (x : List Classed) → Sem s (t ∷ x) → Goes (expand s t.class) x
forward AnOpen t x h = one_forward t x is_open (IsA class.Open) (λ e. ap (λ c. is_open (Some c)) e) h
forward AClose t x h = one_forward t x is_close (IsA class.Close) (λ e. ap (λ c. is_close (Some c)) e) h
forward AName t x h = one_forward t x is_name IsName (λ e. ap (λ c. is_name (Some c)) e) h
forward AWord t x (s, h) = word_forward t x s h
forward AVariables t x h = one_forward t x is_variables (IsKeyword word.Variables) (λ e. ap (λ c. is_variables (Some c)) e) h
forward AnObservations t x h = one_forward t x is_observations (IsKeyword word.Observations) (λ e. ap (λ c. is_observations (Some c)) e) h
forward AnEndDd t x h = one_forward t x is_end_dd (IsKeyword word.EndDd) (λ e. ap (λ c. is_end_dd (Some c)) e) h
forward ATree t x (r, h) = tree_forward t x r h
forward AfterOpen t x h = let a : Classed = record { class = class.Open; span = t.span } in let p = h a refl in round_forward t x a refl p.0 p.1
forward AfterSquare t x h = let a : Classed = record { class = class.LeftSquare; span = t.span } in let p = h a refl in square_forward t x a refl p.0 p.1
forward MoreTrees t x h = many_forward t x IsTree (IsA class.RightSquare) MoreTrees (is_right_square (Some t.class)) (in_tree t.class) (λ y k. k)
    (λ e. ap (λ c. is_right_square (Some c)) e) (λ e. ap in_tree (right_square_means t.class e)) tree_some (λ y p k. tree_forward t y p k) h
forward ABranch t x (r, h) = branch_forward t x r h
forward MoreBranches t x h = many_forward t x IsBranch (IsA class.Close) MoreBranches (is_close (Some t.class)) (in_branch t.class) (λ y k. k)
    (λ e. ap (λ c. is_close (Some c)) e) (λ e. ap in_branch (close_means t.class e)) branch_some (λ y p k. branch_forward t y p k) h
forward ADeclaration t x (d, h) = declaration_forward t x d h
forward MoreDeclarations t x h = many_forward t x IsDeclaration (IsA class.Close) MoreDeclarations (is_close (Some t.class)) (in_declaration t.class) (λ y k. k)
    (λ e. ap (λ c. is_close (Some c)) e) (λ e. ap in_declaration (close_means t.class e)) declaration_some (λ y p k. declaration_forward t y p k) h
forward MoreValues t x h = many_forward t x IsValue (IsA class.Close) MoreValues (is_close (Some t.class)) (only_where (is_word (Some t.class))) (λ y k. k)
    (λ e. ap (λ c. is_close (Some c)) e) (λ e. ap (λ c. only_where (is_word (Some c))) (close_means t.class e)) value_some (λ y p k. word_forward t y p k) h
forward AnObserved t x (o, h) = observed_forward t x o h
forward MoreObserved t x h = many_forward t x IsObserved (IsKeyword word.EndObserve) MoreObserved (is_end_observe (Some t.class)) (in_observed t.class) (λ y k. k)
    (λ e. ap (λ c. is_end_observe (Some c)) e) (λ e. ap in_observed (end_observe_means t.class e)) observed_some (λ y p k. observed_forward t y p k) h
forward AnItem t x (i, h) = item_forward t x i h
forward MoreItems t x h = many_forward t x IsItem (IsKeyword word.EndAction) MoreItems (is_end_action (Some t.class)) (in_item t.class) (λ y k. k)
    (λ e. ap (λ c. is_end_action (Some c)) e) (λ e. ap in_item (end_action_means t.class e)) item_some (λ y p k. item_forward t y p k) h
