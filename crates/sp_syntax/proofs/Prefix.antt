-- The machine goes on exactly where some continuation is a text.
use Rattle.std.proofs.Common.{◌≡◌, List, [], ◌∷◌, ◌++◌, Option, Some, None, refl, sym, ap, ◌∙◌, subst, append_assoc, append-nil}
use Rattle.sp_syntax.specs.declared.class.WordClass.{WordClass}
use Rattle.sp_syntax.specs.declared.class.WordClass.TheVariants as word
use Rattle.sp_syntax.specs.declared.class.TokenClass.{TokenClass}
use Rattle.sp_syntax.specs.declared.class.TokenClass.TheVariants as class
use Rattle.sp_syntax.specs.declared.class.Classed.{Classed}
use Rattle.sp_syntax.specs.declared.text.Tree.{Tree}
use Rattle.sp_syntax.specs.declared.text.Declarations.{Declarations}
use Rattle.sp_syntax.specs.declared.text.Section.{Section}
use Rattle.sp_syntax.specs.Grammar.{IsKeyword, IsTree, number, reference, node, primed_node, sum, product, more_trees, no_trees, branch, AreAll, declaration, AreDeclarations, declarations, observed, variable, IsSection, init, dd, action, reward, discount, horizon, tolerance, text, InGrammar, IsViable}
use Rattle.sp_syntax.proofs.Machine.{Sym, AnOpen, AClose, AName, AWord, AVariables, AnObservations, AnEndDd, ATree, AfterOpen, AfterSquare, MoreTrees, ABranch, MoreBranches, ADeclaration, MoreDeclarations, MoreValues, AnObserved, MoreObserved, AnItem, MoreItems, onto, expand, in_section, step, start}
use Rattle.sp_syntax.proofs.TreesRead.{tree_some, branch_some}
use Rattle.sp_syntax.proofs.TextRead.{value_some, declaration_some, observed_some, item_some}
use Rattle.sp_syntax.proofs.Language.{Sem, Sems, sems_append, sems_split, Goes, back}
use Rattle.sp_syntax.proofs.Forward.{forward, class_is, head_is, tail_is}

-- ---- each symbol has a text, and none is empty

abbrev token_of : TokenClass → Classed
token_of c = record { class = c; span = record { start = 0; end = 0 } }

abbrev name_token : Classed
name_token = token_of (class.Word word.Name)

abbrev tree_tokens : List Classed
tree_tokens = token_of class.Open ∷ token_of (class.Word word.Number) ∷ token_of class.Close ∷ []

a_tree : (t : Tree) × IsTree t tree_tokens
a_tree = (_, number (token_of class.Open) (token_of (class.Word word.Number)) (token_of class.Close) refl refl refl refl refl)

abbrev Spelled : Sym → Type 0
Spelled s = (x : List Classed) × Sem s x

spelled : (s : Sym) → Spelled s
spelled AnOpen = (token_of class.Open ∷ [], (token_of class.Open, refl, refl))
spelled AClose = (token_of class.Close ∷ [], (token_of class.Close, refl, refl))
spelled AName = (name_token ∷ [], (name_token, refl, refl))
spelled AWord = (name_token ∷ [], (name_token.span, (name_token, (word.Name, refl), refl, refl)))
spelled AVariables = (token_of (class.Word word.Variables) ∷ [], (token_of (class.Word word.Variables), refl, refl))
spelled AnObservations = (token_of (class.Word word.Observations) ∷ [], (token_of (class.Word word.Observations), refl, refl))
spelled AnEndDd = (token_of (class.Word word.EndDd) ∷ [], (token_of (class.Word word.EndDd), refl, refl))
spelled ATree = (tree_tokens, a_tree)
spelled AfterOpen = (token_of (class.Word word.Number) ∷ token_of class.Close ∷ [], λ a ea. (_, number a (token_of (class.Word word.Number)) (token_of class.Close) ea refl refl refl refl))
spelled AfterSquare = (
  token_of class.Plus ∷ (tree_tokens ++ (token_of class.RightSquare ∷ [])),
  λ a ea. (_, sum a (token_of class.Plus) (token_of class.RightSquare) a_tree.0 [] tree_tokens ea refl (more_trees tree_tokens [] a_tree.1 (no_trees refl) refl) refl refl refl),
)
spelled MoreTrees = (token_of class.RightSquare ∷ [], ([], [], token_of class.RightSquare, refl, refl, refl))
spelled ABranch = (token_of class.Open ∷ name_token ∷ (tree_tokens ++ (token_of class.Close ∷ [])), (_, branch (token_of class.Open) name_token (token_of class.Close) a_tree.0 tree_tokens refl (word.Name, refl) a_tree.1 refl refl refl))
spelled MoreBranches = (token_of class.Close ∷ [], ([], [], token_of class.Close, refl, refl, refl))
spelled ADeclaration = (
  token_of class.Open ∷ name_token ∷ name_token ∷ token_of class.Close ∷ [],
  (_, declaration (token_of class.Open) name_token (token_of class.Close) name_token.span [] (name_token ∷ []) refl refl (name_token ∷ [], [], (name_token, (word.Name, refl), refl, refl), refl, refl) refl refl refl),
)
spelled MoreDeclarations = (token_of class.Close ∷ [], ([], [], token_of class.Close, refl, refl, refl))
spelled MoreValues = (token_of class.Close ∷ [], ([], [], token_of class.Close, refl, refl, refl))
spelled AnObserved = (name_token ∷ tree_tokens, (_, observed name_token a_tree.0 tree_tokens refl a_tree.1 refl refl))
spelled MoreObserved = (token_of (class.Word word.EndObserve) ∷ [], ([], [], token_of (class.Word word.EndObserve), refl, refl, refl))
spelled AnItem = (name_token ∷ tree_tokens, (_, variable name_token a_tree.0 tree_tokens refl a_tree.1 refl refl))
spelled MoreItems = (token_of (class.Word word.EndAction) ∷ [], ([], [], token_of (class.Word word.EndAction), refl, refl, refl))

all_spelled : (ss : List Sym) → (x : List Classed) × Sems ss x
all_spelled [] = ([], ([], refl))
all_spelled (s ∷ ss) = let p = spelled s in let q = all_spelled ss in (p.0 ++ q.0, (p.0, q.0, p.1, q.1, refl))

snoc_some : (us : List Classed) (b : Classed) → [] ≡ us ++ (b ∷ []) → ⊥
snoc_some [] b e = cc
snoc_some (u ∷ us) b e = cc

one_some : (a : Classed) (r : Tree) → IsTree r (a ∷ []) → ⊥
one_some a r (number a1 w b ea ew eb er e) = cc
one_some a r (reference a1 w b ea ew eb er e) = cc
one_some a r (node a1 w b first more us ea ew hm eb er e) = cc
one_some a r (primed_node a1 w b first more us ea ew hm eb er e) = cc
one_some a r (sum a1 w b first more us ea ew hm eb er e) = cc
one_some a r (product a1 w b first more us ea ew hm eb er e) = cc

not_empty : (s : Sym) → Sem s [] → ⊥
not_empty AnOpen (t, h, e) = cc
not_empty AClose (t, h, e) = cc
not_empty AName (t, h, e) = cc
not_empty AWord (s, h) = value_some s h
not_empty AVariables (t, h, e) = cc
not_empty AnObservations (t, h, e) = cc
not_empty AnEndDd (t, h, e) = cc
not_empty ATree (r, h) = tree_some r h
not_empty AfterOpen h = let p = h (token_of class.Open) refl in one_some _ p.0 p.1
not_empty AfterSquare h = let p = h (token_of class.LeftSquare) refl in one_some _ p.0 p.1
not_empty MoreTrees (xs, us, b, hs, hb, e) = snoc_some us b e
not_empty ABranch (r, h) = branch_some r h
not_empty MoreBranches (xs, us, b, hs, hb, e) = snoc_some us b e
not_empty ADeclaration (d, h) = declaration_some d h
not_empty MoreDeclarations (xs, us, b, hs, hb, e) = snoc_some us b e
not_empty MoreValues (xs, us, b, hs, hb, e) = snoc_some us b e
not_empty AnObserved (o, h) = observed_some o h
not_empty MoreObserved (xs, us, b, hs, hb, e) = snoc_some us b e
not_empty AnItem (i, h) = item_some i h
not_empty MoreItems (xs, us, b, hs, hb, e) = snoc_some us b e

-- ---- one step of a whole stack

-- what stands after a step of a stack
abbrev pub Left : Option (List Sym) → List Classed → Type 0
Left None x = ⊥
Left (Some new) x = Sems new x

left_onto : (o : Option (List Sym)) (ss : List Sym) (x v : List Classed) → Goes o x → Sems ss v → Left (onto ss o) (x ++ v)
left_onto None ss x v h k = h
left_onto (Some new) ss x v h k = sems_append new ss x v h k

section_at : (t : Classed) (c : TokenClass) (x : List Classed) → t.class ≡ c → Left (in_section c) x → Left (step [] t.class) x
section_at t c x e h = subst (λ c. Left (in_section c) x) (sym e) h

section_on : (s : Section) (ss : List Section) (us vs : List Classed) (t : Classed) (x : List Classed) → IsSection s us → AreAll IsSection ss vs → t ∷ x ≡ us ++ vs → Left (step [] t.class) x
section_on s ss us vs t x (init k r u ek h es e) hs whole =
    let all : t ∷ x ≡ k ∷ (u ++ vs) = whole ∙ ap (λ z. z ++ vs) e in
    section_at t (class.Word word.Init) x (class_is all ek) (u, vs, (r, h), (ss, hs), tail_is all)
section_on s ss us vs t x (dd k n d r u ek en h ed es e) hs whole =
    let all : t ∷ x ≡ k ∷ n ∷ ((u ++ (d ∷ [])) ++ vs) = whole ∙ ap (λ z. z ++ vs) e in
    section_at t (class.Word word.Dd) x (class_is all ek)
    (n ∷ [], u ++ (d ∷ vs), (n, en, refl), (u, d ∷ vs, (r, h), (d ∷ [], vs, (d, ed, refl), (ss, hs), refl), refl), tail_is all ∙ ap (λ z. n ∷ z) (append_assoc u (d ∷ []) vs))
section_on s ss us vs t x (action k n d items u ek en h ed es e) hs whole =
    let all : t ∷ x ≡ k ∷ n ∷ ((u ++ (d ∷ [])) ++ vs) = whole ∙ ap (λ z. z ++ vs) e in
    section_at t (class.Word word.Action) x (class_is all ek)
    (n ∷ [], (u ++ (d ∷ [])) ++ vs, (n, en, refl), (u ++ (d ∷ []), vs, (items, u, d, h, ed, refl), (ss, hs), refl), tail_is all)
section_on s ss us vs t x (reward k r u ek h es e) hs whole =
    let all : t ∷ x ≡ k ∷ (u ++ vs) = whole ∙ ap (λ z. z ++ vs) e in
    section_at t (class.Word word.Reward) x (class_is all ek) (u, vs, (r, h), (ss, hs), tail_is all)
section_on s ss us vs t x (discount k w ek hw es e) hs whole =
    let all : t ∷ x ≡ k ∷ w ∷ vs = whole ∙ ap (λ z. z ++ vs) e in
    section_at t (class.Word word.Discount) x (class_is all ek) (w ∷ [], vs, (w.span, (w, hw, refl, refl)), (ss, hs), tail_is all)
section_on s ss us vs t x (horizon k w ek hw es e) hs whole =
    let all : t ∷ x ≡ k ∷ w ∷ vs = whole ∙ ap (λ z. z ++ vs) e in
    section_at t (class.Word word.Horizon) x (class_is all ek) (w ∷ [], vs, (w.span, (w, hw, refl, refl)), (ss, hs), tail_is all)
section_on s ss us vs t x (tolerance k w ek hw es e) hs whole =
    let all : t ∷ x ≡ k ∷ w ∷ vs = whole ∙ ap (λ z. z ++ vs) e in
    section_at t (class.Word word.Tolerance) x (class_is all ek) (w ∷ [], vs, (w.span, (w, hw, refl, refl)), (ss, hs), tail_is all)

on : (ss : List Sym) (t : Classed) (x : List Classed) → Sems ss (t ∷ x) → Left (step ss t.class) x
on [] t x ([], e) = cc
on [] t x (s ∷ ss, (us, vs, h, k, e)) = section_on s ss us vs t x h k e
on (s ∷ ss) t x ([], v, h, k, e) = absurd (not_empty s h)
on (s ∷ ss) t x (u ∷ us, v, h, k, e) =
    let p = left_onto (expand s u.class) ss us v (forward s u us h) k in
    subst (λ z. Left (onto ss (expand s z.class)) x) (sym (head_is e)) (subst (λ z. Left (onto ss (expand s u.class)) z) (sym (tail_is e)) p)

back_onto : (s : Sym) (o : Option (List Sym)) (ss : List Sym) (t : Classed) (x : List Classed) → ((y : List Classed) → Goes o y → Sem s (t ∷ y)) → Left (onto ss o) x → Sems (s ∷ ss) (t ∷ x)
back_onto s None ss t x f h = absurd h
back_onto s (Some new) ss t x f h = let p = sems_split new ss x h in (t ∷ p.0, p.1, f p.0 p.2, p.3, ap (λ z. t ∷ z) p.4)

module _ (t : Classed) (x : List Classed) where
  section_back : (c : TokenClass) → t.class ≡ c → Left (in_section c) x → Sems [] (t ∷ x)
  section_back (class.Word word.Init) e (u, v, (r, h), (ss, hs), ex) = (_ ∷ ss, (t ∷ u, v, init t r u e h refl refl, hs, ap (λ z. t ∷ z) ex))
  section_back (class.Word word.Dd) e (u, v, (n, hn, en), (u2, v2, (r, hr), (u3, v3, (d, hd, ed), (ss, hs), e3), e2), ex) = (
    _ ∷ ss,
    (
      t ∷ n ∷ (u2 ++ (d ∷ [])),
      v3,
      dd t n d r u2 e hn hr hd refl refl,
      hs,
      ap (λ z. t ∷ z) (ex ∙ ap (λ z. z ++ v) en ∙ ap (λ z. n ∷ z) (e2 ∙ ap (λ z. u2 ++ z) (e3 ∙ ap (λ z. z ++ v3) ed) ∙ sym (append_assoc u2 (d ∷ []) v3))),
    ),
  )
  section_back (class.Word word.Action) e (u, v, (n, hn, en), (u2, v2, (items, us, d, hx, hd, ed), (ss, hs), e2), ex) = (
    _ ∷ ss,
    (
      t ∷ n ∷ (us ++ (d ∷ [])),
      v2,
      action t n d items us e hn hx hd refl refl,
      hs,
      ap (λ z. t ∷ z) (ex ∙ ap (λ z. z ++ v) en ∙ ap (λ z. n ∷ z) (e2 ∙ ap (λ z. z ++ v2) ed)),
    ),
  )
  section_back (class.Word word.Reward) e (u, v, (r, h), (ss, hs), ex) = (_ ∷ ss, (t ∷ u, v, reward t r u e h refl refl, hs, ap (λ z. t ∷ z) ex))
  section_back (class.Word word.Discount) e (u, v, (s, (w, hw, es, ew)), (ss, hs), ex) =
      (_ ∷ ss, (t ∷ w ∷ [], v, discount t w e hw refl refl, hs, ap (λ z. t ∷ z) (ex ∙ ap (λ z. z ++ v) ew)))
  section_back (class.Word word.Horizon) e (u, v, (s, (w, hw, es, ew)), (ss, hs), ex) =
      (_ ∷ ss, (t ∷ w ∷ [], v, horizon t w e hw refl refl, hs, ap (λ z. t ∷ z) (ex ∙ ap (λ z. z ++ v) ew)))
  section_back (class.Word word.Tolerance) e (u, v, (s, (w, hw, es, ew)), (ss, hs), ex) =
      (_ ∷ ss, (t ∷ w ∷ [], v, tolerance t w e hw refl refl, hs, ap (λ z. t ∷ z) (ex ∙ ap (λ z. z ++ v) ew)))
  section_back _ e h = absurd h

off : (ss : List Sym) (t : Classed) (x : List Classed) → Left (step ss t.class) x → Sems ss (t ∷ x)
off [] t x h = section_back t x t.class refl h
off (s ∷ ss) t x h = back_onto s (expand s t.class) ss t x (λ y k. back s t y k) h

-- ---- whole texts

-- the stack after the tokens
abbrev pub after_step : (List Sym → Option (List Sym)) → Option (List Sym) → Option (List Sym)
after_step k None = None
after_step k (Some new) = k new

abbrev pub after : List Sym → List Classed → Option (List Sym)
after ss [] = Some ss
after ss (t ∷ ts) = after_step (λ new. after new ts) (step ss t.class)

through : (ts : List Classed) (o : Option (List Sym)) (new : List Sym) (y : List Classed) → ((n : List Sym) → after n ts ≡ Some new → Sems n y) → after_step (λ n. after n ts) o ≡ Some new → Left o y
through ts None new y k e = cc
through ts (Some n) new y k e = k n e

-- what stands after the stack that a front leads to stands after the front
front_off : (ts : List Classed) (ss new : List Sym) (x : List Classed) → after ss ts ≡ Some new → Sems new x → Sems ss (ts ++ x)
front_off [] ss new x e h = let f : new ≡ ss = cc in subst (λ z. Sems z x) f h
front_off (t ∷ ts) ss new x e h = off ss t (ts ++ x) (through ts (step ss t.class) new (ts ++ x) (λ n e. front_off ts n new x e h) e)

through_on : (ts : List Classed) (o : Option (List Sym)) (new : List Sym) (x y : List Classed) → ((n : List Sym) → after n ts ≡ Some new → Sems n y → Sems new x) → after_step (λ n. after n ts) o ≡ Some new → Left o y → Sems new x
through_on ts None new x y k e h = absurd h
through_on ts (Some n) new x y k e h = k n e h

-- and the other way round
front_on : (ts : List Classed) (ss new : List Sym) (x : List Classed) → after ss ts ≡ Some new → Sems ss (ts ++ x) → Sems new x
front_on [] ss new x e h = let f : ss ≡ new = cc in subst (λ z. Sems z x) f h
front_on (t ∷ ts) ss new x e h = through_on ts (step ss t.class) new x (ts ++ x) (λ n e h. front_on ts n new x e h) e (on ss t (ts ++ x) h)

stuck : (ts : List Classed) (ss new : List Sym) (t : Classed) (x : List Classed) → after ss ts ≡ Some new → step new t.class ≡ None → Sems ss (ts ++ (t ∷ x)) → ⊥
stuck ts ss new t x e n h = subst (λ o. Left o x) n (on new t x (front_on ts ss new (t ∷ x) e h))

wants : (ts : List Classed) (ss new : List Sym) (s : Sym) → after ss ts ≡ Some (s ∷ new) → Sems ss ts → ⊥
wants ts ss new s e h = wants_more new s (front_on ts ss (s ∷ new) [] e (subst (Sems ss) (sym (append-nil ts)) h))
  where
    wants_more : (new : List Sym) (s : Sym) → Sems (s ∷ new) [] → ⊥
    wants_more new s ([], v, h, k, e) = not_empty s h
    wants_more new s (u ∷ us, v, h, k, e) = cc

-- ---- declarations and texts as stacks

joined : (x1 x2 y : List Classed) (b : Classed) → ((x1 ++ x2) ++ (b ∷ [])) ++ y ≡ x1 ++ ((x2 ++ (b ∷ [])) ++ y)
joined x1 x2 y b = ap (λ z. z ++ y) (append_assoc x1 x2 (b ∷ [])) ∙ append_assoc x1 (x2 ++ (b ∷ [])) y

module _ (k : WordClass) (s : Sym) where
  from_declarations : ((w : Classed) → IsKeyword k w → Sem s (w ∷ [])) → (d : Declarations) (rest : List Sym) (us y : List Classed) → AreDeclarations k d us → Sems rest y
      → Sems (AnOpen ∷ s ∷ ADeclaration ∷ MoreDeclarations ∷ rest) (us ++ y)
  from_declarations means d rest us y (declarations a w b first more xs ha hw (x1, x2, h1, h2, ex) hb ed eu) m = (
    a ∷ [],
    w ∷ ((xs ++ (b ∷ [])) ++ y),
    (a, ha, refl),
    (
      w ∷ [],
      (xs ++ (b ∷ [])) ++ y,
      means w hw,
      (x1, (x2 ++ (b ∷ [])) ++ y, (first, h1), (x2 ++ (b ∷ []), y, (more, x2, b, h2, hb, refl), m, refl), ap (λ z. (z ++ (b ∷ [])) ++ y) ex ∙ joined x1 x2 y b),
      refl,
    ),
    ap (λ z. z ++ y) eu,
  )

  to_declarations : ((x : List Classed) → Sem s x → (w : Classed) × IsKeyword k w × (x ≡ w ∷ [])) → (rest : List Sym) (ts : List Classed) → Sems (AnOpen ∷ s ∷ ADeclaration ∷ MoreDeclarations ∷ rest) ts
      → (d : Declarations) × (us : List Classed) × (y : List Classed) × AreDeclarations k d us × Sems rest y × (ts ≡ us ++ y)
  to_declarations means rest ts (u0, v0, (a, ha, ea), (u1, v1, hk, (x1, v2, (first, h1), (u3, y, (more, x2, b, h2, hb, eb), m, e3), e2), e1), e0) =
      let w = means u1 hk in (
        _,
        a ∷ w.0 ∷ ((x1 ++ x2) ++ (b ∷ [])),
        y,
        declarations a w.0 b first more (x1 ++ x2) ha w.1 (x1, x2, h1, h2, refl) hb refl refl,
        m,
        e0 ∙ ap (λ z. z ++ v0) ea ∙ ap (λ z. a ∷ z) (e1 ∙ ap (λ z. z ++ v1) w.2 ∙ ap (λ z. w.0 ∷ z) (e2 ∙ ap (λ z. x1 ++ z) (e3 ∙ ap (λ z. z ++ y) eb) ∙ sym (joined x1 x2 y b))),
      )

from_text : (ts : List Classed) → InGrammar ts → Sems start ts
from_text ts (f, text v o sections us vs ws hv ho hs ef e) =
    subst (Sems start) (sym e)
    (from_declarations word.Variables AVariables (λ w hw. (w, hw, refl)) v (AnOpen ∷ AnObservations ∷ ADeclaration ∷ MoreDeclarations ∷ []) us (vs ++ ws) hv
    (from_declarations word.Observations AnObservations (λ w hw. (w, hw, refl)) o [] vs ws ho (sections, hs)))

to_text : (ts : List Classed) → Sems start ts → InGrammar ts
to_text ts h =
    let p = to_declarations word.Variables AVariables (λ x k. k) (AnOpen ∷ AnObservations ∷ ADeclaration ∷ MoreDeclarations ∷ []) ts h in
    let q = to_declarations word.Observations AnObservations (λ x k. k) [] p.2 p.4 in
    (_, text p.0 q.0 q.4.0 p.1 q.1 q.2 p.3 q.3 q.4.1 refl (p.5 ∙ ap (λ z. p.1 ++ z) q.5))

pub viable : (ts : List Classed) (new : List Sym) → after start ts ≡ Some new → IsViable ts
viable ts new e = let p = all_spelled new in (p.0, to_text (ts ++ p.0) (front_off ts start new p.0 e p.1))

pub not_viable : (ts : List Classed) (new : List Sym) (t : Classed) → after start ts ≡ Some new → step new t.class ≡ None → IsViable (ts ++ (t ∷ [])) → ⊥
not_viable ts new t e n (more, h) = stuck ts start new t more e n (subst (Sems start) (append_assoc ts (t ∷ []) more) (from_text _ h))

pub whole : (ts : List Classed) → after start ts ≡ Some [] → InGrammar ts
whole ts e = to_text ts (subst (Sems start) (append-nil ts) (front_off ts start [] [] e ([], refl)))

pub not_whole : (ts : List Classed) (s : Sym) (new : List Sym) → after start ts ≡ Some (s ∷ new) → InGrammar ts → ⊥
not_whole ts s new e h = wants ts start new s e (from_text ts h)
