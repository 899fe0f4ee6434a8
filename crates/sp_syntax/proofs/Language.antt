-- The texts of each symbol, and that a step of the machine takes the first token off them, backwards.
use Rattle.std.proofs.Common.{◌≡◌, List, [], ◌∷◌, ◌++◌, Option, Some, None, Bool, true, false, refl, sym, ap, ◌∙◌, subst, append_assoc, append-nil}
use Rattle.std.specs.Prelude.{IsTrue}
use Rattle.sp_lex.specs.declared.lexeme.Span.{Span}
use Rattle.sp_syntax.specs.declared.class.WordClass.TheVariants as word
use Rattle.sp_syntax.specs.declared.class.TokenClass.{TokenClass}
use Rattle.sp_syntax.specs.declared.class.TokenClass.TheVariants as class
use Rattle.sp_syntax.specs.declared.class.Classed.{Classed}
use Rattle.sp_syntax.specs.declared.text.Tree.{Tree}
use Rattle.sp_syntax.specs.declared.text.Branch.{Branch}
use Rattle.sp_syntax.specs.declared.text.Declaration.{Declaration}
use Rattle.sp_syntax.specs.declared.text.Observed.{Observed}
use Rattle.sp_syntax.specs.declared.text.Item.{Item}
use Rattle.sp_syntax.specs.declared.text.Section.{Section}
use Rattle.sp_syntax.specs.Grammar.{IsA, IsKeyword, IsName, IsWord, is_number, IsTree, number, reference, node, primed_node, sum, product, IsBranch, branch, AreAll, IsValue, IsDeclaration, declaration, IsObserved, observed, IsItem, variable, observe, cost, IsSection}
use Rattle.sp_syntax.specs.Reading.{is_right_square, is_close, is_word, is_end_observe, is_end_action}
use Rattle.sp_syntax.proofs.Machine.{Sym, AnOpen, AClose, AName, AWord, AVariables, AnObservations, AnEndDd, ATree, AfterOpen, AfterSquare, MoreTrees, ABranch, MoreBranches, ADeclaration, MoreDeclarations, MoreValues, AnObserved, MoreObserved, AnItem, MoreItems, only_where, or_more, in_tree, in_round, in_square, in_branch, in_declaration, in_observed, in_item, expand}
use Rattle.sp_syntax.proofs.Good.{Reads}
use Rattle.sp_syntax.proofs.Tokens.{close_means, right_square_means, end_action_means, end_observe_means, open_reads, close_reads, word_reads, name_reads, variables_reads, observations_reads, end_dd_reads}
use Rattle.sp_syntax.proofs.TreesRead.{to_branches, to_trees}

-- one token of the sort
abbrev pub One : (Classed → Type 0) → List Classed → Type 0
One P x = (t : Classed) × P t × (x ≡ t ∷ [])

-- parts, and the token that ends them
abbrev pub ListOf : {X : Type 0} → (X → List Classed → Type 0) → (Classed → Type 0) → List Classed → Type 0
ListOf {X = X} IsX Ends x = (xs : List X) × (us : List Classed) × (b : Classed) × AreAll IsX xs us × Ends b × (x ≡ us ++ (b ∷ []))

-- the texts of a symbol; what follows a bracket is universal over that bracket
abbrev pub Sem : Sym → List Classed → Type 0
Sem AnOpen x = One (IsA class.Open) x
Sem AClose x = One (IsA class.Close) x
Sem AName x = One IsName x
Sem AWord x = (s : Span) × IsValue s x
Sem AVariables x = One (IsKeyword word.Variables) x
Sem AnObservations x = One (IsKeyword word.Observations) x
Sem AnEndDd x = One (IsKeyword word.EndDd) x
Sem ATree x = (t : Tree) × IsTree t x
Sem AfterOpen x = (a : Classed) → IsA class.Open a → (t : Tree) × IsTree t (a ∷ x)
Sem AfterSquare x = (a : Classed) → IsA class.LeftSquare a → (t : Tree) × IsTree t (a ∷ x)
Sem MoreTrees x = ListOf IsTree (IsA class.RightSquare) x
Sem ABranch x = (r : Branch) × IsBranch r x
Sem MoreBranches x = ListOf IsBranch (IsA class.Close) x
Sem ADeclaration x = (d : Declaration) × IsDeclaration d x
Sem MoreDeclarations x = ListOf IsDeclaration (IsA class.Close) x
Sem MoreValues x = ListOf IsValue (IsA class.Close) x
Sem AnObserved x = (o : Observed) × IsObserved o x
Sem MoreObserved x = ListOf IsObserved (IsKeyword word.EndObserve) x
Sem AnItem x = (i : Item) × IsItem i x
Sem MoreItems x = ListOf IsItem (IsKeyword word.EndAction) x

-- the texts of a stack, with sections behind it
abbrev pub Sems : List Sym → List Classed → Type 0
Sems [] x = (ss : List Section) × AreAll IsSection ss x
Sems (s ∷ ss) x = (u v : List Classed) × Sem s u × Sems ss v × (x ≡ u ++ v)

-- the same without the sections
abbrev pub Seq : List Sym → List Classed → Type 0
Seq [] x = x ≡ []
Seq (s ∷ ss) x = (u v : List Classed) × Sem s u × Seq ss v × (x ≡ u ++ v)

pub sems_append : (ss rs : List Sym) (x y : List Classed) → Seq ss x → Sems rs y → Sems (ss ++ rs) (x ++ y)
sems_append [] rs x y e m = subst (λ z. Sems rs (z ++ y)) (sym e) m
sems_append (s ∷ ss) rs x y (u, v, h, k, e) m = (u, v ++ y, h, sems_append ss rs v y k m, ap (λ z. z ++ y) e ∙ append_assoc u v y)

pub sems_split : (ss rs : List Sym) (x : List Classed) → Sems (ss ++ rs) x → (u v : List Classed) × Seq ss u × Sems rs v × (x ≡ u ++ v)
sems_split [] rs x m = ([], x, refl, m, refl)
sems_split (s ∷ ss) rs x (u, v, h, k, e) =
    let p = sems_split ss rs v k in
    (u ++ p.0, p.1, (u, p.0, h, p.2, refl), p.3, e ∙ ap (λ z. u ++ z) p.4 ∙ sym (append_assoc u p.0 p.1))

pub seq_append : (ss rs : List Sym) (x y : List Classed) → Seq ss x → Seq rs y → Seq (ss ++ rs) (x ++ y)
seq_append [] rs x y e m = subst (λ z. Seq rs (z ++ y)) (sym e) m
seq_append (s ∷ ss) rs x y (u, v, h, k, e) m = (u, v ++ y, h, seq_append ss rs v y k m, ap (λ z. z ++ y) e ∙ append_assoc u v y)

pub seq_split : (ss rs : List Sym) (x : List Classed) → Seq (ss ++ rs) x → (u v : List Classed) × Seq ss u × Seq rs v × (x ≡ u ++ v)
seq_split [] rs x m = ([], x, refl, m, refl)
seq_split (s ∷ ss) rs x (u, v, h, k, e) =
    let p = seq_split ss rs v k in
    (u ++ p.0, p.1, (u, p.0, h, p.2, refl), p.3, e ∙ ap (λ z. u ++ z) p.4 ∙ sym (append_assoc u p.0 p.1))

pub only : (s : Sym) (x : List Classed) → Seq (s ∷ []) x → Sem s x
only s x (u, v, h, k, e) = subst (Sem s) (sym (e ∙ ap (λ z. u ++ z) k ∙ append-nil u)) h

pub alone : (s : Sym) (x : List Classed) → Sem s x → Seq (s ∷ []) x
alone s x h = (x, [], h, refl, sym (append-nil x))

-- what stands after a step
abbrev pub Goes : Option (List Sym) → List Classed → Type 0
Goes None x = ⊥
Goes (Some new) x = Seq new x

-- ---- a step back: what stands after the step, with the token before it

module _ (t : Classed) (x : List Classed) where
  one_back : (s : Sym) (fits : Option TokenClass → Bool) (P : Classed → Type 0) → Reads s fits P → Goes (only_where (fits (Some t.class))) x → One P (t ∷ x)
  one_back s fits P k h = by (fits (Some t.class)) refl h
    where
      by : (o : Bool) → fits (Some t.class) ≡ o → Goes (only_where o) x → One P (t ∷ x)
      by true e n = (t, k.means t e, ap (λ z. t ∷ z) n)
      by false e h = absurd h

  word_back : Goes (only_where (is_word (Some t.class))) x → (s : Span) × IsValue s (t ∷ x)
  word_back h = let p = one_back AWord is_word IsWord word_reads h in (p.0.span, (p.0, p.1, refl, p.2))

  tree_back : (c : TokenClass) → t.class ≡ c → Goes (in_tree c) x → (r : Tree) × IsTree r (t ∷ x)
  tree_back class.Open e n = only AfterOpen x n t e
  tree_back class.LeftSquare e n = only AfterSquare x n t e
  tree_back _ e h = absurd h

  number_back : (a : Classed) → IsA class.Open a → IsTrue (is_number t.class) → Sem AClose x → (r : Tree) × IsTree r (a ∷ t ∷ x)
  number_back a ea hw (b, hb, ex) = (_, number a t b ea hw hb refl (ap (λ z. a ∷ t ∷ z) ex))

  named_back : (a : Classed) → IsA class.Open a → IsName t → Sem MoreBranches x → (r : Tree) × IsTree r (a ∷ t ∷ x)
  named_back a ea hn ([], us, b, hs, hb, ex) = (_, reference a t b ea hn hb refl (ap (λ z. a ∷ t ∷ z) (ex ∙ ap (λ z. z ++ (b ∷ [])) hs)))
  named_back a ea hn (r ∷ rs, us, b, hs, hb, ex) = (_, node a t b r rs us ea hn (to_branches (r ∷ rs) us hs) hb refl (ap (λ z. a ∷ t ∷ z) ex))

  round_back : (c : TokenClass) → t.class ≡ c → Goes (in_round c) x → (a : Classed) → IsA class.Open a → (r : Tree) × IsTree r (a ∷ t ∷ x)
  round_back (class.Word word.Number) e n a ea = number_back a ea (subst (λ c. IsTrue (is_number c)) (sym e) refl) (only AClose x n)
  round_back (class.Word word.Minus) e n a ea = number_back a ea (subst (λ c. IsTrue (is_number c)) (sym e) refl) (only AClose x n)
  round_back (class.Word word.Name) e n a ea = named_back a ea e (only MoreBranches x n)
  round_back class.Primed e (u, v, (r, hr), k, eu) a ea =
      let l = only MoreBranches v k in (
        _,
        primed_node a t l.2 r l.0 (u ++ l.1) ea e (to_branches (r ∷ l.0) (u ++ l.1) (u, l.1, hr, l.3, refl)) l.4 refl
            (ap (λ z. a ∷ t ∷ z) (eu ∙ ap (λ z. u ++ z) l.5 ∙ sym (append_assoc u l.1 (l.2 ∷ [])))),
      )
  round_back _ e h a ea = absurd h

  square_back : (c : TokenClass) → t.class ≡ c → Goes (in_square c) x → (a : Classed) → IsA class.LeftSquare a → (r : Tree) × IsTree r (a ∷ t ∷ x)
  square_back class.Plus e (u, v, (r, hr), k, eu) a ea =
      let l = only MoreTrees v k in (
        _,
        sum a t l.2 r l.0 (u ++ l.1) ea e (to_trees (r ∷ l.0) (u ++ l.1) (u, l.1, hr, l.3, refl)) l.4 refl
            (ap (λ z. a ∷ t ∷ z) (eu ∙ ap (λ z. u ++ z) l.5 ∙ sym (append_assoc u l.1 (l.2 ∷ [])))),
      )
  square_back class.Star e (u, v, (r, hr), k, eu) a ea =
      let l = only MoreTrees v k in (
        _,
        product a t l.2 r l.0 (u ++ l.1) ea e (to_trees (r ∷ l.0) (u ++ l.1) (u, l.1, hr, l.3, refl)) l.4 refl
            (ap (λ z. a ∷ t ∷ z) (eu ∙ ap (λ z. u ++ z) l.5 ∙ sym (append_assoc u l.1 (l.2 ∷ [])))),
      )
  square_back _ e h a ea = absurd h

  branch_back : (c : TokenClass) → t.class ≡ c → Goes (in_branch c) x → (r : Branch) × IsBranch r (t ∷ x)
  branch_back class.Open e (u1, v1, (s, (w, hw, es, ew)), (u2, v2, (r, hr), k, e2), e1) =
      let b = only AClose v2 k in
      (_, branch t w b.0 r u2 e hw hr b.1 refl (ap (λ z. t ∷ z) (e1 ∙ ap (λ z. z ++ v1) ew ∙ ap (λ z. w ∷ z) (e2 ∙ ap (λ z. u2 ++ z) b.2))))
  branch_back _ e h = absurd h

  declaration_back : (c : TokenClass) → t.class ≡ c → Goes (in_declaration c) x → (d : Declaration) × IsDeclaration d (t ∷ x)
  declaration_back class.Open e (u1, v1, (n, hn, en), (u2, v2, (s, hs), k, e2), e1) =
      let l = only MoreValues v2 k in (
        _,
        declaration t n l.2 s l.0 (u2 ++ l.1) e hn (u2, l.1, hs, l.3, refl) l.4 refl
            (ap (λ z. t ∷ z) (e1 ∙ ap (λ z. z ++ v1) en ∙ ap (λ z. n ∷ z) (e2 ∙ ap (λ z. u2 ++ z) l.5 ∙ sym (append_assoc u2 l.1 (l.2 ∷ []))))),
      )
  declaration_back _ e h = absurd h

  observed_back : (c : TokenClass) → t.class ≡ c → Goes (in_observed c) x → (o : Observed) × IsObserved o (t ∷ x)
  observed_back (class.Word word.Name) e n = let r = only ATree x n in (_, observed t r.0 x e r.1 refl refl)
  observed_back _ e h = absurd h

  item_back : (c : TokenClass) → t.class ≡ c → Goes (in_item c) x → (i : Item) × IsItem i (t ∷ x)
  item_back (class.Word word.Name) e n = let r = only ATree x n in (_, variable t r.0 x e r.1 refl refl)
  item_back (class.Word word.Observe) e n = let l = only MoreObserved x n in (_, observe t l.2 l.0 l.1 e l.3 l.4 refl (ap (λ z. t ∷ z) l.5))
  item_back (class.Word word.Cost) e n = let r = only ATree x n in (_, cost t r.0 x e r.1 refl refl)
  item_back _ e h = absurd h

  many_back : {X : Type 0} (IsX : X → List Classed → Type 0) (Ends : Classed → Type 0) (l : Sym) (ends : Bool) (o : Option (List Sym))
      → ((y : List Classed) → Sem l y → ListOf IsX Ends y) → (ends ≡ true → Ends t) → ((y : List Classed) → Goes o y → (p : X) × IsX p (t ∷ y))
      → Goes (or_more ends l o) x → ListOf IsX Ends (t ∷ x)
  many_back IsX Ends l true o list means part n = ([], [], t, refl, means refl, ap (λ z. t ∷ z) n)
  many_back IsX Ends l false None list means part h = absurd h
  many_back IsX Ends l false (Some new) list means part h =
      let p = seq_split new (l ∷ []) x h in
      let r = part p.0 p.2 in
      let q = list p.1 (only l p.1 p.3) in
      (r.0 ∷ q.0, (t ∷ p.0) ++ q.1, q.2, (t ∷ p.0, q.1, r.1, q.3, refl), q.4, ap (λ z. t ∷ z) (p.4 ∙ ap (λ z. p.0 ++ z) q.5 ∙ sym (append_assoc p.0 q.1 (q.2 ∷ []))))

pub back : (s : Sym) (t : Classed) (x : List Classed) → Goes (expand s t.class) x → Sem s (t ∷ x)
back AnOpen t x h = one_back t x AnOpen _ _ open_reads h
back AClose t x h = one_back t x AClose _ _ close_reads h
back AName t x h = one_back t x AName _ _ name_reads h
back AWord t x h = word_back t x h
back AVariables t x h = one_back t x AVariables _ _ variables_reads h
back AnObservations t x h = one_back t x AnObservations _ _ observations_reads h
back AnEndDd t x h = one_back t x AnEndDd _ _ end_dd_reads h
back ATree t x h = tree_back t x t.class refl h
back AfterOpen t x h = round_back t x t.class refl h
back AfterSquare t x h = square_back t x t.class refl h
back MoreTrees t x h = many_back t x IsTree (IsA class.RightSquare) MoreTrees (is_right_square (Some t.class)) (in_tree t.class) (λ y k. k) (right_square_means t.class) (λ y k. tree_back t y t.class refl k) h
back ABranch t x h = branch_back t x t.class refl h
back MoreBranches t x h = many_back t x IsBranch (IsA class.Close) MoreBranches (is_close (Some t.class)) (in_branch t.class) (λ y k. k) (close_means t.class) (λ y k. branch_back t y t.class refl k) h
back ADeclaration t x h = declaration_back t x t.class refl h
back MoreDeclarations t x h = many_back t x IsDeclaration (IsA class.Close) MoreDeclarations (is_close (Some t.class)) (in_declaration t.class) (λ y k. k) (close_means t.class) (λ y k. declaration_back t y t.class refl k) h
back MoreValues t x h = many_back t x IsValue (IsA class.Close) MoreValues (is_close (Some t.class)) (only_where (is_word (Some t.class))) (λ y k. k) (close_means t.class) (λ y k. word_back t y k) h
back AnObserved t x h = observed_back t x t.class refl h
back MoreObserved t x h = many_back t x IsObserved (IsKeyword word.EndObserve) MoreObserved (is_end_observe (Some t.class)) (in_observed t.class) (λ y k. k) (end_observe_means t.class) (λ y k. observed_back t y t.class refl k) h
back AnItem t x h = item_back t x t.class refl h
back MoreItems t x h = many_back t x IsItem (IsKeyword word.EndAction) MoreItems (is_end_action (Some t.class)) (in_item t.class) (λ y k. k) (end_action_means t.class) (λ y k. item_back t y t.class refl k) h
