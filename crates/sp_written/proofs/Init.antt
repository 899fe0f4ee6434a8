-- The initial belief as it is spelled.
use Rattle.std.proofs.Common.{◌≡◌, ℕ, zero, suc, ◌+◌, ◌*◌, ◌<◌, ◌≤◌, ◌==◌, ◌||◌, Bool, true, false, cond, List, [], ◌∷◌, ◌++◌, map, Option, Some, None, refl, sym, ap, ◌∙◌, subst, append_assoc, append-nil, not, arith}
use Rattle.std.specs.Prelude.{Ok, filter, fold, codes, is_some}
use Rattle.std.specs.List.{range_with_len, list_any}
use Rattle.std.proofs.lemmas.Bool.Decides.{nat_tests, Decides-eqb}
use Rattle.sp_lex.specs.declared.lexeme.Span.{Span}
use Rattle.sp_syntax.specs.declared.text.Tree.{Tree, roll-Tree, out-roll-Tree}
use Rattle.sp_syntax.specs.declared.text.Tree.TheVariants as tree
use Rattle.sp_syntax.specs.declared.text.Tree.TheOpen.{Tree-F}
use Rattle.sp_model.specs.declared.parts.Factor.{Factor}
use Rattle.sp_trees.specs.declared.refusal.ModelKind.TheVariants as kind
use Rattle.sp_trees.specs.declared.slots.Slots.{Slots}
use Rattle.sp_trees.specs.declared.env.Dd.{Dd}
use Rattle.sp_trees.specs.declared.judged.Judged.{Judged}
use Rattle.sp_trees.specs.Refusals.{lesser, refused_if}
use Rattle.sp_trees.specs.Slots.{none, union, has}
use Rattle.sp_trees.specs.Judge.{judgement}
use Rattle.sp_written.specs.Acceptance.{acceptance_of, mentions_of}
use Rattle.sp_declarations.specs.Steps.{◌>>=◌, unless_refused, in_turn}
use Rattle.sp_checks.specs.declared.roles.Role.TheVariants as role
use Rattle.sp_checks.specs.declared.initial.Share.{Share}
use Rattle.sp_checks.specs.declared.initial.Factored.{Factored}
use Rattle.sp_checks.specs.declared.state.State.{State}
use Rattle.sp_checks.specs.Roles.{allowed_slots}
use Rattle.sp_checks.specs.Initial.{own_of, shares, value_refusal, factor, factor_step, owned, checked_share, factors, factors_in_turn, has_every, factor_trees, trees_by, init, share_of}
use Rattle.sp_written.proofs.Lines.{Leads, leads_one}
use Rattle.sp_spelled.specs.Signs.{Spelled, line}
use Rattle.sp_spelled.proofs.Trees.{written_product}
use Rattle.sp_spelled.specs.Shapes.{product_group, spaced_word}
use Rattle.sp_spelled.proofs.Sections.{written_init}
use Rattle.sp_written.specs.Meanings.{AreWritten, list_signs}
use Rattle.sp_written.proofs.Sums.{writes_list, some_trees}

-- ---- the own variables
abbrev pub is_in : List ℕ → ℕ → Bool
is_in own i = list_any (λ j. j == i) own

-- numbers that rise from one on
abbrev pub RisesFrom : ℕ → List ℕ → Type 0
RisesFrom a [] = Unit {0}
RisesFrom a (x ∷ xs) = (a ≤ x) × RisesFrom (suc x) xs

abbrev pub EndsBelow : ℕ → List ℕ → Type 0
EndsBelow n [] = Unit {0}
EndsBelow n (x ∷ xs) = (x < n) × EndsBelow n xs

lower : (a b : ℕ) (xs : List ℕ) → a ≤ b → RisesFrom b xs → RisesFrom a xs
lower a b [] l h = tt
lower a b (x ∷ xs) l h = let low = h.0 in (omega arith, h.1)

not_in : (a i : ℕ) (xs : List ℕ) → i < a → RisesFrom a xs → is_in xs i ≡ false
not_in a i [] l h = refl
not_in a i (x ∷ xs) l h =
    let low = h.0 in
    let no : (x == i) ≡ false = let less : i < x = omega arith in grind (arith, nat_tests) in
    ap (λ b. b || is_in xs i) no ∙ not_in (suc x) i xs (omega arith) h.1

-- those of the numbers from a on that pass are the own ones
filter_is : (p : ℕ → Bool) (a k : ℕ) (own : List ℕ) → RisesFrom a own → EndsBelow (a + k) own → ((i : ℕ) → a ≤ i → i < a + k → p i ≡ is_in own i) → filter p (range_with_len a k) ≡ own
filter_is p a zero [] r e h = refl
filter_is p a zero (x ∷ own) r e h = let low = r.0 in let high = e.0 in absurd (omega arith)
filter_is p a (suc k) [] r e h =
    ap (λ b. cond b (a ∷ filter p (range_with_len (a + 1) k)) (filter p (range_with_len (a + 1) k))) (h a (omega arith) (omega arith))
    ∙ filter_is p (a + 1) k [] tt tt (λ i l m. h i (omega arith) (omega arith))
filter_is p a (suc k) (x ∷ own) r e h =
    let same : a + suc k ≡ a + 1 + k = omega arith in
    let ends : EndsBelow (a + 1 + k) (x ∷ own) = subst (λ n. EndsBelow n (x ∷ own)) same e in
    let low = r.0 in
    go (x == a) refl
    (λ t. filter_is p (a + 1) k own (lower (a + 1) (suc x) own (omega arith) r.1) ends.1
    (λ i l m. h i (omega arith) (omega arith) ∙ (let no : (x == i) ≡ false = let is : x ≡ a = (Decides-eqb x a).0 t in let less : x < i = omega arith in grind (arith, nat_tests) in ap (λ b. b || is_in own i) no)))
    (λ above. filter_is p (a + 1) k (x ∷ own) (above, r.1) ends (λ i l m. h i (omega arith) (omega arith)))
  where
    go : (b : Bool) → (x == a) ≡ b → ((x == a) ≡ true → filter p (range_with_len (a + 1) k) ≡ own) → (a + 1 ≤ x → filter p (range_with_len (a + 1) k) ≡ x ∷ own) → filter p (range_with_len a (suc k)) ≡ x ∷ own
    go true t here there =
        let is : x ≡ a = (Decides-eqb x a).0 t in
        let passes : p a ≡ true = h a (omega arith) (omega arith) ∙ ap (λ b. b || is_in own a) t in
        ap (λ b. cond b (a ∷ filter p (range_with_len (a + 1) k)) (filter p (range_with_len (a + 1) k))) passes ∙ ap (λ xs. a ∷ xs) (here t) ∙ ap (λ y. y ∷ own) (sym is)
    go false t here there =
        let low = r.0 in
        let above : a + 1 ≤ x = grind (arith, nat_tests) in
        let fails : p a ≡ false = h a (omega arith) (omega arith) ∙ not_in (suc a) a (x ∷ own) (omega arith) ((let l : suc a ≤ x = omega arith in l), r.1) in
        ap (λ b. cond b (a ∷ filter p (range_with_len (a + 1) k)) (filter p (range_with_len (a + 1) k))) fails ∙ there above

-- a factor's own variables are those that it mentions unprimed
pub own_is : (n : ℕ) (m : Slots) (own : List ℕ) → RisesFrom 0 own → EndsBelow n own → ((i : ℕ) → i < n → has m (2 * i) ≡ is_in own i) → own_of n m ≡ own
own_is n m own r e h = filter_is (λ i. has m (2 * i)) 0 n own r (subst (λ k. EndsBelow k own) (let same : n ≡ 0 + n = omega arith in same) e) (λ i l k. h i (omega arith))

-- ---- factors
-- a factor's tree is accepted, with these own variables, behind factors that mention the used slots
pub record IsFactorOk (n : ℕ) (used : Slots) (d : Dd) (own : List ℕ) : Type 0 where
  pub apart : shares n used d.mentions ≡ false
  pub own_of_it : own_of n d.mentions ≡ own
  pub values : (at : ℕ) → value_refusal at d.func own ≡ None

factor_ok : (n : ℕ) (used : Slots) (s : Share) (d : Dd) (own : List ℕ) → s.judged ≡ acceptance_of d → IsFactorOk n used d own → factor n used s ≡ Ok (record { func = d.func; own = own })
unfolding factor owned
factor_ok n used s d own means ok =
    ap (λ (j : Judged). checked_share n used (record { at = s.at; judged = j }) >>= λ _. (j.outcome >>= λ f. owned n (record { at = s.at; judged = j }) f)) means
    ∙ ap (λ b. unless_refused (lesser (refused_if b s.at kind.BadScope) None) >>= λ _. owned n (record { at = s.at; judged = acceptance_of d }) d.func) ok.apart
    ∙ ap (λ l. unless_refused (value_refusal s.at d.func l) >>= λ _. Ok (record { func = d.func; own = l })) ok.own_of_it
    ∙ ap (λ r. unless_refused r >>= λ _. Ok (record { func = d.func; own = own })) (ok.values s.at)

abbrev pub AreFactorsOk : ℕ → Slots → List Dd → List (List ℕ) → Type 0
AreFactorsOk n used [] [] = Unit {0}
AreFactorsOk n used [] (own ∷ owns) = ⊥
AreFactorsOk n used (d ∷ ds) [] = ⊥
AreFactorsOk n used (d ∷ ds) (own ∷ owns) = IsFactorOk n used d own × AreFactorsOk n (union used d.mentions) ds owns

abbrev pub factors_of : List Dd → List (List ℕ) → List Factor
factors_of [] owns = []
factors_of (d ∷ ds) [] = []
factors_of (d ∷ ds) (own ∷ owns) = record { func = d.func; own = own } ∷ factors_of ds owns

abbrev AreShares : List Share → List Dd → Type 0
AreShares [] [] = Unit {0}
AreShares [] (d ∷ ds) = ⊥
AreShares (s ∷ ss) [] = ⊥
AreShares (s ∷ ss) (d ∷ ds) = (s.judged ≡ acceptance_of d) × AreShares ss ds

factors_in_turn_ok : (n : ℕ) (used : Slots) (list : List Factor) (ss : List Share) (ds : List Dd) (owns : List (List ℕ)) → AreShares ss ds → AreFactorsOk n used ds owns
    → in_turn (factor_step n) (record { used = used; list = list }) ss ≡ Ok (record { used = mentions_of used ds; list = list ++ factors_of ds owns })
unfolding in_turn factor_step
factors_in_turn_ok n used list [] [] [] h k = ap (λ l. let r : Factored = record { used = used; list = l } in Ok r) (sym (append-nil list))
factors_in_turn_ok n used list [] [] (own ∷ owns) h k = absurd k
factors_in_turn_ok n used list [] (d ∷ ds) owns h k = absurd h
factors_in_turn_ok n used list (s ∷ ss) [] owns h k = absurd h
factors_in_turn_ok n used list (s ∷ ss) (d ∷ ds) [] h k = absurd k
factors_in_turn_ok n used list (s ∷ ss) (d ∷ ds) (own ∷ owns) h k =
    ap (λ o. (o >>= λ f. Ok (let r : Factored = record { used = union used s.judged.mentions; list = list ++ f ∷ [] } in r)) >>= λ r. in_turn (factor_step n) r ss) (factor_ok n used s d own h.0 k.0)
    ∙ ap (λ (j : Judged). in_turn (factor_step n) (record { used = union used j.mentions; list = list ++ record { func = d.func; own = own } ∷ [] }) ss) h.0
    ∙ factors_in_turn_ok n (union used d.mentions) (list ++ record { func = d.func; own = own } ∷ []) ss ds owns h.1 k.1
    ∙ ap (λ l. let r : Factored = record { used = mentions_of (union used d.mentions) ds; list = l } in Ok r) (append_assoc list (record { func = d.func; own = own } ∷ []) (factors_of ds owns))

mentioned_ok : (m : Slots) (ss : List Share) (ds : List Dd) → AreShares ss ds → fold (λ all (s : Share). union all s.judged.mentions) m ss ≡ mentions_of m ds
mentioned_ok m [] [] h = refl
mentioned_ok m [] (d ∷ ds) h = absurd h
mentioned_ok m (s ∷ ss) [] h = absurd h
mentioned_ok m (s ∷ ss) (d ∷ ds) h = ap (λ (j : Judged). fold (λ all (s : Share). union all s.judged.mentions) (union m j.mentions) ss) h.0 ∙ mentioned_ok (union m d.mentions) ss ds h.1

factors_ok : (n at : ℕ) (ss : List Share) (ds : List Dd) (owns : List (List ℕ)) → AreShares ss ds → AreFactorsOk n none ds owns → has_every n (mentions_of none ds) ≡ true → factors n at ss ≡ Ok (factors_of ds owns)
unfolding factors
factors_ok n at ss ds owns h k every =
    let all : has_every n (fold (λ all (s : Share). union all s.judged.mentions) none ss) ≡ true = ap (has_every n) (mentioned_ok none ss ds h) ∙ every in
    ap (λ b. unless_refused (refused_if (not b) at kind.BadScope) >>= λ _. (factors_in_turn n ss >>= λ r. Ok r.list)) all
    ∙ ap (λ o. o >>= λ (r : Factored). Ok r.list) (factors_in_turn_ok n none [] ss ds owns h k)

-- ---- the section
product_trees : (left star : Span) (list : List Tree) (right : Span) → factor_trees (tree.Product left star list right) ≡ list
product_trees left star list right = ap factor_trees (sym (tree.rolls-Product left star list right)) ∙ ap (trees_by (roll-Tree (Tree-F.Product left star list right))) (out-roll-Tree (Tree-F.Product left star list right))

module _ (s : State) where
  shares_are : (source : List ℕ) (list : List Tree) (ds : List Dd) → map (judgement s.env source (allowed_slots s.env.scope role.Init)) list ≡ map acceptance_of ds → AreShares (map (share_of s.env source) list) ds
  shares_are source [] [] h = tt
  shares_are source [] (d ∷ ds) h = cc
  shares_are source (t ∷ list) [] h = cc
  shares_are source (t ∷ list) (d ∷ ds) h = (let e : judgement s.env source (allowed_slots s.env.scope role.Init) t ≡ acceptance_of d = cc in e, shares_are source list ds (let e : map (judgement s.env source (allowed_slots s.env.scope role.Init)) list ≡ map acceptance_of ds = cc in e))

  -- the section is read, where each factor's tree is accepted
  pub leads_init : (depth : ℕ) (us : List (List Spelled)) (d : Dd) (ds : List Dd) (owns : List (List ℕ)) → s.init ≡ None → AreWritten s.env (allowed_slots s.env.scope role.Init) depth us (d ∷ ds)
      → AreFactorsOk s.env.scope.variables none (d ∷ ds) owns → has_every s.env.scope.variables (mentions_of none (d ∷ ds)) ≡ true
      → Leads s (record s { init = Some (factors_of (d ∷ ds) owns) }) (suc depth) (spaced_word (codes "init") ∷ product_group (list_signs us) line)
  unfolding init
  leads_init depth us d ds owns new h ok every =
      leads_one s (record s { init = Some (factors_of (d ∷ ds) owns) }) (suc depth) (spaced_word (codes "init") ∷ product_group (list_signs us) line)
      (written_init (product_group (list_signs us) line) (suc depth) (λ source t. map (judgement s.env source (allowed_slots s.env.scope role.Init)) (factor_trees t) ≡ map acceptance_of (d ∷ ds))
      (written_product (list_signs us) line depth _ _ (writes_list s.env (allowed_slots s.env.scope role.Init) depth us (d ∷ ds) h) (λ source list e. some_trees s.env (allowed_slots s.env.scope role.Init) source d ds list e)
      (λ source left at list right e. ap (map (judgement s.env source (allowed_slots s.env.scope role.Init))) (product_trees left at list right) ∙ e))
      _ (λ source k t e. init_read source k t e))
    where
      init_read : (source : List ℕ) (k : Span) (t : Tree) → map (judgement s.env source (allowed_slots s.env.scope role.Init)) (factor_trees t) ≡ map acceptance_of (d ∷ ds) → init source s k t ≡ Ok (record s { init = Some (factors_of (d ∷ ds) owns) })
      init_read source k t e =
          ap (λ (o : Option (List Factor)). unless_refused (refused_if (is_some o) k.start kind.RepeatedName) >>= λ _.
          (factors s.env.scope.variables k.start (map (share_of s.env source) (factor_trees t)) >>= λ fs. Ok (record s { init = Some fs }))) new
          ∙ ap (λ o. o >>= λ fs. Ok (record s { init = Some fs })) (factors_ok s.env.scope.variables k.start (map (share_of s.env source) (factor_trees t)) (d ∷ ds) owns (shares_are source (factor_trees t) (d ∷ ds) e) ok every)
