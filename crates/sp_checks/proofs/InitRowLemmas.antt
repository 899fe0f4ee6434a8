-- The rows of the factors of the initial belief.
use Rattle.std.proofs.Common.{◌≡◌, ℕ, zero, suc, ◌+◌, ◌*◌, ◌<◌, ◌≤◌, ◌&&◌, ◌||◌, not, Bool, true, false, List, [], ◌∷◌, ◌++◌, map, Option, Some, None, Ok, Err, refl, sym, ap, ◌∙◌, subst, arith, inl, inr}
use Rattle.std.specs.Prelude.{◌⊎◌, ℤ, pos, Result, IfOk, fold, is_some, nat_lt}
use Rattle.std.specs.List.{list_any, list_all, range_with_len}
use Rattle.std.proofs.lemmas.Bool.{false≢true}
use Rattle.std.proofs.lemmas.Bool.Decides.{nat_tests}
use Rattle.std.proofs.lemmas.List.{map-append}
use Rattle.std.proofs.lemmas.List.Folds.{list_any_at}
use Rattle.std.proofs.lemmas.List.FromFn.{length-range_with_len, get_or-range_with_len}
use Rattle.sp_lex.specs.declared.lexeme.Span.{Span}
use Rattle.sp_syntax.specs.declared.text.Tree.{Tree}
use Rattle.sp_syntax.specs.declared.text.Section.{Section}
use Rattle.sp_dd.specs.Floors.{ticks}
use Rattle.sp_dd.specs.Func.{Func}
use Rattle.sp_model.specs.declared.parts.Factor.{Factor}
use Rattle.sp_rows.specs.Tables.{is_probability, bad_sum}
use Rattle.sp_trees.specs.declared.refusal.Refusal.{Refusal}
use Rattle.sp_trees.specs.declared.refusal.ModelKind.TheVariants as kind
use Rattle.sp_trees.specs.declared.slots.Slots.{Slots}
use Rattle.sp_trees.specs.declared.env.Env.{Env}
use Rattle.sp_trees.specs.declared.judged.Judged.{Judged}
use Rattle.sp_trees.specs.Refusals.{is_before, lesser, refused_if}
use Rattle.sp_trees.specs.Slots.{none, union, has}
use Rattle.sp_trees.specs.Judged.{refusal}
use Rattle.sp_trees.specs.Judge.{judgement}
use Rattle.sp_trees.specs.Conditions.{HasOutside}
use Rattle.sp_trees.specs.Good.{IsEnv}
use Rattle.sp_trees.specs.Rows.{IsFirstRefusal, Among, IsRefusalAt}
use Rattle.sp_trees.specs.Told.{func_of, mentions_of, HasMade}
use Rattle.sp_trees.proofs.SlotLemmas.{has_union, has_none}
use Rattle.sp_trees.proofs.MentionLemmas.{lesser_none}
use Rattle.sp_trees.proofs.PartialLemmas.{range_not}
use Rattle.sp_trees.proofs.LeastLemmas.{least_same, least_either, least_only, least_test}
use Rattle.sp_trees.proofs.RowLemmas.{tree_least}
use Rattle.sp_trees.proofs.ToldLemmas.{trees_told}
use Rattle.sp_syntax.specs.Spans.{AreRising, tree_spans, all_spans}
use Rattle.sp_declarations.specs.Steps.{◌>>=◌, unless_refused, in_turn}
use Rattle.sp_declarations.specs.Rows.{PartRow, HasPlace, refusal_of}
use Rattle.sp_declarations.proofs.StepLemmas.{stood}
use Rattle.sp_declarations.proofs.ChainLemmas.{later, least_then, place_above, refused_ok, refused_unless, turns_least, turns_fit}
use Rattle.sp_checks.specs.declared.roles.Role.TheVariants as role
use Rattle.sp_checks.specs.declared.initial.Share.{Share}
use Rattle.sp_checks.specs.declared.initial.Factored.{Factored}
use Rattle.sp_checks.specs.Roles.{start_of, allowed_slots}
use Rattle.sp_checks.specs.declared.state.State.{State}
use Rattle.sp_checks.specs.Initial.{factor_trees, has_every, mentions_of_factors, checked_every, factors, checked_init, init, own_of, shares, share_of, sum_refusal, value_refusal_by, value_refusal, checked_share, checked_values, owned, factor, factor_step, no_factors, factors_in_turn}
use Rattle.sp_checks.specs.Standing.{IsInit}
use Rattle.sp_checks.proofs.TextRows.{RoleRow, FactorRow, InitRow}
use Rattle.sp_checks.specs.Told.{factor_of}
use Rattle.sp_checks.proofs.RowPlaceLemmas.{factor_place, factors_place, factor_rise}
use Rattle.sp_checks.proofs.AmongLemmas.{at_later, among_more, among_last, among_split}
use Rattle.sp_checks.proofs.TableRowLemmas.{outside_of, not_outside}

right_of : (a b : Bool) → (a && b) ≡ true → b ≡ true
right_of true b h = h
right_of false b h = absurd (false≢true h)

left_of : (a b : Bool) → (a && b) ≡ true → a ≡ true
left_of true b h = refl
left_of false b h = h

range_at : (p : ℕ → Bool) (a n k : ℕ) → list_all p (range_with_len a n) ≡ true → a ≤ k → k < a + n → p k ≡ true
range_at p a zero k h l w = absurd (omega arith)
range_at p a (suc n) k h l w = go (nat_lt a k) refl (λ low. range_at p (a + 1) n k (right_of (p a) _ h) low (omega arith))
  where
    go : (b : Bool) → nat_lt a k ≡ b → (a + 1 ≤ k → p k ≡ true) → p k ≡ true
    go true e more = more (grind (arith, nat_tests))
    go false e more = let same : a ≡ k = grind (arith, nat_tests) in subst (λ i. p i ≡ true) same (left_of (p a) _ h)

then_same : {A B : Type 0} (r : Result A Refusal) (f g : A → Result B Refusal) → ((a : A) → f a ≡ g a) → (r >>= f) ≡ (r >>= g)
then_same (Ok a) f g h = h a
then_same (Err e) f g h = refl

pub in_turn_map : {S X Y : Type 0} (step : S → Y → Result S Refusal) (f : X → Y) (s : S) (xs : List X) → in_turn step s (map f xs) ≡ in_turn (λ s x. step s (f x)) s xs
unfolding in_turn
in_turn_map step f s [] = refl
in_turn_map step f s (x ∷ xs) = then_same (step s (f x)) (λ t. in_turn step t (map f xs)) (λ t. in_turn (λ s x. step s (f x)) t xs) (λ t. in_turn_map step f t xs)

module _ (env : Env) (source : List ℕ) (e : IsEnv env) (made : HasMade env) where
  n : ℕ
  n = env.scope.variables

  abbrev m : Tree → Slots
  m t = mentions_of env source t

  abbrev j : Tree → Judged
  j t = judgement env source (allowed_slots env.scope role.Init) t

  abbrev Shared : List Tree → Tree → Type 0
  Shared before t = (i : ℕ) × (i < env.scope.variables) × (has (m t) (2 * i) ≡ true) × Among (λ u. has (m u) (2 * i) ≡ true) before

  abbrev ShareRow : List Tree → Tree → Refusal → Type 0
  ShareRow before t r = Shared before t × IsRefusalAt (start_of t) kind.BadScope r

  abbrev ValueRow : Tree → Refusal → Type 0
  ValueRow t r =
      (HasOutside (pos 0) (pos ticks) (func_of env source t) × IsRefusalAt (start_of t) kind.BadProbability r)
      ⊎ ((¬ HasOutside (pos 0) (pos ticks) (func_of env source t))
      × ((sum : ℤ) × (bad_sum (func_of env source t) (own_of env.scope.variables (m t)) ≡ Some sum) × IsRefusalAt (start_of t) (kind.InitSum sum) r))

  value_least : (t : Tree) → IsFirstRefusal (ValueRow t) (value_refusal (start_of t) (func_of env source t) (own_of env.scope.variables (m t)))
  unfolding value_refusal
  value_least t = go (is_probability f) refl
    where
      f : Func
      f = func_of env source t

      own : List ℕ
      own = own_of env.scope.variables (m t)

      sums : ¬ HasOutside (pos 0) (pos ticks) f → (o : Option ℤ) → bad_sum f own ≡ o → IsFirstRefusal (ValueRow t) (sum_refusal (start_of t) o)
      sums fits None q = λ r h. elim h [ inl p ↦ fits p.0 | inr p ↦ apart p.1.0 (bad_sum f own) q p.1.1 ]
        where
          apart : (b : ℤ) (o : Option ℤ) → o ≡ None → o ≡ Some b → ⊥
          apart b o q k = cc
      sums fits (Some sum) q =
          least_only (ValueRow t) (record { at = start_of t; kind = kind.InitSum sum }) (inr (fits, (sum, q, refl)))
          (λ r h. elim h [ inl p ↦ absurd (fits p.0) | inr p ↦ p.1.2 ∙ ap (λ (z : ℤ). record { at = start_of t; kind = kind.InitSum z }) (sym (same sum p.1.0 (bad_sum f own) q p.1.1)) ])
        where
          same : (a b : ℤ) (o : Option ℤ) → o ≡ Some a → o ≡ Some b → a ≡ b
          same a b o q k = cc

      go : (b : Bool) → is_probability f ≡ b → IsFirstRefusal (ValueRow t) (value_refusal_by (start_of t) f own b)
      go true q = sums (not_outside (pos 0) (pos ticks) f e.scope q) (bad_sum f own) refl
      go false q =
          least_only (ValueRow t) (record { at = start_of t; kind = kind.BadProbability }) (inl (outside_of (pos 0) (pos ticks) f e.scope q, refl)) (λ r h. elim h [ inl p ↦ p.1 | inr p ↦ absurd (p.0 (outside_of (pos 0) (pos ticks) f e.scope q)) ])

  -- ---- what the factors before mention

  record HasUsed (before : List Tree) (r : Factored) : Type 0 where
    to : (slot : ℕ) → has r.used slot ≡ true → Among (λ u. has (m u) slot ≡ true) before
    back : (slot : ℕ) → Among (λ u. has (m u) slot ≡ true) before → has r.used slot ≡ true
    told : r.list ≡ map (factor_of source env) before

  both_true : (a b : Bool) → (a && b) ≡ true → (a ≡ true) × (b ≡ true)
  both_true true b h = (refl, h)
  both_true false b h = absurd (false≢true h)

  any_range : (p : ℕ → Bool) (a k : ℕ) → list_any p (range_with_len a k) ≡ true → (i : ℕ) × (a ≤ i) × (i < a + k) × (p i ≡ true)
  any_range p a zero h = absurd (false≢true h)
  any_range p a (suc k) h = go (p a) refl h (any_range p (a + 1) k)
    where
      later : (i : ℕ) × (a + 1 ≤ i) × (i < (a + 1) + k) × (p i ≡ true) → (i : ℕ) × (a ≤ i) × (i < a + suc k) × (p i ≡ true)
      later (i, l, w, q) = (i, omega arith, omega arith, q)

      go : (b : Bool) → p a ≡ b → (b || list_any p (range_with_len (a + 1) k)) ≡ true → (list_any p (range_with_len (a + 1) k) ≡ true → (i : ℕ) × (a + 1 ≤ i) × (i < (a + 1) + k) × (p i ≡ true)) → (i : ℕ) × (a ≤ i) × (i < a + suc k) × (p i ≡ true)
      go true q h more = (a, omega arith, omega arith, q)
      go false q h more = later (more h)

  range_any : (p : ℕ → Bool) (k i : ℕ) → i < k → p i ≡ true → list_any p (range_with_len 0 k) ≡ true
  range_any p k i w q =
      let long = length-range_with_len 0 k in
      list_any_at p (range_with_len 0 k) i 0 (omega arith) (ap p (get_or-range_with_len 0 k i 0 w ∙ (let z : 0 + i ≡ i = omega arith in z)) ∙ q)

  abbrev step : Factored → Tree → Result Factored Refusal
  step r t = factor_step env.scope.variables r (share_of env source t)

  said : (t : Tree) → (j t).mentions ≡ m t
  said t = (trees_told env source (allowed_slots env.scope role.Init) t e made).0

  share_least : (before : List Tree) (r : Factored) (t : Tree) → HasUsed before r → IsFirstRefusal (ShareRow before t) (refused_if (shares env.scope.variables r.used (j t).mentions) (start_of t) kind.BadScope)
  share_least before r t h = least_test (Shared before t) (shares env.scope.variables r.used (j t).mentions) (start_of t) kind.BadScope to back
    where
      to : shares env.scope.variables r.used (j t).mentions ≡ true → Shared before t
      to q =
          let i = any_range (λ i. has r.used (2 * i) && has (j t).mentions (2 * i)) 0 env.scope.variables q in
          let low = i.2 in
          let two = both_true (has r.used (2 * i.0)) (has (j t).mentions (2 * i.0)) i.3 in
          (i.0, omega arith, subst (λ s. has s (2 * i.0) ≡ true) (said t) two.1, h.to (2 * i.0) two.0)

      back : Shared before t → shares env.scope.variables r.used (j t).mentions ≡ true
      back (i, l, mine, before_me) =
          range_any (λ i. has r.used (2 * i) && has (j t).mentions (2 * i)) env.scope.variables i l
          (two (has r.used (2 * i)) (has (j t).mentions (2 * i)) (h.back (2 * i) before_me) (subst (λ s. has s (2 * i) ≡ true) (sym (said t)) mine))
        where
          two : (a b : Bool) → a ≡ true → b ≡ true → (a && b) ≡ true
          two true b p q = q
          two false b p q = p

  factor_least : (before : List Tree) (r : Factored) (t : Tree) → HasUsed before r → IsFirstRefusal (FactorRow env source before t) (refusal_of (step r t))
  unfolding factor_step factor owned
  factor_least before r t h = subst (IsFirstRefusal (FactorRow env source before t)) (sym (refused_ok found (λ f. record { used = union r.used (j t).mentions; list = r.list ++ f ∷ [] }))) (go (lesser first (refusal (j t).outcome)) (j t).outcome refl refl both)
    where
      s : Share
      s = share_of env source t

      first : Option Refusal
      first = refused_if (shares env.scope.variables r.used (j t).mentions) (start_of t) kind.BadScope

      after : Result Func Refusal → Unit {0} → Result Factor Refusal
      after o u = o >>= λ f. owned env.scope.variables s f

      found : Result Factor Refusal
      found = unless_refused (lesser first (refusal (j t).outcome)) >>= after (j t).outcome

      both : IsFirstRefusal (λ r. ShareRow before t r ⊎ RoleRow env source role.Init t r) (lesser first (refusal (j t).outcome))
      both = least_either (ShareRow before t) (RoleRow env source role.Init t) first (refusal (j t).outcome) (share_least before r t h) (tree_least env source (allowed_slots env.scope role.Init) t e)

      value_later : (x q : Refusal) → IsRefusalAt (start_of t) kind.BadScope x → ValueRow t q → is_before q x ≡ false
      value_later x q a (inl v) = subst (λ x. is_before q x ≡ false) (sym a) (at_later (start_of t) kind.BadProbability kind.BadScope q v.1 (omega arith))
      value_later x q a (inr v) = subst (λ x. is_before q x ≡ false) (sym a) (at_later (start_of t) (kind.InitSum v.1.0) kind.BadScope q v.1.2 (omega arith))

      last : (f : Func) → (j t).outcome ≡ Ok f → IsFirstRefusal (ValueRow t) (refusal_of (owned env.scope.variables s f))
      last f q =
          let same : f ≡ func_of env source t = subst (λ o. IfOk o (λ f. f ≡ func_of env source t)) q (trees_told env source (allowed_slots env.scope role.Init) t e made).1 in
          subst (IsFirstRefusal (ValueRow t)) (sym (refused_ok (checked_values (start_of t) f (own_of env.scope.variables (j t).mentions)) (λ _. record { func = f; own = own_of env.scope.variables (j t).mentions })
          ∙ refused_unless (value_refusal (start_of t) f (own_of env.scope.variables (j t).mentions))
          ∙ (λ i. value_refusal (start_of t) (same i) (own_of env.scope.variables (said t i))))) (value_least t)

      go : (c : Option Refusal) (o : Result Func Refusal) → lesser first (refusal (j t).outcome) ≡ c → (j t).outcome ≡ o → IsFirstRefusal (λ r. ShareRow before t r ⊎ RoleRow env source role.Init t r) c
          → IsFirstRefusal (FactorRow env source before t) (refusal_of (unless_refused c >>= after o))
      go (Some x) o q k l = (
        elim l.0 [ inl a ↦ inl a | inr b ↦ inr (inl b) ],
        λ r c. elim c [ inl a ↦ l.1 r (inl a) | inr d ↦ elim d [ inl b ↦ l.1 r (inr b) | inr v ↦ elim l.0 [ inl a ↦ value_later x r a.1 v.1 | inr b ↦ absurd (v.0 x b) ] ] ],
      )
      go None (Err z) q k l = absurd (apart z (ap refusal (sym k) ∙ (lesser_none first (refusal (j t).outcome) q).1))
        where
          apart : (z : Refusal) → refusal (Err z) ≡ None → ⊥
          apart z q = (let p : Some z ≡ None = q in cc)
      go None (Ok f) q k l =
          least_same (ValueRow t) _ (refusal_of (owned env.scope.variables s f)) (λ r v. inr (inr (λ q b. l q (inr b), v)))
          (λ r c. elim c [ inl a ↦ absurd (l r (inl a)) | inr d ↦ elim d [ inl b ↦ absurd (l r (inr b)) | inr v ↦ v.1 ] ]) (last f k)

  factor_is : (r : Factored) (t : Tree) (f : Factor) → factor env.scope.variables r.used (share_of env source t) ≡ Ok f → f ≡ factor_of source env t
  unfolding factor owned
  factor_is r t f q =
      let n = env.scope.variables in
      let s = share_of env source t in
      let b = stood (checked_share n r.used s) (λ _. (j t).outcome >>= λ g. owned n s g) f q in
      let c = stood (j t).outcome (λ g. owned n s g) f b.then in
      let d = stood (checked_values s.at c.value (own_of n (j t).mentions)) (λ _. Ok (record { func = c.value; own = own_of n (j t).mentions })) f c.then in
      let same : c.value ≡ func_of env source t = subst (λ o. IfOk o (λ g. g ≡ func_of env source t)) c.was (trees_told env source (allowed_slots env.scope role.Init) t e made).1 in
      sym (let z : record { func = c.value; own = own_of n (j t).mentions } ≡ f = cc (d.then) in z) ∙ (λ i. record { func = same i; own = own_of n (said t i) })

  factor_next : (before : List Tree) (r u : Factored) (t : Tree) → HasUsed before r → step r t ≡ Ok u → HasUsed (before ++ t ∷ []) u
  unfolding factor_step factor owned
  factor_next before r u t h q =
      let a = stood (factor env.scope.variables r.used (share_of env source t)) (λ f. Ok (record { used = union r.used (j t).mentions; list = r.list ++ f ∷ [] })) u q in
      subst (HasUsed (before ++ t ∷ [])) (let z : record { used = union r.used (j t).mentions; list = r.list ++ a.value ∷ [] } ≡ u = cc (a.then) in z) (record {
        to = λ slot w. go slot (has r.used slot) refl (sym (has_union r.used (j t).mentions slot) ∙ w);
        back = λ slot w. has_union r.used (j t).mentions slot ∙ more slot (among_split (λ u. has (m u) slot ≡ true) before t w);
        told = ap (λ fs. fs ++ a.value ∷ []) h.told ∙ ap (λ f. map (factor_of source env) before ++ f ∷ []) (factor_is r t a.value a.was) ∙ sym (map-append (factor_of source env) before (t ∷ []));
      })
    where
      go : (slot : ℕ) (b : Bool) → has r.used slot ≡ b → (has r.used slot || has (j t).mentions slot) ≡ true → Among (λ u. has (m u) slot ≡ true) (before ++ t ∷ [])
      go slot true k w = among_more (λ u. has (m u) slot ≡ true) before t (h.to slot k)
      go slot false k w =
          among_last (λ u. has (m u) slot ≡ true) before t (subst (λ s. has s slot ≡ true) (said t) (sym (ap (λ b. b || has (j t).mentions slot) k) ∙ w))

      right_or : (a b : Bool) → b ≡ true → (a || b) ≡ true
      right_or true b k = refl
      right_or false b k = k

      more : (slot : ℕ) → Among (λ u. has (m u) slot ≡ true) before ⊎ (has (m t) slot ≡ true) → (has r.used slot || has (j t).mentions slot) ≡ true
      more slot (inl k) = ap (λ b. b || has (j t).mentions slot) (h.back slot k)
      more slot (inr k) = right_or (has r.used slot) (has (j t).mentions slot) (subst (λ s. has s slot ≡ true) (sym (said t)) k)

  factor_at : (before : List Tree) (t : Tree) (r : Refusal) → FactorRow env source before t r → HasPlace (tree_spans t) r.at
  factor_at before t r h = factor_place env source before t r h

  factor_right : (before : List Tree) (r : Factored) (t : Tree) (low high : ℕ) → HasUsed before r → AreRising low (tree_spans t) high → IsFirstRefusal (FactorRow env source before t) (refusal_of (step r t))
  factor_right before r t low high h rise = factor_least before r t h

  nothing_used : HasUsed [] no_factors
  nothing_used = record { to = λ slot w. absurd (false≢true (sym (has_none slot) ∙ w)); back = λ slot w. absurd w; told = refl }

  -- the factors in turn answer the least row
  pub factors_least : (ts : List Tree) (low high : ℕ) → AreRising low (all_spans tree_spans ts) high
      → IsFirstRefusal (PartRow (FactorRow env source) [] ts) (refusal_of (factors_in_turn env.scope.variables (map (share_of env source) ts)))
  factors_least ts low high rise =
      subst (λ r. IsFirstRefusal (PartRow (FactorRow env source) [] ts) (refusal_of r)) (sym (in_turn_map (factor_step env.scope.variables) (share_of env source) no_factors ts))
      (turns_least step (FactorRow env source) tree_spans HasUsed factor_right factor_next factor_at [] no_factors ts low high nothing_used rise)

  factors_told : (ts : List Tree) (r : Factored) → factors_in_turn env.scope.variables (map (share_of env source) ts) ≡ Ok r → r.list ≡ map (factor_of source env) ts
  factors_told ts r q =
      (turns_fit step (FactorRow env source) tree_spans HasUsed factor_right factor_next factor_at [] no_factors r ts nothing_used (sym (in_turn_map (factor_step env.scope.variables) (share_of env source) no_factors ts) ∙ q)).told

  -- the factors are those of the trees
  pub factors_are : (at : ℕ) (ts : List Tree) (fs : List Factor) → factors env.scope.variables at (map (share_of env source) ts) ≡ Ok fs → fs ≡ map (factor_of source env) ts
  unfolding factors
  factors_are at ts fs q =
      let a = stood (checked_every env.scope.variables at (map (share_of env source) ts)) (λ _. factors_in_turn env.scope.variables (map (share_of env source) ts) >>= λ r. Ok r.list) fs q in
      let b = stood (factors_in_turn env.scope.variables (map (share_of env source) ts)) (λ r. Ok r.list) fs a.then in
      sym (let z : b.value.list ≡ fs = cc (b.then) in z) ∙ factors_told ts b.value b.was

  -- ---- every variable is in a factor

  mentioned_to : (slot : ℕ) (first : Slots) (ts : List Tree) → has (fold (λ all s. union all s.judged.mentions) first (map (share_of env source) ts)) slot ≡ true → (has first slot ≡ true) ⊎ Among (λ u. has (m u) slot ≡ true) ts
  mentioned_to slot first [] h = inl h
  mentioned_to slot first (t ∷ ts) h = elim (mentioned_to slot (union first (j t).mentions) ts h) [ inl a ↦ go (has first slot) refl (sym (has_union first (j t).mentions slot) ∙ a) | inr b ↦ inr (inr b) ]
    where
      go : (b : Bool) → has first slot ≡ b → (has first slot || has (j t).mentions slot) ≡ true → (has first slot ≡ true) ⊎ Among (λ u. has (m u) slot ≡ true) (t ∷ ts)
      go true k w = inl k
      go false k w = inr (inl (subst (λ s. has s slot ≡ true) (said t) (sym (ap (λ b. b || has (j t).mentions slot) k) ∙ w)))

  mentioned_from : (slot : ℕ) (first : Slots) (ts : List Tree) → (has first slot ≡ true) ⊎ Among (λ u. has (m u) slot ≡ true) ts → has (fold (λ all s. union all s.judged.mentions) first (map (share_of env source) ts)) slot ≡ true
  mentioned_from slot first [] h = elim h [ inl a ↦ a | inr b ↦ absurd b ]
  mentioned_from slot first (t ∷ ts) h = mentioned_from slot (union first (j t).mentions) ts (elim h [ inl a ↦ inl (has_union first (j t).mentions slot ∙ ap (λ b. b || has (j t).mentions slot) a) | inr b ↦ elim b [ inl c ↦ inl (has_union first (j t).mentions slot ∙ right_or (has first slot) (has (j t).mentions slot) (subst (λ s. has s slot ≡ true) (sym (said t)) c)) | inr d ↦ inr d ] ])
    where
      right_or : (a b : Bool) → b ≡ true → (a || b) ≡ true
      right_or true b k = refl
      right_or false b k = k

  every_least : (at : ℕ) (ts : List Tree) → IsFirstRefusal (λ r. ((i : ℕ) × (i < env.scope.variables) × (¬ Among (λ u. has (m u) (2 * i) ≡ true) ts)) × IsRefusalAt at kind.BadScope r)
      (refused_if (not (has_every env.scope.variables (mentions_of_factors (map (share_of env source) ts)))) at kind.BadScope)
  every_least at ts = least_test ((i : ℕ) × (i < env.scope.variables) × (¬ Among (λ u. has (m u) (2 * i) ≡ true) ts)) (not all) at kind.BadScope to back
    where
      all : Bool
      all = has_every env.scope.variables (mentions_of_factors (map (share_of env source) ts))

      flip : (b : Bool) → not b ≡ true → b ≡ false
      flip true q = sym q
      flip false q = refl

      to : not all ≡ true → (i : ℕ) × (i < env.scope.variables) × (¬ Among (λ u. has (m u) (2 * i) ≡ true) ts)
      to q =
          let k = range_not (λ i. has (mentions_of_factors (map (share_of env source) ts)) (2 * i)) 0 env.scope.variables (flip all q) in
          let low = k.2 in
          (k.0, omega arith, λ a. false≢true (sym k.3 ∙ mentioned_from (2 * k.0) none ts (inr a)))

      back : (i : ℕ) × (i < env.scope.variables) × (¬ Among (λ u. has (m u) (2 * i) ≡ true) ts) → not all ≡ true
      back (i, l, never) = go all refl
        where
          there : all ≡ true → has (mentions_of_factors (map (share_of env source) ts)) (2 * i) ≡ true
          there q = range_at (λ i. has (mentions_of_factors (map (share_of env source) ts)) (2 * i)) 0 env.scope.variables i q (omega arith) (omega arith)

          go : (b : Bool) → all ≡ b → not b ≡ true
          go false q = refl
          go true q = absurd (elim (mentioned_to (2 * i) none ts (there q)) [ inl a ↦ false≢true (sym (has_none (2 * i)) ∙ a) | inr b ↦ never b ])

  -- ---- the section

  pub init_least : (before : List Section) (s : State) (keyword : Span) (t : Tree) (low high : ℕ) → s.env ≡ env → (is_some s.init ≡ true → Among IsInit before) → (Among IsInit before → is_some s.init ≡ true)
      → AreRising low (keyword ∷ tree_spans t) high → IsFirstRefusal (InitRow env source before keyword t) (refusal_of (init source s keyword t))
  unfolding init factors
  init_least before s keyword t low high same to back (a, b, rise) =
      let wide = factor_rise t keyword.end high rise in
      let at = keyword.start in
      let P : Type 0 = (i : ℕ) × (i < env.scope.variables) × (¬ Among (λ u. has (m u) (2 * i) ≡ true) (factor_trees t)) in
      let E : Refusal → Type 0 = λ r. P × IsRefusalAt at kind.BadScope r in
      let F : Refusal → Type 0 = PartRow (FactorRow env source) [] (factor_trees t) in
      let behind : (r : Refusal) → F r → at < r.at = λ r f. let low_place = place_above (all_spans tree_spans (factor_trees t)) wide.0 wide.1 r.at wide.3 (factors_place env source (factor_trees t) r f) in let w = wide.2 in omega arith in
      least_then (λ r. Among IsInit before × IsRefusalAt at kind.RepeatedName r) (λ r. E r ⊎ F r) (checked_init s at) _
      (subst (IsFirstRefusal (λ r. Among IsInit before × IsRefusalAt at kind.RepeatedName r)) (sym (refused_unless (refused_if (is_some s.init) at kind.RepeatedName))) (least_test (Among IsInit before) (is_some s.init) at kind.RepeatedName to back))
      (λ u q. subst (λ (v : Env). IsFirstRefusal (λ r. E r ⊎ F r) (refusal_of (factors v.scope.variables at (map (share_of v source) (factor_trees t)) >>= λ fs. Ok (record s { init = Some fs })))) (sym same)
      (subst (IsFirstRefusal (λ r. E r ⊎ F r)) (sym (refused_ok (factors env.scope.variables at (map (share_of env source) (factor_trees t))) (λ fs. record s { init = Some fs })))
      (least_then E F (checked_every env.scope.variables at (map (share_of env source) (factor_trees t))) _
      (subst (IsFirstRefusal E) (sym (refused_unless (refused_if (not (has_every env.scope.variables (mentions_of_factors (map (share_of env source) (factor_trees t))))) at kind.BadScope))) (every_least at (factor_trees t)))
      (λ u q. subst (IsFirstRefusal F) (sym (refused_ok (factors_in_turn env.scope.variables (map (share_of env source) (factor_trees t))) (λ r. r.list))) (factors_least (factor_trees t) wide.0 wide.1 wide.3))
      (λ r q x y. let first : r.at ≡ at = ap (λ r. r.at) x.1 in let second = behind q y in later q r (omega arith)))))
      (λ r q x y. let first : r.at ≡ at = ap (λ r. r.at) x.1 in elim y [ inl z ↦ subst (λ r. is_before q r ≡ false) (sym x.1) (at_later at kind.BadScope kind.RepeatedName q z.1 (omega arith)) | inr z ↦ (let second = behind q z in later q r (omega arith)) ])
