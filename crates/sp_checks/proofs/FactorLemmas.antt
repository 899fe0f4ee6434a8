-- What the factors of the initial belief keep.
use Rattle.std.proofs.Common.{◌≡◌, ◌≢◌, ℕ, zero, suc, ◌+◌, ◌*◌, ◌<◌, ◌≤◌, ◌||◌, ◌&&◌, Bool, true, false, not, cond, List, [], ◌∷◌, ◌++◌, Ok, Err, refl, sym, ap, subst, ◌∙◌, arith, length, get_or, map, append_assoc, append-nil, zero-add, ◌⊎◌, inl, inr, ⊎_elim, leb, length-append, ◌-◌}
use Rattle.std.specs.Prelude.{Result, Option, Some, None, IfOk, All, AllPairs, Contains, fold, slice_index_or, ℤ, if◌then◌else◌}
use Rattle.std.specs.List.{range_with_len, filter}
use Rattle.std.proofs.lemmas.Bool.{false≢true}
use Rattle.std.proofs.lemmas.List.Elements.{All-contains, Contains-append_left, Contains-append_right, Contains-append_cases, Contains-get_or, filter_passes, All-get_or}
use Rattle.std.proofs.lemmas.List.Kept.{AllPairs-filter}
use Rattle.std.proofs.lemmas.List.FromFn.{length-range_with_len, get_or-range_with_len}
use Rattle.std.proofs.lemmas.List.Sums.{AllPass-from_list_all}
use Rattle.std.proofs.lemmas.List.Folds.{list_any_at}
use Rattle.std.proofs.lemmas.Bool.Decides.{leb_tells}
use Rattle.std.proofs.Math.ListN.{get_or-append}
use Rattle.std.proofs.Math.Seq.{get_or-append_right}
use Rattle.sp_dd.specs.Func.{Func, IsScope}
use Rattle.sp_model.specs.declared.parts.Factor.{Factor}
use Rattle.sp_model.specs.Kept.{IsFactor, all_own, NumbersRise}
use Rattle.sp_rows.specs.Tables.{is_probability, bad_sum}
use Rattle.sp_rows.proofs.LawLemmas.{probability_of, sum_whole}
use Rattle.sp_syntax.specs.declared.text.Tree.{Tree}
use Rattle.sp_trees.specs.declared.refusal.Refusal.{Refusal}
use Rattle.sp_trees.specs.declared.slots.Slots.{Slots}
use Rattle.sp_trees.specs.declared.env.Env.{Env}
use Rattle.sp_trees.specs.Slots.{union, has, is_among}
use Rattle.sp_trees.specs.declared.refusal.ModelKind.TheVariants as kind
use Rattle.sp_trees.specs.Refusals.{lesser, refused_if, is_before}
use Rattle.sp_trees.specs.Good.{IsGood}
use Rattle.sp_trees.proofs.SlotLemmas.{has_none, has_union}
use Rattle.sp_trees.proofs.HoldLemmas.{tree_holds}
use Rattle.sp_declarations.specs.Steps.{unless_refused, in_turn}
use Rattle.sp_checks.specs.declared.roles.Role.TheVariants as role
use Rattle.sp_checks.specs.declared.initial.Share.{Share}
use Rattle.sp_checks.specs.declared.initial.Factored.{Factored}
use Rattle.sp_checks.specs.Roles.{allowed_slots, may_mention}
use Rattle.sp_checks.specs.Initial.{own_of, shares, has_every, mentions_of_factors, share_of, sum_refusal, value_refusal_by, value_refusal, owned, factor, factor_step, no_factors, factors}
use Rattle.sp_checks.specs.Kept.{IsFitEnv, AreFactors}
use Rattle.sp_checks.proofs.RoleLemmas.{not_mentioned}
use Rattle.sp_checks.proofs.OwnLemmas.{own_within}
use Rattle.sp_declarations.proofs.StepLemmas.{stood, nothing_refused, not_if, all_more}
use Rattle.sp_checks.proofs.TableLemmas.{init_unprimed, init_unseen}

-- ---- own variables rise
range_rises : (a n : ℕ) → AllPairs (λ i j. i < j) (range_with_len a n)
range_rises a n i j d l m =
    let e = length-range_with_len a n in
    let x = get_or-range_with_len a n i d (omega arith) in let y = get_or-range_with_len a n j d (omega arith) in omega arith

own_rises : (n : ℕ) (m : Slots) → NumbersRise (own_of n m)
own_rises n m = AllPairs-filter (λ i j. i < j) (λ i. has m (2 * i)) (range_with_len 0 n) (range_rises 0 n)

-- what passes the test is kept
with_one : (b : Bool) (y : ℕ) (fs : List ℕ) (x : ℕ) → Contains fs x → Contains (cond b (y ∷ fs) fs) x
with_one true y fs x c = (suc c.0, (let h = c.1 in omega arith), c.2)
with_one false y fs x c = c

first_one : (b : Bool) (y : ℕ) (fs : List ℕ) (x : ℕ) → b ≡ true → y ≡ x → Contains (cond b (y ∷ fs) fs) x
first_one true y fs x h e = (0, omega arith, e)
first_one false y fs x h e = cc

contains_kept : (p : ℕ → Bool) (xs : List ℕ) (x k : ℕ) → k < length xs → get_or xs k x ≡ x → p x ≡ true → Contains (filter p xs) x
contains_kept p [] x k l e h = absurd (omega arith)
contains_kept p (y ∷ ys) x zero l e h = first_one (p y) y (filter p ys) x (ap p e ∙ h) e
contains_kept p (y ∷ ys) x (suc k) l e h = with_one (p y) y (filter p ys) x (contains_kept p ys x k (omega arith) e h)

own_has : (n : ℕ) (m : Slots) (i : ℕ) → Contains (own_of n m) i → has m (2 * i) ≡ true
own_has n m i c = All-contains (λ i. has m (2 * i) ≡ true) (own_of n m) i (filter_passes (λ i. has m (2 * i)) (range_with_len 0 n)) c

has_own : (n : ℕ) (m : Slots) (i : ℕ) → i < n → has m (2 * i) ≡ true → Contains (own_of n m) i
has_own n m i l h = contains_kept (λ i. has m (2 * i)) (range_with_len 0 n) i i (let e = length-range_with_len 0 n in omega arith) (get_or-range_with_len 0 n i i l ∙ zero-add i) h

-- ---- one factor
pick_some : (b : Bool) (x y : Refusal) → (if b then Some y else Some x) ≡ None → ⊥
pick_some true x y h = cc
pick_some false x y h = cc

lesser_left : (a b : Option Refusal) → lesser a b ≡ None → a ≡ None
lesser_left None b h = refl
lesser_left (Some x) None h = cc
lesser_left (Some x) (Some y) h = absurd (pick_some (is_before y x) x y h)

pub record AreShares (f : Func) (own : List ℕ) : Type 0 where
  pub probability : is_probability f ≡ true
  pub whole : bad_sum f own ≡ None

shares_of : (at : ℕ) (f : Func) (own : List ℕ) → value_refusal at f own ≡ None → AreShares f own
unfolding value_refusal
shares_of at f own h = go (is_probability f) refl h
  where
    last : (o : Option ℤ) → bad_sum f own ≡ o → is_probability f ≡ true → sum_refusal at o ≡ None → AreShares f own
    last None k e h = record { probability = e; whole = k }
    last (Some z) k e h = cc

    go : (b : Bool) → is_probability f ≡ b → value_refusal_by at f own b ≡ None → AreShares f own
    go true e h = last (bad_sum f own) refl e h
    go false e h = cc

pub record IsOneFactor (env : Env) (used : Slots) (s : Share) (f : Factor) : Type 0 where
  pub is : IsFactor env.scope f
  pub own_is : f.own ≡ own_of env.scope.variables s.judged.mentions
  pub new : shares env.scope.variables used s.judged.mentions ≡ false

module _ (env : Env) (source : List ℕ) (fit : IsFitEnv env) (t : Tree) where
  kept_of : (o : Result Func Refusal) (m : Slots) (g : Func) → IfOk o (λ f. IsGood env.scope m f) → IfOk o (λ f. is_among m (allowed_slots env.scope role.Init) ≡ true) → o ≡ Ok g → IsGood env.scope m g × (is_among m (allowed_slots env.scope role.Init) ≡ true)
  kept_of (Ok f) m g h k e = subst (λ (f : Func). IsGood env.scope m f × (is_among m (allowed_slots env.scope role.Init) ≡ true)) (let same : f ≡ g = cc in same) (h, k)
  kept_of (Err r) m g h k e = cc

  factor_is : (m : Slots) (g : Func) → IsGood env.scope m g × (is_among m (allowed_slots env.scope role.Init) ≡ true) → AreShares g (own_of env.scope.variables m) → IsFactor env.scope (record { func = g; own = own_of env.scope.variables m })
  factor_is m g k a =
      let good = k.0 in
      let scope : IsScope g.shape = subst IsScope (sym good.fit.shape) fit.env_kept.scope in
      let paired = fit.env_kept.scope.paired in
      let free = λ (slot : ℕ) (w : slot < length env.scope.sizes) (e : may_mention env.scope.variables role.Init slot ≡ false).
      good.free slot w (not_mentioned (may_mention env.scope.variables role.Init) (length env.scope.sizes) slot m k.1 e) in
      record {
        shape = good.fit.shape;
        probability = probability_of g scope a.probability;
        within = own_within env.scope env.scope.variables m (own_of env.scope.variables m) refl refl;
        rises = own_rises env.scope.variables m;
        whole = sum_whole g (own_of env.scope.variables m) scope a.whole;
        not_others = λ i l absent. good.free (2 * i) (omega arith) (lacks i l absent (has m (2 * i)) refl);
        not_primed = λ i l. free (2 * i + 1) (omega arith) (init_unprimed env.scope.variables i);
        not_seen = λ j l. free (2 * env.scope.variables + j) l (init_unseen env.scope.variables j);
      }
    where
      lacks : (i : ℕ) → i < env.scope.variables → ((c : Contains (own_of env.scope.variables m) i) → ⊥) → (b : Bool) → has m (2 * i) ≡ b → has m (2 * i) ≡ false
      lacks i l absent true e = absurd (absent (has_own env.scope.variables m i l e))
      lacks i l absent false e = e

  one_factor : (used : Slots) (f : Factor) → factor env.scope.variables used (share_of env source t) ≡ Ok f → IsOneFactor env used (share_of env source t) f
  unfolding factor owned
  one_factor used f h =
      let s = share_of env source t in
      let a = stood _ _ _ h in
      let b = stood _ _ _ a.then in
      let c = stood _ _ _ b.then in
      let none = nothing_refused _ a.value a.was in
      let holds = tree_holds env source (allowed_slots env.scope role.Init) fit.env_kept t in
      let is = factor_is s.judged.mentions b.value (kept_of s.judged.outcome s.judged.mentions b.value holds.0 holds.1 b.was) (shares_of s.at b.value _ (nothing_refused _ c.value c.was)) in
      let same : record { func = b.value; own = own_of env.scope.variables s.judged.mentions } ≡ f = cc (c.then) in
      record { is = subst (IsFactor env.scope) same is; own_is = ap (λ (f : Factor). f.own) (sym same); new = not_if _ s.at kind.BadScope (lesser_left _ _ none) }

-- ---- all factors
all_own-more : (fs : List Factor) (f : Factor) → all_own (fs ++ f ∷ []) ≡ all_own fs ++ f.own
all_own-more [] f = append-nil f.own
all_own-more (g ∷ fs) f = ap (λ xs. g.own ++ xs) (all_own-more fs f) ∙ sym (append_assoc g.own (all_own fs) f.own)

below_or : (a n : ℕ) → (a < n) ⊎ (n ≤ a)
below_or a n = ⊎_elim (λ (t : (leb n a ≡ true) × (n ≤ a)). inr t.1) (λ (t : (leb n a ≡ false) × (a < n)). inl t.1) (leb_tells n a)

pairs_append : (xs ys : List ℕ) → AllPairs (λ i j. i ≢ j) xs → AllPairs (λ i j. i ≢ j) ys → ((x y : ℕ) → Contains xs x → Contains ys y → x ≢ y) → AllPairs (λ i j. i ≢ j) (xs ++ ys)
pairs_append xs ys h k c i j d l m = go (below_or i (length xs)) (below_or j (length xs))
  where
    long : length (xs ++ ys) ≡ length xs + length ys
    long = length-append xs ys

    go : (i < length xs) ⊎ (length xs ≤ i) → (j < length xs) ⊎ (length xs ≤ j) → slice_index_or (xs ++ ys) i d ≢ slice_index_or (xs ++ ys) j d
    go (inl a) (inl b) e = h i j d l b (sym (get_or-append xs ys d i a) ∙ e ∙ get_or-append xs ys d j b)
    go (inl a) (inr b) e =
        c (get_or xs i d) (get_or ys (j - length xs) d) (Contains-get_or xs i d a) (Contains-get_or ys (j - length xs) d (let w = long in omega arith))
        (sym (get_or-append xs ys d i a) ∙ e ∙ get_or-append_right xs ys j d b)
    go (inr a) (inl b) e = absurd (omega arith)
    go (inr a) (inr b) e = k (i - length xs) (j - length xs) d (omega arith) (let w = long in omega arith) (sym (get_or-append_right xs ys i d a) ∙ e ∙ get_or-append_right xs ys j d b)

rising_apart : (xs : List ℕ) → AllPairs (λ i j. i < j) xs → AllPairs (λ i j. i ≢ j) xs
rising_apart xs h i j d l m e = let b = h i j d l m in omega arith

-- what holds of the factors so far
pub record AreSoFar (env : Env) (r : Factored) : Type 0 where
  pub each : All (IsFactor env.scope) r.list
  pub apart : AllPairs (λ i j. i ≢ j) (all_own r.list)
  pub used_of : (i : ℕ) → Contains (all_own r.list) i → has r.used (2 * i) ≡ true
  pub of_used : (i : ℕ) → i < env.scope.variables → has r.used (2 * i) ≡ true → Contains (all_own r.list) i

pub none_so_far : (env : Env) → AreSoFar env no_factors
none_so_far env = record {
  each = λ k d l. absurd (omega arith);
  apart = λ i j d l m. absurd (omega arith);
  used_of = λ i c. absurd (let h = c.1 in omega arith);
  of_used = λ i l h. absurd (false≢true (sym (has_none (2 * i)) ∙ h));
}

or_left : (a b : Bool) → a ≡ true → (a || b) ≡ true
or_left true b h = refl
or_left false b h = cc

or_right : (a b : Bool) → b ≡ true → (a || b) ≡ true
or_right true b h = refl
or_right false b h = h

or_cases : (a b : Bool) → (a || b) ≡ true → (a ≡ true) ⊎ (b ≡ true)
or_cases true b h = inl refl
or_cases false b h = inr h

both_true : (a b : Bool) → a ≡ true → b ≡ true → (a && b) ≡ true
both_true true b h k = k
both_true false b h k = cc

-- what two sets share is shared
shared : (n : ℕ) (a b : Slots) (i : ℕ) → i < n → shares n a b ≡ false → has a (2 * i) ≡ true → has b (2 * i) ≡ true → ⊥
shared n a b i l apart h k =
    false≢true (sym apart ∙ list_any_at (λ i. has a (2 * i) && has b (2 * i)) (range_with_len 0 n) i 0 (let e = length-range_with_len 0 n in omega arith)
    (subst (λ (j : ℕ). (has a (2 * j) && has b (2 * j)) ≡ true) (sym (get_or-range_with_len 0 n i 0 l ∙ zero-add i)) (both_true _ _ h k)))

module _ (env : Env) (source : List ℕ) (fit : IsFitEnv env) where
  step_keeps : (r : Factored) (t : Tree) (q : Factored) → AreSoFar env r → factor_step env.scope.variables r (share_of env source t) ≡ Ok q → AreSoFar env q
  unfolding factor_step
  step_keeps r t q h e =
      let s = share_of env source t in
      let n = env.scope.variables in
      let m = s.judged.mentions in
      let a = stood _ _ _ e in
      let f = a.value in
      let one = one_factor env source fit t r.used f a.was in
      let own : all_own (r.list ++ f ∷ []) ≡ all_own r.list ++ own_of n m = all_own-more r.list f ∙ ap (λ xs. all_own r.list ++ xs) one.own_is in
      let next : AreSoFar env (record { used = union r.used m; list = r.list ++ f ∷ [] }) = record {
        each = all_more (IsFactor env.scope) r.list f h.each one.is;
        apart = subst (AllPairs (λ i j. i ≢ j)) (sym own)
            (pairs_append (all_own r.list) (own_of n m) h.apart (rising_apart (own_of n m) (own_rises n m))
            (λ x y c d same. shared n r.used m y (All-contains (λ i. i < n) (own_of n m) y (own_within env.scope n m (own_of n m) refl refl) d) one.new
            (subst (λ (i : ℕ). has r.used (2 * i) ≡ true) same (h.used_of x c)) (own_has n m y d)));
        used_of = λ i c. has_union r.used m (2 * i) ∙ ⊎_elim
            (λ (a : Contains (all_own r.list) i). or_left _ _ (h.used_of i a))
            (λ (b : Contains (own_of n m) i). or_right _ _ (own_has n m i b))
            (Contains-append_cases (all_own r.list) (own_of n m) i (subst (λ (xs : List ℕ). Contains xs i) own c));
        of_used = λ i l u. subst (λ (xs : List ℕ). Contains xs i) (sym own) (⊎_elim
            (λ (a : has r.used (2 * i) ≡ true). Contains-append_left (all_own r.list) (own_of n m) i (h.of_used i l a))
            (λ (b : has m (2 * i) ≡ true). Contains-append_right (all_own r.list) (own_of n m) i (has_own n m i l b))
            (or_cases _ _ (sym (has_union r.used m (2 * i)) ∙ u)));
      } in
      subst (AreSoFar env) (let same : record { used = union r.used m; list = r.list ++ f ∷ [] } ≡ q = cc (a.then) in same) next

  turns_keep_factors : (ts : List Tree) (r q : Factored) → AreSoFar env r → in_turn (factor_step env.scope.variables) r (map (share_of env source) ts) ≡ Ok q → AreSoFar env q × (q.used ≡ fold (λ all s. union all s.judged.mentions) r.used (map (share_of env source) ts))
  unfolding in_turn factor_step
  turns_keep_factors [] r q h e = (subst (AreSoFar env) (let same : r ≡ q = cc in same) h, ap (λ (r : Factored). r.used) (let same : q ≡ r = cc in same))
  turns_keep_factors (t ∷ ts) r q h e =
      let a = stood (factor_step env.scope.variables r (share_of env source t)) (λ t. in_turn (factor_step env.scope.variables) t (map (share_of env source) ts)) q e in
      let more = turns_keep_factors ts a.value q (step_keeps r t a.value h a.was) a.then in
      (more.0, more.1 ∙ ap (λ u. fold (λ all s. union all s.judged.mentions) u (map (share_of env source) ts)) (used_next r t a.value a.was))
    where
      used_next : (r : Factored) (t : Tree) (q : Factored) → factor_step env.scope.variables r (share_of env source t) ≡ Ok q → q.used ≡ union r.used (share_of env source t).judged.mentions
      used_next r t q e = let a = stood (factor env.scope.variables r.used (share_of env source t)) (λ f. Ok (record { used = union r.used (share_of env source t).judged.mentions; list = r.list ++ f ∷ [] })) q e in ap (λ (r : Factored). r.used) (let same : q ≡ record { used = union r.used (share_of env source t).judged.mentions; list = r.list ++ a.value ∷ [] } = cc (a.then) in same)

  every_has : (m : Slots) (i : ℕ) → has_every env.scope.variables m ≡ true → i < env.scope.variables → has m (2 * i) ≡ true
  every_has m i h l =
      let n = env.scope.variables in
      subst (λ (j : ℕ). has m (2 * j) ≡ true) (get_or-range_with_len 0 n i 0 l ∙ zero-add i)
      (All-get_or (λ i. has m (2 * i) ≡ true) (range_with_len 0 n) i 0 (let e = length-range_with_len 0 n in omega arith) (AllPass-from_list_all (λ i. has m (2 * i)) (range_with_len 0 n) h))

  every_true : (b : Bool) (at : ℕ) → unless_refused (refused_if (not b) at kind.BadScope) ≡ Ok tt → b ≡ true
  every_true true at h = refl
  every_true false at h = cc

  pub factors_kept : (at : ℕ) (ts : List Tree) (fs : List Factor) → factors env.scope.variables at (map (share_of env source) ts) ≡ Ok fs → AreFactors env.scope fs
  unfolding factors
  factors_kept at ts fs h =
      let a = stood _ _ _ h in
      let b = stood _ _ _ a.then in
      let all = turns_keep_factors ts no_factors b.value (none_so_far env) b.was in
      let same : b.value.list ≡ fs = cc (b.then) in
      let every = every_true (has_every env.scope.variables (mentions_of_factors (map (share_of env source) ts))) at a.was in
      subst (AreFactors env.scope) same (record {
        each = all.0.each;
        apart = all.0.apart;
        every = λ i l. all.0.of_used i l (ap (λ u. has u (2 * i)) all.1 ∙ every_has (mentions_of_factors (map (share_of env source) ts)) i every l);
      })
