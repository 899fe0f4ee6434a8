-- The own variables of factors.
use Rattle.std.proofs.Common.{◌≡◌, ℕ, zero, suc, ◌+◌, ◌*◌, ◌^◌, ◌<◌, ◌≤◌, Bool, true, false, List, [], ◌∷◌, ◌++◌, Ok, Err, refl, sym, ap, ap₂, take, subst, ◌∙◌, arith, length, get_or, map, drop, add-one}
use Rattle.std.specs.Prelude.{Result, All, IfOk, if◌then◌else◌}
use Rattle.std.specs.List.{range_with_len, filter}
use Rattle.std.proofs.lemmas.List.Elements.{filter-append, All-filter}
use Rattle.std.proofs.lemmas.List.FromFn.{length-range_with_len, get_or-range_with_len}
use Rattle.std.proofs.Math.Nat.{mul-le-mul_right, mul-le-mul_left}
use Rattle.sp_dd.specs.Func.{Shape, Func, size_of}
use Rattle.sp_theory.specs.Points.{count_of}
use Rattle.sp_model.specs.Problem.{sizes_of, twice_each}
use Rattle.sp_model.specs.Sizes.{AllSome}
use Rattle.sp_model.proofs.SlotPoints.{size-unprimed}
use Rattle.sp_model.proofs.Counts.{length-sizes_of, count_of-some, count_of-drop, AllSome-drop}
use Rattle.sp_model.proofs.RowLaw.{some_sizes}
use Rattle.sp_rows.specs.Tables.{own_count}
use Rattle.sp_syntax.specs.declared.text.Tree.{Tree}
use Rattle.sp_trees.specs.declared.refusal.Refusal.{Refusal}
use Rattle.sp_trees.specs.declared.slots.Slots.{Slots}
use Rattle.sp_trees.specs.declared.env.Env.{Env}
use Rattle.sp_trees.specs.declared.judged.Judged.{Judged}
use Rattle.sp_trees.specs.Slots.{has}
use Rattle.sp_trees.specs.Good.{IsEnv, IsGood, IfGood}
use Rattle.sp_trees.proofs.HoldLemmas.{tree_holds}
use Rattle.sp_checks.specs.declared.roles.Role.TheVariants as role
use Rattle.sp_checks.specs.declared.initial.Share.{Share}
use Rattle.std.proofs.lemmas.List.{map_more}
use Rattle.sp_trees.specs.Judge.{judgement}
use Rattle.sp_checks.specs.Roles.{allowed_slots, start_of}
use Rattle.sp_checks.specs.Initial.{own_of, share_of}
use Rattle.sp_checks.specs.Kept.{IsFitEnv}

-- ---- one more number
range_more : (a n : ℕ) → range_with_len a (suc n) ≡ range_with_len a n ++ (a + n) ∷ []
range_more a zero = ap (λ k. k ∷ []) (omega arith)
range_more a (suc n) = ap (λ xs. a ∷ xs) (range_more (a + 1) n ∙ ap (λ k. range_with_len (a + 1) n ++ k ∷ []) (omega arith))

one_kept : (b : Bool) (p : ℕ → Bool) (n : ℕ) → p n ≡ b → filter p (n ∷ []) ≡ (if b then n ∷ [] else [])
one_kept true p n e = rw e refl
one_kept false p n e = rw e refl

pub own_more : (n : ℕ) (m : Slots) (own more : List ℕ) → own ≡ own_of n m → more ≡ own ++ (if has m (2 * n) then n ∷ [] else []) → more ≡ own_of (n + 1) m
own_more n m own more e h =
    let p = λ (i : ℕ). has m (2 * i) in
    let range : range_with_len 0 (n + 1) ≡ range_with_len 0 n ++ n ∷ [] = rw (add-one n) (range_more 0 n ∙ ap (λ k. range_with_len 0 n ++ k ∷ []) (omega arith)) in
    h ∙ ap (λ xs. xs ++ (if has m (2 * n) then n ∷ [] else [])) e ∙ ap (λ xs. own_of n m ++ xs) (sym (one_kept (has m (2 * n)) p n refl)) ∙ sym (filter-append p (range_with_len 0 n) (n ∷ [])) ∙ ap (filter p) (sym range)

-- ---- the own variables are some of all
range_below : (n : ℕ) → All (λ i. i < n) (range_with_len 0 n)
range_below n k d l = let e = length-range_with_len 0 n in let g = get_or-range_with_len 0 n k d (omega arith) in omega arith

pub own_within : (s : Shape) (n : ℕ) (m : Slots) (own : List ℕ) → n ≡ s.variables → own ≡ own_of n m → All (λ i. i < s.variables) own
own_within s n m own c e = subst (All (λ i. i < s.variables)) (sym e) (subst (λ (v : ℕ). All (λ i. i < v) (own_of n m)) c (All-filter (λ i. has m (2 * i)) (λ i. i < n) (range_with_len 0 n) (range_below n)))

counts : (b : Bool) (s : Shape) (i : ℕ) (w c rest : ℕ) (own : List ℕ) → size_of s (2 * i) ≡ w → own_count s own ≤ rest → 0 < w → c ≡ w * rest → own_count s (if b then i ∷ own else own) ≤ c
counts true s i w c rest own e h some is = let most : w * own_count s own ≤ w * rest = mul-le-mul_left w h in let same : size_of s (2 * i) * own_count s own ≡ w * own_count s own = ap (λ v. v * own_count s own) e in omega arith
counts false s i w c rest own e h some is = let more : 1 * rest ≤ w * rest = mul-le-mul_right rest some in omega arith

some_at : (ks : List ℕ) (i : ℕ) → AllSome ks → i < length ks → 0 < get_or ks i 0
some_at [] i h l = absurd (omega arith)
some_at (k ∷ ks) zero h l = h.0
some_at (k ∷ ks) (suc i) h l = some_at ks i h.1 (omega arith)

own_most : (s : Shape) (ks : List ℕ) (p : ℕ → Bool) (a n : ℕ) → AllSome ks → ((i : ℕ) → i < length ks → size_of s (2 * i) ≡ get_or ks i 0) → a + n ≤ length ks → own_count s (filter p (range_with_len a n)) ≤ count_of (drop a ks)
own_most s ks p a zero some sizes fits = let h = count_of-some (drop a ks) (AllSome-drop ks a some) in omega arith
own_most s ks p a (suc n) some sizes fits =
    let here : a < length ks = omega arith in
    let rest : own_count s (filter p (range_with_len (a + 1) n)) ≤ count_of (drop (suc a) ks) = subst (λ (b : ℕ). own_count s (filter p (range_with_len (a + 1) n)) ≤ count_of (drop b ks)) (add-one a) (own_most s ks p (a + 1) n some sizes (omega arith)) in
    go (p a) refl rest here
  where
    go : (b : Bool) → p a ≡ b → own_count s (filter p (range_with_len (a + 1) n)) ≤ count_of (drop (suc a) ks) → a < length ks → own_count s (filter p (range_with_len a (suc n))) ≤ count_of (drop a ks)
    go true e rest here = rw e (counts true s a (get_or ks a 0) (count_of (drop a ks)) (count_of (drop (suc a) ks)) (filter p (range_with_len (a + 1) n)) (sizes a here) rest (some_at ks a some here) (count_of-drop ks a here))
    go false e rest here = rw e (counts false s a (get_or ks a 0) (count_of (drop a ks)) (count_of (drop (suc a) ks)) (filter p (range_with_len (a + 1) n)) (sizes a here) rest (some_at ks a some here) (count_of-drop ks a here))

pub own_few : (env : Env) (s : Shape) (n : ℕ) (m : Slots) (own : List ℕ) → IsFitEnv env → s ≡ env.scope → n ≡ env.scope.variables → own ≡ own_of n m → own_count s own ≤ 2 ^ 24
own_few env s n m own fit e c o =
    let ks = sizes_of env.variables in
    let js = sizes_of env.sights in
    let shape : s ≡ record { sizes = twice_each ks ++ js; variables = length env.variables } = e ∙ fit.env_kept.shape in
    let count : n ≡ length ks = c ∙ ap (λ (s : Shape). s.variables) fit.env_kept.shape ∙ sym (length-sizes_of env.variables) in
    let most = own_most s ks (λ i. has m (2 * i)) 0 n (some_sizes env.variables fit.declared.variables_kept)
    (λ i l. ap (λ (s : Shape). size_of s (2 * i)) shape ∙ size-unprimed ks js i l) (omega arith) in
    let same : own_count s own ≡ own_count s (own_of n m) = ap (own_count s) o in
    let few = fit.declared.few_states in omega arith

-- ---- judged factors are good
pub share_shape : (sc : Shape) (j : Judged) (f : Func) → IfGood sc j → j.outcome ≡ Ok f → f.shape ≡ sc
share_shape sc j f h e = go j.outcome h e
  where
    go : (o : Result Func Refusal) → IfOk o (λ f. IsGood sc j.mentions f) → o ≡ Ok f → f.shape ≡ sc
    go (Ok g) h e = ap (λ (f : Func). f.shape) (let same : f ≡ g = cc in same) ∙ h.fit.shape
    go (Err r) h e = cc

shares_kept : (env : Env) (source : List ℕ) (ts : List Tree) → IsEnv env → All (λ s. IfGood env.scope s.judged) (map (share_of env source) ts)
shares_kept env source [] e k d l = absurd (omega arith)
shares_kept env source (t ∷ ts) e zero d l = (tree_holds env source (allowed_slots env.scope role.Init) e t).0
shares_kept env source (t ∷ ts) e (suc k) d l = shares_kept env source ts e k d (omega arith)

pub shares_good : (env : Env) (source : List ℕ) (ts : List Tree) (list : List Share) → IsEnv env → list ≡ map (share_of env source) ts → All (λ s. IfGood env.scope s.judged) list
shares_good env source ts list e h = subst (All (λ (s : Share). IfGood env.scope s.judged)) (sym h) (shares_kept env source ts e)

-- one more factor is judged
pub share_more : (env : Env) (source : List ℕ) (ts : List Tree) (i : ℕ) (old new : List Share) (t : Tree) (at : ℕ) (j : Judged) (slots : Slots) → i < length ts → t ≡ get_or ts i t
    → old ≡ map (share_of env source) (take i ts) → slots ≡ allowed_slots env.scope role.Init → j ≡ judgement env source slots t → at ≡ start_of t → new ≡ old ++ record { at = at; judged = j } ∷ [] → new ≡ map (share_of env source) (take (i + 1) ts)
share_more env source ts i old new t at j slots l is o a v b h =
    let share : record { at = at; judged = j } ≡ share_of env source t = cc (b, v, a) in
    h ∙ ap₂ (λ xs x. xs ++ x ∷ []) o (share ∙ ap (share_of env source) is) ∙ sym (map_more (share_of env source) ts i t l)
