-- Which variable a word names.
use Rattle.std.proofs.Common.{◌≡◌, ◌≢◌, ℕ, zero, suc, ◌+◌, ◌<◌, Bool, true, false, cond, List, [], ◌∷◌, length, get_or, Some, None, refl, sym, ap, ◌∙◌, arith}
use Rattle.std.specs.Prelude.{nat_lt, not, ◌==◌, ◌||◌, if◌then◌else◌}
use Rattle.std.proofs.lemmas.Bool.{false≢true}
use Rattle.sp_trees.specs.Slots.{one, union, has}
use Rattle.sp_trees.proofs.SlotLemmas.{has_one, has_union}
use Rattle.sp_checks.specs.Roles.{slots_where}
use Rattle.std.specs.Str.{bytes_eq}
use Rattle.std.specs.List.{prefix_len}
use Rattle.std.proofs.lemmas.Slice.Eq.{bytes_eq-Decides}
use Rattle.std.proofs.lemmas.Bool.Decides.{nat_tests, Decides-eqb}
use Rattle.sp_model.specs.declared.parts.Decl.{Decl}
use Rattle.sp_trees.specs.Nodes.{number_of_decl}
use Rattle.sp_written.proofs.Names.{differs, prefix_is}

-- the first declaration of that name
pub decl_found : (ds : List Decl) (k : ℕ) (w : List ℕ) (d : Decl) → k < length ds → (get_or ds k d).name ≡ w → ((i : ℕ) → i < k → (get_or ds i d).name ≢ w) → number_of_decl ds w ≡ Some k
decl_found ds k w d l e h =
    let first : prefix_len (λ (c : Decl). not (bytes_eq c.name w)) ds ≡ k = prefix_is (λ (c : Decl). bytes_eq c.name w) ds k d l ((bytes_eq-Decides (get_or ds k d).name w).1 e) (λ i m. differs (get_or ds i d).name w (h i m)) in
    let within : nat_lt k (length ds) ≡ true = grind (arith, nat_tests) in
    ap (λ n. cond (nat_lt n (length ds)) (Some n) None) first ∙ ap (λ b. cond b (Some k) None) within

past_all : (p : Decl → Bool) (ds : List Decl) (d : Decl) → ((i : ℕ) → i < length ds → p (get_or ds i d) ≡ false) → prefix_len (λ c. not (p c)) ds ≡ length ds
past_all p [] d h = refl
past_all p (c ∷ ds) d h = ap (λ b. cond (not b) (1 + prefix_len (λ e. not (p e)) ds) 0) (h 0 (omega arith)) ∙ (let rest = past_all p ds d (λ i l. h (suc i) (omega arith)) in omega arith)

-- no declaration has that name
pub decl_missing : (ds : List Decl) (w : List ℕ) (d : Decl) → ((i : ℕ) → i < length ds → (get_or ds i d).name ≢ w) → number_of_decl ds w ≡ None
decl_missing ds w d h =
    let all : prefix_len (λ (c : Decl). not (bytes_eq c.name w)) ds ≡ length ds = past_all (λ (c : Decl). bytes_eq c.name w) ds d (λ i l. differs (get_or ds i d).name w (h i l)) in
    let past : nat_lt (length ds) (length ds) ≡ false = grind (arith, nat_tests) in
    ap (λ n. cond (nat_lt n (length ds)) (Some n) None) all ∙ ap (λ b. cond b (Some (length ds)) None) past

-- a slot that passes is among those that do
pub where_has : (test : ℕ → Bool) (n k : ℕ) → k < n → test k ≡ true → has (slots_where test n) k ≡ true
unfolding slots_where
where_has test zero k l h = absurd (omega arith)
where_has test (suc n) k l h = go (test n) refl (n == k) refl (λ less. where_has test n k less h)
  where
    go : (b : Bool) → test n ≡ b → (c : Bool) → (n == k) ≡ c → (k < n → has (slots_where test n) k ≡ true) → has (if b then union (slots_where test n) (one n) else slots_where test n) k ≡ true
    go true e true f more = has_union (slots_where test n) (one n) k ∙ ap (λ c. has (slots_where test n) k || c) (has_one n k ∙ f) ∙ or_true (has (slots_where test n) k)
      where
        or_true : (c : Bool) → (c || true) ≡ true
        or_true true = refl
        or_true false = refl
    go true e false f more = has_union (slots_where test n) (one n) k ∙ ap (λ c. c || has (one n) k) (more (let apart : n ≢ k = apart f in omega arith))
      where
        apart : (n == k) ≡ false → n ≢ k
        apart e same = absurd (false≢true (sym e ∙ (Decides-eqb n k).1 same))
    go false e c f more = more (let apart : n ≢ k = (λ same. absurd (false≢true (sym e ∙ ap test same ∙ h))) in omega arith)
