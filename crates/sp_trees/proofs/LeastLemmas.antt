-- The least refusal, put together from rows.
use Rattle.std.proofs.Common.{◌≡◌, ℕ, Bool, true, false, List, [], ◌∷◌, map, Option, Some, None, refl, sym, subst, arith, inl, inr}
use Rattle.std.specs.Prelude.{◌⊎◌, fold, ◌==◌, nat_lt, if◌then◌else◌}
use Rattle.std.proofs.lemmas.Bool.{false≢true}
use Rattle.std.proofs.lemmas.Bool.Decides.{nat_tests}
use Rattle.sp_trees.specs.declared.refusal.ModelKind.{ModelKind}
use Rattle.sp_trees.specs.declared.refusal.Refusal.{Refusal}
use Rattle.sp_trees.specs.Refusals.{rank, is_before, lesser, refused_if}
use Rattle.sp_trees.specs.Rows.{IsFirstRefusal, Among, IsRefusalAt}

-- it holds of each of these
abbrev pub Every : {X : Type 0} → (X → Type 0) → List X → Type 0
Every P [] = Unit {0}
Every P (x ∷ xs) = P x × Every P xs

pub every : {X : Type 0} (P Q : X → Type 0) (xs : List X) → ((x : X) → P x → Q x) → Every P xs → Every Q xs
every P Q [] to h = tt
every P Q (x ∷ xs) to h = (to x h.0, every P Q xs to h.1)

pub every_both : {X : Type 0} (P Q R : X → Type 0) (xs : List X) → ((x : X) → P x → Q x → R x) → Every P xs → Every Q xs → Every R xs
every_both P Q R [] to h k = tt
every_both P Q R (x ∷ xs) to h k = (to x h.0 k.0, every_both P Q R xs to h.1 k.1)

after_lesser : (a b c : ℕ) (p q s : ℕ) → (if a == b then nat_lt p q else nat_lt a b) ≡ false → (if c == b then nat_lt s q else nat_lt c b) ≡ true → (if a == c then nat_lt p s else nat_lt a c) ≡ false
after_lesser a b c p q s h k = grind (arith, nat_tests)

after_greater : (a b c : ℕ) (p q s : ℕ) → (if a == c then nat_lt p s else nat_lt a c) ≡ false → (if c == b then nat_lt s q else nat_lt c b) ≡ false → (if a == b then nat_lt p q else nat_lt a b) ≡ false
after_greater a b c p q s h k = grind (arith, nat_tests)

not_self_by : (a p : ℕ) → (if a == a then nat_lt p p else nat_lt a a) ≡ false
not_self_by a p = grind (arith, nat_tests)

pub not_self : (r : Refusal) → is_before r r ≡ false
not_self r = not_self_by r.at (rank r.kind)

pub least_same : (S T : Refusal → Type 0) (o : Option Refusal) → ((r : Refusal) → S r → T r) → ((r : Refusal) → T r → S r) → IsFirstRefusal S o → IsFirstRefusal T o
least_same S T None to back h = λ r t. h r (back r t)
least_same S T (Some x) to back h = (to x h.0, λ r t. h.1 r (back r t))

module _ (R S : Refusal → Type 0) where
  abbrev Either : Refusal → Type 0
  Either r = R r ⊎ S r

  pub least_either : (a b : Option Refusal) → IsFirstRefusal R a → IsFirstRefusal S b → IsFirstRefusal Either (lesser a b)
  least_either None None h k = λ r e. elim e [ inl f ↦ h r f | inr f ↦ k r f ]
  least_either None (Some y) h k = (inr k.0, λ r e. elim e [ inl f ↦ absurd (h r f) | inr f ↦ k.1 r f ])
  least_either (Some x) None h k = (inl h.0, λ r e. elim e [ inl f ↦ h.1 r f | inr f ↦ absurd (k r f) ])
  least_either (Some x) (Some y) h k = go (is_before y x) refl
    where
      go : (b : Bool) → is_before y x ≡ b → IsFirstRefusal Either (if b then Some y else Some x)
      go true e = (inr k.0, λ r c. elim c [ inl f ↦ after_lesser r.at x.at y.at (rank r.kind) (rank x.kind) (rank y.kind) (h.1 r f) e | inr f ↦ k.1 r f ])
      go false e = (inl h.0, λ r c. elim c [ inl f ↦ h.1 r f | inr f ↦ after_greater r.at x.at y.at (rank r.kind) (rank x.kind) (rank y.kind) (k.1 r f) e ])

-- rows that all give the same refusal
pub least_only : (R : Refusal → Type 0) (x : Refusal) → R x → ((r : Refusal) → R r → r ≡ x) → IsFirstRefusal R (Some x)
least_only R x h same = (h, λ r k. subst (λ q. is_before q x ≡ false) (sym (same r k)) (not_self x))

-- a row that a test decides
pub least_test : (P : Type 0) (b : Bool) (at : ℕ) (kind : ModelKind) → (b ≡ true → P) → (P → b ≡ true) → IsFirstRefusal (λ r. P × IsRefusalAt at kind r) (refused_if b at kind)
least_test P false at kind to back = λ r h. false≢true (back h.0)
least_test P true at kind to back = least_only (λ r. P × IsRefusalAt at kind r) (record { at = at; kind = kind }) (to refl, refl) (λ r h. h.1)

module _ {A B : Type 0} (R : A → Refusal → Type 0) (f : A → B) (g : B → Option Refusal) where
  abbrev AnyRow : List A → Refusal → Type 0
  AnyRow xs r = Among (λ x. R x r) xs

  abbrev first_from : Option Refusal → List A → Option Refusal
  first_from first xs = fold (λ first y. lesser first (g y)) first (map f xs)

  least_from : (S : Refusal → Type 0) (first : Option Refusal) (xs : List A) → IsFirstRefusal S first → Every (λ x. IsFirstRefusal (R x) (g (f x))) xs → IsFirstRefusal (λ r. S r ⊎ AnyRow xs r) (first_from first xs)
  least_from S first [] h k = least_same S _ first (λ r s. inl s) (λ r e. elim e [ inl s ↦ s | inr n ↦ absurd n ]) h
  least_from S first (x ∷ xs) h k =
      least_same _ _ (first_from (lesser first (g (f x))) xs)
      (λ r e. elim e [ inl c ↦ elim c [ inl s ↦ inl s | inr t ↦ inr (inl t) ] | inr m ↦ inr (inr m) ])
      (λ r e. elim e [ inl s ↦ inl (inl s) | inr c ↦ elim c [ inl t ↦ inl (inr t) | inr m ↦ inr m ] ])
      (least_from (λ r. S r ⊎ R x r) (lesser first (g (f x))) xs (least_either S (R x) first (g (f x)) h k.0) k.1)

  -- the rows of several parts
  pub least_all : (xs : List A) → Every (λ x. IsFirstRefusal (R x) (g (f x))) xs → IsFirstRefusal (AnyRow xs) (first_from None xs)
  least_all xs k = least_same _ _ (first_from None xs) (λ r e. elim e [ inl n ↦ absurd n | inr m ↦ m ]) (λ r m. inr m) (least_from (λ r. ⊥) None xs (λ r n. n) k)
