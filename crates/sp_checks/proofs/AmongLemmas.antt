-- Parts among those before, and rows of a part that comes once.
use Rattle.std.proofs.Common.{◌≡◌, ℕ, ◌<◌, ◌≤◌, Bool, true, false, List, [], ◌∷◌, ◌++◌, Ok, Err, refl, sym, ap, subst, arith, inl, inr}
use Rattle.std.specs.Prelude.{◌⊎◌, None, Result}
use Rattle.sp_lex.specs.declared.lexeme.Span.{Span}
use Rattle.sp_syntax.specs.Spans.{AreRising}
use Rattle.sp_trees.specs.declared.refusal.ModelKind.{ModelKind}
use Rattle.sp_trees.specs.declared.refusal.ModelKind.TheVariants as kind
use Rattle.sp_trees.specs.declared.refusal.Refusal.{Refusal}
use Rattle.sp_trees.specs.Refusals.{refused_if, rank, is_before}
use Rattle.sp_trees.specs.Rows.{IsFirstRefusal, Among, IsRefusalAt}
use Rattle.sp_trees.proofs.LeastLemmas.{least_test}
use Rattle.sp_declarations.specs.Steps.{◌>>=◌, unless_refused}
use Rattle.sp_declarations.specs.Rows.{HasPlace, refusal_of}
use Rattle.sp_declarations.proofs.ChainLemmas.{place_above, later, later_kind, least_then, refused_unless}

pub at_place : (at : ℕ) (k : ModelKind) (r : Refusal) → IsRefusalAt at k r → r.at ≡ at
at_place at k r h = ap (λ r. r.at) h

-- a refusal at the same place whose kind isn't before
pub at_later : (at : ℕ) (j k : ModelKind) (q : Refusal) → IsRefusalAt at j q → rank k ≤ rank j → is_before q (record { at = at; kind = k }) ≡ false
at_later at j k q h l = subst (λ q. is_before q (record { at = at; kind = k }) ≡ false) (sym h) (later_kind (record { at = at; kind = j }) (record { at = at; kind = k }) (omega arith) l)

pub among_more : {X : Type 0} (P : X → Type 0) (xs : List X) (x : X) → Among P xs → Among P (xs ++ x ∷ [])
among_more P [] x h = absurd h
among_more P (y ∷ xs) x (inl h) = inl h
among_more P (y ∷ xs) x (inr h) = inr (among_more P xs x h)

pub among_last : {X : Type 0} (P : X → Type 0) (xs : List X) (x : X) → P x → Among P (xs ++ x ∷ [])
among_last P [] x h = inl h
among_last P (y ∷ xs) x h = inr (among_last P xs x h)

pub among_split : {X : Type 0} (P : X → Type 0) (xs : List X) (x : X) → Among P (xs ++ x ∷ []) → Among P xs ⊎ P x
among_split P [] x (inl h) = inr h
among_split P [] x (inr h) = absurd h
among_split P (y ∷ xs) x (inl h) = inl (inl h)
among_split P (y ∷ xs) x (inr h) = elim (among_split P xs x h) [ inl m ↦ inl (inr m) | inr p ↦ inr p ]

pub among_map : {X : Type 0} (P Q : X → Type 0) (xs : List X) → ((x : X) → P x → Q x) → Among P xs → Among Q xs
among_map P Q [] to h = absurd h
among_map P Q (x ∷ xs) to (inl h) = inl (to x h)
among_map P Q (x ∷ xs) to (inr h) = inr (among_map P Q xs to h)

-- the flag is set exactly where it holds of one of these
abbrev pub IsMet : {X : Type 0} → (X → Type 0) → Bool → List X → Type 0
IsMet P b before = (b ≡ true → Among P before) × (Among P before → b ≡ true)

pub met_same : {X : Type 0} (P : X → Type 0) (b : Bool) (before : List X) (x : X) → (P x → ⊥) → IsMet P b before → IsMet P b (before ++ x ∷ [])
met_same P b before x never h = (λ q. among_more P before x (h.0 q), λ m. elim (among_split P before x m) [ inl a ↦ h.1 a | inr p ↦ absurd (never p) ])

pub met_new : {X : Type 0} (P : X → Type 0) (b : Bool) (before : List X) (x : X) → b ≡ true → P x → IsMet P b (before ++ x ∷ [])
met_new P b before x e p = (λ q. among_last P before x p, λ m. e)

refused_rest : {A B : Type 0} (x : Result A Refusal) (f : A → Result B Refusal) → ((a : A) → refusal_of (f a) ≡ None) → refusal_of (x >>= f) ≡ refusal_of x
refused_rest (Ok a) f h = h a
refused_rest (Err r) f h = refl

-- a row that a part comes twice, and other rows behind it
pub once_then : (P : Type 0) (b : Bool) (at low high : ℕ) (ss : List Span) (R : Refusal → Type 0) {A B : Type 0} (x : Result A Refusal) (f : A → Result B Refusal)
    → (b ≡ true → P) → (P → b ≡ true) → at < low → AreRising low ss high → ((r : Refusal) → R r → HasPlace ss r.at) → IsFirstRefusal R (refusal_of x) → ((a : A) → refusal_of (f a) ≡ None)
    → IsFirstRefusal (λ r. (P × IsRefusalAt at kind.RepeatedName r) ⊎ R r) (refusal_of (unless_refused (refused_if b at kind.RepeatedName) >>= λ _. (x >>= f)))
once_then P b at low high ss R x f to back first rise place right rest =
    least_then (λ r. P × IsRefusalAt at kind.RepeatedName r) R (unless_refused (refused_if b at kind.RepeatedName)) (λ _. x >>= f)
    (subst (IsFirstRefusal (λ r. P × IsRefusalAt at kind.RepeatedName r)) (sym (refused_unless (refused_if b at kind.RepeatedName))) (least_test P b at kind.RepeatedName to back))
    (λ u q. subst (IsFirstRefusal R) (sym (refused_rest x f rest)) right)
    (λ r q a c. let m = at_place at kind.RepeatedName r a.1 in let n = place_above ss low high q.at rise (place q c) in later q r (omega arith))
