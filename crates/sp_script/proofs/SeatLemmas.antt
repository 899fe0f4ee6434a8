-- What is wrong with a request, and how its session stands afterwards, by how it stood: cases alone.
use Rattle.std.proofs.Common.{◌≡◌, ◌≢◌, ℕ, ◌<◌, ◌≤◌, Bool, true, false, cond, not, ◌&&◌, ◌||◌, Some, None, refl, ap, ◌∙◌, inl, inr, arith}
use Rattle.std.specs.Prelude.{nat_lt, is_some}
use Rattle.std.proofs.lemmas.Bool.{ltb-true, ltb-false}
use Rattle.sp_script.specs.declared.error.ScriptKind.{ScriptKind}
use Rattle.sp_script.specs.declared.error.ScriptKind.TheVariants.{BadLine, NotOpen, Twice, NoAction, UnknownValue, TooMany}
use Rattle.sp_script.specs.declared.request.Verb.{Verb}
use Rattle.sp_script.specs.declared.request.Verb.TheVariants.{Opening, Asking, Observing, Syncing, Closing}
use Rattle.sp_script.specs.Commands.{is_opening, is_asking, is_observing, is_closing}
use Rattle.sp_script.specs.Script.{IsFirstKind, kinds}
use Rattle.sp_script.specs.Ledger.{seat_by, fault_at, seat_after}

-- what a request breaks at a session that was opened or not, was closed or not, has an answer or not, where so many were opened
abbrev pub Rows : Verb → Bool → Bool → Bool → ℕ → ScriptKind → Type 0
Rows v o c a n BadLine = ⊥
Rows v o c a n NotOpen = (is_opening v ≡ false) × ((o && not c) ≡ false)
Rows v o c a n Twice = (is_opening v ≡ true) × (o ≡ true)
Rows v o c a n NoAction = (is_observing v ≡ true) × (a ≡ false)
Rows v o c a n UnknownValue = v ≡ Observing None
Rows v o c a n (TooMany limit) = (is_opening v ≡ true) × (limit ≡ 1024) × (limit ≤ n)

-- ---- the first fault
module _ (v : Verb) (o c a : Bool) (n : ℕ) (kind : ScriptKind) where
  at_not_open : is_opening v ≡ false → (o && not c) ≡ false → Some NotOpen ≡ Some kind → IsFirstKind (Rows v o c a n) kinds kind
  at_not_open p r e = let is : kind ≡ NotOpen = cc in inr ((λ x. x), inl (is, (p, r)))

  at_twice : is_opening v ≡ true → o ≡ true → Some Twice ≡ Some kind → IsFirstKind (Rows v o c a n) kinds kind
  at_twice p r e = let is : kind ≡ Twice = cc in inr ((λ x. x), inr ((λ x. let h = x.0 in absurd (cc)), inl (is, (p, r))))

  at_no_action : is_opening v ≡ false → is_observing v ≡ true → (o && not c) ≡ true → a ≡ false → Some NoAction ≡ Some kind → IsFirstKind (Rows v o c a n) kinds kind
  at_no_action p s r t e = let is : kind ≡ NoAction = cc in inr ((λ x. x), inr ((λ x. let h = x.1 in absurd (cc)), inr ((λ x. let h = x.0 in absurd (cc)), inl (is, (s, t)))))

  at_too_many : is_opening v ≡ true → is_observing v ≡ false → v ≢ Observing None → o ≡ false → 1024 ≤ n → Some (TooMany 1024) ≡ Some kind → IsFirstKind (Rows v o c a n) kinds kind
  at_too_many p s u r t e =
      let is : kind ≡ TooMany 1024 = cc in
      inr ((λ x. x), inr ((λ x. let h = x.0 in absurd (cc)), inr ((λ x. let h = x.1 in absurd (cc)), inr ((λ x. let h = x.0 in absurd (cc)), inr (u, inl (is, (p, refl, t)))))))

at_unknown : (v : Verb) (o c a : Bool) (n : ℕ) → v ≡ Observing None → is_opening v ≡ false → (o && not c) ≡ true → a ≡ true → IsFirstKind (Rows v o c a n) kinds UnknownValue
at_unknown v o c a n is p r t = inr ((λ x. x), inr ((λ x. let h = x.1 in absurd (cc)), inr ((λ x. let h = x.0 in absurd (cc)), inr ((λ x. let h = x.1 in absurd (cc)), inl (refl, is)))))

opening_fault : (c a : Bool) (n : ℕ) (kind : ScriptKind) (few : Bool) → nat_lt n 1024 ≡ few → cond few None (Some (TooMany 1024)) ≡ Some kind → IsFirstKind (Rows Opening false c a n) kinds kind
opening_fault c a n kind true is e = absurd (cc)
opening_fault c a n kind false is e = at_too_many Opening false c a n kind refl refl (λ h. absurd (cc)) refl (ltb-false n 1024 is) e

pub first_fault : (v : Verb) (o c a : Bool) (n : ℕ) (kind : ScriptKind) → fault_at v (seat_by o c a) n ≡ Some kind → IsFirstKind (Rows v o c a n) kinds kind
first_fault Opening false c a n kind e = opening_fault c a n kind (nat_lt n 1024) refl e
first_fault Asking false c a n kind e = at_not_open Asking false c a n kind refl refl e
first_fault (Observing s) false c a n kind e = at_not_open (Observing s) false c a n kind refl refl e
first_fault Syncing false c a n kind e = at_not_open Syncing false c a n kind refl refl e
first_fault Closing false c a n kind e = at_not_open Closing false c a n kind refl refl e
first_fault Opening true true a n kind e = at_twice Opening true true a n kind refl refl e
first_fault Asking true true a n kind e = at_not_open Asking true true a n kind refl refl e
first_fault (Observing s) true true a n kind e = at_not_open (Observing s) true true a n kind refl refl e
first_fault Syncing true true a n kind e = at_not_open Syncing true true a n kind refl refl e
first_fault Closing true true a n kind e = at_not_open Closing true true a n kind refl refl e
first_fault Opening true false true n kind e = at_twice Opening true false true n kind refl refl e
first_fault Opening true false false n kind e = at_twice Opening true false false n kind refl refl e
first_fault (Observing s) true false false n kind e = at_no_action (Observing s) true false false n kind refl refl refl refl e
first_fault (Observing s) true false true n kind e = absurd (cc)
first_fault Asking true false true n kind e = absurd (cc)
first_fault Asking true false false n kind e = absurd (cc)
first_fault Syncing true false true n kind e = absurd (cc)
first_fault Syncing true false false n kind e = absurd (cc)
first_fault Closing true false true n kind e = absurd (cc)
first_fault Closing true false false n kind e = absurd (cc)

-- ---- no fault
-- a request that may come: an opening of a new name, or another at an open session, which has an answer where it observes
pub data Case (v : Verb) (o c a : Bool) (n : ℕ) : Type 0 where
  new : v ≡ Opening → o ≡ false → n < 1024 → Case v o c a n
  taken : is_opening v ≡ false → o ≡ true → c ≡ false → (is_observing v ≡ true → a ≡ true) → Case v o c a n

opening_case : (c a : Bool) (n : ℕ) (few : Bool) → nat_lt n 1024 ≡ few → cond few None (Some (TooMany 1024)) ≡ None → Case Opening false c a n
opening_case c a n true is e = new refl refl (ltb-true n 1024 is)
opening_case c a n false is e = absurd (cc)

-- where nothing is wrong
pub case_of : (v : Verb) (o c a : Bool) (n : ℕ) → fault_at v (seat_by o c a) n ≡ None → Case v o c a n
case_of Opening false c a n e = opening_case c a n (nat_lt n 1024) refl e
case_of Asking false c a n e = absurd (cc)
case_of (Observing s) false c a n e = absurd (cc)
case_of Syncing false c a n e = absurd (cc)
case_of Closing false c a n e = absurd (cc)
case_of Opening true true a n e = absurd (cc)
case_of Asking true true a n e = absurd (cc)
case_of (Observing s) true true a n e = absurd (cc)
case_of Syncing true true a n e = absurd (cc)
case_of Closing true true a n e = absurd (cc)
case_of Opening true false true n e = absurd (cc)
case_of Opening true false false n e = absurd (cc)
case_of (Observing s) true false false n e = absurd (cc)
case_of (Observing s) true false true n e = taken refl refl refl (λ h. refl)
case_of Asking true false a n e = taken refl refl refl (λ h. absurd (cc))
case_of Syncing true false a n e = taken refl refl refl (λ h. absurd (cc))
case_of Closing true false a n e = taken refl refl refl (λ h. absurd (cc))

pub no_fault : (v : Verb) (o c a : Bool) (n : ℕ) → Case v o c a n → v ≢ Observing None → (kind : ScriptKind) → ¬ Rows v o c a n kind
no_fault v o c a n k known BadLine h = h
no_fault v o c a n (new is none few) known NotOpen h = let e = h.0 in absurd (cc)
no_fault v o c a n (taken plain is going answered) known NotOpen h = let e = h.1 in absurd (cc)
no_fault v o c a n (new is none few) known Twice h = let e = h.1 in absurd (cc)
no_fault v o c a n (taken plain is going answered) known Twice h = let e = h.0 in absurd (cc)
no_fault v o c a n (new is none few) known NoAction h = let e = h.0 in absurd (cc)
no_fault v o c a n (taken plain is going answered) known NoAction h = let e = answered h.0 in let f = h.1 in absurd (cc)
no_fault v o c a n k known UnknownValue h = known h
no_fault v o c a n (new is none few) known (TooMany limit) h = let e = h.1 in let f = h.2 in absurd (omega (arith, e, f, few))
no_fault v o c a n (taken plain is going answered) known (TooMany limit) h = let e = h.0 in absurd (cc)

-- where a value isn't known
pub unknown_first : (v : Verb) (o c a : Bool) (n : ℕ) → Case v o c a n → v ≡ Observing None → IsFirstKind (Rows v o c a n) kinds UnknownValue
unknown_first v o c a n (new is none few) e = absurd (cc)
unknown_first v o c a n (taken plain is going answered) e =
    at_unknown v o c a n e plain ((λ i. is i && not (going i)) ∙ refl) (answered (ap is_observing e))

-- ---- the seat afterwards
pub is_some-seat : (o c a : Bool) → is_some (seat_by o c a) ≡ o
is_some-seat false c a = refl
is_some-seat true true a = refl
is_some-seat true false true = refl
is_some-seat true false false = refl

-- a session that wasn't opened wasn't closed and has no answer
pub seat_step : (v : Verb) (o c a : Bool) (n : ℕ) → fault_at v (seat_by o c a) n ≡ None → (o ≡ false → (c ≡ false) × (a ≡ false))
    → Some (seat_after v (seat_by o c a)) ≡ seat_by (o || is_opening v) (c || is_closing v) (is_asking v || (a && not (is_observing v)))
seat_step Opening false true a n e idle = let h = (idle refl).0 in absurd (cc)
seat_step Opening false false true n e idle = let h = (idle refl).1 in absurd (cc)
seat_step Opening false false false n e idle = refl
seat_step Asking false c a n e idle = absurd (cc)
seat_step (Observing s) false c a n e idle = absurd (cc)
seat_step Syncing false c a n e idle = absurd (cc)
seat_step Closing false c a n e idle = absurd (cc)
seat_step Opening true true a n e idle = absurd (cc)
seat_step Asking true true a n e idle = absurd (cc)
seat_step (Observing s) true true a n e idle = absurd (cc)
seat_step Syncing true true a n e idle = absurd (cc)
seat_step Closing true true a n e idle = absurd (cc)
seat_step Opening true false true n e idle = absurd (cc)
seat_step Opening true false false n e idle = absurd (cc)
seat_step (Observing s) true false false n e idle = absurd (cc)
seat_step (Observing s) true false true n e idle = refl
seat_step Asking true false true n e idle = refl
seat_step Asking true false false n e idle = refl
seat_step Syncing true false true n e idle = refl
seat_step Syncing true false false n e idle = refl
seat_step Closing true false true n e idle = refl
seat_step Closing true false false n e idle = refl
