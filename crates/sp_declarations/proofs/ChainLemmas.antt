-- Parts one after another: the first refused one gives the least refusal, since places rise.
use Rattle.std.proofs.Common.{◌≡◌, ℕ, ◌<◌, ◌≤◌, Bool, true, false, List, [], ◌∷◌, ◌++◌, Option, Some, None, Ok, Err, refl, sym, ap, subst, arith, inl, inr}
use Rattle.std.specs.Prelude.{◌⊎◌, Result, ◌==◌, nat_lt, if◌then◌else◌}
use Rattle.std.proofs.lemmas.Bool.Decides.{nat_tests}
use Rattle.sp_lex.specs.declared.lexeme.Span.{Span}
use Rattle.sp_trees.specs.declared.refusal.Refusal.{Refusal}
use Rattle.sp_trees.specs.declared.refusal.ModelKind.{ModelKind}
use Rattle.sp_trees.specs.Refusals.{rank, is_before}
use Rattle.sp_trees.specs.Rows.{IsFirstRefusal, IsRefusalAt}
use Rattle.sp_trees.proofs.LeastLemmas.{least_same, not_self}
use Rattle.sp_syntax.specs.Spans.{AreRising, all_spans}
use Rattle.sp_declarations.specs.Steps.{◌>>=◌, unless_refused, in_turn}
use Rattle.sp_declarations.specs.Rows.{PartRow, HasPlace, refusal_of}
use Rattle.sp_declarations.proofs.StepLemmas.{stood}

-- ---- places

pub has_left : (us vs : List Span) (p : ℕ) → HasPlace us p → HasPlace (us ++ vs) p
has_left [] vs p h = absurd h
has_left (u ∷ us) vs p (inl e) = inl e
has_left (u ∷ us) vs p (inr h) = inr (has_left us vs p h)

pub has_right : (us vs : List Span) (p : ℕ) → HasPlace vs p → HasPlace (us ++ vs) p
has_right [] vs p h = h
has_right (u ∷ us) vs p h = inr (has_right us vs p h)

pub rising_split : (us vs : List Span) (low high : ℕ) → AreRising low (us ++ vs) high → (mid : ℕ) × AreRising low us mid × AreRising mid vs high
rising_split [] vs low high h = (low, omega arith, h)
rising_split (u ∷ us) vs low high (a, b, h) = let m = rising_split us vs u.end high h in (m.0, (a, b, m.1), m.2)

pub rising_le : (us : List Span) (low high : ℕ) → AreRising low us high → low ≤ high
rising_le [] low high h = h
rising_le (u ∷ us) low high (a, b, h) = let m = rising_le us u.end high h in omega arith

pub place_below : (us : List Span) (low high p : ℕ) → AreRising low us high → HasPlace us p → p < high
place_below [] low high p h k = absurd k
place_below (u ∷ us) low high p (a, b, h) (inl e) = let m = rising_le us u.end high h in let q : u.start ≡ p = e in omega arith
place_below (u ∷ us) low high p (a, b, h) (inr k) = place_below us u.end high p h k

pub place_above : (us : List Span) (low high p : ℕ) → AreRising low us high → HasPlace us p → low ≤ p
place_above [] low high p h k = absurd k
place_above (u ∷ us) low high p (a, b, h) (inl e) = let q : u.start ≡ p = e in omega arith
place_above (u ∷ us) low high p (a, b, h) (inr k) = let m = place_above us u.end high p h k in omega arith

later_by : (a b p q : ℕ) → b < a → (if a == b then nat_lt p q else nat_lt a b) ≡ false
later_by a b p q h = grind (arith, nat_tests)

-- a refusal at a later place isn't before
pub later : (q r : Refusal) → r.at < q.at → is_before q r ≡ false
later q r h = later_by q.at r.at (rank q.kind) (rank r.kind) h

same_place : (a b p q : ℕ) → b ≤ a → q ≤ p → (if a == b then nat_lt p q else nat_lt a b) ≡ false
same_place a b p q h k = grind (arith, nat_tests)

-- nor is one of a later kind that isn't at an earlier place
pub later_kind : (q r : Refusal) → r.at ≤ q.at → rank r.kind ≤ rank q.kind → is_before q r ≡ false
later_kind q r h k = same_place q.at r.at (rank q.kind) (rank r.kind) h k

-- ---- one after another

module _ {A B : Type 0} (R S : Refusal → Type 0) where
  pub least_then : (x : Result A Refusal) (f : A → Result B Refusal) → IsFirstRefusal R (refusal_of x) → ((a : A) → x ≡ Ok a → IsFirstRefusal S (refusal_of (f a))) → ((r q : Refusal) → R r → S q → is_before q r ≡ false)
      → IsFirstRefusal (λ r. R r ⊎ S r) (refusal_of (x >>= f))
  least_then (Ok a) f h k order = least_same S _ (refusal_of (f a)) (λ r s. inr s) (λ r e. elim e [ inl q ↦ absurd (h r q) | inr s ↦ s ]) (k a refl)
  least_then (Err e) f h k order = (inl h.0, λ r c. elim c [ inl q ↦ h.1 r q | inr s ↦ order e r h.0 s ])

pub refused_ok : {A B : Type 0} (x : Result A Refusal) (f : A → B) → refusal_of (x >>= λ a. Ok (f a)) ≡ refusal_of x
refused_ok (Ok a) f = refl
refused_ok (Err e) f = refl

pub refused_unless : (o : Option Refusal) → refusal_of (unless_refused o) ≡ o
refused_unless None = refl
refused_unless (Some r) = refl

-- a row that a test decides, and rows that aren't before it
pub least_else : (P : Type 0) (Q : Refusal → Type 0) (b : Bool) (at : ℕ) (k : ModelKind) (o : Option Refusal) → (b ≡ true → P) → (P → b ≡ true) → (b ≡ false → IsFirstRefusal Q o)
    → ((q : Refusal) → Q q → is_before q (record { at = at; kind = k }) ≡ false) → IsFirstRefusal (λ r. (P × IsRefusalAt at k r) ⊎ Q r) (if b then Some (record { at = at; kind = k }) else o)
least_else P Q true at k o to back h order = (
  inl (to refl, refl),
  λ r c. elim c [ inl p ↦ subst (λ q. is_before q (record { at = at; kind = k }) ≡ false) (sym p.1) (not_self (record { at = at; kind = k })) | inr q ↦ order r q ],
)
least_else P Q false at k o to back h order = least_same Q _ o (λ r q. inr q) (λ r c. elim c [ inl p ↦ absurd (apart (back p.0)) | inr q ↦ q ]) (h refl)
  where
    apart : false ≡ true → ⊥
    apart e = cc

-- a row of a part stands at a place of that part
pub part_place : {X : Type 0} (Row : List X → X → Refusal → Type 0) (spans : X → List Span) → ((before : List X) (x : X) (r : Refusal) → Row before x r → HasPlace (spans x) r.at)
    → (before xs : List X) (r : Refusal) → PartRow Row before xs r → HasPlace (all_spans spans xs) r.at
part_place Row spans place before [] r h = absurd h
part_place Row spans place before (x ∷ xs) r (inl h) = has_left (spans x) (all_spans spans xs) r.at (place before x r h)
part_place Row spans place before (x ∷ xs) r (inr h) = has_right (spans x) (all_spans spans xs) r.at (part_place Row spans place (before ++ x ∷ []) xs r h)

module _ {S X : Type 0} (step : S → X → Result S Refusal) (Row : List X → X → Refusal → Type 0) (spans : X → List Span) (Fits : List X → S → Type 0)
    (right : (before : List X) (s : S) (x : X) (low high : ℕ) → Fits before s → AreRising low (spans x) high → IsFirstRefusal (Row before x) (refusal_of (step s x)))
    (next : (before : List X) (s t : S) (x : X) → Fits before s → step s x ≡ Ok t → Fits (before ++ x ∷ []) t)
    (place : (before : List X) (x : X) (r : Refusal) → Row before x r → HasPlace (spans x) r.at) where
  pub turns_least : (before : List X) (s : S) (xs : List X) (low high : ℕ) → Fits before s → AreRising low (all_spans spans xs) high → IsFirstRefusal (PartRow Row before xs) (refusal_of (in_turn step s xs))
  unfolding in_turn
  turns_least before s [] low high h rise = λ r n. n
  turns_least before s (x ∷ xs) low high h rise =
      let cut = rising_split (spans x) (all_spans spans xs) low high rise in
      least_then (Row before x) (PartRow Row (before ++ x ∷ []) xs) (step s x) (λ t. in_turn step t xs) (right before s x low cut.0 h cut.1)
      (λ t e. turns_least (before ++ x ∷ []) t xs cut.0 high (next before s t x h e) cut.2)
      (λ r q a b.
      let first = place_below (spans x) low cut.0 r.at cut.1 (place before x r a) in
      let second = place_above (all_spans spans xs) cut.0 high q.at cut.2 (part_place Row spans place (before ++ x ∷ []) xs q b) in
      later q r (omega arith))

  pub turns_fit : (before : List X) (s t : S) (xs : List X) → Fits before s → in_turn step s xs ≡ Ok t → Fits (before ++ xs) t
  unfolding in_turn
  turns_fit before s t [] h e = subst (λ ys. Fits ys t) (sym (append_nil before)) (subst (Fits before) (let q : s ≡ t = cc in q) h)
    where
      append_nil : (ys : List X) → ys ++ [] ≡ ys
      append_nil [] = refl
      append_nil (y ∷ ys) = ap (λ zs. y ∷ zs) (append_nil ys)
  turns_fit before s t (x ∷ xs) h e =
      let a = stood (step s x) (λ t. in_turn step t xs) t e in
      subst (λ ys. Fits ys t) (joined before) (turns_fit (before ++ x ∷ []) a.value t xs (next before s a.value x h a.was) a.then)
    where
      joined : (ys : List X) → (ys ++ x ∷ []) ++ xs ≡ ys ++ x ∷ xs
      joined [] = refl
      joined (y ∷ ys) = ap (λ zs. y ∷ zs) (joined ys)
