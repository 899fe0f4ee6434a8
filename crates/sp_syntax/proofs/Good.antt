-- What a reading function says of the tokens that it takes, and of the machine; and how such facts are put together.
use Rattle.std.proofs.Common.{◌≡◌, ℕ, zero, suc, ◌<◌, ◌≤◌, List, [], ◌∷◌, ◌++◌, length, Bool, true, false, Option, Some, None, Result, Ok, Err, refl, sym, ap, ◌∙◌, subst, append_assoc, append-nil, arith}
use Rattle.std.specs.Prelude.{⊤}
use Rattle.sp_lex.specs.declared.lexeme.Span.{Span}
use Rattle.sp_syntax.specs.declared.class.TokenClass.{TokenClass}
use Rattle.sp_syntax.specs.declared.class.Classed.{Classed}
use Rattle.sp_syntax.specs.declared.error.SyntaxKind.TheVariants as kind
use Rattle.sp_syntax.specs.Fault.{Fault}
use Rattle.sp_syntax.specs.Grammar.{AreAll}
use Rattle.sp_syntax.specs.Reading.{Read, ◌>>=◌, front, expect, one_of, many, many_on, several}
use Rattle.sp_syntax.specs.Refusal.{leave}
use Rattle.sp_syntax.proofs.Machine.{Sym, onto, only_where, or_more, expand, kind_of, fault, go_on, run}

-- What was read stands at the front of the tokens, is of the relation, and leads the machine from one stack to another. A fault is the machine's.
abbrev pub Good : {X : Type 0} → (X → List Classed → Type 0) → ℕ → ℕ → (List Sym → List Sym) → ℕ → (List Sym → List Sym) → Result (X × List Classed) Fault → List Classed → Type 0
Good IsX end a from b to (Ok (x, us)) ts = (used : List Classed) × IsX x used × (ts ≡ used ++ us) × ((ss : List Sym) → run end a (from ss) ts ≡ run end b (to ss) us)
Good IsX end a from b to (Err f) ts = (ss : List Sym) → run end a (from ss) ts ≡ Err f

-- the stack with a symbol on top
abbrev pub on : Sym → List Sym → List Sym
on s ss = s ∷ ss

abbrev pub same : List Sym → List Sym
same ss = ss

pub done : {X : Type 0} (IsX : X → List Classed → Type 0) (end a : ℕ) (from : List Sym → List Sym) (x : X) (ts : List Classed) → IsX x [] → Good IsX end a from a from (Ok (x, ts)) ts
done IsX end a from x ts is = ([], is, refl, λ ss. refl)

pub mapped : {X : Type 0} (IsX IsY : X → List Classed → Type 0) (end a : ℕ) (from : List Sym → List Sym) (b : ℕ) (to : List Sym → List Sym) (r : Result (X × List Classed) Fault) (ts : List Classed)
    → ((x : X) (used : List Classed) → IsX x used → IsY x used) → Good IsX end a from b to r ts → Good IsY end a from b to r ts
mapped IsX IsY end a from b to (Ok (x, us)) ts k (used, is, e, runs) = (used, k x used is, e, runs)
mapped IsX IsY end a from b to (Err f) ts k runs = runs

pub entered : {X : Type 0} (IsX : X → List Classed → Type 0) (end a : ℕ) (before from : List Sym → List Sym) (b : ℕ) (to : List Sym → List Sym) (r : Result (X × List Classed) Fault) (ts : List Classed)
    → ((ss : List Sym) → run end a (before ss) ts ≡ run end a (from ss) ts) → Good IsX end a from b to r ts → Good IsX end a before b to r ts
entered IsX end a before from b to (Ok (x, us)) ts k (used, is, e, runs) = (used, is, e, λ ss. k ss ∙ runs ss)
entered IsX end a before from b to (Err f) ts k runs = λ ss. k ss ∙ runs ss

pub under : {X : Type 0} (IsX : X → List Classed → Type 0) (end a : ℕ) (from : List Sym → List Sym) (b : ℕ) (to below : List Sym → List Sym) (r : Result (X × List Classed) Fault) (ts : List Classed)
    → Good IsX end a from b to r ts → Good IsX end a (λ ss. from (below ss)) b (λ ss. to (below ss)) r ts
under IsX end a from b to below (Ok (x, us)) ts (used, is, e, runs) = (used, is, e, λ ss. runs (below ss))
under IsX end a from b to below (Err f) ts runs = λ ss. runs (below ss)

-- one token, and what is read behind it
pub taken : {X : Type 0} (IsX : X → List Classed → Type 0) (end a : ℕ) (from : List Sym → List Sym) (m : ℕ) (mid : List Sym → List Sym) (b : ℕ) (to : List Sym → List Sym) (t : Classed) (r : Result (X × List Classed) Fault) (ts : List Classed)
    → ((ss : List Sym) → run end a (from ss) (t ∷ ts) ≡ run end m (mid ss) ts) → Good (λ x used. IsX x (t ∷ used)) end m mid b to r ts → Good IsX end a from b to r (t ∷ ts)
taken IsX end a from m mid b to t (Ok (x, us)) ts k (used, is, e, runs) = (t ∷ used, is, ap (λ z. t ∷ z) e, λ ss. k ss ∙ runs ss)
taken IsX end a from m mid b to t (Err f) ts k runs = λ ss. k ss ∙ runs ss

-- one reader after another
pub behind : {X Y : Type 0} (IsX : X → List Classed → Type 0) (IsY : Y → List Classed → Type 0) (end a : ℕ) (from : List Sym → List Sym) (m : ℕ) (mid : List Sym → List Sym) (b : ℕ) (to : List Sym → List Sym)
    (ts : List Classed) (r : Result (X × List Classed) Fault) (f : X × List Classed → Result (Y × List Classed) Fault)
    → Good IsX end a from m mid r ts
    → ((x : X) (us used : List Classed) → IsX x used → ts ≡ used ++ us → Good (λ y v. IsY y (used ++ v)) end m mid b to (f (x, us)) us)
    → Good IsY end a from b to (r >>= f) ts
behind {Y = Y} IsX IsY end a from m mid b to ts (Ok (x, us)) f (used, is, e, runs) k = joined (f (x, us)) (k x us used is e)
  where
    joined : (r : Result (Y × List Classed) Fault) → Good (λ y v. IsY y (used ++ v)) end m mid b to r us → Good IsY end a from b to r ts
    joined (Ok (y, vs)) (used2, is2, e2, runs2) = (used ++ used2, is2, e ∙ ap (λ z. used ++ z) e2 ∙ sym (append_assoc used used2 vs), λ ss. runs ss ∙ runs2 ss)
    joined (Err g) runs2 = λ ss. runs ss ∙ runs2 ss
behind IsX IsY end a from m mid b to ts (Err g) f runs k = runs

-- ---- one token

-- the token is of that sort, and the span is its own
abbrev pub IsOne : (Classed → Type 0) → Span → List Classed → Type 0
IsOne P s ts = (t : Classed) × P t × (s ≡ t.span) × (ts ≡ t ∷ [])

-- a symbol for one token
pub record Reads (s : Sym) (fits : Option TokenClass → Bool) (P : Classed → Type 0) : Type 0 where
  pub rule : (c : TokenClass) → expand s c ≡ only_where (fits (Some c))
  pub calm : (ss : List Sym) (c : TokenClass) → kind_of (s ∷ ss) c ≡ kind.Unexpected
  pub nothing : fits None ≡ false
  pub means : (t : Classed) → fits (Some t.class) ≡ true → P t

pub token_good : (s : Sym) (fits : Option TokenClass → Bool) (P : Classed → Type 0) → Reads s fits P → (end a b : ℕ) → ((c : TokenClass) → fits (Some c) ≡ true → leave a c ≡ Some b)
    → (ts : List Classed) → Good (IsOne P) end a (on s) b same (one_of fits end ts) ts
unfolding expect
token_good s fits P k end a b room [] = subst (λ o. Good (IsOne P) end a (on s) b same (expect o end []) []) (sym k.nothing) (λ ss. refl)
token_good s fits P k end a b room (t ∷ ts) = by (fits (Some t.class)) refl
  where
    by : (o : Bool) → fits (Some t.class) ≡ o → Good (IsOne P) end a (on s) b same (expect o end (t ∷ ts)) (t ∷ ts)
    by true e = (
      t ∷ [],
      (t, k.means t e, refl, refl),
      refl,
      λ ss.
          ap (λ o. go_on (λ l new. run end l new ts) (s ∷ ss) t (onto ss o) (leave a t.class)) (k.rule t.class ∙ ap only_where e)
          ∙ ap (λ o. go_on (λ l new. run end l new ts) (s ∷ ss) t (Some ss) o) (room t.class e),
    )
    by false e = λ ss.
        ap (λ o. go_on (λ l new. run end l new ts) (s ∷ ss) t (onto ss o) (leave a t.class)) (k.rule t.class ∙ ap only_where e)
        ∙ ap (λ q. Err (fault t q)) (k.calm ss t.class)

-- ---- lists

-- the parts behind some, with the token that ends them
abbrev pub AreMore : {X : Type 0} → (X → List Classed → Type 0) → (Classed → Type 0) → List X → (List X × Span) → List Classed → Type 0
AreMore {X = X} IsX Ends front all ts = (more : List X) × (us : List Classed) × (b : Classed) × (all.0 ≡ front ++ more) × AreAll IsX more us × Ends b × (all.1 ≡ b.span) × (ts ≡ us ++ (b ∷ []))

-- one part or more, with the token that ends them
abbrev pub AreSeveral : {X : Type 0} → (X → List Classed → Type 0) → (Classed → Type 0) → (List X × Span) → List Classed → Type 0
AreSeveral {X = X} IsX Ends all ts = (first : X) × (more : List X) × (us : List Classed) × (b : Classed) × (all.0 ≡ first ∷ more) × AreAll IsX (first ∷ more) us × Ends b × (all.1 ≡ b.span) × (ts ≡ us ++ (b ∷ []))

-- a part that takes tokens leaves fewer
fewer_left : (used us ts : List Classed) → (used ≡ [] → ⊥) → ts ≡ used ++ us → length us < length ts
fewer_left [] us ts h e = absurd (h refl)
fewer_left (u ∷ used) us ts h e = subst (λ z. length us < length z) (sym e) (longer used)
  where
    longer : (used : List Classed) → length us < length (u ∷ (used ++ us))
    longer [] = omega arith
    longer (v ∷ vs) = omega (arith, longer vs)

none_left : (t : Classed) (ts : List Classed) → length (t ∷ ts) ≤ zero → ⊥
none_left t ts h = omega arith

-- a list that goes on with parts of one symbol up to a token
pub record Lists {X : Type 0} (IsX : X → List Classed → Type 0) (Ends : Classed → Type 0) (ends : Option TokenClass → Bool) (one : Read X) (s l : Sym) (end a b : ℕ) : Type 0 where
  pub nothing : ends None ≡ false
  pub means : (t : Classed) → ends (Some t.class) ≡ true → Ends t
  pub part : (us : List Classed) → Good IsX end a (on s) a same (one us) us
  pub some : (x : X) → IsX x [] → ⊥
  pub stops : (ss : List Sym) (t : Classed) (ts : List Classed) → ends (Some t.class) ≡ true → run end a (l ∷ ss) (t ∷ ts) ≡ run end b ss ts
  pub goes : (ss : List Sym) (t : Classed) (ts : List Classed) → ends (Some t.class) ≡ false → run end a (l ∷ ss) (t ∷ ts) ≡ run end a (s ∷ l ∷ ss) (t ∷ ts)

module _ {X : Type 0} (IsX : X → List Classed → Type 0) (Ends : Classed → Type 0) (ends : Option TokenClass → Bool) (one : Read X) (s l : Sym) (end a b : ℕ) (k : Lists IsX Ends ends one s l end a b) where
  lift : (xs : List X) (x : X) (used : List Classed) → IsX x used → (all : List X × Span) (v : List Classed) → AreMore IsX Ends (xs ++ (x ∷ [])) all v → AreMore IsX Ends xs all (used ++ v)
  lift xs x used is all v (more, us, b, e, hm, hb, hs, eu) =
      (x ∷ more, used ++ us, b, e ∙ append_assoc xs (x ∷ []) more, (used, us, is, hm, refl), hb, hs, ap (λ z. used ++ z) eu ∙ sym (append_assoc used us (b ∷ [])))

  next : (n : ℕ) (xs : List X) (ts : List Classed) → ((xs : List X) (us : List Classed) → length us ≤ n → Good (AreMore IsX Ends xs) end a (on l) b same (many ends one end n xs us) us)
      → length ts ≤ suc n → ((ss : List Sym) → run end a (l ∷ ss) ts ≡ run end a (s ∷ l ∷ ss) ts)
      → Good (AreMore IsX Ends xs) end a (on l) b same (many_on (many ends one end n) one false xs ts) ts
  next n xs ts again le goes =
      entered (AreMore IsX Ends xs) end a (on l) (λ ss. s ∷ l ∷ ss) b same (many_on (many ends one end n) one false xs ts) ts goes
      (behind IsX (AreMore IsX Ends xs) end a (λ ss. s ∷ l ∷ ss) a (on l) b same ts (one ts) (λ x. many ends one end n (xs ++ (x.0 ∷ [])) x.1)
      (under IsX end a (on s) a same (on l) (one ts) ts (k.part ts))
      (λ x us used is e. let shorter = fewer_left used us ts (λ n. k.some x (subst (IsX x) n is)) e in
      mapped (AreMore IsX Ends (xs ++ (x ∷ []))) (λ y v. AreMore IsX Ends xs y (used ++ v)) end a (on l) b same (many ends one end n (xs ++ (x ∷ [])) us) us
      (lift xs x used is) (again (xs ++ (x ∷ [])) us (omega (arith, shorter)))))

  pub many_good : (n : ℕ) (xs : List X) (ts : List Classed) → length ts ≤ n → Good (AreMore IsX Ends xs) end a (on l) b same (many ends one end n xs ts) ts
  unfolding many
  many_good zero xs [] le = λ ss. refl
  many_good zero xs (t ∷ ts) le = absurd (none_left t ts le)
  many_good (suc n) xs [] le =
      subst (λ o. Good (AreMore IsX Ends xs) end a (on l) b same (many_on (many ends one end n) one o xs []) []) (sym k.nothing) (next n xs [] (λ xs us. many_good n xs us) le (λ ss. refl))
  many_good (suc n) xs (t ∷ ts) le = by (ends (Some t.class)) refl (next n xs (t ∷ ts) (λ xs us. many_good n xs us) le)
    where
      by : (o : Bool) → ends (Some t.class) ≡ o
          → (((ss : List Sym) → run end a (l ∷ ss) (t ∷ ts) ≡ run end a (s ∷ l ∷ ss) (t ∷ ts)) → Good (AreMore IsX Ends xs) end a (on l) b same (many_on (many ends one end n) one false xs (t ∷ ts)) (t ∷ ts))
          → Good (AreMore IsX Ends xs) end a (on l) b same (many_on (many ends one end n) one o xs (t ∷ ts)) (t ∷ ts)
      by true e more = (t ∷ [], ([], [], t, sym (append-nil xs), refl, k.means t e, refl, refl), refl, λ ss. k.stops ss t ts e)
      by false e more = more (λ ss. k.goes ss t ts e)

  pub several_good : (ts : List Classed) → Good (AreSeveral IsX Ends) end a (λ ss. s ∷ l ∷ ss) b same (several ends one end ts) ts
  unfolding several
  several_good ts =
      behind IsX (AreSeveral IsX Ends) end a (λ ss. s ∷ l ∷ ss) a (on l) b same ts (one ts) (λ first. many ends one end (length first.1) (first.0 ∷ []) first.1)
      (under IsX end a (on s) a same (on l) (one ts) ts (k.part ts))
      (λ x us used is e. mapped (AreMore IsX Ends (x ∷ [])) (λ y v. AreSeveral IsX Ends y (used ++ v)) end a (on l) b same (many ends one end (length us) (x ∷ []) us) us
      (λ all v (more, vs, b, e0, hm, hb, hs, ev). (x, more, used ++ vs, b, e0, (used, vs, is, hm, refl), hb, hs, ap (λ z. used ++ z) ev ∙ sym (append_assoc used vs (b ∷ []))))
      (many_good (length us) (x ∷ []) us (omega arith)))

-- ---- what follows a part

module _ {Y : Type 0} (IsY : Y → List Classed → Type 0) (end a : ℕ) (from : List Sym → List Sym) (m : ℕ) (mid : List Sym → List Sym) (b : ℕ) (to : List Sym → List Sym) (ts : List Classed) where
  -- behind one token
  pub then_one : (P : Classed → Type 0) (r : Result (Span × List Classed) Fault) (f : Span × List Classed → Result (Y × List Classed) Fault)
      → Good (IsOne P) end a from m mid r ts
      → ((t : Classed) (us : List Classed) → P t → Good (λ y v. IsY y (t ∷ v)) end m mid b to (f (t.span, us)) us)
      → Good IsY end a from b to (r >>= f) ts
  then_one P r f g k = behind (IsOne P) IsY end a from m mid b to ts r f g
      (λ s us used (t, h, es, eu) e. subst (λ s. Good (λ y v. IsY y (used ++ v)) end m mid b to (f (s, us)) us) (sym es)
      (subst (λ used. Good (λ y v. IsY y (used ++ v)) end m mid b to (f (t.span, us)) us) (sym eu) (k t us h)))

  moved : (us v : List Classed) (t : Classed) (y : Y) → IsY y (us ++ (t ∷ v)) → IsY y ((us ++ (t ∷ [])) ++ v)
  moved us v t y h = subst (IsY y) (sym (append_assoc us (t ∷ []) v)) h

  -- behind one part or more
  pub then_several : {X : Type 0} (IsX : X → List Classed → Type 0) (Ends : Classed → Type 0) (r : Result ((List X × Span) × List Classed) Fault) (f : (List X × Span) × List Classed → Result (Y × List Classed) Fault)
      → Good (AreSeveral IsX Ends) end a from m mid r ts
      → ((first : X) (more : List X) (vs us : List Classed) (t : Classed) → AreAll IsX (first ∷ more) vs → Ends t → Good (λ y v. IsY y (vs ++ (t ∷ v))) end m mid b to (f ((first ∷ more, t.span), us)) us)
      → Good IsY end a from b to (r >>= f) ts
  then_several IsX Ends r f g k = behind (AreSeveral IsX Ends) IsY end a from m mid b to ts r f g
      (λ all us used (first, more, vs, t, ex, hx, ht, es, eu) e.
      let pair : all ≡ (first ∷ more, t.span) = ap (λ z. (z, all.1)) ex ∙ ap (λ z. (first ∷ more, z)) es in
      subst (λ all. Good (λ y v. IsY y (used ++ v)) end m mid b to (f (all, us)) us) (sym pair)
      (subst (λ used. Good (λ y v. IsY y (used ++ v)) end m mid b to (f ((first ∷ more, t.span), us)) us) (sym eu)
      (mapped (λ y v. IsY y (vs ++ (t ∷ v))) (λ y v. IsY y ((vs ++ (t ∷ [])) ++ v)) end m mid b to (f ((first ∷ more, t.span), us)) us
      (λ y v h. moved vs v t y h) (k first more vs us t hx ht))))

  -- behind any number of parts
  pub then_many : {X : Type 0} (IsX : X → List Classed → Type 0) (Ends : Classed → Type 0) (r : Result ((List X × Span) × List Classed) Fault) (f : (List X × Span) × List Classed → Result (Y × List Classed) Fault)
      → Good (AreMore IsX Ends []) end a from m mid r ts
      → ((xs : List X) (vs us : List Classed) (t : Classed) → AreAll IsX xs vs → Ends t → Good (λ y v. IsY y (vs ++ (t ∷ v))) end m mid b to (f ((xs, t.span), us)) us)
      → Good IsY end a from b to (r >>= f) ts
  then_many IsX Ends r f g k = behind (AreMore IsX Ends []) IsY end a from m mid b to ts r f g
      (λ all us used (more, vs, t, ex, hx, ht, es, eu) e.
      let pair : all ≡ (more, t.span) = ap (λ z. (z, all.1)) ex ∙ ap (λ z. (more, z)) es in
      subst (λ all. Good (λ y v. IsY y (used ++ v)) end m mid b to (f (all, us)) us) (sym pair)
      (subst (λ used. Good (λ y v. IsY y (used ++ v)) end m mid b to (f ((more, t.span), us)) us) (sym eu)
      (mapped (λ y v. IsY y (vs ++ (t ∷ v))) (λ y v. IsY y ((vs ++ (t ∷ [])) ++ v)) end m mid b to (f ((more, t.span), us)) us
      (λ y v h. moved vs v t y h) (k more vs us t hx ht))))

-- ---- lists of the machine

goes_by : (k : ℕ → List Sym → Result ⊤ Fault) (s l : Sym) (ss : List Sym) (t : Classed) (o : Option (List Sym)) (left : Option ℕ) → kind_of (l ∷ ss) t.class ≡ kind_of (s ∷ l ∷ ss) t.class
    → go_on k (l ∷ ss) t (onto ss (onto (l ∷ []) o)) left ≡ go_on k (s ∷ l ∷ ss) t (onto (l ∷ ss) o) left
goes_by k s l ss t None left e = ap (λ q. Err (fault t q)) e
goes_by k s l ss t (Some new) None e = refl
goes_by k s l ss t (Some new) (Some n) e = ap (k n) (append_assoc new (l ∷ []) ss)

pub lists : {X : Type 0} (IsX : X → List Classed → Type 0) (Ends : Classed → Type 0) (ends : Option TokenClass → Bool) (one : Read X) (s l : Sym) (end a b : ℕ)
    → ((c : TokenClass) → expand l c ≡ or_more (ends (Some c)) l (expand s c))
    → ((ss : List Sym) (c : TokenClass) → kind_of (l ∷ ss) c ≡ kind.Unexpected) → ((ss : List Sym) (c : TokenClass) → kind_of (s ∷ ss) c ≡ kind.Unexpected)
    → ((c : TokenClass) → ends (Some c) ≡ true → leave a c ≡ Some b)
    → ends None ≡ false → ((t : Classed) → ends (Some t.class) ≡ true → Ends t)
    → ((us : List Classed) → Good IsX end a (on s) a same (one us) us) → ((x : X) → IsX x [] → ⊥)
    → Lists IsX Ends ends one s l end a b
lists IsX Ends ends one s l end a b rule calm_l calm_s room nothing means part some = record {
  nothing = nothing;
  means = means;
  part = part;
  some = some;
  stops = λ ss t ts e.
      ap (λ o. go_on (λ n new. run end n new ts) (l ∷ ss) t (onto ss o) (leave a t.class)) (rule t.class ∙ ap (λ o. or_more o l (expand s t.class)) e)
      ∙ ap (λ o. go_on (λ n new. run end n new ts) (l ∷ ss) t (Some ss) o) (room t.class e);
  goes = λ ss t ts e.
      ap (λ o. go_on (λ n new. run end n new ts) (l ∷ ss) t (onto ss o) (leave a t.class)) (rule t.class ∙ ap (λ o. or_more o l (expand s t.class)) e)
      ∙ goes_by (λ n new. run end n new ts) s l ss t (expand s t.class) (leave a t.class) (calm_l ss t.class ∙ sym (calm_s (l ∷ ss) t.class));
}
