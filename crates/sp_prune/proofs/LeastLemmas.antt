-- The least id of members, as a loop over an edition finds it.
use Rattle.std.proofs.Common.{◌≡◌, ◌≢◌, ◌∙◌, sym, ap, refl, arith, ℕ, suc, ◌+◌, ◌<◌, ◌≤◌, not, ◌||◌, eqb, List, [], ◌∷◌, ◌++◌, length, get_or, take, Bool, true, false, cond, ◌&&◌, Option, Some, None, append-nil}
use Rattle.std.specs.Prelude.{nat_lt, filter}
use Rattle.std.specs.List.{flat_map}
use Rattle.std.proofs.lemmas.Bool.{eq-eqb, ne_eqb, lt-ltb, le-ltb}
use Rattle.std.proofs.lemmas.List.{take_all}
use Rattle.std.proofs.lemmas.List.Elements.{filter-append}
use Rattle.std.proofs.lemmas.List.Concat.{flat_map-append}
use Rattle.std.proofs.Math.Seq.{take-suc}
use Rattle.sp_theory.specs.Model.{Model}
use Rattle.sp_theory.specs.Values.{Member, Edition}
use Rattle.sp_theory.specs.OneThread.{least_id, pair_of, nowhere_above, yields, dominated}
use Rattle.sp_prune.specs.Least.{least_of, is_less_than}

least_id-push : (id : ℕ) (ys : List Member) (z : Member) → least_id id (ys ++ z ∷ []) ≡ cond (nat_lt z.id (least_id id ys)) z.id (least_id id ys)
unfolding least_id
least_id-push id [] z = refl
least_id-push id (y ∷ ys) z = least_id-push (cond (nat_lt y.id id) y.id id) ys z

-- with one more member
pub least_more : (ys : List Member) (z : Member) → least_of (ys ++ z ∷ []) ≡ cond (is_less_than z.id (least_of ys)) (Some z.id) (least_of ys)
unfolding least_id
least_more [] z = refl
least_more (y ∷ ys) z = ap Some (least_id-push y.id ys z) ∙ by_test (nat_lt z.id (least_id y.id ys))
  where
    by_test : (b : Bool) → Some (cond b z.id (least_id y.id ys)) ≡ cond b (Some z.id) (Some (least_id y.id ys))
    by_test true = refl
    by_test false = refl

-- one more member is met
pub least_step : (test : Member → Bool) (edition : Edition) (k : ℕ) (y : Member) → k < length edition → y ≡ get_or edition k y → (least : Option ℕ) → least ≡ least_of (filter test (take k edition))
    → (b : Bool) → b ≡ (is_less_than y.id least && test y) → cond b (Some y.id) least ≡ least_of (filter test (take (k + 1) edition))
least_step test edition k y less at least is b judged =
    let next : suc k ≡ k + 1 = omega arith in
    let more : filter test (take (k + 1) edition) ≡ filter test (take k edition) ++ cond (test y) (y ∷ []) [] =
    ap (λ (n : ℕ). filter test (take n edition)) (sym next) ∙ ap (filter test) (take-suc edition k y less ∙ ap (λ (z : Member). take k edition ++ z ∷ []) (sym at)) ∙ filter-append test (take k edition) (y ∷ []) in
    ap (λ (c : Bool). cond c (Some y.id) least) judged ∙ by_test (test y) ∙ sym (ap least_of more)
  where
    by_test : (c : Bool) → cond (is_less_than y.id least && c) (Some y.id) least ≡ least_of (filter test (take k edition) ++ cond c (y ∷ []) [])
    by_test true = with_test (is_less_than y.id least) ∙ (λ i. cond (is_less_than y.id (is i)) (Some y.id) (is i)) ∙ sym (least_more (filter test (take k edition)) y)
      where
        with_test : (d : Bool) → cond (d && true) (Some y.id) least ≡ cond d (Some y.id) least
        with_test true = refl
        with_test false = refl
    by_test false = no_test (is_less_than y.id least) ∙ is ∙ ap least_of (sym (append-nil (filter test (take k edition))))
      where
        no_test : (d : Bool) → cond (d && false) (Some y.id) least ≡ least
        no_test true = refl
        no_test false = refl

-- ---- which member may go
module _ (m : Model) (x y : Member) where
  pub own_stays : x.id ≡ y.id → false ≡ yields m x y
  unfolding yields
  own_stays same = ap (λ (b : Bool). not b && (nowhere_above m x y && (not (nowhere_above m y x) || nat_lt y.id x.id))) (sym (eq-eqb x.id y.id same))

  pub above_stays : nowhere_above m x y ≡ false → false ≡ yields m x y
  unfolding yields
  above_stays above = by_test (not (eqb x.id y.id)) ∙ ap (λ (b : Bool). not (eqb x.id y.id) && (b && (not (nowhere_above m y x) || nat_lt y.id x.id))) (sym above)
    where
      by_test : (b : Bool) → false ≡ (b && false)
      by_test true = refl
      by_test false = refl

  -- of others, one that is nowhere above goes unless both are equal and its id is the lesser
  pub under_goes : x.id ≢ y.id → nowhere_above m x y ≡ true → yields m x y ≡ (not (nowhere_above m y x) || nat_lt y.id x.id)
  unfolding yields
  under_goes differ under = (λ i. not (ne_eqb x.id y.id differ i) && (under i && (not (nowhere_above m y x) || nat_lt y.id x.id)))

  pub greater_goes : x.id ≢ y.id → nowhere_above m x y ≡ true → y.id < x.id → true ≡ yields m x y
  greater_goes differ under less = sym (under_goes differ under ∙ ap (λ (b : Bool). not (nowhere_above m y x) || b) (lt-ltb y.id x.id less) ∙ by_test (not (nowhere_above m y x)))
    where
      by_test : (b : Bool) → (b || true) ≡ true
      by_test true = refl
      by_test false = refl

  pub lesser_goes : x.id ≢ y.id → nowhere_above m x y ≡ true → x.id ≤ y.id → (b : Bool) → b ≡ nowhere_above m y x → not b ≡ yields m x y
  lesser_goes differ under low b equal = sym (under_goes differ under ∙ ap (λ (c : Bool). not (nowhere_above m y x) || c) (le-ltb y.id x.id low) ∙ by_test (not (nowhere_above m y x)) ∙ ap not (sym equal))
    where
      by_test : (b : Bool) → (b || false) ≡ b
      by_test true = refl
      by_test false = refl

-- ---- pairs
-- the members from the first on with their least ids, and one more
pub pairs_step : (test : Member → Member → Bool) (edition : Edition) (k : ℕ) (x : Member) → k < length edition → x ≡ get_or edition k x
    → flat_map (λ z. pair_of z (filter (test z) edition)) (take (k + 1) edition) ≡ flat_map (λ z. pair_of z (filter (test z) edition)) (take k edition) ++ pair_of x (filter (test x) edition)
pairs_step test edition k x less at =
    let next : suc k ≡ k + 1 = omega arith in
    ap (λ (n : ℕ). flat_map (λ z. pair_of z (filter (test z) edition)) (take n edition)) (sym next)
    ∙ ap (flat_map (λ z. pair_of z (filter (test z) edition))) (take-suc edition k x less ∙ ap (λ (z : Member). take k edition ++ z ∷ []) (sym at))
    ∙ flat_map-append (λ z. pair_of z (filter (test z) edition)) (take k edition) (x ∷ [])
    ∙ ap (λ (ps : List (ℕ × ℕ)). flat_map (λ z. pair_of z (filter (test z) edition)) (take k edition) ++ ps) (append-nil (pair_of x (filter (test x) edition)))

-- the pair of a member by the least id
pub some_pair : (x : Member) (ys : List Member) (id : ℕ) → Some id ≡ least_of ys → pair_of x ys ≡ (x.id, id) ∷ []
some_pair x [] id e = absurd (cc)
some_pair x (y ∷ ys) id e = let same : id ≡ least_id y.id ys = cc in ap (λ (n : ℕ). (x.id, n) ∷ []) (sym same)

pub no_pair : (x : Member) (ys : List Member) → None ≡ least_of ys → pair_of x ys ≡ []
no_pair x [] e = refl
no_pair x (y ∷ ys) e = absurd (cc)

-- all members are met
pub pairs_all : (m : Model) (edition : Edition) (k : ℕ) → length edition ≤ k → flat_map (λ z. pair_of z (filter (yields m z) edition)) (take k edition) ≡ dominated m edition
unfolding dominated
pairs_all m edition k far = ap (flat_map (λ z. pair_of z (filter (yields m z) edition))) (take_all k edition far)
