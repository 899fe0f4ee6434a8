-- The rows of a model's tables make draws that sum to one.
use Rattle.std.proofs.Common.{◌≡◌, ℕ, suc, ◌+◌, ◌*◌, ◌<◌, sym, ◌∙◌, ap, subst, arith, List, [], ◌∷◌, ◌++◌, length, get_or}
use Rattle.std.specs.Prelude.{pos, unsigned_abs, All, Some, slice_get, slice_set}
use Rattle.std.proofs.lemmas.Option.{get_or_from_slice_get, slice_get_within}
use Rattle.sp_theory.specs.Backup.{tick_bound}
use Rattle.std.proofs.lemmas.List.Elements.{All-get_or}
use Rattle.sp_dd.specs.Points as slots
use Rattle.sp_dd.specs.Floors.{sum_to}
use Rattle.sp_dd.specs.Func.{Shape, Func, value_of, size_of, IsPointOf}
use Rattle.sp_dd.specs.Operations.{IsRow}
use Rattle.sp_theory.specs.Sums.{sum_below}
use Rattle.sp_theory.specs.Points as theory
use Rattle.sp_theory.specs.Draws.{q, Draws, AreProbabilitiesWhole, after}
use Rattle.sp_theory.specs.Model as model
use Rattle.sp_model.specs.declared.parts.Decl.{Decl}
use Rattle.sp_model.specs.declared.parts.Parts.{Parts}
use Rattle.sp_model.specs.declared.parts.ActionPart.{ActionPart}
use Rattle.sp_model.specs.Sizes.{AllSome}
use Rattle.sp_model.specs.Problem.{sizes_of, shape_of, twice_each, first_numbers, in_turn, point_of, problem, action_of, move_of, sight_of, no_action, no_func}
use Rattle.sp_model.specs.Kept.{IsDecl, IsProbability, IsAction, IsModel}
use Rattle.sp_model.proofs.SlotPoints.{Fits, Fits-point, Fits-none, Fits-push, padded-point, length-padded, length-in_turn, in_turn-point, set-primed, set-seen, size-primed, size-seen, length-doubled}
use Rattle.sp_model.proofs.Counts.{length-sizes_of}
use Rattle.sp_model.proofs.Whole.{sum_to-sum_below, pos-unsigned_abs}

-- draws of which each row sums to one
pub IsWhole-rows : (ks : List ℕ) (draws : Draws) → ((ps : List ℕ) → Fits ks ps → length ps < length ks → sum_below (get_or ks (length ps) 0) (λ x. pos (draws ps x)) ≡ pos q) → AreProbabilitiesWhole ks draws
IsWhole-rows [] draws rows = tt
IsWhole-rows (k ∷ ks) draws rows = (rows [] tt (omega arith), λ x less. IsWhole-rows ks (after x draws) (λ ps fits h. rows (x ∷ ps) (less, fits) (omega arith)))

pub AllSome-sizes_of : (ds : List Decl) → ((k : ℕ) → k < length ds → (d : Decl) → IsDecl (get_or ds k d)) → AllSome (sizes_of ds)
AllSome-sizes_of [] all = tt
AllSome-sizes_of (d ∷ ds) all = ((all 0 (omega arith) d).some, AllSome-sizes_of ds (λ k h. all (suc k) (omega arith)))

pub some_sizes : (ds : List Decl) → All IsDecl ds → AllSome (sizes_of ds)
some_sizes ds all = AllSome-sizes_of ds (λ k h d. All-get_or IsDecl ds k d h all)

module _ (ks js : List ℕ) (n m : ℕ) (long : length ks ≡ n) (wide : length js ≡ m) (some : AllSome ks) (seen : AllSome js) where
  -- values of the first variables, with zeros behind them
  pub point_in : (s t z : List ℕ) → Fits ks s → Fits ks t → Fits js z → slots.IsPoint (twice_each ks ++ js) (in_turn (first_numbers n s) (first_numbers n t) ++ first_numbers m z)
  point_in s t z p r k =
      let P : ℕ → Type 0 = λ c. slots.IsPoint (twice_each ks ++ js) (in_turn (first_numbers c s) (first_numbers c t) ++ first_numbers m z) in
      let R : ℕ → Type 0 = λ c. slots.IsPoint (twice_each ks ++ js) (in_turn (first_numbers (length ks) s) (first_numbers (length ks) t) ++ first_numbers c z) in
      subst P long (subst R wide (in_turn-point ks _ _ js _ (padded-point ks s some p) (padded-point ks t some r) (padded-point js z seen k)))

  module _ (f : Func) (shape : f.shape.sizes ≡ twice_each ks ++ js) (probability : IsProbability f) where
    pub value_in : (x : List ℕ) → slots.IsPoint (twice_each ks ++ js) x → pos (unsigned_abs (value_of f x)) ≡ value_of f x
    value_in x p = let P : List ℕ → Type 0 = λ l. slots.IsPoint l x in pos-unsigned_abs _ ((probability x (subst P (sym shape) p)).0)

    -- the row of a primed slot
    pub primed_row : (s ps : List ℕ) → Fits ks s → Fits ks ps → length ps < n → IsRow f (2 * length ps + 1)
        → sum_below (get_or ks (length ps) 0) (λ x. pos (unsigned_abs (value_of f (in_turn (first_numbers n s) (first_numbers n (ps ++ x ∷ [])) ++ first_numbers m [])))) ≡ pos q
    unfolding q
    primed_row s ps p r less row =
        let at : List ℕ = in_turn (first_numbers n s) (first_numbers n ps) ++ first_numbers m [] in
        let P : List ℕ → Type 0 = λ l. slots.IsPoint l at in
        let point : IsPointOf f at = subst P (sym shape) (point_in s ps [] p r (Fits-none js)) in
        let size : size_of f.shape (2 * length ps + 1) ≡ get_or ks (length ps) 0 = ap (λ (l : List ℕ). get_or l (2 * length ps + 1) 0) shape ∙ size-primed ks js (length ps) (omega arith) in
        sum_to-sum_below (get_or ks (length ps) 0) _ (λ v. value_of f (slice_set at (2 * length ps + 1) v))
        (λ v h. value_in _ (point_in s (ps ++ v ∷ []) [] p (Fits-push ks ps v r (omega arith) h) (Fits-none js))
        ∙ ap (value_of f) (sym (set-primed n (first_numbers n s) ps (first_numbers m []) v (length-padded n s) less)))
        ∙ ap (λ (c : ℕ). sum_to c (λ v. value_of f (slice_set at (2 * length ps + 1) v))) (sym size)
        ∙ row.whole at point

    -- the row of an observation variable's slot
    pub seen_row : (t ps : List ℕ) → Fits ks t → Fits js ps → length ps < m → IsRow f (2 * n + length ps)
        → sum_below (get_or js (length ps) 0) (λ x. pos (unsigned_abs (value_of f (in_turn (first_numbers n []) (first_numbers n t) ++ first_numbers m (ps ++ x ∷ []))))) ≡ pos q
    unfolding q
    seen_row t ps p r less row =
        let base : List ℕ = in_turn (first_numbers n []) (first_numbers n t) in
        let at : List ℕ = base ++ first_numbers m ps in
        let P : List ℕ → Type 0 = λ l. slots.IsPoint l at in
        let point : IsPointOf f at = subst P (sym shape) (point_in [] t ps (Fits-none ks) p r) in
        let same : length (first_numbers n []) ≡ length (first_numbers n t) = length-padded n [] ∙ sym (length-padded n t) in
        let count : length base ≡ 2 * n = length-in_turn (first_numbers n []) (first_numbers n t) same ∙ ap (λ (c : ℕ). 2 * c) (length-padded n []) in
        let place : length base + length ps ≡ 2 * n + length ps = ap (λ (c : ℕ). c + length ps) count in
        let size : size_of f.shape (2 * n + length ps) ≡ get_or js (length ps) 0 =
        ap (λ (l : List ℕ). get_or l (2 * n + length ps) 0) shape ∙ ap (λ (c : ℕ). get_or (twice_each ks ++ js) (2 * c + length ps) 0) (sym long) ∙ size-seen ks js (length ps) in
        sum_to-sum_below (get_or js (length ps) 0) _ (λ v. value_of f (slice_set at (2 * n + length ps) v))
        (λ v h. value_in _ (point_in [] t (ps ++ v ∷ []) (Fits-none ks) p (Fits-push js ps v r (omega arith) h))
        ∙ ap (value_of f) (sym (set-seen base m ps v less) ∙ ap (λ (c : ℕ). slice_set at c v) place))
        ∙ ap (λ (c : ℕ). sum_to c (λ v. value_of f (slice_set at (2 * n + length ps) v))) (sym size)
        ∙ row.whole at point

module _ (p : Parts) (known : IsModel p) where
  action_at : (a : ℕ) → a < length p.actions → IsAction (shape_of p) (action_of p a)
  action_at a h = All-get_or (IsAction (shape_of p)) p.actions a no_action h known.actions

  pub moves_whole : (a : ℕ) (s : List ℕ) → a < length p.actions → theory.IsPoint (sizes_of p.variables) s
      → AreProbabilitiesWhole (sizes_of p.variables) (λ before x. unsigned_abs (value_of (move_of p a (length before)) (point_of p s (before ++ x ∷ []) [])))
  moves_whole a s h at =
      let ks = sizes_of p.variables in
      let long = length-sizes_of p.variables in
      IsWhole-rows ks _ (λ ps fits less.
      let here : length ps < length p.variables = omega (arith, long, less) in
      let is = (action_at a h).moves (length ps) here in
      primed_row ks (sizes_of p.sights) (length p.variables) (length p.sights) long (length-sizes_of p.sights) (some_sizes p.variables known.variables) (some_sizes p.sights known.sights)
      (move_of p a (length ps)) (ap (λ (c : Shape). c.sizes) is.shape) is.probability s ps (Fits-point ks s at) fits here is.row)

  pub sights_whole : (a : ℕ) (next : List ℕ) → a < length p.actions → theory.IsPoint (sizes_of p.variables) next
      → AreProbabilitiesWhole (sizes_of p.sights) (λ before x. unsigned_abs (value_of (sight_of p a (length before)) (point_of p [] next (before ++ x ∷ []))))
  sights_whole a next h at =
      let js = sizes_of p.sights in
      let wide = length-sizes_of p.sights in
      IsWhole-rows js _ (λ ps fits less.
      let here : length ps < length p.sights = omega (arith, wide, less) in
      let act = action_at a h in
      let slot_count = length-doubled (sizes_of p.variables) js in
      let is = act.sights (length ps) (omega (arith, act.sight_count, slot_count, wide, length-sizes_of p.variables, here)) in
      seen_row (sizes_of p.variables) js (length p.variables) (length p.sights) (length-sizes_of p.variables) wide (some_sizes p.variables known.variables) (some_sizes p.sights known.sights)
      (sight_of p a (length ps)) (ap (λ (c : Shape). c.sizes) is.shape) is.probability next ps (Fits-point (sizes_of p.variables) next at) fits here is.row)

  pub problem_lawful : model.IsLawful (problem p)
  unfolding problem q
  problem_lawful = record { moves_whole = moves_whole; sights_whole = sights_whole; some_action = known.some_action; discounts = (let small = known.discount in omega (arith, small)) }

  -- an action has a table for each observation variable
  pub sight_total : (a : ℕ) (x : ActionPart) → slice_get p.actions a ≡ Some x → length x.sight ≡ length p.sights
  sight_total a x e =
      let is = get_or_from_slice_get p.actions a x no_action e in
      let act = action_at a (slice_get_within p.actions a x e) in
      let slot_count = length-doubled (sizes_of p.variables) (sizes_of p.sights) in
      let same = ap (λ (y : ActionPart). length y.sight) is in
      omega (arith, act.sight_count, slot_count, length-sizes_of p.variables, length-sizes_of p.sights, same)

pub sight_is : (p : Parts) (a j : ℕ) (x : ActionPart) (f : Func) → slice_get p.actions a ≡ Some x → slice_get x.sight j ≡ Some f → f ≡ sight_of p a j
sight_is p a j x f e h = sym (ap (λ (y : ActionPart). get_or y.sight j no_func) (get_or_from_slice_get p.actions a x no_action e) ∙ get_or_from_slice_get x.sight j f no_func h)

pub tick_bound-problem : (p : Parts) (n m j : ℕ) → n ≡ length p.variables → m ≡ length p.sights → j ≡ theory.count_of (sizes_of p.sights) → (n + m) * (j + 1) + 1 ≡ tick_bound (problem p)
unfolding problem
tick_bound-problem p n m j e f g =
    let long = e ∙ sym (length-sizes_of p.variables) in
    let wide = f ∙ sym (length-sizes_of p.sights) in
    (λ i. (long i + wide i) * (g i + 1) + 1)
