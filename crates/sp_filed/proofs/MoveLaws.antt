-- Samples of a model by the same actions and observations agree, so no line of a belief of a plan file is at fault.
use Rattle.std.proofs.Common.{◌≡◌, ℕ, zero, suc, ◌%◌, ◌<◌, ◌≤◌, List, [], ◌∷◌, ◌++◌, length, get_or, map, Bool, true, false, cond, eqb, Option, Some, None, refl, ap, sym, ◌∙◌, arith, subst}
use Rattle.std.specs.Prelude.{slice_get}
use Rattle.std.specs.List.{AllByRecursion}
use Rattle.std.proofs.lemmas.List.{length-map, get_or-map}
use Rattle.std.proofs.lemmas.Option.{slice_get_within, get_or_from_slice_get}
use Rattle.sp_theory.specs.Model as problems
use Rattle.sp_theory.specs.Points.{point_of}
use Rattle.sp_theory.specs.Values.{Weights}
use Rattle.sp_theory.specs.Agreement.{WeightsAgree, NextAgree}
use Rattle.sp_theory.specs.Beliefs.{initial_weights, next_weights}
use Rattle.sp_theory.proofs.LogLemmas.{next_agrees}
use Rattle.sp_theory.specs.Samples as theory
use Rattle.sp_model.specs.declared.parts.Parts.{Parts}
use Rattle.sp_model.specs.declared.beliefs.Sample.{Sample}
use Rattle.sp_model.specs.Problem.{problem}
use Rattle.sp_model.specs.Links.{sample_of}
use Rattle.sp_lines.specs.Lines.{lines_of, Lacks, IsSmall}
use Rattle.sp_planfile.specs.Contents.{moves_of, move_of}
use Rattle.sp_planfile.specs.PlanText.{belief_line}
use Rattle.sp_planfile.specs.Form.{IsParentMove}
use Rattle.sp_planfile.proofs.Sections.{cut_at}
use Rattle.sp_planfile.proofs.Whole.{move_lacks, move_tells}
use Rattle.sp_filed.specs.declared.sizes.Sizes.{Sizes}
use Rattle.sp_filed.specs.Sizes.{IsMoveOf}
use Rattle.sp_filed.specs.Sampled.{TellsSome, StopsInMoves, IsUnseenMove, parent_number}
use Rattle.sp_filed.proofs.Beliefs.{weights_sym, next_trans}
use Rattle.sp_filed.proofs.LineLaws.{next_line}

pub moves_of_form : (s : Sizes) (xs : List (ℕ × ℕ)) → IsSmall s.actions → IsSmall s.joint → AllByRecursion (IsParentMove s.actions s.joint) xs → AllByRecursion (IsMoveOf s) xs
moves_of_form s [] few less all = tt
moves_of_form s (x ∷ xs) few less all = ((all.0, (omega (arith, all.0.0, few), omega (arith, all.0.1, less))), moves_of_form s xs few less all.1)

pub line_of_move_lacks : (s : Sizes) (x : ℕ × ℕ) → IsMoveOf s x → Lacks 10 (belief_line x)
line_of_move_lacks s x good = move_lacks x good.1

pub line_of_move_tells : (s : Sizes) (x y : ℕ × ℕ) → IsMoveOf s x → IsMoveOf s y → belief_line x ≡ belief_line y → x ≡ y
line_of_move_tells s x y a b e = move_tells x y a.1 b.1 e

next_sym : (m : problems.Model) (o r : Option Weights) → NextAgree m o r → NextAgree m r o
next_sym m None None h = tt
next_sym m (Some u) (Some v) h = weights_sym m u v h
next_sym m None (Some v) h = absurd h
next_sym m (Some u) None h = absurd h

-- ---- the moves of lists
module _ (p : Parts) (d : theory.Sample) where
  pub same_moves : (xs rs : List Sample) (tail : List (ℕ × ℕ)) (j : ℕ) → j < length rs → map move_of xs ≡ map move_of rs ++ tail
      → ((get_or (map (sample_of p) xs) j d).action ≡ (get_or (map (sample_of p) rs) j d).action) × ((get_or (map (sample_of p) xs) j d).observation ≡ (get_or (map (sample_of p) rs) j d).observation)
  same_moves xs [] tail j less e = absurd (omega (arith, less))
  same_moves [] (r ∷ rs) tail j less e = cc
  same_moves (x ∷ xs) (r ∷ rs) tail zero less e = let first : move_of x ≡ move_of r = cc e in (ap (λ (z : ℕ × ℕ). z.0) first, ap (λ (z : ℕ × ℕ). z.1) first)
  same_moves (x ∷ xs) (r ∷ rs) tail (suc j) less e = let rest : map move_of xs ≡ map move_of rs ++ tail = cc e in same_moves xs rs tail j (omega (arith, less)) rest

  next_move : (xs rs : List Sample) (move : ℕ × ℕ) (tail : List (ℕ × ℕ)) → map move_of xs ≡ map move_of rs ++ (move ∷ tail)
      → ((get_or (map (sample_of p) xs) (length rs) d).action ≡ move.0) × ((get_or (map (sample_of p) xs) (length rs) d).observation ≡ move.1)
  next_move [] [] move tail e = cc
  next_move (x ∷ xs) [] move tail e = let first : move_of x ≡ move = cc e in (ap (λ (z : ℕ × ℕ). z.0) first, ap (λ (z : ℕ × ℕ). z.1) first)
  next_move [] (r ∷ rs) move tail e = cc
  next_move (x ∷ xs) (r ∷ rs) move tail e = let rest : map move_of xs ≡ map move_of rs ++ (move ∷ tail) = cc e in next_move xs rs move tail rest

-- ---- samples that agree
module _ (m : problems.Model) (depth : ℕ) (xs rs : List theory.Sample) (a : theory.AreSamplesOf m depth xs) (b : theory.AreSamplesOf m depth rs) (within : length rs ≤ length xs)
    (same : (j : ℕ) → suc j < length rs → ((theory.sample_at m xs (suc j)).action ≡ (theory.sample_at m rs (suc j)).action) × ((theory.sample_at m xs (suc j)).observation ≡ (theory.sample_at m rs (suc j)).observation)) where
  -- the next weights of the second list's samples after what agrees with the first list's parent
  follows : (v w : Weights) (x y : theory.Sample) → x.action ≡ y.action → x.observation ≡ y.observation → WeightsAgree m v w → theory.IsNextSample m v x → theory.IsNextSample m w y → WeightsAgree m x.weights y.weights
  follows v w x y action observation agree f g =
      let moved : NextAgree m (next_weights m w y.action (point_of m.sight_sizes y.observation)) (Some x.weights) =
      subst (λ k. NextAgree m (next_weights m w k (point_of m.sight_sizes y.observation)) (Some x.weights)) action
      (subst (λ k. NextAgree m (next_weights m w x.action (point_of m.sight_sizes k)) (Some x.weights)) observation
      (next_trans m _ _ _ (next_sym m _ _ (next_agrees m v w x.action (point_of m.sight_sizes x.observation) agree)) f.next)) in
      next_trans m (Some x.weights) (next_weights m w y.action (point_of m.sight_sizes y.observation)) (Some y.weights) (next_sym m _ (Some x.weights) moved) g.next

  pub agree_at : (j : ℕ) → j < length rs → WeightsAgree m (theory.sample_at m xs j).weights (theory.sample_at m rs j).weights
  agree_at zero less = λ st at. (a.first (omega (arith, less, within))).weights st at ∙ sym ((b.first less).weights st at)
  agree_at (suc j) less =
      let move = same j less in
      follows (theory.parent_weights m depth j (theory.sample_at m xs j).weights) (theory.parent_weights m depth j (theory.sample_at m rs j).weights) (theory.sample_at m xs (suc j)) (theory.sample_at m rs (suc j))
      move.0 move.1 (by_test (eqb (j % depth) 0) (agree_at j (omega (arith, less)))) (a.later j (omega (arith, less, within))) (b.later j less)
    where
      by_test : (t : Bool) → WeightsAgree m (theory.sample_at m xs j).weights (theory.sample_at m rs j).weights
          → WeightsAgree m (cond t (initial_weights m) (theory.sample_at m xs j).weights) (cond t (initial_weights m) (theory.sample_at m rs j).weights)
      by_test true agree = λ st at. refl
      by_test false agree = agree

  -- where the first list goes on, the next weights after the second list's parent are there
  pub seen_next : (k : ℕ) → length rs ≡ suc k → suc k < length xs → (action observation : ℕ) → (theory.sample_at m xs (suc k)).action ≡ action → (theory.sample_at m xs (suc k)).observation ≡ observation
      → next_weights m (theory.sample_at m rs (parent_number depth k)).weights action (point_of m.sight_sizes observation) ≡ None → ⊥
  seen_next k count more action observation is other unseen =
      let next = a.later k more in
      let here : NextAgree m (next_weights m (theory.parent_weights m depth k (theory.sample_at m xs k).weights) action (point_of m.sight_sizes observation)) (Some (theory.sample_at m xs (suc k)).weights) =
      subst (λ n. NextAgree m (next_weights m (theory.parent_weights m depth k (theory.sample_at m xs k).weights) n (point_of m.sight_sizes observation)) (Some (theory.sample_at m xs (suc k)).weights)) is
      (subst (λ n. NextAgree m (next_weights m (theory.parent_weights m depth k (theory.sample_at m xs k).weights) (theory.sample_at m xs (suc k)).action (point_of m.sight_sizes n)) (Some (theory.sample_at m xs (suc k)).weights)) other next.next) in
      let parents = next_agrees m (theory.sample_at m rs (parent_number depth k)).weights (theory.parent_weights m depth k (theory.sample_at m xs k).weights) action (point_of m.sight_sizes observation)
      (by_test (eqb (k % depth) 0)) in
      subst (λ o. NextAgree m o (Some (theory.sample_at m xs (suc k)).weights)) unseen (next_trans m _ _ _ parents here)
    where
      by_test : (t : Bool) → WeightsAgree m (theory.sample_at m rs (cond t 0 k)).weights (cond t (initial_weights m) (theory.sample_at m xs k).weights)
      by_test true = (b.first (omega (arith, count))).weights
      by_test false = λ st at. sym (agree_at k (omega (arith, count)) st at)

-- ---- where more samples are there, the next weights are seen
module _ (p : Parts) (depth : ℕ) where
  pub seen_further : (xs : List Sample) → theory.AreSamplesOf (problem p) depth (map (sample_of p) xs) → (ys : List Sample) (k : ℕ) (move : ℕ × ℕ) (more : List (ℕ × ℕ)) (parent : Sample) → length ys ≡ suc k → length ys < length xs → theory.AreSamplesOf (problem p) depth (map (sample_of p) ys)
      → moves_of xs ≡ moves_of ys ++ (move ∷ more) → slice_get ys (parent_number depth k) ≡ Some parent → next_weights (problem p) (sample_of p parent).weights move.0 (point_of (problem p).sight_sizes move.1) ≡ None → ⊥
  seen_further [] a ys k move more parent sizes less b moves stands unseen = omega (arith, less)
  seen_further (x ∷ xs) a [] k move more parent sizes less b moves stands unseen = omega (arith, sizes)
  seen_further (x ∷ xs) a (y ∷ ys) k move more parent sizes less b moves stands unseen =
      let few : length ys ≡ k = omega (arith, sizes) in
      let at = next_move p (theory.first_sample (problem p)) xs ys move more moves in
      let is : sample_of p parent ≡ theory.sample_at (problem p) (map (sample_of p) (y ∷ ys)) (parent_number depth k) =
      sym (get_or-map (sample_of p) (y ∷ ys) (parent_number depth k) parent _ (slice_get_within (y ∷ ys) (parent_number depth k) parent stands) ∙ ap (sample_of p) (get_or_from_slice_get (y ∷ ys) (parent_number depth k) parent parent stands)) in
      seen_next (problem p) depth (map (sample_of p) (x ∷ xs)) (map (sample_of p) (y ∷ ys)) a b (omega (arith, less, length-map xs (sample_of p), length-map ys (sample_of p)))
      (λ j short. same_moves p (theory.first_sample (problem p)) xs ys (move ∷ more) j (omega (arith, short, length-map ys (sample_of p))) moves)
      k (omega (arith, few, length-map ys (sample_of p))) (omega (arith, few, less, length-map xs (sample_of p))) move.0 move.1
      (subst (λ n. (get_or (map (sample_of p) xs) n (theory.first_sample (problem p))).action ≡ move.0) few at.0)
      (subst (λ n. (get_or (map (sample_of p) xs) n (theory.first_sample (problem p))).observation ≡ move.1) few at.1)
      (subst (λ (z : theory.Sample). next_weights (problem p) z.weights move.0 (point_of (problem p).sight_sizes move.1) ≡ None) is unseen)

-- ---- the lines of the beliefs
module _ (p : Parts) (s : Sizes) (depth : ℕ) (xs : List Sample) (good : AllByRecursion (IsMoveOf s) (moves_of xs)) (count : length xs ≡ s.beliefs) (sampled : theory.AreSamplesOf (problem p) depth (map (sample_of p) xs)) where
  found : (us text : List ℕ) (left : ℕ) → lines_of belief_line (moves_of xs) ++ us ≡ text → (before : TellsSome p s depth text left)
      → (x : ℕ × ℕ) × (more : List (ℕ × ℕ)) × IsMoveOf s x × (moves_of xs ≡ moves_of before.read ++ (x ∷ more)) × (before.rest ≡ belief_line x ++ (10 ∷ (lines_of belief_line more ++ us)))
  found us text left e before = next_line belief_line (IsMoveOf s) (line_of_move_lacks s) (line_of_move_tells s) (moves_of xs) (moves_of before.read) us before.rest
      (fewer xs before.read before.some (omega (arith, before.fewer, count))) good before.sampled.moves (e ∙ before.is)
    where
      fewer : (xs ys : List Sample) → 0 < length ys → length ys < length xs → length (moves_of ys) < length (moves_of xs)
      fewer [] ys some less = absurd (omega (arith, less))
      fewer (x ∷ xs) [] some less = absurd (omega (arith, some))
      fewer (x ∷ xs) (y ∷ ys) some less = omega (arith, less, length-map xs move_of, length-map ys move_of)

  pub no_stop_in_moves : (us text : List ℕ) (left : ℕ) → lines_of belief_line (moves_of xs) ++ us ≡ text → StopsInMoves p s depth text left → ⊥
  no_stop_in_moves us text left e stops =
      let next = found us text left e stops.before in
      stops.none (next.0, lines_of belief_line next.1 ++ us, next.2, next.4)

  pub no_unseen_move : (us text : List ℕ) (left : ℕ) → lines_of belief_line (moves_of xs) ++ us ≡ text → IsUnseenMove p s depth text left → ⊥
  no_unseen_move us text left e stops =
      let next = found us text left e stops.before in
      let cut = cut_at 10 (belief_line next.0) (belief_line stops.move) (lines_of belief_line next.1 ++ us) stops.more (line_of_move_lacks s next.0 next.2) (line_of_move_lacks s stops.move stops.good) (sym next.4 ∙ stops.is) in
      let same : next.0 ≡ stops.move = line_of_move_tells s next.0 stops.move next.2 stops.good cut.0 in
      seen_further p depth xs sampled stops.before.read stops.k stops.move next.1 stops.parent stops.count (omega (arith, stops.before.fewer, count)) stops.before.sampled.of_model
      (next.3 ∙ ap (λ z. moves_of stops.before.read ++ (z ∷ next.1)) same) stops.stands stops.unseen
