-- A text stops to be as the form needs behind its model in one place, and in one way.
use Rattle.std.proofs.Common.{◌≡◌, ℕ, ◌<◌, ◌≤◌, List, [], ◌∷◌, ◌++◌, length, Bool, ap, sym, ◌∙◌, append_assoc, arith, subst, inl, inr, ⊎_elim}
use Rattle.std.specs.List.{AllByRecursion}
use Rattle.std.proofs.lemmas.Bool.{cases_lt}
use Rattle.std.proofs.lemmas.List.{length-append}
use Rattle.sp_model.specs.declared.parts.Parts.{Parts}
use Rattle.sp_value.specs.declared.tasks.Options.{Options}
use Rattle.sp_lines.specs.Lines.{lines_of}
use Rattle.sp_planfile.specs.Contents.{moves_of}
use Rattle.sp_planfile.specs.PlanText.{belief_line}
use Rattle.sp_planfile.specs.Form.{AreInRange}
use Rattle.sp_planfile.proofs.Sections.{cut_at, lines_told}
use Rattle.sp_planfile.proofs.OptionTexts.{options_told}
use Rattle.sp_filed.specs.declared.sizes.Sizes.{Sizes}
use Rattle.sp_filed.specs.Sizes.{IsMoveOf}
use Rattle.sp_filed.specs.Sampled.{TellsSome, StopsInMoves, IsUnseenMove}
use Rattle.sp_filed.specs.Tails.{sizes_for, StopsBehindMoves, StopsBehindOptions, StopsBehindModel, IsUnseenBehindModel}
use Rattle.sp_filed.proofs.Readings.{moves_count}
use Rattle.sp_filed.proofs.LineLaws.{lines_prefix}
use Rattle.sp_filed.proofs.MoveLaws.{line_of_move_lacks, line_of_move_tells, seen_further, no_stop_in_moves, no_unseen_move}
use Rattle.sp_filed.proofs.TailLaws.{behind_moves_once}

module _ (p : Parts) (s : Sizes) (depth : ℕ) (text : List ℕ) where
  -- of two beginnings of the beliefs the longer one goes on where the shorter one ends
  moves_prefix : (left right : ℕ) (a : TellsSome p s depth text left) (b : TellsSome p s depth text right) → length b.read ≤ length a.read
      → (more : List (ℕ × ℕ)) × AllByRecursion (IsMoveOf s) more × (moves_of a.read ≡ moves_of b.read ++ more) × (b.rest ≡ lines_of belief_line more ++ a.rest)
  moves_prefix left right a b fewer =
      lines_prefix belief_line (IsMoveOf s) (line_of_move_lacks s) (line_of_move_tells s) (moves_of a.read) (moves_of b.read) a.rest b.rest
      (omega (arith, fewer, moves_count a.read a.some, moves_count b.read b.some)) a.sampled.moves b.sampled.moves (sym a.is ∙ b.is)

  -- no belief that is there is unseen
  seen_where_read : (left right : ℕ) (a : TellsSome p s depth text left) (u : IsUnseenMove p s depth text right) → length u.before.read < length a.read → ⊥
  seen_where_read left right a u fewer =
      let found = moves_prefix left right a u.before (omega (arith, fewer)) in
      by_case found.0 found.1 found.2 found.3 (omega (arith, fewer, moves_count a.read a.some, moves_count u.before.read u.before.some, ap length found.2, length-append (moves_of u.before.read) found.0))
    where
      by_case : (more : List (ℕ × ℕ)) → AllByRecursion (IsMoveOf s) more → moves_of a.read ≡ moves_of u.before.read ++ more → u.before.rest ≡ lines_of belief_line more ++ a.rest → 0 < length more → ⊥
      by_case [] all moves is some = omega (arith, some)
      by_case (x ∷ more) all moves is some =
          let cut = cut_at 10 (belief_line x) (belief_line u.move) (lines_of belief_line more ++ a.rest) u.more (line_of_move_lacks s x all.0) (line_of_move_lacks s u.move u.good)
          (sym (is ∙ append_assoc (belief_line x) (10 ∷ lines_of belief_line more) a.rest) ∙ u.is) in
          let same : x ≡ u.move = line_of_move_tells s x u.move all.0 u.good cut.0 in
          seen_further p depth a.read a.sampled.of_model u.before.read u.k u.move more u.parent u.count fewer u.before.sampled.of_model (moves ∙ ap (λ z. moves_of u.before.read ++ (z ∷ more)) same) u.stands u.unseen

  in_moves_once : (left right : ℕ) → StopsInMoves p s depth text left → StopsInMoves p s depth text right → left ≡ right
  in_moves_once left right a b = ⊎_elim (λ less. below left right a b (omega (arith, less))) (λ more. sym (below right left b a more)) (cases_lt (length b.before.read) (length a.before.read))
    where
      below : (left right : ℕ) (a : StopsInMoves p s depth text left) (b : StopsInMoves p s depth text right) → length b.before.read ≤ length a.before.read → left ≡ right
      below left right a b fewer = let found = moves_prefix left right a.before b.before fewer in by_case found.0 found.1 found.3
        where
          by_case : (more : List (ℕ × ℕ)) → AllByRecursion (IsMoveOf s) more → b.before.rest ≡ lines_of belief_line more ++ a.before.rest → left ≡ right
          by_case [] all is = a.before.bytes ∙ ap length (sym is) ∙ sym b.before.bytes
          by_case (x ∷ more) all is = absurd (b.none (x, lines_of belief_line more ++ a.before.rest, all.0, is ∙ append_assoc (belief_line x) (10 ∷ lines_of belief_line more) a.before.rest))

  pub unseen_once : (left right : ℕ) → IsUnseenMove p s depth text left → IsUnseenMove p s depth text right → left ≡ right
  unseen_once left right u v = ⊎_elim (λ less. absurd (seen_where_read left right u.before v less)) (λ more. not_less more) (cases_lt (length v.before.read) (length u.before.read))
    where
      same_place : length u.before.read ≡ length v.before.read → left ≡ right
      same_place same =
          let found = moves_prefix left right u.before v.before (omega (arith, same)) in
          by_case found.0 found.3 (omega (arith, same, moves_count u.before.read u.before.some, moves_count v.before.read v.before.some, ap length found.2, length-append (moves_of v.before.read) found.0))
        where
          by_case : (more : List (ℕ × ℕ)) → v.before.rest ≡ lines_of belief_line more ++ u.before.rest → length more ≡ 0 → left ≡ right
          by_case [] is none = u.before.bytes ∙ ap length (sym is) ∙ sym v.before.bytes
          by_case (x ∷ more) is none = absurd (omega (arith, none))

      not_less : length u.before.read ≤ length v.before.read → left ≡ right
      not_less more = ⊎_elim (λ less. absurd (seen_where_read right left v.before u less)) (λ other. same_place (omega (arith, more, other))) (cases_lt (length u.before.read) (length v.before.read))

  -- where an unseen belief stands, the line is that of a belief
  pub not_both : (left right : ℕ) → StopsInMoves p s depth text left → IsUnseenMove p s depth text right → ⊥
  not_both left right a u = ⊎_elim (λ less. seen_where_read left right a.before u less) (λ more. at_least more) (cases_lt (length u.before.read) (length a.before.read))
    where
      by_case : (more : List (ℕ × ℕ)) → AllByRecursion (IsMoveOf s) more → a.before.rest ≡ lines_of belief_line more ++ u.before.rest → ⊥
      by_case [] all is = a.none (u.move, u.more, u.good, is ∙ u.is)
      by_case (x ∷ more) all is = a.none (x, lines_of belief_line more ++ u.before.rest, all.0, is ∙ append_assoc (belief_line x) (10 ∷ lines_of belief_line more) u.before.rest)

      at_least : length a.before.read ≤ length u.before.read → ⊥
      at_least more = let found = moves_prefix right left u.before a.before more in by_case found.0 found.1 found.3

-- ---- behind the options
module _ (has_values : Bool) (p : Parts) (o : Options) (range : AreInRange o) (text : List ℕ) where
  abbrev s : Sizes
  s = sizes_for p o

  behind_options_once : (left right : ℕ) → StopsBehindOptions has_values p o text left → StopsBehindOptions has_values p o text right → left ≡ right
  behind_options_once left right (inl a) (inl b) = in_moves_once p s o.depth text left right a b
  behind_options_once left right (inl a) (inr (xs, rest, are, count, is, stops)) = absurd (no_stop_in_moves p s o.depth xs are.moves count are.of_model rest text left (sym is) a)
  behind_options_once left right (inr (xs, rest, are, count, is, stops)) (inl b) = absurd (no_stop_in_moves p s o.depth xs are.moves count are.of_model rest text right (sym is) b)
  behind_options_once left right (inr (xs, rest, are, count, is, stops)) (inr (ys, more, these, size, e, again)) =
      let counts : length (moves_of xs) ≡ length (moves_of ys) = omega (arith, count, size, moves_count xs (omega (arith, count, range.some_beliefs)), moves_count ys (omega (arith, size, range.some_beliefs))) in
      let lines = lines_told belief_line (IsMoveOf s) (line_of_move_lacks s) (line_of_move_tells s) (moves_of xs) (moves_of ys) rest more counts are.moves these.moves (sym is ∙ e) in
      behind_moves_once s has_values rest left right stops (subst (λ l. StopsBehindMoves has_values s l right) (sym lines.1) again)

  not_both_behind_options : (left right : ℕ) → StopsBehindOptions has_values p o text left → IsUnseenMove p s o.depth text right → ⊥
  not_both_behind_options left right (inl a) u = not_both p s o.depth text left right a u
  not_both_behind_options left right (inr (xs, rest, are, count, is, stops)) u = no_unseen_move p s o.depth xs are.moves count are.of_model rest text right (sym is) u

-- ---- behind the model
module _ (has_values : Bool) (p : Parts) (text : List ℕ) where
  pub behind_model_once : (left right : ℕ) → StopsBehindModel has_values p text left → StopsBehindModel has_values p text right → left ≡ right
  behind_model_once left right (inl a) (inl b) = a.1 ∙ sym b.1
  behind_model_once left right (inl a) (inr (o, rest, good, is, stops)) = absurd (a.0 (o, rest, good, is))
  behind_model_once left right (inr (o, rest, good, is, stops)) (inl b) = absurd (b.0 (o, rest, good, is))
  behind_model_once left right (inr (o, rest, good, is, stops)) (inr (r, more, fine, e, again)) =
      let told = options_told o r rest more good fine (sym is ∙ e) in
      behind_options_once has_values p o good rest left right stops
      (subst (λ x. StopsBehindOptions has_values p x rest right) (sym told.0) (subst (λ l. StopsBehindOptions has_values p r l right) (sym told.1) again))

  pub unseen_behind_model_once : (left right : ℕ) → IsUnseenBehindModel p text left → IsUnseenBehindModel p text right → left ≡ right
  unseen_behind_model_once left right (o, rest, good, is, stops) (r, more, fine, e, again) =
      let told = options_told o r rest more good fine (sym is ∙ e) in
      unseen_once p (sizes_for p o) o.depth rest left right stops
      (subst (λ (x : Options). IsUnseenMove p (sizes_for p x) x.depth rest right) (sym told.0) (subst (λ l. IsUnseenMove p (sizes_for p r) r.depth l right) (sym told.1) again))

  pub not_both_behind_model : (left right : ℕ) → StopsBehindModel has_values p text left → IsUnseenBehindModel p text right → ⊥
  not_both_behind_model left right (inl a) (r, more, fine, e, again) = a.0 (r, more, fine, e)
  not_both_behind_model left right (inr (o, rest, good, is, stops)) (r, more, fine, e, again) =
      let told = options_told o r rest more good fine (sym is ∙ e) in
      not_both_behind_options has_values p o good rest left right stops
      (subst (λ (x : Options). IsUnseenMove p (sizes_for p x) x.depth rest right) (sym told.0) (subst (λ l. IsUnseenMove p (sizes_for p r) r.depth l right) (sym told.1) again))
