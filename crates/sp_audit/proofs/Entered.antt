-- What is found out of an entry.
use Rattle.std.proofs.Common.{◌≡◌, ◌≢◌, sym, ap, refl, arith, inl, inr, ℕ, suc, ◌<◌, ◌≤◌, List, length, true, false, Option, Some, None}
use Rattle.std.specs.Prelude.{is_some, unwrap_or}
use Rattle.sp_dd.specs.Func.{Func}
use Rattle.sp_theory.specs.Points.{count_of}
use Rattle.sp_theory.specs.Model.{Model}
use Rattle.sp_theory.specs.Values as theory
use Rattle.sp_theory.specs.Agreement.{WeightsAgree, NextAgree}
use Rattle.sp_theory.specs.Logs.{Entry, told, act, observe, unseen, closing, MayEnter, weights_after_observation, after_entry}
use Rattle.sp_theory.proofs.LogLemmas.{session_same}
use Rattle.sp_model.specs.declared.parts.Parts.{Parts}
use Rattle.sp_model.specs.Problem.{problem, sizes_of}
use Rattle.sp_model.specs.Links.{weights_of}
use Rattle.sp_faults.specs.Clauses as clause
use Rattle.sp_faults.specs.Clauses.{IsFirstClause, entry_clauses}
use Rattle.sp_faults.specs.LogFaults.{EntryBreaks}
use Rattle.sp_faults.proofs.LogLemmas.{is_answer}
use Rattle.sp_audit.specs.declared.clause.Clause.{Clause}
use Rattle.sp_audit.specs.declared.clause.Clause.TheVariants as clauses
use Rattle.sp_audit.specs.declared.seats.Seat.{Seat}
use Rattle.sp_audit.specs.Clauses.{clause_of}
use Rattle.sp_audit.specs.Seats.{session_of, IsReplaySeat, IsAnswerJudged, AreWeightsAfter}
use Rattle.sp_audit.specs.Entries.{IsEntryAllowed}

-- ---- next weights that were found
next_some : (m : Model) (o : Option theory.Weights) (w : theory.Weights) → NextAgree m o (Some w) → is_some o ≡ true
next_some m (Some v) w h = refl
next_some m None w h = absurd h

next_weights_agree : (m : Model) (o : Option theory.Weights) (w v : theory.Weights) → NextAgree m o (Some w) → WeightsAgree m w (unwrap_or o v)
next_weights_agree m (Some x) w v h = λ s p. sym (h s p)
next_weights_agree m None w v h = absurd h

pub known_observation : (p : Parts) (o : ℕ) → o < count_of (problem p).sight_sizes → o < count_of (sizes_of p.sights)
unfolding problem
known_observation p o h = h

pub known_in_problem : (p : Parts) (o : ℕ) → o < count_of (sizes_of p.sights) → o < count_of (problem p).sight_sizes
unfolding problem
known_in_problem p o h = h

module _ (p : Parts) (es : List theory.Edition) (s : Seat) where
  -- ---- an entry behind the closing answer
  pub over_wrong : (x : Entry) → s.closed ≡ true → IsFirstClause (EntryBreaks (problem p) es (session_of p s) x) entry_clauses clause.closing
  unfolding EntryBreaks
  over_wrong (told e) over = inl (refl, over)
  over_wrong (act e id action) over = inl (refl, over)
  over_wrong (observe o) over = inl (refl, over)
  over_wrong (unseen o) over = inl (refl, over)
  over_wrong (closing e id action) over = inl (refl, inl over)

  module _ (going : s.closed ≡ false) where
    not_over : ¬ (s.closed ≡ true)
    not_over over = absurd (cc)

    -- ---- told
    pub told_past : (e : ℕ) → length es ≤ e → IsFirstClause (EntryBreaks (problem p) es (session_of p s) (told e)) entry_clauses clause.edition
    unfolding EntryBreaks
    told_past e past = inr (not_over, inl (refl, past))

    pub told_older : (e : ℕ) → e < length es → e < s.newest → IsFirstClause (EntryBreaks (problem p) es (session_of p s) (told e)) entry_clauses clause.older
    unfolding EntryBreaks
    told_older e less older = inr (not_over, inr ((λ past. absurd (omega (arith, less, past))), inl (refl, older)))

    pub told_enters : IsReplaySeat p s → (e : ℕ) → e < length es → s.newest ≤ e → IsEntryAllowed p es s (told e) (record s { newest = e })
    unfolding MayEnter after_entry
    told_enters known e less newer = record {
      may = (going, newer, less);
      known = record { shape = known.shape; acted = known.acted };
      agrees = session_same (problem p) _;
    }

    -- ---- answers
    pub act_wrong : (e id action : ℕ) (w : Clause) → IsAnswerJudged p es s e id action (Some w) → IsFirstClause (EntryBreaks (problem p) es (session_of p s) (act e id action)) entry_clauses (clause_of w)
    unfolding EntryBreaks
    act_wrong e id action clauses.Edition past = inr (not_over, inl (refl, past))
    act_wrong e id action clauses.Older (less, older) = inr (not_over, inr ((λ past. absurd (omega (arith, less, past))), inl (refl, older)))
    act_wrong e id action clauses.Greatest (less, newer, other) = inr (not_over, inr ((λ past. absurd (omega (arith, less, past))), inr ((λ older. absurd (omega (arith, newer, older))), inl (refl, other))))
    act_wrong e id action clauses.Action (less, newer, is, other) =
        inr (not_over, inr ((λ past. absurd (omega (arith, less, past))), inr ((λ older. absurd (omega (arith, newer, older))), inr ((λ differs. differs is), inl (refl, other)))))
    act_wrong e id action w h = absurd h

    pub act_enters : IsReplaySeat p s → (e id action : ℕ) → IsAnswerJudged p es s e id action None → IsEntryAllowed p es s (act e id action) (record s { newest = e; acted = Some action })
    unfolding MayEnter after_entry
    act_enters known e id action (less, newer, is, does, own) = record {
      may = (going, newer, is_answer (problem p) es (session_of p s) e id action less is does);
      known = record { shape = known.shape; acted = own };
      agrees = session_same (problem p) _;
    }

    -- ---- the closing answer
    pub not_last : (e id action : ℕ) → suc e ≢ length es → IsFirstClause (EntryBreaks (problem p) es (session_of p s) (closing e id action)) entry_clauses clause.closing
    unfolding EntryBreaks
    not_last e id action other = inl (refl, inr other)

    module _ (e id action : ℕ) (last : suc e ≡ length es) where
      may_close : ¬ EntryBreaks (problem p) es (session_of p s) (closing e id action) clause.closing
      unfolding EntryBreaks
      may_close (inl over) = not_over over
      may_close (inr other) = other last

      pub closing_wrong : (w : Clause) → IsAnswerJudged p es s e id action (Some w) → IsFirstClause (EntryBreaks (problem p) es (session_of p s) (closing e id action)) entry_clauses (clause_of w)
      unfolding EntryBreaks
      closing_wrong clauses.Edition past = inr (may_close, inl (refl, past))
      closing_wrong clauses.Older (less, older) = inr (may_close, inr ((λ past. absurd (omega (arith, less, past))), inl (refl, older)))
      closing_wrong clauses.Greatest (less, newer, other) = inr (may_close, inr ((λ past. absurd (omega (arith, less, past))), inr ((λ older. absurd (omega (arith, newer, older))), inl (refl, other))))
      closing_wrong clauses.Action (less, newer, is, other) =
          inr (may_close, inr ((λ past. absurd (omega (arith, less, past))), inr ((λ older. absurd (omega (arith, newer, older))), inr ((λ differs. differs is), inl (refl, other)))))
      closing_wrong w h = absurd h

      pub closing_enters : IsReplaySeat p s → IsAnswerJudged p es s e id action None → IsEntryAllowed p es s (closing e id action) (record s { newest = e; closed = true })
      unfolding MayEnter after_entry
      closing_enters known (less, newer, is, does, own) = record {
        may = (going, newer, last, is_answer (problem p) es (session_of p s) e id action less is does);
        known = record { shape = known.shape; acted = known.acted };
        agrees = session_same (problem p) _;
      }

    -- ---- joint observations
    pub not_seen : (o : ℕ) → AreWeightsAfter p s o None → IsFirstClause (EntryBreaks (problem p) es (session_of p s) (observe o)) entry_clauses clause.belief
    unfolding EntryBreaks
    not_seen o none = inr (not_over, inr ((λ un. un), inr ((λ un. un), inr ((λ un. un), inr ((λ un. un), inl (refl, ap is_some none))))))

    pub observe_enters : IsReplaySeat p s → (o : ℕ) → o < count_of (sizes_of p.sights) → (w : Func) → AreWeightsAfter p s o (Some w) → IsEntryAllowed p es s (observe o) (record s { weights = w; acted = None })
    unfolding MayEnter after_entry
    observe_enters known o within w (shape, agrees) = record {
      may = (going, known_in_problem p o within, next_some (problem p) (weights_after_observation (problem p) (session_of p s) o) (weights_of p w) agrees);
      known = record { shape = shape; acted = tt };
      agrees = record { weights = next_weights_agree (problem p) (weights_after_observation (problem p) (session_of p s) o) (weights_of p w) _ agrees; newest = refl; acted = refl; closed = refl };
    }

    pub not_acted : (o : ℕ) → is_some s.acted ≡ false → IsFirstClause (EntryBreaks (problem p) es (session_of p s) (unseen o)) entry_clauses clause.belief
    unfolding EntryBreaks
    not_acted o none = inr (not_over, inr ((λ un. un), inr ((λ un. un), inr ((λ un. un), inr ((λ un. un), inl (refl, inl none))))))

    pub seen_though : (o : ℕ) (r : Option Func) → is_some r ≡ true → AreWeightsAfter p s o r → IsFirstClause (EntryBreaks (problem p) es (session_of p s) (unseen o)) entry_clauses clause.belief
    unfolding EntryBreaks
    seen_though o None some looked = absurd (cc)
    seen_though o (Some w) some (shape, agrees) = inr (not_over, inr ((λ un. un), inr ((λ un. un), inr ((λ un. un), inr ((λ un. un), inl (refl, inr (next_some (problem p) (weights_after_observation (problem p) (session_of p s) o) (weights_of p w) agrees)))))))

    pub unseen_enters : IsReplaySeat p s → (o : ℕ) → o < count_of (sizes_of p.sights) → is_some s.acted ≡ true → (r : Option Func) → is_some r ≡ false → AreWeightsAfter p s o r → IsEntryAllowed p es s (unseen o) s
    unfolding MayEnter after_entry
    unseen_enters known o within acted None none looked = record {
      may = (going, known_in_problem p o within, acted, ap is_some looked);
      known = known;
      agrees = session_same (problem p) _;
    }
    unseen_enters known o within acted (Some w) none looked = absurd (cc)
