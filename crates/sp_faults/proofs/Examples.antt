-- Wrong runs and logs, worked out.
use Rattle.std.proofs.Common.{List, [], ◌∷◌, refl, arith, inl, inr}
use Rattle.sp_theory.specs.Beliefs.{initial_weights}
use Rattle.sp_theory.specs.Book.{Task, publish, end, opening}
use Rattle.sp_theory.specs.ExampleModels.{tiger}
use Rattle.sp_theory.specs.Logs.{told, observe, closing, MayEnter, after_entry, opening_session, IsLog, session_after}
use Rattle.sp_theory.specs.Runs.{IsHistory, replay}
use Rattle.sp_theory.specs.Values.{Edition, leaf_member}
use Rattle.sp_faults.specs.Clauses as clause
use Rattle.sp_faults.specs.RunFaults.{EventBreaks, IsWrongRun}
use Rattle.sp_faults.specs.LogFaults.{EntryBreaks, IsWrongLog}

-- one stage of the tiger problem for its initial belief
abbrev task : Task
task = record { model = tiger; beliefs = 1; samples = λ k. initial_weights tiger; stages = 1 }

-- a run of no events has no end
no_events : IsWrongRun task [] 0 clause.unfinished
unfolding IsHistory replay opening
no_events = record { within = omega arith; history = tt; fault = (refl, refl) }

-- nothing may be published before a backup was settled, though the events behind it are wrong too
published_first : IsWrongRun task (publish ∷ end ∷ end ∷ []) 0 clause.publish
unfolding IsHistory replay opening EventBreaks
published_first = record {
  within = omega arith;
  history = tt;
  fault = inr ((λ done. absurd (cc)), inr ((λ x. x), inr ((λ x. x), inl (refl, λ up. let e = up 0 (omega arith) in absurd (cc)))));
}

-- a run of two editions, of one member each
abbrev two_editions : List Edition
two_editions = (leaf_member tiger ∷ []) ∷ (leaf_member tiger ∷ []) ∷ []

-- a log of no entries is not closed
no_entries : IsWrongLog tiger two_editions [] 0 clause.closing
unfolding IsLog session_after opening_session
no_entries = record { within = omega arith; log = tt; fault = (refl, refl) }

-- told of an older edition than before
older : IsWrongLog tiger two_editions (told 1 ∷ told 0 ∷ []) 1 clause.older
unfolding IsLog session_after opening_session MayEnter after_entry EntryBreaks
older = record {
  within = omega arith;
  log = ((refl, omega arith, omega arith), tt);
  fault = inr ((λ done. absurd (cc)), inr ((λ past. absurd (omega (arith, past))), inl (refl, omega arith)));
}

-- an observation to which no answer was given
unasked : IsWrongLog tiger two_editions (observe 0 ∷ []) 0 clause.belief
unfolding IsLog session_after opening_session EntryBreaks
unasked = record {
  within = omega arith;
  log = tt;
  fault = inr ((λ done. absurd (cc)), inr ((λ x. x), inr ((λ x. x), inr ((λ x. x), inr ((λ x. x), inl (refl, refl))))));
}

-- the closing answer on another edition than the last
closed_early : IsWrongLog tiger two_editions (closing 0 0 0 ∷ []) 0 clause.closing
unfolding IsLog session_after opening_session EntryBreaks
closed_early = record { within = omega arith; log = tt; fault = inl (refl, inr (λ last. absurd (cc))) }
