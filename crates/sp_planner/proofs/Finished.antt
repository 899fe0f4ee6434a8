-- The finished run of one thread.
use Rattle.std.proofs.Common.{◌≡◌, ◌∙◌, sym, ap, refl, subst, arith, ℕ, zero, suc, ◌*◌, ◌<◌, ◌≤◌, List, length, get_or, replicate, Bool, true, false}
use Rattle.std.proofs.Math.Nat.{mul-le-mul_left}
use Rattle.std.proofs.lemmas.List.FromFn.{length-map-range_with_len}
use Rattle.sp_theory.specs.Book.{Event, opening}
use Rattle.sp_theory.specs.Runs.{replay}
use Rattle.sp_theory.specs.OneThread.{one_thread}
use Rattle.sp_theory.proofs.OneThread.{prompt_from_opening}
use Rattle.sp_theory.proofs.Ends.{one_thread_ends, one_thread_completes}
use Rattle.sp_theory.proofs.Prompt.{stages_published}
use Rattle.sp_theory.proofs.Sound.{sound_opening}
use Rattle.sp_theory.proofs.Tidy.{tidy_opening}
use Rattle.sp_theory.proofs.SoundRuns.{run_is_sound}
use Rattle.sp_theory.proofs.RecordedBackups.{all_close}
use Rattle.sp_model.proofs.RowLaw.{problem_lawful}
use Rattle.sp_value.specs.declared.tasks.Options.{Options}
use Rattle.sp_value.specs.Tasks.{TaskParts, IsTask, task_of}
use Rattle.sp_core.specs.Books.{BookParts, IsBook, state_of}
use Rattle.sp_core.specs.Marks.{marks_of}
use Rattle.sp_core.specs.Opening.{first_parts}
use Rattle.sp_sampler.specs.Words.{word_at, stream_of_seed}
use Rattle.sp_planner.specs.Laws.{FinishedBooksArePlanned, FinishedBooksAreTrusted}
use Rattle.sp_planner.specs.Planned.{next_seed, picking_words, IsTrusted, IsPlanned}
use Rattle.sp_planner.specs.Turns.{IsRun}
use Rattle.sp_planner.proofs.SameMarks.{one_thread_same}

-- what one thread plans may be trusted, with words enough
trusted : (t : TaskParts) → IsTask t → (pruning : Bool) (words : List ℕ) → t.options.beliefs * t.options.stages ≤ length words
    → IsTrusted (task_of t) (one_thread (task_of t) pruning (opening (task_of t)) (λ k. false) words)
trusted t is pruning words enough =
    let lawful = problem_lawful t.model is.model in
    let some : 0 < t.options.beliefs = let least = is.some_beliefs in omega (arith, least) in
    let stages : 0 < t.options.stages = let least = is.some_stages in omega (arith, least) in
    let events = one_thread (task_of t) pruning (opening (task_of t)) (λ k. false) words in
    let legal = one_thread_ends (task_of t) lawful some stages pruning (λ k. false) words enough in
    let prompt = (prompt_from_opening (task_of t) lawful some stages pruning (λ k. false) words).1 in
    record {
      legal = legal;
      prompt = prompt;
      sound = run_is_sound (task_of t) lawful some events legal.0;
      close = all_close (task_of t) lawful some (opening (task_of t)) events (sound_opening (task_of t)) (tidy_opening (task_of t)) legal.0;
      published = (stages_published (task_of t) events legal.0 prompt).1 legal.1;
    }

-- as many words as are drawn
enough_words : (o : Options) → o.beliefs * o.stages ≤ length (picking_words o)
enough_words o = let long = length-map-range_with_len (word_at (stream_of_seed (next_seed o.seed))) 0 (o.beliefs * o.stages) in omega (arith, long)

marks_down : (m j : ℕ) → get_or (replicate m false) j false ≡ false
marks_down zero j = refl
marks_down (suc m) zero = refl
marks_down (suc m) (suc j) = marks_down m j

-- from the opening book on
events_opened : (t : TaskParts) (o : Options) (d : BookParts) → IsRun o.prune (first_parts t) (picking_words o) d → d.history ≡ one_thread (task_of t) o.prune (opening (task_of t)) (λ k. false) (picking_words o)
unfolding replay
events_opened t o d run =
    run.history ∙ one_thread_same (task_of t) o.prune (opening (task_of t)) (marks_of (replicate t.options.beliefs false)) (λ k. false) (λ k less. marks_down t.options.beliefs k) (picking_words o)

pub opened_planned : FinishedBooksArePlanned
opened_planned p o chooser b d is first run =
    let t = b.task in
    let from : IsRun o.prune (first_parts t) (picking_words o) d = subst (λ (x : BookParts). IsRun o.prune x (picking_words o) d) first run in
    let events = events_opened t o d from in
    let enough : t.options.beliefs * t.options.stages ≤ length (picking_words o) = let most = enough_words o in let same = ap (λ (x : Options). x.beliefs * x.stages) is.options in omega (arith, most, same) in
    let may : IsTrusted (task_of t) d.history = subst (IsTrusted (task_of t)) (sym events) (trusted t is.is_task o.prune (picking_words o) enough) in
    subst (λ (u : TaskParts). IsPlanned p o chooser u d.history) (sym run.task) (record { task = is; run = events; trusted = may })

-- a book that was planned to its end is done
pub run_done : (pruning : Bool) (b d : BookParts) → IsBook b → IsRun pruning b (picking_words b.task.options) d → (state_of d).done ≡ true
run_done pruning b d is run =
    let t = b.task in
    let lawful = problem_lawful t.model is.task.model in
    let some : 0 < t.options.beliefs = let least = is.task.some_beliefs in omega (arith, least) in
    let counted = (stages_published (task_of t) b.history is.history is.prompt).0 in
    let most : t.options.beliefs * (state_of b).stages_left ≤ t.options.beliefs * t.options.stages = mul-le-mul_left t.options.beliefs (omega (arith, counted)) in
    let long = enough_words t.options in
    let legal = one_thread_completes (task_of t) lawful some b.history is.history is.turns pruning (marks_of b.taken) (picking_words t.options) (omega (arith, most, long)) in
    ap (λ (u : TaskParts). (replay (task_of u) (opening (task_of u)) d.history).done) run.task
    ∙ ap (λ (es : List Event). (replay (task_of t) (opening (task_of t)) es).done) run.history
    ∙ legal.1

-- a finished book, by whomever it was planned
pub finished_trusted : FinishedBooksAreTrusted
finished_trusted b is done =
    let t = task_of b.task in
    let lawful = problem_lawful b.task.model is.task.model in
    let some : 0 < b.task.options.beliefs = let least = is.task.some_beliefs in omega (arith, least) in
    record {
      legal = (is.history, done);
      prompt = is.prompt;
      sound = run_is_sound t lawful some b.history is.history;
      close = all_close t lawful some (opening t) b.history (sound_opening t) (tidy_opening t) is.history;
      published = (stages_published t b.history is.history is.prompt).1 done;
    }
