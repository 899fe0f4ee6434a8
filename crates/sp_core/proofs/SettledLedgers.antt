-- A ledger after a settle that was planned.
use Rattle.std.proofs.Common.{◌≡◌, ◌≢◌, ◌∙◌, sym, ap, subst, refl, arith, ℕ, ◌+◌, ◌-◌, ◌<◌, ◌≤◌, List, [], ◌∷◌, ◌++◌, length, map, get_or, replicate, Bool, true, false, cond, eqb, Option, Some, None, option_map, inl, inr, length-append, append_assoc, append-nil}
use Rattle.std.specs.Prelude.{ℤ, All, AllPairs, MatchBool}
use Rattle.std.specs.List.{range_with_len}
use Rattle.std.specs.Arc.{arc_value}
use Rattle.std.proofs.lemmas.List.{map-append, length-map, length-replicate}
use Rattle.std.proofs.lemmas.List.Elements.{All-push, All-nil}
use Rattle.sp_theory.specs.Model.{IsLawful}
use Rattle.sp_theory.specs.Values as theory
use Rattle.sp_theory.specs.Book.{Task, Book, Event, publish, end, after_event}
use Rattle.sp_theory.specs.OneThread.{IsBetweenTurns, all_improved, due_events}
use Rattle.sp_theory.proofs.Agreement.{greatest_member_agrees}
use Rattle.sp_theory.proofs.Extremes.{holds_below_not}
use Rattle.sp_model.specs.Problem.{vector_of}
use Rattle.sp_model.proofs.RowLaw.{problem_lawful}
use Rattle.sp_value.specs.declared.editions.Member.{Member}
use Rattle.sp_value.specs.Tasks.{TaskParts, IsTask, task_of}
use Rattle.sp_value.specs.Editions.{EditionParts, IsMemberOf, member_of, members_in}
use Rattle.sp_value.specs.Candidates.{CandidateParts, IsCandidate}
use Rattle.sp_core.specs.declared.answers.Settled.{Settled}
use Rattle.sp_core.specs.declared.answers.Settled.TheVariants.{Added, Kept, Late, Over}
use Rattle.sp_ledger.specs.declared.flags.Choice.{Choice}
use Rattle.sp_ledger.specs.declared.flags.Choice.TheVariants.{Neither, New, Old}
use Rattle.sp_core.specs.declared.plans.Plan.{Plan}
use Rattle.sp_core.specs.declared.plans.Plan.TheVariants.{RecordOnly, EnterNew, EnterOld}
use Rattle.sp_ledger.specs.Accounts.{Account, IsAccount, raised_at, lifted_to, last_of, AreWorths}
use Rattle.sp_core.specs.Running.{IsRunning}
use Rattle.sp_ledger.specs.Choices.{by_choice}
use Rattle.sp_ledger.specs.Opening.{AreNumbered}
use Rattle.sp_ledger.proofs.Numbers.{numbered_more, down_at}
use Rattle.sp_core.specs.Books.{state_of}
use Rattle.sp_core.specs.Ledgers.{LedgerContents, parts_in, account_in, IsLedger, contents_with_event, with_member, is_last, contents_with_publication, entered_with}
use Rattle.sp_core.specs.Settling.{IsOurs, settle_of, events_for, answer_for, taken_after, IsSettled, IsSettledBy}
use Rattle.sp_core.specs.Plans.{is_up, IsDue, new_member, choice_for, IsGreatestAtBelief, IsSettlePlan, after_plan, answer_to}
use Rattle.sp_core.proofs.Running.{still_down, nothing_due, all_up, publication_due, end_due}
use Rattle.sp_ledger.proofs.Entering.{account_late, account_new, account_kept, book_chooses}
use Rattle.sp_ledger.proofs.Replaying.{latest_agrees}
use Rattle.sp_ledger.proofs.Changes.{raised_list, lifted_list}
use Rattle.sp_ledger.proofs.Ours.{own_exists, own_belief, own_backup, own_stepped}
use Rattle.sp_ledger.proofs.Distinct.{different_with, tidy_book, next_new, greatest_new}

-- a ledger that a settle with what is due has changed
pub record IsSettledLedger (c : LedgerContents) (d : CandidateParts) (e : LedgerContents) : Type 0 where
  pub ledger : IsLedger e
  pub task : e.task ≡ c.task
  pub history : e.events ≡ c.events ++ events_for (parts_in c) d
  pub editions : (more : List EditionParts) × (e.editions ≡ c.editions ++ more)
  pub taken : e.taken ≡ taken_after (parts_in c) d

-- an old member is chosen only where the flag is down
old_down : (r g l : Bool) → cond r (cond g New Neither) (cond l Old New) ≡ Old → r ≡ false
old_down true true l e = absurd (cc)
old_down true false l e = absurd (cc)
old_down false g l e = refl

module _ (c : LedgerContents) (ledger : IsLedger c) (going : c.done ≡ false) (d : CandidateParts) (is : IsCandidate d) (ours : IsOurs (parts_in c) d.base) where
  abbrev t : Task
  t = task_of c.task

  abbrev f : Account
  f = account_in c

  abbrev book : Book
  book = state_of (parts_in c)

  lawful : IsLawful t.model
  lawful = problem_lawful c.task.model ledger.task.model

  some : 0 < t.beliefs
  some = let least = ledger.task.some_beliefs in omega (arith, least)

  -- ---- ids
  pub different_new : AllPairs (λ (y z : Member). y.id ≢ z.id) (c.grown ++ new_member c d ∷ [])
  different_new = different_with c.task.model t.model c.grown book.grown ledger.running.replayed.account.grown (tidy_book t lawful some c.events f ledger.running.replayed).grown_apart (new_member c d) (next_new t lawful some c.events f ledger.running.replayed going)

  pub different_old : choice_for c d ≡ Old → (x : Member) → IsGreatestAtBelief c d.belief x → AllPairs (λ (y z : Member). y.id ≢ z.id) (c.grown ++ x ∷ [])
  different_old old x greatest =
      different_with c.task.model t.model c.grown book.grown ledger.running.replayed.account.grown (tidy_book t lawful some c.events f ledger.running.replayed).grown_apart x
      (λ k e less same. greatest_new t lawful some c.events f ledger.running.replayed going d.belief (own_belief c.task c.editions ledger.numbered d is ours) (old_down _ _ _ old) k e less
      (same ∙ ap (λ (y : theory.Member). y.id) greatest ∙ (greatest_member_agrees t.model (last_of f.editions) book.latest (t.samples d.belief) (t.samples d.belief) (latest_agrees t c.events f ledger.running.replayed) (λ s p. refl)).0))

  -- ---- the account
  within : d.belief < t.beliefs
  within = own_belief c.task c.editions ledger.numbered d is ours

  abbrev next : Book
  next = after_event t book (settle_of d)

  abbrev first : LedgerContents
  first = contents_with_event c (settle_of d)

  account_entered_is : (x : Member) → account_in (with_member first x)
      ≡ record f { records = c.records + 1; grown = f.grown ++ member_of c.task.model x ∷ []; improved = map (raised_at c.worths c.latest_values c.improved) (range_with_len 0 (length c.improved)); grown_values = map (lifted_to (eqb (length f.grown) 0) c.worths c.grown_values) (range_with_len 0 (length c.grown_values)) }
  account_entered_is x =
      let grown_is = map-append (member_of c.task.model) c.grown (x ∷ []) in
      let count_is = sym (length-map c.grown (member_of c.task.model)) in
      (λ i. let r : Account = record f { records = c.records + 1; grown = grown_is i; improved = map (raised_at c.worths c.latest_values c.improved) (range_with_len 0 (length c.improved)); grown_values = map (lifted_to (eqb (count_is i) 0) c.worths c.grown_values) (range_with_len 0 (length c.grown_values)) } in r)

  abbrev Enters : Member → Type 0
  Enters x = IsAccount t next (account_in (with_member first x))

  new_enters : choice_for c d ≡ New → AreWorths t (vector_of c.task.model d.vector) c.worths → Enters (new_member c d)
  new_enters chosen worths = subst (IsAccount t next) (sym (account_entered_is (new_member c d)))
      (account_new t c.events f ledger.running.replayed lawful some going d.belief d.base.number d.action d.links within (own_exists c.task c.editions ledger.numbered d.base ours) (own_backup c.task c.editions ledger.numbered d is ours) (vector_of c.task.model d.vector) (own_stepped c.task c.editions ledger.numbered d is ours) New chosen
      (member_of c.task.model (new_member c d)) c.worths worths _ (raised_list c.worths c.latest_values c.improved) _ (lifted_list (eqb (length f.grown) 0) c.worths c.grown_values) refl refl)

  old_enters : choice_for c d ≡ Old → (x : Member) → IsGreatestAtBelief c d.belief x → AreWorths t (vector_of c.task.model x.vector) c.worths → Enters x
  old_enters chosen x greatest worths = subst (IsAccount t next) (sym (account_entered_is x))
      (account_kept t c.events f ledger.running.replayed lawful some going d.belief d.base.number d.action d.links within (own_exists c.task c.editions ledger.numbered d.base ours) (own_backup c.task c.editions ledger.numbered d is ours) (vector_of c.task.model d.vector) (own_stepped c.task c.editions ledger.numbered d is ours) Old chosen
      (member_of c.task.model x) c.worths worths _ (raised_list c.worths c.latest_values c.improved) _ (lifted_list (eqb (length f.grown) 0) c.worths c.grown_values) refl greatest)

  record_enters : choice_for c d ≡ Neither → IsAccount t next (account_in first)
  record_enters chosen = account_late t c.events f ledger.running.replayed lawful some going d.belief d.base.number d.action d.links within (own_exists c.task c.editions ledger.numbered d.base ours) (own_backup c.task c.editions ledger.numbered d is ours) (vector_of c.task.model d.vector) (own_stepped c.task c.editions ledger.numbered d is ours) Neither chosen refl

  -- ---- nothing is due
  few : c.records + 1 ≤ length (c.events ++ settle_of d ∷ []) + 1
  few = let before = ledger.few in omega (arith, before, length-append c.events (settle_of d ∷ []))

  undue : (e : LedgerContents) → e.task ≡ c.task → e.events ≡ c.events ++ settle_of d ∷ [] → e.editions ≡ c.editions → e.taken ≡ c.taken → length e.worths ≡ length c.worths → e.records ≡ c.records + 1 → All (IsMemberOf e.task.model) e.grown
      → IsAccount t next (account_in e) → (j : ℕ) → j < t.beliefs → get_or e.improved j false ≡ false → IsSettledLedger c d e
  undue e task events editions taken worths records grown account j less down =
      let still = still_down t c.events f ledger.running lawful some going d.belief d.base.number d.action d.links within (own_exists c.task c.editions ledger.numbered d.base ours) (own_backup c.task c.editions ledger.numbered d is ours) (account_in e) account j less down in
      let (due, running) = nothing_due t c.events f ledger.running lawful some going d.belief d.base.number d.action d.links within (own_exists c.task c.editions ledger.numbered d.base ours) (own_backup c.task c.editions ledger.numbered d is ours) (account_in e) account j less down in
      record {
        ledger = record {
          task = subst IsTask (sym task) ledger.task;
          running = subst (λ (es : List Event). IsRunning (task_of e.task) es (account_in e)) (sym events) (subst (λ (u : TaskParts). IsRunning (task_of u) (c.events ++ settle_of d ∷ []) (account_in e)) (sym task) running);
          numbered = subst (λ (es : List EditionParts). AreNumbered e.task es) (sym editions) (subst (λ (u : TaskParts). AreNumbered u c.editions) (sym task) ledger.numbered);
          grown = grown;
          taken = ap (λ (bs : List Bool). length bs) taken ∙ ledger.taken ∙ ap (λ (u : TaskParts). u.options.beliefs) (sym task);
          worths = worths ∙ ledger.worths ∙ ap (λ (u : TaskParts). u.options.beliefs) (sym task);
          few = subst (λ (n : ℕ). n ≤ length e.events + 1) (sym records) (subst (λ (es : List Event). c.records + 1 ≤ length es + 1) (sym events) few);
        };
        task = task;
        history = events ∙ ap (λ (es : List Event). c.events ++ settle_of d ∷ es) (sym due);
        editions = ([], editions ∙ sym (append-nil c.editions));
        taken = taken ∙ ap (λ (b : Bool). cond b (replicate (length c.taken) false) c.taken) (sym still);
      }

  -- before the settle a flag is down
  some_down : (j : ℕ) × (j < t.beliefs) × (get_or c.improved j false ≡ false)
  unfolding all_improved
  some_down = by_turns ledger.running.turns
    where
      by_turns : IsBetweenTurns t book → (j : ℕ) × (j < t.beliefs) × (get_or c.improved j false ≡ false)
      by_turns (inl done) = absurd (let same = ledger.running.replayed.account.done in cc)
      by_turns (inr (on, left, down)) = let (j, less, low) = holds_below_not t.beliefs book.improved down in (j, less, ledger.running.replayed.account.improved j less ∙ low)

  settled_record_only : choice_for c d ≡ Neither → IsSettledLedger c d first
  settled_record_only chosen = let (j, less, low) = some_down in undue first refl refl refl refl refl refl ledger.grown (record_enters chosen) j less low

  -- ---- a member enters
  module _ (x : Member) (known : IsMemberOf c.task.model x) (enters : Enters x) where
    abbrev with_x : LedgerContents
    with_x = with_member first x

    raised : (j : ℕ) → j < length c.improved → get_or with_x.improved j false ≡ is_up c j
    raised = (raised_list c.worths c.latest_values c.improved).each

    flags_count : length c.improved ≡ t.beliefs
    flags_count = ledger.running.replayed.account.flags

    settled_undue : (j : ℕ) → j < length c.improved → is_up c j ≡ false → IsSettledLedger c d with_x
    settled_undue j less low = undue with_x refl refl refl refl refl refl (All-push (IsMemberOf c.task.model) c.grown x ledger.grown known) enters j (subst (λ (n : ℕ). j < n) flags_count less) (raised j less ∙ low)

    module _ (e : EditionParts) (up : (j : ℕ) → j < length c.improved → is_up c j ≡ true) (is_next : e ≡ record { number = length c.editions; task = c.task; members = c.grown ++ x ∷ [] }) where
      -- published, and over or not
      abbrev made : Bool → LedgerContents
      made b = record with_x {
        events = with_x.events ++ publish ∷ cond b (end ∷ []) [];
        editions = c.editions ++ e ∷ [];
        grown = [];
        improved = replicate (length with_x.improved) false;
        taken = replicate (length c.taken) false;
        latest_values = with_x.grown_values;
        grown_values = c.latest_values;
        stages_left = c.stages_left - 1;
        done = cond b true c.done;
      }

      abbrev g : Account
      g = account_in with_x

      all_raised : (j : ℕ) → j < t.beliefs → get_or g.improved j false ≡ true
      all_raised j less = let within : j < length c.improved = subst (λ (n : ℕ). j < n) (sym flags_count) less in raised j within ∙ up j within

      filled : 0 < length g.grown
      filled = omega (arith, length-map (c.grown ++ x ∷ []) (member_of c.task.model), length-append c.grown (x ∷ []))

      flags : List Bool
      flags = replicate (length with_x.improved) false

      -- the account of what is made
      made_account : (b : Bool) → account_in (made b) ≡ record g { editions = g.editions ++ g.grown ∷ []; grown = []; improved = replicate (length with_x.improved) false; latest_values = g.grown_values; grown_values = g.latest_values; stages_left = g.stages_left - 1; done = cond b true c.done }
      made_account b =
          let editions_is = map-append members_in c.editions (e ∷ []) ∙ ap (λ (y : EditionParts). map members_in c.editions ++ members_in y ∷ []) is_next in
          (λ i. let r : Account = record g { editions = editions_is i; grown = []; improved = replicate (length with_x.improved) false; latest_values = g.grown_values; grown_values = g.latest_values; stages_left = g.stages_left - 1; done = cond b true c.done } in r)

      settled_made : (b : Bool) → (due : List Event) → due ≡ publish ∷ cond b (end ∷ []) [] → due_events t false next ≡ due → all_improved t next ≡ true → IsRunning t (c.events ++ settle_of d ∷ due) (account_in (made b)) → IsSettledLedger c d (made b)
      settled_made b due is all is_raised running =
          let events : with_x.events ++ publish ∷ cond b (end ∷ []) [] ≡ c.events ++ settle_of d ∷ due = append_assoc c.events (settle_of d ∷ []) (publish ∷ cond b (end ∷ []) []) ∙ ap (λ (es : List Event). c.events ++ settle_of d ∷ es) (sym is) in
          let before = ledger.few in
          record {
            ledger = record {
              task = ledger.task;
              running = subst (λ (es : List Event). IsRunning t es (account_in (made b))) (sym events) running;
              numbered = numbered_more c.task c.editions e ledger.numbered (ap (λ (y : EditionParts). y.number) is_next) (ap (λ (y : EditionParts). y.task) is_next);
              grown = All-nil (IsMemberOf c.task.model);
              taken = length-replicate (length c.taken) false ∙ ledger.taken;
              worths = ledger.worths;
              few = omega (arith, before, few, length-append with_x.events (publish ∷ cond b (end ∷ []) []));
            };
            task = refl;
            history = events ∙ ap (λ (es : List Event). c.events ++ settle_of d ∷ es) (sym all);
            editions = (e ∷ [], refl);
            taken = ap (λ (q : Bool). cond q (replicate (length c.taken) false) c.taken) (sym is_raised);
          }

      settled_due : IsSettledLedger c d (contents_with_publication with_x e)
      settled_due = by_last (is_last with_x) refl
        where
          count : length (replicate (length with_x.improved) false) ≡ t.beliefs
          count = length-replicate (length with_x.improved) false ∙ enters.flags

          by_last : (b : Bool) → eqb (c.stages_left - 1) 0 ≡ b → IsSettledLedger c d (made b)
          by_last false more =
              let (due, running) = publication_due t c.events f ledger.running lawful some going d.belief d.base.number d.action d.links within (own_exists c.task c.editions ledger.numbered d.base ours) (own_backup c.task c.editions ledger.numbered d is ours) g enters all_raised filled (replicate (length with_x.improved) false) count (λ j less. down_at (length with_x.improved) j) more in
              settled_made false (publish ∷ []) refl due
              (all_up t c.events f ledger.running lawful some going d.belief d.base.number d.action d.links within (own_exists c.task c.editions ledger.numbered d.base ours) (own_backup c.task c.editions ledger.numbered d is ours) g enters all_raised filled (replicate (length with_x.improved) false) count (λ j less. down_at (length with_x.improved) j))
              (subst (IsRunning t (c.events ++ settle_of d ∷ publish ∷ [])) (sym (made_account false)) running)
          by_last true none =
              let (due, running) = end_due t c.events f ledger.running lawful some going d.belief d.base.number d.action d.links within (own_exists c.task c.editions ledger.numbered d.base ours) (own_backup c.task c.editions ledger.numbered d is ours) g enters all_raised filled (replicate (length with_x.improved) false) count (λ j less. down_at (length with_x.improved) j) none in
              settled_made true (publish ∷ end ∷ []) refl due
              (all_up t c.events f ledger.running lawful some going d.belief d.base.number d.action d.links within (own_exists c.task c.editions ledger.numbered d.base ours) (own_backup c.task c.editions ledger.numbered d is ours) g enters all_raised filled (replicate (length with_x.improved) false) count (λ j less. down_at (length with_x.improved) j))
              (subst (IsRunning t (c.events ++ settle_of d ∷ publish ∷ end ∷ [])) (sym (made_account true)) running)

    settled_entered : (next : Option EditionParts) → IsDue c x next → IsSettledLedger c d (entered_with first x next)
    settled_entered None (j, less, low) = settled_undue j less low
    settled_entered (Some e) (up, is_next) = settled_due e up is_next

  -- ---- the plan
  pub settled_plan : (plan : Plan) → IsSettlePlan c d plan → IsSettledLedger c d (after_plan c d plan)
  settled_plan RecordOnly chosen = settled_record_only chosen
  settled_plan (EnterNew e) (chosen, entry) = settled_entered (new_member c d) entry.known (new_enters chosen entry.worths) (option_map arc_value e) entry.due
  settled_plan (EnterOld x e) (chosen, greatest, entry) = settled_entered x entry.known (old_enters chosen x greatest entry.worths) (option_map arc_value e) entry.due

  -- ---- the answer
  old_id : (x : Member) → IsGreatestAtBelief c d.belief x → x.id ≡ (theory.greatest_member t.model book.latest (t.samples d.belief)).id
  old_id x greatest = ap (λ (y : theory.Member). y.id) greatest ∙ (greatest_member_agrees t.model (last_of f.editions) book.latest (t.samples d.belief) (t.samples d.belief) (latest_agrees t c.events f ledger.running.replayed) (λ s p. refl)).0

  chosen_answer : (choice : Choice) → choice_for c d ≡ choice → answer_for (parts_in c) d ≡ by_choice choice Late (Added (length book.records)) (Kept (theory.greatest_member t.model book.latest (t.samples d.belief)).id)
  chosen_answer choice chosen = book_chooses t c.events f ledger.running.replayed lawful some going d.belief d.base.number d.action d.links within (own_exists c.task c.editions ledger.numbered d.base ours) (own_backup c.task c.editions ledger.numbered d is ours) (vector_of c.task.model d.vector) (own_stepped c.task c.editions ledger.numbered d is ours) choice chosen Late (Added (length book.records)) (Kept (theory.greatest_member t.model book.latest (t.samples d.belief)).id)

  pub answer_plan : (plan : Plan) → IsSettlePlan c d plan → answer_to c plan ≡ answer_for (parts_in c) d
  answer_plan RecordOnly chosen = sym (chosen_answer Neither chosen)
  answer_plan (EnterNew e) (chosen, entry) = ap Added ledger.running.replayed.account.records ∙ sym (chosen_answer New chosen)
  answer_plan (EnterOld x e) (chosen, greatest, entry) = ap Kept (old_id x greatest) ∙ sym (chosen_answer Old chosen)

-- other worths change nothing else
pub with_worths : (c : LedgerContents) (ws : List ℤ) → length ws ≡ length c.worths → IsLedger c → IsLedger (record c { worths = ws })
with_worths c ws count ledger = record { task = ledger.task; running = ledger.running; numbered = ledger.numbered; grown = ledger.grown; taken = ledger.taken; worths = count ∙ ledger.worths; few = ledger.few }

pub same_ledger : (c d : LedgerContents) (ws : List ℤ) → length ws ≡ length c.worths → IsLedger c → d ≡ record c { worths = ws } → IsLedger d
same_ledger c d ws count ledger is = subst IsLedger (sym is) (with_worths c ws count ledger)

-- a settle that was planned and done
pub settled_all : (c planned done : LedgerContents) (ws : List ℤ) → IsLedger c → c.done ≡ false → planned ≡ record c { worths = ws } → length ws ≡ length c.worths
    → (d : CandidateParts) → IsCandidate d → IsOurs (parts_in c) d.base → (plan : Plan) → IsSettlePlan planned d plan → done ≡ after_plan planned d plan → (answer : Settled) → answer ≡ answer_to planned plan
    → IsLedger done × IsSettled (parts_in c) d answer (parts_in done)
settled_all c planned done ws ledger going is count d known ours plan fits is_done answer is_answer =
    let own : LedgerContents = record c { worths = ws } in
    let good = with_worths c ws count ledger in
    let fit = subst (λ (x : LedgerContents). IsSettlePlan x d plan) is fits in
    let after = subst (λ (x : LedgerContents). IsSettledLedger own d x) (sym (is_done ∙ ap (λ (x : LedgerContents). after_plan x d plan) is)) (settled_plan own good going d known ours plan fit) in (
      after.ledger,
      subst (λ (b : Bool). MatchBool b ((answer ≡ Over) × (parts_in done ≡ parts_in c)) (IsOurs (parts_in c) d.base × (answer ≡ answer_for (parts_in c) d) × IsSettledBy (parts_in c) d (parts_in done))) (sym (sym ledger.running.replayed.account.done ∙ going)) (
        ours,
        is_answer ∙ ap (λ (x : LedgerContents). answer_to x plan) is ∙ answer_plan own good going d known ours plan fit,
        record { task = after.task; history = after.history; editions = after.editions; taken = after.taken },
      ),
    )
