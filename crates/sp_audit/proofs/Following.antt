-- A replay after each event.
use Rattle.std.proofs.Common.{◌≡◌, ◌∙◌, sym, ap, subst, refl, arith, ℕ, ◌+◌, ◌-◌, ◌<◌, ◌≤◌, List, [], ◌∷◌, ◌++◌, length, map, get_or, replicate, Bool, true, false, eqb, Some, None, ◌⊎◌, inl, inr, length-append}
use Rattle.std.specs.Prelude.{ℤ, pos, slice_get}
use Rattle.std.specs.List.{range_with_len}
use Rattle.std.proofs.lemmas.List.{map-append, length-map, length-replicate}
use Rattle.std.proofs.lemmas.List.Elements.{All-push, All-nil}
use Rattle.sp_dd.specs.Func.{IsScope}
use Rattle.sp_theory.specs.Model.{IsLawful}
use Rattle.sp_theory.specs.Book.{Task, Book, Event, settle, publish, end, opening, Allowed, AllImproved, after_event}
use Rattle.sp_theory.specs.Runs.{replay}
use Rattle.sp_model.specs.Problem.{problem, shape_of, vector_of}
use Rattle.sp_model.proofs.RowLaw.{problem_lawful}
use Rattle.sp_value.specs.declared.editions.Member.{Member}
use Rattle.sp_value.specs.Tasks.{TaskParts, IsTask, task_of}
use Rattle.sp_value.specs.Editions.{IsEdition, IsMemberOf, member_of, members_in}
use Rattle.sp_value.specs.Candidates.{CandidateParts, IsCandidate}
use Rattle.sp_ledger.specs.declared.flags.Choice.TheVariants.{Neither, New, Old}
use Rattle.sp_ledger.specs.Accounts.{Account, IsAccount, raised_at, lifted_to, AreWorths, AreRaised, AreLifted}
use Rattle.sp_ledger.specs.Opening.{first_member, first_edition}
use Rattle.sp_ledger.proofs.Accounting.{account_published, account_ended}
use Rattle.sp_ledger.proofs.Replaying.{goes_on, settle_allowed, some_grown_at}
use Rattle.sp_ledger.proofs.Entering.{account_late, account_new, account_kept}
use Rattle.sp_ledger.proofs.Changes.{raised_is, lifted_is, raised_list, lifted_list}
use Rattle.sp_ledger.proofs.Distinct.{different_of, tidy_book}
use Rattle.sp_ledger.proofs.Numbers.{down_at, first_numbered, numbered_more}
use Rattle.sp_ledger.proofs.Opened.{replay_opening}
use Rattle.sp_ledger.proofs.Ours.{own_belief, own_exists, own_backup, own_stepped}
use Rattle.sp_ledger.proofs.Leaf.{least_agrees}
use Rattle.sp_audit.specs.States.{ReplayContents, account_in, IsStateAfter, Follows, settle_of, new_member, choice_for, IsGreatestInReplay, IsEntrant, contents_with_record, with_member, contents_with_edition, grown_edition, contents_at_end}

-- ---- before any event
module _ (t : TaskParts) (is : IsTask t) (scope : IsScope (shape_of t.model)) where
  abbrev pub first_contents : List ℤ → ReplayContents
  first_contents values = record {
    task = t;
    editions = first_edition t ∷ [];
    records = 1;
    grown = [];
    improved = replicate t.options.beliefs false;
    latest_values = values;
    grown_values = replicate t.options.beliefs (pos 0);
    worths = replicate t.options.beliefs (pos 0);
    stages_left = t.options.stages;
    done = false;
  }

  pub first_replay : (c : ReplayContents) → c ≡ first_contents c.latest_values → length c.latest_values ≡ t.options.beliefs → AreWorths (task_of t) (vector_of t.model (first_member t).vector) c.latest_values → IsStateAfter [] c
  first_replay c same count worths = subst (IsStateAfter []) (sym same) (record {
    task = is;
    replayed = replay_opening (task_of t) (member_of t.model (first_member t)) (least_agrees t.model is.model scope t refl) (replicate t.options.beliefs false) c.latest_values (replicate t.options.beliefs (pos 0))
        (length-replicate t.options.beliefs false) (λ k less. down_at t.options.beliefs k) count worths (length-replicate t.options.beliefs (pos 0));
    numbered = first_numbered t;
    grown = All-nil (IsMemberOf t.model);
    worths = length-replicate t.options.beliefs (pos 0);
    few = omega arith;
  })

-- ---- after one event more
module _ (es : List Event) (c : ReplayContents) (is_replay : IsStateAfter es c) where
  abbrev t : Task
  t = task_of c.task

  abbrev f : Account
  f = account_in c

  abbrev book : Book
  book = replay t (opening t) es

  pub lawful : IsLawful (problem c.task.model)
  lawful = problem_lawful c.task.model is_replay.task.model

  pub some : 0 < c.task.options.beliefs
  some = let least = is_replay.task.some_beliefs in omega (arith, least)

  module _ (going : c.done ≡ false) where
    book_going : book.done ≡ false
    book_going = sym is_replay.replayed.account.done ∙ going

    few : (x : Event) → c.records + 1 ≤ length (es ++ x ∷ []) + 1
    few x = let before = is_replay.few in omega (arith, before, length-append es (x ∷ []))

    -- ---- a settle
    module _ (d : CandidateParts) (is : IsCandidate d) (ours : slice_get c.editions d.base.number ≡ Some d.base) where
      abbrev next : Book
      next = after_event t book (settle_of d)

      within : d.belief < t.beliefs
      within = own_belief c.task c.editions is_replay.numbered d is ours

      allowed : Allowed t book (settle_of d)
      allowed = settle_allowed t es f is_replay.replayed lawful some going d.belief d.base.number d.action d.links within (own_exists c.task c.editions is_replay.numbered d.base ours) (own_backup c.task c.editions is_replay.numbered d is ours)

      pub settled_late : choice_for c d ≡ Neither → IsStateAfter (es ++ settle_of d ∷ []) (contents_with_record c)
      settled_late chosen = record {
        task = is_replay.task;
        replayed = goes_on t es f is_replay.replayed (settle_of d) (account_in (contents_with_record c)) allowed
            (account_late t es f is_replay.replayed lawful some going d.belief d.base.number d.action d.links within (own_exists c.task c.editions is_replay.numbered d.base ours) (own_backup c.task c.editions is_replay.numbered d is ours) (vector_of c.task.model d.vector) (own_stepped c.task c.editions is_replay.numbered d is ours) Neither chosen refl);
        numbered = is_replay.numbered;
        grown = is_replay.grown;
        worths = is_replay.worths;
        few = few (settle_of d);
      }

      module _ (x : Member) (known : IsMemberOf c.task.model x) (ws : List ℤ) (count : length ws ≡ length c.worths) (worths : AreWorths t (vector_of c.task.model x.vector) ws) where
        abbrev entered : ReplayContents
        entered = with_member (record (contents_with_record c) { worths = ws }) x

        entered_is : account_in entered
            ≡ record f { records = c.records + 1; grown = f.grown ++ member_of c.task.model x ∷ []; improved = map (raised_at ws c.latest_values c.improved) (range_with_len 0 (length c.improved)); grown_values = map (lifted_to (eqb (length f.grown) 0) ws c.grown_values) (range_with_len 0 (length c.grown_values)) }
        entered_is =
            let grown_is = map-append (member_of c.task.model) c.grown (x ∷ []) in
            let count_is = sym (length-map c.grown (member_of c.task.model)) in
            (λ i. let r : Account = record f { records = c.records + 1; grown = grown_is i; improved = map (raised_at ws c.latest_values c.improved) (range_with_len 0 (length c.improved)); grown_values = map (lifted_to (eqb (count_is i) 0) ws c.grown_values) (range_with_len 0 (length c.grown_values)) } in r)

        by_account : IsAccount t next (account_in entered) → IsStateAfter (es ++ settle_of d ∷ []) entered
        by_account account = record {
          task = is_replay.task;
          replayed = goes_on t es f is_replay.replayed (settle_of d) (account_in entered) allowed account;
          numbered = is_replay.numbered;
          grown = All-push (IsMemberOf c.task.model) c.grown x is_replay.grown known;
          worths = count ∙ is_replay.worths;
          few = few (settle_of d);
        }

        pub settled_new : choice_for c d ≡ New → x ≡ new_member c d → IsStateAfter (es ++ settle_of d ∷ []) entered
        settled_new chosen same = by_account (subst (IsAccount t next) (sym entered_is)
            (account_new t es f is_replay.replayed lawful some going d.belief d.base.number d.action d.links within (own_exists c.task c.editions is_replay.numbered d.base ours) (own_backup c.task c.editions is_replay.numbered d is ours) (vector_of c.task.model d.vector) (own_stepped c.task c.editions is_replay.numbered d is ours) New chosen
            (member_of c.task.model x) ws worths _ (raised_list ws c.latest_values c.improved) _ (lifted_list (eqb (length f.grown) 0) ws c.grown_values) refl (ap (member_of c.task.model) same)))

        pub settled_old : choice_for c d ≡ Old → IsGreatestInReplay c d.belief x → IsStateAfter (es ++ settle_of d ∷ []) entered
        settled_old chosen greatest = by_account (subst (IsAccount t next) (sym entered_is)
            (account_kept t es f is_replay.replayed lawful some going d.belief d.base.number d.action d.links within (own_exists c.task c.editions is_replay.numbered d.base ours) (own_backup c.task c.editions is_replay.numbered d is ours) (vector_of c.task.model d.vector) (own_stepped c.task c.editions is_replay.numbered d is ours) Old chosen
            (member_of c.task.model x) ws worths _ (raised_list ws c.latest_values c.improved) _ (lifted_list (eqb (length f.grown) 0) ws c.grown_values) refl greatest))

    -- ---- a publication
    module _ (up : (k : ℕ) → k < length c.improved → get_or c.improved k false ≡ true) where
      pub all_up : AllImproved t book
      all_up k less = sym (is_replay.replayed.account.improved k less) ∙ up k (subst (λ (n : ℕ). k < n) (sym is_replay.replayed.account.flags) less)

      filled : 0 < length f.grown
      filled = some_grown_at t es f is_replay.replayed lawful some going 0 some (all_up 0 some)

      pub grown_some : 0 < length c.grown
      grown_some = let more = filled in omega (arith, more, length-map c.grown (member_of c.task.model))

      pub grown_is_edition : (n : ℕ) → IsEdition (record { number = n; task = c.task; members = c.grown })
      grown_is_edition n = record {
        task = is_replay.task;
        some = grown_some;
        different = different_of c.task.model t.model c.grown book.grown is_replay.replayed.account.grown (tidy_book t lawful some es f is_replay.replayed).grown_apart;
        members = is_replay.grown;
      }

      pub published_replay : IsStateAfter (es ++ publish ∷ []) (contents_with_edition c (grown_edition c))
      unfolding Allowed
      published_replay = record {
        task = is_replay.task;
        replayed = goes_on t es f is_replay.replayed publish (account_in (contents_with_edition c (grown_edition c))) (book_going, all_up)
            (subst (IsAccount t (after_event t book publish)) (sym account_is)
            (account_published t book f is_replay.replayed.account (replicate (length c.improved) false) (length-replicate (length c.improved) false ∙ is_replay.replayed.account.flags) (λ k less. down_at (length c.improved) k) filled));
        numbered = numbered_more c.task c.editions (grown_edition c) is_replay.numbered refl refl;
        grown = All-nil (IsMemberOf c.task.model);
        worths = is_replay.worths;
        few = let before = is_replay.few in omega (arith, before, length-append es (publish ∷ []));
      }
        where
          account_is : account_in (contents_with_edition c (grown_edition c)) ≡ record f { editions = f.editions ++ f.grown ∷ []; grown = []; improved = replicate (length c.improved) false; latest_values = f.grown_values; grown_values = f.latest_values; stages_left = f.stages_left - 1 }
          account_is = let editions_is = map-append members_in c.editions (grown_edition c ∷ []) in
              (λ i. let r : Account = record f { editions = editions_is i; grown = []; improved = replicate (length c.improved) false; latest_values = f.grown_values; grown_values = f.latest_values; stages_left = f.stages_left - 1 } in r)

    -- ---- the end
    pub ended_replay : c.stages_left ≡ 0 → IsStateAfter (es ++ end ∷ []) (contents_at_end c)
    unfolding Allowed
    ended_replay none = record {
      task = is_replay.task;
      replayed = goes_on t es f is_replay.replayed end (account_in (contents_at_end c)) (book_going, sym is_replay.replayed.account.stages_left ∙ none) (account_ended t book f is_replay.replayed.account);
      numbered = is_replay.numbered;
      grown = is_replay.grown;
      worths = is_replay.worths;
      few = let before = is_replay.few in omega (arith, before, length-append es (end ∷ []));
    }

-- ---- as the calls say it
-- a settle with what enters
pub settled : (c : ReplayContents) (going : c.done ≡ false) (d : CandidateParts) (is : IsCandidate d) (ours : slice_get c.editions d.base.number ≡ Some d.base) (x : Member) (ws : List ℤ) → length ws ≡ length c.worths → AreWorths (task_of c.task) (vector_of c.task.model x.vector) ws
    → IsEntrant c d (Some x) → (e : ReplayContents) → e ≡ with_member (record (contents_with_record c) { worths = ws }) x → Follows c (settle_of d) e
settled c going d is ours x ws count worths (known, chosen) e same = record {
  task = ap (λ (y : ReplayContents). y.task) same;
  replay = λ es replay. subst (IsStateAfter (es ++ settle_of d ∷ [])) (sym same) (by_choice es replay chosen);
}
  where
    by_choice : (es : List Event) (replay : IsStateAfter es c) → ((choice_for c d ≡ New) × (x ≡ new_member c d)) ⊎ ((choice_for c d ≡ Old) × IsGreatestInReplay c d.belief x) → IsStateAfter (es ++ settle_of d ∷ []) (with_member (record (contents_with_record c) { worths = ws }) x)
    by_choice es replay (inl (chosen, same)) = settled_new es c replay going d is ours x known ws count worths chosen same
    by_choice es replay (inr (chosen, greatest)) = settled_old es c replay going d is ours x known ws count worths chosen greatest

pub settled_without : (c : ReplayContents) (going : c.done ≡ false) (d : CandidateParts) (is : IsCandidate d) (ours : slice_get c.editions d.base.number ≡ Some d.base) → IsEntrant c d None → (e : ReplayContents) → e ≡ contents_with_record c → Follows c (settle_of d) e
settled_without c going d is ours chosen e same = record {
  task = ap (λ (y : ReplayContents). y.task) same;
  replay = λ es replay. subst (IsStateAfter (es ++ settle_of d ∷ [])) (sym same) (settled_late es c replay going d is ours chosen);
}

pub published_follows : (c : ReplayContents) (going : c.done ≡ false) → ((k : ℕ) → k < length c.improved → get_or c.improved k false ≡ true) → (e : ReplayContents) → e ≡ contents_with_edition c (grown_edition c) → Follows c publish e
published_follows c going up e same = record {
  task = ap (λ (y : ReplayContents). y.task) same;
  replay = λ es replay. subst (IsStateAfter (es ++ publish ∷ [])) (sym same) (published_replay es c replay going up);
}

pub ended_follows : (c : ReplayContents) (going : c.done ≡ false) → c.stages_left ≡ 0 → (e : ReplayContents) → e ≡ contents_at_end c → Follows c end e
ended_follows c going none e same = record {
  task = ap (λ (y : ReplayContents). y.task) same;
  replay = λ es replay. subst (IsStateAfter (es ++ end ∷ [])) (sym same) (ended_replay es c replay going none);
}

-- ---- lists that change
-- a member entered, where the slices that were read and written are the lists of the contents
pub with_member_is : (c : ReplayContents) (x : Member) (first : Bool) (ws ls vs old news final : List ℤ) (flags newf ends : List Bool) (grown : List Member)
    → first ≡ eqb (length c.grown) 0
    → AreRaised ws ls flags newf → ws ≡ c.worths → ls ≡ c.latest_values → flags ≡ c.improved
    → AreLifted first vs old news → vs ≡ c.worths → old ≡ c.grown_values
    → grown ≡ c.grown ++ x ∷ [] → ends ≡ newf → final ≡ news
    → record c { grown = grown; improved = ends; grown_values = final } ≡ with_member c x
with_member_is c x first ws ls vs old news final flags newf ends grown e1 raised e2 e3 e4 lifted e5 e6 e7 e8 e9 =
    let flags_is = e8 ∙ raised_is ws ls flags newf raised ∙ (λ i. map (raised_at (e2 i) (e3 i) (e4 i)) (range_with_len 0 (length (e4 i)))) in
    let values_is = e9 ∙ lifted_is first vs old news lifted ∙ (λ i. map (lifted_to (e1 i) (e5 i) (e6 i)) (range_with_len 0 (length (e6 i)))) in
    (λ i. let r : ReplayContents = record c { grown = e7 i; improved = flags_is i; grown_values = values_is i } in r)

-- a settle of the candidate's parts
pub settle_is : (c : ReplayContents) (d : CandidateParts) (k e a : ℕ) (links : List ℕ) → d.belief ≡ k → d.base.number ≡ e → (d.action ≡ a) × (d.links ≡ links) → (x : ReplayContents) → Follows c (settle_of d) x → Follows c (settle k e a links) x
settle_is c d k e a links at on (act, linked) x follows = subst (λ (y : Event). Follows c y x) (λ i. settle (at i) (on i) (act i) (linked i)) follows
