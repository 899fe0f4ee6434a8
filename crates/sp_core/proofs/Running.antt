-- A run under way after a settle, with what is due then, and after a prune.
use Rattle.std.proofs.Common.{◌≡◌, ◌∙◌, sym, ap, subst, refl, ℕ, ◌-◌, ◌<◌, List, [], ◌∷◌, ◌++◌, length, get_or, Bool, true, false, cond, eqb}
use Rattle.sp_theory.specs.Sums.{holds_below}
use Rattle.sp_theory.specs.Model.{IsLawful}
use Rattle.sp_theory.specs.Backup.{IsBackup}
use Rattle.sp_theory.specs.Book.{Task, Book, Event, settle, publish, end, opening, after_event}
use Rattle.sp_theory.specs.Runs.{replay}
use Rattle.sp_theory.specs.OneThread.{IsBetweenTurns, all_improved, due_events}
use Rattle.sp_theory.specs.Laws.{EventsGoOn}
use Rattle.sp_theory.proofs.Extremes.{holds_below_at, holds_below_all}
use Rattle.sp_theory.proofs.Histories.{replay-append, IsHistory-append, IsPrompt-append}
use Rattle.sp_theory.proofs.OneThread.{settle_goes_after}
use Rattle.sp_ledger.specs.Accounts.{Account, IsAccount}
use Rattle.sp_core.specs.Running.{IsRunning}
use Rattle.sp_ledger.proofs.Accounting.{account_published, account_ended}
use Rattle.sp_ledger.proofs.Replaying.{settle_allowed}

module _ (t : Task) (es : List Event) (f : Account) (run : IsRunning t es f) where
  abbrev book : Book
  book = replay t (opening t) es

  -- events that go on
  pub goes_on : (more : List Event) (g : Account) → EventsGoOn t (replay t (opening t) es) more → IsAccount t (replay t (replay t (opening t) es) more) g → IsRunning t (es ++ more) g
  goes_on more g goes account = record {
    replayed = record {
      history = IsHistory-append t (opening t) es more run.replayed.history goes.0;
      account = subst (λ (c : Book). IsAccount t c g) (sym (replay-append t (opening t) es more)) account;
    };
    prompt = IsPrompt-append t (opening t) es more run.prompt goes.1;
    turns = subst (IsBetweenTurns t) (sym (replay-append t (opening t) es more)) goes.2;
  }

  module _ (lawful : IsLawful t.model) (some : 0 < t.beliefs) (going : f.done ≡ false)
      (k e a : ℕ) (links : List ℕ) (within : k < t.beliefs) (exists : e < length f.editions) (backup : IsBackup t.model (get_or f.editions e []) (t.samples k) a links) where
    abbrev next : Book
    next = after_event t book (settle k e a links)

    -- ---- what is due after the settle
    settle_goes : EventsGoOn t book (settle k e a links ∷ due_events t false next)
    settle_goes = settle_goes_after t lawful some es run.replayed.history run.turns k e a links (settle_allowed t es f run.replayed lawful some going k e a links within exists backup) false

    -- the settle with these events, which are due
    with_due : (g : Account) (due : List Event) → due_events t false next ≡ due → IsAccount t (replay t next due) g → IsRunning t (es ++ settle k e a links ∷ due) g
    unfolding replay
    with_due g due is account = goes_on (settle k e a links ∷ due) g (subst (λ (ds : List Event). EventsGoOn t book (settle k e a links ∷ ds)) is settle_goes) account

    -- a flag is still down
    pub still_down : (g : Account) → IsAccount t next g → (j : ℕ) → j < t.beliefs → get_or g.improved j false ≡ false → all_improved t (after_event t (replay t (opening t) es) (settle k e a links)) ≡ false
    unfolding all_improved
    still_down g account j less down = by_test (holds_below t.beliefs next.improved) refl
      where
        by_test : (c : Bool) → holds_below t.beliefs next.improved ≡ c → holds_below t.beliefs next.improved ≡ false
        by_test true e = let up = holds_below_at t.beliefs next.improved e j less in let low = sym (account.improved j less) ∙ down in absurd (cc)
        by_test false e = e

    pub nothing_due : (g : Account) → IsAccount t next g → (j : ℕ) → j < t.beliefs → get_or g.improved j false ≡ false
        → (due_events t false next ≡ []) × IsRunning t (es ++ settle k e a links ∷ []) g
    unfolding due_events replay
    nothing_due g account j less down = (none, with_due g [] none account)
      where
        none : due_events t false next ≡ []
        none = ap (λ (c : Bool). cond c (publish ∷ cond (eqb (after_event t next publish).stages_left 0) (end ∷ []) []) []) (still_down g account j less down)

    -- all flags are up
    module _ (g : Account) (account : IsAccount t next g) (up : (j : ℕ) → j < t.beliefs → get_or g.improved j false ≡ true) (filled : 0 < length g.grown) (flags : List Bool) (count : length flags ≡ t.beliefs) (down : (j : ℕ) → j < t.beliefs → get_or flags j false ≡ false) where
      abbrev published : Account
      published = record g { editions = g.editions ++ g.grown ∷ []; grown = []; improved = flags; latest_values = g.grown_values; grown_values = g.latest_values; stages_left = g.stages_left - 1 }

      published_account : IsAccount t (after_event t next publish) published
      published_account = account_published t next g account flags count down filled

      pub all_up : all_improved t (after_event t (replay t (opening t) es) (settle k e a links)) ≡ true
      unfolding all_improved
      all_up = holds_below_all t.beliefs next.improved (λ j less. sym (account.improved j less) ∙ up j less)

      -- the publication, and the end where no stage is left
      due_is : (last : Bool) → eqb (g.stages_left - 1) 0 ≡ last → due_events t false next ≡ publish ∷ cond last (end ∷ []) []
      unfolding due_events after_event
      due_is last e =
          ap (λ (c : Bool). cond c (publish ∷ cond (eqb (after_event t next publish).stages_left 0) (end ∷ []) []) []) all_up
          ∙ ap (λ (c : Bool). publish ∷ cond c (end ∷ []) []) (ap (λ (n : ℕ). eqb (n - 1) 0) (sym account.stages_left) ∙ e)

      pub publication_due : eqb (g.stages_left - 1) 0 ≡ false → (due_events t false next ≡ publish ∷ []) × IsRunning t (es ++ settle k e a links ∷ publish ∷ []) published
      unfolding replay
      publication_due more = (due_is false more, with_due published (publish ∷ []) (due_is false more) published_account)

      pub end_due : eqb (g.stages_left - 1) 0 ≡ true → (due_events t false next ≡ publish ∷ end ∷ []) × IsRunning t (es ++ settle k e a links ∷ publish ∷ end ∷ []) (record published { done = true })
      unfolding replay
      end_due none = (due_is true none, with_due (record published { done = true }) (publish ∷ end ∷ []) (due_is true none) (account_ended t (after_event t next publish) published published_account))
