-- A ledger after a prune.
use Rattle.std.proofs.Common.{◌≡◌, ◌≢◌, ◌∙◌, sym, ap, subst, refl, arith, ℕ, ◌-◌, ◌<◌, List, [], ◌∷◌, ◌++◌, length, map, get_or, Bool, false, not, length-append}
use Rattle.std.specs.Prelude.{All, MatchBool}
use Rattle.std.proofs.lemmas.List.Elements.{All-filter}
use Rattle.std.proofs.lemmas.List.Kept.{AllPairs-filter}
use Rattle.std.proofs.lemmas.List.{map-append, length-map, get_or-map}
use Rattle.sp_theory.specs.Model.{IsLawful}
use Rattle.sp_theory.specs.Values as theory
use Rattle.sp_theory.specs.Book.{Task, Book, prune, pruned, CanPrune}
use Rattle.sp_theory.specs.OneThread.{applying}
use Rattle.sp_theory.proofs.PairsAgreement.{applying_same, pruned_agrees}
use Rattle.sp_theory.proofs.Pruning.{get_or_any, pruned_filled}
use Rattle.sp_theory.proofs.Tidy.{at_last}
use Rattle.sp_model.specs.Problem.{problem}
use Rattle.sp_model.proofs.RowLaw.{problem_lawful}
use Rattle.sp_value.specs.declared.editions.Member.{Member}
use Rattle.sp_value.specs.Tasks.{TaskParts, task_of}
use Rattle.sp_value.specs.Editions.{EditionParts, IsEdition, IsMemberOf, edition_of, member_of, members_in}
use Rattle.sp_core.specs.declared.answers.Pruned.{Pruned}
use Rattle.sp_core.specs.declared.answers.Pruned.TheVariants.{Dropped, Nothing, Over}
use Rattle.sp_ledger.specs.Accounts.{Account, last_of}
use Rattle.sp_core.specs.Running.{IsRunning}
use Rattle.sp_core.specs.Books.{BookParts, state_of}
use Rattle.sp_drops.specs.Drops.{applying_ids, goes, left_by}
use Rattle.sp_core.specs.Dominated.{AreDominatedPairs}
use Rattle.sp_core.specs.Ledgers.{LedgerContents, parts_in, account_in, IsLedger}
use Rattle.sp_core.specs.Settling.{IsOurs}
use Rattle.sp_core.specs.Pruning.{AreDominatedIn, IsPruneOf, IsPruned, latest_in, left_in, pruned_in}
use Rattle.sp_ledger.proofs.Numbers.{numbered_more}
use Rattle.sp_ledger.proofs.Replaying.{latest_agrees, some_agree}
use Rattle.sp_core.proofs.Dropping.{applied_can, run_pruned}
use Rattle.sp_ledger.proofs.Ours.{own_task, own_exists, own_members}
use Rattle.sp_ledger.proofs.Distinct.{tidy_book}
use Rattle.sp_core.proofs.Preparing.{some_edition, latest_task, latest_members}
use Rattle.sp_core.proofs.PairLists.{pruned_members, applying_members}

module _ (c : LedgerContents) (ledger : IsLedger c) where
  abbrev t : Task
  t = task_of c.task

  abbrev f : Account
  f = account_in c

  -- the latest edition as it was read, and as it stands
  latest_is : latest_in c ≡ get_or c.editions (length c.editions - 1) (latest_in c)
  latest_is = let some = some_edition c ledger in get_or_any c.editions (length c.editions - 1) _ (latest_in c) (omega (arith, some))

  pub last_members : edition_of c.task.model (latest_in c).members ≡ last_of f.editions
  last_members =
      let some = some_edition c ledger in
      ap (λ (u : TaskParts). edition_of u.model (latest_in c).members) (sym (latest_task c ledger (latest_in c) latest_is))
      ∙ sym (get_or-map members_in c.editions (length c.editions - 1) (record { number = 0; task = c.task; members = [] }) [] (omega (arith, some)))
      ∙ ap (λ (n : ℕ). get_or (map members_in c.editions) (n - 1) []) (sym (length-map c.editions members_in))

  left_is : (pairs : List (ℕ × ℕ)) → members_in (left_in c pairs) ≡ pruned (last_of f.editions) pairs
  left_is pairs = sym (pruned_members c.task.model pairs (latest_in c).members) ∙ ap (λ (ed : theory.Edition). pruned ed pairs) last_members

  -- the edition that pairs leave of one that was read
  pub left_edition : (e : EditionParts) → e ≡ get_or c.editions (length c.editions - 1) e → IsEdition e → (pairs : List (ℕ × ℕ)) → 0 < length (left_by pairs (latest_in c).members) → (n : ℕ) → IsEdition (record { number = n; task = c.task; members = left_by pairs e.members })
  left_edition e is known pairs some n = record {
    task = ledger.task;
    some = let same = latest_is ∙ (let least = some_edition c ledger in get_or_any c.editions (length c.editions - 1) (latest_in c) e (omega (arith, least))) ∙ sym is in subst (λ (x : EditionParts). 0 < length (left_by pairs x.members)) same some;
    different = AllPairs-filter (λ (y z : Member). y.id ≢ z.id) (λ (x : Member). not (goes pairs x.id)) e.members known.different;
    members = All-filter (λ (x : Member). not (goes pairs x.id)) (IsMemberOf c.task.model) e.members (subst (λ (u : TaskParts). All (IsMemberOf u.model) e.members) (latest_task c ledger e is) known.members);
  }

  -- the pairs that apply to the edition that was read
  pub applying_read : (e : EditionParts) → e ≡ get_or c.editions (length c.editions - 1) e → (members : List Member) → members ≡ e.members → (pairs found : List (ℕ × ℕ)) → found ≡ applying_ids (map (λ (x : Member). x.id) members) pairs → found ≡ applying (last_of f.editions) pairs
  applying_read e is members same pairs found is_found =
      is_found ∙ ap (λ (xs : List Member). applying_ids (map (λ (x : Member). x.id) xs) pairs) same
      ∙ sym (applying_members e.task.model e.members pairs) ∙ ap (λ (ed : theory.Edition). applying ed pairs) (latest_members c ledger e is)

  module _ (going : c.done ≡ false) (e : EditionParts) (ours : IsOurs (parts_in c) e) (pairs : List (ℕ × ℕ)) (dominated : AreDominatedIn e pairs) where
    lawful : IsLawful t.model
    lawful = problem_lawful c.task.model ledger.task.model

    some : 0 < t.beliefs
    some = let least = ledger.task.some_beliefs in omega (arith, least)

    own_pairs : AreDominatedPairs t.model (get_or f.editions e.number []) pairs
    own_pairs =
        subst (λ (ed : theory.Edition). AreDominatedPairs t.model ed pairs) (own_members c.task c.editions ledger.numbered e ours)
        (subst (λ (u : TaskParts). AreDominatedPairs (problem u.model) (members_in e) pairs) (own_task c.task c.editions ledger.numbered e ours) dominated)

    abbrev book : Book
    book = state_of (parts_in c)

    -- the pairs that apply are those that apply to the state's latest edition
    pub applied_same : applying (last_of f.editions) pairs ≡ applying book.latest pairs
    applied_same = applying_same t.model (last_of f.editions) book.latest pairs (latest_agrees t c.events f ledger.running.replayed)

    -- something is left
    pub some_left : (applied : List (ℕ × ℕ)) → applied ≡ applying (last_of f.editions) pairs → 0 < length (left_by applied (latest_in c).members)
    some_left applied is =
        let can = subst (CanPrune t.model book.latest) (sym (is ∙ applied_same)) (applied_can t c.events f ledger.running lawful some going e.number (own_exists c.task c.editions ledger.numbered e ours) pairs own_pairs) in
        let filled = pruned_filled t.model book.latest applied (at_last (λ (ed : theory.Edition). 0 < length ed) book (tidy_book t lawful some c.events f ledger.running.replayed).filled) can in
        let here : 0 < length (pruned (last_of f.editions) applied) = some_agree t.model (pruned (last_of f.editions) applied) (pruned book.latest applied) (pruned_agrees t.model (last_of f.editions) book.latest applied (latest_agrees t c.events f ledger.running.replayed)) filled in
        let count = ap (λ (ed : theory.Edition). length ed) (left_is applied) in
        omega (arith, here, count, length-map (left_by applied (latest_in c).members) (member_of c.task.model))

    pub pruned_ledger : (applied : List (ℕ × ℕ)) → applied ≡ applying (last_of f.editions) pairs → 0 < length applied → IsLedger (pruned_in c applied)
    pruned_ledger applied is more =
        let running = run_pruned t c.events f ledger.running lawful some going e.number (own_exists c.task c.editions ledger.numbered e ours) pairs own_pairs applied is more in
        let editions_is = map-append members_in c.editions (left_in c applied ∷ []) ∙ ap (λ (ed : theory.Edition). map members_in c.editions ++ ed ∷ []) (left_is applied) in
        let account_is : account_in (pruned_in c applied) ≡ record f { editions = f.editions ++ pruned (last_of f.editions) applied ∷ [] } = (λ i. let r : Account = record f { editions = editions_is i } in r) in
        let before = ledger.few in
        record {
          task = ledger.task;
          running = subst (IsRunning t (c.events ++ prune applied ∷ [])) (sym account_is) running;
          numbered = numbered_more c.task c.editions (left_in c applied) ledger.numbered refl refl;
          grown = ledger.grown;
          taken = ledger.taken;
          worths = ledger.worths;
          few = omega (arith, before, length-append c.events (prune applied ∷ []));
        }

    -- ---- the answers
    on : (answer : Pruned) (d : BookParts) → IsPruneOf (parts_in c) (applying book.latest pairs) answer d → IsPruned (parts_in c) e pairs answer d
    on answer d step = subst (λ (b : Bool). MatchBool b ((answer ≡ Over) × (d ≡ parts_in c)) (IsOurs (parts_in c) e × IsPruneOf (parts_in c) (applying book.latest pairs) answer d)) (sym (sym ledger.running.replayed.account.done ∙ going)) (ours, step)

    pub nothing_pruned : (applied : List (ℕ × ℕ)) → applied ≡ applying (last_of f.editions) pairs → length applied ≡ 0 → IsPruned (parts_in c) e pairs Nothing (parts_in c)
    nothing_pruned applied is none = on Nothing (parts_in c) (subst (λ (ps : List (ℕ × ℕ)). IsPruneOf (parts_in c) ps Nothing (parts_in c)) (is ∙ applied_same) (by_list applied none))
      where
        by_list : (ps : List (ℕ × ℕ)) → length ps ≡ 0 → IsPruneOf (parts_in c) ps Nothing (parts_in c)
        by_list [] none = (refl, refl)
        by_list (p ∷ ps) none = absurd (omega arith)

    pub some_pruned : (applied : List (ℕ × ℕ)) → applied ≡ applying (last_of f.editions) pairs → 0 < length applied → (d : LedgerContents) → d ≡ pruned_in c applied → (count : ℕ) → count ≡ length applied
        → IsLedger d × IsPruned (parts_in c) e pairs (Dropped count) (parts_in d)
    some_pruned applied is more d is_d count is_count = (
      subst IsLedger (sym is_d) (pruned_ledger applied is more),
      on (Dropped count) (parts_in d) (subst (λ (ps : List (ℕ × ℕ)). IsPruneOf (parts_in c) ps (Dropped count) (parts_in d)) (is ∙ applied_same)
          (subst (λ (x : LedgerContents). IsPruneOf (parts_in c) applied (Dropped count) (parts_in x)) (sym is_d) (subst (λ (n : ℕ). IsPruneOf (parts_in c) applied (Dropped n) (parts_in (pruned_in c applied))) (sym is_count) (by_list applied more)))),
    )
      where
        by_list : (ps : List (ℕ × ℕ)) → 0 < length ps → IsPruneOf (parts_in c) ps (Dropped (length ps)) (parts_in (pruned_in c ps))
        by_list [] none = absurd (omega arith)
        by_list (p ∷ ps) more = (refl, record { task = refl; history = refl; editions = (left_in c (p ∷ ps), refl); taken = refl })
