-- The ledger before any event.
use Rattle.std.proofs.Common.{◌≡◌, sym, subst, refl, arith, List, [], ◌∷◌, length, replicate, false}
use Rattle.std.specs.Prelude.{ℤ, pos}
use Rattle.std.proofs.lemmas.List.{length-replicate}
use Rattle.std.proofs.lemmas.List.Elements.{All-nil}
use Rattle.sp_dd.specs.Func.{IsScope}
use Rattle.sp_model.specs.Problem.{shape_of, vector_of}
use Rattle.sp_value.specs.Tasks.{TaskParts, IsTask, task_of}
use Rattle.sp_value.specs.Editions.{IsMemberOf, member_of}
use Rattle.sp_ledger.specs.Accounts.{AreWorths}
use Rattle.sp_ledger.specs.Opening.{first_member, first_edition}
use Rattle.sp_ledger.proofs.Leaf.{least_agrees}
use Rattle.sp_ledger.proofs.Numbers.{down_at, first_numbered}
use Rattle.sp_core.specs.Ledgers.{LedgerContents, IsLedger}
use Rattle.sp_core.proofs.Opened.{run_opening}

module _ (t : TaskParts) (is : IsTask t) (scope : IsScope (shape_of t.model)) where
  -- the contents of a ledger before any event
  abbrev first_contents : List ℤ → LedgerContents
  first_contents values = record {
    task = t;
    events = [];
    editions = first_edition t ∷ [];
    records = 1;
    grown = [];
    improved = replicate t.options.beliefs false;
    taken = replicate t.options.beliefs false;
    latest_values = values;
    grown_values = replicate t.options.beliefs (pos 0);
    worths = replicate t.options.beliefs (pos 0);
    stages_left = t.options.stages;
    done = false;
  }

  pub first_ledger : (c : LedgerContents) → c ≡ first_contents c.latest_values → length c.latest_values ≡ t.options.beliefs → AreWorths (task_of t) (vector_of t.model (first_member t).vector) c.latest_values → IsLedger c
  first_ledger c same count worths = subst IsLedger (sym same) (record {
    task = is;
    running = run_opening (task_of t) (member_of t.model (first_member t)) (least_agrees t.model is.model scope t refl) (replicate t.options.beliefs false) c.latest_values (replicate t.options.beliefs (pos 0))
        (length-replicate t.options.beliefs false) (λ k less. down_at t.options.beliefs k) count worths (length-replicate t.options.beliefs (pos 0))
        (let least = is.some_beliefs in omega (arith, least)) (let least = is.some_stages in omega (arith, least));
    numbered = first_numbered t;
    grown = All-nil (IsMemberOf t.model);
    taken = length-replicate t.options.beliefs false;
    worths = length-replicate t.options.beliefs (pos 0);
    few = omega arith;
  })
