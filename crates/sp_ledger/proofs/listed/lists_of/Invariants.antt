use Rattle.std.proofs.Common.{◌≡◌, ℕ, ◌<◌, length, get_or, Option, IfSome}
use Rattle.sp_states.specs.declared.support.SupportList.{SupportList}
use Rattle.sp_value.specs.Tasks.{sampled_func}
use Rattle.sp_ledger.proofs.listed.lists_of.Given as goal

abbrev pub invariant-loop-belief : goal.invariant-loop-belief
invariant-loop-belief l =
    record {
      count : length l.lists.items ≡ l.belief;
      each : (k : ℕ) (d : Option SupportList) → k < l.belief → IfSome (get_or l.lists.items k d) (λ f. f ≡ sampled_func l.task k);
    }
