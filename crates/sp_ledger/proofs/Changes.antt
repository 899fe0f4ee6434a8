-- How the lists of a ledger change.
use Rattle.std.proofs.Common.{◌≡◌, arith, List, length, map, Bool, false}
use Rattle.std.specs.Prelude.{ℤ, pos}
use Rattle.std.specs.List.{range_with_len}
use Rattle.std.proofs.lemmas.List.FromFn.{fill_by_all, get_or-map-range_with_len, length-map-range_with_len}
use Rattle.sp_ledger.specs.Accounts.{AreRaised, AreLifted, raised_at, lifted_to}

-- raised flags and lifted values as lists
pub raised_is : (ws ls : List ℤ) (old new : List Bool) → AreRaised ws ls old new → new ≡ map (raised_at ws ls old) (range_with_len 0 (length old))
raised_is ws ls old new raised = fill_by_all (raised_at ws ls old) new (length old) false raised.count raised.each

pub lifted_is : (first : Bool) (ws old new : List ℤ) → AreLifted first ws old new → new ≡ map (lifted_to first ws old) (range_with_len 0 (length old))
lifted_is first ws old new lifted = fill_by_all (lifted_to first ws old) new (length old) (pos 0) lifted.count lifted.each

pub raised_list : (ws ls : List ℤ) (old : List Bool) → AreRaised ws ls old (map (raised_at ws ls old) (range_with_len 0 (length old)))
raised_list ws ls old = record {
  count = length-map-range_with_len (raised_at ws ls old) 0 (length old);
  each = λ k less. get_or-map-range_with_len (raised_at ws ls old) 0 (length old) k k false less (omega arith);
}

pub lifted_list : (first : Bool) (ws old : List ℤ) → AreLifted first ws old (map (lifted_to first ws old) (range_with_len 0 (length old)))
lifted_list first ws old = record {
  count = length-map-range_with_len (lifted_to first ws old) 0 (length old);
  each = λ k less. get_or-map-range_with_len (lifted_to first ws old) 0 (length old) k k (pos 0) less (omega arith);
}
