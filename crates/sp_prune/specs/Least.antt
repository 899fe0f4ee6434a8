-- The least id of some members.
use Rattle.std.specs.Prelude.{ℕ, List, [], ◌∷◌, Bool, true, nat_lt, Option, Some, None}
use Rattle.sp_theory.specs.Values.{Member}
use Rattle.sp_theory.specs.OneThread.{least_id}

-- the least id of these members, if there are any
abbrev pub least_of : List Member → Option ℕ
least_of [] = None
least_of (x ∷ xs) = Some (least_id x.id xs)

-- the number is less than the least one, if there is one
abbrev pub is_less_than : ℕ → Option ℕ → Bool
is_less_than id None = true
is_less_than id (Some least) = nat_lt id least
