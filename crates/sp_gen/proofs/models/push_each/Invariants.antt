use Rattle.std.proofs.Common.{◌≡◌, ◌++◌, ◌+◌, ◌-◌, string_bytes}
use Rattle.sp_gen.specs.Models.{each}
use Rattle.sp_gen.proofs.models.push_each.Given as goal

abbrev pub invariant-loop-number : goal.invariant-loop-number
invariant-loop-number l =
    string_bytes l.fn.text ++ each l.before l.after l.first l.count
    ≡ string_bytes l.text ++ each l.before l.after l.number-counter (l.first + l.count - l.number-counter)
