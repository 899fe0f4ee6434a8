use Rattle.std.proofs.Common.{rules, ◌<◌, ◌∙◌, sym, ap, ◌≡◌, ◌++◌, ◌∷◌, [], subst, length}
use Rattle.std.specs.List.{AllByRecursion}
use Rattle.sp_lines.specs.Lines.{numbers_behind_spaces, IsSmall}
use Rattle.sp_lines.proofs.Spaces.{spaced_push, small_push, list_after, list_begins}
use Rattle.sp_lines.proofs.reading.spaced_numbers.Goals as goal

pub loop-rest-preserved : goal.loop-rest-preserved
loop-rest-preserved c =
    let pushed : c.push.new.self ≡ c.loop-rest.numbers ++ (c.in-Some.number ∷ []) = search rules in
    let begins = c.in-Some.ensures in
    record {
      read = c.loop-rest.invariant.read ∙ ap (λ l. numbers_behind_spaces c.loop-rest.numbers ++ l) begins.is ∙ sym (spaced_push c.loop-rest.numbers c.in-Some.number c.in-Some.more.now) ∙ ap (λ l. numbers_behind_spaces l ++ c.in-Some.more.now) (sym pushed);
      small = subst (AllByRecursion IsSmall) (sym pushed) (small_push c.loop-rest.numbers c.in-Some.number c.loop-rest.invariant.small begins.small);
      left = λ whole. list_after c.loop-rest.rest.now c.in-Some.number c.in-Some.more.now begins (c.loop-rest.invariant.left whole);
    }

pub returns-in-None : goal.returns-in-None
returns-in-None c = λ ns small e. let some : 0 < length c.loop-rest.rest.now = search rules in list_begins c.loop-rest.rest.now some (c.loop-rest.invariant.left (ns, small, e)) c.in-None.ensures
