use Rattle.std.proofs.Common.{rules, ◌<◌, ◌∙◌, sym, ap, ◌≡◌, ◌++◌, ◌∷◌, [], subst, length}
use Rattle.std.specs.List.{AllByRecursion}
use Rattle.sp_lines.specs.Lines.{spaced_pairs, IsSmallPair}
use Rattle.sp_lines.proofs.Spaces.{pairs_push, small_pairs_push, pairs_after, pairs_begin}
use Rattle.sp_lines.proofs.reading.pairs_of.Goals as goal

pub loop-rest-preserved : goal.loop-rest-preserved
loop-rest-preserved c =
    let pushed : c.push.new.self ≡ c.loop-rest.pairs ++ (c.in-Some.pair ∷ []) = search rules in
    let begins = c.in-Some.ensures in
    record {
      read = c.loop-rest.invariant.read ∙ ap (λ l. spaced_pairs c.loop-rest.pairs ++ l) begins.is ∙ sym (pairs_push c.loop-rest.pairs c.in-Some.pair.0 c.in-Some.pair.1 c.in-Some.more.now) ∙ ap (λ l. spaced_pairs l ++ c.in-Some.more.now) (sym pushed);
      small = subst (AllByRecursion IsSmallPair) (sym pushed) (small_pairs_push c.loop-rest.pairs c.in-Some.pair c.loop-rest.invariant.small begins.small);
      left = λ whole. pairs_after c.loop-rest.rest.now c.in-Some.pair.0 c.in-Some.pair.1 c.in-Some.more.now begins (c.loop-rest.invariant.left whole);
    }

pub returns-in-None : goal.returns-in-None
returns-in-None c = λ ps small e. let some : 0 < length c.loop-rest.rest.now = search rules in pairs_begin c.loop-rest.rest.now some (c.loop-rest.invariant.left (ps, small, e)) c.in-None.ensures
