use Rattle.std.proofs.Common.{rules, ◌≡◌, ◌≢◌, ◌<◌, ◌∷◌, [], ◌++◌, length, arith, ap, sym, ℤ, subst}
use Rattle.std.specs.List.{AllByRecursion}
use Rattle.std.proofs.lemmas.List.{length-append}
use Rattle.sp_lines.proofs.Lists.{lines_step, all_push}
use Rattle.sp_planfile.specs.PlanText.{value_line}
use Rattle.sp_planfile.specs.Form.{IsTickValue}
use Rattle.sp_planfile.proofs.ValueTexts.{value_lacks}
use Rattle.sp_filed.proofs.Stopped.{left_is, ends_there, ends_before, match_none, match_some}
use Rattle.sp_filed.proofs.sections.value_lines.Goals as goal

pub returns-in_default-clause-err : goal.returns-in_default-clause-err
returns-in_default-clause-err c = λ left e.
    let fewer : length c.loop.values < c.args.count = omega (arith, c.loop.invariant.count) in
    ends_there value_line IsTickValue c.loop.values c.args.count c.args.text.now c.loop.rest.now left c.loop.invariant.read c.loop.invariant.good fewer c.in_default.ensures (left_is _ left e)

pub returns-in_default-2-clause-err : goal.returns-in_default-2-clause-err
returns-in_default-2-clause-err c = λ left e.
    let fewer : length c.loop.values < c.args.count = omega (arith, c.loop.invariant.count) in
    let other = match_none ((z : ℤ) → IsTickValue z → c.in-Some.line.now ≢ value_line z) (λ (z : ℤ). IsTickValue z × (c.in-Some.line.now ≡ value_line z)) c.in_ok-value.field-0 c.in_default-2.is c.in_ok-value.ensures in
    ends_before value_line IsTickValue value_lacks c.loop.values c.args.count c.args.text.now c.loop.rest.now c.in-Some.line.now c.in-Some.more.now left c.loop.invariant.read c.loop.invariant.good fewer c.in-Some.ensures other (left_is _ left e)

pub loop-preserved : goal.loop-preserved
loop-preserved c =
    let pushed : c.push.new.self ≡ c.loop.values ++ (c.in-Some-2.value ∷ []) = search rules in
    let found = match_some ((z : ℤ) → IsTickValue z → c.in-Some.line.now ≢ value_line z) (λ (z : ℤ). IsTickValue z × (c.in-Some.line.now ≡ value_line z)) c.in_ok-value.field-0 c.in-Some-2.value c.in-Some-2.is c.in_ok-value.ensures in
    record {
      count = omega (arith, ap length pushed, length-append c.loop.values (c.in-Some-2.value ∷ []), c.loop.invariant.count);
      read = lines_step value_line c.loop.values c.push.new.self c.in-Some-2.value c.args.text.now c.loop.rest.now c.in-Some.line.now c.in-Some.more.now c.loop.invariant.read c.in-Some.ensures found.1 pushed;
      good = subst (AllByRecursion IsTickValue) (sym pushed) (all_push IsTickValue c.loop.values c.in-Some-2.value c.loop.invariant.good found.0);
    }

pub returns-clause-ok : goal.returns-clause-ok
returns-clause-ok c = (c.loop.invariant.read, omega (arith, c.loop.invariant.count), c.loop.invariant.good)
