use Rattle.std.proofs.Common.{ℕ, ◌+◌, ◌++◌, ◌∙◌, drop, sym, ap, get_or}
use Rattle.sp_model.specs.declared.parts.Factor.{Factor}
use Rattle.sp_canonical.specs.ModelSigns.{factor_tables, function_lines, functions_lines, lines_total}
use Rattle.sp_canonical.proofs.Loops.{went_on, next_function, next_count, get_or_any}
use Rattle.sp_canonical.proofs.init.put_factor_lines.Goals as goal

pub loop-i-preserved : goal.loop-i-preserved
loop-i-preserved c =
    let f : Factor = get_or c.args.factors.now c.loop-i.i c.index-factors-i.result in
    let is = get_or_any c.args.factors.now c.loop-i.i c.index-factors-i.result f c.loop-i-test.true in
    let next = c.in_ok-base.ensures in
    record {
      text = went_on _ _ _ _ _ (function_lines c.args.parts.now c.loop-i.base f.func) _ c.loop-i.invariant.text c.in_ok-put_lines.ensures
          (next_function (λ (g : Factor). g.func) c.args.factors.now c.loop-i.i f c.loop-i-test.true is c.args.parts.now c.loop-i.base
          ∙ ap (λ (n : ℕ). function_lines c.args.parts.now c.loop-i.base f.func ++ functions_lines c.args.parts.now n (factor_tables (drop (c.loop-i.i + 1) c.args.factors.now))) (sym next));
      count =
          ap (λ (n : ℕ). n + lines_total (factor_tables (drop (c.loop-i.i + 1) c.args.factors.now))) next
          ∙ sym (next_count (λ (g : Factor). g.func) c.args.factors.now c.loop-i.i f c.loop-i-test.true is c.loop-i.base) ∙ c.loop-i.invariant.count;
    }
