use Rattle.std.proofs.Common.{◌<◌, ◌∙◌, sym, arith, length}
use Rattle.sp_model.specs.Problem.{sizes_of}
use Rattle.sp_model.proofs.Counts.{count_more, size_at, length-sizes_of}
use Rattle.sp_model.proofs.counting.point_count.Goals as goal

pub overflow_mul-count : goal.overflow_mul-count
overflow_mul-count c =
    let here : c.loop-decl.decl-index < length (sizes_of c.args.decls.now) = omega (arith, length-sizes_of c.args.decls.now) in
    let more = count_more (sizes_of c.args.decls.now) c.loop-decl.decl-index c.loop-decl.count c.len-count.result c.requires.some here c.loop-decl.invariant
    (c.len-count.ensures ∙ sym (size_at c.args.decls.now c.loop-decl.decl-index c.decl-item.result c.loop-decl-test.true c.decl-item.is)) in
    omega (arith, more.1, c.requires.few)

pub loop-decl-preserved : goal.loop-decl-preserved
loop-decl-preserved c =
    let here : c.loop-decl.decl-index < length (sizes_of c.args.decls.now) = omega (arith, length-sizes_of c.args.decls.now) in
    (count_more (sizes_of c.args.decls.now) c.loop-decl.decl-index c.loop-decl.count c.len-count.result c.requires.some here c.loop-decl.invariant
    (c.len-count.ensures ∙ sym (size_at c.args.decls.now c.loop-decl.decl-index c.decl-item.result c.loop-decl-test.true c.decl-item.is))).0
