use Rattle.std.proofs.Common.{◌∙◌, sym, arith, length}
use Rattle.std.proofs.lemmas.Bool.{eqb-true}
use Rattle.std.proofs.lemmas.Result.{err_from_is_err_and}
use Rattle.sp_script.proofs.ReadingLemmas.{read_none, refused_by, read_more, read_all}
use Rattle.sp_script.proofs.reading.take_lines.Goals as goal

pub loop-rest-init : goal.loop-rest-init
loop-rest-init c = record { ledger = c.requires.kept; read = read_none c.args.sights.now c.args.source.now c.args.ledger.now.commands c.requires.none; fits = omega arith }

pub returns-in_err-take_line-clause-err : goal.returns-in_err-take_line-clause-err
returns-in_err-take_line-clause-err c =
    let p = err_from_is_err_and c.from_residual.result c.from_residual.ensures.1 in
    rw (p.1, p.2) (refused_by c.args.sights.now c.args.source.now c.loop-rest.rest.now c.loop-rest.number c.loop-rest.ledger.commands c.loop-rest.invariant.read c.first_line.result.0.now c.first_line.result.1.now c.first_line.ensures.value c.in_err-take_line.field-0.0 c.in_err-take_line.ensures.err)

pub loop-rest-preserved : goal.loop-rest-preserved
loop-rest-preserved c = record {
  ledger = c.in_ok-take_line.ensures.kept;
  read = read_more c.args.sights.now c.args.source.now c.loop-rest.rest.now c.loop-rest.number c.loop-rest.ledger.commands c.loop-rest.invariant.read c.first_line.result.0.now c.first_line.result.1.now c.first_line.ensures.value c.take_line.new.ledger.commands c.in_ok-take_line.ensures.taken;
  fits = let less = c.first_line.ensures.less in let before = c.loop-rest.invariant.fits in omega (arith, less, before);
}

pub returns-clause-ok : goal.returns-clause-ok
returns-clause-ok c = read_all c.args.sights.now c.args.source.now c.loop-rest.rest.now c.loop-rest.number c.loop-rest.ledger.commands c.loop-rest.invariant.read (eqb-true (length c.loop-rest.rest.now) 0 (sym c.is_empty.ensures ∙ c.loop-rest-test.false))
