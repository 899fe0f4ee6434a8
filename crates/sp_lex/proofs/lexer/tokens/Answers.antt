use Rattle.std.proofs.Common.{◌≡◌, ◌+◌, Some, sym, ap, ◌∙◌, subst, length, drop, arith}
use Rattle.sp_lex.specs.Tokens.{piece_of}
use Rattle.sp_lex.proofs.Steps.{IsReadTo, read_piece}
use Rattle.sp_lex.proofs.lexer.tokens.Goals as goal

pub loop-at-preserved : goal.loop-at-preserved
loop-at-preserved c =
    let source = c.args.source.now in
    let at = c.loop-at.at in
    let piece = c.in-Some.piece in
    let seen : piece_of (drop c.loop-at.at c.args.source.now) ≡ Some c.in-Some.piece = ap piece_of (sym c.rest_at.ensures) ∙ sym c.front_piece.ensures.value ∙ c.in-Some.is in
    let within = c.in-Some.ensures.within in
    let fits = ap length c.rest_at.ensures in
    subst (λ list. IsReadTo source list (at + piece.len)) (sym c.in_ok-put.ensures)
    (read_piece source c.loop-at.list.items at c.loop-at.invariant piece seen (omega (arith, within)) (omega (arith, within, fits)))
