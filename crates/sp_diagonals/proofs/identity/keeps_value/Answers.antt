use Rattle.std.proofs.Common.{◌≡◌, ◌<◌, ap, sym, ◌∙◌, arith}
use Rattle.std.proofs.lemmas.Bool.{false≢true}
use Rattle.sp_dd.specs.Func.{size_of}
use Rattle.sp_ddops.proofs.IdentityLemmas.{identity_from, identity_part}
use Rattle.sp_diagonals.proofs.identity.keeps_value.Goals as goal

pub returns-then-not-is_one_at-clause-no : goal.returns-then-not-is_one_at-clause-no
returns-then-not-is_one_at-clause-no c k =
    let size : c.size-value-end.result ≡ size_of c.args.p.now.shape c.args.primed = c.size-value-end.ensures ∙ ap (λ s. size_of s c.args.primed) c.scope.ensures.value in
    let low : c.loop-value.value < size_of c.args.p.now.shape c.args.primed = omega (arith, size, c.loop-value-test.true) in
    false≢true (sym c.if-not-is_one_at.true ∙ c.is_one_at.ensures.1 (identity_part _ _ c.loop-value.value c.scope.ensures.known c.requires.row k low))

pub returns-clause-yes : goal.returns-clause-yes
returns-clause-yes c =
    let size : c.size-value-end.result ≡ size_of c.args.p.now.shape c.args.primed = c.size-value-end.ensures ∙ ap (λ s. size_of s c.args.primed) c.scope.ensures.value in
    identity_from c.args.p.now c.args.primed c.size-value-end.result c.scope.ensures.known c.requires.primed size
    (λ v l. c.loop-value.invariant v (omega (arith, l, c.loop-value-test.false)))
