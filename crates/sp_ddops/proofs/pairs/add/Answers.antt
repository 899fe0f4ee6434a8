use Rattle.sp_ddops.proofs.PairLemmas.{plus_zero, zero_plus}
use Rattle.sp_ddops.proofs.ZeroLemmas.{true_of}
use Rattle.sp_ddops.proofs.pairs.add.Goals as goal

pub returns-then-is_zero : goal.returns-then-is_zero
returns-then-is_zero c = plus_zero _ _ _ c.scope.ensures.known c.scope.ensures.determined c.requires.scopes (true_of _ _ c.if-is_zero.true c.is_zero.ensures.yes) c.in_ok-same.ensures

pub returns-then-is_zero-2 : goal.returns-then-is_zero-2
returns-then-is_zero-2 c = zero_plus _ _ _ c.scope.ensures.known c.scope-2.ensures.determined c.requires.scopes (true_of _ _ c.if-is_zero-2.true c.is_zero-2.ensures.yes) c.in_ok-same-2.ensures
