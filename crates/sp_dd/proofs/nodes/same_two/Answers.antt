use Rattle.sp_dd.proofs.Doubles.{two_apart, two_same}
use Rattle.sp_dd.proofs.nodes.same_two.Goals as goal

pub returns-then-not-has_plain : goal.returns-then-not-has_plain
returns-then-not-has_plain c = two_apart _ _ _ _ _ c.requires.within c.has_plain.ensures c.if-not-has_plain.true

pub returns : goal.returns
returns c = two_same _ _ _ _ _ c.requires.within (c.has_plain.ensures.0 c.if-not-has_plain.false) c.has_plain-2.ensures
