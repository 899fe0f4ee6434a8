use Rattle.std.proofs.Common.{◌-◌, ◌∙◌, ap, arith}
use Rattle.sp_dd.specs.Func.{Shape, size_of}
use Rattle.sp_table.proofs.PlaceLemmas.{Mentions-length}
use Rattle.sp_table.proofs.DiagonalLemmas.{diagonal_frame, primed_within}
use Rattle.sp_table.proofs.renaming.diagonal_widths.Goals as goal

pub index_mut-requires : goal.index_mut-requires
index_mut-requires c =
    omega (arith, (primed_within c.args.f.now c.args.primed c.in_ok-widths.ensures.scope c.requires).0, Mentions-length _ _ c.in_ok-widths.ensures.mentions, c.in_ok-widths.widths.ok)

pub returns : goal.returns
returns c = diagonal_frame c.args.f.now c.args.primed _ _ c.requires c.in_ok-widths.ensures (c.size-size.ensures ∙ ap (λ (s : Shape). size_of s (c.args.primed - 1)) c.scope.ensures.value)
