use Rattle.std.proofs.Common.{refl}
use Rattle.sp_tool.proofs.LineLemmas.{refused_is}
use Rattle.sp_tool.proofs.lines.write_refused_line.Goals as goal

pub returns : goal.returns
returns c = refused_is c.args.file.now c.args.at c.args.kind.now c.in_ok-line.line.items _ c.push_line.new.line.items c.in_ok-line.ensures refl c.in_ok-push_line.ensures
