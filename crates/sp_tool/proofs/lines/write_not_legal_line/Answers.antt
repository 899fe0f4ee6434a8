use Rattle.std.proofs.Common.{refl}
use Rattle.sp_tool.proofs.LineLemmas.{not_legal_is}
use Rattle.sp_tool.proofs.lines.write_not_legal_line.Goals as goal

pub returns : goal.returns
returns c = not_legal_is c.args.file.now c.args.note.now c.in_ok-line.line.items _ c.push_line.new.line.items c.in_ok-line.ensures refl c.in_ok-push_line.ensures
