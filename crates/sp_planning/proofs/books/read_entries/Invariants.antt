use Rattle.std.proofs.Common.{take}
use Rattle.std.specs.Prelude.{All}
use Rattle.sp_session.specs.Logs.{entry_of}
use Rattle.sp_planfile.specs.Form.{HasSmallNumbers}
use Rattle.sp_planning.proofs.books.read_entries.Given as goal

abbrev pub invariant-loop-entry : goal.invariant-loop-entry
invariant-loop-entry l = All (λ entry. HasSmallNumbers (entry_of entry)) (take l.entry-index l.entries)
