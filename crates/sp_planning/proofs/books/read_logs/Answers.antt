use Rattle.std.proofs.Common.{arith, subst}
use Rattle.std.specs.Prelude.{All}
use Rattle.std.specs.List.{AllByRecursion}
use Rattle.std.proofs.lemmas.List.{take_all}
use Rattle.std.proofs.lemmas.List.Elements.{All-more, recursion_from_All}
use Rattle.sp_session.specs.declared.logs.SessionLog.{SessionLog}
use Rattle.sp_session.specs.Logs.{entries_of}
use Rattle.sp_planfile.specs.Form.{HasSmallNumbers}
use Rattle.sp_planning.proofs.books.read_logs.Goals as goal

abbrev small : SessionLog → Type 0
small log = AllByRecursion HasSmallNumbers (entries_of log.entries)

pub loop-log-preserved : goal.loop-log-preserved
loop-log-preserved c = All-more small c.args.logs.now c.loop-log.log-index c.log-item.result (omega arith) c.loop-log.invariant (subst small c.log-item.is (rw c.as_slice.ensures at c.read_entries.ensures))

pub returns : goal.returns
returns c = recursion_from_All small c.args.logs.now (subst (All small) (take_all c.loop-log.log-index c.args.logs.now (omega arith)) c.loop-log.invariant)
