use Rattle.std.proofs.Common.{arith, subst}
use Rattle.std.specs.Prelude.{All}
use Rattle.std.proofs.lemmas.List.{take_all}
use Rattle.std.proofs.lemmas.List.Elements.{All-more, All-map, recursion_from_All}
use Rattle.sp_session.specs.declared.logs.Entry.{Entry}
use Rattle.sp_session.specs.declared.logs.Entry.TheVariants.{Told}
use Rattle.sp_session.specs.Logs.{entry_of, entries_of}
use Rattle.sp_planfile.specs.Form.{HasSmallNumbers}
use Rattle.sp_planning.proofs.books.read_entries.Goals as goal

abbrev small : Entry → Type 0
small entry = HasSmallNumbers (entry_of entry)

pub loop-entry-preserved : goal.loop-entry-preserved
loop-entry-preserved c = All-more small c.args.entries.now c.loop-entry.entry-index (Told 0) (omega arith) c.loop-entry.invariant c.read_entry.ensures

pub returns : goal.returns
returns c =
    recursion_from_All HasSmallNumbers (entries_of c.args.entries.now)
    (All-map HasSmallNumbers entry_of c.args.entries.now (subst (All small) (take_all c.loop-entry.entry-index c.args.entries.now (omega arith)) c.loop-entry.invariant))
