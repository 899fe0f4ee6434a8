use Rattle.std.proofs.Common.{◌≡◌, drop}
use Rattle.sp_outside.specs.Files.{content_of}
use Rattle.sp_outside.specs.Entries.{files_of}
use Rattle.sp_outside.proofs.files.Files.content.Given as goal

abbrev pub invariant-loop-entry : goal.invariant-loop-entry
invariant-loop-entry l = content_of l.self l.name ≡ content_of (files_of (drop l.entry-index l.entry-items)) l.name
