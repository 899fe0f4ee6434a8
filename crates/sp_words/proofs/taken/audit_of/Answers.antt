use Rattle.std.proofs.Common.{codes}
use Rattle.clap.specs.Words.{found_of, rows_of, first_of}
use Rattle.sp_words.specs.Jobs.{Gives}
use Rattle.sp_words.proofs.JobLemmas.{audit_only}
use Rattle.sp_words.proofs.ParserLemmas.{no_text}
use Rattle.sp_words.proofs.taken.audit_of.Goals as goal

pub returns-in-Err-clause-usage : goal.returns-in-Err-clause-usage
returns-in-Err-clause-usage c =
    let rows = rows_of (found_of c.args.matches.now) in
    λ e. audit_only (Gives rows) (no_text (first_of (codes "plan") rows) (c.in-Err.ensures.usage (cc e)))
