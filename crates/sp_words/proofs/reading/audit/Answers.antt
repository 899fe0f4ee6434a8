use Rattle.std.proofs.Common.{map, string_bytes}
use Rattle.sp_words.specs.Jobs.{AsksBehind}
use Rattle.sp_words.proofs.JobLemmas.{audit_only}
use Rattle.sp_words.proofs.reading.audit.Goals as goal

pub returns-in-Err-clause-usage : goal.returns-in-Err-clause-usage
returns-in-Err-clause-usage c = λ e. audit_only (AsksBehind (map string_bytes c.args.words.now)) (c.in-Err.ensures.usage (cc e))
