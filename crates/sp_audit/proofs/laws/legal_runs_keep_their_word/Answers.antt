use Rattle.sp_audit.proofs.VerdictLaws.{legal_runs_keep_their_word}
use Rattle.sp_audit.proofs.laws.legal_runs_keep_their_word.Goals as goal

pub returns : goal.returns
returns c = legal_runs_keep_their_word
