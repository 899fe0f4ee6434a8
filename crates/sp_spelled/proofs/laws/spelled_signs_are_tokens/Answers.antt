use Rattle.sp_spelled.proofs.Lexed.{lexed}
use Rattle.sp_spelled.proofs.laws.spelled_signs_are_tokens.Goals as goal

pub returns : goal.returns
returns c = lexed
