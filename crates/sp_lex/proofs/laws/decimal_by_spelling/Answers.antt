use Rattle.sp_lex.proofs.Spelling.{decimal_spelled}
use Rattle.sp_lex.proofs.laws.decimal_by_spelling.Goals as goal

pub returns : goal.returns
returns c = decimal_spelled c.args.word.now
