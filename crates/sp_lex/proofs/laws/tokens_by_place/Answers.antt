use Rattle.sp_lex.proofs.Unique.{cut_alone, forbidden_alone}
use Rattle.sp_lex.proofs.laws.tokens_by_place.Goals as goal

pub returns : goal.returns
returns c = record { cut = cut_alone c.args.source.now; forbidden = forbidden_alone c.args.source.now }
