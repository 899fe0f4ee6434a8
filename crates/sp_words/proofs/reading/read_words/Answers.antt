use Rattle.std.proofs.Common.{Err, ap, map, string_bytes}
use Rattle.sp_words.proofs.ParserLemmas.{asks_taken, asks_nothing}
use Rattle.sp_words.proofs.reading.read_words.Goals as goal

pub returns-in-Err-Usage-clause-asks : goal.returns-in-Err-Usage-clause-asks
returns-in-Err-Usage-clause-asks c = asks_taken (map string_bytes c.args.words.now) c.read_by_parser.result (c.in-Err-Usage.ensures.usage (ap Err c.in-Err-Usage.field-0-is)) c.read_by_parser.ensures.asks

pub returns-in-Err-Usage-clause-usage : goal.returns-in-Err-Usage-clause-usage
returns-in-Err-Usage-clause-usage c = λ e. asks_nothing (map string_bytes c.args.words.now) (c.in-Err-Usage.ensures.usage (ap Err c.in-Err-Usage.field-0-is)) (c.read_by_parser.ensures.usage e)
