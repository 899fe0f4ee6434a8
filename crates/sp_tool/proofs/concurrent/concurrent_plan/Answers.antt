use Rattle.std.proofs.Common.{map, string_bytes, ap, Err}
use Rattle.sp_tool.proofs.TableLemmas.{concurrent_plan_of}
use Rattle.sp_tool.proofs.concurrent.concurrent_plan.Goals as goal

pub returns-in-Ok : goal.returns-in-Ok
returns-in-Ok c = concurrent_plan_of (map string_bytes c.args.words.now) c.in-Ok.job c.concurrent_words.result c.in-Ok.ensures.asks c.in-Ok.ensures.possible c.concurrent_words.ensures

pub returns-in-Err-Usage : goal.returns-in-Err-Usage
returns-in-Err-Usage c = λ job asks. absurd (c.in-Err-Usage.ensures.usage (ap Err c.in-Err-Usage.field-0-is) job asks)
