use Rattle.std.proofs.Common.{refl, map, string_bytes}
use Rattle.sp_words.specs.Pieces.{item_of}
use Rattle.sp_words.proofs.JobLemmas.{plan_read, plan_unread, plan_other}
use Rattle.sp_words.proofs.reading.plan.Goals as goal

pub returns-in-Err-clause-usage : goal.returns-in-Err-clause-usage
returns-in-Err-clause-usage c = λ e. plan_unread (map string_bytes c.args.words.now) (c.in-Err.ensures.not_words (cc e))

pub returns-in-Ok-plan_in-clause-asks : goal.returns-in-Ok-plan_in-clause-asks
returns-in-Ok-plan_in-clause-asks c = (refl, plan_read (map string_bytes c.args.words.now) (map item_of c.in-Ok.pieces.items) c.in-Ok-plan_in.plan c.in-Ok.ensures.ok (rw (← c.deref.ensures.value) c.in-Ok-plan_in.ensures.plan))

pub returns-clause-usage : goal.returns-clause-usage
returns-clause-usage c = λ e. plan_other (map string_bytes c.args.words.now) (map item_of c.in-Ok.pieces.items) c.in-Ok.ensures.ok (rw (← c.deref.ensures.value) (c.in-Err-plan_in.ensures.usage (cc e)))
