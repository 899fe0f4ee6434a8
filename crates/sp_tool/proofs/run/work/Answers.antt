use Rattle.std.proofs.Common.{map, string_bytes, ap, refl, Err}
use Rattle.sp_tool.proofs.run.work.Goals as goal

pub text_for-text-requires-clause-plain : goal.text_for-text-requires-clause-plain
text_for-text-requires-clause-plain g c = c.requires.plain c.in-Ok.job c.in-Ok.ensures.asks

pub returns-in-Err-Usage-clause-cause : goal.returns-in-Err-Usage-clause-cause
returns-in-Err-Usage-clause-cause g c = (c.in-Err-Usage.ensures.usage (ap Err c.in-Err-Usage.field-0-is), refl, refl, refl)

pub returns-clause-cause : goal.returns-clause-cause
returns-clause-cause g c =
    c.written.ensures (map string_bytes c.args.words.now) c.in-Ok.job (g.S.Store.folder c.args.store.now) (g.S.Store.folder c.text_for-text.new.store) c.in-Ok.ensures.asks c.text_for-text.ensures.text c.text_for-text.ensures.fault
