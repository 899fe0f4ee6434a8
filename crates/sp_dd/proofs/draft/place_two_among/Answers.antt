use Rattle.std.proofs.Common.{◌∙◌}
use Rattle.sp_dd.proofs.Indexing.{put_found, is_new, apart_push}
use Rattle.sp_dd.proofs.draft.place_two_among.Goals as goal

pub returns-in-Some-clause-place : goal.returns-in-Some-clause-place
returns-in-Some-clause-place c = put_found _ _ _ c.in-Some.ensures.0 c.in-Some.ensures.1 c.requires.apart

pub returns-clause-place : goal.returns-clause-place
returns-clause-place c = is_new _ _ _ _ c.in_default.ensures (c.count_word-2.ensures ∙ c.count_word.ensures ∙ c.in_ok-push_two.ensures.ok) c.len-at.ensures

pub returns-clause-apart : goal.returns-clause-apart
returns-clause-apart c = apart_push _ _ _ c.requires.apart c.in_default.ensures (c.count_word-2.ensures ∙ c.count_word.ensures ∙ c.in_ok-push_two.ensures.ok)
