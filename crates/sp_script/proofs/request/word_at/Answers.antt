use Rattle.sp_script.proofs.RequestLemmas.{text_at}
use Rattle.sp_script.proofs.request.word_at.Goals as goal

pub returns : goal.returns
returns c = text_at c.args.words.now c.args.place _ c.requires
