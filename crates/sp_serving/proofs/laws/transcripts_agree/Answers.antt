use Rattle.sp_serving.proofs.Transcripts.{transcripts_agree}
use Rattle.sp_serving.proofs.laws.transcripts_agree.Goals as goal

pub returns : goal.returns
returns c = transcripts_agree
