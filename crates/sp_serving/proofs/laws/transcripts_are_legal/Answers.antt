use Rattle.sp_serving.proofs.Transcripts.{transcripts_are_legal}
use Rattle.sp_serving.proofs.laws.transcripts_are_legal.Goals as goal

pub returns : goal.returns
returns c = transcripts_are_legal
