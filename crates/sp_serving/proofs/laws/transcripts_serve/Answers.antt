use Rattle.sp_serving.proofs.Transcripts.{transcripts_serve}
use Rattle.sp_serving.proofs.laws.transcripts_serve.Goals as goal

pub returns : goal.returns
returns c = transcripts_serve
