use Rattle.sp_theory.proofs.Prompt.{end_follows_publication}
use Rattle.sp_theory.proofs.end_follows_publication.Goals as goal

pub returns : goal.returns
returns c = end_follows_publication
