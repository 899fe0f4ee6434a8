use Rattle.sp_read_back.proofs.Models.{read_back}
use Rattle.sp_read_back.proofs.laws.canonical_text_is_read_back.Goals as goal

pub returns : goal.returns
returns c = read_back
