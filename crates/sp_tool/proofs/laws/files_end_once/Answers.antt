use Rattle.sp_tool.proofs.TableLemmas.{files_end_once}
use Rattle.sp_tool.proofs.laws.files_end_once.Goals as goal

pub returns : goal.returns
returns c = files_end_once
