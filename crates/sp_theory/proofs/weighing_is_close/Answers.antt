use Rattle.sp_theory.proofs.Weighing.{weigh_out_below, weigh_out_above, weigh_out_mono, weigh_out_range}
use Rattle.sp_theory.proofs.weighing_is_close.Goals as goal

pub returns : goal.returns
returns c size row f whole = (weigh_out_below size row f, weigh_out_above size row f, weigh_out_mono size row f, weigh_out_range size row f whole)
