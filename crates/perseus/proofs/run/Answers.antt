use Rattle.std.proofs.Common.{rules}
use denote.Param.Object.{read_made}
use mathlib.Core.Path.{refl, ap, ◌∙◌}
use mathlib.Core.Logic.{inl, inr}
use Rattle.sp_choose.specs.declared.Chooser.{Ghosts}
use Rattle.sp_choose.specs.Machines.{sweep}
use Rattle.sp_tool.proofs.Pushed.{images_of_two}
use Rattle.perseus.proofs.run.OwnLists.{own-1}
use Rattle.perseus.proofs.run.Goals as goal

-- a member read at a box is that of the value in it, at the entry of the value's type
pub run_tool-requires : goal.run_tool-requires
run_tool-requires g c = (
  search,
  images_of_two _ {none = c.new-choosers.result.items} {one = c.push.new.self.items} {a = c.into_dyn_box.result} {b = c.into_dyn_box-in_ok-new-2.result}
      (search) (search rules) (search rules)
      (read_made {G = Ghosts} own-1 (own-1.entry (inl tt)) (inl tt) refl _ (λ j v. j.1.machine v) _ _ _ c.into_dyn_box.ensures.1)
      (read_made {G = Ghosts} own-1 (own-1.entry (inr (inl tt))) (inr (inl tt)) refl _ (λ j v. j.1.machine v) _ _ _ c.into_dyn_box-in_ok-new-2.ensures.1 ∙ ap sweep (search rules)),
)
