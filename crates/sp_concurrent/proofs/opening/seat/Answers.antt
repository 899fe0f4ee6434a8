use Rattle.std.proofs.Common.{◌∙◌, sym, ap, subst, arith, List, ◌++◌, ◌∷◌, [], length, map, Some}
use Rattle.std.specs.Prelude.{All, Contains}
use Rattle.std.specs.Arc.{arc_value}
use Rattle.std.proofs.lemmas.List.{map-append, length-append}
use Rattle.std.proofs.lemmas.List.Elements.{All-nil, All-push, All-pop, All-contains, All-contains_itself}
use Rattle.sp_value.specs.Tasks.{TaskParts}
use Rattle.sp_publish.specs.Published.{PublishedList, IsOfTask}
use Rattle.sp_script.specs.declared.command.Command.{Command}
use Rattle.sp_desk.specs.Runs.{DeskRunParts, work_of}
use Rattle.sp_concurrent.proofs.opening.seat.Goals as goal

pub loop-commands-init : goal.loop-commands-init
loop-commands-init c =
    let viewers = c.args.viewers.items in
    record {
      count = omega arith;
      viewers = All-contains_itself viewers;
      work = ap (λ (rs : List DeskRunParts). map work_of rs) c.new-runs.ensures.items;
      known = subst (λ (rs : List DeskRunParts). All (λ r. Contains viewers r.desk.known) rs) (sym c.new-runs.ensures.items) (All-nil (λ r. Contains viewers r.desk.known));
    }

pub seat_one-requires-clause-task : goal.seat_one-requires-clause-task
seat_one-requires-clause-task c =
    let viewers = c.args.viewers.items in
    let viewer = c.in-Some-pop.viewer in
    let popped = All-pop (Contains viewers) c.loop-commands.viewers.items c.pop.new.self.items (Some viewer) c.in-Some-pop.ensures.items c.loop-commands.invariant.viewers in
    All-contains (λ (v : PublishedList). IsOfTask v (arc_value c.args.task.now)) viewers viewer c.requires.task popped.1

pub loop-commands-preserved : goal.loop-commands-preserved
loop-commands-preserved c =
    let viewers = c.args.viewers.items in
    let viewer = c.in-Some-pop.viewer in
    let old = c.loop-commands.viewers in
    let new = c.pop.new.self in
    let before = c.loop-commands.yielded in
    let cs = c.in-Some.commands in
    let runs = c.loop-commands.runs.items in
    let run = c.in_ok-run.run' in
    let paired : List Command → List Command × TaskParts = λ ds. (ds, arc_value c.args.task.now) in
    let popped = All-pop (Contains viewers) old.items new.items (Some viewer) c.in-Some-pop.ensures.items c.loop-commands.invariant.viewers in
    let shorter = ap length c.in-Some-pop.ensures.items ∙ length-append new.items (viewer ∷ []) in
    let longer = length-append before (cs ∷ []) in
    let count = c.loop-commands.invariant.count in
    let pushed = c.in_ok-push_run.ensures in
    record {
      count = omega (arith, count, shorter, longer, old.ok.0, new.ok.0);
      viewers = popped.0;
      work = ap (λ (rs : List DeskRunParts). map work_of rs) pushed ∙ map-append work_of runs (run ∷ [])
          ∙ (λ i. c.loop-commands.invariant.work i ++ c.in_ok-run.ensures.work i ∷ []) ∙ sym (map-append paired before (cs ∷ []));
      known = subst (λ (rs : List DeskRunParts). All (λ r. Contains viewers r.desk.known) rs) (sym pushed)
          (All-push (λ (r : DeskRunParts). Contains viewers r.desk.known) runs run c.loop-commands.invariant.known
          (subst (Contains viewers) (sym c.in_ok-run.ensures.known) popped.1));
    }
