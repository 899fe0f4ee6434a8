use Rattle.std.proofs.Common.{◌∙◌, sym, ap, subst, arith, List, length, get_or}
use Rattle.sp_desk.specs.Runs.{DeskRunParts, left_of, work_of}
use Rattle.sp_workers.specs.Later.{StandsLater}
use Rattle.sp_concurrent.specs.Served.{known_of}
use Rattle.sp_concurrent.proofs.planning.plan_to_end.Goals as goal

pub returns-in-Ok : goal.returns-in-Ok
returns-in-Ok g c =
    let end = c.in-Ok.ensures in
    let planned = c.plan_beside-book.ensures in
    let runs = c.args.opened.runs in
    let count = planned.count in
    let same = c.into_vec.ensures in
    record {
      task = end.task ∙ planned.task;
      known = end.known;
      done = end.done;
      editions = end.editions;
      ended = end.ended;
      list = end.list ∙ planned.list;
      count = ap (λ (rs : List DeskRunParts). length rs) same ∙ omega (arith, count, runs.ok.0);
      later = λ i d less.
          subst (λ (rs : List DeskRunParts). StandsLater work_of known_of left_of (get_or runs.items i d) (get_or rs i d)) (sym same)
          (planned.later i d (omega (arith, less, runs.ok.0)));
    }
