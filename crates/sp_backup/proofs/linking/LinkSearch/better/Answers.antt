use Rattle.std.proofs.Common.{sym, ap, Bool, cond}
use Rattle.sp_backup.proofs.UnscaledSums.{far_less, far_more}
use Rattle.sp_backup.proofs.Windows.{apart_from, apart_fits}
use Rattle.sp_backup.proofs.linking.LinkSearch.better.Goals as goal

pub returns-then-next-window-clause-chosen : goal.returns-then-next-window-clause-chosen
returns-then-next-window-clause-chosen c =
    let s = c.args.self.now in
    let t = s.setting.now in
    sym (ap (λ (b : Bool). cond b c.args.next.place c.args.best.place)
    (far_less t.edition.now c.members.ensures.known t.weights.now s.action s.joint t.scope c.func.ensures.known s.action_known s.joint_known t.low t.high t.range c.args.next c.args.best c.requires.next c.requires.best
    (apart_from c.args.next.sum c.args.best.sum _ _ c.requires.next.small c.requires.best.small c.link_window-window.ensures.small c.link_window-window.ensures.value c.if-next-window.true)))

pub returns-then-best-window-clause-chosen : goal.returns-then-best-window-clause-chosen
returns-then-best-window-clause-chosen c =
    let s = c.args.self.now in
    let t = s.setting.now in
    sym (ap (λ (b : Bool). cond b c.args.next.place c.args.best.place)
    (far_more t.edition.now c.members.ensures.known t.weights.now s.action s.joint t.scope c.func.ensures.known s.action_known s.joint_known t.low t.high t.range c.args.next c.args.best c.requires.next c.requires.best
    (apart_from c.args.best.sum c.args.next.sum _ _ c.requires.best.small c.requires.next.small c.link_window-window.ensures.small c.link_window-window.ensures.value c.if-best-window.true)))

pub overflow_add-best : goal.overflow_add-best
overflow_add-best c = apart_fits c.args.best.sum c.link_window-window.result c.requires.best.small c.link_window-window.ensures.small
