use Rattle.std.proofs.Common.{◌≡◌, rules, sym, ap, ◌∙◌, arith, Bool, true, false, cond}
use Rattle.std.specs.Int.{w128}
use Rattle.std.specs.Prelude.{FitsSigned}
use Rattle.std.proofs.lemmas.Int.{to_z-of_z}
use Rattle.sp_model.specs.Links.{weights_of}
use Rattle.sp_value.specs.Scores.{outdoes}
use Rattle.sp_backup.specs.Trials.{worth_of}
use Rattle.sp_backup.proofs.Promised.{far_less, far_more, made-worth}
use Rattle.sp_backup.proofs.Windows.{apart_from, apart_fits}
use Rattle.sp_backup.proofs.promises.better.Goals as goal

pub returns-then-next-window-clause-chosen : goal.returns-then-next-window-clause-chosen
returns-then-next-window-clause-chosen c =
    let t = c.args.setting.now in
    let small_next = c.requires.next.small in
    let small_best = c.requires.best.small in
    sym (ap (λ (b : Bool). cond b c.args.next.action c.args.best.action)
    (far_less t.edition.now c.members.ensures.known t.low t.high t.range t.weights.now t.scope c.func.ensures.known c.args.next c.args.best c.requires.next c.requires.best
    (apart_from c.args.next.promise c.args.best.promise _ _ (omega (arith, small_next)) (omega (arith, small_best)) c.action_window-window.ensures.small c.action_window-window.ensures.value c.if-next-window.true)))

pub overflow_add-best : goal.overflow_add-best
overflow_add-best c = let small = c.requires.best.small in apart_fits c.args.best.promise c.action_window-window.result (omega (arith, small)) c.action_window-window.ensures.small

pub returns-then-best-window-clause-chosen : goal.returns-then-best-window-clause-chosen
returns-then-best-window-clause-chosen c =
    let t = c.args.setting.now in
    let small_next = c.requires.next.small in
    let small_best = c.requires.best.small in
    sym (ap (λ (b : Bool). cond b c.args.next.action c.args.best.action)
    (far_more t.edition.now c.members.ensures.known t.low t.high t.range t.weights.now t.scope c.func.ensures.known c.args.next c.args.best c.requires.next c.requires.best
    (apart_from c.args.best.promise c.args.next.promise _ _ (omega (arith, small_best)) (omega (arith, small_next)) c.action_window-window.ensures.small c.action_window-window.ensures.value c.if-best-window.true)))

pub returns-then-is_better-clause-chosen : goal.returns-then-is_better-clause-chosen
returns-then-is_better-clause-chosen c =
    let e = c.args.setting.now.edition.now in
    let w = weights_of e.task.model c.args.setting.now.weights.now in
    let next = c.in_ok-next.next in
    let best = c.in_ok-best.best in
    let one : FitsSigned w128 c.sum_of.result = search rules in
    let two : FitsSigned w128 c.sum_of-2.result = search rules in
    let next_action = c.in_ok-next.ensures.action in
    let best_action = c.in_ok-best.ensures.action in
    let next_sum : c.sum_of.result ≡ worth_of e w next.action = made-worth e w next.action next.made c.sum_of.result c.in_ok-next.ensures.made c.sum_of.ensures c.in_ok-next.ensures.is.made in
    let best_sum : c.sum_of-2.result ≡ worth_of e w best.action = made-worth e w best.action best.made c.sum_of-2.result c.in_ok-best.ensures.made c.sum_of-2.ensures c.in_ok-best.ensures.is.made in
    let test : true ≡ outdoes (worth_of e w c.args.next.action) c.args.next.action (worth_of e w c.args.best.action) c.args.best.action =
    c.if-is_better.ensures ∙ (λ i. outdoes (to_z-of_z w128 _ one i) next.action (to_z-of_z w128 _ two i) best.action) ∙ (λ i. outdoes (next_sum i) next.action (best_sum i) best.action)
    ∙ (λ i. outdoes (worth_of e w (next_action i)) (next_action i) (worth_of e w (best_action i)) (best_action i)) in
    next_action ∙ ap (λ (b : Bool). cond b c.args.next.action c.args.best.action) test

pub returns-clause-chosen : goal.returns-clause-chosen
returns-clause-chosen c =
    let e = c.args.setting.now.edition.now in
    let w = weights_of e.task.model c.args.setting.now.weights.now in
    let next = c.in_ok-next.next in
    let best = c.in_ok-best.best in
    let one : FitsSigned w128 c.sum_of.result = search rules in
    let two : FitsSigned w128 c.sum_of-2.result = search rules in
    let next_action = c.in_ok-next.ensures.action in
    let best_action = c.in_ok-best.ensures.action in
    let next_sum : c.sum_of.result ≡ worth_of e w next.action = made-worth e w next.action next.made c.sum_of.result c.in_ok-next.ensures.made c.sum_of.ensures c.in_ok-next.ensures.is.made in
    let best_sum : c.sum_of-2.result ≡ worth_of e w best.action = made-worth e w best.action best.made c.sum_of-2.result c.in_ok-best.ensures.made c.sum_of-2.ensures c.in_ok-best.ensures.is.made in
    let test : false ≡ outdoes (worth_of e w c.args.next.action) c.args.next.action (worth_of e w c.args.best.action) c.args.best.action =
    c.if-is_better.ensures ∙ (λ i. outdoes (to_z-of_z w128 _ one i) next.action (to_z-of_z w128 _ two i) best.action) ∙ (λ i. outdoes (next_sum i) next.action (best_sum i) best.action)
    ∙ (λ i. outdoes (worth_of e w (next_action i)) (next_action i) (worth_of e w (best_action i)) (best_action i)) in
    best_action ∙ ap (λ (b : Bool). cond b c.args.next.action c.args.best.action) test
