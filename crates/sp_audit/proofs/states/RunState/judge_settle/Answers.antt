use Rattle.std.proofs.Common.{◌≡◌, ◌∙◌, sym, ap, subst, refl, rules, arith, ◌<◌, ◌≤◌, length, get_or, Some, vec_len}
use Rattle.std.specs.Prelude.{slice_get}
use Rattle.std.specs.Arc.{arc_value}
use Rattle.std.proofs.lemmas.List.{places, length-map}
use Rattle.sp_value.specs.Tasks.{TaskParts}
use Rattle.sp_value.specs.Editions.{EditionParts}
use Rattle.sp_audit.specs.States.{contents, IsStateAfter}
use Rattle.sp_ledger.proofs.Reading.{read_at, read_edition}
use Rattle.sp_audit.proofs.Faults.{edition_wrong, backup_wrong}
use Rattle.sp_audit.proofs.Following.{settle_is}
use Rattle.sp_audit.proofs.states.RunState.judge_settle.Goals as goal

pub returns-then-place-len : goal.returns-then-place-len
returns-then-place-len c =
    let s = c.args.self.now in
    let own = contents s in
    let es = c.requires.replays.0 in
    let rep : IsStateAfter es own = c.requires.replays.1 in
    let long : vec_len s.editions ≡ length s.editions.items = search (rules, places) in
    let count = length-map s.editions.items arc_value in
    let past : length own.editions ≤ c.args.base = omega (arith, c.if-place-len.true, c.len.ensures, long, count) in
    edition_wrong own c.requires.going c.args.belief c.args.base c.args.action c.args.links.now past

pub point_backup-requires : goal.point_backup-requires
point_backup-requires c =
    let s = c.args.self.now in
    let own = contents s in
    let es = c.requires.replays.0 in
    let rep : IsStateAfter es own = c.requires.replays.1 in
    let long : vec_len s.editions ≡ length s.editions.items = search (rules, places) in
    let count = length-map s.editions.items arc_value in
    let less : c.args.base < length own.editions = omega (arith, c.if-place-len.false, c.len.ensures, long, count) in
    let e = arc_value c.index.result.now in
    let is : e ≡ get_or own.editions c.args.base e = read_at arc_value s.editions.items c.args.base c.index.result.now e (omega (arith, less, count)) c.index.ensures refl in
    let known = read_edition own.task own.editions rep.numbered c.args.base e less is in
    subst (λ (t : TaskParts). c.args.belief < t.options.beliefs) (sym known.0) c.requires.sampled

pub returns-then-not-is_of : goal.returns-then-not-is_of
returns-then-not-is_of c =
    let s = c.args.self.now in
    let own = contents s in
    let es = c.requires.replays.0 in
    let rep : IsStateAfter es own = c.requires.replays.1 in
    let long : vec_len s.editions ≡ length s.editions.items = search (rules, places) in
    let count = length-map s.editions.items arc_value in
    let less : c.args.base < length own.editions = omega (arith, c.if-place-len.false, c.len.ensures, long, count) in
    let e = arc_value c.index.result.now in
    let is : e ≡ get_or own.editions c.args.base e = read_at arc_value s.editions.items c.args.base c.index.result.now e (omega (arith, less, count)) c.index.ensures refl in
    let known = read_edition own.task own.editions rep.numbered c.args.base e less is in
    let d = c.in_ok-candidate.candidate in
    let base = c.in_ok-candidate.ensures.base in
    let ours : slice_get own.editions d.base.number ≡ Some d.base = subst (λ (x : EditionParts). slice_get own.editions x.number ≡ Some x) (sym base) known.2 in
    let on : d.base.number ≡ c.args.base = ap (λ (x : EditionParts). x.number) base ∙ known.1 in
    backup_wrong own c.requires.going d c.in_ok-candidate.ensures.backup ours c.args.belief c.args.base c.args.action c.args.links.now c.in_ok-candidate.ensures.belief on c.if-not-is_of.ensures less

pub settle-requires-clause-base : goal.settle-requires-clause-base
settle-requires-clause-base c =
    let s = c.args.self.now in
    let own = contents s in
    let es = c.requires.replays.0 in
    let rep : IsStateAfter es own = c.requires.replays.1 in
    let long : vec_len s.editions ≡ length s.editions.items = search (rules, places) in
    let count = length-map s.editions.items arc_value in
    let less : c.args.base < length own.editions = omega (arith, c.if-place-len.false, c.len.ensures, long, count) in
    let e = arc_value c.index.result.now in
    let is : e ≡ get_or own.editions c.args.base e = read_at arc_value s.editions.items c.args.base c.index.result.now e (omega (arith, less, count)) c.index.ensures refl in
    let known = read_edition own.task own.editions rep.numbered c.args.base e less is in
    let d = c.in_ok-candidate.candidate in
    let base = c.in_ok-candidate.ensures.base in
    let ours : slice_get own.editions d.base.number ≡ Some d.base = subst (λ (x : EditionParts). slice_get own.editions x.number ≡ Some x) (sym base) known.2 in
    let on : d.base.number ≡ c.args.base = ap (λ (x : EditionParts). x.number) base ∙ known.1 in
    ours

pub returns : goal.returns
returns c =
    let s = c.args.self.now in
    let own = contents s in
    let es = c.requires.replays.0 in
    let rep : IsStateAfter es own = c.requires.replays.1 in
    let long : vec_len s.editions ≡ length s.editions.items = search (rules, places) in
    let count = length-map s.editions.items arc_value in
    let less : c.args.base < length own.editions = omega (arith, c.if-place-len.false, c.len.ensures, long, count) in
    let e = arc_value c.index.result.now in
    let is : e ≡ get_or own.editions c.args.base e = read_at arc_value s.editions.items c.args.base c.index.result.now e (omega (arith, less, count)) c.index.ensures refl in
    let known = read_edition own.task own.editions rep.numbered c.args.base e less is in
    let d = c.in_ok-candidate.candidate in
    let base = c.in_ok-candidate.ensures.base in
    let ours : slice_get own.editions d.base.number ≡ Some d.base = subst (λ (x : EditionParts). slice_get own.editions x.number ≡ Some x) (sym base) known.2 in
    let on : d.base.number ≡ c.args.base = ap (λ (x : EditionParts). x.number) base ∙ known.1 in
    settle_is own d c.args.belief c.args.base c.args.action c.args.links.now c.in_ok-candidate.ensures.belief on c.if-not-is_of.ensures _ c.in_ok-settle.ensures
