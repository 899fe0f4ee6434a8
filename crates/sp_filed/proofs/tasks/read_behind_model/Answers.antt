use Rattle.std.proofs.Common.{◌≡◌, ap, sym, Err, subst}
use Rattle.sp_value.specs.Tasks.{TaskParts}
use Rattle.sp_filed.specs.declared.moves.Unsampled.TheVariants.{Sample}
use Rattle.sp_filed.specs.Tails.{IsReadBehindModel}
use Rattle.sp_model.specs.Kept.{IsModel}
use Rattle.sp_filed.proofs.Readings.{read_model}
use Rattle.sp_filed.proofs.tasks.read_behind_model.Goals as goal

pub returns-in-Err-read_behind_options-clause-sample : goal.returns-in-Err-read_behind_options-clause-sample
returns-in-Err-read_behind_options-clause-sample c = λ left e.
    let same : c.in-Err-read_behind_options.stop ≡ Sample left = cc e in
    (c.in-Ok.found.0, c.in-Ok.found.1.now, c.in-Ok.ensures.ok.0, c.in-Ok.ensures.ok.1, c.in-Err-read_behind_options.ensures.sample left (ap Err same))

pub returns-in-Ok-joined-clause-ok : goal.returns-in-Ok-joined-clause-ok
returns-in-Ok-joined-clause-ok c =
    let p = c.args.model in
    let o = c.in-Ok.found.0 in
    let list = c.in-Ok-read_behind_options.found.0 in
    let tail = c.in-Ok-read_behind_options.found.1 in
    let made = c.in-Ok-joined.ensures in
    let f = c.in-Ok-joined.filed in
    let t : TaskParts = record { model = p; samples = record { list = list; depth = o.depth }; options = o } in
    let read = read_model c.args.has_values p o c.args.text.now c.in-Ok.found.1.now list tail.events tail.values tail.transcript (subst IsModel c.model.view_is c.model.invariant.model) c.in-Ok.ensures.ok.0 c.in-Ok.ensures.ok.1 c.in-Ok-read_behind_options.ensures.ok in
    subst (λ x. IsReadBehindModel c.args.has_values p c.args.text.now x f.run.events f.values f.transcript) (sym made.0)
    (subst (λ x. IsReadBehindModel c.args.has_values p c.args.text.now t x f.values f.transcript) (sym made.1)
    (subst (λ x. IsReadBehindModel c.args.has_values p c.args.text.now t tail.events x f.transcript) (sym made.2)
    (subst (λ x. IsReadBehindModel c.args.has_values p c.args.text.now t tail.events tail.values x) (sym made.3) read)))
