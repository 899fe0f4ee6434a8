use Rattle.std.proofs.Common.{rules, ◌≡◌, ◌++◌, ◌∷◌, [], ap, ◌∙◌, List, ℕ, codes}
use Rattle.std.specs.Prelude.{is_some, option_copied}
use Rattle.std.specs.Arc.{arc_value}
use Rattle.sp_model.specs.declared.beliefs.Samples.{Samples}
use Rattle.sp_value.specs.Events.{events_of}
use Rattle.sp_value.specs.Tasks.{TaskParts}
use Rattle.sp_session.specs.Logs.{logs_of}
use Rattle.sp_lines.specs.Lines.{lines_of}
use Rattle.sp_planfile.specs.Contents.{contents_of, moves_of}
use Rattle.sp_planfile.specs.PlanText.{head_text, options_line, belief_line, events_section, values_text, logs_section}
use Rattle.sp_planfile.proofs.PlanTexts.{plan_is}
use Rattle.sp_planfile.proofs.writing.text_with_model.Goals as goal

pub returns : goal.returns
returns c =
    let t = arc_value c.args.run.now.task in
    let some : c.is_some.result ≡ is_some (option_copied c.args.values) = search rules in
    let options : c.options.result.now ≡ t.options = c.options.ensures ∙ ap (λ (x : TaskParts). x.options) c.deref.ensures in
    let samples : c.samples.result.now ≡ t.samples = c.samples.ensures ∙ ap (λ (x : TaskParts). x.samples) c.deref-2.ensures in
    let moves : c.as_slice.result.now ≡ t.samples.list = c.as_slice.ensures ∙ ap (λ (x : Samples). x.list) samples in
    plan_is (contents_of c.args.model.now t c.args.run.now.events (option_copied c.args.values) c.args.transcript.now)
    c.new-text.result.items c.put_model.new.text.items c.put_options.new.text.items c.put_moves.new.text.items c.put_events.new.text.items c.put_values.new.text.items c.put_logs.new.text.items c.put.new.text.items
    c.new-text.ensures.items
    (c.in_ok-put_model.ensures ∙ ap (λ b. c.new-text.result.items ++ (head_text b ++ (c.args.model.now ++ codes "endmodel\n"))) some)
    (c.in_ok-put_options.ensures ∙ ap (λ o. c.put_model.new.text.items ++ (options_line o ++ (10 ∷ []))) options)
    (c.in_ok-put_moves.ensures ∙ ap (λ l. c.put_options.new.text.items ++ lines_of belief_line (moves_of l)) moves)
    (c.in_ok-put_events.ensures ∙ ap (λ l. c.put_moves.new.text.items ++ events_section (events_of l)) c.as_slice-2.ensures)
    c.in_ok-put_values.ensures
    (c.in_ok-put_logs.ensures ∙ ap (λ l. c.put_values.new.text.items ++ logs_section (logs_of l)) c.as_slice-3.ensures)
    c.in_ok-put.ensures
