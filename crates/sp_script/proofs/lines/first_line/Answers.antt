use Rattle.std.proofs.Common.{◌∙◌, sym, ap, ◌∷◌}
use Rattle.std.specs.Str.Lines.{lines}
use Rattle.sp_script.proofs.LineLemmas.{lines_feed, lines_last}
use Rattle.sp_script.proofs.lines.first_line.Goals as goal

pub returns-in-Some-clause-value : goal.returns-in-Some-clause-value
returns-in-Some-clause-value c =
    lines_feed c.args.text.now c.in-Some.len (sym c.line_feed.ensures ∙ c.in-Some.is)
    ∙ (λ i. sym c.without_return.ensures i ∷ lines (sym c.behind.ensures i))

pub returns-in-None-clause-value : goal.returns-in-None-clause-value
returns-in-None-clause-value c =
    lines_last c.args.text.now c.requires (sym c.line_feed.ensures ∙ c.in-None.is)
    ∙ ap (λ xs. c.args.text.now ∷ lines xs) (sym c.behind-in-None.ensures)
