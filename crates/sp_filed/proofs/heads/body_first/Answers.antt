use Rattle.std.proofs.Common.{rules, ◌≡◌, ◌≢◌, ◌∷◌, [], ◌++◌, ap, sym, ◌∙◌, codes, refl}
use Rattle.sp_lines.specs.Lines.{lines_of}
use Rattle.sp_lines.proofs.Lists.{lines_step, all_push}
use Rattle.sp_planfile.specs.Form.{IsModelLine}
use Rattle.sp_filed.proofs.Bodies.{front_is, ends_nowhere}
use Rattle.sp_filed.proofs.heads.body_first.Goals as goal

pub returns-then-eq : goal.returns-then-eq
returns-then-eq c =
    let same : c.in-Some.line.now ≡ codes "endmodel" = search rules in
    let read = c.loop-line.invariant in
    let front = front_is c.args.text.now (lines_of (λ line. line) read.0) c.loop-line.rest.now read.1 in (
      (read.0, front, read.2),
      read.1 ∙ ap (λ l. lines_of (λ line. line) read.0 ++ l) (c.in-Some.ensures.is ∙ ap (λ l. l ++ (10 ∷ c.in-Some.more.now)) same)
          ∙ ap (λ l. l ++ (codes "endmodel\n" ++ c.in-Some.more.now)) (sym front),
    )

pub loop-line-preserved : goal.loop-line-preserved
loop-line-preserved c =
    let differ : c.in-Some.line.now ≢ codes "endmodel" = search rules in
    let read = c.loop-line.invariant in
    let more = read.0 ++ (c.in-Some.line.now ∷ []) in (
      more,
      lines_step (λ line. line) read.0 more c.in-Some.line.now c.args.text.now c.loop-line.rest.now c.in-Some.line.now c.in-Some.more.now read.1 c.in-Some.ensures refl refl,
      all_push IsModelLine read.0 c.in-Some.line.now read.2 (record { whole = c.in-Some.ensures.ends; other = differ }),
    )

pub returns : goal.returns
returns c = λ body more lines is.
    let read = c.loop-line.invariant in
    ends_nowhere read.0 lines.0 c.loop-line.rest.now more read.2 lines.2 c.in_default.ensures (sym read.1 ∙ is ∙ ap (λ l. l ++ (codes "endmodel\n" ++ more)) lines.1)
