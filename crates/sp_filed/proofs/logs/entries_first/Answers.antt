use Rattle.std.proofs.Common.{◌≡◌, ◌∷◌, [], ◌++◌, ap, sym, ◌∙◌, subst}
use Rattle.std.specs.List.{AllByRecursion}
use Rattle.std.proofs.lemmas.List.{map-append}
use Rattle.sp_lines.proofs.Lists.{lines_step, all_push, no_line, other_line}
use Rattle.sp_session.specs.Logs.{entry_of, entries_of}
use Rattle.sp_planfile.specs.PlanText.{entry_line}
use Rattle.sp_planfile.proofs.LogTexts.{entry_lacks}
use Rattle.sp_filed.specs.Sizes.{IsEntryWithin}
use Rattle.sp_filed.proofs.logs.entries_first.Goals as goal

pub returns-in_default-entry_at : goal.returns-in_default-entry_at
returns-in_default-entry_at c = (c.loop-line.invariant.read, c.loop-line.invariant.good, other_line entry_line (IsEntryWithin c.args.sizes) (λ x good. entry_lacks x good.1) c.loop-line.rest.now c.in-Some.line.now c.in-Some.more.now c.in-Some.ensures c.in_default-entry_at.ensures)

pub loop-line-preserved : goal.loop-line-preserved
loop-line-preserved c =
    let mapped : entries_of c.push.new.self ≡ entries_of c.loop-line.entries ++ (entry_of c.in-Some-entry_at.entry ∷ []) = ap entries_of c.in_ok-push.ensures.ok ∙ map-append entry_of c.loop-line.entries (c.in-Some-entry_at.entry ∷ []) in
    let found = c.in-Some-entry_at.ensures in
    record {
      read = lines_step entry_line (entries_of c.loop-line.entries) (entries_of c.push.new.self) (entry_of c.in-Some-entry_at.entry) c.args.text.now c.loop-line.rest.now c.in-Some.line.now c.in-Some.more.now c.loop-line.invariant.read c.in-Some.ensures found.1 mapped;
      good = subst (AllByRecursion (IsEntryWithin c.args.sizes)) (sym mapped) (all_push (IsEntryWithin c.args.sizes) (entries_of c.loop-line.entries) (entry_of c.in-Some-entry_at.entry) c.loop-line.invariant.good found.0);
    }

pub returns : goal.returns
returns c = (c.loop-line.invariant.read, c.loop-line.invariant.good, no_line entry_line (IsEntryWithin c.args.sizes) c.loop-line.rest.now c.in_default.ensures)
