use Rattle.std.proofs.Common.{◌∙◌, ap}
use Rattle.sp_trees.specs.Words.{text}
use Rattle.sp_reader.proofs.Joined.{four}
use Rattle.sp_reader.proofs.kinds.named_row.Goals as goal

pub returns : goal.returns
returns c =
    let action = c.text-action.ensures ∙ ap (text c.args.source.now) (rw c.as_slice.ensures at c.action_span.ensures) in
    let variable = c.text-variable.ensures ∙ ap (text c.args.source.now) c.variable_span.ensures in
    four c.new-bytes.result.items c.extend_from_slice.new.self.items c.extend_from_slice-2.new.self.items c.extend_from_slice-3.new.self.items c.extend_from_slice-4.new.self.items _ _ _ _
    c.new-bytes.ensures.items c.in_ok-extend_from_slice.ensures.items (rw action at c.in_ok-extend_from_slice-2.ensures.items) c.in_ok-extend_from_slice-3.ensures.items (rw variable at c.in_ok-extend_from_slice-4.ensures.items)
