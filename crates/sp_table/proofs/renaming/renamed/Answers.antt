use Rattle.std.proofs.Common.{◌≡◌, ◌++◌, ◌∙◌, ap, arith, drop, length, sym, take}
use Rattle.sp_dd.specs.Func.{Shape}
use Rattle.sp_dd.specs.Operations.{exchange_of_slots}
use Rattle.sp_table.proofs.PlaceLemmas.{Mentions-length}
use Rattle.sp_table.proofs.FrameLemmas.{Means, are_widths, scope_is}
use Rattle.sp_table.proofs.ExchangeLemmas.{dropped, exchanged_pairs, renamed_is, frame_without, length-without}
use Rattle.sp_table.proofs.renaming.renamed.Goals as goal

pub drop_each-requires-clause-paired : goal.drop_each-requires-clause-paired
drop_each-requires-clause-paired c =
    omega (arith, ap length c.as_mut_slice.ensures.value, Mentions-length _ _ c.in_ok-widths.ensures.mentions, c.in_ok-widths.ensures.scope.paired, c.variables-variables.ensures, ap (λ (s : Shape). s.variables) c.scope.ensures.value)

pub values-requires : goal.values-requires
values-requires c =
    let variables = c.variables-variables.ensures ∙ ap (λ (s : Shape). s.variables) c.scope.ensures.value in
    let one = dropped c.in_ok-widths.widths.items _ _ c.in_ok-widths.widths.len c.args.first _ _ c.in_ok-widths.widths.ok.0 c.as_mut_slice.ensures.value c.drop_each.ensures variables in
    are_widths c.args.f.now _ _ _ (frame_without c.args.f.now c.in_ok-widths.widths.items c.args.first c.args.f.now.shape.variables c.in_ok-widths.ensures c.requires.one (omega arith) c.requires.free)
    (c.as_slice-to.ensures.value ∙ one) c.in_ok-count.ensures.value c.in_ok-count.ensures.fits

pub exchange_pairs-requires : goal.exchange_pairs-requires
exchange_pairs-requires c =
    let variables = c.variables-variables.ensures ∙ ap (λ (s : Shape). s.variables) c.scope.ensures.value in
    let one = dropped c.in_ok-widths.widths.items _ _ c.in_ok-widths.widths.len c.args.first _ _ c.in_ok-widths.widths.ok.0 c.as_mut_slice.ensures.value c.drop_each.ensures variables in
    let long = ap length (c.as_mut_slice-2.ensures.value ∙ one) in
    record { paired = omega (arith, long, length-without c.args.first c.args.f.now.shape.variables c.in_ok-widths.widths.items, Mentions-length _ _ c.in_ok-widths.ensures.mentions, c.in_ok-widths.ensures.scope.paired, variables) }

-- what the result means
is : (c : goal.After-result-1) → Means c.f.inside.scope (take c.in_ok-widths.widths.len (c.exchange_pairs.new.widths ++ drop (length c.exchange_pairs.new.widths) (take c.in_ok-widths.widths.len (c.drop_each.new.widths ++ drop (length c.drop_each.new.widths) c.in_ok-widths.widths.items)))) c.in_ok-cells.cells.items (exchange_of_slots c.args.f.now)
is c =
    let variables = c.variables-variables.ensures ∙ ap (λ (s : Shape). s.variables) c.scope.ensures.value in
    let one = dropped c.in_ok-widths.widths.items _ _ c.in_ok-widths.widths.len c.args.first _ _ c.in_ok-widths.widths.ok.0 c.as_mut_slice.ensures.value c.drop_each.ensures variables in
    let long : c.in_ok-widths.widths.len ≡ length (take c.in_ok-widths.widths.len (c.drop_each.new.widths ++ drop (length c.drop_each.new.widths) c.in_ok-widths.widths.items)) = c.in_ok-widths.widths.ok.0 ∙ sym (ap length one ∙ length-without c.args.first c.args.f.now.shape.variables c.in_ok-widths.widths.items) in
    let two = exchanged_pairs _ _ _ c.in_ok-widths.widths.len _ _ long c.as_mut_slice-2.ensures.value c.exchange_pairs.ensures variables in
    renamed_is c.args.f.now c.f.inside.scope c.in_ok-widths.widths.items _ _ _ _ _ c.args.first (scope_is c.f.inside.scope c.f.inside.widths.items c.f.inside.cells.items c.args.f.now c.f.view_is) c.in_ok-widths.ensures c.requires.one c.requires.free one
    c.as_slice-to.ensures.value two c.in_ok-count.ensures.value c.in_ok-count.ensures.fits c.in_ok-cells.ensures

pub invariant_of-result : goal.invariant_of-result
invariant_of-result c = (is c).table

pub returns : goal.returns
returns c = (is c).is
