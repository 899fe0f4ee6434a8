use Rattle.std.proofs.Common.{rules, ap, ◌∙◌, ◌++◌, ◌∷◌}
use Rattle.std.specs.Fmt.{decimal}
use Rattle.std.proofs.lemmas.List.{append-nil}
use Rattle.sp_planfile.proofs.Pieces.{pair_step}
use Rattle.sp_planfile.proofs.events.put_pairs.Goals as goal

pub loop-place-preserved : goal.loop-place-preserved
loop-place-preserved c =
    let pair = c.at.result.now in
    let added = c.in_ok-put_numbers.ensures ∙ ap (λ l. c.loop-place.text.items ++ (32 ∷ (decimal pair.0 ++ (32 ∷ l)))) (append-nil (decimal pair.1)) in
    pair_step c.args.pairs.now c.loop-place.place pair c.args.text.now.items c.loop-place.text.items c.put_numbers.new.text.items (search rules) c.at.ensures c.loop-place.invariant added
