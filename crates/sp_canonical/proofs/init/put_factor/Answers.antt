use Rattle.std.proofs.Common.{◌<◌, ◌*◌, ◌∙◌, length, subst, sym}
use Rattle.std.specs.Prelude.{All, List, ℕ, not}
use Rattle.std.proofs.lemmas.List.Elements.{All-filter}
use Rattle.sp_dd.specs.Diagrams.{node_list}
use Rattle.sp_canonical.specs.Tables.{is_on}
use Rattle.sp_canonical.proofs.init.put_factor.Goals as goal

pub put_summed-requires : goal.put_summed-requires
put_summed-requires c =
    subst (λ (free : List ℕ). All (λ i. i < length c.args.parts.now.variables) free) (sym (c.as_slice.ensures.value ∙ c.in_ok-free.ensures))
    (All-filter (λ v. not (is_on (node_list c.args.factor.now.func) (2 * v))) (λ i. i < length c.args.parts.now.variables) c.args.factor.now.own c.requires.within)
