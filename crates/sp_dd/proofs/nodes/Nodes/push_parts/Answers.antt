use Rattle.std.proofs.Common.{◌≡◌, ◌++◌, ◌∷◌, [], List, length, arith, ◌∙◌, ap₂, refl}
use Rattle.std.proofs.lemmas.Grind.{common_steps}
use Rattle.sp_dd.specs.declared.nodes.Head.{Head}
use Rattle.sp_dd.specs.Flat.{nodes_of}
use Rattle.sp_dd.proofs.Flattened.{nodes_of-push, nodes_of-append, on_err}
use Rattle.sp_dd.proofs.nodes.Nodes.push_parts.Goals as goal

pub returns-in_err-map_err-clause-err : goal.returns-in_err-map_err-clause-err
returns-in_err-map_err-clause-err c =
    let h : c.push.new.self.items ≡ c.self.inside.heads.items = grind (arith, common_steps) in
    let e : nodes_of c.extend_from.new.self c.push.new.self.items ≡ c.args.self.now =
    ap₂ (λ x y. nodes_of x y) c.in_ok-extend_from.ensures.ok h ∙ nodes_of-append _ _ _ c.self.invariant ∙ c.self.view_is in
    on_err _ _ e

pub returns-clause-ok : goal.returns-clause-ok
returns-clause-ok c =
    let more : List Head = c.self.inside.heads.items ++ record { slot = c.args.slot; uses = 0; count = length c.args.parts.now; from = c.len-from.result } ∷ [] in
    let h : c.push.new.self.items ≡ more = grind (arith, common_steps) in
    nodes_of-push _ _ _ _ _ _ _ _ _ _ c.self.view_is c.self.invariant c.len-from.ensures refl c.in_ok-extend_from.ensures.ok h
