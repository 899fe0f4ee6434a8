use Rattle.std.proofs.Common.{◌≡◌, ◌++◌, ◌∷◌, [], List, arith, ◌∙◌, ap₂, refl}
use Rattle.std.proofs.lemmas.Grind.{common_steps}
use Rattle.sp_dd.specs.declared.nodes.Head.{Head}
use Rattle.sp_dd.specs.Flat.{nodes_of}
use Rattle.sp_dd.proofs.Flattened.{nodes_of-push, nodes_of-append, on_err}
use Rattle.sp_dd.proofs.nodes.push_two.Goals as goal

pub returns-in_err-map_err-clause-err : goal.returns-in_err-map_err-clause-err
returns-in_err-map_err-clause-err c =
    let h : c.push.new.self.items ≡ c.nodes.inside.heads.items = grind (arith, common_steps) in
    let e : nodes_of c.push_two_plain.new.words c.push.new.self.items ≡ c.args.nodes.now =
    ap₂ (λ x y. nodes_of x y) c.in_ok-push_two_plain.ensures.ok h ∙ nodes_of-append _ _ _ c.nodes.invariant ∙ c.nodes.view_is in
    on_err _ _ e

pub returns-clause-ok : goal.returns-clause-ok
returns-clause-ok c =
    let more : List Head = c.nodes.inside.heads.items ++ record { slot = c.args.slot; uses = 0; count = 2; from = c.len-from.result } ∷ [] in
    let h : c.push.new.self.items ≡ more = grind (arith, common_steps) in
    nodes_of-push _ _ _ _ _ _ _ _ _ _ c.nodes.view_is c.nodes.invariant c.len-from.ensures refl c.in_ok-push_two_plain.ensures.ok h
