use Rattle.std.proofs.Common.{◌<◌, ◌^◌, arith, sym, ap, ◌∙◌, subst, length, List}
use Rattle.std.specs.Prelude.{All}
use Rattle.sp_dd.specs.Func.{Func}
use Rattle.sp_backup.specs.Functions.{IsNextTable, IsNextVector, IsBounded, IsWeighed}
use Rattle.sp_backup.specs.Choosing.{product_with_tables}
use Rattle.sp_backup.proofs.Priming.{primed_is}
use Rattle.sp_backup.proofs.LinkSums.{tables-some, tables-known, thinned-next, thinned-within}
use Rattle.sp_backup.proofs.choosing.ObservedTables.project.Goals as goal

pub multiply-requires-clause-some : goal.multiply-requires-clause-some
multiply-requires-clause-some c =
    let s = c.args.self.now in
    subst (λ (l : List Func). 0 < length l) (sym (c.as_slice.ensures ∙ s.tables_are)) (tables-some s.model.now c.parts.ensures.known s.action s.joint s.action_known s.joint_known)

pub multiply-requires-clause-tables : goal.multiply-requires-clause-tables
multiply-requires-clause-tables c =
    let s = c.args.self.now in
    subst (All (IsNextTable s.model.now)) (sym (c.as_slice.ensures ∙ s.tables_are)) (tables-known s.model.now c.parts.ensures.known s.action s.joint s.action_known s.joint_known)

pub multiply-requires-clause-vector : goal.multiply-requires-clause-vector
multiply-requires-clause-vector c = let s = c.args.self.now in subst (IsNextVector s.model.now) (sym c.in_ok-primed.ensures) (primed_is s.model.now c.parts.ensures.known c.args.vector.now c.requires)

pub weigh_next-requires-clause-shape : goal.weigh_next-requires-clause-shape
weigh_next-requires-clause-shape c =
    let s = c.args.self.now in
    ap (λ (f : Func). f.shape) (c.in_ok-thinned.ensures ∙ (λ i. product_with_tables ((c.as_slice.ensures ∙ s.tables_are) i) (c.in_ok-primed.ensures i)))
    ∙ (thinned-next s.model.now c.parts.ensures.known s.action s.joint s.action_known s.joint_known c.args.vector.now c.requires).shape

pub weigh_next-requires-clause-small : goal.weigh_next-requires-clause-small
weigh_next-requires-clause-small c =
    let s = c.args.self.now in
    let within = subst (λ (f : Func). IsBounded f (10 ^ 18)) (sym (c.in_ok-thinned.ensures ∙ (λ i. product_with_tables ((c.as_slice.ensures ∙ s.tables_are) i) (c.in_ok-primed.ensures i))))
    (thinned-within s.model.now c.parts.ensures.known s.action s.joint s.action_known s.joint_known c.args.vector.now c.requires) in
    (λ x at. let small = within x at in omega (arith, small))

pub returns : goal.returns
returns c =
    let s = c.args.self.now in
    subst (λ (f : Func). IsWeighed s.model.now s.action f c.in_ok-made.made) (c.in_ok-thinned.ensures ∙ (λ i. product_with_tables ((c.as_slice.ensures ∙ s.tables_are) i) (c.in_ok-primed.ensures i))) c.in_ok-made.ensures
