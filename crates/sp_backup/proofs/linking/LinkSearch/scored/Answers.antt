use Rattle.std.proofs.Common.{rules, ap, sym, ◌∙◌, arith}
use Rattle.std.specs.Int.{w128}
use Rattle.std.specs.Prelude.{FitsSigned}
use Rattle.std.proofs.lemmas.Int.{to_z-of_z}
use Rattle.sp_dd.specs.Func.{Func}
use Rattle.sp_dd.specs.Operations.{state_dot}
use Rattle.sp_value.specs.Editions.{IsVector}
use Rattle.sp_value.proofs.Vectors.{vector_small}
use Rattle.sp_belief.proofs.WeightLemmas.{has_unprimed, has_from_zero}
use Rattle.sp_backup.specs.MemberTables.{IsMemberTable}
use Rattle.sp_backup.proofs.UnscaledSums.{scored_is}
use Rattle.sp_backup.proofs.Listed.{if_some, table_vector, table_is_vector}
use Rattle.sp_backup.proofs.linking.LinkSearch.scored.Goals.{After-at-member}
use Rattle.sp_backup.proofs.linking.LinkSearch.scored.Goals as goal

table_is : (c : After-at-member) → IsMemberTable c.args.self.now.setting.now.edition.now c.args.place c.at-member.result.now
table_is c = let t = c.args.self.now.setting.now in table_vector t.edition.now c.members.ensures.known t.tables.now t.tables_are c.args.place c.requires c.at-member.result.now c.at-member.ensures

is_vector : (c : After-at-member) → IsVector c.args.self.now.setting.now.edition.now.task.model c.at-member.result.now.vector
is_vector c = table_is_vector c.args.self.now.setting.now.edition.now c.members.ensures.known c.args.place c.requires c.at-member.result.now (table_is c)

pub at-member-requires : goal.at-member-requires
at-member-requires c = let count = c.args.self.now.setting.now.tables_are.count in omega (arith, count, c.requires)

pub listed_dot-requires-clause-scopes : goal.listed_dot-requires-clause-scopes
listed_dot-requires-clause-scopes c = let s = c.args.self.now in s.posterior_is.has.shape ∙ sym (is_vector (goal.at.listed_dot-requires-clause-scopes c).After-at-member).shape

pub listed_dot-requires-clause-list : goal.listed_dot-requires-clause-list
listed_dot-requires-clause-list c = let s = c.args.self.now in if_some s.posterior.now.list s.posterior.now.weights s.posterior_is.listed

pub listed_dot-requires-clause-table : goal.listed_dot-requires-clause-table
listed_dot-requires-clause-table c = if_some c.at-member.result.now.table c.at-member.result.now.vector (table_is (goal.at.listed_dot-requires-clause-table c).After-at-member).tabled.values

pub listed_dot-requires-clause-unprimed_w : goal.listed_dot-requires-clause-unprimed_w
listed_dot-requires-clause-unprimed_w c = let s = c.args.self.now in has_unprimed s.setting.now.edition.now.task.model c.members.ensures.known.task.model s.posterior.now.weights _ s.posterior_is.has

pub listed_dot-requires-clause-unprimed_f : goal.listed_dot-requires-clause-unprimed_f
listed_dot-requires-clause-unprimed_f c = (is_vector (goal.at.listed_dot-requires-clause-unprimed_f c).After-at-member).unprimed

pub listed_dot-requires-clause-not_negative : goal.listed_dot-requires-clause-not_negative
listed_dot-requires-clause-not_negative c = let s = c.args.self.now in has_from_zero s.setting.now.edition.now.task.model c.members.ensures.known.task.model s.posterior.now.weights _ s.posterior_is.has

pub listed_dot-requires-clause-small : goal.listed_dot-requires-clause-small
listed_dot-requires-clause-small c =
    let s = c.args.self.now in
    let within = vector_small s.setting.now.edition.now.task.model c.members.ensures.known.task.model _ (is_vector (goal.at.listed_dot-requires-clause-small c).After-at-member) in
    (λ x at. let small = within x at in omega (arith, small))

pub returns-clause-is : goal.returns-clause-is
returns-clause-is c =
    let s = c.args.self.now in
    let fits : FitsSigned w128 c.in_ok-sum.sum = search rules in
    scored_is s.setting.now.edition.now c.members.ensures.known s.setting.now.weights.now s.action s.joint s.posterior.now s.posterior_is c.args.place _ c.requires
    (to_z-of_z w128 _ fits ∙ c.in_ok-sum.ensures ∙ ap (λ (f : Func). state_dot s.posterior.now.weights f) (table_is (goal.at.returns-clause-is c).After-at-member).vector)
