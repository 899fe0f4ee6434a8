use Rattle.std.proofs.Common.{◌∙◌, inl, inr}
use Rattle.sp_core.specs.Books.{BookParts}
use Rattle.sp_workers.specs.Sections.{IsSettledFor}
use Rattle.sp_workers.proofs.Changes.{between, on_to, on_between}
use Rattle.sp_workers.proofs.locked.Locked.settle.Goals as goal

pub returns-clause-ok : goal.returns-clause-ok
returns-clause-ok g c = between (λ (a b : BookParts). IsSettledFor a c.args.candidate c.in_ok-answer.answer b) _ _ _ _ c.publish.ensures.book c.in_ok-answer.ensures.ok c.publish-2.ensures.book

pub returns-clause-event : goal.returns-clause-event
returns-clause-event g c =
    inr (c.in_ok-answer.answer, between (λ (a b : BookParts). IsSettledFor a c.args.candidate c.in_ok-answer.answer b) _ _ _ _ c.publish.ensures.book c.in_ok-answer.ensures.ok c.publish-2.ensures.book)

pub returns-clause-on : goal.returns-clause-on
returns-clause-on g c = on_between _ _ _ _ c.publish.ensures.on c.settle_alone.ensures.list c.publish-2.ensures.on

pub returns-in_err-answer-clause-event : goal.returns-in_err-answer-clause-event
returns-in_err-answer-clause-event g c = inl (c.in_err-answer.ensures.err ∙ c.publish.ensures.book)

pub returns-in_err-answer-clause-on : goal.returns-in_err-answer-clause-on
returns-in_err-answer-clause-on g c = on_to _ _ _ c.publish.ensures.on c.settle_alone.ensures.list

pub returns-in_err-publish-clause-event : goal.returns-in_err-publish-clause-event
returns-in_err-publish-clause-event g c = inl c.publish.ensures.book

pub returns-in_err-publish-clause-on : goal.returns-in_err-publish-clause-on
returns-in_err-publish-clause-on g c = c.publish.ensures.on

pub returns-in_err-publish-2-clause-event : goal.returns-in_err-publish-2-clause-event
returns-in_err-publish-2-clause-event g c =
    inr (c.in_ok-answer.answer, between (λ (a b : BookParts). IsSettledFor a c.args.candidate c.in_ok-answer.answer b) _ _ _ _ c.publish.ensures.book c.in_ok-answer.ensures.ok c.publish-2.ensures.book)

pub returns-in_err-publish-2-clause-on : goal.returns-in_err-publish-2-clause-on
returns-in_err-publish-2-clause-on g c = on_between _ _ _ _ c.publish.ensures.on c.settle_alone.ensures.list c.publish-2.ensures.on
