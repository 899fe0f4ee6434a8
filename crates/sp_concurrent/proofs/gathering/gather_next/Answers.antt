use Rattle.std.proofs.Common.{◌≡◌, ◌∙◌, sym, ap, subst, refl, ℕ, Bool, true, false}
use Rattle.std.specs.Prelude.{MatchBool}
use Rattle.sp_script.specs.Commands.{name_of, verb_of, is_opening}
use Rattle.sp_concurrent.specs.Deals.{desk_of}
use Rattle.sp_concurrent.specs.Gathered.{HasLogs, TakesFirst}
use Rattle.sp_concurrent.proofs.gathering.gather_next.Goals as goal

pub take_first-requires-clause-more : goal.take_first-requires-clause-more
take_first-requires-clause-more c =
    let k = desk_of c.args.desks c.args.names.now (name_of c.args.command.now) in
    let opens : is_opening (verb_of c.args.command.now) ≡ true = cc in
    let here : c.desk_of-desk.result ≡ k = c.desk_of-desk.ensures.value ∙ ap (desk_of c.args.desks c.args.names.now) c.name_of.ensures in
    subst (λ (d : ℕ). HasLogs c.args.queues.now.items d) (sym here) (subst (λ (b : Bool). MatchBool b (HasLogs c.args.queues.now.items k) (Unit {0})) opens c.requires.more)

pub returns-then-not-is_opening : goal.returns-then-not-is_opening
returns-then-not-is_opening c =
    let k = desk_of c.args.desks c.args.names.now (name_of c.args.command.now) in
    let plain : is_opening (verb_of c.args.command.now) ≡ false = cc in
    subst (λ (b : Bool). MatchBool b (TakesFirst c.args.all.now c.args.queues.now.items k c.args.all.now c.args.queues.now.items) ((c.args.all.now ≡ c.args.all.now) × (c.args.queues.now.items ≡ c.args.queues.now.items))) (sym plain) (refl, refl)

pub returns : goal.returns
returns c =
    let k = desk_of c.args.desks c.args.names.now (name_of c.args.command.now) in
    let opens : is_opening (verb_of c.args.command.now) ≡ true = cc in
    let here : c.desk_of-desk.result ≡ k = c.desk_of-desk.ensures.value ∙ ap (desk_of c.args.desks c.args.names.now) c.name_of.ensures in
    let all = c.take_first.new.all in
    let queues = c.take_first.new.queues.items in
    subst (λ (b : Bool). MatchBool b (TakesFirst c.args.all.now c.args.queues.now.items k all queues) ((all ≡ c.args.all.now) × (queues ≡ c.args.queues.now.items))) (sym opens)
    (subst (λ (d : ℕ). TakesFirst c.args.all.now c.args.queues.now.items d all queues) here c.in_ok-take_first.ensures)
