use Rattle.std.proofs.Common.{◌≡◌, ◌∙◌, ◌+◌, ◌-◌, ◌<◌, sym, ap, subst, refl, arith, length}
use Rattle.sp_desk.specs.Runs.{DeskRunParts, ServesNext, left_of}
use Rattle.sp_desk.proofs.RunLemmas.{next_may, run_kept, run_next}
use Rattle.sp_desk.proofs.runs.DeskRunBeside.step.Goals as goal

pub at-command-requires : goal.at-command-requires
at-command-requires c =
    let left : 0 < length c.self.inside.commands - c.self.inside.served = subst (λ (p : DeskRunParts). 0 < left_of p) (sym c.self.view_is) c.requires.left in
    omega (arith, left)

pub serve-requires-clause-list : goal.serve-requires-clause-list
serve-requires-clause-list c = c.requires.list ∙ ap (λ (p : DeskRunParts). p.desk.known.list) (sym c.self.view_is)

pub serve-requires-clause-fit : goal.serve-requires-clause-fit
serve-requires-clause-fit c =
    let r : DeskRunParts = record { desk = c.self.inside.desk; commands = c.self.inside.commands; served = c.self.inside.served } in
    next_may r c.self.invariant c.at-command.result.now c.at-command.ensures.value

pub invariant_of-self : goal.invariant_of-self
invariant_of-self c =
    let r : DeskRunParts = record { desk = c.self.inside.desk; commands = c.self.inside.commands; served = c.self.inside.served } in
    run_kept r c.self.invariant c.serve.new.desk c.serve.ensures.known c.in_err-serve.ensures.err

pub invariant_of-self-2 : goal.invariant_of-self-2
invariant_of-self-2 c =
    let r : DeskRunParts = record { desk = c.self.inside.desk; commands = c.self.inside.commands; served = c.self.inside.served } in
    run_next r c.self.invariant c.at-command.result.now c.at-command.ensures.value c.args.told.now c.serve.new.desk c.serve.ensures.known c.in_ok-serve.ensures.ok

pub returns-clause-ok : goal.returns-clause-ok
returns-clause-ok c =
    let left : 0 < length c.self.inside.commands - c.self.inside.served = subst (λ (p : DeskRunParts). 0 < left_of p) (sym c.self.view_is) c.requires.left in
    let one : length c.self.inside.commands - (c.self.inside.served + 1) + 1 ≡ length c.self.inside.commands - c.self.inside.served = omega (arith, left) in
    one ∙ ap (λ (p : DeskRunParts). left_of p) c.self.view_is

pub returns-clause-serves : goal.returns-clause-serves
returns-clause-serves c =
    let new : DeskRunParts = record { desk = c.serve.new.desk; commands = c.self.inside.commands; served = c.self.inside.served + 1 } in
    subst (λ (p : DeskRunParts). ServesNext p c.args.told.now new) c.self.view_is
    (record { command = c.at-command.result.now; next = c.at-command.ensures.value; desk = c.in_ok-serve.ensures.ok; commands = refl; count = refl })
