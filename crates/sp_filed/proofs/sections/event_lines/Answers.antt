use Rattle.std.proofs.Common.{◌≡◌, ◌≢◌, ◌<◌, ◌∷◌, [], ◌++◌, length, arith, ap, sym, ◌∙◌, subst}
use Rattle.std.specs.List.{AllByRecursion}
use Rattle.std.proofs.lemmas.List.{length-map, map-append, length-append}
use Rattle.sp_theory.specs.Book as book
use Rattle.sp_lines.proofs.Lists.{lines_step, all_push}
use Rattle.sp_value.specs.declared.events.Event.{Event}
use Rattle.sp_value.specs.Events.{event_of, events_of}
use Rattle.sp_planfile.specs.RunText.{event_line}
use Rattle.sp_filed.specs.Sizes.{IsEventOf}
use Rattle.sp_filed.proofs.Stopped.{left_is, ends_there, ends_before, event_lacks, match_none, match_some}
use Rattle.sp_filed.proofs.sections.event_lines.Goals as goal

pub returns-in_default-clause-err : goal.returns-in_default-clause-err
returns-in_default-clause-err c = λ left e.
    let fewer : length (events_of c.loop.events) < c.args.count = omega (arith, length-map c.loop.events event_of, c.loop.invariant.count) in
    ends_there event_line (IsEventOf c.args.sizes) (events_of c.loop.events) c.args.count c.args.text.now c.loop.rest.now left c.loop.invariant.read c.loop.invariant.good fewer c.in_default.ensures (left_is _ left e)

pub returns-in_default-2-clause-err : goal.returns-in_default-2-clause-err
returns-in_default-2-clause-err c = λ left e.
    let fewer : length (events_of c.loop.events) < c.args.count = omega (arith, length-map c.loop.events event_of, c.loop.invariant.count) in
    let other = match_none ((x : book.Event) → IsEventOf c.args.sizes x → c.in-Some.line.now ≢ event_line x) (λ (x : Event). IsEventOf c.args.sizes (event_of x) × (c.in-Some.line.now ≡ event_line (event_of x))) c.in_ok-event.field-0 c.in_default-2.is c.in_ok-event.ensures in
    ends_before event_line (IsEventOf c.args.sizes) (event_lacks c.args.sizes) (events_of c.loop.events) c.args.count c.args.text.now c.loop.rest.now c.in-Some.line.now c.in-Some.more.now left c.loop.invariant.read c.loop.invariant.good fewer c.in-Some.ensures other (left_is _ left e)

pub loop-preserved : goal.loop-preserved
loop-preserved c =
    let pushed : c.push.new.self ≡ c.loop.events ++ (c.in-Some-2.event ∷ []) = c.in_ok-push.ensures.ok in
    let mapped : events_of c.push.new.self ≡ events_of c.loop.events ++ (event_of c.in-Some-2.event ∷ []) = ap events_of pushed ∙ map-append event_of c.loop.events (c.in-Some-2.event ∷ []) in
    let found = match_some ((x : book.Event) → IsEventOf c.args.sizes x → c.in-Some.line.now ≢ event_line x) (λ (x : Event). IsEventOf c.args.sizes (event_of x) × (c.in-Some.line.now ≡ event_line (event_of x))) c.in_ok-event.field-0 c.in-Some-2.event c.in-Some-2.is c.in_ok-event.ensures in
    record {
      count = omega (arith, ap length pushed, length-append c.loop.events (c.in-Some-2.event ∷ []), c.loop.invariant.count);
      read = lines_step event_line (events_of c.loop.events) (events_of c.push.new.self) (event_of c.in-Some-2.event) c.args.text.now c.loop.rest.now c.in-Some.line.now c.in-Some.more.now c.loop.invariant.read c.in-Some.ensures found.1 mapped;
      good = subst (AllByRecursion (IsEventOf c.args.sizes)) (sym mapped) (all_push (IsEventOf c.args.sizes) (events_of c.loop.events) (event_of c.in-Some-2.event) c.loop.invariant.good found.0);
    }

pub returns-clause-ok : goal.returns-clause-ok
returns-clause-ok c = (c.loop.invariant.read, omega (arith, length-map c.loop.events event_of, c.loop.invariant.count), c.loop.invariant.good)
