use Rattle.std.proofs.Common.{◌≡◌, ◌∙◌, ◌<◌, ℕ, ◌+◌, ◌*◌, sym, subst, ap, refl, arith, length, drop, get_or, Some, None}
use Rattle.std.proofs.lemmas.List.{get_or_default}
use Rattle.sp_model.specs.declared.parts.Decl.{Decl}
use Rattle.sp_model.specs.Problem.{no_decl}
use Rattle.sp_script.specs.Lines.{texts}
use Rattle.sp_script.specs.Requests.{observation_from}
use Rattle.sp_script.proofs.RequestLemmas.{IsWithin, within_more, within_count, small_product, place_within, texts-length, observation_step, observation_end}
use Rattle.sp_script.proofs.request.observation_of.Goals as goal
use Rattle.sp_script.proofs.request.observation_of.Goals.{In_ok-place, After-len}

size_is : (c : After-len) → c.len.result ≡ length (get_or c.args.sights.now c.loop-variable.variable no_decl).values
size_is c =
    let less : c.loop-variable.variable < length c.args.sights.now = omega arith in
    c.len.ensures ∙ ap (λ (d : Decl). length d.values) (get_or_default c.args.sights.now c.loop-variable.variable c.index-sights-variable.result no_decl less)

within : (c : After-len) → IsWithin c.args.sights.now (c.loop-variable.variable + 1) (c.loop-variable.number * c.len.result + c.in_ok-place.place)
within c =
    let less : c.loop-variable.variable < length c.args.sights.now = omega arith in
    let low = place_within (get_or c.args.sights.now c.loop-variable.variable no_decl).values _ c.in_ok-place.place (sym c.place_at.ensures ∙ c.in_ok-place.was) in
    subst (λ (n : ℕ). IsWithin c.args.sights.now (c.loop-variable.variable + 1) (c.loop-variable.number * n + c.in_ok-place.place)) (sym (size_is c))
    (within_more c.args.sights.now c.loop-variable.variable c.loop-variable.number c.in_ok-place.place less low c.loop-variable.invariant.fits)

pub loop-variable-init : goal.loop-variable-init
loop-variable-init c = record { fits = omega arith; rest = refl }

pub overflow_mul-number : goal.overflow_mul-number
overflow_mul-number c =
    let less : c.loop-variable.variable < length c.args.sights.now = omega arith in
    let low = within_count c.args.sights.now c.loop-variable.variable c.loop-variable.number c.requires.declared c.loop-variable.invariant.fits in
    let few = (c.requires.declared c.loop-variable.variable no_decl less).few in
    let small = small_product c.loop-variable.number c.len.result (omega (arith, low, c.requires.few)) (omega (arith, few, size_is c)) in
    omega (arith, small)

pub overflow_add-number : goal.overflow_add-number
overflow_add-number c =
    let low = within_count c.args.sights.now (c.loop-variable.variable + 1) (c.loop-variable.number * c.len.result + c.in_ok-place.place) c.requires.declared (within c) in
    omega (arith, low, c.requires.few)

pub returns-in_err-place : goal.returns-in_err-place
returns-in_err-place c =
    let less : c.loop-variable.variable < length c.args.sights.now = omega arith in
    let there : c.loop-variable.variable < length (texts c.args.values.now) = let h = c.loop-variable-test.true in omega (arith, texts-length c.args.values.now, h) in
    c.from_residual.ensures
    ∙ observation_step c.args.sights.now (texts c.args.values.now) c.loop-variable.variable c.loop-variable.number less there None (sym c.in_err-place.was ∙ c.place_at.ensures)
    ∙ c.loop-variable.invariant.rest

pub loop-variable-preserved : goal.loop-variable-preserved
loop-variable-preserved c =
    let less : c.loop-variable.variable < length c.args.sights.now = omega arith in
    let there : c.loop-variable.variable < length (texts c.args.values.now) = let h = c.loop-variable-test.true in omega (arith, texts-length c.args.values.now, h) in
    record {
      fits = within c;
      rest =
          ap (λ n. observation_from (c.loop-variable.number * n + c.in_ok-place.place) (drop (c.loop-variable.variable + 1) c.args.sights.now) (drop (c.loop-variable.variable + 1) (texts c.args.values.now))) (size_is c)
          ∙ observation_step c.args.sights.now (texts c.args.values.now) c.loop-variable.variable c.loop-variable.number less there (Some c.in_ok-place.place) (sym c.in_ok-place.was ∙ c.place_at.ensures)
          ∙ c.loop-variable.invariant.rest;
    }

pub returns : goal.returns
returns c = observation_end c.args.sights.now c.args.values.now c.loop-variable.variable c.loop-variable.number c.requires.each c.loop-variable-test.false c.loop-variable.auto.variable-end ∙ c.loop-variable.invariant.rest
