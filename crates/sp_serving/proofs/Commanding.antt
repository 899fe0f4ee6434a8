-- Commands, and one more that may come next.
use Rattle.std.proofs.Common.{◌≡◌, ◌≢◌, ◌∙◌, sym, ap, subst, refl, arith, ℕ, zero, suc, ◌<◌, ◌≤◌, Bool, true, false, cond, not, ◌&&◌, ◌||◌, List, [], ◌∷◌, ◌++◌, map, length, length-append, take, append_assoc, append-nil, Some}
use Rattle.std.specs.Prelude.{IsTrue, filter, slice_get}
use Rattle.std.specs.Str.{bytes_eq}
use Rattle.std.proofs.Math.Seq.{take-append_seam}
use Rattle.std.proofs.Math.ListN.{get_or-append}
use Rattle.std.proofs.lemmas.List.{map-append, take-append-le}
use Rattle.std.proofs.lemmas.Option.{slice_get_within}
use Rattle.std.proofs.lemmas.List.Elements.{filter-append}
use Rattle.std.proofs.lemmas.Bool.{false_from_ne_true}
use Rattle.sp_script.specs.declared.command.Command.{Command}
use Rattle.sp_script.specs.declared.error.ScriptKind.{ScriptKind}
use Rattle.sp_script.specs.declared.error.ScriptKind.TheVariants.{NotOpen, Twice, NoAction}
use Rattle.sp_script.specs.Requests.{is_session_name}
use Rattle.sp_script.specs.Commands.{name_of, verb_of, request_with, is_opening, is_asking, is_observing, is_closing, asks_of, was_asked, is_open, has_answer, BreaksAfter, AreCommands}
use Rattle.sp_script.specs.Served.{opened_names, asks_entry, commands_of}
use Rattle.sp_script.proofs.CommandLemmas.{was_asked-more, has_answer-more, bytes_same, asks_of-same, asks_of-other}
use Rattle.sp_serving.specs.Progress.{IsIdle}

-- ---- the place of a command
get_seam : (before : List Command) (c : Command) (cs : List Command) → slice_get (before ++ c ∷ cs) (length before) ≡ Some c
get_seam [] c cs = refl
get_seam (x ∷ before) c cs = get_seam before c cs

-- it breaks no rule after the commands before it
pub faultless_at : (before : List Command) (c : Command) (cs : List Command) → AreCommands (before ++ c ∷ cs) → (kind : ScriptKind) → ¬ BreaksAfter before (request_with c) kind
faultless_at before c cs are kind broken =
    are.in_order (length before) c kind (get_seam before c cs) (subst (λ (ds : List Command). BreaksAfter ds (request_with c) kind) (sym (take-append_seam before (c ∷ cs))) broken)

pub commands_on : (before : List Command) (c : Command) (cs : List Command) → AreCommands (before ++ c ∷ cs) → AreCommands ((before ++ c ∷ []) ++ cs)
commands_on before c cs are = subst AreCommands (sym (append_assoc before (c ∷ []) cs)) are

-- the first commands of some are commands
pub commands_first : (front cs : List Command) → AreCommands (front ++ cs) → AreCommands front
commands_first front cs are = record {
  named = λ k d less. subst (λ (c : Command). IsTrue (is_session_name (name_of c))) (get_or-append front cs d k less) (are.named k d (let long = length-append front cs in omega (arith, less, long)));
  in_order = λ k c kind at broken.
      let less = slice_get_within front k c at in
      are.in_order k c kind (get_front front cs k c at) (subst (λ (ds : List Command). BreaksAfter ds (request_with c) kind) (sym (take-append-le k front cs (omega (arith, less)))) broken);
}
  where
    get_front : (front cs : List Command) (k : ℕ) (c : Command) → slice_get front k ≡ Some c → slice_get (front ++ cs) k ≡ Some c
    get_front [] cs k c at = absurd (cc)
    get_front (x ∷ front) cs zero c at = at
    get_front (x ∷ front) cs (suc k) c at = get_front front cs k c at

-- ---- tests
none_of : (a b : Bool) → (a || b) ≡ false → (a ≡ false) × (b ≡ false)
none_of false b e = (refl, e)
none_of true b e = absurd (cc)

kept_by : (h : Bool) → (false || (h && true)) ≡ h
kept_by true = refl
kept_by false = refl

no_and : (b : Bool) → (b && false) ≡ false
no_and true = refl
no_and false = refl

module _ (before : List Command) (c : Command) where
  -- ---- names
  pub opened-more : opened_names (before ++ c ∷ []) ≡ opened_names before ++ cond (is_opening (verb_of c)) (name_of c ∷ []) []
  opened-more =
      ap (map name_of) (filter-append (λ (d : Command). is_opening (verb_of d)) before (c ∷ []))
      ∙ map-append name_of (filter (λ (d : Command). is_opening (verb_of d)) before) (filter (λ (d : Command). is_opening (verb_of d)) (c ∷ []))
      ∙ ap (λ (names : List (List ℕ)). opened_names before ++ names) (go (is_opening (verb_of c)))
    where
      go : (b : Bool) → map name_of (cond b (c ∷ []) []) ≡ cond b (name_of c ∷ []) []
      go true = refl
      go false = refl

  -- ---- answers to observe after
  pub answer-other : (name : List ℕ) → bytes_eq name (name_of c) ≡ false → has_answer name (before ++ c ∷ []) ≡ has_answer name before
  answer-other name e =
      has_answer-more name before c
      ∙ (λ i. asks_of-other is_asking name c e i || (has_answer name before && not (asks_of-other is_observing name c e i)))
      ∙ kept_by (has_answer name before)

  pub answer-own : (name : List ℕ) → bytes_eq name (name_of c) ≡ true → has_answer name (before ++ c ∷ []) ≡ (is_asking (verb_of c) || (has_answer name before && not (is_observing (verb_of c))))
  answer-own name e = has_answer-more name before c ∙ (λ i. asks_of-same is_asking name c e i || (has_answer name before && not (asks_of-same is_observing name c e i)))

  -- of a command that neither asks nor observes
  pub answer-idle : (name : List ℕ) → is_asking (verb_of c) ≡ false → is_observing (verb_of c) ≡ false → has_answer name (before ++ c ∷ []) ≡ has_answer name before
  answer-idle name plain quiet =
      has_answer-more name before c
      ∙ (λ i. (plain i && bytes_eq name (name_of c)) || (has_answer name before && not (quiet i && bytes_eq name (name_of c))))
      ∙ kept_by (has_answer name before)

  -- ---- the commands of a session
  pub commands-more : (name : List ℕ) → commands_of name (before ++ c ∷ []) ≡ commands_of name before ++ cond (bytes_eq name (name_of c) && asks_entry c) (c ∷ []) []
  commands-more name = filter-append (λ (d : Command). bytes_eq name (name_of d) && asks_entry d) before (c ∷ [])

  pub commands-other : (name : List ℕ) → bytes_eq name (name_of c) ≡ false → commands_of name (before ++ c ∷ []) ≡ commands_of name before
  commands-other name e = commands-more name ∙ ap (λ (b : Bool). commands_of name before ++ cond (b && asks_entry c) (c ∷ []) []) e ∙ append-nil (commands_of name before)

  pub commands-plain : (name : List ℕ) → asks_entry c ≡ false → commands_of name (before ++ c ∷ []) ≡ commands_of name before
  commands-plain name e =
      commands-more name
      ∙ ap (λ (b : Bool). commands_of name before ++ cond b (c ∷ []) []) (ap (λ (b : Bool). bytes_eq name (name_of c) && b) e ∙ no_and (bytes_eq name (name_of c)))
      ∙ append-nil (commands_of name before)

  pub commands-own : (name : List ℕ) → bytes_eq name (name_of c) ≡ true → asks_entry c ≡ true → commands_of name (before ++ c ∷ []) ≡ commands_of name before ++ c ∷ []
  commands-own name e asks = commands-more name ∙ (λ i. commands_of name before ++ cond (e i && asks i) (c ∷ []) [])

  -- ---- what may come next
  module _ (faultless : (kind : ScriptKind) → ¬ BreaksAfter before (request_with c) kind) where
    -- a session that is opened was not opened before
    pub is_new : is_opening (verb_of c) ≡ true → was_asked is_opening (name_of c) before ≡ false
    is_new opens = false_from_ne_true (was_asked is_opening (name_of c) before) (λ twice. faultless Twice (opens, twice))

    -- where it observes, its session has an answer
    pub is_answered : is_observing (verb_of c) ≡ true → has_answer (name_of c) before ≡ true
    is_answered observes = by_test (has_answer (name_of c) before) refl
      where
        by_test : (b : Bool) → has_answer (name_of c) before ≡ b → has_answer (name_of c) before ≡ true
        by_test true e = e
        by_test false e = absurd (faultless NoAction (observes, e))

    -- names that weren't opened stay without commands
    pub idle_after : ((name : List ℕ) → was_asked is_opening name before ≡ false → IsIdle before name) → (name : List ℕ) → was_asked is_opening name (before ++ c ∷ []) ≡ false → IsIdle (before ++ c ∷ []) name
    idle_after idle name none = by_name (bytes_eq name (name_of c)) refl
      where
        both : (was_asked is_opening name before ≡ false) × (asks_of is_opening name c ≡ false)
        both = none_of (was_asked is_opening name before) (asks_of is_opening name c) (sym (was_asked-more is_opening name before c) ∙ none)

        by_name : (b : Bool) → bytes_eq name (name_of c) ≡ b → IsIdle (before ++ c ∷ []) name
        by_name false e = record { answer = answer-other name e ∙ (idle name both.0).answer; commands = commands-other name e ∙ (idle name both.0).commands }
        by_name true e =
            absurd (faultless NotOpen (
              sym (asks_of-same is_opening name c e) ∙ both.1,
              ap (λ (b : Bool). b && not (was_asked is_closing (name_of c) before)) (ap (λ (other : List ℕ). was_asked is_opening other before) (sym (bytes_same name (name_of c) e)) ∙ both.0),
            ))
