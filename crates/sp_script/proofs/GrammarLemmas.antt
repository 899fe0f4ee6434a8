-- The grammar of a line, and the joint observations that values name.
use Rattle.std.proofs.Common.{◌≡◌, ℕ, suc, ◌+◌, ◌*◌, ◌<◌, Bool, true, false, cond, eqb, List, [], ◌∷◌, length, get_or, Option, Some, None, refl, sym, ap, ◌∙◌, subst, arith}
use Rattle.std.specs.Prelude.{All, codes, position, slice_get, nat_lt, option_map, option_and_then}
use Rattle.std.specs.Option.{option_to_list}
use Rattle.std.specs.List.{position_or_len}
use Rattle.std.specs.Str.{bytes_eq}
use Rattle.std.specs.Str.Lines.{lines}
use Rattle.std.proofs.lemmas.Bool.{eq-eqb, eqb-true, false_from_ne_true, lt-ltb}
use Rattle.std.proofs.lemmas.List.{nil_from_length}
use Rattle.std.proofs.lemmas.List.Elements.{All-append, All-cons}
use Rattle.std.proofs.lemmas.List.Quantifiers.{position-Some}
use Rattle.std.proofs.lemmas.List.Sums.{position_or_len_is}
use Rattle.std.proofs.lemmas.Option.{get_or_from_slice_get, slice_get-get_or, slice_get_within}
use Rattle.sp_theory.specs.Points.{IsPoint, count_of, number}
use Rattle.sp_theory.proofs.Numbers.{number-below}
use Rattle.sp_model.specs.declared.parts.Decl.{Decl}
use Rattle.sp_model.specs.Kept.{AreDifferent, IsDecl}
use Rattle.sp_model.specs.Problem.{sizes_of}
use Rattle.sp_script.specs.declared.command.Command.{Command}
use Rattle.sp_script.specs.declared.request.Verb.{Verb}
use Rattle.sp_script.specs.declared.request.Verb.TheVariants.{Opening, Asking, Observing, Syncing, Closing}
use Rattle.sp_script.specs.Requests.{is_session_name, observation_from, observation_of, plain_verb, verb_by, request_of, Request}
use Rattle.sp_script.specs.Lines.{is_skipped, words_of}
use Rattle.sp_script.specs.Script.{command_of, command_on, commands_on}
use Rattle.sp_script.specs.Grammar.{keyword, AreValueWords, WordsSay, AreNamed}
use Rattle.sp_script.specs.Laws.{RequestsAreSaid, ObservationsAreNamed, ObservationsAreWithin, IsObservationWithin}
use Rattle.sp_script.proofs.CommandLemmas.{bytes_same, bytes_self}

-- ---- words
some_is : {A : Type 0} {x y : A} → Some x ≡ Some y → x ≡ y
some_is e = cc

plain_said : (sights : List Decl) (word : List ℕ) (verb : Verb) → plain_verb word ≡ Some verb → (word ≡ keyword verb) × AreValueWords sights verb []
plain_said sights word verb e = by_open (bytes_eq word (codes "open")) refl e
  where
    by_close : (b : Bool) → bytes_eq word (codes "close") ≡ b → cond b (Some Closing) None ≡ Some verb → (word ≡ keyword verb) × AreValueWords sights verb []
    by_close true f e = let is : Closing ≡ verb = cc in subst (λ (v : Verb). (word ≡ keyword v) × AreValueWords sights v []) is (bytes_same word (codes "close") f, refl)
    by_close false f e = absurd (cc)

    by_sync : (b : Bool) → bytes_eq word (codes "sync") ≡ b → cond b (Some Syncing) (cond (bytes_eq word (codes "close")) (Some Closing) None) ≡ Some verb → (word ≡ keyword verb) × AreValueWords sights verb []
    by_sync true f e = let is : Syncing ≡ verb = cc in subst (λ (v : Verb). (word ≡ keyword v) × AreValueWords sights v []) is (bytes_same word (codes "sync") f, refl)
    by_sync false f e = by_close (bytes_eq word (codes "close")) refl e

    by_act : (b : Bool) → bytes_eq word (codes "act") ≡ b → cond b (Some Asking) (cond (bytes_eq word (codes "sync")) (Some Syncing) (cond (bytes_eq word (codes "close")) (Some Closing) None)) ≡ Some verb → (word ≡ keyword verb) × AreValueWords sights verb []
    by_act true f e = let is : Asking ≡ verb = cc in subst (λ (v : Verb). (word ≡ keyword v) × AreValueWords sights v []) is (bytes_same word (codes "act") f, refl)
    by_act false f e = by_sync (bytes_eq word (codes "sync")) refl e

    by_open : (b : Bool) → bytes_eq word (codes "open") ≡ b → cond b (Some Opening) (cond (bytes_eq word (codes "act")) (Some Asking) (cond (bytes_eq word (codes "sync")) (Some Syncing) (cond (bytes_eq word (codes "close")) (Some Closing) None))) ≡ Some verb → (word ≡ keyword verb) × AreValueWords sights verb []
    by_open true f e = let is : Opening ≡ verb = cc in subst (λ (v : Verb). (word ≡ keyword v) × AreValueWords sights v []) is (bytes_same word (codes "open") f, refl)
    by_open false f e = by_act (bytes_eq word (codes "act")) refl e

verb_said : (sights : List Decl) (word : List ℕ) (values : List (List ℕ)) (verb : Verb) → verb_by sights word values ≡ Some verb → (word ≡ keyword verb) × AreValueWords sights verb values
verb_said sights word values verb e = by_word (bytes_eq word (codes "observe")) refl e
  where
    by_length : (b : Bool) → eqb (length values) (length sights) ≡ b → word ≡ codes "observe" → cond b (Some (Observing (observation_of sights values))) None ≡ Some verb → (word ≡ keyword verb) × AreValueWords sights verb values
    by_length true g f e = let is : Observing (observation_of sights values) ≡ verb = cc in subst (λ (v : Verb). (word ≡ keyword v) × AreValueWords sights v values) is (f, (eqb-true (length values) (length sights) g, refl))
    by_length false g f e = absurd (cc)

    by_none : (b : Bool) → eqb (length values) 0 ≡ b → cond b (plain_verb word) None ≡ Some verb → (word ≡ keyword verb) × AreValueWords sights verb values
    by_none true g e = let none = nil_from_length values (eqb-true (length values) 0 g) in subst (λ (vs : List (List ℕ)). (word ≡ keyword verb) × AreValueWords sights verb vs) (sym none) (plain_said sights word verb e)
    by_none false g e = absurd (cc)

    by_word : (b : Bool) → bytes_eq word (codes "observe") ≡ b → cond b (cond (eqb (length values) (length sights)) (Some (Observing (observation_of sights values))) None) (cond (eqb (length values) 0) (plain_verb word) None) ≡ Some verb → (word ≡ keyword verb) × AreValueWords sights verb values
    by_word true f e = by_length (eqb (length values) (length sights)) refl (bytes_same word (codes "observe") f) e
    by_word false f e = by_none (eqb (length values) 0) refl e

request_said : (sights : List Decl) (words : List (List ℕ)) (verb : Verb) (name : List ℕ) → request_of sights words ≡ Some (verb, name) → WordsSay sights words verb name
request_said sights [] verb name e = absurd (cc)
request_said sights (word ∷ []) verb name e = absurd (cc)
request_said sights (word ∷ called ∷ values) verb name e = by_name (is_session_name called) refl e
  where
    by_verb : (o : Option Verb) → verb_by sights word values ≡ o → is_session_name called ≡ true → option_map {U = Request} (λ v. (v, called)) o ≡ Some (verb, name) → WordsSay sights (word ∷ called ∷ values) verb name
    by_verb None f g e = absurd (cc)
    by_verb (Some v) f g e =
        let one : Request = (v, called) in
        let two : Request = (verb, name) in
        let pair : one ≡ two = some_is e in
        let is : v ≡ verb = ap (λ p. p.0) pair in
        let same : called ≡ name = ap (λ p. p.1) pair in
        let (spelt, are) = verb_said sights word values verb (f ∙ ap Some is) in
        (values, (λ i. spelt i ∷ same i ∷ values), ap is_session_name (sym same) ∙ g, are)

    by_name : (b : Bool) → is_session_name called ≡ b → cond b (option_map {U = Request} (λ v. (v, called)) (verb_by sights word values)) None ≡ Some (verb, name) → WordsSay sights (word ∷ called ∷ values) verb name
    by_name true g e = by_verb (verb_by sights word values) refl g e
    by_name false g e = absurd (cc)

said_request : (sights : List Decl) (verb : Verb) (name : List ℕ) (values : List (List ℕ)) → is_session_name name ≡ true → AreValueWords sights verb values → request_of sights (keyword verb ∷ name ∷ values) ≡ Some (verb, name)
said_request sights Opening name values named are = (λ i. request_of sights (codes "open" ∷ name ∷ are i)) ∙ ap (λ b. cond b (Some (Opening, name)) None) named
said_request sights Asking name values named are = (λ i. request_of sights (codes "act" ∷ name ∷ are i)) ∙ ap (λ b. cond b (Some (Asking, name)) None) named
said_request sights (Observing o) name values named (long, is) =
    (λ i. cond (named i) (option_map {U = Request} (λ v. (v, name)) (cond (eq-eqb (length values) (length sights) long i) (Some (Observing (observation_of sights values))) None)) None)
    ∙ ap (λ p. Some (Observing p, name)) (sym is)
said_request sights Syncing name values named are = (λ i. request_of sights (codes "sync" ∷ name ∷ are i)) ∙ ap (λ b. cond b (Some (Syncing, name)) None) named
said_request sights Closing name values named are = (λ i. request_of sights (codes "close" ∷ name ∷ are i)) ∙ ap (λ b. cond b (Some (Closing, name)) None) named

pub requests_are_said : RequestsAreSaid
requests_are_said sights words verb name = (
  request_said sights words verb name,
  λ said. ap (request_of sights) said.1 ∙ said_request sights verb name said.0 said.2 said.3,
)

-- ---- observations
module _ (sight : Decl) (value : List ℕ) where
  abbrev found : Option ℕ
  found = position (λ name. bytes_eq name value) sight.values

  -- a place that is found has the name
  place_named : (x : ℕ) → found ≡ Some x → (x < length sight.values) × (slice_get sight.values x ≡ Some value)
  place_named x e =
      let (within, here, before) = position-Some (λ name. bytes_eq name value) sight.values x [] e in
      (within, slice_get-get_or sight.values x [] within ∙ ap Some (bytes_same (get_or sight.values x []) value here))

  -- and of different names the place of the name is found
  named_place : AreDifferent sight.values → (x : ℕ) → slice_get sight.values x ≡ Some value → found ≡ Some x
  named_place differ x e =
      let within = slice_get_within sight.values x value e in
      let here : get_or sight.values x [] ≡ value = get_or_from_slice_get sight.values x value [] e in
      let before : (k : ℕ) → k < x → bytes_eq (get_or sight.values k []) value ≡ false =
      λ k less. false_from_ne_true (bytes_eq (get_or sight.values k []) value) (λ same. differ k x [] less within (bytes_same (get_or sight.values k []) value same ∙ sym here)) in
      let there : bytes_eq (get_or sight.values x []) value ≡ true = ap (λ name. bytes_eq name value) here ∙ bytes_self value in
      let is : position_or_len (λ name. bytes_eq name value) sight.values ≡ x = position_or_len_is (λ name. bytes_eq name value) sight.values x [] (omega (arith, within)) before (λ _. there) in
      ap (λ n. cond (nat_lt n (length sight.values)) (Some n) None) is ∙ ap (λ b. cond b (Some x) None) (lt-ltb x (length sight.values) within)

-- the joint observation of values whose number is reached from that of the earlier variables
abbrev IsReached : ℕ → List Decl → List (List ℕ) → ℕ → Type 0
IsReached n sights values o = (xs : List ℕ) × IsPoint (sizes_of sights) xs × AreNamed sights xs values × (o ≡ n * count_of (sizes_of sights) + number (sizes_of sights) xs)

reached : (n : ℕ) (sights : List Decl) (values : List (List ℕ)) (o : ℕ) → observation_from n sights values ≡ Some o → IsReached n sights values o
reached n [] [] o e = let is : n ≡ o = some_is e in ([], tt, tt, omega (arith, is))
reached n [] (value ∷ values) o e = absurd (cc)
reached n (sight ∷ sights) [] o e = absurd (cc)
reached n (sight ∷ sights) (value ∷ values) o e = by_place (position (λ name. bytes_eq name value) sight.values) refl e (λ x. reached (n * length sight.values + x) sights values o)
  where
    by_place : (p : Option ℕ) → position (λ name. bytes_eq name value) sight.values ≡ p → option_and_then (λ place. observation_from (n * length sight.values + place) sights values) p ≡ Some o
        → ((x : ℕ) → observation_from (n * length sight.values + x) sights values ≡ Some o → IsReached (n * length sight.values + x) sights values o) → IsReached n (sight ∷ sights) (value ∷ values) o
    by_place None f e more = absurd (cc)
    by_place (Some x) f e more =
        let (within, named) = place_named sight value x f in
        let (xs, point, are, is) = more x e in
        (x ∷ xs, (within, point), (named, are), omega (arith, is))

from_point : (n : ℕ) (sights : List Decl) → All IsDecl sights → (values : List (List ℕ)) (xs : List ℕ) → IsPoint (sizes_of sights) xs → AreNamed sights xs values → observation_from n sights values ≡ Some (n * count_of (sizes_of sights) + number (sizes_of sights) xs)
from_point n [] declared [] [] point are = ap Some (let e : n ≡ n * 1 + 0 = omega arith in e)
from_point n [] declared (value ∷ values) [] point are = absurd are
from_point n [] declared values (x ∷ xs) point are = absurd are
from_point n (sight ∷ sights) declared values [] point are = absurd are
from_point n (sight ∷ sights) declared [] (x ∷ xs) point are = absurd are
from_point n (sight ∷ sights) declared (value ∷ values) (x ∷ xs) (within, point) (named, are) =
    let differ = (declared 0 sight (omega arith)).different in
    ap (option_and_then (λ place. observation_from (n * length sight.values + place) sights values)) (named_place sight value differ x named)
    ∙ from_point (n * length sight.values + x) sights (λ k d less. declared (suc k) d (omega (arith, less))) values xs point are
    ∙ ap Some (let e : (n * length sight.values + x) * count_of (sizes_of sights) + number (sizes_of sights) xs ≡ n * (length sight.values * count_of (sizes_of sights)) + (x * count_of (sizes_of sights) + number (sizes_of sights) xs) = omega arith in e)

pub observations_are_named : ObservationsAreNamed
observations_are_named sights declared values o = (
  λ e. let (xs, point, are, is) = reached 0 sights values o e in (xs, point, are, omega (arith, is)),
  λ seen. from_point 0 sights declared values seen.0 seen.1 seen.2 ∙ ap Some (let is = seen.3 in let e : 0 * count_of (sizes_of sights) + number (sizes_of sights) seen.0 ≡ o = omega (arith, is) in e),
)

-- ---- commands
request_within : (sights : List Decl) (line : ℕ) (verb : Verb) (name : List ℕ) (words : List (List ℕ)) (c : Command) → request_of sights words ≡ Some (verb, name) → command_of line (verb, name) ≡ Some c → IsObservationWithin (count_of (sizes_of sights)) c
request_within sights line Opening name words c e f = subst (IsObservationWithin (count_of (sizes_of sights))) (some_is f) tt
request_within sights line Asking name words c e f = subst (IsObservationWithin (count_of (sizes_of sights))) (some_is f) tt
request_within sights line Syncing name words c e f = subst (IsObservationWithin (count_of (sizes_of sights))) (some_is f) tt
request_within sights line Closing name words c e f = subst (IsObservationWithin (count_of (sizes_of sights))) (some_is f) tt
request_within sights line (Observing None) name words c e f = absurd (cc)
request_within sights line (Observing (Some o)) name words c e f =
    let said = request_said sights words (Observing (Some o)) name e in
    let (xs, point, are, is) = reached 0 sights said.0 o (sym said.3.1) in
    let low = number-below (sizes_of sights) xs point in
    subst (IsObservationWithin (count_of (sizes_of sights))) (some_is f) (let less : o < count_of (sizes_of sights) = omega (arith, is, low) in less)

on_within : (sights : List Decl) (line : ℕ) (text : List ℕ) → All (IsObservationWithin (count_of (sizes_of sights))) (option_to_list (command_on sights line text))
on_within sights line text = by_skip (is_skipped (words_of text))
  where
    none : All (IsObservationWithin (count_of (sizes_of sights))) []
    none k d less = absurd (omega (arith, less))

    by_command : (request : Request) → request_of sights (words_of text) ≡ Some request → (o : Option Command) → command_of line request ≡ o → All (IsObservationWithin (count_of (sizes_of sights))) (option_to_list o)
    by_command request e None f = none
    by_command (verb, name) e (Some c) f = All-cons (IsObservationWithin (count_of (sizes_of sights))) c [] (request_within sights line verb name (words_of text) c e f) none

    by_request : (r : Option Request) → request_of sights (words_of text) ≡ r → All (IsObservationWithin (count_of (sizes_of sights))) (option_to_list (option_and_then (command_of line) r))
    by_request None e = none
    by_request (Some request) e = by_command request e (command_of line request) refl

    by_skip : (b : Bool) → All (IsObservationWithin (count_of (sizes_of sights))) (option_to_list (cond b None (option_and_then (command_of line) (request_of sights (words_of text)))))
    by_skip true = none
    by_skip false = by_request (request_of sights (words_of text)) refl

all_within : (sights : List Decl) (line : ℕ) (texts : List (List ℕ)) → All (IsObservationWithin (count_of (sizes_of sights))) (commands_on sights line texts)
all_within sights line [] = λ k d less. absurd (omega (arith, less))
all_within sights line (text ∷ texts) = All-append (IsObservationWithin (count_of (sizes_of sights))) (option_to_list (command_on sights (line + 1) text)) (commands_on sights (line + 1) texts) (on_within sights (line + 1) text) (all_within sights (line + 1) texts)

pub observations_are_within : ObservationsAreWithin
observations_are_within sights declared source cs script = subst (λ (ds : List Command). All (IsObservationWithin (count_of (sizes_of sights))) ds) (sym script.commands) (all_within sights 0 (lines source))
