-- A script, line by line.
use Rattle.std.proofs.Common.{◌≡◌, ◌⊎◌, ℕ, zero, suc, ◌+◌, ◌<◌, ◌≤◌, false, List, [], ◌∷◌, ◌++◌, length, take, drop, Some, refl, sym, ap, ◌∙◌, subst, inl, inr, arith, append_assoc, take_all}
use Rattle.std.specs.Prelude.{slice_get}
use Rattle.std.specs.Option.{option_to_list}
use Rattle.std.specs.Str.Lines.{lines}
use Rattle.std.proofs.lemmas.Bool.{cases_lt}
use Rattle.std.proofs.lemmas.List.{append-nil, length-drop, nil_from_length}
use Rattle.std.proofs.lemmas.Option.{slice_get_within}
use Rattle.sp_model.specs.declared.parts.Decl.{Decl}
use Rattle.sp_script.specs.declared.command.Command.{Command}
use Rattle.sp_script.specs.declared.error.ScriptError.{ScriptError}
use Rattle.sp_script.specs.declared.error.ScriptError.TheVariants.{Fault, NoMemory}
use Rattle.sp_script.specs.declared.error.ScriptKind.{ScriptKind}
use Rattle.sp_script.specs.Lines.{words_of, is_skipped}
use Rattle.sp_script.specs.Requests.{request_of}
use Rattle.sp_script.specs.Script.{command_on, commands_on, commands_before, BreaksRule, HasFault, kinds, IsFirstKind, IsFirstFault, IsScriptRefused, IsScript}
use Rattle.sp_script.specs.Reading.{IsRefusedOn, IsTakenOn}

-- ---- the commands on one line more
commands_on-push : (sights : List Decl) (n m : ℕ) (xs : List (List ℕ)) (x : List ℕ) → m ≡ n + length xs → commands_on sights n (xs ++ x ∷ []) ≡ commands_on sights n xs ++ option_to_list (command_on sights (m + 1) x)
commands_on-push sights n m [] x is = append-nil (option_to_list (command_on sights (n + 1) x)) ∙ ap (λ k. option_to_list (command_on sights (k + 1) x)) (let e : n ≡ m = omega (arith, is) in e)
commands_on-push sights n m (y ∷ xs) x is =
    ap (λ cs. option_to_list (command_on sights (n + 1) y) ++ cs) (commands_on-push sights (n + 1) m xs x (omega (arith, is)))
    ∙ sym (append_assoc (option_to_list (command_on sights (n + 1) y)) (commands_on sights (n + 1) xs) (option_to_list (command_on sights (m + 1) x)))

-- ---- places
record At {X : Type 0} (xs : List X) (k : ℕ) (x : X) (rest : List X) : Type 0 where
  here : slice_get xs k ≡ Some x
  front : take (k + 1) xs ≡ take k xs ++ x ∷ []
  behind : drop (k + 1) xs ≡ rest
  long : length (take k xs) ≡ k

at : {X : Type 0} (xs : List X) (k : ℕ) (x : X) (rest : List X) → drop k xs ≡ x ∷ rest → At xs k x rest
at [] zero x rest e = absurd (cc)
at [] (suc k) x rest e = absurd (cc)
at (y ∷ xs) zero x rest e = let is : y ≡ x = cc in let more : xs ≡ rest = cc in record { here = ap Some is; front = ap (λ z. z ∷ []) is; behind = more; long = refl }
at (y ∷ xs) (suc k) x rest e =
    let h = at xs k x rest e in
    let next : suc k + 1 ≡ suc (k + 1) = omega arith in
    record { here = h.here; front = ap (λ n. take n (y ∷ xs)) next ∙ ap (λ zs. y ∷ zs) h.front; behind = ap (λ n. drop n (y ∷ xs)) next ∙ h.behind; long = let e = h.long in omega (arith, e) }

-- ---- faults
first_alike : (P R : ScriptKind → Type 0) → ((x : ScriptKind) → P x → R x) → ((x : ScriptKind) → R x → P x) → (xs : List ScriptKind) (c : ScriptKind) → IsFirstKind P xs c → IsFirstKind R xs c
first_alike P R to back [] c f = f
first_alike P R to back (x ∷ xs) c (inl (e, p)) = inl (e, to x p)
first_alike P R to back (x ∷ xs) c (inr (un, f)) = inr (λ r. un (back x r), first_alike P R to back xs c f)

-- the reader before a line
pub record IsReadTo (sights : List Decl) (source rest : List ℕ) (number : ℕ) (cs : List Command) : Type 0 where
  pub left : drop number (lines source) ≡ lines rest
  pub commands : cs ≡ commands_before sights source number
  pub faultless : (j : ℕ) (kind : ScriptKind) → j < number → ¬ HasFault sights source j kind

module _ (sights : List Decl) (source rest : List ℕ) (number : ℕ) (cs : List Command) (read : IsReadTo sights source rest number cs) (line behind : List ℕ) (cut : lines rest ≡ line ∷ lines behind) where
  place : At (lines source) number line (lines behind)
  place = at (lines source) number line (lines behind) (read.left ∙ cut)

  same_line : (other : List ℕ) → slice_get (lines source) number ≡ Some other → other ≡ line
  same_line other e = let h = place.here in cc

  to_fault : is_skipped (words_of line) ≡ false → (kind : ScriptKind) → BreaksRule cs (request_of sights (words_of line)) kind → HasFault sights source number kind
  to_fault told kind h = (line, place.here, told, subst (λ (before : List Command). BreaksRule before (request_of sights (words_of line)) kind) read.commands h)

  from_fault : (kind : ScriptKind) → HasFault sights source number kind → (is_skipped (words_of line) ≡ false) × BreaksRule cs (request_of sights (words_of line)) kind
  from_fault kind (other, is, told, h) =
      let same = same_line other is in
      (ap (λ l. is_skipped (words_of l)) (sym same) ∙ told, subst (λ (before : List Command). BreaksRule before (request_of sights (words_of line)) kind) (sym read.commands) (subst (λ (l : List ℕ). BreaksRule (commands_before sights source number) (request_of sights (words_of l)) kind) same h))

  -- the line is at fault
  pub read_refused : is_skipped (words_of line) ≡ false → (kind : ScriptKind) → IsFirstKind (BreaksRule cs (request_of sights (words_of line))) kinds kind → IsFirstFault sights source number kind
  read_refused told kind first = record {
    fault = first_alike (BreaksRule cs (request_of sights (words_of line))) (HasFault sights source number) (to_fault told) (λ k h. (from_fault k h).1) kinds kind first;
    earlier = λ j other less. read.faultless j other less;
  }

  -- so the script is refused
  pub refused_by : (error : ScriptError) → IsRefusedOn sights (number + 1) line cs error → IsScriptRefused sights source error
  refused_by (Fault at kind) (is, told, first) = (number, is, read_refused told kind first)
  refused_by NoMemory told = tt

  -- or it isn't
  pub read_more : (after : List Command) → IsTakenOn sights (number + 1) line cs after → IsReadTo sights source behind (number + 1) after
  read_more after taken = record {
    left = place.behind;
    commands = taken.commands ∙ (λ i. read.commands i ++ option_to_list (command_on sights (number + 1) line)) ∙ sym (commands_on-push sights 0 number (take number (lines source)) line (let e = place.long in omega (arith, e))) ∙ ap (commands_on sights 0) (sym place.front);
    faultless = λ j kind less. by_place j kind less (cases_lt j number);
  }
    where
      by_place : (j : ℕ) (kind : ScriptKind) → j < number + 1 → (j < number) ⊎ (number ≤ j) → ¬ HasFault sights source j kind
      by_place j kind less (inl before) = read.faultless j kind before
      by_place j kind less (inr low) =
          let same : j ≡ number = omega arith in
          subst (λ (k : ℕ). ¬ HasFault sights source k kind) (sym same) (λ h. taken.faultless (from_fault kind h).0 kind (from_fault kind h).1)

-- the whole script is read
pub read_all : (sights : List Decl) (source rest : List ℕ) (number : ℕ) (cs : List Command) → IsReadTo sights source rest number cs → length rest ≡ 0 → IsScript sights source cs
read_all sights source rest number cs read empty =
    let none : rest ≡ [] = nil_from_length rest empty in
    let nothing : drop number (lines source) ≡ [] = read.left ∙ ap lines none in
    let gone : length (drop number (lines source)) ≡ 0 = ap length nothing in
    let short : length (lines source) ≤ number = omega (arith, length-drop number (lines source), gone) in
    record {
      commands = read.commands ∙ ap (commands_on sights 0) (take_all number (lines source) short);
      faultless = λ k kind h. read.faultless k kind (let less = slice_get_within (lines source) k h.0 h.1 in omega (arith, less, short)) h;
    }

pub read_none : (sights : List Decl) (source : List ℕ) (cs : List Command) → cs ≡ [] → IsReadTo sights source source 0 cs
read_none sights source cs none = record { left = refl; commands = none; faultless = λ j kind less. absurd (omega (arith, less)) }
