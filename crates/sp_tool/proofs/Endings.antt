-- How the reading of a job's files ends: what one ending bars of the others.
use Rattle.std.proofs.Common.{◌≡◌, ◌∙◌, ℕ, suc, List, [], ◌∷◌, map, sym, subst, Contains, arith, inl, inr}
use Rattle.sp_outside.specs.Folder.{Folder}
use Rattle.sp_model.specs.declared.parts.Parts.{Parts}
use Rattle.sp_filed.proofs.OneRun.{one_run}
use Rattle.sp_judging.proofs.Migrated.{legal_files_are_not_refused}
use Rattle.sp_reader.proofs.SourceLemmas.{not_refused, one_meaning}
use Rattle.sp_script.specs.Script.{IsScript}
use Rattle.sp_script.proofs.ScriptLemmas.{scripts_are_not_refused}
use Rattle.sp_tool.specs.Inputs.{Input, model_file, plan_file, script_file, name_of, TellsModel, TellsNone, IsAccepted, IsRefused, IsForbidden, Ending, all_accepted, last_refused, last_forbidden, next_unread, EndsWhole, EndsBefore, EndsAt, EndsBehind, Ends}
use Rattle.sp_tool.specs.Table.{Saw, Holds, AgreeSoFar}

-- ---- one file
-- no more than one model is told
abbrev pub IsOne : (Parts → Type 0) → Type 0
IsOne told = (model other : Parts) → told model → told other → model ≡ other

-- so it is of each file
one_model : (input : Input) (source : List ℕ) → IsOne (TellsModel input source)
one_model (model_file name) source model other one two = one_meaning source model other one two
one_model (plan_file name) source model other one two =
    let same = one_run source one.0 two.0 one.1.0 two.1.0 one.1.1.0 two.1.1.0 one.1.1.1.0 two.1.1.1.0 one.1.1.1.1 two.1.1.1.1 in
    sym one.1.1.1.2 ∙ same.0.model ∙ two.1.1.1.2
one_model (script_file name) source model other one two = elim one [ ]

no_model : IsOne TellsNone
no_model model other one two = elim one [ ]

module _ (told : Parts → Type 0) (one : IsOne told) where
  not_refused_too : (input : Input) (source line : List ℕ) → IsAccepted told input source → IsRefused told input source line → ⊥
  not_refused_too (model_file name) source line may (inl long) = omega (arith, long.0, may.0)
  not_refused_too (plan_file name) source line may (inl long) = omega (arith, long.0, may.0)
  not_refused_too (script_file name) source line may (inl long) = omega (arith, long.0, may.0)
  not_refused_too (model_file name) source line may (inr bars) = not_refused source may.1.0 bars.1.0 bars.1.1.0 may.1.1 bars.1.1.1
  not_refused_too (plan_file name) source line may (inr bars) = (legal_files_are_not_refused source).legal_or_fault may.1 bars.1.0 bars.1.1.0 bars.1.1.1
  not_refused_too (script_file name) source line may (inr bars) =
      let same : may.1.0 ≡ bars.1.0 = one may.1.0 bars.1.0 may.1.1 bars.1.1 in
      let script = subst (λ (p : Parts). IsScript p.sights source may.1.2.0) same may.1.2.1 in
      scripts_are_not_refused bars.1.0.sights source may.1.2.0 bars.1.2.0 bars.1.2.1.0 script bars.1.2.1.1

  not_forbidden_too : (input : Input) (source line : List ℕ) → IsAccepted told input source → IsForbidden input source line → ⊥
  not_forbidden_too (model_file name) source line may bad = elim bad.1 [ ]
  not_forbidden_too (plan_file name) source line may bad = (legal_files_are_not_refused source).legal_or_not may.1 bad.1.0 bad.1.1
  not_forbidden_too (script_file name) source line may bad = elim bad.1 [ ]

  refused_not_forbidden : (input : Input) (source line other : List ℕ) → IsRefused told input source line → IsForbidden input source other → ⊥
  refused_not_forbidden (model_file name) source line other bars bad = elim bad.1 [ ]
  refused_not_forbidden (script_file name) source line other bars bad = elim bad.1 [ ]
  refused_not_forbidden (plan_file name) source line other (inl long) bad = omega (arith, long.0, bad.0)
  refused_not_forbidden (plan_file name) source line other (inr bars) bad = (legal_files_are_not_refused source).illegal_or_fault bad.1.0 bad.1.1 bars.1.0 bars.1.1.0 bars.1.1.1

  -- the reading doesn't end at a file that is accepted
  accepted_goes_on : (input : Input) (source : List ℕ) (ending : Ending) → IsAccepted told input source → EndsAt told input source ending → ⊥
  accepted_goes_on input source all_accepted may stop = elim stop [ ]
  accepted_goes_on input source (last_refused line) may stop = not_refused_too input source line may stop
  accepted_goes_on input source (last_forbidden line) may stop = not_forbidden_too input source line may stop
  accepted_goes_on input source (next_unread name) may stop = elim stop [ ]

-- ---- one after another
-- what is told of a store's files is what was seen of them
pub seen_same : (store : Folder) (names held seen : List (List ℕ)) → Holds store names held → Saw store names seen → AgreeSoFar held seen
seen_same store names [] seen holds saw = tt
seen_same store names (h ∷ held) [] holds saw = tt
seen_same store [] (h ∷ held) (s ∷ seen) holds saw = elim holds [ ]
seen_same store (name ∷ names) (h ∷ held) (s ∷ seen) holds saw = (saw.0 h holds.0, seen_same store names held seen holds.1 saw.1)

-- endings of which no file and no end of the files allows both, where neither is that of a file that wasn't read
module _ (ending other : Ending)
    (apart : (told : Parts → Type 0) → IsOne told → (input : Input) (source : List ℕ) → EndsAt told input source ending → EndsAt told input source other → ⊥)
    (whole : EndsWhole ending → EndsWhole other → ⊥)
    (read : (input : Input) → EndsBefore input ending → ⊥)
    (read_too : (input : Input) → EndsBefore input other → ⊥) where
  end_apart : (told : Parts → Type 0) → IsOne told → (ins : List Input) (held seen : List (List ℕ)) → AgreeSoFar held seen → EndsBehind told ins held ending → EndsBehind told ins seen other → ⊥
  end_apart told one [] [] [] same e f = whole e f
  end_apart told one [] [] (s ∷ seen) same e f = elim f [ ]
  end_apart told one [] (h ∷ held) seen same e f = elim e [ ]
  end_apart told one (input ∷ ins) [] seen same e f = read input e
  end_apart told one (input ∷ ins) (h ∷ held) [] same e f = read_too input f
  end_apart told one (input ∷ ins) (h ∷ held) (s ∷ seen) same (inl go) (inl on) =
      end_apart (TellsModel input h) (one_model input h) ins held seen same.1 go.1 (subst (λ (b : List ℕ). EndsBehind (TellsModel input b) ins seen other) same.0 on.1)
  end_apart told one (input ∷ ins) (h ∷ held) (s ∷ seen) same (inl go) (inr stop) = accepted_goes_on told one input h other go.0 (subst (λ (b : List ℕ). EndsAt told input b other) same.0 stop.0)
  end_apart told one (input ∷ ins) (h ∷ held) (s ∷ seen) same (inr stop) (inl on) = accepted_goes_on told one input h ending (subst (λ (b : List ℕ). IsAccepted told input b) same.0 on.0) stop.0
  end_apart told one (input ∷ ins) (h ∷ held) (s ∷ seen) same (inr stop) (inr halt) = apart told one input h stop.0 (subst (λ (b : List ℕ). EndsAt told input b other) same.0 halt.0)

module _ (ins : List Input) (held seen : List (List ℕ)) (same : AgreeSoFar held seen) where
  pub accepted_or_refused : (line : List ℕ) → Ends ins held all_accepted → Ends ins seen (last_refused line) → ⊥
  accepted_or_refused line = end_apart all_accepted (last_refused line) (λ told one i s e f. e) (λ e f. f) (λ i e. e) (λ i e. e) TellsNone no_model ins held seen same

  pub refused_or_accepted : (line : List ℕ) → Ends ins held (last_refused line) → Ends ins seen all_accepted → ⊥
  refused_or_accepted line = end_apart (last_refused line) all_accepted (λ told one i s e f. f) (λ e f. e) (λ i e. e) (λ i e. e) TellsNone no_model ins held seen same

  pub accepted_or_forbidden : (line : List ℕ) → Ends ins held all_accepted → Ends ins seen (last_forbidden line) → ⊥
  accepted_or_forbidden line = end_apart all_accepted (last_forbidden line) (λ told one i s e f. e) (λ e f. f) (λ i e. e) (λ i e. e) TellsNone no_model ins held seen same

  pub forbidden_or_accepted : (line : List ℕ) → Ends ins held (last_forbidden line) → Ends ins seen all_accepted → ⊥
  forbidden_or_accepted line = end_apart (last_forbidden line) all_accepted (λ told one i s e f. f) (λ e f. e) (λ i e. e) (λ i e. e) TellsNone no_model ins held seen same

  pub refused_or_forbidden : (line other : List ℕ) → Ends ins held (last_refused line) → Ends ins seen (last_forbidden other) → ⊥
  refused_or_forbidden line other = end_apart (last_refused line) (last_forbidden other) (λ told one i s e f. refused_not_forbidden told one i s line other e f) (λ e f. e) (λ i e. e) (λ i e. e) TellsNone no_model ins held seen same

  pub forbidden_or_refused : (line other : List ℕ) → Ends ins held (last_forbidden line) → Ends ins seen (last_refused other) → ⊥
  forbidden_or_refused line other = end_apart (last_forbidden line) (last_refused other) (λ told one i s e f. refused_not_forbidden told one i s other line f e) (λ e f. e) (λ i e. e) (λ i e. e) TellsNone no_model ins held seen same

-- a file that wasn't read is one of the files
unread_behind : (told : Parts → Type 0) (ins : List Input) (files : List (List ℕ)) (name : List ℕ) → EndsBehind told ins files (next_unread name) → Contains (map name_of ins) name
unread_behind told [] [] name e = elim e [ ]
unread_behind told [] (file ∷ files) name e = elim e [ ]
unread_behind told (input ∷ ins) [] name e = (0, omega arith, sym e)
unread_behind told (input ∷ ins) (file ∷ files) name (inl go) =
    let rest = unread_behind (TellsModel input file) ins files name go.1 in
    let below = rest.1 in
    (suc rest.0, omega (arith, below), rest.2)
unread_behind told (input ∷ ins) (file ∷ files) name (inr stop) = elim stop.0 [ ]

pub unread_named : (ins : List Input) (files : List (List ℕ)) (name : List ℕ) → Ends ins files (next_unread name) → Contains (map name_of ins) name
unread_named ins files name e = unread_behind TellsNone ins files name e
