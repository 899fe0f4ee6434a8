-- The laws of transcripts, as the functions of this crate state them.
use Rattle.std.specs.Prelude.{◌≡◌, ◌≢◌, ℕ, suc, ◌≤◌, List, [], ◌∷◌, length, map, slice_get, Some, All, AllPairs}
use Rattle.sp_theory.specs.Points.{count_of}
use Rattle.sp_theory.specs.Model.{Model}
use Rattle.sp_theory.specs.Values.{Edition}
use Rattle.sp_theory.specs.Agreement.{EditionsAgree}
use Rattle.sp_theory.specs.Logs.{IsLegalTranscript}
use Rattle.sp_script.specs.declared.command.Command.{Command}
use Rattle.sp_script.specs.Commands.{AreCommands}
use Rattle.sp_script.specs.Laws.{IsObservationWithin}
use Rattle.sp_script.specs.Served.{AreServed}
use Rattle.sp_serving.specs.Replies.{Shown, transcript_of}

-- ---- editions of a run
-- an edition of a run, of that number or a later one
pub record IsShown (m : Model) (editions : List Edition) (n : ℕ) (shown : Shown) : Type 0 where
  pub later : n ≤ shown.0
  pub there : (other : Edition) × (slice_get editions shown.0 ≡ Some other) × EditionsAgree m shown.1 other

-- editions of a run, none older than the one before it, and then the run's last one
abbrev pub AreShown : Model → List Edition → ℕ → List Shown → Shown → Type 0
AreShown m editions n [] last = IsShown m editions n last × (suc last.0 ≡ length editions)
AreShown m editions n (first ∷ shown) last = IsShown m editions n first × AreShown m editions first.0 shown last

-- the same numbers, and editions that agree
abbrev pub ShownAgree : Model → List Shown → List Shown → Type 0
ShownAgree m [] [] = Unit {0}
ShownAgree m (x ∷ xs) (y ∷ ys) = (x.0 ≡ y.0) × EditionsAgree m x.1 y.1 × ShownAgree m xs ys
ShownAgree m [] (y ∷ ys) = ⊥
ShownAgree m (x ∷ xs) [] = ⊥

-- ---- laws
-- a script that is served on editions of a run has legal logs
abbrev pub TranscriptsAreLegal : Type 0
TranscriptsAreLegal = (m : Model) (editions : List Edition) (shown : List Shown) (last : Shown) (cs : List Command) → AreCommands cs → All (IsObservationWithin (count_of m.sight_sizes)) cs
    → AreShown m editions 0 shown last → IsLegalTranscript m editions (transcript_of m shown last cs)

-- its logs are those of the script's sessions, and reply to each session's commands
abbrev pub TranscriptsServe : Type 0
TranscriptsServe = (m : Model) (shown : List Shown) (last : Shown) (cs : List Command) → AreCommands cs → AreServed cs (transcript_of m shown last cs)

-- no two of them have one name
abbrev pub NamesAreDifferent : Type 0
NamesAreDifferent = (m : Model) (shown : List Shown) (last : Shown) (cs : List Command) → AreCommands cs → AllPairs (λ x y. x ≢ y) (map (λ log. log.name) (transcript_of m shown last cs))

-- editions that agree at all states lead to the same logs
abbrev pub TranscriptsAgree : Type 0
TranscriptsAgree = (m : Model) (shown others : List Shown) (last other : Shown) → ShownAgree m shown others → last.0 ≡ other.0 → EditionsAgree m last.1 other.1 → (cs : List Command)
    → transcript_of m shown last cs ≡ transcript_of m others other cs
