-- Numbers and references.
use Rattle.std.specs.Prelude.{ℕ, ℤ, List, Option, Some, None, Result, Ok, Err, if◌then◌else◌}
use Rattle.sp_lex.specs.declared.lexeme.Span.{Span}
use Rattle.sp_lex.specs.declared.decimal.NumError.{NumError}
use Rattle.sp_lex.specs.declared.decimal.NumError.TheVariants as fault
use Rattle.sp_lex.specs.Decimal.{ticks_of}
use Rattle.sp_dd.specs.Func.{Shape, Func}
use Rattle.sp_dd.specs.Operations.{everywhere}
use Rattle.sp_trees.specs.declared.refusal.ModelKind.{ModelKind}
use Rattle.sp_trees.specs.declared.refusal.ModelKind.TheVariants as kind
use Rattle.sp_trees.specs.declared.refusal.Refusal.{Refusal}
use Rattle.sp_trees.specs.declared.slots.Slots.{Slots}
use Rattle.sp_trees.specs.declared.env.Dd.{Dd}
use Rattle.sp_trees.specs.declared.judged.Judged.{Judged}
use Rattle.sp_trees.specs.Slots.{none, is_among}
use Rattle.sp_trees.specs.Words.{text}
use Rattle.sp_trees.specs.Dds.{dd_of_name}

-- why a word that should be a number is refused
abbrev pub number_kind : NumError → ModelKind
number_kind fault.Shape = kind.BadNumber
number_kind fault.TooFine = kind.TooFine
number_kind fault.TooLarge = kind.TooLarge

abbrev pub number_by : Shape → ℕ → Result ℤ NumError → Result Func Refusal
number_by s at (Ok v) = Ok (everywhere s v)
number_by s at (Err e) = Err (record { at = at; kind = number_kind e })

-- a number: the same value everywhere
abbrev pub number : Shape → List ℕ → Span → Judged
number s source word = record { mentions = none; outcome = number_by s word.start (ticks_of (text source word)) }

abbrev pub reference_by : Slots → ℕ → Option Dd → Judged
reference_by allowed at None = record { mentions = none; outcome = Err (record { at = at; kind = kind.UnknownName }) }
reference_by allowed at (Some dd) = record {
  mentions = dd.mentions;
  outcome = if is_among dd.mentions allowed then Ok dd.func else Err (record { at = at; kind = kind.BadScope });
}

-- the function of a dd, where all that it mentions is allowed
abbrev pub reference : List (List ℕ × Dd) → Slots → List ℕ → Span → Judged
reference dds allowed source word = reference_by allowed word.start (dd_of_name (text source word) dds)
