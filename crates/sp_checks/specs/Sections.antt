-- Sections.
use Rattle.std.specs.Prelude.{ℕ, is_some, int_le, ◌&&◌, ℤ, pos, unsigned_abs, List, [], ◌∷◌, ◌++◌, Some, None, Result, Ok, Err, if◌then◌else◌}
use Rattle.sp_lex.specs.declared.lexeme.Span.{Span}
use Rattle.sp_lex.specs.declared.decimal.NumError.{NumError}
use Rattle.sp_lex.specs.declared.decimal.NumError.TheVariants as fault
use Rattle.sp_lex.specs.Decimal.{ticks_of}
use Rattle.sp_syntax.specs.declared.text.Tree.{Tree}
use Rattle.sp_syntax.specs.declared.text.Section.{Section}
use Rattle.sp_syntax.specs.declared.text.Section.TheVariants as section_of
use Rattle.sp_trees.specs.declared.refusal.Refusal.{Refusal}
use Rattle.sp_trees.specs.declared.refusal.ModelKind.TheVariants as kind
use Rattle.sp_trees.specs.declared.refusal.ModelKind.{ModelKind}
use Rattle.sp_trees.specs.declared.env.Dd.{Dd}
use Rattle.sp_trees.specs.Refusals.{refused_if}
use Rattle.sp_trees.specs.Words.{text}
use Rattle.sp_trees.specs.Dds.{dd_of_name}
use Rattle.sp_declarations.specs.declared.declarations.Declared.{Declared}
use Rattle.sp_declarations.specs.Steps.{◌>>=◌, unless_refused}
use Rattle.sp_checks.specs.declared.roles.Role.TheVariants as role
use Rattle.sp_checks.specs.declared.state.State.{State}
use Rattle.sp_checks.specs.Accepted.{accepted}
use Rattle.sp_checks.specs.Initial.{init}
use Rattle.sp_checks.specs.Actions.{action}
use Rattle.sp_trees.specs.Good.{shape_for}

-- why a word is no decimal
abbrev pub number_kind : NumError → ModelKind
number_kind fault.Shape = kind.BadNumber
number_kind fault.TooFine = kind.TooFine
number_kind fault.TooLarge = kind.TooLarge

-- no dd of that name was declared before
abbrev pub checked_dd : List ℕ → List (List ℕ × Dd) → Span → Result (Unit {0}) Refusal
checked_dd source dds word = unless_refused (refused_if (is_some (dd_of_name (text source word) dds)) word.start kind.RepeatedName)

-- a dd
unfoldable pub dd : List ℕ → State → Span → Tree → Result State Refusal
dd source s word t =
    checked_dd source s.env.dds word >>= λ _.
    (accepted s.env source role.Dd t >>= λ a. Ok (record s { env = record s.env { dds = s.env.dds ++ (text source word, record { mentions = a.mentions; func = a.func }) ∷ [] } }))

-- no reward was read before
abbrev pub checked_reward : State → ℕ → Result (Unit {0}) Refusal
checked_reward s at = unless_refused (refused_if (is_some s.reward) at kind.RepeatedName)

-- the reward
unfoldable pub reward : List ℕ → State → Span → Tree → Result State Refusal
reward source s keyword t =
    checked_reward s keyword.start >>= λ _. (accepted s.env source role.Reward t >>= λ a. Ok (record s { reward = Some a.func }))

-- a discount between 0 and 0.999
abbrev pub within_range : ℕ → ℤ → Result ℕ Refusal
within_range at v = if int_le (pos 0) v && int_le v (pos 999000000) then Ok (unsigned_abs v) else Err (record { at = at; kind = kind.DiscountRange })

abbrev pub discount_by : ℕ → Result ℤ NumError → Result ℕ Refusal
discount_by at (Err e) = Err (record { at = at; kind = number_kind e })
discount_by at (Ok v) = within_range at v

-- the ticks of a discount's word
unfoldable pub discount_of : List ℕ → Span → Result ℕ Refusal
discount_of source word = discount_by word.start (ticks_of (text source word))

-- no discount was read before
abbrev pub checked_discount : State → ℕ → Result (Unit {0}) Refusal
checked_discount s at = unless_refused (refused_if (is_some s.discount) at kind.RepeatedName)

-- the discount
unfoldable pub discount : List ℕ → State → Span → Span → Result State Refusal
discount source s keyword word =
    checked_discount s keyword.start >>= λ _. (discount_of source word >>= λ g. Ok (record s { discount = Some g }))

-- one more section
abbrev pub section : List ℕ → State → Section → Result State Refusal
section source s (section_of.Init keyword t) = init source s keyword t
section source s (section_of.Dd keyword name t end) = dd source s name t
section source s (section_of.Action keyword name items end) = action source s name items end
section source s (section_of.Reward keyword t) = reward source s keyword t
section source s (section_of.Discount keyword word) = discount source s keyword word
section source s (section_of.Horizon keyword word) = Ok s
section source s (section_of.Tolerance keyword word) = Ok s

-- nothing but declarations
abbrev pub begun : Declared → State
begun d = record {
  env = record { scope = shape_for d.variables d.sights; variables = d.variables; sights = d.sights; dds = [] };
  names = [];
  actions = [];
  init = None;
  reward = None;
  discount = None;
}
