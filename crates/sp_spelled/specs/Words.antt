-- Words for numbers of ticks.
use Rattle.std.specs.Prelude.{◌≡◌, ℕ, ℤ, List, ◌++◌, IsTrue, Ok, codes}
use Rattle.std.specs.Fmt.{decimal}
use Rattle.sp_lex.specs.Decimal.{ticks_of}
use Rattle.sp_syntax.specs.declared.class.TokenClass.TheVariants as class
use Rattle.sp_syntax.specs.Classes.{word_class}
use Rattle.sp_syntax.specs.Grammar.{is_number}
use Rattle.sp_spelled.specs.Signs.{IsWordText}

-- a word for a number of ticks
pub record SpellsTicks (w : List ℕ) (z : ℤ) : Type 0 where
  pub text : IsWordText w
  pub number : IsTrue (is_number (class.Word (word_class w)))
  pub ticks : ticks_of w ≡ Ok z

-- the name of the dd of a number
abbrev pub dd_name : ℕ → List ℕ
dd_name k = codes "n" ++ decimal k
