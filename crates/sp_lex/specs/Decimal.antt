-- The ticks of a decimal word.
use Rattle.std.specs.Prelude.{◌≡◌, ℕ, zero, suc, ◌+◌, ◌<◌, ◌++◌, ◌⊎◌, ◌-◌, ◌*◌, ◌==◌, ◌&&◌, ◌||◌, nat_lt, Bool, true, false, List, [], ◌∷◌, length, take, drop, take_while, ℤ, pos, Option, Some, None, Result, Ok, Err, slice_get, unwrap_or, if◌then◌else◌}
use Rattle.std.proofs.Math.IntN.{neg_ℤ}
use Rattle.std.specs.List.{list_all}
use Rattle.std.specs.Char.{is_ascii_digit}
use Rattle.sp_lex.specs.declared.decimal.Parts.{Parts}
use Rattle.sp_lex.specs.declared.decimal.NumError.{NumError}
use Rattle.sp_lex.specs.declared.decimal.NumError.TheVariants.{Shape, TooFine, TooLarge}

-- how many ticks are 1
abbrev pub ticks_per_one : ℕ
ticks_per_one = 1000000000

-- the greatest magnitude in ticks
abbrev pub most_ticks : ℕ
most_ticks = 1000000000000000000

-- the number that digits stand for, where those before them stand for v
abbrev pub number_from : ℕ → List ℕ → ℕ
number_from v [] = v
number_from v (d ∷ digits) = number_from (v * 10 + (d - 48)) digits

-- the digit at a place, and zero behind the last
abbrev pub digit_at : List ℕ → ℕ → ℕ
digit_at digits k = unwrap_or (slice_get digits k) 48 - 48

-- the number that the first n digits stand for, with zeros behind the last
unfoldable pub number_of_first : ℕ → List ℕ → ℕ
number_of_first zero digits = 0
number_of_first (suc n) digits = number_of_first n digits * 10 + digit_at digits n

-- a decimal: whether it is negative, its whole digits, and its digits behind the point
pub record Decimal : Type 0 where
  pub negative : Bool
  pub whole : List ℕ
  pub places : List ℕ

-- the decimal that the parts of a word are
abbrev pub decimal_of_parts : Parts → Decimal
decimal_of_parts parts = record { negative = parts.negative; whole = parts.whole.now; places = parts.places.now }

-- whole digits, and behind them nothing, or a point and digits; there is a digit on one side
abbrev pub with_tail : Bool → List ℕ → List ℕ → Option Decimal
with_tail negative whole [] =
    if nat_lt 0 (length whole) then Some (record { negative = negative; whole = whole; places = [] }) else None
with_tail negative whole (b ∷ places) =
    if b == 46 && list_all is_ascii_digit places && (nat_lt 0 (length whole) || nat_lt 0 (length places))
    then Some (record { negative = negative; whole = whole; places = places })
    else None

-- the decimal that bytes without a sign are, if they have that shape
abbrev pub unsigned_decimal_of : Bool → List ℕ → Option Decimal
unsigned_decimal_of negative bytes =
    let count = length (take_while is_ascii_digit bytes) in with_tail negative (take count bytes) (drop count bytes)

-- the decimal that a word is, if it has that shape
unfoldable pub decimal_of : List ℕ → Option Decimal
decimal_of [] = None
decimal_of (b ∷ bytes) = if b == 45 then unsigned_decimal_of true bytes else unsigned_decimal_of false (b ∷ bytes)

-- the text of a sign
abbrev pub sign_of : Bool → List ℕ
sign_of true = 45 ∷ []
sign_of false = []

-- a word spells a decimal: a '-' where it is negative, its whole digits, and then a point and its places, or nothing where it has none; there is a digit on one side
pub record Spells (word : List ℕ) (decimal : Decimal) : Type 0 where
  pub whole : list_all is_ascii_digit decimal.whole ≡ true
  pub places : list_all is_ascii_digit decimal.places ≡ true
  pub some : 0 < length decimal.whole + length decimal.places
  pub text : (word ≡ sign_of decimal.negative ++ (decimal.whole ++ 46 ∷ decimal.places)) ⊎ ((word ≡ sign_of decimal.negative ++ decimal.whole) × (decimal.places ≡ []))

-- a magnitude with its sign
abbrev pub signed_number : Bool → ℕ → ℤ
signed_number true magnitude = neg_ℤ (pos magnitude)
signed_number false magnitude = pos magnitude

-- how many ticks a decimal has, without its sign and its digits behind the ninth place
abbrev pub magnitude_of : Decimal → ℕ
magnitude_of d = number_from 0 d.whole * ticks_per_one + number_of_first 9 d.places

-- the digits behind the ninth place are zeros
abbrev pub is_whole_ticks : List ℕ → Bool
is_whole_ticks places = list_all (λ d. d == 48) (drop 9 places)

-- a magnitude with its sign, if it is not too large
abbrev pub number_within_limit : Bool → ℕ → Result ℤ NumError
number_within_limit negative magnitude = if nat_lt most_ticks magnitude then Err TooLarge else Ok (signed_number negative magnitude)

-- the ticks of a decimal, or why it has none
abbrev pub ticks_of_decimal : Option Decimal → Result ℤ NumError
ticks_of_decimal None = Err Shape
ticks_of_decimal (Some d) = if is_whole_ticks d.places then number_within_limit d.negative (magnitude_of d) else Err TooFine

-- the ticks of a word, or why it has none
unfoldable pub ticks_of : List ℕ → Result ℤ NumError
ticks_of word = ticks_of_decimal (decimal_of word)
