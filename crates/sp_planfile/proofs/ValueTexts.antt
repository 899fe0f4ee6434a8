-- Values are told by their decimals.
use Rattle.std.proofs.Common.{◌≡◌, ◌≢◌, ℕ, zero, suc, ◌+◌, ◌-◌, ◌*◌, ◌/◌, ◌%◌, ◌^◌, ◌<◌, ◌≤◌, ℤ, pos, negsuc, List, [], ◌∷◌, ◌++◌, length, get_or, replicate, refl, ap, sym, ◌∙◌, append_assoc, arith, codes, unsigned_abs, subst}
use Rattle.std.proofs.lemmas.Bool.Decides.{nat_tests}
use Rattle.std.specs.Prelude.{int_lt, cond}
use Rattle.std.specs.List.{AllByRecursion}
use Rattle.std.specs.Fmt.{decimal}
use Rattle.std.specs.Str.Parse.{AllDigits, digits_value}
use Rattle.std.proofs.lemmas.Fmt.{decimal_is_IsNumeral, decimal_nonempty}
use Rattle.std.proofs.lemmas.Str.Parse.{digit_at}
use Rattle.sp_show.specs.Decimals.{decimal_of, nine_digits, sign_text}
use Rattle.sp_lines.specs.Lines.{lines_of, Lacks, IsSmall, BeginsNoDigit}
use Rattle.sp_lines.proofs.Digits.{number_told, decimal_lacks, decimal_digits}
use Rattle.sp_planfile.specs.PlanText.{value_line}
use Rattle.sp_planfile.specs.Form.{IsTickValue}
use Rattle.sp_planfile.proofs.Sections.{behind_same, lacks-append}

zeros_lack : (k : ℕ) → Lacks 10 (replicate k 48)
zeros_lack zero = tt
zeros_lack (suc k) = ((λ e. omega (arith, e)), zeros_lack k)

zeros_add_nothing : (k : ℕ) (ds : List ℕ) → digits_value 10 (replicate k 48 ++ ds) ≡ digits_value 10 ds
zeros_add_nothing zero ds = refl
zeros_add_nothing (suc k) ds = zeros_add_nothing k ds

nine_digits_tell : (m n : ℕ) → IsSmall m → IsSmall n → nine_digits m ≡ nine_digits n → m ≡ n
nine_digits_tell m n a b e =
    let one = zeros_add_nothing (9 - length (decimal m)) (decimal m) ∙ (decimal_is_IsNumeral m a).1 in
    let two = zeros_add_nothing (9 - length (decimal n)) (decimal n) ∙ (decimal_is_IsNumeral n b).1 in
    sym one ∙ ap (digits_value 10) e ∙ two

-- what stands behind the sign
unsigned_text : ℕ → List ℕ
unfolding decimal_of
unsigned_text n = decimal (n / 1000000000) ++ (46 ∷ nine_digits (n % 1000000000))

unsigned_tell : (m n : ℕ) → m ≤ 10 ^ 18 → n ≤ 10 ^ 18 → unsigned_text m ≡ unsigned_text n → m ≡ n
unfolding unsigned_text
unsigned_tell m n a b e =
    let told = number_told (m / 1000000000) (n / 1000000000) (46 ∷ nine_digits (m % 1000000000)) (46 ∷ nine_digits (n % 1000000000)) (omega arith) (omega arith) (λ range. omega (arith, range)) (λ range. omega (arith, range)) e in
    let nine : nine_digits (m % 1000000000) ≡ nine_digits (n % 1000000000) = behind_same (46 ∷ []) (nine_digits (m % 1000000000)) (nine_digits (n % 1000000000)) told.1 in
    let parts = nine_digits_tell (m % 1000000000) (n % 1000000000) (omega arith) (omega arith) nine in
    let whole = told.0 in
    omega (arith, whole, parts)

-- a digit stands first
first_is_digit : (n : ℕ) → n ≤ 10 ^ 18 → 48 ≤ get_or (unsigned_text n) 0 0
unfolding unsigned_text
first_is_digit n a = begins (decimal (n / 1000000000)) (decimal_digits (n / 1000000000) (omega arith)) (decimal_nonempty (n / 1000000000) (omega arith))
  where
    begins : (ds : List ℕ) → AllDigits 10 ds → 0 < length ds → 48 ≤ get_or (ds ++ (46 ∷ nine_digits (n % 1000000000))) 0 0
    begins [] all some = absurd (omega (arith, some))
    begins (d ∷ ds) all some = (digit_at (d ∷ ds) 0 all some).0

-- before a number that isn't negative there is no sign
plus_sign : (n : ℕ) → sign_text (pos n) ≡ []
plus_sign n = grind (arith, nat_tests)

unsigned_is : (n : ℕ) → decimal_of (pos n) ≡ unsigned_text n
unfolding decimal_of unsigned_text
unsigned_is n = ap (λ l. l ++ unsigned_text n) (plus_sign n)

signed_is : (n : ℕ) → decimal_of (negsuc n) ≡ 45 ∷ unsigned_text (suc n)
unfolding decimal_of unsigned_text
signed_is n = refl

decimal_tells : (y z : ℤ) → IsTickValue y → IsTickValue z → decimal_of y ≡ decimal_of z → y ≡ z
decimal_tells (pos m) (pos n) a b e = ap pos (unsigned_tell m n a b (sym (unsigned_is m) ∙ e ∙ unsigned_is n))
decimal_tells (pos m) (negsuc n) a b e = absurd (omega (arith, first_is_digit m a, ap (λ l. get_or l 0 0) (sym (unsigned_is m) ∙ e ∙ signed_is n)))
decimal_tells (negsuc m) (pos n) a b e = absurd (omega (arith, first_is_digit n b, ap (λ l. get_or l 0 0) (sym (unsigned_is n) ∙ sym e ∙ signed_is m)))
decimal_tells (negsuc m) (negsuc n) a b e =
    let same = unsigned_tell (suc m) (suc n) a b (behind_same (45 ∷ []) (unsigned_text (suc m)) (unsigned_text (suc n)) (sym (signed_is m) ∙ e ∙ signed_is n)) in
    ap negsuc (omega (arith, same))

unsigned_lacks : (n : ℕ) → n ≤ 10 ^ 18 → Lacks 10 (unsigned_text n)
unfolding unsigned_text
unsigned_lacks n a = lacks-append 10 (decimal (n / 1000000000)) (46 ∷ nine_digits (n % 1000000000)) (decimal_lacks 10 (n / 1000000000) (omega arith) (omega arith))
    ((λ e. omega (arith, e)), lacks-append 10 (replicate (9 - length (decimal (n % 1000000000))) 48) (decimal (n % 1000000000)) (zeros_lack (9 - length (decimal (n % 1000000000)))) (decimal_lacks 10 (n % 1000000000) (omega arith) (omega arith)))

decimal_lack : (z : ℤ) → IsTickValue z → Lacks 10 (decimal_of z)
decimal_lack (pos n) a = subst (Lacks 10) (sym (unsigned_is n)) (unsigned_lacks n a)
decimal_lack (negsuc n) a = subst (Lacks 10) (sym (signed_is n)) ((λ e. omega (arith, e)), unsigned_lacks (suc n) a)

pub value_lacks : (z : ℤ) → IsTickValue z → Lacks 10 (value_line z)
value_lacks z a = lacks-append 10 (codes "value ") (decimal_of z) ((λ e. omega (arith, e)), ((λ e. omega (arith, e)), ((λ e. omega (arith, e)), ((λ e. omega (arith, e)), ((λ e. omega (arith, e)), ((λ e. omega (arith, e)), tt)))))) (decimal_lack z a)

pub value_tells : (y z : ℤ) → IsTickValue y → IsTickValue z → value_line y ≡ value_line z → y ≡ z
value_tells y z a b e = decimal_tells y z a b (behind_same (codes "value ") (decimal_of y) (decimal_of z) e)
