-- Texts of lines, each with its end.
use Rattle.std.proofs.Common.{◌≡◌, ◌≢◌, ℕ, zero, suc, ◌+◌, ◌-◌, ◌/◌, ◌%◌, List, [], ◌∷◌, ◌++◌, length, get_or, Bool, true, false, refl, ap, sym, ◌∙◌, append_assoc, arith, codes, subst, replicate}
use Rattle.std.specs.Prelude.{ℤ, pos, cond, unsigned_abs, int_lt, if◌then◌else◌, nat_lt, ◌==◌}
use Rattle.std.specs.List.{AllByRecursion}
use Rattle.std.specs.Fmt.{decimal, digits, digits_onto, digit_glyph}
use Rattle.sp_lines.specs.Lines.{lines_of, Lacks}
use Rattle.sp_show.specs.Decimals.{decimal_of, nine_digits, sign_text}
use Rattle.sp_spelled.specs.Signs.{Gap, tight, space, line, gap_bytes}
use Rattle.sp_planfile.specs.Form.{IsModelLine, AreModelLines}
use Rattle.sp_planfile.proofs.Sections.{lacks-append}

-- ---- numbers
glyph_other : (b : Bool) (d : ℕ) → (if b then 48 + d else (if false then 55 + d else 87 + d)) ≢ 10
glyph_other true d = λ e. omega (arith, e)
glyph_other false d = λ e. omega (arith, e)

either_lacks : (b : Bool) (xs ys : List ℕ) → Lacks 10 xs → Lacks 10 ys → Lacks 10 (if b then xs else ys)
either_lacks true xs ys a b = a
either_lacks false xs ys a b = b

onto_lacks : (k n : ℕ) (acc : List ℕ) → Lacks 10 acc → Lacks 10 (digits_onto k 10 false n acc)
onto_lacks zero n acc a = a
onto_lacks (suc k) n acc a =
    let more : Lacks 10 (digit_glyph false (n % 10) ∷ acc) = (glyph_other (nat_lt (n % 10) 10) (n % 10), a) in
    either_lacks (n / 10 == 0) (digit_glyph false (n % 10) ∷ acc) (digits_onto k 10 false (n / 10) (digit_glyph false (n % 10) ∷ acc)) more (onto_lacks k (n / 10) (digit_glyph false (n % 10) ∷ acc) more)

pub number_lacks : (n : ℕ) → Lacks 10 (decimal n)
unfolding digits
number_lacks n = onto_lacks 64 n [] tt

zeros_lack : (n : ℕ) → Lacks 10 (replicate n 48)
zeros_lack zero = tt
zeros_lack (suc n) = ((λ e. omega (arith, e)), zeros_lack n)

sign_lacks : (b : Bool) → Lacks 10 (cond b (codes "-") [])
sign_lacks true = ((λ e. omega (arith, e)), tt)
sign_lacks false = tt

pub ticks_lack : (z : ℤ) → Lacks 10 (decimal_of z)
unfolding decimal_of
ticks_lack z =
    lacks-append 10 (sign_text z) (decimal (unsigned_abs z / 1000000000) ++ (codes "." ++ nine_digits (unsigned_abs z % 1000000000))) (sign_lacks (int_lt z (pos 0)))
    (lacks-append 10 (decimal (unsigned_abs z / 1000000000)) (codes "." ++ nine_digits (unsigned_abs z % 1000000000)) (number_lacks (unsigned_abs z / 1000000000))
    ((λ e. omega (arith, e)), lacks-append 10 (replicate (9 - length (decimal (unsigned_abs z % 1000000000))) 48) (decimal (unsigned_abs z % 1000000000)) (zeros_lack (9 - length (decimal (unsigned_abs z % 1000000000)))) (number_lacks (unsigned_abs z % 1000000000))))

-- ---- lines
-- a line with its end
pub record IsLine (bytes : List ℕ) : Type 0 where
  pub front : List ℕ
  pub is : bytes ≡ front ++ (10 ∷ [])
  pub whole : Lacks 10 front

-- where a line's end stands behind, a line with its end; else what has none
abbrev pub Ends : Gap → List ℕ → Type 0
Ends tight bytes = Lacks 10 bytes
Ends space bytes = Lacks 10 bytes
Ends line bytes = IsLine bytes

pub ends_behind : (g : Gap) (front bytes : List ℕ) → Lacks 10 front → Ends g bytes → Ends g (front ++ bytes)
ends_behind tight front bytes a b = lacks-append 10 front bytes a b
ends_behind space front bytes a b = lacks-append 10 front bytes a b
ends_behind line front bytes a b = record { front = front ++ b.front; is = ap (λ l. front ++ l) b.is ∙ sym (append_assoc front b.front (10 ∷ [])); whole = lacks-append 10 front b.front a b.whole }

pub ends_alone : (g : Gap) (bytes : List ℕ) → Lacks 10 bytes → Ends g (bytes ++ (gap_bytes g ++ []))
ends_alone tight bytes a = lacks-append 10 bytes [] a tt
ends_alone space bytes a = lacks-append 10 bytes (32 ∷ []) a ((λ e. omega (arith, e)), tt)
ends_alone line bytes a = record { front = bytes; is = refl; whole = a }

-- a line by itself
pub one_line : (bytes : List ℕ) → IsLine bytes → bytes ≢ codes "endmodel\n" → AreModelLines bytes
one_line bytes is other = (is.front ∷ [], is.is, (record { whole = is.whole; other = λ e. other (is.is ∙ ap (λ l. l ++ (10 ∷ [])) e) }, tt))

lines_both : (xs ys : List (List ℕ)) → lines_of (λ line. line) (xs ++ ys) ≡ lines_of (λ line. line) xs ++ lines_of (λ line. line) ys
lines_both [] ys = refl
lines_both (x ∷ xs) ys = ap (λ l. x ++ (10 ∷ l)) (lines_both xs ys) ∙ sym (append_assoc x (10 ∷ lines_of (λ line. line) xs) (lines_of (λ line. line) ys))

all_both : (xs ys : List (List ℕ)) → AllByRecursion IsModelLine xs → AllByRecursion IsModelLine ys → AllByRecursion IsModelLine (xs ++ ys)
all_both [] ys a b = b
all_both (x ∷ xs) ys a b = (a.0, all_both xs ys a.1 b)

pub lines_then : (front back : List ℕ) → AreModelLines front → AreModelLines back → AreModelLines (front ++ back)
lines_then front back (xs, a, good) (ys, b, more) = (xs ++ ys, (λ h. a h ++ b h) ∙ sym (lines_both xs ys), all_both xs ys good more)

pub no_lines : AreModelLines []
no_lines = ([], refl, tt)

-- what has a space isn't the last line
space_none : (xs ys : List ℕ) → Lacks 32 (xs ++ (32 ∷ ys)) → ⊥
space_none [] ys all = all.0 refl
space_none (x ∷ xs) ys all = space_none xs ys all.1

last_lacks : Lacks 32 (codes "endmodel\n")
last_lacks = ((λ e. omega (arith, e)), ((λ e. omega (arith, e)), ((λ e. omega (arith, e)), ((λ e. omega (arith, e)), ((λ e. omega (arith, e)), ((λ e. omega (arith, e)), ((λ e. omega (arith, e)), ((λ e. omega (arith, e)), ((λ e. omega (arith, e)), tt)))))))))

pub spaced_other : (xs ys : List ℕ) → xs ++ (32 ∷ ys) ≢ codes "endmodel\n"
spaced_other xs ys e = space_none xs ys (subst (Lacks 32) (sym e) last_lacks)

pub other_first : (bytes : List ℕ) → get_or bytes 0 0 ≢ 101 → bytes ≢ codes "endmodel\n"
other_first bytes differs e = differs (ap (λ l. get_or l 0 0) e)
