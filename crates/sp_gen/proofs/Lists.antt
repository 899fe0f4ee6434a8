-- One more number of a row.
use Rattle.std.proofs.Common.{◌≡◌, ℕ, suc, ◌+◌, ◌-◌, ◌<◌, List, ◌++◌, arith, refl, append_assoc, ◌∙◌}
use Rattle.std.specs.Fmt.{decimal}
use Rattle.sp_gen.specs.Models.{each}

pub one_more : (before after : List ℕ) (i end : ℕ) → i < end → each before after i (end - i) ≡ (before ++ (decimal i ++ after)) ++ each before after (i + 1) (end - (i + 1))
one_more before after i end less =
    let rest : end - i ≡ suc (end - (i + 1)) = omega arith in
    let next : i + 1 ≡ suc i = omega arith in
    rw (rest, next) refl

-- three pieces one after another
pub three : (start one two end a b c : List ℕ) → one ≡ start ++ a → two ≡ one ++ b → end ≡ two ++ c → end ≡ start ++ (a ++ (b ++ c))
three start one two end a b c e f g = rw (g, f, e) (append_assoc (start ++ a) b c ∙ append_assoc start a (b ++ c))

-- five pieces one after another, from nothing
pub five : (one two three four end a b c d e : List ℕ) → one ≡ a → two ≡ one ++ b → three ≡ two ++ c → four ≡ three ++ d → end ≡ four ++ e → end ≡ a ++ (b ++ (c ++ (d ++ e)))
five one two three four end a b c d e p q r s t =
    rw (t, s, r, q, p) (append_assoc (((a ++ b) ++ c)) d e ∙ append_assoc (a ++ b) c (d ++ e) ∙ append_assoc a b (c ++ (d ++ e)))
