-- Pieces of a text, one after another.
use Rattle.std.proofs.Common.{◌≡◌, ℕ, List, [], ◌++◌, ◌∙◌, append_assoc, ap}

pub four : (zero one two three end a b c d : List ℕ) → zero ≡ [] → one ≡ zero ++ a → two ≡ one ++ b → three ≡ two ++ c → end ≡ three ++ d → end ≡ a ++ (b ++ (c ++ d))
four zero one two three end a b c d o e f g h = rw (h, g, f, e, o) (append_assoc (a ++ b) c d ∙ append_assoc a b (c ++ d))

pub behind : (front new a b c d rest : List ℕ) → front ≡ a ++ (b ++ (c ++ d)) → new ≡ front ++ rest → new ≡ a ++ (b ++ (c ++ (d ++ rest)))
behind front new a b c d rest e f = rw (f, e) (append_assoc a (b ++ (c ++ d)) rest ∙ ap (λ l. a ++ l) (append_assoc b (c ++ d) rest ∙ ap (λ l. b ++ l) (append_assoc c d rest)))
