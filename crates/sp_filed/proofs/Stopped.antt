-- Why a section stops.
use Rattle.std.proofs.Common.{◌≡◌, ◌≢◌, ℕ, ◌<◌, List, [], ◌∷◌, ◌++◌, length, Bool, true, false, refl, sym, Result, Err, nat_lt, ◌&&◌, subst, Option, Some, None}
use Rattle.std.specs.Prelude.{IsTrue, MatchOption}
use Rattle.std.specs.List.{AllByRecursion}
use Rattle.std.proofs.lemmas.Bool.{false≢true}
use Rattle.sp_theory.specs.Book.{Event}
use Rattle.sp_lines.specs.Lines.{numbers_behind_spaces, lines_of, Lacks, IsSmall, BeginsLine, EndsEarly}
use Rattle.sp_lines.proofs.Lists.{no_line, other_line}
use Rattle.sp_planfile.specs.RunText.{event_line}
use Rattle.sp_planfile.specs.PlanText.{count_line}
use Rattle.sp_planfile.proofs.Unique.{spaced_lacks, line_lacks}
use Rattle.sp_planfile.proofs.Sections.{lacks-append}
use Rattle.sp_filed.specs.declared.sizes.Sizes.{Sizes}
use Rattle.sp_filed.specs.declared.stops.Stop.{Stop}
use Rattle.sp_filed.specs.declared.stops.Stop.TheVariants.{Shape}
use Rattle.sp_filed.specs.Sizes.{IsEventOf, is_plain}
use Rattle.sp_filed.specs.Stops.{HasNoCount}

pub left_is : {T : Type 0} (m n : ℕ) → ◌≡◌ {A = Result T Stop} (Err (Shape m)) (Err (Shape n)) → n ≡ m
left_is m n e = let same : m ≡ n = cc e in sym same

both : (p q : Bool) → IsTrue (p && q) → IsTrue p × IsTrue q
both true q h = (refl, h)
both false q h = absurd (false≢true h)

plain_lacks : (word : List ℕ) → IsTrue (is_plain word) → Lacks 10 word
plain_lacks [] plain = tt
plain_lacks (b ∷ word) plain =
    let parts = both (nat_lt 10 b) (is_plain word) plain in
    ((λ e. false≢true (subst (λ b. IsTrue (nat_lt 10 b)) e parts.0)), plain_lacks word parts.1)

count_lacks : (word : List ℕ) → IsTrue (is_plain word) → (n : ℕ) → IsSmall n → Lacks 10 (count_line word n)
count_lacks word plain n small = lacks-append 10 word (numbers_behind_spaces (n ∷ [])) (plain_lacks word plain) (spaced_lacks (n ∷ []) (small, tt))

pub no_count : (word text : List ℕ) (left : ℕ) → Lacks 10 text → left ≡ length text → HasNoCount word text left
no_count word text left lacks bytes = (no_line (count_line word) IsSmall text lacks, bytes)

pub other_count : (word text line rest : List ℕ) (left : ℕ) → IsTrue (is_plain word) → BeginsLine text line rest → ((n : ℕ) → IsSmall n → line ≢ count_line word n) → left ≡ length text → HasNoCount word text left
other_count word text line rest left plain begins other bytes = (other_line (count_line word) IsSmall (count_lacks word plain) text line rest begins other, bytes)

pub event_lacks : (s : Sizes) (x : Event) → IsEventOf s x → Lacks 10 (event_line x)
event_lacks s x good = line_lacks x good.1

-- a list of lines ends where no line ends
pub ends_there : {X : Type 0} (line : X → List ℕ) (Good : X → Type 0) (read : List X) (count : ℕ) (text rest : List ℕ) (left : ℕ)
    → text ≡ lines_of line read ++ rest → AllByRecursion Good read → length read < count → Lacks 10 rest → left ≡ length rest → EndsEarly line Good count text left
ends_there line Good read count text rest left is good fewer lacks bytes = record { read = read; rest = rest; is = is; good = good; fewer = fewer; none = no_line line Good rest lacks; bytes = bytes }

-- or where another line stands
pub ends_before : {X : Type 0} (line : X → List ℕ) (Good : X → Type 0) (lacks : (x : X) → Good x → Lacks 10 (line x)) (read : List X) (count : ℕ) (text rest bytes more : List ℕ) (left : ℕ)
    → text ≡ lines_of line read ++ rest → AllByRecursion Good read → length read < count → BeginsLine rest bytes more → ((x : X) → Good x → bytes ≢ line x) → left ≡ length rest → EndsEarly line Good count text left
ends_before line Good lacks read count text rest bytes more left is good fewer begins other size =
    record { read = read; rest = rest; is = is; good = good; fewer = fewer; none = other_line line Good lacks rest bytes more begins other; bytes = size }

-- what is known of nothing, and of something
pub match_none : {X : Type 0} (P : Type 0) (Q : X → Type 0) (o : Option X) → o ≡ None → MatchOption o P Q → P
match_none {X} P Q None e h = h
match_none {X} P Q (Some x) e h = cc

pub match_some : {X : Type 0} (P : Type 0) (Q : X → Type 0) (o : Option X) (x : X) → o ≡ Some x → MatchOption o P Q → Q x
match_some P Q None x e h = cc
match_some P Q (Some y) x e h = let same : y ≡ x = cc e in subst Q same h
