-- The tokens of a spelled text.
use Rattle.std.proofs.Common.{◌≡◌, ℕ, suc, ◌+◌, ◌-◌, ◌<◌, Bool, true, false, cond, List, [], ◌∷◌, ◌++◌, length, drop, take, Some, Result, Ok, Err, refl, sym, ap, ◌∙◌, append_assoc, length-append, arith}
use Rattle.std.specs.Prelude.{All, IsTrue, take_while, slice_range, if◌then◌else◌}
use Rattle.std.proofs.lemmas.List.Sums.{take_while-cons}
use Rattle.std.proofs.Math.Seq.{take-append_seam, drop-append_seam}
use Rattle.sp_lex.specs.declared.lexeme.TokenKind.{TokenKind}
use Rattle.sp_lex.specs.declared.lexeme.TokenKind.TheVariants.{LeftRound, RightRound, LeftSquare, RightSquare, Word, Primed, Mark}
use Rattle.sp_lex.specs.declared.lexeme.Token.{Token}
use Rattle.sp_lex.specs.declared.lexer.Piece.{Piece}
use Rattle.sp_lex.specs.declared.lexer.ByteClass.{ByteClass}
use Rattle.sp_lex.specs.declared.lexer.ByteClass.TheVariants.{InWord}
use Rattle.sp_lex.specs.Bytes.{is_word_byte, class_of, has_byte}
use Rattle.sp_lex.specs.Tokens.{piece_of, piece_by, word_piece, token_piece, behind, tokens_from}
use Rattle.sp_lex.proofs.Steps.{at_piece}
use Rattle.sp_syntax.specs.declared.class.TokenClass.TheVariants as class
use Rattle.sp_syntax.specs.Classes.{class_of as token_class, mark_class, with_class, without_last, word_class, primed_class, classes}
use Rattle.sp_spelled.specs.Signs.{Sign, opens, closes, left_square, right_square, plus, star, word, primed, Gap, tight, space, line, Spelled, sign_bytes, gap_bytes, text_of_signs, IsWordText, IsSign, IsNoWord, IsApart, IsSpaced, IsSpelled, AreSpelled, Lexes}

-- ---- places
abbrev sign_kind : Sign → TokenKind
sign_kind opens = LeftRound
sign_kind closes = RightRound
sign_kind left_square = LeftSquare
sign_kind right_square = RightSquare
sign_kind plus = Mark
sign_kind star = Mark
sign_kind (word w) = Word
sign_kind (primed w) = Primed

abbrev width : Spelled → ℕ
width s = length (sign_bytes s.sign) + length (gap_bytes s.gap)

abbrev token_at : ℕ → Sign → Token
token_at at s = record { kind = sign_kind s; span = record { start = at; end = at + length (sign_bytes s) } }

-- the tokens at their places, from a place on
abbrev placed : ℕ → List Spelled → List Token
placed at [] = []
placed at (s ∷ ss) = token_at at s.sign ∷ placed (at + length (sign_bytes s.sign) + length (gap_bytes s.gap)) ss

-- ---- words
if_true : (t : Bool) (x y : ByteClass) → t ≡ true → (if t then x else y) ≡ x
if_true true x y e = refl
if_true false x y e = cc

in_word : (b : ℕ) → is_word_byte b ≡ true → class_of b ≡ InWord
unfolding class_of
in_word b h = if_true (is_word_byte b) InWord _ h

-- no word goes on here
abbrev Stops : List ℕ → Type 0
Stops [] = Unit {0}
Stops (b ∷ bytes) = is_word_byte b ≡ false

taken : (w rest : List ℕ) → All (λ b. IsTrue (is_word_byte b)) w → Stops rest → take_while is_word_byte (w ++ rest) ≡ w
taken [] [] h s = refl
taken [] (b ∷ rest) h s = take_while-cons is_word_byte b rest ∙ ap (λ t. cond t (b ∷ take_while is_word_byte rest) []) s
taken (b ∷ w) rest h s =
    let first : is_word_byte b ≡ true = h 0 b (omega arith) in
    take_while-cons is_word_byte b (w ++ rest) ∙ ap (λ t. cond t (b ∷ take_while is_word_byte (w ++ rest)) []) first
    ∙ ap (λ v. b ∷ v) (taken w rest (λ k d l. h (suc k) d (omega arith)) s)

has_behind : (w rest : List ℕ) (c : ℕ) → has_byte (w ++ rest) (length w) c ≡ has_byte rest 0 c
has_behind [] rest c = refl
has_behind (b ∷ w) rest c = has_behind w rest c

word_front : (w rest : List ℕ) → IsWordText w → Stops rest → piece_of (w ++ rest) ≡ word_piece (w ++ rest) (length w)
unfolding piece_of
word_front [] rest h s = let some = h.some in absurd (omega arith)
word_front (b ∷ w) rest h s =
    let first : is_word_byte b ≡ true = h.bytes 0 b (omega arith) in
    let more : take_while is_word_byte (w ++ rest) ≡ w = taken w rest (λ k d l. h.bytes (suc k) d (omega arith)) s in
    let long : 1 + length w ≡ suc (length w) = omega arith in
    ap (λ c. piece_by c (b ∷ (w ++ rest))) (in_word b first) ∙ ap (λ n. word_piece (b ∷ (w ++ rest)) n) (ap (λ v. 1 + length v) more ∙ long)

-- ---- one token
-- the bytes behind a sign don't belong to it
abbrev Ends : Sign → List ℕ → Type 0
Ends (word w) rest = Stops rest × (has_byte rest 0 39 ≡ false)
Ends _ rest = Unit {0}

abbrev piece_for : Sign → Piece
piece_for s = record { len = length (sign_bytes s); kind = Some (sign_kind s) }

sign_front : (s : Sign) (rest : List ℕ) → IsSign s → Ends s rest → piece_of (sign_bytes s ++ rest) ≡ Some (piece_for s)
unfolding piece_of class_of
sign_front opens rest h e = refl
sign_front closes rest h e = refl
sign_front left_square rest h e = refl
sign_front right_square rest h e = refl
sign_front plus rest h e = refl
sign_front star rest h e = refl
sign_front (word w) rest h e = word_front w rest h e.0 ∙ ap (λ t. if t then token_piece (length w + 1) Primed else token_piece (length w) Word) (has_behind w rest 39 ∙ e.1)
sign_front (primed w) rest h e =
    let long : length w + 1 ≡ length (w ++ 39 ∷ []) = sym (length-append w (39 ∷ [])) in
    ap piece_of (append_assoc w (39 ∷ []) rest) ∙ word_front w (39 ∷ rest) h refl
    ∙ ap (λ t. if t then token_piece (length w + 1) Primed else token_piece (length w) Word) (has_behind w (39 ∷ rest) 39)
    ∙ ap (λ n. token_piece n Primed) long

sign_some : (s : Sign) → IsSign s → 0 < length (sign_bytes s)
sign_some (word w) h = h.some
sign_some (primed w) h = let long = length-append w (39 ∷ []) in omega arith
sign_some _ h = omega arith

behind_nothing : (read : Result (List Token) ℕ) → behind [] read ≡ read
behind_nothing (Ok tokens) = refl
behind_nothing (Err place) = refl

over_gap : (at : ℕ) (g : Gap) (rest : List ℕ) → tokens_from at 0 (gap_bytes g ++ rest) ≡ tokens_from (at + length (gap_bytes g)) 0 rest
unfolding tokens_from piece_of class_of
over_gap at tight rest = let e : at ≡ at + 0 = omega arith in ap (λ k. tokens_from k 0 rest) e
over_gap at space rest = behind_nothing (tokens_from (at + 1) 0 rest)
over_gap at line rest = behind_nothing (tokens_from (at + 1) 0 rest)

no_word : (s : Sign) (rest : List ℕ) → IsNoWord s → Stops (sign_bytes s ++ rest) × (has_byte (sign_bytes s ++ rest) 0 39 ≡ false)
no_word (word w) rest h = absurd h
no_word (primed w) rest h = absurd h
no_word _ rest h = (refl, refl)

ends : (s : Sign) (g : Gap) (ss : List Spelled) → IsApart s g ss → Ends s (gap_bytes g ++ text_of_signs ss)
ends (word w) tight [] h = absurd h
ends (word w) tight (t ∷ ss) h = no_word t.sign (gap_bytes t.gap ++ text_of_signs ss) h
ends (word w) space ss h = (refl, refl)
ends (word w) line ss h = (refl, refl)
ends _ g ss h = tt

lexed_at : (at : ℕ) (ss : List Spelled) → IsSpaced ss → tokens_from at 0 (text_of_signs ss) ≡ Ok (placed at ss)
unfolding tokens_from
lexed_at at [] h = refl
lexed_at at (s ∷ ss) h =
    let bytes : List ℕ = sign_bytes s.sign in
    let rest : List ℕ = gap_bytes s.gap ++ text_of_signs ss in
    let long = length-append (sign_bytes s.sign) (gap_bytes s.gap ++ text_of_signs ss) in
    at_piece at (sign_bytes s.sign ++ (gap_bytes s.gap ++ text_of_signs ss)) (piece_for s.sign) (sign_front s.sign (gap_bytes s.gap ++ text_of_signs ss) h.0 (ends s.sign s.gap ss h.1)) (sign_some s.sign h.0) (omega arith)
    ∙ ap (λ z. behind (token_at at s.sign ∷ []) z)
    (ap (λ z. tokens_from (at + length (sign_bytes s.sign)) 0 z) (drop-append_seam (sign_bytes s.sign) (gap_bytes s.gap ++ text_of_signs ss))
    ∙ over_gap (at + length (sign_bytes s.sign)) s.gap (text_of_signs ss) ∙ lexed_at (at + length (sign_bytes s.sign) + length (gap_bytes s.gap)) ss h.2)

-- ---- texts
text_at : (source front w more : List ℕ) (at n : ℕ) → length front ≡ at → n ≡ at + length w → source ≡ front ++ (w ++ more) → slice_range source at n ≡ w
text_at source front w more at n l m e =
    let width : n - at ≡ length w = omega arith in
    ap (λ k. take k (drop at source)) width ∙ ap (λ k. take (length w) (drop k source)) (sym l) ∙ ap (λ z. take (length w) (drop (length front) z)) e
    ∙ ap (λ z. take (length w) z) (drop-append_seam front (w ++ more)) ∙ take-append_seam w more

spelled_here : (source front more : List ℕ) (at : ℕ) (s : Sign) → length front ≡ at → source ≡ front ++ (sign_bytes s ++ more) → IsSpelled source (with_class source (token_at at s)) s
unfolding token_class mark_class
spelled_here source front more at opens l e = record { class = refl; says = tt }
spelled_here source front more at closes l e = record { class = refl; says = tt }
spelled_here source front more at left_square l e = record { class = refl; says = tt }
spelled_here source front more at right_square l e = record { class = refl; says = tt }
spelled_here source front more at plus l e = record { class = ap mark_class (text_at source front (43 ∷ []) more at (at + 1) l refl e); says = tt }
spelled_here source front more at star l e = record { class = ap mark_class (text_at source front (42 ∷ []) more at (at + 1) l refl e); says = tt }
spelled_here source front more at (word w) l e =
    let said = text_at source front w more at (at + length w) l refl e in
    record { class = ap (λ v. class.Word (word_class v)) said; says = said }
spelled_here source front more at (primed w) l e =
    let long = length-append w (39 ∷ []) in
    let short : at + length (w ++ 39 ∷ []) - 1 ≡ at + length w = omega arith in
    let short_too : length (w ++ 39 ∷ []) - 1 - 0 ≡ length w = omega arith in
    let whole = text_at source front (w ++ 39 ∷ []) more at (at + length (w ++ 39 ∷ [])) l refl e in
    record {
      class = ap (λ v. primed_class (without_last v)) whole ∙ ap primed_class (ap (λ k. take k (w ++ 39 ∷ [])) short_too ∙ take-append_seam w (39 ∷ []));
      says = text_at source front w (39 ∷ more) at (at + length (w ++ 39 ∷ []) - 1) l short (e ∙ ap (λ v. front ++ v) (append_assoc w (39 ∷ []) more));
    }

spelled_at : (source front : List ℕ) (at : ℕ) (ss : List Spelled) → length front ≡ at → source ≡ front ++ text_of_signs ss → AreSpelled source (classes source (placed at ss)) ss
spelled_at source front at [] l e = tt
spelled_at source front at (s ∷ ss) l e =
    let signs = length-append front (sign_bytes s.sign) in
    let gaps = length-append (front ++ sign_bytes s.sign) (gap_bytes s.gap) in (
      spelled_here source front (gap_bytes s.gap ++ text_of_signs ss) at s.sign l e,
      spelled_at source ((front ++ sign_bytes s.sign) ++ gap_bytes s.gap) (at + length (sign_bytes s.sign) + length (gap_bytes s.gap)) ss (omega arith)
          (e ∙ sym (append_assoc front (sign_bytes s.sign) (gap_bytes s.gap ++ text_of_signs ss)) ∙ sym (append_assoc (front ++ sign_bytes s.sign) (gap_bytes s.gap) (text_of_signs ss))),
    )

pub lexed : (ss : List Spelled) → IsSpaced ss → Lexes (text_of_signs ss) ss
lexed ss h = record { tokens = placed 0 ss; lexed = lexed_at 0 ss h; spelled = spelled_at (text_of_signs ss) [] 0 ss refl refl }
