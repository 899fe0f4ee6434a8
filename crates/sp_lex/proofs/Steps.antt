-- Steps of cutting a text into tokens.
use Rattle.std.proofs.Common.{◌≡◌, ℕ, zero, suc, ◌+◌, ◌-◌, ◌<◌, ◌≤◌, List, [], ◌∷◌, ◌++◌, length, drop, Some, None, Result, Ok, Err, refl, sym, ap, ◌∙◌, append_assoc, append-nil, length-drop, drop_of_length-le, drop-drop, arith}
use Rattle.sp_lex.specs.declared.lexeme.Token.{Token}
use Rattle.sp_lex.specs.declared.lexer.Piece.{Piece}
use Rattle.sp_lex.specs.Tokens.{piece_of, token_of, behind, from_piece, tokens_from, tokens_of}

behind-append : (xs ys : List Token) (read : Result (List Token) ℕ) → behind (xs ++ ys) read ≡ behind xs (behind ys read)
behind-append xs ys (Ok tokens) = ap (λ z. Ok z) (append_assoc xs ys tokens)
behind-append xs ys (Err place) = refl

-- the rest of a piece is passed over
passes : (at n : ℕ) (bytes : List ℕ) → n ≤ length bytes → tokens_from at n bytes ≡ tokens_from (at + n) 0 (drop n bytes)
unfolding tokens_from
passes at zero bytes h = let e : at ≡ at + 0 = omega arith in ap (λ k. tokens_from k 0 bytes) e
passes at (suc n) [] h = absurd (omega arith)
passes at (suc n) (b ∷ bytes) h =
    let e : at + 1 + n ≡ at + suc n = omega arith in passes (at + 1) n bytes (omega arith) ∙ ap (λ k. tokens_from k 0 (drop n bytes)) e

-- a piece at a place, and then what stands behind it
pub at_piece : (at : ℕ) (bytes : List ℕ) (p : Piece) → piece_of bytes ≡ Some p → 0 < p.len → p.len ≤ length bytes
    → tokens_from at 0 bytes ≡ behind (token_of p.kind at (at + p.len)) (tokens_from (at + p.len) 0 (drop p.len bytes))
unfolding tokens_from
at_piece at [] p e some fits = absurd (omega arith)
at_piece at (b ∷ bytes) p e some fits =
    let places : at + 1 + (p.len - 1) ≡ at + p.len = omega arith in
    let len : suc (p.len - 1) ≡ p.len = omega arith in
    ap (λ o. from_piece at o (λ more. tokens_from (at + 1) more bytes)) e
    ∙ ap (λ z. behind (token_of p.kind at (at + p.len)) z)
    (passes (at + 1) (p.len - 1) bytes (omega arith) ∙ ap (λ k. tokens_from k 0 (drop (p.len - 1) bytes)) places ∙ ap (λ k. tokens_from (at + p.len) 0 (drop k (b ∷ bytes))) len)

-- a byte that is not allowed
pub at_forbidden : (at : ℕ) (bytes : List ℕ) → piece_of bytes ≡ None → 0 < length bytes → tokens_from at 0 bytes ≡ Err at
unfolding tokens_from
at_forbidden at [] e some = absurd (omega arith)
at_forbidden at (b ∷ bytes) e some = ap (λ o. from_piece at o (λ more. tokens_from (at + 1) more bytes)) e

-- a text is read up to a place, and these are the tokens in front of it
pub record IsReadTo (source : List ℕ) (list : List Token) (at : ℕ) : Type 0 where
  pub within : at ≤ length source
  pub gives : behind list (tokens_from at 0 (drop at source)) ≡ tokens_of source

pub read_nothing : (source : List ℕ) → IsReadTo source [] 0
read_nothing source = record { within = omega arith; gives = same (tokens_of source) }
  where
    same : (read : Result (List Token) ℕ) → behind [] read ≡ read
    same (Ok tokens) = refl
    same (Err place) = refl

module _ (source : List ℕ) (list : List Token) (at : ℕ) (read : IsReadTo source list at) where
  pub read_all : length source ≤ at → tokens_of source ≡ Ok list
  unfolding tokens_from
  read_all end = sym read.gives ∙ ap (λ z. behind list (tokens_from at 0 z)) (drop_of_length-le source end) ∙ ap (λ z. Ok z) (append-nil list)

  pub read_forbidden : at < length source → piece_of (drop at source) ≡ None → tokens_of source ≡ Err at
  read_forbidden some e = sym read.gives ∙ ap (λ z. behind list z) (at_forbidden at (drop at source) e (omega (arith, length-drop at source)))

  pub read_piece : (p : Piece) → piece_of (drop at source) ≡ Some p → 0 < p.len → p.len ≤ length (drop at source)
      → IsReadTo source (list ++ token_of p.kind at (at + p.len)) (at + p.len)
  read_piece p e some fits = record {
    within = omega (arith, length-drop at source, read.within);
    gives =
        behind-append list (token_of p.kind at (at + p.len)) (tokens_from (at + p.len) 0 (drop (at + p.len) source))
        ∙ ap (λ z. behind list (behind (token_of p.kind at (at + p.len)) (tokens_from (at + p.len) 0 z))) (sym (drop-drop p.len at source))
        ∙ ap (λ z. behind list z) (sym (at_piece at (drop at source) p e some fits))
        ∙ read.gives;
  }
