-- The tokens of a text, place by place.
use Rattle.std.proofs.Common.{◌≡◌, ◌≢◌, ℕ, zero, suc, ◌+◌, ◌-◌, ◌<◌, ◌≤◌, ◌⊎◌, inl, inr, Bool, true, false, List, [], ◌∷◌, ◌++◌, length, drop, Option, Some, None, Result, Ok, Err, refl, sym, ap, ◌∙◌, subst, ⊎_elim, length-drop, drop-drop, drop_of_length-le, arith}
use Rattle.std.specs.Prelude.{MatchResult, All, Any, slice_index, take_while, if◌then◌else◌}
use Rattle.std.proofs.lemmas.List.{get_or-drop, get_or_past}
use Rattle.std.proofs.lemmas.List.Sums.{prefix_len_passes, prefix_len_stops, prefix_len-le-length}
use Rattle.std.proofs.lemmas.List.Folds.{length-prefix_len}
use Rattle.std.proofs.lemmas.Bool.{cases_lt}
use Rattle.std.proofs.lemmas.Bool.Decides.{nat_tests}
use Rattle.sp_lex.specs.declared.lexeme.TokenKind.{TokenKind}
use Rattle.sp_lex.specs.declared.lexeme.TokenKind.TheVariants.{LeftRound, RightRound, LeftSquare, RightSquare, Word, Primed, Mark}
use Rattle.sp_lex.specs.declared.lexeme.Token.{Token}
use Rattle.sp_lex.specs.declared.lexer.Piece.{Piece}
use Rattle.sp_lex.specs.declared.lexer.ByteClass.{ByteClass}
use Rattle.sp_lex.specs.declared.lexer.ByteClass.TheVariants.{InWord, Slash, White, Single, Forbidden}
use Rattle.sp_lex.specs.Bytes.{is_word_byte, is_white, is_not_line_feed, class_of, has_byte}
use Rattle.sp_lex.specs.Tokens.{token_piece, gap_piece, word_piece, piece_by, piece_of, token_of, behind, tokens_from, tokens_of}
use Rattle.sp_lex.specs.Places.{IsInComment, is_allowed, is_mark, IsForbiddenByte, IsFirstForbidden, IsBetweenTokens, IsWordRun, IsOfKind, IsTokenOf, IsInSpan, AreSpansRising, IsCut}
use Rattle.sp_lex.proofs.Classes.{differ, word_byte_allowed, white_allowed, white_not_word, mark_allowed, mark_not_word, SingleFacts, ClassFacts, class_facts}
use Rattle.sp_lex.proofs.Steps.{at_piece, at_forbidden}

-- how many bytes at the front pass a test
record IsTaken (test : ℕ → Bool) (bytes : List ℕ) (n : ℕ) : Type 0 where
  pub fits : n ≤ length bytes
  pub each : (j : ℕ) → j < n → test (slice_index bytes j) ≡ true
  pub stops : n < length bytes → test (slice_index bytes n) ≡ false

taken : (test : ℕ → Bool) (bytes : List ℕ) → IsTaken test bytes (length (take_while test bytes))
taken test bytes = subst (λ n. IsTaken test bytes n) (sym (length-prefix_len test bytes)) (record {
  fits = prefix_len-le-length test bytes;
  each = λ j h. prefix_len_passes test bytes j 0 h;
  stops = λ h. prefix_len_stops test bytes 0 h;
})

has : (bytes : List ℕ) (i b : ℕ) → has_byte bytes i b ≡ true → (slice_index bytes i ≡ b) × (i < length bytes)
has [] i b h = cc
has (x ∷ bytes) zero b h = (grind (arith, nat_tests), omega arith)
has (x ∷ bytes) (suc i) b h = let more = has bytes i b h in (more.0, omega (arith, more.1))

has_not : (bytes : List ℕ) (i b : ℕ) → 0 < b → has_byte bytes i b ≡ false → slice_index bytes i ≢ b
has_not [] i b some h e = omega arith
has_not (x ∷ bytes) zero b some h e = grind (arith, nat_tests)
has_not (x ∷ bytes) (suc i) b some h e = has_not bytes i b some h e

-- a line feed between two places
record HasLineFeed (source : List ℕ) (low high : ℕ) : Type 0 where
  pub place : ℕ
  pub above : low ≤ place
  pub below : place ≤ high
  pub here : slice_index source place ≡ 10

-- no comment that begins before the place reaches it, and no word goes on through it
record IsBoundary (source : List ℕ) (at : ℕ) : Type 0 where
  pub comments : at < length source → (start : ℕ) → start < at → slice_index source start ≡ 47 → slice_index source (start + 1) ≡ 47 → HasLineFeed source start at
  pub words : 0 < at → is_word_byte (slice_index source (at - 1)) ≡ true → is_word_byte (slice_index source at) ≡ false

at_start : (source : List ℕ) → IsBoundary source 0
at_start source = record { comments = λ in_text start h slash second. absurd (omega arith); words = λ h w. absurd (omega arith) }

-- what stands between two places is a token of that kind, or nothing
abbrev IsPiece : List ℕ → ℕ → ℕ → Option TokenKind → Type 0
IsPiece source at end None = (k : ℕ) → at ≤ k → k < end → IsBetweenTokens source k
IsPiece source at end (Some kind) = IsTokenOf source (record { kind = kind; span = record { start = at; end = end } })

record IsRead (source : List ℕ) (at end : ℕ) (kind : Option TokenKind) : Type 0 where
  pub some : at < end
  pub fits : end ≤ length source
  pub piece : IsPiece source at end kind
  pub allowed : (k : ℕ) → at ≤ k → k < end → ¬ IsForbiddenByte source k
  pub next : IsBoundary source end

module _ (source : List ℕ) (at : ℕ) (in_text : at < length source) (boundary : IsBoundary source at) where
  late : (k : ℕ) → at ≤ k → (comment : IsInComment source k) → at ≤ comment.start
  late k h comment =
      ⊎_elim (λ less.
      let feed = boundary.comments in_text comment.start less comment.slash comment.second_slash in
      absurd (comment.same_line feed.place feed.above (omega (arith, feed.below)) feed.here)) (λ more. more) (cases_lt comment.start at)

  -- a place up to which no two slashes begin is in no comment
  outside : (k : ℕ) → at ≤ k → ((j : ℕ) → at ≤ j → j ≤ k → slice_index source j ≡ 47 → slice_index source (j + 1) ≢ 47) → ¬ IsInComment source k
  outside k h none comment = none comment.start (late k h comment) comment.before comment.slash comment.second_slash

  -- the same for comments that begin before a later place
  comments_before : (end : ℕ) → at ≤ end → ((j : ℕ) → at ≤ j → j < end → slice_index source j ≡ 47 → slice_index source (j + 1) ≢ 47)
      → (start : ℕ) → start < end → slice_index source start ≡ 47 → slice_index source (start + 1) ≡ 47 → HasLineFeed source start end
  comments_before end h none start less slash second =
      ⊎_elim (λ before.
      let feed = boundary.comments in_text start before slash second in
      record { place = feed.place; above = feed.above; below = omega (arith, feed.below); here = feed.here })
      (λ more. absurd (none start more less slash second)) (cases_lt start at)

  -- a single byte that begins no comment and is in no word
  one_byte : (kind : Option TokenKind) → is_allowed (slice_index source at) ≡ true → is_word_byte (slice_index source at) ≡ false
      → (slice_index source at ≡ 47 → slice_index source (at + 1) ≢ 47) → (¬ IsInComment source at → IsPiece source at (at + 1) kind) → IsRead source at (at + 1) kind
  one_byte kind allowed no_word no_slashes piece = record {
    some = omega arith;
    fits = omega arith;
    piece = piece (outside at (omega arith) (λ j low high. here j low (omega arith)));
    allowed = λ k low high forbidden. let e : k ≡ at = omega arith in let a = ap (λ k. is_allowed (slice_index source k)) e in let b = forbidden.byte in cc;
    next = record {
      comments = λ end_in_text. comments_before (at + 1) (omega arith) here;
      words = λ some word. let e : at + 1 - 1 ≡ at = omega arith in let a = ap (λ k. is_word_byte (slice_index source k)) e in cc;
    };
  }
    where
      here : (j : ℕ) → at ≤ j → j < at + 1 → slice_index source j ≡ 47 → slice_index source (j + 1) ≢ 47
      here j low high slash = let e : at ≡ j = omega arith in let P : ℕ → Type 0 = λ j. slice_index source j ≡ 47 → slice_index source (j + 1) ≢ 47 in subst P e no_slashes slash

  -- a token of a single byte
  one_token : (kind : TokenKind) → is_allowed (slice_index source at) ≡ true → is_word_byte (slice_index source at) ≡ false
      → (slice_index source at ≡ 47 → slice_index source (at + 1) ≢ 47) → IsOfKind source kind at (at + 1) → IsRead source at (at + 1) (Some kind)
  one_token kind allowed no_word no_slashes of_kind = one_byte (Some kind) allowed no_word no_slashes (λ outside_here. record {
    some = omega arith;
    within = omega arith;
    kind = of_kind;
    outside = λ k low high comment. let e : k ≡ at = omega arith in outside_here (subst (λ k. IsInComment source k) e comment);
  })

  single : (kind : TokenKind) → SingleFacts kind (slice_index source at) → IsRead source at (at + 1) (Some kind)
  single LeftRound e = one_token LeftRound (ap is_allowed e) (ap is_word_byte e) (λ slash. absurd (omega arith)) (e, refl)
  single RightRound e = one_token RightRound (ap is_allowed e) (ap is_word_byte e) (λ slash. absurd (omega arith)) (e, refl)
  single LeftSquare e = one_token LeftSquare (ap is_allowed e) (ap is_word_byte e) (λ slash. absurd (omega arith)) (e, refl)
  single RightSquare e = one_token RightSquare (ap is_allowed e) (ap is_word_byte e) (λ slash. absurd (omega arith)) (e, refl)
  single Word h = absurd h
  single Primed h = absurd h
  single Mark h = one_token Mark (mark_allowed (slice_index source at) h.0) (mark_not_word (slice_index source at) h.0) (λ slash. absurd (h.1 slash)) (h.0, refl)

  white : is_white (slice_index source at) ≡ true → IsRead source at (at + 1) None
  white h = one_byte None (white_allowed (slice_index source at) h) (white_not_word (slice_index source at) h) (λ slash. absurd (differ is_white (slice_index source at) 47 h refl slash))
      (λ outside_here k low high. let e : at ≡ k = omega arith in inl (ap (λ k. is_white (slice_index source k)) (sym e) ∙ h))

  lone_slash : slice_index source at ≡ 47 → slice_index source (at + 1) ≢ 47 → IsRead source at (at + 1) (Some Mark)
  lone_slash e next = one_token Mark (ap is_allowed e) (ap is_word_byte e) (λ slash. next) (ap is_mark e, refl)

  comment : slice_index source at ≡ 47 → slice_index source (at + 1) ≡ 47 → (n : ℕ) → at + (2 + n) ≤ length source
      → ((j : ℕ) → j < n → slice_index source (at + (2 + j)) ≢ 10) → (at + (2 + n) < length source → slice_index source (at + (2 + n)) ≡ 10) → IsRead source at (at + (2 + n)) None
  comment slash second n fits each stops = record {
    some = omega arith;
    fits = fits;
    piece = λ k low high. inr (inside k low high);
    allowed = λ k low high forbidden. forbidden.outside (inside k low high);
    next = record {
      comments = λ end_in_text start less a b. record { place = at + (2 + n); above = omega arith; below = omega arith; here = stops end_in_text };
      words = λ some word. no_word;
    };
  }
    where
      line : (j : ℕ) → at ≤ j → j < at + (2 + n) → slice_index source j ≢ 10
      line j low high e =
          ⊎_elim (λ less. ⊎_elim (λ first. let same : j ≡ at = omega arith in let a = ap (λ j. slice_index source j) same in omega arith)
          (λ more. let same : j ≡ at + 1 = omega arith in let a = ap (λ j. slice_index source j) same in omega arith) (cases_lt j (at + 1)))
          (λ more. let same : at + (2 + (j - (at + 2))) ≡ j = omega arith in each (j - (at + 2)) (omega arith) (ap (λ j. slice_index source j) same ∙ e)) (cases_lt j (at + 2))

      inside : (k : ℕ) → at ≤ k → k < at + (2 + n) → IsInComment source k
      inside k low high = record { start = at; before = low; slash = slash; second_slash = second; same_line = λ j above below. line j above (omega arith) }

      no_word : is_word_byte (slice_index source (at + (2 + n))) ≡ false
      no_word = ⊎_elim (λ less. ap is_word_byte (stops less)) (λ more. ap is_word_byte (get_or_past source (at + (2 + n)) 0 more)) (cases_lt (at + (2 + n)) (length source))

  module _ (n : ℕ) (each : (j : ℕ) → j < 1 + n → is_word_byte (slice_index source (at + j)) ≡ true) (stops : is_word_byte (slice_index source (at + (1 + n))) ≡ false) where
    in_word : (k : ℕ) → at ≤ k → k < at + (1 + n) → is_word_byte (slice_index source k) ≡ true
    in_word k low high = let same : at + (k - at) ≡ k = omega arith in ap (λ k. is_word_byte (slice_index source k)) (sym same) ∙ each (k - at) (omega arith)

    run : IsWordRun source at (at + (1 + n))
    run = record { some = omega arith; bytes = in_word; starts = λ some. starts some (is_word_byte (slice_index source (at - 1))) refl; ends = stops }
      where
        starts : 0 < at → (test : Bool) → is_word_byte (slice_index source (at - 1)) ≡ test → is_word_byte (slice_index source (at - 1)) ≡ false
        starts some true e = let a = boundary.words some e in let b = in_word at (omega arith) (omega arith) in cc
        starts some false e = e

    no_slash : (k : ℕ) → at ≤ k → k < at + (1 + n) → slice_index source k ≢ 47
    no_slash k low high = differ is_word_byte (slice_index source k) 47 (in_word k low high) refl

    word : at + (1 + n) ≤ length source → slice_index source (at + (1 + n)) ≢ 39 → IsRead source at (at + (1 + n)) (Some Word)
    word fits no_quote = record {
      some = omega arith;
      fits = fits;
      piece = record {
        some = omega arith;
        within = fits;
        kind = (run, no_quote);
        outside = λ k low high. outside k low (λ j above below slash. absurd (no_slash j above (omega arith) slash));
      };
      allowed = λ k low high forbidden. let a = word_byte_allowed (slice_index source k) (in_word k low high) in let b = forbidden.byte in cc;
      next = record {
        comments = λ end_in_text. comments_before (at + (1 + n)) (omega arith) (λ j above below slash. absurd (no_slash j above below slash));
        words = λ some last. stops;
      };
    }

    primed : at + (1 + n) < length source → slice_index source (at + (1 + n)) ≡ 39 → IsRead source at (at + (1 + n + 1)) (Some Primed)
    primed fits quote = record {
      some = omega arith;
      fits = omega arith;
      piece = record {
        some = omega arith;
        within = omega arith;
        kind = subst (λ end. IsWordRun source at end × (slice_index source end ≡ 39)) last (run, quote);
        outside = λ k low high. outside k low (λ j above below slash. absurd (no_slash_or_quote j above (omega arith) slash));
      };
      allowed = λ k low high forbidden. ⊎_elim (λ less. let a = word_byte_allowed (slice_index source k) (in_word k low less) in let b = forbidden.byte in cc)
          (λ more. let e : k ≡ at + (1 + n) = omega arith in let a = ap is_allowed (ap (λ k. slice_index source k) e ∙ quote) in let b = forbidden.byte in cc) (cases_lt k (at + (1 + n)));
      next = record {
        comments = λ end_in_text. comments_before (at + (1 + n + 1)) (omega arith) (λ j above below slash. absurd (no_slash_or_quote j above below slash));
        words = λ some word. let a = ap is_word_byte (ap (λ k. slice_index source k) (sym last) ∙ quote) in cc;
      };
    }
      where
        last : at + (1 + n) ≡ at + (1 + n + 1) - 1
        last = omega arith

        no_slash_or_quote : (k : ℕ) → at ≤ k → k < at + (1 + n + 1) → slice_index source k ≢ 47
        no_slash_or_quote k low high slash = ⊎_elim (λ less. no_slash k low less slash)
            (λ more. let e : k ≡ at + (1 + n) = omega arith in let a = ap (λ k. slice_index source k) e in omega arith) (cases_lt k (at + (1 + n)))

  given : (x p : Piece) → IsRead source at (at + x.len) x.kind → Some x ≡ Some p → IsRead source at (at + p.len) p.kind
  given x p read e = let same : x ≡ p = cc in subst (λ (p : Piece). IsRead source at (at + p.len) p.kind) same read

  at_rest : (i : ℕ) → slice_index (drop at source) i ≡ slice_index source (at + i)
  at_rest i = get_or-drop at source i 0

  at_rest_behind : (k i : ℕ) → slice_index (drop k (drop at source)) i ≡ slice_index source (at + (k + i))
  at_rest_behind k i = get_or-drop k (drop at source) i 0 ∙ at_rest (k + i)

  in_word_piece : is_word_byte (slice_index source at) ≡ true → (n : ℕ) → IsTaken is_word_byte (drop 1 (drop at source)) n
      → (p : Piece) → word_piece (drop at source) (1 + n) ≡ Some p → IsRead source at (at + p.len) p.kind
  in_word_piece first n run p e = by_quote (has_byte (drop at source) (1 + n) 39) refl e
    where
      lengths : (length (drop at source) ≡ length source - at) × (length (drop 1 (drop at source)) ≡ length source - at - 1)
      lengths = (length-drop at source, length-drop 1 (drop at source) ∙ ap (λ n. n - 1) (length-drop at source))

      each : (j : ℕ) → j < 1 + n → is_word_byte (slice_index source (at + j)) ≡ true
      each zero h = let e : at + 0 ≡ at = omega arith in ap (λ k. is_word_byte (slice_index source k)) e ∙ first
      each (suc j) h = let e : at + suc j ≡ at + (1 + j) = omega arith in
          ap (λ k. is_word_byte (slice_index source k)) e ∙ ap is_word_byte (sym (at_rest_behind 1 j)) ∙ run.each j (omega arith)

      stops : is_word_byte (slice_index source (at + (1 + n))) ≡ false
      stops = ⊎_elim (λ less. ap is_word_byte (sym (at_rest_behind 1 n)) ∙ run.stops (omega (arith, lengths.1)))
          (λ more. ap is_word_byte (get_or_past source (at + (1 + n)) 0 more)) (cases_lt (at + (1 + n)) (length source))

      by_quote : (test : Bool) → has_byte (drop at source) (1 + n) 39 ≡ test → (if test then token_piece (1 + n + 1) Primed else token_piece (1 + n) Word) ≡ Some p
          → IsRead source at (at + p.len) p.kind
      by_quote true quote e =
          let found = has (drop at source) (1 + n) 39 quote in
          given (record { len = 1 + n + 1; kind = Some Primed }) p (primed n each stops (omega (arith, found.1, lengths.0)) (sym (at_rest (1 + n)) ∙ found.0)) e
      by_quote false quote e =
          let none = has_not (drop at source) (1 + n) 39 (omega arith) quote in
          given (record { len = 1 + n; kind = Some Word }) p (word n each stops (omega (arith, run.fits, lengths.1)) (λ is. none (at_rest (1 + n) ∙ is))) e

  slash_piece : slice_index source at ≡ 47 → (n : ℕ) → IsTaken is_not_line_feed (drop 2 (drop at source)) n → (p : Piece)
      → (if has_byte (drop at source) 1 47 then gap_piece (2 + n) else token_piece 1 Mark) ≡ Some p → IsRead source at (at + p.len) p.kind
  slash_piece slash n line p e = by_slash (has_byte (drop at source) 1 47) refl e
    where
      lengths : (length (drop at source) ≡ length source - at) × (length (drop 2 (drop at source)) ≡ length source - at - 2)
      lengths = (length-drop at source, length-drop 2 (drop at source) ∙ ap (λ n. n - 2) (length-drop at source))

      each : (j : ℕ) → j < n → slice_index source (at + (2 + j)) ≢ 10
      each j h feed = let a = line.each j h in let b = ap is_not_line_feed (at_rest_behind 2 j ∙ feed) in cc

      is_feed : (b : ℕ) → is_not_line_feed b ≡ false → b ≡ 10
      is_feed b h = grind (arith, nat_tests)

      by_slash : (test : Bool) → has_byte (drop at source) 1 47 ≡ test → (if test then gap_piece (2 + n) else token_piece 1 Mark) ≡ Some p → IsRead source at (at + p.len) p.kind
      by_slash true second e =
          let found = has (drop at source) 1 47 second in
          given (record { len = 2 + n; kind = None }) p
          (comment slash (sym (at_rest 1) ∙ found.0) n (omega (arith, found.1, line.fits, lengths.0, lengths.1)) each
          (λ less. sym (at_rest_behind 2 n) ∙ is_feed (slice_index (drop 2 (drop at source)) n) (line.stops (omega (arith, lengths.1))))) e
      by_slash false second e =
          let none = has_not (drop at source) 1 47 (omega arith) second in
          given (record { len = 1; kind = Some Mark }) p (lone_slash slash (λ is. none (at_rest 1 ∙ is))) e

  by_class : (class : ByteClass) → ClassFacts class (slice_index source at) → (p : Piece) → piece_by class (drop at source) ≡ Some p → IsRead source at (at + p.len) p.kind
  by_class InWord h p e = in_word_piece h (length (take_while is_word_byte (drop 1 (drop at source)))) (taken is_word_byte (drop 1 (drop at source))) p e
  by_class Slash h p e = slash_piece h (length (take_while is_not_line_feed (drop 2 (drop at source)))) (taken is_not_line_feed (drop 2 (drop at source))) p e
  by_class White h p e = given (record { len = 1; kind = None }) p (white h) e
  by_class (Single kind) h p e = given (record { len = 1; kind = Some kind }) p (single kind h) e
  by_class Forbidden h p e = cc

  class_here : ClassFacts (class_of (slice_index (drop at source) 0)) (slice_index source at)
  class_here =
      let e : at + 0 ≡ at = omega arith in
      let same : slice_index (drop at source) 0 ≡ slice_index source at = at_rest 0 ∙ ap (λ k. slice_index source k) e in
      subst (λ b. ClassFacts (class_of (slice_index (drop at source) 0)) b) same (class_facts (slice_index (drop at source) 0))

  piece_read : (p : Piece) → piece_of (drop at source) ≡ Some p → IsRead source at (at + p.len) p.kind
  unfolding piece_of
  piece_read p e = by_class (class_of (slice_index (drop at source) 0)) class_here p e

  none_by_class : (class : ByteClass) → ClassFacts class (slice_index source at) → piece_by class (drop at source) ≡ None → is_allowed (slice_index source at) ≡ false
  none_by_class InWord h e = absurd (some_of (has_byte (drop at source) (1 + length (take_while is_word_byte (drop 1 (drop at source)))) 39) _ _ e)
    where
      some_of : (test : Bool) (x y : Piece) → (if test then Some x else Some y) ≡ None → ⊥
      some_of true x y e = cc
      some_of false x y e = cc
  none_by_class Slash h e = absurd (some_of (has_byte (drop at source) 1 47) _ _ e)
    where
      some_of : (test : Bool) (x y : Piece) → (if test then Some x else Some y) ≡ None → ⊥
      some_of true x y e = cc
      some_of false x y e = cc
  none_by_class White h e = cc
  none_by_class (Single kind) h e = cc
  none_by_class Forbidden h e = h

  none_forbidden : piece_of (drop at source) ≡ None → IsForbiddenByte source at
  unfolding piece_of
  none_forbidden e =
      let byte = none_by_class (class_of (slice_index (drop at source) 0)) class_here e in
      record {
        within = in_text;
        byte = byte;
        outside = outside at (omega arith) (λ j low high slash. let same : j ≡ at = omega arith in let a = ap (λ k. slice_index source k) same in let b = ap is_allowed (sym a ∙ slash) in cc);
      }

-- the tokens from a place on
pub record IsCutFrom (source : List ℕ) (at : ℕ) (tokens : List Token) : Type 0 where
  pub each : All (IsTokenOf source) tokens
  pub rising : AreSpansRising at tokens
  pub rest : (k : ℕ) → at ≤ k → k < length source → Any (IsInSpan k) tokens ⊎ IsBetweenTokens source k

-- the first byte from a place on that is not allowed
record IsFirstFrom (source : List ℕ) (at place : ℕ) : Type 0 where
  pub here : IsForbiddenByte source place
  pub first : (k : ℕ) → at ≤ k → k < place → ¬ IsForbiddenByte source k

rising_from : (low high : ℕ) (tokens : List Token) → low ≤ high → AreSpansRising high tokens → AreSpansRising low tokens
rising_from low high [] h rising = tt
rising_from low high (token ∷ tokens) h rising = let a = rising.0 in (omega arith, rising.1)

none_left : (source : List ℕ) (at : ℕ) → length source ≤ at → IsCutFrom source at []
none_left source at h = record { each = λ k d less. absurd (omega arith); rising = tt; rest = λ k low high. absurd (omega arith) }

one_more : (source : List ℕ) (at end : ℕ) (kind : Option TokenKind) (tokens : List Token) → at ≤ end → IsPiece source at end kind → IsCutFrom source end tokens
    → IsCutFrom source at (token_of kind at end ++ tokens)
one_more source at end None tokens h piece cut = record {
  each = cut.each;
  rising = rising_from at end tokens h cut.rising;
  rest = λ k low high. ⊎_elim (λ less. inr (piece k low less)) (λ more. cut.rest k more high) (cases_lt k end);
}
one_more source at end (Some kind) tokens h piece cut = record {
  each = each;
  rising = (omega arith, cut.rising);
  rest = λ k low high. ⊎_elim
      (λ less. inl (0, token, omega arith, refl, (low, less)))
      (λ more. ⊎_elim (λ (any : Any (IsInSpan k) tokens). inl (suc any.0, any.1, let a = any.2 in omega arith, any.3, any.4)) (λ between. inr between) (cut.rest k more high))
      (cases_lt k end);
}
  where
    token : Token
    token = record { kind = kind; span = record { start = at; end = end } }

    each : All (IsTokenOf source) (token ∷ tokens)
    each zero d less = piece
    each (suc k) d less = cut.each k d (omega arith)

behind_piece : (source : List ℕ) (at end : ℕ) (kind : Option TokenKind) → IsRead source at end kind → (read : Result (List Token) ℕ)
    → MatchResult read (IsCutFrom source end) (IsFirstFrom source end) → MatchResult (behind (token_of kind at end) read) (IsCutFrom source at) (IsFirstFrom source at)
behind_piece source at end kind piece (Ok tokens) cut = let some = piece.some in one_more source at end kind tokens (omega arith) piece.piece cut
behind_piece source at end kind piece (Err place) first = record {
  here = first.here;
  first = λ k low high. ⊎_elim (λ less. piece.allowed k low less) (λ more. first.first k more high) (cases_lt k end);
}

at_end : (source : List ℕ) (at : ℕ) → length source ≤ at → MatchResult (tokens_from at 0 (drop at source)) (IsCutFrom source at) (IsFirstFrom source at)
unfolding tokens_from
at_end source at h = subst (λ bytes. MatchResult (tokens_from at 0 bytes) (IsCutFrom source at) (IsFirstFrom source at)) (sym (drop_of_length-le source h)) (none_left source at h)

abbrev Outcome : List ℕ → ℕ → Result (List Token) ℕ → Type 0
Outcome source at read = MatchResult read (IsCutFrom source at) (IsFirstFrom source at)

-- a piece or a byte that is not allowed, and then what stands behind the piece
by_piece : (source : List ℕ) (n at : ℕ) → length source ≤ at + suc n → at < length source → IsBoundary source at
    → ((end : ℕ) → length source ≤ end + n → IsBoundary source end → Outcome source end (tokens_from end 0 (drop end source)))
    → (found : Option Piece) → piece_of (drop at source) ≡ found → Outcome source at (tokens_from at 0 (drop at source))
by_piece source n at h less boundary more None e =
    subst (λ read. Outcome source at read) (sym (at_forbidden at (drop at source) e (omega (arith, length-drop at source))))
    (record { here = none_forbidden source at less boundary e; first = λ k low high. absurd (omega arith) })
by_piece source n at h less boundary more (Some p) e =
    let read = piece_read source at less boundary p e in
    let some = read.some in
    let fits = read.fits in
    let rest : Outcome source (at + p.len) (tokens_from (at + p.len) 0 (drop p.len (drop at source))) =
    subst (λ bytes. Outcome source (at + p.len) (tokens_from (at + p.len) 0 bytes)) (sym (drop-drop p.len at source)) (more (at + p.len) (omega arith) read.next) in
    subst (λ read. Outcome source at read) (sym (at_piece at (drop at source) p e (omega arith) (omega (arith, length-drop at source))))
    (behind_piece source at (at + p.len) p.kind read (tokens_from (at + p.len) 0 (drop p.len (drop at source))) rest)

reads : (source : List ℕ) (n at : ℕ) → length source ≤ at + n → IsBoundary source at → Outcome source at (tokens_from at 0 (drop at source))
reads source zero at h boundary = at_end source at (omega arith)
reads source (suc n) at h boundary =
    ⊎_elim (λ less. by_piece source n at h less boundary (λ end. reads source n end) (piece_of (drop at source)) refl) (λ more. at_end source at more) (cases_lt at (length source))

whole : (source : List ℕ) (read : Result (List Token) ℕ) → Outcome source 0 read → MatchResult read (IsCut source) (IsFirstForbidden source)
whole source (Ok tokens) cut = record { each = cut.each; rising = cut.rising; rest = λ k less. cut.rest k (omega arith) less }
whole source (Err place) first = record { here = first.here; first = λ k less. first.first k (omega arith) less }

pub cut_or_forbidden : (source : List ℕ) → MatchResult (tokens_of source) (IsCut source) (IsFirstForbidden source)
cut_or_forbidden source = whole source (tokens_of source) (reads source (length source) 0 (omega arith) (at_start source))
