-- A text has one list of tokens.
use Rattle.std.proofs.Common.{◌≡◌, ◌≢◌, ◌↔◌, ℕ, zero, suc, ◌+◌, ◌-◌, ◌<◌, ◌≤◌, ◌⊎◌, inl, inr, true, false, List, [], ◌∷◌, length, Result, Ok, Err, refl, sym, ap, ◌∙◌, subst, ⊎_elim, arith}
use Rattle.std.specs.Prelude.{MatchResult, All, Any, slice_index, slice_index_or}
use Rattle.std.proofs.lemmas.Bool.{cases_lt}
use Rattle.sp_lex.specs.declared.lexeme.TokenKind.{TokenKind}
use Rattle.sp_lex.specs.declared.lexeme.TokenKind.TheVariants.{LeftRound, RightRound, LeftSquare, RightSquare, Word, Primed, Mark}
use Rattle.sp_lex.specs.declared.lexeme.Token.{Token}
use Rattle.sp_lex.specs.Bytes.{is_word_byte, is_white}
use Rattle.sp_lex.specs.Tokens.{tokens_of}
use Rattle.sp_lex.specs.Places.{is_allowed, IsForbiddenByte, IsFirstForbidden, IsBetweenTokens, IsWordRun, IsOfKind, IsTokenOf, IsInSpan, AreSpansRising, IsCut}
use Rattle.sp_lex.proofs.Classes.{word_byte_allowed, white_allowed, mark_allowed, mark_not_word, mark_not_white, word_byte_not_white, kind_of_byte, mark_kind}
use Rattle.sp_lex.proofs.Places.{IsCutFrom, cut_or_forbidden}

-- a token of one byte
record IsSingle (source : List ℕ) (kind : TokenKind) (start end : ℕ) : Type 0 where
  pub no_word : is_word_byte (slice_index source start) ≡ false
  pub not_white : is_white (slice_index source start) ≡ false
  pub allowed : is_allowed (slice_index source start) ≡ true
  pub is_kind : kind_of_byte (slice_index source start) ≡ kind
  pub one : end ≡ start + 1

-- a word, primed or not
record IsSomeWord (source : List ℕ) (kind : TokenKind) (start end : ℕ) : Type 0 where
  pub word_end : ℕ
  pub run : IsWordRun source start word_end
  pub quote : ((kind ≡ Word) × (slice_index source word_end ≢ 39) × (end ≡ word_end)) ⊎ ((kind ≡ Primed) × (slice_index source word_end ≡ 39) × (end ≡ word_end + 1))

of_byte : (source : List ℕ) (kind : TokenKind) (start end b : ℕ) → is_word_byte b ≡ false → is_white b ≡ false → is_allowed b ≡ true → kind_of_byte b ≡ kind
    → slice_index source start ≡ b → end ≡ start + 1 → IsSingle source kind start end
of_byte source kind start end b no_word not_white allowed is_kind e one = record {
  no_word = ap is_word_byte e ∙ no_word;
  not_white = ap is_white e ∙ not_white;
  allowed = ap is_allowed e ∙ allowed;
  is_kind = ap kind_of_byte e ∙ is_kind;
  one = one;
}

sort_of : (source : List ℕ) (kind : TokenKind) (start end : ℕ) → start < end → IsOfKind source kind start end → IsSingle source kind start end ⊎ IsSomeWord source kind start end
sort_of source LeftRound start end h is = inl (of_byte source LeftRound start end 40 refl refl refl refl is.0 is.1)
sort_of source RightRound start end h is = inl (of_byte source RightRound start end 41 refl refl refl refl is.0 is.1)
sort_of source LeftSquare start end h is = inl (of_byte source LeftSquare start end 91 refl refl refl refl is.0 is.1)
sort_of source RightSquare start end h is = inl (of_byte source RightSquare start end 93 refl refl refl refl is.0 is.1)
sort_of source Mark start end h is =
    let b : ℕ = slice_index source start in
    inl (of_byte source Mark start end (slice_index source start) (mark_not_word (slice_index source start) is.0) (mark_not_white (slice_index source start) is.0)
    (mark_allowed (slice_index source start) is.0) (mark_kind (slice_index source start) is.0) refl is.1)
sort_of source Word start end h is = inr (record { word_end = end; run = is.0; quote = inl (refl, is.1, refl) })
sort_of source Primed start end h is = inr (record { word_end = end - 1; run = is.0; quote = inr (refl, is.1, omega arith) })

module _ (source : List ℕ) where
  run_ends : (start low high : ℕ) → IsWordRun source start low → IsWordRun source start high → low < high → ⊥
  run_ends start low high short long less = let some = short.some in let a = long.bytes low (omega arith) less in let b = short.ends in cc

  one_run : (start low high : ℕ) → IsWordRun source start low → IsWordRun source start high → low ≡ high
  one_run start low high a b =
      ⊎_elim (λ less. absurd (run_ends start low high a b less))
      (λ not_less. ⊎_elim (λ greater. absurd (run_ends start high low b a greater)) (λ not_greater. omega arith) (cases_lt high low)) (cases_lt low high)

  same_words : (kind kind' : TokenKind) (start end end' : ℕ) → IsSomeWord source kind start end → IsSomeWord source kind' start end' → (kind ≡ kind') × (end ≡ end')
  same_words kind kind' start end end' a b =
      let e : a.word_end ≡ b.word_end = one_run start a.word_end b.word_end a.run b.run in
      let f = ap (λ k. slice_index source k) e in
      ⊎_elim
      (λ (p : (kind ≡ Word) × (slice_index source a.word_end ≢ 39) × (end ≡ a.word_end)). ⊎_elim
      (λ (q : (kind' ≡ Word) × (slice_index source b.word_end ≢ 39) × (end' ≡ b.word_end)). (p.0 ∙ sym q.0, p.2 ∙ e ∙ sym q.2))
      (λ (q : (kind' ≡ Primed) × (slice_index source b.word_end ≡ 39) × (end' ≡ b.word_end + 1)). absurd (p.1 (f ∙ q.1))) b.quote)
      (λ (p : (kind ≡ Primed) × (slice_index source a.word_end ≡ 39) × (end ≡ a.word_end + 1)). ⊎_elim
      (λ (q : (kind' ≡ Word) × (slice_index source b.word_end ≢ 39) × (end' ≡ b.word_end)). absurd (q.1 (sym f ∙ p.1)))
      (λ (q : (kind' ≡ Primed) × (slice_index source b.word_end ≡ 39) × (end' ≡ b.word_end + 1)). (p.0 ∙ sym q.0, p.2 ∙ ap (λ k. k + 1) e ∙ sym q.2)) b.quote)
      a.quote

  word_first : (kind : TokenKind) (start end : ℕ) → IsSomeWord source kind start end → is_word_byte (slice_index source start) ≡ true
  word_first kind start end word = let some = word.run.some in word.run.bytes start (omega arith) (omega arith)

  same_kind : (kind kind' : TokenKind) (start end end' : ℕ) → start < end → start < end' → IsOfKind source kind start end → IsOfKind source kind' start end' → (kind ≡ kind') × (end ≡ end')
  same_kind kind kind' start end end' h h' is is' =
      ⊎_elim
      (λ (a : IsSingle source kind start end). ⊎_elim
      (λ (b : IsSingle source kind' start end'). (sym a.is_kind ∙ b.is_kind, a.one ∙ sym b.one))
      (λ (b : IsSomeWord source kind' start end'). let p = a.no_word in let q = word_first kind' start end' b in cc) (sort_of source kind' start end' h' is'))
      (λ (a : IsSomeWord source kind start end). ⊎_elim
      (λ (b : IsSingle source kind' start end'). let p = b.no_word in let q = word_first kind start end a in cc)
      (λ (b : IsSomeWord source kind' start end'). same_words kind kind' start end end' a b) (sort_of source kind' start end' h' is'))
      (sort_of source kind start end h is)

  not_between : (token : Token) → IsTokenOf source token → ¬ IsBetweenTokens source token.span.start
  not_between token is between =
      let some = is.some in
      ⊎_elim
      (λ (white : is_white (slice_index source token.span.start) ≡ true). ⊎_elim
      (λ (a : IsSingle source token.kind token.span.start token.span.end). let p = a.not_white in cc)
      (λ (a : IsSomeWord source token.kind token.span.start token.span.end).
      let p = word_byte_not_white (slice_index source token.span.start) (word_first token.kind token.span.start token.span.end a) in cc)
      (sort_of source token.kind token.span.start token.span.end is.some is.kind))
      (λ comment. is.outside token.span.start (omega arith) (omega arith) comment) between

  token_allowed : (token : Token) (k : ℕ) → IsTokenOf source token → IsInSpan k token → is_allowed (slice_index source k) ≡ true
  token_allowed token k is here =
      let low = here.0 in
      let high = here.1 in
      ⊎_elim
      (λ (a : IsSingle source token.kind token.span.start token.span.end).
      let one = a.one in
      let e : k ≡ token.span.start = omega arith in ap (λ k. is_allowed (slice_index source k)) e ∙ a.allowed)
      (λ (a : IsSomeWord source token.kind token.span.start token.span.end). ⊎_elim
      (λ less. word_byte_allowed (slice_index source k) (a.run.bytes k low less))
      (λ more. ⊎_elim
      (λ (p : (token.kind ≡ Word) × (slice_index source a.word_end ≢ 39) × (token.span.end ≡ a.word_end)). let end = p.2 in absurd (omega arith))
      (λ (p : (token.kind ≡ Primed) × (slice_index source a.word_end ≡ 39) × (token.span.end ≡ a.word_end + 1)).
      let end = p.2 in
      let e : k ≡ a.word_end = omega arith in ap (λ k. is_allowed (slice_index source k)) e ∙ ap is_allowed p.1) a.quote)
      (cases_lt k a.word_end))
      (sort_of source token.kind token.span.start token.span.end is.some is.kind)

  first_token : (token : Token) (tokens : List Token) → All (IsTokenOf source) (token ∷ tokens) → IsTokenOf source token
  first_token token tokens each = each zero token (omega arith)

  more_tokens : (token : Token) (tokens : List Token) → All (IsTokenOf source) (token ∷ tokens) → All (IsTokenOf source) tokens
  more_tokens token tokens each k d h = each (suc k) d (omega arith)

  -- a place in the span of some token is in the first one's, or in that of a later one
  first_or_later : (token : Token) (tokens : List Token) (k i : ℕ) (x : Token) → i < length (token ∷ tokens) → slice_index_or (token ∷ tokens) i x ≡ x → IsInSpan k x
      → IsInSpan k token ⊎ Any (IsInSpan k) tokens
  first_or_later token tokens k zero x h e here = inl (subst (λ x. IsInSpan k x) (sym e) here)
  first_or_later token tokens k (suc i) x h e here = inr (i, x, omega arith, e, here)

  -- what lies in the span of a token lies behind the place from which the tokens rise
  in_span_behind : (tokens : List Token) (from k : ℕ) → All (IsTokenOf source) tokens → AreSpansRising from tokens → Any (IsInSpan k) tokens → from ≤ k
  in_span_behind [] from k each rising any = let none = any.2 in absurd (omega arith)
  in_span_behind (token ∷ tokens) from k each rising any =
      let some = (first_token token tokens each).some in
      let low = rising.0 in
      ⊎_elim (λ (here : IsInSpan k token). let a = here.0 in omega arith)
      (λ later. let a = in_span_behind tokens token.span.end k (more_tokens token tokens each) rising.1 later in omega arith)
      (first_or_later token tokens k any.0 any.1 any.2 any.3 any.4)

  behind_first : (token : Token) (tokens : List Token) (at : ℕ) → IsCutFrom source at (token ∷ tokens) → IsCutFrom source token.span.end tokens
  behind_first token tokens at cut = record {
    each = more_tokens token tokens cut.each;
    rising = cut.rising.1;
    rest = λ k low high.
        let some = (first_token token tokens cut.each).some in
        let start = cut.rising.0 in
        ⊎_elim
        (λ (any : Any (IsInSpan k) (token ∷ tokens)). ⊎_elim (λ (here : IsInSpan k token). let end = here.1 in absurd (omega arith)) (λ later. inl later)
        (first_or_later token tokens k any.0 any.1 any.2 any.3 any.4))
        (λ between. inr between) (cut.rest k (omega arith) high);
  }

  -- no token begins where the tokens of another list have only what stands between them
  not_before : (token : Token) (tokens : List Token) (at from : ℕ) → IsTokenOf source token → IsCutFrom source at tokens → at ≤ token.span.start → AreSpansRising from tokens → from ≤ token.span.start
  not_before token tokens at from is cut low rising =
      let some = is.some in
      let within = is.within in
      ⊎_elim (λ any. in_span_behind tokens from token.span.start cut.each rising any) (λ between. absurd (not_between token is between)) (cut.rest token.span.start low (omega arith))

  same_token : (x y : Token) → x.span.start ≡ y.span.start → IsTokenOf source x → IsTokenOf source y → x ≡ y
  same_token x y start a b =
      let some : x.span.start < y.span.end = let h = b.some in omega arith in
      let is : IsOfKind source y.kind x.span.start y.span.end = subst (λ k. IsOfKind source y.kind k y.span.end) (sym start) b.kind in
      let same = same_kind x.kind y.kind x.span.start x.span.end y.span.end a.some some a.kind is in
      λ i. record { kind = same.0 i; span = record { start = start i; end = same.1 i } }

  one_cut : (xs ys : List Token) (at : ℕ) → IsCutFrom source at xs → IsCutFrom source at ys → xs ≡ ys
  one_cut [] [] at a b = refl
  one_cut [] (y ∷ ys) at a b =
      let is = first_token y ys b.each in
      let some = is.some in
      let within = is.within in
      ⊎_elim (λ (any : Any (IsInSpan y.span.start) []). let none = any.2 in absurd (omega arith)) (λ between. absurd (not_between y is between)) (a.rest y.span.start b.rising.0 (omega arith))
  one_cut (x ∷ xs) [] at a b =
      let is = first_token x xs a.each in
      let some = is.some in
      let within = is.within in
      ⊎_elim (λ (any : Any (IsInSpan x.span.start) []). let none = any.2 in absurd (omega arith)) (λ between. absurd (not_between x is between)) (b.rest x.span.start a.rising.0 (omega arith))
  one_cut (x ∷ xs) (y ∷ ys) at a b =
      let low : y.span.start ≤ x.span.start = not_before x (y ∷ ys) at y.span.start (first_token x xs a.each) b a.rising.0 (omega arith, b.rising.1) in
      let high : x.span.start ≤ y.span.start = not_before y (x ∷ xs) at x.span.start (first_token y ys b.each) a b.rising.0 (omega arith, a.rising.1) in
      let same : x ≡ y = same_token x y (omega arith) (first_token x xs a.each) (first_token y ys b.each) in
      let rest : xs ≡ ys = one_cut xs ys x.span.end (behind_first x xs at a) (subst (λ (t : Token). IsCutFrom source t.span.end ys) (sym same) (behind_first y ys at b)) in
      λ i. same i ∷ rest i

  none_forbidden : (list : List Token) → IsCut source list → (k : ℕ) → ¬ IsForbiddenByte source k
  none_forbidden list cut k forbidden =
      let no = forbidden.byte in
      ⊎_elim
      (λ (any : Any (IsInSpan k) list).
      let is = subst (λ x. IsTokenOf source x) any.3 (cut.each any.0 any.1 any.2) in let a = token_allowed any.1 k is any.4 in cc)
      (λ between. ⊎_elim (λ (white : is_white (slice_index source k) ≡ true). let a = white_allowed (slice_index source k) white in cc) (λ comment. forbidden.outside comment) between)
      (cut.rest k forbidden.within)

  from_start : (list : List Token) → IsCut source list → IsCutFrom source 0 list
  from_start list cut = record { each = cut.each; rising = cut.rising; rest = λ k low high. cut.rest k high }

  known : (read : Result (List Token) ℕ) → tokens_of source ≡ read → MatchResult read (IsCut source) (IsFirstForbidden source)
  known read e = subst (λ read. MatchResult read (IsCut source) (IsFirstForbidden source)) e (cut_or_forbidden source)

  tokens_of_cut : (list : List Token) → IsCut source list → (read : Result (List Token) ℕ) → tokens_of source ≡ read → tokens_of source ≡ Ok list
  tokens_of_cut list cut (Ok tokens) e = e ∙ ap (λ z. Ok z) (one_cut tokens list 0 (from_start tokens (known (Ok tokens) e)) (from_start list cut))
  tokens_of_cut list cut (Err place) e = let first = known (Err place) e in absurd (none_forbidden list cut place first.here)

  err_of_forbidden : (place : ℕ) → IsFirstForbidden source place → (read : Result (List Token) ℕ) → tokens_of source ≡ read → tokens_of source ≡ Err place
  err_of_forbidden place first (Ok tokens) e = absurd (none_forbidden tokens (known (Ok tokens) e) place first.here)
  err_of_forbidden place first (Err other) e =
      let found = known (Err other) e in
      let same : other ≡ place =
      ⊎_elim (λ less. absurd (first.first other less found.here))
      (λ not_less. ⊎_elim (λ greater. absurd (found.first place greater first.here)) (λ not_greater. omega arith) (cases_lt place other)) (cases_lt other place) in
      e ∙ ap (λ z. Err z) same

pub cut_alone : (source : List ℕ) (list : List Token) → (tokens_of source ≡ Ok list) ↔ IsCut source list
cut_alone source list = (λ e. known source (Ok list) e, λ cut. tokens_of_cut source list cut (tokens_of source) refl)

pub forbidden_alone : (source : List ℕ) (place : ℕ) → (tokens_of source ≡ Err place) ↔ IsFirstForbidden source place
forbidden_alone source place = (λ e. known source (Err place) e, λ first. err_of_forbidden source place first (tokens_of source) refl)
