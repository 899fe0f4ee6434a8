-- What the grammar says of the words that a model keeps.
use Rattle.std.proofs.Common.{◌≡◌, ◌≢◌, ℕ, zero, suc, ◌+◌, ◌-◌, ◌<◌, ◌≤◌, ◌==◌, ◌||◌, Bool, true, false, List, [], ◌∷◌, ◌++◌, length, get_or, drop, Ok, refl, sym, ap, subst, ◌∙◌, arith}
use Rattle.std.specs.Prelude.{Option, Some, None, All, IsTrue, ◌↔◌, codes, if◌then◌else◌, slice_range}
use Rattle.std.specs.Str.{bytes_eq}
use Rattle.std.specs.Char.{is_ascii_alphabetic}
use Rattle.std.proofs.lemmas.List.Elements.{All-from_recursion}
use Rattle.std.proofs.Common.{length-drop}
use Rattle.std.proofs.lemmas.List.{get_or-take, get_or-drop, length-take-le}
use Rattle.std.proofs.lemmas.Grind.{get_or_default_zero}
use Rattle.sp_lex.specs.declared.lexeme.Span.{Span}
use Rattle.sp_lex.specs.declared.lexeme.Token.{Token}
use Rattle.sp_lex.specs.declared.lexeme.TokenKind.{TokenKind}
use Rattle.sp_lex.specs.declared.lexeme.TokenKind.TheVariants as kind
use Rattle.sp_lex.specs.Places.{IsTokenOf, IsCut, IsWordRun, IsOfKind}
use Rattle.sp_lex.specs.Tokens.{tokens_of}
use Rattle.sp_syntax.specs.declared.class.WordClass.{WordClass}
use Rattle.sp_syntax.specs.declared.class.WordClass.TheVariants as word
use Rattle.sp_syntax.specs.declared.class.TokenClass.{TokenClass}
use Rattle.sp_syntax.specs.declared.class.TokenClass.TheVariants as class
use Rattle.sp_syntax.specs.declared.class.Classed.{Classed}
use Rattle.sp_syntax.specs.declared.text.Declaration.{Declaration}
use Rattle.sp_syntax.specs.declared.text.Declarations.{Declarations}
use Rattle.sp_syntax.specs.declared.text.Section.{Section}
use Rattle.sp_syntax.specs.declared.text.Text.{Text}
use Rattle.sp_syntax.specs.Classes.{section_keyword, inner_keyword, or_else, plain_class, word_class, primed_by, primed_class, mark_by, mark_class, class_by, class_of, with_class, classes, text_of}
use Rattle.sp_syntax.specs.Grammar.{AreAll, IsValue, IsDeclaration, AreDeclarations, IsSection, IsText, declaration, declarations, init, dd, action, reward, discount, horizon, tolerance, text}
use Rattle.sp_model.specs.Words.{IsModelName, IsValueName, BeginsName, is_word_byte, keywords}
use Rattle.sp_declarations.specs.Kept.{HasDeclared}
use Rattle.sp_checks.specs.Source.{HasName, HasWords, IsTextOf}

-- ---- the class of a word
keyword_apart : (w k : List ℕ) (c : WordClass) → word_class k ≡ c → (c ≡ word.Name → ⊥) → word_class w ≡ word.Name → w ≢ k
keyword_apart w k c a apart h e = apart (sym a ∙ ap word_class (sym e) ∙ h)

keywords_apart : (w : List ℕ) → word_class w ≡ word.Name → All (λ k. w ≢ k) keywords
unfolding word_class section_keyword inner_keyword
keywords_apart w h =
    All-from_recursion (λ k. w ≢ k) keywords (keyword_apart w (codes "variables") word.Variables refl (λ e. cc) h, (keyword_apart w (codes "observations") word.Observations refl (λ e. cc) h, (keyword_apart w (codes "init") word.Init refl (λ e. cc) h, (keyword_apart w (codes "dd") word.Dd refl (λ e. cc) h, (keyword_apart w (codes "enddd") word.EndDd refl (λ e. cc) h, (keyword_apart w (codes "action") word.Action refl (λ e. cc) h, (keyword_apart w (codes "endaction") word.EndAction refl (λ e. cc) h, (keyword_apart w (codes "observe") word.Observe refl (λ e. cc) h, (keyword_apart w (codes "endobserve") word.EndObserve refl (λ e. cc) h, (keyword_apart w (codes "cost") word.Cost refl (λ e. cc) h, (keyword_apart w (codes "reward") word.Reward refl (λ e. cc) h, (keyword_apart w (codes "discount") word.Discount refl (λ e. cc) h, (keyword_apart w (codes "horizon") word.Horizon refl (λ e. cc) h, (keyword_apart w (codes "tolerance") word.Tolerance refl (λ e. cc) h, (keyword_apart w (codes "unnormalized") word.Unnormalized refl (λ e. cc) h, tt)))))))))))))))

-- the class of a word among some keywords
keyword_in : List ((List ℕ) × WordClass) → List ℕ → Option WordClass
keyword_in [] w = None
keyword_in (k ∷ ks) w = if bytes_eq w k.0 then Some k.1 else keyword_in ks w

-- no keyword is a name
NoneNamed : List ((List ℕ) × WordClass) → Type 0
NoneNamed [] = Unit {0}
NoneNamed (k ∷ ks) = (k.1 ≡ word.Name → ⊥) × NoneNamed ks

not_named : (ks : List ((List ℕ) × WordClass)) (w : List ℕ) → NoneNamed ks → keyword_in ks w ≡ Some word.Name → ⊥
unfolding keyword_in NoneNamed
not_named [] w n h = cc
not_named (k ∷ ks) w n h = go (bytes_eq w k.0) (not_named ks w n.1) h
  where
    go : (b : Bool) → (keyword_in ks w ≡ Some word.Name → ⊥) → (if b then Some k.1 else keyword_in ks w) ≡ Some word.Name → ⊥
    go true rest h = n.0 (let e : k.1 ≡ word.Name = cc in e)
    go false rest h = rest h

section_words_of : List ((List ℕ) × WordClass)
section_words_of =
    (codes "init", word.Init) ∷ (codes "dd", word.Dd) ∷ (codes "action", word.Action) ∷ (codes "reward", word.Reward) ∷ (codes "discount", word.Discount) ∷ (codes "horizon", word.Horizon)
    ∷ (codes "tolerance", word.Tolerance) ∷ (codes "unnormalized", word.Unnormalized) ∷ []

inner_words_of : List ((List ℕ) × WordClass)
inner_words_of =
    (codes "variables", word.Variables) ∷ (codes "observations", word.Observations) ∷ (codes "enddd", word.EndDd) ∷ (codes "endaction", word.EndAction) ∷ (codes "observe", word.Observe)
    ∷ (codes "endobserve", word.EndObserve) ∷ (codes "cost", word.Cost) ∷ []

no_section_name : (w : List ℕ) → section_keyword w ≡ Some word.Name → ⊥
unfolding section_keyword keyword_in NoneNamed section_words_of
no_section_name w h = not_named section_words_of w ((λ e. cc), ((λ e. cc), ((λ e. cc), ((λ e. cc), ((λ e. cc), ((λ e. cc), ((λ e. cc), ((λ e. cc), tt)))))))) h

no_inner_name : (w : List ℕ) → inner_keyword w ≡ Some word.Name → ⊥
unfolding inner_keyword keyword_in NoneNamed inner_words_of
no_inner_name w h = not_named inner_words_of w ((λ e. cc), ((λ e. cc), ((λ e. cc), ((λ e. cc), ((λ e. cc), ((λ e. cc), ((λ e. cc), tt))))))) h

plain_name : (w : List ℕ) → word_class w ≡ word.Name → plain_class w ≡ word.Name
unfolding word_class
plain_name w h = go (section_keyword w) refl (inner_keyword w) refl h
  where
    go : (a : Option WordClass) → section_keyword w ≡ a → (b : Option WordClass) → inner_keyword w ≡ b → or_else a (or_else b (plain_class w)) ≡ word.Name → plain_class w ≡ word.Name
    go (Some k) e b f h = absurd (no_section_name w (e ∙ ap Some h))
    go None e (Some k) f h = absurd (no_inner_name w (f ∙ ap Some h))
    go None e None f h = h

begins_name : (w : List ℕ) → plain_class w ≡ word.Name → BeginsName w
begins_name [] h = cc
begins_name (b ∷ bs) h = go (is_ascii_alphabetic b || b == 95) (bytes_eq (b ∷ bs) (codes "-")) h
  where
    go : (t u : Bool) → (if t then word.Name else (if u then word.Minus else word.Number)) ≡ word.Name → IsTrue t
    go true u h = refl
    go false true h = cc
    go false false h = cc

-- ---- the kind of a word's token
not_that : (b : Bool) (k rest : TokenClass) (w : WordClass) → (k ≡ class.Word w → ⊥) → (if b then k else rest) ≡ class.Word w → rest ≡ class.Word w
not_that true k rest w apart h = absurd (apart h)
not_that false k rest w apart h = h

mark_no_word : (b : ℕ) (w : WordClass) → mark_by b ≡ class.Word w → ⊥
mark_no_word b w h =
    let a = not_that (b == 43) class.Plus _ w (λ e. cc) h in
    let c = not_that (b == 42) class.Star _ w (λ e. cc) a in
    let d = not_that (b == 35) class.Hash _ w (λ e. cc) c in
    let e = not_that (b == 47) class.Slash _ w (λ e. cc) d in
    cc

marks_no_word : (t : List ℕ) (w : WordClass) → mark_class t ≡ class.Word w → ⊥
unfolding mark_class
marks_no_word [] w h = cc
marks_no_word (b ∷ []) w h = mark_no_word b w h
marks_no_word (b ∷ c ∷ t) w h = cc

primed_no_word : (k w : WordClass) → primed_by k ≡ class.Word w → ⊥
primed_no_word k w h = grind arith

pub record IsWordToken (source : List ℕ) (c : Classed) (w : WordClass) : Type 0 where
  pub run : IsWordRun source c.span.start c.span.end
  pub within : c.span.end ≤ length source
  pub is : word_class (text_of source c.span) ≡ w

word_of_kind : (source : List ℕ) (k : TokenKind) (span : Span) (w : WordClass) → IsOfKind source k span.start span.end → class_by k (text_of source span) ≡ class.Word w → IsWordRun source span.start span.end × (word_class (text_of source span) ≡ w)
unfolding primed_class
word_of_kind source kind.LeftRound span w o h = cc
word_of_kind source kind.RightRound span w o h = cc
word_of_kind source kind.LeftSquare span w o h = cc
word_of_kind source kind.RightSquare span w o h = cc
word_of_kind source kind.Word span w o h = (o.0, cc)
word_of_kind source kind.Primed span w o h = absurd (primed_no_word _ w h)
word_of_kind source kind.Mark span w o h = absurd (marks_no_word _ w h)

-- what is known of a token that was read
pub record IsRead (source : List ℕ) (c : Classed) : Type 0 where
  pub token : Token
  pub of : IsTokenOf source token
  pub is : with_class source token ≡ c

word_token : (source : List ℕ) (c : Classed) (w : WordClass) → IsRead source c → c.class ≡ class.Word w → IsWordToken source c w
unfolding class_of
word_token source c w r h =
    let span : r.token.span ≡ c.span = ap (λ (c : Classed). c.span) r.is in
    let has : class_by r.token.kind (text_of source r.token.span) ≡ class.Word w = ap (λ (c : Classed). c.class) r.is ∙ h in
    let parts = word_of_kind source r.token.kind r.token.span w r.of.kind has in
    record {
      run = subst (λ (s : Span). IsWordRun source s.start s.end) span parts.0;
      within = subst (λ (s : Span). s.end ≤ length source) span r.of.within;
      is = subst (λ (s : Span). word_class (text_of source s) ≡ w) span parts.1;
    }

-- ---- the bytes of a word
is_true : (b : Bool) → b ≡ true → IsTrue b
is_true b h = h

byte_in : (source : List ℕ) (a b k d : ℕ) → k < b - a → get_or (slice_range source a b) k d ≡ get_or source (a + k) d
byte_in source a b k d l = get_or-take (b - a) (drop a source) k d l ∙ get_or-drop a source k d

value_name : (source : List ℕ) (s : Span) → IsWordRun source s.start s.end → s.end ≤ length source → IsValueName (text_of source s)
value_name source s run within =
    let long : length (text_of source s) ≡ s.end - s.start = length-take-le (s.end - s.start) (drop s.start source) (let l = length-drop s.start source in omega arith) in
    record {
      some = let h = run.some in omega arith;
      bytes = λ k d l.
          let small : k < s.end - s.start = omega arith in
          let here : s.start + k < length source = omega arith in
          let is : get_or (text_of source s) k d ≡ get_or source (s.start + k) 0 = byte_in source s.start s.end k d small ∙ get_or_default_zero source (s.start + k) d here in
          is_true _ (ap is_word_byte is ∙ run.bytes (s.start + k) (omega arith) (omega arith));
    }

name_word : (source : List ℕ) (c : Classed) → IsWordToken source c word.Name → IsModelName (text_of source c.span)
name_word source c t =
    record { value = value_name source c.span t.run t.within; begins = begins_name (text_of source c.span) (plain_name (text_of source c.span) t.is); free = keywords_apart (text_of source c.span) t.is }

-- ---- tokens in parts
abbrev pub Every : (Classed → Type 0) → List Classed → Type 0
Every P [] = Unit {0}
Every P (t ∷ ts) = P t × Every P ts

front : (P : Classed → Type 0) (us vs : List Classed) → Every P (us ++ vs) → Every P us
front P [] vs h = tt
front P (u ∷ us) vs h = (h.0, front P us vs h.1)

back : (P : Classed → Type 0) (us vs : List Classed) → Every P (us ++ vs) → Every P vs
back P [] vs h = h
back P (u ∷ us) vs h = back P us vs h.1

-- a list of parts, of each of which something holds
parts_all : {X : Type 0} (source : List ℕ) (IsX : X → List Classed → Type 0) (Q : X → Type 0) → ((x : X) (us : List Classed) → IsX x us → Every (IsRead source) us → Q x)
    → (xs : List X) (ts : List Classed) → AreAll IsX xs ts → Every (IsRead source) ts → All Q xs
parts_all source IsX Q f [] ts h e i d l = absurd (omega arith)
parts_all source IsX Q f (x ∷ xs) ts h e zero d l = f x h.0 h.2 (front (IsRead source) h.0 h.1 (subst (Every (IsRead source)) h.4 e))
parts_all source IsX Q f (x ∷ xs) ts h e (suc i) d l = parts_all source IsX Q f xs h.1 h.3 (back (IsRead source) h.0 h.1 (subst (Every (IsRead source)) h.4 e)) i d (omega arith)

value_word : (source : List ℕ) (s : Span) (ts : List Classed) → IsValue s ts → Every (IsRead source) ts → IsValueName (text_of source s)
value_word source s ts h e =
    let read : IsRead source h.0 = (subst (Every (IsRead source)) h.3 e).0 in
    let t = word_token source h.0 h.1.0 read h.1.1 in
    subst (λ (s : Span). IsValueName (text_of source s)) (sym h.2) (value_name source h.0.span t.run t.within)

declared_words : (source : List ℕ) (x : Declaration) (ts : List Classed) → IsDeclaration x ts → Every (IsRead source) ts → HasDeclared source x
declared_words source x ts (declaration a n b first more us ia in_ iv ib dx tx) e =
    let all : Every (IsRead source) (a ∷ n ∷ (us ++ (b ∷ []))) = subst (Every (IsRead source)) tx e in
    let named = name_word source n (word_token source n word.Name all.1.0 in_) in
    let values = parts_all source IsValue (λ s. IsValueName (text_of source s)) (value_word source) (first ∷ more) us iv (front (IsRead source) us (b ∷ []) all.1.1) in
    subst (HasDeclared source) (sym dx) (record { name = named; some = omega arith; values = values })

pub record HasDeclarations (source : List ℕ) (ds : Declarations) : Type 0 where
  pub some : 0 < length ds.declarations
  pub each : All (HasDeclared source) ds.declarations

declarations_words : (source : List ℕ) (k : WordClass) (x : Declarations) (ts : List Classed) → AreDeclarations k x ts → Every (IsRead source) ts → HasDeclarations source x
declarations_words source k x ts (declarations a w b first more us ia iw id ib dx tx) e =
    let all : Every (IsRead source) (a ∷ w ∷ (us ++ (b ∷ []))) = subst (Every (IsRead source)) tx e in
    subst (HasDeclarations source) (sym dx)
    (record { some = omega arith; each = parts_all source IsDeclaration (HasDeclared source) (declared_words source) (first ∷ more) us id (front (IsRead source) us (b ∷ []) all.1.1) })

section_words : (source : List ℕ) (x : Section) (ts : List Classed) → IsSection x ts → Every (IsRead source) ts → HasName source x
section_words source x ts (init k t us ik it sx tx) e = subst (HasName source) (sym sx) tt
section_words source x ts (dd k n f t us ik in_ it ie sx tx) e = subst (HasName source) (sym sx) tt
section_words source x ts (action k n f items us ik in_ ii ie sx tx) e =
    let all : Every (IsRead source) (k ∷ n ∷ (us ++ (f ∷ []))) = subst (Every (IsRead source)) tx e in
    subst (HasName source) (sym sx) (name_word source n (word_token source n word.Name all.1.0 in_))
section_words source x ts (reward k t us ik it sx tx) e = subst (HasName source) (sym sx) tt
section_words source x ts (discount k w ik iw sx tx) e = subst (HasName source) (sym sx) tt
section_words source x ts (horizon k w ik iw sx tx) e = subst (HasName source) (sym sx) tt
section_words source x ts (tolerance k w ik iw sx tx) e = subst (HasName source) (sym sx) tt

text_words : (source : List ℕ) (x : Text) (ts : List Classed) → IsText x ts → Every (IsRead source) ts → HasWords source x
text_words source x ts (text v o s us vs ws iv io is tx te) e =
    let all : Every (IsRead source) (us ++ (vs ++ ws)) = subst (Every (IsRead source)) te e in
    let rest = back (IsRead source) us (vs ++ ws) all in
    let variables = declarations_words source word.Variables v us iv (front (IsRead source) us (vs ++ ws) all) in
    let sights = declarations_words source word.Observations o vs io (front (IsRead source) vs ws rest) in
    subst (HasWords source) (sym tx)
    (record {
      some_variable = variables.some;
      some_sight = sights.some;
      variables = variables.each;
      sights = sights.each;
      sections = parts_all source IsSection (HasName source) (section_words source) s ws is (back (IsRead source) vs ws rest);
    })

-- each token of a source was read
all_read : (source : List ℕ) (tokens : List Token) → All (IsTokenOf source) tokens → Every (IsRead source) (classes source tokens)
all_read source [] h = tt
all_read source (t ∷ ts) h = (record { token = t; of = h 0 t (omega arith); is = refl }, all_read source ts (λ k d l. h (suc k) d (omega arith)))

pub has_words : (source : List ℕ) (x : Text) → IsTextOf source x → ((list : List Token) → (tokens_of source ≡ Ok list) ↔ IsCut source list) → HasWords source x
has_words source x t law = text_words source x (classes source t.tokens) t.read (all_read source t.tokens ((law t.tokens).0 t.lexed).each)
