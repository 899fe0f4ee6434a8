-- Declarations as they are spelled.
use Rattle.std.proofs.Common.{◌≡◌, ℕ, zero, suc, ◌<◌, List, [], ◌∷◌, ◌++◌, Some, refl, ap, ◌∙◌, length, arith}
use Rattle.std.specs.Prelude.{All}
use Rattle.sp_lex.specs.declared.lexeme.Span.{Span}
use Rattle.sp_syntax.specs.declared.class.Classed.{Classed}
use Rattle.sp_syntax.specs.declared.class.WordClass.{WordClass}
use Rattle.sp_syntax.specs.declared.class.TokenClass.TheVariants as class
use Rattle.sp_syntax.specs.declared.text.Declaration.{Declaration}
use Rattle.sp_syntax.specs.declared.text.Declarations.{Declarations}
use Rattle.sp_syntax.specs.Classes.{text_of, word_class}
use Rattle.sp_syntax.specs.Grammar as grammar
use Rattle.sp_syntax.specs.Grammar.{IsDeclaration, AreDeclarations, IsValue, AreAll}
use Rattle.sp_spelled.specs.Signs.{opens, closes, word, Gap, tight, Spelled, IsWordText, IsSpaced, IsSpelled, AreSpelled}
use Rattle.sp_spelled.specs.Shapes.{sign, spaced_word, group, closed_words, declaration_signs}
use Rattle.sp_spelled.specs.Written.{sign_room, IsBalanced, Written, IsKey, IsNameWord}
use Rattle.sp_spelled.proofs.Written.{written_enclosed}
use Rattle.sp_spelled.proofs.Trees.{spaced_group, balanced_group}

record IsClosed (source : List ℕ) (n : ℕ) (P : List ℕ → List Span → Type 0) (ts : List Classed) : Type 0 where
  pub spans : List Span
  pub inner : List Classed
  pub right : Classed
  pub whole : ts ≡ inner ++ right ∷ []
  pub are : AreAll IsValue spans inner
  pub right_is : IsSpelled source right closes
  pub holds : P source spans
  pub long : length spans ≡ n

-- what is read of a list of words, where it is known what one word more changes
pub record HoldsOf (P : List (List ℕ) → List ℕ → List Span → Type 0) : Type 0 where
  pub nothing : (source : List ℕ) → P [] source []
  pub more : (source : List ℕ) (w : List ℕ) (s : Span) (ws : List (List ℕ)) (spans : List Span) → text_of source s ≡ w → P ws source spans → P (w ∷ ws) source (s ∷ spans)

module _ (P : List (List ℕ) → List ℕ → List Span → Type 0) (holds : HoldsOf P) (g : Gap) where
  read_words : (source : List ℕ) (ws : List (List ℕ)) (ts : List Classed) → AreSpelled source ts (closed_words ws g) → IsClosed source (length ws) (P ws) ts
  read_words source [] [] h = absurd h
  read_words source [] (t ∷ []) h = record { spans = []; inner = []; right = t; whole = refl; are = refl; right_is = h.0; holds = holds.nothing source; long = refl }
  read_words source [] (t ∷ (u ∷ ts)) h = absurd h.1
  read_words source (w ∷ []) [] h = absurd h
  read_words source (w ∷ []) (t ∷ ts) h =
      let more = read_words source [] ts h.1 in
      record {
        spans = t.span ∷ more.spans;
        inner = t ∷ more.inner;
        right = more.right;
        whole = ap (λ l. t ∷ l) more.whole;
        are = (t ∷ [], more.inner, (t, (word_class w, h.0.class), refl, refl), more.are, refl);
        right_is = more.right_is;
        holds = holds.more source w t.span [] more.spans h.0.says more.holds;
        long = ap suc more.long;
      }
  read_words source (w ∷ (v ∷ ws)) [] h = absurd h
  read_words source (w ∷ (v ∷ ws)) (t ∷ ts) h =
      let more = read_words source (v ∷ ws) ts h.1 in
      record {
        spans = t.span ∷ more.spans;
        inner = t ∷ more.inner;
        right = more.right;
        whole = ap (λ l. t ∷ l) more.whole;
        are = (t ∷ [], more.inner, (t, (word_class w, h.0.class), refl, refl), more.are, refl);
        right_is = more.right_is;
        holds = holds.more source w t.span (v ∷ ws) more.spans h.0.says more.holds;
        long = ap suc more.long;
      }

  spaced_words : (ws : List (List ℕ)) → All IsWordText ws → IsSpaced (closed_words ws g)
  spaced_words [] h = (tt, tt, tt)
  spaced_words (w ∷ []) h = (h 0 w (omega arith), tt, (tt, tt, tt))
  spaced_words (w ∷ (v ∷ ws)) h = (h 0 w (omega arith), tt, spaced_words (v ∷ ws) (λ k d l. h (suc k) d (omega arith)))

  room_words : (n : ℕ) (ws : List (List ℕ)) → sign_room n (closed_words ws g) ≡ Some (suc n)
  room_words n [] = refl
  room_words n (w ∷ []) = refl
  room_words n (w ∷ (v ∷ ws)) = room_words n (v ∷ ws)

  -- "(" NAME VALUE+ ")"
  pub written_declaration : (w v : List ℕ) (ws : List (List ℕ)) (Q : List ℕ → Declaration → Type 0) → IsNameWord w → All IsWordText (v ∷ ws)
      → ((source : List ℕ) (left n : Span) (values : List Span) (right : Span) → text_of source n ≡ w → P (v ∷ ws) source values → Q source (record { left = left; name = n; values = values; right = right }))
      → Written IsDeclaration Q 1 (declaration_signs w (v ∷ ws) g)
  written_declaration w v ws Q h values q = record {
    spaced = (tt, tt, (h.text, tt, spaced_words (v ∷ ws) values));
    balanced = λ n l. balanced n l;
    reads = λ source ts s. reads source ts s;
  }
    where
      balanced : IsBalanced 1 (declaration_signs w (v ∷ ws) g)
      balanced zero l = absurd (omega arith)
      balanced (suc n) l = room_words n (v ∷ ws)

      made : (source : List ℕ) (a n : Classed) (ts : List Classed) → IsSpelled source a opens → IsSpelled source n (word w) → IsClosed source (length (v ∷ ws)) (P (v ∷ ws)) ts → AreSpelled source ts (closed_words (v ∷ ws) g)
          → (d : Declaration) × IsDeclaration d (a ∷ n ∷ ts) × Q source d
      made source a n ts ai ni c spelled = go c.spans c.are c.holds c.long
        where
          go : (spans : List Span) → AreAll IsValue spans c.inner → P (v ∷ ws) source spans → length spans ≡ length (v ∷ ws) → (d : Declaration) × IsDeclaration d (a ∷ n ∷ ts) × Q source d
          go [] are holds long = absurd (omega arith)
          go (s ∷ spans) are holds long = (
            record { left = a.span; name = n.span; values = s ∷ spans; right = c.right.span },
            grammar.declaration a n c.right s spans c.inner ai.class (ni.class ∙ ap class.Word h.name) are c.right_is.class refl (ap (λ l. a ∷ n ∷ l) c.whole),
            q source a.span n.span (s ∷ spans) c.right.span ni.says holds,
          )

      reads : (source : List ℕ) (ts : List Classed) → AreSpelled source ts (declaration_signs w (v ∷ ws) g) → (d : Declaration) × IsDeclaration d ts × Q source d
      reads source [] s = absurd s
      reads source (a ∷ []) s = absurd s.1
      reads source (a ∷ (n ∷ ts)) s = made source a n ts s.0 s.1.0 (read_words source (v ∷ ws) ts s.1.1) s.1.1

-- "(" KEYWORD declaration+ ")"
pub written_declarations : (w : List ℕ) (k : WordClass) (us : List Spelled) (g : Gap) (depth : ℕ) (Q : List ℕ → List Declaration → Type 0) (P : List ℕ → Declarations → Type 0) → IsKey w k → Written (AreAll IsDeclaration) Q depth us
    → ((source : List ℕ) (ds : List Declaration) → Q source ds → 0 < length ds)
    → ((source : List ℕ) (left keyword : Span) (ds : List Declaration) (right : Span) → Q source ds → P source (record { left = left; keyword = keyword; declarations = ds; right = right }))
    → Written (AreDeclarations k) P (suc depth) (group w us g)
written_declarations w k us g depth Q P h part some p = written_enclosed (AreAll IsDeclaration) (AreDeclarations k) Q P (sign opens tight) (spaced_word w) us (sign closes g) depth (suc depth) part
    (spaced_group w us g h.text part.spaced) (balanced_group depth w us g part.balanced)
    (λ source left head right ds ts l a r are q. make source left head right ds ts l a r are q)
  where
    make : (source : List ℕ) (left head right : Classed) (ds : List Declaration) (ts : List Classed) → IsSpelled source left opens → IsSpelled source head (word w) → IsSpelled source right closes → AreAll IsDeclaration ds ts → Q source ds
        → (d : Declarations) × AreDeclarations k d (left ∷ head ∷ (ts ++ right ∷ [])) × P source d
    make source left head right [] ts l a r are q = let none = some source [] q in absurd (omega arith)
    make source left head right (d ∷ ds) ts l a r are q = (
      record { left = left.span; keyword = head.span; declarations = d ∷ ds; right = right.span },
      grammar.declarations left head right d ds ts l.class (a.class ∙ ap class.Word h.class) are r.class refl refl,
      p source left.span head.span (d ∷ ds) right.span q,
    )
