-- A fault of the machine is the first place where the text goes wrong.
use Rattle.std.proofs.Common.{◌≡◌, ℕ, List, [], ◌∷◌, ◌++◌, true, false, Option, Some, None, Ok, Err, inl, inr, refl, sym, ap, ◌∙◌, subst, append_assoc, append-nil}
use Rattle.std.specs.Prelude.{IsTrue, ◌⊎◌}
use Rattle.sp_syntax.specs.declared.class.WordClass.TheVariants as word
use Rattle.sp_syntax.specs.declared.class.TokenClass.{TokenClass}
use Rattle.sp_syntax.specs.declared.class.TokenClass.TheVariants as class
use Rattle.sp_syntax.specs.declared.class.Classed.{Classed}
use Rattle.sp_syntax.specs.declared.error.SyntaxKind.{SyntaxKind}
use Rattle.sp_syntax.specs.declared.error.SyntaxKind.TheVariants as kind
use Rattle.sp_syntax.specs.Fault.{Fault}
use Rattle.sp_syntax.specs.Grammar.{InGrammar, IsKeyword}
use Rattle.sp_syntax.specs.Refusal.{leave, room, room_then, is_unsupported_mark, EndsInSquare, IsUnsupported, end_kind, RefusesTokens}
use Rattle.sp_syntax.proofs.Machine.{Sym, AfterSquare, start, step, run, go_on, kind_of, fault}
use Rattle.sp_syntax.proofs.Prefix.{after, after_step, viable, not_viable, whole, not_whole}
use Rattle.sp_syntax.proofs.Squares.{on_top, waits_ends, ends_waits}

after_push : (front : List Classed) (ss new : List Sym) (t : Classed) → after ss front ≡ Some new → after ss (front ++ (t ∷ [])) ≡ after_step (λ n. Some n) (step new t.class)
after_push [] ss new t e = let f : ss ≡ new = cc in ap (λ s. after_step (λ n. Some n) (step s t.class)) f
after_push (u ∷ front) ss new t e = go (step ss u.class) e (λ n e. after_push front n new t e)
  where
    go : (o : Option (List Sym)) → after_step (λ n. after n front) o ≡ Some new → ((n : List Sym) → after n front ≡ Some new → after n (front ++ (t ∷ [])) ≡ after_step (λ n. Some n) (step new t.class))
        → after_step (λ n. after n (front ++ (t ∷ []))) o ≡ after_step (λ n. Some n) (step new t.class)
    go None e k = cc
    go (Some n) e k = k n e

room_push : (front : List Classed) (l m : ℕ) (t : Classed) → room l front ≡ Some m → room l (front ++ (t ∷ [])) ≡ room_then (λ n. Some n) (leave m t.class)
room_push [] l m t e = let f : l ≡ m = cc in ap (λ l. room_then (λ n. Some n) (leave l t.class)) f
room_push (u ∷ front) l m t e = go (leave l u.class) e (λ n e. room_push front n m t e)
  where
    go : (o : Option ℕ) → room_then (λ n. room n front) o ≡ Some m → ((n : ℕ) → room n front ≡ Some m → room n (front ++ (t ∷ [])) ≡ room_then (λ n. Some n) (leave m t.class))
        → room_then (λ n. room n (front ++ (t ∷ []))) o ≡ room_then (λ n. Some n) (leave m t.class)
    go None e k = cc
    go (Some n) e k = k n e

-- ---- the kind at a token that can't stand there

abbrev Kinds : List Classed → Classed → SyntaxKind → Type 0
Kinds front t k = (IsUnsupported front t × (k ≡ kind.Unsupported)) ⊎ ((IsUnsupported front t → ⊥) × (k ≡ kind.Unexpected))

module _ (front : List Classed) (t : Classed) where
  not_square : (new : List Sym) → after start front ≡ Some new → on_top new ≡ false → EndsInSquare front → ⊥
  not_square new e top h = let waits = ends_waits front new e h in let f : true ≡ false = sym waits ∙ top in cc

  plain : (k : SyntaxKind) → k ≡ kind.Unexpected → (IsKeyword word.Unnormalized t → InGrammar front → ⊥) → (IsTrue (is_unsupported_mark t.class) → EndsInSquare front → ⊥) → Kinds front t k
  plain k e no_section no_mark = inr ((λ u. by u), e)
    where
      by : IsUnsupported front t → ⊥
      by (inl h) = no_section h.0 h.1
      by (inr h) = no_mark h.0 h.1

  mark : (c : TokenClass) → t.class ≡ c → IsTrue (is_unsupported_mark c) → EndsInSquare front → Kinds front t kind.Unsupported
  mark c e h square = inl (inr (subst (λ c. IsTrue (is_unsupported_mark c)) (sym e) h, square), refl)

  kinds : (new : List Sym) (c : TokenClass) → t.class ≡ c → after start front ≡ Some new → Kinds front t (kind_of new c)
  kinds [] (class.Word word.Unnormalized) e a = inl (inl (e, whole front a), refl)
  kinds [] _ e a = plain kind.Unexpected refl (λ u h. let f = sym e ∙ u in cc) (λ m. not_square [] a refl)
  kinds (AfterSquare ∷ ss) class.Hash e a = mark class.Hash e refl (waits_ends front (AfterSquare ∷ ss) a refl)
  kinds (AfterSquare ∷ ss) class.Slash e a = mark class.Slash e refl (waits_ends front (AfterSquare ∷ ss) a refl)
  kinds (AfterSquare ∷ ss) (class.Word word.Minus) e a = mark (class.Word word.Minus) e refl (waits_ends front (AfterSquare ∷ ss) a refl)
  kinds (AfterSquare ∷ ss) _ e a = plain kind.Unexpected refl (λ u h. not_whole front AfterSquare ss a h) (λ m h. let f = ap is_unsupported_mark (sym e) ∙ m in cc)
  kinds (s ∷ ss) c e a = plain kind.Unexpected refl (λ u h. not_whole front s ss a h) (λ m. not_square (s ∷ ss) a refl)

-- ---- the refusal

end_of : (front : List Classed) (s : Sym) (new : List Sym) (k : SyntaxKind) → k ≡ kind.Unclosed → (front ≡ [] → ⊥) → k ≡ end_kind front
end_of [] s new k e some = absurd (some refl)
end_of (t ∷ ts) s new k e some = e

push_some : (front ts : List Classed) (t : Classed) → (front ++ (t ∷ [])) ++ ts ≡ [] → ⊥
push_some [] ts t e = cc
push_some (u ∷ us) ts t e = cc

pub stops : (ts front : List Classed) (end l : ℕ) (new : List Sym) (f : Fault) → (front ++ ts ≡ [] → ⊥) → after start front ≡ Some new → room 128 front ≡ Some l → run end l new ts ≡ Err f → RefusesTokens end (front ++ ts) f
stops [] front end l [] f some e r h = cc
stops [] front end l (s ∷ new) f some e r h =
    let g : record { at = end; kind = kind.Unclosed } ≡ f = cc in
    record {
      front = front;
      back = [];
      whole = refl;
      viable = viable front (s ∷ new) e;
      shallow = (l, r);
      stops = (not_whole front s new e, ap (λ f. f.at) (sym g), end_of front s new f.kind (ap (λ f. f.kind) (sym g)) (λ n. some (append-nil front ∙ n)));
    }
stops (t ∷ ts) front end l new f some e r h = by (step new t.class) (leave l t.class) refl refl h (λ n m e r h. stops ts (front ++ (t ∷ [])) end m n f (push_some front ts t) e r h)
  where
    by : (o : Option (List Sym)) (p : Option ℕ) → step new t.class ≡ o → leave l t.class ≡ p → go_on (λ l n. run end l n ts) new t o p ≡ Err f
        → ((n : List Sym) (m : ℕ) → after start (front ++ (t ∷ [])) ≡ Some n → room 128 (front ++ (t ∷ [])) ≡ Some m → run end m n ts ≡ Err f → RefusesTokens end ((front ++ (t ∷ [])) ++ ts) f)
        → RefusesTokens end (front ++ (t ∷ ts)) f
    by None p so room_is h again =
        let g : fault t (kind_of new t.class) ≡ f = cc in
        record {
          front = front;
          back = t ∷ ts;
          whole = refl;
          viable = viable front new e;
          shallow = (l, r);
          stops = inl (not_viable front new t e so, ap (λ f. f.at) (sym g), subst (Kinds front t) (ap (λ f. f.kind) g) (kinds front t new t.class refl e));
        }
    by (Some n) None so room_is h again =
        let g : fault t kind.TooDeep ≡ f = cc in
        record {
          front = front;
          back = t ∷ ts;
          whole = refl;
          viable = viable front new e;
          shallow = (l, r);
          stops = inr (viable (front ++ (t ∷ [])) n (after_push front start new t e ∙ ap (after_step (λ n. Some n)) so), room_push front 128 l t r ∙ ap (room_then (λ n. Some n)) room_is, ap (λ f. f.at) (sym g), ap (λ f. f.kind) (sym g));
        }
    by (Some n) (Some m) so room_is h again =
        subst (λ ts. RefusesTokens end ts f) (append_assoc front (t ∷ []) ts)
        (again n m (after_push front start new t e ∙ ap (after_step (λ n. Some n)) so) (room_push front 128 l t r ∙ ap (room_then (λ n. Some n)) room_is) h)

-- the machine's fault is the refusal
pub refused : (t : Classed) (ts : List Classed) (end : ℕ) (f : Fault) → run end 128 start (t ∷ ts) ≡ Err f → RefusesTokens end (t ∷ ts) f
refused t ts end f h = stops (t ∷ ts) [] end 128 start f (λ e. cc) refl refl h

-- no tokens at all
pub nothing_refused : (end : ℕ) → RefusesTokens end [] (record { at = end; kind = kind.Unexpected })
nothing_refused end = record { front = []; back = []; whole = refl; viable = viable [] start refl; shallow = (128, refl); stops = (not_whole [] _ _ refl, refl, refl) }

-- where the machine goes through, no bracket is one too many
pub room_left : (ts : List Classed) (end l : ℕ) (ss : List Sym) → run end l ss ts ≡ Ok tt → (n : ℕ) × (room l ts ≡ Some n)
room_left [] end l ss h = (l, refl)
room_left (t ∷ ts) end l ss h = by (step ss t.class) (leave l t.class) h (λ n m h. room_left ts end m n h)
  where
    by : (o : Option (List Sym)) (p : Option ℕ) → go_on (λ l n. run end l n ts) ss t o p ≡ Ok tt → ((n : List Sym) (m : ℕ) → run end m n ts ≡ Ok tt → (k : ℕ) × (room m ts ≡ Some k)) → (k : ℕ) × (room_then (λ m. room m ts) p ≡ Some k)
    by None p h k = cc
    by (Some n) None h k = cc
    by (Some n) (Some m) h k = k n m h
