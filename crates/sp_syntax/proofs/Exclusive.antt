-- A refused text is none: its tokens are not in the grammar, or a bracket is one too many.
use Rattle.std.proofs.Common.{◌≡◌, ℕ, List, [], ◌∷◌, ◌++◌, Option, Some, None, inl, inr, refl, sym, ap, ◌∙◌, subst, append_assoc, append-nil}
use Rattle.sp_syntax.specs.declared.class.Classed.{Classed}
use Rattle.sp_syntax.specs.Fault.{Fault}
use Rattle.sp_syntax.specs.Grammar.{InGrammar}
use Rattle.sp_syntax.specs.Refusal.{leave, room, room_then, IsShallow, StopsAt, RefusesTokens}

no_room : (us vs : List Classed) (l : ℕ) → room l us ≡ None → room l (us ++ vs) ≡ None
no_room [] vs l e = cc
no_room (u ∷ us) vs l e = by (leave l u.class) e (λ n e. no_room us vs n e)
  where
    by : (o : Option ℕ) → room_then (λ m. room m us) o ≡ None → ((n : ℕ) → room n us ≡ None → room n (us ++ vs) ≡ None) → room_then (λ m. room m (us ++ vs)) o ≡ None
    by None e k = refl
    by (Some n) e k = k n e

stopped : (end : ℕ) (front back : List Classed) (f : Fault) → StopsAt end front back f → InGrammar (front ++ back) → IsShallow (front ++ back) → ⊥
stopped end front [] f h is shallow = h.0 (subst InGrammar (append-nil front) is)
stopped end front (t ∷ back) f (inl h) is shallow = h.0 (back, subst InGrammar (sym (append_assoc front (t ∷ []) back)) is)
stopped end front (t ∷ back) f (inr h) is (n, e) =
    let none = no_room (front ++ (t ∷ [])) back 128 h.1 in
    let same = ap (room 128) (append_assoc front (t ∷ []) back) in
    let clash : None ≡ Some n = sym none ∙ same ∙ e in cc

pub refused_is_none : (end : ℕ) (ts : List Classed) (f : Fault) → RefusesTokens end ts f → InGrammar ts → IsShallow ts → ⊥
refused_is_none end ts f r is shallow = stopped end r.front r.back f r.stops (subst InGrammar r.whole is) (subst IsShallow r.whole shallow)
