-- One token more has its class.
use Rattle.std.proofs.Common.{◌≡◌, ◌+◌, ℕ, List, [], ◌∷◌, ◌++◌, map, take, Some, refl, ap, ◌∙◌}
use Rattle.std.specs.Prelude.{slice_get}
use Rattle.std.proofs.lemmas.List.{take_more}
use Rattle.std.proofs.lemmas.Option.{slice_get_within, get_or_from_slice_get}
use Rattle.sp_lex.specs.declared.lexeme.Token.{Token}
use Rattle.sp_syntax.specs.Classes.{with_class}

map_push : {A B : Type 0} (f : A → B) (xs : List A) (y : A) → map f (xs ++ (y ∷ [])) ≡ map f xs ++ (f y ∷ [])
map_push f [] y = refl
map_push f (x ∷ xs) y = ap (λ z. f x ∷ z) (map_push f xs y)

pub classes_more : (source : List ℕ) (tokens : List Token) (k : ℕ) (t : Token) → slice_get tokens k ≡ Some t → map (with_class source) (take (k + 1) tokens) ≡ map (with_class source) (take k tokens) ++ (with_class source t ∷ [])
classes_more source tokens k t h =
    ap (map (with_class source)) (take_more tokens k t (slice_get_within tokens k t h) ∙ ap (λ x. take k tokens ++ (x ∷ [])) (get_or_from_slice_get tokens k t t h))
    ∙ map_push (with_class source) (take k tokens) t
