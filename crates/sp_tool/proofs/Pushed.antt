-- What holds of the images of two items that were pushed to an empty list, one after the other.
use Rattle.std.proofs.Common.{◌≡◌, ◌∷◌, [], List, map, ◌++◌}
use mathlib.Core.Path.{ap, ◌∙◌}

pub images_of_two : {A B : Type 0} (f : A → B) {none one two : List A} {a b : A} {x y : B}
    → none ≡ [] → one ≡ none ++ (a ∷ []) → two ≡ one ++ (b ∷ []) → f a ≡ x → f b ≡ y → map f two ≡ x ∷ y ∷ []
images_of_two f {none} {one} {two} {a} {b} {x} {y} isNone isOne isTwo isX isY =
    ap (map f) (isTwo ∙ ap (λ l. l ++ (b ∷ [])) (isOne ∙ ap (λ l. l ++ (a ∷ [])) isNone)) ∙ (ap (λ z. z ∷ f b ∷ []) isX ∙ ap (λ z. x ∷ z ∷ []) isY)
