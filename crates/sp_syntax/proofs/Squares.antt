-- The machine is behind a square bracket exactly where that is the last token.
use Rattle.std.proofs.Common.{◌≡◌, List, [], ◌∷◌, ◌++◌, Bool, true, false, Option, Some, None, refl, sym, ap, ◌∙◌, subst}
use Rattle.std.specs.Prelude.{IfSome, ◌&&◌, not}
use Rattle.sp_syntax.specs.declared.class.WordClass.TheVariants as word
use Rattle.sp_syntax.specs.declared.class.TokenClass.{TokenClass}
use Rattle.sp_syntax.specs.declared.class.TokenClass.TheVariants as class
use Rattle.sp_syntax.specs.declared.class.Classed.{Classed}
use Rattle.sp_syntax.specs.Reading.{is_open, is_close, is_right_square, is_word, is_name, is_variables, is_observations, is_end_dd, is_end_action, is_end_observe}
use Rattle.sp_syntax.specs.Refusal.{EndsInSquare}
use Rattle.sp_syntax.proofs.Machine.{Sym, AnOpen, AClose, AName, AWord, AVariables, AnObservations, AnEndDd, ATree, AfterOpen, AfterSquare, MoreTrees, ABranch, MoreBranches, ADeclaration, MoreDeclarations, MoreValues, AnObserved, MoreObserved, AnItem, MoreItems, onto, only_where, or_more, in_tree, in_round, in_square, in_branch, in_declaration, in_observed, in_item, in_section, expand, step, start}
use Rattle.sp_syntax.proofs.Tokens.{open_means, close_means, right_square_means, word_means, name_means, variables_means, observations_means, end_dd_means, end_action_means, end_observe_means}
use Rattle.sp_syntax.proofs.Prefix.{after, after_step}

abbrev pub is_after_square : Sym → Bool
is_after_square AfterSquare = true
is_after_square _ = false

abbrev pub on_top : List Sym → Bool
on_top [] = false
on_top (s ∷ ss) = is_after_square s

abbrev clean : List Sym → Bool
clean [] = true
clean (s ∷ ss) = not (is_after_square s) && clean ss

abbrev clean_below : List Sym → Bool
clean_below [] = true
clean_below (s ∷ ss) = clean ss

abbrev pub is_left_square : TokenClass → Bool
is_left_square class.LeftSquare = true
is_left_square _ = false

-- what a step leaves, over what is below
abbrev Keeps : TokenClass → List Sym → Type 0
Keeps c new = (clean_below new ≡ true) × (on_top new ≡ is_left_square c)

both : (a b : Bool) → a && b ≡ true → (a ≡ true) × (b ≡ true)
both true b h = (refl, h)
both false b h = cc

clean-append : (xs ys : List Sym) → clean xs ≡ true → clean ys ≡ true → clean (xs ++ ys) ≡ true
clean-append [] ys h k = k
clean-append (x ∷ xs) ys h k = let p = both (not (is_after_square x)) (clean xs) h in subst (λ b. b && clean (xs ++ ys) ≡ true) (sym p.0) (clean-append xs ys p.1 k)

top_clean : (ss : List Sym) → clean ss ≡ true → (clean_below ss ≡ true) × (on_top ss ≡ false)
top_clean [] h = (refl, refl)
top_clean (AfterSquare ∷ ss) h = cc
top_clean (_ ∷ ss) h = (h, refl)

over : (c : TokenClass) (new ss : List Sym) → Keeps c new → clean ss ≡ true → Keeps c (new ++ ss)
over c [] ss h k = let p = top_clean ss k in (p.0, p.1 ∙ h.1)
over c (n ∷ ns) ss h k = (clean-append ns ss h.0 k, h.1)

abbrev IfKeeps : Option (List Sym) → TokenClass → Type 0
IfKeeps o c = IfSome o (Keeps c)

one_keeps : (fits : Bool) (c : TokenClass) → (fits ≡ true → is_left_square c ≡ false) → IfKeeps (only_where fits) c
one_keeps true c h = (refl, sym (h refl))
one_keeps false c h = tt

many_keeps : (ends : Bool) (l : Sym) (o : Option (List Sym)) (c : TokenClass) → clean (l ∷ []) ≡ true → (ends ≡ true → is_left_square c ≡ false) → IfKeeps o c → IfKeeps (or_more ends l o) c
many_keeps true l o c k h p = (refl, sym (h refl))
many_keeps false l None c k h p = tt
many_keeps false l (Some new) c k h p = over c new (l ∷ []) p k

tree_keeps : (c : TokenClass) → IfKeeps (in_tree c) c
tree_keeps class.Open = (refl, refl)
tree_keeps class.LeftSquare = (refl, refl)
tree_keeps _ = tt

round_keeps : (c : TokenClass) → IfKeeps (in_round c) c
round_keeps (class.Word word.Number) = (refl, refl)
round_keeps (class.Word word.Minus) = (refl, refl)
round_keeps (class.Word word.Name) = (refl, refl)
round_keeps class.Primed = (refl, refl)
round_keeps _ = tt

square_keeps : (c : TokenClass) → IfKeeps (in_square c) c
square_keeps class.Plus = (refl, refl)
square_keeps class.Star = (refl, refl)
square_keeps _ = tt

branch_keeps : (c : TokenClass) → IfKeeps (in_branch c) c
branch_keeps class.Open = (refl, refl)
branch_keeps _ = tt

declaration_keeps : (c : TokenClass) → IfKeeps (in_declaration c) c
declaration_keeps class.Open = (refl, refl)
declaration_keeps _ = tt

observed_keeps : (c : TokenClass) → IfKeeps (in_observed c) c
observed_keeps (class.Word word.Name) = (refl, refl)
observed_keeps _ = tt

item_keeps : (c : TokenClass) → IfKeeps (in_item c) c
item_keeps (class.Word word.Name) = (refl, refl)
item_keeps (class.Word word.Observe) = (refl, refl)
item_keeps (class.Word word.Cost) = (refl, refl)
item_keeps _ = tt

section_keeps : (c : TokenClass) → IfKeeps (in_section c) c
section_keeps (class.Word word.Init) = (refl, refl)
section_keeps (class.Word word.Dd) = (refl, refl)
section_keeps (class.Word word.Action) = (refl, refl)
section_keeps (class.Word word.Reward) = (refl, refl)
section_keeps (class.Word word.Discount) = (refl, refl)
section_keeps (class.Word word.Horizon) = (refl, refl)
section_keeps (class.Word word.Tolerance) = (refl, refl)
section_keeps _ = tt

word_apart : (c : TokenClass) → is_word (Some c) ≡ true → is_left_square c ≡ false
word_apart c e = ap is_left_square (word_means c e).1

close_apart : (c : TokenClass) → is_close (Some c) ≡ true → is_left_square c ≡ false
close_apart c e = ap is_left_square (close_means c e)

keeps : (s : Sym) (c : TokenClass) → IfKeeps (expand s c) c
keeps AnOpen c = one_keeps (is_open (Some c)) c (λ e. ap is_left_square (open_means c e))
keeps AClose c = one_keeps (is_close (Some c)) c (close_apart c)
keeps AName c = one_keeps (is_name (Some c)) c (λ e. ap is_left_square (name_means c e))
keeps AWord c = one_keeps (is_word (Some c)) c (word_apart c)
keeps AVariables c = one_keeps (is_variables (Some c)) c (λ e. ap is_left_square (variables_means c e))
keeps AnObservations c = one_keeps (is_observations (Some c)) c (λ e. ap is_left_square (observations_means c e))
keeps AnEndDd c = one_keeps (is_end_dd (Some c)) c (λ e. ap is_left_square (end_dd_means c e))
keeps ATree c = tree_keeps c
keeps AfterOpen c = round_keeps c
keeps AfterSquare c = square_keeps c
keeps MoreTrees c = many_keeps (is_right_square (Some c)) MoreTrees (in_tree c) c refl (λ e. ap is_left_square (right_square_means c e)) (tree_keeps c)
keeps ABranch c = branch_keeps c
keeps MoreBranches c = many_keeps (is_close (Some c)) MoreBranches (in_branch c) c refl (close_apart c) (branch_keeps c)
keeps ADeclaration c = declaration_keeps c
keeps MoreDeclarations c = many_keeps (is_close (Some c)) MoreDeclarations (in_declaration c) c refl (close_apart c) (declaration_keeps c)
keeps MoreValues c = many_keeps (is_close (Some c)) MoreValues (only_where (is_word (Some c))) c refl (close_apart c) (one_keeps (is_word (Some c)) c (word_apart c))
keeps AnObserved c = observed_keeps c
keeps MoreObserved c = many_keeps (is_end_observe (Some c)) MoreObserved (in_observed c) c refl (λ e. ap is_left_square (end_observe_means c e)) (observed_keeps c)
keeps AnItem c = item_keeps c
keeps MoreItems c = many_keeps (is_end_action (Some c)) MoreItems (in_item c) c refl (λ e. ap is_left_square (end_action_means c e)) (item_keeps c)

keeps_onto : (c : TokenClass) (o : Option (List Sym)) (ss : List Sym) → IfKeeps o c → clean ss ≡ true → IfKeeps (onto ss o) c
keeps_onto c None ss h k = tt
keeps_onto c (Some new) ss h k = over c new ss h k

keeps_step : (ss : List Sym) (c : TokenClass) → clean_below ss ≡ true → IfKeeps (step ss c) c
keeps_step [] c h = section_keeps c
keeps_step (s ∷ ss) c h = keeps_onto c (expand s c) ss (keeps s c) h

-- the class of the last token
abbrev pub last_class : TokenClass → List Classed → TokenClass
last_class c [] = c
last_class c (t ∷ ts) = last_class t.class ts

waits_from : (ts : List Classed) (c : TokenClass) (ss new : List Sym) → Keeps c ss → after ss ts ≡ Some new → on_top new ≡ is_left_square (last_class c ts)
waits_from [] c ss new h e = let f : ss ≡ new = cc in ap on_top (sym f) ∙ h.1
waits_from (t ∷ ts) c ss new h e = go (step ss t.class) (keeps_step ss t.class h.0) e (λ n k e. waits_from ts t.class n new k e)
  where
    go : (o : Option (List Sym)) → IfKeeps o t.class → after_step (λ n. after n ts) o ≡ Some new → ((n : List Sym) → Keeps t.class n → after n ts ≡ Some new → on_top new ≡ is_left_square (last_class t.class ts)) → on_top new ≡ is_left_square (last_class t.class ts)
    go None h e k = cc
    go (Some n) h e k = k n h e

-- behind a front, the machine waits for a mark exactly where the last token is a square bracket
waits : (front : List Classed) (new : List Sym) → after start front ≡ Some new → on_top new ≡ is_left_square (last_class class.Other front)
waits front new e = waits_from front class.Other start new (refl, refl) e

square_means : (c : TokenClass) → is_left_square c ≡ true → c ≡ class.LeftSquare
square_means class.LeftSquare e = refl
square_means _ e = cc

ends_from : (t : Classed) (ts : List Classed) → is_left_square (last_class t.class ts) ≡ true → EndsInSquare (t ∷ ts)
ends_from t [] e = ([], t, square_means t.class e, refl)
ends_from t (u ∷ ts) e = let p = ends_from u ts e in (t ∷ p.0, p.1, p.2, ap (λ z. t ∷ z) p.3)

ends : (front : List Classed) → is_left_square (last_class class.Other front) ≡ true → EndsInSquare front
ends [] e = cc
ends (t ∷ ts) e = ends_from t ts e

last_push : (ts : List Classed) (c : TokenClass) (b : Classed) → last_class c (ts ++ (b ∷ [])) ≡ b.class
last_push [] c b = refl
last_push (t ∷ ts) c b = last_push ts t.class b

pub waits_ends : (front : List Classed) (new : List Sym) → after start front ≡ Some new → on_top new ≡ true → EndsInSquare front
waits_ends front new e h = ends front (sym (waits front new e) ∙ h)

pub ends_waits : (front : List Classed) (new : List Sym) → after start front ≡ Some new → EndsInSquare front → on_top new ≡ true
ends_waits front new e (before, b, hb, whole) = waits front new e ∙ ap (λ z. is_left_square (last_class class.Other z)) whole ∙ ap is_left_square (last_push before class.Other b ∙ hb)
