-- What words of a text name, and lists of tables with one more.
use Rattle.std.proofs.Common.{◌≡◌, ◌≢◌, ℕ, zero, suc, ◌<◌, ◌==◌, true, false, List, [], ◌∷◌, ◌++◌, length, Option, Some, None, refl, sym, ap, ◌∙◌, subst, inl, inr}
use Rattle.std.specs.Prelude.{◌⊎◌, is_some, slice_index_or, slice_set, replicate, if◌then◌else◌}
use Rattle.std.specs.Str.{bytes_eq}
use Rattle.std.proofs.lemmas.Bool.{false≢true}
use Rattle.std.proofs.lemmas.Bool.Decides.{eqb_tells}
use Rattle.std.proofs.lemmas.Slice.Eq.{bytes_eq-Decides}
use Rattle.std.proofs.lemmas.List.{get_or-set_other, get_or-set_same}
use Rattle.std.proofs.lemmas.List.Quantifiers.{position-Some}
use Rattle.sp_dd.specs.Func.{Func}
use Rattle.sp_model.specs.Problem.{no_decl}
use Rattle.sp_trees.specs.declared.env.Env.{Env}
use Rattle.sp_trees.specs.declared.nodes.Place.{Place}
use Rattle.sp_trees.specs.declared.nodes.Place.TheVariants.{Variable, Sight}
use Rattle.sp_trees.specs.Nodes.{IsPlace, place_by, place_of, number_of_decl}
use Rattle.sp_checks.specs.Told.{or_else, first_of}
use Rattle.sp_checks.proofs.AmongLemmas.{IsMet, met_same, met_new}

pub some_same : {X : Type 0} (a b : X) (o : Option X) → o ≡ Some a → o ≡ Some b → a ≡ b
some_same a b o e h = cc

pub some_none : {X : Type 0} (a : X) (o : Option X) → o ≡ Some a → o ≡ None → ⊥
some_none a o e h = cc

pub none_of : {X : Type 0} (o : Option X) → is_some o ≡ false → o ≡ None
none_of None h = refl
none_of (Some x) h = absurd (false≢true (sym h))

-- the name of a variable
abbrev pub name_at : Env → Place → List ℕ
name_at env (Variable i) = (slice_index_or env.variables i no_decl).name
name_at env (Sight j) = (slice_index_or env.sights j no_decl).name

-- a word that names a variable is its name
pub place_named : (env : Env) (name : List ℕ) (p : Place) → place_of env name ≡ Some p → IsPlace env p × (name_at env p ≡ name)
place_named env name p h = go (number_of_decl env.variables name) (number_of_decl env.sights name) refl refl h
  where
    go : (a b : Option ℕ) → number_of_decl env.variables name ≡ a → number_of_decl env.sights name ≡ b → place_by a b ≡ Some p → IsPlace env p × (name_at env p ≡ name)
    go (Some i) b e f h =
        let at = position-Some (λ d. bytes_eq d.name name) env.variables i no_decl e in
        subst (λ (q : Place). IsPlace env q × (name_at env q ≡ name)) (some_same (Variable i) p (Some (Variable i)) refl h) (at.0, (bytes_eq-Decides (name_at env (Variable i)) name).0 at.1)
    go None (Some j) e f h =
        let at = position-Some (λ d. bytes_eq d.name name) env.sights j no_decl f in
        subst (λ (q : Place). IsPlace env q × (name_at env q ≡ name)) (some_same (Sight j) p (Some (Sight j)) refl h) (at.0, (bytes_eq-Decides (name_at env (Sight j)) name).0 at.1)
    go None None e f h = absurd (some_none p (Some p) refl (sym h))

pub same_place : (env : Env) (a b : List ℕ) (p : Place) → place_of env a ≡ Some p → place_of env b ≡ Some p → a ≡ b
same_place env a b p h k = sym (place_named env a p h).1 ∙ (place_named env b p k).1

-- ---- lists of tables

abbrev pub no_table : Option Func
no_table = None

pub none_at : (n k : ℕ) → slice_index_or (replicate n no_table) k None ≡ None
none_at zero k = refl
none_at (suc n) zero = refl
none_at (suc n) (suc k) = none_at n k

pub or_else_none : {X : Type 0} (o : Option X) → or_else o None ≡ o
or_else_none None = refl
or_else_none (Some x) = refl

pub or_else_assoc : {X : Type 0} (a b c : Option X) → or_else (or_else a b) c ≡ or_else a (or_else b c)
or_else_assoc None b c = refl
or_else_assoc (Some x) b c = refl

pub first_more : {X Y : Type 0} (give : X → Option Y) (xs : List X) (x : X) → first_of give (xs ++ x ∷ []) ≡ or_else (first_of give xs) (give x)
first_more give [] x = or_else_none (give x)
first_more give (y ∷ xs) x = ap (or_else (give y)) (first_more give xs x) ∙ sym (or_else_assoc (give y) (first_of give xs) (give x))

module _ {W : Type 0} (At : ℕ → W → Type 0) (ts : List (Option Func)) (words : List W) (w : W) where
  -- one more table, of the variable that the word names
  pub put_met : (i : ℕ) (f : Func) → i < length ts → At i w → ((k : ℕ) → At k w → k ≡ i) → ((k : ℕ) → IsMet (At k) (is_some (slice_index_or ts k None)) words)
      → (k : ℕ) → IsMet (At k) (is_some (slice_index_or (slice_set ts i (Some f)) k None)) (words ++ w ∷ [])
  put_met i f l here only h k = go (eqb_tells k i)
    where
      go : ((k == i) ≡ true) × (k ≡ i) ⊎ ((k == i) ≡ false) × (k ≢ i) → IsMet (At k) (is_some (slice_index_or (slice_set ts i (Some f)) k None)) (words ++ w ∷ [])
      go (inl e) =
          subst (λ (n : ℕ). IsMet (At n) (is_some (slice_index_or (slice_set ts i (Some f)) n None)) (words ++ w ∷ [])) (sym e.1)
          (met_new (At i) (is_some (slice_index_or (slice_set ts i (Some f)) i None)) words w (ap is_some (get_or-set_same ts i (Some f) None l)) here)
      go (inr e) =
          subst (λ (o : Option Func). IsMet (At k) (is_some o) (words ++ w ∷ [])) (sym (get_or-set_other ts i k (Some f) None e.1))
          (met_same (At k) (is_some (slice_index_or ts k None)) words w (λ q. e.1 (only k q)) (h k))

  -- the word names none of these
  pub others_met : ((k : ℕ) → At k w → ⊥) → ((k : ℕ) → IsMet (At k) (is_some (slice_index_or ts k None)) words) → (k : ℕ) → IsMet (At k) (is_some (slice_index_or ts k None)) (words ++ w ∷ [])
  others_met never h k = met_same (At k) (is_some (slice_index_or ts k None)) words w (never k) (h k)

-- one more table, that wasn't listed before
pub put_given : (ts : List (Option Func)) (old give : ℕ → Option Func) (i : ℕ) (f : Func) → i < length ts → is_some (slice_index_or ts i None) ≡ false → ((k : ℕ) → slice_index_or ts k None ≡ old k)
    → ((k : ℕ) → give k ≡ (if i == k then Some f else None)) → (k : ℕ) → slice_index_or (slice_set ts i (Some f)) k None ≡ or_else (old k) (give k)
put_given ts old give i f l new h g k = go (eqb_tells i k)
  where
    go : ((i == k) ≡ true) × (i ≡ k) ⊎ ((i == k) ≡ false) × (i ≢ k) → slice_index_or (slice_set ts i (Some f)) k None ≡ or_else (old k) (give k)
    go (inl e) =
        ap (λ n. slice_index_or (slice_set ts i (Some f)) n None) (sym e.1) ∙ get_or-set_same ts i (Some f) None l
        ∙ sym (ap (λ o. or_else o (give k)) nothing ∙ g k ∙ ap (λ b. if b then Some f else None) e.0)
      where
        nothing : old k ≡ None
        nothing = ap old (sym e.1) ∙ sym (h i) ∙ none_of (slice_index_or ts i None) new
    go (inr e) =
        get_or-set_other ts i k (Some f) None (λ q. e.1 (sym q)) ∙ h k ∙ sym (or_else_none (old k)) ∙ ap (or_else (old k)) (sym (g k ∙ ap (λ b. if b then Some f else None) e.0))
