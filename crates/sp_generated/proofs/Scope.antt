-- The variables of a generated text, and their slots.
use Rattle.std.proofs.Common.{◌≡◌, ◌≢◌, ℕ, zero, suc, ◌+◌, ◌*◌, ◌^◌, ◌<◌, ◌≤◌, ◌==◌, false, List, [], ◌∷◌, ◌++◌, length, get_or, Some, refl, sym, ap, ◌∙◌, arith}
use Rattle.std.specs.Prelude.{codes}
use Rattle.std.specs.Fmt.{decimal}
use Rattle.std.proofs.lemmas.Fmt.{decimal_injective}
use Rattle.std.proofs.lemmas.Bool.{false≢true}
use Rattle.std.proofs.lemmas.Bool.Decides.{Decides-eqb}
use Rattle.sp_dd.specs.Points.{AllSizes}
use Rattle.sp_dd.specs.Func.{Shape, IsScope}
use Rattle.sp_model.specs.declared.parts.Decl.{Decl}
use Rattle.sp_model.specs.Problem.{twice_each, sizes_of}
use Rattle.sp_trees.specs.declared.env.Dd.{Dd}
use Rattle.sp_trees.specs.declared.env.Env.{Env}
use Rattle.sp_trees.specs.declared.nodes.Place.TheVariants.{Variable, Sight}
use Rattle.sp_trees.specs.Good.{shape_for}
use Rattle.sp_trees.specs.Nodes.{place_of, place_by, values_of, number_of_decl}
use Rattle.sp_written.proofs.Places.{decl_found, decl_missing}
use Rattle.sp_generated.specs.Signs.{variable_name, two_values}

-- the declaration of the variable of a number
abbrev pub decl : ℕ → Decl
decl i = record { name = variable_name i; values = two_values }

abbrev pub decls : ℕ → ℕ → List Decl
decls i zero = []
decls i (suc n) = decl i ∷ decls (suc i) n

abbrev pub hint_decl : Decl
hint_decl = record { name = codes "hint"; values = two_values }

-- n variables, and those dds
abbrev pub env_of : ℕ → List (List ℕ × Dd) → Env
env_of n dds = record { scope = shape_for (decls 1 n) (hint_decl ∷ []); variables = decls 1 n; sights = hint_decl ∷ []; dds = dds }

abbrev pub scope_of : ℕ → Shape
scope_of n = shape_for (decls 1 n) (hint_decl ∷ [])

pub decls_count : (i n : ℕ) → length (decls i n) ≡ n
decls_count i zero = refl
decls_count i (suc n) = ap suc (decls_count (suc i) n)

pub decls_at : (i n k : ℕ) (d : Decl) → k < n → get_or (decls i n) k d ≡ decl (i + k)
decls_at i zero k d l = absurd (omega arith)
decls_at i (suc n) zero d l = let e : i ≡ i + 0 = omega arith in ap decl e
decls_at i (suc n) (suc k) d l = decls_at (suc i) n k d (omega arith) ∙ (let e : suc i + k ≡ i + suc k = omega arith in ap decl e)

-- ---- names
apart : (a b : ℕ) → (a == b) ≡ false → a ≢ b
apart a b h e = absurd (false≢true (sym h ∙ (Decides-eqb a b).1 e))

pub names_apart : (i j : ℕ) → i < 2 ^ 64 → j < 2 ^ 64 → i ≢ j → variable_name i ≢ variable_name j
names_apart i j li lj h e = h (decimal_injective i j li lj (let same : decimal i ≡ decimal j = cc in same))

module _ (n : ℕ) (few : n ≤ 24) (dds : List (List ℕ × Dd)) where
  pub variable_place : (k : ℕ) → k < n → place_of (env_of n dds) (variable_name (suc k)) ≡ Some (Variable k)
  variable_place k l =
      let count = decls_count 1 n in
      ap (λ o. place_by o (number_of_decl (hint_decl ∷ []) (variable_name (suc k))))
      (decl_found (decls 1 n) k (variable_name (suc k)) (decl 0) (omega arith) (ap (λ (d : Decl). d.name) (decls_at 1 n k (decl 0) l) ∙ (let same : 1 + k ≡ suc k = omega arith in ap variable_name same))
      (λ i m e. names_apart (1 + i) (suc k) (omega arith) (omega arith) (omega arith) (sym (ap (λ (d : Decl). d.name) (decls_at 1 n i (decl 0) (omega arith))) ∙ e)))

  pub hint_place : place_of (env_of n dds) (codes "hint") ≡ Some (Sight 0)
  hint_place =
      let count = decls_count 1 n in
      ap (λ o. place_by o (Some 0))
      (decl_missing (decls 1 n) (codes "hint") (decl 0) (λ i m e. other i (sym (ap (λ (d : Decl). d.name) (decls_at 1 n i (decl 0) (omega arith))) ∙ e)))
    where
      other : (i : ℕ) → variable_name (1 + i) ≢ codes "hint"
      other i e = apart 120 104 refl (ap (λ (l : List ℕ). get_or l 0 0) e)

  pub variable_values : (k : ℕ) → k < n → values_of (env_of n dds) (Variable k) ≡ two_values
  variable_values k l = ap (λ (d : Decl). d.values) (decls_at 1 n k _ l)

-- ---- sizes
sizes_count : (i n : ℕ) → length (twice_each (sizes_of (decls i n)) ++ 2 ∷ []) ≡ 2 * n + 1
sizes_count i zero = refl
sizes_count i (suc n) = let rest = sizes_count (suc i) n in omega arith

sizes_at : (i n k : ℕ) → k < 2 * n + 1 → get_or (twice_each (sizes_of (decls i n)) ++ 2 ∷ []) k 0 ≡ 2
sizes_at i zero zero l = refl
sizes_at i zero (suc k) l = absurd (omega arith)
sizes_at i (suc n) zero l = refl
sizes_at i (suc n) (suc zero) l = refl
sizes_at i (suc n) (suc (suc k)) l = sizes_at (suc i) n k (omega arith)

sizes_each : (i n : ℕ) → AllSizes (twice_each (sizes_of (decls i n)) ++ 2 ∷ [])
sizes_each i zero = (omega arith, omega arith, tt)
sizes_each i (suc n) = (omega arith, omega arith, (omega arith, omega arith, sizes_each (suc i) n))

pub slots_count : (n : ℕ) → length (scope_of n).sizes ≡ 2 * n + 1
slots_count n = sizes_count 1 n

pub size_at : (n slot : ℕ) → slot < 2 * n + 1 → get_or (scope_of n).sizes slot 0 ≡ 2
size_at n slot l = sizes_at 1 n slot l

pub is_scope : (n : ℕ) → n ≤ 24 → IsScope (scope_of n)
is_scope n l =
    let slots = slots_count n in
    let count = decls_count 1 n in
    record {
      few = omega arith;
      paired = omega arith;
      each = sizes_each 1 n;
      equal = λ i m. size_at n (2 * i) (omega arith) ∙ sym (size_at n (2 * i + 1) (omega arith));
    }
