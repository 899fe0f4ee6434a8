-- How the slots of a model are named in its canonical text.
use Rattle.std.proofs.Common.{◌≡◌, ◌≢◌, ℕ, zero, suc, ◌+◌, ◌-◌, ◌*◌, ◌/◌, ◌%◌, ◌<◌, ◌≤◌, Bool, true, false, cond, List, [], ◌∷◌, ◌++◌, length, map, get_or, Some, refl, sym, ap, ◌∙◌, arith, length-append}
use Rattle.std.specs.Prelude.{nat_lt, nat_eq, slice_index_or}
use Rattle.std.specs.Fmt.{decimal}
use Rattle.std.proofs.Math.ListN.{get_or-map}
use Rattle.std.proofs.lemmas.Fmt.{decimal_injective}
use Rattle.std.proofs.lemmas.Bool.Decides.{nat_tests}
use Rattle.std.proofs.lemmas.List.{length-map, get_or_append_left}
use Rattle.sp_dd.specs.Func.{IsScope}
use Rattle.sp_model.specs.declared.parts.Decl.{Decl}
use Rattle.sp_model.specs.declared.parts.Parts.{Parts}
use Rattle.sp_model.specs.Problem.{no_decl, shape_of, sizes_of, twice_each}
use Rattle.sp_model.specs.Kept.{IsModel}
use Rattle.sp_trees.specs.declared.env.Dd.{Dd}
use Rattle.sp_trees.specs.declared.env.Env.{Env}
use Rattle.sp_trees.specs.declared.nodes.Place.TheVariants.{Variable, Sight}
use Rattle.sp_trees.specs.Slots.{has}
use Rattle.sp_trees.specs.Nodes.{place_of, place_by, values_of, slot_of, number_of_decl}
use Rattle.sp_checks.proofs.StartLemmas.{declared_scope}
use Rattle.sp_checks.specs.declared.roles.Role.TheVariants as role
use Rattle.sp_checks.specs.Roles.{allowed_slots, may_mention}
use Rattle.sp_spelled.specs.Words.{dd_name}
use Rattle.sp_spelled.proofs.Numbers.{dd_name_word}
use Rattle.sp_written.proofs.Names.{named, numbered_values}
use Rattle.sp_written.proofs.Places.{decl_found, decl_missing, where_has}
use Rattle.sp_written.proofs.Lines.{Said, IsSaidSo, AreNames}
use Rattle.sp_canonical.specs.ModelSigns.{slot_decl, has_prime}

-- the names of dds
pub dd_names : AreNames dd_name
dd_names = record {
  named = λ k l. dd_name_word k l;
  differ = λ j k lj lk e. decimal_injective j k lj lk (let same : decimal j ≡ decimal k = cc in same);
}

module _ (p : Parts) (m : IsModel p) where
  abbrev pub env_of : List (List ℕ × Dd) → Env
  env_of dds = record { scope = shape_of p; variables = p.variables; sights = p.sights; dds = dds }

  abbrev pub n : ℕ
  n = length p.variables

  pub scope_is : IsScope (shape_of p)
  scope_is = declared_scope p.variables p.sights (record {
    some_variable = m.some_variable;
    few_variables = m.few_variables;
    some_sight = m.some_sight;
    few_sights = m.few_sights;
    few_states = m.few_states;
    few_joint = m.few_joint;
    variables_kept = m.variables;
    sights_kept = m.sights;
    different = m.different;
  })

  -- ---- names
  abbrev names : List (List ℕ)
  names = map (λ (d : Decl). d.name) (p.variables ++ p.sights)

  names_count : length names ≡ n + length p.sights
  names_count = length-map (p.variables ++ p.sights) (λ (d : Decl). d.name) ∙ length-append p.variables p.sights

  variable_name : (i : ℕ) → i < n → get_or names i [] ≡ (get_or p.variables i no_decl).name
  variable_name i l = get_or-map (λ (d : Decl). d.name) (p.variables ++ p.sights) i no_decl ∙ ap (λ (d : Decl). d.name) (get_or_append_left p.variables p.sights no_decl i l)

  behind : (xs ys : List Decl) (k : ℕ) → get_or (xs ++ ys) (length xs + k) no_decl ≡ get_or ys k no_decl
  behind [] ys k = let e : 0 + k ≡ k = omega arith in ap (λ j. get_or ys j no_decl) e
  behind (x ∷ xs) ys k = let e : suc (length xs) + k ≡ suc (length xs + k) = omega arith in ap (λ j. get_or (x ∷ (xs ++ ys)) j no_decl) e ∙ behind xs ys k

  sight_name : (j : ℕ) → get_or names (n + j) [] ≡ (get_or p.sights j no_decl).name
  sight_name j = get_or-map (λ (d : Decl). d.name) (p.variables ++ p.sights) (n + j) no_decl ∙ ap (λ (d : Decl). d.name) (behind p.variables p.sights j)

  pub variable_place : (dds : List (List ℕ × Dd)) (i : ℕ) → i < n → place_of (env_of dds) (get_or p.variables i no_decl).name ≡ Some (Variable i)
  variable_place dds i l =
      let count = names_count in
      ap (λ o. place_by o (number_of_decl p.sights (get_or p.variables i no_decl).name))
      (decl_found p.variables i (get_or p.variables i no_decl).name no_decl l refl
      (λ k less e. m.different k i [] less (omega arith) (variable_name k (omega arith) ∙ e ∙ sym (variable_name i l))))

  pub sight_place : (dds : List (List ℕ × Dd)) (j : ℕ) → j < length p.sights → place_of (env_of dds) (get_or p.sights j no_decl).name ≡ Some (Sight j)
  sight_place dds j l =
      let count = names_count in
      (λ t. place_by (decl_missing p.variables (get_or p.sights j no_decl).name no_decl (λ i less e. m.different i (n + j) [] (omega arith) (omega arith) (variable_name i less ∙ e ∙ sym (sight_name j))) t)
      (decl_found p.sights j (get_or p.sights j no_decl).name no_decl l refl (λ k less e. m.different (n + k) (n + j) [] (omega arith) (omega arith) (sight_name k ∙ e ∙ sym (sight_name j))) t))

  -- ---- slots
  pub slots_count : length (shape_of p).sizes ≡ 2 * n + length p.sights
  slots_count = length-append (twice_each (sizes_of p.variables)) (sizes_of p.sights) ∙ (λ i. twice p.variables i + length-map p.sights (λ (d : Decl). length d.values) i)
    where
      twice : (ds : List Decl) → length (twice_each (sizes_of ds)) ≡ 2 * length ds
      twice [] = refl
      twice (d ∷ ds) = let rest = twice ds in omega arith

  abbrev said_by : Bool → ℕ → Said
  said_by b slot = record {
    is_primed = cond b (nat_eq (slot % 2) 1) true;
    place = cond b (Variable (slot / 2)) (Sight (slot - 2 * n));
    name = (cond b (slice_index_or p.variables (slot / 2) no_decl) (slice_index_or p.sights (slot - 2 * n) no_decl)).name;
  }

  abbrev pub said_of : ℕ → Said
  said_of slot = record {
    is_primed = has_prime p slot;
    place = cond (nat_lt (slot / 2) n) (Variable (slot / 2)) (Sight (slot - 2 * n));
    name = (slot_decl p slot).name;
  }

  pub values_are : (slot : ℕ) (dds : List (List ℕ × Dd)) → values_of (env_of dds) (said_of slot).place ≡ (slot_decl p slot).values
  values_are slot dds = go (nat_lt (slot / 2) n)
    where
      go : (b : Bool) → values_of (env_of dds) (cond b (Variable (slot / 2)) (Sight (slot - 2 * n))) ≡ (cond b (slice_index_or p.variables (slot / 2) no_decl) (slice_index_or p.sights (slot - 2 * n) no_decl)).values
      go true = refl
      go false = refl

  dd_allows : (slot : ℕ) → slot < length (shape_of p).sizes → has (allowed_slots (shape_of p) role.Dd) slot ≡ true
  dd_allows slot l = where_has (may_mention n role.Dd) (length (shape_of p).sizes) slot l refl

  pub slot_said : (dds : List (List ℕ × Dd)) (slot : ℕ) → slot < length (shape_of p).sizes → IsSaidSo (env_of dds) slot (said_of slot)
  slot_said dds slot l = go (nat_lt (slot / 2) n) refl
    where
      state_slot : (c : Bool) → nat_eq (slot % 2) 1 ≡ c → slot_of (env_of dds) c (Variable (slot / 2)) ≡ slot
      state_slot true e = let odd : slot % 2 ≡ 1 = grind (arith, nat_tests) in omega arith
      state_slot false e = let odd : slot % 2 ≢ 1 = grind (arith, nat_tests) in let even : slot % 2 ≡ 0 = omega arith in omega arith

      go : (b : Bool) → nat_lt (slot / 2) n ≡ b → IsSaidSo (env_of dds) slot (said_by b slot)
      go true e =
          let within : slot / 2 < n = grind (arith, nat_tests) in
          let is = m.variables (slot / 2) no_decl within in
          record {
            named = named (get_or p.variables (slot / 2) no_decl).name is.name;
            place = variable_place dds (slot / 2) within;
            slot_is = state_slot (nat_eq (slot % 2) 1) refl;
            sayable = refl;
            numbered = numbered_values (get_or p.variables (slot / 2) no_decl).values is.values is.different;
            mention = dd_allows slot l;
          }
      go false e =
          let above : n ≤ slot / 2 = grind (arith, nat_tests) in
          let count = slots_count in
          let within : slot - 2 * n < length p.sights = omega arith in
          let is = m.sights (slot - 2 * n) no_decl within in
          record {
            named = named (get_or p.sights (slot - 2 * n) no_decl).name is.name;
            place = sight_place dds (slot - 2 * n) within;
            slot_is = omega arith;
            sayable = refl;
            numbered = numbered_values (get_or p.sights (slot - 2 * n) no_decl).values is.values is.different;
            mention = dd_allows slot l;
          }

  -- ---- sizes
  size_doubled : (ds : List Decl) (rest : List ℕ) (k : ℕ) → k / 2 < length ds → get_or (twice_each (sizes_of ds) ++ rest) k 0 ≡ length (get_or ds (k / 2) no_decl).values
  size_doubled [] rest k l = absurd (omega arith)
  size_doubled (d ∷ ds) rest zero l = refl
  size_doubled (d ∷ ds) rest (suc zero) l = refl
  size_doubled (d ∷ ds) rest (suc (suc k)) l =
      let half : suc (suc k) / 2 ≡ suc (k / 2) = omega arith in
      size_doubled ds rest k (omega arith) ∙ ap (λ j. length (get_or (d ∷ ds) j no_decl).values) (sym half)

  past_doubled : (ds : List Decl) (rest : List ℕ) (k : ℕ) → length ds ≤ k / 2 → get_or (twice_each (sizes_of ds) ++ rest) k 0 ≡ get_or rest (k - 2 * length ds) 0
  past_doubled [] rest k l = let e : k ≡ k - 2 * 0 = omega arith in ap (λ j. get_or rest j 0) e
  past_doubled (d ∷ ds) rest zero l = absurd (omega arith)
  past_doubled (d ∷ ds) rest (suc zero) l = absurd (omega arith)
  past_doubled (d ∷ ds) rest (suc (suc k)) l = past_doubled ds rest k (omega arith) ∙ (let e : k - 2 * length ds ≡ suc (suc k) - 2 * suc (length ds) = omega arith in ap (λ j. get_or rest j 0) e)

  sight_sizes : (ds : List Decl) (k : ℕ) → k < length ds → length (get_or ds k no_decl).values ≡ get_or (sizes_of ds) k 0
  sight_sizes [] k l = absurd (omega arith)
  sight_sizes (d ∷ ds) zero l = refl
  sight_sizes (d ∷ ds) (suc k) l = sight_sizes ds k (omega arith)

  pub slot_size : (dds : List (List ℕ × Dd)) (slot : ℕ) → slot < length (shape_of p).sizes → length (values_of (env_of dds) (said_of slot).place) ≡ get_or (shape_of p).sizes slot 0
  slot_size dds slot l = go (nat_lt (slot / 2) n) refl
    where
      go : (b : Bool) → nat_lt (slot / 2) n ≡ b → length (values_of (env_of dds) (cond b (Variable (slot / 2)) (Sight (slot - 2 * n)))) ≡ get_or (shape_of p).sizes slot 0
      go true e = let within : slot / 2 < n = grind (arith, nat_tests) in sym (size_doubled p.variables (sizes_of p.sights) slot within)
      go false e =
          let above : n ≤ slot / 2 = grind (arith, nat_tests) in
          let count = slots_count in
          sight_sizes p.sights (slot - 2 * n) (omega arith) ∙ sym (past_doubled p.variables (sizes_of p.sights) slot above)
