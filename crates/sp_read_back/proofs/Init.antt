-- The factors of a canonical text.
use Rattle.std.proofs.Common.{◌≡◌, ℕ, zero, suc, ◌+◌, ◌*◌, ◌%◌, ◌^◌, ◌<◌, ◌≤◌, ◌==◌, ◌&&◌, ◌||◌, ⊎_elim, Bool, true, false, List, [], ◌∷◌, ◌++◌, length, map, get_or, refl, sym, ap, ◌∙◌, subst, arith}
use Rattle.std.specs.Prelude.{ℤ, pos, ◌+ℤ◌, All, Contains, nat_lt, slice_index, slice_index_or}
use Rattle.std.proofs.lemmas.Int.{ints}
use Rattle.std.proofs.lemmas.List.{length-map}
use Rattle.std.proofs.lemmas.Bool.{false≢true}
use Rattle.std.proofs.lemmas.Bool.Decides.{nat_tests, Decides-eqb}
use Rattle.sp_dd.specs.Points.{IsPoint}
use Rattle.sp_dd.specs.Func.{Shape, Func, IsScope, IsFunc, value_of}
use Rattle.sp_dd.specs.Ordered.{node_at}
use Rattle.sp_dd.specs.Diagrams.{node_list, root_part}
use Rattle.sp_dd.specs.Operations.{everywhere, plus}
use Rattle.sp_dd.proofs.FuncLemmas.{scope_some, value_of-function_of, same_everywhere, IsFunc-function_of}
use Rattle.sp_dd.proofs.Diagramming.{func_made, depends_on}
use Rattle.sp_model.specs.declared.parts.Factor.{Factor}
use Rattle.sp_model.specs.declared.parts.Parts.{Parts}
use Rattle.sp_model.specs.Problem.{no_decl, shape_of}
use Rattle.sp_model.specs.Kept.{IsModel, IsDecl, IsFactor}
use Rattle.sp_model.proofs.InitialLaw as initial
use Rattle.sp_show.specs.Decimals.{decimal_of}
use Rattle.sp_trees.specs.declared.slots.Slots.{Slots}
use Rattle.sp_trees.specs.declared.env.Dd.{Dd}
use Rattle.sp_trees.specs.declared.nodes.Place.TheVariants.{Variable}
use Rattle.sp_trees.specs.Slots.{none, one, union, has}
use Rattle.sp_trees.specs.Conditions.{is_within}
use Rattle.sp_trees.specs.Lists.{greatest_partial}
use Rattle.sp_trees.proofs.SlotLemmas.{has_one, has_union, has_none}
use Rattle.sp_checks.specs.declared.roles.Role.TheVariants as role
use Rattle.sp_checks.specs.Roles.{allowed_slots, may_mention}
use Rattle.sp_syntax.specs.Grammar.{IsTree}
use Rattle.sp_spelled.specs.Signs.{Gap, tight, space, Spelled}
use Rattle.sp_spelled.specs.Shapes.{leaf, group, sum_group}
use Rattle.sp_spelled.proofs.Numbers.{decimal_spells}
use Rattle.sp_spelled.proofs.Written.{deeper}
use Rattle.sp_written.specs.Acceptance.{mentions_of, funcs_of, branched_dd}
use Rattle.sp_written.specs.Meanings.{Means, WritesTree, AreWritten, constant_dd, list_signs}
use Rattle.sp_written.proofs.Names.{named, numbered_values}
use Rattle.sp_written.proofs.Places.{where_has}
use Rattle.sp_written.proofs.Tests.{small_true}
use Rattle.sp_written.proofs.Trees.{writes_number, writes_node}
use Rattle.sp_written.proofs.Sums.{AddNothing, writes_sum}
use Rattle.sp_written.proofs.Init.{is_in}
use Rattle.sp_canonical.specs.Tables.{is_on, free_variables}
use Rattle.sp_canonical.specs.ModelSigns as shown
use Rattle.sp_canonical.specs.ModelSigns.{function_signs, zero_node, zeros_signs, summed_signs}
use Rattle.sp_read_back.proofs.Slots.{n, env_of, scope_is, variable_place, slots_count}
use Rattle.sp_read_back.proofs.Functions.{env_with, no_dds, dds_for, dd_for, IsShown, means_it, writes_function, branches_same}
use Rattle.sp_read_back.proofs.Roles.{init_mentions, table_shown}
use Rattle.sp_read_back.proofs.Mentions.{has_slot, lacks_slot}
use Rattle.sp_read_back.proofs.Owned.{contains_in, in_rest, split_in, on_at}

or_false : (b : Bool) → (b || false) ≡ b
or_false true = refl
or_false false = refl

or_assoc : (a b c : Bool) → ((a || b) || c) ≡ (a || (b || c))
or_assoc true b c = refl
or_assoc false b c = refl

module _ (p : Parts) (m : IsModel p) where
  abbrev zero_dd : Dd
  zero_dd = constant_dd (no_dds p m) (pos 0)

  abbrev zeros : List (List ℕ) → List Dd
  zeros xs = map (λ (x : List ℕ). zero_dd) xs

  -- zero for each value of a variable
  abbrev pub zero_for : ℕ → Dd
  zero_for i = branched_dd (no_dds p m) (2 * i) (zeros (get_or p.variables i no_decl).values)

  abbrev pub zero_dds : List ℕ → List Dd
  zero_dds own = map zero_for own

  -- ---- what zero nodes mention
  zeros_mention : (more : Slots) (xs : List (List ℕ)) (slot : ℕ) → has (mentions_of more (zeros xs)) slot ≡ has more slot
  zeros_mention more [] slot = refl
  zeros_mention more (x ∷ xs) slot = zeros_mention (union more none) xs slot ∙ has_union more none slot ∙ ap (λ b. has more slot || b) (has_none slot) ∙ or_false (has more slot)

  zero_mentions : (i slot : ℕ) → has (zero_for i).mentions slot ≡ (2 * i == slot)
  zero_mentions i slot = zeros_mention (one (2 * i)) (get_or p.variables i no_decl).values slot ∙ has_one (2 * i) slot

  doubled_eq : (a b : ℕ) → (2 * a == 2 * b) ≡ (a == b)
  doubled_eq a b = go (a == b) refl
    where
      go : (t : Bool) → (a == b) ≡ t → (2 * a == 2 * b) ≡ t
      go true e = let same = (Decides-eqb a b).0 e in (Decides-eqb (2 * a) (2 * b)).1 (ap (λ k. 2 * k) same)
      go false e = other (2 * a == 2 * b) refl
        where
          other : (u : Bool) → (2 * a == 2 * b) ≡ u → (2 * a == 2 * b) ≡ false
          other false f = f
          other true f = let twice = (Decides-eqb (2 * a) (2 * b)).0 f in let same : a ≡ b = omega arith in absurd (false≢true (sym e ∙ (Decides-eqb a b).1 same))

  all_zeros : (more : Slots) (own : List ℕ) (i : ℕ) → has (mentions_of more (zero_dds own)) (2 * i) ≡ (has more (2 * i) || is_in own i)
  all_zeros more [] i = sym (or_false (has more (2 * i)))
  all_zeros more (j ∷ own) i =
      all_zeros (union more (zero_for j).mentions) own i ∙ ap (λ b. b || is_in own i) (has_union more (zero_for j).mentions (2 * i) ∙ ap (λ b. has more (2 * i) || b) (zero_mentions j (2 * i) ∙ doubled_eq j i))
      ∙ or_assoc (has more (2 * i)) (j == i) (is_in own i)

  -- ---- what they add
  zero_value : (xs : List (List ℕ)) (k : ℕ) (x : List ℕ) → IsPoint (shape_of p).sizes x → value_of (get_or (funcs_of (zeros xs)) k (everywhere (shape_of p) (pos 0))) x ≡ pos 0
  zero_value [] k x q = value_of-function_of (shape_of p) (λ y. pos 0) x (scope_some (shape_of p) (scope_is p m)) q
  zero_value (v ∷ xs) zero x q = value_of-function_of (shape_of p) (λ y. pos 0) x (scope_some (shape_of p) (scope_is p m)) q
  zero_value (v ∷ xs) (suc k) x q = zero_value xs k x q

  plus_zero : (v : ℤ) → v +ℤ pos 0 ≡ v
  plus_zero v = omega (arith, ints)

  adds_nothing : (f : Func) (i : ℕ) → IsShown p m f → plus f (zero_for i).func ≡ f
  adds_nothing f i is =
      let scope : IsScope f.shape = subst IsScope (sym is.shape) (scope_is p m) in
      same_everywhere (plus f (zero_for i).func) f scope (IsFunc-function_of f.shape (λ y. value_of f y +ℤ value_of (zero_for i).func y) scope) is.func refl
      (λ x q. (let r : IsPoint (shape_of p).sizes x = subst (λ (s : Shape). IsPoint s.sizes x) is.shape q in
      value_of-function_of f.shape (λ y. value_of f y +ℤ value_of (zero_for i).func y) x (scope_some f.shape scope) q
      ∙ ap (λ z. value_of f x +ℤ z) (value_of-function_of (shape_of p) (λ y. value_of (slice_index_or (funcs_of (zeros (get_or p.variables i no_decl).values)) (slice_index y (2 * i)) (everywhere (shape_of p) (pos 0))) y) x (scope_some (shape_of p) (scope_is p m)) r
      ∙ zero_value (get_or p.variables i no_decl).values (get_or x (2 * i) 0) x r)
      ∙ plus_zero (value_of f x)))

  all_add_nothing : (f : Func) (own : List ℕ) → IsShown p m f → AddNothing f (zero_dds own)
  all_add_nothing f [] is = tt
  all_add_nothing f (i ∷ own) is = (adds_nothing f i is, all_add_nothing f own is)

  -- ---- as they are spelled
  init_has : (i : ℕ) → i < n p m → has (allowed_slots (shape_of p) role.Init) (2 * i) ≡ true
  init_has i l =
      let count = slots_count p m in
      let even : (2 * i) % 2 ≡ 0 = omega arith in
      where_has (may_mention (n p m) role.Init) (length (shape_of p).sizes) (2 * i) (omega arith)
      (λ k. below (2 * i) (2 * n p m) (omega arith) k && (Decides-eqb ((2 * i) % 2) 0).1 even k)
    where
      below : (a b : ℕ) → a < b → nat_lt a b ≡ true
      below a b h = grind (arith, nat_tests)

  leaves_written : (dds : List (List ℕ × Dd)) (xs : List (List ℕ)) → AreWritten (env_of p m dds) (allowed_slots (shape_of p) role.Init) 1 (map (λ (x : List ℕ). leaf (decimal_of (pos 0)) tight) xs) (zeros xs)
  leaves_written dds [] = tt
  leaves_written dds (x ∷ xs) = (writes_number (env_of p m dds) (allowed_slots (shape_of p) role.Init) (decimal_of (pos 0)) (pos 0) tight (decimal_spells (pos 0) (omega arith)), leaves_written dds xs)

  zero_written : (dds : List (List ℕ × Dd)) (i : ℕ) (g : Gap) → i < n p m → WritesTree (env_of p m dds) (allowed_slots (shape_of p) role.Init) (zero_for i) 3 (zero_node g (get_or p.variables i no_decl))
  zero_written dds i g l = go (get_or p.variables i no_decl).values refl
    where
      is : IsDecl (get_or p.variables i no_decl)
      is = m.variables i no_decl l

      go : (vs : List (List ℕ)) → (get_or p.variables i no_decl).values ≡ vs → WritesTree (env_of p m dds) (allowed_slots (shape_of p) role.Init) (zero_for i) 3 (zero_node g (get_or p.variables i no_decl))
      go [] e = let some = is.some in let none : length (get_or p.variables i no_decl).values ≡ 0 = ap (λ (l : List (List ℕ)). length l) e in absurd (omega arith)
      go (v ∷ vs) e =
          subst (λ ws. WritesTree (env_of p m dds) (allowed_slots (shape_of p) role.Init) (branched_dd (no_dds p m) (2 * i) (zeros ws)) 3 (group (get_or p.variables i no_decl).name (shown.branch_signs (get_or p.variables i no_decl).values (map (λ (x : List ℕ). leaf (decimal_of (pos 0)) tight) ws)) g)) (sym e)
          (subst (λ us. WritesTree (env_of p m dds) (allowed_slots (shape_of p) role.Init) (branched_dd (no_dds p m) (2 * i) (zeros (v ∷ vs))) 3 (group (get_or p.variables i no_decl).name us g))
          (sym (branches_same (get_or p.variables i no_decl).values (map (λ (x : List ℕ). leaf (decimal_of (pos 0)) tight) (v ∷ vs))))
          (writes_node (env_of p m dds) (allowed_slots (shape_of p) role.Init) (get_or p.variables i no_decl).name (Variable i) (2 * i) 1 (map (λ (x : List ℕ). leaf (decimal_of (pos 0)) tight) (v ∷ vs)) zero_dd (zeros vs) g
          (named (get_or p.variables i no_decl).name is.name) (numbered_values (get_or p.variables i no_decl).values is.values is.different)
          (ap (λ (l : List (List ℕ)). length l) e ∙ ap suc (sym (length-map vs (λ (x : List ℕ). zero_dd)))) (leaves_written dds (v ∷ vs))
          (record { place = variable_place p m dds i l; slot_is = refl; sayable = refl; mention = init_has i l })))

  abbrev zero_list : List ℕ → List (List Spelled)
  zero_list [] = []
  zero_list (i ∷ own) = zero_node (shown.gap_before own) (get_or p.variables i no_decl) ∷ zero_list own

  zero_list_is : (own : List ℕ) → list_signs (zero_list own) ≡ zeros_signs p own
  zero_list_is [] = refl
  zero_list_is (i ∷ own) = ap (λ us. zero_node (shown.gap_before own) (get_or p.variables i no_decl) ++ us) (zero_list_is own)

  zeros_written : (dds : List (List ℕ × Dd)) (own : List ℕ) → All (λ i. i < n p m) own → AreWritten (env_of p m dds) (allowed_slots (shape_of p) role.Init) 3 (zero_list own) (zero_dds own)
  zeros_written dds [] h = tt
  zeros_written dds (i ∷ own) h = (zero_written dds i (shown.gap_before own) (h 0 0 (omega arith)), zeros_written dds own (λ k d l. h (suc k) d (omega arith)))

  -- ---- a factor
  abbrev pub summed_dd : Func → List ℕ → Dd
  summed_dd f [] = dd_for p m f
  summed_dd f (i ∷ free) = record { mentions = mentions_of none (dd_for p m f ∷ zero_dds (i ∷ free)); func = (dd_for p m f).func }

  pub summed_func : (f : Func) (free : List ℕ) → (summed_dd f free).func ≡ (dd_for p m f).func
  summed_func f [] = refl
  summed_func f (i ∷ free) = refl

  summed_has : (f : Func) (free : List ℕ) (i : ℕ) → has (summed_dd f free).mentions (2 * i) ≡ (has (dd_for p m f).mentions (2 * i) || is_in free i)
  summed_has f [] i = sym (or_false (has (dd_for p m f).mentions (2 * i)))
  summed_has f (j ∷ free) i =
      all_zeros (union none (dd_for p m f).mentions) (j ∷ free) i ∙ ap (λ b. b || is_in (j ∷ free) i) (has_union none (dd_for p m f).mentions (2 * i) ∙ ap (λ b. b || has (dd_for p m f).mentions (2 * i)) (has_none (2 * i)))

  within_most : (f : Factor) → IsFactor (shape_of p) f → IsFunc f.func → is_within greatest_partial (dd_for p m f.func).func ≡ true
  within_most f is func =
      let shown = table_shown p m f.func is.shape is.probability func in
      ap (λ g. is_within greatest_partial g) (means_it p m f.func shown)
      ∙ small_true greatest_partial f.func (subst IsScope (sym is.shape) (scope_is p m)) (λ x q. (let b = is.probability x q in let low = b.0 in let high = b.1 in ((omega (arith, ints)), (omega (arith, ints)))))

  pub factor_written : (before after : List Dd) (f : Factor) (free : List ℕ) (g : Gap) → IsFactor (shape_of p) f → IsFunc f.func → All (λ i. i < n p m) free → length before + length (node_list f.func) + length after ≤ 2 ^ 64
      → WritesTree (env_with p m (before ++ (dds_for p m f.func ++ after))) (allowed_slots (shape_of p) role.Init) (summed_dd f.func free) 4 (summed_signs p (length before) g f.func free)
  factor_written before after f [] g is func own few =
      deeper IsTree (Means (env_with p m (before ++ (dds_for p m f.func ++ after))) (allowed_slots (shape_of p) role.Init) (dd_for p m f.func)) _ 1 4 (omega arith)
      (writes_function p m role.Init before after f.func g (table_shown p m f.func is.shape is.probability func) (init_mentions p m f is) few)
  factor_written before after f (i ∷ free) g is func own few =
      let shown = table_shown p m f.func is.shape is.probability func in
      subst (λ us. WritesTree (env_with p m (before ++ (dds_for p m f.func ++ after))) (allowed_slots (shape_of p) role.Init) (summed_dd f.func (i ∷ free)) 4 (sum_group us g)) (ap (λ us. function_signs (length before) space f.func ++ us) (zero_list_is (i ∷ free)))
      (writes_sum (env_with p m (before ++ (dds_for p m f.func ++ after))) (allowed_slots (shape_of p) role.Init) 3 (function_signs (length before) space f.func ∷ zero_list (i ∷ free)) (dd_for p m f.func) (zero_dds (i ∷ free)) g (
        deeper IsTree (Means (env_with p m (before ++ (dds_for p m f.func ++ after))) (allowed_slots (shape_of p) role.Init) (dd_for p m f.func)) _ 1 3 (omega arith)
            (writes_function p m role.Init before after f.func space shown (init_mentions p m f is) few),
        zeros_written _ (i ∷ free) own,
      )
      (within_most f is func)
      (subst (λ h. AddNothing h (zero_dds (i ∷ free))) (sym (means_it p m f.func shown)) (all_add_nothing f.func (i ∷ free) shown)))

  -- ---- its own variables
  module _ (f : Factor) (is : IsFactor (shape_of p) f) (func : IsFunc f.func) where
    abbrev on : ℕ → Bool
    on i = is_on (node_list f.func) (2 * i)

    shown_factor : IsShown p m f.func
    shown_factor = table_shown p m f.func is.shape is.probability func

    mention_is : (i : ℕ) → i < n p m → has (dd_for p m f.func).mentions (2 * i) ≡ on i
    mention_is i l = go (on i) refl
      where
        within : 2 * i < length (shape_of p).sizes
        within = let count = slots_count p m in omega arith

        slots_below : (k : ℕ) → k < length (node_list f.func) → (node_at (node_list f.func) k).slot < length (shape_of p).sizes
        slots_below k q = subst (λ (t : Shape). (node_at (node_list f.func) k).slot < length t.sizes) is.shape ((func_made f.func).ordered.slots k q)

        go : (b : Bool) → on i ≡ b → has (dd_for p m f.func).mentions (2 * i) ≡ b
        go true e = let at = on_at (node_list f.func) (2 * i) e in has_slot (no_dds p m) (scope_is p m) f.func is.shape (2 * i) within (means_it p m f.func shown_factor) at.place at.within at.is
        go false e = lacks_slot (no_dds p m) (scope_is p m) (node_list f.func) (root_part f.func) (2 * i) slots_below e

    own_on : (i : ℕ) → i < n p m → on i ≡ true → is_in f.own i ≡ true
    own_on i l e = ⊎_elim (λ (c : Contains f.own i). contains_in f.own i c)
        (λ (no : (c : Contains f.own i) → ⊥).
        (let at = on_at (node_list f.func) (2 * i) e in
        let d = depends_on f.func (2 * i) (subst IsScope (sym is.shape) (scope_is p m)) (record { place = at.place; within = at.within; is = at.is }) in
        absurd (d.apart (is.not_others i l no d.point d.other d.inside d.within))))
        (initial.has f.own i)

    pub owns : (i : ℕ) → i < n p m → has (summed_dd f.func (free_variables f)).mentions (2 * i) ≡ is_in f.own i
    owns i l = summed_has f.func (free_variables f) i ∙ (λ k. mention_is i l k || in_rest on f.own i k) ∙ split_in (is_in f.own i) (on i) (own_on i l)
