-- The initial belief of a canonical text.
use Rattle.std.proofs.Common.{◌≡◌, ◌≢◌, ℕ, zero, suc, ◌+◌, ◌*◌, ◌^◌, ◌<◌, ◌≤◌, ◌&&◌, ◌||◌, Bool, true, false, not, List, [], ◌∷◌, ◌++◌, length, map, Some, None, Ok, refl, sym, ap, ◌∙◌, subst, arith, append-nil, append_assoc, length-append}
use Rattle.std.specs.Prelude.{All, AllPairs, Contains, codes, filter, cond}
use Rattle.std.specs.List.{list_any, range_with_len}
use Rattle.sp_syntax.specs.Grammar.{IsSection, AreAll}
use Rattle.sp_dd.specs.Func.{IsFunc}
use Rattle.sp_dd.specs.Diagrams.{node_list}
use Rattle.sp_model.specs.declared.parts.Factor.{Factor}
use Rattle.sp_model.specs.declared.parts.Parts.{Parts}
use Rattle.sp_model.specs.Problem.{shape_of}
use Rattle.sp_model.specs.Kept.{IsModel, IsFactor, all_own}
use Rattle.sp_trees.specs.declared.slots.Slots.{Slots}
use Rattle.sp_trees.specs.declared.env.Dd.{Dd}
use Rattle.sp_trees.specs.Slots.{none, union, has}
use Rattle.sp_trees.proofs.SlotLemmas.{has_union, has_none}
use Rattle.sp_trees.proofs.ConditionLemmas.{range_all}
use Rattle.sp_declarations.specs.Steps.{in_turn}
use Rattle.sp_checks.specs.declared.roles.Role.TheVariants as role
use Rattle.sp_checks.specs.declared.state.State.{State}
use Rattle.sp_checks.specs.Roles.{allowed_slots}
use Rattle.sp_checks.specs.Initial.{value_refusal}
use Rattle.sp_checks.specs.Sections.{section}
use Rattle.sp_spelled.specs.Signs.{line, Spelled}
use Rattle.sp_spelled.specs.Shapes.{spaced_word, product_group}
use Rattle.sp_spelled.proofs.Written.{deeper}
use Rattle.sp_written.specs.Acceptance.{mentions_of}
use Rattle.sp_written.specs.Meanings.{WritesTree, AreWritten, list_signs}
use Rattle.sp_written.proofs.Lawful as lawful
use Rattle.sp_written.proofs.Lines.{Leads, leads_both}
use Rattle.sp_written.proofs.Init.{is_in, own_is, AreFactorsOk, factors_of, leads_init}
use Rattle.sp_canonical.specs.Tables.{free_variables, is_on}
use Rattle.sp_canonical.specs.ModelSigns as shown
use Rattle.sp_canonical.specs.ModelSigns.{line_count, lines_total, functions_lines, factor_tables, summed_signs, factors_signs, init_signs}
use Rattle.sp_read_back.proofs.Slots.{n, scope_is}
use Rattle.sp_read_back.proofs.Functions.{env_with, dds_for, means_it, count_for}
use Rattle.sp_read_back.proofs.Roles.{table_shown}
use Rattle.sp_read_back.proofs.Actions.{dds_all, all_count, AreShown, at_dds, leads_all}
use Rattle.sp_read_back.proofs.Owned.{contains_in, in_both, not_both, rises_from, ends_below}
use Rattle.sp_read_back.proofs.Init.{summed_dd, summed_func, factor_written, owns}

none_of : (q : ℕ → Bool) (a k : ℕ) → ((i : ℕ) → a ≤ i → i < a + k → q i ≡ false) → list_any q (range_with_len a k) ≡ false
none_of q a zero h = refl
none_of q a (suc k) h = ap (λ b. b || list_any q (range_with_len (a + 1) k)) (h a (omega arith) (omega arith)) ∙ none_of q (a + 1) k (λ i l o. h i (omega arith) (omega arith))

left_false : (a b : Bool) → (a || b) ≡ false → a ≡ false
left_false true b h = h
left_false false b h = refl

filtered : (q : ℕ → Bool) (P : ℕ → Type 0) (xs : List ℕ) → All P xs → All P (filter q xs)
filtered q P [] h k d l = absurd (omega arith)
filtered q P (x ∷ xs) h k d l = go (q x) (filtered q P xs (λ j e o. h (suc j) e (omega arith))) k d l
  where
    go : (b : Bool) → All P (filter q xs) → All P (cond b (x ∷ filter q xs) (filter q xs))
    go true more zero d l = h 0 d (omega arith)
    go true more (suc k) d l = more k d (omega arith)
    go false more k d l = more k d l

module _ (p : Parts) (m : IsModel p) where
  abbrev pub AreGood : List Factor → Type 0
  AreGood [] = Unit {0}
  AreGood (f ∷ fs) = (IsFactor (shape_of p) f × IsFunc f.func) × AreGood fs

  abbrev pub factor_dd : Factor → Dd
  factor_dd f = summed_dd p m f.func (free_variables f)

  abbrev pub factor_dds : List Factor → List Dd
  factor_dds fs = map factor_dd fs

  abbrev pub own_lists : List Factor → List (List ℕ)
  own_lists fs = map (λ (f : Factor). f.own) fs

  abbrev factor_list : ℕ → List Factor → List (List Spelled)
  factor_list base [] = []
  factor_list base (f ∷ fs) = summed_signs p base (shown.gap_before fs) f.func (free_variables f) ∷ factor_list (base + line_count f.func) fs

  factor_list_is : (base : ℕ) (fs : List Factor) → list_signs (factor_list base fs) ≡ factors_signs p base fs
  factor_list_is base [] = refl
  factor_list_is base (f ∷ fs) = ap (λ us. summed_signs p base (shown.gap_before fs) f.func (free_variables f) ++ us) (factor_list_is (base + line_count f.func) fs)

  all_shown : (fs : List Factor) → AreGood fs → AreShown p m (factor_tables fs)
  all_shown [] h = tt
  all_shown (f ∷ fs) h = (table_shown p m f.func h.0.0.shape h.0.0.probability h.0.1, all_shown fs h.1)

  factors_written : (all before after : List Dd) (base : ℕ) (fs : List Factor) → AreGood fs → length all ≤ 2 ^ 64 → length before ≡ base → all ≡ before ++ (dds_all p m (factor_tables fs) ++ after)
      → AreWritten (env_with p m all) (allowed_slots (shape_of p) role.Init) 4 (factor_list base fs) (factor_dds fs)
  factors_written all before after base [] h fits at e = tt
  factors_written all before after base (f ∷ fs) h fits at e =
      let rest : List Dd = dds_all p m (factor_tables fs) ++ after in
      let apart : all ≡ before ++ (dds_for p m f.func ++ (dds_all p m (factor_tables fs) ++ after)) = e ∙ ap (λ l. before ++ l) (append_assoc (dds_for p m f.func) (dds_all p m (factor_tables fs)) after) in
      let one = length-append before (dds_for p m f.func ++ (dds_all p m (factor_tables fs) ++ after)) in
      let two = length-append (dds_for p m f.func) (dds_all p m (factor_tables fs) ++ after) in
      let count = count_for p m f.func in
      let whole = ap (λ (l : List Dd). length l) apart in
      let next = length-append before (dds_for p m f.func) in (
        subst (λ ds. WritesTree (env_with p m ds) (allowed_slots (shape_of p) role.Init) (factor_dd f) 4 (summed_signs p base (shown.gap_before fs) f.func (free_variables f))) (sym apart)
            (subst (λ b. WritesTree (env_with p m (before ++ (dds_for p m f.func ++ (dds_all p m (factor_tables fs) ++ after)))) (allowed_slots (shape_of p) role.Init) (factor_dd f) 4 (summed_signs p b (shown.gap_before fs) f.func (free_variables f))) at
            (factor_written p m before (dds_all p m (factor_tables fs) ++ after) f (free_variables f) (shown.gap_before fs) h.0.0 h.0.1
            (filtered (λ i. not (is_on (node_list f.func) (2 * i))) (λ i. i < n p m) f.own h.0.0.within) (omega arith))),
        factors_written all (before ++ dds_for p m f.func) after (base + line_count f.func) fs h.1 fits (omega arith) (apart ∙ sym (append_assoc before (dds_for p m f.func) (dds_all p m (factor_tables fs) ++ after))),
      )

  -- ---- they are accepted
  -- the used slots are those of the variables that are done
  abbrev IsUsed : Slots → List ℕ → Type 0
  IsUsed used done = (i : ℕ) → i < n p m → has used (2 * i) ≡ is_in done i

  used_more : (used : Slots) (done : List ℕ) (f : Factor) → IsFactor (shape_of p) f → IsFunc f.func → IsUsed used done → IsUsed (union used (factor_dd f).mentions) (done ++ f.own)
  used_more used done f is func h i l = has_union used (factor_dd f).mentions (2 * i) ∙ (λ k. h i l k || owns p m f is func i l k) ∙ sym (in_both done f.own i)

  factors_sound : (used : Slots) (done : List ℕ) (fs : List Factor) → AreGood fs → IsUsed used done → AllPairs (λ i j. i ≢ j) (done ++ all_own fs) → AreFactorsOk (n p m) used (factor_dds fs) (own_lists fs)
  factors_sound used done [] h u apart = tt
  factors_sound used done (f ∷ fs) h u apart = (
    record {
      apart = none_of (λ i. has used (2 * i) && has (factor_dd f).mentions (2 * i)) 0 (n p m) (λ i l o. one i (omega arith) (is_in done i) refl);
      own_of_it = own_is (n p m) (factor_dd f).mentions f.own (rises_from 0 f.own (λ k l. omega arith) h.0.0.rises) (ends_below (n p m) f.own h.0.0.within) (λ i l. owns p m f h.0.0 h.0.1 i l);
      values = λ at. ap (λ g. value_refusal at g f.own) (summed_func p m f.func (free_variables f) ∙ means_it p m f.func (table_shown p m f.func h.0.0.shape h.0.0.probability h.0.1)) ∙ lawful.sound_factor (shape_of p) (scope_is p m) at f h.0.0;
    },
    factors_sound (union used (factor_dd f).mentions) (done ++ f.own) fs h.1 (used_more used done f h.0.0 h.0.1 u) (subst (AllPairs (λ i j. i ≢ j)) (sym (append_assoc done f.own (all_own fs))) apart),
  )
    where
      one : (i : ℕ) → i < n p m → (b : Bool) → is_in done i ≡ b → (has used (2 * i) && has (factor_dd f).mentions (2 * i)) ≡ false
      one i l true e =
          let no = not_both done (f.own ++ all_own fs) i apart e in
          (λ k. (u i l ∙ e) k && (owns p m f h.0.0 h.0.1 i l ∙ left_false (is_in f.own i) (is_in (all_own fs) i) (sym (in_both f.own (all_own fs) i) ∙ no)) k)
      one i l false e = ap (λ b. b && has (factor_dd f).mentions (2 * i)) (u i l ∙ e)

  used_all : (used : Slots) (done : List ℕ) (fs : List Factor) → AreGood fs → IsUsed used done → IsUsed (mentions_of used (factor_dds fs)) (done ++ all_own fs)
  used_all used done [] h u i l = u i l ∙ ap (λ xs. is_in xs i) (sym (append-nil done))
  used_all used done (f ∷ fs) h u i l = used_all (union used (factor_dd f).mentions) (done ++ f.own) fs h.1 (used_more used done f h.0.0 h.0.1 u) i l ∙ ap (λ xs. is_in xs i) (append_assoc done f.own (all_own fs))

  same_factors : (fs : List Factor) → AreGood fs → factors_of (factor_dds fs) (own_lists fs) ≡ fs
  same_factors [] h = refl
  same_factors (f ∷ fs) h =
      let func = summed_func p m f.func (free_variables f) ∙ means_it p m f.func (table_shown p m f.func h.0.0.shape h.0.0.probability h.0.1) in
      (λ i. record { func = func i; own = f.own } ∷ same_factors fs h.1 i)

  -- ---- the section
  none_used : IsUsed none []
  none_used i l = has_none (2 * i)

  pub leads_factors : (fs : List Factor) → AreGood fs → AllPairs (λ i j. i ≢ j) (all_own fs) → ((i : ℕ) → i < n p m → Contains (all_own fs) i) → 0 < n p m → lines_total (factor_tables fs) ≤ 2 ^ 64
      → Leads (at_dds p m [] [] None None None []) (at_dds p m [] [] (Some fs) None None (dds_all p m (factor_tables fs))) 5 (init_signs p fs)
  leads_factors [] h apart every some fits = let none = (every 0 some).1 in absurd (omega arith)
  leads_factors (f ∷ fs) h apart every some fits =
      let all : List Dd = dds_all p m (factor_tables (f ∷ fs)) in
      let count = all_count p m (factor_tables (f ∷ fs)) in
      let read : State = at_dds p m [] [] None None None (dds_all p m (factor_tables (f ∷ fs))) in
      leads_both (at_dds p m [] [] None None None []) (at_dds p m [] [] None None None (dds_all p m (factor_tables (f ∷ fs)))) (at_dds p m [] [] (Some (f ∷ fs)) None None (dds_all p m (factor_tables (f ∷ fs)))) 5 _ _
      (deeper (AreAll IsSection) (λ source xs. in_turn (section source) (at_dds p m [] [] None None None []) xs ≡ Ok (at_dds p m [] [] None None None (dds_all p m (factor_tables (f ∷ fs))))) _ 3 5 (omega arith)
      (leads_all p m [] [] None None None [] (factor_tables (f ∷ fs)) (all_shown (f ∷ fs) h) (omega arith)))
      (subst (λ us. Leads (at_dds p m [] [] None None None (dds_all p m (factor_tables (f ∷ fs)))) (at_dds p m [] [] (Some (f ∷ fs)) None None (dds_all p m (factor_tables (f ∷ fs)))) 5 (spaced_word (codes "init") ∷ product_group us line)) (factor_list_is 0 (f ∷ fs))
      (subst (λ (gs : List Factor). Leads (at_dds p m [] [] None None None (dds_all p m (factor_tables (f ∷ fs)))) (at_dds p m [] [] (Some gs) None None (dds_all p m (factor_tables (f ∷ fs)))) 5 (spaced_word (codes "init") ∷ product_group (list_signs (factor_list 0 (f ∷ fs))) line))
      (same_factors (f ∷ fs) h)
      (leads_init (at_dds p m [] [] None None None (dds_all p m (factor_tables (f ∷ fs)))) 4 (factor_list 0 (f ∷ fs)) (factor_dd f) (factor_dds fs) (own_lists (f ∷ fs)) refl
      (factors_written (dds_all p m (factor_tables (f ∷ fs))) [] [] 0 (f ∷ fs) h (omega arith) refl (sym (append-nil (dds_all p m (factor_tables (f ∷ fs))))))
      (factors_sound none [] (f ∷ fs) h none_used apart)
      (range_all _ 0 (n p m) (λ i l o. used_all none [] (f ∷ fs) h none_used i (omega arith) ∙ contains_in (all_own (f ∷ fs)) i (every i (omega arith)))))))
