-- The actions of a canonical text.
use Rattle.std.proofs.Common.{◌≡◌, ℕ, zero, suc, ◌+◌, ◌^◌, ◌<◌, ◌≤◌, Bool, true, false, cond, List, [], ◌∷◌, ◌++◌, length, map, get_or, replicate, Option, Some, None, Ok, refl, sym, ap, ◌∙◌, subst, arith, append-nil, append_assoc, length-append}
use Rattle.std.specs.Cmp.Rules.{signed_items}
use Rattle.sp_dd.specs.Func.{Func, IsFunc}
use Rattle.sp_model.specs.declared.parts.Decl.{Decl}
use Rattle.sp_model.specs.declared.parts.Factor.{Factor}
use Rattle.sp_model.specs.declared.parts.Parts.{Parts}
use Rattle.sp_model.specs.Problem.{no_decl, no_func, shape_of}
use Rattle.sp_model.specs.Words.{IsModelName}
use Rattle.sp_model.specs.Kept.{IsModel, IsTransitionTable, IsSight}
use Rattle.sp_rows.specs.declared.tables.Table.TheVariants as table
use Rattle.sp_rows.specs.Tables.{identity}
use Rattle.sp_trees.specs.declared.env.Dd.{Dd}
use Rattle.sp_trees.specs.declared.nodes.Place.TheVariants.{Variable, Sight}
use Rattle.sp_trees.specs.Nodes.{place_of}
use Rattle.sp_declarations.specs.Steps.{in_turn}
use Rattle.sp_checks.specs.declared.roles.Role.TheVariants as role
use Rattle.sp_checks.specs.declared.state.Draft.{Draft}
use Rattle.sp_checks.specs.declared.state.State.{State}
use Rattle.sp_checks.specs.Roles.{allowed_slots}
use Rattle.sp_checks.specs.Accepted.{table_refusal}
use Rattle.sp_checks.specs.Actions.{sight_step}
use Rattle.sp_spelled.specs.Signs.{line}
use Rattle.sp_written.specs.Meanings.{WritesTree}
use Rattle.sp_written.proofs.Names.{named}
use Rattle.sp_written.proofs.Lines.{Leads, leads_both, leads_nowhere}
use Rattle.sp_written.proofs.Blocks.{Line, move_signs, sight_signs, move_table, sight_table, AreMoves, AreSights, AreTables}
use Rattle.sp_written.proofs.Lawful as lawful
use Rattle.sp_canonical.specs.Tables.{named_tables, moving_tables, is_identity}
use Rattle.sp_canonical.specs.ModelSigns.{function_lines, function_signs, line_count, lines_total, functions_lines, tables_of, named_line, named_lines}
use Rattle.sp_read_back.proofs.Slots.{n, env_of, scope_is, variable_place, sight_place}
use Rattle.sp_read_back.proofs.Functions.{state_of, all_dds, env_with, dds_for, dd_for, IsShown, MayMention, leads_lines, means_it, count_for, writes_function}
use Rattle.sp_read_back.proofs.Roles.{move_mentions, sight_mentions, table_shown}

module _ (p : Parts) (m : IsModel p) where
  -- ---- the lines of functions
  abbrev pub dds_all : List Func → List Dd
  dds_all [] = []
  dds_all (f ∷ fs) = dds_for p m f ++ dds_all fs

  pub all_count : (fs : List Func) → length (dds_all fs) ≡ lines_total fs
  all_count [] = refl
  all_count (f ∷ fs) = let long = length-append (dds_for p m f) (dds_all fs) in let one = count_for p m f in let rest = all_count fs in omega arith

  abbrev pub AreShown : List Func → Type 0
  AreShown [] = Unit {0}
  AreShown (f ∷ fs) = IsShown p m f × AreShown fs

  module _ (names : List (List ℕ)) (actions : List Draft) (init : Option (List Factor)) (reward : Option Func) (discount : Option ℕ) where
    abbrev pub at_dds : List Dd → State
    at_dds ds = state_of p m names actions init reward discount (all_dds p m ds)

    pub leads_all : (before : List Dd) (fs : List Func) → AreShown fs → length before + lines_total fs ≤ 2 ^ 64 → Leads (at_dds before) (at_dds (before ++ dds_all fs)) 3 (functions_lines p (length before) fs)
    leads_all before [] h l = subst (λ ds. Leads (at_dds before) (at_dds ds) 3 []) (sym (append-nil before)) (leads_nowhere (at_dds before) 3)
    leads_all before (f ∷ fs) h l =
        let long = length-append before (dds_for p m f) in
        let one = count_for p m f in
        let next : length (before ++ dds_for p m f) ≡ length before + line_count f = omega arith in
        leads_both (at_dds before) (at_dds (before ++ dds_for p m f)) (at_dds (before ++ (dds_for p m f ++ dds_all fs))) 3 (function_lines p (length before) f) (functions_lines p (length before + line_count f) fs)
        (leads_lines p m names actions init reward discount before f h.0 (omega arith))
        (subst (λ b. Leads (at_dds (before ++ dds_for p m f)) (at_dds (before ++ (dds_for p m f ++ dds_all fs))) 3 (functions_lines p b fs)) next
        (subst (λ ds. Leads (at_dds (before ++ dds_for p m f)) (at_dds ds) 3 (functions_lines p (length (before ++ dds_for p m f)) fs)) (append_assoc before (dds_for p m f) (dds_all fs))
        (leads_all (before ++ dds_for p m f) fs h.1 (omega arith))))

  -- ---- the lines of tables
  abbrev pub line_of : ℕ → Decl → Func → Line
  line_of base d f = record { name = d.name; signs = function_signs base line f; dd = dd_for p m f }

  abbrev pub move_lines : ℕ → ℕ → List Decl → List Func → List (Option Line)
  move_lines base i [] fs = []
  move_lines base i (d ∷ ds) [] = []
  move_lines base i (d ∷ ds) (f ∷ fs) = cond (is_identity (shape_of p) i f) (None ∷ move_lines base (suc i) ds fs) (Some (line_of base d f) ∷ move_lines (base + line_count f) (suc i) ds fs)

  abbrev pub sight_lines : ℕ → List Decl → List Func → List Line
  sight_lines base [] fs = []
  sight_lines base (d ∷ ds) [] = []
  sight_lines base (d ∷ ds) (f ∷ fs) = line_of base d f ∷ sight_lines (base + line_count f) ds fs

  pub move_signs_are : (base i : ℕ) (ds : List Decl) (fs : List Func) → move_signs (move_lines base i ds fs) ≡ named_lines base (moving_tables (shape_of p) i ds fs)
  move_signs_are base i [] fs = refl
  move_signs_are base i (d ∷ ds) [] = refl
  move_signs_are base i (d ∷ ds) (f ∷ fs) = go (is_identity (shape_of p) i f) (move_signs_are base (suc i) ds fs) (move_signs_are (base + line_count f) (suc i) ds fs)
    where
      go : (b : Bool) → move_signs (move_lines base (suc i) ds fs) ≡ named_lines base (moving_tables (shape_of p) (suc i) ds fs)
          → move_signs (move_lines (base + line_count f) (suc i) ds fs) ≡ named_lines (base + line_count f) (moving_tables (shape_of p) (suc i) ds fs)
          → move_signs (cond b (None ∷ move_lines base (suc i) ds fs) (Some (line_of base d f) ∷ move_lines (base + line_count f) (suc i) ds fs))
          ≡ named_lines base (cond b (moving_tables (shape_of p) (suc i) ds fs) (record { name = d.name; table = f } ∷ moving_tables (shape_of p) (suc i) ds fs))
      go true h k = h
      go false h k = ap (λ us. named_line base d.name f ++ us) k

  pub sight_signs_are : (base : ℕ) (ds : List Decl) (fs : List Func) → sight_signs (sight_lines base ds fs) ≡ named_lines base (named_tables ds fs)
  sight_signs_are base [] fs = refl
  sight_signs_are base (d ∷ ds) [] = refl
  sight_signs_are base (d ∷ ds) (f ∷ fs) = ap (λ us. named_line base d.name f ++ us) (sight_signs_are (base + line_count f) ds fs)

  pub move_count : (base i : ℕ) (ds : List Decl) (fs : List Func) → length ds ≡ length fs → length (move_lines base i ds fs) ≡ length ds
  move_count base i [] fs h = refl
  move_count base i (d ∷ ds) [] h = absurd (omega arith)
  move_count base i (d ∷ ds) (f ∷ fs) h = go (is_identity (shape_of p) i f) (move_count base (suc i) ds fs (omega arith)) (move_count (base + line_count f) (suc i) ds fs (omega arith))
    where
      go : (b : Bool) → length (move_lines base (suc i) ds fs) ≡ length ds → length (move_lines (base + line_count f) (suc i) ds fs) ≡ length ds
          → length (cond b (None ∷ move_lines base (suc i) ds fs) (Some (line_of base d f) ∷ move_lines (base + line_count f) (suc i) ds fs)) ≡ suc (length ds)
      go true h k = ap suc h
      go false h k = ap suc k

  pub sight_count : (base : ℕ) (ds : List Decl) (fs : List Func) → length ds ≡ length fs → length (sight_lines base ds fs) ≡ length ds
  sight_count base [] fs h = refl
  sight_count base (d ∷ ds) [] h = absurd (omega arith)
  sight_count base (d ∷ ds) (f ∷ fs) h = ap suc (sight_count (base + line_count f) ds fs (omega arith))

  abbrev pub no_table : Option Func
  no_table = None

  pub none_list : {X : Type 0} (xs : List X) (k : ℕ) → length xs ≡ k → replicate k no_table ≡ map (λ (x : X). no_table) xs
  none_list [] zero h = refl
  none_list [] (suc k) h = absurd (omega arith)
  none_list (x ∷ xs) zero h = absurd (omega arith)
  none_list (x ∷ xs) (suc k) h = ap (λ l. no_table ∷ l) (none_list xs k (omega arith))

  -- a table that isn't left out is that of the model
  left_out : (i : ℕ) (f : Func) → f.shape ≡ shape_of p → is_identity (shape_of p) i f ≡ true → identity (shape_of p) i ≡ f
  left_out i f shape e =
      let leaves = (signed_items f.leaves (identity (shape_of p) i).leaves).0 e in
      (λ k. record { shape = sym shape k; leaves = sym leaves k })

  -- the tables of variables from the i-th on
  pub record AreMovesOf (i : ℕ) (ds : List Decl) (fs : List Func) : Type 0 where
    pub count : length ds ≡ length fs
    pub within : i + length ds ≤ n p m
    pub decl : (k : ℕ) → k < length ds → get_or ds k no_decl ≡ get_or p.variables (i + k) no_decl
    pub move : (k : ℕ) → k < length ds → IsTransitionTable (shape_of p) (i + k) (get_or fs k no_func)
    pub func : (k : ℕ) → k < length ds → IsFunc (get_or fs k no_func)

  pub next_moves : (i : ℕ) (d : Decl) (ds : List Decl) (f : Func) (fs : List Func) → AreMovesOf i (d ∷ ds) (f ∷ fs) → AreMovesOf (suc i) ds fs
  next_moves i d ds f fs h =
      let within = h.within in
      let count = h.count in
      record {
        count = omega arith;
        within = omega arith;
        decl = λ k l. h.decl (suc k) (omega arith) ∙ (let e : i + suc k ≡ suc i + k = omega arith in ap (λ j. get_or p.variables j no_decl) e);
        move = λ k l. subst (λ j. IsTransitionTable (shape_of p) j (get_or fs k no_func)) (let e : i + suc k ≡ suc i + k = omega arith in e) (h.move (suc k) (omega arith));
        func = λ k l. h.func (suc k) (omega arith);
      }

  pub record AreSightsOf (i : ℕ) (ds : List Decl) (fs : List Func) : Type 0 where
    pub count : length ds ≡ length fs
    pub within : i + length ds ≤ length p.sights
    pub decl : (k : ℕ) → k < length ds → get_or ds k no_decl ≡ get_or p.sights (i + k) no_decl
    pub sight : (k : ℕ) → k < length ds → IsSight (shape_of p) (i + k) (get_or fs k no_func)
    pub func : (k : ℕ) → k < length ds → IsFunc (get_or fs k no_func)

  pub next_sights : (i : ℕ) (d : Decl) (ds : List Decl) (f : Func) (fs : List Func) → AreSightsOf i (d ∷ ds) (f ∷ fs) → AreSightsOf (suc i) ds fs
  next_sights i d ds f fs h =
      let within = h.within in
      let count = h.count in
      record {
        count = omega arith;
        within = omega arith;
        decl = λ k l. h.decl (suc k) (omega arith) ∙ (let e : i + suc k ≡ suc i + k = omega arith in ap (λ j. get_or p.sights j no_decl) e);
        sight = λ k l. subst (λ j. IsSight (shape_of p) j (get_or fs k no_func)) (let e : i + suc k ≡ suc i + k = omega arith in e) (h.sight (suc k) (omega arith));
        func = λ k l. h.func (suc k) (omega arith);
      }

  same_name : (dds : List (List ℕ × Dd)) (i : ℕ) (d : Decl) → i < n p m → d ≡ get_or p.variables i no_decl → place_of (env_of p m dds) d.name ≡ Some (Variable i)
  same_name dds i d l e = ap (λ (c : Decl). place_of (env_of p m dds) c.name) e ∙ variable_place p m dds i l

  same_sight : (dds : List (List ℕ × Dd)) (j : ℕ) (d : Decl) → j < length p.sights → d ≡ get_or p.sights j no_decl → place_of (env_of p m dds) d.name ≡ Some (Sight j)
  same_sight dds j d l e = ap (λ (c : Decl). place_of (env_of p m dds) c.name) e ∙ sight_place p m dds j l

  pub move_shown : (i : ℕ) (f : Func) → IsTransitionTable (shape_of p) i f → IsFunc f → IsShown p m f
  move_shown i f is func = table_shown p m f is.shape is.probability func

  pub sight_shown : (j : ℕ) (f : Func) → IsSight (shape_of p) j f → IsFunc f → IsShown p m f
  sight_shown j f is func = table_shown p m f is.shape is.probability func

  -- ---- each line
  module _ (action : ℕ) (all : List Dd) (fits : length all ≤ 2 ^ 64) where
    pub is_line : (r : _) (before after : List Dd) (base : ℕ) (f : Func) → IsShown p m f → MayMention p m r f → length before ≡ base → all ≡ before ++ (dds_for p m f ++ after)
        → WritesTree (env_with p m all) (allowed_slots (shape_of p) r) (dd_for p m f) 1 (function_signs base line f)
    is_line r before after base f shown may at e =
        let long = length-append before (dds_for p m f ++ after) in
        let more = length-append (dds_for p m f) after in
        let one = count_for p m f in
        let same = ap (λ (l : List Dd). length l) e in
        subst (λ ds. WritesTree (env_with p m ds) (allowed_slots (shape_of p) r) (dd_for p m f) 1 (function_signs base line f)) (sym e)
        (subst (λ b. WritesTree (env_with p m (before ++ (dds_for p m f ++ after))) (allowed_slots (shape_of p) r) (dd_for p m f) 1 (function_signs b line f)) at
        (writes_function p m r before after f line shown may (omega arith)))

    pub moves_lines : (base i : ℕ) (before after : List Dd) (ds : List Decl) (fs : List Func) → AreMovesOf i ds fs → length before ≡ base → all ≡ before ++ (dds_all (tables_of (moving_tables (shape_of p) i ds fs)) ++ after)
        → AreMoves (env_with p m all) action 1 i (move_lines base i ds fs)
    moves_lines base i before after [] fs h at e = tt
    moves_lines base i before after (d ∷ ds) [] h at e = let count = h.count in absurd (omega arith)
    moves_lines base i before after (d ∷ ds) (f ∷ fs) h at e = go (is_identity (shape_of p) i f) e
        (λ q. moves_lines base (suc i) before after ds fs (next_moves i d ds f fs h) at q)
        (λ q. moves_lines (base + line_count f) (suc i) (before ++ dds_for p m f) after ds fs (next_moves i d ds f fs h) (let long = length-append before (dds_for p m f) in let one = count_for p m f in omega arith) q)
      where
        here : i + 0 ≡ i
        here = omega arith

        within : i < n p m
        within = let w = h.within in omega arith

        is : IsTransitionTable (shape_of p) i f
        is = subst (λ j. IsTransitionTable (shape_of p) j f) here (h.move 0 (omega arith))

        decl_is : d ≡ get_or p.variables i no_decl
        decl_is = h.decl 0 (omega arith) ∙ ap (λ j. get_or p.variables j no_decl) here

        go : (b : Bool) → all ≡ before ++ (dds_all (tables_of (cond b (moving_tables (shape_of p) (suc i) ds fs) (record { name = d.name; table = f } ∷ moving_tables (shape_of p) (suc i) ds fs))) ++ after)
            → (all ≡ before ++ (dds_all (tables_of (moving_tables (shape_of p) (suc i) ds fs)) ++ after) → AreMoves (env_with p m all) action 1 (suc i) (move_lines base (suc i) ds fs))
            → (all ≡ (before ++ dds_for p m f) ++ (dds_all (tables_of (moving_tables (shape_of p) (suc i) ds fs)) ++ after) → AreMoves (env_with p m all) action 1 (suc i) (move_lines (base + line_count f) (suc i) ds fs))
            → AreMoves (env_with p m all) action 1 i (cond b (None ∷ move_lines base (suc i) ds fs) (Some (line_of base d f) ∷ move_lines (base + line_count f) (suc i) ds fs))
        go true q left put = left q
        go false q left put =
            let rest : List Dd = dds_all (tables_of (moving_tables (shape_of p) (suc i) ds fs)) ++ after in
            let apart : all ≡ before ++ (dds_for p m f ++ (dds_all (tables_of (moving_tables (shape_of p) (suc i) ds fs)) ++ after)) = q ∙ ap (λ l. before ++ l) (append_assoc (dds_for p m f) (dds_all (tables_of (moving_tables (shape_of p) (suc i) ds fs))) after) in
            let known = m.variables i no_decl within in
            let shown = move_shown i f is (h.func 0 (omega arith)) in (
              record {
                name = named d.name (subst (λ (c : Decl). IsModelName c.name) (sym decl_is) known.name);
                place = same_name (all_dds p m all) i d within decl_is;
                writes = is_line (role.Table (table.Move i)) before (dds_all (tables_of (moving_tables (shape_of p) (suc i) ds fs)) ++ after) base f shown (move_mentions p m i f is) at apart;
                sound = λ place. ap (λ g. table_refusal (n p m) action (table.Move i) place g) (means_it p m f shown) ∙ lawful.sound_move (shape_of p) (scope_is p m) (n p m) action i place f is;
              },
              put (apart ∙ sym (append_assoc before (dds_for p m f) (dds_all (tables_of (moving_tables (shape_of p) (suc i) ds fs)) ++ after))),
            )

    pub sights_lines : (base j : ℕ) (before after : List Dd) (ds : List Decl) (fs : List Func) → AreSightsOf j ds fs → length before ≡ base → all ≡ before ++ (dds_all (tables_of (named_tables ds fs)) ++ after)
        → AreSights (env_with p m all) action 1 j (sight_lines base ds fs)
    sights_lines base j before after [] fs h at e = tt
    sights_lines base j before after (d ∷ ds) [] h at e = let count = h.count in absurd (omega arith)
    sights_lines base j before after (d ∷ ds) (f ∷ fs) h at e =
        let here : j + 0 ≡ j = omega arith in
        let inside = h.within in
        let within : j < length p.sights = omega arith in
        let is : IsSight (shape_of p) j f = subst (λ k. IsSight (shape_of p) k f) here (h.sight 0 (omega arith)) in
        let decl_is : d ≡ get_or p.sights j no_decl = h.decl 0 (omega arith) ∙ ap (λ k. get_or p.sights k no_decl) here in
        let apart : all ≡ before ++ (dds_for p m f ++ (dds_all (tables_of (named_tables ds fs)) ++ after)) = e ∙ ap (λ l. before ++ l) (append_assoc (dds_for p m f) (dds_all (tables_of (named_tables ds fs))) after) in
        let known = m.sights j no_decl within in
        let shown = sight_shown j f is (h.func 0 (omega arith)) in
        let long = length-append before (dds_for p m f) in
        let one = count_for p m f in (
          record {
            name = named d.name (subst (λ (c : Decl). IsModelName c.name) (sym decl_is) known.name);
            place = same_sight (all_dds p m all) j d within decl_is;
            writes = is_line (role.Table (table.Sight j)) before (dds_all (tables_of (named_tables ds fs)) ++ after) base f shown (sight_mentions p m j f is) at apart;
            sound = λ place. ap (λ g. table_refusal (n p m) action (table.Sight j) place g) (means_it p m f shown) ∙ lawful.sound_sight (shape_of p) (scope_is p m) (n p m) action j place f is;
          },
          sights_lines (base + line_count f) (suc j) (before ++ dds_for p m f) after ds fs (next_sights j d ds f fs h) (omega arith)
              (apart ∙ sym (append_assoc before (dds_for p m f) (dds_all (tables_of (named_tables ds fs)) ++ after))),
        )

  -- ---- what was listed
  pub moves_told : (base i : ℕ) (ds : List Decl) (fs : List Func) → AreMovesOf i ds fs → AreTables (shape_of p) i (map move_table (move_lines base i ds fs)) fs
  moves_told base i [] [] h = tt
  moves_told base i [] (f ∷ fs) h = let count = h.count in absurd (omega arith)
  moves_told base i (d ∷ ds) [] h = let count = h.count in absurd (omega arith)
  moves_told base i (d ∷ ds) (f ∷ fs) h = go (is_identity (shape_of p) i f) refl (moves_told base (suc i) ds fs (next_moves i d ds f fs h)) (moves_told (base + line_count f) (suc i) ds fs (next_moves i d ds f fs h))
    where
      is : IsTransitionTable (shape_of p) i f
      is = subst (λ j. IsTransitionTable (shape_of p) j f) (let e : i + 0 ≡ i = omega arith in e) (h.move 0 (omega arith))

      go : (b : Bool) → is_identity (shape_of p) i f ≡ b → AreTables (shape_of p) (suc i) (map move_table (move_lines base (suc i) ds fs)) fs → AreTables (shape_of p) (suc i) (map move_table (move_lines (base + line_count f) (suc i) ds fs)) fs
          → AreTables (shape_of p) i (map move_table (cond b (None ∷ move_lines base (suc i) ds fs) (Some (line_of base d f) ∷ move_lines (base + line_count f) (suc i) ds fs))) (f ∷ fs)
      go true e left put = (left_out i f is.shape e, left)
      go false e left put = (means_it p m f (move_shown i f is (h.func 0 (omega arith))), put)

  pub sights_told : (base j at : ℕ) (done : List Func) (ds : List Decl) (fs : List Func) → AreSightsOf j ds fs → in_turn (sight_step at) done (map sight_table (sight_lines base ds fs)) ≡ Ok (done ++ fs)
  unfolding in_turn
  sights_told base j at done [] [] h = ap Ok (sym (append-nil done))
  sights_told base j at done [] (f ∷ fs) h = let count = h.count in absurd (omega arith)
  sights_told base j at done (d ∷ ds) [] h = let count = h.count in absurd (omega arith)
  sights_told base j at done (d ∷ ds) (f ∷ fs) h =
      let is : IsSight (shape_of p) j f = subst (λ k. IsSight (shape_of p) k f) (let e : j + 0 ≡ j = omega arith in e) (h.sight 0 (omega arith)) in
      ap (λ g. in_turn (sight_step at) (done ++ g ∷ []) (map sight_table (sight_lines (base + line_count f) ds fs))) (means_it p m f (sight_shown j f is (h.func 0 (omega arith))))
      ∙ sights_told (base + line_count f) (suc j) at (done ++ f ∷ []) ds fs (next_sights j d ds f fs h) ∙ ap Ok (append_assoc done (f ∷ []) fs)
