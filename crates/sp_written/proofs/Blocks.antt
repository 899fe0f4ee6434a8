-- The lines of an action's tables, one behind another.
use Rattle.std.proofs.Common.{◌≡◌, ℕ, suc, ◌+◌, List, [], ◌∷◌, ◌++◌, length, map, get_or, set, Option, Some, None, Ok, refl, sym, ap, ◌∙◌, subst, append_assoc, length-append, arith}
use Rattle.std.specs.Prelude.{is_some, slice_index_or, slice_set}
use Rattle.std.specs.List.{range_with_len}
use Rattle.sp_syntax.specs.Grammar.{IsItem, IsObserved, AreAll}
use Rattle.sp_spelled.specs.Signs.{Spelled}
use Rattle.sp_spelled.specs.Shapes.{spaced_word}
use Rattle.sp_spelled.specs.Written.{Written, IsNameWord}
use Rattle.sp_spelled.proofs.Written.{written_nothing, written_alone, written_lists, deeper}
use Rattle.sp_dd.specs.Func.{Shape, Func}
use Rattle.sp_rows.specs.declared.tables.Table.{Table}
use Rattle.sp_rows.specs.declared.tables.Table.TheVariants as table
use Rattle.sp_trees.specs.declared.env.Dd.{Dd}
use Rattle.sp_trees.specs.declared.env.Env.{Env}
use Rattle.sp_trees.specs.declared.nodes.Place.{Place}
use Rattle.sp_trees.specs.declared.nodes.Place.TheVariants.{Variable, Sight}
use Rattle.sp_trees.specs.Nodes.{place_of}
use Rattle.sp_declarations.specs.Steps.{in_turn}
use Rattle.sp_checks.specs.declared.roles.Role.TheVariants as role
use Rattle.sp_checks.specs.declared.items.Listed.{Listed}
use Rattle.sp_checks.specs.Roles.{allowed_slots}
use Rattle.sp_checks.specs.Accepted.{table_refusal}
use Rattle.sp_checks.specs.Actions.{item, observe_entry, or_identity, moves_of}
use Rattle.sp_written.specs.Meanings.{WritesTree}
use Rattle.sp_written.proofs.Lines.{in_turn_both, in_turn_alone}
use Rattle.sp_written.proofs.Items.{writes_variable, writes_observed}

-- ---- places of a list
at_end : {X : Type 0} (done : List X) (x d : X) (rest : List X) → get_or (done ++ x ∷ rest) (length done) d ≡ x
at_end [] x d rest = refl
at_end (y ∷ done) x d rest = at_end done x d rest

set_end : {X : Type 0} (done : List X) (x y : X) (rest : List X) → set (done ++ x ∷ rest) (length done) y ≡ done ++ y ∷ rest
set_end [] x y rest = refl
set_end (z ∷ done) x y rest = ap (λ l. z ∷ l) (set_end done x y rest)

-- a table under its variable's name
pub record Line : Type 0 where
  pub name : List ℕ
  pub signs : List Spelled
  pub dd : Dd

abbrev pub line_signs : Line → List Spelled
line_signs l = spaced_word l.name ∷ l.signs

-- the lines of variables, of which some have none
abbrev pub move_signs : List (Option Line) → List Spelled
move_signs [] = []
move_signs (None ∷ ls) = move_signs ls
move_signs (Some l ∷ ls) = line_signs l ++ move_signs ls

abbrev pub sight_signs : List Line → List Spelled
sight_signs [] = []
sight_signs (l ∷ ls) = line_signs l ++ sight_signs ls

abbrev pub move_table : Option Line → Option Func
move_table None = None
move_table (Some l) = Some l.dd.func

abbrev pub sight_table : Line → Option Func
sight_table l = Some l.dd.func

module _ (env : Env) where
  -- the line is one of that table
  pub record IsLine (action : ℕ) (t : Table) (p : Place) (depth : ℕ) (l : Line) : Type 0 where
    pub name : IsNameWord l.name
    pub place : place_of env l.name ≡ Some p
    pub writes : WritesTree env (allowed_slots env.scope (role.Table t)) l.dd depth l.signs
    pub sound : (at : ℕ) → table_refusal env.scope.variables action t at l.dd.func ≡ None

  abbrev pub AreMoves : ℕ → ℕ → ℕ → List (Option Line) → Type 0
  AreMoves action depth i [] = Unit {0}
  AreMoves action depth i (None ∷ ls) = AreMoves action depth (suc i) ls
  AreMoves action depth i (Some l ∷ ls) = IsLine action (table.Move i) (Variable i) depth l × AreMoves action depth (suc i) ls

  abbrev pub AreSights : ℕ → ℕ → ℕ → List Line → Type 0
  AreSights action depth j [] = Unit {0}
  AreSights action depth j (l ∷ ls) = IsLine action (table.Sight j) (Sight j) depth l × AreSights action depth (suc j) ls

  -- ---- items
  -- reading the signs as items leads from one listing to the other
  abbrev pub Lists : Listed → Listed → ℕ → List Spelled → Type 0
  Lists l m depth us = Written (AreAll IsItem) (λ source xs. in_turn (item env source) l xs ≡ Ok m) depth us

  pub lists_nothing : (l : Listed) (depth : ℕ) → Lists l l depth []
  unfolding in_turn
  lists_nothing l depth = deeper (AreAll IsItem) _ [] 0 depth (omega arith) (written_nothing IsItem (λ source xs. in_turn (item env source) l xs ≡ Ok l) (λ source. refl))

  pub lists_one : (l m : Listed) (depth : ℕ) (us : List Spelled) → Written IsItem (λ source x. item env source l x ≡ Ok m) depth us → Lists l m depth us
  lists_one l m depth us part = written_alone IsItem (λ source x. item env source l x ≡ Ok m) (λ source xs. in_turn (item env source) l xs ≡ Ok m) us depth part (λ source x h. in_turn_alone (item env source) l m x h)

  pub lists_both : (k l m : Listed) (depth : ℕ) (us vs : List Spelled) → Lists k l depth us → Lists l m depth vs → Lists k m depth (us ++ vs)
  lists_both k l m depth us vs first second = written_lists IsItem _ _ _ us vs depth first second (λ source xs ys h j. in_turn_both (item env source) k l (Ok m) xs ys h j)

  -- the lines of variables from the number of those done on
  pub lists_moves : (l : Listed) (done : List (Option Func)) (depth : ℕ) (ls : List (Option Line)) → l.moves ≡ done ++ map (λ o. None) ls → AreMoves l.action depth (length done) ls
      → Lists l (record l { moves = done ++ map move_table ls }) depth (move_signs ls)
  lists_moves l done depth [] none are = subst (λ ts. Lists l (record l { moves = ts }) depth []) none (lists_nothing l depth)
  lists_moves l done depth (None ∷ ls) none are =
      let long = length-append done (None ∷ []) in
      let next : suc (length done) ≡ length (done ++ None ∷ []) = omega arith in
      subst (λ ts. Lists l (record l { moves = ts }) depth (move_signs ls)) (append_assoc done (None ∷ []) (map move_table ls))
      (lists_moves l (done ++ None ∷ []) depth ls (none ∙ sym (append_assoc done (None ∷ []) (map (λ o. None) ls))) (subst (λ i. AreMoves l.action depth i ls) next are))
  lists_moves l done depth (Some x ∷ ls) none are =
      let long = length-append done (Some x.dd.func ∷ []) in
      let next : suc (length done) ≡ length (done ++ Some x.dd.func ∷ []) = omega arith in
      let written : slice_set l.moves (length done) (Some x.dd.func) ≡ (done ++ Some x.dd.func ∷ []) ++ map (λ o. None) ls =
      ap (λ ts. slice_set ts (length done) (Some x.dd.func)) none ∙ set_end done None (Some x.dd.func) (map (λ o. None) ls) ∙ sym (append_assoc done (Some x.dd.func ∷ []) (map (λ o. None) ls)) in
      let is = are.0 in
      lists_both l (record l { moves = slice_set l.moves (length done) (Some x.dd.func) }) (record l { moves = done ++ Some x.dd.func ∷ map move_table ls }) depth (line_signs x) (move_signs ls)
      (lists_one l (record l { moves = slice_set l.moves (length done) (Some x.dd.func) }) depth (line_signs x)
      (writes_variable env l x.name is.name x.dd x.signs depth (length done) is.place (ap (λ ts. is_some (slice_index_or ts (length done) None)) none ∙ ap is_some (at_end done None None (map (λ o. None) ls))) is.sound is.writes))
      (subst (λ ts. Lists (record l { moves = slice_set l.moves (length done) (Some x.dd.func) }) (record l { moves = ts }) depth (move_signs ls)) (append_assoc done (Some x.dd.func ∷ []) (map move_table ls))
      (lists_moves (record l { moves = slice_set l.moves (length done) (Some x.dd.func) }) (done ++ Some x.dd.func ∷ []) depth ls written (subst (λ i. AreMoves l.action depth i ls) next are.1)))

  -- ---- the list of observe
  abbrev pub Observes : Listed → Listed → ℕ → List Spelled → Type 0
  Observes l m depth us = Written (AreAll IsObserved) (λ source xs. in_turn (observe_entry env source) l xs ≡ Ok m) depth us

  observes_nothing : (l : Listed) (depth : ℕ) → Observes l l depth []
  unfolding in_turn
  observes_nothing l depth = deeper (AreAll IsObserved) _ [] 0 depth (omega arith) (written_nothing IsObserved (λ source xs. in_turn (observe_entry env source) l xs ≡ Ok l) (λ source. refl))

  -- the lines of observation variables from the number of those done on
  pub observes_sights : (l : Listed) (done : List (Option Func)) (depth : ℕ) (ls : List Line) → l.sights ≡ done ++ map (λ o. None) ls → AreSights l.action depth (length done) ls
      → Observes l (record l { sights = done ++ map sight_table ls }) depth (sight_signs ls)
  observes_sights l done depth [] none are = subst (λ ts. Observes l (record l { sights = ts }) depth []) none (observes_nothing l depth)
  observes_sights l done depth (x ∷ ls) none are =
      let long = length-append done (Some x.dd.func ∷ []) in
      let next : suc (length done) ≡ length (done ++ Some x.dd.func ∷ []) = omega arith in
      let written : slice_set l.sights (length done) (Some x.dd.func) ≡ (done ++ Some x.dd.func ∷ []) ++ map (λ o. None) ls =
      ap (λ ts. slice_set ts (length done) (Some x.dd.func)) none ∙ set_end done None (Some x.dd.func) (map (λ o. None) ls) ∙ sym (append_assoc done (Some x.dd.func ∷ []) (map (λ o. None) ls)) in
      let is = are.0 in
      let m : Listed = record l { sights = slice_set l.sights (length done) (Some x.dd.func) } in
      written_lists IsObserved _ _ _ (line_signs x) (sight_signs ls) depth
      (written_alone IsObserved (λ source y. observe_entry env source l y ≡ Ok (record l { sights = slice_set l.sights (length done) (Some x.dd.func) }))
      (λ source ys. in_turn (observe_entry env source) l ys ≡ Ok (record l { sights = slice_set l.sights (length done) (Some x.dd.func) })) (line_signs x) depth
      (writes_observed env l x.name is.name x.dd x.signs depth (length done) is.place (ap (λ ts. is_some (slice_index_or ts (length done) None)) none ∙ ap is_some (at_end done None None (map (λ o. None) ls))) is.sound is.writes)
      (λ source y h. in_turn_alone (observe_entry env source) l (record l { sights = slice_set l.sights (length done) (Some x.dd.func) }) y h))
      (subst (λ ts. Observes (record l { sights = slice_set l.sights (length done) (Some x.dd.func) }) (record l { sights = ts }) depth (sight_signs ls)) (append_assoc done (Some x.dd.func ∷ []) (map sight_table ls))
      (observes_sights (record l { sights = slice_set l.sights (length done) (Some x.dd.func) }) (done ++ Some x.dd.func ∷ []) depth ls written (subst (λ j. AreSights l.action depth j ls) next are.1)))
      (λ source ys zs h k. in_turn_both (observe_entry env source) l (record l { sights = slice_set l.sights (length done) (Some x.dd.func) }) (Ok (record l { sights = done ++ map sight_table (x ∷ ls) })) ys zs h k)

-- ---- the tables of all variables
-- each line's table, or that of a variable that keeps its value
abbrev pub AreTables : Shape → ℕ → List (Option Func) → List Func → Type 0
AreTables s i [] [] = Unit {0}
AreTables s i [] (f ∷ fs) = ⊥
AreTables s i (t ∷ ts) [] = ⊥
AreTables s i (t ∷ ts) (f ∷ fs) = (or_identity s i t ≡ f) × AreTables s (suc i) ts fs

tables_from : (s : Shape) (done ts : List (Option Func)) (fs : List Func) → AreTables s (length done) ts fs → map (λ i. or_identity s i (get_or (done ++ ts) i None)) (range_with_len (length done) (length ts)) ≡ fs
tables_from s done [] [] h = refl
tables_from s done [] (f ∷ fs) h = absurd h
tables_from s done (t ∷ ts) [] h = absurd h
tables_from s done (t ∷ ts) (f ∷ fs) h =
    let long = length-append done (t ∷ []) in
    let next : length done + 1 ≡ length (done ++ t ∷ []) = omega arith in
    let after : suc (length done) ≡ length (done ++ t ∷ []) = omega arith in
    let same : done ++ (t ∷ ts) ≡ (done ++ t ∷ []) ++ ts = sym (append_assoc done (t ∷ []) ts) in
    (λ k. or_identity s (length done) (at_end done t None ts k) ∷ map (λ i. or_identity s i (get_or (same k) i None)) (range_with_len (next k) (length ts)))
    ∙ (λ k. h.0 k ∷ tables_from s (done ++ t ∷ []) ts fs (subst (λ i. AreTables s i ts fs) after h.1) k)

pub moves_are : (s : Shape) (ts : List (Option Func)) (fs : List Func) → AreTables s 0 ts fs → moves_of s ts ≡ fs
moves_are s ts fs h = tables_from s [] ts fs h
