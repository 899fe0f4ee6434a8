-- The tables that an action's lines name.
use Rattle.std.proofs.Common.{◌≡◌, ℕ, zero, suc, ◌+◌, ◌<◌, Bool, true, false, cond, List, [], ◌∷◌, ◌++◌, length, map, drop, get_or, refl, sym, ap, ◌∙◌, add-one, arith}
use Rattle.std.specs.Prelude.{IsTrue, ◌↔◌, All}
use Rattle.std.specs.List.{range_with_len}
use Rattle.std.specs.Ordering.{int_eq}
use Rattle.std.proofs.lemmas.List.{length-map}
use Rattle.std.proofs.Math.ListN.{get_or-map}
use Rattle.std.proofs.lemmas.List.FromFn.{get_or-map-range_with_len, length-map-range_with_len, map-range_with_len_more}
use Rattle.sp_dd.specs.Func.{Shape, Func}
use Rattle.sp_rows.specs.Tables.{identity}
use Rattle.sp_model.specs.declared.parts.Decl.{Decl}
use Rattle.sp_model.specs.declared.parts.ActionPart.{ActionPart}
use Rattle.sp_model.specs.declared.parts.Parts.{Parts}
use Rattle.sp_model.specs.Problem.{no_func, shape_of}
use Rattle.sp_model.specs.Kept.{IsAction}
use Rattle.std.specs.Bool.{Decides}
use Rattle.std.specs.Cmp.Lexicographic.{pointwise}
use Rattle.std.specs.Cmp.Rules.{signed_items}
use Rattle.sp_canonical.specs.Tables.{NamedTable, named_tables, is_identity, moving_tables}
use Rattle.sp_canonical.specs.ModelSigns.{moving_of, seen_of, function_lines, functions_lines, tables_of, line_behind, heading_signs, named_lines, observed_signs, cost_signs, tables_signs, line_count}
use Rattle.sp_canonical.specs.Lent.{lent_table}
use Rattle.sp_canonical.specs.declared.tables.NamedTable as code
use Rattle.sp_spelled.specs.Signs.{Spelled, text_of_signs}
use Rattle.sp_canonical.proofs.Pieces.{follows}
use Rattle.sp_canonical.proofs.Loops.{split_at, get_or_any}
use Rattle.sp_canonical.proofs.SlotLemmas.{slots_are}

-- one more of a list by number
pub one_more : {X : Type 0} (f : ℕ → X) (xs ys : List X) (n : ℕ) (x : X) → xs ≡ map f (range_with_len 0 n) → x ≡ f n → ys ≡ xs ++ x ∷ [] → ys ≡ map f (range_with_len 0 (n + 1))
one_more f xs ys n x e g h = h ∙ ap (λ l. l ++ x ∷ []) e ∙ ap (λ y. map f (range_with_len 0 n) ++ y ∷ []) g ∙ sym (map-range_with_len_more f 0 n n (omega arith))

-- ---- the identity
-- the test of the code is the one of the definition
pub test_is : (s : Shape) (i : ℕ) (f : Func) (same : Bool) → f.shape ≡ s → IsTrue same ↔ (f ≡ identity s i) → is_identity s i f ≡ same
test_is s i f same e h = go same (pointwise int_eq f.leaves (identity s i).leaves) refl h (signed_items f.leaves (identity s i).leaves)
  where
    whole : f.leaves ≡ (identity s i).leaves → f ≡ identity s i
    whole l = λ k. record { shape = e k; leaves = l k }

    go : (b t : Bool) → t ≡ t → IsTrue b ↔ (f ≡ identity s i) → Decides t (f.leaves ≡ (identity s i).leaves) → t ≡ b
    go true true r g d = refl
    go true false r g d = d.1 (ap (λ (x : Func). x.leaves) (g.0 refl))
    go false true r g d = sym (g.1 (whole (d.0 refl)))
    go false false r g d = refl

-- ---- lists of tables
pub next_moving : (s : Shape) (k i : ℕ) (ds : List Decl) (fs : List Func) (d : Decl) (f : Func) → i < length ds → i < length fs → d ≡ get_or ds i d → f ≡ get_or fs i f
    → moving_tables s i (drop i ds) (drop i fs) ≡ cond (is_identity s i f) (moving_tables s (i + 1) (drop (i + 1) ds) (drop (i + 1) fs)) (record { name = d.name; table = f } ∷ moving_tables s (i + 1) (drop (i + 1) ds) (drop (i + 1) fs))
next_moving s k i ds fs d f ld lf ed ef = ap (λ es. moving_tables s i es (drop i fs)) (split_at ds i d ld ed) ∙ ap (λ gs. moving_tables s i (d ∷ drop (i + 1) ds) gs) (split_at fs i f lf ef)
    ∙ ap (λ j. cond (is_identity s i f) (moving_tables s j (drop (i + 1) ds) (drop (i + 1) fs)) (record { name = d.name; table = f } ∷ moving_tables s j (drop (i + 1) ds) (drop (i + 1) fs))) (sym (add-one i))

-- ---- how many there are
pub moves_count : (p : Parts) (a : ActionPart) → IsAction (shape_of p) a → length a.moves ≡ length p.variables
moves_count p a h = h.move_count

pub sight_count : (p : Parts) (a : ActionPart) → IsAction (shape_of p) a → length a.sight ≡ length p.sights
sight_count p a h = let s = slots_are p in let e = h.sight_count in omega arith

pub identity_count : (s : Shape) (n : ℕ) (fs : List Func) → fs ≡ map (identity s) (range_with_len 0 n) → length fs ≡ n
identity_count s n fs e = ap (λ (l : List Func). length l) e ∙ length-map-range_with_len (identity s) 0 n

pub identity_at : (s : Shape) (n : ℕ) (fs : List Func) (i : ℕ) (d : Func) → fs ≡ map (identity s) (range_with_len 0 n) → i < n → get_or fs i d ≡ identity s i
identity_at s n fs i d e l = ap (λ (gs : List Func). get_or gs i d) e ∙ get_or-map-range_with_len (identity s) 0 n i i d l (omega arith)

pub move_shape : (p : Parts) (a : ActionPart) (i : ℕ) (d : Func) → IsAction (shape_of p) a → i < length p.variables → (get_or a.moves i d).shape ≡ shape_of p
move_shape p a i d h l = let few : i < length a.moves = (let e = h.move_count in omega arith) in ap (λ (f : Func). f.shape) (get_or_any a.moves i d no_func few) ∙ (h.moves i l).shape

-- ---- one more table
pub next_named : (ds : List Decl) (fs : List Func) (i : ℕ) (d : Decl) (f : Func) → i < length ds → i < length fs → d ≡ get_or ds i d → f ≡ get_or fs i f
    → named_tables (drop i ds) (drop i fs) ≡ record { name = d.name; table = f } ∷ named_tables (drop (i + 1) ds) (drop (i + 1) fs)
next_named ds fs i d f ld lf ed ef = ap (λ es. named_tables es (drop i fs)) (split_at ds i d ld ed) ∙ ap (λ gs. named_tables (d ∷ drop (i + 1) ds) gs) (split_at fs i f lf ef)

map_more : {X Y : Type 0} (f : X → Y) (xs : List X) (x : X) (ys : List Y) → map f (xs ++ x ∷ []) ++ ys ≡ map f xs ++ f x ∷ ys
map_more f [] x ys = refl
map_more f (y ∷ xs) x ys = ap (λ l. f y ∷ l) (map_more f xs x ys)

-- a list that grew by one, which was the first of those that were left
pub grown : {X Y : Type 0} (f : X → Y) (old new : List X) (x : X) (all rest later : List Y) → map f old ++ rest ≡ all → new ≡ old ++ x ∷ [] → rest ≡ f x ∷ later → map f new ++ later ≡ all
grown f old new x all rest later h e r = ap (λ xs. map f xs ++ later) e ∙ map_more f old x later ∙ ap (λ l. map f old ++ l) (sym r) ∙ h

-- ---- shapes
pub named_shapes : (s : Shape) (ds : List Decl) (fs : List Func) → All (λ (f : Func). f.shape ≡ s) fs → All (λ (t : NamedTable). t.table.shape ≡ s) (named_tables ds fs)
named_shapes s [] fs h k d l = absurd (omega arith)
named_shapes s (c ∷ ds) [] h k d l = absurd (omega arith)
named_shapes s (c ∷ ds) (f ∷ fs) h zero d l = h 0 f (omega arith)
named_shapes s (c ∷ ds) (f ∷ fs) h (suc k) d l = named_shapes s ds fs (λ j e m. h (suc j) e (omega arith)) k d (omega arith)

pub moving_shapes : (s : Shape) (i : ℕ) (ds : List Decl) (fs : List Func) → All (λ (f : Func). f.shape ≡ s) fs → All (λ (t : NamedTable). t.table.shape ≡ s) (moving_tables s i ds fs)
moving_shapes s i [] fs h k d l = absurd (omega arith)
moving_shapes s i (c ∷ ds) [] h k d l = absurd (omega arith)
moving_shapes s i (c ∷ ds) (f ∷ fs) h k d l = go (is_identity s i f) (moving_shapes s (suc i) ds fs (λ j e m. h (suc j) e (omega arith))) k d l
  where
    first : All (λ (t : NamedTable). t.table.shape ≡ s) (moving_tables s (suc i) ds fs) → All (λ (t : NamedTable). t.table.shape ≡ s) (record { name = c.name; table = f } ∷ moving_tables s (suc i) ds fs)
    first more zero e m = h 0 f (omega arith)
    first more (suc j) e m = more j e (omega arith)

    go : (b : Bool) → All (λ (t : NamedTable). t.table.shape ≡ s) (moving_tables s (suc i) ds fs)
        → All (λ (t : NamedTable). t.table.shape ≡ s) (cond b (moving_tables s (suc i) ds fs) (record { name = c.name; table = f } ∷ moving_tables s (suc i) ds fs))
    go true more = more
    go false more = first more

-- the tables of an action are of its model's shape
pub moving_of_shapes : (p : Parts) (a : ActionPart) → IsAction (shape_of p) a → All (λ (t : NamedTable). t.table.shape ≡ shape_of p) (moving_of p a)
moving_of_shapes p a h = moving_shapes (shape_of p) 0 p.variables a.moves (λ k d l. let m : k < length p.variables = (let e = h.move_count in omega arith) in move_shape p a k d h m)

pub seen_of_shapes : (p : Parts) (a : ActionPart) → IsAction (shape_of p) a → All (λ (t : NamedTable). t.table.shape ≡ shape_of p) (seen_of p a)
seen_of_shapes p a h = named_shapes (shape_of p) p.sights a.sight (λ k d l. ap (λ (f : Func). f.shape) (get_or_any a.sight k d no_func l) ∙ (h.sights k l).shape)

-- ---- the lines of tables
module _ (p : Parts) (name : List ℕ) (base : ℕ) (moving seen : List NamedTable) (cost : Func) where
  abbrev pieces : ℕ → ℕ → List Spelled
  pieces k n =
      functions_lines p base (tables_of moving) ++ (functions_lines p k (tables_of seen) ++ (function_lines p n cost
      ++ (heading_signs name ++ (named_lines base moving ++ (observed_signs k seen ++ cost_signs n cost)))))

  pub tables_told : (from_seen from_cost : ℕ) (t0 t1 t2 t3 t4 t5 t6 t7 : List ℕ) → from_seen ≡ line_behind base moving → from_cost ≡ line_behind from_seen seen
      → t1 ≡ t0 ++ text_of_signs (functions_lines p base (tables_of moving)) → t2 ≡ t1 ++ text_of_signs (functions_lines p from_seen (tables_of seen)) → t3 ≡ t2 ++ text_of_signs (function_lines p from_cost cost)
      → t4 ≡ t3 ++ text_of_signs (heading_signs name) → t5 ≡ t4 ++ text_of_signs (named_lines base moving) → t6 ≡ t5 ++ text_of_signs (observed_signs from_seen seen) → t7 ≡ t6 ++ text_of_signs (cost_signs from_cost cost)
      → t7 ≡ t0 ++ text_of_signs (tables_signs p name base moving seen cost)
  tables_told k n t0 t1 t2 t3 t4 t5 t6 t7 ek en e1 e2 e3 e4 e5 e6 e7 =
      follows t0 t1 t7 (functions_lines p base (tables_of moving)) (functions_lines p k (tables_of seen) ++ (function_lines p n cost ++ (heading_signs name ++ (named_lines base moving ++ (observed_signs k seen ++ cost_signs n cost))))) e1
      (follows t1 t2 t7 (functions_lines p k (tables_of seen)) (function_lines p n cost ++ (heading_signs name ++ (named_lines base moving ++ (observed_signs k seen ++ cost_signs n cost)))) e2
      (follows t2 t3 t7 (function_lines p n cost) (heading_signs name ++ (named_lines base moving ++ (observed_signs k seen ++ cost_signs n cost))) e3
      (follows t3 t4 t7 (heading_signs name) (named_lines base moving ++ (observed_signs k seen ++ cost_signs n cost)) e4
      (follows t4 t5 t7 (named_lines base moving) (observed_signs k seen ++ cost_signs n cost) e5
      (follows t5 t6 t7 (observed_signs k seen) (cost_signs n cost) e6 e7)))))
      ∙ ap (λ j. t0 ++ text_of_signs (pieces j n)) ek ∙ ap (λ j. t0 ++ text_of_signs (pieces (line_behind base moving) j)) (en ∙ ap (λ j. line_behind j seen) ek)

-- ---- tables that are lent
module _ (ts : List code.NamedTable) (i : ℕ) (t : code.NamedTable) (l : i < length ts) where
  pub lent_at : {s : Shape} → All (λ (u : NamedTable). u.table.shape ≡ s) (map lent_table ts) → (get_or ts i t).table.now.shape ≡ s
  lent_at h =
      let few : i < length (map lent_table ts) = omega (arith, length-map ts lent_table) in
      ap (λ (u : NamedTable). u.table.shape) (sym (get_or-map lent_table ts i t)) ∙ h i (lent_table t) few

  module _ (is : t ≡ get_or ts i t) where
    pub next_lent : (p : Parts) (base : ℕ) → functions_lines p base (tables_of (map lent_table (drop i ts))) ≡ function_lines p base t.table.now ++ functions_lines p (base + line_count t.table.now) (tables_of (map lent_table (drop (i + 1) ts)))
    next_lent p base = ap (λ us. functions_lines p base (tables_of (map lent_table us))) (split_at ts i t l is)

    pub next_lent_count : (base : ℕ) → line_behind base (map lent_table (drop i ts)) ≡ line_behind (base + line_count t.table.now) (map lent_table (drop (i + 1) ts))
    next_lent_count base = ap (λ us. line_behind base (map lent_table us)) (split_at ts i t l is) ∙ omega arith
