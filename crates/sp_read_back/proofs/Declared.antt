-- The declarations of a canonical text.
use Rattle.std.proofs.Common.{◌≡◌, ℕ, suc, ◌+◌, ◌*◌, ◌<◌, ◌≤◌, false, List, [], ◌∷◌, ◌++◌, length, map, Ok, refl, sym, ap, ◌∙◌, subst, append_assoc, append-nil, length-append, arith}
use Rattle.std.specs.Prelude.{codes, All, nat_lt}
use Rattle.std.proofs.Math.Nat.{mul-le-mul_left}
use Rattle.std.proofs.lemmas.Bool.Decides.{nat_tests}
use Rattle.sp_theory.specs.Points.{count_of}
use Rattle.sp_syntax.specs.declared.class.WordClass.TheVariants as the_word
use Rattle.sp_syntax.specs.Grammar.{IsDeclaration, AreAll}
use Rattle.sp_spelled.specs.Signs.{Gap, line, IsWordText}
use Rattle.sp_spelled.specs.Shapes.{declaration_signs}
use Rattle.sp_spelled.specs.Written.{IsNameWord}
use Rattle.sp_spelled.proofs.Keywords.{variables_key, observations_key}
use Rattle.sp_spelled.proofs.Written.{written_nothing, deeper}
use Rattle.sp_model.specs.declared.parts.Decl.{Decl}
use Rattle.sp_model.specs.Problem.{sizes_of}
use Rattle.sp_model.specs.Words.{IsValueName}
use Rattle.sp_model.specs.Kept.{IsDecl}
use Rattle.sp_declarations.specs.declared.declarations.Limits.{Limits}
use Rattle.sp_declarations.specs.declared.declarations.Read.{Read}
use Rattle.sp_declarations.specs.declared.declarations.Declared.{Declared}
use Rattle.sp_declarations.specs.Steps.{in_turn}
use Rattle.sp_declarations.specs.Declarations.{declaration, no_decls, variable_limits, sight_limits}
use Rattle.sp_written.proofs.Names.{named}
use Rattle.sp_written.proofs.Declared.{Declares, declares_one, declares_both, read_with, writes_sort, declared_ok, HasRoom}
use Rattle.sp_canonical.specs.ModelSigns.{gap_before, declarations_signs}
use Rattle.sp_read_back.specs.Declarations.{CanonicalDeclarationsAreRead}
use Rattle.sp_read_back.proofs.Fresh.{not_equal, AreFresh, names_behind, fresh, fresh_both, values_new}

abbrev pub names_of : List Decl → List (List ℕ)
names_of ds = map (λ d. d.name) ds

-- what is read behind those declarations
abbrev pub read_all : Read → List Decl → Read
read_all r [] = r
read_all r (d ∷ ds) = read_all (read_with r d.name d.values) ds

all_decls : (r : Read) (ds : List Decl) → (read_all r ds).decls ≡ r.decls ++ ds
all_decls r [] = sym (append-nil r.decls)
all_decls r (d ∷ ds) = all_decls (read_with r d.name d.values) ds ∙ append_assoc r.decls (d ∷ []) ds

all_names : (r : Read) (ds : List Decl) → (read_all r ds).names ≡ names_behind r.names (names_of ds)
all_names r [] = refl
all_names r (d ∷ ds) = all_names (read_with r d.name d.values) ds

-- ---- room
-- there is room for these declarations, and their names are new
pub record HasRoomFor (l : Limits) (r : Read) (ds : List Decl) : Type 0 where
  pub few : length r.decls + length ds ≤ l.most
  pub points : r.points * count_of (sizes_of ds) ≤ l.points
  pub new : AreFresh r.names (names_of ds)

some_points : (ds : List Decl) → All IsDecl ds → 0 < count_of (sizes_of ds)
some_points [] h = omega arith
some_points (d ∷ ds) h =
    let here = (h 0 d (omega arith)).some in
    let rest = some_points ds (λ k e l. h (suc k) e (omega arith)) in
    product_some (length d.values) (count_of (sizes_of ds)) here rest
  where
    product_some : (a b : ℕ) → 0 < a → 0 < b → 0 < a * b
    product_some a b x y = omega (arith, mul-le-mul_left a y)

at_least : (a b : ℕ) → 0 < b → a ≤ a * b
at_least a b h = omega (arith, mul-le-mul_left a h)

assoc_product : (a b c : ℕ) → a * (b * c) ≡ (a * b) * c
assoc_product a b c = omega arith

within : (a b : ℕ) → a ≤ b → nat_lt b a ≡ false
within a b h = grind (arith, nat_tests)

room : (l : Limits) (r : Read) (d : Decl) (ds : List Decl) → IsDecl d → All IsDecl ds → HasRoomFor l r (d ∷ ds) → HasRoom l r d.name d.values
room l r d ds is more h =
    let few = h.few in
    let n = count_of (sizes_of ds) in
    let all = h.points in
    let same = assoc_product r.points (length d.values) (count_of (sizes_of ds)) in
    let less = at_least (r.points * length d.values) (count_of (sizes_of ds)) (some_points ds more) in
    let fits : r.points * length d.values ≤ l.points = omega arith in
    record {
      few = not_equal (length r.decls) l.most (λ e. omega arith);
      points = within (r.points * length d.values) l.points fits;
      new = h.new.0;
      values = values_new [] d.values is.different is.few;
    }

next_room : (l : Limits) (r : Read) (d : Decl) (ds : List Decl) → HasRoomFor l r (d ∷ ds) → HasRoomFor l (read_with r d.name d.values) ds
next_room l r d ds h =
    let few = h.few in
    let long = length-append r.decls (d ∷ []) in
    record {
      few = omega arith;
      points = subst (λ n. n ≤ l.points) (assoc_product r.points (length d.values) (count_of (sizes_of ds))) h.points;
      new = h.new.1;
    }

-- ---- as they are spelled
value_texts : (ws : List (List ℕ)) → All IsValueName ws → All IsWordText ws
value_texts ws h k d l = let is = h k d l in record { some = is.some; bytes = is.bytes }

declares : (l : Limits) (r : Read) (w : List ℕ) (ws : List (List ℕ)) (g : Gap) → 0 < length ws → IsNameWord w → All IsWordText ws → HasRoom l r w ws → Declares l r (read_with r w ws) 1 (declaration_signs w ws g)
declares l r w [] g some name texts has = absurd (omega arith)
declares l r w (v ∷ ws) g some name texts has = declares_one l r w v ws g name texts has

pub declares_all : (l : Limits) (r : Read) (ds : List Decl) → All IsDecl ds → HasRoomFor l r ds → Declares l r (read_all r ds) 1 (declarations_signs ds)
unfolding in_turn
declares_all l r [] is h = deeper (AreAll IsDeclaration) _ [] 0 1 (omega arith) (written_nothing IsDeclaration (λ source ds. in_turn (declaration source l) r ds ≡ Ok r) (λ source. refl))
declares_all l r (d ∷ ds) is h =
    let first = is 0 d (omega arith) in
    let more : All IsDecl ds = λ k e m. is (suc k) e (omega arith) in
    declares_both l r (read_with r d.name d.values) (read_all r (d ∷ ds)) (declaration_signs d.name d.values (gap_before ds)) (declarations_signs ds) 1
    (declares l r d.name d.values (gap_before ds) first.some (named d.name first.name) (value_texts d.values first.values) (room l r d ds first more h))
    (declares_all l (read_with r d.name d.values) ds more (next_room l r d ds h))

-- ---- both lines
map_both : (ds es : List Decl) → names_of (ds ++ es) ≡ names_of ds ++ names_of es
map_both [] es = refl
map_both (d ∷ ds) es = ap (λ l. d.name ∷ l) (map_both ds es)

one_times : (n : ℕ) → 1 * n ≡ n
one_times n = omega arith

pub declared : CanonicalDeclarationsAreRead
declared p m = record {
  variables = vs;
  sights = ss;
  first = writes_sort the_word.Variables (codes "variables") variable_limits [] vs (declarations_signs p.variables) line 1 variables_key some_variables (declares_all variable_limits (no_decls []) p.variables m.variables variable_room);
  second = writes_sort the_word.Observations (codes "observations") sight_limits vs.names ss (declarations_signs p.sights) line 1 observations_key some_sights (declares_all sight_limits (no_decls vs.names) p.sights m.sights sight_room);
  both = λ source x y sections h k. declared_ok source x y sections vs ss h k ∙ (λ i. Ok (let d : Declared = record { variables = all_decls (no_decls []) p.variables i; sights = all_decls (no_decls vs.names) p.sights i } in d));
}
  where
    vs : Read
    vs = read_all (no_decls []) p.variables

    ss : Read
    ss = read_all (no_decls vs.names) p.sights

    apart : AreFresh [] (names_of p.variables) × AreFresh (names_behind [] (names_of p.variables)) (names_of p.sights)
    apart = fresh_both [] (names_of p.variables) (names_of p.sights)
        (subst (AreFresh []) (map_both p.variables p.sights) (fresh [] (names_of (p.variables ++ p.sights)) (λ i l. refl) m.different))

    variable_room : HasRoomFor variable_limits (no_decls []) p.variables
    variable_room = let few = m.few_variables in let states = m.few_states in let one = one_times (count_of (sizes_of p.variables)) in
        record { few = omega arith; points = omega arith; new = apart.0 }

    sight_room : HasRoomFor sight_limits (no_decls vs.names) p.sights
    sight_room = let few = m.few_sights in let joint = m.few_joint in let one = one_times (count_of (sizes_of p.sights)) in
        record { few = omega arith; points = omega arith; new = subst (λ names. AreFresh names (names_of p.sights)) (sym (all_names (no_decls []) p.variables)) apart.1 }

    some_variables : 0 < length vs.decls
    some_variables = let e = ap (λ (ds : List Decl). length ds) (all_decls (no_decls []) p.variables) in let some = m.some_variable in omega arith

    some_sights : 0 < length ss.decls
    some_sights = let e = ap (λ (ds : List Decl). length ds) (all_decls (no_decls vs.names) p.sights) in let some = m.some_sight in omega arith
