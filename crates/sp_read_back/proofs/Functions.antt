-- The lines of functions, and where they are used.
use Rattle.std.proofs.Common.{◌≡◌, ℕ, zero, suc, ◌+◌, ◌^◌, ◌<◌, ◌≤◌, true, cond, List, [], ◌∷◌, ◌++◌, length, map, Option, None, refl, sym, ap, ◌∙◌, subst, arith, length-append}
use Rattle.std.specs.Prelude.{unsigned_abs, All, codes}
use Rattle.sp_dd.specs.declared.part.Part.{Part}
use Rattle.sp_dd.specs.declared.part.Part.TheVariants.{Leaf, At}
use Rattle.sp_dd.specs.Func.{Shape, Func, IsScope, IsFunc, Everywhere, DependsOn}
use Rattle.sp_dd.specs.NodeLists.{Node}
use Rattle.sp_dd.specs.Ordered.{node_at, IsBefore}
use Rattle.sp_ddops.proofs.BestLemmas.{root_attained}
use Rattle.sp_dd.specs.Diagrams.{node_list, root_part}
use Rattle.sp_dd.proofs.Diagramming.{func_made, depends_on}
use Rattle.sp_model.specs.declared.parts.Factor.{Factor}
use Rattle.sp_model.specs.declared.parts.Parts.{Parts}
use Rattle.sp_model.specs.Problem.{shape_of}
use Rattle.sp_model.specs.Kept.{IsModel}
use Rattle.sp_show.specs.Decimals.{decimal_of}
use Rattle.sp_trees.specs.declared.env.Dd.{Dd}
use Rattle.sp_trees.specs.declared.env.Env.{Env}
use Rattle.sp_trees.specs.Slots.{has, is_among}
use Rattle.sp_trees.specs.Nodes.{values_of}
use Rattle.sp_checks.specs.declared.roles.Role.{Role}
use Rattle.sp_checks.specs.declared.state.State.{State}
use Rattle.sp_checks.specs.declared.state.Draft.{Draft}
use Rattle.sp_checks.specs.Roles.{allowed_slots, may_mention}
use Rattle.sp_spelled.specs.Signs.{Gap, tight, space, Spelled}
use Rattle.sp_spelled.specs.Shapes.{group, primed_group, spaced_word, last_word}
use Rattle.sp_spelled.specs.Words.{dd_name}
use Rattle.sp_spelled.proofs.Numbers.{decimal_spells}
use Rattle.sp_written.specs.Meanings as written
use Rattle.sp_written.specs.Meanings.{WritesTree, part_dd, dds_of}
use Rattle.sp_written.proofs.Places.{where_has}
use Rattle.sp_written.proofs.Trees.{nodes_among, root_means}
use Rattle.sp_written.proofs.Lines as lines
use Rattle.sp_written.proofs.Lines.{Leads, numbered, HasDds, has_within, writes_use, leads_function, IsPartSo, AreNodesSo, IsNodeSo}
use Rattle.sp_written.proofs.NodeLists.{function_so}
use Rattle.sp_canonical.specs.ModelSigns as shown
use Rattle.sp_canonical.specs.ModelSigns.{slot_decl, has_prime, function_lines, function_signs, line_count}
use Rattle.sp_read_back.proofs.Slots.{dd_names, env_of, scope_is, said_of, values_are, slot_said, slot_size}

-- ---- the same signs
pub gap_same : {X : Type 0} (xs : List X) → shown.gap_before xs ≡ written.gap_before xs
gap_same [] = refl
gap_same (x ∷ xs) = refl

pub branches_same : (xs : List (List ℕ)) (us : List (List Spelled)) → shown.branch_signs xs us ≡ written.branch_signs xs us
branches_same [] us = refl
branches_same (x ∷ xs) [] = refl
branches_same (x ∷ xs) (u ∷ us) = (λ i. group x u (gap_same us i) ++ branches_same xs us i)

map_same : {A B : Type 0} (f g : A → B) (xs : List A) → ((x : A) → f x ≡ g x) → map f xs ≡ map g xs
map_same f g [] h = refl
map_same f g (x ∷ xs) h = (λ i. h x i ∷ map_same f g xs h i)

module _ (p : Parts) (m : IsModel p) where
  -- a state of the reading, with those dds
  abbrev pub state_of : List (List ℕ) → List Draft → Option (List Factor) → Option Func → Option ℕ → List (List ℕ × Dd) → State
  state_of names actions init reward discount dds = record { env = env_of p m dds; names = names; actions = actions; init = init; reward = reward; discount = discount }

  abbrev pub all_dds : List Dd → List (List ℕ × Dd)
  all_dds ds = numbered dd_name dd_names 0 ds

  abbrev pub env_with : List Dd → Env
  env_with ds = env_of p m (all_dds ds)

  abbrev pub no_dds : Env
  no_dds = env_of p m []

  -- the dds of a function, and the one of the function itself
  abbrev pub dds_for : Func → List Dd
  dds_for f = dds_of no_dds [] (node_list f)

  abbrev pub dd_for : Func → Dd
  dd_for f = part_dd no_dds (dds_for f) (root_part f)

  -- ---- a function that can be written
  pub record IsShown (f : Func) : Type 0 where
    pub shape : f.shape ≡ shape_of p
    pub small : Everywhere f (λ v. unsigned_abs v ≤ 10 ^ 18)
    pub func : IsFunc f

  module _ (names : List (List ℕ)) (actions : List Draft) (init : Option (List Factor)) (reward : Option Func) (discount : Option ℕ) where
    abbrev plain : State
    plain = state_of names actions init reward discount []

    parts_same : (base : ℕ) (g : Gap) (a : Part) → shown.part_signs base g a ≡ lines.part_signs dd_name dd_names decimal_of (said_of p m) plain (scope_is p m) base g a
    parts_same base g (Leaf z) = refl
    parts_same base g (At i) = refl

    node_same : (base : ℕ) (k : Node) → shown.node_signs p base k ≡ lines.tree_signs dd_name dd_names decimal_of (said_of p m) plain (scope_is p m) base k
    node_same base k =
        let values = sym (values_are p m k.slot []) in
        let parts = map_same (shown.part_signs base tight) (lines.part_signs dd_name dd_names decimal_of (said_of p m) plain (scope_is p m) base tight) k.parts (parts_same base tight) in
        let branches = (λ i. shown.branch_signs (values i) (parts i)) ∙ branches_same (values_of no_dds (said_of p m k.slot).place) (map (lines.part_signs dd_name dd_names decimal_of (said_of p m) plain (scope_is p m) base tight) k.parts) in
        ap (λ us. cond (has_prime p k.slot) (primed_group (slot_decl p k.slot).name us space) (group (slot_decl p k.slot).name us space)) branches

    lines_same : (base at : ℕ) (ns : List Node) → shown.node_lines p base at ns ≡ lines.lines_of dd_name dd_names decimal_of (said_of p m) plain (scope_is p m) base at ns
    lines_same base at [] = refl
    lines_same base at (k ∷ ns) = (λ i. (spaced_word (codes "dd") ∷ spaced_word (dd_name (base + at)) ∷ (node_same base k i ++ last_word (codes "enddd") ∷ [])) ++ lines_same base (suc at) ns i)

    nodes_so : (f : Func) → IsShown f → AreNodesSo dd_name dd_names decimal_of (said_of p m) plain (scope_is p m) 0 (node_list f)
    nodes_so f is = function_so dd_name dd_names decimal_of (said_of p m) plain (scope_is p m) (λ z l. decimal_spells z l) (slot_said p m []) (slot_size p m []) f is.shape is.small

    -- its lines
    pub leads_lines : (before : List Dd) (f : Func) → IsShown f → length before + line_count f ≤ 2 ^ 64
        → Leads (state_of names actions init reward discount (all_dds before)) (state_of names actions init reward discount (all_dds (before ++ dds_for f))) 3 (function_lines p (length before) f)
    leads_lines before f is few =
        subst (λ us. Leads (state_of names actions init reward discount (all_dds before)) (state_of names actions init reward discount (all_dds (before ++ dds_for f))) 3 us) (sym (lines_same (length before) 0 (node_list f)))
        (leads_function dd_name dd_names decimal_of (said_of p m) plain (scope_is p m) before f few (nodes_so f is))

  pub means_it : (f : Func) → IsShown f → (dd_for f).func ≡ f
  means_it f is = root_means no_dds (scope_is p m) f is.shape is.func

  dds_count : (made : List Dd) (ns : List Node) → length (dds_of no_dds made ns) ≡ length made + length ns
  dds_count made [] = omega arith
  dds_count made (k ∷ ns) =
      let d : Dd = written.node_dd no_dds made k in
      let long = length-append made (written.node_dd no_dds made k ∷ []) in
      let rest = dds_count (made ++ written.node_dd no_dds made k ∷ []) ns in omega arith

  pub count_for : (f : Func) → length (dds_for f) ≡ line_count f
  count_for f = dds_count [] (node_list f) ∙ (let e : 0 + length (node_list f) ≡ length (node_list f) = omega arith in e)

  -- ---- what it mentions
  -- a slot on which the function depends may be mentioned
  abbrev pub MayMention : Role → Func → Type 0
  MayMention r f = (slot : ℕ) → slot < length (shape_of p).sizes → DependsOn f slot → may_mention (length p.variables) r slot ≡ true

  all_nodes : (P : Node → Type 0) (ns : List Node) → ((k : ℕ) → k < length ns → P (node_at ns k)) → All P ns
  all_nodes P [] h k d l = absurd (omega arith)
  all_nodes P (n ∷ ns) h zero d l = h 0 (omega arith)
  all_nodes P (n ∷ ns) h (suc k) d l = all_nodes P ns (λ j o. h (suc j) (omega arith)) k d (omega arith)

  node_allowed : (r : Role) (f : Func) → IsShown f → MayMention r f → All (λ (k : Node). has (allowed_slots (shape_of p) r) k.slot ≡ true) (node_list f)
  node_allowed r f is may = all_nodes (λ (k : Node). has (allowed_slots (shape_of p) r) k.slot ≡ true) (node_list f) (λ k l.
      (let scope : IsScope f.shape = subst IsScope (sym is.shape) (scope_is p m) in
      let made = (func_made f).ordered in
      let within : (node_at (node_list f) k).slot < length (shape_of p).sizes = subst (λ (t : Shape). (node_at (node_list f) k).slot < length t.sizes) is.shape (made.slots k l) in
      where_has (may_mention (length p.variables) r) (length (shape_of p).sizes) (node_at (node_list f) k).slot within
      (may (node_at (node_list f) k).slot within (depends_on f (node_at (node_list f) k).slot scope (record { place = k; within = l; is = refl })))))

  pub among : (r : Role) (f : Func) → IsShown f → MayMention r f → All (λ (d : Dd). is_among d.mentions (allowed_slots (shape_of p) r) ≡ true) (dds_for f)
  among r f is may = nodes_among no_dds (scope_is p m) (allowed_slots (shape_of p) r) [] (node_list f) (λ k d l. absurd (omega arith)) (node_allowed r f is may)

  -- ---- where it is used
  abbrev no_state : State
  no_state = state_of [] [] None None None []

  root_so : (f : Func) → IsShown f → IsPartSo dd_name dd_names decimal_of (said_of p m) no_state (scope_is p m) (length (dds_for f)) (root_part f)
  root_so f is = go (root_part f) refl
    where
      go : (a : Part) → root_part f ≡ a → IsPartSo dd_name dd_names decimal_of (said_of p m) no_state (scope_is p m) (length (dds_for f)) a
      go (Leaf z) e =
          let attained = root_attained f (subst IsScope (sym is.shape) (scope_is p m)) z e in
          decimal_spells z (subst (λ v. unsigned_abs v ≤ 10 ^ 18) attained.value (is.small attained.point attained.within))
      go (At i) e =
          let count = count_for f in
          let below : IsBefore (length (node_list f)) (At i) = subst (IsBefore (length (node_list f))) e (func_made f).below in
          omega arith

  pub writes_function : (r : Role) (before after : List Dd) (f : Func) (g : Gap) → IsShown f → MayMention r f → length before + line_count f + length after ≤ 2 ^ 64
      → WritesTree (env_with (before ++ (dds_for f ++ after))) (allowed_slots (shape_of p) r) (dd_for f) 1 (function_signs (length before) g f)
  writes_function r before after f g is may few =
      let count = count_for f in
      subst (λ us. WritesTree (env_with (before ++ (dds_for f ++ after))) (allowed_slots (shape_of p) r) (dd_for f) 1 us) (sym (parts_same [] [] None None None (length before) g (root_part f)))
      (writes_use dd_name dd_names decimal_of (said_of p m) no_state (scope_is p m) (allowed_slots (shape_of p) r) (before ++ (dds_for f ++ after)) (length before) (dds_for f) (root_part f) g
      (has_within dd_name dd_names decimal_of (said_of p m) no_state (scope_is p m) before (dds_for f) after (omega arith)) (among r f is may) (root_so f is))
