-- Trees as the canonical text spells them.
use Rattle.std.proofs.Common.{◌≡◌, ℕ, zero, suc, ◌+◌, ◌<◌, true, false, List, [], ◌∷◌, ◌++◌, length, map, get_or, Some, refl, sym, ap, ◌∙◌, subst, arith}
use Rattle.std.specs.Prelude.{ℤ, pos, Ok, Err, All, if◌then◌else◌, slice_index, slice_index_or}
use Rattle.std.proofs.Math.ListN.{get_or-map}
use Rattle.std.proofs.lemmas.List.{map-append}
use Rattle.sp_lex.specs.declared.lexeme.Span.{Span}
use Rattle.sp_lex.specs.Decimal.{ticks_of}
use Rattle.sp_syntax.specs.declared.text.Tree.{Tree}
use Rattle.sp_syntax.specs.declared.text.Tree.TheFolds.{fold-roll-Branch}
use Rattle.sp_syntax.specs.declared.text.Branch.{Branch, roll-Branch}
use Rattle.sp_syntax.specs.Grammar.{AreBranches}
use Rattle.sp_spelled.specs.Signs.{Gap, Spelled}
use Rattle.sp_spelled.specs.Written.{Written}
use Rattle.sp_spelled.proofs.Written.{deeper}
use Rattle.sp_spelled.proofs.Trees.{written_number, written_reference, written_node, written_primed, written_branch, written_no_branches, written_more_branches}
use Rattle.sp_dd.specs.declared.part.Part.{Part}
use Rattle.sp_dd.specs.declared.part.Part.TheVariants.{Leaf, At}
use Rattle.sp_dd.specs.Points.{IsPoint}
use Rattle.sp_dd.specs.Func.{Shape, Func, IsScope, IsFunc, value_of, function_of}
use Rattle.sp_dd.specs.NodeLists.{Node, part_value, chosen_part, values, node_value}
use Rattle.sp_dd.specs.Ordered.{at}
use Rattle.sp_dd.specs.Diagrams.{node_list, root_part}
use Rattle.sp_dd.proofs.FuncLemmas.{scope_some, value_of-function_of, same_function, IsFunc-function_of}
use Rattle.sp_dd.proofs.Diagramming.{func_made}
use Rattle.sp_trees.proofs.MentionLemmas.{none_among, one_among, all_among}
use Rattle.sp_dd.specs.Operations.{everywhere}
use Rattle.sp_trees.specs.declared.refusal.ModelKind.TheVariants as kind
use Rattle.sp_trees.specs.declared.slots.Slots.{Slots}
use Rattle.sp_trees.specs.declared.env.Dd.{Dd}
use Rattle.sp_trees.specs.declared.env.Env.{Env}
use Rattle.sp_trees.specs.declared.judged.Judged.{Judged}
use Rattle.sp_trees.specs.declared.nodes.Place.{Place}
use Rattle.sp_trees.specs.Words.{text, number_of}
use Rattle.sp_trees.specs.Slots.{none, one, has, is_among}
use Rattle.sp_trees.specs.Dds.{dd_of_name}
use Rattle.sp_trees.specs.Single.{number_by, reference_by}
use Rattle.sp_trees.specs.Nodes.{values_of}
use Rattle.sp_trees.specs.Judge.{Branched, judgement, judgement_of_branch, tree_step, branch_step}
use Rattle.sp_written.specs.Acceptance.{acceptance_of, AreBranched, funcs_of, branched_dd, IsSaid}
use Rattle.sp_written.specs.Meanings.{Means, WritesTree, constant_dd, AreWritten, AreNamesFrom, gap_before, part_dd, node_dd, dds_of, branch_signs}
use Rattle.sp_spelled.specs.Shapes.{leaf, group, primed_group}
use Rattle.sp_spelled.specs.Words.{SpellsTicks}
use Rattle.sp_spelled.specs.Written.{IsNameWord}
use Rattle.sp_written.proofs.Nodes.{accepted_nodes}
use Rattle.sp_trees.proofs.TreeLemmas.{number_is, reference_is, node_is, primed_is}

module _ (env : Env) (allowed : Slots) where
  -- a number
  pub writes_number : (w : List ℕ) (z : ℤ) (g : Gap) → SpellsTicks w z → WritesTree env allowed (constant_dd env z) 1 (leaf w g)
  writes_number w z g h = written_number w g (Means env allowed (constant_dd env z)) h.text h.number
      (λ source left at right e. number_is env source allowed left at right
      ∙ ap (λ r. let j : Judged = record { mentions = none; outcome = number_by env.scope at.start r } in j) (ap ticks_of e ∙ h.ticks))

  -- a reference
  pub writes_reference : (w : List ℕ) (d : Dd) (g : Gap) → IsNameWord w → dd_of_name w env.dds ≡ Some d → is_among d.mentions allowed ≡ true → WritesTree env allowed d 1 (leaf w g)
  writes_reference w d g h f among = written_reference w g (Means env allowed d) h.text h.name
      (λ source left at right e. reference_is env source allowed left at right
      ∙ ap (reference_by allowed at.start) (ap (λ v. dd_of_name v env.dds) e ∙ f)
      ∙ ap (λ b. let j : Judged = record { mentions = d.mentions; outcome = if b then Ok d.func else Err (record { at = at.start; kind = kind.BadScope }) } in j) among)

  branched_is : (source : List ℕ) (left at : Span) (t : Tree) (right : Span) → judgement_of_branch env source allowed (roll-Branch (record { left = left; value = at; tree = t; right = right })) ≡ record { word = at; judged = judgement env source allowed t }
  branched_is source left at t right = fold-roll-Branch Judged Branched (tree_step env source allowed) branch_step (record { left = left; value = at; tree = t; right = right })

  writes_branches : (names : List (List ℕ)) (k depth : ℕ) (xs : List (List ℕ)) (us : List (List Spelled)) (ds : List Dd) → AreNamesFrom names k xs → length xs ≡ length ds → AreWritten env allowed depth us ds
      → Written AreBranches (λ source bs. AreBranched source names k (map (judgement_of_branch env source allowed) bs) ds) (suc depth) (branch_signs xs us)
  writes_branches names k depth [] [] [] n l h = deeper AreBranches _ [] 0 (suc depth) (omega arith) (written_no_branches _ (λ source. tt))
  writes_branches names k depth [] [] (d ∷ ds) n l h = absurd h
  writes_branches names k depth [] (u ∷ us) [] n l h = absurd h
  writes_branches names k depth [] (u ∷ us) (d ∷ ds) n l h = absurd (omega arith)
  writes_branches names k depth (x ∷ xs) [] [] n l h = absurd (omega arith)
  writes_branches names k depth (x ∷ xs) [] (d ∷ ds) n l h = absurd h
  writes_branches names k depth (x ∷ xs) (u ∷ us) [] n l h = absurd h
  writes_branches names k depth (x ∷ xs) (u ∷ us) (d ∷ ds) n l h =
      written_more_branches (group x u (gap_before us)) (branch_signs xs us) (suc depth)
      (λ source b. (number_of names (text source (judgement_of_branch env source allowed b).word) ≡ Some k) × ((judgement_of_branch env source allowed b).judged ≡ acceptance_of d))
      (λ source bs. AreBranched source names (k + 1) (map (judgement_of_branch env source allowed) bs) ds)
      (λ source bs. AreBranched source names k (map (judgement_of_branch env source allowed) bs) (d ∷ ds))
      (written_branch x u (gap_before us) depth (Means env allowed d) _ n.0 h.0
      (λ source left at t right e means. (
        ap (λ (b : Branched). number_of names (text source b.word)) (branched_is source left at t right) ∙ ap (number_of names) e ∙ n.1,
        ap (λ (b : Branched). b.judged) (branched_is source left at t right) ∙ means,
      )))
      (writes_branches names (k + 1) depth xs us ds n.2 (omega arith) h.1)
      (λ source b bs p q. (p.0, p.1, q))

  -- a node
  some_branches : (source : List ℕ) (names : List (List ℕ)) (d : Dd) (ds : List Dd) (bs : List Branch) → AreBranched source names 0 (map (judgement_of_branch env source allowed) bs) (d ∷ ds) → 0 < length bs
  some_branches source names d ds [] h = absurd h
  some_branches source names d ds (b ∷ bs) h = omega arith

  module _ (name : List ℕ) (p : Place) (slot depth : ℕ) (us : List (List Spelled)) (d : Dd) (ds : List Dd) (g : Gap) (named : IsNameWord name) (numbered : AreNamesFrom (values_of env p) 0 (values_of env p))
      (count : length (values_of env p) ≡ length (d ∷ ds)) (written : AreWritten env allowed depth us (d ∷ ds)) where
    pub writes_node : IsSaid env allowed false name p slot → WritesTree env allowed (branched_dd env slot (d ∷ ds)) (suc (suc depth)) (group name (branch_signs (values_of env p) us) g)
    writes_node said = written_node name (branch_signs (values_of env p) us) g (suc depth) (λ source bs. AreBranched source (values_of env p) 0 (map (judgement_of_branch env source allowed) bs) (d ∷ ds)) (Means env allowed (branched_dd env slot (d ∷ ds)))
        named.text named.name (writes_branches (values_of env p) 0 depth (values_of env p) us (d ∷ ds) numbered count written) (λ source bs q. some_branches source (values_of env p) d ds bs q)
        (λ source left at bs right e q. node_is env source allowed left at bs right
        ∙ accepted_nodes env source allowed false left at (map (judgement_of_branch env source allowed) bs) p slot (d ∷ ds) (subst (λ n. IsSaid env allowed false n p slot) (sym e) said) q count)

    pub writes_primed : IsSaid env allowed true name p slot → WritesTree env allowed (branched_dd env slot (d ∷ ds)) (suc (suc depth)) (primed_group name (branch_signs (values_of env p) us) g)
    writes_primed said = written_primed name (branch_signs (values_of env p) us) g (suc depth) (λ source bs. AreBranched source (values_of env p) 0 (map (judgement_of_branch env source allowed) bs) (d ∷ ds)) (Means env allowed (branched_dd env slot (d ∷ ds)))
        named.text named.name (writes_branches (values_of env p) 0 depth (values_of env p) us (d ∷ ds) numbered count written) (λ source bs q. some_branches source (values_of env p) d ds bs q)
        (λ source left at bs right e q. primed_is env source allowed left at bs right
        ∙ accepted_nodes env source allowed true left at (map (judgement_of_branch env source allowed) bs) p slot (d ∷ ds) (subst (λ n. IsSaid env allowed true n p slot) (sym e) said) q count)

-- ---- lists
pub all_push : (P : Dd → Type 0) (ds : List Dd) (d : Dd) → All P ds → P d → All P (ds ++ d ∷ [])
all_push P [] d h p zero e l = p
all_push P [] d h p (suc k) e l = absurd (omega arith)
all_push P (c ∷ ds) d h p zero e l = h 0 c (omega arith)
all_push P (c ∷ ds) d h p (suc k) e l = all_push P ds d (λ i e m. h (suc i) e (omega arith)) p k e (omega arith)

pub all_or : (P : Dd → Type 0) (ds : List Dd) (i : ℕ) (d : Dd) → All P ds → P d → P (get_or ds i d)
all_or P [] i d h p = p
all_or P (c ∷ ds) zero d h p = h 0 c (omega arith)
all_or P (c ∷ ds) (suc i) d h p = all_or P ds i d (λ k e l. h (suc k) e (omega arith)) p

-- ---- what the nodes of a function mean
map_map : {A B C : Type 0} (f : B → C) (g : A → B) (xs : List A) → map f (map g xs) ≡ map (λ x. f (g x)) xs
map_map f g [] = refl
map_map f g (x ∷ xs) = ap (λ ys. f (g x) ∷ ys) (map_map f g xs)

module _ (env : Env) (scope : IsScope env.scope) where
  -- ---- values
  module _ (x : List ℕ) (point : IsPoint env.scope.sizes x) where
    abbrev value_at : Dd → ℤ
    value_at d = value_of d.func x

    constant_value : (z : ℤ) → value_at (constant_dd env z) ≡ z
    constant_value z = value_of-function_of env.scope (λ y. z) x (scope_some env.scope scope) point

    part_means : (made : List Dd) (a : Part) → value_at (part_dd env made a) ≡ part_value (map value_at made) a
    part_means made (Leaf z) = constant_value z
    part_means made (At i) = sym (get_or-map value_at made i (constant_dd env (pos 0))) ∙ ap (get_or (map value_at made) i) (constant_value (pos 0))

    node_means : (made : List Dd) (n : Node) → value_at (node_dd env made n) ≡ part_value (map value_at made) (chosen_part (at x) n)
    node_means made n =
        value_of-function_of env.scope (λ y. value_of (slice_index_or (funcs_of (map (part_dd env made) n.parts)) (slice_index y n.slot) (everywhere env.scope (pos 0))) y) x (scope_some env.scope scope) point
        ∙ ap (λ fs. value_of (get_or fs (get_or x n.slot 0) (everywhere env.scope (pos 0))) x) (map_map (λ (d : Dd). d.func) (part_dd env made) n.parts)
        ∙ ap (λ f. value_of f x) (get_or-map (λ a. (part_dd env made a).func) n.parts (get_or x n.slot 0) (Leaf (pos 0)))
        ∙ part_means made (chosen_part (at x) n)

    nodes_mean : (made : List Dd) (ns : List Node) → map value_at (dds_of env made ns) ≡ values (at x) (map value_at made) ns
    nodes_mean made [] = refl
    nodes_mean made (n ∷ ns) =
        nodes_mean (made ++ node_dd env made n ∷ []) ns
        ∙ ap (λ vs. values (at x) vs ns) (map-append value_at made (node_dd env made n ∷ []) ∙ ap (λ v. map value_at made ++ v ∷ []) (node_means made n))

  -- ---- they are functions of the scope
  abbrev IsOfScope : Dd → Type 0
  IsOfScope d = d.func ≡ function_of env.scope (value_of d.func)

  made_of : (h : List ℕ → ℤ) (d : Dd) → d.func ≡ function_of env.scope h → IsOfScope d
  made_of h d e = e ∙ IsFunc-function_of env.scope h scope ∙ ap (λ f. function_of env.scope (value_of f)) (sym e)

  all_of_scope : (made : List Dd) (ns : List Node) → All IsOfScope made → All IsOfScope (dds_of env made ns)
  all_of_scope made [] h = h
  all_of_scope made (n ∷ ns) h = all_of_scope (made ++ node_dd env made n ∷ []) ns (all_push IsOfScope made (node_dd env made n) h (made_of _ (node_dd env made n) refl))

  part_of_scope : (made : List Dd) (a : Part) → All IsOfScope made → IsOfScope (part_dd env made a)
  part_of_scope made (Leaf z) h = made_of (λ y. z) (constant_dd env z) refl
  part_of_scope made (At i) h = all_or IsOfScope made i (constant_dd env (pos 0)) h (made_of (λ y. pos 0) (constant_dd env (pos 0)) refl)

  -- the root's dd has the function
  pub root_means : (f : Func) → f.shape ≡ env.scope → IsFunc f → (part_dd env (dds_of env [] (node_list f)) (root_part f)).func ≡ f
  unfolding node_value
  root_means f shape is =
      let d : Dd = part_dd env (dds_of env [] (node_list f)) (root_part f) in
      let sizes : f.shape.sizes ≡ env.scope.sizes = ap (λ (s : Shape). s.sizes) shape in
      part_of_scope (dds_of env [] (node_list f)) (root_part f) (all_of_scope [] (node_list f) (λ k e l. absurd (omega arith)))
      ∙ same_function env.scope (value_of (part_dd env (dds_of env [] (node_list f)) (root_part f)).func) (value_of f) (scope_some env.scope scope)
      (λ x point. part_means x point (dds_of env [] (node_list f)) (root_part f) ∙ ap (λ vs. part_value vs (root_part f)) (nodes_mean x point [] (node_list f))
      ∙ node_value_is (at x) (node_list f) (root_part f) ∙ (func_made f).value x (subst (λ ws. IsPoint ws x) (sym sizes) point))
      ∙ ap (λ s. function_of s (value_of f)) (sym shape) ∙ sym is
    where
      node_value_is : (π : ℕ → ℕ) (ns : List Node) (a : Part) → part_value (values π [] ns) a ≡ node_value π ns a
      node_value_is π ns a = refl

  -- ---- they mention slots of nodes alone
  module _ (c : Slots) where
    abbrev IsAmong : Dd → Type 0
    IsAmong d = is_among d.mentions c ≡ true

    part_among : (made : List Dd) (a : Part) → All IsAmong made → IsAmong (part_dd env made a)
    part_among made (Leaf z) h = none_among c
    part_among made (At i) h = all_or IsAmong made i (constant_dd env (pos 0)) h (none_among c)

    parts_among : (made : List Dd) (ps : List Part) → All IsAmong made → All IsAmong (map (part_dd env made) ps)
    parts_among made [] h k d l = absurd (omega arith)
    parts_among made (a ∷ ps) h zero d l = part_among made a h
    parts_among made (a ∷ ps) h (suc k) d l = parts_among made ps h k d (omega arith)

    pub nodes_among : (made : List Dd) (ns : List Node) → All IsAmong made → All (λ n. has c n.slot ≡ true) ns → All IsAmong (dds_of env made ns)
    nodes_among made [] h k = h
    nodes_among made (n ∷ ns) h k =
        nodes_among (made ++ node_dd env made n ∷ []) ns
        (all_push IsAmong made (node_dd env made n) h (all_among (λ (d : Dd). d.mentions) (one n.slot) c (map (part_dd env made) n.parts) (one_among n.slot c (k 0 n (omega arith))) (parts_among made n.parts h)))
        (λ i d l. k (suc i) d (omega arith))
