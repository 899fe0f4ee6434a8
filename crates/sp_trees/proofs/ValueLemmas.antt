-- Judged functions have the values of their trees.
use Rattle.std.proofs.Common.{◌≡◌, ℕ, zero, suc, ◌+◌, ◌<◌, Bool, true, false, cond, List, [], ◌∷◌, ◌++◌, length, map, get_or, Option, Some, None, refl, sym, ap, ◌∙◌, subst, arith, length-append, zero-add}
use Rattle.std.specs.Prelude.{ℤ, pos, ◌+ℤ◌, ◌*ℤ◌, ◌≤ℤ◌, ◌<ℤ◌, fold, find, option_map, slice_index, Result, Ok, Err, IfOk, IfSome, All, if◌then◌else◌}
use Rattle.std.specs.List.{range_with_len}
use Rattle.std.specs.Str.{bytes_eq}
use Rattle.std.proofs.lemmas.Int.{ints}
use Rattle.std.proofs.lemmas.Bool.Decides.{Decides-int_eq}
use Rattle.std.proofs.lemmas.List.{get_or_append_left}
use Rattle.std.proofs.lemmas.List.FromFn.{length-range_with_len, get_or-range_with_len}
use Rattle.sp_lex.specs.declared.lexeme.Span.{Span}
use Rattle.sp_lex.specs.declared.decimal.NumError.{NumError}
use Rattle.sp_lex.specs.Decimal.{ticks_of}
use Rattle.sp_syntax.specs.declared.text.Tree.{Tree, roll-Tree}
use Rattle.sp_syntax.specs.declared.text.Tree.TheOpen.{Tree-F, Branch-F}
use Rattle.sp_syntax.specs.declared.text.Tree.TheFolds.{fold-roll-Tree, fold-roll-Branch, map-Tree, map-Branch, ind-Tree}
use Rattle.sp_syntax.specs.declared.text.Branch.{Branch, roll-Branch}
use Rattle.sp_dd.specs.Floors.{ticks, floor_div}
use Rattle.sp_dd.specs.Points.{IsPoint}
use Rattle.sp_dd.specs.Func.{Shape, Func, IsScope, IsPointOf, value_of, function_of, size_of}
use Rattle.sp_dd.specs.Operations.{everywhere, plus, product_floor}
use Rattle.sp_dd.proofs.FloorLemmas.{floor-low, floor-greatest, below_next}
use Rattle.sp_dd.proofs.FuncLemmas.{scope_some, value_of-function_of}
use Rattle.sp_dd.proofs.IndependenceLemmas.{point-below}
use Rattle.sp_trees.specs.declared.refusal.ModelKind.{ModelKind}
use Rattle.sp_trees.specs.declared.refusal.ModelKind.TheVariants as kind
use Rattle.sp_trees.specs.declared.refusal.Refusal.{Refusal}
use Rattle.sp_trees.specs.declared.slots.Slots.{Slots}
use Rattle.sp_trees.specs.declared.env.Env.{Env}
use Rattle.sp_trees.specs.declared.env.Dd.{Dd}
use Rattle.sp_trees.specs.declared.judged.Judged.{Judged}
use Rattle.sp_trees.specs.declared.judged.Listed.{Listed}
use Rattle.sp_trees.specs.declared.lists.Op.{Op}
use Rattle.sp_trees.specs.declared.lists.Op.TheVariants as op
use Rattle.sp_trees.specs.declared.nodes.Branching.{Branching}
use Rattle.sp_trees.specs.declared.nodes.Place.{Place}
use Rattle.sp_trees.specs.Slots.{is_among}
use Rattle.sp_trees.specs.Words.{text, name_span, number_of}
use Rattle.sp_trees.specs.Dds.{dd_of_name}
use Rattle.sp_trees.specs.Conditions.{one, is_whole, is_within, is_product_whole}
use Rattle.sp_trees.specs.Judged.{inside}
use Rattle.sp_trees.specs.Single.{number, number_by, reference, reference_by}
use Rattle.sp_trees.specs.Lists.{greatest_partial, neutral, partial_within_limit, result_of_operation, at_bracket, result_of_step, step, then_more, steps, or_neutral, list_by, list_of}
use Rattle.sp_trees.specs.Nodes.{IsPlace, is_value, values_of, place_of, branching_on, node_rows, part, part_by, branch_at, then_part, parts_from, chosen_by, node_by as node_outcome, known_node}
use Rattle.sp_trees.specs.Judge.{Branched, listed_branch, node, node_by, tree_step, branch_step, judgement, judgement_of_branch}
use Rattle.sp_trees.specs.Values as told
use Rattle.sp_trees.specs.Values.{Value, Valued, tree_value, branch_valued, ValuesAreTheTrees}
use Rattle.sp_trees.specs.Good.{IsGood, IsEnv}
use Rattle.sp_trees.proofs.ConditionLemmas.{all_at}
use Rattle.sp_trees.proofs.EnvLemmas.{slot_is, place_within}
use Rattle.sp_trees.proofs.HoldLemmas.{tree_holds}

-- ---- sums and products of two values

floor_whole : (a : ℤ) (q : ℕ) → 0 < q → floor_div (a *ℤ pos q) q ≡ a
floor_whole a q some =
    let low : floor_div (a *ℤ pos q) q ≤ℤ a = below_next (floor_div (a *ℤ pos q) q) a (a *ℤ pos q) q some (floor-low (a *ℤ pos q) q some) (more (a *ℤ pos q) q some) in
    let high : a ≤ℤ floor_div (a *ℤ pos q) q = floor-greatest a (a *ℤ pos q) q some (same (a *ℤ pos q)) in
    both (floor_div (a *ℤ pos q) q) a low high
  where
    more : (z : ℤ) (q : ℕ) → 0 < q → z <ℤ (z +ℤ pos q)
    more z q h = omega (arith, ints)

    same : (z : ℤ) → z ≤ℤ z
    same z = omega (arith, ints)

    both : (a b : ℤ) → a ≤ℤ b → b ≤ℤ a → a ≡ b
    both a b h k = omega (arith, ints)

abbrev with_op : Op → Option ℤ → Option ℤ → Option ℤ
with_op op.Sum = told.sum_of
with_op op.Product = told.product_of

-- a first value
first_value : (o : Op) (v : ℤ) → with_op o (Some (neutral o)) (Some v) ≡ Some v
first_value op.Sum v = ap (λ z. Some z) (zero_plus v)
  where
    zero_plus : (v : ℤ) → pos 0 +ℤ v ≡ v
    zero_plus v = omega (arith, ints)
first_value op.Product v =
    let turned : one *ℤ v ≡ v *ℤ one = turn v in
    let floor : floor_div (one *ℤ v) ticks ≡ v = ap (λ z. floor_div z ticks) turned ∙ floor_whole v ticks (omega arith) in
    let whole : is_whole (one *ℤ v) ≡ true = (Decides-int_eq _ _).1 (ap (λ z. z *ℤ pos ticks) floor ∙ sym turned) in
    ap (λ b. if b then Some (floor_div (one *ℤ v) ticks) else None) whole ∙ ap (λ z. Some z) floor
  where
    turn : (v : ℤ) → one *ℤ v ≡ v *ℤ one
    turn v = omega (arith, ints)

-- ---- one step, at a point

module _ (s : Shape) (c : IsScope s) (x : List ℕ) (w : IsPoint s.sizes x) where
  -- a function of the scope has a value that is told
  abbrev Has : Option ℤ → Func → Type 0
  Has v f = (f.shape ≡ s) × (v ≡ Some (value_of f x))

  abbrev Agrees : Result Func Refusal → Option ℤ → Type 0
  Agrees r v = IfOk r (Has v)

  value_made : (f : Func) (h : List ℕ → ℤ) → f.shape ≡ s → value_of (function_of f.shape h) x ≡ h x
  value_made f h e = value_of-function_of f.shape h x (scope_some f.shape (subst IsScope (sym e) c)) (subst (λ (t : Shape). IsPoint t.sizes x) (sym e) w)

  checked_has : (f : Func) (v : Option ℤ) → Has v f → IfOk (partial_within_limit f) (Has v)
  checked_has f v h = go (is_within greatest_partial f)
    where
      go : (b : Bool) → IfOk (if b then Ok f else Err kind.TooLarge) (Has v)
      go true = h
      go false = tt

  combined_has : (o : Op) (f g : Func) (a b : Option ℤ) → Has a f → Has b g → IfOk (result_of_operation o f g) (Has (with_op o a b))
  combined_has op.Sum f g a b h k =
      checked_has (plus f g) (told.sum_of a b)
      (h.0, (λ i. told.sum_of (h.1 i) (k.1 i)) ∙ ap (λ z. Some z) (sym (value_made f (λ x. value_of f x +ℤ value_of g x) h.0)))
  combined_has op.Product f g a b h k = go (is_product_whole f g) refl
    where
      z : ℤ
      z = value_of f x *ℤ value_of g x

      whole : is_product_whole f g ≡ true → is_whole z ≡ true
      whole e =
          ap is_whole (sym (value_made f (λ x. value_of f x *ℤ value_of g x) h.0))
          ∙ all_at is_whole (function_of f.shape (λ x. value_of f x *ℤ value_of g x)) (subst IsScope (sym h.0) c) e x (subst (λ (t : Shape). IsPoint t.sizes x) (sym h.0) w)

      go : (t : Bool) → is_product_whole f g ≡ t → IfOk (if t then partial_within_limit (product_floor f g) else Err kind.TooFine) (Has (told.product_of a b))
      go true e =
          checked_has (product_floor f g) (told.product_of a b) (
            h.0,
            (λ i. told.product_of (h.1 i) (k.1 i)) ∙ ap (λ (t : Bool). if t then Some (floor_div z ticks) else None) (whole e)
                ∙ ap (λ z. Some z) (sym (value_made f (λ x. floor_div (value_of f x *ℤ value_of g x) ticks) h.0)),
          )
      go false e = tt

  joined_has : (o : Op) (at : ℕ) (f g : Func) (a b : Option ℤ) → Has a f → Has b g → IfOk (result_of_step o at f g) (Has (with_op o a b))
  joined_has o at f g a b h k = go (result_of_operation o f g) (combined_has o f g a b h k)
    where
      go : (r : Result Func ModelKind) → IfOk r (Has (with_op o a b)) → IfOk (at_bracket at r) (Has (with_op o a b))
      go (Ok f) p = p
      go (Err e) p = tt

  -- ---- a list

  abbrev Before : Op → Option Func → Option ℤ → Type 0
  Before o None a = a ≡ Some (neutral o)
  Before o (Some f) a = Has a f

  step_has : (o : Op) (at : ℕ) (so_far : Option Func) (a : Option ℤ) (r : Result Func Refusal) (v : Option ℤ) → Before o so_far a → Agrees r v → IfOk (step o at so_far r) (Has (with_op o a v))
  step_has o at so_far a (Err e) v h k = tt
  step_has o at None a (Ok g) v h k = (k.0, (λ i. with_op o (h i) (k.1 i)) ∙ first_value o (value_of g x))
  step_has o at (Some f) a (Ok g) v h k = joined_has o at f g a v h k

  abbrev AllAgree : List Judged → List (Option ℤ) → Type 0
  AllAgree [] vs = vs ≡ []
  AllAgree (j ∷ js) [] = ⊥
  AllAgree (j ∷ js) (v ∷ vs) = Agrees j.outcome v × AllAgree js vs

  steps_has : (o : Op) (at : ℕ) (so_far : Option Func) (a : Option ℤ) (js : List Judged) (vs : List (Option ℤ)) → Before o so_far a → AllAgree js vs
      → IfOk (steps o at so_far js) (λ r. Before o r (fold (with_op o) a vs))
  unfolding steps
  steps_has o at so_far a [] vs h k = subst (λ us. Before o so_far (fold (with_op o) a us)) (sym k) h
  steps_has o at so_far a (j ∷ js) [] h k = absurd k
  steps_has o at so_far a (j ∷ js) (v ∷ vs) h k = go (step o at so_far j.outcome) (step_has o at so_far a j.outcome v h k.0) (λ f p. steps_has o at (Some f) (with_op o a v) js vs p k.1)
    where
      go : (r : Result Func Refusal) → IfOk r (Has (with_op o a v)) → ((f : Func) → Has (with_op o a v) f → IfOk (steps o at (Some f) js) (λ r. Before o r (fold (with_op o) (with_op o a v) vs)))
          → IfOk (then_more r (λ f. steps o at (Some f) js)) (λ r. Before o r (fold (with_op o) (with_op o a v) vs))
      go (Ok f) p more = more f p
      go (Err e) p more = tt

  list_has : (o : Op) (at : ℕ) (js : List Judged) (vs : List (Option ℤ)) → AllAgree js vs → Agrees (list_of s o at js).outcome (fold (with_op o) (Some (neutral o)) vs)
  list_has o at js vs h = go (inside js)
    where
      told_value : Option ℤ
      told_value = fold (with_op o) (Some (neutral o)) vs

      made : (r : Result (Option Func) Refusal) → IfOk r (λ r. Before o r told_value) → Agrees (or_neutral s o r) told_value
      made (Err e) k = tt
      made (Ok None) k = (refl, k ∙ ap (λ z. Some z) (sym (value_of-function_of s (λ x. neutral o) x (scope_some s c) w)))
      made (Ok (Some f)) k = k

      go : (r : Option Refusal) → Agrees (list_by s o at r js) told_value
      go (Some r) = tt
      go None = made (steps o at None js) (steps_has o at None (Some (neutral o)) js vs refl h)

  -- ---- a node

  abbrev BranchesAgree : List Branched → List Valued → Type 0
  BranchesAgree [] vs = vs ≡ []
  BranchesAgree (b ∷ bs) [] = ⊥
  BranchesAgree (b ∷ bs) (v ∷ vs) = (b.word ≡ v.word) × Agrees b.judged.outcome (v.value x) × BranchesAgree bs vs

  part_has : (left : ℕ) (source : List ℕ) (names : List (List ℕ)) (k : ℕ) (bs : List Branched) (vs : List Valued) → BranchesAgree bs vs
      → Agrees (part left (map (listed_branch source names) bs) k) (told.branch_value source names k vs x)
  part_has left source names k [] vs h = tt
  part_has left source names k (b ∷ bs) [] h = absurd h
  part_has left source names k (b ∷ bs) (v ∷ vs) h = go (is_value k (number_of names (text source b.word))) (is_value k (number_of names (text source v.word))) (ap (λ t. is_value k (number_of names (text source t))) h.0) (part_has left source names k bs vs h.2)
    where
      go : (t u : Bool) → t ≡ u → Agrees (part left (map (listed_branch source names) bs) k) (told.branch_value source names k vs x)
          → Agrees (part_by left (cond t (Some (listed_branch source names b)) (branch_at (map (listed_branch source names) bs) k)))
          (told.value_in x (cond u (Some v) (find (λ b. is_value k (number_of names (text source b.word))) vs)))
      go true true e more = h.1
      go false false e more = more
      go true false e more = cc
      go false true e more = cc

-- ---- the functions of the values, by number

abbrev AreItems : ℕ → List Listed → Func → List Func → List ℕ → List Func → Type 0
AreItems left ls d fs vs gs = ((i : ℕ) → i < length fs → get_or gs i d ≡ get_or fs i d) × ((i : ℕ) → i < length vs → part left ls (get_or vs i 0) ≡ Ok (get_or gs (length fs + i) d))

parts_item : (left : ℕ) (ls : List Listed) (fs : List Func) (vs : List ℕ) (d : Func) → IfOk (parts_from left ls fs vs) (AreItems left ls d fs vs)
unfolding parts_from
parts_item left ls fs [] d = (λ i l. refl, λ i l. absurd (omega arith))
parts_item left ls fs (v ∷ vs) d = go (part left ls v) refl (λ f. parts_item left ls (fs ++ f ∷ []) vs d)
  where
    last : (fs : List Func) (f : Func) → get_or (fs ++ f ∷ []) (length fs) d ≡ f
    last [] f = refl
    last (g ∷ fs) f = last fs f

    one_more : (f : Func) → part left ls v ≡ Ok f → (gs : List Func) → AreItems left ls d (fs ++ f ∷ []) vs gs → AreItems left ls d fs (v ∷ vs) gs
    one_more f e gs h = (λ i l. h.0 i (omega (arith, length-append fs (f ∷ []))) ∙ get_or_append_left fs (f ∷ []) d i l, items)
      where
        items : (i : ℕ) → i < length (v ∷ vs) → part left ls (get_or (v ∷ vs) i 0) ≡ Ok (get_or gs (length fs + i) d)
        items zero l =
            let here : length fs + 0 ≡ length fs = omega arith in
            e ∙ ap (λ g. Ok g) (sym (ap (λ k. get_or gs k d) here ∙ h.0 (length fs) (omega (arith, length-append fs (f ∷ []))) ∙ last fs f))
        items (suc i) l =
            let there : length (fs ++ f ∷ []) + i ≡ length fs + suc i = omega (arith, length-append fs (f ∷ [])) in
            h.1 i (omega arith) ∙ ap (λ k. Ok (get_or gs k d)) there

    if_ok : (P Q : List Func → Type 0) (r : Result (List Func) Refusal) → ((gs : List Func) → P gs → Q gs) → IfOk r P → IfOk r Q
    if_ok P Q (Ok gs) h p = h gs p
    if_ok P Q (Err e) h p = tt

    go : (r : Result Func Refusal) → part left ls v ≡ r → ((f : Func) → IfOk (parts_from left ls (fs ++ f ∷ []) vs) (AreItems left ls d (fs ++ f ∷ []) vs))
        → IfOk (then_part (λ gs. parts_from left ls gs vs) fs r) (AreItems left ls d fs (v ∷ vs))
    go (Err e) q more = tt
    go (Ok f) q more = if_ok (AreItems left ls d (fs ++ f ∷ []) vs) (AreItems left ls d fs (v ∷ vs)) (parts_from left ls (fs ++ f ∷ []) vs) (one_more f q) (more f)

-- ---- trees, at a point

module _ (env : Env) (source : List ℕ) (allowed : Slots) (e : IsEnv env) (x : List ℕ) (w : IsPoint env.scope.sizes x) where
  abbrev Told : Result Func Refusal → Option ℤ → Type 0
  Told = Agrees env.scope e.scope x w

  known_has : (n : Branching) (names : List (List ℕ)) (bs : List Branched) (vs : List Valued) → n.slot < length env.scope.sizes → n.count ≡ size_of env.scope n.slot → BranchesAgree env.scope e.scope x w bs vs
      → Told (known_node env.scope allowed n (map (listed_branch source names) bs)).outcome (told.branch_value source names (slice_index x n.slot) vs x)
  known_has n names bs vs within count h = go (node_rows allowed n ls)
    where
      ls : List Listed
      ls = map (listed_branch source names) bs

      k : ℕ
      k = slice_index x n.slot

      none : Func
      none = everywhere env.scope (pos 0)

      below : k < n.count
      below = let low : get_or x n.slot 0 < size_of env.scope n.slot = point-below env.scope.sizes x n.slot w within in omega arith

      made : (r : Result (List Func) Refusal) → IfOk r (AreItems n.left ls none [] (range_with_len 0 n.count)) → Told (chosen_by env.scope n.slot r) (told.branch_value source names k vs x)
      made (Err z) p = tt
      made (Ok gs) p =
          let long = length-range_with_len 0 n.count in
          let low = below in
          let number : get_or (range_with_len 0 n.count) k 0 ≡ k = get_or-range_with_len 0 n.count k 0 below ∙ zero-add k in
          let place : 0 + k ≡ k = zero-add k in
          let here : part n.left ls k ≡ Ok (get_or gs k none) = ap (part n.left ls) (sym number) ∙ p.1 k (omega arith) ∙ ap (λ i. Ok (get_or gs i none)) place in
          let P : Result Func Refusal → Type 0 = λ r. Told r (told.branch_value source names k vs x) in
          let has = subst P here (part_has env.scope e.scope x w n.left source names k bs vs h) in
          (refl, has.1 ∙ ap (λ z. Some z) (sym (value_of-function_of env.scope _ x (scope_some env.scope e.scope) w)))

      go : (r : Option Refusal) → Told (node_outcome env.scope n ls r) (told.branch_value source names k vs x)
      go (Some r) = tt
      go None = made (parts_from n.left ls [] (range_with_len 0 n.count)) (parts_item n.left ls [] (range_with_len 0 n.count) none)

  node_has : (is_primed : Bool) (left word : Span) (bs : List Branched) (vs : List Valued) → BranchesAgree env.scope e.scope x w bs vs
      → Told (node env source allowed is_primed left word bs).outcome (told.node_value env source is_primed word vs x)
  node_has is_primed left word bs vs h = go (place_of env (text source (name_span is_primed word))) (place_within env (text source (name_span is_primed word)))
    where
      go : (o : Option Place) → IfSome o (IsPlace env) → Told (node_by env source allowed is_primed left word bs o).outcome (told.node_by env source is_primed vs o x)
      go None p = tt
      go (Some p) q =
          let is = slot_is env is_primed p e q in
          known_has (branching_on env is_primed p left.start word.start) (values_of env p) bs vs is.within is.size h

  number_has : (word : Span) → Told (number env.scope source word).outcome (told.ticks_value (ticks_of (text source word)))
  number_has word = go (ticks_of (text source word))
    where
      go : (r : Result ℤ NumError) → Told (number_by env.scope word.start r) (told.ticks_value r)
      go (Ok v) = (refl, ap (λ z. Some z) (sym (value_of-function_of env.scope (λ x. v) x (scope_some env.scope e.scope) w)))
      go (Err z) = tt

  dd_shape : (name : List ℕ) (ds : List (List ℕ × Dd)) → All (λ d. IsGood env.scope d.1.mentions d.1.func) ds → IfSome (dd_of_name name ds) (λ d. d.func.shape ≡ env.scope)
  dd_shape name [] h = tt
  dd_shape name (d ∷ ds) h = go (bytes_eq name d.0) (dd_shape name ds (λ k y l. h (suc k) y (omega arith)))
    where
      go : (b : Bool) → IfSome (dd_of_name name ds) (λ d. d.func.shape ≡ env.scope) → IfSome (option_map (λ d. d.1) (cond b (Some d) (find (λ d. bytes_eq name d.0) ds))) (λ d. d.func.shape ≡ env.scope)
      go true k = (h 0 d (omega arith)).fit.shape
      go false k = k

  reference_has : (word : Span) → Told (reference env.dds allowed source word).outcome (told.dd_value env (text source word) x)
  reference_has word = go (dd_of_name (text source word) env.dds) (dd_shape (text source word) env.dds e.dds)
    where
      go : (o : Option Dd) → IfSome o (λ d. d.func.shape ≡ env.scope) → Told (reference_by allowed word.start o).outcome (option_map (λ d. value_of d.func x) o)
      go None h = tt
      go (Some d) h = test (is_among d.mentions allowed)
        where
          test : (b : Bool) → Told (if b then Ok d.func else Err (record { at = word.start; kind = kind.BadScope })) (Some (value_of d.func x))
          test true = (h, refl)
          test false = tt

  -- ---- the fold

  abbrev OfTree : Tree → Type 0
  OfTree t = Told (judgement env source allowed t).outcome (tree_value env source t x)

  abbrev OfBranch : Branch → Type 0
  OfBranch b = (judgement_of_branch env source allowed b).word ≡ (branch_valued env source b).word × Told (judgement_of_branch env source allowed b).judged.outcome ((branch_valued env source b).value x)

  trees_in : (es : List ((t : Tree) × OfTree t)) → AllAgree env.scope e.scope x w (map (judgement env source allowed) (map (λ y. y.0) es)) (map (λ v. v x) (map (tree_value env source) (map (λ y. y.0) es)))
  trees_in [] = refl
  trees_in (y ∷ es) = (y.1, trees_in es)

  branches_in : (es : List ((b : Branch) × OfBranch b)) → BranchesAgree env.scope e.scope x w (map (judgement_of_branch env source allowed) (map (λ y. y.0) es)) (map (branch_valued env source) (map (λ y. y.0) es))
  branches_in [] = refl
  branches_in (y ∷ es) = (y.1.0, y.1.1, branches_in es)

  layer : (y : Tree-F ((t : Tree) × OfTree t) ((b : Branch) × OfBranch b))
      → Told (tree_step env source allowed (map-Tree Tree Branch Judged Branched (judgement env source allowed) (judgement_of_branch env source allowed) (map-Tree _ _ Tree Branch (λ z. z.0) (λ z. z.0) y))).outcome
      (told.tree_step env source (map-Tree Tree Branch Value Valued (tree_value env source) (branch_valued env source) (map-Tree _ _ Tree Branch (λ z. z.0) (λ z. z.0) y)) x)
  layer (Tree-F.Number left word right) = number_has word
  layer (Tree-F.Reference left word right) = reference_has word
  layer (Tree-F.Node left word es right) = node_has false left word _ _ (branches_in es)
  layer (Tree-F.PrimedNode left word es right) = node_has true left word _ _ (branches_in es)
  layer (Tree-F.Sum left plus es right) = list_has env.scope e.scope x w op.Sum left.start _ _ (trees_in es)
  layer (Tree-F.Product left star es right) = list_has env.scope e.scope x w op.Product left.start _ _ (trees_in es)

  abbrev tree_of : Tree-F ((t : Tree) × OfTree t) ((b : Branch) × OfBranch b) → Tree-F Tree Branch
  tree_of y = map-Tree _ _ Tree Branch (λ z. z.0) (λ z. z.0) y

  rolled : (y : Tree-F ((t : Tree) × OfTree t) ((b : Branch) × OfBranch b)) → OfTree (roll-Tree (tree_of y))
  rolled y =
      let j = fold-roll-Tree Judged Branched (tree_step env source allowed) branch_step (tree_of y) in
      let v = fold-roll-Tree Value Valued (told.tree_step env source) told.branch_step (tree_of y) in
      subst (λ (k : Judged). Told k.outcome (tree_value env source (roll-Tree (tree_of y)) x)) (sym j)
      (subst (λ (k : Value). Told (tree_step env source allowed (map-Tree Tree Branch Judged Branched (judgement env source allowed) (judgement_of_branch env source allowed) (tree_of y))).outcome (k x)) (sym v) (layer y))

  abbrev branch_of : Branch-F ((t : Tree) × OfTree t) ((b : Branch) × OfBranch b) → Branch-F Tree Branch
  branch_of y = map-Branch _ _ Tree Branch (λ z. z.0) (λ z. z.0) y

  rolled_branch : (y : Branch-F ((t : Tree) × OfTree t) ((b : Branch) × OfBranch b)) → OfBranch (roll-Branch (branch_of y))
  rolled_branch y =
      let j = fold-roll-Branch Judged Branched (tree_step env source allowed) branch_step (branch_of y) in
      let v = fold-roll-Branch Value Valued (told.tree_step env source) told.branch_step (branch_of y) in
      subst (λ (k : Branched). k.word ≡ (branch_valued env source (roll-Branch (branch_of y))).word × Told k.judged.outcome ((branch_valued env source (roll-Branch (branch_of y))).value x)) (sym j)
      (subst (λ (k : Valued). y.value ≡ k.word × Told (judgement env source allowed y.tree.0).outcome (k.value x)) (sym v) (refl, y.tree.1))

  tree_has : (t : Tree) → OfTree t
  tree_has = ind-Tree OfTree OfBranch (λ z y is. subst (λ r. OfTree (roll-Tree r)) is (rolled y)) (λ z y is. subst (λ r. OfBranch (roll-Branch r)) is (rolled_branch y))

pub values_told : ValuesAreTheTrees
values_told env source allowed t e = go (judgement env source allowed t).outcome (tree_holds env source allowed e t).0 (λ x w. tree_has env source allowed e x w t)
  where
    go : (r : Result Func Refusal) → IfOk r (λ f. IsGood env.scope (judgement env source allowed t).mentions f)
        → ((x : List ℕ) (w : IsPoint env.scope.sizes x) → Agrees env.scope e.scope x w r (tree_value env source t x))
        → IfOk r (λ f. (x : List ℕ) → IsPointOf f x → tree_value env source t x ≡ Some (value_of f x))
    go (Err z) h k = tt
    go (Ok f) h k = λ x p. (k x (subst (λ (s : Shape). IsPoint s.sizes x) h.fit.shape p)).1
