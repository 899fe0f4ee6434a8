-- Judging gives what the text tells.
use Rattle.std.proofs.Common.{◌≡◌, ℕ, zero, suc, Bool, true, false, cond, List, [], ◌∷◌, map, Option, Some, None, refl, sym, ap, ◌∙◌, subst, arith, inl, inr}
use Rattle.std.specs.Prelude.{ℤ, pos, fold, find, option_map, unwrap_or, Result, Ok, Err, IfOk, IfSome, All, if◌then◌else◌}
use Rattle.std.specs.Str.{bytes_eq}
use Rattle.sp_lex.specs.declared.lexeme.Span.{Span}
use Rattle.sp_lex.specs.declared.decimal.NumError.{NumError}
use Rattle.sp_lex.specs.Decimal.{ticks_of}
use Rattle.sp_syntax.specs.declared.text.Tree.{Tree, out-Tree}
use Rattle.sp_syntax.specs.declared.text.Tree.TheOpen.{Tree-F}
use Rattle.sp_syntax.specs.declared.text.Tree.TheFolds.{fold_out-Tree, fold_out-Branch, map-Tree}
use Rattle.sp_syntax.specs.declared.text.Branch.{Branch, out-Branch}
use Rattle.sp_dd.specs.Points.{IsPoint}
use Rattle.sp_dd.specs.Func.{Shape, Func, IsScope, IsFunc, IsPointOf, value_of, function_of}
use Rattle.sp_dd.specs.Operations.{everywhere, plus, product_floor}
use Rattle.sp_dd.proofs.FuncLemmas.{IsFunc-function_of, same_function, scope_some}
use Rattle.sp_trees.specs.declared.refusal.ModelKind.{ModelKind}
use Rattle.sp_trees.specs.declared.refusal.ModelKind.TheVariants as kind
use Rattle.sp_trees.specs.declared.refusal.Refusal.{Refusal}
use Rattle.sp_trees.specs.declared.slots.Slots.{Slots}
use Rattle.sp_trees.specs.declared.env.Env.{Env}
use Rattle.sp_trees.specs.declared.env.Dd.{Dd}
use Rattle.sp_trees.specs.declared.judged.Judged.{Judged}
use Rattle.sp_trees.specs.declared.judged.Listed.{Listed}
use Rattle.sp_trees.specs.declared.lists.Op.{Op}
use Rattle.sp_trees.specs.declared.lists.Op.TheVariants as op
use Rattle.sp_trees.specs.declared.nodes.Place.{Place}
use Rattle.sp_trees.specs.declared.nodes.Branching.{Branching}
use Rattle.sp_trees.specs.Slots.{none, union, is_among}
use Rattle.sp_trees.specs.Judged.{inside}
use Rattle.sp_trees.specs.Words.{text, name_span}
use Rattle.sp_trees.specs.Dds.{dd_of_name}
use Rattle.sp_trees.specs.Conditions.{is_within, is_product_whole}
use Rattle.sp_trees.specs.Single.{number_by, reference_by}
use Rattle.sp_trees.specs.Lists.{greatest_partial, neutral, partial_within_limit, result_of_operation, at_bracket, result_of_step, steps, or_neutral, list_by, list_of}
use Rattle.sp_trees.specs.Nodes.{place_of, values_of, branching_on, parts_from, chosen_by, node_rows, node_by as node_outcome}
use Rattle.sp_trees.specs.Judge.{Branched, listed_branch, node_by, tree_step, branch_step, judgement, judgement_of_branch}
use Rattle.sp_trees.specs.Values.{tree_value}
use Rattle.sp_trees.specs.Good.{IsGood, IsEnv}
use Rattle.sp_trees.specs.Rows.{Among, IsTreeOfBranch, IsPartBy}
use Rattle.sp_trees.specs.Told.{func_of, all_of, dd_mentions, node_mentions, mention_step, in_branch, mentions_of, branch_mentions, HasMade, TreesAreTold}
use Rattle.sp_trees.proofs.Parts.{by_parts}
use Rattle.sp_trees.proofs.LeastLemmas.{Every}
use Rattle.sp_trees.proofs.ListLemmas.{steps_keep}
use Rattle.sp_trees.proofs.HoldLemmas.{tree_holds}
use Rattle.sp_trees.proofs.ValueLemmas.{values_told}

every_tree : (P : Tree → Type 0) (ts : List Tree) → ((s : Tree) → Among (λ t. t ≡ s) ts → P s) → Every P ts
every_tree P [] h = tt
every_tree P (t ∷ ts) h = (h t (inl refl), every_tree P ts (λ s k. h s (inr k)))

every_branch : (P : Tree → Type 0) (bs : List Branch) → ((s : Tree) → Among (IsTreeOfBranch s) bs → P s) → Every (λ b. P (out-Branch b).tree) bs
every_branch P [] h = tt
every_branch P (b ∷ bs) h = (h (out-Branch b).tree (inl refl), every_branch P bs (λ s k. h s (inr k)))

every_all : {X : Type 0} (P : X → Type 0) (xs : List X) → Every P xs → All P xs
every_all P [] h k d l = absurd (omega arith)
every_all P (x ∷ xs) h zero d l = h.0
every_all P (x ∷ xs) h (suc k) d l = every_all P xs h.1 k d (omega arith)

every_map : {X Y : Type 0} (f : X → Y) (P : Y → Type 0) (xs : List X) → Every (λ x. P (f x)) xs → Every P (map f xs)
every_map f P [] h = tt
every_map f P (x ∷ xs) h = (h.0, every_map f P xs h.1)

module _ (env : Env) (source : List ℕ) (allowed : Slots) (e : IsEnv env) (made : HasMade env) where
  -- ---- mentions

  abbrev SaysSame : Tree → Type 0
  SaysSame t = (judgement env source allowed t).mentions ≡ mentions_of env source t

  tree_mentions : (first : Slots) (ts : List Tree) → Every SaysSame ts → fold (λ all j. union all j.mentions) first (map (judgement env source allowed) ts) ≡ all_of first (map (mentions_of env source) ts)
  tree_mentions first [] h = refl
  tree_mentions first (t ∷ ts) h =
      ap (λ m. fold (λ all j. union all j.mentions) (union first m) (map (judgement env source allowed) ts)) h.0 ∙ tree_mentions (union first (mentions_of env source t)) ts h.1

  mentioned_in : (values : List (List ℕ)) (first : Slots) (bs : List Branch) → Every (λ b. SaysSame (out-Branch b).tree) bs
      → fold (λ all l. union all l.judged.mentions) first (map (listed_branch source values) (map (judgement_of_branch env source allowed) bs)) ≡ all_of first (map (branch_mentions env source) bs)
  mentioned_in values first [] h = refl
  mentioned_in values first (b ∷ bs) h =
      let mine : (judgement_of_branch env source allowed b).judged.mentions ≡ branch_mentions env source b =
      ap (λ (x : Branched). x.judged.mentions) (fold_out-Branch Judged Branched (tree_step env source allowed) branch_step b) ∙ h.0 ∙ sym (fold_out-Branch Slots Slots (mention_step env source) in_branch b) in
      ap (λ m. fold (λ all l. union all l.judged.mentions) (union first m) (map (listed_branch source values) (map (judgement_of_branch env source allowed) bs))) mine
      ∙ mentioned_in values (union first (branch_mentions env source b)) bs h.1

  node_same : (is_primed : Bool) (left word : Span) (bs : List Branch) (o : Option Place) → Every (λ b. SaysSame (out-Branch b).tree) bs
      → (node_by env source allowed is_primed left word (map (judgement_of_branch env source allowed) bs) o).mentions ≡ node_mentions env is_primed (map (branch_mentions env source) bs) o
  node_same is_primed left word bs None h = mentioned_in [] none bs h
  node_same is_primed left word bs (Some p) h = mentioned_in (values_of env p) _ bs h

  reference_same : (at : ℕ) (o : Option Dd) → (reference_by allowed at o).mentions ≡ dd_mentions o
  reference_same at None = refl
  reference_same at (Some d) = refl

  mention_layer : (x : Tree-F Tree Branch) → ((s : Tree) → IsPartBy s x → SaysSame s)
      → (tree_step env source allowed (map-Tree Tree Branch Judged Branched (judgement env source allowed) (judgement_of_branch env source allowed) x)).mentions ≡ mention_step env source (map-Tree Tree Branch Slots Slots (mentions_of env source) (branch_mentions env source) x)
  mention_layer (Tree-F.Number left word right) h = refl
  mention_layer (Tree-F.Reference left word right) h = reference_same word.start (dd_of_name (text source word) env.dds)
  mention_layer (Tree-F.Node left word bs right) h = node_same false left word bs (place_of env (text source (name_span false word))) (every_branch SaysSame bs h)
  mention_layer (Tree-F.PrimedNode left word bs right) h = node_same true left word bs (place_of env (text source (name_span true word))) (every_branch SaysSame bs h)
  mention_layer (Tree-F.Sum left plus ts right) h = tree_mentions none ts (every_tree SaysSame ts h)
  mention_layer (Tree-F.Product left star ts right) h = tree_mentions none ts (every_tree SaysSame ts h)

  says_same : (t : Tree) → SaysSame t
  says_same = by_parts SaysSame (λ t h.
      ap (λ (j : Judged). j.mentions) (fold_out-Tree Judged Branched (tree_step env source allowed) branch_step t) ∙ mention_layer (out-Tree t) h
      ∙ sym (fold_out-Tree Slots Slots (mention_step env source) in_branch t))

  -- ---- functions

  abbrev IsMade : Result Func Refusal → Type 0
  IsMade r = IfOk r IsFunc

  scope : IsScope env.scope
  scope = e.scope

  checked_made : (f : Func) → IsFunc f → IfOk (partial_within_limit f) IsFunc
  checked_made f h = go (is_within greatest_partial f)
    where
      go : (b : Bool) → IfOk (if b then Ok f else Err kind.TooLarge) IsFunc
      go true = h
      go false = tt

  abbrev Whole : Func → Type 0
  Whole f = IsFunc f × IsScope f.shape

  combined_made : (o : Op) (f g : Func) → IsScope f.shape → IfOk (result_of_operation o f g) IsFunc
  combined_made op.Sum f g c = checked_made (plus f g) (IsFunc-function_of f.shape _ c)
  combined_made op.Product f g c = go (is_product_whole f g)
    where
      go : (b : Bool) → IfOk (if b then partial_within_limit (product_floor f g) else Err kind.TooFine) IsFunc
      go true = checked_made (product_floor f g) (IsFunc-function_of f.shape _ c)
      go false = tt

  checked_scope : (f : Func) → IsScope f.shape → IfOk (partial_within_limit f) (λ f. IsScope f.shape)
  checked_scope f h = go (is_within greatest_partial f)
    where
      go : (b : Bool) → IfOk (if b then Ok f else Err kind.TooLarge) (λ f. IsScope f.shape)
      go true = h
      go false = tt

  combined_scope : (o : Op) (f g : Func) → IsScope f.shape → IfOk (result_of_operation o f g) (λ f. IsScope f.shape)
  combined_scope op.Sum f g c = checked_scope (plus f g) c
  combined_scope op.Product f g c = go (is_product_whole f g)
    where
      go : (b : Bool) → IfOk (if b then partial_within_limit (product_floor f g) else Err kind.TooFine) (λ f. IsScope f.shape)
      go true = checked_scope (product_floor f g) c
      go false = tt

  joined_whole : (o : Op) (at : ℕ) (f g : Func) → Whole f → Whole g → IfOk (result_of_step o at f g) Whole
  joined_whole o at f g h k = go (result_of_operation o f g) (combined_made o f g h.1) (combined_scope o f g h.1)
    where
      go : (r : Result Func ModelKind) → IfOk r IsFunc → IfOk r (λ f. IsScope f.shape) → IfOk (at_bracket at r) Whole
      go (Ok f) a b = (a, b)
      go (Err k) a b = tt

  abbrev OfTree : Tree → Type 0
  OfTree t = IfOk (judgement env source allowed t).outcome Whole

  everywhere_whole : (v : ℤ) → Whole (everywhere env.scope v)
  everywhere_whole v = (IsFunc-function_of env.scope (λ x. v) scope, scope)

  number_made : (at : ℕ) (r : Result ℤ NumError) → IfOk (number_by env.scope at r) Whole
  number_made at (Ok v) = everywhere_whole v
  number_made at (Err z) = tt

  found_made : (name : List ℕ) (ds : List (List ℕ × Dd)) → All (λ d. IsFunc d.1.func) ds → All (λ d. IsGood env.scope d.1.mentions d.1.func) ds → IfSome (dd_of_name name ds) (λ d. Whole d.func)
  found_made name [] h k = tt
  found_made name (d ∷ ds) h k = go (bytes_eq name d.0) (found_made name ds (λ i x l. h (suc i) x (omega arith)) (λ i x l. k (suc i) x (omega arith)))
    where
      go : (b : Bool) → IfSome (dd_of_name name ds) (λ d. Whole d.func) → IfSome (option_map (λ d. d.1) (cond b (Some d) (find (λ d. bytes_eq name d.0) ds))) (λ d. Whole d.func)
      go true more = (h 0 d (omega arith), (let g = k 0 d (omega arith) in subst IsScope (sym g.fit.shape) scope))
      go false more = more

  reference_made : (at : ℕ) (o : Option Dd) → IfSome o (λ d. Whole d.func) → IfOk (reference_by allowed at o).outcome Whole
  reference_made at None h = tt
  reference_made at (Some d) h = go (is_among d.mentions allowed)
    where
      out : Bool → Result Func Refusal
      out b = if b then Ok d.func else Err (record { at = at; kind = kind.BadScope })

      go : (b : Bool) → IfOk (out b) Whole
      go true = h
      go false = tt

  node_made : (is_primed : Bool) (left word : Span) (bs : List Branched) (o : Option Place) → IfOk (node_by env source allowed is_primed left word bs o).outcome Whole
  node_made is_primed left word bs None = tt
  node_made is_primed left word bs (Some p) = go (node_rows allowed n ls)
    where
      n : Branching
      n = branching_on env is_primed p left.start word.start

      ls : List Listed
      ls = map (listed_branch source (values_of env p)) bs

      chosen_made : (r : Result (List Func) Refusal) → IfOk (chosen_by env.scope n.slot r) Whole
      chosen_made (Ok fs) = (IsFunc-function_of env.scope _ scope, scope)
      chosen_made (Err r) = tt

      go : (r : Option Refusal) → IfOk (node_outcome env.scope n ls r) Whole
      go (Some r) = tt
      go None = chosen_made (parts_from n.left ls [] _)

  list_made : (o : Op) (at : ℕ) (js : List Judged) → All (λ j. IfOk j.outcome Whole) js → IfOk (list_of env.scope o at js).outcome Whole
  list_made o at js h = go (inside js)
    where
      made_by : (r : Result (Option Func) Refusal) → IfOk r (λ f. IfSome f Whole) → IfOk (or_neutral env.scope o r) Whole
      made_by (Err r) k = tt
      made_by (Ok None) k = everywhere_whole (neutral o)
      made_by (Ok (Some f)) k = k

      go : (r : Option Refusal) → IfOk (list_by env.scope o at r js) Whole
      go (Some r) = tt
      go None = made_by (steps o at None js) (steps_keep Whole o at (joined_whole o at) None js tt h)

  layer : (x : Tree-F Tree Branch) → ((s : Tree) → IsPartBy s x → OfTree s)
      → IfOk (tree_step env source allowed (map-Tree Tree Branch Judged Branched (judgement env source allowed) (judgement_of_branch env source allowed) x)).outcome Whole
  layer (Tree-F.Number left word right) h = number_made word.start (ticks_of (text source word))
  layer (Tree-F.Reference left word right) h = reference_made word.start (dd_of_name (text source word) env.dds) (found_made (text source word) env.dds made e.dds)
  layer (Tree-F.Node left word bs right) h = node_made false left word (map (judgement_of_branch env source allowed) bs) (place_of env (text source (name_span false word)))
  layer (Tree-F.PrimedNode left word bs right) h = node_made true left word (map (judgement_of_branch env source allowed) bs) (place_of env (text source (name_span true word)))
  layer (Tree-F.Sum left plus ts right) h =
      list_made op.Sum left.start (map (judgement env source allowed) ts) (every_all _ _ (every_map (judgement env source allowed) (λ j. IfOk j.outcome Whole) ts (every_tree OfTree ts h)))
  layer (Tree-F.Product left star ts right) h =
      list_made op.Product left.start (map (judgement env source allowed) ts) (every_all _ _ (every_map (judgement env source allowed) (λ j. IfOk j.outcome Whole) ts (every_tree OfTree ts h)))

  tree_made : (t : Tree) → OfTree t
  tree_made = by_parts OfTree (λ t h. subst (λ (j : Judged). IfOk j.outcome Whole) (sym (fold_out-Tree Judged Branched (tree_step env source allowed) branch_step t)) (layer (out-Tree t) h))

  pub told : (t : Tree) → ((judgement env source allowed t).mentions ≡ mentions_of env source t) × IfOk (judgement env source allowed t).outcome (λ f. f ≡ func_of env source t)
  told t = (says_same t, go (judgement env source allowed t).outcome (tree_made t) (tree_holds env source allowed e t).0 (values_told env source allowed t e))
    where
      go : (r : Result Func Refusal) → IfOk r Whole → IfOk r (λ f. IsGood env.scope (judgement env source allowed t).mentions f) → IfOk r (λ f. (x : List ℕ) → IsPointOf f x → tree_value env source t x ≡ Some (value_of f x))
          → IfOk r (λ f. f ≡ func_of env source t)
      go (Err r) a b c = tt
      go (Ok f) a b c =
          a.0 ∙ ap (λ s. function_of s (value_of f)) b.fit.shape
          ∙ same_function env.scope (value_of f) (λ x. unwrap_or (tree_value env source t x) (pos 0)) (scope_some env.scope scope)
          (λ x w. sym (ap (λ o. unwrap_or o (pos 0)) (c x (subst (λ (s : Shape). IsPoint s.sizes x) (sym b.fit.shape) w))))

pub trees_told : TreesAreTold
trees_told env source allowed t e made = told env source allowed e made t
