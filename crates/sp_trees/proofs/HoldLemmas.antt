-- What holds of each judged tree: a good function of slots that are allowed, or a refusal.
use Rattle.std.proofs.Common.{◌≡◌, ℕ, zero, suc, ◌+◌, ◌<◌, ◌≤◌, ◌^◌, ◌&&◌, not, Bool, true, false, cond, List, [], ◌∷◌, length, map, Option, Some, None, refl, sym, ◌∙◌, subst, arith}
use Rattle.std.specs.Prelude.{ℤ, unsigned_abs, nat_lt, find, option_map, Result, Ok, Err, IfOk, IfSome, All, if◌then◌else◌}
use Rattle.std.specs.List.{range_with_len}
use Rattle.std.specs.Str.{bytes_eq}
use Rattle.std.proofs.lemmas.Int.{ints}
use Rattle.std.proofs.lemmas.Bool.{false≢true}
use Rattle.std.proofs.lemmas.Bool.Decides.{nat_tests}
use Rattle.std.proofs.lemmas.List.FromFn.{length-range_with_len}
use Rattle.sp_lex.specs.declared.lexeme.Span.{Span}
use Rattle.sp_lex.specs.declared.decimal.NumError.{NumError}
use Rattle.sp_lex.specs.declared.decimal.NumError.TheVariants as fault
use Rattle.sp_lex.specs.Decimal.{Decimal, most_ticks, signed_number, number_within_limit, magnitude_of, is_whole_ticks, decimal_of, ticks_of_decimal, ticks_of}
use Rattle.sp_syntax.specs.declared.text.Tree.{Tree, roll-Tree}
use Rattle.sp_syntax.specs.declared.text.Tree.TheOpen.{Tree-F}
use Rattle.sp_syntax.specs.declared.text.Tree.TheFolds.{fold-roll-Tree, fold-roll-Branch, map-Tree, map-Branch, ind-Tree, ind-Branch}
use Rattle.sp_syntax.specs.declared.text.Branch.{Branch, roll-Branch}
use Rattle.sp_dd.specs.Func.{Shape, Func, IsScope, size_of}
use Rattle.sp_trees.specs.declared.refusal.ModelKind.{ModelKind}
use Rattle.sp_trees.specs.declared.refusal.ModelKind.TheVariants as kind
use Rattle.sp_trees.specs.declared.refusal.Refusal.{Refusal}
use Rattle.sp_trees.specs.declared.slots.Slots.{Slots}
use Rattle.sp_trees.specs.declared.env.Env.{Env}
use Rattle.sp_trees.specs.declared.env.Dd.{Dd}
use Rattle.sp_trees.specs.declared.judged.Judged.{Judged}
use Rattle.sp_trees.specs.declared.judged.Listed.{Listed}
use Rattle.sp_trees.specs.declared.lists.Op.{Op}
use Rattle.sp_trees.specs.declared.lists.Op.TheVariants as op
use Rattle.sp_trees.specs.declared.nodes.Branching.{Branching}
use Rattle.sp_trees.specs.declared.nodes.Place.{Place}
use Rattle.sp_trees.specs.Refusals.{refused_if}
use Rattle.sp_trees.specs.Slots.{none, one, has, is_among}
use Rattle.sp_trees.specs.Words.{text, name_span}
use Rattle.sp_trees.specs.Dds.{dd_of_name}
use Rattle.sp_trees.specs.Judged.{refusal, inside, inside_branches, mentions_of_trees, mentioned_in_branches}
use Rattle.sp_trees.specs.Single.{number, number_by, reference, reference_by}
use Rattle.sp_trees.specs.Lists.{neutral, or_neutral, steps, list_by, list_of}
use Rattle.sp_trees.specs.Nodes.{IsPlace, values_of, place_of, branching_on, value_rows, lists_all, node_rows, parts_from, chosen_by, choice_between, node_by as node_outcome, known_node, IsSmallValue}
use Rattle.sp_trees.specs.Judge.{Branched, listed_branch, node, node_by, tree_step, branch_step, judgement, judgement_of_branch}
use Rattle.sp_trees.specs.Good.{IsGood, IfGood, IsEnv}
use Rattle.sp_trees.proofs.GoodLemmas.{everywhere_good, joined_good, good_more, chosen_good}
use Rattle.sp_trees.proofs.MentionLemmas.{IsPart, none_among, one_among, one_has, all_among, part_first, part_item, lesser_none, first_none, ok_of}
use Rattle.sp_trees.proofs.ListLemmas.{steps_keep, Kept}
use Rattle.sp_trees.proofs.NodeLemmas.{parts_keep}
use Rattle.sp_trees.proofs.EnvLemmas.{slot_is, place_within, number_small}

-- what it mentions is allowed, unless it is refused
abbrev pub IfAllowed : Slots → Judged → Type 0
IfAllowed allowed j = IfOk j.outcome (λ f. is_among j.mentions allowed ≡ true)

abbrev pub Holds : Shape → Slots → Judged → Type 0
Holds s allowed j = IfGood s j × IfAllowed allowed j

-- ---- numbers

ticks_small : (word : List ℕ) → IfOk (ticks_of word) (λ v. unsigned_abs v ≤ 10 ^ 18)
unfolding ticks_of
ticks_small word = go (decimal_of word)
  where
    small : (negative : Bool) (m : ℕ) → m ≤ 10 ^ 18 → unsigned_abs (signed_number negative m) ≤ 10 ^ 18
    small true m h = omega (arith, ints)
    small false m h = omega (arith, ints)

    short : (negative : Bool) (m : ℕ) (b : Bool) → nat_lt most_ticks m ≡ b → IfOk (if b then Err fault.TooLarge else Ok (signed_number negative m)) (λ v. unsigned_abs v ≤ 10 ^ 18)
    short negative m true e = tt
    short negative m false e = small negative m (grind (arith, nat_tests))

    whole : (d : Decimal) (b : Bool) → IfOk (if b then number_within_limit d.negative (magnitude_of d) else Err fault.TooFine) (λ v. unsigned_abs v ≤ 10 ^ 18)
    whole d true = short d.negative (magnitude_of d) (nat_lt most_ticks (magnitude_of d)) refl
    whole d false = tt

    go : (o : Option Decimal) → IfOk (ticks_of_decimal o) (λ v. unsigned_abs v ≤ 10 ^ 18)
    go None = tt
    go (Some d) = whole d (is_whole_ticks d.places)

number_holds : (s : Shape) (allowed : Slots) (source : List ℕ) (word : Span) → IsScope s → Holds s allowed (number s source word)
number_holds s allowed source word c = go (ticks_of (text source word)) (ticks_small (text source word))
  where
    go : (r : Result ℤ NumError) → IfOk r (λ v. unsigned_abs v ≤ 10 ^ 18)
        → IfOk (number_by s word.start r) (λ f. IsGood s none f) × IfOk (number_by s word.start r) (λ f. is_among none allowed ≡ true)
    go (Ok v) h = (everywhere_good s none v c h, none_among allowed)
    go (Err e) h = (tt, tt)

-- ---- references

dd_good : (s : Shape) (name : List ℕ) (ds : List (List ℕ × Dd)) → All (λ d. IsGood s d.1.mentions d.1.func) ds → IfSome (dd_of_name name ds) (λ d. IsGood s d.mentions d.func)
dd_good s name [] h = tt
dd_good s name (d ∷ ds) h = go (bytes_eq name d.0) (dd_good s name ds (λ k e l. h (suc k) e (omega arith)))
  where
    go : (b : Bool) → IfSome (dd_of_name name ds) (λ d. IsGood s d.mentions d.func)
        → IfSome (option_map (λ d. d.1) (cond b (Some d) (find (λ d. bytes_eq name d.0) ds))) (λ d. IsGood s d.mentions d.func)
    go true k = h 0 d (omega arith)
    go false k = k

reference_holds : (s : Shape) (dds : List (List ℕ × Dd)) (allowed : Slots) (source : List ℕ) (word : Span) → All (λ d. IsGood s d.1.mentions d.1.func) dds → Holds s allowed (reference dds allowed source word)
reference_holds s dds allowed source word h = go (dd_of_name (text source word) dds) (dd_good s (text source word) dds h)
  where
    go : (o : Option Dd) → IfSome o (λ d. IsGood s d.mentions d.func) → Holds s allowed (reference_by allowed word.start o)
    go None k = (tt, tt)
    go (Some d) k = test (is_among d.mentions allowed) refl
      where
        out : Bool → Result Func Refusal
        out b = if b then Ok d.func else Err (record { at = word.start; kind = kind.BadScope })

        test : (b : Bool) → is_among d.mentions allowed ≡ b → IfOk (out b) (λ f. IsGood s d.mentions f) × IfOk (out b) (λ f. is_among d.mentions allowed ≡ true)
        test true e = (k, e)
        test false e = (tt, tt)

-- ---- lists

good_wider : (s : Shape) (m n : Slots) (r : Result Func Refusal) → IsPart m n → IfOk r (λ f. IsGood s m f) → IfOk r (IsGood s n)
good_wider s m n (Ok f) more h = good_more s m n f more h
good_wider s m n (Err e) more h = tt

neutral_small : (o : Op) → unsigned_abs (neutral o) ≤ 10 ^ 18
neutral_small op.Sum = omega arith
neutral_small op.Product = omega arith

list_holds : (s : Shape) (allowed : Slots) (o : Op) (at : ℕ) (js : List Judged) → IsScope s → All (Holds s allowed) js → Holds s allowed (list_of s o at js)
list_holds s allowed o at js c h = go (inside js) refl
  where
    all : Slots
    all = mentions_of_trees js

    good : All (λ j. IfOk j.outcome (IsGood s all)) js
    good k d l = good_wider s _ all _ (part_item (λ (j : Judged). j.mentions) none js k d l) (h k d l).0

    fits : Kept (IsGood s all) o at (joined_good s all o at c) (steps o at None js)
    fits = steps_keep (IsGood s all) o at (joined_good s all o at c) None js tt good

    neutral_or : (r : Result (Option Func) Refusal) → IfOk r (λ x. IfSome x (IsGood s all)) → IfOk (or_neutral s o r) (IsGood s all)
    neutral_or (Err e) k = tt
    neutral_or (Ok None) k = everywhere_good s all (neutral o) c (neutral_small o)
    neutral_or (Ok (Some f)) k = k

    among : inside js ≡ None → is_among all allowed ≡ true
    among e =
        let nothing = (first_none (λ (j : Judged). refusal j.outcome) None js e).1 in
        all_among (λ (j : Judged). j.mentions) none allowed js (none_among allowed) (λ k d l. ok_of _ _ (nothing k d l) (h k d l).1)

    if_ok : (P : Type 0) (r : Result Func Refusal) → P → IfOk r (λ f. P)
    if_ok P (Ok f) p = p
    if_ok P (Err e) p = tt

    go : (r : Option Refusal) → inside js ≡ r → IfOk (list_by s o at r js) (λ f. IsGood s all f) × IfOk (list_by s o at r js) (λ f. is_among all allowed ≡ true)
    go (Some r) e = (tt, tt)
    go None e = (neutral_or (steps o at None js) fits, if_ok (is_among all allowed ≡ true) (or_neutral s o (steps o at None js)) (among e))

-- ---- nodes

none_false : (b : Bool) (at : ℕ) (k : ModelKind) → refused_if b at k ≡ None → b ≡ false
none_false true at k h = cc
none_false false at k h = refl

both_true : (a b : Bool) → not (a && b) ≡ false → b ≡ true
both_true true true h = refl
both_true true false h = absurd (false≢true (sym h))
both_true false b h = absurd (false≢true (sym h))

known_holds : (s : Shape) (allowed : Slots) (n : Branching) (ls : List Listed) → IsScope s → n.slot < length s.sizes → n.count ≡ size_of s n.slot → All (λ l. Holds s allowed l.judged) ls → Holds s allowed (known_node s allowed n ls)
known_holds s allowed n ls c within count h = go (node_rows allowed n ls) refl
  where
    all : Slots
    all = mentioned_in_branches (one n.slot) ls

    good : All (λ l. IfOk l.judged.outcome (IsGood s all)) ls
    good k d l = good_wider s _ all _ (part_item (λ (l : Listed). l.judged.mentions) (one n.slot) ls k d l) (h k d l).0

    chosen_or : (r : Result (List Func) Refusal) → IfOk r (λ gs. All (IsGood s all) gs × (length gs ≡ length {A = Func} [] + length (range_with_len 0 n.count))) → IfOk (chosen_by s n.slot r) (IsGood s all)
    chosen_or (Err e) k = tt
    chosen_or (Ok gs) k =
        let wide = k.1 in
        let long = length-range_with_len 0 n.count in
        let mine = part_first (λ (l : Listed). l.judged.mentions) (one n.slot) ls n.slot (one_has n.slot) in
        let all_there : length gs ≡ n.count = omega arith in
        chosen_good s all n.slot gs c within mine (all_there ∙ count) k.0

    among : node_rows allowed n ls ≡ None → is_among all allowed ≡ true
    among e =
        let first = lesser_none (refused_if (not (n.is_sayable && has allowed n.slot)) n.at kind.BadScope) _ e in
        let mine = both_true n.is_sayable (has allowed n.slot) (none_false _ n.at kind.BadScope first.0) in
        let second = lesser_none (refused_if (not (lists_all n.count ls)) n.left kind.MissingValue) _ first.1 in
        let third = lesser_none (value_rows [] ls None) (inside_branches ls) second.1 in
        let nothing = (first_none (λ (l : Listed). refusal l.judged.outcome) None ls third.1).1 in
        all_among (λ (l : Listed). l.judged.mentions) (one n.slot) allowed ls (one_among n.slot allowed mine) (λ k d l. ok_of _ _ (nothing k d l) (h k d l).1)

    if_ok : (P : Type 0) (r : Result Func Refusal) → P → IfOk r (λ f. P)
    if_ok P (Ok f) p = p
    if_ok P (Err e) p = tt

    go : (r : Option Refusal) → node_rows allowed n ls ≡ r → IfOk (node_outcome s n ls r) (λ f. IsGood s all f) × IfOk (node_outcome s n ls r) (λ f. is_among all allowed ≡ true)
    go (Some r) e = (tt, tt)
    go None e = (
      chosen_or (parts_from n.left ls [] (range_with_len 0 n.count)) (parts_keep (IsGood s all) n.left ls [] (range_with_len 0 n.count) (λ k d l. absurd (omega arith)) good),
      if_ok (is_among all allowed ≡ true) (choice_between s n ls) (among e),
    )

-- each listed branch holds what its judged tree holds, and has a small number
pub listed_holds : (s : Shape) (allowed : Slots) (source : List ℕ) (values : List (List ℕ)) (bs : List Branched) → All (λ b. Holds s allowed b.judged) bs → All (λ l. Holds s allowed l.judged) (map (listed_branch source values) bs)
listed_holds s allowed source values [] h k d l = absurd (omega arith)
listed_holds s allowed source values (b ∷ bs) h zero d l = h 0 b (omega arith)
listed_holds s allowed source values (b ∷ bs) h (suc k) d l = listed_holds s allowed source values bs (λ i e m. h (suc i) e (omega arith)) k d (omega arith)

node_holds : (env : Env) (source : List ℕ) (allowed : Slots) (is_primed : Bool) (left word : Span) (bs : List Branched) → IsEnv env → All (λ b. Holds env.scope allowed b.judged) bs
    → Holds env.scope allowed (node env source allowed is_primed left word bs)
node_holds env source allowed is_primed left word bs e h = go (place_of env (text source (name_span is_primed word))) (place_within env (text source (name_span is_primed word)))
  where
    go : (o : Option Place) → IfSome o (IsPlace env) → Holds env.scope allowed (node_by env source allowed is_primed left word bs o)
    go None w = (tt, tt)
    go (Some p) w =
        let is = slot_is env is_primed p e w in
        known_holds env.scope allowed (branching_on env is_primed p left.start word.start) (map (listed_branch source (values_of env p)) bs) e.scope is.within is.size
        (listed_holds env.scope allowed source (values_of env p) bs h)

-- ---- trees

module _ (env : Env) (source : List ℕ) (allowed : Slots) (e : IsEnv env) where
  abbrev OfTree : Tree → Type 0
  OfTree t = Holds env.scope allowed (judgement env source allowed t)

  abbrev OfBranch : Branch → Type 0
  OfBranch b = Holds env.scope allowed (judgement_of_branch env source allowed b).judged

  trees_in : (es : List ((t : Tree) × OfTree t)) → All (Holds env.scope allowed) (map (judgement env source allowed) (map (λ e. e.0) es))
  trees_in [] k d l = absurd (omega arith)
  trees_in (x ∷ es) zero d l = x.1
  trees_in (x ∷ es) (suc k) d l = trees_in es k d (omega arith)

  branches_in : (es : List ((b : Branch) × OfBranch b)) → All (λ b. Holds env.scope allowed b.judged) (map (judgement_of_branch env source allowed) (map (λ e. e.0) es))
  branches_in [] k d l = absurd (omega arith)
  branches_in (x ∷ es) zero d l = x.1
  branches_in (x ∷ es) (suc k) d l = branches_in es k d (omega arith)

  layer : (y : Tree-F ((t : Tree) × OfTree t) ((b : Branch) × OfBranch b))
      → Holds env.scope allowed (tree_step env source allowed (map-Tree Tree Branch Judged Branched (judgement env source allowed) (judgement_of_branch env source allowed) (map-Tree _ _ Tree Branch (λ e. e.0) (λ e. e.0) y)))
  layer (Tree-F.Number left word right) = number_holds env.scope allowed source word e.scope
  layer (Tree-F.Reference left word right) = reference_holds env.scope env.dds allowed source word e.dds
  layer (Tree-F.Node left word es right) = node_holds env source allowed false left word (map (judgement_of_branch env source allowed) (map (λ e. e.0) es)) e (branches_in es)
  layer (Tree-F.PrimedNode left word es right) = node_holds env source allowed true left word (map (judgement_of_branch env source allowed) (map (λ e. e.0) es)) e (branches_in es)
  layer (Tree-F.Sum left plus es right) = list_holds env.scope allowed op.Sum left.start (map (judgement env source allowed) (map (λ e. e.0) es)) e.scope (trees_in es)
  layer (Tree-F.Product left star es right) = list_holds env.scope allowed op.Product left.start (map (judgement env source allowed) (map (λ e. e.0) es)) e.scope (trees_in es)

  pub tree_holds : (t : Tree) → OfTree t
  tree_holds = ind-Tree OfTree OfBranch
      (λ x y is. subst (λ z. OfTree (roll-Tree z)) is (subst (Holds env.scope allowed) (sym (fold-roll-Tree Judged Branched (tree_step env source allowed) branch_step (map-Tree _ _ Tree Branch (λ e. e.0) (λ e. e.0) y))) (layer y)))
      (λ x y is. subst (λ z. OfBranch (roll-Branch z)) is (subst (λ (b : Branched). Holds env.scope allowed b.judged) (sym (fold-roll-Branch Judged Branched (tree_step env source allowed) branch_step (map-Branch _ _ Tree Branch (λ e. e.0) (λ e. e.0) y))) y.tree.1))

  branch_holds : (b : Branch) → OfBranch b
  branch_holds = ind-Branch OfTree OfBranch
      (λ x y is. tree_holds (roll-Tree x))
      (λ x y is. subst (λ z. OfBranch (roll-Branch z)) is (subst (λ (b : Branched). Holds env.scope allowed b.judged) (sym (fold-roll-Branch Judged Branched (tree_step env source allowed) branch_step (map-Branch _ _ Tree Branch (λ e. e.0) (λ e. e.0) y))) y.tree.1))

  pub trees_good : (ts : List Tree) → All (IfGood env.scope) (map (judgement env source allowed) ts)
  trees_good [] k d l = absurd (omega arith)
  trees_good (t ∷ ts) zero d l = (tree_holds t).0
  trees_good (t ∷ ts) (suc k) d l = trees_good ts k d (omega arith)

  pub branches_good : (values : List (List ℕ)) (bs : List Branch) → All (λ l. IfGood env.scope l.judged) (map (λ b. listed_branch source values (judgement_of_branch env source allowed b)) bs)
  branches_good values [] k d l = absurd (omega arith)
  branches_good values (b ∷ bs) zero d l = (branch_holds b).0
  branches_good values (b ∷ bs) (suc k) d l = branches_good values bs k d (omega arith)

pub branches_small : (env : Env) (source : List ℕ) (allowed : Slots) (values : List (List ℕ)) (bs : List Branch) → length values ≤ 64 → All IsSmallValue (map (λ b. listed_branch source values (judgement_of_branch env source allowed b)) bs)
branches_small env source allowed values [] h k d l = absurd (omega arith)
branches_small env source allowed values (b ∷ bs) h zero d l = number_small values (text source (judgement_of_branch env source allowed b).word) h
branches_small env source allowed values (b ∷ bs) h (suc k) d l = branches_small env source allowed values bs h k d (omega arith)
