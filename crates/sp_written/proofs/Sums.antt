-- Sums as the canonical text spells them.
use Rattle.std.proofs.Common.{◌≡◌, ℕ, suc, ◌<◌, true, List, [], ◌∷◌, length, map, Some, None, refl, ap, ◌∙◌, arith}
use Rattle.std.specs.Prelude.{Ok, Err, fold, if◌then◌else◌}
use Rattle.sp_syntax.specs.declared.text.Tree.{Tree}
use Rattle.sp_syntax.specs.Grammar.{AreTrees}
use Rattle.sp_spelled.specs.Signs.{Spelled, Gap}
use Rattle.sp_spelled.specs.Shapes.{sum_group}
use Rattle.sp_spelled.specs.Written.{Written}
use Rattle.sp_spelled.proofs.Written.{deeper}
use Rattle.sp_spelled.proofs.Trees.{written_sum, written_no_trees, written_more_trees}
use Rattle.sp_dd.specs.Func.{Shape, Func}
use Rattle.sp_dd.specs.Operations.{plus}
use Rattle.sp_trees.specs.declared.refusal.ModelKind.TheVariants as kind
use Rattle.sp_trees.specs.declared.slots.Slots.{Slots}
use Rattle.sp_trees.specs.declared.env.Dd.{Dd}
use Rattle.sp_trees.specs.declared.env.Env.{Env}
use Rattle.sp_trees.specs.declared.judged.Judged.{Judged}
use Rattle.sp_trees.specs.declared.lists.Op.TheVariants as op
use Rattle.sp_trees.specs.Slots.{none, union}
use Rattle.sp_trees.specs.Conditions.{is_within}
use Rattle.sp_trees.specs.Judged.{inside}
use Rattle.sp_trees.specs.Judge.{judgement}
use Rattle.sp_trees.specs.Lists.{greatest_partial, partial_within_limit, at_bracket, then_more, steps, list_by, list_of, or_neutral}
use Rattle.sp_written.specs.Acceptance.{acceptance_of, mentions_of}
use Rattle.sp_written.specs.Meanings.{Means, WritesTree, AreWritten, list_signs}
use Rattle.sp_trees.proofs.TreeLemmas.{sum_is}

-- ---- a sum with functions that are 0
none_refused : (ds : List Dd) → inside (map acceptance_of ds) ≡ None
none_refused [] = refl
none_refused (d ∷ ds) = none_refused ds

mentions_same : (m : Slots) (ds : List Dd) → fold (λ all (j : Judged). union all j.mentions) m (map acceptance_of ds) ≡ mentions_of m ds
mentions_same m [] = refl
mentions_same m (d ∷ ds) = mentions_same (union m d.mentions) ds

abbrev pub AddNothing : Func → List Dd → Type 0
AddNothing f [] = Unit {0}
AddNothing f (z ∷ zs) = (plus f z.func ≡ f) × AddNothing f zs

steps_nothing : (at : ℕ) (f : Func) (zs : List Dd) → is_within greatest_partial f ≡ true → AddNothing f zs → steps op.Sum at (Some f) (map acceptance_of zs) ≡ Ok (Some f)
unfolding steps
steps_nothing at f [] small h = refl
steps_nothing at f (z ∷ zs) small h =
    let sum : partial_within_limit (plus f z.func) ≡ Ok f = ap partial_within_limit h.0 ∙ ap (λ b. if b then Ok f else Err kind.TooLarge) small in
    ap (λ r. then_more (at_bracket at r) (λ g. steps op.Sum at (Some g) (map acceptance_of zs))) sum ∙ steps_nothing at f zs small h.1

pub sum_ok : (s : Shape) (at : ℕ) (d : Dd) (zs : List Dd) → is_within greatest_partial d.func ≡ true → AddNothing d.func zs → list_of s op.Sum at (map acceptance_of (d ∷ zs)) ≡ acceptance_of (record { mentions = mentions_of none (d ∷ zs); func = d.func })
unfolding steps
sum_ok s at d zs small h =
    let made : list_by s op.Sum at (inside (map acceptance_of (d ∷ zs))) (map acceptance_of (d ∷ zs)) ≡ Ok d.func =
    ap (λ r. list_by s op.Sum at r (map acceptance_of (d ∷ zs))) (none_refused (d ∷ zs)) ∙ ap (or_neutral s op.Sum) (steps_nothing at d.func zs small h) in
    (λ i. record { mentions = mentions_same none (d ∷ zs) i; outcome = made i })

-- ---- any sum
-- the sum of functions, from the first on
abbrev pub total : Func → List Dd → Func
total f [] = f
total f (d ∷ ds) = total (plus f d.func) ds

-- no partial sum is too large
abbrev pub AreSmallSums : Func → List Dd → Type 0
AreSmallSums f [] = Unit {0}
AreSmallSums f (d ∷ ds) = (is_within greatest_partial (plus f d.func) ≡ true) × AreSmallSums (plus f d.func) ds

steps_total : (at : ℕ) (f : Func) (ds : List Dd) → AreSmallSums f ds → steps op.Sum at (Some f) (map acceptance_of ds) ≡ Ok (Some (total f ds))
unfolding steps
steps_total at f [] h = refl
steps_total at f (d ∷ ds) h =
    ap (λ b. then_more (at_bracket at (if b then Ok (plus f d.func) else Err kind.TooLarge)) (λ g. steps op.Sum at (Some g) (map acceptance_of ds))) h.0 ∙ steps_total at (plus f d.func) ds h.1

pub total_ok : (s : Shape) (at : ℕ) (d : Dd) (ds : List Dd) → AreSmallSums d.func ds → list_of s op.Sum at (map acceptance_of (d ∷ ds)) ≡ acceptance_of (record { mentions = mentions_of none (d ∷ ds); func = total d.func ds })
unfolding steps
total_ok s at d ds h =
    let made : list_by s op.Sum at (inside (map acceptance_of (d ∷ ds))) (map acceptance_of (d ∷ ds)) ≡ Ok (total d.func ds) =
    ap (λ r. list_by s op.Sum at r (map acceptance_of (d ∷ ds))) (none_refused (d ∷ ds)) ∙ ap (or_neutral s op.Sum) (steps_total at d.func ds h) in
    (λ i. record { mentions = mentions_same none (d ∷ ds) i; outcome = made i })

-- ---- as they are spelled
module _ (env : Env) (allowed : Slots) where
  pub writes_list : (depth : ℕ) (us : List (List Spelled)) (ds : List Dd) → AreWritten env allowed depth us ds → Written AreTrees (λ source list. map (judgement env source allowed) list ≡ map acceptance_of ds) depth (list_signs us)
  writes_list depth [] [] h = deeper AreTrees _ [] 0 depth (omega arith) (written_no_trees _ (λ source. refl))
  writes_list depth [] (d ∷ ds) h = absurd h
  writes_list depth (u ∷ us) [] h = absurd h
  writes_list depth (u ∷ us) (d ∷ ds) h = written_more_trees u (list_signs us) depth (Means env allowed d) _ _ h.0 (writes_list depth us ds h.1) (λ source t list p q. λ i. p i ∷ q i)

  pub some_trees : (source : List ℕ) (d : Dd) (ds : List Dd) (list : List Tree) → map (judgement env source allowed) list ≡ map acceptance_of (d ∷ ds) → 0 < length list
  some_trees source d ds [] h = cc
  some_trees source d ds (t ∷ list) h = omega arith

  -- a function, and functions that are 0
  pub writes_sum : (depth : ℕ) (us : List (List Spelled)) (d : Dd) (zs : List Dd) (g : Gap) → AreWritten env allowed depth us (d ∷ zs) → is_within greatest_partial d.func ≡ true → AddNothing d.func zs
      → WritesTree env allowed (record { mentions = mentions_of none (d ∷ zs); func = d.func }) (suc depth) (sum_group (list_signs us) g)
  writes_sum depth us d zs g h small nothing = written_sum (list_signs us) g depth _ _ (writes_list depth us (d ∷ zs) h) (λ source list e. some_trees source d zs list e)
      (λ source left at list right e. sum_is env source allowed left at list right ∙ ap (list_of env.scope op.Sum left.start) e ∙ sum_ok env.scope left.start d zs small nothing)

  -- a sum of functions that are small enough
  pub writes_total : (depth : ℕ) (us : List (List Spelled)) (d : Dd) (ds : List Dd) (g : Gap) → AreWritten env allowed depth us (d ∷ ds) → AreSmallSums d.func ds
      → WritesTree env allowed (record { mentions = mentions_of none (d ∷ ds); func = total d.func ds }) (suc depth) (sum_group (list_signs us) g)
  writes_total depth us d ds g h small = written_sum (list_signs us) g depth _ _ (writes_list depth us (d ∷ ds) h) (λ source list e. some_trees source d ds list e)
      (λ source left at list right e. sum_is env source allowed left at list right ∙ ap (list_of env.scope op.Sum left.start) e ∙ total_ok env.scope left.start d ds small)
