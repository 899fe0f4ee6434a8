-- Nodes whose branches list each value once, in order.
use Rattle.std.proofs.Common.{◌≡◌, ℕ, zero, suc, ◌+◌, ◌<◌, ◌≤◌, ◌==◌, ◌||◌, ◌&&◌, not, Bool, true, false, List, [], ◌∷◌, ◌++◌, length, map, drop, get_or, Some, None, refl, sym, ap, ◌∙◌, arith, append_assoc, append-nil, add-one, drop-cons, drop_of_length-le}
use Rattle.std.specs.Prelude.{Ok, fold, if◌then◌else◌}
use Rattle.std.specs.List.{list_all, list_any, range_with_len}
use Rattle.std.proofs.lemmas.Bool.Decides.{nat_tests, Decides-eqb}
use Rattle.sp_dd.specs.Func.{Shape, Func}
use Rattle.sp_model.specs.Problem.{no_func}
use Rattle.sp_dd.specs.Operations.{part_chosen}
use Rattle.sp_trees.specs.declared.refusal.ModelKind.TheVariants as kind
use Rattle.sp_trees.specs.declared.slots.Slots.{Slots}
use Rattle.sp_trees.specs.declared.env.Dd.{Dd}
use Rattle.sp_trees.specs.declared.judged.Judged.{Judged}
use Rattle.sp_trees.specs.declared.judged.Listed.{Listed}
use Rattle.sp_trees.specs.declared.nodes.Branching.{Branching}
use Rattle.sp_trees.specs.Refusals.{lesser, refused_if}
use Rattle.sp_trees.specs.Slots.{none, one, union, has}
use Rattle.sp_trees.specs.Judged.{refusal, inside_branches, mentioned_in_branches}
use Rattle.sp_trees.specs.Nodes.{values_of, branching_on, is_value, lists, value_row_by, value_row, value_rows, lists_all, node_rows, part, part_by, branch_at, then_part, parts_from, chosen_by, node_by, known_node}
use Rattle.sp_trees.specs.Judge as judge
use Rattle.sp_trees.specs.Judge.{Branched, listed_branch}
use Rattle.sp_written.specs.Acceptance.{acceptance_of, AreBranched, mentions_of, funcs_of, branched_dd, NodesAreAccepted}

-- branches of the values from k on, whose trees mean these
abbrev pub AreListed : ℕ → List Listed → List Dd → Type 0
AreListed k [] [] = Unit {0}
AreListed k [] (d ∷ ds) = ⊥
AreListed k (l ∷ ls) [] = ⊥
AreListed k (l ∷ ls) (d ∷ ds) = (l.value ≡ Some k) × (l.judged ≡ acceptance_of d) × AreListed (k + 1) ls ds

mentions_are : (k : ℕ) (more : Slots) (ls : List Listed) (ds : List Dd) → AreListed k ls ds → mentioned_in_branches more ls ≡ mentions_of more ds
mentions_are k more [] [] h = refl
mentions_are k more [] (d ∷ ds) h = absurd h
mentions_are k more (l ∷ ls) [] h = absurd h
mentions_are k more (l ∷ ls) (d ∷ ds) h =
    ap (λ (j : Judged). mentioned_in_branches (union more j.mentions) ls) h.1 ∙ mentions_are (k + 1) (union more d.mentions) ls ds h.2

none_inside : (k : ℕ) (ls : List Listed) (ds : List Dd) → AreListed k ls ds → inside_branches ls ≡ None
none_inside k [] [] h = refl
none_inside k [] (d ∷ ds) h = absurd h
none_inside k (l ∷ ls) [] h = absurd h
none_inside k (l ∷ ls) (d ∷ ds) h =
    ap (λ (j : Judged). fold (λ first l. lesser first (refusal l.judged.outcome)) (lesser None (refusal j.outcome)) ls) h.1 ∙ none_inside (k + 1) ls ds h.2

apart : (k v : ℕ) → k < v → (k == v) ≡ false
apart k v h = grind (arith, nat_tests)

any_more : (p : Listed → Bool) (ls : List Listed) (l : Listed) → list_any p (ls ++ l ∷ []) ≡ (list_any p ls || p l)
any_more p [] l = or_false (p l)
  where
    or_false : (b : Bool) → (b || false) ≡ b
    or_false true = refl
    or_false false = refl
any_more p (m ∷ ls) l = ap (λ b. p m || b) (any_more p ls l) ∙ sym (or_assoc (p m) (list_any p ls) (p l))
  where
    or_assoc : (a b c : Bool) → ((a || b) || c) ≡ (a || (b || c))
    or_assoc true b c = refl
    or_assoc false b c = refl

-- no value from k on is listed
abbrev NoneFrom : ℕ → List Listed → Type 0
NoneFrom k ls = (v : ℕ) → k ≤ v → lists ls v ≡ false

rows_none : (k : ℕ) (before ls : List Listed) (ds : List Dd) → NoneFrom k before → AreListed k ls ds → value_rows before ls None ≡ None
unfolding value_rows
rows_none k before [] [] n h = refl
rows_none k before [] (d ∷ ds) n h = absurd h
rows_none k before (l ∷ ls) [] n h = absurd h
rows_none k before (l ∷ ls) (d ∷ ds) n h =
    let row : value_row before l ≡ None = ap (value_row_by (lists before) l.at) h.0 ∙ ap (λ b. refused_if b l.at kind.RepeatedName) (n k (omega arith)) in
    ap (λ r. value_rows (before ++ l ∷ []) ls (lesser None r)) row
    ∙ rows_none (k + 1) (before ++ l ∷ []) ls ds (λ v less. any_more (λ m. is_value v m.value) before l ∙ ap (λ b. b || is_value v l.value) (n v (omega arith)) ∙ ap (is_value v) h.0 ∙ apart k v (omega arith)) h.2

-- the branch of a value
part_is : (left k v : ℕ) (ls : List Listed) (ds : List Dd) (d : Dd) → AreListed k ls ds → v < length ds → part left ls (k + v) ≡ Ok (get_or ds v d).func
part_is left k v [] [] e h l = absurd (omega arith)
part_is left k v [] (d ∷ ds) e h l = absurd h
part_is left k v (l ∷ ls) [] e h m = absurd h
part_is left k zero (l ∷ ls) (d ∷ ds) e h m =
    let here : is_value (k + 0) l.value ≡ true = ap (is_value (k + 0)) h.0 ∙ (let same : k ≡ k + 0 = omega arith in (Decides-eqb k (k + 0)).1 same) in
    ap (λ b. part_by left (if b then Some l else branch_at ls (k + 0))) here ∙ ap (λ (j : Judged). j.outcome) h.1
part_is left k (suc v) (l ∷ ls) (d ∷ ds) e h m =
    let there : is_value (k + suc v) l.value ≡ false = ap (is_value (k + suc v)) h.0 ∙ apart k (k + suc v) (omega arith) in
    let next : k + suc v ≡ k + 1 + v = omega arith in
    ap (λ b. part_by left (if b then Some l else branch_at ls (k + suc v))) there ∙ ap (part left ls) next ∙ part_is left (k + 1) v ls ds e h.2 (omega arith)

any_value : (k v : ℕ) (ls : List Listed) (ds : List Dd) → AreListed k ls ds → v < length ds → lists ls (k + v) ≡ true
any_value k v [] [] h l = absurd (omega arith)
any_value k v [] (d ∷ ds) h l = absurd h
any_value k v (l ∷ ls) [] h m = absurd h
any_value k zero (l ∷ ls) (d ∷ ds) h m =
    let here : is_value (k + 0) l.value ≡ true = ap (is_value (k + 0)) h.0 ∙ (let same : k ≡ k + 0 = omega arith in (Decides-eqb k (k + 0)).1 same) in
    ap (λ b. b || lists ls (k + 0)) here
any_value k (suc v) (l ∷ ls) (d ∷ ds) h m =
    let next : k + 1 + v ≡ k + suc v = omega arith in
    let more : lists ls (k + suc v) ≡ true = ap (lists ls) (sym next) ∙ any_value (k + 1) v ls ds h.2 (omega arith) in
    ap (λ b. is_value (k + suc v) l.value || b) more ∙ or_true (is_value (k + suc v) l.value)
  where
    or_true : (b : Bool) → (b || true) ≡ true
    or_true true = refl
    or_true false = refl

all_listed : (a n : ℕ) (p : ℕ → Bool) → ((v : ℕ) → a ≤ v → v < a + n → p v ≡ true) → list_all p (range_with_len a n) ≡ true
all_listed a zero p h = refl
all_listed a (suc n) p h = ap (λ b. b && list_all p (range_with_len (a + 1) n)) (h a (omega arith) (omega arith)) ∙ all_listed (a + 1) n p (λ v l m. h v (omega arith) (omega arith))

no_dd : Dd
no_dd = record { mentions = none; func = no_func }

parts_are : (left : ℕ) (ls : List Listed) (ds : List Dd) (fs : List Func) (a n : ℕ) → AreListed 0 ls ds → a + n ≡ length ds → parts_from left ls fs (range_with_len a n) ≡ Ok (fs ++ funcs_of (drop a ds))
unfolding parts_from
parts_are left ls ds fs a zero h l =
    let past : drop a ds ≡ [] = drop_of_length-le ds (omega arith) in
    ap Ok (sym (append-nil fs) ∙ ap (λ es. fs ++ funcs_of es) (sym past))
parts_are left ls ds fs a (suc n) h l =
    let here : a < length ds = omega arith in
    let d : Dd = get_or ds a no_dd in
    let same : 0 + a ≡ a = omega arith in
    let ok : part left ls a ≡ Ok (get_or ds a no_dd).func = ap (part left ls) (sym same) ∙ part_is left 0 a ls ds no_dd h here in
    let rest : drop a ds ≡ get_or ds a no_dd ∷ drop (a + 1) ds = rw (add-one, drop-cons ds a no_dd) refl in
    ap (then_part (λ gs. parts_from left ls gs (range_with_len (a + 1) n)) fs) ok
    ∙ parts_are left ls ds (fs ++ (get_or ds a no_dd).func ∷ []) (a + 1) n h (omega arith)
    ∙ ap Ok (append_assoc fs ((get_or ds a no_dd).func ∷ []) (funcs_of (drop (a + 1) ds)) ∙ ap (λ es. fs ++ funcs_of es) (sym rest))

-- a node is accepted
pub known_ok : (s : Shape) (allowed : Slots) (n : Branching) (ls : List Listed) (ds : List Dd) → AreListed 0 ls ds → n.count ≡ length ds → n.is_sayable ≡ true → has allowed n.slot ≡ true
    → known_node s allowed n ls ≡ acceptance_of (record { mentions = mentions_of (one n.slot) ds; func = part_chosen s n.slot (funcs_of ds) })
known_ok s allowed n ls ds h count sayable mention =
    let scope : refused_if (not (n.is_sayable && has allowed n.slot)) n.at kind.BadScope ≡ None = (λ i. refused_if (not (sayable i && mention i)) n.at kind.BadScope) in
    let all : lists_all n.count ls ≡ true = all_listed 0 n.count (lists ls) (λ v l m. (let e : 0 + v ≡ v = omega arith in ap (lists ls) (sym e)) ∙ any_value 0 v ls ds h (omega arith)) in
    let missing : refused_if (not (lists_all n.count ls)) n.left kind.MissingValue ≡ None = ap (λ b. refused_if (not b) n.left kind.MissingValue) all in
    let rows : value_rows [] ls None ≡ None = rows_none 0 [] ls ds (λ v l. refl) h in
    let inner : inside_branches ls ≡ None = none_inside 0 ls ds h in
    let none_refused : node_rows allowed n ls ≡ None = (λ i. lesser (scope i) (lesser (missing i) (lesser (rows i) (inner i)))) in
    let parts : parts_from n.left ls [] (range_with_len 0 n.count) ≡ Ok (funcs_of ds) = parts_are n.left ls ds [] 0 n.count h (omega arith) in
    let made : node_by s n ls (node_rows allowed n ls) ≡ Ok (part_chosen s n.slot (funcs_of ds)) = ap (node_by s n ls) none_refused ∙ ap (chosen_by s n.slot) parts in
    (λ i. record { mentions = mentions_are 0 (one n.slot) ls ds h i; outcome = made i })

listed_of : (source : List ℕ) (names : List (List ℕ)) (k : ℕ) (bs : List Branched) (ds : List Dd) → AreBranched source names k bs ds → AreListed k (map (listed_branch source names) bs) ds
listed_of source names k [] [] h = tt
listed_of source names k [] (d ∷ ds) h = absurd h
listed_of source names k (b ∷ bs) [] h = absurd h
listed_of source names k (b ∷ bs) (d ∷ ds) h = (h.0, h.1, listed_of source names (k + 1) bs ds h.2)

pub accepted_nodes : NodesAreAccepted
accepted_nodes env source allowed is_primed left word bs p slot ds said h count =
    ap (judge.node_by env source allowed is_primed left word bs) said.place
    ∙ known_ok env.scope allowed (branching_on env is_primed p left.start word.start) (map (listed_branch source (values_of env p)) bs) ds (listed_of source (values_of env p) 0 bs ds h) count said.sayable
    (ap (has allowed) said.slot_is ∙ said.mention)
    ∙ ap (λ k. acceptance_of (branched_dd env k ds)) said.slot_is
