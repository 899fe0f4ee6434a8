-- Lines of the canonical text.
use Rattle.std.proofs.Common.{◌≡◌, ◌≢◌, ℕ, zero, suc, ◌+◌, ◌^◌, ◌<◌, ◌≤◌, Bool, true, false, cond, List, [], ◌∷◌, ◌++◌, length, map, get_or, Option, Some, None, refl, sym, ap, ◌∙◌, subst, append_assoc, append-nil, length-append, arith}
use Rattle.std.proofs.lemmas.List.{length-map}
use Rattle.std.specs.Prelude.{ℤ, pos, Result, Ok, Err, is_some, codes, All, find, option_map}
use Rattle.std.specs.Str.{bytes_eq}
use Rattle.std.proofs.lemmas.Slice.Eq.{bytes_eq-Decides}
use Rattle.sp_lex.specs.declared.lexeme.Span.{Span}
use Rattle.sp_syntax.specs.declared.text.Tree.{Tree}
use Rattle.sp_syntax.specs.Grammar.{IsSection, AreAll}
use Rattle.sp_spelled.specs.Signs.{Spelled, Gap, tight, space}
use Rattle.sp_spelled.specs.Written.{Written}
use Rattle.sp_spelled.proofs.Written.{written_nothing, written_alone, written_lists, deeper}
use Rattle.sp_spelled.specs.Shapes.{leaf, group, primed_group}
use Rattle.sp_spelled.specs.Shapes.{spaced_word, last_word}
use Rattle.sp_spelled.specs.Words.{SpellsTicks}
use Rattle.sp_spelled.specs.Written.{IsNameWord}
use Rattle.sp_spelled.proofs.Sections.{written_dd}
use Rattle.sp_dd.specs.declared.part.Part.{Part}
use Rattle.sp_dd.specs.declared.part.Part.TheVariants.{Leaf, At}
use Rattle.sp_dd.specs.NodeLists.{Node}
use Rattle.sp_trees.specs.declared.refusal.Refusal.{Refusal}
use Rattle.sp_trees.specs.declared.refusal.ModelKind.TheVariants as kind
use Rattle.sp_trees.specs.declared.slots.Slots.{Slots}
use Rattle.sp_trees.specs.declared.env.Dd.{Dd}
use Rattle.sp_trees.specs.declared.env.Env.{Env}
use Rattle.sp_trees.specs.declared.judged.Judged.{Judged}
use Rattle.sp_trees.specs.declared.nodes.Place.{Place}
use Rattle.sp_trees.specs.Refusals.{refused_if}
use Rattle.sp_trees.specs.Slots.{has, is_among}
use Rattle.sp_trees.specs.Words.{text}
use Rattle.sp_trees.specs.Dds.{dd_of_name}
use Rattle.sp_trees.specs.Nodes.{place_of, values_of, slot_of, is_sayable}
use Rattle.sp_written.specs.Acceptance.{branched_dd}
use Rattle.sp_written.specs.Meanings.{Means, WritesTree, constant_dd, AreWritten, AreNamesFrom, part_dd, node_dd, dds_of, branch_signs}
use Rattle.sp_written.proofs.Trees.{writes_number, writes_reference, writes_node, writes_primed, nodes_among, root_means}
use Rattle.sp_dd.specs.Func.{Func, IsFunc, IsScope}
use Rattle.sp_dd.specs.Diagrams.{node_list, root_part}
use Rattle.std.proofs.lemmas.List.{get_or_append_left}
use Rattle.sp_declarations.specs.Steps.{◌>>=◌, unless_refused, in_turn}
use Rattle.sp_checks.specs.declared.roles.Role.TheVariants as role
use Rattle.sp_checks.specs.declared.state.State.{State}
use Rattle.sp_checks.specs.Roles.{allowed_slots}
use Rattle.sp_checks.specs.Accepted.{accepted, accepted_by}
use Rattle.sp_checks.specs.Sections.{section, dd}

-- ---- parts in turn
pub in_turn_both : {S X : Type 0} (step : S → X → Result S Refusal) (s t : S) (r : Result S Refusal) (xs ys : List X) → in_turn step s xs ≡ Ok t → in_turn step t ys ≡ r → in_turn step s (xs ++ ys) ≡ r
unfolding in_turn
in_turn_both step s t r [] ys h k = let e : s ≡ t = cc in ap (λ u. in_turn step u ys) e ∙ k
in_turn_both {S = S} step s t r (x ∷ xs) ys h k = go (step s x) h (λ u m. in_turn_both step u t r xs ys m k)
  where
    go : (o : Result S Refusal) → (o >>= λ u. in_turn step u xs) ≡ Ok t → ((u : S) → in_turn step u xs ≡ Ok t → in_turn step u (xs ++ ys) ≡ r) → (o >>= λ u. in_turn step u (xs ++ ys)) ≡ r
    go (Ok u) m more = more u m
    go (Err e) m more = cc

-- one more part
pub in_turn_alone : {S X : Type 0} (step : S → X → Result S Refusal) (s t : S) (x : X) → step s x ≡ Ok t → in_turn step s (x ∷ []) ≡ Ok t
unfolding in_turn
in_turn_alone step s t x h = ap (λ (o : Result _ Refusal). o >>= λ u. Ok u) h

-- reading the signs as sections leads from one state to the other
abbrev pub Leads : State → State → ℕ → List Spelled → Type 0
Leads s t depth us = Written (AreAll IsSection) (λ source xs. in_turn (section source) s xs ≡ Ok t) depth us

pub leads_nowhere : (s : State) (depth : ℕ) → Leads s s depth []
unfolding in_turn
leads_nowhere s depth = deeper (AreAll IsSection) _ [] 0 depth (omega arith) (written_nothing IsSection _ (λ source. refl))

pub leads_both : (s t u : State) (depth : ℕ) (us vs : List Spelled) → Leads s t depth us → Leads t u depth vs → Leads s u depth (us ++ vs)
leads_both s t u depth us vs first second = written_lists IsSection _ _ _ us vs depth first second (λ source xs ys h k. in_turn_both (section source) s t (Ok u) xs ys h k)

pub leads_one : (s t : State) (depth : ℕ) (us : List Spelled) → Written IsSection (λ source x. section source s x ≡ Ok t) depth us → Leads s t depth us
leads_one s t depth us part = written_alone IsSection _ _ us depth part (λ source x h. in_turn_alone (section source) s t x h)

-- ---- one dd
abbrev pub with_dds : State → List (List ℕ × Dd) → State
with_dds s dds = record s { env = record s.env { dds = dds } }

module _ (s : State) (dds : List (List ℕ × Dd)) (w : List ℕ) (d : Dd) (us : List Spelled) (depth : ℕ) where
  abbrev env_of : Env
  env_of = record s.env { dds = dds }

  dd_read : (source : List ℕ) (k n : Span) (t : Tree) → text source n ≡ w → dd_of_name w dds ≡ None → Means env_of (allowed_slots s.env.scope role.Dd) d source t → dd source (with_dds s dds) n t ≡ Ok (with_dds s (dds ++ (w, d) ∷ []))
  unfolding dd accepted
  dd_read source k n t said new means =
      ap (λ (o : Option Dd). unless_refused (refused_if (is_some o) n.start kind.RepeatedName) >>= λ _. (accepted env_of source role.Dd t >>= λ a. Ok (with_dds s (dds ++ (text source n, record { mentions = a.mentions; func = a.func }) ∷ [])))) (ap (λ v. dd_of_name v dds) said ∙ new)
      ∙ ap (λ (j : Judged). accepted_by j.mentions j.outcome >>= λ a. Ok (with_dds s (dds ++ (text source n, record { mentions = a.mentions; func = a.func }) ∷ []))) means
      ∙ ap (λ v. Ok (with_dds s (dds ++ (v, d) ∷ []))) said

  pub leads_dd : IsNameWord w → dd_of_name w dds ≡ None → WritesTree env_of (allowed_slots s.env.scope role.Dd) d depth us
      → Leads (with_dds s dds) (with_dds s (dds ++ (w, d) ∷ [])) depth (spaced_word (codes "dd") ∷ spaced_word w ∷ (us ++ last_word (codes "enddd") ∷ []))
  leads_dd named new part = leads_one (with_dds s dds) (with_dds s (dds ++ (w, d) ∷ [])) depth (spaced_word (codes "dd") ∷ spaced_word w ∷ (us ++ last_word (codes "enddd") ∷ []))
      (written_dd us depth (Means env_of (allowed_slots s.env.scope role.Dd) d) part w named _ (λ source k n t e said means. dd_read source k n t said new means))

-- ---- the dds of a function's nodes
-- how a text names a slot
pub record Said : Type 0 where
  pub is_primed : Bool
  pub place : Place
  pub name : List ℕ

pub record IsSaidSo (env : Env) (slot : ℕ) (said : Said) : Type 0 where
  pub named : IsNameWord said.name
  pub place : place_of env said.name ≡ Some said.place
  pub slot_is : slot_of env said.is_primed said.place ≡ slot
  pub sayable : is_sayable said.is_primed said.place ≡ true
  pub numbered : AreNamesFrom (values_of env said.place) 0 (values_of env said.place)
  pub mention : has (allowed_slots env.scope role.Dd) slot ≡ true

get_or_behind : (xs ys : List Dd) (k : ℕ) (d : Dd) → get_or (xs ++ ys) (length xs + k) d ≡ get_or ys k d
get_or_behind [] ys k d = let e : 0 + k ≡ k = omega arith in ap (λ j. get_or ys j d) e
get_or_behind (x ∷ xs) ys k d = let e : suc (length xs) + k ≡ suc (length xs + k) = omega arith in ap (λ j. get_or (x ∷ (xs ++ ys)) j d) e ∙ get_or_behind xs ys k d

-- names by number
pub record AreNames (name_of : ℕ → List ℕ) : Type 0 where
  pub named : (k : ℕ) → k < 2 ^ 64 → IsNameWord (name_of k)
  pub differ : (j k : ℕ) → j < 2 ^ 64 → k < 2 ^ 64 → name_of j ≡ name_of k → j ≡ k

module _ (name_of : ℕ → List ℕ) (names : AreNames name_of) where
  abbrev pub numbered : ℕ → List Dd → List (List ℕ × Dd)
  numbered k [] = []
  numbered k (d ∷ ds) = (name_of k, d) ∷ numbered (suc k) ds

  numbered_more : (k : ℕ) (ds : List Dd) (d : Dd) → numbered k (ds ++ d ∷ []) ≡ numbered k ds ++ (name_of (k + length ds), d) ∷ []
  numbered_more k [] d = let e : k ≡ k + 0 = omega arith in ap (λ j. (name_of j, d) ∷ []) e
  numbered_more k (c ∷ ds) d =
      let e : suc k + length ds ≡ k + suc (length ds) = omega arith in
      ap (λ es. (name_of k, c) ∷ es) (numbered_more (suc k) ds d ∙ ap (λ j. numbered (suc k) ds ++ (name_of j, d) ∷ []) e)

  other_name : (j k : ℕ) → j < 2 ^ 64 → k < 2 ^ 64 → j ≢ k → bytes_eq (name_of j) (name_of k) ≡ false
  other_name j k lj lk h = go (bytes_eq (name_of j) (name_of k)) refl
    where
      go : (b : Bool) → bytes_eq (name_of j) (name_of k) ≡ b → bytes_eq (name_of j) (name_of k) ≡ false
      go true e = absurd (h (names.differ j k lj lk ((bytes_eq-Decides (name_of j) (name_of k)).0 e)))
      go false e = e

  found_numbered : (k i j : ℕ) (ds : List Dd) (d : Dd) → k + length ds ≤ 2 ^ 64 → i < length ds → j ≡ k + i → dd_of_name (name_of j) (numbered k ds) ≡ Some (get_or ds i d)
  found_numbered k i j [] d l h e = absurd (omega arith)
  found_numbered k zero j (c ∷ ds) d l h e =
      let same : j ≡ k = omega arith in
      ap (λ b. option_map (λ x. x.1) (cond b (Some (name_of k, c)) (find (λ x. bytes_eq (name_of j) x.0) (numbered (suc k) ds)))) ((bytes_eq-Decides (name_of j) (name_of k)).1 (ap name_of same))
  found_numbered k (suc i) j (c ∷ ds) d l h e =
      ap (λ b. option_map (λ x. x.1) (cond b (Some (name_of k, c)) (find (λ x. bytes_eq (name_of j) x.0) (numbered (suc k) ds)))) (other_name j k (omega arith) (omega arith) (λ same. omega arith))
      ∙ found_numbered (suc k) i j ds d (omega arith) (omega arith) (omega arith)

  found_none : (k j : ℕ) (ds : List Dd) → k + length ds ≤ j → j < 2 ^ 64 → dd_of_name (name_of j) (numbered k ds) ≡ None
  found_none k j [] l h = refl
  found_none k j (c ∷ ds) l h =
      ap (λ b. option_map (λ x. x.1) (cond b (Some (name_of k, c)) (find (λ x. bytes_eq (name_of j) x.0) (numbered (suc k) ds)))) (other_name j k h (omega arith) (λ same. omega arith))
      ∙ found_none (suc k) j ds (omega arith) h

  module _ (word_of : ℤ → List ℕ) (said_of : ℕ → Said) (s : State) (scope : IsScope s.env.scope) where
    -- a part of a node: a number, or the name of a node before it
    abbrev pub part_signs : ℕ → Gap → Part → List Spelled
    part_signs base g (Leaf z) = leaf (word_of z) g
    part_signs base g (At i) = leaf (name_of (base + i)) g

    abbrev pub IsPartSo : ℕ → Part → Type 0
    IsPartSo m (Leaf z) = SpellsTicks (word_of z) z
    IsPartSo m (At i) = i < m

    abbrev pub ArePartsSo : ℕ → List Part → Type 0
    ArePartsSo m [] = Unit {0}
    ArePartsSo m (a ∷ parts) = IsPartSo m a × ArePartsSo m parts

    abbrev every : Slots
    every = allowed_slots s.env.scope role.Dd

    abbrev state_with : List Dd → State
    state_with all = with_dds s (numbered 0 all)

    abbrev env_with : List Dd → Env
    env_with all = record s.env { dds = numbered 0 all }

    -- a part in the text, in any role that allows what it mentions
    pub writes_part : (c : Slots) (before made : List Dd) (a : Part) (g : Gap) → length before + length made ≤ 2 ^ 64 → All (λ (d : Dd). is_among d.mentions c ≡ true) made → IsPartSo (length made) a
        → WritesTree (env_with (before ++ made)) c (part_dd s.env made a) 1 (part_signs (length before) g a)
    writes_part c before made (Leaf z) g l h p = writes_number (env_with (before ++ made)) c (word_of z) z g p
    writes_part c before made (At i) g l h p =
        let d : Dd = constant_dd s.env (pos 0) in
        let long = length-append before made in
        let name = names.named (length before + i) (omega arith) in
        writes_reference (env_with (before ++ made)) c (name_of (length before + i)) (get_or made i (constant_dd s.env (pos 0))) g (record { text = name.text; name = name.name })
        (found_numbered 0 (length before + i) (length before + i) (before ++ made) (constant_dd s.env (pos 0)) (omega arith) (omega arith) (omega arith)
        ∙ ap Some (get_or_behind before made i (constant_dd s.env (pos 0))))
        (h i (constant_dd s.env (pos 0)) p)

    writes_parts : (before made : List Dd) (parts : List Part) → length before + length made ≤ 2 ^ 64 → All (λ (d : Dd). is_among d.mentions every ≡ true) made → ArePartsSo (length made) parts
        → AreWritten (env_with (before ++ made)) every 1 (map (part_signs (length before) tight) parts) (map (part_dd s.env made) parts)
    writes_parts before made [] l h p = tt
    writes_parts before made (a ∷ parts) l h p = (writes_part every before made a tight l h p.0, writes_parts before made parts l h p.1)

    abbrev pub node_signs : Said → List Spelled → Gap → List Spelled
    node_signs said us g = cond said.is_primed (primed_group said.name us g) (group said.name us g)

    abbrev pub tree_signs : ℕ → Node → List Spelled
    tree_signs base n = node_signs (said_of n.slot) (branch_signs (values_of s.env (said_of n.slot).place) (map (part_signs base tight) n.parts)) space

    -- the lines of the nodes
    abbrev pub line_of : ℕ → ℕ → Node → List Spelled
    line_of base m n = spaced_word (codes "dd") ∷ spaced_word (name_of (base + m)) ∷ (tree_signs base n ++ last_word (codes "enddd") ∷ [])

    abbrev pub lines_of : ℕ → ℕ → List Node → List Spelled
    lines_of base m [] = []
    lines_of base m (n ∷ ns) = line_of base m n ++ lines_of base (suc m) ns

    pub record IsNodeSo (m : ℕ) (n : Node) : Type 0 where
      pub said : IsSaidSo s.env n.slot (said_of n.slot)
      pub count : length (values_of s.env (said_of n.slot).place) ≡ length n.parts
      pub some : 0 < length n.parts
      pub parts : ArePartsSo m n.parts

    abbrev pub AreNodesSo : ℕ → List Node → Type 0
    AreNodesSo m [] = Unit {0}
    AreNodesSo m (n ∷ ns) = IsNodeSo m n × AreNodesSo (suc m) ns

    module _ (before made : List Dd) (n : Node) (l : length before + length made ≤ 2 ^ 64) (h : All (λ (d : Dd). is_among d.mentions every ≡ true) made) (is : IsNodeSo (length made) n) where
      pub writes_tree : WritesTree (env_with (before ++ made)) every (node_dd s.env made n) 3 (tree_signs (length before) n)
      writes_tree = from n.parts is.some is.count is.parts
        where
          by_prime : (b : Bool) (d : Dd) (ds : List Dd) (us : List (List Spelled)) → slot_of s.env b (said_of n.slot).place ≡ n.slot → is_sayable b (said_of n.slot).place ≡ true → length (values_of s.env (said_of n.slot).place) ≡ length (d ∷ ds)
              → AreWritten (env_with (before ++ made)) every 1 us (d ∷ ds)
              → WritesTree (env_with (before ++ made)) every (branched_dd s.env n.slot (d ∷ ds)) 3
              (cond b (primed_group (said_of n.slot).name (branch_signs (values_of s.env (said_of n.slot).place) us) space) (group (said_of n.slot).name (branch_signs (values_of s.env (said_of n.slot).place) us) space))
          by_prime true d ds us slot sayable count written =
              writes_primed (env_with (before ++ made)) every (said_of n.slot).name (said_of n.slot).place n.slot 1 us d ds space is.said.named is.said.numbered count written
              (record { place = is.said.place; slot_is = slot; sayable = sayable; mention = is.said.mention })
          by_prime false d ds us slot sayable count written =
              writes_node (env_with (before ++ made)) every (said_of n.slot).name (said_of n.slot).place n.slot 1 us d ds space is.said.named is.said.numbered count written
              (record { place = is.said.place; slot_is = slot; sayable = sayable; mention = is.said.mention })

          from : (parts : List Part) → 0 < length parts → length (values_of s.env (said_of n.slot).place) ≡ length parts → ArePartsSo (length made) parts
              → WritesTree (env_with (before ++ made)) every (branched_dd s.env n.slot (map (part_dd s.env made) parts)) 3
              (node_signs (said_of n.slot) (branch_signs (values_of s.env (said_of n.slot).place) (map (part_signs (length before) tight) parts)) space)
          from [] some count are = absurd (omega arith)
          from (a ∷ parts) some count are =
              by_prime (said_of n.slot).is_primed (part_dd s.env made a) (map (part_dd s.env made) parts) (map (part_signs (length before) tight) (a ∷ parts)) is.said.slot_is is.said.sayable
              (count ∙ ap suc (sym (length-map parts (part_dd s.env made)))) (writes_parts before made (a ∷ parts) l h are)

      next_dds : numbered 0 (before ++ made) ++ (name_of (length before + length made), node_dd s.env made n) ∷ [] ≡ numbered 0 (before ++ (made ++ node_dd s.env made n ∷ []))
      next_dds =
          let e : length before + length made ≡ 0 + length (before ++ made) = omega (arith, length-append before made) in
          ap (λ j. numbered 0 (before ++ made) ++ (name_of j, node_dd s.env made n) ∷ []) e
          ∙ sym (numbered_more 0 (before ++ made) (node_dd s.env made n)) ∙ ap (numbered 0) (append_assoc before made (node_dd s.env made n ∷ []))

      pub leads_line : length before + length made < 2 ^ 64 → Leads (state_with (before ++ made)) (state_with (before ++ (made ++ node_dd s.env made n ∷ []))) 3 (line_of (length before) (length made) n)
      leads_line less =
          let long = length-append before made in
          subst (λ dds. Leads (state_with (before ++ made)) (with_dds s dds) 3 (line_of (length before) (length made) n)) next_dds
          (leads_dd s (numbered 0 (before ++ made)) (name_of (length before + length made)) (node_dd s.env made n) (tree_signs (length before) n) 3 (names.named (length before + length made) less)
          (found_none 0 (length before + length made) (before ++ made) (omega arith) less) writes_tree)

    single : (n : Node) → has every n.slot ≡ true → All (λ (m : Node). has every m.slot ≡ true) (n ∷ [])
    single n h zero d l = h
    single n h (suc k) d l = absurd (omega arith)

    leads_nodes : (before made : List Dd) (ns : List Node) → length before + length made + length ns ≤ 2 ^ 64 → All (λ (d : Dd). is_among d.mentions every ≡ true) made → AreNodesSo (length made) ns
        → Leads (state_with (before ++ made)) (state_with (before ++ dds_of s.env made ns)) 3 (lines_of (length before) (length made) ns)
    leads_nodes before made [] l h is = leads_nowhere (state_with (before ++ made)) 3
    leads_nodes before made (n ∷ ns) l h is =
        let long = length-append made (node_dd s.env made n ∷ []) in
        let count : suc (length made) ≡ length (made ++ node_dd s.env made n ∷ []) = omega arith in
        leads_both (state_with (before ++ made)) (state_with (before ++ (made ++ node_dd s.env made n ∷ []))) (state_with (before ++ dds_of s.env made (n ∷ ns))) 3
        (line_of (length before) (length made) n) (lines_of (length before) (suc (length made)) ns)
        (leads_line before made n (omega arith) h is.0 (omega arith))
        (subst (λ m. Leads (state_with (before ++ (made ++ node_dd s.env made n ∷ []))) (state_with (before ++ dds_of s.env made (n ∷ ns))) 3 (lines_of (length before) m ns)) (sym count)
        (leads_nodes before (made ++ node_dd s.env made n ∷ []) ns (omega arith)
        (nodes_among s.env scope every made (n ∷ []) h (single n is.0.said.mention)) (subst (λ m. AreNodesSo m ns) count is.1)))

    -- ---- one function
    -- the names from base on are those of these dds
    pub record HasDds (all : List Dd) (base : ℕ) (made : List Dd) : Type 0 where
      pub is : (i : ℕ) (d : Dd) → i < length made → dd_of_name (name_of (base + i)) (numbered 0 all) ≡ Some (get_or made i d)
      pub few : base + length made ≤ 2 ^ 64

    pub has_within : (before made after : List Dd) → length before + length made + length after ≤ 2 ^ 64 → HasDds (before ++ (made ++ after)) (length before) made
    has_within before made after l = record {
      is = λ i d h.
          let long = length-append before (made ++ after) in
          let rest = length-append made after in
          found_numbered 0 (length before + i) (length before + i) (before ++ (made ++ after)) d (omega arith) (omega arith) (omega arith)
          ∙ ap Some (get_or_behind before (made ++ after) i d ∙ get_or_append_left made after d i h);
      few = omega arith;
    }

    -- a function where it is used, in a role that allows what it mentions
    pub writes_use : (c : Slots) (all : List Dd) (base : ℕ) (made : List Dd) (a : Part) (g : Gap) → HasDds all base made → All (λ (d : Dd). is_among d.mentions c ≡ true) made → IsPartSo (length made) a
        → WritesTree (env_with all) c (part_dd s.env made a) 1 (part_signs base g a)
    writes_use c all base made (Leaf z) g has h p = writes_number (env_with all) c (word_of z) z g p
    writes_use c all base made (At i) g has h p =
        let few = has.few in
        let name = names.named (base + i) (omega arith) in
        writes_reference (env_with all) c (name_of (base + i)) (get_or made i (constant_dd s.env (pos 0))) g (record { text = name.text; name = name.name }) (has.is i (constant_dd s.env (pos 0)) p) (h i (constant_dd s.env (pos 0)) p)

    abbrev pub dds_for : Func → List Dd
    dds_for f = dds_of s.env [] (node_list f)

    abbrev pub dd_for : Func → Dd
    dd_for f = part_dd s.env (dds_for f) (root_part f)

    -- the lines of a function
    pub leads_function : (before : List Dd) (f : Func) → length before + length (node_list f) ≤ 2 ^ 64 → AreNodesSo 0 (node_list f) → Leads (state_with before) (state_with (before ++ dds_for f)) 3 (lines_of (length before) 0 (node_list f))
    leads_function before f l is =
        subst (λ all. Leads (state_with all) (state_with (before ++ dds_for f)) 3 (lines_of (length before) 0 (node_list f))) (append-nil before)
        (leads_nodes before [] (node_list f) (omega arith) (λ k d m. absurd (omega arith)) is)

    -- its dd means it
    pub func_for : (f : Func) → f.shape ≡ s.env.scope → IsFunc f → (dd_for f).func ≡ f
    func_for f shape is = root_means s.env scope f shape is
