-- The trees of a generated text, and what they mean.
use Rattle.std.proofs.Common.{◌≡◌, ℕ, suc, ◌+◌, ◌*◌, ◌<◌, ◌≤◌, true, false, List, [], ◌∷◌, length, Some, refl, sym, ap, subst, arith}
use Rattle.std.specs.Prelude.{ℤ, codes}
use Rattle.sp_spelled.specs.Signs.{Gap, Spelled}
use Rattle.sp_spelled.specs.Shapes.{leaf, group, primed_group}
use Rattle.sp_spelled.specs.Words.{SpellsTicks}
use Rattle.sp_spelled.specs.Written.{IsNameWord}
use Rattle.sp_trees.specs.declared.slots.Slots.{Slots}
use Rattle.sp_trees.specs.declared.env.Dd.{Dd}
use Rattle.sp_trees.specs.declared.nodes.Place.{Place}
use Rattle.sp_trees.specs.declared.nodes.Place.TheVariants.{Variable, Sight}
use Rattle.sp_trees.specs.Slots.{has}
use Rattle.sp_trees.specs.Nodes.{place_of, values_of}
use Rattle.sp_written.specs.Acceptance.{IsSaid}
use Rattle.sp_written.specs.Meanings.{WritesTree, constant_dd, AreNamesFrom, AreWritten, branch_signs}
use Rattle.sp_written.proofs.Trees.{writes_number, writes_node, writes_primed}
use Rattle.sp_generated.specs.Signs.{variable_name, two_values, two_branches}
use Rattle.sp_generated.proofs.Words.{variable_word, hint_word, two_numbered}
use Rattle.sp_generated.proofs.Scope.{env_of, decls_count, variable_place, variable_values, hint_place}
use Rattle.sp_generated.proofs.Choices.{node_of}

-- ---- trees
module _ (n : ℕ) (few : n ≤ 24) (dds : List (List ℕ × Dd)) (allowed : Slots) where
  two_written : (depth : ℕ) (us vs : List Spelled) (a b : Dd) → WritesTree (env_of n dds) allowed a depth us → WritesTree (env_of n dds) allowed b depth vs → AreWritten (env_of n dds) allowed depth (us ∷ vs ∷ []) (a ∷ b ∷ [])
  two_written depth us vs a b h k = (h, (k, tt))

  module _ (p : Place) (values : values_of (env_of n dds) p ≡ two_values) (w : List ℕ) (word : IsNameWord w) (slot : ℕ) (place : place_of (env_of n dds) w ≡ Some p) (mention : has allowed slot ≡ true)
      (depth : ℕ) (us vs : List Spelled) (a b : Dd) (g : Gap) (first : WritesTree (env_of n dds) allowed a depth us) (second : WritesTree (env_of n dds) allowed b depth vs) where
    numbered : AreNamesFrom (values_of (env_of n dds) p) 0 (values_of (env_of n dds) p)
    numbered = subst (λ xs. AreNamesFrom xs 0 xs) (sym values) two_numbered

    count : length (values_of (env_of n dds) p) ≡ length (a ∷ b ∷ [])
    count = ap length values

    node_written : IsSaid (env_of n dds) allowed false w p slot → WritesTree (env_of n dds) allowed (node_of n few dds slot a b) (suc (suc depth)) (group w (two_branches us vs) g)
    node_written said =
        subst (λ xs. WritesTree (env_of n dds) allowed (node_of n few dds slot a b) (suc (suc depth)) (group w (branch_signs xs (us ∷ vs ∷ [])) g)) values
        (writes_node (env_of n dds) allowed w p slot depth (us ∷ vs ∷ []) a (b ∷ []) g word numbered count (two_written depth us vs a b first second) said)

    primed_written : IsSaid (env_of n dds) allowed true w p slot → WritesTree (env_of n dds) allowed (node_of n few dds slot a b) (suc (suc depth)) (primed_group w (two_branches us vs) g)
    primed_written said =
        subst (λ xs. WritesTree (env_of n dds) allowed (node_of n few dds slot a b) (suc (suc depth)) (primed_group w (branch_signs xs (us ∷ vs ∷ [])) g)) values
        (writes_primed (env_of n dds) allowed w p slot depth (us ∷ vs ∷ []) a (b ∷ []) g word numbered count (two_written depth us vs a b first second) said)

  module _ (k depth : ℕ) (us vs : List Spelled) (a b : Dd) (g : Gap) (l : k < n) (first : WritesTree (env_of n dds) allowed a depth us) (second : WritesTree (env_of n dds) allowed b depth vs) where
    -- a node of a variable
    pub writes_unprimed : has allowed (2 * k) ≡ true → WritesTree (env_of n dds) allowed (node_of n few dds (2 * k) a b) (suc (suc depth)) (group (variable_name (suc k)) (two_branches us vs) g)
    writes_unprimed mention =
        node_written (Variable k) (variable_values n few dds k l) (variable_name (suc k)) (variable_word (suc k) (omega arith)) (2 * k) (variable_place n few dds k l) mention depth us vs a b g first second
        (record { place = variable_place n few dds k l; slot_is = refl; sayable = refl; mention = mention })

    -- a node of a primed variable
    pub writes_next : has allowed (2 * k + 1) ≡ true → WritesTree (env_of n dds) allowed (node_of n few dds (2 * k + 1) a b) (suc (suc depth)) (primed_group (variable_name (suc k)) (two_branches us vs) g)
    writes_next mention =
        primed_written (Variable k) (variable_values n few dds k l) (variable_name (suc k)) (variable_word (suc k) (omega arith)) (2 * k + 1) (variable_place n few dds k l) mention depth us vs a b g first second
        (record { place = variable_place n few dds k l; slot_is = refl; sayable = refl; mention = mention })

  -- a node of the observation variable
  pub writes_hint : (depth : ℕ) (us vs : List Spelled) (a b : Dd) (g : Gap) → WritesTree (env_of n dds) allowed a depth us → WritesTree (env_of n dds) allowed b depth vs → has allowed (2 * n) ≡ true
      → WritesTree (env_of n dds) allowed (node_of n few dds (2 * n) a b) (suc (suc depth)) (primed_group (codes "hint") (two_branches us vs) g)
  writes_hint depth us vs a b g first second mention =
      primed_written (Sight 0) refl (codes "hint") hint_word (2 * n) (hint_place n few dds) mention depth us vs a b g first second
      (record { place = hint_place n few dds; slot_is = (let c = decls_count 1 n in omega arith); sayable = refl; mention = mention })

  -- a number
  pub writes_ticks : (w : List ℕ) (z : ℤ) (g : Gap) → SpellsTicks w z → WritesTree (env_of n dds) allowed (constant_dd (env_of n dds) z) 1 (leaf w g)
  writes_ticks w z g h = writes_number (env_of n dds) allowed w z g h
