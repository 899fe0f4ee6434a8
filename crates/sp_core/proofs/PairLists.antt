-- Pairs that apply to members, and what they leave, in the theory's words.
use Rattle.std.proofs.Common.{◌≡◌, ◌∙◌, sym, ap, refl, ℕ, List, [], ◌∷◌, Bool, true, false, cond, not, ◌&&◌, ◌||◌, eqb}
use Rattle.std.specs.Prelude.{filter, map}
use Rattle.std.specs.List.{list_any}
use Rattle.sp_theory.specs.Values as theory
use Rattle.sp_theory.specs.Book.{pruned}
use Rattle.sp_theory.specs.OneThread.{applying}
use Rattle.sp_model.specs.declared.parts.Parts.{Parts}
use Rattle.sp_value.specs.declared.editions.Member.{Member}
use Rattle.sp_value.specs.Editions.{edition_of, member_of}
use Rattle.sp_drops.specs.Drops.{has_id, applying_ids, goes, left_by}

module _ (p : Parts) where
  has_members : (members : List Member) (id : ℕ) → list_any (λ (z : theory.Member). eqb z.id id) (edition_of p members) ≡ has_id (map (λ (x : Member). x.id) members) id
  has_members [] id = refl
  has_members (x ∷ members) id = ap (λ (b : Bool). eqb x.id id || b) (has_members members id)

  -- members that pass a test on their ids
  pub tested_members : (test : ℕ → Bool) (members : List Member) → filter (λ (z : theory.Member). test z.id) (edition_of p members) ≡ edition_of p (filter (λ (z : Member). test z.id) members)
  tested_members test [] = refl
  tested_members test (x ∷ members) = ap (λ (xs : theory.Edition). cond (test x.id) (member_of p x ∷ xs) xs) (tested_members test members) ∙ by_test (test x.id)
    where
      by_test : (b : Bool) → cond b (member_of p x ∷ edition_of p (filter (λ (z : Member). test z.id) members)) (edition_of p (filter (λ (z : Member). test z.id) members)) ≡ edition_of p (cond b (x ∷ filter (λ (z : Member). test z.id) members) (filter (λ (z : Member). test z.id) members))
      by_test true = refl
      by_test false = refl

  tested_ids : (test : ℕ → Bool) (members : List Member) → filter test (map (λ (x : Member). x.id) members) ≡ map (λ (x : Member). x.id) (filter (λ (z : Member). test z.id) members)
  tested_ids test [] = refl
  tested_ids test (x ∷ members) = ap (λ (xs : List ℕ). cond (test x.id) (x.id ∷ xs) xs) (tested_ids test members) ∙ by_test (test x.id)
    where
      by_test : (b : Bool) → cond b (x.id ∷ map (λ (x : Member). x.id) (filter (λ (z : Member). test z.id) members)) (map (λ (x : Member). x.id) (filter (λ (z : Member). test z.id) members)) ≡ map (λ (x : Member). x.id) (cond b (x ∷ filter (λ (z : Member). test z.id) members) (filter (λ (z : Member). test z.id) members))
      by_test true = refl
      by_test false = refl

  -- the pairs that apply to members are those that apply to their ids
  pub applying_members : (members : List Member) (pairs : List (ℕ × ℕ)) → applying (edition_of p members) pairs ≡ applying_ids (map (λ (x : Member). x.id) members) pairs
  unfolding applying
  applying_members members [] = refl
  applying_members members ((x, y) ∷ pairs) =
      let rest = applying_members (filter (λ (z : Member). not (eqb z.id x)) members) pairs in
      (λ i. cond (has_members members x i && has_members members y i)
      ((x, y) ∷ (ap (λ (ed : theory.Edition). applying ed pairs) (tested_members (λ id. not (eqb id x)) members) ∙ rest ∙ ap (λ (ids : List ℕ). applying_ids ids pairs) (sym (tested_ids (λ id. not (eqb id x)) members))) i)
      (applying_members members pairs i))

  -- what is left by pairs, one after another, is what is first in none of them
  pub pruned_members : (pairs : List (ℕ × ℕ)) (members : List Member) → pruned (edition_of p members) pairs ≡ edition_of p (left_by pairs members)
  unfolding pruned
  pruned_members [] members = ap (edition_of p) (sym (all_pass members))
    where
      all_pass : (members : List Member) → filter (λ (z : Member). true) members ≡ members
      all_pass [] = refl
      all_pass (x ∷ members) = ap (λ (xs : List Member). x ∷ xs) (all_pass members)
  pruned_members ((x, y) ∷ pairs) members =
      ap (λ (ed : theory.Edition). pruned ed pairs) (tested_members (λ id. not (eqb id x)) members)
      ∙ pruned_members pairs (filter (λ (z : Member). not (eqb z.id x)) members)
      ∙ ap (edition_of p) (twice members)
    where
      twice : (members : List Member) → left_by pairs (filter (λ (z : Member). not (eqb z.id x)) members) ≡ left_by ((x, y) ∷ pairs) members
      twice [] = refl
      twice (z ∷ members) = by_test (eqb z.id x) (twice members)
        where
          F : List Member
          F = filter (λ (z : Member). not (eqb z.id x)) members

          by_test : (b : Bool) → left_by pairs F ≡ left_by ((x, y) ∷ pairs) members → left_by pairs (cond (not b) (z ∷ F) F) ≡ cond (not (b || goes pairs z.id)) (z ∷ left_by ((x, y) ∷ pairs) members) (left_by ((x, y) ∷ pairs) members)
          by_test true rest = rest
          by_test false rest = ap (λ (xs : List Member). cond (not (goes pairs z.id)) (z ∷ xs) xs) rest
