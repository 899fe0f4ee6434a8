-- Actions by what they promise, and the best of them.
use Rattle.std.proofs.Common.{◌≡◌, ℕ, suc, ◌+◌, ◌*◌, ◌^◌, ◌<◌, ◌≤◌, sym, ap, ◌∙◌, subst, arith, List, [], ◌∷◌, ◌++◌, length, get_or, drop, Bool, true, false, cond, Option, Some, None, IsSome, IfSome}
use Rattle.std.specs.Prelude.{ℤ, pos, neg_ℤ, ◌+ℤ◌, ◌≤ℤ◌, ◌<ℤ◌, unsigned_abs}
use Rattle.std.specs.List.{range_with_len}
use Rattle.std.proofs.lemmas.Int.{ints}
use Rattle.std.proofs.lemmas.List.{get_or-map, length-map}
use Rattle.std.proofs.lemmas.List.Elements.{All-from_get_or}
use Rattle.std.proofs.lemmas.List.FromFn.{get_or-range_with_len, length-range_with_len}
use Rattle.std.proofs.Math.Nat.{zero-add}
use Rattle.sp_dd.specs.Func.{Func}
use Rattle.sp_theory.specs.Sums.{floor, sum_below}
use Rattle.sp_theory.specs.Points.{IsPoint, count_of, point_of}
use Rattle.sp_theory.specs.Draws.{q}
use Rattle.sp_theory.specs.Model as theory_model
use Rattle.sp_theory.specs.Values.{Weights, Member, leaf_member, greatest_from, dot}
use Rattle.sp_theory.specs.Backup.{estimate, link_at, candidate, choice}
use Rattle.sp_theory.specs.Beliefs.{unscaled_next}
use Rattle.sp_theory.proofs.Numbers.{sum_over-numbers}
use Rattle.sp_theory.proofs.Greatest.{greatest_among}
use Rattle.sp_bounds.specs.Bounds.{future, promise, action_window}
use Rattle.sp_bounds.proofs.Forward.{far_action}
use Rattle.sp_model.specs.Problem.{sizes_of, shape_of, problem}
use Rattle.sp_model.specs.Links.{weights_of}
use Rattle.sp_model.specs.Weights.{AreWeights}
use Rattle.sp_model.proofs.RowLaw.{problem_lawful}
use Rattle.sp_value.specs.Editions.{EditionParts, IsEdition, members_in, member_of, no_member}
use Rattle.sp_value.specs.Scores.{outdoes}
use Rattle.sp_value.proofs.Greatest.{greatest_first, greatest_next, greatest_last}
use Rattle.sp_backup.specs.Choosing.{IsLinkAt}
use Rattle.sp_backup.specs.Posteriors.{IsScoredMember, vector_at}
use Rattle.sp_backup.specs.Ranges.{AreBetween, farthest}
use Rattle.sp_backup.specs.Promises.{share_of, AreActionLinks, chosen_links, IsPromisedAction}
use Rattle.sp_backup.specs.Trials.{IsActionVector, worth_of}
use Rattle.sp_backup.specs.declared.backups.ActionVector.{ActionVector}
use Rattle.sp_backup.specs.declared.promises.PromisedAction.{PromisedAction}
use Rattle.sp_backup.specs.declared.linking.ActionLinks.{ActionLinks}
use Rattle.sp_backup.specs.declared.linking.ScoredMember.{ScoredMember}
use Rattle.sp_backup.proofs.AllLinks.{links_none, links_push}
use Rattle.sp_backup.proofs.UnscaledSums.{range_at, between_at, weights_few, outdoes_less, outdoes_more}

-- ---- the links of an action
module _ (e : EditionParts) (w : Weights) (a : ℕ) where
  pub future_none : (l : ActionLinks) → l.places ≡ [] → l.future ≡ pos 0 → AreActionLinks e w a 0 l
  unfolding sum_below
  future_none l none zero = record {
    links = links_none e w a l.places none;
    future = zero;
    small = subst (λ (z : ℤ). unsigned_abs z ≤ 0 * 2 ^ 93) (sym zero) (omega arith);
  }

  -- what a link brings, over q
  share_at : (o : ℕ) (b : ScoredMember) → IsLinkAt e w a (point_of (sizes_of e.task.model.sights) o) b.place → IsScoredMember e w a o b → floor b.sum q ≡ share_of e w a o
  share_at o b link is = ap (λ (z : ℤ). floor z q) (is.sum ∙ ap (λ (x : Member). dot (problem e.task.model) (unscaled_next (problem e.task.model) w a (point_of (sizes_of e.task.model.sights) o)) x.vector) link.is)

  pub future_push : (n k : ℕ) (before next : ActionLinks) (b : ScoredMember) → AreActionLinks e w a n before → IsLinkAt e w a (point_of (sizes_of e.task.model.sights) n) b.place → IsScoredMember e w a n b
      → k ≡ n + 1 → next.places ≡ before.places ++ b.place ∷ [] → next.future ≡ before.future +ℤ floor b.sum q → unsigned_abs next.future ≤ (n + 1) * 2 ^ 93 → AreActionLinks e w a k next
  unfolding sum_below
  future_push n k before next b are link is more pushed summed small = record {
    links = links_push e w a n k b.place before.places next.places more are.links link pushed;
    future = summed ∙ (λ i. are.future i +ℤ share_at n b link is i) ∙ ap (λ (j : ℕ). sum_below j (share_of e w a)) (sym (more ∙ (let one : n + 1 ≡ suc n = omega arith in one)));
    small = subst (λ (j : ℕ). unsigned_abs next.future ≤ j * 2 ^ 93) (sym more) small;
  }

  pub future_all : (n : ℕ) (l : ActionLinks) → n ≡ count_of (sizes_of e.task.model.sights) → AreActionLinks e w a n l → l.future ≡ future (problem e.task.model) w a (chosen_links e w a)
  unfolding problem
  future_all n l all are =
      are.future ∙ ap (λ (j : ℕ). sum_below j (share_of e w a)) all
      ∙ sym (sum_over-numbers (sizes_of e.task.model.sights) (λ seen. floor (dot (problem e.task.model) (unscaled_next (problem e.task.model) w a seen) (link_at (problem e.task.model) (members_in e) w a seen).vector) q))

-- ---- two actions
-- the values of a vector lie between these
Lies : EditionParts → ℤ → ℤ → Member → Type 0
Lies e low high x = (s : List ℕ) → IsPoint (problem e.task.model).sizes s → (low ≤ℤ x.vector s) × (x.vector s ≤ℤ high)

module _ (e : EditionParts) (is : IsEdition e) where
  -- what holds of each member's vector holds of a link's
  link_lies : (low high : ℤ) → ((k : ℕ) → k < length e.members → (s : List ℕ) → IsPoint (problem e.task.model).sizes s → (low ≤ℤ vector_at e k s) × (vector_at e k s ≤ℤ high))
      → (w : Weights) (a : ℕ) (seen : List ℕ) → Lies e low high (link_at (problem e.task.model) (members_in e) w a seen)
  unfolding Lies link_at
  link_lies low high each w a seen =
      greatest_among (λ x. estimate (problem e.task.model) w a seen x.vector) (λ x. x.id) (Lies e low high) (leaf_member (problem e.task.model)) (members_in e) (let long = length-map e.members (member_of e.task.model) in let some = is.some in omega (arith, long, some))
      (All-from_get_or (Lies e low high) (members_in e) (leaf_member (problem e.task.model)) (λ k less.
      let inside : k < length e.members = (let long = length-map e.members (member_of e.task.model) in omega (arith, long, less)) in
      subst (Lies e low high) (sym (get_or-map (member_of e.task.model) e.members k no_member (leaf_member (problem e.task.model)) inside)) (each k inside)))

  module _ (low high : ℤ) (range : AreBetween e low high) where
    links_within : (w : Weights) (a : ℕ) (seen next : List ℕ) → IsPoint (problem e.task.model).sizes next → (neg_ℤ (pos (farthest low high)) ≤ℤ chosen_links e w a seen next) × (chosen_links e w a seen next ≤ℤ pos (farthest low high))
    unfolding Lies
    links_within w a seen next at = let lies = link_lies low high (between_at e is low high range) w a seen next at in bounded _ low high lies.0 lies.1
      where
        bounded : (v l h : ℤ) → l ≤ℤ v → v ≤ℤ h → (neg_ℤ (pos (unsigned_abs l + unsigned_abs h)) ≤ℤ v) × (v ≤ℤ pos (unsigned_abs l + unsigned_abs h))
        bounded v l h low high = (omega (arith, ints, low), omega (arith, ints, high))

    module _ (wf : Func) (scope : wf.shape ≡ shape_of e.task.model) (are : AreWeights wf) where
      abbrev w : Weights
      w = weights_of e.task.model wf

      abbrev pub window : ℕ
      window = action_window (problem e.task.model) (2 ^ 62) (farthest low high)

      far : (x y : PromisedAction) → IsPromisedAction e w x → IsPromisedAction e w y → (x.promise +ℤ pos window) <ℤ y.promise → worth_of e w x.action <ℤ worth_of e w y.action
      unfolding problem candidate Lies
      far x y is_x is_y apart =
          far_action (problem e.task.model) (problem_lawful e.task.model is.task.model) w x.action y.action is_x.known is_y.known (chosen_links e w x.action) (chosen_links e w y.action)
          (λ seen next o n. (link_lies (theory_model.least_return (problem e.task.model)) (theory_model.top (problem e.task.model)) (range_at e is) w x.action seen next n).0) (2 ^ 62) (farthest low high) (weights_few e is wf scope are)
          (λ seen next o n. links_within w x.action seen next n) (λ seen next o n. links_within w y.action seen next n)
          (subst (λ (z : ℤ). (z +ℤ pos window) <ℤ promise (problem e.task.model) w y.action (chosen_links e w y.action)) is_x.promised (subst (λ (z : ℤ). (x.promise +ℤ pos window) <ℤ z) is_y.promised apart))

      pub far_less : (x y : PromisedAction) → IsPromisedAction e w x → IsPromisedAction e w y → (x.promise +ℤ pos window) <ℤ y.promise → outdoes (worth_of e w x.action) x.action (worth_of e w y.action) y.action ≡ false
      far_less x y is_x is_y apart = outdoes_less _ _ _ _ (far x y is_x is_y apart)

      pub far_more : (x y : PromisedAction) → IsPromisedAction e w x → IsPromisedAction e w y → (y.promise +ℤ pos window) <ℤ x.promise → outdoes (worth_of e w x.action) x.action (worth_of e w y.action) y.action ≡ true
      far_more x y is_x is_y apart = outdoes_more _ _ _ _ (far y x is_y is_x apart)

-- ---- the best action
abbrev all_actions : EditionParts → List ℕ
all_actions e = range_with_len 0 (length e.task.model.actions)

-- the best of the first k actions
pub record IsBestAction (e : EditionParts) (w : Weights) (k : ℕ) (c : PromisedAction) : Type 0 where
  pub within : c.action < k
  pub far : k ≤ length e.task.model.actions
  pub found : choice (problem e.task.model) (members_in e) w ≡ greatest_from (worth_of e w) (λ a. a) c.action (drop k (all_actions e))
  pub promised : IsPromisedAction e w c

module _ (e : EditionParts) (w : Weights) where
  action-at : (a : ℕ) → a < length e.task.model.actions → get_or (all_actions e) a 0 ≡ a
  action-at a less = get_or-range_with_len 0 (length e.task.model.actions) a 0 less ∙ zero-add a

  action-count : length (all_actions e) ≡ length e.task.model.actions
  action-count = length-range_with_len 0 (length e.task.model.actions)

  pub action_first : (c : PromisedAction) → 0 < length e.task.model.actions → c.action ≡ 0 → IsPromisedAction e w c → IsBestAction e w 1 c
  unfolding choice problem
  action_first c some first is = record {
    within = omega (arith, first);
    far = some;
    found = greatest_first 0 (worth_of e w) (λ a. a) (all_actions e) (let count = action-count in omega (arith, count, some)) ∙ ap (λ (a : ℕ). greatest_from (worth_of e w) (λ a. a) a (drop 1 (all_actions e))) (action-at 0 some ∙ sym first);
    promised = is;
  }

  pub action_next : (k n : ℕ) (best next then : PromisedAction) → IsBestAction e w k best → k < length e.task.model.actions → next.action ≡ k → IsPromisedAction e w then
      → then.action ≡ cond (outdoes (worth_of e w next.action) next.action (worth_of e w best.action) best.action) next.action best.action → n ≡ k + 1 → IsBestAction e w n then
  action_next k n best next then before less here is chosen more =
      subst (λ (m : ℕ). IsBestAction e w m then) (sym (more ∙ (let one : k + 1 ≡ suc k = omega arith in one))) (record {
        within = inside t (chosen ∙ ap (λ (a : ℕ). cond t a best.action) here);
        far = omega (arith, less);
        found = found;
        promised = is;
      })
    where
      old : get_or (all_actions e) best.action 0 ≡ best.action
      old = action-at best.action (let low = before.within in omega (arith, low, less))

      new : get_or (all_actions e) k 0 ≡ k
      new = action-at k less

      t : Bool
      t = outdoes (worth_of e w next.action) next.action (worth_of e w best.action) best.action

      inside : (c : Bool) → then.action ≡ cond c k best.action → then.action < suc k
      inside true e = omega (arith, e)
      inside false e = let low = before.within in omega (arith, e, low)

      test : outdoes (worth_of e w (get_or (all_actions e) k 0)) (get_or (all_actions e) k 0) (worth_of e w (get_or (all_actions e) best.action 0)) (get_or (all_actions e) best.action 0) ≡ t
      test = λ h. outdoes (worth_of e w ((new ∙ sym here) h)) ((new ∙ sym here) h) (worth_of e w (old h)) (old h)

      its : (c : Bool) → get_or (all_actions e) (cond c k best.action) 0 ≡ cond c next.action best.action
      its true = new ∙ sym here
      its false = old

      found : choice (problem e.task.model) (members_in e) w ≡ greatest_from (worth_of e w) (λ a. a) then.action (drop (suc k) (all_actions e))
      found =
          before.found ∙ ap (λ (a : ℕ). greatest_from (worth_of e w) (λ a. a) a (drop k (all_actions e))) (sym old)
          ∙ greatest_next 0 (worth_of e w) (λ a. a) (all_actions e) best.action k (let count = action-count in omega (arith, count, less))
          ∙ ap (λ (c : Bool). greatest_from (worth_of e w) (λ a. a) (get_or (all_actions e) (cond c k best.action) 0) (drop (suc k) (all_actions e))) test
          ∙ ap (λ (a : ℕ). greatest_from (worth_of e w) (λ a. a) a (drop (suc k) (all_actions e))) (its t ∙ sym chosen)

  pub action_last : (k : ℕ) (c : PromisedAction) → IsBestAction e w k c → length e.task.model.actions ≤ k → choice (problem e.task.model) (members_in e) w ≡ c.action
  action_last k c best far =
      let low = best.within in
      let less : c.action < length e.task.model.actions = (let inside = best.far in omega (arith, low, inside)) in
      let here = action-at c.action less in
      best.found ∙ ap (λ (a : ℕ). greatest_from (worth_of e w) (λ a. a) a (drop k (all_actions e))) (sym here) ∙ greatest_last 0 (worth_of e w) (λ a. a) (all_actions e) c.action k (let count = action-count in omega (arith, count, far)) ∙ here

-- the sum of a vector that was made is the action's worth
pub made-worth : (e : EditionParts) (w : Weights) (a : ℕ) (made : Option ActionVector) (z : ℤ) → IsSome made → IfSome made (λ x. z ≡ x.sum) → IfSome made (IsActionVector e w a) → z ≡ worth_of e w a
made-worth e w a None z some same is = cc
made-worth e w a (Some x) z some same is = same ∙ is.sum
