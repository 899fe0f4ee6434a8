-- The reward, the discount and the end of a text.
use Rattle.std.proofs.Common.{◌≡◌, ℕ, ◌≤◌, true, ◌&&◌, List, [], ◌∷◌, ◌++◌, map, Option, Some, None, sym, ap, ◌∙◌, append_assoc, append-nil, arith}
use Rattle.std.specs.Prelude.{pos, Ok, Err, is_some, int_le, codes, not, if◌then◌else◌}
use Rattle.std.proofs.lemmas.Int.{ints}
use Rattle.sp_lex.specs.declared.lexeme.Span.{Span}
use Rattle.sp_lex.specs.Decimal.{ticks_of}
use Rattle.sp_syntax.specs.declared.text.Tree.{Tree}
use Rattle.sp_spelled.specs.Signs.{Spelled}
use Rattle.sp_spelled.specs.Shapes.{spaced_word, last_word}
use Rattle.sp_spelled.specs.Words.{SpellsTicks}
use Rattle.sp_spelled.proofs.Sections.{written_reward, written_discount}
use Rattle.sp_dd.specs.Func.{Shape, Func}
use Rattle.sp_model.specs.declared.parts.Factor.{Factor}
use Rattle.sp_model.specs.declared.parts.ActionPart.{ActionPart}
use Rattle.sp_model.specs.declared.parts.Parts.{Parts}
use Rattle.sp_rows.specs.Tables.{is_reward}
use Rattle.sp_trees.specs.declared.refusal.ModelKind.TheVariants as kind
use Rattle.sp_trees.specs.declared.env.Dd.{Dd}
use Rattle.sp_trees.specs.Refusals.{refused_if}
use Rattle.sp_trees.specs.Words.{text}
use Rattle.sp_declarations.specs.Steps.{◌>>=◌, unless_refused, in_turn}
use Rattle.sp_checks.specs.declared.roles.Role.TheVariants as role
use Rattle.sp_checks.specs.declared.accepted.Accepted.{Accepted}
use Rattle.sp_checks.specs.declared.state.Draft.{Draft}
use Rattle.sp_checks.specs.declared.state.State.{State}
use Rattle.sp_checks.specs.Roles.{allowed_slots}
use Rattle.sp_checks.specs.Accepted.{accepted}
use Rattle.sp_checks.specs.Sections.{section, reward, discount, discount_of, discount_by}
use Rattle.sp_checks.specs.Finish as ends
use Rattle.sp_checks.specs.Finish.{or_zero, reward_of, action_step, action_part, finish, finish_by, parts}
use Rattle.sp_written.specs.Meanings.{Means, WritesTree}
use Rattle.sp_written.proofs.Lines.{Leads, leads_one}
use Rattle.sp_written.proofs.Items.{accepted_ok}

module _ (s : State) where
  -- the reward
  pub leads_reward : (d : Dd) (us : List Spelled) (depth : ℕ) → s.reward ≡ None → WritesTree s.env (allowed_slots s.env.scope role.Reward) d depth us
      → Leads s (record s { reward = Some d.func }) depth (spaced_word (codes "reward") ∷ us)
  unfolding reward
  leads_reward d us depth new part = leads_one s (record s { reward = Some d.func }) depth (spaced_word (codes "reward") ∷ us)
      (written_reward us depth (Means s.env (allowed_slots s.env.scope role.Reward) d) part (λ source x. section source s x ≡ Ok (record s { reward = Some d.func })) (λ source k t means. read source k t means))
    where
      read : (source : List ℕ) (k : Span) (t : Tree) → Means s.env (allowed_slots s.env.scope role.Reward) d source t → reward source s k t ≡ Ok (record s { reward = Some d.func })
      read source k t means =
          ap (λ (o : Option Func). unless_refused (refused_if (is_some o) k.start kind.RepeatedName) >>= λ _. (accepted s.env source role.Reward t >>= λ a. Ok (record s { reward = Some a.func }))) new
          ∙ ap (λ o. o >>= λ (a : Accepted). Ok (record s { reward = Some a.func })) (accepted_ok s.env source role.Reward t d means)

  -- the discount
  pub leads_discount : (w : List ℕ) (g : ℕ) → s.discount ≡ None → SpellsTicks w (pos g) → g ≤ 999000000 → Leads s (record s { discount = Some g }) 0 (spaced_word (codes "discount") ∷ last_word w ∷ [])
  unfolding discount discount_of
  leads_discount w g new spells small = leads_one s (record s { discount = Some g }) 0 (spaced_word (codes "discount") ∷ last_word w ∷ [])
      (written_discount w (λ source x. section source s x ≡ Ok (record s { discount = Some g })) spells.text (λ source k n said. read source k n said))
    where
      low : int_le (pos 0) (pos g) ≡ true
      low = grind (arith, ints)

      high : int_le (pos g) (pos 999000000) ≡ true
      high = grind (arith, ints)

      read : (source : List ℕ) (k n : Span) → text source n ≡ w → discount source s k n ≡ Ok (record s { discount = Some g })
      read source k n said =
          ap (λ (o : Option ℕ). unless_refused (refused_if (is_some o) k.start kind.RepeatedName) >>= λ _. (discount_of source n >>= λ v. Ok (record s { discount = Some v }))) new
          ∙ ap (λ r. discount_by n.start r >>= λ v. Ok (record s { discount = Some v })) (ap ticks_of said ∙ spells.ticks)
          ∙ (λ i. (if low i && high i then Ok g else Err (record { at = n.start; kind = kind.DiscountRange })) >>= λ v. Ok (record s { discount = Some v }))

-- ---- the end
-- an action with its reward
abbrev pub part_of : Shape → Func → Draft → ActionPart
part_of s reward d = record { name = d.name; reward = reward_of s reward d; moves = d.moves; sight = d.sights }

-- no action's reward is too large
abbrev pub AreRewards : Shape → Func → List Draft → Type 0
AreRewards s reward [] = Unit {0}
AreRewards s reward (d ∷ ds) = (is_reward (reward_of s reward d) ≡ true) × AreRewards s reward ds

actions_are : (s : Shape) (end : ℕ) (reward : Func) (done : List ActionPart) (ds : List Draft) → AreRewards s reward ds → in_turn (action_step s end reward) done ds ≡ Ok (done ++ map (part_of s reward) ds)
unfolding in_turn action_step action_part ends.checked_reward
actions_are s end reward done [] h = ap Ok (sym (append-nil done))
actions_are s end reward done (d ∷ ds) h =
    ap (λ b. (((unless_refused (refused_if (not b) end kind.RewardRange) >>= λ _. Ok (reward_of s reward d)) >>= λ r. Ok (let a : ActionPart = record { name = d.name; reward = r; moves = d.moves; sight = d.sights } in a))
    >>= λ a. Ok (done ++ a ∷ [])) >>= λ more. in_turn (action_step s end reward) more ds) h.0
    ∙ actions_are s end reward (done ++ part_of s reward d ∷ []) ds h.1 ∙ ap Ok (append_assoc done (part_of s reward d ∷ []) (map (part_of s reward) ds))

abbrev pub parts_with : State → List Factor → ℕ → List Draft → Parts
parts_with s init discount ds = record {
  variables = s.env.variables;
  sights = s.env.sights;
  scope = s.env.scope;
  discount = discount;
  init = init;
  actions = map (part_of s.env.scope (or_zero s.env.scope s.reward)) ds;
}

-- nothing is missing, and no reward is too large
pub finish_ok : (s : State) (init : List Factor) (g : ℕ) (d : Draft) (ds : List Draft) (end : ℕ) → s.init ≡ Some init → s.discount ≡ Some g → s.actions ≡ d ∷ ds → AreRewards s.env.scope (or_zero s.env.scope s.reward) (d ∷ ds)
    → finish s end ≡ Ok (parts_with s init g (d ∷ ds))
unfolding finish parts ends.actions
finish_ok s init g d ds end i j k h =
    (λ t. finish_by s end (i t) (j t) (k t))
    ∙ ap (λ o. o >>= λ done. Ok (let p : Parts = record { variables = s.env.variables; sights = s.env.sights; scope = s.env.scope; discount = g; init = init; actions = done } in p))
    (actions_are s.env.scope end (or_zero s.env.scope s.reward) [] (d ∷ ds) h)
