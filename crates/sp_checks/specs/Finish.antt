-- The end of a text.
use Rattle.std.specs.Prelude.{ℕ, not, pos, List, [], ◌∷◌, ◌++◌, Option, Some, None, Result, Ok, Err}
use Rattle.sp_dd.specs.Func.{Shape, Func}
use Rattle.sp_dd.specs.Operations.{everywhere}
use Rattle.sp_model.specs.declared.parts.Factor.{Factor}
use Rattle.sp_model.specs.declared.parts.ActionPart.{ActionPart}
use Rattle.sp_model.specs.declared.parts.Parts.{Parts}
use Rattle.sp_rows.specs.Tables.{is_reward, less}
use Rattle.sp_trees.specs.declared.refusal.Refusal.{Refusal}
use Rattle.sp_trees.specs.declared.refusal.ModelKind.TheVariants as kind
use Rattle.sp_trees.specs.Refusals.{refused_if}
use Rattle.sp_declarations.specs.Steps.{◌>>=◌, unless_refused, in_turn}
use Rattle.sp_trees.specs.declared.env.Env.{Env}
use Rattle.sp_checks.specs.declared.state.Draft.{Draft}
use Rattle.sp_checks.specs.declared.state.State.{State}

-- the function, or zero where there is none
abbrev pub or_zero : Shape → Option Func → Func
or_zero s None = everywhere s (pos 0)
or_zero s (Some f) = f

-- the reward of an action less its cost
abbrev pub reward_of : Shape → Func → Draft → Func
reward_of s reward d = less reward (or_zero s d.cost)

-- that reward, which is within a million
unfoldable pub checked_reward : Shape → ℕ → Func → Draft → Result Func Refusal
checked_reward s end reward d = unless_refused (refused_if (not (is_reward (reward_of s reward d))) end kind.RewardRange) >>= λ _. Ok (reward_of s reward d)

-- an action with its reward
unfoldable pub action_part : Shape → ℕ → Func → Draft → Result ActionPart Refusal
action_part s end reward d = checked_reward s end reward d >>= λ r. Ok (record { name = d.name; reward = r; moves = d.moves; sight = d.sights })

-- the actions with one more
unfoldable pub action_step : Shape → ℕ → Func → List ActionPart → Draft → Result (List ActionPart) Refusal
action_step s end reward done d = action_part s end reward d >>= λ a. Ok (done ++ a ∷ [])

-- the actions with their rewards
unfoldable pub actions : Shape → ℕ → Func → List Draft → Result (List ActionPart) Refusal
actions s end reward ds = in_turn (action_step s end reward) [] ds

-- the parts of the model
unfoldable pub parts : Env → ℕ → List Factor → ℕ → Option Func → List Draft → Result Parts Refusal
parts env end init discount reward ds =
    actions env.scope end (or_zero env.scope reward) ds >>= λ done.
    Ok (record { variables = env.variables; sights = env.sights; scope = env.scope; discount = discount; init = init; actions = done })

abbrev pub finish_by : State → ℕ → Option (List Factor) → Option ℕ → List Draft → Result Parts Refusal
finish_by s end (Some init) (Some discount) (d ∷ ds) = parts s.env end init discount s.reward (d ∷ ds)
finish_by s end _ _ _ = Err (record { at = end; kind = kind.MissingPart })

-- the parts of the model, unless one is missing or a reward is too large
unfoldable pub finish : State → ℕ → Result Parts Refusal
finish s end = finish_by s end s.init s.discount s.actions
