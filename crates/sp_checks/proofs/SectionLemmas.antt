-- Sections.
use Rattle.std.proofs.Common.{◌≡◌, ℕ, List, [], ◌∷◌, ◌++◌, Ok, Err, refl}
use Rattle.std.specs.Prelude.{Result, IsErrAnd, Some}
use Rattle.sp_lex.specs.declared.lexeme.Span.{Span}
use Rattle.sp_syntax.specs.declared.text.Tree.{Tree}
use Rattle.sp_trees.specs.declared.env.Dd.{Dd}
use Rattle.sp_trees.specs.Words.{text}
use Rattle.sp_declarations.specs.declared.error.ModelError.{ModelError}
use Rattle.sp_declarations.specs.Steps.{GivesOrRunsOut, Leaves}
use Rattle.sp_declarations.proofs.StepLemmas.{after, after_ok, exit_leaves}
use Rattle.sp_checks.specs.declared.roles.Role.TheVariants as role
use Rattle.sp_checks.specs.declared.accepted.Accepted.{Accepted}
use Rattle.sp_checks.specs.declared.state.State.{State}
use Rattle.sp_checks.specs.Accepted.{accepted}
use Rattle.sp_checks.specs.Sections.{checked_dd, dd, checked_reward, reward, discount_of, checked_discount, discount}

module _ (source : List ℕ) (s : State) (word : Span) (t : Tree) where
  module _ (x : Result (Unit {0}) ModelError) (new : State) (e : ModelError) (k : IsErrAnd x (λ q. q ≡ e)) where
    pub dd_err : GivesOrRunsOut (checked_dd source s.env.dds word) (Err e) → Leaves (dd source s word t) x new
    unfolding dd
    dd_err h = exit_leaves _ _ e x new h k

    pub dd_tree_err : checked_dd source s.env.dds word ≡ Ok tt → GivesOrRunsOut (accepted s.env source role.Dd t) (Err e) → Leaves (dd source s word t) x new
    unfolding dd
    dd_tree_err p h = after _ _ _ _ p (exit_leaves _ _ e x new h k)

    pub reward_err : GivesOrRunsOut (checked_reward s word.start) (Err e) → Leaves (reward source s word t) x new
    unfolding reward
    reward_err h = exit_leaves _ _ e x new h k

    pub reward_tree_err : checked_reward s word.start ≡ Ok tt → GivesOrRunsOut (accepted s.env source role.Reward t) (Err e) → Leaves (reward source s word t) x new
    unfolding reward
    reward_tree_err p h = after _ _ _ _ p (exit_leaves _ _ e x new h k)

  pub dd_ok : (a : Accepted) (dds : List (List ℕ × Dd)) → checked_dd source s.env.dds word ≡ Ok tt → accepted s.env source role.Dd t ≡ Ok a → dds ≡ s.env.dds ++ (text source word, record { mentions = a.mentions; func = a.func }) ∷ []
      → dd source s word t ≡ Ok (record s { env = record s.env { dds = dds } })
  unfolding dd
  dd_ok a dds p h d = after_ok _ _ _ _ p (after_ok _ _ _ _ h (cc d))

  pub reward_ok : (a : Accepted) → checked_reward s word.start ≡ Ok tt → accepted s.env source role.Reward t ≡ Ok a → reward source s word t ≡ Ok (record s { reward = Some a.func })
  unfolding reward
  reward_ok a p h = after_ok _ _ _ _ p (after_ok _ _ _ _ h refl)

module _ (source : List ℕ) (s : State) (keyword word : Span) where
  module _ (x : Result (Unit {0}) ModelError) (new : State) (e : ModelError) (k : IsErrAnd x (λ q. q ≡ e)) where
    pub discount_err : GivesOrRunsOut (checked_discount s keyword.start) (Err e) → Leaves (discount source s keyword word) x new
    unfolding discount
    discount_err h = exit_leaves _ _ e x new h k

    pub discount_word_err : checked_discount s keyword.start ≡ Ok tt → GivesOrRunsOut (discount_of source word) (Err e) → Leaves (discount source s keyword word) x new
    unfolding discount
    discount_word_err p h = after _ _ _ _ p (exit_leaves _ _ e x new h k)

  pub discount_ok : (g : ℕ) → checked_discount s keyword.start ≡ Ok tt → discount_of source word ≡ Ok g → discount source s keyword word ≡ Ok (record s { discount = Some g })
  unfolding discount
  discount_ok g p h = after_ok _ _ _ _ p (after_ok _ _ _ _ h refl)
