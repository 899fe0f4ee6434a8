-- Trees that aren't refused, and tables.
use Rattle.std.proofs.Common.{◌≡◌, ℕ, List, Ok, Err, refl, sym, ap, ◌∙◌}
use Rattle.std.specs.Prelude.{Result, IsErrAnd}
use Rattle.sp_dd.specs.Func.{Func}
use Rattle.sp_syntax.specs.declared.text.Tree.{Tree}
use Rattle.sp_rows.specs.declared.tables.Table.{Table}
use Rattle.sp_trees.specs.declared.refusal.Refusal.{Refusal}
use Rattle.sp_trees.specs.declared.slots.Slots.{Slots}
use Rattle.sp_trees.specs.declared.env.Env.{Env}
use Rattle.sp_trees.specs.declared.judged.Judged.{Judged}
use Rattle.sp_trees.specs.Judge.{judgement}
use Rattle.sp_declarations.specs.declared.error.ModelError.{ModelError}
use Rattle.sp_declarations.specs.Steps.{GivesOrRunsOut}
use Rattle.sp_declarations.proofs.StepLemmas.{after, after_ok, exit_gives}
use Rattle.sp_checks.specs.declared.roles.Role.{Role}
use Rattle.sp_checks.specs.declared.roles.Role.TheVariants as role_of
use Rattle.sp_checks.specs.declared.accepted.Accepted.{Accepted}
use Rattle.sp_checks.specs.Roles.{start_of, allowed_slots}
use Rattle.sp_checks.specs.Accepted.{accepted_by, accepted, checked_table, table_of}

module _ (env : Env) (source : List ℕ) (role : Role) (tree : Tree) (a : Slots) (m : Slots) (o : Result Func Refusal) (e : a ≡ allowed_slots env.scope role) (j : record { mentions = m; outcome = o } ≡ judgement env source a tree) where
  pub accepted_is : (f : Func) → o ≡ Ok f → accepted env source role tree ≡ Ok (record { mentions = m; func = f })
  unfolding accepted
  accepted_is f k = sym (ap (λ (j : Judged). accepted_by j.mentions j.outcome) (j ∙ ap (λ a. judgement env source a tree) e)) ∙ ap (accepted_by m) k

  pub accepted_not : (r : Refusal) → o ≡ Err r → accepted env source role tree ≡ Err r
  unfolding accepted
  accepted_not r k = sym (ap (λ (j : Judged). accepted_by j.mentions j.outcome) (j ∙ ap (λ a. judgement env source a tree) e)) ∙ ap (accepted_by m) k

module _ (env : Env) (source : List ℕ) (action : ℕ) (t : Table) (tree : Tree) where
  module _ (x : Result Func ModelError) (e : ModelError) (k : IsErrAnd x (λ q. q ≡ e)) where
    pub accepted_err : GivesOrRunsOut (accepted env source (role_of.Table t) tree) (Err e) → GivesOrRunsOut (table_of env source action t tree) x
    unfolding table_of
    accepted_err h = exit_gives _ _ e x h k

    pub table_err : (a : Accepted) → accepted env source (role_of.Table t) tree ≡ Ok a → GivesOrRunsOut (checked_table env.scope.variables action t (start_of tree) a.func) (Err e) → GivesOrRunsOut (table_of env source action t tree) x
    unfolding table_of
    table_err a p h = after _ _ _ _ p (exit_gives _ _ e x h k)

  pub table_ok : (a : Accepted) → accepted env source (role_of.Table t) tree ≡ Ok a → checked_table env.scope.variables action t (start_of tree) a.func ≡ Ok tt → table_of env source action t tree ≡ Ok a.func
  unfolding table_of
  table_ok a p h = after_ok _ _ _ _ p (after_ok _ _ _ _ h refl)
