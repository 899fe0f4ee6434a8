-- The rows of a tree in a role, and what is told where there are none.
use Rattle.std.proofs.Common.{◌≡◌, ℕ, List, Ok, Err, refl, sym, subst}
use Rattle.std.specs.Prelude.{Result, IfOk}
use Rattle.sp_syntax.specs.declared.text.Tree.{Tree}
use Rattle.sp_dd.specs.Func.{Func}
use Rattle.sp_trees.specs.declared.refusal.Refusal.{Refusal}
use Rattle.sp_trees.specs.declared.slots.Slots.{Slots}
use Rattle.sp_trees.specs.declared.env.Env.{Env}
use Rattle.sp_trees.specs.declared.judged.Judged.{Judged}
use Rattle.sp_trees.specs.Judged.{refusal}
use Rattle.sp_trees.specs.Judge.{judgement}
use Rattle.sp_trees.specs.Good.{IsGood, IsEnv}
use Rattle.sp_trees.specs.Rows.{IsFirstRefusal}
use Rattle.sp_trees.specs.Told.{func_of, mentions_of, HasMade}
use Rattle.sp_trees.proofs.RowLemmas.{tree_least}
use Rattle.sp_trees.proofs.ToldLemmas.{trees_told}
use Rattle.sp_trees.proofs.HoldLemmas.{tree_holds}
use Rattle.sp_declarations.specs.Rows.{refusal_of}
use Rattle.sp_checks.specs.declared.roles.Role.{Role}
use Rattle.sp_checks.specs.declared.accepted.Accepted.{Accepted}
use Rattle.sp_checks.specs.Roles.{allowed_slots}
use Rattle.sp_checks.specs.Accepted.{accepted, accepted_by}
use Rattle.sp_checks.proofs.TextRows.{RoleRow}

refused_accepted : (m : Slots) (o : Result Func Refusal) → refusal_of (accepted_by m o) ≡ refusal o
refused_accepted m (Ok f) = refl
refused_accepted m (Err r) = refl

pub role_least : (env : Env) (source : List ℕ) (for : Role) (t : Tree) → IsEnv env → IsFirstRefusal (RoleRow env source for t) (refusal_of (accepted env source for t))
unfolding accepted
role_least env source for t e =
    let j = judgement env source (allowed_slots env.scope for) t in
    subst (IsFirstRefusal (RoleRow env source for t)) (sym (refused_accepted j.mentions j.outcome)) (tree_least env source (allowed_slots env.scope for) t e)

-- what was accepted is what the text tells
pub record IsTold (env : Env) (source : List ℕ) (t : Tree) (a : Accepted) : Type 0 where
  pub mentions : a.mentions ≡ mentions_of env source t
  pub func : a.func ≡ func_of env source t
  pub good : IsGood env.scope a.mentions a.func

pub role_told : (env : Env) (source : List ℕ) (for : Role) (t : Tree) (a : Accepted) → IsEnv env → HasMade env → accepted env source for t ≡ Ok a → IsTold env source t a
unfolding accepted
role_told env source for t a e made h = go j.outcome h (trees_told env source (allowed_slots env.scope for) t e made).1 (tree_holds env source (allowed_slots env.scope for) e t).0
  where
    j : Judged
    j = judgement env source (allowed_slots env.scope for) t

    go : (o : Result Func Refusal) → accepted_by j.mentions o ≡ Ok a → IfOk o (λ f. f ≡ func_of env source t) → IfOk o (λ f. IsGood env.scope j.mentions f) → IsTold env source t a
    go (Ok f) q k g =
        subst (IsTold env source t) (let p : record { mentions = j.mentions; func = f } ≡ a = cc in p)
        (record { mentions = (trees_told env source (allowed_slots env.scope for) t e made).0; func = k; good = g })
    go (Err r) q k g = absurd (let p : Err r ≡ Ok a = q in cc)
