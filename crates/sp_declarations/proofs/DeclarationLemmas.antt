-- One more declaration.
use Rattle.std.proofs.Common.{◌≡◌, ℕ, ◌*◌, List, [], ◌∷◌, ◌++◌, Ok, Err, length, refl}
use Rattle.std.specs.Prelude.{Result, IsErrAnd}
use Rattle.sp_syntax.specs.declared.text.Declaration.{Declaration}
use Rattle.sp_syntax.specs.declared.text.Text.{Text}
use Rattle.sp_model.specs.declared.parts.Decl.{Decl}
use Rattle.sp_names.specs.Names.{with_name}
use Rattle.sp_trees.specs.Words.{text}
use Rattle.sp_declarations.specs.declared.error.ModelError.{ModelError}
use Rattle.sp_declarations.specs.declared.declarations.Limits.{Limits}
use Rattle.sp_declarations.specs.declared.declarations.Read.{Read}
use Rattle.sp_declarations.specs.declared.declarations.Declared.{Declared}
use Rattle.sp_declarations.specs.Steps.{unless_refused, GivesOrRunsOut, Leaves}
use Rattle.sp_declarations.specs.Declarations.{limit_refusal, name_refusal, decl_of, declaration, declarations, declarations_of, variable_limits, sight_limits}
use Rattle.sp_declarations.proofs.StepLemmas.{after, after_ok, exit_leaves, exit_gives}

module _ (source : List ℕ) (l : Limits) (r : Read) (d : Declaration) where
  module _ (x : Result (Unit {0}) ModelError) (new : Read) (e : ModelError) (k : IsErrAnd x (λ q. q ≡ e)) where
    pub limits_err : GivesOrRunsOut (unless_refused (limit_refusal l r d)) (Err e) → Leaves (declaration source l r d) x new
    unfolding declaration
    limits_err h = exit_leaves _ _ e x new h k

    pub name_err : unless_refused (limit_refusal l r d) ≡ Ok tt → GivesOrRunsOut (unless_refused (name_refusal source r.names d)) (Err e) → Leaves (declaration source l r d) x new
    unfolding declaration
    name_err a h = after _ _ _ _ a (exit_leaves _ _ e x new h k)

    pub values_err : unless_refused (limit_refusal l r d) ≡ Ok tt → unless_refused (name_refusal source r.names d) ≡ Ok tt → GivesOrRunsOut (decl_of source d) (Err e) → Leaves (declaration source l r d) x new
    unfolding declaration
    values_err a b h = after _ _ _ _ a (after _ _ _ _ b (exit_leaves _ _ e x new h k))

  pub declaration_ok : (decl : Decl) (names : List (List ℕ)) (decls : List Decl) (points : ℕ) → unless_refused (limit_refusal l r d) ≡ Ok tt → unless_refused (name_refusal source r.names d) ≡ Ok tt → decl_of source d ≡ Ok decl
      → names ≡ with_name r.names (text source d.name) → decls ≡ r.decls ++ decl ∷ [] → points ≡ r.points * length d.values → declaration source l r d ≡ Ok (record { names = names; decls = decls; points = points })
  unfolding declaration
  declaration_ok decl names decls points a b c e f g = after_ok _ _ _ _ a (after_ok _ _ _ _ b (after_ok _ _ _ _ c (cc (e, f, g))))

module _ (source : List ℕ) (t : Text) where
  pub variables_err : (x : Result Declared ModelError) (e : ModelError) → IsErrAnd x (λ q. q ≡ e) → GivesOrRunsOut (declarations source variable_limits [] t.variables.declarations) (Err e) → GivesOrRunsOut (declarations_of source t) x
  unfolding declarations_of
  variables_err x e k h = exit_gives _ _ e x h k

  pub sights_err : (x : Result Declared ModelError) (e : ModelError) (v : Read) → IsErrAnd x (λ q. q ≡ e) → declarations source variable_limits [] t.variables.declarations ≡ Ok v
      → GivesOrRunsOut (declarations source sight_limits v.names t.observations.declarations) (Err e) → GivesOrRunsOut (declarations_of source t) x
  unfolding declarations_of
  sights_err x e v k a h = after _ _ _ _ a (exit_gives _ _ e x h k)

  pub declarations_ok : (v s : Read) → declarations source variable_limits [] t.variables.declarations ≡ Ok v → declarations source sight_limits v.names t.observations.declarations ≡ Ok s
      → declarations_of source t ≡ Ok (record { variables = v.decls; sights = s.decls })
  unfolding declarations_of
  declarations_ok v s a b = after_ok _ _ _ _ a (after_ok _ _ _ _ b refl)
