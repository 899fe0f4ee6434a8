-- Functions that are listed, or nothing.
use Rattle.std.proofs.Common.{◌≡◌, ◌∙◌, ℕ, ◌<◌, refl, sym, ap, subst, Option, None, Some, IfSome, List, length}
use Rattle.std.specs.Prelude.{MatchOption, slice_get}
use Rattle.std.proofs.lemmas.Option.{get_or_from_slice_get}
use Rattle.sp_dd.specs.Func.{Func}
use Rattle.sp_model.specs.Problem.{shape_of}
use Rattle.sp_value.specs.Editions.{EditionParts, IsEdition, IsVector}
use Rattle.sp_value.proofs.Vectors.{member_at}
use Rattle.sp_backup.specs.declared.values.MemberTable.{MemberTable}
use Rattle.sp_backup.specs.MemberTables.{no_table, IsNothingOr, AreTables, IsMemberTable, AreMemberTables}

pub some-same : {X : Type 0} (x y : X) → Some x ≡ Some y → x ≡ y
some-same x y e = ap (λ o. get o x) e
  where
    get : {X : Type 0} → Option X → X → X
    get None d = d
    get (Some z) d = z

pub none_some : {X : Type 0} (x : X) → None ≡ Some x → ⊥
none_some x e = absurd (cc)

pub nothing_or : (o : Option Func) (N : Type 0) (P : Func → Type 0) (f : Func) → MatchOption o N P → ((g : Func) → P g → g ≡ f) → IsNothingOr o f
nothing_or None N P f is same g e = absurd (none_some g e)
nothing_or (Some h) N P f is same g e = sym (some-same h g e) ∙ same h is

pub if_some : (o : Option Func) (f : Func) → IsNothingOr o f → IfSome o (λ g. g ≡ f)
if_some None f is = tt
if_some (Some g) f is = is g refl

module _ (e : EditionParts) (known : IsEdition e) (tables : List MemberTable) (are : AreMemberTables e (length e.members) tables) where
  pub table_vector : (k : ℕ) → k < length e.members → (x : MemberTable) → slice_get tables k ≡ Some x → IsMemberTable e k x
  table_vector k less x at = subst (IsMemberTable e k) (get_or_from_slice_get tables k x no_table at) (are.each k less)

  pub tables_shaped : AreTables (shape_of e.task.model) tables
  tables_shaped k less =
      let within : k < length e.members = subst (λ (n : ℕ). k < n) are.count less in
      let is = are.each k within in
      record { shape = ap (λ (f : Func). f.shape) is.vector ∙ (member_at e known k within).vector.shape; tabled = is.tabled }

pub table_is_vector : (e : EditionParts) (known : IsEdition e) (k : ℕ) → k < length e.members → (x : MemberTable) → IsMemberTable e k x → IsVector e.task.model x.vector
table_is_vector e known k less x is = subst (IsVector e.task.model) (sym is.vector) (member_at e known k less).vector
