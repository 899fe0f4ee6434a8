-- The rows of a table of an action: those of its tree, and those of its values where none of those holds.
use Rattle.std.proofs.Common.{◌≡◌, ℕ, ◌&&◌, Bool, true, false, List, Option, Some, None, Ok, Err, refl, sym, ap, ◌∙◌, subst, arith, inl, inr}
use Rattle.std.specs.Prelude.{◌⊎◌, ℤ, pos, int_le, ◌≤ℤ◌, Result}
use Rattle.std.proofs.lemmas.Int.{ints}
use Rattle.std.proofs.lemmas.Bool.{false≢true}
use Rattle.sp_syntax.specs.declared.text.Tree.{Tree}
use Rattle.sp_dd.specs.Floors.{ticks}
use Rattle.sp_dd.specs.Func.{Func, IsScope, value_of}
use Rattle.sp_rows.specs.declared.tables.Table.{Table}
use Rattle.sp_rows.specs.declared.tables.BadRow.{BadRow}
use Rattle.sp_rows.specs.Tables.{is_within, is_probability, bad_row}
use Rattle.sp_rows.proofs.LawLemmas.{within_of}
use Rattle.sp_trees.specs.declared.refusal.Refusal.{Refusal}
use Rattle.sp_trees.specs.declared.refusal.ModelKind.TheVariants as kind
use Rattle.sp_trees.specs.declared.env.Env.{Env}
use Rattle.sp_trees.specs.Conditions.{HasOutside}
use Rattle.sp_trees.specs.Good.{IsEnv}
use Rattle.sp_trees.specs.Rows.{IsFirstRefusal}
use Rattle.sp_trees.specs.Told.{func_of, HasMade}
use Rattle.sp_trees.proofs.PartialLemmas.{some_not}
use Rattle.sp_trees.proofs.LeastLemmas.{least_same, least_only}
use Rattle.sp_declarations.specs.Steps.{◌>>=◌}
use Rattle.sp_declarations.specs.Rows.{refusal_of}
use Rattle.sp_declarations.proofs.StepLemmas.{stood}
use Rattle.sp_declarations.proofs.ChainLemmas.{refused_ok, refused_unless}
use Rattle.sp_checks.specs.declared.roles.Role.TheVariants as role
use Rattle.sp_checks.specs.Roles.{start_of}
use Rattle.sp_checks.specs.Accepted.{accepted, variable_number, row_refusal, table_refusal_by, table_refusal, checked_table, table_of}
use Rattle.sp_checks.proofs.TextRows.{RoleRow, TableValueRow, TableRow}
use Rattle.sp_checks.proofs.RoleRowLemmas.{role_least, role_told}

-- rows that count only where none of others holds
pub least_guarded : {A B : Type 0} (R V : Refusal → Type 0) (x : Result A Refusal) (f : A → Result B Refusal) → IsFirstRefusal R (refusal_of x) → ((a : A) → x ≡ Ok a → IsFirstRefusal V (refusal_of (f a)))
    → IsFirstRefusal (λ r. R r ⊎ (((q : Refusal) → ¬ R q) × V r)) (refusal_of (x >>= f))
least_guarded R V (Ok a) f h k = least_same V _ (refusal_of (f a)) (λ r v. inr (h, v)) (λ r c. elim c [ inl q ↦ absurd (h r q) | inr p ↦ p.1 ]) (k a refl)
least_guarded R V (Err e) f h k = (inl h.0, λ r c. elim c [ inl q ↦ h.1 r q | inr p ↦ absurd (p.0 e h.0) ])

pub outside_of : (low high : ℤ) (f : Func) → IsScope f.shape → is_within low high f ≡ false → HasOutside low high f
outside_of low high f c e =
    let found = some_not (λ v. int_le low v && int_le v high) f c e in
    record { point = found.0; inside = found.1; outside = λ p. false≢true (sym found.2 ∙ both (value_of f found.0) p.0 p.1) }
  where
    both : (v : ℤ) → low ≤ℤ v → v ≤ℤ high → (int_le low v && int_le v high) ≡ true
    both v a b = grind (arith, ints)

pub not_outside : (low high : ℤ) (f : Func) → IsScope f.shape → is_within low high f ≡ true → ¬ HasOutside low high f
not_outside low high f c e h = h.outside (within_of low high f c e h.point h.inside)

values_least : (n action : ℕ) (t : Table) (at : ℕ) (f : Func) → IsScope f.shape → IsFirstRefusal (TableValueRow n action t at f) (table_refusal n action t at f)
unfolding table_refusal
values_least n action t at f c = go (is_probability f) refl
  where
    rows : ¬ HasOutside (pos 0) (pos ticks) f → (o : Option BadRow) → bad_row f t ≡ o → IsFirstRefusal (TableValueRow n action t at f) (row_refusal n action t at o)
    rows fits None e = λ r h. elim h [ inl p ↦ fits p.0 | inr p ↦ apart p.1.0 (bad_row f t) e p.1.1 ]
      where
        apart : (b : BadRow) (o : Option BadRow) → o ≡ None → o ≡ Some b → ⊥
        apart b o q k = cc
    rows fits (Some bad) e =
        least_only (TableValueRow n action t at f) (record { at = at; kind = kind.RowSum action (variable_number n t) bad.row bad.sum }) (inr (fits, (bad, e, refl)))
        (λ r h. elim h [
          | inl p ↦ absurd (fits p.0)
          | inr p ↦ p.1.2 ∙ ap (λ (b : BadRow). record { at = at; kind = kind.RowSum action (variable_number n t) b.row b.sum }) (sym (same bad p.1.0 (bad_row f t) e p.1.1))
        ])
      where
        same : (a b : BadRow) (o : Option BadRow) → o ≡ Some a → o ≡ Some b → a ≡ b
        same a b o q k = cc

    go : (b : Bool) → is_probability f ≡ b → IsFirstRefusal (TableValueRow n action t at f) (table_refusal_by n action t at f b)
    go true e = rows (not_outside (pos 0) (pos ticks) f c e) (bad_row f t) refl
    go false e =
        least_only (TableValueRow n action t at f) (record { at = at; kind = kind.BadProbability }) (inl (outside_of (pos 0) (pos ticks) f c e, refl)) (λ r h. elim h [ inl p ↦ p.1 | inr p ↦ absurd (p.0 (outside_of (pos 0) (pos ticks) f c e)) ])

-- reading a table answers its first row
pub table_least : (env : Env) (source : List ℕ) (action : ℕ) (t : Table) (tree : Tree) → IsEnv env → HasMade env → IsFirstRefusal (TableRow env source action t tree) (refusal_of (table_of env source action t tree))
unfolding table_of
table_least env source action t tree e made =
    let n = env.scope.variables in
    let at = start_of tree in
    least_guarded (RoleRow env source (role.Table t) tree) (TableValueRow n action t at (func_of env source tree)) (accepted env source (role.Table t) tree) _ (role_least env source (role.Table t) tree e)
    (λ a q. let told = role_told env source (role.Table t) tree a e made q in
    subst (IsFirstRefusal (TableValueRow n action t at (func_of env source tree))) (sym (refused_ok (checked_table n action t at a.func) (λ _. a.func) ∙ refused_unless (table_refusal n action t at a.func) ∙ ap (table_refusal n action t at) told.func))
    (values_least n action t at (func_of env source tree) e.scope))

-- the function of a table is that of its tree
pub table_told : (env : Env) (source : List ℕ) (action : ℕ) (t : Table) (tree : Tree) (f : Func) → IsEnv env → HasMade env → table_of env source action t tree ≡ Ok f → f ≡ func_of env source tree
unfolding table_of
table_told env source action t tree f e made h =
    let a = stood (accepted env source (role.Table t) tree) (λ a. checked_table env.scope.variables action t (start_of tree) a.func >>= λ _. Ok a.func) f h in
    let b = stood (checked_table env.scope.variables action t (start_of tree) a.value.func) (λ _. Ok a.value.func) f a.then in
    sym (let q : a.value.func ≡ f = cc (b.then) in q) ∙ (role_told env source (role.Table t) tree a.value e made a.was).func
