-- What holds of trees that are accepted, and of tables.
use Rattle.std.proofs.Common.{◌≡◌, ◌≢◌, ℕ, ◌+◌, ◌*◌, ◌%◌, ◌^◌, ◌<◌, ◌≤◌, ◌==◌, Bool, true, false, List, ◌++◌, Ok, Err, refl, sym, ap, ap₂, subst, ◌∙◌, arith, length}
use Rattle.std.specs.Prelude.{Result, Option, Some, None, IfOk, ◌&&◌, nat_lt, nat_le}
use Rattle.std.proofs.lemmas.Bool.Decides.{nat_tests}
use Rattle.sp_dd.specs.Func.{Shape, Func, IsScope, IsIndependentOf}
use Rattle.sp_dd.specs.Operations.{IsRow}
use Rattle.sp_syntax.specs.declared.text.Tree.{Tree}
use Rattle.sp_model.specs.Kept.{IsTransitionTable, IsSight}
use Rattle.sp_model.specs.Problem.{sizes_of, twice_each}
use Rattle.sp_model.proofs.RowLaw.{some_sizes}
use Rattle.sp_model.proofs.SlotPoints.{length-doubled}
use Rattle.sp_model.proofs.Counts.{length-sizes_of}
use Rattle.sp_rows.specs.declared.tables.Table.{Table}
use Rattle.sp_rows.specs.declared.tables.Table.TheVariants as table
use Rattle.sp_rows.specs.declared.tables.BadRow.{BadRow}
use Rattle.sp_dd.specs.Points.{product}
use Rattle.sp_rows.specs.Tables.{slot_of, is_probability, bad_row, row_widths, widths_from, numbers_rows}
use Rattle.sp_rows.proofs.LawLemmas.{probability_of, rows_whole, few_rows}
use Rattle.sp_trees.specs.declared.refusal.Refusal.{Refusal}
use Rattle.sp_trees.specs.declared.slots.Slots.{Slots}
use Rattle.sp_trees.specs.Slots.{is_among}
use Rattle.sp_trees.specs.declared.env.Env.{Env}
use Rattle.sp_trees.specs.Judge.{judgement}
use Rattle.sp_trees.specs.Good.{IsEnv, IsGood}
use Rattle.sp_trees.proofs.HoldLemmas.{tree_holds}
use Rattle.sp_declarations.proofs.StepLemmas.{stood, nothing_refused}
use Rattle.sp_checks.specs.declared.roles.Role.{Role}
use Rattle.sp_checks.specs.declared.roles.Role.TheVariants as role_of
use Rattle.sp_checks.specs.declared.accepted.Accepted.{Accepted}
use Rattle.sp_checks.specs.Roles.{allowed_slots, may_mention, move_mentions, sight_mentions, IsSmallRole}
use Rattle.sp_checks.specs.Accepted.{accepted_by, accepted, row_refusal, table_refusal_by, table_refusal, table_of, variable_number}
use Rattle.sp_checks.specs.Kept.{IsFitEnv, IsTableOf, IsRewardFunction}
use Rattle.sp_checks.proofs.RoleLemmas.{not_mentioned}

-- ---- accepted trees
module _ (env : Env) (source : List ℕ) (role : Role) (t : Tree) (a : Accepted) (e : IsEnv env) (h : accepted env source role t ≡ Ok a) where
  pub accepted_kept : IsGood env.scope a.mentions a.func × (is_among a.mentions (allowed_slots env.scope role) ≡ true)
  unfolding accepted
  accepted_kept = let holds = tree_holds env source (allowed_slots env.scope role) e t in go (judgement env source (allowed_slots env.scope role) t).mentions (judgement env source (allowed_slots env.scope role) t).outcome holds.0 holds.1 h
    where
      go : (m : Slots) (o : Result Func Refusal) → IfOk o (λ f. IsGood env.scope m f) → IfOk o (λ f. is_among m (allowed_slots env.scope role) ≡ true) → accepted_by m o ≡ Ok a
          → IsGood env.scope a.mentions a.func × (is_among a.mentions (allowed_slots env.scope role) ≡ true)
      go m (Ok f) good among k =
          let same : record { mentions = m; func = f } ≡ a = cc in
          subst (λ (a : Accepted). IsGood env.scope a.mentions a.func × (is_among a.mentions (allowed_slots env.scope role) ≡ true)) same (good, among)
      go m (Err r) good among k = cc

  pub accepted_free : (slot : ℕ) → slot < length env.scope.sizes → may_mention env.scope.variables role slot ≡ false → IsIndependentOf a.func slot
  accepted_free slot l n = accepted_kept.0.free slot l (not_mentioned (may_mention env.scope.variables role) (length env.scope.sizes) slot a.mentions accepted_kept.1 n)

-- ---- what each role doesn't mention
behind : (n j : ℕ) → nat_lt (2 * n + j) (2 * n) ≡ false
behind n j = grind (arith, nat_tests)

odd : (k : ℕ) → (2 * k + 1) % 2 ≡ 1
odd k = omega arith

even : (k : ℕ) → (2 * k) % 2 ≡ 0
even k = omega arith

not_below : (a b : ℕ) → b < a → nat_le a b ≡ false
not_below a b h = grind (arith, nat_tests)

apart : (a b : ℕ) → a ≢ b → (a == b) ≡ false
apart a b h = grind (arith, nat_tests)

all_false : (a : Bool) → (a && false) ≡ false
all_false true = refl
all_false false = refl

pub reward_unseen : (n j : ℕ) → may_mention n role_of.Reward (2 * n + j) ≡ false
reward_unseen n j = behind n j

pub init_unprimed : (n i : ℕ) → may_mention n role_of.Init (2 * i + 1) ≡ false
init_unprimed n i = rw (odd i) (all_false (nat_lt (2 * i + 1) (2 * n)))

pub init_unseen : (n j : ℕ) → may_mention n role_of.Init (2 * n + j) ≡ false
init_unseen n j = rw (behind n j) refl

pub move_not_later : (n i k : ℕ) → i < k → move_mentions n i (2 * k + 1) ≡ false
move_not_later n i k h = let l : 2 * i + 1 < 2 * k + 1 = omega arith in rw (odd k, not_below (2 * k + 1) (2 * i + 1) l) (all_false (nat_lt (2 * k + 1) (2 * n)))

pub move_unseen : (n i j : ℕ) → move_mentions n i (2 * n + j) ≡ false
move_unseen n i j = rw (behind n j) refl

pub sight_not_unprimed : (n j i : ℕ) → i < n → sight_mentions n j (2 * i) ≡ false
sight_not_unprimed n j i h = rw (even i, all_false (nat_lt (2 * i) (2 * n))) (apart (2 * i) (2 * n + j) (omega arith))

pub sight_not_others : (n j k : ℕ) → k ≢ j → sight_mentions n j (2 * n + k) ≡ false
sight_not_others n j k h = rw (behind n k) (apart (2 * n + k) (2 * n + j) (omega arith))

-- ---- tables
pub record AreRows (f : Func) (t : Table) : Type 0 where
  pub probability : is_probability f ≡ true
  pub whole : bad_row f t ≡ None

rows_of : (n action : ℕ) (t : Table) (at : ℕ) (f : Func) → table_refusal n action t at f ≡ None → AreRows f t
unfolding table_refusal
rows_of n action t at f h = go (is_probability f) refl (bad_row f t) refl h
  where
    go : (b : Bool) → is_probability f ≡ b → (o : Option BadRow) → bad_row f t ≡ o → table_refusal_by n action t at f b ≡ None → AreRows f t
    go true e o k h = last o k h
      where
        last : (o : Option BadRow) → bad_row f t ≡ o → row_refusal n action t at (bad_row f t) ≡ None → AreRows f t
        last None k h = record { probability = e; whole = k }
        last (Some bad) k h = cc (ap (row_refusal n action t at) k)
    go false e o k h = cc

pub record IsKeptTable (env : Env) (source : List ℕ) (t : Table) (tree : Tree) (f : Func) : Type 0 where
  pub from : Accepted
  pub was : accepted env source (role_of.Table t) tree ≡ Ok from
  pub is : from.func ≡ f
  pub rows : AreRows f t

pub kept_table : (env : Env) (source : List ℕ) (action : ℕ) (t : Table) (tree : Tree) (f : Func) → table_of env source action t tree ≡ Ok f → IsKeptTable env source t tree f
unfolding table_of
kept_table env source action t tree f h =
    let a = stood _ _ _ h in
    let b = stood _ _ _ a.then in
    let same : a.value.func ≡ f = cc (b.then) in
    record { from = a.value; was = a.was; is = same; rows = subst (λ (g : Func). AreRows g t) same (rows_of _ action t _ a.value.func (nothing_refused _ b.value b.was)) }

seen_at : (env : Env) → IsFitEnv env → (j : ℕ) → j < length env.sights → 2 * env.scope.variables + j < length env.scope.sizes
seen_at env fit j l =
    let long : length env.scope.sizes ≡ 2 * length env.variables + length env.sights =
    ap (λ (s : Shape). length s.sizes) fit.env_kept.shape ∙ length-doubled (sizes_of env.variables) (sizes_of env.sights) ∙ ap₂ (λ a b. 2 * a + b) (length-sizes_of env.variables) (length-sizes_of env.sights) in
    let count : env.scope.variables ≡ length env.variables = ap (λ (s : Shape). s.variables) fit.env_kept.shape in omega arith

module _ (env : Env) (source : List ℕ) (action : ℕ) (tree : Tree) (f : Func) (fit : IsFitEnv env) where
  scope_count : env.scope.variables ≡ length env.variables
  scope_count = ap (λ (s : Shape). s.variables) fit.env_kept.shape

  seen_within : (j : ℕ) → j < length env.sights → 2 * env.scope.variables + j < length env.scope.sizes
  seen_within j l = seen_at env fit j l

  pub table_move : (i : ℕ) → i < length env.variables → table_of env source action (table.Move i) tree ≡ Ok f → IsTransitionTable env.scope i f
  table_move i l h =
      let k = kept_table env source action (table.Move i) tree f h in
      let good = (accepted_kept env source (role_of.Table (table.Move i)) tree k.from fit.env_kept k.was).0 in
      let shape : f.shape ≡ env.scope = ap (λ (g : Func). g.shape) (sym k.is) ∙ good.fit.shape in
      let free = λ (slot : ℕ) (w : slot < length env.scope.sizes) (e : move_mentions env.scope.variables i slot ≡ false).
      subst (λ (g : Func). IsIndependentOf g slot) k.is (accepted_free env source (role_of.Table (table.Move i)) tree k.from fit.env_kept k.was slot w e) in
      let scope : IsScope f.shape = subst IsScope (sym shape) fit.env_kept.scope in
      let paired = fit.env_kept.scope.paired in
      let count = scope_count in
      let within : 2 * i + 1 < length env.scope.sizes = omega arith in
      let inside : 2 * i + 1 < length f.shape.sizes = subst (λ (s : Shape). 2 * i + 1 < length s.sizes) (sym shape) within in
      record {
        shape = shape;
        probability = probability_of f scope k.rows.probability;
        row = rows_whole f (table.Move i) scope inside k.rows.probability k.rows.whole;
        not_later = λ m b c. free (2 * m + 1) (omega arith) (move_not_later env.scope.variables i m b);
        not_seen = λ j b. free (2 * env.scope.variables + j) b (move_unseen env.scope.variables i j);
      }

  pub table_sight : (j : ℕ) → j < length env.sights → table_of env source action (table.Sight j) tree ≡ Ok f → IsSight env.scope j f
  table_sight j l h =
      let k = kept_table env source action (table.Sight j) tree f h in
      let good = (accepted_kept env source (role_of.Table (table.Sight j)) tree k.from fit.env_kept k.was).0 in
      let shape : f.shape ≡ env.scope = ap (λ (g : Func). g.shape) (sym k.is) ∙ good.fit.shape in
      let free = λ (slot : ℕ) (w : slot < length env.scope.sizes) (e : sight_mentions env.scope.variables j slot ≡ false).
      subst (λ (g : Func). IsIndependentOf g slot) k.is (accepted_free env source (role_of.Table (table.Sight j)) tree k.from fit.env_kept k.was slot w e) in
      let scope : IsScope f.shape = subst IsScope (sym shape) fit.env_kept.scope in
      let paired = fit.env_kept.scope.paired in
      let within : 2 * env.scope.variables + j < length env.scope.sizes = seen_within j l in
      let inside : 2 * f.shape.variables + j < length f.shape.sizes = subst (λ (s : Shape). 2 * s.variables + j < length s.sizes) (sym shape) within in
      record {
        shape = shape;
        probability = probability_of f scope k.rows.probability;
        row = subst (λ (s : Shape). IsRow f (2 * s.variables + j)) shape (rows_whole f (table.Sight j) scope inside k.rows.probability k.rows.whole);
        not_unprimed = λ i b. free (2 * i) (omega arith) (sight_not_unprimed env.scope.variables j i b);
        not_others = λ m a b. free (2 * env.scope.variables + m) b (sight_not_others env.scope.variables j m a);
      }

-- a reward or a cost
pub worth_kept : (env : Env) (source : List ℕ) (t : Tree) (a : Accepted) → IsEnv env → accepted env source role_of.Reward t ≡ Ok a → IsRewardFunction env.scope a.func
worth_kept env source t a e h = record {
  fit = (accepted_kept env source role_of.Reward t a e h).0.fit;
  not_seen = λ j b. accepted_free env source role_of.Reward t a e h (2 * env.scope.variables + j) b (reward_unseen env.scope.variables j);
}

-- ---- what judging a table asks
pub table_slot : (env : Env) (t : Table) (f : Func) → IsFitEnv env → IsTableOf env t → f.shape ≡ env.scope → slot_of f.shape.variables t < length f.shape.sizes
table_slot env (table.Move i) f fit h e =
    let paired = fit.env_kept.scope.paired in
    let count : env.scope.variables ≡ length env.variables = ap (λ (s : Shape). s.variables) fit.env_kept.shape in
    subst (λ (s : Shape). 2 * i + 1 < length s.sizes) (sym e) (let low : 2 * i + 1 < length env.scope.sizes = omega arith in low)
table_slot env (table.Sight j) f fit h e = subst (λ (s : Shape). 2 * s.variables + j < length s.sizes) (sym e) (seen_at env fit j h)

pub table_few : (env : Env) (t : Table) (f : Func) → IsFitEnv env → f.shape ≡ env.scope → product (row_widths f.shape t) ≤ 2 ^ 48
table_few env t f fit e =
    subst (λ (s : Shape). product (row_widths s t) ≤ 2 ^ 48) (sym (e ∙ fit.env_kept.shape))
    (subst (λ (n : ℕ). product (widths_from (numbers_rows n t) 0 (twice_each (sizes_of env.variables) ++ sizes_of env.sights)) ≤ 2 ^ 48) (length-sizes_of env.variables)
    (few_rows (sizes_of env.variables) (sizes_of env.sights) t (some_sizes env.variables fit.declared.variables_kept) fit.declared.few_states))

pub table_number : (env : Env) (t : Table) (n : ℕ) → IsFitEnv env → IsTableOf env t → n ≡ env.scope.variables → variable_number n t ≤ 64
table_number env (table.Move i) n fit h e = let few = fit.declared.few_variables in omega arith
table_number env (table.Sight j) n fit h e =
    let few = fit.declared.few_variables in let less = fit.declared.few_sights in
    let count : env.scope.variables ≡ length env.variables = ap (λ (s : Shape). s.variables) fit.env_kept.shape in omega arith

pub table_role : (env : Env) (t : Table) → IsFitEnv env → IsTableOf env t → IsSmallRole (role_of.Table t)
table_role env (table.Move i) fit h = let few = fit.declared.few_variables in omega arith
table_role env (table.Sight j) fit h = let few = fit.declared.few_sights in omega arith

pub few_variables : (env : Env) (n : ℕ) → IsFitEnv env → n ≡ env.scope.variables → n ≤ 28
few_variables env n fit e = let few = fit.declared.few_variables in let count : env.scope.variables ≡ length env.variables = ap (λ (s : Shape). s.variables) fit.env_kept.shape in omega arith
