-- What is read of an account while a settle is judged or prepared.
use Rattle.std.proofs.Common.{◌≡◌, ◌∙◌, sym, ap, subst, arith, ℕ, ◌-◌, ◌<◌, List, [], length, map, get_or, Bool, true, false, cond, Some}
use Rattle.std.specs.Prelude.{ℤ, pos, int_lt, slice_get}
use Rattle.std.proofs.lemmas.List.{get_or-map, length-map}
use Rattle.std.proofs.lemmas.Option.{slice_get-get_or}
use Rattle.sp_dd.specs.Func.{Func}
use Rattle.sp_theory.specs.Values as theory
use Rattle.sp_theory.specs.Book.{Book}
use Rattle.sp_theory.proofs.Pruning.{get_or_any}
use Rattle.sp_model.specs.Problem.{problem, vector_of}
use Rattle.sp_value.specs.declared.editions.Member.{Member}
use Rattle.sp_value.specs.Tasks.{TaskParts, task_of, weights_at}
use Rattle.sp_value.specs.Editions.{EditionParts, member_of, members_in}
use Rattle.sp_ledger.specs.declared.flags.Choice.{Choice}
use Rattle.sp_ledger.specs.declared.flags.Choice.TheVariants.{Neither, New, Old}
use Rattle.sp_ledger.specs.Accounts.{Account, IsAccount, raised_at, by_account, last_of}
use Rattle.sp_ledger.specs.Opening.{AreNumbered}

-- flags that are up for some lists are up for equal lists
pub up_same : (imp imp' : List Bool) (ws ws' ls ls' : List ℤ) → imp ≡ imp' → ws ≡ ws' → ls ≡ ls'
    → ((k : ℕ) → k < length imp → raised_at ws ls imp k ≡ true) → (k : ℕ) → k < length imp' → raised_at ws' ls' imp' k ≡ true
up_same imp imp' ws ws' ls ls' e1 e2 e3 up k less = (λ i. raised_at (sym e2 i) (sym e3 i) (sym e1 i) k) ∙ up k (subst (λ (xs : List Bool). k < length xs) (sym e1) less)

-- an item of a list, as it was read
pub read_at : {X Y : Type 0} (f : X → Y) (items : List X) (n : ℕ) (a : X) (e : Y) → n < length items → a ≡ get_or items n a → e ≡ f a → e ≡ get_or (map f items) n e
read_at f items n a e less is same = same ∙ ap f is ∙ sym (get_or-map f items n a e less)

-- the last item of a list, as it was read
pub read_last : {X Y : Type 0} (f : X → Y) (items : List X) (n : ℕ) (a : X) (e : Y) → n ≡ length items → 0 < length (map f items) → a ≡ get_or items (n - 1) a → e ≡ f a → e ≡ get_or (map f items) (length (map f items) - 1) e
read_last {X} f items n a e count some is same =
    let long = length-map items f in
    let at : n - 1 ≡ length (map f items) - 1 = omega (arith, count, long) in
    same ∙ ap f (is ∙ ap (λ (i : ℕ). get_or items i a) at) ∙ sym (get_or-map f items (length (map f items) - 1) a e (omega (arith, some, long)))

module _ (t : TaskParts) (es : List EditionParts) (numbered : AreNumbered t es) where
  -- an edition that was read is of the task, has its place as its number, and is found by it
  pub read_edition : (n : ℕ) (e : EditionParts) → n < length es → e ≡ get_or es n e → (e.task ≡ t) × (e.number ≡ n) × (slice_get es e.number ≡ Some e)
  read_edition n e less is =
      let known = numbered n e less in
      let number = ap (λ (x : EditionParts). x.number) is ∙ known.0 in (
        ap (λ (x : EditionParts). x.task) is ∙ known.1,
        number,
        ap (λ (k : ℕ). slice_get es k) number ∙ slice_get-get_or es n e less ∙ ap Some (sym is),
      )

  -- the latest edition, as it was read
  module _ (some : 0 < length es) (e : EditionParts) (is : e ≡ get_or es (length es - 1) e) where
    pub latest_task : e.task ≡ t
    latest_task = ap (λ (x : EditionParts). x.task) is ∙ (numbered (length es - 1) e (omega (arith, some))).1

    pub latest_members : members_in e ≡ last_of (map members_in es)
    latest_members =
        ap members_in is ∙ sym (get_or-map members_in es (length es - 1) e [] (omega (arith, some)))
        ∙ ap (λ (n : ℕ). get_or (map members_in es) (n - 1) []) (sym (length-map es members_in))

    pub greatest_is : (k b : ℕ) (x : Member) → b ≡ k → member_of e.task.model x ≡ theory.greatest_member (problem e.task.model) (members_in e) (weights_at e.task b)
        → member_of t.model x ≡ theory.greatest_member (problem t.model) (last_of (map members_in es)) (weights_at t k)
    greatest_is k b x at greatest =
        subst (λ (u : TaskParts). member_of u.model x ≡ theory.greatest_member (problem u.model) (last_of (map members_in es)) (weights_at u k)) latest_task
        (subst (λ (ed : theory.Edition). member_of e.task.model x ≡ theory.greatest_member (problem e.task.model) ed (weights_at e.task k)) latest_members
        (subst (λ (n : ℕ). member_of e.task.model x ≡ theory.greatest_member (problem e.task.model) (members_in e) (weights_at e.task n)) at greatest))

-- what is chosen by the values that were read
module _ (t : TaskParts) (b : Book) (f : Account) (account : IsAccount (task_of t) b f) (belief : ℕ) (within : belief < t.options.beliefs) (vector : Func) where
  pub chosen_is : (k : ℕ) → k ≡ belief → (r : Bool) (latest grown worth zl zg zw : ℤ) → r ≡ get_or f.improved k r → latest ≡ get_or f.latest_values k latest → grown ≡ get_or f.grown_values k grown
      → zl ≡ latest → zg ≡ grown → zw ≡ worth
      → (u : TaskParts) (j : ℕ) (v : Func) → u ≡ t → j ≡ belief → v ≡ vector → worth ≡ theory.dot (problem u.model) (weights_at u j) (vector_of u.model v)
      → (result choice : Choice) → result ≡ cond r (cond (int_lt zg zw) New Neither) (cond (int_lt zw zl) Old New) → result ≡ choice
      → by_account f belief (theory.dot (problem t.model) (weights_at t belief) (vector_of t.model vector)) Neither New Old ≡ choice
  chosen_is k at r latest grown worth zl zg zw is_r is_latest is_grown el eg ew u j v eu ej ev is_worth result choice is_result is_choice =
      let here : k < t.options.beliefs = subst (λ (n : ℕ). n < t.options.beliefs) (sym at) within in
      let flag = is_r ∙ get_or_any f.improved k r false (subst (λ (n : ℕ). k < n) (sym account.flags) here) in
      let old = el ∙ is_latest ∙ get_or_any f.latest_values k latest (pos 0) (subst (λ (n : ℕ). k < n) (sym account.latest_count) here) in
      let new = eg ∙ is_grown ∙ get_or_any f.grown_values k grown (pos 0) (subst (λ (n : ℕ). k < n) (sym account.grown_count) here) in
      let worth_is = ew ∙ is_worth ∙ (λ i. theory.dot (problem (eu i).model) (weights_at (eu i) (ej i)) (vector_of (eu i).model (ev i))) in
      sym (is_result ∙ (λ i. cond (flag i) (cond (int_lt (new i) (worth_is i)) New Neither) (cond (int_lt (worth_is i) (old i)) Old New))
      ∙ ap (λ (n : ℕ). cond (get_or f.improved n false) (cond (int_lt (get_or f.grown_values n (pos 0)) (theory.dot (problem t.model) (weights_at t belief) (vector_of t.model vector))) New Neither) (cond (int_lt (theory.dot (problem t.model) (weights_at t belief) (vector_of t.model vector)) (get_or f.latest_values n (pos 0))) Old New)) at)
      ∙ is_choice
