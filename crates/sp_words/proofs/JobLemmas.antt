-- What words behind a command ask for, by their items.
use Rattle.std.proofs.Common.{◌≡◌, ℕ, List, [], Option, Some, None, sym, ap, ◌∙◌, codes, ◌<◌, slice_index, arith, refl, subst, inl, inr, ◌≢◌}
use Rattle.sp_words.specs.Items.{Item, items_on}
use Rattle.sp_words.specs.Jobs.{plan_names, IsPlanJob, AsksForPlan, IsNumberAlone, AsksBehind, IsCommandWord}
use Rattle.sp_words.specs.declared.job.PlanWords.{PlanWords}
use Rattle.sp_words.specs.declared.job.Job.{Job}
use Rattle.sp_words.specs.declared.job.Job.TheVariants.{Plan, Check, Show, Gen, Trial, Audit, Migrate, Act, Help, Version}
use Rattle.sp_words.proofs.ItemLemmas.{items_complete, items_sound}

-- words that differ at a place are different
pub differs : (place : ℕ) (x y : List ℕ) → x ≡ y → slice_index x place < slice_index y place → ⊥
differs place x y e less = omega (arith, ap (λ w. slice_index w place) e, less)

-- a word with another first letter is none of those of help, and none of those of the version
no_help : (word : List ℕ) → 45 < slice_index word 0 → slice_index word 0 ≢ 104 → ¬ (IsCommandWord Help word)
no_help word more other (inl e) = omega (arith, ap (λ w. slice_index w 0) e, more)
no_help word more other (inr (inl e)) = omega (arith, ap (λ w. slice_index w 0) e, more)
no_help word more other (inr (inr e)) = other (ap (λ w. slice_index w 0) e)

no_version : (word : List ℕ) → 45 < slice_index word 0 → ¬ (IsCommandWord Version word)
no_version word more (inl e) = omega (arith, ap (λ w. slice_index w 0) e, more)
no_version word more (inr e) = omega (arith, ap (λ w. slice_index w 0) e, more)

help_or_version : (word : List ℕ) → IsCommandWord Help word → ¬ (IsCommandWord Version word)
help_or_version word (inl a) (inl b) = differs 2 (codes "--help") (codes "--version") (sym a ∙ b) (omega arith)
help_or_version word (inl a) (inr b) = differs 1 (codes "--help") (codes "-V") (sym a ∙ b) (omega arith)
help_or_version word (inr (inl a)) (inl b) = differs 1 (codes "--version") (codes "-h") (sym b ∙ a) (omega arith)
help_or_version word (inr (inl a)) (inr b) = differs 1 (codes "-V") (codes "-h") (sym b ∙ a) (omega arith)
help_or_version word (inr (inr a)) (inl b) = differs 0 (codes "--version") (codes "help") (sym b ∙ a) (omega arith)
help_or_version word (inr (inr a)) (inr b) = differs 0 (codes "-V") (codes "help") (sym b ∙ a) (omega arith)

-- a job of a command is of its variant
pub is_plan : (job : Job) → IsCommandWord job (codes "plan") → (p : PlanWords) × (job ≡ Plan p)
is_plan (Plan p) e = (p, refl)
is_plan (Check model) e = absurd (differs 0 (codes "check") (codes "plan") (sym e) (omega arith))
is_plan (Show model) e = absurd (differs 0 (codes "plan") (codes "show") e (omega arith))
is_plan (Gen number) e = absurd (differs 0 (codes "gen") (codes "plan") (sym e) (omega arith))
is_plan (Trial number) e = absurd (differs 0 (codes "plan") (codes "trial") e (omega arith))
is_plan (Audit plan) e = absurd (differs 0 (codes "audit") (codes "plan") (sym e) (omega arith))
is_plan (Migrate plan) e = absurd (differs 0 (codes "migrate") (codes "plan") (sym e) (omega arith))
is_plan (Act plan script) e = absurd (differs 0 (codes "act") (codes "plan") (sym e) (omega arith))
is_plan Help e = absurd (no_help (codes "plan") (omega arith) (λ h. omega (arith, h)) e)
is_plan Version e = absurd (no_version (codes "plan") (omega arith) e)

pub is_check : (job : Job) → IsCommandWord job (codes "check") → (model : List ℕ) × (job ≡ Check model)
is_check (Plan p) e = absurd (differs 0 (codes "check") (codes "plan") e (omega arith))
is_check (Check model) e = (model, refl)
is_check (Show model) e = absurd (differs 0 (codes "check") (codes "show") e (omega arith))
is_check (Gen number) e = absurd (differs 0 (codes "check") (codes "gen") e (omega arith))
is_check (Trial number) e = absurd (differs 0 (codes "check") (codes "trial") e (omega arith))
is_check (Audit plan) e = absurd (differs 0 (codes "audit") (codes "check") (sym e) (omega arith))
is_check (Migrate plan) e = absurd (differs 0 (codes "check") (codes "migrate") e (omega arith))
is_check (Act plan script) e = absurd (differs 0 (codes "act") (codes "check") (sym e) (omega arith))
is_check Help e = absurd (no_help (codes "check") (omega arith) (λ h. omega (arith, h)) e)
is_check Version e = absurd (no_version (codes "check") (omega arith) e)

pub is_show : (job : Job) → IsCommandWord job (codes "show") → (model : List ℕ) × (job ≡ Show model)
is_show (Plan p) e = absurd (differs 0 (codes "plan") (codes "show") (sym e) (omega arith))
is_show (Check model) e = absurd (differs 0 (codes "check") (codes "show") (sym e) (omega arith))
is_show (Show model) e = (model, refl)
is_show (Gen number) e = absurd (differs 0 (codes "gen") (codes "show") (sym e) (omega arith))
is_show (Trial number) e = absurd (differs 0 (codes "show") (codes "trial") e (omega arith))
is_show (Audit plan) e = absurd (differs 0 (codes "audit") (codes "show") (sym e) (omega arith))
is_show (Migrate plan) e = absurd (differs 0 (codes "migrate") (codes "show") (sym e) (omega arith))
is_show (Act plan script) e = absurd (differs 0 (codes "act") (codes "show") (sym e) (omega arith))
is_show Help e = absurd (no_help (codes "show") (omega arith) (λ h. omega (arith, h)) e)
is_show Version e = absurd (no_version (codes "show") (omega arith) e)

pub is_gen : (job : Job) → IsCommandWord job (codes "gen") → (number : ℕ) × (job ≡ Gen number)
is_gen (Plan p) e = absurd (differs 0 (codes "gen") (codes "plan") e (omega arith))
is_gen (Check model) e = absurd (differs 0 (codes "check") (codes "gen") (sym e) (omega arith))
is_gen (Show model) e = absurd (differs 0 (codes "gen") (codes "show") e (omega arith))
is_gen (Gen number) e = (number, refl)
is_gen (Trial number) e = absurd (differs 0 (codes "gen") (codes "trial") e (omega arith))
is_gen (Audit plan) e = absurd (differs 0 (codes "audit") (codes "gen") (sym e) (omega arith))
is_gen (Migrate plan) e = absurd (differs 0 (codes "gen") (codes "migrate") e (omega arith))
is_gen (Act plan script) e = absurd (differs 0 (codes "act") (codes "gen") (sym e) (omega arith))
is_gen Help e = absurd (no_help (codes "gen") (omega arith) (λ h. omega (arith, h)) e)
is_gen Version e = absurd (no_version (codes "gen") (omega arith) e)

pub is_trial : (job : Job) → IsCommandWord job (codes "trial") → (number : ℕ) × (job ≡ Trial number)
is_trial (Plan p) e = absurd (differs 0 (codes "plan") (codes "trial") (sym e) (omega arith))
is_trial (Check model) e = absurd (differs 0 (codes "check") (codes "trial") (sym e) (omega arith))
is_trial (Show model) e = absurd (differs 0 (codes "show") (codes "trial") (sym e) (omega arith))
is_trial (Gen number) e = absurd (differs 0 (codes "gen") (codes "trial") (sym e) (omega arith))
is_trial (Trial number) e = (number, refl)
is_trial (Audit plan) e = absurd (differs 0 (codes "audit") (codes "trial") (sym e) (omega arith))
is_trial (Migrate plan) e = absurd (differs 0 (codes "migrate") (codes "trial") (sym e) (omega arith))
is_trial (Act plan script) e = absurd (differs 0 (codes "act") (codes "trial") (sym e) (omega arith))
is_trial Help e = absurd (no_help (codes "trial") (omega arith) (λ h. omega (arith, h)) e)
is_trial Version e = absurd (no_version (codes "trial") (omega arith) e)

pub is_audit : (job : Job) → IsCommandWord job (codes "audit") → (plan : List ℕ) × (job ≡ Audit plan)
is_audit (Plan p) e = absurd (differs 0 (codes "audit") (codes "plan") e (omega arith))
is_audit (Check model) e = absurd (differs 0 (codes "audit") (codes "check") e (omega arith))
is_audit (Show model) e = absurd (differs 0 (codes "audit") (codes "show") e (omega arith))
is_audit (Gen number) e = absurd (differs 0 (codes "audit") (codes "gen") e (omega arith))
is_audit (Trial number) e = absurd (differs 0 (codes "audit") (codes "trial") e (omega arith))
is_audit (Audit plan) e = (plan, refl)
is_audit (Migrate plan) e = absurd (differs 0 (codes "audit") (codes "migrate") e (omega arith))
is_audit (Act plan script) e = absurd (differs 1 (codes "act") (codes "audit") (sym e) (omega arith))
is_audit Help e = absurd (no_help (codes "audit") (omega arith) (λ h. omega (arith, h)) e)
is_audit Version e = absurd (no_version (codes "audit") (omega arith) e)

pub is_migrate : (job : Job) → IsCommandWord job (codes "migrate") → (plan : List ℕ) × (job ≡ Migrate plan)
is_migrate (Plan p) e = absurd (differs 0 (codes "migrate") (codes "plan") e (omega arith))
is_migrate (Check model) e = absurd (differs 0 (codes "check") (codes "migrate") (sym e) (omega arith))
is_migrate (Show model) e = absurd (differs 0 (codes "migrate") (codes "show") e (omega arith))
is_migrate (Gen number) e = absurd (differs 0 (codes "gen") (codes "migrate") (sym e) (omega arith))
is_migrate (Trial number) e = absurd (differs 0 (codes "migrate") (codes "trial") e (omega arith))
is_migrate (Audit plan) e = absurd (differs 0 (codes "audit") (codes "migrate") (sym e) (omega arith))
is_migrate (Migrate plan) e = (plan, refl)
is_migrate (Act plan script) e = absurd (differs 0 (codes "act") (codes "migrate") (sym e) (omega arith))
is_migrate Help e = absurd (no_help (codes "migrate") (omega arith) (λ h. omega (arith, h)) e)
is_migrate Version e = absurd (no_version (codes "migrate") (omega arith) e)

pub is_act : (job : Job) → IsCommandWord job (codes "act") → (plan script : List ℕ) × (job ≡ Act plan script)
is_act (Plan p) e = absurd (differs 0 (codes "act") (codes "plan") e (omega arith))
is_act (Check model) e = absurd (differs 0 (codes "act") (codes "check") e (omega arith))
is_act (Show model) e = absurd (differs 0 (codes "act") (codes "show") e (omega arith))
is_act (Gen number) e = absurd (differs 0 (codes "act") (codes "gen") e (omega arith))
is_act (Trial number) e = absurd (differs 0 (codes "act") (codes "trial") e (omega arith))
is_act (Audit plan) e = absurd (differs 1 (codes "act") (codes "audit") e (omega arith))
is_act (Migrate plan) e = absurd (differs 0 (codes "act") (codes "migrate") e (omega arith))
is_act (Act plan script) e = (plan, script, refl)
is_act Help e = absurd (no_help (codes "act") (omega arith) (λ h. omega (arith, h)) e)
is_act Version e = absurd (no_version (codes "act") (omega arith) e)

pub is_help : (job : Job) (word : List ℕ) → IsCommandWord Help word → IsCommandWord job word → job ≡ Help
is_help (Plan p) word help e = let s = is_plan Help (subst (IsCommandWord Help) e help) in let bad : Help ≡ Plan s.0 = s.1 in cc
is_help (Check model) word help e = let s = is_check Help (subst (IsCommandWord Help) e help) in let bad : Help ≡ Check s.0 = s.1 in cc
is_help (Show model) word help e = let s = is_show Help (subst (IsCommandWord Help) e help) in let bad : Help ≡ Show s.0 = s.1 in cc
is_help (Gen number) word help e = let s = is_gen Help (subst (IsCommandWord Help) e help) in let bad : Help ≡ Gen s.0 = s.1 in cc
is_help (Trial number) word help e = let s = is_trial Help (subst (IsCommandWord Help) e help) in let bad : Help ≡ Trial s.0 = s.1 in cc
is_help (Audit plan) word help e = let s = is_audit Help (subst (IsCommandWord Help) e help) in let bad : Help ≡ Audit s.0 = s.1 in cc
is_help (Migrate plan) word help e = let s = is_migrate Help (subst (IsCommandWord Help) e help) in let bad : Help ≡ Migrate s.0 = s.1 in cc
is_help (Act plan script) word help e = let s = is_act Help (subst (IsCommandWord Help) e help) in let bad : Help ≡ Act s.0 s.1 = s.2 in cc
is_help Help word help e = refl
is_help Version word help e = absurd (help_or_version word help e)

pub is_version : (job : Job) (word : List ℕ) → IsCommandWord Version word → IsCommandWord job word → job ≡ Version
is_version (Plan p) word version e = let s = is_plan Version (subst (IsCommandWord Version) e version) in let bad : Version ≡ Plan s.0 = s.1 in cc
is_version (Check model) word version e = let s = is_check Version (subst (IsCommandWord Version) e version) in let bad : Version ≡ Check s.0 = s.1 in cc
is_version (Show model) word version e = let s = is_show Version (subst (IsCommandWord Version) e version) in let bad : Version ≡ Show s.0 = s.1 in cc
is_version (Gen number) word version e = let s = is_gen Version (subst (IsCommandWord Version) e version) in let bad : Version ≡ Gen s.0 = s.1 in cc
is_version (Trial number) word version e = let s = is_trial Version (subst (IsCommandWord Version) e version) in let bad : Version ≡ Trial s.0 = s.1 in cc
is_version (Audit plan) word version e = let s = is_audit Version (subst (IsCommandWord Version) e version) in let bad : Version ≡ Audit s.0 = s.1 in cc
is_version (Migrate plan) word version e = let s = is_migrate Version (subst (IsCommandWord Version) e version) in let bad : Version ≡ Migrate s.0 = s.1 in cc
is_version (Act plan script) word version e = let s = is_act Version (subst (IsCommandWord Version) e version) in let bad : Version ≡ Act s.0 s.1 = s.2 in cc
is_version Help word version e = absurd (help_or_version word e version)
is_version Version word version e = refl

-- what holds of no such job holds of no job of that command
pub plan_only : (P : Job → Type 0) → ((p : PlanWords) → ¬ (P (Plan p))) → (job : Job) → IsCommandWord job (codes "plan") → ¬ (P job)
plan_only P none job e is = let s = is_plan job e in none s.0 (subst P s.1 is)

pub check_only : (P : Job → Type 0) → ((model : List ℕ) → ¬ (P (Check model))) → (job : Job) → IsCommandWord job (codes "check") → ¬ (P job)
check_only P none job e is = let s = is_check job e in none s.0 (subst P s.1 is)

pub show_only : (P : Job → Type 0) → ((model : List ℕ) → ¬ (P (Show model))) → (job : Job) → IsCommandWord job (codes "show") → ¬ (P job)
show_only P none job e is = let s = is_show job e in none s.0 (subst P s.1 is)

pub gen_only : (P : Job → Type 0) → ((number : ℕ) → ¬ (P (Gen number))) → (job : Job) → IsCommandWord job (codes "gen") → ¬ (P job)
gen_only P none job e is = let s = is_gen job e in none s.0 (subst P s.1 is)

pub trial_only : (P : Job → Type 0) → ((number : ℕ) → ¬ (P (Trial number))) → (job : Job) → IsCommandWord job (codes "trial") → ¬ (P job)
trial_only P none job e is = let s = is_trial job e in none s.0 (subst P s.1 is)

pub audit_only : (P : Job → Type 0) → ((plan : List ℕ) → ¬ (P (Audit plan))) → (job : Job) → IsCommandWord job (codes "audit") → ¬ (P job)
audit_only P none job e is = let s = is_audit job e in none s.0 (subst P s.1 is)

pub migrate_only : (P : Job → Type 0) → ((plan : List ℕ) → ¬ (P (Migrate plan))) → (job : Job) → IsCommandWord job (codes "migrate") → ¬ (P job)
migrate_only P none job e is = let s = is_migrate job e in none s.0 (subst P s.1 is)

-- words whose items are those of a plan ask for it
pub plan_read : (rest : List (List ℕ)) (items : List Item) (p : PlanWords) → items_on plan_names [] None rest ≡ Some items → IsPlanJob items p → AsksForPlan rest p
plan_read rest items p reads is =
    let s = items_sound plan_names rest items [] None tt reads in
    let is' : IsPlanJob s.0 p = rw s.1 at is in
    record { items = s.0; is = s.2; each = s.3; says = is' }

-- words without items ask for no plan
pub plan_unread : (rest : List (List ℕ)) → items_on plan_names [] None rest ≡ None → (job : Job) → IsCommandWord job (codes "plan") → ¬ (AsksBehind rest job)
plan_unread rest none = plan_only (AsksBehind rest) (λ p asks.
    let reads = items_complete plan_names [] asks.items asks.each in
    let bad : ◌≡◌ {A = Option (List Item)} None (Some asks.items) = sym none ∙ ap (items_on plan_names [] None) asks.is ∙ reads in
    cc)

-- words whose items are those of no plan ask for none
pub plan_other : (rest : List (List ℕ)) (items : List Item) → items_on plan_names [] None rest ≡ Some items → ((p : PlanWords) → ¬ (IsPlanJob items p)) → (job : Job) → IsCommandWord job (codes "plan") → ¬ (AsksBehind rest job)
plan_other rest items some none = plan_only (AsksBehind rest) (λ p asks.
    let reads = items_complete plan_names [] asks.items asks.each in
    let both : Some items ≡ Some asks.items = sym some ∙ ap (items_on plan_names [] None) asks.is ∙ reads in
    let same : asks.items ≡ items = cc in
    none p (rw same at asks.says))

pub gen_other : (rest : List (List ℕ)) → ((n : ℕ) → ¬ (IsNumberAlone rest n)) → (job : Job) → IsCommandWord job (codes "gen") → ¬ (AsksBehind rest job)
gen_other rest none = gen_only (AsksBehind rest) none

pub trial_other : (rest : List (List ℕ)) → ((n : ℕ) → ¬ (IsNumberAlone rest n)) → (job : Job) → IsCommandWord job (codes "trial") → ¬ (AsksBehind rest job)
trial_other rest none = trial_only (AsksBehind rest) none
