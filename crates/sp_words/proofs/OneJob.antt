-- Words ask for one job at most.
use Rattle.std.proofs.Common.{◌≡◌, ℕ, ◌-◌, ◌^◌, Bool, true, false, List, [], ◌∷◌, length, ap, sym, ◌∙◌, refl, codes, arith, inl, inr, cond, Option, Some, None, subst, ap₂}
use Rattle.std.specs.Str.Parse.{digits_value}
use Rattle.sp_words.specs.Items.{Item, values, OptionHasNumber, HasFlag, HasFile}
use Rattle.clap.specs.Words.{Row, first_of, subcommand_of}
use Rattle.sp_words.specs.Apps.{tool_app}
use Rattle.sp_words.specs.Jobs.{plan_names, IsPlanJob, HasExplore, AsksForPlan, IsNumberAlone, IsPlacedAlone, ArePlacedAlone, AsksBehind, AsksByList, GivesNumber, GivesFile, GivesPlan, Gives, AsksByParser, AskOnce, IsCommandWord}
use Rattle.sp_words.specs.declared.job.PlanWords.{PlanWords}
use Rattle.sp_words.specs.declared.job.Job.{Job}
use Rattle.sp_words.specs.declared.job.Job.TheVariants.{Plan, Check, Show, Gen, Trial, Audit, Migrate, Act, Help, Version}
use Rattle.sp_words.proofs.ItemLemmas.{same_items}
use Rattle.sp_words.proofs.JobLemmas.{differs, is_plan, is_check, is_show, is_gen, is_trial, is_audit, is_migrate, is_act, is_help, is_version}
use Rattle.sp_words.proofs.ParserLemmas.{no_text}

one_number : (items : List Item) (option : List ℕ) (least greatest m n : ℕ) → OptionHasNumber items option least greatest m → OptionHasNumber items option least greatest n → m ≡ n
one_number items option least greatest m n one two =
    let same : one.0 ≡ two.0 = cc (one.1, two.1) in
    sym one.2.value ∙ ap (digits_value 10) same ∙ two.2.value

one_flag : (items : List Item) (flag : List ℕ) (m n : Bool) → HasFlag items flag m → HasFlag items flag n → m ≡ n
one_flag items flag true true one two = refl
one_flag items flag true false one two = absurd (omega (arith, one, two))
one_flag items flag false true one two = absurd (omega (arith, one, two))
one_flag items flag false false one two = refl

-- the values of an option that is not there, or is there once
counted : (items : List Item) (option word : List ℕ) → values option items ≡ [] → values option items ≡ word ∷ [] → ⊥
counted items option word none some = let bad : ◌≡◌ {A = ℕ} 0 1 = sym (ap length none) ∙ ap length some in omega (arith, bad)

ways : (items : List Item) → values (codes "--explore") items ≡ codes "uniform" ∷ [] → values (codes "--explore") items ≡ codes "sweep" ∷ [] → ⊥
ways items one two =
    let same : codes "sweep" ≡ codes "uniform" = cc (one, two) in
    differs 0 (codes "sweep") (codes "uniform") same (omega arith)

one_way : (items : List Item) (m n : Bool) → HasExplore items m → HasExplore items n → m ≡ n
one_way items m n (inl a) (inl b) = a.1 ∙ sym b.1
one_way items m n (inl a) (inr (inl b)) = a.1 ∙ sym b.1
one_way items m n (inl a) (inr (inr b)) = absurd (counted items (codes "--explore") (codes "sweep") a.0 b.0)
one_way items m n (inr (inl a)) (inl b) = a.1 ∙ sym b.1
one_way items m n (inr (inl a)) (inr (inl b)) = a.1 ∙ sym b.1
one_way items m n (inr (inl a)) (inr (inr b)) = absurd (ways items a.0 b.0)
one_way items m n (inr (inr a)) (inl b) = absurd (counted items (codes "--explore") (codes "sweep") b.0 a.0)
one_way items m n (inr (inr a)) (inr (inl b)) = absurd (ways items b.0 a.0)
one_way items m n (inr (inr a)) (inr (inr b)) = a.1 ∙ sym b.1

one_file : (items : List Item) (option : List ℕ) (m n : Option (List ℕ)) → HasFile items option m → HasFile items option n → m ≡ n
one_file items option None None one two = refl
one_file items option None (Some y) one two = absurd (counted items option y one two.0)
one_file items option (Some x) None one two = absurd (counted items option x two one.0)
one_file items option (Some x) (Some y) one two = let same : x ≡ y = cc (one.0, two.0) in ap Some same

same_plan : (p q : PlanWords) → p.model ≡ q.model → p.beliefs ≡ q.beliefs → p.depth ≡ q.depth → p.stages ≡ q.stages → p.seed ≡ q.seed → p.workers ≡ q.workers → p.prune ≡ q.prune → p.sweep ≡ q.sweep → p.sessions ≡ q.sessions → p ≡ q
same_plan p q a b c d e f g h i =
    ap (λ x. record p { model = x }) a
    ∙ ap (λ x. record p { model = q.model; beliefs = x }) b
    ∙ ap (λ x. record p { model = q.model; beliefs = q.beliefs; depth = x }) c
    ∙ ap (λ x. record p { model = q.model; beliefs = q.beliefs; depth = q.depth; stages = x }) d
    ∙ ap (λ x. record q { seed = x; workers = p.workers; prune = p.prune; sweep = p.sweep; sessions = p.sessions }) e
    ∙ ap (λ x. record q { workers = x; prune = p.prune; sweep = p.sweep; sessions = p.sessions }) f
    ∙ ap (λ x. record q { prune = x; sweep = p.sweep; sessions = p.sessions }) g
    ∙ ap (λ x. record q { sweep = x; sessions = p.sessions }) h
    ∙ ap (λ x. record q { sessions = x }) i

-- the same items ask for the same plan
one_plan : (items : List Item) (p q : PlanWords) → IsPlanJob items p → IsPlanJob items q → p ≡ q
one_plan items p q one two =
    let model : p.model ≡ q.model = cc (one.model, two.model) in
    same_plan p q model
    (one_number items (codes "--beliefs") 1 4096 p.beliefs q.beliefs one.numbers.beliefs two.numbers.beliefs)
    (one_number items (codes "--depth") 1 4096 p.depth q.depth one.numbers.depth two.numbers.depth)
    (one_number items (codes "--stages") 1 1000 p.stages q.stages one.numbers.stages two.numbers.stages)
    (one_number items (codes "--seed") 0 (2 ^ 64 - 1) p.seed q.seed one.numbers.seed two.numbers.seed)
    (one_number items (codes "--workers") 0 64 p.workers q.workers one.numbers.workers two.numbers.workers)
    (one_flag items (codes "--prune") p.prune q.prune one.prune two.prune)
    (one_way items p.sweep q.sweep one.explore two.explore)
    (one_file items (codes "--sessions") p.sessions q.sessions one.sessions two.sessions)

one_place : (rest : List (List ℕ)) (x y : List ℕ) → IsPlacedAlone rest x → IsPlacedAlone rest y → x ≡ y
one_place rest x y one two = cc (one.0, two.0)

one_pair : (rest : List (List ℕ)) (x y v w : List ℕ) → ArePlacedAlone rest x v → ArePlacedAlone rest y w → (x ≡ y) × (v ≡ w)
one_pair rest x y v w one two = (cc (one.0, two.0), cc (one.0, two.0))

one_alone : (rest : List (List ℕ)) (m n : ℕ) → IsNumberAlone rest m → IsNumberAlone rest n → m ≡ n
one_alone rest m n one two =
    let same = one_place rest one.0 two.0 one.1 two.1 in
    sym one.2.value ∙ ap (digits_value 10) same ∙ two.2.value

-- jobs of one command are the same, where those of each command are
one_by : (P : Job → Type 0) → ((p q : PlanWords) → P (Plan p) → P (Plan q) → p ≡ q) → ((x y : List ℕ) → P (Check x) → P (Check y) → x ≡ y) → ((x y : List ℕ) → P (Show x) → P (Show y) → x ≡ y)
    → ((m n : ℕ) → P (Gen m) → P (Gen n) → m ≡ n) → ((m n : ℕ) → P (Trial m) → P (Trial n) → m ≡ n)
    → ((x y : List ℕ) → P (Audit x) → P (Audit y) → x ≡ y) → ((x y : List ℕ) → P (Migrate x) → P (Migrate y) → x ≡ y)
    → ((x y v w : List ℕ) → P (Act x v) → P (Act y w) → (x ≡ y) × (v ≡ w))
    → (job other : Job) (word : List ℕ) → IsCommandWord job word → IsCommandWord other word → P job → P other → job ≡ other
one_by P plans checks shows gens trials audits migrates acts (Plan x) other word e f one two =
    let s = is_plan other (subst (IsCommandWord other) e f) in ap Plan (plans x s.0 one (subst P s.1 two)) ∙ sym s.1
one_by P plans checks shows gens trials audits migrates acts (Check x) other word e f one two =
    let s = is_check other (subst (IsCommandWord other) e f) in ap Check (checks x s.0 one (subst P s.1 two)) ∙ sym s.1
one_by P plans checks shows gens trials audits migrates acts (Show x) other word e f one two =
    let s = is_show other (subst (IsCommandWord other) e f) in ap Show (shows x s.0 one (subst P s.1 two)) ∙ sym s.1
one_by P plans checks shows gens trials audits migrates acts (Gen x) other word e f one two =
    let s = is_gen other (subst (IsCommandWord other) e f) in ap Gen (gens x s.0 one (subst P s.1 two)) ∙ sym s.1
one_by P plans checks shows gens trials audits migrates acts (Trial x) other word e f one two =
    let s = is_trial other (subst (IsCommandWord other) e f) in ap Trial (trials x s.0 one (subst P s.1 two)) ∙ sym s.1
one_by P plans checks shows gens trials audits migrates acts (Audit x) other word e f one two =
    let s = is_audit other (subst (IsCommandWord other) e f) in ap Audit (audits x s.0 one (subst P s.1 two)) ∙ sym s.1
one_by P plans checks shows gens trials audits migrates acts (Migrate x) other word e f one two =
    let s = is_migrate other (subst (IsCommandWord other) e f) in ap Migrate (migrates x s.0 one (subst P s.1 two)) ∙ sym s.1
one_by P plans checks shows gens trials audits migrates acts (Act x v) other word e f one two =
    let s = is_act other (subst (IsCommandWord other) e f) in
    let same = acts x s.0 v s.1 one (subst P s.2 two) in
    ap₂ Act same.0 same.1 ∙ sym s.2
one_by P plans checks shows gens trials audits migrates acts Help other word e f one two = sym (is_help other word e f)
one_by P plans checks shows gens trials audits migrates acts Version other word e f one two = sym (is_version other word e f)

one_planned : (rest : List (List ℕ)) (p q : PlanWords) → AsksForPlan rest p → AsksForPlan rest q → p ≡ q
one_planned rest p q one two =
    let items : one.items ≡ two.items = same_items plan_names one.items two.items one.each two.each (sym one.is ∙ two.is) in
    let says : IsPlanJob one.items q = rw (← items) at two.says in
    one_plan one.items p q one.says says

-- the same listed words ask for the same job
same_listed : (words : List (List ℕ)) (job other : Job) → AsksByList words job → AsksByList words other → job ≡ other
same_listed words job other one two =
    let command : two.command ≡ one.command = cc (one.are, two.are) in
    let rest : two.rest ≡ one.rest = cc (one.are, two.are) in
    let names : IsCommandWord other one.command = rw command at two.names in
    let behind : AsksBehind one.rest other = rw rest at two.behind in
    one_by (AsksBehind one.rest) (one_planned one.rest) (one_place one.rest) (one_place one.rest) (one_alone one.rest) (one_alone one.rest) (one_place one.rest) (one_place one.rest) (one_pair one.rest) job other one.command one.names names one.behind behind

-- ---- words that the parser takes
same_text : (found : Option (List ℕ)) (x y : List ℕ) → found ≡ Some x → found ≡ Some y → x ≡ y
same_text found x y one two = cc

one_given : (rows : List Row) (id : List ℕ) (least greatest m n : ℕ) → GivesNumber rows id least greatest m → GivesNumber rows id least greatest n → m ≡ n
one_given rows id least greatest m n one two =
    let same = same_text (first_of id rows) one.0 two.0 one.1 two.1 in
    sym one.2.value ∙ ap (digits_value 10) same ∙ two.2.value

one_choice : (first second : List ℕ) → (first ≡ second → ⊥) → (found : Option (List ℕ)) (m n : Bool) → found ≡ Some (cond m second first) → found ≡ Some (cond n second first) → m ≡ n
one_choice first second apart found true true one two = refl
one_choice first second apart found true false one two = absurd (apart (same_text found first second two one))
one_choice first second apart found false true one two = absurd (apart (same_text found first second one two))
one_choice first second apart found false false one two = refl

one_given_file : (rows : List Row) (id : List ℕ) (m n : Option (List ℕ)) → GivesFile rows id m → GivesFile rows id n → m ≡ n
one_given_file rows id None None one two = refl
one_given_file rows id None (Some y) one two = absurd (no_text (first_of id rows) one y two.0)
one_given_file rows id (Some x) None one two = absurd (no_text (first_of id rows) two x one.0)
one_given_file rows id (Some x) (Some y) one two = ap Some (same_text (first_of id rows) x y one.0 two.0)

false_is_not_true : codes "false" ≡ codes "true" → ⊥
false_is_not_true e = differs 0 (codes "false") (codes "true") e (omega arith)

uniform_is_not_sweep : codes "uniform" ≡ codes "sweep" → ⊥
uniform_is_not_sweep e = differs 0 (codes "sweep") (codes "uniform") (sym e) (omega arith)

one_given_plan : (rows : List Row) (p q : PlanWords) → GivesPlan rows p → GivesPlan rows q → p ≡ q
one_given_plan rows p q one two =
    same_plan p q (same_text (first_of (codes "model") rows) p.model q.model one.model two.model)
    (one_given rows (codes "beliefs") 1 4096 p.beliefs q.beliefs one.numbers.beliefs two.numbers.beliefs)
    (one_given rows (codes "depth") 1 4096 p.depth q.depth one.numbers.depth two.numbers.depth)
    (one_given rows (codes "stages") 1 1000 p.stages q.stages one.numbers.stages two.numbers.stages)
    (one_given rows (codes "seed") 0 (2 ^ 64 - 1) p.seed q.seed one.numbers.seed two.numbers.seed)
    (one_given rows (codes "workers") 0 64 p.workers q.workers one.numbers.workers two.numbers.workers)
    (one_choice (codes "false") (codes "true") false_is_not_true (first_of (codes "prune") rows) p.prune q.prune one.prune two.prune)
    (one_choice (codes "uniform") (codes "sweep") uniform_is_not_sweep (first_of (codes "explore") rows) p.sweep q.sweep one.explore two.explore)
    (one_given_file rows (codes "sessions") p.sessions q.sessions one.sessions two.sessions)

-- the same matches of one command give the same job
one_gives : (rows : List Row) (job other : Job) (command : List ℕ) → IsCommandWord job command → IsCommandWord other command → Gives rows job → Gives rows other → job ≡ other
one_gives rows = one_by (Gives rows) (one_given_plan rows) (same_text (first_of (codes "model") rows)) (same_text (first_of (codes "model") rows))
    (one_given rows (codes "number") 0 16) (one_given rows (codes "number") 0 16) (same_text (first_of (codes "plan") rows)) (same_text (first_of (codes "plan") rows))
    (λ x y v w one two. (same_text (first_of (codes "plan") rows) x y one.0 two.0, same_text (first_of (codes "script") rows) v w one.1 two.1))

same_entry : (entry : Option (List ℕ × List Row)) (a b : List ℕ) (x y : List Row) → entry ≡ Some (a, x) → entry ≡ Some (b, y) → (a ≡ b) × (x ≡ y)
same_entry entry a b x y one two = let both : ◌≡◌ {A = Option (List ℕ × List Row)} (Some (a, x)) (Some (b, y)) = sym one ∙ two in
    let pairs : ◌≡◌ {A = List ℕ × List Row} (a, x) (b, y) = cc both in
    (ap (λ (p : List ℕ × List Row). p.0) pairs, ap (λ (p : List ℕ × List Row). p.1) pairs)

same_taken : (words : List (List ℕ)) (job other : Job) → AsksByParser words job → AsksByParser words other → job ≡ other
same_taken words job other one two =
    let same = same_entry (subcommand_of tool_app words) one.command two.command one.rows two.rows one.enters two.enters in
    let names : IsCommandWord other one.command = rw (← same.0) at two.names in
    let gives : Gives one.rows other = rw (← same.1) at two.gives in
    one_gives one.rows job other one.command one.names names one.gives gives

-- ---- both
-- the same words ask for the same job
pub same_job : AskOnce
same_job words job other (inl one) (inl two) = same_listed words job other one two
same_job words job other (inl one) (inr two) = absurd (two.0 job one)
same_job words job other (inr one) (inl two) = absurd (one.0 other two)
same_job words job other (inr one) (inr two) = same_taken words job other one.1 two.1
