-- What is made ready for a settle, and what the settle then does to a ledger.
use Rattle.std.specs.Prelude.{◌≡◌, ℕ, ◌+◌, ◌<◌, ◌≤◌, [], ◌∷◌, ◌++◌, length, Bool, true, false, Option, Some, None, option_map, vec_len, vec_capacity}
use Rattle.std.specs.Arc.{arc_value}
use Rattle.sp_theory.specs.Values.{dot, greatest_member}
use Rattle.sp_model.specs.Problem.{vector_of, problem}
use Rattle.sp_value.specs.declared.editions.Member.{Member}
use Rattle.sp_value.specs.Tasks.{task_of, weights_at}
use Rattle.sp_value.specs.Editions.{EditionParts, IsMemberOf, member_of}
use Rattle.sp_value.specs.Candidates.{CandidateParts}
use Rattle.sp_core.specs.declared.answers.Settled.{Settled}
use Rattle.sp_core.specs.declared.answers.Settled.TheVariants.{Added, Kept, Late}
use Rattle.sp_ledger.specs.declared.flags.Choice.{Choice}
use Rattle.sp_ledger.specs.declared.flags.Choice.TheVariants.{Neither, New, Old}
use Rattle.sp_core.specs.declared.ledger.Ledger.{Ledger}
use Rattle.sp_core.specs.declared.plans.Plan.{Plan}
use Rattle.sp_core.specs.declared.plans.Plan.TheVariants.{RecordOnly, EnterNew, EnterOld}
use Rattle.sp_ledger.specs.Accounts.{AreWorths, raised_at, by_account, last_of}
use Rattle.sp_core.specs.Ledgers.{LedgerContents, account_in, contents_with_event, entered_with}
use Rattle.sp_core.specs.Settling.{settle_of}

-- whether the flag of belief k is up once a member has entered whose worths are at hand
abbrev pub is_up : LedgerContents → ℕ → Bool
is_up c k = raised_at c.worths c.latest_values c.improved k

-- the edition that is due once the member has entered, whose worths are at hand: none where a flag is still down
abbrev pub IsDue : LedgerContents → Member → Option EditionParts → Type 0
IsDue c x None = (k : ℕ) × (k < length c.improved) × (is_up c k ≡ false)
IsDue c x (Some e) = ((k : ℕ) → k < length c.improved → is_up c k ≡ true) × (e ≡ record { number = length c.editions; task = c.task; members = c.grown ++ x ∷ [] })

-- a member that can enter, with its worths, and the edition that is due then
pub record IsEntry (c : LedgerContents) (x : Member) (next : Option EditionParts) : Type 0 where
  pub known : IsMemberOf c.task.model x
  pub worths : AreWorths (task_of c.task) (vector_of c.task.model x.vector) c.worths
  pub due : IsDue c x next

-- the member of the candidate's record
abbrev pub new_member : LedgerContents → CandidateParts → Member
new_member c d = record { id = c.records; action = d.action; vector = d.vector }

-- what the account chooses
abbrev pub choice_for : LedgerContents → CandidateParts → Choice
choice_for c d = by_account (account_in c) d.belief (dot (problem c.task.model) (weights_at c.task d.belief) (vector_of c.task.model d.vector)) Neither New Old

-- the member is the greatest one of the latest edition at the belief
abbrev pub IsGreatestAtBelief : LedgerContents → ℕ → Member → Type 0
IsGreatestAtBelief c k x = member_of c.task.model x ≡ greatest_member (problem c.task.model) (last_of (account_in c).editions) (weights_at c.task k)

-- the plan is what the account chooses, with all that enters
abbrev pub IsSettlePlan : LedgerContents → CandidateParts → Plan → Type 0
IsSettlePlan c d RecordOnly = choice_for c d ≡ Neither
IsSettlePlan c d (EnterNew next) = (choice_for c d ≡ New) × IsEntry c (new_member c d) (option_map arc_value next)
IsSettlePlan c d (EnterOld x next) = (choice_for c d ≡ Old) × IsGreatestAtBelief c d.belief x × IsEntry c x (option_map arc_value next)

-- the contents after the plan
abbrev pub after_plan : LedgerContents → CandidateParts → Plan → LedgerContents
after_plan c d RecordOnly = contents_with_event c (settle_of d)
after_plan c d (EnterNew next) = entered_with (contents_with_event c (settle_of d)) (new_member c d) (option_map arc_value next)
after_plan c d (EnterOld x next) = entered_with (contents_with_event c (settle_of d)) x (option_map arc_value next)

-- what is answered
abbrev pub answer_to : LedgerContents → Plan → Settled
answer_to c RecordOnly = Late
answer_to c (EnterNew next) = Added c.records
answer_to c (EnterOld x next) = Kept x.id

-- room for all events of a settle, a grown member and an edition
pub record HasRoom (l : Ledger) : Type 0 where
  pub events : vec_len l.events + 3 ≤ vec_capacity l.events
  pub grown : vec_len l.grown < vec_capacity l.grown
  pub editions : vec_len l.editions < vec_capacity l.editions
