-- What an audit keeps of a run whose events it replays, and how an event changes it.
use Rattle.std.specs.Prelude.{◌≡◌, ◌⊎◌, ℕ, ◌+◌, ◌-◌, ◌≤◌, ◌==◌, List, [], ◌∷◌, ◌++◌, length, map, replicate, Bool, false, true, ℤ, Option, Some, None, All}
use Rattle.std.specs.List.{range_with_len}
use Rattle.std.specs.Arc.{arc_value}
use Rattle.sp_theory.specs.Values.{dot, greatest_member}
use Rattle.sp_theory.specs.Book.{Event, settle}
use Rattle.sp_model.specs.Problem.{problem, vector_of}
use Rattle.sp_value.specs.declared.editions.Member.{Member}
use Rattle.sp_value.specs.Tasks.{TaskParts, IsTask, task_of, weights_at}
use Rattle.sp_value.specs.Editions.{EditionParts, IsMemberOf, edition_of, member_of, members_in}
use Rattle.sp_value.specs.Candidates.{CandidateParts}
use Rattle.sp_ledger.specs.declared.flags.Choice.{Choice}
use Rattle.sp_ledger.specs.declared.flags.Choice.TheVariants.{Neither, New, Old}
use Rattle.sp_ledger.specs.Accounts.{Account, raised_at, lifted_to, by_account, last_of}
use Rattle.sp_ledger.specs.Replayed.{IsReplayed}
use Rattle.sp_ledger.specs.Opening.{AreNumbered}
use Rattle.sp_audit.specs.declared.states.RunState.{RunState}

-- a replay as lists and numbers
pub record ReplayContents : Type 0 where
  pub task : TaskParts
  pub editions : List EditionParts
  pub records : ℕ
  pub grown : List Member
  pub improved : List Bool
  pub latest_values : List ℤ
  pub grown_values : List ℤ
  pub worths : List ℤ
  pub stages_left : ℕ
  pub done : Bool

-- the contents of a replay
abbrev pub contents : RunState → ReplayContents
contents r = record {
  task = r.task;
  editions = map arc_value r.editions.items;
  records = r.records;
  grown = r.grown.items;
  improved = r.improved.items;
  latest_values = r.latest_values.items;
  grown_values = r.grown_values.items;
  worths = r.worths.items;
  stages_left = r.stages_left;
  done = r.done;
}

-- the account in them
abbrev pub account_in : ReplayContents → Account
account_in c = record {
  records = c.records;
  editions = map members_in c.editions;
  grown = edition_of c.task.model c.grown;
  improved = c.improved;
  latest_values = c.latest_values;
  grown_values = c.grown_values;
  stages_left = c.stages_left;
  done = c.done;
}

-- the contents are those of the book after these events, which may come one after another
pub record IsStateAfter (es : List Event) (c : ReplayContents) : Type 0 where
  pub task : IsTask c.task
  pub replayed : IsReplayed (task_of c.task) es (account_in c)
  pub numbered : AreNumbered c.task c.editions
  pub grown : All (IsMemberOf c.task.model) c.grown
  pub worths : length c.worths ≡ c.task.options.beliefs
  pub few : c.records ≤ length es + 1

-- the contents of some replay
abbrev pub IsReplayState : ReplayContents → Type 0
IsReplayState c = (es : List Event) × IsStateAfter es c

-- the event leads from one to the other, of the same task
pub record Follows (c : ReplayContents) (x : Event) (d : ReplayContents) : Type 0 where
  pub task : d.task ≡ c.task
  pub replay : (es : List Event) → IsStateAfter es c → IsStateAfter (es ++ x ∷ []) d

-- ---- a settle
abbrev pub settle_of : CandidateParts → Event
settle_of c = settle c.belief c.base.number c.action c.links

-- the member of the candidate's record
abbrev pub new_member : ReplayContents → CandidateParts → Member
new_member c d = record { id = c.records; action = d.action; vector = d.vector }

-- what the account chooses
abbrev pub choice_for : ReplayContents → CandidateParts → Choice
choice_for c d = by_account (account_in c) d.belief (dot (problem c.task.model) (weights_at c.task d.belief) (vector_of c.task.model d.vector)) Neither New Old

-- the member is the greatest one of the latest edition at the belief
abbrev pub IsGreatestInReplay : ReplayContents → ℕ → Member → Type 0
IsGreatestInReplay c k x = member_of c.task.model x ≡ greatest_member (problem c.task.model) (last_of (account_in c).editions) (weights_at c.task k)

-- what enters the grown list: nothing, the new member or the old one, as the account chooses
abbrev pub IsEntrant : ReplayContents → CandidateParts → Option Member → Type 0
IsEntrant c d None = choice_for c d ≡ Neither
IsEntrant c d (Some x) = IsMemberOf c.task.model x × (((choice_for c d ≡ New) × (x ≡ new_member c d)) ⊎ ((choice_for c d ≡ Old) × IsGreatestInReplay c d.belief x))

-- one record more
abbrev pub contents_with_record : ReplayContents → ReplayContents
contents_with_record c = record c { records = c.records + 1 }

-- a member enters, whose worths are at hand
abbrev pub with_member : ReplayContents → Member → ReplayContents
with_member c x = record c {
  grown = c.grown ++ x ∷ [];
  improved = map (raised_at c.worths c.latest_values c.improved) (range_with_len 0 (length c.improved));
  grown_values = map (lifted_to (length c.grown == 0) c.worths c.grown_values) (range_with_len 0 (length c.grown_values));
}

-- ---- the other events
-- the grown list becomes that edition
abbrev pub contents_with_edition : ReplayContents → EditionParts → ReplayContents
contents_with_edition c e = record c {
  editions = c.editions ++ e ∷ [];
  grown = [];
  improved = replicate (length c.improved) false;
  latest_values = c.grown_values;
  grown_values = c.latest_values;
  stages_left = c.stages_left - 1;
}

-- the edition of the grown list
abbrev pub grown_edition : ReplayContents → EditionParts
grown_edition c = record { number = length c.editions; task = c.task; members = c.grown }

abbrev pub contents_at_end : ReplayContents → ReplayContents
contents_at_end c = record c { done = true }

-- these members as the next edition
abbrev pub edition_with : ReplayContents → List Member → EditionParts
edition_with c members = record { number = length c.editions; task = c.task; members = members }

-- that edition is the latest
abbrev pub with_edition : ReplayContents → EditionParts → ReplayContents
with_edition c e = record c { editions = c.editions ++ e ∷ [] }
