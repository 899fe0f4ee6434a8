-- The laws, as the functions of this crate state them.
use Rattle.std.proofs.Common.{◌≡◌, ◌≢◌, ℕ, ◌+◌, ◌*◌, ◌-◌, ◌^◌, ◌<◌, ◌≤◌, ◌++◌, List, [], ◌∷◌, length, get_or, Bool, false, true}
use Rattle.std.specs.Prelude.{ℤ, pos, neg_ℤ, ◌+ℤ◌, ◌≤ℤ◌, ◌<ℤ◌, All, AllPairs, Contains}
use Rattle.sp_theory.specs.Sums.{times, sum_below}
use Rattle.sp_theory.specs.Points.{IsPoint, count_of}
use Rattle.sp_theory.specs.Draws.{q, Draws, AreProbabilitiesWhole, mean, weigh_out, floored_expectation}
use Rattle.sp_theory.specs.Model.{Model, State, Vector, IsLawful, least_reward, greatest_reward, AreRewards, IsReached, least_return, top, divisions}
use Rattle.sp_theory.specs.Step.{LinkedVectors, step, exact_step}
use Rattle.sp_theory.specs.Plan.{Record, record_at, exact_return, IsPlan, HasValues}
use Rattle.sp_theory.specs.Values.{Weights, Member, Edition, greatest, dot, total, value, Reaches}
use Rattle.sp_theory.specs.Backup.{estimate, exact_estimate, candidate, choice, exact_backup, tick_bound}
use Rattle.sp_theory.specs.Book.{Task, Book, Event, settle, publish, prune, end, opening, editions, settled_record, IsMember, pruned, CanPrune, Allowed, after_event}
use Rattle.sp_theory.specs.Runs.{IsHistory, replay, IsLegal, IsPrompt, publications}
use Rattle.sp_theory.specs.OneThread.{dominated, applying, Marks, all_improved, IsBetweenTurns, due_events, one_thread}

-- ---- the range of returns
-- the least and the greatest reward are those of all actions, states and next states, and the range is their worth for ever, rounded
pub record IsExactRange (m : Model) : Type 0 where
  pub lowest : AreRewards m (λ r. least_reward m ≤ℤ r)
  pub lowest_reached : IsReached m (least_reward m)
  pub highest : AreRewards m (λ r. r ≤ℤ greatest_reward m)
  pub highest_reached : IsReached m (greatest_reward m)
  -- L is the greatest whole number that is at most the least reward times q over q - g, H the least that is at least the greatest so
  pub least_rounded : (times (q - m.discount) (least_return m) ≤ℤ times q (least_reward m)) × (times q (least_reward m) <ℤ times (q - m.discount) (least_return m +ℤ pos 1))
  pub top_rounded : (times q (greatest_reward m) ≤ℤ times (q - m.discount) (top m)) × (times (q - m.discount) (top m) <ℤ (times q (greatest_reward m) +ℤ pos (q - m.discount)))
  pub ordered : least_return m ≤ℤ top m
  -- one step more stays in the range
  pub stays_above : AreRewards m (λ r. times q (least_return m) ≤ℤ (times q r +ℤ times m.discount (least_return m)))
  pub stays_below : AreRewards m (λ r. (times q r +ℤ times m.discount (top m)) ≤ℤ times q (top m))

-- of each lawful model with a state
abbrev pub RangeIsExact : Type 0
RangeIsExact = (m : Model) → IsLawful m → 0 < count_of m.sizes → IsExactRange m

-- where the discount is at most 0.999, the range is within a thousand times the magnitude of the rewards
abbrev pub RangeIsBounded : Type 0
RangeIsBounded = (m : Model) → IsLawful m → 0 < count_of m.sizes → m.discount ≤ 999000000 → (r : ℕ) → AreRewards m (λ z. (neg_ℤ (pos r) ≤ℤ z) × (z ≤ℤ pos r))
    → (neg_ℤ (pos (1000 * r)) ≤ℤ least_return m) × (top m ≤ℤ pos (1000 * r))

-- ---- weighing out
-- one variable: at most the exact sum over q, less than one below it, monotone, and within the range of its values
abbrev pub WeighingIsClose : Type 0
WeighingIsClose = (size : ℕ) (row : ℕ → ℕ) (f : ℕ → ℤ) → sum_below size (λ x. pos (row x)) ≡ pos q
    → (times q (weigh_out size row f) ≤ℤ sum_below size (λ x. times (row x) (f x)))
    × (sum_below size (λ x. times (row x) (f x)) <ℤ times q (weigh_out size row f +ℤ pos 1))
    × ((g : ℕ → ℤ) → ((x : ℕ) → x < size → f x ≤ℤ g x) → weigh_out size row f ≤ℤ weigh_out size row g)
    × ((low high : ℤ) → ((x : ℕ) → x < size → (low ≤ℤ f x) × (f x ≤ℤ high)) → (low ≤ℤ weigh_out size row f) × (weigh_out size row f ≤ℤ high))

-- several variables: at most the exact expectation, and at most one below it for each variable
abbrev pub WeighingsAreClose : Type 0
WeighingsAreClose = (sizes : List ℕ) (draws : Draws) (f : List ℕ → ℤ) → AreProbabilitiesWhole sizes draws
    → (times (q ^ length sizes) (floored_expectation sizes draws f) ≤ℤ mean sizes draws f)
    × (mean sizes draws f ≤ℤ times (q ^ length sizes) (floored_expectation sizes draws f +ℤ pos (length sizes)))

-- ---- one step
-- each link is at least the least return at each next state
abbrev pub AreFromLeast : Model → LinkedVectors → Type 0
AreFromLeast m links = (seen next : List ℕ) → IsPoint m.sight_sizes seen → IsPoint m.sizes next → least_return m ≤ℤ links seen next

-- each link is at most the top at each next state
abbrev pub AreToTop : Model → LinkedVectors → Type 0
AreToTop m links = (seen next : List ℕ) → IsPoint m.sight_sizes seen → IsPoint m.sizes next → links seen next ≤ℤ top m

-- the floored one-step value is at most the exact one of its links, and at most n + m + 1 ticks below it
abbrev pub StepIsClose : Type 0
StepIsClose = (m : Model) → IsLawful m → (a : ℕ) → a < m.actions → (links : LinkedVectors) → AreFromLeast m links → (s : State) → IsPoint m.sizes s
    → (times (q ^ divisions m) (step m a links s) ≤ℤ exact_step m a links s)
    × (exact_step m a links s ≤ℤ times (q ^ divisions m) (step m a links s +ℤ pos (divisions m)))

-- it is between the least return and the top
abbrev pub StepIsInRange : Type 0
StepIsInRange = (m : Model) → IsLawful m → (a : ℕ) → a < m.actions → (links : LinkedVectors) → AreToTop m links → (s : State) → IsPoint m.sizes s
    → (least_return m ≤ℤ step m a links s) × (step m a links s ≤ℤ top m)

-- an estimate is at most the exact one, and at most n + m ticks for each unit of weight below it
abbrev pub EstimateIsClose : Type 0
EstimateIsClose = (m : Model) → IsLawful m → (w : Weights) (a : ℕ) → a < m.actions → (seen : List ℕ) → IsPoint m.sight_sizes seen → (v : Vector)
    → let draws = length m.sizes + length m.sight_sizes in
    (times (q ^ draws) (estimate m w a seen v) ≤ℤ exact_estimate m w a seen v)
    × (exact_estimate m w a seen v ≤ℤ times (q ^ draws) (estimate m w a seen v +ℤ times draws (total m w)))

-- ---- the backup
-- a vector that is worth so much at the weights is at most the exact backup on the edition, and at most K ticks for each unit of weight below it
abbrev pub IsCloseAt : Model → Edition → Weights → ℤ → Type 0
IsCloseAt m edition w worth =
    (times (q ^ divisions m) worth ≤ℤ exact_backup m edition w)
    × (exact_backup m edition w ≤ℤ times (q ^ divisions m) (worth +ℤ times (tick_bound m) (total m w)))

-- the backup on an edition that is not empty and nowhere below the least return
abbrev pub BackupIsClose : Type 0
BackupIsClose = (m : Model) → IsLawful m → (edition : Edition) → 0 < length edition
    → All (λ x. (s : State) → IsPoint m.sizes s → least_return m ≤ℤ x.vector s) edition
    → (w : Weights) → IsCloseAt m edition w (dot m w (candidate m edition w (choice m edition w)))

-- a recorded backup: the vector of its record, at its belief, on its edition
unfoldable pub IsClose : Task → Book → Event → Type 0
IsClose t b (settle k e a links) = IsCloseAt t.model (get_or (editions b) e b.latest) (t.samples k) (dot t.model (t.samples k) (settled_record t b a links).vector)
IsClose t b publish = Unit {0}
IsClose t b (prune pairs) = Unit {0}
IsClose t b end = Unit {0}

-- each recorded backup of these events
unfoldable pub AllClose : Task → Book → List Event → Type 0
AllClose t b [] = Unit {0}
AllClose t b (e ∷ es) = IsClose t b e × AllClose t (after_event t b e) es

-- each recorded backup of a run
abbrev pub RecordedBackupsAreClose : Type 0
RecordedBackupsAreClose = (t : Task) → IsLawful t.model → 0 < t.beliefs → (es : List Event) → IsHistory t (opening t) es → AllClose t (opening t) es

-- ---- the greatest of a list
-- of elements of this type, not none: the greatest is one of them, no score is above its own, and none of an equal score has a lesser number
abbrev pub GreatestIsLeast : Type 0 → Type 0
GreatestIsLeast X = (none : X) (score : X → ℤ) (id : X → ℕ) (xs : List X) → 0 < length xs
    → let best = greatest none score id xs in
    Contains xs best × All (λ x. score x ≤ℤ score best) xs × All (λ x. score x ≡ score best → id best ≤ id x) xs

-- ---- plans
-- a plan is worth at least the least return, from each record, at each height and state
abbrev pub ReturnsAreFromLeast : Type 0
ReturnsAreFromLeast = (m : Model) → IsLawful m → (records : List Record) → IsPlan m records
    → (h i : ℕ) (s : State) → IsPoint m.sizes s → times (q ^ (divisions m * h)) (least_return m) ≤ℤ exact_return m records h i s

-- each record's vector is at most its exact return, and between the least return and the top
abbrev pub VectorsAreLowerBounds : Type 0
VectorsAreLowerBounds = (m : Model) → IsLawful m → (records : List Record) → IsPlan m records → HasValues m records
    → (i : ℕ) (s : State) → i < length records → IsPoint m.sizes s
    → (times (q ^ (divisions m * i)) ((record_at m records i).vector s) ≤ℤ exact_return m records i i s)
    × (least_return m ≤ℤ (record_at m records i).vector s) × ((record_at m records i).vector s ≤ℤ top m)

-- ---- pruning
-- members that may go change no value
abbrev pub PruningKeepsValues : Type 0
PruningKeepsValues = (m : Model) (edition : Edition) (pairs : List (ℕ × ℕ)) → CanPrune m edition pairs
    → (w : Weights) → value m (pruned edition pairs) w ≡ value m edition w

-- members of one id have one vector, as members of records do
abbrev pub IdsTellVectors : Edition → Type 0
IdsTellVectors edition = All (λ x. All (λ y. y.id ≡ x.id → y.vector ≡ x.vector) edition) edition

-- the dominated members of such an edition may go, in order, where both members of a pair are still there
abbrev pub DominatedMayGo : Type 0
DominatedMayGo = (m : Model) (edition : Edition) → IdsTellVectors edition → CanPrune m edition (applying edition (dominated m edition))

-- ---- runs
-- no value at a sampled belief is less in the second edition
abbrev pub ValuesRise : Task → Edition → Edition → Type 0
ValuesRise t x y = (k : ℕ) → k < t.beliefs → value t.model x (t.samples k) ≤ℤ value t.model y (t.samples k)

-- two members of different records
abbrev pub Apart : Member → Member → Type 0
Apart x y = x.id ≢ y.id

-- a sound book: what the events of a run keep
pub record IsSound (t : Task) (b : Book) : Type 0 where
  -- the records are a plan with its vectors, and the members are records
  pub plan : IsPlan t.model b.records
  pub values : HasValues t.model b.records
  pub members : All (All (IsMember t.model b.records)) (editions b)
  pub grown_members : All (IsMember t.model b.records) b.grown
  -- each member's vector is between the least return and the top, and at most the exact return of the plan that its links spell
  pub ranged : All (All (λ x. (s : State) → IsPoint t.model.sizes s → (least_return t.model ≤ℤ x.vector s) × (x.vector s ≤ℤ top t.model))) (editions b)
  pub below_return : All (All (λ x. (s : State) → IsPoint t.model.sizes s → times (q ^ (divisions t.model * x.id)) (x.vector s) ≤ℤ exact_return t.model b.records x.id x.id s)) (editions b)
  -- no value at a sampled belief falls from an edition to a later one
  pub never_falls : AllPairs (ValuesRise t) (editions b)
  -- where a flag is up, some grown member is there at least as good as the latest edition
  pub improves : (k : ℕ) → k < t.beliefs → b.improved k ≡ true → Reaches t.model b.grown (t.samples k) (value t.model b.latest (t.samples k))
  -- each grown member has raised the flag of every belief at which it is at least as good as the latest edition
  pub raisers : All (λ x. (k : ℕ) → k < t.beliefs → value t.model b.latest (t.samples k) ≤ℤ dot t.model (t.samples k) x.vector → b.improved k ≡ true) b.grown
  -- no edition is empty, and no record is twice in an edition or in the grown list
  pub filled : All (λ (edition : Edition). 0 < length edition) (editions b)
  pub apart : All (AllPairs Apart) (editions b)
  pub grown_apart : AllPairs Apart b.grown

-- of each book that the events of an allowed history lead to
abbrev pub RunsAreSound : Type 0
RunsAreSound = (t : Task) → IsLawful t.model → 0 < t.beliefs → (es : List Event) → IsHistory t (opening t) es → IsSound t (replay t (opening t) es)

-- the last event is the end, and it stands once
abbrev pub EndsOnce : List Event → Type 0
EndsOnce es = (front : List Event) × (es ≡ front ++ end ∷ []) × All (λ e. e ≢ end) front

-- of each legal run
abbrev pub LegalRunsEndOnce : Type 0
LegalRunsEndOnce = (t : Task) (es : List Event) → IsLegal t es → EndsOnce es

-- in a prompt run the publications so far and the stages that are left are all stages together; and where the run is done, the publications are
abbrev pub StagesArePublished : Type 0
StagesArePublished = (t : Task) (es : List Event) → IsHistory t (opening t) es → IsPrompt t (opening t) es
    → (publications es + (replay t (opening t) es).stages_left ≡ t.stages) × ((replay t (opening t) es).done ≡ true → publications es ≡ t.stages)

-- in a prompt run with a stage to plan the end stands directly after a publication
abbrev pub EndFollowsPublication : Type 0
EndFollowsPublication = (t : Task) → 0 < t.stages → (es front : List Event) → IsHistory t (opening t) es → IsPrompt t (opening t) es → es ≡ front ++ end ∷ []
    → (start : List Event) × (front ≡ start ++ publish ∷ [])

-- in a prompt run each publication stands directly after a settle, at which the last flag was raised
abbrev pub PublicationsFollowSettles : Type 0
PublicationsFollowSettles = (t : Task) → 0 < t.beliefs → (es front back : List Event) → IsHistory t (opening t) es → IsPrompt t (opening t) es → es ≡ front ++ publish ∷ back
    → (start : List Event) × (k : ℕ) × (e : ℕ) × (a : ℕ) × (links : List ℕ) × (front ≡ start ++ settle k e a links ∷ []) × (all_improved t (replay t (opening t) start) ≡ false)

-- a settle raises the flag of its belief, and lowers none
abbrev pub SettleImproves : Type 0
SettleImproves = (t : Task) (b : Book) (k e a : ℕ) (links : List ℕ)
    → let next = after_event t b (settle k e a links) in
    (next.improved k ≡ true) × ((j : ℕ) → b.improved j ≡ true → next.improved j ≡ true)

-- events that are allowed and prompt after a book, and lead to one between turns
abbrev pub EventsGoOn : Task → Book → List Event → Type 0
EventsGoOn t b es = IsHistory t b es × IsPrompt t b es × IsBetweenTurns t (replay t b es)

-- after the events of a run, between turns: a settle that may come next goes on with what is due then
abbrev pub SettleGoesOn : Type 0
SettleGoesOn = (t : Task) → IsLawful t.model → 0 < t.beliefs → (es : List Event) → IsHistory t (opening t) es
    → let b = replay t (opening t) es in
    IsBetweenTurns t b → (k e a : ℕ) (links : List ℕ) → Allowed t b (settle k e a links) → (pruning : Bool)
    → EventsGoOn t b (settle k e a links ∷ due_events t pruning (after_event t b (settle k e a links)))

-- and so does a prune
abbrev pub PruneGoesOn : Type 0
PruneGoesOn = (t : Task) (b : Book) → IsBetweenTurns t b → (pairs : List (ℕ × ℕ)) → Allowed t b (prune pairs) → EventsGoOn t b (prune pairs ∷ [])

-- and one thread, whatever the words
abbrev pub OneThreadGoesOn : Type 0
OneThreadGoesOn = (t : Task) → IsLawful t.model → 0 < t.beliefs → (es : List Event) → IsHistory t (opening t) es
    → let b = replay t (opening t) es in
    IsBetweenTurns t b → (pruning : Bool) (taken : Marks) (words : List ℕ) → EventsGoOn t b (one_thread t pruning b taken words)

-- from the opening the events of one thread are allowed and prompt, whatever the words
abbrev pub OneThreadIsPrompt : Type 0
OneThreadIsPrompt = (t : Task) → IsLawful t.model → 0 < t.beliefs → 0 < t.stages → (pruning : Bool) (taken : Marks) (words : List ℕ)
    → let events = one_thread t pruning (opening t) taken words in
    IsHistory t (opening t) events × IsPrompt t (opening t) events

-- one thread brings the run to its end within as many words as there are sampled beliefs times stages that are left
abbrev pub OneThreadCompletes : Type 0
OneThreadCompletes = (t : Task) → IsLawful t.model → 0 < t.beliefs → (es : List Event) → IsHistory t (opening t) es
    → let b = replay t (opening t) es in
    IsBetweenTurns t b → (pruning : Bool) (taken : Marks) (words : List ℕ) → t.beliefs * b.stages_left ≤ length words → IsLegal t (es ++ one_thread t pruning b taken words)

-- from the opening within as many words as there are sampled beliefs times stages
abbrev pub OneThreadEnds : Type 0
OneThreadEnds = (t : Task) → IsLawful t.model → 0 < t.beliefs → 0 < t.stages → (pruning : Bool) (taken : Marks) (words : List ℕ) → t.beliefs * t.stages ≤ length words
    → IsLegal t (one_thread t pruning (opening t) taken words)
