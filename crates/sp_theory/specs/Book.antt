-- The book of a planning run: its records, editions and flags, and what each event does to them.
use Rattle.std.proofs.Common.{◌≡◌, ◌≢◌, ℕ, ◌<◌, ◌-◌, List, [], ◌∷◌, ◌++◌, length, get_or, Bool, true, false, cond, not, ◌||◌, Option, Some, None, eqb}
use Rattle.std.specs.Prelude.{◌≤ℤ◌, int_lt, filter, All, Any}
use Rattle.std.specs.List.{fold}
use Rattle.sp_theory.specs.Points.{IsPoint}
use Rattle.sp_theory.specs.Model.{Model, State}
use Rattle.sp_theory.specs.Step.{step}
use Rattle.sp_theory.specs.Plan.{Record, leaf, record_at, link_of}
use Rattle.sp_theory.specs.Values.{Weights, Member, leaf_member, Edition, dot, greatest_member, value}
use Rattle.sp_theory.specs.Backup.{IsBackup}

-- what is planned: a model, its sampled beliefs, and how many stages
pub record Task : Type 0 where
  pub model : Model
  -- how many beliefs are sampled, and the weights of each
  pub beliefs : ℕ
  pub samples : ℕ → Weights
  pub stages : ℕ

-- the state of a planning run
pub record Book : Type 0 where
  pub records : List Record
  -- the editions: those before the latest in order, and the latest
  pub earlier : List Edition
  pub latest : Edition
  -- the grown list, which becomes the next edition
  pub grown : Edition
  -- the flags of the sampled beliefs: whether something has entered the grown list that is there at least as good as the latest edition
  pub improved : ℕ → Bool
  pub stages_left : ℕ
  pub done : Bool

-- what happens to the book
pub data Event : Type 0 where
  -- a backup at a belief on an edition: their numbers, the action, the links
  settle : ℕ → ℕ → ℕ → List ℕ → Event
  -- the grown list becomes the latest edition
  publish : Event
  -- of each pair of ids the first leaves the latest edition, since the second is nowhere less
  prune : List (ℕ × ℕ) → Event
  -- the run is over
  end : Event

-- the book before any event: the leaf alone
unfoldable pub opening : Task → Book
opening t = record { records = leaf t.model ∷ []; earlier = []; latest = leaf_member t.model ∷ []; grown = []; improved = λ k. false; stages_left = t.stages; done = false }

-- the member is that of its record
abbrev pub IsMember : Model → List Record → Member → Type 0
IsMember m records x = (x.id < length records) × (x.vector ≡ (record_at m records x.id).vector) × (x.action ≡ (record_at m records x.id).action)

-- all editions in order
abbrev pub editions : Book → List Edition
editions b = b.earlier ++ b.latest ∷ []

-- ---- settle
-- the record that a settle appends: the action, the links, and their floored one-step value
abbrev pub settled_record : Task → Book → ℕ → List ℕ → Record
settled_record t b a links = record { action = a; links = links; vector = step t.model a (λ seen. (record_at t.model b.records (link_of t.model links seen)).vector) }

-- the member of that record
abbrev pub settled_member : Task → Book → ℕ → List ℕ → Member
settled_member t b a links = record { id = length b.records; action = a; vector = (settled_record t b a links).vector }

-- what enters the grown list with a new member at belief k. At an improved belief: the new member where it is better than the grown list.
-- Else the new member where it is at least as good as the latest edition, or the latest edition's greatest
unfoldable pub entering : Task → Book → ℕ → Member → Option Member
entering t b k x =
    let w = t.samples k in
    cond (b.improved k)
    (cond (int_lt (value t.model b.grown w) (dot t.model w x.vector)) (Some x) None)
    (cond (int_lt (dot t.model w x.vector) (value t.model b.latest w)) (Some (greatest_member t.model b.latest w)) (Some x))

-- what enters raises the flag of each belief at which it is at least as good as the latest edition
unfoldable pub entered : Task → Book → Option Member → Book
entered t b None = b
entered t b (Some x) = record b { grown = b.grown ++ x ∷ []; improved = λ j. b.improved j || not (int_lt (dot t.model (t.samples j) x.vector) (value t.model b.latest (t.samples j))) }

-- ---- prune
-- the edition without the member of that id
abbrev pub without : Edition → ℕ → Edition
without edition id = filter (λ z. not (eqb z.id id)) edition

-- the edition without the first of each pair
unfoldable pub pruned : Edition → List (ℕ × ℕ) → Edition
pruned edition pairs = fold (λ left pair. without left pair.0) edition pairs

-- a member of the edition has that id
abbrev pub IsPresent : Edition → ℕ → Type 0
IsPresent edition id = Any (λ z. z.id ≡ id) edition

-- member x is at no state above member y
abbrev pub IsUnder : Model → Member → Member → Type 0
IsUnder m x y = (s : State) → IsPoint m.sizes s → x.vector s ≤ℤ y.vector s

-- each member of id x is under a member of id y
abbrev pub AreUnder : Model → Edition → ℕ → ℕ → Type 0
AreUnder m edition x y = All (λ p. p.id ≡ x → Any (λ r. (r.id ≡ y) × IsUnder m p r) edition) edition

-- at each pair in turn: the ids of two members of what remains of the edition, the first under the second
abbrev pub CanPrune : Model → Edition → List (ℕ × ℕ) → Type 0
CanPrune m edition [] = Unit {0}
CanPrune m edition ((x, y) ∷ pairs) = (x ≢ y) × IsPresent edition x × IsPresent edition y × AreUnder m edition x y × CanPrune m (without edition x) pairs

-- ---- events
-- the flags of all sampled beliefs are up
abbrev pub AllImproved : Task → Book → Type 0
AllImproved t b = (k : ℕ) → k < t.beliefs → b.improved k ≡ true

-- whether the event may come next
unfoldable pub Allowed : Task → Book → Event → Type 0
Allowed t b (settle k e a links) = (b.done ≡ false) × (k < t.beliefs) × (e < length (editions b)) × IsBackup t.model (get_or (editions b) e b.latest) (t.samples k) a links
Allowed t b publish = (b.done ≡ false) × AllImproved t b
Allowed t b (prune pairs) = (b.done ≡ false) × (0 < length pairs) × CanPrune t.model b.latest pairs
Allowed t b end = (b.done ≡ false) × (b.stages_left ≡ 0)

-- the book after the event
unfoldable pub after_event : Task → Book → Event → Book
after_event t b (settle k e a links) = entered t (record b { records = b.records ++ settled_record t b a links ∷ [] }) (entering t b k (settled_member t b a links))
after_event t b publish = record b { earlier = editions b; latest = b.grown; grown = []; improved = λ k. false; stages_left = b.stages_left - 1 }
after_event t b (prune pairs) = record b { earlier = editions b; latest = pruned b.latest pairs }
after_event t b end = record b { done = true }
