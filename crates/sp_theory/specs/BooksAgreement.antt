-- Books that agree at all states: the same events may come next, and lead to books that agree.
use Rattle.std.proofs.Common.{◌≡◌, ℕ, ◌<◌, List, [], ◌∷◌, Option, Some, None}
use Rattle.sp_theory.specs.Model.{Model}
use Rattle.sp_theory.specs.Plan.{Record}
use Rattle.sp_theory.specs.Values.{Weights, Member, Edition, greatest_member, value}
use Rattle.sp_theory.specs.Backup.{IsBackup}
use Rattle.sp_theory.specs.Book.{Task, Book, Event, Allowed, after_event}
use Rattle.sp_theory.specs.OneThread.{dominated}
use Rattle.sp_theory.specs.Agreement.{VectorsAgree, WeightsAgree, MembersAgree, EditionsAgree, AllAgree}

-- the same action and links, and vectors that agree
abbrev pub RecordAgrees : Model → Record → Record → Type 0
RecordAgrees m r s = (r.action ≡ s.action) × (r.links ≡ s.links) × VectorsAgree m r.vector s.vector

-- records that agree, one after another
abbrev pub RecordsAgree : Model → List Record → List Record → Type 0
RecordsAgree m [] [] = Unit {0}
RecordsAgree m (r ∷ rs) (s ∷ ss) = RecordAgrees m r s × RecordsAgree m rs ss
RecordsAgree m [] (s ∷ ss) = ⊥
RecordsAgree m (r ∷ rs) [] = ⊥

-- no member, or members that agree
abbrev pub EntrantsAgree : Model → Option Member → Option Member → Type 0
EntrantsAgree m None None = Unit {0}
EntrantsAgree m (Some x) (Some y) = MembersAgree m x y
EntrantsAgree m None (Some y) = ⊥
EntrantsAgree m (Some x) None = ⊥

-- records, editions and grown lists that agree, and the same flags and stages
pub record BooksAgree (t : Task) (b c : Book) : Type 0 where
  pub records : RecordsAgree t.model b.records c.records
  pub earlier : AllAgree t.model b.earlier c.earlier
  pub latest : EditionsAgree t.model b.latest c.latest
  pub grown : EditionsAgree t.model b.grown c.grown
  pub improved : (k : ℕ) → k < t.beliefs → b.improved k ≡ c.improved k
  pub stages_left : b.stages_left ≡ c.stages_left
  pub done : b.done ≡ c.done

-- ---- laws
-- editions and weights that agree have the same value, greatest members that agree, the same backup and the same dominated pairs
abbrev pub EditionsAreAlike : Type 0
EditionsAreAlike = (m : Model) (edition other : Edition) (w x : Weights) → EditionsAgree m edition other → WeightsAgree m w x
    → (value m edition w ≡ value m other x) × MembersAgree m (greatest_member m edition w) (greatest_member m other x)
    × ((a : ℕ) (links : List ℕ) → IsBackup m edition w a links → IsBackup m other x a links)
    × (dominated m edition ≡ dominated m other)

-- an event that may come next after a book may come next after one that agrees, and the books after it agree
abbrev pub BooksGoOnAlike : Type 0
BooksGoOnAlike = (t : Task) (b c : Book) → BooksAgree t b c → (e : Event) → Allowed t b e → Allowed t c e × BooksAgree t (after_event t b e) (after_event t c e)
