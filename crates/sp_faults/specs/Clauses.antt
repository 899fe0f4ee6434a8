-- The clauses of an audit: what is wrong with an event of a run, or with an entry of a log.
use Rattle.std.proofs.Common.{◌≡◌, ◌⊎◌, List, [], ◌∷◌}

pub data Clause : Type 0 where
  -- of an event: it stands behind the end
  after_end : Clause
  -- of an event or an entry: it names an edition that is not there
  edition : Clause
  -- of a settle: it is not the backup
  backup : Clause
  -- of a publication: a flag is down
  publish : Clause
  -- of a prune: a pair may not go
  prune : Clause
  -- of the end: a stage is left
  end : Clause
  -- of a run: it has no end
  unfinished : Clause
  -- of an entry: it stands behind the closing answer, or is that on another edition than the last; of a log: it is not closed
  closing : Clause
  -- of an entry: its edition is older than one that the session saw or was told of
  older : Clause
  -- of an answer: its member is not the greatest
  greatest : Clause
  -- of an answer: its action is not the member's
  action : Clause
  -- of an observation: the belief does not allow it
  belief : Clause

-- of clauses in order, the first one that is broken
abbrev pub IsFirstClause : (Clause → Type 0) → List Clause → Clause → Type 0
IsFirstClause P [] c = ⊥
IsFirstClause P (x ∷ xs) c = ((c ≡ x) × P x) ⊎ ((¬ P x) × IsFirstClause P xs c)

-- the order at an event
abbrev pub event_clauses : List Clause
event_clauses = after_end ∷ edition ∷ backup ∷ publish ∷ prune ∷ end ∷ []

-- the order at an entry
abbrev pub entry_clauses : List Clause
entry_clauses = closing ∷ edition ∷ older ∷ greatest ∷ action ∷ belief ∷ []
