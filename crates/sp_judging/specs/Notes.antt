-- What is told of a plan file that isn't legal.
use Rattle.std.specs.Prelude.{ℕ, List, ◌++◌, codes}
use Rattle.std.specs.Fmt.{decimal}
use Rattle.sp_audit.specs.declared.clause.Clause.{Clause}
use Rattle.sp_audit.specs.declared.clause.Clause.TheVariants as clauses

-- the word of a clause
abbrev pub clause_word : Clause → List ℕ
clause_word clauses.AfterEnd = codes "after-end"
clause_word clauses.Edition = codes "edition"
clause_word clauses.Backup = codes "backup"
clause_word clauses.Publish = codes "publish"
clause_word clauses.Prune = codes "prune"
clause_word clauses.End = codes "end"
clause_word clauses.Unfinished = codes "unfinished"
clause_word clauses.Closing = codes "closing"
clause_word clauses.Older = codes "older"
clause_word clauses.Greatest = codes "greatest"
clause_word clauses.Action = codes "action"
clause_word clauses.Belief = codes "belief"

-- the event of that number, or the value of that number
abbrev pub event_note : ℕ → List ℕ → List ℕ
event_note number word = codes "event " ++ (decimal number ++ (codes ": " ++ word))

-- the entry of that number of a session's log
abbrev pub entry_note : List ℕ → ℕ → List ℕ → List ℕ
entry_note session number word = codes "session " ++ (session ++ (codes " entry " ++ (decimal number ++ (codes ": " ++ word))))
