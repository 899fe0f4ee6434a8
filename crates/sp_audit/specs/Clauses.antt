-- Clauses, as the theory has them.
use Rattle.sp_faults.specs.Clauses as theory
use Rattle.sp_audit.specs.declared.clause.Clause.{Clause}
use Rattle.sp_audit.specs.declared.clause.Clause.TheVariants as clauses

-- the clause, as the theory has it
abbrev pub clause_of : Clause → theory.Clause
clause_of clauses.AfterEnd = theory.after_end
clause_of clauses.Edition = theory.edition
clause_of clauses.Backup = theory.backup
clause_of clauses.Publish = theory.publish
clause_of clauses.Prune = theory.prune
clause_of clauses.End = theory.end
clause_of clauses.Unfinished = theory.unfinished
clause_of clauses.Closing = theory.closing
clause_of clauses.Older = theory.older
clause_of clauses.Greatest = theory.greatest
clause_of clauses.Action = theory.action
clause_of clauses.Belief = theory.belief
