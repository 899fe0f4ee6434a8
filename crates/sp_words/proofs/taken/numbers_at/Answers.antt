use Rattle.std.proofs.Common.{rules}
use Rattle.clap.specs.Words.{found_of, rows_of}
use Rattle.sp_words.specs.Jobs.{GivePlanNumbers}
use Rattle.sp_words.specs.declared.job.PlanNumbers.{PlanNumbers}
use Rattle.sp_words.proofs.taken.numbers_at.Goals as goal

pub returns-in_err-beliefs : goal.returns-in_err-beliefs
returns-in_err-beliefs c =
    let none : (numbers : PlanNumbers) → ¬ (GivePlanNumbers (rows_of (found_of c.args.matches.now)) numbers) = λ numbers is. c.in_err-beliefs.ensures numbers.beliefs is.beliefs in
    search rules

pub returns-in_err-depth : goal.returns-in_err-depth
returns-in_err-depth c =
    let none : (numbers : PlanNumbers) → ¬ (GivePlanNumbers (rows_of (found_of c.args.matches.now)) numbers) = λ numbers is. c.in_err-depth.ensures numbers.depth is.depth in
    search rules

pub returns-in_err-stages : goal.returns-in_err-stages
returns-in_err-stages c =
    let none : (numbers : PlanNumbers) → ¬ (GivePlanNumbers (rows_of (found_of c.args.matches.now)) numbers) = λ numbers is. c.in_err-stages.ensures numbers.stages is.stages in
    search rules

pub returns-in_err-seed : goal.returns-in_err-seed
returns-in_err-seed c =
    let none : (numbers : PlanNumbers) → ¬ (GivePlanNumbers (rows_of (found_of c.args.matches.now)) numbers) = λ numbers is. c.in_err-seed.ensures numbers.seed is.seed in
    search rules

pub returns-in_err-workers : goal.returns-in_err-workers
returns-in_err-workers c =
    let none : (numbers : PlanNumbers) → ¬ (GivePlanNumbers (rows_of (found_of c.args.matches.now)) numbers) = λ numbers is. c.in_err-workers.ensures numbers.workers is.workers in
    search rules
