use Rattle.std.proofs.Common.{◌≡◌, codes, rules, subst}
use Rattle.clap.specs.Words.{found_of, rows_of}
use Rattle.sp_words.specs.Jobs.{IsCommandWord}
use Rattle.sp_words.proofs.ParserLemmas.{no_gen_given, no_trial_given}
use Rattle.sp_words.proofs.taken.job_of.Goals as goal

pub returns-in-None-clause-usage : goal.returns-in-None-clause-usage
returns-in-None-clause-usage c =
    let is : c.args.command.now ≡ codes "gen" = search rules in
    λ e job command. no_gen_given (rows_of (found_of c.args.matches.now)) c.in-None.ensures job (subst (IsCommandWord job) is command)

pub returns-in-None-number_at-clause-usage : goal.returns-in-None-number_at-clause-usage
returns-in-None-number_at-clause-usage c =
    let is : c.args.command.now ≡ codes "trial" = search rules in
    λ e job command. no_trial_given (rows_of (found_of c.args.matches.now)) c.in-None-number_at.ensures job (subst (IsCommandWord job) is command)
