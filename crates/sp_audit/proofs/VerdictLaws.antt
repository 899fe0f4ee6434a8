-- The laws of verdicts.
use Rattle.std.proofs.Common.{◌≡◌, sym, ap, subst, refl, arith, ℕ, ◌+◌, ◌<◌, List, Some, None}
use Rattle.sp_theory.specs.Values as theory
use Rattle.sp_theory.specs.Book.{Task}
use Rattle.sp_theory.specs.Logs.{Log, IsLegalLog}
use Rattle.sp_theory.proofs.Order.{by_order}
use Rattle.sp_model.proofs.RowLaw.{problem_lawful}
use Rattle.sp_value.specs.Tasks.{task_of}
use Rattle.sp_faults.specs.Clauses.{Clause}
use Rattle.sp_faults.specs.LogFaults.{IsWrongLog}
use Rattle.sp_faults.proofs.RunLemmas.{wrong_runs_are_not_legal, runs_are_wrong_once, no_run_is_neither, legal_runs_are_sound}
use Rattle.sp_faults.proofs.LogLemmas.{wrong_logs_are_not_legal, logs_are_wrong_once}
use Rattle.sp_audit.specs.Logs.{IsWrongTranscript}
use Rattle.sp_audit.specs.Verdicts.{run_editions}
use Rattle.sp_audit.specs.Laws.{WrongIsNotLegal, IsWrongOnce, NothingIsNeither, LegalRunsKeepTheirWord}
use Rattle.sp_audit.proofs.Transcripts.{before_at, all_at, no_logs_are_neither}

pub wrong_is_not_legal : WrongIsNotLegal
wrong_is_not_legal t es logs None n c (i, is, wrong) legal = wrong_runs_are_not_legal t es i c wrong legal.run
wrong_is_not_legal t es logs (Some number) n c (run, i, is, wrong) legal =
    wrong_logs_are_not_legal t.model (run_editions t es) wrong.log.entries i c wrong.wrong
    (all_at (λ (log : Log). IsLegalLog t.model (run_editions t es) log.entries) logs number wrong.log wrong.stands legal.transcript)

-- logs are wrong once
module _ (t : Task) (editions : List theory.Edition) (logs : List Log) where
  not_later : (number other i j : ℕ) (c d : Clause) → IsWrongTranscript t.model editions logs number i c → IsWrongTranscript t.model editions logs other j d → ¬ (number < other)
  not_later number other i j c d w v less =
      wrong_logs_are_not_legal t.model editions w.log.entries i c w.wrong
      (before_at (λ (log : Log). IsLegalLog t.model editions log.entries) logs other number w.log less w.stands v.before)

  same_log : (number i j : ℕ) (c d : Clause) → IsWrongTranscript t.model editions logs number i c → IsWrongTranscript t.model editions logs number j d → (i ≡ j) × (c ≡ d)
  same_log number i j c d w v =
      let same : w.log ≡ v.log = (let first = w.stands in let second = v.stands in cc) in
      logs_are_wrong_once t.model editions w.log.entries i j c d w.wrong (subst (λ (log : Log). IsWrongLog t.model editions log.entries j d) (sym same) v.wrong)

  logs_once : (number other i j : ℕ) (c d : Clause) → IsWrongTranscript t.model editions logs number i c → IsWrongTranscript t.model editions logs other j d → (number ≡ other) × (i ≡ j) × (c ≡ d)
  logs_once number other i j c d w v =
      by_order number other
      (λ less. absurd (not_later number other i j c d w v less))
      (λ same. let both = same_log number i j c d w (subst (λ (n : ℕ). IsWrongTranscript t.model editions logs n j d) (sym same) v) in (same, both.0, both.1))
      (λ more. absurd (not_later other number j i d c v w more))

pub is_wrong_once : IsWrongOnce
is_wrong_once t es logs None None n k c d (i, is, wrong) (j, at, other) = let (same, one) = runs_are_wrong_once t es i j c d wrong other in (refl, omega (arith, is, at, same), one)
is_wrong_once t es logs None (Some number) n k c d (i, is, wrong) (legal, j, at, other) = absurd (wrong_runs_are_not_legal t es i c wrong legal)
is_wrong_once t es logs (Some number) None n k c d (legal, i, is, wrong) (j, at, other) = absurd (wrong_runs_are_not_legal t es j d other legal)
is_wrong_once t es logs (Some number) (Some other) n k c d (legal, i, is, wrong) (legal_too, j, at, worse) =
    let (log, same, one) = logs_once t (run_editions t es) logs number other i j c d wrong worse in
    (ap (λ (l : ℕ). Some l) log, omega (arith, is, at, same), one)

pub nothing_is_neither : NothingIsNeither
nothing_is_neither t es logs sampled seen not_legal none =
    no_run_is_neither t es sampled
    (λ run. no_logs_are_neither t.model (run_editions t es) logs seen (λ legal. not_legal (record { run = run; transcript = legal }))
    (λ number i c w. none (Some number) (i + 1) c (run, i, refl, w)))
    (λ i c w. none None (i + 1) c (i, refl, w))

pub legal_runs_keep_their_word : LegalRunsKeepTheirWord
legal_runs_keep_their_word t is es logs legal = legal_runs_are_sound (task_of t) (problem_lawful t.model is.model) (let some = is.some_beliefs in omega (arith, some)) es legal.run
