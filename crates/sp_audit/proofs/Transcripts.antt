-- Logs one after another.
use Rattle.std.proofs.Common.{◌≡◌, ℕ, zero, suc, ◌<◌, List, [], ◌∷◌, take, Some, refl, arith}
use Rattle.std.specs.Prelude.{All, slice_get}
use Rattle.std.proofs.lemmas.List.Elements.{All-nil, All-cons, All-head, All-tail, All-weaker}
use Rattle.sp_theory.specs.Model.{Model}
use Rattle.sp_theory.specs.Values.{Edition}
use Rattle.sp_theory.specs.Agreement.{AllAgree}
use Rattle.sp_theory.specs.Logs.{Log, IsLegalLog, IsLegalTranscript}
use Rattle.sp_theory.proofs.LogLemmas.{legal_logs_agree}
use Rattle.sp_faults.specs.Clauses.{Clause}
use Rattle.sp_faults.specs.LogFaults.{AreSeen}
use Rattle.sp_faults.proofs.LogLemmas.{no_log_is_neither, wrong_logs_agree}
use Rattle.sp_audit.specs.Logs.{AreAllSeen, IsWrongTranscript}

-- an item of the first ones
pub before_at : {X : Type 0} (P : X → Type 0) (xs : List X) (n k : ℕ) (x : X) → k < n → slice_get xs k ≡ Some x → All P (take n xs) → P x
before_at P [] n k x less at all = absurd (cc)
before_at P (y ∷ xs) zero k x less at all = absurd (omega (arith, less))
before_at P (y ∷ xs) (suc n) zero x less at all = let same : y ≡ x = cc in rw (← same) (All-head P y (take n xs) all)
before_at P (y ∷ xs) (suc n) (suc k) x less at all = before_at P xs n k x (omega (arith, less)) at (All-tail P y (take n xs) all)

pub all_at : {X : Type 0} (P : X → Type 0) (xs : List X) (k : ℕ) (x : X) → slice_get xs k ≡ Some x → All P xs → P x
all_at P [] k x at all = absurd (cc)
all_at P (y ∷ xs) zero x at all = let same : y ≡ x = cc in rw (← same) (All-head P y xs all)
all_at P (y ∷ xs) (suc k) x at all = all_at P xs k x at (All-tail P y xs all)

-- ---- editions that agree
module _ (m : Model) (editions others : List Edition) (agree : AllAgree m editions others) where
  pub legal_too : (logs : List Log) → IsLegalTranscript m editions logs → IsLegalTranscript m others logs
  legal_too logs = All-weaker (λ (log : Log). IsLegalLog m editions log.entries) (λ (log : Log). IsLegalLog m others log.entries) (λ log. legal_logs_agree m editions others agree log.entries) logs

  pub wrong_too : (logs : List Log) (number i : ℕ) (c : Clause) → IsWrongTranscript m editions logs number i c → IsWrongTranscript m others logs number i c
  wrong_too logs number i c w = record {
    before = legal_too (take number logs) w.before;
    log = w.log;
    stands = w.stands;
    wrong = wrong_logs_agree m editions others agree w.log.entries i c w.wrong;
  }

-- ---- no logs are neither legal nor wrong
pub no_logs_are_neither : (m : Model) (editions : List Edition) (logs : List Log) → AreAllSeen m logs → ¬ IsLegalTranscript m editions logs → ¬ ((number i : ℕ) (c : Clause) → ¬ IsWrongTranscript m editions logs number i c)
no_logs_are_neither m editions [] seen not_legal none = not_legal (All-nil (λ (log : Log). IsLegalLog m editions log.entries))
no_logs_are_neither m editions (x ∷ logs) seen not_legal none =
    no_log_is_neither m editions x.entries (All-head (λ (log : Log). AreSeen m log.entries) x logs seen)
    (λ legal. no_logs_are_neither m editions logs (All-tail (λ (log : Log). AreSeen m log.entries) x logs seen)
    (λ rest. not_legal (All-cons (λ (log : Log). IsLegalLog m editions log.entries) x logs legal rest))
    (λ number i c w. none (suc number) i c (record {
      before = All-cons (λ (log : Log). IsLegalLog m editions log.entries) x (take number logs) legal w.before;
      log = w.log;
      stands = w.stands;
      wrong = w.wrong;
    })))
    (λ i c w. none 0 i c (record { before = All-nil (λ (log : Log). IsLegalLog m editions log.entries); log = x; stands = refl; wrong = w }))
