-- Names of sessions, and one more log.
use Rattle.std.proofs.Common.{◌≡◌, ◌≢◌, ℕ, suc, List, [], ◌∷◌, ◌++◌, Bool, true, false, ◌||◌, ◌⊎◌, inl, inr, refl, ap, sym, ◌∙◌, append_assoc, arith, codes, subst}
use Rattle.std.specs.Prelude.{All, AllPairs}
use Rattle.std.specs.List.{list_any}
use Rattle.std.specs.Str.{bytes_eq}
use Rattle.std.specs.Cmp.Lexicographic.{same_text, other_text}
use Rattle.std.proofs.lemmas.Bool.{false≢true}
use Rattle.std.proofs.lemmas.List.{map-append}
use Rattle.std.proofs.lemmas.List.Elements.{All-cons, All-nil}
use Rattle.std.proofs.lemmas.List.Quantifiers.{all_pairs_push}
use Rattle.sp_theory.specs.Logs.{Log}
use Rattle.sp_lines.specs.Lines.{lines_of, Lacks, BeginsLineOf}
use Rattle.sp_lines.proofs.Lists.{all_push}
use Rattle.sp_planfile.specs.PlanText.{entry_line, log_text, logs_text}
use Rattle.sp_planfile.specs.Form.{IsSessionName}
use Rattle.sp_planfile.proofs.LogTexts.{name_lacks, log_rest}
use Rattle.sp_planfile.proofs.Sections.{cut_at, lacks-append, behind_same}
use Rattle.sp_names.specs.Names.{with_name}
use Rattle.sp_filed.specs.declared.sizes.Sizes.{Sizes}
use Rattle.sp_filed.specs.Sizes.{IsEntryWithin}
use Rattle.sp_filed.specs.Stops.{session_line, names_of, IsLogOf, AreLogs, IsFreshName, HasNoEntry}

pub session_lacks : (name : List ℕ) → IsSessionName name → Lacks 10 (session_line name)
session_lacks name good = lacks-append 10 (codes "session ") name
    ((λ e. omega (arith, e)), ((λ e. omega (arith, e)), ((λ e. omega (arith, e)), ((λ e. omega (arith, e)), ((λ e. omega (arith, e)), ((λ e. omega (arith, e)), ((λ e. omega (arith, e)), ((λ e. omega (arith, e)), tt)))))))) (name_lacks name good)

or_false : (p q : Bool) → (p || q) ≡ false → (p ≡ false) × (q ≡ false)
or_false true q h = absurd (false≢true (sym h))
or_false false q h = (refl, h)

or_true : (p q : Bool) → (p || q) ≡ true → (p ≡ true) ⊎ (q ≡ true)
or_true true q h = inl refl
or_true false q h = inr h

-- a name that isn't among the declared ones is fresh
pub fresh : (name : List ℕ) (names : List (List ℕ)) → list_any (bytes_eq name) names ≡ false → All (λ other. other ≢ name) names
fresh name [] none = All-nil (λ other. other ≢ name)
fresh name (n ∷ names) none =
    let parts = or_false (bytes_eq name n) (list_any (bytes_eq name) names) none in
    All-cons (λ other. other ≢ name) n names (λ e. other_text name n (sym parts.0) (sym e)) (fresh name names parts.1)

-- a name that is among them isn't
pub stale : (name : List ℕ) (names : List (List ℕ)) → list_any (bytes_eq name) names ≡ true → All (λ other. other ≢ name) names → ⊥
stale name [] some all = false≢true some
stale name (n ∷ names) some all = by_case (or_true (bytes_eq name n) (list_any (bytes_eq name) names) some) (λ h. stale name names h (λ k d less. all (suc k) d (omega (arith, less))))
  where
    by_case : (bytes_eq name n ≡ true) ⊎ (list_any (bytes_eq name) names ≡ true) → (list_any (bytes_eq name) names ≡ true → ⊥) → ⊥
    by_case (inl h) later = all 0 n (omega arith) (sym (same_text name n (sym h)))
    by_case (inr h) later = later h

-- ---- one more log
logs_push : (logs : List Log) (x : Log) (more : List ℕ) → logs_text (logs ++ (x ∷ [])) ++ more ≡ logs_text logs ++ (log_text x ++ more)
logs_push [] x more = append_assoc (log_text x) [] more
logs_push (log ∷ logs) x more = append_assoc (log_text log) (logs_text (logs ++ (x ∷ []))) more ∙ ap (λ l. log_text log ++ l) (logs_push logs x more) ∙ sym (append_assoc (log_text log) (logs_text logs) (log_text x ++ more))

pub log_step : (logs more : List Log) (x : Log) (text rest name middle behind : List ℕ) → text ≡ logs_text logs ++ rest → rest ≡ session_line name ++ (10 ∷ middle) → x.name ≡ name → middle ≡ lines_of entry_line x.entries ++ behind → more ≡ logs ++ (x ∷ []) → text ≡ logs_text more ++ behind
log_step logs more x text rest name middle behind is session named entries pushed =
    is ∙ ap (λ l. logs_text logs ++ l) (session ∙ ap (λ l. session_line name ++ (10 ∷ l)) entries ∙ ap (λ n. session_line n ++ (10 ∷ (lines_of entry_line x.entries ++ behind))) (sym named) ∙ sym (log_rest x behind))
    ∙ sym (logs_push logs x behind) ∙ ap (λ l. logs_text l ++ behind) (sym pushed)

pub logs_good : (s : Sizes) (logs : List Log) (x : Log) → AreLogs s logs → IsLogOf s x → All (λ other. other ≢ x.name) (names_of logs) → AreLogs s (logs ++ (x ∷ []))
logs_good s logs x good log new = record {
  each = all_push (IsLogOf s) logs x good.each log;
  different = subst (AllPairs (λ x y. x ≢ y)) (sym (map-append (λ (l : Log). l.name) logs (x ∷ []))) (all_pairs_push (λ x y. x ≢ y) (names_of logs) x.name good.different (λ k d h. new k d h));
}

pub no_entry_push : (s : Sizes) (logs : List Log) (x : Log) (text : List ℕ) → ¬ (BeginsLineOf entry_line (IsEntryWithin s) text) → HasNoEntry s (logs ++ (x ∷ [])) text
no_entry_push s [] x text none = none
no_entry_push s (log ∷ logs) x text none = none

-- the session that a text begins with is told
pub no_fresh : (logs : List Log) (name text more : List ℕ) → IsSessionName name → text ≡ session_line name ++ (10 ∷ more) → ¬ (All (λ other. other ≢ name) (names_of logs)) → ¬ (BeginsLineOf session_line (IsFreshName logs) text)
no_fresh logs name text more good is stale (other, rest, new, e) =
    let line = cut_at 10 (session_line name) (session_line other) more rest (session_lacks name good) (session_lacks other new.0) (sym is ∙ e) in
    let same = behind_same (codes "session ") name other line.0 in
    stale (subst (λ n. All (λ x. x ≢ n) (names_of logs)) (sym same) new.1)

pub names_push : (names : List (List ℕ)) (name : List ℕ) → list_any (bytes_eq name) names ≡ false → with_name names name ≡ names ++ (name ∷ [])
names_push names name none = rw none refl
