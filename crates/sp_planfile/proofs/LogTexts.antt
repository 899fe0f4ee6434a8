-- Logs are told before the last line.
use Rattle.std.proofs.Common.{◌≡◌, ◌≢◌, ℕ, suc, ◌<◌, ◌≤◌, List, [], ◌∷◌, ◌++◌, length, get_or, refl, ap, sym, ◌∙◌, append_assoc, arith, codes, subst, ◌⊎◌, inl, inr}
use Rattle.std.specs.Prelude.{IsTrue}
use Rattle.std.specs.List.{AllByRecursion}
use Rattle.std.proofs.lemmas.List.Elements.{recursion_from_All}
use Rattle.std.proofs.lemmas.Bool.{false≢true}
use Rattle.sp_theory.specs.Logs.{Entry, told, act, observe, unseen, closing, Log}
use Rattle.sp_model.specs.Words.{is_word_byte}
use Rattle.sp_lines.specs.Lines.{numbers_behind_spaces, lines_of, Lacks, IsSmall}
use Rattle.sp_planfile.specs.PlanText.{entry_line, log_text, logs_text}
use Rattle.sp_planfile.specs.Form.{IsEntryInForm, HasSmallNumbers, IsLogInForm, IsSessionName}
use Rattle.sp_planfile.proofs.Sections.{cut_at, lacks-append, behind_same}
use Rattle.sp_planfile.proofs.Unique.{spaced_tells, spaced_lacks, letters, differs}

pub entry_small : (actions joint : ℕ) (x : Entry) → IsSmall actions → IsSmall joint → IsEntryInForm actions joint x → HasSmallNumbers x
entry_small actions joint (told e) few less form = (form, tt)
entry_small actions joint (act e id a) few less form = (form.0, (form.1, (omega (arith, form.2, few), tt)))
entry_small actions joint (observe o) few less form = (omega (arith, form, less), tt)
entry_small actions joint (unseen o) few less form = (omega (arith, form, less), tt)
entry_small actions joint (closing e id a) few less form = (form.0, (form.1, (omega (arith, form.2, few), tt)))

pub entry_lacks : (x : Entry) → HasSmallNumbers x → Lacks 10 (entry_line x)
entry_lacks (told e) small = lacks-append 10 (codes "told") (numbers_behind_spaces (e ∷ [])) (letters (codes "told") (omega arith, (omega arith, (omega arith, (omega arith, tt))))) (spaced_lacks (e ∷ []) small)
entry_lacks (act e id a) small = lacks-append 10 (codes "act") (numbers_behind_spaces (e ∷ id ∷ a ∷ [])) (letters (codes "act") (omega arith, (omega arith, (omega arith, tt)))) (spaced_lacks (e ∷ id ∷ a ∷ []) small)
entry_lacks (observe o) small = lacks-append 10 (codes "observe") (numbers_behind_spaces (o ∷ [])) (letters (codes "observe") (omega arith, (omega arith, (omega arith, (omega arith, (omega arith, (omega arith, (omega arith, tt)))))))) (spaced_lacks (o ∷ []) small)
entry_lacks (unseen o) small = lacks-append 10 (codes "unseen") (numbers_behind_spaces (o ∷ [])) (letters (codes "unseen") (omega arith, (omega arith, (omega arith, (omega arith, (omega arith, (omega arith, tt))))))) (spaced_lacks (o ∷ []) small)
entry_lacks (closing e id a) small = lacks-append 10 (codes "closing") (numbers_behind_spaces (e ∷ id ∷ a ∷ [])) (letters (codes "closing") (omega arith, (omega arith, (omega arith, (omega arith, (omega arith, (omega arith, (omega arith, tt)))))))) (spaced_lacks (e ∷ id ∷ a ∷ []) small)

-- what begins otherwise is different
pub apart : (x y : List ℕ) → x ≡ y → get_or x 0 0 ≢ get_or y 0 0 → ⊥
apart x y e other = other (ap (λ l. get_or l 0 0) e)

pub entry_tells : (x y : Entry) → HasSmallNumbers x → HasSmallNumbers y → entry_line x ≡ entry_line y → x ≡ y
entry_tells (told e) (told f) a b same = let all = spaced_tells (e ∷ []) (f ∷ []) a b (behind_same (codes "told") (numbers_behind_spaces (e ∷ [])) (numbers_behind_spaces (f ∷ [])) same) in cc all
entry_tells (told e) (act f id y) a b same = absurd (apart (entry_line (told e)) (entry_line (act f id y)) same (λ e. omega (arith, e)))
entry_tells (told e) (observe o) a b same = absurd (apart (entry_line (told e)) (entry_line (observe o)) same (λ e. omega (arith, e)))
entry_tells (told e) (unseen o) a b same = absurd (apart (entry_line (told e)) (entry_line (unseen o)) same (λ e. omega (arith, e)))
entry_tells (told e) (closing f id y) a b same = absurd (apart (entry_line (told e)) (entry_line (closing f id y)) same (λ e. omega (arith, e)))
entry_tells (act e id x) (told f) a b same = absurd (apart (entry_line (act e id x)) (entry_line (told f)) same (λ e. omega (arith, e)))
entry_tells (act e id x) (act f jd y) a b same = let all = spaced_tells (e ∷ id ∷ x ∷ []) (f ∷ jd ∷ y ∷ []) a b (behind_same (codes "act") (numbers_behind_spaces (e ∷ id ∷ x ∷ [])) (numbers_behind_spaces (f ∷ jd ∷ y ∷ [])) same) in cc all
entry_tells (act e id x) (observe o) a b same = absurd (apart (entry_line (act e id x)) (entry_line (observe o)) same (λ e. omega (arith, e)))
entry_tells (act e id x) (unseen o) a b same = absurd (apart (entry_line (act e id x)) (entry_line (unseen o)) same (λ e. omega (arith, e)))
entry_tells (act e id x) (closing f jd y) a b same = absurd (apart (entry_line (act e id x)) (entry_line (closing f jd y)) same (λ e. omega (arith, e)))
entry_tells (observe o) (told f) a b same = absurd (apart (entry_line (observe o)) (entry_line (told f)) same (λ e. omega (arith, e)))
entry_tells (observe o) (act f id y) a b same = absurd (apart (entry_line (observe o)) (entry_line (act f id y)) same (λ e. omega (arith, e)))
entry_tells (observe o) (observe p) a b same = let all = spaced_tells (o ∷ []) (p ∷ []) a b (behind_same (codes "observe") (numbers_behind_spaces (o ∷ [])) (numbers_behind_spaces (p ∷ [])) same) in cc all
entry_tells (observe o) (unseen p) a b same = absurd (apart (entry_line (observe o)) (entry_line (unseen p)) same (λ e. omega (arith, e)))
entry_tells (observe o) (closing f id y) a b same = absurd (apart (entry_line (observe o)) (entry_line (closing f id y)) same (λ e. omega (arith, e)))
entry_tells (unseen o) (told f) a b same = absurd (apart (entry_line (unseen o)) (entry_line (told f)) same (λ e. omega (arith, e)))
entry_tells (unseen o) (act f id y) a b same = absurd (apart (entry_line (unseen o)) (entry_line (act f id y)) same (λ e. omega (arith, e)))
entry_tells (unseen o) (observe p) a b same = absurd (apart (entry_line (unseen o)) (entry_line (observe p)) same (λ e. omega (arith, e)))
entry_tells (unseen o) (unseen p) a b same = let all = spaced_tells (o ∷ []) (p ∷ []) a b (behind_same (codes "unseen") (numbers_behind_spaces (o ∷ [])) (numbers_behind_spaces (p ∷ [])) same) in cc all
entry_tells (unseen o) (closing f id y) a b same = absurd (apart (entry_line (unseen o)) (entry_line (closing f id y)) same (λ e. omega (arith, e)))
entry_tells (closing e id x) (told f) a b same = absurd (apart (entry_line (closing e id x)) (entry_line (told f)) same (λ e. omega (arith, e)))
entry_tells (closing e id x) (act f jd y) a b same = absurd (apart (entry_line (closing e id x)) (entry_line (act f jd y)) same (λ e. omega (arith, e)))
entry_tells (closing e id x) (observe o) a b same = absurd (apart (entry_line (closing e id x)) (entry_line (observe o)) same (λ e. omega (arith, e)))
entry_tells (closing e id x) (unseen o) a b same = absurd (apart (entry_line (closing e id x)) (entry_line (unseen o)) same (λ e. omega (arith, e)))
entry_tells (closing e id x) (closing f jd y) a b same = let all = spaced_tells (e ∷ id ∷ x ∷ []) (f ∷ jd ∷ y ∷ []) a b (behind_same (codes "closing") (numbers_behind_spaces (e ∷ id ∷ x ∷ [])) (numbers_behind_spaces (f ∷ jd ∷ y ∷ [])) same) in cc all

-- what follows a log begins with `d` or `s`, as no entry does
abbrev pub EndsLog : List ℕ → Type 0
EndsLog [] = ⊥
EndsLog (x ∷ xs) = (x ≡ 100) ⊎ (x ≡ 115)

pub no_entry : (x : Entry) (more us : List ℕ) → EndsLog us → us ≡ entry_line x ++ more → ⊥
no_entry x more [] ends e = ends
no_entry (told e) more (u ∷ us) (inl d) is = let first : u ≡ 116 = ap (λ l. get_or l 0 0) is in omega (arith, first, d)
no_entry (told e) more (u ∷ us) (inr s) is = let first : u ≡ 116 = ap (λ l. get_or l 0 0) is in omega (arith, first, s)
no_entry (act e id a) more (u ∷ us) (inl d) is = let first : u ≡ 97 = ap (λ l. get_or l 0 0) is in omega (arith, first, d)
no_entry (act e id a) more (u ∷ us) (inr s) is = let first : u ≡ 97 = ap (λ l. get_or l 0 0) is in omega (arith, first, s)
no_entry (observe o) more (u ∷ us) (inl d) is = let first : u ≡ 111 = ap (λ l. get_or l 0 0) is in omega (arith, first, d)
no_entry (observe o) more (u ∷ us) (inr s) is = let first : u ≡ 111 = ap (λ l. get_or l 0 0) is in omega (arith, first, s)
no_entry (unseen o) more (u ∷ us) (inl d) is = let first : u ≡ 117 = ap (λ l. get_or l 0 0) is in omega (arith, first, d)
no_entry (unseen o) more (u ∷ us) (inr s) is = let first : u ≡ 117 = ap (λ l. get_or l 0 0) is in omega (arith, first, s)
no_entry (closing e id a) more (u ∷ us) (inl d) is = let first : u ≡ 99 = ap (λ l. get_or l 0 0) is in omega (arith, first, d)
no_entry (closing e id a) more (u ∷ us) (inr s) is = let first : u ≡ 99 = ap (λ l. get_or l 0 0) is in omega (arith, first, s)

entries_told : (xs ys : List Entry) (us vs : List ℕ) → AllByRecursion HasSmallNumbers xs → AllByRecursion HasSmallNumbers ys → EndsLog us → EndsLog vs
    → lines_of entry_line xs ++ us ≡ lines_of entry_line ys ++ vs → (xs ≡ ys) × (us ≡ vs)
entries_told [] [] us vs a b f g e = (refl, e)
entries_told [] (y ∷ ys) us vs a b f g e = absurd (no_entry y ((10 ∷ lines_of entry_line ys) ++ vs) us f (e ∙ append_assoc (entry_line y) (10 ∷ lines_of entry_line ys) vs))
entries_told (x ∷ xs) [] us vs a b f g e = absurd (no_entry x ((10 ∷ lines_of entry_line xs) ++ us) vs g (sym e ∙ append_assoc (entry_line x) (10 ∷ lines_of entry_line xs) us))
entries_told (x ∷ xs) (y ∷ ys) us vs a b f g e =
    let cut = cut_at 10 (entry_line x) (entry_line y) (lines_of entry_line xs ++ us) (lines_of entry_line ys ++ vs) (entry_lacks x a.0) (entry_lacks y b.0)
    (sym (append_assoc (entry_line x) (10 ∷ lines_of entry_line xs) us) ∙ e ∙ append_assoc (entry_line y) (10 ∷ lines_of entry_line ys) vs) in
    let more = entries_told xs ys us vs a.1 b.1 f g cut.1 in
    let first = entry_tells x y a.0 b.0 cut.0 in
    (cc (first, more.0), more.1)

-- a log with a name in form and small numbers
pub record IsPlainLog (log : Log) : Type 0 where
  pub name : IsSessionName log.name
  pub entries : AllByRecursion HasSmallNumbers log.entries

pub name_lacks : (name : List ℕ) → IsSessionName name → Lacks 10 name
name_lacks name good = recursion_from_All (λ x. x ≢ 10) name (λ k d h e. false≢true (subst (λ b. IsTrue (is_word_byte b)) e (good.word.bytes k d h)))

log_same : (x y : Log) → x.name ≡ y.name → x.entries ≡ y.entries → x ≡ y
log_same x y e f =
    let made : List ℕ → List Entry → Log = λ name entries. record { name = name; entries = entries } in
    ap (λ n. made n x.entries) e ∙ ap (made y.name) f

pub log_rest : (log : Log) (us : List ℕ) → log_text log ++ us ≡ codes "session " ++ (log.name ++ (10 ∷ (lines_of entry_line log.entries ++ us)))
log_rest log us = ap (λ l. codes "session " ++ l) (append_assoc log.name (10 ∷ lines_of entry_line log.entries) us)

pub log_told : (x y : Log) (us vs : List ℕ) → IsPlainLog x → IsPlainLog y → EndsLog us → EndsLog vs → log_text x ++ us ≡ log_text y ++ vs → (x ≡ y) × (us ≡ vs)
log_told x y us vs a b f g e =
    let names = behind_same (codes "session ") (x.name ++ (10 ∷ (lines_of entry_line x.entries ++ us))) (y.name ++ (10 ∷ (lines_of entry_line y.entries ++ vs))) (sym (log_rest x us) ∙ e ∙ log_rest y vs) in
    let cut = cut_at 10 x.name y.name (lines_of entry_line x.entries ++ us) (lines_of entry_line y.entries ++ vs) (name_lacks x.name a.name) (name_lacks y.name b.name) names in
    let entries = entries_told x.entries y.entries us vs a.entries b.entries f g cut.1 in
    (log_same x y cut.0 entries.0, entries.1)

pub logs_end : (logs : List Log) (us : List ℕ) → EndsLog us → EndsLog (logs_text logs ++ us)
logs_end [] us ends = ends
logs_end (log ∷ logs) us ends = inr refl

pub logs_told : (xs ys : List Log) (us vs : List ℕ) → length xs ≡ length ys → AllByRecursion IsPlainLog xs → AllByRecursion IsPlainLog ys → EndsLog us → EndsLog vs
    → logs_text xs ++ us ≡ logs_text ys ++ vs → (xs ≡ ys) × (us ≡ vs)
logs_told [] [] us vs count a b f g e = (refl, e)
logs_told [] (y ∷ ys) us vs count a b f g e = absurd (omega (arith, count))
logs_told (x ∷ xs) [] us vs count a b f g e = absurd (omega (arith, count))
logs_told (x ∷ xs) (y ∷ ys) us vs count a b f g e =
    let one = log_told x y (logs_text xs ++ us) (logs_text ys ++ vs) a.0 b.0 (logs_end xs us f) (logs_end ys vs g)
    (sym (append_assoc (log_text x) (logs_text xs) us) ∙ e ∙ append_assoc (log_text y) (logs_text ys) vs) in
    let fewer : length xs ≡ length ys = omega (arith, count) in
    let more = logs_told xs ys us vs fewer a.1 b.1 f g one.1 in
    (cc (one.0, more.0), more.1)

pub plain_logs : (actions joint : ℕ) (logs : List Log) → IsSmall actions → IsSmall joint → AllByRecursion (IsLogInForm actions joint) logs → AllByRecursion IsPlainLog logs
plain_logs actions joint [] few less all = tt
plain_logs actions joint (log ∷ logs) few less all = (record { name = all.0.name; entries = entries log.entries all.0.entries }, plain_logs actions joint logs few less all.1)
  where
    entries : (xs : List Entry) → AllByRecursion (IsEntryInForm actions joint) xs → AllByRecursion HasSmallNumbers xs
    entries [] good = tt
    entries (x ∷ xs) good = (entry_small actions joint x few less good.0, entries xs good.1)
