-- The logs of a plan file: of two transcripts that one text begins with, the longer one goes on where the shorter one ends.
use Rattle.std.proofs.Common.{◌≡◌, ◌≢◌, ℕ, ◌+◌, ◌≤◌, List, [], ◌∷◌, ◌++◌, length, refl, ap, sym, ◌∙◌, append_assoc, arith, codes, subst, inl, inr, ⊎_elim}
use Rattle.std.specs.Prelude.{All, AllPairs}
use Rattle.std.specs.List.{AllByRecursion}
use Rattle.std.proofs.lemmas.Bool.{cases_lt}
use Rattle.std.proofs.lemmas.List.{length-map, length-append}
use Rattle.std.proofs.Math.ListN.{get_or-append}
use Rattle.std.proofs.Math.Seq.{get_or-append_seam}
use Rattle.sp_theory.specs.Logs.{Entry, Log}
use Rattle.sp_lines.specs.Lines.{lines_of, IsSmall, BeginsLineOf}
use Rattle.sp_planfile.specs.PlanText.{count_line, entry_line, log_text, logs_text, logs_section}
use Rattle.sp_planfile.specs.Form.{IsEntryInForm, IsLogInForm}
use Rattle.sp_planfile.proofs.Sections.{cut_at, count_told, behind_same}
use Rattle.sp_planfile.proofs.LogTexts.{entry_small, entry_lacks, no_entry, name_lacks, log_rest}
use Rattle.sp_filed.specs.declared.sizes.Sizes.{Sizes}
use Rattle.sp_filed.specs.Sizes.{IsEntryWithin}
use Rattle.sp_filed.specs.Stops.{IsLogOf, AreLogs, IsFreshName, HasNoEntry, StopsBeforeLog, StopsInLogs, names_of, session_line}
use Rattle.sp_filed.specs.Tails.{StopsAtEnd, StopsBehindValues}

pub logs_of_form : (s : Sizes) (logs : List Log) → IsSmall s.actions → IsSmall s.joint → AllByRecursion (IsLogInForm s.actions s.joint) logs → AllByRecursion (IsLogOf s) logs
logs_of_form s [] few less all = tt
logs_of_form s (log ∷ logs) few less all = (record { name = all.0.name; entries = entries log.entries all.0.entries }, logs_of_form s logs few less all.1)
  where
    entries : (xs : List Entry) → AllByRecursion (IsEntryInForm s.actions s.joint) xs → AllByRecursion (IsEntryWithin s) xs
    entries [] good = tt
    entries (x ∷ xs) good = ((good.0, entry_small s.actions s.joint x few less good.0), entries xs good.1)

fresh_behind : (names more : List (List ℕ)) (name : List ℕ) → AllPairs (λ x y. x ≢ y) (names ++ (name ∷ more)) → All (λ other. other ≢ name) names
fresh_behind names more name pairs k d less =
    λ e. pairs k (length names) d less (omega (arith, length-append names (name ∷ more))) (get_or-append names (name ∷ more) d k less ∙ e ∙ sym (get_or-append_seam names name more d))

-- what the longer list has more
record GoesOn (s : Sizes) (xs ys : List Log) (us vs : List ℕ) : Type 0 where
  more : List Log
  names : names_of xs ≡ names_of ys ++ names_of more
  good : AllByRecursion (IsLogOf s) more
  is : vs ≡ logs_text more ++ us

module _ (s : Sizes) where
  -- no entry stands first
  abbrev HasNone : List ℕ → Type 0
  HasNone text = ¬ (BeginsLineOf entry_line (IsEntryWithin s) text)

  entries_end : (xs ys : List Entry) (us vs : List ℕ) → AllByRecursion (IsEntryWithin s) xs → AllByRecursion (IsEntryWithin s) ys → HasNone us → HasNone vs → lines_of entry_line xs ++ us ≡ lines_of entry_line ys ++ vs → us ≡ vs
  entries_end [] [] us vs a b f g e = e
  entries_end [] (y ∷ ys) us vs a b f g e = absurd (f (y, lines_of entry_line ys ++ vs, b.0, e ∙ append_assoc (entry_line y) (10 ∷ lines_of entry_line ys) vs))
  entries_end (x ∷ xs) [] us vs a b f g e = absurd (g (x, lines_of entry_line xs ++ us, a.0, sym e ∙ append_assoc (entry_line x) (10 ∷ lines_of entry_line xs) us))
  entries_end (x ∷ xs) (y ∷ ys) us vs a b f g e =
      let cut = cut_at 10 (entry_line x) (entry_line y) (lines_of entry_line xs ++ us) (lines_of entry_line ys ++ vs) (entry_lacks x a.0.1) (entry_lacks y b.0.1)
      (sym (append_assoc (entry_line x) (10 ∷ lines_of entry_line xs) us) ∙ e ∙ append_assoc (entry_line y) (10 ∷ lines_of entry_line ys) vs) in
      entries_end xs ys us vs a.1 b.1 f g cut.1

  -- behind a log stands no entry
  none_behind : (x : Log) (xs : List Log) (us : List ℕ) → HasNoEntry s (x ∷ xs) us → HasNone (logs_text xs ++ us)
  none_behind x [] us none = none
  none_behind x (y ∷ ys) us none = λ begins. no_entry begins.0 (10 ∷ begins.1) (logs_text (y ∷ ys) ++ us) (inr refl) begins.3

  none_further : (x : Log) (xs : List Log) (us : List ℕ) → HasNoEntry s (x ∷ xs) us → HasNoEntry s xs us
  none_further x [] us none = tt
  none_further x (y ∷ ys) us none = none

  logs_prefix : (xs ys : List Log) (us vs : List ℕ) → length ys ≤ length xs → AllByRecursion (IsLogOf s) xs → AllByRecursion (IsLogOf s) ys → HasNoEntry s xs us → HasNoEntry s ys vs → logs_text xs ++ us ≡ logs_text ys ++ vs → GoesOn s xs ys us vs
  logs_prefix xs [] us vs fewer a b f g e = record { more = xs; names = refl; good = a; is = sym e }
  logs_prefix [] (y ∷ ys) us vs fewer a b f g e = absurd (omega (arith, fewer))
  logs_prefix (x ∷ xs) (y ∷ ys) us vs fewer a b f g e =
      let names = behind_same (codes "session ") (x.name ++ (10 ∷ (lines_of entry_line x.entries ++ (logs_text xs ++ us)))) (y.name ++ (10 ∷ (lines_of entry_line y.entries ++ (logs_text ys ++ vs))))
      (sym (log_rest x (logs_text xs ++ us)) ∙ sym (append_assoc (log_text x) (logs_text xs) us) ∙ e ∙ append_assoc (log_text y) (logs_text ys) vs ∙ log_rest y (logs_text ys ++ vs)) in
      let cut = cut_at 10 x.name y.name (lines_of entry_line x.entries ++ (logs_text xs ++ us)) (lines_of entry_line y.entries ++ (logs_text ys ++ vs)) (name_lacks x.name a.0.name) (name_lacks y.name b.0.name) names in
      let is = entries_end x.entries y.entries (logs_text xs ++ us) (logs_text ys ++ vs) a.0.entries b.0.entries (none_behind x xs us f) (none_behind y ys vs g) cut.1 in
      let rest = logs_prefix xs ys us vs (omega (arith, fewer)) a.1 b.1 (none_further x xs us f) (none_further y ys vs g) is in
      record { more = rest.more; names = ap (λ n. n ∷ names_of xs) cut.0 ∙ ap (λ l. y.name ∷ l) rest.names; good = rest.good; is = rest.is }

  count_is : (xs ys : List Log) (us vs : List ℕ) (goes : GoesOn s xs ys us vs) → length xs ≡ length ys + length goes.more
  count_is xs ys us vs goes =
      omega (arith, ap length goes.names, length-append (names_of ys) (names_of goes.more), length-map xs (λ (l : Log). l.name), length-map ys (λ (l : Log). l.name), length-map goes.more (λ (l : Log). l.name))

  -- where the longer list goes on, the line of a new session stands first
  session_first : (xs ys : List Log) (us vs : List ℕ) → AreLogs s xs → (x : Log) (more : List Log) → names_of xs ≡ names_of ys ++ names_of (x ∷ more) → AllByRecursion (IsLogOf s) (x ∷ more) → vs ≡ logs_text (x ∷ more) ++ us
      → BeginsLineOf session_line (IsFreshName ys) vs
  session_first xs ys us vs good x more named all is =
      let fresh = fresh_behind (names_of ys) (names_of more) x.name (subst (AllPairs (λ x y. x ≢ y)) named good.different) in
      (x.name, lines_of entry_line x.entries ++ (logs_text more ++ us), (all.0.name, fresh), is ∙ append_assoc (log_text x) (logs_text more) us ∙ log_rest x (logs_text more ++ us))

  -- logs stop before one of them in one place
  before_once : (n : ℕ) (text : List ℕ) (left right : ℕ) → StopsBeforeLog s n text left → StopsBeforeLog s n text right → left ≡ right
  before_once n text left right a b = ⊎_elim (λ less. below left right a b (omega (arith, less))) (λ more. sym (below right left b a more)) (cases_lt (length b.logs) (length a.logs))
    where
      below : (left right : ℕ) (a : StopsBeforeLog s n text left) (b : StopsBeforeLog s n text right) → length b.logs ≤ length a.logs → left ≡ right
      below left right a b fewer = let goes = logs_prefix a.logs b.logs a.rest b.rest fewer a.good.each b.good.each a.no_entry b.no_entry (sym a.is ∙ b.is) in by_case goes.more goes.names goes.good goes.is
        where
          by_case : (more : List Log) → names_of a.logs ≡ names_of b.logs ++ names_of more → AllByRecursion (IsLogOf s) more → b.rest ≡ logs_text more ++ a.rest → left ≡ right
          by_case [] names all is = a.bytes ∙ ap length (sym is) ∙ sym b.bytes
          by_case (x ∷ more) names all is = absurd (b.no_session (session_first a.logs b.logs a.rest b.rest a.good x more names all is))

  in_logs_once : (text : List ℕ) (left right : ℕ) → StopsInLogs s text left → StopsInLogs s text right → left ≡ right
  in_logs_once text left right (inl a) (inl b) = a.1 ∙ sym b.1
  in_logs_once text left right (inl a) (inr (n, rest, few, is, stops)) = absurd (a.0 (n, rest, few, is))
  in_logs_once text left right (inr (n, rest, few, is, stops)) (inl b) = absurd (b.0 (n, rest, few, is))
  in_logs_once text left right (inr (n, rest, few, is, stops)) (inr (k, more, less, e, again)) =
      let told = count_told (codes "sessions") n k rest more few less (sym is ∙ e) in
      before_once n rest left right stops (subst (λ j. StopsBeforeLog s j rest right) (sym told.0) (subst (λ l. StopsBeforeLog s k l right) (sym told.1) again))

  -- ---- behind the logs
  none_at_end : (us more : List ℕ) → us ≡ codes "done\n" ++ more → HasNone us
  none_at_end us more is (entry, tail, good, e) = no_entry entry (10 ∷ tail) (codes "done\n" ++ more) (inl refl) (sym is ∙ e)

  end_has_none : (xs : List Log) (us : List ℕ) (left : ℕ) → StopsAtEnd s xs us left → HasNoEntry s xs us
  end_has_none xs us left (inl (none, other, bytes)) = none
  end_has_none [] us left (inr (more, is, some, bytes)) = tt
  end_has_none (x ∷ xs) us left (inr (more, is, some, bytes)) = none_at_end us more is

  at_end_once : (xs ys : List Log) (us vs : List ℕ) (left right : ℕ) → us ≡ vs → StopsAtEnd s xs us left → StopsAtEnd s ys vs right → left ≡ right
  at_end_once xs ys us vs left right same (inl (none, other, bytes)) (inl (nothing, another, size)) = bytes ∙ ap length same ∙ sym size
  at_end_once xs ys us vs left right same (inl (none, other, bytes)) (inr (more, is, some, size)) = absurd (other more (same ∙ is))
  at_end_once xs ys us vs left right same (inr (more, is, some, bytes)) (inl (nothing, another, size)) = absurd (another more (sym same ∙ is))
  at_end_once xs ys us vs left right same (inr (more, is, some, bytes)) (inr (tail, e, any, size)) = bytes ∙ ap length (behind_same (codes "done\n") more tail (sym is ∙ same ∙ e)) ∙ sym size

  section_is : (xs : List Log) (us : List ℕ) → logs_section xs ++ us ≡ count_line (codes "sessions") (length xs) ++ (10 ∷ (logs_text xs ++ us))
  section_is xs us = append_assoc (count_line (codes "sessions") (length xs)) (10 ∷ logs_text xs) us

  -- where all logs are there, they don't stop before one
  no_stop_before : (xs : List Log) (us : List ℕ) (n : ℕ) (text : List ℕ) (left : ℕ) → AreLogs s xs → length xs ≡ n → HasNoEntry s xs us → text ≡ logs_text xs ++ us → StopsBeforeLog s n text left → ⊥
  no_stop_before xs us n text left good count none is stops =
      let goes = logs_prefix xs stops.logs us stops.rest (omega (arith, count, stops.fewer)) good.each stops.good.each none stops.no_entry (sym is ∙ stops.is) in
      by_case goes.more goes.names goes.good goes.is (count_is xs stops.logs us stops.rest goes)
    where
      by_case : (more : List Log) → names_of xs ≡ names_of stops.logs ++ names_of more → AllByRecursion (IsLogOf s) more → stops.rest ≡ logs_text more ++ us → length xs ≡ length stops.logs + length more → ⊥
      by_case [] names all is sizes = omega (arith, sizes, count, stops.fewer)
      by_case (x ∷ more) names all is sizes = stops.no_session (session_first xs stops.logs us stops.rest good x more names all is)

  no_stop_in_logs : (xs : List Log) (us text : List ℕ) (left : ℕ) → AreLogs s xs → IsSmall (length xs) → HasNoEntry s xs us → text ≡ logs_section xs ++ us → StopsInLogs s text left → ⊥
  no_stop_in_logs xs us text left good few none is (inl (no_count, bytes)) = no_count (length xs, logs_text xs ++ us, few, is ∙ section_is xs us)
  no_stop_in_logs xs us text left good few none is (inr (n, rest, less, e, stops)) =
      let told = count_told (codes "sessions") (length xs) n (logs_text xs ++ us) rest few less (sym (section_is xs us) ∙ sym is ∙ e) in
      no_stop_before xs us n rest left good told.0 none (sym told.1) stops

  -- behind as many logs the same comes
  same_rest : (xs ys : List Log) (us vs : List ℕ) → AreLogs s xs → AreLogs s ys → IsSmall (length xs) → IsSmall (length ys) → HasNoEntry s xs us → HasNoEntry s ys vs → logs_section xs ++ us ≡ logs_section ys ++ vs → us ≡ vs
  same_rest xs ys us vs good fine few less none nothing is =
      let told = count_told (codes "sessions") (length xs) (length ys) (logs_text xs ++ us) (logs_text ys ++ vs) few less (sym (section_is xs us) ∙ is ∙ section_is ys vs) in
      let goes = logs_prefix xs ys us vs (omega (arith, told.0)) good.each fine.each none nothing told.1 in
      by_case goes.more goes.is (omega (arith, told.0, count_is xs ys us vs goes))
    where
      by_case : (more : List Log) → vs ≡ logs_text more ++ us → length more ≡ 0 → us ≡ vs
      by_case [] is none = sym is
      by_case (x ∷ more) is none = absurd (omega (arith, none))

  pub behind_values_once : (text : List ℕ) (left right : ℕ) → StopsBehindValues s text left → StopsBehindValues s text right → left ≡ right
  behind_values_once text left right (inl a) (inl b) = in_logs_once text left right a b
  behind_values_once text left right (inl a) (inr (xs, us, good, few, is, stops)) = absurd (no_stop_in_logs xs us text left good few (end_has_none xs us right stops) is a)
  behind_values_once text left right (inr (xs, us, good, few, is, stops)) (inl b) = absurd (no_stop_in_logs xs us text right good few (end_has_none xs us left stops) is b)
  behind_values_once text left right (inr (xs, us, good, few, is, stops)) (inr (ys, vs, fine, less, e, again)) =
      at_end_once xs ys us vs left right (same_rest xs ys us vs good fine few less (end_has_none xs us left stops) (end_has_none ys vs right again) (sym is ∙ e)) stops again

  -- ---- logs that are there, up to the last line
  module _ (logs : List Log) (small : IsSmall (length logs)) (good : AreLogs s logs) where
    none_in_end : HasNoEntry s logs (codes "done\n")
    none_in_end = done_none logs
      where
        done_none : (xs : List Log) → HasNoEntry s xs (codes "done\n")
        done_none [] = tt
        done_none (x ∷ xs) = none_at_end (codes "done\n") [] refl

    pub no_stop_behind_values : (left : ℕ) → StopsBehindValues s (logs_section logs ++ codes "done\n") left → ⊥
    no_stop_behind_values left (inl a) = no_stop_in_logs logs (codes "done\n") (logs_section logs ++ codes "done\n") left good small none_in_end refl a
    no_stop_behind_values left (inr (ls, rest, all, few, is, stops)) = by_end stops (same_rest logs ls (codes "done\n") rest good all small few none_in_end (end_has_none ls rest left stops) is)
      where
        by_end : StopsAtEnd s ls rest left → codes "done\n" ≡ rest → ⊥
        by_end (inl (no_entry, none, bytes)) same = none [] (sym same)
        by_end (inr (more, text, some, bytes)) same = let none : [] ≡ more = behind_same (codes "done\n") [] more (same ∙ text) in omega (arith, some, ap length none)
