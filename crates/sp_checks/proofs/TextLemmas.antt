-- What a text means is answered by its rows: the first of them, or the model that the text tells where none holds.
use Rattle.std.proofs.Common.{◌≡◌, ℕ, ◌≤◌, List, [], ◌++◌, length, Ok, Err, refl, sym, ap, subst, arith, inl, inr, append_assoc}
use Rattle.std.specs.Prelude.{◌⊎◌, ◌↔◌, Result, IsErrAnd}
use Rattle.std.proofs.lemmas.Bool.{false≢true}
use Rattle.sp_lex.specs.declared.lexeme.Token.{Token}
use Rattle.sp_lex.specs.Tokens.{tokens_of}
use Rattle.sp_lex.specs.Places.{IsCut}
use Rattle.sp_syntax.specs.declared.text.Text.{Text}
use Rattle.sp_syntax.specs.Spans.{AreRising, declarations_spans, section_spans, all_spans, text_spans}
use Rattle.sp_syntax.proofs.SpanLemmas.{spans_rise}
use Rattle.sp_model.specs.declared.parts.Parts.{Parts}
use Rattle.sp_model.specs.Kept.{IsModel}
use Rattle.sp_trees.specs.declared.refusal.Refusal.{Refusal}
use Rattle.sp_trees.specs.declared.env.Env.{Env}
use Rattle.sp_trees.specs.Rows.{IsFirstRefusal}
use Rattle.sp_declarations.specs.declared.error.ModelError.{ModelError}
use Rattle.sp_declarations.specs.declared.error.ModelError.TheVariants as error
use Rattle.sp_declarations.specs.declared.declarations.Declared.{Declared}
use Rattle.sp_declarations.specs.Steps.{◌>>=◌, in_turn, GivesOrRunsOut}
use Rattle.sp_declarations.specs.Declarations.{declarations_of}
use Rattle.sp_declarations.specs.Rows.{PartRow, DeclaredRow, refusal_of}
use Rattle.sp_declarations.proofs.StepLemmas.{stood, turns_keep}
use Rattle.sp_declarations.proofs.ChainLemmas.{rising_split, rising_le, place_below, place_above, later, least_then}
use Rattle.sp_declarations.proofs.RowLemmas.{declared_least, declared_place, declared_told}
use Rattle.sp_checks.specs.declared.state.State.{State}
use Rattle.sp_checks.specs.Sections.{section, begun}
use Rattle.sp_checks.specs.Finish.{finish}
use Rattle.sp_checks.specs.Kept.{IsReadingState}
use Rattle.sp_checks.specs.Source.{HasName, HasWords, IsTextOf}
use Rattle.sp_checks.specs.Meaning.{meaning}
use Rattle.sp_checks.specs.Told.{env_of, parts_in}
use Rattle.sp_checks.proofs.TextRows.{SectionRow, EndRow, TextRow}
use Rattle.sp_checks.specs.RefusalTable.{Breaks}
use Rattle.sp_checks.specs.Answers.{AnswersText}
use Rattle.sp_checks.proofs.AmongLemmas.{at_place}
use Rattle.sp_checks.proofs.ReadingLemmas.{has_declared}
use Rattle.sp_checks.proofs.StartLemmas.{begun_state}
use Rattle.sp_checks.proofs.StateLemmas.{section_state}
use Rattle.sp_checks.proofs.ModelLemmas.{finish_model}
use Rattle.sp_checks.proofs.WordLemmas.{has_words}
use Rattle.sp_checks.proofs.FrameLemmas.{HasRead, sections_least, sections_fit, sections_place}
use Rattle.sp_checks.proofs.EndLemmas.{end_least, end_told}
use Rattle.sp_checks.proofs.RefusalLemmas.{table_least}

module _ (source : List ℕ) (t : Text) (words : HasWords source t) where
  abbrev env : Env
  env = env_of source t

  -- nothing is read before the first section
  begun_read : (d : Declared) → declarations_of source t ≡ Ok d → HasRead source env [] (begun d)
  begun_read d e = record {
    dds = record {
      is = ap (λ d. (begun d).env) (declared_told source t d e);
      kept = (begun_state d (has_declared source t d words e)).env.env_kept;
      made = λ i x l. absurd (omega arith);
      names = λ w. (λ q. absurd (false≢true q), λ m. absurd m);
    };
    reward = record { met = (λ q. absurd (false≢true q), λ m. absurd m); told = refl };
    discount = record { met = (λ q. absurd (false≢true q), λ m. absurd m); told = refl };
    init = record { met = (λ q. absurd (false≢true q), λ m. absurd m); told = refl };
    actions = record { named = λ w. (λ q. absurd (false≢true q), λ m. absurd m); count = refl; told = refl };
  }

  state_kept : (d : Declared) (s : State) → declarations_of source t ≡ Ok d → in_turn (section source) (begun d) t.sections ≡ Ok s → IsReadingState s
  state_kept d s e q = turns_keep (section source) IsReadingState (HasName source) (λ s x u k n h. section_state source s k x u n h) t.sections (begun d) s words.sections (begun_state d (has_declared source t d words e)) q

  end_place : (r : Refusal) → EndRow source env t.sections (length source) r → r.at ≡ length source
  end_place r (inl h) = at_place (length source) _ r h.1
  end_place r (inr h) = at_place (length source) _ r h.1

  -- the meaning answers the first row
  pub text_least : AreRising 0 (text_spans t) (length source) → IsFirstRefusal (TextRow source t) (refusal_of (meaning source t))
  unfolding meaning
  text_least rise =
      let vs = declarations_spans t.variables in
      let os = declarations_spans t.observations in
      let ss = all_spans section_spans t.sections in
      let cut = rising_split (vs ++ os) ss 0 (length source) (subst (λ all. AreRising 0 all (length source)) (sym (append_assoc vs os ss)) rise) in
      let end = rising_le ss cut.0 (length source) cut.2 in
      let S : Refusal → Type 0 = PartRow (SectionRow source env) [] t.sections in
      let E : Refusal → Type 0 = EndRow source env t.sections (length source) in
      let above : (q : Refusal) → S q ⊎ E q → cut.0 ≤ q.at = λ q c. elim c [ inl a ↦ place_above ss cut.0 (length source) q.at cut.2 (sections_place source env t.sections q a) | inr b ↦ (let e = end_place q b in omega arith) ] in
      least_then (DeclaredRow source t) (λ r. S r ⊎ E r) (declarations_of source t) (λ d. in_turn (section source) (begun d) t.sections >>= λ s. finish s (length source))
      (declared_least source t 0 cut.0 cut.1)
      (λ d e. least_then S E (in_turn (section source) (begun d) t.sections) (λ s. finish s (length source)) (sections_least source env (begun d) t.sections cut.0 (length source) (begun_read d e) cut.2)
      (λ s q. end_least source env t.sections s (sections_fit source env (begun d) s t.sections (begun_read d e) q) (state_kept d s e q) (length source))
      (λ r q a b. let first = place_below ss cut.0 (length source) r.at cut.2 (sections_place source env t.sections r a) in let second = end_place q b in later q r (omega arith)))
      (λ r q a b. let first = place_below (vs ++ os) 0 cut.0 r.at cut.1 (declared_place source t r a) in let second = above q b in later q r (omega arith))

  -- a text that isn't refused means the model that it tells
  pub text_told : (p : Parts) → meaning source t ≡ Ok p → (p ≡ parts_in source t) × IsModel p
  unfolding meaning parts_in
  text_told p h =
      let a = stood (declarations_of source t) (λ d. in_turn (section source) (begun d) t.sections >>= λ s. finish s (length source)) p h in
      let b = stood (in_turn (section source) (begun a.value) t.sections) (λ s. finish s (length source)) p a.then in
      let k = state_kept a.value b.value a.was b.was in (
        end_told source env t.sections b.value (sections_fit source env (begun a.value) b.value t.sections (begun_read a.value a.was) b.was) k (length source) p b.then,
        finish_model b.value (length source) p k b.then,
      )

pub text_answers : (source : List ℕ) (t : Text) → IsTextOf source t → ((list : List Token) → (tokens_of source ≡ Ok list) ↔ IsCut source list) → (x : Result Parts ModelError) → GivesOrRunsOut (meaning source t) x → AnswersText source t x
text_answers source t is cut x h = go x h
  where
    words : HasWords source t
    words = has_words source t is cut

    least : IsFirstRefusal (Breaks source t) (refusal_of (meaning source t))
    least = table_least source t (refusal_of (meaning source t)) (text_least source t words (spans_rise source is.tokens t ((cut is.tokens).0 is.lexed) is.read))

    go : (x : Result Parts ModelError) → GivesOrRunsOut (meaning source t) x → AnswersText source t x
    go (Ok p) h = let told = text_told source t words p h in (subst (λ y. IsFirstRefusal (Breaks source t) (refusal_of y)) h least, told.0, told.1)
    go (Err (error.Fault at kind)) h = subst (λ y. IsFirstRefusal (Breaks source t) (refusal_of y)) h least
    go (Err error.NoMemory) h = tt

-- an error that `?` passes on
pub error_answers : (source : List ℕ) (t : Text) → IsTextOf source t → ((list : List Token) → (tokens_of source ≡ Ok list) ↔ IsCut source list) → (x : Result Parts ModelError) (e : ModelError) → GivesOrRunsOut (meaning source t) (Err e) → IsErrAnd x (λ q. q ≡ e) → AnswersText source t x
error_answers source t is cut (Ok p) e h k = absurd k
error_answers source t is cut (Err f) e h k = text_answers source t is cut (Err f) (subst (λ z. GivesOrRunsOut (meaning source t) (Err z)) (sym k) h)
