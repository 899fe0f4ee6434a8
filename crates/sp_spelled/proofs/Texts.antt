-- Whole texts as they are spelled.
use Rattle.std.proofs.Common.{ℕ, ◌≤◌, List, ◌++◌, refl, ap, ◌∙◌}
use Rattle.sp_syntax.specs.declared.class.WordClass.TheVariants as the_word
use Rattle.sp_syntax.specs.declared.text.Declarations.{Declarations}
use Rattle.sp_syntax.specs.declared.text.Section.{Section}
use Rattle.sp_syntax.specs.declared.text.Text.{Text}
use Rattle.sp_syntax.specs.Classes.{classes}
use Rattle.sp_syntax.specs.Grammar as grammar
use Rattle.sp_syntax.specs.Grammar.{IsSection, AreDeclarations, IsText, AreAll}
use Rattle.sp_spelled.specs.Signs.{Spelled, text_of_signs}
use Rattle.sp_spelled.specs.Written.{Written, HasTree}
use Rattle.sp_spelled.proofs.Lexed.{lexed}
use Rattle.sp_spelled.proofs.Written.{spaced_both, balanced_both, split, room_is}

-- a text
pub written_text : (us vs ws : List Spelled) (depth : ℕ) (P Q : List ℕ → Declarations → Type 0) (R : List ℕ → List Section → Type 0) (S : List ℕ → Text → Type 0)
    → Written (AreDeclarations the_word.Variables) P depth us → Written (AreDeclarations the_word.Observations) Q depth vs → Written (AreAll IsSection) R depth ws
    → ((source : List ℕ) (v o : Declarations) (sections : List Section) → P source v → Q source o → R source sections → S source (record { variables = v; observations = o; sections = sections }))
    → Written IsText S depth (us ++ (vs ++ ws))
written_text us vs ws depth P Q R S first second third p = record {
  spaced = spaced_both us (vs ++ ws) first.spaced (spaced_both vs ws second.spaced third.spaced);
  balanced = balanced_both depth us (vs ++ ws) first.balanced (balanced_both depth vs ws second.balanced third.balanced);
  reads = λ source ts s.
      let a = split source ts us (vs ++ ws) s in
      let b = split source a.back vs ws a.then in
      let v = first.reads source a.front a.first in
      let o = second.reads source b.front b.first in
      let l = third.reads source b.back b.then in (
        record { variables = v.0; observations = o.0; sections = l.0 },
        grammar.text v.0 o.0 l.0 a.front b.front b.back v.1 o.1 l.1 refl (a.whole ∙ ap (λ z. a.front ++ z) b.whole),
        p source v.0 o.0 l.0 v.2 o.2 l.2,
      );
}

pub written_is_read : (S : List ℕ → Text → Type 0) (depth : ℕ) (ss : List Spelled) → depth ≤ 128 → Written IsText S depth ss → HasTree (text_of_signs ss) S
written_is_read S depth ss l w =
    let lex = lexed ss w.spaced in
    let t = w.reads (text_of_signs ss) (classes (text_of_signs ss) lex.tokens) lex.spelled in
    record {
      tree = t.0;
      tokens = lex.tokens;
      lexed = lex.lexed;
      answers = (t.1, (128, room_is (text_of_signs ss) 128 (classes (text_of_signs ss) lex.tokens) ss lex.spelled ∙ w.balanced 128 l));
      holds = t.2;
    }
