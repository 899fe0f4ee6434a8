-- Whole texts as they are spelled.
use Rattle.std.proofs.Common.{◌≡◌, ℕ, List, [], ◌∷◌, ◌++◌, length, ap, ◌∙◌}
use Rattle.std.specs.Prelude.{Ok, codes}
use Rattle.sp_lex.specs.declared.lexeme.Span.{Span}
use Rattle.sp_syntax.specs.declared.text.Item.{Item}
use Rattle.sp_syntax.specs.declared.text.Section.{Section}
use Rattle.sp_syntax.specs.declared.text.Declarations.{Declarations}
use Rattle.sp_syntax.specs.Grammar.{IsItem, AreDeclarations, AreAll}
use Rattle.sp_syntax.specs.declared.class.WordClass.TheVariants as the_word
use Rattle.sp_spelled.specs.Signs.{Spelled}
use Rattle.sp_spelled.specs.Written.{Written}
use Rattle.sp_spelled.specs.Shapes.{spaced_word, last_word}
use Rattle.sp_spelled.specs.Written.{IsNameWord}
use Rattle.sp_spelled.proofs.Sections.{written_action}
use Rattle.sp_spelled.proofs.Texts.{written_text}
use Rattle.sp_written.specs.Models.{WritesModel}
use Rattle.sp_dd.specs.Func.{Func}
use Rattle.sp_model.specs.declared.parts.Parts.{Parts}
use Rattle.sp_names.specs.Names.{with_name}
use Rattle.sp_trees.specs.Words.{text}
use Rattle.sp_declarations.specs.declared.declarations.Declared.{Declared}
use Rattle.sp_declarations.specs.Steps.{◌>>=◌, in_turn}
use Rattle.sp_declarations.specs.Declarations.{declarations_of}
use Rattle.sp_checks.specs.declared.items.Listed.{Listed}
use Rattle.sp_checks.specs.declared.state.Draft.{Draft}
use Rattle.sp_checks.specs.declared.state.State.{State}
use Rattle.sp_checks.specs.Actions.{item, items, nothing_listed, sights_of, draft_of, draft, action, checked_name, moves_of}
use Rattle.sp_checks.specs.Sections.{section, begun}
use Rattle.sp_checks.specs.Finish.{finish}
use Rattle.sp_checks.specs.Meaning.{meaning}
use Rattle.sp_written.proofs.Lines.{Leads, leads_one}

-- ---- an action
module _ (s : State) (w : List ℕ) (named : IsNameWord w) (l : Listed) (sights : List Func) where
  abbrev pub draft_for : Draft
  draft_for = record { name = w; cost = l.cost; moves = moves_of s.env.scope l.moves; sights = sights }

  abbrev pub with_action : State
  with_action = record s { names = with_name s.names w; actions = s.actions ++ draft_for ∷ [] }

  module _ (new : (at : Span) (source : List ℕ) → text source at ≡ w → checked_name source s.names (length s.actions) at ≡ Ok tt) (all : (at : ℕ) → sights_of at l.sights ≡ Ok sights) where
    action_read : (source : List ℕ) (k n : Span) (list : List Item) (e : Span) → text source n ≡ w → in_turn (item s.env source) (nothing_listed s.env (length s.actions)) list ≡ Ok l
        → action source s n list e ≡ Ok with_action
    unfolding action draft items draft_of
    action_read source k n list e said read =
        ap (λ o. o >>= λ _. (draft s.env source (length s.actions) n list e >>= λ d. Ok (record s { names = with_name s.names (text source n); actions = s.actions ++ d ∷ [] }))) (new n source said)
        ∙ ap (λ o. (o >>= λ m. draft_of s.env source n e.start m) >>= λ d. Ok (record s { names = with_name s.names (text source n); actions = s.actions ++ d ∷ [] })) read
        ∙ ap (λ o. (o >>= λ fs. Ok (let r : Draft = record { name = text source n; cost = l.cost; moves = moves_of s.env.scope l.moves; sights = fs } in r)) >>= λ d. Ok (record s { names = with_name s.names (text source n); actions = s.actions ++ d ∷ [] })) (all e.start)
        ∙ ap (λ v. Ok (record s { names = with_name s.names v; actions = s.actions ++ record { name = v; cost = l.cost; moves = moves_of s.env.scope l.moves; sights = sights } ∷ [] })) said

    pub leads_action : (us : List Spelled) (depth : ℕ) → Written (AreAll IsItem) (λ source xs. in_turn (item s.env source) (nothing_listed s.env (length s.actions)) xs ≡ Ok l) depth us
        → Leads s with_action depth (spaced_word (codes "action") ∷ last_word w ∷ (us ++ last_word (codes "endaction") ∷ []))
    leads_action us depth part = leads_one s with_action depth (spaced_word (codes "action") ∷ last_word w ∷ (us ++ last_word (codes "endaction") ∷ []))
        (written_action w us depth _ _ named part (λ source k n list e said read. action_read source k n list e said read))

-- ---- the whole text

module _ (d : Declared) (s : State) (parts : Parts) (us vs ws : List Spelled) (depth : ℕ) (V O : List ℕ → Declarations → Type 0)
    (first : Written (AreDeclarations the_word.Variables) V depth us) (second : Written (AreDeclarations the_word.Observations) O depth vs)
    (declared : (source : List ℕ) (x y : Declarations) (sections : List Section) → V source x → O source y → declarations_of source (record { variables = x; observations = y; sections = sections }) ≡ Ok d)
    (third : Leads (begun d) s depth ws) (done : (end : ℕ) → finish s end ≡ Ok parts) where
  meaning_is : (source : List ℕ) (x y : Declarations) (sections : List Section) → V source x → O source y → in_turn (section source) (begun d) sections ≡ Ok s
      → meaning source (record { variables = x; observations = y; sections = sections }) ≡ Ok parts
  unfolding meaning
  meaning_is source x y sections p q r =
      ap (λ o. o >>= λ c. (in_turn (section source) (begun c) sections >>= λ t. finish t (length source))) (declared source x y sections p q)
      ∙ ap (λ o. o >>= λ t. finish t (length source)) r ∙ done (length source)

  -- the text means the parts
  pub writes_model : WritesModel parts depth (us ++ (vs ++ ws))
  writes_model = written_text us vs ws depth V O _ _ first second third (λ source x y sections p q r. meaning_is source x y sections p q r)
