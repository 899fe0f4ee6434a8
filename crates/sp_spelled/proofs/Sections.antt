-- Sections and items as they are spelled.
use Rattle.std.proofs.Common.{◌≡◌, ℕ, List, [], ◌∷◌, ◌++◌, refl, ap, ◌∙◌}
use Rattle.std.specs.Prelude.{codes}
use Rattle.sp_lex.specs.declared.lexeme.Span.{Span}
use Rattle.sp_syntax.specs.declared.class.Classed.{Classed}
use Rattle.sp_syntax.specs.declared.class.TokenClass.TheVariants as class
use Rattle.sp_syntax.specs.declared.text.Tree.{Tree}
use Rattle.sp_syntax.specs.declared.text.Observed.{Observed}
use Rattle.sp_syntax.specs.declared.text.Item.{Item}
use Rattle.sp_syntax.specs.declared.text.Item.TheVariants as item_of
use Rattle.sp_syntax.specs.declared.text.Section.{Section}
use Rattle.sp_syntax.specs.declared.text.Section.TheVariants as section_of
use Rattle.sp_syntax.specs.Classes.{text_of, word_class}
use Rattle.sp_syntax.specs.Grammar as grammar
use Rattle.sp_syntax.specs.Grammar.{IsTree, IsItem, IsObserved, IsSection, AreAll}
use Rattle.sp_spelled.specs.Signs.{word, Gap, tight, space, line, IsWhite, Spelled, IsWordText, IsApart, IsSpelled, AreSpelled}
use Rattle.sp_spelled.specs.Shapes.{sign, spaced_word, last_word}
use Rattle.sp_spelled.specs.Written.{Written, IsNameWord}
use Rattle.sp_spelled.proofs.Keywords.{init_key, dd_key, end_dd_key, action_key, end_action_key, observe_key, end_observe_key, cost_key, reward_key, discount_key}
use Rattle.sp_spelled.proofs.Written.{spaced_both, balanced_both, written_enclosed, written_behind, written_between}

-- white space behind a word ends it
white_apart : (w : List ℕ) (g : Gap) (ss : List Spelled) → IsWhite g → IsApart (word w) g ss
white_apart w tight ss h = absurd h
white_apart w space ss h = tt
white_apart w line ss h = tt

module _ (us : List Spelled) (depth : ℕ) (Q : List ℕ → Tree → Type 0) (part : Written IsTree Q depth us) where
  -- a keyword and a tree
  headed : {Y : Type 0} (IsY : Y → List Classed → Type 0) (P : List ℕ → Y → Type 0) (w : List ℕ) → IsWordText w
      → ((source : List ℕ) (head : Classed) (t : Tree) (ts : List Classed) → IsSpelled source head (word w) → IsTree t ts → Q source t → (y : Y) × IsY y (head ∷ ts) × P source y)
      → Written IsY P depth (spaced_word w ∷ us)
  headed IsY P w h make = written_behind IsTree IsY Q P (spaced_word w) us depth part h tt (λ n. refl) make

  pub written_init : (P : List ℕ → Section → Type 0) → ((source : List ℕ) (k : Span) (t : Tree) → Q source t → P source (section_of.Init k t)) → Written IsSection P depth (spaced_word (codes "init") ∷ us)
  written_init P p = headed IsSection P (codes "init") init_key.text
      (λ source k t ts is tree q. (section_of.Init k.span t, grammar.init k t ts (is.class ∙ ap class.Word init_key.class) tree refl refl, p source k.span t q))

  pub written_reward : (P : List ℕ → Section → Type 0) → ((source : List ℕ) (k : Span) (t : Tree) → Q source t → P source (section_of.Reward k t)) → Written IsSection P depth (spaced_word (codes "reward") ∷ us)
  written_reward P p = headed IsSection P (codes "reward") reward_key.text
      (λ source k t ts is tree q. (section_of.Reward k.span t, grammar.reward k t ts (is.class ∙ ap class.Word reward_key.class) tree refl refl, p source k.span t q))

  pub written_cost : (P : List ℕ → Item → Type 0) → ((source : List ℕ) (k : Span) (t : Tree) → Q source t → P source (item_of.Cost k t)) → Written IsItem P depth (spaced_word (codes "cost") ∷ us)
  written_cost P p = headed IsItem P (codes "cost") cost_key.text
      (λ source k t ts is tree q. (item_of.Cost k.span t, grammar.cost k t ts (is.class ∙ ap class.Word cost_key.class) tree refl refl, p source k.span t q))

  module _ (w : List ℕ) (h : IsNameWord w) where
    pub written_variable : (P : List ℕ → Item → Type 0) → ((source : List ℕ) (n : Span) (t : Tree) → text_of source n ≡ w → Q source t → P source (item_of.Variable n t)) → Written IsItem P depth (spaced_word w ∷ us)
    written_variable P p = headed IsItem P w h.text
        (λ source n t ts is tree q. (item_of.Variable n.span t, grammar.variable n t ts (is.class ∙ ap class.Word h.name) tree refl refl, p source n.span t is.says q))

    pub written_observed : (P : List ℕ → Observed → Type 0) → ((source : List ℕ) (n : Span) (t : Tree) → text_of source n ≡ w → Q source t → P source (record { name = n; tree = t })) → Written IsObserved P depth (spaced_word w ∷ us)
    written_observed P p = headed IsObserved P w h.text
        (λ source n t ts is tree q. (record { name = n.span; tree = t }, grammar.observed n t ts (is.class ∙ ap class.Word h.name) tree refl refl, p source n.span t is.says q))

    -- "dd" NAME tree "enddd"
    pub written_dd : (P : List ℕ → Section → Type 0) → ((source : List ℕ) (k n : Span) (t : Tree) (e : Span) → text_of source n ≡ w → Q source t → P source (section_of.Dd k n t e))
        → Written IsSection P depth (spaced_word (codes "dd") ∷ spaced_word w ∷ (us ++ last_word (codes "enddd") ∷ []))
    written_dd P p = written_enclosed IsTree IsSection Q P (spaced_word (codes "dd")) (spaced_word w) us (last_word (codes "enddd")) depth depth part
        (dd_key.text, tt, (h.text, tt, spaced_both us (last_word (codes "enddd") ∷ []) part.spaced (end_dd_key.text, tt, tt)))
        (balanced_both depth us (last_word (codes "enddd") ∷ []) part.balanced (λ n l. refl))
        (λ source k n e t ts ki ni ei tree q. (
          section_of.Dd k.span n.span t e.span,
          grammar.dd k n e t ts (ki.class ∙ ap class.Word dd_key.class) (ni.class ∙ ap class.Word h.name) tree (ei.class ∙ ap class.Word end_dd_key.class) refl refl,
          p source k.span n.span t e.span ni.says q,
        ))

-- "action" NAME item* "endaction"
pub written_action : (w : List ℕ) (us : List Spelled) (depth : ℕ) (Q : List ℕ → List Item → Type 0) (P : List ℕ → Section → Type 0) → IsNameWord w → Written (AreAll IsItem) Q depth us
    → ((source : List ℕ) (k n : Span) (items : List Item) (e : Span) → text_of source n ≡ w → Q source items → P source (section_of.Action k n items e))
    → Written IsSection P depth (spaced_word (codes "action") ∷ last_word w ∷ (us ++ last_word (codes "endaction") ∷ []))
written_action w us depth Q P h part p = written_enclosed (AreAll IsItem) IsSection Q P (spaced_word (codes "action")) (last_word w) us (last_word (codes "endaction")) depth depth part
    (action_key.text, tt, (h.text, tt, spaced_both us (last_word (codes "endaction") ∷ []) part.spaced (end_action_key.text, tt, tt)))
    (balanced_both depth us (last_word (codes "endaction") ∷ []) part.balanced (λ n l. refl))
    (λ source k n e items ts ki ni ei are q. (
      section_of.Action k.span n.span items e.span,
      grammar.action k n e items ts (ki.class ∙ ap class.Word action_key.class) (ni.class ∙ ap class.Word h.name) are (ei.class ∙ ap class.Word end_action_key.class) refl refl,
      p source k.span n.span items e.span ni.says q,
    ))

-- "observe" (NAME tree)* "endobserve"
pub written_observe : (us : List Spelled) (g h : Gap) (depth : ℕ) (Q : List ℕ → List Observed → Type 0) (P : List ℕ → Item → Type 0) → IsWhite g → IsWhite h → Written (AreAll IsObserved) Q depth us
    → ((source : List ℕ) (k : Span) (list : List Observed) (e : Span) → Q source list → P source (item_of.Observe k list e)) → Written IsItem P depth (sign (word (codes "observe")) g ∷ (us ++ sign (word (codes "endobserve")) h ∷ []))
written_observe us g h depth Q P wg wh part p = written_between (AreAll IsObserved) IsItem Q P (sign (word (codes "observe")) g) us (sign (word (codes "endobserve")) h) depth part
    observe_key.text (white_apart (codes "observe") g (us ++ sign (word (codes "endobserve")) h ∷ []) wg) (λ n. refl) end_observe_key.text (white_apart (codes "endobserve") h [] wh) (λ n. refl)
    (λ source k e list ts ki ei are q.
    (item_of.Observe k.span list e.span, grammar.observe k e list ts (ki.class ∙ ap class.Word observe_key.class) are (ei.class ∙ ap class.Word end_observe_key.class) refl refl, p source k.span list e.span q))

-- "discount" WORD
pub written_discount : (w : List ℕ) (P : List ℕ → Section → Type 0) → IsWordText w → ((source : List ℕ) (k n : Span) → text_of source n ≡ w → P source (section_of.Discount k n))
    → Written IsSection P 0 (spaced_word (codes "discount") ∷ last_word w ∷ [])
written_discount w P h p = record {
  spaced = (discount_key.text, tt, (h, tt, tt));
  balanced = λ n l. refl;
  reads = λ source ts s. reads source ts s;
}
  where
    reads : (source : List ℕ) (ts : List Classed) → AreSpelled source ts (spaced_word (codes "discount") ∷ last_word w ∷ []) → (x : Section) × IsSection x ts × P source x
    reads source [] s = absurd s
    reads source (k ∷ []) s = absurd s.1
    reads source (k ∷ (n ∷ [])) s = (section_of.Discount k.span n.span, grammar.discount k n (s.0.class ∙ ap class.Word discount_key.class) (word_class w, s.1.0.class) refl refl, p source k.span n.span s.1.0.says)
    reads source (k ∷ (n ∷ (t ∷ ts))) s = absurd s.1.1
