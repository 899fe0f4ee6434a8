-- A text holds the span of each of its tokens once, in order.
use Rattle.std.proofs.Common.{◌≡◌, ℕ, suc, ◌≤◌, List, [], ◌∷◌, ◌++◌, map, length, refl, sym, ap, ◌∙◌, subst, arith}
use Rattle.std.specs.Prelude.{All}
use Rattle.sp_lex.specs.declared.lexeme.Span.{Span}
use Rattle.sp_lex.specs.declared.lexeme.Token.{Token}
use Rattle.sp_lex.specs.Places.{IsTokenOf, AreSpansRising, IsCut}
use Rattle.sp_syntax.specs.declared.class.Classed.{Classed}
use Rattle.sp_syntax.specs.declared.class.WordClass.{WordClass}
use Rattle.sp_syntax.specs.declared.text.Tree.{Tree, roll-Tree}
use Rattle.sp_syntax.specs.declared.text.Tree.TheVariants as tree
use Rattle.sp_syntax.specs.declared.text.Tree.TheOpen.{Tree-F, Branch-F}
use Rattle.sp_syntax.specs.declared.text.Tree.TheFolds.{fold-roll-Tree, fold-roll-Branch, map-Tree, map-Branch}
use Rattle.sp_syntax.specs.declared.text.Branch.{Branch, roll-Branch}
use Rattle.sp_syntax.specs.declared.text.Declaration.{Declaration}
use Rattle.sp_syntax.specs.declared.text.Declarations.{Declarations}
use Rattle.sp_syntax.specs.declared.text.Observed.{Observed}
use Rattle.sp_syntax.specs.declared.text.Item.{Item}
use Rattle.sp_syntax.specs.declared.text.Section.{Section}
use Rattle.sp_syntax.specs.declared.text.Text.{Text}
use Rattle.sp_syntax.specs.Classes.{classes}
use Rattle.sp_syntax.specs.Grammar.{IsTree, number, reference, node, primed_node, sum, product, IsBranch, branch, AreBranches, no_branches, more_branches, AreTrees, no_trees, more_trees, AreAll, IsValue, IsDeclaration, declaration, AreDeclarations, declarations, IsObserved, observed, IsItem, variable, observe, cost, IsSection, init, dd, action, reward, discount, horizon, tolerance, IsText, text}
use Rattle.sp_syntax.specs.Spans.{tree_step, branch_step, tree_spans, branch_spans, all_spans, declaration_spans, declarations_spans, observed_spans, item_spans, section_spans, text_spans, spans_of, AreRising}

spans-append : (us vs : List Classed) → spans_of (us ++ vs) ≡ spans_of us ++ spans_of vs
spans-append [] vs = refl
spans-append (u ∷ us) vs = ap (λ ss. u.span ∷ ss) (spans-append us vs)

rolled : (x : Tree-F Tree Branch) → tree_spans (roll-Tree x) ≡ tree_step (map-Tree Tree Branch (List Span) (List Span) tree_spans branch_spans x)
rolled x = fold-roll-Tree (List Span) (List Span) tree_step branch_step x

rolled_branch : (x : Branch-F Tree Branch) → branch_spans (roll-Branch x) ≡ branch_step (map-Branch Tree Branch (List Span) (List Span) tree_spans branch_spans x)
rolled_branch x = fold-roll-Branch (List Span) (List Span) tree_step branch_step x

-- what stands between two tokens and one more
between : (a w b : Classed) (ss : List Span) (us ts : List Classed) → ss ≡ spans_of us → ts ≡ a ∷ w ∷ (us ++ (b ∷ [])) → a.span ∷ w.span ∷ (ss ++ b.span ∷ []) ≡ spans_of ts
between a w b ss us ts h e =
    ap (λ rest. a.span ∷ w.span ∷ rest) (ap (λ ss. ss ++ b.span ∷ []) h ∙ sym (spans-append us (b ∷ []))) ∙ ap spans_of (sym e)

one_more : (ss rs : List Span) (us vs ts : List Classed) → ss ≡ spans_of us → rs ≡ spans_of vs → ts ≡ us ++ vs → ss ++ rs ≡ spans_of ts
one_more ss rs us vs ts h k e = (λ i. h i ++ k i) ∙ sym (spans-append us vs) ∙ ap spans_of (sym e)

mutual
  tree_is : (t : Tree) (ts : List Classed) → IsTree t ts → tree_spans t ≡ spans_of ts
  tree_is t ts (number a w b ea ew eb et e) = ap tree_spans (et ∙ sym (tree.rolls-Number a.span w.span b.span)) ∙ rolled (Tree-F.Number a.span w.span b.span) ∙ ap spans_of (sym e)
  tree_is t ts (reference a w b ea ew eb et e) = ap tree_spans (et ∙ sym (tree.rolls-Reference a.span w.span b.span)) ∙ rolled (Tree-F.Reference a.span w.span b.span) ∙ ap spans_of (sym e)
  tree_is t ts (node a w b first more us ea ew hm eb et e) =
      ap tree_spans (et ∙ sym (tree.rolls-Node a.span w.span (first ∷ more) b.span)) ∙ rolled (Tree-F.Node a.span w.span (first ∷ more) b.span) ∙ between a w b (all_spans branch_spans (first ∷ more)) us ts (branches_are (first ∷ more) us hm) e
  tree_is t ts (primed_node a w b first more us ea ew hm eb et e) =
      ap tree_spans (et ∙ sym (tree.rolls-PrimedNode a.span w.span (first ∷ more) b.span)) ∙ rolled (Tree-F.PrimedNode a.span w.span (first ∷ more) b.span) ∙ between a w b (all_spans branch_spans (first ∷ more)) us ts (branches_are (first ∷ more) us hm) e
  tree_is t ts (sum a w b first more us ea ew hm eb et e) =
      ap tree_spans (et ∙ sym (tree.rolls-Sum a.span w.span (first ∷ more) b.span)) ∙ rolled (Tree-F.Sum a.span w.span (first ∷ more) b.span) ∙ between a w b (all_spans tree_spans (first ∷ more)) us ts (trees_are (first ∷ more) us hm) e
  tree_is t ts (product a w b first more us ea ew hm eb et e) =
      ap tree_spans (et ∙ sym (tree.rolls-Product a.span w.span (first ∷ more) b.span)) ∙ rolled (Tree-F.Product a.span w.span (first ∷ more) b.span) ∙ between a w b (all_spans tree_spans (first ∷ more)) us ts (trees_are (first ∷ more) us hm) e

  branch_is : (r : Branch) (ts : List Classed) → IsBranch r ts → branch_spans r ≡ spans_of ts
  branch_is r ts (branch a w b t us ea ew ht eb er e) =
      ap branch_spans er ∙ rolled_branch (record { left = a.span; value = w.span; tree = t; right = b.span }) ∙ between a w b (tree_spans t) us ts (tree_is t us ht) e

  branches_are : (rs : List Branch) (ts : List Classed) → AreBranches rs ts → all_spans branch_spans rs ≡ spans_of ts
  branches_are [] ts (no_branches e) = ap spans_of (sym e)
  branches_are (r ∷ rs) ts (more_branches us vs h k e) = one_more (branch_spans r) (all_spans branch_spans rs) us vs ts (branch_is r us h) (branches_are rs vs k) e

  trees_are : (rs : List Tree) (ts : List Classed) → AreTrees rs ts → all_spans tree_spans rs ≡ spans_of ts
  trees_are [] ts (no_trees e) = ap spans_of (sym e)
  trees_are (t ∷ rs) ts (more_trees us vs h k e) = one_more (tree_spans t) (all_spans tree_spans rs) us vs ts (tree_is t us h) (trees_are rs vs k) e

-- parts one after another
all_are : {X : Type 0} (IsX : X → List Classed → Type 0) (spans : X → List Span) → ((x : X) (ts : List Classed) → IsX x ts → spans x ≡ spans_of ts)
    → (xs : List X) (ts : List Classed) → AreAll IsX xs ts → all_spans spans xs ≡ spans_of ts
all_are IsX spans each [] ts e = ap spans_of (sym e)
all_are IsX spans each (x ∷ xs) ts (us, vs, h, k, e) = one_more (spans x) (all_spans spans xs) us vs ts (each x us h) (all_are IsX spans each xs vs k) e

values_are : (xs : List Span) (ts : List Classed) → AreAll IsValue xs ts → xs ≡ spans_of ts
values_are [] ts e = ap spans_of (sym e)
values_are (x ∷ xs) ts (us, vs, h, k, e) = one_more (x ∷ []) xs us vs ts (ap (λ s. s ∷ []) h.2 ∙ ap spans_of (sym h.3)) (values_are xs vs k) e

declaration_is : (d : Declaration) (ts : List Classed) → IsDeclaration d ts → declaration_spans d ≡ spans_of ts
declaration_is d ts (declaration a n b first more us ea en hm eb ed e) = ap declaration_spans ed ∙ between a n b (first ∷ more) us ts (values_are (first ∷ more) us hm) e

declarations_are : (k : WordClass) (d : Declarations) (ts : List Classed) → AreDeclarations k d ts → declarations_spans d ≡ spans_of ts
declarations_are k d ts (declarations a w b first more us ea ew hm eb ed e) =
    ap declarations_spans ed ∙ between a w b (all_spans declaration_spans (first ∷ more)) us ts (all_are IsDeclaration declaration_spans declaration_is (first ∷ more) us hm) e

-- a token and what follows
behind : (k : Classed) (ss : List Span) (us ts : List Classed) → ss ≡ spans_of us → ts ≡ k ∷ us → k.span ∷ ss ≡ spans_of ts
behind k ss us ts h e = ap (λ ss. k.span ∷ ss) h ∙ ap spans_of (sym e)

observed_is : (o : Observed) (ts : List Classed) → IsObserved o ts → observed_spans o ≡ spans_of ts
observed_is o ts (observed n t us en ht eo e) = ap observed_spans eo ∙ behind n (tree_spans t) us ts (tree_is t us ht) e

-- a token, what follows, and one more
around : (k b : Classed) (ss : List Span) (us ts : List Classed) → ss ≡ spans_of us → ts ≡ k ∷ (us ++ (b ∷ [])) → k.span ∷ (ss ++ b.span ∷ []) ≡ spans_of ts
around k b ss us ts h e = ap (λ rest. k.span ∷ rest) (ap (λ ss. ss ++ b.span ∷ []) h ∙ sym (spans-append us (b ∷ []))) ∙ ap spans_of (sym e)

item_is : (i : Item) (ts : List Classed) → IsItem i ts → item_spans i ≡ spans_of ts
item_is i ts (variable n t us en ht ei e) = ap item_spans ei ∙ behind n (tree_spans t) us ts (tree_is t us ht) e
item_is i ts (observe k b list us ek hl eb ei e) = ap item_spans ei ∙ around k b (all_spans observed_spans list) us ts (all_are IsObserved observed_spans observed_is list us hl) e
item_is i ts (cost k t us ek ht ei e) = ap item_spans ei ∙ behind k (tree_spans t) us ts (tree_is t us ht) e

section_is : (s : Section) (ts : List Classed) → IsSection s ts → section_spans s ≡ spans_of ts
section_is s ts (init k t us ek ht es e) = ap section_spans es ∙ behind k (tree_spans t) us ts (tree_is t us ht) e
section_is s ts (dd k n b t us ek en ht eb es e) = ap section_spans es ∙ between k n b (tree_spans t) us ts (tree_is t us ht) e
section_is s ts (action k n b items us ek en hi eb es e) = ap section_spans es ∙ between k n b (all_spans item_spans items) us ts (all_are IsItem item_spans item_is items us hi) e
section_is s ts (reward k t us ek ht es e) = ap section_spans es ∙ behind k (tree_spans t) us ts (tree_is t us ht) e
section_is s ts (discount k w ek ew es e) = ap section_spans es ∙ ap spans_of (sym e)
section_is s ts (horizon k w ek ew es e) = ap section_spans es ∙ ap spans_of (sym e)
section_is s ts (tolerance k w ek ew es e) = ap section_spans es ∙ ap spans_of (sym e)

pub text_is : (f : Text) (ts : List Classed) → IsText f ts → text_spans f ≡ spans_of ts
text_is f ts (text variables observations sections us vs ws hv ho hs ef e) =
    ap text_spans ef
    ∙ one_more (declarations_spans variables) (declarations_spans observations ++ all_spans section_spans sections) us (vs ++ ws) ts (declarations_are _ variables us hv)
    (one_more (declarations_spans observations) (all_spans section_spans sections) vs ws (vs ++ ws) (declarations_are _ observations vs ho) (all_are IsSection section_spans section_is sections ws hs) refl)
    e

-- ---- spans that rise

token_spans : (source : List ℕ) (tokens : List Token) → spans_of (classes source tokens) ≡ map (λ t. t.span) tokens
token_spans source [] = refl
token_spans source (t ∷ tokens) = ap (λ ss. t.span ∷ ss) (token_spans source tokens)

rising : (source : List ℕ) (low : ℕ) (tokens : List Token) → low ≤ length source → All (IsTokenOf source) tokens → AreSpansRising low tokens → AreRising low (map (λ t. t.span) tokens) (length source)
rising source low [] h each r = h
rising source low (t ∷ tokens) h each r =
    let first : IsTokenOf source t = each 0 t (omega arith) in
    (r.0, first.some, rising source t.span.end tokens first.within (λ k d l. each (suc k) d (omega arith)) r.1)

pub spans_rise : (source : List ℕ) (tokens : List Token) (f : Text) → IsCut source tokens → IsText f (classes source tokens) → AreRising 0 (text_spans f) (length source)
spans_rise source tokens f cut h =
    subst (λ ss. AreRising 0 ss (length source)) (sym (text_is f (classes source tokens) h ∙ token_spans source tokens))
    (rising source 0 tokens (omega arith) cut.each cut.rising)
