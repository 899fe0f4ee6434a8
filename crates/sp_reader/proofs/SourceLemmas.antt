-- The bytes of a model file have one tree, and one model or one refusal.
use Rattle.std.proofs.Common.{◌≡◌, ℕ, List, Some, Result, Ok, Err, sym, ap, subst, ◌∙◌, length, inl, inr}
use Rattle.sp_lex.specs.declared.lexeme.Token.{Token}
use Rattle.sp_lex.specs.Tokens.{tokens_of}
use Rattle.sp_syntax.specs.declared.text.Text.{Text}
use Rattle.sp_syntax.specs.Classes.{classes}
use Rattle.sp_syntax.specs.declared.error.SyntaxKind.{SyntaxKind}
use Rattle.sp_syntax.specs.Grammar.{IsText}
use Rattle.sp_syntax.proofs.Unique.{one_text}
use Rattle.sp_syntax.proofs.Exclusive.{refused_is_none}
use Rattle.sp_trees.specs.declared.refusal.Refusal.{Refusal}
use Rattle.sp_trees.specs.declared.refusal.ModelKind.{ModelKind}
use Rattle.sp_trees.specs.Rows.{IsFirstRefusal}
use Rattle.sp_checks.specs.Told.{parts_in}
use Rattle.sp_checks.specs.RefusalTable.{Breaks}
use Rattle.sp_checks.proofs.OneRowLemmas.{one_first}
use Rattle.sp_reader.specs.Sources.{IsTreeOf, IsOutside, IsFaulty, AcceptedIsNotRefused, OneModel, OneRefusal}
use Rattle.sp_reader.specs.Kinds.{grammar_name, kind_text}
use Rattle.sp_reader.proofs.FirstFault.{one_fault}

one_tree : (source : List ℕ) (tree other : Text) → IsTreeOf source tree → IsTreeOf source other → tree ≡ other
one_tree source tree other a b =
    let tokens : ◌≡◌ {A = Result (List Token) ℕ} (Ok a.0) (Ok b.0) = sym a.1 ∙ b.1 in
    let same : a.0 ≡ b.0 = cc in
    let is : IsText other (classes source a.0) = rw (← same) at b.2.0 in
    one_text tree other (classes source a.0) a.2.0 is

-- the first row that holds refuses the bytes
pub broken_rule : (source : List ℕ) (tree : Text) → IsTreeOf source tree → (at : ℕ) (kind : ModelKind) (name : List ℕ) → IsFirstRefusal (Breaks source tree) (Some (record { at = at; kind = kind })) → name ≡ kind_text source tree kind
    → (other : ℕ) (word : List ℕ) → at ≡ other → name ≡ word → IsFaulty source other word
broken_rule source tree is at kind name first named other word e f =
    inr (inr (tree, is, (kind, subst (λ a. IsFirstRefusal (Breaks source tree) (Some (record { at = a; kind = kind }))) e first, sym f ∙ named)))

pub one_meaning : OneModel
one_meaning source model other a b =
    let trees = one_tree source a.0 b.0 a.1 b.1 in
    a.3 ∙ ap (parts_in source) trees ∙ sym b.3

-- what the grammar refuses has no tree
no_tree : (source : List ℕ) (at : ℕ) (kind : SyntaxKind) (tree : Text) → IsOutside source at kind → IsTreeOf source tree → ⊥
no_tree source at kind tree outside good =
    let tokens : ◌≡◌ {A = Result (List Token) ℕ} (Ok good.0) (Ok outside.0) = sym good.1 ∙ outside.1 in
    let same : good.0 ≡ outside.0 = cc in
    let refuses = rw (← same) at outside.2 in
    refused_is_none (length source) (classes source good.0) (record { at = at; kind = kind }) refuses (tree, good.2.0) good.2.1

pub not_refused : AcceptedIsNotRefused
not_refused source model at name good (inl lexed) =
    let both : ◌≡◌ {A = Result (List Token) ℕ} (Ok good.1.0) (Err at) = sym good.1.1 ∙ lexed.0 in
    cc
not_refused source model at name good (inr (inl outside)) = no_tree source at outside.0 good.0 outside.1 good.1
not_refused source model at name good (inr (inr broken)) =
    let trees = one_tree source good.0 broken.0 good.1 broken.1 in
    let first : Refusal = record { at = at; kind = broken.2.0 } in
    good.2 first (subst (λ tree. Breaks source tree first) (sym trees) broken.2.1.0)

-- what has no tokens has no fault of the grammar, and no tree
no_tokens : (source : List ℕ) (at : ℕ) (ts : List Token) → tokens_of source ≡ Err at → tokens_of source ≡ Ok ts → ⊥
no_tokens source at ts e f =
    let both : ◌≡◌ {A = Result (List Token) ℕ} (Err at) (Ok ts) = sym e ∙ f in
    cc

pub one_reason : OneRefusal
one_reason source at other name word (inl lexed) (inl again) =
    let both : ◌≡◌ {A = Result (List Token) ℕ} (Err at) (Err other) = sym lexed.0 ∙ again.0 in
    (cc, lexed.1 ∙ sym again.1)
one_reason source at other name word (inl lexed) (inr (inl outside)) = absurd (no_tokens source at outside.1.0 lexed.0 outside.1.1)
one_reason source at other name word (inl lexed) (inr (inr broken)) = absurd (no_tokens source at broken.1.0 lexed.0 broken.1.1)
one_reason source at other name word (inr (inl outside)) (inl lexed) = absurd (no_tokens source other outside.1.0 lexed.0 outside.1.1)
one_reason source at other name word (inr (inr broken)) (inl lexed) = absurd (no_tokens source other broken.1.0 lexed.0 broken.1.1)
one_reason source at other name word (inr (inl outside)) (inr (inl again)) =
    let tokens : ◌≡◌ {A = Result (List Token) ℕ} (Ok again.1.0) (Ok outside.1.0) = sym again.1.1 ∙ outside.1.1 in
    let same : again.1.0 ≡ outside.1.0 = cc in
    let refuses = rw (← same) at outside.1.2 in
    let faults = one_fault (length source) (classes source again.1.0) (record { at = at; kind = outside.0 }) (record { at = other; kind = again.0 }) refuses again.1.2 in
    (faults.0, outside.2 ∙ ap grammar_name faults.1 ∙ sym again.2)
one_reason source at other name word (inr (inl outside)) (inr (inr broken)) = absurd (no_tree source at outside.0 broken.0 outside.1 broken.1)
one_reason source at other name word (inr (inr broken)) (inr (inl outside)) = absurd (no_tree source other outside.0 broken.0 outside.1 broken.1)
one_reason source at other name word (inr (inr broken)) (inr (inr again)) =
    let trees = one_tree source broken.0 again.0 broken.1 again.1 in
    let one : Refusal = record { at = at; kind = broken.2.0 } in
    let two : Refusal = record { at = other; kind = again.2.0 } in
    let is = again.1 in
    let first = subst (λ tree. IsFirstRefusal (Breaks source tree) (Some one)) trees broken.2.1 in
    let same : one ≡ two = one_first source again.0 one two (record { tokens = is.0; lexed = is.1; read = is.2.0 }) first again.2.1 in (
      ap (λ (r : Refusal). r.at) same,
      broken.2.2 ∙ ap (λ t. kind_text source t broken.2.0) trees ∙ ap (λ (r : Refusal). kind_text source again.0 r.kind) same ∙ sym again.2.2,
    )
