-- What reading gives is the answer.
use Rattle.std.proofs.Common.{◌≡◌, ℕ, suc, List, [], ◌∷◌, ◌++◌, length, All, Result, Ok, Err, refl, sym, ap, ◌∙◌, subst, append-nil, arith}
use Rattle.sp_lex.specs.declared.lexeme.Token.{Token}
use Rattle.sp_lex.specs.Places.{IsCut}
use Rattle.sp_syntax.specs.declared.class.Classed.{Classed}
use Rattle.sp_syntax.specs.declared.error.SyntaxKind.TheVariants as kind
use Rattle.sp_syntax.specs.declared.error.SyntaxError.{SyntaxError}
use Rattle.sp_syntax.specs.declared.error.SyntaxError.TheVariants as error
use Rattle.sp_syntax.specs.declared.text.Text.{Text}
use Rattle.sp_syntax.specs.Classes.{IsSpanWithin, with_class, classes}
use Rattle.sp_syntax.specs.Fault.{Fault}
use Rattle.sp_syntax.specs.Grammar.{IsText}
use Rattle.sp_syntax.specs.Reading as spec
use Rattle.sp_syntax.specs.Reading.{GivesReading}
use Rattle.sp_syntax.specs.Refusal.{AnswersTokens}
use Rattle.sp_syntax.proofs.Machine.{start, run}
use Rattle.sp_syntax.proofs.Good.{Good}
use Rattle.sp_syntax.proofs.TextRead.{text_good, text_end, place, AtEnd}
use Rattle.sp_syntax.proofs.Faults.{refused, nothing_refused, room_left}

-- a result has one value
ok_is : (p q : Text × List Classed) (r : Result (Text × List Classed) Fault) → r ≡ Ok p → r ≡ Ok q → p ≡ q
ok_is p q (Ok x) e h = cc
ok_is p q (Err f) e h = cc

read : (end : ℕ) (t : Classed) (ts : List Classed) (r : Result (Text × List Classed) Fault) → Good IsText end 128 (λ ss. start) 128 place r (t ∷ ts) → AtEnd r
    → (result : Result Text SyntaxError) (rest : List Classed) → GivesReading r result rest → AnswersTokens end (t ∷ ts) result
read end t ts (Ok (f, us)) (used, is, e, runs) over (Ok g) rest h =
    let same : f ≡ g = ap (λ z. z.0) (ok_is (f, us) (g, rest) (Ok (f, us)) refl h) in
    let all : t ∷ ts ≡ used = e ∙ ap (λ z. used ++ z) over ∙ append-nil used in
    (subst (λ f. IsText f (t ∷ ts)) same (subst (IsText f) (sym all) is), room_left (t ∷ ts) end 128 start (runs [] ∙ ap (run end 128 []) over))
read end t ts (Ok (f, us)) good over (Err (error.Fault at kind)) rest h = cc
read end t ts (Ok (f, us)) good over (Err error.NoMemory) rest h = tt
read end t ts (Err f) runs over (Ok g) rest h = cc
read end t ts (Err f) runs over (Err (error.Fault at kind)) rest h = let same : f ≡ record { at = at; kind = kind } = cc in refused t ts end (record { at = at; kind = kind }) (runs [] ∙ ap (λ f. Err f) same)
read end t ts (Err f) runs over (Err error.NoMemory) rest h = tt

pub answered : (end : ℕ) (t : Classed) (ts : List Classed) (result : Result Text SyntaxError) (rest : List Classed) → GivesReading (spec.text end 128 (t ∷ ts)) result rest → AnswersTokens end (t ∷ ts) result
answered end t ts result rest h = read end t ts (spec.text end 128 (t ∷ ts)) (text_good end 126 (t ∷ ts)) (text_end end 128 (t ∷ ts)) result rest h

-- no tokens
pub none_answered : (source : List ℕ) (tokens : List Token) → length tokens ≡ 0 → AnswersTokens (length source) (classes source tokens) (Err (error.Fault (length source) kind.Unexpected))
none_answered source [] e = nothing_refused (length source)
none_answered source (t ∷ ts) e = let f : suc (length ts) ≡ 0 = e in absurd (omega (arith, f))

-- some tokens
pub some_answered : (source : List ℕ) (tokens : List Token) (ts : List Classed) (result : Result Text SyntaxError) (rest : List Classed) → (length tokens ≡ 0 → ⊥) → ts ≡ classes source tokens
    → GivesReading (spec.text (length source) 128 ts) result rest → AnswersTokens (length source) (classes source tokens) result
some_answered source [] ts result rest some e h = absurd (some refl)
some_answered source (t ∷ tokens) ts result rest some e h =
    answered (length source) (with_class source t) (classes source tokens) result rest (subst (λ ts. GivesReading (spec.text (length source) 128 ts) result rest) e h)

-- the tokens of a source lie in it
pub within : (source : List ℕ) (tokens : List Token) → IsCut source tokens → All (λ t. IsSpanWithin (length source) t.span) tokens
within source tokens cut = λ k d h. let token = cut.each k d h in let some = token.some in record { rises = omega (arith, some); fits = token.within }
