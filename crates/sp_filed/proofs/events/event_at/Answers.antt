use Rattle.std.proofs.Common.{◌≡◌, ◌≢◌, ◌++◌, ℕ, List, arith, ap, sym, ◌∙◌, codes, Ok, Err, Option, Some, None, get_or, Result}
use Rattle.std.specs.Prelude.{MatchOption, IfOk}
use Rattle.sp_theory.specs.Book as book
use Rattle.sp_theory.specs.Book.{settle, publish, prune, end}
use Rattle.sp_dd.specs.declared.NoMemory.{NoMemory}
use Rattle.sp_value.specs.declared.events.Event.{Event}
use Rattle.sp_value.specs.Events.{event_of}
use Rattle.sp_lines.specs.Lines.{spaced_pairs}
use Rattle.sp_planfile.specs.RunText.{event_line}
use Rattle.sp_planfile.proofs.Sections.{behind_same}
use Rattle.sp_filed.specs.declared.sizes.Sizes.{Sizes}
use Rattle.sp_filed.specs.Sizes.{IsEventOf, IsPrune}
use Rattle.sp_filed.proofs.events.event_at.Goals as goal

not_prune : (line text : List ℕ) (s : Sizes) (x : book.Event) → line ≡ codes "prune" ++ text → ((pairs : List (ℕ × ℕ)) → IsPrune pairs → text ≢ spaced_pairs pairs) → IsEventOf s x → line ≢ event_line x
not_prune line text s (settle k e a links) begins none good is = let other : 112 ≡ 115 = ap (λ l. get_or l 0 0) (sym begins ∙ is) in omega (arith, other)
not_prune line text s publish begins none good is = let other : 114 ≡ 117 = ap (λ l. get_or l 1 0) (sym begins ∙ is) in omega (arith, other)
not_prune line text s (prune pairs) begins none good is = none pairs good.0 (behind_same (codes "prune") text (spaced_pairs pairs) (sym begins ∙ is))
not_prune line text s end begins none good is = let other : 112 ≡ 101 = ap (λ l. get_or l 0 0) (sym begins ∙ is) in omega (arith, other)

prune_told : (r : Result (Option Event) NoMemory) (line text : List ℕ) (s : Sizes) → line ≡ codes "prune" ++ text
    → IfOk r (λ found. MatchOption found ((pairs : List (ℕ × ℕ)) → IsPrune pairs → text ≢ spaced_pairs pairs) (λ x. ((sizes : Sizes) → IsEventOf sizes (event_of x)) × (codes "prune" ++ text ≡ event_line (event_of x))))
    → IfOk r (λ found. MatchOption found ((x : book.Event) → IsEventOf s x → line ≢ event_line x) (λ x. IsEventOf s (event_of x) × (line ≡ event_line (event_of x))))
prune_told (Ok None) line text s begins none = λ x good is. not_prune line text s x begins none good is
prune_told (Ok (Some x)) line text s begins read = (read.0 s, begins ∙ read.1)
prune_told (Err e) line text s begins h = tt

pub returns-in-Some-behind : goal.returns-in-Some-behind
returns-in-Some-behind c = prune_told c.prune_at.result c.args.line.now c.in-Some-behind.text.now c.args.sizes c.in-Some-behind.ensures c.prune_at.ensures
