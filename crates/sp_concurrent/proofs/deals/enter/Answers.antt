use Rattle.std.proofs.Common.{◌≡◌, ◌∙◌, ◌++◌, ◌∷◌, [], sym, ap, ℕ, Bool, true, false, cond, List, append-nil}
use Rattle.std.specs.List.{list_any}
use Rattle.std.specs.Str.{bytes_eq}
use Rattle.sp_names.specs.Names.{with_name}
use Rattle.sp_script.specs.Commands.{name_of, verb_of, is_opening}
use Rattle.sp_concurrent.proofs.deals.enter.Goals as goal

kept : (b : Bool) (names : List (List ℕ)) (name : List ℕ) → b ≡ false → names ≡ names ++ cond b (name ∷ []) []
kept b names name no' = sym (append-nil names) ∙ ap (λ (x : Bool). names ++ cond x (name ∷ []) []) (sym no')

entered : (b : Bool) (names new : List (List ℕ)) (name : List ℕ) → b ≡ true → (b ≡ true → list_any (bytes_eq name) names ≡ false) → new ≡ with_name names name → new ≡ names ++ cond b (name ∷ []) []
entered b names new name opens fresh is =
    is ∙ ap (λ (x : Bool). cond x names (names ++ name ∷ [])) (fresh opens) ∙ ap (λ (x : Bool). names ++ cond x (name ∷ []) []) (sym opens)

pub returns-then-not-is_opening : goal.returns-then-not-is_opening
returns-then-not-is_opening c = kept (is_opening (verb_of c.args.command.now)) c.args.names.now (name_of c.args.command.now) (cc)

pub returns : goal.returns
returns c =
    entered (is_opening (verb_of c.args.command.now)) c.args.names.now c.declare.new.self (name_of c.args.command.now) (cc) c.requires
    (c.in_ok-declare.ensures.names ∙ ap (with_name c.args.names.now) c.name_of.ensures)
