-- Declarations as they are spelled.
use Rattle.std.proofs.Common.{◌≡◌, ℕ, suc, ◌*◌, ◌<◌, ◌==◌, false, List, [], ◌∷◌, ◌++◌, length, map, refl, sym, ap, ◌∙◌, append_assoc, append-nil, arith}
use Rattle.std.specs.Prelude.{Result, Ok, All, is_some, nat_lt, if◌then◌else◌}
use Rattle.std.specs.List.{list_any}
use Rattle.std.specs.Str.{bytes_eq}
use Rattle.std.proofs.lemmas.List.{length-map}
use Rattle.sp_lex.specs.declared.lexeme.Span.{Span}
use Rattle.sp_syntax.specs.declared.class.WordClass.{WordClass}
use Rattle.sp_syntax.specs.declared.text.Declaration.{Declaration}
use Rattle.sp_syntax.specs.declared.text.Declarations.{Declarations}
use Rattle.sp_syntax.specs.declared.text.Section.{Section}
use Rattle.sp_syntax.specs.Grammar.{IsDeclaration, AreDeclarations, AreAll}
use Rattle.sp_spelled.specs.Signs.{Gap, Spelled, IsWordText}
use Rattle.sp_spelled.specs.Shapes.{group, declaration_signs}
use Rattle.sp_spelled.specs.Written.{Written, IsKey, IsNameWord}
use Rattle.sp_spelled.proofs.Written.{written_alone, written_lists}
use Rattle.sp_spelled.proofs.Declarations.{HoldsOf, written_declaration, written_declarations}
use Rattle.sp_model.specs.declared.parts.Decl.{Decl}
use Rattle.sp_names.specs.Names.{with_name}
use Rattle.sp_trees.specs.declared.refusal.Refusal.{Refusal}
use Rattle.sp_trees.specs.declared.refusal.ModelKind.TheVariants as kind
use Rattle.sp_trees.specs.Refusals.{refused_if}
use Rattle.sp_trees.specs.Words.{text, number_of}
use Rattle.sp_declarations.specs.declared.declarations.Limits.{Limits}
use Rattle.sp_declarations.specs.declared.declarations.Read.{Read}
use Rattle.sp_declarations.specs.declared.declarations.Declared.{Declared}
use Rattle.sp_declarations.specs.Steps.{◌>>=◌, unless_refused, in_turn}
use Rattle.sp_declarations.specs.Declarations.{refusal_at, value, value_refusal, values, declaration, name_refusal, with_decl, declarations, declarations_of, no_decls, variable_limits, sight_limits}
use Rattle.sp_written.proofs.Lines.{in_turn_both, in_turn_alone}

-- ---- values
-- behind those values, each of these is new, and they are few
abbrev pub AreNew : List (List ℕ) → List (List ℕ) → Type 0
AreNew before [] = Unit {0}
AreNew before (w ∷ ws) = (is_some (number_of before w) ≡ false) × ((length before == 64) ≡ false) × AreNew (before ++ w ∷ []) ws

values_read : (source : List ℕ) (spans : List Span) (before ws : List (List ℕ)) → map (text source) spans ≡ ws → AreNew before ws → in_turn (value source) before spans ≡ Ok (before ++ ws)
unfolding in_turn
values_read source [] before [] e h = ap Ok (sym (append-nil before))
values_read source [] before (w ∷ ws) e h = cc
values_read source (s ∷ spans) before [] e h = cc
values_read source (s ∷ spans) before (w ∷ ws) e h =
    let here : text source s ≡ w = cc in
    let rest : map (text source) spans ≡ ws = cc in
    ap (λ v. (unless_refused (value_refusal before v s.start) >>= λ _. Ok (before ++ v ∷ [])) >>= λ b. in_turn (value source) b spans) here
    ∙ ap (λ b. (unless_refused (if b then refusal_at s.start kind.RepeatedName else refused_if (length before == 64) s.start (kind.TooMany 64)) >>= λ _. Ok (before ++ w ∷ [])) >>= λ b. in_turn (value source) b spans) h.0
    ∙ ap (λ b. (unless_refused (refused_if b s.start (kind.TooMany 64)) >>= λ _. Ok (before ++ w ∷ [])) >>= λ b. in_turn (value source) b spans) h.1
    ∙ values_read source spans (before ++ w ∷ []) ws rest h.2 ∙ ap Ok (append_assoc before (w ∷ []) ws)

-- ---- one declaration
abbrev pub read_with : Read → List ℕ → List (List ℕ) → Read
read_with r w ws = record { names = with_name r.names w; decls = r.decls ++ record { name = w; values = ws } ∷ []; points = r.points * length ws }

-- there is room for a declaration, and its name and its values are new
pub record HasRoom (l : Limits) (r : Read) (w : List ℕ) (ws : List (List ℕ)) : Type 0 where
  pub few : (length r.decls == l.most) ≡ false
  pub points : nat_lt l.points (r.points * length ws) ≡ false
  pub new : list_any (bytes_eq w) r.names ≡ false
  pub values : AreNew [] ws

declaration_read : (source : List ℕ) (l : Limits) (r : Read) (left n : Span) (spans : List Span) (right : Span) (w : List ℕ) (ws : List (List ℕ)) → HasRoom l r w ws → text source n ≡ w → map (text source) spans ≡ ws
    → declaration source l r (record { left = left; name = n; values = spans; right = right }) ≡ Ok (read_with r w ws)
unfolding declaration values
declaration_read source l r left n spans right w ws room said e =
    let long : length spans ≡ length ws = sym (length-map spans (text source)) ∙ ap length e in
    let d : Declaration = record { left = left; name = n; values = spans; right = right } in
    let last : Result Read Refusal = in_turn (value source) [] spans >>= λ vs. Ok (with_decl source r (record { left = left; name = n; values = spans; right = right }) (record { name = text source n; values = vs })) in
    ap (λ b. unless_refused (if b then refusal_at left.start (kind.TooMany l.most) else refused_if (nat_lt l.points (r.points * length spans)) left.start (kind.TooMany l.points))
    >>= λ _. (unless_refused (name_refusal source r.names (record { left = left; name = n; values = spans; right = right }))
    >>= λ _. ((in_turn (value source) [] spans >>= λ vs. Ok (let c : Decl = record { name = text source n; values = vs } in c)) >>= λ c. Ok (with_decl source r (record { left = left; name = n; values = spans; right = right }) c)))) room.few
    ∙ ap (λ b. unless_refused (refused_if b left.start (kind.TooMany l.points))
    >>= λ _. (unless_refused (name_refusal source r.names (record { left = left; name = n; values = spans; right = right }))
    >>= λ _. ((in_turn (value source) [] spans >>= λ vs. Ok (let c : Decl = record { name = text source n; values = vs } in c)) >>= λ c. Ok (with_decl source r (record { left = left; name = n; values = spans; right = right }) c))))
    (ap (λ k. nat_lt l.points (r.points * k)) long ∙ room.points)
    ∙ ap (λ b. unless_refused (refused_if b n.start kind.RepeatedName)
    >>= λ _. ((in_turn (value source) [] spans >>= λ vs. Ok (let c : Decl = record { name = text source n; values = vs } in c)) >>= λ c. Ok (with_decl source r (record { left = left; name = n; values = spans; right = right }) c)))
    (ap (λ v. list_any (bytes_eq v) r.names) said ∙ room.new)
    ∙ ap (λ o. (o >>= λ vs. Ok (let c : Decl = record { name = text source n; values = vs } in c)) >>= λ c. Ok (with_decl source r (record { left = left; name = n; values = spans; right = right }) c))
    (values_read source spans [] ws e room.values)
    ∙ (λ i. Ok (record { names = with_name r.names (said i); decls = r.decls ++ record { name = said i; values = ws } ∷ []; points = r.points * long i }))

-- ---- as they are spelled
-- reading the signs as declarations leads from what was read to that
abbrev pub Declares : Limits → Read → Read → ℕ → List Spelled → Type 0
Declares l r s depth us = Written (AreAll IsDeclaration) (λ source ds. in_turn (declaration source l) r ds ≡ Ok s) depth us

spelled_words : HoldsOf (λ ws source spans. map (text source) spans ≡ ws)
spelled_words = record { nothing = λ source. refl; more = λ source w s ws spans said e. (λ i. said i ∷ e i) }

pub declares_one : (l : Limits) (r : Read) (w v : List ℕ) (ws : List (List ℕ)) (g : Gap) → IsNameWord w → All IsWordText (v ∷ ws) → HasRoom l r w (v ∷ ws)
    → Declares l r (read_with r w (v ∷ ws)) 1 (declaration_signs w (v ∷ ws) g)
declares_one l r w v ws g named texts room = written_alone IsDeclaration (λ source d. declaration source l r d ≡ Ok (read_with r w (v ∷ ws))) (λ source ds. in_turn (declaration source l) r ds ≡ Ok (read_with r w (v ∷ ws)))
    (declaration_signs w (v ∷ ws) g) 1
    (written_declaration (λ us source spans. map (text source) spans ≡ us) spelled_words g w v ws (λ source d. declaration source l r d ≡ Ok (read_with r w (v ∷ ws))) named texts
    (λ source left n spans right said e. declaration_read source l r left n spans right w (v ∷ ws) room said e))
    (λ source d h. in_turn_alone (declaration source l) r (read_with r w (v ∷ ws)) d h)

pub declares_both : (l : Limits) (r s t : Read) (us vs : List Spelled) (depth : ℕ) → Declares l r s depth us → Declares l s t depth vs → Declares l r t depth (us ++ vs)
declares_both l r s t us vs depth first second = written_lists IsDeclaration _ _ _ us vs depth first second (λ source ds es h k. in_turn_both (declaration source l) r s (Ok t) ds es h k)

-- the declarations of a sort
pub writes_sort : (k : WordClass) (w : List ℕ) (l : Limits) (names : List (List ℕ)) (s : Read) (us : List Spelled) (g : Gap) (depth : ℕ) → IsKey w k → 0 < length s.decls → Declares l (no_decls names) s depth us
    → Written (AreDeclarations k) (λ source x. declarations source l names x.declarations ≡ Ok s) (suc depth) (group w us g)
unfolding in_turn
writes_sort k w l names s us g depth key some part = written_declarations w k us g depth (λ source ds. in_turn (declaration source l) (no_decls names) ds ≡ Ok s) _ key part (λ source ds h. any source ds h) (λ source left n ds right h. h)
  where
    any : (source : List ℕ) (ds : List Declaration) → in_turn (declaration source l) (no_decls names) ds ≡ Ok s → 0 < length ds
    any source [] h = let same : no_decls names ≡ s = cc in let none : 0 ≡ length s.decls = ap (λ (r : Read). length r.decls) same in absurd (omega arith)
    any source (d ∷ ds) h = omega arith

-- both sorts
pub declared_ok : (source : List ℕ) (x y : Declarations) (sections : List Section) (v s : Read) → declarations source variable_limits [] x.declarations ≡ Ok v → declarations source sight_limits v.names y.declarations ≡ Ok s
    → declarations_of source (record { variables = x; observations = y; sections = sections }) ≡ Ok (record { variables = v.decls; sights = s.decls })
unfolding declarations_of
declared_ok source x y sections v s h k =
    ap (λ o. o >>= λ (r : Read). (declarations source sight_limits r.names y.declarations >>= λ (t : Read). Ok (let d : Declared = record { variables = r.decls; sights = t.decls } in d))) h
    ∙ ap (λ o. o >>= λ (t : Read). Ok (let d : Declared = record { variables = v.decls; sights = t.decls } in d)) k
