-- What declarations keep.
use Rattle.std.proofs.Common.{◌≡◌, ◌≢◌, ℕ, suc, ◌+◌, ◌*◌, ◌<◌, ◌≤◌, ◌==◌, Bool, true, false, List, [], ◌∷◌, ◌++◌, Ok, refl, sym, ap, ap₂, subst, ◌∙◌, arith, length, get_or, map, append-nil, append_assoc, mul_assoc, length-append}
use Rattle.std.specs.Prelude.{Option, Some, None, All, is_some, nat_lt, if◌then◌else◌, position}
use Rattle.std.specs.List.{list_any, position_or_len}
use Rattle.std.specs.Str.{bytes_eq}
use Rattle.std.proofs.lemmas.Bool.{false≢true}
use Rattle.std.proofs.lemmas.Bool.Decides.{nat_tests}
use Rattle.std.proofs.lemmas.List.{map-append}
use Rattle.std.proofs.lemmas.List.Sums.{fails_before_first}
use Rattle.std.proofs.lemmas.List.Quantifiers.{all_pairs_push}
use Rattle.std.proofs.lemmas.Slice.Eq.{bytes_eq-Decides}
use Rattle.sp_lex.specs.declared.lexeme.Span.{Span}
use Rattle.sp_syntax.specs.declared.text.Declaration.{Declaration}
use Rattle.sp_syntax.specs.declared.text.Text.{Text}
use Rattle.sp_theory.specs.Points.{count_of}
use Rattle.sp_model.specs.declared.parts.Decl.{Decl}
use Rattle.sp_model.specs.Words.{IsValueName}
use Rattle.sp_model.specs.Kept.{IsDecl, AreDifferent}
use Rattle.sp_model.specs.Problem.{sizes_of}
use Rattle.sp_names.specs.Names.{with_name}
use Rattle.sp_trees.specs.declared.refusal.ModelKind.TheVariants as kind
use Rattle.sp_trees.specs.Refusals.{refused_if}
use Rattle.sp_trees.specs.Words.{text, number_of}
use Rattle.sp_declarations.specs.declared.declarations.Limits.{Limits}
use Rattle.sp_declarations.specs.declared.declarations.Read.{Read}
use Rattle.sp_declarations.specs.declared.declarations.Declared.{Declared}
use Rattle.sp_declarations.specs.Steps.{◌>>=◌, in_turn}
use Rattle.sp_declarations.specs.Declarations.{refusal_at, value_refusal, value, values, limit_refusal, decl_of, with_decl, declaration, no_decls, declarations, declarations_of, variable_limits, sight_limits}
use Rattle.sp_declarations.specs.Kept.{HasDeclared, AreDeclared}
use Rattle.sp_declarations.proofs.StepLemmas.{stood, nothing_refused, not_if, all_more}
use Rattle.sp_declarations.proofs.NameLemmas.{different_more, with_new}

-- ---- values
is_none : {X : Type 0} (o : Option X) → is_some o ≡ false → o ≡ None
is_none None h = refl
is_none (Some x) h = cc

no_position : (test : List ℕ → Bool) (xs : List (List ℕ)) → position test xs ≡ None → length xs ≤ position_or_len test xs
no_position test xs h = grind (arith)

not_there : (names : List (List ℕ)) (word : List ℕ) → is_some (number_of names word) ≡ false → (k : ℕ) (d : List ℕ) → k < length names → get_or names k d ≢ word
not_there names word h k d l e =
    let none = no_position (λ name. bytes_eq name word) names (is_none _ h) in
    false≢true (sym (fails_before_first (λ name. bytes_eq name word) names k d (omega arith)) ∙ (bytes_eq-Decides (get_or names k d) word).1 e)

pub record IsNewValue (values : List (List ℕ)) (word : List ℕ) : Type 0 where
  pub new : is_some (number_of values word) ≡ false
  pub few : (length values == 64) ≡ false

new_value : (values : List (List ℕ)) (word : List ℕ) (at : ℕ) → value_refusal values word at ≡ None → IsNewValue values word
new_value values word at h = go (is_some (number_of values word)) refl h
  where
    go : (b : Bool) → is_some (number_of values word) ≡ b → (if b then refusal_at at kind.RepeatedName else refused_if (length values == 64) at (kind.TooMany 64)) ≡ None → IsNewValue values word
    go true e h = cc
    go false e h = record { new = e; few = not_if (length values == 64) at (kind.TooMany 64) h }

not_full : (n most : ℕ) → n ≤ most → (n == most) ≡ false → n + 1 ≤ most
not_full n most h e = grind (arith, nat_tests)

pub record AreValues (vs : List (List ℕ)) (count : ℕ) : Type 0 where
  pub different : AreDifferent vs
  pub few : length vs ≤ 64
  pub each : All IsValueName vs
  pub counted : length vs ≡ count

value_kept : (source : List ℕ) (vs us : List (List ℕ)) (n : ℕ) (w : Span) → AreValues vs n → IsValueName (text source w) → value source vs w ≡ Ok us → AreValues us (n + 1)
value_kept source vs us n w k name h =
    let a = stood _ _ _ h in
    let word = text source w in
    let new = new_value vs word w.start (nothing_refused _ a.value a.was) in
    let long : length (vs ++ word ∷ []) ≡ length vs + 1 = length-append vs (word ∷ []) in
    let fits = not_full (length vs) 64 k.few new.few in
    let count = k.counted in
    subst (λ (us : List (List ℕ)). AreValues us (n + 1)) (let e : vs ++ word ∷ [] ≡ us = cc (a.then) in e)
    (record {
      different = all_pairs_push (λ x y. x ≢ y) vs word k.different (not_there vs word new.new);
      few = omega arith;
      each = all_more IsValueName vs word k.each name;
      counted = omega arith;
    })

values_turn : (source : List ℕ) (ws : List Span) (vs us : List (List ℕ)) (n : ℕ) → AreValues vs n → All (λ w. IsValueName (text source w)) ws → in_turn (value source) vs ws ≡ Ok us → AreValues us (n + length ws)
unfolding in_turn
values_turn source [] vs us n k names h = subst (λ (us : List (List ℕ)). AreValues us (n + 0)) (let e : vs ≡ us = cc in e) (subst (AreValues vs) (let z : n ≡ n + 0 = omega arith in z) k)
values_turn source (w ∷ ws) vs us n k names h =
    let a = stood (value source vs w) (λ t. in_turn (value source) t ws) us h in
    subst (AreValues us) (let e : n + 1 + length ws ≡ n + suc (length ws) = omega arith in e)
    (values_turn source ws a.value us (n + 1) (value_kept source vs a.value n w k (names 0 w (omega arith)) a.was) (λ i d l. names (suc i) d (omega arith)) a.then)

values_kept : (source : List ℕ) (ws : List Span) (us : List (List ℕ)) → All (λ w. IsValueName (text source w)) ws → values source ws ≡ Ok us → AreValues us (length ws)
unfolding values
values_kept source ws us names h =
    subst (AreValues us) (let e : 0 + length ws ≡ length ws = omega arith in e)
    (values_turn source ws [] us 0 (record { different = λ i j d l m. absurd (omega arith); few = omega arith; each = λ k d l. absurd (omega arith); counted = refl }) names h)

decl_kept : (source : List ℕ) (d : Declaration) (q : Decl) → HasDeclared source d → decl_of source d ≡ Ok q → IsDecl q × (q.name ≡ text source d.name) × (length q.values ≡ length d.values)
decl_kept source d q has h =
    let a = stood _ _ _ h in
    let k = values_kept source d.values a.value has.values a.was in
    let same : record { name = text source d.name; values = a.value } ≡ q = cc (a.then) in
    subst (λ (q : Decl). IsDecl q × (q.name ≡ text source d.name) × (length q.values ≡ length d.values)) same
    (record { name = has.name; some = (let s = has.some in let c = k.counted in omega arith); few = k.few; values = k.each; different = k.different }, refl, k.counted)

-- ---- declarations
pub record AreRead (l : Limits) (before : List (List ℕ)) (r : Read) : Type 0 where
  pub count : length r.decls ≤ l.most
  pub points_are : r.points ≡ count_of (sizes_of r.decls)
  pub points_few : r.points ≤ l.points
  pub each : All IsDecl r.decls
  pub names : r.names ≡ before ++ map (λ d. d.name) r.decls
  pub different : AreDifferent r.names

count_of-push : (ks : List ℕ) (k : ℕ) → count_of (ks ++ k ∷ []) ≡ count_of ks * k
count_of-push [] k = grind arith
count_of-push (j ∷ ks) k = ap (λ n. j * n) (count_of-push ks k) ∙ sym (mul_assoc j (count_of ks) k)

pub record IsWithinLimits (l : Limits) (r : Read) (d : Declaration) : Type 0 where
  pub count : (length r.decls == l.most) ≡ false
  pub points : nat_lt l.points (r.points * length d.values) ≡ false

within_limits : (l : Limits) (r : Read) (d : Declaration) → limit_refusal l r d ≡ None → IsWithinLimits l r d
within_limits l r d h = go (length r.decls == l.most) refl h
  where
    go : (b : Bool) → (length r.decls == l.most) ≡ b → (if b then refusal_at d.left.start (kind.TooMany l.most) else refused_if (nat_lt l.points (r.points * length d.values)) d.left.start (kind.TooMany l.points)) ≡ None → IsWithinLimits l r d
    go true e h = cc
    go false e h = record { count = e; points = not_if (nat_lt l.points (r.points * length d.values)) d.left.start (kind.TooMany l.points) h }

not_above : (a b : ℕ) → nat_lt a b ≡ false → b ≤ a
not_above a b h = grind (arith, nat_tests)

declaration_kept : (source : List ℕ) (l : Limits) (before : List (List ℕ)) (r q : Read) (d : Declaration) → AreRead l before r → HasDeclared source d → declaration source l r d ≡ Ok q → AreRead l before q × (length q.decls ≡ length r.decls + 1)
unfolding declaration
declaration_kept source l before r q d k has h =
    let a = stood _ _ _ h in
    let b = stood _ _ _ a.then in
    let c = stood _ _ _ b.then in
    let limits = within_limits l r d (nothing_refused _ a.value a.was) in
    let word = text source d.name in
    let new : list_any (bytes_eq word) r.names ≡ false = not_if _ d.name.start kind.RepeatedName (nothing_refused _ b.value b.was) in
    let one = decl_kept source d c.value has c.was in
    let names : with_name r.names word ≡ r.names ++ word ∷ [] = with_new r.names word new in
    let long : length (r.decls ++ c.value ∷ []) ≡ length r.decls + 1 = length-append r.decls (c.value ∷ []) in
    let fits = not_full (length r.decls) l.most k.count limits.count in
    subst (λ (q : Read). AreRead l before q × (length q.decls ≡ length r.decls + 1)) (let e : with_decl source r d c.value ≡ q = cc (c.then) in e) (
      record {
        count = omega arith;
        points_are = ap₂ (λ a b. a * b) k.points_are (sym one.2) ∙ sym (count_of-push (sizes_of r.decls) (length c.value.values)) ∙ ap count_of (sym (map-append (λ (d : Decl). length d.values) r.decls (c.value ∷ [])));
        points_few = not_above l.points (r.points * length d.values) limits.points;
        each = all_more IsDecl r.decls c.value k.each one.0;
        names = names ∙ ap₂ (λ xs y. xs ++ y ∷ []) k.names (sym one.1) ∙ append_assoc before (map (λ (d : Decl). d.name) r.decls) (c.value.name ∷ []) ∙ ap (λ xs. before ++ xs) (sym (map-append (λ (d : Decl). d.name) r.decls (c.value ∷ [])));
        different = subst AreDifferent (sym names) (different_more r.names word k.different new);
      },
      long,
    )

turns_kept : (source : List ℕ) (l : Limits) (before : List (List ℕ)) (ds : List Declaration) (r q : Read) → AreRead l before r → All (HasDeclared source) ds → in_turn (declaration source l) r ds ≡ Ok q → AreRead l before q × (length q.decls ≡ length r.decls + length ds)
unfolding in_turn
turns_kept source l before [] r q k has h =
    let e : r ≡ q = cc in (subst (AreRead l before) e k, ap (λ (r : Read). length r.decls) (sym e) ∙ (let z : length r.decls ≡ length r.decls + 0 = omega arith in z))
turns_kept source l before (d ∷ ds) r q k has h =
    let a = stood (declaration source l r d) (λ t. in_turn (declaration source l) t ds) q h in
    let next = declaration_kept source l before r a.value d k (has 0 d (omega arith)) a.was in
    let more = turns_kept source l before ds a.value q next.0 (λ i x m. has (suc i) x (omega arith)) a.then in
    let one = next.1 in
    let rest = more.1 in
    (more.0, omega arith)

pub declared_kept : (source : List ℕ) (t : Text) (d : Declared) → 0 < length t.variables.declarations → 0 < length t.observations.declarations → All (HasDeclared source) t.variables.declarations → All (HasDeclared source) t.observations.declarations
    → declarations_of source t ≡ Ok d → AreDeclared d.variables d.sights
unfolding declarations_of
declared_kept source t d vs ss hv hs h =
    let a = stood (declarations source variable_limits [] t.variables.declarations) (λ v. declarations source sight_limits v.names t.observations.declarations >>= λ s. Ok (record { variables = v.decls; sights = s.decls })) d h in
    let b = stood (declarations source sight_limits a.value.names t.observations.declarations) (λ s. Ok (record { variables = a.value.decls; sights = s.decls })) d a.then in
    let v = turns_kept source variable_limits [] t.variables.declarations (no_decls []) a.value
    (record { count = omega arith; points_are = refl; points_few = omega arith; each = λ k d l. absurd (omega arith); names = refl; different = λ i j d l m. absurd (omega arith) }) hv a.was in
    let s = turns_kept source sight_limits a.value.names t.observations.declarations (no_decls a.value.names) b.value
    (record { count = omega arith; points_are = refl; points_few = omega arith; each = λ k d l. absurd (omega arith); names = sym (append-nil a.value.names); different = v.0.different }) hs b.was in
    let vc = v.1 in let sc = s.1 in
    let names : b.value.names ≡ map (λ (d : Decl). d.name) (a.value.decls ++ b.value.decls) =
    s.0.names ∙ ap (λ xs. xs ++ map (λ (d : Decl). d.name) b.value.decls) v.0.names ∙ sym (map-append (λ (d : Decl). d.name) a.value.decls b.value.decls) in
    subst (λ (d : Declared). AreDeclared d.variables d.sights) (let e : record { variables = a.value.decls; sights = b.value.decls } ≡ d = cc (b.then) in e)
    (record {
      some_variable = omega arith;
      few_variables = v.0.count;
      some_sight = omega arith;
      few_sights = s.0.count;
      few_states = let e = v.0.points_are in let f = v.0.points_few in omega arith;
      few_joint = let e = s.0.points_are in let f = s.0.points_few in omega arith;
      variables_kept = v.0.each;
      sights_kept = s.0.each;
      different = subst AreDifferent names s.0.different;
    })
