-- The rows of declarations.
use Rattle.std.proofs.Common.{◌≡◌, ◌≢◌, ℕ, ◌*◌, ◌<◌, ◌≤◌, Bool, true, false, ◌||◌, List, [], ◌∷◌, ◌++◌, length, map, Option, Some, None, Ok, refl, sym, ap, ◌∙◌, subst, arith, inl, inr, length-append, append-nil, append_assoc}
use Rattle.std.specs.Prelude.{◌⊎◌, ◌==◌, Result, nat_lt, is_some, position}
use Rattle.std.specs.List.{list_any, position_or_len}
use Rattle.std.specs.Str.{bytes_eq}
use Rattle.std.proofs.lemmas.Bool.{false≢true}
use Rattle.std.proofs.lemmas.Bool.Decides.{Decides-eqb, nat_tests}
use Rattle.std.proofs.lemmas.Slice.Eq.{bytes_eq-Decides}
use Rattle.std.proofs.lemmas.List.Sums.{fold-append, fails_before_first}
use Rattle.std.proofs.lemmas.List.Folds.{list_any_none, list_any_at}
use Rattle.std.proofs.lemmas.List.Quantifiers.{position-Some}
use Rattle.sp_lex.specs.declared.lexeme.Span.{Span}
use Rattle.sp_syntax.specs.declared.text.Declaration.{Declaration}
use Rattle.sp_syntax.specs.declared.text.Declarations.{Declarations}
use Rattle.sp_syntax.specs.declared.text.Text.{Text}
use Rattle.sp_model.specs.declared.parts.Decl.{Decl}
use Rattle.sp_trees.specs.declared.refusal.Refusal.{Refusal}
use Rattle.sp_trees.specs.declared.refusal.ModelKind.{ModelKind}
use Rattle.sp_trees.specs.declared.refusal.ModelKind.TheVariants as kind
use Rattle.sp_trees.specs.Refusals.{is_before, rank, refused_if}
use Rattle.sp_trees.specs.Words.{text, number_of}
use Rattle.sp_trees.specs.Rows.{IsFirstRefusal, Among, IsRefusalAt}
use Rattle.sp_trees.proofs.LeastLemmas.{least_same, least_test}
use Rattle.sp_syntax.specs.Spans.{AreRising, all_spans, declaration_spans, declarations_spans}
use Rattle.sp_declarations.specs.declared.declarations.Limits.{Limits}
use Rattle.sp_declarations.specs.declared.declarations.Read.{Read}
use Rattle.sp_declarations.specs.Told.{decl_in, DeclarationsAreTold}
use Rattle.sp_declarations.specs.Steps.{◌>>=◌, unless_refused}
use Rattle.sp_declarations.specs.Declarations as spec
use Rattle.sp_declarations.specs.Declarations.{variable_limits, sight_limits, value_refusal, limit_refusal, name_refusal, decl_of, with_decl, no_decls, declarations_of}
use Rattle.sp_declarations.specs.Rows.{PartRow, HasPlace, refusal_of, DeclarationWordRow, choices, LimitRow, NameRow, DeclarationRow, DeclaredRow, DeclarationRowsAreRefusals}
use Rattle.sp_declarations.proofs.StepLemmas.{stood, nothing_refused, not_if}
use Rattle.sp_declarations.proofs.NameLemmas.{with_new}
use Rattle.sp_declarations.proofs.ChainLemmas.{has_left, has_right, rising_split, place_below, place_above, later, later_kind, least_then, refused_ok, refused_unless, least_else, part_place, turns_least, turns_fit}

-- ---- words among words

not_first : (p : List ℕ → Bool) (xs : List (List ℕ)) → position p xs ≡ None → length xs ≤ position_or_len p xs
not_first p xs h = grind (arith)

position_any : (p : List ℕ → Bool) (xs : List (List ℕ)) → is_some (position p xs) ≡ list_any p xs
position_any p xs = go (position p xs) refl
  where
    go : (o : Option ℕ) → position p xs ≡ o → is_some o ≡ list_any p xs
    go None e = let none = not_first p xs e in sym (list_any_none p xs (λ k d l. fails_before_first p xs k d (omega arith)))
    go (Some i) e = let at = position-Some p xs i [] e in sym (list_any_at p xs i [] at.0 at.1)

module _ {X : Type 0} (f : X → List ℕ) (p : List ℕ → Bool) (w : List ℕ) (to : (n : List ℕ) → p n ≡ true → n ≡ w) (back : (n : List ℕ) → n ≡ w → p n ≡ true) where
  among_of : (xs : List X) → list_any p (map f xs) ≡ true → Among (λ x. f x ≡ w) xs
  among_of [] h = absurd (false≢true h)
  among_of (x ∷ xs) h = go (p (f x)) refl h (among_of xs)
    where
      go : (b : Bool) → p (f x) ≡ b → (b || list_any p (map f xs)) ≡ true → (list_any p (map f xs) ≡ true → Among (λ x. f x ≡ w) xs) → Among (λ x. f x ≡ w) (x ∷ xs)
      go true e h more = inl (to (f x) e)
      go false e h more = inr (more h)

  any_of : (xs : List X) → Among (λ x. f x ≡ w) xs → list_any p (map f xs) ≡ true
  any_of [] h = absurd h
  any_of (x ∷ xs) (inl e) = ap (λ b. b || list_any p (map f xs)) (back (f x) e)
  any_of (x ∷ xs) (inr h) = go (p (f x)) (any_of xs h)
    where
      go : (b : Bool) → list_any p (map f xs) ≡ true → (b || list_any p (map f xs)) ≡ true
      go true e = refl
      go false e = e

-- a refusal at the same place whose kind isn't before
at_later : (at : ℕ) (j k : ModelKind) (q : Refusal) → IsRefusalAt at j q → rank k ≤ rank j → is_before q (record { at = at; kind = k }) ≡ false
at_later at j k q h l = subst (λ q. is_before q (record { at = at; kind = k }) ≡ false) (sym h) (later_kind (record { at = at; kind = j }) (record { at = at; kind = k }) (omega arith) l)

place_of : (at : ℕ) (k : ModelKind) (r : Refusal) → IsRefusalAt at k r → r.at ≡ at
place_of at k r h = ap (λ r. r.at) h

length-map : {X Y : Type 0} (f : X → Y) (xs : List X) → length (map f xs) ≡ length xs
length-map f [] = refl
length-map f (x ∷ xs) = omega (arith, length-map f xs)

map-more : {X Y : Type 0} (f : X → Y) (xs : List X) (x : X) → map f xs ++ f x ∷ [] ≡ map f (xs ++ x ∷ [])
map-more f [] x = refl
map-more f (y ∷ xs) x = ap (λ ys. f y ∷ ys) (map-more f xs x)

-- ---- values

module _ (source : List ℕ) where
  abbrev one : Span → List Span
  one w = w ∷ []

  singles : (ws : List Span) → all_spans one ws ≡ ws
  singles [] = refl
  singles (w ∷ ws) = ap (λ vs. w ∷ vs) (singles ws)

  value_least : (before : List Span) (vs : List (List ℕ)) (w : Span) → vs ≡ map (text source) before → IsFirstRefusal (DeclarationWordRow source before w) (value_refusal vs (text source w) w.start)
  value_least before vs w e =
      least_else (Among (λ v. text source v ≡ text source w) before) (λ r. (length before ≡ 64) × IsRefusalAt w.start (kind.TooMany 64) r) (is_some (number_of vs (text source w))) w.start kind.RepeatedName (refused_if (length vs == 64) w.start (kind.TooMany 64))
      (λ q. among_of (text source) test (text source w) to back before (sym there ∙ q)) (λ h. there ∙ any_of (text source) test (text source w) to back before h)
      (λ q. least_test (length before ≡ 64) (length vs == 64) w.start (kind.TooMany 64) (λ q. let m = (Decides-eqb (length vs) 64).0 q in let l = long in omega arith) (λ q. let l = long in (Decides-eqb (length vs) 64).1 (omega arith)))
      (λ q h. at_later w.start (kind.TooMany 64) kind.RepeatedName q h.1 (omega arith))
    where
      test : List ℕ → Bool
      test n = bytes_eq n (text source w)

      to : (n : List ℕ) → bytes_eq n (text source w) ≡ true → n ≡ text source w
      to n q = (bytes_eq-Decides n (text source w)).0 q

      back : (n : List ℕ) → n ≡ text source w → bytes_eq n (text source w) ≡ true
      back n q = (bytes_eq-Decides n (text source w)).1 q

      there : is_some (number_of vs (text source w)) ≡ list_any (λ n. bytes_eq n (text source w)) (map (text source) before)
      there = ap (λ vs. is_some (number_of vs (text source w))) e ∙ position_any (λ n. bytes_eq n (text source w)) (map (text source) before)

      long : length vs ≡ length before
      long = ap length e ∙ length-map (text source) before

  abbrev HasValues : List Span → List (List ℕ) → Type 0
  HasValues before vs = vs ≡ map (text source) before

  value_next : (before : List Span) (s t : List (List ℕ)) (w : Span) → HasValues before s → spec.value source s w ≡ Ok t → HasValues (before ++ w ∷ []) t
  value_next before s t w h e =
      let a = stood (unless_refused (value_refusal s (text source w) w.start)) (λ _. Ok (s ++ text source w ∷ [])) t e in
      sym (same (s ++ text source w ∷ []) t (Ok t) a.then refl) ∙ ap (λ vs. vs ++ text source w ∷ []) h ∙ map-more (text source) before w
    where
      same : (a b : List (List ℕ)) (r : Result (List (List ℕ)) Refusal) → Ok a ≡ r → r ≡ Ok b → a ≡ b
      same a b r q k = cc

  value_place : (before : List Span) (w : Span) (r : Refusal) → DeclarationWordRow source before w r → HasPlace (one w) r.at
  value_place before w r (inl h) = inl (sym (place_of w.start kind.RepeatedName r h.1))
  value_place before w r (inr h) = inl (sym (place_of w.start (kind.TooMany 64) r h.1))

  value_right : (before : List Span) (s : List (List ℕ)) (w : Span) (low high : ℕ) → HasValues before s → AreRising low (one w) high → IsFirstRefusal (DeclarationWordRow source before w) (refusal_of (spec.value source s w))
  value_right before s w low high h rise =
      let o = value_refusal s (text source w) w.start in
      subst (IsFirstRefusal (DeclarationWordRow source before w)) (sym (refused_ok (unless_refused o) (λ _. s ++ text source w ∷ []) ∙ refused_unless o)) (value_least before s w h)

  values_place : (ws : List Span) (r : Refusal) → PartRow (DeclarationWordRow source) [] ws r → HasPlace ws r.at
  values_place ws r h = subst (λ ss. HasPlace ss r.at) (singles ws) (part_place (DeclarationWordRow source) one value_place [] ws r h)

  values_least : (ws : List Span) (low high : ℕ) → AreRising low ws high → IsFirstRefusal (PartRow (DeclarationWordRow source) [] ws) (refusal_of (spec.values source ws))
  unfolding spec.values
  values_least ws low high rise =
      turns_least (spec.value source) (DeclarationWordRow source) one HasValues value_right value_next value_place [] [] ws low high refl (subst (λ ss. AreRising low ss high) (sym (singles ws)) rise)

  values_told : (ws : List Span) (vs : List (List ℕ)) → spec.values source ws ≡ Ok vs → vs ≡ map (text source) ws
  unfolding spec.values
  values_told ws vs e = turns_fit (spec.value source) (DeclarationWordRow source) one HasValues value_right value_next value_place [] [] vs ws refl e

  decl_told : (d : Declaration) (decl : Decl) → decl_of source d ≡ Ok decl → decl ≡ decl_in source d
  decl_told d decl e =
      let a = stood (spec.values source d.values) (λ vs. Ok (record { name = text source d.name; values = vs })) decl e in
      sym (let q : record { name = text source d.name; values = a.value } ≡ decl = cc (a.then) in q) ∙ ap (λ vs. record { name = text source d.name; values = vs }) (values_told d.values a.value a.was)

-- ---- one declaration

module _ (source : List ℕ) (l : Limits) (others : List Declaration) where
  abbrev name_in : Declaration → List ℕ
  name_in d = text source d.name

  abbrev Row : List Declaration → Declaration → Refusal → Type 0
  Row before d r = DeclarationRow source l.most l.points others before d r

  -- what was read of these declarations
  record HasRead (before : List Declaration) (r : Read) : Type 0 where
    names : r.names ≡ map name_in (others ++ before)
    decls : r.decls ≡ map (decl_in source) before
    count : length r.decls ≡ length before
    points : r.points ≡ choices before
    few : choices before ≤ l.points

  limit_least : (before : List Declaration) (r : Read) (d : Declaration) → HasRead before r → IsFirstRefusal (LimitRow l.most l.points before d) (limit_refusal l r d)
  limit_least before r d h =
      least_else (length before ≡ l.most) Second (length r.decls == l.most) d.left.start (kind.TooMany l.most) (refused_if (nat_lt l.points (r.points * length d.values)) d.left.start (kind.TooMany l.points))
      (λ q. let m = (Decides-eqb (length r.decls) l.most).0 q in let c = h.count in omega arith) (λ q. let c = h.count in (Decides-eqb (length r.decls) l.most).1 (omega arith))
      second
      (λ q k. at_later d.left.start (kind.TooMany l.points) (kind.TooMany l.most) q k.3 (omega arith))
    where
      Second : Refusal → Type 0
      Second q = (length before ≢ l.most) × (choices before ≤ l.points) × (l.points < choices (before ++ d ∷ [])) × IsRefusalAt d.left.start (kind.TooMany l.points) q

      more : r.points * length d.values ≡ choices (before ++ d ∷ [])
      more = ap (λ n. n * length d.values) h.points ∙ sym (fold-append (λ n e. n * length e.values) 1 before (d ∷ []))

      second : (length r.decls == l.most) ≡ false → IsFirstRefusal Second (refused_if (nat_lt l.points (r.points * length d.values)) d.left.start (kind.TooMany l.points))
      second q =
          least_same (λ r. ((length before ≢ l.most) × (choices before ≤ l.points) × (l.points < choices (before ++ d ∷ []))) × IsRefusalAt d.left.start (kind.TooMany l.points) r) Second _
          (λ r k. (k.0.0, k.0.1, k.0.2, k.1)) (λ r k. ((k.0, k.1, k.2), k.3))
          (least_test ((length before ≢ l.most) × (choices before ≤ l.points) × (l.points < choices (before ++ d ∷ []))) (nat_lt l.points (r.points * length d.values)) d.left.start (kind.TooMany l.points)
          (λ t. (
            λ same. let c = h.count in false≢true (sym q ∙ (Decides-eqb (length r.decls) l.most).1 (omega arith)),
            h.few,
            above (r.points * length d.values) (choices (before ++ d ∷ [])) more t,
          ))
          (λ k. below (r.points * length d.values) (choices (before ++ d ∷ [])) more k.2))
        where
          above : (a b : ℕ) → a ≡ b → nat_lt l.points a ≡ true → l.points < b
          above a b e t = grind (arith, nat_tests)

          below : (a b : ℕ) → a ≡ b → l.points < b → nat_lt l.points a ≡ true
          below a b e t = grind (arith, nat_tests)

  name_least : (before : List Declaration) (r : Read) (d : Declaration) → HasRead before r → IsFirstRefusal (NameRow source others before d) (name_refusal source r.names d)
  name_least before r d h =
      least_test (Among (λ e. text source e.name ≡ text source d.name) (others ++ before)) (list_any (bytes_eq (text source d.name)) r.names) d.name.start kind.RepeatedName
      (λ q. among_of name_in (bytes_eq (text source d.name)) (text source d.name) to back (others ++ before) (sym there ∙ q))
      (λ q. there ∙ any_of name_in (bytes_eq (text source d.name)) (text source d.name) to back (others ++ before) q)
    where
      to : (n : List ℕ) → bytes_eq (text source d.name) n ≡ true → n ≡ text source d.name
      to n q = sym ((bytes_eq-Decides (text source d.name) n).0 q)

      back : (n : List ℕ) → n ≡ text source d.name → bytes_eq (text source d.name) n ≡ true
      back n q = (bytes_eq-Decides (text source d.name) n).1 (sym q)

      there : list_any (bytes_eq (text source d.name)) r.names ≡ list_any (bytes_eq (text source d.name)) (map name_in (others ++ before))
      there = ap (list_any (bytes_eq (text source d.name))) h.names

  declaration_right : (before : List Declaration) (r : Read) (d : Declaration) (low high : ℕ) → HasRead before r → AreRising low (declaration_spans d) high → IsFirstRefusal (Row before d) (refusal_of (spec.declaration source l r d))
  unfolding spec.declaration
  declaration_right before r d low high h (a, b, (c, n, rise)) =
      let cut = rising_split d.values (d.right ∷ []) d.name.end high rise in
      let made : List (List ℕ) → Decl = λ vs. record { name = text source d.name; values = vs } in
      least_then (LimitRow l.most l.points before d) (λ r. NameRow source others before d r ⊎ PartRow (DeclarationWordRow source) [] d.values r) (unless_refused (limit_refusal l r d)) _
      (subst (IsFirstRefusal (LimitRow l.most l.points before d)) (sym (refused_unless (limit_refusal l r d))) (limit_least before r d h))
      (λ u q. least_then (NameRow source others before d) (PartRow (DeclarationWordRow source) [] d.values) (unless_refused (name_refusal source r.names d)) _
      (subst (IsFirstRefusal (NameRow source others before d)) (sym (refused_unless (name_refusal source r.names d))) (name_least before r d h))
      (λ u q. subst (IsFirstRefusal (PartRow (DeclarationWordRow source) [] d.values)) (sym (refused_ok (decl_of source d) (with_decl source r d) ∙ refused_ok (spec.values source d.values) made)) (values_least source d.values d.name.end cut.0 cut.1))
      (λ x y p q. let first = place_of d.name.start kind.RepeatedName x p.1 in let second = place_above d.values d.name.end cut.0 y.at cut.1 (values_place source d.values y q) in later y x (omega arith)))
      (λ x y p q. later y x (behind x y p q (place_above d.values d.name.end cut.0 y.at cut.1)))
    where
      left_place : (x : Refusal) → LimitRow l.most l.points before d x → x.at ≡ d.left.start
      left_place x (inl k) = place_of d.left.start (kind.TooMany l.most) x k.1
      left_place x (inr k) = place_of d.left.start (kind.TooMany l.points) x k.3

      behind : (x y : Refusal) → LimitRow l.most l.points before d x → NameRow source others before d y ⊎ PartRow (DeclarationWordRow source) [] d.values y → (HasPlace d.values y.at → d.name.end ≤ y.at) → x.at < y.at
      behind x y p (inl k) above = let first = left_place x p in let second = place_of d.name.start kind.RepeatedName y k.1 in omega arith
      behind x y p (inr k) above = let first = left_place x p in let second = above (values_place source d.values y k) in omega arith

  declaration_place : (before : List Declaration) (d : Declaration) (r : Refusal) → Row before d r → HasPlace (declaration_spans d) r.at
  declaration_place before d r (inl (inl k)) = inl (sym (place_of d.left.start (kind.TooMany l.most) r k.1))
  declaration_place before d r (inl (inr k)) = inl (sym (place_of d.left.start (kind.TooMany l.points) r k.3))
  declaration_place before d r (inr (inl k)) = inr (inl (sym (place_of d.name.start kind.RepeatedName r k.1)))
  declaration_place before d r (inr (inr k)) = inr (inr (has_left d.values (d.right ∷ []) r.at (values_place source d.values r k)))

  declaration_next : (before : List Declaration) (r t : Read) (d : Declaration) → HasRead before r → spec.declaration source l r d ≡ Ok t → HasRead (before ++ d ∷ []) t
  unfolding spec.declaration
  declaration_next before r t d h e =
      let a = stood _ _ _ e in
      let b = stood _ _ _ a.then in
      let c = stood (decl_of source d) (λ decl. Ok (with_decl source r d decl)) t b.then in
      let word = text source d.name in
      let new : list_any (bytes_eq word) r.names ≡ false = not_if _ d.name.start kind.RepeatedName (nothing_refused _ b.value b.was) in
      subst (HasRead (before ++ d ∷ [])) (let e : with_decl source r d c.value ≡ t = cc (c.then) in e) (record {
        names = with_new r.names word new ∙ ap (λ xs. xs ++ word ∷ []) h.names ∙ map-more name_in (others ++ before) d ∙ ap (map name_in) (append_assoc others before (d ∷ []));
        decls = ap (λ xs. xs ++ c.value ∷ []) h.decls ∙ ap (λ x. map (decl_in source) before ++ x ∷ []) (decl_told source d c.value c.was) ∙ map-more (decl_in source) before d;
        count = let n = h.count in omega (arith, length-append r.decls (c.value ∷ []), length-append before (d ∷ []));
        points = ap (λ n. n * length d.values) h.points ∙ sym (fold-append (λ n e. n * length e.values) 1 before (d ∷ []));
        few = few (subst (IsFirstRefusal (LimitRow l.most l.points before d)) (nothing_refused _ a.value a.was) (limit_least before r d h)) (nat_lt l.points (choices (before ++ d ∷ []))) refl;
      })
    where
      not_above : (a b : ℕ) → nat_lt a b ≡ false → b ≤ a
      not_above a b q = grind (arith, nat_tests)

      above : (a b : ℕ) → nat_lt a b ≡ true → a < b
      above a b q = grind (arith, nat_tests)

      few : ((q : Refusal) → ¬ LimitRow l.most l.points before d q) → (b : Bool) → nat_lt l.points (choices (before ++ d ∷ [])) ≡ b → choices (before ++ d ∷ []) ≤ l.points
      few none false q = not_above l.points (choices (before ++ d ∷ [])) q
      few none true q =
          absurd (none (record { at = d.left.start; kind = kind.TooMany l.points })
          (inr (λ same. none (record { at = d.left.start; kind = kind.TooMany l.most }) (inl (same, refl)), h.few, above l.points (choices (before ++ d ∷ [])) q, refl)))

  -- ---- the declarations of a sort

  abbrev Part : List Declaration → Refusal → Type 0
  Part ds r = PartRow Row [] ds r

  begun : (names : List (List ℕ)) → names ≡ map name_in others → 1 ≤ l.points → HasRead [] (no_decls names)
  begun names e some = record { names = e ∙ ap (map name_in) (sym (append-nil others)); decls = refl; count = refl; points = refl; few = some }

  sort_least : (names : List (List ℕ)) (ds : Declarations) (low high : ℕ) → names ≡ map name_in others → 1 ≤ l.points → AreRising low (declarations_spans ds) high → IsFirstRefusal (Part ds.declarations) (refusal_of (spec.declarations source l names ds.declarations))
  sort_least names ds low high e some (a, b, (c, n, rise)) =
      let cut = rising_split (all_spans declaration_spans ds.declarations) (ds.right ∷ []) ds.keyword.end high rise in
      turns_least (spec.declaration source l) Row declaration_spans HasRead declaration_right declaration_next declaration_place [] (no_decls names) ds.declarations ds.keyword.end cut.0 (begun names e some) cut.1

  sort_place : (ds : Declarations) (r : Refusal) → Part ds.declarations r → HasPlace (declarations_spans ds) r.at
  sort_place ds r h =
      inr (inr (has_left (all_spans declaration_spans ds.declarations) (ds.right ∷ []) r.at (part_place Row declaration_spans declaration_place [] ds.declarations r h)))

  sort_read : (names : List (List ℕ)) (ds : List Declaration) (t : Read) → names ≡ map name_in others → 1 ≤ l.points → spec.declarations source l names ds ≡ Ok t → HasRead ds t
  sort_read names ds t e some q = turns_fit (spec.declaration source l) Row declaration_spans HasRead declaration_right declaration_next declaration_place [] (no_decls names) t ds (begun names e some) q

-- ---- the declarations of a text

pub declared_least : DeclarationRowsAreRefusals
unfolding declarations_of
declared_least source t low high rise =
    let cut = rising_split (declarations_spans t.variables) (declarations_spans t.observations) low high rise in
    let vs = t.variables.declarations in
    let os = t.observations.declarations in
    let R : Refusal → Type 0 = PartRow (DeclarationRow source 24 16777216 []) [] vs in
    let S : Refusal → Type 0 = PartRow (DeclarationRow source 8 4096 vs) [] os in
    least_then R S (spec.declarations source variable_limits [] vs) _ (sort_least source variable_limits [] [] t.variables low cut.0 refl (omega arith) cut.1)
    (λ v e. subst (IsFirstRefusal S) (sym (refused_ok (spec.declarations source sight_limits v.names os) (λ s. record { variables = v.decls; sights = s.decls })))
    (sort_least source sight_limits vs v.names t.observations cut.0 high (sort_read source variable_limits [] [] vs v refl (omega arith) e).names (omega arith) cut.2))
    (λ r q a b.
    let first = place_below (declarations_spans t.variables) low cut.0 r.at cut.1 (sort_place source variable_limits [] t.variables r a) in
    let second = place_above (declarations_spans t.observations) cut.0 high q.at cut.2 (sort_place source sight_limits vs t.observations q b) in
    later q r (omega arith))

-- a row of the declarations stands at a place of theirs
pub declared_place : (source : List ℕ) (t : Text) (r : Refusal) → DeclaredRow source t r → HasPlace (declarations_spans t.variables ++ declarations_spans t.observations) r.at
declared_place source t r (inl h) = has_left (declarations_spans t.variables) (declarations_spans t.observations) r.at (sort_place source variable_limits [] t.variables r h)
declared_place source t r (inr h) = has_right (declarations_spans t.variables) (declarations_spans t.observations) r.at (sort_place source sight_limits t.variables.declarations t.observations r h)

pub declared_told : DeclarationsAreTold
unfolding declarations_of
declared_told source t d e =
    let vs = t.variables.declarations in
    let os = t.observations.declarations in
    let a = stood (spec.declarations source variable_limits [] vs) (λ v. spec.declarations source sight_limits v.names os >>= λ s. Ok (record { variables = v.decls; sights = s.decls })) d e in
    let b = stood (spec.declarations source sight_limits a.value.names os) (λ s. Ok (record { variables = a.value.decls; sights = s.decls })) d a.then in
    let v = sort_read source variable_limits [] [] vs a.value refl (omega arith) a.was in
    let s = sort_read source sight_limits vs a.value.names os b.value v.names (omega arith) b.was in
    sym (let q : record { variables = a.value.decls; sights = b.value.decls } ≡ d = cc (b.then) in q) ∙ (λ i. record { variables = v.decls i; sights = s.decls i })
