-- Parts of a list, with those before them.
use Rattle.std.proofs.Common.{◌≡◌, ℕ, List, [], ◌∷◌, ◌++◌, map, refl, sym, ap, ◌∙◌, subst, inl, inr, append_assoc, append-nil}
use Rattle.std.specs.Prelude.{◌⊎◌, fold}
use Rattle.sp_lex.specs.declared.lexeme.Span.{Span}
use Rattle.sp_syntax.specs.Spans.{all_spans}
use Rattle.sp_syntax.specs.declared.text.Branch.{Branch}
use Rattle.sp_trees.specs.declared.refusal.Refusal.{Refusal}
use Rattle.sp_trees.specs.Rows.{Among, BranchRow, BranchRows}
use Rattle.sp_declarations.specs.Rows.{PartRow}
use Rattle.sp_checks.specs.Standing.{StandsBehind}

-- ---- rows of parts

stood_row : {X : Type 0} (Row : List X → X → Refusal → Type 0) (front xs : List X) (r : Refusal) → PartRow Row front xs r → (before : List X) × (x : X) × StandsBehind before x xs × Row (front ++ before) x r
stood_row Row front [] r h = absurd h
stood_row Row front (x ∷ xs) r (inl h) = ([], x, record { after = xs; is = refl }, subst (λ b. Row b x r) (sym (append-nil front)) h)
stood_row Row front (x ∷ xs) r (inr h) =
    let m = stood_row Row (front ++ x ∷ []) xs r h in
    (x ∷ m.0, m.1, record { after = m.2.after; is = ap (λ ys. x ∷ ys) m.2.is }, subst (λ b. Row b m.1 r) (append_assoc front (x ∷ []) m.0) m.3)

stands_row : {X : Type 0} (Row : List X → X → Refusal → Type 0) (front before : List X) (x : X) (after : List X) (r : Refusal) → Row (front ++ before) x r → PartRow Row front (before ++ x ∷ after) r
stands_row Row front [] x after r h = inl (subst (λ b. Row b x r) (append-nil front) h)
stands_row Row front (y ∷ before) x after r h = inr (stands_row Row (front ++ y ∷ []) before x after r (subst (λ b. Row b x r) (sym (append_assoc front (y ∷ []) before)) h))

-- a row of some part is one of a part that stands behind some
pub row_stood : {X : Type 0} (Row : List X → X → Refusal → Type 0) (xs : List X) (r : Refusal) → PartRow Row [] xs r → (before : List X) × (x : X) × StandsBehind before x xs × Row before x r
row_stood Row xs r h = stood_row Row [] xs r h

pub row_stands : {X : Type 0} (Row : List X → X → Refusal → Type 0) (before : List X) (x : X) (xs : List X) (r : Refusal) → StandsBehind before x xs → Row before x r → PartRow Row [] xs r
row_stands Row before x xs r s h = subst (λ ys. PartRow Row [] ys r) (sym s.is) (stands_row Row [] before x s.after r h)

-- branches are parts
pub branches_parts : (source : List ℕ) (values : List (List ℕ)) (before bs : List Branch) (r : Refusal) → BranchRows source values before bs r → PartRow (BranchRow source values) before bs r
branches_parts source values before [] r h = absurd h
branches_parts source values before (b ∷ bs) r (inl h) = inl h
branches_parts source values before (b ∷ bs) r (inr h) = inr (branches_parts source values (before ++ b ∷ []) bs r h)

pub parts_branches : (source : List ℕ) (values : List (List ℕ)) (before bs : List Branch) (r : Refusal) → PartRow (BranchRow source values) before bs r → BranchRows source values before bs r
parts_branches source values before [] r h = absurd h
parts_branches source values before (b ∷ bs) r (inl h) = inl h
parts_branches source values before (b ∷ bs) r (inr h) = inr (parts_branches source values (before ++ b ∷ []) bs r h)

-- ---- one of these

among_at : {X : Type 0} (P : X → Type 0) (before : List X) (x : X) (after : List X) → P x → Among P (before ++ x ∷ after)
among_at P [] x after p = inl p
among_at P (y ∷ before) x after p = inr (among_at P before x after p)

pub among_stands : {X : Type 0} (P : X → Type 0) (before : List X) (x : X) (xs : List X) → StandsBehind before x xs → P x → Among P xs
among_stands P before x xs s p = subst (Among P) (sym s.is) (among_at P before x s.after p)

pub stands_among : {X : Type 0} (P : X → Type 0) (xs : List X) → Among P xs → (before : List X) × (x : X) × StandsBehind before x xs × P x
stands_among P [] h = absurd h
stands_among P (x ∷ xs) (inl p) = ([], x, record { after = xs; is = refl }, p)
stands_among P (x ∷ xs) (inr h) = let m = stands_among P xs h in (x ∷ m.0, m.1, record { after = m.2.after; is = ap (λ ys. x ∷ ys) m.2.is }, m.3)

-- ---- lists of lists

pub stands_left : {X : Type 0} (before : List X) (x : X) (xs ys : List X) → StandsBehind before x xs → StandsBehind before x (xs ++ ys)
stands_left before x xs ys s = record { after = s.after ++ ys; is = ap (λ zs. zs ++ ys) s.is ∙ append_assoc before (x ∷ s.after) ys }

pub stands_right : {X : Type 0} (before : List X) (x : X) (xs ys : List X) → StandsBehind before x ys → StandsBehind (xs ++ before) x (xs ++ ys)
stands_right before x xs ys s = record { after = s.after; is = ap (λ zs. xs ++ zs) s.is ∙ sym (append_assoc xs before (x ∷ s.after)) }

pub stands_nowhere : {X : Type 0} (before : List X) (x : X) → StandsBehind before x [] → ⊥
stands_nowhere [] x s = let e : [] ≡ x ∷ s.after = s.is in absurd (cc)
stands_nowhere (y ∷ before) x s = let e : [] ≡ y ∷ (before ++ x ∷ s.after) = s.is in absurd (cc)

pub stands_split : {X : Type 0} (xs ys before : List X) (x : X) → StandsBehind before x (xs ++ ys) → StandsBehind before x xs ⊎ ((more : List X) × (before ≡ xs ++ more) × StandsBehind more x ys)
stands_split [] ys before x s = inr (before, refl, s)
stands_split (z ∷ zs) ys [] x s = let e : z ∷ (zs ++ ys) ≡ x ∷ s.after = s.is in let q : z ≡ x = cc in inl (record { after = zs; is = ap (λ w. w ∷ zs) q })
stands_split (z ∷ zs) ys (b ∷ before) x s =
    let e : z ∷ (zs ++ ys) ≡ b ∷ (before ++ x ∷ s.after) = s.is in
    let head : z ≡ b = cc in
    let tail : zs ++ ys ≡ before ++ x ∷ s.after = cc in
    elim (stands_split zs ys before x (record { after = s.after; is = tail })) [
      | inl a ↦ inl (record { after = a.after; is = ap (λ w. w ∷ zs) head ∙ ap (λ ws. b ∷ ws) a.is })
      | inr c ↦ inr (c.0, ap (λ ws. b ∷ ws) c.1 ∙ ap (λ w. w ∷ (zs ++ c.0)) (sym head), c.2)
    ]

-- one word more of each part
module _ {X : Type 0} (f : X → List Span) where
  pub fold_all : (acc : List Span) (xs : List X) → fold (λ ws x. ws ++ f x) acc xs ≡ acc ++ all_spans f xs
  fold_all acc [] = sym (append-nil acc)
  fold_all acc (x ∷ xs) = fold_all (acc ++ f x) xs ∙ append_assoc acc (f x) (all_spans f xs)

  pub all_append : (xs ys : List X) → all_spans f (xs ++ ys) ≡ all_spans f xs ++ all_spans f ys
  all_append [] ys = refl
  all_append (x ∷ xs) ys = ap (λ ws. f x ++ ws) (all_append xs ys) ∙ sym (append_assoc (f x) (all_spans f xs) (all_spans f ys))

  pub word_stands : (before : List X) (x : X) (xs : List X) (words : List Span) (w : Span) → StandsBehind before x xs → StandsBehind words w (f x) → StandsBehind (all_spans f before ++ words) w (all_spans f xs)
  word_stands before x xs words w s k =
      subst (λ ws. StandsBehind (all_spans f before ++ words) w ws) (sym (ap (all_spans f) s.is ∙ all_append before (x ∷ s.after)))
      (stands_right words w (all_spans f before) (f x ++ all_spans f s.after) (stands_left words w (f x) (all_spans f s.after) k))

  pub word_stood : (xs : List X) (words : List Span) (w : Span) → StandsBehind words w (all_spans f xs)
      → (before : List X) × (x : X) × (more : List Span) × StandsBehind before x xs × StandsBehind more w (f x) × (words ≡ all_spans f before ++ more)
  word_stood [] words w s = absurd (stands_nowhere words w s)
  word_stood (x ∷ xs) words w s =
      elim (stands_split (f x) (all_spans f xs) words w s) [
        | inl a ↦ ([], x, words, record { after = xs; is = refl }, a, refl)
        | inr c ↦ (
            let m = word_stood xs c.0 w c.2 in
            (x ∷ m.0, m.1, m.2, record { after = m.3.after; is = ap (λ ys. x ∷ ys) m.3.is }, m.4, c.1 ∙ ap (λ ws. f x ++ ws) m.5 ∙ sym (append_assoc (f x) (all_spans f m.0) m.2))
            )
      ]

-- ---- lists of words

map_append : {X Y : Type 0} (f : X → Y) (xs ys : List X) → map f (xs ++ ys) ≡ map f xs ++ map f ys
map_append f [] ys = refl
map_append f (x ∷ xs) ys = ap (λ zs. f x ∷ zs) (map_append f xs ys)

pub map_stands : {X Y : Type 0} (f : X → Y) (before : List X) (x : X) (xs : List X) → StandsBehind before x xs → StandsBehind (map f before) (f x) (map f xs)
map_stands f before x xs s = record { after = map f s.after; is = ap (map f) s.is ∙ map_append f before (x ∷ s.after) }

pub map_stood : {X Y : Type 0} (f : X → Y) (xs : List X) (words : List Y) (w : Y) → StandsBehind words w (map f xs) → (before : List X) × (x : X) × StandsBehind before x xs × (words ≡ map f before) × (w ≡ f x)
map_stood f [] words w s = absurd (stands_nowhere words w s)
map_stood f (x ∷ xs) [] w s = let e : f x ∷ map f xs ≡ w ∷ s.after = s.is in let q : f x ≡ w = cc in ([], x, record { after = xs; is = refl }, refl, sym q)
map_stood f (x ∷ xs) (v ∷ words) w s =
    let e : f x ∷ map f xs ≡ v ∷ (words ++ w ∷ s.after) = s.is in
    let head : f x ≡ v = cc in
    let tail : map f xs ≡ words ++ w ∷ s.after = cc in
    let m = map_stood f xs words w (record { after = s.after; is = tail }) in
    (x ∷ m.0, m.1, record { after = m.2.after; is = ap (λ ys. x ∷ ys) m.2.is }, ap (λ ws. v ∷ ws) m.3 ∙ ap (λ u. u ∷ map f m.0) (sym head), m.4)

pub stands_alone : {X : Type 0} (before : List X) (x v : X) → StandsBehind before x (v ∷ []) → (before ≡ []) × (x ≡ v)
stands_alone [] x v s = let e : v ∷ [] ≡ x ∷ s.after = s.is in let q : v ≡ x = cc in (refl, sym q)
stands_alone (b ∷ before) x v s = let e : v ∷ [] ≡ b ∷ (before ++ x ∷ s.after) = s.is in let tail : [] ≡ before ++ x ∷ s.after = cc in absurd (stands_nowhere before x (record { after = s.after; is = tail }))

pub among_map : {X Y : Type 0} (P : Y → Type 0) (f : X → Y) (xs : List X) → Among P (map f xs) → Among (λ x. P (f x)) xs
among_map P f [] h = absurd h
among_map P f (x ∷ xs) (inl p) = inl p
among_map P f (x ∷ xs) (inr h) = inr (among_map P f xs h)

pub map_among : {X Y : Type 0} (P : Y → Type 0) (f : X → Y) (xs : List X) → Among (λ x. P (f x)) xs → Among P (map f xs)
map_among P f [] h = absurd h
map_among P f (x ∷ xs) (inl p) = inl p
map_among P f (x ∷ xs) (inr h) = inr (map_among P f xs h)
