-- What a loop has written, and what it has to write yet.
use Rattle.std.proofs.Common.{◌≡◌, ℕ, zero, suc, ◌+◌, ◌-◌, ◌<◌, ◌≤◌, cond, List, [], ◌∷◌, ◌++◌, length, drop, get_or, refl, sym, ap, ◌∙◌, append-nil, add-one, drop-cons, drop_of_length-le, length-drop, arith}
use Rattle.std.specs.Prelude.{nat_lt}
use Rattle.std.proofs.lemmas.Bool.Decides.{nat_tests}
use Rattle.sp_spelled.specs.Signs.{word, Gap, tight, space, Spelled, text_of_signs}
use Rattle.std.proofs.lemmas.List.{length-map}
use Rattle.std.specs.Prelude.{map}
use Rattle.sp_spelled.specs.Shapes.{sign, group, closed_words, declaration_signs}
use Rattle.sp_canonical.specs.Tables.{free_variables}
use Rattle.sp_canonical.specs.ModelSigns.{gap_before, branch_signs, node_line, node_lines, declarations_signs, zero_node, zeros_signs, factors_signs, summed_signs, function_lines, functions_lines, line_count, lines_total, actions_signs, action_signs, next_base}
use Rattle.sp_model.specs.declared.parts.ActionPart.{ActionPart}
use Rattle.sp_model.specs.Problem.{no_decl}
use Rattle.sp_model.specs.declared.parts.Decl.{Decl}
use Rattle.sp_model.specs.declared.parts.Factor.{Factor}
use Rattle.sp_dd.specs.Func.{Func}
use Rattle.sp_model.specs.declared.parts.Parts.{Parts}
use Rattle.sp_dd.specs.NodeLists.{Node}
use Rattle.sp_dd.specs.Ordered.{node_at, no_node}
use Rattle.sp_canonical.proofs.Pieces.{two}

pub record IsOnTheWay (start text : List ℕ) (all rest : List Spelled) : Type 0 where
  pub so_far : text ++ text_of_signs rest ≡ start ++ text_of_signs all

pub begun : (text : List ℕ) (all : List Spelled) → IsOnTheWay text text all all
begun text all = record { so_far = refl }

pub went_on : (start text new : List ℕ) (all rest us later : List Spelled) → IsOnTheWay start text all rest → new ≡ text ++ text_of_signs us → rest ≡ us ++ later → IsOnTheWay start new all later
went_on start text new all rest us later h e r = record {
  so_far = ap (λ t. t ++ text_of_signs later) e ∙ two text us later ∙ ap (λ ss. text ++ text_of_signs ss) (sym r) ∙ h.so_far;
}

pub ended : (start text : List ℕ) (all rest : List Spelled) → IsOnTheWay start text all rest → rest ≡ [] → text ≡ start ++ text_of_signs all
ended start text all rest h r = sym (append-nil text) ∙ ap (λ ss. text ++ text_of_signs ss) (sym r) ∙ h.so_far

-- the item at a place, and those behind it
pub split_at : {X : Type 0} (xs : List X) (i : ℕ) (x : X) → i < length xs → x ≡ get_or xs i x → drop i xs ≡ x ∷ drop (i + 1) xs
split_at xs i x l e = rw add-one (drop-cons xs i x l ∙ ap (λ y. y ∷ drop (suc i) xs) (sym e))

pub get_or_any : {X : Type 0} (xs : List X) (k : ℕ) (a b : X) → k < length xs → get_or xs k a ≡ get_or xs k b
get_or_any [] k a b h = absurd (omega arith)
get_or_any (x ∷ xs) zero a b h = refl
get_or_any (x ∷ xs) (suc k) a b h = get_or_any xs k a b (omega arith)

-- a space where another item follows
pub gap_is : {X : Type 0} (xs : List X) (i : ℕ) → cond (nat_lt (i + 1) (length xs)) space tight ≡ gap_before (drop (i + 1) xs)
gap_is {X = X} xs i = go (drop (i + 1) xs) (length-drop (i + 1) xs)
  where
    go : (ys : List X) → length ys ≡ length xs - (i + 1) → cond (nat_lt (i + 1) (length xs)) space tight ≡ gap_before ys
    go [] e = grind (arith, nat_tests)
    go (y ∷ ys) e = grind (arith, nat_tests)

-- ---- branches
pub gap_of_length : {X Y : Type 0} (xs : List X) (ys : List Y) → length xs ≡ length ys → gap_before xs ≡ gap_before ys
gap_of_length [] [] e = refl
gap_of_length [] (y ∷ ys) e = absurd (omega arith)
gap_of_length (x ∷ xs) [] e = absurd (omega arith)
gap_of_length (x ∷ xs) (y ∷ ys) e = refl

pub next_branch : {X : Type 0} (f : X → List Spelled) (names : List (List ℕ)) (ps : List X) (i : ℕ) (x : List ℕ) (p : X) (g : Gap) → i < length names → length ps ≡ length names → x ≡ get_or names i x → p ≡ get_or ps i p → g ≡ cond (nat_lt (i + 1) (length names)) space tight
    → branch_signs (drop i names) (map f (drop i ps)) ≡ group x (f p) g ++ branch_signs (drop (i + 1) names) (map f (drop (i + 1) ps))
next_branch f names ps i x p g l e is at gap =
    let lower : i < length ps = omega arith in
    let left : length (map f (drop (i + 1) ps)) ≡ length (drop (i + 1) names) = omega (arith, length-map (drop (i + 1) ps) f, length-drop (i + 1) ps, length-drop (i + 1) names) in
    ap (λ ns. branch_signs ns (map f (drop i ps))) (split_at names i x l is)
    ∙ ap (λ qs. branch_signs (x ∷ drop (i + 1) names) (map f qs)) (split_at ps i p lower at)
    ∙ ap (λ b. group x (f p) b ++ branch_signs (drop (i + 1) names) (map f (drop (i + 1) ps))) (gap_of_length (map f (drop (i + 1) ps)) (drop (i + 1) names) left ∙ sym (gap_is names i) ∙ sym gap)

pub no_branches : {X : Type 0} (f : X → List Spelled) (names : List (List ℕ)) (ps : List X) (i : ℕ) → length names ≤ i → branch_signs (drop i names) (map f (drop i ps)) ≡ []
no_branches f names ps i l = ap (λ ns. branch_signs ns (map f (drop i ps))) (drop_of_length-le names l)

-- ---- lines
pub next_line : (p : Parts) (base : ℕ) (ns : List Node) (i : ℕ) (n : Node) → i < length ns → n ≡ node_at ns i → node_lines p base i (drop i ns) ≡ node_line p base i n ++ node_lines p base (i + 1) (drop (i + 1) ns)
next_line p base ns i n l e = ap (λ ms. node_lines p base i ms) (split_at ns i n l (e ∙ get_or_any ns i no_node n l)) ∙ ap (λ k. node_line p base i n ++ node_lines p base k (drop (i + 1) ns)) (sym (add-one i))

pub no_lines : (p : Parts) (base : ℕ) (ns : List Node) (i : ℕ) → length ns ≤ i → node_lines p base i (drop i ns) ≡ []
no_lines p base ns i l = ap (λ ms. node_lines p base i ms) (drop_of_length-le ns l)

-- ---- declarations
pub next_word : (ws : List (List ℕ)) (i : ℕ) (w : List ℕ) (g end : Gap) → i < length ws → w ≡ get_or ws i w → g ≡ cond (nat_lt (i + 1) (length ws)) space tight
    → closed_words (drop i ws) end ≡ (sign (word w) g ∷ []) ++ closed_words (drop (i + 1) ws) end
next_word ws i w g end l is gap = ap (λ vs. closed_words vs end) (split_at ws i w l is) ∙ go (drop (i + 1) ws) ∙ ap (λ b. sign (word w) b ∷ closed_words (drop (i + 1) ws) end) (sym (gap_is ws i) ∙ sym gap)
  where
    go : (vs : List (List ℕ)) → closed_words (w ∷ vs) end ≡ sign (word w) (gap_before vs) ∷ closed_words vs end
    go [] = refl
    go (v ∷ vs) = refl

pub next_declaration : (ds : List Decl) (i : ℕ) (d : Decl) (g : Gap) → i < length ds → d ≡ get_or ds i d → g ≡ cond (nat_lt (i + 1) (length ds)) space tight
    → declarations_signs (drop i ds) ≡ declaration_signs d.name d.values g ++ declarations_signs (drop (i + 1) ds)
next_declaration ds i d g l is gap = ap (λ es. declarations_signs es) (split_at ds i d l is) ∙ ap (λ b. declaration_signs d.name d.values b ++ declarations_signs (drop (i + 1) ds)) (sym (gap_is ds i) ∙ sym gap)

-- ---- the initial belief
pub next_zero : (p : Parts) (own : List ℕ) (i v : ℕ) (d : Decl) (g : Gap) → i < length own → v ≡ get_or own i v → d ≡ get_or p.variables v no_decl → g ≡ cond (nat_lt (i + 1) (length own)) space tight
    → zeros_signs p (drop i own) ≡ zero_node g d ++ zeros_signs p (drop (i + 1) own)
next_zero p own i v d g l is at gap =
    ap (λ vs. zeros_signs p vs) (split_at own i v l is)
    ∙ ap (λ c. zero_node (gap_before (drop (i + 1) own)) c ++ zeros_signs p (drop (i + 1) own)) (sym at)
    ∙ ap (λ b. zero_node b d ++ zeros_signs p (drop (i + 1) own)) (sym (gap_is own i) ∙ sym gap)

pub next_factor : (p : Parts) (base : ℕ) (fs : List Factor) (i : ℕ) (f : Factor) (g : Gap) → i < length fs → f ≡ get_or fs i f → g ≡ cond (nat_lt (i + 1) (length fs)) space tight
    → factors_signs p base (drop i fs) ≡ summed_signs p base g f.func (free_variables f) ++ factors_signs p (base + line_count f.func) (drop (i + 1) fs)
next_factor p base fs i f g l is gap = ap (λ es. factors_signs p base es) (split_at fs i f l is) ∙ ap (λ b. summed_signs p base b f.func (free_variables f) ++ factors_signs p (base + line_count f.func) (drop (i + 1) fs)) (sym (gap_is fs i) ∙ sym gap)

-- ---- functions in turn
module _ {X : Type 0} (func_of : X → Func) (xs : List X) (i : ℕ) (x : X) (l : i < length xs) (is : x ≡ get_or xs i x) where
  pub next_function : (p : Parts) (base : ℕ) → functions_lines p base (map func_of (drop i xs)) ≡ function_lines p base (func_of x) ++ functions_lines p (base + line_count (func_of x)) (map func_of (drop (i + 1) xs))
  next_function p base = ap (λ ys. functions_lines p base (map func_of ys)) (split_at xs i x l is)

  pub next_count : (base : ℕ) → base + lines_total (map func_of (drop i xs)) ≡ (base + line_count (func_of x)) + lines_total (map func_of (drop (i + 1) xs))
  next_count base = ap (λ ys. base + lines_total (map func_of ys)) (split_at xs i x l is) ∙ omega arith

-- what was counted, and what is left
pub none_left : {X : Type 0} (func_of : X → Func) (xs : List X) (i : ℕ) → length xs ≤ i → map func_of (drop i xs) ≡ []
none_left func_of xs i l = ap (λ ys. map func_of ys) (drop_of_length-le xs l)

pub next_action : (p : Parts) (base : ℕ) (acts : List ActionPart) (i : ℕ) (a : ActionPart) → i < length acts → a ≡ get_or acts i a
    → actions_signs p base (drop i acts) ≡ action_signs p base a ++ actions_signs p (next_base p base a) (drop (i + 1) acts)
next_action p base acts i a l is = ap (λ bs. actions_signs p base bs) (split_at acts i a l is)
