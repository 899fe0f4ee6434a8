-- What a line is told to be.
use Rattle.std.proofs.Common.{◌≡◌, ℕ, List, [], ◌∷◌, ◌++◌, Bool, refl, sym, ◌∙◌, append_assoc, arith, codes}
use Rattle.std.specs.List.{AllByRecursion}
use Rattle.std.specs.Fmt.{decimal}
use Rattle.std.proofs.lemmas.List.{append-nil}
use Rattle.sp_value.specs.declared.tasks.Explore.{Explore}
use Rattle.sp_value.specs.declared.tasks.Options.{Options}
use Rattle.sp_lines.specs.Lines.{numbers_behind_spaces, IsSmall, BeginsPair}
use Rattle.sp_lines.proofs.Spaces.{pair_told, number_after, spaced_ends}
use Rattle.sp_filed.specs.Sizes.{BeginsThree}
use Rattle.sp_planfile.specs.PlanText.{options_line, explore_word, prune_word}
use Rattle.sp_planfile.specs.Form.{AreInRange}
use Rattle.sp_planfile.proofs.Unique.{spaced_tells}
use Rattle.sp_planfile.proofs.Sections.{behind_same}
use Rattle.sp_planfile.proofs.OptionTexts.{explore_told, prune_told, explore_ends, same_options}

pub one_same : (m n : ℕ) (text : List ℕ) → IsSmall m → IsSmall n → text ≡ numbers_behind_spaces (m ∷ []) → text ≡ numbers_behind_spaces (n ∷ []) → m ≡ n
one_same m n text a b e f = let same = spaced_tells (m ∷ []) (n ∷ []) (a, tt) (b, tt) (sym e ∙ f) in cc same

pub two_same : (m x n y : ℕ) (text : List ℕ) → IsSmall m → IsSmall x → IsSmall n → IsSmall y → text ≡ numbers_behind_spaces (m ∷ x ∷ []) → text ≡ numbers_behind_spaces (n ∷ y ∷ []) → (m ≡ n) × (x ≡ y)
two_same m x n y text a b c d e f = let same = spaced_tells (m ∷ x ∷ []) (n ∷ y ∷ []) (a, (b, tt)) (c, (d, tt)) (sym e ∙ f) in (cc same, cc same)

pub third_same : (k m x l n y : ℕ) (text : List ℕ) → IsSmall k → IsSmall m → IsSmall x → IsSmall l → IsSmall n → IsSmall y → text ≡ numbers_behind_spaces (k ∷ m ∷ x ∷ []) → text ≡ numbers_behind_spaces (l ∷ n ∷ y ∷ []) → x ≡ y
third_same k m x l n y text a b c d g h e f = let same = spaced_tells (k ∷ m ∷ x ∷ []) (l ∷ n ∷ y ∷ []) (a, (b, (c, tt))) (d, (g, (h, tt))) (sym e ∙ f) in cc same

-- ---- options
regrouped : (a b c d w : List ℕ) → (32 ∷ (a ++ (32 ∷ (b ++ (32 ∷ (c ++ (32 ∷ (d ++ [])))))))) ++ w ≡ 32 ∷ (a ++ (32 ∷ (b ++ (32 ∷ (c ++ (32 ∷ (d ++ w)))))))
regrouped a b c d w = simp append_assoc

-- the words of the options behind their numbers, and from the third number on
unfoldable pub choices : Options → List ℕ
choices o = explore_word o.explore ++ prune_word o.prune

unfoldable pub behind_depth : Options → List ℕ
behind_depth o = 32 ∷ (decimal o.stages ++ (32 ∷ (decimal o.seed ++ choices o)))

module _ (line text : List ℕ) (o : Options) (good : AreInRange o) (begins : line ≡ codes "options" ++ text) (is : line ≡ options_line o) where
  text_is : text ≡ 32 ∷ (decimal o.beliefs ++ (32 ∷ (decimal o.depth ++ behind_depth o)))
  unfolding behind_depth choices
  text_is =
      behind_same (codes "options") text (numbers_behind_spaces (o.beliefs ∷ o.depth ∷ o.stages ∷ o.seed ∷ []) ++ (explore_word o.explore ++ prune_word o.prune)) (sym begins ∙ is)
      ∙ regrouped (decimal o.beliefs) (decimal o.depth) (decimal o.stages) (decimal o.seed) (explore_word o.explore ++ prune_word o.prune)

  pub first_pair : BeginsPair text o.beliefs o.depth (behind_depth o)
  unfolding behind_depth
  first_pair = record { is = text_is; small = (omega (arith, good.few_beliefs), omega (arith, good.few_depth)); ends = λ r. omega (arith, r) }

  pub second_pair : (middle : List ℕ) → middle ≡ behind_depth o → BeginsPair middle o.stages o.seed (choices o)
  unfolding behind_depth choices
  second_pair middle e = record { is = e; small = (omega (arith, good.few_stages), good.seed); ends = explore_ends o.explore (prune_word o.prune) }

choices_told : (x y : Explore) (p q : Bool) → explore_word x ++ prune_word p ≡ explore_word y ++ prune_word q → (x ≡ y) × (p ≡ q)
choices_told x y p q e =
    let one = explore_told x y (prune_word p) (prune_word q) e in
    (one.0, (prune_told p q [] [] (append-nil (prune_word p) ∙ one.1 ∙ sym (append-nil (prune_word q)))).0)

-- options are told: both are those of one line
pub options_same : (line t1 t2 t3 : List ℕ) (o r : Options) → AreInRange o → line ≡ codes "options" ++ t1 → BeginsPair t1 r.beliefs r.depth t2 → BeginsPair t2 r.stages r.seed t3 → t3 ≡ explore_word r.explore ++ prune_word r.prune → line ≡ options_line o → r ≡ o
unfolding choices
options_same line t1 t2 t3 o r good begins p q words is =
    let one = pair_told t1 r.beliefs r.depth t2 o.beliefs o.depth (behind_depth o) p (first_pair line t1 o good begins is) in
    let two = pair_told t2 r.stages r.seed t3 o.stages o.seed (choices o) q (second_pair line t1 o good begins is t2 one.2) in
    let three = choices_told r.explore o.explore r.prune o.prune (sym words ∙ two.2) in
    same_options r o one.0 one.1 two.0 two.1 three.0 three.1

-- a settle is told: its numbers are those of one text
pub settle_same : (text rest : List ℕ) (k e a k' e' a' : ℕ) (links : List ℕ) → BeginsThree text k' e' a' rest → AllByRecursion IsSmall (k ∷ e ∷ a ∷ links) → text ≡ numbers_behind_spaces (k ∷ e ∷ a ∷ links) → (k' ≡ k) × (e' ≡ e) × (a' ≡ a) × (rest ≡ numbers_behind_spaces links)
settle_same text rest k e a k' e' a' links begins small is =
    let pair = pair_told text k' e' begins.middle k e (numbers_behind_spaces (a ∷ links)) begins.pair (record { is = is; small = (small.0, small.1.0); ends = λ r. omega (arith, r) }) in
    let third = number_after begins.middle a' rest a (numbers_behind_spaces links) begins.third (record { is = pair.2; small = small.1.1.0; ends = spaced_ends links }) in
    (pair.0, pair.1, third.0, third.1)

pub settle_begins : (text : List ℕ) (k e a : ℕ) (links : List ℕ) → AllByRecursion IsSmall (k ∷ e ∷ a ∷ links) → text ≡ numbers_behind_spaces (k ∷ e ∷ a ∷ links) → BeginsThree text k e a (numbers_behind_spaces links)
settle_begins text k e a links small is = record {
  middle = numbers_behind_spaces (a ∷ links);
  pair = record { is = is; small = (small.0, small.1.0); ends = λ r. omega (arith, r) };
  third = record { is = refl; small = small.1.1.0; ends = spaced_ends links };
}
