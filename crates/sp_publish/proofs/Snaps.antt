-- Each step keeps the rule of the snapshot.
use Rattle.std.proofs.Common.{◌≡◌, ◌≢◌, ℕ, List, [], ◌∷◌, ◌++◌, Option, Some, None, Result, Ok, Err, OnOk, MatchResult, fold, set, refl, ◌∙◌, subst, ⊎_elim}
use Rattle.std.proofs.lemmas.List.Sums.{fold-append}
use mathlib.Core.Option.{some}
use lib.ListN.{get_elem?}
use Rattle.crossbeam_utils.specs.Register.{Admits, TurnsAt, Forks, Merges}
use Rattle.atomic_table.proofs.Lists.{at_set, at_snoc}
use Rattle.sp_publish.specs.Published.{PublishedList, ListGoesOn}
use Rattle.sp_publish.specs.Snapshot.{Keeps, IsSeenBeginning, Seeing}
use Rattle.sp_publish.proofs.PublishedLemmas.{goes_on_self, goes_on_trans}

-- a view of the list fits each longer one
fits_on : (x y : PublishedList) (v : Option PublishedList) → ListGoesOn x y → IsSeenBeginning x v → IsSeenBeginning y v
fits_on x y None on fit = tt
fits_on x y (Some s) on fit = goes_on_trans s x y fit on

pub admits : Admits Keeps None
admits x views h seat v at = ⊎_elim (h seat v) (λ (e : None ≡ v). subst (λ (o : Option PublishedList). IsSeenBeginning x o) e tt) (at_snoc views None v seat at)

pub turns : (seat : ℕ) (v : Option PublishedList) (x y : PublishedList) → ListGoesOn x y → TurnsAt Keeps seat v x y Seeing
turns seat v x y on views h at = (
  Some y,
  (λ j u e. ⊎_elim (λ (t : (j ≡ seat) × (Some y ≡ u)). subst (λ (o : Option PublishedList). IsSeenBeginning y o) t.1 (goes_on_self y))
      (λ (t : (j ≢ seat) × (get_elem? views j ≡ some u)). fits_on x y u on (h j u t.1))
      (at_set views seat j (Some y) u e)),
  (refl, fits_on x y v on (h seat v at)),
)

set_fits : (x : PublishedList) (views : List (Option PublishedList)) (seat : ℕ) (v : Option PublishedList) → Keeps x views → IsSeenBeginning x v → Keeps x (set views seat v)
set_fits x views seat v h fit j u e =
    ⊎_elim (λ (t : (j ≡ seat) × (v ≡ u)). subst (λ (o : Option PublishedList). IsSeenBeginning x o) t.1 fit) (λ (t : (j ≢ seat) × (get_elem? views j ≡ some u)). h j u t.1) (at_set views seat j v u e)

pub forks : (seat : ℕ) (v : Option PublishedList) → Forks Keeps seat v v v
forks seat v x views h at j u e =
    ⊎_elim (set_fits x views seat v h (h seat v at) j u) (λ (same : v ≡ u). subst (λ (o : Option PublishedList). IsSeenBeginning x o) same (h seat v at)) (at_snoc (set views seat v) v u j e)

pub merges : (seat : ℕ) (v : Option PublishedList) (other : ℕ) (w : Option PublishedList) → Merges Keeps seat v other w w None
merges seat v other w x views h at apart there =
    let b : IsSeenBeginning x w = ⊎_elim (λ (t : (other ≡ seat) × (w ≡ w)). absurd (apart t.0)) (λ (t : (other ≢ seat) × (get_elem? views other ≡ some w)). h other w t.1) (at_set views seat other w w there) in
    set_fits x (set views seat w) other None (set_fits x views seat w h b) tt

pub last_wins : (x l : PublishedList) (ps : List PublishedList) → fold (λ (a b : PublishedList). b) x (ps ++ l ∷ []) ≡ l
last_wins x l ps = fold-append (λ (a b : PublishedList). b) x ps (l ∷ [])

-- the list that is shown afterwards: the longer one, or the one that was
pub after_show : {X E : Type 0} (A B : Type 0) (r : Result X E) (x y f l : PublishedList) → f ≡ l → MatchResult r (λ _. (y ≡ f) × A) (λ _. (y ≡ x) × B) → MatchResult r (λ _. y ≡ l) (λ _. y ≡ x)
after_show A B (Ok t) x y f l is h = h.0 ∙ is
after_show A B (Err e) x y f l is h = h.0

-- with nothing pending the same list is shown
pub same_show : {X E : Type 0} (A B : Type 0) (r : Result X E) (x y f : PublishedList) → f ≡ x → MatchResult r (λ _. (y ≡ f) × A) (λ _. (y ≡ x) × B) → y ≡ x
same_show A B (Ok t) x y f is h = h.0 ∙ is
same_show A B (Err e) x y f is h = h.0

pub seen_then : {X E : Type 0} (A B : Type 0) (r : Result X E) (w s : Option PublishedList) → MatchResult r (λ _. (w ≡ s) × A) (λ _. B) → OnOk r (w ≡ s)
seen_then A B (Ok t) w s h = h.0
seen_then A B (Err e) w s h = tt
