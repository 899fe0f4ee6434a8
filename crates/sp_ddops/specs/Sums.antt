-- Sums of products of two functions over the values of a slot, for several pairs of parts at once.
use Rattle.std.specs.Prelude.{◌≡◌, ℕ, zero, suc, ◌*◌, ◌^◌, ◌<◌, ◌≤◌, List, [], ◌∷◌, ◌++◌, length, get_or, min, Bool, false, cond, ◌||◌, nat_lt, ℤ, pos, ◌+ℤ◌, ◌*ℤ◌, unsigned_abs}
use Rattle.sp_dd.specs.Floors.{sum_to, floor_div, ticks}
use Rattle.sp_dd.specs.declared.part.Part.{Part}
use Rattle.sp_dd.specs.declared.part.Part.TheVariants.{Leaf, At}
use Rattle.sp_dd.specs.NodeLists.{Node, node_value, same_part}
use Rattle.sp_dd.specs.Ordered.{IsBefore, IsOrdered, part_at}
use Rattle.sp_dd.specs.Walks.{ArePositive, IsFromSlot, with_slot}
use Rattle.sp_ddops.specs.Cofactors.{slot_or, leaf_of, cofactor_of}

-- the sum of the products of pairs of parts at a point
abbrev pub total : List Node → List Node → List Part → (ℕ → ℕ) → ℤ
total f g [] π = pos 0
total f g (a ∷ []) π = pos 0
total f g (a ∷ b ∷ ps) π = (node_value π f a *ℤ node_value π g b) +ℤ total f g ps π

-- the same where all parts are leaves
abbrev pub leaf_total : List Part → ℤ
leaf_total [] = pos 0
leaf_total (a ∷ []) = pos 0
leaf_total (a ∷ b ∷ ps) = (leaf_of a *ℤ leaf_of b) +ℤ leaf_total ps

-- the first slot on which one of the parts branches, or n
abbrev pub least_of : ℕ → List Node → List Node → List Part → ℕ
least_of n f g [] = n
least_of n f g (a ∷ []) = n
least_of n f g (a ∷ b ∷ ps) = min (min (slot_or f a n) (slot_or g b n)) (least_of n f g ps)

-- a pair before others, which is left out where its product is 0
abbrev pub pairs_with : Part → Part → List Part → List Part
pairs_with a b ps = cond (same_part a (Leaf (pos 0)) || same_part b (Leaf (pos 0))) ps (a ∷ b ∷ ps)

-- the pairs where a slot has a value
abbrev pub cofactors : List Node → List Node → ℕ → ℕ → List Part → List Part
cofactors f g s v [] = []
cofactors f g s v (a ∷ []) = []
cofactors f g s v (a ∷ b ∷ ps) = pairs_with (cofactor_of f s v a) (cofactor_of g s v b) (cofactors f g s v ps)

-- the pairs where a slot has each of its first n values
abbrev pub spread_to : List Node → List Node → ℕ → ℕ → List Part → List Part
spread_to f g at zero ps = []
spread_to f g at (suc n) ps = spread_to f g at n ps ++ cofactors f g at n ps

-- pairs of parts of two lists
abbrev pub ArePairs : List Node → List Node → List Part → Type 0
ArePairs f g [] = Unit {0}
ArePairs f g (a ∷ []) = ⊥
ArePairs f g (a ∷ b ∷ ps) = IsBefore (length f) a × IsBefore (length g) b × ArePairs f g ps

-- a leaf of at most that size, or a node
abbrev pub IsPartWithin : ℕ → Part → Type 0
IsPartWithin m (Leaf z) = unsigned_abs z ≤ m
IsPartWithin m (At i) = Unit {0}

abbrev pub ArePartsWithin : ℕ → ℕ → List Part → Type 0
ArePartsWithin m n [] = Unit {0}
ArePartsWithin m n (a ∷ []) = Unit {0}
ArePartsWithin m n (a ∷ b ∷ ps) = IsPartWithin m a × IsPartWithin n b × ArePartsWithin m n ps

-- products of leaves that are small enough for a sum of 64
abbrev pub AreLight : List Part → Type 0
AreLight [] = Unit {0}
AreLight (a ∷ []) = Unit {0}
AreLight (a ∷ b ∷ ps) = (unsigned_abs (leaf_of a *ℤ leaf_of b) ≤ 2 ^ 100) × AreLight ps

-- a sum as it is, or its floor in ticks
abbrev pub sum_or_floor : Bool → ℤ → ℤ
sum_or_floor mean z = cond mean (floor_div z ticks) z

-- before slot `at` the sum over its values, behind it the sum of the pairs
unfoldable pub sum_meaning : Bool → List ℕ → ℕ → List Node → List Node → Bool → List Part → (ℕ → ℕ) → ℤ
sum_meaning mean sizes at f g before ps π = sum_or_floor mean (cond before (sum_to (get_or sizes at 0) (λ v. total f g ps (with_slot at v π))) (total f g ps π))

-- two lists of nodes with small leaves, and a slot
pub record IsSumWalk (sizes : List ℕ) (at : ℕ) (f g : List Node) : Type 0 where
  pub positive : ArePositive sizes
  pub left : IsOrdered sizes f
  pub right : IsOrdered sizes g
  pub within : at < length sizes
  pub values : get_or sizes at 0 ≤ 64
  pub most_left : ℕ
  pub most_right : ℕ
  pub product : most_left * most_right ≤ 2 ^ 100
  pub small_left : (k v : ℕ) → k < length f → IsPartWithin most_left (part_at f k v)
  pub small_right : (k v : ℕ) → k < length g → IsPartWithin most_right (part_at g k v)

-- pairs of parts: before slot `at` one at most, behind it at most 64
pub record IsSumOf (sizes : List ℕ) (at : ℕ) (f g : List Node) (before : Bool) (ps : List Part) : Type 0 where
  pub tables : IsSumWalk sizes at f g
  pub pairs : ArePairs f g ps
  pub small : ArePartsWithin tables.most_left tables.most_right ps
  pub few : length ps ≤ cond before 2 128
  pub behind : before ≡ false → at < least_of (length sizes) f g ps

-- pairs of parts of which none branches before the bundle's slot
pub record IsSumBundle (sizes : List ℕ) (at : ℕ) (f g : List Node) (b : Node) : Type 0 where
  pub sum : IsSumOf sizes at f g (nat_lt b.slot at) b.parts
  pub from : b.slot ≤ least_of (length sizes) f g b.parts

-- the bundle that has the sum of pairs of parts
pub record IsBundleSum (mean : Bool) (sizes : List ℕ) (at : ℕ) (f g : List Node) (before : Bool) (ps : List Part) (c : Node) : Type 0 where
  pub bundle : IsSumBundle sizes at f g c
  pub within : c.slot < length sizes
  pub later : least_of (length sizes) f g ps ≤ c.slot
  pub from : IsFromSlot c.slot (sum_meaning mean sizes at f g (nat_lt c.slot at) c.parts)
  pub same : (π : ℕ → ℕ) → sum_meaning mean sizes at f g before ps π ≡ sum_meaning mean sizes at f g (nat_lt c.slot at) c.parts π
