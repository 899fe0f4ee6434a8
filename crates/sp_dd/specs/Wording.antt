-- Parts in words of 64 bits.
use Rattle.std.specs.Prelude.{◌≡◌, ℕ, ◌-◌, ◌<◌, ◌≤◌, List, length, map, slice_index_or, ◌++◌, ℤ, pos, ◌-ℤ◌, cond, nat_lt}
use Rattle.sp_dd.specs.declared.part.Part.{Part}
use Rattle.sp_dd.specs.declared.part.Part.TheVariants.{Leaf, At}

-- the part of a word: a node's place below 2^32, the place of a wide leaf among the wide leaves from there to 2^33, and a leaf above
unfoldable pub word_part : List ℤ → ℕ → Part
word_part wide w =
    cond (nat_lt w 4294967296) (At w)
    (cond (nat_lt w 8589934592) (Leaf (slice_index_or wide (w - 4294967296) (pos 0)))
    (Leaf (pos w -ℤ pos 9223372036854775808)))

abbrev pub parts_of : List ℤ → List ℕ → List Part
parts_of wide words = map (word_part wide) words

-- a word that says its part by itself
pub record IsPlain (w : ℕ) : Type 0 where
  pub apart : 4294967296 ≤ w → 8589934592 ≤ w

-- the wide leaf of a word is among that many
abbrev pub IsWideLeafWithin : ℕ → ℕ → Type 0
IsWideLeafWithin n w = 4294967296 ≤ w → w < 8589934592 → w - 4294967296 < n

abbrev pub AreWordsWithin : ℕ → List ℕ → Type 0
AreWordsWithin n words = (k : ℕ) → k < length words → IsWideLeafWithin n (slice_index_or words k 0)

-- more wide leaves behind the same ones
pub record AreLeavesGrown (wide more : List ℤ) : Type 0 where
  pub rest : List ℤ
  pub is : more ≡ wide ++ rest

-- a part's word
pub record IsWordOf (wide : List ℤ) (part : Part) (w : ℕ) : Type 0 where
  pub within : IsWideLeafWithin (length wide) w
  pub is : word_part wide w ≡ part
