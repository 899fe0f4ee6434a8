-- Bytes that a store or a sink tells, or does not tell.
use Rattle.std.specs.Prelude.{◌≡◌, ℕ, ◌<◌, ◌≤◌, ◌↔◌, List, ◌++◌, take, drop, length, Option, Some}

-- a fact of the bytes, where they are told
abbrev pub IfTold : Option (List ℕ) → (List ℕ → Type 0) → Type 0
IfTold told P = (bytes : List ℕ) → told ≡ Some bytes → P bytes

-- the first n bytes of the buffer are the content's from there on, and none come only at its end
pub record ReadsBytes (content : Option (List ℕ)) (at n : ℕ) (buffer : List ℕ) : Type 0 where
  pub bytes : IfTold content (λ bytes. take n buffer ≡ take n (drop at bytes))
  pub at_end : IfTold content (λ bytes. 0 < length buffer → (n ≡ 0 ↔ length bytes ≤ at))

-- the bytes written are those before and then the piece
abbrev pub Appended : Option (List ℕ) → Option (List ℕ) → List ℕ → Type 0
Appended old new piece = IfTold old (λ bytes. new ≡ Some (bytes ++ piece))

-- only a beginning of the piece was appended, shorter than it
abbrev pub AppendedPart : Option (List ℕ) → Option (List ℕ) → List ℕ → Type 0
AppendedPart old new piece = (n : ℕ) × ((n < length piece) × Appended old new (take n piece))

-- the first bytes of the content
abbrev pub IsFront : List ℕ → List ℕ → Type 0
IsFront content bytes = (bytes ≡ take (length bytes) content) × (length bytes ≤ length content)
