use Rattle.std.proofs.Common.{◌≡◌, ℕ, ◌+◌, ◌≤◌, ◌-◌, List, ◌++◌, Some, Option, ap, sym, ◌∙◌, arith, take, drop, length, append_assoc}
use Rattle.std.proofs.lemmas.List.{take_rest, take-take, take-append-le}
use Rattle.std.proofs.Math.Seq.{take-add}
use Rattle.std.proofs.Common.{length-append, length-take}
use Rattle.sp_outside.specs.Bytes.{Appended, IsFront}

-- a piece more of the bytes
pub more_appended : (old mid new : Option (List ℕ)) (bytes : List ℕ) (at n : ℕ) → Appended old mid (take at bytes) → Appended mid new (take n (take (length bytes - at) (drop at bytes))) → Appended old new (take (at + n) bytes)
more_appended old mid new bytes at n first second b e =
    let whole : take n (take (length bytes - at) (drop at bytes)) ≡ take n (drop at bytes) = ap (take n) (take_rest bytes at) in
    second (b ++ take at bytes) (first b e)
    ∙ ap (λ l. Some ((b ++ take at bytes) ++ l)) whole
    ∙ ap Some (append_assoc b (take at bytes) (take n (drop at bytes)) ∙ ap (λ l. b ++ l) (sym (take-add at n bytes)))

-- a piece more of what is read
pub more_read : (bytes old new piece : List ℕ) (n : ℕ) → IsFront bytes old → piece ≡ take n (drop (length old) bytes) → length piece ≡ n → new ≡ old ++ piece → IsFront bytes new
more_read bytes old new piece n read piece_is len e =
    let size : length new ≡ length old + n = ap length e ∙ length-append old piece ∙ ap (λ k. length old + k) len in
    let all : new ≡ take (length old + n) bytes = e ∙ ap (λ l. l ++ piece) read.0 ∙ ap (λ l. take (length old) bytes ++ l) piece_is ∙ sym (take-add (length old) n bytes) in
    (all ∙ ap (λ k. take k bytes) (sym size), omega (arith, size, ap length all, length-take (length old + n) bytes))

-- the front of a block whose first part was written
pub front_of : (buf rest block : List ℕ) (len n : ℕ) → block ≡ take len (buf ++ rest) → n ≤ length buf → n ≤ len → take n block ≡ take n buf
front_of buf rest block len n e fits short = ap (take n) e ∙ take-take n len (buf ++ rest) short ∙ take-append-le n buf rest fits
