-- What a sink has taken.
use Rattle.std.specs.Prelude.{ℕ, List, Option, None}

-- the bytes written, where the sink tells them, and how often a write has failed
pub record WrittenBytes : Type 0 where
  pub bytes : Option (List ℕ)
  pub faults : ℕ

-- no bytes are told
abbrev pub untold_bytes : ℕ → WrittenBytes
untold_bytes count = record { bytes = None; faults = count }
