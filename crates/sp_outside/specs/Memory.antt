-- The store and the sink in memory.
use Rattle.std.specs.Prelude.{◌≡◌, ◌⊎◌, ℕ, ◌-◌, List, ◌++◌, take, length, min, Contains, Some, None, IsSomeAnd, Result, is_ok, if◌then◌else◌}
use Rattle.sp_outside.specs.Counts.{next_count}
use Rattle.sp_outside.specs.Files.{File, content_of}
use Rattle.sp_outside.specs.Folder.{Folder}
use Rattle.sp_outside.specs.Written.{WrittenBytes}

-- a store's files, the numbers of the reads that fail, and how many reads there were and failed
pub record StoreState : Type 0 where
  pub files : List File
  pub failing : List ℕ
  pub reads : ℕ
  pub faults : ℕ

-- the store's files are its content, and the number of failed reads is the count of every name
abbrev pub folder_of : StoreState → Folder
folder_of store = record { content = content_of store.files; faults = λ name. store.faults }

-- the next read fails: its number is listed, or there is no such name
abbrev pub ReadFails : StoreState → List ℕ → Type 0
ReadFails store name = Contains store.failing (next_count store.reads) ⊎ (content_of store.files name ≡ None)

-- a read gave as many bytes as the buffer takes or as are left
abbrev pub GivesAll : StoreState → List ℕ → ℕ → ℕ → ℕ → Type 0
GivesAll store name at room n = IsSomeAnd (content_of store.files name) (λ bytes. n ≡ min room (length bytes - at))

-- the store after a read, which is counted
abbrev pub read_from : {T E : Type 0} → StoreState → Result T E → StoreState
read_from store result = record store {
  reads = next_count store.reads;
  faults = if is_ok result then store.faults else next_count store.faults;
}

-- a sink's bytes, the most that it takes at once, the numbers of the writes that fail, and how many writes there were and failed
pub record SinkState : Type 0 where
  pub bytes : List ℕ
  pub most : ℕ
  pub failing : List ℕ
  pub writes : ℕ
  pub faults : ℕ

-- the sink tells its bytes
abbrev pub written_of : SinkState → WrittenBytes
written_of sink = record { bytes = Some sink.bytes; faults = sink.faults }

-- the sink after a write of a piece, which is counted
abbrev pub written_to : {E : Type 0} → SinkState → List ℕ → Result ℕ E → SinkState
written_to sink piece result = record sink {
  bytes = if is_ok result then sink.bytes ++ take sink.most piece else sink.bytes;
  writes = next_count sink.writes;
  faults = if is_ok result then sink.faults else next_count sink.faults;
}
