-- How files in memory are kept.
use Rattle.std.specs.Prelude.{List, map, string_bytes}
use Rattle.sp_outside.specs.Files.{File}
use Rattle.sp_outside.specs.declared.files.Entry.{Entry}

-- the file of an entry
abbrev pub file_of : Entry → File
file_of entry = record { name = string_bytes entry.name; bytes = entry.bytes.items }

-- the files of all entries, in order
abbrev pub files_of : List Entry → List File
files_of entries = map file_of entries
