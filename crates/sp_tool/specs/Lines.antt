-- The lines that are told on err.
use Rattle.std.specs.Prelude.{ℕ, List, ◌++◌, codes}
use Rattle.std.specs.Fmt.{decimal}

-- the words are those of no command
abbrev pub usage_line : List ℕ
usage_line = codes "perseus: usage: try perseus --help\n"

abbrev pub no_memory_line : List ℕ
no_memory_line = codes "perseus: out of memory\n"

abbrev pub cannot_write_line : List ℕ
cannot_write_line = codes "perseus: cannot write\n"

abbrev pub cannot_read_line : List ℕ → List ℕ
cannot_read_line file = codes "perseus: cannot read " ++ (file ++ codes "\n")

-- the file is longer than its limit
abbrev pub too_long_line : List ℕ → ℕ → List ℕ
too_long_line file limit = codes "perseus: refused: " ++ (file ++ (codes ": longer than " ++ (decimal limit ++ codes " bytes\n")))

-- the file isn't accepted, for what stands at this byte
abbrev pub refused_line : List ℕ → ℕ → List ℕ → List ℕ
refused_line file at kind = codes "perseus: refused: " ++ (file ++ (codes ": byte " ++ (decimal at ++ (codes ": " ++ (kind ++ codes "\n")))))

-- the plan file isn't legal, for what this note tells
abbrev pub not_legal_line : List ℕ → List ℕ → List ℕ
not_legal_line file note = codes "perseus: not legal: " ++ (file ++ (codes ": " ++ (note ++ codes "\n")))

-- the script isn't accepted, for what stands on the line of this number
abbrev pub refused_script_line : List ℕ → ℕ → List ℕ → List ℕ
refused_script_line file number kind = codes "perseus: refused: " ++ (file ++ (codes ": line " ++ (decimal number ++ (codes ": " ++ (kind ++ codes "\n")))))
