-- The numbers of statuses.
use Rattle.std.specs.Prelude.{ℕ}
use Rattle.sp_tool.specs.declared.status.Status.{Status}
use Rattle.sp_tool.specs.declared.status.Status.TheVariants.{Done, Refused, Usage, NoMemory, ReadFault, WriteFault, NotLegal}

-- the number with which a program of this status ends
abbrev pub number_of : Status → ℕ
number_of Done = 0
number_of Refused = 1
number_of Usage = 2
number_of NoMemory = 3
number_of ReadFault = 4
number_of WriteFault = 5
number_of NotLegal = 6
