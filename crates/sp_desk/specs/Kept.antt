-- How a desk is kept.
use Rattle.std.specs.Arc.{arc_value}
use Rattle.sp_desk.specs.declared.desk.Desk.TheInside.{Inside}
use Rattle.sp_desk.specs.Desks.{DeskParts, IsDesk}

-- what contracts see of it
abbrev pub desk_in : Inside → DeskParts
desk_in d = record { task = arc_value d.task; known = d.viewer; seats = d.seats.items }

abbrev pub IsKeptDesk : Inside → Type 0
IsKeptDesk d = IsDesk (desk_in d)
