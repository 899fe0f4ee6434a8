-- What stands behind a sign, as the code has it.
use Rattle.sp_spelled.specs.Signs as spelled
use Rattle.sp_canonical.specs.declared.page.Gap.{Gap}
use Rattle.sp_canonical.specs.declared.page.Gap.TheVariants.{Tight, Space, Line}

abbrev pub gap_of : Gap → spelled.Gap
gap_of Tight = spelled.tight
gap_of Space = spelled.space
gap_of Line = spelled.line
