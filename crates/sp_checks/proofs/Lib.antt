pub mod RoleLemmas
pub mod AcceptedLemmas
pub mod OwnLemmas
pub mod TableLemmas
pub mod InitialLemmas
pub mod ItemLemmas
pub mod ListingLemmas
pub mod ActionLemmas
pub mod SectionLemmas
pub mod FinishLemmas
pub mod FactorLemmas
pub mod StateLemmas
pub mod ModelLemmas
pub mod WordLemmas
pub mod StartLemmas
pub mod ReadingLemmas
mod TextRows
mod StandingLemmas
mod TreeTableLemmas
mod RefusalLemmas
mod PlaceLemmas
mod AmongLemmas
mod PlaceNames
mod RowPlaceLemmas
pub mod RoleRowLemmas
mod TableRowLemmas
mod InitRowLemmas
mod ItemRowLemmas
mod ActionRowLemmas
mod FrameLemmas
mod EndLemmas
pub mod TextLemmas
pub mod OneRowLemmas
