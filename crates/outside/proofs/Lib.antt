pub mod WinnerLaws
pub mod WinnerMapLemmas
pub mod ToldLaws
pub mod DockLaws
pub mod Says
pub mod TableLaws
pub mod PlaceLaws
