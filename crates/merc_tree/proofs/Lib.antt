pub mod NodeLaws
pub mod SameTerms
pub mod PartLaws
pub mod TypeLaws
pub mod PartShapes
pub mod PlacedParts
