pub mod MomentSets
pub mod PointSets
pub mod Extents
