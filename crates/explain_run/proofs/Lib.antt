pub mod Positions
pub mod FloatLocations
pub mod FirstImports
pub mod ExportLines
