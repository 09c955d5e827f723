pub mod Paths
pub mod Composing
pub mod Before
pub mod Backs
pub mod OrderLaws
pub mod ClearWays
pub mod SiteRows
