pub mod Bits
pub mod RootRules
pub mod Steps
pub mod Unused
pub mod Paths
pub mod Counting
