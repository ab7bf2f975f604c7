pub mod Good
pub mod Starts
pub mod ViewRules
pub mod Heads
