pub mod OneOutcome
pub mod Joined
