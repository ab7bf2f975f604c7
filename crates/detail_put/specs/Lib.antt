pub mod Answers
pub mod LineLaws
