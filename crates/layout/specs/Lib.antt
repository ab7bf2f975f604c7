pub mod Views
pub mod Known
