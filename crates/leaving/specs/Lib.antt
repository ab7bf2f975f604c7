pub mod LeavingLaws
