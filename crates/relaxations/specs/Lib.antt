pub mod Relaxation
pub mod Verdicts
pub mod PairLists
