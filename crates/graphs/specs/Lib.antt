pub mod Graphs
pub mod Folding
