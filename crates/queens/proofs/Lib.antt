mod Checked
mod Diagonals
pub mod Rows
