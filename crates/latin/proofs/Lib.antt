mod Checked
mod Rows
