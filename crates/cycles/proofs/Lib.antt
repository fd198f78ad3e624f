mod Checked
mod GapLists
mod LinkTables
mod Rows
