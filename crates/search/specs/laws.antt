-- The proofs of the laws that the final solvers give, and what is shown of whole workspaces. No contract cites them.
pub mod Packed
pub mod Passes
pub mod Steps
pub mod Bridge
pub mod Moves
pub mod Undoing
pub mod Taking
pub mod Ordering
pub mod Drawing
pub mod Standing
pub mod Coding
pub mod Swept
pub mod Workspaces
pub mod WorkspacePasses
pub mod WorkspaceSearches
