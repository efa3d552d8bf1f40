-- The cuts of a sweep over any bytes, and where the instructions in them branch to.
pub mod Cuts
pub mod Sweep
pub mod Flows
pub mod Marks
pub mod Pieces
