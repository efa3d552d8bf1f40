-- Commands, their runs, and what a run says.
pub mod Command
pub mod Complete
pub mod Make
pub mod Request
pub mod Says
pub mod Follows
pub mod Program
pub mod Process
