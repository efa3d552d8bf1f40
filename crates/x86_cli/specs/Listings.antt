-- What commands list of a text.
pub mod Line
pub mod Status
pub mod Listing
pub mod Entry
pub mod Performs
pub mod Closes
pub mod Grammar
pub mod Certain
pub mod Sweep
pub mod Targets
pub mod Tighten
