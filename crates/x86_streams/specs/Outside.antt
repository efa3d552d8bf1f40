-- Sources, sinks, readers and writers, and what their calls say.
pub mod FaultCounts
pub mod Source
pub mod Stop
pub mod ByNumber
pub mod Sink
pub mod Seen
pub mod Joined
pub mod Chain
pub mod Record
pub mod Order
pub mod OneByOne
