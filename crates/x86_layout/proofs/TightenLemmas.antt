-- Lemmas on the shortest encoding of an address.
pub mod Raw
pub mod Shortest
pub mod Address
pub mod Rex
pub mod Operands
pub mod Respell
pub mod InstanceAlike
pub mod Relative
pub mod RegisterForm
pub mod Bytes
pub mod Tighten
pub mod Same
