pub mod Handing
pub mod Held
pub mod Rooms
pub mod Slots
pub mod Stacks
pub mod View
