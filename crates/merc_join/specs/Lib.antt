pub mod Join
pub mod Answers
pub mod Tickets
pub mod Room
