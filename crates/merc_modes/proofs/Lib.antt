pub mod FaultOrder
pub mod Bodies
pub mod Procedures
