pub mod Conjuncts
pub mod MachinesAtScripts
pub mod Meetings
pub mod Running
pub mod ShownStands
pub mod StandsAtItems
pub mod Starting
