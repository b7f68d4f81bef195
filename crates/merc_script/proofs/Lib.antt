pub mod Reading
mod Examples
pub mod JoiningLaws
