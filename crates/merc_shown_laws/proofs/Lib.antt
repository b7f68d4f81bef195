pub mod RunOf
pub mod JoinedRuns
pub mod ValuesBehind
pub mod Showing
pub mod AskedGoals
pub mod Roots
pub mod Forkless
pub mod PlainScripts
