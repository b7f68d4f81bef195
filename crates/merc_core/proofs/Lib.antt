pub mod QueueLists
mod StoredOutcomes
mod QueuesExamples
mod OutcomesExamples
pub mod Pool
pub mod Steps
pub mod Measure
pub mod Truth
pub mod TruthSteps
pub mod Names
pub mod Losses
pub mod Carrying
pub mod Live
pub mod Anys
pub mod Givings
pub mod Progress
pub mod Times
pub mod ForkTimes
pub mod Serving
pub mod ForkServing
pub mod Parking
pub mod LiveSteps
pub mod KeptRights
mod GivenExamples
pub mod Dues
pub mod Hands
pub mod Single
pub mod Histories
pub mod Waiters
pub mod CoreExamples
mod WellFormedExamples
mod HistoryExamples
mod ForkExamples
pub mod StandingLaws
pub mod Filters
pub mod PoolShows
pub mod PoolMoves
pub mod Rooms
pub mod StartPlaces
pub mod StartRooms
pub mod StartCells
pub mod Starts
mod StartExamples
pub mod Acting
pub mod Simple
pub mod TakingUp
pub mod WaitingAt
pub mod Waking
pub mod SignalledAt
pub mod ResumedAt
pub mod Spoiling
pub mod Poisoning
pub mod FinishedAt
pub mod EndedAt
pub mod ForkParts
pub mod ForkRights
pub mod ForkedAt
pub mod Forks
pub mod Fits
pub mod Turns
pub mod Unknown
pub mod Replays
mod ExecutionExamples
