-- The number of each status, and which one is told.
use Rattle.std.specs.Prelude.{◌≡◌, [], ◌∷◌, Ok, Err, refl}
use Rattle.merc_transfer.specs.declared.writing.Cut.TheVariants.{Unwritten, NoMemory}
use Rattle.merc_transfer.specs.Statuses.{status_told, accepted_status, solved_status, unsolved_status, raised_status, limit_status, module_status, goal_status, usage_status, unread_status, unwritten_status, no_memory_status, too_long_status}

pub statuses-example :
    solved_status ∷ accepted_status ∷ unsolved_status ∷ raised_status ∷ limit_status ∷ module_status ∷ goal_status ∷ usage_status ∷ unread_status ∷ unwritten_status ∷ no_memory_status ∷ too_long_status ∷ []
    ≡ 0 ∷ 0 ∷ 1 ∷ 2 ∷ 3 ∷ 4 ∷ 5 ∷ 6 ∷ 7 ∷ 8 ∷ 9 ∷ 10 ∷ []
statuses-example = refl

pub statuses-counterexample : module_status ≡ goal_status → ⊥
statuses-counterexample same = cc

-- that of the text where it was written, 8 behind a write that failed, and 9 where memory was refused
pub status_told-example : status_told (Ok 3) ∷ status_told (Err Unwritten) ∷ status_told (Err NoMemory) ∷ [] ≡ 3 ∷ 8 ∷ 9 ∷ []
status_told-example = refl

pub status_told-counterexample : status_told (Err Unwritten) ≡ status_told (Err NoMemory) → ⊥
status_told-counterexample same = cc
