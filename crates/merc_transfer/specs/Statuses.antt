-- The statuses that the program ends with.
use Rattle.std.specs.Prelude.{ℕ, Result, Ok, Err}
use Rattle.merc_transfer.specs.declared.writing.Cut.{Cut}
use Rattle.merc_transfer.specs.declared.writing.Cut.TheVariants.{Unwritten, NoMemory}

-- the run has solutions and no further one, or is stopped behind as many as are wanted
abbrev pub solved_status : ℕ
solved_status = 0

-- the module that is checked breaks no rule
abbrev pub accepted_status : ℕ
accepted_status = 0

-- the run has no solution
abbrev pub unsolved_status : ℕ
unsolved_status = 1

-- the run ends with an exception
abbrev pub raised_status : ℕ
raised_status = 2

-- the run passes its step limit
abbrev pub limit_status : ℕ
limit_status = 3

-- the module breaks a rule
abbrev pub module_status : ℕ
module_status = 4

-- the goal breaks a rule
abbrev pub goal_status : ℕ
goal_status = 5

-- the words ask for nothing that there is
abbrev pub usage_status : ℕ
usage_status = 6

-- the file was not read
abbrev pub unread_status : ℕ
unread_status = 7

-- a write failed
abbrev pub unwritten_status : ℕ
unwritten_status = 8

-- memory was refused
abbrev pub no_memory_status : ℕ
no_memory_status = 9

-- the file is longer than the limit
abbrev pub too_long_status : ℕ
too_long_status = 10

-- the status to end with, where the text that is due with some status was written to its end or was not
abbrev pub status_told : Result ℕ Cut → ℕ
status_told (Ok status) = status
status_told (Err Unwritten) = unwritten_status
status_told (Err NoMemory) = no_memory_status
