-- What is found to be due before anything is written.
use Rattle.std.specs.Prelude.{◌≡◌, ◌<◌, ◌⊎◌, ℕ, List, [], ◌∷◌, Option, Result, Ok, Err}
use Rattle.merc_base.specs.Outside.{Files}
use Rattle.merc_base.specs.declared.refusal.Fault.{Fault}
use Rattle.merc_base.specs.declared.refusal.Fault.TheVariants.{Refused, NoMemory}
use Rattle.merc_meaning.specs.Trace.{Run}
use Rattle.merc_top.specs.declared.words.Request.{Request}
use Rattle.merc_top.specs.declared.words.Request.TheVariants.{Solve, Check}
use Rattle.merc_transfer.specs.declared.due.Due.{Due}
use Rattle.merc_top.specs.declared.answering.Found.{Found}
use Rattle.merc_top.specs.declared.answering.Found.TheVariants.{Lines, Run as Runs}
use Rattle.merc_top.specs.declared.answering.Trouble.{Trouble}
use Rattle.merc_top.specs.declared.answering.Trouble.TheVariants.{Unread, NoMemory as NoMemoryLeft}
use Rattle.merc_transfer.specs.Statuses.{limit_status, unread_status, too_long_status}
use Rattle.merc_top.specs.Output.{IsAskedRun, IsCheckDue, IsDue, IsOutput, refusal_line}
use Rattle.merc_top.specs.Answer.{AreFiles, NamesAbsent}
use Rattle.merc_top.specs.Asking.{AsksRun}
use Rattle.merc_solving.specs.Ready.{IsReady}

-- The one line of a refusal, and this status. Where memory was refused, nothing is due.
abbrev pub IsFaultDue : ℕ → List ℕ → Fault → Due → Type 0
IsFaultDue status name (Refused refusal) due = (due.lines ≡ refusal_line name refusal ∷ []) × (due.status ≡ status)
IsFaultDue status name NoMemory due = ⊥

-- the lines and the status that are due for a file of this name and text, and a goal, which say that one of both is refused; or what makes the run that is due
abbrev pub IsSolveFound : List ℕ → List ℕ → List ℕ → ℕ → Option ℕ → Found → Type 0
IsSolveFound name file goal steps most (Lines due) = (limit_status < due.status) × IsDue name file goal steps most due.lines due.status
IsSolveFound name file goal steps most (Runs ready) = (names : List (List ℕ)) × (variables : List ℕ) × (asked : Run) × IsAskedRun file goal steps names variables asked × IsReady names variables most asked ready

-- the same of a check, of which no run is due
abbrev pub IsCheckFound : List ℕ → List ℕ → Found → Type 0
IsCheckFound name file (Lines due) = IsCheckDue name file due.lines due.status
IsCheckFound name file (Runs ready) = ⊥

abbrev pub IsRequestFound : Request → List ℕ → Found → Type 0
IsRequestFound (Solve file goal steps most) text found = IsSolveFound file.now text goal.now steps most found
IsRequestFound (Check file) text found = IsCheckFound file.now text found

-- The lines and the status that are due over the files, which a failed read tells nothing of; or what makes the run that is due; or the file could not be
-- read; or memory was refused.
abbrev pub Finds : List (List ℕ) → Option Files → ℕ → ℕ → Result Found Trouble → Type 0
Finds words told before now (Ok (Lines due)) =
    (now ≡ before) × ((due.status < unread_status) ⊎ (due.status ≡ too_long_status))
    × ((files : Files) × AreFiles told files × IsOutput words files due.lines due.status
    × ((names : List (List ℕ)) (variables : List ℕ) (most : Option ℕ) (asked : Run) → AsksRun words files names variables most asked → limit_status < due.status))
Finds words told before now (Ok (Runs ready)) =
    (now ≡ before)
    × ((files : Files) × AreFiles told files × (names : List (List ℕ)) × (variables : List ℕ) × (most : Option ℕ) × (asked : Run) × AsksRun words files names variables most asked × IsReady names variables most asked ready)
Finds words told before now (Err Unread) = (before < now) ⊎ ((now ≡ before) × NamesAbsent words told)
Finds words told before now (Err NoMemoryLeft) = now ≡ before
