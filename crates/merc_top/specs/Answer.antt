-- What one call of `answer` has done: what it wrote and counted, and why it ends with its status.
--
-- Whatever file and goal are given, a run that returns without want of memory or an outside fault has written exactly the text of the module's strict sequential run up to its step limit, or the
-- refusal, with its status; each solution is true of the clauses, and where the run ends freely no other instance of the goal is. Word for word:
-- - a run: one call of `answer`, with any words, shelf and sink (`Answers`);
-- - without want of memory or an outside fault: the status is not that of refused memory, and neither count of faults rose (the premises of `output` and `exact`);
-- - the text and the status, or the refusal: `IsOutput`, over the files that the shelf tells; written: `PutsAll`, each line as one piece;
-- - the strict sequential run up to its step limit: `IsAskedRun`, whose lines are `run_lines`, up to `--max` where that is given;
-- - each solution is true of the clauses: `solutions` of `IsTruthful`; yes, at each stage greater than the limit;
-- - where the run ends freely, neither with an exception nor at its limit: `EndsFreely`; no other instance, an assignment of the answer variables, is true: `others`.
use Rattle.std.specs.Prelude.{◌≡◌, ◌≢◌, ◌<◌, ◌≤◌, ◌⊎◌, ◌↔◌, ℕ, List, Option, Some, None}
use Rattle.merc_base.specs.Outside.{Files, SinkState, file_named}
use Rattle.merc_meaning.specs.Counting.{counted}
use Rattle.merc_meaning.specs.Trace.{Run}
use Rattle.merc_transfer.specs.Statuses.{limit_status, unread_status, unwritten_status, no_memory_status}
use Rattle.merc_transfer.specs.Writing.{PutsAll, PutsFront}
use Rattle.merc_solving.specs.Runs.{steps_made}
use Rattle.merc_top.specs.declared.words.Request.{Request}
use Rattle.merc_top.specs.Words.{IsRequest, file_of}
use Rattle.merc_top.specs.Output.{IsOutput}
use Rattle.merc_top.specs.Asking.{AsksRun}
use Rattle.merc_top.specs.Truth.{IsTruthful}

-- the files that a shelf tells; where it tells none, any
abbrev pub AreFiles : Option Files → Files → Type 0
AreFiles None files = Unit {0}
AreFiles (Some told) files = files ≡ told

-- the words name a file that is not among those told
abbrev pub NamesAbsent : List (List ℕ) → Option Files → Type 0
NamesAbsent words None = ⊥
NamesAbsent words (Some files) = (request : Request) × IsRequest words request × (file_named (file_of request) files ≡ None)

-- this status is due for these words over these files
abbrev pub IsStatusDue : List (List ℕ) → Files → ℕ → Type 0
IsStatusDue words files status = (lines : List (List ℕ)) × IsOutput words files lines status

-- what was written is a front of the text that is due
abbrev pub WroteFront : List (List ℕ) → Files → SinkState → SinkState → Type 0
WroteFront words files old new = (lines : List (List ℕ)) × (due : ℕ) × IsOutput words files lines due × PutsFront lines old new

-- Each step of the run that the words ask for is counted, up to its last answer that is told where it is stopped there.
abbrev pub CountsSteps : List (List ℕ) → Files → ℕ → Type 0
CountsSteps words files count =
    (names : List (List ℕ)) (variables : List ℕ) (most : Option ℕ) (asked : Run) → AsksRun words files names variables most asked → count ≡ counted 0 (steps_made most asked)

-- One call, for these words, over a shelf that tells these files: how often reading had failed before it and has after it, what is told of the sink before it and behind it, how many steps are
-- counted, and the status. The status of refused memory is free.
pub record Answers (words : List (List ℕ)) (told : Option Files) (reads reads' : ℕ) (old new : SinkState) (count status : ℕ) : Type 0 where
  -- The files are those that the shelf tells. Where it tells none, all that follows is of some files.
  pub files : Files
  pub files_are : AreFiles told files
  -- Counts of faults never fall.
  pub reads_rise : reads ≤ reads'
  pub writes_rise : old.faults ≤ new.faults
  -- Without a fault the whole text that is due was written, and the status is the one due.
  pub output : reads' ≡ reads → new.faults ≡ old.faults → status ≢ no_memory_status → (lines : List (List ℕ)) × IsOutput words files lines status × PutsAll lines old new
  -- Then each status comes exactly where it is due,
  pub exact : reads' ≡ reads → new.faults ≡ old.faults → status ≢ no_memory_status → (due : ℕ) → (status ≡ due) ↔ IsStatusDue words files due
  -- and where it is that of a run, each step is counted.
  pub counts : reads' ≡ reads → new.faults ≡ old.faults → status ≤ limit_status → CountsSteps words files count
  -- The file counts as unread exactly where a read failed or it is not there, and then nothing was written.
  pub unread : status ≡ unread_status → (reads < reads') ⊎ NamesAbsent words told
  pub read_failed : reads < reads' → status ≡ unread_status
  pub absent : NamesAbsent words told → status ≢ no_memory_status → status ≡ unread_status
  pub nothing_written : status ≡ unread_status → new ≡ old
  -- The status says that a write failed exactly where one did; what was written then is a front of a text that was due.
  pub write_failed : (status ≡ unwritten_status) ↔ (old.faults < new.faults)
  pub cut_short : status ≡ unwritten_status → WroteFront words files old new
  -- Whatever the status, nothing was written or a front of a text that is due.
  pub front : (new ≡ old) ⊎ WroteFront words files old new
  -- The solutions of a run are true, and where it ends freely nothing else is.
  pub truth : IsTruthful words files
