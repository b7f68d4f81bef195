-- What writing the lines of a run answers.
use Rattle.std.specs.Prelude.{◌≡◌, ℕ, List, [], ◌∷◌, Option, Result, Ok, Err, IfOk}
use Rattle.merc_base.specs.Outside.{SinkState}
use Rattle.merc_meaning.specs.Trace.{Run, RunEnd, RunDone, RunRaised, LimitPassed as PastLimit}
use Rattle.merc_meaning.specs.Counting.{counted}
use Rattle.merc_machine.specs.declared.running.Stop.{Stop}
use Rattle.merc_machine.specs.declared.running.Stop.TheVariants.{Answer, Ended, Raised, LimitPassed, Starved, AtFork, AtWait, AtSignal, SliceOver, NoMemory as NoMemoryStop}
use Rattle.merc_transfer.specs.declared.writing.Cut.{Cut}
use Rattle.merc_transfer.specs.declared.writing.Cut.TheVariants.{NoMemory}
use Rattle.merc_solving.specs.Runs.{steps_made}
use Rattle.merc_solving.specs.RunLines.{end_line, end_status, run_lines, run_status}
use Rattle.merc_transfer.specs.Writing.{Cuts, PutsAll, Writes}

-- All lines of the run were written, up to a bound where one is given, and each step counted; or a front of the lines was written.
abbrev pub Solves : List (List ℕ) → List ℕ → Option ℕ → Run → SinkState → SinkState → ℕ → ℕ → Result ℕ Cut → Type 0
Solves names variables most asked old new ticks ticks' (Ok status) =
    (status ≡ run_status most asked) × PutsAll (run_lines names variables most asked) old new × (ticks' ≡ counted ticks (steps_made most asked))
Solves names variables most asked old new ticks ticks' (Err cut) = Cuts (run_lines names variables most asked) old new cut

-- The line of this end of a run was written, or a front of it, and the answer is the run's status.
abbrev pub PutsEnd : List (List ℕ) → ℕ → RunEnd → SinkState → SinkState → Result ℕ Cut → Type 0
PutsEnd names count end old new result = Writes (end_line names count end ∷ []) old new result × IfOk result (λ status. status ≡ end_status count end)

-- A machine that meets nobody comes to such a stop.
abbrev pub StopsAlone : Stop → Type 0
StopsAlone Answer = Unit {0}
StopsAlone Ended = Unit {0}
StopsAlone (Raised text) = Unit {0}
StopsAlone LimitPassed = Unit {0}
StopsAlone Starved = ⊥
StopsAlone (AtFork site) = ⊥
StopsAlone (AtWait variable) = ⊥
StopsAlone (AtSignal variable) = ⊥
StopsAlone SliceOver = Unit {0}
StopsAlone NoMemoryStop = Unit {0}

-- The same of the end at which a machine stopped, where it did; else nothing was written, as where memory is refused. It meets nobody.
abbrev pub PutsStop : List (List ℕ) → ℕ → Stop → SinkState → SinkState → Result ℕ Cut → Type 0
PutsStop names count Ended old new result = PutsEnd names count RunDone old new result
PutsStop names count (Raised text) old new result = PutsEnd names count (RunRaised text) old new result
PutsStop names count LimitPassed old new result = PutsEnd names count PastLimit old new result
PutsStop names count Answer old new result = (result ≡ Err NoMemory) × (new ≡ old)
PutsStop names count Starved old new result = ⊥
PutsStop names count (AtFork site) old new result = ⊥
PutsStop names count (AtWait variable) old new result = ⊥
PutsStop names count (AtSignal variable) old new result = ⊥
PutsStop names count SliceOver old new result = (result ≡ Err NoMemory) × (new ≡ old)
PutsStop names count NoMemoryStop old new result = (result ≡ Err NoMemory) × (new ≡ old)
