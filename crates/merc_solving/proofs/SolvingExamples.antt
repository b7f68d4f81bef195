-- What writing the lines of a run answers, by example, for the run of `RunLinesExamples` with two steps and two answers.
use Rattle.std.specs.Prelude.{◌≡◌, ◌++◌, ℕ, ◌<◌, List, [], ◌∷◌, Option, Some, None, Result, Ok, Err, codes, refl}
use Rattle.std.proofs.Common.{arith, ap}
use Rattle.std.specs.Fmt.{digits}
use Rattle.merc_base.specs.Outside.{SinkState}
use Rattle.merc_meaning.specs.Trace.{RunDone}
use Rattle.merc_machine.specs.declared.running.Stop.TheVariants.{Answer, Ended, Raised, LimitPassed, Starved, AtWait, SliceOver, NoMemory as NoMemoryStop}
use Rattle.merc_transfer.specs.Statuses.{solved_status, unsolved_status, raised_status, limit_status}
use Rattle.merc_transfer.specs.Writing.{PutsFront}
use Rattle.merc_transfer.specs.declared.writing.Cut.{Cut}
use Rattle.merc_transfer.specs.declared.writing.Cut.TheVariants.{Unwritten, NoMemory}
use Rattle.merc_transfer.proofs.WritingLemmas.{puts_front-all, puts_front-before}
use Rattle.merc_transfer.proofs.WritingExamples.{puts_whole, told}
use Rattle.merc_solving.specs.Solving.{Solves, StopsAlone, PutsEnd, PutsStop}
use Rattle.merc_solving.proofs.RunLinesExamples.{names, y, no_row, two_answers}

-- the lines are written, each as one piece, there is no further fault, and both steps are counted
pub Solves-all : Solves names (y ∷ []) None two_answers (told (codes "% ") [] 3) (told (codes "% Y = 4\nY = 8\nsolutions 2\n") (codes "Y = 4\n" ∷ codes "Y = 8\n" ∷ codes "solutions 2\n" ∷ []) 3) 5 7 (Ok solved_status)
unfolding digits
Solves-all = (refl, puts_whole (codes "Y = 4\n" ∷ codes "Y = 8\n" ∷ codes "solutions 2\n" ∷ []) (told (codes "% ") [] 3) (omega arith, (omega arith, (omega arith, tt))), refl)

pub Solves-stopped : Solves names (y ∷ []) (Some 1) two_answers (told [] [] 3) (told (codes "Y = 4\nstopped after 1\n") (codes "Y = 4\n" ∷ codes "stopped after 1\n" ∷ []) 3) 5 6 (Ok solved_status)
unfolding digits
Solves-stopped = (refl, puts_whole (codes "Y = 4\n" ∷ codes "stopped after 1\n" ∷ []) (told [] [] 3) (omega arith, (omega arith, tt)), refl)

-- another status; the last line is missing; a further fault; a step that is not counted
pub Solves-status : (new : SinkState) → Solves names (y ∷ []) None two_answers (told [] [] 3) new 5 7 (Ok unsolved_status) → ⊥
Solves-status new solves = let same : ◌≡◌ {A = ℕ} 1 0 = solves.0 in omega arith

pub Solves-front : Solves names (y ∷ []) None two_answers (told [] [] 3) (told (codes "Y = 4\nY = 8\n") (codes "Y = 4\n" ∷ codes "Y = 8\n" ∷ []) 3) 5 7 (Ok solved_status) → ⊥
unfolding digits
Solves-front solves =
    let puts = solves.1.puts in
    let written : Some (codes "Y = 4\nY = 8\n") ≡ Some puts.front = puts.written in
    let front : puts.front ≡ codes "Y = 4\nY = 8\n" = cc in
    let whole : puts.front ++ [] ≡ codes "Y = 4\nY = 8\nsolutions 2\n" = puts.whole in
    let same : ◌≡◌ {A = List ℕ} (codes "Y = 4\nY = 8\n") (codes "Y = 4\nY = 8\nsolutions 2\n") = rw front at whole in
    cc

pub Solves-fault : (bytes : List ℕ) (pieces : List (List ℕ)) → Solves names (y ∷ []) None two_answers (told [] [] 3) (told bytes pieces 4) 5 7 (Ok solved_status) → ⊥
Solves-fault bytes pieces solves = let same : ◌≡◌ {A = ℕ} 4 3 = solves.1.faults in omega arith

pub Solves-step : (new : SinkState) → Solves names (y ∷ []) None two_answers (told [] [] 3) new 5 6 (Ok solved_status) → ⊥
Solves-step new solves = let same : ◌≡◌ {A = ℕ} 6 7 = solves.2 in omega arith

-- a write failed behind a front; and one that is not counted
pub Solves-cut : Solves names (y ∷ []) None two_answers (told [] [] 3) (told (codes "Y = 4\n") (codes "Y = 4\n" ∷ []) 4) 5 6 (Err Unwritten)
unfolding digits
Solves-cut =
    let first = puts_front-all (codes "Y = 4\n" ∷ []) (told [] [] 3) (told (codes "Y = 4\n") (codes "Y = 4\n" ∷ []) 3) (puts_whole (codes "Y = 4\n" ∷ []) (told [] [] 3) (omega arith, tt)) in
    let front : PutsFront (codes "Y = 4\n" ∷ []) (told [] [] 3) (told (codes "Y = 4\n") (codes "Y = 4\n" ∷ []) 4) = record { left = first.left; puts = record { front = first.puts.front; whole = first.puts.whole; written = first.puts.written; pieces = first.puts.pieces; gives = first.puts.gives; given = first.puts.given } } in
    (puts_front-before (codes "Y = 4\n" ∷ []) (codes "Y = 8\n" ∷ codes "solutions 2\n" ∷ []) (told [] [] 3) (told (codes "Y = 4\n") (codes "Y = 4\n" ∷ []) 4) front, omega arith)

pub Solves-uncounted : (bytes : List ℕ) (pieces : List (List ℕ)) → Solves names (y ∷ []) None two_answers (told [] [] 3) (told bytes pieces 3) 5 6 (Err Unwritten) → ⊥
Solves-uncounted bytes pieces solves = let less : 3 < 3 = solves.1 in omega arith

pub PutsEnd-solved : PutsEnd names 2 RunDone (told [] [] 3) (told (codes "solutions 2\n") (codes "solutions 2\n" ∷ []) 3) (Ok solved_status)
unfolding digits
PutsEnd-solved = (puts_whole (codes "solutions 2\n" ∷ []) (told [] [] 3) (omega arith, tt), refl)

pub PutsEnd-unsolved : (new : SinkState) → PutsEnd names 0 RunDone (told [] [] 3) new (Ok solved_status) → ⊥
PutsEnd-unsolved new ends = let same : ◌≡◌ {A = ℕ} 0 1 = ends.1 in omega arith

-- at its end a machine meets nobody, and where it waits for a value it does
pub StopsAlone-ended : StopsAlone Ended
StopsAlone-ended = tt

pub StopsAlone-waits : (variable : ℕ) → StopsAlone (AtWait variable) → ⊥
StopsAlone-waits variable alone = alone

-- each stop has its line and its status, and where the run could go on nothing is written

pub PutsStop-ended : PutsStop names 0 Ended (told [] [] 3) (told (codes "solutions 0\n") (codes "solutions 0\n" ∷ []) 3) (Ok unsolved_status)
unfolding digits
PutsStop-ended = (puts_whole (codes "solutions 0\n" ∷ []) (told [] [] 3) (omega arith, tt), refl)

pub PutsStop-raised : PutsStop names 2 (Raised no_row) (told [] [] 3) (told (codes "uncaught exception: no row\n") (codes "uncaught exception: no row\n" ∷ []) 3) (Ok raised_status)
PutsStop-raised = (puts_whole (codes "uncaught exception: no row\n" ∷ []) (told [] [] 3) (omega arith, tt), refl)

pub PutsStop-limit : PutsStop names 2 LimitPassed (told [] [] 3) (told (codes "step limit passed\n") (codes "step limit passed\n" ∷ []) 3) (Ok limit_status)
PutsStop-limit = (puts_whole (codes "step limit passed\n" ∷ []) (told [] [] 3) (omega arith, tt), refl)

pub PutsStop-answer : (sink : SinkState) → PutsStop names 2 Answer sink sink (Err NoMemory)
PutsStop-answer sink = (refl, refl)

pub PutsStop-goes_on : (sink : SinkState) → PutsStop names 2 SliceOver sink sink (Ok solved_status) → ⊥
PutsStop-goes_on sink stops = let wrong : ◌≡◌ {A = Result ℕ Cut} (Ok solved_status) (Err NoMemory) = stops.0 in cc

pub PutsStop-no_memory : PutsStop names 2 NoMemoryStop (told [] [] 3) (told (codes "solutions 2\n") (codes "solutions 2\n" ∷ []) 3) (Err NoMemory) → ⊥
PutsStop-no_memory stops = let wrong : ◌≡◌ {A = Option (List ℕ)} (Some (codes "solutions 2\n")) (Some []) = ap (λ (s : SinkState). s.written) stops.1 in cc

pub PutsStop-starved : (old new : SinkState) (result : Result ℕ Cut) → PutsStop names 2 Starved old new result → ⊥
PutsStop-starved old new result stops = stops
