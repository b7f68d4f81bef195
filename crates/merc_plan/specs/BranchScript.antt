-- The script of a branch: what its course does with so many steps left, each fork with the scripts of its conjuncts.
use Rattle.std.specs.Prelude.{ℕ, suc, zero, ◌+◌, ◌-◌, ◌==◌, Bool, true, false, List, [], ◌∷◌, ◌++◌, length, map, None, if◌then◌else◌}
use Rattle.merc_meaning.specs.Trace.{Run, Ends as RunEnds, Tick, Answer, RunDone, RunRaised, LimitPassed}
use Rattle.merc_meaning.specs.Runs.{Program}
use Rattle.merc_graded_tree.specs.Nodes.{Node}
use Rattle.merc_script.specs.declared.outcome.Outcome.{Outcome}
use Rattle.merc_script.specs.declared.outcome.Outcome.TheVariants.{Ok as Fine, Raise, Limit, Starved, NoMemory}
use Rattle.merc_script.specs.declared.cells.Move.{Move}
use Rattle.merc_script.specs.Script.{Script, Ends, TickThen, WaitThen, SignalThen, ForkThen, Children, NoChild, Child, Cell, ends}
use Rattle.merc_script.specs.Joining.{joined}
use Rattle.merc_core.specs.Rights.{has, without, moved}
use Rattle.merc_core.specs.WellFormed.{cells_of}
use Rattle.merc_plan.specs.Branch.{NamedCell, BranchCourse, BranchCourses, Over, Breaks, Steps, Finds, Awaits, Gives, Forks, no_branches, more_branches, Raised, TooDeep, Starving, Gift, gift_at, value_given, all_give, names}
use Rattle.merc_plan.specs.Branches.{Plan, root_branch}

-- those of cells that are among others
abbrev pub those_of : List ℕ → List ℕ → List ℕ
those_of others [] = []
those_of others (cell ∷ cells) = if has cell others then cell ∷ those_of others cells else those_of others cells

-- The cells from outside that a script signals, its descendants with it: of a fork it is those whose right moved into it.
abbrev mutual
  pub signalled : Script → List ℕ
  signalled (Ends end) = []
  signalled (TickThen rest) = signalled rest
  signalled (WaitThen cell rest) = signalled rest
  signalled (SignalThen cell rest) = cell ∷ signalled rest
  signalled (ForkThen limit cells moves children rest) = those_of (all_signalled children) (moved true moves) ++ signalled rest

  pub all_signalled : Children → List ℕ
  all_signalled NoChild = []
  all_signalled (Child first others) = signalled first ++ all_signalled others

-- a fork's cell with its value, where a script signals it
abbrev pub valued : List ℕ → List Gift → NamedCell → Cell
valued signals given one = record {
  cell = one.cell;
  producer = one.producer;
  consumer = one.consumer;
  value = if has one.cell signals then value_given (gift_at one.cell given) else None;
}

-- behind a fork of this outcome, after so many steps
abbrev pub going : Outcome → ℕ → (ℕ → Script) → Script
going (Fine steps) made next = next steps
going (Raise text steps) made next = Ends (Raise text (made + steps))
going Limit made next = Ends Limit
going Starved made next = Ends Starved
going NoMemory made next = Ends NoMemory

-- So many steps are left, and were made; these cells are signalled by scripts to the left. The root of all goes on behind its answers, and a conjunct ends at
-- its first one. A fork's own cells are new. Cells are told by their names.
abbrev mutual
  pub script : Bool → ℕ → ℕ → List ℕ → BranchCourse → Script
  script root left made given Over = Ends (Fine made)
  script root left made given (Breaks (Raised text)) = Ends (Raise text made)
  script root left made given (Breaks TooDeep) = Ends Limit
  script root left made given (Breaks Starving) = Ends Starved
  script root zero made given (Steps rest) = Ends Limit
  script root (suc left) made given (Steps rest) = TickThen (script root left (suc made) given rest)
  script true left made given (Finds hold rest) = script true left made given rest
  script false left made given (Finds hold rest) = Ends (Fine made)
  script root left made given (Awaits cell value rest) = WaitThen cell (if has cell given then script root left made given rest else Ends Starved)
  script root left made given (Gives cell value rest) = SignalThen cell (script root left made given rest)
  script root left made given (Forks site fork branches rest) =
      ForkThen left (map (valued (all_signalled (scripts left (without (names fork.cells) given) branches)) (all_give branches)) fork.cells) fork.moves
      (scripts left (without (names fork.cells) given) branches)
      (going (joined left (ends (scripts left (without (names fork.cells) given) branches))) made
      (λ steps. script root (left - steps) (made + steps) (without (names fork.cells) given ++ all_signalled (scripts left (without (names fork.cells) given) branches)) rest))

  pub scripts : ℕ → List ℕ → BranchCourses → Children
  scripts left given no_branches = NoChild
  scripts left given (more_branches first rest) =
      Child (script false left 0 given first) (scripts left (given ++ signalled (script false left 0 given first)) rest)

-- The cells of a script by numbers in place of names: a fork's cells have the numbers from a first one on, then come those of the forks in its children, one
-- child after the other, and then those behind the fork. So no two cells have one number.

-- the numbers of a fork's cells are those from a first one on; others keep theirs
abbrev pub with_numbers : List Cell → ℕ → (ℕ → ℕ) → ℕ → ℕ
with_numbers [] first numbers name = numbers name
with_numbers (one ∷ rest) first numbers name = if one.cell == name then first else with_numbers rest (suc first) numbers name

abbrev pub renamed_cell : (ℕ → ℕ) → Cell → Cell
renamed_cell numbers one = record { cell = numbers one.cell; producer = one.producer; consumer = one.consumer; value = one.value }

abbrev pub renamed_move : (ℕ → ℕ) → Move → Move
renamed_move numbers one = record { cell = numbers one.cell; child = one.child; signal = one.signal }

abbrev pub width : Script → ℕ
width script = length (cells_of script)

abbrev mutual
  pub numbered : (ℕ → ℕ) → ℕ → Script → Script
  numbered numbers first (Ends end) = Ends end
  numbered numbers first (TickThen rest) = TickThen (numbered numbers first rest)
  numbered numbers first (WaitThen cell rest) = WaitThen (numbers cell) (numbered numbers first rest)
  numbered numbers first (SignalThen cell rest) = SignalThen (numbers cell) (numbered numbers first rest)
  numbered numbers first (ForkThen limit cells moves children rest) =
      let inner = with_numbers cells first numbers in
      ForkThen limit (map (renamed_cell inner) cells) (map (renamed_move numbers) moves) (all_numbered inner (first + length cells) children)
      (numbered inner (first + length cells + all_width children) rest)

  pub all_numbered : (ℕ → ℕ) → ℕ → Children → Children
  all_numbered numbers first NoChild = NoChild
  all_numbered numbers first (Child one others) = Child (numbered numbers first one) (all_numbered numbers (first + width one) others)

  pub all_width : Children → ℕ
  all_width NoChild = 0
  all_width (Child one others) = width one + all_width others

-- a branch that holds no cells has none to tell
abbrev pub no_numbers : ℕ → ℕ
no_numbers name = name

-- the script of a goal that is asked, with so many steps
abbrev pub root_script : Plan → Program → Node → ℕ → Script
root_script plan program goal limit = numbered no_numbers 0 (script true limit 0 [] (root_branch plan program (suc limit) goal))

-- What a run shows of a script: how it ends, and after how many steps.
abbrev pub shown_by : ℕ → Run → Outcome
shown_by made (RunEnds RunDone) = Fine made
shown_by made (RunEnds (RunRaised text)) = Raise text made
shown_by made (RunEnds LimitPassed) = Limit
shown_by made (Tick rest) = shown_by (suc made) rest
shown_by made (Answer env rest) = shown_by made rest
