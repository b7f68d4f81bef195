-- The course of a branch, in which what others give it is put in: each wait has its cell and the value that comes through it, each signal its cell and value,
-- and each fork its conjuncts' courses.
use Rattle.std.specs.Prelude.{ℕ, ◌==◌, ◌&&◌, Bool, true, false, List, [], ◌∷◌, ◌++◌, map, Option, Some, None, if◌then◌else◌}
use Rattle.merc_value.specs.Value.{Value}
use Rattle.merc_graded_tree.specs.Nodes.{Nodes}
use Rattle.merc_meaning.specs.Trace.{Env}
use Rattle.merc_core.specs.Rights.{moved}
use Rattle.merc_script.specs.declared.cells.Move.{Move}

-- A right to wait for a variable's value, which comes through this cell. A conjunct to the left gives it this value, or none.
pub record HeldWait : Type 0 where
  pub variable : ℕ
  pub cell : ℕ
  pub value : Option Value

-- a right to signal a variable's value through this cell, to the conjunct of this number, 0 for the goals behind the `&`
pub record HeldSignal : Type 0 where
  pub variable : ℕ
  pub conjunct : ℕ
  pub cell : ℕ

-- What a branch has: its variables' values and its rights, each in the order in which it holds them. Cells are named by numbers; those of its forks have names
-- from `next` on, which is above the names of all that it holds.
pub record Hold : Type 0 where
  pub env : Env
  pub waits : List HeldWait
  pub signals : List HeldSignal
  pub next : ℕ

-- a cell of a fork, by its name: the variable, the conjunct that signals it and the one that waits for it, 0 for the parent
pub record NamedCell : Type 0 where
  pub cell : ℕ
  pub variable : ℕ
  pub producer : ℕ
  pub consumer : ℕ

-- a fork: its own cells, the rights of the branch that move into conjuncts, the conjuncts, and what the branch has where it forks
pub record Fork : Type 0 where
  pub cells : List NamedCell
  pub moves : List Move
  pub goals : Nodes
  pub before : Hold

-- how a branch ends before it has ended well: with an exception of this text, because calls nest too deep, or because it waits for what nobody gives
pub data Halt : Type 0 where
  Raised : (text : ℕ) → Halt
  TooDeep : Halt
  Starving : Halt

-- A Step is one entry into a procedure, and where something is found the branch has answered. `Over`: there is no further answer. A wait without a value
-- starves. The conjuncts of a fork go each up to its first answer; behind them stands what the branch does then.
mutual
  pub data BranchCourse : Type 0 where
    Over : BranchCourse
    Breaks : (halt : Halt) → BranchCourse
    Steps : (rest : BranchCourse) → BranchCourse
    Finds : (hold : Hold) (rest : BranchCourse) → BranchCourse
    Awaits : (cell : ℕ) (value : Option Value) (rest : BranchCourse) → BranchCourse
    Gives : (cell : ℕ) (value : Value) (rest : BranchCourse) → BranchCourse
    Forks : (site : ℕ) (fork : Fork) (branches : BranchCourses) (rest : BranchCourse) → BranchCourse

  pub data BranchCourses : Type 0 where
    no_branches : BranchCourses
    more_branches : (first : BranchCourse) (rest : BranchCourses) → BranchCourses

-- one course and, where there is no further answer, then another
abbrev pub after : BranchCourse → BranchCourse → BranchCourse
after Over other = other
after (Breaks halt) other = Breaks halt
after (Steps rest) other = Steps (after rest other)
after (Finds hold rest) other = Finds hold (after rest other)
after (Awaits cell value rest) other = Awaits cell value (after rest other)
after (Gives cell value rest) other = Gives cell value (after rest other)
after (Forks site fork branches rest) other = Forks site fork branches (after rest other)

-- each answer is replaced by the course that goes on from it
abbrev pub each : (Hold → BranchCourse) → BranchCourse → BranchCourse
each go_on Over = Over
each go_on (Breaks halt) = Breaks halt
each go_on (Steps rest) = Steps (each go_on rest)
each go_on (Finds hold rest) = after (go_on hold) (each go_on rest)
each go_on (Awaits cell value rest) = Awaits cell value (each go_on rest)
each go_on (Gives cell value rest) = Gives cell value (each go_on rest)
each go_on (Forks site fork branches rest) = Forks site fork branches (each go_on rest)

-- each answer is changed in this way
abbrev pub taken_back : (Hold → Hold) → BranchCourse → BranchCourse
taken_back change Over = Over
taken_back change (Breaks halt) = Breaks halt
taken_back change (Steps rest) = Steps (taken_back change rest)
taken_back change (Finds hold rest) = Finds (change hold) (taken_back change rest)
taken_back change (Awaits cell value rest) = Awaits cell value (taken_back change rest)
taken_back change (Gives cell value rest) = Gives cell value (taken_back change rest)
taken_back change (Forks site fork branches rest) = Forks site fork branches (taken_back change rest)

-- the course up to its first answer, behind which there is none
abbrev pub first_alone : BranchCourse → BranchCourse
first_alone Over = Over
first_alone (Breaks halt) = Breaks halt
first_alone (Steps rest) = Steps (first_alone rest)
first_alone (Finds hold rest) = Finds hold Over
first_alone (Awaits cell value rest) = Awaits cell value (first_alone rest)
first_alone (Gives cell value rest) = Gives cell value (first_alone rest)
first_alone (Forks site fork branches rest) = Forks site fork branches (first_alone rest)

-- of a condition's course: with an answer, each is replaced by the course that goes on from it; with none, the other course stands behind it
abbrev pub choose : (Hold → BranchCourse) → BranchCourse → BranchCourse → BranchCourse
choose go_on other Over = other
choose go_on other (Breaks halt) = Breaks halt
choose go_on other (Steps rest) = Steps (choose go_on other rest)
choose go_on other (Finds hold rest) = after (go_on hold) (each go_on rest)
choose go_on other (Awaits cell value rest) = Awaits cell value (choose go_on other rest)
choose go_on other (Gives cell value rest) = Gives cell value (choose go_on other rest)
choose go_on other (Forks site fork branches rest) = Forks site fork branches (choose go_on other rest)

-- of a goal's course: with an answer, what is before it; with none, one answer behind it
abbrev pub negated : Hold → BranchCourse → BranchCourse
negated hold Over = Finds hold Over
negated hold (Breaks halt) = Breaks halt
negated hold (Steps rest) = Steps (negated hold rest)
negated hold (Finds found rest) = Over
negated hold (Awaits cell value rest) = Awaits cell value (negated hold rest)
negated hold (Gives cell value rest) = Gives cell value (negated hold rest)
negated hold (Forks site fork branches rest) = Forks site fork branches (negated hold rest)

-- the course of a conjunct: it has ended well at its first answer
abbrev pub closed : BranchCourse → BranchCourse
closed Over = Over
closed (Breaks halt) = Breaks halt
closed (Steps rest) = Steps (closed rest)
closed (Finds hold rest) = Over
closed (Awaits cell value rest) = Awaits cell value (closed rest)
closed (Gives cell value rest) = Gives cell value (closed rest)
closed (Forks site fork branches rest) = Forks site fork branches (closed rest)

abbrev pub names : List NamedCell → List ℕ
names cells = map (λ one. one.cell) cells

-- What is given: through which cell, and the value, where a value is given.
pub record Gift : Type 0 where
  pub cell : ℕ
  pub value : Option Value

-- the gift through a cell, if there is one
abbrev pub gift_at : ℕ → List Gift → Option (Option Value)
gift_at cell [] = None
gift_at cell (first ∷ rest) = if cell == first.cell then Some first.value else gift_at cell rest

abbrev pub value_given : Option (Option Value) → Option Value
value_given None = None
value_given (Some value) = value

-- through these cells, what is given there
abbrev pub gifts_through : List ℕ → List Gift → List Gift
gifts_through cells gifts = map (λ cell. record { cell = cell; value = value_given (gift_at cell gifts) }) cells

-- whether a course answers, with the conjuncts of its forks before its first answer
abbrev mutual
  pub does_answer : BranchCourse → Bool
  does_answer Over = false
  does_answer (Breaks halt) = false
  does_answer (Steps rest) = does_answer rest
  does_answer (Finds hold rest) = true
  does_answer (Awaits cell value rest) = does_answer rest
  does_answer (Gives cell value rest) = does_answer rest
  does_answer (Forks site fork branches rest) = all_do_answer branches && does_answer rest

  pub all_do_answer : BranchCourses → Bool
  all_do_answer no_branches = true
  all_do_answer (more_branches first rest) = does_answer first && all_do_answer rest

-- What a course gives up to its first answer, through cells that the branch holds: of a fork it is what its conjuncts give through those that moved in, and
-- where one of these does not answer nothing is given behind it.
abbrev mutual
  pub gives : BranchCourse → List Gift
  gives Over = []
  gives (Breaks halt) = []
  gives (Steps rest) = gives rest
  gives (Finds hold rest) = []
  gives (Awaits cell value rest) = gives rest
  gives (Gives cell value rest) = record { cell = cell; value = Some value } ∷ gives rest
  gives (Forks site fork branches rest) =
      gifts_through (moved true fork.moves) (all_give branches) ++ (if all_do_answer branches then gives rest else [])

  pub all_give : BranchCourses → List Gift
  all_give no_branches = []
  all_give (more_branches first rest) = gives first ++ all_give rest
