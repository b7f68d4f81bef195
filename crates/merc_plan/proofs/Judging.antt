-- What a course owes: that what it waits for is given, that its conjuncts answer once, and that it uses its rights.
use Rattle.std.proofs.Common.{◌≡◌, ◌≢◌, ℕ, suc, ◌+◌, ◌≤◌, ◌<◌, ◌⊎◌, Bool, true, false, List, [], ◌∷◌, ◌++◌, if◌then◌else◌, Option, Some, None, nat_eq}
use Rattle.std.specs.Prelude.{⊤, filter}
use Rattle.std.specs.List.{AllByRecursion}
use Rattle.merc_value.specs.Value.{Value}
use Rattle.merc_script.specs.declared.cells.Move.{Move}
use Rattle.merc_script.specs.Script.{Script, Ends, TickThen, WaitThen, SignalThen, ForkThen, Children, NoChild, Child, Cell, count, ends}
use Rattle.merc_script.specs.declared.outcome.Outcome.TheVariants.{Starved}
use Rattle.merc_script.specs.Joining.{joined}
use Rattle.merc_core.specs.Rights.{has, without, numbers_of, moved, moved_to, used_by, signals_at, waits_at, signals_behind}
use Rattle.merc_core.specs.WellFormed.{AreDistinct, ForkFits, EndsWell, Follows, gain, value_in, most_children}
use Rattle.merc_plan.specs.Branch.{NamedCell, Fork, Hold, BranchCourse, Over, Breaks, Steps, Finds, Awaits, Gives, Forks, BranchCourses, no_branches, more_branches, names, Gift, gift_at, gifts_through, all_give}
use Rattle.merc_plan.specs.BranchScript.{those_of}
use Rattle.merc_plan.proofs.Flat.{Flat, Done, Halts, Tick, Answer, behind, Det, Answers}

-- the sequential trace of a course: the conjuncts one behind the other
abbrev mutual
  pub flat : BranchCourse → Flat Hold
  flat Over = Done
  flat (Breaks h) = Halts h
  flat (Steps t) = Tick (flat t)
  flat (Finds hold t) = Answer hold (flat t)
  flat (Awaits c v t) = flat t
  flat (Gives c v t) = flat t
  flat (Forks i x kids t) = flats kids (flat t)

  pub flats : BranchCourses → Flat Hold → Flat Hold
  flats no_branches u = u
  flats (more_branches t more) u = behind (flat t) (flats more u)

-- the cells that a course signals up to its answer, its descendants with it
abbrev mutual
  pub marks : BranchCourse → List ℕ
  marks Over = []
  marks (Breaks h) = []
  marks (Steps t) = marks t
  marks (Finds hold t) = []
  marks (Awaits c v t) = marks t
  marks (Gives c v t) = c ∷ marks t
  marks (Forks i x kids t) = those_of (all_marks kids) (moved true x.moves) ++ marks t

  pub all_marks : BranchCourses → List ℕ
  all_marks no_branches = []
  all_marks (more_branches t more) = marks t ++ all_marks more

abbrev pub AllAnswer : BranchCourses → Type 0
AllAnswer no_branches = ⊤
AllAnswer (more_branches t more) = Answers (flat t) × AllAnswer more

-- Each awaited cell is given, or signalled by a conjunct to the left or by a fork before; asked only where all to the left answered. The root of all goes on
-- behind its answers.
abbrev mutual
  pub Served : Bool → List ℕ → BranchCourse → Type 0
  Served root given Over = ⊤
  Served root given (Breaks h) = ⊤
  Served root given (Steps t) = Served root given t
  Served true given (Finds hold t) = Served true given t
  Served false given (Finds hold t) = ⊤
  Served root given (Awaits c v t) = (has c given ≡ true) × Served root given t
  Served root given (Gives c v t) = Served root given t
  Served root given (Forks i x kids t) =
      AllServed (without (names x.cells) given) kids × (AllAnswer kids → Served root (without (names x.cells) given ++ all_marks kids) t)

  pub AllServed : List ℕ → BranchCourses → Type 0
  AllServed given no_branches = ⊤
  AllServed given (more_branches t more) = Served false given t × (Answers (flat t) → AllServed (given ++ marks t) more)

-- Each conjunct of each fork answers once at most, and does not end without an answer, where all to its left answered; and of each fork that is reached so there
-- holds what may be asked of it.
module _ (Holds : Fork → BranchCourses → Type 0) where
  abbrev mutual
    pub Sure : BranchCourse → Type 0
    Sure Over = ⊤
    Sure (Breaks h) = ⊤
    Sure (Steps t) = Sure t
    Sure (Finds hold t) = Sure t
    Sure (Awaits c v t) = Sure t
    Sure (Gives c v t) = Sure t
    Sure (Forks i x kids t) = Holds x kids × (AllSure kids × (AllAnswer kids → Sure t))

    pub AllSure : BranchCourses → Type 0
    AllSure no_branches = ⊤
    AllSure (more_branches t more) = Sure t × (Det (flat t) × (Answers (flat t) → AllSure more))

abbrev pub kid_count : BranchCourses → ℕ
kid_count no_branches = 0
kid_count (more_branches t more) = suc (kid_count more)

-- the cells that a conjunct makes, and those that it uses, by name

abbrev pub makes : ℕ → List NamedCell → List ℕ
makes k cells = names (filter (λ one. nat_eq one.producer k) cells)

abbrev pub uses : ℕ → List NamedCell → List ℕ
uses k cells = names (filter (λ one. nat_eq one.consumer k) cells)

abbrev pub signals_to : ℕ → Fork → List ℕ
signals_to k x = makes k x.cells ++ moved_to k true x.moves

abbrev pub waits_to : ℕ → Fork → List ℕ
waits_to k x = uses k x.cells ++ moved_to k false x.moves

abbrev pub NamedFits : ℕ → NamedCell → Type 0
NamedFits n c = (1 ≤ c.producer) × ((c.producer ≤ n) × ((c.consumer ≡ 0) ⊎ ((c.producer < c.consumer) × (c.consumer ≤ n))))

-- a right that moves is held, and goes to one of the conjuncts
abbrev pub HoldsRight : (ℕ → Bool) → List Gift → List ℕ → Bool → ℕ → Type 0
HoldsRight rights given waits true c = (rights c ≡ true) × (gift_at c given ≡ None)
HoldsRight rights given waits false c = has c waits ≡ true

abbrev pub MoveGoes : ℕ → (ℕ → Bool) → List Gift → List ℕ → Move → Type 0
MoveGoes n rights given waits m = (1 ≤ m.child) × ((m.child ≤ n) × HoldsRight rights given waits m.signal m.cell)

-- A fork of n conjuncts. rights: to signal, of the branch at its start; given: through which cells it gave before; waits: its rights to wait that are left.
pub record SiteFits (n : ℕ) (rights : ℕ → Bool) (given : List Gift) (waits : List ℕ) (x : Fork) : Type 0 where
  pub some : 1 ≤ n
  pub few : n ≤ most_children
  pub cells : AllByRecursion (NamedFits n) x.cells
  pub moves : AllByRecursion (MoveGoes n rights given waits) x.moves
  pub fresh : AllByRecursion (λ m. has m.cell (names x.cells) ≡ false) x.moves
  pub distinct : AreDistinct (names x.cells)
  pub signals_once : AreDistinct (moved true x.moves)
  pub waits_once : AreDistinct (moved false x.moves)
  pub apart : (c : ℕ) → rights c ≡ true → has c (names x.cells) ≡ false

-- a fork of a branch that moves nothing: its own cells are named from next on
pub record OwnFits (n next : ℕ) (x : Fork) : Type 0 where
  pub some : 1 ≤ n
  pub few : n ≤ most_children
  pub cells : AllByRecursion (NamedFits n) x.cells
  pub distinct : AreDistinct (names x.cells)
  pub low : (c : ℕ) → has c (names x.cells) ≡ true → next ≤ c

-- all rights to signal are used
abbrev pub Whole : (ℕ → Bool) → List ℕ → List Gift → Hold → Type 0
Whole rights waits given hold = (c : ℕ) → rights c ≡ true → gift_at c given ≢ None

-- Up to its first answer, at which `end` holds, a course that cannot fail before it signals and waits with the right alone, and gives what is proper for a cell.
-- A right to wait is gone where a fork names an own cell as its cell, as it is for scripts.
-- rights: to signal, at the start; given: those that are used up; waits: rights to wait that are left.
abbrev mutual
  pub Keeps : (ℕ → Value → Type 0) → (List ℕ → List Gift → Hold → Type 0) → (ℕ → Bool) → List ℕ → List Gift → BranchCourse → Type 0
  Keeps proper end rights waits given Over = ⊥
  Keeps proper end rights waits given (Breaks h) = ⊤
  Keeps proper end rights waits given (Steps t) = Keeps proper end rights waits given t
  Keeps proper end rights waits given (Finds hold t) = end waits given hold
  Keeps proper end rights waits given (Awaits c v t) = (has c waits ≡ true) × Keeps proper end rights (without (c ∷ []) waits) given t
  Keeps proper end rights waits given (Gives c v t) =
      (proper c v × (rights c ≡ true)) × ((gift_at c given ≡ None) × Keeps proper end rights waits (given ++ (record { cell = c; value = Some v } ∷ [])) t)
  Keeps proper end rights waits given (Forks i x kids t) =
      SiteFits (kid_count kids) rights given waits x
      × (AllKeep proper x 1 kids
      × (AllAnswer kids → Keeps proper end rights (uses 0 x.cells ++ without (names x.cells) (without (moved false x.moves) waits)) (given ++ gifts_through (moved true x.moves) (all_give kids)) t))

  -- A conjunct gives what is proper for the cells of its parent, whose names are told apart from the fork's own.
  pub AllKeep : (ℕ → Value → Type 0) → Fork → ℕ → BranchCourses → Type 0
  AllKeep proper x k no_branches = ⊤
  AllKeep proper x k (more_branches t more) =
      Keeps (λ c v. has c (names x.cells) ≡ false → proper c v) (Whole (λ c. has c (signals_to k x))) (λ c. has c (signals_to k x)) (waits_to k x) [] t × AllKeep proper x (suc k) more

-- nothing is asked of what is given
abbrev pub anything : ℕ → Value → Type 0
anything c v = ⊤

-- A course without use of rights held from before: all its cells are named from next on. pending: own cells to wait for.
abbrev pub Quiet : ℕ → List ℕ → BranchCourse → Type 0
Quiet next pending Over = ⊤
Quiet next pending (Breaks h) = ⊤
Quiet next pending (Steps t) = Quiet next pending t
Quiet next pending (Finds hold t) = Quiet next [] t
Quiet next pending (Awaits c v t) = (has c pending ≡ true) × ((next ≤ c) × Quiet next (without (c ∷ []) pending) t)
Quiet next pending (Gives c v t) = ⊥
Quiet next pending (Forks i x kids t) =
    (x.moves ≡ []) × (OwnFits (kid_count kids) next x × (AllKeep anything x 1 kids × (AllAnswer kids → Quiet next (uses 0 x.cells ++ without (names x.cells) pending) t)))

-- Scripts of which cells are told by names.

-- the value of a cell in scope: a fork's own cells are told anew
abbrev pub told_values : (ℕ → Option Value) → List Cell → ℕ → Option Value
told_values value cells c = if has c (numbers_of cells) then value_in cells c else value c

-- the names of a fork's cells are told apart from each other and from all that is held to signal or moves
pub record NamesFit (signals : List ℕ) (cells : List Cell) (moves : List Move) : Type 0 where
  pub distinct : AreDistinct (numbers_of cells)
  pub apart : (c : ℕ) → has c signals ≡ true → has c (numbers_of cells) ≡ false
  pub fresh : AllByRecursion (λ m. has m.cell (numbers_of cells) ≡ false) moves

-- As the core has it of scripts with numbers, but that a fork's own names can stand again for other cells, so that those held before are held no more.
abbrev mutual
  pub NamedFormed : (ℕ → Option Value) → ℕ → List ℕ → List ℕ → Script → Type 0
  NamedFormed value s signals waits (Ends o) = AllByRecursion (λ c. value c ≡ None) signals × EndsWell o signals
  NamedFormed value s signals waits (TickThen r) = NamedFormed value (suc s) signals waits r
  NamedFormed value s signals waits (WaitThen c r) =
      (has c waits ≡ true) × ((value c ≡ None → r ≡ Ends Starved) × NamedFormed value s signals (without (c ∷ []) waits) r)
  NamedFormed value s signals waits (SignalThen c r) =
      (has c signals ≡ true) × ((value c ≢ None) × NamedFormed value s (without (c ∷ []) signals) waits r)
  NamedFormed value s signals waits (ForkThen l cells moves all r) =
      ForkFits s signals waits l cells moves (count all)
      × (NamesFit signals cells moves
      × (AllNamedFormed (told_values value cells) cells moves 1 all
      × (Follows s (joined l (ends all)) r
      × NamedFormed (told_values value cells) (s + gain (joined l (ends all))) (signals_behind signals moves)
      (used_by 0 cells ++ without (numbers_of cells) (without (moved false moves) waits)) r)))

  pub AllNamedFormed : (ℕ → Option Value) → List Cell → List Move → ℕ → Children → Type 0
  AllNamedFormed value cells moves k NoChild = ⊤
  AllNamedFormed value cells moves k (Child s more) =
      NamedFormed value 0 (signals_at k cells moves) (waits_at k cells moves) s × AllNamedFormed value cells moves (suc k) more
