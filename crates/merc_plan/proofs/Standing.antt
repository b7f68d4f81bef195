-- Where the values of cells are those of a branch's script, a machine that does what the branch does stands at the script.
use Rattle.std.proofs.Common.{◌≡◌, refl, ap, ℕ, zero, suc, ◌+◌, ◌-◌, Bool, true, false, if◌then◌else◌, List, ◌++◌, map, Option, Some, None}
use Rattle.std.specs.Prelude.{⊤}
use Rattle.merc_value.specs.Value.{Value}
use Rattle.merc_script.specs.declared.outcome.Outcome.{Outcome}
use Rattle.merc_script.specs.declared.outcome.Outcome.TheVariants.{Ok as Fine, Raise, Limit, Starved, NoMemory}
use Rattle.merc_script.specs.Script.{Script, Ends, TickThen, WaitThen, SignalThen, ForkThen, Children, Cell, ends}
use Rattle.merc_script.specs.Joining.{joined}
use Rattle.merc_core.specs.Rights.{has, without}
use Rattle.merc_plan.specs.Branch.{Fork, BranchCourse, Over, Breaks, Steps, Finds, Awaits, Gives, Forks, BranchCourses, no_branches, more_branches, Raised, TooDeep, Starving, closed, names, all_give}
use Rattle.merc_plan.specs.BranchScript.{valued, signalled, all_signalled, going, script, scripts}
use Rattle.merc_plan.proofs.Judging.{told_values}

-- What the values of cells owe to a course. Cells are told by names.

-- behind conjuncts that end well, after so many steps
abbrev pub IfFine : Outcome → (ℕ → Type 0) → Type 0
IfFine (Fine n) Fits = Fits n
IfFine (Raise e n) Fits = ⊤
IfFine Limit Fits = ⊤
IfFine Starved Fits = ⊤
IfFine NoMemory Fits = ⊤

-- the cell has the value with which a wait goes on
abbrev pub IsGiven : Option Value → Option Value → Type 0
IsGiven None there = ⊥
IsGiven (Some v) there = there ≡ Some v

-- a wait for a cell that is given, and for one that is not
abbrev pub IfGiven : Bool → Type 0 → Type 0 → Type 0
IfGiven true There NotThere = There
IfGiven false There NotThere = NotThere

-- the scripts of a fork's conjuncts with so many steps left, and the fork's cells with their values
abbrev pub kid_scripts : ℕ → List ℕ → Fork → BranchCourses → Children
kid_scripts left given x kids = scripts left (without (names x.cells) given) kids

abbrev pub fork_cells : ℕ → List ℕ → Fork → BranchCourses → List Cell
fork_cells left given x kids = map (valued (all_signalled (kid_scripts left given x kids)) (all_give kids)) x.cells

-- With so many steps left, where these cells are given. The root of all goes on behind its answers.
abbrev mutual
  pub Valued : (ℕ → Option Value) → Bool → ℕ → List ℕ → BranchCourse → Type 0
  Valued value root left given Over = ⊤
  Valued value root left given (Breaks h) = ⊤
  Valued value root zero given (Steps t) = ⊤
  Valued value root (suc left) given (Steps t) = Valued value root left given t
  Valued value true left given (Finds hold t) = Valued value true left given t
  Valued value false left given (Finds hold t) = ⊤
  Valued value root left given (Awaits c o t) = IfGiven (has c given) (IsGiven o (value c) × Valued value root left given t) (value c ≡ None)
  Valued value root left given (Gives c v t) = (value c ≡ Some v) × Valued value root left given t
  Valued value root left given (Forks i x kids t) =
      AllValued (told_values value (fork_cells left given x kids)) left (without (names x.cells) given) kids
      × IfFine (joined left (ends (kid_scripts left given x kids)))
      (λ n. Valued (told_values value (fork_cells left given x kids)) root (left - n) (without (names x.cells) given ++ all_signalled (kid_scripts left given x kids)) t)

  pub AllValued : (ℕ → Option Value) → ℕ → List ℕ → BranchCourses → Type 0
  AllValued value left given no_branches = ⊤
  AllValued value left given (more_branches t more) = Valued value false left given t × AllValued value left (given ++ signalled (script false left 0 given t)) more

-- A conjunct's script is that of its course up to its first answer.

going-same : (o : Outcome) (made : ℕ) (one other : ℕ → Script) → ((n : ℕ) → one n ≡ other n) → going o made one ≡ going o made other
going-same (Fine n) made one other e = e n
going-same (Raise text n) made one other e = refl
going-same Limit made one other e = refl
going-same Starved made one other e = refl
going-same NoMemory made one other e = refl

pub script-closed : (t : BranchCourse) (left made : ℕ) (given : List ℕ) → script true left made given (closed t) ≡ script false left made given t
script-closed Over left made given = refl
script-closed (Breaks (Raised e)) left made given = refl
script-closed (Breaks TooDeep) left made given = refl
script-closed (Breaks Starving) left made given = refl
script-closed (Steps t) zero made given = refl
script-closed (Steps t) (suc left) made given = ap TickThen (script-closed t left (suc made) given)
script-closed (Finds hold t) left made given = refl
script-closed (Awaits c o t) left made given = ap (λ r. WaitThen c (if has c given then r else Ends Starved)) (script-closed t left made given)
script-closed (Gives c v t) left made given = ap (λ r. SignalThen c r) (script-closed t left made given)
script-closed (Forks i x kids t) left made given =
    ap (λ r. ForkThen left (fork_cells left given x kids) x.moves (kid_scripts left given x kids) r)
    (going-same (joined left (ends (kid_scripts left given x kids))) made _ _
    (λ n. script-closed t (left - n) (made + n) (without (names x.cells) given ++ all_signalled (kid_scripts left given x kids))))

fine-weaker : (o : Outcome) (One Other : ℕ → Type 0) → ((n : ℕ) → One n → Other n) → IfFine o One → IfFine o Other
fine-weaker (Fine n) One Other h w = h n w
fine-weaker (Raise text n) One Other h w = w
fine-weaker Limit One Other h w = w
fine-weaker Starved One Other h w = w
fine-weaker NoMemory One Other h w = w

given-weaker : (b : Bool) (One Other More None' : Type 0) → (One → Other) → IfGiven b (More × One) None' → IfGiven b (More × Other) None'
given-weaker true One Other More None' h w = (w.0, h w.1)
given-weaker false One Other More None' h w = w

pub valued-closed : (value : ℕ → Option Value) (t : BranchCourse) (left : ℕ) (given : List ℕ) → Valued value false left given t → Valued value true left given (closed t)
valued-closed value Over left given w = w
valued-closed value (Breaks h) left given w = w
valued-closed value (Steps t) zero given w = w
valued-closed value (Steps t) (suc left) given w = valued-closed value t left given w
valued-closed value (Finds hold t) left given w = w
valued-closed value (Awaits c o t) left given w =
    given-weaker (has c given) (Valued value false left given t) (Valued value true left given (closed t)) (IsGiven o (value c)) (value c ≡ None) (valued-closed value t left given) w
valued-closed value (Gives c v t) left given w = (w.0, valued-closed value t left given w.1)
valued-closed value (Forks i x kids t) left given w = (
  w.0,
  fine-weaker (joined left (ends (kid_scripts left given x kids))) _ _
      (λ n. valued-closed (told_values value (fork_cells left given x kids)) t (left - n) (without (names x.cells) given ++ all_signalled (kid_scripts left given x kids))) w.1,
)
