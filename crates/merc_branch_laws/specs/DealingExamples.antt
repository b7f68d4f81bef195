-- Worked examples of rights that find the cells of scripts, at the script of `X = 1 & Y = X`.
use Rattle.std.specs.Prelude.{◌≡◌, ℕ, List, [], ◌∷◌, true, false, Option, Some, None, refl}
use Rattle.std.proofs.Common.{ap, arith}
use Rattle.merc_value.specs.Value.{Value}
use Rattle.merc_meaning.specs.Trace.{RunDone, RunRaised, LimitPassed}
use Rattle.merc_script.specs.declared.outcome.Outcome.{Outcome}
use Rattle.merc_script.specs.declared.outcome.Outcome.TheVariants.{Ok as Fine, Raise, Limit, Starved}
use Rattle.merc_script.specs.declared.cells.Move.{Move}
use Rattle.merc_script.specs.Script.{Script, Ends, TickThen, WaitThen, SignalThen, ForkThen, NoChild, Child, Cell}
use Rattle.merc_core.specs.WellFormed.{cells_of, value_in}
use Rattle.merc_course.specs.Course.{RunCourse, Ends as CourseEnds, Tick, Meets, AtWait, AtSignal, AtFork, no_courses, more_courses}
use Rattle.merc_course.specs.Courses.{course}
use Rattle.merc_rights.specs.declared.sites.SiteInfo.{SiteInfo}
use Rattle.merc_board.specs.Rights.{Due, Owed, Rights, no_rights}
use Rattle.merc_plan.specs.PlaysExamples.{one, both, program}
use Rattle.merc_carried.specs.Sharing.{given_of, IsForkOf}
use Rattle.merc_branch_laws.specs.Dealing.{moves_of, Deals, done, raised, limited, ticks, answers, waits, starves, hands, goes_on, ends_there, deal_none, deal_more}

abbrev due : ℕ → ℕ → Due
due variable cell = record { variable = variable; cell = cell }

abbrev owed : ℕ → ℕ → ℕ → Owed
owed variable consumer cell = record { variable = variable; consumer = consumer; cell = cell }

abbrev cell : ℕ → ℕ → ℕ → Option Value → Cell
cell number producer consumer value = record { cell = number; producer = producer; consumer = consumer; value = value }

-- the script, of which X has the cell 5 and Y the cell 6
abbrev own : List Cell
own = cell 5 1 2 (Some one) ∷ cell 6 2 0 (Some one) ∷ []

abbrev both_script : Script
both_script = ForkThen 3 own [] (Child (SignalThen 5 (Ends (Fine 0))) (Child (WaitThen 5 (SignalThen 6 (Ends (Fine 0)))) NoChild)) (WaitThen 6 (Ends (Fine 0)))

abbrev values : ℕ → Option Value
values = value_in (cells_of both_script)

-- what stands at the site of its `&`, where X is variable 0 and Y is variable 1

abbrev info : SiteInfo
info = record {
  children = 2;
  cells = record { variable = 0; producer = 1; consumer = 2 } ∷ record { variable = 1; producer = 2; consumer = 0 } ∷ [];
  moves = [];
}

-- a site where the rights to signal variable 4 move into the second conjunct, and those to wait for it into the first
abbrev moving : SiteInfo
moving = record {
  children = 2;
  cells = [];
  moves = record { variable = 4; child = 2; signal = true } ∷ record { variable = 4; child = 1; signal = false } ∷ [];
}

abbrev had : Rights
had = record { waits = due 4 1 ∷ due 3 2 ∷ []; signals = owed 4 0 7 ∷ owed 4 3 8 ∷ [] }

moves_of-example : moves_of (given_of moving) had
    ≡ record { cell = 7; child = 2; signal = true } ∷ record { cell = 8; child = 2; signal = true } ∷ record { cell = 1; child = 1; signal = false } ∷ []
moves_of-example = refl

-- the right to wait for variable 3 stays
moves_of-not : moves_of (given_of moving) had ≡ [] → ⊥
moves_of-not none = cc

-- what stands at the sites of the program
abbrev sites : List SiteInfo
sites = info ∷ []

abbrev both-fork : IsForkOf info own (Child (SignalThen 5 (Ends (Fine 0))) (Child (WaitThen 5 (SignalThen 6 (Ends (Fine 0)))) NoChild))
both-fork = record { are_cells = record { producers = refl; consumers = refl }; same_count = refl; some = omega arith; few = omega arith }

-- the course deals its rights as the site says
both-deals : Deals sites values no_rights 3 0 (course program both 3) both_script
both-deals =
    goes_on no_rights 3 0 0 0 info own [] _ _ _ _ refl both-fork refl
    (deal_more _ _ _ _ _ _ _ _ _ (hands _ _ _ 0 (owed 0 2 5) [] one _ _ _ refl refl (done _ _ _))
    (deal_more _ _ _ _ _ _ _ _ _ (waits _ _ _ 0 5 [] one _ _ _ refl refl (hands _ _ _ 1 (owed 1 0 6) [] one _ _ _ refl refl (done _ _ _))) (deal_none _ _ _ _ _))) refl
    (waits _ _ _ 1 6 [] one _ _ _ refl refl (answers _ _ _ _ _ _ (done _ _ _)))

-- Small scripts. Of two rights to wait for variable 0 the first is used, which is for cell 5.

abbrev waiting : RunCourse
waiting = Meets (AtWait 0) no_courses (λ reply. CourseEnds RunDone)

abbrev two_waits : Rights
two_waits = record { waits = due 0 5 ∷ due 0 6 ∷ []; signals = [] }

waits-first : Deals sites values two_waits 3 2 waiting (WaitThen 5 (Ends (Fine 2)))
waits-first = waits two_waits 3 2 0 5 (due 0 6 ∷ []) one _ _ _ refl refl (done _ _ _)

abbrev cell_found : Option (ℕ × List Due) → ℕ
cell_found None = 0
cell_found (Some found) = found.0

waits-second : Deals sites values two_waits 3 2 waiting (WaitThen 6 (Ends (Fine 2))) → ⊥
waits-second (waits _ _ _ _ _ _ _ _ _ _ found _ _) = absurd (let wrong : ◌≡◌ {A = ℕ} 5 6 = ap cell_found found in cc (wrong))

-- without a right nothing is found
waits-none : Deals sites values no_rights 3 2 waiting (WaitThen 5 (Ends (Fine 2))) → ⊥
waits-none (waits _ _ _ _ _ _ _ _ _ _ found _ _) = cc (found)

-- cell 7 has no value
starves-deals : Deals sites values (record { waits = due 0 7 ∷ []; signals = [] }) 3 2 waiting (WaitThen 7 (Ends Starved))
starves-deals = starves _ 3 2 0 7 [] _ _ refl refl

starves-not : Deals sites values two_waits 3 2 waiting (WaitThen 5 (Ends Starved)) → ⊥
starves-not (waits _ _ _ _ _ _ _ _ _ _ _ _ behind) = elim behind [ ]
starves-not (starves _ _ _ _ _ _ _ _ _ none) = cc (none)

-- of two rights to signal it is the one for the conjunct that comes sooner
abbrev signalling : RunCourse
signalling = Meets (AtSignal 0 one) no_courses (λ reply. CourseEnds RunDone)

abbrev two_signals : Rights
two_signals = record { waits = []; signals = owed 0 0 6 ∷ owed 0 2 5 ∷ [] }

hands-sooner : Deals sites values two_signals 3 2 signalling (SignalThen 5 (Ends (Fine 2)))
hands-sooner = hands two_signals 3 2 0 (owed 0 2 5) (owed 0 0 6 ∷ []) one _ _ _ refl refl (done _ _ _)

-- the steps that are left and that were made

ticks-counted : Deals sites values no_rights 1 4 (Tick (CourseEnds LimitPassed)) (TickThen (Ends Limit))
ticks-counted = ticks no_rights 0 4 _ _ (limited no_rights 0 5)

ticks-none_left : Deals sites values no_rights 0 4 (Tick (CourseEnds LimitPassed)) (TickThen (Ends Limit)) → ⊥
ticks-none_left deals = elim deals [ ]

done-otherwise : Deals sites values no_rights 3 2 (CourseEnds RunDone) (Ends (Fine 1)) → ⊥
done-otherwise deals = elim deals [ ]

-- A child raises: the branch ends so, behind its own steps.

abbrev raising : RunCourse
raising = Meets (AtFork 0) (more_courses (CourseEnds RunDone) (more_courses (CourseEnds (RunRaised 8)) no_courses)) (λ reply. CourseEnds RunDone)

abbrev raising_script : ℕ → Outcome → Script
raising_script limit end = ForkThen limit own [] (Child (Ends (Fine 0)) (Child (Ends (Raise 8 0)) NoChild)) (Ends end)

abbrev raising_fork : IsForkOf info own (Child (Ends (Fine 0)) (Child (Ends (Raise 8 0)) NoChild))
raising_fork = record { are_cells = record { producers = refl; consumers = refl }; same_count = refl; some = omega arith; few = omega arith }

raising-deals : Deals sites values no_rights 3 2 raising (raising_script 3 (Raise 8 2))
raising-deals =
    ends_there no_rights 3 2 0 info own [] _ _ _ (Raise 8 2) refl raising_fork refl
    (deal_more _ _ _ _ _ _ _ _ _ (done _ _ _) (deal_more _ _ _ _ _ _ _ _ _ (raised _ _ _ _) (deal_none _ _ _ _ _))) (λ steps fine. absurd (cc (fine))) refl

-- not as if it had made no steps before, and not with another limit than the steps that are left
raising-otherwise : Deals sites values no_rights 3 2 raising (raising_script 3 (Raise 8 0)) → ⊥
raising-otherwise (goes_on _ _ _ _ _ _ _ _ _ _ _ _ _ _ _ _ joins _) = absurd (cc (joins))
raising-otherwise (ends_there _ _ _ _ _ _ _ _ _ _ _ _ _ _ _ _ later_is) = absurd (cc (later_is))

raising-limit : Deals sites values no_rights 3 2 raising (raising_script 2 (Raise 8 2)) → ⊥
raising-limit deals = elim deals [ ]

-- There is no site of this number, and a right that moves there makes a move.

abbrev elsewhere : RunCourse
elsewhere = Meets (AtFork 1) (more_courses (CourseEnds RunDone) (more_courses (CourseEnds RunDone) no_courses)) (λ reply. CourseEnds RunDone)

abbrev two_done : List Move → List Cell → Script
two_done moves cells = ForkThen 3 cells moves (Child (Ends (Fine 0)) (Child (Ends (Fine 0)) NoChild)) (Ends (Fine 2))

unplanned-not : Deals sites values no_rights 3 2 elsewhere (two_done [] own) → ⊥
unplanned-not (goes_on _ _ _ _ _ _ _ _ _ _ _ _ planned _ _ _ _ _) = absurd (cc (planned))
unplanned-not (ends_there _ _ _ _ _ _ _ _ _ _ _ planned _ _ _ _ _) = absurd (cc (planned))

moves-deal : Deals (info ∷ moving ∷ []) values had 3 2 elsewhere
    (two_done (record { cell = 7; child = 2; signal = true } ∷ record { cell = 8; child = 2; signal = true } ∷ record { cell = 1; child = 1; signal = false } ∷ []) [])
moves-deal =
    goes_on had 3 2 0 1 moving [] _ _ _ _ _ refl (record { are_cells = record { producers = refl; consumers = refl }; same_count = refl; some = omega arith; few = omega arith }) refl
    (deal_more _ _ _ _ _ _ _ _ _ (done _ _ _) (deal_more _ _ _ _ _ _ _ _ _ (done _ _ _) (deal_none _ _ _ _ _))) refl (done _ _ _)

moves-not : Deals (info ∷ moving ∷ []) values had 3 2 elsewhere (two_done [] []) → ⊥
moves-not (goes_on _ _ _ _ _ _ _ _ _ _ _ _ planned _ moves _ _ _) = absurd (cc (planned, moves))
moves-not (ends_there _ _ _ _ _ _ _ _ _ _ _ planned _ moves _ _ _) = absurd (cc (planned, moves))
