-- The courses of branches: what goals do beside others, where what others give is known. As courses of goals, but that a wait goes on with the value that comes
-- through its cell, a signal gives it, and a conjunct begins with what conjuncts to the left give.
use Rattle.std.specs.Prelude.{ℕ, suc, zero, Bool, true, false, List, [], ◌++◌, Option, Some, None}
use Rattle.merc_value.specs.Value.{Value, Values}
use Rattle.merc_goal_tree.specs.declared.goal.Symbol.{Symbol}
use Rattle.merc_graded_tree.specs.declared.basic.BasicGoal.{BasicGoal}
use Rattle.merc_graded_tree.specs.declared.basic.BasicGoal.TheVariants.{True, Fail, Assign, Test, Build, Split, Arithmetic, Compare, Raise, Call, Wait, Signal}
use Rattle.merc_graded_tree.specs.declared.basic.Procedure.{Procedure}
use Rattle.merc_graded_tree.specs.declared.entries.Running.TheVariants.{Sequential, Parallel}
use Rattle.merc_graded_tree.specs.Nodes.{Node, node, Goal, Basic, Conjunction, Disjunction, Switch, Conditional, Negation, Quantified, Nodes, no_nodes, more_nodes, Arms, no_arms, more_arms}
use Rattle.merc_meaning.specs.Values.{fields, same}
use Rattle.merc_meaning.specs.Arithmetic.{comparison_of}
use Rattle.merc_meaning.specs.Trace.{Trace, Ends, Tick, Answer, Done, Raised as RaisedEnd, TooDeep as TooDeepEnd}
use Rattle.merc_meaning.specs.Steps.{value_at, with_entry, values_at, made_if, binds, compared, split, operated, raised, entered, brought_back}
use Rattle.merc_meaning.specs.Runs.{Program, ProcedureBody, answers_once}
use Rattle.merc_rights.specs.declared.sites.SiteInfo.{SiteInfo}
use Rattle.merc_plan.specs.Branch.{HeldWait, HeldSignal, Hold, Gift, BranchCourse, BranchCourses, Over, Breaks, Steps, Finds, Awaits, Gives, Forks, no_branches, more_branches, Raised, TooDeep, Starving, after, each, taken_back, first_alone, choose, negated, gives}
use Rattle.merc_plan.specs.Hold.{holding, with_env, wait_for, without_wait, signal_for, without_signal, fork_of, conjunct_hold, hold_behind}

-- one answer and no more
abbrev pub one_answer : Hold → BranchCourse
one_answer hold = Finds hold Over

-- the trace of a goal that meets nobody, by a branch that has this
abbrev pub traced : Hold → Trace → BranchCourse
traced hold (Ends Done) = Over
traced hold (Ends (RaisedEnd text)) = Breaks (Raised text)
traced hold (Ends TooDeepEnd) = Breaks TooDeep
traced hold (Tick rest) = Steps (traced hold rest)
traced hold (Answer env rest) = Finds (with_env hold env) (traced hold rest)

-- Behind a wait the variable has the value that is given, and the right is used. No goal waits without a right.
abbrev pub awaited : Hold → ℕ → Option HeldWait → BranchCourse
awaited hold variable None = Awaits 0 None (Breaks Starving)
awaited hold variable (Some right) = awaited_value hold variable right.cell right.value where
  awaited_value : Hold → ℕ → ℕ → Option Value → BranchCourse
  awaited_value hold variable cell None = Awaits cell None (Breaks Starving)
  awaited_value hold variable cell (Some value) =
      Awaits cell (Some value)
      (one_answer (record { env = with_entry hold.env variable (Some value); waits = without_wait variable hold.waits; signals = hold.signals; next = hold.next }))

abbrev pub signal_cell : Option HeldSignal → ℕ
signal_cell None = 0
signal_cell (Some right) = right.cell

-- A signal gives the variable's value through the cell of the right that is used. Without a value the goal fails; no goal signals without a right.
abbrev pub signalled : Hold → ℕ → Option Value → BranchCourse
signalled hold cell None = Over
signalled hold cell (Some value) =
    Gives cell value (one_answer (record { env = hold.env; waits = hold.waits; signals = without_signal cell hold.signals; next = hold.next }))

abbrev pub once_if : Bool → BranchCourse → BranchCourse
once_if false course = course
once_if true course = first_alone course

-- A call of a procedure that is there; one that is not there fails. The body begins with the inputs' values and no rights.
abbrev pub called : (Hold → BranchCourse) → Option ProcedureBody → List ℕ → Hold → BranchCourse
called call None arguments hold = Over
called call (Some procedure) arguments hold =
    taken_back (λ inner. with_env hold (brought_back procedure.places arguments (value_at inner.env) hold.env)) (call (holding (entered procedure.places arguments hold.env) hold.next))

-- one course where a value has the symbol, else the other
abbrev pub where_some : Option Values → BranchCourse → BranchCourse → BranchCourse
where_some None taken others = others
where_some (Some arguments) taken others = taken

abbrev pub taken_arm : Option Value → Symbol → BranchCourse → BranchCourse → BranchCourse
taken_arm None symbol taken others = Over
taken_arm (Some value) symbol taken others = where_some (fields symbol value) taken others

-- what stands at a site that there is not
abbrev pub no_site : SiteInfo
no_site = record { children = 0; cells = []; moves = [] }

abbrev pub info_of : Option SiteInfo → SiteInfo
info_of None = no_site
info_of (Some info) = info

-- what stands at each site of a program
abbrev pub Plan : Type 0
Plan = ℕ → Option SiteInfo

-- Given are the plan, the procedures, and the course of each procedure's body.
module _ (plan : Plan) (program : Program) (call : Procedure → Hold → BranchCourse) where
  abbrev pub basic_branch : BasicGoal → Hold → BranchCourse
  basic_branch True hold = one_answer hold
  basic_branch Fail hold = Over
  basic_branch (Assign to from) hold = traced hold (binds hold.env to (value_at hold.env from))
  basic_branch (Test one other) hold = traced hold (compared hold.env same (value_at hold.env one) (value_at hold.env other))
  basic_branch (Build root symbol arguments) hold = traced hold (binds hold.env root (made_if symbol (values_at hold.env arguments)))
  basic_branch (Split root symbol arguments) hold = traced hold (split hold.env symbol arguments (value_at hold.env root))
  basic_branch (Arithmetic operation result left right) hold = traced hold (operated hold.env operation result (value_at hold.env left) (value_at hold.env right))
  basic_branch (Compare test left right) hold = traced hold (compared hold.env (comparison_of test) (value_at hold.env left) (value_at hold.env right))
  basic_branch (Raise text) hold = traced hold (raised (value_at hold.env text))
  basic_branch (Call procedure arguments) hold = called (call procedure) (program procedure) arguments hold
  basic_branch (Wait variable conjunct) hold = awaited hold variable (wait_for variable hold.waits)
  basic_branch (Signal variable conjunct) hold = signalled hold (signal_cell (signal_for variable hold.signals)) (value_at hold.env variable)

  abbrev mutual
    pub goal_branch : Goal → Hold → BranchCourse
    goal_branch (Basic goal) hold = basic_branch goal hold
    goal_branch (Conjunction Sequential goals) hold = all_branch goals hold
    goal_branch (Conjunction (Parallel None) goals) hold = all_branch goals hold
    goal_branch (Conjunction (Parallel (Some site)) goals) hold =
        let info = info_of (plan site.number) in
        Forks site.number (fork_of info goals hold) (conjunct_branches info hold 1 goals []) (one_answer (hold_behind info hold (conjunct_gifts info hold 1 goals [])))
    goal_branch (Disjunction goals) hold = any_branch goals hold
    goal_branch (Switch variable arms) hold = arms_branch arms (value_at hold.env variable) hold
    goal_branch (Conditional condition then_part else_part) hold =
        choose (λ inner. node_branch then_part inner) (node_branch else_part hold) (node_branch condition hold)
    goal_branch (Negation goal) hold = negated hold (node_branch goal hold)
    goal_branch (Quantified own goal) hold = node_branch goal hold

    pub node_branch : Node → Hold → BranchCourse
    node_branch (node goal outputs category span) hold = once_if (answers_once outputs category) (goal_branch goal hold)

    -- each answer of the first goal is replaced by the course of the others
    pub all_branch : Nodes → Hold → BranchCourse
    all_branch no_nodes hold = one_answer hold
    all_branch (more_nodes first rest) hold = each (λ inner. all_branch rest inner) (node_branch first hold)

    pub any_branch : Nodes → Hold → BranchCourse
    any_branch no_nodes hold = Over
    any_branch (more_nodes first rest) hold = after (node_branch first hold) (any_branch rest hold)

    -- the arm of the value's symbol; a value without an arm fails
    pub arms_branch : Arms → Option Value → Hold → BranchCourse
    arms_branch no_arms value hold = Over
    arms_branch (more_arms symbol body rest) value hold = taken_arm value symbol (node_branch body hold) (arms_branch rest value hold)

    -- The conjuncts from this number on, where those to the left have given this. Each begins with what it uses of the values before all conjuncts, and with its rights.
    pub conjunct_branches : SiteInfo → Hold → ℕ → Nodes → List Gift → BranchCourses
    conjunct_branches info hold number no_nodes given = no_branches
    conjunct_branches info hold number (more_nodes first rest) given =
        more_branches (node_branch first (conjunct_hold info number first hold given))
        (conjunct_branches info hold (suc number) rest (given ++ gives (node_branch first (conjunct_hold info number first hold given))))

    -- what they give in all
    pub conjunct_gifts : SiteInfo → Hold → ℕ → Nodes → List Gift → List Gift
    conjunct_gifts info hold number no_nodes given = given
    conjunct_gifts info hold number (more_nodes first rest) given =
        conjunct_gifts info hold (suc number) rest (given ++ gives (node_branch first (conjunct_hold info number first hold given)))

abbrev pub body_branch : Plan → Program → (Procedure → Hold → BranchCourse) → Option ProcedureBody → Hold → BranchCourse
body_branch plan program call None hold = Over
body_branch plan program call (Some procedure) hold = node_branch plan program call procedure.body hold

-- the course of a call, up to this depth of calls: one step, then the procedure's body
abbrev pub call_branch : Plan → Program → ℕ → Procedure → Hold → BranchCourse
call_branch plan program zero procedure hold = Breaks TooDeep
call_branch plan program (suc depth) procedure hold = Steps (body_branch plan program (call_branch plan program depth) (program procedure) hold)

-- Names of cells begin at 1; what waits or signals without a right names 0.
abbrev pub first_name : ℕ
first_name = 1

-- the course of a goal that is asked, which holds nothing, up to this depth of calls
abbrev pub root_branch : Plan → Program → ℕ → Node → BranchCourse
root_branch plan program depth goal = node_branch plan program (call_branch plan program depth) goal (holding [] first_name)
