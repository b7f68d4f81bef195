-- The code of goals. Each goal's code stands in front of the code that follows it. The marks of goals are numbered by how deep they are nested. Conjuncts that are
-- forked at a site have code of their own.
use Rattle.std.specs.Prelude.{ℕ, suc, ◌+◌, Bool, true, false, not, ◌&&◌, List, [], ◌∷◌, length, Option, Some, None, if◌then◌else◌}
use Rattle.std.specs.Option.{option_map}
use Rattle.merc_goal_tree.specs.declared.goal.Symbol.{Symbol}
use Rattle.merc_goal_tree.specs.declared.goal.Symbol.TheVariants.{Integer as IntegerSymbol, Text as TextSymbol}
use Rattle.merc_graded_tree.specs.declared.basic.BasicGoal.{BasicGoal}
use Rattle.merc_graded_tree.specs.declared.basic.BasicGoal.TheVariants.{True, Fail as FailGoal, Assign, Test as TestGoal, Build as BuildGoal, Split as SplitGoal, Arithmetic as ArithmeticGoal, Compare as CompareGoal, Raise as RaiseGoal, Call as CallGoal, Wait as WaitGoal, Signal as SignalGoal}
use Rattle.merc_graded_tree.specs.declared.basic.Procedure.{Procedure}
use Rattle.merc_graded_tree.specs.declared.entries.Running.TheVariants.{Sequential, Parallel}
use Rattle.merc_graded_tree.specs.Nodes.{Node, node, Goal, Basic, Conjunction, Disjunction, Switch as SwitchGoal, Conditional, Negation, Quantified, Nodes, no_nodes, more_nodes, Arms, no_arms, more_arms}
use Rattle.merc_meaning.specs.Runs.{Program, ProcedureBody, answers_once}
use Rattle.merc_course.specs.Variables.{node_variables}
use Rattle.merc_code.specs.declared.instruction.Instruction.{Instruction}
use Rattle.merc_code.specs.declared.instruction.Instruction.TheVariants.{Integer, Text, Copy, Build, Split, Literal, Test, Arithmetic, Compare, Raise, Jump, Switch, Try, Mark, Commit, Soften, Call, Return, Fail, Answer, Fork, Wait, Signal, Close}
use Rattle.merc_code.specs.declared.instruction.Target.{Target}
use Rattle.merc_code.specs.Steps.{Code, ProcedureCode, ConjunctCode, Codes}
use Rattle.merc_gen.specs.Sites.{Sites}

-- a symbol over no arguments that is an integer or a text is a literal
abbrev pub build_code : ℕ → Symbol → List ℕ → Instruction
build_code whole (IntegerSymbol number) [] = Integer whole number
build_code whole (TextSymbol text) [] = Text whole text
build_code whole symbol arguments = Build whole symbol arguments

abbrev pub split_code : ℕ → Symbol → List ℕ → Instruction
split_code whole (IntegerSymbol number) [] = Literal whole (IntegerSymbol number)
split_code whole (TextSymbol text) [] = Literal whole (TextSymbol text)
split_code whole symbol arguments = Split whole symbol arguments

abbrev pub basic_code : BasicGoal → Code → Code
basic_code True rest = rest
basic_code FailGoal rest = Fail ∷ rest
basic_code (Assign to from) rest = Copy to from ∷ rest
basic_code (TestGoal one other) rest = Test one other ∷ rest
basic_code (BuildGoal whole symbol arguments) rest = build_code whole symbol arguments ∷ rest
basic_code (SplitGoal whole symbol arguments) rest = split_code whole symbol arguments ∷ rest
basic_code (ArithmeticGoal operation result one other) rest = Arithmetic operation result one other ∷ rest
basic_code (CompareGoal comparison one other) rest = Compare comparison one other ∷ rest
basic_code (RaiseGoal text) rest = Raise text ∷ rest
basic_code (CallGoal procedure arguments) rest = Call procedure arguments ∷ rest
basic_code (WaitGoal variable conjunct) rest = Wait variable ∷ rest
basic_code (SignalGoal variable conjunct) rest = Signal variable ∷ rest

-- behind a condition: its choice points are dropped where it answers once, else only the else part's choice point
abbrev pub leaving : Bool → ℕ → Instruction
leaving true mark = Commit mark
leaving false mark = Soften mark

abbrev pub are_none : Nodes → Bool
are_none no_nodes = true
are_none (more_nodes first rest) = false

abbrev pub are_no_arms : Arms → Bool
are_no_arms no_arms = true
are_no_arms (more_arms symbol body rest) = false

abbrev pub is_once : Node → Bool
is_once (node goal outputs category span) = answers_once outputs category

-- Given is which procedures leave no choice point behind.
module _ (single : Procedure → Bool) where
  abbrev pub basic_quiet : BasicGoal → Bool
  basic_quiet (CallGoal procedure arguments) = single procedure
  basic_quiet goal = true

  -- Goals that leave no choice point behind.
  abbrev mutual
    pub quiet : Goal → Bool
    quiet (Basic goal) = basic_quiet goal
    quiet (Conjunction running goals) = all_quiet goals
    quiet (Disjunction goals) = any_quiet goals
    quiet (SwitchGoal variable arms) = arms_quiet arms
    quiet (Conditional condition then_part else_part) = is_once condition && (node_quiet then_part && node_quiet else_part)
    quiet (Negation goal) = true
    quiet (Quantified own goal) = node_quiet goal

    -- one that answers once drops them
    pub node_quiet : Node → Bool
    node_quiet (node goal outputs category span) = if answers_once outputs category then true else quiet goal

    pub all_quiet : Nodes → Bool
    all_quiet no_nodes = true
    all_quiet (more_nodes first rest) = node_quiet first && all_quiet rest

    -- the last disjunct makes no choice point, each before it makes one
    pub any_quiet : Nodes → Bool
    any_quiet no_nodes = true
    any_quiet (more_nodes first rest) = are_none rest && node_quiet first

    pub arms_quiet : Arms → Bool
    arms_quiet no_arms = true
    arms_quiet (more_arms symbol body rest) = node_quiet body && arms_quiet rest

  -- The code of a goal, whose own marks have numbers from `mark` on, in front of the rest.
  abbrev mutual
    pub goal_code : Goal → ℕ → Code → Code
    goal_code (Basic goal) mark rest = basic_code goal rest
    goal_code (Conjunction Sequential goals) mark rest = all_code goals mark rest
    goal_code (Conjunction (Parallel None) goals) mark rest = all_code goals mark rest
    goal_code (Conjunction (Parallel (Some site)) goals) mark rest = Fork site ∷ rest
    goal_code (Disjunction goals) mark rest = any_code goals mark rest
    goal_code (SwitchGoal variable arms) mark rest = Switch variable (targets arms mark 0) ∷ arms_code arms mark rest
    goal_code (Conditional condition then_part else_part) mark rest =
        Mark mark
        ∷ Try (length (condition_code condition mark (node_code then_part mark (Jump (length (node_code else_part mark [])) ∷ []))))
        ∷ condition_code condition mark (node_code then_part mark (Jump (length (node_code else_part mark [])) ∷ node_code else_part mark rest))
    goal_code (Negation goal) mark rest = Mark mark ∷ Try (length (negated_code goal mark [])) ∷ negated_code goal mark rest
    goal_code (Quantified own goal) mark rest = node_code goal mark rest

    -- choice points of a goal that answers once are dropped behind it, if it leaves any
    pub node_code : Node → ℕ → Code → Code
    node_code (node goal outputs category span) mark rest =
        if answers_once outputs category && not (quiet goal) then Mark mark ∷ goal_code goal (suc mark) (Commit mark ∷ rest) else goal_code goal mark rest

    -- a condition behind its mark and the else part's choice point
    pub condition_code : Node → ℕ → Code → Code
    condition_code (node goal outputs category span) mark rest = goal_code goal (suc mark) (leaving (answers_once outputs category) mark ∷ rest)

    -- a negated goal behind its mark and the choice point with which what follows goes on
    pub negated_code : Node → ℕ → Code → Code
    negated_code (node goal outputs category span) mark rest = goal_code goal (suc mark) (Commit mark ∷ Fail ∷ rest)

    pub all_code : Nodes → ℕ → Code → Code
    all_code no_nodes mark rest = rest
    all_code (more_nodes first others) mark rest = node_code first mark (all_code others mark rest)

    -- each disjunct but the last has a choice point that goes on with the others
    pub any_code : Nodes → ℕ → Code → Code
    any_code no_nodes mark rest = Fail ∷ rest
    any_code (more_nodes first others) mark rest =
        if are_none others
        then node_code first mark rest
        else Try (suc (length (node_code first mark []))) ∷ node_code first mark (Jump (length (any_code others mark [])) ∷ any_code others mark rest)

    pub arms_code : Arms → ℕ → Code → Code
    arms_code no_arms mark rest = rest
    arms_code (more_arms symbol body others) mark rest =
        if are_no_arms others then node_code body mark rest else node_code body mark (Jump (length (arms_code others mark [])) ∷ arms_code others mark rest)

    -- where the arms begin, behind so many instructions
    pub targets : Arms → ℕ → ℕ → List Target
    targets no_arms mark skipped = []
    targets (more_arms symbol body others) mark skipped =
        record { symbol = symbol; skipped = skipped } ∷ targets others mark (skipped + suc (length (node_code body mark [])))

  abbrev pub procedure_code : ProcedureBody → ProcedureCode
  procedure_code procedure = record { places = procedure.places; code = node_code procedure.body 0 (Return ∷ []) }

  -- a conjunct that is forked is a goal by itself, in a frame of its own
  abbrev pub conjunct_code : Node → ConjunctCode
  conjunct_code goal = record { used = node_variables goal; code = node_code goal 0 (Close ∷ []) }

  abbrev pub conjunct_codes : Nodes → List ConjunctCode
  conjunct_codes no_nodes = []
  conjunct_codes (more_nodes first rest) = conjunct_code first ∷ conjunct_codes rest

-- a procedure leaves no choice point behind where its body answers once
abbrev pub is_single : Option ProcedureBody → Bool
is_single None = false
is_single (Some procedure) = is_once procedure.body

-- Given is the program.
module _ (program : Program) where
  -- the code of its procedures and of the conjuncts that stand at these sites
  abbrev pub codes_of : Sites → Codes
  codes_of sites = record {
    procedures = λ procedure. option_map (procedure_code (λ called. is_single (program called))) (program procedure);
    conjuncts = λ site. conjunct_codes (λ called. is_single (program called)) (sites site);
  }

  -- the code of a goal that answers with the values of these variables
  abbrev pub query_code : Node → List ℕ → Code
  query_code goal variables = node_code (λ called. is_single (program called)) goal 0 (Answer variables ∷ [])
