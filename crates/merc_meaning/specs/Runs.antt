-- What ordered goals mean: the strict sequential run, as the language's reference manual has it.
use Rattle.std.specs.Prelude.{ℕ, suc, zero, Bool, true, false, List, [], ◌∷◌, Option, Some, None, if◌then◌else◌}
use Rattle.merc_base.specs.Category.{most_of}
use Rattle.merc_base.specs.declared.category.Category.{Category}
use Rattle.merc_base.specs.declared.category.Most.{Most}
use Rattle.merc_base.specs.declared.category.Most.TheVariants.{Zero, One, Many}
use Rattle.merc_tree.specs.declared.declarations.Arg.{Arg}
use Rattle.merc_value.specs.Value.{Value, Values}
use Rattle.merc_goal_tree.specs.declared.goal.Symbol.{Symbol}
use Rattle.merc_graded_tree.specs.declared.basic.BasicGoal.{BasicGoal}
use Rattle.merc_graded_tree.specs.declared.basic.BasicGoal.TheVariants.{True, Fail, Assign, Test, Build, Split, Arithmetic, Compare, Raise, Call, Wait, Signal}
use Rattle.merc_graded_tree.specs.declared.basic.Procedure.{Procedure}
use Rattle.merc_graded_tree.specs.Nodes.{Node, node, Goal, Basic, Conjunction, Disjunction, Switch, Conditional, Negation, Quantified, Nodes, no_nodes, more_nodes, Arms, no_arms, more_arms}
use Rattle.merc_meaning.specs.Values.{fields, same}
use Rattle.merc_meaning.specs.Arithmetic.{comparison_of}
use Rattle.merc_meaning.specs.Trace.{Env, Trace, Run, Ends, Tick, Done, TooDeep, one_answer, after, each, taken_back, first_alone, choose, negated, cut}
use Rattle.merc_meaning.specs.Steps.{value_at, values_at, made_if, binds, compared, split, operated, raised, entered, brought_back}

-- A procedure's body, with how it has each argument. The arguments are the body's first variables.
pub record ProcedureBody : Type 0 where
  pub places : List Arg
  pub body : Node

-- the procedures of a program, those that are there
abbrev pub Program : Type 0
Program = Procedure → Option ProcedureBody

abbrev pub is_at_most_one : Most → Bool
is_at_most_one Zero = true
is_at_most_one One = true
is_at_most_one Many = false

-- A goal without outputs, or with at most one solution by its category, is not entered again after it answered.
abbrev pub answers_once : List ℕ → Option Category → Bool
answers_once [] category = true
answers_once (output ∷ outputs) None = false
answers_once (output ∷ outputs) (Some category) = is_at_most_one (most_of category)

abbrev pub once_if : Bool → Trace → Trace
once_if false trace = trace
once_if true trace = first_alone trace

-- a call of a procedure that is there; one that is not there fails
abbrev pub called : (Env → Trace) → Option ProcedureBody → List ℕ → Env → Trace
called call None arguments env = Ends Done
called call (Some procedure) arguments env =
    taken_back (λ inner. brought_back procedure.places arguments (value_at inner) env) (call (entered procedure.places arguments env))

-- one trace where a value has the symbol, else the other
abbrev pub where_some : Option Values → Trace → Trace → Trace
where_some None taken others = others
where_some (Some arguments) taken others = taken

abbrev pub taken_arm : Option Value → Symbol → Trace → Trace → Trace
taken_arm None symbol taken others = Ends Done
taken_arm (Some value) symbol taken others = where_some (fields symbol value) taken others

-- Given are the procedures, and the trace of each procedure's body. Conjuncts that run side by side mean what they do one after the other, so that what
-- is waited for is there: a wait and a signal pass.
module _ (program : Program) (call : Procedure → Env → Trace) where
  abbrev pub basic_trace : BasicGoal → Env → Trace
  basic_trace True env = one_answer env
  basic_trace Fail env = Ends Done
  basic_trace (Assign to from) env = binds env to (value_at env from)
  basic_trace (Test one other) env = compared env same (value_at env one) (value_at env other)
  basic_trace (Build whole symbol arguments) env = binds env whole (made_if symbol (values_at env arguments))
  basic_trace (Split whole symbol arguments) env = split env symbol arguments (value_at env whole)
  basic_trace (Arithmetic operation result left right) env = operated env operation result (value_at env left) (value_at env right)
  basic_trace (Compare test left right) env = compared env (comparison_of test) (value_at env left) (value_at env right)
  basic_trace (Raise text) env = raised (value_at env text)
  basic_trace (Call procedure arguments) env = called (call procedure) (program procedure) arguments env
  basic_trace (Wait variable conjunct) env = one_answer env
  basic_trace (Signal variable conjunct) env = one_answer env

  abbrev mutual
    pub goal_trace : Goal → Env → Trace
    goal_trace (Basic goal) env = basic_trace goal env
    goal_trace (Conjunction running goals) env = all_trace goals env
    goal_trace (Disjunction goals) env = any_trace goals env
    goal_trace (Switch variable arms) env = arms_trace arms (value_at env variable) env
    goal_trace (Conditional condition then_part else_part) env = choose (λ inner. node_trace then_part inner) (node_trace else_part env) (node_trace condition env)
    goal_trace (Negation goal) env = negated env (node_trace goal env)
    goal_trace (Quantified own goal) env = node_trace goal env

    pub node_trace : Node → Env → Trace
    node_trace (node goal outputs category span) env = once_if (answers_once outputs category) (goal_trace goal env)

    -- each answer of the first goal is replaced by the trace of the others
    pub all_trace : Nodes → Env → Trace
    all_trace no_nodes env = one_answer env
    all_trace (more_nodes first rest) env = each (λ inner. all_trace rest inner) (node_trace first env)

    pub any_trace : Nodes → Env → Trace
    any_trace no_nodes env = Ends Done
    any_trace (more_nodes first rest) env = after (node_trace first env) (any_trace rest env)

    -- the arm of the value's symbol; a value without an arm fails
    pub arms_trace : Arms → Option Value → Env → Trace
    arms_trace no_arms value env = Ends Done
    arms_trace (more_arms symbol body rest) value env = taken_arm value symbol (node_trace body env) (arms_trace rest value env)

abbrev pub body_trace : Program → (Procedure → Env → Trace) → Option ProcedureBody → Env → Trace
body_trace program call None env = Ends Done
body_trace program call (Some procedure) env = node_trace program call procedure.body env

-- the trace of a call, up to this depth of calls: one step, then the procedure's body
abbrev pub call_trace : Program → ℕ → Procedure → Env → Trace
call_trace program zero procedure env = Ends TooDeep
call_trace program (suc depth) procedure env = Tick (body_trace program (call_trace program depth) (program procedure) env)

-- the strict sequential run of a goal, up to a limit of steps
abbrev pub run : Program → Node → ℕ → Run
run program goal limit = cut limit (node_trace program (call_trace program (suc limit)) goal [])
