-- Worked examples of runs. `number(out)` answers 1 and 2, `twice(in, out)` adds its input to itself, `loop` calls itself, `fourfold(in, out)` calls
-- `twice` twice, and `broken` raises an exception.
use Rattle.std.specs.Prelude.{◌≡◌, ℕ, pos, negsuc, List, [], ◌∷◌, Option, Some, None, slice_get, refl}
use Rattle.merc_base.specs.Names.{division_by_zero_name}
use Rattle.merc_base.specs.declared.category.Category.{Category}
use Rattle.merc_base.specs.declared.category.Category.TheVariants.{Semidet, Multi, Failure}
use Rattle.merc_base.specs.declared.place.Span.{Span}
use Rattle.merc_tree.specs.declared.declarations.Arg.TheVariants.{Input, Output}
use Rattle.merc_value.specs.Value.{Value, Int, Con, none, more}
use Rattle.merc_goal_tree.specs.declared.goal.Comparison.TheVariants.{Less}
use Rattle.merc_goal_tree.specs.declared.goal.Operation.TheVariants.{Add, Subtract, Quotient}
use Rattle.merc_goal_tree.specs.declared.goal.Symbol.{Symbol}
use Rattle.merc_goal_tree.specs.declared.goal.Symbol.TheVariants.{Constructor, Integer, Text as TextSymbol}
use Rattle.merc_graded_tree.specs.declared.basic.BasicGoal.{BasicGoal}
use Rattle.merc_graded_tree.specs.declared.basic.BasicGoal.TheVariants.{True, Fail, Assign, Test, Build, Split, Arithmetic, Compare, Raise, Call, Wait, Signal}
use Rattle.merc_graded_tree.specs.declared.basic.Procedure.{Procedure}
use Rattle.merc_graded_tree.specs.declared.entries.Running.TheVariants.{Sequential, Parallel}
use Rattle.merc_graded_tree.specs.Nodes.{Node, node, Goal, Basic, Conjunction, Disjunction, Switch, Conditional, Negation, Quantified, nodes_of, Arms, no_arms, more_arms}
use Rattle.merc_meaning.specs.Trace.{Run, Ends, Tick, Answer, RunDone, RunRaised, LimitPassed}
use Rattle.merc_meaning.specs.Runs.{Program, ProcedureBody, run}

abbrev pub nowhere : Span
nowhere = record { first = 0; past = 0; line = 1 }

-- a goal with these outputs, without a category and with one
abbrev pub goal : Goal → List ℕ → Node
goal whole outputs = node whole outputs None nowhere

abbrev pub graded : Category → Goal → List ℕ → Node
graded category whole outputs = node whole outputs (Some category) nowhere

abbrev pub basic : BasicGoal → List ℕ → Node
basic whole outputs = goal (Basic whole) outputs

abbrev pub sequence : List Node → List ℕ → Node
sequence goals outputs = goal (Conjunction Sequential (nodes_of goals)) outputs

abbrev pub procedure : ℕ → Procedure
procedure predicate = record { predicate = predicate; mode = 0 }

-- the variables
abbrev x : ℕ
x = 0

abbrev y : ℕ
y = 1

-- a variable is given an integer, and a text
abbrev is_int : ℕ → ℕ → Node
is_int variable number = basic (Build variable (Integer (pos number)) []) (variable ∷ [])

abbrev is_text : ℕ → ℕ → Node
is_text variable text = basic (Build variable (TextSymbol text) []) (variable ∷ [])

abbrev pub truth : Node
truth = basic True []

abbrev pub failure : Node
failure = basic Fail []

abbrev either : List Node → List ℕ → Node
either goals outputs = goal (Disjunction (nodes_of goals)) outputs

abbrev number_body : ProcedureBody
number_body = record { places = Output ∷ []; body = either (is_int x 1 ∷ is_int x 2 ∷ []) (x ∷ []) }

abbrev twice_body : ProcedureBody
twice_body = record { places = Input ∷ Output ∷ []; body = basic (Arithmetic Add y x x) (y ∷ []) }

abbrev loop_body : ProcedureBody
loop_body = record { places = []; body = basic (Call (procedure 2) []) [] }

abbrev number : ℕ → Node
number variable = basic (Call (procedure 0) (variable ∷ [])) (variable ∷ [])

abbrev twice : ℕ → ℕ → Node
twice from to = basic (Call (procedure 1) (from ∷ to ∷ [])) (to ∷ [])

abbrev raising : Node
raising = sequence (is_text x 300 ∷ basic (Raise x) [] ∷ []) (x ∷ [])

abbrev fourfold_body : ProcedureBody
fourfold_body = record { places = Input ∷ Output ∷ []; body = sequence (twice x 2 ∷ twice 2 y ∷ []) (y ∷ []) }

abbrev broken_body : ProcedureBody
broken_body = record { places = []; body = raising }

abbrev program : Program
program called = slice_get (number_body ∷ twice_body ∷ loop_body ∷ fourfold_body ∷ broken_body ∷ []) called.predicate

abbrev fourfold : ℕ → ℕ → Node
fourfold from to = basic (Call (procedure 3) (from ∷ to ∷ [])) (to ∷ [])

abbrev broken : Node
broken = basic (Call (procedure 4) []) []

abbrev loop : Node
loop = basic (Call (procedure 2) []) []

abbrev absent : Node
absent = basic (Call (procedure 7) []) []

abbrev int : ℕ → Option Value
int number = Some (Int (pos number))

abbrev done : Run
done = Ends RunDone

-- calls: the input goes in, the output is written

call-example : run program (sequence (is_int x 21 ∷ twice x y ∷ []) (x ∷ y ∷ [])) 10 ≡ Tick (Answer (int 21 ∷ int 42 ∷ []) done)
call-example = refl

call-absent : run program absent 10 ≡ Ends RunDone
call-absent = refl

call-not : run program (sequence (is_int x 21 ∷ twice x y ∷ []) (x ∷ y ∷ [])) 10 ≡ Answer (int 21 ∷ int 42 ∷ []) done → ⊥
call-not is_no_step = cc

-- each call is a step, and a body's own variables are not the caller's
call-nested : run program (sequence (is_int x 5 ∷ is_int y 6 ∷ fourfold x 3 ∷ []) (x ∷ y ∷ 3 ∷ [])) 10
    ≡ Tick (Tick (Tick (Answer (int 5 ∷ int 6 ∷ None ∷ int 20 ∷ []) done)))
call-nested = refl

-- a conjunction goes on from each answer

conjunction-example : run program (sequence (number x ∷ twice x y ∷ []) (x ∷ y ∷ [])) 10
    ≡ Tick (Tick (Answer (int 1 ∷ int 2 ∷ []) (Tick (Answer (int 2 ∷ int 4 ∷ []) done))))
conjunction-example = refl

conjunction-parallel : run program (goal (Conjunction (Parallel None) (nodes_of (number x ∷ twice x y ∷ []))) (x ∷ y ∷ [])) 10
    ≡ run program (sequence (number x ∷ twice x y ∷ []) (x ∷ y ∷ [])) 10
conjunction-parallel = refl

conjunction-waits : run program (sequence (is_int x 1 ∷ basic (Signal x 1) [] ∷ basic (Wait x 1) [] ∷ []) (x ∷ [])) 10 ≡ Answer (int 1 ∷ []) done
conjunction-waits = refl

-- a disjunction

disjunction-example : run program (either (is_int x 7 ∷ failure ∷ number x ∷ []) (x ∷ [])) 10
    ≡ Answer (int 7 ∷ []) (Tick (Answer (int 1 ∷ []) (Answer (int 2 ∷ []) done)))
disjunction-example = refl

disjunction-not : run program (either (is_int x 7 ∷ is_int x 8 ∷ []) (x ∷ [])) 10 ≡ Answer (int 7 ∷ []) done → ⊥
disjunction-not stops = cc

-- a switch; of arms of one symbol it is the first

abbrev red : Symbol
red = Constructor 200 0

abbrev box : Symbol
box = Constructor 201 1

abbrev arms : Arms
arms = more_arms red (is_int y 1) (more_arms (Integer (pos 5)) (is_int y 2) no_arms)

abbrev switched_over : Arms → Symbol → Node
switched_over choices symbol = sequence (basic (Build x symbol []) (x ∷ []) ∷ goal (Switch x choices) (y ∷ []) ∷ []) (x ∷ y ∷ [])

abbrev switched : Symbol → Node
switched symbol = switched_over arms symbol

switch-example : run program (switched red) 10 ≡ Answer (Some (Con 200 none) ∷ int 1 ∷ []) done
switch-example = refl

switch-literal : run program (switched (Integer (pos 5))) 10 ≡ Answer (int 5 ∷ int 2 ∷ []) done
switch-literal = refl

switch-first : run program (switched_over (more_arms red (is_int y 1) (more_arms red (is_int y 2) no_arms)) red) 10 ≡ Answer (Some (Con 200 none) ∷ int 1 ∷ []) done
switch-first = refl

switch-unbound : run program (goal (Switch x arms) (y ∷ [])) 10 ≡ done
switch-unbound = refl

switch-missing : run program (switched (Constructor 202 0)) 10 ≡ done
switch-missing = refl

-- building and splitting

abbrev boxed : Node
boxed = sequence (is_int x 3 ∷ basic (Build 1 box (x ∷ [])) (1 ∷ []) ∷ basic (Split 1 box (2 ∷ [])) (2 ∷ []) ∷ []) (x ∷ 1 ∷ 2 ∷ [])

split-example : run program boxed 10 ≡ Answer (int 3 ∷ Some (Con 201 (more (Int (pos 3)) none)) ∷ int 3 ∷ []) done
split-example = refl

-- what is built of an unbound variable fails
build-unbound : run program (basic (Build y box (x ∷ [])) (y ∷ [])) 10 ≡ done
build-unbound = refl

split-other : run program (sequence (is_int x 3 ∷ basic (Split x box (2 ∷ [])) (2 ∷ []) ∷ []) (x ∷ 2 ∷ [])) 10 ≡ done
split-other = refl

-- tests

test-example : run program (sequence (is_int x 3 ∷ basic (Assign y x) (y ∷ []) ∷ basic (Test x y) [] ∷ []) (x ∷ y ∷ [])) 10 ≡ Answer (int 3 ∷ int 3 ∷ []) done
test-example = refl

test-fails : run program (sequence (is_int x 3 ∷ is_int y 4 ∷ basic (Test x y) [] ∷ []) (x ∷ y ∷ [])) 10 ≡ done
test-fails = refl

arithmetic-order : run program (sequence (is_int x 7 ∷ is_int y 9 ∷ basic (Arithmetic Subtract 2 x y) (2 ∷ []) ∷ []) (x ∷ y ∷ 2 ∷ [])) 10
    ≡ Answer (int 7 ∷ int 9 ∷ Some (Int (negsuc 1)) ∷ []) done
arithmetic-order = refl

compare-example : run program (sequence (is_int x 3 ∷ is_int y 4 ∷ basic (Compare Less x y) [] ∷ []) (x ∷ y ∷ [])) 10 ≡ Answer (int 3 ∷ int 4 ∷ []) done
compare-example = refl

-- an if-then-else has the then part for each answer of the condition

conditional-example : run program (goal (Conditional (number x) (twice x y) failure) (x ∷ y ∷ [])) 10
    ≡ Tick (Tick (Answer (int 1 ∷ int 2 ∷ []) (Tick (Answer (int 2 ∷ int 4 ∷ []) done))))
conditional-example = refl

conditional-else : run program (goal (Conditional (sequence (number x ∷ failure ∷ []) (x ∷ [])) truth (is_int y 9)) (y ∷ [])) 10 ≡ Tick (Answer (None ∷ int 9 ∷ []) done)
conditional-else = refl

conditional-then_fails : run program (goal (Conditional truth failure (is_int x 9)) (x ∷ [])) 10 ≡ done
conditional-then_fails = refl

-- a negation

negation-example : run program (goal (Negation failure) []) 10 ≡ Answer [] done
negation-example = refl

negation-fails : run program (goal (Negation (number x)) []) 10 ≡ Tick done
negation-fails = refl

quantified-example : run program (goal (Quantified (x ∷ []) (is_int x 1)) []) 10 ≡ Answer (int 1 ∷ []) done
quantified-example = refl

-- a quantified goal answers as often as the goal in it
quantified-twice : run program (goal (Quantified (y ∷ []) (goal (Disjunction (nodes_of (is_int x 1 ∷ is_int x 2 ∷ []))) (x ∷ []))) (x ∷ [])) 10
    ≡ Answer (int 1 ∷ []) (Answer (int 2 ∷ []) done)
quantified-twice = refl

-- exceptions

raise-example : run program raising 10 ≡ Ends (RunRaised 300)
raise-example = refl

raise-behind_answer : run program (either (is_int x 1 ∷ raising ∷ is_int x 2 ∷ []) (x ∷ [])) 10 ≡ Answer (int 1 ∷ []) (Ends (RunRaised 300))
raise-behind_answer = refl

raise-in_call : run program (either (number x ∷ broken ∷ is_int x 3 ∷ []) (x ∷ [])) 10
    ≡ Tick (Answer (int 1 ∷ []) (Answer (int 2 ∷ []) (Tick (Ends (RunRaised 300)))))
raise-in_call = refl

raise-in_condition : run program (goal (Conditional raising truth (is_int y 9)) (y ∷ [])) 10 ≡ Ends (RunRaised 300)
raise-in_condition = refl

raise-negated : run program (goal (Negation raising) []) 10 ≡ Ends (RunRaised 300)
raise-negated = refl

raise-division : run program (sequence (is_int x 0 ∷ basic (Arithmetic Quotient y x x) (y ∷ []) ∷ []) (x ∷ y ∷ [])) 10 ≡ Ends (RunRaised division_by_zero_name)
raise-division = refl

-- a goal with at most one solution, or without outputs, is not entered again

abbrev twice_true : Goal
twice_true = Disjunction (nodes_of (is_int x 1 ∷ raising ∷ []))

cut-at_most_one : run program (graded Semidet twice_true (x ∷ [])) 10 ≡ Answer (int 1 ∷ []) done
cut-at_most_one = refl

cut-failure : run program (graded Failure twice_true (x ∷ [])) 10 ≡ Answer (int 1 ∷ []) done
cut-failure = refl

cut-no_category : run program (goal twice_true []) 10 ≡ Answer (int 1 ∷ []) done
cut-no_category = refl

cut-no_outputs : run program (graded Multi twice_true []) 10 ≡ Answer (int 1 ∷ []) done
cut-no_outputs = refl

cut-not : run program (graded Multi twice_true (x ∷ [])) 10 ≡ Answer (int 1 ∷ []) done → ⊥
cut-not always = cc

-- the limit

limit-reached : run program (number x) 1 ≡ Tick (Answer (int 1 ∷ []) (Answer (int 2 ∷ []) done))
limit-reached = refl

limit-passed : run program (number x) 0 ≡ Ends LimitPassed
limit-passed = refl

limit-loop : run program loop 2 ≡ Tick (Tick (Ends LimitPassed))
limit-loop = refl

limit-behind_answer : run program (sequence (number x ∷ twice x y ∷ []) (x ∷ y ∷ [])) 2 ≡ Tick (Tick (Answer (int 1 ∷ int 2 ∷ []) (Ends LimitPassed)))
limit-behind_answer = refl
