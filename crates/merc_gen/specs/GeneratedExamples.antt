-- Worked examples of the code of goals. A call of predicate 0 may leave choice points, one of predicate 1 leaves none.
use Rattle.std.specs.Prelude.{◌≡◌, ℕ, pos, ◌==◌, Bool, [], ◌∷◌, Some, None, slice_get, refl}
use Rattle.merc_base.specs.declared.category.Category.TheVariants.{Semidet, Multi}
use Rattle.merc_tree.specs.declared.declarations.Arg.TheVariants.{Input, Output}
use Rattle.merc_goal_tree.specs.declared.goal.Comparison.TheVariants.{Less}
use Rattle.merc_goal_tree.specs.declared.goal.Operation.TheVariants.{Add}
use Rattle.merc_goal_tree.specs.declared.goal.Symbol.TheVariants.{Constructor, Integer as IntegerSymbol, Text as TextSymbol}
use Rattle.merc_graded_tree.specs.declared.basic.BasicGoal.TheVariants.{True, Fail as FailGoal, Assign, Test as TestGoal, Build as BuildGoal, Split as SplitGoal, Arithmetic as ArithmeticGoal, Compare as CompareGoal, Raise as RaiseGoal, Call as CallGoal, Wait as WaitGoal, Signal as SignalGoal}
use Rattle.merc_graded_tree.specs.declared.basic.Procedure.{Procedure}
use Rattle.merc_graded_tree.specs.declared.entries.Running.TheVariants.{Parallel}
use Rattle.merc_graded_tree.specs.Nodes.{Node, Nodes, Conjunction, Disjunction, Switch as SwitchGoal, Conditional, Negation, Quantified, nodes_of, no_arms, more_arms}
use Rattle.merc_meaning.specs.Runs.{Program, ProcedureBody}
use Rattle.merc_meaning.specs.RunExamples.{goal, graded, basic, sequence, procedure}
use Rattle.merc_code.specs.declared.instruction.Instruction.{Instruction}
use Rattle.merc_code.specs.declared.instruction.Instruction.TheVariants.{Integer, Copy, Build, Split, Literal, Test, Arithmetic, Compare, Raise, Jump, Switch, Try, Mark, Commit, Soften, Call, Return, Fail, Answer, Fork, Wait, Signal, Close}
use Rattle.merc_code.specs.Steps.{Code, ConjunctCode, Codes}
use Rattle.merc_gen.specs.Sites.{Sites}
use Rattle.merc_gen.specs.Generated.{node_code, procedure_code, conjunct_code, conjunct_codes, codes_of, query_code}

abbrev single : Procedure → Bool
single called = called.predicate == 1

-- the code of a goal behind which nothing follows
abbrev code : Node → Code
code whole = node_code single whole 0 []

-- the variables
abbrev x : ℕ
x = 0

abbrev y : ℕ
y = 1

-- calls with an output, and their instructions

abbrev number : ℕ → Node
number variable = basic (CallGoal (procedure 0) (variable ∷ [])) (variable ∷ [])

abbrev twice : ℕ → ℕ → Node
twice from to = basic (CallGoal (procedure 1) (from ∷ to ∷ [])) (to ∷ [])

abbrev calls_number : ℕ → Instruction
calls_number variable = Call (procedure 0) (variable ∷ [])

abbrev calls_twice : ℕ → ℕ → Instruction
calls_twice from to = Call (procedure 1) (from ∷ to ∷ [])

abbrev failure : Node
failure = basic FailGoal []

abbrev less : Node
less = basic (CompareGoal Less x y) []

-- basic goals are one instruction each, or none

basic-truth : code (basic True []) ≡ []
basic-truth = refl

basic-failure : code failure ≡ Fail ∷ []
basic-failure = refl

basic-assignment : code (basic (Assign y x) (y ∷ [])) ≡ Copy y x ∷ []
basic-assignment = refl

basic-test : code (basic (TestGoal x y) []) ≡ Test x y ∷ []
basic-test = refl

basic-literal : code (basic (BuildGoal x (IntegerSymbol (pos 7)) []) (x ∷ [])) ≡ Integer x (pos 7) ∷ []
basic-literal = refl

basic-construction : code (basic (BuildGoal y (Constructor 5 1) (x ∷ [])) (y ∷ [])) ≡ Build y (Constructor 5 1) (x ∷ []) ∷ []
basic-construction = refl

basic-comparison-literal : code (basic (SplitGoal x (TextSymbol 9) []) []) ≡ Literal x (TextSymbol 9) ∷ []
basic-comparison-literal = refl

basic-taken-apart : code (basic (SplitGoal y (Constructor 5 1) (x ∷ [])) (x ∷ [])) ≡ Split y (Constructor 5 1) (x ∷ []) ∷ []
basic-taken-apart = refl

basic-arithmetic : code (basic (ArithmeticGoal Add y x x) (y ∷ [])) ≡ Arithmetic Add y x x ∷ []
basic-arithmetic = refl

basic-exception : code (basic (RaiseGoal x) []) ≡ Raise x ∷ []
basic-exception = refl

basic-wait : code (sequence (basic (SignalGoal x 1) [] ∷ basic (WaitGoal y 1) [] ∷ []) []) ≡ Signal x ∷ Wait y ∷ []
basic-wait = refl

basic-not : code (basic (BuildGoal x (IntegerSymbol (pos 7)) []) (x ∷ [])) ≡ Build x (IntegerSymbol (pos 7)) [] ∷ [] → ⊥
basic-not is_built = cc

-- choice points of a goal that answers once are dropped, if it leaves any

once-example : code (basic (CallGoal (procedure 0) []) []) ≡ Mark 0 ∷ Call (procedure 0) [] ∷ Commit 0 ∷ []
once-example = refl

once-by_category : code (graded Semidet (Disjunction (nodes_of (number x ∷ failure ∷ []))) (x ∷ [])) ≡ Mark 0 ∷ Try 2 ∷ calls_number x ∷ Jump 1 ∷ Fail ∷ Commit 0 ∷ []
once-by_category = refl

once-quiet : code (basic (CallGoal (procedure 1) []) []) ≡ Call (procedure 1) [] ∷ []
once-quiet = refl

once-not : code (basic (CallGoal (procedure 0) []) []) ≡ Call (procedure 0) [] ∷ [] → ⊥
once-not leaves_them = cc

-- a conjunction

conjunction-example : code (sequence (number x ∷ twice x y ∷ []) (x ∷ y ∷ [])) ≡ calls_number x ∷ calls_twice x y ∷ []
conjunction-example = refl

-- conjuncts that are forked at a site: each has code of its own, and its frame the values of the variables that it uses

abbrev conjuncts : Nodes
conjuncts = nodes_of (number x ∷ twice x y ∷ [])

abbrev beside : Node
beside = goal (Conjunction (Parallel (Some (record { number = 7 }))) conjuncts) (x ∷ y ∷ [])

fork-example : code beside ≡ Fork (record { number = 7 }) ∷ []
fork-example = refl

fork-without_site : code (goal (Conjunction (Parallel None) conjuncts) (x ∷ y ∷ [])) ≡ calls_number x ∷ calls_twice x y ∷ []
fork-without_site = refl

fork-not : code beside ≡ calls_number x ∷ calls_twice x y ∷ [] → ⊥
fork-not goes_one_after_the_other = cc

abbrev number_code : ConjunctCode
number_code = record { used = x ∷ []; code = calls_number x ∷ Close ∷ [] }

abbrev twice_code : ConjunctCode
twice_code = record { used = x ∷ y ∷ []; code = calls_twice x y ∷ Close ∷ [] }

conjunct_codes-example : conjunct_codes single conjuncts ≡ number_code ∷ twice_code ∷ []
conjunct_codes-example = refl

conjunct_code-once : conjunct_code single (basic (CallGoal (procedure 0) (x ∷ [])) []) ≡ record { used = x ∷ []; code = Mark 0 ∷ calls_number x ∷ Commit 0 ∷ Close ∷ [] }
conjunct_code-once = refl

conjunct_code-not : (conjunct_code single (number x)).code ≡ calls_number x ∷ Return ∷ [] → ⊥
conjunct_code-not returns = cc

-- a disjunction: the last disjunct has no choice point

disjunction-example : code (goal (Disjunction (nodes_of (number x ∷ failure ∷ number x ∷ []))) (x ∷ []))
    ≡ Try 2 ∷ calls_number x ∷ Jump 4 ∷ Try 2 ∷ Fail ∷ Jump 1 ∷ calls_number x ∷ []
disjunction-example = refl

disjunction-single : code (goal (Disjunction (nodes_of (number x ∷ []))) (x ∷ [])) ≡ calls_number x ∷ []
disjunction-single = refl

disjunction-empty : code (goal (Disjunction (nodes_of [])) (x ∷ [])) ≡ Fail ∷ []
disjunction-empty = refl

disjunction-not : code (goal (Disjunction (nodes_of (number x ∷ failure ∷ []))) (x ∷ [])) ≡ Try 1 ∷ calls_number x ∷ Fail ∷ [] → ⊥
disjunction-not goes_on = cc

-- a switch

switch-example : code (goal (SwitchGoal x (more_arms (Constructor 5 0) (number y) (more_arms (Constructor 6 0) (twice x y) no_arms))) (y ∷ []))
    ≡ Switch x (record { symbol = Constructor 5 0; skipped = 0 } ∷ record { symbol = Constructor 6 0; skipped = 2 } ∷ []) ∷ calls_number y ∷ Jump 1 ∷ calls_twice x y ∷ []
switch-example = refl

switch-not : code (goal (SwitchGoal x (more_arms (Constructor 5 0) (number y) no_arms)) (y ∷ []))
    ≡ Switch x (record { symbol = Constructor 5 0; skipped = 0 } ∷ []) ∷ calls_number y ∷ Jump 0 ∷ [] → ⊥
switch-not goes_on = cc

-- a conditional: a condition that may answer more than once is entered again

conditional-example : code (goal (Conditional (number x) (twice x y) failure) (x ∷ y ∷ []))
    ≡ Mark 0 ∷ Try 4 ∷ calls_number x ∷ Soften 0 ∷ calls_twice x y ∷ Jump 1 ∷ Fail ∷ []
conditional-example = refl

conditional-once : code (goal (Conditional less (number x) (number x)) (x ∷ []))
    ≡ Mark 0 ∷ Try 4 ∷ Compare Less x y ∷ Commit 0 ∷ calls_number x ∷ Jump 1 ∷ calls_number x ∷ []
conditional-once = refl

conditional-not : code (goal (Conditional (number x) (twice x y) failure) (x ∷ y ∷ []))
    ≡ Mark 0 ∷ Try 4 ∷ calls_number x ∷ Commit 0 ∷ calls_twice x y ∷ Jump 1 ∷ Fail ∷ [] → ⊥
conditional-not is_cut = cc

-- a negation; marks are numbered by how deep they are nested

negation-example : code (goal (Negation less) []) ≡ Mark 0 ∷ Try 3 ∷ Compare Less x y ∷ Commit 0 ∷ Fail ∷ []
negation-example = refl

negation-nested : code (goal (Negation (goal (Negation less) [])) [])
    ≡ Mark 0 ∷ Try 7 ∷ Mark 1 ∷ Try 3 ∷ Compare Less x y ∷ Commit 1 ∷ Fail ∷ Commit 0 ∷ Fail ∷ []
negation-nested = refl

negation-side_by_side : code (sequence (goal (Negation less) [] ∷ goal (Negation failure) [] ∷ []) [])
    ≡ Mark 0 ∷ Try 3 ∷ Compare Less x y ∷ Commit 0 ∷ Fail ∷ Mark 0 ∷ Try 3 ∷ Fail ∷ Commit 0 ∷ Fail ∷ []
negation-side_by_side = refl

-- a quantified goal

quantified-example : code (goal (Quantified (x ∷ []) (number x)) []) ≡ Mark 0 ∷ calls_number x ∷ Commit 0 ∷ []
quantified-example = refl

-- procedures and queries

abbrev number_body : ProcedureBody
number_body = record { places = Output ∷ []; body = graded Multi (Disjunction (nodes_of (basic (BuildGoal x (IntegerSymbol (pos 1)) []) (x ∷ []) ∷ basic (BuildGoal x (IntegerSymbol (pos 2)) []) (x ∷ []) ∷ []))) (x ∷ []) }

abbrev twice_body : ProcedureBody
twice_body = record { places = Input ∷ Output ∷ []; body = graded Semidet (Disjunction (nodes_of (basic (ArithmeticGoal Add y x x) (y ∷ []) ∷ []))) (y ∷ []) }

abbrev program : Program
program called = slice_get (number_body ∷ twice_body ∷ []) called.predicate

procedure-example : procedure_code single number_body ≡ record { places = Output ∷ []; code = Try 2 ∷ Integer x (pos 1) ∷ Jump 1 ∷ Integer x (pos 2) ∷ Return ∷ [] }
procedure-example = refl

query-example : query_code program (goal (Quantified (x ∷ []) (sequence (number x ∷ twice x y ∷ []) (x ∷ y ∷ []))) []) (y ∷ [])
    ≡ Mark 0 ∷ calls_number x ∷ calls_twice x y ∷ Commit 0 ∷ Answer (y ∷ []) ∷ []
query-example = refl

abbrev sites : Sites
sites site = conjuncts

codes-procedure : Codes.procedures (codes_of program sites) (procedure 0) ≡ Some (procedure_code single number_body)
codes-procedure = refl

codes-conjuncts : Codes.conjuncts (codes_of program sites) 7 ≡ number_code ∷ twice_code ∷ []
codes-conjuncts = refl

query-not : query_code program (number x) (x ∷ []) ≡ calls_number x ∷ [] → ⊥
query-not gives_none = cc
