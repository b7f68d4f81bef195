-- What the instruction of a basic goal does is what the goal means.
use Rattle.std.proofs.Common.{◌≡◌, ℕ, Bool, true, false, List, [], ◌∷◌, Option, Some, None, refl, subst}
use Rattle.merc_goal_tree.specs.declared.goal.Symbol.{Symbol}
use Rattle.merc_goal_tree.specs.declared.goal.Symbol.TheVariants.{Constructor, Integer as IntegerSymbol, Text as TextSymbol}
use Rattle.merc_goal_tree.specs.declared.goal.Operation.{Operation}
use Rattle.merc_graded_tree.specs.declared.basic.BasicGoal.{BasicGoal}
use Rattle.merc_graded_tree.specs.declared.basic.BasicGoal.TheVariants.{True, Fail as FailGoal, Assign, Test as TestGoal, Build as BuildGoal, Split as SplitGoal, Arithmetic as ArithmeticGoal, Compare as CompareGoal, Raise as RaiseGoal, Call as CallGoal, Wait, Signal}
use Rattle.merc_graded_tree.specs.declared.basic.Procedure.{Procedure}
use Rattle.merc_value.specs.Value.{Value, Int, Text as TextValue, Con, Values}
use Rattle.merc_meaning.specs.Values.{fields, same}
use Rattle.merc_meaning.specs.Arithmetic.{Result, Gives, ZeroDivisor, arithmetic, comparison_of}
use Rattle.merc_meaning.specs.Trace.{Env, Trace, Ends, Answer, Done, Raised}
use Rattle.merc_meaning.specs.Steps.{value_at, binds, tested, compared, values_at, made_if, filled_if, split, computed, operated, raised}
use Rattle.merc_meaning.specs.Runs.{Program}
use Rattle.merc_course.specs.Courses.{called, basic_course as basic_trace, told, handed_on}
use Rattle.merc_course.specs.Course.{GoalCourse, whole, left_after}
use Rattle.merc_code.specs.declared.instruction.Instruction.TheVariants.{Call}
use Rattle.merc_code.specs.Steps.{Code, Codes, Caller, ChoicePoint, State, At, step, act, Effect, Binds, Fails, Raises, gives, passes, compares, builds, fills, splits, computes, operates, raises, continued, signals}
use Rattle.merc_code.specs.Meaning.{stops, asks, yield_none}
use Rattle.merc_gen.specs.Generated.{build_code, split_code, basic_code, basic_quiet}
use Rattle.merc_gen.proofs.Runs.{behind, Runs, Keeps, LeavesNone, keeps-same, same-state, silent, one-runs}

abbrev trace-of : Effect → Trace
trace-of (Binds env) = Answer env (Ends Done)
trace-of Fails = Ends Done
trace-of (Raises text) = Ends (Raised text)

gives-trace : (env : Env) (to : ℕ) (o : Option Value) → trace-of (gives env to o) ≡ binds env to o
gives-trace env to None = refl
gives-trace env to (Some v) = refl

passes-trace : (env : Env) (b : Bool) → trace-of (passes env b) ≡ tested b env
passes-trace env true = refl
passes-trace env false = refl

compares-trace : (env : Env) (holds : Value → Value → Bool) (o p : Option Value) → trace-of (compares env holds o p) ≡ compared env holds o p
compares-trace env holds None p = refl
compares-trace env holds (Some v) None = refl
compares-trace env holds (Some v) (Some w) = passes-trace env (holds v w)

builds-trace : (env : Env) (to : ℕ) (symbol : Symbol) (o : Option Values) → trace-of (builds env to symbol o) ≡ binds env to (made_if symbol o)
builds-trace env to symbol None = refl
builds-trace env to symbol (Some vs) = refl

fills-trace : (env : Env) (xs : List ℕ) (o : Option Values) → trace-of (fills env xs o) ≡ filled_if env xs o
fills-trace env xs None = refl
fills-trace env xs (Some vs) = refl

splits-trace : (env : Env) (symbol : Symbol) (xs : List ℕ) (o : Option Value) → trace-of (splits env symbol xs o) ≡ split env symbol xs o
splits-trace env symbol xs None = refl
splits-trace env symbol xs (Some v) = fills-trace env xs (fields symbol v)

computes-trace : (env : Env) (to : ℕ) (r : Result) → trace-of (computes env to r) ≡ computed env to r
computes-trace env to (Gives number) = refl
computes-trace env to ZeroDivisor = refl

operates-trace : (env : Env) (op : Operation) (to : ℕ) (o p : Option Value) → trace-of (operates env op to o p) ≡ operated env op to o p
operates-trace env op to None p = refl
operates-trace env op to (Some (TextValue t)) p = refl
operates-trace env op to (Some (Con s vs)) p = refl
operates-trace env op to (Some (Int a)) None = refl
operates-trace env op to (Some (Int a)) (Some (TextValue t)) = refl
operates-trace env op to (Some (Int a)) (Some (Con s vs)) = refl
operates-trace env op to (Some (Int a)) (Some (Int b)) = computes-trace env to (arithmetic op a b)

raises-trace : (o : Option Value) → trace-of (raises o) ≡ raised o
raises-trace None = refl
raises-trace (Some (TextValue t)) = refl
raises-trace (Some (Int a)) = refl
raises-trace (Some (Con s vs)) = refl

module _ (codes : Codes) where
  build-step : (whole : ℕ) (symbol : Symbol) (xs : List ℕ) (rest : Code) (env : Env) (marks : List ℕ) (callers : List Caller) (B : List ChoicePoint) (l : ℕ)
      → act codes (build_code whole symbol xs) rest env marks callers B l ≡ continued rest marks callers B l (builds env whole symbol (values_at env xs))
  build-step whole (Constructor name arity) xs rest env marks callers B l = refl
  build-step whole (IntegerSymbol number) [] rest env marks callers B l = refl
  build-step whole (IntegerSymbol number) (x ∷ xs) rest env marks callers B l = refl
  build-step whole (TextSymbol text) [] rest env marks callers B l = refl
  build-step whole (TextSymbol text) (x ∷ xs) rest env marks callers B l = refl

  split-step : (whole : ℕ) (symbol : Symbol) (xs : List ℕ) (rest : Code) (env : Env) (marks : List ℕ) (callers : List Caller) (B : List ChoicePoint) (l : ℕ)
      → act codes (split_code whole symbol xs) rest env marks callers B l ≡ continued rest marks callers B l (splits env symbol xs (value_at env whole))
  split-step whole (Constructor name arity) xs rest env marks callers B l = refl
  split-step whole (IntegerSymbol number) [] rest env marks callers B l = refl
  split-step whole (IntegerSymbol number) (x ∷ xs) rest env marks callers B l = refl
  split-step whole (TextSymbol text) [] rest env marks callers B l = refl
  split-step whole (TextSymbol text) (x ∷ xs) rest env marks callers B l = refl

  effect-runs : (e : Effect) (t : Trace) (m : ℕ) (k : Code) (marks : List ℕ) (callers : List Caller) (l n : ℕ) (st : List ChoicePoint → State) → trace-of e ≡ t
      → ((B : List ChoicePoint) → step codes (st B) ≡ continued k marks callers B l e) → Runs codes (behind k callers) (Keeps m marks) (LeavesNone true) (whole t) l n 0 st
  effect-runs e t m k marks callers l n st q h = subst (λ u. Runs codes (behind k callers) (Keeps m marks) (LeavesNone true) (whole u) l n 0 st) q (by e h)
    where
      by : (e' : Effect) → ((B : List ChoicePoint) → step codes (st B) ≡ continued k marks callers B l e') → Runs codes (behind k callers) (Keeps m marks) (LeavesNone true) (whole (trace-of e')) l n 0 st
      by (Binds env) h' = one-runs codes (behind k callers) (Keeps m marks) (LeavesNone true) env marks l n 0 st refl (keeps-same m marks) (λ B p. silent codes _ _ (h' B))
      by Fails h' = λ B p. silent codes _ _ (h' B)
      by (Raises text) h' = λ B p. stops _ _ (h' B)

  signal-runs : (x : ℕ) (o : Option Value) (m : ℕ) (k : Code) (env : Env) (marks : List ℕ) (callers : List Caller) (l n : ℕ) (st : List ChoicePoint → State)
      → ((B : List ChoicePoint) → step codes (st B) ≡ signals k env marks callers B l x o) → Runs codes (behind k callers) (Keeps m marks) (LeavesNone true) (handed_on env x o) l n 0 st
  signal-runs x None m k env marks callers l n st h = λ B p. silent codes _ _ (h B)
  signal-runs x (Some value) m k env marks callers l n st h = (
    [],
    (λ r B. At k env marks callers B (left_after l r)),
    (λ d. yield_none),
    (λ B q. record { by = λ u v y z. asks _ _ _ _ u v (h B) y z }),
    λ r. one-runs codes (behind k callers) (Keeps m marks) (LeavesNone true) env marks (left_after l r) n 0 _ refl (keeps-same m marks) (λ B p. same-state codes _ _ refl),
  )

-- what calls do
abbrev pub Calls : Codes → (Procedure → Bool) → Program → (Procedure → Env → GoalCourse) → Type 0
Calls codes single program call = (p : Procedure) (arguments : List ℕ) (m : ℕ) (k : Code) (env : Env) (marks : List ℕ) (callers : List Caller) (l n : ℕ)
    → Runs codes (behind k callers) (Keeps m marks) (LeavesNone (single p)) (called (call p) (program p) arguments env) l n 0 (λ B. At (Call p arguments ∷ k) env marks callers B l)

pub basic-runs : (codes : Codes) (single : Procedure → Bool) (program : Program) (call : Procedure → Env → GoalCourse) → Calls codes single program call
    → (g : BasicGoal) (m : ℕ) (k : Code) (env : Env) (marks : List ℕ) (callers : List Caller) (l n : ℕ)
    → Runs codes (behind k callers) (Keeps m marks) (LeavesNone (basic_quiet single g)) (basic_trace program call g env) l n 0 (λ B. At (basic_code g k) env marks callers B l)
basic-runs codes single program call h True m k env marks callers l n =
    one-runs codes (behind k callers) (Keeps m marks) (LeavesNone true) env marks l n 0 _ refl (keeps-same m marks) (λ B p. same-state codes _ _ refl)
basic-runs codes single program call h FailGoal m k env marks callers l n = λ B p. silent codes _ _ refl
basic-runs codes single program call h (Assign to from) m k env marks callers l n =
    effect-runs codes (gives env to (value_at env from)) _ m k marks callers l n _ (gives-trace env to (value_at env from)) (λ B. refl)
basic-runs codes single program call h (TestGoal one other) m k env marks callers l n =
    effect-runs codes (compares env same (value_at env one) (value_at env other)) _ m k marks callers l n _ (compares-trace env same (value_at env one) (value_at env other)) (λ B. refl)
basic-runs codes single program call h (BuildGoal whole symbol xs) m k env marks callers l n =
    effect-runs codes (builds env whole symbol (values_at env xs)) _ m k marks callers l n _ (builds-trace env whole symbol (values_at env xs)) (λ B. build-step codes whole symbol xs k env marks callers B l)
basic-runs codes single program call h (SplitGoal whole symbol xs) m k env marks callers l n =
    effect-runs codes (splits env symbol xs (value_at env whole)) _ m k marks callers l n _ (splits-trace env symbol xs (value_at env whole)) (λ B. split-step codes whole symbol xs k env marks callers B l)
basic-runs codes single program call h (ArithmeticGoal op to one other) m k env marks callers l n =
    effect-runs codes (operates env op to (value_at env one) (value_at env other)) _ m k marks callers l n _ (operates-trace env op to (value_at env one) (value_at env other)) (λ B. refl)
basic-runs codes single program call h (CompareGoal test one other) m k env marks callers l n =
    effect-runs codes (compares env (comparison_of test) (value_at env one) (value_at env other)) _ m k marks callers l n _
    (compares-trace env (comparison_of test) (value_at env one) (value_at env other)) (λ B. refl)
basic-runs codes single program call h (RaiseGoal text) m k env marks callers l n =
    effect-runs codes (raises (value_at env text)) _ m k marks callers l n _ (raises-trace (value_at env text)) (λ B. refl)
basic-runs codes single program call h (CallGoal p arguments) m k env marks callers l n = h p arguments m k env marks callers l n
basic-runs codes single program call h (Wait x conjunct) m k env marks callers l n = (
  [],
  (λ r B. At k (told env x r) marks callers B (left_after l r)),
  (λ d. yield_none),
  (λ B q. record { by = λ u v y z. asks _ _ _ _ u v refl y z }),
  λ r. one-runs codes (behind k callers) (Keeps m marks) (LeavesNone true) (told env x r) marks (left_after l r) n 0 _ refl (keeps-same m marks) (λ B p. same-state codes _ _ refl),
)
basic-runs codes single program call h (Signal x conjunct) m k env marks callers l n = signal-runs codes x (value_at env x) m k env marks callers l n _ (λ B. refl)
