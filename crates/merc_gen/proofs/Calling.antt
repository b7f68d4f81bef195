-- Code of goals that have no `&` has no fork, and calls what they call.
use Rattle.std.specs.Prelude.{◌≡◌, ◌<◌, ◌+◌, ℕ, zero, suc, Bool, true, false, not, ◌&&◌, if◌then◌else◌, List, [], ◌∷◌, ◌++◌, length, Option, Some, None, refl}
use Rattle.std.specs.List.{AllByRecursion, Contains, slice_index_or}
use Rattle.std.specs.Option.{option_map}
use Rattle.std.proofs.Common.{subst, arith}
use Rattle.std.proofs.lemmas.Option.{same_Some}
use Rattle.std.proofs.lemmas.List.Elements.{All-from_recursion, recursion_from_All, All-contains}
use Rattle.merc_goal_tree.specs.declared.goal.Symbol.{Symbol}
use Rattle.merc_goal_tree.specs.declared.goal.Symbol.TheVariants.{Constructor, Integer as IntegerSymbol, Text as TextSymbol}
use Rattle.merc_graded_tree.specs.declared.basic.BasicGoal.{BasicGoal}
use Rattle.merc_graded_tree.specs.declared.basic.BasicGoal.TheVariants.{True, Fail as FailGoal, Assign, Test as TestGoal, Build as BuildGoal, Split as SplitGoal, Arithmetic as ArithmeticGoal, Compare as CompareGoal, Raise as RaiseGoal, Call as CallGoal, Wait as WaitGoal, Signal as SignalGoal}
use Rattle.merc_graded_tree.specs.declared.basic.Procedure.{Procedure}
use Rattle.merc_graded_tree.specs.declared.basic.Site.{Site}
use Rattle.merc_graded_tree.specs.declared.entries.Running.TheVariants.{Sequential, Parallel}
use Rattle.merc_graded_tree.specs.Nodes.{Node, node, Goal, Basic, Conjunction, Disjunction, Switch as SwitchGoal, Conditional, Negation, Quantified, Nodes, no_nodes, more_nodes, Arms, no_arms, more_arms}
use Rattle.merc_meaning.specs.Runs.{Program, ProcedureBody, answers_once}
use Rattle.merc_par_split.specs.Forks.{forks, goal_forks, all_forks, arm_forks}
use Rattle.merc_par_split.specs.SplitLaws.{calls_of, goal_calls, all_calls, arm_calls, calls_of_basic}
use Rattle.merc_code.specs.declared.instruction.Instruction.{Instruction}
use Rattle.merc_code.specs.declared.instruction.Instruction.TheVariants.{Integer, Text, Copy, Build, Split, Literal, Test, Arithmetic, Compare, Raise, Jump, Switch, Try, Mark, Commit, Soften, Call, Return, Fail, Answer, Fork, Wait, Signal, Close}
use Rattle.merc_code.specs.Steps.{Code, ProcedureCode}
use Rattle.merc_gen.specs.Generated.{build_code, split_code, basic_code, leaving, are_none, are_no_arms, is_single, quiet, goal_code, node_code, all_code, any_code, arms_code, procedure_code, codes_of, query_code}
use Rattle.merc_gen.specs.Sites.{Sites}
use Rattle.merc_gen.specs.Calling.{CanCall, calls, calls_by, HasNoFork, CanReach, reaches, reaches_by, ReachesNoFork}

split_all : {X : Type 0} (P : X → Type 0) (xs ys : List X) → AllByRecursion P (xs ++ ys) → AllByRecursion P xs × AllByRecursion P ys
split_all P [] ys h = (tt, h)
split_all P (x ∷ xs) ys h = let r = split_all P xs ys h.1 in ((h.0, r.0), r.1)

-- numbers whose sum is none
first_none : (a b : ℕ) → a + b ≡ 0 → a ≡ 0
first_none a b h = omega (arith, h)

rest_none : (a b : ℕ) → a + b ≡ 0 → b ≡ 0
rest_none a b h = omega (arith, h)

-- Given are the procedures that may be called.
module _ (single : Procedure → Bool) (May : Procedure → Type 0) where
  -- no fork, and no call but of these
  abbrev Fits : Instruction → Type 0
  Fits (Integer to number) = Unit {0}
  Fits (Text to text) = Unit {0}
  Fits (Copy to from) = Unit {0}
  Fits (Build to symbol arguments) = Unit {0}
  Fits (Split whole symbol arguments) = Unit {0}
  Fits (Literal whole symbol) = Unit {0}
  Fits (Test one other) = Unit {0}
  Fits (Arithmetic operation result one other) = Unit {0}
  Fits (Compare comparison one other) = Unit {0}
  Fits (Raise text) = Unit {0}
  Fits (Jump skipped) = Unit {0}
  Fits (Switch whole arms) = Unit {0}
  Fits (Try skipped) = Unit {0}
  Fits (Mark mark) = Unit {0}
  Fits (Commit mark) = Unit {0}
  Fits (Soften mark) = Unit {0}
  Fits (Call procedure arguments) = May procedure
  Fits Return = Unit {0}
  Fits Fail = Unit {0}
  Fits (Answer variables) = Unit {0}
  Fits (Fork site) = ⊥
  Fits (Wait variable) = Unit {0}
  Fits (Signal variable) = Unit {0}
  Fits Close = Unit {0}

  abbrev AllFit : Code → Type 0
  AllFit code = AllByRecursion Fits code

  abbrev Calls : List Procedure → Type 0
  Calls called = AllByRecursion May called

  build-fits : (whole : ℕ) (symbol : Symbol) (arguments : List ℕ) → Fits (build_code whole symbol arguments)
  build-fits whole (IntegerSymbol number) [] = tt
  build-fits whole (IntegerSymbol number) (x ∷ xs) = tt
  build-fits whole (TextSymbol text) [] = tt
  build-fits whole (TextSymbol text) (x ∷ xs) = tt
  build-fits whole (Constructor name arity) arguments = tt

  split-fits : (whole : ℕ) (symbol : Symbol) (arguments : List ℕ) → Fits (split_code whole symbol arguments)
  split-fits whole (IntegerSymbol number) [] = tt
  split-fits whole (IntegerSymbol number) (x ∷ xs) = tt
  split-fits whole (TextSymbol text) [] = tt
  split-fits whole (TextSymbol text) (x ∷ xs) = tt
  split-fits whole (Constructor name arity) arguments = tt

  leaving-fits : (once : Bool) (mark : ℕ) → Fits (leaving once mark)
  leaving-fits true mark = tt
  leaving-fits false mark = tt

  -- one of two
  chosen-fits : (b : Bool) (one other : Code) → AllFit one → AllFit other → AllFit (if b then one else other)
  chosen-fits true one other h k = h
  chosen-fits false one other h k = k

  basic-fits : (g : BasicGoal) → Calls (calls_of_basic g) → (k : Code) → AllFit k → AllFit (basic_code g k)
  basic-fits True c k h = h
  basic-fits FailGoal c k h = (tt, h)
  basic-fits (Assign to from) c k h = (tt, h)
  basic-fits (TestGoal one other) c k h = (tt, h)
  basic-fits (BuildGoal whole symbol arguments) c k h = (build-fits whole symbol arguments, h)
  basic-fits (SplitGoal whole symbol arguments) c k h = (split-fits whole symbol arguments, h)
  basic-fits (ArithmeticGoal operation result left right) c k h = (tt, h)
  basic-fits (CompareGoal test left right) c k h = (tt, h)
  basic-fits (RaiseGoal text) c k h = (tt, h)
  basic-fits (CallGoal procedure arguments) c k h = (c.0, h)
  basic-fits (WaitGoal variable conjunct) c k h = (tt, h)
  basic-fits (SignalGoal variable conjunct) c k h = (tt, h)

  mutual
    goal-fits : (g : Goal) → goal_forks g ≡ 0 → Calls (goal_calls g) → (m : ℕ) (k : Code) → AllFit k → AllFit (goal_code single g m k)
    goal-fits (Basic g) f c m k h = basic-fits g c k h
    goal-fits (Conjunction Sequential ns) f c m k h = all-fits ns f c m k h
    goal-fits (Conjunction (Parallel None) ns) f c m k h = absurd (omega (arith, f))
    goal-fits (Conjunction (Parallel (Some site)) ns) f c m k h = absurd (omega (arith, f))
    goal-fits (Disjunction ns) f c m k h = any-fits ns f c m k h
    goal-fits (SwitchGoal x arms) f c m k h = (tt, arms-fits arms f c m k h)
    goal-fits (Conditional (node g outputs category span) t e) f c m k h =
        let fs = rest_none (goal_forks g) (forks t + forks e) f in
        let cs = split_all May (goal_calls g) (calls_of t ++ calls_of e) c in
        let ds = split_all May (calls_of t) (calls_of e) cs.1 in (
          tt,
          (
            tt,
            goal-fits g (first_none (goal_forks g) (forks t + forks e) f) cs.0 (suc m) _ (
              leaving-fits (answers_once outputs category) m,
              node-fits t (first_none (forks t) (forks e) fs) ds.0 m _ (tt, node-fits e (rest_none (forks t) (forks e) fs) ds.1 m k h),
            ),
          ),
        )
    goal-fits (Negation (node g outputs category span)) f c m k h = (tt, (tt, goal-fits g f c (suc m) _ (tt, (tt, h))))
    goal-fits (Quantified own n) f c m k h = node-fits n f c m k h

    node-fits : (n : Node) → forks n ≡ 0 → Calls (calls_of n) → (m : ℕ) (k : Code) → AllFit k → AllFit (node_code single n m k)
    node-fits (node g outputs category span) f c m k h =
        chosen-fits (answers_once outputs category && not (quiet single g)) (Mark m ∷ goal_code single g (suc m) (Commit m ∷ k)) (goal_code single g m k)
        (tt, goal-fits g f c (suc m) (Commit m ∷ k) (tt, h)) (goal-fits g f c m k h)

    all-fits : (ns : Nodes) → all_forks ns ≡ 0 → Calls (all_calls ns) → (m : ℕ) (k : Code) → AllFit k → AllFit (all_code single ns m k)
    all-fits no_nodes f c m k h = h
    all-fits (more_nodes n ns) f c m k h =
        let cs = split_all May (calls_of n) (all_calls ns) c in
        node-fits n (first_none (forks n) (all_forks ns) f) cs.0 m (all_code single ns m k) (all-fits ns (rest_none (forks n) (all_forks ns) f) cs.1 m k h)

    any-fits : (ns : Nodes) → all_forks ns ≡ 0 → Calls (all_calls ns) → (m : ℕ) (k : Code) → AllFit k → AllFit (any_code single ns m k)
    any-fits no_nodes f c m k h = (tt, h)
    any-fits (more_nodes n ns) f c m k h =
        let cs = split_all May (calls_of n) (all_calls ns) c in
        let first = λ (rest : Code) (r : AllFit rest). node-fits n (first_none (forks n) (all_forks ns) f) cs.0 m rest r in
        chosen-fits (are_none ns) (node_code single n m k) (Try (suc (length (node_code single n m []))) ∷ node_code single n m (Jump (length (any_code single ns m [])) ∷ any_code single ns m k))
        (first k h) (tt, first (Jump (length (any_code single ns m [])) ∷ any_code single ns m k) (tt, any-fits ns (rest_none (forks n) (all_forks ns) f) cs.1 m k h))

    arms-fits : (arms : Arms) → arm_forks arms ≡ 0 → Calls (arm_calls arms) → (m : ℕ) (k : Code) → AllFit k → AllFit (arms_code single arms m k)
    arms-fits no_arms f c m k h = h
    arms-fits (more_arms s n arms) f c m k h =
        let cs = split_all May (calls_of n) (arm_calls arms) c in
        let first = λ (rest : Code) (r : AllFit rest). node-fits n (first_none (forks n) (arm_forks arms) f) cs.0 m rest r in
        chosen-fits (are_no_arms arms) (node_code single n m k) (node_code single n m (Jump (length (arms_code single arms m [])) ∷ arms_code single arms m k))
        (first k h) (first (Jump (length (arms_code single arms m [])) ∷ arms_code single arms m k) (tt, arms-fits arms (rest_none (forks n) (arm_forks arms) f) cs.1 m k h))

default_same : {X : Type 0} (xs : List X) (k : ℕ) (d e : X) → k < length xs → slice_index_or xs k d ≡ slice_index_or xs k e
default_same [] k d e h = absurd (omega (arith, h))
default_same (x ∷ xs) zero d e h = refl
default_same (x ∷ xs) (suc k) d e h = default_same xs k d e (omega (arith, h))

-- a list contains each of its own
contains_each : {X : Type 0} (xs : List X) → AllByRecursion (λ x. Contains xs x) xs
contains_each xs = recursion_from_All (λ x. Contains xs x) xs (λ k d h. (k, h, default_same xs k (slice_index_or xs k d) d h))

node-calls : (single : Procedure → Bool) (n : Node) → forks n ≡ 0 → (k : Code) → AllFit single (λ p. Contains (calls_of n) p) k → AllFit single (λ p. Contains (calls_of n) p) (node_code single n 0 k)
node-calls single n f k h = node-fits single (λ p. Contains (calls_of n) p) n f (contains_each (calls_of n)) 0 k h

body_found : (single : Procedure → Bool) (o : Option ProcedureBody) (called : ProcedureCode) → option_map (procedure_code single) o ≡ Some called
    → (body : ProcedureBody) × (o ≡ Some body) × (procedure_code single body ≡ called)
body_found single None called e = absurd (cc)
body_found single (Some body) called e = (body, refl, same_Some (procedure_code single body) called e)

module _ (program : Program) (sites : Sites) where
  abbrev own : Procedure → Bool
  own called = is_single (program called)

  -- no fork is reached from code that calls what a goal calls from which none is reached
  reach : (code : Code) (i : Instruction) → CanReach (codes_of program sites) code i → (n : Node) → AllFit own (λ p. Contains (calls_of n) p) code
      → ((p : Procedure) (body : ProcedureBody) → CanCall program n p → program p ≡ Some body → forks body.body ≡ 0) → (site : Site) → i ≡ Fork site → ⊥
  reach code i (reaches _ _ c) n h g site e =
      let fits = Fits own (λ p. Contains (calls_of n) p) in
      subst fits e (All-contains fits code i (All-from_recursion fits code h) c)
  reach code i (reaches_by _ p arguments called _ c q r) n h g site e =
      let fits = Fits own (λ p. Contains (calls_of n) p) in
      let m : Contains (calls_of n) p = All-contains fits code (Call p arguments) (All-from_recursion fits code h) c in
      let found = body_found own (program p) called q in
      let inner = found.0.body in
      reach called.code i r inner
      (subst (λ (k : ProcedureCode). AllFit own (λ x. Contains (calls_of inner) x) k.code) found.2 (node-calls own inner (g p found.0 (calls n p m) found.1) (Return ∷ []) (tt, tt)))
      (λ x body can same. g x body (calls_by n p x found.0 m found.1 can) same) site e

  pub no-fork : (goal : Node) → HasNoFork program goal → (variables : List ℕ) → ReachesNoFork (codes_of program sites) (query_code program goal variables)
  no-fork goal h variables site r =
      reach (query_code program goal variables) (Fork site) r goal (node-calls own goal h.none_here (Answer variables ∷ []) (tt, tt)) h.none_called site refl
