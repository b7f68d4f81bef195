-- The script of an accepted goal that can reach no `&` is plain: its course forks nothing, and so it uses no rights, since the goal holds none and forks alone
-- give any.
use Rattle.std.proofs.Common.{◌≡◌, ℕ, zero, suc, ◌+◌, ◌<◌, true, false, List, [], ◌∷◌, length, drop, Option, Some, None, refl, ap, sym, ◌∙◌, subst, arith}
use Rattle.std.specs.List.{AllByRecursion, Contains, slice_index_or}
use Rattle.std.specs.Option.{option_map}
use Rattle.std.proofs.lemmas.List.Elements.{recursion_from_All}
use Rattle.merc_tree.specs.Types.{IntType}
use Rattle.merc_tree.specs.declared.declarations.ModeDecl.{ModeDecl}
use Rattle.merc_tree.specs.declared.declarations.PredDecl.{PredDecl}
use Rattle.merc_tree.specs.declared.declarations.Module.{Module}
use Rattle.merc_graded_tree.specs.declared.basic.Procedure.{Procedure}
use Rattle.merc_graded_tree.specs.Nodes.{Node}
use Rattle.merc_order.specs.Bound.{nothing, among}
use Rattle.merc_meaning.specs.Runs.{Program, ProcedureBody, call_trace}
use Rattle.merc_meaning.specs.Programs.{body_of, body_of_mode, program_with}
use Rattle.merc_program_laws.proofs.Values.{Instance}
use Rattle.merc_script.specs.Script.{Script, Ends, TickThen, WaitThen, SignalThen, ForkThen}
use Rattle.merc_par_split.specs.Forks.{forks}
use Rattle.merc_par_split.specs.Sites.{all_sites}
use Rattle.merc_par_split.specs.Split.{split, all_split}
use Rattle.merc_par_split.specs.SplitLaws.{calls_of, split_body}
use Rattle.merc_par_split.proofs.Counting.{split_forks, split_calls}
use Rattle.merc_gen.specs.Calling.{calls, calls_by, HasNoFork}
use Rattle.merc_plan.specs.Branch.{Hold, BranchCourse, Over, Breaks, Steps, Finds, Awaits, Gives, Forks, Raised, TooDeep, Starving}
use Rattle.merc_plan.specs.Hold.{holding}
use Rattle.merc_plan.specs.Branches.{Plan, node_branch, body_branch, call_branch, first_name, root_branch}
use Rattle.merc_plan.specs.BranchScript.{script, numbered, no_numbers}
use Rattle.merc_plan.proofs.Judging.{Quiet}
use Rattle.merc_carried.specs.Plain.{IsPlain}
use Rattle.merc_script_laws.specs.ScriptLaws.{split_goal, split_plan, split_program}
use Rattle.merc_script_laws.proofs.AcceptedSound.{IsSoundGoal, IsSoundProgram, accepted_sound, accepted_goal_sound}
use Rattle.merc_script_laws.proofs.CallTrees.{AllGo}
use Rattle.merc_script_laws.proofs.Top.{alone_quiet}
use Rattle.merc_script_laws.proofs.Trees.{goes_node}
use Rattle.merc_shown_laws.specs.PlainLaws.{GoalsWithoutForksArePlain}
use Rattle.merc_shown_laws.proofs.Forkless.{Forkless, CallsForkless, node_forkless}

-- Scripts of courses that fork nothing and use no rights.

plain_script : (t : BranchCourse) (next left made : ℕ) (given : List ℕ) → Forkless t → Quiet next [] t → IsPlain (script true left made given t)
plain_script Over next left made given f q = tt
plain_script (Breaks (Raised text)) next left made given f q = tt
plain_script (Breaks TooDeep) next left made given f q = tt
plain_script (Breaks Starving) next left made given f q = tt
plain_script (Steps t) next zero made given f q = tt
plain_script (Steps t) next (suc left) made given f q = plain_script t next left (suc made) given f q
plain_script (Finds hold t) next left made given f q = plain_script t next left made given f q
plain_script (Awaits c v t) next left made given f q = absurd (let no : false ≡ true = q.0 in cc)
plain_script (Gives c v t) next left made given f q = absurd q
plain_script (Forks i x kids t) next left made given f q = absurd f

plain_numbered : (numbers : ℕ → ℕ) (first : ℕ) (s : Script) → IsPlain s → IsPlain (numbered numbers first s)
plain_numbered numbers first (Ends end) h = tt
plain_numbered numbers first (TickThen s) h = plain_numbered numbers first s h
plain_numbered numbers first (WaitThen c s) h = absurd h
plain_numbered numbers first (SignalThen c s) h = absurd h
plain_numbered numbers first (ForkThen l cells moves all s) h = absurd h

-- The split program has the split tree of each procedure, and no others.

in_modes : (modes : List ModeDecl) (trees : List Node) (site number : ℕ)
    → (own : ℕ) × (body_of_mode modes (all_split site trees) number ≡ option_map (split_body own) (body_of_mode modes trees number))
in_modes [] trees site number = (0, refl)
in_modes (mode ∷ modes) [] site number = (0, refl)
in_modes (mode ∷ modes) (tree ∷ trees) site zero = (site, refl)
in_modes (mode ∷ modes) (tree ∷ trees) site (suc number) = in_modes modes trees (site + forks tree) number

dropped : (n : ℕ) (trees : List Node) (site : ℕ) → (later : ℕ) × (drop n (all_split site trees) ≡ all_split later (drop n trees))
dropped zero trees site = (site, refl)
dropped (suc n) [] site = (site, refl)
dropped (suc n) (tree ∷ trees) site = dropped n trees (site + forks tree)

in_predicates : (predicates : List PredDecl) (trees : List Node) (site predicate number : ℕ)
    → (own : ℕ) × (body_of predicates (all_split site trees) predicate number ≡ option_map (split_body own) (body_of predicates trees predicate number))
in_predicates [] trees site predicate number = (0, refl)
in_predicates (declared ∷ rest) trees site zero number = in_modes declared.modes trees site number
in_predicates (declared ∷ rest) trees site (suc predicate) number =
    let many = length declared.modes in
    let d = dropped many trees site in
    let found = in_predicates rest (drop many trees) d.0 predicate number in
    (found.0, ap (λ (l : List Node). body_of rest l predicate number) d.1 ∙ found.1)

-- A list contains each of its own.

default_same : {X : Type 0} (xs : List X) (k : ℕ) (d e : X) → k < length xs → slice_index_or xs k d ≡ slice_index_or xs k e
default_same [] k d e h = absurd (omega (arith, h))
default_same (x ∷ xs) zero d e h = refl
default_same (x ∷ xs) (suc k) d e h = default_same xs k d e (omega (arith, h))

of_own : {X : Type 0} (P : X → Type 0) (xs : List X) → ((x : X) → Contains xs x → P x) → AllByRecursion P xs
of_own P xs h = recursion_from_All P xs (λ k d few. h (slice_index_or xs k d) (k, few, default_same xs k (slice_index_or xs k d) d few))

-- Given are a program of such trees, and a plan.
module _ (predicates : List PredDecl) (trees : List Node) (plan : Plan) where
  abbrev program : Program
  program = program_with predicates trees

  abbrev split_trees : Program
  split_trees = split_program predicates trees

  -- No body of the procedure can reach an `&`.
  abbrev IsFree : Procedure → Type 0
  IsFree p = (body : ProcedureBody) → program p ≡ Some body → HasNoFork program body.body

  called_free : (goal : Node) → HasNoFork program goal → (p : Procedure) → Contains (calls_of goal) p → IsFree p
  called_free goal none p c body e = record {
    none_here = none.none_called p body (calls goal p c) e;
    none_called = λ other called reaches there. none.none_called other called (calls_by goal p other body c e reaches) there;
  }

  -- calls up to this depth
  abbrev Within : ℕ → Type 0
  Within depth = (p : Procedure) → IsFree p → CallsForkless (call_branch plan split_trees depth) p

  goal_within : (depth : ℕ) → Within depth → (site : ℕ) (goal : Node) → HasNoFork program goal → (hold : Hold)
      → Forkless (node_branch plan split_trees (call_branch plan split_trees depth) (split site goal) hold)
  goal_within depth within site goal none hold =
      node_forkless plan split_trees (call_branch plan split_trees depth) (split site goal) (split_forks site goal ∙ none.none_here)
      (subst (λ (l : List Procedure). AllByRecursion (CallsForkless (call_branch plan split_trees depth)) l) (sym (split_calls site goal))
      (of_own (CallsForkless (call_branch plan split_trees depth)) (calls_of goal) (λ p c. within p (called_free goal none p c))))
      hold

  body_within : (depth : ℕ) → Within depth → (site : ℕ) (place : Option ProcedureBody)
      → ((body : ProcedureBody) → place ≡ Some body → HasNoFork program body.body) → (hold : Hold)
      → Forkless (body_branch plan split_trees (call_branch plan split_trees depth) (option_map (split_body site) place) hold)
  body_within depth within site None free hold = tt
  body_within depth within site (Some body) free hold = goal_within depth within site body.body (free body refl) hold

  within : (depth : ℕ) → Within depth
  within zero p free hold = tt
  within (suc depth) p free hold =
      let place = in_predicates predicates trees 0 p.predicate p.mode in
      subst (λ (o : Option ProcedureBody). Forkless (body_branch plan split_trees (call_branch plan split_trees depth) o hold)) (sym place.1)
      (body_within depth (within depth) place.0 (program p) free hold)

  pub goal_forkless : (depth site : ℕ) (goal : Node) → HasNoFork program goal → (hold : Hold)
      → Forkless (node_branch plan split_trees (call_branch plan split_trees depth) (split site goal) hold)
  goal_forkless depth site goal none hold = goal_within depth (within depth) site goal none hold

-- what type variables stand for is not seen
abbrev any : Instance
any x = IntType

all_go : (known : Module) (trees : List Node) (sound : IsSoundProgram known trees) (tree : Node)
    → AllGo known (program_with known.preds trees) (split_plan trees tree) (split_program known.preds trees)
all_go known trees sound tree types i depth lawful course go n site =
    let program = program_with known.preds trees in
    goes_node known types i sound.good_types program (call_trace program depth) lawful (split_plan trees tree) (split_program known.preds trees) course go
    (depth, refl) n site

pub scripts_are_plain : GoalsWithoutForksArePlain
scripts_are_plain before after text items found trees is names asked goal accepted tree graded limit few none =
    let sound = accepted_sound before after text items found trees is in
    let g : IsSoundGoal found tree = accepted_goal_sound before after text items found trees is names asked goal accepted tree graded in
    let plan = split_plan trees tree in
    let course = root_branch plan (split_program found.preds trees) (suc limit) (split_goal trees tree) in
    plain_numbered no_numbers 0 (script true limit 0 [] course)
    (plain_script course first_name limit 0 []
    (goal_forkless found.preds trees plan (suc limit) (length (all_sites trees)) tree none (holding [] first_name))
    (alone_quiet found trees sound g.types any (among g.answers) nothing [] tree (g.sound any) (g.fits any) (all_go found trees sound tree) limit))
