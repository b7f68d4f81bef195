-- Worked examples of what goals and code can reach by calls: procedure 0 calls procedure 1, procedure 2 has an `&`, and procedure 3 calls it.
use Rattle.std.specs.Prelude.{ℕ, List, [], ◌∷◌, slice_get, refl}
use Rattle.std.specs.List.{Contains}
use Rattle.std.proofs.Common.{arith}
use Rattle.merc_graded_tree.specs.declared.basic.BasicGoal.TheVariants.{Call}
use Rattle.merc_graded_tree.specs.Nodes.{Node}
use Rattle.merc_meaning.specs.Runs.{Program, ProcedureBody}
use Rattle.merc_meaning.specs.RunExamples.{basic, procedure, truth}
use Rattle.merc_code.specs.declared.instruction.Instruction.TheVariants.{Call as CallInstruction, Fork, Return, Answer}
use Rattle.merc_code.specs.Steps.{Codes}
use Rattle.merc_gen.specs.Generated.{codes_of, query_code}
use Rattle.merc_gen.specs.Sites.{conjuncts_at}
use Rattle.merc_gen.specs.SitesExamples.{fork, inner}
use Rattle.merc_gen.specs.Calling.{CanCall, calls, calls_by, HasNoFork, reaches, reaches_by, ReachesNoFork}

is_first : {X : Type 0} (x : X) (xs : List X) → Contains (x ∷ xs) x
is_first x xs = (0, omega arith, refl)

abbrev calls_to : ℕ → Node
calls_to number = basic (Call (procedure number) []) []

abbrev body : Node → ProcedureBody
body tree = record { places = []; body = tree }

abbrev program : Program
program called = slice_get (body (calls_to 1) ∷ body truth ∷ body (fork 0 inner) ∷ body (calls_to 2) ∷ []) called.predicate

calls-example : CanCall program (calls_to 0) (procedure 0)
calls-example = calls _ _ (is_first (procedure 0) [])

calls-through : CanCall program (calls_to 0) (procedure 1)
calls-through = calls_by _ _ _ _ (is_first (procedure 0) []) refl (calls _ _ (is_first (procedure 1) []))

-- a goal that calls one which calls one that has an `&`
fork-reached : HasNoFork program (calls_to 3) → ⊥
fork-reached none = absurd (let k = none.none_called (procedure 2) (body (fork 0 inner)) (calls_by _ _ _ _ (is_first (procedure 3) []) refl (calls _ _ (is_first (procedure 2) []))) refl in cc)

fork-here : HasNoFork program (fork 0 inner) → ⊥
fork-here none = absurd (let k = none.none_here in cc)

abbrev codes : Codes
codes = codes_of program (conjuncts_at (inner ∷ []))

code-reaches : ReachesNoFork codes (query_code program (calls_to 3) []) → ⊥
code-reaches none =
    none (record { number = 0 })
    (reaches_by (CallInstruction (procedure 3) [] ∷ Answer [] ∷ []) (procedure 3) [] _ _ (is_first (CallInstruction (procedure 3) []) (Answer [] ∷ [])) refl
    (reaches_by (CallInstruction (procedure 2) [] ∷ Return ∷ []) (procedure 2) [] _ _ (is_first (CallInstruction (procedure 2) []) (Return ∷ [])) refl
    (reaches (Fork (record { number = 0 }) ∷ Return ∷ []) _ (is_first (Fork (record { number = 0 })) (Return ∷ [])))))
