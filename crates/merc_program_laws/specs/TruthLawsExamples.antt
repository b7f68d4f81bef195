-- Worked examples of the laws of order and truth. `equal(X, Y) :- X = Y.` has the modes `(in, out)` and `(in, in)`.
use Rattle.std.specs.Prelude.{◌≡◌, ◌↔◌, ℕ, zero, suc, List, [], ◌∷◌, Some, None, slice_get, refl}
use Rattle.std.proofs.Common.{inl, inr, ap, sym, subst, ◌∙◌}
use Rattle.merc_base.specs.declared.category.Category.TheVariants.{Det, Semidet}
use Rattle.merc_tree.specs.Types.{IntType}
use Rattle.merc_tree.specs.declared.declarations.Arg.TheVariants.{Input, Output}
use Rattle.merc_tree.specs.declared.declarations.ModeDecl.{ModeDecl}
use Rattle.merc_tree.specs.declared.declarations.PredDecl.{PredDecl}
use Rattle.merc_value.specs.Value.{Text}
use Rattle.merc_goal_tree.specs.declared.goal.SimpleGoal.TheVariants.{True, Fail, Same, Shape, Call}
use Rattle.merc_goal_tree.specs.Nodes.{Node, Simple, Parallel, nodes_of}
use Rattle.merc_graded_tree.specs.declared.basic.BasicGoal.{BasicGoal}
use Rattle.merc_graded_tree.specs.declared.basic.BasicGoal.TheVariants.{True as TrueGoal, Fail as FailGoal, Assign, Test, Split, Call as CallGoal}
use Rattle.merc_graded_tree.specs.declared.entries.Running.TheVariants.{Parallel as Beside}
use Rattle.merc_graded_tree.specs.Nodes.{Node as OrderedNode, node, Basic, Conjunction as OrderedConjunction, nodes_of as ordered_nodes}
use Rattle.merc_order.specs.OrderExamples.{at, mode, x, y, one}
use Rattle.merc_order.specs.Ordered.{Ordered, put, Ready, Assign as AssignOrdered, Test as TestOrdered}
use Rattle.merc_order.specs.Procedures.{modes_of, first_fresh, numbers_below}
use Rattle.merc_order.specs.Spelt.{spelt}
use Rattle.merc_meaning.specs.Runs.{Program, ProcedureBody}
use Rattle.merc_meaning.specs.Truth.{Assignment, IsAssignment, Outside, YesAt, NoAt}
use Rattle.merc_program_laws.specs.Plain.{plain}
use Rattle.merc_program_laws.specs.Programs.{flat_program, IsThere, IsOrderedProcedure, IsOrderedProgram}
use Rattle.merc_program_laws.specs.TruthLaws.{SameTruth}

abbrev basic : BasicGoal → List ℕ → OrderedNode
basic goal outputs = node (Basic goal) outputs None (at 5)

-- Flat goals read as ordered goals

equality : plain (Simple (Same x y) (at 5)) ≡ basic (Test x y) []
equality = refl

shape : plain (Simple (Shape x one []) (at 5)) ≡ basic (Split x one []) []
shape = refl

call : plain (Simple (Call 3 (x ∷ [])) (at 5)) ≡ basic (CallGoal (record { predicate = 3; mode = 0 }) (x ∷ [])) []
call = refl

beside : plain (Parallel (nodes_of (Simple True (at 5) ∷ Simple Fail (at 5) ∷ [])) (at 5)) ≡ node (OrderedConjunction (Beside None) (ordered_nodes (basic TrueGoal [] ∷ basic FailGoal [] ∷ []))) [] None (at 5)
beside = refl

-- A module and its programs

abbrev equal : PredDecl
equal = record { name = 100; args = IntType ∷ IntType ∷ []; modes = mode (Input ∷ Output ∷ []) Det ∷ mode (Input ∷ Input ∷ []) Semidet ∷ []; span = at 0; unit = None }

abbrev predicates : List PredDecl
predicates = equal ∷ []

abbrev body : Node
body = Simple (Same x y) (at 5)

abbrev flat : ProcedureBody
flat = record { places = Output ∷ Output ∷ []; body = basic (Test x y) [] }

any_mode : flat_program predicates (body ∷ []) (record { predicate = 0; mode = 0 }) ≡ Some flat
any_mode = refl

any_other_mode : flat_program predicates (body ∷ []) (record { predicate = 0; mode = 1 }) ≡ Some flat
any_other_mode = refl

no_predicate : flat_program predicates (body ∷ []) (record { predicate = 1; mode = 0 }) ≡ None
no_predicate = refl

abbrev forward : ProcedureBody
forward = record { places = Input ∷ Output ∷ []; body = basic (Assign y x) (y ∷ []) }

abbrev tested : ProcedureBody
tested = record { places = Input ∷ Input ∷ []; body = basic (Test x y) [] }

abbrev program : Program
program procedure = slice_get (forward ∷ tested ∷ []) procedure.mode

some_is : {T : Type 0} (one other : T) → Some one ≡ Some other → one ≡ other
some_is one other h = cc

each_mode : (number : ℕ) (own : ModeDecl) → slice_get equal.modes number ≡ Some own → IsOrderedProcedure (modes_of predicates) equal body own (slice_get (forward ∷ tested ∷ []) number)
each_mode zero own h = subst (λ (m : ModeDecl). IsOrderedProcedure (modes_of predicates) equal body m (Some forward)) (some_is (mode (Input ∷ Output ∷ []) Det) own h) (refl, (put (AssignOrdered y x) (y ∷ []) (at 5), refl, refl))
each_mode (suc zero) own h = subst (λ (m : ModeDecl). IsOrderedProcedure (modes_of predicates) equal body m (Some tested)) (some_is (mode (Input ∷ Input ∷ []) Semidet) own h) (refl, (put (TestOrdered x y) [] (at 5), refl, refl))
each_mode (suc (suc number)) own h = absurd cc

each : (predicate number : ℕ) (declared : PredDecl) (goal : Node) (own : ModeDecl) → slice_get predicates predicate ≡ Some declared → slice_get (body ∷ []) predicate ≡ Some goal → slice_get declared.modes number ≡ Some own
    → IsOrderedProcedure (modes_of predicates) declared goal own (slice_get (forward ∷ tested ∷ []) number)
each (suc predicate) number declared goal own p g m = absurd cc
each zero number declared goal own p g m =
    let e : equal ≡ declared = some_is equal declared p in
    subst (λ (d : PredDecl). IsOrderedProcedure (modes_of predicates) d goal own (slice_get (forward ∷ tested ∷ []) number)) e
    (subst (λ (z : Node). IsOrderedProcedure (modes_of predicates) equal z own (slice_get (forward ∷ tested ∷ []) number)) (some_is body goal g)
    (each_mode number own (ap (λ (d : PredDecl). slice_get d.modes number) e ∙ m)))

ordered-program : IsOrderedProgram predicates (body ∷ []) program
ordered-program = record {
  has_bodies = refl;
  modes_fit = ((refl, (refl, tt)), tt);
  is_ordered = λ procedure declared goal own there. each procedure.predicate procedure.mode declared goal own there.has_predicate there.has_goal there.has_mode;
}

no_bodies : IsOrderedProgram predicates [] program → ⊥
no_bodies ordered = let one_each = ordered.has_bodies in cc

there : IsThere predicates (body ∷ []) (record { predicate = 0; mode = 1 }) equal body (mode (Input ∷ Input ∷ []) Semidet)
there = record { has_predicate = refl; has_goal = refl; has_mode = refl }

no_mode : (own : ModeDecl) → IsThere predicates (body ∷ []) (record { predicate = 0; mode = 2 }) equal body own → ⊥
no_mode own is_there = let found = is_there.has_mode in cc

-- with both arguments bound nothing is assigned
test_is : (ordered : Ordered) → Ready (put (TestOrdered x y) [] (at 5)) ≡ Ready ordered → put (TestOrdered x y) [] (at 5) ≡ ordered
test_is ordered h = cc

no_assignment : IsOrderedProcedure (modes_of predicates) equal body (mode (Input ∷ Input ∷ []) Semidet) (Some (record { places = Input ∷ Input ∷ []; body = basic (Assign y x) (y ∷ []) })) → ⊥
no_assignment h =
    let tree_is : basic (Assign y x) (y ∷ []) ≡ basic (Test x y) [] = h.1.2 ∙ ap (λ (o : Ordered). spelt (modes_of predicates) (first_fresh (numbers_below 2) body) o) (sym (test_is h.1.0 h.1.1)) in
    cc

no_procedure : IsOrderedProcedure (modes_of predicates) equal body (mode (Input ∷ Input ∷ []) Semidet) None → ⊥
no_procedure h = h

-- An equality has no direction; `true` and `fail` are not the same.

turned_yes : (stage : ℕ) (outside : Outside) (values : Assignment) → YesAt program stage outside (basic (Test x y) []) values ↔ YesAt program stage outside (basic (Assign y x) (y ∷ [])) values
turned_yes stage outside values = (λ h. (h.0, (h.1.0, h.1.1, h.1.2, sym h.1.3)), λ h. (h.0, (h.1.0, h.1.1, h.1.2, sym h.1.3)))

turned_no : (stage : ℕ) (outside : Outside) (values : Assignment) → NoAt program stage outside (basic (Test x y) []) values ↔ NoAt program stage outside (basic (Assign y x) (y ∷ [])) values
turned_no stage outside values = (there, return) where
  there : NoAt program stage outside (basic (Test x y) []) values → NoAt program stage outside (basic (Assign y x) (y ∷ [])) values
  there (inl z) = inl z
  there (inr h) = inr (λ others are agree e. h others are agree (sym e))

  return : NoAt program stage outside (basic (Assign y x) (y ∷ [])) values → NoAt program stage outside (basic (Test x y) []) values
  return (inl z) = inl z
  return (inr h) = inr (λ others are agree e. h others are agree (sym e))

turned : (outside : Outside) → SameTruth program program outside (basic (Test x y) []) (basic (Assign y x) (y ∷ []))
turned outside stage values are = (turned_yes stage outside values, turned_no stage outside values)

abbrev sevens : Assignment
sevens variable = Text 7

sevens-are_values : IsAssignment sevens
sevens-are_values variable = tt

not_the_same : (outside : Outside) → SameTruth program program outside (basic TrueGoal []) (basic FailGoal []) → ⊥
not_the_same outside same = ((same 0 sevens sevens-are_values).0.0 ((λ h. h), (sevens, sevens-are_values, (λ variable is_outside. refl), tt))).1.3
