-- Literals in written goals, and the bodies of `same(T, T)` with the mode `(in, out)`.
use Rattle.std.specs.Prelude.{◌≡◌, ℕ, List, [], ◌∷◌, map, Option, Some, None, pos, refl}
use Rattle.std.proofs.Common.{ap}
use Rattle.merc_base.specs.declared.category.Category.{Category}
use Rattle.merc_base.specs.declared.category.Category.TheVariants.{Det, Semidet, Erroneous}
use Rattle.merc_tree.specs.Term.{no_span}
use Rattle.merc_tree.specs.declared.declarations.Arg.TheVariants.{Input, Output}
use Rattle.merc_goal_tree.specs.declared.goal.SimpleGoal.{SimpleGoal}
use Rattle.merc_goal_tree.specs.declared.goal.SimpleGoal.TheVariants.{Same, Shape}
use Rattle.merc_goal_tree.specs.declared.goal.Symbol.TheVariants.{Constructor, Integer, Text}
use Rattle.merc_goal_tree.specs.Nodes.{Node, Simple, Negation}
use Rattle.merc_graded_tree.specs.declared.basic.BasicGoal.TheVariants.{Assign}
use Rattle.merc_graded_tree.specs.Nodes.{node, Basic, category_of}
use Rattle.merc_grading.specs.Faults.{Procedure, Body}
use Rattle.merc_program_laws.specs.GoodProgramsExamples.{example, same}
use Rattle.merc_program_laws.specs.OrderedBodiesExamples.{body, is_ordered}
use Rattle.merc_program_laws.specs.ProgramBodies.{HasWrittenLiterals, AreOrderedProcedures, finished_bodies, UnitsAllow}

-- a negation, so that a part is looked at
abbrev denied : SimpleGoal → Node
denied goal = Negation (Simple goal no_span) no_span

variables : HasWrittenLiterals (denied (Same 0 1))
variables = (tt, tt)

constructor : HasWrittenLiterals (denied (Shape 0 (Constructor 60 1) (1 ∷ [])))
constructor = (tt, tt)

text : HasWrittenLiterals (denied (Shape 0 (Text 70) []))
text = (refl, tt)

text_with_argument : HasWrittenLiterals (denied (Shape 0 (Text 70) (1 ∷ []))) → ⊥
text_with_argument h = cc h.0

integer_with_argument : HasWrittenLiterals (denied (Shape 0 (Integer (pos 1)) (1 ∷ []))) → ⊥
integer_with_argument h = cc h.0.1

-- the predicate in its mode, of the file or of a library unit

abbrev procedure_of : Option ℕ → Category → Procedure
procedure_of unit category = record {
  predicate = record { name = 83; args = (same Semidet).args; modes = (same category).modes; span = no_span; unit = unit };
  mode = record { args = Input ∷ Output ∷ []; category = category; span = no_span };
}

abbrev own : Procedure
own = procedure_of None Semidet

ordered : AreOrderedProcedures (example Semidet) (own ∷ []) (body ∷ [])
ordered = (is_ordered, tt)

no_body : AreOrderedProcedures (example Semidet) (own ∷ []) [] → ⊥
no_body h = h

body_too_many : AreOrderedProcedures (example Semidet) (own ∷ []) (body ∷ body ∷ []) → ⊥
body_too_many h = h.1

finished : finished_bodies (example Semidet) (own ∷ []) (body ∷ []) ≡ record { types = body.types; tree = node (Basic (Assign 1 0)) (1 ∷ []) (Some Det) no_span } ∷ []
finished = refl

not_finished : finished_bodies (example Semidet) (own ∷ []) (body ∷ []) ≡ body ∷ [] → ⊥
not_finished wrong =
    let categories : ◌≡◌ {A = List (Option Category)} (Some Det ∷ []) (None ∷ []) = ap (map (λ (one : Body). category_of one.tree)) wrong in
    cc

-- A unit may declare `semidet` for this det body, and not `erroneous`. Of the file's own procedures nothing is asked here.

unit_allows : UnitsAllow (example Semidet) (procedure_of (Some 1) Semidet ∷ []) (body ∷ [])
unit_allows = ((λ h. refl), tt)

unit_refuses : UnitsAllow (example Semidet) (procedure_of (Some 1) Erroneous ∷ []) (body ∷ []) → ⊥
unit_refuses h = cc (h.0 refl)

own_not_asked : UnitsAllow (example Semidet) (procedure_of None Erroneous ∷ []) (body ∷ [])
own_not_asked = ((λ h. absurd cc), tt)
