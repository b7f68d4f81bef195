-- The mode that a call takes, and the places of a goal that become tests.
use Rattle.std.specs.Prelude.{ℕ, suc, Bool, true, false, ◌==◌, ◌||◌, nat_lt, List, [], ◌∷◌, Option, Some, None, if◌then◌else◌}
use Rattle.std.specs.List.{list_any}
use Rattle.merc_base.specs.Category.{most_of}
use Rattle.merc_base.specs.declared.category.Most.{Most}
use Rattle.merc_base.specs.declared.category.Most.TheVariants.{Zero, One, Many}
use Rattle.merc_tree.specs.declared.declarations.Arg.{Arg}
use Rattle.merc_tree.specs.declared.declarations.Arg.TheVariants.{Input, Output}
use Rattle.merc_tree.specs.declared.declarations.ModeDecl.{ModeDecl}
use Rattle.merc_order.specs.Bound.{Bound, are_bound}

-- the arguments of a call that a mode has bound before
abbrev pub inputs_of : List Arg → List ℕ → List ℕ
inputs_of [] arguments = []
inputs_of (place ∷ places) [] = []
inputs_of (Input ∷ places) (argument ∷ arguments) = argument ∷ inputs_of places arguments
inputs_of (Output ∷ places) (argument ∷ arguments) = inputs_of places arguments

-- how many inputs a mode has
abbrev pub width : List Arg → ℕ
width [] = 0
width (Input ∷ places) = suc (width places)
width (Output ∷ places) = width places

-- Of two modes with their numbers the one with more inputs, the first where they have as many.
abbrev pub wider : ℕ → ModeDecl → Option (ℕ × ModeDecl) → ℕ × ModeDecl
wider number mode None = (number, mode)
wider number mode (Some other) = if nat_lt (width mode.args) (width other.1.args) then other else (number, mode)

-- The mode that a call takes of these, numbered from here on: of those whose inputs are bound, the first with the most.
abbrev pub taken_from : ℕ → Bound → List ℕ → List ModeDecl → Option (ℕ × ModeDecl)
taken_from number bound arguments [] = None
taken_from number bound arguments (mode ∷ modes) =
    if are_bound bound (inputs_of mode.args arguments)
    then Some (wider number mode (taken_from (suc number) bound arguments modes))
    else taken_from (suc number) bound arguments modes

abbrev pub may_answer : Most → Bool
may_answer Zero = false
may_answer One = true
may_answer Many = true

-- A call's end can be reached unless each mode of its predicate is declared `failure` or `erroneous`.
abbrev pub can_succeed : List ModeDecl → Bool
can_succeed modes = list_any (λ mode. may_answer (most_of mode.category)) modes

-- Of variables that a goal writes, those that are bound before, or by a place before them: each becomes a fresh variable, with a test behind the goal.
abbrev pub tested : Bound → List ℕ → List Bool
tested bound [] = []
tested bound (variable ∷ others) = bound variable ∷ tested (λ other. bound other || (other == variable)) others

-- the same of a call, where an input is no test
abbrev pub call_tested : Bound → List Arg → List ℕ → List Bool
call_tested bound [] arguments = []
call_tested bound (place ∷ places) [] = []
call_tested bound (Input ∷ places) (argument ∷ arguments) = false ∷ call_tested bound places arguments
call_tested bound (Output ∷ places) (argument ∷ arguments) = bound argument ∷ call_tested (λ other. bound other || (other == argument)) places arguments
