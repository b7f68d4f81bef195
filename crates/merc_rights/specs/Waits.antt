-- Rights to wait, each with whether its variable is also used behind the goal that has it.
use Rattle.std.specs.Prelude.{ℕ, Bool, false, ◌==◌, ◌&&◌, not, List, length, map}
use Rattle.std.specs.List.{filter}
use Rattle.merc_graded_tree.specs.Nodes.{Nodes}
use Rattle.merc_rights.specs.declared.rights.Awaited.{Awaited}
use Rattle.merc_rights.specs.Rights.{Right, users}

abbrev pub rights_of : List Awaited → List Right
rights_of waits = map (λ wait. wait.right) waits

-- a right whose variable is not used behind
abbrev pub fresh : Right → Awaited
fresh right = record { right = right; later = false }

abbrev pub those_waits : (ℕ → Bool) → List Awaited → List Awaited
those_waits such waits = filter (λ wait. such wait.right.variable) waits

abbrev pub others : (ℕ → Bool) → ℕ → Bool
others such variable = not (such variable)

-- the right moves into the one conjunct that uses the variable
abbrev pub moves : Nodes → Awaited → Bool
moves goals wait = not wait.later && (length (users 1 goals wait.right.variable) == 1)

abbrev pub stays : Nodes → Awaited → Bool
stays goals wait = not (moves goals wait)
