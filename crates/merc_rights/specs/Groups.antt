-- Rights to signal, together by variable.
use Rattle.std.specs.Prelude.{◌≡◌, ◌==◌, ◌⊎◌, ℕ, Bool, true, false, List, [], ◌∷◌, ◌++◌, length, map, if◌then◌else◌}
use Rattle.std.specs.List.{AllByRecursion, flat_map}
use Rattle.merc_graded_tree.specs.Variables.{among}
use Rattle.merc_rights.specs.Rights.{Right, right_to, with_rights}
use Rattle.merc_rights.specs.Rows.{row_of, numbers_from}
use Rattle.merc_rights.specs.declared.groups.Group.{Group}
use Rattle.merc_rights.specs.declared.groups.NumberedGroup.{NumberedGroup}

-- the rights to signal a variable to these conjuncts, in order
abbrev pub in_order : ℕ → List ℕ → List Right
in_order variable conjuncts = with_rights (map (λ conjunct. right_to conjunct variable) conjuncts) []

abbrev pub rights_in : Group → List Right
rights_in group = in_order group.variable group.conjuncts.items

abbrev pub all_rights : List Group → List Right
all_rights groups = flat_map rights_in groups

-- all are for a variable
abbrev pub AllFor : ℕ → List Right → Type 0
AllFor variable rights = AllByRecursion (λ right. right.variable ≡ variable) rights

-- the groups of a number
abbrev pub groups_of : ℕ → List NumberedGroup → List Group
groups_of number [] = []
groups_of number (first ∷ rest) = if first.number == number then first.group ∷ groups_of number rest else groups_of number rest

-- the rights of groups by the numbers of the groups
abbrev pub numbered : List NumberedGroup → List (ℕ × Right)
numbered items = flat_map (λ item. map (λ right. (item.number, right)) (rights_in item.group)) items

-- .. and among them what moves in for the variable of the group
abbrev pub numbered_with : List (ℕ × Right) → List NumberedGroup → List (ℕ × Right)
numbered_with moved items = flat_map (λ item. map (λ right. (item.number, right)) (with_rights (row_of item.group.variable moved) (rights_in item.group))) items

-- one list of numbers has those of two others, in the one order or the other
abbrev pub AreBoth : List ℕ → List ℕ → List ℕ → Type 0
AreBoth one other both = (both ≡ one ++ other) ⊎ (both ≡ other ++ one)

-- a right, by the numbers of all lists that hold its variable
abbrev pub shares_in : List (List ℕ) → Right → List (ℕ × Right)
shares_in lists right = map (λ number. (number, right)) (numbers_from (λ list. among list right.variable) 0 0 lists)

-- what rights are by their variables
abbrev pub by_variable : List Right → List (ℕ × Right)
by_variable rights = map (λ right. (right.variable, right)) rights

-- the variable of a group where it has rights, and those of groups
abbrev pub held_if : ℕ → List ℕ → List ℕ
held_if variable [] = []
held_if variable (first ∷ rest) = variable ∷ []

abbrev pub held_in : Group → List ℕ
held_in group = held_if group.variable group.conjuncts.items

abbrev pub held_variables : List Group → List ℕ
held_variables groups = flat_map held_in groups

-- These are the variables that have rows.
abbrev pub has_some : {X : Type 0} → List X → Bool
has_some [] = false
has_some (first ∷ rest) = true

abbrev pub AreHeld : List ℕ → List (ℕ × Right) → Type 0
AreHeld variables moved = (variable : ℕ) → among variables variable ≡ has_some (row_of variable moved)

-- At the place of each group are the rights for its variable.
abbrev pub AreAt : List NumberedGroup → List Right → List (ℕ × Right) → Type 0
AreAt items signals rows =
    (front : List NumberedGroup) (item : NumberedGroup) (back : List NumberedGroup) → items ≡ front ++ item ∷ back → row_of (length front) rows ≡ row_of item.group.variable (by_variable signals)
