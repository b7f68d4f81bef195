-- What a name with two arguments is in a goal, and the goal that it then is.
use Rattle.std.specs.Prelude.{ℕ, ◌==◌, ◌||◌, if◌then◌else◌}
use Rattle.merc_base.specs.Names.{all_name, ampersand_name, arrow_name, at_least_name, at_most_name, colon_colon_name, comma_name, else_name, equal_equal_name, equal_name, equivalent_name, greater_name, implies_name, is_name, less_name, not_equal_name, semicolon_name, some_name, then_name}
use Rattle.merc_goals.specs.declared.roles.Role.{Role}
use Rattle.merc_goals.specs.declared.roles.Role.TheVariants.{Conjunction as ConjunctionRole, Parallel as ParallelRole, Disjunction as DisjunctionRole, Else, Misplaced, Existential, Universal, Equation, Inequation, Comparison, Unsupported, Call}

-- what a name is that has no sub-goals
abbrev pub literal_role_of : ℕ → Role
literal_role_of name =
    if name == equal_name then Equation
    else if name == not_equal_name then Inequation
    else if (name == less_name) || (name == greater_name) || (name == at_most_name) || (name == at_least_name) then Comparison
    else if (name == implies_name) || (name == equivalent_name) || (name == is_name) || (name == equal_equal_name) || (name == colon_colon_name) then Unsupported
    else Call

abbrev pub role_of : ℕ → Role
role_of name =
    if name == comma_name then ConjunctionRole
    else if name == ampersand_name then ParallelRole
    else if name == semicolon_name then DisjunctionRole
    else if name == else_name then Else
    else if (name == arrow_name) || (name == then_name) then Misplaced
    else if name == some_name then Existential
    else if name == all_name then Universal
    else literal_role_of name
