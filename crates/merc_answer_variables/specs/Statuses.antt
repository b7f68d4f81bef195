-- What is known of a variable while a goal is read from its last part to its first.
use Rattle.std.specs.Prelude.{ℕ, Bool, false, ◌==◌, ◌&&◌, ◌||◌, not, List, [], ◌∷◌, ◌++◌, Option, Some, None, is_some, length, if◌then◌else◌}
use Rattle.std.specs.List.{list_any}
use Rattle.std.specs.Option.{option_or}
use Rattle.merc_goals.specs.Written.{Written, WrittenGoals, Conjunction, Parallel, Disjunction, Conditional, Negated, Quantified, no_goals, more_goals}
use Rattle.merc_scopes.specs.declared.occurrence.Occurrence.{Occurrence}
use Rattle.merc_scopes.specs.Scopes.{free}

-- Where a variable first stands in a goal, outside every quantifier over it, as the number of occurrences of variables behind that one; and whether it is an
-- answer variable of the goal, its name aside.
pub record Status : Type 0 where
  pub place : Option ℕ
  pub shown : Bool

-- of a variable that does not occur
abbrev pub unseen : Status
unseen = record { place = None; shown = false }

-- of a goal and one behind it, which stand beside each other
abbrev pub joined : Status → Status → Status
joined first second = record {
  place = option_or first.place second.place;
  shown = (first.shown || second.shown) || (is_some first.place && is_some second.place);
}

-- of a negation
abbrev pub hidden : Status → Status
hidden status = record { place = status.place; shown = false }

-- of an if-then-else
abbrev pub decided : Status → Status → Status → Status
decided condition then_part else_part = record {
  place = option_or condition.place (joined then_part else_part).place;
  shown = ((joined then_part else_part).shown && not (is_some condition.place && is_some (joined then_part else_part).place)) || (is_some condition.place && is_some else_part.place);
}

-- of a quantifier over these variables
abbrev pub bound : List ℕ → ℕ → Status → Status
bound variables name status = if list_any (λ other. other == name) variables then unseen else status

-- where a name first stands among some occurrences before others
abbrev pub place_among : ℕ → List Occurrence → List Occurrence → Option ℕ
place_among name [] behind = None
place_among name (first ∷ rest) behind = if first.name == name then Some (length (rest ++ behind)) else place_among name rest behind

-- of a goal without sub-goals, in which these variables occur
abbrev pub plain_status : ℕ → List Occurrence → List Occurrence → Status
plain_status name found behind = record { place = place_among name found behind; shown = is_some (place_among name found behind) }

-- Which names are `_` is given.
module _ (blank : ℕ → Bool) where
  abbrev mutual
    -- the variables of a goal wherever they occur, before some others
    pub all_before : Written → List Occurrence → List Occurrence
    all_before (Conjunction goals span) behind = each_before goals behind
    all_before (Parallel goals span) behind = each_before goals behind
    all_before (Disjunction goals span) behind = each_before goals behind
    all_before (Conditional condition then_part else_part span) behind = all_before condition (all_before then_part (all_before else_part behind))
    all_before (Negated goal span) behind = all_before goal behind
    all_before (Quantified variables goal span) behind = all_before goal behind
    all_before other behind = free blank other ++ behind

    pub each_before : WrittenGoals → List Occurrence → List Occurrence
    each_before no_goals behind = behind
    each_before (more_goals first rest) behind = all_before first (each_before rest behind)

  abbrev mutual
    -- the status of a name in a goal that stands before these occurrences
    pub status_of : ℕ → Written → List Occurrence → Status
    status_of name (Conjunction goals span) behind = each_status name goals behind
    status_of name (Parallel goals span) behind = each_status name goals behind
    status_of name (Disjunction goals span) behind = each_status name goals behind
    status_of name (Conditional condition then_part else_part span) behind =
        decided (status_of name condition (all_before then_part (all_before else_part behind))) (status_of name then_part (all_before else_part behind)) (status_of name else_part behind)
    status_of name (Negated goal span) behind = hidden (status_of name goal behind)
    status_of name (Quantified variables goal span) behind = bound variables name (status_of name goal behind)
    status_of name other behind = plain_status name (free blank other) behind

    -- in goals that stand beside each other
    pub each_status : ℕ → WrittenGoals → List Occurrence → Status
    each_status name no_goals behind = unseen
    each_status name (more_goals first rest) behind = joined (status_of name first (each_before rest behind)) (each_status name rest behind)
