-- The category of a goal that joins others, from theirs.
use Rattle.std.specs.Prelude.{Bool, true, false, ◌&&◌, ◌||◌, List, [], ◌∷◌, if◌then◌else◌}
use Rattle.merc_base.specs.Category.{can_fail_of, most_of}
use Rattle.merc_base.specs.declared.category.Category.{Category}
use Rattle.merc_base.specs.declared.category.Category.TheVariants.{Det, Semidet, Multi, Nondet, Erroneous, Failure}
use Rattle.merc_base.specs.declared.category.Most.{Most}
use Rattle.merc_base.specs.declared.category.Most.TheVariants.{Zero, One, Many}

-- whether a goal can fail, and its most solutions, as a category
abbrev pub category : Bool → Most → Category
category false Zero = Erroneous
category true Zero = Failure
category false One = Det
category true One = Semidet
category false Many = Multi
category true Many = Nondet

abbrev pub is_zero : Most → Bool
is_zero Zero = true
is_zero One = false
is_zero Many = false

abbrev pub is_many : Most → Bool
is_many Zero = false
is_many One = false
is_many Many = true

-- The most solutions of two goals one after the other: 0 if either has 0, else many if either has many, else 1.
abbrev pub both_most : Most → Most → Most
both_most one other = if is_zero one || is_zero other then Zero else if is_many one || is_many other then Many else One

-- The most solutions of either of two goals: those of the other if one has 0, else many.
abbrev pub sum_most : Most → Most → Most
sum_most Zero other = other
sum_most One Zero = One
sum_most One One = Many
sum_most One Many = Many
sum_most Many other = Many

-- the greater of two maxima
abbrev pub greater_most : Most → Most → Most
greater_most one other = if is_many one || is_many other then Many else if is_zero one && is_zero other then Zero else One

-- One goal and then another can fail if the first can, or if the first can succeed and the other can fail.
abbrev pub then_category : Category → Category → Category
then_category first next =
    category (can_fail_of first || (if is_zero (most_of first) then false else can_fail_of next)) (both_most (most_of first) (most_of next))

-- One goal or another can fail if both can.
abbrev pub or_category : Category → Category → Category
or_category one other = category (can_fail_of one && can_fail_of other) (sum_most (most_of one) (most_of other))

-- goals one after the other
abbrev pub conjunction_category : List Category → Category
conjunction_category [] = Det
conjunction_category (first ∷ rest) = then_category first (conjunction_category rest)

-- the disjuncts of a disjunction that is no switch
abbrev pub disjunction_category : List Category → Category
disjunction_category [] = Failure
disjunction_category (first ∷ rest) = or_category first (disjunction_category rest)

-- an arm, and others that are of this category together
abbrev pub arm_category : Category → Category → Category
arm_category arm others = category (can_fail_of arm || can_fail_of others) (greater_most (most_of arm) (most_of others))

-- Of the arms of a switch one runs: they can fail if any can, and their maximum is the greatest.
abbrev pub arms_category : List Category → Category
arms_category [] = Erroneous
arms_category (first ∷ rest) = arm_category first (arms_category rest)

-- A switch can fail as well if a symbol of the type has no arm.
abbrev pub switch_category : Bool → List Category → Category
switch_category complete arms = category ((if complete then false else true) || can_fail_of (arms_category arms)) (most_of (arms_category arms))

-- The maximum where the condition can fail: 0 if that of the else part is 0 and so is one of condition and then part, many if any is many, else 1.
abbrev pub decision_most : Most → Most → Most → Most
decision_most condition then_part else_part =
    if is_zero else_part && (is_zero condition || is_zero then_part) then Zero
    else if is_many condition || (is_many then_part || is_many else_part) then Many else One

-- An if-then-else is condition and then part where the condition cannot fail. Else it can fail if the then part or the else part can.
abbrev pub conditional_category : Category → Category → Category → Category
conditional_category condition then_part else_part =
    if can_fail_of condition
    then category (can_fail_of then_part || can_fail_of else_part) (decision_most (most_of condition) (most_of then_part) (most_of else_part))
    else then_category condition then_part

abbrev pub negation_category : Category → Category
negation_category Erroneous = Erroneous
negation_category Failure = Det
negation_category Det = Failure
negation_category Multi = Failure
negation_category Semidet = Semidet
negation_category Nondet = Semidet

-- at most one solution, and none where it had none
abbrev pub once : Category → Category
once inner = category (can_fail_of inner) (if is_zero (most_of inner) then Zero else One)
