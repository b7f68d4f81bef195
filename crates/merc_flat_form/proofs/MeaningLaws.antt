-- A name that occurs in a goal without sub-goals has a meaning there, so that the variable of none is the number 0 for want of one.
use Rattle.std.proofs.Common.{◌≡◌, ℕ, ◌==◌, ◌||◌, Bool, true, false, List, [], ◌∷◌, ◌++◌, Option, Some, None, is_some, if◌then◌else◌, refl, ap, ◌∙◌, sym}
use Rattle.std.specs.Option.{option_or}
use Rattle.merc_goals.specs.Written.{Written}
use Rattle.merc_scopes.specs.declared.occurrence.Occurrence.{Occurrence}
use Rattle.merc_scopes.specs.Scopes.{at_of, has_name, introduced}
use Rattle.merc_scopes.proofs.PlaceLaws.{at_of-append}

by_test : (test : Bool) (at : ℕ) (others : Option ℕ) (named : Bool) → named ≡ is_some others → (test || named) ≡ is_some (if test then Some at else others)
by_test true at others named is = refl
by_test false at others named is = is

-- a name is among occurrences where one of them has a place for it
has_place : (name : ℕ) (found : List Occurrence) → has_name name found ≡ is_some (at_of name found)
has_place name [] = refl
has_place name (first ∷ rest) = by_test (first.name == name) first.at (at_of name rest) (has_name name rest) (has_place name rest)

either : (before behind : Option ℕ) → is_some behind ≡ true → is_some (option_or before behind) ≡ true
either None behind is = is
either (Some at) behind is = refl

-- The variables of a goal without sub-goals are those that it brings with it.
pub has_meaning : (blank : ℕ → Bool) (scope : List Occurrence) (goal : Written) (name : ℕ) → has_name name (introduced blank goal) ≡ true
    → is_some (at_of name (scope ++ introduced blank goal)) ≡ true
has_meaning blank scope goal name occurs =
    ap is_some (at_of-append name scope (introduced blank goal))
    ∙ either (at_of name scope) (at_of name (introduced blank goal)) (sym (has_place name (introduced blank goal)) ∙ occurs)
