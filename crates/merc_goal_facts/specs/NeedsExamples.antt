-- What goals need, each for itself and together.
use Rattle.std.specs.Prelude.{◌≡◌, true, false, List, ◌∷◌, [], refl}
use Rattle.merc_base.specs.declared.category.Category.TheVariants.{Det}
use Rattle.merc_tree.specs.Term.{no_span}
use Rattle.merc_tree.specs.declared.declarations.Arg.{Arg}
use Rattle.merc_tree.specs.declared.declarations.Arg.TheVariants.{Input, Output}
use Rattle.merc_tree.specs.declared.declarations.ModeDecl.{ModeDecl}
use Rattle.merc_goal_tree.specs.declared.goal.SimpleGoal.TheVariants.{Same, Raise, Call}
use Rattle.merc_goal_facts.specs.declared.complete.Complete.{Complete}
use Rattle.merc_goal_facts.specs.declared.facts.Facts.{Facts}
use Rattle.merc_goal_facts.specs.Needs.{only_inputs, reads, found_in, is_needed, brought_with, is_brought, is_needed_together, IsKept, AreKept}

abbrev mode : List Arg → ModeDecl
mode args = record { args = args; category = Det; span = no_span }

-- a predicate with one mode
needs_its_input : only_inputs (mode (Input ∷ Output ∷ []) ∷ []) (4 ∷ 5 ∷ []) ≡ 4 ∷ []
needs_its_input = refl

-- One with two modes goes in either.
needs_neither : reads (λ predicate. mode (Input ∷ Output ∷ []) ∷ mode (Output ∷ Input ∷ []) ∷ []) (Call 0 (4 ∷ 5 ∷ [])) ≡ []
needs_neither = refl

needs_its_text : reads (λ predicate. []) (Raise 3) ≡ 3 ∷ []
needs_its_text = refl

needs_none_of_two : reads (λ predicate. []) (Same 3 4) ≡ []
needs_none_of_two = refl

-- `A < B` and `A = 1`, whose constant is the variable 3

abbrev compared : Facts
compared = record { reached = true; binds = 1 ∷ 2 ∷ []; owed = []; owed_by_condition = []; needs = 1 ∷ 2 ∷ []; occurrences = 2 }

abbrev assigned : Facts
assigned = record { reached = true; binds = 1 ∷ 3 ∷ []; owed = []; owed_by_condition = []; needs = []; occurrences = 2 }

brings_none : brought_with (7 ∷ []) compared ≡ 7 ∷ []
brings_none = refl

brings_two : brought_with (7 ∷ []) assigned ≡ 7 ∷ 1 ∷ 3 ∷ []
brings_two = refl

-- the second of three parts, beside one of which there are no facts
abbrev second : List Complete
second = record { part = 1; start = 0 } ∷ record { part = 3; start = 2 } ∷ []

found_second : found_in (assigned ∷ compared ∷ assigned ∷ []) second ≡ compared ∷ []
found_second = refl

one_is_needed : is_needed (compared ∷ assigned ∷ []) 1 ≡ true
one_is_needed = refl

one_is_brought : is_brought (compared ∷ assigned ∷ []) 1 ≡ true
one_is_brought = refl

not_together : is_needed_together (compared ∷ assigned ∷ []) 1 ≡ false
not_together = refl

together : is_needed_together (compared ∷ assigned ∷ []) 2 ≡ true
together = refl

-- One is left out of what is needed, or one too many is told.

abbrev needs_one : Facts
needs_one = record { reached = true; binds = 1 ∷ 2 ∷ []; owed = []; owed_by_condition = []; needs = 2 ∷ []; occurrences = 2 }

fewer_kept : AreKept (needs_one ∷ []) (record { reached = true; binds = 1 ∷ 2 ∷ []; owed = []; owed_by_condition = []; needs = []; occurrences = 2 } ∷ [])
fewer_kept = (record { reached_is = refl; binds_are = refl; owed_are = refl; owed_by_condition_are = refl; occurrences_are = refl; fewer = λ variable is. cc }, tt)

more_not_kept : IsKept needs_one compared → ⊥
more_not_kept kept = let wrong = kept.fewer 1 refl in cc
