-- The goals by which variables have the values of terms have their literals as they are written.
use Rattle.std.proofs.Common.{ℕ, ◌+◌, Bool, ◌==◌, ◌||◌, is_none, pos, FitsSigned, List, [], ◌∷◌, ◌++◌, Option, Some, None, if◌then◌else◌, refl}
use Rattle.std.proofs.Math.Facts.{sfits_lit}
use Rattle.std.specs.Int.{w64}
use Rattle.std.specs.List.{AllByRecursion}
use Rattle.merc_base.specs.declared.place.Span.{Span}
use Rattle.merc_tree.specs.Term.{Term, Terms, Variable, Integer, Text, Application, none, more, HasWords, HaveWords}
use Rattle.merc_goals.specs.Written.{parts}
use Rattle.merc_goal_tree.specs.declared.goal.SimpleGoal.{SimpleGoal}
use Rattle.merc_goal_tree.specs.declared.goal.SimpleGoal.TheVariants.{Same, Shape, Arithmetic}
use Rattle.merc_goal_tree.specs.declared.goal.Symbol.TheVariants.{Integer as IntegerSymbol}
use Rattle.merc_goal_tree.specs.declared.goal.Operation.{Operation}
use Rattle.merc_goal_tree.specs.declared.goal.Operation.TheVariants.{Subtract}
use Rattle.merc_goal_tree.specs.declared.goal.Comparison.{Comparison}
use Rattle.merc_name_resolution.specs.declared.callee.Callee.{Callee}
use Rattle.merc_name_resolution.specs.declared.callee.Callee.TheVariants.{Predicate, Error}
use Rattle.merc_scopes.specs.declared.occurrence.Occurrence.{Occurrence}
use Rattle.merc_flat_form.specs.FlatForm.{applied, call_of, called, compare, compared, comparison_of, equal, head_goal, head_goals, is_negation, naming, naming_all, operation_of, variable_at, variable_of, variables_at}
use Rattle.merc_order_laws.proofs.Written.{all_joined}
use Rattle.merc_program_laws.specs.ProgramBodies.{WrittenLiteral}
use Rattle.merc_program_laws.proofs.Lists.{if_holds}

abbrev pub AreLiteral : List SimpleGoal → Type 0
AreLiteral goals = AllByRecursion WrittenLiteral goals

pub joined : (some others : List SimpleGoal) → AreLiteral some → AreLiteral others → AreLiteral (some ++ others)
joined some others h k = all_joined WrittenLiteral some others h k

zero_fits : FitsSigned w64 (pos 0)
zero_fits = sfits_lit tt

compared_literal : (comparison : Option Comparison) (left right : ℕ) → AreLiteral (compare comparison left right)
compared_literal None left right = tt
compared_literal (Some comparison) left right = (tt, tt)

call_literal : (callee : Callee) (arguments : List ℕ) → AreLiteral (call_of callee arguments)
call_literal (Predicate number) arguments = (tt, tt)
call_literal Error [] = tt
call_literal Error (only ∷ []) = (tt, tt)
call_literal Error (first ∷ second ∷ rest) = tt

-- Given is which names are `_`.
module _ (blank : ℕ → Bool) where
  applied_literal : (operation : Option Operation) (variable name : ℕ) (arguments : List ℕ) (inner : List SimpleGoal) → AreLiteral inner → AreLiteral (applied blank operation variable name arguments inner)
  applied_literal None variable name arguments inner h = (tt, h)
  applied_literal (Some operation) variable name [] inner h = (tt, h)
  applied_literal (Some operation) variable name (only ∷ []) inner h = (tt, h)
  applied_literal (Some operation) variable name (left ∷ right ∷ []) inner h = joined inner (Arithmetic operation variable left right ∷ []) h (tt, tt)
  applied_literal (Some operation) variable name (first ∷ second ∷ third ∷ rest) inner h = (tt, h)

  -- What names stand for is given.
  module _ (scope : List Occurrence) where
    -- an application, where the goals of its arguments have them
    application_literal : (variable at name : ℕ) (qualifier : Option ℕ) (arguments : Terms) (span : Span) → AreLiteral (naming_all blank scope (at + 2) arguments)
        → AreLiteral (naming blank scope variable at (Application name qualifier arguments span))
    application_literal variable at name qualifier arguments span h =
        let inner = naming_all blank scope (at + 2) arguments in
        let operands = variables_at blank scope (at + 2) arguments in
        let operation = if is_none qualifier then operation_of name else None in
        if_holds AreLiteral (is_negation name qualifier arguments)
        (Shape (at + 1) (IntegerSymbol (pos 0)) [] ∷ applied blank (Some Subtract) variable name ((at + 1) ∷ operands) inner)
        (applied blank operation variable name operands inner)
        ((zero_fits, refl), applied_literal (Some Subtract) variable name ((at + 1) ∷ operands) inner h)
        (applied_literal operation variable name operands inner h)

    naming_all_literal : (at : ℕ) (terms : Terms) → HaveWords terms → AreLiteral (naming_all blank scope at terms)
    naming_all_literal at none words = tt
    naming_all_literal at (more (Variable name span) rest) words = naming_all_literal (at + 2) rest words.1
    naming_all_literal at (more (Integer value span) rest) words = ((words.0, refl), naming_all_literal (at + 2) rest words.1)
    naming_all_literal at (more (Text text span) rest) words = (refl, naming_all_literal (at + 2) rest words.1)
    naming_all_literal at (more (Application name qualifier arguments span) rest) words =
        joined (naming blank scope at at (Application name qualifier arguments span)) (naming_all blank scope (at + parts (Application name qualifier arguments span)) rest)
        (application_literal at at name qualifier arguments span (naming_all_literal (at + 2) arguments words.0))
        (naming_all_literal (at + parts (Application name qualifier arguments span)) rest words.1)

    naming_literal : (variable at : ℕ) (term : Term) → HasWords term → AreLiteral (naming blank scope variable at term)
    naming_literal variable at (Variable name span) words = (tt, tt)
    naming_literal variable at (Integer value span) words = ((words, refl), tt)
    naming_literal variable at (Text text span) words = (refl, tt)
    naming_literal variable at (Application name qualifier arguments span) words =
        application_literal variable at name qualifier arguments span (naming_all_literal (at + 2) arguments words)

    turned_literal : (at : ℕ) (left right : Term) → HasWords left
        → AreLiteral (naming blank scope (variable_at blank scope (at + 2 + parts left) right) (at + 2) left)
    turned_literal at left right words = naming_literal (variable_at blank scope (at + 2 + parts left) right) (at + 2) left words

    sides_literal : (at : ℕ) (left right : Term) → HasWords left → HasWords right
        → AreLiteral (naming blank scope at (at + 2) left ++ naming blank scope at (at + 2 + parts left) right)
    sides_literal at left right h k =
        joined (naming blank scope at (at + 2) left) (naming blank scope at (at + 2 + parts left) right) (naming_literal at (at + 2) left h) (naming_literal at (at + 2 + parts left) right k)

    pub equal_literal : (at : ℕ) (left right : Term) → HasWords left → HasWords right → AreLiteral (equal blank scope at left right)
    equal_literal at (Variable name span) right h k = naming_literal (variable_at blank scope (at + 2) (Variable name span)) (at + 4) right k
    equal_literal at (Integer value span) (Variable name place) h k = turned_literal at (Integer value span) (Variable name place) h
    equal_literal at (Integer value span) (Integer other place) h k = sides_literal at (Integer value span) (Integer other place) h k
    equal_literal at (Integer value span) (Text other place) h k = sides_literal at (Integer value span) (Text other place) h k
    equal_literal at (Integer value span) (Application other q others place) h k = sides_literal at (Integer value span) (Application other q others place) h k
    equal_literal at (Text text span) (Variable name place) h k = turned_literal at (Text text span) (Variable name place) h
    equal_literal at (Text text span) (Integer other place) h k = sides_literal at (Text text span) (Integer other place) h k
    equal_literal at (Text text span) (Text other place) h k = sides_literal at (Text text span) (Text other place) h k
    equal_literal at (Text text span) (Application other q others place) h k = sides_literal at (Text text span) (Application other q others place) h k
    equal_literal at (Application f p arguments span) (Variable name place) h k = turned_literal at (Application f p arguments span) (Variable name place) h
    equal_literal at (Application f p arguments span) (Integer other place) h k = sides_literal at (Application f p arguments span) (Integer other place) h k
    equal_literal at (Application f p arguments span) (Text other place) h k = sides_literal at (Application f p arguments span) (Text other place) h k
    equal_literal at (Application f p arguments span) (Application other q others place) h k = sides_literal at (Application f p arguments span) (Application other q others place) h k

    pub compared_sides : (at name : ℕ) (left right : Term) → HasWords left → HasWords right → AreLiteral (compared blank scope at name left right)
    compared_sides at name left right h k =
        let one = variable_at blank scope (at + 2) left in
        let other = variable_at blank scope (at + 2 + parts left) right in
        joined (naming_all blank scope (at + 2) (more left (more right none))) (compare (comparison_of name) one other)
        (naming_all_literal (at + 2) (more left (more right none)) (h, (k, tt))) (compared_literal (comparison_of name) one other)

    pub called_literal : (at : ℕ) (callee : Callee) (arguments : Terms) → HaveWords arguments → AreLiteral (called blank scope at callee arguments)
    called_literal at callee arguments words =
        let operands = variables_at blank scope (at + 2) arguments in
        joined (naming_all blank scope (at + 2) arguments) (call_of callee operands) (naming_all_literal (at + 2) arguments words) (call_literal callee operands)

    head_literal : (number at : ℕ) (term : Term) → HasWords term → AreLiteral (head_goal blank scope number at term)
    head_literal number at (Variable name span) words =
        if_holds AreLiteral (blank name || (variable_of scope name == number)) [] (Same number (variable_of scope name) ∷ []) tt (tt, tt)
    head_literal number at (Integer value span) words = naming_literal number at (Integer value span) words
    head_literal number at (Text text span) words = naming_literal number at (Text text span) words
    head_literal number at (Application name qualifier arguments span) words = naming_literal number at (Application name qualifier arguments span) words

    pub head_goals_literal : (number at : ℕ) (terms : Terms) → HaveWords terms → AreLiteral (head_goals blank scope number at terms)
    head_goals_literal number at none words = tt
    head_goals_literal number at (more first rest) words =
        joined (head_goal blank scope number at first) (head_goals blank scope (number + 1) (at + parts first) rest) (head_literal number at first words.0)
        (head_goals_literal (number + 1) (at + parts first) rest words.1)
