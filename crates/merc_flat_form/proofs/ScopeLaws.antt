-- The goals of terms depend on a scope only by what names stand for in it.
use Rattle.std.proofs.Common.{◌≡◌, ℕ, ◌+◌, Bool, ◌==◌, ◌||◌, List, [], ◌∷◌, ◌++◌, Option, if◌then◌else◌, refl, ap, ◌∙◌}
use Rattle.std.specs.Option.{unwrap_or}
use Rattle.merc_base.specs.declared.place.Span.{Span}
use Rattle.merc_tree.specs.Term.{Term, Terms, Variable, Integer, Text, Application, none, more}
use Rattle.merc_goals.specs.Written.{parts}
use Rattle.merc_goal_tree.specs.declared.goal.SimpleGoal.TheVariants.{Same}
use Rattle.merc_name_resolution.specs.declared.callee.Callee.{Callee}
use Rattle.merc_scopes.specs.declared.occurrence.Occurrence.{Occurrence}
use Rattle.merc_scopes.specs.Scopes.{at_of}
use Rattle.merc_flat_form.specs.FlatForm.{variable_of, variable_at, variables_at, naming, naming_all, equal, compare, comparison_of, compared, call_of, called, head_goal, head_goals}

module _ (blank : ℕ → Bool) (a b : List Occurrence) (same : (name : ℕ) → at_of name a ≡ at_of name b) where
  variable_of-same : (name : ℕ) → variable_of a name ≡ variable_of b name
  variable_of-same name = ap (λ found. unwrap_or found 0) (same name)

  variable_at-same : (at : ℕ) (term : Term) → variable_at blank a at term ≡ variable_at blank b at term
  variable_at-same at (Variable name span) = ap (λ variable. if blank name then at else variable) (variable_of-same name)
  variable_at-same at (Integer value span) = refl
  variable_at-same at (Text text span) = refl
  variable_at-same at (Application name qualifier arguments span) = refl

  variables_at-same : (at : ℕ) (terms : Terms) → variables_at blank a at terms ≡ variables_at blank b at terms
  variables_at-same at none = refl
  variables_at-same at (more first rest) = cc (variable_at-same at first, variables_at-same (at + parts first) rest)

  -- an application, where its arguments are named alike
  application-same : (variable at name : ℕ) (qualifier : Option ℕ) (arguments : Terms) (span : Span)
      → naming_all blank a (at + 2) arguments ≡ naming_all blank b (at + 2) arguments
      → naming blank a variable at (Application name qualifier arguments span) ≡ naming blank b variable at (Application name qualifier arguments span)
  application-same variable at name qualifier arguments span inner = rw (variables_at-same (at + 2) arguments, inner)

  naming_all-same : (at : ℕ) (terms : Terms) → naming_all blank a at terms ≡ naming_all blank b at terms
  naming_all-same at none = refl
  naming_all-same at (more (Variable name span) rest) = naming_all-same (at + 2) rest
  naming_all-same at (more (Integer value span) rest) = ap (λ others. naming blank a at at (Integer value span) ++ others) (naming_all-same (at + 2) rest)
  naming_all-same at (more (Text text span) rest) = ap (λ others. naming blank a at at (Text text span) ++ others) (naming_all-same (at + 2) rest)
  naming_all-same at (more (Application name qualifier arguments span) rest) =
      let first = application-same at at name qualifier arguments span (naming_all-same (at + 2) arguments) in
      let others = naming_all-same (at + parts (Application name qualifier arguments span)) rest in
      cc (first, others)

  naming-same : (variable at : ℕ) (term : Term) → naming blank a variable at term ≡ naming blank b variable at term
  naming-same variable at (Integer value span) = refl
  naming-same variable at (Text text span) = refl
  naming-same variable at (Variable name span) = ap (λ other. Same variable other ∷ []) (variable_at-same at (Variable name span))
  naming-same variable at (Application name qualifier arguments span) =
      application-same variable at name qualifier arguments span (naming_all-same (at + 2) arguments)

  -- both sides, where none is a variable
  both-same : (at other : ℕ) (left right : Term)
      → naming blank a at other left ++ naming blank a at (other + parts left) right ≡ naming blank b at other left ++ naming blank b at (other + parts left) right
  both-same at other left right = rw (naming-same at other left, naming-same at (other + parts left) right)

  side-same : (at other : ℕ) (side term : Term)
      → naming blank a (variable_at blank a at side) other term ≡ naming blank b (variable_at blank b at side) other term
  side-same at other side term = ap (λ v. naming blank a v other term) (variable_at-same at side) ∙ naming-same (variable_at blank b at side) other term

  pub equal-same : (at : ℕ) (left right : Term) → equal blank a at left right ≡ equal blank b at left right
  equal-same at (Variable name span) right = side-same (at + 2) (at + 4) (Variable name span) right
  equal-same at (Integer value place) (Variable name span) = side-same (at + 2 + 2) (at + 2) (Variable name span) (Integer value place)
  equal-same at (Integer value place) (Integer other span) = both-same at (at + 2) (Integer value place) (Integer other span)
  equal-same at (Integer value place) (Text other span) = both-same at (at + 2) (Integer value place) (Text other span)
  equal-same at (Integer value place) (Application name qualifier arguments span) =
      both-same at (at + 2) (Integer value place) (Application name qualifier arguments span)
  equal-same at (Text text place) (Variable name span) = side-same (at + 2 + 2) (at + 2) (Variable name span) (Text text place)
  equal-same at (Text text place) (Integer other span) = both-same at (at + 2) (Text text place) (Integer other span)
  equal-same at (Text text place) (Text other span) = both-same at (at + 2) (Text text place) (Text other span)
  equal-same at (Text text place) (Application name qualifier arguments span) =
      both-same at (at + 2) (Text text place) (Application name qualifier arguments span)
  equal-same at (Application functor given inner place) (Variable name span) =
      side-same (at + 2 + parts (Application functor given inner place)) (at + 2) (Variable name span) (Application functor given inner place)
  equal-same at (Application functor given inner place) (Integer other span) =
      both-same at (at + 2) (Application functor given inner place) (Integer other span)
  equal-same at (Application functor given inner place) (Text other span) =
      both-same at (at + 2) (Application functor given inner place) (Text other span)
  equal-same at (Application functor given inner place) (Application name qualifier arguments span) =
      both-same at (at + 2) (Application functor given inner place) (Application name qualifier arguments span)

  pub compared-same : (at name : ℕ) (left right : Term) → compared blank a at name left right ≡ compared blank b at name left right
  compared-same at name left right =
      let inner = naming_all-same (at + 2) (more left (more right none)) in
      let first = variable_at-same (at + 2) left in
      let second = variable_at-same (at + 2 + parts left) right in
      cc (
        ap (λ goals. goals ++ compare (comparison_of name) (variable_at blank a (at + 2) left) (variable_at blank a (at + 2 + parts left) right)) inner,
        ap (λ v. naming_all blank b (at + 2) (more left (more right none)) ++ compare (comparison_of name) v (variable_at blank a (at + 2 + parts left) right)) first,
        ap (λ v. naming_all blank b (at + 2) (more left (more right none)) ++ compare (comparison_of name) (variable_at blank b (at + 2) left) v) second,
      )

  pub called-same : (at : ℕ) (callee : Callee) (arguments : Terms) → called blank a at callee arguments ≡ called blank b at callee arguments
  called-same at callee arguments =
      ap (λ goals. goals ++ call_of callee (variables_at blank a (at + 2) arguments)) (naming_all-same (at + 2) arguments)
      ∙ ap (λ list. naming_all blank b (at + 2) arguments ++ call_of callee list) (variables_at-same (at + 2) arguments)

  head_goal-same : (number at : ℕ) (term : Term) → head_goal blank a number at term ≡ head_goal blank b number at term
  head_goal-same number at (Variable name span) =
      ap (λ v. if blank name || (v == number) then [] else Same number v ∷ []) (variable_of-same name)
  head_goal-same number at (Integer value span) = refl
  head_goal-same number at (Text text span) = refl
  head_goal-same number at (Application name qualifier arguments span) = naming-same number at (Application name qualifier arguments span)

  pub head_goals-same : (number at : ℕ) (terms : Terms) → head_goals blank a number at terms ≡ head_goals blank b number at terms
  head_goals-same number at none = refl
  head_goals-same number at (more first rest) =
      ap (λ goals. goals ++ head_goals blank a (number + 1) (at + parts first) rest) (head_goal-same number at first)
      ∙ ap (λ others. head_goal blank b number at first ++ others) (head_goals-same (number + 1) (at + parts first) rest)
