-- What the entry of a goal does to the frames, the levels and the goals so far.
use Rattle.std.specs.Prelude.{◌≡◌, ℕ, ◌≤◌, Bool, true, false, List, [], ◌∷◌, length, Option}
use Rattle.merc_base.specs.declared.place.Span.{Span}
use Rattle.merc_tree.specs.Term.{Term, Application, list_of}
use Rattle.merc_goals.specs.Written.{Written}
use Rattle.merc_goals.specs.Entries.{first_goal, with_form}
use Rattle.merc_goals.specs.declared.goal.Form.{Form}
use Rattle.merc_goals.specs.declared.goal.Form.TheVariants.{Truth, Failure, Equal, Compared, Called, Conjunction, Parallel, Disjunction, Conditional, Negated, Quantified}
use Rattle.merc_goal_tree.specs.Nodes.{Node}
use Rattle.merc_goal_tree.specs.declared.goal.SimpleGoal.{SimpleGoal}
use Rattle.merc_goal_tree.specs.declared.goal.SimpleGoal.TheVariants.{True, Fail}
use Rattle.merc_name_resolution.specs.declared.callee.Callee.{Callee}
use Rattle.merc_scopes.specs.declared.occurrence.Occurrence.{Occurrence}
use Rattle.merc_scopes.specs.Bindings.{Gives}
use Rattle.merc_flat_form.specs.FlatForm.{called, compared, equal, one_goal}
use Rattle.merc_flat_form.specs.Frames.{AreComing, AreFilled, finished}
use Rattle.merc_flat_form.specs.declared.frames.Frame.{Frame}
use Rattle.merc_flat_form.specs.declared.frames.Closing.{Closing}

abbrev pub frame_of : Closing → Bool → Span → ℕ → ℕ → Frame
frame_of closing keeps span left start = record { closing = closing; keeps = keeps; span = span; left = left; start = start }

-- how many sub-goals a goal has
abbrev pub sub_goals : Form → ℕ
sub_goals (Conjunction count) = count
sub_goals (Parallel count) = count
sub_goals (Disjunction count) = count
sub_goals Conditional = 3
sub_goals Negated = 1
sub_goals (Quantified variables) = 1
sub_goals other = 0

-- goals as they are, or as one
abbrev pub kept : Bool → Span → List Node → List Node
kept true span goals = goals
kept false span goals = one_goal span goals ∷ []

-- Given are which names are `_`, and what a name with a qualifier and so many arguments calls.
module _ (blank : ℕ → Bool) (callee : ℕ → Option ℕ → ℕ → Callee) where
  abbrev pub call_goals : ℕ → List Occurrence → Term → List SimpleGoal
  call_goals at scope (Application name qualifier arguments span) = called blank scope at (callee name qualifier (length (list_of arguments))) arguments
  call_goals at scope other = []

  -- the goals that a goal without sub-goals becomes
  abbrev pub simple_goals : Form → ℕ → List Occurrence → List SimpleGoal
  simple_goals Truth at scope = True ∷ []
  simple_goals Failure at scope = Fail ∷ []
  simple_goals (Equal left right) at scope = equal blank scope at left right
  simple_goals (Compared name left right) at scope = compared blank scope at name left right
  simple_goals (Called term) at scope = call_goals at scope term
  simple_goals other at scope = []

  -- Where an entry was before goals to come and is taken up, what there is in the end stays the same.
  abbrev pub IsTakenUp : Form → ℕ → Span → List Occurrence → List Frame → List (List Occurrence) → List Node → List Frame → List (List Occurrence) → List Node → Type 0
  IsTakenUp form at span found frames levels nodes later_frames later_levels later_nodes =
      (coming : List Written) → sub_goals form ≤ length coming → Gives blank (first_goal (with_form form at span coming)) found
      → (finished blank callee later_frames coming later_levels later_nodes ≡ finished blank callee frames (with_form form at span coming) levels nodes)
      × (AreFilled frames (length nodes) → AreFilled later_frames (length later_nodes))
      × (AreComing frames (length (with_form form at span coming)) → AreComing later_frames (length coming))
