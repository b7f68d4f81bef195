-- Goals of which some sub-goals are still to come, from the innermost, and what becomes of them all.
use Rattle.std.specs.Prelude.{ℕ, ◌+◌, ◌-◌, ◌<◌, ◌≤◌, Bool, true, false, List, [], ◌∷◌, ◌++◌, length, take, drop, Option}
use Rattle.merc_base.specs.declared.place.Span.{Span}
use Rattle.merc_goals.specs.Written.{Written, written_span}
use Rattle.merc_goal_tree.specs.Nodes.{Node}
use Rattle.merc_goal_tree.specs.Roots.{joined}
use Rattle.merc_goal_tree.specs.declared.entries.Root.TheVariants.{Parallel, Disjunction, Conditional, Negation, Quantified}
use Rattle.merc_name_resolution.specs.declared.callee.Callee.{Callee}
use Rattle.merc_scopes.specs.declared.occurrence.Occurrence.{Occurrence}
use Rattle.merc_flat_form.specs.Levels.{scope_of}
use Rattle.merc_flat_form.specs.FlatForm.{flat, one_goal}
use Rattle.merc_flat_form.specs.declared.frames.Frame.{Frame}
use Rattle.merc_flat_form.specs.declared.frames.Closing.{Closing}
use Rattle.merc_flat_form.specs.declared.frames.Closing.TheVariants.{Keep, Join, JoinParallel, Disjoin, Choose, Negate, Quantify}

-- whether the innermost goal takes all the goals that a sub-goal becomes
abbrev pub keeps_of : List Frame → Bool
keeps_of [] = true
keeps_of (top ∷ below) = top.keeps

-- one sub-goal of the innermost frame fewer to come
abbrev pub less : List Frame → List Frame
less [] = []
less (top ∷ below) = record top { left = top.left - 1 } ∷ below

-- a sub-goal of the innermost frame is to come
abbrev pub IsReady : List Frame → Type 0
IsReady [] = Unit {0}
IsReady (top ∷ below) = 0 < top.left

-- goals where those behind this many are a frame's and it is closed
abbrev pub closed : Closing → Span → ℕ → List Node → List Node
closed Keep span start nodes = nodes
closed Join span start nodes = take start nodes ++ one_goal span (drop start nodes) ∷ []
closed JoinParallel span start nodes = joined (Parallel (length nodes - start)) span nodes
closed Disjoin span start nodes = joined (Disjunction (length nodes - start)) span nodes
closed Choose span start nodes = joined Conditional span nodes
closed Negate span start nodes = joined Negation span nodes
closed (Quantify variables) span start nodes = joined (Quantified variables) span nodes

-- the fewest goals that a closing needs
abbrev pub needed : Closing → ℕ
needed Choose = 3
needed Negate = 1
needed (Quantify variables) = 1
needed other = 0

-- the fewest goals that there are, of so many, when so many more sub-goals have come
abbrev pub reached : Bool → ℕ → ℕ → ℕ
reached true left count = count
reached false left count = count + left

-- the fewest that there are when the frame is closed then
abbrev pub given : Closing → ℕ → ℕ → ℕ
given Keep start count = count
given other start count = start + 1

-- Of so many goals each frame will have those that its closing needs.
abbrev pub AreFilled : List Frame → ℕ → Type 0
AreFilled [] count = Unit {0}
AreFilled (top ∷ below) count =
    (top.start + needed top.closing ≤ reached top.keeps top.left count)
    × AreFilled below (given top.closing top.start (reached top.keeps top.left count))

-- So many goals to come are enough for all frames.
abbrev pub AreComing : List Frame → ℕ → Type 0
AreComing [] coming = Unit {0}
AreComing (top ∷ below) coming = (top.left ≤ coming) × AreComing below (coming - top.left)

-- Given are which names are `_`, and what a name with a qualifier and so many arguments calls.
module _ (blank : ℕ → Bool) (callee : ℕ → Option ℕ → ℕ → Callee) where
  -- what a sub-goal gives, all the goals that it becomes or one
  abbrev pub part_of : Bool → List Occurrence → Written → List Node
  part_of true scope goal = flat blank callee scope goal
  part_of false scope goal = one_goal (written_span goal) (flat blank callee scope goal) ∷ []

  abbrev pub parts_of : Bool → List Occurrence → List Written → List Node
  parts_of keeps scope [] = []
  parts_of keeps scope (first ∷ rest) = part_of keeps scope first ++ parts_of keeps scope rest

  -- what there is in the end, where these goals are to come and each frame has a level of its own
  abbrev pub finished : List Frame → List Written → List (List Occurrence) → List Node → List Node
  finished [] coming levels nodes = nodes ++ parts_of true (scope_of levels) coming
  finished (top ∷ below) coming levels nodes =
      finished below (drop top.left coming) (drop 1 levels)
      (closed top.closing top.span top.start (nodes ++ parts_of top.keeps (scope_of levels) (take top.left coming)))
