-- How far the facts of a body's parts are found.
use Rattle.std.specs.Prelude.{◌≡◌, ◌+◌, ◌<◌, ℕ, List, [], ◌∷◌, ◌++◌, length, map}
use Rattle.merc_base.specs.declared.place.Span.{Span}
use Rattle.merc_tree.specs.declared.declarations.ModeDecl.{ModeDecl}
use Rattle.merc_goal_tree.specs.declared.entries.Root.{Root}
use Rattle.merc_goal_tree.specs.Nodes.{Node, nodes_of}
use Rattle.merc_goal_tree.specs.Roots.{joined}
use Rattle.merc_goal_tree.specs.Variables.{variables, all_variables, count}
use Rattle.merc_goal_facts.specs.Facts.{AreKnown as AllAreKnown, all_subgoals}
use Rattle.merc_goal_facts.specs.Complete.{AreKnown}
use Rattle.merc_goal_facts.specs.Occurring.{root_variables}
use Rattle.merc_goal_facts.specs.declared.complete.Complete.{Complete}
use Rattle.merc_goal_facts.specs.declared.knowing.Known.{Known}

-- the variables of goals one after the other
abbrev pub variables_of_all : List Node → List ℕ
variables_of_all goals = all_variables (nodes_of goals)

-- the places from which on the variables of each goal occur, where those of the first occur from this one on
abbrev pub starts_from : ℕ → List Node → List ℕ
starts_from start [] = []
starts_from start (first ∷ rest) = start ∷ starts_from (start + length (variables first)) rest

-- There are facts of each of these goals, where there are so many.
abbrev pub AreThere : ℕ → List Complete → Type 0
AreThere many [] = Unit {0}
AreThere many (complete ∷ others) = (complete.part < many) × AreThere many others

-- These goals are complete, and their variables occur one behind the other from behind the head variables on. All that are in them are known.
pub record AreComplete (total : ℕ → ℕ) (modes : ℕ → List ModeDecl) (heads : List ℕ) (goals : List Node) (known : Known) : Type 0 where
  pub facts_are : AllAreKnown total modes (all_subgoals (nodes_of goals)) known.facts.items
  pub complete_are : AreKnown total modes known.facts.items known.complete.items (nodes_of goals)
  pub starts_are : map (λ complete. complete.start) known.complete.items ≡ starts_from (length heads) goals
  pub end_is : known.end ≡ length heads + length (variables_of_all goals)

-- A part is known that joins the last of the goals that are complete: they become one. Its variables are the next among all.
abbrev pub Completes : (ℕ → List ModeDecl) → List ℕ → Root → Known → Known → Type 0
Completes modes all root old new =
    (total : ℕ → ℕ) (heads after : List ℕ) (goals : List Node) (span : Span) → ((variable : ℕ) → total variable ≡ count variable all)
    → all ≡ heads ++ (variables_of_all goals ++ (root_variables root ++ after)) → AreComplete total modes heads goals old
    → AreComplete total modes heads (joined root span goals) new
