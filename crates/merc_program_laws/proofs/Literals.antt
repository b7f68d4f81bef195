-- The literals of an ordered goal are those of the goal as it is written.
use Rattle.std.proofs.Common.{◌≡◌, ℕ, List, [], ◌∷◌, map, refl}
use Rattle.std.specs.List.{AllByRecursion}
use Rattle.merc_goal_tree.specs.declared.goal.SimpleGoal.{SimpleGoal}
use Rattle.merc_goal_tree.specs.declared.goal.Symbol.{Symbol}
use Rattle.merc_goal_tree.specs.declared.goal.Symbol.TheVariants.{Constructor, Integer, Text}
use Rattle.merc_goal_tree.specs.Nodes.{Node}
use Rattle.merc_graded_tree.specs.declared.basic.BasicGoal.{BasicGoal}
use Rattle.merc_graded_tree.specs.declared.basic.BasicGoal.TheVariants.{True, Fail, Assign, Test, Build, Split, Arithmetic, Compare, Raise, Call, Wait, Signal}
use Rattle.merc_graded_tree.specs.Nodes.{Node as OrderedNode}
use Rattle.merc_order_laws.specs.WrittenGoals.{simple_goals, basic_goals, written_goal}
use Rattle.merc_order_laws.specs.MadeOf.{renamed, StandsFor, as_written, turned_round, with_itself, IsMadeOf}
use Rattle.merc_order_laws.proofs.TreeTypes.{all_at}
use Rattle.merc_program_laws.specs.GoodPrograms.{FitsArguments, HasLiteral, HasLiterals}
use Rattle.merc_program_laws.specs.ProgramBodies.{WrittenLiteral, HasWrittenLiterals}

none_mapped : (new : ℕ → ℕ) (ys : List ℕ) → map new ys ≡ [] → ys ≡ []
none_mapped new [] h = refl
none_mapped new (y ∷ ys) h = absurd (cc)

fits_back : (new : ℕ → ℕ) (symbol : Symbol) (ys : List ℕ) → FitsArguments symbol (map new ys) → FitsArguments symbol ys
fits_back new (Constructor name arity) ys h = tt
fits_back new (Integer value) ys h = (h.0, none_mapped new ys h.1)
fits_back new (Text text) ys h = none_mapped new ys h

literal_back : (new : ℕ → ℕ) (g : BasicGoal) → WrittenLiteral (renamed new (written_goal g)) → HasLiteral g
literal_back new True h = tt
literal_back new Fail h = tt
literal_back new (Assign to from) h = tt
literal_back new (Test one other) h = tt
literal_back new (Build whole symbol ys) h = fits_back new symbol ys h
literal_back new (Split whole symbol ys) h = fits_back new symbol ys h
literal_back new (Arithmetic operation result left right) h = tt
literal_back new (Compare comparison left right) h = tt
literal_back new (Raise text) h = tt
literal_back new (Call procedure arguments) h = tt
literal_back new (Wait variable conjunct) h = tt
literal_back new (Signal variable conjunct) h = tt

stands_literal : (goals : List SimpleGoal) → AllByRecursion WrittenLiteral goals → (g : SimpleGoal) → StandsFor goals g → WrittenLiteral g
stands_literal goals h g (as_written k c) = all_at WrittenLiteral goals h c.0 k c.1 c.2
stands_literal goals h g (turned_round a b c) = tt
stands_literal goals h g (with_itself v) = tt

all_back : (goals : List SimpleGoal) (new : ℕ → ℕ) (xs : List BasicGoal) → AllByRecursion WrittenLiteral goals → AllByRecursion (λ g. StandsFor goals (renamed new (written_goal g))) xs → AllByRecursion HasLiteral xs
all_back goals new [] h made = tt
all_back goals new (x ∷ xs) h made = (literal_back new x (stands_literal goals h (renamed new (written_goal x)) made.0), all_back goals new xs h made.1)

pub literals_stay : (goal : Node) (new : ℕ → ℕ) (tree : OrderedNode) → HasWrittenLiterals goal → IsMadeOf goal new tree → HasLiterals tree
literals_stay goal new tree h made = all_back (simple_goals goal) new (basic_goals tree) h made
