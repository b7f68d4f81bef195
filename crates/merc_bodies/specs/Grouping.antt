-- Clauses with their flat forms, as the code keeps them.
use Rattle.std.specs.Prelude.{ℕ, List, [], ◌∷◌, map, Option, Some, None}
use Rattle.std.specs.List.{filter}
use Rattle.merc_tree.specs.declared.declarations.Clause.{Clause}
use Rattle.merc_tree.specs.declared.declarations.PredDecl.{PredDecl}
use Rattle.merc_goal_tree.specs.Nodes.{Node}
use Rattle.merc_bodies.specs.Bodies.{as_one, is_head, joined_forms}
use Rattle.merc_bodies.specs.declared.grouping.Formed.{Formed}

abbrev pub formed_seen : Formed → Clause × Node
formed_seen formed = (formed.clause.now, formed.form)

abbrev pub form_in : Formed → Node
form_in formed = formed.form

-- clauses with their forms, as long as there are both
abbrev pub paired : List Clause → List Node → List (Clause × Node)
paired [] forms = []
paired (clause ∷ clauses) [] = []
paired (clause ∷ clauses) (form ∷ forms) = (clause, form) ∷ paired clauses forms

abbrev pub paired_with : Clause → Option Node → List (Clause × Node)
paired_with clause None = []
paired_with clause (Some form) = (clause, form) ∷ []

-- those of these clauses that have a predicate's head
abbrev pub headed : PredDecl → List (Clause × Node) → List (Clause × Node)
headed declared pairs = filter (λ pair. is_head declared pair.0.head) pairs

-- the body of a predicate of so many arguments with these clauses
abbrev pub body_of_pairs : ℕ → List (Clause × Node) → Node
body_of_pairs arity pairs = as_one (map (λ pair. pair.0) pairs) (joined_forms arity arity (map (λ pair. pair.1) pairs))
