-- What the check of a goal's types tells.
use Rattle.std.specs.Prelude.{◌≡◌, ℕ, ◌∷◌, Bool, true, false, List, [], Option, Some, None, slice_get}
use Rattle.std.proofs.Common.{refl}
use Rattle.merc_tree.specs.Term.{no_span}
use Rattle.merc_tree.specs.Types.{TypeExpr, IntType}
use Rattle.merc_tree.specs.declared.declarations.PredDecl.{PredDecl}
use Rattle.merc_tree.specs.declared.declarations.Module.{Module}
use Rattle.merc_goal_tree.specs.Nodes.{Node}
use Rattle.merc_type_check.specs.Typing.{HasTyping}

abbrev pub Tells : Bool → Module → List TypeExpr → Node → Type 0
Tells true known arguments goal = HasTyping known arguments goal
Tells false known arguments goal = HasTyping known arguments goal → ⊥

-- the declared types of a predicate's arguments, none where there is no predicate
abbrev pub head_types : Option PredDecl → List TypeExpr
head_types None = []
head_types (Some declared) = declared.args

head_types-there : head_types (Some (record { name = 7; args = IntType ∷ []; modes = []; span = no_span; unit = None })) ≡ IntType ∷ []
head_types-there = refl

head_types-none : head_types None ≡ []
head_types-none = refl

-- those of a predicate of a module, by its number
abbrev pub head_of : Module → Option ℕ → List TypeExpr
head_of known None = []
head_of known (Some number) = head_types (slice_get known.preds number)
