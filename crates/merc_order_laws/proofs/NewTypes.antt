-- Goals with new variables are typed where these have the types of the old ones.
use Rattle.std.proofs.Common.{◌≡◌, ℕ, true, List, [], ◌∷◌, map, Option, Some, None, slice_get, ap, sym, ◌∙◌, subst}
use Rattle.std.specs.Prelude.{◌==◌}
use Rattle.std.specs.List.{AllByRecursion, flat_map}
use Rattle.std.proofs.lemmas.Bool.{or_right}
use Rattle.merc_base.specs.declared.place.Span.{Span}
use Rattle.merc_tree.specs.Types.{TypeExpr}
use Rattle.merc_tree.specs.declared.declarations.Constructor.{Constructor}
use Rattle.merc_tree.specs.declared.declarations.TypeDef.{TypeDef}
use Rattle.merc_tree.specs.declared.declarations.PredDecl.{PredDecl}
use Rattle.merc_tree.specs.declared.declarations.Module.{Module}
use Rattle.merc_goal_tree.specs.declared.entries.Root.{Root}
use Rattle.merc_goal_tree.specs.declared.goal.SimpleGoal.{SimpleGoal}
use Rattle.merc_goal_tree.specs.declared.goal.SimpleGoal.TheVariants.{True, Fail, Same, Shape, Arithmetic, Compare, Raise, Call}
use Rattle.merc_goal_tree.specs.declared.goal.Symbol.{Symbol}
use Rattle.merc_goal_tree.specs.declared.goal.Symbol.TheVariants.{Constructor as ConstructorSymbol, Integer as IntegerSymbol, Text as TextSymbol}
use Rattle.merc_goal_tree.specs.Nodes.{Node}
use Rattle.merc_goal_tree.specs.Parts.{parts_of}
use Rattle.merc_goal_tree.specs.Variables.{variables_of, variables}
use Rattle.merc_name_resolution.specs.Known.{constructor_in}
use Rattle.merc_bodies.specs.Occurrences.{part_variables, root_variables}
use Rattle.merc_bodies.specs.Renamed.{renamed, renamed_goal}
use Rattle.merc_bodies.specs.Rebuilding.{renamed_root}
use Rattle.merc_bodies.proofs.Rising.{has, first_has}
use Rattle.merc_bodies.proofs.Members.{has_first, has_second}
use Rattle.merc_bodies.proofs.PartVariables.{variables_are}
use Rattle.merc_bodies.proofs.RenamedParts.{renamed_part, parts_renamed}
use Rattle.merc_type_check.specs.Typing.{HaveTypes, IsConstructed, IsCalled, HasSymbol, IsTypedGoal, IsTypedPart}

module _ (known : Module) (types types' : ℕ → TypeExpr) (new : ℕ → ℕ) where
  -- the new variables of these have their types
  abbrev pub KeepTypes : List ℕ → Type 0
  KeepTypes among = (number : ℕ) → has number among ≡ true → types' (new number) ≡ types number

  first_keeps : (first : ℕ) (rest : List ℕ) → KeepTypes (first ∷ rest) → types' (new first) ≡ types first
  first_keeps first rest keep = keep first (first_has first rest)

  rest_keep : (first : ℕ) (rest : List ℕ) → KeepTypes (first ∷ rest) → KeepTypes rest
  rest_keep first rest keep number there = keep number (or_right (number == first) (has number rest) there)

  have_types : (instance : ℕ → TypeExpr) (among : List ℕ) (declared : List TypeExpr) → KeepTypes among → HaveTypes known types instance among declared → HaveTypes known types' instance (map new among) declared
  have_types instance [] [] keep typed = tt
  have_types instance [] (declared ∷ others) keep typed = typed
  have_types instance (first ∷ rest) [] keep typed = typed
  have_types instance (first ∷ rest) (declared ∷ others) keep typed = (first_keeps first rest keep ∙ typed.0, have_types instance rest others (rest_keep first rest keep) typed.1)

  constructed : (variable : ℕ) (found : Option (TypeDef × Constructor)) (arguments : List ℕ) → KeepTypes (variable ∷ arguments)
      → IsConstructed known types variable found arguments → IsConstructed known types' (new variable) found (map new arguments)
  constructed variable None arguments keep typed = typed
  constructed variable (Some found) arguments keep typed =
      (typed.0, (first_keeps variable arguments keep ∙ typed.1.0, have_types typed.0 arguments found.1.args (rest_keep variable arguments keep) typed.1.1))

  called : (found : Option PredDecl) (arguments : List ℕ) → KeepTypes arguments → IsCalled known types found arguments → IsCalled known types' found (map new arguments)
  called None arguments keep typed = typed
  called (Some declared) arguments keep typed = (typed.0, have_types typed.0 arguments declared.args keep typed.1)

  has_symbol : (variable : ℕ) (symbol : Symbol) (arguments : List ℕ) → KeepTypes (variable ∷ arguments)
      → HasSymbol known types variable symbol arguments → HasSymbol known types' (new variable) symbol (map new arguments)
  has_symbol variable (ConstructorSymbol name arity) arguments keep typed = constructed variable (constructor_in known.types name arity) arguments keep typed
  has_symbol variable (IntegerSymbol value) arguments keep typed = first_keeps variable arguments keep ∙ typed
  has_symbol variable (TextSymbol text) arguments keep typed = first_keeps variable arguments keep ∙ typed

  goal_typed : (goal : SimpleGoal) → KeepTypes (variables_of goal) → IsTypedGoal known types goal → IsTypedGoal known types' (renamed_goal new goal)
  goal_typed True keep typed = tt
  goal_typed Fail keep typed = tt
  goal_typed (Same one other) keep typed = first_keeps one (other ∷ []) keep ∙ typed ∙ sym (first_keeps other [] (rest_keep one (other ∷ []) keep))
  goal_typed (Shape variable symbol arguments) keep typed = has_symbol variable symbol arguments keep typed
  goal_typed (Arithmetic operation result left right) keep typed =
      let behind = rest_keep result (left ∷ right ∷ []) keep in (
        first_keeps result (left ∷ right ∷ []) keep ∙ typed.0,
        first_keeps left (right ∷ []) behind ∙ typed.1,
        first_keeps right [] (rest_keep left (right ∷ []) behind) ∙ typed.2,
      )
  goal_typed (Compare comparison left right) keep typed = (first_keeps left (right ∷ []) keep ∙ typed.0, first_keeps right [] (rest_keep left (right ∷ []) keep) ∙ typed.1)
  goal_typed (Raise text) keep typed = first_keeps text [] keep ∙ typed
  goal_typed (Call number arguments) keep typed = called (slice_get known.preds number) arguments keep typed

  part_typed : (root : Root) (span : Span) → KeepTypes (root_variables root) → IsTypedPart known types (root, span) → IsTypedPart known types' (renamed_root new root, span)
  part_typed (Root.Simple goal) span keep typed = goal_typed goal keep typed
  part_typed (Root.Conjunction count) span keep typed = tt
  part_typed (Root.Parallel count) span keep typed = tt
  part_typed (Root.Disjunction count) span keep typed = tt
  part_typed Root.Conditional span keep typed = tt
  part_typed Root.Negation span keep typed = tt
  part_typed (Root.Quantified own) span keep typed = tt

  parts_typed : (parts : List (Root × Span)) → KeepTypes (flat_map part_variables parts)
      → AllByRecursion (IsTypedPart known types) parts → AllByRecursion (IsTypedPart known types') (map (renamed_part new) parts)
  parts_typed [] keep typed = tt
  parts_typed (first ∷ rest) keep typed = (
    part_typed first.0 first.1 (λ number there. keep number (has_first number (part_variables first) (flat_map part_variables rest) there)) typed.0,
    parts_typed rest (λ number there. keep number (has_second number (part_variables first) (flat_map part_variables rest) there)) typed.1,
  )

  pub renamed_typed : (goal : Node) → KeepTypes (variables goal)
      → AllByRecursion (IsTypedPart known types) (parts_of goal) → AllByRecursion (IsTypedPart known types') (parts_of (renamed new goal))
  renamed_typed goal keep typed =
      subst (AllByRecursion (IsTypedPart known types')) (sym (parts_renamed new goal))
      (parts_typed (parts_of goal) (λ number there. keep number (ap (has number) (sym (variables_are goal)) ∙ there)) typed)
