-- The ordered trees of a module's procedures, their bodies, and how many there are.
use Rattle.std.proofs.Common.{◌≡◌, ℕ, List, [], ◌∷◌, ◌++◌, length, map, None, Some, slice_get, refl, sym, ap, subst, arith, ◌∙◌}
use Rattle.std.proofs.lemmas.List.{length-append}
use Rattle.std.proofs.lemmas.Option.{same_Some}
use Rattle.merc_base.specs.FirstFault.{first_of_faults}
use Rattle.merc_base.specs.declared.refusal.Refusal.{Refusal}
use Rattle.merc_tree.specs.declared.declarations.Clause.{Clause}
use Rattle.merc_tree.specs.declared.declarations.ModeDecl.{ModeDecl}
use Rattle.merc_tree.specs.declared.declarations.Module.{Module}
use Rattle.merc_tree.specs.declared.declarations.PredDecl.{PredDecl}
use Rattle.merc_goal_tree.specs.Nodes.{Node}
use Rattle.merc_graded_tree.specs.Nodes.{Node as OrderedNode}
use Rattle.merc_bodies.specs.Bodies.{body_of}
use Rattle.merc_order.specs.Ordered.{Ordered, Outcome, Ready, Stuck}
use Rattle.merc_order.specs.Procedures.{fault_of, first_fresh, mode_faults, mode_trees, modes_of, numbers_below, order_fault, procedure_faults, procedure_from, procedure_trees, query_from, tree_of, IsBody, IsQuery}
use Rattle.merc_order.specs.Spelt.{spelt}
use Rattle.merc_grading.specs.Faults.{Body, Procedure, procedures_of, with_modes}
use Rattle.merc_grading.specs.Fitting.{AreToldApart, Fits}
use Rattle.merc_order_laws.specs.TypedTree.{IsTypedTree}
use Rattle.merc_order_laws.specs.Fitting.{HasNoSwitch}
use Rattle.merc_order_laws.specs.ProcedureBodies.{AreBodiesOf, IsAskedBody}
use Rattle.merc_order_laws.proofs.Spelt.{spelt_has_no_switch}
use Rattle.merc_order_laws.proofs.TypedFitting.{typed_fits}
use Rattle.merc_categories.specs.Fitted.{AreFitted, typed_as}

-- A tree that is a body's has its place among the trees of modes.
tree_is : (modes : ℕ → List ModeDecl) (heads : List ℕ) (goal : Node) (outcome : Outcome) (tree : OrderedNode) → IsBody modes heads outcome goal tree
    → tree_of modes heads goal outcome ≡ tree ∷ []
tree_is modes heads goal (Ready ordered) tree body =
    let same : ordered ≡ body.0 = cc in
    ap (λ (o : Ordered). spelt modes (first_fresh heads goal) o ∷ []) same ∙ ap (λ (t : OrderedNode). t ∷ []) (sym body.2)
tree_is modes heads goal (Stuck fault) tree body = let wrong = body.1 in cc

-- A body's tree fits its types.
pub body_fits : (known : Module) (heads : List ℕ) (outcome : Outcome) (goal : Node) (body : Body) → AreToldApart known.types
    → IsBody (modes_of known.preds) heads outcome goal body.tree → IsTypedTree known body.types body.tree → Fits known.types body.types body.tree
body_fits known heads outcome goal body apart is typed =
    typed_fits known body.types body.tree apart
    (subst (λ (t : OrderedNode). HasNoSwitch t) (sym is.2) (spelt_has_no_switch (modes_of known.preds) (first_fresh heads goal) is.0)) typed

abbrev pub trees_in : List Body → List OrderedNode
trees_in bodies = map (λ body. body.tree) bodies

module _ (known : Module) (form : Clause → Node) where
  trees_of_modes : (declared : PredDecl) (modes : List ModeDecl) (rest : List Procedure) (bodies : List Body) (more : List OrderedNode)
      → AreBodiesOf known form (with_modes declared modes ++ rest) bodies → ((others : List Body) → AreBodiesOf known form rest others → more ≡ trees_in others)
      → mode_trees (modes_of known.preds) (length declared.args) modes (body_of form known.clauses declared) ++ more ≡ trees_in bodies
  trees_of_modes declared [] rest bodies more are others = others bodies are
  trees_of_modes declared (mode ∷ modes) rest [] more are others = absurd are
  trees_of_modes declared (mode ∷ modes) rest (body ∷ bodies) more are others =
      let heads = numbers_below (length declared.args) in
      let goal = body_of form known.clauses declared in
      ap (λ (l : List OrderedNode). (l ++ mode_trees (modes_of known.preds) (length declared.args) modes goal) ++ more)
      (tree_is (modes_of known.preds) heads goal (procedure_from (modes_of known.preds) (length declared.args) mode goal) body.tree are.0.tree)
      ∙ ap (λ (l : List OrderedNode). body.tree ∷ l) (trees_of_modes declared modes rest bodies more are.1 others)

  -- the trees of procedures are those of their bodies
  pub trees_of_bodies : (predicates : List PredDecl) (bodies : List Body) → AreBodiesOf known form (procedures_of predicates) bodies
      → procedure_trees (modes_of known.preds) predicates (map (body_of form known.clauses) predicates) ≡ trees_in bodies
  trees_of_bodies [] [] are = refl
  trees_of_bodies [] (body ∷ bodies) are = absurd are
  trees_of_bodies (declared ∷ rest) bodies are =
      trees_of_modes declared declared.modes (procedures_of rest) bodies (procedure_trees (modes_of known.preds) rest (map (body_of form known.clauses) rest)) are
      (λ others are. trees_of_bodies rest others are)

  -- which fit their types
  pub bodies_fitted : AreToldApart known.types → (procedures : List Procedure) (bodies : List Body) → AreBodiesOf known form procedures bodies → AreFitted known.types bodies (trees_in bodies)
  bodies_fitted apart [] [] are = tt
  bodies_fitted apart [] (body ∷ bodies) are = absurd are
  bodies_fitted apart (procedure ∷ procedures) [] are = absurd are
  bodies_fitted apart (procedure ∷ procedures) (body ∷ bodies) are =
      let declared = procedure.predicate in
      let goal = body_of form known.clauses declared in (
        refl,
        body_fits known (numbers_below (length declared.args)) (procedure_from (modes_of known.preds) (length declared.args) procedure.mode goal) goal body apart are.0.tree are.0.typed,
        bodies_fitted apart procedures bodies are.1,
      )

-- How many trees there are where nothing is wrong.

none_first : (faults : List Refusal) → first_of_faults faults ≡ None → faults ≡ []
none_first [] none = refl
none_first (one ∷ rest) none = cc

none_front : (front back : List Refusal) → front ++ back ≡ [] → front ≡ []
none_front [] back none = refl
none_front (one ∷ front) back none = cc

none_back : (front back : List Refusal) → front ++ back ≡ [] → back ≡ []
none_back [] back none = none
none_back (one ∷ front) back none = cc

module _ (modes : ℕ → List ModeDecl) where
  one_tree : (heads : List ℕ) (goal : Node) (outcome : Outcome) → fault_of outcome ≡ [] → length (tree_of modes heads goal outcome) ≡ 1
  one_tree heads goal (Ready ordered) none = refl
  one_tree heads goal (Stuck fault) none = cc

  count_of_modes : (declared : PredDecl) (own : List ModeDecl) (goal : Node) → mode_faults modes (length declared.args) own goal ≡ []
      → length (mode_trees modes (length declared.args) own goal) ≡ length (with_modes declared own)
  count_of_modes declared [] goal none = refl
  count_of_modes declared (mode ∷ own) goal none =
      let outcome = procedure_from modes (length declared.args) mode goal in
      let heads = numbers_below (length declared.args) in
      omega (
        arith,
        length-append (tree_of modes heads goal outcome) (mode_trees modes (length declared.args) own goal),
        one_tree heads goal outcome (none_front (fault_of outcome) (mode_faults modes (length declared.args) own goal) none),
        count_of_modes declared own goal (none_back (fault_of outcome) (mode_faults modes (length declared.args) own goal) none),
      )

  count_of_all : (goal_of : PredDecl → Node) (predicates : List PredDecl) → procedure_faults modes predicates (map goal_of predicates) ≡ []
      → length (procedure_trees modes predicates (map goal_of predicates)) ≡ length (procedures_of predicates)
  count_of_all goal_of [] none = refl
  count_of_all goal_of (declared ∷ rest) none =
      let own = mode_faults modes (length declared.args) declared.modes (goal_of declared) in
      let others = procedure_faults modes rest (map goal_of rest) in
      omega (
        arith,
        length-append (mode_trees modes (length declared.args) declared.modes (goal_of declared)) (procedure_trees modes rest (map goal_of rest)),
        length-append (with_modes declared declared.modes) (procedures_of rest),
        count_of_modes declared declared.modes (goal_of declared) (none_front own others none),
        count_of_all goal_of rest (none_back own others none),
      )

pub trees_count : (predicates : List PredDecl) (goal_of : PredDecl → Node) → order_fault predicates (map goal_of predicates) ≡ None
    → length (procedure_trees (modes_of predicates) predicates (map goal_of predicates)) ≡ length (procedures_of predicates)
trees_count predicates goal_of none =
    count_of_all (modes_of predicates) goal_of predicates (none_first (procedure_faults (modes_of predicates) predicates (map goal_of predicates)) none)

-- The tree of a goal that is asked is its body's, and fits its types.
pub asked_tree : (known : Module) (answers : List ℕ) (goal : Node) (trees : List OrderedNode) (tree shown : OrderedNode) (body : Body) → AreToldApart known.types
    → slice_get trees 0 ≡ Some shown → trees ≡ tree ∷ [] → IsQuery (modes_of known.preds) answers goal tree → IsAskedBody known answers goal body
    → (body ≡ typed_as body.types shown) × Fits known.types body.types shown
asked_tree known answers goal trees tree shown body apart there one query asked =
    let outcome = query_from (modes_of known.preds) answers goal in
    let same : body.tree ∷ [] ≡ tree ∷ [] =
    sym (tree_is (modes_of known.preds) answers goal outcome body.tree asked.tree) ∙ tree_is (modes_of known.preds) answers goal outcome tree query
    in
    let is : body.tree ≡ shown = same_Some body.tree shown (ap (λ (l : List OrderedNode). slice_get l 0) (same ∙ sym one) ∙ there) in (
      ap (λ (t : OrderedNode). typed_as body.types t) is,
      subst (λ (t : OrderedNode). Fits known.types body.types t) is (body_fits known answers outcome goal body apart asked.tree asked.typed),
    )
