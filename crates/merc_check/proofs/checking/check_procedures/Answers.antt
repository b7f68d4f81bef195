-- What is told of fitted bodies is told of those of the module's procedures.
use Rattle.std.proofs.Common.{◌≡◌, List, map, sym, subst, ◌∙◌}
use Rattle.std.proofs.lemmas.Result.{IfOk-weaker}
use Rattle.merc_tree.specs.declared.declarations.Clause.{Clause}
use Rattle.merc_tree.specs.declared.declarations.Module.{Module}
use Rattle.merc_goal_tree.specs.Nodes.{Node}
use Rattle.merc_graded_tree.specs.Nodes.{Node as OrderedNode}
use Rattle.merc_bodies.specs.Bodies.{body_of}
use Rattle.merc_order.specs.Procedures.{modes_of, procedure_trees}
use Rattle.merc_grading.specs.Faults.{Body, procedures_of}
use Rattle.merc_grading.specs.Fitting.{AreToldApart}
use Rattle.merc_order_laws.specs.ProcedureBodies.{AreBodiesOf}
use Rattle.merc_categories.specs.Fitted.{AreFitted}
use Rattle.merc_check.proofs.ProcedureTrees.{bodies_fitted, trees_of_bodies}
use Rattle.merc_check.proofs.checking.check_procedures.Goals as goal

-- the bodies of the procedures fit the trees
fitted : (known : Module) (form : Clause → Node) (trees : List OrderedNode) (bodies : List Body) → AreToldApart known.types
    → trees ≡ procedure_trees (modes_of known.preds) known.preds (map (body_of form known.clauses) known.preds) → AreBodiesOf known form (procedures_of known.preds) bodies
    → AreFitted known.types bodies trees
fitted known form trees bodies apart ordered are =
    subst (λ (trees : List OrderedNode). AreFitted known.types bodies trees) (sym (ordered ∙ trees_of_bodies known form known.preds bodies are))
    (bodies_fitted known form apart (procedures_of known.preds) bodies are)

pub returns-clause-told : goal.returns-clause-told
returns-clause-told c = λ form bodies ordered are. c.check_categories.ensures.told bodies (fitted c.args.known.now form c.args.ordered.now bodies c.requires.apart ordered are)

pub returns-clause-graded : goal.returns-clause-graded
returns-clause-graded c =
    IfOk-weaker c.check_categories.result _ _
    (λ trees graded form bodies ordered are. graded bodies (fitted c.args.known.now form c.args.ordered.now bodies c.requires.apart ordered are)) c.check_categories.ensures.graded
