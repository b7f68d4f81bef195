use Rattle.std.proofs.Common.{◌∷◌, [], ◌++◌, ap, sym, ◌∙◌}
use Rattle.std.proofs.lemmas.Result.{IfOk-weaker}
use Rattle.merc_flat.specs.Counted.{own}
use Rattle.merc_goal_tree.specs.Variables.{variables_of}
use Rattle.merc_flat.proofs.CountLaws.{own-both, same_numbers}
use Rattle.merc_flat.proofs.counting.add_goal.Goals as goal

pub returns-in_ok-add_variable-in-Shape : goal.returns-in_ok-add_variable-in-Shape
returns-in_ok-add_variable-in-Shape c =
    IfOk-weaker c.add_variables-in-Shape.result _ _
    (λ _ adds. λ numbers before.
    same_numbers _ _ _
    (own-both c.args.arity numbers (c.in-Shape.variable ∷ []) c.as_slice.result.now
    ∙ ap (λ l. numbers ++ own c.args.arity (c.in-Shape.variable ∷ l)) c.as_slice.ensures
    ∙ ap (λ g. numbers ++ own c.args.arity (variables_of g)) (sym c.in-Shape.is))
    (adds (numbers ++ own c.args.arity (c.in-Shape.variable ∷ [])) (c.in_ok-add_variable-in-Shape.ensures numbers before)))
    c.add_variables-in-Shape.ensures
