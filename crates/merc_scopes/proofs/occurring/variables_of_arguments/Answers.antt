use Rattle.std.proofs.Common.{List, ◌++◌, ap, subst, ◌∙◌, reverse, ◌+◌}
use Rattle.std.specs.Result.{IfOk}
use Rattle.merc_tree.specs.Shape.{arguments_of}
use Rattle.merc_scopes.specs.declared.occurrence.Occurrence.{Occurrence}
use Rattle.merc_value.specs.Text.{is_blank}
use Rattle.merc_scopes.specs.FirstPlaces.{Lists}
use Rattle.merc_goals.specs.Numbers.{numbered_from}
use Rattle.merc_scopes.specs.Walking.{stacked}
use Rattle.merc_scopes.proofs.Walks.{stacked-arguments}
use Rattle.merc_scopes.proofs.occurring.variables_of_arguments.Goals as goal

pub returns : goal.returns
returns c =
    let blank = is_blank c.args.names.now in
    let arguments = arguments_of c.args.term.now in
    let P : List Occurrence → Type 0 = λ all. IfOk c.variables.result (λ found. Lists found all) in
    subst P
    (ap (stacked blank) (c.in_ok-push_arguments.ensures ∙ ap (λ l. l ++ reverse (numbered_from (c.args.at + 2) arguments)) c.new-stack.ensures.items) ∙ stacked-arguments blank (c.args.at + 2) arguments)
    c.variables.ensures
