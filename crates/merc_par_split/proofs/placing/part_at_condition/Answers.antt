use Rattle.std.proofs.Common.{◌∙◌, ◌∷◌, [], ap}
use Rattle.std.proofs.lemmas.Result.{IfOk-weaker}
use Rattle.merc_graded_tree.specs.Variables.{in_node}
use Rattle.merc_rights.specs.Waits.{rights_of, those_waits, others}
use Rattle.merc_par_split.proofs.placing.part_at_condition.Goals as goal

pub returns-clause-before : goal.returns-clause-before
returns-clause-before c =
    let condition = c.args.condition.now in
    IfOk-weaker c.part_by_use.result _ _ (λ parted e. e ∙ ap (λ l. rights_of (those_waits (in_node condition) l)) c.as_slice.ensures)
    (c.part_by_use.ensures.before condition (c.in_ok-asked.ensures.goals ∙ c.in_ok-single.ensures ∙ ap (λ g. g ∷ []) c.copy.ensures))

pub returns-clause-inside : goal.returns-clause-inside
returns-clause-inside c =
    let condition = c.args.condition.now in
    IfOk-weaker c.part_by_use.result _ _ (λ parted e. e ∙ ap (λ l. those_waits (others (in_node condition)) l) c.as_slice.ensures)
    (c.part_by_use.ensures.inside condition (c.in_ok-asked.ensures.goals ∙ c.in_ok-single.ensures ∙ ap (λ g. g ∷ []) c.copy.ensures))
