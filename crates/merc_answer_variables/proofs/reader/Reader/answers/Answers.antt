use Rattle.std.proofs.Common.{List, [], ◌∷◌, reverse, subst, ◌∙◌}
use Rattle.std.proofs.lemmas.Result.{IfOk-weaker}
use Rattle.merc_value.specs.Text.{is_blank}
use Rattle.merc_answer_variables.specs.declared.variables.Variables.{Variables}
use Rattle.merc_answer_variables.specs.Reading.{status, HoldEach}
use Rattle.merc_answer_variables.proofs.TakingLaws.{last_first}
use Rattle.merc_answer_variables.proofs.Picking.{answers_found}
use Rattle.merc_answer_variables.proofs.reader.Reader.answers.Goals as goal

pub returns-in-Some : goal.returns-in-Some
returns-in-Some c =
    IfOk-weaker c.chosen.result _ _ (λ found is goal read.
    let each = subst (λ (l : List Variables). HoldEach (is_blank c.args.names.now) (goal ∷ []) l) (last_first c.args.self.goals.items c.pop.new.self.items c.in-Some.variables c.in-Some.ensures.items) read.each in
    is ∙ answers_found c.args.names.now goal (status c.in-Some.variables) (reverse c.args.self.trail.items) each.0 read.all)
    c.chosen.ensures
