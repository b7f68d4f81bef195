use Rattle.std.proofs.lemmas.Result.{IfOk-weaker}
use Rattle.merc_type_matching.proofs.Pairings.{arguments_matched, matches_closed, variable_matched}
use Rattle.merc_type_matching.proofs.matching.match_part.Goals as goal

pub returns-in-Variable : goal.returns-in-Variable
returns-in-Variable c =
    IfOk-weaker c.match_variable.result _ _
    (λ same found. variable_matched c.args.table.now same (record { one = c.args.one; other = c.args.other }) c.args.found.now c.match_variable.new.found c.args.parts.now.items c.in-Variable.name c.in-Variable.ensures.is found)
    c.match_variable.ensures

pub returns-in-With : goal.returns-in-With
returns-in-With c =
    IfOk-weaker c.match_arguments.result _ _
    (λ same split. arguments_matched c.args.table.now same (record { one = c.args.one; other = c.args.other }) c.args.found.now c.args.parts.now.items c.match_arguments.new.parts.items c.in-With.first c.in-With.rest
    c.requires.met c.in-With.ensures.is c.in-With.ensures.complete c.in-With.ensures.before c.requires.one c.requires.other split)
    c.match_arguments.ensures

pub returns-then-is_closed_alike : goal.returns-then-is_closed_alike
returns-then-is_closed_alike c =
    let both = c.is_closed_alike.ensures c.if-is_closed_alike.true in
    matches_closed c.args.table.now (record { one = c.args.one; other = c.args.other }) c.args.found.now c.args.parts.now.items c.requires.met both.0 both.1
