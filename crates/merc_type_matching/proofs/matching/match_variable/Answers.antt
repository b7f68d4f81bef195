use Rattle.merc_type_matching.proofs.matching.match_variable.Goals as goal

pub returns-in_ok-add-in-Variable : goal.returns-in_ok-add-in-Variable
returns-in_ok-add-in-Variable c = record { other = c.in-Variable.other; is = c.in-Variable.ensures.is; adds = c.in_ok-add-in-Variable.ensures }
