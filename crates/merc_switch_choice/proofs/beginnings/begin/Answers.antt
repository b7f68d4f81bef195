use Rattle.merc_switch_choice.proofs.BeginningLaws.{basic_on, basic_end, conjunction_on, ends_else, OnOk-weaker}
use Rattle.merc_switch_choice.proofs.beginnings.begin.Goals as goal

pub returns-then-not-branch : goal.returns-then-not-branch
returns-then-not-branch c =
    let told = c.in_ok-begin_basic-in-Basic.ensures in
    basic_end _ _ _ _ _ _ _ c.in-Basic.ensures told.splits told.goes_on c.if-not-branch.true c.clear.ensures.items

pub returns-else-not-branch : goal.returns-else-not-branch
returns-else-not-branch c =
    let told = c.in_ok-begin_basic-in-Basic.ensures in
    basic_on _ _ _ _ _ _ c.in-Basic.ensures told.splits told.goes_on c.if-not-branch.false

pub returns-in-Conjunction : goal.returns-in-Conjunction
returns-in-Conjunction c =
    OnOk-weaker c.begin_conjunction.result _ _ (conjunction_on c.in-Conjunction.running _ _ _ _ c.in-Conjunction.goals c.in-Conjunction.ensures) c.begin_conjunction.ensures

pub returns-in_default : goal.returns-in_default
returns-in_default c = ends_else c.view.result _ _ _ _ c.view.ensures c.in_default.not-Basic c.in_default.not-Conjunction c.clear-in_default.ensures.items
