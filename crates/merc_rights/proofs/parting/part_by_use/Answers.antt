use Rattle.std.proofs.Common.{◌∙◌, ◌≡◌, ◌++◌, [], ◌∷◌, if◌then◌else◌, ap, sym, not}
use Rattle.std.specs.Option.{is_some}
use Rattle.std.proofs.lemmas.List.{take_all}
use Rattle.merc_graded_tree.specs.Variables.{in_node}
use Rattle.merc_rights.specs.Waits.{rights_of, those_waits, others}
use Rattle.merc_rights.specs.declared.rights.Awaited.{Awaited}
use Rattle.merc_rights.proofs.MoveLaws.{parted_more, used_alone}
use Rattle.merc_rights.proofs.parting.part_by_use.Goals as goal

pub loop-wait-preserved : goal.loop-wait-preserved
loop-wait-preserved c = λ node are.
    let here : in_node node c.wait-item.result.right.variable ≡ c.is_some.result =
    sym (c.is_some.ensures ∙ ap is_some c.next_user-user.ensures ∙ used_alone node c.args.condition.now.goals.items _ are ∙ ap (λ (w : Awaited). in_node node w.right.variable) c.wait.view_is) in
    parted_more (λ w. in_node node w.right.variable) (λ w. not (in_node node w.right.variable)) c.args.waits.now c.loop-wait.wait-index c.wait-item.result c.is_some.result
    c.loop-wait.parted.before c.put.new.parted.before c.loop-wait.parted.inside c.put.new.parted.inside
    c.wait-item.is c.loop-wait-test.true here (ap not here) (c.loop-wait.invariant node are).0 (c.loop-wait.invariant node are).1
    (c.in_ok-put.ensures.before ∙ ap (λ (w : Awaited). c.loop-wait.parted.before ++ (if c.is_some.result then w.right ∷ [] else [])) c.wait.view_is)
    (c.in_ok-put.ensures.inside ∙ ap (λ (w : Awaited). c.loop-wait.parted.inside ++ (if c.is_some.result then [] else w ∷ [])) c.wait.view_is)

pub returns-clause-before : goal.returns-clause-before
returns-clause-before c = λ node are.
    (c.loop-wait.invariant node are).0 ∙ ap (λ l. rights_of (those_waits (in_node node) l)) (take_all c.loop-wait.wait-index c.args.waits.now c.loop-wait-test.false)

pub returns-clause-inside : goal.returns-clause-inside
returns-clause-inside c = λ node are.
    (c.loop-wait.invariant node are).1 ∙ ap (those_waits (others (in_node node))) (take_all c.loop-wait.wait-index c.args.waits.now c.loop-wait-test.false)
