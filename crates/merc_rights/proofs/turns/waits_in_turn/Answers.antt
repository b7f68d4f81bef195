use Rattle.std.proofs.Common.{◌∙◌, ap, sym, ◌++◌, []}
use Rattle.std.specs.List.{flat_map}
use Rattle.std.specs.Option.{option_to_list}
use Rattle.std.proofs.lemmas.List.{take_all, append-nil}
use Rattle.std.proofs.lemmas.Result.{IfOk-weaker}
use Rattle.merc_rights.specs.Members.{turn_wait}
use Rattle.merc_rights.specs.Rows.{row_of}
use Rattle.merc_rights.proofs.Indexes.{flat_more}
use Rattle.merc_rights.proofs.turns.waits_in_turn.Goals as goal
use Rattle.merc_rights.proofs.turns.waits_in_turn.Goals.{in-Some+in_ok-push, in_default}

pub loop-wait-preserved : goal.loop-wait-preserved
loop-wait-preserved c =
    let goals = c.args.members.now.goals.items in
    let turn = c.turn_of_wait.ensures in
    elim c.match-turn_of_wait.branch [
      | in-Some+in_ok-push w ↦
          ap (λ l. l.items) w.found-is
          ∙ flat_more (turn_wait goals) c.args.waits.now c.loop-wait.wait-index c.wait-item.result [] c.loop-wait.found.items w.push.new.self.items
          c.wait-item.is c.loop-wait-test.true c.loop-wait.invariant (w.in_ok-push.ensures.items ∙ ap (λ l. c.loop-wait.found.items ++ l) (ap option_to_list (sym w.in-Some.is) ∙ turn))
      | in_default w ↦
          ap (λ l. l.items) w.found-is
          ∙ flat_more (turn_wait goals) c.args.waits.now c.loop-wait.wait-index c.wait-item.result [] c.loop-wait.found.items c.loop-wait.found.items
          c.wait-item.is c.loop-wait-test.true c.loop-wait.invariant (sym (append-nil c.loop-wait.found.items) ∙ ap (λ l. c.loop-wait.found.items ++ l) (ap option_to_list (sym w.in_default.is) ∙ turn))
    ]

pub returns : goal.returns
returns c =
    IfOk-weaker c.of.result _ _ (λ rows told number. told number ∙ ap (row_of number) (c.loop-wait.invariant
    ∙ ap (flat_map (turn_wait c.args.members.now.goals.items)) (take_all c.loop-wait.wait-index c.args.waits.now c.loop-wait-test.false))) c.of.ensures
