use Rattle.std.proofs.Common.{◌∙◌, ◌++◌, ◌∷◌, [], ap, map, suc, if◌then◌else◌, refl}
use Rattle.std.proofs.lemmas.Result.{on_ok_weaker}
use Rattle.merc_rights.specs.Waits.{fresh}
use Rattle.merc_rights.specs.Rights.{right_to}
use Rattle.merc_rights.proofs.FoundLaws.{is_told, cells_put, waits_put, signals_put, moves_put}
use Rattle.merc_rights.proofs.conjuncts.put_variable.Goals as goal

pub returns : goal.returns
returns c = on_ok_weaker c.put_group.result (λ put list variables tells held moved are_held.
    let goals = c.args.members.now.goals.items in
    let variable = c.args.variable in
    let producer = c.args.producer in
    let child = c.in_ok-child.child in
    let behind = c.is_some.result in
    let users = c.in_ok-users.users.items in
    let consumers = c.in_ok-consumers.consumers.items in
    let are = c.in_ok-consumers.ensures ∙ ap (λ l. map suc l ++ (if behind then 0 ∷ [] else [])) c.deref.ensures.value in
    let told = is_told variable c.args.outputs.now list c.next.result behind tells c.next.ensures c.is_some.ensures in
    let is_held = is_told variable c.args.held.now variables c.next-2.result c.is_some-is_held.result held c.next-2.ensures c.is_some-is_held.ensures in record {
      more_cells = cells_put goals list producer variable child behind users consumers c.in_ok-child.ensures c.in_ok-users.ensures are told c.args.found.now.cells.items c.put_cells.new.cells.items
          (c.in_ok-put_cells.ensures ∙ ap (λ l. c.args.found.now.cells.items ++ map (λ consumer. record { variable = variable; producer = child; consumer = consumer }) l) c.deref-2.ensures.value);
      more_moves = moves_put goals list producer variable child behind users consumers c.in_ok-child.ensures c.in_ok-users.ensures are told moved variables c.is_some-is_held.result
          c.args.found.now.moves.items c.put_move.new.moves.items are_held is_held c.in_ok-put_move.ensures;
      more_waits = waits_put goals list producer variable child behind users consumers c.in_ok-child.ensures c.in_ok-users.ensures are told c.args.found.now.waits.items c.put_waits.new.waits.items
          (c.in_ok-put_waits.ensures ∙ ap (λ l. c.args.found.now.waits.items ++ map (λ user. (user, fresh (right_to (suc user) variable))) l) c.deref-3.ensures.value);
      more_signals = signals_put goals list producer variable child behind users consumers c.in_ok-child.ensures c.in_ok-users.ensures are told moved c.args.found.now.signals.items c.put_group.new.groups.items _ put refl refl refl;
    }) c.put_group.ensures
