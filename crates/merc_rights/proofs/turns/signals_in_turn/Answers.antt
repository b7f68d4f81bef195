use Rattle.std.proofs.Common.{◌≡◌, ◌∙◌, ◌++◌, ◌∷◌, [], ap, sym, subst, map, length, rules}
use Rattle.std.specs.List.{flat_map}
use Rattle.std.specs.Vec.Iter.{into_iter_items, into_iter_len}
use Rattle.std.proofs.lemmas.List.{append-nil, append_assoc}
use Rattle.merc_graded_tree.specs.Nodes.{outputs_of}
use Rattle.merc_rights.specs.Groups.{all_rights, numbered, rights_in}
use Rattle.merc_rights.specs.Members.{turn_signal}
use Rattle.merc_rights.specs.Rows.{Tells}
use Rattle.merc_rights.proofs.FlatLaws.{flat-append}
use Rattle.merc_rights.proofs.SignalLaws.{none_left}
use Rattle.merc_rights.proofs.turns.signals_in_turn.Goals as goal

pub loop-group-init : goal.loop-group-init
loop-group-init c =
    let goals = c.args.members.now.goals.items in
    let it = c.into_iter-group-iterator.result in
    let all : into_iter_items it ≡ c.into_groups-group-items.result.items = search rules in
    ap (λ l. numbered l ++ flat_map (turn_signal goals) (all_rights (into_iter_items it))) c.new-found.ensures.items
    ∙ ap (flat_map (turn_signal goals)) (ap all_rights all ∙ c.into_groups-group-items.ensures)

pub loop-group-preserved : goal.loop-group-preserved
loop-group-preserved c =
    let goals = c.args.members.now.goals.items in
    let group = c.in-Some.group in
    let found = numbered c.loop-group.found.items in
    let rest = into_iter_items c.next.new.self in
    let left : into_iter_items c.loop-group.group-iterator ≡ group ∷ rest = c.in-Some.ensures.steps.0 in
    let tells : Tells c.in_ok-binders.binders (map outputs_of goals) = subst (λ l. Tells c.in_ok-binders.binders (map outputs_of l)) c.deref.ensures.value c.in_ok-binders.ensures in
    ap (λ l. l ++ flat_map (turn_signal goals) (all_rights rest)) (c.in_ok-put_in_turn.ensures goals tells)
    ∙ append_assoc found (flat_map (turn_signal goals) (rights_in group)) (flat_map (turn_signal goals) (all_rights rest))
    ∙ ap (λ l. found ++ l) (sym (flat-append (turn_signal goals) (rights_in group) (all_rights rest)))
    ∙ ap (λ l. found ++ flat_map (turn_signal goals) (all_rights l)) (sym left) ∙ c.loop-group.invariant

pub returns : goal.returns
returns c =
    let goals = c.args.members.now.goals.items in
    let it = c.loop-group.group-iterator in
    let counted : length (into_iter_items it) ≡ into_iter_len it = search rules in
    let ended : into_iter_items it ≡ [] = none_left (into_iter_items it) (counted ∙ c.in-None.ensures.steps.0) in
    let found = numbered c.loop-group.found.items in
    sym (append-nil found) ∙ ap (λ l. found ++ flat_map (turn_signal goals) (all_rights l)) (sym ended) ∙ c.loop-group.invariant
