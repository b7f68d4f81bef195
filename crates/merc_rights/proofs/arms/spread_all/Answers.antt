use Rattle.std.proofs.Common.{◌≡◌, ◌∙◌, ◌++◌, ◌∷◌, [], ap, sym, length, rules}
use Rattle.std.specs.List.{flat_map}
use Rattle.std.specs.Vec.Iter.{into_iter_items, into_iter_len}
use Rattle.std.proofs.lemmas.List.{append-nil}
use Rattle.merc_rights.specs.Groups.{all_rights, numbered, shares_in}
use Rattle.merc_rights.specs.Rows.{row_of}
use Rattle.merc_rights.proofs.SignalLaws.{none_left}
use Rattle.merc_rights.proofs.SpreadLaws.{spread_more}
use Rattle.merc_rights.proofs.arms.spread_all.Goals as goal

pub loop-group-init : goal.loop-group-init
loop-group-init c lists tells number =
    let it = c.into_iter-group-iterator.result in
    let all : into_iter_items it ≡ c.into_groups-group-items.result.items = search rules in
    ap (λ l. row_of number (numbered l) ++ row_of number (flat_map (shares_in lists) (all_rights (into_iter_items it)))) c.new-found.ensures.items
    ∙ ap (λ l. row_of number (flat_map (shares_in lists) l)) (ap all_rights all ∙ c.into_groups-group-items.ensures)

pub loop-group-preserved : goal.loop-group-preserved
loop-group-preserved c lists tells number =
    let rest = into_iter_items c.next.new.self in
    let left : into_iter_items c.loop-group.group-iterator ≡ c.in-Some.group ∷ rest = c.in-Some.ensures.steps.0 in
    spread_more lists number c.in-Some.group rest c.in_ok-numbers.numbers.items c.loop-group.found.items c.spread.new.found.items c.args.signals (c.in_ok-numbers.ensures lists tells) c.in_ok-spread.ensures
    (ap (λ l. row_of number (numbered c.loop-group.found.items) ++ row_of number (flat_map (shares_in lists) (all_rights l))) (sym left) ∙ c.loop-group.invariant lists tells number)

pub returns : goal.returns
returns c lists tells number =
    let it = c.loop-group.group-iterator in
    let counted : length (into_iter_items it) ≡ into_iter_len it = search rules in
    let ended : into_iter_items it ≡ [] = none_left (into_iter_items it) (counted ∙ c.in-None.ensures.steps.0) in
    let found = row_of number (numbered c.loop-group.found.items) in
    sym (append-nil found) ∙ ap (λ l. found ++ row_of number (flat_map (shares_in lists) (all_rights l))) (sym ended) ∙ c.loop-group.invariant lists tells number
