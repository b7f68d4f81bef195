use Rattle.std.proofs.Common.{◌≡◌, ◌∙◌, ◌++◌, ◌∷◌, [], ap, sym, length, rules}
use Rattle.std.specs.Vec.Iter.{into_iter_items, into_iter_len}
use Rattle.std.proofs.lemmas.List.{append-nil}
use Rattle.merc_rights.specs.Groups.{all_rights, groups_of}
use Rattle.merc_rights.proofs.SignalLaws.{none_left, row_step}
use Rattle.merc_rights.proofs.signals.signals_of.Goals as goal

pub loop-item-init : goal.loop-item-init
loop-item-init c =
    let all : into_iter_items c.into_iter-item-iterator.result ≡ c.args.groups.items = search rules in
    ap (λ l. l ++ groups_of c.args.number (into_iter_items c.into_iter-item-iterator.result)) c.new-found.ensures.items ∙ ap (groups_of c.args.number) all

pub loop-item-preserved : goal.loop-item-preserved
loop-item-preserved c =
    let rest = into_iter_items c.next.new.self in
    let left : into_iter_items c.loop-item.item-iterator ≡ c.in-Some.item ∷ rest = c.in-Some.ensures.steps.0 in
    row_step c.args.number c.in-Some.item rest c.loop-item.found.items c.put_if.new.groups.items c.in_ok-put_if.ensures
    ∙ ap (λ l. c.loop-item.found.items ++ groups_of c.args.number l) (sym left) ∙ c.loop-item.invariant

pub returns : goal.returns
returns c =
    let it = c.loop-item.item-iterator in
    let counted : length (into_iter_items it) ≡ into_iter_len it = search rules in
    let ended : into_iter_items it ≡ [] = none_left (into_iter_items it) (counted ∙ c.in-None.ensures.steps.0) in
    c.of.ensures ∙ ap all_rights (sym (append-nil c.loop-item.found.items) ∙ ap (λ l. c.loop-item.found.items ++ groups_of c.args.number l) (sym ended) ∙ c.loop-item.invariant)
