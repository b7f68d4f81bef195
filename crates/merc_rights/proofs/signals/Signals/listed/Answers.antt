use Rattle.std.proofs.Common.{◌≡◌, ◌∙◌, ◌++◌, ◌∷◌, [], ap, sym, length, rules}
use Rattle.std.specs.Vec.Iter.{into_iter_items, into_iter_len}
use Rattle.std.proofs.lemmas.List.{append-nil, append_assoc}
use Rattle.merc_rights.specs.Groups.{all_rights, rights_in}
use Rattle.merc_rights.proofs.SignalLaws.{none_left}
use Rattle.merc_rights.proofs.signals.Signals.listed.Goals as goal

pub loop-group-init : goal.loop-group-init
loop-group-init c =
    let all : into_iter_items c.into_iter-group-iterator.result ≡ c.self.inside.groups.items = search rules in
    ap (λ l. l ++ all_rights (into_iter_items c.into_iter-group-iterator.result)) c.new-rights.ensures ∙ ap all_rights all ∙ c.self.view_is

pub loop-group-preserved : goal.loop-group-preserved
loop-group-preserved c =
    let rest = into_iter_items c.next.new.self in
    let left : into_iter_items c.loop-group.group-iterator ≡ c.in-Some.group ∷ rest = c.in-Some.ensures.steps.0 in
    ap (λ l. l ++ all_rights rest) c.in_ok-put_rights.ensures ∙ append_assoc c.loop-group.rights (rights_in c.in-Some.group) (all_rights rest)
    ∙ ap (λ l. c.loop-group.rights ++ all_rights l) (sym left) ∙ c.loop-group.invariant

pub returns : goal.returns
returns c =
    let it = c.loop-group.group-iterator in
    let counted : length (into_iter_items it) ≡ into_iter_len it = search rules in
    let ended : into_iter_items it ≡ [] = none_left (into_iter_items it) (counted ∙ c.in-None.ensures.steps.0) in
    sym (append-nil c.loop-group.rights) ∙ ap (λ l. c.loop-group.rights ++ all_rights l) (sym ended) ∙ c.loop-group.invariant
