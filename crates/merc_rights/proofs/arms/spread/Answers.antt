use Rattle.std.proofs.Common.{◌≡◌, ◌∙◌, ◌++◌, [], ap, map, sym}
use Rattle.std.specs.List.{flat_map}
use Rattle.std.proofs.lemmas.List.{append-nil}
use Rattle.std.proofs.lemmas.Result.{on_ok_weaker}
use Rattle.merc_rights.specs.Groups.{numbered, rights_in}
use Rattle.merc_rights.proofs.SignalLaws.{none_left}
use Rattle.merc_rights.proofs.SpreadLaws.{last_more}
use Rattle.merc_rights.proofs.arms.spread.Goals as goal

pub returns-in_ok-put_copies-in-Some : goal.returns-in_ok-put_copies-in-Some
returns-in_ok-put_copies-in-Some c = on_ok_weaker c.put_group.result (λ put.
    last_more c.pop.new.self.items c.args.numbers.items c.in-Some.number c.args.group (numbered c.args.found.now.items) c.put_copies.new.found.items c.put_group.new.groups.items c.in-Some.ensures.items
    (c.in_ok-put_copies-in-Some.ensures ∙ ap (λ l. numbered c.args.found.now.items ++ flat_map (λ number. map (λ right. (number, right)) (rights_in c.args.group)) l) c.deref.ensures.value)
    put) c.put_group.ensures

pub returns-in-None : goal.returns-in-None
returns-in-None c =
    let none : c.args.numbers.items ≡ [] = none_left c.args.numbers.items (cc (c.args.numbers.ok.0, c.in-None.ensures.cases.0)) in
    let found = numbered c.args.found.now.items in
    sym (append-nil found) ∙ ap (λ l. found ++ flat_map (λ number. map (λ right. (number, right)) (rights_in c.args.group)) l) (sym none)
