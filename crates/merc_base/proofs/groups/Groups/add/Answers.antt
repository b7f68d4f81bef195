use Rattle.std.proofs.Common.{◌≡◌, [], ◌∷◌, ap, ◌∙◌}
use Rattle.std.specs.BTreeMap.{get}
use Rattle.merc_base.specs.Groups.{listed}
use Rattle.merc_base.proofs.GroupLaws.{compare_keys, one_more}
use Rattle.merc_base.proofs.groups.Groups.add.Goals as goal
use Rattle.merc_base.proofs.groups.Groups.add.Goals.{in-Some, in-None}

pub returns : goal.returns
returns g c =
    let before = c.args.self.now.by_key in
    let group_is : c.match-remove.items ≡ listed (get compare_keys before c.args.key) = elim c.match-remove.branch [
      | in-Some w ↦ w.items-is ∙ ap listed w.in-Some.ensures.value
      | in-None w ↦ w.items-is ∙ w.new-items.ensures ∙ ap listed w.in-None.ensures.value
    ] in
    one_more c.args.self.now (record { by_key = c.remove.new.self }) (record { by_key = c.insert.new.self }) c.args.key (c.args.item ∷ []) c.match-remove.items c.push.new.self
    c.remove.ensures.updates.0 c.in_ok-insert.ensures.updates.0 group_is c.in_ok-push.ensures.ok
