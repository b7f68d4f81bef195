use Rattle.std.proofs.Common.{◌≡◌, ap, ◌∙◌}
use Rattle.std.specs.BTreeMap.{get}
use Rattle.merc_items.specs.DeclaredModes.{listed}
use Rattle.merc_entries.proofs.KeyLaws.{compare_keys}
use Rattle.merc_items.proofs.ModeGrouping.{one_more}
use Rattle.merc_items.proofs.declared_modes.ModeTable.add.Goals as goal
use Rattle.merc_items.proofs.declared_modes.ModeTable.add.Goals.{in-Some-remove, in-None}

pub returns-in_ok-insert : goal.returns-in_ok-insert
returns-in_ok-insert c = λ predicate.
    let before = c.args.self.now.by_key in
    let group_is : c.match-remove.modes ≡ listed (get compare_keys before c.in-Some.key) = elim c.match-remove.branch [
      | in-Some-remove w ↦ w.modes-is ∙ ap listed w.in-Some-remove.ensures.value
      | in-None w ↦ w.modes-is ∙ w.new-modes.ensures ∙ ap listed w.in-None.ensures.value
    ] in
    rw c.in-Some.is
    (one_more c.args.self.now (record { by_key = c.remove.new.self }) (record { by_key = c.insert.new.self }) c.in-Some.key _ c.match-remove.modes c.push_mode.new.modes
    c.remove.ensures.updates.0 c.in_ok-insert.ensures.updates.0 group_is c.in_ok-push_mode.ensures predicate)
