use Rattle.std.proofs.Common.{slice_index_or}
use Rattle.std.proofs.lemmas.List.{get_or_default}
use Rattle.merc_rights.specs.Groups.{numbered, rights_in}
use Rattle.merc_rights.proofs.SpreadLaws.{copies_more}
use Rattle.merc_rights.proofs.arms.put_copies.Goals as goal

pub loop-number-preserved : goal.loop-number-preserved
loop-number-preserved c =
    let numbers = c.args.numbers.now in
    let index = c.loop-number.number-index in
    let number = slice_index_or numbers index 0 in
    copies_more numbers index number (rights_in c.args.group.now) (numbered c.args.found.now.items) c.loop-number.found.items c.put_group.new.groups.items
    c.in_ok-try_clone.field-0 (get_or_default numbers index 0 number c.loop-number-test.true) c.loop-number-test.true c.in_ok-try_clone.ensures c.loop-number.invariant c.in_ok-put_group.ensures
