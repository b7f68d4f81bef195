use Rattle.std.proofs.Common.{◌≡◌, refl}
use Rattle.merc_script.proofs.Reading.{is_script, one_counted}
use Rattle.merc_script.proofs.script.Script.from_items.Goals as goal

pub invariant_of-result : goal.invariant_of-result
invariant_of-result c = is_script c.args.items.items (rw c.deref.ensures.value at (c.if-is_one_script.ensures.0 refl))

pub returns-then-is_one_script : goal.returns-then-is_one_script
returns-then-is_one_script c = is_script c.args.items.items (rw c.deref.ensures.value at (c.if-is_one_script.ensures.0 refl))

pub returns-else-is_one_script : goal.returns-else-is_one_script
returns-else-is_one_script c = λ script same. let e = c.if-is_one_script.ensures.1 (rw c.deref.ensures.value (one_counted script c.args.items.items same)) in absurd (cc (e))
