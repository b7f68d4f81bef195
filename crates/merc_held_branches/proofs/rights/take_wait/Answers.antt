use Rattle.std.proofs.Common.{rules, ◌<◌, subst, sym}
use Rattle.merc_cell.specs.Ends.{consumer_name}
use Rattle.merc_held_branches.specs.Beds.{IsNamed}
use Rattle.merc_held_branches.proofs.Picking.{took_wait, no_wait, all_without, wait_near}
use Rattle.merc_held_branches.proofs.rights.take_wait.Goals as goal

pub remove-requires : goal.remove-requires
remove-requires g c = subst (λ n. c.in-Some.place < n) (sym c.args.hold.now.waits.ok.0) (wait_near c.args.variable c.in-Some.place c.args.hold.now.waits.items (search rules))

pub returns-in-Some-clause-some : goal.returns-in-Some-clause-some
returns-in-Some-clause-some g c = (took_wait c.args.variable c.in-Some.place c.args.hold.now.waits.items _ c.remove.result (search rules) c.remove.ensures.value c.remove.ensures.items, search rules)

pub returns-in-Some-clause-kept : goal.returns-in-Some-clause-kept
returns-in-Some-clause-kept g c = record {
  berth = search rules;
  place = search rules;
  link = search rules;
  named = λ table named. record { waits = all_without (λ right. IsNamed table (consumer_name right.end)) c.args.hold.now.waits.items _ c.in-Some.place c.remove.ensures.items named.waits; signals = named.signals };
}

pub returns-in-Some-clause-named : goal.returns-in-Some-clause-named
returns-in-Some-clause-named g c = λ table named. subst (λ right. IsNamed table (consumer_name right.end)) (sym c.remove.ensures.value) (named.waits c.in-Some.place c.remove.result (wait_near c.args.variable c.in-Some.place c.args.hold.now.waits.items (search rules)))

pub returns-in-None-clause-none : goal.returns-in-None-clause-none
returns-in-None-clause-none g c = no_wait 0 c.args.variable c.args.hold.now.waits.items (search rules)
