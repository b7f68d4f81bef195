use Rattle.std.proofs.Common.{rules, ◌<◌, subst, sym, refl}
use Rattle.merc_cell.specs.Ends.{producer_name}
use Rattle.merc_held_branches.specs.Lying.{owed_of}
use Rattle.merc_held_branches.specs.Beds.{IsNamed}
use Rattle.merc_held_branches.proofs.Picking.{took_signal, no_signal, all_without, signal_near}
use Rattle.merc_held_branches.proofs.rights.take_signal.Goals as goal

pub remove-requires : goal.remove-requires
remove-requires g c = subst (λ n. c.in-Some.place < n) (sym c.args.hold.now.signals.ok.0) (signal_near c.args.variable c.in-Some.place c.args.hold.now.signals.items (search rules))

pub returns-in-Some-clause-some : goal.returns-in-Some-clause-some
returns-in-Some-clause-some g c = let t = took_signal c.args.variable c.in-Some.place c.args.hold.now.signals.items _ c.remove.result (search rules) c.remove.ensures.value c.remove.ensures.items in (owed_of c.remove.result, t, refl, refl)

pub returns-in-Some-clause-kept : goal.returns-in-Some-clause-kept
returns-in-Some-clause-kept g c = record {
  berth = search rules;
  place = search rules;
  link = search rules;
  named = λ table named. record { waits = named.waits; signals = all_without (λ right. IsNamed table (producer_name right.end)) c.args.hold.now.signals.items _ c.in-Some.place c.remove.ensures.items named.signals };
}

pub returns-in-Some-clause-named : goal.returns-in-Some-clause-named
returns-in-Some-clause-named g c = λ table named. subst (λ right. IsNamed table (producer_name right.end)) (sym c.remove.ensures.value) (named.signals c.in-Some.place c.remove.result (signal_near c.args.variable c.in-Some.place c.args.hold.now.signals.items (search rules)))

pub returns-in-None-clause-none : goal.returns-in-None-clause-none
returns-in-None-clause-none g c = no_signal c.args.variable c.args.hold.now.signals.items (search rules)
