use Rattle.std.proofs.Common.{◌∙◌, subst, sym}
use Rattle.merc_grading.specs.Switches.{grouped}
use Rattle.merc_switch_choice.specs.Arms.{AreArms}
use Rattle.merc_switch_choice.proofs.ArmLaws.{grouped_some, grouped_none, same_lengths}
use Rattle.merc_switch_choice.proofs.arms.put_all.Goals as goal

pub put_under-requires : goal.put_under-requires
put_under-requires c =
    same_lengths (grouped c.args.variable c.loop-disjunct.yielded) c.loop-disjunct.symbols.items c.loop-disjunct.groups.items c.loop-disjunct.places c.loop-disjunct.invariant.places c.loop-disjunct.invariant.arms

pub loop-disjunct-preserved-in-Continue-1 :
    goal.loop-disjunct-preserved-in-Continue-1
loop-disjunct-preserved-in-Continue-1 c =
    let groups = grouped c.args.variable c.loop-disjunct.yielded in
    record {
      arms = subst (λ gs. AreArms c.put_under.new.symbols.items c.put_under.new.groups.items gs)
          (sym (grouped_some c.args.variable c.loop-disjunct.yielded c.in-Some.disjunct c.in-Some-symbol.symbol (sym c.symbol.ensures ∙ c.in-Some-symbol.is)))
          (c.in_ok-put_under.ensures.arms groups c.loop-disjunct.invariant.places c.loop-disjunct.invariant.arms);
      places = c.in_ok-put_under.ensures.places groups c.loop-disjunct.invariant.places c.loop-disjunct.invariant.arms;
    }

pub loop-disjunct-preserved : goal.loop-disjunct-preserved
loop-disjunct-preserved c = record {
  arms = subst (λ groups. AreArms c.loop-disjunct.symbols.items c.loop-disjunct.groups.items groups) (sym (grouped_none c.args.variable c.loop-disjunct.yielded c.in-Some.disjunct (sym c.symbol.ensures ∙ c.in_default.is))) c.loop-disjunct.invariant.arms;
  places = c.loop-disjunct.invariant.places;
}
