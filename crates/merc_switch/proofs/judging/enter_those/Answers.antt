use Rattle.std.proofs.Common.{◌≡◌, ◌∙◌, ◌∷◌, Some, None, ap, sym, subst, arith, refl}
use Rattle.merc_order.specs.Bound.{among}
use Rattle.merc_switch.specs.declared.tasks.Task.TheVariants.{Judge, Close}
use Rattle.merc_switch_choice.specs.Choosing.{chosen}
use Rattle.merc_switch.specs.Plans.{HaveSymbol, AreNarrowed, inner_group, outer_label}
use Rattle.merc_switch.proofs.InnerGroups.{with_selected, reaches_self, reaches_end, reaches_inner, choice_told, inner_left, inner_narrowed, none_chosen, one_chosen, performs_same, none_left}
use Rattle.merc_switch.proofs.judging.enter_those.Goals as goal

pub returns-in_default-clause-planned : goal.returns-in_default-clause-planned
returns-in_default-clause-planned c =
    let group = c.loop-group.group in
    λ goals after. performs_same c.args.known.now.types c.args.bound.now group c.choose.new.self c.in_ok-variable.ensures.selection _ c.loop-group.tasks after goals (c.loop-group.invariant.reaches goals)

pub returns-in_default-clause-choice : goal.returns-in_default-clause-choice
returns-in_default-clause-choice c =
    let declared = c.args.known.now.types in
    let bound = c.args.bound.now in
    let group = c.loop-group.group in
    let next = c.in_ok-variable.ensures in
    none_chosen declared bound group c.choose.new.self next.selection
    (choice_told declared bound group group.selected.disjuncts c.loop-group.candidates c.choose.new.candidates c.in_ok-variable.field-0 refl next.choice c.loop-group.invariant.left None c.in_default.is)

pub returns-in_default-common_symbol-clause-planned : goal.returns-in_default-common_symbol-clause-planned
returns-in_default-common_symbol-clause-planned c =
    let group = c.loop-group.group in
    λ goals after. performs_same c.args.known.now.types c.args.bound.now group c.choose.new.self c.in_ok-variable.ensures.selection _ c.loop-group.tasks after goals (c.loop-group.invariant.reaches goals)

pub returns-in_default-common_symbol-clause-choice : goal.returns-in_default-common_symbol-clause-choice
returns-in_default-common_symbol-clause-choice c =
    let declared = c.args.known.now.types in
    let bound = c.args.bound.now in
    let group = c.loop-group.group in
    let variable = c.in-Some.variable in
    let next = c.in_ok-variable.ensures in
    one_chosen declared bound group c.choose.new.self next.selection variable (omega (arith, c.loop-group-test.true))
    (choice_told declared bound group group.selected.disjuncts c.loop-group.candidates c.choose.new.candidates c.in_ok-variable.field-0 refl next.choice c.loop-group.invariant.left (Some variable) c.in-Some.is)

pub step_in-requires : goal.step_in-requires
step_in-requires c = λ now. subst (λ s. AreNarrowed (with_selected c.loop-group.group s)) (sym c.choose.ensures.selection) (c.loop-group.invariant.narrowed now)

pub loop-group-init : goal.loop-group-init
loop-group-init c = record {
  reaches = λ goals. reaches_self c.args.known.now.types (Judge c.args.group.now ∷ c.args.tasks.now) goals c.args.bound.now;
  left = c.requires;
  narrowed = λ now. absurd (cc);
}

pub loop-group-preserved : goal.loop-group-preserved
loop-group-preserved c =
    let declared = c.args.known.now.types in
    let bound = c.args.bound.now in
    let group = c.loop-group.group in
    let variable = c.in-Some.variable in
    let symbol = c.in-Some-common_symbol.symbol in
    let inner = c.step_in.new.group in
    let next = c.in_ok-variable.ensures in
    let stepped = c.in_ok-step_in.ensures in
    let some : Some variable ≡ chosen declared (among bound) group.used group.selected.disjuncts =
    choice_told declared bound group group.selected.disjuncts c.loop-group.candidates c.choose.new.candidates c.in_ok-variable.field-0 refl next.choice c.loop-group.invariant.left (Some variable) c.in-Some.is in
    let have : HaveSymbol variable symbol group.selected.disjuncts = subst (λ l. HaveSymbol variable symbol l) (c.as_slice-disjuncts.ensures ∙ c.disjuncts.ensures ∙ ap (λ s. s.disjuncts) next.selection) c.in-Some-common_symbol.ensures in
    let made : inner ≡ inner_group variable group = stepped.group ∙ ap (λ s. inner_group variable (with_selected group s)) next.selection in
    record {
      reaches = λ goals. reaches_inner declared _ variable symbol group c.loop-group.tasks inner c.step_in.new.tasks goals bound (c.loop-group.invariant.reaches goals) made
          (stepped.tasks ∙ ap (λ s. Close (outer_label variable symbol (with_selected group s)) ∷ c.loop-group.tasks) next.selection) have (omega (arith, c.loop-group-test.true)) some;
      left = inner_left declared bound group group.selected.disjuncts c.loop-group.candidates c.choose.new.candidates c.in_ok-variable.field-0 refl next.choice c.loop-group.invariant.left variable inner made c.in-Some.is;
      narrowed = λ now. inner_narrowed variable group inner made;
    }

pub returns-clause-planned : goal.returns-clause-planned
returns-clause-planned c = λ goals after performs. reaches_end c.args.known.now.types _ (Judge c.loop-group.group ∷ c.loop-group.tasks) after goals c.args.bound.now (c.loop-group.invariant.reaches goals) performs

pub returns-clause-choice : goal.returns-clause-choice
returns-clause-choice c =
    let group = c.loop-group.group in
    none_left group.left (chosen c.args.known.now.types (among c.args.bound.now) group.used group.selected.disjuncts) (omega (arith, c.loop-group-test.false))
