use Rattle.std.proofs.Common.{◌≡◌, ◌+◌, ◌-◌, ◌∙◌, ap, sym, subst, suc, length, true, false, arith}
use Rattle.std.specs.List.{slice_index_or}
use Rattle.merc_goal_tree.specs.Parts.{parts_of}
use Rattle.merc_order.specs.Bound.{among}
use Rattle.merc_goal_facts.specs.Bounds.{all_behind}
use Rattle.merc_goal_facts.specs.declared.facts.Facts.{Facts}
use Rattle.merc_readiness.specs.Sweeps.{Extends, BindsFrom}
use Rattle.merc_readiness.proofs.Marking.{parts_length}
use Rattle.merc_readiness.proofs.Binding.{extends_all, binds_over, binds_on}
use Rattle.merc_readiness.proofs.waiting.bind_if_gone.Goals as goal

pub overflow_sub-own : goal.overflow_sub-own
overflow_sub-own c = let h = parts_length c.args.goal.now in omega arith

pub bounds-marks-own : goal.bounds-marks-own
bounds-marks-own c = let h = parts_length c.args.goal.now in omega arith

pub bounds-facts-own : goal.bounds-facts-own
bounds-facts-own c = let h = parts_length c.args.goal.now in omega arith

pub returns-then-not-marks-own-clause-binds : goal.returns-then-not-marks-own-clause-binds
returns-then-not-marks-own-clause-binds c = λ total modes rest target whole index listed b.
    let h = parts_length c.args.goal.now in
    let own_is : suc (c.args.at + c.part_count.result - 1) ≡ c.args.at + length (parts_of c.args.goal.now) = omega arith in
    let mark : slice_index_or c.args.marks.now (c.args.at + c.part_count.result - 1) false ≡ false = c.if-not-marks-own.true in
    binds_over total modes c.args.goal.now rest c.args.facts.now c.args.marks.now c.args.at (c.args.at + c.part_count.result - 1) (among c.args.bound.now) target whole index listed b mark own_is

pub returns-clause-extends : goal.returns-clause-extends
returns-clause-extends c =
    subst (λ l. Extends c.args.bound.now l) (sym c.in_ok-bind_all.ensures) (extends_all c.args.bound.now c.as_slice.result.now)

pub returns-clause-binds : goal.returns-clause-binds
returns-clause-binds c = λ total modes rest target whole index listed b.
    let h = parts_length c.args.goal.now in
    let own_is : suc (c.args.at + c.part_count.result - 1) ≡ c.args.at + length (parts_of c.args.goal.now) = omega arith in
    let mark : slice_index_or c.args.marks.now (c.args.at + c.part_count.result - 1) false ≡ true = c.if-not-marks-own.false in
    let set : c.bind_all.new.self ≡ all_behind c.args.bound.now c.index-facts-own.result.binds = c.in_ok-bind_all.ensures ∙ ap (λ l. all_behind c.args.bound.now l) c.as_slice.ensures
    ∙ ap (λ (f : Facts). all_behind c.args.bound.now f.binds) (sym c.index-facts-own.is) in
    subst (λ l. BindsFrom total modes rest c.args.facts.now c.args.marks.now (c.args.at + length (parts_of c.args.goal.now)) (among l) target whole (suc index) listed) (sym set)
    (binds_on total modes c.args.goal.now rest c.args.facts.now c.args.marks.now c.args.at (c.args.at + c.part_count.result - 1) c.args.bound.now target whole index listed c.index-facts-own.result
    b mark own_is c.index-facts-own.is)
