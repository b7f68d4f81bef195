use Rattle.std.proofs.Common.{◌++◌, ap, sym, ◌∙◌, arith}
use Rattle.std.specs.List.{flat_map}
use Rattle.std.proofs.lemmas.List.{append-nil, drop_all}
use Rattle.merc_goal_tree.specs.Parts.{parts_of}
use Rattle.merc_bodies.specs.Occurrences.{own_in, part_variables}
use Rattle.merc_bodies.proofs.PartVariables.{variables_are, one_more}
use Rattle.merc_bodies.proofs.Parts.{is_there, first_left}
use Rattle.merc_bodies.proofs.occurrences.occurrences.Goals as goal

pub loop-index-init : goal.loop-index-init
loop-index-init c = rw c.new-own.ensures.items (ap (own_in c.args.arity) (variables_are c.args.form.now))

pub unreachable-requires : goal.unreachable-requires
unreachable-requires c = is_there _ c.loop-index.index c.part_count-index-end.result c.in-None.ensures c.loop-index-test.true c.part_count-index-end.ensures

pub loop-index-preserved : goal.loop-index-preserved
loop-index-preserved c =
    let next = first_left (parts_of c.args.form.now) c.loop-index.index _ c.in-Some.ensures in
    one_more c.args.arity _ _ _ _ _ _ next c.in_ok-add_root-in-Some.ensures c.loop-index.invariant

pub returns : goal.returns
returns c =
    let own = c.loop-index.own.items in
    sym (append-nil own)
    ∙ ap (λ l. own ++ own_in c.args.arity (flat_map part_variables l))
    (sym (drop_all c.loop-index.index (parts_of c.args.form.now) (omega (arith, c.loop-index-test.false, c.part_count-index-end.ensures))))
    ∙ c.loop-index.invariant
