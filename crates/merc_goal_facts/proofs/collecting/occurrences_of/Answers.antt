use Rattle.std.proofs.Common.{◌++◌, ◌∙◌, ap, arith}
use Rattle.std.proofs.lemmas.List.{take_all}
use Rattle.merc_goal_tree.specs.Parts.{parts_of}
use Rattle.merc_goal_facts.specs.Occurring.{parts_variables}
use Rattle.merc_goal_facts.proofs.Occurring.{part_more, no_part_more, parts_variables-parts_of}
use Rattle.merc_goal_facts.proofs.collecting.occurrences_of.Goals as goal
use Rattle.merc_goal_facts.proofs.collecting.occurrences_of.Goals.{in-Some+in_ok-push_root, in_default}

pub loop-index-preserved : goal.loop-index-preserved
loop-index-preserved c =
    elim c.match-part.branch [
      | in-Some+in_ok-push_root w ↦
          rw w.all-is
          (w.in_ok-push_root.ensures ∙ part_more c.args.heads.now c.loop-index.all (parts_of c.args.goal.now) c.loop-index.index w.in-Some.root.now w.in-Some.field-0-1 w.in-Some.ensures c.loop-index.invariant)
      | in_default w ↦
          rw w.all-is (no_part_more c.args.heads.now c.loop-index.all (parts_of c.args.goal.now) c.loop-index.index w.in_default.ensures c.loop-index.invariant)
    ]

pub returns : goal.returns
returns c =
    let parts = parts_of c.args.goal.now in
    c.loop-index.invariant
    ∙ ap (λ l. c.args.heads.now ++ parts_variables l) (take_all c.loop-index.index parts (omega (arith, c.part_count-index-end.ensures, c.loop-index-test.false)))
    ∙ ap (λ l. c.args.heads.now ++ l) (parts_variables-parts_of c.args.goal.now)
