use Rattle.std.proofs.Common.{◌≡◌, ◌||◌, ◌∙◌, ℕ, true, ap, sym}
use Rattle.std.specs.List.{list_all}
use Rattle.merc_graded_tree.specs.Nodes.{nodes_of, outputs_of}
use Rattle.merc_graded_tree.specs.Variables.{in_nodes}
use Rattle.merc_order.specs.Bound.{among}
use Rattle.merc_switch.proofs.Occurrences.{outputs_known}
use Rattle.merc_switch.proofs.occurring.all_in_smallest.Goals as goal

pub returns-then-has_all : goal.returns-then-has_all
returns-then-has_all c =
    let goals = c.args.disjuncts.now in
    let outputs = outputs_of c.args.whole.now in
    let known = c.add_smallest.new.found in
    let all : list_all (λ output. among known output) outputs ≡ true = ap (λ l. list_all (λ output. among known output) l) (sym c.outputs.ensures) ∙ sym c.has_all.ensures ∙ c.if-has_all.true in
    let same : (variable : ℕ) → (among known variable || in_nodes (nodes_of goals) variable) ≡ in_nodes (nodes_of goals) variable =
    λ variable. c.in_ok-add_smallest.ensures variable ∙ ap (λ l. among l variable || in_nodes (nodes_of goals) variable) c.requires in
    c.in_ok-outputs_among.ensures ∙ outputs_known known goals outputs all same
