use Rattle.std.proofs.Common.{◌≡◌, ◌==◌, ◌-◌, ◌∙◌, [], ◌∷◌, ap, length, false, refl, rules}
use Rattle.std.specs.List.{filter}
use Rattle.std.proofs.lemmas.Result.{on_ok_weaker}
use Rattle.merc_graded_tree.specs.Nodes.{nodes_of, outputs_of}
use Rattle.merc_graded_tree.specs.Variables.{in_nodes}
use Rattle.merc_switch_choice.specs.Variables.{behind, all_behind}
use Rattle.merc_switch.specs.Selections.{Selection}
use Rattle.merc_switch.proofs.JudgedGroups.{AreParts, judged_arm}
use Rattle.merc_switch.proofs.judging.push_arm.Goals.{then-as_slice-lt1, else-as_slice-lt1+else-this-lt2}
use Rattle.merc_switch.proofs.judging.push_arm.Goals as goal

pub returns-in-Ok : goal.returns-in-Ok
returns-in-Ok c =
    let disjuncts = c.args.disjuncts in
    let several : (length disjuncts == 1) ≡ false = elim c.if-as_slice-lt1.branch [ then-as_slice-lt1 w ↦ search rules | else-as_slice-lt1+else-this-lt2 w ↦ search rules ] in
    let outer = c.args.outer.now in
    let used = behind (all_behind [] outer.used) outer.variable in
    let selected : Selection = record { whole = outer.whole; disjuncts = disjuncts } in
    let made : c.of.result ≡ selected = c.of.ensures ∙ ap (λ w. record { whole = w; disjuncts = disjuncts }) c.in-Ok.ensures in
    let parts : AreParts selected outer.used outer.left outer.variable c.of.result used (outer.left - 1) (filter (λ output. in_nodes (nodes_of c.of.result.disjuncts) output) (outputs_of c.of.result.whole)) = record {
      selected_is = made;
      used_are = refl;
      left_is = refl;
      outputs_are = ap (λ (s : Selection). filter (λ output. in_nodes (nodes_of s.disjuncts) output) (outputs_of s.whole)) made;
    } in
    on_ok_weaker c.push_group.result
    (λ put. put ∙ ap (λ t. t ∷ c.args.tasks.now) (judged_arm selected outer.used outer.left outer.variable c.of.result used (outer.left - 1) _ several parts)) c.push_group.ensures
