use Rattle.std.proofs.Common.{◌∙◌, ◌≤◌, ◌++◌, ap, sym, subst, length, reverse}
use Rattle.std.proofs.lemmas.Result.{on_ok_weaker}
use Rattle.merc_graded_tree.specs.Roots.{bodies_of, goals_in}
use Rattle.merc_graded_tree.specs.Views.{viewed}
use Rattle.merc_graded_tree.proofs.JoinLaws.{list_of-nodes_of}
use Rattle.merc_gen.proofs.Lists.{bodies_all}
use Rattle.merc_gen.proofs.walking.push_parts.Goals as goal

pub returns-in-Conjunction : goal.returns-in-Conjunction
returns-in-Conjunction c =
    let joined = sym (list_of-nodes_of c.in-Conjunction.goals) ∙ ap goals_in (sym (ap viewed c.in-Conjunction.is) ∙ c.view.ensures) in
    on_ok_weaker c.push_all.result (λ put. put ∙ ap (λ l. c.args.left.now.items ++ reverse l) joined) c.push_all.ensures

pub returns-in-Disjunction : goal.returns-in-Disjunction
returns-in-Disjunction c =
    let joined = sym (list_of-nodes_of c.in-Disjunction.goals) ∙ ap goals_in (sym (ap viewed c.in-Disjunction.is) ∙ c.view.ensures) in
    on_ok_weaker c.push_all-in-Disjunction.result (λ put. put ∙ ap (λ l. c.args.left.now.items ++ reverse l) joined) c.push_all-in-Disjunction.ensures

pub returns-in-Switch : goal.returns-in-Switch
returns-in-Switch c =
    let symbols = c.in-Switch.symbols.now in
    let kept = bodies_all symbols c.with_symbols.result (subst (λ l. length c.with_symbols.result ≤ length l) c.as_slice.ensures c.with_symbols.ensures.short) in
    let same = ap bodies_of (c.with_symbols.ensures.same symbols (ap length (sym c.as_slice.ensures))) in
    let joined = (sym kept ∙ same) ∙ ap goals_in (sym (ap viewed c.in-Switch.is) ∙ c.view.ensures) in
    on_ok_weaker c.push_all-in-Switch.result (λ put. put ∙ ap (λ l. c.args.left.now.items ++ reverse l) joined) c.push_all-in-Switch.ensures
