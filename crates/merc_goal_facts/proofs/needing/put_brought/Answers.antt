use Rattle.std.proofs.Common.{◌∙◌, ◌++◌, [], not, ap}
use Rattle.std.specs.List.{filter}
use mathlib.Core.Path.{fun_ext}
use Rattle.merc_order.specs.Bound.{among}
use Rattle.merc_goal_facts.specs.Bounds.{all_behind}
use Rattle.merc_goal_facts.proofs.Found.{among-all_behind}
use Rattle.merc_goal_facts.proofs.needing.put_brought.Goals as goal

pub returns-clause-brought : goal.returns-clause-brought
returns-clause-brought c =
    let needs = c.args.found.now.needs in
    let set = c.in_ok-bind_all.ensures ∙ ap (λ b. all_behind b c.as_slice.result.now) c.requires ∙ ap (λ l. all_behind [] l) c.as_slice.ensures in
    c.in_ok-put_those_not_in.ensures
    ∙ ap (λ l. c.args.brought.now ++ filter (λ variable. not (among c.bind_all.new.self variable)) l) c.as_slice-2.ensures
    ∙ ap (λ l. c.args.brought.now ++ filter (λ variable. not (among l variable)) c.args.found.now.binds) set
    ∙ ap (λ b. c.args.brought.now ++ filter (λ variable. not (b variable)) c.args.found.now.binds) (fun_ext (λ variable. among-all_behind [] needs variable))
