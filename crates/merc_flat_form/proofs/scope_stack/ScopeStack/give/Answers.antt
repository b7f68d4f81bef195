use Rattle.std.specs.Result.{is_ok}
use Rattle.std.proofs.Common.{◌≡◌, [], ◌∷◌, ◌++◌, List, reverse, ap, ◌∙◌, if◌then◌else◌}
use Rattle.merc_flat_form.specs.declared.scope_stack.Change.{Change}
use Rattle.merc_flat_form.specs.declared.scope_stack.Change.TheVariants.{Given}
use Rattle.merc_flat_form.specs.Levels.{AreLevels}
use Rattle.merc_flat_form.proofs.LevelLaws.{gives, reverse-push}
use Rattle.merc_flat_form.proofs.scope_stack.ScopeStack.give.Goals as goal

pub invariant_of-self-2 : goal.invariant_of-self-2
invariant_of-self-2 c =
    let change : Change = Given c.args.name c.args.at c.in_ok-before.before in
    let pushed : reverse c.push.new.self.items ≡ change ∷ reverse c.self.inside.changes.items =
    ap reverse (c.push.ensures.items ∙ ap (λ r. if is_ok r then c.reserve.new.self.items ++ change ∷ [] else c.reserve.new.self.items) c.unwrap.ensures)
    ∙ reverse-push c.reserve.new.self.items change
    ∙ ap (λ (changes : List Change). change ∷ reverse changes) c.reserve.ensures.items in
    let levels : AreLevels c.insert.new.self (change ∷ reverse c.self.inside.changes.items) =
    gives c.self.inside.current c.insert.new.self c.args.name c.args.at c.in_ok-before.before (reverse c.self.inside.changes.items)
    c.self.invariant c.in_ok-before.ensures.old c.in_ok-before.ensures.updates.0 in
    rw pushed levels
