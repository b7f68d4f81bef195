use Rattle.std.proofs.Common.{◌∙◌, ap}
use Rattle.merc_order.specs.Bound.{among}
use Rattle.merc_grading.specs.Switches.{is_there, symbol_at}
use Rattle.merc_switch_choice.specs.Counting.{one_if, occurrences}
use Rattle.merc_switch_choice.proofs.SplitCounts.{key_there}
use Rattle.merc_switch_choice.proofs.CountLaws.{key_once}
use Rattle.merc_switch_choice.proofs.disjuncts.Disjunct.variables.Goals as goal

pub returns-clause-members : goal.returns-clause-members
returns-clause-members c = λ variable.
    ap (λ l. among l variable) (c.as_slice.ensures ∙ c.keys.ensures.rest) ∙ key_there variable c.self.inside.symbols.entries ∙ ap is_there (c.self.invariant.symbols_are variable ∙ ap (symbol_at variable) c.self.view_is)

pub returns-clause-once : goal.returns-clause-once
returns-clause-once c = λ variable.
    ap (λ l. occurrences l variable) (c.as_slice.ensures ∙ c.keys.ensures.rest) ∙ key_once variable c.self.inside.symbols.entries c.keys.ensures.unique
    ∙ ap (λ o. one_if (is_there o)) (c.self.invariant.symbols_are variable ∙ ap (symbol_at variable) c.self.view_is)
