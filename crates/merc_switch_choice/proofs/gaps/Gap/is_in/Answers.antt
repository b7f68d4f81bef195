use Rattle.std.proofs.Common.{◌≡◌, ◌∙◌, ap, sym}
use Rattle.std.proofs.lemmas.Bool.Decides.{Decides-eqb}
use Rattle.merc_goal_tree.specs.declared.goal.Symbol.TheVariants.{Constructor}
use Rattle.merc_grading.specs.Known.{symbol_of}
use Rattle.merc_switch_choice.specs.Gaps.{symbol_of_gap}
use Rattle.merc_switch_choice.proofs.GapLaws.{symbol_there}
use Rattle.merc_switch_choice.proofs.gaps.Gap.is_in.Goals as goal

pub returns-then-eq : goal.returns-then-eq
returns-then-eq c = λ told.
    let gap = c.args.self.now in
    let found = c.in-Some.constructor.now in
    let name = (Decides-eqb found.name gap.name).0 (sym c.eq.ensures ∙ c.if-eq.true) in
    let arity = (Decides-eqb c.len.result gap.arity).0 told in
    let is : symbol_of_gap gap ≡ symbol_of found = ap (λ n. Constructor n gap.arity) (sym name) ∙ ap (λ n. Constructor found.name n) (sym arity ∙ c.len.ensures) in
    symbol_there c.args.constructors.now gap.place found (symbol_of_gap gap) c.in-Some.ensures.lookup.3.0 c.in-Some.ensures.lookup.1 is
