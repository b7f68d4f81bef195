use Rattle.std.proofs.Common.{◌≡◌, ◌==◌, ◌∙◌, ap, length}
use Rattle.merc_switch_choice.specs.Counting.{splits, splitting}
use Rattle.merc_switch_choice.proofs.CountLaws.{all_counted}
use Rattle.merc_switch_choice.proofs.counted.Disjuncts.all_split.Goals as goal

pub returns : goal.returns
returns c =
    let disjuncts = c.args.self.now in
    let variable = c.args.variable in
    let count : c.of.result ≡ splitting disjuncts variable = c.of.ensures ∙ c.self.invariant.counts_are variable ∙ ap (λ l. splitting l variable) c.self.view_is in
    ap (λ n. n == length c.as_slice.result.now) count ∙ ap (λ l. splitting disjuncts variable == length l) c.as_slice.ensures ∙ all_counted disjuncts (splits variable)
