use Rattle.std.proofs.Common.{◌<◌, ◌∙◌, ap, sym, subst, length, rules}
use Rattle.std.specs.Prelude.{insert}
use Rattle.std.proofs.lemmas.Result.{IfOk-weaker}
use Rattle.merc_switch_choice.specs.Counting.{count_of, splits, splitting}
use Rattle.merc_switch_choice.specs.Gaps.{AreGaps}
use Rattle.merc_switch_choice.proofs.CountLaws.{rest_counts, back_again}
use Rattle.merc_switch_choice.proofs.GapLaws.{gaps_of_one}
use Rattle.merc_switch_choice.proofs.counted.counted_by_largest.Goals as goal

pub with_summary-requires : goal.with_summary-requires
with_summary-requires c =
    let groups = c.args.groups.items in
    let removed = c.remove-largest_group in
    let index = c.largest_of-largest.result in
    let within : index < length groups = search rules in
    record {
      counts_are = λ variable.
          rest_counts groups removed.new.self.items index removed.result (splits variable) (count_of c.args.summary.counts variable) (count_of c.counted_anew.new.counts variable) within removed.ensures.value removed.ensures.items
          (c.requires.known.counts_are variable) (c.in-Ok.ensures.counts variable)
          ∙ ap (λ l. splitting l variable) (sym c.into_vec.ensures);
      gaps_are = subst (λ l. AreGaps c.args.summary.gaps l) (sym c.into_vec.ensures) (gaps_of_one c.args.summary.gaps groups index removed.result within removed.ensures.value c.requires.known.gaps_are);
    }

pub returns-in-Ok : goal.returns-in-Ok
returns-in-Ok c =
    let groups = c.args.groups.items in
    let removed = c.remove-largest_group in
    let index = c.largest_of-largest.result in
    let within : index < length groups = search rules in
    IfOk-weaker c.with_group.result _ _
    (λ counted is. is ∙ ap (λ l. insert l index c.with_summary.result) c.in-Ok.ensures.groups ∙ ap (λ group. insert removed.new.self.items index group) (c.with_summary.ensures ∙ c.into_vec.ensures)
    ∙ back_again groups removed.new.self.items index removed.result within removed.ensures.value removed.ensures.items)
    c.with_group.ensures
