use Rattle.std.proofs.Common.{◌∙◌, ap, sym, length}
use Rattle.merc_grading.specs.Switches.{symbol_in}
use Rattle.merc_switch_choice.proofs.disjuncts.Disjunct.of.Goals as goal

pub invariant_of-result : goal.invariant_of-result
invariant_of-result c =
    let splits = c.deref.ensures.value ∙ c.in_ok-splits.ensures in
    record {
      count_is = c.len-split_count.ensures ∙ sym c.deref.ensures.len ∙ ap length splits;
      symbols_are = λ variable. c.in_ok-symbols.ensures variable ∙ ap (λ l. symbol_in l variable) splits;
    }
