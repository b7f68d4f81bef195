use Rattle.std.proofs.Common.{◌∷◌, [], ◌++◌, List, ap, ◌∙◌}
use Rattle.merc_type_matching.specs.declared.matching.NumberPair.{NumberPair}
use Rattle.merc_type_matching.proofs.matching.match_arguments.Goals as goal

pub returns-in_ok-push-in-With-2 : goal.returns-in_ok-push-in-With-2
returns-in_ok-push-in-With-2 c =
    let last : NumberPair = record { one = c.args.first; other = c.in-With.other_first } in
    record {
      other_first = c.in-With.other_first;
      other_rest = c.in-With.other_rest;
      is = c.in-With.ensures.is;
      smaller = c.in-With.ensures.before;
      complete = c.in-With.ensures.complete;
      more = c.in_ok-push-in-With-2.ensures.items ∙ ap (λ (l : List NumberPair). l ++ last ∷ []) c.in_ok-push-in-With.ensures.items;
    }
