use Rattle.std.proofs.Common.{◌∙◌, ap, subst, ◌≡◌, ◌<◌, length, false, nat_lt}
use Rattle.std.specs.List.{slice_index_or}
use Rattle.merc_order.specs.Bound.{among}
use Rattle.merc_switch_choice.proofs.CountLaws.{one_of, none_of}
use Rattle.merc_switch_choice.proofs.LeftLaws.{left_one, left_none}
use Rattle.merc_switch_choice.proofs.choosing.Candidates.of.Goals as goal
use Rattle.merc_switch_choice.proofs.choosing.Candidates.of.Goals.{in-Some+in_ok-untried-in-Some, in-None}

pub returns : goal.returns
returns c = λ declared.
    let disjuncts = c.args.disjuncts.now in
    let bound = among c.args.bound.now in
    let index = c.fewest.result in
    elim c.match-get.branch [
      | in-Some+in_ok-untried-in-Some w ↦
          let one = w.in-Some.fewest.now in
          let within : index < length disjuncts = subst (λ l. index < length l) c.as_slice.ensures w.in-Some.ensures.lookup.3.0 in
          let is : one ≡ slice_index_or disjuncts index one = subst (λ l. one ≡ slice_index_or l index one) c.as_slice.ensures w.in-Some.ensures.lookup.1 in
          left_one declared bound c.args.used.now disjuncts one w.variables.result.now c.match-get.untried c.new.result (one_of disjuncts index one within is) w.variables.ensures.members
          (λ variable. ap (λ l. among l variable) w.untried-is ∙ w.in_ok-untried-in-Some.ensures variable) c.new.ensures
      | in-None w ↦
          let none = none_of disjuncts index (subst (λ l. false ≡ nat_lt index (length l)) c.as_slice.ensures w.in-None.ensures.lookup.0) c.fewest.ensures in
          left_none declared bound c.args.used.now disjuncts c.match-get.untried c.new.result none (w.untried-is ∙ w.new-untried.ensures) c.new.ensures
    ]
