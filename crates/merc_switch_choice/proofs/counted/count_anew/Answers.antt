use Rattle.std.proofs.Common.{◌≡◌, ◌++◌, ◌∷◌, [], rules}
use Rattle.merc_switch_choice.specs.Counting.{count_of, splits}
use Rattle.merc_switch_choice.proofs.CountLaws.{last_taken, groups_taken}
use Rattle.merc_switch_choice.proofs.counted.count_anew.Goals as goal

pub loop-last-preserved : goal.loop-last-preserved
loop-last-preserved c =
    let before = c.loop-last.groups.items in
    let rest = c.pop.new.self.items in
    let last = c.in-Some.last in
    let is : before ≡ rest ++ last ∷ [] = search rules in
    record {
      groups = groups_taken c.loop-last.counted.items c.push.new.self.items rest before last c.in_ok-group_anew.field-0 _ is c.in_ok-group_anew.ensures.group c.in_ok-push.ensures.items c.loop-last.invariant.groups;
      counts = λ variable. last_taken rest before last (splits variable) (count_of c.loop-last.counts variable) _ _ is
          (c.in_ok-group_anew.ensures.counts variable) (c.loop-last.invariant.counts variable);
    }
