use Rattle.std.proofs.Common.{◌≡◌, ◌++◌, ◌-◌, map, length}
use Rattle.merc_graded_tree.specs.Variables.{in_node}
use Rattle.merc_rights.specs.Rows.{numbers_from}
use Rattle.merc_rights.proofs.members.Members.users.Given as goal

abbrev pub invariant-loop-user : goal.invariant-loop-user
invariant-loop-user l = l.users.items ++ map (λ number. number) (numbers_from (λ goal. in_node goal l.variable) l.next 0 l.self.goals.items) ≡ numbers_from (λ goal. in_node goal l.variable) l.from 0 l.self.goals.items

abbrev pub decreases-loop-user : goal.decreases-loop-user
decreases-loop-user l = length l.self.goals.items - l.next
