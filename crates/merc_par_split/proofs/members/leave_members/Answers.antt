use Rattle.std.proofs.Common.{◌∙◌, ◌≡◌, ◌∷◌, ◌++◌, ◌+◌, [], length, ap, sym, arith, refl}
use Rattle.std.proofs.lemmas.List.{append_assoc, length-append}
use Rattle.merc_rights.specs.Groups.{numbered}
use Rattle.merc_rights.specs.Rows.{row_of}
use Rattle.merc_par_split.specs.Tasks.{passing}
use Rattle.merc_par_split.proofs.Leaving.{start_here, next_member}
use Rattle.merc_par_split.proofs.members.leave_members.Goals as goal

pub loop-goal-preserved : goal.loop-goal-preserved
loop-goal-preserved c =
    let whole = c.loop-goal.invariant in
    let front = c.pop.new.self.items in
    let first = c.args.members.first in
    let last = c.in-Some.goal in
    let shares = c.args.shares in
    let now = c.loop-goal.shares in
    let at = c.len-number.result in
    let left = c.in_ok-leave_member.ensures in
    let are = whole.are ∙ ap (λ l. l ++ whole.rest) c.in-Some.ensures.items ∙ append_assoc front (last ∷ []) whole.rest in
    let number : at ≡ length front = cc (c.pop.new.self.ok.0, c.len-number.ensures) in
    let longer : length c.loop-goal.goals.items ≡ length front + 1 = ap length c.in-Some.ensures.items ∙ length-append front (last ∷ []) in
    let start = start_here first c.args.members.goals.items front (last ∷ whole.rest) c.deref.result.now at c.start_of.result are (c.deref.ensures.value ∙ c.requires) number c.start_of.ensures in
    let row = whole.same at (omega (arith, number, longer)) in
    record {
      rest = last ∷ whole.rest;
      are = are;
      left =
          next_member first front whole.rest last shares.waits (numbered shares.signals.items) shares.passed c.loop-goal.goals.items at c.start_of.result
          (row_of at now.waits) (row_of at (numbered now.signals.items)) (row_of at now.passed) c.args.tasks.now c.loop-goal.tasks (passing last (row_of at now.passed) ++ c.loop-goal.tasks) c.leave_member.new.tasks
          c.in-Some.ensures.items number start (ap (row_of at) whole.waits) row (ap (row_of at) whole.passed) whole.left refl left.tasks;
      waits = left.waits ∙ whole.waits;
      passed = left.passed ∙ whole.passed;
      in_order = left.in_order;
      same = λ other less. left.rest other (omega (arith, number, less)) ∙ whole.same other (omega (arith, less, longer));
    }
