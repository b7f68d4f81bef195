use Rattle.std.proofs.Common.{ap, sym, suc, arith, length}
use Rattle.std.specs.Option.{is_some}
use Rattle.merc_rights.specs.Members.{uses_it}
use Rattle.merc_rights.proofs.MemberLaws.{past_all}
use Rattle.merc_rights.proofs.turns.is_used_behind.Goals as goal

pub returns-then-number-as_slice : goal.returns-then-number-as_slice
returns-then-number-as_slice c =
    sym (ap is_some (past_all (uses_it c.args.variable) (suc c.args.number) 0 c.args.members.now.goals.items (omega (arith, c.if-number-as_slice.true, ap length c.as_slice.ensures.value))))
