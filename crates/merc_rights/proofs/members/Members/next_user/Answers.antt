use Rattle.std.proofs.Common.{◌∙◌, ap, sym, arith, slice_index_or, length}
use Rattle.merc_graded_tree.specs.Variables.{in_node}
use Rattle.merc_rights.proofs.MemberLaws.{no_member, member_is, past_all, starts_rise}
use Rattle.merc_rights.proofs.members.Members.next_user.Goals as goal

pub returns-then-from-goals : goal.returns-then-from-goals
returns-then-from-goals c =
    sym (past_all (λ goal. in_node goal c.args.variable) c.args.from 0 c.args.self.now.goals.items (omega (arith, c.if-from-goals.true, ap length c.as_slice-goals.ensures.value)))

pub member_of-requires : goal.member_of-requires
member_of-requires c =
    starts_rise c.as_slice-starts.result.now c.args.self.now.first c.args.self.now.goals.items (c.as_slice-starts.ensures.value ∙ c.requires.starts)

pub returns-in-Some : goal.returns-in-Some
returns-in-Some c =
    let goals = c.args.self.now.goals.items in
    let starts = c.as_slice-starts.result.now in
    c.member_of.ensures
    ∙ member_is c.args.occurrences.now c.args.self.now.first goals c.requires.lies c.args.variable c.args.from (omega (arith, c.if-from-goals.false, ap length c.as_slice-goals.ensures.value))
    c.in-Some.place c.start_of-in-Some.result c.start_of.result starts (c.as_slice-starts.ensures.value ∙ c.requires.starts)
    (c.start_of-in-Some.ensures ∙ ap (λ n. slice_index_or starts n 0) (ap length c.as_slice-goals.ensures.value)) c.start_of.ensures c.in-Some.ensures

pub returns-in-None : goal.returns-in-None
returns-in-None c =
    let goals = c.args.self.now.goals.items in
    let starts = c.as_slice-starts.result.now in
    no_member c.args.occurrences.now c.args.self.now.first goals c.requires.lies c.args.variable c.args.from (omega (arith, c.if-from-goals.false, ap length c.as_slice-goals.ensures.value))
    c.start_of.result starts (c.as_slice-starts.ensures.value ∙ c.requires.starts) c.start_of.ensures c.in-None.ensures
