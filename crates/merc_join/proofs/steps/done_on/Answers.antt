use Rattle.std.proofs.Common.{rules, arith, ◌≡◌, ℕ, ◌==◌, if◌then◌else◌, ap, ◌∙◌, subst}
use Rattle.merc_join.specs.declared.stub.Slot.TheVariants.{Ended}
use Rattle.merc_join.specs.declared.stub.Stage.TheVariants.{Last, Over, Stopped}
use Rattle.merc_join.specs.declared.stub.Stub.{Stub}
use Rattle.merc_join.specs.Join.{stub}
use Rattle.merc_join.specs.Answers.{AreOutcomes}
use Rattle.merc_join.proofs.Keeping.{grabs, held}
use Rattle.merc_join.proofs.Ending.{counts}
use Rattle.merc_join.proofs.Answering.{counted, own_outcome}
use Rattle.merc_join.proofs.steps.done_on.Goals as goal

pub load-requires : goal.load-requires
load-requires g c = (search rules, search rules, grabs g.P.Forked.ends _ _ _ _ _ c.requires.seat.1)

pub fetch_sub-found-requires : goal.fetch_sub-found-requires
fetch_sub-found-requires g c = (
  search rules,
  search rules,
  counts g.P.Forked.ends _ _ _ c.args.child _ c.args.outcome _ (held c.args.child c.args.outcome _ _ _ c.requires.seat.1 c.load.ensures.2 c.exchange.ensures.3) c.requires.end,
)

pub returns-clause-done : goal.returns-clause-done
returns-clause-done g c =
    let is = held c.args.child c.args.outcome c.args.seat.now.me c.load.new.seat.me c.exchange.new.seat.me c.requires.seat.1 c.load.ensures.2 c.exchange.ensures.3 in
    let counted' = counted c.args.child c.fetch_sub-found.result c.args.outcome c.args.seat.now.me c.exchange.new.seat.me c.fetch_sub-found.new.seat.me is c.fetch_sub-found.ensures.2 in
    let one : c.fetch_sub-found.result ≡ 1 = search rules in
    let view : c.fetch_sub-found.new.seat.me.0 ≡ stub c.args.seat.now.me.0.parent c.args.child 1 Last (Ended c.args.outcome) 0 =
    counted' ∙ ap (λ (n : ℕ). stub c.args.seat.now.me.0.parent c.args.child 1 (if n == 1 then Last else Stopped) (Ended c.args.outcome) 0) one in
    let taken = c.take_outcomes-outcomes.ensures in
    let each : AreOutcomes g.P.Forked.ends c.args.seat.now.me.0.parent c.args.child (Ended c.args.outcome) c.take_outcomes-outcomes.result =
    subst (λ (v : Stub g.row.P.Denot). AreOutcomes g.P.Forked.ends v.parent v.child v.put c.take_outcomes-outcomes.result) view taken.outcomes.1 in (
      c.take_parent-parent.ensures.seat.1 ∙ (ap (λ (v : Stub g.row.P.Denot). stub v.parent v.child v.many Over v.put c.args.children) taken.seat.1 ∙ ap (λ (v : Stub g.row.P.Denot). stub v.parent v.child v.many Over v.put c.args.children) view),
      record {
        count = taken.outcomes.0;
        each = λ i o got. (each i o got).0;
        own = own_outcome g.P.Forked.ends _ c.args.child c.args.outcome c.take_outcomes-outcomes.result (let long = taken.outcomes.0 in let near = c.requires.children.0 in omega arith) each;
        same_parent = c.take_parent-parent.ensures.parent ∙ (ap (λ (v : Stub g.row.P.Denot). v.parent) taken.seat.1 ∙ ap (λ (v : Stub g.row.P.Denot). v.parent) view);
      },
    )
