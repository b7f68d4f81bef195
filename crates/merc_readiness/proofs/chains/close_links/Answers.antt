use Rattle.std.proofs.Common.{◌≡◌, ◌∙◌, ◌<◌, ◌≤◌, ap, sym, true, false, length, arith}
use Rattle.std.proofs.lemmas.List.{length-set}
use Rattle.merc_order.specs.Bound.{among, are_bound}
use Rattle.merc_goal_facts.specs.declared.facts.Facts.{Facts}
use Rattle.merc_readiness.proofs.ChainLaws.{reached_on, reached_stuck, reached_end}
use Rattle.merc_readiness.proofs.chains.close_links.Goals as goal

pub returns-then-not-are_bound : goal.returns-then-not-are_bound
returns-then-not-are_bound c = λ total modes goal r.
    let room : c.loop-own.own < length c.loop-own.marks = omega arith in
    let owed : are_bound (among c.args.bound.now) c.index-facts-own.result.owed ≡ false =
    ap (λ (f : Facts). are_bound (among c.args.bound.now) f.owed) c.index-facts-own.is ∙ ap (λ l. are_bound (among c.args.bound.now) l) (sym c.as_slice.ensures) ∙ sym c.are_bound.ensures ∙ c.if-not-are_bound.true in
    reached_stuck total modes goal c.loop-own.marks c.args.facts.now c.loop-own.own (among c.args.bound.now) c.index-facts-own.result
    (c.loop-own.invariant.reached total modes goal r) room c.index-facts-own.is owed

pub loop-own-preserved : goal.loop-own-preserved
loop-own-preserved c = record {
  long = length-set c.loop-own.marks c.loop-own.own true ∙ c.loop-own.invariant.long;
  reached = λ total modes goal r.
      let room : c.loop-own.own < length c.loop-own.marks = omega arith in
      let owed : are_bound (among c.args.bound.now) c.index-facts-own.result.owed ≡ true =
      ap (λ (f : Facts). are_bound (among c.args.bound.now) f.owed) c.index-facts-own.is ∙ ap (λ l. are_bound (among c.args.bound.now) l) (sym c.as_slice.ensures) ∙ sym c.are_bound.ensures ∙ c.if-not-are_bound.false in
      reached_on total modes goal c.loop-own.marks c.args.facts.now c.loop-own.own (among c.args.bound.now) c.index-facts-own.result
      (c.loop-own.invariant.reached total modes goal r) room c.index-facts-own.is owed;
}

pub returns : goal.returns
returns c = λ total modes goal r.
    let none_left : length c.loop-own.marks ≤ c.loop-own.own = omega arith in
    reached_end total modes goal c.loop-own.marks c.args.facts.now c.loop-own.own (among c.args.bound.now) (c.loop-own.invariant.reached total modes goal r) none_left
