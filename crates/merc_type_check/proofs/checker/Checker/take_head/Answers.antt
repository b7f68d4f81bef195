use Rattle.std.proofs.Common.{◌≡◌, ◌<◌, List, map, length, refl, sym, subst, ◌∙◌, arith}
use Rattle.std.proofs.lemmas.Option.{slice_get_read}
use Rattle.merc_tree.specs.Types.{TypeExpr}
use Rattle.merc_type_table.specs.Table.{type_at}
use Rattle.merc_type_check.proofs.Asked.{taken, refused, head_step, head_refused, head_all}
use Rattle.merc_type_matching.proofs.Parts.{within_at}
use Rattle.merc_type_check.proofs.Numbers.{given_at, mapped_at, mapped_length}
use Rattle.merc_type_check.proofs.checker.Checker.take_head.Goals as goal

pub make_whole-requires-clause-declared : goal.make_whole-requires-clause-declared
make_whole-requires-clause-declared c =
    let same : c.variable.new.self.graph.table ≡ c.args.self.now.graph.table = c.in_ok-place.ensures.grows.same_table ∙ c.loop-index.invariant.table in
    subst (λ (t : List TypeExpr). c.index-numbers-index.result < length t) (sym same)
    (within_at c.args.self.now.graph.table c.args.numbers.now c.loop-index.index c.index-numbers-index.result c.requires.numbers
    (slice_get_read c.args.numbers.now (length c.args.numbers.now) c.loop-index.index c.index-numbers-index.result refl c.loop-index-test.true c.index-numbers-index.is))

pub returns-then-not-done : goal.returns-then-not-done
returns-then-not-done c = λ known.
    let table : List TypeExpr = c.args.self.now.graph.table in
    let same : c.variable.new.self.graph.table ≡ table = c.in_ok-place.ensures.grows.same_table ∙ c.loop-index.invariant.table in
    head_refused known c.args.self.now c.loop-index.self (map (type_at table) c.args.numbers.now) c.loop-index.index c.new.result (type_at table c.index-numbers-index.result)
    c.new.ensures
    (mapped_at table c.args.numbers.now c.loop-index.index c.index-numbers-index.result
    (slice_get_read c.args.numbers.now (length c.args.numbers.now) c.loop-index.index c.index-numbers-index.result refl c.loop-index-test.true c.index-numbers-index.is))
    (c.loop-index.invariant.have known)
    (refused c.in_ok-done.done c.loop-index.self c.make_whole.new.self (λ types instance. types c.new.result ≡ type_at table c.index-numbers-index.result) c.if-not-done.true
    (given_at c.in_ok-done.done c.loop-index.self c.variable.new.self c.make_whole.new.self c.in_ok-place.place c.new.result c.index-numbers-index.result table same
    c.in_ok-place.ensures c.in_ok-done.ensures))

pub loop-index-preserved : goal.loop-index-preserved
loop-index-preserved c =
    let table : List TypeExpr = c.args.self.now.graph.table in
    let same : c.variable.new.self.graph.table ≡ table = c.in_ok-place.ensures.grows.same_table ∙ c.loop-index.invariant.table in
    let step = taken c.in_ok-done.done c.loop-index.self c.make_whole.new.self (λ types instance. types c.new.result ≡ type_at table c.index-numbers-index.result)
    c.if-not-done.false
    (given_at c.in_ok-done.done c.loop-index.self c.variable.new.self c.make_whole.new.self c.in_ok-place.place c.new.result c.index-numbers-index.result table same
    c.in_ok-place.ensures c.in_ok-done.ensures) in
    record {
      sound = step.sound;
      table = step.same_table ∙ c.loop-index.invariant.table;
      have = λ known.
          head_step known c.args.self.now c.loop-index.self c.make_whole.new.self (map (type_at table) c.args.numbers.now) c.loop-index.index c.new.result
          (type_at table c.index-numbers-index.result) c.new.ensures
          (mapped_at table c.args.numbers.now c.loop-index.index c.index-numbers-index.result
          (slice_get_read c.args.numbers.now (length c.args.numbers.now) c.loop-index.index c.index-numbers-index.result refl c.loop-index-test.true c.index-numbers-index.is))
          (c.loop-index.invariant.have known) step;
    }

pub returns : goal.returns
returns c = λ known.
    let table : List TypeExpr = c.args.self.now.graph.table in
    let past = c.loop-index-test.false in
    let count = mapped_length table c.args.numbers.now in
    head_all known c.args.self.now c.loop-index.self (map (type_at table) c.args.numbers.now) c.loop-index.index (omega arith) (c.loop-index.invariant.have known)
