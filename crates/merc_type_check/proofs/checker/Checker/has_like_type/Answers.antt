use Rattle.std.proofs.Common.{◌≡◌, ◌<◌, ◌≤◌, ℕ, List, Option, length, sym, subst, ◌∙◌}
use Rattle.std.specs.Option.{IfSome}
use Rattle.std.proofs.lemmas.Result.{IfOk-weaker}
use Rattle.merc_tree.specs.Types.{TypeExpr, replaced}
use Rattle.merc_type_table.specs.Table.{type_at}
use Rattle.merc_type_matching.specs.Matched.{AgreeOn, AreMatched}
use Rattle.merc_type_matching.specs.declared.matching.NamePair.{NamePair}
use Rattle.merc_type_check.proofs.Asked.{given_like, like_built, refused, taken}
use Rattle.merc_type_check.proofs.Places.{waits_there}
use Rattle.merc_type_check.proofs.Steps.{takes_grow}
use Rattle.merc_type_check.proofs.checker.Checker.has_like_type.Goals as goal

pub take_matching-requires-clause-one : goal.take_matching-requires-clause-one
take_matching-requires-clause-one c = (waits_there c.args.self.now c.args.variable c.args.used c.requires.sound c.requires.waits).0

pub stand_alike-requires-clause-sound : goal.stand_alike-requires-clause-sound
stand_alike-requires-clause-sound c = c.in_ok-pairs.ensures.same.sound

pub stand_alike-requires-clause-one : goal.stand_alike-requires-clause-one
stand_alike-requires-clause-one c =
    subst (λ (n : ℕ). c.args.used.user ≤ n) (sym c.in_ok-pairs.ensures.same.same_part)
    (waits_there c.args.self.now c.args.variable c.args.used c.requires.sound c.requires.waits).1

pub stand_alike-requires-clause-other : goal.stand_alike-requires-clause-other
stand_alike-requires-clause-other c = subst (λ (n : ℕ). c.args.user ≤ n) (sym c.in_ok-pairs.ensures.same.same_part) c.requires.begun

pub returns-then-not-done : goal.returns-then-not-done
returns-then-not-done c =
    let matched : AreMatched c.in-Some.pairs (type_at c.args.self.now.graph.table c.args.used.number) (type_at c.args.self.now.graph.table c.args.number) =
    subst (λ (o : Option (List NamePair)). IfSome o (λ pairs. AreMatched pairs (type_at c.args.self.now.graph.table c.args.used.number) (type_at c.args.self.now.graph.table c.args.number)))
    c.in-Some.is c.in_ok-pairs.ensures.matched in
    refused c.in_ok-done-in-Some.done c.args.self.now c.stand_alike.new.self
    (λ types instance. types c.args.variable ≡ replaced (instance c.args.user) (type_at c.args.self.now.graph.table c.args.number)) c.if-not-done.true
    (given_like c.in_ok-done-in-Some.done c.args.self.now c.take_matching.new.self c.stand_alike.new.self c.args.variable c.args.number c.args.user c.args.used c.in-Some.pairs
    c.as_slice.result.now c.as_slice.ensures c.in_ok-pairs.ensures.same c.requires.waits matched c.in_ok-done-in-Some.ensures)

pub keep_matching-requires-clause-sound : goal.keep_matching-requires-clause-sound
keep_matching-requires-clause-sound c =
    (taken c.in_ok-done-in-Some.done c.take_matching.new.self c.stand_alike.new.self
    (λ types instance. AgreeOn (instance c.args.used.user) (instance c.args.user) c.as_slice.result.now) c.if-not-done.false c.in_ok-done-in-Some.ensures).sound

pub keep_matching-requires-clause-matched : goal.keep_matching-requires-clause-matched
keep_matching-requires-clause-matched c =
    let matched : AreMatched c.in-Some.pairs (type_at c.args.self.now.graph.table c.args.used.number) (type_at c.args.self.now.graph.table c.args.number) =
    subst (λ (o : Option (List NamePair)). IfSome o (λ pairs. AreMatched pairs (type_at c.args.self.now.graph.table c.args.used.number) (type_at c.args.self.now.graph.table c.args.number)))
    c.in-Some.is c.in_ok-pairs.ensures.matched in
    let step = taken c.in_ok-done-in-Some.done c.take_matching.new.self c.stand_alike.new.self
    (λ types instance. AgreeOn (instance c.args.used.user) (instance c.args.user) c.as_slice.result.now) c.if-not-done.false c.in_ok-done-in-Some.ensures in
    subst (λ (t : List TypeExpr). AreMatched c.in-Some.pairs (type_at t c.args.used.number) (type_at t c.args.number)) (sym (step.same_table ∙ c.in_ok-pairs.ensures.same.same_table))
    matched

pub returns-in_ok-keep_matching-in-Some : goal.returns-in_ok-keep_matching-in-Some
returns-in_ok-keep_matching-in-Some c =
    let matched : AreMatched c.in-Some.pairs (type_at c.args.self.now.graph.table c.args.used.number) (type_at c.args.self.now.graph.table c.args.number) =
    subst (λ (o : Option (List NamePair)). IfSome o (λ pairs. AreMatched pairs (type_at c.args.self.now.graph.table c.args.used.number) (type_at c.args.self.now.graph.table c.args.number)))
    c.in-Some.is c.in_ok-pairs.ensures.matched in
    takes_grow c.args.self.now c.stand_alike.new.self c.keep_matching.new.self
    (λ types instance. types c.args.variable ≡ replaced (instance c.args.user) (type_at c.args.self.now.graph.table c.args.number))
    (taken c.in_ok-done-in-Some.done c.args.self.now c.stand_alike.new.self
    (λ types instance. types c.args.variable ≡ replaced (instance c.args.user) (type_at c.args.self.now.graph.table c.args.number)) c.if-not-done.false
    (given_like c.in_ok-done-in-Some.done c.args.self.now c.take_matching.new.self c.stand_alike.new.self c.args.variable c.args.number c.args.user c.args.used c.in-Some.pairs
    c.as_slice.result.now c.as_slice.ensures c.in_ok-pairs.ensures.same c.requires.waits matched c.in_ok-done-in-Some.ensures))
    c.in_ok-keep_matching-in-Some.ensures

pub has_open_type-requires-clause-sound : goal.has_open_type-requires-clause-sound
has_open_type-requires-clause-sound c = c.in_ok-pairs.ensures.same.sound

pub has_open_type-requires-clause-number : goal.has_open_type-requires-clause-number
has_open_type-requires-clause-number c = subst (λ (t : List TypeExpr). c.args.number < length t) (sym c.in_ok-pairs.ensures.same.same_table) c.requires.number

pub has_open_type-requires-clause-begun : goal.has_open_type-requires-clause-begun
has_open_type-requires-clause-begun c = subst (λ (n : ℕ). c.args.user ≤ n) (sym c.in_ok-pairs.ensures.same.same_part) c.requires.begun

pub returns-in-None : goal.returns-in-None
returns-in-None c =
    IfOk-weaker c.has_open_type.result _ _
    (λ done takes. like_built done c.args.self.now c.take_matching.new.self c.has_open_type.new.self c.args.variable c.args.number c.args.user c.in_ok-pairs.ensures.same takes)
    c.has_open_type.ensures
