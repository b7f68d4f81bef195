use Rattle.std.proofs.Common.{◌≡◌, ◌+◌, ◌∷◌, [], length, ap, ◌∙◌, arith, length-append}
use Rattle.merc_scopes.specs.Scopes.{at_of}
use Rattle.merc_scopes.specs.FirstPlaces.{place_in}
use Rattle.merc_scopes.proofs.Standings.{join_step, join_all}
use Rattle.merc_scopes.proofs.introducing.join_first.Goals as goal

pub loop-preserved : goal.loop-preserved
loop-preserved c =
    let count : length c.loop.stack.items ≡ length c.take_first.new.stack.items + 1 = ap length c.take_first.ensures ∙ length-append c.take_first.new.stack.items (c.take_first.result ∷ []) in
    record {
      step = c.in_ok-places.ensures.step;
      enough = omega (arith, count, c.loop.invariant.enough);
      joined = λ lists holds.
          join_step c.loop.stack.items c.take_first.new.stack.items c.take_first.result (place_in c.loop.places) (place_in c.in_ok-places.places) (place_in c.loop.shared.places)
          (place_in c.join.new.shared.places) c.loop.counter lists c.take_first.ensures c.in_ok-places.ensures.places c.in_ok-places.ensures.shared (c.loop.invariant.joined lists holds);
    }

pub returns-clause-joined : goal.returns-clause-joined
returns-clause-joined c = λ lists holds.
    let end : c.loop.counter ≡ c.args.count = omega (arith, c.loop-test.false, c.loop.auto.counter-end) in
    join_all c.loop.stack.items c.push.new.self.items c.loop.places (place_in c.loop.shared.places) c.from_vec.result c.loop.counter c.args.count lists end c.in_ok-push.ensures.items
    (λ name. ap (at_of name) c.from_vec.ensures ∙ c.loop.invariant.step name) (c.loop.invariant.joined lists holds)
