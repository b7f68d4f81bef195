use Rattle.std.proofs.Common.{◌≡◌, ◌<◌, ◌∙◌, ℕ, true, length, get_or, ap, arith, refl}
use Rattle.merc_order.specs.Bound.{among}
use Rattle.merc_switch_choice.proofs.OrderLaws.{above}
use Rattle.merc_switch.proofs.OrderedOutputs.{own_kept, kept_within, one_less, none_left, none_remain}
use Rattle.merc_switch.proofs.ordering.in_order.Goals as goal

pub variable_at-requires : goal.variable_at-requires
variable_at-requires c =
    let variables = c.args.variables.now in
    let outputs = c.args.outputs.now in
    let place = c.in-Some.place in
    let rest = c.pop_first.new.self.keys in
    let higher : (other : ℕ) → among rest other ≡ true → place < other = λ other. above _ _ place place other refl (c.in-Some.ensures.updates.0 other) (c.in-Some.ensures.least other) in
    let within : place < length outputs =
    kept_within variables outputs place (own_kept variables outputs c.loop-place.places.keys rest c.loop-place.kept place place c.loop-place.invariant c.in-Some.ensures.removal higher) in
    omega (arith, within, ap length c.numbers-numbers.ensures.numbers)

pub loop-place-preserved : goal.loop-place-preserved
loop-place-preserved c =
    let variables = c.args.variables.now in
    let outputs = c.args.outputs.now in
    let place = c.in-Some.place in
    let rest = c.pop_first.new.self.keys in
    let higher : (other : ℕ) → among rest other ≡ true → place < other = λ other. above _ _ place place other refl (c.in-Some.ensures.updates.0 other) (c.in-Some.ensures.least other) in
    one_less variables outputs c.loop-place.places.keys rest c.loop-place.kept place c.variable_at.result c.loop-place.invariant c.in-Some.ensures.removal higher c.push.new.self
    (c.variable_at.ensures ∙ ap (λ l. get_or l place 0) c.numbers-numbers.ensures.numbers) c.in_ok-push.ensures.ok

pub returns : goal.returns
returns c = none_remain c.args.variables.now c.args.outputs.now c.loop-place.places.keys c.loop-place.kept c.loop-place.invariant (none_left c.loop-place.places.keys (λ some. c.in_default.ensures.variant.1 some))
