use Rattle.std.proofs.Common.{◌≡◌, ◌&&◌, ◌||◌, ℕ, drop}
use Rattle.merc_order.specs.Bound.{among}
use Rattle.merc_switch_choice.specs.Choosing.{is_open}
use Rattle.merc_switch_choice.proofs.choosing.add_open.Given as goal

abbrev pub invariant-loop-number : goal.invariant-loop-number
invariant-loop-number l =
    (variable : ℕ) → (among l.opened variable || (is_open (among l.bound) l.used l.disjuncts variable && among (drop l.number-index l.numbers) variable))
    ≡ (is_open (among l.bound) l.used l.disjuncts variable && among l.numbers variable)
