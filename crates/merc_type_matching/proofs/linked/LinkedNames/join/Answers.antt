use Rattle.std.proofs.Common.{◌≡◌, ◌<◌, ℕ, true, false, eqb, arith}
use Rattle.std.specs.Ordering.{is_lt, nat_cmp}
use Rattle.std.proofs.lemmas.Bool.Decides.{nat_tests}
use Rattle.merc_type_matching.proofs.Linking.{joins_first, joins_same, joins_second}
use Rattle.merc_type_matching.proofs.linked.LinkedNames.join.Goals as goal

one_name : (a b : ℕ) → true ≡ eqb a b → a ≡ b
one_name a b same = grind (arith, nat_tests)

lesser_name : (a b : ℕ) → true ≡ is_lt (nat_cmp a b) → a < b
lesser_name a b less = grind (arith, nat_tests)

greater_name : (a b : ℕ) → false ≡ eqb a b → false ≡ is_lt (nat_cmp a b) → b < a
greater_name a b apart not_less = grind (arith, nat_tests)

pub returns-then-eq : goal.returns-then-eq
returns-then-eq c =
    joins_same c.args.self.now c.least.new.self c.least-2.new.self c.args.one c.args.other c.in_ok-least.least c.in_ok-other_least.other_least c.in_ok-least.ensures
    c.in_ok-other_least.ensures (one_name c.in_ok-least.least c.in_ok-other_least.other_least c.if-eq.ensures)

pub returns-in_ok-insert : goal.returns-in_ok-insert
returns-in_ok-insert c =
    joins_first c.args.self.now c.least.new.self c.least-2.new.self c.insert.new.self c.args.one c.args.other c.in_ok-least.least c.in_ok-other_least.other_least
    c.in_ok-least.ensures c.in_ok-other_least.ensures (lesser_name c.in_ok-least.least c.in_ok-other_least.other_least c.if-lt.ensures) c.in_ok-insert.ensures.updates.0

pub returns-in_ok-insert-2 : goal.returns-in_ok-insert-2
returns-in_ok-insert-2 c =
    joins_second c.args.self.now c.least.new.self c.least-2.new.self c.insert-else-lt.new.self c.args.one c.args.other c.in_ok-least.least c.in_ok-other_least.other_least
    c.in_ok-least.ensures c.in_ok-other_least.ensures (greater_name c.in_ok-least.least c.in_ok-other_least.other_least c.if-eq.ensures c.if-lt.ensures)
    c.in_ok-insert-2.ensures.updates.0
