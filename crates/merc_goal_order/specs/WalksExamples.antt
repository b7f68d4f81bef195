-- Goals that were written one behind the other, over `true` and `X = Y` with X and Y free. No predicate has a mode.
use Rattle.std.specs.Prelude.{◌≡◌, true, [], ◌∷◌, Ok, Err, refl}
use Rattle.std.proofs.Common.{arith}
use Rattle.merc_base.specs.declared.refusal.Fault.TheVariants.{Refused}
use Rattle.merc_base.specs.declared.refusal.Refusal.{Refusal}
use Rattle.merc_tree.specs.Term.{no_span}
use Rattle.merc_goal_tree.specs.declared.goal.Symbol.TheVariants.{Constructor}
use Rattle.merc_goal_tree.specs.Nodes.{no_nodes, nodes_of}
use Rattle.merc_order.specs.Bound.{nothing}
use Rattle.merc_order.specs.Faults.{never_ready}
use Rattle.merc_order.specs.Order.{moves}
use Rattle.merc_order.specs.Ordered.{Ordered, put, Truth, Split, no_goals, more_goals, AllReady, OneStuck}
use Rattle.merc_order.specs.Spelt.{spelt}
use Rattle.merc_readiness.specs.Sweeps.{AreKnownFrom}
use Rattle.merc_simple_goals.specs.declared.written.Written.{Written}
use Rattle.merc_goal_order.specs.GoalsExamples.{no_modes, body, in_body, truth, unready, true_facts, true_known, no_stretch}
use Rattle.merc_goal_order.specs.Walks.{ordereds_of, behind_them, twins_in, spelt_list, AreWritten, AddsOne, AddsTwo, Adds, GivesAll, all_settled, OrdersAll, Walked}

abbrev pub never : Refusal
never = never_ready no_span

abbrev pub done : Ordered
done = put Truth [] no_span

-- a split whose only place is tested
abbrev pub tested : Ordered
tested = put (Split 1 (Constructor 200 1) (2 ∷ []) (true ∷ [])) [] no_span

-- nothing is written, one goal, two, and one with a fresh variable

abbrev pub clean : Written
clean = record { nodes = []; fresh = 7; seen = [] }

abbrev pub one : Written
one = record { nodes = spelt no_modes 7 done ∷ []; fresh = 7; seen = [] }

abbrev pub two : Written
two = record { nodes = spelt no_modes 7 done ∷ spelt no_modes 7 done ∷ []; fresh = 7; seen = [] }

abbrev pub one_tested : Written
one_tested = record { nodes = spelt no_modes 7 tested ∷ []; fresh = 8; seen = [] }

-- goals behind others

behind_two : behind_them (done ∷ tested ∷ []) (AllReady no_goals) ≡ AllReady (more_goals done (more_goals tested no_goals))
behind_two = refl

behind_stuck : behind_them (done ∷ tested ∷ []) (OneStuck never) ≡ OneStuck never
behind_stuck = refl

twins_of_two : twins_in (tested ∷ done ∷ tested ∷ []) ≡ 2 ∷ 2 ∷ []
twins_of_two = refl

numbered_on : spelt_list no_modes 7 (tested ∷ tested ∷ []) ≡ spelt no_modes 7 tested ∷ spelt no_modes 8 tested ∷ []
numbered_on = refl

-- what is written

pub none_written : AreWritten no_modes [] clean clean
none_written = record { nodes = refl; fresh = refl; seen = refl }

pub one_written : AreWritten no_modes (done ∷ []) clean one
one_written = record { nodes = refl; fresh = refl; seen = refl }

fresh_counted : AreWritten no_modes (tested ∷ []) clean one_tested
fresh_counted = record { nodes = refl; fresh = refl; seen = refl }

fresh_not_counted : AreWritten no_modes (tested ∷ []) clean (record { nodes = spelt no_modes 7 tested ∷ []; fresh = 7; seen = [] }) → ⊥
fresh_not_counted written = let wrong = written.fresh in cc

adds_one : AddsOne clean one
adds_one = record { more = refl; cleared = refl }

adds_none : AddsOne clean clean → ⊥
adds_none added = let wrong = added.more in cc

adds_two : AddsTwo clean two
adds_two = record { more = refl; cleared = refl }

adds_too_few : AddsTwo clean one → ⊥
adds_too_few added = let wrong = added.more in cc

adds : Adds clean one
adds = record { more = omega arith; cleared = refl }

takes_away : Adds one clean → ⊥
takes_away added = omega (arith, added.more)

-- what becomes of goals

gives_one : GivesAll no_modes (AllReady (ordereds_of (done ∷ []))) clean one (Ok tt)
gives_one = (done ∷ [], refl, one_written)

gives_fault : GivesAll no_modes (OneStuck never) clean clean (Err (Refused never))
gives_fault = refl

no_fault : GivesAll no_modes (AllReady no_goals) clean clean (Err (Refused never)) → ⊥
no_fault wrong = cc

settled_one : all_settled (moves in_body no_modes (nodes_of (truth ∷ []))) nothing ≡ AllReady (ordereds_of (done ∷ []))
settled_one = refl

not_settled : all_settled (moves in_body no_modes (nodes_of (truth ∷ unready ∷ []))) nothing ≡ OneStuck never
not_settled = refl

orders_none : OrdersAll all_settled [] no_nodes [] body 0 [] clean clean (Ok tt)
orders_none total known stretch = ([], refl, record { nodes = refl; fresh = refl; seen = refl })

orders_no_fault : OrdersAll all_settled [] no_nodes [] body 0 [] clean clean (Err (Refused never)) → ⊥
orders_no_fault orders = let wrong = orders in_body tt no_stretch in cc

-- Of `true, true` the first is written.

second_known : AreKnownFrom in_body no_modes (truth ∷ []) (true_facts ∷ true_facts ∷ []) 1
second_known = record { front = true_facts ∷ []; back = true_facts ∷ []; at_is = refl; facts_are = refl; known = (true_known, tt) }

first_walked : Walked in_body no_modes (nodes_of (truth ∷ [])) (true_facts ∷ true_facts ∷ []) 1 body 0 (AllReady (ordereds_of (done ∷ done ∷ []))) (AllReady (ordereds_of (done ∷ []))) clean one
first_walked = record { known = second_known; stretch = no_stretch; done = done ∷ []; whole_is = refl; written = one_written }

-- the set to look up variables in is not empty again
not_cleared : Walked in_body no_modes (nodes_of (truth ∷ [])) (true_facts ∷ true_facts ∷ []) 1 body 0 (AllReady (ordereds_of (done ∷ done ∷ []))) (AllReady (ordereds_of (done ∷ []))) clean
    (record { nodes = spelt no_modes 7 done ∷ []; fresh = 7; seen = 3 ∷ [] }) → ⊥
not_cleared walked = let wrong = walked.written.seen in cc
