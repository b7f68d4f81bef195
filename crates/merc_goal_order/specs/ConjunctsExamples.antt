-- Goals of conjunctions that go, over `true` and `X = Y` with X and Y free.
use Rattle.std.specs.Prelude.{◌≡◌, ℕ, zero, suc, Bool, true, false, List, [], ◌∷◌, ◌++◌, length, drop, Ok, Err, refl}
use Rattle.std.proofs.Common.{ap, sym, arith}
use Rattle.merc_base.specs.declared.refusal.Fault.TheVariants.{Refused}
use Rattle.merc_goal_tree.specs.Nodes.{Node, Nodes, no_nodes, more_nodes, nodes_of}
use Rattle.merc_order.specs.Bound.{nothing}
use Rattle.merc_order.specs.Marks.{Marked, no_marks, more_marks}
use Rattle.merc_order.specs.Order.{from, moves}
use Rattle.merc_order.specs.Ordered.{AllReady, OneStuck, is_ready}
use Rattle.merc_readiness.specs.Asking.{Fits, none, more, flags_of}
use Rattle.merc_simple_goals.specs.declared.written.Written.{Written}
use Rattle.merc_goal_order.specs.GoalsExamples.{no_modes, body, in_body, truth, unready, true_facts, true_known, no_stretch}
use Rattle.merc_goal_order.specs.Conjuncts.{HasGone, Goes, Stays, GoesIfReady, TellsFirst, Passing, went_at, AskedAreStuck, Amid, AskGives, NextGives}
use Rattle.merc_goal_order.specs.Walks.{ordereds_of}
use Rattle.merc_goal_order.specs.WalksExamples.{never, done, clean, one, none_written, one_written}

-- marks of a goal that holds no others

gone : HasGone truth (true ∷ [])
gone = record { inner = no_marks; fits = none; flags_are = refl }

only_own : (inner : Marked) (flags : List Bool) → Fits no_nodes inner → flags ≡ flags_of inner ++ true ∷ [] → flags ≡ true ∷ []
only_own inner flags none same = same

not_gone : HasGone truth (false ∷ []) → ⊥
not_gone went = let wrong = only_own went.inner (false ∷ []) went.fits went.flags_are in cc

goes : Goes in_body no_modes truth (true ∷ []) [] [] clean one
goes = record { ordered = done; outcome = refl; written = record { nodes = refl; fresh = refl; seen = refl }; bound_is = refl; gone = gone }

does_not_go : Goes in_body no_modes unready (true ∷ []) [] [] clean one → ⊥
does_not_go wrong = let ready = wrong.outcome in cc

stays : Stays in_body no_modes unready (false ∷ []) [] [] clean clean
stays = record {
  stuck = refl;
  same = refl;
  same_bound = refl;
  marked = record { inner = no_marks; went = false; fits = none; flags_are = refl; sound = tt };
  went_is = refl;
}

does_not_stay : Stays in_body no_modes truth (false ∷ []) [] [] clean clean → ⊥
does_not_stay wrong = let stuck = wrong.stuck in cc

goes_if_ready : GoesIfReady in_body no_modes truth (true ∷ []) [] [] clean one (Ok true)
goes_if_ready = goes

no_refusal : GoesIfReady in_body no_modes unready (false ∷ []) [] [] clean clean (Err (Refused never)) → ⊥
no_refusal wrong = wrong

-- of `X = Y, true` the first is not ready, and of `true, X = Y` it is

first_tells : TellsFirst no_modes (moves in_body no_modes (nodes_of (unready ∷ truth ∷ []))) nothing clean clean (Err (Refused never))
first_tells = refl

first_tells_not : TellsFirst no_modes (moves in_body no_modes (nodes_of (truth ∷ unready ∷ []))) nothing clean clean (Err (Refused never)) → ⊥
first_tells_not wrong = cc

first_written : TellsFirst no_modes (moves in_body no_modes (nodes_of (truth ∷ unready ∷ []))) nothing clean one (Ok tt)
first_written = (done, refl, record { nodes = refl; fresh = refl; seen = refl })

-- it is not written
first_missing : TellsFirst no_modes (moves in_body no_modes (nodes_of (truth ∷ unready ∷ []))) nothing clean clean (Ok tt) → ⊥
first_missing (ordered, is, written) = let wrong = written.nodes in cc

-- it is not ready
first_unready : TellsFirst no_modes (moves in_body no_modes (nodes_of (unready ∷ truth ∷ []))) nothing clean one (Ok tt) → ⊥
first_unready (ordered, is, written) = cc

none_tells : TellsFirst no_modes [] nothing one one (Ok tt)
none_tells = refl

-- none is left, but one is written
none_tells_not : TellsFirst no_modes [] nothing clean one (Ok tt) → ⊥
none_tells_not wrong = let same = ap (λ (w : Written). w.nodes) wrong in cc

none_refused : TellsFirst no_modes [] nothing clean clean (Err (Refused never)) → ⊥
none_refused wrong = wrong

-- Marks are not fewer than those in front.

no_front : (front back : List Bool) → length front ≡ 1 → [] ≡ front ++ back → ⊥
no_front [] back long same = cc
no_front (first ∷ rest) back long same = cc

-- of `true, true` the first went
passing : Passing in_body no_modes (nodes_of (truth ∷ [])) (true_facts ∷ true_facts ∷ []) (true ∷ false ∷ []) 1 body 0 (moves in_body no_modes (nodes_of (truth ∷ [])))
passing = record {
  front = true ∷ [];
  marked = more_marks false no_marks no_marks;
  at_is = refl;
  flags_are = refl;
  fits = more truth no_nodes false no_marks no_marks none none;
  left_is = refl;
  known = record { front = true_facts ∷ []; back = true_facts ∷ []; at_is = refl; facts_are = refl; known = (true_known, tt) };
  stretch = no_stretch;
}

not_passing : Passing in_body no_modes (nodes_of (truth ∷ [])) (true_facts ∷ true_facts ∷ []) [] 1 body 0 (moves in_body no_modes (nodes_of (truth ∷ []))) → ⊥
not_passing wrong = no_front wrong.front (flags_of wrong.marked) wrong.at_is wrong.flags_are

-- of `X = Y` alone one goal is left

abbrev left_marks : Marked
left_marks = more_marks false no_marks no_marks

left_fits : Fits (nodes_of (unready ∷ [])) left_marks
left_fits = more unready no_nodes false no_marks no_marks none none

second_went : went_at 1 (more_marks false no_marks (more_marks true no_marks no_marks)) ≡ true
second_went = refl

first_left : went_at 0 (more_marks false no_marks (more_marks true no_marks no_marks)) ≡ false
first_left = refl

no_item : (index : ℕ) (goal : Node) (rest : List Node) → drop index [] ≡ goal ∷ rest → ⊥
no_item zero goal rest there = cc
no_item (suc index) goal rest there = cc

first_is : (one other : Node) (rest : List Node) → one ∷ [] ≡ other ∷ rest → one ≡ other
first_is one other rest there = cc

-- none is awaited
asked_stuck : AskedAreStuck in_body no_modes nothing (unready ∷ []) left_marks nothing
asked_stuck zero goal rest there not left = ap (λ g. is_ready (from in_body no_modes g nothing)) (sym (first_is unready goal rest there))
asked_stuck (suc index) goal rest there not left = absurd (no_item index goal rest there)

asked_not_stuck : AskedAreStuck in_body no_modes nothing (truth ∷ []) left_marks nothing → ⊥
asked_not_stuck wrong = let ready : true ≡ false = wrong 0 truth [] refl refl refl in cc

amid : Amid in_body no_modes (unready ∷ []) (OneStuck never) nothing (false ∷ []) nothing nothing clean clean 1
amid = record {
  marked = left_marks;
  done = [];
  fits = left_fits;
  flags_are = refl;
  sound = (tt, tt);
  stuck = asked_stuck;
  whole_is = refl;
  are_written = none_written;
  fewer = omega arith;
}

gone_stuck : AskedAreStuck in_body no_modes nothing (truth ∷ []) (more_marks true no_marks no_marks) nothing
gone_stuck zero goal rest there not left = cc
gone_stuck (suc index) goal rest there not left = absurd (no_item index goal rest there)

all_gone : Amid in_body no_modes (truth ∷ []) (AllReady (ordereds_of (done ∷ []))) nothing (true ∷ []) nothing nothing clean one 0
all_gone = record {
  marked = more_marks true no_marks no_marks;
  done = done ∷ [];
  fits = more truth no_nodes true no_marks no_marks none none;
  flags_are = refl;
  sound = (tt, tt);
  stuck = gone_stuck;
  whole_is = refl;
  are_written = one_written;
  fewer = omega arith;
}

no_mark : (front : List Bool) (went : Bool) (back : List Bool) → [] ≡ front ++ went ∷ back → ⊥
no_mark [] went back same = cc
no_mark (first ∷ rest) went back same = cc

has_mark : (goal : Node) (rest : Nodes) (marked : Marked) → Fits (more_nodes goal rest) marked → [] ≡ flags_of marked → ⊥
has_mark goal rest marked (more first others went inner behind fits fit) same = no_mark (flags_of inner) went (flags_of behind) same

not_amid : Amid in_body no_modes (unready ∷ []) (OneStuck never) nothing [] nothing nothing clean clean 1 → ⊥
not_amid wrong = has_mark unready no_nodes wrong.marked wrong.fits wrong.flags_are

ask : AskGives in_body no_modes (truth ∷ []) (AllReady (ordereds_of (done ∷ []))) 0 nothing (true ∷ []) nothing nothing clean one 0 (Ok true)
unfolding all_gone
ask = (all_gone, refl)

ask_left : AskGives in_body no_modes (unready ∷ []) (OneStuck never) 0 nothing (false ∷ []) nothing nothing clean clean 0 (Ok false)
ask_left = amid

ask_no_refusal : AskGives in_body no_modes (unready ∷ []) (OneStuck never) 0 nothing (false ∷ []) nothing nothing clean clean 0 (Err (Refused never)) → ⊥
ask_no_refusal wrong = wrong

next_goes : NextGives in_body no_modes (truth ∷ []) (AllReady (ordereds_of (done ∷ []))) nothing (true ∷ []) nothing clean one 0 (Ok true)
next_goes = all_gone

none_goes : NextGives in_body no_modes (unready ∷ []) (OneStuck never) nothing (false ∷ []) nothing clean clean 0 (Ok false)
none_goes = amid

next_no_refusal : NextGives in_body no_modes (unready ∷ []) (OneStuck never) nothing (false ∷ []) nothing clean clean 0 (Err (Refused never)) → ⊥
next_no_refusal wrong = wrong
