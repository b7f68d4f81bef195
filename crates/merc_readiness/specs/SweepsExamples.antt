-- Which goals of a conjunction are listed, where they lie, and what those bind that went.
use Rattle.std.specs.Prelude.{◌≡◌, zero, suc, true, false, [], ◌∷◌, refl}
use Rattle.merc_goal_tree.specs.Nodes.{Nodes, Conditional, no_nodes, more_nodes, nodes_of}
use Rattle.merc_order.specs.Marks.{Marked, no_marks, more_marks}
use Rattle.merc_order.specs.OrderExamples.{at, modes, x, y, is_one}
use Rattle.merc_readiness.specs.Asking.{flags_of, joined_by, Fits}
use Rattle.merc_readiness.specs.Sweeps.{marked_bind, times, times_left, AreLeft, listed_if_left}
use Rattle.merc_readiness.specs.declared.waiting.Waiting.{Waiting}

-- of three goals the second one went
abbrev second_went : Marked
second_went = more_marks false no_marks (more_marks true no_marks (more_marks false no_marks no_marks))

abbrev first_waits : Waiting
first_waits = record { index = 0; at = 0 }

abbrev third_waits : Waiting
third_waits = record { index = 2; at = 2 }

first_left : times_left 0 second_went ≡ 1
first_left = refl

second_not_left : times_left 1 second_went ≡ 0
second_not_left = refl

none_behind : times_left 3 second_went ≡ 0
none_behind = refl

in_any_order : times 2 (third_waits ∷ first_waits ∷ []) ≡ times 2 (first_waits ∷ third_waits ∷ [])
in_any_order = refl

put_behind : listed_if_left false third_waits (first_waits ∷ []) ≡ first_waits ∷ third_waits ∷ []
put_behind = refl

all_went : AreLeft (more_marks true no_marks no_marks) []
all_went zero = refl
all_went (suc index) = refl

third_not_listed : AreLeft second_went (first_waits ∷ []) → ⊥
third_not_listed are = let third = are 2 in cc

listed_twice : AreLeft second_went (first_waits ∷ third_waits ∷ first_waits ∷ []) → ⊥
listed_twice are = let first = are 0 in cc

not_put_behind : listed_if_left true third_waits (first_waits ∷ []) ≡ first_waits ∷ []
not_put_behind = refl

-- the marks of a part's own parts stand before its own
own_mark_last : flags_of (more_marks true (more_marks false no_marks no_marks) (more_marks false no_marks no_marks)) ≡ false ∷ true ∷ false ∷ []
own_mark_last = refl

condition_first : joined_by (Conditional (is_one 0 10) (is_one 1 20) (is_one 2 30) (at 10)) ≡ nodes_of (is_one 0 10 ∷ is_one 1 20 ∷ is_one 2 30 ∷ [])
condition_first = refl

no_mark : Fits (more_nodes (is_one x 10) no_nodes) no_marks → ⊥
no_mark fits = elim fits [ ]

-- `X = 1, Y = 1, Z = 1`, of which the second one went

abbrev three : Nodes
three = nodes_of (is_one x 10 ∷ is_one y 20 ∷ is_one 2 30 ∷ [])

gone_binds : marked_bind (λ variable. 9) modes three second_went y ≡ true
gone_binds = refl

left_does_not : marked_bind (λ variable. 9) modes three second_went x ≡ false
left_does_not = refl
