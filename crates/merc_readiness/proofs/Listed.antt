-- Goals of a conjunction that are listed.
use Rattle.std.specs.Prelude.{◌≡◌, ◌==◌, ◌≤◌, ◌<◌, ◌+◌, ◌-◌, ℕ, zero, suc, Bool, true, false, not, List, [], ◌∷◌, ◌++◌, reverse, length, take, drop, refl}
use Rattle.std.specs.List.{slice_index_or}
use Rattle.std.proofs.Common.{◌∙◌, ◌⊎◌, inl, inr, ap, sym, subst, arith, eqb-true, eq-eqb}
use Rattle.std.proofs.lemmas.Bool.{cases_lt}
use Rattle.std.proofs.lemmas.Bool.Decides.{nat_tests}
use Rattle.std.proofs.lemmas.List.{length-append, append_assoc, reverse-append, drop_more}
use Rattle.merc_tree.specs.declared.declarations.ModeDecl.{ModeDecl}
use Rattle.merc_goal_tree.specs.Nodes.{Node, Nodes, no_nodes, more_nodes, nodes_of}
use Rattle.merc_goal_tree.specs.Parts.{parts_of, all_parts}
use Rattle.merc_order.specs.Bound.{Bound}
use Rattle.merc_order.specs.Marks.{Marked, no_marks, more_marks, kept, left}
use Rattle.merc_order.specs.Order.{from}
use Rattle.merc_order.specs.Ordered.{is_ready}
use Rattle.merc_order.specs.Ways.{AllStuck}
use Rattle.merc_goal_facts.specs.Facts.{AreKnown, subgoals, all_subgoals}
use Rattle.merc_goal_facts.specs.declared.facts.Facts.{Facts}
use Rattle.merc_readiness.specs.Asking.{Fits, none, more}
use Rattle.merc_readiness.specs.Sweeps.{new_one, AreKnownFrom, IsPlaced, ArePlaced, times, times_left, AreLeft, AreGone, AreStuck, ListsBefore, listed_if_left}
use Rattle.merc_readiness.specs.declared.waiting.Waiting.{Waiting}
use Rattle.merc_readiness.proofs.Marking.{known_split, known_length, all_subgoals_length}

-- how often a goal is listed

pub times-append : (index : ℕ) (front back : List Waiting) → times index (front ++ back) ≡ times index front + times index back
times-append index [] back = omega arith
times-append index (waiting ∷ front) back = omega (arith, times-append index front back)

reverse_more : (waiting : Waiting) (others : List Waiting) → reverse (waiting ∷ others) ≡ reverse others ++ waiting ∷ []
reverse_more waiting others = reverse-append (waiting ∷ []) others

pub times-reverse : (index : ℕ) (listed : List Waiting) → times index (reverse listed) ≡ times index listed
times-reverse index [] = refl
times-reverse index (waiting ∷ others) =
    omega (arith, ap (λ l. times index l) (reverse_more waiting others), times-append index (reverse others) (waiting ∷ []), times-reverse index others)

pub new_same : (one other : ℕ) → one ≡ other → new_one (one == other) ≡ 1
new_same one other same = ap new_one (eq-eqb one other same)

new_other_by : (one other : ℕ) (same : Bool) → (one == other) ≡ same → (one ≡ other → ⊥) → new_one same ≡ 0
new_other_by one other true is not_same = absurd (not_same (eqb-true one other is))
new_other_by one other false is not_same = refl

pub new_other : (one other : ℕ) → (one ≡ other → ⊥) → new_one (one == other) ≡ 0
new_other one other not_same = new_other_by one other (one == other) refl not_same

pub one_more : (bit : Bool) (n : ℕ) → suc n ≡ new_one (not bit) → (bit ≡ false) × (n ≡ 0)
one_more true n h = absurd (omega (arith, h))
one_more false n h = (refl, omega (arith, h))

-- parts, cut before the goal of an index

pub all_parts_cut : (goals : List Node) (index : ℕ) → length (all_parts (nodes_of goals)) ≡ length (all_parts (nodes_of (take index goals))) + length (all_parts (nodes_of (drop index goals)))
all_parts_cut [] zero = refl
all_parts_cut [] (suc index) = refl
all_parts_cut (goal ∷ goals) zero = omega arith
all_parts_cut (goal ∷ goals) (suc index) =
    omega (arith, all_parts_cut goals index, length-append (parts_of goal) (all_parts (nodes_of goals)), length-append (parts_of goal) (all_parts (nodes_of (take index goals))))

pub parts_within : (goals : List Node) (index at : ℕ) (goal : Node) (rest : List Node) → drop index goals ≡ goal ∷ rest → at ≡ length (all_parts (nodes_of (take index goals)))
    → at + length (parts_of goal) ≤ length (all_parts (nodes_of goals))
parts_within goals index at goal rest there placed =
    omega (arith, placed, all_parts_cut goals index, ap (λ l. length (all_parts (nodes_of l))) there, length-append (parts_of goal) (all_parts (nodes_of rest)))

-- how they lie

pub placed-append : (goals : List Node) (front back : List Waiting) → ArePlaced goals front → ArePlaced goals back → ArePlaced goals (front ++ back)
placed-append goals [] back placed others = others
placed-append goals (waiting ∷ front) back (one, placed) others = (one, placed-append goals front back placed others)

pub placed_if_left : (goals : List Node) (gone : Bool) (waiting : Waiting) (listed : List Waiting) → IsPlaced goals waiting → ArePlaced goals listed → ArePlaced goals (listed_if_left gone waiting listed)
placed_if_left goals true waiting listed one placed = placed
placed_if_left goals false waiting listed one placed = placed-append goals listed (waiting ∷ []) placed (one, tt)

pub placed-reverse : (goals : List Node) (listed : List Waiting) → ArePlaced goals listed → ArePlaced goals (reverse listed)
placed-reverse goals [] placed = tt
placed-reverse goals (waiting ∷ others) (one, placed) =
    subst (λ l. ArePlaced goals l) (sym (reverse_more waiting others)) (placed-append goals (reverse others) (waiting ∷ []) (placed-reverse goals others placed) (one, tt))

first_is : (one other : Waiting) (rest others : List Waiting) → one ∷ rest ≡ other ∷ others → one ≡ other
first_is one other rest others h = cc

pub placed_at : (goals : List Node) (index : ℕ) (listed : List Waiting) (waiting : Waiting) (rest : List Waiting) → ArePlaced goals listed → drop index listed ≡ waiting ∷ rest → IsPlaced goals waiting
placed_at goals zero [] waiting rest placed there = cc
placed_at goals (suc index) [] waiting rest placed there = cc
placed_at goals zero (first ∷ others) waiting rest (one, placed) there = subst (λ w. IsPlaced goals w) (first_is first waiting others rest there) one
placed_at goals (suc index) (first ∷ others) waiting rest (one, placed) there = placed_at goals index others waiting rest placed there

pub listed_cut : (listed : List Waiting) (index : ℕ) (waiting default : Waiting) → index < length listed → waiting ≡ slice_index_or listed index default
    → drop index listed ≡ waiting ∷ drop (index + 1) listed
listed_cut listed index waiting default room is = drop_more listed index default room ∙ ap (λ w. w ∷ drop (index + 1) listed) (sym is)

pub goals_cut : (goals : List Node) (index : ℕ) (goal : Node) → index < length goals → goal ≡ slice_index_or goals index goal → drop index goals ≡ goal ∷ drop (index + 1) goals
goals_cut goals index goal room is = drop_more goals index goal room ∙ ap (λ g. g ∷ drop (index + 1) goals) (sym is)

pub within_if_left : (ready : Bool) (waiting : Waiting) (kept : List Waiting) (index : ℕ) → length kept ≤ index → length (listed_if_left ready waiting kept) ≤ index + 1
within_if_left true waiting kept index few = omega (arith, few)
within_if_left false waiting kept index few = omega (arith, few, length-append kept (waiting ∷ []))

pub placed_here : (goals : List Node) (listed : List Waiting) (index : ℕ) (waiting default : Waiting) → ArePlaced goals listed → index < length listed → waiting ≡ slice_index_or listed index default
    → IsPlaced goals waiting
placed_here goals listed index waiting default placed room is = placed_at goals index listed waiting (drop (index + 1) listed) placed (listed_cut listed index waiting default room is)

pub parts_here : (goals : List Node) (waiting : Waiting) (goal : Node) → IsPlaced goals waiting → goal ≡ slice_index_or goals waiting.index goal
    → waiting.at + length (parts_of goal) ≤ length (all_parts (nodes_of goals))
parts_here goals waiting goal (room, placed) is = parts_within goals waiting.index waiting.at goal (drop (waiting.index + 1) goals) (goals_cut goals waiting.index goal room is) placed

reversed : (marked : Marked) (listed : List Waiting) → AreLeft marked listed → AreLeft marked (reverse listed)
reversed marked listed are index = times-reverse index listed ∙ are index

pub gone_reversed : (total : ℕ → ℕ) (modes : ℕ → List ModeDecl) (goals : Nodes) (start : Bound) (flags : List Bool) (now : Bound) (listed : List Waiting)
    → AreGone total modes goals start flags now listed → AreGone total modes goals start flags now (reverse listed)
gone_reversed total modes goals start flags now listed g =
    record { marked = g.marked; fits = g.fits; flags_are = g.flags_are; way = g.way; sound = g.sound; are_left = reversed g.marked listed g.are_left }

pub not_empty : (count : ℕ) → false ≡ (count == 0) → 0 < count
not_empty count test = grind (arith, nat_tests)

pub none_counted : (count : ℕ) → true ≡ (count == 0) → count ≡ 0
none_counted count test = eqb-true count 0 (sym test)

-- the goals from the first on

pub lists_first : (marked : Marked) → ListsBefore marked 0 marked []
lists_first marked = record { before = λ other h. absurd (omega (arith, h)); behind = λ other. refl; rest_is = λ other. ap (λ n. times_left n marked) (omega arith) }

shifted : (index other : ℕ) (whole : Marked) → times_left (suc index + other) whole ≡ times_left (index + suc other) whole
shifted index other whole = ap (λ n. times_left n whole) (omega arith)

shifted_times : (index other : ℕ) (listed : List Waiting) → times (suc index + other) listed ≡ times (index + suc other) listed
shifted_times index other listed = ap (λ n. times n listed) (omega arith)

no_shift : (index : ℕ) (whole : Marked) → times_left index whole ≡ times_left (index + 0) whole
no_shift index whole = ap (λ n. times_left n whole) (omega arith)

no_shift_times : (index : ℕ) (listed : List Waiting) → times index listed ≡ times (index + 0) listed
no_shift_times index listed = ap (λ n. times n listed) (omega arith)

-- The next goal is listed unless it went.

either_before : (whole : Marked) (listed : List Waiting) (index other : ℕ) → other < suc index → (other < index) ⊎ (index ≤ other)
    → ((another : ℕ) → another < index → times another listed ≡ times_left another whole) → times index listed ≡ times_left index whole → times other listed ≡ times_left other whole
either_before whole listed index other h (inl less) before own = before other less
either_before whole listed index other h (inr far) before own = let same : index ≡ other = omega (arith, h, far) in subst (λ n. times n listed ≡ times_left n whole) same own

lists_by : (whole others : Marked) (listed : List Waiting) (index : ℕ) → ((other : ℕ) → other < index → times other listed ≡ times_left other whole) → times index listed ≡ times_left index whole
    → ((other : ℕ) → times (suc index + other) listed ≡ 0) → ((other : ℕ) → times_left (suc index + other) whole ≡ times_left other others) → ListsBefore whole (suc index) others listed
lists_by whole others listed index before own behind rest_is = record {
  before = λ other h. either_before whole listed index other h (cases_lt other index) before own;
  behind = behind;
  rest_is = rest_is;
}

times_end : (index other at : ℕ) (listed : List Waiting) → times other (listed ++ record { index = index; at = at } ∷ []) ≡ times other listed + new_one (index == other)
times_end index other at listed = omega (arith, times-append other listed (record { index = index; at = at } ∷ []))

pub lists_on : (whole inner others : Marked) (gone : Bool) (index at : ℕ) (listed : List Waiting) → ListsBefore whole index (more_marks gone inner others) listed
    → ListsBefore whole (suc index) others (listed_if_left gone (record { index = index; at = at }) listed)
lists_on whole inner others true index at listed l =
    lists_by whole others listed index l.before (no_shift_times index listed ∙ l.behind 0 ∙ sym (no_shift index whole ∙ l.rest_is 0))
    (λ other. shifted_times index other listed ∙ l.behind (suc other)) (λ other. shifted index other whole ∙ l.rest_is (suc other))
lists_on whole inner others false index at listed l =
    lists_by whole others (listed ++ record { index = index; at = at } ∷ []) index
    (λ other less. omega (arith, times_end index other at listed, new_other index other (λ e. absurd (omega (arith, e, less))), l.before other less))
    (omega (arith, times_end index index at listed, new_same index index refl, no_shift_times index listed, l.behind 0, no_shift index whole, l.rest_is 0))
    (λ other. omega (arith, times_end index (suc index + other) at listed, new_other index (suc index + other) (λ e. absurd (omega (arith, e))), shifted_times index other listed, l.behind (suc other)))
    (λ other. shifted index other whole ∙ l.rest_is (suc other))

either_way : (whole : Marked) (index other : ℕ) (listed : List Waiting) → ListsBefore whole index no_marks listed → (other < index) ⊎ (index ≤ other) → times other listed ≡ times_left other whole
either_way whole index other listed l (inl less) = l.before other less
either_way whole index other listed l (inr far) =
    let same : index + (other - index) ≡ other = omega (arith, far) in
    subst (λ n. times n listed ≡ times_left n whole) same (l.behind (other - index) ∙ sym (l.rest_is (other - index)))

pub lists_last : (whole marked : Marked) (index : ℕ) (listed : List Waiting) → Fits no_nodes marked → ListsBefore whole index marked listed → AreLeft whole listed
lists_last whole marked index listed none l other = either_way whole index other listed l (cases_lt other index)

-- What is listed tells what is left.

module _ (total : ℕ → ℕ) (modes : ℕ → List ModeDecl) where
  pub none_listed : (goals : Nodes) (marked : Marked) → Fits goals marked → ((index : ℕ) → 0 ≡ times_left index marked) → left total modes goals marked ≡ []
  none_listed no_nodes marked none are = refl
  none_listed (more_nodes first rest) marked (more f r true inner others fits_inner fits) are = none_listed rest others fits (λ index. are (suc index))
  none_listed (more_nodes first rest) marked (more f r false inner others fits_inner fits) are = absurd (omega (arith, are 0))

  some_left : (goals : Nodes) (marked : Marked) (index : ℕ) → Fits goals marked → 0 < times_left index marked → 0 < length (left total modes goals marked)
  some_left no_nodes marked index none h = absurd (omega (arith, h))
  some_left (more_nodes first rest) marked zero (more f r true inner others fits_inner fits) h = absurd (omega (arith, h))
  some_left (more_nodes first rest) marked (suc index) (more f r true inner others fits_inner fits) h = some_left rest others index fits h
  some_left (more_nodes first rest) marked index (more f r false inner others fits_inner fits) h = omega arith

  pub some_listed : (goals : Nodes) (marked : Marked) (waiting : Waiting) (others : List Waiting) → Fits goals marked → AreLeft marked (waiting ∷ others) → 0 < length (left total modes goals marked)
  some_listed goals marked waiting others fits are =
      some_left goals marked waiting.index fits (omega (arith, are waiting.index, new_same waiting.index waiting.index refl))

  all_stuck : (goals : List Node) (marked : Marked) (now : Bound) → Fits (nodes_of goals) marked
      → ((index : ℕ) (goal : Node) (rest : List Node) → 0 < times_left index marked → drop index goals ≡ goal ∷ rest → is_ready (from total modes goal now) ≡ false)
      → AllStuck (left total modes (nodes_of goals) marked) now
  all_stuck [] marked now fits stuck = tt
  all_stuck (goal ∷ goals) marked now (more f r true inner others fits_inner fits) stuck = all_stuck goals others now fits (λ index. stuck (suc index))
  all_stuck (goal ∷ goals) marked now (more f r false inner others fits_inner fits) stuck = (stuck 0 goal goals (omega arith) refl, all_stuck goals others now fits (λ index. stuck (suc index)))

  stuck_this : (goals : List Node) (waiting : Waiting) (others : List Waiting) (now : Bound) (index : ℕ) (goal : Node) (rest : List Node) (same : Bool) → (waiting.index == index) ≡ same
      → ((goal : Node) (rest : List Node) → drop waiting.index goals ≡ goal ∷ rest → is_ready (from total modes goal now) ≡ false)
      → (0 < times index others → is_ready (from total modes goal now) ≡ false) → 0 < times index (waiting ∷ others) → drop index goals ≡ goal ∷ rest → is_ready (from total modes goal now) ≡ false
  stuck_this goals waiting others now index goal rest true is one further h there = one goal rest (ap (λ n. drop n goals) (eqb-true waiting.index index is) ∙ there)
  stuck_this goals waiting others now index goal rest false is one further h there =
      further (omega (arith, subst (λ b. 0 < new_one b + times index others) is h))

  stuck_at : (goals : List Node) (listed : List Waiting) (now : Bound) (index : ℕ) (goal : Node) (rest : List Node) → AreStuck total modes goals listed now → 0 < times index listed
      → drop index goals ≡ goal ∷ rest → is_ready (from total modes goal now) ≡ false
  stuck_at goals [] now index goal rest stuck h there = absurd (omega (arith, h))
  stuck_at goals (waiting ∷ others) now index goal rest (one, stuck) h there =
      stuck_this goals waiting others now index goal rest (waiting.index == index) refl one (λ k. stuck_at goals others now index goal rest stuck k there) h there

  pub listed_stuck : (goals : List Node) (marked : Marked) (listed : List Waiting) (now : Bound) → Fits (nodes_of goals) marked → AreLeft marked listed → AreStuck total modes goals listed now
      → AllStuck (left total modes (nodes_of goals) marked) now
  listed_stuck goals marked listed now fits are stuck =
      all_stuck goals marked now fits (λ index goal rest h there. stuck_at goals listed now index goal rest stuck (omega (arith, h, are index)) there)

  pub stuck-append : (goals : List Node) (front : List Waiting) (waiting : Waiting) (now : Bound) → AreStuck total modes goals front now
      → ((goal : Node) (rest : List Node) → drop waiting.index goals ≡ goal ∷ rest → is_ready (from total modes goal now) ≡ false) → AreStuck total modes goals (front ++ waiting ∷ []) now
  stuck-append goals [] waiting now stuck this = (this, tt)
  stuck-append goals (first ∷ front) waiting now (one, stuck) this = (one, stuck-append goals front waiting now stuck this)

-- the facts of the goal of an index

pub all_subgoals_cut : (goals : List Node) (index : ℕ) → all_subgoals (nodes_of goals) ≡ all_subgoals (nodes_of (take index goals)) ++ all_subgoals (nodes_of (drop index goals))
all_subgoals_cut [] zero = refl
all_subgoals_cut [] (suc index) = refl
all_subgoals_cut (goal ∷ goals) zero = refl
all_subgoals_cut (goal ∷ goals) (suc index) =
    ap (λ l. subgoals goal ++ l) (all_subgoals_cut goals index) ∙ sym (append_assoc (subgoals goal) (all_subgoals (nodes_of (take index goals))) (all_subgoals (nodes_of (drop index goals))))

pub known_from : (total : ℕ → ℕ) (modes : ℕ → List ModeDecl) (goals rest : List Node) (waiting : Waiting) (goal : Node) (at : ℕ) (facts : List Facts) → drop waiting.index goals ≡ goal ∷ rest → IsPlaced goals waiting
    → waiting.at ≡ at → AreKnown total modes (all_subgoals (nodes_of goals)) facts → AreKnownFrom total modes (all_subgoals (more_nodes goal (nodes_of rest))) facts at
known_from total modes goals rest waiting goal at facts there (room, placed) at_is known =
    let before = nodes_of (take waiting.index goals) in
    let k = known_split total modes (all_subgoals before) (all_subgoals (nodes_of (drop waiting.index goals))) facts (subst (λ l. AreKnown total modes l facts) (all_subgoals_cut goals waiting.index) known) in
    record {
      front = k.front;
      back = k.back;
      at_is = known_length total modes (all_subgoals before) k.front k.first_known ∙ all_subgoals_length before ∙ sym placed ∙ at_is;
      facts_are = k.facts_are;
      known = subst (λ l. AreKnown total modes (all_subgoals (nodes_of l)) k.back) there k.rest_known;
    }
