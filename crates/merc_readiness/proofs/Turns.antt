-- The next of several goals is asked: what is kept.
use Rattle.std.specs.Prelude.{◌≡◌, ◌≤◌, ◌<◌, ◌+◌, ◌-◌, ℕ, suc, Bool, true, false, List, [], ◌∷◌, ◌++◌, length, drop, refl}
use Rattle.std.specs.List.{slice_range, slice_index_or}
use Rattle.std.proofs.Common.{◌∙◌, ap, sym, subst, arith}
use Rattle.std.proofs.lemmas.List.{length-append, append_assoc}
use borrow.Rule.Slice.PartMut.{put_mid}
use Rattle.merc_base.specs.declared.place.Span.{Span}
use Rattle.merc_tree.specs.declared.declarations.ModeDecl.{ModeDecl}
use Rattle.merc_tree.specs.declared.declarations.PredDecl.{PredDecl}
use Rattle.merc_goal_tree.specs.Nodes.{Node, Parallel, Disjunction, Conditional, nodes_of}
use Rattle.merc_goal_tree.specs.Parts.{parts_of}
use Rattle.merc_order.specs.Bound.{Bound, among}
use Rattle.merc_order.specs.Order.{from}
use Rattle.merc_order.specs.Ordered.{is_ready}
use Rattle.merc_order.specs.Procedures.{modes_of}
use Rattle.merc_goal_facts.specs.Facts.{AreKnown, all_subgoals}
use Rattle.merc_goal_facts.specs.Bounds.{all_behind}
use Rattle.merc_goal_facts.specs.declared.facts.Facts.{Facts}
use Rattle.merc_readiness.specs.Asking.{Asked, AreMarked}
use Rattle.merc_readiness.specs.Chains.{AskedArm, Told, IsOpen, IsReached}
use Rattle.merc_readiness.specs.Sweeps.{AreKnownFrom, DuringArms, DuringBeside, ArePlaced, listed_if_left, AreGone, AreStuck, AskGives, AsksOne}
use Rattle.merc_readiness.specs.declared.waiting.Waiting.{Waiting}
use Rattle.merc_readiness.proofs.Asks.{rest_nodes}
use Rattle.merc_readiness.proofs.Binding.{next_known}
use Rattle.merc_readiness.proofs.ChainLaws.{open_link, arm_marks, link_facts, link_stuck, link_on, last_marks, last_facts, last_stuck, last_ready}
use Rattle.merc_readiness.proofs.Each.{arm_marked, arm_on, arm_stuck, beside_marked, beside_on, stuck_beside}
use Rattle.merc_readiness.proofs.Stepping.{asking, marks_of, stays_there, goes_there, facts_of_next, bound_by_next}
use Rattle.merc_readiness.proofs.Listed.{listed_cut, goals_cut, placed_at, stuck-append, known_from}

-- an arm

pub arm_stops : (predicates : List PredDecl) (arms : List Node) (index : ℕ) (arm : Node) (facts : List Facts) (flags new : List Bool) (at end size : ℕ) (bound : Bound)
    → index < length arms → arm ≡ slice_index_or arms index arm → end ≡ at + length (parts_of arm) → size ≡ length (parts_of arm)
    → Asked predicates arm (slice_range facts at end) (slice_range flags at end) new bound false → (total : ℕ → ℕ) (span : Span)
    → AreKnownFrom total (modes_of predicates) (all_subgoals (nodes_of (drop index arms))) facts at
    → DuringArms total (modes_of predicates) (nodes_of arms) bound (nodes_of (drop index arms)) flags at
    → (is_ready (from total (modes_of predicates) (Disjunction (nodes_of arms) span) bound) ≡ false)
    × AreMarked total (modes_of predicates) (Disjunction (nodes_of arms) span) (put_mid at size flags new) bound
arm_stops predicates arms index arm facts flags new at end size bound room item end_is size_is asked total span known during =
    let rest = nodes_of (drop (index + 1) arms) in
    let cut = rest_nodes arms index arm room item in
    let k = subst (λ n. AreKnownFrom total (modes_of predicates) (all_subgoals n) facts at) cut known in
    let d = subst (λ n. DuringArms total (modes_of predicates) (nodes_of arms) bound n flags at) cut during in
    let (is, told) = asked total (facts_of_next total (modes_of predicates) arm rest facts at end k end_is)
    (arm_marked total (modes_of predicates) (nodes_of arms) bound arm rest flags at end d end_is) in
    arm_stuck total (modes_of predicates) (nodes_of arms) span bound arm rest flags at size new d size_is is told.0

pub arm_goes : (predicates : List PredDecl) (arms : List Node) (index : ℕ) (arm : Node) (facts : List Facts) (flags new : List Bool) (at end size : ℕ) (bound : Bound)
    → index < length arms → arm ≡ slice_index_or arms index arm → end ≡ at + length (parts_of arm) → size ≡ length (parts_of arm)
    → Asked predicates arm (slice_range facts at end) (slice_range flags at end) new bound true → (total : ℕ → ℕ)
    → AreKnownFrom total (modes_of predicates) (all_subgoals (nodes_of (drop index arms))) facts at
    → DuringArms total (modes_of predicates) (nodes_of arms) bound (nodes_of (drop index arms)) flags at
    → AreKnownFrom total (modes_of predicates) (all_subgoals (nodes_of (drop (index + 1) arms))) facts end
    × DuringArms total (modes_of predicates) (nodes_of arms) bound (nodes_of (drop (index + 1) arms)) (put_mid at size flags new) end
arm_goes predicates arms index arm facts flags new at end size bound room item end_is size_is asked total known during =
    let rest = nodes_of (drop (index + 1) arms) in
    let cut = rest_nodes arms index arm room item in
    let k = subst (λ n. AreKnownFrom total (modes_of predicates) (all_subgoals n) facts at) cut known in
    let d = subst (λ n. DuringArms total (modes_of predicates) (nodes_of arms) bound n flags at) cut during in
    let (is, told) = asked total (facts_of_next total (modes_of predicates) arm rest facts at end k end_is)
    (arm_marked total (modes_of predicates) (nodes_of arms) bound arm rest flags at end d end_is) in (
      subst (λ n. AreKnownFrom total (modes_of predicates) (all_subgoals rest) facts n) (sym end_is) (next_known total (modes_of predicates) arm rest facts at k).others_known,
      subst (λ n. DuringArms total (modes_of predicates) (nodes_of arms) bound rest (put_mid at size flags new) n) (sym end_is)
          (arm_on total (modes_of predicates) (nodes_of arms) bound arm rest flags at size new d size_is is told.0),
    )

-- a goal in parallel

pub beside_stops : (predicates : List PredDecl) (goals : List Node) (index : ℕ) (goal : Node) (facts : List Facts) (flags new : List Bool) (at end size : ℕ) (bound now : Bound)
    → index < length goals → goal ≡ slice_index_or goals index goal → end ≡ at + length (parts_of goal) → size ≡ length (parts_of goal)
    → Asked predicates goal (slice_range facts at end) (slice_range flags at end) new now false → (total : ℕ → ℕ) (span : Span)
    → AreKnownFrom total (modes_of predicates) (all_subgoals (nodes_of (drop index goals))) facts at
    → DuringBeside total (modes_of predicates) (nodes_of goals) bound (nodes_of (drop index goals)) flags at now
    → (is_ready (from total (modes_of predicates) (Parallel (nodes_of goals) span) bound) ≡ false)
    × AreMarked total (modes_of predicates) (Parallel (nodes_of goals) span) (put_mid at size flags new) bound
beside_stops predicates goals index goal facts flags new at end size bound now room item end_is size_is asked total span known during =
    let rest = nodes_of (drop (index + 1) goals) in
    let cut = rest_nodes goals index goal room item in
    let k = subst (λ n. AreKnownFrom total (modes_of predicates) (all_subgoals n) facts at) cut known in
    let d = subst (λ n. DuringBeside total (modes_of predicates) (nodes_of goals) bound n flags at now) cut during in
    let (is, told) = asked total (facts_of_next total (modes_of predicates) goal rest facts at end k end_is)
    (beside_marked total (modes_of predicates) (nodes_of goals) bound goal rest flags at end now d end_is) in
    stuck_beside total (modes_of predicates) (nodes_of goals) span bound goal rest flags at size now new d size_is is told.0

pub beside_goes : (predicates : List PredDecl) (goals : List Node) (index : ℕ) (goal : Node) (facts : List Facts) (flags new : List Bool) (at end size : ℕ) (bound : Bound) (old : List ℕ)
    (found : Facts) → index < length goals → goal ≡ slice_index_or goals index goal → end ≡ at + length (parts_of goal) → size ≡ length (parts_of goal)
    → suc (end - 1) ≡ at + length (parts_of goal) → found ≡ slice_index_or facts (end - 1) found
    → Asked predicates goal (slice_range facts at end) (slice_range flags at end) new (among old) true → (total : ℕ → ℕ)
    → AreKnownFrom total (modes_of predicates) (all_subgoals (nodes_of (drop index goals))) facts at
    → DuringBeside total (modes_of predicates) (nodes_of goals) bound (nodes_of (drop index goals)) flags at (among old)
    → AreKnownFrom total (modes_of predicates) (all_subgoals (nodes_of (drop (index + 1) goals))) facts end
    × DuringBeside total (modes_of predicates) (nodes_of goals) bound (nodes_of (drop (index + 1) goals)) (put_mid at size flags new) end (among (all_behind old found.binds))
beside_goes predicates goals index goal facts flags new at end size bound old found room item end_is size_is own_is found_is asked total known during =
    let rest = nodes_of (drop (index + 1) goals) in
    let cut = rest_nodes goals index goal room item in
    let k = subst (λ n. AreKnownFrom total (modes_of predicates) (all_subgoals n) facts at) cut known in
    let d = subst (λ n. DuringBeside total (modes_of predicates) (nodes_of goals) bound n flags at (among old)) cut during in
    let (is, told) = asked total (facts_of_next total (modes_of predicates) goal rest facts at end k end_is)
    (beside_marked total (modes_of predicates) (nodes_of goals) bound goal rest flags at end (among old) d end_is) in (
      subst (λ n. AreKnownFrom total (modes_of predicates) (all_subgoals rest) facts n) (sym end_is) (next_known total (modes_of predicates) goal rest facts at k).others_known,
      subst (λ n. DuringBeside total (modes_of predicates) (nodes_of goals) bound rest (put_mid at size flags new) n (among (all_behind old found.binds))) (sym end_is)
          (subst (λ b. DuringBeside total (modes_of predicates) (nodes_of goals) bound rest (put_mid at size flags new) (at + length (parts_of goal)) b)
          (sym (bound_by_next total (modes_of predicates) goal rest facts at (end - 1) old found k own_is found_is))
          (beside_on total (modes_of predicates) (nodes_of goals) bound goal rest flags at size (among old) new d size_is is told.0)),
    )

-- a link of a chain

pub link_stops : (predicates : List PredDecl) (goal last condition then_part else_part : Node) (span : Span) (facts : List Facts) (flags new : List Bool) (at end next size : ℕ) (bound : Bound)
    (found : Facts) → last ≡ Conditional condition then_part else_part span → end ≡ at + length (parts_of last) → slice_index_or flags (end - 1) false ≡ false
    → next ≡ at + length (parts_of condition) + length (parts_of then_part) → next ≡ at + size → end - 1 ≡ next + length (parts_of else_part)
    → found ≡ slice_index_or facts (end - 1) found
    → AskedArm predicates condition then_part (slice_range facts at next) found (slice_range flags at next) new bound false → (total : ℕ → ℕ)
    → IsOpen total (modes_of predicates) goal last flags facts at bound → Told total (modes_of predicates) goal (put_mid at size flags new) bound false
link_stops predicates goal last condition then_part else_part span facts flags new at end next size bound found last_is end_is mark next_is size_is own_is found_is asked total open_chain =
    let o = open_link total (modes_of predicates) goal last condition then_part else_part span flags facts at end next bound open_chain last_is end_is mark next_is in
    let (is, marked) = asked total else_part span o.arm_known
    (link_facts total (modes_of predicates) goal condition then_part else_part span flags facts at next (end - 1) bound found o own_is found_is)
    (arm_marks total (modes_of predicates) goal condition then_part else_part span flags facts at next bound o) in
    link_stuck total (modes_of predicates) goal condition then_part else_part span flags facts at next size bound new o size_is is marked

pub link_goes : (predicates : List PredDecl) (goal last condition then_part else_part : Node) (span : Span) (facts : List Facts) (flags new : List Bool) (at end next size : ℕ) (bound : Bound)
    (found : Facts) → last ≡ Conditional condition then_part else_part span → end ≡ at + length (parts_of last) → slice_index_or flags (end - 1) false ≡ false
    → next ≡ at + length (parts_of condition) + length (parts_of then_part) → next ≡ at + size → end - 1 ≡ next + length (parts_of else_part)
    → found ≡ slice_index_or facts (end - 1) found
    → AskedArm predicates condition then_part (slice_range facts at next) found (slice_range flags at next) new bound true → (total : ℕ → ℕ)
    → IsOpen total (modes_of predicates) goal last flags facts at bound → IsOpen total (modes_of predicates) goal else_part (put_mid at size flags new) facts next bound
link_goes predicates goal last condition then_part else_part span facts flags new at end next size bound found last_is end_is mark next_is size_is own_is found_is asked total open_chain =
    let o = open_link total (modes_of predicates) goal last condition then_part else_part span flags facts at end next bound open_chain last_is end_is mark next_is in
    let (is, marked) = asked total else_part span o.arm_known
    (link_facts total (modes_of predicates) goal condition then_part else_part span flags facts at next (end - 1) bound found o own_is found_is)
    (arm_marks total (modes_of predicates) goal condition then_part else_part span flags facts at next bound o) in
    link_on total (modes_of predicates) goal condition then_part else_part span flags facts at next size bound new o size_is is marked

-- the last else part

pub last_stops : (predicates : List PredDecl) (goal last : Node) (facts : List Facts) (flags new : List Bool) (at end size : ℕ) (bound : Bound) → end ≡ at + length (parts_of last)
    → size ≡ length (parts_of last) → Asked predicates last (slice_range facts at end) (slice_range flags at end) new bound false → (total : ℕ → ℕ)
    → IsOpen total (modes_of predicates) goal last flags facts at bound → Told total (modes_of predicates) goal (put_mid at size flags new) bound false
last_stops predicates goal last facts flags new at end size bound end_is size_is asked total o =
    last_stuck total (modes_of predicates) goal last flags facts at size bound new o size_is
    (asked total (last_facts total (modes_of predicates) goal last flags facts at end bound o end_is).first_known (last_marks total (modes_of predicates) goal last flags facts at end bound o end_is))

pub last_goes : (predicates : List PredDecl) (goal last : Node) (facts : List Facts) (flags new : List Bool) (at end size : ℕ) (bound : Bound) → end ≡ at + length (parts_of last)
    → size ≡ length (parts_of last) → Asked predicates last (slice_range facts at end) (slice_range flags at end) new bound true → (total : ℕ → ℕ)
    → IsOpen total (modes_of predicates) goal last flags facts at bound → IsReached total (modes_of predicates) goal (put_mid at size flags new) facts end bound
last_goes predicates goal last facts flags new at end size bound end_is size_is asked total o =
    last_ready total (modes_of predicates) goal last flags facts at end size bound new o end_is size_is
    (asked total (last_facts total (modes_of predicates) goal last flags facts at end bound o end_is).first_known (last_marks total (modes_of predicates) goal last flags facts at end bound o end_is))

-- a goal of a conjunction

pub member_stays : (predicates : List PredDecl) (goal : Node) (facts : List Facts) (flags new : List Bool) (at end size : ℕ) (bound after : List ℕ) → end ≡ at + length (parts_of goal)
    → size ≡ length (parts_of goal) → after ≡ bound → Asked predicates goal (slice_range facts at end) (slice_range flags at end) new (among bound) false
    → AsksOne predicates goal facts flags (put_mid at size flags new) at bound after false
member_stays predicates goal facts flags new at end size bound after end_is size_is same asked total goals rest start before behind waiting known there placed at_is g =
    let modes = modes_of predicates in
    let a = asking total modes goals start waiting goal rest flags (among bound) before behind at there placed at_is g in
    let (is, told) = asked total (facts_of_next total modes goal (nodes_of rest) facts at end (known_from total modes goals rest waiting goal at facts there placed at_is known) end_is)
    (marks_of total modes goals start waiting goal flags (among bound) before behind at end a end_is) in (
      subst (λ l. AreGone total modes (nodes_of goals) start (put_mid at size flags new) (among l) (before ++ waiting ∷ behind)) (sym same)
          (stays_there total modes goals start waiting goal flags new (among bound) before behind at size a told.0 size_is told.1),
      same,
      subst (λ l. is_ready (from total modes goal (among l)) ≡ false) (sym same) is,
    )

pub member_goes : (predicates : List PredDecl) (goal : Node) (facts : List Facts) (flags new : List Bool) (at end own size : ℕ) (bound after : List ℕ) (found : Facts)
    → end ≡ at + length (parts_of goal) → size ≡ length (parts_of goal) → suc own ≡ at + length (parts_of goal) → found ≡ slice_index_or facts own found → after ≡ all_behind bound found.binds
    → Asked predicates goal (slice_range facts at end) (slice_range flags at end) new (among bound) true → AsksOne predicates goal facts flags (put_mid at size flags new) at bound after true
member_goes predicates goal facts flags new at end own size bound after found end_is size_is own_is found_is set asked total goals rest start before behind waiting known there placed at_is g =
    let modes = modes_of predicates in
    let k = known_from total modes goals rest waiting goal at facts there placed at_is known in
    let a = asking total modes goals start waiting goal rest flags (among bound) before behind at there placed at_is g in
    let (is, told) = asked total (facts_of_next total modes goal (nodes_of rest) facts at end k end_is) (marks_of total modes goals start waiting goal flags (among bound) before behind at end a end_is) in
    subst (λ b. AreGone total modes (nodes_of goals) start (put_mid at size flags new) b (before ++ behind))
    (sym (ap (λ l. among l) set ∙ bound_by_next total modes goal (nodes_of rest) facts at own bound found k own_is found_is))
    (goes_there total modes goals start waiting goal flags new (among bound) before behind at size a told.0 size_is told.1 is)

-- what is listed behind it

step_by : (total : ℕ → ℕ) (modes : ℕ → List ModeDecl) (goals : List Node) (goal : Node) (start : Bound) (flags : List Bool) (bound after : List ℕ) (kept : List Waiting) (waiting : Waiting)
    (others : List Waiting) (rest : List Node) (index : ℕ) (ready : Bool) → drop waiting.index goals ≡ goal ∷ rest → length kept ≤ index
    → (length kept ≡ index → AreStuck total modes goals kept (among bound)) → AskGives total modes goals goal start flags bound after kept waiting others ready
    → AreGone total modes (nodes_of goals) start flags (among after) (listed_if_left ready waiting kept ++ others)
    × (length (listed_if_left ready waiting kept) ≡ index + 1 → AreStuck total modes goals (listed_if_left ready waiting kept) (among after))
step_by total modes goals goal start flags bound after kept waiting others rest index true there few stuck gone = (gone, λ same. absurd (omega (arith, same, few)))
step_by total modes goals goal start flags bound after kept waiting others rest index false there few stuck (gone, same_bound, not_ready) = (
  subst (λ l. AreGone total modes (nodes_of goals) start flags (among after) l) (sym (append_assoc kept (waiting ∷ []) others)) gone,
  λ same. stuck-append total modes goals kept waiting (among after)
      (subst (λ b. AreStuck total modes goals kept (among b)) (sym same_bound) (stuck (omega (arith, same, length-append kept (waiting ∷ [])))))
      (λ other behind is. subst (λ g. is_ready (from total modes g (among after)) ≡ false) (goal_is goal other rest behind (sym there ∙ is)) not_ready),
)
  where
    goal_is : (one other : Node) (rest behind : List Node) → one ∷ rest ≡ other ∷ behind → one ≡ other
    goal_is one other rest behind same = cc

pub member_asked : (predicates : List PredDecl) (goals : List Node) (goal : Node) (facts : List Facts) (flags new : List Bool) (bound after : List ℕ) (kept left : List Waiting) (waiting default : Waiting)
    (index : ℕ) (ready : Bool) → index < length left → waiting ≡ slice_index_or left index default → ArePlaced goals left → goal ≡ slice_index_or goals waiting.index goal
    → length kept ≤ index → AsksOne predicates goal facts flags new waiting.at bound after ready → (total : ℕ → ℕ) (start : Bound)
    → AreKnown total (modes_of predicates) (all_subgoals (nodes_of goals)) facts
    → AreGone total (modes_of predicates) (nodes_of goals) start flags (among bound) (kept ++ drop index left)
    → (length kept ≡ index → AreStuck total (modes_of predicates) goals kept (among bound))
    → AreGone total (modes_of predicates) (nodes_of goals) start new (among after) (listed_if_left ready waiting kept ++ drop (index + 1) left)
    × (length (listed_if_left ready waiting kept) ≡ index + 1 → AreStuck total (modes_of predicates) goals (listed_if_left ready waiting kept) (among after))
member_asked predicates goals goal facts flags new bound after kept left waiting default index ready room item placed goal_item few asks total start known gone stuck =
    let modes = modes_of predicates in
    let cut = listed_cut left index waiting default room item in
    let here = placed_at goals index left waiting (drop (index + 1) left) placed cut in
    let there : drop waiting.index goals ≡ goal ∷ drop (waiting.index + 1) goals = goals_cut goals waiting.index goal here.0 goal_item in
    step_by total modes goals goal start new bound after kept waiting (drop (index + 1) left) (drop (waiting.index + 1) goals) index ready there few stuck
    (asks total goals (drop (waiting.index + 1) goals) start kept (drop (index + 1) left) waiting known there here refl
    (subst (λ l. AreGone total modes (nodes_of goals) start flags (among bound) (kept ++ l)) cut gone))
