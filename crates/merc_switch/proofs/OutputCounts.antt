-- In how many disjuncts outputs occur.
use Rattle.std.specs.Prelude.{◌≡◌, ◌<◌, ℕ, zero, suc, ◌+◌, ◌-◌, ◌==◌, ◌&&◌, ◌||◌, Bool, true, false, nat_lt, List, [], ◌∷◌, ◌++◌, length, map, take, drop, Option, Some, None, if◌then◌else◌, refl}
use Rattle.std.specs.List.{filter, list_all, slice_index_or}
use Rattle.std.proofs.Common.{◌∙◌, ap, sym, subst, arith}
use Rattle.std.proofs.lemmas.Bool.Decides.{Decides-eqb, Decides-ltb}
use Rattle.std.proofs.lemmas.List.{length-append, length-drop, take_all, append_assoc, map-append}
use Rattle.merc_graded_tree.specs.Nodes.{Node, nodes_of, outputs_of}
use Rattle.merc_graded_tree.specs.Variables.{in_node, in_nodes}
use Rattle.merc_order.specs.Bound.{among}
use Rattle.merc_grading.specs.Switches.{symbol_at, is_there, grouped}
use Rattle.merc_switch_choice.specs.declared.counts.VarCounts.{VarCounts}
use Rattle.merc_switch_choice.specs.Counting.{one_if, counting, all_counting, count_of}
use Rattle.merc_switch.specs.declared.handing.Handed.{Handed}
use Rattle.merc_switch.specs.declared.tasks.Task.{Task}
use Rattle.merc_switch.specs.Selections.{has_output, CountsOutputs, MayCount, MayCountAll}
use Rattle.merc_switch.specs.Handing.{IsHanded}
use Rattle.merc_switch_choice.proofs.CountLaws.{grouped_counting}
use Rattle.merc_switch_choice.proofs.Members.{or_true}

-- an output occurs in disjuncts where its count is above 0

above_if : (b : Bool) (count : ℕ) (above : Bool) → nat_lt 0 count ≡ above → nat_lt 0 (one_if b + count) ≡ (b || above)
above_if true count above same = (Decides-ltb 0 (1 + count)).1 (omega arith)
above_if false count above same = let whole : 0 + count ≡ count = omega arith in ap (nat_lt 0) whole ∙ same

either : (a b c : Bool) → ((a && b) || (a && c)) ≡ (a && (b || c))
either true b c = refl
either false b c = refl

none_there : (a : Bool) → false ≡ (a && false)
none_there true = refl
none_there false = refl

counted_above : (outputs : List ℕ) (v : ℕ) (goals : List Node) → nat_lt 0 (counting (has_output outputs v) goals) ≡ (among outputs v && in_nodes (nodes_of goals) v)
counted_above outputs v [] = none_there (among outputs v)
counted_above outputs v (first ∷ rest) =
    above_if (has_output outputs v first) (counting (has_output outputs v) rest) (among outputs v && in_nodes (nodes_of rest) v) (counted_above outputs v rest) ∙ either (among outputs v) (in_node first v) (in_nodes (nodes_of rest) v)

own_filter : (all : List ℕ) (test : ℕ → Bool) (some : List ℕ) → ((v : ℕ) → among some v ≡ true → among all v ≡ true) → filter (λ v. among all v && test v) some ≡ filter test some
own_filter all test [] within = refl
own_filter all test (first ∷ rest) within =
    let there : among all first ≡ true = within first (ap (λ b. b || among rest first) ((Decides-eqb first first).1 refl)) in
    let others : List ℕ = filter (λ v. among all v && test v) rest in
    ap (λ b. if (b && test first) then first ∷ others else others) there
    ∙ ap (λ l. if test first then first ∷ l else l) (own_filter all test rest (λ v h. within v (ap (λ b. (v == first) || b) h ∙ or_true (v == first))))

same_filter : (one other : ℕ → Bool) (all : List ℕ) → ((v : ℕ) → one v ≡ other v) → filter one all ≡ filter other all
same_filter one other [] same = refl
same_filter one other (first ∷ rest) same =
    ap (λ b. if b then first ∷ filter one rest else filter one rest) (same first) ∙ ap (λ l. if other first then first ∷ l else l) (same_filter one other rest same)

-- The outputs that have a count above 0 are those that occur.
pub kept_counted : (outputs : List ℕ) (counts : VarCounts) (goals : List Node) (kept : List ℕ) → CountsOutputs outputs counts goals
    → kept ≡ filter (λ v. nat_lt 0 (count_of counts v)) outputs → kept ≡ filter (λ v. in_nodes (nodes_of goals) v) outputs
kept_counted outputs counts goals kept counted is =
    is ∙ same_filter (λ v. nat_lt 0 (count_of counts v)) (λ v. among outputs v && in_nodes (nodes_of goals) v) outputs (λ v. ap (nat_lt 0) (counted v) ∙ counted_above outputs v goals)
    ∙ own_filter outputs (λ v. in_nodes (nodes_of goals) v) outputs (λ v h. h)

pub kept_among : (outputs : List ℕ) (counts : VarCounts) (variables kept : List ℕ) → ((v : ℕ) → among variables v ≡ nat_lt 0 (count_of counts v)) → kept ≡ filter (λ v. among variables v) outputs
    → kept ≡ filter (λ v. nat_lt 0 (count_of counts v)) outputs
kept_among outputs counts variables kept are is = is ∙ same_filter (λ v. among variables v) (λ v. nat_lt 0 (count_of counts v)) outputs are

-- the arms of a switch have the counts together
pub counted_together : (whole : Node) (counts : Option VarCounts) (variable : ℕ) (disjuncts : List Node) (groups : List (List Node)) → list_all (λ disjunct. is_there (symbol_at variable disjunct)) disjuncts ≡ true
    → groups ≡ map (λ arm. arm.1) (grouped variable disjuncts) → MayCount whole counts disjuncts → MayCountAll whole counts groups
counted_together whole None variable disjuncts groups all are counted = tt
counted_together whole (Some counts) variable disjuncts groups all are counted = λ v.
    counted v ∙ sym (grouped_counting variable disjuncts (has_output (outputs_of whole) v) all) ∙ ap (λ l. all_counting (has_output (outputs_of whole) v) l) (sym are)

-- What is left of the counts is that of one group, once those before it and behind it are taken out.

all_parts : (groups : List (List Node)) (index : ℕ) (test : Node → Bool) → index < length groups
    → all_counting test groups ≡ all_counting test (take index groups) + (counting test (slice_index_or groups index []) + all_counting test (drop (suc index) groups))
all_parts [] index test within = absurd (omega (arith, within))
all_parts (first ∷ rest) zero test within = omega arith
all_parts (first ∷ rest) (suc index) test within = let h = all_parts rest index test (omega (arith, within)) in omega (arith, h)

pub one_left : (groups : List (List Node)) (index : ℕ) (test : Node → Bool) (before between after : ℕ) → index < length groups → before ≡ all_counting test groups
    → between ≡ before - all_counting test (take index groups) → after ≡ between - all_counting test (drop (index + 1) groups) → after ≡ counting test (slice_index_or groups index [])
one_left groups index test before between after within whole first second =
    let parts = all_parts groups index test within in
    let next : all_counting test (drop (index + 1) groups) ≡ all_counting test (drop (suc index) groups) = (let e : index + 1 ≡ suc index = omega arith in ap (λ i. all_counting test (drop i groups)) e) in
    omega (arith, parts, whole, first, second, next)

-- all that is behind an index
pub behind_index : (groups : List (List Node)) (index : ℕ) → take (length groups - index) (drop index groups) ≡ drop index groups
behind_index groups index = let size = length-drop index groups in take_all (length groups - index) (drop index groups) (omega (arith, size))

-- the last of the groups is taken out

pub planned_on : (arm : List Node → Task) (rest before : List (List Node)) (last : List Node) (task : Task) (now tasks whole : List Task) → before ≡ rest ++ last ∷ [] → task ≡ arm last → now ≡ task ∷ tasks
    → map arm before ++ tasks ≡ whole → map arm rest ++ now ≡ whole
planned_on arm rest before last task now tasks whole is made put so_far =
    ap (λ l. map arm rest ++ l) (put ∙ ap (λ t. t ∷ tasks) made) ∙ sym (append_assoc (map arm rest) (arm last ∷ []) tasks) ∙ ap (λ l. l ++ tasks) (sym (map-append arm rest (last ∷ [])))
    ∙ ap (λ l. map arm l ++ tasks) (sym is) ∙ so_far

pub at_last : (groups : List (List Node)) (last : List Node) → slice_index_or (groups ++ last ∷ []) (length groups) [] ≡ last
at_last [] last = refl
at_last (first ∷ rest) last = at_last rest last

before_last : (groups : List (List Node)) (last : List Node) (index : ℕ) → index < length groups → slice_index_or (groups ++ last ∷ []) index [] ≡ slice_index_or groups index []
before_last [] last index within = absurd (omega (arith, within))
before_last (first ∷ rest) last zero within = refl
before_last (first ∷ rest) last (suc index) within = before_last rest last index (omega (arith, within))

pub one_more : (groups before : List (List Node)) (last : List Node) → before ≡ groups ++ last ∷ [] → length before ≡ suc (length groups)
one_more groups before last is = let longer : length before ≡ length (groups ++ last ∷ []) = ap length is in omega (arith, longer, length-append groups (last ∷ []))

pub handed_on : (whole : Node) (handed : Option Handed) (groups before : List (List Node)) (last : List Node) → before ≡ groups ++ last ∷ [] → IsHanded whole handed before → IsHanded whole handed groups
handed_on whole None groups before last is handed = tt
handed_on whole (Some kept) groups before last is handed = λ within.
    let longer = one_more groups before last is in
    subst (λ d. CountsOutputs (outputs_of whole) kept.counts d) (ap (λ l. slice_index_or l kept.index []) is ∙ before_last groups last kept.index within) (handed (omega (arith, within, longer)))
