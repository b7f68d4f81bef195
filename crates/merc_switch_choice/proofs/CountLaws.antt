-- How many disjuncts have something.
use Rattle.std.specs.Prelude.{◌≡◌, ◌≤◌, ◌<◌, ℕ, zero, suc, ◌+◌, ◌-◌, Bool, true, false, ◌==◌, ◌&&◌, ◌||◌, nat_eq, nat_lt, List, [], ◌∷◌, ◌++◌, length, map, reverse, insert, remove, Option, Some, None, if◌then◌else◌, refl}
use Rattle.std.specs.List.{AllByRecursion, IsDistinct, list_all, slice_index_or}
use Rattle.std.specs.Map.{lookup, keys_of}
use Rattle.std.proofs.Common.{◌∙◌, ap, sym, subst, cond, arith}
use Rattle.std.proofs.lemmas.Bool.Decides.{Decides-eqb, Decides-ltb, nat_tests}
use Rattle.std.proofs.lemmas.List.{append_assoc, append-nil, reverse-append}
use Rattle.merc_goal_tree.specs.declared.goal.Symbol.{Symbol}
use Rattle.merc_graded_tree.specs.Nodes.{Node}
use Rattle.merc_order.specs.Bound.{among}
use Rattle.merc_grading.specs.Known.{same_symbol}
use Rattle.merc_grading.specs.Switches.{Group, symbol_at, is_there, grouped}
use Rattle.merc_switch_choice.specs.Arms.{joined_in}
use Rattle.merc_switch_choice.specs.Counting.{one_if, occurrences, counting, all_counting, number_of}
use Rattle.merc_switch_choice.proofs.ArmLaws.{grouped_some}
use Rattle.merc_switch_choice.proofs.Tests.{and_first, and_second}

-- a variable that is one key stands once among the keys

absent : (v : ℕ) (keys : List ℕ) → AllByRecursion (λ key. nat_eq v key ≡ false) keys → occurrences keys v ≡ 0
absent v [] none = refl
absent v (key ∷ keys) none = let one : one_if (v == key) ≡ 0 = ap one_if none.0 in let others = absent v keys none.1 in omega (arith, one, others)

once_if : (v : ℕ) (first : ℕ × Symbol) (b : Bool) (others : ℕ) (there : Option Symbol) → (b ≡ true → others ≡ 0) → others ≡ one_if (is_there there) → one_if b + others ≡ one_if (is_there (cond b (Some first.1) there))
once_if v first true others there none same = let h = none refl in omega (arith, h)
once_if v first false others there none same = omega (arith, same)

pub key_once : (v : ℕ) (entries : List (ℕ × Symbol)) → IsDistinct nat_eq (keys_of entries) → occurrences (keys_of entries) v ≡ one_if (is_there (lookup (nat_eq v) entries))
unfolding IsDistinct
key_once v [] distinct = refl
key_once v (first ∷ rest) distinct =
    once_if v first (v == first.0) (occurrences (keys_of rest) v) (lookup (nat_eq v) rest)
    (λ e. let same : v ≡ first.0 = (Decides-eqb v first.0).0 e in absent v (keys_of rest) (subst (λ k. AllByRecursion (λ key. nat_eq k key ≡ false) (keys_of rest)) (sym same) distinct.0))
    (key_once v rest distinct.1)

-- a variable that has a count above 0 is a key

counted_if : (b : Bool) (first : ℕ × ℕ) (there : Bool) (other : Option ℕ) → (there && nat_lt 0 (number_of other)) ≡ nat_lt 0 (number_of other)
    → ((b || there) && nat_lt 0 (number_of (cond b (Some first.1) other))) ≡ nat_lt 0 (number_of (cond b (Some first.1) other))
counted_if true first there other same = refl
counted_if false first there other same = same

pub counted_key : (v : ℕ) (entries : List (ℕ × ℕ)) → (among (keys_of entries) v && nat_lt 0 (number_of (lookup (nat_eq v) entries))) ≡ nat_lt 0 (number_of (lookup (nat_eq v) entries))
counted_key v [] = refl
counted_key v (first ∷ rest) = counted_if (v == first.0) first (among (keys_of rest) v) (lookup (nat_eq v) rest) (counted_key v rest)

-- a variable that stands among distinct ones stands there once

once_there : (b there : Bool) (others : ℕ) → (b ≡ true → others ≡ 0) → others ≡ one_if there → one_if b + others ≡ one_if (b || there)
once_there true there others none same = let h = none refl in omega (arith, h)
once_there false there others none same = omega (arith, same)

pub once_among : (v : ℕ) (variables : List ℕ) → IsDistinct nat_eq variables → occurrences variables v ≡ one_if (among variables v)
unfolding IsDistinct
once_among v [] distinct = refl
once_among v (first ∷ rest) distinct =
    once_there (v == first) (among rest v) (occurrences rest v)
    (λ e. let same : v ≡ first = (Decides-eqb v first).0 e in absent v rest (subst (λ k. AllByRecursion (λ key. nat_eq k key ≡ false) rest) (sym same) distinct.0))
    (once_among v rest distinct.1)

-- all disjuncts pass a test where as many do as there are

counting_within : (disjuncts : List Node) (test : Node → Bool) → counting test disjuncts ≤ length disjuncts
counting_within [] test = omega arith
counting_within (first ∷ rest) test = let h = counting_within rest test in let one = at_most (test first) in omega (arith, h, one)
  where
    at_most : (b : Bool) → one_if b ≤ 1
    at_most true = omega arith
    at_most false = omega arith

both_more : (count size : ℕ) → ((1 + count) == suc size) ≡ (count == size)
both_more count size = grind (arith, nat_tests)

too_few : (count size : ℕ) → count ≤ size → ((0 + count) == suc size) ≡ false
too_few count size less = grind (arith, nat_tests)

all_if : (b : Bool) (count size : ℕ) (all : Bool) → count ≤ size → (count == size) ≡ all → ((one_if b + count) == suc size) ≡ (b && all)
all_if true count size all less same = both_more count size ∙ same
all_if false count size all less same = too_few count size less

pub all_counted : (disjuncts : List Node) (test : Node → Bool) → (counting test disjuncts == length disjuncts) ≡ list_all test disjuncts
all_counted [] test = refl
all_counted (first ∷ rest) test = all_if (test first) (counting test rest) (length rest) (list_all test rest) (counting_within rest test) (all_counted rest test)

-- the groups of disjuncts that all split a variable have the counts of all together

abbrev lists : List Group → List (List Node)
lists groups = map (λ group. group.1) groups

counting_last : (disjuncts : List Node) (d : Node) (test : Node → Bool) → counting test (disjuncts ++ d ∷ []) ≡ counting test disjuncts + one_if (test d)
counting_last [] d test = omega arith
counting_last (first ∷ rest) d test = let h = counting_last rest d test in omega (arith, h)

joined_if : (b : Bool) (s : Symbol) (d : Node) (group : Group) (groups : List Group) (test : Node → Bool)
    → all_counting test (lists (joined_in s d groups)) ≡ all_counting test (lists groups) + one_if (test d)
    → all_counting test (lists (if b then (group.0, group.1 ++ d ∷ []) ∷ groups else group ∷ joined_in s d groups)) ≡ all_counting test (lists (group ∷ groups)) + one_if (test d)
joined_if true s d group groups test h = let one = counting_last group.1 d test in omega (arith, one)
joined_if false s d group groups test h = omega (arith, h)

counting_joined : (s : Symbol) (d : Node) (groups : List Group) (test : Node → Bool) → all_counting test (lists (joined_in s d groups)) ≡ all_counting test (lists groups) + one_if (test d)
counting_joined s d [] test = omega arith
counting_joined s d (group ∷ groups) test = joined_if (same_symbol s group.0) s d group groups test (counting_joined s d groups test)

symbol_is : {A : Type 0} (o : Option Symbol) → is_there o ≡ true → ((s : Symbol) → o ≡ Some s → A) → A
symbol_is None there f = absurd (cc)
symbol_is (Some s) there f = f s refl

grouped_on : (v : ℕ) (done rest : List Node) (test : Node → Bool) → list_all (λ disjunct. is_there (symbol_at v disjunct)) rest ≡ true
    → all_counting test (lists (grouped v (done ++ rest))) ≡ all_counting test (lists (grouped v done)) + counting test rest
grouped_on v done [] test all = let same : all_counting test (lists (grouped v (done ++ []))) ≡ all_counting test (lists (grouped v done)) = ap (λ l. all_counting test (lists (grouped v l))) (append-nil done) in omega (arith, same)
grouped_on v done (d ∷ rest) test all =
    symbol_is (symbol_at v d) (and_first (is_there (symbol_at v d)) (list_all (λ disjunct. is_there (symbol_at v disjunct)) rest) all) (λ s h.
    let moved : all_counting test (lists (grouped v (done ++ d ∷ rest))) ≡ all_counting test (lists (grouped v ((done ++ d ∷ []) ++ rest))) = ap (λ l. all_counting test (lists (grouped v l))) (sym (append_assoc done (d ∷ []) rest)) in
    let on = grouped_on v (done ++ d ∷ []) rest test (and_second (is_there (symbol_at v d)) (list_all (λ disjunct. is_there (symbol_at v disjunct)) rest) all) in
    let more : all_counting test (lists (grouped v (done ++ d ∷ []))) ≡ all_counting test (lists (joined_in s d (grouped v done))) = ap (λ l. all_counting test (lists l)) (grouped_some v done d s h) in
    let one = counting_joined s d (grouped v done) test in
    omega (arith, moved, on, more, one))

pub grouped_counting : (v : ℕ) (disjuncts : List Node) (test : Node → Bool) → list_all (λ disjunct. is_there (symbol_at v disjunct)) disjuncts ≡ true
    → all_counting test (lists (grouped v disjuncts)) ≡ counting test disjuncts
grouped_counting v disjuncts test all = let on = grouped_on v [] disjuncts test all in omega (arith, on)

-- one group and the others

pub without_one : (groups : List (List Node)) (index : ℕ) (group : List Node) (test : Node → Bool) → index < length groups → group ≡ slice_index_or groups index group
    → all_counting test groups ≡ counting test group + all_counting test (remove groups index)
without_one [] index group test within is = absurd (omega (arith, within))
without_one (first ∷ rest) zero group test within is = let same : counting test group ≡ counting test first = ap (λ g. counting test g) is in omega (arith, same)
without_one (first ∷ rest) (suc index) group test within is = let h = without_one rest index group test (omega (arith, within)) is in omega (arith, h)

pub back_in : (groups : List (List Node)) (index : ℕ) (group : List Node) → index < length groups → group ≡ slice_index_or groups index group → insert (remove groups index) index group ≡ groups
back_in [] index group within is = absurd (omega (arith, within))
back_in (first ∷ rest) zero group within is = ap (λ g. g ∷ rest) is
back_in (first ∷ rest) (suc index) group within is = ap (λ l. first ∷ l) (back_in rest index group (omega (arith, within)) is)

pub last_out : (groups : List (List Node)) (last : List Node) (test : Node → Bool) → all_counting test (groups ++ last ∷ []) ≡ all_counting test groups + counting test last
last_out [] last test = omega arith
last_out (first ∷ rest) last test = let h = last_out rest last test in omega (arith, h)

-- one of several disjuncts

pub one_of : (disjuncts : List Node) (index : ℕ) (one : Node) → index < length disjuncts → one ≡ slice_index_or disjuncts index one → (test : Node → Bool) → list_all test disjuncts ≡ true → test one ≡ true
one_of [] index one within is test all = absurd (omega (arith, within))
one_of (first ∷ rest) zero one within is test all = ap test is ∙ and_first (test first) (list_all test rest) all
one_of (first ∷ rest) (suc index) one within is test all = one_of rest index one (omega (arith, within)) is test (and_second (test first) (list_all test rest) all)

pub none_of : (disjuncts : List Node) (index : ℕ) → false ≡ nat_lt index (length disjuncts) → (0 < length disjuncts → index < length disjuncts) → disjuncts ≡ []
none_of [] index past within = refl
none_of (first ∷ rest) index past within =
    let there = (Decides-ltb index (length (first ∷ rest))).1 (within (omega arith)) in
    let wrong : false ≡ true = past ∙ there in
    absurd (cc)

-- what is left of the counts once those of the other groups are taken out
pub rest_counts : (groups others : List (List Node)) (index : ℕ) (group : List Node) (test : Node → Bool) (before after : ℕ) → index < length groups → group ≡ slice_index_or groups index group
    → others ≡ remove groups index → before ≡ all_counting test groups → after ≡ before - all_counting test others → after ≡ counting test group
rest_counts groups others index group test before after within is left whole less =
    let one = without_one groups index group test within is in
    let same : all_counting test others ≡ all_counting test (remove groups index) = ap (λ l. all_counting test l) left in
    omega (arith, one, same, whole, less)

pub back_again : (groups others : List (List Node)) (index : ℕ) (group : List Node) → index < length groups → group ≡ slice_index_or groups index group → others ≡ remove groups index
    → insert others index group ≡ groups
back_again groups others index group within is left = ap (λ l. insert l index group) left ∙ back_in groups index group within is

-- the last of the groups is taken out
pub last_taken : (groups before : List (List Node)) (last : List Node) (test : Node → Bool) (count less whole : ℕ) → before ≡ groups ++ last ∷ [] → less ≡ count - counting test last → count - all_counting test before ≡ whole
    → less - all_counting test groups ≡ whole
last_taken groups before last test count less whole is taken same =
    let all : all_counting test before ≡ all_counting test (groups ++ last ∷ []) = ap (λ l. all_counting test l) is in
    let parts = last_out groups last test in
    omega (arith, all, parts, taken, same)

pub groups_taken : (counted more groups before : List (List Node)) (last made : List Node) (whole : List (List Node)) → before ≡ groups ++ last ∷ [] → made ≡ last → more ≡ counted ++ made ∷ []
    → counted ++ reverse before ≡ whole → more ++ reverse groups ≡ whole
groups_taken counted more groups before last made whole is same put so_far =
    ap (λ l. l ++ reverse groups) put ∙ append_assoc counted (made ∷ []) (reverse groups) ∙ ap (λ g. counted ++ g ∷ reverse groups) same
    ∙ ap (λ l. counted ++ l) (sym (reverse-append groups (last ∷ []))) ∙ ap (λ l. counted ++ reverse l) (sym is) ∙ so_far
