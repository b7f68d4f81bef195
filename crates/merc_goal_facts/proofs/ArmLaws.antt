-- The facts of a disjunction by what its arms bind.
use Rattle.std.specs.Prelude.{◌≡◌, ◌||◌, ◌&&◌, not, ℕ, Bool, true, false, List, [], ◌∷◌, Option, Some, None, if◌then◌else◌, refl}
use Rattle.std.specs.List.{filter, list_all, list_any}
use Rattle.std.proofs.Common.{◌∙◌, ap, sym}
use Rattle.merc_order.specs.Order.{Arm, any_reached, counting}
use Rattle.merc_order.specs.Bound.{Bound, among}
use Rattle.merc_goal_facts.specs.Arms.{counts, among_all, all_of, those_bound, those_owed}
use Rattle.merc_goal_facts.specs.Bounds.{all_behind}
use Rattle.merc_goal_facts.proofs.Found.{among-filter, among-all_behind}

-- the arms that count, told one by one

some_kept : (reached binds : Bool) (arm : Arm) (rest : List Arm) (test : Arm → Bool) (known : Bool) → test arm ≡ binds → list_any test rest ≡ known
    → list_any test (if reached then arm ∷ rest else rest) ≡ (((reached || false) && binds) || known)
some_kept true binds arm rest test known b k = ap (λ t. t || list_any test rest) b ∙ ap (λ t. binds || t) k
some_kept false binds arm rest test known b k = k

all_kept : (reached binds : Bool) (arm : Arm) (rest : List Arm) (test : Arm → Bool) (known : Bool) → test arm ≡ binds → list_all test rest ≡ known
    → list_all test (if reached then arm ∷ rest else rest) ≡ ((not (reached || false) || binds) && known)
all_kept true binds arm rest test known b k = ap (λ t. t && list_all test rest) b ∙ ap (λ t. binds && t) k
all_kept false binds arm rest test known b k = k

some_filtered : (arms : List Arm) (test : Arm → Bool) → list_any test (filter (λ arm. arm.reached) arms) ≡ list_any (λ arm. (arm.reached || false) && test arm) arms
some_filtered [] test = refl
some_filtered (arm ∷ rest) test =
    some_kept arm.reached (test arm) arm (filter (λ a. a.reached) rest) test (list_any (λ a. (a.reached || false) && test a) rest) refl (some_filtered rest test)

all_filtered : (arms : List Arm) (test : Arm → Bool) → list_all test (filter (λ arm. arm.reached) arms) ≡ list_all (λ arm. not (arm.reached || false) || test arm) arms
all_filtered [] test = refl
all_filtered (arm ∷ rest) test =
    all_kept arm.reached (test arm) arm (filter (λ a. a.reached) rest) test (list_all (λ a. not (a.reached || false) || test a) rest) refl (all_filtered rest test)

any_counts : (reached binds : Bool) → binds ≡ ((reached || true) && binds)
any_counts true binds = refl
any_counts false binds = refl

all_count : (reached binds : Bool) → binds ≡ (not (reached || true) || binds)
all_count true binds = refl
all_count false binds = refl

some_unfiltered : (arms : List Arm) (test : Arm → Bool) → list_any test arms ≡ list_any (λ arm. (arm.reached || true) && test arm) arms
some_unfiltered [] test = refl
some_unfiltered (arm ∷ rest) test = ap (λ b. b || list_any test rest) (any_counts arm.reached (test arm)) ∙ ap (λ b. ((arm.reached || true) && test arm) || b) (some_unfiltered rest test)

all_unfiltered : (arms : List Arm) (test : Arm → Bool) → list_all test arms ≡ list_all (λ arm. not (arm.reached || true) || test arm) arms
all_unfiltered [] test = refl
all_unfiltered (arm ∷ rest) test = ap (λ b. b && list_all test rest) (all_count arm.reached (test arm)) ∙ ap (λ b. (not (arm.reached || true) || test arm) && b) (all_unfiltered rest test)

some_by : (any : Bool) (arms : List Arm) (test : Arm → Bool) → list_any test (if any then filter (λ arm. arm.reached) arms else arms) ≡ list_any (λ arm. counts any arm.reached && test arm) arms
some_by true arms test = some_filtered arms test
some_by false arms test = some_unfiltered arms test

all_by : (any : Bool) (arms : List Arm) (test : Arm → Bool) → list_all test (if any then filter (λ arm. arm.reached) arms else arms) ≡ list_all (λ arm. not (counts any arm.reached) || test arm) arms
all_by true arms test = all_filtered arms test
all_by false arms test = all_unfiltered arms test

pub some_counting : (arms : List Arm) (test : Arm → Bool) → list_any test (counting arms) ≡ list_any (λ arm. counts (any_reached arms) arm.reached && test arm) arms
some_counting arms test = some_by (any_reached arms) arms test

pub all_counting : (arms : List Arm) (test : Arm → Bool) → list_all test (counting arms) ≡ list_all (λ arm. not (counts (any_reached arms) arm.reached) || test arm) arms
all_counting arms test = all_by (any_reached arms) arms test

-- what is found by a set of what all arms bind

pub bound_by_some : (outer : Bound) (reached : Bool) (some set bound : List ℕ) → reached ≡ true → bound ≡ filter outer some → bound ≡ filter outer (those_bound reached some set)
bound_by_some outer reached some set bound r b = b ∙ sym (ap (λ x. filter outer (those_bound x some set)) r)

pub bound_by_every : (outer : Bound) (reached : Bool) (some set shared slice bound : List ℕ) → reached ≡ false → shared ≡ filter (λ variable. among set variable) some → slice ≡ shared
    → bound ≡ filter outer slice → bound ≡ filter outer (those_bound reached some set)
bound_by_every outer reached some set shared slice bound r s l b = b ∙ ap (filter outer) (l ∙ s) ∙ sym (ap (λ x. filter outer (those_bound x some set)) r)

pub owed_as_apart : (outer : Bound) (reached : Bool) (some set apart slice owed : List ℕ) → reached ≡ true → apart ≡ filter (λ variable. not (among set variable)) some → slice ≡ apart
    → owed ≡ filter outer slice → owed ≡ filter outer (those_owed reached some set)
owed_as_apart outer reached some set apart slice owed r s l o = o ∙ ap (filter outer) (l ∙ s) ∙ sym (ap (λ x. filter outer (those_owed x some set)) r)

pub none_owed : (outer : Bound) (reached : Bool) (some set owed : List ℕ) → reached ≡ false → owed ≡ [] → owed ≡ filter outer (those_owed reached some set)
none_owed outer reached some set owed r o = o ∙ sym (ap (λ x. filter outer (those_owed x some set)) r)

and_true : (one : Bool) → (one && true) ≡ one
and_true true = refl
and_true false = refl

and_false : (one : Bool) → (one && false) ≡ false
and_false true = refl
and_false false = refl

and_same : (one : Bool) → (one && one) ≡ (one && true)
and_same true = refl
and_same false = refl

-- truth values of what is bound behind arms: by some, by all, in the goal, outside

pub bound_of : (any some every listed within outer : Bool) → (some ≡ true → within ≡ true) → (any ≡ false → within ≡ true → every ≡ true → some ≡ true) → (some && listed) ≡ (some && every)
    → ((if any then some else (some && listed)) && outer) ≡ ((within && outer) && (if any then some else every))
bound_of true true every listed true outer w n l = sym (and_true outer)
bound_of true true every listed false outer w n l = let h = w refl in cc
bound_of true false every listed within outer w n l = sym (and_false (within && outer))
bound_of false true true listed true outer w n l = ap (λ b. b && outer) l ∙ sym (and_true outer)
bound_of false true false listed true outer w n l = ap (λ b. b && outer) l ∙ sym (and_false outer)
bound_of false true every listed false outer w n l = let h = w refl in cc
bound_of false false true listed true outer w n l = let h = n refl refl refl in cc
bound_of false false false listed true outer w n l = sym (and_false outer)
bound_of false false every listed false outer w n l = refl

pub owed_of : (any some every listed : Bool) → (some && listed) ≡ (some && every) → (if any then (some && not listed) else false) ≡ (any && some && not every)
owed_of false some every listed l = refl
owed_of true false every listed l = refl
owed_of true true every listed l = ap not l

pub owed_by_some : (any some every : Bool) → (any && some && not every) ≡ true → some ≡ true
owed_by_some true true every is = refl
owed_by_some true false every is = is
owed_by_some false some every is = cc

-- a variable among what is bound behind arms, and what is owed

pub among-those_bound : (reached : Bool) (some every : List ℕ) (variable : ℕ) → among (those_bound reached some every) variable ≡ (if reached then among some variable else (among some variable && among every variable))
among-those_bound true some every variable = refl
among-those_bound false some every variable = among-filter (λ v. among every v) some variable

pub among-those_owed : (reached : Bool) (some every : List ℕ) (variable : ℕ) → among (those_owed reached some every) variable ≡ (if reached then (among some variable && not (among every variable)) else false)
among-those_owed true some every variable = among-filter (λ v. not (among every v)) some variable
among-those_owed false some every variable = refl

among-all_of : (some : List ℕ) (every : Option (List ℕ)) (variable : ℕ) → (among some variable && among (all_of some every) variable) ≡ (among some variable && among_all every variable)
among-all_of some None variable = and_same (among some variable)
among-all_of some (Some variables) variable = refl

pub listed_is : (some : List ℕ) (every : Option (List ℕ)) (variable : ℕ) → (among some variable && among (all_behind [] (all_of some every)) variable) ≡ (among some variable && among_all every variable)
listed_is some every variable = ap (λ b. among some variable && b) (among-all_behind [] (all_of some every) variable) ∙ among-all_of some every variable
