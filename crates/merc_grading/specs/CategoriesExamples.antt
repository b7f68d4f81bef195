-- The category of each goal that joins others, by all categories of its parts. Each row goes through the six in the order in which `all` has them.
use Rattle.std.specs.Prelude.{◌≡◌, true, false, List, [], ◌∷◌, map, refl}
use Rattle.merc_base.specs.declared.category.Category.{Category}
use Rattle.merc_base.specs.declared.category.Category.TheVariants.{Det, Semidet, Multi, Nondet, Erroneous, Failure}
use Rattle.merc_grading.specs.Categories.{arm_category, conjunction_category, disjunction_category, switch_category, conditional_category, negation_category, once}

abbrev pub all : List Category
all = Det ∷ Semidet ∷ Multi ∷ Nondet ∷ Erroneous ∷ Failure ∷ []

-- two goals one after the other: the first is of this category

abbrev before_all : Category → List Category
before_all first = map (λ next. conjunction_category (first ∷ next ∷ [])) all

det_first : before_all Det ≡ Det ∷ Semidet ∷ Multi ∷ Nondet ∷ Erroneous ∷ Failure ∷ []
det_first = refl

semidet_first : before_all Semidet ≡ Semidet ∷ Semidet ∷ Nondet ∷ Nondet ∷ Failure ∷ Failure ∷ []
semidet_first = refl

multi_first : before_all Multi ≡ Multi ∷ Nondet ∷ Multi ∷ Nondet ∷ Erroneous ∷ Failure ∷ []
multi_first = refl

nondet_first : before_all Nondet ≡ Nondet ∷ Nondet ∷ Nondet ∷ Nondet ∷ Failure ∷ Failure ∷ []
nondet_first = refl

erroneous_first : before_all Erroneous ≡ Erroneous ∷ Erroneous ∷ Erroneous ∷ Erroneous ∷ Erroneous ∷ Erroneous ∷ []
erroneous_first = refl

failure_first : before_all Failure ≡ Failure ∷ Failure ∷ Failure ∷ Failure ∷ Failure ∷ Failure ∷ []
failure_first = refl

-- two disjuncts: the first is of this category

abbrev or_all : Category → List Category
or_all first = map (λ other. disjunction_category (first ∷ other ∷ [])) all

det_or : or_all Det ≡ Multi ∷ Multi ∷ Multi ∷ Multi ∷ Det ∷ Det ∷ []
det_or = refl

semidet_or : or_all Semidet ≡ Multi ∷ Nondet ∷ Multi ∷ Nondet ∷ Det ∷ Semidet ∷ []
semidet_or = refl

multi_or : or_all Multi ≡ Multi ∷ Multi ∷ Multi ∷ Multi ∷ Multi ∷ Multi ∷ []
multi_or = refl

nondet_or : or_all Nondet ≡ Multi ∷ Nondet ∷ Multi ∷ Nondet ∷ Multi ∷ Nondet ∷ []
nondet_or = refl

erroneous_or : or_all Erroneous ≡ Det ∷ Det ∷ Multi ∷ Multi ∷ Erroneous ∷ Erroneous ∷ []
erroneous_or = refl

failure_or : or_all Failure ≡ Det ∷ Semidet ∷ Multi ∷ Nondet ∷ Erroneous ∷ Failure ∷ []
failure_or = refl

-- if-then-else where the condition cannot fail: the else part is nothing to it

abbrev then_all : Category → Category → List Category
then_all condition else_part = map (λ then_part. conditional_category condition then_part else_part) all

if_det : then_all Det Nondet ≡ Det ∷ Semidet ∷ Multi ∷ Nondet ∷ Erroneous ∷ Failure ∷ []
if_det = refl

if_multi : then_all Multi Nondet ≡ Multi ∷ Nondet ∷ Multi ∷ Nondet ∷ Erroneous ∷ Failure ∷ []
if_multi = refl

if_erroneous : then_all Erroneous Nondet ≡ Erroneous ∷ Erroneous ∷ Erroneous ∷ Erroneous ∷ Erroneous ∷ Erroneous ∷ []
if_erroneous = refl

-- where it can: the condition and the then part are of these categories

abbrev else_all : Category → Category → List Category
else_all condition then_part = map (λ else_part. conditional_category condition then_part else_part) all

if_semidet_then_det : else_all Semidet Det ≡ Det ∷ Semidet ∷ Multi ∷ Nondet ∷ Det ∷ Semidet ∷ []
if_semidet_then_det = refl

if_semidet_then_semidet : else_all Semidet Semidet ≡ Semidet ∷ Semidet ∷ Nondet ∷ Nondet ∷ Semidet ∷ Semidet ∷ []
if_semidet_then_semidet = refl

if_semidet_then_multi : else_all Semidet Multi ≡ Multi ∷ Nondet ∷ Multi ∷ Nondet ∷ Multi ∷ Nondet ∷ []
if_semidet_then_multi = refl

if_semidet_then_nondet : else_all Semidet Nondet ≡ Nondet ∷ Nondet ∷ Nondet ∷ Nondet ∷ Nondet ∷ Nondet ∷ []
if_semidet_then_nondet = refl

if_semidet_then_erroneous : else_all Semidet Erroneous ≡ Det ∷ Semidet ∷ Multi ∷ Nondet ∷ Erroneous ∷ Failure ∷ []
if_semidet_then_erroneous = refl

if_semidet_then_failure : else_all Semidet Failure ≡ Semidet ∷ Semidet ∷ Nondet ∷ Nondet ∷ Failure ∷ Failure ∷ []
if_semidet_then_failure = refl

if_nondet_then_det : else_all Nondet Det ≡ Multi ∷ Nondet ∷ Multi ∷ Nondet ∷ Multi ∷ Nondet ∷ []
if_nondet_then_det = refl

if_nondet_then_semidet : else_all Nondet Semidet ≡ Nondet ∷ Nondet ∷ Nondet ∷ Nondet ∷ Nondet ∷ Nondet ∷ []
if_nondet_then_semidet = refl

if_nondet_then_multi : else_all Nondet Multi ≡ Multi ∷ Nondet ∷ Multi ∷ Nondet ∷ Multi ∷ Nondet ∷ []
if_nondet_then_multi = refl

if_nondet_then_nondet : else_all Nondet Nondet ≡ Nondet ∷ Nondet ∷ Nondet ∷ Nondet ∷ Nondet ∷ Nondet ∷ []
if_nondet_then_nondet = refl

if_nondet_then_erroneous : else_all Nondet Erroneous ≡ Multi ∷ Nondet ∷ Multi ∷ Nondet ∷ Erroneous ∷ Failure ∷ []
if_nondet_then_erroneous = refl

if_nondet_then_failure : else_all Nondet Failure ≡ Nondet ∷ Nondet ∷ Nondet ∷ Nondet ∷ Failure ∷ Failure ∷ []
if_nondet_then_failure = refl

if_failure_then_det : else_all Failure Det ≡ Det ∷ Semidet ∷ Multi ∷ Nondet ∷ Erroneous ∷ Failure ∷ []
if_failure_then_det = refl

if_failure_then_semidet : else_all Failure Semidet ≡ Semidet ∷ Semidet ∷ Nondet ∷ Nondet ∷ Failure ∷ Failure ∷ []
if_failure_then_semidet = refl

if_failure_then_multi : else_all Failure Multi ≡ Multi ∷ Nondet ∷ Multi ∷ Nondet ∷ Erroneous ∷ Failure ∷ []
if_failure_then_multi = refl

if_failure_then_nondet : else_all Failure Nondet ≡ Nondet ∷ Nondet ∷ Nondet ∷ Nondet ∷ Failure ∷ Failure ∷ []
if_failure_then_nondet = refl

if_failure_then_erroneous : else_all Failure Erroneous ≡ Det ∷ Semidet ∷ Multi ∷ Nondet ∷ Erroneous ∷ Failure ∷ []
if_failure_then_erroneous = refl

if_failure_then_failure : else_all Failure Failure ≡ Semidet ∷ Semidet ∷ Nondet ∷ Nondet ∷ Failure ∷ Failure ∷ []
if_failure_then_failure = refl

negations : map negation_category all ≡ Failure ∷ Semidet ∷ Failure ∷ Semidet ∷ Erroneous ∷ Det ∷ []
negations = refl

-- what no output distinguishes
capped_all : map once all ≡ Det ∷ Semidet ∷ Det ∷ Semidet ∷ Erroneous ∷ Failure ∷ []
capped_all = refl

-- Switches of one arm, and of two.

complete_arm : map (λ arm. switch_category true (arm ∷ [])) all ≡ all
complete_arm = refl

incomplete_arm : map (λ arm. switch_category false (arm ∷ [])) all ≡ Semidet ∷ Semidet ∷ Nondet ∷ Nondet ∷ Failure ∷ Failure ∷ []
incomplete_arm = refl

det_arms : switch_category true (Det ∷ Det ∷ []) ≡ Det
det_arms = refl

det_and_semidet : switch_category true (Det ∷ Semidet ∷ []) ≡ Semidet
det_and_semidet = refl

multi_and_failure : switch_category true (Multi ∷ Failure ∷ []) ≡ Nondet
multi_and_failure = refl

failure_and_erroneous : switch_category true (Failure ∷ Erroneous ∷ []) ≡ Failure
failure_and_erroneous = refl

erroneous_and_det : switch_category true (Erroneous ∷ Det ∷ []) ≡ Det
erroneous_and_det = refl

-- None and more than two.

no_conjunct : conjunction_category [] ≡ Det
no_conjunct = refl

no_disjunct : disjunction_category [] ≡ Failure
no_disjunct = refl

three_conjuncts : conjunction_category (Multi ∷ Semidet ∷ Erroneous ∷ []) ≡ Failure
three_conjuncts = refl

stops_before : conjunction_category (Det ∷ Erroneous ∷ Failure ∷ []) ≡ Erroneous
stops_before = refl

three_disjuncts : disjunction_category (Failure ∷ Semidet ∷ Failure ∷ []) ≡ Semidet
three_disjuncts = refl

two_are_many : disjunction_category (Semidet ∷ Failure ∷ Semidet ∷ []) ≡ Nondet
two_are_many = refl

two_dets_are_no_det : disjunction_category (Det ∷ Det ∷ []) ≡ Det → ⊥
two_dets_are_no_det wrong = cc

not_of_semidet_is_no_det : negation_category Semidet ≡ Det → ⊥
not_of_semidet_is_no_det wrong = cc

-- two arms that answer at most once are no two answers
arm : arm_category Det Det ≡ Det
arm = refl

arm_is_no_multi : arm_category Det Det ≡ Multi → ⊥
arm_is_no_multi wrong = cc
