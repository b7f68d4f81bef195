-- The places of a goal that become tests, from place to place.
use Rattle.std.specs.Prelude.{◌≡◌, ◌≤◌, ◌<◌, ◌==◌, ◌+◌, ◌||◌, not, ℕ, zero, suc, Bool, true, false, List, [], ◌∷◌, ◌++◌, length, drop, slice_get, refl, if◌then◌else◌}
use Rattle.std.specs.List.{filter, slice_index_or}
use Rattle.std.specs.Option.{option_to_list}
use Rattle.std.proofs.Common.{◌∙◌, ap, sym, arith}
use Rattle.std.proofs.lemmas.List.{append-nil, append_assoc, drop_more, drop_all, get_or-drop, drop-drop}
use mathlib.Core.Path.{fun_ext}
use Rattle.merc_tree.specs.declared.declarations.Arg.{Arg}
use Rattle.merc_tree.specs.declared.declarations.Arg.TheVariants.{Input, Output}
use Rattle.merc_order.specs.Bound.{Bound, with, among}
use Rattle.merc_order.specs.CallModes.{tested}
use Rattle.merc_order.specs.Spelt.{replaced, tested_places, untested_places, written, numbered, inner_outputs}
use Rattle.merc_goal_facts.specs.Bounds.{behind, all_behind}
use Rattle.merc_simple_goals.specs.Testing.{written_here}
use Rattle.merc_goal_facts.proofs.Bounds.{or_assoc, or_false}
use Rattle.merc_goal_facts.proofs.Found.{among-all_behind}

-- which variables are tested

bound_or : (bound : Bound) (seen : List ℕ) (variable : ℕ) → with (with bound (among seen)) (λ other. other == variable) ≡ with bound (among (behind seen variable))
bound_or bound seen variable = fun_ext (λ other. or_assoc (bound other) (among seen other) (other == variable)
    ∙ ap (λ b. bound other || b) (sym (among-all_behind seen (variable ∷ []) other ∙ ap (λ b. among seen other || b) (or_false (other == variable)))))

pub tested_more : (bound : Bound) (seen new : List ℕ) (variables : List ℕ) (index variable : ℕ) (old now all : List Bool) → index < length variables → variable ≡ slice_index_or variables index variable
    → new ≡ behind seen variable → now ≡ old ++ (bound variable || among seen variable) ∷ []
    → old ++ tested (λ other. bound other || among seen other) (drop index variables) ≡ all → now ++ tested (λ other. bound other || among new other) (drop (index + 1) variables) ≡ all
tested_more bound seen new variables index variable old now all short there s n whole =
    let later = drop (index + 1) variables in
    ap (λ l. l ++ tested (λ other. bound other || among new other) later) n
    ∙ append_assoc old ((bound variable || among seen variable) ∷ []) (tested (λ other. bound other || among new other) later)
    ∙ ap (λ set. old ++ (bound variable || among seen variable) ∷ tested set later) (ap (λ l. with bound (among l)) s ∙ sym (bound_or bound seen variable))
    ∙ ap (λ l. old ++ tested (λ other. bound other || among seen other) l) (sym (drop_more variables index variable short ∙ ap (λ v. v ∷ later) (sym there)))
    ∙ whole

-- a function of variables and tests, at the next of them

first_test : (tests : List Bool) (index : ℕ) → slice_index_or (drop index tests) 0 false ≡ slice_index_or tests index false
first_test tests index = get_or-drop index tests 0 false ∙ ap (λ n. slice_index_or tests n false) (let e : index + 0 ≡ index = omega arith in e)

replaced_none : (at : ℕ) (variables : List ℕ) → replaced at variables [] ≡ variables
replaced_none at [] = refl
replaced_none at (variable ∷ variables) = refl

replaced_first : (at variable : ℕ) (variables : List ℕ) (tests : List Bool) (test : Bool) → test ≡ slice_index_or tests 0 false
    → replaced at (variable ∷ variables) tests ≡ (if test then at else variable) ∷ replaced (if test then suc at else at) variables (drop 1 tests)
replaced_first at variable variables [] true t = cc
replaced_first at variable variables [] false t = ap (λ l. variable ∷ l) (sym (replaced_none at variables))
replaced_first at variable variables (true ∷ tests) true t = refl
replaced_first at variable variables (true ∷ tests) false t = cc
replaced_first at variable variables (false ∷ tests) true t = cc
replaced_first at variable variables (false ∷ tests) false t = refl

tested_none : (variables : List ℕ) → tested_places variables [] ≡ []
tested_none [] = refl
tested_none (variable ∷ variables) = refl

tested_first : (variable : ℕ) (variables : List ℕ) (tests : List Bool) (test : Bool) → test ≡ slice_index_or tests 0 false
    → tested_places (variable ∷ variables) tests ≡ (if test then variable ∷ [] else []) ++ tested_places variables (drop 1 tests)
tested_first variable variables [] true t = cc
tested_first variable variables [] false t = sym (tested_none variables)
tested_first variable variables (true ∷ tests) true t = refl
tested_first variable variables (true ∷ tests) false t = cc
tested_first variable variables (false ∷ tests) true t = cc
tested_first variable variables (false ∷ tests) false t = refl

untested_none : (variables : List ℕ) → untested_places variables [] ≡ variables
untested_none [] = refl
untested_none (variable ∷ variables) = refl

untested_first : (variable : ℕ) (variables : List ℕ) (tests : List Bool) (test : Bool) → test ≡ slice_index_or tests 0 false
    → untested_places (variable ∷ variables) tests ≡ (if not test then variable ∷ [] else []) ++ untested_places variables (drop 1 tests)
untested_first variable variables [] true t = cc
untested_first variable variables [] false t = ap (λ l. variable ∷ l) (sym (untested_none variables))
untested_first variable variables (true ∷ tests) true t = refl
untested_first variable variables (true ∷ tests) false t = cc
untested_first variable variables (false ∷ tests) true t = cc
untested_first variable variables (false ∷ tests) false t = refl

pub replaced_more : (at behind : ℕ) (variables : List ℕ) (tests : List Bool) (index variable : ℕ) (test : Bool) (old now all : List ℕ) → index < length variables
    → variable ≡ slice_index_or variables index variable → test ≡ slice_index_or tests index false → now ≡ old ++ (if test then at else variable) ∷ [] → behind ≡ (if test then suc at else at)
    → old ++ replaced at (drop index variables) (drop index tests) ≡ all → now ++ replaced behind (drop (index + 1) variables) (drop (index + 1) tests) ≡ all
replaced_more at behind variables tests index variable test old now all short there t n b whole =
    let later = drop (index + 1) variables in
    let chunk = (if test then at else variable) ∷ [] in
    ap (λ l. l ++ replaced behind later (drop (index + 1) tests)) n ∙ append_assoc old chunk (replaced behind later (drop (index + 1) tests))
    ∙ ap (λ k. old ++ (chunk ++ replaced k later (drop (index + 1) tests))) b ∙ ap (λ l. old ++ (chunk ++ replaced (if test then suc at else at) later l)) (sym (drop-drop 1 index tests))
    ∙ ap (λ l. old ++ l) (sym (ap (λ l. replaced at l (drop index tests)) (drop_more variables index variable short ∙ ap (λ v. v ∷ later) (sym there))
    ∙ replaced_first at variable later (drop index tests) test (t ∙ sym (first_test tests index)))) ∙ whole

pub tested_places_more : (variables : List ℕ) (tests : List Bool) (index variable : ℕ) (test : Bool) (old now all : List ℕ) → index < length variables
    → variable ≡ slice_index_or variables index variable → test ≡ slice_index_or tests index false → now ≡ old ++ (if test then variable ∷ [] else [])
    → old ++ tested_places (drop index variables) (drop index tests) ≡ all → now ++ tested_places (drop (index + 1) variables) (drop (index + 1) tests) ≡ all
tested_places_more variables tests index variable test old now all short there t n whole =
    let later = drop (index + 1) variables in
    let chunk = if test then variable ∷ [] else [] in
    ap (λ l. l ++ tested_places later (drop (index + 1) tests)) n ∙ append_assoc old chunk (tested_places later (drop (index + 1) tests))
    ∙ ap (λ l. old ++ (chunk ++ tested_places later l)) (sym (drop-drop 1 index tests))
    ∙ ap (λ l. old ++ l) (sym (ap (λ l. tested_places l (drop index tests)) (drop_more variables index variable short ∙ ap (λ v. v ∷ later) (sym there))
    ∙ tested_first variable later (drop index tests) test (t ∙ sym (first_test tests index)))) ∙ whole

pub untested_places_more : (variables : List ℕ) (tests : List Bool) (index variable : ℕ) (test : Bool) (old now all : List ℕ) → index < length variables
    → variable ≡ slice_index_or variables index variable → test ≡ slice_index_or tests index false → now ≡ old ++ (if not test then variable ∷ [] else [])
    → old ++ untested_places (drop index variables) (drop index tests) ≡ all → now ++ untested_places (drop (index + 1) variables) (drop (index + 1) tests) ≡ all
untested_places_more variables tests index variable test old now all short there t n whole =
    let later = drop (index + 1) variables in
    let chunk = if not test then variable ∷ [] else [] in
    ap (λ l. l ++ untested_places later (drop (index + 1) tests)) n ∙ append_assoc old chunk (untested_places later (drop (index + 1) tests))
    ∙ ap (λ l. old ++ (chunk ++ untested_places later l)) (sym (drop-drop 1 index tests))
    ∙ ap (λ l. old ++ l) (sym (ap (λ l. untested_places l (drop index tests)) (drop_more variables index variable short ∙ ap (λ v. v ∷ later) (sym there))
    ∙ untested_first variable later (drop index tests) test (t ∙ sym (first_test tests index)))) ∙ whole

-- what a call writes

get_dropped : {X : Type 0} (list : List X) (index : ℕ) → slice_get (drop index list) 0 ≡ slice_get list index
get_dropped [] zero = refl
get_dropped [] (suc index) = refl
get_dropped (first ∷ rest) zero = refl
get_dropped (first ∷ rest) (suc index) = get_dropped rest index

written_no_argument : (places : List Arg) (tests : List Bool) → written places [] tests ≡ []
written_no_argument [] tests = refl
written_no_argument (place ∷ places) tests = refl

written_first : (places : List Arg) (arguments : List ℕ) (test : Bool) (tests : List Bool)
    → written places arguments (test ∷ tests) ≡ option_to_list (written_here test (slice_get places 0) (slice_get arguments 0)) ++ written (drop 1 places) (drop 1 arguments) tests
written_first [] arguments test tests = refl
written_first (Input ∷ places) [] test tests = sym (written_no_argument places tests)
written_first (Output ∷ places) [] test tests = sym (written_no_argument places tests)
written_first (Input ∷ places) (argument ∷ arguments) test tests = refl
written_first (Output ∷ places) (argument ∷ arguments) true tests = refl
written_first (Output ∷ places) (argument ∷ arguments) false tests = refl

written_none : (places : List Arg) (arguments : List ℕ) → written places arguments [] ≡ []
written_none [] arguments = refl
written_none (place ∷ places) [] = refl
written_none (place ∷ places) (argument ∷ arguments) = refl

pub written_more : (places : List Arg) (arguments : List ℕ) (tests : List Bool) (index : ℕ) (old now all : List ℕ) → index < length tests
    → now ≡ old ++ option_to_list (written_here (slice_index_or tests index false) (slice_get places index) (slice_get arguments index))
    → old ++ written (drop index places) (drop index arguments) (drop index tests) ≡ all → now ++ written (drop (index + 1) places) (drop (index + 1) arguments) (drop (index + 1) tests) ≡ all
written_more places arguments tests index old now all short n whole =
    let test = slice_index_or tests index false in
    let later = drop (index + 1) tests in
    let chunk = option_to_list (written_here test (slice_get places index) (slice_get arguments index)) in
    ap (λ l. l ++ written (drop (index + 1) places) (drop (index + 1) arguments) later) n
    ∙ append_assoc old chunk (written (drop (index + 1) places) (drop (index + 1) arguments) later)
    ∙ ap (λ l. old ++ (chunk ++ written l (drop (index + 1) arguments) later)) (sym (drop-drop 1 index places))
    ∙ ap (λ l. old ++ (chunk ++ written (drop 1 (drop index places)) l later)) (sym (drop-drop 1 index arguments))
    ∙ ap (λ l. old ++ l) (sym (ap (written (drop index places) (drop index arguments)) (drop_more tests index false short)
    ∙ written_first (drop index places) (drop index arguments) test later
    ∙ ap (λ o. option_to_list (written_here test o (slice_get (drop index arguments) 0)) ++ written (drop 1 (drop index places)) (drop 1 (drop index arguments)) later) (get_dropped places index)
    ∙ ap (λ o. option_to_list (written_here test (slice_get places index) o) ++ written (drop 1 (drop index places)) (drop 1 (drop index arguments)) later) (get_dropped arguments index))) ∙ whole

pub written_all : (places : List Arg) (arguments : List ℕ) (tests : List Bool) (index : ℕ) (now all : List ℕ) → length tests ≤ index
    → now ++ written (drop index places) (drop index arguments) (drop index tests) ≡ all → now ≡ all
written_all places arguments tests index now all past whole =
    sym (append-nil now)
    ∙ ap (λ l. now ++ l) (sym (ap (written (drop index places) (drop index arguments)) (drop_all index tests past) ∙ written_none (drop index places) (drop index arguments))) ∙ whole

-- the outputs in front of the tests

pub inner_are : (at : ℕ) (outputs writes tested seen both all : List ℕ) → seen ≡ all_behind (all_behind [] outputs) tested → both ≡ filter (λ variable. among seen variable) writes → all ≡ both ++ numbered at tested
    → all ≡ inner_outputs at outputs writes tested
inner_are at outputs writes tested seen both all s b a =
    a ∙ ap (λ l. l ++ numbered at tested) (b ∙ ap (λ test. filter test writes) (fun_ext (λ variable.
    ap (λ l. among l variable) s ∙ among-all_behind (all_behind [] outputs) tested variable ∙ ap (λ b. b || among tested variable) (among-all_behind [] outputs variable))))
