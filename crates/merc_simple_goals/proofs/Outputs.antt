-- The outputs of a goal, found from place to place.
use Rattle.std.specs.Prelude.{◌≡◌, ◌≤◌, ◌==◌, ◌+◌, ◌||◌, ◌&&◌, not, ℕ, zero, suc, Bool, true, false, List, [], ◌∷◌, ◌++◌, length, take, drop, slice_get, Option, Some, None, refl, if◌then◌else◌}
use Rattle.std.specs.List.{filter}
use Rattle.std.specs.Option.{option_to_list}
use Rattle.std.proofs.Common.{◌∙◌, ap, sym, arith}
use Rattle.std.proofs.lemmas.List.{append-nil, drop-take, drop_at, take_at}
use Rattle.std.proofs.lemmas.List.Elements.{filter-append}
use mathlib.Core.Path.{fun_ext}
use Rattle.merc_tree.specs.declared.declarations.ModeDecl.{ModeDecl}
use Rattle.merc_goal_tree.specs.Nodes.{Node}
use Rattle.merc_goal_tree.specs.Variables.{variables}
use Rattle.merc_order.specs.Bound.{Bound, among, each_once}
use Rattle.merc_order.specs.Order.{binds, outputs_of}
use Rattle.merc_goal_facts.specs.Bounds.{all_behind}
use Rattle.merc_goal_facts.specs.Facts.{AreFactsOf}
use Rattle.merc_goal_facts.specs.Outside.{IsStretch, occurs_outside}
use Rattle.merc_simple_goals.specs.Outputs.{is_output, kept}
use Rattle.merc_goal_facts.specs.Reaches.{new_among, first_since}
use Rattle.merc_goal_facts.specs.declared.facts.Facts.{Facts}
use Rattle.merc_goal_facts.proofs.Found.{among-filter, among-all_behind}
use Rattle.merc_goal_facts.proofs.Outside.{outside_stretch}

-- each once

push_step : (known same : Bool) (first variable : ℕ) (rest : List ℕ) → (variable == first) ≡ same
    → first ∷ filter (λ other. not (other == first)) (if known then rest else rest ++ variable ∷ [])
    ≡ (if same || known then first ∷ filter (λ other. not (other == first)) rest else (first ∷ filter (λ other. not (other == first)) rest) ++ variable ∷ [])
push_step true true first variable rest e = refl
push_step true false first variable rest e = refl
push_step false true first variable rest e =
    ap (λ l. first ∷ l) (filter-append (λ other. not (other == first)) rest (variable ∷ [])
    ∙ ap (λ b. filter (λ other. not (other == first)) rest ++ (if not b then variable ∷ [] else [])) e ∙ append-nil (filter (λ other. not (other == first)) rest))
push_step false false first variable rest e =
    ap (λ l. first ∷ l) (filter-append (λ other. not (other == first)) rest (variable ∷ [])
    ∙ ap (λ b. filter (λ other. not (other == first)) rest ++ (if not b then variable ∷ [] else [])) e)

each_once-push : (front : List ℕ) (variable : ℕ) → each_once (front ++ variable ∷ []) ≡ (if among front variable then each_once front else each_once front ++ variable ∷ [])
each_once-push [] variable = refl
each_once-push (first ∷ rest) variable =
    ap (λ l. first ∷ filter (λ other. not (other == first)) l) (each_once-push rest variable)
    ∙ push_step (among rest variable) (variable == first) first variable (each_once rest) refl

-- one place more

pub take_step : (all : List ℕ) (place : ℕ) → take (suc place) all ≡ take place all ++ option_to_list (slice_get all place)
take_step [] zero = refl
take_step [] (suc place) = refl
take_step (first ∷ rest) zero = refl
take_step (first ∷ rest) (suc place) = ap (λ l. first ∷ l) (take_step rest place)

pub drop_step : (all : List ℕ) (start place : ℕ) → start ≤ place → drop start (take (suc place) all) ≡ drop start (take place all) ++ option_to_list (slice_get all place)
drop_step [] zero zero h = refl
drop_step [] zero (suc place) h = refl
drop_step [] (suc start) zero h = absurd (omega (arith, h))
drop_step [] (suc start) (suc place) h = refl
drop_step (first ∷ rest) zero place h = take_step (first ∷ rest) place
drop_step (first ∷ rest) (suc start) zero h = absurd (omega (arith, h))
drop_step (first ∷ rest) (suc start) (suc place) h = drop_step rest start place (omega (arith, h))

one_kept : (test : Bound) (before : List ℕ) (variable : ℕ) (passes known : Bool) → test variable ≡ passes → among before variable ≡ known
    → each_once (filter test before) ++ option_to_list (kept test (if known then None else Some variable)) ≡ each_once (filter test before ++ filter test (variable ∷ []))
one_kept test before variable true true t k =
    let inside : among (filter test before) variable ≡ true = among-filter test before variable ∙ ap (λ b. b && test variable) k ∙ t in
    append-nil (each_once (filter test before))
    ∙ sym (ap (λ b. each_once (filter test before ++ (if b then variable ∷ [] else []))) t ∙ each_once-push (filter test before) variable
    ∙ ap (λ b. if b then each_once (filter test before) else each_once (filter test before) ++ variable ∷ []) inside)
one_kept test before variable true false t k =
    let outer : among (filter test before) variable ≡ false = among-filter test before variable ∙ ap (λ b. b && test variable) k in
    ap (λ b. each_once (filter test before) ++ option_to_list (if b then Some variable else None)) t
    ∙ sym (ap (λ b. each_once (filter test before ++ (if b then variable ∷ [] else []))) t ∙ each_once-push (filter test before) variable
    ∙ ap (λ b. if b then each_once (filter test before) else each_once (filter test before) ++ variable ∷ []) outer)
one_kept test before variable false true t k =
    append-nil (each_once (filter test before))
    ∙ sym (ap (λ b. each_once (filter test before ++ (if b then variable ∷ [] else []))) t ∙ ap each_once (append-nil (filter test before)))
one_kept test before variable false false t k =
    ap (λ b. each_once (filter test before) ++ option_to_list (if b then Some variable else None)) t ∙ append-nil (each_once (filter test before))
    ∙ sym (ap (λ b. each_once (filter test before ++ (if b then variable ∷ [] else []))) t ∙ ap each_once (append-nil (filter test before)))

kept_step : (test : Bound) (before : List ℕ) (there : Option ℕ)
    → each_once (filter test before) ++ option_to_list (kept test (new_among before there)) ≡ each_once (filter test (before ++ option_to_list there))
kept_step test before None = append-nil (each_once (filter test before)) ∙ ap (λ l. each_once (filter test l)) (sym (append-nil before))
kept_step test before (Some variable) =
    one_kept test before variable (test variable) (among before variable) refl refl ∙ ap each_once (sym (filter-append test before (variable ∷ [])))

pub found_step : (test : Bound) (all : List ℕ) (start place : ℕ) (found : List ℕ) (next : Option ℕ) → start ≤ place → found ≡ each_once (filter test (drop start (take place all)))
    → next ≡ kept test (first_since start all place) → found ++ option_to_list next ≡ each_once (filter test (drop start (take (place + 1) all)))
found_step test all start place found next h f n =
    ap (λ l. l ++ option_to_list next) f ∙ ap (λ o. each_once (filter test (drop start (take place all))) ++ option_to_list o) n
    ∙ kept_step test (drop start (take place all)) (slice_get all place)
    ∙ ap (λ l. each_once (filter test l)) (sym (drop_step all start place h))
    ∙ ap (λ m. each_once (filter test (drop start (take m all)))) (let e : suc place ≡ place + 1 = omega arith in e)

-- all of it

pub outputs_are : (total : ℕ → ℕ) (modes : ℕ → List ModeDecl) (goal : Node) (facts : Facts) (all : List ℕ) (start end : ℕ) (bound : Bound) (seen found : List ℕ)
    → AreFactsOf total modes goal facts → IsStretch total all start (start + length (variables goal)) (variables goal) → end ≡ start + facts.occurrences
    → seen ≡ all_behind [] (filter (λ variable. is_output bound all start end variable) facts.binds)
    → found ≡ each_once (filter (among seen) (drop start (take end all))) → found ≡ outputs_of total modes bound goal
outputs_are total modes goal facts all start end bound seen found known stretch e s f =
    let inside = variables goal in
    let last : end ≡ start + length inside = e ∙ ap (λ n. start + n) known.occurrences_are in
    let between : drop start (take end all) ≡ inside =
    ap (λ n. drop start (take n all)) last ∙ drop-take start (length inside) all ∙ ap (λ l. take (length inside) (drop start l)) stretch.whole
    ∙ ap (λ l. take (length inside) l) (drop_at stretch.before (inside ++ stretch.after) start stretch.start_is) ∙ take_at inside stretch.after (length inside) refl in
    f ∙ ap (λ l. each_once (filter (among seen) l)) between
    ∙ ap (λ test. each_once (filter test inside)) (fun_ext (λ variable.
    ap (λ l. among l variable) s ∙ among-all_behind [] (filter (λ v. is_output bound all start end v) facts.binds) variable
    ∙ among-filter (λ v. is_output bound all start end v) facts.binds variable ∙ ap (λ b. b && is_output bound all start end variable) (known.binds_are variable)
    ∙ ap (λ n. binds total modes goal variable && (not (bound variable) && occurs_outside all start n variable)) last
    ∙ ap (λ b. binds total modes goal variable && (not (bound variable) && b)) (outside_stretch total modes all start (start + length inside) inside variable stretch)))

-- at the start

pub drop_taken : (all : List ℕ) (start : ℕ) → drop start (take start all) ≡ []
drop_taken [] zero = refl
drop_taken [] (suc start) = refl
drop_taken (first ∷ rest) zero = refl
drop_taken (first ∷ rest) (suc start) = drop_taken rest start
