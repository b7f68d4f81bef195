-- If-then-else beside other branches: it waits for what the condition uses, and each part for what it uses.
use Rattle.std.proofs.Common.{◌≡◌, ◌⊎◌, inl, inr, ℕ, ◌<◌, Bool, true, false, ◌||◌, ◌&&◌, List, [], ◌++◌, Option, Some, refl, sym, subst, ◌∙◌, length, ap}
use Rattle.std.specs.List.{AllByRecursion}
use Rattle.merc_base.specs.Category.{can_fail_of, most_of}
use Rattle.merc_base.specs.declared.category.Category.{Category}
use Rattle.merc_base.specs.declared.category.Most.TheVariants.{Zero}
use Rattle.merc_base.specs.declared.place.Span.{Span}
use Rattle.merc_tree.specs.Types.{replaced}
use Rattle.merc_tree.specs.declared.declarations.Module.{Module}
use Rattle.merc_goal_tree.specs.declared.goal.Symbol.{Symbol}
use Rattle.merc_graded_tree.specs.declared.basic.Procedure.{Procedure}
use Rattle.merc_graded_tree.specs.Nodes.{Node, node, Goal, Conditional, outputs_of}
use Rattle.merc_graded_tree.specs.Variables.{in_node}
use Rattle.merc_grading.specs.Faults.{parallel_faults}
use Rattle.merc_grading.specs.Known.{Known, known_of, known_behind}
use Rattle.merc_grading.specs.Grading.{category_at}
use Rattle.merc_order.specs.Bound.{Bound, with, among}
use Rattle.merc_order.specs.Procedures.{modes_of}
use Rattle.merc_order_laws.specs.Bindings.{Variables, ArmBinds}
use Rattle.merc_order_laws.specs.GoodTree.{node_ends}
use Rattle.merc_order_laws.specs.WrittenGoals.{basic_goals}
use Rattle.merc_order_laws.proofs.Facts.{clash, or_left, or_right, or_cases, either_way}
use Rattle.merc_order_laws.proofs.Written.{all_left, all_right}
use Rattle.merc_value.specs.Value.{Value, Values}
use Rattle.merc_meaning.specs.Trace.{Env, Trace, choose as t_choose}
use Rattle.merc_meaning.specs.Values.{fields}
use Rattle.merc_meaning.specs.Runs.{Program, answers_once, goal_trace, node_trace}
use Rattle.merc_program_laws.specs.Answers.{Never}
use Rattle.merc_program_laws.specs.ValueTypes.{HasType}
use Rattle.merc_program_laws.specs.GoodPrograms.{AreGoodTypes}
use Rattle.merc_program_laws.proofs.Values.{Instance, or_not_left, or_not_right}
use Rattle.merc_program_laws.proofs.Lawful.{Fits, Goes as GoesBehind}
use Rattle.merc_program_laws.proofs.Calls.{LawfulCalls}
use Rattle.merc_program_laws.proofs.Graded.{ends_zero}
use Rattle.merc_program_laws.proofs.TreeCategories.{IsPart, node_law, outputs_within}
use Rattle.merc_core.specs.Rights.{has}
use Rattle.merc_rights.specs.Rights.{Right, used_in, unused_in, bound_in, around}
use Rattle.merc_par_split.specs.Split.{nothing}
use Rattle.merc_par_split.specs.Sites.{are_for}
use Rattle.merc_plan.specs.Branch.{Hold, Gift, BranchCourse, choose as c_choose}
use Rattle.merc_plan.specs.Branches.{Plan, node_branch}
use Rattle.merc_plan.proofs.Flat.{Flat, Each, Like, NotDone, choose, events}
use Rattle.merc_plan.proofs.Judging.{flat, Sure, Keeps, Quiet}
use Rattle.merc_plan.proofs.Shown.{Shown}
use Rattle.merc_plan.proofs.Likes.{like_choose, like_more, like_with, like_answers, like_notdone, each_more, each_and}
use Rattle.merc_plan.proofs.Flats.{flat_choose, sure_choose}
use Rattle.merc_plan.proofs.Events.{events_choose}
use Rattle.merc_plan.proofs.Holds.{keeps_once, keeps_end, quiet_choose, quiet_once, StillHeld, quiet_turns}
use Rattle.merc_script_laws.specs.Parallel.{ArmHas}
use Rattle.merc_script_laws.proofs.Bonds.{Counted, Set, Here, signs, AllUsed, Fit, Fine, After, Match, Names, Ends, Ready, here_or, Used, Rightful, Sound, Proper, Goes}
use Rattle.merc_script_laws.proofs.RightLists.{not_not, those_in, not_those, those_once}
use Rattle.merc_script_laws.proofs.Steps.{unused, Waits, joins_left, fit_waited, match_waited, ready_waited, fine_first, fine_waited}
use Rattle.merc_script_laws.proofs.Seen.{occurring, behind_other}
use Rattle.merc_script_laws.proofs.Holding.{waitable}
use Rattle.merc_script_laws.proofs.Around.{StillWaits}
use Rattle.merc_script_laws.proofs.Sides.{divides_second, divides_those, fit_less, match_less, around_along, around_uses}
use Rattle.merc_script_laws.proofs.Runs.{category_around, outputs_around, once_same}
use Rattle.merc_script_laws.proofs.HoldLaw.{each_event, each_unreached, hold_fits, hold_not_done, leaf_answers, Answered}
use Rattle.merc_script_laws.proofs.Leaf.{wrap}
use Rattle.merc_script_laws.proofs.LeafUses.{match_self, sound_occurring}
use Rattle.merc_script_laws.proofs.JoinedLeaves.{ready_less, fine_less}
use Rattle.merc_script_laws.proofs.Arms.{armed, arm_along, arm_uses}
use Rattle.merc_script_laws.proofs.InTurn.{no_first, no_rest, fits_rest, fits_part}
use Rattle.merc_script_laws.proofs.Turns.{rule_sure, rule_zero}
use Rattle.merc_script_laws.proofs.Ways.{after_way, still_known, proper_way, signs_waited, rightful_waited}
use Rattle.merc_script_laws.proofs.Conditions.{condition_sure, then_part_zero, else_part_zero, here_then, signs_then, fit_then, match_then, ready_then, moves_then, fine_then, rightful_then, rightful_else, fine_wider}

and_false : (a b : Bool) → (a && b) ≡ false → (a ≡ false) ⊎ (b ≡ false)
and_false true b h = inr h
and_false false b h = inl refl

-- Given are the module, the types of the variables, and what type variables stand for; the program of the graded trees, whose calls are lawful; and the plan and
-- the program of the split trees, with the courses of its calls.
module _ (known : Module) (types i : Instance) (declared : AreGoodTypes known.types) (program : Program) (calls : Procedure → Env → Trace) (lawful : LawfulCalls known program calls)
    (plan : Plan) (split : Program) (course : Procedure → Hold → BranchCourse) where
  module _ (c t e : Node) (outs : List ℕ) (cat : Option Category) (span : Span) (makec maket makee : (ℕ → Bool) → List Right → List Right → Node) (fitsc fitst fitse : (ℕ → Bool) → List Right → List Right → Type 0)
      (gc : Goes known types i program calls plan split course c makec fitsc) (gt : Goes known types i program calls plan split course t maket fitst) (ge : Goes known types i program calls plan split course e makee fitse) where
    abbrev whole : Node
    whole = node (Conditional c t e) outs cat span

    abbrev occurs : Variables
    occurs = with (in_node c) (with (in_node t) (in_node e))

    abbrev joined : (ℕ → Bool) → List Right → List Right → Goal
    joined later w s = Conditional (makec nothing [] []) (armed t maket later w s) (armed e makee later w s)

    abbrev inner : (ℕ → Bool) → List Right → List Right → Node
    inner later w s = node (joined later (unused_in c w) s) outs cat span

    abbrev made : (ℕ → Bool) → List Right → List Right → Node
    made later w s = around (used_in c w) [] (inner later w s)

    abbrev due_inner : (ℕ → Bool) → List Right → List Right → Type 0
    due_inner later w s = fitsc nothing [] [] × (fitst later (used_in t w) (bound_in t s) × fitse later (used_in e w) (bound_in e s))

    abbrev due : (ℕ → Bool) → List Right → List Right → Type 0
    due later w s = due_inner later (unused_in c w) s

    abbrev never : Type 0
    never = most_of (category_at whole) ≡ Zero

    abbrev outs_c : List ℕ
    outs_c = outputs_of c

    in_then : (x : ℕ) → in_node t x ≡ true → occurs x ≡ true
    in_then x h = or_right (in_node c x) (in_node t x || in_node e x) (or_left (in_node t x) (in_node e x) h)

    in_else : (x : ℕ) → in_node e x ≡ true → occurs x ≡ true
    in_else x h = or_right (in_node c x) (in_node t x || in_node e x) (or_right (in_node t x) (in_node e x) h)

    in_first_two : (x : ℕ) → with (in_node c) (in_node t) x ≡ true → occurs x ≡ true
    in_first_two x h = elim (or_cases (in_node c x) (in_node t x) h) as (λ _. occurs x ≡ true) [ inl p ↦ or_left (in_node c x) (in_node t x || in_node e x) p | inr p ↦ in_then x p ]

    -- what occurs outside the condition, the then part and the else part
    module _ (out : Variables) (b : Bound) (seen : Known) (sound : Sound known types i out b seen whole) where
      abbrev out_c : Variables
      out_c = with out (with (in_node t) (in_node e))

      abbrev out_t : Variables
      out_t = with out (with (in_node c) (in_node e))

      abbrev out_e : Variables
      out_e = with out (with (in_node c) (in_node t))

      abbrev b_t : Bound
      b_t = with b (among outs_c)

      abbrev seen_t : Known
      seen_t = known_behind c seen

      rest_parts : AllByRecursion (IsPart known types i) (basic_goals t ++ basic_goals e)
      rest_parts = all_right (IsPart known types i) (basic_goals c) (basic_goals t ++ basic_goals e) sound.parts

      rest_beside : parallel_faults t ++ parallel_faults e ≡ []
      rest_beside = no_rest (parallel_faults c) (parallel_faults t ++ parallel_faults e) sound.parallel.beside

      sound_c : Sound known types i out_c b seen c
      sound_c = record {
        good = sound.good.2.0;
        graded = sound.graded.1.0;
        parts = all_left (IsPart known types i) (basic_goals c) (basic_goals t ++ basic_goals e) sound.parts;
        parallel = record { outputs = sound.parallel.outputs.0; beside = no_first (parallel_faults c) (parallel_faults t ++ parallel_faults e) sound.parallel.beside; few = sound.parallel.few.0 };
      }

      sound_t : Sound known types i out_t b_t seen_t t
      sound_t = record {
        good = sound.good.2.2;
        graded = sound.graded.1.1;
        parts = all_left (IsPart known types i) (basic_goals t) (basic_goals e) rest_parts;
        parallel = record { outputs = sound.parallel.outputs.1.0; beside = no_first (parallel_faults t) (parallel_faults e) rest_beside; few = sound.parallel.few.1.0 };
      }

      sound_e : Sound known types i out_e b seen e
      sound_e = record {
        good = sound.good.2.4;
        graded = sound.graded.1.2;
        parts = all_right (IsPart known types i) (basic_goals t) (basic_goals e) rest_parts;
        parallel = record { outputs = sound.parallel.outputs.2.0; beside = no_rest (parallel_faults t) (parallel_faults e) rest_beside; few = sound.parallel.few.1.1 };
      }

      sub_c : (x : ℕ) → among outs_c x ≡ true → in_node c x ≡ true
      sub_c = outputs_within known types i c out_c b sound_c.good

      -- the then part has the outputs of the whole where the condition may answer
      has_then : (most_of (category_at c) ≡ Zero → ⊥) → ArmHas (modes_of known.preds) outs t
      has_then some = elim sound.parallel.outputs.1.1 as (λ _. ArmHas (modes_of known.preds) outs t) [
        | inl p ↦ absurd (some (ends_zero known.types (modes_of known.preds) types c seen out_c b sound_c.good sound_c.graded p))
        | inr p ↦ p
      ]

      -- Behind the waits for what the condition uses: none of these is for it.
      module _ (later : ℕ → Bool) (w s : List Right) (here : Set) (hold : Hold) (fit : due_inner later w s) (none : (x : ℕ) → in_node c x ≡ true → are_for w x ≡ true → ⊥) (f : Fit b here w hold) (r : Ready here w b occurs) (names : Names hold) where
        abbrev condition : BranchCourse
        condition = node_branch plan split course (makec nothing [] []) hold

        abbrev then_course : Hold → BranchCourse
        then_course d = node_branch plan split course (armed t maket later w s) d

        abbrev else_course : BranchCourse
        else_course = node_branch plan split course (armed e makee later w s) hold

        abbrev Here_t : Set
        Here_t = here_then here outs_c

        fit_c : Fit b here [] hold
        fit_c = fit_less b here w [] hold (λ x h. clash h refl) tt f

        ready_c : Ready here [] b (in_node c)
        ready_c x h k = elim (r x (or_left (in_node c x) (in_node t x || in_node e x) h) k) as (λ _. here x ⊎ (are_for [] x ≡ true)) [ inl p ↦ inl p | inr p ↦ absurd (none x h p) ]

        ready_t : Ready here w b (in_node t)
        ready_t = ready_less here w b occurs (in_node t) in_then r

        ready_e : Ready here w b (in_node e)
        ready_e = ready_less here w b occurs (in_node e) in_else r

        module _ (full : Env) (there : Fits known types i out b occurs seen full) (m : Match w hold full) (counted : Counted s hold) where
          abbrev R : Hold → Env → Type 0
          R = Ends full here [] [] nothing outs_c hold

          abbrev P : Env → Type 0
          P q = GoesBehind known types i out_c b_t (in_node c) seen_t full q × (most_of (category_at c) ≡ Zero → ⊥)

          abbrev RP : Hold → Env → Type 0
          RP d q = R d q × P q

          abbrev Q : Hold → Env → Type 0
          Q = Ends full here w s later outs hold

          fits_c : Fits known types i out_c b (in_node c) seen full
          fits_c =
              fits_part known types i out out_c b (in_node c) occurs seen full (λ x h. or_left (in_node c x) (in_node t x || in_node e x) h) (λ x h. or_left (out x) (in_node t x || in_node e x) h) there

          along_c : Like R (flat condition) (events (node_trace program calls c full)) × Sure (Shown program) condition
          along_c =
              gc.along nothing [] [] out_c b seen here hold full fit.0 (λ x h. clash h refl) (λ x h. clash h refl) sound_c fits_c fit_c (match_less w [] hold full (λ x h. clash h refl) m) ready_c names (λ x h. clash h refl)

          facts_c : Each P (events (node_trace program calls c full))
          facts_c =
              let law = node_law known declared program calls lawful types i c out_c b seen full sound_c.good sound_c.graded sound_c.parts fits_c in
              let u : Flat Env = events (node_trace program calls c full) in
              let G : Env → Type 0 = GoesBehind known types i out_c b_t (in_node c) seen_t full in
              each_and G (λ q. most_of (category_at c) ≡ Zero → ⊥) u (each_event G (node_trace program calls c full) law.goes)
              (each_unreached (most_of (category_at c)) u (λ z. each_event Never (node_trace program calls c full) (law.no_answer z)))

          alike_c : Like RP (flat condition) (events (node_trace program calls c full))
          alike_c = like_with R P (flat condition) (events (node_trace program calls c full)) along_c.0 facts_c

          fits_t : (q : Env) → P q → Fits known types i out_t b_t (in_node t) seen_t q
          fits_t q k =
              fits_rest known types i out out_c out_t b (in_node c) (in_node t) outs_c seen seen_t full q sub_c (λ x h. or_right (out x) (in_node t x || in_node e x) (or_left (in_node t x) (in_node e x) h))
              (λ x h. or_right (out x) (in_node c x || in_node e x) (or_left (in_node c x) (in_node e x) h)) (λ x h. or_left (out x) (in_node c x || in_node e x) h)
              (fits_part known types i out out b (with (in_node c) (in_node t)) occurs seen full in_first_two (λ x h. h) there) k.0

          then_along : (d : Hold) (q : Env) → RP d q → Like Q (flat (then_course d)) (events (node_trace program calls t q)) × Sure (Shown program) (then_course d)
          then_along d q k =
              let a = arm_along known types i declared program calls lawful plan split course t maket fitst gt later w s fit.1.0 out_t b_t seen_t Here_t d sound_t (fit_then b here w nothing outs_c hold d k.0.0 f)
              (ready_then b here w nothing outs_c hold d k.0.0 (in_node t) ready_t) (k.0.0.names names) q (fits_t q k.1) (match_then b here w nothing outs_c hold d k.0.0 full q m k.0.1.0 k.0.1.1)
              (λ x h. counted x h ∙ ap length (sym (k.0.0.unsigned x refl))) outs (has_then k.1.1) in (
                like_more (Ends q Here_t w s later outs d) Q (λ d1 q1 l. (moves_then b here w nothing outs_c hold d k.0.0 s later outs d1 l.0, (l.1.0, λ x v h. l.1.1 x v (k.0.1.1 x v h)))) (flat (then_course d)) (events (node_trace program calls t q)) a.0,
                a.1,
              )

          else_along : Like Q (flat else_course) (events (node_trace program calls e full)) × Sure (Shown program) else_course
          else_along =
              arm_along known types i declared program calls lawful plan split course e makee fitse ge later w s fit.1.1 out_e b seen here hold sound_e f ready_e names full
              (fits_part known types i out out_e b (in_node e) occurs seen full in_else (λ x h. or_left (out x) (in_node c x || in_node t x) h) there) m counted outs sound.parallel.outputs.2.1

          choice_along : Like Q (flat (c_choose then_course else_course condition)) (events (t_choose (λ q. node_trace program calls t q) (node_trace program calls e full) (node_trace program calls c full)))
              × Sure (Shown program) (c_choose then_course else_course condition)
          choice_along =
              let u : Flat Env = events (node_trace program calls c full) in
              let all : Each (λ d. Sure (Shown program) (then_course d)) (flat condition) = each_more (λ d. (q : Env) × RP d q) (λ d. Sure (Shown program) (then_course d)) (λ d k. (then_along d k.0 k.1).1) (flat condition) (like_answers RP (flat condition) u alike_c) in (
                subst (λ z. Like Q z (events (t_choose (λ q. node_trace program calls t q) (node_trace program calls e full) (node_trace program calls c full)))) (sym (flat_choose (Shown program) then_course else_course condition all along_c.1))
                    (subst (λ z. Like Q (choose (λ d. flat (then_course d)) (flat else_course) (flat condition)) z) (sym (events_choose (λ q. node_trace program calls t q) (node_trace program calls e full) (node_trace program calls c full)))
                    (like_choose RP Q (λ d. flat (then_course d)) (λ q. events (node_trace program calls t q)) (λ d q k. (then_along d q k).0) (flat else_course) (events (node_trace program calls e full)) else_along.0 (flat condition) u alike_c)),
                sure_choose (Shown program) then_course else_course condition all else_along.1 along_c.1,
              )

          along_inner : Like Q (flat (node_branch plan split course (node (joined later w s) outs cat span) hold)) (events (node_trace program calls whole full)) × Sure (Shown program) (node_branch plan split course (node (joined later w s) outs cat span) hold)
          along_inner =
              let a = choice_along in
              wrap (Shown program) Q (answers_once outs cat) (c_choose then_course else_course condition) (t_choose (λ q. node_trace program calls t q) (node_trace program calls e full) (node_trace program calls c full)) a.0 a.1

        -- Where what is here is of its types and symbols: the condition is quiet, and behind it is what is known of its answers.
        module _ (fine : Fine known types i out b occurs seen hold) where
          fine_c : Fine known types i out_c b (in_node c) seen hold
          fine_c = fine_first (in_node c) (with (in_node t) (in_node e)) later b here w s outs_c hold hold known types i out seen seen_t fine

          abbrev own_trace : Flat Env
          own_trace = events (node_trace program calls c hold.env)

          own_along : Like (Ends hold.env here [] [] nothing outs_c hold) (flat condition) own_trace
          own_along =
              (gc.along nothing [] [] out_c b (occurring c seen) here hold hold.env fit.0 (λ x h. clash h refl) (λ x h. clash h refl) (sound_occurring known types i out_c b seen c sound_c)
              (hold_fits known types i out_c b seen c here hold fine_c fit_c ready_c) fit_c (match_self hold) ready_c names (λ x h. clash h refl)).0

          quiet_c : Quiet hold.next [] condition
          quiet_c = gc.quiet nothing out_c b seen here hold fit.0 sound_c fine_c fit_c ready_c names

          abbrev Answer_c : Hold → Type 0
          Answer_c = Answered known types i declared program calls lawful out_c b seen c here hold sound_c fine_c fit_c ready_c nothing

          answers_c : Each Answer_c (flat condition)
          answers_c = leaf_answers known types i declared program calls lawful out_c b seen c here hold sound_c fine_c fit_c ready_c nothing (flat condition) own_along

          -- of what occurs in the two parts
          fine_parts : (d : Hold) → Answer_c d → Fine known types i (with out (in_node c)) b_t (with (in_node t) (in_node e)) seen_t d
          fine_parts d k =
              fine_then b here w nothing outs_c hold d k.0 known types i out (in_node c) (with (in_node t) (in_node e)) seen seen_t sub_c (λ x. not_those (in_node c) w x (λ h l. none x l h)) f r names fine k.1.0

          fine_t : (d : Hold) → Answer_c d → Fine known types i out_t b_t (with (in_node t) (in_node e)) seen_t d
          fine_t d k =
              fine_wider known types i (with out (in_node c)) out_t b_t (with (in_node t) (in_node e)) seen_t d wider (fine_parts d k) where
                wider : (x : ℕ) → with out (in_node c) x ≡ true → out_t x ≡ true
                wider x h = elim (or_cases (out x) (in_node c x) h) as (λ _. out_t x ≡ true) [
                  | inl p ↦ or_left (out x) (in_node c x || in_node e x) p
                  | inr p ↦ or_right (out x) (in_node c x || in_node e x) (or_left (in_node c x) (in_node e x) p)
                ]

          fine_e : Fine known types i out_e b occurs seen hold
          fine_e = fine_wider known types i out out_e b occurs seen hold (λ x h. or_left (out x) (in_node c x || in_node t x) h) fine

          module _ (proper : ℕ → Value → Type 0) (rights : ℕ → Bool) (held : List ℕ) (g : List Gift) (is_proper : (x k : ℕ) (v : Value) → are_for s x ≡ true → has k (signs x hold) ≡ true → HasType known.types v (replaced i (types x)) → proper k v)
              (used : AllUsed w occurs) (can : can_fail_of (category_at whole) ≡ false) (q : Rightful w s outs rights held g hold) where
            abbrev Gone : Hold → Type 0
            Gone d = After known types i out b outs occurs seen seen hold d

            abbrev UsedWhole : List ℕ → List Gift → Hold → Type 0
            UsedWhole = Used Gone never here w s later outs hold held g

            cans : ((can_fail_of (category_at c) ≡ false) ⊎ (can_fail_of (category_at e) ≡ false)) × ((most_of (category_at c) ≡ Zero → ⊥) → can_fail_of (category_at t) ≡ false)
            cans = condition_sure (category_at c) (category_at t) (category_at e) (rule_sure known types i (Conditional c t e) outs cat span out b seen sound can)

            used_then : AllUsed w (with (in_node t) (in_node e))
            used_then x h = elim (or_cases (in_node c x) (in_node t x || in_node e x) (used x h)) as (λ _. with (in_node t) (in_node e) x ≡ true) [ inl p ↦ absurd (none x p h) | inr p ↦ p ]

            -- the then part, behind an answer of the condition
            module _ (d : Hold) (k : Answer_c d) (held1 : List ℕ) (g1 : List Gift) (st : StillHeld hold.next held g held1 g1) where
              abbrev GoneThen : Hold → Type 0
              GoneThen d1 = After known types i out_t b_t (outputs_of t) (with (in_node t) (in_node e)) seen_t (known_behind t seen_t) d d1

              abbrev UsedThen : List ℕ → List Gift → Hold → Type 0
              UsedThen = Used GoneThen (most_of (category_at t) ≡ Zero) Here_t w s later outs d held1 g1

              can_t : can_fail_of (category_at t) ≡ false
              can_t = cans.1 k.1.1

              signs_same : (x : ℕ) → signs x d ≡ signs x hold
              signs_same x = signs_then here nothing outs_c hold d k.0 x

              then_gone : (held2 : List ℕ) (g2 : List Gift) (d1 : Hold) → UsedThen held2 g2 d1 → Gone d1
              then_gone held2 g2 d1 u = after_way known types i out b outs occurs seen here w hold d1 fine f r (moves_then b here w nothing outs_c hold d k.0 s later outs d1 u.moves).keep own exact u.behind.typed late where
                own : (x : ℕ) (v : Value) → occurs x ≡ false → Here d1 x v → Here hold x v
                own x v o h =
                    k.1.0.own x v (or_not_left (in_node c x) (in_node t x || in_node e x) o) (u.behind.own x v (or_not_right (in_node c x) (in_node t x || in_node e x) o) h)

                bound_t : (x : ℕ) (v : Value) → occurs x ≡ true → out x ≡ true → Here d1 x v → (with (in_node t) (in_node e) x ≡ true) ⊎ (with (in_node t) (in_node e) x ≡ false) → with b_t (among (outputs_of t)) x ≡ true
                bound_t x v o l h (inl p) = u.behind.exact x v p (or_left (out x) (in_node c x || in_node e x) l) h
                bound_t x v o l h (inr p) = elim (or_cases (in_node c x) (in_node t x || in_node e x) o) as (λ _. with b_t (among (outputs_of t)) x ≡ true) [
                  | inl j ↦ or_left (b_t x) (among (outputs_of t) x) (k.1.0.exact x v j (or_left (out x) (in_node t x || in_node e x) l) (u.behind.own x v p h))
                  | inr j ↦ clash j p
                ]

                owed : (x : ℕ) (v : Value) → ArmBinds (node_ends (modes_of known.preds) c && node_ends (modes_of known.preds) t) out occurs b outs (with b_t (among (outputs_of t))) → occurs x ≡ true → out x ≡ true → Here d1 x v
                    → with b (among outs) x ≡ true
                owed x v (inl p) o l h = elim (and_false (node_ends (modes_of known.preds) c) (node_ends (modes_of known.preds) t) p) as (λ _. with b (among outs) x ≡ true) [
                  | inl j ↦ absurd (k.1.1 (ends_zero known.types (modes_of known.preds) types c seen out_c b sound_c.good sound_c.graded j))
                  | inr j ↦ absurd (u.reached (ends_zero known.types (modes_of known.preds) types t seen_t out_t b_t sound_t.good sound_t.graded j))
                ]
                owed x v (inr binds) o l h = sym (binds x o l) ∙ bound_t x v o l h (either_way (with (in_node t) (in_node e) x))

                exact : (x : ℕ) (v : Value) → occurs x ≡ true → out x ≡ true → Here d1 x v → with b (among outs) x ≡ true
                exact x v o l h = owed x v sound.good.2.3 o l h

                late : (x : ℕ) (sy : Symbol) (v : Value) → are_for w x ≡ true → b x ≡ true → known_of seen x ≡ Some sy → Here d1 x v → (vs : Values) × (fields sy v ≡ Some vs)
                late x sy v h j p l =
                    let other : in_node c x ≡ false = elim (either_way (in_node c x)) as (λ _. in_node c x ≡ false) [ inl z ↦ absurd (none x z h) | inr z ↦ z ] in
                    u.behind.knows x sy v (still_known known types i t out_t b_t seen_t sound_t can_t u.reached x (joins_left b outs_c x j) sy (behind_other c seen x other ∙ p)) l

              then_used : (held2 : List ℕ) (g2 : List Gift) (d1 : Hold) → UsedThen held2 g2 d1 → UsedWhole held2 g2 d1
              then_used held2 g2 d1 u = record {
                moves = moves_then b here w nothing outs_c hold d k.0 s later outs d1 u.moves;
                kept = λ a l h no. u.kept a (low a l) (st.still a l h) (λ x o j p. no x o j (k.0.old x a o p));
                gave = λ x a h j. u.gave x a h (subst (λ z. has a z ≡ true) (sym (signs_same x)) j);
                left = λ a l no. u.left a (low a l) (λ x h j. no x h (subst (λ z. has a z ≡ true) (signs_same x) j)) ∙ st.gifts_same a;
                signed = u.signed;
                unsigned = λ x h. u.unsigned x h ∙ signs_same x;
                behind = then_gone held2 g2 d1 u;
                reached = λ z. elim (then_part_zero (category_at c) (category_at t) (category_at e) (rule_zero known types i (Conditional c t e) outs cat span out b seen sound z)) as (λ _. ⊥) [ inl j ↦ k.1.1 j | inr j ↦ u.reached j ];
              } where
                low : (a : ℕ) → a < hold.next → a < d.next
                low a l = subst (λ n. a < n) (sym k.0.next) l

              then_keeps : Keeps proper UsedWhole rights held1 g1 (then_course d)
              then_keeps =
                  keeps_end proper UsedWhole UsedThen rights then_used (then_course d) held1 g1
                  (arm_uses known types i declared program calls lawful plan split course t maket fitst gt later w s fit.1.0 out_t b_t seen_t Here_t d sound_t (fit_then b here w nothing outs_c hold d k.0 f)
                  (ready_then b here w nothing outs_c hold d k.0 (in_node t) ready_t) (k.0.names names) (with (in_node t) (in_node e)) outs proper rights held1 g1
                  (λ x a v h j ty had. is_proper x a v (those_in (among (outputs_of t)) s x h).0 (subst (λ z. has a z ≡ true) (signs_same x) j) ty) can_t (λ x h. or_left (in_node t x) (in_node e x) h) used_then (fine_t d k)
                  (rightful_then here w s nothing outs_c outs rights held held1 g g1 hold d names q st k.0) (has_then k.1.1))

            -- the else part, where the condition has failed
            module _ (may : can_fail_of (category_at c) ≡ true) (can_e : can_fail_of (category_at e) ≡ false) (held1 : List ℕ) (g1 : List Gift) (st : StillHeld hold.next held g held1 g1) where
              abbrev GoneElse : Hold → Type 0
              GoneElse d1 = After known types i out_e b (outputs_of e) occurs seen (known_behind e seen) hold d1

              abbrev UsedElse : List ℕ → List Gift → Hold → Type 0
              UsedElse = Used GoneElse (most_of (category_at e) ≡ Zero) here w s later outs hold held1 g1

              else_gone : (held2 : List ℕ) (g2 : List Gift) (d1 : Hold) → UsedElse held2 g2 d1 → Gone d1
              else_gone held2 g2 d1 u = after_way known types i out b outs occurs seen here w hold d1 fine f r u.moves.keep u.behind.own exact u.behind.typed late where
                owed : (x : ℕ) (v : Value) → ArmBinds (node_ends (modes_of known.preds) e) out occurs b outs (with b (among (outputs_of e))) → occurs x ≡ true → out x ≡ true → Here d1 x v → with b (among outs) x ≡ true
                owed x v (inl p) o l h = absurd (u.reached (ends_zero known.types (modes_of known.preds) types e seen out_e b sound_e.good sound_e.graded p))
                owed x v (inr binds) o l h = sym (binds x o l) ∙ u.behind.exact x v o (or_left (out x) (in_node c x || in_node t x) l) h

                exact : (x : ℕ) (v : Value) → occurs x ≡ true → out x ≡ true → Here d1 x v → with b (among outs) x ≡ true
                exact x v o l h = owed x v sound.good.2.5 o l h

                late : (x : ℕ) (sy : Symbol) (v : Value) → are_for w x ≡ true → b x ≡ true → known_of seen x ≡ Some sy → Here d1 x v → (vs : Values) × (fields sy v ≡ Some vs)
                late x sy v h j p l = u.behind.knows x sy v (still_known known types i e out_e b seen sound_e can_e u.reached x j sy p) l

              else_used : (held2 : List ℕ) (g2 : List Gift) (d1 : Hold) → UsedElse held2 g2 d1 → UsedWhole held2 g2 d1
              else_used held2 g2 d1 u = record {
                moves = u.moves;
                kept = λ a l h no. u.kept a l (st.still a l h) no;
                gave = u.gave;
                left = λ a l no. u.left a l no ∙ st.gifts_same a;
                signed = u.signed;
                unsigned = u.unsigned;
                behind = else_gone held2 g2 d1 u;
                reached = λ z. u.reached (else_part_zero (category_at c) (category_at t) (category_at e) may (rule_zero known types i (Conditional c t e) outs cat span out b seen sound z));
              }

              else_keeps : Keeps proper UsedWhole rights held1 g1 else_course
              else_keeps =
                  keeps_end proper UsedWhole UsedElse rights else_used else_course held1 g1
                  (arm_uses known types i declared program calls lawful plan split course e makee fitse ge later w s fit.1.1 out_e b seen here hold sound_e f ready_e names occurs outs proper rights held1 g1
                  (λ x a v h j ty had. is_proper x a v (those_in (among (outputs_of e)) s x h).0 j ty) can_e in_else used fine_e (rightful_else w s outs rights held held1 g g1 hold names q st) sound.parallel.outputs.2.1)

            other : (can_fail_of (category_at c) ≡ true) ⊎ (can_fail_of (category_at c) ≡ false)
                → NotDone (flat condition) ⊎ ((held1 : List ℕ) (g1 : List Gift) → StillHeld hold.next held g held1 g1 → Keeps proper UsedWhole rights held1 g1 else_course)
            other (inr h) =
                inl (like_notdone (Ends hold.env here [] [] nothing outs_c hold) (flat condition) own_trace own_along (hold_not_done known types i declared program calls lawful out_c b seen c here hold sound_c fine_c fit_c ready_c h))
            other (inl h) = inr (else_keeps h (elim cans.0 as (λ _. can_fail_of (category_at e) ≡ false) [ inl p ↦ clash h p | inr p ↦ p ]))

            uses_inner : Keeps proper UsedWhole rights held g (node_branch plan split course (node (joined later w s) outs cat span) hold)
            uses_inner =
                keeps_once proper UsedWhole rights (answers_once outs cat) (c_choose then_course else_course condition) held g
                (quiet_turns proper UsedWhole rights hold.next held g q.low then_course else_course condition [] held g quiet_c (λ a h. clash h refl) (λ a l h. h) (λ a. refl) (other (either_way (can_fail_of (category_at c))))
                (each_more Answer_c (λ d. (held1 : List ℕ) (g1 : List Gift) → StillHeld hold.next held g held1 g1 → Keeps proper UsedWhole rights held1 g1 (then_course d)) then_keeps (flat condition) answers_c))

    quiet : (later : ℕ → Bool) (out : Variables) (b : Bound) (seen : Known) (here : Set) (hold : Hold) → due later [] [] → Sound known types i out b seen whole → Fine known types i out b occurs seen hold → Fit b here [] hold
        → Ready here [] b occurs → Names hold → Quiet hold.next [] (node_branch plan split course (inner later [] []) hold)
    quiet later out b seen here hold fit sound fine f r names =
        let none : (x : ℕ) → in_node c x ≡ true → are_for [] x ≡ true → ⊥ = λ x h k. clash k refl in
        let go : Hold → BranchCourse = λ d. node_branch plan split course (maket later [] []) d in
        let other : BranchCourse = node_branch plan split course (makee later [] []) hold in
        let first : BranchCourse = node_branch plan split course (makec nothing [] []) hold in
        let P : Hold → Type 0 = Answer_c out b seen sound later [] [] here hold fit none f r names fine in
        quiet_once hold.next (answers_once outs cat) (c_choose go other first) []
        (quiet_choose hold.next go other first [] (quiet_c out b seen sound later [] [] here hold fit none f r names fine)
        (ge.quiet later (out_e out b seen sound) b seen here hold fit.1.1 (sound_e out b seen sound)
        (fine_less known types i (out_e out b seen sound) b occurs (in_node e) seen hold in_else (fine_e out b seen sound later [] [] here hold fit none f r names fine)) f (ready_less here [] b occurs (in_node e) in_else r) names)
        (each_more P (λ d. Quiet hold.next [] (go d))
        (λ d k.
        subst (λ (m : ℕ). Quiet m [] (go d)) k.0.next
        (gt.quiet later (out_t out b seen sound) (b_t out b seen sound) (seen_t out b seen sound) (here_then here outs_c) d fit.1.0 (sound_t out b seen sound)
        (fine_less known types i (out_t out b seen sound) (b_t out b seen sound) (with (in_node t) (in_node e)) (in_node t) (seen_t out b seen sound) d (λ x h. or_left (in_node t x) (in_node e x) h)
        (fine_t out b seen sound later [] [] here hold fit none f r names fine d k))
        (fit_then b here [] nothing outs_c hold d k.0 f) (ready_then b here [] nothing outs_c hold d k.0 (in_node t) (ready_less here [] b occurs (in_node t) in_then r)) (k.0.names names)))
        (flat first) (answers_c out b seen sound later [] [] here hold fit none f r names fine)))

    -- the rights that are left behind the waits for what the condition uses are not for it
    not_used : (w : List Right) (x : ℕ) → in_node c x ≡ true → are_for (unused_in c w) x ≡ true → ⊥
    not_used w x h k = clash h (not_not (in_node c x) (those_in (unused (in_node c)) w x k).1)

    module _ (later : ℕ → Bool) (w s : List Right) (out : Variables) (b : Bound) (seen : Known) (here : Set) (hold : Hold) (fit : due later w s) (sound : Sound known types i out b seen whole) (f : Fit b here w hold) (r : Ready here w b occurs)
        (names : Names hold) (hold1 : Hold) (p : Waits here (used_in c w) hold hold1) where
      abbrev Here1 : Set
      Here1 = here_or here (used_in c w)

      fit1 : Fit b Here1 (unused_in c w) hold1
      fit1 = let d = divides_those (in_node c) w in fit_waited b here w (used_in c w) (unused_in c w) hold hold1 d.parts d.in1 d.in2 d.apart (those_once (unused (in_node c)) w f.once) f p.moves

      ready1 : Ready Here1 (unused_in c w) b occurs
      ready1 = let d = divides_those (in_node c) w in ready_waited b here w (used_in c w) (unused_in c w) hold hold1 d.parts d.in1 d.in2 d.apart occurs r

      along_waited : (full : Env) → Fits known types i out b occurs seen full → Match w hold full → Counted s hold
          → Like (Ends full Here1 (unused_in c w) s later outs hold1) (flat (node_branch plan split course (inner later w s) hold1)) (events (node_trace program calls whole full)) × Sure (Shown program) (node_branch plan split course (inner later w s) hold1)
      along_waited full there m counted =
          let d = divides_those (in_node c) w in
          along_inner out b seen sound later (unused_in c w) s Here1 hold1 fit (not_used w) fit1 ready1 (p.moves.names names) full there (match_waited b here w (used_in c w) (unused_in c w) hold hold1 d.parts d.in1 d.in2 d.apart full f m p)
          (λ x h. counted x h ∙ ap length (sym (p.moves.unsigned x refl)))

      uses_waited : (proper : ℕ → Value → Type 0) (rights : ℕ → Bool) (held held1 : List ℕ) (g : List Gift) → Proper known types i seen whole s hold proper → AllUsed w occurs → can_fail_of (category_at whole) ≡ false
          → Fine known types i out b occurs seen hold → Rightful w s outs rights held g hold → StillWaits plan split course span (used_in c w) hold held held1
          → Keeps proper (Used (After known types i out b outs occurs seen seen hold1) never Here1 (unused_in c w) s later outs hold1 held1 g) rights held1 g (node_branch plan split course (inner later w s) hold1)
      uses_waited proper rights held held1 g is_proper all can fine q still =
          let d = divides_those (in_node c) w in
          uses_inner out b seen sound later (unused_in c w) s Here1 hold1 fit (not_used w) fit1 ready1 (p.moves.names names)
          (fine_waited b here w (used_in c w) (unused_in c w) hold hold1 d.parts d.in1 d.in2 d.apart known types i out occurs seen (λ x h. all x (those_in (in_node c) w x h).0) f p fine) proper rights held1 g
          (λ x a v h k ty.
          proper_way known types i out b seen occurs outs s hold proper never fine sound.good.1 sound.good.0 q.within is_proper x a v h (subst (λ l. has a l ≡ true) (signs_waited here (used_in c w) hold hold1 p x) k) ty)
          (λ x h. all x (those_in (unused (in_node c)) w x h).0) can (rightful_waited (in_node c) here w s outs rights held held1 g hold hold1 names q p still)

    pub goes_if : Goes known types i program calls plan split course whole made due
    goes_if = record {
      along = λ later w s out b seen here hold full fit all within sound there f m r names counted.
          around_along plan split course (joined later (unused_in c w) s) outs cat span here w (used_in c w) (unused_in c w) s [] s later hold (divides_those (in_node c) w) (divides_second s) (Shown program) names counted (λ x h. clash h refl) b full (events (node_trace program calls whole full)) within
          (once_same (answers_once outs cat) (goal_trace program calls (Conditional c t e) full)) (waitable hold names) f (those_once (in_node c) w f.once) m
          (λ hold1 p. along_waited later w s out b seen here hold fit sound f r names hold1 p full there m counted) (used_in c w) [] refl refl;
      uses = λ later w s out b seen here hold rights held g proper is_proper fit all sound can fine f r names q.
          around_uses plan split course (joined later (unused_in c w) s) outs cat span here w (used_in c w) (unused_in c w) s [] s later hold (divides_those (in_node c) w) (divides_second s) known types i out b occurs seen seen never proper rights held g
          names f q (λ x h. all x (those_in (in_node c) w x h).0) (those_once (in_node c) w f.once) (λ x h. clash h refl)
          (λ x a v d h k at a1 reached. is_proper x a v h k (a1.typed x v at) (λ some sy is_known. a1.knows x sy v is_known at))
          (λ hold1 held1 p still. uses_waited later w s out b seen here hold fit sound f r names hold1 p proper rights held held1 g is_proper all can fine q still) (used_in c w) [] refl refl;
      quiet = quiet;
      rated = λ later w s. category_around (used_in c w) [] (inner later w s);
      shaped = λ later w s. outputs_around (used_in c w) [] (inner later w s);
    }
