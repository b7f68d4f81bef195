-- Facts of disjunctions by what their arms bind.
use Rattle.std.specs.Prelude.{◌≡◌, ◌-◌, ◌||◌, ◌&&◌, not, ℕ, Bool, true, false, List, [], Option, Result, Ok, Err, IfOk, if◌then◌else◌, refl}
use Rattle.std.specs.List.{filter, list_all, list_any}
use Rattle.std.proofs.Common.{◌∙◌, ap, sym, arith, inl, inr}
use Rattle.merc_base.specs.declared.memory.NoMemory.{NoMemory}
use Rattle.merc_base.specs.declared.place.Span.{Span}
use Rattle.merc_tree.specs.declared.declarations.ModeDecl.{ModeDecl}
use Rattle.merc_goal_tree.specs.Nodes.{Nodes, Disjunction, no_nodes, more_nodes}
use Rattle.merc_goal_tree.specs.Variables.{all_variables}
use Rattle.merc_order.specs.Bound.{Bound, among, are_bound}
use Rattle.merc_order.specs.Order.{Arm, any_reached, counting, all_bind, differ_on, shared, reached, some_reached, binds, some_bind, arms, from}
use Rattle.merc_order.specs.Ordered.{is_ready}
use Rattle.merc_goal_facts.specs.declared.facts.Facts.{Facts}
use Rattle.merc_goal_facts.specs.declared.complete.Complete.{Complete}
use Rattle.merc_goal_facts.specs.Arms.{counts, among_all, all_of, those_bound, those_owed}
use Rattle.merc_goal_facts.specs.Bounds.{all_behind}
use Rattle.merc_goal_facts.specs.Complete.{AreKnown}
use Rattle.merc_goal_facts.specs.Facts.{AreFactsOf}
use Rattle.merc_goal_facts.specs.Needs.{found_in, is_needed}
use Rattle.merc_goal_facts.specs.Outside.{occurs_outside, IsStretch}
use Rattle.merc_goal_facts.proofs.ArmLaws.{some_counting, all_counting, bound_of, owed_of, owed_by_some, among-those_bound, among-those_owed, listed_is}
use Rattle.merc_goal_facts.proofs.Found.{both_true, either_true, or_left, or_right, among-filter, owed_by, some_within}
use Rattle.merc_goal_facts.proofs.Needs.{disjunction_needed}
use Rattle.merc_goal_facts.proofs.Outside.{outside_stretch}

any_one : (reached binds : Bool) → (not (reached || true) || binds) ≡ true → ((reached || true) && binds) ≡ true
any_one true binds is = is
any_one false binds is = is

abbrev pub some_count : Bool → List Arm → ℕ → Bool
some_count any arms variable = list_any (λ arm. counts any arm.reached && arm.binds variable) arms

abbrev pub all_count : Bool → List Arm → ℕ → Bool
all_count any arms variable = list_all (λ arm. not (counts any arm.reached) || arm.binds variable) arms

module _ (total : ℕ → ℕ) (modes : ℕ → List ModeDecl) where
  some_reached_is : (goals : Nodes) → any_reached (arms total modes goals) ≡ some_reached total modes goals
  some_reached_is no_nodes = refl
  some_reached_is (more_nodes first rest) = ap (λ b. reached total modes first || b) (some_reached_is rest)

  some_then_bind : (goals : Nodes) (any : Bool) (variable : ℕ) → some_count any (arms total modes goals) variable ≡ true → some_bind total modes goals variable ≡ true
  some_then_bind no_nodes any variable is = cc
  some_then_bind (more_nodes first rest) any variable is =
      let here = counts any (reached total modes first) && binds total modes first variable in
      elim (either_true here (some_count any (arms total modes rest) variable) is) as (λ _. (binds total modes first variable || some_bind total modes rest variable) ≡ true) [
        | inl one ↦ or_left (binds total modes first variable) (some_bind total modes rest variable) (both_true (counts any (reached total modes first)) (binds total modes first variable) one).1
        | inr later ↦ or_right (binds total modes first variable) (some_bind total modes rest variable) (some_then_bind rest any variable later)
      ]

  all_then_some : (goals : Nodes) (variable : ℕ) → among (all_variables goals) variable ≡ true → all_count false (arms total modes goals) variable ≡ true → some_count false (arms total modes goals) variable ≡ true
  all_then_some no_nodes variable inside all = cc
  all_then_some (more_nodes first rest) variable inside all =
      or_left (counts false (reached total modes first) && binds total modes first variable) (some_count false (arms total modes rest) variable)
      (any_one (reached total modes first) (binds total modes first variable)
      (both_true (not (counts false (reached total modes first)) || binds total modes first variable) (all_count false (arms total modes rest) variable) all).0)

  pub disjunction_are : (goals : Nodes) (span : Span) (all : List ℕ) (start end : ℕ) (any : Bool) (some : List ℕ) (every : Option (List ℕ)) (found : Facts) → any ≡ any_reached (arms total modes goals)
      → ((variable : ℕ) → among some variable ≡ some_count any (arms total modes goals) variable) → ((variable : ℕ) → among_all every variable ≡ all_count any (arms total modes goals) variable)
      → found.reached ≡ any → found.binds ≡ filter (λ variable. occurs_outside all start end variable) (those_bound any some (all_behind [] (all_of some every)))
      → found.owed ≡ filter (λ variable. occurs_outside all start end variable) (those_owed any some (all_behind [] (all_of some every))) → found.owed_by_condition ≡ []
      → ((bound : Bound) → is_ready (from total modes (Disjunction goals span) bound) ≡ true → are_bound bound found.needs ≡ true)
      → found.occurrences ≡ end - start → IsStretch total all start end (all_variables goals) → AreFactsOf total modes (Disjunction goals span) found
  disjunction_are goals span all start end any some every found any_is some_are every_are r b o c needed n stretch =
      let inside = all_variables goals in
      let own = arms total modes goals in
      let outer : Bound = λ variable. occurs_outside all start end variable in
      let listed = all_behind [] (all_of some every) in
      let some_is : (variable : ℕ) → among some variable ≡ list_any (λ arm. arm.binds variable) (counting own) =
      λ variable. some_are variable ∙ ap (λ a. some_count a own variable) any_is ∙ sym (some_counting own (λ arm. arm.binds variable)) in
      let every_is : (variable : ℕ) → among_all every variable ≡ all_bind own variable =
      λ variable. every_are variable ∙ ap (λ a. all_count a own variable) any_is ∙ sym (all_counting own (λ arm. arm.binds variable)) in
      let within : (variable : ℕ) → among some variable ≡ true → among inside variable ≡ true =
      λ variable is. some_within total modes goals variable (some_then_bind goals any variable (sym (some_are variable) ∙ is)) in
      let owed_is : (variable : ℕ) → among (those_owed any some listed) variable ≡ differ_on own variable =
      λ variable. among-those_owed any some listed variable
      ∙ owed_of any (among some variable) (among_all every variable) (among listed variable) (listed_is some every variable)
      ∙ ap (λ a. a && among some variable && not (among_all every variable)) any_is
      ∙ ap (λ s. any_reached own && s && not (among_all every variable)) (some_is variable)
      ∙ ap (λ e. any_reached own && list_any (λ arm. arm.binds variable) (counting own) && not e) (every_is variable) in
      record {
        reached_is = r ∙ any_is ∙ some_reached_is goals;
        binds_are = λ variable. ap (λ l. among l variable) b ∙ among-filter outer (those_bound any some listed) variable
            ∙ ap (λ t. t && outer variable) (among-those_bound any some listed variable)
            ∙ bound_of any (among some variable) (among_all every variable) (among listed variable) (among inside variable) (outer variable) (within variable)
            (λ none in_it by_all. some_are variable ∙ ap (λ a. some_count a own variable) none
            ∙ all_then_some goals variable in_it (sym (ap (λ a. all_count a own variable) none) ∙ sym (every_are variable) ∙ by_all))
            (listed_is some every variable)
            ∙ ap (λ t. (among inside variable && t) && (if any then among some variable else among_all every variable)) (outside_stretch total modes all start end inside variable stretch)
            ∙ ap (λ a. shared total modes inside variable && (if a then among some variable else among_all every variable)) any_is
            ∙ ap (λ s. shared total modes inside variable && (if any_reached own then s else among_all every variable)) (some_is variable)
            ∙ ap (λ e. shared total modes inside variable && (if any_reached own then list_any (λ arm. arm.binds variable) (counting own) else e)) (every_is variable);
        owed_are = λ bound. ap (are_bound bound) o
            ∙ owed_by total modes all start end inside inside (those_owed any some listed) (differ_on own) bound stretch owed_is
            (λ variable differ. within variable (some_is variable ∙ owed_by_some (any_reached own) (list_any (λ arm. arm.binds variable) (counting own)) (all_bind own variable) differ));
        owed_by_condition_are = λ bound. ap (are_bound bound) c;
        needed = needed;
        occurrences_are = n ∙ (let e = stretch.end_is in let s = stretch.start_is in omega arith);
      }

-- what is found of the arms of goals that are known
pub record AreArms (facts : List Facts) (joined : List Complete) (any : Bool) (some : List ℕ) (every : Option (List ℕ)) : Type 0 where
  pub any_is : (total : ℕ → ℕ) (modes : ℕ → List ModeDecl) (goals : Nodes) → AreKnown total modes facts joined goals → any ≡ any_reached (arms total modes goals)
  pub some_are : (total : ℕ → ℕ) (modes : ℕ → List ModeDecl) (goals : Nodes) (variable : ℕ) → AreKnown total modes facts joined goals → among some variable ≡ some_count any (arms total modes goals) variable
  pub every_are : (total : ℕ → ℕ) (modes : ℕ → List ModeDecl) (goals : Nodes) (variable : ℕ) → AreKnown total modes facts joined goals → among_all every variable ≡ all_count any (arms total modes goals) variable

pub found_are : (facts : List Facts) (joined : List Complete) (all : List ℕ) (start end : ℕ) (any : Bool) (some slice slice' others : List ℕ) (every : Option (List ℕ)) (result : Result Facts NoMemory) → AreArms facts joined any some every
    → slice ≡ some → slice' ≡ some → others ≡ all_of slice' every → IfOk result (λ found. found.reached ≡ any)
    → IfOk result (λ found. found.binds ≡ filter (λ variable. occurs_outside all start end variable) (those_bound any slice (all_behind [] others)))
    → IfOk result (λ found. found.owed ≡ filter (λ variable. occurs_outside all start end variable) (those_owed any slice (all_behind [] others)))
    → IfOk result (λ found. found.owed_by_condition ≡ []) → IfOk result (λ found. (variable : ℕ) → among found.needs variable ≡ is_needed (found_in facts joined) variable)
    → IfOk result (λ found. found.occurrences ≡ end - start)
    → IfOk result (λ found. (total : ℕ → ℕ) (modes : ℕ → List ModeDecl) (goals : Nodes) (span : Span) → AreKnown total modes facts joined goals → IsStretch total all start end (all_variables goals) → AreFactsOf total modes (Disjunction goals span) found)
found_are facts joined all start end any some slice slice' others every (Ok found) are s s' e r b o c needed n = λ total modes goals span known stretch.
    let same : others ≡ all_of some every = e ∙ ap (λ l. all_of l every) s' in
    let outer = filter (λ variable. occurs_outside all start end variable) in
    disjunction_are total modes goals span all start end any some every found (are.any_is total modes goals known)
    (λ variable. are.some_are total modes goals variable known) (λ variable. are.every_are total modes goals variable known) r
    (b ∙ ap (λ l. outer (those_bound any l (all_behind [] others))) s ∙ ap (λ l. outer (those_bound any some (all_behind [] l))) same)
    (o ∙ ap (λ l. outer (those_owed any l (all_behind [] others))) s ∙ ap (λ l. outer (those_owed any some (all_behind [] l))) same) c
    (disjunction_needed total modes facts joined goals span found.needs known needed) n stretch
found_are facts joined all start end any some slice slice' others every (Err fault) are s s' e r b o c needed n = tt
