-- A goal's entries are walked from the first to the last.
use Rattle.std.proofs.Common.{◌≡◌, ℕ, zero, suc, ◌+◌, ◌<◌, ◌≤◌, Bool, List, [], ◌∷◌, ◌++◌, length, drop, Option, refl, ap, sym, subst, ◌∙◌, arith}
use Rattle.std.proofs.lemmas.List.{append_assoc, append-nil, length-append}
use Rattle.merc_goals.specs.Written.{Written, WrittenGoals, no_goals, more_goals, Truth, Failure, Equal, Compared, Called, Conjunction, Parallel, Disjunction, Conditional, Negated, Quantified, WrongForm, OutsideProfile}
use Rattle.merc_goals.specs.Entries.{goal_list, goals_in, entries_of, all_entries}
use Rattle.merc_goals.specs.EntryCode.{goals_in-entries_of, goals_in-all_entries}
use Rattle.merc_goals.specs.Entries.{GoalEntry}
use Rattle.merc_goal_tree.specs.Nodes.{Node}
use Rattle.merc_name_resolution.specs.declared.callee.Callee.{Callee}
use Rattle.merc_scopes.specs.declared.occurrence.Occurrence.{Occurrence}
use Rattle.merc_scopes.specs.Bindings.{AreBindings}
use Rattle.merc_flat_form.specs.Levels.{scope_of}
use Rattle.merc_flat_form.specs.FlatForm.{flat}
use Rattle.merc_flat_form.specs.Frames.{AreComing, AreFilled, IsReady, finished}
use Rattle.merc_flat_form.specs.Steps.{IsTakenUp, sub_goals}
use Rattle.merc_flat_form.specs.declared.frames.Frame.{Frame}

-- Behind each entry stand its sub-goals.
abbrev pub AreEnough : List GoalEntry → Type 0
AreEnough [] = Unit {0}
AreEnough (entry ∷ rest) = (sub_goals entry.form ≤ length (goals_in rest)) × AreEnough rest

listed_enough : (goals : WrittenGoals) (behind : List GoalEntry) → length (goal_list goals) ≤ length (goals_in (all_entries goals ++ behind))
listed_enough goals behind = omega (arith, ap length (goals_in-all_entries goals behind), length-append (goal_list goals) (goals_in behind))

one_enough : (goal : Written) (behind : List GoalEntry) → 1 ≤ length (goals_in (entries_of goal ++ behind))
one_enough goal behind = omega (arith, ap length (goals_in-entries_of goal behind))

mutual
  pub enough_entries : (goal : Written) (behind : List GoalEntry) → AreEnough behind → AreEnough (entries_of goal ++ behind)
  enough_entries (Truth span) behind enough = (omega arith, enough)
  enough_entries (Failure span) behind enough = (omega arith, enough)
  enough_entries (Equal at left right span) behind enough = (omega arith, enough)
  enough_entries (Compared at name left right span) behind enough = (omega arith, enough)
  enough_entries (Called at name qualifier arguments span) behind enough = (omega arith, enough)
  enough_entries (Conjunction goals span) behind enough = (listed_enough goals behind, enough_all goals behind enough)
  enough_entries (Parallel goals span) behind enough = (listed_enough goals behind, enough_all goals behind enough)
  enough_entries (Disjunction goals span) behind enough = (listed_enough goals behind, enough_all goals behind enough)
  enough_entries (Conditional condition then_part else_part span) behind enough =
      let order : entries_of condition ++ (entries_of then_part ++ (entries_of else_part ++ behind)) ≡ (entries_of condition ++ (entries_of then_part ++ entries_of else_part)) ++ behind =
      ap (λ l. entries_of condition ++ l) (sym (append_assoc (entries_of then_part) (entries_of else_part) behind))
      ∙ sym (append_assoc (entries_of condition) (entries_of then_part ++ entries_of else_part) behind) in
      let P : List GoalEntry → Type 0 = λ l. (3 ≤ length (goals_in l)) × AreEnough l in
      let third = goals_in-entries_of else_part behind in
      let second = goals_in-entries_of then_part (entries_of else_part ++ behind) ∙ ap (λ l. then_part ∷ l) third in
      let first = goals_in-entries_of condition (entries_of then_part ++ (entries_of else_part ++ behind)) ∙ ap (λ l. condition ∷ l) second in
      let others = enough_entries then_part (entries_of else_part ++ behind) (enough_entries else_part behind enough) in
      subst P order (omega (arith, ap length first), enough_entries condition (entries_of then_part ++ (entries_of else_part ++ behind)) others)
  enough_entries (Negated goal span) behind enough = (one_enough goal behind, enough_entries goal behind enough)
  enough_entries (Quantified variables goal span) behind enough = (one_enough goal behind, enough_entries goal behind enough)
  enough_entries (WrongForm span) behind enough = (omega arith, enough)
  enough_entries (OutsideProfile span) behind enough = (omega arith, enough)

  enough_all : (goals : WrittenGoals) (behind : List GoalEntry) → AreEnough behind → AreEnough (all_entries goals ++ behind)
  enough_all no_goals behind enough = enough
  enough_all (more_goals first rest) behind enough =
      let P : List GoalEntry → Type 0 = λ l. AreEnough l in
      subst P (sym (append_assoc (entries_of first) (all_entries rest) behind)) (enough_entries first (all_entries rest ++ behind) (enough_all rest behind enough))

pub enough_goal : (goal : Written) → AreEnough (entries_of goal)
enough_goal goal = let P : List GoalEntry → Type 0 = λ l. AreEnough l in subst P (append-nil (entries_of goal)) (enough_entries goal [] tt)

enough_drop : (count : ℕ) (entries : List GoalEntry) → AreEnough entries → AreEnough (drop count entries)
enough_drop zero entries enough = enough
enough_drop (suc n) [] enough = tt
enough_drop (suc n) (entry ∷ rest) enough = enough_drop n rest enough.1

pub goals_in-goal : (goal : Written) → goals_in (entries_of goal) ≡ goal ∷ []
goals_in-goal goal = ap goals_in (sym (append-nil (entries_of goal))) ∙ goals_in-entries_of goal []

module _ (blank : ℕ → Bool) where
  bindings_length : (entries : List GoalEntry) (bindings : List (List Occurrence)) → AreBindings blank entries bindings → length entries ≡ length bindings
  bindings_length [] [] are = refl
  bindings_length [] (found ∷ rest) are = absurd are
  bindings_length (entry ∷ entries) [] are = absurd are
  bindings_length (entry ∷ entries) (found ∷ rest) are = ap suc (bindings_length entries rest are.1)

  pub bindings_within : (goal : Written) (entries : List GoalEntry) (bindings : List (List Occurrence)) (index : ℕ) → entries ≡ entries_of goal → AreBindings blank (entries_of goal) bindings
      → index < length entries → index < length bindings
  bindings_within goal entries bindings index are bound within = omega (arith, ap length are, bindings_length (entries_of goal) bindings bound)

  bindings_drop : (count : ℕ) (entries : List GoalEntry) (bindings : List (List Occurrence)) → AreBindings blank entries bindings
      → AreBindings blank (drop count entries) (drop count bindings)
  bindings_drop zero entries bindings are = are
  bindings_drop (suc n) [] [] are = tt
  bindings_drop (suc n) [] (found ∷ rest) are = absurd are
  bindings_drop (suc n) (entry ∷ entries) [] are = absurd are
  bindings_drop (suc n) (entry ∷ entries) (found ∷ rest) are = bindings_drop n entries rest are.1

  module _ (callee : ℕ → Option ℕ → ℕ → Callee) where
    -- the entry at a place is taken up
    pub walked : (goal : Written) (entries : List GoalEntry) (bindings : List (List Occurrence)) (index : ℕ) (entry : GoalEntry) (found : List Occurrence) (frames later : List Frame)
        (levels later_levels : List (List Occurrence)) (nodes later_nodes whole : List Node)
        → entries ≡ entries_of goal → AreBindings blank (entries_of goal) bindings
        → drop index entries ≡ entry ∷ drop (index + 1) entries → drop index bindings ≡ found ∷ drop (index + 1) bindings
        → IsTakenUp blank callee entry.form entry.at entry.span found frames levels nodes later later_levels later_nodes
        → finished blank callee frames (goals_in (drop index entries)) levels nodes ≡ whole
        → AreFilled frames (length nodes) → AreComing frames (length (goals_in (drop index entries)))
        → (finished blank callee later (goals_in (drop (index + 1) entries)) later_levels later_nodes ≡ whole)
        × AreFilled later (length later_nodes) × AreComing later (length (goals_in (drop (index + 1) entries)))
    walked goal entries bindings index entry found frames later levels later_levels nodes later_nodes whole are bound here there up before filled coming =
        let P : List GoalEntry → Type 0 = λ l. AreEnough l in
        let Q : List GoalEntry → Type 0 = λ l. AreBindings blank l (drop index bindings) in
        let R : List (List Occurrence) → Type 0 = λ l. AreBindings blank (entry ∷ drop (index + 1) entries) l in
        let S : List GoalEntry → Type 0 = λ l. AreBindings blank l bindings in
        let T : List GoalEntry → Type 0 = λ l. AreComing frames (length (goals_in l)) in
        let enough = subst P here (enough_drop index entries (subst P (sym are) (enough_goal goal))) in
        let gives = subst R there (subst Q here (bindings_drop index entries bindings (subst S (sym are) bound))) in
        let step = up (goals_in (drop (index + 1) entries)) enough.0 gives.0 in
        (step.0 ∙ ap (λ l. finished blank callee frames (goals_in l) levels nodes) (sym here) ∙ before, step.1 filled, step.2 (subst T here coming))

    -- the begin of the walk
    pub started : (goal : Written) (entries : List GoalEntry) (frames : List Frame) (levels : List (List Occurrence)) (nodes : List Node) → entries ≡ entries_of goal → frames ≡ []
        → (finished blank callee frames (goals_in entries) levels nodes ≡ nodes ++ flat blank callee (scope_of levels) goal)
        × AreComing frames (length (goals_in entries)) × AreFilled frames (length nodes) × IsReady frames
    started goal entries frames levels nodes are none =
        let P : List Frame → Type 0 = λ l. AreComing l (length (goals_in entries)) × AreFilled l (length nodes) × IsReady l in
        let empty = subst P (sym none) (tt, tt, tt) in (
          ap (λ l. finished blank callee l (goals_in entries) levels nodes) none
              ∙ ap (λ l. finished blank callee [] l levels nodes) (ap goals_in are ∙ goals_in-goal goal)
              ∙ ap (λ l. nodes ++ l) (append-nil (flat blank callee (scope_of levels) goal)),
          empty.0,
          empty.1,
          empty.2,
        )

    nothing_left : (frames : List Frame) (levels : List (List Occurrence)) (nodes : List Node) → IsReady frames → AreComing frames 0 → nodes ≡ finished blank callee frames [] levels nodes
    nothing_left [] levels nodes ready coming = sym (append-nil nodes)
    nothing_left (top ∷ below) levels nodes ready coming = absurd (omega (arith, ready, coming.0))

    -- the end of the walk
    pub all_walked : (entries : List GoalEntry) (frames : List Frame) (levels : List (List Occurrence)) (nodes whole : List Node) → entries ≡ []
        → IsReady frames → AreComing frames (length (goals_in entries)) → finished blank callee frames (goals_in entries) levels nodes ≡ whole → nodes ≡ whole
    all_walked entries frames levels nodes whole none ready coming is =
        let P : List GoalEntry → Type 0 = λ l. AreComing frames (length (goals_in l)) in
        nothing_left frames levels nodes ready (subst P none coming) ∙ ap (λ l. finished blank callee frames (goals_in l) levels nodes) (sym none) ∙ is
