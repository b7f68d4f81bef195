-- Behind each entry of a goal stand its sub-goals.
use Rattle.std.proofs.Common.{◌≡◌, ℕ, zero, suc, ◌≤◌, List, [], ◌∷◌, ◌++◌, length, drop, ap, sym, subst, ◌∙◌, arith, length-append}
use Rattle.std.proofs.lemmas.List.{append_assoc, append-nil}
use Rattle.merc_goals.specs.Written.{Written, WrittenGoals, no_goals, more_goals, Truth, Failure, Equal, Compared, Called, Conjunction, Parallel, Disjunction, Conditional, Negated, Quantified, WrongForm, OutsideProfile}
use Rattle.merc_goals.specs.Entries.{entries_of, all_entries, goal_list, goals_in}
use Rattle.merc_goals.specs.EntryCode.{goals_in-entries_of, goals_in-all_entries}
use Rattle.merc_goals.specs.Entries.{GoalEntry}
use Rattle.merc_scopes.specs.Standing.{needs}

abbrev pub IsComplete : List GoalEntry → Type 0
IsComplete [] = Unit {0}
IsComplete (entry ∷ entries) = (needs entry.form ≤ length (goals_in entries)) × IsComplete entries

three_parts : (a b c behind : List GoalEntry) → ((a ++ (b ++ c)) ++ behind) ≡ a ++ (b ++ (c ++ behind))
three_parts a b c behind = append_assoc a (b ++ c) behind ∙ ap (λ l. a ++ l) (append_assoc b c behind)

three_goals : (condition then_part else_part : Written) (behind : List GoalEntry)
    → goals_in (entries_of condition ++ (entries_of then_part ++ (entries_of else_part ++ behind))) ≡ condition ∷ then_part ∷ else_part ∷ goals_in behind
three_goals condition then_part else_part behind =
    goals_in-entries_of condition (entries_of then_part ++ (entries_of else_part ++ behind))
    ∙ ap (λ l. condition ∷ l) (goals_in-entries_of then_part (entries_of else_part ++ behind))
    ∙ ap (λ l. condition ∷ then_part ∷ l) (goals_in-entries_of else_part behind)

some_goals : (goals : WrittenGoals) (behind : List GoalEntry) → length (goal_list goals) ≤ length (goals_in (all_entries goals ++ behind))
some_goals goals behind = omega (arith, ap length (goals_in-all_entries goals behind), length-append (goal_list goals) (goals_in behind))

one_goal : (goal : Written) (behind : List GoalEntry) → 1 ≤ length (goals_in (entries_of goal ++ behind))
one_goal goal behind = omega (arith, ap length (goals_in-entries_of goal behind))

mutual
  complete_goal : (goal : Written) (behind : List GoalEntry) → IsComplete behind → IsComplete (entries_of goal ++ behind)
  complete_goal (Truth span) behind complete = (omega arith, complete)
  complete_goal (Failure span) behind complete = (omega arith, complete)
  complete_goal (Equal at left right span) behind complete = (omega arith, complete)
  complete_goal (Compared at name left right span) behind complete = (omega arith, complete)
  complete_goal (Called at name qualifier arguments span) behind complete = (omega arith, complete)
  complete_goal (Conjunction goals span) behind complete = (some_goals goals behind, complete_goals goals behind complete)
  complete_goal (Parallel goals span) behind complete = (some_goals goals behind, complete_goals goals behind complete)
  complete_goal (Disjunction goals span) behind complete = (some_goals goals behind, complete_goals goals behind complete)
  complete_goal (Conditional condition then_part else_part span) behind complete =
      let P : List GoalEntry → Type 0 = λ l. (3 ≤ length (goals_in l)) × IsComplete l in
      subst P (sym (three_parts (entries_of condition) (entries_of then_part) (entries_of else_part) behind)) (
        (omega (arith, ap length (three_goals condition then_part else_part behind))),
        complete_goal condition _ (complete_goal then_part _ (complete_goal else_part behind complete)),
      )
  complete_goal (Negated goal span) behind complete = (one_goal goal behind, complete_goal goal behind complete)
  complete_goal (Quantified variables goal span) behind complete = (one_goal goal behind, complete_goal goal behind complete)
  complete_goal (WrongForm span) behind complete = (omega arith, complete)
  complete_goal (OutsideProfile span) behind complete = (omega arith, complete)

  complete_goals : (goals : WrittenGoals) (behind : List GoalEntry) → IsComplete behind → IsComplete (all_entries goals ++ behind)
  complete_goals no_goals behind complete = complete
  complete_goals (more_goals first rest) behind complete =
      let P : List GoalEntry → Type 0 = λ l. IsComplete l in
      subst P (sym (append_assoc (entries_of first) (all_entries rest) behind)) (complete_goal first (all_entries rest ++ behind) (complete_goals rest behind complete))

complete_rest : (index : ℕ) (entries : List GoalEntry) → IsComplete entries → IsComplete (drop index entries)
complete_rest zero entries complete = complete
complete_rest (suc index) [] complete = tt
complete_rest (suc index) (entry ∷ entries) complete = complete_rest index entries complete.1

-- the sub-goals of an entry of a goal stand behind it
pub sub_goals : (goal : Written) (index : ℕ) (entry : GoalEntry) (rest : List GoalEntry) → drop index (entries_of goal) ≡ entry ∷ rest → needs entry.form ≤ length (goals_in rest)
sub_goals goal index entry rest begins =
    let P : List GoalEntry → Type 0 = λ l. IsComplete l in
    let Q : List GoalEntry → Type 0 = λ l. IsComplete (drop index l) in
    let whole : IsComplete (drop index (entries_of goal)) = subst Q (append-nil (entries_of goal)) (complete_rest index (entries_of goal ++ []) (complete_goal goal [] tt)) in
    let here = subst P begins whole in here.0
