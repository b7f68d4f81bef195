-- The facts of the parts of a body, one part after the other.
use Rattle.std.specs.Prelude.{◌≡◌, ◌≤◌, ◌<◌, ◌+◌, ◌-◌, ℕ, zero, suc, List, [], ◌∷◌, ◌++◌, length, take, drop, map, refl}
use Rattle.std.specs.List.{slice_index_or}
use Rattle.std.proofs.Common.{◌∙◌, ap, sym, subst, arith}
use Rattle.std.proofs.lemmas.List.{append_assoc, length-append, map-append, take-map}
use Rattle.merc_base.specs.declared.place.Span.{Span}
use Rattle.merc_tree.specs.declared.declarations.ModeDecl.{ModeDecl}
use Rattle.merc_goal_tree.specs.declared.entries.Root.{Root}
use Rattle.merc_goal_tree.specs.Nodes.{Node, nodes_of}
use Rattle.merc_goal_tree.specs.Roots.{arity_of, joining, joined}
use Rattle.merc_goal_tree.specs.Variables.{variables, count}
use Rattle.merc_goal_facts.specs.declared.facts.Facts.{Facts}
use Rattle.merc_goal_facts.specs.declared.complete.Complete.{Complete}
use Rattle.merc_goal_facts.specs.declared.knowing.Known.{Known}
use Rattle.merc_goal_facts.specs.Facts.{AreKnown as AllAreKnown, AreFactsOf, all_subgoals}
use Rattle.merc_goal_facts.specs.Complete.{AreKnown}
use Rattle.merc_goal_facts.specs.Knowing.{variables_of_all, starts_from, AreThere, AreComplete}
use Rattle.merc_goal_facts.specs.Occurring.{root_variables}
use Rattle.merc_goal_facts.specs.Outside.{IsStretch}
use Rattle.merc_goal_facts.proofs.CompleteGoals.{counted, known_more, known_take, known_drop, known_last, is_last}
use Rattle.merc_goal_facts.proofs.Joins.{variables_cut, joining_variables, joined_variables, joined_subgoals, last_count}

-- goals of which there are facts

pub there_take : (kept many : ℕ) (complete : List Complete) → AreThere many complete → AreThere many (take kept complete)
there_take zero many [] are = tt
there_take (suc kept) many [] are = tt
there_take zero many (first ∷ rest) are = tt
there_take (suc kept) many (first ∷ rest) (one, are) = (one, there_take kept many rest are)

pub there_drop : (kept many : ℕ) (complete : List Complete) → AreThere many complete → AreThere many (drop kept complete)
there_drop zero many [] are = tt
there_drop (suc kept) many [] are = tt
there_drop zero many (first ∷ rest) are = are
there_drop (suc kept) many (first ∷ rest) (one, are) = there_drop kept many rest are

pub there_more : (many : ℕ) (complete : List Complete) (last : Complete) → AreThere many complete → last.part < many + 1 → AreThere (many + 1) (complete ++ last ∷ [])
there_more many [] last are within = (within, tt)
there_more many (first ∷ rest) last (one, are) within = (omega arith, there_more many rest last are within)

pub there_after : (facts read more : List Facts) (found : Facts) (complete cut last : List Complete) (kept part start : ℕ) → read ≡ facts → more ≡ read ++ found ∷ [] → part ≡ length read
    → cut ≡ take kept complete → last ≡ cut ++ record { part = part; start = start } ∷ [] → AreThere (length facts) complete → AreThere (length more) last
there_after facts read more found complete cut last kept part start read_is more_is part_is cut_is last_is are =
    let long : length more ≡ length facts + 1 = ap (λ l. length l) more_is ∙ length-append read (found ∷ []) ∙ ap (λ l. length l + 1) read_is in
    let within : part < length facts + 1 = let h = ap (λ l. length l) read_is in omega arith in
    subst (λ n. AreThere n last) (sym long) (subst (AreThere (length facts + 1)) (sym (last_is ∙ ap (λ l. l ++ record { part = part; start = start } ∷ []) cut_is))
    (there_more (length facts) (take kept complete) (record { part = part; start = start }) (there_take kept (length facts) complete are) within))

-- places

starts_take : (count start : ℕ) (goals : List Node) → take count (starts_from start goals) ≡ starts_from start (take count goals)
starts_take zero start [] = refl
starts_take (suc count) start [] = refl
starts_take zero start (first ∷ rest) = refl
starts_take (suc count) start (first ∷ rest) = ap (λ l. start ∷ l) (starts_take count (start + length (variables first)) rest)

starts_last : (start : ℕ) (goals : List Node) (last : Node) → starts_from start (goals ++ last ∷ []) ≡ starts_from start goals ++ (start + length (variables_of_all goals)) ∷ []
starts_last start [] last = ap (λ n. n ∷ []) (omega arith)
starts_last start (first ∷ rest) last =
    let behind : start + length (variables first) + length (variables_of_all rest) ≡ start + length (variables first ++ variables_of_all rest) =
    omega (arith, length-append (variables first) (variables_of_all rest)) in
    ap (λ l. start ∷ l) (starts_last (start + length (variables first)) rest last ∙ ap (λ n. starts_from (start + length (variables first)) rest ++ n ∷ []) behind)

start_at : (count start : ℕ) (goals : List Node) (end : ℕ) → count ≤ length goals → end ≡ start + length (variables_of_all goals)
    → slice_index_or (starts_from start goals) count end ≡ start + length (variables_of_all (take count goals))
start_at zero start [] end within is_end = is_end
start_at (suc count) start [] end within is_end = absurd (omega arith)
start_at zero start (first ∷ rest) end within is_end = omega arith
start_at (suc count) start (first ∷ rest) end within is_end =
    let behind : end ≡ start + length (variables first) + length (variables_of_all rest) = omega (arith, is_end, length-append (variables first) (variables_of_all rest)) in
    start_at count (start + length (variables first)) rest end (omega arith) behind ∙ omega (arith, length-append (variables first) (variables_of_all (take count rest)))

-- facts

module _ (total : ℕ → ℕ) (modes : ℕ → List ModeDecl) where
  all_more : (goals : List Node) (facts : List Facts) (goal : Node) (found : Facts) → AllAreKnown total modes goals facts → AreFactsOf total modes goal found
      → AllAreKnown total modes (goals ++ goal ∷ []) (facts ++ found ∷ [])
  all_more [] [] goal found known one = (one, tt)
  all_more [] (other ∷ others) goal found known one = absurd known
  all_more (first ∷ rest) [] goal found known one = absurd known
  all_more (first ∷ rest) (other ∷ others) goal found (here, known) one = (here, all_more rest others goal found known one)

-- One part more.

-- what stands before and behind a part
pub record Spot (total : ℕ → ℕ) (all heads after : List ℕ) (root : Root) (goals : List Node) : Type 0 where
  pub total_is : (variable : ℕ) → total variable ≡ count variable all
  pub whole : all ≡ heads ++ (variables_of_all goals ++ (root_variables root ++ after))
  pub many : arity_of root ≤ length goals

-- what is done with it
pub record Step (all : List ℕ) (root : Root) (old new : Known) (kept start : ℕ) (found : Facts) : Type 0 where
  pub kept_is : kept ≡ length old.complete.items - arity_of root
  pub start_is : start ≡ slice_index_or (map (λ goal. goal.start) old.complete.items) kept old.end
  pub end_is : start + found.occurrences ≤ length all → new.end ≡ start + found.occurrences
  pub facts_are : new.facts.items ≡ old.facts.items ++ found ∷ []
  pub complete_are : new.complete.items ≡ take kept old.complete.items ++ record { part = length old.facts.items; start = start } ∷ []

module _ (total : ℕ → ℕ) (modes : ℕ → List ModeDecl) (all heads after : List ℕ) (root : Root) (span : Span) (goals : List Node) (old new : Known) where
  pub kept_same : (kept : ℕ) → AreComplete total modes heads goals old → kept ≡ length old.complete.items - arity_of root → kept ≡ length goals - arity_of root
  kept_same kept are is = is ∙ ap (λ n. n - arity_of root) (counted total modes old.facts.items old.complete.items goals are.complete_are)

  starts_there : (kept start : ℕ) → AreComplete total modes heads goals old → kept ≤ length goals → start ≡ slice_index_or (map (λ goal. goal.start) old.complete.items) kept old.end
      → start ≡ length heads + length (variables_of_all (take kept goals))
  starts_there kept start are within is = is ∙ ap (λ l. slice_index_or l kept old.end) are.starts_are ∙ start_at kept (length heads) goals old.end within are.end_is

  pub joined_stretch : (kept start : ℕ) → Spot total all heads after root goals → AreComplete total modes heads goals old → kept ≤ length goals
      → start ≡ slice_index_or (map (λ goal. goal.start) old.complete.items) kept old.end → IsStretch total all start old.end (variables_of_all (drop kept goals))
  joined_stretch kept start spot are within is =
      let front = variables_of_all (take kept goals) in
      let back = variables_of_all (drop kept goals) in
      let rest = root_variables root ++ after in
      let place = starts_there kept start are within is in
      record {
        before = heads ++ front;
        after = rest;
        whole = spot.whole ∙ ap (λ l. heads ++ (l ++ rest)) (variables_cut kept goals) ∙ ap (λ l. heads ++ l) (append_assoc front back rest) ∙ sym (append_assoc heads front (back ++ rest));
        start_is = length-append heads front ∙ sym place;
        end_is =
            let one = length-append heads front in
            let two = length-append front back in
            let three = ap length (variables_cut kept goals) in
            let four = are.end_is in
            omega arith;
        total_is = spot.total_is;
      }

  pub completed : (kept start : ℕ) (found : Facts) → Spot total all heads after root goals → Step all root old new kept start found → AreComplete total modes heads goals old
      → AreFactsOf total modes (joining root span (drop (length goals - arity_of root) goals)) found → AreComplete total modes heads (joined root span goals) new
  completed kept start found spot step are found_are =
      let own = length goals - arity_of root in
      let front = take own goals in
      let last = drop own goals in
      let goal = joining root span last in
      let same : kept ≡ own = kept_same kept are step.kept_is in
      let here : Complete = record { part = length old.facts.items; start = start } in
      let place : start ≡ length heads + length (variables_of_all front) =
      starts_there kept start are (omega (arith, same)) step.start_is ∙ ap (λ n. length heads + length (variables_of_all (take n goals))) same in
      let occurrences : found.occurrences ≡ length (variables_of_all last) + length (root_variables root) =
      found_are.occurrences_are ∙ ap (λ l. length l) (joining_variables root span last (last_count root goals spot.many)) ∙ length-append (variables_of_all last) (root_variables root) in
      let cut : length (variables_of_all goals) ≡ length (variables_of_all front) + length (variables_of_all last) =
      ap (λ l. length l) (variables_cut own goals) ∙ length-append (variables_of_all front) (variables_of_all last) in
      let long : length all ≡ length heads + (length (variables_of_all goals) + (length (root_variables root) + length after)) =
      ap (λ l. length l) spot.whole ∙ length-append heads (variables_of_all goals ++ (root_variables root ++ after))
      ∙ ap (λ n. length heads + n) (length-append (variables_of_all goals) (root_variables root ++ after) ∙ ap (λ n. length (variables_of_all goals) + n) (length-append (root_variables root) after)) in
      let complete_are : new.complete.items ≡ take own old.complete.items ++ here ∷ [] = step.complete_are ∙ ap (λ n. take n old.complete.items ++ here ∷ []) same in
      record {
        facts_are =
            subst (AllAreKnown total modes (all_subgoals (nodes_of (joined root span goals)))) (sym step.facts_are)
            (subst (λ l. AllAreKnown total modes l (old.facts.items ++ found ∷ [])) (sym (joined_subgoals root span goals spot.many))
            (all_more total modes (all_subgoals (nodes_of goals)) old.facts.items goal found are.facts_are found_are));
        complete_are =
            subst (λ l. AreKnown total modes l new.complete.items (nodes_of (joined root span goals))) (sym step.facts_are)
            (subst (λ l. AreKnown total modes (old.facts.items ++ found ∷ []) l (nodes_of (joined root span goals))) (sym complete_are)
            (known_last total modes (old.facts.items ++ found ∷ []) (take own old.complete.items) front here goal
            (known_more total modes old.facts.items found (take own old.complete.items) front (known_take total modes old.facts.items own old.complete.items goals are.complete_are))
            (is_last total modes old.facts.items found start goal found_are)));
        starts_are =
            ap (map (λ c. c.start)) complete_are ∙ map-append (λ c. c.start) (take own old.complete.items) (here ∷ [])
            ∙ ap (λ l. l ++ start ∷ []) (sym (take-map (λ c. c.start) own old.complete.items) ∙ ap (take own) are.starts_are ∙ starts_take own (length heads) goals)
            ∙ ap (λ n. starts_from (length heads) front ++ n ∷ []) place ∙ sym (starts_last (length heads) front goal);
        end_is =
            step.end_is (omega (arith, place, occurrences, cut, long))
            ∙ omega (arith, place, occurrences, cut, ap (λ l. length l) (joined_variables root span goals spot.many), length-append (variables_of_all goals) (root_variables root));
      }

  -- The part's facts are found by those of the goals that it joins.
  pub completed_by : (kept start : ℕ) (found : Facts) (last : List Complete) → Spot total all heads after root goals → Step all root old new kept start found → last ≡ drop kept old.complete.items
      → ((joined_goals : List Node) → AreKnown total modes old.facts.items last (nodes_of joined_goals) → IsStretch total all start old.end (variables_of_all joined_goals)
      → AreFactsOf total modes (joining root span joined_goals) found) → AreComplete total modes heads goals old → AreComplete total modes heads (joined root span goals) new
  completed_by kept start found last spot step last_is found_are are =
      let same : kept ≡ length goals - arity_of root = kept_same kept are step.kept_is in
      completed kept start found spot step are
      (subst (λ n. AreFactsOf total modes (joining root span (drop n goals)) found) same
      (found_are (drop kept goals)
      (subst (λ l. AreKnown total modes old.facts.items l (nodes_of (drop kept goals))) (sym last_is) (known_drop total modes old.facts.items kept old.complete.items goals are.complete_are))
      (joined_stretch kept start spot are (omega (arith, same)) step.start_is)))
