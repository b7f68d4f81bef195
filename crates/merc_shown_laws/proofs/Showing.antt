-- Where the values of cells are those of a branch's script, what the branch does, by what it is told, shows along the script the run of the branch's course with
-- the conjuncts one behind the other.
use Rattle.std.proofs.Common.{◌≡◌, refl, ap, sym, ◌∙◌, subst, arith, inl, inr, ℕ, zero, suc, ◌+◌, ◌-◌, Bool, true, false, if◌then◌else◌, List, [], ◌∷◌, ◌++◌, length, map, Option, Some, None}
use Rattle.std.specs.Prelude.{⊤}
use Rattle.std.specs.List.{AllByRecursion}
use Rattle.merc_value.specs.Value.{Value}
use Rattle.merc_graded_tree.specs.Nodes.{Node}
use Rattle.merc_meaning.specs.Trace.{RunEnd, Run, Ends as RunEnds, RunRaised}
use Rattle.merc_meaning.specs.Steps.{value_at}
use Rattle.merc_meaning.specs.Runs.{Program}
use Rattle.merc_script.specs.declared.outcome.Outcome.{Outcome}
use Rattle.merc_script.specs.declared.outcome.Outcome.TheVariants.{Ok as Fine, Raise, Limit, Starved, NoMemory}
use Rattle.merc_script.specs.declared.cells.Move.{Move}
use Rattle.merc_script.specs.Script.{Script, Ends, WaitThen, ForkThen, Children, Cell, ends}
use Rattle.merc_script.specs.Joining.{joined}
use Rattle.merc_core.specs.Rights.{has, without, numbers_of, moved, used_by, signals_behind}
use Rattle.merc_core.specs.WellFormed.{WellFormed, cells_of, cells_in, value_in, gain}
use Rattle.merc_course.specs.Course.{GoalCourse, RunCourse, Meets, AtWait, AtFork, Reply, Given, Passed, Joined, Courses, cut, cut_all}
use Rattle.merc_course.specs.Courses.{node_course, call_course, course}
use Rattle.merc_course.specs.Shown.{shown}
use Rattle.merc_plan.specs.Branch.{Fork, BranchCourse, BranchCourses, Hold, names}
use Rattle.merc_plan.specs.Hold.{holding}
use Rattle.merc_plan.specs.Branches.{first_name, Plan, root_branch}
use Rattle.merc_plan.specs.BranchScript.{all_signalled, going, script, with_numbers, renamed_cell, renamed_move, numbered, all_numbered, all_width, no_numbers, root_script}
use Rattle.merc_plan.specs.Plays.{Plays, ends_done, ends_raised, ends_deep, steps, finds, waits as plays_waits, starves as plays_starves, hands as plays_hands, forks}
use Rattle.merc_plan.proofs.Flat.{Flat}
use Rattle.merc_plan.proofs.Judging.{flat, told_values, NamedFormed, Served, Sure}
use Rattle.merc_plan.proofs.Joins.{fine_joined}
use Rattle.merc_plan.proofs.Numbering.{numbered_formed}
use Rattle.merc_plan.proofs.NumberingSizes.{numbered_ends}
use Rattle.merc_plan.proofs.PlaysNodes.{node_plays}
use Rattle.merc_plan.proofs.Standing.{IfFine, IsGiven, IfGiven, kid_scripts, fork_cells, Valued}
use Rattle.merc_plan.proofs.StandingAt.{HaveValues, AreSame, distinct_have}
use Rattle.merc_carried.specs.KeepsTo.{ShowsEnd}
use Rattle.merc_carried.specs.Runs.{behind_steps}
use Rattle.merc_shown_laws.specs.Shows.{Shows, done, raised, limited, ticks, answers, waits, starves, hands, goes_on, ends_there}
use Rattle.merc_shown_laws.proofs.RunOf.{run_of}
use Rattle.merc_shown_laws.proofs.JoinedRuns.{RunsOn, joined_runs}
use Rattle.merc_shown_laws.proofs.ValuesBehind.{fewer-waits, fewer-signals, own-or-kept}

all-front : {A : Type 0} (P : A → Type 0) (xs ys : List A) → AllByRecursion P (xs ++ ys) → AllByRecursion P xs
all-front P [] ys a = tt
all-front P (x ∷ xs) ys a = (a.0, all-front P xs ys a.1)

all-back : {A : Type 0} (P : A → Type 0) (xs ys : List A) → AllByRecursion P (xs ++ ys) → AllByRecursion P ys
all-back P [] ys a = a
all-back P (x ∷ xs) ys a = all-back P xs ys a.1

-- Given are the cells' values by numbers, the variables of which answers show the values, and what may be asked of each fork.
module _ (values : ℕ → Option Value) (variables : List ℕ) (Holds : Fork → BranchCourses → Type 0) where
  -- A wait whose cell is given to nobody starves. Formed: what the rest is, by names.
  or-starves : (value : ℕ → Option Value) (numbers : ℕ → ℕ) (first l : ℕ) (run : Run) (b : Bool) (x c : ℕ) (v : Value) (ks : Courses RunEnd) (next : Reply → RunCourse) (rest : Script) (More : Type 0) (Formed : Script → Type 0)
      → values (numbers c) ≡ value c → IfGiven b (IsGiven (Some v) (value c) × More) (value c ≡ None) → Formed (if b then rest else Ends Starved)
      → HaveValues values (cells_of (numbered numbers first (if b then rest else Ends Starved)))
      → (More → Formed rest → HaveValues values (cells_of (numbered numbers first rest)) → Shows values l run (next (Given v)) (numbered numbers first rest))
      → Shows values l run (Meets (AtWait x) ks next) (WaitThen (numbers c) (numbered numbers first (if b then rest else Ends Starved)))
  or-starves value numbers first l run true x c v ks next rest More Formed same w f a p =
      waits l run x (numbers c) v ks next (numbered numbers first rest) (same ∙ w.0) (p w.1 f a)
  or-starves value numbers first l run false x c v ks next rest More Formed same w f a p = starves l run x (numbers c) ks next (same ∙ w)

  starves-so : (value : ℕ → Option Value) (numbers : ℕ → ℕ) (first l : ℕ) (run : Run) (b : Bool) (x c : ℕ) (ks : Courses RunEnd) (next : Reply → RunCourse) (More : Type 0)
      → values (numbers c) ≡ value c → IfGiven b (⊥ × More) (value c ≡ None)
      → Shows values l run (Meets (AtWait x) ks next) (WaitThen (numbers c) (numbered numbers first (if b then Ends Starved else Ends Starved)))
  starves-so value numbers first l run true x c ks next More same w = absurd w.0
  starves-so value numbers first l run false x c ks next More same w = starves l run x (numbers c) ks next (same ∙ w)

  -- At a fork of this outcome, behind which stands w. Formed: what the rest is, by names.
  at-fork : (o : Outcome) (i l s : ℕ) (run : Run) (w : Flat Hold) (cells : List Cell) (moves : List Move) (ks : Courses RunEnd) (next : Reply → RunCourse) (all : Children) (inner : ℕ → ℕ) (first : ℕ) (rest : ℕ → Script)
      → (More : ℕ → Type 0) (Formed : ℕ → Script → Type 0) → joined l (ends all) ≡ o → RunsOn variables o l 0 w run → IfFine o More → Formed (s + gain o) (going o s rest)
      → HaveValues values (cells_of (numbered inner first (going o s rest)))
      → ((n : ℕ) → o ≡ Fine n → More n → Formed (s + n) (rest n) → HaveValues values (cells_of (numbered inner first (rest n)))
      → Shows values (l - n) (run_of variables (l - n) w) (next (Joined n)) (numbered inner first (rest n)))
      → Shows values l run (Meets (AtFork i) ks next) (ForkThen l cells moves all (numbered inner first (going o s rest)))
  at-fork (Fine n) i l s run w cells moves ks next all inner first rest More Formed e r m f a p =
      goes_on l n run (run_of variables (l - n) w) i cells moves ks next all (numbered inner first (rest n)) e
      (r.1.1 ∙ ap (λ (k : ℕ). behind_steps k (run_of variables (l - k) w)) (sym (r.1.0 ∙ omega arith))) (p n refl m f a)
  at-fork (Raise text n) i l s run w cells moves ks next all inner first rest More Formed e r m f a p =
      ends_there l run i cells moves ks next all (Raise text (s + n)) (λ k q. absurd cc)
      (subst (λ o. ShowsEnd o run) (sym e) (r.1.1 ∙ ap (λ (k : ℕ). behind_steps k (RunEnds (RunRaised text))) (sym (r.1.0 ∙ omega arith))))
  at-fork Limit i l s run w cells moves ks next all inner first rest More Formed e r m f a p =
      ends_there l run i cells moves ks next all Limit (λ k q. absurd cc) (subst (λ o. ShowsEnd o run) (sym e) r)
  at-fork Starved i l s run w cells moves ks next all inner first rest More Formed e r m f a p =
      ends_there l run i cells moves ks next all Starved (λ k q. absurd cc) (subst (λ o. ShowsEnd o run) (sym e) tt)
  at-fork NoMemory i l s run w cells moves ks next all inner first rest More Formed e r m f a p =
      ends_there l run i cells moves ks next all NoMemory (λ k q. absurd cc) (subst (λ o. ShowsEnd o run) (sym e) tt)

  -- With so many steps left it shows along the script with so many steps left what the flat course has up to so many steps.
  pub shows : (t : GoalCourse) (t' : BranchCourse) → Plays t t' → (value : ℕ → Option Value) (numbers : ℕ → ℕ) (signals awaited : List ℕ) → AreSame values value numbers signals awaited
      → (first l s : ℕ) (g : List ℕ) → Valued value true l g t' → NamedFormed value s signals awaited (script true l s g t') → HaveValues values (cells_of (numbered numbers first (script true l s g t')))
      → Served true g t' → Sure Holds t' → Shows values l (run_of variables l (flat t')) (shown variables (cut l t)) (numbered numbers first (script true l s g t'))
  shows t t' ends_done value numbers signals awaited same first l s g w f a sv su = done l s
  shows t t' (ends_raised e) value numbers signals awaited same first l s g w f a sv su = raised l s e
  shows t t' ends_deep value numbers signals awaited same first l s g w f a sv su = limited l
  shows t t' (steps t1 t2 p) value numbers signals awaited same first zero s g w f a sv su = limited zero
  shows t t' (steps t1 t2 p) value numbers signals awaited same first (suc l) s g w f a sv su =
      ticks l _ _ _ (shows t1 t2 p value numbers signals awaited same first l (suc s) g w f a sv su)
  shows t t' (finds hold t1 t2 p) value numbers signals awaited same first l s g w f a sv su =
      answers l (map (value_at hold.env) variables) _ _ _ (shows t1 t2 p value numbers signals awaited same first l s g w f a sv su)
  shows t t' (plays_waits x c v ks next t2 p) value numbers signals awaited same first l s g w f a sv su =
      or-starves value numbers first l (run_of variables l (flat t2)) (has c g) x c v (cut_all l ks) _ (script true l s g t2) (Valued value true l g t2) (λ r. NamedFormed value s signals (without (c ∷ []) awaited) r)
      (same c (inr f.0)) w f.1.1 a
      (λ w' f' a'. shows (next (Given v)) t2 p value numbers signals (without (c ∷ []) awaited) (fewer-waits values value numbers signals awaited (c ∷ []) same) first l s g w' f' a' sv.1 su)
  shows t t' (plays_starves x c ks next) value numbers signals awaited same first l s g w f a sv su =
      starves-so value numbers first l _ (has c g) x c (cut_all l ks) _ ⊤ (same c (inr f.0)) w
  shows t t' (plays_hands x c v ks next t2 p) value numbers signals awaited same first l s g w f a sv su =
      hands l _ x (numbers c) v (cut_all l ks) _ _ (same c (inl f.0) ∙ w.0)
      (shows (next Passed) t2 p value numbers (without (c ∷ []) signals) awaited (fewer-signals values value numbers signals awaited (c ∷ []) same) first l s g w.1 f.1.1 a sv su)
  shows t t' (forks i x ks next kids t2 ps p) value numbers signals awaited same first l s g w f a sv su =
      let all : Children = kid_scripts l g x kids in
      let cells : List Cell = fork_cells l g x kids in
      let inner : (ℕ → ℕ) = with_numbers cells first numbers in
      let told : (ℕ → Option Value) = told_values value cells in
      let given : List ℕ = without (names x.cells) g in
      let later : ℕ = first + length cells + all_width all in
      let rest : (ℕ → Script) = λ n. script true (l - n) (s + n) (given ++ all_signalled all) t2 in
      let P : (Cell → Type 0) = λ one. values one.cell ≡ one.value in
      let own : List Cell = map (renamed_cell inner) cells in
      let of_kids : List Cell = cells_in (all_numbered inner (first + length cells) all) in
      let of_rest : List Cell = cells_of (numbered inner later (going (joined l (ends all)) s rest)) in
      let left : List ℕ = signals_behind signals x.moves in
      let waited : List ℕ = used_by 0 cells ++ without (numbers_of cells) (without (moved false x.moves) awaited) in
      let here : HaveValues values own = all-front P own (of_kids ++ of_rest) a in
      at-fork (joined l (ends all)) i l s (run_of variables l (flat t')) (flat t2) own (map (renamed_move numbers) x.moves) (cut_all l ks) _ (all_numbered inner (first + length cells) all) inner later rest
      (λ n. Valued told true (l - n) (given ++ all_signalled all) t2) (λ n r. NamedFormed told n left waited r)
      (ap (joined l) (numbered_ends inner (first + length cells) all)) (joined_runs variables Holds kids l given x.before sv.0 su.1.0 (flat t2))
      w.1 f.1.1.1.1 (all-back P of_kids of_rest (all-back P own (of_kids ++ of_rest) a))
      (λ n q w' f' a'.
      let fine = fine_joined Holds kids l n given sv.0 su.1.0 q in
      shows (next (Joined n)) t2 (p n) told inner left waited (own-or-kept values value numbers signals awaited same cells x.moves first here) later (l - n) (s + n) (given ++ all_signalled all) w' f' a'
      (subst (λ y. Served true (given ++ y) t2) (sym fine.0) (sv.1 fine.1)) (su.1.1 fine.1))

nothing-held : (values : ℕ → Option Value) → AreSame values (λ c. None) no_numbers [] []
nothing-held values c (inl h) = absurd cc
nothing-held values c (inr h) = absurd cc

-- a goal that is asked, with so many steps
pub root_shows : (variables : List ℕ) (Holds : Fork → BranchCourses → Type 0) (plan : Plan) (program : Program) (goal : Node) (limit : ℕ) → Valued (λ c. None) true limit [] (root_branch plan program (suc limit) goal)
    → NamedFormed (λ c. None) 0 [] [] (script true limit 0 [] (root_branch plan program (suc limit) goal)) → Served true [] (root_branch plan program (suc limit) goal)
    → Sure Holds (root_branch plan program (suc limit) goal)
    → Shows (value_in (cells_of (root_script plan program goal limit))) limit (run_of variables limit (flat (root_branch plan program (suc limit) goal)))
    (shown variables (course program goal limit)) (root_script plan program goal limit)
root_shows variables Holds plan program goal limit w f sv su =
    let values : (ℕ → Option Value) = value_in (cells_of (root_script plan program goal limit)) in
    let formed : WellFormed (root_script plan program goal limit) = numbered_formed (script true limit 0 [] (root_branch plan program (suc limit) goal)) f in
    shows values variables Holds (node_course program (call_course program (suc limit)) goal []) (root_branch plan program (suc limit) goal) (node_plays plan program (suc limit) goal (holding [] first_name))
    (λ c. None) no_numbers [] [] (nothing-held values) 0 limit 0 [] w f (distinct_have (cells_of (root_script plan program goal limit)) formed.distinct) sv su
