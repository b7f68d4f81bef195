-- A machine that does what a branch does stands at the branch's script, told by numbers, where cells have the values of the script.
use Rattle.std.proofs.Common.{◌≡◌, refl, ap, sym, ◌∙◌, subst, arith, inl, inr, ℕ, zero, suc, ◌+◌, ◌-◌, nat_eq, Bool, true, false, ◌||◌, if◌then◌else◌, List, [], ◌∷◌, ◌++◌, length, map, Option, Some, None}
use Rattle.std.specs.Prelude.{⊤}
use Rattle.std.specs.List.{AllByRecursion}
use Rattle.std.proofs.lemmas.Bool.Decides.{nat_tests}
use Rattle.merc_value.specs.Value.{Value}
use Rattle.merc_graded_tree.specs.Nodes.{Node}
use Rattle.merc_meaning.specs.Trace.{End, RunEnd}
use Rattle.merc_meaning.specs.Runs.{Program}
use Rattle.merc_script.specs.declared.outcome.Outcome.{Outcome}
use Rattle.merc_script.specs.declared.outcome.Outcome.TheVariants.{Ok as Fine, Raise, Limit, Starved, NoMemory}
use Rattle.merc_script.specs.declared.cells.Move.{Move}
use Rattle.merc_script.specs.Script.{Script, Ends, WaitThen, ForkThen, Children, Cell, count, ends}
use Rattle.merc_script.specs.Joining.{joined}
use Rattle.merc_core.specs.Rights.{has, without, numbers_of, moved, made_by, used_by, moved_to, signals_at, waits_at, signals_behind}
use Rattle.merc_core.specs.WellFormed.{AreDistinct, WellFormed, ForkFits, cells_of, cells_in, value_in, gain}
use Rattle.merc_course.specs.Course.{GoalCourse, RunCourse, Meets, AtWait, AtFork, Reply, Given, Passed, Joined, Courses, cut, cut_all}
use Rattle.merc_course.specs.Courses.{node_course, call_course, course}
use Rattle.merc_plan.specs.Branch.{BranchCourse, BranchCourses, closed, names}
use Rattle.merc_plan.specs.Hold.{holding}
use Rattle.merc_plan.specs.Branches.{first_name, Plan, root_branch}
use Rattle.merc_plan.specs.BranchScript.{signalled, all_signalled, going, script, scripts, with_numbers, renamed_cell, renamed_move, width, numbered, all_numbered, all_width, no_numbers, root_script}
use Rattle.merc_plan.specs.Plays.{Plays, ends_done, ends_raised, ends_deep, steps, finds, waits as plays_waits, starves, hands, forks, PlayAll, play_none, play_more}
use Rattle.merc_plan.specs.Stands.{Stands, done, raised, limited, ticks, answers, waits as stands_waits, starves as stands_starves, hands as stands_hands, goes_on, ends_there, StandAll, stand_none, stand_more}
use Rattle.merc_plan.proofs.Judging.{told_values, NamesFit, NamedFormed, AllNamedFormed}
use Rattle.merc_plan.proofs.NumberingLists.{clash, same_number, is_same, in_either, without_in}
use Rattle.merc_plan.proofs.NumberingCells.{with_old, among_all, moved_to_old}
use Rattle.merc_plan.proofs.NumberingSizes.{numbered_ends}
use Rattle.merc_plan.proofs.Numbering.{IsHeld, numbered_formed}
use Rattle.merc_plan.proofs.PlaysNodes.{node_plays}
use Rattle.merc_plan.proofs.Standing.{IfFine, IsGiven, IfGiven, kid_scripts, fork_cells, Valued, AllValued, script-closed, valued-closed}

pub all-front : {A : Type 0} (P : A → Type 0) (xs ys : List A) → AllByRecursion P (xs ++ ys) → AllByRecursion P xs
all-front P [] ys a = tt
all-front P (x ∷ xs) ys a = (a.0, all-front P xs ys a.1)

pub all-back : {A : Type 0} (P : A → Type 0) (xs ys : List A) → AllByRecursion P (xs ++ ys) → AllByRecursion P ys
all-back P [] ys a = a
all-back P (x ∷ xs) ys a = all-back P xs ys a.1

-- Given are the cells' values by numbers.
module _ (values : ℕ → Option Value) where
  -- these cells have theirs
  abbrev pub HaveValues : List Cell → Type 0
  HaveValues cells = AllByRecursion (λ one. values one.cell ≡ one.value) cells

  -- what is held by name has its value by number
  abbrev pub AreSame : (ℕ → Option Value) → (ℕ → ℕ) → List ℕ → List ℕ → Type 0
  AreSame value numbers signals waits = (c : ℕ) → IsHeld signals waits c → values (numbers c) ≡ value c

  pub fewer-waits : (value : ℕ → Option Value) (numbers : ℕ → ℕ) (signals waits gone : List ℕ) → AreSame value numbers signals waits → AreSame value numbers signals (without gone waits)
  fewer-waits value numbers signals waits gone same c (inl h) = same c (inl h)
  fewer-waits value numbers signals waits gone same c (inr h) = same c (inr (without_in c gone waits h).0)

  pub fewer-signals : (value : ℕ → Option Value) (numbers : ℕ → ℕ) (signals waits gone : List ℕ) → AreSame value numbers signals waits → AreSame value numbers (without gone signals) waits
  fewer-signals value numbers signals waits gone same c (inl h) = same c (inl (without_in c gone signals h).0)
  fewer-signals value numbers signals waits gone same c (inr h) = same c (inr h)

  found-value : (inner : ℕ → ℕ) (cells : List Cell) (c : ℕ) → HaveValues (map (renamed_cell inner) cells) → has c (numbers_of cells) ≡ true → values (inner c) ≡ value_in cells c
  found-value inner [] c a e = absurd cc
  found-value inner (one ∷ rest) c a e = by-test (nat_eq one.cell c) (has c (numbers_of rest)) refl (found-value inner rest c a.1) e where
    by-test : (b more : Bool) → nat_eq one.cell c ≡ b → (more ≡ true → values (inner c) ≡ value_in rest c) → (b || more) ≡ true
        → values (inner c) ≡ (if b then one.value else value_in rest c)
    by-test true more q h e = subst (λ n. values (inner n) ≡ one.value) (same_number one.cell c q) a.0
    by-test false more q h e = h e

  -- a fork's own cells are told anew, and others as before
  told-so : (value : ℕ → Option Value) (numbers : ℕ → ℕ) (cells : List Cell) (first : ℕ) → HaveValues (map (renamed_cell (with_numbers cells first numbers)) cells)
      → (c : ℕ) → (has c (numbers_of cells) ≡ false → values (numbers c) ≡ value c) → values (with_numbers cells first numbers c) ≡ told_values value cells c
  told-so value numbers cells first a c same = by-test (has c (numbers_of cells)) refl where
    by-test : (b : Bool) → has c (numbers_of cells) ≡ b → values (with_numbers cells first numbers c) ≡ (if b then value_in cells c else value c)
    by-test true e = found-value (with_numbers cells first numbers) cells c a e
    by-test false e = ap values (with_old cells first numbers c e) ∙ same e

  -- so it is for the rights of a conjunct, and for those behind the fork
  pub own-or-moved : (value : ℕ → Option Value) (numbers : ℕ → ℕ) (signals waits : List ℕ) → AreSame value numbers signals waits → (s l k : ℕ) (cells : List Cell) (moves : List Move) (n first : ℕ)
      → HaveValues (map (renamed_cell (with_numbers cells first numbers)) cells) → ForkFits s signals waits l cells moves n → NamesFit signals cells moves
      → AreSame (told_values value cells) (with_numbers cells first numbers) (signals_at k cells moves) (waits_at k cells moves)
  own-or-moved value numbers signals waits same s l k cells moves n first a fits named c held = told-so value numbers cells first a c (by-kind held) where
    by-kind : IsHeld (signals_at k cells moves) (waits_at k cells moves) c → has c (numbers_of cells) ≡ false → values (numbers c) ≡ value c
    by-kind (inl h) e = elim (in_either c (made_by k cells) (moved_to k true moves) h) [
      | inl i ↦ clash (has c (numbers_of cells)) (among_all (λ one. nat_eq one.producer k) c cells i) e
      | inr i ↦ same c (inl (moved_to_old n signals waits (numbers_of cells) k true c moves fits.each_move named.fresh i).0)
    ]
    by-kind (inr h) e = elim (in_either c (used_by k cells) (moved_to k false moves) h) [
      | inl i ↦ clash (has c (numbers_of cells)) (among_all (λ one. nat_eq one.consumer k) c cells i) e
      | inr i ↦ same c (inr (moved_to_old n signals waits (numbers_of cells) k false c moves fits.each_move named.fresh i).0)
    ]

  pub own-or-kept : (value : ℕ → Option Value) (numbers : ℕ → ℕ) (signals waits : List ℕ) → AreSame value numbers signals waits → (cells : List Cell) (moves : List Move) (first : ℕ)
      → HaveValues (map (renamed_cell (with_numbers cells first numbers)) cells)
      → AreSame (told_values value cells) (with_numbers cells first numbers) (signals_behind signals moves) (used_by 0 cells ++ without (numbers_of cells) (without (moved false moves) waits))
  own-or-kept value numbers signals waits same cells moves first a c held = told-so value numbers cells first a c (by-kind held) where
    by-kind : IsHeld (signals_behind signals moves) (used_by 0 cells ++ without (numbers_of cells) (without (moved false moves) waits)) c → has c (numbers_of cells) ≡ false
        → values (numbers c) ≡ value c
    by-kind (inl h) e = same c (inl (without_in c (moved true moves) signals h).0)
    by-kind (inr h) e = elim (in_either c (used_by 0 cells) (without (numbers_of cells) (without (moved false moves) waits)) h) [
      | inl i ↦ clash (has c (numbers_of cells)) (among_all (λ one. nat_eq one.consumer 0) c cells i) e
      | inr i ↦ same c (inr (without_in c (moved false moves) waits (without_in c (numbers_of cells) (without (moved false moves) waits) i).0).0)
    ]

  -- A wait whose cell is given to nobody starves. Formed: what the rest is, by names.
  or-starves : (value : ℕ → Option Value) (numbers : ℕ → ℕ) (first : ℕ) (b : Bool) (x c : ℕ) (v : Value) (ks : Courses RunEnd) (next : Reply → RunCourse) (rest : Script) (More : Type 0) (Formed : Script → Type 0)
      → values (numbers c) ≡ value c → IfGiven b (IsGiven (Some v) (value c) × More) (value c ≡ None) → Formed (if b then rest else Ends Starved)
      → HaveValues (cells_of (numbered numbers first (if b then rest else Ends Starved)))
      → (More → Formed rest → HaveValues (cells_of (numbered numbers first rest)) → Stands values (next (Given v)) (numbered numbers first rest))
      → Stands values (Meets (AtWait x) ks next) (WaitThen (numbers c) (numbered numbers first (if b then rest else Ends Starved)))
  or-starves value numbers first true x c v ks next rest More Formed same w f a p =
      stands_waits x (numbers c) v ks next (numbered numbers first rest) (same ∙ w.0) (p w.1 f a)
  or-starves value numbers first false x c v ks next rest More Formed same w f a p = stands_starves x (numbers c) ks next (same ∙ w)

  starves-so : (value : ℕ → Option Value) (numbers : ℕ → ℕ) (first : ℕ) (b : Bool) (x c : ℕ) (ks : Courses RunEnd) (next : Reply → RunCourse) (More : Type 0)
      → values (numbers c) ≡ value c → IfGiven b (⊥ × More) (value c ≡ None)
      → Stands values (Meets (AtWait x) ks next) (WaitThen (numbers c) (numbered numbers first (if b then Ends Starved else Ends Starved)))
  starves-so value numbers first true x c ks next More same w = absurd w.0
  starves-so value numbers first false x c ks next More same w = stands_starves x (numbers c) ks next (same ∙ w)

  behind-fork : (o : Outcome) (i l s : ℕ) (cells : List Cell) (moves : List Move) (ks : Courses RunEnd) (next : Reply → RunCourse) (all : Children) (inner : ℕ → ℕ) (first : ℕ) (rest : ℕ → Script)
      → (More : ℕ → Type 0) (Formed : ℕ → Script → Type 0) → joined l (ends all) ≡ o → StandAll values ks all → IfFine o More → Formed (s + gain o) (going o s rest)
      → HaveValues (cells_of (numbered inner first (going o s rest)))
      → ((n : ℕ) → More n → Formed (s + n) (rest n) → HaveValues (cells_of (numbered inner first (rest n))) → Stands values (next (Joined n)) (numbered inner first (rest n)))
      → Stands values (Meets (AtFork i) ks next) (ForkThen l cells moves all (numbered inner first (going o s rest)))
  behind-fork (Fine n) i l s cells moves ks next all inner first rest More Formed e ps w f a p =
      goes_on i l n cells moves ks next all (numbered inner first (rest n)) e ps (p n w f a)
  behind-fork (Raise text n) i l s cells moves ks next all inner first rest More Formed e ps w f a p =
      ends_there i l cells moves ks next all (Raise text (s + n)) (λ m q. absurd cc) ps
  behind-fork Limit i l s cells moves ks next all inner first rest More Formed e ps w f a p = ends_there i l cells moves ks next all Limit (λ m q. absurd cc) ps
  behind-fork Starved i l s cells moves ks next all inner first rest More Formed e ps w f a p = ends_there i l cells moves ks next all Starved (λ m q. absurd cc) ps
  behind-fork NoMemory i l s cells moves ks next all inner first rest More Formed e ps w f a p = ends_there i l cells moves ks next all NoMemory (λ m q. absurd cc) ps

  mutual
    -- A machine with so many steps left stands at the script with so many steps left.
    pub stands : (t : GoalCourse) (t' : BranchCourse) → Plays t t' → (value : ℕ → Option Value) (numbers : ℕ → ℕ) (signals waits : List ℕ) → AreSame value numbers signals waits
        → (first l s : ℕ) (g : List ℕ) → Valued value true l g t' → NamedFormed value s signals waits (script true l s g t') → HaveValues (cells_of (numbered numbers first (script true l s g t')))
        → Stands values (cut l t) (numbered numbers first (script true l s g t'))
    stands t t' ends_done value numbers signals waits same first l s g w f a = done s
    stands t t' (ends_raised e) value numbers signals waits same first l s g w f a = raised e s
    stands t t' ends_deep value numbers signals waits same first l s g w f a = limited
    stands t t' (steps t1 t2 p) value numbers signals waits same first zero s g w f a = limited
    stands t t' (steps t1 t2 p) value numbers signals waits same first (suc l) s g w f a = ticks _ _ (stands t1 t2 p value numbers signals waits same first l (suc s) g w f a)
    stands t t' (finds hold t1 t2 p) value numbers signals waits same first l s g w f a = answers hold.env _ _ (stands t1 t2 p value numbers signals waits same first l s g w f a)
    stands t t' (plays_waits x c v ks next t2 p) value numbers signals waits same first l s g w f a =
        or-starves value numbers first (has c g) x c v (cut_all l ks) _ (script true l s g t2) (Valued value true l g t2) (λ r. NamedFormed value s signals (without (c ∷ []) waits) r)
        (same c (inr f.0)) w f.1.1 a
        (λ w' f' a'. stands (next (Given v)) t2 p value numbers signals (without (c ∷ []) waits) (fewer-waits value numbers signals waits (c ∷ []) same) first l s g w' f' a')
    stands t t' (starves x c ks next) value numbers signals waits same first l s g w f a = starves-so value numbers first (has c g) x c (cut_all l ks) _ ⊤ (same c (inr f.0)) w
    stands t t' (hands x c v ks next t2 p) value numbers signals waits same first l s g w f a =
        stands_hands x (numbers c) v (cut_all l ks) _ _ (same c (inl f.0) ∙ w.0)
        (stands (next Passed) t2 p value numbers (without (c ∷ []) signals) waits (fewer-signals value numbers signals waits (c ∷ []) same) first l s g w.1 f.1.1 a)
    stands t t' (forks i x ks next kids t2 ps p) value numbers signals waits same first l s g w f a =
        let all : Children = kid_scripts l g x kids in
        let cells : List Cell = fork_cells l g x kids in
        let inner : (ℕ → ℕ) = with_numbers cells first numbers in
        let told : (ℕ → Option Value) = told_values value cells in
        let given : List ℕ = without (names x.cells) g in
        let behind : ℕ = first + length cells + all_width all in
        let rest : (ℕ → Script) = λ n. script true (l - n) (s + n) (given ++ all_signalled all) t2 in
        let P : (Cell → Type 0) = λ one. values one.cell ≡ one.value in
        let own : List Cell = map (renamed_cell inner) cells in
        let of_kids : List Cell = cells_in (all_numbered inner (first + length cells) all) in
        let of_rest : List Cell = cells_of (numbered inner behind (going (joined l (ends all)) s rest)) in
        let left : List ℕ = signals_behind signals x.moves in
        let awaited : List ℕ = used_by 0 cells ++ without (numbers_of cells) (without (moved false x.moves) waits) in
        let here : HaveValues own = all-front P own (of_kids ++ of_rest) a in
        behind-fork (joined l (ends all)) i l s own (map (renamed_move numbers) x.moves) (cut_all l ks) _ (all_numbered inner (first + length cells) all) inner behind rest
        (λ n. Valued told true (l - n) (given ++ all_signalled all) t2) (λ n r. NamedFormed told n left awaited r)
        (ap (joined l) (numbered_ends inner (first + length cells) all))
        (all_stand ks kids ps told inner cells x.moves 1 (λ k. own-or-moved value numbers signals waits same s l k cells x.moves (count all) first here f.0 f.1.0)
        (first + length cells) l given w.0 f.1.1.0 (all-front P of_kids of_rest (all-back P own (of_kids ++ of_rest) a)))
        w.1 f.1.1.1.1 (all-back P of_kids of_rest (all-back P own (of_kids ++ of_rest) a))
        (λ n w' f' a'. stands (next (Joined n)) t2 (p n) told inner left awaited (own-or-kept value numbers signals waits same cells x.moves first here) behind (l - n) (s + n)
        (given ++ all_signalled all) w' f' a')

    -- so do the conjuncts' machines, each at its script up to the conjunct's first answer
    pub all_stand : (ts : Courses End) (kids : BranchCourses) → PlayAll ts kids → (value : ℕ → Option Value) (numbers : ℕ → ℕ) (cells : List Cell) (moves : List Move) (k : ℕ)
        → ((k : ℕ) → AreSame value numbers (signals_at k cells moves) (waits_at k cells moves)) → (first l : ℕ) (g : List ℕ)
        → AllValued value l g kids → AllNamedFormed value cells moves k (scripts l g kids) → HaveValues (cells_in (all_numbered numbers first (scripts l g kids)))
        → StandAll values (cut_all l ts) (all_numbered numbers first (scripts l g kids))
    all_stand ts kids play_none value numbers cells moves k same first l g w f a = stand_none
    all_stand ts kids (play_more t ts' t' more p ps) value numbers cells moves k same first l g w f a =
        let one : Script = script false l 0 g t' in
        let P : (Cell → Type 0) = λ one. values one.cell ≡ one.value in
        let here : List Cell = cells_of (numbered numbers first one) in
        let others : List Cell = cells_in (all_numbered numbers (first + width one) (scripts l (g ++ signalled one) more)) in
        stand_more _ _ _ _
        (subst (λ r. Stands values (cut l t) (numbered numbers first r)) (script-closed t' l 0 g)
        (stands t (closed t') p value numbers (signals_at k cells moves) (waits_at k cells moves) (same k) first l 0 g (valued-closed value t' l g w.0)
        (subst (λ r. NamedFormed value 0 (signals_at k cells moves) (waits_at k cells moves) r) (sym (script-closed t' l 0 g)) f.0)
        (subst (λ r. HaveValues (cells_of (numbered numbers first r))) (sym (script-closed t' l 0 g)) (all-front P here others a))))
        (all_stand ts' more ps value numbers cells moves (suc k) same (first + width one) l (g ++ signalled one) w.1 f.1 (all-back P here others a))

  -- a conjunct's machine
  pub conjunct_stands : (t : GoalCourse) (t' : BranchCourse) → Plays t (closed t') → (value : ℕ → Option Value) (numbers : ℕ → ℕ) (signals waits : List ℕ) → AreSame value numbers signals waits
      → (first l : ℕ) (g : List ℕ) → Valued value false l g t' → NamedFormed value 0 signals waits (script false l 0 g t') → HaveValues (cells_of (numbered numbers first (script false l 0 g t')))
      → Stands values (cut l t) (numbered numbers first (script false l 0 g t'))
  conjunct_stands t t' p value numbers signals waits same first l g w f a =
      subst (λ r. Stands values (cut l t) (numbered numbers first r)) (script-closed t' l 0 g)
      (stands t (closed t') p value numbers signals waits same first l 0 g (valued-closed value t' l g w)
      (subst (λ r. NamedFormed value 0 signals waits r) (sym (script-closed t' l 0 g)) f)
      (subst (λ r. HaveValues (cells_of (numbered numbers first r))) (sym (script-closed t' l 0 g)) a))

-- Where no two cells have one number, each has its value in the list of all.

nat-turned : (a b : ℕ) → nat_eq a b ≡ nat_eq b a
nat-turned a b = grind (arith, nat_tests)

neither : (b more : Bool) → (b || more) ≡ false → (b ≡ false) × (more ≡ false)
neither true more e = absurd cc
neither false more e = (refl, e)

-- a cell before those of the list, of another number than each of them
not-first : (one : Cell) (all some : List Cell) → has one.cell (numbers_of some) ≡ false → HaveValues (value_in all) some → HaveValues (value_in (one ∷ all)) some
not-first one all [] e a = tt
not-first one all (other ∷ rest) e a =
    let apart = neither (nat_eq other.cell one.cell) (has one.cell (numbers_of rest)) e in
    (ap (λ b. if b then one.value else value_in all other.cell) (nat-turned one.cell other.cell ∙ apart.0) ∙ a.0, not-first one all rest apart.1 a.1)

pub distinct_have : (cells : List Cell) → AreDistinct (numbers_of cells) → HaveValues (value_in cells) cells
distinct_have [] d = tt
distinct_have (one ∷ rest) d = (ap (λ b. if b then one.value else value_in rest one.cell) (is_same one.cell), not-first one rest rest d.0 (distinct_have rest d.1))

pub nothing-held : (values : ℕ → Option Value) → AreSame values (λ c. None) no_numbers [] []
nothing-held values c (inl h) = absurd cc
nothing-held values c (inr h) = absurd cc

-- A machine of a goal that is asked stands at the goal's script, with so many steps.
pub root_stands : (plan : Plan) (program : Program) (goal : Node) (limit : ℕ) → Valued (λ c. None) true limit [] (root_branch plan program (suc limit) goal)
    → NamedFormed (λ c. None) 0 [] [] (script true limit 0 [] (root_branch plan program (suc limit) goal))
    → Stands (value_in (cells_of (root_script plan program goal limit))) (course program goal limit) (root_script plan program goal limit)
root_stands plan program goal limit w f =
    let values : (ℕ → Option Value) = value_in (cells_of (root_script plan program goal limit)) in
    let formed : WellFormed (root_script plan program goal limit) = numbered_formed (script true limit 0 [] (root_branch plan program (suc limit) goal)) f in
    stands values (node_course program (call_course program (suc limit)) goal []) (root_branch plan program (suc limit) goal) (node_plays plan program (suc limit) goal (holding [] first_name))
    (λ c. None) no_numbers [] [] (nothing-held values) 0 limit 0 [] w f (distinct_have (cells_of (root_script plan program goal limit)) formed.distinct)
