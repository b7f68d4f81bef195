-- Where the values of cells are those of a branch's script, what finds its cells by the rights that are left to it finds those that the script has, by numbers.
use Rattle.std.proofs.Common.{◌≡◌, refl, ap, sym, ◌∙◌, subst, arith, inl, inr, ℕ, zero, suc, ◌+◌, ◌-◌, ◌≤◌, Bool, true, false, if◌then◌else◌, List, [], ◌∷◌, ◌++◌, length, map, Option, Some, None}
use Rattle.std.specs.Prelude.{⊤, slice_get}
use Rattle.merc_value.specs.Value.{Value}
use Rattle.merc_graded_tree.specs.Nodes.{Node}
use Rattle.merc_meaning.specs.Trace.{End, RunEnd}
use Rattle.merc_meaning.specs.Runs.{Program}
use Rattle.merc_script.specs.declared.outcome.Outcome.{Outcome}
use Rattle.merc_script.specs.declared.outcome.Outcome.TheVariants.{Ok as Fine, Raise, Limit, Starved, NoMemory}
use Rattle.merc_script.specs.declared.cells.Move.{Move}
use Rattle.merc_script.specs.Script.{Script, Ends, WaitThen, SignalThen, ForkThen, Children, Cell, count, ends}
use Rattle.merc_script.specs.Joining.{joined, later}
use Rattle.merc_core.specs.Rights.{has, without, numbers_of, moved, made_by, used_by, signals_at, waits_at, signals_behind}
use Rattle.merc_core.specs.WellFormed.{WellFormed, ForkFits, most_children, cells_of, cells_in, value_in, gain}
use Rattle.merc_course.specs.Course.{GoalCourse, RunCourse, Meets, AtWait, AtSignal, AtFork, Reply, Given, Passed, Joined, Courses, cut, cut_all}
use Rattle.merc_course.specs.Courses.{node_course, call_course, course}
use Rattle.merc_rights.specs.declared.sites.CellInfo.{CellInfo}
use Rattle.merc_rights.specs.declared.sites.SiteInfo.{SiteInfo}
use Rattle.merc_board.specs.Rights.{Due, Owed, Rights, no_rights, wait_for, signal_for, child_rights, parent_rights}
use Rattle.merc_board.specs.Boarding.{AreCells}
use Rattle.merc_plan.specs.Branch.{NamedCell, Gift, BranchCourse, BranchCourses, no_branches, more_branches, closed, names}
use Rattle.merc_plan.specs.Hold.{named}
use Rattle.merc_plan.specs.Branches.{first_name, root_branch}
use Rattle.merc_plan.specs.BranchScript.{signalled, all_signalled, valued, going, script, scripts, with_numbers, renamed_cell, renamed_move, width, numbered, all_numbered, all_width, no_numbers, root_script}
use Rattle.merc_plan.specs.PlanLists.{plan_of}
use Rattle.merc_plan.proofs.Judging.{kid_count, makes, uses, told_values, NamedFormed, AllNamedFormed}
use Rattle.merc_plan.proofs.NumberingCells.{numbers_renamed, with_old}
use Rattle.merc_plan.proofs.NumberingSizes.{numbered_ends, numbered_count}
use Rattle.merc_plan.proofs.Numbering.{numbered_formed}
use Rattle.merc_plan.proofs.Sets.{absent}
use Rattle.merc_plan.proofs.Givers.{named_low}
use Rattle.merc_plan.proofs.Standing.{IfFine, IsGiven, IfGiven, kid_scripts, fork_cells, Valued, AllValued, script-closed, valued-closed}
use Rattle.merc_plan.proofs.StandingAt.{all-front, all-back, HaveValues, AreSame, fewer-waits, fewer-signals, own-or-moved, own-or-kept, distinct_have, nothing-held}
use Rattle.merc_plan.proofs.Forms.{names_told, made_told, used_told}
use Rattle.merc_carried.specs.KeepsTo.{with_waits, with_signals}
use Rattle.merc_carried.specs.Sharing.{shared_of, given_of, IsForkOf, rights_of_child, rights_behind}
use Rattle.merc_branch_laws.specs.Dealing.{moves_of, Deals, done, raised, limited, ticks, answers, waits as deals_waits, starves, hands as deals_hands, goes_on, ends_there, DealAll, deal_none, deal_more}
use Rattle.merc_branch_laws.proofs.Parts.{part_same}
use Rattle.merc_branch_laws.proofs.Finding.{first_for, rest_for, wait_found, without_owed, signal_found}
use Rattle.merc_branch_laws.proofs.Handing.{names_from, HandsOver}
use Rattle.merc_branch_laws.proofs.Renaming.{renamed_owed, renamed_rights, found_wait, found_signal, child_renamed, parent_renamed, moves_renamed, rights_agree}
use Rattle.merc_branch_laws.proofs.Looking.{are_same, past, rest_past, behind_wait, behind_signal, behind_fork, SeesWait, Looks, looks_done, looks_raised, looks_deep, looks_step, looks_found, looks_wait, looks_starve, looks_signal, looks_fork, LookAll, look_none, look_more}
use Rattle.merc_branch_laws.proofs.Holding.{own_due}
use Rattle.merc_branch_laws.proofs.Keeping.{Kept, kept_none, kept_waited, kept_signalled, moved_waits_left, moved_signals_left, kept_kid, kept_behind}

-- A site's cells are the fork's.

producers_same : (f : ℕ → ℕ) (signals : List ℕ) (gifts : List Gift) (next : ℕ) (infos : List CellInfo)
    → map (λ (one : CellInfo). one.producer) infos ≡ map (λ (cell : Cell). cell.producer) (map (renamed_cell f) (map (valued signals gifts) (named next infos)))
producers_same f signals gifts next [] = refl
producers_same f signals gifts next (info ∷ infos) = ap (λ (l : List ℕ). info.producer ∷ l) (producers_same f signals gifts (suc next) infos)

consumers_same : (f : ℕ → ℕ) (signals : List ℕ) (gifts : List Gift) (next : ℕ) (infos : List CellInfo)
    → map (λ (one : CellInfo). one.consumer) infos ≡ map (λ (cell : Cell). cell.consumer) (map (renamed_cell f) (map (valued signals gifts) (named next infos)))
consumers_same f signals gifts next [] = refl
consumers_same f signals gifts next (info ∷ infos) = ap (λ (l : List ℕ). info.consumer ∷ l) (consumers_same f signals gifts (suc next) infos)

twice : {A B C : Type 0} (g : B → C) (f : A → B) (xs : List A) → map g (map f xs) ≡ map (λ (x : A). g (f x)) xs
twice g f [] = refl
twice {A} {B} {C} g f (x ∷ xs) = ap (λ (l : List C). g (f x) ∷ l) (twice g f xs)

cells_same : (f : ℕ → ℕ) (signals : List ℕ) (gifts : List Gift) (next : ℕ) (info : SiteInfo) (own : List NamedCell) → own ≡ named next info.cells
    → AreCells (shared_of info) (map (renamed_cell f) (map (valued signals gifts) own))
cells_same f signals gifts next info own e =
    subst (λ (l : List NamedCell). AreCells (shared_of info) (map (renamed_cell f) (map (valued signals gifts) l))) (sym e)
    (record {
      producers = twice _ _ info.cells ∙ producers_same f signals gifts next info.cells;
      consumers = twice _ _ info.cells ∙ consumers_same f signals gifts next info.cells;
    })

scripts_counted : (l : ℕ) (g : List ℕ) (ks : BranchCourses) → kid_count ks ≡ count (scripts l g ks)
scripts_counted l g no_branches = refl
scripts_counted l g (more_branches t more) = ap suc (scripts_counted l (g ++ signalled (script false l 0 g t)) more)

abbrev all_left : List Due → Rights → Rights
all_left pending left = record { waits = pending ++ left.waits; signals = left.signals }

-- Own names are not among those that are held from before.
numbers_kept : (cells : List Cell) (first : ℕ) (numbers : ℕ → ℕ) (next : ℕ) (infos : List CellInfo) (left : Rights) (signals waits : List ℕ) → numbers_of cells ≡ names_from next infos → Kept next signals waits [] left
    → renamed_rights numbers left ≡ renamed_rights (with_numbers cells first numbers) left
numbers_kept cells first numbers next infos left signals waits e k =
    rights_agree numbers (with_numbers cells first numbers) left (λ c h. let l = k.low_waits c h in sym (old c (λ high. absurd (omega (arith, high, l)))))
    (λ c h. let l = k.low_signals c h in sym (old c (λ high. absurd (omega (arith, high, l)))))
  where
    old : (c : ℕ) → (next ≤ c → ⊥) → with_numbers cells first numbers c ≡ numbers c
    old c n = with_old cells first numbers c (absent c (numbers_of cells) (λ h. n (named_low next infos c (subst (λ (l : List ℕ). has c l ≡ true) e h))))

module _ (sites : List SiteInfo) (values : ℕ → Option Value) where
  -- A wait whose cell is given to nobody starves. Formed: what the rest is, by names.
  or_starves : (value : ℕ → Option Value) (numbers : ℕ → ℕ) (first : ℕ) (b : Bool) (rights : Rights) (l s x c : ℕ) (others : List Due) (v : Value) (ks : Courses RunEnd) (next : Reply → RunCourse) (rest : Script)
      (More : Type 0) (Formed : Script → Type 0)
      → wait_for x rights.waits ≡ Some (numbers c, others)
      → values (numbers c) ≡ value c → IfGiven b (IsGiven (Some v) (value c) × More) (value c ≡ None) → Formed (if b then rest else Ends Starved)
      → HaveValues values (cells_of (numbered numbers first (if b then rest else Ends Starved)))
      → (More → Formed rest → HaveValues values (cells_of (numbered numbers first rest)) → Deals sites values (with_waits others rights) l s (next (Given v)) (numbered numbers first rest))
      → Deals sites values rights l s (Meets (AtWait x) ks next) (WaitThen (numbers c) (numbered numbers first (if b then rest else Ends Starved)))
  or_starves value numbers first true rights l s x c others v ks next rest More Formed found same w f a p =
      deals_waits rights l s x (numbers c) others v ks next (numbered numbers first rest) found (same ∙ w.0) (p w.1 f a)
  or_starves value numbers first false rights l s x c others v ks next rest More Formed found same w f a p = starves rights l s x (numbers c) others ks next found (same ∙ w)

  starves_so : (value : ℕ → Option Value) (numbers : ℕ → ℕ) (first : ℕ) (b : Bool) (rights : Rights) (l s x c : ℕ) (others : List Due) (ks : Courses RunEnd) (next : Reply → RunCourse) (More : Type 0)
      → wait_for x rights.waits ≡ Some (numbers c, others) → values (numbers c) ≡ value c → IfGiven b (⊥ × More) (value c ≡ None)
      → Deals sites values rights l s (Meets (AtWait x) ks next) (WaitThen (numbers c) (numbered numbers first (if b then Ends Starved else Ends Starved)))
  starves_so value numbers first true rights l s x c others ks next More found same w = absurd w.0
  starves_so value numbers first false rights l s x c others ks next More found same w = starves rights l s x (numbers c) others ks next found (same ∙ w)

  hands_so : (rights : Rights) (l s x c : ℕ) (o : Owed) (others : List Owed) (v : Value) (ks : Courses RunEnd) (next : Reply → RunCourse) (rest : Script)
      → signal_for x rights.signals ≡ Some (o, others) → o.cell ≡ c → values c ≡ Some v → Deals sites values (with_signals others rights) l s (next Passed) rest
      → Deals sites values rights l s (Meets (AtSignal x v) ks next) (SignalThen c rest)
  hands_so rights l s x c o others v ks next rest found e is deals =
      subst (λ (n : ℕ). Deals sites values rights l s (Meets (AtSignal x v) ks next) (SignalThen n rest)) e (deals_hands rights l s x o others v ks next rest found (ap values e ∙ is) deals)

  past_fork : (o : Outcome) (rights : Rights) (i l s : ℕ) (info : SiteInfo) (cells : List Cell) (moves : List Move) (ks : Courses RunEnd) (next : Reply → RunCourse) (all : Children) (inner : ℕ → ℕ)
      (first : ℕ) (rest : ℕ → Script) (More : ℕ → Type 0) (Formed : ℕ → Script → Type 0) → slice_get sites i ≡ Some info → IsForkOf info cells all → moves ≡ moves_of (given_of info) rights
      → joined l (ends all) ≡ o → DealAll sites values info cells rights l 1 ks all → IfFine o More → Formed (s + gain o) (going o s rest)
      → HaveValues values (cells_of (numbered inner first (going o s rest)))
      → ((n : ℕ) → More n → Formed (s + n) (rest n) → HaveValues values (cells_of (numbered inner first (rest n)))
      → Deals sites values (rights_behind info cells rights) (l - n) (s + n) (next (Joined n)) (numbered inner first (rest n)))
      → Deals sites values rights l s (Meets (AtFork i) ks next) (ForkThen l cells moves all (numbered inner first (going o s rest)))
  past_fork (Fine n) rights i l s info cells moves ks next all inner first rest More Formed is fork are_moves e dealt w f a p =
      goes_on rights l s n i info cells moves ks next all (numbered inner first (rest n)) is fork are_moves dealt e (p n w f a)
  past_fork (Raise text n) rights i l s info cells moves ks next all inner first rest More Formed is fork are_moves e dealt w f a p =
      ends_there rights l s i info cells moves ks next all _ is fork are_moves dealt (λ m q. absurd (cc (e, q))) (sym (ap (later s) e))
  past_fork Limit rights i l s info cells moves ks next all inner first rest More Formed is fork are_moves e dealt w f a p =
      ends_there rights l s i info cells moves ks next all _ is fork are_moves dealt (λ m q. absurd (cc (e, q))) (sym (ap (later s) e))
  past_fork Starved rights i l s info cells moves ks next all inner first rest More Formed is fork are_moves e dealt w f a p =
      ends_there rights l s i info cells moves ks next all _ is fork are_moves dealt (λ m q. absurd (cc (e, q))) (sym (ap (later s) e))
  past_fork NoMemory rights i l s info cells moves ks next all inner first rest More Formed is fork are_moves e dealt w f a p =
      ends_there rights l s i info cells moves ks next all _ is fork are_moves dealt (λ m q. absurd (cc (e, q))) (sym (ap (later s) e))

  -- the right for the cell at a wait, and at a signal

  wait_at : (next : ℕ) (signals waits : List ℕ) (pending : List Due) (left : Rights) (x c : ℕ) → Kept next signals waits pending left → SeesWait pending left.waits x c → has c waits ≡ true
      → first_for x (pending ++ left.waits) ≡ Some c
  wait_at next signals waits pending left x c k sees h = sees left.waits (part_same left.waits) k.no_wait (k.has_waits c h)

  found_at : (numbers : ℕ → ℕ) (x c : ℕ) (pending : List Due) (left : Rights) → first_for x (pending ++ left.waits) ≡ Some c
      → wait_for x (renamed_rights numbers (all_left pending left)).waits ≡ Some (numbers c, (renamed_rights numbers (all_left (rest_for x pending) (behind_wait x pending left))).waits)
  found_at numbers x c pending left e =
      found_wait numbers x c (pending ++ left.waits) (rest_for x pending ++ past x pending left.waits)
      (wait_found x c (pending ++ left.waits) e ∙ ap (λ (l : List Due). Some (c, l)) (rest_past x pending left.waits))

  mutual
    -- As many steps are left to the course as to the script, and as many were made.
    pub deals : (t : GoalCourse) (t' : BranchCourse) (next : ℕ) (frame : Bool) (pending : List Due) (left : Rights) → Looks (plan_of sites) next frame pending left t t'
        → (value : ℕ → Option Value) (numbers : ℕ → ℕ) (signals waits : List ℕ) → AreSame values value numbers signals waits → Kept next signals waits pending left
        → (first l s : ℕ) (g : List ℕ) → Valued value true l g t' → NamedFormed value s signals waits (script true l s g t')
        → HaveValues values (cells_of (numbered numbers first (script true l s g t')))
        → Deals sites values (renamed_rights numbers (all_left pending left)) l s (cut l t) (numbered numbers first (script true l s g t'))
    deals t t' next frame pending left (looks_done _ _ _) value numbers signals waits same k first l s g w f a = done _ l s
    deals t t' next frame pending left (looks_raised _ _ _ _ text) value numbers signals waits same k first l s g w f a = raised _ l s text
    deals t t' next frame pending left (looks_deep _ _ _ _) value numbers signals waits same k first l s g w f a = limited _ l s
    deals t t' next frame pending left (looks_step _ _ _ t1 t2 p) value numbers signals waits same k first zero s g w f a = limited _ 0 s
    deals t t' next frame pending left (looks_step _ _ _ t1 t2 p) value numbers signals waits same k first (suc l) s g w f a =
        ticks _ l s _ _ (deals t1 t2 next frame [] left p value numbers signals waits same k first l (suc s) g w f a)
    deals t t' next frame pending left (looks_found _ _ _ hold t1 t2 h p) value numbers signals waits same k first l s g w f a =
        answers _ l s hold.env _ _ (deals t1 t2 next frame [] left p value numbers signals waits same k first l s g w f a)
    deals t t' next frame pending left (looks_wait _ _ _ _ x c v ks go t2 sees p) value numbers signals waits same k first l s g w f a =
        let at = wait_at next signals waits pending left x c k sees f.0 in
        or_starves value numbers first (has c g) (renamed_rights numbers (all_left pending left)) l s x c _ v (cut_all l ks) _ (script true l s g t2) (Valued value true l g t2)
        (λ r. NamedFormed value s signals (without (c ∷ []) waits) r) (found_at numbers x c pending left at) (same c (inr f.0)) w f.1.1 a
        (λ w' f' a'. deals (go (Given v)) t2 next frame (rest_for x pending) (behind_wait x pending left) p value numbers signals (without (c ∷ []) waits)
        (fewer-waits values value numbers signals waits (c ∷ []) same) (kept_waited next signals waits pending left k x c at) first l s g w' f' a')
    deals t t' next frame pending left (looks_starve _ _ _ _ x c ks go sees) value numbers signals waits same k first l s g w f a =
        starves_so value numbers first (has c g) (renamed_rights numbers (all_left pending left)) l s x c _ (cut_all l ks) _ ⊤
        (found_at numbers x c pending left (wait_at next signals waits pending left x c k sees f.0)) (same c (inr f.0)) w
    deals t t' next frame pending left (looks_signal _ _ _ x c v ks go t2 sees p) value numbers signals waits same k first l s g w f a =
        let o = sees left.signals (part_same left.signals) k.no_signal (k.has_signals c f.0) in
        hands_so (renamed_rights numbers (all_left [] left)) l s x (numbers c) (renamed_owed numbers o.0) (map (renamed_owed numbers) (without_owed c left.signals)) v (cut_all l ks) _ _
        (found_signal numbers x o.0 left.signals (without_owed c left.signals)
        (signal_found x left.signals o.0 k.signal_cells o.1.0 ∙ ap (λ (n : ℕ). Some (o.0, without_owed n left.signals)) o.1.1))
        (ap numbers o.1.1) (same c (inl f.0) ∙ w.0)
        (deals (go Passed) t2 next frame [] (behind_signal c left) p value numbers (without (c ∷ []) signals) waits (fewer-signals values value numbers signals waits (c ∷ []) same)
        (kept_signalled next signals waits left k c) first l s g w.1 f.1.1 a)
    deals t t' next frame pending left (looks_fork _ _ _ i info y ks go kids t2 is counted own hands all_look p) value numbers signals waits same k first l s g w f a =
        let all : Children = kid_scripts l g y kids in
        let cells : List Cell = fork_cells l g y kids in
        let inner : (ℕ → ℕ) = with_numbers cells first numbers in
        let told : (ℕ → Option Value) = told_values value cells in
        let given : List ℕ = without (names y.cells) g in
        let behind : ℕ = first + length cells + all_width all in
        let rest : (ℕ → Script) = λ n. script true (l - n) (s + n) (given ++ all_signalled all) t2 in
        let P : (Cell → Type 0) = λ one. values one.cell ≡ one.value in
        let numbered_cells : List Cell = map (renamed_cell inner) cells in
        let of_kids : List Cell = cells_in (all_numbered inner (first + length cells) all) in
        let of_rest : List Cell = cells_of (numbered inner behind (going (joined l (ends all)) s rest)) in
        let held : List ℕ = signals_behind signals y.moves in
        let awaited : List ℕ = used_by 0 cells ++ without (numbers_of cells) (without (moved false y.moves) waits) in
        let here : HaveValues values numbered_cells = all-front P numbered_cells (of_kids ++ of_rest) a in
        let named_so : numbers_of cells ≡ names_from next info.cells = names_told y kids all ∙ ap names own in
        let used : (n : ℕ) → used_by n cells ≡ uses n (named next info.cells) = λ n. used_told y kids all n ∙ ap (uses n) own in
        let made : (n : ℕ) → made_by n cells ≡ makes n (named next info.cells) = λ n. made_told y kids all n ∙ ap (makes n) own in
        let hand : HandsOver (given_of info) y.moves left = hands left (are_same left) in
        let numbers_here : map inner (names_from next info.cells) ≡ numbers_of numbered_cells = ap (map inner) (sym named_so) ∙ sym (numbers_renamed inner cells) in
        let rights : Rights = renamed_rights numbers left in
        let rights_here : rights ≡ renamed_rights inner left = numbers_kept cells first numbers next info.cells left signals waits named_so k in
        let few : ForkFits s signals waits l cells y.moves (count all) = f.0 in
        let same_count : count (all_numbered inner (first + length cells) all) ≡ info.children = sym (counted ∙ scripts_counted l given kids ∙ sym (numbered_count inner (first + length cells) all)) in
        let children : info.children ≡ count all = counted ∙ scripts_counted l given kids in
        let fork : IsForkOf info numbered_cells (all_numbered inner (first + length cells) all) = record {
          are_cells = cells_same inner _ _ next info y.cells own;
          same_count = same_count;
          some = subst (λ (n : ℕ). 1 ≤ n) (sym children) few.some;
          few = subst (λ (n : ℕ). n ≤ most_children) (sym children) few.few;
        } in
        let are_moves : map (renamed_move numbers) y.moves ≡ moves_of (given_of info) rights =
        ap (map (renamed_move numbers))
        (hand.are_moves (moved_waits_left next signals waits left k info cells y.moves used made hand s l (count all) f.0)
        (moved_signals_left next signals waits left k info cells y.moves used made hand s l (count all) f.0))
        ∙ sym (moves_renamed numbers (given_of info) left) in
        past_fork (joined l (ends all)) rights i l s info numbered_cells (map (renamed_move numbers) y.moves) (cut_all l ks) _ (all_numbered inner (first + length cells) all) inner behind rest
        (λ n. Valued told true (l - n) (given ++ all_signalled all) t2) (λ n r. NamedFormed told n held awaited r) is fork are_moves
        (ap (joined l) (numbered_ends inner (first + length cells) all))
        (all_deal info next left ks kids 1 all_look numbered_cells rights told inner cells y.moves
        (λ n. own-or-moved values value numbers signals waits same s l n cells y.moves (count all) first here f.0 f.1.0)
        (λ n. kept_kid next signals waits left k info cells y.moves used made hand s l (count all) f.0 n)
        (λ n. sym (child_renamed inner (shared_of info) (given_of info) (names_from next info.cells) left n)
        ∙ ap (λ (m : List ℕ). child_rights (shared_of info) (given_of info) m (renamed_rights inner left) n) numbers_here
        ∙ ap (λ (r : Rights). child_rights (shared_of info) (given_of info) (numbers_of numbered_cells) r n) (sym rights_here))
        (first + length cells) l given w.0 f.1.1.0 (all-front P of_kids of_rest (all-back P numbered_cells (of_kids ++ of_rest) a)))
        w.1 f.1.1.1.1 (all-back P of_kids of_rest (all-back P numbered_cells (of_kids ++ of_rest) a))
        (λ n w' f' a'.
        subst (λ (r : Rights). Deals sites values r (l - n) (s + n) (cut (l - n) (go (Joined n))) (numbered inner behind (rest n)))
        (sym (parent_renamed inner (shared_of info) (given_of info) (names_from next info.cells) left)
        ∙ ap (λ (m : List ℕ). parent_rights (shared_of info) (given_of info) m (renamed_rights inner left)) numbers_here
        ∙ ap (λ (r : Rights). parent_rights (shared_of info) (given_of info) (numbers_of numbered_cells) r) (sym rights_here))
        (deals (go (Joined n)) t2 next frame (own_due next info.cells 0) (behind_fork info left) (p n) told inner held awaited
        (own-or-kept values value numbers signals waits same cells y.moves first here)
        (kept_behind next signals waits left k info cells y.moves used made hand s l (count all) f.0) behind (l - n) (s + n)
        (given ++ all_signalled all) w' f' a'))

    -- so it is for the conjuncts, each up to its first answer
    pub all_deal : (info : SiteInfo) (next : ℕ) (left : Rights) (ts : Courses End) (kids : BranchCourses) (n : ℕ) → LookAll (plan_of sites) info next left n ts kids → (own : List Cell) (rights : Rights)
        → (value : ℕ → Option Value) (numbers : ℕ → ℕ) (cells : List Cell) (moves : List Move)
        → ((n : ℕ) → AreSame values value numbers (signals_at n cells moves) (waits_at n cells moves))
        → ((n : ℕ) → Kept (next + length info.cells) (signals_at n cells moves) (waits_at n cells moves) [] (child_rights (shared_of info) (given_of info) (names_from next info.cells) left n))
        → ((n : ℕ) → renamed_rights numbers (child_rights (shared_of info) (given_of info) (names_from next info.cells) left n) ≡ rights_of_child info own rights n)
        → (first l : ℕ) (g : List ℕ) → AllValued value l g kids → AllNamedFormed value cells moves n (scripts l g kids) → HaveValues values (cells_in (all_numbered numbers first (scripts l g kids)))
        → DealAll sites values info own rights l n (cut_all l ts) (all_numbered numbers first (scripts l g kids))
    all_deal info next left ts kids n (look_none _ _ _ _) own rights value numbers cells moves same k dealt first l g w f a = deal_none info own rights l n
    all_deal info next left ts kids n (look_more _ _ _ _ t more_ts t' more p ps) own rights value numbers cells moves same k dealt first l g w f a =
        let one : Script = script false l 0 g t' in
        let P : (Cell → Type 0) = λ one. values one.cell ≡ one.value in
        let here : List Cell = cells_of (numbered numbers first one) in
        let others : List Cell = cells_in (all_numbered numbers (first + width one) (scripts l (g ++ signalled one) more)) in
        let mine : Rights = child_rights (shared_of info) (given_of info) (names_from next info.cells) left n in
        deal_more info own rights l n _ _ _ _
        (subst (λ (r : Rights). Deals sites values r l 0 (cut l t) (numbered numbers first one)) (dealt n)
        (subst (λ (r : Script). Deals sites values (renamed_rights numbers mine) l 0 (cut l t) (numbered numbers first r)) (script-closed t' l 0 g)
        (deals t (closed t') (next + length info.cells) true [] mine (p left (are_same left)) value numbers (signals_at n cells moves) (waits_at n cells moves) (same n) (k n) first l 0 g
        (valued-closed value t' l g w.0)
        (subst (λ (r : Script). NamedFormed value 0 (signals_at n cells moves) (waits_at n cells moves) r) (sym (script-closed t' l 0 g)) f.0)
        (subst (λ (r : Script). HaveValues values (cells_of (numbered numbers first r))) (sym (script-closed t' l 0 g)) (all-front P here others a)))))
        (all_deal info next left more_ts more (suc n) ps own rights value numbers cells moves same k dealt (first + width one) l (g ++ signalled one) w.1 f.1 (all-back P here others a))

-- a goal that is asked, with so many steps
pub root_deals : (sites : List SiteInfo) (program : Program) (goal : Node) (limit : ℕ)
    → Looks (plan_of sites) first_name false [] (record { waits = []; signals = [] }) (node_course program (call_course program (suc limit)) goal []) (root_branch (plan_of sites) program (suc limit) goal)
    → Valued (λ c. None) true limit [] (root_branch (plan_of sites) program (suc limit) goal)
    → NamedFormed (λ c. None) 0 [] [] (script true limit 0 [] (root_branch (plan_of sites) program (suc limit) goal))
    → Deals sites (value_in (cells_of (root_script (plan_of sites) program goal limit))) no_rights limit 0 (course program goal limit) (root_script (plan_of sites) program goal limit)
root_deals sites program goal limit looks w f =
    let values : (ℕ → Option Value) = value_in (cells_of (root_script (plan_of sites) program goal limit)) in
    let formed : WellFormed (root_script (plan_of sites) program goal limit) = numbered_formed (script true limit 0 [] (root_branch (plan_of sites) program (suc limit) goal)) f in
    deals sites values (node_course program (call_course program (suc limit)) goal []) (root_branch (plan_of sites) program (suc limit) goal) first_name false [] (record { waits = []; signals = [] }) looks
    (λ c. None) no_numbers [] [] (nothing-held values) (kept_none first_name (omega arith)) 0 limit 0 [] w f (distinct_have (cells_of (root_script (plan_of sites) program goal limit)) formed.distinct)
