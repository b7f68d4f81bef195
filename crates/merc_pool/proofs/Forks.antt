-- The conjuncts of a fork.
use Rattle.std.proofs.Common.{◌≡◌, ℕ, zero, suc, ◌+◌, ◌-◌, ◌≤◌, List, [], ◌∷◌, ◌++◌, length, map, Option, Some, None, slice_get, refl, ap, sym, ◌∙◌, subst, arith}
use Rattle.merc_value.specs.Value.{Value}
use Rattle.merc_meaning.specs.Trace.{Run, RunEnd}
use Rattle.merc_script.specs.declared.cells.Move.{Move}
use Rattle.merc_script.specs.Script.{Script, ForkThen, Children, Cell, count}
use Rattle.merc_script.specs.Places.{Place, left_of}
use Rattle.merc_core.specs.WellFormed.{cells_of, value_in, most_steps}
use Rattle.merc_course.specs.Course.{RunCourse, Meets, AtFork, Reply, Courses, no_courses, more_courses}
use Rattle.merc_rights.specs.declared.sites.SiteInfo.{SiteInfo}
use Rattle.merc_graded_tree.specs.declared.basic.Site.{Site}
use Rattle.merc_machine.specs.declared.machine.Machine.{Machine}
use Rattle.merc_machine.specs.declared.running.Stop.TheVariants.{AtFork as AtForkStop}
use Rattle.merc_machine.specs.Coming.{all_left}
use Rattle.merc_machine.specs.Running.{Means, course_at}
use Rattle.merc_machine.specs.Meetings.{IsConjunctOf}
use Rattle.merc_board.specs.declared.board.Board as Board
use Rattle.merc_board.specs.declared.branch.Branch.{Branch}
use Rattle.merc_board.specs.declared.fork.SharedCell.{SharedCell}
use Rattle.merc_board.specs.declared.fork.Handover.{Handover}
use Rattle.merc_board.specs.Rights.{Rights, child_rights, parent_rights}
use Rattle.merc_board.specs.Going.{child_place}
use Rattle.merc_board.specs.Boarding.{AreCells, Prepares, numbers_of}
use Rattle.merc_carried.specs.Sharing.{IsForkOf, given_of, rights_behind, rights_of_child, shared_of}
use Rattle.merc_carried.specs.KeepsTo.{KeepsTo}
use Rattle.merc_carried.proofs.Places.{child_left, no_root}
use Rattle.merc_carried.proofs.Keeping.{fork_keeps}
use Rattle.merc_carried.proofs.Conjuncts.{child_keeps, course_of}
use Rattle.merc_pool.specs.declared.engine.Engine as Engine
use Rattle.merc_pool.specs.declared.load.Asked as Asked
use Rattle.merc_pool.specs.declared.load.Carried.{Carried}
use Rattle.merc_pool.specs.declared.shares.Share.{Share}
use Rattle.merc_pool.specs.Carrying.{made_by, ForkedAt, IsCounted, IsOn, StandsAt, goes_on}
use Rattle.merc_pool.specs.Shares.{AreShares, IsShare}
use Rattle.merc_pool.specs.Forking.{AreChildren, IsChild}
use Rattle.merc_pool.specs.Hands.{HasComeTo}
use Rattle.merc_pool.proofs.Lists.{each_and_one, length_snoc}

module _ {M N : Type 0} (m : Engine.Ghosts M) (parent : Machine) (site : Site) where
  pub more_children : (number : ℕ) (loads more : List (Carried M N)) (new : Carried M N) (child : M) → more ≡ loads ++ new ∷ [] → new.progress.machine ≡ child → new.progress.reported ≡ 0
      → AreChildren m parent site number loads → IsConjunctOf parent site number (m.seen child)
      → ((forked : Courses RunEnd) (next : Reply → RunCourse) → Means parent (Meets (AtFork site.number) forked next) → (course : RunCourse) × (course_at forked number ≡ Some course))
      → (m.seen child).limit ≡ all_left parent → all_left (m.seen child) ≡ all_left parent → AreChildren m parent site (number + 1) more
  more_children number loads more new child pushed is reported were conjunct there limit left = record {
    same_count = ap length pushed ∙ length_snoc loads new number were.same_count;
    each = λ i load at. each_and_one (λ k (l : Carried M N). IsChild m parent site k l) loads new number were.same_count were.each
        (record {
          is_conjunct = subst (λ (x : M). IsConjunctOf parent site number (m.seen x)) (sym is) conjunct;
          there = there;
          limit = ap (λ (x : M). (m.seen x).limit) is ∙ limit;
          left = ap (λ (x : M). all_left (m.seen x)) is ∙ left;
          reported = reported;
        })
        i load (ap (λ xs. slice_get xs i) (sym pushed) ∙ at);
  }

course_same : (forked : Courses RunEnd) (number : ℕ) → course_of forked number ≡ course_at forked number
course_same no_courses number = refl
course_same (more_courses first rest) zero = refl
course_same (more_courses first rest) (suc number) = course_same rest number

one_plus : (n : ℕ) → 1 + n ≡ suc n
one_plus n = omega arith

nothing_made : (limit left before : ℕ) → limit ≡ before → left ≡ before → limit - left ≡ zero
nothing_made limit left before e f = omega (arith, e, f)

same_within : (limit left before : ℕ) → limit ≡ before → left ≡ before → left ≤ limit
same_within limit left before e f = omega (arith, e, f)

less_than : (a b c : ℕ) → a ≤ b → b ≤ c → a ≤ c
less_than a b c e f = omega (arith, e, f)

-- the rights as a board is told of a site
pub shared_rights : (info : SiteInfo) (share : Share) (cells : List Cell) (rights : Rights) (child : ℕ) → IsShare info share
    → child_rights share.shared.items share.given.items (numbers_of cells) rights child ≡ rights_of_child info cells rights child
shared_rights info share cells rights child is =
    ap (λ s. child_rights s share.given.items (numbers_of cells) rights child) is.shared ∙ ap (λ g. child_rights (shared_of info) g (numbers_of cells) rights child) is.given

pub kept_rights : (info : SiteInfo) (share : Share) (cells : List Cell) (rights : Rights) → IsShare info share
    → parent_rights share.shared.items share.given.items (numbers_of cells) rights ≡ rights_behind info cells rights
kept_rights info share cells rights is =
    ap (λ s. parent_rights s share.given.items (numbers_of cells) rights) is.shared ∙ ap (λ g. parent_rights (shared_of info) g (numbers_of cells) rights) is.given

module _ {M N B H S W G C : Type 0} (m : Engine.Ghosts M) (n : Asked.Ghosts N) (b : Board.Ghosts B (Carried M N) H S W G C) (board : B) (seat : S) where
  abbrev branch_of : Carried M N → H → Branch (Carried M N) H
  branch_of load hold = record { load = load; hold = hold }

  abbrev values : ℕ → Option Value
  values = value_in (cells_of n.root)

  -- Of a parent at a fork: what the board asks.
  pub prepares : (load : Carried M N) (hold : H) (site : Site) (shares : List Share) (share : Share) (limit : ℕ) (loads : List (Carried M N)) → HasComeTo m n b board seat (branch_of load hold) (AtForkStop site)
      → AreShares n.sites shares → slice_get shares site.number ≡ Some share → limit ≡ all_left (m.seen load.progress.machine) → AreChildren m (m.seen load.progress.machine) site share.children loads
      → Prepares (b.own board seat hold) (λ one. ForkedAt m n.sites n.root n.run one.progress) (λ one. StandsAt m n.sites n.root n.run one.progress) load (b.rights hold) share.shared.items share.given.items limit loads
  prepares load hold site shares share limit loads come sites found is_limit children =
      let at = come.0 in
      let s = come.3.1 in
      let on = s.on in
      let old = m.seen load.progress.machine in
      let k = fork_keeps n.sites (value_in (cells_of n.root)) (b.rights hold) (all_left old) (made_by old) on.run site.number s.forked s.next s.rest on.keeps in
      let is = sites.each site.number k.info share k.found found in
      let left : left_of at ≡ Some (ForkThen limit k.cells k.moves k.children k.rest) = on.left ∙ ap Some (k.is_script ∙ ap (λ l. ForkThen l k.cells k.moves k.children k.rest) (sym is_limit)) in
      let many : length loads ≡ k.info.children = children.same_count ∙ is.same_count in
      record {
        at = at;
        cells = k.cells;
        moves = k.moves;
        children = k.children;
        rest = k.rest;
        owned = come.1;
        left = left;
        are_cells = subst (λ l. AreCells l k.cells) (sym is.shared) k.is_fork.are_cells;
        parent = record {
          site = site;
          info = k.info;
          before = b.rights hold;
          limit = limit;
          cells = k.cells;
          moves = k.moves;
          children = k.children;
          forked = s.forked;
          next = s.next;
          rest = k.rest;
          found = k.found;
          handed = kept_rights k.info share k.cells (b.rights hold) is;
          stopped = come.3.0;
          meets = s.meets;
          on = subst (λ r. IsOn m n.sites n.root n.run load.progress (b.rights hold) at (Meets (AtFork site.number) s.forked s.next) r)
              (k.is_script ∙ ap (λ l. ForkThen l k.cells k.moves k.children k.rest) (sym is_limit)) on;
          reported = come.2;
        };
        same_count = many ∙ sym k.is_fork.same_count;
        some = subst (λ i. 1 ≤ i) (sym many) k.is_fork.some;
        few = subst (λ i. i ≤ 64) (sym many) k.is_fork.few;
        each = λ number one there.
            let c = children.each number one there in
            let course = c.there s.forked s.next on.means in
            let ck = child_keeps n.sites (value_in (cells_of n.root)) k.info k.cells (b.rights hold) (all_left old) 1 number s.forked k.children course.0 k.all (course_same s.forked number ∙ course.1) in
            let now = m.seen one.progress.machine in
            let made : made_by now ≡ zero = nothing_made now.limit (all_left now) (all_left old) c.limit c.left in (
              made ∙ sym c.reported,
              goes_on course.0 ck.script (record {
                rooted = on.rooted;
                left = child_left at (suc number) limit k.cells k.moves k.children k.rest left ∙ ck.there;
                run = ck.run;
                keeps = subst (λ r. KeepsTo n.sites (value_in (cells_of n.root)) r (all_left now) (made_by now) ck.run course.0 ck.script)
                    (ap (rights_of_child k.info k.cells (b.rights hold)) (one_plus number) ∙ sym (shared_rights k.info share k.cells (b.rights hold) (suc number) is))
                    (subst (λ l. KeepsTo n.sites (value_in (cells_of n.root)) (rights_of_child k.info k.cells (b.rights hold) (1 + number)) l (made_by now) ck.run course.0 ck.script) (sym c.left)
                    (subst (λ i. KeepsTo n.sites (value_in (cells_of n.root)) (rights_of_child k.info k.cells (b.rights hold) (1 + number)) (all_left old) i ck.run course.0 ck.script) (sym made) ck.keeps));
                means = c.is_conjunct s.forked s.next on.means course.0 course.1;
                counted = record {
                  within = same_within now.limit (all_left now) (all_left old) c.limit c.left;
                  few = subst (λ l. l ≤ most_steps) (sym c.limit) (less_than (all_left old) old.limit most_steps on.counted.within on.counted.few);
                };
                tells = λ named. absurd (no_root at.name (at.passed, suc number) named);
              }),
            );
      }
