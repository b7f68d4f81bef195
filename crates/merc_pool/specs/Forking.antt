-- The conjuncts of a fork, and branches that are found.
use Rattle.std.specs.Prelude.{◌≡◌, ℕ, List, Some, length, slice_get}
use Rattle.merc_meaning.specs.Trace.{RunEnd}
use Rattle.merc_graded_tree.specs.declared.basic.Site.{Site}
use Rattle.merc_course.specs.Course.{AtFork, Courses, Meets, Reply, RunCourse}
use Rattle.merc_machine.specs.declared.machine.Machine.{Machine}
use Rattle.merc_machine.specs.Coming.{all_left}
use Rattle.merc_machine.specs.Meetings.{IsConjunctOf}
use Rattle.merc_machine.specs.Running.{Means, course_at}
use Rattle.merc_board.specs.declared.board.Board as Board
use Rattle.merc_board.specs.declared.branch.Branch.{Branch}
use Rattle.merc_board.specs.Boarding.{IsFound}
use Rattle.merc_pool.specs.declared.engine.Engine as Engine
use Rattle.merc_pool.specs.declared.load.Asked as Asked
use Rattle.merc_pool.specs.declared.load.Carried.{Carried}
use Rattle.merc_pool.specs.Carrying.{IsShown, AwaitsAt}
use Rattle.merc_pool.specs.Hands.{BranchStands}

module _ {M N : Type 0} (m : Engine.Ghosts M) where
  -- What a conjunct carries, by its number from 0, of the fork of a site at which its parent stands: before its course, with as many steps left as the parent has.
  pub record IsChild (parent : Machine) (site : Site) (number : ℕ) (load : Carried M N) : Type 0 where
    pub is_conjunct : IsConjunctOf parent site number (m.seen load.progress.machine)
    pub there : (forked : Courses RunEnd) (next : Reply → RunCourse) → Means parent (Meets (AtFork site.number) forked next) → (course : RunCourse) × (course_at forked number ≡ Some course)
    pub limit : (m.seen load.progress.machine).limit ≡ all_left parent
    pub left : all_left (m.seen load.progress.machine) ≡ all_left parent
    pub reported : load.progress.reported ≡ 0

  pub record AreChildren (parent : Machine) (site : Site) (children : ℕ) (loads : List (Carried M N)) : Type 0 where
    pub same_count : length loads ≡ children
    pub each : (number : ℕ) (load : Carried M N) → slice_get loads number ≡ Some load → IsChild parent site number load

module _ {M N B H S W G C : Type 0} (m : Engine.Ghosts M) (n : Asked.Ghosts N) (b : Board.Ghosts B (Carried M N) H S W G C) where
  abbrev pub IsFoundBranch : B → S → Branch (Carried M N) H → Type 0
  IsFoundBranch board seat branch =
      IsFound (b.own board seat branch.hold) (BranchStands m n b branch) (AwaitsAt m n.sites n.root n.run branch.load.progress (b.rights branch.hold)) (IsShown n.root)
      (b.starved board seat branch.hold) (b.woke branch.hold)
