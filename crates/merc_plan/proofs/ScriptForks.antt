-- Each fork of a branch's script, its cells told by numbers, is one of the branch's course.
use Rattle.std.proofs.Common.{◌≡◌, ℕ, zero, suc, ◌+◌, ◌-◌, Bool, true, false, if◌then◌else◌, List, ◌++◌, length, map, refl, ap, sym, subst, ◌∙◌}
use Rattle.merc_script.specs.declared.outcome.Outcome.{Outcome}
use Rattle.merc_script.specs.declared.outcome.Outcome.TheVariants.{Ok as Fine, Raise, Limit, Starved, NoMemory}
use Rattle.merc_script.specs.Script.{Script, Ends, Cell, Children, end_of, ends}
use Rattle.merc_script.specs.Joining.{joined}
use Rattle.merc_meaning.specs.Runs.{Program}
use Rattle.merc_core.specs.Rights.{has, without}
use Rattle.merc_plan.specs.Branch.{Fork, BranchCourse, BranchCourses, Over, Breaks, Steps, Finds, Awaits, Gives, Forks, no_branches, more_branches, Raised, TooDeep, Starving, Gift, names, all_give}
use Rattle.merc_plan.specs.BranchScript.{going, script, scripts, signalled, all_signalled, valued, numbered, all_numbered, with_numbers, all_width, width}
use Rattle.merc_plan.specs.EachFork.{EachFork, EachForkInTurn, EachForkOf, EachForkIn, JoinShows, JoinsAsFork}
use Rattle.merc_plan.proofs.NumberingSizes.{numbered_end, numbered_ends}

module _ (program : Program) where
  -- numbers for cells change no end
  same_ends : (left : ℕ) (fork : Fork) (children other : Children) → ends other ≡ ends children → JoinShows program left fork children → JoinShows program left fork other
  same_ends left fork children other e shows = record {
    env = shows.env;
    begins = shows.begins;
    depth = shows.depth;
    enough = shows.enough;
    shows = ap (λ outcomes. joined left outcomes) e ∙ shows.shows;
  }

  abbrev In : Script → Type 0
  In = EachForkOf (JoinsAsFork program)

  either : (b : Bool) (numbers : ℕ → ℕ) (first : ℕ) (s : Script) → In (numbered numbers first s) → In (numbered numbers first (if b then s else Ends Starved))
  either true numbers first s h = h
  either false numbers first s h = tt

  behind : (o : Outcome) (made : ℕ) (next : ℕ → Script) (numbers : ℕ → ℕ) (first : ℕ) → ((steps : ℕ) → o ≡ Fine steps → In (numbered numbers first (next steps))) → In (numbered numbers first (going o made next))
  behind (Fine steps) made next numbers first h = h steps refl
  behind (Raise text steps) made next numbers first h = tt
  behind Limit made next numbers first h = tt
  behind Starved made next numbers first h = tt
  behind NoMemory made next numbers first h = tt

  mutual
    pub script_forks : (root : Bool) (t : BranchCourse) (left made : ℕ) (given : List ℕ) (numbers : ℕ → ℕ) (first : ℕ) → EachFork (JoinShows program) root left given t
        → In (numbered numbers first (script root left made given t))
    script_forks root Over left made given numbers first h = tt
    script_forks root (Breaks (Raised text)) left made given numbers first h = tt
    script_forks root (Breaks TooDeep) left made given numbers first h = tt
    script_forks root (Breaks Starving) left made given numbers first h = tt
    script_forks root (Steps t) zero made given numbers first h = tt
    script_forks root (Steps t) (suc left) made given numbers first h = script_forks root t left (suc made) given numbers first h
    script_forks true (Finds hold t) left made given numbers first h = script_forks true t left made given numbers first h
    script_forks false (Finds hold t) left made given numbers first h = tt
    script_forks root (Awaits c v t) left made given numbers first h =
        either (has c given) numbers first (script root left made given t) (script_forks root t left made given numbers first h)
    script_forks root (Gives c v t) left made given numbers first h = script_forks root t left made given numbers first h
    script_forks root (Forks i x kids t) left made given numbers first h =
        let outer = without (names x.cells) given in
        let children = scripts left outer kids in
        let cells = map (valued (all_signalled children) (all_give kids)) x.cells in
        let inner = with_numbers cells first numbers in (
          (x, same_ends left x children (all_numbered inner (first + length cells) children) (numbered_ends inner (first + length cells) children) h.0),
          (
            children_forks kids left outer inner (first + length cells) h.1.0,
            behind (joined left (ends children)) made (λ steps. script root (left - steps) (made + steps) (outer ++ all_signalled children) t) inner (first + length cells + all_width children)
                (λ steps e. script_forks root t (left - steps) (made + steps) (outer ++ all_signalled children) inner (first + length cells + all_width children) (h.1.1 steps e)),
          ),
        )

    children_forks : (kids : BranchCourses) (left : ℕ) (given : List ℕ) (numbers : ℕ → ℕ) (first : ℕ) → EachForkInTurn (JoinShows program) left given kids
        → EachForkIn (JoinsAsFork program) (all_numbered numbers first (scripts left given kids))
    children_forks no_branches left given numbers first h = tt
    children_forks (more_branches t more) left given numbers first h =
        let one = script false left 0 given t in (
          script_forks false t left 0 given numbers first h.0,
          λ steps e. children_forks more left (given ++ signalled one) numbers (first + width one) (h.1 steps (sym (numbered_end numbers first one) ∙ e)),
        )
