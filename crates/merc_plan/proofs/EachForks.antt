-- Of each fork that a branch's script reaches, the conjuncts' scripts join to what the fork's goals show one after the other.
use Rattle.std.proofs.Common.{ℕ, zero, suc, ◌-◌, Bool, true, false, List, ◌++◌, refl, sym, subst, ◌∙◌, arith}
use Rattle.merc_meaning.specs.Trace.{Env, Trace, Ends, Tick, Answer as TraceAnswer, Done as TraceDone, Raised as TraceRaised, TooDeep as TraceTooDeep}
use Rattle.merc_meaning.specs.Runs.{Program, all_trace, call_trace}
use Rattle.merc_core.specs.Rights.{without}
use Rattle.merc_plan.specs.Branch.{Hold, Fork, BranchCourse, BranchCourses, Over, Breaks, Steps, Finds, Awaits, Gives, Forks, no_branches, more_branches, Raised, TooDeep, Starving, names}
use Rattle.merc_plan.specs.BranchScript.{script, scripts, signalled, all_signalled}
use Rattle.merc_plan.specs.EachFork.{EachFork, EachForkInTurn, IsDeepEnough, JoinShows}
use Rattle.merc_plan.proofs.Flat.{Flat, Done, Halts, Tick as FlatTick, Answer, Det, Answers, Enough, behind, events}
use Rattle.merc_plan.proofs.Judging.{flat, flats, Served, AllServed, Sure, AllSure}
use Rattle.merc_plan.proofs.Likes.{like_det, like_back, like_enough, like_seen}
use Rattle.merc_plan.proofs.Walks.{answers_of}
use Rattle.merc_plan.proofs.Joins.{end_law, fine_law, fine_joined, joined_law}
use Rattle.merc_plan.proofs.Depths.{fewer, counted_det}
use Rattle.merc_plan.proofs.Deep.{Deep, AllDeep, deep_less}
use Rattle.merc_plan.proofs.Shown.{Shown}

-- conjuncts one behind the other are not too deep before the limit is passed, and answer at most once

enough_behind : (l : ℕ) (t u : Flat Hold) → Enough l t → Enough l u → Enough l (behind t u)
enough_behind l Done u h k = tt
enough_behind l (Halts halt) u h k = h
enough_behind zero (FlatTick t) u h k = tt
enough_behind (suc l) (FlatTick t) u h k = enough_behind l t u h (fewer l u k)
enough_behind l (Answer hold t) u h k = k

mutual
  deep_flat : (l : ℕ) (t : BranchCourse) → Deep l t → Enough l (flat t)
  deep_flat l Over h = tt
  deep_flat l (Breaks (Raised v)) h = tt
  deep_flat l (Breaks TooDeep) h = h
  deep_flat l (Breaks Starving) h = tt
  deep_flat zero (Steps t) h = tt
  deep_flat (suc l) (Steps t) h = deep_flat l t h
  deep_flat l (Finds hold t) h = deep_flat l t h
  deep_flat l (Awaits c v t) h = deep_flat l t h
  deep_flat l (Gives c v t) h = deep_flat l t h
  deep_flat l (Forks i x kids t) h = deep_flats l kids (flat t) h.0 (deep_flat l t h.1)

  deep_flats : (l : ℕ) (kids : BranchCourses) (u : Flat Hold) → AllDeep l kids → Enough l u → Enough l (flats kids u)
  deep_flats l no_branches u h k = k
  deep_flats l (more_branches t more) u h k = enough_behind l (flat t) (flats more u) (deep_flat l t h.0) (deep_flats l more u h.1 k)

det_behind : (t u : Flat Hold) → Det t → (Answers t → Det u) → Det (behind t u)
det_behind Done u d h = d
det_behind (Halts halt) u d h = d
det_behind (FlatTick t) u d h = det_behind t u d h
det_behind (Answer hold t) u d h = h tt

det_flats : (Holds : Fork → BranchCourses → Type 0) (kids : BranchCourses) (u : Flat Hold) → AllSure Holds kids → Det u → Det (flats kids u)
det_flats Holds no_branches u su d = d
det_flats Holds (more_branches t more) u su d = det_behind (flat t) (flats more u) su.1.0 (λ a. det_flats Holds more u (su.1.1 a) d)

enough_trace : (l : ℕ) (t : Trace) → Enough l (events t) → IsDeepEnough l t
enough_trace l (Ends TraceDone) h = tt
enough_trace l (Ends (TraceRaised text)) h = tt
enough_trace l (Ends TraceTooDeep) h = h
enough_trace zero (Tick t) h = tt
enough_trace (suc l) (Tick t) h = enough_trace l t h
enough_trace l (TraceAnswer env t) h = enough_trace l t h

module _ (program : Program) where
  join_shows : (kids : BranchCourses) (x : Fork) (l : ℕ) (g : List ℕ) → AllDeep l kids → AllServed g kids → AllSure (Shown program) kids → Shown program x kids
      → JoinShows program l x (scripts l g kids)
  join_shows kids x l g d sv su s = record {
    env = s.env;
    begins = s.begins;
    depth = s.depth;
    enough = enough_trace l trace (like_enough Alike one trace_events s.like l (deep_flats l kids (Answer x.before Done) d tt));
    shows =
        joined_law (Shown program) kids l g x.before sv su
        ∙ (like_seen Alike one trace_events s.like false l 0
        ∙ counted_det false trace l (like_det (λ found end. Unit {0}) trace_events one (like_back Alike one trace_events s.like) (det_flats (Shown program) kids (Answer x.before Done) su refl)));
  }
    where
      Alike : Hold → Env → Type 0
      Alike end found = Unit {0}

      trace : Trace
      trace = all_trace program (call_trace program s.depth) x.goals s.env

      trace_events : Flat Env
      trace_events = events trace

      one : Flat Hold
      one = flats kids (Answer x.before Done)

  mutual
    pub each_fork : (root : Bool) (t : BranchCourse) (l : ℕ) (g : List ℕ) → Deep l t → Served root g t → Sure (Shown program) t → EachFork (JoinShows program) root l g t
    each_fork root Over l g d sv su = tt
    each_fork root (Breaks halt) l g d sv su = tt
    each_fork root (Steps t) zero g d sv su = tt
    each_fork root (Steps t) (suc l) g d sv su = each_fork root t l g d sv su
    each_fork true (Finds hold t) l g d sv su = each_fork true t l g d sv su
    each_fork false (Finds hold t) l g d sv su = tt
    each_fork root (Awaits c v t) l g d sv su = each_fork root t l g d sv.1 su
    each_fork root (Gives c v t) l g d sv su = each_fork root t l g d sv su
    each_fork root (Forks i x kids t) l g d sv su = (
      join_shows kids x l (without (names x.cells) g) d.0 sv.0 su.1.0 su.0,
      (
        each_in_turn kids l (without (names x.cells) g) d.0 sv.0 su.1.0,
        λ steps h.
            let fine = fine_joined (Shown program) kids l steps (without (names x.cells) g) sv.0 su.1.0 h in
            each_fork root t (l - steps) (without (names x.cells) g ++ all_signalled (scripts l (without (names x.cells) g) kids)) (deep_less l (l - steps) (omega arith) t d.1)
            (subst (λ y. Served root (without (names x.cells) g ++ y) t) (sym fine.0) (sv.1 fine.1)) (su.1.1 fine.1),
      ),
    )

    each_in_turn : (kids : BranchCourses) (l : ℕ) (g : List ℕ) → AllDeep l kids → AllServed g kids → AllSure (Shown program) kids → EachForkInTurn (JoinShows program) l g kids
    each_in_turn no_branches l g d sv su = tt
    each_in_turn (more_branches t more) l g d sv su = (
      each_fork false t l g d.0 sv.0 su.0,
      λ steps h.
          let a = answers_of (flat t) su.1.0 l 0 steps (sym (end_law (Shown program) false t l 0 g sv.0 su.0) ∙ h) in
          each_in_turn more l (g ++ signalled (script false l 0 g t)) d.1
          (subst (λ y. AllServed (g ++ y) more) (sym (fine_law (Shown program) t l 0 steps g sv.0 su.0 h)) (sv.1 a)) (su.1.1 a),
    )
