-- The goals of a conjunction go in their order where each that goes is the leftmost that is ready.
use Rattle.std.specs.Prelude.{◌≡◌, ◌≤◌, ℕ, suc, true, false, List, [], ◌∷◌, ◌++◌, length, Option, Some, None, Ok, Err, refl}
use Rattle.std.proofs.Common.{◌∙◌, ◌⊎◌, ap, sym, subst, arith, inl, inr}
use Rattle.std.proofs.lemmas.List.{length-append}
use Rattle.merc_base.specs.declared.refusal.Fault.{Fault}
use Rattle.merc_base.specs.declared.refusal.Fault.TheVariants.{Refused, NoMemory}
use Rattle.merc_base.specs.declared.refusal.Refusal.{Refusal}
use Rattle.merc_tree.specs.declared.declarations.ModeDecl.{ModeDecl}
use Rattle.merc_order.specs.Bound.{Bound, with}
use Rattle.merc_order.specs.Moves.{Move, Next, fault_in, behind, if_ready_next, next, settled_next, settled}
use Rattle.merc_order.specs.Ordered.{Ordered, Outcome, Ready, Stuck, is_ready, Outcomes, no_goals, AllReady, OneStuck, then_all}
use Rattle.merc_order.specs.Ways.{AllStuck}
use Rattle.merc_simple_goals.specs.Writing.{IsWritten}
use Rattle.merc_simple_goals.specs.declared.written.Written.{Written}
use Rattle.merc_goal_order.specs.Conjuncts.{TellsFirst}
use Rattle.merc_goal_order.specs.Walks.{ordereds_of, behind_them, AreWritten, GivesAll, all_settled}
use Rattle.merc_goal_order.proofs.Emitted.{behind_on, behind_ready, behind_stuck, written_on}

-- the next goal

stuck_next : (o : Outcome) (binds : Bound) (others : List Move) (later : Option Next) → is_ready o ≡ false → if_ready_next o binds others later ≡ later
stuck_next (Ready goal) binds others later h = cc
stuck_next (Stuck fault) binds others later h = refl

next_goes : (before others : List Move) (move : Move) (now : Bound) (goal : Ordered) → AllStuck before now → move.from now ≡ Ready goal
    → next (before ++ move ∷ others) now ≡ Some (record { goal = goal; binds = move.binds; others = before ++ others })
next_goes [] others move now goal stuck is = ap (λ o. if_ready_next o move.binds others (behind move (next others now))) is
next_goes (first ∷ rest) others move now goal (one, stuck) is =
    stuck_next (first.from now) first.binds (rest ++ move ∷ others) (behind first (next (rest ++ move ∷ others) now)) one
    ∙ ap (λ n. behind first n) (next_goes rest others move now goal stuck is)

next_none : (all : List Move) (now : Bound) → AllStuck all now → next all now ≡ None
next_none [] now stuck = refl
next_none (first ∷ rest) now (one, stuck) = stuck_next (first.from now) first.binds rest (behind first (next rest now)) one ∙ ap (λ n. behind first n) (next_none rest now stuck)

pub settled_goes : (before others : List Move) (move : Move) (now : Bound) (goal : Ordered) → AllStuck before now → move.from now ≡ Ready goal
    → all_settled (before ++ move ∷ others) now ≡ then_all goal (all_settled (before ++ others) (with now move.binds))
settled_goes [] others move now goal stuck is =
    ap (λ n. settled_next (move.from now) now n (settled (length others))) (next_goes [] others move now goal stuck is)
settled_goes (first ∷ rest) others move now goal stuck is =
    let long : length (rest ++ move ∷ others) ≡ suc (length (rest ++ others)) = omega (arith, length-append rest (move ∷ others), length-append rest others) in
    ap (λ n. settled_next (first.from now) now n (settled (length (rest ++ move ∷ others)))) (next_goes (first ∷ rest) others move now goal stuck is)
    ∙ ap (λ n. then_all goal (settled n (first ∷ rest ++ others) (with now move.binds))) long

pub settled_stuck : (move : Move) (others : List Move) (now : Bound) (fault : Refusal) → AllStuck (move ∷ others) now → move.from now ≡ Stuck fault → all_settled (move ∷ others) now ≡ OneStuck fault
settled_stuck move others now fault stuck is =
    ap (λ n. settled_next (move.from now) now n (settled (length others))) (next_none (move ∷ others) now stuck) ∙ ap fault_in is

-- None of the goals that are left is ready, or one at most is left: the first is written, or tells the fault.

all_stuck : (move : Move) (others : List Move) (now : Bound) (fault : Refusal) → (length (move ∷ others) ≤ 1) ⊎ AllStuck (move ∷ others) now → move.from now ≡ Stuck fault → AllStuck (move ∷ others) now
all_stuck move [] now fault (inl few) is = (ap is_ready is, tt)
all_stuck move (next ∷ rest) now fault (inl few) is = absurd (omega (arith, few))
all_stuck move others now fault (inr stuck) is = stuck

module _ (modes : ℕ → List ModeDecl) (whole : Outcomes) where
  pub told_fault : (all : List Move) (done : List Ordered) (now : Bound) (fault : Fault) (old mid new late : Written) → (length all ≤ 1) ⊎ AllStuck all now → TellsFirst modes all now old mid (Err fault)
      → whole ≡ behind_them done (all_settled all now) → GivesAll modes whole new late (Err fault)
  told_fault [] done now (Refused refusal) old mid new late end tells is = absurd tells
  told_fault [] done now NoMemory old mid new late end tells is = tt
  told_fault (move ∷ others) done now (Refused refusal) old mid new late end tells is =
      is ∙ ap (λ o. behind_them done o) (settled_stuck move others now refusal (all_stuck move others now refusal end tells) tells) ∙ behind_stuck done refusal
  told_fault (move ∷ others) done now NoMemory old mid new late end tells is = tt

  last_ready : (move : Move) (others : List Move) (done : List Ordered) (now : Bound) (goal : Ordered) (old mid new : Written) → (length (move ∷ others) ≤ 1) ⊎ AllStuck (move ∷ others) now
      → move.from now ≡ Ready goal → IsWritten modes goal mid new → whole ≡ behind_them done (all_settled (move ∷ others) now) → AreWritten modes done old mid
      → (list : List Ordered) × (whole ≡ AllReady (ordereds_of list)) × AreWritten modes list old new
  last_ready move [] done now goal old mid new (inl few) ready written is are = (
    done ++ goal ∷ [],
    is ∙ ap (λ o. behind_them done o) (settled_goes [] [] move now goal tt ready) ∙ behind_on done goal (AllReady no_goals) ∙ behind_ready (done ++ goal ∷ []),
    written_on modes done goal old mid new are written,
  )
  last_ready move (next ∷ rest) done now goal old mid new (inl few) ready written is are = absurd (omega (arith, few))
  last_ready move others done now goal old mid new (inr (one, stuck)) ready written is are = let no : true ≡ false = sym (ap is_ready ready) ∙ one in cc

  pub told_ready : (all : List Move) (done : List Ordered) (now : Bound) (unit : Unit {0}) (old mid new : Written) → (length all ≤ 1) ⊎ AllStuck all now → TellsFirst modes all now mid new (Ok unit)
      → whole ≡ behind_them done (all_settled all now) → AreWritten modes done old mid → (list : List Ordered) × (whole ≡ AllReady (ordereds_of list)) × AreWritten modes list old new
  told_ready [] done now unit old mid new end tells is are = (done, is ∙ behind_ready done, subst (λ w. AreWritten modes done old w) (sym tells) are)
  told_ready (move ∷ others) done now unit old mid new end (goal, ready, written) is are = last_ready move others done now goal old mid new end ready written is are
