-- Traces of parallel conjuncts: one answer and then the end, or none and no Done.
use Rattle.std.proofs.Common.{◌≡◌, ℕ, suc, Bool, true, false, if◌then◌else◌, List, [], ◌∷◌, ◌++◌, Option, Some, None, refl, ap, sym, subst, ◌∙◌}
use Rattle.merc_base.specs.Category.{can_fail_of}
use Rattle.merc_base.specs.declared.category.Category.{Category}
use Rattle.merc_base.specs.declared.category.Category.TheVariants.{Det as DetCategory, Semidet, Multi, Nondet, Erroneous, Failure}
use Rattle.merc_base.specs.Places.{place_of}
use Rattle.merc_base.specs.declared.refusal.Detail.TheVariants.{Conjunct}
use Rattle.merc_base.specs.declared.refusal.Refusal.{Refusal}
use Rattle.merc_base.specs.declared.refusal.Rule.TheVariants.{ParallelCategory}
use Rattle.merc_tree.specs.declared.declarations.Module.{Module}
use Rattle.merc_graded_tree.specs.declared.basic.Procedure.{Procedure}
use Rattle.merc_graded_tree.specs.Nodes.{Node, node, Nodes, no_nodes, more_nodes, span_of}
use Rattle.merc_graded_tree.specs.Variables.{in_node}
use Rattle.merc_order.specs.Bound.{Bound}
use Rattle.merc_order_laws.specs.Bindings.{Variables}
use Rattle.merc_order_laws.proofs.Facts.{clash}
use Rattle.merc_grading.specs.Known.{Known}
use Rattle.merc_grading.specs.Grading.{given, category_at}
use Rattle.merc_grading.specs.Faults.{runs_beside, beside_faults, all_faults}
use Rattle.merc_meaning.specs.Trace.{Env, Trace, Ends as TraceEnds, Tick as TraceTick, Answer as TraceAnswer, Done as TraceDone, Raised as TraceRaised, TooDeep as TraceTooDeep, first_alone}
use Rattle.merc_meaning.specs.Runs.{Program, answers_once, once_if, goal_trace, node_trace}
use Rattle.merc_program_laws.specs.GoodPrograms.{AreGoodTypes}
use Rattle.merc_program_laws.proofs.Values.{Instance}
use Rattle.merc_program_laws.proofs.Lawful.{Fits}
use Rattle.merc_program_laws.proofs.Calls.{LawfulCalls}
use Rattle.merc_program_laws.proofs.TreeCategories.{node_law}
use Rattle.merc_plan.specs.Branch.{Hold}
use Rattle.merc_plan.proofs.Flat.{Flat, Done, Halts, Tick, Answer, after, each, behind, Det, Answers, NotDone, Like, events}
use Rattle.merc_plan.proofs.Likes.{after_done}
use Rattle.merc_plan.proofs.Holds.{First}
use Rattle.merc_script_laws.proofs.Bonds.{Sound}
use Rattle.merc_script_laws.proofs.HoldLaw.{not_done}

-- the first answer of a trace of this kind
pub like_behind_first : {B C D : Type 0} (R : Hold → B → Type 0) (Q : C → D → Type 0) (P : Hold → Type 0) (f : B → Flat D) (t : Flat Hold) (u : Flat B) → Det u → (w : Flat C) → Like R t u → First P t
    → ((a : Hold) (b : B) → R a b → P a → Answers t → Like Q w (f b)) → Like Q (behind t w) (each f u)
like_behind_first R Q P f Done Done d w h p s = tt
like_behind_first R Q P f (Halts g) (Halts k) d w h p s = h
like_behind_first R Q P f (Tick t) (Tick u) d w h p s = like_behind_first R Q P f t u d w h p s
like_behind_first R Q P f (Answer a t) (Answer b u) d w h p s = subst (λ x. Like Q w x) (sym (ap (λ x. after (f b) (each f x)) d ∙ after_done (f b))) (s a b h.0 p tt)
like_behind_first R Q P f t u d w h p s = absurd h

pub first_pair : {B : Type 0} (R : Hold → B → Type 0) (P : Hold → Type 0) (t : Flat Hold) (u : Flat B) → Like R t u → First P t → Answers t → (a : Hold) × ((b : B) × (R a b × P a))
first_pair R P Done Done h p n = absurd n
first_pair R P (Halts g) (Halts k) h p n = absurd n
first_pair R P (Tick t) (Tick u) h p n = first_pair R P t u h p n
first_pair R P (Answer a t) (Answer b u) h p n = (a, (b, (h.0, p)))
first_pair R P t u h p n = absurd h

pub first_at : (P : Hold → Type 0) (t : Flat Hold) → First P t → Answers t → (a : Hold) × P a
first_at P Done p n = absurd n
first_at P (Halts g) p n = absurd n
first_at P (Tick t) p n = first_at P t p n
first_at P (Answer a t) p n = (a, p)

pub det_first : (t : Trace) → NotDone (events (first_alone t)) → Det (events (first_alone t))
det_first (TraceEnds TraceDone) n = absurd n
det_first (TraceEnds (TraceRaised text)) n = tt
det_first (TraceEnds TraceTooDeep) n = tt
det_first (TraceTick t) n = det_first t n
det_first (TraceAnswer env t) n = refl

det_once : (b : Bool) (t : Trace) → b ≡ true → NotDone (events (once_if b t)) → Det (events (once_if b t))
det_once true t e n = det_first t n
det_once false t e n = clash e refl

-- What runs beside others is det or erroneous.

beside_sure : (c : Category) → runs_beside c ≡ true → can_fail_of c ≡ false
beside_sure DetCategory h = refl
beside_sure Semidet h = clash h refl
beside_sure Multi h = refl
beside_sure Nondet h = clash h refl
beside_sure Erroneous h = refl
beside_sure Failure h = clash h refl

pub conjunct_sure : (n : Node) → runs_beside (category_at n) ≡ true → can_fail_of (category_at n) ≡ false
conjunct_sure n h = beside_sure (category_at n) h

once_beside : (outs : List ℕ) (category : Option Category) → runs_beside (given category) ≡ true → answers_once outs category ≡ true
once_beside [] category h = refl
once_beside (x ∷ outs) None h = clash h refl
once_beside (x ∷ outs) (Some DetCategory) h = refl
once_beside (x ∷ outs) (Some Semidet) h = refl
once_beside (x ∷ outs) (Some Multi) h = clash h refl
once_beside (x ∷ outs) (Some Nondet) h = clash h refl
once_beside (x ∷ outs) (Some Erroneous) h = refl
once_beside (x ∷ outs) (Some Failure) h = refl

-- each of these goals runs beside others
abbrev pub AllBeside : Nodes → Type 0
AllBeside no_nodes = Unit {0}
AllBeside (more_nodes first rest) = (runs_beside (category_at first) ≡ true) × AllBeside rest

beside_case : (b : Bool) (one : Refusal) (rest : List Refusal) → (if b then [] else one ∷ []) ++ rest ≡ [] → (b ≡ true) × (rest ≡ [])
beside_case true one rest h = (refl, h)
beside_case false one rest h = absurd cc

pub all_beside : (number : ℕ) (ns : Nodes) → beside_faults number ns ≡ [] → AllBeside ns
all_beside number no_nodes h = tt
all_beside number (more_nodes n ns) h =
    let one : Refusal = record { rule = ParallelCategory; place = place_of (span_of n); detail = Conjunct number (category_at n) } in
    let r = beside_case (runs_beside (category_at n)) one (beside_faults (suc number) ns) h in
    (r.0, all_beside (suc number) ns r.1)

both_none : (xs ys : List Refusal) → xs ++ ys ≡ [] → (xs ≡ []) × (ys ≡ [])
both_none [] ys h = (refl, h)
both_none (x ∷ xs) ys h = absurd cc

-- the conjuncts of a parallel conjunction without faults
pub conjuncts_beside : (goals : Nodes) → beside_faults 1 goals ++ all_faults goals ≡ [] → AllBeside goals × (all_faults goals ≡ [])
conjuncts_beside goals h = let r = both_none (beside_faults 1 goals) (all_faults goals) h in (all_beside 1 goals r.0, r.1)

-- Given are the program of the graded trees and the traces of its calls.
module _ (program : Program) (calls : Procedure → Env → Trace) where
  pub det_node : (n : Node) (full : Env) → runs_beside (category_at n) ≡ true → NotDone (events (node_trace program calls n full)) → Det (events (node_trace program calls n full))
  det_node (node g outs category span) full h n = det_once (answers_once outs category) (goal_trace program calls g full) (once_beside outs category h) n

-- Given are the module, the types of the variables, and what type variables stand for, and a program whose calls are lawful.
module _ (known : Module) (types i : Instance) (declared : AreGoodTypes known.types) (program : Program) (calls : Procedure → Env → Trace) (lawful : LawfulCalls known program calls) where
  pub det_conjunct : (n : Node) (out : Variables) (b : Bound) (seen : Known) (full : Env) → runs_beside (category_at n) ≡ true → Sound known types i out b seen n → Fits known types i out b (in_node n) seen full
      → Det (events (node_trace program calls n full))
  det_conjunct n out b seen full h sound fits =
      let law = node_law known declared program calls lawful types i n out b seen full sound.good sound.graded sound.parts fits in
      det_node program calls n full h (not_done (node_trace program calls n full) (law.some_answer (conjunct_sure n h)))
