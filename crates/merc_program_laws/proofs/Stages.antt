-- What a goal is at a stage it is at each later one.
use Rattle.std.proofs.Common.{ℕ, zero, suc, ◌≤◌, List, Option, Some, None, arith}
use Rattle.merc_graded_tree.specs.declared.basic.Procedure.{Procedure}
use Rattle.merc_graded_tree.specs.Nodes.{Node}
use Rattle.merc_meaning.specs.Runs.{Program, ProcedureBody}
use Rattle.merc_meaning.specs.Truth.{Assignment, Outside, Judgement, is_argument, YesBody, NoBody, YesCall, NoCall, NoAt}
use Rattle.merc_program_laws.proofs.Carried.{yes_carried, no_carried}

-- where the one says yes the other does, and the same of no
abbrev pub Follows : Judgement → Judgement → Judgement → Judgement → Type 0
Follows y n y' n' = (p : Procedure) (args : List ℕ) (s : Assignment) → (y p args s → y' p args s) × (n p args s → n' p args s)

body_stays : (y n y' n' : Judgement) → Follows y n y' n' → (o : Option ProcedureBody) (args : List ℕ) (s : Assignment)
    → (YesBody y n o args s → YesBody y' n' o args s) × (NoBody y n o args s → NoBody y' n' o args s)
body_stays y n y' n' follows None args s = (λ h. h, λ h. h)
body_stays y n y' n' follows (Some proc) args s = (
  λ h. (h.0, h.1, h.2, yes_carried y n y' n' (λ p a t. (follows p a t).0) (λ p a t. (follows p a t).1) proc.body (is_argument proc.places) h.0 h.3),
  λ h inner v i. no_carried y n y' n' (λ p a t. (follows p a t).0) (λ p a t. (follows p a t).1) proc.body (is_argument proc.places) inner (h inner v i),
)

calls_stay : (program : Program) (k j : ℕ) → k ≤ j → Follows (YesCall program k) (NoCall program k) (YesCall program j) (NoCall program j)
calls_stay program zero j l p args s = (λ h. absurd h, λ h. absurd h)
calls_stay program (suc k) zero l p args s = absurd (omega (arith, l))
calls_stay program (suc k) (suc j) l p args s =
    body_stays (YesCall program k) (NoCall program k) (YesCall program j) (NoCall program j) (calls_stay program k j (omega (arith, l))) (program p) args s

pub stays_no : (program : Program) (k j : ℕ) → k ≤ j → (out : Outside) (tree : Node) (s : Assignment) → NoAt program k out tree s → NoAt program j out tree s
stays_no program k j l out tree s h =
    no_carried (YesCall program k) (NoCall program k) (YesCall program j) (NoCall program j) (λ p a t. (calls_stay program k j l p a t).0) (λ p a t. (calls_stay program k j l p a t).1) tree out s h
