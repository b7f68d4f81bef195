-- If-then-elses of which each is the else part of the one before.
use Rattle.std.specs.Prelude.{◌≡◌, ◌+◌, ℕ, List, [], ◌∷◌, ◌++◌, length, Result, Ok, Err, if◌then◌else◌}
use Rattle.merc_base.specs.declared.place.Span.{Span}
use Rattle.merc_base.specs.declared.refusal.Fault.{Fault}
use Rattle.merc_base.specs.declared.refusal.Fault.TheVariants.{Refused, NoMemory}
use Rattle.merc_tree.specs.declared.declarations.ModeDecl.{ModeDecl}
use Rattle.merc_tree.specs.declared.declarations.PredDecl.{PredDecl}
use Rattle.merc_goal_tree.specs.Nodes.{Node, Simple, Conjunction, Parallel, Disjunction, Conditional, Negation, Quantified}
use Rattle.merc_goal_tree.specs.Variables.{variables}
use Rattle.merc_order.specs.Bound.{Bound, among}
use Rattle.merc_order.specs.Faults.{unbound_output}
use Rattle.merc_order.specs.Order.{agree, decision_arms, from, outputs_of}
use Rattle.merc_order.specs.Ordered.{Ordered, put, Decision, Outcome, Ready, Stuck, if_ready}
use Rattle.merc_order.specs.Procedures.{modes_of}
use Rattle.merc_goal_facts.specs.Facts.{AreKnown, AreFactsOf, subgoals}
use Rattle.merc_goal_facts.specs.Outside.{IsStretch}
use Rattle.merc_simple_goals.specs.Writing.{Gives}
use Rattle.merc_simple_goals.specs.declared.written.Written.{Written}
use Rattle.merc_goal_order.specs.Walks.{AreWritten}
use Rattle.merc_goal_facts.specs.declared.facts.Facts.{Facts}
use Rattle.merc_goal_order.specs.declared.links.Link.{Link}

abbrev pub IsConditional : Node → Type 0
IsConditional (Conditional condition then_part else_part span) = Unit {0}
IsConditional (Simple goal span) = ⊥
IsConditional (Conjunction goals span) = ⊥
IsConditional (Parallel goals span) = ⊥
IsConditional (Disjunction goals span) = ⊥
IsConditional (Negation goal span) = ⊥
IsConditional (Quantified own goal span) = ⊥

-- Given are how often each variable occurs in the whole, and the modes of each predicate.
module _ (total : ℕ → ℕ) (modes : ℕ → List ModeDecl) where
  -- what becomes of an if-then-else whose condition and then part are ordered, by what becomes of its else part
  abbrev pub ending : Bound → Node → Node → Node → Span → Ordered → Ordered → Outcome → Outcome
  ending bound condition then_part else_part span first second outcome =
      if_ready outcome (λ third. if agree total modes bound (variables (Conditional condition then_part else_part span)) (decision_arms total modes condition then_part else_part)
      then Ready (put (Decision first second third) (outputs_of total modes bound (Conditional condition then_part else_part span)) span) else Stuck (unbound_output span))

  pub record Guarded (condition then_part : Node) (bound : Bound) (start next : ℕ) (old new : Written) : Type 0 where
    pub first : Ordered
    pub second : Ordered
    pub ends : (else_part : Node) (span : Span) → from total modes (Conditional condition then_part else_part span) bound ≡ ending bound condition then_part else_part span first second (from total modes else_part bound)
    pub are_written : AreWritten modes (first ∷ second ∷ []) old new
    pub next_is : next ≡ start + length (variables condition ++ variables then_part)

  -- The condition and the then part are written, with the place behind their variables, or the fault of one of them is that of the whole.
  abbrev pub GuardGives : Node → Node → Bound → ℕ → Written → Written → Result ℕ Fault → Type 0
  GuardGives condition then_part bound start old new (Ok next) = Guarded condition then_part bound start next old new
  GuardGives condition then_part bound start old new (Err (Refused refusal)) = (else_part : Node) (span : Span) → from total modes (Conditional condition then_part else_part span) bound ≡ Stuck refusal
  GuardGives condition then_part bound start old new (Err NoMemory) = Unit {0}

  -- The links of a chain, the last of them first, lead from the whole to this goal. Their conditions and then parts are written.
  pub data Chain (all : List ℕ) (bound : Bound) (whole : Node) : List Link → Node → List Ordered → Type 0 where
    outermost : Chain all bound whole [] whole []
    inside : (link : Link) (links : List Link) (condition then_part else_part : Node) (first second : Ordered) (done : List Ordered)
        → AreFactsOf total modes (Conditional condition then_part else_part link.span) link.own.now
        → IsStretch total all link.start (link.start + length (variables (Conditional condition then_part else_part link.span))) (variables (Conditional condition then_part else_part link.span))
        → from total modes (Conditional condition then_part else_part link.span) bound ≡ ending bound condition then_part else_part link.span first second (from total modes else_part bound)
        → Chain all bound whole links (Conditional condition then_part else_part link.span) done
        → Chain all bound whole (link ∷ links) else_part (done ++ first ∷ second ∷ [])

  -- The else part of a chain's last link is still to be ordered.
  pub record Within (all : List ℕ) (bound : Bound) (whole : Node) (links : List Link) (rest : Node) (facts : List Facts) (place : ℕ) (old now : Written) : Type 0 where
    pub done : List Ordered
    pub chain : Chain all bound whole links rest done
    pub known : AreKnown total modes (subgoals rest) facts
    pub stretch : IsStretch total all place (place + length (variables rest)) (variables rest)
    pub are_written : AreWritten modes done old now

  -- It is ordered.
  pub record Closing (all : List ℕ) (bound : Bound) (whole : Node) (links : List Link) (old now : Written) : Type 0 where
    pub done : List Ordered
    pub rest : Node
    pub chain : Chain all bound whole links rest done
    pub ordered : Ordered
    pub outcome : from total modes rest bound ≡ Ready ordered
    pub are_written : AreWritten modes (done ++ ordered ∷ []) old now

  -- One link is closed, or has no order.
  abbrev pub CloseGives : List ℕ → Bound → Node → List Link → Written → Written → Result (Unit {0}) Fault → Type 0
  CloseGives all bound whole links old new (Ok done) = Closing all bound whole links old new
  CloseGives all bound whole links old new (Err (Refused refusal)) = from total modes whole bound ≡ Stuck refusal
  CloseGives all bound whole links old new (Err NoMemory) = Unit {0}

-- The condition and the then part of an if-then-else are ordered, by the facts of their parts and its own.
abbrev pub Guards : List PredDecl → Node → Node → List Facts → Facts → List ℕ → ℕ → List ℕ → Written → Written → Result ℕ Fault → Type 0
Guards predicates condition then_part facts own all start bound old new result =
    (total : ℕ → ℕ) (else_part : Node) (span : Span) → AreKnown total (modes_of predicates) (subgoals condition ++ subgoals then_part) facts
    → AreFactsOf total (modes_of predicates) (Conditional condition then_part else_part span) own
    → IsStretch total all start (start + length (variables condition ++ variables then_part)) (variables condition ++ variables then_part)
    → GuardGives total (modes_of predicates) condition then_part (among bound) start old new result

abbrev pub ClosesOne : List PredDecl → Link → List ℕ → List ℕ → Written → Written → Result (Unit {0}) Fault → Type 0
ClosesOne predicates link all bound mid new result =
    (total : ℕ → ℕ) (whole : Node) (links : List Link) (old : Written) → Closing total (modes_of predicates) all (among bound) whole (link ∷ links) old mid
    → CloseGives total (modes_of predicates) all (among bound) whole links old new result

-- Where all links are closed, the whole is written.
abbrev pub Closes : List PredDecl → List Link → List ℕ → List ℕ → Written → Written → Result (Unit {0}) Fault → Type 0
Closes predicates links all bound mid new result =
    (total : ℕ → ℕ) (whole : Node) (old : Written) → Closing total (modes_of predicates) all (among bound) whole links old mid
    → Gives (modes_of predicates) (from total (modes_of predicates) whole (among bound)) old new result
