-- Worked examples of the variables of goals, which the prover computes, and false statements that it refutes.
use Rattle.std.specs.Prelude.{◌≡◌, ℕ, ◌==◌, Bool, true, false, [], ◌∷◌, Some, None, codes, refl}
use Rattle.merc_base.specs.Names.{less_name}
use Rattle.merc_base.specs.declared.place.Span.{Span}
use Rattle.merc_tree.specs.Term.{Term, Variable, Application, none, more}
use Rattle.merc_goals.specs.Written.{Written, no_goals, more_goals, Equal, Compared, Called, Conjunction, Parallel, Disjunction, Conditional, Negated, Quantified}
use Rattle.merc_value.specs.Text.{is_blank}
use Rattle.merc_scopes.specs.Scopes.{at_of, free, introduced, occurrence, own, shared}

-- The names `X`, `Y` and `Z`, `_`, and `a` have numbers behind those of the constants.

abbrev pub a_name : ℕ
a_name = 109

abbrev pub blank_name : ℕ
blank_name = 110

abbrev pub x_name : ℕ
x_name = 111

abbrev pub y_name : ℕ
y_name = 112

abbrev pub z_name : ℕ
z_name = 113

abbrev pub here : Span
here = record { first = 3; past = 4; line = 1 }

abbrev pub blank : ℕ → Bool
blank name = name == blank_name

abbrev pub variable : ℕ → Term
variable name = Variable name here

-- `a(X)` for one variable or another
abbrev pub call : ℕ → ℕ → Written
call at name = Called at a_name None (more (variable name) none) here

-- two variables on both sides of `=`
abbrev pub equation : ℕ → ℕ → ℕ → Written
equation at left right = Equal at (variable left) (variable right) here

-- `X = Y, a(X)`
abbrev pub both : Written
both = Conjunction (more_goals (equation 2 x_name y_name) (more_goals (call 8 x_name) no_goals)) here

-- the variables of a goal

pub free-example : free blank both ≡ occurrence x_name 4 ∷ occurrence y_name 6 ∷ occurrence x_name 10 ∷ []
free-example = refl

-- `a(a(_, Y), X)`
pub free-nested : free blank (Called 0 a_name None (more (Application a_name None (more (variable blank_name) (more (variable y_name) none)) here) (more (variable x_name) none)) here)
    ≡ occurrence y_name 6 ∷ occurrence x_name 8 ∷ []
free-nested = refl

-- `some [X] (X = Y, a(X))`
pub free-quantified : free blank (Quantified (x_name ∷ []) both here) ≡ occurrence y_name 6 ∷ []
free-quantified = refl

-- A variable that a quantifier names is none of the variables of the whole.
pub free-not : free blank (Quantified (x_name ∷ []) both here) ≡ occurrence x_name 4 ∷ occurrence y_name 6 ∷ occurrence x_name 10 ∷ [] → ⊥
free-not e = cc

-- the variables of two goals or more

pub shared-example : shared ((occurrence x_name 4 ∷ occurrence y_name 6 ∷ []) ∷ (occurrence x_name 10 ∷ []) ∷ []) ≡ occurrence x_name 4 ∷ occurrence x_name 10 ∷ []
shared-example = refl

-- A variable that occurs twice in one goal alone is not shared.
pub shared-once : shared ((occurrence x_name 4 ∷ occurrence x_name 6 ∷ []) ∷ (occurrence y_name 10 ∷ []) ∷ []) ≡ []
shared-once = refl

pub shared-not : shared ((occurrence x_name 4 ∷ occurrence x_name 6 ∷ []) ∷ (occurrence y_name 10 ∷ []) ∷ []) ≡ occurrence x_name 4 ∷ occurrence x_name 6 ∷ [] → ⊥
shared-not e = cc

-- what a quantifier takes, in the order in which it names them

pub own-example : own (y_name ∷ z_name ∷ x_name ∷ x_name ∷ []) (free blank both) ≡ occurrence y_name 6 ∷ occurrence x_name 4 ∷ []
own-example = refl

-- A name that is listed twice is taken once.
pub own-not : own (x_name ∷ x_name ∷ []) (free blank both) ≡ occurrence x_name 4 ∷ occurrence x_name 4 ∷ [] → ⊥
own-not e = cc

-- what goals bring with them

pub introduced-conjunction : at_of x_name (introduced blank both) ≡ Some 4
introduced-conjunction = refl

pub introduced-conjunction_one : at_of y_name (introduced blank both) ≡ None
introduced-conjunction_one = refl

-- `if a(X) then a(Y) else a(X)`
pub introduced-conditional : introduced blank (Conditional (call 4 x_name) (call 8 y_name) (call 12 x_name) here) ≡ []
introduced-conditional = refl

-- `a(X) ; a(X)`
pub introduced-disjunction : introduced blank (Disjunction (more_goals (call 2 x_name) (more_goals (call 6 x_name) no_goals)) here) ≡ []
introduced-disjunction = refl

-- `a(X) & a(X)`: conjuncts share a variable
pub introduced-parallel : at_of x_name (introduced blank (Parallel (more_goals (call 2 x_name) (more_goals (call 6 x_name) no_goals)) here)) ≡ Some 4
introduced-parallel = refl

-- `if a(X) then a(X) else a(Y)`: the condition and the then part share a variable
pub introduced-condition : at_of x_name (introduced blank (Conditional (call 4 x_name) (call 8 x_name) (call 12 y_name) here)) ≡ Some 6
introduced-condition = refl

-- `if a(Y) then a(X) else a(X)`: the else part shares none with the then part
pub introduced-then : introduced blank (Conditional (call 4 y_name) (call 8 x_name) (call 12 x_name) here) ≡ []
introduced-then = refl

-- `some [Y, Z] (X = Y, a(X))`: a quantifier brings those that it names, where they occur, whatever they are around it
pub introduced-quantified : introduced blank (Quantified (y_name ∷ z_name ∷ []) both here) ≡ occurrence y_name 6 ∷ []
introduced-quantified = refl

-- `not a(X)`
pub introduced-negated : introduced blank (Negated (call 4 x_name) here) ≡ []
introduced-negated = refl

-- `a(X)` brings its variable, and `a(_)` none
pub introduced-call : introduced blank (call 2 x_name) ≡ occurrence x_name 4 ∷ []
introduced-call = refl

pub introduced-blank : introduced blank (call 2 blank_name) ≡ []
introduced-blank = refl

-- `X < Y`
pub introduced-comparison : introduced blank (Compared 2 less_name (variable x_name) (variable y_name) here) ≡ occurrence x_name 4 ∷ occurrence y_name 6 ∷ []
introduced-comparison = refl

-- the variables of other goals

-- `not a(X)`, `if a(X) then a(Y) else a(Z)`, `a(X) ; a(Y)` and `a(X) & a(Y)`
pub free-negated : free blank (Negated (call 4 x_name) here) ≡ occurrence x_name 6 ∷ []
free-negated = refl

pub free-conditional : free blank (Conditional (call 4 x_name) (call 8 y_name) (call 12 z_name) here) ≡ occurrence x_name 6 ∷ occurrence y_name 10 ∷ occurrence z_name 14 ∷ []
free-conditional = refl

pub free-disjunction : free blank (Disjunction (more_goals (call 2 x_name) (more_goals (call 6 y_name) no_goals)) here) ≡ occurrence x_name 4 ∷ occurrence y_name 8 ∷ []
free-disjunction = refl

pub free-parallel : free blank (Parallel (more_goals (call 2 x_name) (more_goals (call 6 y_name) no_goals)) here) ≡ occurrence x_name 4 ∷ occurrence y_name 8 ∷ []
free-parallel = refl

pub free-comparison : free blank (Compared 2 less_name (variable x_name) (variable y_name) here) ≡ occurrence x_name 4 ∷ occurrence y_name 6 ∷ []
free-comparison = refl

-- which names are `_`

pub blank-example : is_blank (codes "a" ∷ codes "_" ∷ codes "_a" ∷ []) 1 ≡ true
blank-example = refl

pub blank-longer : is_blank (codes "a" ∷ codes "_" ∷ codes "_a" ∷ []) 2 ≡ false
blank-longer = refl

-- a number that is no name's
pub blank-none : is_blank (codes "_" ∷ []) 1 ≡ false
blank-none = refl
