-- What is known of the types of variables, and of what type variables stand for, while the parts of a goal are gone through.
use Rattle.std.specs.Prelude.{◌≡◌, ℕ, ◌<◌, ◌≤◌, Bool, true, false, List, length, map, Option, Some, None}
use Rattle.std.proofs.Common.{Ordering}
use Rattle.std.specs.Option.{IfSome}
use Rattle.std.specs.Ordering.{nat_cmp, ordering_then}
use Rattle.std.specs.BTreeMap.{BTreeMap, get}
use Rattle.merc_tree.specs.Types.{TypeExpr, replaced}
use Rattle.merc_type_table.specs.Table.{type_at}
use Rattle.merc_type_graph.specs.Solutions.{Entry, Solves}
use Rattle.merc_type_graph.specs.Changes.{AllWithin, Decides}
use Rattle.merc_type_matching.specs.Kept.{AreKept}
use Rattle.merc_type_check.specs.declared.checker.Checker.{Checker}
use Rattle.merc_type_check.specs.declared.checker.UsedType.{UsedType}
use Rattle.merc_type_matching.specs.declared.used.UsedVariable.{UsedVariable}
use Rattle.merc_type_check.specs.declared.typings.Typing.{Typing}

-- types by numbers: of places, of variables, or of what type variables stand for
abbrev pub Types : Type 0
Types = ℕ → TypeExpr

-- what type variables stand for in each part of a goal, by the part's number
abbrev pub Instances : Type 0
Instances = ℕ → Types

-- the type at each number's place is the number's type
abbrev pub AgreesWith : BTreeMap ℕ ℕ → Types → Types → Type 0
AgreesWith found places types = (number : ℕ) → IfSome (get nat_cmp found number) (λ place. places place ≡ types number)

abbrev pub compare_variables : UsedVariable → UsedVariable → Ordering
compare_variables one other = ordering_then (nat_cmp one.user other.user) (nat_cmp one.name other.name)

-- the type at each type variable's place is what it stands for
abbrev pub AgreesIn : BTreeMap UsedVariable ℕ → Types → Instances → Type 0
AgreesIn found places instance = (variable : UsedVariable) → IfSome (get compare_variables found variable) (λ place. places place ≡ instance variable.user variable.name)

-- a declared type as a part of a goal uses it
abbrev pub used_type : List TypeExpr → Instances → UsedType → TypeExpr
used_type table instance used = replaced (instance used.user) (type_at table used.number)

-- each variable that waits without a place has the declared type that it was given
abbrev pub AgreeWaiting : Checker → Types → Instances → Type 0
AgreeWaiting checker types instance = (number : ℕ) → IfSome (get nat_cmp checker.waiting number) (λ used. types number ≡ used_type checker.graph.table instance used)

-- Types at all places that solve the equations, with those of the variables and of what type variables stand for.
pub record Fits (checker : Checker) (places types : Types) (instance : Instances) : Type 0 where
  pub solved : Solves checker.graph.entries places
  pub variables : AgreesWith checker.variables places types
  pub waiting : AgreeWaiting checker types instance
  pub instances : AgreesIn checker.instances places instance

-- type variables stand for something such that these types fit
pub record Holds (checker : Checker) (places types : Types) : Type 0 where
  pub instance : Instances
  pub fits : Fits checker places types instance

-- each place that is named is there
abbrev pub AreThere : BTreeMap ℕ ℕ → ℕ → Type 0
AreThere found count = (number : ℕ) → IfSome (get nat_cmp found number) (λ place. place < count)

-- the same of those of type variables, which are of parts up to a last one
abbrev pub AreMet : BTreeMap UsedVariable ℕ → ℕ → ℕ → Type 0
AreMet found count last = (variable : UsedVariable) → IfSome (get compare_variables found variable) (λ place. (place < count) × (variable.user ≤ last))

-- What waits has no place, and a declared type that is there, of a part up to the last one.
abbrev pub Waits : Checker → ℕ → UsedType → Type 0
Waits checker number used = (used.number < length checker.graph.table) × (used.user ≤ checker.part) × (get nat_cmp checker.variables number ≡ None)

abbrev pub AllWait : Checker → Type 0
AllWait checker = (number : ℕ) → IfSome (get nat_cmp checker.waiting number) (Waits checker number)

abbrev pub AgreeBelow : ℕ → Types → Types → Type 0
AgreeBelow count one other = (place : ℕ) → place < count → one place ≡ other place

-- whether types solve equations does not hang on places that are not there
abbrev pub IsLocal : List Entry → Type 0
IsLocal graph = (one other : Types) → AgreeBelow (length graph) one other → Solves graph one → Solves graph other

pub record IsSound (checker : Checker) : Type 0 where
  pub local : IsLocal checker.graph.entries
  pub variables : AreThere checker.variables (length checker.graph.entries)
  pub waiting : AllWait checker
  pub none_waits : checker.may_wait ≡ false → (number : ℕ) → get nat_cmp checker.waiting number ≡ None
  pub instances : AreMet checker.instances (length checker.graph.entries) checker.part
  pub matchings : AreKept checker.graph.table checker.matchings
  pub table : checker.table.now ≡ checker.graph.table
  pub listed : checker.listed.now ≡ checker.graph.table

-- a part is begun with
abbrev pub begun : Checker → ℕ → Checker
begun checker number = record checker { part = number }

-- The part that is gone through used no declaration yet.
pub record IsFresh (checker : Checker) : Type 0 where
  pub instances : (variable : UsedVariable) → IfSome (get compare_variables checker.instances variable) (λ place. variable.user < checker.part)
  pub waiting : (number : ℕ) → IfSome (get nat_cmp checker.waiting number) (λ used. used.user < checker.part)

-- a variable that may go without a place was not met; no is said of any
abbrev pub IsNewIf : Bool → Checker → ℕ → Type 0
IsNewIf true checker number = (checker.may_wait ≡ true) × (get nat_cmp checker.variables number ≡ None) × (get nat_cmp checker.waiting number ≡ None)
IsNewIf false checker number = Unit {0}

-- variables keep what was known of each
abbrev pub Keeps : Checker → Checker → Type 0
Keeps old new = (new.variables ≡ old.variables) × (new.waiting ≡ old.waiting)

-- What is asked of the types of variables and of what type variables stand for.
-- A step adds this to what was asked before, and nothing else.
pub record Step (old new : Checker) (Asked : Types → Instances → Type 0) : Type 0 where
  pub sound : IsSound new
  pub longer : length old.graph.entries ≤ length new.graph.entries
  pub same_table : new.graph.table ≡ old.graph.table
  pub same_part : new.part ≡ old.part
  pub same_mode : new.may_wait ≡ old.may_wait
  pub back : (places types : Types) (instance : Instances) → Fits new places types instance → Fits old places types instance × Asked types instance
  pub forth : (places types : Types) (instance : Instances) → Fits old places types instance → Asked types instance → (others : Types) × Fits new others types instance

-- or no types are as it asks
abbrev pub Refuses : Checker → (Types → Instances → Type 0) → Type 0
Refuses old Asked = (places types : Types) (instance : Instances) → Fits old places types instance → Asked types instance → ⊥

abbrev pub Takes : Bool → Checker → Checker → (Types → Instances → Type 0) → Type 0
Takes true old new Asked = Step old new Asked
Takes false old new Asked = Refuses old Asked

-- nothing is asked
abbrev pub Nothing : Types → Instances → Type 0
Nothing types instance = Unit {0}

-- at this place there is always this type
pub record Stands (checker : Checker) (place : ℕ) (Meant : Types → Instances → TypeExpr) : Type 0 where
  pub there : place < length checker.graph.entries
  pub meant : (places types : Types) (instance : Instances) → Fits checker places types instance → places place ≡ Meant types instance

-- at these places there are always these types
pub record AllStand (checker : Checker) (listed : List ℕ) (Meant : Types → Instances → List TypeExpr) : Type 0 where
  pub there : AllWithin (length checker.graph.entries) listed
  pub meant : (places types : Types) (instance : Instances) → Fits checker places types instance → map places listed ≡ Meant types instance

-- a step that asks nothing, and a place for a type
pub record Places (old new : Checker) (place : ℕ) (Meant : Types → Instances → TypeExpr) : Type 0 where
  pub grows : Step old new Nothing
  pub stands : Stands new place Meant

-- A place for the type of a variable that had none: what was known of the variable is known where its type is the one there.
pub record Offers (old new : Checker) (variable place : ℕ) : Type 0 where
  pub sound : IsSound new
  pub longer : length old.graph.entries ≤ length new.graph.entries
  pub same_table : new.graph.table ≡ old.graph.table
  pub same_part : new.part ≡ old.part
  pub same_mode : new.may_wait ≡ old.may_wait
  pub there : place < length new.graph.entries
  pub no_place : get nat_cmp new.variables variable ≡ None
  pub no_wait : get nat_cmp new.waiting variable ≡ None
  pub back : (places types : Types) (instance : Instances) → Fits new places types instance → places place ≡ types variable → Fits old places types instance
  pub forth : (places types : Types) (instance : Instances) → Fits old places types instance → (others : Types) × Fits new others types instance × (others place ≡ types variable)

-- the same without a look at what type variables stand for
pub record GoalStep (old new : Checker) (Asked : Types → Type 0) : Type 0 where
  pub sound : IsSound new
  pub same_table : new.graph.table ≡ old.graph.table
  pub same_part : new.part ≡ old.part
  pub same_mode : new.may_wait ≡ old.may_wait
  pub back : (places types : Types) → Holds new places types → Holds old places types × Asked types
  pub forth : (places types : Types) → Holds old places types → Asked types → (others : Types) × Holds new others types

abbrev pub GoalRefuses : Checker → (Types → Type 0) → Type 0
GoalRefuses old Asked = (places types : Types) → Holds old places types → Asked types → ⊥

abbrev pub GoalTakes : Bool → Checker → Checker → (Types → Type 0) → Type 0
GoalTakes true old new Asked = GoalStep old new Asked
GoalTakes false old new Asked = GoalRefuses old Asked

-- What is known is just that types are as asked.
pub record Knows (checker : Checker) (Asked : Types → Type 0) : Type 0 where
  pub sound : IsSound checker
  pub back : (places types : Types) → Holds checker places types → Asked types
  pub forth : (types : Types) → Asked types → (places : Types) × Holds checker places types

-- The equations and the places of variables go on as a typing where something solves them.
abbrev pub Yields : Checker → Option Typing → Type 0
Yields checker None = Decides false checker.graph.entries
Yields checker (Some typing) = Decides true checker.graph.entries × (typing.graph ≡ checker.graph) × (typing.variables ≡ checker.variables)
