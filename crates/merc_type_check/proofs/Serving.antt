-- Parts of a goal whose type variables serve for a call.
use Rattle.std.proofs.Common.{◌≡◌, ℕ, zero, suc, ◌⊎◌, inl, inr, Bool, true, Option, Some, List, [], ◌∷◌, ◌+◌, map, take, sym, ap, subst, ◌∙◌, add-one, arith}
use Rattle.std.specs.Prelude.{slice_get}
use Rattle.std.specs.Option.{IfSome}
use Rattle.std.specs.List.{AllByRecursion}
use Rattle.merc_tree.specs.Types.{TypeExpr, replaced}
use Rattle.merc_tree.specs.declared.declarations.Module.{Module}
use Rattle.merc_tree.specs.declared.declarations.PredDecl.{PredDecl}
use Rattle.merc_type_table.specs.Table.{is_closed, type_at}
use Rattle.merc_type_check.specs.declared.checker.Checker.{Checker}
use Rattle.merc_type_check.specs.declared.checker.UsedType.{UsedType}
use Rattle.merc_type_check.specs.Progress.{used_type, GoalTakes, IsFresh, IsSound, Takes, Types}
use Rattle.merc_type_check.specs.TypeNumbers.{AreNumbers}
use Rattle.merc_type_check.specs.Typing.{HaveTypes, IsCalled}
use Rattle.merc_type_check.specs.Serving.{AreTold, IsClosedBut, IsGiven, Serves}
use Rattle.merc_type_matching.proofs.Parts.{replaced_closed}
use Rattle.merc_type_check.proofs.Numbers.{type_there}
use Rattle.merc_type_check.proofs.Places.{waits_there}
use Rattle.merc_type_check.proofs.Steps.{told_takes}
use Rattle.merc_type_check.proofs.Asked.{called}
use Rattle.merc_type_check.proofs.Told.{part_push}

-- the declared type of one argument
have_at : (known : Module) (types own : Types) (table : List TypeExpr) (variables numbers : List ℕ) (declared : List TypeExpr) (index variable number : ℕ)
    → AreNumbers table numbers declared → slice_get variables index ≡ Some variable → slice_get numbers index ≡ Some number → HaveTypes known types own variables declared
    → types variable ≡ replaced own (type_at table number)
have_at known types own table [] numbers declared index variable number are v_is n_is have = absurd (cc)
have_at known types own table (v ∷ vs) [] declared index variable number are v_is n_is have = absurd (cc)
have_at known types own table (v ∷ vs) (n ∷ ns) [] index variable number are v_is n_is have = absurd have
have_at known types own table (v ∷ vs) (n ∷ ns) (d ∷ ds) zero variable number are v_is n_is have =
    let a : v ≡ variable = cc in
    let b : n ≡ number = cc in
    let first : slice_get table n ≡ Some d = cc in
    let at : type_at table number ≡ d = ap (type_at table) (sym b) ∙ (type_there table n d first).1 in
    ap types (sym a) ∙ have.0 ∙ ap (replaced own) (sym at)
have_at known types own table (v ∷ vs) (n ∷ ns) (d ∷ ds) (suc index) variable number are v_is n_is have =
    let others : map (slice_get table) ns ≡ map Some ds = cc in
    have_at known types own table vs ns ds index variable number others v_is n_is have.1

-- all of them, where two instances of the only open type are the same
have_told : (known : Module) (types own other : Types) (table : List TypeExpr) (only : ℕ) (variables numbers : List ℕ) (declared : List TypeExpr)
    → replaced own (type_at table only) ≡ replaced other (type_at table only) → AreNumbers table numbers declared → AllByRecursion (IsClosedBut table only) numbers
    → HaveTypes known types own variables declared → HaveTypes known types other variables declared
have_told known types own other table only [] numbers [] same are closed have = tt
have_told known types own other table only [] numbers (d ∷ ds) same are closed have = absurd have
have_told known types own other table only (v ∷ vs) numbers [] same are closed have = absurd have
have_told known types own other table only (v ∷ vs) [] (d ∷ ds) same are closed have = absurd (cc)
have_told known types own other table only (v ∷ vs) (n ∷ ns) (d ∷ ds) same are closed have =
    let first : slice_get table n ≡ Some d = cc in
    let others : map (slice_get table) ns ≡ map Some ds = cc in
    let at : type_at table n ≡ d = (type_there table n d first).1 in
    (have.0 ∙ by at closed.0, have_told known types own other table only vs ns ds same others closed.1 have.1)
  where
    by : type_at table n ≡ d → IsClosedBut table only n → replaced own d ≡ replaced other d
    by at (inl none) = let is : is_closed d ≡ true = sym (ap is_closed at) ∙ none in replaced_closed own d is ∙ sym (replaced_closed other d is)
    by at (inr is) =
        let whole : type_at table only ≡ d = ap (type_at table) (sym is) ∙ at in
        ap (replaced own) (sym whole) ∙ same ∙ ap (replaced other) whole

pub serves_given : (checker : Checker) (variables numbers : List ℕ) (number user : ℕ) → IsSound checker → IsGiven checker variables numbers number user
    → AllByRecursion (IsClosedBut checker.graph.table number) numbers → (declared : List TypeExpr) → AreNumbers checker.graph.table numbers declared
    → Serves checker user variables declared
serves_given checker variables numbers number user sound given closed declared are = record {
  of_part = (waits_there checker given.variable (record { number = number; user = user }) sound given.waits).1;
  told = inr (λ known places types instance fits own have.
      let table : List TypeExpr = checker.graph.table in
      let now : types given.variable ≡ replaced own (type_at table number) =
      have_at known types own table variables numbers declared given.index given.variable number are given.variable_is given.number_is have in
      let had : types given.variable ≡ replaced (instance user) (type_at table number) =
      subst (λ (o : Option UsedType). IfSome o (λ used. types given.variable ≡ used_type table instance used)) given.waits (fits.waiting given.variable) in
      have_told known types own (instance user) table number variables numbers declared (sym now ∙ had) are closed have);
}

pub serves_own : (checker : Checker) (user : ℕ) (variables : List ℕ) → user ≡ checker.part → (declared : List TypeExpr) → Serves checker user variables declared
serves_own checker user variables is declared = record { of_part = omega arith; told = inl is }

-- a call with the type variables that serve
pub called_so : (done : Bool) (old new : Checker) (known : Module) (predicate : ℕ) (arguments : List ℕ) (declared : PredDecl) (user : ℕ)
    → Some declared ≡ slice_get known.preds predicate → IsFresh old → Serves old user arguments declared.args
    → Takes done old new (λ types instance. HaveTypes known types (instance user) arguments declared.args)
    → GoalTakes done old new (λ types. IsCalled known types (slice_get known.preds predicate) arguments)
called_so done old new known predicate arguments declared user found fresh serves takes = by serves.told
  where
    by : (user ≡ old.part) ⊎ AreTold old user arguments declared.args → GoalTakes done old new (λ types. IsCalled known types (slice_get known.preds predicate) arguments)
    by (inl is) =
        called done old new known predicate arguments declared found fresh
        (subst (λ (n : ℕ). Takes done old new (λ types instance. HaveTypes known types (instance n) arguments declared.args)) is takes)
    by (inr told) =
        told_takes done old new user (λ types own. HaveTypes known types own arguments declared.args)
        (λ types. IsCalled known types (slice_get known.preds predicate) arguments)
        (λ places types instance fits own have. told known places types instance fits own have)
        (λ types own has. subst (λ (o : Option PredDecl). IsCalled known types o arguments) found (own, has))
        (λ types has. subst (λ (o : Option PredDecl). IsCalled known types o arguments) (sym found) has) takes

-- one more type that is closed, or the only open one
pub closed_push : (table : List TypeExpr) (only : ℕ) (numbers : List ℕ) (k number : ℕ) → slice_get numbers k ≡ Some number
    → AllByRecursion (IsClosedBut table only) (take k numbers) → IsClosedBut table only number → AllByRecursion (IsClosedBut table only) (take (k + 1) numbers)
closed_push table only numbers k number is all one =
    subst (λ (n : ℕ). AllByRecursion (IsClosedBut table only) (take n numbers)) (sym (add-one k)) (part_push (IsClosedBut table only) k numbers number (sym is) all one)
