-- What the check tells in the end.
use Rattle.std.proofs.Common.{◌≡◌, ℕ, zero, suc, ◌+◌, ◌<◌, ◌≤◌, Bool, true, false, Option, Some, None, List, [], ◌∷◌, length, take, refl, sym, subst, add-one, arith}
use Rattle.std.specs.Prelude.{slice_get}
use Rattle.std.specs.Option.{IfSome, IfNone}
use Rattle.std.specs.List.{AllByRecursion}
use Rattle.std.specs.Ordering.{nat_cmp}
use Rattle.std.specs.BTreeMap.{get}
use Rattle.std.proofs.lemmas.List.{take_all}
use Rattle.merc_base.specs.declared.place.Span.{Span}
use Rattle.merc_tree.specs.Types.{TypeExpr, IntType}
use Rattle.merc_type_graph.specs.Solutions.{Solves}
use Rattle.merc_type_graph.specs.Changes.{Decides}
use Rattle.merc_tree.specs.declared.declarations.Module.{Module}
use Rattle.merc_goal_tree.specs.declared.entries.Root.{Root}
use Rattle.merc_goal_tree.specs.declared.entries.Root.TheVariants.{Simple, Conjunction, Parallel, Disjunction, Conditional, Negation, Quantified}
use Rattle.merc_goal_tree.specs.Nodes.{Node}
use Rattle.merc_goal_tree.specs.Parts.{parts_of}
use Rattle.merc_type_check.specs.declared.checker.Checker.{Checker}
use Rattle.merc_type_check.specs.declared.checker.UsedType.{UsedType}
use Rattle.merc_type_check.specs.declared.typings.Typing.{Typing}
use Rattle.merc_type_check.specs.Progress.{compare_variables, used_type, AgreesIn, AgreesWith, Types, Instances, Fits, Holds, IsSound, Step, Refuses, GoalStep, GoalRefuses, Knows, Waits, Yields}
use Rattle.merc_type_check.specs.Typing.{AreArguments, IsTyped, IsTypedPart, HasTyping}
use Rattle.merc_type_check.specs.Typings.{IsTypingOf}
use Rattle.merc_type_check.specs.Checked.{Tells}
use Rattle.merc_type_check.specs.Repeats.{IsRepeated}
use Rattle.merc_type_check.proofs.Steps.{plain_goal_takes}

-- the predicate's arguments have their types, and so many parts are typed
pub record IsTypedUpTo (known : Module) (arguments : List TypeExpr) (goal : Node) (count : ℕ) (types : Types) : Type 0 where
  pub head : AreArguments known types 0 arguments
  pub parts : AllByRecursion (IsTypedPart known types) (take count (parts_of goal))

-- the arguments
pub head_known : (start head : Checker) (known : Module) (arguments : List TypeExpr) (goal : Node) → ((places types : Types) (instance : Instances) → Fits start places types instance)
    → Step start head (λ types instance. AreArguments known types 0 arguments) → Knows head (IsTypedUpTo known arguments goal 0)
head_known start head known arguments goal free step =
    let whole : GoalStep start head (λ types. AreArguments known types 0 arguments) =
    plain_goal_takes true start head (λ types. AreArguments known types 0 arguments) step in
    record {
      sound = whole.sound;
      back = λ places types holds. record { head = (whole.back places types holds).1; parts = tt };
      forth = λ types typed. whole.forth types types (record { instance = λ user. types; fits = free types types (λ user. types) }) typed.head;
    }

pub head_untyped : (start : Checker) (known : Module) (arguments : List TypeExpr) (goal : Node) → ((places types : Types) (instance : Instances) → Fits start places types instance)
    → Refuses start (λ types instance. AreArguments known types 0 arguments) → HasTyping known arguments goal → ⊥
head_untyped start known arguments goal free refuses typing =
    refuses typing.0 typing.0 (λ user. typing.0) (free typing.0 typing.0 (λ user. typing.0)) typing.1.head

-- one part more
pub part_push : {A : Type 0} (P : A → Type 0) (k : ℕ) (listed : List A) (x : A) → Some x ≡ slice_get listed k → AllByRecursion P (take k listed) → P x
    → AllByRecursion P (take (suc k) listed)
part_push P k [] x e all one = absurd (cc)
part_push P zero (y ∷ ys) x e all one = (subst P (same_some e) one, tt)
  where
    same_some : {B : Type 0} {a b : B} → Some a ≡ Some b → a ≡ b
    same_some e = cc
part_push P (suc k) (y ∷ ys) x e all one = (all.0, part_push P k ys x e all.1 one)

pub part_pop : {A : Type 0} (P : A → Type 0) (k : ℕ) (listed : List A) (x : A) → Some x ≡ slice_get listed k → AllByRecursion P (take (suc k) listed)
    → AllByRecursion P (take k listed) × P x
part_pop P k [] x e all = absurd (cc)
part_pop P zero (y ∷ ys) x e all = (tt, subst P (sym (same_some e)) all.0)
  where
    same_some : {B : Type 0} {a b : B} → Some a ≡ Some b → a ≡ b
    same_some e = cc
part_pop P (suc k) (y ∷ ys) x e all = let rest = part_pop P k ys x e all.1 in ((all.0, rest.0), rest.1)

pub part_front : {A : Type 0} (P : A → Type 0) (k : ℕ) (listed : List A) → AllByRecursion P listed → AllByRecursion P (take k listed)
part_front P zero listed all = tt
part_front P (suc k) [] all = tt
part_front P (suc k) (y ∷ ys) all = (all.0, part_front P k ys all.1)

pub part_known : (old new : Checker) (known : Module) (arguments : List TypeExpr) (goal : Node) (k : ℕ) (part : Root × Span) → Some part ≡ slice_get (parts_of goal) k
    → Knows old (IsTypedUpTo known arguments goal k) → GoalStep old new (λ types. IsTypedPart known types part)
    → Knows new (IsTypedUpTo known arguments goal (k + 1))
part_known old new known arguments goal k part part_is knows step =
    subst (λ (n : ℕ). Knows new (IsTypedUpTo known arguments goal n)) (sym (add-one k)) (record {
      sound = step.sound;
      back = λ places types holds.
          let before = step.back places types holds in
          let typed = knows.back places types before.0 in
          record { head = typed.head; parts = part_push (IsTypedPart known types) k (parts_of goal) part part_is typed.parts before.1 };
      forth = λ types typed.
          let both = part_pop (IsTypedPart known types) k (parts_of goal) part part_is typed.parts in
          let before = knows.forth types (record { head = typed.head; parts = both.0 }) in
          step.forth before.0 types before.1 both.1;
    })

pub part_untyped : (old : Checker) (known : Module) (arguments : List TypeExpr) (goal : Node) (k : ℕ) (part : Root × Span) → Some part ≡ slice_get (parts_of goal) k
    → Knows old (IsTypedUpTo known arguments goal k) → GoalRefuses old (λ types. IsTypedPart known types part) → HasTyping known arguments goal → ⊥
part_untyped old known arguments goal k part part_is knows refuses typing =
    let types : Types = typing.0 in
    let both = part_pop (IsTypedPart known types) k (parts_of goal) part part_is (part_front (IsTypedPart known types) (suc k) (parts_of goal) typing.1.parts) in
    let before = knows.forth types (record { head = typing.1.head; parts = both.0 }) in
    refuses before.0 types before.1 both.1

part_within : {A : Type 0} (P : A → Type 0) (k i : ℕ) (listed : List A) (x : A) → i < k → slice_get listed i ≡ Some x → AllByRecursion P (take k listed) → P x
part_within P k i [] x less e all = absurd (cc)
part_within P zero i (y ∷ ys) x less e all = absurd (omega arith)
part_within P (suc k) zero (y ∷ ys) x less e all = subst P (same_some e) all.0
  where
    same_some : {B : Type 0} {a b : B} → Some a ≡ Some b → a ≡ b
    same_some e = cc
part_within P (suc k) (suc i) (y ∷ ys) x less e all = part_within P k i ys x (omega arith) e all.1

-- where a part stands in the text is not looked at
typed_elsewhere : (known : Module) (types : Types) (root : Root) (one other : Span) → IsTypedPart known types (root, one) → IsTypedPart known types (root, other)
typed_elsewhere known types (Simple goal) one other typed = typed
typed_elsewhere known types (Conjunction count) one other typed = typed
typed_elsewhere known types (Parallel count) one other typed = typed
typed_elsewhere known types (Disjunction count) one other typed = typed
typed_elsewhere known types Conditional one other typed = typed
typed_elsewhere known types Negation one other typed = typed
typed_elsewhere known types (Quantified variables) one other typed = typed

-- a part that stands before asks for nothing new
pub part_repeated : (checker : Checker) (known : Module) (arguments : List TypeExpr) (goal : Node) (k : ℕ) (root : Root) (span : Span) → Some (root, span) ≡ slice_get (parts_of goal) k
    → IsRepeated (parts_of goal) k root → Knows checker (IsTypedUpTo known arguments goal k) → Knows checker (IsTypedUpTo known arguments goal (k + 1))
part_repeated checker known arguments goal k root span part_is repeated knows =
    subst (λ (n : ℕ). Knows checker (IsTypedUpTo known arguments goal n)) (sym (add-one k)) (record {
      sound = knows.sound;
      back = λ places types holds.
          let typed = knows.back places types holds in
          let before : IsTypedPart known types (root, repeated.span) =
          part_within (IsTypedPart known types) k repeated.earlier (parts_of goal) (root, repeated.span) repeated.before repeated.here typed.parts in
          record {
            head = typed.head;
            parts = part_push (IsTypedPart known types) k (parts_of goal) (root, span) part_is typed.parts (typed_elsewhere known types root repeated.span span before);
          };
      forth = λ types typed.
          let both = part_pop (IsTypedPart known types) k (parts_of goal) (root, span) part_is typed.parts in
          knows.forth types (record { head = typed.head; parts = both.0 });
    })

-- all parts
whole_typed : (known : Module) (arguments : List TypeExpr) (goal : Node) (k : ℕ) (types : Types) → length (parts_of goal) ≤ k
    → IsTypedUpTo known arguments goal k types → IsTyped known types arguments goal
whole_typed known arguments goal k types all typed = record {
  head = typed.head;
  parts = subst (AllByRecursion (IsTypedPart known types)) (take_all k (parts_of goal) all) typed.parts;
}

typed_front : (known : Module) (arguments : List TypeExpr) (goal : Node) (k : ℕ) (types : Types) → IsTyped known types arguments goal
    → IsTypedUpTo known arguments goal k types
typed_front known arguments goal k types typed = record {
  head = typed.head;
  parts = part_front (IsTypedPart known types) k (parts_of goal) typed.parts;
}

pub all_known : (checker : Checker) (known : Module) (arguments : List TypeExpr) (goal : Node) (k : ℕ) → length (parts_of goal) ≤ k
    → Knows checker (IsTypedUpTo known arguments goal k) → Knows checker (λ types. IsTyped known types arguments goal)
all_known checker known arguments goal k all knows = record {
  sound = knows.sound;
  back = λ places types holds. whole_typed known arguments goal k types all (knows.back places types holds);
  forth = λ types typed. knows.forth types (typed_front known arguments goal k types typed);
}

-- Types that solve the equations show types of all variables, and what type variables stand for.

read : Option ℕ → Types → TypeExpr
read None places = IntType
read (Some place) places = places place

read_agrees : (o : Option ℕ) (places : Types) → IfSome o (λ place. places place ≡ read o places)
unfolding read
read_agrees None places = tt
read_agrees (Some place) places = refl

instances_read : Checker → Types → Instances
instances_read checker places = λ user name. read (get compare_variables checker.instances (record { user = user; name = name })) places

instances_read_agree : (checker : Checker) (places : Types) → AgreesIn checker.instances places (instances_read checker places)
unfolding instances_read
instances_read_agree checker places = λ variable. read_agrees (get compare_variables checker.instances variable) places

-- the type of a variable: at its place, or the one that it waits with
shown : Option ℕ → Option UsedType → List TypeExpr → Instances → Types → TypeExpr
shown None None table instance places = IntType
shown None (Some used) table instance places = used_type table instance used
shown (Some place) o table instance places = places place

shown_placed : (o : Option ℕ) (w : Option UsedType) (table : List TypeExpr) (instance : Instances) (places : Types) → IfSome o (λ place. places place ≡ shown o w table instance places)
unfolding shown
shown_placed None w table instance places = tt
shown_placed (Some place) w table instance places = refl

shown_waiting : (checker : Checker) (number : ℕ) (o : Option ℕ) (w : Option UsedType) (table : List TypeExpr) (instance : Instances) (places : Types)
    → get nat_cmp checker.variables number ≡ o → IfSome w (Waits checker number) → IfSome w (λ used. shown o w table instance places ≡ used_type table instance used)
unfolding shown
shown_waiting checker number o None table instance places o_is waits = tt
shown_waiting checker number None (Some used) table instance places o_is waits = refl
shown_waiting checker number (Some place) (Some used) table instance places o_is waits = let none = waits.2 in absurd (cc)

pub types_shown : Checker → Types → Types
types_shown checker places =
    λ number. shown (get nat_cmp checker.variables number) (get nat_cmp checker.waiting number) checker.graph.table (instances_read checker places) places

pub holds_shown : (checker : Checker) (places : Types) → IsSound checker → Solves checker.graph.entries places → Holds checker places (types_shown checker places)
unfolding types_shown
holds_shown checker places sound solved = record {
  instance = instances_read checker places;
  fits = record {
    solved = solved;
    variables = λ number.
        shown_placed (get nat_cmp checker.variables number) (get nat_cmp checker.waiting number) checker.graph.table (instances_read checker places) places;
    waiting = λ number.
        shown_waiting checker number (get nat_cmp checker.variables number) (get nat_cmp checker.waiting number) checker.graph.table (instances_read checker places) places
        refl (sound.waiting number);
    instances = instances_read_agree checker places;
  };
}

-- a goal is typed where types solve the equations
pub told : (solvable : Bool) (checker : Checker) (known : Module) (arguments : List TypeExpr) (goal : Node) → Knows checker (λ types. IsTyped known types arguments goal)
    → Decides solvable checker.graph.entries → Tells solvable known arguments goal
told true checker known arguments goal knows decides =
    let places : Types = decides.0 in
    (types_shown checker places, knows.back places (types_shown checker places) (holds_shown checker places knows.sound decides.1))
told false checker known arguments goal knows decides = λ typing.
    let holds = knows.forth typing.0 typing.1 in
    decides holds.0 holds.1.fits.solved

-- where nothing waits, the places of variables tell all of their types
holds_placed : (checker : Checker) (places types : Types) → IsSound checker → checker.may_wait ≡ false → Solves checker.graph.entries places
    → AgreesWith checker.variables places types → Holds checker places types
holds_placed checker places types sound mode solved variables = record {
  instance = instances_read checker places;
  fits = record {
    solved = solved;
    variables = variables;
    waiting = λ number.
        subst (λ (o : Option UsedType). IfSome o (λ used. types number ≡ used_type checker.graph.table (instances_read checker places) used))
        (sym (sound.none_waits mode number)) tt;
    instances = instances_read_agree checker places;
  };
}

-- what is known in the end goes on as a typing
pub typing_found : (found : Option Typing) (checker : Checker) (known : Module) (arguments : List TypeExpr) (goal : Node) → checker.may_wait ≡ false
    → Knows checker (λ types. IsTyped known types arguments goal) → Yields checker found → IfSome found (λ typing. IsTypingOf typing known arguments goal)
typing_found None checker known arguments goal mode knows yields = tt
typing_found (Some typing) checker known arguments goal mode knows yields = record {
  there = λ number. rw (yields.2, yields.1) (knows.sound.variables number);
  solvable = rw (yields.1) yields.0;
  sound = λ places types solution.
      knows.back places types (holds_placed checker places types knows.sound mode (rw (← yields.1) solution.solved) (rw (← yields.2) solution.variables));
  complete = λ types typed.
      let holds = knows.forth types typed in
      (holds.0, record { solved = rw (yields.1) holds.1.fits.solved; variables = rw (yields.2) holds.1.fits.variables });
}

pub none_found : (found : Option Typing) (checker : Checker) (known : Module) (arguments : List TypeExpr) (goal : Node)
    → Knows checker (λ types. IsTyped known types arguments goal) → Yields checker found → IfNone found (HasTyping known arguments goal → ⊥)
none_found (Some typing) checker known arguments goal knows yields = tt
none_found None checker known arguments goal knows yields = λ typing.
    let holds = knows.forth typing.0 typing.1 in
    yields holds.0 holds.1.fits.solved
