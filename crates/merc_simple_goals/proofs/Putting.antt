-- Goals that hold no others, as they are put behind the others.
use Rattle.std.specs.Prelude.{◌≡◌, ◌≤◌, ◌+◌, ◌-◌, ◌==◌, nat_lt, ℕ, suc, Bool, true, false, List, [], ◌∷◌, ◌++◌, length, take, drop, slice_get, Option, Some, None, Result, Ok, Err, refl, if◌then◌else◌}
use Rattle.std.specs.Option.{option_map}
use Rattle.std.proofs.Common.{◌∙◌, ap, sym, subst, arith}
use Rattle.std.proofs.lemmas.List.{append_assoc, length-append, take_at, drop_at}
use Rattle.merc_base.specs.declared.place.Span.{Span}
use Rattle.merc_base.specs.declared.refusal.Fault.{Fault}
use Rattle.merc_base.specs.declared.refusal.Fault.TheVariants.{Refused, NoMemory}
use Rattle.merc_tree.specs.declared.declarations.Arg.{Arg}
use Rattle.merc_tree.specs.declared.declarations.ModeDecl.{ModeDecl}
use Rattle.merc_goal_tree.specs.declared.goal.Comparison.{Comparison}
use Rattle.merc_goal_tree.specs.declared.goal.Operation.{Operation}
use Rattle.merc_goal_tree.specs.declared.goal.SimpleGoal.{SimpleGoal}
use Rattle.merc_goal_tree.specs.declared.goal.Symbol.{Symbol}
use Rattle.merc_graded_tree.specs.declared.basic.BasicGoal.{BasicGoal}
use Rattle.merc_graded_tree.specs.declared.basic.BasicGoal.TheVariants.{True as TrueGoal, Fail as FailGoal, Compare as CompareGoal, Raise as RaiseGoal, Assign as AssignGoal, Test as TestGoal, Build as BuildGoal, Split as SplitGoal, Arithmetic, Call}
use Rattle.merc_graded_tree.specs.declared.basic.Procedure.{Procedure}
use Rattle.merc_graded_tree.specs.declared.entries.Root.TheVariants.{Conjunction as ConjunctionRoot}
use Rattle.merc_graded_tree.specs.declared.entries.Running.TheVariants.{Sequential}
use Rattle.merc_graded_tree.specs.Nodes.{Node, node, Basic, Conjunction, Nodes, no_nodes, more_nodes, nodes_of, list_of}
use Rattle.merc_graded_tree.specs.Roots.{joined}
use Rattle.merc_order.specs.Bound.{Bound, are_bound}
use Rattle.merc_order.specs.CallModes.{inputs_of, width, wider, taken_from, tested, call_tested}
use Rattle.merc_order.specs.Faults.{never_ready}
use Rattle.merc_order.specs.Order.{same_from, called_from, simple_from}
use Rattle.merc_order.specs.Ordered.{Ordered, put, Truth, Failure, Compared, Raised, Assign, Test, Build, Split, Computed, Called, Outcome, Ready, Stuck}
use Rattle.merc_order.specs.Spelt.{replaced, tested_places, untested_places, written, tests_of, inner_outputs, inputs_in, with_tests, spelt, twins}
use Rattle.merc_simple_goals.specs.Putting.{IsPut, PutsIf}
use Rattle.merc_simple_goals.specs.Writing.{Gives}
use Rattle.merc_simple_goals.specs.declared.written.Written.{Written}

-- what is put is written

pub put_gives : (modes : ℕ → List ModeDecl) (ordered : Ordered) (outcome : Outcome) (goal : Node) (count : ℕ) (old new : Written) → IsPut goal count old new → goal ≡ spelt modes old.fresh ordered
    → count ≡ length (twins ordered) → outcome ≡ Ready ordered → Gives modes outcome old new (Ok tt)
put_gives modes ordered outcome goal count old new p g c o =
    (ordered, o, record { nodes = p.nodes ∙ ap (λ one. old.nodes ++ one ∷ []) g; fresh = p.fresh ∙ ap (λ n. old.fresh + n) c; seen = p.seen })

pub puts_gives : (modes : ℕ → List ModeDecl) (ordered : Ordered) (outcome : Outcome) (goal : Node) (span : Span) (is_ready : Bool) (old new : Written) (result : Result (Unit {0}) Fault)
    → PutsIf is_ready goal span old new result → goal ≡ spelt modes old.fresh ordered → 0 ≡ length (twins ordered)
    → outcome ≡ (if is_ready then Ready ordered else Stuck (never_ready span)) → Gives modes outcome old new result
puts_gives modes ordered outcome goal span is_ready old new (Ok done) (r, p) g c o =
    put_gives modes ordered outcome goal 0 old new p g c (o ∙ ap (λ b. if b then Ready ordered else Stuck (never_ready span)) r)
puts_gives modes ordered outcome goal span is_ready old new (Err (Refused refusal)) (r, s) g c o =
    o ∙ ap (λ b. if b then Ready ordered else Stuck (never_ready span)) r ∙ ap Stuck (sym s)
puts_gives modes ordered outcome goal span is_ready old new (Err NoMemory) p g c o = tt

-- a goal over its operands, with what it writes and of what it has tests
module _ (outputs : List ℕ) (span : Span) (old new : Written) where
  pub goal_put : (goal : List ℕ → BasicGoal) (operands operands' writes writes' testing testing' : List ℕ) → operands ≡ operands' → writes ≡ writes' → testing ≡ testing'
      → IsPut (with_tests old.fresh (goal operands) writes testing outputs span) (length testing) old new → IsPut (with_tests old.fresh (goal operands') writes' testing' outputs span) (length testing') old new
  goal_put goal operands operands' writes writes' testing testing' o w t is =
      subst (λ l. IsPut (with_tests old.fresh (goal operands') writes' l outputs span) (length l) old new) t
      (subst (λ l. IsPut (with_tests old.fresh (goal operands') l testing outputs span) (length testing) old new) w
      (subst (λ l. IsPut (with_tests old.fresh (goal l) writes testing outputs span) (length testing) old new) o is))

-- the set in which variables were looked up is empty as before
pub after_looking : (goal : Node) (count : ℕ) (old new : Written) (seen : List ℕ) → seen ≡ old.seen → IsPut goal count (record { nodes = old.nodes; fresh = old.fresh; seen = seen }) new → IsPut goal count old new
after_looking goal count old new seen same p = record { nodes = p.nodes; fresh = p.fresh; seen = p.seen ∙ same }

-- two variables

module _ (total : ℕ → ℕ) (modes : ℕ → List ModeDecl) where
  one_unbound : (one other : ℕ) (a b : Bool) (outputs : List ℕ) (span : Span) → a ≡ false
      → same_from total modes one other a b outputs span ≡ (if b then Ready (put (Assign one other) outputs span) else Stuck (never_ready span))
  one_unbound one other true b outputs span e = cc
  one_unbound one other false true outputs span e = refl
  one_unbound one other false false outputs span e = refl

  both_bound : (one other : ℕ) (a b : Bool) (outputs : List ℕ) (span : Span) → a ≡ true → b ≡ true → same_from total modes one other a b outputs span ≡ Ready (put (Test one other) outputs span)
  both_bound one other true true outputs span e f = refl
  both_bound one other true false outputs span e f = cc
  both_bound one other false b outputs span e f = cc

  one_bound : (one other : ℕ) (a b : Bool) (outputs : List ℕ) (span : Span) → a ≡ true → b ≡ false → same_from total modes one other a b outputs span ≡ Ready (put (Assign other one) outputs span)
  one_bound one other true false outputs span e f = refl
  one_bound one other true true outputs span e f = cc
  one_bound one other false b outputs span e f = cc

  pub unbound_gives : (one other : ℕ) (a b : Bool) (outputs : List ℕ) (span : Span) (old new : Written) (result : Result (Unit {0}) Fault) → a ≡ false
      → PutsIf b (node (Basic (AssignGoal one other)) outputs None span) span old new result → Gives modes (same_from total modes one other a b outputs span) old new result
  unbound_gives one other a b outputs span old new result e p =
      puts_gives modes (put (Assign one other) outputs span) _ _ span b old new result p refl refl (one_unbound one other a b outputs span e)

  pub test_gives : (one other : ℕ) (a b : Bool) (outputs : List ℕ) (span : Span) (old new : Written) (result : Result (Unit {0}) Fault) (goal : BasicGoal) → a ≡ true → b ≡ true → goal ≡ TestGoal one other
      → PutsIf true (node (Basic goal) outputs None span) span old new result → Gives modes (same_from total modes one other a b outputs span) old new result
  test_gives one other a b outputs span old new result goal e f g p =
      puts_gives modes (put (Test one other) outputs span) _ _ span true old new result p (ap (λ one. node (Basic one) outputs None span) g) refl (both_bound one other a b outputs span e f)

  pub assign_gives : (one other : ℕ) (a b : Bool) (outputs : List ℕ) (span : Span) (old new : Written) (result : Result (Unit {0}) Fault) (goal : BasicGoal) → a ≡ true → b ≡ false → goal ≡ AssignGoal other one
      → PutsIf true (node (Basic goal) outputs None span) span old new result → Gives modes (same_from total modes one other a b outputs span) old new result
  assign_gives one other a b outputs span old new result goal e f g p =
      puts_gives modes (put (Assign other one) outputs span) _ _ span true old new result p (ap (λ one. node (Basic one) outputs None span) g) refl (one_bound one other a b outputs span e f)

-- a symbol's value

pub build_gives : (modes : ℕ → List ModeDecl) (whole : ℕ) (symbol : Symbol) (arguments parts outputs : List ℕ) (span : Span) (one : Ordered) (a b c : Bool) (old new : Written) (result : Result (Unit {0}) Fault)
    → a ≡ false → c ≡ b → parts ≡ arguments → PutsIf c (node (Basic (BuildGoal whole symbol parts)) outputs None span) span old new result
    → Gives modes (if a then Ready one else if b then Ready (put (Build whole symbol arguments) outputs span) else Stuck (never_ready span)) old new result
build_gives modes whole symbol arguments parts outputs span one a b c old new result e f g p =
    let ordered = put (Build whole symbol arguments) outputs span in
    puts_gives modes ordered _ _ span c old new result p (ap (λ l. node (Basic (BuildGoal whole symbol l)) outputs None span) g) refl
    (ap (λ x. if x then Ready one else if b then Ready ordered else Stuck (never_ready span)) e ∙ ap (λ x. if x then Ready ordered else Stuck (never_ready span)) (sym f))

pub split_gives : (modes : ℕ → List ModeDecl) (whole : ℕ) (symbol : Symbol) (arguments parts writes testing outputs : List ℕ) (span : Span) (tests : List Bool) (bound : Bound) (a : Bool) (other : Outcome) (old new : Written)
    → a ≡ true → tests ≡ tested bound arguments → parts ≡ replaced old.fresh arguments tests → writes ≡ untested_places arguments tests → testing ≡ tested_places arguments tests
    → IsPut (with_tests old.fresh (SplitGoal whole symbol parts) writes testing outputs span) (length testing) old new
    → Gives modes (if a then Ready (put (Split whole symbol arguments (tested bound arguments)) outputs span) else other) old new (Ok tt)
split_gives modes whole symbol arguments parts writes testing outputs span tests bound a other old new e t q w g p =
    let ordered = put (Split whole symbol arguments (tested bound arguments)) outputs span in
    let q' : parts ≡ replaced old.fresh arguments (tested bound arguments) = q ∙ ap (replaced old.fresh arguments) t in
    let w' : writes ≡ untested_places arguments (tested bound arguments) = w ∙ ap (untested_places arguments) t in
    let g' : testing ≡ tested_places arguments (tested bound arguments) = g ∙ ap (tested_places arguments) t in
    put_gives modes ordered _ _ (length testing) old new p
    (ap (λ l. with_tests old.fresh (SplitGoal whole symbol l) writes testing outputs span) q'
    ∙ ap (λ l. with_tests old.fresh (SplitGoal whole symbol (replaced old.fresh arguments (tested bound arguments))) l testing outputs span) w'
    ∙ ap (λ l. with_tests old.fresh (SplitGoal whole symbol (replaced old.fresh arguments (tested bound arguments))) (untested_places arguments (tested bound arguments)) l outputs span) g')
    (ap length g') (ap (λ x. if x then Ready ordered else other) e)

-- arithmetic

pub computed_gives : (modes : ℕ → List ModeDecl) (operation : Operation) (target left right : ℕ) (outputs : List ℕ) (span : Span) (both known : Bool) (other : Outcome) (old new : Written) (result : Result (Unit {0}) Fault)
    → both ≡ true → known ≡ false → PutsIf true (node (Basic (Arithmetic operation target left right)) outputs None span) span old new result
    → Gives modes (if both then Ready (put (Computed operation target left right (known ∷ [])) outputs span) else other) old new result
computed_gives modes operation target left right outputs span both true other old new result e k p = cc
computed_gives modes operation target left right outputs span both false other old new result e k p =
    let ordered = put (Computed operation target left right (false ∷ [])) outputs span in
    puts_gives modes ordered _ _ span true old new result p refl refl (ap (λ b. if b then Ready ordered else other) e)

pub computed_tested : (modes : ℕ → List ModeDecl) (operation : Operation) (target fresh left right : ℕ) (outputs : List ℕ) (span : Span) (both known : Bool) (other : Outcome) (old new : Written)
    → both ≡ true → known ≡ true → fresh ≡ old.fresh → IsPut (with_tests old.fresh (Arithmetic operation fresh left right) [] (target ∷ []) outputs span) 1 old new
    → Gives modes (if both then Ready (put (Computed operation target left right (known ∷ [])) outputs span) else other) old new (Ok tt)
computed_tested modes operation target fresh left right outputs span both false other old new e k n p = cc
computed_tested modes operation target fresh left right outputs span both true other old new e k n p =
    let ordered = put (Computed operation target left right (true ∷ [])) outputs span in
    put_gives modes ordered _ _ 1 old new p (ap (λ v. with_tests old.fresh (Arithmetic operation v left right) [] (target ∷ []) outputs span) n) refl (ap (λ b. if b then Ready ordered else other) e)

-- a call

record IsAt (number : ℕ) (modes : List ModeDecl) (taken : ℕ × ModeDecl) : Type 0 where
  index : ℕ
  number_is : taken.0 ≡ number + index
  there : slice_get modes index ≡ Some taken.1

same_taken : (one other : ℕ × ModeDecl) → Some one ≡ Some other → one ≡ other
same_taken one other e = cc

later_at : (number : ℕ) (mode : ModeDecl) (modes : List ModeDecl) (taken : ℕ × ModeDecl) → IsAt (suc number) modes taken → IsAt number (mode ∷ modes) taken
later_at number mode modes taken at = record { index = suc at.index; number_is = omega (arith, at.number_is); there = at.there }

first_at : (number : ℕ) (mode : ModeDecl) (modes : List ModeDecl) (taken : ℕ × ModeDecl) → (number, mode) ≡ taken → IsAt number (mode ∷ modes) taken
first_at number mode modes taken e = record { index = 0; number_is = ap (λ t. t.0) (sym e) ∙ (let z : number ≡ number + 0 = omega arith in z); there = ap (λ (t : ℕ × ModeDecl). Some t.1) e }

chosen_at : (less : Bool) (number : ℕ) (mode : ModeDecl) (modes : List ModeDecl) (other taken : ℕ × ModeDecl) → (if less then other else (number, mode)) ≡ taken → IsAt (suc number) modes other
    → IsAt number (mode ∷ modes) taken
chosen_at true number mode modes other taken e at = later_at number mode modes taken (subst (λ t. IsAt (suc number) modes t) e at)
chosen_at false number mode modes other taken e at = first_at number mode modes taken e

best_at : (bound : Bool) (number : ℕ) (mode : ModeDecl) (modes : List ModeDecl) (rest : Option (ℕ × ModeDecl)) (taken : ℕ × ModeDecl) → (if bound then Some (wider number mode rest) else rest) ≡ Some taken
    → ((other : ℕ × ModeDecl) → rest ≡ Some other → IsAt (suc number) modes other) → IsAt number (mode ∷ modes) taken
best_at false number mode modes rest taken e h = later_at number mode modes taken (h taken e)
best_at true number mode modes None taken e h = first_at number mode modes taken (same_taken (number, mode) taken e)
best_at true number mode modes (Some other) taken e h =
    chosen_at (nat_lt (width mode.args) (width other.1.args)) number mode modes other taken (same_taken (wider number mode (Some other)) taken e) (h other refl)

taken_at : (number : ℕ) (bound : Bound) (arguments : List ℕ) (modes : List ModeDecl) (taken : ℕ × ModeDecl) → taken_from number bound arguments modes ≡ Some taken → IsAt number modes taken
taken_at number bound arguments [] taken e = cc
taken_at number bound arguments (mode ∷ modes) taken e =
    best_at (are_bound bound (inputs_of mode.args arguments)) number mode modes (taken_from (suc number) bound arguments modes) taken e (λ other f. taken_at (suc number) bound arguments modes other f)

record IsTaken (number : ℕ) (modes : List ModeDecl) (found : Option (ℕ × ModeDecl)) : Type 0 where
  taken : ℕ × ModeDecl
  found_is : found ≡ Some taken
  number_is : taken.0 ≡ number
  there : slice_get modes number ≡ Some taken.1

taken_is : (number : ℕ) (modes : List ModeDecl) (found : Option (ℕ × ModeDecl)) → Some number ≡ option_map (λ taken. taken.0) found → ((taken : ℕ × ModeDecl) → found ≡ Some taken → IsAt 0 modes taken) → IsTaken number modes found
taken_is number modes None e h = cc
taken_is number modes (Some taken) e h =
    let at = h taken refl in
    let n : number ≡ taken.0 = let s : Some number ≡ Some taken.0 = e in cc in
    record { taken = taken; found_is = refl; number_is = sym n; there = ap (λ k. slice_get modes k) (let m = at.number_is in omega arith) ∙ at.there }

pub call_gives : (total : ℕ → ℕ) (all : ℕ → List ModeDecl) (predicate mode : ℕ) (arguments : List ℕ) (modes : List ModeDecl) (bound : Bound) (places : List Arg) (tests : List Bool)
    (operands writes testing outputs : List ℕ) (span : Span) (old new : Written) → all predicate ≡ modes → Some mode ≡ option_map (λ taken. taken.0) (taken_from 0 bound arguments modes)
    → places ≡ inputs_in (slice_get modes mode) → tests ≡ call_tested bound places arguments → operands ≡ replaced old.fresh arguments tests → writes ≡ written places arguments tests
    → testing ≡ tested_places arguments tests
    → IsPut (with_tests old.fresh (Call (record { predicate = predicate; mode = mode }) operands) writes testing outputs span) (length testing) old new
    → Gives all (called_from total all bound predicate arguments (taken_from 0 bound arguments (all predicate)) outputs span) old new (Ok tt)
call_gives total all predicate mode arguments modes bound places tests operands writes testing outputs span old new a m i t q w g p =
    let procedure : Procedure = record { predicate = predicate; mode = mode } in
    let those = call_tested bound places arguments in
    let ordered = put (Called predicate mode arguments those) outputs span in
    let k = taken_is mode modes (taken_from 0 bound arguments modes) m (λ taken e. taken_at 0 bound arguments modes taken e) in
    let args : k.taken.1.args ≡ places = sym (i ∙ ap inputs_in k.there) in
    let q' : operands ≡ replaced old.fresh arguments those = q ∙ ap (replaced old.fresh arguments) t in
    let w' : writes ≡ written (inputs_in (slice_get (all predicate) mode)) arguments those =
    w ∙ ap (written places arguments) t ∙ ap (λ l. written l arguments those) (i ∙ ap (λ l. inputs_in (slice_get l mode)) (sym a)) in
    let g' : testing ≡ tested_places arguments those = g ∙ ap (tested_places arguments) t in
    put_gives all ordered _ _ (length testing) old new p
    (ap (λ l. with_tests old.fresh (Call procedure l) writes testing outputs span) q'
    ∙ ap (λ l. with_tests old.fresh (Call procedure (replaced old.fresh arguments those)) l testing outputs span) w'
    ∙ ap (λ l. with_tests old.fresh (Call procedure (replaced old.fresh arguments those)) (written (inputs_in (slice_get (all predicate) mode)) arguments those) l outputs span) g')
    (ap length g')
    (ap (λ l. called_from total all bound predicate arguments (taken_from 0 bound arguments l) outputs span) a
    ∙ ap (λ o. called_from total all bound predicate arguments o outputs span) k.found_is
    ∙ ap (λ n. Ready (put (Called predicate n arguments (call_tested bound k.taken.1.args arguments)) outputs span)) k.number_is
    ∙ ap (λ l. Ready (put (Called predicate mode arguments (call_tested bound l arguments)) outputs span)) args)

-- a goal with its tests becomes one

tests_length : (at : ℕ) (testing : List ℕ) (span : Span) → length (list_of (tests_of at testing span)) ≡ length testing
tests_length at [] span = refl
tests_length at (variable ∷ variables) span = ap suc (tests_length (suc at) variables span)

nodes_of-list_of : (goals : Nodes) → nodes_of (list_of goals) ≡ goals
nodes_of-list_of no_nodes = refl
nodes_of-list_of (more_nodes first rest) = ap (more_nodes first) (nodes_of-list_of rest)

all_length : (at : ℕ) (testing : List ℕ) (span : Span) (one : Node) (old first all : List Node) → first ≡ old ++ one ∷ [] → all ≡ first ++ list_of (tests_of at testing span)
    → length all ≡ length old + (length testing + 1)
all_length at testing span one old first all f a =
    let m = ap length f ∙ length-append old (one ∷ []) in
    let n = ap length a ∙ length-append first (list_of (tests_of at testing span)) in
    let t = tests_length at testing span in omega arith

pub tests_room : (at : ℕ) (testing : List ℕ) (span : Span) (one : Node) (old first all : List Node) (count : ℕ) → first ≡ old ++ one ∷ [] → all ≡ first ++ list_of (tests_of at testing span) → count ≡ length testing + 1
    → count ≤ length all
tests_room at testing span one old first all count f a c = let n = all_length at testing span one old first all f a in omega arith

pub conjoined : (at : ℕ) (goal : BasicGoal) (writes testing outputs inner : List ℕ) (span : Span) (old first all new : List Node) (count : ℕ) → false ≡ (length testing == 0) → inner ≡ inner_outputs at outputs writes testing
    → first ≡ old ++ node (Basic goal) inner None span ∷ [] → all ≡ first ++ list_of (tests_of at testing span) → count ≡ length testing + 1
    → new ≡ joined (ConjunctionRoot Sequential count) outputs span all → new ≡ old ++ with_tests at goal writes testing outputs span ∷ []
conjoined at goal writes [] outputs inner span old first all new count some i f a c j = cc
conjoined at goal writes (variable ∷ variables) outputs inner span old first all new count some i f a c j =
    let testing = variable ∷ variables in
    let one = node (Basic goal) inner None span in
    let those = tests_of at testing span in
    let back = one ∷ list_of those in
    let whole : all ≡ old ++ back = a ∙ ap (λ l. l ++ list_of those) f ∙ append_assoc old (one ∷ []) (list_of those) in
    let kept : length all - count ≡ length old = let n = all_length at testing span one old first all f a in omega arith in
    let front : take (length all - count) all ≡ old = ap (λ n. take n all) kept ∙ ap (λ l. take (length old) l) whole ∙ take_at old back (length old) refl in
    let rest : drop (length all - count) all ≡ back = ap (λ n. drop n all) kept ∙ ap (λ l. drop (length old) l) whole ∙ drop_at old back (length old) refl in
    j ∙ ap (λ l. l ++ node (Conjunction Sequential (nodes_of (drop (length all - count) all))) outputs None span ∷ []) front
    ∙ ap (λ l. old ++ node (Conjunction Sequential (nodes_of l)) outputs None span ∷ []) rest
    ∙ ap (λ l. old ++ node (Conjunction Sequential (more_nodes one l)) outputs None span ∷ []) (nodes_of-list_of those)
    ∙ ap (λ l. old ++ node (Conjunction Sequential (more_nodes (node (Basic goal) l None span) those)) outputs None span ∷ []) i

-- each kind of goal

pub by_goal : (total : ℕ → ℕ) (modes : ℕ → List ModeDecl) (goal one : SimpleGoal) (outputs : List ℕ) (span : Span) (bound : Bound) (old new : Written) (result : Result (Unit {0}) Fault) → goal ≡ one
    → Gives modes (simple_from total modes one outputs span bound) old new result → Gives modes (simple_from total modes goal outputs span bound) old new result
by_goal total modes goal one outputs span bound old new result same gives = subst (λ g. Gives modes (simple_from total modes g outputs span bound) old new result) (sym same) gives

pub truth_gives : (modes : ℕ → List ModeDecl) (outputs : List ℕ) (span : Span) (old new : Written) (result : Result (Unit {0}) Fault) → PutsIf true (node (Basic TrueGoal) outputs None span) span old new result
    → Gives modes (Ready (put Truth outputs span)) old new result
truth_gives modes outputs span old new result p = puts_gives modes (put Truth outputs span) _ _ span true old new result p refl refl refl

pub failure_gives : (modes : ℕ → List ModeDecl) (outputs : List ℕ) (span : Span) (old new : Written) (result : Result (Unit {0}) Fault) → PutsIf true (node (Basic FailGoal) outputs None span) span old new result
    → Gives modes (Ready (put Failure outputs span)) old new result
failure_gives modes outputs span old new result p = puts_gives modes (put Failure outputs span) _ _ span true old new result p refl refl refl

pub compared_gives : (modes : ℕ → List ModeDecl) (comparison : Comparison) (left right : ℕ) (outputs : List ℕ) (span : Span) (both known : Bool) (old new : Written) (result : Result (Unit {0}) Fault) → both ≡ known
    → PutsIf both (node (Basic (CompareGoal comparison left right)) outputs None span) span old new result
    → Gives modes (if known then Ready (put (Compared comparison left right) outputs span) else Stuck (never_ready span)) old new result
compared_gives modes comparison left right outputs span both known old new result same p =
    let ordered = put (Compared comparison left right) outputs span in
    puts_gives modes ordered _ _ span both old new result p refl refl (ap (λ b. if b then Ready ordered else Stuck (never_ready span)) (sym same))

pub raised_gives : (modes : ℕ → List ModeDecl) (text : ℕ) (outputs : List ℕ) (span : Span) (known told : Bool) (old new : Written) (result : Result (Unit {0}) Fault) → known ≡ told
    → PutsIf known (node (Basic (RaiseGoal text)) outputs None span) span old new result
    → Gives modes (if told then Ready (put (Raised text) outputs span) else Stuck (never_ready span)) old new result
raised_gives modes text outputs span known told old new result same p =
    let ordered = put (Raised text) outputs span in
    puts_gives modes ordered _ _ span known old new result p refl refl (ap (λ b. if b then Ready ordered else Stuck (never_ready span)) (sym same))
