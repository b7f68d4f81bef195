-- What the parts of an ordered goal keep to: inputs are bound where a goal stands, what it writes is free there, and its outputs are what it leaves bound.
use Rattle.std.specs.Prelude.{◌≡◌, ℕ, Bool, true, false, ◌&&◌, List, [], ◌∷◌, Option, Some, None, slice_get}
use Rattle.merc_tree.specs.declared.declarations.Arg.{Arg}
use Rattle.merc_tree.specs.declared.declarations.Arg.TheVariants.{Input, Output}
use Rattle.merc_tree.specs.declared.declarations.ModeDecl.{ModeDecl}
use Rattle.merc_order.specs.Bound.{Bound, with, among}
use Rattle.merc_order.specs.CallModes.{inputs_of}
use Rattle.merc_order.specs.Ordered.{Ordered, Step, Ordereds, put, Truth, Failure, Assign, Test, Build, Split, Computed, Compared, Raised, Called, Sequence, Beside, Choice, Decision, Denial, Within, no_goals, more_goals}
use Rattle.merc_order.specs.Spelt.{tested_places, untested_places, written}
use Rattle.merc_order_laws.specs.Bindings.{Variables, AreBound, AreFree, Binds, ArmBinds, NotBinding}
use Rattle.merc_order_laws.specs.OrderedVariables.{in_ordered, in_step, in_ordereds, ordered_outputs, bound_behind, ends}

-- Of a goal with these variables: what it writes is free before, and then each place with a test is bound.
abbrev pub GoodWrites : Variables → Bound → List ℕ → List ℕ → List ℕ → List ℕ → Type 0
GoodWrites outside bound outputs occurring writes tested =
    AreFree bound writes × AreBound (with bound (among writes)) tested × Binds outside (among occurring) bound outputs (with bound (among writes))

-- A call has an argument and a test for each place of its mode, and no test at an input.
abbrev pub FitPlaces : List Arg → List ℕ → List Bool → Type 0
FitPlaces [] [] [] = Unit {0}
FitPlaces (Input ∷ places) (argument ∷ arguments) (false ∷ tests) = FitPlaces places arguments tests
FitPlaces (Output ∷ places) (argument ∷ arguments) (test ∷ tests) = FitPlaces places arguments tests
FitPlaces places arguments tests = ⊥

-- A call names a mode of its predicate, whose inputs are bound.
abbrev pub GoodCall : Variables → Bound → List ℕ → Option ModeDecl → List ℕ → List Bool → Type 0
GoodCall outside bound outputs None arguments tests = ⊥
GoodCall outside bound outputs (Some mode) arguments tests =
    FitPlaces mode.args arguments tests
    × AreBound bound (inputs_of mode.args arguments)
    × GoodWrites outside bound outputs arguments (written mode.args arguments tests) (tested_places arguments tests)

-- Given are the modes of each predicate.
module _ (modes : ℕ → List ModeDecl) where
  -- the arms of a goal with these variables bind the same
  abbrev pub EachBinds : Variables → Variables → Bound → List ℕ → Ordereds → Type 0
  EachBinds outside occurring bound outputs no_goals = Unit {0}
  EachBinds outside occurring bound outputs (more_goals first rest) =
      ArmBinds (ends modes first) outside occurring bound outputs (with bound (among (ordered_outputs first))) × EachBinds outside occurring bound outputs rest

  abbrev mutual
    -- An ordered goal where these variables occur outside it and these are bound before it. Its outputs occur in it, are free before it, and stand once each.
    pub Good : Variables → Bound → Ordered → Type 0
    Good outside bound (put step outputs span) =
        ((variable : ℕ) → among outputs variable ≡ true → in_step step variable ≡ true) × AreFree bound outputs × GoodStep outside bound outputs step

    pub GoodStep : Variables → Bound → List ℕ → Step → Type 0
    GoodStep outside bound outputs Truth = Unit {0}
    GoodStep outside bound outputs Failure = Unit {0}
    GoodStep outside bound outputs (Assign to from) =
        (bound from ≡ true) × (bound to ≡ false) × Binds outside (among (to ∷ from ∷ [])) bound outputs (with bound (among (to ∷ [])))
    GoodStep outside bound outputs (Test one other) = (bound one ≡ true) × (bound other ≡ true)
    GoodStep outside bound outputs (Build whole symbol arguments) =
        AreBound bound arguments × (bound whole ≡ false) × Binds outside (among (whole ∷ arguments)) bound outputs (with bound (among (whole ∷ [])))
    GoodStep outside bound outputs (Split whole symbol arguments tests) =
        (bound whole ≡ true) × GoodWrites outside bound outputs (whole ∷ arguments) (untested_places arguments tests) (tested_places arguments tests)
    GoodStep outside bound outputs (Computed operation result left right tests) =
        (bound left ≡ true)
        × (bound right ≡ true)
        × GoodWrites outside bound outputs (result ∷ left ∷ right ∷ []) (untested_places (result ∷ []) tests) (tested_places (result ∷ []) tests)
    GoodStep outside bound outputs (Compared comparison left right) = (bound left ≡ true) × (bound right ≡ true)
    GoodStep outside bound outputs (Raised text) = bound text ≡ true
    GoodStep outside bound outputs (Called predicate mode arguments tests) = GoodCall outside bound outputs (slice_get (modes predicate) mode) arguments tests
    GoodStep outside bound outputs (Sequence goals) = GoodList outside bound goals × Binds outside (in_ordereds goals) bound outputs (bound_behind bound goals)
    GoodStep outside bound outputs (Beside goals) = GoodList outside bound goals × Binds outside (in_ordereds goals) bound outputs (bound_behind bound goals)
    GoodStep outside bound outputs (Choice goals) = GoodEach outside bound goals × EachBinds outside (in_ordereds goals) bound outputs goals
    GoodStep outside bound outputs (Decision condition then_part else_part) =
        Good (with outside (with (in_ordered then_part) (in_ordered else_part))) bound condition
        × NotBinding (with outside (in_ordered else_part)) (ordered_outputs condition)
        × Good (with outside (with (in_ordered condition) (in_ordered else_part))) (with bound (among (ordered_outputs condition))) then_part
        × ArmBinds (ends modes condition && ends modes then_part) outside (in_step (Decision condition then_part else_part)) bound outputs
        (with (with bound (among (ordered_outputs condition))) (among (ordered_outputs then_part)))
        × Good (with outside (with (in_ordered condition) (in_ordered then_part))) bound else_part
        × ArmBinds (ends modes else_part) outside (in_step (Decision condition then_part else_part)) bound outputs (with bound (among (ordered_outputs else_part)))
    GoodStep outside bound outputs (Denial goal) =
        Good outside bound goal × NotBinding outside (ordered_outputs goal) × Binds outside (in_ordered goal) bound outputs bound
    GoodStep outside bound outputs (Within own goal) = Good outside bound goal × Binds outside (in_ordered goal) bound outputs (with bound (among (ordered_outputs goal)))

    -- goals that go one after the other
    pub GoodList : Variables → Bound → Ordereds → Type 0
    GoodList outside bound no_goals = Unit {0}
    GoodList outside bound (more_goals first rest) =
        Good (with outside (in_ordereds rest)) bound first × GoodList (with outside (in_ordered first)) (with bound (among (ordered_outputs first))) rest

    -- Disjuncts. A variable that occurs in several of them and not outside is each one's own, so none sees the others.
    pub GoodEach : Variables → Bound → Ordereds → Type 0
    GoodEach outside bound no_goals = Unit {0}
    GoodEach outside bound (more_goals first rest) = Good outside bound first × GoodEach outside bound rest
