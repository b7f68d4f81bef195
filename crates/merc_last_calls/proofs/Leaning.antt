-- Each step with last calls is one or more of code without them.
use Rattle.std.proofs.Common.{◌≡◌, ℕ, zero, suc, ◌-◌, ◌==◌, Bool, true, false, if◌then◌else◌, List, [], ◌∷◌, length, drop, Option, Some, None, refl, ap, sym, subst}
use Rattle.merc_tree.specs.declared.declarations.Arg.{Arg}
use Rattle.merc_value.specs.Value.{Value, Int, Text as TextValue}
use Rattle.merc_meaning.specs.Arithmetic.{comparison_of}
use Rattle.merc_meaning.specs.Values.{same}
use Rattle.merc_meaning.specs.Trace.{Env}
use Rattle.merc_meaning.specs.Steps.{value_at, values_at, bound, brought_back}
use Rattle.merc_code.specs.declared.instruction.Instruction.TheVariants.{Integer, Text, Copy, Build, Split, Literal, Test, Arithmetic, Compare, Raise, Jump, Switch, Try, Mark, Commit, Soften, Call, Return, Fail, Answer, Fork, Wait, Signal, Close}
use Rattle.merc_code.specs.Steps.{Code, ProcedureCode, Codes, Effect, Binds, Fails, Raises, gives, compares, builds, splits, operates, raises, Caller, caller, ChoicePoint, Dead, GoesOn, State, At, Back, Step, Moves, marked, mark_at, oldest, softened, continued, target_at, switches, enters, returns, signals, goes_back, step}
use Rattle.merc_last_calls.specs.LastCalls.{comes_to_return, outputs, own_outputs, are_same, enters_lean, step_lean}
use Rattle.merc_last_calls.specs.Standing.{Stands, bottom, kept, handed, ChoicesStand, none, dead, goes_on, Matches, at, back, Ahead, stops, moves, ticks, answers, asks, stuck, behind}
use Rattle.merc_last_calls.proofs.Handing.{both, Leads, here, on, leads, hands, call_stands}

-- choice points

pub choices_count : (lean choices : List ChoicePoint) → ChoicesStand lean choices → length lean ≡ length choices
choices_count lean choices none = refl
choices_count lean choices (dead lean' choices' h) = ap suc (choices_count lean' choices' h)
choices_count lean choices (goes_on k env marks l c lean' choices' s h) = ap suc (choices_count lean' choices' h)

dropped_stand : (n : ℕ) (lean choices : List ChoicePoint) → ChoicesStand lean choices → ChoicesStand (drop n lean) (drop n choices)
dropped_stand zero lean choices h = h
dropped_stand (suc n) lean choices none = none
dropped_stand (suc n) lean choices (dead lean' choices' h) = dropped_stand n lean' choices' h
dropped_stand (suc n) lean choices (goes_on k env marks l c lean' choices' s h) = dropped_stand n lean' choices' h

oldest_stand : (count : ℕ) (lean choices : List ChoicePoint) → ChoicesStand lean choices → ChoicesStand (oldest count lean) (oldest count choices)
oldest_stand count lean choices h =
    subst (λ n. ChoicesStand (drop (n - count) lean) (oldest count choices)) (sym (choices_count lean choices h)) (dropped_stand (length choices - count) lean choices h)

softened_so : (b : Bool) (first first' : ChoicePoint) (lean choices lean' choices' : List ChoicePoint) → ChoicesStand lean choices → ChoicesStand (first ∷ lean') (first' ∷ choices')
    → ChoicesStand (if b then Dead ∷ lean else first ∷ lean') (if b then Dead ∷ choices else first' ∷ choices')
softened_so true first first' lean choices lean' choices' h g = dead lean choices h
softened_so false first first' lean choices lean' choices' h g = g

softened_with : (count : ℕ) (first first' : ChoicePoint) (lean choices : List ChoicePoint) → ChoicesStand lean choices → ChoicesStand (first ∷ softened count lean) (first' ∷ softened count choices)
    → ChoicesStand (softened count (first ∷ lean)) (softened count (first' ∷ choices))
softened_with count first first' lean choices h g =
    subst (λ n. ChoicesStand (if count == n then Dead ∷ lean else first ∷ softened count lean) (softened count (first' ∷ choices))) (sym (choices_count lean choices h))
    (softened_so (count == length choices) first first' lean choices (softened count lean) (softened count choices) h g)

softened_stand : (count : ℕ) (lean choices : List ChoicePoint) → ChoicesStand lean choices → ChoicesStand (softened count lean) (softened count choices)
softened_stand count lean choices none = none
softened_stand count lean choices (dead lean' choices' h) = softened_with count Dead Dead lean' choices' h (dead (softened count lean') (softened count choices') (softened_stand count lean' choices' h))
softened_stand count lean choices (goes_on k env marks l c lean' choices' s h) =
    softened_with count (GoesOn k env marks l) (GoesOn k env marks c) lean' choices' h
    (goes_on k env marks l c (softened count lean') (softened count choices') s (softened_stand count lean' choices' h))

-- Given is the code of the procedures.
module _ (codes : Codes) where
  -- jumps up to the return
  led : (made : Step) (k : Code) (env : Env) (marks : List ℕ) (callers : List Caller) (choices : List ChoicePoint) (left : ℕ)
      → Leads k → ((k' : Code) → Ahead codes made (At (Return ∷ k') env marks callers choices left)) → Ahead codes made (At k env marks callers choices left)
  led made k env marks callers choices left (here k') h = h k'
  led made k env marks callers choices left (on n k' p) h = behind made _ _ refl (led made (drop n k') env marks callers choices left p h)

  -- the return into the newest of the callers that stand for others
  returned : (k0 : Code) (inner : Env) (marks0 : List ℕ) (k : Code) (env : Env) (marks : List ℕ) (places : List Arg) (arguments : List ℕ) (l c : List Caller) (lean choices : List ChoicePoint) (left : ℕ)
      → Stands (caller k env marks places arguments ∷ l) c → ChoicesStand lean choices
      → Ahead codes (Moves (At k (brought_back places arguments (value_at inner) env) marks l lean left)) (At (Return ∷ k0) inner marks0 c choices left)
  returned k0 inner marks0 k env marks places arguments l c lean choices left (kept newest l' c' s) h = moves _ _ _ refl (at _ _ _ _ _ _ _ _ s h)
  returned k0 inner marks0 k env marks places arguments l c lean choices left (handed k1 env1 marks1 places1 arguments1 k2 env2 marks2 places2 arguments2 l' c' last s) h =
      let middle : Env = brought_back places1 arguments1 (value_at inner) env1 in
      let parts = both (comes_to_return zero k1) (are_same (outputs places1 arguments1) (own_outputs zero places2)) last in
      behind _ _ _ refl
      (led _ k1 middle marks1 c' choices left (leads zero k1 parts.0)
      (λ k'. subst (λ e. Ahead codes (Moves (At k2 e marks2 l' lean left)) (At (Return ∷ k') middle marks1 c' choices left))
      (hands places1 arguments1 places2 arguments2 parts.1 env1 env2 (value_at inner)) (returned k' middle marks1 k2 env2 marks2 places2 arguments2 l' c' lean choices left s h)))

  returns_so : (k : Code) (inner : Env) (marks : List ℕ) (l c : List Caller) (lean choices : List ChoicePoint) (left : ℕ) → Stands l c → ChoicesStand lean choices
      → Ahead codes (returns inner l lean left) (At (Return ∷ k) inner marks c choices left)
  returns_so k inner marks [] c lean choices left bottom h = stuck _ refl
  returns_so k inner marks (caller rest env marks' places arguments ∷ l) c lean choices left s h = returned k inner marks rest env marks' places arguments l c lean choices left s h

  continued_so : (effect : Effect) (k : Code) (marks : List ℕ) (l c : List Caller) (lean choices : List ChoicePoint) (left : ℕ) (state : State) → Stands l c → ChoicesStand lean choices
      → step codes state ≡ continued k marks c choices left effect → Ahead codes (continued k marks l lean left effect) state
  continued_so (Binds env) k marks l c lean choices left state s h e = moves _ _ _ e (at _ _ _ _ _ _ _ _ s h)
  continued_so Fails k marks l c lean choices left state s h e = moves _ _ _ e (back _ _ _ h)
  continued_so (Raises text) k marks l c lean choices left state s h e = stops _ _ e

  switches_so : (found : Option ℕ) (k : Code) (env : Env) (marks : List ℕ) (l c : List Caller) (lean choices : List ChoicePoint) (left : ℕ) (state : State) → Stands l c → ChoicesStand lean choices
      → step codes state ≡ switches k env marks c choices left found → Ahead codes (switches k env marks l lean left found) state
  switches_so None k env marks l c lean choices left state s h e = moves _ _ _ e (back _ _ _ h)
  switches_so (Some skipped) k env marks l c lean choices left state s h e = moves _ _ _ e (at _ _ _ _ _ _ _ _ s h)

  signals_so : (x : ℕ) (o : Option Value) (k : Code) (env : Env) (marks : List ℕ) (l c : List Caller) (lean choices : List ChoicePoint) (left : ℕ) (state : State) → Stands l c → ChoicesStand lean choices
      → step codes state ≡ signals k env marks c choices left x o → Ahead codes (signals k env marks l lean left x o) state
  signals_so x None k env marks l c lean choices left state s h e = moves _ _ _ e (back _ _ _ h)
  signals_so x (Some value) k env marks l c lean choices left state s h e = asks _ _ _ _ _ e (λ r. at _ _ _ _ _ _ _ _ s h)

  enters_so : (called : Option ProcedureCode) (k : Code) (env : Env) (marks arguments : List ℕ) (l c : List Caller) (lean choices : List ChoicePoint) (left : ℕ) (state : State) → Stands l c → ChoicesStand lean choices
      → step codes state ≡ enters called k env marks arguments c choices left → Ahead codes (enters_lean called k env marks arguments l lean left) state
  enters_so None k env marks arguments l c lean choices left state s h e = moves _ _ _ e (back _ _ _ h)
  enters_so (Some procedure) k env marks arguments l c lean choices zero state s h e = stops _ _ e
  enters_so (Some procedure) k env marks arguments l c lean choices (suc left) state s h e =
      ticks _ _ _ e (at _ _ _ _ _ _ _ _ (call_stands k env marks procedure.places arguments l c s) h)

  goes_back_so : (lean choices : List ChoicePoint) (left : ℕ) → ChoicesStand lean choices → Ahead codes (goes_back lean left) (Back choices left)
  goes_back_so lean choices left none = stops _ _ refl
  goes_back_so lean choices left (dead lean' choices' h) = moves _ _ _ refl (back _ _ _ h)
  goes_back_so lean choices left (goes_on k env marks l c lean' choices' s h) = moves _ _ _ refl (at _ _ _ _ _ _ _ _ s h)

  pub ahead : (lean state : State) → Matches lean state → Ahead codes (step_lean codes lean) state
  ahead lean state (back cs bs left h) = goes_back_so cs bs left h
  ahead lean state (at [] env marks l c cs bs left s h) = stuck _ refl
  ahead lean state (at (Integer to number ∷ k) env marks l c cs bs left s h) = continued_so (Binds (bound env to (Int number))) k marks l c cs bs left _ s h refl
  ahead lean state (at (Text to text ∷ k) env marks l c cs bs left s h) = continued_so (Binds (bound env to (TextValue text))) k marks l c cs bs left _ s h refl
  ahead lean state (at (Copy to from ∷ k) env marks l c cs bs left s h) = continued_so (gives env to (value_at env from)) k marks l c cs bs left _ s h refl
  ahead lean state (at (Build to symbol arguments ∷ k) env marks l c cs bs left s h) = continued_so (builds env to symbol (values_at env arguments)) k marks l c cs bs left _ s h refl
  ahead lean state (at (Split whole symbol arguments ∷ k) env marks l c cs bs left s h) = continued_so (splits env symbol arguments (value_at env whole)) k marks l c cs bs left _ s h refl
  ahead lean state (at (Literal whole symbol ∷ k) env marks l c cs bs left s h) = continued_so (splits env symbol [] (value_at env whole)) k marks l c cs bs left _ s h refl
  ahead lean state (at (Test one other ∷ k) env marks l c cs bs left s h) = continued_so (compares env same (value_at env one) (value_at env other)) k marks l c cs bs left _ s h refl
  ahead lean state (at (Arithmetic operation result one other ∷ k) env marks l c cs bs left s h) =
      continued_so (operates env operation result (value_at env one) (value_at env other)) k marks l c cs bs left _ s h refl
  ahead lean state (at (Compare comparison one other ∷ k) env marks l c cs bs left s h) =
      continued_so (compares env (comparison_of comparison) (value_at env one) (value_at env other)) k marks l c cs bs left _ s h refl
  ahead lean state (at (Raise text ∷ k) env marks l c cs bs left s h) = continued_so (raises (value_at env text)) k marks l c cs bs left _ s h refl
  ahead lean state (at (Jump skipped ∷ k) env marks l c cs bs left s h) = moves _ _ _ refl (at _ _ _ _ _ _ _ _ s h)
  ahead lean state (at (Switch whole targets ∷ k) env marks l c cs bs left s h) = switches_so (target_at (value_at env whole) targets) k env marks l c cs bs left _ s h refl
  ahead lean state (at (Try skipped ∷ k) env marks l c cs bs left s h) = moves _ _ _ refl (at _ _ _ _ _ _ _ _ s (goes_on _ _ _ _ _ _ _ s h))
  ahead lean state (at (Mark mark ∷ k) env marks l c cs bs left s h) =
      moves _ _ _ refl (subst (λ n. Matches (At k env (marked marks mark n) l cs left) (At k env (marked marks mark (length bs)) c bs left)) (sym (choices_count cs bs h)) (at _ _ _ _ _ _ _ _ s h))
  ahead lean state (at (Commit mark ∷ k) env marks l c cs bs left s h) = moves _ _ _ refl (at _ _ _ _ _ _ _ _ s (oldest_stand (mark_at marks mark) cs bs h))
  ahead lean state (at (Soften mark ∷ k) env marks l c cs bs left s h) = moves _ _ _ refl (at _ _ _ _ _ _ _ _ s (softened_stand (mark_at marks mark) cs bs h))
  ahead lean state (at (Call procedure arguments ∷ k) env marks l c cs bs left s h) = enters_so (codes.procedures procedure) k env marks arguments l c cs bs left _ s h refl
  ahead lean state (at (Return ∷ k) env marks l c cs bs left s h) = returns_so k env marks l c cs bs left s h
  ahead lean state (at (Fail ∷ k) env marks l c cs bs left s h) = moves _ _ _ refl (back _ _ _ h)
  ahead lean state (at (Answer variables ∷ k) env marks l c cs bs left s h) = answers _ _ _ _ refl (back _ _ _ h)
  ahead lean state (at (Fork site ∷ k) env marks l c cs bs left s h) = asks _ _ _ _ _ refl (λ r. at _ _ _ _ _ _ _ _ s h)
  ahead lean state (at (Wait variable ∷ k) env marks l c cs bs left s h) = asks _ _ _ _ _ refl (λ r. at _ _ _ _ _ _ _ _ s h)
  ahead lean state (at (Signal variable ∷ k) env marks l c cs bs left s h) = signals_so variable (value_at env variable) k env marks l c cs bs left _ s h refl
  ahead lean state (at (Close ∷ k) env marks l c cs bs left s h) = stops _ _ refl

-- a state stands for itself

own_callers : (callers : List Caller) → Stands callers callers
own_callers [] = bottom
own_callers (newest ∷ callers) = kept newest callers callers (own_callers callers)

own_choices : (choices : List ChoicePoint) → ChoicesStand choices choices
own_choices [] = none
own_choices (Dead ∷ choices) = dead choices choices (own_choices choices)
own_choices (GoesOn rest env marks callers ∷ choices) = goes_on rest env marks callers callers choices choices (own_callers callers) (own_choices choices)

pub own : (state : State) → Matches state state
own (At rest env marks callers choices left) = at rest env marks callers callers choices choices left (own_callers callers) (own_choices choices)
own (Back choices left) = back choices choices left (own_choices choices)
