-- What goals do that hold no others.
use Rattle.std.specs.Prelude.{ℕ, suc, zero, Bool, true, false, List, [], ◌∷◌, Option, Some, None}
use Rattle.merc_base.specs.Names.{division_by_zero_name}
use Rattle.merc_tree.specs.declared.declarations.Arg.{Arg}
use Rattle.merc_tree.specs.declared.declarations.Arg.TheVariants.{Input, Output}
use Rattle.merc_goal_tree.specs.declared.goal.Operation.{Operation}
use Rattle.merc_goal_tree.specs.declared.goal.Symbol.{Symbol}
use Rattle.merc_value.specs.Value.{Value, Int, Text, Values, none, more}
use Rattle.merc_meaning.specs.Values.{made, fields}
use Rattle.merc_meaning.specs.Arithmetic.{Result, Gives, ZeroDivisor, arithmetic}
use Rattle.merc_meaning.specs.Trace.{Env, Trace, Ends, Done, Raised, one_answer}

-- the value of a variable, if it has one
abbrev pub value_at : Env → ℕ → Option Value
value_at [] variable = None
value_at (entry ∷ env) zero = entry
value_at (entry ∷ env) (suc variable) = value_at env variable

-- the environment with this entry for a variable
abbrev pub with_entry : Env → ℕ → Option Value → Env
with_entry [] zero new = new ∷ []
with_entry [] (suc variable) new = None ∷ with_entry [] variable new
with_entry (entry ∷ env) zero new = new ∷ env
with_entry (entry ∷ env) (suc variable) new = entry ∷ with_entry env variable new

-- the environment with this value for a variable
abbrev pub bound : Env → ℕ → Value → Env
bound env variable value = with_entry env variable (Some value)

-- the goal answers with this value for the variable; without a value it fails
abbrev pub binds : Env → ℕ → Option Value → Trace
binds env variable None = Ends Done
binds env variable (Some value) = one_answer (bound env variable value)

abbrev pub tested : Bool → Env → Trace
tested true env = one_answer env
tested false env = Ends Done

-- a test of two values
abbrev pub compared : Env → (Value → Value → Bool) → Option Value → Option Value → Trace
compared env holds None other = Ends Done
compared env holds (Some value) None = Ends Done
compared env holds (Some value) (Some other) = tested (holds value other) env

-- the values of variables, if all have one
abbrev pub joined : Option Value → Option Values → Option Values
joined None values = None
joined (Some value) None = None
joined (Some value) (Some values) = Some (more value values)

abbrev pub values_at : Env → List ℕ → Option Values
values_at env [] = Some none
values_at env (variable ∷ variables) = joined (value_at env variable) (values_at env variables)

-- the value of a symbol over arguments, if there are these
abbrev pub made_if : Symbol → Option Values → Option Value
made_if symbol None = None
made_if symbol (Some arguments) = Some (made symbol arguments)

-- variables are given these values
abbrev pub filled : Env → List ℕ → Values → Env
filled env [] values = env
filled env (variable ∷ variables) none = env
filled env (variable ∷ variables) (more value values) = filled (bound env variable value) variables values

abbrev pub filled_if : Env → List ℕ → Option Values → Trace
filled_if env variables None = Ends Done
filled_if env variables (Some values) = one_answer (filled env variables values)

-- A value of the symbol gives the variables its arguments.
abbrev pub split : Env → Symbol → List ℕ → Option Value → Trace
split env symbol variables None = Ends Done
split env symbol variables (Some value) = filled_if env variables (fields symbol value)

abbrev pub computed : Env → ℕ → Result → Trace
computed env variable (Gives number) = one_answer (bound env variable (Int number))
computed env variable ZeroDivisor = Ends (Raised division_by_zero_name)

-- Of operands that are integers the variable is given the result.
abbrev pub operated : Env → Operation → ℕ → Option Value → Option Value → Trace
operated env operation variable (Some (Int left)) (Some (Int right)) = computed env variable (arithmetic operation left right)
operated env operation variable left right = Ends Done

-- an exception with a text
abbrev pub raised : Option Value → Trace
raised (Some (Text text)) = Ends (Raised text)
raised value = Ends Done

-- A called body begins with the inputs' values alone: its first variables are the arguments.
abbrev pub entered : List Arg → List ℕ → Env → Env
entered [] arguments env = []
entered (place ∷ places) [] env = []
entered (Input ∷ places) (argument ∷ arguments) env = value_at env argument ∷ entered places arguments env
entered (Output ∷ places) (argument ∷ arguments) env = None ∷ entered places arguments env

-- the caller's environment once the called body has answered: each output has the entry of the body's variable, and no value where that has none
abbrev pub brought_back : List Arg → List ℕ → (ℕ → Option Value) → Env → Env
brought_back [] arguments inner env = env
brought_back (place ∷ places) [] inner env = env
brought_back (Input ∷ places) (argument ∷ arguments) inner env = brought_back places arguments (λ variable. inner (suc variable)) env
brought_back (Output ∷ places) (argument ∷ arguments) inner env = brought_back places arguments (λ variable. inner (suc variable)) (with_entry env argument (inner zero))
