-- What holds before a goal, behind it, and of its trace.
use Rattle.std.proofs.Common.{◌≡◌, ℕ, true, false, is_some, Some}
use Rattle.merc_base.specs.Category.{can_fail_of, most_of}
use Rattle.merc_base.specs.declared.category.Category.{Category}
use Rattle.merc_base.specs.declared.category.Most.TheVariants.{Zero}
use Rattle.merc_tree.specs.declared.declarations.Module.{Module}
use Rattle.merc_goal_tree.specs.declared.goal.Symbol.{Symbol}
use Rattle.merc_order.specs.Bound.{Bound}
use Rattle.merc_order_laws.specs.Bindings.{Variables}
use Rattle.merc_grading.specs.Known.{Known, known_of}
use Rattle.merc_value.specs.Value.{Value, Values}
use Rattle.merc_meaning.specs.Trace.{Env, Trace}
use Rattle.merc_meaning.specs.Values.{fields}
use Rattle.merc_meaning.specs.Steps.{value_at}
use Rattle.merc_program_laws.specs.Answers.{Each, Has, Never, Any, IsDone}
use Rattle.merc_program_laws.proofs.Values.{Instance}
use Rattle.merc_program_laws.proofs.Steps.{EnvTyped}

-- the symbols that are known of variables are those of their values
abbrev pub Knows : Known → Env → Type 0
Knows seen env = (x : ℕ) (s : Symbol) → known_of seen x ≡ Some s → (v : Value) × (vs : Values) × (value_at env x ≡ Some v) × (fields s v ≡ Some vs)

-- Given are the module, the types of the variables, and what type variables stand for.
module _ (known : Module) (types i : Instance) where
  -- Before a goal, of the variables that occur in it exactly these are bound, and they occur outside it.
  pub record Fits (out : Variables) (b : Bound) (occurs : Variables) (seen : Known) (env : Env) : Type 0 where
    pub bounds : (x : ℕ) → occurs x ≡ true → is_some (value_at env x) ≡ b x
    pub outer : (x : ℕ) → occurs x ≡ true → b x ≡ true → out x ≡ true
    pub typed : EnvTyped known types i env
    pub knows : Knows seen env

  -- Behind it values have stayed, only its variables have become bound, and of those that occur outside too exactly these are.
  pub record Goes (out : Variables) (b : Bound) (occurs : Variables) (seen : Known) (env env' : Env) : Type 0 where
    pub keeps : (x : ℕ) (v : Value) → value_at env x ≡ Some v → value_at env' x ≡ Some v
    pub own : (x : ℕ) → occurs x ≡ false → value_at env' x ≡ value_at env x
    pub bounds : (x : ℕ) → occurs x ≡ true → out x ≡ true → is_some (value_at env' x) ≡ b x
    pub typed : EnvTyped known types i env'
    pub knows : Knows seen env'

-- each answer is so, there is none where the maximum is 0, and there is one where the goal cannot fail
pub record Lawful (P : Env → Type 0) (c : Category) (t : Trace) : Type 0 where
  pub goes : Each P t
  pub no_answer : most_of c ≡ Zero → Each Never t
  pub some_answer : can_fail_of c ≡ false → IsDone t → Has Any t
