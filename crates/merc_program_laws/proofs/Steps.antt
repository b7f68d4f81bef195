-- One step of a goal keeps values of their variables' types.
use Rattle.std.proofs.Common.{◌≡◌, ◌⊎◌, inl, inr, ℕ, suc, true, false, ◌==◌, is_some, List, [], ◌∷◌, length, map, Option, Some, None, refl, ap, sym, ◌∙◌, subst}
use Rattle.merc_tree.specs.Types.{TypeExpr, TypeApplication, types_of, replaced}
use Rattle.merc_tree.specs.declared.declarations.Constructor.{Constructor}
use Rattle.merc_tree.specs.declared.declarations.TypeDef.{TypeDef}
use Rattle.merc_tree.specs.declared.declarations.Module.{Module}
use Rattle.merc_goal_tree.specs.declared.goal.Symbol.{Symbol}
use Rattle.merc_goal_tree.specs.declared.goal.Symbol.TheVariants.{Constructor as ConstructorSymbol, Integer, Text as TextSymbol}
use Rattle.merc_name_resolution.specs.Known.{constructor_in}
use Rattle.merc_type_check.specs.Typing.{HaveTypes as VariablesHave, IsConstructed, HasSymbol}
use Rattle.merc_order.specs.Bound.{Bound, among}
use Rattle.merc_order_laws.specs.Bindings.{AreBound, AreFree}
use Rattle.merc_order_laws.proofs.Facts.{clash}
use Rattle.merc_value.specs.Value.{Value, Int, Text, Con, Values, none, more}
use Rattle.merc_meaning.specs.Trace.{Env}
use Rattle.merc_meaning.specs.Values.{count, made, fields}
use Rattle.merc_meaning.specs.Steps.{value_at, with_entry, bound, joined, values_at, filled}
use Rattle.merc_meaning.proofs.Environments.{entry_same, entry_other}
use Rattle.merc_program_laws.specs.ValueTypes.{HasType, HaveTypes}
use Rattle.merc_program_laws.specs.GoodPrograms.{AreGoodTypes, FitsArguments}
use Rattle.merc_program_laws.proofs.Values.{Instance, composed, none_not, same_some, some_of, is_some_of, same_number, among_here, among_there, among_cases, not_here, not_there, IsMany, fields_constructor, fields_integer, fields_text, replaced_twice, parameters_replaced, same_type_arguments, same_arguments, at_same, at_other}
use Rattle.merc_program_laws.proofs.Declared.{found_arity, found_scoped}

-- what `joined` is made of
pub joined_parts : (o : Option Value) (p : Option Values) (vs : Values) → joined o p ≡ Some vs → (v : Value) × (ws : Values) × (o ≡ Some v) × (p ≡ Some ws) × (vs ≡ more v ws)
joined_parts None p vs h = absurd (none_not h)
joined_parts (Some v) None vs h = absurd (none_not h)
joined_parts (Some v) (Some ws) vs h = (v, ws, refl, refl, sym (same_some h))

both_there : (o : Option Value) (p : Option Values) (v : Value) (vs : Values) → o ≡ Some v → p ≡ Some vs → joined o p ≡ Some (more v vs)
both_there (Some w) (Some ws) v vs h k = let e : w ≡ v = same_some h in let f : ws ≡ vs = same_some k in cc
both_there None p v vs h k = absurd (none_not h)
both_there (Some w) None v vs h k = absurd (none_not k)

pub values_there : (b : Bound) (env : Env) (ys : List ℕ) → AreBound b ys → ((y : ℕ) → among ys y ≡ true → is_some (value_at env y) ≡ b y) → (vs : Values) × (values_at env ys ≡ Some vs)
values_there b env [] h k = (none, refl)
values_there b env (y ∷ ys) h k =
    let first = some_of (value_at env y) (k y (among_here y ys) ∙ h.0) in
    let rest = values_there b env ys h.1 (λ x m. k x (among_there x y ys m)) in
    (more first.0 rest.0, both_there (value_at env y) (values_at env ys) first.0 rest.0 first.1 rest.1)

pub filled_other : (env : Env) (ys : List ℕ) (vs : Values) (x : ℕ) → among ys x ≡ false → value_at (filled env ys vs) x ≡ value_at env x
filled_other env [] vs x h = refl
filled_other env (y ∷ ys) none x h = refl
filled_other env (y ∷ ys) (more v vs) x h = filled_other (bound env y v) ys vs x (not_there x y ys h) ∙ at_other env y x v (not_here x y ys h)

pub free_not : (b : Bound) (ys : List ℕ) → AreFree b ys → (x : ℕ) → among ys x ≡ true → b x ≡ false
free_not b [] h x m = clash m refl
free_not b (y ∷ ys) h x m = elim (among_cases x y ys m) as (λ _. b x ≡ false) [
  | inl p ↦ ap b p ∙ h.0
  | inr p ↦ free_not b ys h.2 x p
]

-- Given are the module, the types of the variables, and what type variables stand for.
module _ (known : Module) (types i : Instance) where
  -- each value is of its variable's type
  abbrev pub EnvTyped : Env → Type 0
  EnvTyped env = (x : ℕ) (v : Value) → value_at env x ≡ Some v → HasType known.types v (replaced i (types x))

  -- values of these types, where the type variables of a declaration stand for those of the goal
  abbrev pub Instances : Instance → Values → List TypeExpr → Type 0
  Instances j vs ts = HaveTypes known.types vs (map (replaced (composed i j)) ts)

  instances_count : (j : Instance) (vs : Values) (ts : List TypeExpr) → Instances j vs ts → count vs ≡ length ts
  instances_count j none [] h = refl
  instances_count j none (t ∷ ts) h = absurd h
  instances_count j (more v vs) [] h = absurd h
  instances_count j (more v vs) (t ∷ ts) h = ap suc (instances_count j vs ts h.1)

  pub entry_typed : (env : Env) (x : ℕ) (o : Option Value) → EnvTyped env → ((v : Value) → o ≡ Some v → HasType known.types v (replaced i (types x))) → EnvTyped (with_entry env x o)
  entry_typed env x o h t y w e = elim (same_number y x) as (λ _. HasType known.types w (replaced i (types y))) [
    | inl p ↦ subst (λ (z : ℕ). HasType known.types w (replaced i (types z))) (sym p.1) (t w (sym (ap (value_at (with_entry env x o)) p.1 ∙ entry_same env x o) ∙ e))
    | inr p ↦ h y w (sym (entry_other env x y o p.1) ∙ e)
  ]

  pub bound_typed : (env : Env) (x : ℕ) (v : Value) → EnvTyped env → HasType known.types v (replaced i (types x)) → EnvTyped (bound env x v)
  bound_typed env x v h t = entry_typed env x (Some v) h (λ w e. subst (λ (u : Value). HasType known.types u (replaced i (types x))) (same_some e) t)

  -- the type of a variable whose type is that of a place of a declaration
  pub placed : (j : Instance) (y : ℕ) (t : TypeExpr) → types y ≡ replaced j t → replaced i (types y) ≡ replaced (composed i j) t
  placed j y t e = ap (replaced i) e ∙ replaced_twice i j t

  pub values_typed : (j : Instance) (env : Env) (ys : List ℕ) (ts : List TypeExpr) (vs : Values) → EnvTyped env → VariablesHave known types j ys ts → values_at env ys ≡ Some vs → Instances j vs ts
  values_typed j env [] [] vs h t e = subst (λ (u : Values). Instances j u []) (same_some e) tt
  values_typed j env [] (t ∷ ts) vs h k e = absurd k
  values_typed j env (y ∷ ys) [] vs h k e = absurd k
  values_typed j env (y ∷ ys) (t ∷ ts) vs h k e =
      let parts = joined_parts (value_at env y) (values_at env ys) vs e in
      subst (λ (u : Values). Instances j u (t ∷ ts)) (sym parts.4)
      (subst (λ (u : TypeExpr). HasType known.types parts.0 u) (placed j y t k.0) (h y parts.0 parts.2), values_typed j env ys ts parts.1 h k.1 parts.3)

  pub filled_typed : (j : Instance) (env : Env) (ys : List ℕ) (ts : List TypeExpr) (vs : Values) → EnvTyped env → VariablesHave known types j ys ts → Instances j vs ts → EnvTyped (filled env ys vs)
  filled_typed j env [] ts vs h k t = h
  filled_typed j env (y ∷ ys) [] vs h k t = absurd k
  filled_typed j env (y ∷ ys) (u ∷ ts) none h k t = absurd t
  filled_typed j env (y ∷ ys) (u ∷ ts) (more v vs) h k t =
      filled_typed j (bound env y v) ys ts vs (bound_typed env y v h (subst (λ (z : TypeExpr). HasType known.types v z) (sym (placed j y u k.0)) t.0)) k.1 t.1

  pub bound_step : (env : Env) (y : ℕ) (ys : List ℕ) (v : Value) (x : ℕ) → (among (y ∷ ys) x ≡ true) ⊎ (is_some (value_at env x) ≡ true)
      → ((x == y ≡ true) × (x ≡ y)) ⊎ ((x == y ≡ false) × (x ≡ y → ⊥)) → (among ys x ≡ true) ⊎ (is_some (value_at (bound env y v) x) ≡ true)
  bound_step env y ys v x h (inl p) = inr (is_some_of (value_at (bound env y v) x) v (ap (value_at (bound env y v)) p.1 ∙ at_same env y v))
  bound_step env y ys v x (inl h) (inr p) = elim (among_cases x y ys h) as (λ _. (among ys x ≡ true) ⊎ (is_some (value_at (bound env y v) x) ≡ true)) [
    | inl q ↦ absurd (p.1 q)
    | inr q ↦ inl q
  ]
  bound_step env y ys v x (inr h) (inr p) = inr (ap is_some (at_other env y x v p.1) ∙ h)

  pub filled_bound : (j : Instance) (env : Env) (ys : List ℕ) (ts : List TypeExpr) (vs : Values) → VariablesHave known types j ys ts → Instances j vs ts → (x : ℕ)
      → (among ys x ≡ true) ⊎ (is_some (value_at env x) ≡ true) → is_some (value_at (filled env ys vs) x) ≡ true
  filled_bound j env [] ts vs k t x (inl h) = clash h refl
  filled_bound j env [] ts vs k t x (inr h) = h
  filled_bound j env (y ∷ ys) [] vs k t x h = absurd k
  filled_bound j env (y ∷ ys) (u ∷ ts) none k t x h = absurd t
  filled_bound j env (y ∷ ys) (u ∷ ts) (more v vs) k t x h =
      filled_bound j (bound env y v) ys ts vs k.1 t.1 x (bound_step env y ys v x h (same_number x y))

  -- a variable may have a constructor's value over these variables
  pub record MayHave (x name arity : ℕ) (ys : List ℕ) : Type 0 where
    pub found : TypeDef × Constructor
    pub instance : Instance
    pub there : constructor_in known.types name arity ≡ Some found
    pub type : types x ≡ TypeApplication found.0.name (types_of (map instance found.0.params))
    pub places : VariablesHave known types instance ys found.1.args

  constructed : (x name arity : ℕ) (ys : List ℕ) (o : Option (TypeDef × Constructor)) → constructor_in known.types name arity ≡ o → IsConstructed known types x o ys → MayHave x name arity ys
  constructed x name arity ys None e h = absurd h
  constructed x name arity ys (Some found) e h = record { found = found; instance = h.0; there = e; type = h.1.0; places = h.1.1 }

  pub may_have : (x name arity : ℕ) (ys : List ℕ) → HasSymbol known types x (ConstructorSymbol name arity) ys → MayHave x name arity ys
  may_have x name arity ys h = constructed x name arity ys (constructor_in known.types name arity) refl h

  pub instance_of : (x name arity : ℕ) (ys : List ℕ) (h : MayHave x name arity ys) → replaced i (types x) ≡ TypeApplication h.found.0.name (types_of (map (composed i h.instance) h.found.0.params))
  instance_of x name arity ys h = ap (replaced i) h.type ∙ ap (TypeApplication h.found.0.name) (parameters_replaced i h.instance h.found.0.params)

  many : (x name arity : ℕ) (ys : List ℕ) (h : MayHave x name arity ys) (vs : Values) → Instances h.instance vs h.found.1.args → arity ≡ count vs
  many x name arity ys h vs t = sym (instances_count h.instance vs h.found.1.args t ∙ found_arity known.types name arity h.found h.there)

  -- what is made is of the variable's type, and has the symbol
  pub made_typed : (env : Env) (x : ℕ) (s : Symbol) (ys : List ℕ) (vs : Values) → EnvTyped env → HasSymbol known types x s ys → FitsArguments s ys → values_at env ys ≡ Some vs
      → HasType known.types (made s vs) (replaced i (types x)) × IsMany s vs
  made_typed env x (ConstructorSymbol name arity) ys vs h k l e =
      let m = may_have x name arity ys k in
      let t = values_typed m.instance env ys m.found.1.args vs h m.places e in
      let n = many x name arity ys m vs t in
      ((m.found, composed i m.instance, ap (constructor_in known.types name) (sym n) ∙ m.there, instance_of x name arity ys m, t), n)
  made_typed env x (Integer n) ys vs h k l e = ((ap (replaced i) k, l.0), tt)
  made_typed env x (TextSymbol t) ys vs h k l e = (ap (replaced i) k, tt)

  -- types for the variables of a split, which its arguments have
  abbrev pub SplitTypes : List ℕ → Values → Type 0
  SplitTypes ys vs = (j : Instance) × (ts : List TypeExpr) × VariablesHave known types j ys ts × Instances j vs ts

  same_found : (a b c d : ℕ) (f g : TypeDef × Constructor) → constructor_in known.types a b ≡ Some f → constructor_in known.types c d ≡ Some g → a ≡ c → b ≡ d → f ≡ g
  same_found a b c d f g p q e k = same_some (sym p ∙ ap (λ (z : ℕ). constructor_in known.types z b) e ∙ ap (constructor_in known.types c) k ∙ q)

  no_variables : (ys : List ℕ) (vs : Values) → ys ≡ [] → none ≡ vs → SplitTypes ys vs
  no_variables ys vs e k = (i, [], subst (λ (u : List ℕ). VariablesHave known types i u []) (sym e) tt, subst (λ (u : Values). Instances i u []) k tt)

  split_constructor : AreGoodTypes known.types → (x name arity : ℕ) (ys : List ℕ) (d : ℕ) (ws vs : Values) → HasType known.types (Con d ws) (replaced i (types x)) → MayHave x name arity ys
      → (name ≡ d) × (arity ≡ count ws) × (ws ≡ vs) → SplitTypes ys vs
  split_constructor good x name arity ys d ws vs h m p =
      let q : m.found ≡ h.0 = same_found name arity d (count ws) m.found h.0 m.there h.2 p.0 p.1 in
      let r : TypeApplication m.found.0.name (types_of (map (composed i m.instance) m.found.0.params)) ≡ TypeApplication m.found.0.name (types_of (map h.1 m.found.0.params)) =
      sym (instance_of x name arity ys m) ∙ h.3 ∙ ap (λ (z : TypeDef × Constructor). TypeApplication z.0.name (types_of (map h.1 z.0.params))) (sym q) in
      let t : HaveTypes known.types ws (map (replaced h.1) m.found.1.args) = subst (λ (z : TypeDef × Constructor). HaveTypes known.types ws (map (replaced h.1) z.1.args)) (sym q) h.4 in
      let e = same_arguments h.1 (composed i m.instance) m.found.0.params m.found.1.args (found_scoped known.types name arity m.found good.scoped m.there) (sym (same_type_arguments r)) in
      (m.instance, m.found.1.args, m.places, subst (λ (u : Values). Instances m.instance u m.found.1.args) p.2 (subst (λ (u : List TypeExpr). HaveTypes known.types ws u) e t))

  -- the arguments of a value are of the types of a split's variables
  pub fields_typed : AreGoodTypes known.types → (x : ℕ) (s : Symbol) (ys : List ℕ) (v : Value) (vs : Values) → HasType known.types v (replaced i (types x)) → HasSymbol known types x s ys → FitsArguments s ys
      → fields s v ≡ Some vs → SplitTypes ys vs
  fields_typed good x (ConstructorSymbol name arity) ys (Con d ws) vs h k l e =
      split_constructor good x name arity ys d ws vs h (may_have x name arity ys k) (fields_constructor name arity d ws vs e)
  fields_typed good x (ConstructorSymbol name arity) ys (Int d) vs h k l e = absurd (none_not e)
  fields_typed good x (ConstructorSymbol name arity) ys (Text d) vs h k l e = absurd (none_not e)
  fields_typed good x (Integer n) ys (Int d) vs h k l e = no_variables ys vs l.1 (fields_integer n d vs e).1
  fields_typed good x (Integer n) ys (Con d ws) vs h k l e = absurd (none_not e)
  fields_typed good x (Integer n) ys (Text d) vs h k l e = absurd (none_not e)
  fields_typed good x (TextSymbol n) ys (Text d) vs h k l e = no_variables ys vs l (fields_text n d vs e).1
  fields_typed good x (TextSymbol n) ys (Int d) vs h k l e = absurd (none_not e)
  fields_typed good x (TextSymbol n) ys (Con d ws) vs h k l e = absurd (none_not e)
