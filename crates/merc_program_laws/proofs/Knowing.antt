-- The category law of goals that hold no others: what they bind, and what splits make of symbols.
use Rattle.std.proofs.Common.{◌≡◌, ◌⊎◌, inl, inr, ℕ, suc, ℤ, Bool, true, false, ◌==◌, if◌then◌else◌, is_some, FitsSigned, List, [], ◌∷◌, length, map, Option, Some, None, refl, ap, sym, ◌∙◌, subst}
use Rattle.std.specs.Int.{w64}
use Rattle.merc_base.specs.Category.{can_fail_of, most_of}
use Rattle.merc_base.specs.declared.category.Category.{Category}
use Rattle.merc_base.specs.declared.category.Category.TheVariants.{Det, Semidet, Failure}
use Rattle.merc_base.specs.declared.category.Most.TheVariants.{Zero, One, Many}
use Rattle.merc_tree.specs.Types.{TypeExpr, TypeVariable, IntType, TextType, TypeApplication, TypeExprs, no_types, more_types, types_of, type_list, replaced, replaced_all}
use Rattle.merc_tree.specs.declared.declarations.Constructor.{Constructor}
use Rattle.merc_tree.specs.declared.declarations.TypeDef.{TypeDef}
use Rattle.merc_tree.specs.declared.declarations.Module.{Module}
use Rattle.merc_goal_tree.specs.declared.goal.Symbol.{Symbol}
use Rattle.merc_goal_tree.specs.declared.goal.Symbol.TheVariants.{Constructor as ConstructorSymbol, Integer, Text as TextSymbol}
use Rattle.merc_type_check.specs.Typing.{HasSymbol}
use Rattle.merc_order.specs.Bound.{Bound, with, among}
use Rattle.merc_order_laws.specs.Bindings.{Variables}
use Rattle.merc_order_laws.proofs.Facts.{clash, or_right, or_cases, either_way}
use Rattle.merc_grading.specs.Known.{same_symbol, symbol_of, symbols_named, symbols_of_type, has_symbol, is_single, Known, known_of, with_known}
use Rattle.merc_grading.specs.Grading.{split_category}
use Rattle.merc_value.specs.Value.{Value, Int, Text, Con, Values}
use Rattle.merc_meaning.specs.Trace.{Env, Ends, Done, one_answer}
use Rattle.merc_meaning.specs.Values.{count, fields}
use Rattle.merc_meaning.specs.Steps.{value_at, bound, tested}
use Rattle.merc_program_laws.specs.ValueTypes.{HasType}
use Rattle.merc_program_laws.specs.GoodPrograms.{AreGoodTypes}
use Rattle.merc_program_laws.proofs.Values.{Instance, or_false, or_with, none_not, same_some, some_of, is_some_of, same_number, among_one, not_here, symbol_decides, one_symbol, fields_of_constructor, same_type_name, same_type_arguments, application_not_int, application_not_text, at_same, at_other}
use Rattle.merc_program_laws.proofs.Declared.{found_named, found_listed}
use Rattle.merc_program_laws.proofs.Steps.{EnvTyped, bound_typed, MayHave, may_have}
use Rattle.merc_program_laws.proofs.Lawful.{Knows, Fits, Goes, Lawful}

-- knowledge stays where values stay
pub knows_on : (seen : Known) (env env' : Env) → Knows seen env → ((x : ℕ) (v : Value) → value_at env x ≡ Some v → value_at env' x ≡ Some v) → Knows seen env'
knows_on seen env env' h k x s e = let r = h x s e in (r.0, r.1, k x r.0 r.2, r.3)

knows_case : {X : Type 0} {x y : ℕ} (b : Bool) (o : Option Symbol) (s t : Symbol) → ((b ≡ true) × (x ≡ y)) ⊎ ((b ≡ false) × (x ≡ y → ⊥)) → (if b then Some s else o) ≡ Some t → (o ≡ Some t → X) → (x ≡ y → s ≡ t → X) → X
knows_case true o s t (inl p) k f g = g p.1 (same_some k)
knows_case true o s t (inr p) k f g = clash refl p.0
knows_case false o s t (inl p) k f g = clash p.0 refl
knows_case false o s t (inr p) k f g = f k

pub knows_more : (seen : Known) (env : Env) (x : ℕ) (s : Symbol) (v : Value) (vs : Values) → Knows seen env → value_at env x ≡ Some v → fields s v ≡ Some vs → Knows ((x, s) ∷ seen) env
knows_more seen env x s v vs h e f y t k =
    knows_case (x == y) (known_of seen y) s t (same_number x y) k (λ m. h y t m) (λ p q. (v, vs, ap (value_at env) (sym p) ∙ e, subst (λ (u : Symbol). fields u v ≡ Some vs) q f))

pub knows_copied : (seen : Known) (env : Env) (x y : ℕ) (v : Value) (o : Option Symbol) → o ≡ known_of seen y → Knows seen env → value_at env x ≡ Some v → value_at env y ≡ Some v → Knows (with_known x o seen) env
knows_copied seen env x y v None q h e f = h
knows_copied seen env x y v (Some s) q h e f =
    let r = h y s (sym q) in
    let g : r.0 ≡ v = same_some (sym r.2 ∙ f) in
    knows_more seen env x s v r.1 h e (subst (λ (u : Value). fields s u ≡ Some r.1) g r.3)

pub one_not_zero : One ≡ Zero → ⊥
one_not_zero h = absurd cc

pub many_not_zero : Many ≡ Zero → ⊥
many_not_zero h = absurd cc

-- a goal with one answer
pub one_law : (P : Env → Type 0) (env : Env) → P env → Lawful P Det (one_answer env)
one_law P env h = record { goes = (h, tt); no_answer = λ e. absurd (one_not_zero e); some_answer = λ e d. inl tt }

pub none_law : (P : Env → Type 0) (c : Category) → (can_fail_of c ≡ false → ⊥) → Lawful P c (Ends Done)
none_law P c h = record { goes = tt; no_answer = λ e. tt; some_answer = λ e d. absurd (h e) }

pub tested_law : (P : Env → Type 0) (b : Bool) (env : Env) → P env → Lawful P Semidet (tested b env)
tested_law P true env h = record { goes = (h, tt); no_answer = λ e. absurd (one_not_zero e); some_answer = λ e d. inl tt }
tested_law P false env h = none_law P Semidet (λ e. clash refl e)

list_length : (f : ℕ → TypeExpr) (ps : List ℕ) → length (type_list (types_of (map f ps))) ≡ length ps
list_length f [] = refl
list_length f (p ∷ ps) = ap suc (list_length f ps)

replaced_length : (i : Instance) (ts : TypeExprs) → length (type_list (replaced_all i ts)) ≡ length (type_list ts)
replaced_length i no_types = refl
replaced_length i (more_types t ts) = ap suc (replaced_length i ts)

-- the only symbol of a type
only_symbol : (ss : List Symbol) (s t : Symbol) → is_single (Some ss) ≡ true → has_symbol ss s ≡ true → has_symbol ss t ≡ true → s ≡ t
only_symbol [] s t h p q = clash h refl
only_symbol (only ∷ []) s t h p q = only_one s p ∙ sym (only_one t q) where
  only_one : (u : Symbol) → has_symbol (only ∷ []) u ≡ true → u ≡ only
  only_one u k = elim (or_cases (same_symbol u only) false k) as (λ _. u ≡ only) [ inl r ↦ (symbol_decides u only).0 r | inr r ↦ clash r refl ]
only_symbol (a ∷ b ∷ ss) s t h p q = clash h refl

-- Given are the module, the types of the variables, and what type variables stand for.
module _ (known : Module) (types i : Instance) where
  pub goes_to : (out : Variables) (b c : Bound) (occurs : Variables) (seen : Known) (env env' : Env) → Goes known types i out b occurs seen env env' → ((x : ℕ) → occurs x ≡ true → out x ≡ true → b x ≡ c x) → Goes known types i out c occurs seen env env'
  goes_to out b c occurs seen env env' h k = record {
    keeps = h.keeps;
    own = h.own;
    bounds = λ x o p. h.bounds x o p ∙ k x o p;
    typed = h.typed;
    knows = h.knows;
  }

  -- nothing is bound
  pub goes_same : (out : Variables) (b : Bound) (occurs : Variables) (seen : Known) (env : Env) → Fits known types i out b occurs seen env → Goes known types i out b occurs seen env env
  goes_same out b occurs seen env h = record { keeps = λ x v e. e; own = λ x o. refl; bounds = λ x o p. h.bounds x o; typed = h.typed; knows = h.knows }

  -- some free variables are bound
  pub goes_more : (out : Variables) (b : Bound) (occurs : Variables) (seen seen' : Known) (ys : List ℕ) (env env' : Env) → Fits known types i out b occurs seen env
      → ((x : ℕ) → among ys x ≡ false → value_at env' x ≡ value_at env x) → ((x : ℕ) → among ys x ≡ true → is_some (value_at env' x) ≡ true)
      → ((x : ℕ) → among ys x ≡ true → b x ≡ false) → ((x : ℕ) → among ys x ≡ true → occurs x ≡ true) → EnvTyped known types i env'
      → (((x : ℕ) (v : Value) → value_at env x ≡ Some v → value_at env' x ≡ Some v) → Knows seen' env')
      → Goes known types i out (with b (among ys)) occurs seen' env env'
  goes_more out b occurs seen seen' ys env env' fits other now free within typed knows =
      let kept : (x : ℕ) (v : Value) → value_at env x ≡ Some v → value_at env' x ≡ Some v
      = λ x v e. elim (either_way (among ys x)) as (λ _. value_at env' x ≡ Some v) [
        | inl p ↦ clash (is_some_of (value_at env x) v e) (fits.bounds x (within x p) ∙ free x p)
        | inr p ↦ other x p ∙ e
      ] in
      record {
        keeps = kept;
        own = λ x o. elim (either_way (among ys x)) as (λ _. value_at env' x ≡ value_at env x) [
          | inl p ↦ clash (within x p) o
          | inr p ↦ other x p
        ];
        bounds = λ x o q. elim (either_way (among ys x)) as (λ _. is_some (value_at env' x) ≡ with b (among ys) x) [
          | inl p ↦ now x p ∙ sym (or_right (b x) (among ys x) p)
          | inr p ↦ ap is_some (other x p) ∙ fits.bounds x o ∙ sym (or_false (b x)) ∙ sym (or_with (b x) (among ys x) false p)
        ];
        typed = typed;
        knows = knows kept;
      }

  pub goes_one : (out : Variables) (b : Bound) (occurs : Variables) (seen seen' : Known) (x : ℕ) (v : Value) (env : Env) → Fits known types i out b occurs seen env → b x ≡ false → occurs x ≡ true
      → HasType known.types v (replaced i (types x))
      → (((y : ℕ) (w : Value) → value_at env y ≡ Some w → value_at (bound env x v) y ≡ Some w) → Knows seen' (bound env x v))
      → Goes known types i out (with b (among (x ∷ []))) occurs seen' env (bound env x v)
  goes_one out b occurs seen seen' x v env fits free within t knows =
      goes_more out b occurs seen seen' (x ∷ []) env (bound env x v) fits
      (λ y p. at_other env x y v (not_here y x [] p))
      (λ y p. is_some_of (value_at (bound env x v) y) v (ap (value_at (bound env x v)) (among_one y x p) ∙ at_same env x v))
      (λ y p. ap b (among_one y x p) ∙ free)
      (λ y p. ap occurs (among_one y x p) ∙ within)
      (bound_typed known types i env x v fits.typed t) knows

  int_of : (v : Value) → HasType known.types v IntType → (n : ℤ) × (v ≡ Int n) × FitsSigned w64 n
  int_of (Int n) h = (n, refl, h.1)
  int_of (Text t) h = absurd cc
  int_of (Con c vs) h = absurd (application_not_int (sym h.3))

  pub text_of : (v : Value) → HasType known.types v TextType → (t : ℕ) × (v ≡ Text t)
  text_of (Int n) h = absurd (let e : TextType ≡ IntType = h.0 in cc)
  text_of (Text t) h = (t, refl)
  text_of (Con c vs) h = absurd (application_not_text (sym h.3))

  -- the value of a bound variable, of its type
  pub value_of : (out : Variables) (b : Bound) (occurs : Variables) (seen : Known) (env : Env) → Fits known types i out b occurs seen env → (x : ℕ) → occurs x ≡ true → b x ≡ true
      → (v : Value) × (value_at env x ≡ Some v) × HasType known.types v (replaced i (types x))
  value_of out b occurs seen env fits x o h = let r = some_of (value_at env x) (fits.bounds x o ∙ h) in (r.0, r.1, fits.typed x r.0 r.1)

  pub int_at : (out : Variables) (b : Bound) (occurs : Variables) (seen : Known) (env : Env) → Fits known types i out b occurs seen env → (x : ℕ) → occurs x ≡ true → b x ≡ true → types x ≡ IntType
      → (n : ℤ) × (value_at env x ≡ Some (Int n)) × FitsSigned w64 n
  int_at out b occurs seen env fits x o h t =
      let r = value_of out b occurs seen env fits x o h in
      let n = int_of r.0 (subst (λ (u : TypeExpr). HasType known.types r.0 (replaced i u)) t r.2) in
      (n.0, r.1 ∙ ap Some n.1, n.2)

  -- a value of a type with symbols has one of them
  abbrev pub HasOne : List Symbol → Value → Type 0
  HasOne ss v = (c : ℕ) × (vs : Values) × (v ≡ Con c vs) × (has_symbol ss (ConstructorSymbol c (count vs)) ≡ true)

  pub value_symbol : AreGoodTypes known.types → (t : TypeExpr) (v : Value) (ss : List Symbol) → HasType known.types v (replaced i t) → symbols_of_type known.types t ≡ Some ss → HasOne ss v
  value_symbol good (TypeVariable a) v ss h e = absurd (none_not e)
  value_symbol good IntType v ss h e = absurd (none_not e)
  value_symbol good TextType v ss h e = absurd (none_not e)
  value_symbol good (TypeApplication n ts) (Int m) ss h e = absurd (application_not_int h.0)
  value_symbol good (TypeApplication n ts) (Text m) ss h e = absurd (application_not_text h)
  value_symbol good (TypeApplication n ts) (Con c vs) ss h e =
      let found : TypeDef × Constructor = h.0 in
      let long : length (type_list ts) ≡ length found.0.params =
      sym (replaced_length i ts) ∙ ap (λ (us : TypeExprs). length (type_list us)) (same_type_arguments h.3) ∙ list_length h.1 found.0.params in
      let named : symbols_named known.types n (length (type_list ts)) ≡ Some (map symbol_of found.0.constructors) =
      ap (λ (k : ℕ). symbols_named known.types k (length (type_list ts))) (same_type_name h.3)
      ∙ ap (λ (k : ℕ). symbols_named known.types found.0.name k) long
      ∙ found_named known.types c (count vs) found good.apart h.2 in
      let same : map symbol_of found.0.constructors ≡ ss = same_some (sym named ∙ e) in
      (c, vs, refl, ap (λ (us : List Symbol). has_symbol us (ConstructorSymbol c (count vs))) (sym same) ∙ found_listed known.types c (count vs) found h.2)

  -- so has a split of a variable of such a type
  own_symbol : AreGoodTypes known.types → (x name arity : ℕ) (ys : List ℕ) (ss : List Symbol) → MayHave known types i x name arity ys → symbols_of_type known.types (types x) ≡ Some ss
      → has_symbol ss (ConstructorSymbol name arity) ≡ true
  own_symbol good x name arity ys ss h e =
      let named : symbols_of_type known.types (types x) ≡ Some (map symbol_of h.found.0.constructors) =
      ap (symbols_of_type known.types) h.type
      ∙ ap (λ (k : ℕ). symbols_named known.types h.found.0.name k) (list_length h.instance h.found.0.params)
      ∙ found_named known.types name arity h.found good.apart h.there in
      let same : map symbol_of h.found.0.constructors ≡ ss = same_some (sym named ∙ e) in
      ap (λ (us : List Symbol). has_symbol us (ConstructorSymbol name arity)) (sym same) ∙ found_listed known.types name arity h.found h.there

  single_value : (name arity : ℕ) (v : Value) (ss : List Symbol) → is_single (Some ss) ≡ true → has_symbol ss (ConstructorSymbol name arity) ≡ true → HasOne ss v → fields (ConstructorSymbol name arity) v ≡ None → ⊥
  single_value name arity v ss e k h f =
      let c = h.0 in let vs = h.1 in
      let q : ConstructorSymbol name arity ≡ ConstructorSymbol c (count vs) = only_symbol ss (ConstructorSymbol name arity) (ConstructorSymbol c (count vs)) e k h.3 in
      none_not (sym f ∙ ap (fields (ConstructorSymbol name arity)) h.2 ∙ ap (λ (s : Symbol). fields s (Con c vs)) q ∙ fields_of_constructor c (count vs) vs refl)

  single_case : AreGoodTypes known.types → (x name arity : ℕ) (ys : List ℕ) (v : Value) → HasType known.types v (replaced i (types x)) → MayHave known types i x name arity ys
      → (o : Option (List Symbol)) → symbols_of_type known.types (types x) ≡ o → is_single o ≡ true → fields (ConstructorSymbol name arity) v ≡ None → ⊥
  single_case good x name arity ys v h k None q e f = clash e refl
  single_case good x name arity ys v h k (Some ss) q e f = single_value name arity v ss e (own_symbol good x name arity ys ss k q) (value_symbol good (types x) v ss h q) f

  -- a split succeeds where the type has one symbol alone
  single_split : AreGoodTypes known.types → (x : ℕ) (s : Symbol) (ys : List ℕ) (v : Value) → HasType known.types v (replaced i (types x)) → HasSymbol known types x s ys
      → is_single (symbols_of_type known.types (types x)) ≡ true → fields s v ≡ None → ⊥
  single_split good x (Integer n) ys v h k e f = clash (ap (λ (t : TypeExpr). is_single (symbols_of_type known.types t)) (sym k) ∙ e) refl
  single_split good x (TextSymbol n) ys v h k e f = clash (ap (λ (t : TypeExpr). is_single (symbols_of_type known.types t)) (sym k) ∙ e) refl
  single_split good x (ConstructorSymbol name arity) ys v h k e f =
      single_case good x name arity ys v h (may_have known types i x name arity ys k) (symbols_of_type known.types (types x)) refl e f

  known_sure : (seen : Known) (env : Env) (x : ℕ) (s u : Symbol) (v : Value) (b : Bool) → (b ≡ true → s ≡ u) → Knows seen env → value_at env x ≡ Some v → known_of seen x ≡ Some u
      → can_fail_of (if b then Det else Failure) ≡ false → fields s v ≡ None → ⊥
  known_sure seen env x s u v true d h e k c f =
      let r = h x u k in
      let g : r.0 ≡ v = same_some (sym r.2 ∙ e) in
      none_not (sym f ∙ ap (λ (z : Symbol). fields z v) (d refl) ∙ ap (fields u) (sym g) ∙ r.3)
  known_sure seen env x s u v false d h e k c f = clash refl c

  -- where the category says so a split succeeds, or fails

  pub split_sure : AreGoodTypes known.types → (seen : Known) (env : Env) (x : ℕ) (s : Symbol) (ys : List ℕ) (v : Value) → Knows seen env → value_at env x ≡ Some v → HasType known.types v (replaced i (types x)) → HasSymbol known types x s ys
      → (o : Option Symbol) → o ≡ known_of seen x → (z : Bool) → z ≡ is_single (symbols_of_type known.types (types x)) → can_fail_of (split_category z s o) ≡ false → fields s v ≡ None → ⊥
  split_sure good seen env x s ys v h e t k None q true r c f = single_split good x s ys v t k (sym r) f
  split_sure good seen env x s ys v h e t k None q false r c f = clash refl c
  split_sure good seen env x s ys v h e t k (Some u) q z r c f = known_sure seen env x s u v (same_symbol s u) (symbol_decides s u).0 h e (sym q) c f

  never_case : (b : Bool) → b ≡ true → most_of (if b then Det else Failure) ≡ Zero → ⊥
  never_case true h c = one_not_zero c
  never_case false h c = clash h refl

  pub split_never : (seen : Known) (env : Env) (x : ℕ) (s : Symbol) (v : Value) (vs : Values) → Knows seen env → value_at env x ≡ Some v → (o : Option Symbol) → o ≡ known_of seen x → (z : Bool)
      → most_of (split_category z s o) ≡ Zero → fields s v ≡ Some vs → ⊥
  split_never seen env x s v vs h e None q true c f = one_not_zero c
  split_never seen env x s v vs h e None q false c f = one_not_zero c
  split_never seen env x s v vs h e (Some u) q z c f =
      let r = h x u (sym q) in
      let g : r.0 ≡ v = same_some (sym r.2 ∙ e) in
      never_case (same_symbol s u) ((symbol_decides s u).1 (one_symbol s u v vs r.1 f (ap (fields u) (sym g) ∙ r.3))) c
