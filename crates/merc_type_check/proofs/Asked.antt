-- What goals ask of the types of their variables.
use Rattle.std.proofs.Common.{◌≡◌, ℕ, zero, suc, ◌+◌, ◌<◌, ◌≤◌, Bool, true, false, Option, Some, None, List, [], ◌∷◌, ◌++◌, length, map, take, get_or, refl, sym, ap, subst, ◌∙◌, arith, add-zero, add-one}
use Rattle.std.specs.Prelude.{slice_get}
use Rattle.std.specs.Option.{IfSome}
use Rattle.std.specs.Ordering.{nat_cmp}
use Rattle.std.specs.BTreeMap.{get}
use Rattle.std.proofs.lemmas.List.{map-append, take_all}
use Rattle.std.proofs.Math.Seq.{take-suc}
use Rattle.merc_tree.specs.Types.{TypeExpr, TypeApplication, types_of, replaced}
use Rattle.merc_tree.specs.declared.declarations.Module.{Module}
use Rattle.merc_tree.specs.declared.declarations.Constructor.{Constructor}
use Rattle.merc_tree.specs.declared.declarations.TypeDef.{TypeDef}
use Rattle.merc_tree.specs.declared.declarations.PredDecl.{PredDecl}
use Rattle.merc_name_resolution.specs.Known.{constructor_in}
use Rattle.merc_type_table.specs.Table.{type_at}
use Rattle.merc_type_check.specs.declared.checker.Checker.{Checker}
use Rattle.merc_type_check.specs.declared.checker.UsedType.{UsedType}
use Rattle.merc_type_matching.specs.declared.matching.NamePair.{NamePair}
use Rattle.merc_type_matching.specs.Matched.{AgreeOn, AreMatched}
use Rattle.merc_type_check.specs.Progress.{used_type, Types, Instances, Fits, IsSound, Step, Refuses, Takes, Nothing, Stands, AllStand, Places, IsFresh, GoalTakes}
use Rattle.merc_type_check.specs.Typing.{HaveTypes, HasConstructor, IsConstructed, IsCalled, AreArguments}
use Rattle.merc_type_check.proofs.Steps.{steps, step_as, takes_where, grow_takes, grow_grow, stands_on, all_stand_on, fresh_takes}
use Rattle.merc_type_check.proofs.Built.{stand_push, stand_as}
use Rattle.merc_type_check.proofs.Told.{part_front, part_pop, part_push}

pub taken : (done : Bool) (old new : Checker) (Asked : Types → Instances → Type 0) → done ≡ true → Takes done old new Asked → Step old new Asked
taken done old new Asked e takes = subst (λ (b : Bool). Takes b old new Asked) e takes

pub refused : (done : Bool) (old new : Checker) (Asked : Types → Instances → Type 0) → done ≡ false → Takes done old new Asked → Refuses old Asked
refused done old new Asked e takes = subst (λ (b : Bool). Takes b old new Asked) e takes

pub refuses_more : (old : Checker) (One Other : Types → Instances → Type 0) → ((types : Types) (instance : Instances) → Other types instance → One types instance)
    → Refuses old One → Refuses old Other
refuses_more old One Other from refuses = λ places types instance fits asked. refuses places types instance fits (from types instance asked)

-- two places one after the other, made equal
pub two_equal : (done : Bool) (first second third last : Checker) (one other : ℕ) (One Other : Types → Instances → TypeExpr) → Places first second one One
    → Places second third other Other
    → ((A B : Types → Instances → TypeExpr) → Stands third one A → Stands third other B → Takes done third last (λ types instance. A types instance ≡ B types instance))
    → Takes done first last (λ types instance. One types instance ≡ Other types instance)
two_equal done first second third last one other One Other a b equal =
    grow_takes done first third last (λ types instance. One types instance ≡ Other types instance) (grow_grow first second third a.grows b.grows)
    (equal One Other (stands_on second third Nothing one One b.grows a.stands) b.stands)

-- a variable waits with a declared type that is matched with another
pub given_used : (done : Bool) (old new : Checker) (variable number user : ℕ) (used : UsedType) (pairs : List NamePair) → get nat_cmp old.waiting variable ≡ Some used
    → AreMatched pairs (type_at old.graph.table used.number) (type_at old.graph.table number)
    → Takes done old new (λ types instance. AgreeOn (instance used.user) (instance user) pairs)
    → Takes done old new (λ types instance. types variable ≡ replaced (instance user) (type_at old.graph.table number))
given_used done old new variable number user used pairs waits matched takes =
    let table : List TypeExpr = old.graph.table in
    let has : (places types : Types) (instance : Instances) → Fits old places types instance → types variable ≡ used_type table instance used =
    λ places types instance fits. subst (λ (o : Option UsedType). IfSome o (λ u. types variable ≡ used_type table instance u)) waits (fits.waiting variable) in
    takes_where done old new (λ types instance. AgreeOn (instance used.user) (instance user) pairs)
    (λ types instance. types variable ≡ replaced (instance user) (type_at table number))
    (λ places types instance fits agree. has places types instance fits ∙ (matched (instance used.user) (instance user)).0 agree)
    (λ places types instance fits same. (matched (instance used.user) (instance user)).1 (sym (has places types instance fits) ∙ same)) takes

-- the same where pairs are taken before
pub given_like : (done : Bool) (old middle new : Checker) (variable number user : ℕ) (used : UsedType) (pairs view : List NamePair) → view ≡ pairs → Step old middle Nothing
    → get nat_cmp old.waiting variable ≡ Some used → AreMatched pairs (type_at old.graph.table used.number) (type_at old.graph.table number)
    → Takes done middle new (λ types instance. AgreeOn (instance used.user) (instance user) view)
    → Takes done old new (λ types instance. types variable ≡ replaced (instance user) (type_at old.graph.table number))
given_like done old middle new variable number user used pairs view view_is grows waits matched takes =
    given_used done old new variable number user used pairs waits matched
    (grow_takes done old middle new (λ types instance. AgreeOn (instance used.user) (instance user) pairs) grows
    (subst (λ (l : List NamePair). Takes done middle new (λ types instance. AgreeOn (instance used.user) (instance user) l)) view_is takes))

-- the same of a type that is built then
pub like_built : (done : Bool) (old middle new : Checker) (variable number user : ℕ) → Step old middle Nothing
    → Takes done middle new (λ types instance. types variable ≡ replaced (instance user) (type_at middle.graph.table number))
    → Takes done old new (λ types instance. types variable ≡ replaced (instance user) (type_at old.graph.table number))
like_built done old middle new variable number user grows takes =
    subst (λ (t : List TypeExpr). Takes done old new (λ types instance. types variable ≡ replaced (instance user) (type_at t number))) grows.same_table
    (grow_takes done old middle new (λ types instance. types variable ≡ replaced (instance user) (type_at middle.graph.table number)) grows takes)

-- another variable has the type of one that waits
pub alike_given : (done : Bool) (old new : Checker) (one other : ℕ) (used : UsedType) → get nat_cmp old.waiting one ≡ Some used
    → Takes done old new (λ types instance. types other ≡ replaced (instance used.user) (type_at old.graph.table used.number))
    → Takes done old new (λ types instance. types one ≡ types other)
alike_given done old new one other used waits takes =
    let has : (places types : Types) (instance : Instances) → Fits old places types instance → types one ≡ used_type old.graph.table instance used =
    λ places types instance fits. subst (λ (o : Option UsedType). IfSome o (λ u. types one ≡ used_type old.graph.table instance u)) waits (fits.waiting one) in
    takes_where done old new (λ types instance. types other ≡ replaced (instance used.user) (type_at old.graph.table used.number)) (λ types instance. types one ≡ types other)
    (λ places types instance fits same. has places types instance fits ∙ sym same) (λ places types instance fits same. sym same ∙ has places types instance fits) takes

-- it waits with it as this part uses it
pub given_before : (old : Checker) (variable : ℕ) (used : UsedType) (user : ℕ) → IsSound old → get nat_cmp old.waiting variable ≡ Some used → used.user ≡ user
    → Step old old (λ types instance. types variable ≡ replaced (instance user) (type_at old.graph.table used.number))
given_before old variable used user sound waits same = record {
  sound = sound;
  longer = omega arith;
  same_table = refl;
  same_part = refl;
  same_mode = refl;
  back = λ places types instance fits. (
    fits,
    subst (λ (n : ℕ). types variable ≡ replaced (instance n) (type_at old.graph.table used.number)) same
        (subst (λ (o : Option UsedType). IfSome o (λ u. types variable ≡ used_type old.graph.table instance u)) waits (fits.waiting variable)),
  );
  forth = λ places types instance fits asked. (places, fits);
}

-- one more pair of type variables
pub pairs_step : (one other : ℕ) (first second third : Checker) (pairs : List NamePair) (k : ℕ) (pair : NamePair) → slice_get pairs k ≡ Some pair
    → Step first second (λ types instance. AgreeOn (instance one) (instance other) (take k pairs))
    → Step second third (λ types instance. instance one pair.one ≡ instance other pair.other)
    → Step first third (λ types instance. AgreeOn (instance one) (instance other) (take (k + 1) pairs))
pairs_step one other first second third pairs k pair is before step =
    subst (λ (n : ℕ). Step first third (λ types instance. AgreeOn (instance one) (instance other) (take n pairs))) (sym (add-one k))
    (step_as first third (λ types instance. AgreeOn (instance one) (instance other) (take k pairs) × (instance one pair.one ≡ instance other pair.other))
    (λ types instance. AgreeOn (instance one) (instance other) (take (suc k) pairs))
    (λ types instance both. part_push (λ (p : NamePair). instance one p.one ≡ instance other p.other) k pairs pair (sym is) both.0 both.1)
    (λ types instance agree. part_pop (λ (p : NamePair). instance one p.one ≡ instance other p.other) k pairs pair (sym is) agree)
    (steps first second third (λ types instance. AgreeOn (instance one) (instance other) (take k pairs))
    (λ types instance. instance one pair.one ≡ instance other pair.other) before step))

pub pairs_refused : (one other : ℕ) (first second : Checker) (pairs : List NamePair) (k : ℕ) (pair : NamePair) → slice_get pairs k ≡ Some pair
    → Step first second (λ types instance. AgreeOn (instance one) (instance other) (take k pairs))
    → Refuses second (λ types instance. instance one pair.one ≡ instance other pair.other)
    → Refuses first (λ types instance. AgreeOn (instance one) (instance other) pairs)
pairs_refused one other first second pairs k pair is before refuses = λ places types instance fits agree.
    let both = part_pop (λ (p : NamePair). instance one p.one ≡ instance other p.other) k pairs pair (sym is)
    (part_front (λ (p : NamePair). instance one p.one ≡ instance other p.other) (suc k) pairs agree) in
    let middle = before.forth places types instance fits both.0 in
    refuses middle.0 types instance middle.1 both.1

-- one more parameter of a type
pub one_parameter : (user : ℕ) (old new : Checker) (params listed now : List ℕ) (place name k : ℕ) → Places old new place (λ types instance. instance user name)
    → now ≡ listed ++ place ∷ [] → k < length params → name ≡ get_or params k name → AllStand old listed (λ types instance. map (instance user) (take k params))
    → AllStand new now (λ types instance. map (instance user) (take (k + 1) params))
one_parameter user old new params listed now place name k placed now_is less name_is stand =
    let Meant : Types → Instances → List TypeExpr = λ types instance. map (instance user) (take k params) in
    let whole : AllStand new (listed ++ place ∷ []) (λ types instance. map (instance user) (take k params) ++ instance user name ∷ []) =
    stand_push new listed place Meant (λ types instance. instance user name) (all_stand_on old new Nothing listed Meant placed.grows stand) placed.stands in
    let front : take (k + 1) params ≡ take k params ++ name ∷ [] =
    ap (λ (n : ℕ). take n params) (add-one k) ∙ take-suc params k name less ∙ ap (λ (n : ℕ). take k params ++ n ∷ []) (sym name_is) in
    subst (λ (l : List ℕ). AllStand new l (λ types instance. map (instance user) (take (k + 1) params))) (sym now_is)
    (stand_as new (listed ++ place ∷ []) (λ types instance. map (instance user) (take k params) ++ instance user name ∷ []) (λ types instance. map (instance user) (take (k + 1) params))
    (λ types instance. sym (ap (map (instance user)) front ∙ map-append (instance user) (take k params) (name ∷ []))) whole)

-- The types of variables in a list.
module _ (known : Module) (types instance : Types) where
  pub have_length : (variables : List ℕ) (declared : List TypeExpr) → HaveTypes known types instance variables declared → length variables ≡ length declared
  have_length [] [] have = refl
  have_length [] (d ∷ ds) have = absurd have
  have_length (v ∷ vs) [] have = absurd have
  have_length (v ∷ vs) (d ∷ ds) have = ap suc (have_length vs ds have.1)

  pub have_push : (k : ℕ) (variables : List ℕ) (declared : List TypeExpr) (v : ℕ) (d : TypeExpr) → slice_get variables k ≡ Some v → slice_get declared k ≡ Some d
      → HaveTypes known types instance (take k variables) (take k declared) → types v ≡ replaced instance d
      → HaveTypes known types instance (take (suc k) variables) (take (suc k) declared)
  have_push k [] ds v d v_is d_is have same = absurd (cc)
  have_push k (w ∷ ws) [] v d v_is d_is have same = absurd (cc)
  have_push zero (w ∷ ws) (e ∷ es) v d v_is d_is have same =
      let a : w ≡ v = cc in let b : e ≡ d = cc in (ap types a ∙ same ∙ ap (replaced instance) (sym b), tt)
  have_push (suc k) (w ∷ ws) (e ∷ es) v d v_is d_is have same = (have.0, have_push k ws es v d v_is d_is have.1 same)

  pub have_pop : (k : ℕ) (variables : List ℕ) (declared : List TypeExpr) (v : ℕ) (d : TypeExpr) → slice_get variables k ≡ Some v → slice_get declared k ≡ Some d
      → HaveTypes known types instance (take (suc k) variables) (take (suc k) declared)
      → HaveTypes known types instance (take k variables) (take k declared) × (types v ≡ replaced instance d)
  have_pop k [] ds v d v_is d_is have = absurd (cc)
  have_pop k (w ∷ ws) [] v d v_is d_is have = absurd (cc)
  have_pop zero (w ∷ ws) (e ∷ es) v d v_is d_is have =
      let a : w ≡ v = cc in let b : e ≡ d = cc in (tt, ap types (sym a) ∙ have.0 ∙ ap (replaced instance) b)
  have_pop (suc k) (w ∷ ws) (e ∷ es) v d v_is d_is have = let rest = have_pop k ws es v d v_is d_is have.1 in ((have.0, rest.0), rest.1)

  pub have_front : (k : ℕ) (variables : List ℕ) (declared : List TypeExpr) → HaveTypes known types instance variables declared
      → HaveTypes known types instance (take k variables) (take k declared)
  have_front zero vs ds have = tt
  have_front (suc k) [] [] have = tt
  have_front (suc k) [] (d ∷ ds) have = absurd have
  have_front (suc k) (v ∷ vs) [] have = absurd have
  have_front (suc k) (v ∷ vs) (d ∷ ds) have = (have.0, have_front k vs ds have.1)

-- The types of the first variables.
module _ (known : Module) (types : Types) where
  pub head_push : (k number : ℕ) (declared : List TypeExpr) (d : TypeExpr) → slice_get declared k ≡ Some d → AreArguments known types number (take k declared)
      → types (number + k) ≡ d → AreArguments known types number (take (suc k) declared)
  head_push k number [] d d_is have same = absurd (cc)
  head_push zero number (e ∷ es) d d_is have same =
      let b : e ≡ d = cc in (ap types (sym (add-zero number)) ∙ same ∙ sym b, tt)
  head_push (suc k) number (e ∷ es) d d_is have same =
      let at : number + suc k ≡ number + 1 + k = omega arith in
      (have.0, head_push k (number + 1) es d d_is have.1 (ap types (sym at) ∙ same))

  pub head_pop : (k number : ℕ) (declared : List TypeExpr) (d : TypeExpr) → slice_get declared k ≡ Some d → AreArguments known types number (take (suc k) declared)
      → AreArguments known types number (take k declared) × (types (number + k) ≡ d)
  head_pop k number [] d d_is have = absurd (cc)
  head_pop zero number (e ∷ es) d d_is have =
      let b : e ≡ d = cc in (tt, ap types (add-zero number) ∙ have.0 ∙ b)
  head_pop (suc k) number (e ∷ es) d d_is have =
      let at : number + suc k ≡ number + 1 + k = omega arith in
      let rest = head_pop k (number + 1) es d d_is have.1 in
      ((have.0, rest.0), ap types at ∙ rest.1)

  pub head_front : (k number : ℕ) (declared : List TypeExpr) → AreArguments known types number declared → AreArguments known types number (take k declared)
  head_front zero number ds have = tt
  head_front (suc k) number [] have = tt
  head_front (suc k) number (d ∷ ds) have = (have.0, head_front k (number + 1) ds have.1)

-- one more variable of a list
pub have_step : (user : ℕ) (known : Module) (first second third : Checker) (variables : List ℕ) (declared : List TypeExpr) (k v : ℕ) (d : TypeExpr) → slice_get variables k ≡ Some v
    → slice_get declared k ≡ Some d → Step first second (λ types instance. HaveTypes known types (instance user) (take k variables) (take k declared))
    → Step second third (λ types instance. types v ≡ replaced (instance user) d)
    → Step first third (λ types instance. HaveTypes known types (instance user) (take (k + 1) variables) (take (k + 1) declared))
have_step user known first second third variables declared k v d v_is d_is one other =
    subst (λ (n : ℕ). Step first third (λ types instance. HaveTypes known types (instance user) (take n variables) (take n declared))) (sym (add-one k))
    (step_as first third (λ types instance. HaveTypes known types (instance user) (take k variables) (take k declared) × (types v ≡ replaced (instance user) d))
    (λ types instance. HaveTypes known types (instance user) (take (suc k) variables) (take (suc k) declared))
    (λ types instance both. have_push known types (instance user) k variables declared v d v_is d_is both.0 both.1)
    (λ types instance have. have_pop known types (instance user) k variables declared v d v_is d_is have)
    (steps first second third (λ types instance. HaveTypes known types (instance user) (take k variables) (take k declared)) (λ types instance. types v ≡ replaced (instance user) d) one other))

pub have_refused : (user : ℕ) (known : Module) (first second : Checker) (variables : List ℕ) (declared : List TypeExpr) (k v : ℕ) (d : TypeExpr) → slice_get variables k ≡ Some v
    → slice_get declared k ≡ Some d → Step first second (λ types instance. HaveTypes known types (instance user) (take k variables) (take k declared))
    → Refuses second (λ types instance. types v ≡ replaced (instance user) d) → Refuses first (λ types instance. HaveTypes known types (instance user) variables declared)
have_refused user known first second variables declared k v d v_is d_is step refuses = λ places types instance fits have.
    let both = have_pop known types (instance user) k variables declared v d v_is d_is (have_front known types (instance user) (suc k) variables declared have) in
    let middle = step.forth places types instance fits both.0 in
    refuses middle.0 types instance middle.1 both.1

pub have_all : (user : ℕ) (known : Module) (first second : Checker) (variables : List ℕ) (declared : List TypeExpr) (k : ℕ) → length variables ≤ k → length declared ≤ k
    → Step first second (λ types instance. HaveTypes known types (instance user) (take k variables) (take k declared))
    → Step first second (λ types instance. HaveTypes known types (instance user) variables declared)
have_all user known first second variables declared k one other step =
    let a : take k variables ≡ variables = take_all k variables one in
    let b : take k declared ≡ declared = take_all k declared other in
    subst (λ (vs : List ℕ). Step first second (λ types instance. HaveTypes known types (instance user) vs declared)) a
    (subst (λ (ds : List TypeExpr). Step first second (λ types instance. HaveTypes known types (instance user) (take k variables) ds)) b step)

pub have_none : (user : ℕ) (known : Module) (old : Checker) (variables : List ℕ) (declared : List TypeExpr) → (length variables ≡ length declared → ⊥)
    → Refuses old (λ types instance. HaveTypes known types (instance user) variables declared)
have_none user known old variables declared apart = λ places types instance fits have. apart (have_length known types (instance user) variables declared have)

-- one more of the first variables
pub head_step : (known : Module) (first second third : Checker) (declared : List TypeExpr) (k v : ℕ) (d : TypeExpr) → v ≡ k → slice_get declared k ≡ Some d
    → Step first second (λ types instance. AreArguments known types 0 (take k declared)) → Step second third (λ types instance. types v ≡ d)
    → Step first third (λ types instance. AreArguments known types 0 (take (k + 1) declared))
head_step known first second third declared k v d v_is d_is one other =
    let at : 0 + k ≡ v = omega arith in
    subst (λ (n : ℕ). Step first third (λ types instance. AreArguments known types 0 (take n declared))) (sym (add-one k))
    (step_as first third (λ types instance. AreArguments known types 0 (take k declared) × (types v ≡ d))
    (λ types instance. AreArguments known types 0 (take (suc k) declared))
    (λ types instance both. head_push known types k 0 declared d d_is both.0 (ap types at ∙ both.1))
    (λ types instance have. let rest = head_pop known types k 0 declared d d_is have in (rest.0, ap types (sym at) ∙ rest.1))
    (steps first second third (λ types instance. AreArguments known types 0 (take k declared)) (λ types instance. types v ≡ d) one other))

pub head_refused : (known : Module) (first second : Checker) (declared : List TypeExpr) (k v : ℕ) (d : TypeExpr) → v ≡ k → slice_get declared k ≡ Some d
    → Step first second (λ types instance. AreArguments known types 0 (take k declared)) → Refuses second (λ types instance. types v ≡ d)
    → Refuses first (λ types instance. AreArguments known types 0 declared)
head_refused known first second declared k v d v_is d_is step refuses = λ places types instance fits have.
    let at : 0 + k ≡ v = omega arith in
    let both = head_pop known types k 0 declared d d_is (head_front known types (suc k) 0 declared have) in
    let middle = step.forth places types instance fits both.0 in
    refuses middle.0 types instance middle.1 (ap types (sym at) ∙ both.1)

pub head_all : (known : Module) (first second : Checker) (declared : List TypeExpr) (k : ℕ) → length declared ≤ k
    → Step first second (λ types instance. AreArguments known types 0 (take k declared)) → Step first second (λ types instance. AreArguments known types 0 declared)
head_all known first second declared k less step =
    subst (λ (ds : List TypeExpr). Step first second (λ types instance. AreArguments known types 0 ds)) (take_all k declared less) step

pub some_there : {A : Type 0} (listed : List A) (k : ℕ) → None ≡ slice_get listed k → k < length listed → ⊥
some_there [] k e less = omega arith
some_there (x ∷ xs) zero e less = cc
some_there (x ∷ xs) (suc k) e less = some_there xs k e (omega arith)

-- a constructor and a call, with what type variables stand for in them
pub constructed : (done : Bool) (old new : Checker) (known : Module) (variable name arity : ℕ) (arguments : List ℕ) (declared : TypeDef) (constructor : Constructor)
    → Some (declared, constructor) ≡ constructor_in known.types name arity → IsFresh old
    → Takes done old new (λ types instance. HasConstructor known types (instance old.part) variable declared constructor arguments)
    → GoalTakes done old new (λ types. IsConstructed known types variable (constructor_in known.types name arity) arguments)
constructed done old new known variable name arity arguments declared constructor found fresh takes =
    fresh_takes done old new (λ types own. HasConstructor known types own variable declared constructor arguments)
    (λ types. IsConstructed known types variable (constructor_in known.types name arity) arguments) fresh
    (λ types own has. subst (λ (o : Option (TypeDef × Constructor)). IsConstructed known types variable o arguments) found (own, has))
    (λ types has. subst (λ (o : Option (TypeDef × Constructor)). IsConstructed known types variable o arguments) (sym found) has) takes

pub called : (done : Bool) (old new : Checker) (known : Module) (predicate : ℕ) (arguments : List ℕ) (declared : PredDecl)
    → Some declared ≡ slice_get known.preds predicate → IsFresh old
    → Takes done old new (λ types instance. HaveTypes known types (instance old.part) arguments declared.args)
    → GoalTakes done old new (λ types. IsCalled known types (slice_get known.preds predicate) arguments)
called done old new known predicate arguments declared found fresh takes =
    fresh_takes done old new (λ types own. HaveTypes known types own arguments declared.args)
    (λ types. IsCalled known types (slice_get known.preds predicate) arguments) fresh
    (λ types own has. subst (λ (o : Option PredDecl). IsCalled known types o arguments) found (own, has))
    (λ types has. subst (λ (o : Option PredDecl). IsCalled known types o arguments) (sym found) has) takes

-- a type over its parameters
pub whole_placed : (user : ℕ) (first second third : Checker) (place name : ℕ) (params listed view : List ℕ) → view ≡ listed → Step first second Nothing
    → AllStand second listed (λ types instance. map (instance user) params)
    → ((Meant : Types → Instances → List TypeExpr) → AllStand second view Meant → Places second third place (λ types instance. TypeApplication name (types_of (Meant types instance))))
    → Places first third place (λ types instance. TypeApplication name (types_of (map (instance user) params)))
whole_placed user first second third place name params listed view view_is grows stand applied =
    let placed = applied (λ types instance. map (instance user) params)
    (subst (λ (l : List ℕ). AllStand second l (λ types instance. map (instance user) params)) (sym view_is) stand) in
    record { grows = grow_grow first second third grows placed.grows; stands = placed.stands }

-- a variable has a type over its parameters
abbrev pub HasWhole : ℕ → ℕ → TypeDef → Types → Instances → Type 0
HasWhole user variable declared types instance = types variable ≡ TypeApplication declared.name (types_of (map (instance user) declared.params))

pub whole_taken : (user : ℕ) (done : Bool) (first second third last : Checker) (one other variable : ℕ) (declared : TypeDef)
    → Places first second one (λ types instance. types variable)
    → Places second third other (λ types instance. TypeApplication declared.name (types_of (map (instance user) declared.params)))
    → ((A B : Types → Instances → TypeExpr) → Stands third one A → Stands third other B → Takes done third last (λ types instance. A types instance ≡ B types instance))
    → Takes done first last (HasWhole user variable declared)
whole_taken user done first second third last one other variable declared a b equal =
    two_equal done first second third last one other (λ types instance. types variable)
    (λ types instance. TypeApplication declared.name (types_of (map (instance user) declared.params))) a b equal
