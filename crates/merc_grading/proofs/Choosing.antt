-- The variable on which a disjunction is a switch.
use Rattle.std.proofs.Common.{◌≡◌, ◌⊎◌, inl, inr, ℕ, ◌≤◌, ◌<◌, Bool, true, false, not, ◌==◌, ◌&&◌, nat_le, List, [], ◌∷◌, ◌++◌, Option, Some, None, if◌then◌else◌, filter, refl, ap, sym, subst, ◌∙◌, arith}
use Rattle.std.specs.List.{flat_map, list_all, AllByRecursion}
use Rattle.std.proofs.lemmas.Bool.Decides.{Decides-eqb, leb_tells}
use Rattle.merc_tree.specs.Types.{TypeExpr}
use Rattle.merc_tree.specs.declared.declarations.TypeDef.{TypeDef}
use Rattle.merc_goal_tree.specs.declared.goal.Symbol.{Symbol}
use Rattle.merc_graded_tree.specs.Nodes.{Node}
use Rattle.merc_order.specs.Bound.{Bound, among}
use Rattle.merc_grading.specs.Switches.{beginning, symbol_in, symbol_at, is_there, split_variables, lesser, least, or_else, can_switch, is_complete, candidates, choice}
use Rattle.merc_grading.specs.Choices.{CanSwitch, IsChoice}

clash : {A : Type 0} {b : Bool} → b ≡ true → b ≡ false → A
clash p q = absurd (cc)

none_is_some : {A : Type 0} {o : Option ℕ} {v : ℕ} → o ≡ None → o ≡ Some v → A
none_is_some p q = absurd (cc)

abbrev In : ℕ → List ℕ → Type 0
In v [] = ⊥
In v (x ∷ xs) = (v ≡ x) ⊎ In v xs

-- what a filter keeps

filter_out_if : (v x : ℕ) (p : ℕ → Bool) (b : Bool) (kept xs : List ℕ) → p x ≡ b → (In v kept → (p v ≡ true) × In v xs)
    → In v (if b then x ∷ kept else kept) → (p v ≡ true) × In v (x ∷ xs)
filter_out_if v x p true kept xs e f (inl same) = (subst (λ (z : ℕ). p z ≡ true) (sym same) e, inl same)
filter_out_if v x p true kept xs e f (inr i) = ((f i).0, inr ((f i).1))
filter_out_if v x p false kept xs e f i = ((f i).0, inr ((f i).1))

filter_out : (v : ℕ) (p : ℕ → Bool) (xs : List ℕ) → In v (filter p xs) → (p v ≡ true) × In v xs
filter_out v p [] i = absurd i
filter_out v p (x ∷ xs) i = filter_out_if v x p (p x) (filter p xs) xs refl (filter_out v p xs) i

filter_in_if : (v x : ℕ) (p : ℕ → Bool) (b : Bool) (kept xs : List ℕ) → p x ≡ b → p v ≡ true → (In v xs → In v kept)
    → In v (x ∷ xs) → In v (if b then x ∷ kept else kept)
filter_in_if v x p true kept xs e h f (inl same) = inl same
filter_in_if v x p true kept xs e h f (inr i) = inr (f i)
filter_in_if v x p false kept xs e h f (inl same) = clash (subst (λ (z : ℕ). p z ≡ true) same h) e
filter_in_if v x p false kept xs e h f (inr i) = f i

filter_in : (v : ℕ) (p : ℕ → Bool) (xs : List ℕ) → p v ≡ true → In v xs → In v (filter p xs)
filter_in v p [] h i = i
filter_in v p (x ∷ xs) h i = filter_in_if v x p (p x) (filter p xs) xs refl h (filter_in v p xs h) i

in_front : (v : ℕ) (xs ys : List ℕ) → In v xs → In v (xs ++ ys)
in_front v [] ys i = absurd i
in_front v (x ∷ xs) ys (inl same) = inl same
in_front v (x ∷ xs) ys (inr i) = inr (in_front v xs ys i)

-- the least of a list is in it, and none in it is less

lesser_if : (x y : ℕ) (b : Bool) → ((if b then x else y) ≡ x) ⊎ (Some y ≡ Some (if b then x else y))
lesser_if x y true = inl refl
lesser_if x y false = inr refl

lesser_is : (x : ℕ) (o : Option ℕ) → (lesser x o ≡ x) ⊎ (o ≡ Some (lesser x o))
lesser_is x None = inl refl
lesser_is x (Some y) = lesser_if x y (nat_le x y)

same_value : {v w : ℕ} → ◌≡◌ {A = Option ℕ} (Some v) (Some w) → v ≡ w
same_value h = cc

least_in_case : (x : ℕ) (xs : List ℕ) (v : ℕ) → Some (lesser x (least xs)) ≡ Some v → (least xs ≡ Some v → In v xs)
    → (lesser x (least xs) ≡ x) ⊎ (least xs ≡ Some (lesser x (least xs))) → In v (x ∷ xs)
least_in_case x xs v h f (inl same) = inl (sym (same_value h) ∙ same)
least_in_case x xs v h f (inr from) = inr (f (from ∙ h))

least_in : (xs : List ℕ) (v : ℕ) → least xs ≡ Some v → In v xs
least_in [] v h = none_is_some refl h
least_in (x ∷ xs) v h = least_in_case x xs v h (least_in xs v) (lesser_is x (least xs))

least_some : (xs : List ℕ) (v : ℕ) → In v xs → (y : ℕ) × (least xs ≡ Some y)
least_some [] v i = absurd i
least_some (x ∷ xs) v i = (lesser x (least xs), refl)

lesser_bounds : (x y : ℕ) (b : Bool) → ((b ≡ true) × (x ≤ y)) ⊎ ((b ≡ false) × (y < x)) → ((if b then x else y) ≤ x) × ((if b then x else y) ≤ y)
lesser_bounds x y true (inl h) = (omega arith, h.1)
lesser_bounds x y true (inr h) = clash refl h.0
lesser_bounds x y false (inl h) = clash h.0 refl
lesser_bounds x y false (inr h) = (omega (arith, h.1), omega arith)

lesser_first : (x : ℕ) (o : Option ℕ) → lesser x o ≤ x
lesser_first x None = omega arith
lesser_first x (Some y) = (lesser_bounds x y (nat_le x y) (leb_tells x y)).0

lesser_next : (x y : ℕ) → lesser x (Some y) ≤ y
lesser_next x y = (lesser_bounds x y (nat_le x y) (leb_tells x y)).1

least_case : (x : ℕ) (o : Option ℕ) (y w : ℕ) → o ≡ Some y → y ≤ w → lesser x o ≤ w
least_case x o y w h less = subst (λ (z : Option ℕ). lesser x z ≤ w) (sym h) (omega (arith, less, lesser_next x y))

least_first : (xs : List ℕ) (v w : ℕ) → least xs ≡ Some v → In w xs → v ≤ w
least_first [] v w h i = absurd i
least_first (x ∷ xs) v w h (inl same) = subst (λ (z : ℕ). z ≤ w) (same_value h) (subst (λ (z : ℕ). lesser x (least xs) ≤ z) (sym same) (lesser_first x (least xs)))
least_first (x ∷ xs) v w h (inr i) =
    let y = least_some xs w i in
    subst (λ (z : ℕ). z ≤ w) (same_value h) (least_case x (least xs) y.0 w y.1 (least_first xs y.0 w y.1 i))

-- variables that are split at a beginning

found_if : (v x : ℕ) (here : Symbol) (b : Bool) (later : Option Symbol) (xs : List ℕ) (s : Symbol) → (b ≡ true → v ≡ x) → (later ≡ Some s → In v xs)
    → (if b then Some here else later) ≡ Some s → In v (x ∷ xs)
found_if v x here true later xs s same f h = inl (same refl)
found_if v x here false later xs s same f h = inr (f h)

no_symbol : {A : Type 0} {s : Symbol} → ◌≡◌ {A = Option Symbol} None (Some s) → A
no_symbol h = absurd (cc)

found_in : (v : ℕ) (splits : List (ℕ × Symbol)) (s : Symbol) → symbol_in splits v ≡ Some s → In v (flat_map (λ one. one.0 ∷ []) splits)
found_in v [] s h = no_symbol h
found_in v (first ∷ rest) s h =
    found_if v first.0 first.1 (first.0 == v) (symbol_in rest v) (flat_map (λ one. one.0 ∷ []) rest) s (λ e. sym ((Decides-eqb first.0 v).0 e)) (found_in v rest s) h

-- a disjunction can be a switch on a variable exactly where it is a candidate

and_both : (a b : Bool) → (a && b) ≡ true → (a ≡ true) × (b ≡ true)
and_both true b h = (refl, h)
and_both false b h = clash h refl

and_true : (a b : Bool) → a ≡ true → b ≡ true → (a && b) ≡ true
and_true true b h k = k
and_true false b h k = h

not_true : (a : Bool) → not a ≡ true → a ≡ false
not_true true h = clash h refl
not_true false h = refl

symbol_there : (o : Option Symbol) → is_there o ≡ true → (s : Symbol) × (o ≡ Some s)
symbol_there None h = clash h refl
symbol_there (Some s) h = (s, refl)

there_symbol : (o : Option Symbol) (s : Symbol) → o ≡ Some s → is_there o ≡ true
there_symbol o s h = ap is_there h

all_there : (v : ℕ) (ds : List Node) → list_all (λ d. is_there (symbol_at v d)) ds ≡ true → AllByRecursion (λ d. (s : Symbol) × (symbol_at v d ≡ Some s)) ds
all_there v [] h = tt
all_there v (d ∷ ds) h =
    let both = and_both (is_there (symbol_at v d)) (list_all (λ e. is_there (symbol_at v e)) ds) h in
    (symbol_there (symbol_at v d) both.0, all_there v ds both.1)

there_all : (v : ℕ) (ds : List Node) → AllByRecursion (λ d. (s : Symbol) × (symbol_at v d ≡ Some s)) ds → list_all (λ d. is_there (symbol_at v d)) ds ≡ true
there_all v [] h = refl
there_all v (d ∷ ds) h = and_true (is_there (symbol_at v d)) (list_all (λ e. is_there (symbol_at v e)) ds) (there_symbol (symbol_at v d) h.0.0 h.0.1) (there_all v ds h.1)

module _ (declared : List TypeDef) (types : ℕ → TypeExpr) (bound : Bound) (used : List ℕ) where
  can_out : (ds : List Node) (v : ℕ) → In v (candidates declared types bound used ds) → CanSwitch bound used ds v
  can_out ds v i =
      let kept = filter_out v (λ w. not (among used w) && can_switch declared types bound ds w) (split_variables ds) i in
      let parts = and_both (not (among used v)) (can_switch declared types bound ds v) kept.0 in
      let inner = and_both (bound v) (list_all (λ d. is_there (symbol_at v d)) ds) parts.1 in
      record { is_bound = inner.0; unused = not_true (among used v) parts.0; symbols = all_there v ds inner.1 }

  can_in : (d : Node) (ds : List Node) (v : ℕ) → CanSwitch bound used (d ∷ ds) v → In v (candidates declared types bound used (d ∷ ds))
  can_in d ds v can =
      filter_in v (λ w. not (among used w) && can_switch declared types bound (d ∷ ds) w) (split_variables (d ∷ ds))
      (and_true (not (among used v)) (can_switch declared types bound (d ∷ ds) v) (ap not can.unused)
      (and_true (bound v) (list_all (λ e. is_there (symbol_at v e)) (d ∷ ds)) can.is_bound (there_all v (d ∷ ds) can.symbols)))
      (in_front v (flat_map (λ one. one.0 ∷ []) (beginning d).splits) (split_variables ds) (found_in v (beginning d).splits can.symbols.0.0 can.symbols.0.1))

  picked : (one other : Option ℕ) (v : ℕ) → or_else one other ≡ Some v → (one ≡ Some v) ⊎ ((one ≡ None) × (other ≡ Some v))
  picked None other v h = inr (refl, h)
  picked (Some w) other v h = inl h

  chosen_case : (d : Node) (ds : List Node) (v : ℕ)
      → let all = candidates declared types bound used (d ∷ ds) in let whole = filter (λ w. is_complete declared types (d ∷ ds) w) all in
      (least whole ≡ Some v) ⊎ ((least whole ≡ None) × (least all ≡ Some v)) → IsChoice declared types bound used (d ∷ ds) v
  chosen_case d ds v (inl h) =
      let test = λ (w : ℕ). is_complete declared types (d ∷ ds) w in
      let all = candidates declared types bound used (d ∷ ds) in
      let kept = filter_out v test all (least_in (filter test all) v h) in
      record {
        can = can_out (d ∷ ds) v kept.1;
        complete = λ w can is. kept.0;
        first = λ w can same. least_first (filter test all) v w h (filter_in w test all (same ∙ kept.0) (can_in d ds w can));
      }
  chosen_case d ds v (inr h) =
      let test = λ (w : ℕ). is_complete declared types (d ∷ ds) w in
      let all = candidates declared types bound used (d ∷ ds) in
      record {
        can = can_out (d ∷ ds) v (least_in all v h.1);
        complete = λ w can is. none_is_some h.0 (least_some (filter test all) w (filter_in w test all is (can_in d ds w can))).1;
        first = λ w can same. least_first all v w h.1 (can_in d ds w can);
      }

  pub chosen : (ds : List Node) (v : ℕ) → choice declared types bound used ds ≡ Some v → IsChoice declared types bound used ds v
  chosen [] v h = none_is_some refl h
  chosen (d ∷ ds) v h =
      let all = candidates declared types bound used (d ∷ ds) in
      chosen_case d ds v (picked (least (filter (λ w. is_complete declared types (d ∷ ds) w) all)) (least all) v h)

  not_none : (one other : Option ℕ) (y : ℕ) → other ≡ Some y → or_else one other ≡ None → ⊥
  not_none None other y h none = none_is_some none h
  not_none (Some w) other y h none = none_is_some none refl

  pub none_chosen : (d : Node) (ds : List Node) (v : ℕ) → choice declared types bound used (d ∷ ds) ≡ None → CanSwitch bound used (d ∷ ds) v → ⊥
  none_chosen d ds v h can =
      let all = candidates declared types bound used (d ∷ ds) in
      let some = least_some all v (can_in d ds v can) in
      not_none (least (filter (λ w. is_complete declared types (d ∷ ds) w) all)) (least all) some.0 some.1 h
