-- The variable that is chosen by symbols is the one that is chosen by types.
use Rattle.std.specs.Prelude.{◌≡◌, ◌≤◌, ◌<◌, ℕ, Bool, true, false, not, ◌==◌, ◌||◌, ◌&&◌, nat_le, List, [], ◌∷◌, ◌++◌, length, Option, Some, None, if◌then◌else◌, refl}
use Rattle.std.specs.List.{filter, flat_map, list_all, AllByRecursion}
use Rattle.std.proofs.Common.{◌∙◌, ◌⊎◌, inl, inr, ap, sym, subst, arith}
use Rattle.std.proofs.lemmas.Bool.Decides.{Decides-eqb, nat_tests, leb_tells}
use Rattle.merc_tree.specs.Types.{TypeExpr}
use Rattle.merc_tree.specs.declared.declarations.TypeDef.{TypeDef}
use Rattle.merc_goal_tree.specs.declared.goal.Symbol.{Symbol}
use Rattle.merc_graded_tree.specs.declared.basic.BasicGoal.{BasicGoal}
use Rattle.merc_graded_tree.specs.declared.basic.BasicGoal.TheVariants.{True, Fail, Assign, Test, Build, Split, Arithmetic, Compare, Raise, Call, Wait, Signal}
use Rattle.merc_graded_tree.specs.declared.entries.Running.TheVariants.{Sequential, Parallel}
use Rattle.merc_graded_tree.specs.Nodes.{Node, node, Goal, Basic, Conjunction, Disjunction, Switch, Conditional, Negation, Quantified, Nodes, no_nodes, more_nodes}
use Rattle.merc_order.specs.Bound.{Bound, among}
use Rattle.merc_grading.specs.Known.{symbols_of_type, are_complete}
use Rattle.merc_grading.specs.Fitting.{FitsSymbol, Fits, FitsGoal, FitsAll, FitsBasic}
use Rattle.merc_grading.specs.Switches.{beginning, goal_beginning, all_beginning, basic_beginning, symbol_in, symbol_at, is_there, listed, split_variables, lesser, least, or_else, is_complete, choice}
use Rattle.merc_switch_choice.specs.Choosing.{symbols_in, fellows_of, is_covered, is_open, opened_in, chosen}
use Rattle.merc_switch_choice.proofs.Members.{among-append, or_false, or_true}
use Rattle.merc_switch_choice.proofs.SplitVariables.{followed_either, no_symbol}
use Rattle.merc_switch_choice.proofs.Tests.{and_first, and_second, clash, eq_turned}

-- members of lists

eq_self : (n : ℕ) → (n == n) ≡ true
eq_self n = grind (arith, nat_tests)

among_first : (x : ℕ) (xs : List ℕ) → among (x ∷ xs) x ≡ true
among_first x xs = ap (λ b. b || among xs x) (eq_self x)

-- the least of a list

lesser_if : (x y : ℕ) (b : Bool) → ((b ≡ true) × (x ≤ y)) ⊎ ((b ≡ false) × (y < x)) → ((if b then x else y) ≤ x) × ((if b then x else y) ≤ y)
lesser_if x y true (inl h) = (omega arith, h.1)
lesser_if x y true (inr h) = clash refl h.0
lesser_if x y false (inl h) = clash h.0 refl
lesser_if x y false (inr h) = (omega (arith, h.1), omega arith)

lesser_bounds : (x y : ℕ) → (lesser x (Some y) ≤ x) × (lesser x (Some y) ≤ y)
lesser_bounds x y = lesser_if x y (nat_le x y) (leb_tells x y)

-- the least of a list that has a first
abbrev least_of : ℕ → List ℕ → ℕ
least_of x xs = lesser x (least xs)

least_first : (x : ℕ) (xs : List ℕ) → least_of x xs ≤ x
least_first x [] = omega arith
least_first x (y ∷ ys) = (lesser_bounds x (least_of y ys)).0

either : {A : Type 0} (a b : Bool) → (a || b) ≡ true → (a ≡ true → A) → (b ≡ true → A) → A
either true b h f g = f refl
either false b h f g = g h

least_bound : (x : ℕ) (xs : List ℕ) (v : ℕ) → among (x ∷ xs) v ≡ true → least_of x xs ≤ v
least_bound x [] v h = let same : v ≡ x = (Decides-eqb v x).0 (sym (or_false (v == x)) ∙ h) in omega arith
least_bound x (y ∷ ys) v h = either {A = least_of x (y ∷ ys) ≤ v} (v == x) (among (y ∷ ys) v) h
    (λ e. let same : v ≡ x = (Decides-eqb v x).0 e in let k = least_first x (y ∷ ys) in omega arith)
    (λ e. let k = least_bound y ys v e in let j = (lesser_bounds x (least_of y ys)).1 in omega arith)

least_in_if : (x y : ℕ) (ys : List ℕ) (b : Bool) → among ys y ≡ true → among (x ∷ ys) (if b then x else y) ≡ true
least_in_if x y ys true h = among_first x ys
least_in_if x y ys false h = ap (λ b. (y == x) || b) h ∙ or_true (y == x)

least_in : (x : ℕ) (xs : List ℕ) → among (x ∷ xs) (least_of x xs) ≡ true
least_in x [] = among_first x []
least_in x (y ∷ ys) = least_in_if x (least_of y ys) (y ∷ ys) (nat_le x (least_of y ys)) (least_in y ys)

pub least_is : (xs : List ℕ) (v : ℕ) → among xs v ≡ true → ((w : ℕ) → among xs w ≡ true → v ≤ w) → least xs ≡ Some v
least_is [] v there below = clash there refl
least_is (x ∷ xs) v there below =
    let one = least_bound x xs v there in
    let other = below (least_of x xs) (least_in x xs) in
    let same : least_of x xs ≡ v = omega (arith, one, other) in
    ap (λ n. Some n) same

pub least_none : (xs : List ℕ) → ((w : ℕ) → among xs w ≡ false) → least xs ≡ None
least_none [] none = refl
least_none (x ∷ xs) none = clash (among_first x xs) (none x)

-- a filter keeps the members that pass it

filtered_if : (p : ℕ → Bool) (x v : ℕ) (b c others : Bool) → p x ≡ b → (v == x) ≡ c → (if b then (c || (p v && others)) else (p v && others)) ≡ (p v && (c || others))
filtered_if p x v true true others e k = sym (ap (λ b. b && true) (ap p ((Decides-eqb v x).0 k) ∙ e))
filtered_if p x v true false others e k = refl
filtered_if p x v false true others e k = let none : p v ≡ false = ap p ((Decides-eqb v x).0 k) ∙ e in ap (λ b. b && others) none ∙ sym (ap (λ b. b && true) none)
filtered_if p x v false false others e k = refl

among_if : (b : Bool) (x : ℕ) (xs : List ℕ) (v : ℕ) → among (if b then x ∷ xs else xs) v ≡ (if b then ((v == x) || among xs v) else among xs v)
among_if true x xs v = refl
among_if false x xs v = refl

pub among-filter : (p : ℕ → Bool) (xs : List ℕ) (v : ℕ) → among (filter p xs) v ≡ (p v && among xs v)
among-filter p [] v = sym (and_false (p v))
  where
    and_false : (b : Bool) → (b && false) ≡ false
    and_false true = refl
    and_false false = refl
among-filter p (x ∷ xs) v =
    among_if (p x) x (filter p xs) v
    ∙ ap (λ b. if p x then ((v == x) || b) else b) (among-filter p xs v)
    ∙ filtered_if p x v (p x) (v == x) (among xs v) refl refl

-- the variables that are split

there_if : (b : Bool) (s : Symbol) (o : Option Symbol) (c : Bool) → is_there o ≡ c → is_there (if b then Some s else o) ≡ (b || c)
there_if true s o c h = refl
there_if false s o c h = h

split_there : (splits : List (ℕ × Symbol)) (v : ℕ) → is_there (symbol_in splits v) ≡ among (flat_map (λ one. one.0 ∷ []) splits) v
split_there [] v = refl
split_there (first ∷ rest) v =
    there_if (first.0 == v) first.1 (symbol_in rest v) (among (flat_map (λ one. one.0 ∷ []) rest) v) (split_there rest v)
    ∙ ap (λ b. b || among (flat_map (λ one. one.0 ∷ []) rest) v) (eq_turned first.0 v)

open_first : (bound : Bound) (used : List ℕ) (first : Node) (rest : List Node) (v : ℕ) → is_open bound used (first ∷ rest) v ≡ true → is_there (symbol_at v first) ≡ true
open_first bound used first rest v h =
    and_first (is_there (symbol_at v first)) (list_all (λ d. is_there (symbol_at v d)) rest)
    (and_second (bound v) (list_all (λ d. is_there (symbol_at v d)) (first ∷ rest)) (and_second (not (among used v)) (bound v && list_all (λ d. is_there (symbol_at v d)) (first ∷ rest)) h))

split_first : (first : Node) (rest : List Node) (v : ℕ) → is_there (symbol_at v first) ≡ true → among (split_variables (first ∷ rest)) v ≡ true
split_first first rest v h =
    among-append (flat_map (λ one. one.0 ∷ []) (beginning first).splits) (split_variables rest) v
    ∙ ap (λ b. b || among (split_variables rest) v) (sym (split_there (beginning first).splits v) ∙ h)

and_cong : (a b c : Bool) → (a ≡ true → b ≡ c) → (a && b) ≡ (a && c)
and_cong true b c h = h refl
and_cong false b c h = refl

open_all : (bound : Bound) (used : List ℕ) (disjuncts : List Node) (v : ℕ) → is_open bound used disjuncts v ≡ true → list_all (λ d. is_there (symbol_at v d)) disjuncts ≡ true
open_all bound used disjuncts v h =
    let all = list_all (λ d. is_there (symbol_at v d)) disjuncts in
    and_second (bound v) all (and_second (not (among used v)) (bound v && all) h)

-- It is enough to go through the variables of one disjunct.
pub opened_one : (bound : Bound) (used : List ℕ) (disjuncts : List Node) (one : Node) (variables : List ℕ) → ((test : Node → Bool) → list_all test disjuncts ≡ true → test one ≡ true)
    → ((v : ℕ) → among variables v ≡ is_there (symbol_at v one)) → (v : ℕ) → (is_open bound used disjuncts v && among variables v) ≡ among (opened_in bound used disjuncts) v
opened_one bound used [] one variables member are v = clash (member (λ d. false) refl) refl
opened_one bound used (first ∷ rest) one variables member are v =
    and_cong (is_open bound used (first ∷ rest) v) (among variables v) (among (split_variables (first ∷ rest)) v)
    (λ h. are v ∙ member (λ d. is_there (symbol_at v d)) (open_all bound used (first ∷ rest) v h) ∙ sym (split_first first rest v (open_first bound used first rest v h)))
    ∙ sym (among-filter (λ w. is_open bound used (first ∷ rest) w) (split_variables (first ∷ rest)) v)

-- the symbols of splits fit the types

fits_basic_if : (declared : List TypeDef) (types : ℕ → TypeExpr) (whole v : ℕ) (here s : Symbol) (b : Bool) → (whole == v) ≡ b → FitsSymbol declared types whole here
    → (if b then Some here else None) ≡ Some s → FitsSymbol declared types v s
fits_basic_if declared types whole v here s true same fits h = let e : whole ≡ v = (Decides-eqb whole v).0 same in let k : here ≡ s = cc in subst (λ x. FitsSymbol declared types x s) e (subst (λ x. FitsSymbol declared types whole x) k fits)
fits_basic_if declared types whole v here s false same fits h = absurd (cc)

sum : {A B C : Type 0} → A ⊎ B → (A → C) → (B → C) → C
sum (inl a) f g = f a
sum (inr b) f g = g b

module _ (declared : List TypeDef) (types : ℕ → TypeExpr) where
  fits_basic : (goal : BasicGoal) (v : ℕ) (s : Symbol) → FitsBasic declared types goal → symbol_in (basic_beginning goal).splits v ≡ Some s → FitsSymbol declared types v s
  fits_basic True v s fits h = no_symbol h
  fits_basic Fail v s fits h = no_symbol h
  fits_basic (Assign to from) v s fits h = no_symbol h
  fits_basic (Test one other) v s fits h = no_symbol h
  fits_basic (Build whole here arguments) v s fits h = no_symbol h
  fits_basic (Split whole here arguments) v s fits h = fits_basic_if declared types whole v here s (whole == v) refl fits h
  fits_basic (Arithmetic operation result left right) v s fits h = no_symbol h
  fits_basic (Compare comparison left right) v s fits h = no_symbol h
  fits_basic (Raise text) v s fits h = no_symbol h
  fits_basic (Call procedure arguments) v s fits h = no_symbol h
  fits_basic (Wait one conjunct) v s fits h = no_symbol h
  fits_basic (Signal one conjunct) v s fits h = no_symbol h

  mutual
    fits_split : (whole : Node) (v : ℕ) (s : Symbol) → Fits declared types whole → symbol_at v whole ≡ Some s → FitsSymbol declared types v s
    fits_split (node goal outputs category span) v s fits h = fits_goal goal v s fits h

    fits_goal : (goal : Goal) (v : ℕ) (s : Symbol) → FitsGoal declared types goal → symbol_in (goal_beginning goal).splits v ≡ Some s → FitsSymbol declared types v s
    fits_goal (Basic goal) v s fits h = fits_basic goal v s fits h
    fits_goal (Conjunction Sequential goals) v s fits h = fits_all goals v s fits h
    fits_goal (Conjunction (Parallel site) goals) v s fits h = no_symbol h
    fits_goal (Disjunction goals) v s fits h = no_symbol h
    fits_goal (Switch whole arms) v s fits h = no_symbol h
    fits_goal (Conditional condition then_part else_part) v s fits h = no_symbol h
    fits_goal (Negation goal) v s fits h = no_symbol h
    fits_goal (Quantified own goal) v s fits h = no_symbol h

    fits_all : (goals : Nodes) (v : ℕ) (s : Symbol) → FitsAll declared types goals → symbol_in (all_beginning goals).splits v ≡ Some s → FitsSymbol declared types v s
    fits_all no_nodes v s fits h = no_symbol h
    fits_all (more_nodes first rest) v s fits h =
        sum (followed_either (beginning first) (all_beginning rest) v s h) (λ k. fits_split first v s fits.0 k) (λ k. fits_all rest v s fits.1 k)

  complete_if : (o : Option Symbol) (v : ℕ) (others : List Symbol) → is_there o ≡ true → ((s : Symbol) → o ≡ Some s → FitsSymbol declared types v s)
      → are_complete (symbols_of_type declared (types v)) (listed o ++ others) ≡ are_complete (fellows_of declared (listed o ++ others)) (listed o ++ others)
  complete_if None v others there fits = clash there refl
  complete_if (Some s) v others there fits = ap (λ all. are_complete all (s ∷ others)) (fits s refl)

  complete_is : (bound : Bound) (used : List ℕ) (disjuncts : List Node) (v : ℕ) → AllByRecursion (Fits declared types) disjuncts → 0 < length disjuncts → is_open bound used disjuncts v ≡ true
      → is_complete declared types disjuncts v ≡ is_covered declared disjuncts v
  complete_is bound used [] v fits some h = absurd (omega (arith, some))
  complete_is bound used (first ∷ rest) v fits some h =
      complete_if (symbol_at v first) v (symbols_in rest v) (open_first bound used first rest v h) (λ s k. fits_split first v s fits.0 k)

  filter_agrees : (p q r : ℕ → Bool) (xs : List ℕ) → ((v : ℕ) → r v ≡ true → p v ≡ q v) → filter p (filter r xs) ≡ filter q (filter r xs)
  filter_agrees p q r [] same = refl
  filter_agrees p q r (x ∷ xs) same = agrees_if (r x) refl (filter_agrees p q r xs same)
    where
      agrees_if : (b : Bool) → r x ≡ b → filter p (filter r xs) ≡ filter q (filter r xs)
          → filter p (if b then x ∷ filter r xs else filter r xs) ≡ filter q (if b then x ∷ filter r xs else filter r xs)
      agrees_if true e h = ap (λ b. if b then x ∷ filter p (filter r xs) else filter p (filter r xs)) (same x e) ∙ ap (λ l. if q x then x ∷ l else l) h
      agrees_if false e h = h

  -- Where the symbols fit the types, both choices are the same.
  pub choice_is : (bound : Bound) (used : List ℕ) (disjuncts : List Node) → AllByRecursion (Fits declared types) disjuncts
      → choice declared types bound used disjuncts ≡ chosen declared bound used disjuncts
  choice_is bound used [] fits = refl
  choice_is bound used (first ∷ rest) fits =
      let opened = filter (λ v. is_open bound used (first ∷ rest) v) (split_variables (first ∷ rest)) in
      ap (λ l. or_else (least l) (least opened))
      (filter_agrees (λ v. is_complete declared types (first ∷ rest) v) (λ v. is_covered declared (first ∷ rest) v) (λ v. is_open bound used (first ∷ rest) v) (split_variables (first ∷ rest))
      (λ v h. complete_is bound used (first ∷ rest) v fits (omega arith) h))

-- What is chosen each disjunct splits.

least_member : (xs : List ℕ) (v : ℕ) → least xs ≡ Some v → among xs v ≡ true
least_member [] v h = absurd (cc)
least_member (x ∷ xs) v h = let same : least_of x xs ≡ v = cc in subst (λ n. among (x ∷ xs) n ≡ true) same (least_in x xs)

either_of : {A : Type 0} (one other : Option ℕ) (v : ℕ) → or_else one other ≡ Some v → (one ≡ Some v → A) → (other ≡ Some v → A) → A
either_of None other v h f g = g h
either_of (Some n) other v h f g = f h

pub chosen_split : (declared : List TypeDef) (bound : Bound) (used : List ℕ) (disjuncts : List Node) (v : ℕ) → Some v ≡ chosen declared bound used disjuncts
    → list_all (λ disjunct. is_there (symbol_at v disjunct)) disjuncts ≡ true
chosen_split declared bound used disjuncts v h =
    let covers : ℕ → Bool = λ w. is_covered declared disjuncts w in
    let opened = opened_in bound used disjuncts in
    let all = list_all (λ disjunct. is_there (symbol_at v disjunct)) disjuncts in
    let there : among opened v ≡ true =
    either_of (least (filter covers opened)) (least opened) v (sym h)
    (λ k. and_second (covers v) (among opened v) (sym (among-filter covers opened v) ∙ least_member (filter covers opened) v k)) (λ k. least_member opened v k) in
    let is : is_open bound used disjuncts v ≡ true =
    and_first (is_open bound used disjuncts v) (among (split_variables disjuncts) v) (sym (among-filter (λ x. is_open bound used disjuncts x) (split_variables disjuncts) v) ∙ there) in
    and_second (bound v) all (and_second (not (among used v)) (bound v && all) is)
