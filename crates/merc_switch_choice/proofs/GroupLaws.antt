-- The groups of disjuncts hold each disjunct once.
use Rattle.std.specs.Prelude.{◌≡◌, ◌≤◌, ◌<◌, ℕ, ◌+◌, Bool, true, false, not, ◌||◌, List, [], ◌∷◌, length, Option, Some, None, if◌then◌else◌, refl}
use Rattle.std.specs.List.{filter, AllByRecursion}
use Rattle.std.proofs.Common.{◌∙◌, ap, sym, arith}
use Rattle.merc_goal_tree.specs.declared.goal.Symbol.{Symbol}
use Rattle.merc_graded_tree.specs.Nodes.{Node, nodes_of}
use Rattle.merc_graded_tree.specs.Variables.{in_node, in_nodes}
use Rattle.merc_grading.specs.Known.{same_symbol}
use Rattle.merc_grading.specs.Switches.{Group, symbol_at, of_symbol, without_symbol, with_disjunct, grouped}
use Rattle.merc_switch_choice.proofs.Members.{or_assoc}
use Rattle.merc_switch_choice.proofs.SameSymbols.{symbols_equal}

-- two filters, one after the other

module _ (p q : Group → Bool) where
  both_if : (a b : Bool) (x : Group) (xs ys : List Group) → filter p xs ≡ filter q ys → p x ≡ a → q x ≡ b
      → filter p (if b then x ∷ xs else xs) ≡ filter q (if a then x ∷ ys else ys)
  both_if true true x xs ys h e k = ap (λ c. if c then x ∷ filter p xs else filter p xs) e ∙ ap (λ l. x ∷ l) h ∙ sym (ap (λ c. if c then x ∷ filter q ys else filter q ys) k)
  both_if true false x xs ys h e k = h ∙ sym (ap (λ c. if c then x ∷ filter q ys else filter q ys) k)
  both_if false true x xs ys h e k = ap (λ c. if c then x ∷ filter p xs else filter p xs) e ∙ h
  both_if false false x xs ys h e k = h

  filters_turned : (xs : List Group) → filter p (filter q xs) ≡ filter q (filter p xs)
  filters_turned [] = refl
  filters_turned (x ∷ xs) = both_if (p x) (q x) x (filter q xs) (filter p xs) (filters_turned xs) refl refl

module _ (p : Group → Bool) where
  twice_if : (b : Bool) (x : Group) (xs : List Group) → p x ≡ b → filter p (filter p xs) ≡ filter p xs → filter p (if b then x ∷ filter p xs else filter p xs) ≡ (if b then x ∷ filter p xs else filter p xs)
  twice_if true x xs e h = ap (λ c. if c then x ∷ filter p (filter p xs) else filter p (filter p xs)) e ∙ ap (λ l. x ∷ l) h
  twice_if false x xs e h = h

  filter_twice : (xs : List Group) → filter p (filter p xs) ≡ filter p xs
  filter_twice [] = refl
  filter_twice (x ∷ xs) = twice_if (p x) x xs refl (filter_twice xs)

-- groups of which no two have one symbol
abbrev pub AreApart : List Group → Type 0
AreApart [] = Unit {0}
AreApart (group ∷ groups) = (without_symbol group.0 groups ≡ groups) × AreApart groups

apart_if : (b : Bool) (symbol : Symbol) (group : Group) (groups : List Group) → without_symbol group.0 groups ≡ groups → AreApart (without_symbol symbol groups)
    → AreApart (if b then group ∷ without_symbol symbol groups else without_symbol symbol groups)
apart_if true symbol group groups h apart =
    (filters_turned (λ other. not (same_symbol group.0 other.0)) (λ other. not (same_symbol symbol other.0)) groups ∙ ap (without_symbol symbol) h, apart)
apart_if false symbol group groups h apart = apart

apart_without : (symbol : Symbol) (groups : List Group) → AreApart groups → AreApart (without_symbol symbol groups)
apart_without symbol [] apart = tt
apart_without symbol (group ∷ groups) (one, others) = apart_if (not (same_symbol symbol group.0)) symbol group groups one (apart_without symbol groups others)

apart_with : (symbol : Option Symbol) (first : Node) (groups : List Group) → AreApart groups → AreApart (with_disjunct symbol first groups)
apart_with None first groups apart = apart
apart_with (Some symbol) first groups apart = (filter_twice (λ group. not (same_symbol symbol group.0)) groups, apart_without symbol groups apart)

pub grouped_apart : (variable : ℕ) (disjuncts : List Node) → AreApart (grouped variable disjuncts)
grouped_apart variable [] = tt
grouped_apart variable (first ∷ rest) = apart_with (symbol_at variable first) first (grouped variable rest) (grouped_apart variable rest)

-- what occurs in groups

abbrev pub in_groups : List Group → ℕ → Bool
in_groups [] variable = false
in_groups (group ∷ groups) variable = in_nodes (nodes_of group.1) variable || in_groups groups variable

turned : (a b c : Bool) → (a || (b || c)) ≡ (b || (a || c))
turned true true c = refl
turned true false c = refl
turned false b c = refl

pick_if : (b : Bool) (symbol : Symbol) (group : Group) (groups : List Group) (variable : ℕ) → same_symbol symbol group.0 ≡ b → without_symbol group.0 groups ≡ groups
    → in_groups groups variable ≡ (in_nodes (nodes_of (of_symbol symbol groups)) variable || in_groups (without_symbol symbol groups) variable)
    → (in_nodes (nodes_of group.1) variable || in_groups groups variable)
    ≡ (in_nodes (nodes_of (if b then group.1 else of_symbol symbol groups)) variable || in_groups (if not b then group ∷ without_symbol symbol groups else without_symbol symbol groups) variable)
pick_if true symbol group groups variable same apart others =
    ap (λ l. in_nodes (nodes_of group.1) variable || in_groups l variable) (sym apart ∙ ap (λ s. without_symbol s groups) (sym (symbols_equal symbol group.0 same)))
pick_if false symbol group groups variable same apart others =
    ap (λ b. in_nodes (nodes_of group.1) variable || b) others
    ∙ turned (in_nodes (nodes_of group.1) variable) (in_nodes (nodes_of (of_symbol symbol groups)) variable) (in_groups (without_symbol symbol groups) variable)

picked : (symbol : Symbol) (groups : List Group) (variable : ℕ) → AreApart groups
    → in_groups groups variable ≡ (in_nodes (nodes_of (of_symbol symbol groups)) variable || in_groups (without_symbol symbol groups) variable)
picked symbol [] variable apart = refl
picked symbol (group ∷ groups) variable (one, others) = pick_if (same_symbol symbol group.0) symbol group groups variable refl one (picked symbol groups variable others)

in_with : (variable other : ℕ) (symbol : Option Symbol) (first : Node) (groups : List Group) → (s : Symbol) × (symbol ≡ Some s) → AreApart groups
    → in_groups (with_disjunct symbol first groups) other ≡ (in_node first other || in_groups groups other)
in_with variable other None first groups there apart = let is = there.1 in absurd (cc)
in_with variable other (Some symbol) first groups there apart =
    or_assoc (in_node first other) (in_nodes (nodes_of (of_symbol symbol groups)) other) (in_groups (without_symbol symbol groups) other)
    ∙ ap (λ b. in_node first other || b) (sym (picked symbol groups other apart))

-- Where each disjunct has a symbol, what occurs in the groups is what occurs in the disjuncts.
pub in_grouped : (variable : ℕ) (disjuncts : List Node) (other : ℕ) → AllByRecursion (λ disjunct. (symbol : Symbol) × (symbol_at variable disjunct ≡ Some symbol)) disjuncts
    → in_groups (grouped variable disjuncts) other ≡ in_nodes (nodes_of disjuncts) other
in_grouped variable [] other there = refl
in_grouped variable (first ∷ rest) other (one, others) =
    in_with variable other (symbol_at variable first) first (grouped variable rest) one (grouped_apart variable rest)
    ∙ ap (λ b. in_node first other || b) (in_grouped variable rest other others)

-- no group is empty

abbrev pub AreFilled : List Group → Type 0
AreFilled groups = AllByRecursion (λ (group : Group). 0 < length group.1) groups

filled_if : (b : Bool) (group : Group) (groups : List Group) → 0 < length group.1 → AreFilled groups → AreFilled (if b then group ∷ groups else groups)
filled_if true group groups one others = (one, others)
filled_if false group groups one others = others

filled_without : (symbol : Symbol) (groups : List Group) → AreFilled groups → AreFilled (without_symbol symbol groups)
filled_without symbol [] filled = tt
filled_without symbol (group ∷ groups) (one, others) = filled_if (not (same_symbol symbol group.0)) group (without_symbol symbol groups) one (filled_without symbol groups others)

filled_with : (symbol : Option Symbol) (first : Node) (groups : List Group) → AreFilled groups → AreFilled (with_disjunct symbol first groups)
filled_with None first groups filled = filled
filled_with (Some symbol) first groups filled = (omega arith, filled_without symbol groups filled)

pub grouped_filled : (variable : ℕ) (disjuncts : List Node) → AreFilled (grouped variable disjuncts)
grouped_filled variable [] = tt
grouped_filled variable (first ∷ rest) = filled_with (symbol_at variable first) first (grouped variable rest) (grouped_filled variable rest)

-- What holds of each disjunct holds of each in the groups.
module _ (P : Node → Type 0) where
  abbrev pub AllIn : List Group → Type 0
  AllIn groups = AllByRecursion (λ (group : Group). AllByRecursion P group.1) groups

  of_if : (b : Bool) (one other : List Node) → AllByRecursion P one → AllByRecursion P other → AllByRecursion P (if b then one else other)
  of_if true one other h k = h
  of_if false one other h k = k

  of_all : (symbol : Symbol) (groups : List Group) → AllIn groups → AllByRecursion P (of_symbol symbol groups)
  of_all symbol [] all = tt
  of_all symbol (group ∷ groups) (one, others) = of_if (same_symbol symbol group.0) group.1 (of_symbol symbol groups) one (of_all symbol groups others)

  all_if : (b : Bool) (group : Group) (groups : List Group) → AllByRecursion P group.1 → AllIn groups → AllIn (if b then group ∷ groups else groups)
  all_if true group groups one others = (one, others)
  all_if false group groups one others = others

  all_without : (symbol : Symbol) (groups : List Group) → AllIn groups → AllIn (without_symbol symbol groups)
  all_without symbol [] all = tt
  all_without symbol (group ∷ groups) (one, others) = all_if (not (same_symbol symbol group.0)) group (without_symbol symbol groups) one (all_without symbol groups others)

  all_with : (symbol : Option Symbol) (first : Node) (groups : List Group) → P first → AllIn groups → AllIn (with_disjunct symbol first groups)
  all_with None first groups one all = all
  all_with (Some symbol) first groups one all = ((one, of_all symbol groups all), all_without symbol groups all)

  pub grouped_all : (variable : ℕ) (disjuncts : List Node) → AllByRecursion P disjuncts → AllIn (grouped variable disjuncts)
  grouped_all variable [] all = tt
  grouped_all variable (first ∷ rest) (one, others) = all_with (symbol_at variable first) first (grouped variable rest) one (grouped_all variable rest others)

-- Disjuncts with a weight each weigh as much as the groups, or more.
module _ (weight : Node → ℕ) where
  abbrev pub weigh : List Node → ℕ
  weigh [] = 0
  weigh (first ∷ rest) = weight first + weigh rest

  abbrev pub weigh_groups : List Group → ℕ
  weigh_groups [] = 0
  weigh_groups (group ∷ groups) = weigh group.1 + weigh_groups groups

  split_if : (b : Bool) (symbol : Symbol) (group : Group) (groups : List Group) → weigh (of_symbol symbol groups) + weigh_groups (without_symbol symbol groups) ≤ weigh_groups groups
      → weigh_groups (without_symbol symbol groups) ≤ weigh_groups groups
      → weigh (if b then group.1 else of_symbol symbol groups) + weigh_groups (if not b then group ∷ without_symbol symbol groups else without_symbol symbol groups) ≤ weigh group.1 + weigh_groups groups
  split_if true symbol group groups h k = omega arith
  split_if false symbol group groups h k = omega arith

  split : (symbol : Symbol) (groups : List Group) → weigh (of_symbol symbol groups) + weigh_groups (without_symbol symbol groups) ≤ weigh_groups groups
  split symbol [] = omega arith
  split symbol (group ∷ groups) = let h = split symbol groups in split_if (same_symbol symbol group.0) symbol group groups h (omega arith)

  weigh_with : (symbol : Option Symbol) (first : Node) (groups : List Group) → weigh_groups (with_disjunct symbol first groups) ≤ weight first + weigh_groups groups
  weigh_with None first groups = omega arith
  weigh_with (Some symbol) first groups = let h = split symbol groups in omega arith

  pub weigh_grouped : (variable : ℕ) (disjuncts : List Node) → weigh_groups (grouped variable disjuncts) ≤ weigh disjuncts
  weigh_grouped variable [] = omega arith
  weigh_grouped variable (first ∷ rest) =
      let h = weigh_grouped variable rest in
      let k = weigh_with (symbol_at variable first) first (grouped variable rest) in
      omega arith
