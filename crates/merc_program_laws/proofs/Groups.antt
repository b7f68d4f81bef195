-- Groups of disjuncts: what holds of their symbols, and whether the end of one of them can be reached.
use Rattle.std.proofs.Common.{◌≡◌, ℕ, Bool, true, false, not, ◌||◌, List, [], ◌∷◌, Option, Some, None, if◌then◌else◌, refl, ap, sym, subst, ◌∙◌}
use Rattle.std.specs.List.{AllByRecursion}
use Rattle.merc_tree.specs.Types.{TypeExpr}
use Rattle.merc_tree.specs.declared.declarations.ModeDecl.{ModeDecl}
use Rattle.merc_tree.specs.declared.declarations.TypeDef.{TypeDef}
use Rattle.merc_goal_tree.specs.declared.goal.Symbol.{Symbol}
use Rattle.merc_graded_tree.specs.Nodes.{Node, nodes_of}
use Rattle.merc_graded_tree.specs.Roots.{symbols_of}
use Rattle.merc_grading.specs.Known.{same_symbol, has_symbol}
use Rattle.merc_grading.specs.Switches.{Group, symbol_at, of_symbol, without_symbol, with_disjunct, grouped, arms_of_groups}
use Rattle.merc_switch_choice.proofs.GroupLaws.{AreApart, grouped_apart}
use Rattle.merc_switch_choice.proofs.SameSymbols.{symbols_equal}
use Rattle.merc_order_laws.specs.GoodTree.{node_ends, some_node_ends}
use Rattle.merc_order_laws.proofs.Facts.{or_assoc}

-- each disjunct begins with a symbol of the variable
abbrev pub HaveSymbols : ℕ → List Node → Type 0
HaveSymbols variable disjuncts = AllByRecursion (λ disjunct. (symbol : Symbol) × (symbol_at variable disjunct ≡ Some symbol)) disjuncts

-- The end of one in the groups can be reached where that of one of the disjuncts can.
module _ (modes : ℕ → List ModeDecl) where
  abbrev pub groups_end : List Group → Bool
  groups_end [] = false
  groups_end (group ∷ groups) = some_node_ends modes (nodes_of group.1) || groups_end groups

  turned : (a b c : Bool) → (a || (b || c)) ≡ (b || (a || c))
  turned true true c = refl
  turned true false c = refl
  turned false b c = refl

  pick_if : (b : Bool) (symbol : Symbol) (group : Group) (groups : List Group) → same_symbol symbol group.0 ≡ b → without_symbol group.0 groups ≡ groups
      → groups_end groups ≡ (some_node_ends modes (nodes_of (of_symbol symbol groups)) || groups_end (without_symbol symbol groups))
      → (some_node_ends modes (nodes_of group.1) || groups_end groups)
      ≡ (some_node_ends modes (nodes_of (if b then group.1 else of_symbol symbol groups)) || groups_end (if not b then group ∷ without_symbol symbol groups else without_symbol symbol groups))
  pick_if true symbol group groups same apart others =
      ap (λ l. some_node_ends modes (nodes_of group.1) || groups_end l) (sym apart ∙ ap (λ s. without_symbol s groups) (sym (symbols_equal symbol group.0 same)))
  pick_if false symbol group groups same apart others =
      ap (λ b. some_node_ends modes (nodes_of group.1) || b) others
      ∙ turned (some_node_ends modes (nodes_of group.1)) (some_node_ends modes (nodes_of (of_symbol symbol groups))) (groups_end (without_symbol symbol groups))

  picked : (symbol : Symbol) (groups : List Group) → AreApart groups
      → groups_end groups ≡ (some_node_ends modes (nodes_of (of_symbol symbol groups)) || groups_end (without_symbol symbol groups))
  picked symbol [] apart = refl
  picked symbol (group ∷ groups) (one, others) = pick_if (same_symbol symbol group.0) symbol group groups refl one (picked symbol groups others)

  ends_with : (symbol : Option Symbol) (first : Node) (groups : List Group) → (s : Symbol) × (symbol ≡ Some s) → AreApart groups
      → groups_end (with_disjunct symbol first groups) ≡ (node_ends modes first || groups_end groups)
  ends_with None first groups there apart = let is = there.1 in absurd (cc)
  ends_with (Some symbol) first groups there apart =
      or_assoc (node_ends modes first) (some_node_ends modes (nodes_of (of_symbol symbol groups))) (groups_end (without_symbol symbol groups))
      ∙ ap (λ b. node_ends modes first || b) (sym (picked symbol groups apart))

  pub ends_grouped : (variable : ℕ) (disjuncts : List Node) → HaveSymbols variable disjuncts → groups_end (grouped variable disjuncts) ≡ some_node_ends modes (nodes_of disjuncts)
  ends_grouped variable [] there = refl
  ends_grouped variable (first ∷ rest) (one, others) =
      ends_with (symbol_at variable first) first (grouped variable rest) one (grouped_apart variable rest) ∙ ap (λ b. node_ends modes first || b) (ends_grouped variable rest others)

-- The disjuncts of a group begin with its symbol.
module _ (variable : ℕ) where
  abbrev pub Begin : Symbol → List Node → Type 0
  Begin symbol disjuncts = AllByRecursion (λ disjunct. symbol_at variable disjunct ≡ Some symbol) disjuncts

  abbrev pub GroupsBegin : List Group → Type 0
  GroupsBegin groups = AllByRecursion (λ (group : Group). Begin group.0 group.1) groups

  of_symbol_begin : (symbol : Symbol) (groups : List Group) → GroupsBegin groups → Begin symbol (of_symbol symbol groups)
  of_symbol_begin symbol [] all = tt
  of_symbol_begin symbol (group ∷ groups) all = by (same_symbol symbol group.0) refl (of_symbol_begin symbol groups all.1)
    where
      by : (b : Bool) → same_symbol symbol group.0 ≡ b → Begin symbol (of_symbol symbol groups) → Begin symbol (if b then group.1 else of_symbol symbol groups)
      by true is others = subst (λ (s : Symbol). Begin s group.1) (sym (symbols_equal symbol group.0 is)) all.0
      by false is others = others

  without_begin : (symbol : Symbol) (groups : List Group) → GroupsBegin groups → GroupsBegin (without_symbol symbol groups)
  without_begin symbol [] all = tt
  without_begin symbol (group ∷ groups) all = by (not (same_symbol symbol group.0)) (without_begin symbol groups all.1)
    where
      by : (b : Bool) → GroupsBegin (without_symbol symbol groups) → GroupsBegin (if b then group ∷ without_symbol symbol groups else without_symbol symbol groups)
      by true others = (all.0, others)
      by false others = others

  with_begin : (symbol : Option Symbol) (first : Node) (groups : List Group) → symbol_at variable first ≡ symbol → GroupsBegin groups → GroupsBegin (with_disjunct symbol first groups)
  with_begin None first groups is all = all
  with_begin (Some symbol) first groups is all = ((is, of_symbol_begin symbol groups all), without_begin symbol groups all)

  pub grouped_begin : (disjuncts : List Node) → GroupsBegin (grouped variable disjuncts)
  grouped_begin [] = tt
  grouped_begin (first ∷ rest) = with_begin (symbol_at variable first) first (grouped variable rest) refl (grouped_begin rest)

-- The arms of groups that are apart have different symbols.
module _ (declared : List TypeDef) (types : ℕ → TypeExpr) (body : List Node → Node) where
  abbrev symbols : List Group → List Symbol
  symbols groups = symbols_of (arms_of_groups declared types body groups)

  none_has : (symbol : Symbol) (groups : List Group) → has_symbol (symbols (without_symbol symbol groups)) symbol ≡ false
  none_has symbol [] = refl
  none_has symbol (group ∷ groups) = by (same_symbol symbol group.0) refl (none_has symbol groups)
    where
      by : (b : Bool) → same_symbol symbol group.0 ≡ b → has_symbol (symbols (without_symbol symbol groups)) symbol ≡ false
          → has_symbol (symbols (if not b then group ∷ without_symbol symbol groups else without_symbol symbol groups)) symbol ≡ false
      by true is others = others
      by false is others = ap (λ b. b || has_symbol (symbols (without_symbol symbol groups)) symbol) is ∙ others

  pub symbols_apart : (symbol : Symbol) (groups : List Group) → without_symbol symbol groups ≡ groups → has_symbol (symbols groups) symbol ≡ false
  symbols_apart symbol groups apart = subst (λ (l : List Group). has_symbol (symbols l) symbol ≡ false) apart (none_has symbol groups)
