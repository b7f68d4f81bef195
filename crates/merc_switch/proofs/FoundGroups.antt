-- What disjuncts begin with tells how they are grouped: goals that begin as others do are grouped as these are.
use Rattle.std.specs.Prelude.{◌≡◌, ℕ, Bool, true, false, not, ◌&&◌, List, [], ◌∷◌, ◌++◌, map, Option, Some, None, if◌then◌else◌, refl}
use Rattle.std.specs.List.{filter, flat_map, list_all}
use Rattle.std.proofs.Common.{◌∙◌, ap}
use mathlib.Core.Path.{fun_ext}
use Rattle.merc_tree.specs.Types.{TypeExpr}
use Rattle.merc_tree.specs.declared.declarations.TypeDef.{TypeDef}
use Rattle.merc_goal_tree.specs.declared.goal.Symbol.{Symbol}
use Rattle.merc_graded_tree.specs.Nodes.{Node}
use Rattle.merc_order.specs.Bound.{Bound, among}
use Rattle.merc_grading.specs.Known.{same_symbol, symbols_of_type, are_complete}
use Rattle.merc_grading.specs.Switches.{Beginning, Group, beginning, symbol_in, symbol_at, is_there, listed, split_variables, of_symbol, without_symbol, with_disjunct, grouped, least, or_else, is_complete, candidates, choice}

module _ (f : Node → Node) (keeps : (goal : Node) → beginning (f goal) ≡ beginning goal) where
  symbol_kept : (variable : ℕ) (goal : Node) → symbol_at variable (f goal) ≡ symbol_at variable goal
  symbol_kept variable goal = ap (λ (b : Beginning). symbol_in b.splits variable) (keeps goal)

  pub split_variables_kept : (goals : List Node) → split_variables (map f goals) ≡ split_variables goals
  split_variables_kept [] = refl
  split_variables_kept (first ∷ rest) =
      ap (λ (b : Beginning). flat_map (λ one. one.0 ∷ []) b.splits ++ split_variables (map f rest)) (keeps first)
      ∙ ap (λ l. flat_map (λ one. one.0 ∷ []) (beginning first).splits ++ l) (split_variables_kept rest)

  all_split_kept : (variable : ℕ) (goals : List Node) → list_all (λ goal. is_there (symbol_at variable goal)) (map f goals) ≡ list_all (λ goal. is_there (symbol_at variable goal)) goals
  all_split_kept variable [] = refl
  all_split_kept variable (first ∷ rest) =
      ap (λ o. is_there o && list_all (λ goal. is_there (symbol_at variable goal)) (map f rest)) (symbol_kept variable first)
      ∙ ap (λ b. is_there (symbol_at variable first) && b) (all_split_kept variable rest)

  symbols_kept : (variable : ℕ) (goals : List Node) → flat_map (λ goal. listed (symbol_at variable goal)) (map f goals) ≡ flat_map (λ goal. listed (symbol_at variable goal)) goals
  symbols_kept variable [] = refl
  symbols_kept variable (first ∷ rest) =
      ap (λ o. listed o ++ flat_map (λ goal. listed (symbol_at variable goal)) (map f rest)) (symbol_kept variable first)
      ∙ ap (λ l. listed (symbol_at variable first) ++ l) (symbols_kept variable rest)

  module _ (declared : List TypeDef) (types : ℕ → TypeExpr) (bound : Bound) (used : List ℕ) where
    candidates_kept : (goals : List Node) → candidates declared types bound used (map f goals) ≡ candidates declared types bound used goals
    candidates_kept goals =
        ap (λ (p : ℕ → Bool). filter p (split_variables (map f goals))) (fun_ext (λ v. ap (λ b. not (among used v) && (bound v && b)) (all_split_kept v goals)))
        ∙ ap (λ l. filter (λ v. not (among used v) && (bound v && list_all (λ goal. is_there (symbol_at v goal)) goals)) l) (split_variables_kept goals)

    complete_kept : (goals : List Node) (variable : ℕ) → is_complete declared types (map f goals) variable ≡ is_complete declared types goals variable
    complete_kept goals variable = ap (λ l. are_complete (symbols_of_type declared (types variable)) l) (symbols_kept variable goals)

    pub choice_kept : (goals : List Node) → choice declared types bound used (map f goals) ≡ choice declared types bound used goals
    choice_kept goals =
        ap (λ l. or_else (least (filter (λ v. is_complete declared types (map f goals) v) l)) (least l)) (candidates_kept goals)
        ∙ ap (λ (p : ℕ → Bool). or_else (least (filter p (candidates declared types bound used goals))) (least (candidates declared types bound used goals)))
        (fun_ext (λ v. complete_kept goals v))

  abbrev pub changed : Group → Group
  changed group = (group.0, map f group.1)

  of_symbol_if : (b : Bool) (one : List Node) (other : List Node) (other' : List Node) → other' ≡ map f other → (if b then map f one else other') ≡ map f (if b then one else other)
  of_symbol_if true one other other' h = refl
  of_symbol_if false one other other' h = h

  of_symbol_kept : (symbol : Symbol) (groups : List Group) → of_symbol symbol (map changed groups) ≡ map f (of_symbol symbol groups)
  of_symbol_kept symbol [] = refl
  of_symbol_kept symbol (group ∷ groups) =
      of_symbol_if (same_symbol symbol group.0) group.1 (of_symbol symbol groups) (of_symbol symbol (map changed groups)) (of_symbol_kept symbol groups)

  without_if : (b : Bool) (one : Group) (other other' : List Group) → other' ≡ map changed other → (if b then changed one ∷ other' else other') ≡ map changed (if b then one ∷ other else other)
  without_if true one other other' h = ap (λ l. changed one ∷ l) h
  without_if false one other other' h = h

  without_kept : (symbol : Symbol) (groups : List Group) → without_symbol symbol (map changed groups) ≡ map changed (without_symbol symbol groups)
  without_kept symbol [] = refl
  without_kept symbol (group ∷ groups) =
      without_if (not (same_symbol symbol group.0)) group (without_symbol symbol groups) (without_symbol symbol (map changed groups)) (without_kept symbol groups)

  with_kept : (symbol : Option Symbol) (first : Node) (groups : List Group) → with_disjunct symbol (f first) (map changed groups) ≡ map changed (with_disjunct symbol first groups)
  with_kept None first groups = refl
  with_kept (Some symbol) first groups =
      ap (λ l. (symbol, f first ∷ l) ∷ without_symbol symbol (map changed groups)) (of_symbol_kept symbol groups)
      ∙ ap (λ l. (symbol, f first ∷ map f (of_symbol symbol groups)) ∷ l) (without_kept symbol groups)

  pub grouped_kept : (variable : ℕ) (goals : List Node) → grouped variable (map f goals) ≡ map changed (grouped variable goals)
  grouped_kept variable [] = refl
  grouped_kept variable (first ∷ rest) =
      ap (λ o. with_disjunct o (f first) (grouped variable (map f rest))) (symbol_kept variable first)
      ∙ ap (λ l. with_disjunct (symbol_at variable first) (f first) l) (grouped_kept variable rest)
      ∙ with_kept (symbol_at variable first) first (grouped variable rest)
