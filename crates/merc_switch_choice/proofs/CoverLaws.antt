-- The set of symbols has the symbols that were put into it, and no others.
use Rattle.std.specs.Prelude.{◌≡◌, ℕ, Bool, true, false, ◌||◌, List, [], ◌∷◌, ◌++◌, Some, if◌then◌else◌, refl}
use Rattle.std.specs.List.{list_all}
use Rattle.std.proofs.Common.{◌∙◌, ap, sym}
use mathlib.Core.Path.{fun_ext}
use Rattle.merc_tree.specs.declared.declarations.TypeDef.{TypeDef}
use Rattle.merc_goal_tree.specs.declared.goal.Symbol.{Symbol}
use Rattle.merc_graded_tree.specs.Nodes.{Node}
use Rattle.merc_grading.specs.Known.{same_symbol, has_symbol, are_complete}
use Rattle.merc_switch_choice.specs.Symbols.{with_symbol, all_symbols}
use Rattle.merc_switch_choice.specs.Choosing.{symbols_in, fellows_of, is_covered}
use Rattle.merc_switch_choice.proofs.Members.{or_false, or_true, or_assoc}
use Rattle.merc_switch_choice.proofs.SameSymbols.{symbols_equal}

pub has-append : (front back : List Symbol) (symbol : Symbol) → has_symbol (front ++ back) symbol ≡ (has_symbol front symbol || has_symbol back symbol)
has-append [] back symbol = refl
has-append (first ∷ rest) back symbol =
    ap (λ b. same_symbol symbol first || b) (has-append rest back symbol) ∙ sym (or_assoc (same_symbol symbol first) (has_symbol rest symbol) (has_symbol back symbol))

has_if : (b : Bool) (symbols : List Symbol) (one symbol : Symbol) → has_symbol symbols one ≡ b
    → has_symbol (if b then symbols else symbols ++ one ∷ []) symbol ≡ (has_symbol symbols symbol || same_symbol symbol one)
has_if true symbols one symbol h = already (same_symbol symbol one) refl
  where
    already : (c : Bool) → same_symbol symbol one ≡ c → has_symbol symbols symbol ≡ (has_symbol symbols symbol || c)
    already true same = ap (has_symbol symbols) (symbols_equal symbol one same) ∙ h ∙ sym (or_true (has_symbol symbols symbol))
    already false same = sym (or_false (has_symbol symbols symbol))
has_if false symbols one symbol h = has-append symbols (one ∷ []) symbol ∙ ap (λ c. has_symbol symbols symbol || c) (or_false (same_symbol symbol one))

pub has-all : (symbols more : List Symbol) (symbol : Symbol) → has_symbol (all_symbols symbols more) symbol ≡ (has_symbol symbols symbol || has_symbol more symbol)
has-all symbols [] symbol = sym (or_false (has_symbol symbols symbol))
has-all symbols (first ∷ rest) symbol =
    has-all (with_symbol symbols first) rest symbol ∙ ap (λ b. b || has_symbol rest symbol) (has_if (has_symbol symbols first) symbols first symbol refl)
    ∙ or_assoc (has_symbol symbols symbol) (same_symbol symbol first) (has_symbol rest symbol)

pub covered_by : (declared : List TypeDef) (disjuncts : List Node) (variable : ℕ) (set all : List Symbol) (told : Bool) → Some all ≡ fellows_of declared (symbols_in disjuncts variable)
    → set ≡ all_symbols [] (symbols_in disjuncts variable) → told ≡ list_all (λ symbol. has_symbol set symbol) all → told ≡ is_covered declared disjuncts variable
covered_by declared disjuncts variable set all told fellows collected tells =
    let symbols = symbols_in disjuncts variable in
    tells
    ∙ ap (λ (p : Symbol → Bool). list_all p all) (fun_ext (λ symbol. ap (λ l. has_symbol l symbol) collected ∙ has-all [] symbols symbol))
    ∙ ap (λ o. are_complete o symbols) fellows
