-- What is missing of the symbols of disjuncts is missing of fewer of them too.
use Rattle.std.specs.Prelude.{◌≡◌, ◌<◌, ℕ, zero, suc, Bool, true, false, ◌||◌, ◌&&◌, ◌==◌, List, [], ◌∷◌, length, map, Option, Some, None, IfSome, MatchOption, refl}
use Rattle.std.specs.List.{AllByRecursion, list_all, slice_index_or}
use Rattle.std.proofs.Common.{◌∙◌, ap, sym, subst, cond, arith}
use Rattle.std.proofs.lemmas.Bool.Decides.{Decides-eqb}
use Rattle.merc_tree.specs.declared.declarations.Constructor.{Constructor}
use Rattle.merc_tree.specs.declared.declarations.TypeDef.{TypeDef}
use Rattle.merc_goal_tree.specs.declared.goal.Symbol.{Symbol}
use Rattle.merc_graded_tree.specs.Nodes.{Node}
use Rattle.merc_grading.specs.Known.{same_symbol, has_symbol, symbol_of, are_complete}
use Rattle.merc_grading.specs.Switches.{Group, symbol_at, listed, grouped}
use Rattle.merc_switch_choice.specs.declared.gaps.Gap.{Gap}
use Rattle.merc_switch_choice.specs.declared.gaps.Gaps.{Gaps}
use Rattle.merc_switch_choice.specs.Choosing.{symbols_in, fellows_of, is_covered}
use Rattle.merc_switch_choice.specs.Symbols.{all_symbols}
use Rattle.merc_switch_choice.specs.Gaps.{symbol_of_gap, Avoids, gap_of, AvoidsAll, AreGaps}
use Rattle.merc_switch_choice.proofs.CoverLaws.{has-append, has-all}
use Rattle.merc_switch_choice.proofs.GroupLaws.{AllIn, grouped_all}
use Rattle.merc_switch_choice.proofs.SameSymbols.{symbols_equal, symbol_self}
use Rattle.merc_switch_choice.proofs.Members.{or_true}

or_none : (a b : Bool) → a ≡ false → b ≡ false → (a || b) ≡ false
or_none a b p q = ap (λ c. c || b) p ∙ q

none_of_both : (a b : Bool) → (a || b) ≡ false → (a ≡ false) × (b ≡ false)
none_of_both true b h = absurd (cc)
none_of_both false b h = (refl, h)

-- a symbol by which no disjunct splits a variable is none of its symbols

pub none_in : (disjuncts : List Node) (v : ℕ) (s : Symbol) → AllByRecursion (Avoids v s) disjuncts → has_symbol (symbols_in disjuncts v) s ≡ false
none_in [] v s all = refl
none_in (first ∷ rest) v s (one, others) =
    has-append (listed (symbol_at v first)) (symbols_in rest v) s ∙ or_none (has_symbol (listed (symbol_at v first)) s) (has_symbol (symbols_in rest v) s) one (none_in rest v s others)

pub all_avoid : (disjuncts : List Node) (v : ℕ) (s : Symbol) → has_symbol (symbols_in disjuncts v) s ≡ false → AllByRecursion (Avoids v s) disjuncts
all_avoid [] v s none = tt
all_avoid (first ∷ rest) v s none =
    let parts = none_of_both (has_symbol (listed (symbol_at v first)) s) (has_symbol (symbols_in rest v) s) (sym (has-append (listed (symbol_at v first)) (symbols_in rest v) s) ∙ none) in
    (parts.0, all_avoid rest v s parts.1)

-- where one of all symbols is missing they are not all there

and_false : (a : Bool) → (a && false) ≡ false
and_false true = refl
and_false false = refl

not_all_if : (b : Bool) (symbols : List Symbol) (first : Symbol) (rest : List Symbol) (s : Symbol) → same_symbol s first ≡ b → (b || has_symbol rest s) ≡ true → has_symbol symbols s ≡ false
    → (has_symbol rest s ≡ true → list_all (λ symbol. has_symbol symbols symbol) rest ≡ false) → (has_symbol symbols first && list_all (λ symbol. has_symbol symbols symbol) rest) ≡ false
not_all_if true symbols first rest s same is none others =
    ap (λ b. b && list_all (λ symbol. has_symbol symbols symbol) rest) (ap (has_symbol symbols) (sym (symbols_equal s first same)) ∙ none)
not_all_if false symbols first rest s same is none others = ap (λ b. has_symbol symbols first && b) (others is) ∙ and_false (has_symbol symbols first)

pub not_all : (symbols all : List Symbol) (s : Symbol) → has_symbol all s ≡ true → has_symbol symbols s ≡ false → list_all (λ symbol. has_symbol symbols symbol) all ≡ false
not_all symbols [] s is none = absurd (cc)
not_all symbols (first ∷ rest) s is none = not_all_if (same_symbol s first) symbols first rest s refl is none (λ h. not_all symbols rest s h none)

pub found_some : {X : Type 0} (A : Type 0) (B : X → Type 0) (found : Option X) (one : X) → MatchOption found A B → found ≡ Some one → B one
found_some A B found one told is = subst (λ o. MatchOption o A B) is told

pub found_none : {X : Type 0} (A : Type 0) (B : X → Type 0) (found : Option X) → MatchOption found A B → found ≡ None → A
found_none A B found told is = subst (λ o. MatchOption o A B) is told

pub none_of_all : (disjuncts : List Node) (v : ℕ) (set : List Symbol) (s : Symbol) → set ≡ all_symbols [] (symbols_in disjuncts v) → has_symbol set s ≡ false → has_symbol (symbols_in disjuncts v) s ≡ false
none_of_all disjuncts v set s collected none = sym (ap (λ l. has_symbol l s) collected ∙ has-all [] (symbols_in disjuncts v) s) ∙ none

pub uncovered_by : (declared : List TypeDef) (disjuncts : List Node) (v : ℕ) (all : List Symbol) (s : Symbol) → Some all ≡ fellows_of declared (symbols_in disjuncts v) → has_symbol all s ≡ true
    → has_symbol (symbols_in disjuncts v) s ≡ false → false ≡ is_covered declared disjuncts v
uncovered_by declared disjuncts v all s fellows is none =
    sym (not_all (symbols_in disjuncts v) all s is none) ∙ ap (λ o. are_complete o (symbols_in disjuncts v)) fellows

-- the gap that is kept of a variable

pub kept_avoided : (gaps : Gaps) (disjuncts : List Node) (v : ℕ) (gap : Option Gap) → gap ≡ gap_of gaps v → AreGaps gaps disjuncts → IfSome gap (λ gap. AllByRecursion (Avoids v (symbol_of_gap gap)) disjuncts)
kept_avoided gaps disjuncts v None is are = tt
kept_avoided gaps disjuncts v (Some gap) is are = each disjuncts are
  where
    each : (ds : List Node) → AreGaps gaps ds → AllByRecursion (Avoids v (symbol_of_gap gap)) ds
    each [] all = tt
    each (first ∷ rest) (one, others) = (subst (λ o. IfSome o (λ (gap : Gap). Avoids v (symbol_of_gap gap) first)) (sym is) (one v), each rest others)

pub no_gaps : (gaps : Gaps) (disjuncts : List Node) → ((v : ℕ) → gap_of gaps v ≡ None) → AreGaps gaps disjuncts
no_gaps gaps [] none = tt
no_gaps gaps (first ∷ rest) none = (λ v. subst (λ o. IfSome o (λ (gap : Gap). Avoids v (symbol_of_gap gap) first)) (sym (none v)) tt, no_gaps gaps rest none)

pub one_more_gap : (before after : Gaps) (variable : ℕ) (gap : Gap) (disjuncts : List Node) → ((v : ℕ) → gap_of after v ≡ cond (variable == v) (Some gap) (gap_of before v))
    → AreGaps before disjuncts → AllByRecursion (Avoids variable (symbol_of_gap gap)) disjuncts → AreGaps after disjuncts
one_more_gap before after variable gap [] put all avoid = tt
one_more_gap before after variable gap (first ∷ rest) put (one, others) (this, these) =
    (λ v. subst (λ o. IfSome o (λ (gap : Gap). Avoids v (symbol_of_gap gap) first)) (sym (put v)) (at v (variable == v) refl), one_more_gap before after variable gap rest put others these)
  where
    at : (v : ℕ) (b : Bool) → (variable == v) ≡ b → IfSome (cond b (Some gap) (gap_of before v)) (λ (gap : Gap). Avoids v (symbol_of_gap gap) first)
    at v true same = subst (λ w. Avoids w (symbol_of_gap gap) first) ((Decides-eqb variable v).0 same) this
    at v false same = one v

-- the groups of disjuncts have the gaps of all together

pub group_gaps : (gaps : Gaps) (v : ℕ) (disjuncts : List Node) → AreGaps gaps disjuncts → AllByRecursion (AreGaps gaps) (map (λ group. group.1) (grouped v disjuncts))
group_gaps gaps v disjuncts all = each (grouped v disjuncts) (grouped_all (AvoidsAll gaps) v disjuncts all)
  where
    each : (groups : List Group) → AllIn (AvoidsAll gaps) groups → AllByRecursion (AreGaps gaps) (map (λ group. group.1) groups)
    each [] all = tt
    each (group ∷ groups) (one, others) = (one, each groups others)

-- one of the groups

pub gaps_of_one : (gaps : Gaps) (groups : List (List Node)) (index : ℕ) (group : List Node) → index < length groups → group ≡ slice_index_or groups index group → AllByRecursion (AreGaps gaps) groups
    → AreGaps gaps group
gaps_of_one gaps [] index group within is all = absurd (omega (arith, within))
gaps_of_one gaps (first ∷ rest) zero group within is (one, others) = subst (AreGaps gaps) (sym is) one
gaps_of_one gaps (first ∷ rest) (suc index) group within is (one, others) = gaps_of_one gaps rest index group (omega (arith, within)) is others

-- a symbol that is a constructor's is among those of all

pub symbol_there : (all : List Constructor) (place : ℕ) (found : Constructor) (s : Symbol) → place < length all → found ≡ slice_index_or all place found → s ≡ symbol_of found
    → has_symbol (map symbol_of all) s ≡ true
symbol_there [] place found s within at is = absurd (omega (arith, within))
symbol_there (first ∷ rest) zero found s within at is =
    ap (has_symbol (map symbol_of (first ∷ rest))) (is ∙ ap symbol_of at) ∙ ap (λ b. b || has_symbol (map symbol_of rest) (symbol_of first)) (symbol_self (symbol_of first))
symbol_there (first ∷ rest) (suc place) found s within at is =
    ap (λ b. same_symbol s (symbol_of first) || b) (symbol_there rest place found s (omega (arith, within)) at is) ∙ or_true (same_symbol s (symbol_of first))
