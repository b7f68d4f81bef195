-- Disjuncts by symbol: what holds of one of them, and of all.
use Rattle.std.proofs.Common.{◌≡◌, ◌⊎◌, inl, inr, ℕ, Bool, true, false, not, List, [], ◌∷◌, Option, Some, None, if◌then◌else◌, refl, ap, sym, subst, ◌∙◌}
use Rattle.std.specs.List.{AllByRecursion}
use Rattle.merc_goal_tree.specs.declared.goal.Symbol.{Symbol}
use Rattle.merc_graded_tree.specs.Nodes.{Node}
use Rattle.merc_grading.specs.Known.{same_symbol}
use Rattle.merc_grading.specs.Switches.{Group, symbol_at, of_symbol, without_symbol, with_disjunct, grouped}
use Rattle.merc_switch_choice.proofs.GroupLaws.{AreApart, grouped_apart, AllIn}
use Rattle.merc_switch_choice.proofs.SameSymbols.{symbols_equal}
use Rattle.merc_program_laws.proofs.Basics.{either}

-- each disjunct begins with a symbol of the variable
abbrev pub HaveSymbols : ℕ → List Node → Type 0
HaveSymbols x ds = AllByRecursion (λ d. (c : Symbol) × (symbol_at x d ≡ Some c)) ds

-- groups that are apart from one have no other with its symbol
others_stay : (c : Symbol) (g : Group) (gs : List Group) → same_symbol c g.0 ≡ true → without_symbol g.0 gs ≡ gs → without_symbol c gs ≡ gs
others_stay c g gs same apart = ap (λ (d : Symbol). without_symbol d gs) (symbols_equal c g.0 same) ∙ apart

module _ (P : Node → Type 0) where
  abbrev pub Any : List Node → Type 0
  Any [] = ⊥
  Any (d ∷ ds) = P d ⊎ Any ds

  abbrev pub AnyIn : List Group → Type 0
  AnyIn [] = ⊥
  AnyIn (g ∷ gs) = Any g.1 ⊎ AnyIn gs

  -- one of a symbol, or of the others

  picked_if : (b : Bool) (c : Symbol) (g : Group) (gs : List Group) → same_symbol c g.0 ≡ b → without_symbol g.0 gs ≡ gs → (AnyIn gs → Any (of_symbol c gs) ⊎ AnyIn (without_symbol c gs)) → AnyIn (g ∷ gs)
      → Any (if b then g.1 else of_symbol c gs) ⊎ AnyIn (if not b then g ∷ without_symbol c gs else without_symbol c gs)
  picked_if true c g gs same apart f (inl h) = inl h
  picked_if true c g gs same apart f (inr h) = inr (subst (λ (l : List Group). AnyIn l) (sym (others_stay c g gs same apart)) h)
  picked_if false c g gs same apart f (inl h) = inr (inl h)
  picked_if false c g gs same apart f (inr h) = either (λ k. k) (λ k. inr k) (f h)

  picked : (c : Symbol) (gs : List Group) → AreApart gs → AnyIn gs → Any (of_symbol c gs) ⊎ AnyIn (without_symbol c gs)
  picked c [] apart h = absurd h
  picked c (g ∷ gs) (one, others) h = picked_if (same_symbol c g.0) c g gs refl one (picked c gs others) h

  of_back_if : (b : Bool) (c : Symbol) (g : Group) (gs : List Group) → (Any (of_symbol c gs) → AnyIn gs) → Any (if b then g.1 else of_symbol c gs) → AnyIn (g ∷ gs)
  of_back_if true c g gs f h = inl h
  of_back_if false c g gs f h = inr (f h)

  of_back : (c : Symbol) (gs : List Group) → Any (of_symbol c gs) → AnyIn gs
  of_back c [] h = absurd h
  of_back c (g ∷ gs) h = of_back_if (same_symbol c g.0) c g gs (of_back c gs) h

  without_back_if : (b : Bool) (c : Symbol) (g : Group) (gs : List Group) → (AnyIn (without_symbol c gs) → AnyIn gs) → AnyIn (if b then g ∷ without_symbol c gs else without_symbol c gs) → AnyIn (g ∷ gs)
  without_back_if true c g gs f h = either (λ k. k) f h
  without_back_if false c g gs f h = inr (f h)

  without_back : (c : Symbol) (gs : List Group) → AnyIn (without_symbol c gs) → AnyIn gs
  without_back c [] h = absurd h
  without_back c (g ∷ gs) h = without_back_if (not (same_symbol c g.0)) c g gs (without_back c gs) h

  any_with : (o : Option Symbol) (c : Symbol) (d : Node) (gs : List Group) → o ≡ Some c → AreApart gs → P d ⊎ AnyIn gs → AnyIn (with_disjunct o d gs)
  any_with None c d gs e apart h = absurd cc
  any_with (Some k) c d gs e apart (inl h) = inl (inl h)
  any_with (Some k) c d gs e apart (inr h) = either (λ j. inr j) (λ j. j) (picked k gs apart h)

  with_any : (o : Option Symbol) (d : Node) (gs : List Group) → AnyIn (with_disjunct o d gs) → P d ⊎ AnyIn gs
  with_any None d gs h = inr h
  with_any (Some k) d gs (inl h) = either (λ j. j) (of_back k gs) h
  with_any (Some k) d gs (inr h) = inr (without_back k gs h)

  pub any_grouped : (x : ℕ) (ds : List Node) → HaveSymbols x ds → Any ds → AnyIn (grouped x ds)
  any_grouped x [] l h = absurd h
  any_grouped x (d ∷ ds) l h = any_with (symbol_at x d) l.0.0 d (grouped x ds) l.0.1 (grouped_apart x ds) (either (λ k. k) (any_grouped x ds l.1) h)

  pub grouped_any : (x : ℕ) (ds : List Node) → AnyIn (grouped x ds) → Any ds
  grouped_any x [] h = h
  grouped_any x (d ∷ ds) h = either (λ k. k) (grouped_any x ds) (with_any (symbol_at x d) d (grouped x ds) h)

  -- all of a symbol, and of the others
  all_back_if : (b : Bool) (c : Symbol) (g : Group) (gs : List Group) → same_symbol c g.0 ≡ b → without_symbol g.0 gs ≡ gs → (AllByRecursion P (of_symbol c gs) → AllIn P (without_symbol c gs) → AllIn P gs)
      → AllByRecursion P (if b then g.1 else of_symbol c gs) → AllIn P (if not b then g ∷ without_symbol c gs else without_symbol c gs) → AllIn P (g ∷ gs)
  all_back_if true c g gs same apart f h k = (h, subst (λ (l : List Group). AllIn P l) (others_stay c g gs same apart) k)
  all_back_if false c g gs same apart f h k = (k.0, f h k.1)

  all_back : (c : Symbol) (gs : List Group) → AreApart gs → AllByRecursion P (of_symbol c gs) → AllIn P (without_symbol c gs) → AllIn P gs
  all_back c [] apart h k = tt
  all_back c (g ∷ gs) (one, others) h k = all_back_if (same_symbol c g.0) c g gs refl one (all_back c gs others) h k

  with_all : (o : Option Symbol) (c : Symbol) (d : Node) (gs : List Group) → o ≡ Some c → AreApart gs → AllIn P (with_disjunct o d gs) → P d × AllIn P gs
  with_all None c d gs e apart h = absurd cc
  with_all (Some k) c d gs e apart h = (h.0.0, all_back k gs apart h.0.1 h.1)

  pub grouped_back : (x : ℕ) (ds : List Node) → HaveSymbols x ds → AllIn P (grouped x ds) → AllByRecursion P ds
  grouped_back x [] l h = tt
  grouped_back x (d ∷ ds) l h =
      let k = with_all (symbol_at x d) l.0.0 d (grouped x ds) l.0.1 (grouped_apart x ds) h in
      (k.0, grouped_back x ds l.1 k.1)
