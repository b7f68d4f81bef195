-- Behind a goal that cannot fail and may answer, what is known of a variable that was bound before it was known before, or its type has no other symbol.
use Rattle.std.proofs.Common.{◌≡◌, ◌⊎◌, inl, inr, ℕ, Bool, true, false, if◌then◌else◌, List, [], Option, Some, None, refl, ap, sym, ◌∙◌, subst}
use Rattle.std.specs.List.{AllByRecursion}
use Rattle.merc_base.specs.Category.{can_fail_of, most_of}
use Rattle.merc_base.specs.declared.category.Category.{Category}
use Rattle.merc_base.specs.declared.category.Category.TheVariants.{Det, Failure}
use Rattle.merc_base.specs.declared.category.Most.TheVariants.{Zero}
use Rattle.merc_tree.specs.Types.{replaced}
use Rattle.merc_tree.specs.declared.declarations.Module.{Module}
use Rattle.merc_goal_tree.specs.declared.goal.Symbol.{Symbol}
use Rattle.merc_graded_tree.specs.declared.basic.BasicGoal.{BasicGoal}
use Rattle.merc_graded_tree.specs.declared.basic.BasicGoal.TheVariants.{True, Fail, Assign, Test, Build, Split, Arithmetic, Compare, Raise, Call, Wait, Signal}
use Rattle.merc_graded_tree.specs.declared.entries.Running.{Running}
use Rattle.merc_graded_tree.specs.Nodes.{Node, node, Goal, Basic, Conjunction, Disjunction, Switch, Conditional, Negation, Quantified, Nodes, no_nodes, more_nodes, list_of, outputs_of}
use Rattle.merc_type_check.specs.Typing.{HasSymbol}
use Rattle.merc_order.specs.Bound.{Bound, with, among}
use Rattle.merc_order.specs.Procedures.{modes_of}
use Rattle.merc_order_laws.specs.Bindings.{Variables}
use Rattle.merc_order_laws.specs.GoodTree.{GoodBasic, GoodNode, GoodGoal, GoodNodes}
use Rattle.merc_order_laws.specs.WrittenGoals.{basic_goals, basic_goals_in, all_basic_goals}
use Rattle.merc_order_laws.proofs.Facts.{clash, or_left}
use Rattle.merc_order_laws.proofs.Written.{all_left, all_right}
use Rattle.merc_grading.specs.Categories.{conjunction_category}
use Rattle.merc_grading.specs.Known.{same_symbol, symbols_of_type, is_single, Known, known_of, known_behind_basic, known_behind, known_behind_goal, known_behind_all}
use Rattle.merc_grading.specs.Grading.{split_category, given, category_at, categories, basic_category, rule}
use Rattle.merc_value.specs.Value.{Value, Values}
use Rattle.merc_meaning.specs.Values.{fields}
use Rattle.merc_meaning.specs.Steps.{bound}
use Rattle.merc_program_laws.specs.ValueTypes.{HasType}
use Rattle.merc_program_laws.specs.GoodPrograms.{AreGoodTypes}
use Rattle.merc_program_laws.proofs.Values.{Instance, none_not, same_some, same_number, chosen_true, chosen_false, symbol_decides, at_same}
use Rattle.merc_program_laws.proofs.Knowing.{split_sure}
use Rattle.merc_program_laws.proofs.Maxima.{capped_fail, capped_is_zero, then_sure, then_is_zero}
use Rattle.merc_program_laws.proofs.Graded.{Graded, GradedGoal, GradedAll, handed_or_zero}
use Rattle.merc_program_laws.proofs.TreeCategories.{IsPart}
use Rattle.merc_script_laws.proofs.Seen.{other_more, other_with}

free_apart : (b : Bound) (x y : ℕ) → b x ≡ true → b y ≡ false → y ≡ x → ⊥
free_apart b x y p q e = clash p (ap b (sym e) ∙ q)

-- Given are the module, the types of the variables, and what type variables stand for.
module _ (known : Module) (types i : Instance) (declared : AreGoodTypes known.types) where
  -- each value of a variable's type has this symbol
  abbrev pub HasAlways : ℕ → Symbol → Type 0
  HasAlways x s = (v : Value) → HasType known.types v (replaced i (types x)) → (vs : Values) × (fields s v ≡ Some vs)

  -- the symbol is known before, or there is no other
  abbrev pub KnownBefore : Known → ℕ → Symbol → Type 0
  KnownBefore seen x s = (known_of seen x ≡ Some s) ⊎ HasAlways x s

  abbrev Parts : List BasicGoal → Type 0
  Parts gs = AllByRecursion (IsPart known types i) gs

  abbrev is_only : ℕ → Bool
  is_only x = is_single (symbols_of_type known.types (types x))

  always_case : (x : ℕ) (s : Symbol) (ys : List ℕ) → HasSymbol known types x s ys → can_fail_of (split_category (is_only x) s None) ≡ false → (v : Value) → HasType known.types v (replaced i (types x)) → (o : Option Values) → fields s v ≡ o
      → (vs : Values) × (fields s v ≡ Some vs)
  always_case x s ys has sure v t (Some vs) e = (vs, e)
  always_case x s ys has sure v t None e =
      absurd (split_sure known types i declared [] (bound [] x v) x s ys v (λ y sy k. absurd (none_not k)) (at_same [] x v) t has None refl (is_only x) refl sure e)

  same_case : (seen : Known) (x : ℕ) (s u : Symbol) → known_of seen x ≡ Some u → (z : Bool) → same_symbol s u ≡ z → can_fail_of (if z then Det else Failure) ≡ false → KnownBefore seen x s
  same_case seen x s u e true q sure = inl (e ∙ ap Some (sym ((symbol_decides s u).0 q)))
  same_case seen x s u e false q sure = clash refl sure

  split_static : (seen : Known) (x : ℕ) (s : Symbol) (ys : List ℕ) → HasSymbol known types x s ys → (o : Option Symbol) → known_of seen x ≡ o → can_fail_of (split_category (is_only x) s o) ≡ false → KnownBefore seen x s
  split_static seen x s ys has None e sure = inr (λ v t. always_case x s ys has sure v t (fields s v) refl)
  split_static seen x s ys has (Some u) e sure = same_case seen x s u e (same_symbol s u) refl sure

  basic_static : (g : BasicGoal) (out : Variables) (b : Bound) (outs : List ℕ) (seen : Known) → GoodBasic (modes_of known.preds) out b outs g → IsPart known types i g
      → can_fail_of (basic_category known.types (modes_of known.preds) types seen g) ≡ false → (x : ℕ) → b x ≡ true → (s : Symbol) → known_of (known_behind_basic g seen) x ≡ Some s → KnownBefore seen x s
  basic_static True out b outs seen good part sure x h s e = inl e
  basic_static Fail out b outs seen good part sure x h s e = inl e
  basic_static (Assign to from) out b outs seen good part sure x h s e = inl (sym (other_with seen to x (known_of seen from) (free_apart b x to h good.1)) ∙ e)
  basic_static (Test y z) out b outs seen good part sure x h s e = inl e
  basic_static (Build y u ys) out b outs seen good part sure x h s e = inl (sym (other_more seen y x u (free_apart b x y h good.1)) ∙ e)
  basic_static (Split y u ys) out b outs seen good part sure x h s e = elim (same_number y x) as (λ _. KnownBefore seen x s) [
    | inl p ↦
        let same : u ≡ s = same_some (sym (chosen_true (Some u) (known_of seen x) p.0) ∙ e) in
        subst (λ (t : Symbol). KnownBefore seen x t) same (subst (λ (z : ℕ). KnownBefore seen z u) p.1 (split_static seen y u ys part.0 (known_of seen y) refl sure))
    | inr p ↦ inl (sym (chosen_false (Some u) (known_of seen x) p.0) ∙ e)
  ]
  basic_static (Arithmetic op w y z) out b outs seen good part sure x h s e = inl e
  basic_static (Compare test y z) out b outs seen good part sure x h s e = inl e
  basic_static (Raise y) out b outs seen good part sure x h s e = inl e
  basic_static (Call p args) out b outs seen good part sure x h s e = inl e
  basic_static (Wait y n) out b outs seen good part sure x h s e = inl e
  basic_static (Signal y n) out b outs seen good part sure x h s e = inl e

  abbrev Rule : Known → Goal → Category
  Rule seen g = rule known.types (modes_of known.preds) types seen g

  abbrev Joined : Nodes → Category
  Joined ns = conjunction_category (categories (list_of ns))

  mutual
    pub static_known : (n : Node) (out : Variables) (b : Bound) (seen : Known) → GoodNode (modes_of known.preds) out b n → Graded known.types (modes_of known.preds) types seen n → Parts (basic_goals n)
        → can_fail_of (category_at n) ≡ false → (most_of (category_at n) ≡ Zero → ⊥) → (x : ℕ) → b x ≡ true → (s : Symbol) → known_of (known_behind n seen) x ≡ Some s → KnownBefore seen x s
    static_known (node g outs cat span) out b seen good has parts sure some x h s e =
        goal_static g out b outs seen good.2 has.1 parts
        (sym (capped_fail outs (Rule seen g)) ∙ sym (ap (λ (c : Option Category). can_fail_of (given c)) has.0) ∙ sure)
        (λ z. some (ap (λ (c : Option Category). most_of (given c)) has.0 ∙ capped_is_zero outs (Rule seen g) z)) x h s e

    goal_static : (g : Goal) (out : Variables) (b : Bound) (outs : List ℕ) (seen : Known) → GoodGoal (modes_of known.preds) out b outs g → GradedGoal known.types (modes_of known.preds) types seen g → Parts (basic_goals_in g)
        → can_fail_of (Rule seen g) ≡ false → (most_of (Rule seen g) ≡ Zero → ⊥) → (x : ℕ) → b x ≡ true → (s : Symbol) → known_of (known_behind_goal g seen) x ≡ Some s → KnownBefore seen x s
    goal_static (Basic g) out b outs seen good has parts sure some x h s e = basic_static g out b outs seen good parts.0 sure x h s e
    goal_static (Conjunction running ns) out b outs seen good has parts sure some x h s e = all_static running ns out b seen good.0 has parts sure some x h s e
    goal_static (Disjunction ns) out b outs seen good has parts sure some x h s e = inl e
    goal_static (Switch y arms) out b outs seen good has parts sure some x h s e = inl e
    goal_static (Conditional c t f) out b outs seen good has parts sure some x h s e = inl e
    goal_static (Negation n) out b outs seen good has parts sure some x h s e = inl e
    goal_static (Quantified own n) out b outs seen good has parts sure some x h s e = static_known n out b seen good.0 has parts sure some x h s e

    -- goals one after the other, or beside one another
    pub all_static : (running : Running) (ns : Nodes) (out : Variables) (b : Bound) (seen : Known) → GoodNodes (modes_of known.preds) out b ns → GradedAll known.types (modes_of known.preds) types running seen ns
        → Parts (all_basic_goals ns) → can_fail_of (Joined ns) ≡ false → (most_of (Joined ns) ≡ Zero → ⊥) → (x : ℕ) → b x ≡ true → (s : Symbol) → known_of (known_behind_all ns seen) x ≡ Some s → KnownBefore seen x s
    all_static running no_nodes out b seen good has parts sure some x h s e = inl e
    all_static running (more_nodes n ns) out b seen good has parts sure some x h s e =
        let each = then_sure (category_at n) (Joined ns) sure in
        let some_n : most_of (category_at n) ≡ Zero → ⊥ = λ z. some (then_is_zero (category_at n) (Joined ns) (inl z)) in
        let sure_ns : can_fail_of (Joined ns) ≡ false = elim each.1 as (λ _. can_fail_of (Joined ns) ≡ false) [ inl z ↦ absurd (some_n z) | inr q ↦ q ] in
        let has_ns : GradedAll known.types (modes_of known.preds) types running (known_behind n seen) ns =
        elim (handed_or_zero running (category_at n) (known_behind n seen) seen) as (λ _. GradedAll known.types (modes_of known.preds) types running (known_behind n seen) ns) [
          | inl same ↦ subst (λ (k : Known). GradedAll known.types (modes_of known.preds) types running k ns) same has.1
          | inr z ↦ absurd (some_n z)
        ] in
        elim (all_static running ns _ (with b (among (outputs_of n))) (known_behind n seen) good.1 has_ns (all_right (IsPart known types i) (basic_goals n) (all_basic_goals ns) parts) sure_ns
        (λ z. some (then_is_zero (category_at n) (Joined ns) (inr z))) x (or_left (b x) (among (outputs_of n) x) h) s e) as (λ _. KnownBefore seen x s) [
          | inl k ↦ static_known n _ b seen good.0 has.0 (all_left (IsPart known types i) (basic_goals n) (all_basic_goals ns) parts) each.0 some_n x h s k
          | inr a ↦ inr a
        ]
