-- Behind a goal that cannot fail and may answer, what was known of a variable that was bound before is still known of it.
use Rattle.std.proofs.Common.{◌≡◌, ◌⊎◌, inl, inr, ℕ, Bool, true, false, ◌==◌, List, ◌∷◌, if◌then◌else◌, Option, Some, refl, ap, sym, ◌∙◌, subst}
use Rattle.merc_base.specs.Category.{can_fail_of, most_of}
use Rattle.merc_base.specs.declared.category.Category.{Category}
use Rattle.merc_base.specs.declared.category.Category.TheVariants.{Det, Failure}
use Rattle.merc_base.specs.declared.category.Most.TheVariants.{Zero}
use Rattle.merc_tree.specs.Types.{TypeExpr}
use Rattle.merc_tree.specs.declared.declarations.ModeDecl.{ModeDecl}
use Rattle.merc_tree.specs.declared.declarations.TypeDef.{TypeDef}
use Rattle.merc_goal_tree.specs.declared.goal.Symbol.{Symbol}
use Rattle.merc_graded_tree.specs.declared.basic.BasicGoal.{BasicGoal}
use Rattle.merc_graded_tree.specs.declared.basic.BasicGoal.TheVariants.{True, Fail, Assign, Test, Build, Split, Arithmetic, Compare, Raise, Call, Wait, Signal}
use Rattle.merc_graded_tree.specs.declared.entries.Running.{Running}
use Rattle.merc_graded_tree.specs.Nodes.{Node, node, Goal, Basic, Conjunction, Disjunction, Switch, Conditional, Negation, Quantified, Nodes, no_nodes, more_nodes, list_of, outputs_of}
use Rattle.merc_order.specs.Bound.{Bound, with, among}
use Rattle.merc_order_laws.specs.Bindings.{Variables}
use Rattle.merc_order_laws.specs.GoodTree.{GoodBasic, GoodNode, GoodGoal, GoodNodes}
use Rattle.merc_order_laws.proofs.Facts.{clash, or_left}
use Rattle.merc_grading.specs.Categories.{conjunction_category}
use Rattle.merc_grading.specs.Known.{same_symbol, symbols_of_type, is_single, Known, known_of, known_behind_basic, known_behind, known_behind_goal, known_behind_all}
use Rattle.merc_grading.specs.Grading.{split_category, given, category_at, categories, basic_category, rule}
use Rattle.merc_program_laws.proofs.Values.{same_number, chosen_true, chosen_false, symbol_decides}
use Rattle.merc_program_laws.proofs.Maxima.{capped_fail, capped_is_zero, then_sure, then_is_zero}
use Rattle.merc_program_laws.proofs.Graded.{Graded, GradedGoal, GradedAll, handed_or_zero}
use Rattle.merc_script_laws.proofs.Seen.{other_more, other_with}

free_apart : (b : Bound) (x y : ℕ) → b x ≡ true → b y ≡ false → y ≡ x → ⊥
free_apart b x y p q e = clash p (ap b (sym e) ∙ q)

-- a split that cannot fail is by the symbol that is known
split_same : (single z : Bool) (u s : Symbol) → same_symbol u s ≡ z → can_fail_of (if z then Det else Failure) ≡ false → u ≡ s
split_same single true u s e sure = (symbol_decides u s).0 e
split_same single false u s e sure = clash refl sure

-- Given are the declared types, the modes of each predicate, and the type of each variable.
module _ (declared : List TypeDef) (modes : ℕ → List ModeDecl) (types : ℕ → TypeExpr) where
  split_stays : (seen : Known) (y x : ℕ) (u s : Symbol) → can_fail_of (split_category (is_single (symbols_of_type declared (types y))) u (known_of seen y)) ≡ false → known_of seen x ≡ Some s
      → ((y == x ≡ true) × (y ≡ x)) ⊎ ((y == x ≡ false) × (y ≡ x → ⊥)) → known_of ((y, u) ∷ seen) x ≡ Some s
  split_stays seen y x u s sure e (inl p) =
      let single : Bool = is_single (symbols_of_type declared (types y)) in
      let is : known_of seen y ≡ Some s = ap (known_of seen) p.1 ∙ e in
      let same : u ≡ s = split_same single (same_symbol u s) u s refl (subst (λ (o : Option Symbol). can_fail_of (split_category single u o) ≡ false) is sure) in
      chosen_true (Some u) (known_of seen x) p.0 ∙ ap Some same
  split_stays seen y x u s sure e (inr p) = chosen_false (Some u) (known_of seen x) p.0 ∙ e

  basic_stays : (g : BasicGoal) (out : Variables) (b : Bound) (outs : List ℕ) (seen : Known) → GoodBasic modes out b outs g → can_fail_of (basic_category declared modes types seen g) ≡ false → (x : ℕ) → b x ≡ true → (s : Symbol)
      → known_of seen x ≡ Some s → known_of (known_behind_basic g seen) x ≡ Some s
  basic_stays True out b outs seen good sure x h s e = e
  basic_stays Fail out b outs seen good sure x h s e = e
  basic_stays (Assign to from) out b outs seen good sure x h s e = other_with seen to x (known_of seen from) (free_apart b x to h good.1) ∙ e
  basic_stays (Test y z) out b outs seen good sure x h s e = e
  basic_stays (Build y u ys) out b outs seen good sure x h s e = other_more seen y x u (free_apart b x y h good.1) ∙ e
  basic_stays (Split y u ys) out b outs seen good sure x h s e = split_stays seen y x u s sure e (same_number y x)
  basic_stays (Arithmetic op w y z) out b outs seen good sure x h s e = e
  basic_stays (Compare test y z) out b outs seen good sure x h s e = e
  basic_stays (Raise y) out b outs seen good sure x h s e = e
  basic_stays (Call p args) out b outs seen good sure x h s e = e
  basic_stays (Wait y n) out b outs seen good sure x h s e = e
  basic_stays (Signal y n) out b outs seen good sure x h s e = e

  abbrev Rule : Known → Goal → Category
  Rule seen g = rule declared modes types seen g

  abbrev Joined : Nodes → Category
  Joined ns = conjunction_category (categories (list_of ns))

  mutual
    pub known_stays : (n : Node) (out : Variables) (b : Bound) (seen : Known) → GoodNode modes out b n → Graded declared modes types seen n → can_fail_of (category_at n) ≡ false → (most_of (category_at n) ≡ Zero → ⊥) → (x : ℕ) → b x ≡ true
        → (s : Symbol) → known_of seen x ≡ Some s → known_of (known_behind n seen) x ≡ Some s
    known_stays (node g outs cat span) out b seen good has sure some x h s e =
        goal_stays g out b outs seen good.2 has.1 (sym (capped_fail outs (Rule seen g)) ∙ sym (ap (λ (c : Option Category). can_fail_of (given c)) has.0) ∙ sure)
        (λ z. some (ap (λ (c : Option Category). most_of (given c)) has.0 ∙ capped_is_zero outs (Rule seen g) z)) x h s e

    goal_stays : (g : Goal) (out : Variables) (b : Bound) (outs : List ℕ) (seen : Known) → GoodGoal modes out b outs g → GradedGoal declared modes types seen g → can_fail_of (Rule seen g) ≡ false → (most_of (Rule seen g) ≡ Zero → ⊥)
        → (x : ℕ) → b x ≡ true → (s : Symbol) → known_of seen x ≡ Some s → known_of (known_behind_goal g seen) x ≡ Some s
    goal_stays (Basic g) out b outs seen good has sure some x h s e = basic_stays g out b outs seen good sure x h s e
    goal_stays (Conjunction running ns) out b outs seen good has sure some x h s e = all_stay running ns out b seen good.0 has sure some x h s e
    goal_stays (Disjunction ns) out b outs seen good has sure some x h s e = e
    goal_stays (Switch y arms) out b outs seen good has sure some x h s e = e
    goal_stays (Conditional c t f) out b outs seen good has sure some x h s e = e
    goal_stays (Negation n) out b outs seen good has sure some x h s e = e
    goal_stays (Quantified own n) out b outs seen good has sure some x h s e = known_stays n out b seen good.0 has sure some x h s e

    all_stay : (running : Running) (ns : Nodes) (out : Variables) (b : Bound) (seen : Known) → GoodNodes modes out b ns → GradedAll declared modes types running seen ns → can_fail_of (Joined ns) ≡ false → (most_of (Joined ns) ≡ Zero → ⊥) → (x : ℕ) → b x ≡ true
        → (s : Symbol) → known_of seen x ≡ Some s → known_of (known_behind_all ns seen) x ≡ Some s
    all_stay running no_nodes out b seen good has sure some x h s e = e
    all_stay running (more_nodes n ns) out b seen good has sure some x h s e =
        let each = then_sure (category_at n) (Joined ns) sure in
        let some_n : most_of (category_at n) ≡ Zero → ⊥ = λ z. some (then_is_zero (category_at n) (Joined ns) (inl z)) in
        let sure_ns : can_fail_of (Joined ns) ≡ false = elim each.1 as (λ _. can_fail_of (Joined ns) ≡ false) [ inl z ↦ absurd (some_n z) | inr q ↦ q ] in
        let has_ns : GradedAll declared modes types running (known_behind n seen) ns =
        elim (handed_or_zero running (category_at n) (known_behind n seen) seen) as (λ _. GradedAll declared modes types running (known_behind n seen) ns) [
          | inl same ↦ subst (λ (k : Known). GradedAll declared modes types running k ns) same has.1
          | inr z ↦ absurd (some_n z)
        ] in
        all_stay running ns _ (with b (among (outputs_of n))) (known_behind n seen) good.1 has_ns sure_ns (λ z. some (then_is_zero (category_at n) (Joined ns) (inr z))) x (or_left (b x) (among (outputs_of n) x) h) s
        (known_stays n _ b seen good.0 has.0 each.0 some_n x h s e)
