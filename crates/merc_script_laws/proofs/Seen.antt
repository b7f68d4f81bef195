-- Categories depend on what is known of the variables that occur in a goal, and on nothing else that is known.
use Rattle.std.proofs.Common.{◌≡◌, inl, inr, ℕ, Bool, true, false, ◌==◌, ◌||◌, if◌then◌else◌, List, [], ◌∷◌, Option, Some, None, refl, ap, sym, ◌∙◌, subst}
use Rattle.std.specs.List.{filter}
use Rattle.merc_base.specs.Category.{most_of}
use Rattle.merc_base.specs.declared.category.Category.{Category}
use Rattle.merc_tree.specs.Types.{TypeExpr}
use Rattle.merc_tree.specs.declared.declarations.ModeDecl.{ModeDecl}
use Rattle.merc_tree.specs.declared.declarations.TypeDef.{TypeDef}
use Rattle.merc_goal_tree.specs.declared.goal.Symbol.{Symbol}
use Rattle.merc_graded_tree.specs.declared.basic.BasicGoal.{BasicGoal}
use Rattle.merc_graded_tree.specs.declared.basic.BasicGoal.TheVariants.{True, Fail, Assign, Test, Build, Split, Arithmetic, Compare, Raise, Call, Wait, Signal}
use Rattle.merc_graded_tree.specs.declared.entries.Running.{Running}
use Rattle.merc_graded_tree.specs.declared.entries.Running.TheVariants.{Sequential, Parallel}
use Rattle.merc_graded_tree.specs.Nodes.{Node, node, Goal, Basic, Conjunction, Disjunction, Switch, Conditional, Negation, Quantified, Nodes, no_nodes, more_nodes, Arms, no_arms, more_arms}
use Rattle.merc_graded_tree.specs.Variables.{in_goal, in_node, in_nodes, in_arms}
use Rattle.merc_order_laws.specs.Bindings.{Variables}
use Rattle.merc_order_laws.proofs.Facts.{clash, or_left, or_right}
use Rattle.merc_grading.specs.Categories.{is_zero}
use Rattle.merc_grading.specs.Known.{symbols_of_type, is_single, Known, known_of, with_known, known_behind_basic, known_behind, known_behind_goal, known_behind_all}
use Rattle.merc_grading.specs.Grading.{category_at, handed_on, split_category, capped, rule}
use Rattle.merc_program_laws.proofs.Values.{or_not_left, or_not_right, same_number, chosen_false, among_here, among_there, not_here}
use Rattle.merc_program_laws.proofs.Graded.{Graded, GradedGoal, GradedAll, GradedEach, GradedArms}

-- the same is known of these variables
abbrev pub Agree : Variables → Known → Known → Type 0
Agree these seen seen' = (x : ℕ) → these x ≡ true → known_of seen x ≡ known_of seen' x

abbrev pub Within : Variables → Variables → Type 0
Within some these = (x : ℕ) → some x ≡ true → these x ≡ true

pub agree_back : (these : Variables) (seen seen' : Known) → Agree these seen seen' → Agree these seen' seen
agree_back these seen seen' h x m = sym (h x m)

-- a symbol more
agree_more : (these : Variables) (seen seen' : Known) (v : ℕ) (s : Symbol) → Agree these seen seen' → Agree these ((v, s) ∷ seen) ((v, s) ∷ seen')
agree_more these seen seen' v s h x m = ap (λ (o : Option Symbol). if v == x then Some s else o) (h x m)

agree_with : (these : Variables) (seen seen' : Known) (v : ℕ) (o p : Option Symbol) → o ≡ p → Agree these seen seen' → Agree these (with_known v o seen) (with_known v p seen')
agree_with these seen seen' v None None e h = h
agree_with these seen seen' v (Some s) (Some t) e h = subst (λ (z : Option Symbol). Agree these ((v, s) ∷ seen) (with_known v z seen')) e (agree_more these seen seen' v s h)
agree_with these seen seen' v None (Some t) e h = absurd cc
agree_with these seen seen' v (Some s) None e h = absurd cc

agree_if : (these : Variables) (b : Bool) (seen seen' behind behind' : Known) → Agree these seen seen' → Agree these behind behind' → Agree these (if b then seen else behind) (if b then seen' else behind')
agree_if these true seen seen' behind behind' h k = h
agree_if these false seen seen' behind behind' h k = k

-- what a goal of a conjunction hands on
agree_handed : (these : Variables) (running : Running) (c : Category) (seen seen' behind behind' : Known) → Agree these seen seen' → Agree these behind behind'
    → Agree these (handed_on running c behind seen) (handed_on running c behind' seen')
agree_handed these Sequential c seen seen' behind behind' h k = k
agree_handed these (Parallel site) c seen seen' behind behind' h k = agree_if these (is_zero (most_of c)) seen seen' behind behind' h k

-- agreement on a set that holds the variables of a goal is kept behind the goal

basic_agree : (these : Variables) (g : BasicGoal) (seen seen' : Known) → Within (in_goal (Basic g)) these → Agree these seen seen' → Agree these (known_behind_basic g seen) (known_behind_basic g seen')
basic_agree these True seen seen' i h = h
basic_agree these Fail seen seen' i h = h
basic_agree these (Assign to from) seen seen' i h =
    agree_with these seen seen' to (known_of seen from) (known_of seen' from) (h from (i from (among_there from to (from ∷ []) (among_here from [])))) h
basic_agree these (Test x y) seen seen' i h = h
basic_agree these (Build x s ys) seen seen' i h = agree_more these seen seen' x s h
basic_agree these (Split x s ys) seen seen' i h = agree_more these seen seen' x s h
basic_agree these (Arithmetic op z x y) seen seen' i h = h
basic_agree these (Compare test x y) seen seen' i h = h
basic_agree these (Raise x) seen seen' i h = h
basic_agree these (Call p args) seen seen' i h = h
basic_agree these (Wait x n) seen seen' i h = h
basic_agree these (Signal x n) seen seen' i h = h

first_within : (these a b : Variables) → Within (λ x. a x || b x) these → Within a these
first_within these a b i x h = i x (or_left (a x) (b x) h)

rest_within : (these a b : Variables) → Within (λ x. a x || b x) these → Within b these
rest_within these a b i x h = i x (or_right (a x) (b x) h)

mutual
  pub behind_agree : (these : Variables) (n : Node) (seen seen' : Known) → Within (in_node n) these → Agree these seen seen' → Agree these (known_behind n seen) (known_behind n seen')
  behind_agree these (node g outs cat span) seen seen' i h = behind_goal_agree these g seen seen' i h

  behind_goal_agree : (these : Variables) (g : Goal) (seen seen' : Known) → Within (in_goal g) these → Agree these seen seen' → Agree these (known_behind_goal g seen) (known_behind_goal g seen')
  behind_goal_agree these (Basic g) seen seen' i h = basic_agree these g seen seen' i h
  behind_goal_agree these (Conjunction running ns) seen seen' i h = behind_all_agree these ns seen seen' i h
  behind_goal_agree these (Disjunction ns) seen seen' i h = h
  behind_goal_agree these (Switch x arms) seen seen' i h = h
  behind_goal_agree these (Conditional c t e) seen seen' i h = h
  behind_goal_agree these (Negation n) seen seen' i h = h
  behind_goal_agree these (Quantified own n) seen seen' i h = behind_agree these n seen seen' i h

  behind_all_agree : (these : Variables) (ns : Nodes) (seen seen' : Known) → Within (in_nodes ns) these → Agree these seen seen' → Agree these (known_behind_all ns seen) (known_behind_all ns seen')
  behind_all_agree these no_nodes seen seen' i h = h
  behind_all_agree these (more_nodes n ns) seen seen' i h =
      behind_all_agree these ns (known_behind n seen) (known_behind n seen') (rest_within these (in_node n) (in_nodes ns) i) (behind_agree these n seen seen' (first_within these (in_node n) (in_nodes ns) i) h)

-- a goal tells nothing of variables that do not occur in it

pub other_more : (seen : Known) (v x : ℕ) (s : Symbol) → (v ≡ x → ⊥) → known_of ((v, s) ∷ seen) x ≡ known_of seen x
other_more seen v x s h = elim (same_number v x) as (λ _. known_of ((v, s) ∷ seen) x ≡ known_of seen x) [
  | inl p ↦ absurd (h p.1)
  | inr p ↦ chosen_false (Some s) (known_of seen x) p.0
]

pub other_with : (seen : Known) (v x : ℕ) (o : Option Symbol) → (v ≡ x → ⊥) → known_of (with_known v o seen) x ≡ known_of seen x
other_with seen v x None h = refl
other_with seen v x (Some s) h = other_more seen v x s h

basic_other : (g : BasicGoal) (seen : Known) (x : ℕ) → in_goal (Basic g) x ≡ false → known_of (known_behind_basic g seen) x ≡ known_of seen x
basic_other True seen x n = refl
basic_other Fail seen x n = refl
basic_other (Assign to from) seen x n = other_with seen to x (known_of seen from) (λ e. not_here x to (from ∷ []) n (sym e))
basic_other (Test y z) seen x n = refl
basic_other (Build y s ys) seen x n = other_more seen y x s (λ e. not_here x y ys n (sym e))
basic_other (Split y s ys) seen x n = other_more seen y x s (λ e. not_here x y ys n (sym e))
basic_other (Arithmetic op w y z) seen x n = refl
basic_other (Compare test y z) seen x n = refl
basic_other (Raise y) seen x n = refl
basic_other (Call p args) seen x n = refl
basic_other (Wait y k) seen x n = refl
basic_other (Signal y k) seen x n = refl

mutual
  pub behind_other : (n : Node) (seen : Known) (x : ℕ) → in_node n x ≡ false → known_of (known_behind n seen) x ≡ known_of seen x
  behind_other (node g outs cat span) seen x n = behind_goal_other g seen x n

  behind_goal_other : (g : Goal) (seen : Known) (x : ℕ) → in_goal g x ≡ false → known_of (known_behind_goal g seen) x ≡ known_of seen x
  behind_goal_other (Basic g) seen x n = basic_other g seen x n
  behind_goal_other (Conjunction running ns) seen x n = behind_all_other ns seen x n
  behind_goal_other (Disjunction ns) seen x n = refl
  behind_goal_other (Switch y arms) seen x n = refl
  behind_goal_other (Conditional c t e) seen x n = refl
  behind_goal_other (Negation m) seen x n = refl
  behind_goal_other (Quantified own m) seen x n = behind_other m seen x n

  pub behind_all_other : (ns : Nodes) (seen : Known) (x : ℕ) → in_nodes ns x ≡ false → known_of (known_behind_all ns seen) x ≡ known_of seen x
  behind_all_other no_nodes seen x n = refl
  behind_all_other (more_nodes m ns) seen x n =
      behind_all_other ns (known_behind m seen) x (or_not_right (in_node m x) (in_nodes ns x) n) ∙ behind_other m seen x (or_not_left (in_node m x) (in_nodes ns x) n)

-- Given are the declared types, the modes of each predicate, and the type of each variable.
module _ (declared : List TypeDef) (modes : ℕ → List ModeDecl) (types : ℕ → TypeExpr) where
  rule_same : (these : Variables) (g : Goal) (seen seen' : Known) → Within (in_goal g) these → Agree these seen seen' → rule declared modes types seen g ≡ rule declared modes types seen' g
  rule_same these (Basic True) seen seen' i h = refl
  rule_same these (Basic Fail) seen seen' i h = refl
  rule_same these (Basic (Assign to from)) seen seen' i h = refl
  rule_same these (Basic (Test x y)) seen seen' i h = refl
  rule_same these (Basic (Build x s ys)) seen seen' i h = refl
  rule_same these (Basic (Split x s ys)) seen seen' i h = ap (split_category (is_single (symbols_of_type declared (types x))) s) (h x (i x (among_here x ys)))
  rule_same these (Basic (Arithmetic op z x y)) seen seen' i h = refl
  rule_same these (Basic (Compare test x y)) seen seen' i h = refl
  rule_same these (Basic (Raise x)) seen seen' i h = refl
  rule_same these (Basic (Call p args)) seen seen' i h = refl
  rule_same these (Basic (Wait x n)) seen seen' i h = refl
  rule_same these (Basic (Signal x n)) seen seen' i h = refl
  rule_same these (Conjunction running ns) seen seen' i h = refl
  rule_same these (Disjunction ns) seen seen' i h = refl
  rule_same these (Switch x arms) seen seen' i h = refl
  rule_same these (Conditional c t e) seen seen' i h = refl
  rule_same these (Negation n) seen seen' i h = refl
  rule_same these (Quantified own n) seen seen' i h = refl

  -- categories depend on what is known of the variables that occur
  mutual
    graded_within : (these : Variables) (n : Node) (seen seen' : Known) → Within (in_node n) these → Agree these seen seen' → Graded declared modes types seen n → Graded declared modes types seen' n
    graded_within these (node g outs cat span) seen seen' i h has =
        (has.0 ∙ ap (λ (c : Category). Some (capped outs c)) (rule_same these g seen seen' i h), goal_within these g seen seen' i h has.1)

    goal_within : (these : Variables) (g : Goal) (seen seen' : Known) → Within (in_goal g) these → Agree these seen seen' → GradedGoal declared modes types seen g → GradedGoal declared modes types seen' g
    goal_within these (Basic g) seen seen' i h has = tt
    goal_within these (Conjunction running ns) seen seen' i h has = all_within these running ns seen seen' i h has
    goal_within these (Disjunction ns) seen seen' i h has = each_within these ns seen seen' i h has
    goal_within these (Switch x arms) seen seen' i h has = arms_within these arms seen seen' x (rest_within these (λ y. y == x) (in_arms arms) i) h has
    goal_within these (Conditional c t e) seen seen' i h has =
        let i_c = first_within these (in_node c) (λ x. in_node t x || in_node e x) i in
        let i_te = rest_within these (in_node c) (λ x. in_node t x || in_node e x) i in (
          graded_within these c seen seen' i_c h has.0,
          graded_within these t (known_behind c seen) (known_behind c seen') (first_within these (in_node t) (in_node e) i_te) (behind_agree these c seen seen' i_c h) has.1,
          graded_within these e seen seen' (rest_within these (in_node t) (in_node e) i_te) h has.2,
        )
    goal_within these (Negation n) seen seen' i h has = graded_within these n seen seen' i h has
    goal_within these (Quantified own n) seen seen' i h has = graded_within these n seen seen' i h has

    all_within : (these : Variables) (running : Running) (ns : Nodes) (seen seen' : Known) → Within (in_nodes ns) these → Agree these seen seen' → GradedAll declared modes types running seen ns → GradedAll declared modes types running seen' ns
    all_within these running no_nodes seen seen' i h has = tt
    all_within these running (more_nodes n ns) seen seen' i h has =
        let i_n = first_within these (in_node n) (in_nodes ns) i in
        let next : Known → Known = λ (before : Known). handed_on running (category_at n) (known_behind n before) before in (
          graded_within these n seen seen' i_n h has.0,
          all_within these running ns (next seen) (next seen') (rest_within these (in_node n) (in_nodes ns) i)
              (agree_handed these running (category_at n) seen seen' (known_behind n seen) (known_behind n seen') h (behind_agree these n seen seen' i_n h)) has.1,
        )

    each_within : (these : Variables) (ns : Nodes) (seen seen' : Known) → Within (in_nodes ns) these → Agree these seen seen' → GradedEach declared modes types seen ns → GradedEach declared modes types seen' ns
    each_within these no_nodes seen seen' i h has = tt
    each_within these (more_nodes n ns) seen seen' i h has =
        (graded_within these n seen seen' (first_within these (in_node n) (in_nodes ns) i) h has.0, each_within these ns seen seen' (rest_within these (in_node n) (in_nodes ns) i) h has.1)

    arms_within : (these : Variables) (arms : Arms) (seen seen' : Known) (x : ℕ) → Within (in_arms arms) these → Agree these seen seen' → GradedArms declared modes types seen x arms → GradedArms declared modes types seen' x arms
    arms_within these no_arms seen seen' x i h has = tt
    arms_within these (more_arms s n arms) seen seen' x i h has = (
      graded_within these n ((x, s) ∷ seen) ((x, s) ∷ seen') (first_within these (in_node n) (in_arms arms) i) (agree_more these seen seen' x s h) has.0,
      arms_within these arms seen seen' x (rest_within these (in_node n) (in_arms arms) i) h has.1,
    )

  pub graded_same : (n : Node) (seen seen' : Known) → Agree (in_node n) seen seen' → Graded declared modes types seen n → Graded declared modes types seen' n
  graded_same n seen seen' h has = graded_within (in_node n) n seen seen' (λ x m. m) h has

-- what is known of these variables alone
abbrev pub known_in : Variables → Known → Known
known_in these seen = filter (λ one. these one.0) seen

-- what is known of the variables that occur in a goal
abbrev pub occurring : Node → Known → Known
occurring n seen = known_in (in_node n) seen

kept_case : (these : Variables) (first : ℕ × Symbol) (rest : Known) (x : ℕ) (b : Bool) → these first.0 ≡ b → these x ≡ true → known_of (known_in these rest) x ≡ known_of rest x
    → known_of (if b then first ∷ known_in these rest else known_in these rest) x ≡ known_of (first ∷ rest) x
kept_case these first rest x true e m h = ap (λ (o : Option Symbol). if first.0 == x then Some first.1 else o) h
kept_case these first rest x false e m h = elim (same_number first.0 x) as (λ _. known_of (known_in these rest) x ≡ known_of (first ∷ rest) x) [
  | inl p ↦ clash m (ap these (sym p.1) ∙ e)
  | inr p ↦ h ∙ sym (chosen_false (Some first.1) (known_of rest x) p.0)
]

pub known_in_same : (these : Variables) (seen : Known) (x : ℕ) → these x ≡ true → known_of (known_in these seen) x ≡ known_of seen x
known_in_same these [] x m = refl
known_in_same these (first ∷ rest) x m = kept_case these first rest x (these first.0) refl m (known_in_same these rest x m)

gone_case : (these : Variables) (first : ℕ × Symbol) (rest : Known) (x : ℕ) (b : Bool) → these first.0 ≡ b → these x ≡ false → known_of (known_in these rest) x ≡ None
    → known_of (if b then first ∷ known_in these rest else known_in these rest) x ≡ None
gone_case these first rest x true e m h = elim (same_number first.0 x) as (λ _. known_of (first ∷ known_in these rest) x ≡ None) [
  | inl p ↦ clash e (ap these p.1 ∙ m)
  | inr p ↦ chosen_false (Some first.1) (known_of (known_in these rest) x) p.0 ∙ h
]
gone_case these first rest x false e m h = h

pub known_in_other : (these : Variables) (seen : Known) (x : ℕ) → these x ≡ false → known_of (known_in these seen) x ≡ None
known_in_other these [] x m = refl
known_in_other these (first ∷ rest) x m = gone_case these first rest x (these first.0) refl m (known_in_other these rest x m)

pub occurring_agrees : (n : Node) (seen : Known) → Agree (in_node n) seen (occurring n seen)
occurring_agrees n seen x m = sym (known_in_same (in_node n) seen x m)
