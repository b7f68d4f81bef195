-- The bodies of procedures and asked goals are good.
use Rattle.std.proofs.Common.{◌≡◌, inl, inr, ℕ, zero, suc, ◌<◌, ◌≤◌, ◌+◌, Bool, true, false, not, ◌==◌, ◌||◌, if◌then◌else◌, nat_lt, max, List, [], ◌∷◌, ◌++◌, length, refl, ap, sym, subst, ◌∙◌, arith}
use Rattle.std.proofs.lemmas.Bool.Decides.{Decides-eqb, Decides-ltb}
use Rattle.std.specs.List.{list_all}
use Rattle.merc_base.specs.declared.place.Span.{Span}
use Rattle.merc_tree.specs.declared.declarations.Arg.{Arg}
use Rattle.merc_tree.specs.declared.declarations.Arg.TheVariants.{Input, Output}
use Rattle.merc_tree.specs.declared.declarations.ModeDecl.{ModeDecl}
use Rattle.merc_goal_tree.specs.Nodes.{Node, span_of}
use Rattle.merc_goal_tree.specs.Variables.{variables, count}
use Rattle.merc_graded_tree.specs.Nodes.{Node as OrderedNode, outputs_of}
use Rattle.merc_order.specs.Bound.{Bound, nothing, among}
use Rattle.merc_order.specs.Faults.{unbound_output}
use Rattle.merc_order.specs.Order.{from, binds, reached}
use Rattle.merc_order.specs.Ordered.{Ordered, Ready, Stuck}
use Rattle.merc_order.specs.Procedures.{bound_at, numbers_below, total_of, are_bound_behind, body_from, beyond, first_fresh, IsBody}
use Rattle.merc_order.specs.Spelt.{spelt, twins}
use Rattle.merc_order_laws.specs.Bindings.{Variables}
use Rattle.merc_order_laws.specs.GoodTree.{node_ends, GoodNode}
use Rattle.merc_order_laws.specs.Laws.{Sized, Outer, AllBelow, SpeltIsGood, BindsHeads, ProcedureIsGood, ProcedureBindsHeads, QueryIsGood, QueryBindsAnswers, IsMadeFrom, ProcedureIsMadeFrom, QueryIsMadeFrom}
use Rattle.merc_order_laws.specs.OrderedVariables.{in_ordered, ordered_outputs}
use Rattle.merc_order_laws.specs.MadeOf.{original, IsMadeOf}
use Rattle.merc_order_laws.proofs.Facts.{clash, or_left, or_right, or_cases, not_true, either_way, among_append, among_counts, not_counted, lt_is}
use Rattle.merc_order_laws.proofs.Ordering.{if_ready_is, if_is, Fits, behind_one, list_all_in, from_fits}
use Rattle.merc_order_laws.proofs.SpeltGood.{spelt_good}
use Rattle.merc_order_laws.proofs.SpeltVariables.{outputs_stay, ends_stay}
use Rattle.merc_order_laws.proofs.SpeltWritten.{original_old, spelt_is_made_of}

none_from : (number : ℕ) (these : Variables) → AllBelow number these → (v : ℕ) → number ≤ v → these v ≡ false
none_from number these below v l = not_true (these v) (λ h. absurd (omega (arith, l, below v h)))

pub spelt_is_good : SpeltIsGood
spelt_is_good modes ordered number outside bound good own out known =
    spelt_good modes ordered number bound outside outside (record {
      below = own;
      none_bound = none_from number bound known;
      agree = λ v h. refl;
      misses = λ v l r. none_from number outside out v l;
    }) good

-- Numbers.

max_left : (a b : ℕ) → a ≤ max a b
max_left a b = omega (arith)

max_right : (a b : ℕ) → b ≤ max a b
max_right a b = omega (arith)

beyond_all : (xs : List ℕ) → AllBelow (beyond xs) (among xs)
beyond_all [] v h = clash h refl
beyond_all (x ∷ xs) v h = elim (or_cases (v == x) (among xs v) h) as (λ _. v < beyond (x ∷ xs)) [
  | inl k ↦ omega (arith, (Decides-eqb v x).0 k, max_left (suc x) (beyond xs))
  | inr k ↦ omega (arith, beyond_all xs v k, max_right (suc x) (beyond xs))
]

pub inputs_below : (places : List Arg) (v : ℕ) → bound_at places v ≡ true → v < length places
inputs_below [] v h = clash h refl
inputs_below (Input ∷ places) zero h = omega (arith)
inputs_below (Output ∷ places) zero h = clash h refl
inputs_below (Input ∷ places) (suc v) h = omega (arith, inputs_below places v h)
inputs_below (Output ∷ places) (suc v) h = omega (arith, inputs_below places v h)

pub below_are : (n v : ℕ) → v < n → among (numbers_below n) v ≡ true
below_are zero v l = absurd (omega (arith, l))
below_are (suc n) v l = among_append v (numbers_below n) (n ∷ []) ∙ elim (either_way (v == n)) as (λ _. (among (numbers_below n) v || ((v == n) || false)) ≡ true) [
  | inl k ↦ or_right (among (numbers_below n) v) ((v == n) || false) (or_left (v == n) false k)
  | inr k ↦ or_left (among (numbers_below n) v) ((v == n) || false) (below_are n v (less v n l (λ e. clash ((Decides-eqb v n).1 e) k)))
] where
  less : (a b : ℕ) → a < suc b → (a ≡ b → ⊥) → a < b
  less a b l h = omega (arith, l, h)

-- What occurs outside a body is counted so.

count_case : (h : Bool) (k n : ℕ) → (h ≡ true → 0 < n) → (h ≡ false → n ≡ 0) → h ≡ nat_lt k (k + n)
count_case true k n f g = sym (lt_is k (k + n) (omega (arith, f refl)))
count_case false k n f g = sym (not_true (nat_lt k (k + n)) (λ h. absurd (omega (arith, g refl, (Decides-ltb k (k + n)).0 h))))

outer_heads : (heads : List ℕ) (goal : Node) → Outer (total_of heads goal) (among heads) (variables goal)
outer_heads heads goal = (
  λ v h. count_case (among heads v) (count v (variables goal)) (count v heads) (among_counts v heads) (not_counted v heads),
  λ v. omega (arith),
)

-- A body.
record Body (modes : ℕ → List ModeDecl) (heads : List ℕ) (bound : Bound) (goal : Node) (tree : OrderedNode) : Type 0 where
  ordered : Ordered
  is_from : from (total_of heads goal) modes goal bound ≡ Ready ordered
  fits : Fits (total_of heads goal) modes bound (variables goal) (binds (total_of heads goal) modes goal) (reached (total_of heads goal) modes goal) ordered
  heads_bound : are_bound_behind modes heads bound goal ≡ true
  is_tree : tree ≡ spelt modes (first_fresh heads goal) ordered

body_is : (modes : ℕ → List ModeDecl) (heads : List ℕ) (bound : Bound) (span : Span) (goal : Node) (tree : OrderedNode) → Sized modes goal → IsBody modes heads (body_from modes heads bound span goal) goal tree → Body modes heads bound goal tree
body_is modes heads bound span goal tree sized (ordered, ready, is_tree) =
    let (o, p, q) = if_ready_is (from (total_of heads goal) modes goal bound) (λ found. if are_bound_behind modes heads bound goal then Ready found else Stuck (unbound_output span)) ordered ready in
    let k = if_is (are_bound_behind modes heads bound goal) o ordered (unbound_output span) q in
    record {
      ordered = ordered;
      is_from = p ∙ ap (λ (z : Ordered). Ready z) k.1;
      fits = from_fits (total_of heads goal) modes goal sized bound ordered (p ∙ ap (λ (z : Ordered). Ready z) k.1);
      heads_bound = k.0;
      is_tree = is_tree;
    }

own_below : (modes : ℕ → List ModeDecl) (heads : List ℕ) (bound : Bound) (goal : Node) (tree : OrderedNode) (b : Body modes heads bound goal tree) → AllBelow (first_fresh heads goal) (in_ordered b.ordered)
own_below modes heads bound goal tree b v h =
    beyond_all (heads ++ variables goal) v (among_append v heads (variables goal) ∙ or_right (among heads v) (among (variables goal) v) (sym (b.fits.vars v) ∙ h))

body_good : (modes : ℕ → List ModeDecl) (heads : List ℕ) (bound : Bound) (goal : Node) (tree : OrderedNode) → ((v : ℕ) → bound v ≡ true → among heads v ≡ true) → Body modes heads bound goal tree → GoodNode modes (among heads) bound tree
body_good modes heads bound goal tree within b =
    let head_below : AllBelow (first_fresh heads goal) (among heads) =
    λ v h. beyond_all (heads ++ variables goal) v (among_append v heads (variables goal) ∙ or_left (among heads v) (among (variables goal) v) h) in
    subst (λ (t : OrderedNode). GoodNode modes (among heads) bound t) (sym b.is_tree)
    (spelt_is_good modes b.ordered (first_fresh heads goal) (among heads) bound (b.fits.good (among heads) bound (outer_heads heads goal) (λ v h. refl))
    (own_below modes heads bound goal tree b) head_below (λ v h. head_below v (within v h)))

body_binds : (modes : ℕ → List ModeDecl) (heads : List ℕ) (bound : Bound) (goal : Node) (tree : OrderedNode) → Body modes heads bound goal tree → BindsHeads modes heads bound tree
body_binds modes heads bound goal tree b =
    let outs : outputs_of tree ≡ ordered_outputs b.ordered = ap (λ (t : OrderedNode). outputs_of t) b.is_tree ∙ outputs_stay modes b.ordered (first_fresh heads goal) in
    elim (or_cases (not (reached (total_of heads goal) modes goal)) (list_all (λ v. bound v || binds (total_of heads goal) modes goal v) heads) b.heads_bound) as (λ _. BindsHeads modes heads bound tree) [
      | inl k ↦ inl (ap (λ (t : OrderedNode). node_ends modes t) b.is_tree ∙ ends_stay modes b.ordered (first_fresh heads goal) ∙ b.fits.ended ∙ unreached (reached (total_of heads goal) modes goal) k)
      | inr k ↦ inr (λ v h. ap (λ (l : List ℕ). bound v || among l v) outs
          ∙ behind_one (total_of heads goal) modes bound (variables goal) (binds (total_of heads goal) modes goal) (reached (total_of heads goal) modes goal) b.ordered b.fits (among heads) bound (outer_heads heads goal) v h refl
          ∙ list_all_in (total_of heads goal) modes (λ z. bound z || binds (total_of heads goal) modes goal z) heads v k h)
    ] where
      unreached : (r : Bool) → not r ≡ true → r ≡ false
      unreached true h = clash h refl
      unreached false h = refl

pub procedure_is_good : ProcedureIsGood
procedure_is_good modes arity mode goal tree sized long is =
    body_good modes (numbers_below arity) (bound_at mode.args) goal tree (λ v h. below_are arity v (omega (arith, long, inputs_below mode.args v h)))
    (body_is modes (numbers_below arity) (bound_at mode.args) mode.span goal tree sized is)

pub procedure_binds_heads : ProcedureBindsHeads
procedure_binds_heads modes arity mode goal tree sized is =
    body_binds modes (numbers_below arity) (bound_at mode.args) goal tree (body_is modes (numbers_below arity) (bound_at mode.args) mode.span goal tree sized is)

pub query_is_good : QueryIsGood
query_is_good modes answers goal tree sized is =
    body_good modes answers nothing goal tree (λ v h. clash h refl) (body_is modes answers nothing (span_of goal) goal tree sized is)

pub query_binds_answers : QueryBindsAnswers
query_binds_answers modes answers goal tree sized is = body_binds modes answers nothing goal tree (body_is modes answers nothing (span_of goal) goal tree sized is)

-- What a body is made of.

body_made : (modes : ℕ → List ModeDecl) (heads : List ℕ) (bound : Bound) (goal : Node) (tree : OrderedNode) → Body modes heads bound goal tree → IsMadeFrom (first_fresh heads goal) goal tree
body_made modes heads bound goal tree b = (
  original (first_fresh heads goal) (twins b.ordered),
  original_old (first_fresh heads goal) (twins b.ordered),
  subst (λ (t : OrderedNode). IsMadeOf goal (original (first_fresh heads goal) (twins b.ordered)) t) (sym b.is_tree)
      (spelt_is_made_of (total_of heads goal) modes goal bound b.ordered (first_fresh heads goal) b.is_from (own_below modes heads bound goal tree b)),
)

pub procedure_is_made_from : ProcedureIsMadeFrom
procedure_is_made_from modes arity mode goal tree sized is =
    body_made modes (numbers_below arity) (bound_at mode.args) goal tree (body_is modes (numbers_below arity) (bound_at mode.args) mode.span goal tree sized is)

pub query_is_made_from : QueryIsMadeFrom
query_is_made_from modes answers goal tree sized is = body_made modes answers nothing goal tree (body_is modes answers nothing (span_of goal) goal tree sized is)
