-- Goals of which one part is taken: what is so behind them, and the rights that are left for the part.
use Rattle.std.proofs.Common.{◌≡◌, ◌⊎◌, inl, inr, ℕ, ◌<◌, ◌==◌, Bool, true, false, List, length, map, Option, Some, refl, ap, sym, subst, ◌∙◌}
use Rattle.std.specs.List.{filter}
use Rattle.merc_tree.specs.Types.{replaced}
use Rattle.merc_tree.specs.declared.declarations.Module.{Module}
use Rattle.merc_goal_tree.specs.declared.goal.Symbol.{Symbol}
use Rattle.merc_graded_tree.specs.Nodes.{Node}
use Rattle.merc_graded_tree.specs.Variables.{in_node}
use Rattle.merc_grading.specs.Grading.{category_at}
use Rattle.merc_grading.specs.Known.{Known, known_of, known_behind}
use Rattle.merc_order.specs.Bound.{Bound, with, among}
use Rattle.merc_order.specs.Procedures.{modes_of}
use Rattle.merc_order_laws.specs.Bindings.{Variables, AreFree}
use Rattle.merc_order_laws.proofs.Facts.{clash, or_left, either_way}
use Rattle.merc_base.specs.Category.{can_fail_of, most_of}
use Rattle.merc_base.specs.declared.category.Most.TheVariants.{Zero}
use Rattle.merc_value.specs.Value.{Value, Values}
use Rattle.merc_meaning.specs.Values.{fields}
use Rattle.merc_program_laws.specs.ValueTypes.{HasType}
use Rattle.merc_program_laws.proofs.Values.{Instance, same_some}
use Rattle.merc_program_laws.proofs.Steps.{free_not}
use Rattle.merc_core.specs.Rights.{has}
use Rattle.merc_rights.specs.Rights.{Right, those}
use Rattle.merc_par_split.specs.Sites.{are_for}
use Rattle.merc_plan.specs.Branch.{HeldSignal, Hold, Gift}
use Rattle.merc_script_laws.proofs.Bonds.{Set, Here, Owed, signs, Fit, Fine, After, Names, Ready, Rightful, Sound}
use Rattle.merc_script_laws.proofs.RightLists.{not_not, those_in}
use Rattle.merc_script_laws.proofs.Steps.{unused, Waits}
use Rattle.merc_script_laws.proofs.Seen.{behind_other}
use Rattle.merc_script_laws.proofs.Stays.{known_stays}

-- Given are the module, the types of the variables, and what type variables stand for.
module _ (known : Module) (types i : Instance) where
  -- What is so behind such a goal with these variables and outputs. It tells of no symbols, so that what is known before it has to be so behind it.
  pub after_way : (out : Variables) (b : Bound) (outs : List ℕ) (whole : Variables) (seen : Known) (here : Set) (w : List Right) (hold hold1 : Hold) → Fine known types i out b whole seen hold → Fit b here w hold → Ready here w b whole
      → ((x : ℕ) (v : Value) → here x → Here hold x v → Here hold1 x v) → ((x : ℕ) (v : Value) → whole x ≡ false → Here hold1 x v → Here hold x v)
      → ((x : ℕ) (v : Value) → whole x ≡ true → out x ≡ true → Here hold1 x v → with b (among outs) x ≡ true) → ((x : ℕ) (v : Value) → Here hold1 x v → HasType known.types v (replaced i (types x)))
      → ((x : ℕ) (s : Symbol) (v : Value) → are_for w x ≡ true → b x ≡ true → known_of seen x ≡ Some s → Here hold1 x v → (vs : Values) × (fields s v ≡ Some vs)) → After known types i out b outs whole seen seen hold hold1
  after_way out b outs whole seen here w hold hold1 fine f r keep own exact typed late = record {
    own = own;
    exact = exact;
    typed = typed;
    bound = λ x s o q e. or_left (b x) (among outs x) (fine.bound x s o e);
    knows = knows;
    same = λ x o. refl;
  } where
    on : (x : ℕ) (s : Symbol) (v : Value) → known_of seen x ≡ Some s → Here hold1 x v → b x ≡ true → here x ⊎ (are_for w x ≡ true) → (vs : Values) × (fields s v ≡ Some vs)
    on x s v e h is (inl k) =
        let before = f.held x k in
        let same : before.0 ≡ v = same_some (sym (keep x before.0 k before.1) ∙ h) in
        subst (λ (u : Value). (vs : Values) × (fields s u ≡ Some vs)) same (fine.knows x s before.0 e before.1)
    on x s v e h is (inr k) = late x s v k is e h

    knows : (x : ℕ) (s : Symbol) (v : Value) → known_of seen x ≡ Some s → Here hold1 x v → (vs : Values) × (fields s v ≡ Some vs)
    knows x s v e h = elim (either_way (whole x)) as (λ _. (vs : Values) × (fields s v ≡ Some vs)) [
      | inl o ↦ let is = fine.bound x s o e in on x s v e h is (r x o is)
      | inr o ↦ fine.knows x s v e (own x v o h)
    ]

  -- what is known of a bound variable before a part that cannot fail and was passed is known behind it
  pub still_known : (n : Node) (out : Variables) (b : Bound) (seen : Known) → Sound known types i out b seen n → can_fail_of (category_at n) ≡ false → (most_of (category_at n) ≡ Zero → ⊥) → (x : ℕ) → b x ≡ true → (s : Symbol)
      → known_of seen x ≡ Some s → known_of (known_behind n seen) x ≡ Some s
  still_known n out b seen sound sure some x h s e = elim (either_way (in_node n x)) as (λ _. known_of (known_behind n seen) x ≡ Some s) [
    | inl o ↦ known_stays known.types (modes_of known.preds) types n out b seen sound.good sound.graded sure some x h s e
    | inr o ↦ behind_other n seen x o ∙ e
  ]

  -- Of what such a goal signals nothing is known before it, so that it need only be of its type.
  pub proper_way : (out : Variables) (b : Bound) (seen : Known) (whole : Variables) (outs : List ℕ) (s : List Right) (hold : Hold) (proper : ℕ → Value → Type 0) (never : Type 0) → Fine known types i out b whole seen hold → AreFree b outs
      → ((x : ℕ) → among outs x ≡ true → whole x ≡ true) → ((x : ℕ) → are_for s x ≡ true → among outs x ≡ true)
      → ((x c : ℕ) (v : Value) → are_for s x ≡ true → has c (signs x hold) ≡ true → HasType known.types v (replaced i (types x))
      → ((never → ⊥) → (sy : Symbol) → known_of seen x ≡ Some sy → (vs : Values) × (fields sy v ≡ Some vs)) → proper c v)
      → (x c : ℕ) (v : Value) → are_for s x ≡ true → has c (signs x hold) ≡ true → HasType known.types v (replaced i (types x)) → proper c v
  proper_way out b seen whole outs s hold proper never fine free sub within is_proper x c v h k ty =
      is_proper x c v h k ty (λ some sy e. clash (fine.bound x sy (sub x (within x h)) e) (free_not b outs free x (within x h)))

-- Behind waits.

pub signs_waited : (here : Set) (w : List Right) (hold hold1 : Hold) → Waits here w hold hold1 → (x : ℕ) → signs x hold1 ≡ signs x hold
signs_waited here w hold hold1 p x = ap (λ (l : List HeldSignal). map (λ (right : HeldSignal). right.cell) (filter (λ (right : HeldSignal). right.variable == x) l)) p.signals

-- the rights behind those waits that stand before a goal
pub rightful_waited : (p : ℕ → Bool) (here : Set) (w s : List Right) (outs : List ℕ) (rights : ℕ → Bool) (held held1 : List ℕ) (g : List Gift) (hold hold1 : Hold) → Names hold → Rightful w s outs rights held g hold
    → Waits here (those p w) hold hold1 → ((c : ℕ) → has c held ≡ true → ((x : ℕ) (o : Option Value) → are_for (those p w) x ≡ true → Owed hold x c o → ⊥) → has c held1 ≡ true)
    → Rightful (those (unused p) w) s outs rights held1 g hold1
rightful_waited p here w s outs rights held held1 g hold hold1 names q m still = record {
  to_signal = λ x c h k. q.to_signal x c h (subst (λ l. has c l ≡ true) (signs_waited here (those p w) hold hold1 m x) k);
  counts = λ x h. q.counts x h ∙ ap length (sym (signs_waited here (those p w) hold hold1 m x));
  to_wait = λ x c o h e.
      let j = those_in (unused p) w x h in
      let l = m.moves.old x c o e in
      still c (q.to_wait x c o j.0 l) (λ y z k y_owed. clash (ap p (names.apart_owed x y c o z l y_owed) ∙ (those_in p w y k).1) (not_not (p x) j.1));
  within = q.within;
  low = λ c h. subst (λ n. c < n) (sym m.moves.next) (q.low c h);
}
