-- The order of the members of a conjunction does not matter to truth.
use Rattle.std.proofs.Common.{◌≡◌, inl, inr, ℕ, Bool, true, false, ◌||◌, refl, sym, ap, subst, ◌∙◌}
use mathlib.Core.Path.{fun_ext}
use Rattle.merc_graded_tree.specs.Nodes.{Node, Nodes, more_nodes}
use Rattle.merc_graded_tree.specs.Variables.{in_node, in_nodes}
use Rattle.merc_meaning.specs.Truth.{Outside, with, Judgement, Yes, No, YesAll, NoAny}
use Rattle.merc_program_laws.proofs.Keeping.{KeepsAllAt}

-- one taken out of others
pub data Removed : Node → Nodes → Nodes → Type 0 where
  here : (m : Node) (ms : Nodes) → Removed m (more_nodes m ms) ms
  later : (k m : Node) (all others : Nodes) → Removed m all others → Removed m (more_nodes k all) (more_nodes k others)

swapped : (a b c : Bool) → ((a || b) || c) ≡ ((a || c) || b)
swapped true b c = refl
swapped false true true = refl
swapped false true false = refl
swapped false false true = refl
swapped false false false = refl

swap_out : (out a b : Outside) → with (with out a) b ≡ with (with out b) a
swap_out out a b = fun_ext (λ x. swapped (out x) (a x) (b x))

moved : (a b c : Bool) → (a || (b || c)) ≡ ((a || b) || c)
moved true b c = refl
moved false b c = refl

move_out : (out a b : Outside) → with out (with a b) ≡ with (with out a) b
move_out out a b = fun_ext (λ x. moved (out x) (a x) (b x))

around : (a b c : Bool) → (a || (b || c)) ≡ (b || (a || c))
around true true c = refl
around true false c = refl
around false b c = refl

pub removed_in : (m : Node) (all others : Nodes) → Removed m all others → (v : ℕ) → in_nodes all v ≡ in_nodes (more_nodes m others) v
removed_in m all others (here k ms) v = refl
removed_in m all others (later k j a o r) v = ap (λ b. in_node k v || b) (removed_in m a o r v) ∙ around (in_node k v) (in_node m v) (in_nodes o v)

removed_out : (m : Node) (all others : Nodes) → Removed m all others → in_nodes all ≡ with (in_node m) (in_nodes others)
removed_out m all others r = fun_ext (λ v. removed_in m all others r v)

module _ (y n : Judgement) where
  -- two neighbours change places
  swap_keeps : (m k : Node) (ms : Nodes) (out : Outside) → KeepsAllAt y n y n out (more_nodes m (more_nodes k ms)) out (more_nodes k (more_nodes m ms))
  swap_keeps m k ms out s v = (
    λ h. (
      subst (λ (o : Outside). Yes y n o k s) (sym (move_out out (in_node m) (in_nodes ms))) h.1.0,
      (
        subst (λ (o : Outside). Yes y n o m s) (move_out out (in_node k) (in_nodes ms)) h.0,
        subst (λ (o : Outside). YesAll y n o ms s) (swap_out out (in_node m) (in_node k)) h.1.1,
      ),
    ),
    λ h. swap_no h,
  ) where
    swap_no : NoAny y n out (more_nodes m (more_nodes k ms)) s → NoAny y n out (more_nodes k (more_nodes m ms)) s
    swap_no (inl h) = inr (inl (subst (λ (o : Outside). No y n o m s) (move_out out (in_node k) (in_nodes ms)) h))
    swap_no (inr (inl h)) = inl (subst (λ (o : Outside). No y n o k s) (sym (move_out out (in_node m) (in_nodes ms))) h)
    swap_no (inr (inr h)) = inr (inr (subst (λ (o : Outside). NoAny y n o ms s) (swap_out out (in_node m) (in_node k)) h))

  pub keeps_then : (ms ks ls : Nodes) (out : Outside) (y' n' : Judgement) → KeepsAllAt y n y n out ms out ks → KeepsAllAt y n y' n' out ks out ls → KeepsAllAt y n y' n' out ms out ls
  keeps_then ms ks ls out y' n' p q s v = (λ h. (q s v).0 ((p s v).0 h), λ h. (q s v).1 ((p s v).1 h))

  same_first : (k : Node) (ms ks : Nodes) (out : Outside) → in_nodes ms ≡ in_nodes ks → KeepsAllAt y n y n (with out (in_node k)) ms (with out (in_node k)) ks → KeepsAllAt y n y n out (more_nodes k ms) out (more_nodes k ks)
  same_first k ms ks out e p s v = (
    λ h. (subst (λ (o : Outside). Yes y n (with out o) k s) e h.0, (p s v).0 h.1),
    λ h. first_no h,
  ) where
    first_no : NoAny y n out (more_nodes k ms) s → NoAny y n out (more_nodes k ks) s
    first_no (inl h) = inl (subst (λ (o : Outside). No y n (with out o) k s) e h)
    first_no (inr h) = inr ((p s v).1 h)

  pub removed_keeps : (m : Node) (all others : Nodes) → Removed m all others → (out : Outside) → KeepsAllAt y n y n out all out (more_nodes m others)
  removed_keeps m all others (here k ms) out s v = (λ h. h, λ h. h)
  removed_keeps m all others (later k j a o r) out s v =
      keeps_then (more_nodes k a) (more_nodes k (more_nodes m o)) (more_nodes m (more_nodes k o)) out y n
      (same_first k a (more_nodes m o) out (removed_out m a o r) (removed_keeps m a o r (with out (in_node k)))) (swap_keeps k m o out) s v

  pub placed_keeps : (m : Node) (all others : Nodes) → Removed m all others → (out : Outside) → KeepsAllAt y n y n out (more_nodes m others) out all
  placed_keeps m all others (here k ms) out s v = (λ h. h, λ h. h)
  placed_keeps m all others (later k j a o r) out s v =
      keeps_then (more_nodes m (more_nodes k o)) (more_nodes k (more_nodes m o)) (more_nodes k a) out y n
      (swap_keeps m k o out) (same_first k (more_nodes m o) a out (sym (removed_out m a o r)) (placed_keeps m a o r (with out (in_node k)))) s v
