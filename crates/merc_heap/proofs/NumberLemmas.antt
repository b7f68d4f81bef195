-- The numbers that are kept of functors, and the list that they are numbers in.
use Rattle.std.proofs.Common.{◌≡◌, ◌≤◌, ◌+◌, ◌∙◌, ℕ, suc, Bool, true, false, cond, Option, Some, None, List, [], ◌∷◌, ◌++◌, length, slice_get, refl, sym, ap, subst, arith}
use Rattle.std.specs.Prelude.{◌==◌, ◌&&◌}
use Rattle.std.proofs.lemmas.Bool.Decides.{Decides-eqb}
use Rattle.std.proofs.lemmas.Option.{slice_get_within}
use Rattle.merc_heap.specs.declared.functors.Functor.{Functor}
use Rattle.merc_heap.specs.declared.slot.TheConstants.{MOST}
use Rattle.merc_heap.specs.Functors.{numbered, same_functor, IsNumberOf}
use Rattle.merc_heap.proofs.MetLemmas.{front_found, last_found}

and_both : (a b : Bool) → (a && b) ≡ true → (a ≡ true) × (b ≡ true)
and_both true b h = (refl, h)
and_both false b h = cc

functors_equal : (one other : Functor) → same_functor one other ≡ true → one ≡ other
functors_equal one other h =
    let both = and_both (one.symbol == other.symbol) (one.arity == other.arity) h in
    ap (λ n. record { symbol = n; arity = one.arity }) ((Decides-eqb one.symbol other.symbol).0 both.0)
    ∙ ap (λ n. record { symbol = other.symbol; arity = n }) ((Decides-eqb one.arity other.arity).0 both.1)

pub found_number : (others : List Functor) (functor : Functor) (number : ℕ) (found : Option ℕ) → Some number ≡ found → IsNumberOf others functor found
    → (number ≤ MOST) × (slice_get (numbered others) number ≡ Some functor)
found_number others functor number found is known = subst (IsNumberOf others functor) (sym is) known

-- a functor has the number at which it is put behind the others
pub pushed_number : (others : List Functor) (functor : Functor) → slice_get (numbered (others ++ functor ∷ [])) (2 + length others) ≡ Some functor
pushed_number others functor =
    let behind : 2 + length others ≡ suc (suc (length others)) = omega arith in
    ap (slice_get (numbered (others ++ functor ∷ []))) behind ∙ last_found others functor

-- numbers that were found are found once a functor is put behind the others
pub kept_number : (others : List Functor) (new functor : Functor) (found : Option ℕ) → IsNumberOf others functor found → IsNumberOf (others ++ new ∷ []) functor found
kept_number others new functor None known = tt
kept_number others new functor (Some number) known = (known.0, front_found (numbered others) (new ∷ []) number (slice_get_within (numbered others) number functor known.1) ∙ known.1)

pub numbers_after : (others : List Functor) (new functor : Functor) (before : Option ℕ) → 2 + length others ≤ MOST → IsNumberOf others functor before
    → IsNumberOf (others ++ new ∷ []) functor (cond (same_functor new functor) (Some (2 + length others)) before)
numbers_after others new functor before small known = by (same_functor new functor) refl
  where
    by : (b : Bool) → same_functor new functor ≡ b → IsNumberOf (others ++ new ∷ []) functor (cond b (Some (2 + length others)) before)
    by true is = (small, pushed_number others new ∙ ap Some (functors_equal new functor is))
    by false is = kept_number others new functor before known
