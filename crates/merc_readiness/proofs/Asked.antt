-- A goal that is asked: by its own mark, or by its parts.
use Rattle.std.specs.Prelude.{◌≡◌, ℕ, suc, Bool, true, false, List, [], ◌∷◌, ◌++◌, length, take, drop, refl}
use Rattle.std.specs.List.{slice_index_or}
use Rattle.std.proofs.Common.{◌∙◌, ap, sym, subst, arith, set}
use Rattle.std.proofs.lemmas.List.{get_or_at, take_at, drop_at, set_at}
use Rattle.merc_tree.specs.declared.declarations.ModeDecl.{ModeDecl}
use Rattle.merc_goal_tree.specs.Nodes.{Node}
use Rattle.merc_goal_tree.specs.Parts.{parts_of}
use Rattle.merc_order.specs.Bound.{Bound}
use Rattle.merc_order.specs.Marks.{Marked, part, IsSound}
use Rattle.merc_order.specs.Order.{from}
use Rattle.merc_order.specs.Ordered.{is_ready}
use Rattle.merc_readiness.specs.Asking.{flags_of, joined_by, Fits, IsMarked, AreMarked}
use Rattle.merc_readiness.proofs.Marking.{parts_length, fits_length}

module _ (total : ℕ → ℕ) (modes : ℕ → List ModeDecl) where
  inner_length : (goal : Node) (inner : Marked) (own : ℕ) → Fits (joined_by goal) inner → suc own ≡ length (parts_of goal) → length (flags_of inner) ≡ own
  inner_length goal inner own fits h =
      let one = fits_length (joined_by goal) inner fits in
      let two = parts_length goal in
      omega arith

  pub own_is : (goal : Node) (flags : List Bool) (bound : Bound) (m : IsMarked total modes goal flags bound) (own : ℕ) (default : Bool) → suc own ≡ length (parts_of goal)
      → slice_index_or flags own default ≡ m.went
  own_is goal flags bound m own default h =
      ap (λ l. slice_index_or l own default) m.flags_are ∙ get_or_at (flags_of m.inner) m.went [] default own (inner_length goal m.inner own m.fits h)

  -- it is marked
  pub asked_marked : (goal : Node) (flags : List Bool) (bound : Bound) (own : ℕ) → suc own ≡ length (parts_of goal) → slice_index_or flags own false ≡ true → (m : IsMarked total modes goal flags bound)
      → (is_ready (from total modes goal bound) ≡ true) × ((marked : IsMarked total modes goal flags bound) × (marked.went ≡ true))
  asked_marked goal flags bound own h mark m =
      let went : m.went ≡ true = sym (own_is goal flags bound m own false h) ∙ mark in
      (subst (λ b. part b (is_ready (from total modes goal bound) ≡ true) (IsSound total modes goal m.inner bound)) went m.sound, (m, went))

  -- it is not marked: the marks of its parts
  pub parts_marked : (goal : Node) (flags : List Bool) (bound : Bound) (own : ℕ) → suc own ≡ length (parts_of goal) → slice_index_or flags own false ≡ false → IsMarked total modes goal flags bound
      → AreMarked total modes goal (take own flags) bound
  parts_marked goal flags bound own h mark m =
      let went : m.went ≡ false = sym (own_is goal flags bound m own false h) ∙ mark in
      record {
        inner = m.inner;
        fits = m.fits;
        flags_are = ap (λ l. take own l) m.flags_are ∙ take_at (flags_of m.inner) (m.went ∷ []) own (inner_length goal m.inner own m.fits h);
        sound = subst (λ b. part b (is_ready (from total modes goal bound) ≡ true) (IsSound total modes goal m.inner bound)) went m.sound;
      }

  pub part_by : (goal : Node) (inner : Marked) (bound : Bound) (ready : Bool) → is_ready (from total modes goal bound) ≡ ready → IsSound total modes goal inner bound
      → part ready (is_ready (from total modes goal bound) ≡ true) (IsSound total modes goal inner bound)
  part_by goal inner bound true is sound = is
  part_by goal inner bound false is sound = sound

  -- its own mark behind those of its parts
  pub marked_again : (goal : Node) (flags new : List Bool) (bound : Bound) (own : ℕ) (ready : Bool) → suc own ≡ length (parts_of goal) → IsMarked total modes goal flags bound
      → is_ready (from total modes goal bound) ≡ ready → AreMarked total modes goal new bound
      → (marked : IsMarked total modes goal (set (new ++ drop own flags) own ready) bound) × (marked.went ≡ ready)
  marked_again goal flags new bound own ready h m is a =
      let tail : drop own flags ≡ m.went ∷ [] = ap (λ l. drop own l) m.flags_are ∙ drop_at (flags_of m.inner) (m.went ∷ []) own (inner_length goal m.inner own m.fits h) in
      let long : length new ≡ own = ap length a.flags_are ∙ inner_length goal a.inner own a.fits h in (
        record {
          inner = a.inner;
          went = ready;
          fits = a.fits;
          flags_are = ap (λ l. set (new ++ l) own ready) tail ∙ set_at new m.went [] ready own long ∙ ap (λ l. l ++ ready ∷ []) a.flags_are;
          sound = part_by goal a.inner bound ready is a.sound;
        },
        refl,
      )
