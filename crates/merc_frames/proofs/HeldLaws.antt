-- What slots hold, they hold where fewer choice points keep them, and where only slots above those that choice points keep were written.
use Rattle.std.proofs.Common.{◌≡◌, ℕ, zero, suc, ◌+◌, ◌≤◌, Bool, true, false, if◌then◌else◌, List, [], ◌∷◌, take, Option, Some, None, slice_get, slice_set, refl, sym, ap, ◌∙◌, subst, arith}
use Rattle.std.specs.List.{All, AllByRecursion, cons_option}
use Rattle.merc_frames.specs.declared.slot.Slot.{Slot}
use Rattle.merc_frames.specs.Held.{AreKept, Top}
use Rattle.merc_frames.specs.View.{kept_top, tops_of}
use Rattle.merc_frames.specs.declared.kept.Kept.{Kept}
use Rattle.merc_frames.proofs.Lists.{take_less}
use Rattle.merc_frames.proofs.TopLaws.{onto, tops_onto}

-- what `AreHeld` says of frames with these lists
abbrev pub Holding : (ℕ → Slot → Type 0) → ℕ → List Slot → List Kept → Type 0
Holding MayHold cells slots choices = All (MayHold cells) slots × AreKept MayHold cells slots (tops_of choices)

module _ (MayHold : ℕ → Slot → Type 0) where
  pub kept_over : (low high : ℕ) (slots : List Slot) (tops : List Top) → low ≤ high → AreKept MayHold low slots tops → AreKept MayHold high slots tops
  kept_over low high slots [] more kept = kept
  kept_over low high slots (top ∷ tops) more kept = (let first = kept.0 in omega (arith, first, more), kept.1, kept.2)

  -- without the newest
  pub kept_without : (cells : ℕ) (slots : List Slot) (o : Option Top) (tops : List Top) → AreKept MayHold cells slots (cons_option o tops) → AreKept MayHold cells slots tops
  kept_without cells slots None tops kept = kept
  kept_without cells slots (Some top) tops kept = kept_over top.heap cells slots tops kept.0 kept.2

  -- whatever the mark below which the one is kept, so is the other
  abbrev Follows : List Slot → List Top → List Top → Type 0
  Follows slots tops others = (cells : ℕ) → AreKept MayHold cells slots tops → AreKept MayHold cells slots others

  follows_one : (slots : List Slot) (o : Option Top) (tops others : List Top) → Follows slots tops others → Follows slots (cons_option o tops) (cons_option o others)
  follows_one slots None tops others follows = follows
  follows_one slots (Some top) tops others follows = λ cells kept. (kept.0, kept.1, follows top.heap kept.2)

  follows_onto : (slots : List Slot) (choices : List Kept) (tops others : List Top) → Follows slots tops others → Follows slots (onto choices tops) (onto choices others)
  follows_onto slots [] tops others follows = follows
  follows_onto slots (k ∷ choices) tops others follows =
      follows_onto slots choices (cons_option (kept_top k) tops) (cons_option (kept_top k) others) (follows_one slots (kept_top k) tops others follows)

  all_gone : (slots : List Slot) (choices : List Kept) (tops : List Top) → Follows slots (onto choices tops) tops
  all_gone slots [] tops = λ cells kept. kept
  all_gone slots (k ∷ choices) tops = λ cells kept. kept_without cells slots (kept_top k) tops (all_gone slots choices (cons_option (kept_top k) tops) cells kept)

  oldest_follow : (slots : List Slot) (count : ℕ) (choices : List Kept) (tops : List Top) → Follows slots (onto choices tops) (onto (take count choices) tops)
  oldest_follow slots zero choices tops = all_gone slots choices tops
  oldest_follow slots (suc count) [] tops = λ cells kept. kept
  oldest_follow slots (suc count) (k ∷ choices) tops = oldest_follow slots count choices (cons_option (kept_top k) tops)

  pub oldest_kept : (cells : ℕ) (slots : List Slot) (choices : List Kept) (count : ℕ) → AreKept MayHold cells slots (tops_of choices) → AreKept MayHold cells slots (tops_of (take count choices))
  oldest_kept cells slots choices count kept = subst (AreKept MayHold cells slots) (sym (tops_onto (take count choices)))
      (oldest_follow slots count choices [] cells (subst (AreKept MayHold cells slots) (tops_onto choices) kept))

  dead_top : (m : Kept) → m.live ≡ false → kept_top m ≡ None
  dead_top m dead = ap (λ live. if live then Some (record { heap = m.heap; end = m.base + m.size }) else None) dead

  dead_follow : (slots : List Slot) (m : Kept) → m.live ≡ false → (o : Option Top) (tops : List Top) → Follows slots (cons_option o tops) (cons_option (kept_top m) tops)
  dead_follow slots m dead o tops = λ cells kept. subst (λ x. AreKept MayHold cells slots (cons_option x tops)) (sym (dead_top m dead)) (kept_without cells slots o tops kept)

  softened_follow : (slots : List Slot) (m : Kept) → m.live ≡ false → (count : ℕ) (choices : List Kept) (tops : List Top) → Follows slots (onto choices tops) (onto (slice_set choices count m) tops)
  softened_follow slots m dead zero [] tops = λ cells kept. kept
  softened_follow slots m dead (suc count) [] tops = λ cells kept. kept
  softened_follow slots m dead zero (k ∷ choices) tops =
      follows_onto slots choices (cons_option (kept_top k) tops) (cons_option (kept_top m) tops) (dead_follow slots m dead (kept_top k) tops)
  softened_follow slots m dead (suc count) (k ∷ choices) tops = softened_follow slots m dead count choices (cons_option (kept_top k) tops)

  pub softened_kept : (cells : ℕ) (slots : List Slot) (choices : List Kept) (count : ℕ) (m : Kept) → m.live ≡ false → AreKept MayHold cells slots (tops_of choices)
      → AreKept MayHold cells slots (tops_of (slice_set choices count m))
  softened_kept cells slots choices count m dead kept = subst (AreKept MayHold cells slots) (sym (tops_onto (slice_set choices count m)))
      (softened_follow slots m dead count choices [] cells (subst (AreKept MayHold cells slots) (tops_onto choices) kept))

  -- slots are the same below a place at or above which no top is
  same_kept : (low : ℕ) (slots others : List Slot) → take low slots ≡ take low others → (tops : List Top) → AllByRecursion (λ (top : Top). top.end ≤ low) tops
      → (cells : ℕ) → AreKept MayHold cells slots tops → AreKept MayHold cells others tops
  same_kept low slots others same [] under cells kept = kept
  same_kept low slots others same (top ∷ tops) under cells kept = (
    kept.0,
    subst (All (MayHold top.heap)) (sym (take_less low top.end slots under.0) ∙ ap (take top.end) same ∙ take_less low top.end others under.0) kept.1,
    same_kept low slots others same tops under.1 top.heap kept.2,
  )

  end_if : (low : ℕ) (live : Bool) (top : Top) (tops : List Top) → top.end ≤ low → AllByRecursion (λ (t : Top). t.end ≤ low) tops
      → AllByRecursion (λ (t : Top). t.end ≤ low) (cons_option (if live then Some top else None) tops)
  end_if low true top tops end under = (end, under)
  end_if low false top tops end under = under

  ends_under : (low : ℕ) (choices : List Kept) → ((i : ℕ) (k : Kept) → slice_get choices i ≡ Some k → k.base + k.size ≤ low) → (tops : List Top)
      → AllByRecursion (λ (top : Top). top.end ≤ low) tops → AllByRecursion (λ (top : Top). top.end ≤ low) (onto choices tops)
  ends_under low [] each tops under = under
  ends_under low (k ∷ choices) each tops under = ends_under low choices (λ i m e. each (suc i) m e) (cons_option (kept_top k) tops)
      (end_if low k.live (record { heap = k.heap; end = k.base + k.size }) tops (each zero k refl) under)

  pub kept_below : (low : ℕ) (slots others : List Slot) (choices : List Kept) → ((i : ℕ) (k : Kept) → slice_get choices i ≡ Some k → k.base + k.size ≤ low) → take low slots ≡ take low others
      → (cells : ℕ) → AreKept MayHold cells slots (tops_of choices) → AreKept MayHold cells others (tops_of choices)
  kept_below low slots others choices each same cells kept = same_kept low slots others same (tops_of choices)
      (subst (AllByRecursion (λ (top : Top). top.end ≤ low)) (sym (tops_onto choices)) (ends_under low choices each [] tt)) cells kept
