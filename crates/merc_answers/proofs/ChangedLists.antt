-- A list whose items are changed one after the other, in place.
use Rattle.std.proofs.Common.{◌≡◌, ◌∙◌, ℕ, ◌+◌, ◌<◌, ◌≤◌, List, [], ◌∷◌, ◌++◌, length, take, drop, set, get_or, arith, length-set, refl, ap, sym, subst}
use Rattle.std.specs.List.{All, AllZip}
use Rattle.std.proofs.lemmas.List.{take_more, take_more_set, take_all, take-append-le, drop-set-lt, drop-drop, get_or-drop}
use Rattle.std.proofs.lemmas.List.Elements.{AllZip-push}

-- The items before this place are changed, and the others are as they were.
pub record Reached {T : Type 0} (R : T → T → Type 0) (olds news : List T) (place : ℕ) : Type 0 where
  pub done : AllZip R (take place olds) (take place news)
  pub left : drop place news ≡ drop place olds
  pub long : length news ≡ length olds

module _ {T : Type 0} (R : T → T → Type 0) (olds news : List T) (place : ℕ) where
  -- before the first
  pub reached_none : news ≡ olds → Reached R olds news 0
  reached_none same = record { done = tt; left = same; long = ap (λ (items : List T). length items) same }

  -- the next item is as it was
  pub reached_item : (other : T) → Reached R olds news place → get_or news place other ≡ get_or olds place other
  reached_item other reached =
      let at : (items : List T) → get_or (drop place items) 0 other ≡ get_or items place other =
      λ (items : List T). get_or-drop place items 0 other ∙ ap (λ (n : ℕ). get_or items n other) (omega arith) in
      sym (at news) ∙ ap (λ (items : List T). get_or items 0 other) reached.left ∙ at olds

  -- and what holds of all items before holds of it
  pub reached_holds : (P : T → Type 0) (other : T) → All P olds → place < length news → Reached R olds news place → P (get_or news place other)
  reached_holds P other all below reached = subst (λ (item : T). P item) (sym (reached_item other reached)) (all place other (omega (arith, below, reached.long)))

  -- one more is changed
  pub reached_more : (other item : T) → place < length news → Reached R olds news place → R (get_or news place other) item → Reached R olds (set news place item) (place + 1)
  reached_more other item below reached changed = record {
    done =
        rw (take_more olds place other (omega (arith, reached.long)), take_more_set news place item below)
        (AllZip-push R (take place olds) (take place news) (get_or olds place other) item reached.done
        (subst (λ (old : T). R old item) (reached_item other reached) changed));
    left =
        drop-set-lt (place + 1) news place item (omega arith) ∙ sym (drop-drop 1 place news) ∙ ap (λ (items : List T). drop 1 items) reached.left ∙ drop-drop 1 place olds;
    long = length-set news place item ∙ reached.long;
  }

  -- behind the last
  pub reached_all : length news ≤ place → Reached R olds news place → AllZip R olds news
  reached_all past reached =
      subst (λ (items : List T). AllZip R items news) (take_all place olds (omega (arith, reached.long)))
      (subst (λ (items : List T). AllZip R (take place olds) items) (take_all place news past) reached.done)

-- what a list has once its items were changed in place
pub changed_whole : {T : Type 0} (olds news : List T) (long : ℕ) → length news ≡ long → take long (news ++ drop (length news) olds) ≡ news
changed_whole olds news long is = take-append-le long news (drop (length news) olds) (omega (arith, is)) ∙ take_all long news (omega (arith, is))
