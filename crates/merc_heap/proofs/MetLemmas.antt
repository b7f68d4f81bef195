-- Pairs of cells that are met.
use Rattle.std.proofs.Common.{◌≡◌, ℕ, zero, suc, ◌+◌, ◌<◌, ◌≤◌, ◌⊎◌, inl, inr, List, [], ◌∷◌, ◌++◌, length, map, drop, Some, refl, sym, ap, subst, ◌∙◌, arith, slice_get, append_assoc, append-nil}
use Rattle.std.specs.Prelude.{Bool, true, false, ◌==◌, ◌&&◌, if◌then◌else◌}
use Rattle.std.specs.List.{All, list_any}
use Rattle.std.proofs.lemmas.List.{map-append}
use Rattle.std.proofs.lemmas.Bool.Decides.{Decides-eqb}
use Rattle.merc_value.specs.Block.{CellData, AreLower, IsBelow, value_of}
use Rattle.merc_value.specs.Writing.{arguments_of, arguments_at}
use Rattle.merc_value.specs.declared.word.Word.{Word}
use Rattle.merc_value.specs.declared.word.Word.TheVariants.{Int as IntWord, Text as TextWord, Atom as AtomWord, Cell as CellWord}
use Rattle.merc_value.proofs.Values.{All-first, All-rest}
use Rattle.merc_value.proofs.BlockLaws.{found_below}
use Rattle.merc_heap.specs.Heap.{arguments_in, symbol_of}
use Rattle.merc_heap.specs.Equality.{pairs, AreSame, weight, IsSplit, AreAlike, words_at, IsMet, AreMet, StartBelow, SameBelow, Meets, IsAdded, Notes}
use Rattle.merc_heap.proofs.EqualityLemmas.{same_front, same_back, same_both, weight_both, split_pairs}

-- members of lists one behind the other

found_within : {A : Type 0} (xs : List A) (k : ℕ) (x : A) → slice_get xs k ≡ Some x → k < length xs
found_within [] k x found = absurd (cc)
found_within (y ∷ xs) zero x found = omega arith
found_within (y ∷ xs) (suc k) x found = omega (arith, found_within xs k x found)

pub front_found : {A : Type 0} (xs ys : List A) (k : ℕ) → k < length xs → slice_get (xs ++ ys) k ≡ slice_get xs k
front_found [] ys k within = absurd (omega (arith, within))
front_found (x ∷ xs) ys zero within = refl
front_found (x ∷ xs) ys (suc k) within = front_found xs ys k (omega (arith, within))

pub last_found : {A : Type 0} (xs : List A) (x : A) → slice_get (xs ++ x ∷ []) (length xs) ≡ Some x
last_found [] x = refl
last_found (y ∷ xs) x = last_found xs x

drop_found : {A : Type 0} (xs : List A) (k : ℕ) (x : A) → slice_get xs k ≡ Some x → drop k xs ≡ x ∷ drop (k + 1) xs
drop_found [] k x found = absurd (cc)
drop_found (y ∷ xs) zero x found = let one : y ≡ x = cc in ap (λ z. z ∷ xs) one
drop_found (y ∷ xs) (suc k) x found =
    let next : suc (k + 1) ≡ suc k + 1 = omega arith in
    drop_found xs k x found ∙ ap (λ (n : ℕ). x ∷ drop n (y ∷ xs)) next

drop_both : {A : Type 0} (xs ys : List A) (k : ℕ) → k ≤ length xs → drop k (xs ++ ys) ≡ drop k xs ++ ys
drop_both xs ys zero within = refl
drop_both [] ys (suc k) within = absurd (omega (arith, within))
drop_both (x ∷ xs) ys (suc k) within = drop_both xs ys k (omega (arith, within))

before_or_here : (k n : ℕ) → k < n + 1 → (k < n) ⊎ (k ≡ n)
before_or_here zero zero within = inr refl
before_or_here zero (suc n) within = inl (omega arith)
before_or_here (suc k) zero within = absurd (omega (arith, within))
before_or_here (suc k) (suc n) within = elim (before_or_here k n (omega (arith, within))) [ inl before ↦ inl (omega (arith, before)) | inr here ↦ inr (ap suc here) ]

-- what holds of each pair that was met

met_both : (cells : List CellData) (xs ys : List (ℕ × ℕ)) → AreMet cells xs → AreMet cells ys → AreMet cells (xs ++ ys)
met_both cells [] ys one other = other
met_both cells (x ∷ xs) ys one other = (one.0, met_both cells xs ys one.1 other)

pub met_found : (cells : List CellData) (met : List (ℕ × ℕ)) (k : ℕ) (pair : ℕ × ℕ) → AreMet cells met → slice_get met k ≡ Some pair → IsMet cells pair
met_found cells [] k pair are found = absurd (cc)
met_found cells (x ∷ xs) zero pair are found = let one : x ≡ pair = cc in subst (IsMet cells) one are.0
met_found cells (x ∷ xs) (suc k) pair are found = met_found cells xs k pair are.1 found

same_found : (cells : List CellData) (met : List (ℕ × ℕ)) (k : ℕ) (pair : ℕ × ℕ) → AreSame cells (map words_at met) → slice_get met k ≡ Some pair
    → value_of cells (CellWord pair.0) ≡ value_of cells (CellWord pair.1)
same_found cells [] k pair are found = absurd (cc)
same_found cells (x ∷ xs) zero pair are found = let one : x ≡ pair = cc in subst (λ (p : ℕ × ℕ). value_of cells (CellWord p.0) ≡ value_of cells (CellWord p.1)) one are.0
same_found cells (x ∷ xs) (suc k) pair are found = same_found cells xs k pair are.1 found

start_front : (place : ℕ) (xs ys : List (Word × Word)) → StartBelow place (xs ++ ys) → StartBelow place xs
start_front place [] ys below = tt
start_front place (x ∷ xs) ys below = (below.0, start_front place xs ys below.1)

start_back : (place : ℕ) (xs ys : List (Word × Word)) → StartBelow place (xs ++ ys) → StartBelow place ys
start_back place [] ys below = below
start_back place (x ∷ xs) ys below = start_back place xs ys below.1

start_pairs : (place : ℕ) (xs ys : List Word) → All (IsBelow place) xs → StartBelow place (pairs xs ys)
start_pairs place [] ys below = tt
start_pairs place (x ∷ xs) [] below = tt
start_pairs place (x ∷ xs) (y ∷ ys) below = (All-first (IsBelow place) x xs below, start_pairs place xs ys (All-rest (IsBelow place) x xs below))

-- fewer pairs below a place
same_before : (cells : List CellData) (old more new : List (ℕ × ℕ)) (place : ℕ) → new ≡ old ++ more → SameBelow cells new place → SameBelow cells old place
same_before cells old more new place grown same k one other found below =
    same k one other (ap (λ (ps : List (ℕ × ℕ)). slice_get ps k) grown ∙ front_found old more k (found_within old k (one, other) found) ∙ found) below

-- nothing is met of words whose values are one
pub meets_same : (cells : List CellData) (one other : Word) (old new : List (ℕ × ℕ)) → value_of cells one ≡ value_of cells other → new ≡ old
    → Meets cells ((one, other) ∷ []) old new
meets_same cells one other old new same kept = record {
  more = [];
  grown = kept ∙ sym (append-nil old);
  whole = λ place start before. (same, tt);
  each = λ are. tt;
  met = tt;
  light = omega arith;
}

-- nothing is met of no words
pub meets_none : (cells : List CellData) (old : List (ℕ × ℕ)) → Meets cells [] old old
meets_none cells old = record {
  more = [];
  grown = sym (append-nil old);
  whole = λ place start before. tt;
  each = λ are. tt;
  met = tt;
  light = omega arith;
}

-- some words are met, and then others
pub meets_both : (cells : List CellData) (xs ys : List (Word × Word)) (old middle new : List (ℕ × ℕ)) → Meets cells xs old middle → Meets cells ys middle new
    → Meets cells (xs ++ ys) old new
meets_both cells xs ys old middle new first second =
    let parted = map-append words_at first.more second.more in
    record {
      more = first.more ++ second.more;
      grown = second.grown ∙ ap (λ (ps : List (ℕ × ℕ)). ps ++ second.more) first.grown ∙ append_assoc old first.more second.more;
      whole = λ place start same.
          same_both cells xs ys (first.whole place (start_front place xs ys start) (same_before cells middle second.more new place second.grown same))
          (second.whole place (start_back place xs ys start) same);
      each = λ same. subst (AreSame cells) (sym parted)
          (same_both cells (map words_at first.more) (map words_at second.more) (first.each (same_front cells xs ys same)) (second.each (same_back cells xs ys same)));
      met = met_both cells first.more second.more first.met second.met;
      light = omega (arith, first.light, second.light, ap (weight cells) parted, weight_both cells (map words_at first.more) (map words_at second.more), weight_both cells xs ys);
    }

-- The pair of two cells is met.
meets_added : (cells : List CellData) (place other : ℕ) (old new : List (ℕ × ℕ)) → IsMet cells (place, other) → IsAdded (place, other) old new
    → Meets cells ((CellWord place, CellWord other) ∷ []) old new
meets_added cells place other old new is added = elim added [
  | inl among ↦ record {
    more = [];
    grown = among.1 ∙ sym (append-nil old);
    whole = λ n start same. (same among.0.0 place other (ap (λ (ps : List (ℕ × ℕ)). slice_get ps among.0.0) among.1 ∙ among.0.1) start.0, tt);
    each = λ are. tt;
    met = tt;
    light = omega arith;
  }
  | inr behind ↦ record {
    more = (place, other) ∷ [];
    grown = behind;
    whole = λ n start same. (same (length old) place other (ap (λ (ps : List (ℕ × ℕ)). slice_get ps (length old)) behind ∙ last_found old (place, other)) start.0, tt);
    each = λ are. are;
    met = (is, tt);
    light = omega arith;
  }
]

-- A set of pairs, to which one is added.
abbrev pub pair_eq : ℕ × ℕ → ℕ × ℕ → Bool
pair_eq one other = (one.0 == other.0) && (one.1 == other.1)

and_both : (a b : Bool) → (a && b) ≡ true → (a ≡ true) × (b ≡ true)
and_both true b both = (refl, both)
and_both false b both = absurd (cc)

pair_same : (one other : ℕ × ℕ) → pair_eq one other ≡ true → one ≡ other
pair_same (a, b) (a', b') is =
    let both = and_both (a == a') (b == b') is in
    let first : a ≡ a' = (Decides-eqb a a').0 both.0 in
    let second : b ≡ b' = (Decides-eqb b b').0 both.1 in
    cc (first, second)

among_found : (pair : ℕ × ℕ) (met : List (ℕ × ℕ)) → list_any (pair_eq pair) met ≡ true → (k : ℕ) × (slice_get met k ≡ Some pair)
among_found pair [] any = absurd (cc)
among_found pair (first ∷ met) any = by (λ rest. among_found pair met rest) (pair_eq pair first) refl
  where
    by : (list_any (pair_eq pair) met ≡ true → (k : ℕ) × (slice_get met k ≡ Some pair)) → (is : Bool) → pair_eq pair first ≡ is
        → (k : ℕ) × (slice_get (first ∷ met) k ≡ Some pair)
    by later true is = (0, ap (λ (p : ℕ × ℕ). Some p) (sym (pair_same pair first is)))
    by later false is =
        let rest : list_any (pair_eq pair) met ≡ true = cc (any, is) in
        (suc (later rest).0, (later rest).1)

pub added_pair : (pair : ℕ × ℕ) (old new : List (ℕ × ℕ)) → new ≡ (if list_any (pair_eq pair) old then old else old ++ pair ∷ []) → IsAdded pair old new
added_pair pair old new put = by (list_any (pair_eq pair) old) refl
  where
    by : (any : Bool) → list_any (pair_eq pair) old ≡ any → IsAdded pair old new
    by true is = inl (among_found pair old is, put ∙ ap (λ (b : Bool). if b then old else old ++ pair ∷ []) is)
    by false is = inr (put ∙ ap (λ (b : Bool). if b then old else old ++ pair ∷ []) is)

pairs_none : (xs : List Word) → length xs ≡ 0 → pairs xs [] ≡ []
pairs_none [] none = refl
pairs_none (x ∷ xs) none = absurd (omega (arith, none))

-- two words of one constructor with as many arguments are met
pub meets_noted : (cells : List CellData) → AreLower cells → (one other : Word) (old new : List (ℕ × ℕ)) → IsBelow (length cells) one → IsBelow (length cells) other
    → AreAlike cells one other → Notes one other old new → Meets cells ((one, other) ∷ []) old new
meets_noted cells lower (IntWord number) other old new below below' alike notes = let is = alike.is_one in absurd (cc (is))
meets_noted cells lower (TextWord name) other old new below below' alike notes = let is = alike.is_one in absurd (cc (is))
meets_noted cells lower (AtomWord name) other old new below below' alike notes =
    meets_same cells (AtomWord name) other old new ((split_pairs cells lower (AtomWord name) other below below' alike).whole tt) notes
meets_noted cells lower (CellWord place) (IntWord number) old new below below' alike notes = let is = alike.is_other in absurd (cc (is))
meets_noted cells lower (CellWord place) (TextWord name) old new below below' alike notes = let is = alike.is_other in absurd (cc (is))
meets_noted cells lower (CellWord place) (AtomWord name) old new below below' alike notes =
    meets_same cells (CellWord place) (AtomWord name) old new
    ((split_pairs cells lower (CellWord place) (AtomWord name) below below' alike).whole
    (subst (AreSame cells) (sym (pairs_none (arguments_at cells place) alike.count)) tt)) notes
meets_noted cells lower (CellWord place) (CellWord other) old new below below' alike notes =
    meets_added cells place other old new (record { alike = alike; below = below; other_below = below' }) notes

-- The pairs before this one have cells that stand for one value where those of lower pairs do.
abbrev pub Covered : List CellData → List (ℕ × ℕ) → ℕ → Type 0
Covered cells met next = (k one other : ℕ) → k < next → slice_get met k ≡ Some (one, other) → SameBelow cells met one → value_of cells (CellWord one) ≡ value_of cells (CellWord other)

-- where that holds of all pairs, the cells of each stand for one value
pub all_same : (cells : List CellData) (met : List (ℕ × ℕ)) → Covered cells met (length met) → (place : ℕ) → SameBelow cells met place
all_same cells met covered zero k one other found below = absurd (omega (arith, below))
all_same cells met covered (suc place) k one other found below =
    covered k one other (found_within met k (one, other) found) found
    (λ k' one' other' found' below'. all_same cells met covered place k' one' other' found' (omega (arith, below, below')))

pub arguments_lower : (cells : List CellData) → AreLower cells → (place : ℕ) → place < length cells → All (IsBelow place) (arguments_at cells place)
arguments_lower cells lower place below k d within = by (found_below cells place below) k d within
  where
    by : (at : CellData) × (slice_get cells place ≡ Some at) → All (IsBelow place) (arguments_at cells place)
    by found = subst (λ o. All (IsBelow place) (arguments_of o)) (sym found.1) (lower place found.0 found.1)

-- One round, where the arguments of the next pair are met.
module _ (cells : List CellData) (lower : AreLower cells) (old new : List (ℕ × ℕ)) (next place other : ℕ) (found : slice_get old next ≡ Some (place, other)) (are : AreMet cells old) where
  abbrev pub parts : List (Word × Word)
  parts = pairs (arguments_at cells place) (arguments_at cells other)

  pub is_met : IsMet cells (place, other)
  is_met = met_found cells old next (place, other) are found

  split : IsSplit cells (CellWord place) (CellWord other) parts
  split = split_pairs cells lower (CellWord place) (CellWord other) is_met.below is_met.other_below is_met.alike

  -- the arguments are the same where all pairs are
  pub round_parts : AreSame cells (map words_at old) → AreSame cells parts
  round_parts same = split.each (same_found cells old next (place, other) same found)

  module _ (meets : Meets cells parts old new) where
    pub round_met : AreMet cells new
    round_met = subst (AreMet cells) (sym meets.grown) (met_both cells old meets.more are meets.met)

    pub round_each : AreSame cells (map words_at old) → AreSame cells (map words_at new)
    round_each same =
        subst (AreSame cells) (sym (ap (map words_at) meets.grown ∙ map-append words_at old meets.more))
        (same_both cells (map words_at old) (map words_at meets.more) same (meets.each (round_parts same)))

    pub round_before : (n : ℕ) → SameBelow cells new n → SameBelow cells old n
    round_before n same = same_before cells old meets.more new n meets.grown same

    pub round_covered : Covered cells old next → Covered cells new (next + 1)
    round_covered covered k one other' within found' before =
        let inside : k < length old = omega (arith, within, found_within old next (place, other) found) in
        let in_old : slice_get old k ≡ Some (one, other') = sym (front_found old meets.more k inside) ∙ sym (ap (λ (ps : List (ℕ × ℕ)). slice_get ps k) meets.grown) ∙ found' in
        elim (before_or_here k next within) [
          | inl earlier ↦ covered k one other' earlier in_old (round_before one before)
          | inr here ↦
              let both : Some (one, other') ≡ Some (place, other) = sym in_old ∙ ap (slice_get old) here ∙ found in
              let pair_is : (one, other') ≡ (place, other) = cc (both) in
              let one_is : one ≡ place = ap (λ (p : ℕ × ℕ). p.0) pair_is in
              let other_is : other' ≡ other = ap (λ (p : ℕ × ℕ). p.1) pair_is in
              ap (λ (n : ℕ). value_of cells (CellWord n)) one_is
              ∙ split.whole (meets.whole place (start_pairs place (arguments_at cells place) (arguments_at cells other) (arguments_lower cells lower place is_met.below))
              (subst (SameBelow cells new) one_is before))
              ∙ ap (λ (n : ℕ). value_of cells (CellWord n)) (sym other_is)
        ]

    pub round_falls : weight cells (map words_at (drop (next + 1) new)) < weight cells (map words_at (drop next old))
    round_falls =
        let inside : next + 1 ≤ length old = omega (arith, found_within old next (place, other) found) in
        let after : drop (next + 1) new ≡ drop (next + 1) old ++ meets.more = ap (drop (next + 1)) meets.grown ∙ drop_both old meets.more (next + 1) inside in
        let after' = ap (λ (ps : List (ℕ × ℕ)). weight cells (map words_at ps)) after
        ∙ ap (weight cells) (map-append words_at (drop (next + 1) old) meets.more)
        ∙ weight_both cells (map words_at (drop (next + 1) old)) (map words_at meets.more) in
        let before = ap (λ (ps : List (ℕ × ℕ)). weight cells (map words_at ps)) (drop_found old next (place, other) found) in
        omega (arith, after', before, meets.light, split.lighter)
