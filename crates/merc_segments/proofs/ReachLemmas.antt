-- Places of a heap, gathered from the highest down.
use Rattle.std.proofs.Common.{◌≡◌, ℕ, ◌+◌, ◌<◌, Bool, true, false, List, [], ◌∷◌, ◌++◌, length, take, Some, refl, sym, ap, subst, ◌∙◌, arith, ⊎_elim, slice_get, get_or, cond, reverse, ◌-◌, length-append}
use Rattle.std.specs.Prelude.{◌==◌, ◌||◌}
use Rattle.std.specs.List.{All, list_any}
use Rattle.std.specs.List.Sorted.{IsStrictlyIncreasing}
use Rattle.std.specs.Ordering.{nat_cmp}
use Rattle.std.specs.Cmp.{unsigned_ties}
use Rattle.std.specs.BTreeMap.{is_at}
use Rattle.std.specs.BTreeMap.Range.{IsLtBy}
use Rattle.std.proofs.lemmas.Bool.{eq-eqb, eqb-true, or_left, or_right, or_cases}
use Rattle.std.proofs.lemmas.Bool.Decides.{nat_tests}
use Rattle.std.proofs.lemmas.List.{reverse-append, length-reverse}
use Rattle.std.proofs.lemmas.List.Folds.{list_any-append, list_any_at}
use Rattle.merc_value.specs.Block.{CellData, AreLower, IsBelow}
use Rattle.merc_value.specs.Writing.{arguments_at}
use Rattle.merc_value.specs.declared.word.Word.{Word}
use Rattle.merc_value.specs.declared.word.Word.TheVariants.{Int as IntWord, Text as TextWord, Atom as AtomWord, Cell as CellWord}
use Rattle.merc_value.proofs.Values.{All-first, All-rest}
use Rattle.merc_heap.proofs.MetLemmas.{arguments_lower}
use Rattle.merc_segments.specs.Places.{has, leads_to, LeadsInto, Adds}
use Rattle.merc_segments.proofs.PlaceLemmas.{has_cases, has_left, has_right, has_here, has_behind, first_or_behind, take_next, rises_none, rises_more, rising_count}

-- the set of places

turned : (a b : ℕ) → (a == b) ≡ (b == a)
turned a b = grind (arith, nat_tests)

keys_has : (keys : List ℕ) (place : ℕ) → list_any (is_at (nat_cmp place)) keys ≡ has keys place
keys_has [] place = refl
keys_has (key ∷ keys) place =
    ap (λ (b : Bool). b || list_any (is_at (nat_cmp place)) keys) (sym (unsigned_ties place key) ∙ turned place key)
    ∙ ap (λ (b : Bool). (key == place) || b) (keys_has keys place)

added_if : (b c : Bool) → cond b true c ≡ ((b || false) || c)
added_if true c = refl
added_if false c = refl

-- a place is put into the set
pub put_place : (old new : List ℕ) (put : ℕ) → ((place : ℕ) → list_any (is_at (nat_cmp place)) new ≡ cond (is_at (nat_cmp put) place) true (list_any (is_at (nat_cmp place)) old))
    → Adds (CellWord put ∷ []) old new
put_place old new put updated place =
    sym (keys_has new place) ∙ updated place ∙ ap (λ (b : Bool). cond b true (list_any (is_at (nat_cmp place)) old)) (sym (unsigned_ties put place))
    ∙ added_if (put == place) (list_any (is_at (nat_cmp place)) old)
    ∙ ap (λ (b : Bool). ((put == place) || false) || b) (keys_has old place)

less_than : (a b : ℕ) → IsLtBy nat_cmp a b → a < b
less_than a b less = grind (arith, nat_tests)

-- the highest is taken out
pub taken_highest : (rest : List ℕ) (place : ℕ) → All (λ other. IsLtBy nat_cmp other place) rest → (other : ℕ) → has rest other ≡ true → other < place
taken_highest [] place below other there = absurd (cc)
taken_highest (first ∷ rest) place below other there =
    ⊎_elim
    (λ (here : first ≡ other). subst (λ (n : ℕ). n < place) here (less_than first place (All-first (λ o. IsLtBy nat_cmp o place) first rest below)))
    (λ (behind : has rest other ≡ true). taken_highest rest place (All-rest (λ o. IsLtBy nat_cmp o place) first rest below) other behind)
    (first_or_behind first rest other there)

-- words that lead to places

leads_more : (xs ys : List ℕ) → ((place : ℕ) → has xs place ≡ true → has ys place ≡ true) → (word : Word) → LeadsInto xs word → LeadsInto ys word
leads_more xs ys more (IntWord number) leads = tt
leads_more xs ys more (TextWord name) leads = tt
leads_more xs ys more (AtomWord symbol) leads = tt
leads_more xs ys more (CellWord place) leads = more place leads

all_lead : (xs ys : List ℕ) → ((place : ℕ) → has xs place ≡ true → has ys place ≡ true) → (words : List Word) → All (LeadsInto xs) words → All (LeadsInto ys) words
all_lead xs ys more words all k d within = leads_more xs ys more (get_or words k d) (all k d within)

word_below : (bound : ℕ) (word : Word) → IsBelow bound word → (place : ℕ) → leads_to place word ≡ true → place < bound
word_below bound (IntWord number) below place leads = absurd (cc)
word_below bound (TextWord name) below place leads = absurd (cc)
word_below bound (AtomWord symbol) below place leads = absurd (cc)
word_below bound (CellWord other) below place leads = omega (arith, below, eqb-true other place leads)

words_below : (bound : ℕ) (words : List Word) → All (IsBelow bound) words → (place : ℕ) → list_any (leads_to place) words ≡ true → place < bound
words_below bound [] below place leads = absurd (cc)
words_below bound (word ∷ words) below place leads =
    ⊎_elim
    (λ (here : leads_to place word ≡ true). word_below bound word (All-first (IsBelow bound) word words below) place here)
    (λ (behind : list_any (leads_to place) words ≡ true). words_below bound words (All-rest (IsBelow bound) word words below) place behind)
    (or_cases (leads_to place word) (list_any (leads_to place) words) leads)

-- Places that words lead to are added.
module _ (words : List Word) (old new : List ℕ) (adds : Adds words old new) where
  word_leads : (k : ℕ) (d word : Word) → k < length words → get_or words k d ≡ word → LeadsInto new word
  word_leads k d (IntWord number) within is = tt
  word_leads k d (TextWord name) within is = tt
  word_leads k d (AtomWord symbol) within is = tt
  word_leads k d (CellWord place) within is =
      adds place ∙ or_left (list_any (leads_to place) words) (has old place) (list_any_at (leads_to place) words k d within (ap (leads_to place) is ∙ eq-eqb place place refl))

  pub added_lead : All (LeadsInto new) words
  added_lead k d within = word_leads k d (get_or words k d) within refl

  pub added_keep : (place : ℕ) → has old place ≡ true → has new place ≡ true
  added_keep place there = adds place ∙ or_right (list_any (leads_to place) words) (has old place) there

  pub added_below : (bound : ℕ) → All (IsBelow bound) words → ((place : ℕ) → has old place ≡ true → place < bound) → (place : ℕ) → has new place ≡ true → place < bound
  added_below bound below before place there =
      ⊎_elim
      (λ (led : list_any (leads_to place) words ≡ true). words_below bound words below place led)
      (λ (was : has old place ≡ true). before place was)
      (or_cases (list_any (leads_to place) words) (has old place) (sym (adds place) ∙ there))

pub adds_none : (words : List Word) (old : List ℕ) → Adds (take 0 words) old old
adds_none [] old place = refl
adds_none (word ∷ words) old place = refl

joined : (a b c : Bool) → (((b || false) || (a || c))) ≡ ((a || (b || false)) || c)
joined true true c = refl
joined true false c = refl
joined false true c = refl
joined false false c = refl

adds_last : (words : List Word) (word : Word) (old middle new : List ℕ) → Adds words old middle → Adds (word ∷ []) middle new → Adds (words ++ word ∷ []) old new
adds_last words word old middle new first second place =
    second place ∙ ap (λ (b : Bool). (leads_to place word || false) || b) (first place)
    ∙ joined (list_any (leads_to place) words) (leads_to place word) (has old place)
    ∙ ap (λ (b : Bool). b || has old place) (sym (list_any-append (leads_to place) words (word ∷ [])))

-- one word more
pub adds_next : (words : List Word) (k : ℕ) (word : Word) (old middle new : List ℕ) → slice_get words k ≡ Some word → Adds (take k words) old middle → Adds (word ∷ []) middle new
    → Adds (take (k + 1) words) old new
adds_next words k word old middle new found first second =
    subst (λ (ws : List Word). Adds ws old new) (sym (take_next words k word found)) (adds_last (take k words) word old middle new first second)

-- The places that are gathered lie above those that are pending; what the words and the fields lead to is among both.
pub record IsReaching (heap : List CellData) (words : List Word) (pending places : List ℕ) : Type 0 where
  pub rises : IsStrictlyIncreasing places
  pub above : (low high : ℕ) → has pending low ≡ true → has places high ≡ true → low < high
  pub inside : (place : ℕ) → has pending place ≡ true → place < length heap
  pub within : (place : ℕ) → has places place ≡ true → place < length heap
  pub led : All (LeadsInto (pending ++ places)) words
  pub fields : (place : ℕ) → has places place ≡ true → All (LeadsInto (pending ++ places)) (arguments_at heap place)

pub reaching_none : (heap : List CellData) (words : List Word) (pending : List ℕ) → All (IsBelow (length heap)) words → Adds words [] pending → IsReaching heap words pending []
reaching_none heap words pending below adds = record {
  rises = rises_none;
  above = λ low high there there'. absurd (cc);
  inside = added_below words [] pending adds (length heap) below (λ place there. absurd (cc));
  within = λ place there. absurd (cc);
  led = all_lead pending (pending ++ []) (λ place there. has_left pending [] place there) words (added_lead words [] pending adds);
  fields = λ place there. absurd (cc);
}

pub was_pending : (pending rest : List ℕ) (place : ℕ) → pending ≡ rest ++ place ∷ [] → has pending place ≡ true
was_pending pending rest place taken = ap (λ (ps : List ℕ). has ps place) taken ∙ has_right rest (place ∷ []) place (has_here place [])

-- One round: the highest place that is pending is gathered, and its fields' places are pending now.
module _ (heap : List CellData) (lower : AreLower heap) (words : List Word) (pending rest new places : List ℕ) (place : ℕ) (taken : pending ≡ rest ++ place ∷ [])
    (highest : (other : ℕ) → has rest other ≡ true → other < place) (adds : Adds (arguments_at heap place) rest new) (reaching : IsReaching heap words pending places) where
  was_open : has pending place ≡ true
  was_open = was_pending pending rest place taken

  new_low : (other : ℕ) → has new other ≡ true → other < place
  new_low = added_below (arguments_at heap place) rest new adds place (arguments_lower heap lower place (reaching.inside place was_open)) highest

  kept : (other : ℕ) → has (pending ++ places) other ≡ true → has (new ++ place ∷ places) other ≡ true
  kept other there =
      ⊎_elim
      (λ (opened : has pending other ≡ true). ⊎_elim
      (λ (left : has rest other ≡ true). has_left new (place ∷ places) other (added_keep (arguments_at heap place) rest new adds other left))
      (λ (last : has (place ∷ []) other ≡ true). has_right new (place ∷ places) other
      (⊎_elim (λ (here : place ≡ other). subst (λ (n : ℕ). has (place ∷ places) n ≡ true) here (has_here place places)) (λ (none : has [] other ≡ true). absurd (cc)) (first_or_behind place [] other last)))
      (has_cases rest (place ∷ []) other (sym (ap (λ (ps : List ℕ). has ps other) taken) ∙ opened)))
      (λ (gathered : has places other ≡ true). has_right new (place ∷ places) other (has_behind place places other gathered))
      (has_cases pending places other there)

  pub reaching_next : IsReaching heap words new (place ∷ places)
  reaching_next = record {
    rises = rises_more place places (λ high there. reaching.above place high was_open there) reaching.rises;
    above = λ low high there there'. ⊎_elim
        (λ (here : place ≡ high). omega (arith, here, new_low low there))
        (λ (behind : has places high ≡ true). omega (arith, new_low low there, reaching.above place high was_open behind))
        (first_or_behind place places high there');
    inside = λ other there. omega (arith, new_low other there, reaching.inside place was_open);
    within = λ other there. ⊎_elim
        (λ (here : place ≡ other). omega (arith, here, reaching.inside place was_open))
        (λ (behind : has places other ≡ true). reaching.within other behind)
        (first_or_behind place places other there);
    led = all_lead (pending ++ places) (new ++ place ∷ places) kept words reaching.led;
    fields = λ other there. ⊎_elim
        (λ (here : place ≡ other). subst (λ (n : ℕ). All (LeadsInto (new ++ place ∷ places)) (arguments_at heap n)) here
        (all_lead new (new ++ place ∷ places) (λ p led. has_left new (place ∷ places) p led) (arguments_at heap place) (added_lead (arguments_at heap place) rest new adds)))
        (λ (behind : has places other ≡ true). all_lead (pending ++ places) (new ++ place ∷ places) kept (arguments_at heap other) (reaching.fields other behind))
        (first_or_behind place places other there);
  }

-- The same, where the places are on a list from the highest to the lowest.
module _ (heap : List CellData) (lower : AreLower heap) (words : List Word) (pending rest new list more : List ℕ) (place : ℕ) (taken : pending ≡ rest ++ place ∷ [])
    (highest : (other : ℕ) → has rest other ≡ true → other < place) (adds : Adds (arguments_at heap place) rest new) (reaching : IsReaching heap words pending (reverse list)) (pushed : more ≡ list ++ place ∷ []) where
  pub round_kept : IsReaching heap words new (reverse more)
  round_kept =
      subst (IsReaching heap words new) (sym (ap reverse pushed ∙ reverse-append list (place ∷ [])))
      (reaching_next heap lower words pending rest new (reverse list) place taken highest adds reaching)

  pub round_smaller : length heap - length more < length heap - length list
  round_smaller =
      let count = rising_count (length heap) (reverse more) round_kept.rises round_kept.within in
      omega (arith, count, length-reverse more, ap length pushed, length-append list (place ∷ []))
