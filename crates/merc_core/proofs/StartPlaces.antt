-- The table of places past scripts, filled from the back.
use Rattle.std.proofs.Common.{◌≡◌, ℕ, zero, suc, ◌+◌, ◌≤◌, ◌<◌, ◌⊎◌, inl, inr, false, List, [], ◌∷◌, ◌++◌, Some, refl, ap, sym, ◌∙◌, subst, arith, length, drop, append_assoc}
use Rattle.std.proofs.Math.ListN.{set}
use Rattle.std.proofs.lemmas.Bool.Decides.{nat_tests}
use Rattle.std.specs.Prelude.{slice_get, nat_eq}
use Rattle.merc_script.specs.declared.items.Item.{Item}
use Rattle.merc_script.specs.declared.items.Fork.{Fork as ForkData}
use Rattle.merc_script.specs.declared.items.Item.TheVariants.{Tick, Wait, Signal, Fork, End}
use Rattle.merc_script.specs.Script.{Script, Ends, TickThen, WaitThen, SignalThen, ForkThen, Children, NoChild, Child, count, size, sizes}
use Rattle.merc_script.specs.Items.{items_of, items_in}
use Rattle.merc_core.specs.Standing.{StandsAt, StandAt}
use Rattle.merc_core.specs.Forking.{place_or, past_script, past_scripts}
use Rattle.merc_core.specs.Starting.{past_item, IsPast}
use Rattle.merc_core.proofs.StandingLaws.{behind_items, length-items_in}
use Rattle.merc_core.proofs.Simple.{stands-within}
use Rattle.merc_core.proofs.ForkedAt.{first-stands, more-stand}
use Rattle.merc_core.proofs.Acting.{get-set-here, get-set-there, nat-is}
use Rattle.merc_core.proofs.Pool.{each_way}

nat-behind : (a b : ℕ) → a ≤ b → nat_eq a b ≡ false → a < b
nat-behind a b less apart = grind (arith, nat_tests)

-- the table is right from a place on
abbrev pub IsPastFrom : ℕ → List Item → List ℕ → Type 0
IsPastFrom from items past = (place : ℕ) (script : Script) → from ≤ place → StandsAt items place script → slice_get past place ≡ Some (place + size script)

pub past-nowhere : (items : List Item) (past : List ℕ) (from : ℕ) → length items ≤ from → IsPastFrom from items past
past-nowhere items past from end = λ place script behind stands. let e = stands-within items place script stands in absurd (omega (arith, end, behind, e))

pub past-everywhere : (items : List Item) (past : List ℕ) (from : ℕ) → from ≤ 0 → IsPastFrom from items past → IsPast items past
past-everywhere items past from none is = λ place script stands. is place script (omega (arith, none)) stands

module _ (items : List Item) (past : List ℕ) (from : ℕ) (is : IsPastFrom from items past) where
  past-one : (place : ℕ) (script : Script) → from ≤ place → StandsAt items place script → past_script past place ≡ place + size script
  past-one place script behind stands = ap (place_or place) (is place script behind stands)

  past-each : (place : ℕ) (children : Children) → from ≤ place → StandAt items place children → past_scripts past place (count children) ≡ place + sizes children
  past-each place NoChild behind stand = let e : place ≡ place + 0 = omega arith in e
  past-each place (Child first more) behind stand =
      let p = past-one place first behind (first-stands items place first more stand) in
      let e : place + size first + sizes more ≡ place + (size first + sizes more) = omega arith in
      ap (λ n. past_scripts past n (count more)) p ∙ past-each (place + size first) more (omega (arith, behind)) (more-stand items place first more stand) ∙ e

-- the scripts behind an item are known, and with them the one that starts with it
module _ (items : List Item) (past : List ℕ) (place : ℕ) (is : IsPastFrom (suc place) items past) where
  past-simple : (rest : Script) (behind : List Item) → drop (suc place) items ≡ items_of rest ++ behind → past_script past (suc place) ≡ place + suc (size rest)
  past-simple rest behind stands = let e = past-one items past (suc place) is (suc place) rest (omega arith) (behind, stands) in omega (arith, e)

  past-fork : (children : Children) (rest : Script) (behind : List Item) → drop (suc place) items ≡ items_in children ++ (items_of rest ++ behind)
      → past_script past (past_scripts past (suc place) (count children)) ≡ place + suc (sizes children + size rest)
  past-fork children rest behind stand =
      let e = past-each items past (suc place) is (suc place) children (omega arith) (items_of rest ++ behind, stand) in
      let f = past-one items past (suc place) is (suc place + sizes children) rest (omega arith)
      (behind, behind_items items (items_in children) (items_of rest ++ behind) (suc place) (sizes children) (length-items_in children) stand) in
      ap (past_script past) e ∙ f ∙ (let g : suc place + sizes children + size rest ≡ place + suc (sizes children + size rest) = omega arith in g)

  pub past-here : (item : Item) (script : Script) → drop place items ≡ item ∷ drop (suc place) items → StandsAt items place script → past_item past item (suc place) ≡ place + size script
  past-here item (Ends end) at stands =
      let e : End end ∷ stands.0 ≡ item ∷ drop (suc place) items = sym stands.1 ∙ at in
      let f : item ≡ End end = cc (e) in
      ap (λ i. past_item past i (suc place)) f ∙ (let g : suc place ≡ place + 1 = omega arith in g)
  past-here item (TickThen rest) at stands =
      let e : Tick ∷ (items_of rest ++ stands.0) ≡ item ∷ drop (suc place) items = sym stands.1 ∙ at in
      let f : item ≡ Tick = cc (e) in
      ap (λ i. past_item past i (suc place)) f ∙ past-simple rest stands.0 (cc (e))
  past-here item (WaitThen cell rest) at stands =
      let e : Wait cell ∷ (items_of rest ++ stands.0) ≡ item ∷ drop (suc place) items = sym stands.1 ∙ at in
      let f : item ≡ Wait cell = cc (e) in
      ap (λ i. past_item past i (suc place)) f ∙ past-simple rest stands.0 (cc (e))
  past-here item (SignalThen cell rest) at stands =
      let e : Signal cell ∷ (items_of rest ++ stands.0) ≡ item ∷ drop (suc place) items = sym stands.1 ∙ at in
      let f : item ≡ Signal cell = cc (e) in
      ap (λ i. past_item past i (suc place)) f ∙ past-simple rest stands.0 (cc (e))
  past-here item (ForkThen limit cells moves children rest) at stands =
      let fork : ForkData = record { limit = limit; children = count children; cells = cells; moves = moves } in
      let e : Fork fork ∷ ((items_in children ++ items_of rest) ++ stands.0) ≡ item ∷ drop (suc place) items = sym stands.1 ∙ at in
      let f : item ≡ Fork fork = cc (e) in
      let g : drop (suc place) items ≡ (items_in children ++ items_of rest) ++ stands.0 = cc (e) in
      ap (λ i. past_item past i (suc place)) f ∙ past-fork children rest stands.0 (g ∙ append_assoc (items_in children) (items_of rest) stands.0)

pub here-or-behind : (a b : ℕ) → a ≤ b → (a ≡ b) ⊎ (a < b)
here-or-behind a b less = elim (each_way (nat_eq a b)) [
  | inl same ↦ inl (nat-is a b same)
  | inr apart ↦ inr (nat-behind a b less apart)
]

-- an item at a place
pub at-place : (items : List Item) (place : ℕ) → place < length items → (item : Item) × (drop place items ≡ item ∷ drop (suc place) items) × (slice_get items place ≡ Some item)
at-place [] place in_range = absurd (omega (arith, in_range))
at-place (item ∷ items) zero in_range = (item, refl, refl)
at-place (item ∷ items) (suc place) in_range = at-place items place (omega (arith, in_range))

-- one place more is written
pub past-more : (items : List Item) (past : List ℕ) (place next : ℕ) (item : Item) → next ≡ suc place → place < length items → length past ≡ length items
    → drop place items ≡ item ∷ drop (suc place) items → IsPastFrom next items past → IsPastFrom place items (set past place (past_item past item (place + 1)))
past-more items past place next item is_next in_range long whole is = λ q script behind stands.
    let v = past_item past item (place + 1) in
    elim (here-or-behind place q behind) [
      | inl same ↦
          (let e : place + 1 ≡ suc place = omega arith in
          ap (slice_get (set past place v)) (sym same) ∙ get-set-here past place v (omega (arith, in_range, long))
          ∙ ap (λ n. Some n) (ap (past_item past item) e ∙ past-here items past place (λ p s b st. is p s (omega (arith, b, is_next)) st) item script whole (subst (λ p. StandsAt items p script) (sym same) stands)
          ∙ ap (λ p. p + size script) same))
      | inr less ↦ get-set-there past place q v (λ e. absurd (omega (arith, e, less))) ∙ is q script (omega (arith, is_next, less)) stands
    ]
