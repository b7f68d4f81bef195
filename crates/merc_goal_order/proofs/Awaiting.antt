-- Goals that are awaited, and those to which places belong.
use Rattle.std.specs.Prelude.{◌≡◌, ◌≤◌, ◌<◌, ◌+◌, ◌==◌, ◌||◌, ◌&&◌, nat_le, nat_lt, ℕ, zero, suc, Bool, true, false, List, [], ◌∷◌, ◌++◌, length, take, drop, slice_get, Some, refl, if◌then◌else◌}
use Rattle.std.specs.BTreeMap.{is_at}
use Rattle.std.specs.Cmp.{unsigned_ties}
use Rattle.std.specs.List.{list_any, filter, slice_index_or}
use Rattle.std.specs.Ordering.{nat_cmp}
use Rattle.std.proofs.Common.{◌∙◌, ◌⊎◌, inl, inr, ap, sym, subst, cond, arith}
use Rattle.std.proofs.lemmas.Bool.{eqb-true, cases_lt}
use Rattle.std.proofs.lemmas.Bool.Decides.{nat_tests}
use Rattle.merc_order.specs.Bound.{among}
use Rattle.merc_simple_goals.specs.Places.{places_from, places_within}
use Rattle.merc_goal_order.specs.Agenda.{start_at, Ascends, Holds, inside, awaits, IsSound, AwaitsPlaces, AwaitsAgain}
use Rattle.merc_goal_order.specs.declared.agenda.Agenda.{Agenda}
use Rattle.merc_goal_order.specs.declared.agenda.Start.{Start}
use Rattle.merc_goal_facts.proofs.Bounds.{among-append}

-- tests

le_true : (a b : ℕ) → a ≤ b → nat_le a b ≡ true
le_true a b h = grind (arith, nat_tests)

lt_true : (a b : ℕ) → a < b → nat_lt a b ≡ true
lt_true a b h = grind (arith, nat_tests)

same_is : (a : ℕ) → (a == a) ≡ true
same_is a = grind (arith, nat_tests)

tie : (a b : ℕ) → is_at (nat_cmp a) b ≡ (a == b)
tie a b = sym (unsigned_ties a b)

tied : (a b : ℕ) → is_at (nat_cmp a) b ≡ true → a ≡ b
tied a b h = eqb-true a b (sym (tie a b) ∙ h)

self : (a : ℕ) → is_at (nat_cmp a) a ≡ true
self a = tie a a ∙ same_is a

or_true : (a b : Bool) → a ≡ true → (a || b) ≡ true
or_true a b h = ap (λ x. x || b) h

or_last : (b : Bool) → (b || true) ≡ true
or_last true = refl
or_last false = refl

or_more : (a b c : Bool) → (b ≡ true → c ≡ true) → (a || b) ≡ true → (a || c) ≡ true
or_more true b c more h = refl
or_more false b c more h = more h

-- whether a goal is to be asked, by how many were asked and which are to be asked again
abbrev pub is_awaited : ℕ → List ℕ → ℕ → Bool
is_awaited asked again index = nat_le asked index || list_any (is_at (nat_cmp index)) again

-- one more is to be asked again

put_at : (old new : Bool) (same : Bool) → new ≡ cond same true old → old ≡ true → new ≡ true
put_at old new true is h = is
put_at old new false is h = is ∙ h

pub put_more : (old new : List ℕ) (key asked : ℕ) → ((index : ℕ) → list_any (is_at (nat_cmp index)) new ≡ cond (is_at (nat_cmp key) index) true (list_any (is_at (nat_cmp index)) old))
    → (index : ℕ) → is_awaited asked old index ≡ true → is_awaited asked new index ≡ true
put_more old new key asked put index h =
    or_more (nat_le asked index) (list_any (is_at (nat_cmp index)) old) (list_any (is_at (nat_cmp index)) new)
    (λ there. put_at (list_any (is_at (nat_cmp index)) old) (list_any (is_at (nat_cmp index)) new) (is_at (nat_cmp key) index) (put index) there) h

pub put_there : (old new : List ℕ) (key asked : ℕ) → ((index : ℕ) → list_any (is_at (nat_cmp index)) new ≡ cond (is_at (nat_cmp key) index) true (list_any (is_at (nat_cmp index)) old))
    → is_awaited asked new key ≡ true
put_there old new key asked put =
    ap (λ b. nat_le asked key || b) (put key ∙ ap (λ b. cond b true (list_any (is_at (nat_cmp key)) old)) (self key)) ∙ by (nat_le asked key)
  where
    by : (b : Bool) → (b || true) ≡ true
    by true = refl
    by false = refl

pub put_below : (old new : List ℕ) (key asked : ℕ) → ((index : ℕ) → list_any (is_at (nat_cmp index)) new ≡ cond (is_at (nat_cmp key) index) true (list_any (is_at (nat_cmp index)) old))
    → ((index : ℕ) → list_any (is_at (nat_cmp index)) old ≡ true → index < asked) → key < asked → (index : ℕ) → list_any (is_at (nat_cmp index)) new ≡ true → index < asked
put_below old new key asked put below within index h = by (is_at (nat_cmp key) index) refl
  where
    by : (b : Bool) → is_at (nat_cmp key) index ≡ b → index < asked
    by true at = subst (λ n. n < asked) (tied key index at) within
    by false at = below index (sym (put index ∙ ap (λ b. cond b true (list_any (is_at (nat_cmp index)) old)) at) ∙ h)

pub asked_awaited : (again : List ℕ) (asked index : ℕ) → asked ≤ index → is_awaited asked again index ≡ true
asked_awaited again asked index h = or_true (nat_le asked index) (list_any (is_at (nat_cmp index)) again) (le_true asked index h)

-- starts

pub start_is : (starts : List Start) (index : ℕ) (here : Start) → index < length starts → here ≡ slice_index_or starts index here → here ≡ start_at starts index
start_is [] index here h is = absurd (omega (arith, h))
start_is (first ∷ rest) zero here h is = is
start_is (first ∷ rest) (suc index) here h is = start_is rest index here (omega (arith, h)) is

-- one start more, of which something holds as of all others
pub pushed : (P : ℕ → Start → Type 0) (starts : List Start) (here : Start) → ((index : ℕ) → index < length starts → P index (start_at starts index)) → P (length starts) here
    → (index : ℕ) → index < length (starts ++ here ∷ []) → P index (start_at (starts ++ here ∷ []) index)
pushed P [] here all one zero h = one
pushed P [] here all one (suc index) h = absurd (omega (arith, h))
pushed P (first ∷ rest) here all one zero h = all 0 (omega arith)
pushed P (first ∷ rest) here all one (suc index) h =
    pushed (λ n s. P (suc n) s) rest here (λ n less. all (suc n) (omega (arith, less))) one index (omega (arith, h))

-- A place belongs to one goal.

pub only_one : (starts : List Start) (one other place : ℕ) → Ascends starts → suc one < length starts → suc other < length starts → Holds starts one place → Holds starts other place → one ≡ other
only_one starts one other place ascends h k (low, high) (under, over) = by (cases_lt one other) (cases_lt other one)
  where
    by : (one < other) ⊎ (other ≤ one) → (other < one) ⊎ (one ≤ other) → one ≡ other
    by (inl less) rest = let up = ascends (suc one) other (omega (arith, less)) (omega (arith, k)) in absurd (omega (arith, up, high, under))
    by (inr more) (inl less) = let up = ascends (suc other) one (omega (arith, less)) (omega (arith, h)) in absurd (omega (arith, up, over, low))
    by (inr more) (inr back) = omega (arith, more, back)

-- a variable that occurs in a goal does so at a place

pub record OccursAt (all : List ℕ) (start end variable : ℕ) : Type 0 where
  pub place : ℕ
  pub from : start ≤ place
  pub to : place < end
  pub is : slice_get all place ≡ Some variable

either : (a b : Bool) → (a || b) ≡ true → (a ≡ true) ⊎ (b ≡ true)
either true b h = inl refl
either false b h = inr h

occurs_first : (first : ℕ) (rest : List ℕ) (end variable : ℕ) → (among (take end rest) variable ≡ true → OccursAt rest 0 end variable) → ((variable == first) ≡ true) ⊎ (among (take end rest) variable ≡ true)
    → OccursAt (first ∷ rest) 0 (suc end) variable
occurs_first first rest end variable deeper (inl same) = record { place = 0; from = omega arith; to = omega arith; is = ap Some (sym (eqb-true variable first same)) }
occurs_first first rest end variable deeper (inr later) = let o = deeper later in record { place = suc o.place; from = omega arith; to = (let to = o.to in omega (arith, to)); is = o.is }

pub occurs_at : (all : List ℕ) (start end variable : ℕ) → among (drop start (take end all)) variable ≡ true → OccursAt all start end variable
occurs_at [] start zero variable h = none start h
  where
    none : (start : ℕ) → among (drop start []) variable ≡ true → OccursAt [] start 0 variable
    none zero h = cc
    none (suc start) h = cc
occurs_at [] start (suc end) variable h = none start h
  where
    none : (start : ℕ) → among (drop start []) variable ≡ true → OccursAt [] start (suc end) variable
    none zero h = cc
    none (suc start) h = cc
occurs_at (first ∷ rest) start zero variable h = none start h
  where
    none : (start : ℕ) → among (drop start []) variable ≡ true → OccursAt (first ∷ rest) start 0 variable
    none zero h = cc
    none (suc start) h = cc
occurs_at (first ∷ rest) zero (suc end) variable h = occurs_first first rest end variable (λ later. occurs_at rest 0 end variable later) (either (variable == first) (among (take end rest) variable) h)
occurs_at (first ∷ rest) (suc start) (suc end) variable h =
    let o = occurs_at rest start end variable h in
    record { place = suc o.place; from = (let from = o.from in omega (arith, from)); to = (let to = o.to in omega (arith, to)); is = o.is }

-- and is among its places

some_is : (one other : ℕ) → Some one ≡ Some other → one ≡ other
some_is one other h = cc

listed_from : (all : List ℕ) (first place variable : ℕ) → slice_get all place ≡ Some variable → among (places_from first variable all) (first + place) ≡ true
listed_from [] first place variable h = cc
listed_from (one ∷ rest) first zero variable h =
    ap (λ b. among (if b then first ∷ places_from (suc first) variable rest else places_from (suc first) variable rest) (first + 0)) (ap (λ n. n == one) (sym (some_is one variable h)) ∙ same_is one)
    ∙ ap (λ n. (n == first) || among (places_from (suc first) variable rest) n) (let e : first + 0 ≡ first = omega arith in e)
    ∙ or_true (first == first) (among (places_from (suc first) variable rest) first) (same_is first)
listed_from (one ∷ rest) first (suc place) variable h =
    by (variable == one) (ap (λ n. among (places_from (suc first) variable rest) n) (let e : first + suc place ≡ suc first + place = omega arith in e) ∙ listed_from rest (suc first) place variable h)
  where
    by : (b : Bool) → among (places_from (suc first) variable rest) (first + suc place) ≡ true
        → among (if b then first ∷ places_from (suc first) variable rest else places_from (suc first) variable rest) (first + suc place) ≡ true
    by true there = ap (λ b. ((first + suc place) == first) || b) there ∙ or_last ((first + suc place) == first)
    by false there = there

kept_by : (test : ℕ → Bool) (first : ℕ) (rest : List ℕ) (place : ℕ) (b : Bool) → test first ≡ b → test place ≡ true → (among rest place ≡ true → among (filter test rest) place ≡ true)
    → ((place == first) ≡ true) ⊎ (among rest place ≡ true) → among (if b then first ∷ filter test rest else filter test rest) place ≡ true
kept_by test first rest place true is passes deeper (inl same) = or_true (place == first) (among (filter test rest) place) same
kept_by test first rest place true is passes deeper (inr later) = ap (λ b. (place == first) || b) (deeper later) ∙ or_last (place == first)
kept_by test first rest place false is passes deeper (inl same) = let no : false ≡ true = sym is ∙ ap test (sym (eqb-true place first same)) ∙ passes in cc
kept_by test first rest place false is passes deeper (inr later) = deeper later

kept_among : (test : ℕ → Bool) (places : List ℕ) (place : ℕ) → test place ≡ true → among places place ≡ true → among (filter test places) place ≡ true
kept_among test [] place passes h = cc
kept_among test (first ∷ rest) place passes h =
    kept_by test first rest place (test first) refl passes (λ later. kept_among test rest place passes later) (either (place == first) (among rest place) h)

pub listed : (all : List ℕ) (start end place variable : ℕ) → start ≤ place → place < end → slice_get all place ≡ Some variable → among (places_within start end variable all) place ≡ true
listed all start end place variable from to is =
    kept_among (λ p. nat_le start p && nat_lt p end) (places_from 0 variable all) place (ap (λ b. b && nat_lt place end) (le_true start place from) ∙ lt_true place end to)
    (ap (λ n. among (places_from 0 variable all) n) (let e : place ≡ 0 + place = omega arith in e) ∙ listed_from all 0 place variable is)

-- a list up to one item more
item_last : (items : List ℕ) (index : ℕ) → index < length items → take (suc index) items ≡ take index items ++ slice_index_or items index 0 ∷ []
item_last [] index h = absurd (omega (arith, h))
item_last (first ∷ rest) zero h = refl
item_last (first ∷ rest) (suc index) h = ap (λ l. first ∷ l) (item_last rest index (omega (arith, h)))

pub item_is : (items : List ℕ) (index item : ℕ) → index < length items → item ≡ slice_index_or items index item → item ≡ slice_index_or items index 0
item_is [] index item h is = absurd (omega (arith, h))
item_is (first ∷ rest) zero item h is = is
item_is (first ∷ rest) (suc index) item h is = item_is rest index item (omega (arith, h)) is

pub take_item : (items : List ℕ) (index : ℕ) → index < length items → take (index + 1) items ≡ take index items ++ slice_index_or items index 0 ∷ []
take_item items index h = ap (λ n. take n items) (let e : index + 1 ≡ suc index = omega arith in e) ∙ item_last items index h

last_is : (places : List ℕ) (place other : ℕ) → among (places ++ place ∷ []) other ≡ true → (among places other ≡ true) ⊎ (other ≡ place)
last_is places place other h = by (either (among places other) (among (place ∷ []) other) (sym (among-append places (place ∷ []) other) ∙ h))
  where
    by : (among places other ≡ true) ⊎ (among (place ∷ []) other ≡ true) → (among places other ≡ true) ⊎ (other ≡ place)
    by (inl there) = inl there
    by (inr last) = only (either (other == place) false last)
      where
        only : ((other == place) ≡ true) ⊎ (false ≡ true) → (among places other ≡ true) ⊎ (other ≡ place)
        only (inl same) = inr (eqb-true other place same)
        only (inr wrong) = cc

still : {A : Type 0} {now new : Bool} → (now ≡ true → new ≡ true) → A ⊎ (now ≡ true) → A ⊎ (new ≡ true)
still more (inl a) = inl a
still more (inr h) = inr (more h)

-- one place more

pub places_more : (binding place : ℕ) (places : List ℕ) (old now new : Agenda) → AwaitsPlaces binding places old now → ((index : ℕ) → awaits now index ≡ true → awaits new index ≡ true)
    → (Ascends old.starts.items → (index : ℕ) → Holds old.starts.items index place → (index ≡ binding) ⊎ (awaits new index ≡ true)) → AwaitsPlaces binding (places ++ place ∷ []) old new
places_more binding place places old now new a more one = record {
  more = λ index h. more index (a.more index h);
  each = λ ascends index other there lies. by ascends index other lies (last_is places place other there);
}
  where
    by : Ascends old.starts.items → (index other : ℕ) → Holds old.starts.items index other → (among places other ≡ true) ⊎ (other ≡ place) → (index ≡ binding) ⊎ (awaits new index ≡ true)
    by ascends index other lies (inl there) = still (more index) (a.each ascends index other there lies)
    by ascends index other lies (inr is) = one ascends index (subst (λ p. Holds old.starts.items index p) is lies)

-- it belongs to the goal that binds
pub place_own : (binding place : ℕ) (old now : Agenda) → IsSound now → now.starts ≡ old.starts → binding < now.asked → Holds old.starts.items binding place
    → Ascends old.starts.items → (index : ℕ) → Holds old.starts.items index place → (index ≡ binding) ⊎ (awaits now index ≡ true)
place_own binding place old now sound same within own ascends index lies = by (cases_lt index now.asked)
  where
    room : now.asked < length old.starts.items
    room = subst (λ v. now.asked < length v.items) same sound.room

    by : (index < now.asked) ⊎ (now.asked ≤ index) → (index ≡ binding) ⊎ (awaits now index ≡ true)
    by (inl less) = inl (only_one old.starts.items index binding place ascends (omega (arith, less, room)) (omega (arith, within, room)) lies own)
    by (inr more) = inr (asked_awaited now.again.keys now.asked index more)

-- it belongs to another, which is to be asked again
pub place_other : (binding place key : ℕ) (old now new : Agenda) → IsSound now → now.starts ≡ old.starts → new.asked ≡ now.asked → key < now.asked
    → ((start_at now.starts.items 0).place ≤ place → place < (start_at now.starts.items now.asked).place → Holds now.starts.items key place)
    → awaits new key ≡ true → Ascends old.starts.items → (index : ℕ) → Holds old.starts.items index place → (index ≡ binding) ⊎ (awaits new index ≡ true)
place_other binding place key old now new sound same asked within holds there ascends index (from, to) = by (cases_lt index now.asked)
  where
    room : now.asked < length old.starts.items
    room = subst (λ v. now.asked < length v.items) same sound.room

    key_holds : (start_at old.starts.items 0).place ≤ place → place < (start_at old.starts.items now.asked).place → Holds old.starts.items key place
    key_holds = subst (λ v. (start_at v.items 0).place ≤ place → place < (start_at v.items now.asked).place → Holds v.items key place) same holds

    by : (index < now.asked) ⊎ (now.asked ≤ index) → (index ≡ binding) ⊎ (awaits new index ≡ true)
    by (inl less) =
        let low = ascends 0 index (omega arith) (omega (arith, less, room)) in
        let high = ascends (suc index) now.asked (omega (arith, less)) room in
        let lies = key_holds (omega (arith, low, from)) (omega (arith, high, to)) in
        let is = only_one old.starts.items index key place ascends (omega (arith, less, room)) (omega (arith, within, room)) (from, to) lies in
        inr (subst (λ n. awaits new n ≡ true) (sym is) there)
    by (inr more) = inr (asked_awaited new.again.keys new.asked index (omega (arith, asked, more)))

-- one variable more

pub variables_more : (all : List ℕ) (binding variable first end : ℕ) (variables places : List ℕ) (old now new : Agenda) → AwaitsAgain all binding variables old now → AwaitsPlaces binding places now new
    → places ≡ places_within first end variable all → IsSound now → now.starts ≡ old.starts → now.asked ≡ old.asked → new.asked ≡ now.asked
    → first ≡ (start_at old.starts.items 0).place → end ≡ (start_at old.starts.items old.asked).place
    → AwaitsAgain all binding (variables ++ variable ∷ []) old new
variables_more all binding variable first end variables places old now new a p is sound same same_asked asked first_is end_is = record {
  more = λ index h. p.more index (a.more index h);
  each = λ ascends index other there inner. by ascends index other inner (last_is variables variable other there);
}
  where
    room : now.asked < length old.starts.items
    room = subst (λ v. now.asked < length v.items) same sound.room

    found : Ascends old.starts.items → (index : ℕ) → OccursAt all (start_at old.starts.items index).place (start_at old.starts.items (suc index)).place variable → (index < now.asked) ⊎ (now.asked ≤ index)
        → (index ≡ binding) ⊎ (awaits new index ≡ true)
    found ascends index o (inr more) = inr (asked_awaited new.again.keys new.asked index (omega (arith, asked, more)))
    found ascends index o (inl less) =
        let low = ascends 0 index (omega arith) (omega (arith, less, room)) in
        let high = ascends (suc index) now.asked (omega (arith, less)) room in
        let stop : end ≡ (start_at old.starts.items now.asked).place = end_is ∙ ap (λ n. (start_at old.starts.items n).place) (sym same_asked) in
        let from = o.from in
        let to = o.to in
        let there = listed all first end o.place variable (omega (arith, first_is, low, from)) (omega (arith, stop, high, to)) o.is in
        p.each (subst (λ v. Ascends v.items) (sym same) ascends) index o.place (ap (λ l. among l o.place) is ∙ there) (subst (λ v. Holds v.items index o.place) (sym same) (from, to))

    by : Ascends old.starts.items → (index other : ℕ) → among (inside all old.starts.items index) other ≡ true → (among variables other ≡ true) ⊎ (other ≡ variable) → (index ≡ binding) ⊎ (awaits new index ≡ true)
    by ascends index other inner (inl there) = still (p.more index) (a.each ascends index other there inner)
    by ascends index other inner (inr same_one) =
        found ascends index
        (occurs_at all (start_at old.starts.items index).place (start_at old.starts.items (suc index)).place variable (subst (λ v. among (inside all old.starts.items index) v ≡ true) same_one inner))
        (cases_lt index now.asked)

pub none_more : (all : List ℕ) (binding : ℕ) (agenda : Agenda) → AwaitsAgain all binding [] agenda agenda
none_more all binding agenda = record { more = λ index h. h; each = λ ascends index variable there inner. let no : false ≡ true = there in cc }
