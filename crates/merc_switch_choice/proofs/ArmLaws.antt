-- Disjuncts are put to the arms of their symbols, one after the other.
use Rattle.std.specs.Prelude.{◌≡◌, ◌<◌, ◌≤◌, ℕ, zero, suc, ◌+◌, Bool, true, false, not, ◌==◌, ◌||◌, List, [], ◌∷◌, ◌++◌, length, map, Option, Some, None, if◌then◌else◌, refl}
use Rattle.std.specs.List.{position_or_len, slice_index_or, slice_set}
use Rattle.std.proofs.Common.{◌∙◌, ap, sym, subst, arith, cond, take, drop}
use Rattle.std.proofs.lemmas.List.{length-append, length-map, length-set}
use Rattle.std.proofs.Math.Seq.{take-append_seam}
use Rattle.merc_goal_tree.specs.declared.goal.Symbol.{Symbol}
use Rattle.merc_graded_tree.specs.Nodes.{Node}
use Rattle.merc_grading.specs.Known.{same_symbol, has_symbol}
use Rattle.merc_grading.specs.Switches.{Group, symbol_at, of_symbol, without_symbol, with_disjunct, grouped}
use Rattle.merc_switch_choice.specs.Arms.{AreArms, joined_in}
use Rattle.merc_switch_choice.specs.Symbols.{with_symbol}
use Rattle.merc_switch_choice.proofs.SameSymbols.{symbols_equal, symbol_self}
use Rattle.merc_switch_choice.proofs.Tests.{next_eq, none_eq}

-- one disjunct more in the groups

of_joined_same_if : (b : Bool) (s : Symbol) (d : Node) (group : Group) (groups : List Group) → same_symbol s group.0 ≡ b → of_symbol s (joined_in s d groups) ≡ of_symbol s groups ++ d ∷ []
    → of_symbol s (if b then (group.0, group.1 ++ d ∷ []) ∷ groups else group ∷ joined_in s d groups) ≡ (if b then group.1 else of_symbol s groups) ++ d ∷ []
of_joined_same_if true s d group groups same h = ap (λ b. if b then group.1 ++ d ∷ [] else of_symbol s groups) same
of_joined_same_if false s d group groups same h = ap (λ b. if b then group.1 else of_symbol s (joined_in s d groups)) same ∙ h

of_joined_same : (s : Symbol) (d : Node) (groups : List Group) → of_symbol s (joined_in s d groups) ≡ of_symbol s groups ++ d ∷ []
of_joined_same s d [] = ap (λ b. if b then d ∷ [] else []) (symbol_self s)
of_joined_same s d (group ∷ groups) = of_joined_same_if (same_symbol s group.0) s d group groups refl (of_joined_same s d groups)

without_joined_same_if : (b : Bool) (s : Symbol) (d : Node) (group : Group) (groups : List Group) → same_symbol s group.0 ≡ b → without_symbol s (joined_in s d groups) ≡ without_symbol s groups
    → without_symbol s (if b then (group.0, group.1 ++ d ∷ []) ∷ groups else group ∷ joined_in s d groups) ≡ (if not b then group ∷ without_symbol s groups else without_symbol s groups)
without_joined_same_if true s d group groups same h = ap (λ b. if not b then (group.0, group.1 ++ d ∷ []) ∷ without_symbol s groups else without_symbol s groups) same
without_joined_same_if false s d group groups same h = ap (λ b. if not b then group ∷ without_symbol s (joined_in s d groups) else without_symbol s (joined_in s d groups)) same ∙ ap (λ l. group ∷ l) h

without_joined_same : (s : Symbol) (d : Node) (groups : List Group) → without_symbol s (joined_in s d groups) ≡ without_symbol s groups
without_joined_same s d [] = ap (λ b. if not b then (s, d ∷ []) ∷ [] else []) (symbol_self s)
without_joined_same s d (group ∷ groups) = without_joined_same_if (same_symbol s group.0) s d group groups refl (without_joined_same s d groups)

-- another symbol
apart_here : {A : Type 0} (s t other : Symbol) → same_symbol s other ≡ true → same_symbol t s ≡ false → same_symbol t other ≡ true → A
apart_here s t other one two three = let e = symbols_equal s other one in let k : same_symbol t s ≡ true = ap (λ x. same_symbol t x) e ∙ three in absurd (cc)

of_joined_if : (b c : Bool) (s t : Symbol) (d : Node) (group : Group) (groups : List Group) → same_symbol s group.0 ≡ b → same_symbol t group.0 ≡ c → same_symbol t s ≡ false
    → of_symbol t (joined_in s d groups) ≡ of_symbol t groups
    → of_symbol t (if b then (group.0, group.1 ++ d ∷ []) ∷ groups else group ∷ joined_in s d groups) ≡ (if c then group.1 else of_symbol t groups)
of_joined_if true true s t d group groups one two apart h = apart_here s t group.0 one apart two
of_joined_if true false s t d group groups one two apart h = ap (λ b. if b then group.1 ++ d ∷ [] else of_symbol t groups) two
of_joined_if false true s t d group groups one two apart h = ap (λ b. if b then group.1 else of_symbol t (joined_in s d groups)) two
of_joined_if false false s t d group groups one two apart h = ap (λ b. if b then group.1 else of_symbol t (joined_in s d groups)) two ∙ h

of_joined : (s t : Symbol) (d : Node) (groups : List Group) → same_symbol t s ≡ false → of_symbol t (joined_in s d groups) ≡ of_symbol t groups
of_joined s t d [] apart = ap (λ b. if b then d ∷ [] else []) apart
of_joined s t d (group ∷ groups) apart = of_joined_if (same_symbol s group.0) (same_symbol t group.0) s t d group groups refl refl apart (of_joined s t d groups apart)

without_joined_if : (b c : Bool) (s t : Symbol) (d : Node) (group : Group) (groups : List Group) → same_symbol s group.0 ≡ b → same_symbol t group.0 ≡ c → same_symbol t s ≡ false
    → without_symbol t (joined_in s d groups) ≡ joined_in s d (without_symbol t groups)
    → without_symbol t (if b then (group.0, group.1 ++ d ∷ []) ∷ groups else group ∷ joined_in s d groups) ≡ joined_in s d (if not c then group ∷ without_symbol t groups else without_symbol t groups)
without_joined_if true true s t d group groups one two apart h = apart_here s t group.0 one apart two
without_joined_if true false s t d group groups one two apart h =
    ap (λ b. if not b then (group.0, group.1 ++ d ∷ []) ∷ without_symbol t groups else without_symbol t groups) two
    ∙ sym (ap (λ b. if b then (group.0, group.1 ++ d ∷ []) ∷ without_symbol t groups else group ∷ joined_in s d (without_symbol t groups)) one)
without_joined_if false true s t d group groups one two apart h = ap (λ b. if not b then group ∷ without_symbol t (joined_in s d groups) else without_symbol t (joined_in s d groups)) two ∙ h
without_joined_if false false s t d group groups one two apart h =
    ap (λ b. if not b then group ∷ without_symbol t (joined_in s d groups) else without_symbol t (joined_in s d groups)) two ∙ ap (λ l. group ∷ l) h
    ∙ sym (ap (λ b. if b then (group.0, group.1 ++ d ∷ []) ∷ without_symbol t groups else group ∷ joined_in s d (without_symbol t groups)) one)

without_joined : (s t : Symbol) (d : Node) (groups : List Group) → same_symbol t s ≡ false → without_symbol t (joined_in s d groups) ≡ joined_in s d (without_symbol t groups)
without_joined s t d [] apart = ap (λ b. if not b then (s, d ∷ []) ∷ [] else []) apart
without_joined s t d (group ∷ groups) apart = without_joined_if (same_symbol s group.0) (same_symbol t group.0) s t d group groups refl refl apart (without_joined s t d groups apart)

with_joined_if : (b : Bool) (s t : Symbol) (first d : Node) (groups : List Group) → same_symbol s t ≡ b
    → with_disjunct (Some t) first (joined_in s d groups)
    ≡ (if b then (t, (first ∷ of_symbol t groups) ++ d ∷ []) ∷ without_symbol t groups else (t, first ∷ of_symbol t groups) ∷ joined_in s d (without_symbol t groups))
with_joined_if true s t first d groups same =
    let e = symbols_equal s t same in
    ap (λ (l : List Node). let g : Group = (t, first ∷ l) in g ∷ without_symbol t (joined_in s d groups)) (subst (λ x. of_symbol x (joined_in s d groups) ≡ of_symbol x groups ++ d ∷ []) e (of_joined_same s d groups))
    ∙ ap (λ l. (t, first ∷ (of_symbol t groups ++ d ∷ [])) ∷ l) (subst (λ x. without_symbol x (joined_in s d groups) ≡ without_symbol x groups) e (without_joined_same s d groups))
with_joined_if false s t first d groups same =
    let apart : same_symbol t s ≡ false = turned (same_symbol t s) refl in
    ap (λ (l : List Node). let g : Group = (t, first ∷ l) in g ∷ without_symbol t (joined_in s d groups)) (of_joined s t d groups apart)
    ∙ ap (λ l. (t, first ∷ of_symbol t groups) ∷ l) (without_joined s t d groups apart)
  where
    turned : (c : Bool) → same_symbol t s ≡ c → same_symbol t s ≡ false
    turned true h = let e = symbols_equal t s h in let k : same_symbol s t ≡ true = ap (λ x. same_symbol s x) e ∙ symbol_self s in absurd (cc)
    turned false h = h

with_joined : (o : Option Symbol) (s : Symbol) (first d : Node) (groups : List Group) → with_disjunct o first (joined_in s d groups) ≡ joined_in s d (with_disjunct o first groups)
with_joined None s first d groups = refl
with_joined (Some t) s first d groups = with_joined_if (same_symbol s t) s t first d groups refl

pub grouped_some : (v : ℕ) (ds : List Node) (d : Node) (s : Symbol) → symbol_at v d ≡ Some s → grouped v (ds ++ d ∷ []) ≡ joined_in s d (grouped v ds)
grouped_some v [] d s h = ap (λ o. with_disjunct o d []) h
grouped_some v (first ∷ rest) d s h = ap (λ l. with_disjunct (symbol_at v first) first l) (grouped_some v rest d s h) ∙ with_joined (symbol_at v first) s first d (grouped v rest)

pub grouped_none : (v : ℕ) (ds : List Node) (d : Node) → symbol_at v d ≡ None → grouped v (ds ++ d ∷ []) ≡ grouped v ds
grouped_none v [] d h = ap (λ o. with_disjunct o d []) h
grouped_none v (first ∷ rest) d h = ap (λ l. with_disjunct (symbol_at v first) first l) (grouped_none v rest d h)

-- the arm of a symbol by its place

abbrev firsts : List Group → List Symbol
firsts groups = map (λ group. group.0) groups

abbrev seconds : List Group → List (List Node)
seconds groups = map (λ group. group.1) groups

abbrev symbols_at : Symbol → List Group → ℕ → List Symbol
symbols_at s groups place = if place == length (seconds groups) then firsts groups ++ s ∷ [] else firsts groups

abbrev groups_at : List Group → ℕ → List (List Node)
groups_at groups place = if place == length (seconds groups) then seconds groups ++ [] ∷ [] else seconds groups

-- a place is that of a symbol's arm
record Opened (s : Symbol) (d : Node) (groups : List Group) (place : ℕ) : Type 0 where
  room : place < length (groups_at groups place)
  symbols : symbols_at s groups place ≡ firsts (joined_in s d groups)
  places : with_symbol (firsts groups) s ≡ firsts (joined_in s d groups)
  put : slice_set (groups_at groups place) place (slice_index_or (groups_at groups place) place [] ++ d ∷ []) ≡ seconds (joined_in s d groups)

cons_if : {X : Type 0} (b : Bool) (x : X) (xs more : List X) → (if b then (x ∷ xs) ++ more else x ∷ xs) ≡ x ∷ (if b then xs ++ more else xs)
cons_if true x xs more = refl
cons_if false x xs more = refl

opened_here : (s : Symbol) (d : Node) (group : Group) (groups : List Group) → same_symbol s group.0 ≡ true → Opened s d (group ∷ groups) 0
opened_here s d group groups same =
    let joined : joined_in s d (group ∷ groups) ≡ (group.0, group.1 ++ d ∷ []) ∷ groups = ap (λ b. if b then (group.0, group.1 ++ d ∷ []) ∷ groups else group ∷ joined_in s d groups) same in
    let past = none_eq (length (seconds groups)) in
    let all : groups_at (group ∷ groups) 0 ≡ seconds (group ∷ groups) = ap (λ b. if b then seconds (group ∷ groups) ++ [] ∷ [] else seconds (group ∷ groups)) past in
    record {
      room = subst (λ l. 0 < length l) (sym all) (omega arith);
      symbols = ap (λ b. if b then firsts (group ∷ groups) ++ s ∷ [] else firsts (group ∷ groups)) past ∙ sym (ap firsts joined);
      places = ap (λ b. if (b || has_symbol (firsts groups) s) then firsts (group ∷ groups) else firsts (group ∷ groups) ++ s ∷ []) same ∙ sym (ap firsts joined);
      put = ap (λ l. slice_set l 0 (slice_index_or l 0 [] ++ d ∷ [])) all ∙ sym (ap seconds joined);
    }

opened_later : (s : Symbol) (d : Node) (group : Group) (groups : List Group) (place : ℕ) → same_symbol s group.0 ≡ false → Opened s d groups place → Opened s d (group ∷ groups) (suc place)
opened_later s d group groups place same later =
    let joined : joined_in s d (group ∷ groups) ≡ group ∷ joined_in s d groups = ap (λ b. if b then (group.0, group.1 ++ d ∷ []) ∷ groups else group ∷ joined_in s d groups) same in
    let past = next_eq place (length (seconds groups)) in
    let all : groups_at (group ∷ groups) (suc place) ≡ group.1 ∷ groups_at groups place =
    ap (λ b. if b then seconds (group ∷ groups) ++ [] ∷ [] else seconds (group ∷ groups)) past ∙ cons_if (place == length (seconds groups)) group.1 (seconds groups) ([] ∷ []) in
    let room = later.room in
    record {
      room = subst (λ l. suc place < length l) (sym all) (omega (arith, room));
      symbols = ap (λ b. if b then firsts (group ∷ groups) ++ s ∷ [] else firsts (group ∷ groups)) past
          ∙ cons_if (place == length (seconds groups)) group.0 (firsts groups) (s ∷ []) ∙ ap (λ l. group.0 ∷ l) later.symbols ∙ sym (ap firsts joined);
      places = ap (λ b. if (b || has_symbol (firsts groups) s) then firsts (group ∷ groups) else firsts (group ∷ groups) ++ s ∷ []) same
          ∙ kept_if (has_symbol (firsts groups) s) ∙ ap (λ l. group.0 ∷ l) later.places ∙ sym (ap firsts joined);
      put = ap (λ l. slice_set l (suc place) (slice_index_or l (suc place) [] ++ d ∷ [])) all ∙ ap (λ l. group.1 ∷ l) later.put ∙ sym (ap seconds joined);
    }
  where
    kept_if : (b : Bool) → (if b then firsts (group ∷ groups) else firsts (group ∷ groups) ++ s ∷ []) ≡ group.0 ∷ (if b then firsts groups else firsts groups ++ s ∷ [])
    kept_if true = refl
    kept_if false = refl

opened_if : (b : Bool) (s : Symbol) (d : Node) (group : Group) (groups : List Group) (place : ℕ) → same_symbol s group.0 ≡ b → Opened s d groups place → Opened s d (group ∷ groups) (cond (not b) (1 + place) 0)
opened_if true s d group groups place same later = opened_here s d group groups same
opened_if false s d group groups place same later = let next : suc place ≡ 1 + place = omega arith in subst (λ n. Opened s d (group ∷ groups) n) next (opened_later s d group groups place same later)

opened : (s : Symbol) (d : Node) (groups : List Group) → Opened s d groups (position_or_len (same_symbol s) (firsts groups))
opened s d [] = record { room = omega arith; symbols = refl; places = refl; put = refl }
opened s d (group ∷ groups) = opened_if (same_symbol s group.0) s d group groups (position_or_len (same_symbol s) (firsts groups)) refl (opened s d groups)

-- What is kept of groups, and what it becomes.
pub record Adds (symbols : List Symbol) (disjuncts : List (List Node)) (places : List Symbol) (s : Symbol) (place : ℕ) (symbols' : List Symbol) (opened_groups : List (List Node)) (places' : List Symbol) : Type 0 where
  pub place_is : place ≡ position_or_len (same_symbol s) places
  pub places_are : places' ≡ with_symbol places s
  pub symbols_are : symbols' ≡ (if place == length disjuncts then symbols ++ s ∷ [] else symbols)
  pub groups_are : opened_groups ≡ (if place == length disjuncts then disjuncts ++ [] ∷ [] else disjuncts)

module _ (groups : List Group) (symbols : List Symbol) (disjuncts : List (List Node)) (places : List Symbol) (s : Symbol) (d : Node) (place : ℕ) (symbols' : List Symbol) (opened_groups : List (List Node)) (places' : List Symbol)
    (are : AreArms symbols disjuncts groups) (known : places ≡ symbols) (adds : Adds symbols disjuncts places s place symbols' opened_groups places') where
  at_place : Opened s d groups place
  at_place = subst (λ n. Opened s d groups n) (ap (position_or_len (same_symbol s)) (sym (known ∙ are.symbols_are)) ∙ sym adds.place_is) (opened s d groups)

  groups_same : opened_groups ≡ groups_at groups place
  groups_same = adds.groups_are ∙ ap (λ l. if place == length l then l ++ [] ∷ [] else l) are.groups_are

  symbols_same : symbols' ≡ symbols_at s groups place
  symbols_same = adds.symbols_are ∙ ap (λ l. if place == length l then symbols ++ s ∷ [] else symbols) are.groups_are ∙ ap (λ l. if place == length (seconds groups) then l ++ s ∷ [] else l) are.symbols_are

  pub arms_added : (now : List (List Node)) → now ≡ slice_set opened_groups place (slice_index_or opened_groups place [] ++ d ∷ []) → AreArms symbols' now (joined_in s d groups)
  arms_added now put = record {
    symbols_are = symbols_same ∙ at_place.symbols;
    groups_are = put ∙ ap (λ l. slice_set l place (slice_index_or l place [] ++ d ∷ [])) groups_same ∙ at_place.put;
  }

  pub places_added : places' ≡ symbols'
  places_added = adds.places_are ∙ ap (λ l. with_symbol l s) (known ∙ are.symbols_are) ∙ at_place.places ∙ sym (symbols_same ∙ at_place.symbols)

-- a disjunct has room in the arm of its symbol

within_if : (b : Bool) (place len : ℕ) → place ≤ len → cond (not b) (1 + place) 0 ≤ suc len
within_if true place len h = omega arith
within_if false place len h = omega (arith, h)

place_within : (s : Symbol) (symbols : List Symbol) → position_or_len (same_symbol s) symbols ≤ length symbols
place_within s [] = omega arith
place_within s (first ∷ rest) = within_if (same_symbol s first) (position_or_len (same_symbol s) rest) (length rest) (place_within s rest)

below : (one other : ℕ) → one ≤ other → (one == other) ≡ false → one < other
below zero zero h apart = absurd (cc)
below zero (suc other) h apart = omega arith
below (suc one) zero h apart = absurd (omega (arith, h))
below (suc one) (suc other) h apart =
    let less : one ≤ other = omega (arith, h) in
    let k = below one other less (sym (next_eq one other) ∙ apart) in
    omega (arith, k)

room_if : (b : Bool) (place : ℕ) (disjuncts : List (List Node)) → (place == length disjuncts) ≡ b → place ≤ length disjuncts → place < length (if b then disjuncts ++ [] ∷ [] else disjuncts)
room_if true place disjuncts same h = omega (arith, h, length-append disjuncts ([] ∷ []))
room_if false place disjuncts apart h = below place (length disjuncts) h apart

pub room_under : (s : Symbol) (place : ℕ) (places : List Symbol) (disjuncts opened_groups : List (List Node)) → length disjuncts ≡ length places → place ≡ position_or_len (same_symbol s) places
    → opened_groups ≡ (if place == length disjuncts then disjuncts ++ [] ∷ [] else disjuncts) → place < length opened_groups
room_under s place places disjuncts opened_groups same is groups_are =
    let most = place_within s places in
    let inside : place ≤ length disjuncts = omega (arith, same, is, most) in
    subst (λ l. place < length l) (sym groups_are) (room_if (place == length disjuncts) place disjuncts refl inside)

pub same_lengths : (groups : List Group) (symbols : List Symbol) (disjuncts : List (List Node)) (places : List Symbol) → places ≡ symbols → AreArms symbols disjuncts groups → length disjuncts ≡ length places
same_lengths groups symbols disjuncts places known are =
    ap length are.groups_are ∙ length-map groups (λ (group : Group). group.1) ∙ sym (length-map groups (λ (group : Group). group.0)) ∙ sym (ap length (known ∙ are.symbols_are))

-- a slice of the whole list, written back
pub written_back : {X : Type 0} (old now : List X) (len place : ℕ) (x : X) → length old ≡ len → now ≡ slice_set old place x → take len (now ++ drop (length now) old) ≡ now
written_back old now len place x all put =
    let same : len ≡ length now = sym all ∙ sym (length-set old place x) ∙ sym (ap length put) in
    ap (λ n. take n (now ++ drop (length now) old)) same ∙ take-append_seam now (drop (length now) old)
