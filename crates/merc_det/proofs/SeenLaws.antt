-- What entries tell, and the table that finds the last entries of variables.
use Rattle.std.specs.Prelude.{◌≡◌, ◌<◌, ◌≤◌, ◌==◌, ◌-◌, nat_lt, ℕ, zero, suc, Bool, true, false, List, [], ◌∷◌, ◌++◌, length, map, reverse, take, Option, Some, None, refl, if◌then◌else◌}
use Rattle.std.specs.List.{slice_get, slice_index_or}
use Rattle.std.specs.Option.{option_map}
use Rattle.std.proofs.Common.{◌∙◌, ◌≢◌, ap, sym, subst, arith, set, inl, inr}
use Rattle.std.proofs.Math.Seq.{take-append_seam}
use Rattle.std.proofs.lemmas.Bool.{cases_eq}
use Rattle.std.proofs.lemmas.Bool.Decides.{nat_tests}
use Rattle.std.proofs.lemmas.List.{get_or-set_same, get_or-set_other, length-append, length-map, length-reverse, reverse-reverse}
use Rattle.merc_goal_tree.specs.declared.goal.Symbol.{Symbol}
use Rattle.merc_graded_tree.proofs.Reversed.{reverse-first, reverse-last}
use Rattle.merc_grading.specs.Known.{Known, known_of}
use Rattle.merc_det.specs.Seen.{known_in, back_to, latest, AreLinked, Finds}
use Rattle.merc_det.specs.declared.seen.Entry.{Entry}

pub known_in-last : (entries : List Entry) (last : Entry) → known_in (entries ++ last ∷ []) ≡ (last.variable, last.symbol) ∷ known_in entries
known_in-last entries last = ap (λ l. map (λ one. (one.variable, one.symbol)) l) (reverse-last entries last)

pub length-known_in : (entries : List Entry) → length (known_in entries) ≡ length entries
length-known_in entries = length-map (reverse entries) (λ one. (one.variable, one.symbol)) ∙ length-reverse entries

-- going back

pub back_to-short : (count : ℕ) (known : Known) → length known ≤ count → back_to count known ≡ known
back_to-short count [] h = refl
back_to-short count (first ∷ rest) h =
    let no : nat_lt count (length (first ∷ rest)) ≡ false = grind (arith, nat_tests) in
    ap (λ b. if b then back_to count rest else first ∷ rest) no

pub back_to-more : (count : ℕ) (first : ℕ × Symbol) (rest : Known) → count ≤ length rest → back_to count (first ∷ rest) ≡ back_to count rest
back_to-more count first rest h =
    let yes : nat_lt count (length (first ∷ rest)) ≡ true = grind (arith, nat_tests) in
    ap (λ b. if b then back_to count rest else first ∷ rest) yes

-- a table that is longer by one

pub longer : (table : List (Option ℕ)) (variable : ℕ) → slice_index_or (table ++ None ∷ []) variable None ≡ slice_index_or table variable None
longer [] zero = refl
longer [] (suc variable) = refl
longer (one ∷ rest) zero = refl
longer (one ∷ rest) (suc variable) = longer rest variable

within : (table : List (Option ℕ)) (variable index : ℕ) → slice_index_or table variable None ≡ Some index → variable < length table
within [] variable index told = cc
within (one ∷ rest) zero index told = omega arith
within (one ∷ rest) (suc variable) index told = let h = within rest variable index told in omega arith

same_is : (variable : ℕ) → (variable == variable) ≡ true
same_is variable = grind (arith, nat_tests)

other_is : (one other : ℕ) → other ≢ one → (one == other) ≡ false
other_is one other apart = grind (arith, nat_tests)

latest-first : (first : Entry) (rest : List Entry) (variable : ℕ) (b : Bool) → (first.variable == variable) ≡ b
    → latest (first ∷ rest) variable ≡ (if b then Some (length rest) else latest rest variable)
latest-first first rest variable b e = ap (λ x. if x then Some (length rest) else latest rest variable) e

latest-last : (entries : List Entry) (last : Entry) (variable : ℕ) (b : Bool) → (last.variable == variable) ≡ b
    → latest (reverse (entries ++ last ∷ [])) variable ≡ (if b then Some (length entries) else latest (reverse entries) variable)
latest-last entries last variable b e =
    ap (λ l. latest l variable) (reverse-last entries last) ∙ latest-first last (reverse entries) variable b e
    ∙ ap (λ n. if b then Some n else latest (reverse entries) variable) (length-reverse entries)

-- one entry more

pub finds_more : (entries : List Entry) (table : List (Option ℕ)) (last : Entry) → Finds entries table → last.variable < length table
    → last.before ≡ slice_index_or table last.variable None → Finds (entries ++ last ∷ []) (set table last.variable (Some (length entries)))
finds_more entries table last finds room before = record {
  last = λ variable. elim (cases_eq variable last.variable) as (λ _. slice_index_or (set table last.variable (Some (length entries))) variable None ≡ latest (reverse (entries ++ last ∷ [])) variable) [
    | inl same ↦ subst (λ v. slice_index_or (set table last.variable (Some (length entries))) v None ≡ latest (reverse (entries ++ last ∷ [])) v) (sym same)
        (get_or-set_same table last.variable (Some (length entries)) None room ∙ sym (latest-last entries last last.variable true (same_is last.variable)))
    | inr apart ↦ get_or-set_other table last.variable variable (Some (length entries)) None apart
        ∙ finds.last variable ∙ sym (latest-last entries last variable false (other_is last.variable variable apart))
  ];
  linked = subst (λ l. AreLinked l) (sym (reverse-last entries last)) (before ∙ finds.last last.variable, finds.linked);
}

-- one entry less

pub last_within : (entries : List Entry) (table : List (Option ℕ)) (last : Entry) → Finds (entries ++ last ∷ []) table → last.variable < length table
last_within entries table last finds =
    within table last.variable (length entries) (finds.last last.variable ∙ latest-last entries last last.variable true (same_is last.variable))

pub finds_less : (entries : List Entry) (table : List (Option ℕ)) (last : Entry) → Finds (entries ++ last ∷ []) table → Finds entries (set table last.variable last.before)
finds_less entries table last finds =
    let links = subst (λ l. AreLinked l) (reverse-last entries last) finds.linked in
    record {
      last = λ variable. elim (cases_eq variable last.variable) as (λ _. slice_index_or (set table last.variable last.before) variable None ≡ latest (reverse entries) variable) [
        | inl same ↦ subst (λ v. slice_index_or (set table last.variable last.before) v None ≡ latest (reverse entries) v) (sym same)
            (get_or-set_same table last.variable last.before None (last_within entries table last finds) ∙ links.0)
        | inr apart ↦ get_or-set_other table last.variable variable last.before None apart
            ∙ finds.last variable ∙ latest-last entries last variable false (other_is last.variable variable apart)
      ];
      linked = links.1;
    }

-- what is known of a variable is what its last entry tells

latest_within : (entries : List Entry) (variable index : ℕ) → latest entries variable ≡ Some index → index < length entries
latest_within [] variable index found = cc
latest_within (first ∷ rest) variable index found = elim (cases_eq first.variable variable) as (λ _. index < length (first ∷ rest)) [
  | inl same ↦
      let e : Some (length rest) ≡ Some index = sym (latest-first first rest variable true (subst (λ v. (first.variable == v) ≡ true) same (same_is first.variable))) ∙ found in
      let h : length rest ≡ index = cc e in omega (arith, h)
  | inr apart ↦
      let e : latest rest variable ≡ Some index = sym (latest-first first rest variable false (other_is first.variable variable (λ s. apart (sym s)))) ∙ found in
      let h = latest_within rest variable index e in omega (arith, h)
]

pub slice_get-last : {X : Type 0} (items : List X) (last : X) (index : ℕ) → index ≡ length items → slice_get (items ++ last ∷ []) index ≡ Some last
slice_get-last [] last zero e = refl
slice_get-last [] last (suc index) e = cc e
slice_get-last (first ∷ rest) last zero e = cc e
slice_get-last (first ∷ rest) last (suc index) e = let h : index ≡ length rest = omega (arith, e) in slice_get-last rest last index h

slice_get-front : {X : Type 0} (items : List X) (last : X) (index : ℕ) → index < length items → slice_get (items ++ last ∷ []) index ≡ slice_get items index
slice_get-front [] last index h = absurd (omega (arith, h))
slice_get-front (first ∷ rest) last zero h = refl
slice_get-front (first ∷ rest) last (suc index) h = let k : index < length rest = omega (arith, h) in slice_get-front rest last index k

abbrev told : List Entry → Option ℕ → Option Symbol
told entries None = None
told entries (Some index) = option_map (λ one. one.symbol) (slice_get entries index)

told-front : (entries : List Entry) (last : Entry) (found : Option ℕ) → ((index : ℕ) → found ≡ Some index → index < length entries)
    → told (entries ++ last ∷ []) found ≡ told entries found
told-front entries last None h = refl
told-front entries last (Some index) h = ap (λ o. option_map (λ one. one.symbol) o) (slice_get-front entries last index (h index refl))

known_latest : (entries : List Entry) (variable : ℕ)
    → known_of (map (λ one. (one.variable, one.symbol)) entries) variable ≡ told (reverse entries) (latest entries variable)
known_latest [] variable = refl
known_latest (first ∷ rest) variable =
    let Is : Bool → Type 0 = λ b. (if b then Some first.symbol else known_of (map (λ one. (one.variable, one.symbol)) rest) variable)
    ≡ told (reverse (first ∷ rest)) (if b then Some (length rest) else latest rest variable) in
    elim (first.variable == variable) as Is [
      | true ↦ sym (ap (λ l. told l (Some (length rest))) (reverse-first first rest)
          ∙ ap (λ o. option_map (λ one. one.symbol) o) (slice_get-last (reverse rest) first (length rest) (sym (length-reverse rest))))
      | false ↦ known_latest rest variable
          ∙ sym (ap (λ l. told l (latest rest variable)) (reverse-first first rest)
          ∙ told-front (reverse rest) first (latest rest variable)
          (λ index e. let h = latest_within rest variable index e in omega (arith, h, length-reverse rest)))
    ]

pub known_is : (entries : List Entry) (table : List (Option ℕ)) (variable : ℕ) → Finds entries table
    → known_of (known_in entries) variable ≡ told entries (slice_index_or table variable None)
known_is entries table variable finds =
    known_latest (reverse entries) variable ∙ ap (λ l. told l (latest (reverse entries) variable)) (reverse-reverse entries)
    ∙ ap (told entries) (sym (finds.last variable))

-- what the look-up finds

pub symbol_none : (entries : List Entry) (table : List (Option ℕ)) (variable number : ℕ) (found : Option ℕ) → Finds entries table → number ≡ variable
    → found ≡ slice_index_or table number None → found ≡ None → None ≡ known_of (known_in entries) variable
symbol_none entries table variable number found finds n e none =
    sym (known_is entries table variable finds ∙ ap (λ v. told entries (slice_index_or table v None)) (sym n) ∙ ap (told entries) (sym e ∙ none))

pub symbol_some : (entries : List Entry) (table : List (Option ℕ)) (variable number index : ℕ) (found : Option ℕ) → Finds entries table → number ≡ variable
    → found ≡ slice_index_or table number None → found ≡ Some index → option_map (λ one. one.symbol) (slice_get entries index) ≡ known_of (known_in entries) variable
symbol_some entries table variable number index found finds n e some =
    sym (known_is entries table variable finds ∙ ap (λ v. told entries (slice_index_or table v None)) (sym n) ∙ ap (told entries) (sym e ∙ some))

pub added : (entries new : List Entry) (before table : List (Option ℕ)) (last : Entry) (number : ℕ) → Finds entries before → ((variable : ℕ) → slice_index_or table variable None ≡ slice_index_or before variable None)
    → number ≡ last.variable → number < length table → last.before ≡ slice_index_or table number None → new ≡ entries ++ last ∷ [] → Finds new (set table number (Some (length entries)))
added entries new before table last number finds same n room told e =
    subst (λ k. Finds new (set table k (Some (length entries)))) (sym n)
    (subst (λ l. Finds l (set table last.variable (Some (length entries)))) (sym e)
    (finds_more entries table last (record { last = λ v. same v ∙ finds.last v; linked = finds.linked })
    (subst (λ k. k < length table) n room) (told ∙ ap (λ k. slice_index_or table k None) n)))

pub record Removes (entries new : List Entry) (table : List (Option ℕ)) (last : Entry) (number : ℕ) : Type 0 where
  pub room : number < length table
  pub finds : Finds new (set table number last.before)

pub removed : (entries new : List Entry) (table : List (Option ℕ)) (last : Entry) (number : ℕ) → Finds entries table → entries ≡ new ++ last ∷ [] → number ≡ last.variable → Removes entries new table last number
removed entries new table last number finds e n =
    let f : Finds (new ++ last ∷ []) table = subst (λ l. Finds l table) e finds in
    subst (λ k. Removes entries new table last k) (sym n) (record { room = last_within new table last f; finds = finds_less new table last f })

-- the last of some

pub record Split {X : Type 0} (items : List X) : Type 0 where
  pub front : List X
  pub last : X
  pub is : items ≡ front ++ last ∷ []

split_last : {X : Type 0} (first : X) (rest : List X) → Split (first ∷ rest)
split_last first [] = record { front = []; last = first; is = refl }
split_last first (second ∷ rest) = let s = split_last second rest in record { front = first ∷ s.front; last = s.last; is = ap (λ l. first ∷ l) s.is }

take-front : {X : Type 0} (front : List X) (last : X) → take (length (front ++ last ∷ []) - 1) (front ++ last ∷ []) ≡ front
take-front front last =
    let count : length (front ++ last ∷ []) - 1 ≡ length front = omega (arith, length-append front (last ∷ [])) in
    ap (λ n. take n (front ++ last ∷ [])) count ∙ take-append_seam front (last ∷ [])

back_to-take : (count : ℕ) (entries : List Entry) → count < length entries → back_to count (known_in entries) ≡ back_to count (known_in (take (length entries - 1) entries))
back_to-take count [] h = absurd (omega (arith, h))
back_to-take count (first ∷ rest) h =
    let s = split_last first rest in
    let known = known_in s.front in
    let short : count ≤ length known = omega (arith, h, ap length s.is, length-append s.front (s.last ∷ []), length-known_in s.front) in
    ap (λ l. back_to count (known_in l)) s.is ∙ ap (back_to count) (known_in-last s.front s.last)
    ∙ back_to-more count (s.last.variable, s.last.symbol) known short
    ∙ ap (λ l. back_to count (known_in l)) (sym (ap (λ l. take (length l - 1) l) s.is ∙ take-front s.front s.last))

pub back_one : (count : ℕ) (entries new : List Entry) (whole : Known) → count < length entries → new ≡ take (length entries - 1) entries
    → back_to count (known_in entries) ≡ whole → back_to count (known_in new) ≡ whole
back_one count entries new whole h e same = ap (λ l. back_to count (known_in l)) e ∙ sym (back_to-take count entries h) ∙ same

pub back_all : (count : ℕ) (entries : List Entry) → length entries ≤ count → back_to count (known_in entries) ≡ known_in entries
back_all count entries h = back_to-short count (known_in entries) (omega (arith, h, length-known_in entries))
