-- The outputs that are among some variables, in their order.
use Rattle.std.specs.Prelude.{◌≡◌, ◌≤◌, ◌<◌, ℕ, zero, suc, ◌+◌, Bool, true, false, not, nat_eq, nat_lt, ◌==◌, ◌||◌, ◌&&◌, List, [], ◌∷◌, ◌++◌, length, drop, get_or, position, Option, Some, None, if◌then◌else◌, refl}
use Rattle.std.specs.List.{AllByRecursion, IsDistinct, filter, list_any, position_or_len}
use Rattle.std.proofs.Common.{◌∙◌, ap, sym, subst, cond, arith}
use Rattle.std.proofs.lemmas.Bool.Decides.{Decides-eqb, nat_tests}
use Rattle.std.proofs.lemmas.List.{append_assoc, append-nil, drop_all, drop_more, length-append}
use Rattle.merc_order.specs.Bound.{among}
use Rattle.merc_switch_choice.specs.Variables.{behind, all_behind}
use Rattle.merc_switch.specs.Ordering.{is_kept}

-- whether the output at a place is a variable
abbrev pub stands_at : List ℕ → ℕ → ℕ → Bool
stands_at [] place variable = false
stands_at (first ∷ rest) zero variable = variable == first
stands_at (first ∷ rest) (suc place) variable = stands_at rest place variable

-- whether a place that was looked for is this one
abbrev pub is_place : Option ℕ → ℕ → Bool
is_place None place = false
is_place (Some found) place = place == found

-- where outputs stand once

stands_nowhere : (outputs : List ℕ) (variable place : ℕ) → AllByRecursion (λ output. nat_eq variable output ≡ false) outputs → stands_at outputs place variable ≡ false
stands_nowhere [] variable place none = refl
stands_nowhere (first ∷ rest) variable zero none = none.0
stands_nowhere (first ∷ rest) variable (suc place) none = stands_nowhere rest variable place none.1

none_within : (place found : ℕ) → ((place == found) && nat_lt place 0) ≡ false
none_within place found = grind (arith, nat_tests)

not_next : (found size : ℕ) → ((zero == (1 + found)) && nat_lt zero (suc size)) ≡ false
not_next found size = grind (arith, nat_tests)

not_first : (place size : ℕ) → ((suc place == 0) && nat_lt (suc place) (suc size)) ≡ false
not_first place size = grind (arith, nat_tests)

both_next : (place found size : ℕ) → ((suc place == (1 + found)) && nat_lt (suc place) (suc size)) ≡ ((place == found) && nat_lt place size)
both_next place found size = grind (arith, nat_tests)

first_there : (size : ℕ) → ((zero == 0) && nat_lt zero (suc size)) ≡ true
first_there size = grind (arith, nat_tests)

first_if : (first : ℕ) (rest : List ℕ) (variable place : ℕ) (b : Bool) → (variable == first) ≡ b → (b ≡ true → (later : ℕ) → stands_at rest later variable ≡ false)
    → ((later : ℕ) → stands_at rest later variable ≡ ((later == position_or_len (nat_eq variable) rest) && nat_lt later (length rest)))
    → stands_at (first ∷ rest) place variable ≡ ((place == cond (not b) (1 + position_or_len (nat_eq variable) rest) 0) && nat_lt place (suc (length rest)))
first_if first rest variable zero true same none others = same ∙ sym (first_there (length rest))
first_if first rest variable zero false same none others = same ∙ sym (not_next (position_or_len (nat_eq variable) rest) (length rest))
first_if first rest variable (suc place) true same none others = none refl place ∙ sym (not_first place (length rest))
first_if first rest variable (suc place) false same none others = others place ∙ sym (both_next place (position_or_len (nat_eq variable) rest) (length rest))

stands_first : (outputs : List ℕ) (variable place : ℕ) → IsDistinct nat_eq outputs → stands_at outputs place variable ≡ ((place == position_or_len (nat_eq variable) outputs) && nat_lt place (length outputs))
unfolding IsDistinct
stands_first [] variable place distinct = sym (none_within place 0)
stands_first (first ∷ rest) variable place distinct =
    first_if first rest variable place (variable == first) refl
    (λ e later. let same : variable ≡ first = (Decides-eqb variable first).0 e in stands_nowhere rest variable later (subst (λ v. AllByRecursion (λ output. nat_eq v output ≡ false) rest) (sym same) distinct.0))
    (λ later. stands_first rest variable later distinct.1)

within_if : (place found size : ℕ) (b c : Bool) → nat_lt found size ≡ b → (place == found) ≡ c → is_place (cond b (Some found) None) place ≡ (c && nat_lt place size)
within_if place found size true true within same = same ∙ sym (ap (λ n. nat_lt n size) ((Decides-eqb place found).0 same) ∙ within)
within_if place found size true false within same = same
within_if place found size false true within same = sym (ap (λ n. nat_lt n size) ((Decides-eqb place found).0 same) ∙ within)
within_if place found size false false within same = refl

stands_found : (outputs : List ℕ) (variable place : ℕ) (found : Option ℕ) → IsDistinct nat_eq outputs → found ≡ position (nat_eq variable) outputs → stands_at outputs place variable ≡ is_place found place
stands_found outputs variable place found distinct same =
    let first = position_or_len (nat_eq variable) outputs in
    stands_first outputs variable place distinct
    ∙ sym (ap (λ o. is_place o place) same ∙ within_if place first (length outputs) (nat_lt first (length outputs)) (place == first) refl refl)

-- the places of all of the variables

none_any : (variables : List ℕ) → list_any (λ (variable : ℕ). false) variables ≡ false
none_any [] = refl
none_any (first ∷ rest) = none_any rest

turned : (one other : ℕ) → (one == other) ≡ (other == one)
turned one other = grind (arith, nat_tests)

any_turned : (variables : List ℕ) (output : ℕ) → list_any (λ variable. variable == output) variables ≡ among variables output
any_turned [] output = refl
any_turned (first ∷ rest) output = ap (λ b. b || list_any (λ variable. variable == output) rest) (turned first output) ∙ ap (λ b. (output == first) || b) (any_turned rest output)

pub any_kept : (variables outputs : List ℕ) (place : ℕ) → list_any (λ variable. stands_at outputs place variable) variables ≡ is_kept variables outputs place
any_kept variables [] place = none_any variables
any_kept variables (first ∷ rest) zero = any_turned variables first
any_kept variables (first ∷ rest) (suc place) = any_kept variables rest place

one_placed : (before after here rest whole here_too : Bool) → after ≡ (here || before) → here_too ≡ here → (before || (here_too || rest)) ≡ whole → (after || rest) ≡ whole
one_placed true after true rest whole here_too put same all = ap (λ b. b || rest) put ∙ all
one_placed true after false rest whole here_too put same all = ap (λ b. b || rest) put ∙ all
one_placed false after true rest whole here_too put same all = ap (λ b. b || rest) put ∙ sym (ap (λ b. b || rest) same) ∙ all
one_placed false after false rest whole here_too put same all = ap (λ b. b || rest) put ∙ sym (ap (λ b. b || rest) same) ∙ all

none_placed : (before rest whole here : Bool) → here ≡ false → (before || (here || rest)) ≡ whole → (before || rest) ≡ whole
none_placed before rest whole here none all = sym (ap (λ b. before || (b || rest)) none) ∙ all

-- one variable more
module _ (numbers outputs : List ℕ) (index number place : ℕ) (within : index < length numbers) (is : number ≡ get_or numbers index 0) where
  abbrev pub here : List ℕ → Bool
  here variables = list_any (λ variable. stands_at outputs place variable) variables

  begins : here (drop index numbers) ≡ (stands_at outputs place number || here (drop (index + 1) numbers))
  begins = ap here (drop_more numbers index 0 within ∙ ap (λ n. n ∷ drop (index + 1) numbers) (sym is))

  pub more_placed : (before after whole : Bool) (found : ℕ) → IsDistinct nat_eq outputs → Some found ≡ position (nat_eq number) outputs → after ≡ ((place == found) || before)
      → (before || here (drop index numbers)) ≡ whole → (after || here (drop (index + 1) numbers)) ≡ whole
  more_placed before after whole found distinct at put all =
      one_placed before after (place == found) (here (drop (index + 1) numbers)) whole (stands_at outputs place number) put (stands_found outputs number place (Some found) distinct at)
      (sym (ap (λ b. before || b) begins) ∙ all)

  pub no_more_placed : (before after whole : Bool) → IsDistinct nat_eq outputs → None ≡ position (nat_eq number) outputs → after ≡ before → (before || here (drop index numbers)) ≡ whole
      → (after || here (drop (index + 1) numbers)) ≡ whole
  no_more_placed before after whole distinct at same all =
      ap (λ b. b || here (drop (index + 1) numbers)) same
      ∙ none_placed before (here (drop (index + 1) numbers)) whole (stands_at outputs place number) (stands_found outputs number place None distinct at) (sym (ap (λ b. before || b) begins) ∙ all)

pub all_placed : (variables numbers outputs places : List ℕ) (index place : ℕ) → numbers ≡ variables → length numbers ≤ index
    → (among places place || list_any (λ variable. stands_at outputs place variable) (drop index numbers)) ≡ list_any (λ variable. stands_at outputs place variable) variables
    → among places place ≡ is_kept variables outputs place
all_placed variables numbers outputs places index place same past all =
    sym (or_none (among places place))
    ∙ sym (ap (λ l. among places place || list_any (λ variable. stands_at outputs place variable) l) (drop_all index numbers past))
    ∙ all ∙ any_kept variables outputs place
  where
    or_none : (b : Bool) → (b || false) ≡ b
    or_none true = refl
    or_none false = refl

-- one place after the other

clash : {A : Type 0} {b : Bool} → b ≡ true → b ≡ false → A
clash there none = absurd (cc)

pub kept_within : (variables outputs : List ℕ) (place : ℕ) → is_kept variables outputs place ≡ true → place < length outputs
kept_within variables [] place there = absurd (cc)
kept_within variables (first ∷ rest) zero there = omega arith
kept_within variables (first ∷ rest) (suc place) there = let h = kept_within variables rest place there in omega (arith, h)

next_if : (variables : List ℕ) (first : ℕ) (rest : List ℕ) (b : Bool) → among variables first ≡ b
    → filter (λ output. among variables output) (first ∷ rest) ≡ (if b then first ∷ filter (λ output. among variables output) rest else filter (λ output. among variables output) rest)
next_if variables first rest b same = ap (λ c. if c then first ∷ filter (λ output. among variables output) rest else filter (λ output. among variables output) rest) same

-- the first that is kept from one place on
next_kept : (variables outputs : List ℕ) (from place number : ℕ) → from ≤ place → is_kept variables outputs place ≡ true
    → ((other : ℕ) → from ≤ other → other < place → is_kept variables outputs other ≡ false) → number ≡ get_or outputs place 0
    → filter (λ output. among variables output) (drop from outputs) ≡ number ∷ filter (λ output. among variables output) (drop (suc place) outputs)
next_kept variables [] from place number up there none is = absurd (cc)
next_kept variables (first ∷ rest) zero zero number up there none is =
    next_if variables first rest true there ∙ ap (λ n. n ∷ filter (λ output. among variables output) rest) (sym is)
next_kept variables (first ∷ rest) zero (suc place) number up there none is =
    next_if variables first rest false (none 0 (omega arith) (omega arith))
    ∙ next_kept variables rest 0 place number (omega arith) there (λ other low high. none (suc other) (omega arith) (omega (arith, high))) is
next_kept variables (first ∷ rest) (suc from) zero number up there none is = absurd (omega (arith, up))
next_kept variables (first ∷ rest) (suc from) (suc place) number up there none is =
    next_kept variables rest from place number (omega (arith, up)) there (λ other low high. none (suc other) (omega (arith, low)) (omega (arith, high))) is

none_kept : (variables outputs : List ℕ) (from : ℕ) → ((other : ℕ) → from ≤ other → is_kept variables outputs other ≡ false) → filter (λ output. among variables output) (drop from outputs) ≡ []
none_kept variables [] zero none = refl
none_kept variables [] (suc from) none = refl
none_kept variables (first ∷ rest) zero none =
    next_if variables first rest false (none 0 (omega arith)) ∙ none_kept variables rest 0 (λ other low. none (suc other) (omega arith))
none_kept variables (first ∷ rest) (suc from) none = none_kept variables rest from (λ other low. none (suc other) (omega (arith, low)))

-- Some of the outputs that are among the variables are kept, and these places are those of the others.
pub record Remain (variables outputs places kept : List ℕ) : Type 0 where
  pub from : ℕ
  pub kept_are : kept ++ filter (λ output. among variables output) (drop from outputs) ≡ filter (λ output. among variables output) outputs
  pub places_are : (place : ℕ) → from ≤ place → among places place ≡ is_kept variables outputs place
  pub none_before : (place : ℕ) → among places place ≡ true → from ≤ place

pub all_remain : (variables outputs places kept : List ℕ) → kept ≡ [] → ((place : ℕ) → among places place ≡ is_kept variables outputs place) → Remain variables outputs places kept
all_remain variables outputs places kept none are = record {
  from = 0;
  kept_are = ap (λ l. l ++ filter (λ output. among variables output) outputs) none;
  places_are = λ place low. are place;
  none_before = λ place there. omega arith;
}

itself : (place : ℕ) → (place == place) ≡ true
itself place = (Decides-eqb place place).1 refl

apart_from : (other place : ℕ) → other < place → (other == place) ≡ false
apart_from other place less = grind (arith, nat_tests)

apart_above : (other place : ℕ) → place < other → (other == place) ≡ false
apart_above other place less = grind (arith, nat_tests)

module _ (variables outputs places rest kept : List ℕ) (place number : ℕ) (remain : Remain variables outputs places kept) (is : places ≡ place ∷ rest)
    (above : (other : ℕ) → among rest other ≡ true → place < other) where
  own_there : among places place ≡ true
  own_there = ap (λ l. among l place) is ∙ ap (λ b. b || among rest place) (itself place)

  own_low : remain.from ≤ place
  own_low = remain.none_before place own_there

  pub own_kept : is_kept variables outputs place ≡ true
  own_kept = sym (remain.places_are place own_low) ∙ own_there

  not_rest_if : (other : ℕ) (b : Bool) → other < place → among rest other ≡ b → b ≡ false
  not_rest_if other true less there = let wrong = above other there in absurd (omega (arith, less, wrong))
  not_rest_if other false less there = refl

  none_between : (other : ℕ) → remain.from ≤ other → other < place → is_kept variables outputs other ≡ false
  none_between other low less =
      sym (remain.places_are other low) ∙ ap (λ l. among l other) is ∙ ap (λ b. b || among rest other) (apart_from other place less) ∙ not_rest_if other (among rest other) less refl

  pub one_less : (more : List ℕ) → number ≡ get_or outputs place 0 → more ≡ kept ++ number ∷ [] → Remain variables outputs rest more
  one_less more at put = record {
    from = suc place;
    kept_are = ap (λ l. l ++ filter (λ output. among variables output) (drop (suc place) outputs)) put
        ∙ append_assoc kept (number ∷ []) (filter (λ output. among variables output) (drop (suc place) outputs))
        ∙ ap (λ l. kept ++ l) (sym (next_kept variables outputs remain.from place number own_low own_kept none_between at))
        ∙ remain.kept_are;
    places_are = λ other low.
        sym (ap (λ b. b || among rest other) (apart_above other place (omega (arith, low)))) ∙ sym (ap (λ l. among l other) is) ∙ remain.places_are other (let from_low = own_low in omega (arith, low, from_low));
    none_before = λ other there. let higher = above other there in omega (arith, higher);
  }

pub none_left : (places : List ℕ) → (0 < length places → false ≡ true) → places ≡ []
none_left [] none = refl
none_left (first ∷ rest) none = let wrong : false ≡ true = none (omega arith) in absurd (cc)

pub none_remain : (variables outputs places kept : List ℕ) → Remain variables outputs places kept → places ≡ [] → kept ≡ filter (λ output. among variables output) outputs
none_remain variables outputs places kept remain none =
    sym (append-nil kept)
    ∙ ap (λ l. kept ++ l) (sym (none_kept variables outputs remain.from (λ other low. sym (remain.places_are other low) ∙ ap (λ l. among l other) none)))
    ∙ remain.kept_are

-- outputs that are put together each once are as many as before only where they are those

behind_length : (b : Bool) (before : List ℕ) (first : ℕ) → length (if b then before else before ++ first ∷ []) ≤ suc (length before)
behind_length true before first = omega arith
behind_length false before first = omega (arith, length-append before (first ∷ []))

behind_all : (before outputs : List ℕ) → length (all_behind before outputs) ≤ length before + length outputs
behind_all before [] = omega arith
behind_all before (first ∷ rest) =
    let all = behind_all (behind before first) rest in
    let one = behind_length (among before first) before first in
    omega (arith, all, one)

once_if : (b : Bool) (before : List ℕ) (first : ℕ) (rest : List ℕ) → length (all_behind (if b then before else before ++ first ∷ []) rest) ≡ length before + suc (length rest)
    → (length (all_behind (before ++ first ∷ []) rest) ≡ length (before ++ first ∷ []) + length rest → all_behind (before ++ first ∷ []) rest ≡ (before ++ first ∷ []) ++ rest)
    → all_behind (if b then before else before ++ first ∷ []) rest ≡ before ++ first ∷ rest
once_if true before first rest size others = let fewer = behind_all before rest in absurd (omega (arith, size, fewer))
once_if false before first rest size others = others (omega (arith, size, length-append before (first ∷ []))) ∙ append_assoc before (first ∷ []) rest

once_each : (before outputs : List ℕ) → length (all_behind before outputs) ≡ length before + length outputs → all_behind before outputs ≡ before ++ outputs
once_each before [] size = sym (append-nil before)
once_each before (first ∷ rest) size = once_if (among before first) before first rest size (λ longer. once_each (before ++ first ∷ []) rest longer)

pub each_once : (outputs once : List ℕ) → once ≡ all_behind [] outputs → length once ≡ length outputs → once ≡ outputs
each_once outputs once is size = let same : length (all_behind [] outputs) ≡ length outputs = ap length (sym is) ∙ size in is ∙ once_each [] outputs (omega (arith, same))
