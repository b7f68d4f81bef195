-- The first goals are taken one by one, and what is known of them is joined.
use Rattle.std.proofs.Common.{◌≡◌, ℕ, suc, zero, Bool, true, false, ◌&&◌, ◌||◌, List, [], ◌∷◌, ◌++◌, Option, Some, None, is_some, length, reverse, take, drop, refl, ap, sym, subst, ◌∙◌, arith}
use Rattle.std.specs.Option.{option_or}
use Rattle.std.proofs.lemmas.List.{append-nil, reverse-append}
use Rattle.merc_base.specs.declared.place.Span.{Span}
use Rattle.merc_goals.specs.Written.{Written, Conditional}
use Rattle.merc_goals.specs.Entries.{goals_of, conditional_of}
use Rattle.merc_scopes.specs.declared.occurrence.Occurrence.{Occurrence}
use Rattle.merc_answer_variables.specs.declared.variables.Variables.{Variables}
use Rattle.merc_answer_variables.specs.declared.reader.Reader.{Reader}
use Rattle.merc_answer_variables.specs.Statuses.{Status, unseen, joined, decided, all_before, each_before, status_of, each_status}
use Rattle.merc_answer_variables.specs.Reading.{status, all_of, HoldEach, IsRead, AreTaken, IsBeside}

-- Of the first goals, so many, some are taken already, and so many are left.
pub record IsTaking (blank : ℕ → Bool) (count left : ℕ) (written : List Written) (goals : List Variables) (taken : Variables) : Type 0 where
  pub rest : List Written
  pub each : HoldEach blank rest (reverse goals)
  pub dropped : drop left rest ≡ drop count written
  pub joins : (name : ℕ) → joined (status taken name) (each_status blank name (goals_of (take left rest)) (all_of blank (drop left rest)))
      ≡ each_status blank name (goals_of (take count written)) (all_of blank (drop count written))

-- joining

or-false : (b : Bool) → (b || false) ≡ b
or-false true = refl
or-false false = refl

and-false : (b : Bool) → (b && false) ≡ false
and-false true = refl
and-false false = refl

or-none : (a : Option ℕ) → option_or a None ≡ a
or-none None = refl
or-none (Some place) = refl

or-assoc : (a b c : Option ℕ) → option_or (option_or a b) c ≡ option_or a (option_or b c)
or-assoc None b c = refl
or-assoc (Some place) b c = refl

shown-assoc : (a b c : Option ℕ) (x y z : Bool)
    → ((((x || y) || (is_some a && is_some b)) || z) || (is_some (option_or a b) && is_some c))
    ≡ ((x || ((y || z) || (is_some b && is_some c))) || (is_some a && is_some (option_or b c)))
shown-assoc a b c true y z = refl
shown-assoc a b c false true z = refl
shown-assoc None None None false false true = refl
shown-assoc None None (Some k) false false true = refl
shown-assoc None (Some j) None false false true = refl
shown-assoc None (Some j) (Some k) false false true = refl
shown-assoc (Some i) None None false false true = refl
shown-assoc (Some i) None (Some k) false false true = refl
shown-assoc (Some i) (Some j) None false false true = refl
shown-assoc (Some i) (Some j) (Some k) false false true = refl
shown-assoc None None None false false false = refl
shown-assoc None None (Some k) false false false = refl
shown-assoc None (Some j) None false false false = refl
shown-assoc None (Some j) (Some k) false false false = refl
shown-assoc (Some i) None None false false false = refl
shown-assoc (Some i) None (Some k) false false false = refl
shown-assoc (Some i) (Some j) None false false false = refl
shown-assoc (Some i) (Some j) (Some k) false false false = refl

abbrev made : Option ℕ → Bool → Status
made place shown = record { place = place; shown = shown }

statuses : (a b : Option ℕ) (x y : Bool) → a ≡ b → x ≡ y → made a x ≡ made b y
statuses a b x y places shown = ap (λ (o : Option ℕ). made o x) places ∙ ap (made b) shown

joined-assoc : (a b c : Status) → joined (joined a b) c ≡ joined a (joined b c)
joined-assoc a b c = statuses _ _ _ _ (or-assoc a.place b.place c.place) (shown-assoc a.place b.place c.place a.shown b.shown c.shown)

pub joined-unseen : (a : Status) → joined a unseen ≡ a
joined-unseen a =
    statuses _ _ _ _ (or-none a.place) (ap (λ b. (a.shown || false) || b) (and-false (is_some a.place)) ∙ or-false (a.shown || false) ∙ or-false a.shown)

pub unseen-joined : (a : Status) → joined unseen a ≡ a
unseen-joined a = statuses _ _ _ _ refl (or-false a.shown)

-- the goals that are taken and those that are left stand in order
pub all-taken : (blank : ℕ → Bool) (count : ℕ) (goals : List Written) → each_before blank (goals_of (take count goals)) (all_of blank (drop count goals)) ≡ all_of blank goals
all-taken blank zero goals = refl
all-taken blank (suc count) [] = refl
all-taken blank (suc count) (first ∷ rest) = ap (all_before blank first) (all-taken blank count rest)

pub last_first : (goals popped : List Variables) (next : Variables) → goals ≡ popped ++ next ∷ [] → reverse goals ≡ next ∷ reverse popped
last_first goals popped next popping = ap reverse popping ∙ reverse-append popped (next ∷ [])

pub taking_starts : (blank : ℕ → Bool) (count : ℕ) (written : List Written) (goals : List Variables) (taken : Variables)
    → ((name : ℕ) → status taken name ≡ unseen) → HoldEach blank written (reverse goals) → IsTaking blank count count written goals taken
taking_starts blank count written goals taken none each = record {
  rest = written;
  each = each;
  dropped = refl;
  joins = λ name.
      ap (λ (s : Status). joined s (each_status blank name (goals_of (take count written)) (all_of blank (drop count written)))) (none name)
      ∙ unseen-joined (each_status blank name (goals_of (take count written)) (all_of blank (drop count written)));
}

module _ (blank : ℕ → Bool) (count less : ℕ) (written : List Written) (popped : List Variables) (next taken now : Variables)
    (joining : (name : ℕ) → status now name ≡ joined (status taken name) (status next name)) where
  step_by_rest : (rest : List Written) → HoldEach blank rest (next ∷ reverse popped) → drop (suc less) rest ≡ drop count written
      → ((name : ℕ) → joined (status taken name) (each_status blank name (goals_of (take (suc less) rest)) (all_of blank (drop (suc less) rest)))
      ≡ each_status blank name (goals_of (take count written)) (all_of blank (drop count written)))
      → IsTaking blank count less written popped now
  step_by_rest [] each dropped joins = absurd each
  step_by_rest (first ∷ rest) each dropped joins = record {
    rest = rest;
    each = each.1;
    dropped = dropped;
    joins = λ name.
        let others : Status = each_status blank name (goals_of (take less rest)) (all_of blank (drop less rest)) in
        ap (λ (s : Status). joined s others) (joining name)
        ∙ joined-assoc (status taken name) (status next name) others
        ∙ ap (λ (s : Status). joined (status taken name) (joined s others)) (each.0 name)
        ∙ ap (λ (l : List Occurrence). joined (status taken name) (joined (status_of blank name first l) others)) (sym (all-taken blank less rest))
        ∙ joins name;
  }

-- one goal more
pub taking_step : (blank : ℕ → Bool) (count left less : ℕ) (written : List Written) (goals popped : List Variables) (next taken now : Variables)
    → left ≡ suc less → goals ≡ popped ++ next ∷ [] → ((name : ℕ) → status now name ≡ joined (status taken name) (status next name))
    → IsTaking blank count left written goals taken → IsTaking blank count less written popped now
taking_step blank count left less written goals popped next taken now is popping joining taking =
    step_by_rest blank count less written popped next taken now joining taking.rest
    (subst (λ (l : List Variables). HoldEach blank taking.rest l) (last_first goals popped next popping) taking.each)
    (ap (λ (n : ℕ). drop n taking.rest) (sym is) ∙ taking.dropped)
    (λ name. ap (λ (n : ℕ). joined (status taken name) (each_status blank name (goals_of (take n taking.rest)) (all_of blank (drop n taking.rest)))) (sym is) ∙ taking.joins name)

-- no goal is left to be taken
none_by_rest : (blank : ℕ → Bool) (count left : ℕ) (written rest : List Written) (taken : Variables) → HoldEach blank rest [] → drop left rest ≡ drop count written
    → ((name : ℕ) → joined (status taken name) (each_status blank name (goals_of (take left rest)) (all_of blank (drop left rest)))
    ≡ each_status blank name (goals_of (take count written)) (all_of blank (drop count written)))
    → AreTaken blank count written [] taken
none_by_rest blank count zero written [] taken each dropped joins = record {
  each = subst (λ (l : List Written). HoldEach blank l []) dropped each;
  joins = λ name. sym (joined-unseen (status taken name)) ∙ joins name;
}
none_by_rest blank count (suc left) written [] taken each dropped joins = record {
  each = subst (λ (l : List Written). HoldEach blank l []) dropped each;
  joins = λ name. sym (joined-unseen (status taken name)) ∙ joins name;
}
none_by_rest blank count left written (first ∷ rest) taken each dropped joins = absurd each

no_length : (goals : List Variables) → length goals ≡ 0 → goals ≡ []
no_length [] none = refl
no_length (first ∷ rest) none = absurd (omega (arith, none))

pub taking_none : (blank : ℕ → Bool) (count left : ℕ) (written : List Written) (goals popped : List Variables) (taken : Variables)
    → length goals ≡ 0 → goals ≡ popped ++ [] → IsTaking blank count left written goals taken → AreTaken blank count written popped taken
taking_none blank count left written goals popped taken none same taking =
    let empty : goals ≡ [] = no_length goals none in
    subst (λ (l : List Variables). AreTaken blank count written l taken) (sym empty ∙ same ∙ append-nil popped)
    (none_by_rest blank count left written taking.rest taken (subst (λ (l : List Variables). HoldEach blank taking.rest (reverse l)) empty taking.each) taking.dropped taking.joins)

-- all are taken
pub taking_ends : (blank : ℕ → Bool) (count : ℕ) (written : List Written) (goals : List Variables) (taken : Variables)
    → IsTaking blank count 0 written goals taken → AreTaken blank count written goals taken
taking_ends blank count written goals taken taking = record {
  each = subst (λ (l : List Written). HoldEach blank l (reverse goals)) taking.dropped taking.each;
  joins = λ name. sym (joined-unseen (status taken name)) ∙ taking.joins name;
}

-- one goal is put before those that are left
pub taken_read : (blank : ℕ → Bool) (count : ℕ) (goals : List Written) (goal : Written) (left : List Variables) (all : Variables) (reader : Reader)
    → IsBeside blank (goals_of (take count goals)) goal → AreTaken blank count goals left all → reader.goals.items ≡ left ++ all ∷ []
    → reverse reader.trail.items ≡ all_of blank goals → IsRead blank (goal ∷ drop count goals) reader
taken_read blank count goals goal left all reader beside taken pushing trail = record {
  each = subst (λ (l : List Variables). HoldEach blank (goal ∷ drop count goals) l) (sym (last_first reader.goals.items left all pushing))
      ((λ (name : ℕ). taken.joins name ∙ sym (beside.status name (all_of blank (drop count goals)))), taken.each);
  all = trail ∙ sym (all-taken blank count goals) ∙ sym (beside.all (all_of blank (drop count goals)));
}

-- an if-then-else

module _ (blank : ℕ → Bool) (condition then_part else_part whole : Variables) (left : List Variables) (reader : Reader) (span : Span)
    (deciding : (name : ℕ) → status whole name ≡ decided (status condition name) (status then_part name) (status else_part name))
    (pushing : reader.goals.items ≡ left ++ whole ∷ []) where
  three : (goals : List Written) → HoldEach blank goals (condition ∷ then_part ∷ else_part ∷ reverse left) → reverse reader.trail.items ≡ all_of blank goals
      → IsRead blank (conditional_of span goals) reader
  three [] each trail = absurd each
  three (first ∷ []) each trail = absurd each.1
  three (first ∷ second ∷ []) each trail = absurd each.1.1
  three (first ∷ second ∷ third ∷ rest) each trail = record {
    each = subst (λ (l : List Variables). HoldEach blank (Conditional first second third span ∷ rest) l) (sym (last_first reader.goals.items left whole pushing)) (
      (λ (name : ℕ).
          deciding name
          ∙ ap (λ (s : Status). decided s (status then_part name) (status else_part name)) (each.0 name)
          ∙ ap (λ (s : Status). decided (status_of blank name first (all_of blank (second ∷ third ∷ rest))) s (status else_part name)) (each.1.0 name)
          ∙ ap (λ (s : Status). decided (status_of blank name first (all_of blank (second ∷ third ∷ rest))) (status_of blank name second (all_of blank (third ∷ rest))) s) (each.1.1.0 name)),
      each.1.1.1,
    );
    all = trail;
  }

pub decided_read : (blank : ℕ → Bool) (goals : List Written) (span : Span) (condition then_part else_part whole : Variables) (left : List Variables) (old new : Reader)
    → reverse old.goals.items ≡ condition ∷ then_part ∷ else_part ∷ reverse left
    → ((name : ℕ) → status whole name ≡ decided (status condition name) (status then_part name) (status else_part name))
    → new.goals.items ≡ left ++ whole ∷ [] → new.trail.items ≡ old.trail.items
    → IsRead blank goals old → IsRead blank (conditional_of span goals) new
decided_read blank goals span condition then_part else_part whole left old new parts deciding pushing same read =
    three blank condition then_part else_part whole left new span deciding pushing goals
    (subst (λ (l : List Variables). HoldEach blank goals l) parts read.each) (ap reverse same ∙ read.all)
