-- What `clap` makes of a word, where it is asked for three options and two plain words.
use Rattle.std.proofs.Common.{◌≡◌, ◌∙◌, ◌<◌, ◌+◌, ◌&&◌, ◌||◌, ◌==◌, ℕ, Bool, cond, true, false, not, zero, suc, refl, sym, ap, arith, List, [], ◌∷◌, ◌++◌, map, Option, Some, None, is_some, codes, length, true≢false}
use Rattle.std.specs.Prelude.{encode_utf8, option_and_then, slice_get}
use Rattle.std.proofs.lemmas.Bool.{ne_eqb}
use Rattle.std.specs.List.{find, fold, list_any}
use Rattle.std.specs.Option.{option_map_or}
use Rattle.std.specs.Str.{bytes_eq, chars}
use Rattle.clap.specs.Lexer.{long_of, short_of}
use Rattle.clap.specs.Kinds.{Kinds, or_else}
use Rattle.clap.specs.Walk.{Held, Row, Rule, Step, Text, Waiting, Walk, after_step, arg_by_index, arg_by_long, finished, first_of, has_row, idle, is_pending, long_or_other, long_word, next, option, positional_held, pushed, settled, settled_rows, short_or_plain, subcommand_or_other, trailing, used, value, walked, with_default, with_values, without}
use Rattle.clap.specs.Simple.{App, Shape, built, matches_of, new_rule, new_shape, is_simple}
use Rattle.clap.specs.Walk.{rows_after, nothing_held}
use Rattle.clap.specs.Faults.{built_fault, bundle_fault, bundle_step_fault, default_fault, defaults_fault, fault_of, flag_word_fault, flags_fault, is_simple_and_free, long_fault, positional_fault, settle_fault, step_fault, turn_fault, use_fault, walk_fault}
use Rattle.clap.specs.declared.builder.action.ArgAction.TheVariants.{Set}
use Rattle.clap.specs.declared.builder.value_parser.ValueParser.TheVariants as vp
use Rattle.clap.specs.declared.builder.value_parser.Reading.TheVariants as reading
use Rattle.clap.specs.declared.parser.matches.ValueSource.TheVariants.{CommandLine}
use Rattle.clap.specs.declared.error.kind.ErrorKind.TheVariants as kind
use Rattle.merc_words.specs.declared.settings.Setting.{Setting}
use Rattle.merc_words.specs.declared.settings.Setting.TheVariants.{Workers, Steps, Max}
use Rattle.merc_words.specs.Words.{is_option, options_end, setting_word}
use Rattle.merc_words.specs.Parts.{Slot, Of, First, Second, Use, place, rank, text_of}
use Rattle.merc_words.specs.Asked.{asked_app}

-- ---- the command as it is built

abbrev pub name_of : Slot → Text
name_of (Of Workers) = codes "workers"
name_of (Of Steps) = codes "steps"
name_of (Of Max) = codes "max"
name_of First = codes "first"
name_of Second = codes "second"

abbrev rule : Text → Option Text → Option ℕ → Rule
rule id long index = record (new_rule id) {
  long = long;
  index = index;
  action = Some Set;
  range = Some (record { start_inclusive = 1; end_inclusive = 1 });
  parser = Some vp.String;
}

abbrev pub rule_for : Slot → Rule
rule_for (Of setting) = rule (name_of (Of setting)) (Some (name_of (Of setting))) None
rule_for First = rule (codes "first") None (Some 1)
rule_for Second = rule (codes "second") None (Some 2)

abbrev pub rules : List Rule
rules = rule_for (Of Workers) ∷ rule_for (Of Steps) ∷ rule_for (Of Max) ∷ rule_for First ∷ rule_for Second ∷ []

abbrev pub shape : Shape
shape = record (new_shape (codes "merc")) {
  rules = rules;
  no_binary_name = true;
  disable_help_flag = true;
  disable_help_subcommand = true;
  is_built = true;
}

abbrev pub app : App
app = record { top = shape; subs = [] }

built_is : built asked_app ≡ app
built_is = refl

pub asked-free : is_simple_and_free asked_app ≡ true
asked-free = refl

pub asked-simple : is_simple asked_app ≡ true
asked-simple = refl

pub fault-built : (words : List Text) → fault_of asked_app words ≡ built_fault app nothing_held words
fault-built words = refl

pub matches-built : (words : List Text) → matches_of asked_app words ≡ rows_after rules [] words
matches-built words = refl

-- ---- rows

abbrev pub row : Use → Row
row one = record {
  id = name_of one.0;
  values = one.1 ∷ [];
  count = None;
  source = Some CommandLine;
  reading = reading.AsWritten;
}

abbrev pub rows_for : List Use → List Row
rows_for = map row

name-rank : (one other : Slot) → bytes_eq (name_of one) (name_of other) ≡ (rank one == rank other)
name-rank (Of Workers) (Of Workers) = refl
name-rank (Of Workers) (Of Steps) = refl
name-rank (Of Workers) (Of Max) = refl
name-rank (Of Workers) First = refl
name-rank (Of Workers) Second = refl
name-rank (Of Steps) (Of Workers) = refl
name-rank (Of Steps) (Of Steps) = refl
name-rank (Of Steps) (Of Max) = refl
name-rank (Of Steps) First = refl
name-rank (Of Steps) Second = refl
name-rank (Of Max) (Of Workers) = refl
name-rank (Of Max) (Of Steps) = refl
name-rank (Of Max) (Of Max) = refl
name-rank (Of Max) First = refl
name-rank (Of Max) Second = refl
name-rank First (Of Workers) = refl
name-rank First (Of Steps) = refl
name-rank First (Of Max) = refl
name-rank First First = refl
name-rank First Second = refl
name-rank Second (Of Workers) = refl
name-rank Second (Of Steps) = refl
name-rank Second (Of Max) = refl
name-rank Second First = refl
name-rank Second Second = refl

pub has_row-is : (slot : Slot) (uses : List Use) → has_row (name_of slot) (rows_for uses) ≡ is_some (text_of slot uses)
has_row-is slot [] = refl
has_row-is slot (one ∷ uses) = ap (λ (b : Bool). b || has_row (name_of slot) (rows_for uses)) (name-rank one.0 slot) ∙ chosen (rank one.0 == rank slot) (has_row-is slot uses)
  where
    chosen : (b : Bool) → has_row (name_of slot) (rows_for uses) ≡ is_some (text_of slot uses) → (b || has_row (name_of slot) (rows_for uses)) ≡ is_some (cond b (Some one.1) (text_of slot uses))
    chosen true more = refl
    chosen false more = more

pub first_of-is : (slot : Slot) (uses : List Use) → first_of (name_of slot) (rows_for uses) ≡ text_of slot uses
first_of-is slot [] = refl
first_of-is slot (one ∷ uses) =
    ap (λ (b : Bool). option_and_then (λ (r : Row). slice_get r.values 0) (cond b (Some (row one)) (find (λ (r : Row). bytes_eq r.id (name_of slot)) (rows_for uses)))) (name-rank one.0 slot)
    ∙ chosen (rank one.0 == rank slot) (first_of-is slot uses)
  where
    chosen : (b : Bool) → first_of (name_of slot) (rows_for uses) ≡ text_of slot uses
        → option_and_then (λ (r : Row). slice_get r.values 0) (cond b (Some (row one)) (find (λ (r : Row). bytes_eq r.id (name_of slot)) (rows_for uses)))
        ≡ cond b (Some one.1) (text_of slot uses)
    chosen true more = refl
    chosen false more = more

neither : (a b : Bool) → (a || b) ≡ false → (a ≡ false) × (b ≡ false)
neither true b e = absurd (true≢false e)
neither false b e = (refl, e)

without-is : (id : Text) (rows : List Row) → has_row id rows ≡ false → without id rows ≡ rows
without-is id [] absent = refl
without-is id (r ∷ rows) absent =
    let parts = neither (bytes_eq r.id id) (has_row id rows) absent in
    let miss : bytes_eq r.id id ≡ false = parts.0 in
    rw miss (ap (λ (some : List Row). r ∷ some) (without-is id rows parts.1))

with-is : (slot : Slot) (text : Text) (rows : List Row) → has_row (name_of slot) rows ≡ false
    → with_values (name_of slot) reading.AsWritten CommandLine (text ∷ []) rows ≡ rows ++ row (slot, text) ∷ []
with-is slot text [] absent = refl
with-is slot text (r ∷ rows) absent =
    let parts = neither (bytes_eq r.id (name_of slot)) (has_row (name_of slot) rows) absent in
    let miss : bytes_eq r.id (name_of slot) ≡ false = parts.0 in
    rw miss (ap (λ (some : List Row). r ∷ some) (with-is slot text rows parts.1))

used-is : (slot : Slot) (text : Text) (rows : List Row) → used (rule_for slot) (text ∷ []) rows ≡ with_values (name_of slot) reading.AsWritten CommandLine (text ∷ []) (without (name_of slot) rows)
used-is (Of setting) text rows = refl
used-is First text rows = refl
used-is Second text rows = refl

-- a first use of a slot puts its row behind the others
pub used-fresh : (slot : Slot) (text : Text) (rows : List Row) → has_row (name_of slot) rows ≡ false → used (rule_for slot) (text ∷ []) rows ≡ rows ++ row (slot, text) ∷ []
used-fresh slot text rows absent =
    used-is slot text rows ∙ ap (with_values (name_of slot) reading.AsWritten CommandLine (text ∷ [])) (without-is (name_of slot) rows absent) ∙ with-is slot text rows absent

abbrev conflict : Bool → Kinds
conflict b = or_else (cond (b && true) (kind.ArgumentConflict ∷ []) []) []

use_fault-is : (slot : Slot) (text : Text) (rows : List Row) → use_fault false (rule_for slot) (text ∷ []) rows ≡ conflict (has_row (name_of slot) rows)
use_fault-is (Of setting) text rows = refl
use_fault-is First text rows = refl
use_fault-is Second text rows = refl

no_kind : (k : _) (kinds : Kinds) → k ∷ kinds ≡ [] → ⊥
no_kind k kinds e = cc

no_conflict : (b : Bool) → conflict b ≡ [] → b ≡ false
no_conflict true e = absurd (no_kind kind.ArgumentConflict [] e)
no_conflict false e = refl

pub use_fault-fresh : (slot : Slot) (text : Text) (rows : List Row) → has_row (name_of slot) rows ≡ false → use_fault false (rule_for slot) (text ∷ []) rows ≡ []
use_fault-fresh slot text rows absent = use_fault-is slot text rows ∙ ap conflict absent

pub fresh-use_fault : (slot : Slot) (text : Text) (rows : List Row) → use_fault false (rule_for slot) (text ∷ []) rows ≡ [] → has_row (name_of slot) rows ≡ false
fresh-use_fault slot text rows none = no_conflict (has_row (name_of slot) rows) (sym (use_fault-is slot text rows) ∙ none)

-- ---- where a walk stands

-- the slot that is read last, with its text, or an option whose text is awaited
pub data Pending : Type 0 where
  nothing : Pending
  has : Slot → Text → Pending
  waits : Setting → Pending

abbrev pub pending_text : Pending → Option (Text × List Text)
pending_text nothing = None
pending_text (has slot text) = Some (name_of slot, text ∷ [])
pending_text (waits setting) = Some (name_of (Of setting), [])

abbrev pub waiting_for : Pending → Waiting
waiting_for nothing = idle
waiting_for (has slot text) = idle
waiting_for (waits setting) = option (name_of (Of setting))

abbrev pub held : List Row → Pending → Held
held rows p = record { rows = rows; pending = pending_text p; skip = 0 }

-- between two words: so many plain words stand before, and `--` where that is told
abbrev pub at : List Row → Pending → ℕ → Bool → Walk
at rows p before ended = record {
  held = held rows p;
  waiting = waiting_for p;
  position = suc before;
  is_trailing = ended;
  stopped = None;
}

-- the rows once the last slot is used
abbrev pub settled_at : Pending → List Row → List Row
settled_at nothing rows = rows
settled_at (has slot text) rows = used (rule_for slot) (text ∷ []) rows
settled_at (waits setting) rows = used (rule_for (Of setting)) [] rows

abbrev pub fault_at : Pending → List Row → Kinds
fault_at nothing rows = []
fault_at (has slot text) rows = use_fault false (rule_for slot) (text ∷ []) rows
fault_at (waits setting) rows = use_fault false (rule_for (Of setting)) [] rows

pub waits-fault : (setting : Setting) (rows : List Row) → fault_at (waits setting) rows ≡ [] → ⊥
waits-fault setting rows e = no_kind kind.InvalidValue [] e

pub settled_rows-is : (p : Pending) (rows : List Row) → settled_rows rules (pending_text p) rows ≡ settled_at p rows
settled_rows-is nothing rows = refl
settled_rows-is (has (Of Workers) text) rows = refl
settled_rows-is (has (Of Steps) text) rows = refl
settled_rows-is (has (Of Max) text) rows = refl
settled_rows-is (has First text) rows = refl
settled_rows-is (has Second text) rows = refl
settled_rows-is (waits Workers) rows = refl
settled_rows-is (waits Steps) rows = refl
settled_rows-is (waits Max) rows = refl

pub settle_fault-is : (p : Pending) (rows : List Row) → settle_fault rules false (held rows p) ≡ fault_at p rows
settle_fault-is nothing rows = refl
settle_fault-is (has (Of Workers) text) rows = refl
settle_fault-is (has (Of Steps) text) rows = refl
settle_fault-is (has (Of Max) text) rows = refl
settle_fault-is (has First text) rows = refl
settle_fault-is (has Second text) rows = refl
settle_fault-is (waits Workers) rows = refl
settle_fault-is (waits Steps) rows = refl
settle_fault-is (waits Max) rows = refl

-- ---- one word

-- what a word comes to, by whether it is `--`, and what it is as a long and as a short option
abbrev pub met : Waiting → ℕ → Text → Held → Bool → Option (Text × Option Text) → Option Text → Held × Step
met waiting position word h true long short = (h, trailing position)
met waiting position word h false (Some p) short = long_word rules waiting word p.0 p.1 h
met waiting position word h false None short = short_or_plain rules waiting word short h

abbrev pub fault_met : Held → Bool → Option (Text × Option Text) → Option Text → Kinds
fault_met h true long short = []
fault_met h false (Some p) short = long_fault rules false (arg_by_long rules p.0) p.1 h
fault_met h false None short = option_map_or (λ (flags : Text). bundle_fault rules false flags h) short []

module _ (word : Text) (end : Bool) (long : Option (Text × Option Text)) (short : Option Text) (end_is : bytes_eq word options_end ≡ end) (long_is : long_of word ≡ long) (short_is : short_of word ≡ short) where
  met-is : (waiting : Waiting) (position : ℕ) (h : Held) → subcommand_or_other rules None waiting position word h ≡ met waiting position word h end long short
  met-is waiting position h = (λ i. cond (end_is i) (h, trailing position) (long_or_other rules waiting word (long_is i) h)) ∙ by_form end long
    where
      by_form : (end : Bool) (long : Option (Text × Option Text)) → cond end (h, trailing position) (long_or_other rules waiting word long h) ≡ met waiting position word h end long short
      by_form true long = refl
      by_form false (Some p) = refl
      by_form false None = ap (λ (o : Option Text). short_or_plain rules waiting word o h) short_is

  fault_met-is : (h : Held) → cond (bytes_eq word options_end) [] (flag_word_fault rules false (long_of word) word h) ≡ fault_met h end long short
  fault_met-is h = (λ i. cond (end_is i) [] (flag_word_fault rules false (long_is i) word h)) ∙ by_form end long
    where
      by_form : (end : Bool) (long : Option (Text × Option Text)) → cond end [] (flag_word_fault rules false long word h) ≡ fault_met h end long short
      by_form true long = refl
      by_form false (Some p) = refl
      by_form false None = ap (λ (o : Option Text). option_map_or (λ (flags : Text). bundle_fault rules false flags h) o []) short_is

  module _ (rows : List Row) (before : ℕ) where
    walked-is : (p : Pending)
        → let m = met (waiting_for p) (suc before) word (held rows p) end long short in walked rules [] (at rows p before false) word ≡ after_step rules word (at rows p before false) m.0 m.1
    unfolding walked
    walked-is nothing = ap (λ (m : Held × Step). after_step rules word (at rows nothing before false) m.0 m.1) (met-is idle (suc before) (held rows nothing))
    walked-is (has slot text) = ap (λ (m : Held × Step). after_step rules word (at rows (has slot text) before false) m.0 m.1) (met-is idle (suc before) (held rows (has slot text)))
    walked-is (waits setting) =
        ap (λ (m : Held × Step). after_step rules word (at rows (waits setting) before false) m.0 m.1) (met-is (option (name_of (Of setting))) (suc before) (held rows (waits setting)))

    pub turn-is : (p : Pending)
        → let m = met (waiting_for p) (suc before) word (held rows p) end long short in
        turn_fault shape [] (at rows p before false) word ≡ or_else (fault_met (held rows p) end long short) (step_fault shape (suc before) m.0 m.1)
    turn-is nothing =
        λ i. or_else (fault_met-is (held rows nothing) i) (step_fault shape (suc before) (met-is idle (suc before) (held rows nothing) i).0 (met-is idle (suc before) (held rows nothing) i).1)
    turn-is (has slot text) =
        λ i. or_else (fault_met-is (held rows (has slot text)) i)
        (step_fault shape (suc before) (met-is idle (suc before) (held rows (has slot text)) i).0 (met-is idle (suc before) (held rows (has slot text)) i).1)
    turn-is (waits setting) =
        λ i. or_else (fault_met-is (held rows (waits setting)) i)
        (step_fault shape (suc before) (met-is (option (name_of (Of setting))) (suc before) (held rows (waits setting)) i).0 (met-is (option (name_of (Of setting))) (suc before) (held rows (waits setting)) i).1)

-- one word leads from one place of the walk to another, with these faults
pub record Turns (from : Walk) (word : Text) (kinds : Kinds) (to : Walk) : Type 0 where
  pub fault : turn_fault shape [] from word ≡ kinds
  pub walk : walked rules [] from word ≡ to

-- ---- plain words

unpending : (b : Bool) (kinds : Kinds) → cond (b && false) [] kinds ≡ kinds
unpending true kinds = refl
unpending false kinds = refl

unheld : (b : Bool) (one other : Held) → cond (b && false) one other ≡ other
unheld true one other = refl
unheld false one other = refl

module _ (p : Pending) (rows : List Row) where
  first-fault : positional_fault rules false (rule_for First) (held rows p) ≡ fault_at p rows
  first-fault = unpending (is_pending (rule_for First) (pending_text p)) (settle_fault rules false (held rows p)) ∙ settle_fault-is p rows

  second-fault : positional_fault rules false (rule_for Second) (held rows p) ≡ fault_at p rows
  second-fault = unpending (is_pending (rule_for Second) (pending_text p)) (settle_fault rules false (held rows p)) ∙ settle_fault-is p rows

  placed : (slot : Slot) (word : Text) → pushed (name_of slot) word (settled rules (held rows p)) ≡ held (settled_at p rows) (has slot word)
  placed slot word = ap (λ (some : List Row). held some (has slot word)) (settled_rows-is p rows)

  first-held : (word : Text) → positional_held rules (rule_for First) word (held rows p) ≡ held (settled_at p rows) (has First word)
  first-held word =
      ap (λ (h : Held). pushed (codes "first") word h) (unheld (is_pending (rule_for First) (pending_text p)) (held rows p) (settled rules (held rows p)))
      ∙ placed First word

  second-held : (word : Text) → positional_held rules (rule_for Second) word (held rows p) ≡ held (settled_at p rows) (has Second word)
  second-held word =
      ap (λ (h : Held). pushed (codes "second") word h) (unheld (is_pending (rule_for Second) (pending_text p)) (held rows p) (settled rules (held rows p)))
      ∙ placed Second word

  -- a word that goes to a place
  module _ (word : Text) where
    value-fault : (before : ℕ) → before < 2 → step_fault shape (suc before) (held rows p) value ≡ fault_at p rows
    value-fault zero few = first-fault
    value-fault (suc zero) few = second-fault
    value-fault (suc (suc before)) few = absurd (omega (arith, few))

    value-walk : (before : ℕ) (ended : Bool) → before < 2 → after_step rules word (at rows p before ended) (held rows p) value ≡ at (settled_at p rows) (has (place before) word) (suc before) ended
    value-walk zero true few = ap (λ (h : Held). record { held = h; waiting = idle; position = 2; is_trailing = true; stopped = None }) (first-held word)
    value-walk zero false few = ap (λ (h : Held). record { held = h; waiting = idle; position = 2; is_trailing = false; stopped = None }) (first-held word)
    value-walk (suc zero) true few = ap (λ (h : Held). record { held = h; waiting = idle; position = 3; is_trailing = true; stopped = None }) (second-held word)
    value-walk (suc zero) false few = ap (λ (h : Held). record { held = h; waiting = idle; position = 3; is_trailing = false; stopped = None }) (second-held word)
    value-walk (suc (suc before)) ended few = absurd (omega (arith, few))

-- the word is no option
abbrev IsPlain : Text → Type 0
IsPlain word = (bytes_eq word options_end ≡ false) × (long_of word ≡ None) × (short_of word ≡ None)

lone : (x : ℕ) (b : Bool) → (x == 45) ≡ b → IsPlain (x ∷ [])
lone x true is = rw is (refl, refl, refl)
lone x false is = rw is (refl, refl, refl)

plain-is : (word : Text) → is_option word ≡ false → IsPlain word
plain-is [] plain = (refl, refl, refl)
plain-is (x ∷ []) plain = lone x (x == 45) refl
plain-is (x ∷ y ∷ rest) plain = let miss : (x == 45) ≡ false = plain in rw miss (refl, refl, refl)

module _ (rows : List Row) (before : ℕ) (few : before < 2) (word : Text) where
  -- behind `--`
  pub any-turn : (p : Pending) → Turns (at rows p before true) word (fault_at p rows) (at (settled_at p rows) (has (place before) word) (suc before) true)
  unfolding walked
  any-turn p = record { fault = value-fault p rows word before few; walk = value-walk p rows word before true few }

  module _ (plain : is_option word ≡ false) where
    -- no option awaits its text
    pub idle-turn : (p : Pending) → waiting_for p ≡ idle → Turns (at rows p before false) word (fault_at p rows) (at (settled_at p rows) (has (place before) word) (suc before) false)
    idle-turn nothing rests =
        let is = plain-is word plain in
        record {
          fault = turn-is word false None None is.0 is.1 is.2 rows before nothing ∙ value-fault nothing rows word before few;
          walk = walked-is word false None None is.0 is.1 is.2 rows before nothing ∙ value-walk nothing rows word before false few;
        }
    idle-turn (has slot text) rests =
        let is = plain-is word plain in
        record {
          fault = turn-is word false None None is.0 is.1 is.2 rows before (has slot text) ∙ value-fault (has slot text) rows word before few;
          walk = walked-is word false None None is.0 is.1 is.2 rows before (has slot text) ∙ value-walk (has slot text) rows word before false few;
        }
    idle-turn (waits Workers) rests = absurd (cc)
    idle-turn (waits Steps) rests = absurd (cc)
    idle-turn (waits Max) rests = absurd (cc)

-- a third plain word
third-place : (before : ℕ) → arg_by_index rules (suc (suc (suc before))) ≡ None
third-place before = λ i.
    cond (ne_eqb 1 (suc (suc (suc before))) (λ e. omega (arith, e)) i) (Some (rule_for First)) (cond (ne_eqb 2 (suc (suc (suc before))) (λ e. omega (arith, e)) i) (Some (rule_for Second)) None)

third-fault : (before : ℕ) (h : Held) → step_fault shape (suc (suc (suc before))) h value ≡ kind.UnknownArgument ∷ []
third-fault before h = ap (λ (o : Option Rule). option_map_or (λ (a : Rule). positional_fault rules false a h) o (kind.UnknownArgument ∷ [])) (third-place before)

pub third-any : (rows : List Row) (p : Pending) (before : ℕ) (word : Text) → turn_fault shape [] (at rows p (suc (suc before)) true) word ≡ [] → ⊥
third-any rows p before word e = no_kind kind.UnknownArgument [] (sym (third-fault before (held rows p)) ∙ e)

-- a text that an option awaits
pub text-turn : (rows : List Row) (setting : Setting) (before : ℕ) (word : Text) → is_option word ≡ false
    → Turns (at rows (waits setting) before false) word [] (at rows (has (Of setting) word) before false)
text-turn rows Workers before word plain =
    let is = plain-is word plain in
    record { fault = turn-is word false None None is.0 is.1 is.2 rows before (waits Workers); walk = walked-is word false None None is.0 is.1 is.2 rows before (waits Workers) }
text-turn rows Steps before word plain =
    let is = plain-is word plain in
    record { fault = turn-is word false None None is.0 is.1 is.2 rows before (waits Steps); walk = walked-is word false None None is.0 is.1 is.2 rows before (waits Steps) }
text-turn rows Max before word plain =
    let is = plain-is word plain in
    record { fault = turn-is word false None None is.0 is.1 is.2 rows before (waits Max); walk = walked-is word false None None is.0 is.1 is.2 rows before (waits Max) }

-- ---- options

pub end-turn : (rows : List Row) (p : Pending) (before : ℕ) → Turns (at rows p before false) options_end [] (at rows p before true)
unfolding walked
end-turn rows nothing before = record { fault = refl; walk = refl }
end-turn rows (has slot text) before = record { fault = refl; walk = refl }
end-turn rows (waits setting) before = record { fault = refl; walk = refl }

or_nothing : (kinds : Kinds) → or_else kinds [] ≡ kinds
or_nothing [] = refl
or_nothing (k ∷ kinds) = refl

-- where an option that awaits its text leads
abbrev waiting_at : Setting → ℕ → List Row → Walk
waiting_at setting before rows = at rows (waits setting) before false

-- the name of an option
pub name-turn : (rows : List Row) (p : Pending) (before : ℕ) (setting : Setting) → Turns (at rows p before false) (setting_word setting) (fault_at p rows) (at (settled_at p rows) (waits setting) before false)
name-turn rows p before Workers = record {
  fault = turn-is (setting_word Workers) false (Some (codes "workers", None)) None refl refl refl rows before p ∙ or_nothing (settle_fault rules false (held rows p)) ∙ settle_fault-is p rows;
  walk = walked-is (setting_word Workers) false (Some (codes "workers", None)) None refl refl refl rows before p ∙ ap (waiting_at Workers before) (settled_rows-is p rows);
}
name-turn rows p before Steps = record {
  fault = turn-is (setting_word Steps) false (Some (codes "steps", None)) None refl refl refl rows before p ∙ or_nothing (settle_fault rules false (held rows p)) ∙ settle_fault-is p rows;
  walk = walked-is (setting_word Steps) false (Some (codes "steps", None)) None refl refl refl rows before p ∙ ap (waiting_at Steps before) (settled_rows-is p rows);
}
name-turn rows p before Max = record {
  fault = turn-is (setting_word Max) false (Some (codes "max", None)) None refl refl refl rows before p ∙ or_nothing (settle_fault rules false (held rows p)) ∙ settle_fault-is p rows;
  walk = walked-is (setting_word Max) false (Some (codes "max", None)) None refl refl refl rows before p ∙ ap (waiting_at Max before) (settled_rows-is p rows);
}

abbrev pub assigned : Setting → Text → Text
assigned setting text = setting_word setting ++ codes "=" ++ text

-- the faults of an option with its text, behind what is pending
abbrev pub assigned_fault : Setting → Text → Pending → List Row → Kinds
assigned_fault setting text p rows = or_else (fault_at p rows) (use_fault false (rule_for (Of setting)) (text ∷ []) (settled_at p rows))

-- where it leads
abbrev assigned_at : Setting → Text → ℕ → List Row → Walk
assigned_at setting text before rows = at (used (rule_for (Of setting)) (text ∷ []) rows) nothing before false

module _ (rows : List Row) (p : Pending) (before : ℕ) (text : Text) where
  assigned-fault : (setting : Setting) → or_else (or_else (settle_fault rules false (held rows p)) (use_fault false (rule_for (Of setting)) (text ∷ []) (settled_rows rules (pending_text p) rows))) []
      ≡ assigned_fault setting text p rows
  assigned-fault setting =
      or_nothing (or_else (settle_fault rules false (held rows p)) (use_fault false (rule_for (Of setting)) (text ∷ []) (settled_rows rules (pending_text p) rows)))
      ∙ (λ i. or_else (settle_fault-is p rows i) (use_fault false (rule_for (Of setting)) (text ∷ []) (settled_rows-is p rows i)))

  pub assigned-turn : (setting : Setting)
      → Turns (at rows p before false) (assigned setting text) (assigned_fault setting text p rows) (at (used (rule_for (Of setting)) (text ∷ []) (settled_at p rows)) nothing before false)
  assigned-turn Workers = record {
    fault = turn-is (assigned Workers text) false (Some (codes "workers", Some text)) None refl refl refl rows before p ∙ assigned-fault Workers;
    walk = walked-is (assigned Workers text) false (Some (codes "workers", Some text)) None refl refl refl rows before p ∙ ap (assigned_at Workers text before) (settled_rows-is p rows);
  }
  assigned-turn Steps = record {
    fault = turn-is (assigned Steps text) false (Some (codes "steps", Some text)) None refl refl refl rows before p ∙ assigned-fault Steps;
    walk = walked-is (assigned Steps text) false (Some (codes "steps", Some text)) None refl refl refl rows before p ∙ ap (assigned_at Steps text before) (settled_rows-is p rows);
  }
  assigned-turn Max = record {
    fault = turn-is (assigned Max text) false (Some (codes "max", Some text)) None refl refl refl rows before p ∙ assigned-fault Max;
    walk = walked-is (assigned Max text) false (Some (codes "max", Some text)) None refl refl refl rows before p ∙ ap (assigned_at Max text before) (settled_rows-is p rows);
  }

-- a third plain word before `--`
pub third-plain : (rows : List Row) (p : Pending) (before : ℕ) (word : Text) → is_option word ≡ false → waiting_for p ≡ idle → turn_fault shape [] (at rows p (suc (suc before)) false) word ≡ [] → ⊥
third-plain rows nothing before word plain rests e =
    let is = plain-is word plain in
    no_kind kind.UnknownArgument [] (sym (third-fault before (held rows nothing)) ∙ sym (turn-is word false None None is.0 is.1 is.2 rows (suc (suc before)) nothing) ∙ e)
third-plain rows (has slot text) before word plain rests e =
    let is = plain-is word plain in
    no_kind kind.UnknownArgument [] (sym (third-fault before (held rows (has slot text))) ∙ sym (turn-is word false None None is.0 is.1 is.2 rows (suc (suc before)) (has slot text)) ∙ e)
third-plain rows (waits Workers) before word plain rests e = absurd (cc)
third-plain rows (waits Steps) before word plain rests e = absurd (cc)
third-plain rows (waits Max) before word plain rests e = absurd (cc)

-- a word that is no option's name
pub long-strange : (word : Text) (found : Text × Option Text) → bytes_eq word options_end ≡ false → long_of word ≡ Some found → arg_by_long rules found.0 ≡ None → (rows : List Row) (p : Pending) (before : ℕ)
    → turn_fault shape [] (at rows p before false) word ≡ [] → ⊥
long-strange word found other long none rows p before e =
    let m = met (waiting_for p) (suc before) word (held rows p) false (Some found) (short_of word) in
    no_kind kind.UnknownArgument []
    ((λ i. or_else (long_fault rules false (sym none i) found.1 (held rows p)) (step_fault shape (suc before) m.0 m.1))
    ∙ sym (turn-is word false (Some found) (short_of word) other long refl rows before p) ∙ e)

bundle-strange : (two : ℕ) (rest : Text) (x : ℕ) (h : Held) → slice_get (chars (two ∷ rest)) 0 ≡ Some x → bundle_fault rules false (two ∷ rest) (record h { skip = 0 }) ≡ kind.UnknownArgument ∷ []
unfolding flags_fault
bundle-strange two rest x h is = ap (λ (o : Option ℕ). bundle_step_fault rules false o (two ∷ rest) 0 (record h { skip = 0 }) (flags_fault rules false (length rest))) is

-- one `-` and some other character
pub short-strange : (two : ℕ) (rest : Text) (x : ℕ) → (two == 45) ≡ false → slice_get (chars (two ∷ rest)) 0 ≡ Some x → (rows : List Row) (p : Pending) (before : ℕ)
    → turn_fault shape [] (at rows p before false) (45 ∷ two ∷ rest) ≡ [] → ⊥
short-strange two rest x other is rows p before e =
    let m = met (waiting_for p) (suc before) (45 ∷ two ∷ rest) (held rows p) false None (Some (two ∷ rest)) in
    let end : bytes_eq (45 ∷ two ∷ rest) options_end ≡ false = rw other refl in
    let long : long_of (45 ∷ two ∷ rest) ≡ None = rw other refl in
    let short : short_of (45 ∷ two ∷ rest) ≡ Some (two ∷ rest) = rw other refl in
    no_kind kind.UnknownArgument []
    (sym (ap (λ (kinds : Kinds). or_else kinds (step_fault shape (suc before) m.0 m.1)) (bundle-strange two rest x (held rows p) is))
    ∙ sym (turn-is (45 ∷ two ∷ rest) false None (Some (two ∷ rest)) end long short rows before p) ∙ e)

-- ---- behind the words

kept : (slot : Slot) (rows : List Row) → with_default rows (rule_for slot) ≡ rows
kept slot rows = go slot (has_row (name_of slot) rows)
  where
    same : (b : Bool) → cond b rows rows ≡ rows
    same true = refl
    same false = refl

    go : (slot : Slot) (b : Bool) → with_default rows (rule_for slot) ≡ rows
    go (Of setting) b = same (has_row (name_of (Of setting)) rows)
    go First b = same (has_row (codes "first") rows)
    go Second b = same (has_row (codes "second") rows)

-- nothing is filled up
pub defaults-none : (rows : List Row) → fold with_default rows rules ≡ rows
defaults-none rows =
    ap (λ (some : List Row). with_default (with_default (with_default (with_default some (rule_for (Of Steps))) (rule_for (Of Max))) (rule_for First)) (rule_for Second)) (kept (Of Workers) rows)
    ∙ ap (λ (some : List Row). with_default (with_default (with_default some (rule_for (Of Max))) (rule_for First)) (rule_for Second)) (kept (Of Steps) rows)
    ∙ ap (λ (some : List Row). with_default (with_default some (rule_for First)) (rule_for Second)) (kept (Of Max) rows)
    ∙ ap (λ (some : List Row). with_default some (rule_for Second)) (kept First rows) ∙ kept Second rows

undefaulted : (b : Bool) (kinds : Kinds) → cond (b || true) [] kinds ≡ []
undefaulted true kinds = refl
undefaulted false kinds = refl

no_default : (slot : Slot) (rows : List Row) → default_fault rows (rule_for slot) ≡ []
no_default (Of setting) rows = undefaulted (has_row (name_of (Of setting)) rows) _
no_default First rows = undefaulted (has_row (codes "first") rows) _
no_default Second rows = undefaulted (has_row (codes "second") rows) _

pub defaults-fault : (rows : List Row) → defaults_fault rows rules ≡ []
unfolding defaults_fault
defaults-fault rows =
    let one = with_default rows (rule_for (Of Workers)) in
    let two = with_default one (rule_for (Of Steps)) in
    let three = with_default two (rule_for (Of Max)) in
    let four = with_default three (rule_for First) in
    λ i.
    or_else (no_default (Of Workers) rows i)
    (or_else (no_default (Of Steps) one i) (or_else (no_default (Of Max) two i) (or_else (no_default First three i) (or_else (no_default Second four i) []))))
