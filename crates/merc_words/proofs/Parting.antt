-- What `clap` finds is what the words give.
use Rattle.std.proofs.Common.{◌≡◌, ◌∙◌, ◌<◌, ◌+◌, ◌||◌, ◌==◌, ◌⊎◌, inl, inr, ℕ, Bool, cond, true, false, not, zero, suc, refl, sym, ap, subst, arith, List, [], ◌∷◌, ◌++◌, Option, Some, None, is_some, codes, true≢false, eqb-true, append-nil, append_assoc, All, IsUtf8, length, take, drop}
use Rattle.std.specs.Prelude.{◌↔◌, ⊤, encode_utf8_all, slice_get}
use Rattle.std.specs.List.{find, fold, list_any, before_first, after_first, prefix_len}
use Rattle.std.specs.Str.{bytes_eq, chars}
use Rattle.std.proofs.lemmas.Str.{chars_past_char, encodes-chars}
use Rattle.std.proofs.lemmas.Slice.Eq.{bytes_eq-Decides}
use Rattle.std.proofs.Math.Utf8.{encode}
use Rattle.clap.specs.Lexer.{has_byte, long_of, name_and_value, short_of}
use Rattle.clap.specs.Kinds.{HasKind, IsAmong, Kinds, or_else}
use Rattle.clap.specs.Walk.{Row, Rule, Text, Walk, arg_by_long, first_of, has_row, idle, nothing_held, rows_after, rows_of, settled_rows, used, walk_from, walked, with_default}
use Rattle.clap.specs.Simple.{App, entered, matches_of}
use Rattle.clap.specs.Values.{kind_of}
use Rattle.clap.specs.declared.error.Error.{Error}
use Rattle.clap.specs.Matches.{first_value}
use Rattle.clap.proofs.WalkLemmas.{first_value-rows}
use Rattle.clap.specs.declared.parser.matches.Found.{Found}
use Rattle.clap.specs.Faults.{bundle_fault, check_fault, defaults_fault, entered_fault, fault_of, flags_fault, settle_fault, turn_fault, use_fault, walk_fault}
use Rattle.clap.specs.declared.error.kind.ErrorKind.{ErrorKind}
use Rattle.clap.specs.declared.error.kind.ErrorKind.TheVariants as kind
use Rattle.merc_words.specs.declared.settings.Setting.{Setting}
use Rattle.merc_words.specs.declared.settings.Setting.TheVariants.{Workers, Steps, Max}
use Rattle.merc_words.specs.Words.{is_option, options_end, setting_word}
use Rattle.merc_words.specs.Asked.{asked_app}
use Rattle.merc_words.specs.Parts.{AreFresh, Gives, Slot, Of, First, Second, Texts, Use, Uses, place, text_behind, text_of, texts_in, texts_of}
use Rattle.merc_words.specs.declared.parts.Parts.{Parts}
use Rattle.merc_words.specs.Parts.Uses.{no_word, plain_word, any_word, ends_options, in_two_words, in_one_word}
use Rattle.merc_words.proofs.Asked.{Pending, Turns, any-turn, app, asked-free, assigned, assigned-turn, assigned_fault, at, defaults-fault, defaults-none, end-turn, fault-built, fault_at, first_of-is, fresh-use_fault, has, has_row-is, held, idle-turn, long-strange, matches-built, name-turn, name_of, nothing, pending_text, row, rows_for, rule_for, rules, settle_fault-is, settled_at, settled_rows-is, shape, short-strange, text-turn, third-any, third-plain, used-fresh, use_fault-fresh, waiting_for, waits, waits-fault}

-- ---- faults one behind another

no_kinds : (one more : Kinds) → or_else one more ≡ [] → (one ≡ []) × (more ≡ [])
no_kinds [] more none = (refl, none)
no_kinds (k ∷ kinds) more none = cc

-- ---- what the slots have that are used

is_none : (found : Option Text) → is_some found ≡ false → found ≡ None
is_none None absent = refl
is_none (Some text) absent = absurd (true≢false absent)

not_some : (found : Option Text) → found ≡ None → is_some found ≡ false
not_some found none = ap (λ (o : Option Text). is_some o) none

abbrev last_use : Pending → List Use
last_use nothing = []
last_use (has slot text) = (slot, text) ∷ []
last_use (waits setting) = []

abbrev Rests : Pending → Type 0
Rests nothing = ⊤
Rests (has slot text) = ⊤
Rests (waits setting) = ⊥

rests-idle : (p : Pending) → Rests p → waiting_for p ≡ idle
rests-idle nothing rests = refl
rests-idle (has slot text) rests = refl
rests-idle (waits setting) rests = absurd rests

module _ (rows : List Row) (done : List Use) (same : rows ≡ rows_for done) where
  no_text : (slot : Slot) → has_row (name_of slot) rows ≡ false → text_of slot done ≡ None
  no_text slot absent = is_none (text_of slot done) (sym (has_row-is slot done) ∙ ap (has_row (name_of slot)) (sym same) ∙ absent)

  no_row : (slot : Slot) → text_of slot done ≡ None → has_row (name_of slot) rows ≡ false
  no_row slot none = ap (has_row (name_of slot)) same ∙ has_row-is slot done ∙ not_some (text_of slot done) none

  more_rows : (slot : Slot) (text : Text) → has_row (name_of slot) rows ≡ false → used (rule_for slot) (text ∷ []) rows ≡ rows_for (done ++ (slot, text) ∷ [])
  more_rows slot text absent = used-fresh slot text rows absent ∙ ap (λ (some : List Row). some ++ row (slot, text) ∷ []) same ∙ joined done
    where
      joined : (uses : List Use) → rows_for uses ++ row (slot, text) ∷ [] ≡ rows_for (uses ++ (slot, text) ∷ [])
      joined [] = refl
      joined (one ∷ uses) = ap (λ (some : List Row). row one ∷ some) (joined uses)

  -- the last slot is used without a fault
  settled-rows : (p : Pending) → fault_at p rows ≡ [] → settled_at p rows ≡ rows_for (done ++ last_use p)
  settled-rows nothing none = same ∙ ap (λ (uses : List Use). rows_for uses) (sym (append-nil done))
  settled-rows (has slot text) none = more_rows slot text (fresh-use_fault slot text rows none)
  settled-rows (waits setting) none = absurd (waits-fault setting rows none)

  fresh-before : (p : Pending) (uses : List Use) → fault_at p rows ≡ [] → AreFresh (done ++ last_use p) uses → AreFresh done (last_use p ++ uses)
  fresh-before nothing uses none fresh = subst (λ (some : List Use). AreFresh some uses) (append-nil done) fresh
  fresh-before (has slot text) uses none fresh = (no_text slot (fresh-use_fault slot text rows none), fresh)
  fresh-before (waits setting) uses none fresh = absurd (waits-fault setting rows none)

  fresh-fault : (p : Pending) (uses : List Use) → Rests p → AreFresh done (last_use p ++ uses) → fault_at p rows ≡ []
  fresh-fault nothing uses rests fresh = refl
  fresh-fault (has slot text) uses rests fresh = use_fault-fresh slot text rows (no_row slot fresh.0)
  fresh-fault (waits setting) uses rests fresh = absurd rests

  fresh-behind : (p : Pending) (uses : List Use) → Rests p → AreFresh done (last_use p ++ uses) → AreFresh (done ++ last_use p) uses
  fresh-behind nothing uses rests fresh = subst (λ (some : List Use). AreFresh some uses) (sym (append-nil done)) fresh
  fresh-behind (has slot text) uses rests fresh = fresh.1
  fresh-behind (waits setting) uses rests fresh = absurd rests

-- ---- the rest of a walk

abbrev end_of : Walk → List Text → Walk
end_of w words = fold (walked rules []) w words

-- the rows once the last slot is used, at the end of the words
abbrev last_rows : Walk → List Row
last_rows w = settled_rows rules w.held.pending w.held.rows

-- no word has a fault, nor what is pending behind the last
pub record IsClean (w : Walk) (words : List Text) : Type 0 where
  pub walk : walk_fault shape [] w words ≡ []
  pub last : settle_fault rules false (end_of w words).held ≡ []

clean-next : (w v : Walk) (word : Text) (rest : List Text) (kinds : Kinds) → Turns w word kinds v → IsClean w (word ∷ rest) → (kinds ≡ []) × IsClean v rest
unfolding walk_fault
clean-next w v word rest kinds turns clean =
    let parts = no_kinds (turn_fault shape [] w word) (walk_fault shape [] (walked rules [] w word) rest) clean.walk in (
      sym turns.fault ∙ parts.0,
      record {
        walk = ap (λ (some : Walk). walk_fault shape [] some rest) (sym turns.walk) ∙ parts.1;
        last = ap (λ (some : Walk). settle_fault rules false (end_of some rest).held) (sym turns.walk) ∙ clean.last;
      },
    )

clean-turn : (w : Walk) (word : Text) (rest : List Text) → IsClean w (word ∷ rest) → turn_fault shape [] w word ≡ []
unfolding walk_fault
clean-turn w word rest clean = (no_kinds (turn_fault shape [] w word) (walk_fault shape [] (walked rules [] w word) rest) clean.walk).0

clean-back : (w v : Walk) (word : Text) (rest : List Text) (kinds : Kinds) → Turns w word kinds v → kinds ≡ [] → IsClean v rest → IsClean w (word ∷ rest)
unfolding walk_fault
clean-back w v word rest kinds turns none clean = record {
  walk = (λ i. or_else ((turns.fault ∙ none) i) (walk_fault shape [] (turns.walk i) rest)) ∙ clean.walk;
  last = ap (λ (some : Walk). settle_fault rules false (end_of some rest).held) turns.walk ∙ clean.last;
}

-- ---- words that have no fault

-- What the words give that are left, behind these uses and what is pending.
abbrev Leaves : List Use → Pending → ℕ → Bool → List Text → Walk → Type 0
Leaves done nothing before ended words w = (uses : List Use) × Uses before ended words uses × AreFresh done uses × (last_rows (end_of w words) ≡ rows_for (done ++ uses))
Leaves done (has slot text) before ended words w =
    (uses : List Use) × Uses before ended words uses × AreFresh done ((slot, text) ∷ uses) × (last_rows (end_of w words) ≡ rows_for (done ++ (slot, text) ∷ uses))
Leaves done (waits setting) before ended words w =
    (text : Text) × (rest : List Text) × (uses : List Use) × (words ≡ text ∷ rest) × (ended ≡ false) × (is_option text ≡ false) × Uses before false rest uses
    × AreFresh done ((Of setting, text) ∷ uses) × (last_rows (end_of w words) ≡ rows_for (done ++ (Of setting, text) ∷ uses))

abbrev Idle : List Use → Pending → ℕ → Bool → List Text → Walk → Type 0
Idle done p before ended words w =
    (uses : List Use) × Uses before ended words uses × AreFresh done (last_use p ++ uses) × (last_rows (end_of w words) ≡ rows_for (done ++ (last_use p ++ uses)))

found-idle : (done : List Use) (p : Pending) (before : ℕ) (ended : Bool) (words : List Text) (w : Walk) → Rests p → Idle done p before ended words w → Leaves done p before ended words w
found-idle done nothing before ended words w rests found = found
found-idle done (has slot text) before ended words w rests found = found
found-idle done (waits setting) before ended words w rests found = absurd rests

-- the text of a pending option is found as one of any other
module _ (rows : List Row) (done : List Use) (same : rows ≡ rows_for done) (p : Pending) (before : ℕ) (ended : Bool) (none : fault_at p rows ≡ []) where
  -- what is found behind the slot that was pending
  behind-use : (words rest : List Text) (uses : List Use) (w v : Walk) → end_of w words ≡ end_of v rest → Uses before ended words uses → AreFresh (done ++ last_use p) uses
      → last_rows (end_of v rest) ≡ rows_for ((done ++ last_use p) ++ uses) → Idle done p before ended words w
  behind-use words rest uses w v ends gives fresh found = (
    uses,
    gives,
    fresh-before rows done same p uses none fresh,
    ap (λ (some : Walk). last_rows some) ends ∙ found ∙ ap (λ (some : List Use). rows_for some) (append_assoc done (last_use p) uses),
  )

-- ---- which option a word is

data Form (word : Text) : Type 0 where
  plain : is_option word ≡ false → Form word
  ends : word ≡ options_end → Form word
  names : (setting : Setting) → word ≡ setting_word setting → Form word
  assigns : (setting : Setting) (text : Text) → word ≡ assigned setting text → Form word
  strange : ((rows : List Row) (p : Pending) (before : ℕ) → turn_fault shape [] (at rows p before false) word ≡ [] → ⊥) → Form word

named : (name : Text) → ((setting : Setting) × (name ≡ name_of (Of setting))) ⊎ (arg_by_long rules name ≡ None)
named name = by_names (bytes_eq (codes "workers") name) (bytes_eq (codes "steps") name) (bytes_eq (codes "max") name) refl refl refl
  where
    found_by : Bool → Bool → Bool → Option Rule
    found_by one two three = cond (one || false) (Some (rule_for (Of Workers))) (cond (two || false) (Some (rule_for (Of Steps))) (cond (three || false) (Some (rule_for (Of Max))) None))

    found-is : arg_by_long rules name ≡ found_by (bytes_eq (codes "workers") name) (bytes_eq (codes "steps") name) (bytes_eq (codes "max") name)
    found-is = refl

    by_names : (one two three : Bool) → bytes_eq (codes "workers") name ≡ one → bytes_eq (codes "steps") name ≡ two → bytes_eq (codes "max") name ≡ three
        → ((setting : Setting) × (name ≡ name_of (Of setting))) ⊎ (arg_by_long rules name ≡ None)
    by_names true two three is is' is'' = inl (Workers, sym ((bytes_eq-Decides (codes "workers") name).0 is))
    by_names false true three is is' is'' = inl (Steps, sym ((bytes_eq-Decides (codes "steps") name).0 is'))
    by_names false false true is is' is'' = inl (Max, sym ((bytes_eq-Decides (codes "max") name).0 is''))
    by_names false false false is is' is'' = inr (found-is ∙ (λ i. found_by (is i) (is' i) (is'' i)))

-- the character `=`
abbrev is_equals : ℕ → Bool
is_equals byte = byte == 61

one_more : (n : ℕ) → suc n ≡ 1 + n
one_more n = omega arith

one_past : (n : ℕ) → suc (n + 1) ≡ (1 + n) + 1
one_past n = omega arith

assigned-split : (word : Text) → has_byte 61 word ≡ true → word ≡ before_first is_equals word ++ 61 ∷ after_first is_equals word
assigned-split [] there = absurd (true≢false (sym there))
assigned-split (byte ∷ rest) there = by_first (byte == 61) refl (assigned-split rest)
  where
    by_first : (b : Bool) → (byte == 61) ≡ b → (has_byte 61 rest ≡ true → rest ≡ before_first is_equals rest ++ 61 ∷ after_first is_equals rest)
        → byte ∷ rest ≡ before_first is_equals (byte ∷ rest) ++ 61 ∷ after_first is_equals (byte ∷ rest)
    by_first true is more = rw is (ap (λ (some : ℕ). some ∷ rest) (eqb-true byte 61 is))
    by_first false is more =
        let behind : has_byte 61 rest ≡ true = sym (ap (λ (b : Bool). b || has_byte 61 rest) is) ∙ there in
        let n = prefix_len (λ (some : ℕ). not (is_equals some)) rest in
        rw is (ap (λ (some : Text). byte ∷ some) (more behind) ∙ (λ i. take (one_more n i) (byte ∷ rest) ++ 61 ∷ drop (one_past n i) (byte ∷ rest)))

unassigned-whole : (word : Text) → has_byte 61 word ≡ false → word ≡ before_first is_equals word
unassigned-whole [] absent = refl
unassigned-whole (byte ∷ rest) absent = by_first (byte == 61) refl (unassigned-whole rest)
  where
    by_first : (b : Bool) → (byte == 61) ≡ b → (has_byte 61 rest ≡ false → rest ≡ before_first is_equals rest) → byte ∷ rest ≡ before_first is_equals (byte ∷ rest)
    by_first true is more = absurd (true≢false (sym (ap (λ (b : Bool). b || has_byte 61 rest) is) ∙ absent))
    by_first false is more =
        let behind : has_byte 61 rest ≡ false = sym (ap (λ (b : Bool). b || has_byte 61 rest) is) ∙ absent in
        let n = prefix_len (λ (some : ℕ). not (is_equals some)) rest in
        rw is (ap (λ (some : Text). byte ∷ some) (more behind) ∙ (λ i. take (one_more n i) (byte ∷ rest)))

-- `--` and the name of an option
hyphened : (setting : Setting) → 45 ∷ 45 ∷ name_of (Of setting) ≡ setting_word setting
hyphened Workers = refl
hyphened Steps = refl
hyphened Max = refl

hyphened-assigned : (setting : Setting) (text : Text) → 45 ∷ 45 ∷ (name_of (Of setting) ++ 61 ∷ text) ≡ assigned setting text
hyphened-assigned Workers text = refl
hyphened-assigned Steps text = refl
hyphened-assigned Max text = refl

long_form : (first : ℕ) (rest : Text) → Form (45 ∷ 45 ∷ first ∷ rest)
long_form first rest = by_name (named (before_first is_equals (first ∷ rest)))
  where
    by_value : (setting : Setting) → before_first is_equals (first ∷ rest) ≡ name_of (Of setting) → (b : Bool) → has_byte 61 (first ∷ rest) ≡ b → Form (45 ∷ 45 ∷ first ∷ rest)
    by_value setting is true there =
        assigns setting (after_first is_equals (first ∷ rest))
        (ap (λ (some : Text). 45 ∷ 45 ∷ some) (assigned-split (first ∷ rest) there)
        ∙ ap (λ (some : Text). 45 ∷ 45 ∷ (some ++ 61 ∷ after_first is_equals (first ∷ rest))) is ∙ hyphened-assigned setting (after_first is_equals (first ∷ rest)))
    by_value setting is false absent = names setting (ap (λ (some : Text). 45 ∷ 45 ∷ some) (unassigned-whole (first ∷ rest) absent ∙ is) ∙ hyphened setting)

    by_name : ((setting : Setting) × (before_first is_equals (first ∷ rest) ≡ name_of (Of setting))) ⊎ (arg_by_long rules (before_first is_equals (first ∷ rest)) ≡ None)
        → Form (45 ∷ 45 ∷ first ∷ rest)
    by_name (inl found) = by_value found.0 found.1 (has_byte 61 (first ∷ rest)) refl
    by_name (inr none) = strange (λ rows p before. long-strange (45 ∷ 45 ∷ first ∷ rest) (name_and_value (first ∷ rest)) refl refl none rows p before)

-- a text behind `-` begins with some character
lone_hyphen : (first : ℕ) (rest : Text) → IsUtf8 (45 ∷ first ∷ rest) → chars (first ∷ rest) ≡ [] → ⊥
unfolding encode
lone_hyphen first rest utf8 is =
    let one : chars (45 ∷ first ∷ rest) ≡ 45 ∷ [] = chars_past_char (45 ∷ first ∷ rest) (first ∷ rest) 45 utf8 refl ∙ ap (λ (some : List ℕ). 45 ∷ some) is in
    let whole : 45 ∷ [] ≡ 45 ∷ first ∷ rest = sym (ap (λ (some : List ℕ). encode_utf8_all some) one) ∙ encodes-chars (45 ∷ first ∷ rest) utf8 in
    cc

begins : (first : ℕ) (rest : Text) → IsUtf8 (45 ∷ first ∷ rest) → (found : List ℕ) → chars (first ∷ rest) ≡ found → (x : ℕ) × (slice_get (chars (first ∷ rest)) 0 ≡ Some x)
begins first rest utf8 (x ∷ found) is = (x, ap (λ (some : List ℕ). slice_get some 0) is)
begins first rest utf8 [] is = absurd (lone_hyphen first rest utf8 is)

form : (word : Text) → IsUtf8 word → Form word
form [] utf8 = plain refl
form (one ∷ []) utf8 = plain refl
form (one ∷ two ∷ rest) utf8 = by_first (one == 45) refl
  where
    short : IsUtf8 (45 ∷ two ∷ rest) → (two == 45) ≡ false → Form (45 ∷ two ∷ rest)
    short utf8 other = let found = begins two rest utf8 (chars (two ∷ rest)) refl in strange (λ rows p before. short-strange two rest found.0 other found.1 rows p before)

    long : (rest : Text) → Form (45 ∷ 45 ∷ rest)
    long [] = ends refl
    long (first ∷ more) = long_form first more

    by_second : IsUtf8 (45 ∷ two ∷ rest) → (b : Bool) → (two == 45) ≡ b → Form (45 ∷ two ∷ rest)
    by_second utf8 true is = subst (λ (some : ℕ). Form (45 ∷ some ∷ rest)) (sym (eqb-true two 45 is)) (long rest)
    by_second utf8 false is = short utf8 is

    by_first : (b : Bool) → (one == 45) ≡ b → Form (one ∷ two ∷ rest)
    by_first true is =
        let same : one ≡ 45 = eqb-true one 45 is in
        subst (λ (some : ℕ). Form (some ∷ two ∷ rest)) (sym same) (by_second (subst (λ (some : ℕ). IsUtf8 (some ∷ two ∷ rest)) same utf8) (two == 45) refl)
    by_first false is = plain is

-- ---- words without a fault give what is found

abbrev AllUtf8 : List Text → Type 0
AllUtf8 [] = ⊤
AllUtf8 (word ∷ words) = IsUtf8 word × AllUtf8 words

all_utf8 : (words : List Text) → All IsUtf8 words → AllUtf8 words
all_utf8 [] all = tt
all_utf8 (word ∷ words) all = (all 0 [] (omega arith), all_utf8 words (λ k d below. all (suc k) d (omega (arith, below))))

found-none : (rows : List Row) (done : List Use) (p : Pending) (before : ℕ) (ended : Bool) (words : List Text) (w : Walk) → fault_at p rows ≡ [] → Idle done p before ended words w → Leaves done p before ended words w
found-none rows done nothing before ended words w none found = found
found-none rows done (has slot text) before ended words w none found = found
found-none rows done (waits setting) before ended words w none found = absurd (waits-fault setting rows none)

-- the words behind the first of them, where this one goes to a place
module _ (rows : List Row) (done : List Use) (same : rows ≡ rows_for done) (p : Pending) (before : ℕ) (ended : Bool) (word : Text) (rest : List Text) (none : fault_at p rows ≡ []) where
  found-placed : Turns (at rows p before ended) word (fault_at p rows) (at (settled_at p rows) (has (place before) word) (suc before) ended)
      → ((uses : List Use) → Uses (suc before) ended rest uses → Uses before ended (word ∷ rest) ((place before, word) ∷ uses))
      → Leaves (done ++ last_use p) (has (place before) word) (suc before) ended rest (at (settled_at p rows) (has (place before) word) (suc before) ended)
      → Leaves done p before ended (word ∷ rest) (at rows p before ended)
  found-placed turns puts found =
      found-none rows done p before ended (word ∷ rest) (at rows p before ended) none
      (behind-use rows done same p before ended none (word ∷ rest) rest ((place before, word) ∷ found.0) (at rows p before ended) (at (settled_at p rows) (has (place before) word) (suc before) ended)
      (ap (λ (some : Walk). end_of some rest) turns.walk) (puts found.0 found.1) found.2 found.3)

-- What is said of words, by the words behind the first.
abbrev Sound : List Text → Type 0
Sound words = (rows : List Row) (done : List Use) → rows ≡ rows_for done → (p : Pending) (before : ℕ) (ended : Bool) → IsClean (at rows p before ended) words → Leaves done p before ended words (at rows p before ended)

ended-found : (word : Text) (rest : List Text) (rows : List Row) (done : List Use) (p : Pending) (before : ℕ) → word ≡ options_end → Turns (at rows p before false) word [] (at rows p before true)
    → Leaves done p before true rest (at rows p before true) → Leaves done p before false (word ∷ rest) (at rows p before false)
ended-found word rest rows done nothing before is turns found = (
  found.0,
  subst (λ (some : Text). Uses before false (some ∷ rest) found.0) (sym is) (ends_options before rest found.0 found.1),
  found.2,
  ap (λ (some : Walk). last_rows (end_of some rest)) turns.walk ∙ found.3,
)
ended-found word rest rows done (has slot text) before is turns found = (
  found.0,
  subst (λ (some : Text). Uses before false (some ∷ rest) found.0) (sym is) (ends_options before rest found.0 found.1),
  found.2,
  ap (λ (some : Walk). last_rows (end_of some rest)) turns.walk ∙ found.3,
)
ended-found word rest rows done (waits setting) before is turns found = absurd (true≢false found.4)

module _ (word : Text) (rest : List Text) (sound : Sound rest) (rows : List Row) (done : List Use) (same : rows ≡ rows_for done) (p : Pending) (before : ℕ) where
  sound-any : before < 2 → IsClean (at rows p before true) (word ∷ rest) → Leaves done p before true (word ∷ rest) (at rows p before true)
  sound-any few clean =
      let turns = any-turn rows before few word p in
      let behind = clean-next (at rows p before true) (at (settled_at p rows) (has (place before) word) (suc before) true) word rest (fault_at p rows) turns clean in
      found-placed rows done same p before true word rest behind.0 turns (λ uses gives. any_word before word rest uses few gives)
      (sound (settled_at p rows) (done ++ last_use p) (settled-rows rows done same p behind.0) (has (place before) word) (suc before) true behind.1)

  sound-placed : is_option word ≡ false → Rests p → before < 2 → IsClean (at rows p before false) (word ∷ rest) → Leaves done p before false (word ∷ rest) (at rows p before false)
  sound-placed is rests few clean =
      let turns = idle-turn rows before few word is p (rests-idle p rests) in
      let behind = clean-next (at rows p before false) (at (settled_at p rows) (has (place before) word) (suc before) false) word rest (fault_at p rows) turns clean in
      found-placed rows done same p before false word rest behind.0 turns (λ uses gives. plain_word before word rest uses few is gives)
      (sound (settled_at p rows) (done ++ last_use p) (settled-rows rows done same p behind.0) (has (place before) word) (suc before) false behind.1)

  sound-ends : word ≡ options_end → IsClean (at rows p before false) (word ∷ rest) → Leaves done p before false (word ∷ rest) (at rows p before false)
  sound-ends is clean =
      let turns : Turns (at rows p before false) word [] (at rows p before true) =
      subst (λ (some : Text). Turns (at rows p before false) some [] (at rows p before true)) (sym is) (end-turn rows p before) in
      let behind = clean-next (at rows p before false) (at rows p before true) word rest [] turns clean in
      ended-found word rest rows done p before is turns (sound rows done same p before true behind.1)

  sound-names : (setting : Setting) → word ≡ setting_word setting → IsClean (at rows p before false) (word ∷ rest) → Leaves done p before false (word ∷ rest) (at rows p before false)
  sound-names setting is clean =
      let turns : Turns (at rows p before false) word (fault_at p rows) (at (settled_at p rows) (waits setting) before false) =
      subst (λ (some : Text). Turns (at rows p before false) some (fault_at p rows) (at (settled_at p rows) (waits setting) before false)) (sym is) (name-turn rows p before setting) in
      let behind = clean-next (at rows p before false) (at (settled_at p rows) (waits setting) before false) word rest (fault_at p rows) turns clean in
      let found = sound (settled_at p rows) (done ++ last_use p) (settled-rows rows done same p behind.0) (waits setting) before false behind.1 in
      let gives : Uses before false (word ∷ rest) ((Of setting, found.0) ∷ found.2) =
      subst (λ (some : Text). Uses before false (some ∷ rest) ((Of setting, found.0) ∷ found.2)) (sym is)
      (subst (λ (some : List Text). Uses before false (setting_word setting ∷ some) ((Of setting, found.0) ∷ found.2)) (sym found.3)
      (in_two_words before setting found.0 found.1 found.2 found.5 found.6)) in
      found-none rows done p before false (word ∷ rest) (at rows p before false) behind.0
      (behind-use rows done same p before false behind.0 (word ∷ rest) rest ((Of setting, found.0) ∷ found.2) (at rows p before false) (at (settled_at p rows) (waits setting) before false)
      (ap (λ (some : Walk). end_of some rest) turns.walk) gives found.7 found.8)

  sound-assigns : (setting : Setting) (text : Text) → word ≡ assigned setting text → IsClean (at rows p before false) (word ∷ rest) → Leaves done p before false (word ∷ rest) (at rows p before false)
  sound-assigns setting text is clean =
      let kinds = assigned_fault setting text p rows in
      let to : Walk = at (used (rule_for (Of setting)) (text ∷ []) (settled_at p rows)) nothing before false in
      let turns : Turns (at rows p before false) word kinds to = subst (λ (some : Text). Turns (at rows p before false) some kinds to) (sym is) (assigned-turn rows p before text setting) in
      let behind = clean-next (at rows p before false) to word rest kinds turns clean in
      let none = no_kinds (fault_at p rows) (use_fault false (rule_for (Of setting)) (text ∷ []) (settled_at p rows)) behind.0 in
      let settled = settled-rows rows done same p none.0 in
      let fresh : has_row (name_of (Of setting)) (settled_at p rows) ≡ false = fresh-use_fault (Of setting) text (settled_at p rows) none.1 in
      let found =
      sound (used (rule_for (Of setting)) (text ∷ []) (settled_at p rows)) ((done ++ last_use p) ++ (Of setting, text) ∷ [])
      (more_rows (settled_at p rows) (done ++ last_use p) settled (Of setting) text fresh) nothing before false behind.1 in
      found-none rows done p before false (word ∷ rest) (at rows p before false) none.0
      (behind-use rows done same p before false none.0 (word ∷ rest) rest ((Of setting, text) ∷ found.0) (at rows p before false) to (ap (λ (some : Walk). end_of some rest) turns.walk)
      (subst (λ (some : Text). Uses before false (some ∷ rest) ((Of setting, text) ∷ found.0)) (sym is) (in_one_word before setting text rest found.0 found.1))
      (no_text (settled_at p rows) (done ++ last_use p) settled (Of setting) fresh, found.2)
      (found.3 ∙ ap (λ (some : List Use). rows_for some) (append_assoc (done ++ last_use p) ((Of setting, text) ∷ []) found.0)))

module _ (word : Text) (rest : List Text) (sound : Sound rest) (rows : List Row) (done : List Use) (same : rows ≡ rows_for done) where
  sound-plain : (p : Pending) (before : ℕ) → is_option word ≡ false → Rests p → IsClean (at rows p before false) (word ∷ rest) → Leaves done p before false (word ∷ rest) (at rows p before false)
  sound-plain p zero is rests clean = sound-placed word rest sound rows done same p 0 is rests (omega arith) clean
  sound-plain p (suc zero) is rests clean = sound-placed word rest sound rows done same p 1 is rests (omega arith) clean
  sound-plain p (suc (suc before)) is rests clean = absurd (third-plain rows p before word is (rests-idle p rests) (clean-turn (at rows p (suc (suc before)) false) word rest clean))

  sound-text : (setting : Setting) (before : ℕ) → is_option word ≡ false → IsClean (at rows (waits setting) before false) (word ∷ rest)
      → Leaves done (waits setting) before false (word ∷ rest) (at rows (waits setting) before false)
  sound-text setting before is clean =
      let turns = text-turn rows setting before word is in
      let behind = clean-next (at rows (waits setting) before false) (at rows (has (Of setting) word) before false) word rest [] turns clean in
      let found = sound rows done same (has (Of setting) word) before false behind.1 in
      (word, rest, found.0, refl, refl, is, found.1, found.2, ap (λ (some : Walk). last_rows (end_of some rest)) turns.walk ∙ found.3)

  sound-form : (p : Pending) (before : ℕ) → Form word → IsClean (at rows p before false) (word ∷ rest) → Leaves done p before false (word ∷ rest) (at rows p before false)
  sound-form (waits setting) before (plain is) clean = sound-text setting before is clean
  sound-form nothing before (plain is) clean = sound-plain nothing before is tt clean
  sound-form (has slot text) before (plain is) clean = sound-plain (has slot text) before is tt clean
  sound-form p before (ends is) clean = sound-ends word rest sound rows done same p before is clean
  sound-form p before (names setting is) clean = sound-names word rest sound rows done same p before setting is clean
  sound-form p before (assigns setting text is) clean = sound-assigns word rest sound rows done same p before setting text is clean
  sound-form p before (strange absent) clean = absurd (absent rows p before (clean-turn (at rows p before false) word rest clean))

  sound-ended : (p : Pending) (before : ℕ) → IsClean (at rows p before true) (word ∷ rest) → Leaves done p before true (word ∷ rest) (at rows p before true)
  sound-ended p zero clean = sound-any word rest sound rows done same p 0 (omega arith) clean
  sound-ended p (suc zero) clean = sound-any word rest sound rows done same p 1 (omega arith) clean
  sound-ended p (suc (suc before)) clean = absurd (third-any rows p before word (clean-turn (at rows p (suc (suc before)) true) word rest clean))

sound : (words : List Text) → AllUtf8 words → Sound words
sound [] utf8 rows done same p before ended clean =
    let none : fault_at p rows ≡ [] = sym (settle_fault-is p rows) ∙ clean.last in
    found-none rows done p before ended [] (at rows p before ended) none
    (behind-use rows done same p before ended none [] [] [] (at rows p before ended) (at rows p before ended) refl (no_word before ended) tt
    (settled_rows-is p rows ∙ settled-rows rows done same p none ∙ ap (λ (some : List Use). rows_for some) (sym (append-nil (done ++ last_use p)))))
sound (word ∷ rest) utf8 rows done same p before true clean = sound-ended word rest (sound rest utf8.1) rows done same p before clean
sound (word ∷ rest) utf8 rows done same p before false clean = sound-form word rest (sound rest utf8.1) rows done same p before (form word utf8.0) clean

-- ---- words that give something have no fault

record IsWhole (w : Walk) (words : List Text) (uses : List Use) : Type 0 where
  clean : IsClean w words
  stopped : (end_of w words).stopped ≡ None
  found : last_rows (end_of w words) ≡ rows_for uses

whole-back : (w v : Walk) (word : Text) (rest : List Text) (kinds : Kinds) (uses uses' : List Use) → Turns w word kinds v → kinds ≡ [] → uses ≡ uses' → IsWhole v rest uses → IsWhole w (word ∷ rest) uses'
whole-back w v word rest kinds uses uses' turns none same whole = record {
  clean = clean-back w v word rest kinds turns none whole.clean;
  stopped = ap (λ (some : Walk). (end_of some rest).stopped) turns.walk ∙ whole.stopped;
  found = ap (λ (some : Walk). last_rows (end_of some rest)) turns.walk ∙ whole.found ∙ ap (λ (some : List Use). rows_for some) same;
}

complete : (before : ℕ) (ended : Bool) (words : List Text) (uses : List Use) → Uses before ended words uses → (rows : List Row) (done : List Use) → rows ≡ rows_for done → (p : Pending) → Rests p
    → AreFresh done (last_use p ++ uses) → IsWhole (at rows p before ended) words (done ++ (last_use p ++ uses))
unfolding walk_fault
complete _ _ _ _ (no_word before ended) rows done same p rests fresh =
    let none = fresh-fault rows done same p [] rests fresh in
    record {
      clean = record { walk = refl; last = settle_fault-is p rows ∙ none };
      stopped = refl;
      found = settled_rows-is p rows ∙ settled-rows rows done same p none ∙ ap (λ (some : List Use). rows_for (done ++ some)) (sym (append-nil (last_use p)));
    }
complete _ _ _ _ (plain_word before word words uses few is gives) rows done same p rests fresh =
    let one : Use = (place before, word) in
    let none = fresh-fault rows done same p (one ∷ uses) rests fresh in
    whole-back (at rows p before false) (at (settled_at p rows) (has (place before) word) (suc before) false) word words (fault_at p rows) ((done ++ last_use p) ++ one ∷ uses) (done ++ (last_use p ++ one ∷ uses))
    (idle-turn rows before few word is p (rests-idle p rests)) none (append_assoc done (last_use p) (one ∷ uses))
    (complete (suc before) false words uses gives (settled_at p rows) (done ++ last_use p) (settled-rows rows done same p none) (has (place before) word) tt
    (fresh-behind rows done same p (one ∷ uses) rests fresh))
complete _ _ _ _ (any_word before word words uses few gives) rows done same p rests fresh =
    let one : Use = (place before, word) in
    let none = fresh-fault rows done same p (one ∷ uses) rests fresh in
    whole-back (at rows p before true) (at (settled_at p rows) (has (place before) word) (suc before) true) word words (fault_at p rows) ((done ++ last_use p) ++ one ∷ uses) (done ++ (last_use p ++ one ∷ uses))
    (any-turn rows before few word p) none (append_assoc done (last_use p) (one ∷ uses))
    (complete (suc before) true words uses gives (settled_at p rows) (done ++ last_use p) (settled-rows rows done same p none) (has (place before) word) tt
    (fresh-behind rows done same p (one ∷ uses) rests fresh))
complete _ _ _ _ (ends_options before words uses gives) rows done same p rests fresh =
    whole-back (at rows p before false) (at rows p before true) options_end words [] (done ++ (last_use p ++ uses)) (done ++ (last_use p ++ uses)) (end-turn rows p before) refl refl
    (complete before true words uses gives rows done same p rests fresh)
complete _ _ _ _ (in_two_words before setting text words uses is gives) rows done same p rests fresh =
    let one : Use = (Of setting, text) in
    let none = fresh-fault rows done same p (one ∷ uses) rests fresh in
    let all = (done ++ last_use p) ++ one ∷ uses in
    whole-back (at rows p before false) (at (settled_at p rows) (waits setting) before false) (setting_word setting) (text ∷ words) (fault_at p rows) all (done ++ (last_use p ++ one ∷ uses))
    (name-turn rows p before setting) none (append_assoc done (last_use p) (one ∷ uses))
    (whole-back (at (settled_at p rows) (waits setting) before false) (at (settled_at p rows) (has (Of setting) text) before false) text words [] all all
    (text-turn (settled_at p rows) setting before text is) refl refl
    (complete before false words uses gives (settled_at p rows) (done ++ last_use p) (settled-rows rows done same p none) (has (Of setting) text) tt
    (fresh-behind rows done same p (one ∷ uses) rests fresh)))
complete _ _ _ _ (in_one_word before setting text words uses gives) rows done same p rests fresh =
    let one : Use = (Of setting, text) in
    let none = fresh-fault rows done same p (one ∷ uses) rests fresh in
    let behind = fresh-behind rows done same p (one ∷ uses) rests fresh in
    let settled = settled-rows rows done same p none in
    let free = no_row (settled_at p rows) (done ++ last_use p) settled (Of setting) behind.0 in
    let clean : assigned_fault setting text p rows ≡ [] = λ i. or_else (none i) (use_fault-fresh (Of setting) text (settled_at p rows) free i) in
    whole-back (at rows p before false) (at (used (rule_for (Of setting)) (text ∷ []) (settled_at p rows)) nothing before false) (assigned setting text) words (assigned_fault setting text p rows)
    (((done ++ last_use p) ++ one ∷ []) ++ uses) (done ++ (last_use p ++ one ∷ uses)) (assigned-turn rows p before text setting) clean
    (append_assoc (done ++ last_use p) (one ∷ []) uses ∙ append_assoc done (last_use p) (one ∷ uses))
    (complete before false words uses gives (used (rule_for (Of setting)) (text ∷ []) (settled_at p rows)) ((done ++ last_use p) ++ one ∷ [])
    (more_rows (settled_at p rows) (done ++ last_use p) settled (Of setting) text free) nothing tt behind.1)

-- ---- all words

abbrev start : Walk
start = at [] nothing 0 false

matches-last : (words : List Text) → matches_of asked_app words ≡ last_rows (end_of start words)
matches-last words = matches-built words ∙ defaults-none (last_rows (end_of start words))

-- what is tested behind the last word
abbrev end_checks : Option (Text × List Text) → Walk → Kinds
end_checks stop w =
    or_else (entered_fault app stop)
    (or_else (settle_fault rules false w.held) (or_else (defaults_fault (last_rows w) rules) (check_fault shape (fold with_default (last_rows w) rules) (is_some (entered app stop)))))

fault-parts : (words : List Text) → fault_of asked_app words ≡ or_else (walk_fault shape [] start words) (end_checks (end_of start words).stopped (end_of start words))
fault-parts words = fault-built words

pub given : (words : List Text) → All IsUtf8 words → fault_of asked_app words ≡ [] → (uses : List Use) × Uses 0 false words uses × AreFresh [] uses × (matches_of asked_app words ≡ rows_for uses)
given words utf8 none =
    let end = end_of start words in
    let tested = or_else (defaults_fault (last_rows end) rules) (check_fault shape (fold with_default (last_rows end) rules) (is_some (entered app end.stopped))) in
    let walked = no_kinds (walk_fault shape [] start words) (end_checks end.stopped end) (sym (fault-parts words) ∙ none) in
    let below = no_kinds (entered_fault app end.stopped) (or_else (settle_fault rules false end.held) tested) walked.1 in
    let last = no_kinds (settle_fault rules false end.held) tested below.1 in
    let found = sound words (all_utf8 words utf8) [] [] refl nothing 0 false (record { walk = walked.0; last = last.0 }) in
    (found.0, found.1, found.2, matches-last words ∙ found.3)

pub faultless : (words : List Text) (uses : List Use) → Uses 0 false words uses → AreFresh [] uses → (fault_of asked_app words ≡ []) × (matches_of asked_app words ≡ rows_for uses)
faultless words uses gives fresh =
    let whole = complete 0 false words uses gives [] [] refl nothing tt fresh in
    let end = end_of start words in
    let clean = whole.clean in (
      fault-parts words ∙ ap (λ (stop : Option (Text × List Text)). or_else (walk_fault shape [] start words) (end_checks stop end)) whole.stopped
          ∙ (λ i. or_else (clean.walk i) (or_else [] (or_else (clean.last i) (or_else (defaults-fault (last_rows end) i) [])))),
      matches-last words ∙ whole.found,
    )

-- ---- texts

abbrev pub lookups : List Row → Texts
lookups rows = record {
  first = first_of (codes "first") rows;
  second = first_of (codes "second") rows;
  workers = first_of (codes "workers") rows;
  steps = first_of (codes "steps") rows;
  most = first_of (codes "max") rows;
}

lookups-are : (uses : List Use) → lookups (rows_for uses) ≡ texts_in uses
lookups-are uses = λ i.
    record {
      first = first_of-is First uses i;
      second = first_of-is Second uses i;
      workers = first_of-is (Of Workers) uses i;
      steps = first_of-is (Of Steps) uses i;
      most = first_of-is (Of Max) uses i;
    }

-- the words give what is found in the matches, and nothing else
pub gives-only : (words : List Text) → All IsUtf8 words → fault_of asked_app words ≡ [] → (texts : Texts) → Gives words texts ↔ (texts ≡ lookups (matches_of asked_app words))
gives-only words utf8 none texts =
    let found = given words utf8 none in
    let same : lookups (matches_of asked_app words) ≡ texts_in found.0 = ap (λ (rows : List Row). lookups rows) found.3 ∙ lookups-are found.0 in (
      λ gives. gives.texts_are ∙ sym (lookups-are gives.uses) ∙ sym (ap (λ (rows : List Row). lookups rows) (faultless words gives.uses gives.spelled gives.once).1),
      λ is. record { uses = found.0; spelled = found.1; once = found.2; texts_are = is ∙ same },
    )

-- words with a fault give nothing
pub gives-none : (words : List Text) → (fault_of asked_app words ≡ [] → ⊥) → (texts : Texts) → Gives words texts → ⊥
gives-none words fault texts gives = fault (faultless words gives.uses gives.spelled gives.once).0

pub among-some : (k : ErrorKind) (kinds : Kinds) → IsAmong k kinds → kinds ≡ [] → ⊥
among-some k kinds among none = subst (λ (some : Kinds). IsAmong k some) none among

-- the texts that are looked up are those of the getters
pub texts-found : (f : Found) (rows : List Row) → rows_of f ≡ rows → (first second workers steps most : Option Text) → first ≡ first_value f (codes "first") → second ≡ first_value f (codes "second")
    → workers ≡ first_value f (codes "workers") → steps ≡ first_value f (codes "steps") → most ≡ first_value f (codes "max")
    → lookups rows ≡ record { first = first; second = second; workers = workers; steps = steps; most = most }
texts-found f rows same first second workers steps most a b c d e = λ i.
    record {
      first = sym (a ∙ looked (codes "first")) i;
      second = sym (b ∙ looked (codes "second")) i;
      workers = sym (c ∙ looked (codes "workers")) i;
      steps = sym (d ∙ looked (codes "steps")) i;
      most = sym (e ∙ looked (codes "max")) i;
    }
  where
    looked : (id : Text) → first_value f id ≡ first_of id rows
    looked id = first_value-rows f id ∙ ap (first_of id) same

-- the words give what the getters read, and nothing else
pub found-only : (words : List Text) → All IsUtf8 words → fault_of asked_app words ≡ [] → (f : Found) → rows_of f ≡ matches_of asked_app words → (parts : Parts)
    → text_behind parts.first ≡ first_value f (codes "first") → text_behind parts.second ≡ first_value f (codes "second") → text_behind parts.workers ≡ first_value f (codes "workers")
    → text_behind parts.steps ≡ first_value f (codes "steps") → text_behind parts.most ≡ first_value f (codes "max") → (texts : Texts) → Gives words texts ↔ (texts ≡ texts_of parts)
found-only words utf8 none f rows parts first second workers steps most texts =
    let only = gives-only words utf8 none texts in
    let same : lookups (matches_of asked_app words) ≡ texts_of parts =
    texts-found f (matches_of asked_app words) rows (text_behind parts.first) (text_behind parts.second) (text_behind parts.workers) (text_behind parts.steps) (text_behind parts.most) first second workers
    steps most in
    (λ gives. only.0 gives ∙ same, λ is. only.1 (is ∙ sym same))

-- words that are refused for another cause than memory give nothing
pub refused : (a : App) (words : List Text) (e : Error) → a ≡ asked_app → HasKind (fault_of a words) e → (kind_of e ≡ kind.OutOfMemory → ⊥) → (texts : Texts) → Gives words texts → ⊥
refused a words e is (inl memory) other texts gives = absurd (other memory)
refused a words e is (inr among) other texts gives = gives-none words (λ none. among-some (kind_of e) (fault_of a words) among (ap (λ (some : App). fault_of some words) is ∙ none)) texts gives
