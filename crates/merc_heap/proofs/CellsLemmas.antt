-- The cells of a heap, where it grows at its end and where it is cut.
use Rattle.std.proofs.Common.{◌≡◌, ℕ, zero, suc, ◌+◌, ◌-◌, ◌<◌, ◌≤◌, ◌⊎◌, inl, inr, List, [], ◌∷◌, ◌++◌, length, map, take, drop, Some, Result, Ok, Err, refl, sym, ap, subst, ◌∙◌, arith, slice_get, get_or, length-append, append_assoc, append-nil}
use Rattle.std.specs.List.{All, slice_range}
use Rattle.std.specs.Result.{OnErr}
use Rattle.std.proofs.lemmas.List.{length-map, length-take-le, drop-take, drop_all, length-drop}
use Rattle.merc_base.specs.Names.{nil_name}
use Rattle.merc_value.specs.Value.{Con}
use Rattle.merc_value.specs.Block.{CellData, AreLower, IsBelow, word_values, cell_values, value_of, no_value}
use Rattle.merc_value.specs.Sharing.{IsWordFor}
use Rattle.merc_value.specs.Writing.{arguments_of}
use Rattle.merc_value.specs.declared.word.Word.{Word}
use Rattle.merc_value.specs.declared.word.Word.TheVariants.{Atom as AtomWord, Cell as CellWord}
use Rattle.merc_value.proofs.Values.{All-first, All-rest, cell_value_at}
use Rattle.merc_value.proofs.BlockLaws.{raised, all_raised, value_of-with_cell, value_of-new_cell}
use Rattle.merc_heap.specs.Functors.{numbered, functor_numbered, inner_number, no_functor, Extends}
use Rattle.merc_heap.specs.Heap.{word_of, cell_of, cell_behind, cells_behind, cells_of, cell_ending, IsFlat, Keeps, symbol_of, arguments_in}
use Rattle.merc_heap.specs.Fields.{Field, field_with}
use Rattle.merc_heap.specs.declared.functors.Functor.{Functor}

length-behind : (fs : List Functor) (before slots : List Field) → length (cells_behind fs before slots) ≡ length slots
length-behind fs before [] = refl
length-behind fs before (slot ∷ slots) = ap suc (length-behind fs (before ++ slot ∷ []) slots)

pub length-cells_of : (fs : List Functor) (slots : List Field) → length (cells_of fs slots) ≡ length slots
unfolding cells_of
length-cells_of fs slots = length-behind fs [] slots

behind-append : (fs : List Functor) (before slots more : List Field) → cells_behind fs before (slots ++ more) ≡ cells_behind fs before slots ++ cells_behind fs (before ++ slots) more
behind-append fs before [] more = ap (λ (b : List Field). cells_behind fs b more) (sym (append-nil before))
behind-append fs before (slot ∷ slots) more =
    ap (λ (cs : List CellData). cell_behind fs before slot ∷ cs)
    (behind-append fs (before ++ slot ∷ []) slots more
    ∙ ap (λ (b : List Field). cells_behind fs (before ++ slot ∷ []) slots ++ cells_behind fs b more) (append_assoc before (slot ∷ []) slots))

pub cells_of-append : (fs : List Functor) (slots more : List Field) → cells_of fs (slots ++ more) ≡ cells_of fs slots ++ cells_behind fs slots more
unfolding cells_of
cells_of-append fs slots more = behind-append fs [] slots more

pub cells_of-last : (fs : List Functor) (slots : List Field) (slot : Field) → cells_of fs (slots ++ slot ∷ []) ≡ cells_of fs slots ++ cell_behind fs slots slot ∷ []
cells_of-last fs slots slot = cells_of-append fs slots (slot ∷ [])

take-behind : (fs : List Functor) (n : ℕ) (before slots : List Field) → cells_behind fs before (take n slots) ≡ take n (cells_behind fs before slots)
take-behind fs zero before [] = refl
take-behind fs zero before (slot ∷ slots) = refl
take-behind fs (suc n) before [] = refl
take-behind fs (suc n) before (slot ∷ slots) = ap (λ (cs : List CellData). cell_behind fs before slot ∷ cs) (take-behind fs n (before ++ slot ∷ []) slots)

pub cells_of-take : (fs : List Functor) (n : ℕ) (slots : List Field) → cells_of fs (take n slots) ≡ take n (cells_of fs slots)
unfolding cells_of
cells_of-take fs n slots = take-behind fs n [] slots

found_behind : (fs : List Functor) (before slots : List Field) (place : ℕ) (d : Field) → place < length slots
    → slice_get (cells_behind fs before slots) place ≡ Some (cell_behind fs (before ++ take place slots) (get_or slots place d))
found_behind fs before [] place d within = absurd (omega (arith, within))
found_behind fs before (slot ∷ slots) zero d within = ap (λ (b : List Field). Some (cell_behind fs b slot)) (sym (append-nil before))
found_behind fs before (slot ∷ slots) (suc place) d within =
    found_behind fs (before ++ slot ∷ []) slots place d (omega (arith, within))
    ∙ ap (λ (b : List Field). Some (cell_behind fs b (get_or slots place d))) (append_assoc before (slot ∷ []) (take place slots))

-- what is seen at a place is the cell that ends there
pub found_ending : (fs : List Functor) (slots : List Field) (place : ℕ) → place < length slots → slice_get (cells_of fs slots) place ≡ Some (cell_ending fs slots place)
unfolding cells_of
found_ending fs slots place within = found_behind fs [] slots place (field_with inner_number (AtomWord nil_name)) within

-- Words keep their values where cells are put behind the others ..
keeps_one : (cells : List CellData) (at : CellData) → Keeps (length cells) cells (cells ++ at ∷ [])
keeps_one cells at = record {
  below = λ word under. raised (length cells) _ (omega (arith, length-append cells (at ∷ []))) word under;
  same = λ word under. value_of-with_cell (record { cells = cells; roots = [] }) at.symbol at.arguments word under;
}

pub keeps_then : (place : ℕ) (old middle new : List CellData) → Keeps place old middle → Keeps (length middle) middle new → Keeps place old new
keeps_then place old middle new first second = record {
  below = λ word under. second.below word (first.below word under);
  same = λ word under. second.same word (first.below word under) ∙ first.same word under;
}

pub keeps_all : (cells : List CellData) → Keeps (length cells) cells cells
keeps_all cells = record { below = λ word under. under; same = λ word under. refl }

pub keeps_front : (cells more : List CellData) → Keeps (length cells) cells (cells ++ more)
keeps_front cells [] = subst (Keeps (length cells) cells) (sym (append-nil cells)) (keeps_all cells)
keeps_front cells (at ∷ more) =
    subst (Keeps (length cells) cells) (append_assoc cells (at ∷ []) more)
    (keeps_then (length cells) cells (cells ++ at ∷ []) ((cells ++ at ∷ []) ++ more) (keeps_one cells at) (keeps_front (cells ++ at ∷ []) more))

-- .. and where the last ones are taken away.
pub keeps_taken : (place : ℕ) (front rest cells : List CellData) → length front ≡ place → front ++ rest ≡ cells → Keeps place cells front
keeps_taken place front rest cells count whole = record {
  below = λ word under. subst (λ (n : ℕ). IsBelow n word) (sym count) under;
  same = λ word under.
      sym ((keeps_front front rest).same word (subst (λ (n : ℕ). IsBelow n word) (sym count) under))
      ∙ ap (λ (cs : List CellData). value_of cs word) whole;
}

pub values_kept : (place : ℕ) (old new : List CellData) → Keeps place old new → (words : List Word) → All (IsBelow place) words
    → word_values (cell_values new) words ≡ word_values (cell_values old) words
values_kept place old new keeps [] below = refl
values_kept place old new keeps (word ∷ words) below =
    let first = keeps.same word (All-first (IsBelow place) word words below) in
    let rest = values_kept place old new keeps words (All-rest (IsBelow place) word words below) in
    cc (first, rest)

-- A list with one member more.
last_found : {A : Type 0} (xs : List A) (last x : A) (place : ℕ) → slice_get (xs ++ last ∷ []) place ≡ Some x → (slice_get xs place ≡ Some x) ⊎ ((place ≡ length xs) × (last ≡ x))
last_found [] last x zero found = inr (refl, cc)
last_found [] last x (suc place) found = absurd (cc)
last_found (first ∷ xs) last x zero found = inl found
last_found (first ∷ xs) last x (suc place) found =
    elim (last_found xs last x place found) [ inl old ↦ inl old | inr new ↦ inr (ap suc new.0, new.1) ]

lower_last : (cells : List CellData) (last : CellData) → AreLower cells → All (IsBelow (length cells)) last.arguments → AreLower (cells ++ last ∷ [])
lower_last cells last lower below place at found =
    elim (last_found cells last at place found) [
      | inl old ↦ lower place at old
      | inr new ↦ subst (λ (a : CellData). All (IsBelow place) a.arguments) new.1 (subst (λ (n : ℕ). All (IsBelow n) last.arguments) (sym new.0) below)
    ]

-- The heap is flat where a slot is put behind it whose constructor is known, and whose cell's fields are there and lead to what is there.
flat_last : (fs : List Functor) (slots : List Field) (slot : Field) → IsFlat fs slots → slot.number < length (numbered fs) → (functor_numbered fs slot.number).arity ≤ length slots + 1
    → All (IsBelow (length slots)) (cell_behind fs slots slot).arguments → IsFlat fs (slots ++ slot ∷ [])
flat_last fs slots slot flat is_known few below = record {
  known = λ place other found. elim (last_found slots slot other place found) [
    | inl old ↦ flat.known place other old
    | inr new ↦ subst (λ (s : Field). s.number < length (numbered fs)) new.1 is_known
  ];
  room = λ place other found. elim (last_found slots slot other place found) [
    | inl old ↦ flat.room place other old
    | inr new ↦ subst (λ (s : Field). (functor_numbered fs s.number).arity ≤ place + 1) new.1 (subst (λ (n : ℕ). (functor_numbered fs slot.number).arity ≤ n + 1) (sym new.0) few)
  ];
  lower = subst AreLower (sym (cells_of-last fs slots slot))
      (lower_last (cells_of fs slots) (cell_behind fs slots slot) flat.lower
      (subst (λ (n : ℕ). All (IsBelow n) (cell_behind fs slots slot).arguments) (sym (length-cells_of fs slots)) below));
}

words_of_slots : (words : List Word) → map word_of (map (field_with inner_number) words) ≡ words
words_of_slots [] = refl
words_of_slots (word ∷ words) = ap (λ (ws : List Word). word ∷ ws) (words_of_slots words)

-- no cell ends with a field of this number
inner_cell : (fs : List Functor) (before : List Field) (word : Word) → (cell_behind fs before (field_with inner_number word)).arguments ≡ []
inner_cell fs before word =
    ap (map word_of) (drop_all (length (before ++ field_with inner_number word ∷ []) - 0) (before ++ field_with inner_number word ∷ []) (omega arith))

inner_arity : (fs : List Functor) → (functor_numbered fs inner_number).arity ≡ 0
inner_arity fs = refl

flat_fields : (fs : List Functor) (slots : List Field) (words : List Word) → IsFlat fs slots → IsFlat fs (slots ++ map (field_with inner_number) words)
flat_fields fs slots [] flat = subst (IsFlat fs) (sym (append-nil slots)) flat
flat_fields fs slots (word ∷ words) flat =
    subst (IsFlat fs) (append_assoc slots (field_with inner_number word ∷ []) (map (field_with inner_number) words))
    (flat_fields fs (slots ++ field_with inner_number word ∷ []) words
    (flat_last fs slots (field_with inner_number word) flat (omega arith) (omega (arith, inner_arity fs))
    (subst (All (IsBelow (length slots))) (sym (inner_cell fs slots word)) (λ k d within. absurd (omega (arith, within))))))

drop_front : {A : Type 0} (xs ys : List A) → drop (length xs) (xs ++ ys) ≡ ys
drop_front [] ys = refl
drop_front (x ∷ xs) ys = drop_front xs ys

take_front : {A : Type 0} (xs ys : List A) → take (length xs) (xs ++ ys) ≡ xs
take_front [] [] = refl
take_front [] (y ∷ ys) = refl
take_front (x ∷ xs) ys = ap (λ zs. x ∷ zs) (take_front xs ys)

map_last : (front : List Field) (slot : Field) → map word_of (front ++ slot ∷ []) ≡ map word_of front ++ word_of slot ∷ []
map_last [] slot = refl
map_last (first ∷ front) slot = ap (λ (ws : List Word). word_of first ∷ ws) (map_last front slot)

read_found : {A : Type 0} (xs : List A) (i : ℕ) (x d : A) → slice_get xs i ≡ Some x → get_or xs i d ≡ x
read_found [] i x d found = absurd (cc)
read_found (y ∷ xs) zero x d found = cc
read_found (y ∷ xs) (suc i) x d found = read_found xs i x d found

functor_found : (fs : List Functor) (number : ℕ) (functor : Functor) → slice_get (numbered fs) number ≡ Some functor → functor_numbered fs number ≡ functor
functor_found fs number functor found = read_found (numbered fs) number functor no_functor found

within_found : {A : Type 0} (xs : List A) (i : ℕ) (x : A) → slice_get xs i ≡ Some x → i < length xs
within_found [] i x found = absurd (cc)
within_found (y ∷ xs) zero x found = omega arith
within_found (y ∷ xs) (suc i) x found = omega (arith, within_found xs i x found)

abbrev cell_with : ℕ → List Word → CellData
cell_with symbol arguments = record { symbol = symbol; arguments = arguments }

abbrev functor_with : ℕ → ℕ → Functor
functor_with symbol arity = record { symbol = symbol; arity = arity }

-- A cell that is put behind the others: all fields but the last one, and then that one with the number of the constructor.
module _ (fs : List Functor) (slots : List Field) (symbol number : ℕ) (front : List Word) (last : Word) where
  abbrev arguments : List Word
  arguments = front ++ last ∷ []

  abbrev fields : List Field
  fields = slots ++ map (field_with inner_number) front

  abbrev pub built : List Field
  built = fields ++ field_with number last ∷ []

  abbrev functor : Functor
  functor = record { symbol = symbol; arity = length (front ++ last ∷ []) }

  length_fields : length fields ≡ length slots + length front
  length_fields = omega (arith, length-append slots (map (field_with inner_number) front), length-map front (field_with inner_number))

  length_built : length built ≡ length slots + length arguments
  length_built = omega (arith, length_fields, length-append fields (field_with number last ∷ []), length-append front (last ∷ []))

  built_words : map word_of (drop (length slots) built) ≡ arguments
  built_words =
      ap (λ (ss : List Field). map word_of (drop (length slots) ss)) (append_assoc slots (map (field_with inner_number) front) (field_with number last ∷ []))
      ∙ ap (map word_of) (drop_front slots (map (field_with inner_number) front ++ field_with number last ∷ []))
      ∙ map_last (map (field_with inner_number) front) (field_with number last)
      ∙ ap (λ (ws : List Word). ws ++ word_of (field_with number last) ∷ []) (words_of_slots front)

  module _ (known : slice_get (numbered fs) number ≡ Some functor) where
    functor_last : functor_numbered fs (number) ≡ functor
    functor_last = functor_found fs number functor known

    fields_behind : cell_behind fs fields (field_with number last) ≡ record { symbol = symbol; arguments = arguments }
    fields_behind =
        let count : length built - length arguments ≡ length slots = omega (arith, length_built) in
        ap (λ (f : Functor). cell_of f built) functor_last
        ∙ ap (λ (n : ℕ). cell_with symbol (map word_of (drop n built))) count
        ∙ ap (cell_with symbol) built_words

    cells_built : cells_of fs built ≡ cells_of fs fields ++ record { symbol = symbol; arguments = arguments } ∷ []
    cells_built = cells_of-last fs fields (field_with number last) ∙ ap (λ (at : CellData). cells_of fs fields ++ at ∷ []) fields_behind

    pub flat_built : IsFlat fs slots → All (IsBelow (length (cells_of fs slots))) arguments → IsFlat fs built
    flat_built flat below =
        flat_last fs fields (field_with number last) (flat_fields fs slots front flat)
        (omega (arith, within_found (numbered fs) number functor known))
        (omega (arith, ap (λ (f : Functor). f.arity) functor_last, length_fields, length-append front (last ∷ [])))
        (subst (λ (at : CellData). All (IsBelow (length fields)) at.arguments) (sym fields_behind)
        (all_raised (length (cells_of fs slots)) (length fields) (omega (arith, length_fields, length-cells_of fs slots)) arguments below))

    keeps_fields : Keeps (length (cells_of fs slots)) (cells_of fs slots) (cells_of fs fields)
    keeps_fields = subst (Keeps (length (cells_of fs slots)) (cells_of fs slots)) (sym (cells_of-append fs slots (map (field_with inner_number) front))) (keeps_front (cells_of fs slots) (cells_behind fs slots (map (field_with inner_number) front)))

    pub word_built : All (IsBelow (length (cells_of fs slots))) arguments → (place : ℕ) → place ≡ length slots + length front
        → IsWordFor (cells_of fs built) (Con symbol (word_values (cell_values (cells_of fs slots)) arguments)) (CellWord place)
    word_built below place is =
        let here : length (cells_of fs fields) ≡ place = length-cells_of fs fields ∙ length_fields ∙ sym is in
        record {
          below = omega (arith, here, ap length cells_built, length-append (cells_of fs fields) (record { symbol = symbol; arguments = arguments } ∷ []));
          same = ap (λ (cs : List CellData). value_of cs (CellWord place)) cells_built
              ∙ ap (λ (n : ℕ). value_of (cells_of fs fields ++ record { symbol = symbol; arguments = arguments } ∷ []) (CellWord n)) (sym here)
              ∙ value_of-new_cell (record { cells = cells_of fs fields; roots = [] }) symbol arguments
              ∙ ap (Con symbol) (values_kept (length (cells_of fs slots)) (cells_of fs slots) (cells_of fs fields) keeps_fields arguments below);
        }

  cells_more : cells_of fs built ≡ cells_of fs slots ++ cells_behind fs slots (map (field_with inner_number) front ++ field_with number last ∷ [])
  cells_more =
      ap (cells_of fs) (append_assoc slots (map (field_with inner_number) front) (field_with number last ∷ []))
      ∙ cells_of-append fs slots (map (field_with inner_number) front ++ field_with number last ∷ [])

  pub keeps_built : Keeps (length (cells_of fs slots)) (cells_of fs slots) (cells_of fs built)
  keeps_built = subst (Keeps (length (cells_of fs slots)) (cells_of fs slots)) (sym cells_more)
      (keeps_front (cells_of fs slots) (cells_behind fs slots (map (field_with inner_number) front ++ field_with number last ∷ [])))

  pub front_built : take (length (cells_of fs slots)) (cells_of fs built) ≡ cells_of fs slots
  front_built = ap (take (length (cells_of fs slots))) cells_more ∙ take_front (cells_of fs slots) _

-- Where there are more functors, the cells are the ones that they were.
front_found : (fs more : List Functor) (number : ℕ) → number < length fs → get_or (fs ++ more) number no_functor ≡ get_or fs number no_functor
front_found [] more number within = absurd (omega (arith, within))
front_found (f ∷ fs) more zero within = refl
front_found (f ∷ fs) more (suc number) within = front_found fs more number (omega (arith, within))

behind_more : (fs more : List Functor) (before slots : List Field) → ((place : ℕ) (slot : Field) → slice_get slots place ≡ Some slot → slot.number < length (numbered fs))
    → cells_behind (fs ++ more) before slots ≡ cells_behind fs before slots
behind_more fs more before [] known = refl
behind_more fs more before (slot ∷ slots) known =
    let first = ap (λ (f : Functor). cell_of f (before ++ slot ∷ [])) (front_found (numbered fs) more slot.number (known 0 slot refl)) in
    let rest = behind_more fs more (before ++ slot ∷ []) slots (λ place other found. known (suc place) other found) in
    cc (first, rest)

pub cells_more_functors : (fs gs : List Functor) (slots : List Field) → Extends fs gs → IsFlat fs slots → cells_of gs slots ≡ cells_of fs slots
unfolding cells_of
cells_more_functors fs gs slots extends flat =
    ap (λ (hs : List Functor). cells_behind hs [] slots) extends.grown ∙ behind_more fs extends.more [] slots flat.known

pub flat_more_functors : (fs gs : List Functor) (slots : List Field) → Extends fs gs → IsFlat fs slots → IsFlat gs slots
flat_more_functors fs gs slots extends flat =
    subst (λ (hs : List Functor). IsFlat hs slots) (sym extends.grown) (record {
      known = λ place slot found. omega (arith, flat.known place slot found, length-append fs extends.more);
      room = λ place slot found. subst (λ (f : Functor). f.arity ≤ place + 1) (sym (front_found (numbered fs) extends.more slot.number (flat.known place slot found))) (flat.room place slot found);
      lower = subst AreLower (sym (ap (λ (hs : List Functor). cells_of hs slots) (sym extends.grown) ∙ cells_more_functors fs gs slots extends flat)) flat.lower;
    })

-- the heap is flat where it is cut

taken_found : {A : Type 0} (n : ℕ) (xs : List A) (place : ℕ) (x : A) → slice_get (take n xs) place ≡ Some x → slice_get xs place ≡ Some x
taken_found zero [] place x found = absurd (cc)
taken_found zero (first ∷ xs) place x found = absurd (cc)
taken_found (suc n) [] place x found = absurd (cc)
taken_found (suc n) (first ∷ xs) zero x found = found
taken_found (suc n) (first ∷ xs) (suc place) x found = taken_found n xs place x found

pub flat_taken : (fs : List Functor) (n : ℕ) (slots : List Field) → IsFlat fs slots → IsFlat fs (take n slots)
flat_taken fs n slots flat = record {
  known = λ place slot found. flat.known place slot (taken_found n slots place slot found);
  room = λ place slot found. flat.room place slot (taken_found n slots place slot found);
  lower = subst AreLower (sym (cells_of-take fs n slots)) (λ place at found. flat.lower place at (taken_found n (cells_of fs slots) place at found));
}

pub flat_nothing : (fs : List Functor) → IsFlat fs []
unfolding cells_of
flat_nothing fs = record {
  known = λ place slot found. absurd (cc);
  room = λ place slot found. absurd (cc);
  lower = λ place at found. absurd (cc);
}

-- the value of a word that leads to a cell
pub value_ending : (fs : List Functor) (slots : List Field) (place : ℕ) → IsFlat fs slots → place < length slots
    → value_of (cells_of fs slots) (CellWord place) ≡ Con (cell_ending fs slots place).symbol (word_values (cell_values (cells_of fs slots)) (cell_ending fs slots place).arguments)
value_ending fs slots place flat within =
    let found = found_ending fs slots place within in
    cell_value_at (cells_of fs slots) place (cell_ending fs slots place) no_value found (flat.lower place (cell_ending fs slots place) found)

range_is : {A : Type 0} (xs : List A) (from to : ℕ) → from ≤ to → drop from (take to xs) ≡ slice_range xs from to
range_is xs from to under =
    let whole : to ≡ from + (to - from) = omega (arith, under) in
    ap (λ n. drop from (take n xs)) whole ∙ drop-take from (to - from) xs

take_next : {A : Type 0} (xs : List A) (place : ℕ) (d : A) → place < length xs → take place xs ++ get_or xs place d ∷ [] ≡ take (suc place) xs
take_next [] place d within = absurd (omega (arith, within))
take_next (x ∷ xs) zero d within = refl
take_next (x ∷ xs) (suc place) d within = ap (λ ys. x ∷ ys) (take_next xs place d (omega (arith, within)))

found_at : {A : Type 0} (xs : List A) (place : ℕ) (d : A) → place < length xs → slice_get xs place ≡ Some (get_or xs place d)
found_at [] place d within = absurd (omega (arith, within))
found_at (x ∷ xs) zero d within = refl
found_at (x ∷ xs) (suc place) d within = found_at xs place d (omega (arith, within))

-- the fields of a cell are the last ones up to its place
module _ (fs : List Functor) (slots : List Field) (place arity : ℕ) (flat : IsFlat fs slots) (within : place < length slots) (count : arity ≡ length (cell_ending fs slots place).arguments) where
  abbrev last : Field
  last = get_or slots place (field_with inner_number (AtomWord nil_name))

  abbrev functor_there : Functor
  functor_there = functor_numbered fs last.number

  room_there : functor_there.arity ≤ place + 1
  room_there = flat.room place last (found_at slots place (field_with inner_number (AtomWord nil_name)) within)

  up_to : take place slots ++ last ∷ [] ≡ take (place + 1) slots
  up_to = let next : suc place ≡ place + 1 = omega arith in take_next slots place (field_with inner_number (AtomWord nil_name)) within ∙ ap (λ (n : ℕ). take n slots) next

  count_up_to : length (take (place + 1) slots) ≡ place + 1
  count_up_to = length-take-le (place + 1) slots (omega (arith, within))

  fields_there : (cell_ending fs slots place).arguments ≡ map word_of (drop (place + 1 - functor_there.arity) (take (place + 1) slots))
  fields_there =
      ap (λ (ss : List Field). (cell_of functor_there ss).arguments) up_to
      ∙ ap (λ (n : ℕ). map word_of (drop (n - functor_there.arity) (take (place + 1) slots))) count_up_to

  arity_there : arity ≡ functor_there.arity
  arity_there = omega (arith, count, ap length fields_there, room_there, count_up_to, length-map (drop (place + 1 - functor_there.arity) (take (place + 1) slots)) word_of, length-drop (place + 1 - functor_there.arity) (take (place + 1) slots))

  pub arity_within : arity ≤ place + 1
  arity_within = omega (arith, arity_there, room_there)

  pub fields_ending : map word_of (slice_range slots (place + 1 - arity) (place + 1)) ≡ (cell_ending fs slots place).arguments
  fields_ending =
      ap (map word_of) (sym (range_is slots (place + 1 - arity) (place + 1) (omega arith)))
      ∙ ap (λ (n : ℕ). map word_of (drop (place + 1 - n) (take (place + 1) slots))) arity_there
      ∙ sym fields_there

-- the cell that ends at a place, as it is seen from outside
module _ (fs : List Functor) (slots read : List Field) (cells : List CellData) (place : ℕ) (flat : IsFlat fs slots) (seen : cells_of fs slots ≡ cells) (is : read ≡ slots) (within : place < length cells) where
  inside : place < length slots
  inside = omega (arith, within, length-cells_of fs slots, ap length seen)

  pub read_within : place < length read
  read_within = omega (arith, inside, ap length is)

  pub symbol_read : symbol_of (value_of cells (CellWord place)) ≡ Some (cell_ending fs read place).symbol
  symbol_read =
      sym (ap (λ (cs : List CellData). symbol_of (value_of cs (CellWord place))) seen)
      ∙ ap symbol_of (value_ending fs slots place flat inside)
      ∙ ap (λ (ss : List Field). Some (cell_ending fs ss place).symbol) (sym is)

  pub arguments_read : arguments_in cells (CellWord place) ≡ (cell_ending fs read place).arguments
  arguments_read =
      sym (ap (λ (cs : List CellData). arguments_in cs (CellWord place)) seen)
      ∙ ap arguments_of (found_ending fs slots place inside)
      ∙ ap (λ (ss : List Field). (cell_ending fs ss place).arguments) (sym is)

-- a cell that was put behind the others, as it is seen from outside
module _ (fs gs : List Functor) (slots new : List Field) (cells : List CellData) (symbol number : ℕ) (arguments front : List Word) (last : Word)
    (flat : IsFlat fs slots) (seen : cells_of fs slots ≡ cells) (extends : Extends fs gs)
    (known : slice_get (numbered gs) number ≡ Some (record { symbol = symbol; arity = length arguments })) (parts : arguments ≡ front ++ last ∷ [])
    (put : new ≡ (slots ++ map (field_with inner_number) front) ++ field_with number last ∷ []) (below : All (IsBelow (length cells)) arguments) where
  seen_more : cells_of gs slots ≡ cells
  seen_more = cells_more_functors fs gs slots extends flat ∙ seen

  known_parts : slice_get (numbered gs) number ≡ Some (record { symbol = symbol; arity = length (front ++ last ∷ []) })
  known_parts = known ∙ ap (λ (ws : List Word). Some (functor_with symbol (length ws))) parts

  below_parts : All (IsBelow (length (cells_of gs slots))) (front ++ last ∷ [])
  below_parts = subst (λ (cs : List CellData). All (IsBelow (length cs)) (front ++ last ∷ [])) (sym seen_more) (subst (All (IsBelow (length cells))) parts below)

  pub flat_put : IsFlat gs new
  flat_put = subst (IsFlat gs) (sym put) (flat_built gs slots symbol number front last known_parts (flat_more_functors fs gs slots extends flat) below_parts)

  pub word_put : (place : ℕ) → place ≡ length slots + length front → IsWordFor (cells_of gs new) (Con symbol (word_values (cell_values cells) arguments)) (CellWord place)
  word_put place is =
      subst (λ (ss : List Field). IsWordFor (cells_of gs ss) (Con symbol (word_values (cell_values cells) arguments)) (CellWord place)) (sym put)
      (subst (λ (ws : List Word). IsWordFor (cells_of gs (built gs slots symbol number front last)) (Con symbol (word_values (cell_values cells) ws)) (CellWord place)) (sym parts)
      (subst (λ (cs : List CellData). IsWordFor (cells_of gs (built gs slots symbol number front last)) (Con symbol (word_values (cell_values cs) (front ++ last ∷ []))) (CellWord place)) seen_more
      (word_built gs slots symbol number front last known_parts below_parts place is)))

  pub kept_put : Keeps (length cells) cells (cells_of gs new)
  kept_put =
      subst (λ (ss : List Field). Keeps (length cells) cells (cells_of gs ss)) (sym put)
      (subst (λ (cs : List CellData). Keeps (length cs) cs (cells_of gs (built gs slots symbol number front last))) seen_more (keeps_built gs slots symbol number front last))

  pub front_put : take (length cells) (cells_of gs new) ≡ cells
  front_put =
      subst (λ (ss : List Field). take (length cells) (cells_of gs ss) ≡ cells) (sym put)
      (subst (λ (cs : List CellData). take (length cs) (cells_of gs (built gs slots symbol number front last)) ≡ cs) seen_more (front_built gs slots symbol number front last))

-- what holds behind a refusal
pub on_err : {T E P : Type 0} (result : Result T E) → P → OnErr result P
on_err (Ok value) holds = tt
on_err (Err fault) holds = holds
