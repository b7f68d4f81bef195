-- Places added.
use Rattle.std.proofs.Common.{◌≡◌, ℕ, zero, suc, ◌+◌, ◌<◌, ◌≤◌, ◌⊎◌, inl, inr, List, [], ◌∷◌, ◌++◌, length, take, drop, get_or, refl, sym, ap, subst, ◌∙◌, arith, Some, length-append, zero-add}
use Rattle.std.specs.Prelude.{slice_get}
use Rattle.std.proofs.lemmas.Bool.{cases_lt}
use Rattle.std.proofs.lemmas.List.{drop_at, drop_all, take_all, append-nil}
use Rattle.merc_tree.specs.Types.{TypeExpr}
use Rattle.merc_type_table.specs.Table.{type_at}
use Rattle.merc_type_graph.specs.declared.store.Store.{Store}
use Rattle.merc_type_graph.specs.Solutions.{Entry, WholeEntry, Applied, Agrees, SolvesFrom}
use Rattle.merc_type_graph.specs.Changes.{Adds, AllWithin}
use Rattle.merc_type_graph.specs.Cells.{entry_of, entries_of, needs_of, known_at, rank_at, root_mark, roots, blank, IsStored, IsSound}
use Rattle.merc_type_graph.specs.declared.cell.Known.{Known}
use Rattle.merc_type_graph.specs.declared.cell.Known.TheVariants.{Nothing, Whole, Named, SameAs}
use Rattle.merc_type_graph.specs.declared.cell.Cell.{Cell}
use Rattle.merc_type_graph.proofs.Entries.{solves_from-append, append-solves_from}

-- an entry at the end
pub adds_last : (old new : List Entry) (entry : Entry) → new ≡ old ++ entry ∷ [] → Adds old new entry
adds_last old new entry e types =
    let at : 0 + length old ≡ length old = zero-add (length old) in (
      (λ solves.
          let both = solves_from-append 0 old entry types (subst (λ (l : List Entry). SolvesFrom 0 types l) e solves) in
          (both.0, subst (λ (p : ℕ). Agrees types p entry) at both.1)),
      (λ both. subst (λ (l : List Entry). SolvesFrom 0 types l) (sym e)
          (append-solves_from 0 old entry types both.0 (subst (λ (p : ℕ). Agrees types p entry) (sym at) both.1))),
    )

pub count_last : (old new : List Entry) (entry : Entry) → new ≡ old ++ entry ∷ [] → length new ≡ length old + 1
count_last old new entry e = ap length e ∙ length-append old (entry ∷ [])

pub entries-append : (store : Store) (cells : List Cell) (cell : Cell)
    → entries_of store (cells ++ cell ∷ []) ≡ entries_of store cells ++ entry_of store cell.known ∷ []
entries-append store [] cell = refl
entries-append store (first ∷ rest) cell = ap (λ (l : List Entry). entry_of store first.known ∷ l) (entries-append store rest cell)

pub count_entries : (store : Store) (cells : List Cell) → length (entries_of store cells) ≡ length cells
count_entries store [] = refl
count_entries store (first ∷ rest) = ap suc (count_entries store rest)

-- a cell at the end
last_or_before : (cells : List Cell) (cell : Cell) (i : ℕ)
    → (get_or (cells ++ cell ∷ []) i blank ≡ get_or cells i blank) ⊎ ((i ≡ length cells) × (get_or (cells ++ cell ∷ []) i blank ≡ cell))
last_or_before [] cell zero = inr (refl, refl)
last_or_before [] cell (suc i) = inl refl
last_or_before (first ∷ rest) cell zero = inl refl
last_or_before (first ∷ rest) cell (suc i) =
    elim (last_or_before rest cell i) [ inl e ↦ inl e | inr w ↦ inr (ap suc w.0, w.1) ]

roots-append : (cells : List Cell) (cell : Cell) → roots (cells ++ cell ∷ []) ≡ roots cells + root_mark cell.known
roots-append [] cell = omega arith
roots-append (first ∷ rest) cell = let e = roots-append rest cell in omega arith

all_within : (count : ℕ) (places : List ℕ) → AllWithin count places → (number place : ℕ) → slice_get places number ≡ Some place → place < count
all_within count [] within number place e = absurd (cc)
all_within count (first ∷ rest) within zero place e = let same : first ≡ place = cc in subst (λ (p : ℕ). p < count) same within.0
all_within count (first ∷ rest) within (suc number) place e = all_within count rest within.1 number place e

no_link : (known : Known) (j : ℕ) → root_mark known ≡ 1 → known ≡ SameAs j → ⊥
no_link known j root e = let z : root_mark known ≡ 0 = ap root_mark e in absurd (omega arith)

rank_there : (cells : List Cell) (cell : Cell) (i : ℕ) → i < length cells → rank_at (cells ++ cell ∷ []) i ≡ rank_at cells i
rank_there [] cell i here = absurd (omega arith)
rank_there (first ∷ rest) cell zero here = refl
rank_there (first ∷ rest) cell (suc i) here = rank_there rest cell i (omega arith)

rank_past : (cells : List Cell) (i : ℕ) → length cells ≤ i → rank_at cells i ≡ 0
rank_past [] i past = refl
rank_past (first ∷ rest) zero past = absurd (omega arith)
rank_past (first ∷ rest) (suc i) past = rank_past rest i (omega arith)

mark_few : (known : Known) → root_mark known ≤ 1
mark_few Nothing = omega arith
mark_few (Whole whole) = omega arith
mark_few (Named name first count) = omega arith
mark_few (SameAs place) = omega arith

roots_few : (cells : List Cell) → roots cells ≤ length cells
roots_few [] = omega arith
roots_few (first ∷ rest) = let one = mark_few first.known in let few = roots_few rest in omega arith

pub sound-append : (store : Store) (cells after : List Cell) (known : Known) → IsSound store cells → IsStored store known → root_mark known ≡ 1
    → AllWithin (length cells) (needs_of (entry_of store known)) → after ≡ cells ++ record { known = known; rank = 0 } ∷ [] → IsSound store after
sound-append store cells after known sound stored root within is =
    let cell : Cell = record { known = known; rank = 0 } in
    let longer : length (cells ++ cell ∷ []) ≡ length cells + 1 = length-append cells (cell ∷ []) in
    let more : roots (cells ++ cell ∷ []) ≡ roots cells + root_mark known = roots-append cells cell in
    subst (IsSound store) (sym is) (record {
      forest = record {
        rising = λ i j link.
            elim (last_or_before cells cell i) [
              | inl e ↦
                  let old : known_at cells i ≡ SameAs j = sym (ap (λ (c : Cell). c.known) e) ∙ link in
                  let less = sound.forest.rising i j old in
                  let near = sound.forest.near i j old in
                  let r : rank_at (cells ++ cell ∷ []) i ≡ rank_at cells i = ap (λ (c : Cell). c.rank) e in
                  let s : rank_at (cells ++ cell ∷ []) j ≡ rank_at cells j = rank_there cells cell j near in
                  omega arith
              | inr w ↦ absurd (no_link known j root (sym (ap (λ (c : Cell). c.known) w.1) ∙ link))
            ];
        near = λ i j link.
            elim (last_or_before cells cell i) [
              | inl e ↦
                  let old : known_at cells i ≡ SameAs j = sym (ap (λ (c : Cell). c.known) e) ∙ link in
                  let near = sound.forest.near i j old in omega arith
              | inr w ↦ absurd (no_link known j root (sym (ap (λ (c : Cell). c.known) w.1) ∙ link))
            ];
        room = λ i here.
            elim (cases_lt i (length cells)) [
              | inl less ↦
                  let r : rank_at (cells ++ cell ∷ []) i ≡ rank_at cells i = rank_there cells cell i less in
                  let room = sound.forest.room i less in omega arith
              | inr past ↦
                  elim (last_or_before cells cell i) [
                    | inl e ↦
                        let r : rank_at (cells ++ cell ∷ []) i ≡ rank_at cells i = ap (λ (c : Cell). c.rank) e in
                        let z : rank_at cells i ≡ 0 = rank_past cells i past in
                        let few = roots_few cells in omega arith
                    | inr w ↦
                        let r : rank_at (cells ++ cell ∷ []) i ≡ 0 = ap (λ (c : Cell). c.rank) w.1 in
                        let few = roots_few cells in omega arith
                  ]
            ];
      };
      stored = λ i.
          elim (last_or_before cells cell i) [
            | inl e ↦ subst (λ (c : Cell). IsStored store c.known) (sym e) (sound.stored i)
            | inr w ↦ subst (λ (c : Cell). IsStored store c.known) (sym w.1) stored
          ];
      within = λ i number place need.
          elim (last_or_before cells cell i) [
            | inl e ↦
                let less = sound.within i number place (sym (ap (λ (c : Cell). slice_get (needs_of (entry_of store c.known)) number) e) ∙ need) in omega arith
            | inr w ↦
                let less = all_within (length cells) (needs_of (entry_of store known)) within number place
                (sym (ap (λ (c : Cell). slice_get (needs_of (entry_of store c.known)) number) w.1) ∙ need) in omega arith
          ];
    })

-- more arguments at the end change no entry
part-append : (arguments added : List ℕ) (first count : ℕ) → first + count ≤ length arguments
    → take count (drop first (arguments ++ added)) ≡ take count (drop first arguments)
part-append [] added zero zero within = refl
part-append [] added zero (suc count) within = absurd (omega arith)
part-append [] added (suc first) count within = absurd (omega arith)
part-append (x ∷ xs) added zero zero within = refl
part-append (x ∷ xs) added zero (suc count) within = ap (λ (l : List ℕ). x ∷ l) (part-append xs added zero count (omega arith))
part-append (x ∷ xs) added (suc first) count within = part-append xs added first count (omega arith)

-- a store with more arguments
pub record HasMore (old new : Store) (added : List ℕ) : Type 0 where
  pub table : new.table.now ≡ old.table.now
  pub arguments : new.arguments.items ≡ old.arguments.items ++ added

entry-more : (old new : Store) (added : List ℕ) (known : Known) → HasMore old new added → IsStored old known → entry_of new known ≡ entry_of old known
entry-more old new added Nothing more stored = refl
entry-more old new added (Whole whole) more stored = ap (λ (t : List TypeExpr). WholeEntry (type_at t whole)) more.table
entry-more old new added (Named name first count) more stored =
    ap (λ (l : List ℕ). Applied name (take count (drop first l))) more.arguments ∙ ap (Applied name) (part-append old.arguments.items added first count stored)
entry-more old new added (SameAs place) more stored = refl

entries_alike : (old new : Store) (added : List ℕ) (cells : List Cell) → HasMore old new added → ((i : ℕ) → IsStored old (known_at cells i))
    → entries_of new cells ≡ entries_of old cells
entries_alike old new added [] more stored = refl
entries_alike old new added (first ∷ rest) more stored =
    ap (λ (e : Entry). e ∷ entries_of new rest) (entry-more old new added first.known more (stored zero))
    ∙ ap (λ (l : List Entry). entry_of old first.known ∷ l) (entries_alike old new added rest more (λ i. stored (suc i)))

pub entries_same : (old new : Store) (added : List ℕ) (cells : List Cell) → IsSound old cells → HasMore old new added → entries_of new cells ≡ entries_of old cells
entries_same old new added cells sound more = entries_alike old new added cells more sound.stored

stored_more : (old new : Store) (added : List ℕ) (known : Known) → HasMore old new added → IsStored old known → IsStored new known
stored_more old new added Nothing more stored = tt
stored_more old new added (Whole whole) more stored = let e = ap length more.table in omega arith
stored_more old new added (Named name first number) more stored =
    let e = ap length more.arguments in omega (arith, length-append old.arguments.items added)
stored_more old new added (SameAs place) more stored = tt

pub sound_more : (old new : Store) (added : List ℕ) (cells : List Cell) → IsSound old cells → HasMore old new added → IsSound new cells
sound_more old new added cells sound more = record {
  forest = sound.forest;
  stored = λ i. stored_more old new added (known_at cells i) more (sound.stored i);
  within = λ i number place need.
      sound.within i number place
      (sym (ap (λ (entry : Entry). slice_get (needs_of entry) number) (entry-more old new added (known_at cells i) more (sound.stored i))) ∙ need);
}

-- the arguments that were added last
pub added_part : (arguments added after : List ℕ) → after ≡ arguments ++ added → take (length added) (drop (length arguments) after) ≡ added
added_part arguments added after e =
    ap (λ (l : List ℕ). take (length added) (drop (length arguments) l)) e
    ∙ ap (take (length added)) (drop_at arguments added (length arguments) refl) ∙ take_all (length added) added (omega arith)

pub adds_applied : (old new view : List Entry) (entry : Entry) → view ≡ old → new ≡ view ++ entry ∷ [] → Adds old new entry
adds_applied old new view entry same added = adds_last old new entry (added ∙ ap (λ (l : List Entry). l ++ entry ∷ []) same)

pub applied_last : (old new : Store) (added : List ℕ) (cells cells' : List Cell) (name first : ℕ) → IsSound old cells → HasMore old new added
    → first ≡ length old.arguments.items
    → entries_of new cells' ≡ entries_of new cells ++ Applied name (take (length added) (drop first new.arguments.items)) ∷ []
    → entries_of new cells' ≡ entries_of old cells ++ Applied name added ∷ []
applied_last old new added cells cells' name first sound more first_is last =
    let part : take (length added) (drop first new.arguments.items) ≡ added =
    ap (λ (n : ℕ). take (length added) (drop n new.arguments.items)) first_is ∙ added_part old.arguments.items added new.arguments.items more.arguments in
    last ∙ ap (λ (l : List ℕ). entries_of new cells ++ Applied name l ∷ []) part
    ∙ ap (λ (l : List Entry). l ++ Applied name added ∷ []) (entries_same old new added cells sound more)

-- cells that were lent and came back
pub sound_back : (store : Store) (back old : List Cell) (count : ℕ) → length back ≡ length old → count ≡ length old → IsSound store back
    → IsSound store (take count (back ++ drop (length back) old))
sound_back store back old count same count_is sound =
    let nothing : drop (length back) old ≡ [] = drop_all (length back) old (omega arith) in
    let whole : take count (back ++ drop (length back) old) ≡ back =
    ap (λ (l : List Cell). take count (back ++ l)) nothing ∙ ap (take count) (append-nil back) ∙ take_all count back (omega arith) in
    subst (IsSound store) (sym whole) sound
