-- The entries of one goal among those of several.
use Rattle.std.proofs.Common.{◌≡◌, ℕ, suc, zero, ◌+◌, ◌-◌, ◌<◌, ◌≤◌, List, [], ◌∷◌, ◌++◌, length, take, drop, get_or, Some, refl, ap, sym, ◌∙◌, arith}
use Rattle.std.specs.List.{slice_get, slice_range}
use Rattle.std.proofs.Math.Seq.{take-append_seam, drop-append_seam, get_or-append_seam}
use Rattle.std.proofs.lemmas.List.{length-append, append_assoc, append-nil}
use Rattle.merc_graded_tree.specs.declared.entries.Entry.{Entry}
use Rattle.merc_graded_tree.specs.Nodes.{Node}
use Rattle.merc_graded_tree.specs.Roots.{goals_of, label_of}
use Rattle.merc_graded_tree.specs.Entries.{entries_of, all_entries, starts_from}
use Rattle.merc_graded_tree.proofs.EntryLaws.{all_entries-append, entries_are, front_and_back, start_is}

-- the last of goals

pub record Last (goals : List Node) : Type 0 where
  pub front : List Node
  pub last : Node
  pub are : goals ≡ front ++ last ∷ []

last_of : (goals : List Node) → 0 < length goals → Last goals
last_of [] some = absurd (omega arith)
last_of (only ∷ []) some = record { front = []; last = only; are = refl }
last_of (first ∷ second ∷ rest) some =
    let found = last_of (second ∷ rest) (omega arith) in
    record { front = first ∷ found.front; last = found.last; are = ap (λ l. first ∷ l) found.are }

-- the entry of a goal's root

abbrev pub root_entry_of : Node → Entry
root_entry_of whole = record { label = label_of whole; size = length (entries_of whole) }

root_last : (whole : Node) → entries_of whole ≡ all_entries (goals_of whole) ++ root_entry_of whole ∷ []
root_last whole =
    let inner = all_entries (goals_of whole) in
    let made : Entry = record { label = label_of whole; size = suc (length inner) } in
    let size : suc (length inner) ≡ length (entries_of whole) = omega (arith, ap length (entries_are whole), length-append inner (made ∷ [])) in
    entries_are whole ∙ ap (λ n. inner ++ record { label = label_of whole; size = n } ∷ []) size

-- the entries of goals end with the last one's root
all_entries-last : (front : List Node) (last : Node) → all_entries (front ++ last ∷ []) ≡ (all_entries front ++ all_entries (goals_of last)) ++ root_entry_of last ∷ []
all_entries-last front last =
    all_entries-append front (last ∷ [])
    ∙ ap (λ l. all_entries front ++ l) (append-nil (entries_of last) ∙ root_last last)
    ∙ sym (append_assoc (all_entries front) (all_entries (goals_of last)) (root_entry_of last ∷ []))

-- one of goals, by its index

record Spot (goals : List Node) (index : ℕ) : Type 0 where
  node : Node
  is : slice_get goals index ≡ Some node
  next : take (suc index) goals ≡ take index goals ++ node ∷ []

spot : (goals : List Node) (index : ℕ) → index < length goals → Spot goals index
spot [] index within = absurd (omega arith)
spot (first ∷ rest) zero within = record { node = first; is = refl; next = refl }
spot (first ∷ rest) (suc index) within =
    let found = spot rest index (omega arith) in
    record { node = found.node; is = found.is; next = ap (λ l. first ∷ l) found.next }

cut_between : (front middle back : List Entry) (entries : List Entry) (start end : ℕ) → entries ≡ front ++ (middle ++ back) → start ≡ length front → end ≡ length front + length middle
    → slice_range entries start end ≡ middle
cut_between front middle back entries start end entries_same start_same end_same =
    let size : end - start ≡ length middle = omega arith in
    ap (λ n. take n (drop start entries)) size
    ∙ ap (λ n. take (length middle) (drop n entries)) start_same
    ∙ ap (λ l. take (length middle) (drop (length front) l)) entries_same
    ∙ ap (take (length middle)) (drop-append_seam front (middle ++ back))
    ∙ take-append_seam middle back

-- the entries of one of goals
pub record Between (goals : List Node) (entries : List Entry) (index start end : ℕ) : Type 0 where
  pub node : Node
  pub is : slice_get goals index ≡ Some node
  pub order : start ≤ end
  pub within : end ≤ length entries
  pub cut : slice_range entries start end ≡ entries_of node

pub between : (goals : List Node) (entries : List Entry) (starts : List ℕ) (index start end : ℕ) → all_entries goals ≡ entries → starts ≡ starts_from 0 goals → index < length goals
    → start ≡ get_or starts index (length entries) → end ≡ get_or starts (index + 1) (length entries) → Between goals entries index start end
between goals entries starts index start end are starts_are inside start_same end_same =
    let found = spot goals index inside in
    let front = all_entries (take index goals) in
    let back = all_entries (drop (suc index) goals) in
    let next : all_entries (take (suc index) goals) ≡ front ++ entries_of found.node =
    ap all_entries found.next ∙ all_entries-append (take index goals) (found.node ∷ []) ∙ ap (λ l. front ++ l) (append-nil (entries_of found.node)) in
    let whole : entries ≡ front ++ (entries_of found.node ++ back) =
    front_and_back goals entries starts are starts_are (suc index) ∙ ap (λ l. l ++ back) next ∙ append_assoc front (entries_of found.node) back in
    let start_length : start ≡ length front = start_same ∙ start_is goals entries starts are starts_are index (omega arith) in
    let end_length : end ≡ length front + length (entries_of found.node) =
    end_same ∙ ap (λ k. get_or starts k (length entries)) (omega arith) ∙ start_is goals entries starts are starts_are (suc index) (omega arith)
    ∙ ap length next ∙ length-append front (entries_of found.node) in
    record {
      node = found.node;
      is = found.is;
      order = omega arith;
      within = omega (arith, ap length whole, length-append front (entries_of found.node ++ back), length-append (entries_of found.node) back);
      cut = cut_between front (entries_of found.node) back entries start end whole start_length end_length;
    }

-- the root of goals' last one, and what stands before it

root_is : (entries inner : List Entry) (root other : Entry) → entries ≡ take (length entries - 1) entries ++ root ∷ [] → entries ≡ inner ++ other ∷ [] → root ≡ other
root_is entries inner root other whole parts =
    let before = take (length entries - 1) entries in
    let size : length before ≡ length inner = omega (arith, ap length whole, ap length parts, length-append before (root ∷ []), length-append inner (other ∷ [])) in
    sym (get_or-append_seam before root [] root)
    ∙ ap (λ l. get_or l (length before) root) (sym whole ∙ parts)
    ∙ ap (λ n. get_or (inner ++ other ∷ []) n root) size
    ∙ get_or-append_seam inner other [] root

pub goals_part : (entries : List Entry) (whole : Node) → entries_of whole ≡ entries → slice_range entries 0 (length entries - 1) ≡ all_entries (goals_of whole)
goals_part entries whole are =
    let parts : entries ≡ all_entries (goals_of whole) ++ root_entry_of whole ∷ [] = sym are ∙ root_last whole in
    cut_between [] (all_entries (goals_of whole)) (root_entry_of whole ∷ []) entries 0 (length entries - 1) parts refl
    (omega (arith, ap length parts, length-append (all_entries (goals_of whole)) (root_entry_of whole ∷ [])))

pub root_entry_is : (entries : List Entry) (whole : Node) (root : Entry) → entries_of whole ≡ entries → entries ≡ take (length entries - 1) entries ++ root ∷ [] → root ≡ root_entry_of whole
root_entry_is entries whole root are last = root_is entries (all_entries (goals_of whole)) root (root_entry_of whole) last (sym are ∙ root_last whole)

pub record LastCut (goals : List Node) (entries : List Entry) (root : Entry) : Type 0 where
  pub front : List Node
  pub last : Node
  pub are : goals ≡ front ++ last ∷ []
  pub size : root.size ≤ length entries
  pub front_cut : slice_range entries 0 (length entries - root.size) ≡ all_entries front
  pub last_cut : slice_range entries (length entries - root.size) (length entries) ≡ entries_of last

pub cut_last : (goals : List Node) (entries : List Entry) (root : Entry) → all_entries goals ≡ entries → 0 < length goals → entries ≡ take (length entries - 1) entries ++ root ∷ []
    → LastCut goals entries root
cut_last goals entries root are some whole =
    let found = last_of goals some in
    let front = all_entries found.front in
    let parts : entries ≡ (front ++ all_entries (goals_of found.last)) ++ root_entry_of found.last ∷ [] =
    sym are ∙ ap all_entries found.are ∙ all_entries-last found.front found.last in
    let both : entries ≡ front ++ entries_of found.last =
    parts ∙ append_assoc front (all_entries (goals_of found.last)) (root_entry_of found.last ∷ []) ∙ ap (λ l. front ++ l) (sym (root_last found.last)) in
    let root_same : root ≡ root_entry_of found.last = root_is entries (front ++ all_entries (goals_of found.last)) root (root_entry_of found.last) whole parts in
    let size : root.size ≡ length (entries_of found.last) = ap (λ n. n.size) root_same in
    let lengths : length entries ≡ length front + length (entries_of found.last) = ap length both ∙ length-append front (entries_of found.last) in
    record {
      front = found.front;
      last = found.last;
      are = found.are;
      size = omega arith;
      front_cut = cut_between [] front (entries_of found.last) entries 0 (length entries - root.size) both refl (omega arith);
      last_cut = cut_between front (entries_of found.last) [] entries (length entries - root.size) (length entries) (both ∙ ap (λ l. front ++ l) (sym (append-nil (entries_of found.last)))) (omega arith) lengths;
    }
