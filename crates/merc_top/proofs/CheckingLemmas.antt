-- Lines of procedures put behind each other, and the places of a mode.
use Rattle.std.proofs.Common.{◌≡◌, ◌+◌, ◌<◌, ◌≤◌, ◌∙◌, ℕ, suc, zero, List, [], ◌∷◌, ◌++◌, ap, sym, refl, subst, length, map, take, drop, get_or, append_assoc, codes, arith, length-take}
use Rattle.std.specs.Prelude.{Some, None, slice_get}
use Rattle.std.specs.Fmt.{decimal}
use Rattle.std.proofs.lemmas.Grind.{flat_map-append}
use Rattle.std.proofs.lemmas.List.Folds.{length-flat_map-take}
use Rattle.std.proofs.lemmas.List.{append-nil, length-append, length-map, map-append, length-drop, take-append-drop, take_all, take_more, drop-drop, drop_more}
use Rattle.std.proofs.lemmas.Option.{slice_get_within, get_or_from_slice_get}
use Rattle.merc_tree.specs.declared.declarations.Arg.{Arg}
use Rattle.merc_tree.specs.declared.declarations.ModeDecl.{ModeDecl}
use Rattle.merc_tree.specs.declared.declarations.Module.{Module}
use Rattle.merc_tree.specs.declared.declarations.PredDecl.{PredDecl}
use Rattle.merc_graded_tree.specs.Nodes.{Node}
use Rattle.merc_grading.specs.Faults.{Procedure, with_modes, procedures_of}
use Rattle.merc_solving.specs.Lines.{line, behind_commas}
use Rattle.merc_top.specs.Checking.{place_text, procedure_line, procedure_lines, own_procedures, check_lines}
use Rattle.merc_solving.proofs.LineLemmas.{behind_commas-snoc}

-- ---- lines of procedures

slice_get-not_none : (trees : List Node) (number : ℕ) → number < length trees → slice_get trees number ≡ None → ⊥
slice_get-not_none [] number within none = absurd (omega (arith, within))
slice_get-not_none (tree ∷ trees) zero within none = cc
slice_get-not_none (tree ∷ trees) (suc number) within none = slice_get-not_none trees number (omega (arith, within)) none

-- where each procedure has a tree there is a line for each
length-procedure_lines : (names : List (List ℕ)) (procedures : List Procedure) (trees : List Node) → length procedures ≤ length trees
    → length (procedure_lines names procedures trees) ≡ length procedures
length-procedure_lines names [] trees enough = refl
length-procedure_lines names (first ∷ rest) [] enough = absurd (omega (arith, enough))
length-procedure_lines names (first ∷ rest) (tree ∷ trees) enough = ap suc (length-procedure_lines names rest trees (omega (arith, enough)))

-- the lines of some procedures, and those of others behind them
procedure_lines-append : (names : List (List ℕ)) (before behind : List Procedure) (trees : List Node) → length before ≤ length trees
    → procedure_lines names (before ++ behind) trees ≡ procedure_lines names before trees ++ procedure_lines names behind (drop (length before) trees)
procedure_lines-append names [] behind trees enough = refl
procedure_lines-append names (first ∷ before) behind [] enough = absurd (omega (arith, enough))
procedure_lines-append names (first ∷ before) behind (tree ∷ trees) enough =
    ap (λ (lines : List (List ℕ)). procedure_line names first tree ∷ lines) (procedure_lines-append names before behind trees (omega (arith, enough)))

-- the line of one procedure alone
procedure_lines-one : (names : List (List ℕ)) (procedure : Procedure) (trees : List Node) (number : ℕ) (tree : Node) → slice_get trees number ≡ Some tree
    → procedure_lines names (procedure ∷ []) (drop number trees) ≡ procedure_line names procedure tree ∷ []
procedure_lines-one names procedure trees number tree at =
    ap (λ (some : List Node). procedure_lines names (procedure ∷ []) some) (drop_more trees number tree (slice_get_within trees number tree at))
    ∙ ap (λ (some : Node). procedure_line names procedure some ∷ []) (get_or_from_slice_get trees number tree tree at)

length-with_modes : (declared : PredDecl) (modes : List ModeDecl) → length (with_modes declared modes) ≡ length modes
length-with_modes declared modes = length-map modes (λ mode. record { predicate = declared; mode = mode })

-- the lines of the first modes of a predicate, whose trees stand behind so many others
abbrev pub mode_lines : List (List ℕ) → PredDecl → List ModeDecl → List Node → ℕ → ℕ → List (List ℕ)
mode_lines names declared modes trees before count = procedure_lines names (with_modes declared (take count modes)) (drop before trees)

-- Where there are trees enough,
module _ (names : List (List ℕ)) (declared : PredDecl) (modes : List ModeDecl) (trees : List Node) (before : ℕ) (enough : before + length modes ≤ length trees) where
  length-taken : (count : ℕ) → count ≤ length modes → length (with_modes declared (take count modes)) ≡ count
  length-taken count most = length-with_modes declared (take count modes) ∙ omega (arith, length-take count modes, most)

  within : (count : ℕ) → count ≤ length modes → length (with_modes declared (take count modes)) ≤ length (drop before trees)
  within count most = omega (arith, length-taken count most, length-drop before trees, enough, most)

  -- each mode has its line,
  length-mode_lines : (count : ℕ) → count ≤ length modes → length (mode_lines names declared modes trees before count) ≡ count
  length-mode_lines count most =
      length-procedure_lines names (with_modes declared (take count modes)) (drop before trees) (within count most) ∙ length-taken count most

  -- the next one behind the others,
  mode_lines-more : (count : ℕ) (mode : ModeDecl) (tree : Node) → count < length modes → mode ≡ get_or modes count mode → slice_get trees (before + count) ≡ Some tree
      → mode_lines names declared modes trees before (count + 1) ≡ mode_lines names declared modes trees before count ++ procedure_line names (record { predicate = declared; mode = mode }) tree ∷ []
  mode_lines-more count mode tree below item at =
      let most : count ≤ length modes = omega (arith, below) in
      let own = with_modes declared (take count modes) in
      let this : Procedure = record { predicate = declared; mode = mode } in
      let more : with_modes declared (take (count + 1) modes) ≡ own ++ this ∷ [] =
      ap (λ (some : List ModeDecl). with_modes declared some) (take_more modes count mode below)
      ∙ map-append (λ (m : ModeDecl). record { predicate = declared; mode = m }) (take count modes) (get_or modes count mode ∷ [])
      ∙ ap (λ (m : ModeDecl). own ++ record { predicate = declared; mode = m } ∷ []) (sym item) in
      let left : drop (length own) (drop before trees) ≡ drop (before + count) trees =
      ap (λ (n : ℕ). drop n (drop before trees)) (length-taken count most) ∙ drop-drop count before trees in
      ap (λ (some : List Procedure). procedure_lines names some (drop before trees)) more
      ∙ procedure_lines-append names own (this ∷ []) (drop before trees) (within count most)
      ∙ ap (λ (some : List Node). mode_lines names declared modes trees before count ++ procedure_lines names (this ∷ []) some) left
      ∙ ap (λ (some : List (List ℕ)). mode_lines names declared modes trees before count ++ some) (procedure_lines-one names this trees (before + count) tree at)

-- and stands where so many lines were before.
module _ (names : List (List ℕ)) (declared : PredDecl) (modes : List ModeDecl) (trees : List Node) (old : List (List ℕ)) (enough : length old + length modes ≤ length trees)
    (lines : List (List ℕ)) (count : ℕ) (below : count < length modes) (so_far : lines ≡ old ++ mode_lines names declared modes trees (length old) count) where
  number : length lines ≡ length old + count
  number =
      ap (λ (some : List (List ℕ)). length some) so_far ∙ length-append old (mode_lines names declared modes trees (length old) count)
      ∙ ap (λ (n : ℕ). length old + n) (length-mode_lines names declared modes trees (length old) enough count (omega (arith, below)))

  pub mode_lines-step : (mode : ModeDecl) (tree : Node) (text : List ℕ) → mode ≡ get_or modes count mode → slice_get trees (length lines) ≡ Some tree
      → text ≡ procedure_line names (record { predicate = declared; mode = mode }) tree
      → lines ++ text ∷ [] ≡ old ++ mode_lines names declared modes trees (length old) (count + 1)
  mode_lines-step mode tree text item at is =
      ap (λ (some : List ℕ). lines ++ some ∷ []) is
      ∙ ap (λ (some : List (List ℕ)). some ++ procedure_line names (record { predicate = declared; mode = mode }) tree ∷ []) so_far
      ∙ append_assoc old (mode_lines names declared modes trees (length old) count) (procedure_line names (record { predicate = declared; mode = mode }) tree ∷ [])
      ∙ ap (λ (some : List (List ℕ)). old ++ some)
      (sym (mode_lines-more names declared modes trees (length old) enough count mode tree below item (subst (λ (n : ℕ). slice_get trees n ≡ Some tree) number at)))

  -- there is a tree for it
  pub mode_lines-tree : slice_get trees (length lines) ≡ None → ⊥
  mode_lines-tree none = slice_get-not_none trees (length lines) (omega (arith, number, enough, below)) none

-- the lines of the first predicates
abbrev pub pred_lines : List (List ℕ) → List PredDecl → List Node → ℕ → List (List ℕ)
pred_lines names preds trees count = procedure_lines names (procedures_of (take count preds)) trees

-- Predicates, whose procedures have trees enough.
module _ (names : List (List ℕ)) (preds : List PredDecl) (trees : List Node) (enough : length (procedures_of preds) ≤ length trees) where
  -- the procedures of a predicate and of those before it
  fits : (count : ℕ) (declared : PredDecl) → count < length preds → declared ≡ get_or preds count declared
      → length (procedures_of (take count preds)) + length declared.modes ≤ length trees
  fits count declared below item =
      let all = length-flat_map-take (λ (d : PredDecl). with_modes d d.modes) preds count declared below in
      let own : length (with_modes (get_or preds count declared) (get_or preds count declared).modes) ≡ length declared.modes =
      length-with_modes (get_or preds count declared) (get_or preds count declared).modes ∙ ap (λ (d : PredDecl). length d.modes) (sym item) in
      omega (arith, all, own, enough)

  -- Behind the lines of the first predicates come those of the next, which has trees enough.
  module _ (lines : List (List ℕ)) (count : ℕ) (declared : PredDecl) (below : count < length preds) (item : declared ≡ get_or preds count declared)
      (so_far : lines ≡ pred_lines names preds trees count) where
    number-own : length lines ≡ length (procedures_of (take count preds))
    number-own =
        ap (λ (some : List (List ℕ)). length some) so_far
        ∙ length-procedure_lines names (procedures_of (take count preds)) trees (omega (arith, fits count declared below item))

    pub pred_lines-fit : length lines + length declared.modes ≤ length trees
    pred_lines-fit = omega (arith, number-own, fits count declared below item)

    pub pred_lines-step : lines ++ procedure_lines names (with_modes declared declared.modes) (drop (length lines) trees) ≡ pred_lines names preds trees (count + 1)
    pred_lines-step =
        let before = procedures_of (take count preds) in
        let own = with_modes declared declared.modes in
        let more : procedures_of (take (count + 1) preds) ≡ before ++ own =
        ap (λ (some : List PredDecl). procedures_of some) (take_more preds count declared below)
        ∙ flat_map-append (λ (d : PredDecl). with_modes d d.modes) (take count preds) (get_or preds count declared ∷ [])
        ∙ ap (λ (d : PredDecl). before ++ (with_modes d d.modes ++ [])) (sym item)
        ∙ ap (λ (some : List Procedure). before ++ some) (append-nil own) in
        ap (λ (some : List (List ℕ)). some ++ procedure_lines names own (drop (length lines) trees)) so_far
        ∙ ap (λ (n : ℕ). pred_lines names preds trees count ++ procedure_lines names own (drop n trees)) number-own
        ∙ sym (procedure_lines-append names before own trees (omega (arith, fits count declared below item)))
        ∙ ap (λ (some : List Procedure). procedure_lines names some trees) (sym more)

-- a file has no more procedures than the module has with those of the library
pub own-fit : (found : Module) (trees : List Node) → length (procedures_of found.preds) ≤ length trees → length (own_procedures found) ≤ length trees
own-fit found trees enough =
    let parts : procedures_of found.preds ≡ own_procedures found ++ procedures_of (drop found.own found.preds) =
    ap (λ (some : List PredDecl). procedures_of some) (sym (take-append-drop found.own found.preds))
    ∙ flat_map-append (λ (d : PredDecl). with_modes d d.modes) (take found.own found.preds) (drop found.own found.preds) in
    let sum = ap (λ (some : List Procedure). length some) parts ∙ length-append (own_procedures found) (procedures_of (drop found.own found.preds)) in
    omega (arith, sum, enough)

-- behind the lines of all own predicates comes how many there are
pub check_lines-whole : (names : List (List ℕ)) (found : Module) (trees : List Node) (lines : List (List ℕ)) (count : ℕ) (last : List ℕ)
    → length (procedures_of found.preds) ≤ length trees → length (take found.own found.preds) ≤ count
    → lines ≡ pred_lines names (take found.own found.preds) trees count → last ≡ line (codes "procedures " ++ decimal (length lines))
    → lines ++ last ∷ [] ≡ check_lines names found trees
check_lines-whole names found trees lines count last enough past so_far is =
    let all : lines ≡ procedure_lines names (own_procedures found) trees =
    so_far ∙ ap (λ (some : List PredDecl). procedure_lines names (procedures_of some) trees) (take_all count (take found.own found.preds) past) in
    let number = ap (λ (some : List (List ℕ)). length some) all ∙ length-procedure_lines names (own_procedures found) trees (own-fit found trees enough) in
    ap (λ (some : List (List ℕ)). some ++ last ∷ []) all
    ∙ ap (λ (some : List ℕ). procedure_lines names (own_procedures found) trees ++ some ∷ [])
    (is ∙ ap (λ (n : ℕ). line (codes "procedures " ++ decimal n)) number)

-- ---- places

-- these texts behind an open bracket, with a comma between each two; nothing where there is none
abbrev pub opened : List (List ℕ) → List ℕ
opened [] = []
opened (text ∷ texts) = codes "(" ++ (text ++ behind_commas texts)

-- what stands before the text at this place
abbrev pub before_at : ℕ → List ℕ
before_at zero = codes "("
before_at (suc _) = codes ", "

opened-snoc : (texts : List (List ℕ)) (text : List ℕ) → opened (texts ++ text ∷ []) ≡ (opened texts ++ before_at (length texts)) ++ text
opened-snoc [] text = ap (λ (more : List ℕ). codes "(" ++ more) (append-nil text)
opened-snoc (first ∷ texts) text =
    ap (λ (more : List ℕ). codes "(" ++ (first ++ more)) (behind_commas-snoc texts text) ∙ simp append_assoc

-- one place more
pub opened-more : (places : List Arg) (count : ℕ) (other : Arg) (old : List ℕ) → count < length places
    → ((old ++ opened (map place_text (take count places))) ++ before_at count) ++ place_text (get_or places count other) ≡ old ++ opened (map place_text (take (count + 1) places))
opened-more places count other old below =
    let texts = map place_text (take count places) in
    let text = place_text (get_or places count other) in
    let taken : length texts ≡ count = length-map (take count places) place_text ∙ omega (arith, length-take count places, below) in
    let more : map place_text (take (count + 1) places) ≡ texts ++ text ∷ [] =
    ap (λ (some : List Arg). map place_text some) (take_more places count other below) ∙ map-append place_text (take count places) (get_or places count other ∷ []) in
    append_assoc (old ++ opened texts) (before_at count) text ∙ append_assoc old (opened texts) (before_at count ++ text)
    ∙ ap (λ (some : List ℕ). old ++ some)
    (sym (append_assoc (opened texts) (before_at count) text) ∙ ap (λ (n : ℕ). (opened texts ++ before_at n) ++ text) (sym taken) ∙ sym (opened-snoc texts text) ∙ ap opened (sym more))
