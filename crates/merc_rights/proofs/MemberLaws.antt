-- Which goals of a list use a variable, by the index of a part that holds it.
use Rattle.std.specs.Prelude.{◌≡◌, ◌≤◌, ◌<◌, ◌+◌, ◌-◌, ◌==◌, ◌&&◌, ◌||◌, nat_le, ℕ, zero, suc, Bool, true, false, List, [], ◌∷◌, ◌++◌, length, take, drop, slice_index_or, Option, Some, None, refl, if◌then◌else◌}
use Rattle.std.specs.List.{filter, list_any}
use Rattle.std.specs.List.Sorted.{IsNonDecreasing}
use Rattle.std.proofs.Common.{◌∙◌, ap, sym, subst, arith}
use Rattle.std.proofs.lemmas.Bool.Decides.{nat_tests}
use Rattle.std.proofs.lemmas.List.{append_assoc, map-append, length-append, length-map, length-take-le, take_all, drop_all, drop_more, append-nil, take-append-drop}
use Rattle.merc_graded_tree.specs.declared.entries.Label.{Label}
use Rattle.merc_graded_tree.specs.Nodes.{Node, node, Basic, Conjunction, Disjunction, Switch, Conditional, Negation, Quantified, Nodes, no_nodes, more_nodes, Arms, no_arms, more_arms}
use Rattle.merc_graded_tree.specs.Labels.{labels_of, joined_labels, arm_labels, all_labels}
use Rattle.merc_graded_tree.specs.Variables.{among, in_node, in_goal, in_nodes, in_arms}
use Rattle.merc_rights.specs.Rows.{next_from}
use Rattle.merc_rights.specs.Uses.{uses, uses_in, uses_of}
use Rattle.merc_rights.specs.Members.{count_of}
use Rattle.merc_rights.specs.Places.{Lies, starts_of}

-- a goal uses a variable where one of its parts holds it

or-false : (b : Bool) → (b || false) ≡ b
or-false true = refl
or-false false = refl

or-assoc : (a b c : Bool) → ((a || b) || c) ≡ (a || (b || c))
or-assoc true b c = refl
or-assoc false b c = refl

or-comm : (a b : Bool) → (a || b) ≡ (b || a)
or-comm true true = refl
or-comm true false = refl
or-comm false true = refl
or-comm false false = refl

any-append : {X : Type 0} (p : X → Bool) (one other : List X) → list_any p (one ++ other) ≡ (list_any p one || list_any p other)
any-append p [] other = refl
any-append p (first ∷ rest) other = ap (λ b. p first || b) (any-append p rest other) ∙ sym (or-assoc (p first) (list_any p rest) (list_any p other))

module _ (variable : ℕ) where
  abbrev pub holds : List ℕ → Bool
  holds list = among list variable

  abbrev has : List Label → Bool
  has labels = list_any holds (uses_in labels)

  has-append : (one other : List Label) → has (one ++ other) ≡ (has one || has other)
  has-append one other = ap (λ l. list_any holds l) (map-append (λ (label : Label). uses label.root) one other) ∙ any-append holds (uses_in one) (uses_in other)

  -- past the labels inside
  outer : (labels : List Label) (label : Label) (inside : Bool) → has labels ≡ inside → has (labels ++ label ∷ []) ≡ (inside || (holds (uses label.root) || false))
  outer labels label inside is = has-append labels (label ∷ []) ∙ ap (λ b. b || (holds (uses label.root) || false)) is

  mutual
    pub in_labels : (goal : Node) → has (labels_of goal) ≡ in_node goal variable
    in_labels (node (Basic goal) outputs category span) = or-false (in_goal (Basic goal) variable)
    in_labels (node (Conjunction running goals) outputs category span) = outer (joined_labels goals) _ (in_nodes goals variable) (in_joined goals) ∙ or-false (in_nodes goals variable)
    in_labels (node (Disjunction goals) outputs category span) = outer (joined_labels goals) _ (in_nodes goals variable) (in_joined goals) ∙ or-false (in_nodes goals variable)
    in_labels (node (Switch whole arms) outputs category span) =
        outer (arm_labels arms) _ (in_arms arms variable) (in_armed arms) ∙ or-comm (in_arms arms variable) (((variable == whole) || false) || false)
        ∙ ap (λ b. b || in_arms arms variable) (or-false ((variable == whole) || false) ∙ or-false (variable == whole))
    in_labels (node (Conditional condition then_part else_part) outputs category span) =
        outer (labels_of condition ++ (labels_of then_part ++ labels_of else_part)) _ (in_goal (Conditional condition then_part else_part) variable)
        (has-append (labels_of condition) (labels_of then_part ++ labels_of else_part) ∙ ap (λ b. b || has (labels_of then_part ++ labels_of else_part)) (in_labels condition)
        ∙ ap (λ b. in_node condition variable || b) (has-append (labels_of then_part) (labels_of else_part) ∙ ap (λ b. b || has (labels_of else_part)) (in_labels then_part)
        ∙ ap (λ b. in_node then_part variable || b) (in_labels else_part)))
        ∙ or-false (in_goal (Conditional condition then_part else_part) variable)
    in_labels (node (Negation goal) outputs category span) = outer (labels_of goal) _ (in_node goal variable) (in_labels goal) ∙ or-false (in_node goal variable)
    in_labels (node (Quantified own goal) outputs category span) = outer (labels_of goal) _ (in_node goal variable) (in_labels goal) ∙ or-false (in_node goal variable)

    in_joined : (goals : Nodes) → has (joined_labels goals) ≡ in_nodes goals variable
    in_joined no_nodes = refl
    in_joined (more_nodes first rest) =
        has-append (labels_of first) (joined_labels rest) ∙ ap (λ b. b || has (joined_labels rest)) (in_labels first) ∙ ap (λ b. in_node first variable || b) (in_joined rest)

    in_armed : (arms : Arms) → has (arm_labels arms) ≡ in_arms arms variable
    in_armed no_arms = refl
    in_armed (more_arms symbol body rest) =
        has-append (labels_of body) (arm_labels rest) ∙ ap (λ b. b || has (arm_labels rest)) (in_labels body) ∙ ap (λ b. in_node body variable || b) (in_armed rest)

-- the first of a list

abbrev pub first_at : {X : Type 0} → (X → Bool) → ℕ → List X → Option ℕ
first_at such number [] = None
first_at such number (first ∷ rest) = if such first then Some number else first_at such (suc number) rest

pub at_or_behind : {X : Type 0} (such : X → Bool) (from number : ℕ) (items : List X) → from ≤ number → next_from such from number items ≡ first_at such number items
at_or_behind such from number [] less = refl
at_or_behind such from number (first ∷ rest) less =
    let e : nat_le from number ≡ true = grind (arith, nat_tests, less) in
    ap (λ b. if b && such first then Some number else next_from such from (suc number) rest) e
    ∙ ap (λ o. if such first then Some number else o) (at_or_behind such from (suc number) rest (omega (arith, less)))

pub past_front : {X : Type 0} (such : X → Bool) (from number : ℕ) (front rest : List X) → number + length front ≤ from
    → next_from such from number (front ++ rest) ≡ next_from such from (number + length front) rest
past_front such from number [] rest less = let e : number ≡ number + 0 = omega arith in ap (λ n. next_from such from n rest) e
past_front such from number (first ∷ others) rest less =
    let e : nat_le from number ≡ false = grind (arith, nat_tests, less) in
    ap (λ b. if b && such first then Some number else next_from such from (suc number) (others ++ rest)) e
    ∙ past_front such from (suc number) others rest (omega (arith, less))
    ∙ (let f : suc number + length others ≡ number + suc (length others) = omega arith in ap (λ n. next_from such from n rest) f)

pub past_all : {X : Type 0} (such : X → Bool) (from number : ℕ) (items : List X) → number + length items ≤ from → next_from such from number items ≡ None
past_all such from number items less = ap (λ l. next_from such from number l) (sym (append-nil items)) ∙ past_front such from number items [] less

-- where the first one stands

abbrev Inside : ℕ → ℕ → Option ℕ → Type 0
Inside low high None = ⊥
Inside low high (Some place) = (low ≤ place) × (place < high)

abbrev pub AtLeast : ℕ → Option ℕ → Type 0
AtLeast low None = Unit {0}
AtLeast low (Some place) = low ≤ place

pub at_least : {X : Type 0} (such : X → Bool) (number : ℕ) (items : List X) → AtLeast number (first_at such number items)
at_least such number [] = tt
at_least such number (first ∷ rest) = by (such first) (at_least such (suc number) rest)
  where
    more : (o : Option ℕ) → AtLeast (suc number) o → AtLeast number o
    more None least = tt
    more (Some place) least = omega (arith, least)

    by : (b : Bool) → AtLeast (suc number) (first_at such (suc number) rest) → AtLeast number (if b then Some number else first_at such (suc number) rest)
    by true least = omega arith
    by false least = more (first_at such (suc number) rest) least

inside_more : (number size : ℕ) (o : Option ℕ) → Inside (suc number) (suc number + size) o → Inside number (number + suc size) o
inside_more number size None inside = inside
inside_more number size (Some place) inside = let a = inside.0 in let b = inside.1 in (omega (arith, a), omega (arith, b))

within_block : {X : Type 0} (such : X → Bool) (number : ℕ) (block rest : List X) → list_any such block ≡ true → Inside number (number + length block) (first_at such number (block ++ rest))
within_block such number [] rest some = absurd cc
within_block such number (first ∷ others) rest some = by (such first) refl (within_block such (suc number) others rest)
  where
    by : (b : Bool) → such first ≡ b → (list_any such others ≡ true → Inside (suc number) (suc number + length others) (first_at such (suc number) (others ++ rest)))
        → Inside number (number + suc (length others)) (if b then Some number else first_at such (suc number) (others ++ rest))
    by true is inner = (omega arith, omega arith)
    by false is inner = inside_more number (length others) (first_at such (suc number) (others ++ rest)) (inner (ap (λ b. b || list_any such others) (sym is) ∙ some))

past_block : {X : Type 0} (such : X → Bool) (number : ℕ) (block rest : List X) → list_any such block ≡ false → first_at such number (block ++ rest) ≡ first_at such (number + length block) rest
past_block such number [] rest none = let e : number ≡ number + 0 = omega arith in ap (λ n. first_at such n rest) e
past_block such number (first ∷ others) rest none = by (such first) refl (past_block such (suc number) others rest)
  where
    by : (b : Bool) → such first ≡ b → (list_any such others ≡ false → first_at such (suc number) (others ++ rest) ≡ first_at such (suc number + length others) rest)
        → (if b then Some number else first_at such (suc number) (others ++ rest)) ≡ first_at such (number + suc (length others)) rest
    by true is inner = absurd (let e = ap (λ b. b || list_any such others) (sym is) ∙ none in cc)
    by false is inner = inner (ap (λ b. b || list_any such others) (sym is) ∙ none)
        ∙ (let f : suc number + length others ≡ number + suc (length others) = omega arith in ap (λ n. first_at such n rest) f)

-- how many of the places where goals start are not behind a place

count_true : (place start : ℕ) (starts : List ℕ) → start ≤ place → count_of place (start ∷ starts) ≡ suc (count_of place starts)
count_true place start starts less = let e : nat_le start place ≡ true = grind (arith, nat_tests, less) in
    ap (λ b. length (if b then start ∷ filter (λ other. nat_le other place) starts else filter (λ other. nat_le other place) starts)) e

count_false : (place start : ℕ) (starts : List ℕ) → place < start → count_of place (start ∷ starts) ≡ count_of place starts
count_false place start starts less = let e : nat_le start place ≡ false = grind (arith, nat_tests, less) in
    ap (λ b. length (if b then start ∷ filter (λ other. nat_le other place) starts else filter (λ other. nat_le other place) starts)) e

count_none : (place start : ℕ) (goals : List Node) → place < start → count_of place (starts_of start goals) ≡ 0
count_none place start [] less = count_false place start [] less
count_none place start (first ∷ rest) less =
    count_false place start (starts_of (start + length (labels_of first)) rest) less ∙ count_none place (start + length (labels_of first)) rest (omega (arith, less))

-- the starts rise
abbrev UpFrom : ℕ → List ℕ → Type 0
UpFrom low [] = Unit {0}
UpFrom low (first ∷ rest) = (low ≤ first) × UpFrom first rest

up_starts : (low start : ℕ) (goals : List Node) → low ≤ start → UpFrom low (starts_of start goals)
up_starts low start [] less = (less, tt)
up_starts low start (first ∷ rest) less = (less, up_starts start (start + length (labels_of first)) rest (omega arith))

low_at : (low : ℕ) (row : List ℕ) (j d : ℕ) → UpFrom low row → j < length row → low ≤ slice_index_or row j d
low_at low [] j d up less = absurd (omega (arith, less))
low_at low (first ∷ rest) zero d up less = up.0
low_at low (first ∷ rest) (suc j) d up less = let a = up.0 in let b = low_at first rest j d up.1 (omega (arith, less)) in omega (arith, a, b)

rising : (low : ℕ) (row : List ℕ) → UpFrom low row → (i j d : ℕ) → i ≤ j → j < length row → slice_index_or row i d ≤ slice_index_or row j d
rising low [] up i j d ordered less = absurd (omega (arith, less))
rising low (first ∷ rest) up zero zero d ordered less = omega arith
rising low (first ∷ rest) up zero (suc j) d ordered less = low_at first rest j d up.1 (omega (arith, less))
rising low (first ∷ rest) up (suc i) zero d ordered less = absurd (omega (arith, ordered))
rising low (first ∷ rest) up (suc i) (suc j) d ordered less = rising first rest up.1 i j d (omega (arith, ordered)) (omega (arith, less))

pub starts_rise : (starts : List ℕ) (start : ℕ) (goals : List Node) → starts ≡ starts_of start goals → IsNonDecreasing starts
starts_rise starts start goals is = subst IsNonDecreasing (sym is) (λ i j d ordered less. rising 0 (starts_of start goals) (up_starts 0 start goals (omega arith)) i j d ordered less)

pub length-starts : (start : ℕ) (goals : List Node) → length (starts_of start goals) ≡ suc (length goals)
length-starts start [] = refl
length-starts start (first ∷ rest) = ap suc (length-starts (start + length (labels_of first)) rest)

-- the start at a number, and the last one
pub starts_more : (goals : List Node) (index : ℕ) (goal : Node) (start next : ℕ) (old new all : List ℕ) → goal ≡ slice_index_or goals index goal → index < length goals
    → new ≡ old ++ start ∷ [] → next ≡ start + length (labels_of goal) → old ++ starts_of start (drop index goals) ≡ all → new ++ starts_of next (drop (index + 1) goals) ≡ all
starts_more goals index goal start next old new all is less put past so =
    let rest = drop (index + 1) goals in
    ap (λ l. l ++ starts_of next rest) put ∙ append_assoc old (start ∷ []) (starts_of next rest)
    ∙ ap (λ n. old ++ start ∷ starts_of n rest) past
    ∙ ap (λ l. old ++ starts_of start l) (ap (λ g. g ∷ rest) is ∙ sym (drop_more goals index goal less)) ∙ so

pub starts_end : (goals : List Node) (index start : ℕ) (old new all : List ℕ) → length goals ≤ index → new ≡ old ++ start ∷ [] → old ++ starts_of start (drop index goals) ≡ all → new ≡ all
starts_end goals index start old new all least put so = put ∙ ap (λ l. old ++ starts_of start l) (sym (drop_all index goals least)) ∙ so

pub start_at : (start number d : ℕ) (goals : List Node) → number ≤ length goals → slice_index_or (starts_of start goals) number d ≡ start + length (all_labels (take number goals))
start_at start zero d [] less = omega arith
start_at start zero d (first ∷ rest) less = omega arith
start_at start (suc number) d [] less = absurd (omega (arith, less))
start_at start (suc number) d (first ∷ rest) less =
    start_at (start + length (labels_of first)) number d rest (omega (arith, less))
    ∙ (let e = length-append (labels_of first) (all_labels (take number rest)) in
    let f : (start + length (labels_of first)) + length (all_labels (take number rest)) ≡ start + length (labels_of first ++ all_labels (take number rest)) = omega (arith, e) in f)

-- all starts up to a number count where they are not behind
count_front : (place start number : ℕ) (goals : List Node) → number ≤ length goals → start + length (all_labels (take number goals)) ≤ place
    → count_of place (starts_of start goals) ≡ number + count_of place (starts_of (start + length (all_labels (take number goals))) (drop number goals))
count_front place start zero goals less within =
    let e : start ≡ start + 0 = omega arith in
    let z : count_of place (starts_of (start + 0) goals) ≡ 0 + count_of place (starts_of (start + 0) goals) = omega arith in
    ap (λ n. count_of place (starts_of n goals)) e ∙ z
count_front place start (suc number) [] less within = absurd (omega (arith, less))
count_front place start (suc number) (first ∷ rest) less within =
    let e = length-append (labels_of first) (all_labels (take number rest)) in
    let f : (start + length (labels_of first)) + length (all_labels (take number rest)) ≡ start + length (labels_of first ++ all_labels (take number rest)) = omega (arith, e) in
    count_true place start (starts_of (start + length (labels_of first)) rest) (omega (arith, within))
    ∙ ap suc (count_front place (start + length (labels_of first)) number rest (omega (arith, less)) (omega (arith, within, e)))
    ∙ ap (λ n. suc (number + count_of place (starts_of n (drop number rest)))) f
    ∙ (let x = count_of place (starts_of (start + length (labels_of first ++ all_labels (take number rest))) (drop number rest)) in let g : suc (number + x) ≡ suc number + x = omega arith in g)

module _ (variable : ℕ) where
  abbrev uses_v : Node → Bool
  uses_v goal = in_node goal variable

  abbrev Tells : List Node → ℕ → ℕ → Option ℕ → Type 0
  Tells goals start number None = first_at uses_v number goals ≡ None
  Tells goals start number (Some place) =
      (place < start + length (all_labels goals) → (first_at uses_v number goals ≡ Some (number + (count_of place (starts_of start goals) - 1))) × (0 < count_of place (starts_of start goals)))
      × (start + length (all_labels goals) ≤ place → first_at uses_v number goals ≡ None)

  block_here : (first : Node) (rest : List Node) (start number : ℕ) (o : Option ℕ) → in_node first variable ≡ true → Inside start (start + length (uses_in (labels_of first))) o → Tells (first ∷ rest) start number o
  block_here first rest start number None used inside = absurd inside
  block_here first rest start number (Some place) used inside =
      let low = inside.0 in
      let e = length-map (labels_of first) (λ (label : Label). uses label.root) in
      let high : place < start + length (labels_of first) = let h = inside.1 in omega (arith, h, e) in
      let count : count_of place (starts_of start (first ∷ rest)) ≡ 1 =
      count_true place start (starts_of (start + length (labels_of first)) rest) low ∙ ap suc (count_none place (start + length (labels_of first)) rest high) in
      let f : number ≡ number + (1 - 1) = omega arith in (
        λ less. (
          ap (λ b. if b then Some number else first_at uses_v (suc number) rest) used ∙ ap (λ n. Some n) (f ∙ ap (λ n. number + (n - 1)) (sym count)),
          omega (arith, count),
        ),
        λ past. absurd (omega (arith, past, high, length-append (labels_of first) (all_labels rest))),
      )

  block_past : (first : Node) (rest : List Node) (start number : ℕ) (o : Option ℕ) → in_node first variable ≡ false → AtLeast (start + length (labels_of first)) o
      → Tells rest (start + length (labels_of first)) (suc number) o → Tells (first ∷ rest) start number o
  block_past first rest start number None spares least tells = ap (λ b. if b then Some number else first_at uses_v (suc number) rest) spares ∙ tells
  block_past first rest start number (Some place) spares least tells =
      let l = length-append (labels_of first) (all_labels rest) in
      let count = count_true place start (starts_of (start + length (labels_of first)) rest) (omega (arith, least)) in (
        λ less.
            let t = tells.0 (omega (arith, less, l)) in
            let some = t.1 in
            let e : suc number + (count_of place (starts_of (start + length (labels_of first)) rest) - 1) ≡ number + (suc (count_of place (starts_of (start + length (labels_of first)) rest)) - 1) = omega (arith, some) in (
              ap (λ b. if b then Some number else first_at uses_v (suc number) rest) spares ∙ t.0 ∙ ap (λ n. Some n) (e ∙ ap (λ n. number + (n - 1)) (sym count)),
              omega (arith, count),
            ),
        λ past. ap (λ b. if b then Some number else first_at uses_v (suc number) rest) spares ∙ tells.1 (omega (arith, past, l)),
      )

  decide : (first : Node) (rest : List Node) (start number : ℕ) (back : List (List ℕ)) (b : Bool) → in_node first variable ≡ b
      → Tells rest (start + length (labels_of first)) (suc number) (first_at (holds variable) (start + length (labels_of first)) (uses_in (all_labels rest) ++ back))
      → Tells (first ∷ rest) start number (first_at (holds variable) start (uses_in (labels_of first) ++ (uses_in (all_labels rest) ++ back)))
  decide first rest start number back true used tells =
      block_here first rest start number (first_at (holds variable) start (uses_in (labels_of first) ++ (uses_in (all_labels rest) ++ back))) used
      (within_block (holds variable) start (uses_in (labels_of first)) (uses_in (all_labels rest) ++ back) (in_labels variable first ∙ used))
  decide first rest start number back false spares tells =
      let e = length-map (labels_of first) (λ (label : Label). uses label.root) in
      let moved = past_block (holds variable) start (uses_in (labels_of first)) (uses_in (all_labels rest) ++ back) (in_labels variable first ∙ spares)
      ∙ ap (λ n. first_at (holds variable) (start + n) (uses_in (all_labels rest) ++ back)) e in
      block_past first rest start number (first_at (holds variable) start (uses_in (labels_of first) ++ (uses_in (all_labels rest) ++ back))) spares
      (subst (λ o. AtLeast (start + length (labels_of first)) o) (sym moved) (at_least (holds variable) (start + length (labels_of first)) (uses_in (all_labels rest) ++ back)))
      (subst (λ o. Tells rest (start + length (labels_of first)) (suc number) o) (sym moved) tells)

  scan : (goals : List Node) (start number : ℕ) (back : List (List ℕ)) → Tells goals start number (first_at (holds variable) start (uses_in (all_labels goals) ++ back))
  scan [] start number back = by (first_at (holds variable) start back) (at_least (holds variable) start back)
    where
      by : (o : Option ℕ) → AtLeast start o → Tells [] start number o
      by None least = refl
      by (Some place) least = (λ less. absurd (omega (arith, less, least)), λ past. refl)
  scan (first ∷ rest) start number back =
      subst (λ l. Tells (first ∷ rest) start number (first_at (holds variable) start l))
      (sym (ap (λ l. l ++ back) (map-append (λ (label : Label). uses label.root) (labels_of first) (all_labels rest)) ∙ append_assoc (uses_in (labels_of first)) (uses_in (all_labels rest)) back))
      (decide first rest start number back (in_node first variable) refl (scan rest (start + length (labels_of first)) (suc number) back))

pub all_labels-append : (one other : List Node) → all_labels (one ++ other) ≡ all_labels one ++ all_labels other
all_labels-append [] other = refl
all_labels-append (first ∷ rest) other = ap (λ l. labels_of first ++ l) (all_labels-append rest other) ∙ sym (append_assoc (labels_of first) (all_labels rest) (all_labels other))

split_labels : (number : ℕ) (goals : List Node) → all_labels goals ≡ all_labels (take number goals) ++ all_labels (drop number goals)
split_labels number goals = ap all_labels (sym (take-append-drop number goals)) ∙ all_labels-append (take number goals) (drop number goals)

-- what is asked of the parts answers for the goals
module _ (whole : Node) (first : ℕ) (goals : List Node) (lies : Lies (labels_of whole) first (all_labels goals)) (variable from : ℕ) (within : from ≤ length goals) where
  abbrev pub start : ℕ
  start = first + length (all_labels (take from goals))

  parts : uses_of whole ≡ (uses_in lies.front ++ uses_in (all_labels (take from goals))) ++ (uses_in (all_labels (drop from goals)) ++ uses_in lies.back)
  parts =
      let one = λ (label : Label). uses label.root in
      ap uses_in (lies.are ∙ ap (λ l. lies.front ++ (l ++ lies.back)) (split_labels from goals) ∙ ap (λ l. lies.front ++ l) (append_assoc (all_labels (take from goals)) (all_labels (drop from goals)) lies.back)
      ∙ sym (append_assoc lies.front (all_labels (take from goals)) (all_labels (drop from goals) ++ lies.back)))
      ∙ map-append one (lies.front ++ all_labels (take from goals)) (all_labels (drop from goals) ++ lies.back)
      ∙ ap (λ l. l ++ uses_in (all_labels (drop from goals) ++ lies.back)) (map-append one lies.front (all_labels (take from goals)))
      ∙ ap (λ l. (uses_in lies.front ++ uses_in (all_labels (take from goals))) ++ l) (map-append one (all_labels (drop from goals)) lies.back)

  in_parts : next_from (holds variable) start 0 (uses_of whole) ≡ first_at (holds variable) start (uses_in (all_labels (drop from goals)) ++ uses_in lies.back)
  in_parts =
      let one = λ (label : Label). uses label.root in
      let before = uses_in lies.front ++ uses_in (all_labels (take from goals)) in
      let behind = uses_in (all_labels (drop from goals)) ++ uses_in lies.back in
      let size : length before ≡ start =
      length-append (uses_in lies.front) (uses_in (all_labels (take from goals))) ∙ ap (λ n. n + length (uses_in (all_labels (take from goals)))) (length-map lies.front one ∙ lies.count)
      ∙ ap (λ n. first + n) (length-map (all_labels (take from goals)) one) in
      let zero_more : 0 + length before ≡ start = omega (arith, size) in
      ap (λ l. next_from (holds variable) start 0 l) parts
      ∙ past_front (holds variable) start 0 before behind (omega (arith, size))
      ∙ ap (λ n. next_from (holds variable) start n behind) zero_more
      ∙ at_or_behind (holds variable) start start behind (omega arith)

  in_goals : next_from (uses_v variable) from 0 goals ≡ first_at (uses_v variable) from (drop from goals)
  in_goals =
      let size : length (take from goals) ≡ from = length-take-le from goals within in
      let zero_more : 0 + length (take from goals) ≡ from = omega (arith, size) in
      ap (λ l. next_from (uses_v variable) from 0 l) (sym (take-append-drop from goals))
      ∙ past_front (uses_v variable) from 0 (take from goals) (drop from goals) (omega (arith, size))
      ∙ ap (λ n. next_from (uses_v variable) from n (drop from goals)) zero_more
      ∙ at_or_behind (uses_v variable) from from (drop from goals) (omega arith)

  tells : Tells variable (drop from goals) start from (next_from (holds variable) start 0 (uses_of whole))
  tells = subst (λ o. Tells variable (drop from goals) start from o) (sym in_parts) (scan variable (drop from goals) start from (uses_in lies.back))

  ends : first + length (all_labels goals) ≡ start + length (all_labels (drop from goals))
  ends = let e = ap length (split_labels from goals) in omega (arith, e, length-append (all_labels (take from goals)) (all_labels (drop from goals)))

  pub no_place : None ≡ next_from (holds variable) start 0 (uses_of whole) → None ≡ next_from (uses_v variable) from 0 goals
  no_place is = let t : Tells variable (drop from goals) start from None = subst (λ o. Tells variable (drop from goals) start from o) (sym is) tells in sym (in_goals ∙ t)

  pub place_past : (place : ℕ) → Some place ≡ next_from (holds variable) start 0 (uses_of whole) → first + length (all_labels goals) ≤ place → None ≡ next_from (uses_v variable) from 0 goals
  place_past place is past =
      let t : Tells variable (drop from goals) start from (Some place) = subst (λ o. Tells variable (drop from goals) start from o) (sym is) tells in
      sym (in_goals ∙ t.1 (omega (arith, past, ends)))

  pub place_in : (place : ℕ) → Some place ≡ next_from (holds variable) start 0 (uses_of whole) → place < first + length (all_labels goals)
      → Some (count_of place (starts_of first goals) - 1) ≡ next_from (uses_v variable) from 0 goals
  place_in place is less =
      let t : Tells variable (drop from goals) start from (Some place) = subst (λ o. Tells variable (drop from goals) start from o) (sym is) tells in
      let low : AtLeast start (Some place) = subst (λ o. AtLeast start o) (sym in_parts ∙ sym is) (at_least (holds variable) start (uses_in (all_labels (drop from goals)) ++ uses_in lies.back)) in
      let found = t.0 (omega (arith, less, ends)) in
      let some = found.1 in
      let count = count_front place first from goals within low in
      let e : from + (count_of place (starts_of start (drop from goals)) - 1) ≡ count_of place (starts_of first goals) - 1 = omega (arith, count, some) in
      sym (in_goals ∙ found.0 ∙ ap (λ n. Some n) e)

-- how many are counted
pub counted : (place result : ℕ) (starts : List ℕ) → result ≤ length starts → take result starts ≡ filter (λ other. nat_le other place) starts → result ≡ count_of place starts
counted place result starts within is = sym (length-take-le result starts within) ∙ ap length is

-- .. whose end is one of the starts
pub end_is : (start end : ℕ) (goals : List Node) → end ≡ slice_index_or (starts_of start goals) (length goals) 0 → end ≡ start + length (all_labels goals)
end_is start end goals is = is ∙ start_at start (length goals) 0 goals (omega arith) ∙ ap (λ l. start + length (all_labels l)) (take_all (length goals) goals (omega arith))

abbrev member_if : Bool → ℕ → Option ℕ
member_if b number = if b then None else Some number

pub member_is : (whole : Node) (first : ℕ) (goals : List Node) (lies : Lies (labels_of whole) first (all_labels goals)) (variable from : ℕ) (within : from ≤ length goals) (place end begin : ℕ) (starts : List ℕ)
    → starts ≡ starts_of first goals → end ≡ slice_index_or starts (length goals) 0 → begin ≡ slice_index_or starts from 0
    → Some place ≡ next_from (λ list. among list variable) begin 0 (uses_of whole)
    → (if nat_le end place then None else Some (count_of place starts - 1)) ≡ next_from (λ goal. in_node goal variable) from 0 goals
member_is whole first goals lies variable from within place end begin starts are e s is =
    decide (nat_le end place) refl
  where
    here : begin ≡ first + length (all_labels (take from goals))
    here = s ∙ ap (λ l. slice_index_or l from 0) are ∙ start_at first from 0 goals within

    found : Some place ≡ next_from (λ list. among list variable) (first + length (all_labels (take from goals))) 0 (uses_of whole)
    found = is ∙ ap (λ n. next_from (λ list. among list variable) n 0 (uses_of whole)) here

    ends_at : end ≡ first + length (all_labels goals)
    ends_at = end_is first end goals (e ∙ ap (λ l. slice_index_or l (length goals) 0) are)

    decide : (b : Bool) → nat_le end place ≡ b → member_if b (count_of place starts - 1) ≡ next_from (λ goal. in_node goal variable) from 0 goals
    decide true past = place_past whole first goals lies variable from within place found (grind (arith, nat_tests, past, ends_at))
    decide false before = ap (λ l. Some (count_of place l - 1)) are ∙ place_in whole first goals lies variable from within place found (grind (arith, nat_tests, before, ends_at))

pub no_member : (whole : Node) (first : ℕ) (goals : List Node) (lies : Lies (labels_of whole) first (all_labels goals)) (variable from : ℕ) (within : from ≤ length goals) (begin : ℕ) (starts : List ℕ)
    → starts ≡ starts_of first goals → begin ≡ slice_index_or starts from 0 → None ≡ next_from (λ list. among list variable) begin 0 (uses_of whole)
    → None ≡ next_from (λ goal. in_node goal variable) from 0 goals
no_member whole first goals lies variable from within begin starts are s is =
    no_place whole first goals lies variable from within
    (is ∙ ap (λ n. next_from (λ list. among list variable) n 0 (uses_of whole)) (s ∙ ap (λ l. slice_index_or l from 0) are ∙ start_at first from 0 goals within))

-- whether the item of a number is such

pub next_drop : {X : Type 0} (such : X → Bool) (number : ℕ) (items : List X) → number ≤ length items → next_from such number 0 items ≡ first_at such number (drop number items)
next_drop such number items within =
    let size : length (take number items) ≡ number = length-take-le number items within in
    let zero_more : 0 + length (take number items) ≡ number = omega (arith, size) in
    ap (λ l. next_from such number 0 l) (sym (take-append-drop number items))
    ∙ past_front such number 0 (take number items) (drop number items) (omega (arith, size))
    ∙ ap (λ n. next_from such number n (drop number items)) zero_more
    ∙ at_or_behind such number number (drop number items) (omega arith)

at_number : {X : Type 0} (such : X → Bool) (number : ℕ) (items : List X) (d : X) → number < length items
    → next_from such number 0 items ≡ (if such (slice_index_or items number d) then Some number else first_at such (suc number) (drop (number + 1) items))
at_number such number items d less = next_drop such number items (omega (arith, less)) ∙ ap (λ l. first_at such number l) (drop_more items number d less)

here_by : {X : Type 0} (such : X → Bool) (number found : ℕ) (b : Bool) (rest : List X) → Some found ≡ (if b then Some number else first_at such (suc number) rest) → (found == number) ≡ b
here_by such number found true rest is = let same : found ≡ number = cc in grind (arith, nat_tests, same)
here_by such number found false rest is =
    let low : AtLeast (suc number) (Some found) = subst (λ o. AtLeast (suc number) o) (sym is) (at_least such (suc number) rest) in
    let less : suc number ≤ found = low in grind (arith, nat_tests, less)

pub next_here : {X : Type 0} (such : X → Bool) (number : ℕ) (items : List X) (d : X) (found : ℕ) → number < length items → Some found ≡ next_from such number 0 items → (found == number) ≡ such (slice_index_or items number d)
next_here such number items d found less is = here_by such number found (such (slice_index_or items number d)) (drop (number + 1) items) (is ∙ at_number such number items d less)

not_by : (number : ℕ) (b : Bool) (o : Option ℕ) → None ≡ (if b then Some number else o) → false ≡ b
not_by number true o is = absurd cc
not_by number false o is = refl

pub next_not : {X : Type 0} (such : X → Bool) (number : ℕ) (items : List X) (d : X) → number < length items → None ≡ next_from such number 0 items → false ≡ such (slice_index_or items number d)
next_not such number items d less is = not_by number (such (slice_index_or items number d)) (first_at such (suc number) (drop (number + 1) items)) (is ∙ at_number such number items d less)
