-- Frames, one step at a time.
use Rattle.std.proofs.Common.{◌≡◌, ℕ, zero, suc, ◌+◌, ◌-◌, ◌<◌, ◌≤◌, Bool, true, false, List, [], ◌∷◌, ◌++◌, length, take, drop, Option, refl, ap, sym, subst, ◌∙◌, arith}
use Rattle.std.proofs.Math.Seq.{take-append_seam, drop-append_seam}
use Rattle.std.proofs.lemmas.List.{append_assoc, append-nil, length-append, length-take, length-drop, take-append-drop}
use Rattle.merc_base.specs.declared.place.Span.{Span}
use Rattle.merc_goals.specs.Written.{Written}
use Rattle.merc_goal_tree.specs.Nodes.{Node, Conjunction, Parallel, Disjunction, nodes_of}
use Rattle.merc_goal_tree.specs.Roots.{arity_of, joining, joined}
use Rattle.merc_goal_tree.specs.RootLaws.{joined_last}
use Rattle.merc_goal_tree.specs.declared.entries.Root.{Root}
use Rattle.merc_goal_tree.specs.declared.entries.Root.TheVariants.{Parallel as ParallelRoot, Disjunction as DisjunctionRoot, Conditional as ConditionalRoot, Negation as NegationRoot, Quantified as QuantifiedRoot}
use Rattle.merc_name_resolution.specs.declared.callee.Callee.{Callee}
use Rattle.merc_scopes.specs.declared.occurrence.Occurrence.{Occurrence}
use Rattle.merc_flat_form.specs.Levels.{scope_of}
use Rattle.merc_flat_form.specs.FlatForm.{flat, one_goal}
use Rattle.merc_flat_form.specs.Frames.{AreComing, AreFilled, IsReady, closed, finished, given, keeps_of, less, needed, part_of, parts_of, reached}
use Rattle.merc_flat_form.specs.declared.frames.Frame.{Frame}
use Rattle.merc_flat_form.specs.declared.frames.Closing.{Closing}
use Rattle.merc_flat_form.specs.declared.frames.Closing.TheVariants.{Keep, Join, JoinParallel, Disjoin, Choose, Negate, Quantify}

-- one goal

pub one_of : (goals : List Node) (span : Span) → length goals ≡ 1 → one_goal span goals ∷ [] ≡ goals
one_of [] span is = absurd (omega (arith, is))
one_of (only ∷ []) span is = refl
one_of (first ∷ second ∷ rest) span is = absurd (omega (arith, is))

pub only_one : (start : ℕ) (span : Span) (nodes : List Node) → length nodes - start ≡ 1
    → nodes ≡ take start nodes ++ one_goal span (drop start nodes) ∷ []
only_one start span nodes is =
    sym (take-append-drop start nodes) ∙ ap (λ l. take start nodes ++ l) (sym (one_of (drop start nodes) span (length-drop start nodes ∙ is)))

none_of : (goals : List Node) → length goals ≡ 0 → goals ≡ []
none_of [] is = refl
none_of (first ∷ rest) is = absurd (omega (arith, is))

many_of : (goals : List Node) (span : Span) → 1 < length goals → one_goal span goals ≡ Conjunction (nodes_of goals) span
many_of [] span more = absurd (omega (arith, more))
many_of (only ∷ []) span more = absurd (omega (arith, more))
many_of (first ∷ second ∷ rest) span more = refl

-- the goals past the first ones, where there are at least two
pub many_joined : (start count : ℕ) (span : Span) (nodes : List Node) → start ≤ length nodes → count ≡ length nodes - start → 1 < count
    → take (length nodes - count) nodes ++ Conjunction (nodes_of (drop (length nodes - count) nodes)) span ∷ []
    ≡ take start nodes ++ one_goal span (drop start nodes) ∷ []
many_joined start count span nodes within is more =
    let back : length nodes - count ≡ start = omega arith in
    let left : 1 < length (drop start nodes) = omega (arith, length-drop start nodes) in
    ap (λ n. take n nodes ++ Conjunction (nodes_of (drop n nodes)) span ∷ []) back
    ∙ ap (λ g. take start nodes ++ g ∷ []) (sym (many_of (drop start nodes) span left))

-- what becomes of a frame's goals

closed_list : (root : ℕ → Root) (nodes inner : List Node) (span : Span) → ((count : ℕ) → arity_of (root count) ≡ count)
    → joined (root (length (nodes ++ inner) - length nodes)) span (nodes ++ inner) ≡ nodes ++ joining (root (length (nodes ++ inner) - length nodes)) span inner ∷ []
closed_list root nodes inner span arity =
    joined_last (root (length (nodes ++ inner) - length nodes)) span nodes inner (omega (arith, arity (length (nodes ++ inner) - length nodes), length-append nodes inner))

-- what becomes of the goals behind others
abbrev pub closes_to : Closing → Span → List Node → List Node
closes_to Keep span inner = inner
closes_to Join span inner = one_goal span inner ∷ []
closes_to JoinParallel span inner = Parallel (nodes_of inner) span ∷ []
closes_to Disjoin span inner = Disjunction (nodes_of inner) span ∷ []
closes_to Choose span inner = joining ConditionalRoot span inner ∷ []
closes_to Negate span inner = joining NegationRoot span inner ∷ []
closes_to (Quantify variables) span inner = joining (QuantifiedRoot variables) span inner ∷ []

-- a closing has all the goals that it needs and no more
abbrev pub IsMet : Closing → ℕ → Type 0
IsMet Choose count = count ≡ 3
IsMet Negate count = count ≡ 1
IsMet (Quantify variables) count = count ≡ 1
IsMet other count = Unit {0}

pub closed_behind : (closing : Closing) (span : Span) (nodes inner : List Node) → IsMet closing (length inner)
    → closed closing span (length nodes) (nodes ++ inner) ≡ nodes ++ closes_to closing span inner
closed_behind Keep span nodes inner met = refl
closed_behind Join span nodes inner met =
    ap (λ l. l ++ one_goal span (drop (length nodes) (nodes ++ inner)) ∷ []) (take-append_seam nodes inner)
    ∙ ap (λ l. nodes ++ one_goal span l ∷ []) (drop-append_seam nodes inner)
closed_behind JoinParallel span nodes inner met = closed_list (λ count. ParallelRoot count) nodes inner span (λ count. refl)
closed_behind Disjoin span nodes inner met = closed_list (λ count. DisjunctionRoot count) nodes inner span (λ count. refl)
closed_behind Choose span nodes inner met = joined_last ConditionalRoot span nodes inner (sym met)
closed_behind Negate span nodes inner met = joined_last NegationRoot span nodes inner (sym met)
closed_behind (Quantify variables) span nodes inner met = joined_last (QuantifiedRoot variables) span nodes inner (sym met)

joined_length : (root : Root) (span : Span) (nodes : List Node) → length (joined root span nodes) ≡ (length nodes - arity_of root) + 1
joined_length root span nodes =
    omega (arith, length-append (take (length nodes - arity_of root) nodes) (joining root span (drop (length nodes - arity_of root) nodes) ∷ []), length-take (length nodes - arity_of root) nodes)

-- a closing leaves as many goals as were to be given
pub closed_length : (closing : Closing) (span : Span) (start : ℕ) (nodes : List Node) → start + needed closing ≤ length nodes
    → given closing start (length nodes) ≤ length (closed closing span start nodes)
closed_length Keep span start nodes enough = omega arith
closed_length Join span start nodes enough =
    omega (arith, length-append (take start nodes) (one_goal span (drop start nodes) ∷ []), length-take start nodes)
closed_length JoinParallel span start nodes enough = omega (arith, joined_length (ParallelRoot (length nodes - start)) span nodes)
closed_length Disjoin span start nodes enough = omega (arith, joined_length (DisjunctionRoot (length nodes - start)) span nodes)
closed_length Choose span start nodes enough = omega (arith, joined_length ConditionalRoot span nodes)
closed_length Negate span start nodes enough = omega (arith, joined_length NegationRoot span nodes)
closed_length (Quantify variables) span start nodes enough = omega (arith, joined_length (QuantifiedRoot variables) span nodes)

-- how many goals there are for each frame

reached_more : (keeps : Bool) (left n m : ℕ) → n ≤ m → reached keeps left n ≤ reached keeps left m
reached_more true left n m more = more
reached_more false left n m more = omega arith

given_more : (closing : Closing) (start n m : ℕ) → n ≤ m → given closing start n ≤ given closing start m
given_more Keep start n m more = more
given_more Join start n m more = omega arith
given_more JoinParallel start n m more = omega arith
given_more Disjoin start n m more = omega arith
given_more Choose start n m more = omega arith
given_more Negate start n m more = omega arith
given_more (Quantify variables) start n m more = omega arith

pub filled_more : (frames : List Frame) (n m : ℕ) → n ≤ m → AreFilled frames n → AreFilled frames m
filled_more [] n m more filled = tt
filled_more (top ∷ below) n m more filled =
    let further = reached_more top.keeps top.left n m more in
    (omega (arith, filled.0, further), filled_more below _ _ (given_more top.closing top.start _ _ further) filled.1)

-- the goals that come at least with one sub-goal
abbrev pub least : Bool → ℕ
least true = 0
least false = 1

reached_less : (keeps : Bool) (left count : ℕ) → 0 < left → reached keeps (left - 1) (count + least keeps) ≡ reached keeps left count
reached_less true left count some = omega arith
reached_less false left count some = omega arith

pub filled_less : (frames : List Frame) (count : ℕ) → IsReady frames → AreFilled frames count → AreFilled (less frames) (count + least (keeps_of frames))
filled_less [] count ready filled = tt
filled_less (top ∷ below) count ready filled =
    let P : ℕ → Type 0 = λ n. (top.start + needed top.closing ≤ n) × AreFilled below (given top.closing top.start n) in
    subst P (sym (reached_less top.keeps top.left count ready)) filled

pub filled_open : (frame : Frame) (frames : List Frame) (count : ℕ) → IsReady frames
    → frame.start + needed frame.closing ≤ reached frame.keeps frame.left count
    → count + least (keeps_of frames) ≤ given frame.closing frame.start (reached frame.keeps frame.left count)
    → AreFilled frames count → AreFilled (frame ∷ less frames) count
filled_open frame frames count ready enough more filled = (enough, filled_more (less frames) _ _ more (filled_less frames count ready filled))

-- how many goals are to come

pub coming_less : (frames : List Frame) (coming : ℕ) → IsReady frames → AreComing frames (suc coming) → AreComing (less frames) coming
coming_less [] coming ready enough = tt
coming_less (top ∷ below) coming ready enough =
    let P : ℕ → Type 0 = λ n. AreComing below n in
    let same : suc coming - top.left ≡ coming - (top.left - 1) = omega (arith, ready) in
    (omega (arith, enough.0, ready), subst P same enough.1)

pub coming_open : (frame : Frame) (frames : List Frame) (goals : List Written) → IsReady frames → frame.left ≤ length goals
    → AreComing frames (suc (length (drop frame.left goals))) → AreComing (frame ∷ less frames) (length goals)
coming_open frame frames goals ready enough coming =
    let P : ℕ → Type 0 = λ n. AreComing (less frames) n in
    (enough, subst P (length-drop frame.left goals) (coming_less frames _ ready coming))

take_first : {A : Type 0} (left : ℕ) (first : A) (rest : List A) → 0 < left → take left (first ∷ rest) ≡ first ∷ take (left - 1) rest
take_first zero first rest some = absurd (omega (arith, some))
take_first (suc n) first rest some = ap (λ k. first ∷ take k rest) (let e : n ≡ suc n - 1 = omega arith in e)

drop_first : {A : Type 0} (left : ℕ) (first : A) (rest : List A) → 0 < left → drop left (first ∷ rest) ≡ drop (left - 1) rest
drop_first zero first rest some = absurd (omega (arith, some))
drop_first (suc n) first rest some = ap (λ k. drop k rest) (let e : n ≡ suc n - 1 = omega arith in e)

module _ (blank : ℕ → Bool) (callee : ℕ → Option ℕ → ℕ → Callee) where
  -- a goal is a sub-goal of the innermost frame
  pub taken : (frames : List Frame) (goal : Written) (coming : List Written) (levels : List (List Occurrence)) (nodes : List Node) → IsReady frames
      → finished blank callee (less frames) coming levels (nodes ++ part_of blank callee (keeps_of frames) (scope_of levels) goal)
      ≡ finished blank callee frames (goal ∷ coming) levels nodes
  taken [] goal coming levels nodes ready = append_assoc nodes (flat blank callee (scope_of levels) goal) (parts_of blank callee true (scope_of levels) coming)
  taken (top ∷ below) goal coming levels nodes ready =
      let scope = scope_of levels in
      let part = part_of blank callee top.keeps scope goal in
      let others = parts_of blank callee top.keeps scope (take (top.left - 1) coming) in
      let inner : (nodes ++ part) ++ others ≡ nodes ++ parts_of blank callee top.keeps scope (take top.left (goal ∷ coming)) =
      append_assoc nodes part others ∙ ap (λ l. nodes ++ parts_of blank callee top.keeps scope l) (sym (take_first top.left goal coming ready)) in
      ap (λ l. finished blank callee below l (drop 1 levels) (closed top.closing top.span top.start ((nodes ++ part) ++ others))) (sym (drop_first top.left goal coming ready))
      ∙ ap (λ l. finished blank callee below (drop top.left (goal ∷ coming)) (drop 1 levels) (closed top.closing top.span top.start l)) inner

  -- a frame in place of a goal
  pub opened : (frame : Frame) (frames : List Frame) (goal : Written) (coming : List Written) (levels inner : List (List Occurrence)) (nodes : List Node)
      → IsReady frames → drop 1 inner ≡ levels
      → closed frame.closing frame.span frame.start (nodes ++ parts_of blank callee frame.keeps (scope_of inner) (take frame.left coming))
      ≡ nodes ++ part_of blank callee (keeps_of frames) (scope_of levels) goal
      → finished blank callee (frame ∷ less frames) coming inner nodes ≡ finished blank callee frames (goal ∷ drop frame.left coming) levels nodes
  opened frame frames goal coming levels inner nodes ready below closing =
      ap (λ l. finished blank callee (less frames) (drop frame.left coming) l
      (closed frame.closing frame.span frame.start (nodes ++ parts_of blank callee frame.keeps (scope_of inner) (take frame.left coming)))) below
      ∙ ap (finished blank callee (less frames) (drop frame.left coming) levels) closing
      ∙ taken frames goal (drop frame.left coming) levels nodes ready

  -- a frame of which no sub-goal is to come is closed
  pub finished_closed : (frame : Frame) (below : List Frame) (coming : List Written) (levels : List (List Occurrence)) (nodes : List Node) → frame.left ≡ 0
      → finished blank callee below coming (drop 1 levels) (closed frame.closing frame.span frame.start nodes) ≡ finished blank callee (frame ∷ below) coming levels nodes
  finished_closed frame below coming levels nodes done =
      ap (λ l. finished blank callee below coming (drop 1 levels) (closed frame.closing frame.span frame.start l)) (sym (append-nil nodes))
      ∙ ap (λ n. finished blank callee below (drop n coming) (drop 1 levels)
      (closed frame.closing frame.span frame.start (nodes ++ parts_of blank callee frame.keeps (scope_of levels) (take n coming)))) (sym done)

reached_done : (keeps : Bool) (left count : ℕ) → left ≡ 0 → reached keeps left count ≡ count
reached_done true left count done = refl
reached_done false left count done = omega arith

pub enough_closed : (frame : Frame) (below : List Frame) (count : ℕ) → frame.left ≡ 0 → AreFilled (frame ∷ below) count → frame.start + needed frame.closing ≤ count
enough_closed frame below count done filled = omega (arith, filled.0, reached_done frame.keeps frame.left count done)

pub filled_closed : (frame : Frame) (below : List Frame) (nodes : List Node) → frame.left ≡ 0 → AreFilled (frame ∷ below) (length nodes)
    → AreFilled below (length (closed frame.closing frame.span frame.start nodes))
filled_closed frame below nodes done filled =
    let P : ℕ → Type 0 = λ n. AreFilled below (given frame.closing frame.start n) in
    filled_more below _ _ (closed_length frame.closing frame.span frame.start nodes (enough_closed frame below (length nodes) done filled))
    (subst P (reached_done frame.keeps frame.left (length nodes) done) filled.1)

pub coming_closed : (frame : Frame) (below : List Frame) (coming : ℕ) → frame.left ≡ 0 → AreComing (frame ∷ below) coming → AreComing below coming
coming_closed frame below coming done enough =
    let P : ℕ → Type 0 = λ n. AreComing below n in
    subst P (let e : coming - frame.left ≡ coming = omega (arith, done) in e) enough.1
