-- The entry of a goal, as it is taken up, form by form.
use Rattle.std.proofs.Common.{◌≡◌, ℕ, suc, ◌+◌, ◌-◌, ◌≤◌, Bool, true, false, List, [], ◌∷◌, ◌++◌, length, take, drop, map, Option, None, if◌then◌else◌, refl, ap, sym, subst, ◌∙◌, arith}
use Rattle.std.proofs.lemmas.List.{append_assoc, length-append}
use Rattle.merc_base.specs.declared.place.Span.{Span}
use Rattle.merc_tree.specs.Term.{Variable, Integer, Text, Application}
use Rattle.merc_goals.specs.Written.{Written, Truth, Failure, Equal, Compared, Conjunction, Parallel, Disjunction, Conditional, Negated, Quantified, WrongForm, OutsideProfile, written_span}
use Rattle.merc_goals.specs.Entries.{goals_of, with_form, first_goal}
use Rattle.merc_goals.specs.Entries.{called as called_goal}
use Rattle.merc_goals.specs.declared.goal.Form.{Form}
use Rattle.merc_goals.specs.declared.goal.Form.TheVariants.{Truth as TruthForm, Failure as FailureForm, Equal as EqualForm, Compared as ComparedForm, Called as CalledForm, Conjunction as ConjunctionForm, Parallel as ParallelForm, Disjunction as DisjunctionForm, Conditional as ConditionalForm, Negated as NegatedForm, Quantified as QuantifiedForm, WrongForm as NoForm, OutsideProfile as OutsideForm}
use Rattle.merc_goal_tree.specs.Nodes.{Node, Parallel as ParallelNode, Disjunction as DisjunctionNode, Conditional as ConditionalNode, Negation, Quantified as QuantifiedNode, nodes_of}
use Rattle.merc_name_resolution.specs.declared.callee.Callee.{Callee}
use Rattle.merc_scopes.specs.declared.occurrence.Occurrence.{Occurrence}
use Rattle.merc_scopes.specs.Scopes.{at_of, introduced}
use Rattle.merc_scopes.specs.Bindings.{Gives}
use Rattle.merc_flat_form.specs.Levels.{or_else, scope_of, shown}
use Rattle.merc_flat_form.specs.FlatForm.{flat, one_goal, simple}
use Rattle.merc_flat_form.specs.Frames.{AreComing, AreFilled, IsReady, closed, finished, given, keeps_of, less, needed, part_of, parts_of, reached}
use Rattle.merc_flat_form.specs.Steps.{IsTakenUp, frame_of, kept, simple_goals}
use Rattle.merc_flat_form.proofs.FlatLaws.{at_of-append, or_else-none, flat-same, parts-same, flat_all-parts, flat_each-parts}
use Rattle.merc_flat_form.proofs.FrameLaws.{IsMet, closes_to, closed_behind, coming_less, coming_open, filled_less, filled_more, filled_open, least, opened, taken}
use Rattle.merc_flat_form.specs.declared.frames.Frame.{Frame}
use Rattle.merc_flat_form.specs.declared.frames.Closing.{Closing}
use Rattle.merc_flat_form.specs.declared.frames.Closing.TheVariants.{Keep, Join, JoinParallel, Disjoin, Choose, Negate, Quantify}

module _ (blank : ℕ → Bool) (callee : ℕ → Option ℕ → ℕ → Callee) where
  single : (keeps : Bool) (scope : List Occurrence) (goal : Written) (node : Node) → flat blank callee scope goal ≡ node ∷ []
      → node ∷ [] ≡ part_of blank callee keeps scope goal
  single true scope goal node is = sym is
  single false scope goal node is = ap (λ l. one_goal (written_span goal) l ∷ []) (sym is)

  module _ (at : ℕ) (span : Span) (found : List Occurrence) (frames : List Frame) (levels inner : List (List Occurrence)) (nodes : List Node) (ready : IsReady frames) where
    -- the names in a goal are those around it and those that it brings
    region : (goal : Written) → ((name : ℕ) → shown name inner ≡ or_else (shown name levels) (at_of name found))
        → ((name : ℕ) → at_of name found ≡ at_of name (introduced blank goal))
        → (name : ℕ) → at_of name (scope_of levels ++ introduced blank goal) ≡ at_of name (scope_of inner)
    region goal names gives name =
        at_of-append name (scope_of levels) (introduced blank goal) ∙ ap (or_else (shown name levels)) (sym (gives name)) ∙ sym (names name)

    around : ((name : ℕ) → shown name inner ≡ or_else (shown name levels) (at_of name found)) → ((name : ℕ) → at_of name found ≡ None)
        → (name : ℕ) → at_of name (scope_of levels) ≡ at_of name (scope_of inner)
    around names gives name = sym (or_else-none (shown name levels)) ∙ ap (or_else (shown name levels)) (sym (gives name)) ∙ sym (names name)

    abbrev Result : Frame → Written → List Written → Type 0
    Result frame goal coming =
        (finished blank callee (frame ∷ less frames) coming inner nodes ≡ finished blank callee frames (goal ∷ drop frame.left coming) levels nodes)
        × (AreFilled frames (length nodes) → AreFilled (frame ∷ less frames) (length nodes))
        × (AreComing frames (length (goal ∷ drop frame.left coming)) → AreComing (frame ∷ less frames) (length coming))

    -- a frame in place of a goal
    in_frame : (closing : Closing) (keeps : Bool) (left : ℕ) (goal : Written) (coming : List Written) → left ≤ length coming → drop 1 inner ≡ levels
        → IsMet closing (length (parts_of blank callee keeps (scope_of inner) (take left coming)))
        → closes_to closing span (parts_of blank callee keeps (scope_of inner) (take left coming)) ≡ part_of blank callee (keeps_of frames) (scope_of levels) goal
        → length nodes + needed closing ≤ reached keeps left (length nodes)
        → length nodes + least (keeps_of frames) ≤ given closing (length nodes) (reached keeps left (length nodes))
        → Result (frame_of closing keeps span left (length nodes)) goal coming
    in_frame closing keeps left goal coming enough below met becomes room more =
        let frame = frame_of closing keeps span left (length nodes) in (
          opened blank callee frame frames goal coming levels inner nodes ready below
              (closed_behind closing span nodes (parts_of blank callee keeps (scope_of inner) (take left coming)) met ∙ ap (λ l. nodes ++ l) becomes),
          filled_open frame frames (length nodes) ready room more,
          coming_open frame frames coming ready enough,
        )

    one_more : (keeps : Bool) (count : ℕ) → count + least keeps ≤ count + 1
    one_more true count = omega arith
    one_more false count = omega arith

    module _ (below : drop 1 inner ≡ levels) (names : (name : ℕ) → shown name inner ≡ or_else (shown name levels) (at_of name found)) where
      pub parallel_up : (count : ℕ) → IsTakenUp blank callee (ParallelForm count) at span found frames levels nodes (frame_of JoinParallel false span count (length nodes) ∷ less frames) inner nodes
      parallel_up count coming enough gives =
          let goal = Parallel (goals_of (take count coming)) span in
          let scope = scope_of levels ++ introduced blank goal in
          let same = ap nodes_of (parts-same blank callee false scope (scope_of inner) (region goal names gives) (take count coming)) in
          in_frame JoinParallel false count goal coming enough below tt
          (ap (λ l. ParallelNode l span ∷ []) (sym same)
          ∙ single (keeps_of frames) (scope_of levels) goal _ (ap (λ l. ParallelNode l span ∷ []) (flat_each-parts blank callee scope (take count coming))))
          (omega arith) (one_more (keeps_of frames) (length nodes))

      pub disjunction_up : (count : ℕ) → IsTakenUp blank callee (DisjunctionForm count) at span found frames levels nodes (frame_of Disjoin false span count (length nodes) ∷ less frames) inner nodes
      disjunction_up count coming enough gives =
          let goal = Disjunction (goals_of (take count coming)) span in
          let scope = scope_of levels in
          let same = ap nodes_of (parts-same blank callee false scope (scope_of inner) (around names gives) (take count coming)) in
          in_frame Disjoin false count goal coming enough below tt
          (ap (λ l. DisjunctionNode l span ∷ []) (sym same)
          ∙ single (keeps_of frames) (scope_of levels) goal _ (ap (λ l. DisjunctionNode l span ∷ []) (flat_each-parts blank callee scope (take count coming))))
          (omega arith) (one_more (keeps_of frames) (length nodes))

      pub negated_up : IsTakenUp blank callee NegatedForm at span found frames levels nodes (frame_of Negate false span 1 (length nodes) ∷ less frames) inner nodes
      negated_up [] enough gives = absurd (omega (arith, enough))
      negated_up (first ∷ rest) enough gives =
          let same = flat-same blank callee (scope_of levels) (scope_of inner) (around names gives) first in
          in_frame Negate false 1 (Negated first span) (first ∷ rest) enough below refl
          (ap (λ l. Negation (one_goal (written_span first) l) span ∷ []) (sym same) ∙ single (keeps_of frames) (scope_of levels) (Negated first span) _ refl)
          (omega arith) (one_more (keeps_of frames) (length nodes))

      conjunction_by : (keeps : Bool) → keeps_of frames ≡ keeps → (count : ℕ)
          → IsTakenUp blank callee (ConjunctionForm count) at span found frames levels nodes (frame_of (if keeps then Keep else Join) true span count (length nodes) ∷ less frames) inner nodes
      conjunction_by true is count coming enough gives =
          let goal = Conjunction (goals_of (take count coming)) span in
          let scope = scope_of levels ++ introduced blank goal in
          let same = parts-same blank callee true scope (scope_of inner) (region goal names gives) (take count coming) in
          in_frame Keep true count goal coming enough below tt
          (sym same ∙ sym (flat_all-parts blank callee scope (take count coming)) ∙ ap (λ k. part_of blank callee k (scope_of levels) goal) (sym is))
          (omega arith) (let m : length nodes + least (keeps_of frames) ≤ length nodes = omega (arith, ap least is) in m)
      conjunction_by false is count coming enough gives =
          let goal = Conjunction (goals_of (take count coming)) span in
          let scope = scope_of levels ++ introduced blank goal in
          let same = parts-same blank callee true scope (scope_of inner) (region goal names gives) (take count coming) in
          in_frame Join true count goal coming enough below tt
          (ap (λ l. one_goal span l ∷ []) (sym same ∙ sym (flat_all-parts blank callee scope (take count coming))) ∙ ap (λ k. part_of blank callee k (scope_of levels) goal) (sym is))
          (omega arith) (one_more (keeps_of frames) (length nodes))

      pub conjunction_up : (count : ℕ)
          → IsTakenUp blank callee (ConjunctionForm count) at span found frames levels nodes (frame_of (if keeps_of frames then Keep else Join) true span count (length nodes) ∷ less frames) inner nodes
      conjunction_up count = conjunction_by (keeps_of frames) refl count

    -- A quantifier's variables hide others.
    pub quantified_up : drop 1 inner ≡ levels → ((name : ℕ) → shown name inner ≡ or_else (at_of name found) (shown name levels)) → (variables : List ℕ)
        → IsTakenUp blank callee (QuantifiedForm variables) at span found frames levels nodes
        (frame_of (Quantify (map (λ one. one.at) found)) false span 1 (length nodes) ∷ less frames) inner nodes
    quantified_up below names variables [] enough gives = absurd (omega (arith, enough))
    quantified_up below names variables (first ∷ rest) enough gives =
        let goal = Quantified variables first span in
        let known = introduced blank goal in
        let scope : (name : ℕ) → at_of name (known ++ scope_of levels) ≡ at_of name (scope_of inner) =
        λ name. at_of-append name known (scope_of levels) ∙ ap (λ l. or_else (at_of name l) (shown name levels)) (sym gives) ∙ sym (names name) in
        let same = flat-same blank callee (known ++ scope_of levels) (scope_of inner) scope first in
        in_frame (Quantify (map (λ one. one.at) found)) false 1 goal (first ∷ rest) enough below refl
        (ap (λ l. QuantifiedNode (map (λ one. one.at) found) (one_goal (written_span first) l) span ∷ []) (sym same)
        ∙ ap (λ l. QuantifiedNode (map (λ one. one.at) l) (one_goal (written_span first) (flat blank callee (known ++ scope_of levels) first)) span ∷ []) gives
        ∙ single (keeps_of frames) (scope_of levels) goal _ refl)
        (omega arith) (one_more (keeps_of frames) (length nodes))

    -- the same for a form, frames and a number of goals as the code has them
    pub placed : (form given_form : Form) (frame other : Frame) (later between : List Frame) → given_form ≡ form → later ≡ other ∷ between → other ≡ frame → between ≡ less frames
        → IsTakenUp blank callee form at span found frames levels nodes (frame ∷ less frames) inner nodes
        → IsTakenUp blank callee given_form at span found frames levels nodes later inner nodes
    placed form given_form frame other later between is put same fewer up =
        let P : Form → Type 0 = λ f. IsTakenUp blank callee f at span found frames levels nodes later inner nodes in
        let Q : List Frame → Type 0 = λ l. IsTakenUp blank callee form at span found frames levels nodes l inner nodes in
        subst P (sym is) (subst Q (sym (put ∙ ap (λ f. f ∷ between) same ∙ ap (λ l. frame ∷ l) fewer)) up)

    pub placed_both : (given_form : Form) (start : ℕ) (later between : List Frame) → given_form ≡ ConditionalForm
        → later ≡ frame_of Keep false span 2 start ∷ frame_of Choose false span 1 start ∷ between → start ≡ length nodes → between ≡ less frames
        → IsTakenUp blank callee ConditionalForm at span found frames levels nodes
        (frame_of Keep false span 2 (length nodes) ∷ frame_of Choose false span 1 (length nodes) ∷ less frames) inner nodes
        → IsTakenUp blank callee given_form at span found frames levels nodes later inner nodes
    placed_both given_form start later between is put same fewer up =
        let P : Form → Type 0 = λ f. IsTakenUp blank callee f at span found frames levels nodes later inner nodes in
        let Q : List Frame → Type 0 = λ l. IsTakenUp blank callee ConditionalForm at span found frames levels nodes l inner nodes in
        subst P (sym is)
        (subst Q
        (sym (put ∙ ap (λ n. frame_of Keep false span 2 n ∷ frame_of Choose false span 1 n ∷ between) same
        ∙ ap (λ l. frame_of Keep false span 2 (length nodes) ∷ frame_of Choose false span 1 (length nodes) ∷ l) fewer))
        up)

    -- both frames of an if-then-else
    pub conditional_up : drop 1 inner ≡ [] ∷ levels → ((name : ℕ) → shown name inner ≡ or_else (shown name levels) (at_of name found))
        → IsTakenUp blank callee ConditionalForm at span found frames levels nodes
        (frame_of Keep false span 2 (length nodes) ∷ frame_of Choose false span 1 (length nodes) ∷ less frames) inner nodes
    conditional_up below names [] enough gives = absurd (omega (arith, enough))
    conditional_up below names (condition ∷ []) enough gives = absurd (omega (arith, enough))
    conditional_up below names (condition ∷ then_part ∷ []) enough gives = absurd (omega (arith, enough))
    conditional_up below names (condition ∷ then_part ∷ else_part ∷ rest) enough gives =
        let goal = Conditional condition then_part else_part span in
        let scope = scope_of levels ++ introduced blank goal in
        let same = region goal names gives in
        let whole = frame_of Choose false span 1 (length nodes) in
        let first : List Node = parts_of blank callee false (scope_of inner) (condition ∷ then_part ∷ []) in
        let others : List Node = parts_of blank callee false (scope_of levels) (else_part ∷ []) in
        let becomes : closes_to Choose span (first ++ others) ≡ part_of blank callee (keeps_of frames) (scope_of levels) goal =
        ap (λ l. ConditionalNode (one_goal (written_span condition) l) (one_goal (written_span then_part) (flat blank callee (scope_of inner) then_part))
        (one_goal (written_span else_part) (flat blank callee (scope_of levels) else_part)) span ∷ [])
        (sym (flat-same blank callee scope (scope_of inner) same condition))
        ∙ ap (λ l. ConditionalNode (one_goal (written_span condition) (flat blank callee scope condition)) (one_goal (written_span then_part) l)
        (one_goal (written_span else_part) (flat blank callee (scope_of levels) else_part)) span ∷ [])
        (sym (flat-same blank callee scope (scope_of inner) same then_part))
        ∙ single (keeps_of frames) (scope_of levels) goal _ refl in (
          ap (λ l. finished blank callee (whole ∷ less frames) (else_part ∷ rest) l (nodes ++ first)) below
              ∙ ap (λ l. finished blank callee (less frames) rest levels (closed Choose span (length nodes) l)) (append_assoc nodes first others)
              ∙ ap (finished blank callee (less frames) rest levels) (closed_behind Choose span nodes (first ++ others) refl ∙ ap (λ l. nodes ++ l) becomes)
              ∙ taken blank callee frames goal rest levels nodes ready,
          λ filled. (omega arith, (omega arith, filled_more (less frames) _ _ (one_more (keeps_of frames) (length nodes)) (filled_less frames (length nodes) ready filled))),
          λ coming.
              let P : ℕ → Type 0 = λ n. AreComing (less frames) n in
              (omega arith, (omega arith, subst P (let e : length rest ≡ suc (suc (suc (length rest))) - 2 - 1 = omega arith in e) (coming_less frames (length rest) ready coming))),
        )

  -- goals without sub-goals

  -- the goal of an entry without sub-goals
  abbrev pub leaf_of : Form → ℕ → Span → Written
  leaf_of TruthForm at span = Truth span
  leaf_of FailureForm at span = Failure span
  leaf_of (EqualForm left right) at span = Equal at left right span
  leaf_of (ComparedForm name left right) at span = Compared at name left right span
  leaf_of (CalledForm term) at span = called_goal at term span
  leaf_of OutsideForm at span = OutsideProfile span
  leaf_of other at span = WrongForm span

  abbrev pub IsLeaf : Form → Type 0
  IsLeaf (ConjunctionForm count) = ⊥
  IsLeaf (ParallelForm count) = ⊥
  IsLeaf (DisjunctionForm count) = ⊥
  IsLeaf ConditionalForm = ⊥
  IsLeaf NegatedForm = ⊥
  IsLeaf (QuantifiedForm variables) = ⊥
  IsLeaf other = Unit {0}

  leaf_reads : (form : Form) (at : ℕ) (span : Span) (coming : List Written) → IsLeaf form → with_form form at span coming ≡ leaf_of form at span ∷ coming
  leaf_reads TruthForm at span coming leaf = refl
  leaf_reads FailureForm at span coming leaf = refl
  leaf_reads (EqualForm left right) at span coming leaf = refl
  leaf_reads (ComparedForm name left right) at span coming leaf = refl
  leaf_reads (CalledForm term) at span coming leaf = refl
  leaf_reads (ConjunctionForm count) at span coming leaf = absurd leaf
  leaf_reads (ParallelForm count) at span coming leaf = absurd leaf
  leaf_reads (DisjunctionForm count) at span coming leaf = absurd leaf
  leaf_reads ConditionalForm at span coming leaf = absurd leaf
  leaf_reads NegatedForm at span coming leaf = absurd leaf
  leaf_reads (QuantifiedForm variables) at span coming leaf = absurd leaf
  leaf_reads NoForm at span coming leaf = refl
  leaf_reads OutsideForm at span coming leaf = refl

  leaf_flat : (form : Form) (at : ℕ) (span : Span) (scope : List Occurrence) → IsLeaf form
      → simple span (simple_goals blank callee form at (scope ++ introduced blank (leaf_of form at span))) ≡ flat blank callee scope (leaf_of form at span)
  leaf_flat TruthForm at span scope leaf = refl
  leaf_flat FailureForm at span scope leaf = refl
  leaf_flat (EqualForm left right) at span scope leaf = refl
  leaf_flat (ComparedForm name left right) at span scope leaf = refl
  leaf_flat (CalledForm (Variable name own)) at span scope leaf = refl
  leaf_flat (CalledForm (Integer value own)) at span scope leaf = refl
  leaf_flat (CalledForm (Text text own)) at span scope leaf = refl
  leaf_flat (CalledForm (Application name qualifier arguments own)) at span scope leaf = refl
  leaf_flat (ConjunctionForm count) at span scope leaf = absurd leaf
  leaf_flat (ParallelForm count) at span scope leaf = absurd leaf
  leaf_flat (DisjunctionForm count) at span scope leaf = absurd leaf
  leaf_flat ConditionalForm at span scope leaf = absurd leaf
  leaf_flat NegatedForm at span scope leaf = absurd leaf
  leaf_flat (QuantifiedForm variables) at span scope leaf = absurd leaf
  leaf_flat NoForm at span scope leaf = refl
  leaf_flat OutsideForm at span scope leaf = refl

  leaf_span : (form : Form) (at : ℕ) (span : Span) → written_span (leaf_of form at span) ≡ span
  leaf_span TruthForm at span = refl
  leaf_span FailureForm at span = refl
  leaf_span (EqualForm left right) at span = refl
  leaf_span (ComparedForm name left right) at span = refl
  leaf_span (CalledForm (Variable name own)) at span = refl
  leaf_span (CalledForm (Integer value own)) at span = refl
  leaf_span (CalledForm (Text text own)) at span = refl
  leaf_span (CalledForm (Application name qualifier arguments own)) at span = refl
  leaf_span (ConjunctionForm count) at span = refl
  leaf_span (ParallelForm count) at span = refl
  leaf_span (DisjunctionForm count) at span = refl
  leaf_span ConditionalForm at span = refl
  leaf_span NegatedForm at span = refl
  leaf_span (QuantifiedForm variables) at span = refl
  leaf_span NoForm at span = refl
  leaf_span OutsideForm at span = refl

  leaf_gives : (form : Form) (at : ℕ) (span : Span) (found : List Occurrence) → IsLeaf form → Gives blank (leaf_of form at span) found
      → (name : ℕ) → at_of name found ≡ at_of name (introduced blank (leaf_of form at span))
  leaf_gives TruthForm at span found leaf gives = gives
  leaf_gives FailureForm at span found leaf gives = gives
  leaf_gives (EqualForm left right) at span found leaf gives = gives
  leaf_gives (ComparedForm name left right) at span found leaf gives = gives
  leaf_gives (CalledForm (Variable name own)) at span found leaf gives = gives
  leaf_gives (CalledForm (Integer value own)) at span found leaf gives = gives
  leaf_gives (CalledForm (Text text own)) at span found leaf gives = gives
  leaf_gives (CalledForm (Application name qualifier arguments own)) at span found leaf gives = gives
  leaf_gives (ConjunctionForm count) at span found leaf gives = absurd leaf
  leaf_gives (ParallelForm count) at span found leaf gives = absurd leaf
  leaf_gives (DisjunctionForm count) at span found leaf gives = absurd leaf
  leaf_gives ConditionalForm at span found leaf gives = absurd leaf
  leaf_gives NegatedForm at span found leaf gives = absurd leaf
  leaf_gives (QuantifiedForm variables) at span found leaf gives = absurd leaf
  leaf_gives NoForm at span found leaf gives = gives
  leaf_gives OutsideForm at span found leaf gives = gives

  kept_part : (keeps : Bool) (scope : List Occurrence) (goal : Written) (span : Span) (goals : List Node) → written_span goal ≡ span
      → goals ≡ flat blank callee scope goal → kept keeps span goals ≡ part_of blank callee keeps scope goal
  kept_part true scope goal span goals same is = is
  kept_part false scope goal span goals same is = ap (λ s. one_goal s goals ∷ []) (sym same) ∙ ap (λ l. one_goal (written_span goal) l ∷ []) is

  kept_length : (keeps : Bool) (span : Span) (nodes goals : List Node) → length nodes + least keeps ≤ length (nodes ++ kept keeps span goals)
  kept_length true span nodes goals = omega (arith, length-append nodes goals)
  kept_length false span nodes goals = omega (arith, length-append nodes (one_goal span goals ∷ []))

  pub leaf_up : (form : Form) (at : ℕ) (span : Span) (found : List Occurrence) (frames : List Frame) (levels : List (List Occurrence)) (nodes later : List Node)
      → IsReady frames → IsLeaf form
      → ((scope : List Occurrence) → ((name : ℕ) → at_of name scope ≡ or_else (shown name levels) (at_of name found))
      → later ≡ nodes ++ kept (keeps_of frames) span (simple span (simple_goals blank callee form at scope)))
      → IsTakenUp blank callee form at span found frames levels nodes (less frames) levels later
  leaf_up form at span found frames levels nodes later ready leaf put coming enough gives =
      let goal = leaf_of form at span in
      let reads = leaf_reads form at span coming leaf in
      let P : List Written → Type 0 = λ l. Gives blank (first_goal l) found in
      let given_here = leaf_gives form at span found leaf (subst P reads gives) in
      let scope = scope_of levels ++ introduced blank goal in
      let names : (name : ℕ) → at_of name scope ≡ or_else (shown name levels) (at_of name found) =
      λ name. at_of-append name (scope_of levels) (introduced blank goal) ∙ ap (or_else (shown name levels)) (sym (given_here name)) in
      let is = put scope names in
      let part = kept_part (keeps_of frames) (scope_of levels) goal span _ (leaf_span form at span) (leaf_flat form at span (scope_of levels) leaf) in
      let more : length nodes + least (keeps_of frames) ≤ length later =
      let Q : List Node → Type 0 = λ l. length nodes + least (keeps_of frames) ≤ length l in subst Q (sym is) (kept_length (keeps_of frames) span nodes _) in (
        ap (finished blank callee (less frames) coming levels) (is ∙ ap (λ l. nodes ++ l) part)
            ∙ taken blank callee frames goal coming levels nodes ready
            ∙ ap (λ l. finished blank callee frames l levels nodes) (sym reads),
        λ filled. filled_more (less frames) _ _ more (filled_less frames (length nodes) ready filled),
        λ counted. let R : List Written → Type 0 = λ l. AreComing frames (length l) in coming_less frames (length coming) ready (subst R reads counted),
      )

  pub is_leaf : (form : Form) → ((x : ℕ) → form ≡ ConjunctionForm x → ⊥) → ((x : ℕ) → form ≡ ParallelForm x → ⊥) → ((x : ℕ) → form ≡ DisjunctionForm x → ⊥)
      → (form ≡ ConditionalForm → ⊥) → (form ≡ NegatedForm → ⊥) → ((x : List ℕ) → form ≡ QuantifiedForm x → ⊥) → IsLeaf form
  is_leaf TruthForm a b c d e f = tt
  is_leaf FailureForm a b c d e f = tt
  is_leaf (EqualForm left right) a b c d e f = tt
  is_leaf (ComparedForm name left right) a b c d e f = tt
  is_leaf (CalledForm term) a b c d e f = tt
  is_leaf (ConjunctionForm count) a b c d e f = a count refl
  is_leaf (ParallelForm count) a b c d e f = b count refl
  is_leaf (DisjunctionForm count) a b c d e f = c count refl
  is_leaf ConditionalForm a b c d e f = d refl
  is_leaf NegatedForm a b c d e f = e refl
  is_leaf (QuantifiedForm variables) a b c d e f = f variables refl
  is_leaf NoForm a b c d e f = tt
  is_leaf OutsideForm a b c d e f = tt

  -- the same for frames and levels as the code has them
  pub leaf_placed : (form : Form) (at : ℕ) (span : Span) (found : List Occurrence) (frames later_frames : List Frame) (levels later_levels : List (List Occurrence)) (nodes later : List Node)
      → later_frames ≡ less frames → later_levels ≡ levels
      → IsTakenUp blank callee form at span found frames levels nodes (less frames) levels later
      → IsTakenUp blank callee form at span found frames levels nodes later_frames later_levels later
  leaf_placed form at span found frames later_frames levels later_levels nodes later fewer same up =
      let P : List Frame → Type 0 = λ l. IsTakenUp blank callee form at span found frames levels nodes l later_levels later in
      let Q : List (List Occurrence) → Type 0 = λ l. IsTakenUp blank callee form at span found frames levels nodes (less frames) l later in
      subst P (sym fewer) (subst Q (sym same) up)
