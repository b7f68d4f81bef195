-- What is left to do for conjuncts leads to what comes of them side by side.
use Rattle.std.specs.Prelude.{◌≡◌, ◌+◌, ℕ, suc, Bool, true, false, List, [], ◌∷◌, ◌++◌, length, map, Option, Some, refl, if◌then◌else◌}
use Rattle.std.specs.List.{filter, flat_map}
use Rattle.std.proofs.Common.{◌∙◌, ap, sym, arith}
use Rattle.std.proofs.lemmas.List.{append_assoc, append-nil, map-append, length-append, length-map}
use Rattle.merc_base.specs.declared.place.Span.{Span}
use Rattle.merc_graded_tree.specs.declared.basic.Site.{Site}
use Rattle.merc_graded_tree.specs.declared.entries.Root.TheVariants.{Conjunction as ConjunctionRoot}
use Rattle.merc_graded_tree.specs.declared.entries.Running.TheVariants.{Parallel}
use Rattle.merc_graded_tree.specs.Nodes.{Node, node, Conjunction, nodes_of, list_of, outputs_of, category_of, span_of}
use Rattle.merc_graded_tree.specs.Roots.{labelled}
use Rattle.merc_graded_tree.specs.RootLaws.{nodes_of-list_of}
use Rattle.merc_graded_tree.specs.Variables.{in_node}
use Rattle.merc_par_split.specs.Constructs.{LeavesConjuncts, site_tasks}
use Rattle.merc_rights.specs.Members.{wait_shares, waits_at, signals_at, move_of}
use Rattle.merc_par_split.specs.Outcomes.{outcome, side_by_side}
use Rattle.merc_rights.specs.Waits.{rights_of, fresh, moves, stays}
use Rattle.merc_rights.specs.Rights.{Right, right_to, used_in, signals_of, wait_at, between}
use Rattle.merc_rights.specs.Rows.{row_of, each_from}
use Rattle.merc_par_split.specs.Sites.{site_info, count, cells_of, signal_moves, are_for}
use Rattle.merc_par_split.specs.Tasks.{with_outcome, after_all, shares_of, shared, member_tasks, relabelled, framed}
use Rattle.merc_rights.specs.declared.rights.Awaited.{Awaited}
use Rattle.merc_rights.specs.declared.sites.SiteInfo.{SiteInfo}
use Rattle.merc_par_split.specs.declared.tasks.Placing.{Placing}
use Rattle.merc_par_split.specs.declared.tasks.Task.{Task}
use Rattle.merc_par_split.specs.declared.tasks.Task.TheVariants.{Waits}
use Rattle.merc_rights.proofs.Indexes.{row-append}
use Rattle.merc_par_split.proofs.ShareLaws.{outcome-same}
use Rattle.merc_par_split.proofs.StepLaws.{at_with, after-append, members_done, framed_done}
use Rattle.merc_par_split.proofs.ConstructLaws.{share-count, entered_as}
use Rattle.merc_rights.proofs.FlatLaws.{flat-append}
use Rattle.merc_par_split.proofs.ConjunctLaws.{Stands, found_waits, moved_waits, moved_fresh}
use Rattle.merc_par_split.proofs.SiteLaws.{found_signals, found_cells, found_moves, moved_moves, count-nodes}
use Rattle.merc_rights.specs.Groups.{numbered}

used-append : (first : Node) (one other : List Right) → used_in first (one ++ other) ≡ used_in first one ++ used_in first other
used-append first [] other = refl
used-append first (next ∷ one) other = ap (λ l. if in_node first next.variable then next ∷ l else l) (used-append first one other) ∙ by (in_node first next.variable)
  where
    by : (b : Bool) → (if b then next ∷ (used_in first one ++ used_in first other) else used_in first one ++ used_in first other)
        ≡ (if b then next ∷ used_in first one else used_in first one) ++ used_in first other
    by true = refl
    by false = refl

module _ (goals : List Node) (outputs : List ℕ) (moved : List (ℕ × Right)) (signals : List Right) (waits : List Awaited)
    (by_variable : (variable : ℕ) → row_of variable moved ≡ row_of variable (map (λ right. (right.variable, right)) signals))
    (rows : List (ℕ × Awaited)) (signal_rows : List (ℕ × Right))
    (are_rows : rows ≡ each_from (λ n goal. flat_map (waits_at goals n) (outputs_of goal)) 0 goals ++ flat_map (wait_shares goals) (filter (moves (nodes_of goals)) waits))
    (are_signals : signal_rows ≡ each_from (λ n goal. flat_map (signals_at goals outputs moved n) (outputs_of goal)) 0 goals) where
  abbrev inside : List Right
  inside = rights_of (filter (moves (nodes_of goals)) waits)

  module _ (front : List Node) (first : Node) (rest : List Node) (number : ℕ) (stands : Stands goals front first rest number) where
    waits_here : row_of number rows ≡ map fresh (used_in first (map (right_to (suc number)) (flat_map outputs_of front) ++ inside))
    waits_here =
        let found = each_from (λ n goal. flat_map (waits_at goals n) (outputs_of goal)) 0 goals in
        let more = flat_map (wait_shares goals) (filter (moves (nodes_of goals)) waits) in
        let left = map (right_to (suc number)) (flat_map outputs_of front) in
        ap (λ r. row_of number r) are_rows ∙ row-append number found more
        ∙ ap (λ r. r ++ row_of number more) (found_waits goals front first rest number stands)
        ∙ ap (λ r. map fresh (used_in first left) ++ r)
        (moved_waits goals front first rest number stands (filter (moves (nodes_of goals)) waits) ∙ moved_fresh (nodes_of goals) first waits)
        ∙ sym (map-append fresh (used_in first left) (used_in first inside))
        ∙ ap (map fresh) (sym (used-append first left inside))

    signals_here : row_of number signal_rows ≡ flat_map (signals_of (suc (suc number)) (nodes_of rest) outputs signals) (outputs_of first)
    signals_here = ap (λ r. row_of number r) are_signals ∙ found_signals goals outputs moved signals by_variable front first rest number stands

  pub sides : (front rest : List Node) (number site : ℕ) (left : List ℕ) → goals ≡ front ++ rest → length front ≡ number → flat_map outputs_of front ≡ left
      → shared site (shares_of number rest rows signal_rows [])
      ≡ (list_of (side_by_side site (suc number) outputs inside signals left (nodes_of rest)).0, (side_by_side site (suc number) outputs inside signals left (nodes_of rest)).1)
  sides front [] number site left are place bound = refl
  sides front (first ∷ rest) number site left are place bound =
      let own_waits = map fresh (used_in first (map (right_to (suc number)) left ++ inside)) in
      let own_signals = flat_map (signals_of (suc (suc number)) (nodes_of rest) outputs signals) (outputs_of first) in
      let one = outcome site own_waits own_signals first in
      let more = λ (n : ℕ). shared n (shares_of (suc number) rest rows signal_rows []) in
      let stands : Stands goals front first rest number = record { are = are; place = place } in
      ap (λ (o : Node × List SiteInfo). (o.0 ∷ (more (site + length o.1)).0, o.1 ++ (more (site + length o.1)).1))
      (outcome-same site (row_of number rows) own_waits (row_of number signal_rows) own_signals first
      (waits_here front first rest number stands ∙ ap (λ l. map fresh (used_in first (map (right_to (suc number)) l ++ inside))) bound)
      (signals_here front first rest number stands))
      ∙ ap (λ (m : List Node × List SiteInfo). (one.0 ∷ m.0, one.1 ++ m.1))
      (sides (front ++ first ∷ []) rest (suc number) (site + length one.1) (left ++ outputs_of first)
      (are ∙ sym (append_assoc front (first ∷ []) rest))
      (let e = length-append front (first ∷ []) in omega (arith, e, place))
      (flat-append outputs_of front (first ∷ []) ∙ ap (λ l. l ++ (outputs_of first ++ [])) bound ∙ ap (λ l. left ++ l) (append-nil (outputs_of first))))

map-twice : (outputs : List ℕ) (span : Span) → map (wait_at span) (map (right_to 0) outputs) ≡ map (λ variable. wait_at span (right_to 0 variable)) outputs
map-twice [] span = refl
map-twice (first ∷ rest) span = ap (λ l. wait_at span (right_to 0 first) ∷ l) (map-twice rest span)

abbrev pub site_frame : Placing → List Node → List SiteInfo → List Task → List Task
site_frame placing goals sites inner =
    framed placing.goal (ConjunctionRoot (Parallel (Some (record { number = length sites }))) (length goals)) (rights_of (filter (stays (nodes_of goals)) placing.waits)) inner
    (Waits (map (right_to 0) (outputs_of placing.goal)) (span_of placing.goal)) (length (outputs_of placing.goal))

module _ (placing : Placing) (goals : List Node) (sites sites' : List SiteInfo) (tasks tasks' : List Task) (leaves : LeavesConjuncts placing goals sites sites' tasks tasks') where
  abbrev pub conjunct_tasks : List Task
  conjunct_tasks = member_tasks placing.first (shares_of 0 goals leaves.with_moved.waits.items (numbered leaves.with_moved.signals.items) [])

  pub tasks_are : tasks' ≡ site_frame placing goals sites conjunct_tasks ++ tasks
  tasks_are =
      let before = rights_of (filter (stays (nodes_of goals)) placing.waits) in
      leaves.left ∙ ap (λ l. Waits before (span_of placing.goal) ∷ l) (sym (append_assoc conjunct_tasks (site_tasks placing.goal (length goals) (length sites) (length before)) tasks))

  info_is : sites' ≡ sites ++ site_info (outputs_of placing.goal) (rights_of (filter (moves (nodes_of goals)) placing.waits)) placing.signals (nodes_of goals) ∷ []
  info_is =
      let outputs = outputs_of placing.goal in
      let inside = filter (moves (nodes_of goals)) placing.waits in
      let finds = leaves.finds in
      let adds = leaves.adds in
      let cells = adds.more_cells ∙ append-nil leaves.found.cells.items ∙ finds.are_cells ∙ found_cells goals outputs finds.moved placing.signals finds.by_variable [] goals 0 refl refl in
      let move = adds.more_moves ∙ ap (λ l. l ++ map move_of (flat_map (wait_shares goals) inside)) (finds.are_moves ∙ found_moves goals outputs finds.moved placing.signals finds.by_variable goals 0)
      ∙ ap (λ l. signal_moves (are_for placing.signals) 1 (nodes_of goals) ++ l) (moved_moves goals inside) in
      leaves.told
      ∙ ap (λ n. sites ++ record { children = n; cells = leaves.with_moved.cells.items; moves = leaves.with_moved.moves.items } ∷ []) (count-nodes goals)
      ∙ ap (λ c. sites ++ record { children = count (nodes_of goals); cells = c; moves = leaves.with_moved.moves.items } ∷ []) cells
      ∙ ap (λ m. sites ++ record { children = count (nodes_of goals); cells = cells_of 1 outputs (nodes_of goals); moves = m } ∷ []) move

  pub conjuncts_same : (unknown : Option Site) (before : List Node)
      → after_all tasks' (at_with before sites') ≡ after_all tasks (with_outcome (at_with before sites) (entered_as placing (Conjunction (Parallel unknown) (nodes_of goals)) (length sites)))
  conjuncts_same unknown before =
      let outputs = outputs_of placing.goal in
      let span = span_of placing.goal in
      let inside = rights_of (filter (moves (nodes_of goals)) placing.waits) in
      let stay = rights_of (filter (stays (nodes_of goals)) placing.waits) in
      let finds = leaves.finds in
      let adds = leaves.adds in
      let rows = leaves.with_moved.waits.items in
      let signal_rows = numbered leaves.with_moved.signals.items in
      let info = site_info outputs inside placing.signals (nodes_of goals) in
      let now = sites ++ info ∷ [] in
      let root = ConjunctionRoot (Parallel (Some (record { number = length sites }))) (length goals) in
      let puts = map (wait_at span) (map (right_to 0) outputs) in
      let behind = Waits (map (right_to 0) outputs) span in
      let shares = shares_of 0 goals rows signal_rows [] in
      let inner = side_by_side (suc (length sites)) 1 outputs inside placing.signals [] (nodes_of goals) in
      let come = shared (length now) shares in
      let size : length outputs ≡ length puts = sym (length-map (map (right_to 0) outputs) (wait_at span) ∙ length-map outputs (right_to 0)) in
      let more : length now ≡ suc (length sites) = let e = length-append sites (info ∷ []) in omega (arith, e) in
      let is = ap (λ n. shared n shares) more
      ∙ sides goals outputs finds.moved placing.signals placing.waits finds.by_variable rows signal_rows
      (adds.more_waits ∙ ap (λ l. l ++ flat_map (wait_shares goals) (filter (moves (nodes_of goals)) placing.waits)) finds.are_waits)
      (adds.more_signals ∙ append-nil (numbered leaves.found.signals.items) ∙ finds.are_signals) [] goals 0 (suc (length sites)) [] refl refl refl in
      ap (λ t. after_all t (at_with before sites')) tasks_are
      ∙ after-append (site_frame placing goals sites conjunct_tasks) tasks (at_with before sites')
      ∙ ap (λ p. after_all tasks p)
      (ap (λ s. after_all (site_frame placing goals sites conjunct_tasks) (at_with before s)) info_is
      ∙ ap (λ n. after_all (framed placing.goal root stay conjunct_tasks behind n) (at_with before now)) size
      ∙ framed_done placing.goal root stay conjunct_tasks behind puts come.0 come.1 (at_with before now)
      (members_done placing.first shares (at_with (before ++ map (wait_at span) stay) now)) (λ p. refl) (sym (share-count 0 (length now) goals rows signal_rows []))
      ∙ ap (λ (m : List Node × List SiteInfo). at_with (before ++ between stay (labelled (relabelled placing.goal root) m.0) puts ∷ []) (now ++ m.1)) is
      ∙ ap (λ n. at_with (before ++ between stay (node (Conjunction (Parallel (Some (record { number = length sites }))) n) outputs (category_of placing.goal) span) puts ∷ []) (now ++ inner.1)) (nodes_of-list_of inner.0)
      ∙ ap (λ p. at_with (before ++ between stay (node (Conjunction (Parallel (Some (record { number = length sites }))) inner.0) outputs (category_of placing.goal) span) p ∷ []) (now ++ inner.1)) (map-twice outputs span)
      ∙ ap (λ s. at_with (before ++ between stay (node (Conjunction (Parallel (Some (record { number = length sites }))) inner.0) outputs (category_of placing.goal) span)
      (map (λ variable. wait_at span (right_to 0 variable)) outputs) ∷ []) s) (append_assoc sites (info ∷ []) inner.1))
