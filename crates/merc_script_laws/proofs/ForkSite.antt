-- A fork fits: its cells, and the rights that move.
use Rattle.std.proofs.Common.{◌≡◌, ◌⊎◌, inl, inr, ℕ, suc, ◌+◌, ◌≤◌, ◌<◌, Bool, true, false, List, [], ◌∷◌, ◌++◌, map, filter, flat_map, Option, Some, None, refl, ap, sym, subst, ◌∙◌, arith}
use Rattle.std.specs.List.{AllByRecursion}
use Rattle.merc_graded_tree.specs.declared.basic.Procedure.{Procedure}
use Rattle.merc_graded_tree.specs.Nodes.{Node, Nodes, no_nodes, more_nodes, outputs_of}
use Rattle.merc_graded_tree.specs.Variables.{among, in_node}
use Rattle.merc_meaning.specs.Runs.{Program}
use Rattle.merc_script.specs.declared.cells.Move.{Move}
use Rattle.merc_core.specs.Rights.{has, moved}
use Rattle.merc_core.specs.WellFormed.{AreDistinct}
use Rattle.merc_par_split.specs.Forks.{forks}
use Rattle.merc_rights.specs.declared.sites.CellInfo.{CellInfo}
use Rattle.merc_rights.specs.declared.sites.Moved.{Moved}
use Rattle.merc_rights.specs.declared.sites.SiteInfo.{SiteInfo}
use Rattle.merc_rights.specs.Rights.{Right}
use Rattle.merc_par_split.specs.Sites.{count, signal_moves, wait_moves}
use Rattle.merc_par_split.specs.Split.{placed_conjuncts}
use Rattle.merc_plan.specs.Branch.{HeldWait, HeldSignal, Hold, NamedCell, Fork, names, Gift, BranchCourse}
use Rattle.merc_plan.specs.Hold.{child_for, moves_if, moves_from, fork_of}
use Rattle.merc_plan.specs.Branches.{Plan, conjunct_branches}
use Rattle.merc_plan.proofs.Judging.{kid_count, NamedFits, MoveGoes, SiteFits, OwnFits}
use Rattle.merc_script_laws.specs.Parallel.{most_conjuncts}
use Rattle.merc_script_laws.proofs.Bonds.{Names, Rightful}
use Rattle.merc_script_laws.proofs.Members.{Member, member_either, joined_from, each_member, distinct_passing}
use Rattle.merc_script_laws.proofs.Cells.{names_distinct, name_low, name_apart, goes, signals_moved, waits_moved}
use Rattle.merc_script_laws.proofs.Sites.{nth, nth_low, nth_high}
use Rattle.merc_script_laws.proofs.SiteMoves.{signal_child, wait_child}
use Rattle.merc_script_laws.proofs.Kids.{member_signs, member_owed, low_signals, low_waits, info, cells, own, fact_of}

-- A move is of a right that is held, into the conjunct to which rights for its variable go.
abbrev pub SignalMoves : List Moved → Hold → Move → Type 0
SignalMoves moves hold m = (r : HeldSignal) × (Member r hold.signals × ((k : ℕ) × ((child_for true r.variable moves ≡ Some k) × (m ≡ record { cell = r.cell; child = k; signal = true }))))

abbrev pub WaitMoves : List Moved → Hold → Move → Type 0
WaitMoves moves hold m = (r : HeldWait) × (Member r hold.waits × ((k : ℕ) × ((child_for false r.variable moves ≡ Some k) × (m ≡ record { cell = r.cell; child = k; signal = false }))))

one_move : (signal : Bool) (c : ℕ) (o : Option ℕ) (m : Move) → Member m (moves_if signal c o) → (k : ℕ) × ((o ≡ Some k) × (m ≡ record { cell = c; child = k; signal = signal }))
one_move signal c None m h = absurd h
one_move signal c (Some k) m (inl e) = (k, (refl, e))
one_move signal c (Some k) m (inr e) = absurd e

pub move_of : (moves : List Moved) (hold : Hold) (m : Move) → Member m (moves_from moves hold) → SignalMoves moves hold m ⊎ WaitMoves moves hold m
move_of moves hold m h = on (member_either m signals waits h) where
  signals : List Move
  signals = flat_map (λ (right : HeldSignal). moves_if true right.cell (child_for true right.variable moves)) hold.signals

  waits : List Move
  waits = flat_map (λ (right : HeldWait). moves_if false right.cell (child_for false right.variable moves)) hold.waits

  on : Member m signals ⊎ Member m waits → SignalMoves moves hold m ⊎ WaitMoves moves hold m
  on (inl i) =
      let r = joined_from (λ (right : HeldSignal). moves_if true right.cell (child_for true right.variable moves)) m hold.signals i in
      let k = one_move true r.0.cell (child_for true r.0.variable moves) m r.1.1 in
      inl (r.0, (r.1.0, (k.0, (k.1.0, k.1.1))))
  on (inr i) =
      let r = joined_from (λ (right : HeldWait). moves_if false right.cell (child_for false right.variable moves)) m hold.waits i in
      let k = one_move false r.0.cell (child_for false r.0.variable moves) m r.1.1 in
      inr (r.0, (r.1.0, (k.0, (k.1.0, k.1.1))))

module _ (goals forked : Nodes) (outputs : List ℕ) (w s : List Right) (hold : Hold) (names_are : Names hold) where
  abbrev here_moves : List Moved
  here_moves = (info goals outputs w s hold).moves

  abbrev here_fork : Fork
  here_fork = fork_of (info goals outputs w s hold) forked hold

  in_range : (k : ℕ) (n : Node) → nth 1 k goals ≡ Some n → (1 ≤ k) × (k ≤ count goals)
  in_range k n p = let l = nth_low 1 k n goals p in let h = nth_high 1 k n goals p in (l, omega (arith, h))

  pub cells_fit : AllByRecursion (NamedFits (count goals)) (own goals outputs w s hold)
  cells_fit = each_member (NamedFits (count goals)) (own goals outputs w s hold) (λ one m.
      let f = fact_of goals outputs w s hold one m in
      let p = in_range f.0.producer f.1.0.maker f.1.0.is_maker in
      (subst (λ z. 1 ≤ z) (sym f.1.1.1.0) p.0, (subst (λ z. z ≤ count goals) (sym f.1.1.1.0) p.1, user one f.0 f.1.1.1.0 f.1.1.1.1 f.1.0.user))) where
        user : (one : NamedCell) (z : CellInfo) → one.producer ≡ z.producer → one.consumer ≡ z.consumer
            → ((z.consumer ≡ 0) × (among outputs z.variable ≡ true)) ⊎ ((z.producer < z.consumer) × ((m : Node) × ((nth 1 z.consumer goals ≡ Some m) × (in_node m z.variable ≡ true)))) → (one.consumer ≡ 0) ⊎ ((one.producer < one.consumer) × (one.consumer ≤ count goals))
        user one z p c (inl h) = inl (c ∙ h.0)
        user one z p c (inr h) = let l = h.0 in let u = (in_range z.consumer h.1.0 h.1.1.0).1 in inr (omega (arith, l, p, c), omega (arith, u, c))

  pub moves_once : (AreDistinct (moved true here_fork.moves)) × (AreDistinct (moved false here_fork.moves))
  moves_once = (
    subst AreDistinct (sym (signals_moved here_moves hold)) (distinct_passing (λ (right : HeldSignal). right.cell) (λ (right : HeldSignal). goes (child_for true right.variable here_moves)) hold.signals names_are.cells),
    subst AreDistinct (sym (waits_moved here_moves hold)) (distinct_passing (λ (right : HeldWait). right.cell) (λ (right : HeldWait). goes (child_for false right.variable here_moves)) hold.waits names_are.wait_cells),
  )

  low_move : (m : Move) → SignalMoves here_moves hold m ⊎ WaitMoves here_moves hold m → m.cell < hold.next
  low_move m (inl q) = subst (λ (z : Move). z.cell < hold.next) (sym q.1.1.1.1) (low_signals hold names_are q.0 q.1.0)
  low_move m (inr q) = subst (λ (z : Move). z.cell < hold.next) (sym q.1.1.1.1) (low_waits hold names_are q.0 q.1.0)

  pub moves_fresh : AllByRecursion (λ (m : Move). has m.cell (names (own goals outputs w s hold)) ≡ false) here_fork.moves
  moves_fresh = each_member (λ (m : Move). has m.cell (names (own goals outputs w s hold)) ≡ false) here_fork.moves (λ m h. name_apart hold.next (cells goals outputs w s hold) m.cell (low_move m (move_of here_moves hold m h)))

  pub moves_fit : (outs : List ℕ) (rights : ℕ → Bool) (held : List ℕ) (g : List Gift) → Rightful w s outs rights held g hold → AllByRecursion (MoveGoes (count goals) rights g held) here_fork.moves
  moves_fit outs rights held g q = each_member (MoveGoes (count goals) rights g held) here_fork.moves (λ m h. one m (move_of here_moves hold m h)) where
    one : (m : Move) → SignalMoves here_moves hold m ⊎ WaitMoves here_moves hold m → MoveGoes (count goals) rights g held m
    one m (inl (r, (i, (k, (c, e))))) =
        let f = signal_child outputs w s goals r.variable k c in
        let p = in_range k f.1.0 f.1.1.0 in
        subst (λ z. MoveGoes (count goals) rights g held z) (sym e) (p.0, (p.1, q.to_signal r.variable r.cell f.0 (member_signs hold r.variable r.cell r i refl refl)))
    one m (inr (r, (i, (k, (c, e))))) =
        let f = wait_child outputs w s goals r.variable k c in
        let p = in_range k f.1.0 f.1.1.0 in
        subst (λ z. MoveGoes (count goals) rights g held z) (sym e) (p.0, (p.1, q.to_wait r.variable r.cell r.value f.0 (member_owed hold r names_are.wait_variables i)))

  module _ (some : 1 ≤ count goals) (few : count goals ≤ most_conjuncts) where
    pub site_fits : (outs : List ℕ) (rights : ℕ → Bool) (held : List ℕ) (g : List Gift) → Rightful w s outs rights held g hold → SiteFits (count goals) rights g held here_fork
    site_fits outs rights held g q = record {
      some = some;
      few = few;
      cells = cells_fit;
      moves = moves_fit outs rights held g q;
      fresh = moves_fresh;
      distinct = names_distinct hold.next (cells goals outputs w s hold);
      signals_once = moves_once.0;
      waits_once = moves_once.1;
      apart = λ c r. name_apart hold.next (cells goals outputs w s hold) c (q.low c r);
    }

    pub own_site : OwnFits (count goals) hold.next here_fork
    own_site = record {
      some = some;
      few = few;
      cells = cells_fit;
      distinct = names_distinct hold.next (cells goals outputs w s hold);
      low = λ c h. name_low hold.next (cells goals outputs w s hold) c h;
    }

-- without rights that move nothing moves

no_signal_moves : (at : ℕ) (ns : Nodes) → signal_moves (λ x. false) at ns ≡ []
no_signal_moves at no_nodes = refl
no_signal_moves at (more_nodes n ns) = ap (λ l. map (λ x. record { variable = x; child = at; signal = true }) l ++ signal_moves (λ x. false) (suc at) ns) (none (outputs_of n)) ∙ no_signal_moves (suc at) ns where
  none : (xs : List ℕ) → filter (λ x. false) xs ≡ []
  none [] = refl
  none (x ∷ xs) = none xs

no_first : (rs : List HeldSignal) → flat_map (λ (right : HeldSignal). moves_if true right.cell None) rs ≡ []
no_first [] = refl
no_first (r ∷ rs) = no_first rs

no_last : (rs : List HeldWait) → flat_map (λ (right : HeldWait). moves_if false right.cell None) rs ≡ []
no_last [] = refl
no_last (r ∷ rs) = no_last rs

nothing_moves : (hold : Hold) → moves_from [] hold ≡ []
nothing_moves hold = ap (λ l. l ++ flat_map (λ (right : HeldWait). moves_if false right.cell None) hold.waits) (no_first hold.signals) ∙ no_last hold.waits

pub no_moves : (goals forked : Nodes) (outputs : List ℕ) (hold : Hold) → (fork_of (info goals outputs [] [] hold) forked hold).moves ≡ []
no_moves goals forked outputs hold = ap (λ l. moves_from (l ++ wait_moves [] goals) hold) (no_signal_moves 1 goals) ∙ nothing_moves hold

-- as many branches as conjuncts
pub branch_count : (plan : Plan) (split : Program) (course : Procedure → Hold → BranchCourse) (site : SiteInfo) (hold : Hold) (outputs : List ℕ) (w s : List Right) (ns : Nodes) (at k : ℕ) (left : List ℕ) (given : List Gift)
    → kid_count (conjunct_branches plan split course site hold k (placed_conjuncts at k outputs w s left ns) given) ≡ count ns
branch_count plan split course site hold outputs w s no_nodes at k left given = refl
branch_count plan split course site hold outputs w s (more_nodes n ns) at k left given = ap suc (branch_count plan split course site hold outputs w s ns (at + forks n) (suc k) (left ++ outputs_of n) _)
