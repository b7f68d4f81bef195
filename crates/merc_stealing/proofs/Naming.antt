-- Names and ends of scripts.
use Rattle.std.proofs.Common.{◌≡◌, ℕ, zero, suc, List, refl, sym, ap, ◌∙◌, subst}
use Rattle.std.specs.Prelude.{Option, Some, None}
use Rattle.merc_value.specs.Block.{BlockData}
use Rattle.merc_script.specs.declared.outcome.Outcome.{Outcome}
use Rattle.merc_script.specs.Script.{Script, Ends, TickThen, WaitThen, SignalThen, ForkThen, end_of}
use Rattle.merc_script.specs.Places.{Place, Name, left_of, left_in, left_behind, script_named}
use Rattle.merc_yard.specs.declared.spot.Spot.{Spot}
use Rattle.merc_held_branches.specs.Spots.{place, Reaches, behind, after_as}
use Rattle.merc_script.specs.declared.outcome.Outcome.TheVariants.{Ok as Fine, Raise, Limit, Starved, NoMemory}
use Rattle.atomic_table.specs.Seated.{TableId}
use Rattle.merc_join.specs.declared.ends.Ticket.{Ticket}
use Rattle.merc_join.specs.Tickets.{ticket_parent, ticket_child, ticket_children}
use Rattle.merc_join.specs.declared.outcomes.Finished.{Finished}
use Rattle.merc_join.specs.Answers.{IsFinished}
use Rattle.merc_held_branches.specs.declared.types.Bed.{Bed}
use Rattle.merc_held_branches.specs.declared.branch.Hold.{Hold}
use Rattle.merc_held_branches.specs.Beds.{IsEnd, EndsChild, child_name}
use Rattle.merc_stealing.proofs.Joins.{joins_so}
use Rattle.merc_script.specs.Joining.{joined_behind}
use Rattle.merc_board.specs.declared.branch.Branch.{Branch}
use Rattle.merc_board.specs.Rights.{Rights}
use Rattle.merc_yard.specs.Berths.{spot_of}
use Rattle.merc_held_branches.specs.Lying.{Placed, LiesFor, LinkFits, ForksAt, AreNamed, rights}
use Rattle.merc_yard.specs.declared.berth.Berth.{Berth}
use Rattle.merc_yard.specs.declared.spot.Fill.TheVariants.{Filled}
use Rattle.merc_yard.specs.declared.spot.Purpose.TheVariants.{Forks}
use Rattle.merc_held_branches.specs.Beds.{IsMoored}
use Rattle.merc_held_branches.specs.Owning.{Own, Runs, MayEnd, spot_held, HasBerth, Unmoored}
use Rattle.merc_stealing.specs.Parents.{AreEnds, IsParent, IsJoin}

end_behind : (n : ℕ) (s : Script) (o : Outcome) → left_behind n s ≡ Some (Ends o) → end_of s ≡ o
end_behind zero s o e = let is : s ≡ Ends o = cc (e) in ap end_of is
end_behind (suc n) (Ends end) o e = absurd (cc)
end_behind (suc n) (TickThen rest) o e = end_behind n rest o e
end_behind (suc n) (WaitThen cell rest) o e = end_behind n rest o e
end_behind (suc n) (SignalThen cell rest) o e = end_behind n rest o e
end_behind (suc n) (ForkThen limit cells moves children rest) o e = end_behind n rest o e

end_in : (n : ℕ) (s : Option Script) (o : Outcome) → left_in n s ≡ Some (Ends o) → (script : Script) × (s ≡ Some script) × (end_of script ≡ o)
end_in n None o e = absurd (cc)
end_in n (Some s) o e = (s, refl, end_behind n s o e)

-- the script of a place at an end ends so
pub ends_named : (root : Script) (o : Spot) (at : Place) (outcome : Outcome) → Reaches root o at → left_of at ≡ Some (Ends outcome) → IsEnd root o.name outcome
ends_named root o at outcome reaches left = let e = end_in at.passed (script_named at.name (Some at.root)) outcome left in
    (e.0, ap (λ (x : Name × Script). script_named x.0 (Some x.1)) (λ i. (sym reaches.same_name i, sym reaches.same_root i)) ∙ e.1, e.2)

at_end : {L : Type 0} (root : Script) (table : TableId) (hold : Hold L) (ticket : Ticket (Bed L)) (outcome : Outcome) → hold.place ≡ Some ticket
    → (at : Place) → Own root table hold at → left_of at ≡ Some (Ends outcome) → IsEnd root (child_name (ticket_parent ticket).berth (ticket_child ticket)) outcome
at_end root table hold ticket outcome is at own left =
    let placed : Placed root (spot_held hold.berth) (Some ticket) = subst (Placed root (spot_held hold.berth)) is own.runs.placed in
    subst (λ name. IsEnd root name outcome) placed.1 (ends_named root (spot_held hold.berth) at outcome own.reaches left)

-- the ticket of a child whose branch has come to an end
pub may_end : {L : Type 0} (root : Script) (table : TableId) (hold : Hold L) (ticket : Ticket (Bed L)) (outcome : Outcome) → hold.place ≡ Some ticket
    → MayEnd (Own root table hold) (Runs root table hold) outcome → EndsChild root (ticket_parent ticket).berth (ticket_child ticket) outcome
may_end root table hold ticket (Fine n) is e = at_end root table hold ticket (Fine n) is e.0 e.1 e.2
may_end root table hold ticket (Raise x n) is e = at_end root table hold ticket (Raise x n) is e.0 e.1 e.2
may_end root table hold ticket Limit is e = at_end root table hold ticket Limit is e.0 e.1 e.2
may_end root table hold ticket Starved is e = tt
may_end root table hold ticket NoMemory is e = tt

-- what the last ticket of a child is given
pub all_ended : {L : Type 0} (root : Script) (table : TableId) (hold : Hold L) (ticket : Ticket (Bed L)) (outcome : Outcome) (finished : Finished (Bed L)) → hold.place ≡ Some ticket
    → Runs root table hold → (spot_held hold.berth).yard.table_id ≡ table
    → IsFinished (λ bed. EndsChild root bed.berth) (ticket_parent ticket) (ticket_child ticket) (ticket_children ticket) outcome finished → AreEnds root table finished.parent.berth finished.outcomes
all_ended {L} root table hold ticket outcome finished is runs yard done =
    let placed : Placed root (spot_held hold.berth) (Some ticket) = subst (Placed root (spot_held hold.berth)) is runs.placed in
    subst (λ (bed : Bed L). AreEnds root table bed.berth finished.outcomes) (sym done.same_parent) (record {
      moored = subst (λ t. IsMoored t Filled Forks (ticket_parent ticket).berth) yard placed.0;
      count = done.count ∙ placed.2;
      each = done.each;
    })

pub yard_held : (table : TableId) (berth : Option Berth) → HasBerth table berth → (spot_held berth).yard.table_id ≡ table
yard_held table None has = absurd has
yard_held table (Some berth) has = has.1

placed_on : {L : Type 0} (root : Script) (o : Spot) (ticket : Option (Ticket (Bed L))) → Placed root o ticket → Placed root (behind o) ticket
placed_on root o None placed = placed
placed_on root o (Some ticket) placed = placed

-- a parent that has come out of its berth
pub runs_behind : {L : Type 0} (root : Script) (stands awaits forked : L → Rights → Place → Type 0) (shows : ℕ → BlockData → Type 0) (table : TableId) (berth : Berth) (lay : Branch L (Hold L))
    → Unmoored root stands awaits forked shows table (spot_of berth) lay → IsMoored table Filled Forks berth → Runs root table lay.hold
runs_behind {L} root stands awaits forked shows table berth lay came moored =
    let here : spot_held lay.hold.berth ≡ behind (spot_of berth) = came.spot ∙ ap (λ p. after_as p (spot_of berth)) moored.2 in
    let named : AreNamed table lay.hold = subst (λ t. AreNamed t lay.hold) moored.1 came.lay.named in
    record {
      berthed = came.berthed;
      placed = subst (λ o. Placed root o lay.hold.place) (sym here) (placed_on root (spot_of berth) lay.hold.place came.lay.placed);
      unlinked = subst (λ p. LinkFits p (spot_of berth).yard.table_id lay.hold.link) moored.2 came.lay.linked;
      named = named;
    }

-- .. behind its Fork, with what its children make together
pub came_back : {L : Type 0} (root : Script) (stands awaits forked : L → Rights → Place → Type 0) (shows : ℕ → BlockData → Type 0) (table : TableId) (berth : Berth) (outcomes : List Outcome) (lay : Branch L (Hold L)) (outcome : Outcome)
    → Unmoored root stands awaits forked shows table (spot_of berth) lay → outcome ≡ joined_behind lay.hold.limit (Fine 0) outcomes → AreEnds root table berth outcomes
    → IsParent root stands awaits forked shows table (record lay { hold = record lay.hold { held = Some outcome } })
came_back {L} root stands awaits forked shows table berth outcomes lay outcome came made are =
    let purpose : (spot_of berth).purpose ≡ Forks = are.moored.2 in
    let forks : ForksAt root stands awaits forked shows lay.load (rights lay.hold) lay.hold.limit (place root (spot_of berth)) =
    subst (λ p. LiesFor root stands awaits forked shows p (place root (spot_of berth)) lay) purpose came.lay.stands_so in
    let runs = runs_behind root stands awaits forked shows table berth lay came are.moored in
    record {
      fork = spot_of berth;
      holds = record {
        runs = record { berthed = runs.berthed; placed = runs.placed; unlinked = runs.unlinked; named = record { waits = runs.named.waits; signals = runs.named.signals } };
        spot = came.spot ∙ ap (λ p. after_as p (spot_of berth)) purpose;
        held = subst (IsJoin root (spot_of berth)) (sym made) (joins_so root berth table outcomes lay.hold.limit forks.cells forks.moves forks.children forks.rest forks.left are);
      };
      forks = forks;
    }

-- the purpose for which a branch may be asked to end
pub runs_on : {L : Type 0} (root : Script) (table : TableId) (hold : Hold L) (outcome : Outcome) → MayEnd (Own root table hold) (Runs root table hold) outcome → Runs root table hold
runs_on root table hold (Fine n) e = e.1.runs
runs_on root table hold (Raise x n) e = e.1.runs
runs_on root table hold Limit e = e.1.runs
runs_on root table hold Starved e = e
runs_on root table hold NoMemory e = e
