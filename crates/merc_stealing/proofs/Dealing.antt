-- Children and tickets from the back, and where a parent parks.
use Rattle.std.proofs.Common.{◌≡◌, ℕ, suc, ◌+◌, List, [], ◌∷◌, ◌++◌, length, sym, ap, ◌∙◌, subst, arith, ⊎_elim}
use Rattle.std.specs.Prelude.{Some, slice_get}
use Rattle.std.proofs.lemmas.List.{length-append}
use Rattle.std.specs.declared.boxed.Box.{Box}
use Rattle.std.specs.declared.alloc.Global.{Global}
use Rattle.atomic_table.specs.Seated.{TableId}
use Rattle.merc_value.specs.Block.{BlockData}
use Rattle.merc_script.specs.Script.{Script, ForkThen, Children, Cell, Move}
use Rattle.merc_script.specs.Places.{Place, left_of}
use Rattle.merc_join.specs.declared.ends.Ticket.{Ticket}
use Rattle.merc_join.specs.Tickets.{ticket_parent, ticket_child, ticket_children, AreTickets}
use Rattle.merc_yard.specs.declared.spot.Spot.{Spot}
use Rattle.merc_yard.specs.declared.spot.Fill.TheVariants.{Filled}
use Rattle.merc_yard.specs.declared.spot.Purpose.TheVariants.{Forks}
use Rattle.merc_yard.specs.Berths.{spot_of}
use Rattle.merc_board.specs.declared.branch.Branch.{Branch}
use Rattle.merc_board.specs.Rights.{Rights}
use Rattle.merc_board.specs.Going.{child_place}
use Rattle.merc_held_branches.specs.declared.types.Bed.{Bed}
use Rattle.merc_held_branches.specs.declared.branch.Hold.{Hold}
use Rattle.merc_held_branches.specs.Owning.{spot_held}
use Rattle.merc_held_branches.specs.Spots.{place, fork_count, parked, parking_in, parked_for, Reaches}
use Rattle.merc_held_branches.specs.Beds.{IsMoored}
use Rattle.merc_held_branches.specs.Lying.{rights}
use Rattle.merc_held_branches.specs.Kids.{IsFor, AreFor, KidFits, AreMade, Joins}
use Rattle.merc_held_branches.proofs.Lists.{got_end, at_last, at_front}

module _ {L : Type 0} (root : Script) (stands : L → Rights → Place → Type 0) (table : TableId) where
  abbrev Parted : List (Box (Branch L (Hold L)) Global) → List (Ticket (Bed L)) → Box (Branch L (Hold L)) Global → Ticket (Bed L) → Type 0
  Parted ks ts k t = AreMade root stands table ks ts × KidFits root stands table (ticket_parent t).berth (ticket_child t) k.value × IsMoored table Filled Forks (ticket_parent t).berth
      × (ticket_children t ≡ fork_count (left_of (place root (spot_of (ticket_parent t).berth))))

  parted : (ks : List (Box (Branch L (Hold L)) Global)) (ts : List (Ticket (Bed L))) (k : Box (Branch L (Hold L)) Global) (t : Ticket (Bed L)) → AreMade root stands table (ks ++ k ∷ []) (ts ++ t ∷ []) → Parted ks ts k t
  parted ks ts k t made =
      let same : length ks ≡ length ts = omega (arith, made.same_count, length-append ks (k ∷ []), length-append ts (t ∷ [])) in
      let d = made.dealt (length ts) t (at_last ts t) in
      let fit : KidFits root stands table made.parent.berth (length ks) k.value = made.fit (length ks) k (at_last ks k) in
      let of_parent = sym d.1 in let of_child : length ks ≡ ticket_child t = same ∙ sym d.0 in (
        record {
          parent = made.parent;
          join = made.join;
          all = made.all;
          moored = made.moored;
          count = made.count;
          same_count = same;
          dealt = λ i x at. made.dealt i x (at_front ts (t ∷ []) i x at);
          fit = λ i x at. made.fit i x (at_front ks (k ∷ []) i x at);
        },
        subst (λ (x : Bed L × ℕ). KidFits root stands table x.0.berth x.1 k.value) (λ i. (of_parent i, of_child i)) fit,
        subst (λ (x : Bed L). IsMoored table Filled Forks x.berth) of_parent made.moored,
        subst (λ (x : Bed L). ticket_children t ≡ fork_count (left_of (place root (spot_of x.berth)))) of_parent (d.2 ∙ made.count),
      )

  pub parts : (ks ks' : List (Box (Branch L (Hold L)) Global)) (ts ts' : List (Ticket (Bed L))) (k : Box (Branch L (Hold L)) Global) (t : Ticket (Bed L)) → ks' ≡ ks ++ k ∷ [] → ts' ≡ ts ++ t ∷ [] → AreMade root stands table ks' ts' → Parted ks ts k t
  parts ks ks' ts ts' k t is_k is_t made = parted ks ts k t (subst (λ (x : List (Box (Branch L (Hold L)) Global) × List (Ticket (Bed L))). AreMade root stands table x.0 x.1) (λ i. (is_k i, is_t i)) made)

module _ {L : Type 0} (table : TableId) (room : ℕ) where
  pub one_more : (loads loads' : List L) (kids kids' : List (Box (Branch L (Hold L)) Global)) (has : ℕ → Rights) (load : L) (kid : Box (Branch L (Hold L)) Global) → loads' ≡ loads ++ load ∷ [] → kids' ≡ kids ++ kid ∷ []
      → AreFor table room loads has kids → IsFor table room load (has (suc (length kids))) kid.value → AreFor table room loads' has kids'
  one_more loads loads' kids kids' has load kid is_l is_k are new = record {
    count = ap length is_k ∙ length-append kids (kid ∷ []) ∙ ap (λ n. n + 1) are.count ∙ sym (length-append loads (load ∷ [])) ∙ ap length (sym is_l);
    each = λ i x at. ⊎_elim (λ old. let m = are.each i x old in (m.0, ap (λ l. slice_get l i) is_l ∙ at_front loads (load ∷ []) i m.0 m.1, m.2))
        (λ (e : (i ≡ length kids) × (kid ≡ x)). (
          load,
          ap (λ l. slice_get l i) is_l ∙ ap (λ n. slice_get (loads ++ load ∷ []) n) (e.0 ∙ are.count) ∙ at_last loads load,
          subst (λ (y : ℕ × Box (Branch L (Hold L)) Global). IsFor table room load (has (suc y.0)) y.1.value) (λ k. (sym e.0 k, e.1 k)) new,
        ))
        (got_end kids kid x i (sym (ap (λ l. slice_get l i) is_k) ∙ at));
  }

-- where a branch parks that stands at a Fork
pub lands : (root : Script) (o : Spot) (at : Place) (limit : ℕ) (cells : List Cell) (moves : List Move) (children : Children) (rest : Script) → Reaches root o at → left_of at ≡ Some (ForkThen limit cells moves children rest)
    → place root (parked_for Forks root o) ≡ at
lands root o at limit cells moves children rest reaches left =
    let zero_left : parking_in (left_of at) ≡ 0 = ap parking_in left in
    let end : parked at ≡ parked (place root o) = reaches.same_end in
    let same : parked (place root o) ≡ at.passed = sym end ∙ ap (λ n. at.passed + n) zero_left ∙ omega arith in
    λ i. record { root = sym reaches.same_root i; name = sym reaches.same_name i; passed = same i }

module _ {L : Type 0} (root : Script) (stands awaits forked : L → Rights → Place → Type 0) (shows : ℕ → BlockData → Type 0) (table : TableId) where
  -- a parent that has parked, with its children and their tickets
  pub made_of : (kids : List (Box (Branch L (Hold L)) Global)) (parent : Branch L (Hold L)) (bed : Bed L) (many : ℕ) (tickets : List (Ticket (Bed L))) → Joins root stands awaits forked shows table kids parent
      → IsMoored table Filled Forks bed.berth → spot_of bed.berth ≡ parked_for Forks root (spot_held parent.hold.berth) → many ≡ length kids → AreTickets many bed tickets → AreMade root stands table kids tickets
  made_of kids parent bed many tickets j moored spot same t =
      let f = j.forks in
      let here : place root (spot_of bed.berth) ≡ j.at = ap (place root) spot ∙ lands root (spot_held parent.hold.berth) j.at parent.hold.limit f.cells f.moves f.children f.rest j.owned.reaches f.left in
      record {
        parent = bed;
        join = t.join;
        all = many;
        moored = moored;
        count = same ∙ j.count ∙ ap (λ a. fork_count (left_of a)) (sym here);
        same_count = sym same ∙ sym t.count;
        dealt = t.each;
        fit = λ i kid at. let e = j.each i kid at in record { kid = e.0; begins = subst (λ a. stands kid.value.load (rights kid.value.hold) (child_place a (suc i))) (sym here) e.1 };
      }
