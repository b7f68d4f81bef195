-- One right more for a child.
use Rattle.std.proofs.Common.{◌≡◌, ◌≢◌, ◌⊎◌, inl, inr, ℕ, zero, suc, ◌+◌, ◌-◌, ◌<◌, ◌≤◌, eq-eqb, ne_eqb, List, [], ◌∷◌, ◌++◌, map, length, length-set, refl, sym, ap, ◌∙◌, subst, ⊎_elim, arith}
use Rattle.std.specs.Prelude.{Some, slice_get, slice_set, slice_index_or, if◌then◌else◌, ◌==◌}
use Rattle.std.proofs.lemmas.List.{length-append, map-append}
use Rattle.std.specs.List.{All}
use Rattle.std.specs.Vec.{vec_capacity}
use Rattle.std.specs.declared.boxed.Box.{Box}
use Rattle.std.specs.declared.alloc.Global.{Global}
use Rattle.atomic_table.specs.Seated.{TableId}
use Rattle.merc_cell.specs.Ends.{consumer_name, producer_name}
use Rattle.merc_board.specs.declared.branch.Branch.{Branch}
use Rattle.merc_board.specs.Rights.{Rights}
use Rattle.merc_held_branches.specs.declared.branch.HeldWait.{HeldWait}
use Rattle.merc_held_branches.specs.declared.branch.HeldSignal.{HeldSignal}
use Rattle.merc_held_branches.specs.declared.branch.Hold.{Hold}
use Rattle.merc_held_branches.specs.Beds.{IsNamed}
use Rattle.merc_held_branches.specs.Lying.{due_of, owed_of}
use Rattle.merc_held_branches.specs.Owning.{HasBerth}
use Rattle.merc_held_branches.specs.Kids.{IsFor, AreFor, GotWait, GotSignal, with_wait, with_signal}
use Rattle.merc_held_branches.proofs.Lists.{all_more}

set_cases : {A : Type 0} (l : List A) (i j : ℕ) (x y : A) → slice_get (slice_set l i x) j ≡ Some y → ((j ≡ i) × (x ≡ y)) ⊎ ((j ≢ i) × (slice_get l j ≡ Some y))
set_cases [] i j x y e = absurd (cc)
set_cases (a ∷ l) zero zero x y e = inl (refl, (cc (e)))
set_cases (a ∷ l) zero (suc j) x y e = inr ((λ same. absurd (omega (arith, same))), e)
set_cases (a ∷ l) (suc i) zero x y e = inr ((λ same. absurd (omega (arith, same))), e)
set_cases (a ∷ l) (suc i) (suc j) x y e = ⊎_elim (λ t. inl (ap suc t.0, t.1)) (λ t. inr ((λ same. t.0 (omega (arith, same))), t.1)) (set_cases l i j x y e)

got_index : {A : Type 0} (l : List A) (i : ℕ) (x : A) → i < length l → x ≡ slice_index_or l i x → slice_get l i ≡ Some x
got_index [] i x near is = absurd (omega (arith, near))
got_index (y ∷ ys) zero x near is = ap Some (sym is)
got_index (y ∷ ys) (suc i) x near is = got_index ys i x (omega (arith, near)) is

module _ {L : Type 0} (table : TableId) (room : ℕ) where
  less_room : (load : L) (has : Rights) (kid : Branch L (Hold L)) → IsFor table (room + 1) load has kid → IsFor table room load has kid
  less_room load has kid is = let w = is.rooms.waits in let s = is.rooms.signals in
      record { same = is.same; kid = is.kid; rooms = record { waits = omega (arith, w); signals = omega (arith, s) }; given = is.given }

  -- room for one right less
  pub less_rooms : (loads : List L) (has : ℕ → Rights) (kids : List (Box (Branch L (Hold L)) Global)) → AreFor table (room + 1) loads has kids → AreFor table room loads has kids
  less_rooms loads has kids are = record { count = are.count; each = λ i x at. let m = are.each i x at in (m.0, m.1, less_room m.0 (has (suc i)) x.value m.2) }

  one_wait : (load : L) (has : Rights) (right : HeldWait L) (old new : Branch L (Hold L)) → IsFor table (room + 1) load has old → IsNamed table (consumer_name right.end) → GotWait right old new
      → IsFor table room load (record { waits = has.waits ++ due_of right ∷ []; signals = has.signals }) new
  one_wait load has right old new is named got =
      let w = is.rooms.waits in let s = is.rooms.signals in let longer = ap length got.items ∙ length-append old.hold.waits.items (right ∷ []) in
      let same_signals = ap (λ (v : _). length v.items) got.signals in let same_room = ap (λ (v : _). vec_capacity v) got.signals in let capacity = got.capacity in
      record {
        same = got.load ∙ is.same;
        kid = record {
          berthed = subst (HasBerth table) (sym got.berth) is.kid.berthed;
          unlinked = got.link ∙ is.kid.unlinked;
          fresh = got.woken ∙ is.kid.fresh;
          named = record {
            waits = all_more (λ r. IsNamed table (consumer_name r.end)) old.hold.waits.items new.hold.waits.items right got.items is.kid.named.waits named;
            signals = subst (λ (v : _). All (λ r. IsNamed table (producer_name r.end)) v.items) (sym got.signals) is.kid.named.signals;
          };
        };
        rooms = record { waits = omega (arith, w, longer, capacity); signals = omega (arith, s, same_signals, same_room) };
        given = λ k. record {
          waits = (ap (map due_of) got.items ∙ map-append due_of old.hold.waits.items (right ∷ []) ∙ ap (λ (r : Rights). r.waits ++ due_of right ∷ []) is.given) k;
          signals = (ap (λ (v : _). map owed_of v.items) got.signals ∙ ap (λ (r : Rights). r.signals) is.given) k;
        };
      }

  one_signal : (load : L) (has : Rights) (right : HeldSignal L) (old new : Branch L (Hold L)) → IsFor table (room + 1) load has old → IsNamed table (producer_name right.end) → GotSignal right old new
      → IsFor table room load (record { waits = has.waits; signals = has.signals ++ owed_of right ∷ [] }) new
  one_signal load has right old new is named got =
      let w = is.rooms.waits in let s = is.rooms.signals in let longer = ap length got.items ∙ length-append old.hold.signals.items (right ∷ []) in
      let same_waits = ap (λ (v : _). length v.items) got.waits in let same_room = ap (λ (v : _). vec_capacity v) got.waits in let capacity = got.capacity in
      record {
        same = got.load ∙ is.same;
        kid = record {
          berthed = subst (HasBerth table) (sym got.berth) is.kid.berthed;
          unlinked = got.link ∙ is.kid.unlinked;
          fresh = got.woken ∙ is.kid.fresh;
          named = record {
            waits = subst (λ (v : _). All (λ r. IsNamed table (consumer_name r.end)) v.items) (sym got.waits) is.kid.named.waits;
            signals = all_more (λ r. IsNamed table (producer_name r.end)) old.hold.signals.items new.hold.signals.items right got.items is.kid.named.signals named;
          };
        };
        rooms = record { waits = omega (arith, w, same_waits, same_room); signals = omega (arith, s, longer, capacity) };
        given = λ k. record {
          waits = (ap (λ (v : _). map due_of v.items) got.waits ∙ ap (λ (r : Rights). r.waits) is.given) k;
          signals = (ap (map owed_of) got.items ∙ map-append owed_of old.hold.signals.items (right ∷ []) ∙ ap (λ (r : Rights). r.signals ++ owed_of right ∷ []) is.given) k;
        };
      }

  -- a change of the rights of the child at a place, which changes no other
  at_place : (loads : List L) (has : ℕ → Rights) (more : Rights) (place : ℕ) (kids : List (Box (Branch L (Hold L)) Global)) (kid kid' : Box (Branch L (Hold L)) Global) → AreFor table (room + 1) loads has kids → slice_get kids place ≡ Some kid
      → ((load : L) → IsFor table (room + 1) load (has (suc place)) kid.value → IsFor table room load more kid'.value)
      → AreFor table room loads (λ number. if number == suc place then more else has number) (slice_set kids place kid')
  at_place loads has more place kids kid kid' are at change = record {
    count = length-set kids place kid' ∙ are.count;
    each = λ i x found. ⊎_elim
        (λ (e : (i ≡ place) × (kid' ≡ x)). let m = are.each place kid at in (
          m.0,
          ap (slice_get loads) e.0 ∙ m.1,
          subst (λ (r : Rights). IsFor table room m.0 r x.value) (sym (ap (λ b. if b then more else has (suc i)) (eq-eqb (suc i) (suc place) (ap suc e.0))))
              (subst (λ (y : Box (Branch L (Hold L)) Global). IsFor table room m.0 more y.value) e.1 (change m.0 m.2)),
        ))
        (λ (e : (i ≢ place) × (slice_get kids i ≡ Some x)). let m = are.each i x e.1 in (
          m.0,
          m.1,
          subst (λ (r : Rights). IsFor table room m.0 r x.value) (sym (ap (λ b. if b then more else has (suc i)) (ne_eqb (suc i) (suc place) (λ same. e.0 (omega (arith, same))))))
              (less_room m.0 (has (suc i)) x.value m.2),
        ))
        (set_cases kids place i kid' x found);
  }

  pub gives_wait : (loads : List L) (has : ℕ → Rights) (right : HeldWait L) (place : ℕ) (kids : List (Box (Branch L (Hold L)) Global)) (kid kid' : Box (Branch L (Hold L)) Global) → IsNamed table (consumer_name right.end)
      → slice_get kids place ≡ Some kid → GotWait right kid.value kid'.value → AreFor table (room + 1) loads has kids → AreFor table room loads (with_wait (suc place) (due_of right) has) (slice_set kids place kid')
  gives_wait loads has right place kids kid kid' named at got are =
      at_place loads has (record { waits = (has (suc place)).waits ++ due_of right ∷ []; signals = (has (suc place)).signals }) place kids kid kid' are at (λ load is. one_wait load (has (suc place)) right kid.value kid'.value is named got)

  pub gives_signal : (loads : List L) (has : ℕ → Rights) (right : HeldSignal L) (place : ℕ) (kids : List (Box (Branch L (Hold L)) Global)) (kid kid' : Box (Branch L (Hold L)) Global) → IsNamed table (producer_name right.end)
      → slice_get kids place ≡ Some kid → GotSignal right kid.value kid'.value → AreFor table (room + 1) loads has kids → AreFor table room loads (with_signal (suc place) (owed_of right) has) (slice_set kids place kid')
  gives_signal loads has right place kids kid kid' named at got are =
      at_place loads has (record { waits = (has (suc place)).waits; signals = (has (suc place)).signals ++ owed_of right ∷ [] }) place kids kid kid' are at (λ load is. one_signal load (has (suc place)) right kid.value kid'.value is named got)

  -- the child of this number has room, and is given the right
  pub has_room_wait : (loads : List L) (has : ℕ → Rights) (child : ℕ) (kids : List (Box (Branch L (Hold L)) Global)) (kid : Box (Branch L (Hold L)) Global) → 0 < child → child ≤ length kids → kid ≡ slice_index_or kids (child - 1) kid
      → AreFor table (room + 1) loads has kids → length kid.value.hold.waits.items < vec_capacity kid.value.hold.waits
  has_room_wait loads has child kids kid some near read are =
      let here : child - 1 < length kids = omega (arith, some, near) in let m = are.each (child - 1) kid (got_index kids (child - 1) kid here read) in let w = m.2.rooms.waits in omega (arith, w)

  pub gives_wait_to : (loads : List L) (has : ℕ → Rights) (right : HeldWait L) (child : ℕ) (kids : List (Box (Branch L (Hold L)) Global)) (kid kid' : Box (Branch L (Hold L)) Global) → IsNamed table (consumer_name right.end)
      → 0 < child → child ≤ length kids → kid ≡ slice_index_or kids (child - 1) kid → GotWait right kid.value kid'.value → AreFor table (room + 1) loads has kids → AreFor table room loads (with_wait child (due_of right) has) (slice_set kids (child - 1) kid')
  gives_wait_to loads has right child kids kid kid' named some near read got are =
      let here : child - 1 < length kids = omega (arith, some, near) in let whole : suc (child - 1) ≡ child = omega (arith, some) in
      subst (λ (n : ℕ). AreFor table room loads (with_wait n (due_of right) has) (slice_set kids (child - 1) kid')) whole
      (gives_wait loads has right (child - 1) kids kid kid' named (got_index kids (child - 1) kid here read) got are)

  -- the child of this number has room, and is given the right
  pub has_room_signal : (loads : List L) (has : ℕ → Rights) (child : ℕ) (kids : List (Box (Branch L (Hold L)) Global)) (kid : Box (Branch L (Hold L)) Global) → 0 < child → child ≤ length kids → kid ≡ slice_index_or kids (child - 1) kid
      → AreFor table (room + 1) loads has kids → length kid.value.hold.signals.items < vec_capacity kid.value.hold.signals
  has_room_signal loads has child kids kid some near read are =
      let here : child - 1 < length kids = omega (arith, some, near) in let m = are.each (child - 1) kid (got_index kids (child - 1) kid here read) in let w = m.2.rooms.signals in omega (arith, w)

  pub gives_signal_to : (loads : List L) (has : ℕ → Rights) (right : HeldSignal L) (child : ℕ) (kids : List (Box (Branch L (Hold L)) Global)) (kid kid' : Box (Branch L (Hold L)) Global) → IsNamed table (producer_name right.end)
      → 0 < child → child ≤ length kids → kid ≡ slice_index_or kids (child - 1) kid → GotSignal right kid.value kid'.value → AreFor table (room + 1) loads has kids → AreFor table room loads (with_signal child (owed_of right) has) (slice_set kids (child - 1) kid')
  gives_signal_to loads has right child kids kid kid' named some near read got are =
      let here : child - 1 < length kids = omega (arith, some, near) in let whole : suc (child - 1) ≡ child = omega (arith, some) in
      subst (λ (n : ℕ). AreFor table room loads (with_signal n (owed_of right) has) (slice_set kids (child - 1) kid')) whole
      (gives_signal loads has right (child - 1) kids kid kid' named (got_index kids (child - 1) kid here read) got are)

  -- a child that is not there
  pub gives_none : (loads : List L) (has : ℕ → Rights) (more : Rights) (child : ℕ) (kids : List (Box (Branch L (Hold L)) Global)) → (child ≡ 0) ⊎ (length kids < child) → AreFor table (room + 1) loads has kids
      → AreFor table room loads (λ number. if number == child then more else has number) kids
  gives_none loads has more child kids none are = record {
    count = are.count;
    each = λ i x at. let m = are.each i x at in let near = below kids i x at in (
      m.0,
      m.1,
      subst (λ (r : Rights). IsFor table room m.0 r x.value) (sym (ap (λ b. if b then more else has (suc i)) (ne_eqb (suc i) child (λ same. ⊎_elim (λ (z : child ≡ 0). absurd (omega (arith, same, z))) (λ (f : length kids < child). absurd (omega (arith, same, f, near))) none))))
          (less_room m.0 (has (suc i)) x.value m.2),
    );
  }
    where
      below : {A : Type 0} (l : List A) (i : ℕ) (x : A) → slice_get l i ≡ Some x → i < length l
      below [] i x e = absurd (cc)
      below (y ∷ ys) zero x e = omega arith
      below (y ∷ ys) (suc i) x e = let b = below ys i x e in omega (arith, b)
