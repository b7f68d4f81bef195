-- A parent's rights, one after the other, move into children or stay.
use Rattle.std.proofs.Common.{◌≡◌, ℕ, suc, ◌+◌, Bool, true, false, eq-eqb, ne_eqb, List, [], ◌∷◌, ◌++◌, map, length, refl, sym, ap, ◌∙◌, subst, arith}
use Rattle.std.specs.Prelude.{Some, None, if◌then◌else◌, ◌==◌}
use Rattle.std.specs.List.{filter}
use Rattle.std.specs.declared.boxed.Box.{Box}
use Rattle.std.specs.declared.alloc.Global.{Global}
use Rattle.std.proofs.lemmas.List.{append_assoc, append-nil, map-append}
use mathlib.Core.Logic.{dite}
use native.Mathlib.Decide.{ℕ_discrete}
use Rattle.atomic_table.specs.Seated.{TableId}
use Rattle.merc_board.specs.declared.branch.Branch.{Branch}
use Rattle.merc_board.specs.declared.fork.Handover.{Handover}
use Rattle.merc_board.specs.Rights.{Due, Owed, Rights, child_for, goes_to, stays, waits_into, signals_into, waits_kept, signals_kept}
use Rattle.merc_held_branches.specs.declared.branch.HeldWait.{HeldWait}
use Rattle.merc_held_branches.specs.declared.branch.HeldSignal.{HeldSignal}
use Rattle.merc_held_branches.specs.declared.branch.Hold.{Hold}
use Rattle.merc_held_branches.specs.Lying.{due_of, owed_of}
use Rattle.merc_held_branches.specs.Kids.{IsFor, AreFor, with_wait, with_signal, with_waits, with_signals}

pub one_more_over : {A : Type 0} (b c : Bool) (y x : A) (f g : List A) → g ≡ (if c then f ++ x ∷ [] else f)
    → (if b then y ∷ g else g) ≡ (if c then (if b then y ∷ f else f) ++ x ∷ [] else (if b then y ∷ f else f))
one_more_over true true y x f g e = ap (λ l. y ∷ l) e
one_more_over true false y x f g e = ap (λ l. y ∷ l) e
one_more_over false true y x f g e = e
one_more_over false false y x f g e = e

pub filter_more : {A : Type 0} (p : A → Bool) (l : List A) (x : A) → filter p (l ++ x ∷ []) ≡ (if p x then filter p l ++ x ∷ [] else filter p l)
filter_more p [] x = refl
filter_more p (y ∷ ys) x = one_more_over (p y) (p x) y x (filter p ys) (filter p (ys ++ x ∷ [])) (filter_more p ys x)

-- the same rights for each child
pub are_same : {L : Type 0} (table : TableId) (room : ℕ) (loads : List L) (has has' : ℕ → Rights) (kids : List (Box (Branch L (Hold L)) Global)) → ((number : ℕ) → has number ≡ has' number) → AreFor table room loads has kids → AreFor table room loads has' kids
are_same table room loads has has' kids same are = record {
  count = are.count;
  each = λ i x at. let m = are.each i x at in (m.0, m.1, subst (λ (r : Rights). IsFor table room m.0 r x.value) (same (suc i)) m.2);
}

module _ (moves : List Handover) (has : ℕ → Rights) where
  -- a right to wait that moves
  pub moved_wait : (ws : List Due) (due : Due) (child : ℕ) → child_for false due.variable moves ≡ Some child → (number : ℕ) → with_wait child due (with_waits moves ws has) number ≡ with_waits moves (ws ++ due ∷ []) has number
  moved_wait ws due child to number =
      let here : waits_into number moves (ws ++ due ∷ []) ≡ (if child == number then waits_into number moves ws ++ due ∷ [] else waits_into number moves ws) =
      filter_more (λ right. goes_to number (child_for false right.variable moves)) ws due ∙ ap (λ o. if goes_to number o then waits_into number moves ws ++ due ∷ [] else waits_into number moves ws) to in
      dite (ℕ_discrete number child)
      (λ same. ap (λ b. if b then record { waits = (with_waits moves ws has child).waits ++ due ∷ []; signals = (has child).signals } else with_waits moves ws has number) (eq-eqb number child same)
      ∙ ap (λ n. record { waits = (with_waits moves ws has n).waits ++ due ∷ []; signals = (has n).signals }) (sym same)
      ∙ ap (λ (l : List Due). record { waits = l; signals = (has number).signals }) (append_assoc (has number).waits (waits_into number moves ws) (due ∷ [])
      ∙ ap (λ l. (has number).waits ++ l) (sym (here ∙ ap (λ b. if b then waits_into number moves ws ++ due ∷ [] else waits_into number moves ws) (eq-eqb child number (sym same))))))
      (λ differs. ap (λ b. if b then record { waits = (with_waits moves ws has child).waits ++ due ∷ []; signals = (has child).signals } else with_waits moves ws has number) (ne_eqb number child differs)
      ∙ ap (λ l. record { waits = (has number).waits ++ l; signals = (has number).signals }) (sym (here ∙ ap (λ b. if b then waits_into number moves ws ++ due ∷ [] else waits_into number moves ws) (ne_eqb child number (λ e. differs (sym e))))))

  -- one that stays
  pub kept_wait : (ws : List Due) (due : Due) → child_for false due.variable moves ≡ None → (number : ℕ) → with_waits moves ws has number ≡ with_waits moves (ws ++ due ∷ []) has number
  kept_wait ws due to number = ap (λ l. record { waits = (has number).waits ++ l; signals = (has number).signals })
      (sym (filter_more (λ right. goes_to number (child_for false right.variable moves)) ws due ∙ ap (λ o. if goes_to number o then waits_into number moves ws ++ due ∷ [] else waits_into number moves ws) to))

  -- a right to signal that moves
  pub moved_signal : (ws : List Owed) (owed : Owed) (child : ℕ) → child_for true owed.variable moves ≡ Some child → (number : ℕ) → with_signal child owed (with_signals moves ws has) number ≡ with_signals moves (ws ++ owed ∷ []) has number
  moved_signal ws owed child to number =
      let here : signals_into number moves (ws ++ owed ∷ []) ≡ (if child == number then signals_into number moves ws ++ owed ∷ [] else signals_into number moves ws) =
      filter_more (λ right. goes_to number (child_for true right.variable moves)) ws owed ∙ ap (λ o. if goes_to number o then signals_into number moves ws ++ owed ∷ [] else signals_into number moves ws) to in
      dite (ℕ_discrete number child)
      (λ same. ap (λ b. if b then record { waits = (has child).waits; signals = (with_signals moves ws has child).signals ++ owed ∷ [] } else with_signals moves ws has number) (eq-eqb number child same)
      ∙ ap (λ n. record { waits = (has n).waits; signals = (with_signals moves ws has n).signals ++ owed ∷ [] }) (sym same)
      ∙ ap (λ (l : List Owed). record { waits = (has number).waits; signals = l }) (append_assoc (has number).signals (signals_into number moves ws) (owed ∷ [])
      ∙ ap (λ l. (has number).signals ++ l) (sym (here ∙ ap (λ b. if b then signals_into number moves ws ++ owed ∷ [] else signals_into number moves ws) (eq-eqb child number (sym same))))))
      (λ differs. ap (λ b. if b then record { waits = (has child).waits; signals = (with_signals moves ws has child).signals ++ owed ∷ [] } else with_signals moves ws has number) (ne_eqb number child differs)
      ∙ ap (λ l. record { waits = (has number).waits; signals = (has number).signals ++ l }) (sym (here ∙ ap (λ b. if b then signals_into number moves ws ++ owed ∷ [] else signals_into number moves ws) (ne_eqb child number (λ e. differs (sym e))))))

  pub kept_signal : (ws : List Owed) (owed : Owed) → child_for true owed.variable moves ≡ None → (number : ℕ) → with_signals moves ws has number ≡ with_signals moves (ws ++ owed ∷ []) has number
  kept_signal ws owed to number = ap (λ l. record { waits = (has number).waits; signals = (has number).signals ++ l })
      (sym (filter_more (λ right. goes_to number (child_for true right.variable moves)) ws owed ∙ ap (λ o. if goes_to number o then signals_into number moves ws ++ owed ∷ [] else signals_into number moves ws) to))

-- what the parent keeps
pub keeps_wait : (moves : List Handover) (ws : List Due) (due : Due) → child_for false due.variable moves ≡ None → waits_kept moves (ws ++ due ∷ []) ≡ waits_kept moves ws ++ due ∷ []
keeps_wait moves ws due to = filter_more (λ right. stays (child_for false right.variable moves)) ws due ∙ ap (λ o. if stays o then waits_kept moves ws ++ due ∷ [] else waits_kept moves ws) to

pub gives_wait_away : (moves : List Handover) (ws : List Due) (due : Due) (child : ℕ) → child_for false due.variable moves ≡ Some child → waits_kept moves (ws ++ due ∷ []) ≡ waits_kept moves ws
gives_wait_away moves ws due child to = filter_more (λ right. stays (child_for false right.variable moves)) ws due ∙ ap (λ o. if stays o then waits_kept moves ws ++ due ∷ [] else waits_kept moves ws) to

pub keeps_signal : (moves : List Handover) (ws : List Owed) (owed : Owed) → child_for true owed.variable moves ≡ None → signals_kept moves (ws ++ owed ∷ []) ≡ signals_kept moves ws ++ owed ∷ []
keeps_signal moves ws owed to = filter_more (λ right. stays (child_for true right.variable moves)) ws owed ∙ ap (λ o. if stays o then signals_kept moves ws ++ owed ∷ [] else signals_kept moves ws) to

pub gives_signal_away : (moves : List Handover) (ws : List Owed) (owed : Owed) (child : ℕ) → child_for true owed.variable moves ≡ Some child → signals_kept moves (ws ++ owed ∷ []) ≡ signals_kept moves ws
gives_signal_away moves ws owed child to = filter_more (λ right. stays (child_for true right.variable moves)) ws owed ∙ ap (λ o. if stays o then signals_kept moves ws ++ owed ∷ [] else signals_kept moves ws) to

-- .. behind what it had
module _ {L : Type 0} where
  pub keeps_wait_more : (moves : List Handover) (had before : List Due) (right : HeldWait L) (old new : List (HeldWait L)) → new ≡ old ++ right ∷ [] → child_for false (due_of right).variable moves ≡ None
      → map due_of old ≡ had ++ waits_kept moves before → map due_of new ≡ had ++ waits_kept moves (before ++ due_of right ∷ [])
  keeps_wait_more moves had before right old new is to was = ap (map due_of) is ∙ map-append due_of old (right ∷ []) ∙ ap (λ l. l ++ due_of right ∷ []) was ∙ append_assoc had (waits_kept moves before) (due_of right ∷ [])
      ∙ ap (λ l. had ++ l) (sym (keeps_wait moves before (due_of right) to))

  pub keeps_signal_more : (moves : List Handover) (had before : List Owed) (right : HeldSignal L) (old new : List (HeldSignal L)) → new ≡ old ++ right ∷ [] → child_for true (owed_of right).variable moves ≡ None
      → map owed_of old ≡ had ++ signals_kept moves before → map owed_of new ≡ had ++ signals_kept moves (before ++ owed_of right ∷ [])
  keeps_signal_more moves had before right old new is to was = ap (map owed_of) is ∙ map-append owed_of old (right ∷ []) ∙ ap (λ l. l ++ owed_of right ∷ []) was ∙ append_assoc had (signals_kept moves before) (owed_of right ∷ [])
      ∙ ap (λ l. had ++ l) (sym (keeps_signal moves before (owed_of right) to))

-- one right less is to be handed out
pub fewer : {A L : Type 0} (table : TableId) (room : ℕ) (loads : List L) (has : ℕ → Rights) (kids : List (Box (Branch L (Hold L)) Global)) (rest more : List A) (x : A) → rest ≡ x ∷ more
    → AreFor table (length rest + room) loads has kids → AreFor table ((length more + room) + 1) loads has kids
fewer table room loads has kids rest more x is are = subst (λ (n : ℕ). AreFor table n loads has kids) (let one = ap length is in omega (arith, one)) are

pub as_waits : {L : Type 0} (table : TableId) (room : ℕ) (loads : List L) (moves : List Handover) (has : ℕ → Rights) (kids : List (Box (Branch L (Hold L)) Global)) (l m : List Due) → l ≡ m
    → AreFor table room loads (with_waits moves l has) kids → AreFor table room loads (with_waits moves m has) kids
as_waits table room loads moves has kids l m same are = subst (λ (x : List Due). AreFor table room loads (with_waits moves x has) kids) same are

pub as_signals : {L : Type 0} (table : TableId) (room : ℕ) (loads : List L) (moves : List Handover) (has : ℕ → Rights) (kids : List (Box (Branch L (Hold L)) Global)) (l m : List Owed) → l ≡ m
    → AreFor table room loads (with_signals moves l has) kids → AreFor table room loads (with_signals moves m has) kids
as_signals table room loads moves has kids l m same are = subst (λ (x : List Owed). AreFor table room loads (with_signals moves x has) kids) same are

pub begin_waits : {L : Type 0} (table : TableId) (room : ℕ) (loads : List L) (moves : List Handover) (has : ℕ → Rights) (kids : List (Box (Branch L (Hold L)) Global)) (l rest : List (HeldWait L)) → rest ≡ l
    → AreFor table (length l + room) loads has kids → AreFor table (length rest + room) loads (with_waits moves [] has) kids
begin_waits {L} table room loads moves has kids l rest same are = subst (λ (r : List (HeldWait L)). AreFor table (length r + room) loads (with_waits moves [] has) kids) (sym same)
    (are_same table (length l + room) loads has (with_waits moves [] has) kids (λ number. λ i. record { waits = sym (append-nil (has number).waits) i; signals = (has number).signals }) are)

pub begin_signals : {L : Type 0} (table : TableId) (room : ℕ) (loads : List L) (moves : List Handover) (has : ℕ → Rights) (kids : List (Box (Branch L (Hold L)) Global)) (l rest : List (HeldSignal L)) → rest ≡ l
    → AreFor table (length l + room) loads has kids → AreFor table (length rest + room) loads (with_signals moves [] has) kids
begin_signals {L} table room loads moves has kids l rest same are = subst (λ (r : List (HeldSignal L)). AreFor table (length r + room) loads (with_signals moves [] has) kids) (sym same)
    (are_same table (length l + room) loads has (with_signals moves [] has) kids (λ number. λ i. record { waits = (has number).waits; signals = sym (append-nil (has number).signals) i }) are)

-- rights that were taken out of a hold to be handed out
module _ {L : Type 0} (table : TableId) (loads : List L) (moves : List Handover) (has : ℕ → Rights) (ws ws' : List (HeldWait L)) (ss ss' : List (HeldSignal L)) (w : ws ≡ ws') (s : ss ≡ ss') (room : ℕ) (kids : List (Box (Branch L (Hold L)) Global)) where
  pub to_hand : AreFor table (length ws' + (length ss' + room)) loads has kids → AreFor table (length ws + (length ss + room)) loads has kids
  to_hand are = subst (λ (x : List (HeldWait L) × List (HeldSignal L)). AreFor table (length x.0 + (length x.1 + room)) loads has kids) (λ i. (sym w i, sym s i)) are

  pub handed : AreFor table room loads (with_signals moves (map owed_of ss) (with_waits moves (map due_of ws) has)) kids → AreFor table room loads (with_signals moves (map owed_of ss') (with_waits moves (map due_of ws') has)) kids
  handed are = subst (λ (x : List (HeldWait L) × List (HeldSignal L)). AreFor table room loads (with_signals moves (map owed_of x.1) (with_waits moves (map due_of x.0) has)) kids) (λ i. (w i, s i)) are
