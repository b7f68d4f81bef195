-- Each kind of step on a cell keeps its rule.
use Rattle.std.proofs.Common.{◌≡◌, ◌⊎◌, inl, inr, ℕ, zero, suc, ◌+◌, Bool, true, false, ◌==◌, if◌then◌else◌, ◌&&◌, List, [], ◌∷◌, ◌++◌, refl, sym, ap, ◌∙◌, subst, bit_or, slice_index, slice_set, true≢false}
use mathlib.Core.Option.{Option, none, some, some-injective, some-ne-none}
use lib.ListN.{get_elem?}
use Rattle.atomic_table.specs.Table.{Me, Act, keeps, takes, gives, Valid, homes_after, carried_after, rest, Allows, Splits}
use Rattle.merc_cell.specs.declared.glance.Slot.{Slot}
use Rattle.merc_cell.specs.declared.glance.Slot.TheVariants.{Empty, Waiter, Value}
use Rattle.merc_cell.specs.declared.glance.Stage.{Stage}
use Rattle.merc_cell.specs.declared.glance.Stage.TheVariants.{Alone, Idle, Holding, Apart, Met, TookWaiter, TookBoth}
use Rattle.merc_cell.specs.declared.glance.End.{End}
use Rattle.merc_cell.specs.declared.glance.End.TheVariants.{Open, Full, Poisoned}
use Rattle.merc_cell.specs.declared.glance.Glance.{Glance}
use Rattle.merc_cell.specs.Cell.{has_stepped, handed, number, glance, lone, begun, Agree, idle_idle, idle_holding, holding_idle, holding_holding, apart_idle, apart_holding, idle_full, holding_full, idle_poisoned, holding_poisoned, met_full, took_waiter_full, took_both_full, met_poisoned, took_waiter_poisoned, full_met, full_took_waiter, full_took_both, poisoned_met, poisoned_took_waiter, HasWaiter, WaiterAt, HasValue, ValueAt, Two, Cases, Kept, end_of, second, own_slot, wait_bit, IsBegun, IsAt, Grabbed, Waited, Signalled, Spoilt, GotWaiter, GotValue, OneIsHanded}

abbrev pub is_alone : Stage → Bool
is_alone Alone = true
is_alone Idle = false
is_alone Holding = false
is_alone Apart = false
is_alone Met = false
is_alone TookWaiter = false
is_alone TookBoth = false

pub facts : (cs : Stage) (ce : End) (ps : Stage) (pe : End) → Agree cs ce ps pe
    → (is_alone cs ≡ false) × (is_alone ps ≡ false) × (handed cs + handed ps ≡ (if has_stepped cs && has_stepped ps then 1 else 0)) × ((ce ≡ Open) ⊎ (ce ≡ pe))
facts _ _ _ _ idle_idle = (refl, refl, refl, inl refl)
facts _ _ _ _ idle_holding = (refl, refl, refl, inl refl)
facts _ _ _ _ holding_idle = (refl, refl, refl, inl refl)
facts _ _ _ _ holding_holding = (refl, refl, refl, inl refl)
facts _ _ _ _ apart_idle = (refl, refl, refl, inl refl)
facts _ _ _ _ apart_holding = (refl, refl, refl, inl refl)
facts _ _ _ _ idle_full = (refl, refl, refl, inl refl)
facts _ _ _ _ holding_full = (refl, refl, refl, inl refl)
facts _ _ _ _ idle_poisoned = (refl, refl, refl, inl refl)
facts _ _ _ _ holding_poisoned = (refl, refl, refl, inl refl)
facts _ _ _ _ met_full = (refl, refl, refl, inr refl)
facts _ _ _ _ took_waiter_full = (refl, refl, refl, inr refl)
facts _ _ _ _ took_both_full = (refl, refl, refl, inr refl)
facts _ _ _ _ met_poisoned = (refl, refl, refl, inr refl)
facts _ _ _ _ took_waiter_poisoned = (refl, refl, refl, inr refl)
facts _ _ _ _ full_met = (refl, refl, refl, inl refl)
facts _ _ _ _ full_took_waiter = (refl, refl, refl, inl refl)
facts _ _ _ _ full_took_both = (refl, refl, refl, inl refl)
facts _ _ _ _ poisoned_met = (refl, refl, refl, inl refl)
facts _ _ _ _ poisoned_took_waiter = (refl, refl, refl, inl refl)

-- a list of slots begins with what a step took
pub still : {S : Type 0} (l m : List (ℕ × S)) (x : ℕ × S) → l ≡ x ∷ m → l ≡ x ∷ rest l
still l m x is = is ∙ ap (λ t. x ∷ t) (sym (ap rest is))

module _ {V W : Type 0} (fv : List ℕ → V → Type 0) (fw : List ℕ → W → Type 0) where
  pub one_handed : (words : List ℕ) (homes : List (Option (Slot V W))) (c p : Glance V W) → Cases fv fw words homes (c ∷ p ∷ []) → OneIsHanded c p
  one_handed words homes c p kept = let told = facts c.stage c.end p.stage p.end kept.4.agree in record { once = told.2; cause = told.3 }

  -- the consumer's seat stands at the first place
  as_consumer : (G : List ℕ → List (Option (Slot V W)) → List (Glance V W) → ℕ → Type 0) (me : Glance V W) → me.consumer ≡ true → is_alone me.stage ≡ false
      → ((a b : Option (Slot V W)) (p : Glance V W) → Two fv fw a b me p → G (number me.stage p.end ∷ []) (a ∷ b ∷ []) (me ∷ p ∷ []) 0)
      → (words : List ℕ) (homes : List (Option (Slot V W))) (views : List (Glance V W)) (id : ℕ) → Cases fv fw words homes views → get_elem? views id ≡ some me → G words homes views id
  as_consumer G me mine parted f words homes [] id kept at = absurd kept
  as_consumer G me mine parted f words homes (c ∷ []) zero kept at = absurd (true≢false (sym (ap (λ (v : Glance V W). is_alone v.stage) (sym (some-injective c me at) ∙ kept.2)) ∙ parted))
  as_consumer G me mine parted f words homes (c ∷ []) (suc id) kept at = absurd (some-ne-none me (sym at))
  as_consumer G me mine parted f words homes (c ∷ p ∷ []) zero kept at =
      let here : c ≡ me = some-injective c me at in
      let two : Two fv fw kept.0 kept.1 me p = subst (λ (v : Glance V W). Two fv fw kept.0 kept.1 v p) here kept.4 in
      let word : words ≡ number me.stage p.end ∷ [] = kept.2 ∙ ap (λ (v : Glance V W). number v.stage p.end ∷ []) here in
      subst (λ (x : (List ℕ × List (Option (Slot V W))) × Glance V W). G x.0.0 x.0.1 (x.1 ∷ p ∷ []) 0) (λ k. ((sym word k, sym kept.3 k), sym here k)) (f kept.0 kept.1 p two)
  as_consumer G me mine parted f words homes (c ∷ p ∷ []) (suc zero) kept at = absurd (true≢false (sym mine ∙ (ap (λ (v : Glance V W). v.consumer) (sym (some-injective p me at)) ∙ kept.4.producer)))
  as_consumer G me mine parted f words homes (c ∷ p ∷ []) (suc (suc id)) kept at = absurd (some-ne-none me (sym at))
  as_consumer G me mine parted f words homes (c ∷ p ∷ q ∷ others) id kept at = absurd kept

  -- the producer's seat stands at the second
  as_producer : (G : List ℕ → List (Option (Slot V W)) → List (Glance V W) → ℕ → Type 0) (me : Glance V W) → me.consumer ≡ false
      → ((a b : Option (Slot V W)) (c : Glance V W) → Two fv fw a b c me → G (number c.stage me.end ∷ []) (a ∷ b ∷ []) (c ∷ me ∷ []) 1)
      → (words : List ℕ) (homes : List (Option (Slot V W))) (views : List (Glance V W)) (id : ℕ) → Cases fv fw words homes views → get_elem? views id ≡ some me → G words homes views id
  as_producer G me mine f words homes [] id kept at = absurd kept
  as_producer G me mine f words homes (c ∷ []) zero kept at = absurd (true≢false (sym (ap (λ (v : Glance V W). v.consumer) (sym (some-injective c me at) ∙ kept.2)) ∙ mine))
  as_producer G me mine f words homes (c ∷ []) (suc id) kept at = absurd (some-ne-none me (sym at))
  as_producer G me mine f words homes (c ∷ p ∷ []) zero kept at = absurd (true≢false (sym kept.4.consumer ∙ (ap (λ (v : Glance V W). v.consumer) (some-injective c me at) ∙ mine)))
  as_producer G me mine f words homes (c ∷ p ∷ []) (suc zero) kept at =
      let here : p ≡ me = some-injective p me at in
      let two : Two fv fw kept.0 kept.1 c me = subst (λ (v : Glance V W). Two fv fw kept.0 kept.1 c v) here kept.4 in
      let word : words ≡ number c.stage me.end ∷ [] = kept.2 ∙ ap (λ (v : Glance V W). number c.stage v.end ∷ []) here in
      subst (λ (x : (List ℕ × List (Option (Slot V W))) × Glance V W). G x.0.0 x.0.1 (c ∷ x.1 ∷ []) 1) (λ k. ((sym word k, sym kept.3 k), sym here k)) (f kept.0 kept.1 c two)
  as_producer G me mine f words homes (c ∷ p ∷ []) (suc (suc id)) kept at = absurd (some-ne-none me (sym at))
  as_producer G me mine f words homes (c ∷ p ∷ q ∷ others) id kept at = absurd kept

  -- the seat has a step that keeps the rule and tells this
  abbrev Owes : Me (Slot V W) (Glance V W) → (ℕ → ℕ) → (ℕ → Me (Slot V W) (Glance V W) → Type 0) → List ℕ → List (Option (Slot V W)) → List (Glance V W) → ℕ → Type 0
  Owes me f tells words homes views id = (w : Glance V W) × (a : Act (Slot V W)) × Valid homes me.1 a
      × Cases fv fw (slice_set words 0 (f (slice_index words 0))) (homes_after homes me.1 a) (slice_set views id w) × tells (slice_index words 0) (w, carried_after me.1 a)

  parts : (name : List ℕ) (words : List ℕ) (homes : List (Option (Slot V W))) (views : List (Glance V W)) (id : ℕ) → Cases fv fw words homes views → get_elem? views id ≡ some lone
      → Cases fv fw words homes (slice_set views id (begun name true) ++ begun name false ∷ [])
  parts name words homes [] id kept at = absurd kept
  parts name words homes (c ∷ []) zero kept at = (some Empty, some Empty, kept.0, kept.1, record { consumer = refl; producer = refl; one_name = refl; agree = idle_idle; waiter = refl; value = refl })
  parts name words homes (c ∷ []) (suc id) kept at = absurd (some-ne-none lone (sym at))
  parts name words homes (c ∷ p ∷ []) zero kept at = absurd (true≢false (sym (ap (λ (v : Glance V W). is_alone v.stage) (some-injective c lone at)) ∙ (facts c.stage c.end p.stage p.end kept.4.agree).0))
  parts name words homes (c ∷ p ∷ []) (suc zero) kept at = absurd (true≢false (sym (ap (λ (v : Glance V W). is_alone v.stage) (some-injective p lone at)) ∙ (facts c.stage c.end p.stage p.end kept.4.agree).1))
  parts name words homes (c ∷ p ∷ []) (suc (suc id)) kept at = absurd (some-ne-none lone (sym at))
  parts name words homes (c ∷ p ∷ q ∷ others) id kept at = absurd kept

  -- the first seat becomes the consumer's, and a second one the producer's
  pub splits : (name : List ℕ) (id : ℕ) (v : Glance V W) → v ≡ lone → Splits (Kept fv fw) id v (begun name true) (begun name false)
  splits name id v is s kept at = parts name s.words s.homes s.views id kept (at ∙ ap some is)

  value_beside_holding : (name : List ℕ) (put : Slot V W) (b : Option (Slot V W)) (ps : Stage) (pe : End) → Agree Idle Open ps pe → ValueAt fv name put b pe ps Idle
      → Agree Holding Open ps pe × ValueAt fv name put b pe ps Holding
  value_beside_holding name put b _ _ idle_idle v = (holding_idle, v)
  value_beside_holding name put b _ _ idle_holding v = (holding_holding, v)
  value_beside_holding name put b _ _ idle_full v = (holding_full, v)
  value_beside_holding name put b _ _ idle_poisoned v = (holding_poisoned, v)

  consumer_grabs : (slots id : ℕ) (name : List ℕ) → Allows (Kept fv fw) slots id (begun name true, []) 0 (λ n. n) (λ _ m. Grabbed (begun name true, []) m)
  consumer_grabs slots id name s kept _ at _ = as_consumer (Owes (begun name true, []) (λ n. n) (λ _ m. Grabbed (begun name true, []) m)) (begun name true) refl refl (λ a b p two.
      let next = value_beside_holding p.name p.put b p.stage p.end two.agree two.value in (
        glance name true Holding Open Empty,
        takes 0 Empty,
        ap some two.waiter,
        (none, b, refl, refl, record { consumer = refl; producer = two.producer; one_name = two.one_name; agree = next.0; waiter = tt; value = next.1 }),
        (refl, refl),
      )) s.words s.homes s.views id kept at

  waiter_beside_holding : (name : List ℕ) (put : Slot V W) (a : Option (Slot V W)) (cs : Stage) (ce : End) → Agree cs ce Idle Open → WaiterAt fw name put a cs Idle
      → Agree cs ce Holding Open × WaiterAt fw name put a cs Holding
  waiter_beside_holding name put a _ _ idle_idle w = (idle_holding, w)
  waiter_beside_holding name put a _ _ holding_idle w = (holding_holding, w)
  waiter_beside_holding name put a _ _ apart_idle w = (apart_holding, w)

  producer_grabs : (slots id : ℕ) (name : List ℕ) → Allows (Kept fv fw) slots id (begun name false, []) 0 (λ n. n) (λ _ m. Grabbed (begun name false, []) m)
  producer_grabs slots id name s kept _ at _ = as_producer (Owes (begun name false, []) (λ n. n) (λ _ m. Grabbed (begun name false, []) m)) (begun name false) refl (λ a b c two.
      let next = waiter_beside_holding c.name c.put a c.stage c.end two.agree two.waiter in (
        glance name false Holding Open Empty,
        takes 1 Empty,
        ap some two.value,
        (a, none, refl, refl, record { consumer = two.consumer; producer = refl; one_name = two.one_name; agree = next.0; waiter = next.1; value = tt }),
        (refl, refl),
      )) s.words s.homes s.views id kept at

  pub grabs : (consumer : Bool) (slots id : ℕ) (me : Me (Slot V W) (Glance V W)) → IsBegun consumer me → Allows (Kept fv fw) slots id me 0 (λ n. n) (λ _ m. Grabbed me m)
  grabs true slots id me is = subst (λ (u : Me (Slot V W) (Glance V W)). Allows (Kept fv fw) slots id u 0 (λ n. n) (λ _ m. Grabbed u m)) (sym is) (consumer_grabs slots id me.0.name)
  grabs false slots id me is = subst (λ (u : Me (Slot V W) (Glance V W)). Allows (Kept fv fw) slots id u 0 (λ n. n) (λ _ m. Grabbed u m)) (sym is) (producer_grabs slots id me.0.name)

  -- a seat that took its own slot and put something there
  pub held : (consumer : Bool) (put : Slot V W) (old n e : Me (Slot V W) (Glance V W)) → IsBegun consumer old → Grabbed old n → e ≡ (n.0, (own_slot consumer, put) ∷ rest n.1)
      → e ≡ (glance old.0.name consumer Holding Open Empty, (own_slot consumer, put) ∷ [])
  held consumer put old n e is tells changed =
      let view : n.0 ≡ glance old.0.name consumer Holding Open Empty = tells.0 ∙ ap (λ (x : Bool). glance old.0.name x Holding Open Empty) (ap (λ (m : Me (Slot V W) (Glance V W)). m.0.consumer) is) in
      let empty : rest n.1 ≡ [] = ap rest tells.1 ∙ ap (λ (m : Me (Slot V W) (Glance V W)). m.1) is in
      changed ∙ (λ k. (view k, (own_slot consumer, put) ∷ empty k))

  after_wait : (name put_name : List ℕ) (put : Slot V W) (b : Option (Slot V W)) (w : W) → fw name w → (ps : Stage) (pe : End) → Agree Holding Open ps pe → ValueAt fv put_name put b pe ps Holding
      → Agree (second (if number Holding pe == 0 then false else true)) (end_of (number Holding pe)) ps pe
      × ValueAt fv put_name put b pe ps (second (if number Holding pe == 0 then false else true))
      × (bit_or (number Holding pe) 1 ≡ number (second (if number Holding pe == 0 then false else true)) pe)
      × WaiterAt {V = V} fw name (Waiter w) (some (Waiter w)) (second (if number Holding pe == 0 then false else true)) ps
  after_wait name put_name put b w fits _ _ holding_idle v = (apart_idle, v, refl, (w, refl, refl, fits))
  after_wait name put_name put b w fits _ _ holding_holding v = (apart_holding, v, refl, (w, refl, refl, fits))
  after_wait name put_name put b w fits _ _ holding_full v = (met_full, v, refl, (w, refl, refl, fits))
  after_wait name put_name put b w fits _ _ holding_poisoned v = (met_poisoned, v, refl, (w, refl, refl, fits))

  waits_here : (slots id : ℕ) (name : List ℕ) (w : W) → fw name w
      → Allows (Kept fv fw) slots id (glance name true Holding Open Empty, (0, Waiter w) ∷ []) 0 (λ n. bit_or n 1) (λ found m. Waited (glance name true Holding Open Empty, (0, Waiter w) ∷ []) found m)
  waits_here slots id name w fits s kept _ at _ = as_consumer
      (Owes (glance name true Holding Open Empty, (0, Waiter w) ∷ []) (λ n. bit_or n 1) (λ found m. Waited (glance name true Holding Open Empty, (0, Waiter w) ∷ []) found m))
      (glance name true Holding Open Empty) refl refl (λ a b p two.
      let next = after_wait name p.name p.put b w fits p.stage p.end two.agree two.value in (
        glance name true (second (if number Holding p.end == 0 then false else true)) (end_of (number Holding p.end)) (Waiter w),
        gives,
        tt,
        (some (Waiter w), b, ap (λ (n : ℕ). n ∷ []) next.2, refl, record { consumer = refl; producer = two.producer; one_name = two.one_name; agree = next.0; waiter = next.3; value = next.1 }),
        (refl, refl),
      )) s.words s.homes s.views id kept at

  pub waits : (slots id : ℕ) (name : List ℕ) (me : Me (Slot V W) (Glance V W)) (w : W) → fw name w → me ≡ (glance name true Holding Open Empty, (0, Waiter w) ∷ [])
      → Allows (Kept fv fw) slots id me 0 (λ n. bit_or n 1) (λ found m. Waited me found m)
  waits slots id name me w fits is = subst (λ (u : Me (Slot V W) (Glance V W)). Allows (Kept fv fw) slots id u 0 (λ n. bit_or n 1) (λ found m. Waited u found m)) (sym is) (waits_here slots id name w fits)

  after_signal : (name own : List ℕ) (put : Slot V W) (a : Option (Slot V W)) (v : V) → fv own v → (cs : Stage) (ce : End) → Agree cs ce Holding Open → WaiterAt fw name put a cs Holding
      → Agree cs ce (second (number cs Open == wait_bit)) Full
      × WaiterAt fw name put a cs (second (number cs Open == wait_bit))
      × (bit_or (number cs Open) 2 ≡ number cs Full)
      × ValueAt {W = W} fv own (Value v) (some (Value v)) Full (second (number cs Open == wait_bit)) cs
  after_signal name own put a v fits _ _ idle_holding w = (idle_full, w, refl, (v, refl, refl, fits))
  after_signal name own put a v fits _ _ holding_holding w = (holding_full, w, refl, (v, refl, refl, fits))
  after_signal name own put a v fits _ _ apart_holding w = (full_met, w, refl, (v, refl, refl, fits))

  signals_here : (slots id : ℕ) (name : List ℕ) (v : V) → fv name v
      → Allows (Kept fv fw) slots id (glance name false Holding Open Empty, (1, Value v) ∷ []) 0 (λ n. bit_or n 2) (λ found m. Signalled (glance name false Holding Open Empty, (1, Value v) ∷ []) found m)
  signals_here slots id name v fits s kept _ at _ = as_producer
      (Owes (glance name false Holding Open Empty, (1, Value v) ∷ []) (λ n. bit_or n 2) (λ found m. Signalled (glance name false Holding Open Empty, (1, Value v) ∷ []) found m))
      (glance name false Holding Open Empty) refl (λ a b c two.
      let next = after_signal c.name name c.put a v fits c.stage c.end two.agree two.waiter in (
        glance name false (second (number c.stage Open == wait_bit)) Full (Value v),
        gives,
        tt,
        (a, some (Value v), ap (λ (n : ℕ). n ∷ []) next.2, refl, record { consumer = two.consumer; producer = refl; one_name = two.one_name; agree = next.0; waiter = next.1; value = next.3 }),
        (refl, refl),
      )) s.words s.homes s.views id kept at

  pub signals : (slots id : ℕ) (name : List ℕ) (me : Me (Slot V W) (Glance V W)) (v : V) → fv name v → me ≡ (glance name false Holding Open Empty, (1, Value v) ∷ [])
      → Allows (Kept fv fw) slots id me 0 (λ n. bit_or n 2) (λ found m. Signalled me found m)
  signals slots id name me v fits is = subst (λ (u : Me (Slot V W) (Glance V W)). Allows (Kept fv fw) slots id u 0 (λ n. bit_or n 2) (λ found m. Signalled u found m)) (sym is) (signals_here slots id name v fits)

  after_poison : (name : List ℕ) (put : Slot V W) (a : Option (Slot V W)) (cs : Stage) (ce : End) → Agree cs ce Idle Open → WaiterAt fw name put a cs Idle
      → Agree cs ce (second (number cs Open == wait_bit)) Poisoned
      × WaiterAt fw name put a cs (second (number cs Open == wait_bit))
      × (bit_or (number cs Open) 4 ≡ number cs Poisoned)
  after_poison name put a _ _ idle_idle w = (idle_poisoned, w, refl)
  after_poison name put a _ _ holding_idle w = (holding_poisoned, w, refl)
  after_poison name put a _ _ apart_idle w = (poisoned_met, w, refl)

  spoils_here : (slots id : ℕ) (name : List ℕ) → Allows (Kept fv fw) slots id (begun name false, []) 0 (λ n. bit_or n 4) (λ found m. Spoilt (begun name false, []) found m)
  spoils_here slots id name s kept _ at _ = as_producer (Owes (begun name false, []) (λ n. bit_or n 4) (λ found m. Spoilt (begun name false, []) found m)) (begun name false) refl (λ a b c two.
      let next = after_poison c.name c.put a c.stage c.end two.agree two.waiter in (
        glance name false (second (number c.stage Open == wait_bit)) Poisoned Empty,
        keeps,
        tt,
        (a, b, ap (λ (n : ℕ). n ∷ []) next.2, refl, record { consumer = two.consumer; producer = refl; one_name = two.one_name; agree = next.0; waiter = next.1; value = two.value }),
        (refl, refl),
      )) s.words s.homes s.views id kept at

  pub spoils : (slots id : ℕ) (me : Me (Slot V W) (Glance V W)) → IsBegun false me → Allows (Kept fv fw) slots id me 0 (λ n. bit_or n 4) (λ found m. Spoilt me found m)
  spoils slots id me is = subst (λ (u : Me (Slot V W) (Glance V W)). Allows (Kept fv fw) slots id u 0 (λ n. bit_or n 4) (λ found m. Spoilt u found m)) (sym is) (spoils_here slots id me.0.name)

  value_without_waiter : (name : List ℕ) (put : Slot V W) (b : Option (Slot V W)) (e : End) (ps : Stage) (pe : End) → Agree Met e ps pe → ValueAt fv name put b pe ps Met
      → Agree TookWaiter e ps pe × ValueAt fv name put b pe ps TookWaiter
  value_without_waiter name put b _ _ _ met_full v = (took_waiter_full, v)
  value_without_waiter name put b _ _ _ met_poisoned v = (took_waiter_poisoned, v)

  waiter_taken : (name own : List ℕ) (put own_put : Slot V W) (a b : Option (Slot V W)) (cs : Stage) (ce e : End) → Agree cs ce Met e → WaiterAt fw name put a cs Met → ValueAt fv own own_put b e Met cs
      → HasWaiter fw name put a × Agree cs ce TookWaiter e × WaiterAt fw name put none cs TookWaiter × ValueAt fv own own_put b e TookWaiter cs
  waiter_taken name own put own_put a b _ _ _ full_met w v = (w, full_took_waiter, tt, v)
  waiter_taken name own put own_put a b _ _ _ poisoned_met w v = (w, poisoned_took_waiter, tt, v)

  takes_waiter_here : (slots id : ℕ) (name : List ℕ) (consumer : Bool) (e : End) (put : Slot V W) (carried : List (ℕ × Slot V W))
      → Allows (Kept fv fw) slots id (glance name consumer Met e put, carried) 0 (λ n. n) (λ _ m. GotWaiter fw (glance name consumer Met e put, carried) m)
  takes_waiter_here slots id name true e put carried s kept _ at _ = as_consumer (Owes (glance name true Met e put, carried) (λ n. n) (λ _ m. GotWaiter fw (glance name true Met e put, carried) m)) (glance name true Met e put) refl refl (λ a b p two.
      let home = two.waiter in
      let next = value_without_waiter p.name p.put b e p.stage p.end two.agree two.value in (
        glance name true TookWaiter e put,
        takes 0 (Waiter home.0),
        ap some home.2,
        (none, b, refl, refl, record { consumer = refl; producer = two.producer; one_name = two.one_name; agree = next.0; waiter = tt; value = next.1 }),
        (refl, (home.0, refl, home.3, λ _. home.1)),
      )) s.words s.homes s.views id kept at
  takes_waiter_here slots id name false e put carried s kept _ at _ = as_producer (Owes (glance name false Met e put, carried) (λ n. n) (λ _ m. GotWaiter fw (glance name false Met e put, carried) m)) (glance name false Met e put) refl (λ a b c two.
      let next = waiter_taken c.name name c.put put a b c.stage c.end e two.agree two.waiter two.value in
      let home = next.0 in (
        glance name false TookWaiter e put,
        takes 0 (Waiter home.0),
        ap some home.2,
        (none, b, refl, refl, record { consumer = two.consumer; producer = refl; one_name = two.one_name; agree = next.1; waiter = next.2; value = next.3 }),
        (refl, (home.0, refl, subst (λ (n : List ℕ). fw n home.0) (sym two.one_name) home.3, λ not_so. absurd (true≢false (sym not_so)))),
      )) s.words s.homes s.views id kept at

  pub takes_waiter : (slots id : ℕ) (me : Me (Slot V W) (Glance V W)) → IsAt Met me.0 → Allows (Kept fv fw) slots id me 0 (λ n. n) (λ _ m. GotWaiter fw me m)
  takes_waiter slots id me is = subst (λ (v : Glance V W). Allows (Kept fv fw) slots id (v, me.1) 0 (λ n. n) (λ _ m. GotWaiter fw (v, me.1) m)) (sym is)
      (takes_waiter_here slots id me.0.name me.0.consumer me.0.end me.0.put me.1)

  value_taken : (name : List ℕ) (put : Slot V W) (b : Option (Slot V W)) (ps : Stage) (pe : End) → Agree TookWaiter Full ps pe → ValueAt fv name put b pe ps TookWaiter
      → HasValue fv name put b × Agree TookBoth Full ps pe × ValueAt fv name put none pe ps TookBoth
  value_taken name put b _ _ took_waiter_full v = (v, took_both_full, tt)

  waiter_gone : (name : List ℕ) (put : Slot V W) (a : Option (Slot V W)) (cs : Stage) (ce : End) → Agree cs ce TookWaiter Full → WaiterAt fw name put a cs TookWaiter
      → Agree cs ce TookBoth Full × WaiterAt fw name put a cs TookBoth
  waiter_gone name put a _ _ full_took_waiter w = (full_took_both, w)

  takes_value_here : (slots id : ℕ) (name : List ℕ) (consumer : Bool) (put : Slot V W) (carried : List (ℕ × Slot V W))
      → Allows (Kept fv fw) slots id (glance name consumer TookWaiter Full put, carried) 0 (λ n. n) (λ _ m. GotValue fv (glance name consumer TookWaiter Full put, carried) m)
  takes_value_here slots id name true put carried s kept _ at _ = as_consumer (Owes (glance name true TookWaiter Full put, carried) (λ n. n) (λ _ m. GotValue fv (glance name true TookWaiter Full put, carried) m)) (glance name true TookWaiter Full put) refl refl (λ a b p two.
      let next = value_taken p.name p.put b p.stage p.end two.agree two.value in
      let home = next.0 in (
        glance name true TookBoth Full put,
        takes 1 (Value home.0),
        ap some home.2,
        (a, none, refl, refl, record { consumer = refl; producer = two.producer; one_name = two.one_name; agree = next.1; waiter = tt; value = next.2 }),
        (refl, (home.0, refl, subst (λ (n : List ℕ). fv n home.0) two.one_name home.3, λ not_so. absurd (true≢false not_so))),
      )) s.words s.homes s.views id kept at
  takes_value_here slots id name false put carried s kept _ at _ = as_producer (Owes (glance name false TookWaiter Full put, carried) (λ n. n) (λ _ m. GotValue fv (glance name false TookWaiter Full put, carried) m)) (glance name false TookWaiter Full put) refl (λ a b c two.
      let home = two.value in
      let next = waiter_gone c.name c.put a c.stage c.end two.agree two.waiter in (
        glance name false TookBoth Full put,
        takes 1 (Value home.0),
        ap some home.2,
        (a, none, refl, refl, record { consumer = two.consumer; producer = refl; one_name = two.one_name; agree = next.0; waiter = next.1; value = tt }),
        (refl, (home.0, refl, home.3, λ _. home.1)),
      )) s.words s.homes s.views id kept at

  pub takes_value : (slots id : ℕ) (me : Me (Slot V W) (Glance V W)) → IsAt TookWaiter me.0 → me.0.end ≡ Full → Allows (Kept fv fw) slots id me 0 (λ n. n) (λ _ m. GotValue fv me m)
  takes_value slots id me is full = subst (λ (v : Glance V W). Allows (Kept fv fw) slots id (v, me.1) 0 (λ n. n) (λ _ m. GotValue fv (v, me.1) m)) (sym (is ∙ ap (λ (e : End). glance me.0.name me.0.consumer TookWaiter e me.0.put) full))
      (takes_value_here slots id me.0.name me.0.consumer me.0.put me.1)
