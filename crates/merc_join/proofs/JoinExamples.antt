-- What the definitions of a join say.
use Rattle.std.proofs.Common.{◌≡◌, ℕ, zero, suc, true, false, List, [], ◌∷◌, inl, inr, refl, sym, ap, ◌∙◌, subst, arith, true≢false, Some, None, slice_get}
use mathlib.Core.Option.{Option, none, some, some-injective, some-ne-none}
use lib.ListN.{get_elem?}
use Rattle.atomic_table.specs.Table.{Me}
use Rattle.merc_script.specs.declared.outcome.Outcome.{Outcome}
use Rattle.merc_script.specs.declared.outcome.Outcome.TheVariants.{Limit, Starved}
use Rattle.merc_join.specs.declared.stub.Slot.{Slot}
use Rattle.merc_join.specs.declared.stub.Slot.TheVariants.{Empty, Ended, Parent}
use Rattle.merc_join.specs.declared.stub.Stage.{Stage}
use Rattle.merc_join.specs.declared.stub.Stage.TheVariants.{Waiting, Holding, Stopped, Last, Over}
use Rattle.merc_join.specs.declared.stub.Stub.{Stub}
use Rattle.merc_join.specs.Join.{Missing, Carried, Here, Mark, mark, to_come, slots_of, left_of, Covers, has_stopped, is_last, stub, begun, Agree, waiting, stopped, Fits, Stands, Reached, running, Counted, OneIsLast}
use Rattle.merc_join.specs.Answers.{IsDone, IsFinished}
use Rattle.merc_join.proofs.Laws.{one_last}

-- of three children one has ended
pub to_come-three : to_come (mark 0 (Here Limit) ∷ mark 1 Missing ∷ mark 2 Carried ∷ []) ≡ 2
to_come-three = refl

pub slots_of-three : slots_of {P = ℕ} (mark 0 (Here Limit) ∷ mark 1 Missing ∷ mark 2 Carried ∷ []) ≡ some (Ended Limit) ∷ some Empty ∷ none ∷ []
slots_of-three = refl

-- the first outcome was taken out
pub left_of-one : left_of {P = ℕ} 1 (Limit ∷ Starved ∷ []) ≡ none ∷ some (Ended Starved) ∷ []
left_of-one = refl

-- a seat of two children from the third on
pub covers-fourth : Covers {P = ℕ} (begun 7 2 2) 3
covers-fourth = (omega arith, omega arith)

pub covers-fifth : Covers {P = ℕ} (begun 7 2 2) 4 → ⊥
covers-fifth = λ covers. absurd (omega (arith, covers.1))

-- a seat of one child at this stage
abbrev at : Stage → Stub ℕ
at stage = stub 7 0 1 stage Empty 0

second : (j : ℕ) (v : Stub ℕ) → get_elem? (at Stopped ∷ at Last ∷ []) j ≡ some v → is_last v.stage ≡ true → j ≡ 1
second zero v here is = absurd (true≢false (sym is ∙ ap (λ (u : Stub ℕ). is_last u.stage) (sym (some-injective (at Stopped) v here))))
second (suc zero) v here is = refl
second (suc (suc j)) v here is = absurd (some-ne-none v (sym here))

both : (j : ℕ) (v : Stub ℕ) → get_elem? (at Stopped ∷ at Last ∷ []) j ≡ some v → has_stopped v.stage ≡ true
both zero v here = ap (λ (u : Stub ℕ). has_stopped u.stage) (sym (some-injective (at Stopped) v here))
both (suc zero) v here = ap (λ (u : Stub ℕ). has_stopped u.stage) (sym (some-injective (at Last) v here))
both (suc (suc j)) v here = absurd (some-ne-none v (sym here))

-- of two seats that have stopped the second is the last
pub last-second : OneIsLast (at Stopped ∷ at Last ∷ [])
last-second = record {
  once = λ j k v w here there is is'. second j v here is ∙ sym (second k w there is');
  behind = λ j k v w here there is. both k w there;
  surely = λ all. (1, at Last, refl, refl);
}

-- both cannot be
pub last-twice : OneIsLast (at Last ∷ at Last ∷ []) → ⊥
last-twice = λ law. absurd (let same : 0 ≡ 1 = law.once 0 1 (at Last) (at Last) refl refl refl refl in omega arith)

-- nor one while the other is still to stop
pub last-early : OneIsLast (at Holding ∷ at Last ∷ []) → ⊥
last-early = λ law. absurd (true≢false (sym (law.behind 1 0 (at Last) (at Holding) refl refl refl)))

-- nor can neither, where both have stopped
stopped-both : (j : ℕ) (v : Stub ℕ) → get_elem? (at Stopped ∷ at Stopped ∷ []) j ≡ some v → (has_stopped v.stage ≡ true) × (is_last v.stage ≡ false)
stopped-both zero v here = (ap (λ (u : Stub ℕ). has_stopped u.stage) (sym (some-injective (at Stopped) v here)), ap (λ (u : Stub ℕ). is_last u.stage) (sym (some-injective (at Stopped) v here)))
stopped-both (suc zero) v here = (ap (λ (u : Stub ℕ). has_stopped u.stage) (sym (some-injective (at Stopped) v here)), ap (λ (u : Stub ℕ). is_last u.stage) (sym (some-injective (at Stopped) v here)))
stopped-both (suc (suc j)) v here = absurd (some-ne-none v (sym here))

pub last-never : OneIsLast (at Stopped ∷ at Stopped ∷ []) → ⊥
last-never = λ law. absurd (let one = law.surely (λ j v here. (stopped-both j v here).0) in true≢false (sym one.3 ∙ (stopped-both one.0 one.1 one.2).1))

starved-limit : Starved ≡ Limit → ⊥
starved-limit same = absurd (cc)

-- how the two children of a fork may end, in the examples
abbrev ends : ℕ → ℕ → Outcome → Type 0
ends parent zero outcome = outcome ≡ Starved
ends parent (suc child) outcome = outcome ≡ Limit

each-end : (i : ℕ) (o : Outcome) → slice_get (Starved ∷ Limit ∷ []) i ≡ Some o → ends 7 i o
each-end zero o got = cc
each-end (suc zero) o got = cc
each-end (suc (suc i)) o got = absurd (cc)

-- the second ticket is given both outcomes in order, and the parent
pub finished-two : IsFinished ends 7 1 2 Limit record { outcomes = Starved ∷ Limit ∷ []; parent = 7 }
finished-two = record { count = refl; each = each-end; own = refl; same_parent = refl }

-- they cannot be the other way round, nor can the parent be another
pub finished-turned : IsFinished ends 7 1 2 Limit record { outcomes = Limit ∷ Starved ∷ []; parent = 7 } → ⊥
finished-turned = λ finished. absurd (let own = finished.own in let same : Starved ≡ Limit = cc in starved-limit same)

pub finished-other : IsFinished ends 7 1 2 Limit record { outcomes = Starved ∷ Limit ∷ []; parent = 8 } → ⊥
finished-other = λ finished. absurd (let same = finished.same_parent in omega arith)

-- a ticket is given nothing where its seat has stopped, and all where it is the last
pub done-each : IsDone ends 7 1 2 Limit (stub 7 1 1 Stopped (Ended Limit) 0) None × IsDone ends 7 1 2 Limit (stub 7 1 1 Over (Ended Limit) 2) (Some record { outcomes = Starved ∷ Limit ∷ []; parent = 7 })
done-each = (refl, (refl, finished-two))

-- the last cannot be given nothing
pub done-nothing : IsDone ends 7 1 2 Limit (stub 7 1 1 Last (Ended Limit) 0) None → ⊥
done-nothing done = absurd (let last : Last ≡ Stopped = ap (λ (v : Stub ℕ). v.stage) done in cc)

-- a seat is the last where it found one child to come, its own, and has stopped where it found two
abbrev counted : Stage → Me (Slot ℕ) (Stub ℕ)
counted stage = (stub 7 1 1 stage (Ended Limit) 0, [])

abbrev carrying : Me (Slot ℕ) (Stub ℕ)
carrying = (stub 7 1 1 Holding Empty 0, (1, Ended Limit) ∷ [])

pub counted-each : Counted carrying 1 (counted Last) × Counted carrying 2 (counted Stopped)
counted-each = ((refl, refl), (refl, refl))

pub counted-two : Counted carrying 2 (counted Last) → ⊥
counted-two is = absurd (let last : Last ≡ Stopped = ap (λ (v : Stub ℕ). v.stage) is.0 in cc)

-- Of two children the first has ended, and the second is still to come
waits-second : (i : ℕ) → Covers {P = ℕ} (begun 7 1 1) i → (m : Mark) × (get_elem? (mark 1 (Here Starved) ∷ mark 0 Missing ∷ []) i ≡ some m) × (m.seat ≡ 0) × Agree Waiting m.progress
waits-second zero covers = absurd (omega (arith, covers.0))
waits-second (suc zero) covers = (mark 0 Missing, refl, refl, waiting)
waits-second (suc (suc i)) covers = absurd (omega (arith, covers.1))

ended-first : (i : ℕ) → Covers {P = ℕ} (stub 7 0 1 Stopped (Ended Starved) 0) i → (m : Mark) × (get_elem? (mark 1 (Here Starved) ∷ mark 0 Missing ∷ []) i ≡ some m) × (m.seat ≡ 1) × Agree Stopped m.progress
ended-first zero covers = (mark 1 (Here Starved), refl, refl, stopped Starved)
ended-first (suc i) covers = absurd (omega (arith, covers.1))

each-fits : (j : ℕ) (v : Stub ℕ) → get_elem? (begun 7 1 1 ∷ stub 7 0 1 Stopped (Ended Starved) 0 ∷ []) j ≡ some v → Fits 7 (mark 1 (Here Starved) ∷ mark 0 Missing ∷ []) j v
each-fits zero v here = subst (Fits 7 (mark 1 (Here Starved) ∷ mark 0 Missing ∷ []) 0) (some-injective (begun 7 1 1) v here) (record { parent = refl; some_child = omega arith; alone = inl refl; marked = waits-second })
each-fits (suc zero) v here = subst (Fits 7 (mark 1 (Here Starved) ∷ mark 0 Missing ∷ []) 1) (some-injective (stub 7 0 1 Stopped (Ended Starved) 0) v here) (record { parent = refl; some_child = omega arith; alone = inr refl; marked = ended-first })
each-fits (suc (suc j)) v here = absurd (some-ne-none v (sym here))

each-owned : (i : ℕ) (m : Mark) → get_elem? (mark 1 (Here Starved) ∷ mark 0 Missing ∷ []) i ≡ some m → Stands ends 7 (begun 7 1 1 ∷ stub 7 0 1 Stopped (Ended Starved) 0 ∷ []) i m
each-owned zero m here = subst (Stands ends 7 (begun 7 1 1 ∷ stub 7 0 1 Stopped (Ended Starved) 0 ∷ []) 0) (some-injective (mark 1 (Here Starved)) m here)
    (record { seat = stub 7 0 1 Stopped (Ended Starved) 0; at = refl; covers = (omega arith, omega arith); end = λ o is. (cc) })
each-owned (suc zero) m here = subst (Stands ends 7 (begun 7 1 1 ∷ stub 7 0 1 Stopped (Ended Starved) 0 ∷ []) 1) (some-injective (mark 0 Missing) m here)
    (record { seat = begun 7 1 1; at = refl; covers = (omega arith, omega arith); end = λ o is. absurd (cc) })
each-owned (suc (suc i)) m here = absurd (some-ne-none m (sym here))

pub reached-half : Reached ends 7 (1 ∷ []) (some (Ended Starved) ∷ some Empty ∷ some (Parent 7) ∷ []) (begun 7 1 1 ∷ stub 7 0 1 Stopped (Ended Starved) 0 ∷ [])
reached-half = running (mark 1 (Here Starved) ∷ mark 0 Missing ∷ []) (begun 7 1 1 ∷ stub 7 0 1 Stopped (Ended Starved) 0 ∷ []) (record { some_missing = omega arith; each = each-fits; owned = each-owned })

-- the parent cannot be gone while a child is still to come
pub reached-early : (words : List ℕ) (homes : List (Option (Slot ℕ))) → Reached ends 7 words homes (at Over ∷ at Waiting ∷ []) → ⊥
reached-early words homes reached = true≢false (sym ((one_last ends 7 words homes (at Over ∷ at Waiting ∷ []) reached).behind 0 1 (at Over) (at Waiting) refl refl refl))
