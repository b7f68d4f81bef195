-- One seat of a join is the last.
use Rattle.std.proofs.Common.{◌≡◌, ◌≢◌, ⊎_elim, ℕ, true, false, List, [], ◌∷◌, refl, sym, ap, ◌∙◌, subst, arith, true≢false}
use mathlib.Core.Option.{Option, some, some-injective}
use lib.ListN.{get_elem?}
use Rattle.merc_script.specs.declared.outcome.Outcome.{Outcome}
use Rattle.merc_join.specs.declared.stub.Slot.{Slot}
use Rattle.merc_join.specs.declared.stub.Slot.TheVariants.{Empty}
use Rattle.merc_join.specs.declared.stub.Stage.{Stage}
use Rattle.merc_join.specs.declared.stub.Stage.TheVariants.{Bringing, Stopped, Last, Over}
use Rattle.merc_join.specs.declared.stub.Stub.{Stub}
use Rattle.merc_join.specs.Join.{Progress, Mark, due, Agree, waiting, holding, stopped, has_stopped, is_last, stub, first_stub, Covers, Running, Own, Ending, Reached, making, bringing, running, ending, over, OneIsLast}
use Rattle.merc_join.proofs.Lists.{only, some_term}

has_outcome : (s : Stage) (p : Progress) → Agree s p → (is_last s ≡ false) × (has_stopped s ≡ true → due p ≡ 0)
has_outcome _ _ waiting = (refl, λ done. absurd (true≢false (sym done)))
has_outcome _ _ holding = (refl, λ done. absurd (true≢false (sym done)))
has_outcome _ _ (stopped o) = (refl, λ done. refl)

module _ {P : Type 0} where
  alone : (v : Stub P) → has_stopped v.stage ≡ false → is_last v.stage ≡ false → OneIsLast (v ∷ [])
  alone v going not_last = record {
    once = λ j k u w at at' is is'. (only v u j at).0 ∙ sym (only v w k at').0;
    behind = λ j k u w at at' is. absurd (true≢false (sym is ∙ (ap (λ (x : Stub P). is_last x.stage) (sym (only v u j at).1) ∙ not_last)));
    surely = λ all. absurd (true≢false (sym (all 0 v refl) ∙ going));
  }

module _ {P : Type 0} (ends : P → ℕ → Outcome → Type 0) (parent : P) where
  in_running : (marks : List Mark) (views : List (Stub P)) → Running ends parent marks views → OneIsLast views
  in_running marks views run =
      let none_last : (j : ℕ) (v : Stub P) → get_elem? views j ≡ some v → is_last v.stage ≡ true → ⊥ = λ j v at is.
      let fits = run.each j v at in let covers : Covers v v.child = (omega arith, omega (arith, fits.some_child)) in let found = fits.marked v.child covers in
      true≢false (sym is ∙ (has_outcome v.stage found.0.progress found.3).0) in record {
        once = λ j k v w at at' is is'. absurd (none_last j v at is);
        behind = λ j k v w at at' is. absurd (none_last j v at is);
        surely = λ all.
            let left = some_term (λ (m : Mark). due m.progress) marks run.some_missing in
            let owner = run.owned left.0 left.1 left.2 in
            let found = (run.each left.1.seat owner.seat owner.at).marked left.0 owner.covers in
            let same : found.0 ≡ left.1 = some-injective found.0 left.1 (sym found.1 ∙ left.2) in
            let agree : Agree owner.seat.stage left.1.progress = subst (λ (m : Mark). Agree owner.seat.stage m.progress) same found.3 in
            absurd (let none_due = (has_outcome owner.seat.stage left.1.progress agree).1 (all left.1.seat owner.seat owner.at) in omega (arith, left.3));
      }

  in_ending : (outcomes : List Outcome) (last taken : ℕ) (stage : Stage) (views : List (Stub P)) → is_last stage ≡ true → has_stopped stage ≡ true → Ending ends parent outcomes last stage taken views → OneIsLast views
  in_ending outcomes last taken stage views is_it has_it end =
      let first : (j : ℕ) (v : Stub P) → get_elem? views j ≡ some v → is_last v.stage ≡ true → j ≡ last = λ j v at is.
      ⊎_elim (λ (t : (j ≡ last) × (v.stage ≡ stage) × (v.taken ≡ taken) × Own outcomes v). t.0) (λ (t : (j ≢ last) × (v.stage ≡ Stopped)). absurd (true≢false (sym is ∙ ap is_last t.1))) (end.each j v at).1 in record {
        once = λ j k v w at at' is is'. first j v at is ∙ sym (first k w at' is');
        behind = λ j k v w at at' is. ⊎_elim (λ (t : (k ≡ last) × (w.stage ≡ stage) × (w.taken ≡ taken) × Own outcomes w). ap has_stopped t.1 ∙ has_it) (λ (t : (k ≢ last) × (w.stage ≡ Stopped)). ap has_stopped t.1) (end.each k w at').1;
        surely = λ all. (
          last,
          end.there.0,
          end.there.1,
          ⊎_elim (λ (t : (last ≡ last) × (end.there.0.stage ≡ stage) × (end.there.0.taken ≡ taken) × Own outcomes end.there.0). ap is_last t.1 ∙ is_it) (λ (t : (last ≢ last) × (end.there.0.stage ≡ Stopped)). absurd (t.0 refl)) (end.each last end.there.0 end.there.1).1,
        );
      }

  pub one_last : (words : List ℕ) (homes : List (Option (Slot P))) (views : List (Stub P)) → Reached ends parent words homes views → OneIsLast views
  one_last _ _ _ (making n some_child) = alone (first_stub parent n) refl refl
  one_last _ _ _ (bringing n some_child) = alone (stub parent 0 n Bringing Empty 0) refl refl
  one_last _ _ _ (running marks views run) = in_running marks views run
  one_last _ _ _ (ending outcomes last taken views end) = in_ending outcomes last taken Last views refl refl end
  one_last _ _ _ (over outcomes last taken views end) = in_ending outcomes last taken Over views refl refl end
