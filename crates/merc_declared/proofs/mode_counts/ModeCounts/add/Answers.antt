use Rattle.std.proofs.Common.{◌≡◌, ◌+◌, ◌||◌, ℕ, Bool, ap, ◌∙◌}
use Rattle.merc_declared.specs.declared.mode_counts.ModeCount.{ModeCount}
use Rattle.merc_declared.specs.ModeCounts.{with_mode}
use Rattle.merc_declared.proofs.ModeLaws.{counted-insert}
use Rattle.merc_declared.proofs.mode_counts.ModeCounts.add.Goals as goal
use Rattle.merc_declared.proofs.mode_counts.ModeCounts.add.Goals.{then-before, else-before}

pub returns-in_ok-insert : goal.returns-in_ok-insert
returns-in_ok-insert c = λ found.
    let lacks : c.if-before.insert ≡ (c.at-before.result.lacks_category || c.args.lacks_category) = elim c.if-before.branch [
      | then-before w ↦ rw w.if-before.true (w.insert-is ∙ w.if-before.true)
      | else-before w ↦ rw w.if-before.false w.insert-is
    ] in
    let counted : ℕ → Bool → ModeCount = λ n lacking. record { count = n; lacks_category = lacking } in
    let modes : counted (c.at-before.result.count + 1) c.if-before.insert ≡ with_mode c.at-before.result c.args.lacks_category = ap (λ (lacking : Bool). counted (c.at-before.result.count + 1) lacking) lacks in
    rw c.in-Some.is (counted-insert c.args.self.now (record { by_key = c.insert.new.self }) c.in-Some.key (counted (c.at-before.result.count + 1) c.if-before.insert) c.args.lacks_category found c.in_ok-insert.ensures.updates.0
    (modes ∙ ap (λ (before : ModeCount). with_mode before c.args.lacks_category) c.at-before.ensures))
