use Rattle.std.proofs.Common.{ℕ, List, ◌++◌, length, sym, ◌∙◌, arith, length-drop, ap, append_assoc}
use Rattle.std.proofs.lemmas.List.{drop_all}
use Rattle.merc_tokens.proofs.ReadsTo.{reads-none, reads-gap, reads-token}
use Rattle.merc_tokens.proofs.ReadingEnds.{reads-fault, reads-all}
use Rattle.merc_tokens.proofs.reading.push_all.Goals as goal
use Rattle.merc_tokens.proofs.reading.push_all.Goals.{in-Gap, in-Token+in_ok-push_token-in-Token}

pub loop-at-init : goal.loop-at-init
loop-at-init c = reads-none c.args.text.now c.args.names.now _ c.requires.tokens

pub loop-at-preserved : goal.loop-at-preserved
loop-at-preserved c =
    let at = c.loop-at.at in
    let left = length-drop at c.args.text.now in
    let behind = ap length c.behind-rest.ensures in
    let counted = rw c.behind-rest.ensures at c.line_ends_in-line.ensures.value in
    elim c.match-branch-2.branch [
      | in-Gap w ↦
          let piece = rw c.behind-rest.ensures at (sym c.in_ok-rule.ensures.value ∙ w.in-Gap.is) in
          let fits = rw w.in-Gap.is at c.in_ok-rule.ensures.fits in
          rw (w.names-is, w.tokens-is, w.after_name-is, w.len-is)
          (reads-gap c.args.text.now c.args.names.now c.loop-at.names c.loop-at.tokens at c.loop-at.line w.in-Gap.len c.line_ends_in-line.result c.loop-at.after_name c.loop-at.invariant
          (omega (arith, fits.1)) (rw w.len-is at counted) (omega (arith, c.line_ends_in-line.ensures.bound)) piece)
      | in-Token+in_ok-push_token-in-Token w ↦
          let piece = rw c.behind-rest.ensures at (sym c.in_ok-rule.ensures.value ∙ w.in-Token.is) in
          let fits = rw w.in-Token.is at c.in_ok-rule.ensures.fits in
          let pushed = w.in_ok-push_token-in-Token.ensures.token in
          let grows = w.push_token.ensures.grows in
          rw (w.names-is, w.tokens-is, w.after_name-is, w.len-is, w.is_name-after_name.ensures)
          (reads-token c.args.text.now c.args.names.now c.loop-at.names c.loop-at.tokens at c.loop-at.line w.in-Token.len c.line_ends_in-line.result c.loop-at.after_name c.loop-at.invariant
          (omega (arith, fits.1)) (rw w.len-is at counted) (omega (arith, c.line_ends_in-line.ensures.bound))
          w.in-Token.spelling w.push_token.new.names grows.0 pushed.0 w.push_token.new.tokens piece grows.1 w.in_ok-push_token-in-Token.ensures.added pushed.1 pushed.2)
    ]

pub returns-in-Fault-clause-reading : goal.returns-in-Fault-clause-reading
returns-in-Fault-clause-reading c =
    let piece = rw c.behind-rest.ensures at (sym c.in_ok-rule.ensures.value ∙ c.in-Fault.is) in
    reads-fault c.args.text.now c.loop-at.invariant.spelled c.loop-at.at c.loop-at.line c.loop-at.after_name c.in-Fault.rule c.in-Fault.detail c.loop-at.invariant.so_far c.loop-at-test.true piece c.loop-at.invariant.on_line

pub returns-clause-reading : goal.returns-clause-reading
returns-clause-reading c =
    reads-all c.args.text.now c.args.names.now c.loop-at.names c.loop-at.tokens c.loop-at.invariant.spelled c.loop-at.at c.loop-at.after_name c.loop-at.invariant.so_far c.loop-at.invariant.texts c.loop-at.invariant.table
    (drop_all c.loop-at.at c.args.text.now (omega arith))

pub returns-in_err-rule-clause-grows : goal.returns-in_err-rule-clause-grows
returns-in_err-rule-clause-grows c = (c.loop-at.invariant.more, c.loop-at.invariant.grown)

pub returns-in-Fault-clause-grows : goal.returns-in-Fault-clause-grows
returns-in-Fault-clause-grows c = (c.loop-at.invariant.more, c.loop-at.invariant.grown)

pub returns-in_err-push_token-in-Token-clause-grows : goal.returns-in_err-push_token-in-Token-clause-grows
returns-in_err-push_token-in-Token-clause-grows c =
    let reads = c.loop-at.invariant in
    let grows = c.push_token.ensures.grows in
    (reads.more ++ grows.0, grows.1 ∙ ap (λ (all : List (List ℕ)). all ++ grows.0) reads.grown ∙ append_assoc c.args.names.now reads.more grows.0)

pub returns-clause-grows : goal.returns-clause-grows
returns-clause-grows c = (c.loop-at.invariant.more, c.loop-at.invariant.grown)
