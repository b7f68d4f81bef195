use Rattle.std.proofs.Common.{sym, ◌∙◌, arith, length-drop}
use Rattle.merc_tokens.proofs.QuotedSteps.{quoted-doubled, quoted-escape, quoted-plain}
use Rattle.merc_tokens.proofs.quoting.push_quoted.Goals as goal

pub loop-rest-preserved-then-byte-quote : goal.loop-rest-preserved-then-byte-quote
loop-rest-preserved-then-byte-quote c =
    let step = quoted-doubled c.args.quote c.loop-rest.past c.loop-rest.content c.loop-rest.rest.now (omega arith) (omega arith) (omega arith) in
    rw (c.in_ok-push-in-len2-up.ensures.ok, c.behind-rest.ensures)
    record { same = sym step ∙ c.loop-rest.invariant.same; count = omega (arith, length-drop 2 c.loop-rest.rest.now) }

pub loop-rest-preserved-then-byte-eq92 : goal.loop-rest-preserved-then-byte-eq92
loop-rest-preserved-then-byte-eq92 c =
    let step = quoted-escape c.args.quote c.loop-rest.past c.loop-rest.content c.loop-rest.rest.now (omega arith) (omega arith) (omega arith) (sym c.is_escape.ensures ∙ c.if-not-is_escape.false) in
    rw (c.in_ok-push-in-len2-up-2.ensures.ok, c.behind-rest-then-byte-eq92.ensures, c.escaped.ensures)
    record { same = sym step ∙ c.loop-rest.invariant.same; count = omega (arith, length-drop 2 c.loop-rest.rest.now) }

pub loop-rest-preserved : goal.loop-rest-preserved
loop-rest-preserved c =
    let step = quoted-plain c.args.quote c.loop-rest.past c.loop-rest.content c.loop-rest.rest.now (omega arith) (omega arith) (omega arith) (omega arith) in
    rw (c.in_ok-push-in-len2-up-3.ensures.ok, c.behind-rest-else-byte-eq10.ensures)
    record { same = sym step ∙ c.loop-rest.invariant.same; count = omega (arith, length-drop 1 c.loop-rest.rest.now) }
