use Rattle.std.proofs.Common.{◌∙◌, ◌≤◌, ◌++◌, ap, sym, subst, length, reverse}
use Rattle.merc_graded_tree.specs.Roots.{arms_of, bodies_of}
use Rattle.merc_gen.proofs.Lists.{bodies_all}
use Rattle.merc_gen.proofs.Quieting.{arms_spread}
use Rattle.merc_gen.proofs.quiet.spread_arms.Goals as goal

pub returns : goal.returns
returns c = λ single variable.
    let symbols = c.args.symbols.now in
    let kept = bodies_all symbols c.with_symbols.result (subst (λ l. length c.with_symbols.result ≤ length l) c.as_slice.ensures c.with_symbols.ensures.short) in
    let same = ap bodies_of (c.with_symbols.ensures.same symbols (ap length (sym c.as_slice.ensures))) in
    arms_spread single variable (arms_of symbols c.args.arms) c.args.left.now.items c.push_all.new.left.items
    (c.in_ok-push_all.ensures ∙ ap (λ l. c.args.left.now.items ++ reverse l) (sym kept ∙ same))
