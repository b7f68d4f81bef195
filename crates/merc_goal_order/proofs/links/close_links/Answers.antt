use Rattle.std.proofs.Common.{◌≡◌, ◌∙◌, ◌+◌, ◌-◌, [], ◌∷◌, ◌++◌, take, length, length-append, ap, subst, refl, reverse, arith}
use Rattle.std.proofs.lemmas.List.{reverse-append}
use Rattle.std.proofs.lemmas.Result.{err_from_is_err_and}
use Rattle.merc_order.specs.Bound.{among}
use Rattle.merc_order.specs.Procedures.{modes_of}
use Rattle.merc_goal_order.specs.Linked.{Closing}
use Rattle.merc_goal_order.proofs.Chaining.{close_err, closed_all}
use Rattle.merc_goal_order.proofs.links.close_links.Goals as goal

pub close_link-requires-clause-enough : goal.close_link-requires-clause-enough
close_link-requires-clause-enough c =
    let long : length c.loop-link.links.items ≡ length c.pop.new.self.items + 1 = ap length c.in-Some.ensures.items ∙ length-append c.pop.new.self.items (c.in-Some.link ∷ []) in
    omega (arith, long, c.loop-link.invariant.enough)

pub loop-link-init : goal.loop-link-init
loop-link-init c = record { enough = c.requires.enough; fewer = refl; cleared = c.requires.seen; closing = λ total whole old closing. closing }

pub loop-link-preserved : goal.loop-link-preserved
loop-link-preserved c =
    let long : length c.loop-link.links.items ≡ length c.pop.new.self.items + 1 = ap length c.in-Some.ensures.items ∙ length-append c.pop.new.self.items (c.in-Some.link ∷ []) in
    record {
      enough = omega (arith, long, c.loop-link.invariant.enough, c.in_ok-close_link.ensures.fewer);
      fewer = omega (arith, long, c.loop-link.invariant.fewer, c.in_ok-close_link.ensures.fewer);
      cleared = c.in_ok-close_link.ensures.cleared;
      closing = λ total whole old closing.
          let turned : reverse c.loop-link.links.items ≡ c.in-Some.link ∷ reverse c.pop.new.self.items = ap reverse c.in-Some.ensures.items ∙ reverse-append c.pop.new.self.items (c.in-Some.link ∷ []) in
          let now = subst (λ l. Closing total (modes_of c.args.setting.now.predicates.now) c.args.setting.now.all.now (among c.args.bound.now) whole l old c.loop-link.written) turned
          (c.loop-link.invariant.closing total whole old closing) in
          c.in_ok-close_link.ensures.closes total whole (reverse c.pop.new.self.items) old now;
    }

pub returns-in_err-close_link-clause-closes : goal.returns-in_err-close_link-clause-closes
returns-in_err-close_link-clause-closes c =
    let p = err_from_is_err_and c.from_residual.result c.from_residual.ensures.1 in
    rw (p.1, p.2) (λ total whole old closing.
    let modes = modes_of c.args.setting.now.predicates.now in
    let turned : reverse c.loop-link.links.items ≡ c.in-Some.link ∷ reverse c.pop.new.self.items = ap reverse c.in-Some.ensures.items ∙ reverse-append c.pop.new.self.items (c.in-Some.link ∷ []) in
    let now = subst (λ l. Closing total modes c.args.setting.now.all.now (among c.args.bound.now) whole l old c.loop-link.written) turned (c.loop-link.invariant.closing total whole old closing) in
    close_err total modes c.args.setting.now.all.now (among c.args.bound.now) whole (reverse c.pop.new.self.items) old c.close_link.new.written c.close_link.new.written c.in_err-close_link.field-0.0
    (c.in_err-close_link.ensures.closes total whole (reverse c.pop.new.self.items) old now))

pub returns-clause-closes : goal.returns-clause-closes
returns-clause-closes c = λ total whole old closing.
    let modes = modes_of c.args.setting.now.predicates.now in
    let end : c.pop.new.self.items ≡ [] = c.in_default.ensures.rest ∙ ap (λ n. take (n - 1) c.loop-link.links.items) c.in_default.ensures.cases.0 in
    let none : c.loop-link.links.items ≡ [] = c.in_default.ensures.items ∙ ap (λ l. l ++ []) end in
    let now = subst (λ l. Closing total modes c.args.setting.now.all.now (among c.args.bound.now) whole (reverse l) old c.loop-link.written) none (c.loop-link.invariant.closing total whole old closing) in
    closed_all total modes c.args.setting.now.all.now (among c.args.bound.now) whole old c.loop-link.written now

pub returns-clause-fewer : goal.returns-clause-fewer
returns-clause-fewer c =
    let end : c.pop.new.self.items ≡ [] = c.in_default.ensures.rest ∙ ap (λ n. take (n - 1) c.loop-link.links.items) c.in_default.ensures.cases.0 in
    let none : length c.loop-link.links.items ≡ 0 = ap length (c.in_default.ensures.items ∙ ap (λ l. l ++ []) end) in
    omega (arith, none, c.loop-link.invariant.fewer)
