use Rattle.std.proofs.Common.{◌≡◌, ◌+◌, ◌++◌, reverse, ap, ◌∙◌, arith}
use Rattle.merc_tree.specs.Term.{terms_of}
use Rattle.merc_goals.specs.Written.{parts, parts_of}
use Rattle.merc_goals.specs.Numbers.{numbered_from}
use Rattle.merc_scopes.proofs.Walks.{parts-arguments, parts_of-push, push_step}
use Rattle.merc_scopes.proofs.occurring.push_arguments.Goals as goal

pub loop-last-init : goal.loop-last-init
loop-last-init c = record {
  number =
      let all : parts_of (terms_of c.arguments-rest.result) ≡ parts_of (terms_of _) = ap (λ l. parts_of (terms_of l)) c.arguments-rest.ensures in
      omega (arith, c.number_behind-past.ensures.number, parts-arguments c.args.term.now, all);
  limit = omega (arith, c.number_behind-past.ensures.number, c.requires);
  pushed = ap (λ l. c.args.stack.now.items ++ reverse (numbered_from (c.args.at + 2) l)) c.arguments-rest.ensures;
}

pub number_before-past-requires : goal.number_before-past-requires
number_before-past-requires c =
    let all : parts_of (terms_of c.loop-last.rest) ≡ parts_of (terms_of c.take_last.new.self) + parts c.in-Some.last = ap (λ l. parts_of (terms_of l)) c.in-Some.ensures ∙ parts_of-push _ _ in
    omega (arith, all, c.loop-last.invariant.number)

pub invariant_of-push : goal.invariant_of-push
invariant_of-push c =
    let all : parts_of (terms_of c.loop-last.rest) ≡ parts_of (terms_of c.take_last.new.self) + parts c.in-Some.last = ap (λ l. parts_of (terms_of l)) c.in-Some.ensures ∙ parts_of-push _ _ in
    omega (arith, all, c.loop-last.invariant.number, c.loop-last.invariant.limit, c.number_before-past.ensures)

pub loop-last-preserved : goal.loop-last-preserved
loop-last-preserved c =
    let all : parts_of (terms_of c.loop-last.rest) ≡ parts_of (terms_of c.take_last.new.self) + parts c.in-Some.last = ap (λ l. parts_of (terms_of l)) c.in-Some.ensures ∙ parts_of-push _ _ in
    let number : c.number_before-past.result ≡ c.args.at + 2 + parts_of (terms_of c.take_last.new.self) = omega (arith, all, c.loop-last.invariant.number, c.number_before-past.ensures) in
    record {
      number = number;
      limit = omega (arith, number, all, c.loop-last.invariant.number, c.loop-last.invariant.limit);
      pushed = push_step (c.args.at + 2) c.number_before-past.result _ _ c.in-Some.last _ _ _ c.in-Some.ensures number c.in_ok-push.ensures.items c.loop-last.invariant.pushed;
    }
