use Rattle.std.proofs.Common.{◌≡◌, refl, ap, ◌∙◌, subst, sym}
use Rattle.merc_board.specs.Rights.{no_rights}
use Rattle.merc_board.specs.Going.{start}
use Rattle.merc_pool.specs.Carrying.{StandsAt}
use Rattle.merc_pool.specs.Shares.{AreShares}
use Rattle.merc_pool.proofs.Begun.{begins_at, begins_home, begins_tallied}
use Rattle.merc_pool.proofs.session.Session.begin.Goals as goal

pub open-requires-clause-stands : goal.open-requires-clause-stands
open-requires-clause-stands g c =
    let b = c.begun.ensures in
    begins_at g.N.Asked.sites g.N.Asked.root g.N.Asked.run g.M.Engine c.begun.result.progress c.args.machine b.machine b.none.0 b.none.1 c.requires.asks

pub invariant_of-result : goal.invariant_of-result
invariant_of-result g c =
    let b = c.begun.ensures in
    let o = c.in_ok-home.ensures in
    let i = c.in_ok-others.ensures in
    let s = c.slot_of.ensures in
    let root = c.in_ok-home.field-0.root in
    let branch = root.value in
    let stands = begins_at g.N.Asked.sites g.N.Asked.root g.N.Asked.run g.M.Engine branch.load.progress c.args.machine (ap (λ l. l.progress.machine) o.load ∙ b.machine)
    (ap (λ l. l.progress.given) o.load ∙ b.none.0) (ap (λ l. l.progress.reported) o.load ∙ b.none.1) c.requires.asks in
    record {
      sites = subst (λ sites. AreShares sites c.in_ok-sites.sites.items) c.requires.plan c.in_ok-sites.ensures;
      others_work = i.work c.open.new.self o.others;
      ready = λ _. (
        begins_home g.M.Engine g.N.Asked g.B.Board c.open.new.self c.slot_of.result c.in_ok-home.field-0.home root s.0 s.1 s.2 o.root o.rights
            (ap (λ l. l.progress.given) o.load ∙ b.none.0) stands,
        i.room,
      );
      tallied = λ _ plain. begins_tallied g.M.Engine g.N.Asked g.B.Board c.slot_of.result root s.2 (ap (λ l. l.ticks) o.load ∙ b.none.2) (ap (λ l. l.progress.reported) o.load ∙ b.none.1) stands;
      last = λ stop is. absurd cc;
    }
