use Rattle.merc_scopes.specs.Scopes.{occurrence}
use Rattle.merc_scopes.proofs.PlaceLaws.{listed_more}
use Rattle.merc_scopes.proofs.listing.Listing.add.Goals as goal

pub returns-in_ok-push-clause-step : goal.returns-in_ok-push-clause-step
returns-in_ok-push-clause-step c = λ name.
    listed_more name c.args.self.now.list.items c.push.new.self.items (occurrence c.args.name c.args.at) _ _ c.in_ok-push.ensures.items (c.requires name) (c.in_ok-add.ensures.places name)
