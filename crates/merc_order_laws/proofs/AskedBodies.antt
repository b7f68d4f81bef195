-- A goal that is asked has a body.
use Rattle.std.proofs.Common.{[], refl}
use Rattle.merc_bodies.specs.Bodies.{asked_body}
use Rattle.merc_order_laws.proofs.JoinedTyping.{asked_typed}
use Rattle.merc_order.specs.Procedures.{first_fresh, modes_of}
use Rattle.merc_order.specs.Spelt.{spelt}
use Rattle.merc_order_laws.proofs.Bodies.{query_is_made_from}
use Rattle.merc_order_laws.proofs.TreeTypes.{tree_is_typed, typed_is_sized}
use Rattle.merc_order_laws.specs.Existence.{AskedBodyIsThere}

pub asked_body_is_there : AskedBodyIsThere
asked_body_is_there found answers form ordered fit typing ready =
    let goal = asked_body form in
    let asked = asked_typed found form typing in
    let sized = typed_is_sized found asked.0 [] goal fit asked.1 in
    let tree = spelt (modes_of found.preds) (first_fresh answers goal) ordered in
    let made = query_is_made_from (modes_of found.preds) answers goal tree sized (ordered, ready, refl) in (
      record { types = λ variable. asked.0 (made.0 variable); tree = tree },
      record { tree = (ordered, ready, refl); typed = tree_is_typed found asked.0 [] goal made.0 tree asked.1 made.2 },
    )
