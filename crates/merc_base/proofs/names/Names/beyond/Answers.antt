use Rattle.std.proofs.Common.{length, ap, arith}
use Rattle.std.proofs.lemmas.List.{length-append}
use Rattle.merc_base.specs.Names.{fixed_names}
use Rattle.merc_base.proofs.NameLaws.{length-fixed_names}
use Rattle.merc_base.proofs.names.Names.beyond.Goals as goal

pub returns : goal.returns
returns c =
    omega (
      arith,
      c.from.ensures,
      c.len-count.ensures.count,
      length-fixed_names,
      length-append fixed_names c.self.inside.added,
      ap length c.self.view_is,
    )
