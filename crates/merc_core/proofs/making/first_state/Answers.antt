use Rattle.std.proofs.Common.{arith}
use Rattle.merc_core.specs.Stepping.{parts_of}
use Rattle.merc_core.proofs.Starts.{first-shown}
use Rattle.merc_core.proofs.making.first_state.Goals as goal

pub make_joins-requires : goal.make_joins-requires
make_joins-requires c = omega (arith, c.count_forks.ensures.few, c.requires.small)

pub returns : goal.returns
returns c = λ root whole.
    first-shown root c.args.items.now c.args.workers
    (parts_of (record {
      alloc = c.args.alloc;
      workers = c.in_ok-make_workers.field-0;
      cells = c.in_ok-open_cells.field-0;
      joins = c.in_ok-make_joins.field-0;
      spare = c.in_ok-take_spare.field-0;
    }))
    whole c.in_ok-make_workers.ensures c.in_ok-open_cells.ensures c.in_ok-make_joins.ensures.alone c.requires.some c.requires.small
    (omega (arith, c.in_ok-make_joins.ensures.room, c.count_forks.ensures.made)) c.in_ok-take_spare.ensures.branches c.in_ok-take_spare.ensures.outcomes c.in_ok-take_spare.ensures.rights c.in_ok-take_spare.ensures.few
