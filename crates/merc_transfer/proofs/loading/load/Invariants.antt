-- What was read so far begins the file, and no read has failed.
use Rattle.std.proofs.Common.{◌≡◌, ◌-◌, length, IfSome}
use Rattle.merc_base.specs.Outside.{file_named}
use Rattle.merc_transfer.proofs.LoadingLemmas.{BeginsFile}
use Rattle.merc_transfer.proofs.loading.load.Given as goal

abbrev pub invariant-loop-shelf : goal.invariant-loop-shelf
invariant-loop-shelf g l = record {
  count : g.S.Shelf.read_faults l.shelf ≡ g.S.Shelf.read_faults l.fn.shelf;
  same : g.S.Shelf.files l.shelf ≡ g.S.Shelf.files l.fn.shelf;
  begins : IfSome (g.S.Shelf.files l.fn.shelf) (λ files. BeginsFile l.text (file_named l.name files));
}

abbrev pub decreases-loop-shelf : goal.decreases-loop-shelf
decreases-loop-shelf g l = 1048577 - length l.text
