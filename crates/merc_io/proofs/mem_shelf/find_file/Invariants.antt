-- The first file of the name stands among those that are left.
use Rattle.std.proofs.Common.{◌≡◌, drop}
use Rattle.merc_base.specs.Outside.{file_named}
use Rattle.merc_io.proofs.mem_shelf.find_file.Given as goal

abbrev pub invariant-loop-file_name : goal.invariant-loop-file_name
invariant-loop-file_name l = file_named l.name (drop l.file_name-index l.files) ≡ file_named l.name l.files
