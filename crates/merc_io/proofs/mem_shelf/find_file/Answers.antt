use Rattle.std.proofs.Common.{◌≡◌, true, false}
use Rattle.std.specs.Str.{bytes_eq}
use Rattle.merc_io.proofs.Finding.{file_named_here, file_named_behind}
use Rattle.merc_io.proofs.mem_shelf.find_file.Goals as goal

pub returns-then-eq : goal.returns-then-eq
returns-then-eq c =
    let file = c.loop-file_name-item.result in
    let same : bytes_eq c.args.name.now file.0 ≡ true = cc in
    cc (file_named_here c.args.name.now c.args.files.now c.loop-file_name.file_name-index file
    c.loop-file_name-test.true c.loop-file_name-item.is same)

pub loop-file_name-preserved : goal.loop-file_name-preserved
loop-file_name-preserved c =
    let file = c.loop-file_name-item.result in
    let other : bytes_eq c.args.name.now file.0 ≡ false = cc in
    cc (file_named_behind c.args.name.now c.args.files.now c.loop-file_name.file_name-index file
    c.loop-file_name-test.true c.loop-file_name-item.is other)
