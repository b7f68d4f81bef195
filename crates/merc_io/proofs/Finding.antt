-- A walk through the files of a shelf for the first of a name.
use Rattle.std.proofs.Common.{◌≡◌, ℕ, ◌+◌, ◌<◌, true, false, List, length, drop, get_or, Some, refl}
use Rattle.std.specs.Str.{bytes_eq}
use Rattle.std.proofs.lemmas.List.{drop_more}
use Rattle.merc_base.specs.Outside.{Files, file_named}

-- a file of that name at place i is the first from there on
pub file_named_here : (name : List ℕ) (files : Files) (i : ℕ) (file : List ℕ × List ℕ) → i < length files
    → file ≡ get_or files i file → bytes_eq name file.0 ≡ true → file_named name (drop i files) ≡ Some file.1
file_named_here name files i file below here same = rw (drop_more files i file below, ← here, same) refl

-- a file of another name at place i is passed
pub file_named_behind : (name : List ℕ) (files : Files) (i : ℕ) (file : List ℕ × List ℕ) → i < length files
    → file ≡ get_or files i file → bytes_eq name file.0 ≡ false → file_named name (drop (i + 1) files) ≡ file_named name (drop i files)
file_named_behind name files i file below here other = rw (drop_more files i file below, ← here, other) refl
