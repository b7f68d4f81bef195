-- What reading a whole file answers.
use Rattle.std.specs.Prelude.{◌≡◌, ℕ, ◌<◌, ◌≤◌, ◌⊎◌, List, length, Option, Some, None, Result, Ok, Err, IfSome}
use Rattle.merc_base.specs.Outside.{Files, file_named}
use Rattle.merc_transfer.specs.declared.loading.LoadFault.{LoadFault}
use Rattle.merc_transfer.specs.declared.loading.LoadFault.TheVariants.{TooLong, Unread, NoMemory}

-- the most bytes that a file may have
unfoldable pub file_limit : ℕ
file_limit = 1048576

-- a file that is there and has more bytes than the limit
abbrev pub IsTooLong : Option (List ℕ) → Type 0
IsTooLong None = ⊥
IsTooLong (Some file) = file_limit < length file

-- The text is the whole file's, within the limit; or the file is too long; or it could not be read, because a
-- read failed or the shelf has no such file.
abbrev pub Loads : Option Files → List ℕ → ℕ → ℕ → Result (List ℕ) LoadFault → Type 0
Loads told name before now (Ok text) = (now ≡ before) × (length text ≤ file_limit) × IfSome told (λ files. file_named name files ≡ Some text)
Loads told name before now (Err TooLong) = (now ≡ before) × IfSome told (λ files. IsTooLong (file_named name files))
Loads None name before now (Err Unread) = before < now
Loads (Some files) name before now (Err Unread) = (before < now) ⊎ ((now ≡ before) × (file_named name files ≡ None))
Loads told name before now (Err NoMemory) = now ≡ before
