-- Worked examples of reading a whole file: what holds, and what does not.
use Rattle.std.specs.Prelude.{◌≡◌, ◌<◌, ◌*◌, ℕ, [], ◌∷◌, replicate, Some, None, Ok, Err, codes, refl}
use Rattle.std.proofs.Common.{inl, inr, arith}
use Rattle.std.proofs.lemmas.List.{length-replicate}
use Rattle.merc_base.specs.Outside.{Files}
use Rattle.merc_transfer.specs.Loading.{file_limit, IsTooLong, Loads}
use Rattle.merc_transfer.specs.declared.loading.LoadFault.TheVariants.{TooLong, Unread, NoMemory}

-- two files of one name, of which the first counts
abbrev files : Files
files = (codes "p.m", codes "p.") ∷ (codes "p.m", codes "q.") ∷ []

pub file_limit-example : file_limit ≡ 1024 * 1024
unfolding file_limit
file_limit-example = refl

pub IsTooLong-example : (n : ℕ) → file_limit < n → IsTooLong (Some (replicate n 10))
IsTooLong-example n long = rw length-replicate long

-- a file of as many bytes as the limit
pub IsTooLong-counterexample : (n : ℕ) → n ≡ file_limit → IsTooLong (Some (replicate n 10)) → ⊥
IsTooLong-counterexample n same long = let short : file_limit < n = rw length-replicate at long in omega arith

pub IsTooLong-absent : IsTooLong None → ⊥
IsTooLong-absent long = long

pub Loads-example : Loads (Some files) (codes "p.m") 3 3 (Ok (codes "p."))
unfolding file_limit
Loads-example = (refl, omega arith, refl)

-- the text is a part of the file's alone
pub Loads-cut_short : Loads (Some files) (codes "p.m") 3 3 (Ok (codes "p")) → ⊥
Loads-cut_short loads = cc

-- a read failed
pub Loads-count : Loads (Some files) (codes "p.m") 3 4 (Ok (codes "p.")) → ⊥
Loads-count loads = cc

pub Loads-too_long : (n : ℕ) → file_limit < n → Loads (Some ((codes "p.m", replicate n 10) ∷ files)) (codes "p.m") 3 3 (Err TooLong)
Loads-too_long n long = (refl, IsTooLong-example n long)

pub Loads-not_too_long : Loads (Some files) (codes "p.m") 3 3 (Err TooLong) → ⊥
unfolding file_limit
Loads-not_too_long loads = omega (arith, loads.1)

-- no file of that name
pub Loads-absent : Loads (Some files) (codes "q.m") 3 3 (Err Unread)
Loads-absent = inr (refl, refl)

pub Loads-read_failed : Loads (Some files) (codes "p.m") 3 4 (Err Unread)
Loads-read_failed = inl (omega arith)

-- the file is there, and no read failed
pub Loads-not_unread : Loads (Some files) (codes "p.m") 3 3 (Err Unread) → ⊥
Loads-not_unread (inl failed) = omega arith
Loads-not_unread (inr absent) = cc

-- where the files are not told, an absent one counts as a read that failed
pub Loads-untold : Loads None (codes "q.m") 3 4 (Err Unread)
Loads-untold = omega arith

pub Loads-untold_not : Loads None (codes "q.m") 3 3 (Err Unread) → ⊥
Loads-untold_not failed = omega arith

pub Loads-no_memory : Loads (Some files) (codes "p.m") 3 3 (Err NoMemory)
Loads-no_memory = refl

pub Loads-no_memory_not : Loads (Some files) (codes "p.m") 3 4 (Err NoMemory) → ⊥
Loads-no_memory_not loads = cc
