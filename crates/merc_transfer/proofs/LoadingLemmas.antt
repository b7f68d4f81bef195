-- What has been read of a file begins it.
use Rattle.std.proofs.Common.{◌≡◌, ◌<◌, ◌≤◌, ◌∙◌, ap, sym, refl, subst, ◌++◌, List, [], ◌∷◌, ℕ, length, take, drop, arith, length-append, append_assoc}
use Rattle.std.specs.Prelude.{Option, Some, None, IfSome}
use Rattle.std.proofs.Math.Seq.{drop-append_seam}
use Rattle.std.proofs.lemmas.List.{take-append-drop, append-nil}
use Rattle.merc_base.specs.Outside.{Files, file_named, FetchesFrom}
use Rattle.merc_base.specs.declared.outside.Fetched.TheVariants.{Got, End}
use Rattle.merc_transfer.specs.Loading.{IsTooLong, file_limit}

-- a text begins the file; of a file that is not there only the empty text has been read
abbrev pub BeginsFile : List ℕ → Option (List ℕ) → Type 0
BeginsFile text None = text ≡ []
BeginsFile text (Some file) = (rest : List ℕ) × (text ++ rest ≡ file)

empty_begins : (file : Option (List ℕ)) → BeginsFile [] file
empty_begins None = refl
empty_begins (Some file) = (file, refl)

pub begins-init : (told : Option Files) (name text : List ℕ) → text ≡ [] → IfSome told (λ files. BeginsFile text (file_named name files))
begins-init None name text e = tt
begins-init (Some files) name text e = rw e (empty_begins (file_named name files))

begins_more :
    (file : Option (List ℕ)) (text piece : List ℕ) (at n : ℕ)
    → at ≡ length text → BeginsFile text file → FetchesFrom file at (Got n) piece → BeginsFile (text ++ piece) file
begins_more None text piece at n e begins fetched = absurd fetched
begins_more (Some file) text piece at n e begins fetched =
    let left : drop at file ≡ begins.0 = rw (e, ← begins.1) (drop-append_seam text begins.0) in
    let front : piece ≡ take n begins.0 = fetched.1 ∙ ap (λ bytes. take n bytes) left in (
      drop n begins.0,
      ap (λ bytes. (text ++ bytes) ++ drop n begins.0) front ∙ append_assoc text (take n begins.0) (drop n begins.0)
          ∙ ap (λ bytes. text ++ bytes) (take-append-drop n begins.0) ∙ begins.1,
    )

pub begins-preserved :
    (told now : Option Files) (name text piece more : List ℕ) (at n : ℕ)
    → now ≡ told → at ≡ length text → more ≡ text ++ piece
    → IfSome told (λ files. BeginsFile text (file_named name files))
    → IfSome now (λ files. FetchesFrom (file_named name files) at (Got n) piece)
    → IfSome told (λ files. BeginsFile more (file_named name files))
begins-preserved None now name text piece more at n same e grown begins fetched = tt
begins-preserved (Some files) now name text piece more at n same e grown begins fetched =
    let content = subst (λ told'. IfSome told' (λ fs. FetchesFrom (file_named name fs) at (Got n) piece)) same fetched in
    rw grown (begins_more (file_named name files) text piece at n e begins content)

nothing_left : (text rest : List ℕ) → length (text ++ rest) ≤ length text → rest ≡ []
nothing_left text [] short = refl
nothing_left text (byte ∷ rest) short = absurd (omega (arith, length-append text (byte ∷ rest)))

whole_file :
    (file : Option (List ℕ)) (text piece : List ℕ) (at : ℕ)
    → at ≡ length text → BeginsFile text file → FetchesFrom file at End piece → file ≡ Some text
whole_file None text piece at e begins fetched = absurd fetched
whole_file (Some file) text piece at e begins fetched =
    let short : length (text ++ begins.0) ≤ length text = rw begins.1 (rw e at fetched) in
    let empty = nothing_left text begins.0 short in
    let all : file ≡ text = sym begins.1 ∙ ap (λ bytes. text ++ bytes) empty ∙ append-nil text in
    ap (λ bytes. Some bytes) all

pub load-whole :
    (told now : Option Files) (name text piece : List ℕ) (at : ℕ)
    → now ≡ told → at ≡ length text
    → IfSome told (λ files. BeginsFile text (file_named name files))
    → IfSome now (λ files. FetchesFrom (file_named name files) at End piece)
    → IfSome told (λ files. file_named name files ≡ Some text)
load-whole None now name text piece at same e begins fetched = tt
load-whole (Some files) now name text piece at same e begins fetched =
    let content = subst (λ told'. IfSome told' (λ fs. FetchesFrom (file_named name fs) at End piece)) same fetched in
    whole_file (file_named name files) text piece at e begins content

too_long : (file : Option (List ℕ)) (text : List ℕ) → file_limit < length text → BeginsFile text file → IsTooLong file
too_long None text long begins = absurd (omega (arith, ap length begins))
too_long (Some file) text long begins = omega (arith, long, ap length begins.1, length-append text begins.0)

pub load-too_long :
    (told : Option Files) (name text : List ℕ)
    → file_limit < length text → IfSome told (λ files. BeginsFile text (file_named name files))
    → IfSome told (λ files. IsTooLong (file_named name files))
load-too_long None name text long begins = tt
load-too_long (Some files) name text long begins = too_long (file_named name files) text long begins
