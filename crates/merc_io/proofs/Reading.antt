-- A piece of a file in memory, as it goes through the buffer.
use Rattle.std.proofs.Common.{◌≡◌, ℕ, ◌+◌, ◌-◌, ◌<◌, ◌≤◌, List, length, take, drop, min, Some, arith, length-take, length-drop, ap, ◌∙◌, refl}
use Rattle.std.proofs.lemmas.List.{take_rest, take_all}
use Rattle.merc_base.specs.Outside.{Files, file_named, piece_limit, AnswersFetch}
use Rattle.merc_base.specs.declared.outside.Fetched.TheVariants.{Got}

pub piece_limit_is : piece_limit ≡ 65536
unfolding piece_limit
piece_limit_is = refl

-- the first bytes of what is left of a file
record IsFront (file : List ℕ) (at n : ℕ) (bytes : List ℕ) : Type 0 where
  some : 1 ≤ n
  bound : n ≤ 65536
  within : at + n ≤ length file
  long : length bytes ≡ n
  same : bytes ≡ take n (drop at file)

front : (limit most at count n : ℕ) (file rest bytes : List ℕ) → limit ≡ 65536 → 1 ≤ most → most ≤ 65536
    → at < length file → rest ≡ drop at file → count ≡ min (length rest) most
    → n ≡ min limit (length (take count rest)) → bytes ≡ take limit (take count rest) → IsFront file at n bytes
front limit most at count n file rest bytes limit_is some bound within rest_is count_is n_is bytes_is =
    let left : length rest ≡ length file - at = ap length rest_is ∙ length-drop at file in
    let long : length (take count rest) ≡ count = omega (arith, length-take count rest) in
    let same_n : n ≡ count = omega arith in
    let whole : bytes ≡ take count rest = bytes_is ∙ take_all limit (take count rest) (omega arith) in
    record {
      some = omega arith;
      bound = omega arith;
      within = omega arith;
      long = ap length whole ∙ (omega arith);
      same = whole ∙ cc;
    }

-- a piece that was put in the buffer is a right answer
pub piece_answers : (limit most at count n : ℕ) (files : Files) (name file bytes : List ℕ) → file_named name files ≡ Some file
    → limit ≡ 65536 → 1 ≤ most → most ≤ 65536 → at < length file
    → count ≡ min (length (take (length file - at) (drop at file))) most
    → n ≡ min limit (length (take count (take (length file - at) (drop at file))))
    → bytes ≡ take limit (take count (take (length file - at) (drop at file)))
    → (faults : ℕ) → AnswersFetch (Some files) name at faults faults (Got n) bytes
piece_answers limit most at count n files name file bytes found limit_is some bound within count_is n_is bytes_is faults =
    let rest = take (length file - at) (drop at file) in
    let f = front limit most at count n file rest bytes limit_is some bound within (take_rest file at) count_is n_is bytes_is in
    record {
      piece = (f.some, f.bound, f.long);
      content = rw found (f.within, f.same);
      count = refl;
    }
