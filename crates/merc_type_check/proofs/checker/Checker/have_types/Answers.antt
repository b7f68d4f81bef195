use Rattle.std.proofs.Common.{◌≡◌, ◌<◌, ◌≤◌, ℕ, List, Some, length, get_or, refl, sym, subst, ◌∙◌, arith}
use Rattle.std.specs.Prelude.{slice_get}
use Rattle.std.proofs.lemmas.Option.{slice_get_read}
use Rattle.merc_tree.specs.Types.{TypeExpr, replaced}
use Rattle.merc_type_check.specs.TypeNumbers.{AreNumbers}
use Rattle.merc_type_check.proofs.Asked.{taken, refused, have_step, have_refused, have_all, have_none}
use Rattle.merc_type_check.proofs.Numbers.{given_declared, numbers_length, type_of_number, type_there}
use Rattle.merc_type_check.proofs.checker.Checker.have_types.Goals as goal

-- each variable has its declared type
declared_at : (table : List TypeExpr) (numbers variables : List ℕ) (types : List TypeExpr) (count i d : ℕ) → AreNumbers table numbers types → count ≡ length types
    → length variables ≡ count → i < length variables → (type : TypeExpr) × ((slice_get types i ≡ Some type) × (slice_get table (get_or numbers i d) ≡ Some type))
declared_at table numbers variables types count i d are count_is same less =
    let e = numbers_length table numbers types are in
    type_of_number table numbers types i d are (omega arith)

pub returns-then-variables-len : goal.returns-then-variables-len
returns-then-variables-len c = λ known. have_none c.args.user known c.args.self.now c.args.variables.now c.args.declared.now (λ same. c.if-variables-len.true (same ∙ sym c.len.ensures))

pub bounds-numbers-index : goal.bounds-numbers-index
bounds-numbers-index c =
    let e = numbers_length c.args.self.now.graph.table c.args.numbers.now c.args.declared.now c.requires.numbers in
    let count : length c.args.variables.now ≡ c.len.result = c.if-variables-len.false in
    let same = c.len.ensures in
    let less : c.loop-index.index < length c.args.variables.now = c.loop-index-test.true in
    omega arith

pub has_type-requires-clause-sound : goal.has_type-requires-clause-sound
has_type-requires-clause-sound c = c.loop-index.invariant.sound

pub has_type-requires-clause-number : goal.has_type-requires-clause-number
has_type-requires-clause-number c =
    let found = declared_at c.args.self.now.graph.table c.args.numbers.now c.args.variables.now c.args.declared.now c.len.result c.loop-index.index c.index-numbers-index.result
    c.requires.numbers c.len.ensures c.if-variables-len.false c.loop-index-test.true in
    let there : slice_get c.args.self.now.graph.table c.index-numbers-index.result ≡ Some found.0 =
    subst (λ (n : ℕ). slice_get c.args.self.now.graph.table n ≡ Some found.0) (sym c.index-numbers-index.is) found.1.1 in
    subst (λ (t : List TypeExpr). c.index-numbers-index.result < length t) (sym c.loop-index.invariant.table)
    (type_there c.args.self.now.graph.table c.index-numbers-index.result found.0 there).0

pub returns-then-not-done : goal.returns-then-not-done
returns-then-not-done c = λ known.
    let found = declared_at c.args.self.now.graph.table c.args.numbers.now c.args.variables.now c.args.declared.now c.len.result c.loop-index.index c.index-numbers-index.result
    c.requires.numbers c.len.ensures c.if-variables-len.false c.loop-index-test.true in
    let there : slice_get c.args.self.now.graph.table c.index-numbers-index.result ≡ Some found.0 =
    subst (λ (n : ℕ). slice_get c.args.self.now.graph.table n ≡ Some found.0) (sym c.index-numbers-index.is) found.1.1 in
    have_refused c.args.user known c.args.self.now c.loop-index.self c.args.variables.now c.args.declared.now c.loop-index.index c.index-variables-index.result found.0
    (slice_get_read c.args.variables.now (length c.args.variables.now) c.loop-index.index c.index-variables-index.result refl c.loop-index-test.true c.index-variables-index.is)
    found.1.0 (c.loop-index.invariant.have known)
    (refused c.in_ok-done.done c.loop-index.self c.has_type.new.self (λ types instance. types c.index-variables-index.result ≡ replaced (instance c.args.user) found.0) c.if-not-done.true
    (given_declared c.args.user c.in_ok-done.done c.loop-index.self c.has_type.new.self c.args.self.now.graph.table c.index-variables-index.result c.index-numbers-index.result found.0
    c.loop-index.invariant.table there c.in_ok-done.ensures))

pub loop-index-preserved : goal.loop-index-preserved
loop-index-preserved c =
    let found = declared_at c.args.self.now.graph.table c.args.numbers.now c.args.variables.now c.args.declared.now c.len.result c.loop-index.index c.index-numbers-index.result
    c.requires.numbers c.len.ensures c.if-variables-len.false c.loop-index-test.true in
    let there : slice_get c.args.self.now.graph.table c.index-numbers-index.result ≡ Some found.0 =
    subst (λ (n : ℕ). slice_get c.args.self.now.graph.table n ≡ Some found.0) (sym c.index-numbers-index.is) found.1.1 in
    let step = taken c.in_ok-done.done c.loop-index.self c.has_type.new.self (λ types instance. types c.index-variables-index.result ≡ replaced (instance c.args.user) found.0) c.if-not-done.false
    (given_declared c.args.user c.in_ok-done.done c.loop-index.self c.has_type.new.self c.args.self.now.graph.table c.index-variables-index.result c.index-numbers-index.result found.0
    c.loop-index.invariant.table there c.in_ok-done.ensures) in
    record {
      sound = step.sound;
      table = step.same_table ∙ c.loop-index.invariant.table;
      part = step.same_part ∙ c.loop-index.invariant.part;
      have = λ known. have_step c.args.user known c.args.self.now c.loop-index.self c.has_type.new.self c.args.variables.now c.args.declared.now c.loop-index.index
          c.index-variables-index.result found.0
          (slice_get_read c.args.variables.now (length c.args.variables.now) c.loop-index.index c.index-variables-index.result refl c.loop-index-test.true c.index-variables-index.is)
          found.1.0 (c.loop-index.invariant.have known) step;
    }

pub returns : goal.returns
returns c = λ known.
    let count : length c.args.variables.now ≡ c.len.result = c.if-variables-len.false in
    let less = c.loop-index-test.false in
    let same = c.len.ensures in
    have_all c.args.user known c.args.self.now c.loop-index.self c.args.variables.now c.args.declared.now c.loop-index.index (omega arith) (omega arith) (c.loop-index.invariant.have known)

pub has_type-requires-clause-begun : goal.has_type-requires-clause-begun
has_type-requires-clause-begun c = subst (λ (n : ℕ). c.args.user ≤ n) (sym c.loop-index.invariant.part) c.requires.begun
