use Rattle.std.proofs.Common.{ℕ, ◌+◌, ◌-◌, ◌*◌, Bool, not, List, take, drop, refl, arith}
use Rattle.std.specs.List.{prefix_len}
use Rattle.std.proofs.lemmas.List.{length-take, length-take-le}
use Rattle.std.proofs.lemmas.List.FromFn.{fill_by_all}
use Rattle.std.proofs.lemmas.List.Sums.{prefix_len-le-length}
use Rattle.puzzles.proofs.coding.read_all.Goals as goal

-- the value of a place
abbrev value : ℕ → List Bool → ℕ → ℕ
value size xs p = prefix_len not (take size (drop (p * size) xs))

pub overflow_cast-value : goal.overflow_cast-value
overflow_cast-value g c =
    let start = c.loop-place.place * c.size-size.result in
    let part = take (start + c.size-size.result - start) (drop start c.args.values.now) in
    omega (arith, c.first_true.ensures, prefix_len-le-length not part, length-take (start + c.size-size.result - start) (drop start c.args.values.now))

pub returns : goal.returns
returns g c =
    let n = c.places-places.result in
    let l = length-take-le n c.args.answer.now (omega (arith, c.requires.room, c.places-places.ensures)) in
    let all = fill_by_all (value c.size-size.result c.args.values.now) c.loop-place.value-items n 0 (omega arith) (λ p h. c.loop-place.invariant p (omega arith)) in
    rw (all, ← c.size-size.ensures, ← c.places-places.ensures) refl
