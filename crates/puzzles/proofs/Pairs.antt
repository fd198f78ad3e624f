-- Lists made from pairs of numbers, by one number each.
use Rattle.std.proofs.Common.{◌≡◌, ℕ, zero, suc, ◌+◌, ◌*◌, ◌/◌, ◌%◌, ◌<◌, ◌++◌, map, refl, ◌∙◌, arith}
use Rattle.std.specs.List.{range_with_len, flat_map}
use Rattle.std.proofs.lemmas.List.{map-append}
use Rattle.std.proofs.lemmas.Nat.{div-mul-add, mod-mul-add}

-- functions that agree on two ranges make the same list of them
same-from : {X : Type 0} (f g : ℕ → X) (a b m : ℕ) → ((k : ℕ) → k < m → f (a + k) ≡ g (b + k)) → map f (range_with_len a m) ≡ map g (range_with_len b m)
same-from f g a b zero h = refl
same-from f g a b (suc m) h =
    let e = same-from f g (a + 1) (b + 1) m (λ k l. let p : a + 1 + k ≡ a + suc k = omega arith in let q : b + 1 + k ≡ b + suc k = omega arith in rw (p, q) (h (suc k) (omega arith))) in
    let i = h 0 (omega arith) in
    let p : a + 0 ≡ a = omega arith in
    let q : b + 0 ≡ b = omega arith in
    cc

-- a range in two parts
range-parts : (a m n : ℕ) → range_with_len a (m + n) ≡ range_with_len a m ++ range_with_len (a + m) n
range-parts a zero n = let p : 0 + n ≡ n = omega arith in let q : a + 0 ≡ a = omega arith in rw (p, q) refl
range-parts a (suc m) n = let p : suc m + n ≡ suc (m + n) = omega arith in let q : a + suc m ≡ a + 1 + m = omega arith in rw (p, q, range-parts (a + 1) m n) refl

-- from pair (r, 0) on
flat-from : {X : Type 0} (f : ℕ → ℕ → X) (m r k : ℕ) → flat_map (λ i. map (f i) (range_with_len 0 m)) (range_with_len r k) ≡ map (λ i. f (i / m) (i % m)) (range_with_len (r * m) (k * m))
flat-from f m r zero = let p : 0 * m ≡ 0 = omega arith in rw p refl
flat-from f m r (suc k) =
    let g = λ (i : ℕ). f (i / m) (i % m) in
    let p : suc k * m ≡ m + k * m = omega arith in
    let q : r * m + m ≡ (r + 1) * m = omega arith in
    let here : map (f r) (range_with_len 0 m) ≡ map g (range_with_len (r * m) m) = same-from (f r) g 0 (r * m) m (λ j h. let z : 0 + j ≡ j = omega arith in rw (z, div-mul-add r m j h, mod-mul-add r m j h) refl) in
    rw (p, range-parts (r * m) m (k * m), map-append, q, here, flat-from f m (r + 1) k) refl

-- those of all pairs of numbers below n and m
pub pairs-flat : {X : Type 0} (f : ℕ → ℕ → X) (n m : ℕ) → flat_map (λ i. map (f i) (range_with_len 0 m)) (range_with_len 0 n) ≡ map (λ i. f (i / m) (i % m)) (range_with_len 0 (n * m))
pairs-flat f n m = let z : 0 * m ≡ 0 = omega arith in flat-from f m 0 n ∙ rw z refl
