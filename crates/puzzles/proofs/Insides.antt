-- Lines whose cells are on the board.
use Rattle.std.proofs.Common.{ℕ, zero, suc, ◌+◌, ◌<◌, ◌≤◌, List, [], ◌∷◌, map, arith}
use Rattle.std.specs.List.{range_with_len, flat_map, All}
use Rattle.std.proofs.lemmas.List.Elements.{All-nil, All-cons, All-head, All-tail, All-append, All-map}
use Rattle.puzzles.specs.Lines.{Inside, On, at, place_lines, plain, value_lines}

-- what holds of each number of a range holds of all in the list
pub all-counting : (P : ℕ → Type 0) (i m : ℕ) → ((k : ℕ) → i ≤ k → k < i + m → P k) → All P (range_with_len i m)
all-counting P i zero h = All-nil P
all-counting P i (suc m) h = All-cons P i (range_with_len (i + 1) m) (h i (omega arith) (omega arith)) (all-counting P (i + 1) m (λ k l u. h k (omega arith) (omega arith)))

-- and so of what is made from them
pub all-map-counting : {X : Type 0} (P : X → Type 0) (f : ℕ → X) (i m : ℕ) → ((k : ℕ) → i ≤ k → k < i + m → P (f k)) → All P (map f (range_with_len i m))
all-map-counting P f i m h = All-map P f (range_with_len i m) (all-counting (λ k. P (f k)) i m h)

-- what holds of each part holds of the joined list
pub all-joined : {X A : Type 0} (P : A → Type 0) (f : X → List A) (xs : List X) → All (λ x. All P (f x)) xs → All P (flat_map f xs)
all-joined P f [] h = All-nil P
all-joined P f (x ∷ xs) h = All-append P (f x) (flat_map f xs) (All-head (λ y. All P (f y)) x xs h) (all-joined P f xs (All-tail (λ y. All P (f y)) x xs h))

-- the cells of one place are on the board
pub place-on : (size places p : ℕ) → p < places → All (On size places) (map (at p) (range_with_len 0 size))
place-on size places p h = all-map-counting (On size places) (at p) 0 size (λ v l u. (h, omega arith))

-- and so the lines of the places
pub place_lines-inside : (size places : ℕ) → All (Inside size places) (place_lines size places)
place_lines-inside size places = all-map-counting (Inside size places) (λ p. plain (map (at p) (range_with_len 0 size))) 0 places (λ p l u. place-on size places p (omega arith))

-- and those of the values
pub value_lines-inside : (size places : ℕ) → All (Inside size places) (value_lines size places)
value_lines-inside size places = all-map-counting (Inside size places) (λ v. plain (map (λ p. at p v) (range_with_len 0 places))) 0 size (λ v l u. all-map-counting (On size places) (λ p. at p v) 0 places (λ p k w. (omega arith, omega arith)))

-- what holds of each pair of numbers below n and m holds of what is made from them
pub all-pairs : {X : Type 0} (P : X → Type 0) (f : ℕ → ℕ → X) (n m : ℕ) → ((i j : ℕ) → i < n → j < m → P (f i j)) → All P (flat_map (λ i. map (f i) (range_with_len 0 m)) (range_with_len 0 n))
all-pairs P f n m h =
    all-joined P (λ i. map (f i) (range_with_len 0 m)) (range_with_len 0 n)
    (all-counting (λ i. All P (map (f i) (range_with_len 0 m))) 0 n (λ i l u. all-map-counting P (f i) 0 m (λ j k v. h i j (omega arith) (omega arith))))
