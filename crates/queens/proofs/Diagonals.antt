-- The rows of diagonals: their variables stand at equal distances.
use Rattle.std.proofs.Common.{◌≡◌, ℕ, zero, suc, ◌+◌, ◌-◌, ◌*◌, ◌<◌, ◌≤◌, Bool, true, false, cond, ◌&&◌, ltb, leb, [], ◌∷◌, ◌++◌, map, refl, ap, ◌∙◌, ⊎_elim, add-mul, mul-le-mul_left, mul-add, arith}
use native.Mathlib.Nat.{mul-sub}
use Rattle.std.specs.List.{range_with_len, flat_map}
use Rattle.std.proofs.lemmas.Bool.{cases_lt}
use Rattle.std.proofs.lemmas.Bool.Decides.{nat_tests}
use Rattle.puzzles.specs.Filling.{run_of}
use Rattle.puzzles.specs.Lines.{at, row_of, variable_of}
use Rattle.puzzles.proofs.Runs.{cells-run}
use Rattle.queens.specs.Queens.{falling, rising}
use Rattle.queens.specs.laws.DiagonalCells.{falling-cells, rising-cells}

-- of a range, the items of a range within it
joined-between : {A : Type 0} (b : ℕ → Bool) (g : ℕ → A) (lo count i m : ℕ) → i ≤ lo → lo + count ≤ i + m → ((p : ℕ) → i ≤ p → p < i + m → b p ≡ (leb lo p && ltb p (lo + count))) → flat_map (λ p. cond (b p) (g p ∷ []) []) (range_with_len i m) ≡ map g (range_with_len lo count)
joined-between b g lo zero i zero l u h = refl
joined-between b g lo (suc c) i zero l u h = absurd (omega arith)
joined-between b g lo zero i (suc m) l u h =
    let e : b i ≡ false = h i (omega arith) (omega arith) ∙ grind (arith, nat_tests) in
    rw e (joined-between b g (i + 1) zero (i + 1) m (omega arith) (omega arith) (λ p k v. h p (omega arith) (omega arith) ∙ grind (arith, nat_tests)))
joined-between b g lo (suc c) i (suc m) l u h =
    ⊎_elim {C = flat_map (λ p. cond (b p) (g p ∷ []) []) (range_with_len i (suc m)) ≡ map g (range_with_len lo (suc c))}
    (λ (below : i < lo).
    let e : b i ≡ false = h i (omega arith) (omega arith) ∙ grind (arith, nat_tests) in
    rw e (joined-between b g lo (suc c) (i + 1) m (omega arith) (omega arith) (λ p k v. h p (omega arith) (omega arith))))
    (λ (reached : lo ≤ i).
    let e : b i ≡ true = h i (omega arith) (omega arith) ∙ grind (arith, nat_tests) in
    let q : lo ≡ i = omega arith in
    rw (e, q) (ap (λ xs. g i ∷ xs) (joined-between b g (i + 1) c (i + 1) m (omega arith) (omega arith) (λ p k v. h p (omega arith) (omega arith) ∙ grind (arith, nat_tests)))))
    (cases_lt i lo)

-- the row of a falling diagonal that begins in board row lo
falling-run : (n d lo count start s : ℕ) → n ≤ lo + d → lo + count ≤ n → start ≡ lo * n + (lo + d - n) → ((p : ℕ) → p < n → (leb n (p + d) && ltb (p + d) (n + n)) ≡ (leb lo p && ltb p (lo + count))) → row_of n s (falling n d) ≡ run_of start (n + 1) count ++ (2 * s) ∷ []
falling-run n d lo count start s h l e t =
    ap (λ cs. map (λ c. 2 * variable_of n c) cs ++ (2 * s) ∷ []) (falling-cells n d ∙ joined-between (λ p. leb n (p + d) && ltb (p + d) (n + n)) (λ p. at p (p + d - n)) lo count 0 n (omega arith) (omega arith) (λ p i k. t p (omega arith)))
    ∙ ap (λ xs. xs ++ (2 * s) ∷ []) (cells-run n (λ p. at p (p + d - n)) start (n + 1) lo count (λ k i. omega (arith, add-mul lo k n, mul-add k n 1)))

-- falling from the first board row on
pub falling-high : (n d s : ℕ) → n ≤ d → d < 2 * n → row_of n s (falling n d) ≡ run_of (d - n) (n + 1) (2 * n - d) ++ (2 * s) ∷ []
falling-high n d s l h = falling-run n d 0 (2 * n - d) (d - n) s (omega arith) (omega arith) (omega arith) (λ p k. grind (arith, nat_tests))

-- falling from the first column on
pub falling-low : (n d s : ℕ) → d < n → row_of n s (falling n d) ≡ run_of ((n - d) * n) (n + 1) d ++ (2 * s) ∷ []
falling-low n d s h = falling-run n d (n - d) d ((n - d) * n) s (omega arith) (omega arith) (omega arith) (λ p k. grind (arith, nat_tests))

-- the row of a rising diagonal that begins in board row lo
rising-run : (n d lo count start s : ℕ) → 0 < n → lo + count ≤ n → lo + count ≤ d + 1 → start ≡ lo * n + (d - lo) → ((p : ℕ) → p < n → (leb p d && ltb (d - p) n) ≡ (leb lo p && ltb p (lo + count))) → row_of n s (rising n d) ≡ run_of start (n - 1) count ++ (2 * s) ∷ []
rising-run n d lo count start s z l h e t =
    ap (λ cs. map (λ c. 2 * variable_of n c) cs ++ (2 * s) ∷ []) (rising-cells n d ∙ joined-between (λ p. leb p d && ltb (d - p) n) (λ p. at p (d - p)) lo count 0 n (omega arith) (omega arith) (λ p i k. t p (omega arith)))
    ∙ ap (λ xs. xs ++ (2 * s) ∷ []) (cells-run n (λ p. at p (d - p)) start (n - 1) lo count (λ k i. omega (arith, add-mul lo k n, mul-sub k n 1, mul-le-mul_left k z)))

-- rising from the first board row on
pub rising-low : (n d s : ℕ) → d < n → row_of n s (rising n d) ≡ run_of d (n - 1) (d + 1) ++ (2 * s) ∷ []
rising-low n d s h = rising-run n d 0 (d + 1) d s (omega arith) (omega arith) (omega arith) (omega arith) (λ p k. grind (arith, nat_tests))

-- rising from the last column on
pub rising-high : (n d s : ℕ) → n ≤ d → d + 1 < 2 * n → row_of n s (rising n d) ≡ run_of ((d - n + 1) * n + n - 1) (n - 1) (2 * n - 1 - d) ++ (2 * s) ∷ []
rising-high n d s l h = rising-run n d (d - n + 1) (2 * n - 1 - d) ((d - n + 1) * n + n - 1) s (omega arith) (omega arith) (omega arith) (omega arith) (λ p k. grind (arith, nat_tests))
