-- The rows of Hamiltonian cycles, one section after the other.
use Rattle.std.proofs.Common.{◌≡◌, ℕ, suc, ◌+◌, ◌-◌, ◌*◌, ◌/◌, ◌%◌, ◌<◌, ◌≤◌, false, List, [], ◌∷◌, ◌++◌, map, length, Some, refl, ap, ◌∙◌, arith, true, ⊎_elim}
use Rattle.std.specs.Option.{option_map}
use Rattle.std.specs.List.{range_with_len, flat_map, slice_get}
use Rattle.std.proofs.Math.Nat.{lt-div-mul-add, div-eq_of_lt, mod-eq_of_lt, add-mul-div_right, add-mul-mod_self_right}
use Rattle.std.proofs.lemmas.Nat.{mul-le}
use Rattle.std.proofs.lemmas.List.FromFn.{length-map-range_with_len}
use Rattle.std.proofs.lemmas.List.{length-append}
use Rattle.std.proofs.lemmas.Bool.{cases_lt}
use Rattle.puzzles.specs.Filling.{run_of}
use Rattle.puzzles.specs.Boards.{rows, vars}
use Rattle.puzzles.specs.Lines.{Line, row_of, rows_from, slacks, value_lines}
use Rattle.puzzles.proofs.LineRows.{length-rows, nth-alike, nth_after, place_line, slacks-alike, slacks-append, value_line}
use Rattle.puzzles.proofs.Runs.{place-run, value-run}
use Rattle.cycles.specs.Cycles.{all_gaps, cycles, cycles_lines, gap_line, largest, start_line}
use Rattle.cycles.specs.declared.arcs.Arc.{Arc}

-- lines in blocks of m, each with a slack
module _ {X : Type 0} (f : X → ℕ → Line) (m : ℕ) (slack : (x : X) (k : ℕ) → (f x k).slack ≡ true) where
  -- how many slacks they have
  pub slacks-blocks : (xs : List X) → slacks (flat_map (λ x. map (f x) (range_with_len 0 m)) xs) ≡ length xs * m
  slacks-blocks [] = omega arith
  slacks-blocks (x ∷ xs) = let e = slacks-blocks xs in omega (arith, slacks-append (map (f x) (range_with_len 0 m)) (flat_map (λ x. map (f x) (range_with_len 0 m)) xs), slacks-alike (f x) true (slack x) 0 m)

  -- how many there are
  pub length-blocks : (xs : List X) → length (flat_map (λ x. map (f x) (range_with_len 0 m)) xs) ≡ length xs * m
  length-blocks [] = omega arith
  length-blocks (x ∷ xs) = let e = length-blocks xs in omega (arith, length-append (map (f x) (range_with_len 0 m)) (flat_map (λ x. map (f x) (range_with_len 0 m)) xs), length-map-range_with_len (f x) 0 m)

  -- the row of slack j is that of line j % m of block j / m
  pub nth-blocks : (size s : ℕ) (xs : List X) (j : ℕ) → 0 < m → slice_get (rows_from size s (flat_map (λ x. map (f x) (range_with_len 0 m)) xs)) j ≡ option_map (λ x. row_of size (s + j) (f x (j % m))) (slice_get xs (j / m))
  nth-blocks size s [] j h = refl
  nth-blocks size s (x ∷ xs) j h =
      let rest = flat_map (λ x. map (f x) (range_with_len 0 m)) xs in
      ⊎_elim {C = slice_get (rows_from size s (map (f x) (range_with_len 0 m) ++ rest)) j ≡ option_map (λ y. row_of size (s + j) (f y (j % m))) (slice_get (x ∷ xs) (j / m))}
      (λ (l : j < m).
      let d : j / m ≡ 0 = div-eq_of_lt l in
      let r : j % m ≡ j = mod-eq_of_lt l in
      rw (d, r) (nth-alike (f x) true (slack x) size s 0 m rest j (s + j) j l refl (omega arith)))
      (λ (l : m ≤ j).
      let k : j ≡ j - m + 1 * m = omega arith in
      let d : j / m ≡ suc ((j - m) / m) = ap (λ i. i / m) k ∙ (add-mul-div_right (j - m) 1 h ∙ omega arith) in
      let r : j % m ≡ (j - m) % m = ap (λ i. i % m) k ∙ add-mul-mod_self_right (j - m) 1 m in
      let t : s + m + (j - m) ≡ s + j = omega arith in
      nth_after (f x) true (slack x) size s 0 m rest j (s + m) (j - m) refl (omega arith)
      ∙ (nth-blocks size (s + m) xs (j - m) h
      ∙ rw (d, r, t) refl))
      (cases_lt j m)

-- the lines of the gaps
abbrev gap_lines : ℕ → List Arc → List Line
gap_lines n arcs = flat_map (λ x. map (gap_line n x) (range_with_len 0 n)) (all_gaps n arcs)

module _ (n : ℕ) (arcs : List Arc) where
  -- how many variables there are
  pub cycles-vars : vars (cycles n arcs) ≡ n * n + n * length (all_gaps n arcs)
  cycles-vars =
      simp slacks-append
      (omega (arith, slacks-alike (place_line n) false (λ k. refl) 0 n, slacks-alike (value_line n) false (λ k. refl) 0 n, slacks-blocks (gap_line n) n (λ x k. refl) (all_gaps n arcs)))

  -- how many rows there are
  pub cycles-length : length (rows (cycles n arcs)) ≡ 2 * n + 1 + n * length (all_gaps n arcs)
  cycles-length =
      length-rows n (n * n) (cycles_lines n arcs)
      ∙ simp (length-append, length-map-range_with_len) (omega (arith, length-blocks (gap_line n) n (λ x k. refl) (all_gaps n arcs)))

  -- the rows of the positions come first
  pub cycles-place : (i : ℕ) → i < n → slice_get (rows (cycles n arcs)) i ≡ Some (run_of (i * n) 1 n)
  cycles-place i h = nth-alike (place_line n) false (λ k. refl) n (n * n) 0 n _ i (n * n) i h (omega arith) (omega arith) ∙ ap Some (place-run n i (n * n))

  -- past the positions
  past-places : (i : ℕ) → n ≤ i → slice_get (rows (cycles n arcs)) i ≡ slice_get (rows_from n (n * n) (value_lines n n ++ (start_line ∷ gap_lines n arcs))) (i - n)
  past-places i h = nth_after (place_line n) false (λ k. refl) n (n * n) 0 n _ i (n * n) (i - n) (omega arith) (omega arith)

  -- those of the vertices come next
  pub cycles-vertex : (i : ℕ) → n ≤ i → i < 2 * n → slice_get (rows (cycles n arcs)) i ≡ Some (run_of (i - n) n n)
  cycles-vertex i l h = past-places i l ∙ (nth-alike (value_line n) false (λ k. refl) n (n * n) 0 n _ (i - n) (n * n) (i - n) (omega arith) (omega arith) (omega arith) ∙ ap Some (value-run n n (i - n) (n * n)))

  -- past the vertices
  past-vertices : (i j : ℕ) → 2 * n ≤ i → i - 2 * n ≡ j → slice_get (rows (cycles n arcs)) i ≡ slice_get (rows_from n (n * n) (start_line ∷ gap_lines n arcs)) j
  past-vertices i j h e = past-places i (omega arith) ∙ nth_after (value_line n) false (λ k. refl) n (n * n) 0 n _ (i - n) (n * n) j (omega arith) (omega arith)

  -- then the start
  pub cycles-start : (i : ℕ) → i ≡ 2 * n → slice_get (rows (cycles n arcs)) i ≡ Some (run_of 0 1 1)
  cycles-start i e = past-vertices i 0 (omega arith) (omega arith) ∙ (let z : 2 * (0 * n + 0) ≡ 0 = omega arith in ap (λ v. Some (v ∷ [])) z)

  -- the gaps come last
  pub cycles-gap : (i j : ℕ) → 0 < n → 2 * n < i → i - 2 * n - 1 ≡ j → slice_get (rows (cycles n arcs)) i ≡ option_map (λ x. row_of n (n * n + j) (gap_line n x (j % n))) (slice_get (all_gaps n arcs) (j / n))
  cycles-gap i j z h e =
      past-vertices i (suc j) (omega arith) (omega arith)
      ∙ (let k : n * n + 0 ≡ n * n = omega arith in rw k (nth-blocks (gap_line n) n (λ x k. refl) n (n * n) (all_gaps n arcs) j z))

-- the row of a slack, which there is
pub few-slacks : (n j k : ℕ) → 0 < n → n ≤ largest → j / n < k → k ≤ largest * largest → n * n + j < 1100
few-slacks n j k z h l m =
    let a = mul-le n n largest largest h h in
    let b = mul-le (j / n) n 99 largest (omega arith) h in
    omega (arith, lt-div-mul-add {a = j} z)
