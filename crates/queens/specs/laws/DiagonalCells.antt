-- The cells of a diagonal, by board row: at most one in each.
use Rattle.std.proofs.Common.{◌≡◌, ℕ, zero, suc, ◌+◌, ◌-◌, Bool, cond, ◌&&◌, eqb, ltb, leb, List, [], ◌∷◌, ◌++◌, map, filter, refl, ap, ◌∙◌, arith, ◌<◌, ◌≤◌, true, false, not}
use Rattle.std.specs.List.{range_with_len, flat_map}
use Rattle.std.proofs.lemmas.List.Elements.{filter-append}
use Rattle.std.proofs.lemmas.Bool.Decides.{nat_tests}
use Rattle.rows.specs.Truth.{trues}
use Rattle.puzzles.specs.Lines.{Cell, at, hits, taken}
use Rattle.puzzles.specs.Words.{every}
use Rattle.puzzles.proofs.Hits.{one_passes}
use Rattle.queens.specs.Queens.{all_cells}

-- functions that agree join to the same list
joined_same : {X A : Type 0} (f g : X → List A) (xs : List X) → ((x : X) → f x ≡ g x) → flat_map f xs ≡ flat_map g xs
joined_same f g [] h = refl
joined_same f g (x ∷ xs) h = let e = joined_same f g xs h in let i = h x in cc

-- a filter of a joined list filters each part
kept_by-joined : {X A : Type 0} (t : A → Bool) (f : X → List A) (xs : List X) → filter t (flat_map f xs) ≡ flat_map (λ x. filter t (f x)) xs
kept_by-joined t f [] = refl
kept_by-joined t f (x ∷ xs) = filter-append t (f x) (flat_map f xs) ∙ ap (λ ys. filter t (f x) ++ ys) (kept_by-joined t f xs)

-- of a range, the one number w that passes, or none where g is false
kept-one : {A : Type 0} (t : A → Bool) (f : ℕ → A) (g : Bool) (w i m : ℕ) → ((v : ℕ) → t (f v) ≡ (g && eqb v w)) → filter t (map f (range_with_len i m)) ≡ cond (g && (leb i w && ltb w (i + m))) (f w ∷ []) []
kept-one t f g w i zero h = grind (arith, nat_tests)
kept-one t f g w i (suc m) h = rw (h i, kept-one t f g w (i + 1) m h) (grind (arith, nat_tests))

-- the cell of row p on falling diagonal d
falling-row : (n d p : ℕ) → filter (λ c. eqb (c.value + n) (c.place + d)) (map (at p) (range_with_len 0 n)) ≡ cond (leb n (p + d) && ltb (p + d) (n + n)) (at p (p + d - n) ∷ []) []
falling-row n d p =
    kept-one (λ c. eqb (c.value + n) (c.place + d)) (at p) (leb n (p + d)) (p + d - n) 0 n (λ v. grind (arith, nat_tests))
    ∙ ap (λ b. cond b (at p (p + d - n) ∷ []) []) (grind (arith, nat_tests))

-- the cells of falling diagonal d
pub falling-cells : (n d : ℕ) → filter (λ c. eqb (c.value + n) (c.place + d)) (all_cells n) ≡ flat_map (λ p. cond (leb n (p + d) && ltb (p + d) (n + n)) (at p (p + d - n) ∷ []) []) (range_with_len 0 n)
falling-cells n d =
    kept_by-joined (λ c. eqb (c.value + n) (c.place + d)) (λ p. map (at p) (range_with_len 0 n)) (range_with_len 0 n)
    ∙ joined_same (λ p. filter (λ c. eqb (c.value + n) (c.place + d)) (map (at p) (range_with_len 0 n))) (λ p. cond (leb n (p + d) && ltb (p + d) (n + n)) (at p (p + d - n) ∷ []) []) (range_with_len 0 n) (falling-row n d)

-- the cell of row p on rising diagonal d
rising-row : (n d p : ℕ) → filter (λ c. eqb (c.place + c.value) d) (map (at p) (range_with_len 0 n)) ≡ cond (leb p d && ltb (d - p) n) (at p (d - p) ∷ []) []
rising-row n d p =
    kept-one (λ c. eqb (c.place + c.value) d) (at p) (leb p d) (d - p) 0 n (λ v. grind (arith, nat_tests))
    ∙ ap (λ b. cond b (at p (d - p) ∷ []) []) (grind (arith, nat_tests))

-- the cells of rising diagonal d
pub rising-cells : (n d : ℕ) → filter (λ c. eqb (c.place + c.value) d) (all_cells n) ≡ flat_map (λ p. cond (leb p d && ltb (d - p) n) (at p (d - p) ∷ []) []) (range_with_len 0 n)
rising-cells n d =
    kept_by-joined (λ c. eqb (c.place + c.value) d) (λ p. map (at p) (range_with_len 0 n)) (range_with_len 0 n)
    ∙ joined_same (λ p. filter (λ c. eqb (c.place + c.value) d) (map (at p) (range_with_len 0 n))) (λ p. cond (leb p d && ltb (d - p) n) (at p (d - p) ∷ []) []) (range_with_len 0 n) (rising-row n d)

-- tests that agree on a range are true equally often
pub trues-same : (t u : ℕ → Bool) (i m : ℕ) → ((k : ℕ) → i ≤ k → k < i + m → t k ≡ u k) → trues (map t (range_with_len i m)) ≡ trues (map u (range_with_len i m))
trues-same t u i zero h = refl
trues-same t u i (suc m) h =
    let e = trues-same t u (i + 1) m (λ k l r. h k (omega arith) (omega arith)) in
    let f = h i (omega arith) (omega arith) in
    cc

-- a cell or none for each number: as many are taken as numbers pass
pub hits-joined : (a : List ℕ) (b : ℕ → Bool) (c : ℕ → Cell) (ps : List ℕ) → hits a (flat_map (λ p. cond (b p) (c p ∷ []) []) ps) ≡ trues (map (λ p. b p && taken a (c p)) ps)
hits-joined a b c [] = refl
hits-joined a b c (p ∷ ps) =
    let e = hits-joined a b c ps in
    elim (b p) as (λ x. hits a (cond x (c p ∷ []) [] ++ flat_map (λ q. cond (b q) (c q ∷ []) []) ps) ≡ cond (x && taken a (c p)) 1 0 + trues (map (λ q. b q && taken a (c q)) ps)) [
      | true ↦ ap (λ m. cond (taken a (c p)) 1 0 + m) e
      | false ↦ omega arith
    ]

-- at most one of them is taken where no two numbers pass
pub one-taken : (a : List ℕ) (b : ℕ → Bool) (c : ℕ → Cell) (t : ℕ → Bool) (n : ℕ) → ((p : ℕ) → p < n → (b p && taken a (c p)) ≡ t p) → leb (hits a (flat_map (λ p. cond (b p) (c p ∷ []) []) (range_with_len 0 n))) 1 ≡ every n (λ j. every j (λ i. not (t i && t j)))
one-taken a b c t n h =
    ap (λ m. leb m 1) (hits-joined a b c (range_with_len 0 n) ∙ trues-same (λ p. b p && taken a (c p)) t 0 n (λ p l u. h p (omega arith)))
    ∙ one_passes t n
