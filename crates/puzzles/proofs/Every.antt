-- Tests that pass at every number below another, and lists of lines that are all met.
use Rattle.std.proofs.Common.{◌≡◌, ℕ, zero, suc, ◌+◌, ◌<◌, ◌≤◌, Bool, true, false, ◌&&◌, List, [], ◌∷◌, ◌++◌, map, Decides, refl, ap, ◌∙◌, ⊎_elim, arith}
use Rattle.std.specs.List.{range_with_len, list_all, flat_map}
use Rattle.std.proofs.lemmas.Bool.{cases_lt, and_parts, and_from}
use Rattle.std.proofs.lemmas.Bool.Decides.{nat_tests, same_from_decides, Decides-below_and}
use Rattle.puzzles.specs.Lines.{Line, all_met, met}
use Rattle.puzzles.specs.Words.{every}

-- two tests that follow from each other are equal
pub same_tests : (b c : Bool) → (b ≡ true → c ≡ true) → (c ≡ true → b ≡ true) → b ≡ c
same_tests b c f g = same_from_decides {P = b ≡ true} b c ((λ e. e), (λ e. e)) (g, f)

-- tests that are equal where one before them passes
pub same_after : (b x y : Bool) → (b ≡ true → x ≡ y) → (b && x) ≡ (b && y)
same_after true x y h = h refl
same_after false x y h = refl

-- `every` decides what it says
decides-every : (n : ℕ) (t : ℕ → Bool) → Decides (every n t) ((k : ℕ) → k < n → t k ≡ true)
decides-every n t = Decides-below_and t (λ k. t k ≡ true) (λ m. every m t) (λ k. ((λ e. e), (λ e. e))) refl (λ m. refl) n

-- from each number below n
pub every-intro : (n : ℕ) (t : ℕ → Bool) → ((k : ℕ) → k < n → t k ≡ true) → every n t ≡ true
every-intro n t h = (decides-every n t).1 h

-- and to each
pub every-elim : (n : ℕ) (t : ℕ → Bool) → every n t ≡ true → (k : ℕ) → k < n → t k ≡ true
every-elim n t e = (decides-every n t).0 e

-- to any two numbers below n
pub every-two-elim : (n : ℕ) (t : ℕ → ℕ → Bool) → every n (λ j. every j (λ i. t i j)) ≡ true → (i j : ℕ) → i < j → j < n → t i j ≡ true
every-two-elim n t e i j l k = every-elim j (λ i. t i j) (every-elim n (λ j. every j (λ i. t i j)) e j k) i l

-- tests that agree below n pass there alike
pub every-same : (n : ℕ) (t u : ℕ → Bool) → ((k : ℕ) → k < n → t k ≡ u k) → every n t ≡ every n u
every-same zero t u h = refl
every-same (suc n) t u h = let e = every-same n t u (λ k l. h k (omega arith)) in let f = h n (omega arith) in cc

-- the lines of two lists are met where those of each are
pub all_met-append : (a : List ℕ) (xs ys : List Line) → all_met a (xs ++ ys) ≡ (all_met a xs && all_met a ys)
all_met-append a [] ys = refl
all_met-append a (x ∷ xs) ys = rw (all_met-append a xs ys) (grind (arith, nat_tests))

-- lines made from the numbers of a range: from each number
pub all_met-intro : (a : List ℕ) (f : ℕ → Line) (i m : ℕ) → ((k : ℕ) → i ≤ k → k < i + m → met a (f k) ≡ true) → all_met a (map f (range_with_len i m)) ≡ true
all_met-intro a f i zero h = refl
all_met-intro a f i (suc m) h = and_from (met a (f i)) (all_met a (map f (range_with_len (i + 1) m))) (h i (omega arith) (omega arith)) (all_met-intro a f (i + 1) m (λ k l u. h k (omega arith) (omega arith)))

-- and to each
pub all_met-elim : (a : List ℕ) (f : ℕ → Line) (i m : ℕ) → all_met a (map f (range_with_len i m)) ≡ true → (k : ℕ) → i ≤ k → k < i + m → met a (f k) ≡ true
all_met-elim a f i zero e k l u = absurd (omega arith)
all_met-elim a f i (suc m) e k l u =
    let p = and_parts (met a (f i)) (all_met a (map f (range_with_len (i + 1) m))) e in
    ⊎_elim
    (λ (q : i < k). all_met-elim a f (i + 1) m p.1 k (omega arith) (omega arith))
    (λ (q : k ≤ i). let r : k ≡ i = omega arith in rw r p.0)
    (cases_lt i k)

-- where the range starts at 0, as `every`
pub all_met-every : (a : List ℕ) (f : ℕ → Line) (n : ℕ) → all_met a (map f (range_with_len 0 n)) ≡ every n (λ k. met a (f k))
all_met-every a f n =
    same_tests (all_met a (map f (range_with_len 0 n))) (every n (λ k. met a (f k)))
    (λ e. every-intro n (λ k. met a (f k)) (λ k l. all_met-elim a f 0 n e k (omega arith) (omega arith)))
    (λ e. all_met-intro a f 0 n (λ k l u. every-elim n (λ k. met a (f k)) e k (omega arith)))

-- one number more in a range
list_all-more : (t : ℕ → Bool) (a n : ℕ) → list_all t (range_with_len a (suc n)) ≡ (t (a + n) && list_all t (range_with_len a n))
list_all-more t a zero = grind (arith, nat_tests)
list_all-more t a (suc n) = let e = list_all-more t (a + 1) n in let k : a + suc n ≡ a + 1 + n = omega arith in rw (e, k) (grind (arith, nat_tests))

-- a test at every number below n, as one of all in the range
pub every-range : (n : ℕ) (t : ℕ → Bool) → list_all t (range_with_len 0 n) ≡ every n t
every-range zero t = refl
every-range (suc n) t = list_all-more t 0 n ∙ rw (every-range n t) (grind (arith, nat_tests))

-- the lines of a joined list are met where those of each part are
pub all_met-joined : {X : Type 0} (a : List ℕ) (g : X → List Line) (xs : List X) → all_met a (flat_map g xs) ≡ list_all (λ x. all_met a (g x)) xs
all_met-joined a g [] = refl
all_met-joined a g (x ∷ xs) = all_met-append a (g x) (flat_map g xs) ∙ ap (λ b. all_met a (g x) && b) (all_met-joined a g xs)
