-- Blocks of truth values of which one is true: the board variables of a place.
use Rattle.std.proofs.Common.{◌≡◌, ℕ, zero, suc, ◌+◌, ◌*◌, ◌<◌, ◌≤◌, Bool, true, false, not, eqb, List, [], ◌∷◌, map, length, get_or, take, drop, sym, refl, ap, ◌∙◌, zero-add, arith, length-drop}
use Rattle.std.specs.List.{range_with_len, prefix_len}
use Rattle.std.proofs.lemmas.Nat.{mul-le, mul-add-lt, div-mul-add, mod-mul-add}
use Rattle.std.proofs.lemmas.List.FromFn.{length-map-range_with_len, get_or-map-range_with_len}
use Rattle.std.proofs.lemmas.List.{length-map, length-take-le, get_or-map, get_or-take, get_or-drop}
use Rattle.std.proofs.lemmas.Bool.{eqb-true, eq-eqb}
use Rattle.std.proofs.lemmas.Bool.Decides.{nat_tests}
use Rattle.rows.specs.Truth.{trues}
use Rattle.puzzles.specs.Lines.{Cell, at, board_values, hits, taken, values_of}

-- where none is true, each is false
none_true : (ts : List Bool) → trues ts ≡ 0 → (w : ℕ) → get_or ts w false ≡ false
none_true [] e w = refl
none_true (true ∷ ts) e w = absurd (omega arith)
none_true (false ∷ ts) e zero = refl
none_true (false ∷ ts) e (suc w) = none_true ts (omega arith) w

-- where one is true, it is the first that is
pub one-true : (ts : List Bool) → trues ts ≡ 1 → (prefix_len not ts < length ts) × ((w : ℕ) → w < length ts → get_or ts w false ≡ eqb (prefix_len not ts) w)
one-true [] e = absurd (omega arith)
one-true (true ∷ ts) e = (omega arith, λ w. elim w as (λ w. w < suc (length ts) → get_or (true ∷ ts) w false ≡ eqb 0 w) [ zero ↦ λ h. refl | suc w ↦ λ h. none_true ts (omega arith) w ∙ grind (arith, nat_tests) ])
one-true (false ∷ ts) e =
    let k = one-true ts (omega arith) in
    (omega arith, λ w. elim w as (λ w. w < suc (length ts) → get_or (false ∷ ts) w false ≡ eqb (1 + prefix_len not ts) w) [ zero ↦ λ h. grind (arith, nat_tests) | suc w ↦ λ h. k.1 w (omega arith) ∙ grind (arith, nat_tests) ])

-- where number x alone is true, x are false before it
pub leading-is : (ts : List Bool) (x : ℕ) → x < length ts → ((w : ℕ) → w < length ts → get_or ts w false ≡ eqb x w) → prefix_len not ts ≡ x
leading-is [] x h e = absurd (omega arith)
leading-is (true ∷ ts) zero h e = refl
leading-is (true ∷ ts) (suc x) h e = let z = e 0 (omega arith) in grind (arith, nat_tests)
leading-is (false ∷ ts) zero h e = let z = e 0 (omega arith) in grind (arith, nat_tests)
leading-is (false ∷ ts) (suc x) h e =
    let k = leading-is ts x (omega arith) (λ w l. e (suc w) (omega arith) ∙ grind (arith, nat_tests)) in
    omega arith

-- a filled board has a truth value for each place and value
pub length-board : (size places : ℕ) (a : List ℕ) → length (board_values size places a) ≡ places * size
length-board size places a = length-map-range_with_len _ 0 (places * size)

-- true where the place has the value
pub board-at : (size places : ℕ) (a : List ℕ) (p v : ℕ) → p < places → v < size → get_or (board_values size places a) (p * size + v) false ≡ eqb (get_or a p 0) v
board-at size places a p v h k =
    get_or-map-range_with_len _ 0 (places * size) (p * size + v) (p * size + v) false (omega (arith, mul-add-lt p size v places h k)) (zero-add _)
    ∙ rw (div-mul-add p size v k, mod-mul-add p size v k)

-- the block of place p in the truth values of all variables
module _ (size places : ℕ) (xs : List Bool) (enough : places * size ≤ length xs) (p : ℕ) (h : p < places) where
  -- it has one for each value
  pub length-block : length (take size (drop (p * size) xs)) ≡ size
  length-block = length-take-le size (drop (p * size) xs) (simp length-drop (let k = mul-le (suc p) size places size h (omega arith) in omega arith))

  -- the one for value w is that of variable p * size + w
  pub block_at : (w : ℕ) → w < size → get_or (take size (drop (p * size) xs)) w false ≡ get_or xs (p * size + w) false
  block_at w l = rw (get_or-take, get_or-drop)

-- truth values give one value for each place
pub length-values : (size places : ℕ) (xs : List Bool) → length (values_of size places xs) ≡ places
length-values size places xs = length-map-range_with_len _ 0 places

-- that of the first that is true in the place's block
pub values-at : (size places : ℕ) (xs : List Bool) (p : ℕ) → p < places → get_or (values_of size places xs) p 0 ≡ prefix_len not (take size (drop (p * size) xs))
values-at size places xs p h = get_or-map-range_with_len _ 0 places p p 0 h (zero-add p)

-- the cells of a place, by values
abbrev pub cells_of : ℕ → ℕ → List Cell
cells_of size p = map (at p) (range_with_len 0 size)

-- the truth values that a test gives them
module _ (size p : ℕ) (test : Cell → Bool) where
  -- there is one for each value
  pub length-tested : length (map test (cells_of size p)) ≡ size
  length-tested = length-map (cells_of size p) test ∙ length-map-range_with_len (at p) 0 size

  -- the one for value v is that of the cell with v
  pub tested_at : (v : ℕ) → v < size → get_or (map test (cells_of size p)) v false ≡ test (at p v)
  tested_at v h = get_or-map test (cells_of size p) v (at 0 0) false (rw length-map-range_with_len h) ∙ ap test (get_or-map-range_with_len (at p) 0 size v v (at 0 0) h (zero-add v))

-- a place of which one cell is taken has a value on the board
pub value-below : (size : ℕ) (a : List ℕ) (p : ℕ) → hits a (cells_of size p) ≡ 1 → get_or a p 0 < size
value-below size a p e =
    let ts = map (taken a) (cells_of size p) in
    let v = prefix_len not ts in
    let one = one-true ts e in
    let l = length-tested size p (taken a) in
    let h : v < size = omega arith in
    let t = eqb-true (get_or a p 0) v (sym (tested_at size p (taken a) v h) ∙ (one.1 v one.0 ∙ eq-eqb v v refl)) in
    omega arith
