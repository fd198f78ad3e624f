-- Rows that are filled from the front, and those whose variables stand at equal distances.
use Rattle.std.proofs.Common.{◌≡◌, ℕ, ◌+◌, ◌-◌, ◌*◌, ◌<◌, ◌≤◌, Bool, true, false, cond, ◌&&◌, ltb, List, [], ◌∷◌, ◌++◌, map, length, Some, None, Option, sym, refl, ap, ◌∙◌, ⊎_elim, append-nil, arith}
use mathlib.Core.List.{map-map}
use Rattle.std.specs.List.{range_with_len}
use Rattle.std.specs.Option.{option_and_then}
use Rattle.std.proofs.lemmas.List.FromFn.{length-map-range_with_len, get_or-map-range_with_len, map-range_with_len_more, fill_by_all}
use Rattle.std.proofs.lemmas.Nat.{mul-le}
use Rattle.std.proofs.lemmas.Bool.{cases_Bool}
use Rattle.std.proofs.lemmas.Bool.Decides.{nat_tests}
use Rattle.rows.specs.Kinds.{longest}
use Rattle.rows.specs.Literals.{within}
use Rattle.puzzles.specs.Filling.{extended, run_of, run_fits, run_row}
use Rattle.puzzles.specs.Lines.{Cell, at, plain, row_of, variable_of}

-- how many literals a run has
pub length_run : (start step count : ℕ) → length (run_of start step count) ≡ count
length_run start step count = length-map-range_with_len (λ k. 2 * (start + k * step)) 0 count

-- more than the variables of any board
abbrev pub many : ℕ
many = 1024

-- among so few variables a run makes a row
few-fits : (start step count : ℕ) → count ≤ longest → start < many → step < many → run_fits start step count ≡ true
few-fits start step count h l k = let m = mul-le (count - 1) step longest many (omega arith) (omega arith) in grind (arith, nat_tests)

pub run-made : (start step count : ℕ) (o : Option (List ℕ)) → o ≡ run_row start step count → count ≤ longest → start < many → step < many → o ≡ Some (run_of start step count)
run-made start step count o e h l k = e ∙ rw (few-fits start step count h l k) refl

-- what is there only where a test passes
only-where : {A : Type 0} (b : Bool) (x y : A) → cond b (Some x) None ≡ Some y → (b ≡ true) × (y ≡ x)
only-where true x y e = (refl, cc)
only-where false x y e = cc

-- a row that a run made is the run
pub run-is : (start step count : ℕ) (o : Option (List ℕ)) (row : List ℕ) → o ≡ run_row start step count → o ≡ Some row → row ≡ run_of start step count
run-is start step count o row e f = (only-where (run_fits start step count) (run_of start step count) row (sym e ∙ f)).1

-- a row that was made longer has the variable at its end
pub extended-is : (row : List ℕ) (v : ℕ) (o : Option (List ℕ)) (longer : List ℕ) → o ≡ extended row v → o ≡ Some longer → longer ≡ row ++ (2 * v) ∷ []
extended-is row v o longer e f = (only-where (ltb v within && ltb (length row) longest) (row ++ (2 * v) ∷ []) longer (sym e ∙ f)).1

-- a row with room can be made longer
pub extended-made : (row : List ℕ) (v : ℕ) (o : Option (List ℕ)) → o ≡ extended row v → length row < longest → v < within → o ≡ Some (row ++ (2 * v) ∷ [])
extended-made row v o e h l =
    let f : (ltb v within && ltb (length row) longest) ≡ true = grind (arith, nat_tests) in
    e ∙ rw f refl

-- so can a run, by its slack
pub run-extended : (start step count v : ℕ) (o r : Option (List ℕ)) (row : List ℕ) → o ≡ run_row start step count → o ≡ Some row → r ≡ extended row v → count < longest → v < within → r ≡ Some (run_of start step count ++ (2 * v) ∷ [])
run-extended start step count v o r row e f g h l =
    let s = run-is start step count o row e f in
    let n : length row ≡ count = ap length s ∙ length_run start step count in
    extended-made row v r g (omega arith) l ∙ ap (λ (xs : List ℕ). Some (xs ++ (2 * v) ∷ [])) s

-- where a run makes a row that has room, and the variable is within the limit, it makes one with that variable more
pub run-and-made : (start step count v : ℕ) → run_fits start step count ≡ true → count < longest → v < within → option_and_then (λ row. extended row v) (run_row start step count) ≡ Some (run_of start step count ++ (2 * v) ∷ [])
run-and-made start step count v f c h =
    let o = run_row start step count in
    let made : o ≡ Some (run_of start step count) = rw f refl in
    run-extended start step count v o (option_and_then (λ row. extended row v) o) (run_of start step count) refl made (rw made refl) c h

-- so a run among so few variables, by its slack
pub run-and : (start step count v : ℕ) (r : Option (List ℕ)) → r ≡ option_and_then (λ row. extended row v) (run_row start step count) → count < longest → start < many → step < many → v < within → r ≡ Some (run_of start step count ++ (2 * v) ∷ [])
run-and start step count v r e c h k l = e ∙ run-and-made start step count v (few-fits start step count (omega arith) h k) c l

-- a longer run does not fit either
longer-unfit : (start step k count : ℕ) → k < count → run_fits start step (k + 1) ≡ false → run_fits start step count ≡ false
longer-unfit start step k count h e = let m = mul-le k step (count - 1) step (omega arith) (omega arith) in grind (arith, nat_tests)

-- a run and its next variable are the next run
pub run-longer : (start step k : ℕ) → run_of start step k ++ (2 * (start + k * step)) ∷ [] ≡ run_of start step (k + 1)
run-longer start step k = sym (map-range_with_len_more (λ k. 2 * (start + k * step)) 0 k k (omega arith))

-- one variable more in a row that is a run
module _ (start step k : ℕ) (row : List ℕ) (made : run_row start step k ≡ Some row) where
  -- the row and the next variable are the next run, or both are none
  pub run-next : (v : ℕ) → v ≡ start + k * step → extended row v ≡ run_row start step (k + 1)
  run-next v e =
      let b = only-where (run_fits start step k) (run_of start step k) row made in
      let p = b.0 in
      let l : length row ≡ k = ap length b.1 ∙ length_run start step k in
      let f : (ltb v within && ltb (length row) longest) ≡ run_fits start step (k + 1) = (let n : k + 1 - 1 ≡ k = omega arith in rw n (grind (arith, nat_tests))) in
      let m : run_of start step (k + 1) ≡ row ++ (2 * v) ∷ [] = rw (e, b.1) (sym (run-longer start step k)) in
      rw (f, m) refl

  -- where the next variable does not fit, no longer run does
  pub run-ends : (v count : ℕ) → v ≡ start + k * step → k < count → extended row v ≡ None → run_row start step count ≡ None
  run-ends v count e h n =
      ⊎_elim {C = run_row start step count ≡ None}
      (λ (t : run_fits start step (k + 1) ≡ true). let z : None ≡ Some (run_of start step (k + 1)) = sym n ∙ (run-next v e ∙ rw t refl) in cc)
      (λ (f : run_fits start step (k + 1) ≡ false). rw (longer-unfit start step k count h f) refl)
      (cases_Bool (run_fits start step (k + 1)))

-- a run that makes a row has room for each of its variables, which are within the limit
pub run-room : (start step count k : ℕ) → run_fits start step count ≡ true → k < count → (k < longest) × (start + k * step < within)
run-room start step count k f h = let m = mul-le k step (count - 1) step (omega arith) (omega arith) in (grind (arith, nat_tests), grind (arith, nat_tests))

-- literals made from numbers that go up by one
run-from : (f : ℕ → ℕ) (start step i m : ℕ) → ((k : ℕ) → k < m → f (i + k) ≡ 2 * (start + k * step)) → map f (range_with_len i m) ≡ run_of start step m
run-from f start step i m h = fill_by_all (λ k. 2 * (start + k * step)) (map f (range_with_len i m)) m 0 (length-map-range_with_len f i m) (λ k l. get_or-map-range_with_len f i m k (i + k) 0 l refl ∙ h k l)

-- and so the row of cells made from them
pub cells-run : (n : ℕ) (f : ℕ → Cell) (start step i m : ℕ) → ((k : ℕ) → k < m → variable_of n (f (i + k)) ≡ start + k * step) → map (λ c. 2 * variable_of n c) (map f (range_with_len i m)) ≡ run_of start step m
cells-run n f start step i m h = map-map (λ c. 2 * variable_of n c) f (range_with_len i m) ∙ run-from (λ k. 2 * variable_of n (f k)) start step i m (λ k l. ap (λ v. 2 * v) (h k l))

-- the row of a board row
pub place-run : (n p s : ℕ) → row_of n s (plain (map (at p) (range_with_len 0 n))) ≡ run_of (p * n) 1 n
place-run n p s = append-nil _ ∙ cells-run n (at p) (p * n) 1 0 n (λ k l. omega arith)

-- the row of a value
pub value-run : (n m v s : ℕ) → row_of n s (plain (map (λ p. at p v) (range_with_len 0 m))) ≡ run_of v n m
value-run n m v s = append-nil _ ∙ cells-run n (λ p. at p v) v n 0 m (λ k l. omega arith)
