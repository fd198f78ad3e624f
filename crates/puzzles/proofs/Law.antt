-- The law of boards: where the lines begin with those of the places, lie on the board and say what an answer is, answers and solutions match one to one.
use Rattle.std.proofs.Common.{◌≡◌, ℕ, ◌+◌, ◌-◌, ◌*◌, ◌/◌, ◌%◌, ◌<◌, ◌≤◌, Bool, true, false, eqb, List, map, length, get_or, take, drop, sym, ◌∙◌, subst, ⊎_elim, zero-add, arith}
use Rattle.std.specs.List.{range_with_len, All}
use Rattle.std.proofs.lemmas.Nat.{mul-add-lt, div-add-mod', mod_below}
use Rattle.std.proofs.lemmas.List.FromFn.{length-range_with_len, get_or-range_with_len}
use Rattle.std.proofs.lemmas.List.Elements.{All-get_or, All-weaker}
use Rattle.std.proofs.lemmas.List.{length-append, get_or_append_left, get_or-append_right, get_or-append-add, ext_get_or}
use Rattle.std.proofs.lemmas.Bool.{and_parts, and_from, eqb-true, eq-eqb, cases_lt}
use Rattle.rows.specs.declared.kinds.Kind.TheVariants.{Cover}
use Rattle.rows.specs.Truth.{valuation, trues, all_hold}
use Rattle.puzzles.specs.Boards.{Board, Lined, LinedAreFaithful, cells, decode, encode, rows, solution, vars}
use Rattle.puzzles.specs.Lines.{Cell, Inside, Line, On, all_met, board_values, hits, rows_from, slack_values, taken, variable_of}
use Rattle.puzzles.proofs.Blocks.{block_at, board-at, cells_of, leading-is, length-block, length-board, length-tested, length-values, one-true, tested_at, value-below, values-at}
use Rattle.puzzles.proofs.Slacks.{Agrees, AgreesOn, gives, gives-from, gives_at, length-slack_values, places-hold, places-met, rows-exact}
use Rattle.puzzles.proofs.Writing.{place-below}

-- what holds of all numbers below n holds of each
all-below : (P : ℕ → Type 0) (n p : ℕ) → p < n → All P (range_with_len 0 n) → P p
all-below P n p h k =
    let e : get_or (range_with_len 0 n) p 0 ≡ p = get_or-range_with_len 0 n p 0 h ∙ zero-add p in
    let l = length-range_with_len 0 n in
    subst P e (All-get_or P (range_with_len 0 n) p 0 (omega arith) k)

-- f gives the board variables the truth that the values a do
abbrev pub Fills : ℕ → ℕ → (ℕ → Bool) → List ℕ → Type 0
Fills size places f a = (p v : ℕ) → p < places → v < size → f (p * size + v) ≡ eqb (get_or a p 0) v

-- so it does for the cells of lines on the board
pub agrees : (size places : ℕ) (f : ℕ → Bool) (a : List ℕ) → Fills size places f a → (ls : List Line) → All (Inside size places) ls → Agrees size f a ls
agrees size places f a e ls k = All-weaker (Inside size places) (AgreesOn size f a) (λ l. All-weaker (On size places) (λ c. f (variable_of size c) ≡ taken a c) (λ c i. e c.place c.value i.0 i.1) l.cells) ls k

-- and for every board variable, which is that of a place and a value
pub fills-all : (size places : ℕ) (f : ℕ → Bool) (a : List ℕ) → Fills size places f a → (i : ℕ) → i < places * size → get_or (board_values size places a) i false ≡ f i
fills-all size places f a e i h =
    let k = place-below i places size h in
    let p = k.1 in
    let v = mod_below i size k.0 in
    subst (λ k. get_or (board_values size places a) k false ≡ f k) (div-add-mod' i size) (board-at size places a (i / size) (i % size) p v ∙ sym (e (i / size) (i % size) p v))

-- an encoding has a truth value for each variable
pub length-encode : (b : Board) (a : List ℕ) → length (encode b a) ≡ vars b
length-encode b a = length-append (board_values b.size b.places a) (slack_values a b.lines) ∙ rw (length-board b.size b.places a, length-slack_values a b.lines)

-- from an answer to a solution and back
module _ (b : Board) (k : Lined b) (a : List ℕ) (answered : b.answer a ≡ true) where
  -- what an answer is
  pub parts : (length a ≡ b.places) × (all_met a b.lines ≡ true)
  parts = let both = and_parts (eqb (length a) b.places) _ (sym (k.meets a) ∙ answered) in (eqb-true _ _ both.0, both.1)

  -- its encoding agrees with it
  encoded-fills : Fills b.size b.places (valuation (encode b a)) a
  encoded-fills p v h l =
      get_or_append_left (board_values b.size b.places a) (slack_values a b.lines) false (p * b.size + v) (omega (arith, length-board b.size b.places a, mul-add-lt p b.size v b.places h l))
      ∙ board-at b.size b.places a p v h l

  -- and is a solution
  encoded-solves : solution b (encode b a) ≡ true
  encoded-solves =
      let f = valuation (encode b a) in
      let zs = slack_values a b.lines in
      let own : gives f (cells b) zs ≡ true = gives-from f (cells b) zs (λ i h. subst (λ n. f (n + i) ≡ get_or zs i false) (length-board b.size b.places a) (get_or-append-add (board_values b.size b.places a) zs i false)) in
      and_from _ _ (eq-eqb _ _ (length-encode b a)) (rows-exact b.size (cells b) f a b.lines (agrees b.size b.places f a encoded-fills b.lines k.inside) ∙ and_from _ _ parts.1 own)

  -- each of its values is on the board
  pub on-board : (p : ℕ) → p < b.places → get_or a p 0 < b.size
  on-board p h =
      let met : All (λ p. hits a (cells_of b.size p) ≡ 1) (range_with_len 0 b.places) = places-met b.size a (range_with_len 0 b.places) k.rest (subst (λ ls. all_met a ls ≡ true) k.starts parts.1) in
      value-below b.size a p (all-below (λ p. hits a (cells_of b.size p) ≡ 1) b.places p h met)

  -- so decoding gives back each value
  encoded-value : (p : ℕ) → p < b.places → get_or (decode b (encode b a)) p 0 ≡ get_or a p 0
  encoded-value p h =
      let xs = encode b a in
      let w = length-encode b a in
      let wide : cells b ≤ length xs = omega arith in
      let l = length-block b.size b.places xs wide p h in
      values-at b.size b.places xs p h
      ∙ leading-is (take b.size (drop (p * b.size) xs)) (get_or a p 0) (rw l (on-board p h)) (λ v j. let u : v < b.size = omega arith in block_at b.size b.places xs wide p h v u ∙ encoded-fills p v h u)

  -- and so the answer
  encoded-back : decode b (encode b a) ≡ a
  encoded-back =
      let n = length-values b.size b.places (encode b a) in
      let m = parts.0 in
      ext_get_or 0 (decode b (encode b a)) a (omega arith) (λ p i. encoded-value p (omega arith))

-- from a solution to an answer and back
module _ (b : Board) (k : Lined b) (xs : List Bool) (solved : solution b xs ≡ true) where
  -- what a solution is
  pieces : (length xs ≡ vars b) × (all_hold Cover (valuation xs) (rows b) ≡ true)
  pieces = let both = and_parts (eqb (length xs) (vars b)) _ solved in (eqb-true _ _ both.0, both.1)

  -- it has all board variables
  wide : cells b ≤ length xs
  wide = let n = pieces.0 in omega arith

  -- one in the block of each place is true
  one_each : (p : ℕ) → p < b.places → trues (take b.size (drop (p * b.size) xs)) ≡ 1
  one_each p h =
      let test : Cell → Bool = λ c. valuation xs (variable_of b.size c) in
      let hold = places-hold b.size (cells b) (valuation xs) (range_with_len 0 b.places) k.rest (subst (λ ls. all_hold Cover (valuation xs) (rows_from b.size (cells b) ls) ≡ true) k.starts pieces.1) in
      let n = length-block b.size b.places xs wide p h in
      let m = length-tested b.size p test in
      let same : take b.size (drop (p * b.size) xs) ≡ map test (cells_of b.size p) = ext_get_or false _ _ (n ∙ sym m) (λ v j. let u : v < b.size = omega arith in block_at b.size b.places xs wide p h v u ∙ sym (tested_at b.size p test v u)) in
      rw same (all-below (λ p. trues (map test (cells_of b.size p)) ≡ 1) b.places p h hold)

  -- so it agrees with its decoding
  pub decoded-fills : Fills b.size b.places (valuation xs) (decode b xs)
  decoded-fills p v h l =
      let n = length-block b.size b.places xs wide p h in
      sym (block_at b.size b.places xs wide p h v l)
      ∙ ((one-true (take b.size (drop (p * b.size) xs)) (one_each p h)).1 v (omega arith)
      ∙ rw (values-at b.size b.places xs p h))

  -- the lines are met, and the slacks have their values
  both_hold : (all_met (decode b xs) b.lines ≡ true) × (gives (valuation xs) (cells b) (slack_values (decode b xs) b.lines) ≡ true)
  both_hold = and_parts _ _ (sym (rows-exact b.size (cells b) (valuation xs) (decode b xs) b.lines (agrees b.size b.places (valuation xs) (decode b xs) decoded-fills b.lines k.inside)) ∙ pieces.1)

  -- so the decoding is an answer
  decoded-answers : b.answer (decode b xs) ≡ true
  decoded-answers = k.meets (decode b xs) ∙ and_from _ _ (eq-eqb _ _ (length-values b.size b.places xs)) both_hold.0

  -- encoding that gives back the truth of the board variables
  board-back : (i : ℕ) → i < cells b → get_or (encode b (decode b xs)) i false ≡ get_or xs i false
  board-back i h =
      let a = decode b xs in
      let n = length-board b.size b.places a in
      get_or_append_left (board_values b.size b.places a) (slack_values a b.lines) false i (omega arith)
      ∙ fills-all b.size b.places (valuation xs) a decoded-fills i h

  -- and of the slacks
  slacks-back : (i : ℕ) → cells b ≤ i → i < vars b → get_or (encode b (decode b xs)) i false ≡ get_or xs i false
  slacks-back i h l =
      let a = decode b xs in
      let zs = slack_values a b.lines in
      let m = length-slack_values a b.lines in
      let back : cells b + (i - cells b) ≡ i = omega arith in
      get_or-append_right (board_values b.size b.places a) zs (cells b) i false (length-board b.size b.places a) h
      ∙ (sym (gives_at (valuation xs) (cells b) zs both_hold.1 (i - cells b) (omega arith)) ∙ rw back)

  -- so it gives back the solution
  decoded-back : encode b (decode b xs) ≡ xs
  decoded-back =
      let n = length-encode b (decode b xs) in
      let m = pieces.0 in
      ext_get_or false (encode b (decode b xs)) xs (omega arith) (λ i h. ⊎_elim (board-back i) (λ l. slacks-back i l (omega arith)) (cases_lt i (cells b)))

-- the law
pub lined-are-faithful : LinedAreFaithful
lined-are-faithful b k = record {
  encodes = λ a e. (encoded-solves b k a e, encoded-back b k a e);
  decodes = λ xs e. (decoded-answers b k xs e, decoded-back b k xs e);
}
