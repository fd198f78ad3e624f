-- Filling the slacks of a board row by row.
use Rattle.std.proofs.Common.{◌≡◌, ℕ, zero, suc, ◌+◌, ◌*◌, ◌/◌, ◌<◌, ◌≤◌, Bool, true, false, cond, eqb, List, [], ◌∷◌, ◌++◌, map, length, get_or, take, drop, set, sym, ap, ◌∙◌, subst, ⊎_elim, append_assoc, append-nil, add-zero, add_assoc, arith}
use lib.Arith.{digits_lt}
use Rattle.std.specs.List.{All}
use Rattle.std.proofs.lemmas.List.Elements.{All-get_or, All-weaker}
use Rattle.std.proofs.lemmas.List.{length-append, length-drop, get_or_append_left, take_all, drop_at, drop-drop}
use Rattle.std.proofs.lemmas.Bool.{cases_Bool}
use Rattle.rows.specs.Truth.{valuation, truths, trues}
use Rattle.puzzles.specs.Boards.{Board, Lined, cells, encode, rows, vars}
use Rattle.puzzles.specs.Lines.{Cell, Inside, Line, On, board_values, hits, plain, row_of, rows_from, slack_values, slacks, taken, variable_of}
use Rattle.puzzles.proofs.Blocks.{board-at, length-board}
use Rattle.puzzles.proofs.LineRows.{length-rows}
use Rattle.puzzles.proofs.Narrow.{cells-narrow}
use Rattle.puzzles.proofs.Slacks.{length-slack_values, row_count}
use Rattle.puzzles.proofs.Writing.{write-next}

-- the line of an index
abbrev pub line_at : List Line → ℕ → Line
line_at ls i = get_or ls i (plain [])

-- the row of an index is that of its line, with the number of its slack
pub row_at : (size s : ℕ) (ls : List Line) (i : ℕ) → i < length ls → get_or (rows_from size s ls) i [] ≡ row_of size (s + slacks (take i ls)) (line_at ls i)
row_at size s [] i h = absurd (omega arith)
row_at size s (l ∷ ls) zero h = rw add-zero
row_at size s (l ∷ ls) (suc i) h = row_at size (s + cond l.slack 1 0) ls i (omega arith) ∙ rw add_assoc

-- one line more
slacks-more : (ls : List Line) (i : ℕ) → i < length ls → slacks (take (suc i) ls) ≡ slacks (take i ls) + cond (line_at ls i).slack 1 0
slacks-more [] i h = absurd (omega arith)
slacks-more (l ∷ ls) zero h = omega arith
slacks-more (l ∷ ls) (suc i) h = let e = slacks-more ls i (omega arith) in omega arith

slacks-few : (ls : List Line) (i : ℕ) → slacks (take i ls) ≤ slacks ls
slacks-few ls zero = omega arith
slacks-few [] (suc i) = omega arith
slacks-few (l ∷ ls) (suc i) = let e = slacks-few ls i in omega arith

values-more : (a : List ℕ) (ls : List Line) (i : ℕ) → i < length ls → slack_values a (take (suc i) ls) ≡ slack_values a (take i ls) ++ cond (line_at ls i).slack (eqb (hits a (line_at ls i).cells) 0 ∷ []) []
values-more a [] i h = absurd (omega arith)
values-more a (l ∷ ls) zero h = append-nil (cond l.slack (eqb (hits a l.cells) 0 ∷ []) [])
values-more a (l ∷ ls) (suc i) h = ap (λ xs. cond l.slack (eqb (hits a l.cells) 0 ∷ []) [] ++ xs) (values-more a ls i (omega arith)) ∙ sym (append_assoc (cond l.slack (eqb (hits a l.cells) 0 ∷ []) []) (slack_values a (take i ls)) _)

-- what is filled before row i
abbrev front : Board → List ℕ → ℕ → List Bool
front b a i = board_values b.size b.places a ++ slack_values a (take i b.lines)

-- the number of the next slack
abbrev next : Board → ℕ → ℕ
next b i = cells b + slacks (take i b.lines)

-- the truth values before row i
abbrev pub filled : Board → List ℕ → List Bool → ℕ → List Bool
filled b a before i = front b a i ++ drop (next b i) before

-- at the end all are
pub filled-all : (b : Board) (a : List ℕ) (before now : List Bool) (i : ℕ) → now ≡ board_values b.size b.places a ++ drop (cells b) before → length (rows b) ≤ i → filled b a now i ≡ encode b a ++ drop (vars b) before
filled-all b a before now i e h =
    let n = length-rows b.size (cells b) b.lines in
    let m = drop_at (board_values b.size b.places a) (drop (cells b) before) (cells b) (length-board b.size b.places a) in
    let d : drop (vars b) now ≡ drop (vars b) before = sym (drop-drop (slacks b.lines) (cells b) now) ∙ (ap (λ xs. drop (slacks b.lines) (drop (cells b) xs)) e ∙ (ap (drop (slacks b.lines)) m ∙ drop-drop (slacks b.lines) (cells b) before)) in
    rw (take_all i b.lines (omega arith), d)

module _ (b : Board) (k : Lined b) (a : List ℕ) (before : List Bool) (room : vars b ≤ length before) where
  front_length : (i : ℕ) → length (front b a i) ≡ next b i
  front_length i = length-append (board_values b.size b.places a) (slack_values a (take i b.lines)) ∙ rw (length-board b.size b.places a, length-slack_values a (take i b.lines))

  filled-length : (i : ℕ) → length (filled b a before i) ≡ length before
  filled-length i = let n = front_length i in let m = slacks-few b.lines i in omega (arith, length-append (front b a i) (drop (next b i) before), length-drop (next b i) before)

  -- the board variables agree with the values
  cell-agrees : (i : ℕ) (c : Cell) → On b.size b.places c → valuation (filled b a before i) (variable_of b.size c) ≡ taken a c
  cell-agrees i c h =
      let n = front_length i in
      let m = digits_lt h.0 h.1 in
      get_or_append_left (front b a i) (drop (next b i) before) false (variable_of b.size c) (omega arith)
      ∙ (get_or_append_left (board_values b.size b.places a) (slack_values a (take i b.lines)) false (variable_of b.size c) (omega (arith, length-board b.size b.places a))
      ∙ board-at b.size b.places a c.place c.value h.0 h.1)

  -- a row without a slack leaves what is filled
  plain_step : (i : ℕ) → i < length b.lines → (line_at b.lines i).slack ≡ false → filled b a before i ≡ filled b a before (suc i)
  plain_step i h e =
      let n : next b (suc i) ≡ next b i = rw (slacks-more b.lines i h, e) (omega arith) in
      let f : front b a (suc i) ≡ front b a i = rw (values-more a b.lines i h, e) (rw append-nil) in
      sym (rw (f, n))

  -- a row with one fills it
  slack-step : (i : ℕ) → i < length b.lines → (line_at b.lines i).slack ≡ true → set (filled b a before i) (next b i) (eqb (hits a (line_at b.lines i).cells) 0) ≡ filled b a before (suc i)
  slack-step i h e =
      let n : next b (suc i) ≡ next b i + 1 = rw (slacks-more b.lines i h, e) (omega arith) in
      let v = eqb (hits a (line_at b.lines i).cells) 0 in
      let f : front b a (suc i) ≡ front b a i ++ v ∷ [] = rw (values-more a b.lines i h, e) (sym (append_assoc (board_values b.size b.places a) (slack_values a (take i b.lines)) (v ∷ []))) in
      let m = slacks-few b.lines (suc i) in
      write-next (front b a i) before (next b i) v false (front_length i) (omega arith) ∙ sym (rw (f, n))

  -- the next row does what it should, if it leaves or sets what is filled as a row of its kind does
  pub filled-step : (i : ℕ) (row : List ℕ) (after : List Bool) → i < length (rows b) → row ≡ get_or (rows b) i [] → (All (λ l. l / 2 < cells b) row → after ≡ filled b a before i) → ((others : List ℕ) (s : ℕ) → row ≡ others ++ (2 * s) ∷ [] → cells b ≤ s → s < length (filled b a before i) → All (λ l. l / 2 < cells b) others → after ≡ set (filled b a before i) s (eqb (trues (truths (valuation (filled b a before i)) others)) 0)) → after ≡ filled b a before (suc i)
  filled-step i row after h e p q =
      let g : i < length b.lines = omega (arith, length-rows b.size (cells b) b.lines) in
      let l = line_at b.lines i in
      let ms = map (λ c. 2 * variable_of b.size c) l.cells in
      let inside = All-get_or (Inside b.size b.places) b.lines i (plain []) g k.inside in
      let narrow = cells-narrow b.size b.places (cells b) l.cells (omega arith) inside in
      let r = e ∙ row_at b.size (cells b) b.lines i g in
      ⊎_elim
      (λ (t : l.slack ≡ true).
      let whole : row ≡ ms ++ (2 * next b i) ∷ [] = r ∙ rw t in
      let n = filled-length i in
      let few = slacks-few b.lines (suc i) in
      let more : slacks (take (suc i) b.lines) ≡ slacks (take i b.lines) + 1 = slacks-more b.lines i g ∙ rw t in
      let agree = All-weaker (On b.size b.places) (λ c. valuation (filled b a before i) (variable_of b.size c) ≡ taken a c) (cell-agrees i) l.cells inside in
      let count : trues (truths (valuation (filled b a before i)) ms) ≡ hits a l.cells = subst (λ m. trues (truths (valuation (filled b a before i)) m) ≡ hits a l.cells) (append-nil ms) (row_count b.size 0 (valuation (filled b a before i)) a (plain l.cells) agree ∙ add-zero _) in
      q ms (next b i) whole (omega arith) (omega arith) narrow ∙ rw count (slack-step i g t))
      (λ (t : l.slack ≡ false).
      let whole : row ≡ ms = r ∙ rw t (append-nil ms) in
      p (subst (All (λ m. m / 2 < cells b)) (sym whole) narrow) ∙ plain_step i g t)
      (cases_Bool l.slack)

  -- the same, in the terms of a loop over the rows
  pub fill_step : (n : ℕ) (now : List Bool) (i : ℕ) (row : List ℕ) (after : List Bool) → n ≡ cells b → now ≡ filled b a before i → i < length (rows b) → row ≡ get_or (rows b) i [] → (All (λ l. l / 2 < n) row → after ≡ now) → ((others : List ℕ) (s : ℕ) → row ≡ others ++ (2 * s) ∷ [] → n ≤ s → s < length now → All (λ l. l / 2 < n) others → after ≡ set now s (eqb (trues (truths (valuation now) others)) 0)) → after ≡ filled b a before (i + 1)
  fill_step n now i row after c e h r p q =
      let m : suc i ≡ i + 1 = omega arith in
      let back : (ls : List ℕ) → All (λ l. l / 2 < cells b) ls → All (λ l. l / 2 < n) ls = λ ls k. subst (λ (j : ℕ). All (λ l. l / 2 < j) ls) (sym c) k in
      subst (λ (j : ℕ). after ≡ filled b a before j) m
      (filled-step i row after h r
      (λ k. p (back row k) ∙ e)
      (λ others s f l t k. q others s f (rw c l) (rw e t) (back others k) ∙ ap (λ (xs : List Bool). set xs s (eqb (trues (truths (valuation xs) others)) 0)) e))
