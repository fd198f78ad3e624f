-- What the rows of lines say: that the lines are met, and which values the slack variables have.
use Rattle.std.proofs.Common.{◌≡◌, ℕ, zero, suc, ◌+◌, ◌*◌, ◌<◌, Bool, true, false, cond, ◌&&◌, eqb, leb, List, [], ◌∷◌, ◌++◌, map, length, get_or, refl, ap, ◌∙◌, add-zero, arith}
use mathlib.Core.Bool.{beq}
use Rattle.std.specs.List.{All}
use Rattle.std.proofs.lemmas.List.Elements.{All-nil, All-cons, All-head, All-tail, All-from_get_or}
use Rattle.std.proofs.lemmas.Bool.{and_parts, eqb-true}
use Rattle.std.proofs.lemmas.Bool.Decides.{nat_tests}
use Rattle.rows.specs.declared.kinds.Kind.TheVariants.{Cover}
use Rattle.rows.specs.Literals.{truth_of}
use Rattle.rows.specs.Truth.{truths, trues, all_hold}
use Rattle.puzzles.specs.Lines.{Cell, Line, all_met, at, hits, plain, row_of, rows_from, slack_values, slacks, taken, variable_of}
use Rattle.puzzles.proofs.Blocks.{cells_of}

-- the literal of a variable is as true as the variable
pub truth_of-variable : (f : ℕ → Bool) (i : ℕ) → truth_of f (2 * i) ≡ f i
unfolding truth_of
truth_of-variable f i = grind (arith, nat_tests)

-- whether f gives the variables s, s + 1, .. these values
abbrev pub gives : (ℕ → Bool) → ℕ → List Bool → Bool
gives f s [] = true
gives f s (x ∷ xs) = beq (f s) x && gives f (s + 1) xs

-- it does if it gives each its value
pub gives-from : (f : ℕ → Bool) (s : ℕ) (xs : List Bool) → ((i : ℕ) → i < length xs → f (s + i) ≡ get_or xs i false) → gives f s xs ≡ true
gives-from f s [] e = refl
gives-from f s (x ∷ xs) e =
    let here : f s ≡ x = rw add-zero at (e 0 (omega arith)) in
    let later = gives-from f (s + 1) xs (λ i h. let k : s + 1 + i ≡ s + suc i = omega arith in rw k (e (suc i) (omega arith))) in
    grind (arith, nat_tests)

-- if it does, it gives each its value
pub gives_at : (f : ℕ → Bool) (s : ℕ) (xs : List Bool) → gives f s xs ≡ true → (i : ℕ) → i < length xs → f (s + i) ≡ get_or xs i false
gives_at f s [] g i h = absurd (omega arith)
gives_at f s (x ∷ xs) g zero h = rw add-zero (grind (arith, nat_tests))
gives_at f s (x ∷ xs) g (suc i) h =
    let k : s + suc i ≡ s + 1 + i = omega arith in
    rw k (gives_at f (s + 1) xs (and_parts (beq (f s) x) _ g).1 i (omega arith))

-- lines have as many slack values as slacks
pub length-slack_values : (a : List ℕ) (ls : List Line) → length (slack_values a ls) ≡ slacks ls
length-slack_values a [] = refl
length-slack_values a (l ∷ ls) =
    let e = length-slack_values a ls in
    elim l.slack as (λ b. length (cond b (eqb (hits a l.cells) 0 ∷ []) [] ++ slack_values a ls) ≡ cond b 1 0 + slacks ls) [ true ↦ omega arith | false ↦ omega arith ]

-- how many positions are true in a row that begins with cells, where f gives each cell's variable the truth g
count-cells : (size : ℕ) (f : ℕ → Bool) (g : Cell → Bool) (cs : List Cell) (rest : List ℕ) → All (λ c. f (variable_of size c) ≡ g c) cs → trues (truths f (map (λ c. 2 * variable_of size c) cs ++ rest)) ≡ trues (map g cs) + trues (truths f rest)
count-cells size f g [] rest k = omega arith
count-cells size f g (c ∷ cs) rest k = rw (truth_of-variable f (variable_of size c), All-head (λ d. f (variable_of size d) ≡ g d) c cs k, count-cells size f g cs rest (All-tail (λ d. f (variable_of size d) ≡ g d) c cs k)) (omega arith)

-- how many are in its end
count-slack : (f : ℕ → Bool) (s : ℕ) (b : Bool) → trues (truths f (cond b (2 * s ∷ []) [])) ≡ cond b (cond (f s) 1 0) 0
count-slack f s true = rw (truth_of-variable f s) (omega arith)
count-slack f s false = refl

-- how many positions of a line's row are true: the cells taken, and the slack
pub row_count : (size s : ℕ) (f : ℕ → Bool) (a : List ℕ) (l : Line) → All (λ c. f (variable_of size c) ≡ taken a c) l.cells → trues (truths f (row_of size s l)) ≡ hits a l.cells + cond l.slack (cond (f s) 1 0) 0
row_count size s f a l k = count-cells size f (taken a) l.cells (cond l.slack (2 * s ∷ []) []) k ∙ ap (λ n. hits a l.cells + n) (count-slack f s l.slack)

-- one row: the line is met and its slack, if it has one, is true where no cell is taken
one-row : (f : ℕ → Bool) (s n : ℕ) (b rest : Bool) (xs : List Bool) → (eqb (n + cond b (cond (f s) 1 0) 0) 1 && (rest && gives f (s + cond b 1 0) xs)) ≡ ((cond b (leb n 1) (eqb n 1) && rest) && gives f s (cond b (eqb n 0 ∷ []) [] ++ xs))
one-row f s n true rest xs = grind (arith, nat_tests)
one-row f s n false rest xs = simp add-zero (grind (arith, nat_tests))

-- f gives the variables of all cells of a line, and of lines, the truth that the values a do
abbrev pub AgreesOn : ℕ → (ℕ → Bool) → List ℕ → Line → Type 0
AgreesOn size f a l = All (λ c. f (variable_of size c) ≡ taken a c) l.cells

abbrev pub Agrees : ℕ → (ℕ → Bool) → List ℕ → List Line → Type 0
Agrees size f a ls = All (AgreesOn size f a) ls

-- then the rows are true exactly when the lines are met and the slacks have their values
pub rows-exact : (size s : ℕ) (f : ℕ → Bool) (a : List ℕ) (ls : List Line) → Agrees size f a ls → all_hold Cover f (rows_from size s ls) ≡ (all_met a ls && gives f s (slack_values a ls))
rows-exact size s f a [] k = refl
rows-exact size s f a (l ∷ ls) k =
    rw (row_count size s f a l (All-head (AgreesOn size f a) l ls k), rows-exact size (s + cond l.slack 1 0) f a ls (All-tail (AgreesOn size f a) l ls k))
    (one-row f s (hits a l.cells) l.slack (all_met a ls) (slack_values a ls))

-- where the lines are met, one cell of each place is taken
pub places-met : (size : ℕ) (a ps : List ℕ) (rest : List Line) → all_met a (map (λ p. plain (cells_of size p)) ps ++ rest) ≡ true → All (λ p. hits a (cells_of size p) ≡ 1) ps
places-met size a [] rest e = All-nil (λ p. hits a (cells_of size p) ≡ 1)
places-met size a (p ∷ ps) rest e =
    let both = and_parts (eqb (hits a (cells_of size p)) 1) _ e in
    All-cons (λ p. hits a (cells_of size p) ≡ 1) p ps (eqb-true _ 1 both.0) (places-met size a ps rest both.1)

-- where the rows are true, one variable of each place is
pub places-hold : (size s : ℕ) (f : ℕ → Bool) (ps : List ℕ) (rest : List Line) → all_hold Cover f (rows_from size s (map (λ p. plain (cells_of size p)) ps ++ rest)) ≡ true → All (λ p. trues (map (λ c. f (variable_of size c)) (cells_of size p)) ≡ 1) ps
places-hold size s f [] rest e = All-nil (λ p. trues (map (λ c. f (variable_of size c)) (cells_of size p)) ≡ 1)
places-hold size s f (p ∷ ps) rest e =
    let cs = cells_of size p in
    let both = and_parts (eqb (trues (truths f (row_of size s (plain cs)))) 1) _ e in
    let own = count-cells size f (λ c. f (variable_of size c)) cs [] (All-from_get_or (λ c. f (variable_of size c) ≡ f (variable_of size c)) cs (at 0 0) (λ i h. refl)) in
    let one = eqb-true _ 1 both.0 in
    All-cons (λ p. trues (map (λ c. f (variable_of size c)) (cells_of size p)) ≡ 1) p ps (omega arith) (places-hold size (s + 0) f ps rest both.1)
