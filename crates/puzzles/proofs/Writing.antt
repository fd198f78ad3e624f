-- Writing a list from its front, and the places and blocks of board variables.
use Rattle.std.proofs.Common.{◌≡◌, ℕ, zero, suc, ◌+◌, ◌*◌, ◌/◌, ◌<◌, ◌≤◌, List, [], ◌∷◌, ◌++◌, length, get_or, drop, set, sym, ap, ◌∙◌, append_assoc, add-mul, arith}
use Rattle.std.proofs.lemmas.Nat.{div_below, mul-le}
use Rattle.std.proofs.lemmas.List.{set_at, drop_more}
use Rattle.puzzles.specs.Boards.{Board, vars}

-- one value more after those that are written
pub write-next : {X : Type 0} (front before : List X) (i : ℕ) (x d : X) → length front ≡ i → i < length before → set (front ++ drop i before) i x ≡ (front ++ x ∷ []) ++ drop (i + 1) before
write-next front before i x d n h =
    ap (λ xs. set (front ++ xs) i x) (drop_more before i d h)
    ∙ (set_at front (get_or before i d) (drop (i + 1) before) x i n ∙ sym (append_assoc front (x ∷ []) (drop (i + 1) before)))

-- an index into places of a size has its place below theirs
pub place-below : (i places size : ℕ) → i < places * size → (0 < size) × (i / size < places)
place-below i places zero h = absurd (omega arith)
place-below i places (suc n) h = (omega arith, div_below i (suc n) places (omega arith) h)

-- and its block of values within all
pub block-fits : (p places size n : ℕ) → p < places → places * size ≤ n → p * size + size ≤ n
block-fits p places size n h l = omega (arith, mul-le (suc p) size places size h (omega arith), add-mul p 1 size)

-- truth values for all variables have those of the board
pub board-fits : (b : Board) (p s n : ℕ) → p ≡ b.places → s ≡ b.size → vars b ≤ n → p * s ≤ n
board-fits b p s n e f h = rw (e, f) (omega arith)
