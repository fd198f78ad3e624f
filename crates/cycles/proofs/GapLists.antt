-- Listing the gaps pair by pair.
use Rattle.std.proofs.Common.{◌≡◌, ℕ, ◌+◌, ◌*◌, ◌/◌, ◌%◌, ◌<◌, Bool, true, false, not, ◌&&◌, eqb, List, map, filter, length, get_or, take, set, sym, refl, ap, ◌∙◌, append-nil, arith}
use Rattle.std.specs.List.{range_with_len}
use Rattle.std.proofs.lemmas.Nat.{div-add-mod', mod_below}
use Rattle.std.proofs.lemmas.List.{take_more_set}
use Rattle.std.proofs.lemmas.List.FromFn.{filter_of_map_range_with_len_more}
use Rattle.puzzles.proofs.Pairs.{pairs-flat}
use Rattle.puzzles.proofs.Writing.{place-below}
use Rattle.cycles.specs.Arcs.{Tells, arc, has_arc}
use Rattle.cycles.specs.Cycles.{all_gaps, is_gap}
use Rattle.cycles.specs.declared.arcs.Arc.{Arc}

-- the gaps among the first i pairs of n vertices
abbrev pub gaps_among : ℕ → List Arc → ℕ → List Arc
gaps_among n arcs i = filter (is_gap arcs) (map (λ k. arc (k / n) (k % n)) (range_with_len 0 i))

module _ (n : ℕ) (arcs : List Arc) (i len : ℕ) (pairs : List Arc) (so_far : take len pairs ≡ gaps_among n arcs i) where
  -- the next pair is one
  pub gap-added : (next : ℕ) (after : List Arc) → len < length pairs → is_gap arcs (arc (i / n) (i % n)) ≡ true → next ≡ len + 1 → after ≡ set pairs len (arc (i / n) (i % n)) → take next after ≡ gaps_among n arcs (i + 1)
  gap-added next after h g e f =
      rw (e, f, take_more_set pairs len (arc (i / n) (i % n)) h, so_far)
      (sym (filter_of_map_range_with_len_more (is_gap arcs) (λ k. arc (k / n) (k % n)) 0 i i (omega arith) ∙ rw g refl))

  -- or it is none
  pub gap-passed : (next : ℕ) (after : List Arc) → is_gap arcs (arc (i / n) (i % n)) ≡ false → next ≡ len → after ≡ pairs → take next after ≡ gaps_among n arcs (i + 1)
  gap-passed next after g e f =
      rw (e, f, so_far)
      (sym (filter_of_map_range_with_len_more (is_gap arcs) (λ k. arc (k / n) (k % n)) 0 i i (omega arith) ∙ rw g (append-nil _)))

-- whether a pair is one, by a table of arcs
pub gap-told : (n : ℕ) (arcs : List Arc) (table : List Bool) (i : ℕ) → Tells n arcs table → i < n * n → is_gap arcs (arc (i / n) (i % n)) ≡ (not (eqb (i / n) (i % n)) && not (get_or table i false))
gap-told n arcs table i t h =
    let k = place-below i n n h in
    let e : has_arc arcs (i / n) (i % n) ≡ get_or table i false = sym (t (i / n) (i % n) k.1 (mod_below i n k.0)) ∙ ap (λ j. get_or table j false) (div-add-mod' i n) in
    ap (λ b. not (eqb (i / n) (i % n)) && not b) e

-- those among all pairs are all
pub gaps-listed : (n : ℕ) (arcs : List Arc) → gaps_among n arcs (n * n) ≡ all_gaps n arcs
gaps-listed n arcs = ap (filter (is_gap arcs)) (sym (pairs-flat arc n n))
