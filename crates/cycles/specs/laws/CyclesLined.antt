-- The lines of Hamiltonian cycles say what an answer is.
use Rattle.std.proofs.Common.{◌≡◌, ℕ, ◌+◌, ◌%◌, ◌<◌, ◌≤◌, Bool, true, false, not, ◌&&◌, ◌||◌, eqb, ltb, List, [], ◌∷◌, ◌++◌, map, length, get_or, sym, refl, ap, ◌∙◌, ⊎_elim, arith, cond}
use Rattle.std.specs.List.{range_with_len, flat_map, All}
use Rattle.std.proofs.Math.Nat.{mod-eq_of_lt, mod_self}
use Rattle.std.proofs.lemmas.Nat.{mod_below}
use Rattle.std.proofs.lemmas.List.Elements.{All-nil, All-cons, All-append, All-filter, All-weaker}
use Rattle.std.proofs.lemmas.Bool.{cases_Bool, cases_lt, and_parts, eqb-true, ltb-true, eq-eqb}
use Rattle.std.proofs.lemmas.Bool.Decides.{nat_tests}
use Rattle.rows.specs.Truth.{trues}
use Rattle.puzzles.specs.Boards.{Lined}
use Rattle.puzzles.specs.Lines.{Cell, Inside, On, all_met, at, hits, met, place_lines, taken, value_lines}
use Rattle.puzzles.specs.Words.{each_once, every, times}
use Rattle.puzzles.proofs.Every.{all_met-append, all_met-every, all_met-joined, every-elim, every-intro, every-two-elim, same_after, same_tests}
use Rattle.puzzles.proofs.Hits.{hits-along, one_passes, place_lines-met, value_lines-met, values-are}
use Rattle.puzzles.proofs.Insides.{all-joined, all-map-counting, all-pairs, place_lines-inside, value_lines-inside}
use Rattle.puzzles.proofs.Made.{makeable-size}
use Rattle.cycles.specs.Arcs.{arc, has_arc, joins}
use Rattle.cycles.specs.Cycles.{all_gaps, cycles, cycles_answer, cycles_lines, cycles_makeable, following, gap_line, is_gap, largest, smallest, start_line}
use Rattle.cycles.specs.declared.arcs.Arc.{Arc}
use Rattle.cycles.specs.laws.Tests.{all-pairs-tested, list_all-filter, list_all-same}

-- cells made from numbers
hits-map : (a : List ℕ) (f : ℕ → Cell) (ps : List ℕ) → hits a (map f ps) ≡ trues (map (λ p. taken a (f p)) ps)
hits-map a f [] = refl
hits-map a f (p ∷ ps) = ap (λ m. cond (taken a (f p)) 1 0 + m) (hits-map a f ps)

-- a value that stands once does not stand at two places
pub once-apart : (a : List ℕ) (n v i j : ℕ) → length a ≡ n → eqb (times v a) 1 ≡ true → i < j → j < n → get_or a i 0 ≡ v → get_or a j 0 ≡ v → ⊥
once-apart a n v i j e o l h p q =
    let t : ℕ → Bool = λ k. taken a (at k v) in
    let m : trues (map t (range_with_len 0 n)) ≡ times v a = sym (hits-map a (λ k. at k v) (range_with_len 0 n)) ∙ (hits-along a (λ k. k) v (range_with_len 0 n) ∙ ap (times v) (sym (values-are a n e))) in
    let k : every n (λ j. every j (λ i. not (t i && t j))) ≡ true = sym (one_passes t n) ∙ grind (arith, nat_tests) in
    let r = every-two-elim n (λ i j. not (t i && t j)) k i j l h in
    grind (arith, nat_tests)

-- an arc between two of n vertices
abbrev Between : ℕ → Arc → Type 0
Between n x = (x.from < n) × (x.to < n)

-- gaps are between vertices
gaps-between : (n : ℕ) (arcs : List Arc) → All (Between n) (all_gaps n arcs)
gaps-between n arcs = All-filter (is_gap arcs) (Between n) (flat_map (λ u. map (arc u) (range_with_len 0 n)) (range_with_len 0 n)) (all-pairs (Between n) arc n n (λ u w h l. (h, l)))

-- the lines of a gap are on the board
gap-lines-inside : (n : ℕ) (x : Arc) → Between n x → All (Inside n n) (map (gap_line n x) (range_with_len 0 n))
gap-lines-inside n x b = all-map-counting (Inside n n) (gap_line n x) 0 n (λ p l u. All-cons (On n n) (at p x.from) (at (following n p) x.to ∷ []) (omega arith, b.0) (All-cons (On n n) (at (following n p) x.to) [] (mod_below (p + 1) n (omega arith), b.1) (All-nil (On n n))))

-- and so are all
lines-inside : (n : ℕ) (arcs : List Arc) → 0 < n → All (Inside n n) (cycles_lines n arcs)
lines-inside n arcs z =
    let P = Inside n n in
    let gap_lines = flat_map (λ x. map (gap_line n x) (range_with_len 0 n)) (all_gaps n arcs) in
    All-append P (place_lines n n) (value_lines n n ++ (start_line ∷ gap_lines)) (place_lines-inside n n)
    (All-append P (value_lines n n) (start_line ∷ gap_lines) (value_lines-inside n n)
    (All-cons P start_line gap_lines (All-cons (On n n) (at 0 0) [] (z, z) (All-nil (On n n)))
    (all-joined P (λ x. map (gap_line n x) (range_with_len 0 n)) (all_gaps n arcs) (All-weaker (Between n) (λ x. All P (map (gap_line n x) (range_with_len 0 n))) (gap-lines-inside n) (all_gaps n arcs) (gaps-between n arcs)))))

-- the line of the start is met where vertex 0 is first
start-met : (a : List ℕ) → met a start_line ≡ eqb (get_or a 0 0) 0
start-met a = grind (arith, nat_tests)

-- that of a gap where its vertices do not follow one another there
gap-met : (n : ℕ) (a : List ℕ) (x : Arc) (p : ℕ) → met a (gap_line n x p) ≡ not (eqb (get_or a p 0) x.from && eqb (get_or a (following n p) 0) x.to)
gap-met n a x p = grind (arith, nat_tests)

-- whether vertices u and w follow one another nowhere, if they are a gap
abbrev apart : ℕ → List Arc → List ℕ → ℕ → ℕ → Bool
apart n arcs a u w = not (is_gap arcs (arc u w)) || every n (λ p. met a (gap_line n (arc u w) p))

-- those of all gaps, by vertices
gaps-met : (n : ℕ) (arcs : List Arc) (a : List ℕ) → all_met a (flat_map (λ x. map (gap_line n x) (range_with_len 0 n)) (all_gaps n arcs)) ≡ every n (λ u. every n (λ w. apart n arcs a u w))
gaps-met n arcs a =
    all_met-joined a (λ x. map (gap_line n x) (range_with_len 0 n)) (all_gaps n arcs)
    ∙ (list_all-same (λ x. all_met a (map (gap_line n x) (range_with_len 0 n))) (λ x. every n (λ p. met a (gap_line n x p))) (all_gaps n arcs) (λ x. all_met-every a (gap_line n x) n)
    ∙ (list_all-filter (λ x. every n (λ p. met a (gap_line n x p))) (is_gap arcs) (flat_map (λ u. map (arc u) (range_with_len 0 n)) (range_with_len 0 n))
    ∙ all-pairs-tested (λ x. not (is_gap arcs x) || every n (λ p. met a (gap_line n x p))) arc n n))

-- a test that follows from another
or_intro : (b c : Bool) → (b ≡ true → c ≡ true) → (not b || c) ≡ true
or_intro true c h = h refl
or_intro false c h = refl

or_elim : (b c : Bool) → (not b || c) ≡ true → b ≡ true → c ≡ true
or_elim true c e h = e
or_elim false c e h = cc

-- numbers that are not equal fail the test
differ : (u w : ℕ) → (u ≡ w → ⊥) → eqb u w ≡ false
differ u w h = ⊎_elim {C = eqb u w ≡ false} (λ (e : eqb u w ≡ true). absurd (h (eqb-true u w e))) (λ (e : eqb u w ≡ false). e) (cases_Bool (eqb u w))

-- lists of each vertex once
module _ (n : ℕ) (arcs : List Arc) (a : List ℕ) (two : 2 ≤ n) (whole : length a ≡ n) (below : (p : ℕ) → p < n → get_or a p 0 < n) (once : each_once n a ≡ true) where
  -- vertices that follow one another differ
  follow-apart : (p : ℕ) → p < n → get_or a p 0 ≡ get_or a (following n p) 0 → ⊥
  follow-apart p h e =
      let o = every-elim n (λ v. eqb (times v a) 1) once (get_or a p 0) (below p h) in
      ⊎_elim {C = ⊥}
      (λ (l : p + 1 < n). let f : following n p ≡ p + 1 = mod-eq_of_lt l in once-apart a n (get_or a p 0) p (p + 1) whole o (omega arith) l refl (ap (λ i. get_or a i 0) (sym f) ∙ sym e))
      (λ (l : n ≤ p + 1). let k : p + 1 ≡ n = omega arith in let f : following n p ≡ 0 = ap (λ i. i % n) k ∙ mod_self n in once-apart a n (get_or a p 0) 0 p whole o (omega arith) h (ap (λ i. get_or a i 0) (sym f) ∙ sym e) refl)
      (cases_lt (p + 1) n)

  -- where no gap is followed, arcs are
  arcs-followed : every n (λ u. every n (λ w. apart n arcs a u w)) ≡ true → (p : ℕ) → p < n → has_arc arcs (get_or a p 0) (get_or a (following n p) 0) ≡ true
  arcs-followed e p h =
      let u = get_or a p 0 in
      let w = get_or a (following n p) 0 in
      let q = every-elim n (λ w. apart n arcs a u w) (every-elim n (λ u. every n (λ w. apart n arcs a u w)) e u (below p h)) w (below (following n p) (mod_below (p + 1) n (omega arith))) in
      ⊎_elim {C = has_arc arcs u w ≡ true}
      (λ (t : has_arc arcs u w ≡ true). t)
      (λ (f : has_arc arcs u w ≡ false).
      let d : eqb u w ≡ false = differ u w (follow-apart p h) in
      let g : is_gap arcs (arc u w) ≡ true = rw (d, f) refl in
      let m = every-elim n (λ k. met a (gap_line n (arc u w) k)) (or_elim (is_gap arcs (arc u w)) (every n (λ k. met a (gap_line n (arc u w) k))) q g) p h in
      let z : true ≡ false = sym m ∙ (gap-met n a (arc u w) p ∙ rw (eq-eqb u u refl, eq-eqb w w refl) refl) in
      cc)
      (cases_Bool (has_arc arcs u w))

  -- where arcs are followed, no gap is
  gaps-avoided : every n (λ p. has_arc arcs (get_or a p 0) (get_or a (following n p) 0)) ≡ true → (u w : ℕ) → apart n arcs a u w ≡ true
  gaps-avoided e u w =
      or_intro (is_gap arcs (arc u w)) (every n (λ k. met a (gap_line n (arc u w) k))) (λ g.
      every-intro n (λ k. met a (gap_line n (arc u w) k)) (λ p h.
      let t = eqb (get_or a p 0) u && eqb (get_or a (following n p) 0) w in
      let none = (and_parts (not (eqb u w)) (not (has_arc arcs u w)) g).1 in
      gap-met n a (arc u w) p
      ∙ ⊎_elim {C = not t ≡ true}
      (λ (y : t ≡ true).
      let b = and_parts (eqb (get_or a p 0) u) (eqb (get_or a (following n p) 0) w) y in
      let x : has_arc arcs u w ≡ true = rw (sym (eqb-true (get_or a p 0) u b.0), sym (eqb-true (get_or a (following n p) 0) w b.1)) (every-elim n (λ p. has_arc arcs (get_or a p 0) (get_or a (following n p) 0)) e p h) in
      let z : true ≡ false = sym none ∙ ap not x in
      cc)
      (λ (y : t ≡ false). ap not y)
      (cases_Bool t)))

  -- so the one says what the other does
  gaps-arcs : every n (λ u. every n (λ w. apart n arcs a u w)) ≡ every n (λ p. has_arc arcs (get_or a p 0) (get_or a (following n p) 0))
  gaps-arcs =
      same_tests (every n (λ u. every n (λ w. apart n arcs a u w))) (every n (λ p. has_arc arcs (get_or a p 0) (get_or a (following n p) 0)))
      (λ e. every-intro n (λ p. has_arc arcs (get_or a p 0) (get_or a (following n p) 0)) (arcs-followed e))
      (λ e. every-intro n (λ u. every n (λ w. apart n arcs a u w)) (λ u h. every-intro n (λ w. apart n arcs a u w) (λ w l. gaps-avoided e u w)))

-- the lines are met where those of each kind are
lines-met : (n : ℕ) (arcs : List Arc) (a : List ℕ) → all_met a (cycles_lines n arcs) ≡ (every n (λ p. ltb (get_or a p 0) n) && (all_met a (value_lines n n) && (eqb (get_or a 0 0) 0 && every n (λ u. every n (λ w. apart n arcs a u w)))))
lines-met n arcs a = simp (all_met-append, place_lines-met, start-met, gaps-met)

-- the answers are the lists of values that meet every line
answers-meet : (n : ℕ) (arcs : List Arc) (a : List ℕ) → 2 ≤ n → cycles_answer n arcs a ≡ (eqb (length a) n && all_met a (cycles_lines n arcs))
answers-meet n arcs a two =
    let b = every n (λ p. ltb (get_or a p 0) n) in
    let v = all_met a (value_lines n n) in
    let s = eqb (get_or a 0 0) 0 in
    let g = every n (λ u. every n (λ w. apart n arcs a u w)) in
    let r = every n (λ p. has_arc arcs (get_or a p 0) (get_or a (following n p) 0)) in
    same_after (eqb (length a) n) (b && (each_once n a && (s && r))) (all_met a (cycles_lines n arcs)) (λ e.
    same_after b (each_once n a && (s && r)) (v && (s && g)) (λ h.
    same_after (each_once n a) (s && r) (s && g) (λ o. ap (λ t. s && t) (sym (gaps-arcs n arcs a two (eqb-true (length a) n e) (λ p l. ltb-true (get_or a p 0) n (every-elim n (λ i. ltb (get_or a i 0) n) h p l)) o)))
    ∙ ap (λ t. t && (s && g)) (sym (value_lines-met a n n (eqb-true (length a) n e))))
    ∙ sym (lines-met n arcs a))

-- Hamiltonian cycles as lines
pub cycles-lined : (n : ℕ) (arcs : List Arc) → cycles_makeable n arcs ≡ true → Lined (cycles n arcs)
cycles-lined n arcs e =
    let h = makeable-size smallest largest (joins n) n arcs e in
    record {
      rest = value_lines n n ++ (start_line ∷ flat_map (λ x. map (gap_line n x) (range_with_len 0 n)) (all_gaps n arcs));
      starts = refl;
      inside = lines-inside n arcs (omega arith);
      meets = λ a. answers-meet n arcs a (omega arith);
    }
