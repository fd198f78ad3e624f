use Rattle.std.proofs.Common.{◌≡◌, ℕ, ◌+◌, ◌*◌, ◌/◌, ◌%◌, List, [], ◌∷◌, ◌++◌, length, take, Some, sym, ap, ◌∙◌, arith}
use Rattle.std.specs.List.{slice_get}
use Rattle.std.specs.Option.{option_map}
use Rattle.std.proofs.lemmas.List.{length-take}
use Rattle.std.proofs.lemmas.Option.{slice_get_within}
use Rattle.puzzles.specs.Lines.{row_of}
use Rattle.puzzles.proofs.Made.{makeable-size}
use Rattle.puzzles.proofs.Runs.{run-is, extended-is, extended-made}
use Rattle.cycles.specs.Arcs.{joins}
use Rattle.cycles.specs.Cycles.{following, gap_line, smallest, largest}
use Rattle.cycles.proofs.Rows.{few-slacks}
use Rattle.cycles.proofs.puzzle.Cycles.gap_row.Goals as goal

pub returns : goal.returns
returns c =
    let p = c.args.self.now in
    let n = p.size in
    let j = c.args.j in
    let x = c.in_ok-gap.gap in
    let u = j % n * n + x.from in
    let w = following n (j % n) * n + x.to in
    let h = makeable-size smallest largest (joins n) n p.arcs.now p.made in
    let g = sym c.get.ensures ∙ c.in_ok-gap.was in
    let l = slice_get_within (take p.gaps.len p.gaps.pairs) (j / n) x g in
    let f = few-slacks n j (length (take p.gaps.len p.gaps.pairs)) (omega arith) h.1 l (omega (arith, length-take p.gaps.len p.gaps.pairs, p.gaps.few)) in
    let z : u + 0 * 1 ≡ u = omega arith in
    let a : c.in_ok-first.first ≡ (2 * u) ∷ [] = run-is u 1 1 c.run.result c.in_ok-first.first c.run.ensures c.in_ok-first.was ∙ ap (λ v. (2 * v) ∷ []) z in
    let b : c.in_ok-both.both ≡ (2 * u) ∷ (2 * w) ∷ [] = extended-is c.in_ok-first.first w c.with_variable.result c.in_ok-both.both c.with_variable.ensures c.in_ok-both.was ∙ ap (λ (xs : List ℕ). xs ++ (2 * w) ∷ []) a in
    let k : length c.in_ok-both.both ≡ 2 = ap length b in
    extended-made c.in_ok-both.both (n * n + j) c.with_variable-2.result c.with_variable-2.ensures (omega arith) (omega arith)
    ∙ (ap (λ (xs : List ℕ). Some (xs ++ (2 * (n * n + j)) ∷ [])) b
    ∙ ap (option_map (λ x. row_of n (n * n + j) (gap_line n x (j % n)))) (sym g ∙ ap (λ ys. slice_get ys (j / n)) p.listed))
