-- What a cycle is, as chains of iterators compute it.
use Rattle.std.proofs.Common.{◌≡◌, ℕ, ◌+◌, ◌*◌, ◌<◌, Bool, false, ◌&&◌, eqb, ltb, List, length, get_or, count_by, sym, ap, ◌∙◌}
use Rattle.std.specs.List.{range_with_len, list_all}
use Rattle.std.proofs.lemmas.Nat.{mod_below}
use Rattle.std.proofs.lemmas.Bool.{ltb-true}
use Rattle.puzzles.specs.Words.{each_once, every}
use Rattle.puzzles.proofs.Chains.{every-list, once-counted}
use Rattle.puzzles.proofs.Every.{every-elim, every-range, every-same, same_after}
use Rattle.cycles.specs.Arcs.{Tells, has_arc}
use Rattle.cycles.specs.Cycles.{following, is_cycle}
use Rattle.cycles.specs.declared.arcs.Arc.{Arc}

-- what makes a cycle, by a table of arcs
pub cycle_checked : (n : ℕ) (arcs : List Arc) (table : List Bool) (a : List ℕ) → 0 < n → Tells n arcs table → length a ≡ n → is_cycle n arcs a ≡ (list_all (λ x. ltb x n) a && (list_all (λ v. eqb (count_by (λ x. eqb x v) a) 1) (range_with_len 0 n) && (eqb (get_or a 0 0) 0 && list_all (λ p. get_or table (get_or a p 0 * n + get_or a (following n p) 0) false) (range_with_len 0 n))))
cycle_checked n arcs table a z t h =
    let b = every n (λ p. ltb (get_or a p 0) n) in
    let s = eqb (get_or a 0 0) 0 in
    let looked : ℕ → Bool = λ p. get_or table (get_or a p 0 * n + get_or a (following n p) 0) false in
    let e : list_all (λ x. ltb x n) a ≡ b = every-list (λ x. ltb x n) a 0 ∙ ap (λ m. every m (λ p. ltb (get_or a p 0) n)) h in
    same_after b (each_once n a && (s && every n (λ p. has_arc arcs (get_or a p 0) (get_or a (following n p) 0)))) (each_once n a && (s && every n looked)) (λ k.
    let below : (p : ℕ) → p < n → get_or a p 0 < n = λ p l. ltb-true (get_or a p 0) n (every-elim n (λ i. ltb (get_or a i 0) n) k p l) in
    ap (λ x. each_once n a && (s && x)) (every-same n (λ p. has_arc arcs (get_or a p 0) (get_or a (following n p) 0)) looked (λ p l. sym (t (get_or a p 0) (get_or a (following n p) 0) (below p l) (below (following n p) (mod_below (p + 1) n z))))))
    ∙ (let o = once-counted n a in let f = every-range n looked in cc)
