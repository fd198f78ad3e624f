-- Filling a table of arcs arc by arc.
use Rattle.std.proofs.Common.{◌≡◌, ℕ, ◌+◌, ◌*◌, ◌<◌, ◌≤◌, ◌≢◌, Bool, true, false, ◌&&◌, eqb, List, length, get_or, take, set, ap, ◌∙◌, ⊎_elim, arith, get_or-set_other, get_or-set_same, ltb, All}
use Rattle.std.proofs.lemmas.Nat.{mul-add-lt, same_from_place}
use Rattle.std.proofs.lemmas.List.Folds.{list_any_more}
use Rattle.std.proofs.lemmas.Bool.{cases_Bool, and_parts, eqb-true, ltb-true}
use Rattle.std.proofs.lemmas.Bool.Decides.{nat_tests}
use Rattle.std.specs.List.{list_all}
use Rattle.std.proofs.lemmas.List.Sums.{AllPass-from_list_all}
use Rattle.cycles.specs.Arcs.{Tells, has_arc, joins}
use Rattle.cycles.specs.declared.arcs.Arc.{Arc}

-- each of the arcs that join vertices is between two vertices
pub all-between : (n : ℕ) (arcs : List Arc) → list_all (joins n) arcs ≡ true → All (λ x. (x.from < n) × (x.to < n)) arcs
all-between n arcs e k d h =
    let x = get_or arcs k d in
    let p = and_parts (ltb x.from n) (ltb x.to n) (AllPass-from_list_all (joins n) arcs e k d h) in
    (ltb-true x.from n p.0, ltb-true x.to n p.1)

-- one arc more
pub told-more : (n : ℕ) (arcs : List Arc) (i : ℕ) (table : List Bool) (d : Arc) → n * n ≤ length table → i < length arcs → (get_or arcs i d).from < n → (get_or arcs i d).to < n → Tells n (take i arcs) table → Tells n (take (i + 1) arcs) (set table ((get_or arcs i d).from * n + (get_or arcs i d).to) true)
told-more n arcs i table d room here from_below to_below t u w h l =
    let x = get_or arcs i d in
    let p = x.from * n + x.to in
    let q = u * n + w in
    let more = list_any_more (λ y. eqb y.from u && eqb y.to w) arcs i d here in
    ⊎_elim {C = get_or (set table p true) q false ≡ has_arc (take (i + 1) arcs) u w}
    (λ (e : (eqb x.from u && eqb x.to w) ≡ true).
    let b = and_parts (eqb x.from u) (eqb x.to w) e in
    let f = eqb-true x.from u b.0 in
    let g = eqb-true x.to w b.1 in
    let k : p ≡ q = ap (λ j. j * n + x.to) f ∙ ap (λ j. u * n + j) g in
    let m : p < length table = omega (arith, mul-add-lt x.from n x.to n from_below to_below) in
    let s : get_or (set table p true) q false ≡ true = rw (← k) (get_or-set_same table p true false m) in
    grind (arith, nat_tests))
    (λ (e : (eqb x.from u && eqb x.to w) ≡ false).
    let k : q ≢ p = λ o. let b = same_from_place u w x.from x.to n l to_below o in grind (arith, nat_tests) in
    let s : get_or (set table p true) q false ≡ get_or table q false = get_or-set_other table p q true false k in
    let r = t u w h l in
    grind (arith, nat_tests))
    (cases_Bool (eqb x.from u && eqb x.to w))
