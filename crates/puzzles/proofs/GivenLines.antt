-- The lines of givens.
use Rattle.std.proofs.Common.{◌≡◌, ℕ, true, ◌&&◌, eqb, ltb, List, [], ◌∷◌, map, length, get_or, sym, refl, ◌∙◌, arith}
use Rattle.std.specs.List.{list_all, All}
use Rattle.std.proofs.lemmas.List.Elements.{All-nil, All-cons}
use Rattle.std.proofs.lemmas.Bool.{and_parts, ltb-true}
use Rattle.std.proofs.lemmas.Bool.Decides.{nat_tests}
use Rattle.puzzles.specs.Givens.{all_given, fits, given_line}
use Rattle.puzzles.specs.Lines.{Inside, On, all_met, at}
use Rattle.puzzles.specs.declared.givens.Given.{Given}

-- they are met where each given's place has its value; a place past the list has value 0
pub given-lines-values : (a : List ℕ) (gs : List Given) → all_met a (map given_line gs) ≡ list_all (λ g. eqb (get_or a g.place 0) g.value) gs
given-lines-values a [] = refl
given-lines-values a (g ∷ gs) = let e = given-lines-values a gs in grind (arith, nat_tests)

-- every given stands where they are met and each given's place is in the list
pub given-lines-stand : (a : List ℕ) (gs : List Given) → all_given gs a ≡ (list_all (λ g. ltb g.place (length a)) gs && all_met a (map given_line gs))
given-lines-stand a [] = refl
given-lines-stand a (g ∷ gs) = let e = given-lines-stand a gs in grind (arith, nat_tests)

-- the places of givens that fit are on the board
pub fits-places : (size places : ℕ) (gs : List Given) → list_all (fits size places) gs ≡ true → list_all (λ g. ltb g.place places) gs ≡ true
fits-places size places [] e = refl
fits-places size places (g ∷ gs) e =
    let p = and_parts (fits size places g) (list_all (fits size places) gs) e in
    let f = fits-places size places gs p.1 in
    grind (arith, nat_tests)

-- so for givens that fit they are met, on a filled board, where every given stands
pub given-lines-met : (size places : ℕ) (a : List ℕ) (gs : List Given) → length a ≡ places → list_all (fits size places) gs ≡ true → all_met a (map given_line gs) ≡ all_given gs a
given-lines-met size places a gs n e = let f = fits-places size places gs e in sym (given-lines-stand a gs ∙ rw (n, f) refl)

-- givens that fit are on the board
pub given-lines-inside : (size places : ℕ) (gs : List Given) → list_all (fits size places) gs ≡ true → All (Inside size places) (map given_line gs)
given-lines-inside size places [] e = All-nil (Inside size places)
given-lines-inside size places (g ∷ gs) e =
    let p = and_parts (fits size places g) (list_all (fits size places) gs) e in
    let q = and_parts (ltb g.place places) (ltb g.value size) p.0 in
    All-cons (Inside size places) (given_line g) (map given_line gs) (All-cons (On size places) (at g.place g.value) [] (ltb-true g.place places q.0, ltb-true g.value size q.1) (All-nil (On size places))) (given-lines-inside size places gs p.1)
