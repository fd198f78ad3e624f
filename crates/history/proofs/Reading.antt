-- Reading the current list value by value.
use Rattle.std.proofs.Common.{◌≡◌, ℕ, ◌+◌, ◌<◌, ◌≤◌, Bool, false, cond, ltb, List, [], ◌∷◌, ◌++◌, length, take, get_or, Some, None, Option, ap, ◌∙◌, sym, subst, arith}
use Rattle.std.proofs.lemmas.List.{take_more}
use Rattle.std.proofs.lemmas.Bool.Decides.{nat_tests}
use Rattle.solver.specs.Meaning.{lookup}

-- one value more
pub read-more : (o : Option (List Bool)) (items after : List Bool) (i : ℕ) (value : Bool) → lookup o i ≡ Some value → after ≡ items ++ value ∷ [] → ((xs : List Bool) → o ≡ Some xs → (i ≤ length xs) × (items ≡ take i xs)) → (xs : List Bool) → o ≡ Some xs → (i + 1 ≤ length xs) × (after ≡ take (i + 1) xs)
read-more o items after i value l e so xs is =
    let k : cond (ltb i (length xs)) (Some (get_or xs i false)) None ≡ Some value = subst (λ (q : Option (List Bool)). lookup q i ≡ Some value) is l in
    let below : i < length xs = grind (arith, nat_tests) in
    let same : get_or xs i false ≡ value = grind (arith, nat_tests) in
    (omega arith, e ∙ (ap (λ (ys : List Bool). ys ++ value ∷ []) (so xs is).1 ∙ sym (take_more xs i false below ∙ ap (λ (v : Bool). take i xs ++ v ∷ []) same)))
