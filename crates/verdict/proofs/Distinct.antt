-- Lists of which no two elements are equal, and how many elements they have.
use Rattle.std.proofs.Common.{◌≡◌, ◌≤◌, List, [], ◌∷◌, ◌++◌, map, length, sym, refl, ap, ◌∙◌, subst, ⊎_elim, arith}
use mathlib.Core.List.{Memᴰ}
use Rattle.std.specs.List.{All}
use Rattle.std.proofs.lemmas.List.Elements.{All-nil, All-cons, All-head, All-tail, All-weaker, All-map}
use Rattle.std.proofs.lemmas.List.{length-append, length-map}
use Rattle.solver.specs.Laws.{Apart}
use Rattle.solver.proofs.Aparts.{all-at, apart-map}

-- what holds of each holds of all
pub all-from-mem : {X : Type 0} (P : X → Type 0) (xs : List X) → ((x : X) → Memᴰ x xs → P x) → All P xs
all-from-mem P [] f = All-nil P
all-from-mem P (x ∷ xs) f = All-cons P x xs (f x (mathlib.Core.List.Memᴰ.head refl)) (all-from-mem P xs (λ y m. f y (mathlib.Core.List.Memᴰ.tail m)))

-- a list around an element of it
split_at : {X : Type 0} (x : X) (ys : List X) → Memᴰ x ys → (before after : List X) × (ys ≡ before ++ x ∷ after)
split_at x [] m = absurd (mathlib.Core.List.Memᴰ.not-nil m)
split_at {X} x (y ∷ ys) m =
    ⊎_elim {C = (before after : List X) × (y ∷ ys ≡ before ++ x ∷ after)}
    (λ (e : x ≡ y). ([], ys, ap (λ (z : X). z ∷ ys) (sym e)))
    (λ (n : Memᴰ x ys). let s = split_at x ys n in (y ∷ s.0, s.1, ap (λ (zs : List X). y ∷ zs) s.2))
    (mathlib.Core.List.Memᴰ.cases_cons m)

-- what is in a list, and is not the one element, is in the list without it
other-stays : {X : Type 0} (x y : X) (before after : List X) → Memᴰ y (before ++ x ∷ after) → (y ≡ x → ⊥) → Memᴰ y (before ++ after)
other-stays x y before after m ne =
    ⊎_elim {C = Memᴰ y (before ++ after)}
    (λ (l : Memᴰ y before). mathlib.Core.List.Memᴰ.append_left after l)
    (λ (r : Memᴰ y (x ∷ after)). ⊎_elim {C = Memᴰ y (before ++ after)} (λ (e : y ≡ x). absurd (ne e)) (λ (n : Memᴰ y after). mathlib.Core.List.Memᴰ.append_right before n) (mathlib.Core.List.Memᴰ.cases_cons r))
    (mathlib.Core.List.Memᴰ.append_cases before m)

-- distinct elements of a list are no more than it has
pub apart-few : {X : Type 0} (xs ys : List X) → Apart xs → All (λ x. Memᴰ x ys) xs → length xs ≤ length ys
apart-few [] ys d k = omega arith
apart-few {X} (x ∷ xs) ys d k =
    let s = split_at x ys (All-head (λ z. Memᴰ z ys) x xs k) in
    let stays = all-from-mem (λ y. Memᴰ y (s.0 ++ s.1)) xs (λ y m.
    other-stays x y s.0 s.1 (subst (λ (zs : List X). Memᴰ y zs) s.2 (all-at (λ z. Memᴰ z ys) xs (All-tail (λ z. Memᴰ z ys) x xs k) m)) (λ e. d.0 (mathlib.Core.List.Memᴰ.cast (sym e) m))) in
    let few = apart-few xs (s.0 ++ s.1) d.1 stays in
    let n = ap length s.2 in
    omega (arith, length-append s.0 s.1, length-append s.0 (x ∷ s.1))

-- a map that can be undone keeps elements distinct
pub apart-undone : {X Y : Type 0} (f : X → Y) (g : Y → X) (xs : List X) → All (λ x. g (f x) ≡ x) xs → Apart xs → Apart (map f xs)
apart-undone {X} f g xs k d =
    let back : (x : X) → Memᴰ x xs → g (f x) ≡ x = λ x m. all-at (λ z. g (f z) ≡ z) xs k m in
    apart-map f xs (λ x y m n e. sym (back x m) ∙ (ap g e ∙ back y n)) d

-- distinct elements that such a map takes into a list are no more than it has
pub matched-few : {X Y : Type 0} (f : X → Y) (g : Y → X) (xs : List X) (ys : List Y) → Apart xs → All (λ x. (g (f x) ≡ x) × Memᴰ (f x) ys) xs → length xs ≤ length ys
matched-few f g xs ys d k =
    let apart = apart-undone f g xs (All-weaker (λ x. (g (f x) ≡ x) × Memᴰ (f x) ys) (λ x. g (f x) ≡ x) (λ x p. p.0) xs k) d in
    let few = apart-few (map f xs) ys apart (All-map (λ y. Memᴰ y ys) f xs (All-weaker (λ x. (g (f x) ≡ x) × Memᴰ (f x) ys) (λ x. Memᴰ (f x) ys) (λ x p. p.1) xs k)) in
    omega (arith, length-map xs f)
