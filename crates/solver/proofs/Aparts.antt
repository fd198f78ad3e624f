-- Lists of which no two are equal.
use Rattle.std.proofs.Common.{◌≡◌, Bool, true, false, cond, List, [], ◌∷◌, ◌++◌, map, filter, sym, refl, ◌∙◌, subst, ⊎_elim, true≢false}
use mathlib.Core.List.{Memᴰ}
use Rattle.std.specs.List.{All}
use Rattle.std.proofs.lemmas.Bool.{cases_Bool}
use Rattle.std.proofs.lemmas.List.Elements.{All-head, All-tail}
use Rattle.solver.specs.Laws.{Apart}

module _ {X : Type 0} where
  pub all-at : (P : X → Type 0) (xs : List X) {x : X} → All P xs → Memᴰ x xs → P x
  all-at P [] a m = absurd (mathlib.Core.List.Memᴰ.not-nil m)
  all-at P (y ∷ xs) {x} a m = ⊎_elim (λ (e : x ≡ y). subst P (sym e) (All-head P y xs a)) (λ (k : Memᴰ x xs). all-at P xs (All-tail P y xs a) k) (mathlib.Core.List.Memᴰ.cases_cons m)

  module _ (f : X → Bool) where
    pub mem-kept : (xs : List X) {x : X} → f x ≡ true → Memᴰ x xs → Memᴰ x (filter f xs)
    mem-kept [] e m = absurd (mathlib.Core.List.Memᴰ.not-nil m)
    mem-kept (y ∷ xs) {x} e m = ⊎_elim
        (λ (a : f y ≡ true). rw a (⊎_elim (λ (d : x ≡ y). mathlib.Core.List.Memᴰ.head d) (λ (k : Memᴰ x xs). mathlib.Core.List.Memᴰ.tail (mem-kept xs e k)) (mathlib.Core.List.Memᴰ.cases_cons m)))
        (λ (a : f y ≡ false). rw a (⊎_elim (λ (d : x ≡ y). let z : true ≡ false = sym e ∙ subst (λ w. f w ≡ false) (sym d) a in absurd (true≢false z)) (λ (k : Memᴰ x xs). mem-kept xs e k) (mathlib.Core.List.Memᴰ.cases_cons m)))
        (cases_Bool (f y))

    pub of-kept : (xs : List X) {x : X} → Memᴰ x (filter f xs) → Memᴰ x xs
    of-kept [] = λ m. m
    of-kept (y ∷ xs) {x} = elim (f y) as (λ b. Memᴰ x (cond b (y ∷ filter f xs) (filter f xs)) → Memᴰ x (y ∷ xs)) [
      | true ↦ λ m. ⊎_elim (λ (d : x ≡ y). mathlib.Core.List.Memᴰ.head d) (λ (k : Memᴰ x (filter f xs)). mathlib.Core.List.Memᴰ.tail (of-kept xs k)) (mathlib.Core.List.Memᴰ.cases_cons m)
      | false ↦ λ m. mathlib.Core.List.Memᴰ.tail (of-kept xs m)
    ]

    pub apart-kept : (xs : List X) → Apart xs → Apart (filter f xs)
    apart-kept [] a = tt
    apart-kept (y ∷ xs) a = elim (f y) as (λ b. Apart (cond b (y ∷ filter f xs) (filter f xs))) [ true ↦ ((λ m. a.0 (of-kept xs m)), apart-kept xs a.1) | false ↦ apart-kept xs a.1 ]

  pub apart-append : (xs ys : List X) → Apart xs → Apart ys → ((x : X) → Memᴰ x xs → Memᴰ x ys → ⊥) → Apart (xs ++ ys)
  apart-append [] ys a b none = b
  apart-append (x ∷ xs) ys a b none = (
    (λ m. ⊎_elim (λ (k : Memᴰ x xs). a.0 k) (λ (k : Memᴰ x ys). none x (mathlib.Core.List.Memᴰ.head refl) k) (mathlib.Core.List.Memᴰ.append_cases xs m)),
    apart-append xs ys a.1 b (λ y m. none y (mathlib.Core.List.Memᴰ.tail m)),
  )

  pub apart-front : (xs ys : List X) → Apart (xs ++ ys) → Apart xs
  apart-front [] ys a = tt
  apart-front (x ∷ xs) ys a = ((λ m. a.0 (mathlib.Core.List.Memᴰ.append_left ys m)), apart-front xs ys a.1)

  -- what stands behind a front is not in it
  pub apart-behind : (xs ys : List X) {y : X} → Apart (xs ++ ys) → Memᴰ y ys → Memᴰ y xs → ⊥
  apart-behind [] ys a m k = mathlib.Core.List.Memᴰ.not-nil k
  apart-behind (x ∷ xs) ys {y} a m k = ⊎_elim (λ (e : y ≡ x). a.0 (mathlib.Core.List.Memᴰ.append_right xs (mathlib.Core.List.Memᴰ.cast (sym e) m))) (λ (j : Memᴰ y xs). apart-behind xs ys a.1 m j) (mathlib.Core.List.Memᴰ.cases_cons k)

module _ {X Y : Type 0} (g : X → Y) where
  pub mem-map : (xs : List X) {x : X} → Memᴰ x xs → Memᴰ (g x) (map g xs)
  mem-map xs m = mathlib.Core.List.Memᴰ.map g m

  -- where the map keeps the elements of a list apart
  pub apart-map : (xs : List X) → ((x y : X) → Memᴰ x xs → Memᴰ y xs → g x ≡ g y → x ≡ y) → Apart xs → Apart (map g xs)
  apart-map [] inj a = tt
  apart-map (x ∷ xs) inj a = (
    (λ m. let (y, k, e) = mathlib.Core.List.Memᴰ.of_map g xs m in a.0 (mathlib.Core.List.Memᴰ.cast (inj x y (mathlib.Core.List.Memᴰ.head refl) (mathlib.Core.List.Memᴰ.tail k) (sym e)) k)),
    apart-map xs (λ y z m k. inj y z (mathlib.Core.List.Memᴰ.tail m) (mathlib.Core.List.Memᴰ.tail k)) a.1,
  )
