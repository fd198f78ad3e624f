-- What holds of each element, by recursion along a list: proofs along a list give pairs, and `All` follows.
use Rattle.std.specs.Prelude.{ℕ, List, [], ◌∷◌, ◌++◌, map}
use Rattle.std.specs.List.{All}
use Rattle.std.proofs.lemmas.List.Elements.{All-nil, All-cons, All-head, All-tail}

abbrev pub Each : {X : Type 0} → (X → Type 0) → List X → Type 0
Each P [] = Unit {0}
Each P (x ∷ xs) = P x × Each P xs

module _ {X : Type 0} (P : X → Type 0) where
  pub each-append : (xs ys : List X) → Each P xs → Each P ys → Each P (xs ++ ys)
  each-append [] ys a b = b
  each-append (x ∷ xs) ys a b = (a.0, each-append xs ys a.1 b)

  pub each-front : (xs ys : List X) → Each P (xs ++ ys) → Each P xs
  each-front [] ys a = tt
  each-front (x ∷ xs) ys a = (a.0, each-front xs ys a.1)

  pub each-behind : (xs ys : List X) → Each P (xs ++ ys) → Each P ys
  each-behind [] ys a = a
  each-behind (x ∷ xs) ys a = each-behind xs ys a.1

  pub all-from-each : (xs : List X) → Each P xs → All P xs
  all-from-each [] a = All-nil P
  all-from-each (x ∷ xs) a = All-cons P x xs a.0 (all-from-each xs a.1)

  pub each-from-all : (xs : List X) → All P xs → Each P xs
  each-from-all [] a = tt
  each-from-all (x ∷ xs) a = (All-head P x xs a, each-from-all xs (All-tail P x xs a))

  pub each-map : {Y : Type 0} (f : Y → X) (ys : List Y) → Each (λ y. P (f y)) ys → Each P (map f ys)
  each-map f [] a = tt
  each-map f (y ∷ ys) a = (a.0, each-map f ys a.1)

  pub each-of-map : {Y : Type 0} (f : Y → X) (ys : List Y) → Each P (map f ys) → Each (λ y. P (f y)) ys
  each-of-map f [] a = tt
  each-of-map f (y ∷ ys) a = (a.0, each-of-map f ys a.1)

module _ {X : Type 0} (P : X → Type 0) (xs ys : List X) (a : All P (xs ++ ys)) where
  pub all-front : All P xs
  all-front = all-from-each P xs (each-front P xs ys (each-from-all P (xs ++ ys) a))

  pub all-behind : All P ys
  all-behind = all-from-each P ys (each-behind P xs ys (each-from-all P (xs ++ ys) a))

-- rows of which each holds of each literal
pub all-from-each-row : (P : ℕ → Type 0) (rows : List (List ℕ)) → Each (Each P) rows → All (All P) rows
all-from-each-row P [] a = All-nil (All P)
all-from-each-row P (row ∷ rows) a = All-cons (All P) row rows (all-from-each P row a.0) (all-from-each-row P rows a.1)
