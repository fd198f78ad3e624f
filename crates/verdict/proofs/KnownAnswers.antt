-- The known answers, one after another, and which of them are looked through.
use Rattle.std.proofs.Common.{rules, tests, ◌≡◌, ℕ, ◌+◌, ◌*◌, ◌/◌, ◌<◌, ◌≤◌, Bool, true, false, ◌||◌, List, [], ◌∷◌, map, length, get_or, take, drop, zero-add, refl, sym, ap, ◌∙◌, ⊎_elim, true≢false, arith}
use mathlib.Core.List.{Memᴰ}
use Rattle.std.specs.List.{list_any, range_with_len}
use Rattle.std.specs.Str.{bytes_eq}
use Rattle.std.proofs.lemmas.Bool.{cases_Bool}
use Rattle.std.proofs.lemmas.List.{take_all}
use Rattle.std.proofs.lemmas.List.Folds.{list_any_at, list_any_more}
use Rattle.std.proofs.lemmas.List.FromFn.{length-map-range_with_len, get_or-map-range_with_len, take-map-range_with_len}
use Rattle.std.proofs.lemmas.Slice.Eq.{bytes_eq-Decides}
use Rattle.verdict.specs.Verdicts.{among, known_answers}

-- how many there are
pub length-known : (places : ℕ) (bytes : List ℕ) → length (known_answers places bytes) ≡ length bytes / places
length-known places bytes = length-map-range_with_len _ 0 (length bytes / places)

-- the one of an index
known-at : (places : ℕ) (bytes : List ℕ) (i : ℕ) → i < length bytes / places → get_or (known_answers places bytes) i [] ≡ take places (drop (i * places) bytes)
known-at places bytes i h = get_or-map-range_with_len _ 0 (length bytes / places) i i [] h (zero-add i)

-- their number and one of them, as a loop over indices has them
module _ (places p n : ℕ) (bytes : List ℕ) (e : p ≡ places) (count : n ≡ length bytes / p) where
  pub counted : n ≡ length (known_answers places bytes)
  counted = count ∙ rw (e, length-known places bytes) refl

  pub turn : (i : ℕ) (a : List ℕ) → i < n → a ≡ take p (drop (i * p) bytes) → (i < length (known_answers places bytes)) × (a ≡ get_or (known_answers places bytes) i [])
  turn i a h read =
      let l : i < length bytes / places = rw (← e) (omega arith) in
      (rw (length-known places bytes) l, read ∙ (rw e refl ∙ sym (known-at places bytes i l)))

-- a test of what a function gives
any-mapped : {X Y : Type 0} (f : X → Y) (p : Y → Bool) (xs : List X) → list_any p (map f xs) ≡ list_any (λ x. p (f x)) xs
any-mapped f p [] = refl
any-mapped f p (x ∷ xs) = ap (λ t. p (f x) || t) (any-mapped f p xs)

-- a list is looked for among the first of them, by their indices
pub among-first : (places count : ℕ) (bytes a : List ℕ) → count ≤ length bytes / places → list_any (λ i. bytes_eq a (take places (drop (i * places) bytes))) (range_with_len 0 count) ≡ among a (take count (known_answers places bytes))
among-first places count bytes a h = sym (ap (among a) (take-map-range_with_len (λ i. take places (drop (i * places) bytes)) 0 (length bytes / places) count h) ∙ any-mapped _ (bytes_eq a) (range_with_len 0 count))

-- looking a list up in others, one by one
module _ (a : List ℕ) (ks : List (List ℕ)) where
  -- it is not among those so far, nor the next
  pub among-more : (i : ℕ) → i < length ks → among a (take i ks) ≡ false → bytes_eq a (get_or ks i []) ≡ false → among a (take (i + 1) ks) ≡ false
  among-more i h so_far next = list_any_more (bytes_eq a) ks i [] h ∙ rw (so_far, next) refl

  -- it is one of them
  pub among-found : (i : ℕ) → i < length ks → bytes_eq a (get_or ks i []) ≡ true → among a ks ≡ true
  among-found i h e = list_any_at (bytes_eq a) ks i [] h e

  -- it is none of all
  pub among-none : (n : ℕ) → n ≡ length ks → among a (take n ks) ≡ false → among a ks ≡ false
  among-none n h e = sym (ap (among a) (take_all n ks (omega arith))) ∙ e

-- what is among others is one of them
pub mem-among : (a : List ℕ) (ks : List (List ℕ)) → among a ks ≡ true → Memᴰ a ks
mem-among a [] e = absurd (true≢false (sym e))
mem-among a (k ∷ ks) e = ⊎_elim {C = Memᴰ a (k ∷ ks)}
    (λ (t : bytes_eq a k ≡ true). mathlib.Core.List.Memᴰ.head ((bytes_eq-Decides a k).0 t))
    (λ (f : bytes_eq a k ≡ false). mathlib.Core.List.Memᴰ.tail (mem-among a ks (sym (rw f refl) ∙ e)))
    (cases_Bool (bytes_eq a k))

-- and the other way round
pub among-mem : (a : List ℕ) (ks : List (List ℕ)) → Memᴰ a ks → among a ks ≡ true
among-mem a [] m = absurd (mathlib.Core.List.Memᴰ.not-nil m)
among-mem a (k ∷ ks) m = ⊎_elim {C = among a (k ∷ ks) ≡ true}
    (λ (e : a ≡ k). let t = (bytes_eq-Decides a k).1 e in rw t refl)
    (λ (n : Memᴰ a ks). let t = among-mem a ks n in rw t (search (rules, tests)))
    (mathlib.Core.List.Memᴰ.cases_cons m)
