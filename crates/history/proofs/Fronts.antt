-- A history and one moment more.
use Rattle.std.proofs.Common.{◌≡◌, ℕ, zero, suc, ◌+◌, ◌-◌, ◌<◌, Bool, true, false, cond, ◌||◌, List, [], ◌∷◌, ◌++◌, length, Some, None, Option, refl, ap, get_or, set, arith}
use Rattle.std.specs.List.{list_any}
use Rattle.std.specs.Option.{option_or}
use Rattle.std.proofs.lemmas.List.Folds.{list_any-append}
use Rattle.std.proofs.lemmas.Bool.Decides.{nat_tests}
use Rattle.rows.proofs.Tallies.{rows-push}
use Rattle.history.specs.Histories.{Moment, latest, less_rows, since}

-- what came after the latest that passes: nothing where it is the last
pick : {A : Type 0} (a b c : Bool) (s w : List A) (m : A) → cond (a || (b || (c || false))) (cond c [] (s ++ m ∷ [])) (w ++ m ∷ []) ≡ cond c [] (cond (a || b) s w ++ m ∷ [])
pick true b true s w m = refl
pick true b false s w m = refl
pick false true true s w m = refl
pick false true false s w m = refl
pick false false true s w m = refl
pick false false false s w m = refl

pub since-push : (p : Moment → Bool) (h : List Moment) (m : Moment) → since p (h ++ m ∷ []) ≡ cond (p m) [] (since p h ++ m ∷ [])
since-push p [] m = elim (p m) as (λ b. cond (b || false) [] (m ∷ []) ≡ cond b [] (m ∷ [])) [ true ↦ refl | false ↦ refl ]
since-push p (x ∷ h) m = rw (list_any-append p h (m ∷ []), since-push p h m) (pick (p x) (list_any p h) (p m) (since p h) (x ∷ h) m)

-- the latest that is found: the last, where it is found there
or-none : {X : Type 0} (o : Option X) → o ≡ option_or o None
or-none None = refl
or-none (Some x) = refl

or-assoc : {X : Type 0} (o p q : Option X) → option_or (option_or o p) q ≡ option_or o (option_or p q)
or-assoc None p q = refl
or-assoc (Some x) p q = refl

pub latest-push : {X : Type 0} (f : Moment → Option X) (h : List Moment) (m : Moment) → latest f (h ++ m ∷ []) ≡ option_or (f m) (latest f h)
latest-push f [] m = or-none (f m)
latest-push f (x ∷ h) m = rw (latest-push f h m) (or-assoc (f m) (latest f h) (f x))

-- a bill less no rows
pub less-none : (k : ℕ) (cs : List ℕ) → less_rows k cs [] ≡ cs
less-none k [] = refl
less-none k (c ∷ cs) = rw (less-none (k + 1) cs) (ap (λ (n : ℕ). n ∷ cs) (omega arith))

-- and less one row more: it changes nothing at longer lengths
less-short : (k : ℕ) (cs : List ℕ) (rows : List (List ℕ)) (row : List ℕ) → length row < k → less_rows k cs (rows ++ row ∷ []) ≡ less_rows k cs rows
less-short k [] rows row h = refl
less-short k (c ∷ cs) rows row h = rw (less-short (k + 1) cs rows row (omega arith), rows-push rows row k) (ap (λ (n : ℕ). n ∷ less_rows (k + 1) cs rows) (grind (arith, nat_tests)))

pub less-push : (k j : ℕ) (cs : List ℕ) (rows : List (List ℕ)) (row : List ℕ) → length row ≡ k + j → less_rows k cs (rows ++ row ∷ []) ≡ set (less_rows k cs rows) j (get_or (less_rows k cs rows) j 0 - 1)
less-push k j [] rows row e = refl
less-push k zero (c ∷ cs) rows row e = rw (less-short (k + 1) cs rows row (omega arith), rows-push rows row k) (ap (λ (n : ℕ). n ∷ less_rows (k + 1) cs rows) (grind (arith, nat_tests)))
less-push k (suc j) (c ∷ cs) rows row e = rw (less-push (k + 1) j cs rows row (omega arith), rows-push rows row k) (ap (λ (n : ℕ). n ∷ set (less_rows (k + 1) cs rows) j (get_or (less_rows (k + 1) cs rows) j 0 - 1)) (grind (arith, nat_tests)))
