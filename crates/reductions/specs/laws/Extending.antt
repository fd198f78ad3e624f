-- How the solutions below follow from those above, row by row.
use Rattle.std.specs.Prelude.{◌≡◌, ℕ, zero, suc, ◌+◌, ◌/◌, ◌<◌, ◌≤◌, Bool, true, false, ◌&&◌, ◌||◌, List, [], ◌∷◌, ◌++◌, map, length, take, refl}
use Rattle.std.proofs.Common.{sym, ap, ap₂, ◌∙◌, ⊎_elim, add-zero, suc-add, get_or-take, arith, length-append, length-take}
use Rattle.std.proofs.Math.Seq.{take-append_seam}
use Rattle.std.specs.List.{All}
use Rattle.std.proofs.lemmas.List.Elements.{All-contains, All-map, All-weaker}
use Rattle.std.proofs.lemmas.Bool.{or_left, or_right, false≢true}
use Rattle.rows.specs.declared.kinds.Kind.{Kind}
use Rattle.rows.specs.Kinds.{has_length}
use Rattle.rows.specs.Literals.{truth_of}
use Rattle.rows.specs.Truth.{all_hold, holds, truths, valuation}
use Rattle.reductions.specs.Joints.{Follows, any_ending}
use Rattle.reductions.specs.Rules.{Among, Exact, Rule, gives}
use Rattle.reductions.specs.laws.Each.{Each, all-from-each}
use Rattle.reductions.specs.laws.Helpers.{laws}

pub all-hold-append : (q : Kind) (v : ℕ → Bool) (rows others : List (List ℕ)) → all_hold q v (rows ++ others) ≡ (all_hold q v rows && all_hold q v others)
all-hold-append q v [] others = refl
all-hold-append q v (row ∷ rows) others = let e = all-hold-append q v rows others in grind laws

gives-append : (v : ℕ → Bool) (h : ℕ) (xs ys : List Bool) → gives v h (xs ++ ys) ≡ (gives v h xs && gives v (h + length xs) ys)
gives-append v h [] ys = rw add-zero
gives-append v h (x ∷ xs) ys = let e = gives-append v (h + 1) xs ys in grind laws

-- a row over n variables sees no others
module _ (n : ℕ) (v w : ℕ → Bool) (same : (i : ℕ) → i < n → v i ≡ w i) where
  truth-same : (l : ℕ) → l / 2 < n → truth_of v l ≡ truth_of w l
  unfolding truth_of
  truth-same l b = rw (same (l / 2) b)

  truths-same : (row : List ℕ) → Each (λ l. l / 2 < n) row → truths v row ≡ truths w row
  truths-same [] a = refl
  truths-same (l ∷ row) a = let e = truth-same l a.0 in let f = truths-same row a.1 in cc

-- what a list of truth values gives its last variables
gives-later : (x : Bool) (ys : List Bool) (i : ℕ) (zs : List Bool) → gives (valuation (x ∷ ys)) (suc i) zs ≡ gives (valuation ys) i zs
gives-later x ys i [] = refl
gives-later x ys i (z ∷ zs) = rw (suc-add i 1, gives-later x ys (i + 1) zs)

all_given : (ys zs : List Bool) → length ys ≡ length zs → gives (valuation ys) 0 zs ≡ true → ys ≡ zs
all_given [] [] l g = refl
all_given [] (z ∷ zs) l g = absurd (omega arith)
all_given (y ∷ ys) [] l g = absurd (omega arith)
all_given (true ∷ ys) (true ∷ zs) l g = ap (λ (xs : List Bool). true ∷ xs) (all_given ys zs (omega arith) (sym (gives-later true ys 0 zs) ∙ g))
all_given (true ∷ ys) (false ∷ zs) l g = absurd (false≢true g)
all_given (false ∷ ys) (true ∷ zs) l g = absurd (false≢true g)
all_given (false ∷ ys) (false ∷ zs) l g = ap (λ (xs : List Bool). false ∷ xs) (all_given ys zs (omega arith) (sym (gives-later false ys 0 zs) ∙ g))

-- where the variables from n on are given their values, the list is its front and these
pub given : (n : ℕ) (ys zs : List Bool) → length ys ≡ n + length zs → gives (valuation ys) n zs ≡ true → ys ≡ take n ys ++ zs
given zero ys zs l g = all_given ys zs (omega arith) g
given (suc n) [] zs l g = absurd (omega arith)
given (suc n) (y ∷ ys) zs l g = ap (λ (xs : List Bool). y ∷ xs) (given n ys zs (omega arith) (sym (gives-later y ys n zs) ∙ g))

regroup : (a b c d : Bool) → (a && b) && (c && d) ≡ (a && c) && (b && d)
regroup true true c d = refl
regroup true false true d = refl
regroup true false false d = refl
regroup false b c d = refl

-- one more row: the test above gains that row, and the helpers its values
pub one_more : (t : Rule) → Exact t → (n h vars : ℕ) (below A : List Bool → Bool) (E : List Bool → List Bool) (row : List ℕ) → has_length t.above (length row) ≡ true → Each (λ l. l / 2 < n) row → n ≤ vars → ((xs : List Bool) → length xs ≡ n → n + length (E xs) ≡ h) → Follows n vars below A E → Follows n vars (λ ys. below ys && all_hold t.below (valuation ys) (t.rows row h)) (λ xs. A xs && holds t.above (valuation xs) row) (λ xs. E xs ++ t.values (truths (valuation xs) row))
one_more t x n h vars below A E row k b low size follows ys l =
    let xs = take n ys in
    let f = truths-same n (valuation ys) (valuation xs) (λ i b. sym (get_or-take n ys i false b)) row b in
    rw (x.exact (valuation ys) row h k, follows ys l, gives-append (valuation ys) n (E xs) (t.values (truths (valuation xs) row)), size xs (omega (arith, length-take n ys)), f)
    (regroup (A xs) (gives (valuation ys) n (E xs)) (holds t.above (valuation xs) row) (gives (valuation ys) h (t.values (truths (valuation xs) row))))

-- the rows below are over the variables so far and the new helpers
pub over-helpers : (t : Rule) → Exact t → (n h : ℕ) (row : List ℕ) → n ≤ h → Each (λ l. l / 2 < n) row → All (All (λ l. l / 2 < h + t.helpers (length row))) (t.rows row h)
over-helpers t x n h row low b =
    let m = t.helpers (length row) in
    let own = map (λ l. l / 2) row in
    All-weaker (All (λ l. Among row h m (l / 2))) (All (λ l. l / 2 < h + m))
    (All-weaker (λ l. Among row h m (l / 2)) (λ l. l / 2 < h + m)
    (λ l a. ⊎_elim (λ i. let c = All-contains (λ i. i < n) own (l / 2) (All-map (λ i. i < n) (λ l. l / 2) row (all-from-each (λ l. l / 2 < n) row b)) i in omega arith) (λ i. i.1) a))
    (t.rows row h) (x.variables row h)

-- some ending of a list makes it pass below exactly when the list passes above
any-same : (k : ℕ) (f g : List Bool → Bool) → ((hs : List Bool) → length hs ≡ k → f hs ≡ g hs) → any_ending k f ≡ any_ending k g
any-same zero f g e = e [] refl
any-same (suc k) f g e = ap₂ ◌||◌ (any-same k (λ xs. f (true ∷ xs)) (λ xs. g (true ∷ xs)) (λ hs l. e (true ∷ hs) (omega arith))) (any-same k (λ xs. f (false ∷ xs)) (λ xs. g (false ∷ xs)) (λ hs l. e (false ∷ hs) (omega arith)))

any-always : (k : ℕ) → any_ending k (λ hs. true) ≡ true
any-always zero = refl
any-always (suc k) = or_left _ _ (any-always k)

any-never : (k : ℕ) → any_ending k (λ hs. false) ≡ false
any-never zero = refl
any-never (suc k) = let e = any-never k in ap₂ ◌||◌ e e

any-given : (k : ℕ) (zs : List Bool) → length zs ≤ k → any_ending k (λ hs. gives (valuation hs) 0 zs) ≡ true
any-given k [] l = any-always k
any-given zero (z ∷ zs) l = absurd (omega arith)
any-given (suc k) (true ∷ zs) l = or_left _ _ (any-same k _ _ (λ hs _. gives-later true hs 0 zs) ∙ any-given k zs (omega arith))
any-given (suc k) (false ∷ zs) l = or_right _ _ (any-same k _ _ (λ hs _. gives-later false hs 0 zs) ∙ any-given k zs (omega arith))

gives-past : (xs hs zs : List Bool) → gives (valuation (xs ++ hs)) (length xs) zs ≡ gives (valuation hs) 0 zs
gives-past [] hs zs = refl
gives-past (x ∷ xs) hs zs = gives-later x (xs ++ hs) (length xs) zs ∙ gives-past xs hs zs

pub above : (n k : ℕ) (below A : List Bool → Bool) (E : List Bool → List Bool) → Follows n (n + k) below A E → (xs : List Bool) → length xs ≡ n → length (E xs) ≤ k → any_ending k (λ hs. below (xs ++ hs)) ≡ A xs
above n k below A E f xs l s =
    any-same k (λ hs. below (xs ++ hs)) (λ hs. A xs && gives (valuation hs) 0 (E xs))
    (λ hs m. let e : take n (xs ++ hs) ≡ xs = rw (← l) (take-append_seam xs hs) in f (xs ++ hs) (omega (arith, length-append xs hs)) ∙ rw (e, ← l) (ap (λ b. A xs && b) (gives-past xs hs (E xs))))
    ∙ elim (A xs) as (λ a. any_ending k (λ hs. a && gives (valuation hs) 0 (E xs)) ≡ a) [ true ↦ any-given k (E xs) s | false ↦ any-never k ]
