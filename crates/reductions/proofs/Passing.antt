-- Rows posted below, one after another.
use Rattle.std.proofs.Common.{◌≡◌, ℕ, ◌+◌, ◌/◌, ◌<◌, ◌≤◌, Bool, true, false, List, [], ◌∷◌, ◌++◌, map, length, is_ok, None, Ok, Err, Result, slice_index, sym, refl, ap, ◌∙◌, subst, arith}
use Rattle.std.specs.List.{All}
use Rattle.std.proofs.lemmas.Bool.{false≢true}
use mathlib.Core.List.{append_assoc}
use Rattle.std.proofs.lemmas.List.{map-append}
use Rattle.rows.specs.declared.stops.Fault.{Fault}
use Rattle.rows.specs.Kinds.{has_length}
use Rattle.rows.specs.Truth.{first_wide, valuation}
use Rattle.solver.specs.Calls.{Kept, Posts}
use Rattle.solver.specs.Meaning.{Meaning}
use Rattle.solver.specs.Stops.{post_stop}
use Rattle.reductions.specs.Bills.{occurs}
use Rattle.reductions.specs.Joints.{Passed, Passes, Takes}
use Rattle.reductions.specs.laws.Charging.{at-less, less-append, occurs-append}
use Rattle.reductions.specs.laws.Each.{Each, all-behind, all-front, each-from-all}
use Rattle.reductions.specs.laws.Extending.{all-hold-append}
use Rattle.reductions.specs.laws.Helpers.{laws}

pub kept-same : (m : Meaning) → Kept m m
kept-same m = record { kind = refl; stop = refl }

pub kept-then : (m m' m'' : Meaning) → Kept m m' → Kept m' m'' → Kept m m''
kept-then m m' m'' a b = record { kind = b.kind ∙ a.kind; stop = b.stop ∙ a.stop }

-- no literal is too wide
pub none-wide : (n i : ℕ) (row : List ℕ) → Each (λ l. l / 2 < n) row → first_wide n i row ≡ None
none-wide n i [] a = refl
none-wide n i (l ∷ row) a = let e = none-wide n (i + 1) row a.1 in let f = a.0 in grind laws

pub wide-none : (n i : ℕ) (row : List ℕ) → first_wide n i row ≡ None → Each (λ l. l / 2 < n) row
wide-none n i [] e = tt
wide-none n i (l ∷ row) e = let b : l / 2 < n = grind laws in (b, wide-none n (i + 1) row (grind laws))

-- a row that is taken meets no stop
taken : (m : Meaning) (row : List ℕ) → Takes m (row ∷ []) → post_stop m.kind m.vars m.owed row ≡ None
taken m row t =
    let a = t.long 0 row (omega arith) in
    let b = none-wide m.vars 0 row (each-from-all (λ l. l / 2 < m.vars) row (t.wide 0 row (omega arith))) in
    let c = t.room (length row) in
    grind laws

pub passes-one : (m m' : Meaning) (row : List ℕ) (r : Result (Unit {0}) Fault) → Posts m m' row r → Passes m m' (row ∷ []) r
passes-one m m' row (Ok u) p t = (
  refl,
  record {
    vars = p.1.vars;
    owed = p.1.owed;
    solves = λ ys. ap (λ (f : List Bool → Bool). f ys) p.1.solves ∙ grind laws;
    drawn = p.1.drawn;
    current = p.1.current;
  },
)
passes-one m m' row (Err f) p t = absurd (let e = sym p.0 ∙ taken m row t in grind arith)

module _ (m : Meaning) (xs ys : List (List ℕ)) (t : Takes m (xs ++ ys)) where
  occurs-both : (l : ℕ) → occurs l (map length xs) + occurs l (map length ys) ≤ slice_index m.owed l
  occurs-both l = let a = t.room l in let b = ap (occurs l) (map-append length xs ys) ∙ occurs-append l (map length xs) (map length ys) in omega arith

  takes-front : Takes m xs
  takes-front = record {
    long = all-front (λ row. has_length m.kind (length row) ≡ true) xs ys t.long;
    wide = all-front (All (λ l. l / 2 < m.vars)) xs ys t.wide;
    room = λ l. let a = occurs-both l in omega arith;
  }

  takes-behind : (m' : Meaning) → Kept m m' → Passed m m' xs → Takes m' ys
  takes-behind m' k p = record {
    long = rw k.kind (all-behind (λ row. has_length m.kind (length row) ≡ true) xs ys t.long);
    wide = rw p.vars (all-behind (All (λ l. l / 2 < m.vars)) xs ys t.wide);
    room = λ l. rw p.owed (let a = occurs-both l in let b = at-less (map length xs) m.owed l in omega arith);
  }

passed-then : (m m' m'' : Meaning) (xs ys : List (List ℕ)) → Kept m m' → Passed m m' xs → Passed m' m'' ys → Passed m m'' (xs ++ ys)
passed-then m m' m'' xs ys k p q = record {
  vars = q.vars ∙ p.vars;
  owed = q.owed ∙ rw (p.owed, map-append length xs ys) (sym (less-append (map length xs) (map length ys) m.owed));
  solves = λ zs. q.solves zs ∙ rw (p.solves zs, k.kind, all-hold-append m.kind (valuation zs) xs ys) (grind laws);
  drawn = q.drawn ∙ p.drawn;
  current = q.current ∙ p.current;
}

-- of the rows that a row becomes, some are posted and others are left
pub record Going (m m' : Meaning) (rows left : List (List ℕ)) : Type 0 where
  pub so_far : List (List ℕ)
  pub whole : so_far ++ left ≡ rows
  pub passed : Takes m rows → Passed m m' so_far

pub going-start : (m : Meaning) (rows : List (List ℕ)) → Going m m rows rows
going-start m rows = record { so_far = []; whole = refl; passed = λ t. record { vars = refl; owed = refl; solves = λ ys. grind laws; drawn = refl; current = refl } }

module _ (m m' : Meaning) (k : Kept m m') (rows : List (List ℕ)) where
  takes-left : (left : List (List ℕ)) → Going m m' rows left → Takes m rows → Takes m' left
  takes-left left g t = takes-behind m g.so_far left (subst (Takes m) (sym g.whole) t) m' k (g.passed t)

  -- the literals that are left are of variables that there are
  pub variables-left : (left : List (List ℕ)) → Going m m' rows left → Takes m rows → All (All (λ l. l / 2 < m'.vars)) left
  variables-left left g t = (takes-left left g t).wide

  module _ (m'' : Meaning) (r : Result (Unit {0}) Fault) (xs : List (List ℕ)) (p : Passes m' m'' xs r) where
    pub going-more : (left : List (List ℕ)) → Going m m' rows (xs ++ left) → Going m m'' rows left
    going-more left g = record {
      so_far = g.so_far ++ xs;
      whole = append_assoc g.so_far xs left ∙ g.whole;
      passed = λ t. passed-then m m' m'' g.so_far xs k (g.passed t) (p (takes-front m' xs left (takes-left (xs ++ left) g t))).1;
    }

    -- where one of them is refused, they are not all taken
    pub going-stop : (left : List (List ℕ)) → Going m m' rows (xs ++ left) → is_ok r ≡ false → (s : Result (Unit {0}) Fault) → Passes m m'' rows s
    going-stop left g e s t = absurd (false≢true (sym e ∙ (p (takes-front m' xs left (takes-left (xs ++ left) g t))).0))

    pub going-last : Going m m' rows xs → Passes m m'' rows r
    going-last g t =
        let (e, q) = p (takes-left xs g t) in
        (e, subst (Passed m m'') g.whole (passed-then m m' m'' g.so_far xs k (g.passed t) q))

-- posts of single rows, one behind another
pub record Posting (m m' : Meaning) (rows left : List (List ℕ)) : Type 0 where
  pub kept : Kept m m'
  pub going : Going m m' rows left

pub posting-start : (m : Meaning) (rows : List (List ℕ)) → Posting m m rows rows
posting-start m rows = record { kept = kept-same m; going = going-start m rows }

module _ {m m' : Meaning} (m'' : Meaning) {rows : List (List ℕ)} (row : List ℕ) (left : List (List ℕ)) (a : Posting m m' rows (row ∷ left)) (r : Result (Unit {0}) Fault) (p : Posts m' m'' row r) where
  pub posting-more : Kept m' m'' → Posting m m'' rows left
  posting-more k = record { kept = kept-then m m' m'' a.kept k; going = going-more m m' a.kept rows m'' r (row ∷ []) (passes-one m' m'' row r p) left a.going }

  pub posting-stop : is_ok r ≡ false → (s : Result (Unit {0}) Fault) → Passes m m'' rows s
  posting-stop e s = going-stop m m' a.kept rows m'' r (row ∷ []) (passes-one m' m'' row r p) left a.going e s

pub posting-last : {m m' : Meaning} (m'' : Meaning) {rows : List (List ℕ)} (row : List ℕ) → Posting m m' rows (row ∷ []) → (r : Result (Unit {0}) Fault) → Posts m' m'' row r → Passes m m'' rows r
posting-last {m} {m'} m'' {rows} row a r p = going-last m m' a.kept rows m'' r (row ∷ []) (passes-one m' m'' row r p) a.going
