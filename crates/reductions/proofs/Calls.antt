-- What each call of a reduction does, from what the call below did.
use Rattle.std.proofs.Common.{true≢false, ◌≡◌, ℕ, zero, suc, ◌+◌, ◌-◌, ◌/◌, ◌<◌, Bool, true, false, ◌&&◌, List, [], ◌∷◌, ◌++◌, map, length, take, replicate, is_ok, Some, None, Ok, Err, Result, ◌==◌, slice_index, slice_set, sym, refl, ◌∙◌, subst, ⊎_elim, arith, zero-add, length-append}
use Rattle.std.proofs.Math.Path.{ap, fun_ext}
use Rattle.std.proofs.Math.Bool.{and_assoc}
use Rattle.std.specs.List.{All}
use Rattle.std.specs.Option.{option_map}
use Rattle.std.proofs.lemmas.Bool.{cases_Bool, eq-eqb, eqb-true}
use Rattle.std.specs.Result.{MatchResult}
use Rattle.std.proofs.lemmas.List.{length-map}
use Rattle.std.proofs.lemmas.List.Elements.{All-weaker, All-same}
use Rattle.rows.specs.Bills.{shortest}
use Rattle.rows.specs.Kinds.{has_length, kind_number, lengths}
use Rattle.rows.specs.Stops.{deeper, here}
use Rattle.rows.specs.Literals.{truth_of}
use Rattle.rows.specs.Truth.{holds, truths, valuation}
use Rattle.rows.specs.declared.kinds.Kind.{Kind}
use Rattle.rows.specs.declared.stops.Fault.{Fault}
use Rattle.rows.specs.declared.stops.Stop.TheVariants.{Joint as Unfit}
use Rattle.solver.specs.declared.draws.Drawn.{Drawn}
use Rattle.solver.specs.declared.draws.Drawn.TheVariants.{Found, Exhausted}
use Rattle.solver.specs.Calls.{Draws, Fixed, Opened, Posted, rewound}
use Rattle.solver.specs.Laws.{Fresh, Lawful}
use Rattle.solver.specs.Meaning.{Meaning}
use Rattle.solver.specs.Stops.{draw_stop, post_stop}
use Rattle.solver.proofs.Refusals.{Accepted, accepted, ready}
use Rattle.reductions.specs.Bills.{bill_below, helped, own_stop}
use Rattle.reductions.specs.Joints.{Follows, Joined, Passed, Takes, joint_stop, reduced, solves_above}
use Rattle.reductions.specs.Rules.{Exact, Rule, lengths_below}
use Rattle.reductions.specs.laws.Charging.{helped-less, is-below, less-below, owed-none, room-below}
use Rattle.reductions.specs.laws.Each.{Each, all-from-each, each-from-all, each-of-map}
use Rattle.reductions.specs.laws.Extending as extending
use Rattle.reductions.specs.laws.Joining.{drew, none-left, nothing, nothing-helped, ready-below}
use Rattle.reductions.proofs.Passing.{wide-none}

and-true : (a : Bool) → (a && true) ≡ a
and-true true = refl
and-true false = refl

-- the solutions above are those that the test passes
tested : (t : Rule) (n h : ℕ) (b : List ℕ) (m : Meaning) (j : Joined t n h b m) (xs : List Bool) → solves_above n m xs ≡ (length xs == n && j.test xs)
tested t n h b m j xs =
    ⊎_elim (λ l.
    let v = j.vars in
    let o = j.low in
    let z = j.size xs (eqb-true _ _ l) in
    let k : m.vars ≡ n + (m.vars - n) = omega arith in
    let f : Follows n (n + (m.vars - n)) m.solves j.test j.values = rw (← k) j.follows in
    ap (λ a. (length xs == n) && a) (extending.above n (m.vars - n) m.solves j.test j.values f xs (eqb-true _ _ l) (omega arith)))
    (λ l. rw l refl) (cases_Bool (length xs == n))

nothing-owed : (b : List ℕ) → Each (λ c. c ≡ 0) b → (k : ℕ) → 0 < slice_index b k → ⊥
nothing-owed [] z k p = omega arith
nothing-owed (c ∷ b) z zero p = let e = z.0 in omega arith
nothing-owed (c ∷ b) z (suc k) p = nothing-owed b z.1 k p

-- what a joint keeps stands as long as the solutions and what is owed below stand
pub drawn-on : (t : Rule) (n h : ℕ) (b : List ℕ) (m m' : Meaning) → shortest b ≡ None → Fixed m m' → m'.solves ≡ m.solves → Joined t n h b m → Joined t n h b m'
drawn-on t n h b m m' r f s j = record {
  kind = λ i d. f.kind ∙ j.kind i d;
  owed = f.owed ∙ j.owed;
  waits = λ i d. absurd (nothing-owed b (owed-none 0 b r) i d);
  vars = f.vars ∙ j.vars;
  low = j.low;
  test = j.test;
  values = j.values;
  size = j.size;
  follows = rw (s, f.vars) j.follows;
}

pub joined-rewound : (t : Rule) (n h : ℕ) (b : List ℕ) (m : Meaning) → Joined t n h b m → Joined t n h b (rewound m)
joined-rewound t n h b m j = record { kind = j.kind; owed = j.owed; waits = λ i d. refl; vars = j.vars; low = j.low; test = j.test; values = j.values; size = j.size; follows = j.follows }

-- an accepted open below
module _ (t : Rule) (n : ℕ) (b : List ℕ) (m' : Meaning) (q : m'.kind ≡ t.below) (o : Opened m' (n + helped t 0 b) (bill_below t b)) where
  pub opened : Joined t n n b m'
  opened = record {
    kind = λ i d. q;
    owed = o.owed;
    waits = λ i d. o.drawn;
    vars = o.vars;
    low = omega arith;
    test = λ xs. true;
    values = λ xs. [];
    size = λ xs l. omega arith;
    follows = λ ys l. rw o.solves (eq-eqb (length ys) (n + helped t 0 b) (l ∙ o.vars));
  }

  pub opened-above : Opened (reduced t n b m') n b
  unfolding opened
  opened-above = record {
    vars = refl;
    owed = refl;
    solves = fun_ext (λ xs. tested t n n b m' opened xs ∙ and-true (length xs == n));
    drawn = ap (map (take n)) o.drawn;
    current = ap (option_map (take n)) o.current;
  }

-- a post
module _ (t : Rule) (x : Exact t) (n h : ℕ) (b : List ℕ) (m : Meaning) (j : Joined t n h b m) (row : List ℕ) (none : post_stop t.above n b row ≡ None) where
  c : Accepted t.above n b row
  c = accepted t.above n b row none

  wide : Each (λ l. l / 2 < n) row
  wide = wide-none n 0 row c.wide

  paid : helped t 0 (slice_set b (length row) (slice_index b (length row) - 1)) + t.helpers (length row) ≡ helped t 0 b
  paid = helped-less t b (length row) c.owes

  pub takes : Takes m (t.rows row h)
  takes = record {
    long = subst (λ q. All (λ r. has_length q (length r) ≡ true) (t.rows row h)) (sym (j.kind (length row) c.owes))
        (all-from-each (λ r. has_length t.below (length r) ≡ true) (t.rows row h) (each-of-map (λ k. has_length t.below k ≡ true) length (t.rows row h)
        (each-from-all (λ k. has_length t.below k ≡ true) (map length (t.rows row h)) (All-same (λ k. has_length t.below k ≡ true) _ (lengths_below t (length row)) (x.lengths row h) (x.fits (length row) c.fits)))));
    wide = All-weaker (All (λ l. l / 2 < h + t.helpers (length row))) (All (λ l. l / 2 < m.vars)) (All-weaker (λ l. l / 2 < h + t.helpers (length row)) (λ l. l / 2 < m.vars) (λ l i. let z = paid in let v = j.vars in omega arith)) (t.rows row h) (extending.over-helpers t x n h row j.low wide);
    room = λ l. rw (j.owed, x.lengths row h) (room-below t x b (length row) c.fits c.owes l);
  }

  module _ (m' : Meaning) (q : m'.kind ≡ m.kind) (p : Passed m m' (t.rows row h)) where
    next-size : (xs : List Bool) → length xs ≡ n → n + length (j.values xs ++ t.values (truths (valuation xs) row)) ≡ h + t.helpers (length row)
    next-size xs l =
        let z = j.size xs l in
        let e = x.helpers (truths (valuation xs) row) ∙ ap t.helpers (length-map row (truth_of (valuation xs))) in
        omega (arith, length-append (j.values xs) (t.values (truths (valuation xs) row)))

    pub posted : Joined t n (h + t.helpers (length row)) (slice_set b (length row) (slice_index b (length row) - 1)) m'
    posted =
        let e = paid in
        let v = j.vars in
        let o = j.low in
        let w = p.vars in
        record {
          kind = λ i d. q ∙ j.kind (length row) c.owes;
          owed = p.owed ∙ rw (j.owed, x.lengths row h) (less-below t b (length row) c.owes);
          waits = λ i d. p.drawn ∙ j.waits (length row) c.owes;
          vars = omega arith;
          low = omega arith;
          test = λ xs. j.test xs && holds t.above (valuation xs) row;
          values = λ xs. j.values xs ++ t.values (truths (valuation xs) row);
          size = next-size;
          follows = λ ys l. p.solves ys ∙ rw (j.kind (length row) c.owes) (extending.one_more t x n h m.vars m.solves j.test j.values row c.fits wide (omega arith) j.size j.follows ys (l ∙ p.vars));
        }

    pub posted-above : Posted (reduced t n b m) (reduced t n (slice_set b (length row) (slice_index b (length row) - 1)) m') row
    unfolding posted
    posted-above = record {
      vars = refl;
      owed = refl;
      solves = fun_ext (λ xs. tested t n (h + t.helpers (length row)) (slice_set b (length row) (slice_index b (length row) - 1)) m' posted xs ∙ rw (tested t n h b m j xs) (sym (and_assoc (length xs == n) (j.test xs) (holds t.above (valuation xs) row))));
      drawn = ap (map (take n)) p.drawn;
      current = ap (option_map (take n)) p.current;
    }

-- a joint on a newly made solver
zeros-owed : (n : ℕ) → Each (λ (c : ℕ). c ≡ 0) (replicate n 0)
zeros-owed zero = tt
zeros-owed (suc n) = (refl, zeros-owed n)

pub zero-at : (n l : ℕ) → slice_index (replicate n 0) l ≡ 0
zero-at zero l = omega arith
zero-at (suc n) zero = refl
zero-at (suc n) (suc l) = zero-at n l

module _ (t : Rule) (m : Meaning) (f : Fresh m) where
  pub made : Joined t 0 0 (replicate lengths 0) m
  made =
      let z = zeros-owed lengths in
      let v = nothing-helped (replicate lengths 0) z t 0 in
      record {
        kind = λ k d. absurd (nothing-owed (replicate lengths 0) z k d);
        owed = f.owed ∙ is-below t (replicate lengths 0) (replicate lengths 0) refl (λ l h. zero-at lengths l ∙ sym (nothing (replicate lengths 0) z t l 0));
        waits = λ k d. f.drawn;
        vars = f.vars ∙ sym (zero-add _ ∙ v);
        low = omega arith;
        test = λ xs. true;
        values = λ xs. [];
        size = λ xs l. omega arith;
        follows = λ ys l. rw f.solves (eq-eqb (length ys) 0 (l ∙ f.vars));
      }

  pub made-fresh : Fresh (reduced t 0 (replicate lengths 0) m)
  unfolding made
  made-fresh = record {
    vars = refl;
    owed = refl;
    solves = fun_ext (λ xs. tested t 0 0 (replicate lengths 0) m made xs ∙ and-true (length xs == 0));
    drawn = ap (map (take 0)) f.drawn;
    current = ap (option_map (take 0)) f.current;
  }

-- a draw below is not refused once nothing is owed above
pub draws-below : (t : Rule) (n h : ℕ) (b : List ℕ) (m m' : Meaning) → Joined t n h b m → draw_stop b ≡ None → (r : Result Drawn Fault) → Draws m m' r → is_ok r ≡ true
draws-below t n h b m m' j e (Ok d) r = refl
draws-below t n h b m m' j e (Err f) r = absurd (let o : shortest m.owed ≡ None = ap shortest j.owed ∙ ready-below t b (ready b e) in let s = r.0 in grind arith)

-- a draw above is what the draw below is
pub draws-above : (t : Rule) (n h : ℕ) (b : List ℕ) (m m' : Meaning) → Lawful m → Joined t n h b m → draw_stop b ≡ None → Fixed m m' → (d : Drawn) → Draws m m' (Ok d) → Draws (reduced t n b m) (reduced t n b m') (Ok d)
draws-above t n h b m m' w j e f Found r = (e, drew t n h b m w j m' (ready b e) f r.1)
draws-above t n h b m m' w j e f Exhausted r = (e, none-left t n h b m w j m' f r.1)

pub solves-on : (m m' : Meaning) (d : Drawn) → Draws m m' (Ok d) → m'.solves ≡ m.solves
solves-on m m' Found r = r.1.solves
solves-on m m' Exhausted r = r.1.solves

-- what is carried up by `?`
pub ok-below : {X E F : Type 0} (r : Result X E) (q : Result X F) (P : E → Type 0) → MatchResult r (λ x. q ≡ Ok x) P → is_ok q ≡ is_ok r → (x : X) → q ≡ Ok x → r ≡ Ok x
ok-below (Ok y) q P k v x e = let z : y ≡ x = let d = sym k ∙ e in cc in ap Ok z
ok-below (Err f) q P k v x e = absurd (let z : true ≡ false = sym (ap is_ok e) ∙ v in true≢false z)

-- a row is not taken where nothing is owed
pub idle : (q : Kind) (n : ℕ) (b row : List ℕ) → post_stop q n b row ≡ None → shortest b ≡ None → ⊥
idle q n b row e r = nothing-owed b (owed-none 0 b r) (length row) (accepted q n b row e).owes

-- past the stops of the joint and the limits, open answers what the solver below does
pub stop-past : (t : Rule) (m : Meaning) (n : ℕ) (b : List ℕ) → m.kind ≡ t.below → own_stop t n b ≡ None → joint_stop t m n b ≡ option_map deeper (m.stop (n + helped t 0 b) (bill_below t b))
stop-past t m n b k o = rw (k, eq-eqb (kind_number t.below) (kind_number t.below) refl, o) refl

-- kinds that do not fit are the first stop
pub misfit : (t : Rule) (m : Meaning) (n : ℕ) (b : List ℕ) → (kind_number m.kind == kind_number t.below) ≡ false → joint_stop t m n b ≡ Some (here Unfit)
misfit t m n b e = rw e refl

pub open-taken : (t : Rule) (m : Meaning) (n : ℕ) (b : List ℕ) → m.kind ≡ t.below → own_stop t n b ≡ None → m.stop (n + helped t 0 b) (bill_below t b) ≡ None → joint_stop t m n b ≡ None
open-taken t m n b k o s = stop-past t m n b k o ∙ ap (option_map deeper) s
