-- A joint: what the solver below is, seen from above.
use Rattle.std.specs.Prelude.{◌≡◌, ℕ, zero, suc, ◌+◌, ◌-◌, ◌<◌, ◌≤◌, Bool, true, false, not, ◌&&◌, ◌⊎◌, List, [], ◌∷◌, ◌++◌, map, length, take, drop, Some, None, Option, ◌==◌, nat_le, slice_index, refl}
use Rattle.std.proofs.Common.{sym, subst, ◌∙◌, inl, inr, ⊎_elim, arith, zero-mul, take-append-drop, length-drop}
use Rattle.std.proofs.Math.Path.{ap}
use mathlib.Core.List.Memᴰ
use Rattle.std.specs.List.{All, range_with_len}
use Rattle.std.specs.Option.{option_map}
use Rattle.std.proofs.lemmas.List.Elements.{All-cons, All-map, All-weaker}
use Rattle.std.proofs.lemmas.Bool.{or_cases, or_left, or_right, and_parts, and_from, eq-eqb, eqb-true}
use Rattle.std.proofs.lemmas.Bool.Decides.{nat_tests}
use Rattle.std.proofs.lemmas.List.{take_at, map_push, length-take-le}
use Rattle.rows.specs.declared.stops.Fault.{Fault}
use Rattle.rows.specs.declared.stops.Stop.TheVariants.{Joint as Unfit, Big}
use Rattle.rows.specs.Stops.{deeper, stop_if, ◌then_if◌}
use Rattle.rows.specs.Bills.{counts_within, shortest}
use Rattle.rows.specs.Firsts.{first_failing}
use Rattle.rows.specs.Kinds.{kind_number, lengths}
use Rattle.rows.specs.Literals.{within}
use Rattle.solver.specs.Calls.{Drew, Ended, Fixed}
use Rattle.solver.specs.Laws.{Apart, Lawful, Limited, OneToOne}
use Rattle.solver.specs.Meaning.{Meaning}
use Rattle.solver.proofs.Aparts.{all-at, apart-map}
use Rattle.reductions.specs.Bills.{bill_below, charged, helped}
use Rattle.reductions.specs.Joints.{Joined, any_ending, reduced, solves_above}
use Rattle.reductions.specs.Rules.{Rule}
use Rattle.reductions.specs.laws.Charging.{owed-none}
use Rattle.reductions.specs.laws.Each.{Each}
use Rattle.reductions.specs.laws.Extending as extending

ending : (k : ℕ) (f : List Bool → Bool) (hs : List Bool) → length hs ≡ k → f hs ≡ true → any_ending k f ≡ true
ending zero f [] e t = t
ending zero f (x ∷ hs) e t = absurd (omega arith)
ending (suc k) f [] e t = absurd (omega arith)
ending (suc k) f (true ∷ hs) e t = or_left _ _ (ending k (λ xs. f (true ∷ xs)) hs (omega arith) t)
ending (suc k) f (false ∷ hs) e t = or_right _ _ (ending k (λ xs. f (false ∷ xs)) hs (omega arith) t)

ended : (k : ℕ) (f : List Bool → Bool) → any_ending k f ≡ true → (hs : List Bool) × (length hs ≡ k) × (f hs ≡ true)
ended zero f t = ([], refl, t)
ended (suc k) f t = ⊎_elim (λ a. let (hs, l, e) = ended k (λ xs. f (true ∷ xs)) a in (true ∷ hs, ap suc l, e)) (λ a. let (hs, l, e) = ended k (λ xs. f (false ∷ xs)) a in (false ∷ hs, ap suc l, e)) (or_cases _ _ t)

-- where nothing is owed above, nothing is owed below, and no helper is to come
pub nothing : (b : List ℕ) → Each (λ c. c ≡ 0) b → (t : Rule) (l j : ℕ) → charged t l j b ≡ 0
nothing [] z t l j = refl
nothing (c ∷ b) z t l j = let e = nothing b z.1 t l (j + 1) in rw (z.0, zero-mul) (omega arith)

pub nothing-helped : (b : List ℕ) → Each (λ c. c ≡ 0) b → (t : Rule) (j : ℕ) → helped t j b ≡ 0
nothing-helped [] z t j = refl
nothing-helped (c ∷ b) z t j = let e = nothing-helped b z.1 t (j + 1) in rw (z.0, zero-mul) (omega arith)

none-of-map : (f : ℕ → ℕ) → ((l : ℕ) → f l ≡ 0) → (i : ℕ) (ls : List ℕ) → first_failing (λ c. c == 0) i (map f ls) ≡ None
none-of-map f z i [] = refl
none-of-map f z i (l ∷ ls) = rw (z l) (none-of-map f z (i + 1) ls)

pub ready-below : (t : Rule) (b : List ℕ) → shortest b ≡ None → shortest (bill_below t b) ≡ None
unfolding bill_below
ready-below t b e = none-of-map (λ l. charged t l 0 b) (λ l. nothing b (owed-none 0 b e) t l 0) 0 (range_with_len 0 lengths)

some-above : (o : Option (List Bool)) (n : ℕ) (xs : List Bool) → option_map (take n) o ≡ Some xs → (ys : List Bool) × (o ≡ Some ys) × (take n ys ≡ xs)
some-above None n xs e = grind arith
some-above (Some ys) n xs e = (ys, refl, cc)

owes-at : (i : ℕ) (b : List ℕ) (k : ℕ) → first_failing (λ c. c == 0) i b ≡ Some k → (l : ℕ) × (0 < slice_index b l)
owes-at i [] k e = grind arith
owes-at i (suc c ∷ b) k e = (0, omega arith)
owes-at i (zero ∷ b) k e = let (l, p) = owes-at (i + 1) b k e in (suc l, p)

module _ (t : Rule) (n h : ℕ) (b : List ℕ) (m : Meaning) (w : Lawful m) (j : Joined t n h b m) where
  front : (ys : List Bool) → m.solves ys ≡ true → length (take n ys) ≡ n
  front ys s =
      let e : length ys ≡ m.vars = w.sized ys s in
      let v = j.vars in
      let o = j.low in
      length-take-le n ys (omega arith)

  -- a solution below begins with one above
  above : (ys : List Bool) → m.solves ys ≡ true → solves_above n m (take n ys) ≡ true
  above ys s =
      let e : length ys ≡ m.vars = w.sized ys s in
      let v = j.vars in
      let o = j.low in
      and_from _ _ (eq-eqb _ _ (front ys s)) (ending (m.vars - n) (λ hs. m.solves (take n ys ++ hs)) (drop n ys) (simp length-drop (omega arith)) (rw take-append-drop s))

  -- a solution above extends to one below
  below : (xs : List Bool) → solves_above n m xs ≡ true → (ys : List Bool) × (m.solves ys ≡ true) × (take n ys ≡ xs)
  below xs s =
      let (l, a) = and_parts _ _ s in
      let (hs, k, e) = ended (m.vars - n) (λ hs. m.solves (xs ++ hs)) a in
      (xs ++ hs, e, take_at xs hs n (eqb-true _ _ l))

  -- once nothing is owed, a solution below is what its front makes it
  whole : shortest b ≡ None → (ys : List Bool) → m.solves ys ≡ true → ys ≡ take n ys ++ j.values (take n ys)
  whole e ys s =
      let none = nothing-helped b (owed-none 0 b e) t 0 in
      let v = j.vars in
      let l = w.sized ys s in
      let z = j.size (take n ys) (front ys s) in
      extending.given n ys (j.values (take n ys)) (omega arith) (and_parts _ _ (sym (j.follows ys l) ∙ s)).1

  only : shortest b ≡ None → (ys zs : List Bool) → m.solves ys ≡ true → m.solves zs ≡ true → take n ys ≡ take n zs → ys ≡ zs
  only e ys zs p q same = whole e ys p ∙ ap (λ xs. xs ++ j.values xs) same ∙ sym (whole e zs q)

  solves-same : (m' : Meaning) → Fixed m m' → m'.solves ≡ m.solves → solves_above n m' ≡ solves_above n m
  solves-same m' f e = rw (f.vars, e) refl

  pub drew : (m' : Meaning) → shortest b ≡ None → Fixed m m' → Drew m m' → Drew (reduced t n b m) (reduced t n b m')
  drew m' e f r = record {
    solves = solves-same m' f r.solves;
    list = take n r.list;
    solution = above r.list r.solution;
    undrawn = λ d.
        let (zs, i, same) = Memᴰ.of_map (take n) m.drawn d in
        r.undrawn (Memᴰ.cast (only e r.list zs r.solution (all-at (λ xs. m.solves xs ≡ true) m.drawn w.sure i) (sym same)) i);
    drawn = ap (map (take n)) r.drawn ∙ map_push (take n) m.drawn r.list;
    current = ap (option_map (take n)) r.current;
  }

  pub none-left : (m' : Meaning) → Fixed m m' → Ended m m' → Ended (reduced t n b m) (reduced t n b m')
  none-left m' f r = record {
    solves = solves-same m' f r.solves;
    all = λ xs s. let (ys, p, k) = below xs s in Memᴰ.cast (sym k) (Memᴰ.map (take n) (r.all ys p));
    drawn = ap (map (take n)) r.drawn;
    current = ap (option_map (take n)) r.current;
  }

  drawn-solve : All (λ xs. solves_above n m xs ≡ true) (map (take n) m.drawn)
  drawn-solve = All-map (λ xs. solves_above n m xs ≡ true) (take n) m.drawn (All-weaker (λ ys. m.solves ys ≡ true) (λ ys. solves_above n m (take n ys) ≡ true) above m.drawn w.sure)

  drawn-apart : (o : Option ℕ) → shortest b ≡ o → Apart (map (take n) m.drawn)
  drawn-apart None e = apart-map (take n) m.drawn (λ xs ys p q same. only e xs ys (all-at (λ xs. m.solves xs ≡ true) m.drawn w.sure p) (all-at (λ xs. m.solves xs ≡ true) m.drawn w.sure q) same) w.apart
  drawn-apart (Some k) e = let (l, p) = owes-at 0 b k e in rw (j.waits l p) tt

  -- the laws that every sound solver keeps
  pub lawful : Lawful (reduced t n b m)
  lawful = record {
    sized = λ xs s. eqb-true _ _ (and_parts _ _ s).0;
    narrow = let v = j.vars in let o = j.low in let r = w.narrow in omega arith;
    sure = drawn-solve;
    apart = drawn-apart (shortest b) refl;
    waits = λ k e. let (l, p) = owes-at 0 b k e in rw (j.waits l p) refl;
    last = λ xs e. let (ys, i, k) = some-above m.current n xs e in let (earlier, d) = w.last ys i in (map (take n) earlier, ap (map (take n)) d ∙ map_push (take n) earlier ys ∙ ap (λ zs. map (take n) earlier ++ (zs ∷ [])) k);
    chained = (refl, w.chained);
    matched = λ e. All-cons OneToOne (record { above = solves_above n m; below = m.solves }) m.joints
        (record {
          extends = λ xs s. let (ys, p, k) = below xs s in (ys, p, ap (λ i. take i ys) (eqb-true _ _ (and_parts _ _ s).0) ∙ k);
          only = λ xs ys zs s p q k l. let f = eqb-true _ _ (and_parts _ _ s).0 in only e ys zs p q (ap (λ i. take i ys) (sym f) ∙ k ∙ sym l ∙ ap (λ i. take i zs) f);
        })
        (w.matched (ap shortest j.owed ∙ ready-below t b e));
  }

-- what is taken is within the limits, and what is not is refused by stop 7 or 8
refused-own : (u : Bool) (v : Bool) (r : Option Fault) (f : Fault) → (stop_if u Unfit then_if (stop_if v Big then_if r)) ≡ Some f → ((g : Fault) → r ≡ Some g → (g.stop ≡ Unfit) ⊎ (g.stop ≡ Big)) → (f.stop ≡ Unfit) ⊎ (f.stop ≡ Big)
refused-own true v r f e g = inl (grind arith)
refused-own false true r f e g = inr (grind arith)
refused-own false false r f e g = g f e

refused-below : (o : Option Fault) (g : Fault) → option_map deeper o ≡ Some g → ((f : Fault) → o ≡ Some f → (f.stop ≡ Unfit) ⊎ (f.stop ≡ Big)) → (g.stop ≡ Unfit) ⊎ (g.stop ≡ Big)
refused-below None g e h = grind arith
refused-below (Some f) g e h = subst (λ s. (s ≡ Unfit) ⊎ (s ≡ Big)) (grind arith) (h f refl)

taken-own : (u : Bool) (n : ℕ) (w : Bool) (r : Option Fault) → (stop_if u Unfit then_if (stop_if (not (nat_le n within && w)) Big then_if r)) ≡ None → (n ≤ within) × (w ≡ true)
taken-own true n w r e = grind arith
taken-own false n true r e = (grind (arith, nat_tests), refl)
taken-own false n false r e = grind (arith, nat_tests)

pub limited : (t : Rule) (n : ℕ) (b : List ℕ) (m : Meaning) → Limited m → Limited (reduced t n b m)
limited t n b m l = record {
  taken = λ k bill e. taken-own (not (kind_number m.kind == kind_number t.below)) k (counts_within t.above 0 bill) (option_map deeper (m.stop (k + helped t 0 bill) (bill_below t bill))) e;
  refused = λ k bill f e. refused-own (not (kind_number m.kind == kind_number t.below)) (not (nat_le k within && counts_within t.above 0 bill)) (option_map deeper (m.stop (k + helped t 0 bill) (bill_below t bill))) f e
      (λ g d. refused-below (m.stop (k + helped t 0 bill) (bill_below t bill)) g d (l.refused (k + helped t 0 bill) (bill_below t bill)));
}
