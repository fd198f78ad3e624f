-- What a solver means after one call more is what the history with that call says.
use Rattle.std.proofs.Common.{◌≡◌, ℕ, ◌-◌, Bool, true, false, cond, ◌&&◌, eqb, List, [], ◌∷◌, ◌++◌, length, replicate, Some, None, Option, refl, sym, ap, ◌∙◌, get_or, set, arith}
use Rattle.std.specs.List.{flat_map}
use Rattle.std.specs.Option.{is_some, option_flatten, option_or, unwrap_or}
use Rattle.std.specs.Vec.{vec_items}
use Rattle.std.specs.Prelude.{Vec}
use Rattle.std.specs.Global.{Global}
use denote.Ref.{Bor}
use Rattle.std.proofs.lemmas.Grind.{flat_map-append}
use Rattle.std.proofs.lemmas.Bool.Decides.{nat_tests}
use Rattle.std.proofs.lemmas.List.{append-nil}
use Rattle.std.proofs.lemmas.List.Recursion.{and_push}
use Rattle.std.proofs.Math.Bool.{and_assoc}
use Rattle.rows.specs.declared.bills.Bill.{Bill}
use Rattle.rows.specs.declared.stops.Fault.{Fault}
use Rattle.rows.specs.Kinds.{lengths}
use Rattle.rows.specs.Truth.{all_hold, holds, valuation}
use Rattle.solver.specs.Calls.{Drew, Ended, Fixed, Kept, Opened, Posted, rewound}
use Rattle.solver.specs.Laws.{Fresh}
use Rattle.solver.specs.Meaning.{Meaning}
use Rattle.history.specs.declared.calls.Call.{Call}
use Rattle.history.specs.declared.calls.Call.TheVariants.{Open, Post, Next, Value, Rewind}
use Rattle.history.specs.declared.calls.Answer.TheVariants.{Accepted, Refused, Found, Exhausted, Valued}
use Rattle.history.specs.Histories.{Moment, Opening, begins, current, drawing, drawn, latest, leaving, opened, opening, owed, posted, posting, since}
use Rattle.history.specs.Promises.{Tells, solution}
use Rattle.history.proofs.Fronts.{latest-push, less-none, less-push, since-push}

-- a call that was refused, or that asked for a value, leaves no trace in a history
pub record Quiet (m : Moment) : Type 0 where
  pub opening : opening m.0 m.1 ≡ None
  pub posting : posting m.0 m.1 ≡ []
  pub drawing : drawing m.0 m.1 ≡ []
  pub begins : begins m.0 m.1 ≡ false
  pub leaving : leaving m.0 m.1 ≡ None

-- what is gathered since a moment, with one moment more
gathered : {X : Type 0} (f : Moment → List X) (b : Bool) (s : List Moment) (e : Moment) → flat_map f (cond b [] (s ++ e ∷ [])) ≡ cond b [] (flat_map f s ++ f e)
gathered f true s e = refl
gathered {X} f false s e = flat_map-append f s (e ∷ []) ∙ ap (λ (xs : List X). flat_map f s ++ xs) (append-nil (f e))

gathered-push : {X : Type 0} (f : Moment → List X) (p : Moment → Bool) (h : List Moment) (e : Moment) → flat_map f (since p (h ++ e ∷ [])) ≡ cond (p e) [] (flat_map f (since p h) ++ f e)
gathered-push f p h e = ap (flat_map f) (since-push p h e) ∙ gathered f (p e) (since p h) e

found : {X : Type 0} (f : Moment → Option X) (b : Bool) (s : List Moment) (e : Moment) → latest f (cond b [] (s ++ e ∷ [])) ≡ cond b None (option_or (f e) (latest f s))
found f true s e = refl
found f false s e = latest-push f s e

flattened : {X : Type 0} (b : Bool) (o : Option (Option X)) → option_flatten (cond b None o) ≡ cond b None (option_flatten o)
flattened true o = refl
flattened false o = refl

module _ (h : List Moment) (e : Moment) where
  -- what a history comes to with one moment more
  opened-push : opened (h ++ e ∷ []) ≡ unwrap_or (option_or (opening e.0 e.1) (latest (λ m. opening m.0 m.1) h)) (record { vars = 0; bill = replicate lengths 0 })
  opened-push = ap (λ (o : Option Opening). unwrap_or o (record { vars = 0; bill = replicate lengths 0 })) (latest-push (λ m. opening m.0 m.1) h e)

  posted-push : posted (h ++ e ∷ []) ≡ cond (is_some (opening e.0 e.1)) [] (posted h ++ posting e.0 e.1)
  posted-push = gathered-push (λ m. posting m.0 m.1) (λ m. is_some (opening m.0 m.1)) h e

  drawn-push : drawn (h ++ e ∷ []) ≡ cond (begins e.0 e.1) [] (drawn h ++ drawing e.0 e.1)
  drawn-push = gathered-push (λ m. drawing m.0 m.1) (λ m. begins m.0 m.1) h e

  current-push : current (h ++ e ∷ []) ≡ cond (begins e.0 e.1) None (option_flatten (option_or (leaving e.0 e.1) (latest (λ m. leaving m.0 m.1) (since (λ m. begins m.0 m.1) h))))
  current-push = ap option_flatten (ap (latest (λ m. leaving m.0 m.1)) (since-push (λ m. begins m.0 m.1) h e) ∙ found (λ m. leaving m.0 m.1) (begins e.0 e.1) (since (λ m. begins m.0 m.1) h) e) ∙ flattened (begins e.0 e.1) (option_or (leaving e.0 e.1) (latest (λ m. leaving m.0 m.1) (since (λ m. begins m.0 m.1) h)))

-- a newly made solver
pub tells-none : (m : Meaning) → Fresh m → Tells [] m
tells-none m f = record {
  vars = f.vars;
  owed = f.owed ∙ sym (less-none 0 (replicate lengths 0));
  solves = λ xs. ap (λ (g : List Bool → Bool). g xs) f.solves ∙ grind (arith, nat_tests);
  drawn = f.drawn;
  current = f.current;
}

module _ (h : List Moment) (m m' : Meaning) (t : Tells h m) where
  -- an accepted open
  pub tells-open : (n : ℕ) (bill : Bill) → Opened m' n bill.counts → Tells (h ++ (Open n bill, Accepted) ∷ []) m'
  tells-open n bill o = let e : Moment = (Open n bill, Accepted) in record {
    vars = o.vars ∙ sym (ap (λ (q : Opening). q.vars) (opened-push h e));
    owed = o.owed ∙ (sym (less-none 0 bill.counts) ∙ sym (rw (opened-push h e, posted-push h e) refl));
    solves = λ xs. ap (λ (g : List Bool → Bool). g xs) o.solves ∙ rw (opened-push h e, posted-push h e) (grind (arith, nat_tests));
    drawn = o.drawn ∙ sym (drawn-push h e);
    current = o.current ∙ sym (current-push h e);
  }

  -- an accepted post
  pub tells-post : (row : Bor (List ℕ)) → Kept m m' → Posted m m' row.now → Tells (h ++ (Post row, Accepted) ∷ []) m'
  tells-post row k q = let e : Moment = (Post row, Accepted) in record {
    vars = q.vars ∙ (t.vars ∙ sym (ap (λ (o : Opening). o.vars) (opened-push h e)));
    owed = q.owed ∙ (ap (λ (cs : List ℕ). set cs (length row.now) (get_or cs (length row.now) 0 - 1)) t.owed ∙ (sym (less-push 0 (length row.now) (opened h).bill (posted h) row.now (omega arith)) ∙ sym (rw (opened-push h e, posted-push h e) refl)));
    solves = λ xs.
        let v = valuation xs in
        let f : m'.solves xs ≡ (m.solves xs && holds m.kind v row.now) = ap (λ (g : List Bool → Bool). g xs) q.solves in
        f ∙ rw (opened-push h e, posted-push h e, k.kind, t.solves xs, and_push (all_hold m.kind v) (holds m.kind v) refl (λ _ _. refl) (posted h) row.now) (and_assoc (eqb (length xs) (opened h).vars) (all_hold m.kind v (posted h)) (holds m.kind v row.now));
    drawn = q.drawn ∙ (t.drawn ∙ sym (drawn-push h e ∙ append-nil (drawn h)));
    current = q.current ∙ (t.current ∙ sym (current-push h e));
  }

  -- what is said of the rows is said still, where a moment opens nothing and posts nothing
  rows-still : (e : Moment) → Fixed m m' → m'.solves ≡ m.solves → opening e.0 e.1 ≡ None → posting e.0 e.1 ≡ [] → (m'.vars ≡ (opened (h ++ e ∷ [])).vars) × (m'.owed ≡ owed (h ++ e ∷ [])) × ((xs : List Bool) → m'.solves xs ≡ solution m'.kind (h ++ e ∷ []) xs)
  rows-still e f s o p =
      let a : opened (h ++ e ∷ []) ≡ opened h = opened-push h e ∙ rw o refl in
      let b : posted (h ++ e ∷ []) ≡ posted h = posted-push h e ∙ rw (o, p) (append-nil (posted h)) in (
        f.vars ∙ (t.vars ∙ sym (ap (λ (q : Opening). q.vars) a)),
        f.owed ∙ (t.owed ∙ sym (rw (a, b) refl)),
        λ xs. ap (λ (g : List Bool → Bool). g xs) s ∙ (t.solves xs ∙ sym (rw (a, b, f.kind) refl)),
      )

  -- a draw that finds one
  pub tells-found : (xs : Vec Bool Global) → Fixed m m' → Drew m m' → m'.current ≡ Some (vec_items xs) → Tells (h ++ (Next, Found xs) ∷ []) m'
  tells-found xs f d c = let e : Moment = (Next, Found xs) in let r = rows-still e f d.solves refl refl in record {
    vars = r.0;
    owed = r.1;
    solves = r.2;
    drawn =
        let same : d.list ≡ vec_items xs = ap (λ (o : Option (List Bool)). unwrap_or o []) (sym d.current ∙ c) in
        d.drawn ∙ (ap (λ (l : List Bool). m.drawn ++ l ∷ []) same ∙ (ap (λ (ls : List (List Bool)). ls ++ vec_items xs ∷ []) t.drawn ∙ sym (drawn-push h e)));
    current = c ∙ sym (current-push h e);
  }

  -- a draw that says none
  pub tells-none-left : Fixed m m' → Ended m m' → Tells (h ++ (Next, Exhausted) ∷ []) m'
  tells-none-left f d = let e : Moment = (Next, Exhausted) in let r = rows-still e f d.solves refl refl in record {
    vars = r.0;
    owed = r.1;
    solves = r.2;
    drawn = d.drawn ∙ (t.drawn ∙ sym (drawn-push h e ∙ append-nil (drawn h)));
    current = d.current ∙ sym (current-push h e);
  }

module _ (h : List Moment) (m : Meaning) (t : Tells h m) where
  -- a rewind
  pub tells-rewind : Tells (h ++ (Rewind, Accepted) ∷ []) (rewound m)
  tells-rewind = let e : Moment = (Rewind, Accepted) in let r = rows-still h m (rewound m) t e (record { kind = refl; stop = refl; vars = refl; owed = refl }) refl refl refl in record {
    vars = r.0;
    owed = r.1;
    solves = r.2;
    drawn = sym (drawn-push h e);
    current = sym (current-push h e);
  }

  -- a call that leaves no trace
  pub tells-quiet : (e : Moment) → Quiet e → Tells (h ++ e ∷ []) m
  tells-quiet e q = let r = rows-still h m m t e (record { kind = refl; stop = refl; vars = refl; owed = refl }) refl q.opening q.posting in record {
    vars = r.0;
    owed = r.1;
    solves = r.2;
    drawn = t.drawn ∙ sym (drawn-push h e ∙ rw (q.begins, q.drawing) (append-nil (drawn h)));
    current = t.current ∙ sym (current-push h e ∙ rw (q.begins, q.leaving) refl);
  }

-- what is refused leaves no trace, nor does a value asked for
pub refused-quiet : (c : Call) (f : Fault) → Quiet (c, Refused f)
refused-quiet (Open n bill) f = record { opening = refl; posting = refl; drawing = refl; begins = refl; leaving = refl }
refused-quiet (Post row) f = record { opening = refl; posting = refl; drawing = refl; begins = refl; leaving = refl }
refused-quiet Next f = record { opening = refl; posting = refl; drawing = refl; begins = refl; leaving = refl }
refused-quiet (Value i) f = record { opening = refl; posting = refl; drawing = refl; begins = refl; leaving = refl }
refused-quiet Rewind f = record { opening = refl; posting = refl; drawing = refl; begins = refl; leaving = refl }

pub value-quiet : (i : ℕ) (x : Option Bool) → Quiet (Value i, Valued x)
value-quiet i x = record { opening = refl; posting = refl; drawing = refl; begins = refl; leaving = refl }
