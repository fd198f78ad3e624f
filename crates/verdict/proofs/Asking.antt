-- Drawing the solutions of a board one by one, until one comes whose answer is not known.
use Rattle.std.proofs.Common.{◌≡◌, ℕ, ◌+◌, ◌≤◌, Bool, true, false, List, [], ◌∷◌, ◌++◌, length, drop, Some, Ok, sym, refl, ap, ◌∙◌, subst, true≢false, arith}
use mathlib.Core.List.{Memᴰ}
use Rattle.std.specs.List.{All}
use Rattle.std.proofs.lemmas.List.{length_push}
use Rattle.std.proofs.lemmas.List.Elements.{All-nil, All-cons, All-append, All-weaker}
use Rattle.solver.specs.declared.draws.Drawn.{Drawn}
use Rattle.solver.specs.declared.draws.Drawn.TheVariants.{Found, Exhausted}
use Rattle.solver.specs.Calls.{Draws, Drew, Ended, Fixed}
use Rattle.solver.specs.Laws.{Lawful}
use Rattle.solver.specs.Meaning.{Meaning}
use Rattle.solver.proofs.Aparts.{all-at}
use Rattle.puzzles.specs.Boards.{Board, Faithful, Lined, solution, encode, decode}
use Rattle.puzzles.proofs.Law.{lined-are-faithful}
use Rattle.verdict.specs.Answers.{answers, Enumerates}
use Rattle.verdict.specs.Counting.{Posed, Started}
use Rattle.verdict.specs.Verdicts.{among, Shown, Unique}
use Rattle.verdict.proofs.Distinct.{all-from-mem, apart-few, matched-few}
use Rattle.verdict.proofs.Drawing.{posed-fixed}
use Rattle.verdict.proofs.Fillings.{answers-all}
use Rattle.verdict.proofs.KnownAnswers.{among-mem, mem-among}
use Rattle.verdict.proofs.Matching.{drawn-all}
use Rattle.verdict.proofs.KnownStops.{Right}

-- so many solutions are drawn, and all are those of known answers
pub record Asking (b : Board) (ks : List (List ℕ)) (draws : ℕ) (m : Meaning) : Type 0 where
  pub posed : Posed b m
  pub known : All (λ xs. Memᴰ (decode b xs) ks) m.drawn
  pub calls : draws ≡ length m.drawn

-- none at first
pub asking-none : (b : Board) (ks : List (List ℕ)) (m : Meaning) → Started b m → Asking b ks 0 m
asking-none b ks m s = record { posed = s.posed; known = rw s.drawn (All-nil _); calls = sym (ap length s.drawn) }

-- the answer of the current solution is written over what was before
abbrev pub Reads : Board → Meaning → List ℕ → List ℕ → Type 0
Reads b m before after = (xs : List Bool) → m.current ≡ Some xs → solution b xs ≡ true → after ≡ decode b xs ++ drop b.places before

module _ (b : Board) (lined : Lined b) (ks : List (List ℕ)) (draws : ℕ) (m : Meaning) (a : Asking b ks draws m) (l : Lawful m) where
  law : Faithful b
  law = lined-are-faithful b lined

  every : Enumerates b (answers b)
  every = answers-all b lined

  -- what is drawn is no more than is known
  pub asking-few : draws ≤ length ks
  asking-few =
      let sure = all-from-mem (λ xs. (encode b (decode b xs) ≡ xs) × Memᴰ (decode b xs) ks) m.drawn (λ xs i.
      ((law.decodes xs (ap (λ (f : List Bool → Bool). f xs) (sym a.posed.solves) ∙ all-at (λ ys. m.solves ys ≡ true) m.drawn l.sure i)).1, all-at (λ ys. Memᴰ (decode b ys) ks) m.drawn a.known i)) in
      let few = matched-few (decode b) (encode b) m.drawn ks l.apart sure in
      omega (arith, a.calls)

  -- one more is drawn
  module _ (m' : Meaning) (f : Fixed m m') (r : Drawn) (is : r ≡ Found) (says : Draws m m' (Ok r)) where
    drew : Drew m m'
    drew = (subst (λ (q : Drawn). Draws m m' (Ok q)) is says).1

    -- it is a solution of the board
    solves : solution b drew.list ≡ true
    solves = ap (λ (g : List Bool → Bool). g drew.list) (sym a.posed.solves) ∙ drew.solution

    pub posed-still : Posed b m'
    posed-still = posed-fixed b m m' a.posed f drew.solves

    -- one more draw than before
    calls-more : draws + 1 ≡ length m'.drawn
    calls-more = ap (λ (n : ℕ). n + 1) a.calls ∙ sym (ap length drew.drawn ∙ length_push m.drawn drew.list)

    -- whether its answer is known is asked of the current solution
    module _ (t : Bool) (tells : (xs : List Bool) → m'.current ≡ Some xs → solution b xs ≡ true → t ≡ among (decode b xs) ks) where
      told : t ≡ among (decode b drew.list) ks
      told = tells drew.list drew.current solves

      -- it is
      pub asking-more : t ≡ true → Asking b ks (draws + 1) m'
      asking-more e = record {
        posed = posed-still;
        known = rw drew.drawn (All-append (λ xs. Memᴰ (decode b xs) ks) m.drawn (drew.list ∷ []) a.known (All-cons (λ xs. Memᴰ (decode b xs) ks) drew.list [] (mem-among (decode b drew.list) ks (sym told ∙ e)) (All-nil (λ xs. Memᴰ (decode b xs) ks))));
        calls = calls-more;
      }

      -- it is not
      pub another : (before after : List ℕ) → Right b ks → t ≡ false → Reads b m' before after → Shown b ks before after m' (draws + 1)
      another before after right e reads =
          let unknown : Memᴰ (decode b drew.list) ks → ⊥ = λ i. true≢false (sym (among-mem (decode b drew.list) ks i) ∙ (sym told ∙ e)) in
          let sure = (law.decodes drew.list solves).0 in
          record {
            posed = posed-still;
            earlier = m.drawn;
            last = drew.list;
            drawn = drew.drawn;
            current = drew.current;
            known = a.known;
            sure = sure;
            unknown = unknown;
            written = reads drew.list drew.current solves;
            calls = calls-more;
            few = let few = asking-few in omega arith;
            more =
                let all = All-cons (λ c. Memᴰ c (answers b)) (decode b drew.list) ks (every.all (decode b drew.list) sure) (All-weaker (λ c. b.answer c ≡ true) (λ c. Memᴰ c (answers b)) every.all ks right.sure) in
                let few = apart-few (decode b drew.list ∷ ks) (answers b) (unknown, right.apart) all in
                omega arith;
          }

  -- none is left
  pub unique : (before : List ℕ) (m' : Meaning) → Right b ks → Fixed m m' → (r : Drawn) → r ≡ Exhausted → Draws m m' (Ok r) → Unique b ks before before m' (draws + 1)
  unique before m' right f r is says =
      let e : Ended m m' = (subst (λ (q : Drawn). Draws m m' (Ok q)) is says).1 in
      let all : (c : List ℕ) → b.answer c ≡ true → Memᴰ c ks = λ c s.
      let k = law.encodes c s in
      let i = e.all (encode b c) (ap (λ (g : List Bool → Bool). g (encode b c)) a.posed.solves ∙ k.0) in
      subst (λ (d : List ℕ). Memᴰ d ks) k.1 (all-at (λ xs. Memᴰ (decode b xs) ks) m.drawn a.known i) in
      record {
        posed = posed-fixed b m m' a.posed f e.solves;
        all = all;
        number =
            let few = apart-few (answers b) ks every.apart (All-weaker (λ c. b.answer c ≡ true) (λ c. Memᴰ c ks) all (answers b) every.sure) in
            let many = apart-few ks (answers b) right.apart (All-weaker (λ c. b.answer c ≡ true) (λ c. Memᴰ c (answers b)) every.all ks right.sure) in
            omega arith;
        kept = refl;
        drawn =
            let few = asking-few in
            let many = drawn-all b law (answers b) every m.drawn (λ xs s. e.all xs (ap (λ (f : List Bool → Bool). f xs) a.posed.solves ∙ s)) in
            let known = apart-few ks (answers b) right.apart (All-weaker (λ c. b.answer c ≡ true) (λ c. Memᴰ c (answers b)) every.all ks right.sure) in
            let same = ap length e.drawn in
            omega (arith, a.calls);
        calls = ap (λ (n : ℕ). n + 1) (a.calls ∙ sym (ap length e.drawn));
        few = let few = asking-few in omega arith;
        current = e.current;
      }
