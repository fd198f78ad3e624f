-- The known answers are checked one by one; where none is refused they are distinct answers.
use Rattle.std.proofs.Common.{◌≡◌, ℕ, ◌+◌, ◌%◌, ◌<◌, ◌≤◌, Bool, true, false, not, List, [], ◌∷◌, ◌++◌, length, get_or, take, drop, Some, None, Option, sym, refl, ap, ◌∙◌, true≢false, ◌==◌, nat_lt, arith}
use mathlib.Core.List.{Memᴰ}
use Rattle.std.specs.List.{All}
use Rattle.std.proofs.lemmas.List.{drop_all, drop_more, take_more, length-take-le}
use Rattle.std.proofs.lemmas.List.Elements.{All-nil, All-cons, All-weaker}
use Rattle.std.proofs.lemmas.Bool.{not-false}
use Rattle.std.proofs.lemmas.Bool.Decides.{nat_tests}
use Rattle.rows.specs.declared.stops.Fault.{Fault}
use Rattle.rows.specs.declared.stops.Stop.{Stop}
use Rattle.rows.specs.declared.stops.Stop.TheVariants.{Twice, Wrong}
use Rattle.rows.specs.Stops.{here, stop_if, ◌then_if◌}
use Rattle.solver.specs.Laws.{Apart}
use Rattle.solver.proofs.Aparts.{all-at}
use Rattle.solver.specs.Meaning.{Meaning}
use Rattle.puzzles.specs.Boards.{Board}
use Rattle.verdict.specs.Counting.{start_stop}
use Rattle.verdict.specs.Verdicts.{among, answers_stop, known_answers, known_stop, verdict_stop}
use Rattle.verdict.proofs.KnownAnswers.{among-mem}

-- the known answers at the one of index i, where those before it are right
module _ (b : Board) (ks : List (List ℕ)) (i : ℕ) (a : List ℕ) (t : (i < length ks) × (a ≡ get_or ks i [])) where
  -- there are i before it
  before : length (take i ks) ≡ i
  before = let h = t.0 in length-take-le i ks (omega arith)

  -- it comes next
  next : answers_stop b (take i ks) (drop i ks) ≡ answers_stop b (take i ks) (a ∷ drop (i + 1) ks)
  next = ap (answers_stop b (take i ks)) (drop_more ks i [] t.0 ∙ ap (λ k. k ∷ drop (i + 1) ks) (sym t.1))

  -- it is none of the board's
  pub stop-wrong : b.answer a ≡ false → answers_stop b (take i ks) (drop i ks) ≡ Some (here (Wrong i))
  stop-wrong wrong = next ∙ rw (wrong, before) refl

  -- it is equal to an earlier one
  pub stop-twice : b.answer a ≡ true → among a (take i ks) ≡ true → answers_stop b (take i ks) (drop i ks) ≡ Some (here (Twice i))
  stop-twice right twice = next ∙ rw (right, twice, before) refl

  -- it is right too
  pub stop-later : b.answer a ≡ true → among a (take i ks) ≡ false → answers_stop b (take i ks) (drop i ks) ≡ answers_stop b (take (i + 1) ks) (drop (i + 1) ks)
  stop-later right once = next ∙ rw (right, once, take_more ks i [] t.0, ← t.1) refl

-- where all are right, none is refused
pub stop-none : (b : Board) (ks : List (List ℕ)) (i : ℕ) → length ks ≤ i → answers_stop b (take i ks) (drop i ks) ≡ None
stop-none b ks i h = ap (answers_stop b (take i ks)) (drop_all i ks h)

-- a check that refuses nothing is passed, and so are those after it
unmet : (t : Bool) (s : Stop) (later : Option Fault) → (stop_if t s then_if later) ≡ None → (t ≡ false) × (later ≡ None)
unmet false s later e = (refl, e)
unmet true s later e = absurd (cc)

-- distinct answers
pub record Right (b : Board) (ks : List (List ℕ)) : Type 0 where
  pub sure : All (λ a. b.answer a ≡ true) ks
  pub apart : Apart ks

-- answers after others are right, and none of those
right-after : (b : Board) (others ks : List (List ℕ)) → answers_stop b others ks ≡ None → Right b ks × All (λ a. Memᴰ a others → ⊥) ks
right-after b others [] e = (record { sure = All-nil _; apart = tt }, All-nil _)
right-after b others (a ∷ ks) e =
    let p = unmet (not (b.answer a)) _ _ e in
    let q = unmet (among a others) _ _ p.1 in
    let (r, none) = right-after b (others ++ a ∷ []) ks q.1 in (
      record {
        sure = All-cons (λ c. b.answer c ≡ true) a ks (not-false (b.answer a) p.0) r.sure;
        apart = ((λ m. all-at (λ c. Memᴰ c (others ++ a ∷ []) → ⊥) ks none m (mathlib.Core.List.Memᴰ.append_right others (mathlib.Core.List.Memᴰ.head refl))), r.apart);
      },
      All-cons (λ c. Memᴰ c others → ⊥) a ks (λ m. true≢false (sym (among-mem a others m) ∙ q.0)) (All-weaker (λ c. Memᴰ c (others ++ a ∷ []) → ⊥) (λ c. Memᴰ c others → ⊥) (λ c n m. n (mathlib.Core.List.Memᴰ.append_left (a ∷ []) m)) ks none),
    )

-- answers that are not refused are distinct answers
pub right : (b : Board) (ks : List (List ℕ)) → answers_stop b [] ks ≡ None → Right b ks
right b ks e = (right-after b [] ks e).0

-- so are the known answers of a question that they do not stop, and there is room for one more
pub known-right : (b : Board) (bytes : List ℕ) (room : ℕ) → known_stop b bytes room ≡ None → (b.places ≤ room) × Right b (known_answers b.places bytes)
known-right b bytes room e =
    let p = unmet (nat_lt room b.places) _ _ e in
    let q = unmet (not (length bytes % b.places == 0)) _ _ p.1 in
    (let l = p.0 in grind (arith, nat_tests), right b (known_answers b.places bytes) q.1)

-- nothing stops the question where neither the known answers nor the start do
pub verdict-none : (b : Board) (bytes : List ℕ) (room : ℕ) (m : Meaning) → known_stop b bytes room ≡ None → start_stop b m ≡ None → verdict_stop b bytes room m ≡ None
verdict-none b bytes room m e f = ap (λ (o : Option Fault). o then_if start_stop b m) e ∙ f
