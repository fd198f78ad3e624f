-- What asking for another answer leaves and says: ks are the known answers, m is what the solver means before it, m' after.
use Rattle.std.specs.Prelude.{◌≡◌, ℕ, ◌+◌, ◌*◌, ◌/◌, ◌%◌, ◌<◌, ◌≤◌, Bool, true, not, List, [], ◌∷◌, ◌++◌, map, length, take, drop, Some, None, Ok, Err, Option, Result, ◌==◌, nat_lt}
use mathlib.Core.List.{Memᴰ}
use Rattle.std.specs.List.{list_any, range_with_len, All}
use Rattle.std.specs.Str.{bytes_eq}
use Rattle.rows.specs.declared.stops.Fault.{Fault}
use Rattle.rows.specs.declared.stops.Stop.TheVariants.{Length, Small, Twice, Wrong}
use Rattle.rows.specs.Stops.{stop_if, ◌then_if◌}
use Rattle.solver.specs.Meaning.{Meaning}
use Rattle.puzzles.specs.Boards.{Board, decode}
use Rattle.verdict.specs.declared.words.Verdict.{Verdict}
use Rattle.verdict.specs.declared.words.Verdict.TheVariants.{Another, None as NoOther}
use Rattle.verdict.specs.Answers.{answers}
use Rattle.verdict.specs.Counting.{Posed, start_stop}

-- the known answers of a board stand one after another, each a byte for each place
abbrev pub known_answers : ℕ → List ℕ → List (List ℕ)
known_answers places bytes = map (λ i. take places (drop (i * places) bytes)) (range_with_len 0 (length bytes / places))

-- whether values are those of one of the answers
abbrev pub among : List ℕ → List (List ℕ) → Bool
among a ks = list_any (bytes_eq a) ks

-- of known answers, where those before are right and distinct, the first that is none of the board's or equal to an earlier one
abbrev pub answers_stop : Board → List (List ℕ) → List (List ℕ) → Option Fault
answers_stop b before [] = None
answers_stop b before (a ∷ ks) =
    stop_if (not (b.answer a)) (Wrong (length before))
    then_if stop_if (among a before) (Twice (length before))
    then_if answers_stop b (before ++ (a ∷ [])) ks

-- by what a question with these known bytes and a buffer of so many bytes is refused
abbrev pub known_stop : Board → List ℕ → ℕ → Option Fault
known_stop b bytes room =
    stop_if (nat_lt room b.places) (Small b.places)
    then_if stop_if (not (length bytes % b.places == 0)) (Length (length bytes))
    then_if answers_stop b [] (known_answers b.places bytes)

-- by what the question is refused: the solver is started last
abbrev pub verdict_stop : Board → List ℕ → ℕ → Meaning → Option Fault
verdict_stop b bytes room m = known_stop b bytes room then_if start_stop b m

-- another answer was found: it was drawn last, and those drawn before it are known
pub record Shown (b : Board) (ks : List (List ℕ)) (before after : List ℕ) (m' : Meaning) (draws : ℕ) : Type 0 where
  pub posed : Posed b m'
  pub earlier : List (List Bool)
  pub last : List Bool
  pub drawn : m'.drawn ≡ earlier ++ (last ∷ [])
  pub current : m'.current ≡ Some last
  pub known : All (λ xs. Memᴰ (decode b xs) ks) earlier
  -- what it decodes to is an answer that is not known, and stands in the first bytes of the buffer
  pub sure : b.answer (decode b last) ≡ true
  pub unknown : Memᴰ (decode b last) ks → ⊥
  pub written : after ≡ decode b last ++ drop b.places before
  -- one draw for each that was drawn, and no more than one for each known answer and one
  pub calls : draws ≡ length m'.drawn
  pub few : draws ≤ length ks + 1
  -- there are more answers than are known
  pub more : length ks < length (answers b)

-- there is no other answer: all are known
pub record Unique (b : Board) (ks : List (List ℕ)) (before after : List ℕ) (m' : Meaning) (draws : ℕ) : Type 0 where
  pub posed : Posed b m'
  pub all : (a : List ℕ) → b.answer a ≡ true → Memᴰ a ks
  pub number : length (answers b) ≡ length ks
  pub kept : after ≡ before
  -- each was drawn once, and one more draw said that none is left
  pub drawn : length m'.drawn ≡ length ks
  pub calls : draws ≡ length m'.drawn + 1
  pub few : draws ≤ length ks + 1
  pub current : m'.current ≡ None

-- to ask: refused, and solver and buffer left as they were, or decided
abbrev pub Decides : Board → List ℕ → List ℕ → List ℕ → Meaning → Meaning → Result Verdict Fault → Type 0
Decides b bytes before after m m' (Ok (Another draws)) = (verdict_stop b bytes (length before) m ≡ None) × Shown b (known_answers b.places bytes) before after m' draws
Decides b bytes before after m m' (Ok (NoOther draws)) = (verdict_stop b bytes (length before) m ≡ None) × Unique b (known_answers b.places bytes) before after m' draws
Decides b bytes before after m m' (Err f) = (verdict_stop b bytes (length before) m ≡ Some f) × (m' ≡ m) × (after ≡ before)
