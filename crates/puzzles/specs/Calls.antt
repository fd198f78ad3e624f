-- What the calls that serve every puzzle answer.
use Rattle.std.specs.Prelude.{◌≡◌, ℕ, Bool, true, cond, not, List, ◌++◌, length, drop, Ok, Err, Option, Result, ◌==◌, nat_lt}
use Rattle.rows.specs.declared.kinds.Kind.TheVariants.{Cover}
use Rattle.rows.specs.declared.stops.Fault.{Fault}
use Rattle.rows.specs.declared.stops.Stop.TheVariants.{Small, Length, Wrong}
use Rattle.rows.specs.Stops.{Unless, here, stop_if, ◌then_if◌}
use Rattle.rows.specs.Truth.{valuation, first_false}
use Rattle.puzzles.specs.Boards.{Board, decode, encode, rows, solution, vars}

-- to fill k truth values from m bytes: room for all variables, and a byte for each place
abbrev pub fill_stop : Board → ℕ → ℕ → Option Fault
fill_stop b m k = stop_if (nat_lt k (vars b)) (Small (vars b)) then_if stop_if (not (m == b.places)) (Length m)

-- to encode, the bytes have to be an answer too
abbrev pub encode_stop : Board → List ℕ → ℕ → Option Fault
encode_stop b a k = fill_stop b (length a) k then_if stop_if (not (b.answer a)) (Wrong 0)

-- to decode into m bytes: room for all places, a value for each variable, and every row true
abbrev pub decode_stop : Board → List Bool → ℕ → Option Fault
decode_stop b xs m = stop_if (nat_lt m b.places) (Small b.places) then_if stop_if (not (length xs == vars b)) (Length (length xs)) then_if stop_if (not (solution b xs)) (Wrong 0)

-- the first row that is not true under a value for each variable
abbrev pub failing : Board → List Bool → Result (Option ℕ) Fault
failing b xs = cond (length xs == vars b) (Ok (first_false Cover (valuation xs) 0 (rows b))) (Err (here (Length (length xs))))

-- an answer was encoded: the truth values are a solution, and decode to it
pub record Encoded (b : Board) (a : List ℕ) (before after : List Bool) : Type 0 where
  pub written : after ≡ encode b a ++ drop (vars b) before
  pub solves : solution b (encode b a) ≡ true
  pub back : decode b (encode b a) ≡ a

-- a solution was decoded: the bytes are an answer, and encode to it
pub record Decoded (b : Board) (xs : List Bool) (before after : List ℕ) : Type 0 where
  pub written : after ≡ decode b xs ++ drop b.places before
  pub answers : b.answer (decode b xs) ≡ true
  pub back : encode b (decode b xs) ≡ xs

-- to fill truth values from bytes: refused and left as they were, or the first are those of the filled board
abbrev pub Fills : Board → List ℕ → List Bool → List Bool → Result (Unit {0}) Fault → Type 0
Fills b a before after r = Unless (fill_stop b (length a) (length before)) (after ≡ before) (after ≡ encode b a ++ drop (vars b) before) r

-- to encode an answer: refused and left as they were, or encoded
abbrev pub Encodes : Board → List ℕ → List Bool → List Bool → Result (Unit {0}) Fault → Type 0
Encodes b a before after r = Unless (encode_stop b a (length before)) (after ≡ before) (Encoded b a before after) r

-- to decode truth values: refused and left as they were, or decoded
abbrev pub Decodes : Board → List Bool → List ℕ → List ℕ → Result (Unit {0}) Fault → Type 0
Decodes b xs before after r = Unless (decode_stop b xs (length before)) (after ≡ before) (Decoded b xs before after) r
