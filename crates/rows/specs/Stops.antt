-- The numbered refusals: each stop's number and name, and where a fault's place comes from.
use Rattle.std.specs.Prelude.{◌≡◌, ℕ, ◌+◌, Bool, cond, min, List, ◌++◌, Some, None, Ok, Err, codes, decimal, Option, Result}
use Rattle.rows.specs.declared.stops.Stop.{Stop}
use Rattle.rows.specs.declared.stops.Stop.TheVariants.{Size, Count, Length, Entry, Wrong, Twice, Joint, Big, Row, Literal, Bill, Owed, Small, Make}
use Rattle.rows.specs.declared.stops.Fault.{Fault}

abbrev pub stop_number : Stop → ℕ
stop_number (Size p) = 1
stop_number (Count p) = 2
stop_number (Length p) = 3
stop_number (Entry p) = 4
stop_number (Wrong p) = 5
stop_number (Twice p) = 6
stop_number Joint = 7
stop_number Big = 8
stop_number (Row p) = 9
stop_number (Literal p) = 10
stop_number (Bill p) = 11
stop_number (Owed p) = 12
stop_number (Small p) = 13
stop_number (Make p) = 14

abbrev pub stop_name : Stop → List ℕ
stop_name (Size p) = codes "SIZE"
stop_name (Count p) = codes "COUNT"
stop_name (Length p) = codes "LENGTH"
stop_name (Entry p) = codes "ENTRY"
stop_name (Wrong p) = codes "WRONG"
stop_name (Twice p) = codes "TWICE"
stop_name Joint = codes "JOINT"
stop_name Big = codes "BIG"
stop_name (Row p) = codes "ROW"
stop_name (Literal p) = codes "LITERAL"
stop_name (Bill p) = codes "BILL"
stop_name (Owed p) = codes "OWED"
stop_name (Small p) = codes "SMALL"
stop_name (Make p) = codes "MAKE"

-- the place of a stop at a depth
abbrev pub place_at : ℕ → Stop → ℕ
place_at d (Size p) = p
place_at d (Count p) = p
place_at d (Length p) = p
place_at d (Entry p) = p
place_at d (Wrong p) = p
place_at d (Twice p) = p
place_at d Joint = d
place_at d Big = d
place_at d (Row p) = p
place_at d (Literal p) = p
place_at d (Bill p) = p
place_at d (Owed p) = p
place_at d (Small p) = p
place_at d (Make p) = p

abbrev pub fault_place : Fault → ℕ
fault_place f = place_at f.depth f.stop

-- a fault of whoever was called
abbrev pub here : Stop → Fault
here s = record { stop = s; depth = 0 }

-- a fault of the solver below, carried up: one deeper, and never over 255
abbrev pub deeper : Fault → Fault
deeper f = record { stop = f.stop; depth = min (f.depth + 1) 255 }

-- a stop where a test says so
abbrev pub stop_if : Bool → Stop → Option Fault
stop_if b s = cond b (Some (here s)) None

-- the first stop of two checks in order
infixr 4 ◌then_if◌
abbrev pub ◌then_if◌ : Option Fault → Option Fault → Option Fault
None then_if later = later
(Some f) then_if later = Some f

-- a call is refused exactly where it meets a stop, and by that stop: then `left` holds, and otherwise `done`
abbrev pub Unless : Option Fault → Type 0 → Type 0 → Result (Unit {0}) Fault → Type 0
Unless stop left done (Ok x) = (stop ≡ None) × done
Unless stop left done (Err f) = (stop ≡ Some f) × left

-- how a fault is printed, as "stop 8 BIG, place 3, depth 3"
abbrev pub fault_text : Fault → List ℕ
fault_text f = codes "stop " ++ (decimal (stop_number f.stop) ++ (codes " " ++ (stop_name f.stop ++ (codes ", place " ++ (decimal (fault_place f) ++ (codes ", depth " ++ decimal f.depth))))))
