-- What a history comes to: the calls upon one solver since it was made, with their answers, in order.
use Rattle.std.specs.Prelude.{ℕ, ◌+◌, ◌-◌, Bool, true, false, cond, List, [], ◌∷◌, replicate, Some, None, Option}
use Rattle.std.specs.List.{flat_map, list_any}
use Rattle.std.specs.Option.{is_some, option_flatten, option_or, unwrap_or}
use Rattle.std.specs.Vec.{vec_items}
use Rattle.rows.specs.Bills.{rows_of_length}
use Rattle.rows.specs.Kinds.{lengths}
use Rattle.history.specs.declared.calls.Call.{Call}
use Rattle.history.specs.declared.calls.Call.TheVariants.{Open, Post, Next, Rewind}
use Rattle.history.specs.declared.calls.Answer.{Answer}
use Rattle.history.specs.declared.calls.Answer.TheVariants.{Accepted, Found, Exhausted}

-- a call and its answer
abbrev pub Moment : Type 0
Moment = Call × Answer

-- what came after the latest moment that passes, or all where none does
abbrev pub since : (Moment → Bool) → List Moment → List Moment
since p [] = []
since p (m ∷ ms) = cond (list_any p (m ∷ ms)) (since p ms) (m ∷ ms)

-- the latest of what f finds
abbrev pub latest : {X : Type 0} → (Moment → Option X) → List Moment → Option X
latest f [] = None
latest f (m ∷ ms) = option_or (latest f ms) (f m)

-- an accepted open: so many variables, and the bill
pub record Opening : Type 0 where
  pub vars : ℕ
  pub bill : List ℕ

abbrev pub opening : Call → Answer → Option Opening
opening (Open n bill) Accepted = Some (record { vars = n; bill = bill.counts })
opening c a = None

-- the row of an accepted post
abbrev pub posting : Call → Answer → List (List ℕ)
posting (Post row) Accepted = row.now ∷ []
posting c a = []

-- the list of a draw: what value, asked right after it, answers for each variable
abbrev pub drawing : Call → Answer → List (List Bool)
drawing Next (Found xs) = vec_items xs ∷ []
drawing c a = []

-- an accepted open and a rewind begin the draws anew
abbrev pub begins : Call → Answer → Bool
begins (Open n bill) Accepted = true
begins Rewind Accepted = true
begins c a = false

-- what a draw leaves current
abbrev pub leaving : Call → Answer → Option (Option (List Bool))
leaving Next (Found xs) = Some (Some (vec_items xs))
leaving Next Exhausted = Some None
leaving c a = None

-- each count of a bill, from that of rows of k literals on, less the number of such rows
abbrev pub less_rows : ℕ → List ℕ → List (List ℕ) → List ℕ
less_rows k [] rows = []
less_rows k (c ∷ cs) rows = (c - rows_of_length rows k) ∷ less_rows (k + 1) cs rows

-- the latest accepted open; before the first there are no variables and nothing is owed
abbrev pub opened : List Moment → Opening
opened h = unwrap_or (latest (λ m. opening m.0 m.1) h) (record { vars = 0; bill = replicate lengths 0 })

-- the rows posted since
abbrev pub posted : List Moment → List (List ℕ)
posted h = flat_map (λ m. posting m.0 m.1) (since (λ m. is_some (opening m.0 m.1)) h)

-- the rows of its bill that are not posted, by length
abbrev pub owed : List Moment → List ℕ
owed h = less_rows 0 (opened h).bill (posted h)

-- the lists drawn since the latest making, accepted open or rewind
abbrev pub drawn : List Moment → List (List Bool)
drawn h = flat_map (λ m. drawing m.0 m.1) (since (λ m. begins m.0 m.1) h)

-- the latest of them, unless a draw after it said that none is left
abbrev pub current : List Moment → Option (List Bool)
current h = option_flatten (latest (λ m. leaving m.0 m.1) (since (λ m. begins m.0 m.1) h))
