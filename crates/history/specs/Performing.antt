-- What one call does to a solver that means m before it and m' after, and what it is answered.
use Rattle.std.specs.Prelude.{◌≡◌, List, [], ◌∷◌, Some, None, Option}
use Rattle.std.specs.Vec.{vec_items}
use Rattle.rows.specs.declared.stops.Fault.{Fault}
use Rattle.solver.specs.Calls.{Drew, Ended, Fixed, Opened, Posted, rewound}
use Rattle.solver.specs.Meaning.{Meaning, lookup}
use Rattle.solver.specs.Stops.{draw_stop, post_stop}
use Rattle.history.specs.declared.calls.Call.{Call}
use Rattle.history.specs.declared.calls.Call.TheVariants.{Open, Post, Next, Value, Rewind}
use Rattle.history.specs.declared.calls.Answer.{Answer}
use Rattle.history.specs.declared.calls.Answer.TheVariants.{Accepted, Refused, Found, Exhausted, Valued}

-- by what it refuses a call
abbrev pub refused_by : Meaning → Call → Option Fault
refused_by m (Open n bill) = m.stop n bill.counts
refused_by m (Post row) = post_stop m.kind m.vars m.owed row.now
refused_by m Next = draw_stop m.owed
refused_by m (Value i) = None
refused_by m Rewind = None

abbrev pub Does : Meaning → Meaning → Call → Answer → Type 0
Does m m' c (Refused f) = (refused_by m c ≡ Some f) × (m' ≡ m)
Does m m' (Open n bill) Accepted = (m.stop n bill.counts ≡ None) × Opened m' n bill.counts
Does m m' (Post row) Accepted = (post_stop m.kind m.vars m.owed row.now ≡ None) × Posted m m' row.now
Does m m' Next (Found xs) = (draw_stop m.owed ≡ None) × Fixed m m' × Drew m m' × (m'.current ≡ Some (vec_items xs))
Does m m' Next Exhausted = (draw_stop m.owed ≡ None) × Fixed m m' × Ended m m'
Does m m' (Value i) (Valued x) = (x ≡ lookup m.current i) × (m' ≡ m)
Does m m' Rewind Accepted = m' ≡ rewound m
Does m m' c a = ⊥

-- calls one after another, and their answers
abbrev pub Performed : Meaning → List Call → List Answer → Meaning → Type 0
Performed m [] [] m' = m' ≡ m
Performed m [] (a ∷ given) m' = ⊥
Performed m (c ∷ calls) [] m' = ⊥
Performed m (c ∷ calls) (a ∷ given) m' = (n : Meaning) × Does m n c a × Performed n calls given m'
