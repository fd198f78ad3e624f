-- What a row buffer holds.
use Rattle.std.specs.Prelude.{◌≡◌, ℕ, ◌-◌, ◌≤◌, List, ◌++◌, length, take, replicate, refl}
use Rattle.std.proofs.Common.{arith}
use Rattle.std.proofs.lemmas.List.{length-take-le}
use Rattle.rows.specs.declared.buffers.Row.TheInside.{Inside}
use Rattle.rows.specs.Kinds.{longest}

-- the literals so far
abbrev pub held : Inside → List ℕ
held inside = take inside.len inside.literals

-- the buffer that holds these literals: zeros fill it up
abbrev pub buffer : List ℕ → Inside
buffer row = record { literals = row ++ replicate (longest - length row) 0; len = length row }

pub record Formed (inside : Inside) : Type 0 where
  -- the array has room for the longest row
  pub room : length inside.literals ≡ longest
  pub short : inside.len ≤ longest
  -- zeros stand behind the literals, so that these say all that the buffer is
  pub blank : inside.literals ≡ held inside ++ replicate (longest - inside.len) 0

pub buffer-held : (inside : Inside) → Formed inside → buffer (held inside) ≡ inside
buffer-held inside f = rw (length-take-le inside.len inside.literals (omega (arith, f.room, f.short)), ← f.blank) refl
