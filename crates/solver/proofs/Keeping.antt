-- What no call of a solver changes.
use Rattle.std.proofs.Common.{◌∙◌}
use Rattle.solver.specs.Calls.{Fixed, Kept}
use Rattle.solver.specs.Meaning.{Meaning}

-- after two calls
pub kept-twice : (m n o : Meaning) → Kept m n → Kept n o → Kept m o
kept-twice m n o k l = record { kind = l.kind ∙ k.kind; stop = l.stop ∙ k.stop }

-- after a draw
pub kept-drawn : (m n o : Meaning) → Kept m n → Fixed n o → Kept m o
kept-drawn m n o k f = record { kind = f.kind ∙ k.kind; stop = f.stop ∙ k.stop }
