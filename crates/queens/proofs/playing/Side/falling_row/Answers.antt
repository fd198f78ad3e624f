use Rattle.std.proofs.Common.{ℕ, ◌+◌, ◌-◌, ◌*◌, Some, sym, ap, ◌∙◌, arith}
use Rattle.std.proofs.lemmas.Nat.{mul-le}
use Rattle.std.specs.Option.{option_and_then}
use Rattle.puzzles.specs.Filling.{extended, run_row}
use Rattle.puzzles.proofs.Runs.{run-and}
use Rattle.queens.specs.Queens.{largest}
use Rattle.queens.proofs.Diagonals.{falling-high, falling-low}
use Rattle.queens.proofs.playing.Side.falling_row.Goals as goal
use Rattle.queens.proofs.playing.Side.falling_row.Goals.{then-d-n, else-d-n}

pub returns : goal.returns
returns c =
    let n = c.args.self.n in
    let d = c.args.i + 2 in
    let s = n * n + c.args.i in
    let h = c.args.self.small in
    let m = mul-le n n largest largest h h in
    let made = λ (start count : ℕ). option_and_then (λ row. extended row s) (run_row start (n + 1) count) in
    let e = c.run_and.ensures in
    elim c.if-d-n.branch [
      | then-d-n w ↦
          run-and (d - n) (n + 1) (2 * n - d) s c.run_and.result (e ∙ ap (λ (p : ℕ × ℕ). made p.0 p.1) w.start-is) (omega arith) (omega arith) (omega arith) (omega arith)
          ∙ ap Some (sym (falling-high n d s (omega arith) (omega arith)))
      | else-d-n w ↦
          let k = mul-le (n - d) n largest largest (omega arith) h in
          run-and ((n - d) * n) (n + 1) d s c.run_and.result (e ∙ ap (λ (p : ℕ × ℕ). made p.0 p.1) w.start-is) (omega arith) (omega arith) (omega arith) (omega arith)
          ∙ ap Some (sym (falling-low n d s (omega arith)))
    ]
