use Rattle.std.proofs.Common.{sym}
use Rattle.cycles.proofs.Rows.{cycles-vars}
use Rattle.cycles.proofs.playing.CyclesPuzzle.vars.Goals as goal

pub returns : goal.returns
returns c =
    let p = c.args.self.now in
    rw (c.count.ensures, p.listed) (sym (cycles-vars p.size p.arcs.now))
