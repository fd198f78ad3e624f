use Rattle.std.proofs.Common.{sym}
use Rattle.cycles.proofs.Rows.{cycles-length}
use Rattle.cycles.proofs.playing.CyclesPuzzle.rows.Goals as goal

pub returns : goal.returns
returns c =
    let p = c.args.self.now in
    rw (c.count.ensures, p.listed) (sym (cycles-length p.size p.arcs.now))
