use Rattle.std.proofs.Common.{◌<◌, length, refl, arith}
use Rattle.std.specs.Fmt.{HasWritten}
use Rattle.rows.proofs.Wording.{comma, put-none, part-start, part-zero, part-more, part_end}
use Rattle.rows.proofs.bills.BillDisplay.fmt.Goals as goal
use Rattle.rows.proofs.bills.BillDisplay.fmt.Goals.{then-count-gt0+in_ok-write, then-any+in_ok-write_str, else-any, else-count-gt0}

pub loop-len-init : goal.loop-len-init
loop-len-init g c = part-start c.args.self.now.counts

pub loop-len-preserved : goal.loop-len-preserved
loop-len-preserved g c = λ p.
    let part = c.loop-len.invariant p in
    let lt : c.loop-len.len-counter < length c.args.self.now.counts = omega arith in
    elim c.if-count-gt0.branch [
      | then-count-gt0+in_ok-write w ↦
          let due : HasWritten g.W.Write.write_str_gives c.loop-len.f (comma c.loop-len.any) w.if-any.f = elim w.if-any.branch [
            | then-any+in_ok-write_str w' ↦ simp (w'.f-is, w'.if-any.true) (w'.in_ok-write_str.ensures.writes part.put.plain refl)
            | else-any w' ↦ simp (w'.f-is, w'.if-any.false) (put-none part.put.plain)
          ] in
          simp (w.f-is, w.any-is) (part-more part w.write.new.self lt w.if-count-gt0.true due (w.in_ok-write.ensures.writes due.plain refl))
      | else-count-gt0 w ↦ simp (w.f-is, w.any-is) (part-zero part lt (omega arith))
    ]

pub returns-else-any-2-clause-writes : goal.returns-else-any-2-clause-writes
returns-else-any-2-clause-writes g c = λ p ok.
    let part = c.loop-len.invariant p in
    part_end part c.write_str-else-any-2.new.self (omega arith) (simp c.if-any-2.false (c.write_str-else-any-2.ensures.writes part.put.plain ok))
