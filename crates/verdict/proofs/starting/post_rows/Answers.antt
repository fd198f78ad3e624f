use Rattle.std.proofs.Common.{inl, refl, ◌∙◌}
use Rattle.solver.proofs.Keeping.{kept-twice}
use Rattle.verdict.proofs.Posting.{posting-none, posting-free, posting-more, posting-all}
use Rattle.verdict.proofs.starting.post_rows.Goals as goal

pub loop-row-init : goal.loop-row-init
loop-row-init g c = record {
  posting = posting-none (g.P.Puzzle.board c.args.puzzle.now) c.into_iter-row-iterator.result (g.S.Solver.means c.args.solver.now) (c.into_iter-row-iterator.ensures.into_iter_gives ∙ search (refl)) c.requires.kind c.requires.opened;
  kept = record { kind = refl; stop = refl };
  sound = c.requires.sound;
}

pub loop-row-preserved : goal.loop-row-preserved
loop-row-preserved g c =
    let i = c.loop-row.invariant in
    let p = c.in_ok-post.ensures in
    record {
      posting = posting-more _ (g.met.P.Puzzle.lined c.args.puzzle.now) _ _ _ _ i.posting _ c.in-Some.ensures.steps c.literals.ensures.short _ p.kept (rw c.literals.ensures.value at (p.posts (inl i.sound)).1);
      kept = kept-twice _ _ _ i.kept p.kept;
      sound = p.still i.sound;
    }

pub returns-in_err-post : goal.returns-in_err-post
returns-in_err-post g c =
    let i = c.loop-row.invariant in
    let free = posting-free _ (g.met.P.Puzzle.lined c.args.puzzle.now) _ _ _ _ i.posting _ c.in-Some.ensures.steps c.literals.ensures.short in
    let value = c.literals.ensures.value in
    let refused = (c.in_err-post.ensures.posts (inl i.sound)).0 in
    absurd (cc)

pub returns-clause-started : goal.returns-clause-started
returns-clause-started g c = posting-all _ _ _ _ c.loop-row.invariant.posting c.in-None.ensures.steps.0
