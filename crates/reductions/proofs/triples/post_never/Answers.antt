use Rattle.std.proofs.Common.{ℕ, ◌*◌, [], ◌∷◌, inl, subst, arith}
use Rattle.solver.specs.Calls.{Posts}
use Rattle.reductions.proofs.Passing.{passes-one}
use Rattle.reductions.proofs.triples.post_never.Goals as goal

pub returns-in_err-e-clause-passes : goal.returns-in_err-e-clause-passes
returns-in_err-e-clause-passes g c = λ s t.
    let n = (g.met.S.Solver.lawful c.args.below.now s).narrow in
    let w = t.wide 0 [] (omega arith) 2 0 (omega arith) in
    let e = c.in_err-e.ensures in
    absurd (omega arith)

pub returns-clause-passes : goal.returns-clause-passes
returns-clause-passes g c = λ s.
    let m = g.S.Solver.means c.args.below.now in
    let m' = g.S.Solver.means c.post.new.self in
    let p = subst (λ (l : ℕ). Posts m m' (l ∷ l ∷ l ∷ []) c.post.result) c.in_ok-e.ensures.1 (c.post.ensures.posts (inl s)) in
    passes-one m m' (2 * c.args.helper ∷ 2 * c.args.helper ∷ 2 * c.args.helper ∷ []) c.post.result p
