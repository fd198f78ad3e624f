use Rattle.std.proofs.Common.{inl}
use Rattle.reductions.proofs.Passing.{passes-one}
use Rattle.reductions.proofs.narrow.NarrowTranslation.translate.Goals as goal

pub returns-clause-passes : goal.returns-clause-passes
returns-clause-passes g c = λ s. passes-one _ _ c.args.row.now c.post.result (c.post.ensures.posts (inl s))
