use Rattle.std.proofs.Common.{◌≡◌, ℕ, ◌+◌, ◌-◌, ◌*◌, List, is_ok, [], ◌∷◌, inl, ap, subst, arith}
use Rattle.rows.specs.Literals.{opposite}
use Rattle.solver.specs.Calls.{Posts}
use Rattle.reductions.specs.Translations.{gadget}
use Rattle.reductions.proofs.Passing.{posting-last, posting-more, posting-start, posting-stop}
use Rattle.reductions.proofs.triples.post_gadget.Goals as goal

pub returns-in_err-e-clause-passes : goal.returns-in_err-e-clause-passes
returns-in_err-e-clause-passes g c = λ s t.
    let n = (g.met.S.Solver.lawful c.args.below.now s).narrow in
    let w = t.wide 3 [] (omega arith) 2 0 (omega arith) in
    let e = c.in_err-e.ensures in
    let f = c.saturating_add.ensures in
    absurd (omega arith)

pub returns-in_err-post-clause-passes : goal.returns-in_err-post-clause-passes
returns-in_err-post-clause-passes g c = λ s.
    let p = c.args.p in
    let q = c.args.q in
    let r = c.args.r in
    let h = c.args.helper in
    let e = c.in_ok-e.e in
    let f = c.in_ok-e.ensures in
    let u = c.saturating_add.ensures in
    let e₄ : e ≡ 2 * (h + 4) = omega arith in
    let e₃ : e - 2 ≡ 2 * (h + 3) = omega arith in
    let e₂ : e - 4 ≡ 2 * (h + 2) = omega arith in
    let e₁ : e - 6 ≡ 2 * (h + 1) = omega arith in
    let e₀ : e - 8 ≡ 2 * h = omega arith in
    let n₁ = c.negated.ensures in
    let m₀ = g.S.Solver.means c.args.below.now in
    let m₁ = g.S.Solver.means c.post.new.self in
    let l₁ : ◌≡◌ {A = List ℕ} (c.negated.result ∷ (e - 8) ∷ (e - 6) ∷ []) (opposite p ∷ 2 * h ∷ 2 * (h + 1) ∷ []) = cc in
    let p₁ = subst (λ (row : List ℕ). Posts m₀ m₁ row c.post.result) l₁ (c.post.ensures.posts (inl s)) in
    posting-stop m₁ (opposite p ∷ 2 * h ∷ 2 * (h + 1) ∷ []) _ (posting-start m₀ (gadget p q r (2 * h) (2 * (h + 1)) (2 * (h + 2)) (2 * (h + 3)) (2 * (h + 4)))) c.post.result p₁ (ap is_ok c.in_err-post.was) c.from_residual-in_err-post.result

pub returns-in_err-post-2-clause-passes : goal.returns-in_err-post-2-clause-passes
returns-in_err-post-2-clause-passes g c = λ s.
    let p = c.args.p in
    let q = c.args.q in
    let r = c.args.r in
    let h = c.args.helper in
    let e = c.in_ok-e.e in
    let f = c.in_ok-e.ensures in
    let u = c.saturating_add.ensures in
    let e₄ : e ≡ 2 * (h + 4) = omega arith in
    let e₃ : e - 2 ≡ 2 * (h + 3) = omega arith in
    let e₂ : e - 4 ≡ 2 * (h + 2) = omega arith in
    let e₁ : e - 6 ≡ 2 * (h + 1) = omega arith in
    let e₀ : e - 8 ≡ 2 * h = omega arith in
    let n₁ = c.negated.ensures in
    let m₀ = g.S.Solver.means c.args.below.now in
    let m₁ = g.S.Solver.means c.post.new.self in
    let m₂ = g.S.Solver.means c.post-2.new.self in
    let l₁ : ◌≡◌ {A = List ℕ} (c.negated.result ∷ (e - 8) ∷ (e - 6) ∷ []) (opposite p ∷ 2 * h ∷ 2 * (h + 1) ∷ []) = cc in
    let p₁ = subst (λ (row : List ℕ). Posts m₀ m₁ row c.post.result) l₁ (c.post.ensures.posts (inl s)) in
    let s₁ = c.post.ensures.still s in
    let l₂ : ◌≡◌ {A = List ℕ} (q ∷ (e - 6) ∷ (e - 4) ∷ []) (q ∷ 2 * (h + 1) ∷ 2 * (h + 2) ∷ []) = cc in
    let p₂ = subst (λ (row : List ℕ). Posts m₁ m₂ row c.post-2.result) l₂ (c.post-2.ensures.posts (inl s₁)) in
    let a₁ = posting-more m₁ (opposite p ∷ 2 * h ∷ 2 * (h + 1) ∷ []) _ (posting-start m₀ (gadget p q r (2 * h) (2 * (h + 1)) (2 * (h + 2)) (2 * (h + 3)) (2 * (h + 4)))) c.post.result p₁ c.post.ensures.kept in
    posting-stop m₂ (q ∷ 2 * (h + 1) ∷ 2 * (h + 2) ∷ []) _ a₁ c.post-2.result p₂ (ap is_ok c.in_err-post-2.was) c.from_residual-in_err-post-2.result

pub returns-in_err-post-3-clause-passes : goal.returns-in_err-post-3-clause-passes
returns-in_err-post-3-clause-passes g c = λ s.
    let p = c.args.p in
    let q = c.args.q in
    let r = c.args.r in
    let h = c.args.helper in
    let e = c.in_ok-e.e in
    let f = c.in_ok-e.ensures in
    let u = c.saturating_add.ensures in
    let e₄ : e ≡ 2 * (h + 4) = omega arith in
    let e₃ : e - 2 ≡ 2 * (h + 3) = omega arith in
    let e₂ : e - 4 ≡ 2 * (h + 2) = omega arith in
    let e₁ : e - 6 ≡ 2 * (h + 1) = omega arith in
    let e₀ : e - 8 ≡ 2 * h = omega arith in
    let n₁ = c.negated.ensures in
    let n₂ = c.negated-2.ensures in
    let m₀ = g.S.Solver.means c.args.below.now in
    let m₁ = g.S.Solver.means c.post.new.self in
    let m₂ = g.S.Solver.means c.post-2.new.self in
    let m₃ = g.S.Solver.means c.post-3.new.self in
    let l₁ : ◌≡◌ {A = List ℕ} (c.negated.result ∷ (e - 8) ∷ (e - 6) ∷ []) (opposite p ∷ 2 * h ∷ 2 * (h + 1) ∷ []) = cc in
    let p₁ = subst (λ (row : List ℕ). Posts m₀ m₁ row c.post.result) l₁ (c.post.ensures.posts (inl s)) in
    let s₁ = c.post.ensures.still s in
    let l₂ : ◌≡◌ {A = List ℕ} (q ∷ (e - 6) ∷ (e - 4) ∷ []) (q ∷ 2 * (h + 1) ∷ 2 * (h + 2) ∷ []) = cc in
    let p₂ = subst (λ (row : List ℕ). Posts m₁ m₂ row c.post-2.result) l₂ (c.post-2.ensures.posts (inl s₁)) in
    let s₂ = c.post-2.ensures.still s₁ in
    let l₃ : ◌≡◌ {A = List ℕ} (c.negated-2.result ∷ (e - 4) ∷ (e - 2) ∷ []) (opposite r ∷ 2 * (h + 2) ∷ 2 * (h + 3) ∷ []) = cc in
    let p₃ = subst (λ (row : List ℕ). Posts m₂ m₃ row c.post-3.result) l₃ (c.post-3.ensures.posts (inl s₂)) in
    let a₁ = posting-more m₁ (opposite p ∷ 2 * h ∷ 2 * (h + 1) ∷ []) _ (posting-start m₀ (gadget p q r (2 * h) (2 * (h + 1)) (2 * (h + 2)) (2 * (h + 3)) (2 * (h + 4)))) c.post.result p₁ c.post.ensures.kept in
    let a₂ = posting-more m₂ (q ∷ 2 * (h + 1) ∷ 2 * (h + 2) ∷ []) _ a₁ c.post-2.result p₂ c.post-2.ensures.kept in
    posting-stop m₃ (opposite r ∷ 2 * (h + 2) ∷ 2 * (h + 3) ∷ []) _ a₂ c.post-3.result p₃ (ap is_ok c.in_err-post-3.was) c.from_residual-in_err-post-3.result

pub returns-clause-passes : goal.returns-clause-passes
returns-clause-passes g c = λ s.
    let p = c.args.p in
    let q = c.args.q in
    let r = c.args.r in
    let h = c.args.helper in
    let e = c.in_ok-e.e in
    let f = c.in_ok-e.ensures in
    let u = c.saturating_add.ensures in
    let e₄ : e ≡ 2 * (h + 4) = omega arith in
    let e₃ : e - 2 ≡ 2 * (h + 3) = omega arith in
    let e₂ : e - 4 ≡ 2 * (h + 2) = omega arith in
    let e₁ : e - 6 ≡ 2 * (h + 1) = omega arith in
    let e₀ : e - 8 ≡ 2 * h = omega arith in
    let n₁ = c.negated.ensures in
    let n₂ = c.negated-2.ensures in
    let m₀ = g.S.Solver.means c.args.below.now in
    let m₁ = g.S.Solver.means c.post.new.self in
    let m₂ = g.S.Solver.means c.post-2.new.self in
    let m₃ = g.S.Solver.means c.post-3.new.self in
    let m₄ = g.S.Solver.means c.post-4.new.self in
    let l₁ : ◌≡◌ {A = List ℕ} (c.negated.result ∷ (e - 8) ∷ (e - 6) ∷ []) (opposite p ∷ 2 * h ∷ 2 * (h + 1) ∷ []) = cc in
    let p₁ = subst (λ (row : List ℕ). Posts m₀ m₁ row c.post.result) l₁ (c.post.ensures.posts (inl s)) in
    let s₁ = c.post.ensures.still s in
    let l₂ : ◌≡◌ {A = List ℕ} (q ∷ (e - 6) ∷ (e - 4) ∷ []) (q ∷ 2 * (h + 1) ∷ 2 * (h + 2) ∷ []) = cc in
    let p₂ = subst (λ (row : List ℕ). Posts m₁ m₂ row c.post-2.result) l₂ (c.post-2.ensures.posts (inl s₁)) in
    let s₂ = c.post-2.ensures.still s₁ in
    let l₃ : ◌≡◌ {A = List ℕ} (c.negated-2.result ∷ (e - 4) ∷ (e - 2) ∷ []) (opposite r ∷ 2 * (h + 2) ∷ 2 * (h + 3) ∷ []) = cc in
    let p₃ = subst (λ (row : List ℕ). Posts m₂ m₃ row c.post-3.result) l₃ (c.post-3.ensures.posts (inl s₂)) in
    let s₃ = c.post-3.ensures.still s₂ in
    let l₄ : ◌≡◌ {A = List ℕ} ((e - 8) ∷ (e - 4) ∷ e ∷ []) (2 * h ∷ 2 * (h + 2) ∷ 2 * (h + 4) ∷ []) = cc in
    let p₄ = subst (λ (row : List ℕ). Posts m₃ m₄ row c.post-4.result) l₄ (c.post-4.ensures.posts (inl s₃)) in
    let a₁ = posting-more m₁ (opposite p ∷ 2 * h ∷ 2 * (h + 1) ∷ []) _ (posting-start m₀ (gadget p q r (2 * h) (2 * (h + 1)) (2 * (h + 2)) (2 * (h + 3)) (2 * (h + 4)))) c.post.result p₁ c.post.ensures.kept in
    let a₂ = posting-more m₂ (q ∷ 2 * (h + 1) ∷ 2 * (h + 2) ∷ []) _ a₁ c.post-2.result p₂ c.post-2.ensures.kept in
    let a₃ = posting-more m₃ (opposite r ∷ 2 * (h + 2) ∷ 2 * (h + 3) ∷ []) _ a₂ c.post-3.result p₃ c.post-3.ensures.kept in
    posting-last m₄ (2 * h ∷ 2 * (h + 2) ∷ 2 * (h + 4) ∷ []) a₃ c.post-4.result p₄
