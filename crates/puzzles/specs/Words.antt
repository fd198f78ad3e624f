-- Words that several puzzles use.
use Rattle.std.specs.Prelude.{ℕ, zero, suc, Bool, true, ◌&&◌, List, map, nat_eq}
use Rattle.rows.specs.Truth.{trues}

-- a test passes at every number below n
abbrev pub every : ℕ → (ℕ → Bool) → Bool
every zero test = true
every (suc n) test = test n && every n test

-- how often a value stands in a list
abbrev pub times : ℕ → List ℕ → ℕ
times v a = trues (map (nat_eq v) a)

-- each value below n stands once in a list
abbrev pub each_once : ℕ → List ℕ → Bool
each_once n a = every n (λ v. nat_eq (times v a) 1)
