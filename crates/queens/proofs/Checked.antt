-- What an answer is, as chains of iterators compute it.
use Rattle.std.proofs.Common.{◌≡◌, ℕ, not, ◌&&◌, eqb, ltb, List, length, count_by}
use Rattle.std.specs.List.{range_with_len, list_all}
use Rattle.std.proofs.lemmas.Bool.{eqb-true}
use Rattle.puzzles.specs.Givens.{all_given}
use Rattle.puzzles.specs.declared.givens.Given.{Given}
use Rattle.puzzles.proofs.Chains.{every-list, times-count}
use Rattle.puzzles.proofs.Every.{every-range, same_after}
use Rattle.queens.specs.Queens.{aligned, queens_answer}

-- what an answer of queens is, by the checks that the code makes
pub queens_checked : (n : ℕ) (gs : List Given) (a : List ℕ) → queens_answer n gs a ≡ (eqb (length a) n && (list_all (λ x. ltb x n) a && (list_all (λ c. eqb (count_by (λ x. eqb x c) a) 1) (range_with_len 0 n) && (list_all (λ j. list_all (λ i. not (aligned a i j)) (range_with_len 0 j)) (range_with_len 0 (length a)) && all_given gs a))))
queens_checked n gs a = same_after (eqb (length a) n) _ _ (λ h. let e = eqb-true (length a) n h in simp (e, every-range, times-count, every-list (λ x. ltb x n) a 0))
