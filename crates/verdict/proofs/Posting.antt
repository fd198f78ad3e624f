-- Posting the rows of a board one by one.
use Rattle.std.proofs.Common.{◌≡◌, ℕ, ◌-◌, ◌≤◌, Bool, ◌&&◌, eqb, List, [], ◌∷◌, ◌++◌, length, get_or, set, None, refl, sym, ap, ◌∙◌, arith}
use mathlib.Core.Path.{fun_ext}
use Rattle.std.proofs.Math.Bool.{and_assoc}
use Rattle.std.proofs.lemmas.List.Recursion.{and_push}
use Rattle.std.proofs.lemmas.Bool.{le-leb}
use Rattle.std.proofs.lemmas.Bool.Decides.{nat_tests}
use Rattle.rows.specs.declared.kinds.Kind.TheVariants.{Cover}
use Rattle.rows.specs.Bills.{bill_of}
use Rattle.rows.specs.Kinds.{longest}
use Rattle.rows.specs.Truth.{valuation, holds, all_hold, first_wide}
use Rattle.rows.proofs.Tallies.{bill-none}
use Rattle.solver.specs.Calls.{Kept, Opened, Posted}
use Rattle.solver.specs.Meaning.{Meaning}
use Rattle.solver.specs.Stops.{post_stop}
use Rattle.puzzles.specs.Boards.{Board, Lined, rows, vars as board_vars}
use Rattle.puzzles.proofs.Narrow.{board-narrow}
use Rattle.puzzles.proofs.Reading.{row-of-turn, after-turn, whole-at-end}
use Rattle.verdict.specs.Counting.{Started}
use Rattle.verdict.proofs.Dues.{bill-less, bill-owes}

-- the solutions of some of the rows of a board
abbrev pub solution_of : Board → List (List ℕ) → List Bool → Bool
solution_of b so_far xs = eqb (length xs) (board_vars b) && all_hold Cover (valuation xs) so_far

-- the rows so far of a board are posted, and those that are left are owed
pub record Posting (b : Board) (so_far left : List (List ℕ)) (m : Meaning) : Type 0 where
  pub whole : so_far ++ left ≡ rows b
  pub kind : m.kind ≡ Cover
  pub vars : m.vars ≡ board_vars b
  pub owed : m.owed ≡ bill_of left
  pub solves : m.solves ≡ solution_of b so_far
  pub drawn : m.drawn ≡ []
  pub current : m.current ≡ None

-- before the first row, all are owed
pub posting-none : (b : Board) (left : List (List ℕ)) (m : Meaning) → left ≡ rows b → m.kind ≡ Cover → Opened m (board_vars b) (bill_of (rows b)) → Posting b [] left m
posting-none b left m all kind o = record {
  whole = all;
  kind = kind;
  vars = o.vars;
  owed = o.owed ∙ sym (ap bill_of all);
  solves = o.solves ∙ fun_ext (λ xs. grind (arith, nat_tests));
  drawn = o.drawn;
  current = o.current;
}

module _ (b : Board) (lined : Lined b) (so_far left rest : List (List ℕ)) (m : Meaning) (p : Posting b so_far left m) (row : List ℕ) (turn : left ≡ row ∷ rest) (short : length row ≤ longest) where
  -- the next row is owed
  due : m.owed ≡ bill_of (row ∷ rest)
  due = p.owed ∙ ap bill_of turn

  -- and is not refused
  pub posting-free : post_stop m.kind m.vars m.owed row ≡ None
  posting-free =
      let r = row-of-turn (rows b) so_far left rest row p.whole turn in
      let w : first_wide (board_vars b) 0 row ≡ None = rw r.1 (board-narrow b lined (length so_far) r.0) in
      let l = le-leb (length row) longest short in
      let o = bill-owes row rest (omega arith) in
      rw (p.kind, p.vars, due, l, w, o)

  -- the solutions that make it true too are those of one row more
  more-solves : (xs : List Bool) → (m.solves xs && holds m.kind (valuation xs) row) ≡ solution_of b (so_far ++ row ∷ []) xs
  more-solves xs =
      let v = valuation xs in
      let f : m.solves xs ≡ solution_of b so_far xs = ap (λ (g : List Bool → Bool). g xs) p.solves in
      rw (p.kind, f, and_push (all_hold Cover v) (holds Cover v) refl (λ _ _. refl) so_far row) (and_assoc (eqb (length xs) (board_vars b)) (all_hold Cover v so_far) (holds Cover v row))

  -- once it is posted, one row more is
  pub posting-more : (m' : Meaning) → Kept m m' → Posted m m' row → Posting b (so_far ++ row ∷ []) rest m'
  posting-more m' k q = record {
    whole = after-turn (rows b) so_far left rest row p.whole turn;
    kind = k.kind ∙ p.kind;
    vars = q.vars ∙ p.vars;
    owed = q.owed ∙ (ap (λ (cs : List ℕ). set cs (length row) (get_or cs (length row) 0 - 1)) due ∙ bill-less row rest (omega arith));
    solves = q.solves ∙ fun_ext more-solves;
    drawn = q.drawn ∙ p.drawn;
    current = q.current ∙ p.current;
  }

-- where none is left all are posted
pub posting-all : (b : Board) (so_far left : List (List ℕ)) (m : Meaning) → Posting b so_far left m → left ≡ [] → Started b m
posting-all b so_far left m p e =
    let all = whole-at-end (rows b) so_far left p.whole e in
    record {
      posed = record { vars = p.vars; owed = p.owed ∙ (ap bill_of e ∙ bill-none); solves = p.solves ∙ ap (solution_of b) all };
      drawn = p.drawn;
      current = p.current;
    }
