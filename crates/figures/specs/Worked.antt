-- Figures that were worked out by hand from the rules, said of the definitions.
use Rattle.std.specs.Prelude.{◌≡◌, ℕ, zero, suc, ◌+◌, Bool, true, false, List, [], ◌∷◌, ◌++◌, map, filter, length, replicate, Some, None, Option, nat_eq, slice_set}
use Rattle.rows.specs.declared.kinds.Kind.{Kind}
use Rattle.rows.specs.declared.kinds.Kind.TheVariants.{Triples as OfThree}
use Rattle.rows.specs.declared.stops.Fault.{Fault}
use Rattle.rows.specs.declared.stops.Stop.TheVariants.{Big}
use Rattle.rows.specs.Bills.{bill_of}
use Rattle.rows.specs.Kinds.{lengths}
use Rattle.rows.specs.Truth.{all_hold, valuation}
use Rattle.solver.specs.Meaning.{Meaning}
use Rattle.search.specs.Room.{open_stop}
use Rattle.puzzles.specs.Boards.{Board, rows, vars}
use Rattle.latin.specs.Latin.{latin}
use Rattle.queens.specs.Queens.{queens}
use Rattle.reductions.specs.Bills.{bill_below, helped}
use Rattle.reductions.specs.Joints.{joint_stop, reduced}
use Rattle.reductions.specs.Rules.{Rule}
use Rattle.reductions.specs.Translations.{chain, pairs, triples}

-- all lists of n truth values, false before true from the first on
abbrev pub lists : ℕ → List (List Bool)
lists zero = [] ∷ []
lists (suc n) = map (λ xs. false ∷ xs) (lists n) ++ map (λ xs. true ∷ xs) (lists n)

-- so many rows of each of these lengths, and of no other
abbrev pub counts : List (ℕ × ℕ) → List ℕ
counts [] = replicate lengths 0
counts (c ∷ cs) = slice_set (counts cs) c.0 c.1

-- variables and a bill, and those below a translation
pub record Level : Type 0 where
  pub n : ℕ
  pub bill : List ℕ

abbrev pub under : Rule → Level → Level
under t l = record { n = l.n + helped t 0 l.bill; bill = bill_below t l.bill }

-- a newly made solver of a kind, with no variables, that takes what w numbers are enough for
abbrev pub foot : Kind → ℕ → Meaning
foot kind w = record {
  kind = kind;
  stop = open_stop 1 kind w;
  vars = 0;
  owed = counts [];
  solves = λ xs. nat_eq (length xs) 0;
  drawn = [];
  current = None;
  joints = [];
}

-- by what pairs upon chain upon triples, upon such a solver of triples, refuses a level
abbrev pub stack_stop : ℕ → Level → Option Fault
stack_stop w l = joint_stop pairs (reduced chain 0 (counts []) (reduced triples 0 (counts []) (foot OfThree w))) l.n l.bill

abbrev pub twelve : Level
twelve = record { n = 8; bill = counts ((2, 12) ∷ []) }

-- what a board poses
abbrev pub posed : Board → Level
posed b = record { n = vars b; bill = bill_of (rows b) }

abbrev pub f : Bool
f = false

abbrev pub t : Bool
t = true

pub record Worked : Type 0 where
  -- of the values of p, q, r and a, b, c, d, e, these make the rows of three literals true: each of seven values of p, q, r goes with
  -- one of the helpers, and 0 0 0 with none
  pub gadget : filter (λ xs. all_hold OfThree (valuation xs) (triples.rows (0 ∷ 2 ∷ 4 ∷ []) 3)) (lists 8) ≡
      (f ∷ f ∷ t ∷ f ∷ f ∷ t ∷ f ∷ f ∷ [])
      ∷ (f ∷ t ∷ f ∷ f ∷ f ∷ f ∷ f ∷ t ∷ [])
      ∷ (f ∷ t ∷ t ∷ f ∷ f ∷ f ∷ t ∷ t ∷ [])
      ∷ (t ∷ f ∷ f ∷ f ∷ t ∷ f ∷ f ∷ t ∷ [])
      ∷ (t ∷ f ∷ t ∷ f ∷ t ∷ f ∷ t ∷ t ∷ [])
      ∷ (t ∷ t ∷ f ∷ t ∷ f ∷ f ∷ f ∷ f ∷ [])
      ∷ (t ∷ t ∷ t ∷ t ∷ f ∷ f ∷ t ∷ f ∷ [])
      ∷ []
  -- a row of four through chain: one helper, two rows of two and two of three
  pub four : (chain.helpers 4 ≡ 1) × (bill_below chain (counts ((4, 1) ∷ [])) ≡ counts ((2, 2) ∷ (3, 2) ∷ []))
  -- the Latin square of size 2 poses twelve rows of two over eight variables
  pub square : posed (latin 2 []) ≡ twelve
  -- these are 24 rows below pairs, and below chain and triples 24 rows over 32 variables; 128 numbers are enough for those, and with one
  -- less the solver at the foot refuses them, three joints deep
  pub twelve_pairs : under pairs twelve ≡ record { n = 8; bill = counts ((2, 24) ∷ []) }
  pub twelve_triples : under triples (under chain (under pairs twelve)) ≡ record { n = 32; bill = counts ((3, 24) ∷ []) }
  pub twelve_taken : stack_stop 128 twelve ≡ None
  pub twelve_refused : stack_stop 127 twelve ≡ Some (record { stop = Big; depth = 3 })
  -- queens of size 4
  pub board : posed (queens 4 []) ≡ record { n = 26; bill = counts ((3, 4) ∷ (4, 12) ∷ (5, 2) ∷ []) }
  pub board_pairs : under pairs (posed (queens 4 [])) ≡ record { n = 26; bill = counts ((2, 104) ∷ (3, 4) ∷ (4, 12) ∷ (5, 2) ∷ []) }
  pub board_triples : under triples (under chain (under pairs (posed (queens 4 [])))) ≡ record { n = 348; bill = counts ((3, 272) ∷ []) }
