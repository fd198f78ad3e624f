-- Answers and truth values, each from the other.
use Rattle.std.proofs.Common.{◌≡◌, ℕ, ◌+◌, ◌≤◌, Bool, true, false, cond, not, ◌&&◌, eqb, List, [], ◌∷◌, ◌++◌, length, drop, is_some, Some, None, Ok, Err, Option, Result, sym, refl, ap, ◌∙◌, arith}
use Rattle.std.proofs.lemmas.Bool.{le-ltb, and_from}
use Rattle.std.proofs.lemmas.Bool.Decides.{nat_tests}
use Rattle.rows.specs.declared.kinds.Kind.TheVariants.{Cover}
use Rattle.rows.specs.declared.stops.Fault.{Fault}
use Rattle.rows.specs.declared.stops.Stop.TheVariants.{Wrong}
use Rattle.rows.specs.Stops.{here}
use Rattle.rows.specs.Truth.{valuation, holds, all_hold, first_false}
use Rattle.puzzles.specs.Boards.{Board, Faithful, decode, encode, rows, vars}
use Rattle.puzzles.specs.Calls.{Decoded, Encoded, decode_stop, encode_stop, failing, fill_stop}

-- an answer that is filled in is encoded
pub encode-done : (b : Board) → Faithful b → (a : List ℕ) (before after : List Bool) → fill_stop b (length a) (length before) ≡ None → b.answer a ≡ true → after ≡ encode b a ++ drop (vars b) before → (encode_stop b a (length before) ≡ None) × Encoded b a before after
encode-done b k a before after f h w =
    let law = k.encodes a h in
    (rw (f, h), record { written = w; solves = law.0; back = law.1 })

-- a search for a row that is not true says whether all are
none-false : (v : ℕ → Bool) (i : ℕ) (rs : List (List ℕ)) → is_some (first_false Cover v i rs) ≡ not (all_hold Cover v rs)
none-false v i [] = refl
none-false v i (r ∷ rs) = elim (holds Cover v r) as (λ t. is_some (cond t (first_false Cover v (i + 1) rs) (Some i)) ≡ not (t && all_hold Cover v rs)) [ true ↦ none-false v (i + 1) rs | false ↦ refl ]

-- what it found, and that there is a value for each variable
found : (c : Bool) (x o : Option ℕ) (f : Fault) → ◌≡◌ {A = Result (Option ℕ) Fault} (cond c (Ok x) (Err f)) (Ok o) → (c ≡ true) × (x ≡ o)
found true x o f e = (refl, cc)
found false x o f e = let z : ◌≡◌ {A = ℕ} 0 1 = cc in absurd (omega arith)

-- so whether all rows are true
solves-is : (b : Board) (xs : List Bool) (o : Option ℕ) → failing b xs ≡ Ok o → (eqb (length xs) (vars b) ≡ true) × (all_hold Cover (valuation xs) (rows b) ≡ not (is_some o))
solves-is b xs o e =
    let p = found (eqb (length xs) (vars b)) _ o _ e in
    let q = none-false (valuation xs) 0 (rows b) in
    let s : is_some o ≡ not (all_hold Cover (valuation xs) (rows b)) = ap is_some (sym p.1) ∙ q in
    let t = p.0 in
    (t, grind (arith, nat_tests))

-- a solution that is read is decoded
pub decode-done : (b : Board) → Faithful b → (xs : List Bool) (before after : List ℕ) (o : Option ℕ) → b.places ≤ length before → failing b xs ≡ Ok o → is_some o ≡ false → after ≡ decode b xs ++ drop b.places before → (decode_stop b xs (length before) ≡ None) × Decoded b xs before after
decode-done b k xs before after o m e n w =
    let s = solves-is b xs o e in
    let h : all_hold Cover (valuation xs) (rows b) ≡ true = s.1 ∙ ap not n in
    let law = k.decodes xs (and_from _ _ s.0 h) in
    (rw (le-ltb (length before) b.places m, s.0, h), record { written = w; answers = law.0; back = law.1 })

-- what is no solution is refused
pub decode-wrong : (b : Board) (xs : List Bool) (m : ℕ) (o : Option ℕ) → b.places ≤ m → failing b xs ≡ Ok o → is_some o ≡ true → decode_stop b xs m ≡ Some (here (Wrong 0))
decode-wrong b xs m o h e n =
    let s = solves-is b xs o e in
    let f : all_hold Cover (valuation xs) (rows b) ≡ false = s.1 ∙ ap not n in
    rw (le-ltb m b.places h, s.0, f)
