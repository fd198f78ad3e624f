-- The text of a bill, as a loop over the counts writes it.
use Rattle.std.proofs.Common.{◌≡◌, ℕ, ◌+◌, ◌<◌, ◌≤◌, Bool, true, false, cond, List, [], ◌∷◌, ◌++◌, length, get_or, drop, codes, refl, ◌∙◌, append_assoc, arith}
use Rattle.std.proofs.lemmas.List.{at_drop_more, at_drop_all}
use Rattle.std.proofs.lemmas.Bool.Decides.{nat_tests}
use Rattle.std.proofs.Output.{writes_in_calls_nil, has_written_of_eq, has_written_append}
use Rattle.std.specs.List.{flat_map}
use Rattle.std.specs.Fmt.{IsPlainFormatter, HasWritten}
use Rattle.std.specs.declared.fmt.Formatter.{Formatter}
use Rattle.rows.specs.Bills.{count_text, listed, in_words, bill_text}

-- what goes before the next text, by whether any text came before it
abbrev pub comma : Bool → List ℕ
comma any = cond any (codes ", ") []

-- what is still to be written where the texts ts are left
abbrev pub left : Bool → List (List ℕ) → List ℕ
left any ts = cond any (flat_map (λ t. codes ", " ++ t) ts) (in_words ts)

-- the first of the texts that are left
left-more : (any : Bool) (t : List ℕ) (ts : List (List ℕ)) → left any (t ∷ ts) ≡ (comma any ++ t) ++ left true ts
left-more true t ts = refl
left-more false t ts = refl

-- a count of 0 is passed over
listed-zero : (cs : List ℕ) (k : ℕ) → k < length cs → get_or cs k 0 ≡ 0 → listed k (drop k cs) ≡ listed (k + 1) (drop (k + 1) cs)
listed-zero cs k h e = at_drop_more (listed k) cs k 0 h ∙ grind (arith, nat_tests)

-- a count above 0 is listed
listed_more : (cs : List ℕ) (k : ℕ) → k < length cs → 0 < get_or cs k 0 → listed k (drop k cs) ≡ count_text (get_or cs k 0) k ∷ listed (k + 1) (drop (k + 1) cs)
listed_more cs k h e = at_drop_more (listed k) cs k 0 h ∙ grind (arith, nat_tests)

-- nothing is written
pub put-none : {W : Type 0} {took : W → List ℕ → W → Type 0} {f : Formatter W} → IsPlainFormatter f → HasWritten took f [] f
put-none {took = took} {f = f} p = record { wrote = writes_in_calls_nil took f.writer; plain = p }

-- from f to g all of a bill's text was written but what is left from length k on
pub record Part {W : Type 0} (took : W → List ℕ → W → Type 0) (f : Formatter W) (cs : List ℕ) (any : Bool) (k : ℕ) (g : Formatter W) : Type 0 where
  pub text : List ℕ
  pub put : HasWritten took f text g
  pub whole : text ++ left any (listed k (drop k cs)) ≡ bill_text cs

-- at length 0 nothing was written
pub part-start : {W : Type 0} {took : W → List ℕ → W → Type 0} {f : Formatter W} (cs : List ℕ) → IsPlainFormatter f → Part took f cs false 0 f
unfolding bill_text
part-start cs p = record { text = []; put = put-none p; whole = refl }

module _ {W : Type 0} {took : W → List ℕ → W → Type 0} {f g : Formatter W} {cs : List ℕ} {any : Bool} {k : ℕ} (p : Part took f cs any k g) where
  -- a count of 0 writes nothing
  pub part-zero : k < length cs → get_or cs k 0 ≡ 0 → Part took f cs any (k + 1) g
  part-zero lt e = record { text = p.text; put = p.put; whole = rw (listed-zero cs k lt e) at p.whole }

  -- a count above 0 is written, after a comma if any came before it
  pub part-more : {h : Formatter W} (i : Formatter W) → k < length cs → 0 < get_or cs k 0 → HasWritten took g (comma any) h → HasWritten took h (count_text (get_or cs k 0) k) i → Part took f cs true (k + 1) i
  part-more {h = h} i lt e q r = record {
    text = p.text ++ (comma any ++ count_text (get_or cs k 0) k);
    put = has_written_append took f p.text g _ i p.put (has_written_append took g (comma any) h _ i q r);
    whole = rw append_assoc (rw (listed_more cs k lt e, left-more any _ _) at p.whole);
  }

  -- past the last count only "none" can be left
  pub part_end : (h : Formatter W) → length cs ≤ k → HasWritten took g (left any []) h → HasWritten took f (bill_text cs) h
  part_end h le q = has_written_of_eq took f _ _ h (rw (at_drop_all (listed k) cs k le) at p.whole) (has_written_append took f p.text g _ h p.put q)
