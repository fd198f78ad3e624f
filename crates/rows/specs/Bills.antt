-- The bill of a list of rows, and how a bill is printed.
use Rattle.std.specs.Prelude.{ℕ, ◌+◌, Bool, true, cond, ◌&&◌, ◌||◌, List, [], ◌∷◌, ◌++◌, map, length, codes, decimal, Option, ◌==◌, nat_eq, nat_le}
use Rattle.std.specs.List.{range_with_len, flat_map}
use Rattle.rows.specs.declared.kinds.Kind.{Kind}
use Rattle.rows.specs.Firsts.{first_failing}
use Rattle.rows.specs.Kinds.{has_length, lengths}
use Rattle.rows.specs.Truth.{trues}

-- how many rows have k literals
abbrev pub rows_of_length : List (List ℕ) → ℕ → ℕ
rows_of_length rows k = trues (map (λ row. nat_eq (length row) k) rows)

-- the count at each length
unfoldable pub bill_of : List (List ℕ) → List ℕ
bill_of rows = map (rows_of_length rows) (range_with_len 0 lengths)

-- the shortest length of which there is a row
abbrev pub shortest : List ℕ → Option ℕ
shortest counts = first_failing (λ c. nat_eq c 0) 0 counts

-- no solver takes more rows of one length
abbrev pub most_rows : ℕ
most_rows = 65535

-- a count c of rows of k literals is no more than that, and 0 where the kind lacks the length
abbrev pub count_within : Kind → ℕ → ℕ → Bool
count_within kind k c = nat_le c most_rows && (c == 0 || has_length kind k)

-- the counts of the lengths from k on are within the limits of a kind
abbrev pub counts_within : Kind → ℕ → List ℕ → Bool
counts_within kind k [] = true
counts_within kind k (c ∷ cs) = count_within kind k c && counts_within kind (k + 1) cs

-- a count c of rows of k literals, as "4 of length 3"
abbrev pub count_text : ℕ → ℕ → List ℕ
count_text c k = decimal c ++ (codes " of length " ++ decimal k)

-- the counts above 0, from length k on
abbrev pub listed : ℕ → List ℕ → List (List ℕ)
listed k [] = []
listed k (c ∷ cs) = cond (c == 0) (listed (k + 1) cs) (count_text c k ∷ listed (k + 1) cs)

-- texts with commas between them, or "none"
abbrev pub in_words : List (List ℕ) → List ℕ
in_words [] = codes "none"
in_words (t ∷ ts) = t ++ flat_map (λ u. codes ", " ++ u) ts

-- the text of a bill with these counts, as "4 of length 3, 12 of length 4"
unfoldable pub bill_text : List ℕ → List ℕ
bill_text cs = in_words (listed 0 cs)
