-- The list of pairs where it lies flat: `due` has the grades, `mates` the rows, and the working table is flat too.
use Rattle.std.specs.Prelude.{ℕ, ◌*◌, ◌/◌, ◌%◌, ◌≤◌, List, length, get_or, take, drop}
use Rattle.terms.specs.Flat.{numbered, table_of}
use Rattle.terms.specs.Table.{Row}
use Rattle.pairs.specs.declared.Pair.{Pair}
use Rattle.pairs.specs.Pairs.{PairList, Enterable}

-- 24 counts as a row
abbrev pub halves : List ℕ → Row
halves counts = record { head = take 12 counts; tail = drop 12 counts }

-- the pair at place k: `mates` has 256 times the first row, and the second
abbrev pub pair_at : List ℕ → List ℕ → ℕ → Pair
pair_at due mates k = record { due = get_or due k 0; first = get_or mates k 0 / 256; second = get_or mates k 0 % 256 }

-- the list that the first `pairs` places are
abbrev pub pairs_of : List ℕ → List ℕ → ℕ → List Pair
pairs_of due mates pairs = numbered (pair_at due mates) 0 pairs

-- the first n rows of the flat table have been entered
abbrev pub FlatPairList : ℕ → List ℕ → List ℕ → ℕ → List ℕ → List ℕ → ℕ → Type 0
FlatPairList bound sizes flat n due mates pairs = PairList bound sizes (table_of 12 flat n) n (pairs_of due mates pairs)

-- what entering them asks, and that they lie in the flat table
abbrev pub FlatEnterable : ℕ → List ℕ → List ℕ → ℕ → Type 0
FlatEnterable bound sizes flat n = Enterable bound sizes (table_of 12 flat n) n × (n * 24 ≤ length flat)
