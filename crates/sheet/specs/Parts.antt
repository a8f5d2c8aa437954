-- What the parts of the reader answer and leave.
use Rattle.std.specs.Prelude.{ℕ, ◌-◌, ◌*◌, ◌≤◌, ◌≡◌, List, ◌++◌, ℤ, pos, length, take, drop, replicate, Ok, Err}
use Rattle.std.specs.Prelude as std
use Rattle.terms.specs.declared.Refused.{Refused}
use Rattle.terms.specs.Limits.{most_kinds, most_swaps, most_loads}
use Rattle.shapes.specs.Split.{Got, fine, wrong, split}
use Rattle.sheet.specs.declared.Counts.{Counts}
use Rattle.sheet.specs.declared.Block.{Block}
use Rattle.sheet.specs.declared.Rest.{Rest}
use Rattle.sheet.specs.Sheet.{Records, loads_after, Sheet, Result}

-- the swap lines are read: the loads follow
abbrev pub swaps_got : ℕ → std.Result Block Refused → List ℕ → List ℕ → Got (Records × Records)
swaps_got n (Ok block) table text = loads_after n block.count (take (block.count * (2 * n)) table) (split 10 (drop block.next text))
swaps_got n (Err refused) table text = wrong refused.why refused.place

-- the load lines are read, so many
abbrev pub loads_got : ℕ → std.Result ℕ Refused → List ℕ → Got Records
loads_got n (Ok count) table = fine (record { number = count; counts = take (count * n) table })
loads_got n (Err refused) table = wrong refused.why refused.place

-- no more swaps than there is room for
abbrev pub Within : ℕ → std.Result Block Refused → Type 0
Within room (Ok block) = block.count ≤ room
Within room (Err refused) = Unit {0}

abbrev pub rest_got : ℕ → std.Result Rest Refused → List ℕ → List ℕ → Got (Records × Records)
rest_got n (Ok rest) swaps loads = fine (record { number = rest.swaps; counts = take (rest.swaps * (2 * n)) swaps }, record { number = rest.loads; counts = take (rest.loads * n) loads })
rest_got n (Err refused) swaps loads = wrong refused.why refused.place

abbrev pub RestWithin : std.Result Rest Refused → Type 0
RestWithin (Ok rest) = (rest.swaps ≤ most_swaps) × (rest.loads ≤ most_loads)
RestWithin (Err refused) = Unit {0}

-- the whole text is read
abbrev pub read_got : std.Result Counts Refused → List ℕ → List ℤ → List ℕ → List ℕ → Got Sheet
read_got (Ok c) sizes costs swaps loads =
    fine (record {
      kit = record { kinds = c.kinds; bound = c.bound };
      sizes = take c.kinds sizes;
      costs = take c.kinds costs;
      swaps = record { number = c.swaps; counts = take (c.swaps * (2 * c.kinds)) swaps };
      loads = record { number = c.loads; counts = take (c.loads * c.kinds) loads };
    })
read_got (Err refused) sizes costs swaps loads = wrong refused.why refused.place

abbrev pub ReadWithin : std.Result Counts Refused → Type 0
ReadWithin (Ok c) = (c.kinds ≤ most_kinds) × (c.swaps ≤ most_swaps) × (c.loads ≤ most_loads)
ReadWithin (Err refused) = Unit {0}

-- how many numbers of each buffer an answer keeps: none where it refuses
abbrev pub kept_of : std.Result Counts Refused → Counts
kept_of (Ok c) = c
kept_of (Err refused) = record { kinds = 0; bound = 0; swaps = 0; loads = 0 }

-- each buffer holds what is kept, and then 0
pub record Ended (r : std.Result Counts Refused) (z : List ℕ) (k : List ℤ) (w l : List ℕ) (now : Result) : Type 0 where
  pub answer : now.answer ≡ r
  pub sizes : now.sizes ≡ take (kept_of r).kinds z ++ replicate (length z - (kept_of r).kinds) 0
  pub costs : now.costs ≡ take (kept_of r).kinds k ++ replicate (length k - (kept_of r).kinds) (pos 0)
  pub swaps : now.swaps ≡ take ((kept_of r).swaps * (2 * (kept_of r).kinds)) w ++ replicate (length w - (kept_of r).swaps * (2 * (kept_of r).kinds)) 0
  pub loads : now.loads ≡ take ((kept_of r).loads * (kept_of r).kinds) l ++ replicate (length l - (kept_of r).loads * (kept_of r).kinds) 0
