-- The tally of what was replayed.
use Rattle.std.specs.Prelude.{◌≡◌, ℕ, ◌+◌, ◌-◌, ◌%◌, ◌^◌, Bool, cond, List, length, Option, None, Some, fold, ◌⊎◌}
use Rattle.std.specs.List.{FoldsTo}
use Rattle.vectors.specs.declared.Tally.{Tally}

-- how many were compared, and how many of them differ
abbrev pub tally_of : ℕ → ℕ → Tally
tally_of compared differ = record { compared = compared; differ = differ }

-- one more, as a u64 counts
abbrev pub one_more : ℕ → ℕ
one_more n = (n + 1) % 2 ^ 64

-- the tally after a record: one more was compared, and one more differs unless it agrees
abbrev pub with_record : Tally → Bool → Tally
with_record t agrees = tally_of (one_more t.compared) (cond agrees t.differ (one_more t.differ))

-- the tally of these records, of which each agrees or does not
abbrev pub tallied : List Bool → Tally
tallied records = fold with_record (tally_of 0 0) records

-- turns of a closure that each gave a record, one after another, until one gave none or as many came as a u64 counts: their tally
pub record Replayed {F : Type 0} (step : F → Option Bool → F → Type 0) (turn : F) (tally : Tally) : Type 0 where
  pub records : List Bool
  pub last : F
  pub ran : FoldsTo (λ before agrees after. step before (Some agrees) after) turn records last
  pub is : tally ≡ tallied records
  pub ended : ((end : F) × step last None end) ⊎ (length records ≡ 2 ^ 64 - 1)
