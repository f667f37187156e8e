-- A store's bytes tested where they stand, without encoding the document again. None of this is part of what a reader must believe: a theorem says that these tests decide 22.
use Rattle.std.specs.Prelude.{ℕ, zero, suc, ◌+◌, ◌*◌, Bool, ◌&&◌, get_or, take, drop, ltb, eqb}
use Rattle.program.specs.Test.{pick, all}
use Rattle.program.specs.Each.{every}
use Rattle.format.specs.Limits.{row_limit}
use Rattle.format.specs.Text.{Bytes}
use Rattle.format.specs.Read.{row_numbers}
use Rattle.calls.specs.Layout.{row_size, rows_size, sets_size, claims_start, code_limit, row_bytes, row_of, same}

-- how many rows stand before the first of kind 0, k at most
unfoldable pub count_rows : ℕ → Bytes → ℕ
count_rows zero s = 0
count_rows (suc k) s = pick (eqb (get_or s 0 0) 0) 0 (suc (count_rows k (drop row_size s)))

-- the bytes of one row: a kind from 1 to 15, no byte that the row does not use, no number above the limit
unfoldable pub row_sound : Bytes → Bool
row_sound bs =
    ltb 0 (get_or bs 0 0) && ltb (get_or bs 0 0) 16 && same (row_bytes (row_of bs)) bs && every (λ n. ltb n row_limit) (row_numbers (row_of bs))

-- the first n rows
unfoldable pub rows_sound : ℕ → Bytes → Bool
rows_sound n s = all n λ r. row_sound (take row_size (drop (r * row_size) s))

-- nothing stands where row n and those after it would
unfoldable pub rest_zero : ℕ → Bytes → Bool
rest_zero n s = every (λ b. eqb b 0) (drop (n * row_size) (take rows_size s))

-- flows and comms
unfoldable pub flags_sound : Bytes → Bool
flags_sound s = every (λ b. ltb b 2) (take (sets_size + sets_size) (drop rows_size s))

unfoldable pub claims_sound : Bytes → Bool
claims_sound s = every (λ b. ltb b code_limit) (drop claims_start s)

unfoldable pub canonical : Bytes → Bool
canonical s =
    let n = count_rows row_limit s in
    ltb 0 n && rows_sound n s && rest_zero n s && flags_sound s && claims_sound s
