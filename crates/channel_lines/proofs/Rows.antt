-- The lines of the chan rows of the document in a store, by the store's bytes and one row after the other.
use Prim.Native.Nat.{ℕ, suc, ◌+◌, ◌-◌, ◌≤◌, ◌<◌}
use native.Mathlib.Omega.{arith}
use native.Mathlib.Numerals.{add-one}
use mathlib.Core.Bool.{true, false}
use mathlib.Core.List.{List, [], ◌++◌, map}
use mathlib.Core.Path.{◌≡◌}
use lib.ListN.{length}
use Rattle.program.specs.Each.{collect}
use Rattle.program.specs.Program.{chan_row}
use Rattle.format.specs.Limits.{row_limit}
use Rattle.format.specs.Text.{Bytes}
use Rattle.calls.specs.Layout.{counting, decode}
use Rattle.calls.specs.Canonical.{count_rows}
use Rattle.calls.specs.Judging.{verdict_words, word_holds, reaches}
use Rattle.report.specs.Report.{channel_text, channel_line, channel_lines}
use Rattle.store.specs.Rows.{store_program}
use Rattle.store.proofs.Laws.{program_length}
use Rattle.store.proofs.Document.{rows_decode, flow_is}
use Rattle.tables.specs.Tables.{store_flow}
use Rattle.verdicts.specs.Words.{word_in}

-- of n rows, those from c on
abbrev pub rows_from : ℕ → ℕ → List ℕ
rows_from n c = counting (n - c) c λ i. i

module _ (f : ℕ → Bytes) (n c : ℕ) where
  pub rows_next : c < n → collect f (rows_from n c) ≡ f c ++ collect f (rows_from n (c + 1))
  unfolding collect counting
  rows_next h = let q : n - c ≡ suc (n - (c + 1)) = omega arith in rw (q, add-one c)

  pub rows_end : n ≤ c → collect f (rows_from n c) ≡ []
  unfolding collect counting
  rows_end h = let q : n - c ≡ 0 = omega arith in rw q

module _ (n : ℕ) (s : Bytes) (rows : n ≡ count_rows row_limit s) where
  rows_are : (decode s).rows ≡ store_program n s
  rows_are = rows_decode s n rows

  pub row_count : length (decode s).rows ≡ n
  row_count = rw rows_are (program_length n s)

  pub channel_line_lem : (c : ℕ) → chan_row (store_program n s) c ≡ true → channel_line (decode s) c ≡ channel_text c (map (word_in (store_program n s) (store_flow s) c) verdict_words)
  unfolding channel_line word_holds reaches word_in
  channel_line_lem c e = rw (flow_is s, rows_are, e)

  pub no_line : (c : ℕ) → chan_row (store_program n s) c ≡ false → channel_line (decode s) c ≡ []
  unfolding channel_line
  no_line c e = rw (rows_are, e)

  pub lines_are : channel_lines (decode s) ≡ collect (channel_line (decode s)) (rows_from n 0)
  unfolding channel_lines
  lines_are = let q : n - 0 ≡ n = omega arith in rw (q, row_count)
