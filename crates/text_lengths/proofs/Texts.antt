-- The length of a document's text, by the lengths of its parts.
use Prim.Native.Nat.{ℕ, ◌+◌, ◌<◌, ◌^◌}
use native.Mathlib.Omega.{arith}
use mathlib.Core.Path.{◌≡◌}
use lib.ListN.{length, length-append}
use Rattle.program.specs.Each.{collect}
use Rattle.format.specs.Limits.{row_limit}
use Rattle.format.specs.Text.{Bytes, ascii}
use Rattle.format.specs.Print.{line_text, row_lines, header, document_text}
use Rattle.calls.specs.Layout.{rows_size, comms_start, claims_start, store_size, decode_sets, decode_claims}
use Rattle.store.specs.Rows.{store_program}
use Rattle.store.specs.Document.{store_document}
use Rattle.write_sets.specs.Texts.{entry_text}
use Rattle.write_claims.proofs.Claims.{claims_text}
use Rattle.write_store.proofs.Parts.{behind, stored_parts}
use Rattle.write_store.proofs.Bounds.{stored_bound}

module _ (n : ℕ) (s : Bytes) (size : length s ≡ store_size) where
  pub stored_sum : length (collect line_text (row_lines 0 (store_program n s)))
      + length (collect (entry_text (ascii "[flow")) (decode_sets row_limit 0 (behind rows_size s)))
      + length (collect (entry_text (ascii "[comm")) (decode_sets row_limit 0 (behind comms_start s)))
      + length (claims_text (decode_claims 0 (behind claims_start s)))
      + 14
      ≡ length (document_text (store_document n s))
  unfolding header ascii
  stored_sum = rw (stored_parts n s size) (simp length-append (omega arith))

  pub stored_short : n < 256 → length (document_text (store_document n s)) < 2 ^ 63
  stored_short h = omega (arith, stored_bound n s)
