-- The tests of a store's bytes where they stand decide whether the store is sound.
pub mod Lists
pub mod Rows
pub mod Sets
pub mod Claims
use Prim.Native.Nat.{ℕ, ◌+◌, ◌*◌, ◌≤◌}
use native.Mathlib.Omega.{arith}
use mathlib.Core.Bool.{Bool, true, false, not, ◌&&◌, So, and-eq-true_iff}
use mathlib.Core.List.{List, ◌++◌, map}
use Rattle.std.specs.Prelude.{None as none, Some as some}
use mathlib.Core.Path.{◌≡◌, refl, sym, ap, ◌∙◌}
use mathlib.Core.Logic.{◌↔◌}
use lib.ListN.{length, take, drop, length-drop}
use lib.Seq.{drop-drop, take-add}
use lib.Dec.{ltb}
use Rattle.program.specs.Each.{every, collect}
use Rattle.program.proofs.Test.{and_left, and_right, and_intro, same_tests}
use Rattle.format.specs.Limits.{row_limit}
use Rattle.format.specs.Text.{Bytes}
use Rattle.format.specs.Document.{Document, Line, flow, comm, claim}
use Rattle.format.specs.Print.{row_lines, lines_of}
use Rattle.format.specs.Read.{above_limit}
use Rattle.format.specs.Structure.{structure_fault}
use Rattle.format.specs.WellFormed.{orderly, well_formed}
use Rattle.format.proofs.Rising.{every_append, every_left, every_right}
use Rattle.format.proofs.Order.{orderly_iff}
use Rattle.calls.specs.Layout.{row_size, rows_size, sets_size, store_size, counting, padded, row_bytes, sets_bytes, code_limit, claim_code, row_of, encode, decode, same}
use Rattle.calls.specs.Calls.{unsound}
use Rattle.calls.specs.Canonical.{count_rows, rows_sound, rest_zero, flags_sound, claims_sound, canonical}
use Rattle.calls.proofs.Codec.{same_iff}
use Rattle.calls.proofs.Codec.Rows.{rows_part_length}
use Rattle.calls.proofs.Codec.Sets.{sets_bytes-length}
use Rattle.calls.proofs.Canonical.Lists.{parts_iff}
use Rattle.calls.proofs.Canonical.Rows.{count_rows-le, rows_counted, rows_count, rows_present, rows_iff}
use Rattle.calls.proofs.Canonical.Sets.{sets_iff, sets_rise, flow_lines, comm_lines}
use Rattle.calls.proofs.Canonical.Claims.{claims_iff, claims_rise, claim_lines}

pub rows_decoded : (s : Bytes) → (decode s).rows ≡ counting (count_rows row_limit s) 0 (λ r. row_of (take row_size (drop (r * row_size) s)))
unfolding decode
rows_decoded s = rows_counted row_limit s

-- the four parts of a store
module _ (s : Bytes) where
  abbrev flows_part : Bytes
  flows_part = drop rows_size s

  abbrev comms_part : Bytes
  comms_part = drop sets_size flows_part

  abbrev claims_part : Bytes
  claims_part = drop sets_size comms_part

record Parts (d : Document) (s : Bytes) : Type 0 where
  rows : padded rows_size (collect row_bytes d.rows) ≡ take rows_size s
  flows : sets_bytes d.flows ≡ take sets_size (flows_part s)
  comms : sets_bytes d.comms ≡ take sets_size (comms_part s)
  claims : counting row_limit 0 (claim_code d.claims) ≡ claims_part s

-- the bytes of a document are the four parts
encode_iff : (d : Document) (s : Bytes) → length d.rows ≤ row_limit → (encode d ≡ s) ↔ Parts d s
unfolding encode
encode_iff d s fit =
    let claims = counting row_limit 0 (claim_code d.claims) in
    let comms = sets_bytes d.comms ++ claims in
    let (split₁, join₁) = parts_iff (padded rows_size (collect row_bytes d.rows)) (sets_bytes d.flows ++ comms) s rows_size (rows_part_length row_limit d.rows fit) in
    let (split₂, join₂) = parts_iff (sets_bytes d.flows) comms (flows_part s) sets_size (sets_bytes-length d.flows) in
    let (split₃, join₃) = parts_iff (sets_bytes d.comms) claims (comms_part s) sets_size (sets_bytes-length d.comms) in (
      λ q. let (r, q₁) = split₁ q in let (f, q₂) = split₂ q₁ in let (c, k) = split₃ q₂ in record { rows = r; flows = f; comms = c; claims = k },
      λ p. join₁ (p.rows, join₂ (p.flows, join₃ (p.comms, p.claims))),
    )

flags_iff : (s : Bytes) → So (flags_sound s) ↔ (So (every (λ b. ltb b 2) (take sets_size (flows_part s))) × So (every (λ b. ltb b 2) (take sets_size (comms_part s))))
unfolding flags_sound
flags_iff s =
    let test : ℕ → Bool = λ b. ltb b 2 in
    let f = take sets_size (flows_part s) in
    let c = take sets_size (comms_part s) in
    rw (take-add sets_size sets_size (flows_part s)) (λ t. (every_left test f c t, every_right test f c t), λ (t, u). every_append test f c t u)

pub drop_thrice : (a b c : ℕ) (s : Bytes) → drop c (drop b (drop a s)) ≡ drop (a + b + c) s
drop_thrice a b c s = ap (drop c) (drop-drop b a s) ∙ drop-drop c (a + b) s

claims_part_lem : (s : Bytes) → claims_sound s ≡ every (λ b. ltb b code_limit) (claims_part s)
unfolding claims_sound
claims_part_lem s = ap (every λ b. ltb b code_limit) (sym (drop_thrice rows_size sets_size sets_size s))

and_swap : (a b c : Bool) → (a && b && c) ≡ (a && c && b)
and_swap false b c = refl
and_swap true true true = refl
and_swap true true false = refl
and_swap true false true = refl
and_swap true false false = refl

module _ (s : Bytes) (size : length s ≡ store_size) where
  claims_size : length (claims_part s) ≡ row_limit
  claims_size = simp length-drop (omega arith)

  flows_fit : sets_size ≤ length (flows_part s)
  flows_fit = simp length-drop (omega arith)

  comms_fit : sets_size ≤ length (comms_part s)
  comms_fit = simp length-drop (omega arith)

  rows_fit : length (decode s).rows ≤ row_limit
  unfolding decode
  rows_fit = omega (arith, rows_count row_limit s, count_rows-le row_limit s)

  abbrev later_lines : List Line
  later_lines = map flow (decode s).flows ++ (map comm (decode s).comms ++ map claim (decode s).claims)

  later_low : So (every (λ l. not (above_limit l)) later_lines)
  unfolding decode
  later_low =
      let d = decode s in
      every_append (λ l. not (above_limit l)) (map flow d.flows) (map comm d.comms ++ map claim d.claims) (flow_lines (flows_part s))
      (every_append (λ l. not (above_limit l)) (map comm d.comms) (map claim d.claims) (comm_lines (comms_part s)) (claim_lines (claims_part s) claims_size))

  -- the tests pass exactly if the bytes are those of the orderly document that they say
  pub canonical_iff : So (canonical s) ↔ (So (orderly (decode s)) × (encode (decode s) ≡ s))
  unfolding canonical decode lines_of
  canonical_iff =
      let d = decode s in
      let n = count_rows row_limit s in
      let rows = row_lines 0 d.rows in
      let (rows_there, rows_back) = rows_iff s (omega arith) in
      let (flags-there, flags_back) = flags_iff s in
      let (flows-there, flows-back) = sets_iff (flows_part s) flows_fit in
      let (comms-there, comms-back) = sets_iff (comms_part s) comms_fit in
      let (claims-there, claims_back) = claims_iff row_limit (claims_part s) claims_size in (
        λ t.
            let ((((some_row, sound), rest), flags), claims) = simp and-eq-true_iff at t in
            let (low, r) = rows_there (and_intro sound rest) in
            let (f, c) = flags-there flags in (
              (orderly_iff d).1 (
                rows_present row_limit s ∙ some_row,
                record {
                  numbers = every_append (λ l. not (above_limit l)) rows later_lines low later_low;
                  flows = sets_rise (flows_part s);
                  comms = sets_rise (comms_part s);
                  claims = claims_rise (claims_part s);
                },
              ),
              (encode_iff d s rows_fit).1 (record { rows = r; flows = flows-there f; comms = comms-there c; claims = claims-there (sym (claims_part_lem s) ∙ claims) }),
            ),
        λ (o, q).
            let (some_row, partly) = (orderly_iff d).0 o in
            let p = (encode_iff d s rows_fit).0 q in
            let t = rows_back (every_left (λ l. not (above_limit l)) rows later_lines partly.numbers, p.rows) in
            and_intro (and_intro (and_intro (and_intro (sym (rows_present row_limit s) ∙ some_row) (and_left (rows_sound n s) (rest_zero n s) t)) (and_right (rows_sound n s) (rest_zero n s) t))
            (flags_back (flows-back p.flows, comms-back p.comms))) (claims_part_lem s ∙ claims_back p.claims),
      )

  canonical_is : canonical s ≡ (orderly (decode s) && same (encode (decode s)) s)
  canonical_is =
      let d = decode s in
      let (there, back) = canonical_iff in
      same_tests (canonical s) (orderly d && same (encode d) s)
      (λ t. let (o, q) = there t in and_intro o ((same_iff (encode d) s).1 q))
      (λ t. back (and_left (orderly d) _ t, (same_iff (encode d) s).0 (and_right (orderly d) _ t)))

  -- 22 by the tests
  pub sound_test : unsound s ≡ not (canonical s && elim (structure_fault (decode s)) [ none ↦ true | some r ↦ false ])
  unfolding unsound well_formed
  sound_test = rw canonical_is (ap not (and_swap (orderly (decode s)) (elim (structure_fault (decode s)) [ none ↦ true | some r ↦ false ]) (same (encode (decode s)) s)))
