-- The store: an orderly document is read back from its bytes, and a store is sound if it holds the bytes of a well-formed document.
pub mod Sparse
pub mod Rows
pub mod Sets
pub mod Claims
pub mod Adding
use Prim.Native.Nat.{ℕ, ◌≤◌, ◌<◌}
use native.Mathlib.Nat.{le_trans}
use native.Mathlib.Omega.{arith}
use mathlib.Core.Bool.{false, not, ◌&&◌, So, not-not, and-eq-true_iff, false≢true}
use mathlib.Core.List.{[], ◌∷◌, ◌++◌, map, append_assoc}
use mathlib.Core.Path.{◌≡◌, refl}
use mathlib.Core.Logic.{◌↔◌}
use lib.ListN.{length, get_or, length-append}
use lib.Seq.{drop_at}
use lib.Dec.{ltb, eqb, lit≤}
use borrow.Author.Tests.{ltb-true, lt-ltb, eqb-true, not-false}
use Rattle.program.specs.Each.{here, every, collect, Each, nil, ◌&◌}
use Rattle.program.specs.Program.{Program}
use Rattle.program.proofs.Test.{and_left, and_right, and_intro, eqb_same}
use Rattle.program.proofs.Each.{every_elim, each_at, each_imp, each_left, each_right, each_append, each_unmap}
use Rattle.format.specs.Limits.{row_limit}
use Rattle.format.specs.Text.{Bytes}
use Rattle.format.specs.Document.{Claim, Document, Line, flow, comm, claim}
use Rattle.format.specs.Print.{row_lines, lines_of}
use Rattle.format.specs.Read.{present, rising, line_numbers, above_limit}
use Rattle.format.specs.WellFormed.{entries_rise, orderly, well_formed}
use Rattle.format.specs.Refusals.{accepted}
use Rattle.format.proofs.Structure.{orderly_of}
use Rattle.calls.specs.Layout.{rows_size, sets_size, store_size, counting, padded, row_bytes, sets_bytes, claim_code, encode, decode_rows, decode_sets, decode_claims, decode, same}
use Rattle.calls.specs.Calls.{unsound, is_empty, opened_fixed}
use Rattle.calls.proofs.Codec.Sparse.{counting-length}
use Rattle.calls.proofs.Codec.Rows.{Byte, rows_fit, rows_part_length, rows_part_back, rows_range, first_kind}
use Rattle.calls.proofs.Codec.Sets.{sets_bytes-length, sets_bytes_back, sets_bytes_range}
use Rattle.calls.proofs.Codec.Claims.{claims_range, claims_back}

-- the numbers of a line stay below the limit
abbrev pub Low : Line → Type 0
Low l = Each (λ n. n < row_limit) (line_numbers l)

-- what is used of an orderly document
record Facts (d : Document) : Type 0 where
  some_row : So (present d.rows)
  rows_low : Each Low (row_lines 0 d.rows)
  flows_low : Each (λ e. Low (flow e)) d.flows
  comms_low : Each (λ e. Low (comm e)) d.comms
  claims_low : Each (λ c. Low (claim c)) d.claims
  flows_rise : So (entries_rise d.flows)
  comms_rise : So (entries_rise d.comms)
  claims_rise : So (rising (map (λ (c : Claim). c.channel) d.claims))

pub low : (l : Line) → So (not (above_limit l)) → Low l
unfolding above_limit
low l t = each_imp (λ n s. ltb-true n row_limit s) (every_elim (λ n. ltb n row_limit) (line_numbers l) (rw not-not at t))

facts : (d : Document) → So (orderly d) → Facts d
unfolding orderly lines_of
facts d t =
    let ((((some_row, lines), flows_rise), comms_rise), claims_rise) = simp and-eq-true_iff at t in
    let claims = map claim d.claims in
    let comms = map comm d.comms in
    let flows = map flow d.flows in
    let rows = row_lines 0 d.rows in
    let lines₀ = each_imp low (every_elim (λ l. not (above_limit l)) (lines_of d) lines) in
    let lines₁ = each_right rows (flows ++ (comms ++ claims)) lines₀ in
    let lines₂ = each_right flows (comms ++ claims) lines₁ in
    record {
      some_row = some_row;
      rows_low = each_left rows (flows ++ (comms ++ claims)) lines₀;
      flows_low = each_unmap flow d.flows (each_left flows (comms ++ claims) lines₁);
      comms_low = each_unmap comm d.comms (each_left comms claims lines₂);
      claims_low = each_unmap claim d.claims (each_right comms claims lines₂);
      flows_rise = flows_rise;
      comms_rise = comms_rise;
      claims_rise = claims_rise;
    }

every_byte : (bs : Bytes) → Each Byte bs → So (every (λ b. ltb b 256) bs)
unfolding every
every_byte [] nil = refl
every_byte (b ∷ bs) (h & hs) = and_intro (lt-ltb b 256 h) (every_byte bs hs)

-- the document of four parts, each of which is read back
parts_back : (rows flows comms claims : Bytes) (d : Document) → length rows ≡ rows_size → length flows ≡ sets_size → length comms ≡ sets_size
    → decode_rows row_limit (rows ++ (flows ++ (comms ++ claims))) ≡ d.rows → decode_sets row_limit 0 (flows ++ (comms ++ claims)) ≡ d.flows
    → decode_sets row_limit 0 (comms ++ claims) ≡ d.comms → decode_claims 0 claims ≡ d.claims → decode (rows ++ (flows ++ (comms ++ claims))) ≡ d
unfolding decode
parts_back rows flows comms claims d l m n r f c k =
    rw (drop_at rows (flows ++ (comms ++ claims)) rows_size l, drop_at flows (comms ++ claims) sets_size m, drop_at comms claims sets_size n)
    λ i. record { rows = r i; flows = f i; comms = c i; claims = k i }

module _ (d : Document) (ok : So (orderly d)) where
  pub all_fit : length d.rows ≤ row_limit
  all_fit = let h = rows_fit row_limit 0 d.rows (omega arith) (facts d ok).rows_low in omega arith

  pub rows_bytes_length : length (padded rows_size (collect row_bytes d.rows)) ≡ rows_size
  rows_bytes_length = rows_part_length row_limit d.rows all_fit

  -- the store's fixed size is filled
  pub encode-length : length (encode d) ≡ store_size
  unfolding encode
  encode-length =
      simp (length-append, rows_bytes_length, sets_bytes-length d.flows, sets_bytes-length d.comms, counting-length row_limit 0 (claim_code d.claims))

  -- what is written is read back
  pub decode-encode : decode (encode d) ≡ d
  unfolding encode line_numbers
  decode-encode =
      let f = facts d ok in
      let rows = padded rows_size (collect row_bytes d.rows) in
      let claims = counting row_limit 0 (claim_code d.claims) in
      let comms = sets_bytes d.comms ++ claims in
      let flows = sets_bytes d.flows ++ comms in
      parts_back rows (sets_bytes d.flows) (sets_bytes d.comms) claims d rows_bytes_length (sets_bytes-length d.flows) (sets_bytes-length d.comms)
      (rows_part_back row_limit d.rows all_fit flows)
      (sets_bytes_back d.flows comms f.flows_low f.flows_rise)
      (sets_bytes_back d.comms claims f.comms_low f.comms_rise)
      (claims_back row_limit d.claims (each_imp (λ c l. each_at l (here refl)) f.claims_low) f.claims_rise)

  -- every number of the store is a byte
  pub byte_range : So (every (λ b. ltb b 256) (encode d))
  unfolding encode
  byte_range =
      let rows_low = each_imp (λ l. each_imp λ n h. le_trans h (lit≤ tt)) (facts d ok).rows_low in
      every_byte (encode d)
      (each_append (rows_range rows_size 0 d.rows rows_low)
      (each_append (sets_bytes_range d.flows) (each_append (sets_bytes_range d.comms) (claims_range row_limit d.claims))))

not_empty : (bs : Bytes) → eqb (get_or bs 0 0) 0 ≡ false → is_empty bs ≡ false
unfolding is_empty every
not_empty [] e = e
not_empty (b ∷ bs) e = rw e

rows_not_empty : (xs : Program) (n : ℕ) (more : Bytes) → So (present xs) → is_empty (padded n (collect row_bytes xs) ++ more) ≡ false
unfolding padded collect present
rows_not_empty [] n more t = absurd (false≢true t)
rows_not_empty (x ∷ xs) n more t = not_empty _ (simp append_assoc (first_kind x _))

-- 21: a store with a document is not empty
pub encode_not_empty : (d : Document) → So (orderly d) → is_empty (encode d) ≡ false
unfolding encode
encode_not_empty d ok = rows_not_empty d.rows rows_size _ (facts d ok).some_row

same_refl : (xs : Bytes) → So (same xs xs)
unfolding same
same_refl [] = refl
same_refl (x ∷ xs) = and_intro (eqb_same x) (same_refl xs)

same_elim : (xs ys : Bytes) → So (same xs ys) → xs ≡ ys
unfolding same
same_elim [] [] t = refl
same_elim [] (y ∷ ys) t = absurd (false≢true t)
same_elim (x ∷ xs) [] t = absurd (false≢true t)
same_elim (x ∷ xs) (y ∷ ys) t = rw (eqb-true x y (and_left _ (same xs ys) t), same_elim xs ys (and_right (eqb x y) _ t))

pub same_iff : (xs ys : Bytes) → So (same xs ys) ↔ (xs ≡ ys)
same_iff xs ys = (same_elim xs ys, λ e. rw e (same_refl ys))

sound_encode : (d : Document) → So (well_formed d) → unsound (encode d) ≡ false
unfolding unsound
sound_encode d t = rw (decode-encode d (orderly_of d t), t, same_refl (encode d))

-- 22: a store is sound exactly if it holds the bytes of a well-formed document
pub unsound_iff : (fixed : Bytes) → (unsound fixed ≡ false) ↔ ((d : Document) × So (well_formed d) × (encode d ≡ fixed))
unfolding unsound
unsound_iff fixed = (sound, λ (d, t, e). rw (← e) (sound_encode d t))
  where
    sound : unsound fixed ≡ false → (d : Document) × So (well_formed d) × (encode d ≡ fixed)
    sound e =
        let d = decode fixed in
        let t = not-false (well_formed d && same (encode d) fixed) e in
        (d, and_left _ (same (encode d) fixed) t, same_elim (encode d) fixed (and_right (well_formed d) _ t))

-- a well-formed document is opened again
pub opened_encode : (d : Document) → So (well_formed d) → opened_fixed (encode d) ≡ accepted d
unfolding opened_fixed
opened_encode d t = rw (encode_not_empty d (orderly_of d t), opened_fixed, sound_encode d t, decode-encode d (orderly_of d t))
