-- Every answer of the calls is packed without loss: lines and texts are short, counts are bytes, words are bits.
use Rattle.std.specs.Prelude.{Ok, Err}
use Prim.Native.Nat.{ℕ, ◌+◌, ◌*◌, ◌^◌, ◌≤◌, ◌<◌}
use native.Mathlib.Omega.{arith}
use mathlib.Core.Bool.{Bool, true, false}
use mathlib.Core.List.{List, [], ◌∷◌, ◌++◌}
use mathlib.Core.Path.{◌≡◌, refl}
use lib.ListN.{length, take, drop, length-take}
use lib.Dec.{ltb}
use Rattle.program.specs.Each.{Each, nil, ◌&◌}
use Rattle.format.specs.Limits.{row_limit}
use Rattle.format.proofs.Structure.{orderly_of}
use Rattle.format.specs.Text.{Bytes}
use Rattle.format.specs.declared.Reason.TheVariants.{StoreTooShort, OutputTooShort}
use Rattle.format.specs.Refusals.{refusal, Result, refused, accepted}
use Rattle.format.specs.Document.{Document}
use Rattle.format.specs.Print.{document_text}
use Rattle.calls.specs.Answers.{LoadAnswer, Answer, turned_back, answered, refusal_answer, load_answer, judge_answer, verdict_answer, write_answer}
use Rattle.calls.specs.Layout.{store_size, decode}
use Rattle.calls.specs.Canonical.{count_rows}
use Rattle.calls.specs.Judging.{verdict_words}
use Rattle.calls.specs.Calls.{opened, and_then, load, judge, verdict, written, write}
use Rattle.report.specs.Report.{report, report_limit, Reporting, reported}
use Rattle.calls.proofs.Canonical.Rows.{count_rows-le}
use Rattle.calls.proofs.Codec.Sparse.{either}
use Rattle.calls.specs.Exact.{StoreHolds, Closed}
use Rattle.calls.proofs.Exact.{holds_well}
use Rattle.inference.specs.Inference.{infer}
use Rattle.inference.specs.Inferred.{InferIs}
use Rattle.inference.proofs.Inference.{infer_exact}
use Rattle.replacement.specs.Replacement.{replace, judge_left, preview}
use Rattle.replacement.specs.Replaced.{ReplaceIs}
use Rattle.replacement.proofs.Replacement.{replace_exact}
use Rattle.bounds.proofs.Bounds.{orderly_few, Within, last_line, line_within, values_within, OpensTo, not_opened, decoded, opens_to, load_within, judge_within, verdict_within, every_word}
use Rattle.store.specs.Document.{store_document}
use Rattle.store.proofs.Document.{document_is}
use Rattle.report.proofs.Report.{report_short}
use Rattle.write_store.proofs.Bounds.{stored_bound}
use Rattle.packing.specs.Packing.{packed, count_bits, word_bits, number_bits, Short, Lossless}
use Rattle.packing.proofs.Unpacking.{unpacked, load_back, judge_back, verdict_back, write_back}

-- ---- from bounds to bits

module _ (line value bits : ℕ) (few : line < 2 ^ number_bits) (low : value < 2 ^ bits) where
  short : (vs : List ℕ) → Each (λ v. v ≤ value) vs → Short bits vs
  short [] nil = tt
  short (v ∷ vs) (h & hs) = (omega arith, short vs hs)

  lossless : (a : Answer) → Within line value a → Lossless bits a
  lossless (turned_back n l) (line_within h) = omega arith
  lossless (answered vs) (values_within h) = short vs h

-- ---- write

-- a crude bound of a store's text
abbrev text_limit : ℕ
text_limit = 2100 * row_limit + 40 * store_size + 14

text_bound : (s : Bytes) → length s ≤ store_size → length (document_text (decode s)) ≤ text_limit
text_bound s h =
    let n = count_rows row_limit s in
    let same : store_document n s ≡ decode s = document_is n s h refl in
    rw (← same) (omega (arith, stored_bound n s, count_rows-le row_limit s))

write_within : (store out : Bytes) → Within 0 text_limit (write_answer (write store out).answer)
unfolding write and_then written write_answer refusal_answer
write_within store out = go (opened store) (opens_to store)
  where
    go : (x : Result Document) → OpensTo store x → Within 0 text_limit (write_answer (written out (and_then x (λ d. accepted (document_text d)))).answer)
    go (refused r) not_opened = line_within {l = 0} (omega arith)
    go (accepted d) (decoded e) =
        let low = text_bound (take store_size store) (omega (arith, length-take store_size store)) in
        either (ltb (length out) (length (document_text d))) (λ t. rw (t, written) (line_within {l = 0} (omega arith)))
        (λ t. rw (t, written) (values_within (rw (← e) at low & nil)))

-- ---- report

report_within : (file store out : Bytes) → Within 0 report_limit (write_answer (reported file store out).answer)
unfolding reported write_answer refusal_answer
report_within file store out = go (ltb (length store) store_size) (ltb (length out) report_limit)
  where
    go : (a b : Bool) → Within 0 report_limit (write_answer (elim a as (λ a. Reporting) [
      | true ↦ record { answer = Err (refusal StoreTooShort 0); store = store; out = out }
      | false ↦ elim b [
        | true ↦ record { answer = Err (refusal OutputTooShort 0); store = store; out = out }
        | false ↦ record { answer = Ok (length (report file)); store = (load file store).bytes; out = report file ++ drop (length (report file)) out }
      ]
    ]).answer)
    go true b = line_within {l = 0} (omega arith)
    go false true = line_within {l = 0} (omega arith)
    go false false = values_within (report_short file & nil)

-- ---- infer, replace and preview

closed_within : (store : Bytes) (value : ℕ) (a : Answer) → Closed store a → Within 0 value a
closed_within store value a (Closed.too_short l) = line_within {l = 0} (omega arith)
closed_within store value a (Closed.empty l z) = line_within {l = 0} (omega arith)
closed_within store value a (Closed.unsound l z h) = line_within {l = 0} (omega arith)

-- the counts of a document that a store holds
counts_within : (store : Bytes) (d : Document) → StoreHolds store d
    → Within 0 row_limit (answered (length d.rows ∷ length d.flows ∷ length d.comms ∷ length d.claims ∷ []))
counts_within store d h =
    let few = orderly_few d (orderly_of d (holds_well store d h)) in
    values_within (few.few_rows & few.few_flows & few.few_comms & few.few_claims & nil)

infer_within : (store : Bytes) → Within 0 row_limit (load_answer (infer store).answer)
infer_within store = go _ (infer_exact store)
  where
    go : (a : Answer) → InferIs store a → Within 0 row_limit a
    go a (InferIs.closed c e) = closed_within store row_limit a c
    go a (InferIs.infers d d' h i) = counts_within (infer store).bytes d' i.holds

module _ (store : Bytes) (n : ℕ) (unit : Bool) (rows : Bytes) where
  replace_is_within : (a : Answer) → ReplaceIs store n unit rows a → Within 0 row_limit a
  replace_is_within a (ReplaceIs.closed c e) = closed_within store row_limit a c
  replace_is_within a (ReplaceIs.not_bound d h b e) = line_within {l = 0} (omega arith)
  replace_is_within a (ReplaceIs.not_a_set d h b s e) = line_within {l = 0} (omega arith)
  replace_is_within a (ReplaceIs.replaces d d' h b s r) = counts_within (replace store n unit rows).bytes d' r.holds

  replace_within : Within 0 row_limit (load_answer (replace store n unit rows).answer)
  replace_within = replace_is_within _ (replace_exact store n unit rows)

  preview_within : Within last_line row_limit (judge_answer (preview store n unit rows))
  unfolding preview
  preview_within = go (replace store n unit rows).answer replace_within
    where
      widened : (a : Answer) → Within 0 row_limit a → Within last_line row_limit a
      widened a (line_within {l = l} h) = line_within {l = l} (omega arith)
      widened a (values_within h) = values_within h

      go : (a : LoadAnswer) → Within 0 row_limit (load_answer a) → Within last_line row_limit (judge_answer (judge_left a (replace store n unit rows).bytes))
      go (Ok c) h = unfold judge_left in judge_within (replace store n unit rows).bytes
      go (Err r) h = unfold judge_left judge_answer in widened (refusal_answer r) (unfold load_answer in h)

-- ---- the calls: each answer is packed without loss, so that what a caller reads in the number is the answer

pub load_lossless : (file store : Bytes) → Lossless count_bits (load_answer (load file store).answer)
load_lossless file store = lossless _ _ count_bits (omega arith) (omega arith) _ (load_within file store)

pub load_read : (file store : Bytes) → let a = load_answer (load file store).answer in unpacked count_bits 4 (packed count_bits a) ≡ a
load_read file store = load_back (load file store).answer (load_lossless file store)

pub judge_lossless : (store : Bytes) → Lossless number_bits (judge_answer (judge store))
judge_lossless store = lossless _ _ number_bits (omega arith) (omega arith) _ (judge_within store)

pub judge_read : (store : Bytes) → let a = judge_answer (judge store) in unpacked number_bits 1 (packed number_bits a) ≡ a
judge_read store = judge_back (judge store) (judge_lossless store)

pub verdict_lossless : (store : Bytes) (c : ℕ) → Lossless word_bits (verdict_answer (verdict store c))
verdict_lossless store c = lossless _ _ word_bits (omega arith) (omega arith) _ (verdict_within store c)

pub verdict_read : (store : Bytes) (c : ℕ) → let a = verdict_answer (verdict store c) in unpacked word_bits (length verdict_words) (packed word_bits a) ≡ a
verdict_read store c = verdict_back (verdict store c) (length verdict_words) (every_word store c) (verdict_lossless store c)

pub write_lossless : (store out : Bytes) → Lossless number_bits (write_answer (write store out).answer)
write_lossless store out = lossless 0 text_limit number_bits (omega arith) (omega arith) _ (write_within store out)

pub write_read : (store out : Bytes) → let a = write_answer (write store out).answer in unpacked number_bits 1 (packed number_bits a) ≡ a
write_read store out = write_back (write store out).answer (write_lossless store out)

pub report_lossless : (file store out : Bytes) → Lossless number_bits (write_answer (reported file store out).answer)
report_lossless file store out = lossless 0 report_limit number_bits (omega arith) (omega arith) _ (report_within file store out)

pub report_read : (file store out : Bytes) → let a = write_answer (reported file store out).answer in unpacked number_bits 1 (packed number_bits a) ≡ a
report_read file store out = write_back (reported file store out).answer (report_lossless file store out)

pub infer_lossless : (store : Bytes) → Lossless count_bits (load_answer (infer store).answer)
infer_lossless store = lossless 0 row_limit count_bits (omega arith) (omega arith) _ (infer_within store)

pub infer_read : (store : Bytes) → let a = load_answer (infer store).answer in unpacked count_bits 4 (packed count_bits a) ≡ a
infer_read store = load_back (infer store).answer (infer_lossless store)

pub replace_lossless : (store : Bytes) (n : ℕ) (unit : Bool) (rows : Bytes) → Lossless count_bits (load_answer (replace store n unit rows).answer)
replace_lossless store n unit rows = lossless 0 row_limit count_bits (omega arith) (omega arith) _ (replace_within store n unit rows)

pub replace_read : (store : Bytes) (n : ℕ) (unit : Bool) (rows : Bytes)
    → let a = load_answer (replace store n unit rows).answer in unpacked count_bits 4 (packed count_bits a) ≡ a
replace_read store n unit rows = load_back (replace store n unit rows).answer (replace_lossless store n unit rows)

pub preview_lossless : (store : Bytes) (n : ℕ) (unit : Bool) (rows : Bytes) → Lossless number_bits (judge_answer (preview store n unit rows))
preview_lossless store n unit rows = lossless _ _ number_bits (omega arith) (omega arith) _ (preview_within store n unit rows)

pub preview_read : (store : Bytes) (n : ℕ) (unit : Bool) (rows : Bytes)
    → let a = judge_answer (preview store n unit rows) in unpacked number_bits 1 (packed number_bits a) ≡ a
preview_read store n unit rows = judge_back (preview store n unit rows) (preview_lossless store n unit rows)
