-- Packing loses nothing: the answer is read back from its number.
use Rattle.std.specs.Prelude.{Ok, Err}
use Prim.Native.Nat.{ℕ, zero, suc, ◌+◌, ◌*◌, ◌/◌, ◌%◌, ◌^◌, ◌<◌}
use native.Mathlib.Omega.{arith}
use native.Mathlib.Nat.{add_comm, mul_comm}
use mathlib.Core.List.{List, [], ◌∷◌, map}
use mathlib.Core.Path.{◌≡◌, refl, ap, ◌∙◌}
use lib.ListN.{length, length-map}
use lib.Dec.{eqb}
use lib.Arith.{digits_div, digits_mod}
use borrow.Author.Tests.{ne_eqb}
use Rattle.program.specs.Test.{pick}
use Rattle.format.specs.declared.Reason.{Reason}
use Rattle.format.specs.declared.Reason.TheVariants.{
  TooLong,
  NotALine,
  AboveLimit,
  OutOfCount,
  NotRising,
  WrongPointer,
  BoundTwice,
  OutOfScope,
  NotAllowed,
  FlowRuleFails,
  ClaimFails,
  StoreTooShort,
  StoreEmpty,
  StoreUnsound,
  OutputTooShort,
  NotAChannel,
  MoveNotAllowed,
  LimitExceeded,
  NotBound,
  SetNotAllowed,
}
use Rattle.format.specs.declared.Refusal.{Refusal}
use Rattle.format.specs.Refusals.{number}
use Rattle.calls.specs.Answers.{LoadAnswer, JudgeAnswer, VerdictStatus, WriteAnswer, Answer, turned_back, answered, refusal_answer, load_answer, judge_answer, write_answer, yes_or_no, status_answer, verdict_answer}
use Rattle.calls.specs.declared.VerdictAnswer.{VerdictAnswer}
use Rattle.packing.specs.Packing.{in_bits, packed, count_bits, word_bits, number_bits, Short, Lossless}

-- so many values of so many bits each, the first lowest
unfoldable pub bits_value : ℕ → ℕ → ℕ → List ℕ
bits_value bits zero n = []
bits_value bits (suc k) n = (n % 2 ^ bits) ∷ bits_value bits k (n / 2 ^ bits)

-- what a caller reads in a number: the low 8 bits, and what stands above them
unfoldable pub unpacked : ℕ → ℕ → ℕ → Answer
unpacked bits k n = pick (eqb (n % 256) 0) (answered (bits_value bits k (n / 256))) (turned_back (n % 256) (n / 256))

-- the lowest digit of a number, and what is above it
digit_first : (m v more : ℕ) → v < m → ((v + m * more) % m ≡ v) × ((v + m * more) / m ≡ more)
digit_first m v more h =
    let e : v + m * more ≡ more * m + v = add_comm v (m * more) ∙ ap (λ (x : ℕ). x + v) (mul_comm m more) in
    (rw e (digits_mod more h), rw e (digits_div more h))

bits_back : (bits : ℕ) (vs : List ℕ) → Short bits vs → bits_value bits (length vs) (in_bits bits vs) ≡ vs
unfolding bits_value in_bits
bits_back bits [] h = refl
bits_back bits (v ∷ vs) (h, hs) =
    let (low, high) = digit_first (2 ^ bits) v (in_bits bits vs) h in
    rw (low, high, bits_back bits vs hs)

pub values_back : (bits : ℕ) (vs : List ℕ) → Short bits vs → unpacked bits (length vs) (packed bits (answered vs)) ≡ answered vs
unfolding unpacked packed
values_back bits vs h =
    let low : packed bits (answered vs) % 256 ≡ 0 = omega arith in
    let high : packed bits (answered vs) / 256 ≡ in_bits bits vs = omega arith in
    rw (low, high) (ap answered (bits_back bits vs h))

-- a refusal's number has 8 bits, and is not 0
number_low : (r : Reason) → (0 < number r) × (number r < 256)
unfolding number
number_low TooLong = (omega arith, omega arith)
number_low NotALine = (omega arith, omega arith)
number_low AboveLimit = (omega arith, omega arith)
number_low OutOfCount = (omega arith, omega arith)
number_low NotRising = (omega arith, omega arith)
number_low WrongPointer = (omega arith, omega arith)
number_low BoundTwice = (omega arith, omega arith)
number_low OutOfScope = (omega arith, omega arith)
number_low NotAllowed = (omega arith, omega arith)
number_low FlowRuleFails = (omega arith, omega arith)
number_low ClaimFails = (omega arith, omega arith)
number_low StoreTooShort = (omega arith, omega arith)
number_low StoreEmpty = (omega arith, omega arith)
number_low StoreUnsound = (omega arith, omega arith)
number_low OutputTooShort = (omega arith, omega arith)
number_low NotAChannel = (omega arith, omega arith)
number_low MoveNotAllowed = (omega arith, omega arith)
number_low LimitExceeded = (omega arith, omega arith)
number_low NotBound = (omega arith, omega arith)
number_low SetNotAllowed = (omega arith, omega arith)

pub refusal_back : (bits k : ℕ) (r : Refusal) → unpacked bits k (packed bits (refusal_answer r)) ≡ refusal_answer r
unfolding unpacked packed refusal_answer
refusal_back bits k r =
    let (some, short) = number_low r.reason in
    let (low, high) = digit_first 256 (number r.reason) r.line short in
    rw (low, high, ne_eqb (number r.reason) 0 (λ z. absurd (omega arith)))

-- ---- the answers of the four calls

pub load_back : (a : LoadAnswer) → Lossless count_bits (load_answer a) → unpacked count_bits 4 (packed count_bits (load_answer a)) ≡ load_answer a
unfolding load_answer
load_back (Ok c) h = values_back count_bits (c.rows ∷ c.flows ∷ c.comms ∷ c.claims ∷ []) h
load_back (Err r) h = refusal_back count_bits 4 r

pub judge_back : (a : JudgeAnswer) → Lossless number_bits (judge_answer a) → unpacked number_bits 1 (packed number_bits (judge_answer a)) ≡ judge_answer a
unfolding judge_answer
judge_back (Ok n) h = values_back number_bits (n ∷ []) h
judge_back (Err r) h = refusal_back number_bits 1 r

pub write_back : (a : WriteAnswer) → Lossless number_bits (write_answer a) → unpacked number_bits 1 (packed number_bits (write_answer a)) ≡ write_answer a
unfolding write_answer
write_back (Ok n) h = values_back number_bits (n ∷ []) h
write_back (Err r) h = refusal_back number_bits 1 r

pub verdict_back : (a : VerdictAnswer) (k : ℕ) → length a.words ≡ k → Lossless word_bits (verdict_answer a) → unpacked word_bits k (packed word_bits (verdict_answer a)) ≡ verdict_answer a
unfolding verdict_answer status_answer
verdict_back a k e = go a.status
  where
    go : (s : VerdictStatus) → Lossless word_bits (status_answer s (map yes_or_no a.words))
        → unpacked word_bits k (packed word_bits (status_answer s (map yes_or_no a.words))) ≡ status_answer s (map yes_or_no a.words)
    go (Ok tt) h = rw (length-map a.words yes_or_no ∙ e) at (values_back word_bits (map yes_or_no a.words) h)
    go (Err r) h = refusal_back word_bits k r
