-- Records copied from one list to another.
use Prim.Native.Nat.{ℕ, zero, suc, min, ◌≤◌, ◌<◌}
use native.Mathlib.Omega.{arith}
use mathlib.Core.List.{List, [], ◌∷◌, ◌++◌, append-nil}
use mathlib.Core.Path.{◌≡◌, refl, sym, ◌∙◌, ap, ap₂}
use lib.ListN.{length, get_or, set, take, drop, replicate, length-set, length-append, length-replicate, drop_of_length-le}
use lib.Seq.{append_snoc}
use Rattle.machine.specs.declared.ThreadRecord.{ThreadRecord}
use Rattle.machine.specs.Machine.{thread_limit}
use Rattle.thread_records.specs.declared.Records.{Records}
use Rattle.thread_records.specs.Records.{no_record, copied, within, records_in, put_records}

abbrev pub Threads : Type 0
Threads = List ThreadRecord

pub drop_set : (ts : Threads) (k : ℕ) (u : ThreadRecord) → k < length ts → drop k (set ts k u) ≡ u ∷ drop (suc k) ts
drop_set [] k u l = absurd (omega arith)
drop_set (t ∷ ts) zero u l = refl
drop_set (t ∷ ts) (suc k) u l = drop_set ts k u (omega arith)

take_next : (ts : Threads) (k : ℕ) → k < length ts → take (suc k) ts ≡ take k ts ++ (get_or ts k no_record ∷ [])
take_next [] k l = absurd (omega arith)
take_next (t ∷ ts) zero l = refl
take_next (t ∷ ts) (suc k) l = ap (λ (l : Threads). t ∷ l) (take_next ts k (omega arith))

pub copied_is : (k : ℕ) (from into : Threads) → k ≤ length from → k ≤ length into → copied k from into ≡ take k from ++ drop k into
unfolding copied
copied_is zero from into l m = refl
copied_is (suc k) from into l m =
    let v : ThreadRecord = get_or from k no_record in
    copied_is k from (set into k v) (omega arith) (let z = length-set into k v in omega (arith, z, m))
    ∙ ap (λ (l : Threads). take k from ++ l) (drop_set into k v (omega arith))
    ∙ sym (ap (λ (l : Threads). l ++ drop (suc k) into) (take_next from k (omega arith)) ∙ append_snoc (take k from) v (drop (suc k) into))

pub take_all : (n : ℕ) (ts : Threads) → length ts ≤ n → take n ts ≡ ts
take_all zero [] l = refl
take_all (suc n) [] l = refl
take_all zero (t ∷ ts) l = absurd (omega arith)
take_all (suc n) (t ∷ ts) l = ap (λ (l : Threads). t ∷ l) (take_all n ts (omega arith))

take-append : (xs ys : Threads) (n : ℕ) → n ≤ length xs → take n (xs ++ ys) ≡ take n xs
take-append xs ys zero l = refl
take-append [] ys (suc n) l = absurd (omega arith)
take-append (x ∷ xs) ys (suc n) l = ap (λ (l : Threads). x ∷ l) (take-append xs ys n (omega arith))

none : Threads
none = replicate thread_limit no_record

-- where enough are lent
module _ (ts : Threads) (enough : thread_limit ≤ length ts) where
  within_is : within ts ≡ thread_limit
  unfolding within
  within_is = omega (arith, enough)

  pub records_are : (records_in ts).list ≡ take thread_limit ts
  unfolding records_in none
  records_are =
      ap (λ (k : ℕ). copied k ts none) within_is ∙ copied_is thread_limit ts none enough (let z = length-replicate thread_limit no_record in omega (arith, z))
      ∙ ap (λ (l : Threads). take thread_limit ts ++ l) (drop_of_length-le none {i = thread_limit} (let z = length-replicate thread_limit no_record in omega (arith, z))) ∙ append-nil (take thread_limit ts)

  pub put_is : (r : Records) → length r.list ≡ thread_limit → put_records ts r ≡ r.list ++ drop thread_limit ts
  unfolding put_records
  put_is r e =
      ap (λ (k : ℕ). copied k r.list ts) within_is ∙ copied_is thread_limit r.list ts (omega (arith, e)) enough
      ∙ ap (λ (l : Threads). l ++ drop thread_limit ts) (take_all thread_limit r.list (omega (arith, e)))

-- where too few are lent, what is put back is what was taken
pub put_few : (ts : Threads) → length ts < thread_limit → (r : Records) → r.list ≡ (records_in ts).list → put_records ts r ≡ ts
unfolding put_records records_in within none
put_few ts few r e =
    let n : ℕ = length ts in
    let w : min (length ts) thread_limit ≡ n = omega (arith, few) in
    let long : n ≤ length none = (let z = length-replicate thread_limit no_record in omega (arith, z, few)) in
    let list : (records_in ts).list ≡ ts ++ drop n none =
    ap (λ (k : ℕ). copied k ts none) w ∙ copied_is n ts none (omega arith) long ∙ ap (λ (l : Threads). l ++ drop n none) (take_all n ts (omega arith)) in
    let size : n ≤ length (ts ++ drop n none) = (let z = length-append ts (drop n none) in omega (arith, z)) in
    ap₂ (λ (k : ℕ) (l : Threads). copied k l ts) w (e ∙ list) ∙ copied_is n (ts ++ drop n none) ts size (omega arith)
    ∙ ap₂ ◌++◌ (take-append ts (drop n none) n (omega arith) ∙ take_all n ts (omega arith)) (drop_of_length-le ts {i = n} (omega arith)) ∙ append-nil ts
