-- How many sets from n on, below k, have a line.
use Prim.Native.Nat.{ℕ, suc, ◌+◌, ◌-◌, ◌*◌, ◌<◌, ◌≤◌}
use mathlib.Core.Bool.{true, false}
use mathlib.Core.List.{List, [], ◌∷◌}
use mathlib.Core.Path.{◌≡◌, refl, ◌∙◌}
use native.Mathlib.Numerals.{add-one}
use native.Mathlib.Omega.{arith}
use lib.ListN.{length, drop, take}
use lib.Seq.{drop-drop}
use Rattle.format.specs.Text.{Bytes}
use Rattle.format.specs.Document.{Entry}
use Rattle.format.specs.Read.{present}
use Rattle.calls.specs.Layout.{member_limit, members_from, with_entry, decode_sets}

module _ (n : ℕ) (es : List Entry) where
  entries_more : (ms : List ℕ) → present ms ≡ true → length (with_entry n ms es) ≡ suc (length es)
  unfolding present with_entry
  entries_more [] e = let z : ◌≡◌ {A = ℕ} 0 1 = cc in absurd (omega arith)
  entries_more (m ∷ ms) e = refl

  entries_same : (ms : List ℕ) → present ms ≡ false → length (with_entry n ms es) ≡ length es
  unfolding present with_entry
  entries_same [] e = refl
  entries_same (m ∷ ms) e = let z : ◌≡◌ {A = ℕ} 0 1 = cc in absurd (omega arith)

abbrev pub entries_from : ℕ → ℕ → Bytes → ℕ
entries_from k n s = length (decode_sets (k - n) n (drop (n * member_limit) s))

module _ (k n : ℕ) (s : Bytes) (inside : n < k) where
  abbrev flags_here : Bytes
  flags_here = take ((n * member_limit + member_limit) - n * member_limit) (drop (n * member_limit) s)

  entries_next : entries_from k n s ≡ length (with_entry n (members_from 0 flags_here) (decode_sets (k - (n + 1)) (n + 1) (drop ((n + 1) * member_limit) s)))
  unfolding decode_sets
  entries_next =
      let q : k - n ≡ suc (k - (n + 1)) = omega arith in
      let size : (n * member_limit + member_limit) - n * member_limit ≡ member_limit = omega arith in
      let past : (n + 1) * member_limit ≡ n * member_limit + member_limit = omega arith in
      rw (q, size, past, add-one n, ← (drop-drop member_limit (n * member_limit) s))

  pub entry_counted : present (members_from 0 flags_here) ≡ true → entries_from k n s ≡ suc (entries_from k (n + 1) s)
  entry_counted e = entries_next ∙ entries_more n _ _ e

  pub entry_skipped : present (members_from 0 flags_here) ≡ false → entries_from k n s ≡ entries_from k (n + 1) s
  entry_skipped e = entries_next ∙ entries_same n _ _ e

pub entries_end : (k n : ℕ) (s : Bytes) → k ≤ n → entries_from k n s ≡ 0
unfolding decode_sets
entries_end k n s h = let q : k - n ≡ 0 = omega arith in rw q
