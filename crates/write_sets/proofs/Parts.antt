-- The line of a set, and the lines of sets in parts: what the loop writes in one turn, and what is left behind it.
use Prim.Native.Nat.{ℕ, suc, ◌+◌, ◌-◌, ◌*◌, ◌<◌, ◌≤◌}
use mathlib.Core.Bool.{So}
use mathlib.Core.List.{List, [], ◌∷◌, ◌++◌, append-nil}
use mathlib.Core.Path.{◌≡◌, refl, ◌∙◌}
use native.Mathlib.Numerals.{add-one}
use native.Mathlib.Omega.{arith}
use lib.ListN.{drop, take}
use lib.Seq.{drop-drop}
use Rattle.program.specs.Each.{collect}
use Rattle.format.specs.Text.{Bytes, ascii, argument}
use Rattle.format.specs.Document.{Entry}
use Rattle.format.specs.Print.{set_text}
use Rattle.format.specs.Read.{present}
use Rattle.calls.specs.Layout.{member_limit, members_from, with_entry, decode_sets}
use Rattle.write_sets.specs.Texts.{entry_text}

-- ---- the line of a set, or nothing

pub one_entry : (word : Bytes) (n : ℕ) (ms : List ℕ) → So (present ms)
    → collect (entry_text word) (with_entry n ms []) ≡ word ++ (argument n ++ (ascii " " ++ (set_text ms ++ ascii "]\n")))
unfolding present with_entry collect entry_text
one_entry word n [] h = let z : ◌≡◌ {A = ℕ} 0 1 = cc in absurd (omega arith)
one_entry word n (m ∷ ms) h = append-nil (entry_text word (record { key = n; members = m ∷ ms }))

-- ---- the lines of sets n, n + 1 and so on, below k

pub with_entry_lem : (f : Entry → Bytes) (n : ℕ) (ms : List ℕ) (es : List Entry) → collect f (with_entry n ms es) ≡ collect f (with_entry n ms []) ++ collect f es
unfolding with_entry collect
with_entry_lem f n [] es = refl
with_entry_lem f n (m ∷ ms) es = rw append-nil

module _ (f : Entry → Bytes) (k n : ℕ) (s : Bytes) where
  -- the set's bytes as the code cuts them out
  pub sets_next : n < k → collect f (decode_sets (k - n) n (drop (n * member_limit) s))
      ≡ collect f (with_entry n (members_from 0 (take ((n * member_limit + member_limit) - n * member_limit) (drop (n * member_limit) s))) [])
      ++ collect f (decode_sets (k - (n + 1)) (n + 1) (drop ((n + 1) * member_limit) s))
  unfolding decode_sets
  sets_next h =
      let q : k - n ≡ suc (k - (n + 1)) = omega arith in
      let size : (n * member_limit + member_limit) - n * member_limit ≡ member_limit = omega arith in
      let past : (n + 1) * member_limit ≡ n * member_limit + member_limit = omega arith in
      rw (q, size, past, add-one n, ← (drop-drop member_limit (n * member_limit) s))
      (with_entry_lem f n (members_from 0 (take member_limit (drop (n * member_limit) s))) (decode_sets (k - suc n) (suc n) (drop member_limit (drop (n * member_limit) s))))

  -- a set without a member has no line
  pub sets_skip : n < k → members_from 0 (take member_limit (drop (n * member_limit) s)) ≡ []
      → collect f (decode_sets (k - n) n (drop (n * member_limit) s)) ≡ collect f (decode_sets (k - (n + 1)) (n + 1) (drop ((n + 1) * member_limit) s))
  unfolding collect with_entry
  sets_skip h e =
      let size : (n * member_limit + member_limit) - n * member_limit ≡ member_limit = omega arith in
      sets_next h ∙ rw (size, e)

  pub sets_end : k ≤ n → collect f (decode_sets (k - n) n (drop (n * member_limit) s)) ≡ []
  unfolding decode_sets collect
  sets_end h =
      let q : k - n ≡ 0 = omega arith in
      rw q
