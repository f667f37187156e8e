-- Rounds until one adds nothing: from empty sets they leave the smallest tables.
use Prim.Native.Nat.{ℕ, ◌+◌, ◌-◌, ◌<◌, ◌≤◌}
use native.Mathlib.Omega.{arith}
use mathlib.Core.Bool.{Bool, true, false, So, not, false≢true}
use mathlib.Core.List.{◌++◌}
use mathlib.Core.Path.{◌≡◌, refl, sym, ap, ◌∙◌, fun_ext}
use lib.ListN.{length, take, drop, replicate, length-drop, length-append, length-replicate, get_or-append}
use lib.Seq.{get_or-take, get_or-drop, length-take-le}
use borrow.Rule.Slice.PartMut.{put_mid}
use Rattle.std.proofs.lemmas.List.{get_or-append_right, get_or-replicate}
use Rattle.std.proofs.lemmas.List.Edits.{paste_all}
use Rattle.std.proofs.lemmas.Slice.{put_mid-paste}
use Rattle.std.specs.Prelude.{Option, None as none, Some as some, is_some}
use Rattle.program.specs.Test.{least}
use Rattle.program.specs.Flow.{Table, keeps_at, keeps_all}
use Rattle.program.proofs.Test.{all_intro, Least as Smallest, least_is, none_passes, smallest, same_tests}
use Rattle.least.specs.Least.{smallest_flow, smallest_comm}
use Rattle.program.proofs.FlowRule.{keeps_iff}
use Rattle.least.proofs.Least.{smallest_keeps, smallest_lies}
use Rattle.format.specs.Limits.{row_limit}
use Rattle.format.specs.Text.{Bytes, byte_at}
use Rattle.format.specs.Document.{member}
use Rattle.calls.specs.Layout.{rows_size, sets_size, claims_start, store_size}
use Rattle.store.specs.Rows.{store_program}
use Rattle.store.proofs.Laws.{program_length}
use Rattle.tables.specs.Tables.{store_flow, store_comm}
use Rattle.set_adds.specs.Adding.{position_of, Flags, Inside, Adds}
use Rattle.smallest.specs.Smallest.{Cleared, Settles, Least}
use Rattle.set_adds.proofs.Variables.{inside_iff, behind_rows, before_claims}
use Rattle.spreading.specs.Growing.{Resets, Grows}
use Rattle.spreading.proofs.Growing.{resets_none, resets_then, program_reset}

-- ---- rounds

pub record Spreads (n : ℕ) (s s' : Bytes) (more : Bool) : Type 0 where
  pub resets : Resets s s'
  pub flags : Flags s → Flags s'
  pub inside : (flow comm : Table) → So (keeps_all (store_program n s) flow comm) → Inside flow comm s → Inside flow comm s'
  pub keeps : more ≡ false → So (keeps_all (store_program n s) (store_flow s') (store_comm s'))

pub spreads_none : (n : ℕ) (s : Bytes) → Spreads n s s true
spreads_none n s = record { resets = resets_none s; flags = λ h. h; inside = λ flow comm t h. h; keeps = λ e. absurd (false≢true (sym e)) }

pub spreads_more : (n : ℕ) {s₀ s₁ s₂ : Bytes} {a b : Bool} → n ≤ row_limit → Spreads n s₀ s₁ a → Adds (λ flow comm. keeps_all (store_program n s₁) flow comm) s₁ s₂ b → Spreads n s₀ s₂ b
spreads_more n {s₀} {s₁} {s₂} few h k =
    let e = program_reset n few h.resets in
    record {
      resets = resets_then h.resets (record { size = k.size; rows = k.rows; rest = k.rest });
      flags = λ f. k.flags (h.flags f);
      inside = λ flow comm t i. k.inside flow comm (rw e t) (h.inside flow comm t i);
      keeps = λ q. rw (← e, k.still q) (k.kept q);
    }

pub settles : {n : ℕ} {s s' : Bytes} {more : Bool} → Spreads n s s' more → more ≡ false → Settles n s s'
settles h e = record { resets = h.resets; flags = h.flags; inside = h.inside; keeps = h.keeps e }

-- sets that keep the rules settle as they are
pub settled : (n : ℕ) {s : Bytes} → So (keeps_all (store_program n s) (store_flow s) (store_comm s)) → Settles n s s
settled n {s} keeps = record { resets = resets_none s; flags = λ h. h; inside = λ flow comm t h. h; keeps = keeps }

-- no row fails
pub no_row_fails : (n : ℕ) (o : Option ℕ) (s : Bytes) → o ≡ least n (λ r. not (keeps_at (store_program n s) (store_flow s) (store_comm s) r)) → is_some o ≡ false
    → So (keeps_all (store_program n s) (store_flow s) (store_comm s))
unfolding keeps_all
no_row_fails n o s e l = rw (program_length n s) (all_intro n keeps (go (least n (λ r. not (keeps r))) (least_is n (λ r. not (keeps r))) e))
  where
    keeps : ℕ → Bool
    keeps r = keeps_at (store_program n s) (store_flow s) (store_comm s) r

    so : (b : Bool) → not b ≡ false → So b
    so true q = refl
    so false q = absurd (false≢true (sym q))

    go : (x : Option ℕ) → Smallest n (λ r. not (keeps r)) x → o ≡ x → (i : ℕ) → i < n → So (keeps i)
    go none (none_passes h) q i k = so (keeps i) (h i k)
    go (some r) (smallest j t h) q i k = absurd (false≢true (sym l ∙ ap is_some q))

-- growth, and then rounds
pub settles_grown : (n : ℕ) {s₀ s₁ s₂ : Bytes} {b : Bool} → n ≤ row_limit → Grows n s₀ s₁ b → Settles n s₁ s₂ → Settles n s₀ s₂
settles_grown n few g h =
    let e = program_reset n few g.resets in
    record {
      resets = resets_then g.resets h.resets;
      flags = λ f. h.flags (g.flags f);
      inside = λ flow comm t i. h.inside flow comm (rw e t) (g.inside flow comm t i);
      keeps = rw (← e) h.keeps;
    }

-- ---- empty sets

unfoldable empty_sets : Bytes
empty_sets = replicate (sets_size + sets_size) 0

empty_size : length empty_sets ≡ sets_size + sets_size
unfolding empty_sets
empty_size = length-replicate {A = ℕ} (sets_size + sets_size) 0

empty_at : (i : ℕ) → i < sets_size + sets_size → byte_at empty_sets i ≡ 0
unfolding empty_sets
empty_at i l = get_or-replicate {A = ℕ} (sets_size + sets_size) i 0 0 l

-- a store with zeros in the place of its sets
module _ (s s' : Bytes) (long : store_size ≤ length s) (e : s' ≡ take rows_size s ++ (empty_sets ++ drop claims_start s)) where
  head_size : length (take rows_size s) ≡ rows_size
  head_size = length-take-le rows_size s (omega arith)

  behind : (q : ℕ) → rows_size ≤ q → byte_at s' q ≡ byte_at (empty_sets ++ drop claims_start s) (q - rows_size)
  behind q l = ap (λ (x : Bytes). byte_at x q) e ∙ get_or-append_right (take rows_size s) _ rows_size q 0 head_size l

  cleared : Cleared s s'
  cleared = record {
    resets = record {
      size =
          ap (λ (x : Bytes). length x) e
          ∙ omega (arith, length-append (take rows_size s) (empty_sets ++ drop claims_start s), length-append empty_sets (drop claims_start s), head_size, empty_size, length-drop claims_start s);
      rows = λ q l. ap (λ (x : Bytes). byte_at x q) e ∙ get_or-append (take rows_size s) _ 0 q (omega (arith, head_size)) ∙ get_or-take rows_size s q 0 l;
      rest = λ q l.
          let i : claims_start + (q - rows_size - (sets_size + sets_size)) ≡ q = omega arith in
          behind q (omega arith) ∙ get_or-append_right empty_sets _ (sets_size + sets_size) (q - rows_size) 0 empty_size (omega arith)
          ∙ get_or-drop claims_start s (q - rows_size - (sets_size + sets_size)) 0 ∙ ap (byte_at s) i;
    };
    none = λ q l m.
        behind q l ∙ get_or-append empty_sets _ 0 (q - rows_size) (omega (arith, empty_size))
        ∙ empty_at (q - rows_size) (omega arith);
  }

-- filled with zeros
pub cleared_fill : (s z : Bytes) → store_size ≤ length s → z ≡ replicate (length (take (sets_size + sets_size) (drop rows_size s))) 0 → Cleared s (put_mid rows_size (sets_size + sets_size) s z)
unfolding empty_sets
cleared_fill s z long e =
    let size : length (take (sets_size + sets_size) (drop rows_size s)) ≡ sets_size + sets_size = length-take-le (sets_size + sets_size) (drop rows_size s) (omega (arith, length-drop rows_size s)) in
    let zeros : z ≡ empty_sets = e ∙ ap (λ n. replicate {A = ℕ} n 0) size in
    cleared s _ long (put_mid-paste rows_size (sets_size + sets_size) s z empty_sets (sets_size + sets_size) zeros refl (sym empty_size) ∙ paste_all s rows_size empty_sets (sets_size + sets_size) (sym empty_size))

-- ---- from empty sets

module _ (n : ℕ) (s₀ s₁ s₂ : Bytes) (few : n ≤ row_limit) (c : Cleared s₀ s₁) (h : Settles n s₁ s₂) where
  none_inside : (flow comm : Table) → Inside flow comm s₁
  none_inside flow comm = (inside_iff flow comm s₁).1 λ p a k.
      let z = c.none (position_of p + member a) (omega (arith, behind_rows p)) (omega (arith, before_claims p k.low, k.few)) in
      absurd (omega (arith, k.byte))

  same : store_program n s₁ ≡ store_program n s₀
  same = program_reset n few c.resets

  pub least_left : Least n s₀ s₂
  unfolding Inside Flags
  least_left =
      let p = store_program n s₀ in
      let kept = (keeps_iff p (smallest_flow p) (smallest_comm p)).1 (smallest_keeps p) in
      let (f, g) = h.inside (smallest_flow p) (smallest_comm p) (rw same kept) (none_inside (smallest_flow p) (smallest_comm p)) in
      let keeps : So (keeps_all p (store_flow s₂) (store_comm s₂)) = rw same at h.keeps in
      let (i, j) = smallest_lies p (store_flow s₂) (store_comm s₂) ((keeps_iff p (store_flow s₂) (store_comm s₂)).0 keeps) in
      record {
        resets = resets_then c.resets h.resets;
        flags = h.flags (λ q l m. rw (c.none q l m) (omega arith));
        flows = fun_ext λ m. fun_ext λ a. same_tests _ _ (f m a) (i m a);
        comms = fun_ext λ m. fun_ext λ a. same_tests _ _ (g m a) (j m a);
      }
