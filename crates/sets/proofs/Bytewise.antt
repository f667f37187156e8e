-- Bytes joined with those of another set, one by one.
use Prim.Native.Nat.{ℕ, ◌+◌, ◌<◌}
use native.Mathlib.Omega.{arith}
use native.Mathlib.Decide.{ℕ_discrete as dec_eq}
use mathlib.Core.Path.{refl, ap, ◌∙◌}
use lib.ListN.{length, set, length-set}
use lib.Seq.{get_or-set_same, get_or-set_other}
use Rattle.format.specs.Text.{Bytes, byte_at}
use Rattle.sets.specs.Sets.{Bytewise}

module _ (f : ℕ → ℕ → ℕ) where
  pub bytewise_none : (other s : Bytes) → Bytewise f 0 other s s
  bytewise_none other s = record { size = refl; done = λ j l. absurd (omega arith); behind = λ q l. refl }

  pub bytewise_more : {i : ℕ} {other s s' : Bytes} → Bytewise f i other s s' → i < length s' → Bytewise f (i + 1) other s (set s' i (f (byte_at s' i) (byte_at other i)))
  bytewise_more {i} {other} {s} {s'} h l =
      record {
        size = simp length-set h.size;
        done = λ j k. elim (dec_eq j i) [
          | yes e ↦ rw e (get_or-set_same s' i _ 0 l ∙ ap (λ b. f b (byte_at other i)) (h.behind i (omega arith)))
          | no d ↦ get_or-set_other s' i j _ 0 d ∙ h.done j (omega arith)
        ];
        behind = λ q k. get_or-set_other s' i q _ 0 (λ e. omega arith) ∙ h.behind q (omega arith);
      }
