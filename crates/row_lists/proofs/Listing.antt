-- Lists of rows: one row more, and tests over them.
use Prim.Native.Nat.{ℕ, ◌+◌, ◌≤◌, ◌<◌}
use native.Mathlib.Omega.{arith}
use native.Mathlib.Decide.{ℕ_discrete as dec_eq}
use native.Mathlib.Numerals.{add-one}
use mathlib.Core.Bool.{Bool, true, false, ◌&&◌, ◌||◌, So, false≢true}
use mathlib.Core.List.{[], ◌∷◌, ◌++◌}
use mathlib.Core.Logic.{⊎_elim}
use mathlib.Core.Path.{◌≡◌, sym, ap, ◌∙◌}
use lib.ListN.{length}
use Rattle.std.proofs.lemmas.List.{length-append, get_or_append_left, get_or-append_right}
use lib.Dec.{ltb, eqb}
use borrow.Author.Tests.{lt-ltb, ltb-true, eq-eqb, ne_eqb, eqb-true}
use Rattle.program.specs.Test.{any}
use Rattle.program.proofs.Test.{and_left, and_right, and_intro, or_left, or_right, or_cases, any_intro, any_elim, same_tests}
use Rattle.format.specs.Limits.{row_limit}
use Rattle.format.specs.Text.{Bytes, byte_at}
use Rattle.row_lists.specs.Lists.{Has, Lists}

pub has_none : {f : ℕ → Bool} → ((r : ℕ) → So (f r) → ⊥) → Has f []
has_none never = record { rows = λ i l. absurd (omega arith); all = λ r h. absurd (never r h) }

pub has_as : {f g : ℕ → Bool} {list : Bytes} → ((r : ℕ) → So (f r) → So (g r)) → ((r : ℕ) → So (g r) → So (f r)) → Has f list → Has g list
has_as into from h = record { rows = λ i l. into _ (h.rows i l); all = λ r t. h.all r (from r t) }

-- one row more
pub has_more : (r : ℕ) {f g : ℕ → Bool} {list : Bytes} → So (g r) → ((q : ℕ) → So (f q) → So (g q)) → ((q : ℕ) → So (g q) → (q ≡ r → ⊥) → So (f q)) → Has f list → Has g (list ++ r ∷ [])
has_more r {f} {g} {list} here into from h =
    let many : length (list ++ r ∷ []) ≡ length list + 1 = length-append list (r ∷ []) in
    let last : byte_at (list ++ r ∷ []) (length list) ≡ r = grind (arith, get_or-append_right list (r ∷ []) (length list) (length list) 0) in
    record {
      rows = λ i k. elim (dec_eq i (length list)) [
        | yes e ↦ rw (e, last) here
        | no d ↦ rw (get_or_append_left list (r ∷ []) 0 i (omega (arith, k, many))) (into _ (h.rows i (omega (arith, k, many))))
      ];
      all = λ q t. elim (dec_eq q r) [
        | yes e ↦ (length list, omega (arith, many), last ∙ sym e)
        | no d ↦
            let (i, k, e) = h.all q (from q t d) in
            (i, omega (arith, many), get_or_append_left list (r ∷ []) 0 i k ∙ e)
      ];
    }

pub lists_done : (n : ℕ) {f : ℕ → Bool} {list : Bytes} → length list ≤ row_limit → Has (λ r. ltb r n && f r) list → Lists n f list
lists_done n {f} {list} few h =
    record {
      few = few;
      rows = λ i k. let t = h.rows i k in (ltb-true _ n (and_left (ltb (byte_at list i) n) _ t), and_right (ltb (byte_at list i) n) _ t);
      all = λ r k t. h.all r (and_intro (lt-ltb r n k) t);
    }

-- ---- tests over a list

module _ {n : ℕ} {f : ℕ → Bool} (list : Bytes) (h : Lists n f list) where
  -- a test of one of its rows
  pub any_listed : (g : ℕ → Bool) → any (length list) (λ i. g (byte_at list i)) ≡ any n (λ r. f r && g r)
  any_listed g = same_tests (any (length list) λ i. g (byte_at list i)) (any n λ r. f r && g r) into from
    where
      into : So (any (length list) λ i. g (byte_at list i)) → So (any n λ r. f r && g r)
      into t =
          let (i, l, u) = any_elim (length list) _ t in
          let (k, v) = h.rows i l in
          any_intro (λ r. f r && g r) (byte_at list i) k (and_intro v u)

      from : So (any n λ r. f r && g r) → So (any (length list) λ i. g (byte_at list i))
      from t =
          let (r, l, u) = any_elim n _ t in
          let (i, k, e) = h.all r l (and_left (f r) (g r) u) in
          any_intro (λ i. g (byte_at list i)) i k (rw e (and_right (f r) (g r) u))

  -- whether a row is one of its
  pub one_listed : (r : ℕ) → r < n → any (length list) (λ i. eqb (byte_at list i) r) ≡ f r
  one_listed r l = same_tests (any (length list) λ i. eqb (byte_at list i) r) (f r) into from
    where
      into : So (any (length list) λ i. eqb (byte_at list i) r) → So (f r)
      into t =
          let (i, k, u) = any_elim (length list) _ t in
          rw (eqb-true _ r u) at (h.rows i k).1

      from : So (f r) → So (any (length list) λ i. eqb (byte_at list i) r)
      from t =
          let (i, k, e) = h.all r l t in
          any_intro (λ i. eqb (byte_at list i) r) i k (eq-eqb _ r e)

-- ---- the rows of a list of which a test holds, as another list

-- one of the first i rows of a list is q
abbrev pub among : Bytes → ℕ → ℕ → Bool
among list i q = any i λ j. eqb (byte_at list j) q

-- one row more
module _ (list : Bytes) (i q : ℕ) where
  pub among_here : byte_at list i ≡ q → among list (i + 1) q ≡ true
  unfolding any
  among_here e = rw (add-one i) (or_left (among list i q) (eq-eqb (byte_at list i) q e))

  pub among_other : (byte_at list i ≡ q → ⊥) → among list (i + 1) q ≡ among list i q
  unfolding any
  among_other d = rw (add-one i) (ap (λ b. b || among list i q) (ne_eqb (byte_at list i) q d))

module _ (list : Bytes) (g : ℕ → Bool) where
  -- the rows so far
  abbrev pub so_far : ℕ → ℕ → Bool
  so_far i q = among list i q && g q

  pub far_none : Has (so_far 0) []
  unfolding any
  far_none = has_none (λ r h. false≢true h)

  module _ (i : ℕ) {r : ℕ} (e : r ≡ byte_at list i) where
    further : (q : ℕ) → So (so_far i q) → So (so_far (i + 1) q)
    unfolding any
    further q h = rw add-one (and_intro (or_right (eqb (byte_at list i) q) (and_left (among list i q) _ h)) (and_right (among list i q) _ h))

    back : (q : ℕ) → So (so_far (i + 1) q) → (q ≡ r → ⊥) → So (so_far i q)
    unfolding any
    back q h d =
        let t = rw add-one at h in
        and_intro (⊎_elim (λ a. absurd (d (sym (e ∙ eqb-true _ q a)))) (λ a. a) (or_cases (eqb (byte_at list i) q) (among list i q) (and_left (eqb (byte_at list i) q || among list i q) (g q) t)))
        (and_right (eqb (byte_at list i) q || among list i q) (g q) t)

    pub far_other : {on : Bytes} → g r ≡ false → Has (so_far i) on → Has (so_far (i + 1)) on
    far_other z h = has_as further (λ q t. back q t (λ d. false≢true (sym z ∙ rw d at (and_right (among list (i + 1) q) (g q) t)))) h

    pub far_here : {on : Bytes} → g r ≡ true → Has (so_far i) on → Has (so_far (i + 1)) (on ++ r ∷ [])
    unfolding any
    far_here t h = has_more r (rw add-one (and_intro (or_left (among list i r) (eq-eqb _ r (sym e))) t)) further back h

  pub far_done : {n : ℕ} {f : ℕ → Bool} {on : Bytes} → Lists n f list → ((q : ℕ) → q < n → So (g q) → So (f q)) → Has (so_far (length list)) on → Has (λ r. ltb r n && g r) on
  far_done {n} {f} h inside k =
      has_as
      (λ q t.
      let (j, l, u) = any_elim (length list) _ (and_left (among list (length list) q) (g q) t) in
      and_intro (lt-ltb q n (rw (eqb-true _ q u) at (h.rows j l).0)) (and_right (among list (length list) q) (g q) t))
      (λ q t.
      let l : q < n = ltb-true q n (and_left (ltb q n) (g q) t) in
      let u : So (g q) = and_right (ltb q n) (g q) t in
      and_intro (one_listed list h q l ∙ inside q l u) u)
      k
