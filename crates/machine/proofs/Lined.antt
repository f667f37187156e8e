-- Thread for leaf: numbers that line up with paths, each with the same state on both sides.
use Prim.Native.Nat.{ℕ}
use native.Mathlib.Decide.{ℕ_discrete}
use Rattle.std.specs.Prelude.{Option, None as none, Some as some}
use mathlib.Core.Path.{◌≡◌, refl, sym, ◌∙◌, ap}
use mathlib.Core.Logic.{◌≢◌}
use Rattle.program.specs.Run.{Path, State}
use Rattle.machine.proofs.Leaves.{put, put_same, put_other, decide, same_path, no_some}
use Rattle.machine.specs.Standing.{Lined}

pub lined_same : (threads threads' : ℕ → Option State) (leaves leaves' : Path → Option State) (path : ℕ → Path)
    → ((n : ℕ) → threads' n ≡ threads n) → ((x : Path) → leaves' x ≡ leaves x) → Lined threads leaves path → Lined threads' leaves' path
lined_same threads threads' leaves leaves' path e f h = record {
  each = λ n s q. f (path n) ∙ h.each n s (sym (e n) ∙ q);
  once = λ n k s r q q'. h.once n k s r (sym (e n) ∙ q) (sym (e k) ∙ q');
  whole = λ x s q. let (n, a, b) = h.whole x s (sym (f x) ∙ q) in (n, e n ∙ a, b);
}

module _ (threads : ℕ → Option State) (leaves : Path → Option State) (path : ℕ → Path) (h : Lined threads leaves path) where
  -- a thread leaves its path
  pub leave : (t : ℕ) (s : State) → threads t ≡ some s → Lined (put ℕ_discrete threads t none) (put same_path leaves (path t) none) path
  leave t s e = record {
    each = λ n r q.
        decide ℕ_discrete n t
        (λ m. no_some (ap (put ℕ_discrete threads t none) m ∙ put_same ℕ_discrete threads t none) q)
        (λ m.
        let a : threads n ≡ some r = sym (put_other ℕ_discrete threads t none n m) ∙ q in
        put_other same_path leaves (path t) none (path n) (λ z. m (h.once n t r s a e z)) ∙ h.each n r a);
    once = λ n k r u q q' z.
        decide ℕ_discrete n t
        (λ m. no_some (ap (put ℕ_discrete threads t none) m ∙ put_same ℕ_discrete threads t none) q)
        (λ m.
        decide ℕ_discrete k t
        (λ m'. no_some (ap (put ℕ_discrete threads t none) m' ∙ put_same ℕ_discrete threads t none) q')
        (λ m'. h.once n k r u (sym (put_other ℕ_discrete threads t none n m) ∙ q) (sym (put_other ℕ_discrete threads t none k m') ∙ q') z));
    whole = λ x r q.
        decide same_path x (path t)
        (λ m. no_some (ap (put same_path leaves (path t) none) m ∙ put_same same_path leaves (path t) none) q)
        (λ m.
        let (n, a, b) = h.whole x r (sym (put_other same_path leaves (path t) none x m) ∙ q) in
        (n, put_other ℕ_discrete threads t none n (λ z. m (sym b ∙ ap path z)) ∙ a, b));
  }

  -- a thread that is on no path comes to a path that is no leaf
  pub arrive : (t : ℕ) (s : State) (x : Path) → threads t ≡ none → leaves x ≡ none → Lined (put ℕ_discrete threads t (some s)) (put same_path leaves x (some s)) (put ℕ_discrete path t x)
  arrive t s x e f =
      let at : (n : ℕ) → n ≡ t → put ℕ_discrete path t x n ≡ x = λ n m. ap (put ℕ_discrete path t x) m ∙ put_same ℕ_discrete path t x in
      let other : (n : ℕ) → n ≢ t → put ℕ_discrete path t x n ≡ path n = λ n m. put_other ℕ_discrete path t x n m in
      let old : (n : ℕ) (r : State) → n ≢ t → put ℕ_discrete threads t (some s) n ≡ some r → threads n ≡ some r = λ n r m q. sym (put_other ℕ_discrete threads t (some s) n m) ∙ q in
      let apart : (n : ℕ) (r : State) → threads n ≡ some r → path n ≢ x = λ n r q z. no_some (ap leaves z ∙ f) (h.each n r q) in
      record {
        each = λ n r q.
            decide ℕ_discrete n t
            (λ m. ap (put same_path leaves x (some s)) (at n m) ∙ put_same same_path leaves x (some s) ∙ sym (ap (put ℕ_discrete threads t (some s)) m ∙ put_same ℕ_discrete threads t (some s)) ∙ q)
            (λ m. let a = old n r m q in ap (put same_path leaves x (some s)) (other n m) ∙ put_other same_path leaves x (some s) (path n) (apart n r a) ∙ h.each n r a);
        once = λ n k r u q q' z.
            decide ℕ_discrete n t
            (λ m.
            decide ℕ_discrete k t
            (λ m'. m ∙ sym m')
            (λ m'. absurd (apart k u (old k u m' q') (sym (other k m') ∙ sym z ∙ at n m))))
            (λ m.
            decide ℕ_discrete k t
            (λ m'. absurd (apart n r (old n r m q) (sym (other n m) ∙ z ∙ at k m')))
            (λ m'. h.once n k r u (old n r m q) (old k u m' q') (sym (other n m) ∙ z ∙ other k m')));
        whole = λ y r q.
            decide same_path y x
            (λ m. (t, put_same ℕ_discrete threads t (some s) ∙ sym (ap (put same_path leaves x (some s)) m ∙ put_same same_path leaves x (some s)) ∙ q, at t refl ∙ sym m))
            (λ m.
            let (n, a, b) = h.whole y r (sym (put_other same_path leaves x (some s) y m) ∙ q) in
            let k : n ≢ t = λ z. no_some (ap threads z ∙ e) a in
            (n, put_other ℕ_discrete threads t (some s) n k ∙ a, other n k ∙ b));
      }
