-- The constraints of a row are what its flow rule says.
use Prim.Native.Nat.{ℕ, zero, suc, ◌<◌}
use native.Mathlib.Omega.{arith}
use mathlib.Core.Bool.{Bool, true, false, So, false≢true}
use mathlib.Core.List.{List, [], ◌∷◌, ◌++◌}
use Rattle.std.specs.Prelude.{Option, None as none, Some as some}
use mathlib.Core.Path.{◌≡◌, refl}
use mathlib.Core.Logic.Iff
use mathlib.Core.Logic.{◌↔◌, ⊎_elim}
use lib.ListN.{length}
use Rattle.program.specs.declared.Form.{Form}
use Rattle.program.specs.declared.Form.TheVariants.{Chan, Send, Recv, Pair, Left, Right, Fun, Spawn, Sync, First, Second, Case, Apply}
use Rattle.program.specs.Test.{pick}
use Rattle.program.specs.Flow.{row, Set, Table}
use Rattle.program.specs.FlowRule.{ForEach, Lies, FlowRule}
use Rattle.program.specs.Program.{Program, send_at, recv_at}
use Rattle.least.specs.Least.{Within, Constraint, holds, lies, gather, of_found, of_rows, of_chans, send_constraints, recv_constraints, constraints, Sets, both_tables}
use Rattle.program.specs.Each.{Each, nil, ◌&◌}
use Rattle.program.proofs.Each.{each_append, each_left, each_right}
use Rattle.program.proofs.Test.{below}

-- ---- what holds of each constraint

module _ {A : Type 0} (P : A → Type 0) where
  pub gather_iff : (n : ℕ) (f : ℕ → List A) → Each P (gather n f) ↔ ((i : ℕ) → i < n → Each P (f i))
  unfolding gather
  gather_iff zero f = (λ h i l. absurd (omega arith), λ h. nil)
  gather_iff (suc n) f = (
    λ h i l. ⊎_elim (λ e. rw e (each_right (gather n f) (f n) h)) (λ m. (gather_iff n f).0 (each_left (gather n f) (f n) h) i m) (below n i l),
    λ h. each_append ((gather_iff n f).1 (λ i l. h i (omega arith))) (h n (omega arith)),
  )

  pick_iff : (b : Bool) (xs : List A) → Each P (pick b xs []) ↔ (So b → Each P xs)
  pick_iff true xs = (λ h t. h, λ h. h refl)
  pick_iff false xs = (λ h t. absurd (false≢true t), λ h. nil)

  pub found_iff : {B : Type 0} (o : Option B) (f : B → List A) → Each P (of_found o f) ↔ ((b : B) → o ≡ some b → Each P (f b))
  unfolding of_found
  found_iff none f = (λ h b e. let z : ◌≡◌ {A = ℕ} 0 1 = cc in absurd (omega arith), λ h. nil)
  found_iff (some x) f = (λ h b e. let q : x ≡ b = cc in rw q at h, λ h. h x refl)

  append_iff : (xs ys : List A) → Each P (xs ++ ys) ↔ (Each P xs × Each P ys)
  append_iff xs ys = (λ h. (each_left xs ys h, each_right xs ys h), λ (h, k). each_append h k)

  one_iff : (x : A) → Each P (x ∷ []) ↔ P x
  one_iff x = (head, λ h. h & nil)
    where
      head : Each P (x ∷ []) → P x
      head (h & k) = h

  two_iff : (x y : A) → Each P (x ∷ y ∷ []) ↔ (P x × P y)
  two_iff x y = (both, λ (h, k). h & k & nil)
    where
      both : Each P (x ∷ y ∷ []) → P x × P y
      both (h & k & l) = (h, k)

rows_iff : (P : Constraint → Type 0) (p : Program) (s : Set) (f : ℕ → List Constraint) → Each P (of_rows p s f) ↔ ForEach p s (λ r. Each P (f r))
unfolding of_rows
rows_iff P p s f = (
  λ h r l m. (pick_iff P (s (row r)) (f r)).0 ((gather_iff P (length p) _).0 h r l) m,
  λ h. (gather_iff P (length p) _).1 (λ r l. (pick_iff P (s (row r)) (f r)).1 (h r l)),
)

-- tables keep a constraint
abbrev pub Kept : Program → Sets → Constraint → Type 0
Kept p sets (holds a q) = So (sets q a)
Kept p sets (lies s q) = Lies p (sets s) (sets q)

module _ (p : Program) (flow comm : Table) (r n : ℕ) where
  pub constraints_iff : (f : Form) → Each (Kept p (both_tables flow comm)) (constraints p flow r n f) ↔ FlowRule p flow comm r n f
  unfolding constraints send_constraints recv_constraints of_chans
  constraints_iff Form.Unit = one_iff _ _
  constraints_iff Chan = one_iff _ _
  constraints_iff (Send c m) = one_iff _ _
  constraints_iff (Recv c) = one_iff _ _
  constraints_iff (Pair a b) = one_iff _ _
  constraints_iff (Left a) = one_iff _ _
  constraints_iff (Right a) = one_iff _ _
  constraints_iff (Fun f x t) = two_iff _ _ _
  constraints_iff (Spawn t) = one_iff _ _
  constraints_iff (Sync e) = simp (rows_iff, found_iff, append_iff, one_iff, two_iff) Iff.rfl
  constraints_iff (First a) = simp (rows_iff, found_iff, one_iff) Iff.rfl
  constraints_iff (Second a) = simp (rows_iff, found_iff, one_iff) Iff.rfl
  constraints_iff (Case s x t y w) = simp (rows_iff, found_iff, append_iff, two_iff) Iff.rfl
  constraints_iff (Apply f a) = simp (rows_iff, found_iff, two_iff) Iff.rfl

-- ---- smaller sets ask for less

module _ (P : Constraint → Type 0) where
  found_less : {A : Type 0} (o : Option A) {f f' : A → List Constraint} → ((a : A) → Each P (f' a) → Each P (f a)) → Each P (of_found o f') → Each P (of_found o f)
  unfolding of_found
  found_less none g h = nil
  found_less (some a) g h = g a h

  module _ (p : Program) (s s' : Set) (less : (r : ℕ) → So (s (row r)) → So (s' (row r))) where
    rows_less : {f f' : ℕ → List Constraint} → ((r : ℕ) → Each P (f' r) → Each P (f r)) → Each P (of_rows p s' f') → Each P (of_rows p s f)
    rows_less {f} {f'} g h = (rows_iff P p s f).1 λ r l m. g r ((rows_iff P p s' f').0 h r l (less r m))

    chans_less : (f : ℕ → List Constraint) → Each P (of_chans p s' f) → Each P (of_chans p s f)
    unfolding of_chans
    chans_less f h = rows_less (λ r k. k) h

  module _ (p : Program) {flow flow' : Table} (less : Within flow flow') (r n : ℕ) where
    pub constraints_less : (f : Form) → Each P (constraints p flow' r n f) → Each P (constraints p flow r n f)
    unfolding constraints send_constraints recv_constraints
    constraints_less Form.Unit h = h
    constraints_less Chan h = h
    constraints_less (Send c m) h = h
    constraints_less (Recv c) h = h
    constraints_less (Pair a b) h = h
    constraints_less (Left a) h = h
    constraints_less (Right a) h = h
    constraints_less (Fun f x t) h = h
    constraints_less (Spawn t) h = h
    constraints_less (Sync e) h = rows_less p (flow e) (flow' e) (λ s. less e (row s)) (λ s k. each_append (sends s (each_left _ _ k)) (recvs s (each_right (send_constraints p flow' r n s) _ k))) h
      where
        sends : (s : ℕ) → Each P (send_constraints p flow' r n s) → Each P (send_constraints p flow r n s)
        sends s = unfold send_constraints in found_less (send_at p s) (λ (c, m). chans_less p (flow c) (flow' c) (λ k. less c (row k)) _)

        recvs : (s : ℕ) → Each P (recv_constraints p flow' r n s) → Each P (recv_constraints p flow r n s)
        recvs s = unfold recv_constraints in found_less (recv_at p s) (λ c. chans_less p (flow c) (flow' c) (λ k. less c (row k)) _)
    constraints_less (First a) h = rows_less p (flow a) (flow' a) (λ s. less a (row s)) (λ s k. k) h
    constraints_less (Second a) h = rows_less p (flow a) (flow' a) (λ s. less a (row s)) (λ s k. k) h
    constraints_less (Case s x t y w) h = rows_less p (flow s) (flow' s) (λ k. less s (row k)) (λ s k. k) h
    constraints_less (Apply f a) h = rows_less p (flow f) (flow' f) (λ k. less f (row k)) (λ s k. k) h
