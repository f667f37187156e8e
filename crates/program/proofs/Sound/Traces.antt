-- A pool with a walk for each of its paths.
use Prim.Native.Nat.{suc}
use mathlib.Core.Path.{◌≡◌, refl, sym, ◌∙◌, ap, ap₂}
use mathlib.Core.Logic.{◌≢◌, ◌⊎◌, inl, inr, ⊎_elim}
use Rattle.program.specs.Program.{Program}
use Rattle.program.specs.Run.{Label, Path, State, Move, Thread}
use Rattle.program.specs.Snoc.{◌▷◌, Begins, Continues}
use Rattle.program.specs.Walk.{Walk, last_row, Parted}
use Rattle.program.proofs.Snoc.{size as size_of, begins_refl, begins_eq, begins_cases, begins_same}
use Rattle.program.proofs.Sound.Moves.{Splits, Forked}

pub record Traced : Type 0 where
  pub path : Path
  pub walk : Walk
  pub state : State

unfoldable pub thread : Traced → Thread
thread t = record { path = t.path; state = t.state }

unfoldable pub child : Traced → Move → Traced
child t m = record { path = t.path ▷ m.label; walk = t.walk ▷ m.state.row; state = m.state }

-- the walk is as long as the path, and ends at the state's row
pub record Level (t : Traced) : Type 0 where
  pub ends : last_row t.walk ≡ t.state.row
  pub size : size_of t.path ≡ size_of t.walk

pub child_level : (t : Traced) (m : Move) → Level t → Level (child t m)
unfolding child last_row size_of
child_level t m g = record { ends = refl; size = ap suc g.size }

module _ (p : Program) where
  -- the walks part, and the paths after as many steps
  pub record Divided (s t : Traced) : Type 0 where
    pub walks : Parted p s.walk t.walk
    pub path : Path
    pub label₁ : Label
    pub label₂ : Label
    pub level : size_of path ≡ size_of walks.common
    pub first : Begins (path ▷ label₁) s.path
    pub second : Begins (path ▷ label₂) t.path
    pub differ : label₁ ≢ label₂

  -- paths and walks are ordered alike, or divided
  abbrev pub Follows : Traced → Traced → Type 0
  Follows s t = (Begins s.path t.path × Begins s.walk t.walk) ⊎ Divided s t

  abbrev pub Related : Traced → Traced → Type 0
  Related s t = Follows s t ⊎ Follows t s

  pub related_refl : (t : Traced) → Related t t
  related_refl t = inl (inl (begins_refl t.path, begins_refl t.walk))

  pub related_sym : (s t : Traced) → Related s t → Related t s
  related_sym s t = ⊎_elim inr inl

  -- one step more on either side of where two divide
  further_first : (s t : Traced) (m : Move) → Divided s t → Divided (child s m) t
  unfolding child
  further_first s t m h = record {
    walks = record { common = h.walks.common; child = h.walks.child; rest = h.walks.rest; forks = h.walks.forks; first = inr h.walks.first; second = h.walks.second };
    path = h.path;
    label₁ = h.label₁;
    label₂ = h.label₂;
    level = h.level;
    first = inr h.first;
    second = h.second;
    differ = h.differ;
  }

  further_second : (s t : Traced) (m : Move) → Divided s t → Divided s (child t m)
  unfolding child
  further_second s t m h = record {
    walks = record { common = h.walks.common; child = h.walks.child; rest = h.walks.rest; forks = h.walks.forks; first = h.walks.first; second = inr h.walks.second };
    path = h.path;
    label₁ = h.label₁;
    label₂ = h.label₂;
    level = h.level;
    first = h.first;
    second = inr h.second;
    differ = h.differ;
  }

module _ (p : Program) where
  -- the children of one thread that split
  divide : (t : Traced) (m₁ m₂ : Move) → Level t → Splits p t.state m₁ m₂ → Divided p (child t m₁) (child t m₂)
  unfolding child
  divide t m₁ m₂ g (e, d) = record {
    walks = record {
      common = t.walk;
      child = m₁.state.row;
      rest = m₂.state.row;
      forks = rw g.ends e;
      first = begins_refl (t.walk ▷ m₁.state.row);
      second = begins_refl (t.walk ▷ m₂.state.row);
    };
    path = t.path;
    label₁ = m₁.label;
    label₂ = m₂.label;
    level = g.size;
    first = begins_refl (t.path ▷ m₁.label);
    second = begins_refl (t.path ▷ m₂.label);
    differ = d;
  }

  -- a path that another begins with and does not continue is that other
  not_continued : (x y : Path) → Begins x y → (Continues x y → ⊥) → x ≡ y
  not_continued x y b n = ⊎_elim (λ e. e) (λ c. absurd (n c)) (begins_cases x y b)

  leaf_same : (s t : Traced) → Level s → Level t → Begins s.path t.path → Begins s.walk t.walk → (Continues s.path t.path → ⊥)
      → (s.path ≡ t.path) × (s.walk ≡ t.walk)
  leaf_same s t g h b w n =
      let e = not_continued s.path t.path b n in
      (e, begins_same s.walk t.walk t.walk w (begins_refl t.walk) (sym g.size ∙ ap size_of e ∙ h.size))

  -- a leaf's child and any other
  pub child_related : (t s : Traced) (m : Move) → Level t → Level s → (Continues t.path s.path → ⊥) → Related p t s → Related p (child t m) s
  unfolding child
  child_related t s m g h n (inl (inl (b, w))) = let (e, f) = leaf_same t s g h b w n in inr (inl (inr (begins_eq (sym e)), inr (begins_eq (sym f))))
  child_related t s m g h n (inl (inr k)) = inl (inr (further_first p t s m k))
  child_related t s m g h n (inr (inl (b, w))) = inr (inl (inr b, inr w))
  child_related t s m g h n (inr (inr k)) = inr (inr (further_second p s t m k))

  -- a leaf's children
  pub children_related : (t : Traced) (m₁ m₂ : Move) → Level t → Forked p t.state m₁ m₂ → Related p (child t m₁) (child t m₂)
  unfolding child
  children_related t m₁ m₂ g (inl e) = inl (inl (inl (ap (λ m. t.path ▷ m.label) e), inl (ap (λ m. t.walk ▷ m.state.row) e)))
  children_related t m₁ m₂ g (inr (inl e)) = inl (inr (divide t m₁ m₂ g e))
  children_related t m₁ m₂ g (inr (inr e)) = inr (inr (divide t m₂ m₁ g e))

  -- the children of two leaves, which have the same label and row if the leaves are at the same row
  module _ (s t : Traced) (m k : Move) (same : s.state.row ≡ t.state.row → (m.label ≡ k.label) × (m.state.row ≡ k.state.row)) where
    same_children : Level s → Level t → (s.path ≡ t.path) → (s.walk ≡ t.walk) → Related p (child s m) (child t k)
    unfolding child
    same_children g h e f = let (l, r) = same (sym g.ends ∙ ap last_row f ∙ h.ends) in inl (inl (inl (ap₂ ◌▷◌ e l), inl (ap₂ ◌▷◌ f r)))

    pub meeting_related : Level s → Level t → (Continues s.path t.path → ⊥) → (Continues t.path s.path → ⊥)
        → Related p s t → Related p (child s m) (child t k)
    meeting_related g h n n' (inl (inl (b, w))) = let (e, f) = leaf_same s t g h b w n in same_children g h e f
    meeting_related g h n n' (inl (inr q)) = inl (inr (further_first p s (child t k) m (further_second p s t k q)))
    meeting_related g h n n' (inr (inl (b, w))) = let (e, f) = leaf_same t s h g b w n' in same_children g h (sym e) (sym f)
    meeting_related g h n n' (inr (inr q)) = inr (inr (further_first p t (child s m) k (further_second p t s m q)))
