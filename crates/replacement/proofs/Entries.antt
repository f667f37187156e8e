-- Flow lines with another set for one name: they rise, hold what the lines held and the new set, and give every other name the set it had.
use Prim.Native.Nat.{ℕ, ◌<◌}
use native.Mathlib.Omega.{arith}
use native.Mathlib.Decide.{dec_lt}
use mathlib.Core.Bool.{Bool, true, false, ◌&&◌, So, false≢true}
use mathlib.Core.List.{List, [], ◌∷◌, ◌++◌, map, map-append}
use mathlib.Core.Path.{◌≡◌, refl, sym, ap, ◌∙◌}
use mathlib.Core.Logic.{◌≢◌}
use lib.Dec.{ltb, eqb}
use borrow.Author.Tests.{ltb-true, lt-ltb, eqb-true, ne_eqb}
use Rattle.program.specs.Test.{pick}
use Rattle.program.specs.Each.{every, Each, nil, ◌&◌}
use Rattle.program.proofs.Test.{and_left, and_right, and_intro}
use Rattle.program.proofs.Each.{every_elim, each_imp, each_append, each_map, each_unmap, each_all}
use Rattle.format.specs.Document.{Entry, members_at}
use Rattle.format.specs.Read.{present, rising}
use Rattle.format.specs.WellFormed.{entries_rise}
use Rattle.calls.specs.Layout.{with_entry}
use Rattle.calls.proofs.Canonical.Lists.{every_intro}
use Rattle.calls.proofs.Canonical.Sets.{key_of, members_none, members_here, members_past}
use Rattle.replacement.specs.Replacement.{keep, with_set}

-- ---- what is kept

module _ {A : Type 0} (f : A → Bool) where
  pub each_keep : {P : A → Type 0} {xs : List A} → Each P xs → Each (λ x. P x × So (f x)) (keep f xs)
  unfolding keep
  each_keep nil = nil
  each_keep {P} (◌&◌ {x = x} {xs = xs} p h) = go (f x) refl (each_keep h)
    where
      go : (b : Bool) → f x ≡ b → Each (λ x. P x × So (f x)) (keep f xs) → Each (λ x. P x × So (f x)) (pick b (x ∷ keep f xs) (keep f xs))
      go true e k = (p, e) & k
      go false e k = k

  keep_rises : (key : A → ℕ) (xs : List A) → So (rising (map key xs)) → So (rising (map key (keep f xs)))
  unfolding keep rising
  keep_rises key [] t = refl
  keep_rises key (x ∷ xs) t = go (f x) (keep_rises key xs (and_right (every (ltb (key x)) (map key xs)) _ t))
    where
      above : Each (λ y. So (ltb (key x) (key y))) xs
      above = each_unmap key xs (every_elim (ltb (key x)) (map key xs) (and_left (every (ltb (key x)) (map key xs)) _ t))

      go : (b : Bool) → So (rising (map key (keep f xs))) → So (rising (map key (pick b (x ∷ keep f xs) (keep f xs))))
      go true k = unfold rising in and_intro (every_intro (ltb (key x)) (each_map key (each_imp (λ y h. h.0) (each_keep above)))) k
      go false k = k

rising-append : (xs ys : List ℕ) → So (rising xs) → So (rising ys) → Each (λ x. Each (λ y. x < y) ys) xs → So (rising (xs ++ ys))
unfolding rising
rising-append [] ys t s h = s
rising-append (x ∷ xs) ys t s (l & h) =
    and_intro (every_intro (ltb x) (each_append (every_elim (ltb x) xs (and_left (every (ltb x) xs) (rising xs) t)) (each_imp (λ y k. lt-ltb x y k) l)))
    (rising-append xs ys (and_right (every (ltb x) xs) (rising xs) t) s h)

-- ---- the members of a key

-- where no line before has it
behind : (k : ℕ) (xs ys : List Entry) → Each (λ e. k ≢ e.key) xs → members_at (xs ++ ys) k ≡ members_at ys k
unfolding members_at
behind k [] ys nil = refl
behind k (e ∷ xs) ys (d & h) = rw (ne_eqb k e.key d, members_at) (behind k xs ys h)

-- where no line behind has it
before : (k : ℕ) (xs ys : List Entry) → members_at ys k ≡ [] → members_at (xs ++ ys) k ≡ members_at xs k
unfolding members_at
before k [] ys q = q
before k (e ∷ xs) ys q = go (eqb k e.key) (before k xs ys q)
  where
    go : (b : Bool) → members_at (xs ++ ys) k ≡ members_at xs k → ◌≡◌ {A = List ℕ} (elim b [ true ↦ e.members | false ↦ members_at (xs ++ ys) k ]) (elim b [ true ↦ e.members | false ↦ members_at xs k ])
    go true h = refl
    go false h = h

-- where its lines are kept
kept : (k : ℕ) (f : ℕ → Bool) → So (f k) → (es : List Entry) → members_at (keep (λ e. f e.key) es) k ≡ members_at es k
unfolding keep members_at
kept k f t [] = refl
kept k f t (e ∷ es) = go (f e.key) (eqb k e.key) refl refl (kept k f t es)
  where
    go : (a b : Bool) → f e.key ≡ a → eqb k e.key ≡ b → members_at (keep (λ e. f e.key) es) k ≡ members_at es k
        → members_at (pick a (e ∷ keep (λ e. f e.key) es) (keep (λ e. f e.key) es)) k ≡ elim b [ true ↦ e.members | false ↦ members_at es k ]
    go true true p q h = rw (q, members_at)
    go true false p q h = rw (q, members_at) h
    go false true p q h = absurd (false≢true (sym p ∙ ap f (sym (eqb-true k e.key q)) ∙ t))
    go false false p q h = h

-- ---- the lines

module _ (n : ℕ) (ms : List ℕ) where
  each_entry : {P : Entry → Type 0} {es : List Entry} → (So (present ms) → P (record { key = n; members = ms })) → Each P es → Each P (with_entry n ms es)
  each_entry {P} {es} p h = go ms p
    where
      go : (ms : List ℕ) → (So (present ms) → P (record { key = n; members = ms })) → Each P (with_entry n ms es)
      go [] p = unfold with_entry in h
      go (m ∷ ms) p = unfold with_entry in p (unfold present in refl) & h

  entry_rises : (es : List Entry) → Each (λ e. n < e.key) es → So (rising (map key_of es)) → So (rising (map key_of (with_entry n ms es)))
  entry_rises es h t = go ms
    where
      go : (ms : List ℕ) → So (rising (map key_of (with_entry n ms es)))
      go [] = unfold with_entry in t
      go (m ∷ ms) = unfold with_entry rising in and_intro (every_intro (ltb n) (each_map key_of (each_imp (λ e l. lt-ltb n e.key l) h))) t

  module _ (es : List Entry) where
    abbrev under : List Entry
    under = keep (λ e. ltb e.key n) es

    abbrev over : List Entry
    over = keep (λ e. ltb n e.key) es

    under_low : Each (λ e. e.key < n) under
    under_low = each_imp (λ e h. ltb-true e.key n h.1) (each_keep (λ e. ltb e.key n) (each_all {P = λ e. Unit {0}} es (λ e. tt)))

    over_high : Each (λ e. n < e.key) over
    over_high = each_imp (λ e h. ltb-true n e.key h.1) (each_keep (λ e. ltb n e.key) (each_all {P = λ e. Unit {0}} es (λ e. tt)))

    -- what holds of the lines and of the new one
    pub each_with : {P : Entry → Type 0} → (So (present ms) → P (record { key = n; members = ms })) → Each P es → Each P (with_set n ms es)
    unfolding with_set
    each_with p h = each_append (each_imp (λ e k. k.0) (each_keep _ h)) (each_entry p (each_imp (λ e k. k.0) (each_keep _ h)))

    keys_rise : So (rising (map key_of es)) → So (rising (map key_of (with_set n ms es)))
    unfolding with_set
    keys_rise t =
        rw (map-append key_of under (with_entry n ms over))
        (rising-append (map key_of under) (map key_of (with_entry n ms over)) (keep_rises _ key_of es t) (entry_rises over over_high (keep_rises _ key_of es t))
        (each_map key_of (each_imp (λ e l. each_map key_of (each_entry {P = λ g. e.key < g.key} (λ _. l) (each_imp (λ g k. omega arith) over_high))) under_low)))

    pub with_rises : So (rising ms) → So (entries_rise es) → So (entries_rise (with_set n ms es))
    unfolding entries_rise
    with_rises up t =
        let shown = every_elim (λ e. present e.members && rising e.members) es (and_right (rising (map key_of es)) _ t) in
        and_intro (keys_rise (and_left (rising (map key_of es)) _ t)) (every_intro (λ e. present e.members && rising e.members) (each_with (λ p. and_intro p up) shown))

    -- the set of the name
    pub with_here : members_at (with_set n ms es) n ≡ ms
    unfolding with_set
    with_here = behind n under (with_entry n ms over) (each_imp (λ e l d. omega arith) under_low) ∙ members_here n ms over over_high

    -- the sets of the others
    pub with_other : (k : ℕ) → k ≢ n → members_at (with_set n ms es) k ≡ members_at es k
    unfolding with_set
    with_other k d =
        elim (dec_lt k n) [
          | yes l ↦ before k under (with_entry n ms over) (members_none k (with_entry n ms over) (each_entry {P = λ e. k ≢ e.key} (λ _. d) (each_imp (λ e h q. omega arith) over_high)))
              ∙ kept k (λ i. ltb i n) (lt-ltb k n l) es
          | no l ↦ behind k under (with_entry n ms over) (each_imp (λ e h q. omega arith) under_low) ∙ members_past n k ms over d ∙ kept k (ltb n) (lt-ltb n k (omega arith)) es
        ]
