-- Changes that add what a rule asks: a set joined to another, a member put in, and changes one after the other.
use Prim.Native.Nat.{ℕ, zero, suc, ◌+◌, ◌*◌, ◌-◌, ◌<◌, ◌≤◌}
use native.Mathlib.Omega.{arith}
use native.Mathlib.Decide.{dec_lt, ℕ_discrete as dec_eq}
use native.Mathlib.Numerals.{add-one}
use mathlib.Core.Bool.{Bool, true, false, ◌&&◌, ◌||◌, So, false≢true}
use mathlib.Core.Path.{◌≡◌, refl, sym, ap, ◌∙◌, subst, fun_ext}
use lib.ListN.{length, set, length-set}
use lib.Seq.{get_or-set_same, get_or-set_other}
use borrow.Author.Tests.{ne_eqb, lt-ltb, ltb-true}
use Rattle.program.specs.Test.{◌⇒◌, all}
use Rattle.program.specs.Program.{Program}
use Rattle.program.specs.Flow.{Abstract, row, Set, Table, lies}
use Rattle.program.proofs.Test.{and_left, and_right, and_intro, implies_elim, or_neither}
use Rattle.format.specs.Limits.{row_limit}
use Rattle.format.specs.Text.{Bytes, byte_at}
use Rattle.format.specs.Document.{member}
use Rattle.calls.specs.Layout.{member_limit, row_size, rows_size, store_size, flow_at}
use Rattle.calls.proofs.Codec.Sparse.{counting_same}
use Rattle.inference.specs.Inference.{abstract_of}
use Rattle.inference.proofs.Tables.{abstract_member}
use Rattle.store.specs.Rows.{store_row, store_program, cells_at}
use Rattle.store.proofs.Laws.{row_cells}
use Rattle.tables.specs.Tables.{store_flow, store_comm}
use Rattle.sets.specs.Sets.{lies_below, set_of}
use Rattle.sets.proofs.Members.{lies_at, lies_below_iff, set_full}
use Rattle.set_adds.specs.declared.Variable.{Variable}
use Rattle.set_adds.specs.Adding.{set_at, position_of, number_of, joined, Flags, Inside, Rule, Adds, Copied, Joined}
use Rattle.set_adds.proofs.Variables.{Has, has_iff, apart, behind_rows, before_claims, inside_iff}
use Rattle.set_adds.proofs.Joining.{zeros_fall}

-- ---- a set joined to another

joined_cases : (own other : ℕ) → 0 < joined own other → (own ≡ 0 → 0 < other)
unfolding joined
joined_cases zero other h e = h
joined_cases (suc own) other h e = absurd (omega arith)

joined_low : (own other : ℕ) → own < 2 → other < 2 → joined own other < 2
unfolding joined
joined_low zero other h k = k
joined_low (suc own) other h k = rw (ne_eqb (suc own) 0 (omega arith)) h

joined_same : (own other : ℕ) → own ≡ joined own other → 0 < other → 0 < own
unfolding joined
joined_same zero other e h = absurd (omega arith)
joined_same (suc own) other e h = omega arith

-- the bytes of a set that tables with the sets of the store have
module _ (rows : ℕ) (source : Table → Table → Set) (to : Variable) (part s s' : Bytes) (more : Bool) (few : rows ≤ row_limit) (low_to : number_of to < row_limit)
    (told : (flow comm : Table) → Inside flow comm s → (a : Abstract) → member a < rows + 1 → 0 < byte_at part (member a) → So (source flow comm a))
    (whole : (a : Abstract) → member a < rows + 1 → So (source (store_flow s) (store_comm s) a) → 0 < byte_at part (member a)) (low : Flags s → (i : ℕ) → i < rows + 1 → byte_at part i < 2)
    (j : Joined (position_of to) (rows + 1) part s s' more) where
  -- a member that is there afterwards was there, or is one of the other set
  joined_has : (p : Variable) (a : Abstract) → Has s' p a → (Has s p a → ⊥) → (p ≡ to) × (member a < rows + 1) × (0 < byte_at part (member a))
  joined_has p a h new =
      elim (dec_lt (position_of p + member a) (position_of to)) [
        | yes l ↦ absurd (new (record { low = h.low; few = h.few; byte = rw (j.before (position_of p + member a) l) at h.byte }))
        | no g ↦ elim (dec_lt (position_of p + member a) (position_of to + (rows + 1))) [
          | no k ↦ absurd (new (record { low = h.low; few = h.few; byte = rw (j.behind (position_of p + member a) (omega arith)) at h.byte }))
          | yes k ↦
              let i = position_of p + member a - position_of to in
              let e : position_of p + member a ≡ position_of to + i = omega arith in
              let (q, m) = apart p to (member a) i h.low low_to h.few (omega arith) e in
              let b : 0 < joined (byte_at s (position_of to + i)) (byte_at part i) = rw (e, j.joins i (omega arith)) at h.byte in
              let z : byte_at s (position_of to + i) ≡ 0 = elim (dec_eq (byte_at s (position_of to + i)) 0) [
                | yes y ↦ y
                | no n ↦ absurd (new (record { low = h.low; few = h.few; byte = rw e (omega arith) }))
              ] in
              (q, omega arith, rw m (joined_cases (byte_at s (position_of to + i)) (byte_at part i) b z))
        ]
      ]

  -- whether a member is there
  has? : (p : Variable) (a : Abstract) → Dec (Has s p a)
  has? p a = go (set_at p (store_flow s) (store_comm s) a) refl
    where
      go : (b : Bool) → set_at p (store_flow s) (store_comm s) a ≡ b → Dec (Has s p a)
      go true e = yes ((has_iff s p a).0 e)
      go false e = no (λ h. false≢true (sym e ∙ (has_iff s p a).1 h))

  joined_inside : (flow comm : Table) → So (lies_below rows (source flow comm) (set_at to flow comm)) → Inside flow comm s → Inside flow comm s'
  joined_inside flow comm t h =
      let old = (inside_iff flow comm s).0 h in
      (inside_iff flow comm s').1 λ p a k.
      elim (has? p a) [
        | yes y ↦ old p a y
        | no n ↦ (let (q, l, b) = joined_has p a k n in rw q ((lies_below_iff rows (source flow comm) (set_at to flow comm)).0 t a l (told flow comm h a l b)))
      ]

  joined_kept : more ≡ false → So (lies_below rows (source (store_flow s) (store_comm s)) (set_at to (store_flow s) (store_comm s)))
  joined_kept e = (lies_below_iff rows _ _).1 λ a l t.
      let same : byte_at s (position_of to + member a) ≡ joined (byte_at s (position_of to + member a)) (byte_at part (member a)) =
      ap (λ (x : Bytes). byte_at x (position_of to + member a)) (sym (j.still e)) ∙ j.joins (member a) l in
      (has_iff s to a).1 (record { low = low_to; few = omega arith; byte = joined_same _ (byte_at part (member a)) same (whole a l t) })

  joined_flags : Flags s → Flags s'
  unfolding Flags
  joined_flags h q l k =
      elim (dec_lt q (position_of to)) [
        | yes b ↦ rw (j.before q b) (h q l k)
        | no g ↦ elim (dec_lt q (position_of to + (rows + 1))) [
          | no b ↦ rw (j.behind q (omega arith)) (h q l k)
          | yes b ↦
              let i = q - position_of to in
              let e : q ≡ position_of to + i = omega arith in
              let x : byte_at s (position_of to + i) < 2 = rw e at (h q l k) in
              rw (e, j.joins i (omega arith)) (joined_low (byte_at s (position_of to + i)) (byte_at part i) x (low h i (omega arith)))
        ]
      ]

  joined_below : Adds (λ flow comm. lies_below rows (source flow comm) (set_at to flow comm)) s s' more
  joined_below = record {
    size = j.size;
    rows = λ q l. j.before q (omega (arith, behind_rows to));
    rest = λ q l. j.behind q (omega (arith, before_claims to low_to));
    flags = joined_flags;
    fewer = j.fewer;
    really = j.really;
    still = j.still;
    inside = joined_inside;
    kept = joined_kept;
  }

  joined_lies : Adds (λ flow comm. lies (store_program rows s) (source flow comm) (set_at to flow comm)) s s' more
  joined_lies = subst (λ rule. Adds rule s s' more) (fun_ext λ flow. fun_ext λ comm. lies_at rows s (source flow comm) (set_at to flow comm)) joined_below

-- a copy of another set of the store
pub joined_adds : (rows : ℕ) (from to : Variable) (part s s' : Bytes) (more : Bool) → rows ≤ row_limit → number_of from < row_limit → number_of to < row_limit
    → Copied (position_of from) (rows + 1) s part → Joined (position_of to) (rows + 1) part s s' more
    → Adds (λ flow comm. lies (store_program rows s) (set_at from flow comm) (set_at to flow comm)) s s' more
unfolding Flags
joined_adds rows from to part s s' more few low-from low_to copied j =
    joined_lies rows (set_at from) to part s s' more few low_to
    (λ flow comm h a l b. (inside_iff flow comm s).0 h from a (record { low = low-from; few = omega arith; byte = rw (copied.bytes (member a) l) at b }))
    (λ a l t. rw (copied.bytes (member a) l) ((has_iff s from a).0 t).byte)
    (λ h i l. rw (copied.bytes i l) (h (position_of from + i) (omega (arith, behind_rows from)) (omega (arith, before_claims from low-from)))) j

-- a set that is the same for all tables
pub set_adds : (rows : ℕ) (to : Variable) (part s s' : Bytes) (more : Bool) → rows ≤ row_limit → number_of to < row_limit → member_limit ≤ length part → ((i : ℕ) → byte_at part i < 2)
    → Joined (position_of to) (rows + 1) part s s' more → Adds (λ flow comm. lies (store_program rows s) (set_of part) (set_at to flow comm)) s s' more
set_adds rows to part s s' more few low_to size low j =
    joined_lies rows (λ flow comm. set_of part) to part s s' more few low_to (λ flow comm h a l b. rw (set_full part size) (lt-ltb 0 _ b)) (λ a l t. ltb-true 0 _ (rw (set_full part size) at t))
    (λ h i l. low i) j

-- ---- a member put into the set of a name

module _ (n m : ℕ) (s : Bytes) (size : store_size ≤ length s) (low : n < row_limit) (few : m < member_limit) where
  member_abstract : member (abstract_of m) ≡ m
  unfolding member abstract_of
  member_abstract = go m
    where
      go : (m : ℕ) → member (abstract_of m) ≡ m
      go zero = refl
      go (suc r) = refl

  name_has : 0 < byte_at s (flow_at n + m) → So (store_flow s n (abstract_of m))
  unfolding set_at position_of number_of
  name_has h = (has_iff s (Variable.Name n) (abstract_of m)).1 (record { low = low; few = rw member_abstract few; byte = rw member_abstract h })

  pub put_there : (byte_at s (flow_at n + m) ≡ 0 → ⊥) → Adds (λ flow comm. flow n (abstract_of m)) s s false
  put_there d = record {
    size = refl;
    rows = λ q l. refl;
    rest = λ q l. refl;
    flags = λ h. h;
    fewer = omega arith;
    really = λ e. absurd (false≢true e);
    still = λ e. refl;
    inside = λ flow comm t h. h;
    kept = λ e. name_has (omega arith);
  }

  put_has : (p : Variable) (a : Abstract) → Has (set s (flow_at n + m) 1) p a → (Has s p a → ⊥) → (p ≡ Variable.Name n) × (a ≡ abstract_of m)
  unfolding position_of number_of
  put_has p a h new =
      elim (dec_eq (position_of p + member a) (flow_at n + m)) [
        | yes e ↦ (let (q, i) = apart p (Variable.Name n) (member a) m h.low low h.few few e in (q, sym (abstract_member a) ∙ ap abstract_of i))
        | no d ↦ absurd (new (record { low = h.low; few = h.few; byte = rw (get_or-set_other s (flow_at n + m) (position_of p + member a) 1 0 d) at h.byte }))
      ]

  put_inside : (flow comm : Table) → So (flow n (abstract_of m)) → Inside flow comm s → Inside flow comm (set s (flow_at n + m) 1)
  unfolding set_at
  put_inside flow comm t h =
      let old = (inside_iff flow comm s).0 h in
      (inside_iff flow comm (set s (flow_at n + m) 1)).1 λ p a k. go p a k (old p a) (set_at p (store_flow s) (store_comm s) a) refl
    where
      go : (p : Variable) (a : Abstract) → Has (set s (flow_at n + m) 1) p a → (Has s p a → So (set_at p flow comm a)) → (b : Bool) → set_at p (store_flow s) (store_comm s) a ≡ b
          → So (set_at p flow comm a)
      go p a k old true e = old ((has_iff s p a).0 e)
      go p a k old false e = let (q, i) = put_has p a k (λ h. false≢true (sym e ∙ (has_iff s p a).1 h)) in rw (q, i) t

  pub put_new : byte_at s (flow_at n + m) ≡ 0 → Adds (λ flow comm. flow n (abstract_of m)) s (set s (flow_at n + m) 1) true
  unfolding Flags
  put_new e =
      let falls = zeros_fall s (flow_at n + m) 1 (omega arith) e (omega arith) in
      record {
        size = length-set s (flow_at n + m) 1;
        rows = λ q l. get_or-set_other s (flow_at n + m) q 1 0 (λ i. omega arith);
        rest = λ q l. get_or-set_other s (flow_at n + m) q 1 0 (λ i. omega arith);
        flags = λ h q l k. elim (dec_eq q (flow_at n + m)) [
          | yes i ↦ rw (i, get_or-set_same s (flow_at n + m) 1 0 (omega arith)) (omega arith)
          | no d ↦ rw (get_or-set_other s (flow_at n + m) q 1 0 d) (h q l k)
        ];
        fewer = omega arith;
        really = λ t. omega arith;
        still = λ t. absurd (false≢true (sym t));
        inside = put_inside;
        kept = λ t. absurd (false≢true (sym t));
      }

-- ---- one change after the other

-- a number that stays or falls, and falls where something was added, twice
pub falls_then : {x y z : ℕ} → y ≤ x → z ≤ y → (a b : Bool) → (a ≡ true → y < x) → (b ≡ true → z < y) → (a || b) ≡ true → z < x
falls_then h k true b f g e = omega (arith, f refl)
falls_then h k false b f g e = omega (arith, g e)

pub adds_none : (rule : Rule) (s : Bytes) → ((flow comm : Table) → So (rule flow comm)) → Adds rule s s false
adds_none rule s h = record {
  size = refl;
  rows = λ q l. refl;
  rest = λ q l. refl;
  flags = λ h. h;
  fewer = omega arith;
  really = λ e. absurd (false≢true e);
  still = λ e. refl;
  inside = λ flow comm t i. i;
  kept = λ e. h _ _;
}

-- a rule that asks what two others ask
module _ (rule first second : Rule) (there : (flow comm : Table) → So (rule flow comm) → So (first flow comm) × So (second flow comm))
    (back : (flow comm : Table) → So (first flow comm) → So (second flow comm) → So (rule flow comm)) where
  pub adds_both : {s₀ s₁ s₂ : Bytes} {a b : Bool} → Adds first s₀ s₁ a → Adds second s₁ s₂ b → Adds rule s₀ s₂ (a || b)
  adds_both {s₀} {s₁} {s₂} {a} {b} h k = record {
    size = k.size ∙ h.size;
    rows = λ q l. k.rows q l ∙ h.rows q l;
    rest = λ q l. k.rest q l ∙ h.rest q l;
    flags = λ f. k.flags (h.flags f);
    fewer = omega (arith, h.fewer, k.fewer);
    really = falls_then h.fewer k.fewer a b h.really k.really;
    still = λ e. let (i, j) = or_neither a b e in k.still j ∙ h.still i;
    inside = λ flow comm t i. k.inside flow comm (there flow comm t).1 (h.inside flow comm (there flow comm t).0 i);
    kept = λ e. let (i, j) = or_neither a b e in back _ _ (h.kept i) (rw (h.still i) at (k.kept j));
  }

pub adds_then : {first second : Rule} {s₀ s₁ s₂ : Bytes} {a b : Bool} → Adds first s₀ s₁ a → Adds second s₁ s₂ b → Adds (λ flow comm. first flow comm && second flow comm) s₀ s₂ (a || b)
adds_then {first} {second} h k = adds_both _ first second (λ flow comm t. (and_left _ _ t, and_right (first flow comm) _ t)) (λ flow comm t i. and_intro t i) h k

-- a rule that tables with the sets of the store have if they have another, and that holds of the store if the other does
pub adds_told : {rule rule' : Rule} {s s' : Bytes} {more : Bool} → ((flow comm : Table) → So (rule' flow comm) → Inside flow comm s → So (rule flow comm))
    → (So (rule (store_flow s) (store_comm s)) → So (rule' (store_flow s) (store_comm s))) → Adds rule s s' more → Adds rule' s s' more
adds_told told back h = record {
  size = h.size;
  rows = h.rows;
  rest = h.rest;
  flags = h.flags;
  fewer = h.fewer;
  really = h.really;
  still = h.still;
  inside = λ flow comm r i. h.inside flow comm (told flow comm r i) i;
  kept = λ e. back (h.kept e);
}

-- a rule for what is in a set
pub adds_member : {rule : Rule} {s s' : Bytes} {more : Bool} (n k : ℕ) → store_flow s n (row k) ≡ true → Adds rule s s' more → Adds (λ flow comm. flow n (row k) ⇒ rule flow comm) s s' more
unfolding Inside
adds_member {rule} n k t h = adds_told (λ flow comm r i. implies_elim (rule flow comm) r (i.0 n (row k) t)) (λ r. rw t r) h

pub adds_other : (rule : Rule) (s : Bytes) (n k : ℕ) → store_flow s n (row k) ≡ false → Adds (λ flow comm. flow n (row k) ⇒ rule flow comm) s s false
adds_other rule s n k t = record {
  size = refl;
  rows = λ q l. refl;
  rest = λ q l. refl;
  flags = λ h. h;
  fewer = omega arith;
  really = λ e. absurd (false≢true e);
  still = λ e. refl;
  inside = λ flow comm r i. i;
  kept = λ e. rw t;
}

-- ---- the program stays

row_stays : (s s' : Bytes) → ((q : ℕ) → q < rows_size → byte_at s' q ≡ byte_at s q) → (r : ℕ) → r < row_limit → store_row s' r ≡ store_row s r
unfolding cells_at
row_stays s s' h r l =
    let p = r * row_size in
    row_cells s' r
    ∙ rw (
      h p (omega arith),
      h (p + 1) (omega arith),
      h (p + 2) (omega arith),
      h (p + 3) (omega arith),
      h (p + 4) (omega arith),
      h (p + 5) (omega arith),
      h (p + 6) (omega arith),
      h (p + 7) (omega arith),
    )
    (sym (row_cells s r))

pub rows_same : (rows : ℕ) (s s' : Bytes) → rows ≤ row_limit → ((q : ℕ) → q < rows_size → byte_at s' q ≡ byte_at s q) → store_program rows s' ≡ store_program rows s
unfolding store_program
rows_same rows s s' few h = counting_same rows 0 (store_row s') (store_row s) (λ r i l. row_stays s s' h r (omega arith))

pub program_stays : (rows : ℕ) {rule : Rule} {s s' : Bytes} {more : Bool} → rows ≤ row_limit → Adds rule s s' more → store_program rows s' ≡ store_program rows s
program_stays rows {s = s} {s'} few h = rows_same rows s s' few h.rows

-- ---- the rows in turn

pub adds_first : (rule : ℕ → Rule) (s : Bytes) → Adds (λ flow comm. all 0 (λ i. rule i flow comm)) s s false
unfolding all
adds_first rule s = adds_none _ s (λ flow comm. refl)

-- one row more, whose rule is that of the program as it stands then
pub adds_next : (rows k : ℕ) (rule : Program → ℕ → Rule) {s₀ s₁ s₂ : Bytes} {a b : Bool} → rows ≤ row_limit
    → Adds (λ flow comm. all k (λ i. rule (store_program rows s₀) i flow comm)) s₀ s₁ a → Adds (rule (store_program rows s₁) k) s₁ s₂ b
    → Adds (λ flow comm. all (k + 1) (λ i. rule (store_program rows s₀) i flow comm)) s₀ s₂ (a || b)
unfolding all
adds_next rows k rule {s₀} few h g =
    let e = program_stays rows few h in
    rw add-one (adds_both _ (λ flow comm. all k (λ i. rule (store_program rows s₀) i flow comm)) (rule (store_program rows s₀) k)
    (λ flow comm t. (and_right (rule (store_program rows s₀) k flow comm) _ t, and_left _ _ t)) (λ flow comm t i. and_intro i t) h (rw e at g))

-- the same rule in other words
pub adds_as : (rule rule' : Rule) {s s' : Bytes} {more : Bool} → ((flow comm : Table) → rule flow comm ≡ rule' flow comm) → Adds rule s s' more → Adds rule' s s' more
adds_as rule rule' {s} {s'} {more} e h = subst (λ (r : Rule). Adds r s s' more) (fun_ext λ flow. fun_ext λ comm. e flow comm) h

-- two changes, the second by the program as it stands then
pub adds_after : (rows : ℕ) {first : Rule} (second : Program → Rule) {s₀ s₁ s₂ : Bytes} {a b : Bool} → rows ≤ row_limit
    → Adds first s₀ s₁ a → Adds (second (store_program rows s₁)) s₁ s₂ b → Adds (λ flow comm. first flow comm && second (store_program rows s₀) flow comm) s₀ s₂ (a || b)
adds_after rows second few h k = adds_then h (rw (program_stays rows few h) at k)
