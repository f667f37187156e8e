-- In a store that opens only bound names have flow sets, and only chan rows comm sets.
use Rattle.std.specs.Prelude.{Ok}
use Prim.Native.Nat.{ℕ, ◌+◌, ◌≤◌}
use native.Mathlib.Omega.{arith}
use mathlib.Core.Bool.{Bool, true, So}
use mathlib.Core.List.{List, [], ◌∷◌}
use mathlib.Core.Path.{◌≡◌, refl, sym, ap, ◌∙◌, subst}
use lib.ListN.{length, take, drop}
use lib.Seq.{drop-drop}
use borrow.Author.Tests.{ne_eqb}
use Rattle.program.specs.Each.{Each, nil, ◌&◌, collect, elem}
use Rattle.program.specs.Program.{Program, binders, chan_row}
use Rattle.program.proofs.Test.{and_left}
use Rattle.format.specs.Limits.{row_limit}
use Rattle.format.specs.Text.{Bytes, byte_at}
use Rattle.format.specs.Document.{Entry, members_at}
use Rattle.format.specs.Structure.{flow_allowed, comm_allowed}
use Rattle.format.proofs.Structure.{lines_allowed, faultless_of}
use Rattle.calls.specs.Layout.{rows_size, sets_size, comms_start, store_size, decode_sets, decode}
use Rattle.calls.specs.Calls.{opened}
use Rattle.calls.proofs.Calls.{opened_is}
use Rattle.calls.proofs.Canonical.Sets.{set_again}
use Rattle.calls.proofs.Canonical.Rows.{count_rows-le}
use Rattle.store.specs.Rows.{store_program}
use Rattle.store.proofs.Document.{rows_decode}
use Rattle.seen.specs.Flags.{flag, Tells}
use Rattle.seen.specs.Seen.{Marks}
use Rattle.opening.specs.Opening.{OpenedIs}
use Rattle.opening.proofs.Opening.{opens_is}
use Rattle.write_sets.specs.Keys.{Keyed, StoreKeys}

-- a key that no line has
unlisted : (es : List Entry) (n : ℕ) → Each (λ e. n ≡ e.key → ⊥) es → members_at es n ≡ []
unfolding members_at
unlisted [] n nil = refl
unlisted (e ∷ es) n (h & hs) = rw (ne_eqb n e.key h, members_at) (unlisted es n hs)

module _ (f : ℕ → Bool) (keys : Bytes) (t : Tells f keys) where
  other_key : (es : List Entry) (n : ℕ) → byte_at keys n ≡ 0 → Each (λ e. f e.key ≡ true) es → Each (λ e. n ≡ e.key → ⊥) es
  other_key [] n z nil = nil
  other_key (e ∷ es) n z (h & hs) =
      (λ q. let one : byte_at keys n ≡ 1 = ap (byte_at keys) q ∙ t.at e.key ∙ ap flag h in absurd (omega (arith, one, z))) & other_key es n z hs

  keyed : (sets : Bytes) → row_limit ≤ length keys → Each (λ e. f e.key ≡ true) (decode_sets row_limit 0 sets) → Keyed keys sets
  keyed sets size all =
      record {
        size = size;
        empty = λ n l z.
            let q : 0 + n ≡ n = omega arith in
            sym (rw q at (set_again row_limit 0 sets n l)) ∙ unlisted (decode_sets row_limit 0 sets) n (other_key (decode_sets row_limit 0 sets) n z all);
      }

-- what is allowed has its key
flow_keys : (p : Program) (es : List Entry) → Each (λ e. So (flow_allowed p e)) es → Each (λ e. elem e.key (collect binders p) ≡ true) es
unfolding flow_allowed
flow_keys p [] nil = nil
flow_keys p (e ∷ es) (h & hs) = and_left (elem e.key (collect binders p)) _ h & flow_keys p es hs

comm_keys : (p : Program) (es : List Entry) → Each (λ e. So (comm_allowed p e)) es → Each (λ e. chan_row p e.key ≡ true) es
unfolding comm_allowed
comm_keys p [] nil = nil
comm_keys p (e ∷ es) (h & hs) = and_left (chan_row p e.key) _ h & comm_keys p es hs

module _ (store : Bytes) (n : ℕ) (h : OpenedIs (opened store) (take store_size store) (Ok n)) where
  abbrev fixed : Bytes
  fixed = take store_size store

  pub few_rows : n ≤ row_limit
  few_rows = omega (arith, (opens_is fixed (opened store) n h).1, count_rows-le row_limit fixed)

  pub store_keys : (names chans : Bytes) → Marks (collect binders (store_program n fixed)) names → Tells (chan_row (store_program n fixed)) chans → row_limit ≤ length chans
      → StoreKeys names chans fixed
  unfolding decode
  store_keys names chans m t size =
      let (e, count) = opens_is fixed (opened store) n h in
      let (f, c, l) = lines_allowed (decode fixed) (faultless_of (decode fixed) (opened_is store (decode fixed) e).well) in
      let rows : (decode fixed).rows ≡ store_program n fixed = rows_decode fixed n count in
      let f' = subst (λ (p : Program). Each (λ x. So (flow_allowed p x)) (decode fixed).flows) rows f in
      let c' = subst (λ (p : Program). Each (λ x. So (comm_allowed p x)) (decode fixed).comms) rows c in
      record {
        flows = keyed _ names m.tells (drop rows_size fixed) (omega (arith, m.size)) (flow_keys (store_program n fixed) _ f');
        comms = keyed _ chans t (drop comms_start fixed) size (comm_keys (store_program n fixed) _ (rw (drop-drop sets_size rows_size fixed) at c'));
      }
