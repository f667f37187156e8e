-- The first of all lines that names what it may not: of the flow lines, then of the comm lines, then of the claim lines.
use Prim.Native.Nat.{ℕ, ◌+◌, ◌≤◌}
use native.Mathlib.Omega.{arith}
use mathlib.Core.Bool.{Bool, true, false, not, ◌&&◌}
use mathlib.Core.List.{List, [], ◌∷◌}
use Rattle.std.specs.Prelude.{None as none, Some as some, Result, Ok, Err}
use Rattle.std.specs.Result.{result_err}
use mathlib.Core.Path.{◌≡◌, refl, ap, ap₂, fun_ext, sym, ◌∙◌}
use lib.ListN.{length, take, drop}
use lib.Dec.{eqb}
use Rattle.program.specs.Maybe.{◌<|>◌}
use Rattle.program.specs.Each.{every, collect, elem}
use Rattle.program.specs.Program.{Program, binders, chan_row}
use Rattle.format.specs.Limits.{row_limit}
use Rattle.format.specs.Text.{Bytes}
use Rattle.format.specs.Document.{Entry, Claim}
use Rattle.format.specs.Structure.{first_failing, member_allowed, flow_allowed, comm_allowed, claim_allowed, flow_line, comm_line, claim_line, not_allowed}
use Rattle.calls.specs.Layout.{rows_size, decode_sets, decode_claims, comms_start, claims_start}
use Rattle.calls.proofs.Codec.Sparse.{either}
use Rattle.store.specs.Rows.{store_program}
use Rattle.store.proofs.Laws.{program_length}
use Rattle.bounds.proofs.Bounds.{sets_few}
use Rattle.store.specs.Document.{store_document}
use Rattle.store.proofs.Document.{rows_are, flows_are, comms_are, claims_are}
use Rattle.seen.specs.Flags.{flag, Tells}
use Rattle.allowed_lines.specs.Lines.{marked, entry_marked, claim_marked, checked}

-- ---- what checking finds

module _ {A : Type 0} (ok : A → Bool) where
  pub checked_err : (line : ℕ) (xs : List A) → result_err (checked ok line xs) ≡ first_failing ok line xs
  unfolding checked first_failing
  checked_err line [] = refl
  checked_err line (x ∷ xs) = either (ok x) (λ e. rw (e, checked, first_failing) (checked_err (line + 1) xs)) (λ e. rw (e, checked, first_failing))

  pub checked_failing : (line : ℕ) (xs : List A) {l : ℕ} → Err l ≡ checked ok line xs → first_failing ok line xs ≡ some l
  checked_failing line xs h = sym (checked_err line xs) ∙ ap result_err (sym h)

  checked_end : (line : ℕ) (xs : List A) {n : ℕ} → checked ok line xs ≡ Ok n → n ≡ line + length xs
  unfolding checked
  checked_end line [] {n} h = let q : line ≡ n = cc in omega arith
  checked_end line (x ∷ xs) h =
      either (ok x)
      (λ e. let q = checked_end (line + 1) xs (rw (e, checked) at h) in omega arith)
      (λ e. let q : ◌≡◌ (Err line) (Ok _) = rw (e, checked) at h in let z : ◌≡◌ {A = ℕ} 0 1 = cc in absurd (omega arith))

  pub checked_all : (line : ℕ) (xs : List A) {n : ℕ} → Ok n ≡ checked ok line xs → (first_failing ok line xs ≡ none) × (n ≡ line + length xs)
  checked_all line xs h = (sym (checked_err line xs) ∙ ap result_err (sym h), checked_end line xs (sym h))

-- ---- flags that tell what may be named

tells_marked : {f : ℕ → Bool} {bs : Bytes} → Tells f bs → (n : ℕ) → marked bs n ≡ f n
tells_marked {f} {bs} h n = rw (h.at n) (go (f n))
  where
    go : (b : Bool) → not (eqb (flag b) 0) ≡ b
    go true = refl
    go false = refl

every_same : {f g : ℕ → Bool} → ((n : ℕ) → f n ≡ g n) → (xs : List ℕ) → every f xs ≡ every g xs
unfolding every
every_same h [] = refl
every_same h (x ∷ xs) = ap₂ ◌&&◌ (h x) (every_same h xs)

module _ (p : Program) {keys chans members : Bytes} (bound : Tells (λ n. elem n (collect binders p)) keys) (chan : Tells (chan_row p) chans) (allowed : Tells (member_allowed p) members) where
  flow_marked : entry_marked keys members ≡ flow_allowed p
  unfolding entry_marked flow_allowed
  flow_marked = fun_ext λ e. ap₂ ◌&&◌ (tells_marked bound e.key) (every_same (tells_marked allowed) e.members)

  comm_marked : entry_marked chans members ≡ comm_allowed p
  unfolding entry_marked comm_allowed
  comm_marked = fun_ext λ e. ap₂ ◌&&◌ (tells_marked chan e.key) (every_same (tells_marked allowed) e.members)

  claim_marked_lem : claim_marked chans ≡ claim_allowed p
  unfolding claim_marked claim_allowed
  claim_marked_lem = fun_ext λ c. tells_marked chan c.channel

-- ---- the first line that fails

module _ (n : ℕ) (s : Bytes) {keys chans members : Bytes}
    (bound : Tells (λ k. elem k (collect binders (store_program n s))) keys) (chan : Tells (chan_row (store_program n s)) chans) (allowed : Tells (member_allowed (store_program n s)) members)
  where
    abbrev pub flows : List Entry
    flows = decode_sets row_limit 0 (drop rows_size s)

    abbrev pub comms : List Entry
    comms = decode_sets row_limit 0 (drop (comms_start) s)

    abbrev pub claims : List Claim
    claims = decode_claims 0 (take row_limit (drop (claims_start) s))

    pub parts : not_allowed (store_document n s)
        ≡ (first_failing (entry_marked keys members) (n + 2) flows
        <|> first_failing (entry_marked chans members) (n + 2 + length flows) comms
        <|> first_failing (claim_marked chans) (n + 2 + length flows + length comms) claims)
    unfolding not_allowed claim_line comm_line flow_line
    parts =
        let p = store_program n s in
        rw (
          rows_are n s,
          flows_are n s,
          comms_are n s,
          claims_are n s,
          program_length n s,
          flow_marked p bound chan allowed,
          comm_marked p bound chan allowed,
          claim_marked_lem p bound chan allowed,
        )

    pub flow_fails : {l : ℕ} → Err l ≡ checked (entry_marked keys members) (n + 2) flows → some l ≡ not_allowed (store_document n s)
    unfolding ◌<|>◌
    flow_fails h = rw (parts, checked_failing _ _ _ h)

    module _ {c : ℕ} (flow : Ok c ≡ checked (entry_marked keys members) (n + 2) flows) where
      pub comm_line_lem : c ≤ n + 2 + row_limit
      comm_line_lem = let (f, q) = checked_all _ _ _ flow in omega (arith, sets_few row_limit 0 (drop rows_size s))

      pub comm_fails : {l : ℕ} → Err l ≡ checked (entry_marked chans members) c comms → some l ≡ not_allowed (store_document n s)
      unfolding ◌<|>◌
      comm_fails h = let (f, q) = checked_all _ _ _ flow in rw (parts, f, ← q, checked_failing _ _ _ h)

      module _ {k : ℕ} (comm : Ok k ≡ checked (entry_marked chans members) c comms) where
        pub claim_line_lem : k ≤ c + row_limit
        claim_line_lem = let (g, e) = checked_all _ _ _ comm in omega (arith, sets_few row_limit 0 (drop (comms_start) s))

        pub claims_decide : {z : Result ℕ ℕ} → z ≡ checked (claim_marked chans) k claims → result_err z ≡ not_allowed (store_document n s)
        unfolding ◌<|>◌
        claims_decide claim =
            let (f, q) = checked_all _ _ _ flow in
            let (g, e) = checked_all _ _ _ comm in
            rw (claim, parts, f, ← q, g, ← e) (checked_err _ _ _)
